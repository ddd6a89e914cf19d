-- What the words give: the cut sets, the minimal ones among them, and the bytes of the dual's table and of a cut list's table.
-- Assumes nothing.
use mathlib.Core.Path.{◌≡◌, sym, ap, ◌∙◌}
use mathlib.Core.Bool.{Bool, ◌&&◌}
use mathlib.Core.List.{List}
use Prim.Native.Nat.{ℕ, ◌^◌, ◌≤◌, min}
use native.Mathlib.Nat.{lt_of_lt_of_le}
use lib.Dec.{ltb}
use lib.Pow.{pow_mono}
use borrow.Author.Tests.{lt-ltb}
use Rattle.theory_sets.specs.Masks.{those}
use Rattle.theory_sets.specs.Structures.{Semicoherent, listed}
use Rattle.theory_sets.specs.Tables.{table_of, table_length}
use Rattle.theory_sets.proofs.Structures.{semicoherent_same, minimal_sets_same}
use Rattle.theory_sets.proofs.Tables.{table_of_same}
use Rattle.theory_cuts.specs.Cuts.{cut, minimal_cuts, by_cuts, dual}
use Rattle.theory_cuts.proofs.Cuts.{dual_is_cut, cut_same, cut_semicoherent}
use Rattle.structure_words.specs.Words.{in_words, words_of, bytes_in, among}
use Rattle.structure_words.proofs.Words.{in_words_words_of, words_of_same}
use Rattle.structure_closure.specs.Closure.{spread, irredundant}
use Rattle.structure.proofs.Acceptance.{AcceptedList}
use Rattle.structure.proofs.Walks.{minimal_words, words_table, listed_words}
use Rattle.structure_cuts.specs.Inside.{cuts_within}
use Rattle.structure_cuts.proofs.CutWords.{cuts_here, cuts_nowhere}

-- the cut sets of a structure that the words hold
held_cuts : (n : ℕ) (works : ℕ → Bool) → n ≤ 16 → words_of (cuts_within n (in_words (words_of works))) ≡ words_of (cuts_within n works)
held_cuts n works few =
    words_of_same (cuts_within n (in_words (words_of works))) (cuts_within n works) (λ a h.
    ap (λ (t : Bool). ltb a (2 ^ n) && t)
    (cut_same n (in_words (words_of works)) works (λ b l. in_words_words_of works b (lt_of_lt_of_le l (pow_mono few))) a))

module _ (n : ℕ) (works : ℕ → Bool) (few : n ≤ 16) where
  pub minimal_cut_words : Semicoherent n works
      → those (in_words (words_of (irredundant (min n 16) (in_words (words_of (cuts_within n (in_words (words_of works)))))))) 65536 ≡ minimal_cuts n works
  minimal_cut_words coherent =
      ap (λ (words : List ℕ). those (in_words (words_of (irredundant (min n 16) (in_words words)))) 65536) (held_cuts n works few)
      ∙ minimal_words n (cuts_within n works) few
      (semicoherent_same n (cut n works) (cuts_within n works) (λ a h. sym (cuts_here n works a h)) (cut_semicoherent n works coherent))
      (cuts_nowhere n works)
      ∙ minimal_sets_same n (cuts_within n works) (cut n works) (cuts_here n works)

  pub dual_words : bytes_in (table_length n) (words_of (cuts_within n (in_words (words_of works)))) ≡ table_of n (dual n works)
  dual_words =
      ap (bytes_in (table_length n)) (held_cuts n works few) ∙ words_table n (cut n works) few
      ∙ table_of_same n (cut n works) (dual n works) (λ a h. sym (dual_is_cut n works a h))

-- the sets that hold a listed one are the cut sets; what these cut in turn are the path sets, which give the list's table
pub cut_list_words : (n : ℕ) (list : List ℕ) → AcceptedList n list
    → bytes_in (table_length n) (words_of (cuts_within n (in_words (words_of (spread (min n 16) (in_words (words_of (among list)))))))) ≡ table_of n (by_cuts n list)
unfolding by_cuts cut
cut_list_words n list l =
    ap (λ (words : List ℕ). bytes_in (table_length n) (words_of (cuts_within n (in_words words)))) (listed_words n list l.few (λ a m. (l.sets a m).0))
    ∙ ap (bytes_in (table_length n)) (held_cuts n reached l.few ∙ words_of_same (cuts_within n reached) (cuts_within n (listed list)) (λ a h.
    ap (λ (t : Bool). ltb a (2 ^ n) && t) (cut_same n reached (listed list) (λ b k. ap (λ (t : Bool). t && listed list b) (lt-ltb b (2 ^ n) k)) a)))
    ∙ words_table n (cut n (listed list)) l.few
  where
    reached : ℕ → Bool
    reached a = ltb a (2 ^ n) && listed list a
