-- What a turn of each loop does: a word more of a set function, or a part more joined. Assumes nothing.
use mathlib.Core.Path.{◌≡◌, refl, sym, ap, ap₂, ◌∙◌}
use mathlib.Core.Bool.{Bool, true, false, not, ◌||◌}
use mathlib.Core.List.{List, ◌++◌}
use Prim.Native.Nat.{ℕ, ◌+◌, ◌-◌, ◌*◌, ◌%◌, ◌^◌, ◌<◌, min}
use native.Mathlib.Nat.{one-mul, mod-eq_of_lt}
use native.Mathlib.Omega.{arith}
use lib.ListN.{length, get_or, take, drop, replicate, length-replicate, get_or-replicate, get_or-eq_default}
use lib.Pow.{pow_pos, pow-lt}
use lib.Seq.{get_or-take, length-take-le}
use mir.Syntax.{w64}
use mir.Val.{Fits}
use Rattle.numbers.proofs.Tables.{tabulate_unique, filled_rest}
use Rattle.theory_sets.specs.Masks.{meet, join}
use Rattle.theory_sets.specs.Tables.{packed}
use Rattle.theory_sets.specs.Idle.{idle}
use Rattle.theory_sets.proofs.Tables.{packed_less, packed_more}
use Rattle.structure_words.specs.Words.{in_words, word_of, words_of}
use Rattle.structure_words.proofs.Words.{word_is, word_of_or, word_of_not, word_of_but, any_word_none, any_word_more}
use Rattle.structure_closure.specs.Closure.{without, spare, spread, irredundant}
use Rattle.structure_closure.specs.Inside.{with, failing_above}
use Rattle.structure_closure.proofs.Walks.{spread_more}

-- ---- a word more

module _ (words : List ℕ) (at word other : ℕ) (read : word ≡ get_or words at 0) (fits : word < 2 ^ 64) where
  -- the sets that work, joined with those that work without the part
  pub carried_word : (part : ℕ) → other ≡ word_of (without part (in_words words)) at → join word other ≡ word_of (λ a. in_words words a || without part (in_words words) a) at
  carried_word part e =
      ap₂ (λ (x y : ℕ). join x y) (word_is words at word read fits) e ∙ word_of_or (in_words words) (without part (in_words words)) at

  -- the sets that work, without those that work without a part
  pub irredundant_word : (parts : ℕ) → other ≡ word_of (spare parts (in_words words)) at → meet word (2 ^ 64 - 1 - other) ≡ word_of (irredundant parts (in_words words)) at
  unfolding irredundant
  irredundant_word parts e = word_of_but (in_words words) (spare parts (in_words words)) at word other (word_is words at word read fits) e

-- ---- a part more

pub spread_turn : (works : ℕ → Bool) (part : ℕ) (now next : List ℕ) → now ≡ words_of (spread part works)
    → next ≡ words_of (λ a. in_words now a || without part (in_words now) a) → next ≡ words_of (spread (part + 1) works)
spread_turn works part now next so e =
    e ∙ ap (λ (words : List ℕ). words_of (λ a. in_words words a || without part (in_words words) a)) so ∙ spread_more works part

module _ (works : ℕ → Bool) (at : ℕ) where
  pub spare_none : 0 ≡ word_of (spare 0 works) at
  spare_none = any_word_none (λ p a. without p works a) at

  pub spare_turn : (part some next : ℕ) → some ≡ word_of (spare part works) at → next ≡ word_of (without part works) at
      → join some next ≡ word_of (spare (part + 1) works) at
  spare_turn part some next = any_word_more (λ p a. without p works a) at part some next

  pub failing_none : 0 ≡ word_of (failing_above 0 works) at
  failing_none = any_word_none (λ p a. not (with p works a)) at

  pub failing_turn : (part some next : ℕ) → some ≡ word_of (failing_above part works) at → next ≡ word_of (with part works) at
      → join some (2 ^ 64 - 1 - next) ≡ word_of (failing_above (part + 1) works) at
  failing_turn part some next so e =
      any_word_more (λ p a. not (with p works a)) at part some (2 ^ 64 - 1 - next) so
      (ap (λ (w : ℕ). 2 ^ 64 - 1 - w) e ∙ word_of_not (with part works) at)

module _ (works : ℕ → Bool) (part mask : ℕ) (so : mask ≡ packed part (idle 16 works)) where
  pub idle_turn : true ≡ idle 16 works part → part < 64 → join mask (1 * 2 ^ part % 2 ^ 64) ≡ packed (part + 1) (idle 16 works)
  idle_turn e low =
      let bit : 1 * 2 ^ part % 2 ^ 64 ≡ 2 ^ part = ap (λ (x : ℕ). x % 2 ^ 64) (one-mul (2 ^ part)) ∙ mod-eq_of_lt (pow-lt low) in
      ap₂ join so bit ∙ packed_more part (idle 16 works) (sym e)

  pub busy_turn : false ≡ idle 16 works part → mask ≡ packed (part + 1) (idle 16 works)
  busy_turn e = so ∙ packed_less part (idle 16 works) (sym e)

pub idle_none : (works : ℕ → Bool) → 0 ≡ packed 0 (idle 16 works)
unfolding packed
idle_none works = refl

-- ---- the words in an array of their own: those that are there, and 0 for each that is lacking

pub copied_words : (words new : List ℕ) (held : ℕ) → held ≡ min (length words) 1024 → new ≡ take held words → ((i : ℕ) → Fits w64 (get_or words i 0))
    → new ++ drop held (replicate 1024 0) ≡ words_of (in_words words)
copied_words words new held all is fits =
    ap (λ (front : List ℕ). front ++ drop held (replicate 1024 0))
    (tabulate_unique held (word_of (in_words words)) new 0 (ap length is ∙ length-take-le held words (omega arith)) (λ j h.
    let read : get_or new j 0 ≡ get_or words j 0 = ap (λ (xs : List ℕ). get_or xs j 0) is ∙ get_or-take held words j 0 h in
    word_is words j (get_or new j 0) read (rw read (fits j).fits)))
    ∙ filled_rest (word_of (in_words words)) (replicate 1024 0) held 1024 (length-replicate {A = ℕ} 1024 0) (omega arith) (λ j l h.
    let lacking : get_or (replicate 1024 0) j 0 ≡ 0 = get_or-replicate 1024 j 0 0 h in
    sym (word_is words j (get_or (replicate 1024 0) j 0) (lacking ∙ sym (get_or-eq_default words 0 (omega arith))) (rw lacking (pow_pos 64))))
