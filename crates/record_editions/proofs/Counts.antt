-- The fresh path counts of a design: how many they are, that none is above 12,870, and that the words of its structure give them.
-- Assumes nothing.
use mathlib.Core.Path.{◌≡◌, ap, ◌∙◌}
use mathlib.Core.Bool.{Bool, ◌&&◌}
use mathlib.Core.List.{List}
use Prim.Native.Nat.{ℕ, zero, suc, ◌+◌, ◌*◌, ◌^◌, ◌≤◌}
use native.Mathlib.Nat.{le_trans}
use native.Mathlib.Omega.{arith}
use borrow.Author.Tests.{lt-ltb, le-ltb}
use lib.Dec.{ltb}
use lib.ListN.{length, take, length-append}
use Rattle.numbers.specs.Tables.{tabulate}
use Rattle.numbers.proofs.Tables.{tabulate_length, tabulate_same, take_tabulate}
use Rattle.theory_sets.specs.Structures.{listed}
use Rattle.theory_orders.specs.Formulas.{path_count}
use Rattle.theory_figures.proofs.Sizes.{path_count_most}
use Rattle.theory_figures.proofs.Ranges.{choose_few}
use Rattle.codec.specs.declared.Field.TheVariants.{Count}
use Rattle.codec.specs.ByteForm.{bytes_of, forms_of}
use Rattle.codec.proofs.ByteForms.{bytes_at_most}
use Rattle.codec.proofs.FieldReads.{AllAllowed}
use Rattle.structure_words.specs.Words.{in_words}
use Rattle.structure_words.proofs.Words.{in_words_words_of}
use Rattle.figures_counts.proofs.Sizes.{path_count_near}
use Rattle.theory_orders.proofs.Agreeing.{path_count_same}
use Rattle.record.specs.Contents.{structure_words}
use Rattle.record.specs.Records.{Design}
use Rattle.record_editions.specs.Editions.{fresh_counts}

-- n + 1 of them
pub fresh_length : (d : Design) → length (fresh_counts d) ≡ d.parts.count + 1
unfolding fresh_counts
fresh_length d = tabulate_length (d.parts.count + 1) (path_count d.parts.count (listed d.sets))

count_few : (n : ℕ) (works : ℕ → Bool) (j : ℕ) → n ≤ 16 → path_count n works j ≤ 12870
count_few n works j few = le_trans (path_count_most n works j) (choose_few n j few)

-- so each takes two bytes at the most
allowed : (n : ℕ) (f : ℕ → ℕ) → ((j : ℕ) → f j ≤ 12870) → AllAllowed Count (tabulate n f)
unfolding tabulate
allowed zero f small = tt
allowed (suc n) f small = (omega (arith, small 0), allowed n (λ i. f (suc i)) (λ j. small (suc j)))

pub fresh_allowed : (d : Design) → d.parts.count ≤ 16 → AllAllowed Count (fresh_counts d)
unfolding fresh_counts
fresh_allowed d few = allowed (d.parts.count + 1) (path_count d.parts.count (listed d.sets)) (λ j. count_few d.parts.count (listed d.sets) j few)

forms_short : (n : ℕ) (f : ℕ → ℕ) → ((j : ℕ) → f j ≤ 12870) → length (forms_of (tabulate n f)) ≤ 2 * n
unfolding tabulate forms_of
forms_short zero f small = omega arith
forms_short (suc n) f small =
    let here = bytes_at_most 2 (f 0) (omega arith) (omega (arith, small 0)) in
    omega (arith, here, length-append (bytes_of (f 0)) (forms_of (tabulate n (λ i. f (suc i)))), forms_short n (λ i. f (suc i)) (λ j. small (suc j)))

pub fresh_short : (d : Design) → d.parts.count ≤ 16 → length (forms_of (fresh_counts d)) ≤ 2 * (d.parts.count + 1)
unfolding fresh_counts
fresh_short d few = forms_short (d.parts.count + 1) (path_count d.parts.count (listed d.sets)) (λ j. count_few d.parts.count (listed d.sets) j few)

-- the words of a structure of n parts, counted as those of 16 parts, give the path counts of n parts
pub word_counts_lem : (n : ℕ) (sets : List ℕ) → n ≤ 16 → take (n + 1) (tabulate 17 (path_count 16 (in_words (structure_words n sets)))) ≡ tabulate (n + 1) (path_count n (listed sets))
word_counts_lem n sets few =
    take_tabulate (n + 1) 17 (path_count 16 (in_words (structure_words n sets))) (omega arith)
    ∙ tabulate_same (n + 1) (path_count 16 (in_words (structure_words n sets))) (path_count n (listed sets)) (λ j h.
    path_count_same 16 (in_words (structure_words n sets)) inside (λ a l. in_words_words_of inside a l) j
    ∙ path_count_near n inside few (λ a above. ap (λ (b : Bool). b && listed sets a) (le-ltb a (2 ^ n) above)) j
    ∙ path_count_same n inside (listed sets) (λ a l. ap (λ (b : Bool). b && listed sets a) (lt-ltb a (2 ^ n) l)) j)
  where
    inside : ℕ → Bool
    inside a = ltb a (2 ^ n) && listed sets a
