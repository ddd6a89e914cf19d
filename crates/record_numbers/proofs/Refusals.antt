-- The refusals of a part list along a walk over its numbers: a right number is passed, a wrong one refuses, and behind the last the mark is
-- judged.
-- Assumes nothing.
use mathlib.Core.Path.{◌≡◌}
use mathlib.Core.Bool.{true, false}
use mathlib.Core.List.{List}
use Prim.Native.Nat.{ℕ, ◌+◌, ◌≤◌, ◌<◌}
use native.Mathlib.Nat.{pos_of_ne-zero}
use native.Mathlib.Numerals.{add-one}
use lib.Dec.{ltb}
use lib.ListN.{length, drop, get_or}
use lib.Seq.{drop-cons, drop-length}
use Rattle.std.specs.Prelude.{Ok, Err}
use Rattle.answer.specs.declared.Reason.TheVariants.{WrongPartNumber}
use Rattle.answer.specs.Outcome.{at, refuse}
use Rattle.answer.proofs.Checks.{parts_passed}
use Rattle.record_numbers.specs.Numbering.{most_parts, top_number, misnumbered, numbers_refusal, part_list_refusal}

-- a count of 1 to 16 leaves the judgement to the numbers
pub refusal_counted : (count mark : ℕ) (numbers : List ℕ) → (count ≡ 0 → ⊥) → count ≤ most_parts → part_list_refusal count mark numbers ≡ numbers_refusal 0 mark 0 numbers
unfolding part_list_refusal
refusal_counted count mark numbers some few = parts_passed 0 count (numbers_refusal 0 mark 0 numbers) (pos_of_ne-zero some) few

module _ (numbers : List ℕ) (mark previous index : ℕ) (h : index < length numbers) where
  -- a right number is passed
  pub refusal_past : misnumbered previous mark (get_or numbers index 0) ≡ false → numbers_refusal previous mark index (drop index numbers) ≡ numbers_refusal (get_or numbers index 0) mark (index + 1) (drop (index + 1) numbers)
  refusal_past e = rw (drop-cons numbers index 0, add-one) (simp e)

  -- a wrong one refuses, at its index
  pub refusal_here : misnumbered previous mark (get_or numbers index 0) ≡ true → numbers_refusal previous mark index (drop index numbers) ≡ Err (at WrongPartNumber index)
  refusal_here e = rw (drop-cons numbers index 0) (simp e)

-- behind the last number the mark is judged
pub refusal_end : (numbers : List ℕ) (mark previous index : ℕ) → index ≡ length numbers → numbers_refusal previous mark index (drop index numbers) ≡ refuse (ltb top_number mark) WrongPartNumber (length numbers) (Ok tt)
refusal_end numbers mark previous index e = rw (e, drop-length)
