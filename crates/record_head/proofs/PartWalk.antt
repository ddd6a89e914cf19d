-- The walk along the part numbers of a record: those so far stand in the cells, and the last of them is at hand.
-- Assumes nothing.
use mathlib.Core.Path.{◌≡◌, refl, sym, ap, ◌∙◌}
use mathlib.Core.List.{List, [], ◌∷◌, ◌++◌}
use Prim.Native.Nat.{ℕ, ◌+◌, ◌≤◌, ◌<◌}
use native.Mathlib.Omega.{arith}
use lib.ListN.{set, replicate}
use Rattle.answer.specs.declared.Refusal.{Refusal}
use Rattle.codec.specs.declared.Field.TheVariants.{PartNumber}
use Rattle.codec.specs.Reads.{found, refused}
use Rattle.codec.specs.FieldReads.{field_at}
use Rattle.codec.proofs.FieldReads.{FieldsWalk, fields_walk_none, fields_walk_more, fields_walk_refused, fields_walk_end}
use Rattle.record_numbers.specs.Numbering.{most_parts, cells_of}
use Rattle.answer.proofs.FixedCells.{cells_more}
use Rattle.record_head.specs.Headings.{last_number, part_number_refusal, part_number_judge, numbers_at}
use Rattle.record_head.proofs.PartNumbers.{last_more}

pub record NumbersWalk (bytes : List ℕ) (mark count start : ℕ) (cells : List ℕ) (previous next index : ℕ) : Type 0 where
  pub earlier : List ℕ
  pub walk : FieldsWalk bytes PartNumber (part_number_judge mark) count start earlier next index
  pub stands : cells ≡ cells_of earlier
  pub last : previous ≡ last_number 0 earlier

pub numbers_walk_none : (bytes : List ℕ) (mark count start : ℕ) → NumbersWalk bytes mark count start (replicate most_parts 0) 0 start 0
numbers_walk_none bytes mark count start =
    record { earlier = []; walk = fields_walk_none bytes PartNumber (part_number_judge mark) count start; stands = refl; last = refl }

module _ {bytes : List ℕ} {mark count start : ℕ} {cells : List ℕ} {previous next index : ℕ} (w : NumbersWalk bytes mark count start cells previous next index) where
  -- the number at the index, judged after the last one
  here : field_at bytes next PartNumber (part_number_refusal mark previous next) ≡ field_at bytes next PartNumber (part_number_judge mark w.earlier next)
  here = ap (λ (low : ℕ). field_at bytes next PartNumber (part_number_refusal mark low next)) w.last

  pub numbers_walk_more : index < count → count ≤ most_parts → (value after : ℕ) → found value after ≡ field_at bytes next PartNumber (part_number_refusal mark previous next)
      → NumbersWalk bytes mark count start (set cells index value) value after (index + 1)
  numbers_walk_more h few value after e = record {
    earlier = w.earlier ++ (value ∷ []);
    walk = fields_walk_more w.walk h value after (e ∙ here);
    stands = ap (λ (l : List ℕ). set l index value) w.stands ∙ cells_more most_parts 0 w.earlier index value w.walk.counted (omega arith);
    last = sym (last_more 0 w.earlier value);
  }

  pub numbers_walk_refused : index < count → (why : Refusal) → refused why ≡ field_at bytes next PartNumber (part_number_refusal mark previous next) → numbers_at bytes mark count [] start ≡ refused why
  numbers_walk_refused h why e = fields_walk_refused w.walk h why (e ∙ here)

  pub numbers_walk_end : count ≤ index → numbers_at bytes mark count [] start ≡ found w.earlier next
  numbers_walk_end h = fields_walk_end w.walk h
