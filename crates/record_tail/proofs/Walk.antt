-- The walk along the retired numbers of a record: those so far stand in the cells, and the last of them is at hand.
-- Assumes nothing.
use mathlib.Core.Path.{◌≡◌, refl, sym, ap, ◌∙◌}
use mathlib.Core.List.{List, [], ◌∷◌, ◌++◌}
use Prim.Native.Nat.{ℕ, ◌+◌, ◌-◌, ◌≤◌, ◌<◌}
use native.Mathlib.Omega.{arith}
use lib.ListN.{length, set, replicate}
use Rattle.answer.specs.declared.Refusal.{Refusal}
use Rattle.answer.proofs.FixedCells.{cells_more}
use Rattle.codec.specs.declared.Field.TheVariants.{PartNumber}
use Rattle.codec.specs.Reads.{found, refused}
use Rattle.codec.specs.FieldReads.{field_at, fields_at}
use Rattle.codec.proofs.FieldReads.{FieldsWalk, fields_walk_none, fields_walk_more, fields_walk_refused, fields_walk_end}
use Rattle.record_head.specs.Headings.{last_number}
use Rattle.record_head.proofs.PartNumbers.{last_more}
use Rattle.record_retired.specs.Retired.{most_retired}
use Rattle.record_tail.specs.Tails.{retired_refusal, retired_judge}

pub record RetiredWalk (bytes : List ℕ) (mark : ℕ) (in_use : List ℕ) (count start : ℕ) (cells : List ℕ) (previous next index : ℕ) : Type 0 where
  pub earlier : List ℕ
  pub walk : FieldsWalk bytes PartNumber (retired_judge mark in_use) count start earlier next index
  pub stands : cells ≡ earlier ++ replicate (most_retired - length earlier) 0
  pub last : previous ≡ last_number 0 earlier

pub retired_walk_none : (bytes : List ℕ) (mark : ℕ) (in_use : List ℕ) (count start : ℕ) → RetiredWalk bytes mark in_use count start (replicate most_retired 0) 0 start 0
retired_walk_none bytes mark in_use count start =
    record { earlier = []; walk = fields_walk_none bytes PartNumber (retired_judge mark in_use) count start; stands = refl; last = refl }

module _ {bytes : List ℕ} {mark : ℕ} {in_use : List ℕ} {count start : ℕ} {cells : List ℕ} {previous next index : ℕ} (w : RetiredWalk bytes mark in_use count start cells previous next index) where
  -- the number at the index, judged after the last one
  here : field_at bytes next PartNumber (retired_refusal mark in_use previous next) ≡ field_at bytes next PartNumber (retired_judge mark in_use w.earlier next)
  here = ap (λ (low : ℕ). field_at bytes next PartNumber (retired_refusal mark in_use low next)) w.last

  pub retired_walk_more : index < count → count ≤ most_retired → (value after : ℕ) → found value after ≡ field_at bytes next PartNumber (retired_refusal mark in_use previous next)
      → RetiredWalk bytes mark in_use count start (set cells index value) value after (index + 1)
  retired_walk_more h few value after e = record {
    earlier = w.earlier ++ (value ∷ []);
    walk = fields_walk_more w.walk h value after (e ∙ here);
    stands = ap (λ (l : List ℕ). set l index value) w.stands ∙ cells_more most_retired 0 w.earlier index value w.walk.counted (omega arith);
    last = sym (last_more 0 w.earlier value);
  }

  pub retired_walk_refused : index < count → (why : Refusal) → refused why ≡ field_at bytes next PartNumber (retired_refusal mark in_use previous next)
      → fields_at bytes PartNumber (retired_judge mark in_use) count [] start ≡ refused why
  retired_walk_refused h why e = fields_walk_refused w.walk h why (e ∙ here)

  pub retired_walk_end : count ≤ index → fields_at bytes PartNumber (retired_judge mark in_use) count [] start ≡ found w.earlier next
  retired_walk_end h = fields_walk_end w.walk h
