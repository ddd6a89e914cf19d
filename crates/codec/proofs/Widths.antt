-- Two fields on the same bytes: a number that one field finds, another finds as well, with the same position after it, where it allows the
-- number and its checks pass it. And what holds whatever the field: its groups are those of its top value, and bit 7 in the last is 22.
-- Assumes nothing.
use mathlib.Core.Path.{◌≡◌, refl, sym, ap, ◌∙◌}
use mathlib.Core.List.{List, [], ◌∷◌, ◌++◌}
use Prim.Native.Nat.{ℕ, zero, suc, ◌≤◌}
use borrow.Author.Tests.{eq-eqb}
use lib.ListN.{length, take, drop}
use Rattle.std.specs.Prelude.{Ok}
use Rattle.answer.specs.declared.Reason.TheVariants.{WrongNumber}
use Rattle.answer.specs.Outcome.{at, Verdict}
use Rattle.codec.specs.declared.Field.{Field}
use Rattle.codec.specs.declared.Field.TheVariants.{Count, PartNumber, Set, Sheet}
use Rattle.codec.specs.Fields.{groups, top}
use Rattle.codec.specs.ByteForm.{grouped, bytes_of}
use Rattle.codec.specs.Reads.{found, refused}
use Rattle.codec.specs.Reading.{carried, number_in, number_at}
use Rattle.codec.specs.FieldReads.{Judge, field_at, fields_at}
use Rattle.codec.specs.Bytes.{Bytes}
use Rattle.codec.proofs.Found.{then_found, found_then, field_found, field_read}

-- the top value of a field takes all its groups, and no more
pub groups_of_top : (field : Field) → length (bytes_of (top field)) ≡ groups field
unfolding bytes_of grouped
groups_of_top Count = refl
groups_of_top PartNumber = refl
groups_of_top Set = refl
groups_of_top Sheet = refl

-- where all bytes that a number may take have bit 7 set it is 22, also where the input ends behind them, whatever the field
pub all_carried : (bytes : List ℕ) (start : ℕ) (field : Field) → carried (take (groups field) (drop start bytes)) ≡ groups field → number_at bytes start field ≡ refused (at WrongNumber start)
unfolding number_at number_in
all_carried bytes start field e = simp (eq-eqb (carried (take (groups field) (drop start bytes))) (groups field) e)

module _ (bytes : List ℕ) (small : Bytes bytes) (field other : Field) where
  -- one number
  pub field_other : (start : ℕ) (refusal also : ℕ → Verdict) (v next : ℕ) → (v ≤ top field → refusal v ≡ Ok tt → (v ≤ top other) × (also v ≡ Ok tt))
      → field_at bytes start field refusal ≡ found v next → field_at bytes start other also ≡ found v next
  field_other start refusal also v next passes e =
      let f = field_found bytes start field refusal v next small e in
      let p = passes f.allowed f.passed in
      field_read bytes start other also v (drop next bytes) f.stands.stands p.0 p.1 ∙ ap (found v) (sym f.stands.position)

  -- numbers one after the other
  pub fields_other : (judge also : Judge) → ((earlier : List ℕ) (place v : ℕ) → v ≤ top field → judge earlier place v ≡ Ok tt → (v ≤ top other) × (also earlier place v ≡ Ok tt))
      → (more : ℕ) (earlier : List ℕ) (start : ℕ) (numbers : List ℕ) (end : ℕ) → fields_at bytes field judge more earlier start ≡ found numbers end
      → fields_at bytes other also more earlier start ≡ found numbers end
  unfolding fields_at
  fields_other judge also passes zero earlier start numbers end e = e
  fields_other judge also passes (suc more) earlier start numbers end e =
      let a = then_found (field_at bytes start field (judge earlier start)) _ numbers end e in
      let first = field_other start (judge earlier start) (also earlier start) a.0 a.1 (passes earlier start a.0) a.2 in
      found_then _ first (fields_other judge also passes more (earlier ++ (a.0 ∷ [])) a.1 numbers end a.3)
