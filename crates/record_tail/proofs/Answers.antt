-- What an answer of one of the reading functions tells of what stands behind the sets.
-- Assumes nothing.
use mathlib.Core.Path.{◌≡◌, refl, sym, ap, ◌∙◌}
use mathlib.Core.Bool.{true, false, ◌||◌}
use mathlib.Core.List.{List, []}
use Prim.Native.Nat.{ℕ, ◌≤◌}
use native.Mathlib.Omega.{arith}
use borrow.Author.Tests.{ltb-false}
use Rattle.std.specs.Prelude.{Ok, Err}
use Rattle.numbers.proofs.Bools.{or_left, or_right}
use Rattle.answer.specs.declared.Reason.TheVariants.{WrongRetired}
use Rattle.answer.specs.Outcome.{at}
use Rattle.answer.specs.declared.Refusal.{Refusal}
use Rattle.answer.proofs.Outcomes.{refuse_accepted, refuse_held, refuse_passed}
use Rattle.codec.specs.declared.Standing.{Standing}
use Rattle.codec.specs.declared.Field.TheVariants.{Count, PartNumber}
use Rattle.codec.specs.Reads.{Read, found, refused, answered}
use Rattle.codec.specs.FieldReads.{field_at, fields_at}
use Rattle.codec.proofs.Found.{field_checked}
use Rattle.record_numbers.specs.Numbering.{misnumbered, names}
use Rattle.record_retired.specs.declared.Retired.{Retired}
use Rattle.record_retired.specs.Retired.{most_retired, retired_of}
use Rattle.record_tail.specs.Tails.{retired_count_refusal, retired_refusal, retired_judge, retired_at, counts_at, tail_at, tail_of}
use Rattle.record_tail.specs.Inside.{position_after}

-- the retired numbers that an accepting answer speaks of
pub record TailGiven (read : Read (List ℕ)) (tail : Standing Retired) : Type 0 where
  pub retired : List ℕ
  pub given : read ≡ found retired tail.next
  pub cells : tail.value ≡ retired_of retired

pub tail_given : (read : Read (List ℕ)) (tail : Standing Retired) → Ok tail ≡ tail_of read → TailGiven read tail
tail_given (found retired next) tail e =
    let same : tail ≡ record { value = retired_of retired; next = next } = cc e in
    record { retired = retired; given = ap (found retired) (sym (ap (λ (t : Standing Retired). t.next) same)); cells = ap (λ (t : Standing Retired). t.value) same }
tail_given (refused why) tail e = let z : ◌≡◌ {A = ℕ} 0 1 = cc in absurd (omega arith)

pub tail_refused : (read : Read (List ℕ)) (why : Refusal) → Err why ≡ tail_of read → read ≡ refused why
tail_refused (found retired next) why e = let z : ◌≡◌ {A = ℕ} 0 1 = cc in absurd (omega arith)
tail_refused (refused r) why e = let same : r ≡ why = cc e in ap refused same

-- the counts
pub counts_given : (read : Read (List ℕ)) (next : ℕ) → Ok next ≡ position_after read → (same : List ℕ) × (read ≡ found same next)
counts_given (found numbers end) next e = let ends : end ≡ next = cc e in (numbers, ap (found numbers) ends)
counts_given (refused why) next e = let z : ◌≡◌ {A = ℕ} 0 1 = cc in absurd (omega arith)

pub counts_refused : (read : Read (List ℕ)) (why : Refusal) → Err why ≡ position_after read → read ≡ refused why
counts_refused (found numbers end) why e = let z : ◌≡◌ {A = ℕ} 0 1 = cc in absurd (omega arith)
counts_refused (refused r) why e = let same : r ≡ why = cc e in ap refused same

-- a retired number that 30 refuses, and one that passes
module _ (mark : ℕ) (in_use : List ℕ) (previous place number : ℕ) where
  pub retired_misnumbered : misnumbered previous mark number ≡ true → retired_refusal mark in_use previous place number ≡ Err (at WrongRetired place)
  retired_misnumbered e = refuse_held (misnumbered previous mark number || names number in_use) WrongRetired place (Ok tt) (or_left (names number in_use) e)

  pub retired_in_use : names number in_use ≡ true → retired_refusal mark in_use previous place number ≡ Err (at WrongRetired place)
  retired_in_use e = refuse_held (misnumbered previous mark number || names number in_use) WrongRetired place (Ok tt) (or_right (misnumbered previous mark number) e)

  pub retired_right : misnumbered previous mark number ≡ false → names number in_use ≡ false → retired_refusal mark in_use previous place number ≡ Ok tt
  retired_right e d = refuse_passed (misnumbered previous mark number || names number in_use) WrongRetired place (Ok tt) (rw (e, d) refl)

-- 64 at the most
pub retired_few : (bytes : List ℕ) (start count next : ℕ) → field_at bytes start Count (retired_count_refusal start) ≡ found count next → count ≤ most_retired
retired_few bytes start count next e =
    ltb-false most_retired count (refuse_accepted _ WrongRetired start (Ok tt) (field_checked bytes start Count (retired_count_refusal start) count next e)).0

-- ---- from one piece to the next

module _ (bytes : List ℕ) (mark : ℕ) (in_use : List ℕ) (start : ℕ) where
  pub retired_no_count : (why : Refusal) → field_at bytes start Count (retired_count_refusal start) ≡ refused why → retired_at bytes mark in_use start ≡ refused why
  unfolding retired_at
  retired_no_count why e = rw e

  pub retired_numbers_lem : (count next : ℕ) → field_at bytes start Count (retired_count_refusal start) ≡ found count next
      → retired_at bytes mark in_use start ≡ fields_at bytes PartNumber (retired_judge mark in_use) count [] next
  unfolding retired_at
  retired_numbers_lem count next e = rw e

  module _ (counts : List ℕ) where
    pub tail_no_retired : (why : Refusal) → retired_at bytes mark in_use start ≡ refused why → tail_at bytes mark in_use counts start ≡ refused why
    unfolding tail_at
    tail_no_retired why e = rw e

    module _ (retired : List ℕ) (next : ℕ) (e : retired_at bytes mark in_use start ≡ found retired next) where
      pub tail_no_counts : (why : Refusal) → counts_at bytes counts next ≡ refused why → tail_at bytes mark in_use counts start ≡ refused why
      unfolding tail_at
      tail_no_counts why d = rw (e, d)

      pub tail_whole : (cells : Retired) (same : List ℕ) (end : ℕ) → cells ≡ retired_of retired → counts_at bytes counts next ≡ found same end
          → answered cells end ≡ tail_of (tail_at bytes mark in_use counts start)
      unfolding tail_at
      tail_whole cells same end r d = ap (λ (k : Retired). answered k end) r ∙ rw (e, d)
