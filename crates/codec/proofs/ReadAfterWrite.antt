-- Read after write: where the byte form of a number stands, with anything before and behind it, that number is read exactly if the field
-- allows it. A form carries on all its bytes but the last, stands for its number and is the shortest, so no check but that of the top value
-- can refuse it; and a number up to the top value takes no more groups than the field has.
-- Assumes nothing.
use mathlib.Core.Path.{◌≡◌, ap, ◌∙◌}
use mathlib.Core.List.{List, ◌++◌, append_assoc}
use mathlib.Core.Logic.{◌↔◌, ⊎_elim}
use Prim.Native.Nat.{ℕ, zero, suc, pred, ◌+◌, ◌-◌, ◌/◌, ◌%◌, ◌≤◌, ◌<◌}
use native.Mathlib.Nat.{pow-succ'}
use native.Mathlib.Omega.{arith}
use borrow.Author.Tests.{le-ltb, lt-ltb}
use lib.Dec.{ltb}
use lib.ListN.{length, take, drop, length-append}
use lib.Seq.{take-append_seam, take-append-add, drop-append_seam, length-take-le}
use Rattle.answer.specs.declared.Reason.TheVariants.{WrongNumber}
use Rattle.codec.specs.declared.Field.{Field}
use Rattle.codec.specs.Reads.{found, refused}
use Rattle.codec.specs.Fields.{groups, top}
use Rattle.answer.specs.Outcome.{at}
use Rattle.codec.specs.ByteForm.{bytes_of}
use Rattle.codec.specs.Reading.{carried, value_of, least, check, number_in, number_at}
use Rattle.codec.proofs.Fields.{allowed}
use Rattle.codec.proofs.ByteForms.{by_groups, bytes_small, bytes_large, bytes_some, bytes_at_most, length_small, length_large}
use Rattle.codec.proofs.Groups.{carried_none, carried_some, carried_take}
use Rattle.numbers.proofs.Bounds.{below_or_above}
use Rattle.codec.proofs.Readings.{found_last, ends_over}

-- all bytes of a form but the last carry
carried_form : (rest : List ℕ) (v : ℕ) → suc (carried (bytes_of v ++ rest)) ≡ length (bytes_of v)
carried_form rest =
    by_groups (λ v. suc (carried (bytes_of v ++ rest)) ≡ length (bytes_of v))
    (λ v h. rw (bytes_small v h) (ap suc (carried_none v rest h)))
    (λ v h ih. rw (bytes_large v h) (ap suc (carried_some (v % 128 + 128) (bytes_of (v / 128) ++ rest) (omega arith) ∙ ih)))

-- a form stands for its number
value_form : (v : ℕ) → value_of (bytes_of v) ≡ v
value_form =
    by_groups (λ v. value_of (bytes_of v) ≡ v)
    (λ v h. rw (bytes_small v h) (omega arith))
    (λ v h ih. rw (bytes_large v h) (omega arith))

-- a form is the shortest
least_form : (v : ℕ) → least (pred (length (bytes_of v))) ≤ v
least_form =
    by_groups (λ v. least (pred (length (bytes_of v))) ≤ v)
    (λ v h. rw (length_small v h) (omega arith))
    (λ v h ih. rw (length_large v h) (step v (length (bytes_of (v / 128))) h (bytes_some (v / 128)) ih))
  where
    step : (v n : ℕ) → 128 ≤ v → 1 ≤ n → least (pred n) ≤ v / 128 → least n ≤ v
    step v zero h some ih = omega arith
    step v (suc zero) h some ih = omega arith
    step v (suc (suc n)) h some ih = omega (arith, ih, pow-succ' 128 (suc n))

-- a form of no more groups than allowed is read as its number, and only its top value can refuse it
form_within : (most high start total v : ℕ) (rest : List ℕ) → length (bytes_of v) ≤ most → number_in most high (take most (bytes_of v ++ rest)) start total ≡ check (ltb high v) (refused (at WrongNumber start)) (found v (start + length (bytes_of v)))
form_within most high start total v rest h =
    let n = length (bytes_of v) in
    let others : List ℕ = take (most - n) rest in
    let m : most ≡ n + (most - n) = omega arith in
    let window : take most (bytes_of v ++ rest) ≡ bytes_of v ++ others =
    ap (λ (k : ℕ). take k (bytes_of v ++ rest)) m ∙ take-append-add (bytes_of v) rest (most - n) in
    let k : carried (bytes_of v ++ others) ≡ pred n = omega (arith, carried_form others v) in
    let s : suc (pred n) ≡ n = omega (arith, bytes_some v) in
    ap (λ (w : List ℕ). number_in most high w start total) window
    ∙ found_last most high start total (bytes_of v ++ others) (omega (arith, bytes_some v)) (omega (arith, bytes_some v, length-append (bytes_of v) others))
    ∙ simp (k, s, take-append_seam, value_form, le-ltb v (least (pred n)) (least_form v))

-- a form of more groups than allowed is refused
form_over : (most high start total v : ℕ) (rest : List ℕ) → most < length (bytes_of v) → number_in most high (take most (bytes_of v ++ rest)) start total ≡ refused (at WrongNumber start)
form_over most high start total v rest h =
    ends_over most high start total (take most (bytes_of v ++ rest))
    (carried_take most (bytes_of v ++ rest) (omega (arith, carried_form rest v)))
    (length-take-le most (bytes_of v ++ rest) (omega (arith, length-append (bytes_of v) rest)))

-- a number that a field allows takes no more groups than the field allows
pub form_groups : (field : Field) (v : ℕ) → v ≤ top field → length (bytes_of v) ≤ groups field
form_groups field v h = bytes_at_most (groups field) v (allowed field).some (omega (arith, (allowed field).holds))

groups_over : (field : Field) (v : ℕ) → groups field < length (bytes_of v) → top field < v
groups_over field v h = ⊎_elim (λ l. l) (λ l. absurd (omega (arith, form_groups field v l))) (below_or_above (top field) v)

-- what is read where a number's form stands: the number, up to the field's top value, and 22 at its first byte above it
pub form_read : (bytes : List ℕ) (start : ℕ) (field : Field) (v : ℕ) (rest : List ℕ) → drop start bytes ≡ bytes_of v ++ rest → number_at bytes start field ≡ check (ltb (top field) v) (refused (at WrongNumber start)) (found v (start + length (bytes_of v)))
unfolding number_at
form_read bytes start field v rest e =
    ap (λ (w : List ℕ). number_in (groups field) (top field) (take (groups field) w) start (length bytes)) e
    ∙ ⊎_elim
    (λ (h : groups field < length (bytes_of v)).
    form_over (groups field) (top field) start (length bytes) v rest h ∙ simp (lt-ltb (top field) v (groups_over field v h)))
    (λ (h : length (bytes_of v) ≤ groups field). form_within (groups field) (top field) start (length bytes) v rest h)
    (below_or_above (groups field) (length (bytes_of v)))

behind : (front form rest : List ℕ) → drop (length front) (front ++ form ++ rest) ≡ form ++ rest
behind front form rest = ap (drop (length front)) (append_assoc front form rest) ∙ drop-append_seam front (form ++ rest)

-- a number that the field allows is read back, with the position behind it
pub read_written : (field : Field) (v : ℕ) (front rest : List ℕ) → v ≤ top field → number_at (front ++ bytes_of v ++ rest) (length front) field ≡ found v (length front + length (bytes_of v))
read_written field v front rest h =
    form_read (front ++ bytes_of v ++ rest) (length front) field v rest (behind front (bytes_of v) rest) ∙ simp (le-ltb (top field) v h)

-- a number over the field's top value is refused by 22 at its first byte
pub read_over : (field : Field) (v : ℕ) (front rest : List ℕ) → top field < v → number_at (front ++ bytes_of v ++ rest) (length front) field ≡ refused (at WrongNumber (length front))
read_over field v front rest h =
    form_read (front ++ bytes_of v ++ rest) (length front) field v rest (behind front (bytes_of v) rest) ∙ simp (lt-ltb (top field) v h)

-- so a number's form is read as that number exactly if the field allows the number
pub read_exactly : (field : Field) (v : ℕ) (front rest : List ℕ) → (number_at (front ++ bytes_of v ++ rest) (length front) field ≡ found v (length front + length (bytes_of v))) ↔ (v ≤ top field)
read_exactly field v front rest = (
  λ e. ⊎_elim (λ l. let z : ◌≡◌ {A = ℕ} 0 1 = cc (read_over field v front rest l) in absurd (omega arith)) (λ l. l) (below_or_above (top field) v),
  read_written field v front rest,
)
