-- A reading looks at no byte before the number and at none past its groups: two inputs that agree on these give the same number or the same
-- 22. Only 21, which names the input's length, tells them apart. So the first bytes of an input decide what numbers are read there, where
-- they are enough for all their groups.
-- Assumes nothing.
use mathlib.Core.Path.{◌≡◌, refl, sym, ap, ◌∙◌}
use mathlib.Core.Bool.{Bool, true, false, cond}
use mathlib.Core.List.{List, [], ◌∷◌, ◌++◌}
use Prim.Native.Nat.{ℕ, zero, suc, ◌+◌, ◌*◌, ◌≤◌}
use native.Mathlib.Nat.{le_antisymm}
use native.Mathlib.Omega.{arith}
use borrow.Author.Tests.{leb-true, eq-eqb}
use lib.Dec.{leb, ltb, eqb}
use lib.ListN.{length, take, drop, length-drop}
use lib.Seq.{length-take-le, take-take}
use Rattle.std.specs.Prelude.{Ok}
use Rattle.answer.specs.Refusals.{number_of}
use Rattle.answer.specs.declared.Reason.TheVariants.{EndOfBytes, WrongNumber}
use Rattle.answer.specs.Outcome.{at, Verdict}
use Rattle.answer.specs.declared.Refusal.{Refusal}
use Rattle.numbers.proofs.Bools.{clash}
use Rattle.codec.specs.declared.Field.{Field}
use Rattle.codec.specs.ByteForm.{bytes_of}
use Rattle.codec.specs.Fields.{groups, top}
use Rattle.codec.specs.Reads.{Read, found, refused}
use Rattle.codec.specs.Reading.{carried, value_of, least, check, ended, number_in, number_at}
use Rattle.codec.specs.FieldReads.{judged, field_at, Judge, fields_at}
use Rattle.codec.proofs.ReadAfterWrite.{form_groups}
use Rattle.codec.specs.Bytes.{Bytes}
use Rattle.codec.proofs.Found.{then_found, then_alike, field_found}

-- the input's length is asked for by 21 alone
total_only : (over short : Bool) (first later : Read ℕ) (total other : ℕ) → (check over first (check short (refused (at EndOfBytes total)) later) ≡ refused (at EndOfBytes total) → ⊥) → check over first (check short (refused (at EndOfBytes other)) later) ≡ check over first (check short (refused (at EndOfBytes total)) later)
total_only true short first later total other h = refl
total_only false true first later total other h = absurd (h refl)
total_only false false first later total other h = refl

-- inputs that agree on the groups from a position on, and whose first is not refused by 21, are read alike there
pub read_alike : (bytes other : List ℕ) (start : ℕ) (field : Field) → take (groups field) (drop start bytes) ≡ take (groups field) (drop start other) → (number_at bytes start field ≡ refused (at EndOfBytes (length bytes)) → ⊥) → number_at other start field ≡ number_at bytes start field
unfolding number_at number_in
read_alike bytes other start field same h =
    let window : List ℕ = take (groups field) (drop start bytes) in
    let k : ℕ = carried window in
    ap (λ (w : List ℕ). number_in (groups field) (top field) w start (length other)) (sym same)
    ∙ total_only (eqb k (groups field)) (leb (length window) k) (refused (at WrongNumber start))
    (ended (value_of (take (suc k) window)) (least k) (top field) start (start + suc k))
    (length bytes) (length other) h

-- 22 is not 21
not_short : (place total : ℕ) → ◌≡◌ {A = Read ℕ} (refused (at WrongNumber place)) (refused (at EndOfBytes total)) → ⊥
not_short place total e =
    let one : at WrongNumber place ≡ at EndOfBytes total = cc in
    let number : ◌≡◌ {A = ℕ} 22 21 = ap (λ (r : Refusal). number_of r.reason) one in
    omega arith

-- so 22 stays 22 whatever follows the number's groups
pub wrong_alike : (bytes other : List ℕ) (start : ℕ) (field : Field) → take (groups field) (drop start bytes) ≡ take (groups field) (drop start other) → number_at bytes start field ≡ refused (at WrongNumber start) → number_at other start field ≡ refused (at WrongNumber start)
wrong_alike bytes other start field same wrong = read_alike bytes other start field same (λ short. not_short start (length bytes) (sym wrong ∙ short)) ∙ wrong

-- ---- what 21 needs

carried_few : (bytes : List ℕ) → carried bytes ≤ length bytes
carried_few [] = omega arith
carried_few (byte ∷ bytes) = step (ltb byte 128) (carried_few bytes)
  where
    step : (last : Bool) → carried bytes ≤ length bytes → cond last 0 (suc (carried bytes)) ≤ suc (length bytes)
    step true h = omega arith
    step false h = omega arith

ended_not_short : (value low high start next total : ℕ) → ended value low high start next ≡ refused (at EndOfBytes total) → ⊥
ended_not_short value low high start next total = cases (ltb value low) (ltb high value)
  where
    cases : (long large : Bool) → check long (refused (at WrongNumber start)) (check large (refused (at WrongNumber start)) (found value next)) ≡ refused (at EndOfBytes total) → ⊥
    cases true large e = not_short start total e
    cases false true e = not_short start total e
    cases false false e = let z : ◌≡◌ {A = ℕ} 0 1 = cc in omega arith

checked_not_short : (over short : Bool) (start total value low high next : ℕ) → (over ≡ false → short ≡ true → ⊥)
    → check over (refused (at WrongNumber start)) (check short (refused (at EndOfBytes total)) (ended value low high start next)) ≡ refused (at EndOfBytes total) → ⊥
checked_not_short true short start total value low high next h e = not_short start total e
checked_not_short false true start total value low high next h e = h refl refl
checked_not_short false false start total value low high next h e = ended_not_short value low high start next total e

-- a number never ends the input where there are bytes for all its groups
never_short : (bytes : List ℕ) (start : ℕ) (field : Field) → start + groups field ≤ length bytes → number_at bytes start field ≡ refused (at EndOfBytes (length bytes)) → ⊥
unfolding number_at number_in
never_short bytes start field h =
    let window : List ℕ = take (groups field) (drop start bytes) in
    let whole : length window ≡ groups field = length-take-le (groups field) (drop start bytes) (omega (arith, length-drop start bytes)) in
    checked_not_short (eqb (carried window) (groups field)) (leb (length window) (carried window)) start (length bytes)
    (value_of (take (suc (carried window)) window)) (least (carried window)) (top field) (start + suc (carried window)) (λ over short.
    let all : carried window ≡ groups field = le_antisymm (omega (arith, carried_few window)) (omega (arith, leb-true (length window) (carried window) short)) in
    clash (eq-eqb (carried window) (groups field) all) over)

-- ---- the first bytes alone

-- bytes from a position on that lie within the first ones
window_first : (count start most : ℕ) (bytes : List ℕ) → start + count ≤ most → take count (drop start (take most bytes)) ≡ take count (drop start bytes)
window_first count zero most bytes h = take-take count most bytes (omega arith)
window_first count (suc start) zero bytes h = absurd (omega arith)
window_first count (suc start) (suc most) [] h = refl
window_first count (suc start) (suc most) (x ∷ bytes) h = window_first count start most bytes (omega arith)

-- a number of a field is read by its first groups
pub field_first : (bytes : List ℕ) (most : ℕ) → most ≤ length bytes → (start : ℕ) (field : Field) (refusal : ℕ → Verdict) → start + groups field ≤ most
    → field_at (take most bytes) start field refusal ≡ field_at bytes start field refusal
unfolding field_at
field_first bytes most long start field refusal h =
    ap (judged refusal) (read_alike bytes (take most bytes) start field (sym (window_first (groups field) start most bytes h)) (never_short bytes start field (omega arith)))

-- and ends within them
pub field_next : (bytes : List ℕ) → Bytes bytes → (start : ℕ) (field : Field) (refusal : ℕ → Verdict) (v next : ℕ) → field_at bytes start field refusal ≡ found v next → next ≤ start + groups field
field_next bytes small start field refusal v next e =
    let f = field_found bytes start field refusal v next small e in
    omega (arith, f.stands.position, form_groups field v f.allowed)

-- a judge passes no number of more bytes
abbrev pub NoneLonger : Field → Judge → ℕ → Type 0
NoneLonger field judge width = (earlier : List ℕ) (place number : ℕ) → judge earlier place number ≡ Ok tt → number ≤ top field → length (bytes_of number) ≤ width

-- what a field allows is no longer than its groups
pub none_longer : (field : Field) (judge : Judge) → NoneLonger field judge (groups field)
none_longer field judge earlier place number passed allowed = form_groups field number allowed

module _ (bytes : List ℕ) (small : Bytes bytes) (field : Field) (judge : Judge) (width : ℕ) (longest : NoneLonger field judge width) where
  judged_next : (earlier : List ℕ) (start v next : ℕ) → field_at bytes start field (judge earlier start) ≡ found v next → next ≤ start + width
  judged_next earlier start v next e =
      let f = field_found bytes start field (judge earlier start) v next small e in
      omega (arith, f.stands.position, longest earlier start v f.passed f.allowed)

  -- where numbers one after the other end at the latest
  pub fields_next : (more : ℕ) (earlier : List ℕ) (start : ℕ) (numbers : List ℕ) (end : ℕ) → fields_at bytes field judge more earlier start ≡ found numbers end → end ≤ start + more * width
  unfolding fields_at
  fields_next zero earlier start numbers end e = let stays : start ≡ end = cc in omega arith
  fields_next (suc more) earlier start numbers end e =
      let a = then_found (field_at bytes start field (judge earlier start)) _ numbers end e in
      let later = fields_next more (earlier ++ (a.0 ∷ [])) a.1 numbers end a.3 in
      omega (arith, judged_next earlier start a.0 a.1 a.2)

  -- and by which bytes they are read: the last is not known to be short before it is read
  pub fields_first : (most : ℕ) → most ≤ length bytes → (more : ℕ) (earlier : List ℕ) (start : ℕ) → start + more * width + groups field ≤ most
      → fields_at (take most bytes) field judge more earlier start ≡ fields_at bytes field judge more earlier start
  unfolding fields_at
  fields_first most long zero earlier start h = refl
  fields_first most long (suc more) earlier start h =
      then_alike (field_at bytes start field (judge earlier start)) (field_at (take most bytes) start field (judge earlier start))
      (λ v next. fields_at bytes field judge more (earlier ++ (v ∷ [])) next) (λ v next. fields_at (take most bytes) field judge more (earlier ++ (v ∷ [])) next)
      (field_first bytes most long start field (judge earlier start) (omega arith)) (λ v next e.
      fields_first most long more (earlier ++ (v ∷ [])) next (omega (arith, judged_next earlier start v next e)))
