-- Write after read: whatever is read as a number is the byte form of that number. Its bytes all carry but the last, and no fewer groups
-- would hold it, which leaves only one list of bytes. So each number has exactly one byte form.
-- Assumes nothing.
use mathlib.Core.Path.{◌≡◌, refl, sym, ap, ap₂, ◌∙◌}
use mathlib.Core.Bool.{Bool, true, false}
use mathlib.Core.List.{List, [], ◌∷◌, ◌++◌, append_assoc}
use mathlib.Core.Logic.{⊎_elim}
use Prim.Native.Nat.{ℕ, zero, suc, ◌+◌, ◌-◌, ◌*◌, ◌/◌, ◌%◌, ◌^◌, min, ◌≤◌, ◌<◌}
use native.Mathlib.Nat.{pow-succ', one-le-pow}
use native.Mathlib.Omega.{arith}
use borrow.Author.Tests.{leb-false, ltb-false}
use lib.Dec.{ltb, leb, eqb}
use lib.ListN.{length, take, drop, take-append-drop, length-take, length-drop, get_or-eq_default}
use lib.Seq.{take-take, drop-drop, get_or-take, get_or-drop, length-take-le, take-append_seam}
use Rattle.answer.specs.declared.Reason.{Reason}
use Rattle.answer.specs.declared.Reason.TheVariants.{EndOfBytes, WrongNumber}
use Rattle.codec.specs.Bytes.{Bytes}
use Rattle.codec.specs.declared.Field.{Field}
use Rattle.codec.specs.Reads.{Read, found, refused}
use Rattle.codec.specs.Fields.{groups, top}
use Rattle.answer.specs.Outcome.{at, outcome}
use Rattle.answer.specs.Placed.{placed}
use Rattle.codec.specs.ByteForm.{bytes_of}
use Rattle.codec.specs.Reading.{carried, value_of, least, check, number_in, number_at}
use Rattle.codec.proofs.ByteForms.{bytes_small, bytes_large}
use Rattle.answer.proofs.Placing.{placed_fits}
use Rattle.numbers.proofs.Bounds.{below_or_above}
use Rattle.codec.proofs.Groups.{carried_none, carried_some}

-- what an accepted number passed: the bytes in front of the window all carry but the last, its value is neither below the least number of
-- so many groups nor over the top value, and the next position is behind it
record Accepted (high start : ℕ) (window : List ℕ) (v next : ℕ) : Type 0 where
  whole : carried window < length window
  stands : value_of (take (suc (carried window)) window) ≡ v
  shortest : least (carried window) ≤ v
  small : v ≤ high
  position : start + suc (carried window) ≡ next

least_le : (more : ℕ) → least more ≤ 128 ^ more
least_le zero = omega arith
least_le (suc more) = omega arith

-- a number is given only where a check does not refuse
check_passed : (test : Bool) (reason : Reason) (place : ℕ) (later : Read ℕ) (v next : ℕ) → check test (refused (at reason place)) later ≡ found v next → (test ≡ false) × (later ≡ found v next)
check_passed true reason place later v next e = let z : ◌≡◌ {A = ℕ} 0 1 = cc in absurd (omega arith)
check_passed false reason place later v next e = (refl, e)

accepted : (most high start total : ℕ) (window : List ℕ) (v next : ℕ) → number_in most high window start total ≡ found v next → Accepted high start window v next
unfolding number_in
accepted most high start total window v next e =
    let k = carried window in
    let value = value_of (take (suc k) window) in
    let over = check_passed (eqb k most) WrongNumber start _ v next e in
    let short = check_passed (leb (length window) k) EndOfBytes total _ v next over.1 in
    let long = check_passed (ltb value (least k)) WrongNumber start _ v next short.1 in
    let large = check_passed (ltb high value) WrongNumber start _ v next long.1 in
    let given = large.1 in
    let same : value ≡ v = cc given in
    record {
      whole = leb-false (length window) k short.0;
      stands = same;
      shortest = omega (arith, ltb-false value (least k) long.0);
      small = omega (arith, ltb-false high value large.0);
      position = cc given;
    }

-- bytes of which all carry but the last, and which no fewer groups would hold, are the byte form of what they stand for
pub form_only : (bytes : List ℕ) (k : ℕ) → Bytes bytes → carried bytes ≡ k → k < length bytes → least k ≤ value_of (take (suc k) bytes) → take (suc k) bytes ≡ bytes_of (value_of (take (suc k) bytes))
form_only [] k small e h low = absurd (omega arith)
form_only (byte ∷ bytes) zero small e h low =
    let single : byte < 128 = ⊎_elim (λ l. l) (λ l. absurd (omega (arith, carried_some byte bytes l))) (below_or_above byte 128) in
    let v : byte % 128 + 128 * 0 ≡ byte = omega arith in
    sym (ap bytes_of v ∙ bytes_small byte single)
form_only (byte ∷ bytes) (suc k) small e h low =
    let more : 128 ≤ byte = ⊎_elim (λ l. absurd (omega (arith, carried_none byte bytes l))) (λ l. l) (below_or_above byte 128) in
    let rest : ℕ = value_of (take (suc k) bytes) in
    let value : ℕ = byte % 128 + 128 * rest in
    let large : 128 ^ k ≤ rest = omega (arith, low, pow-succ' 128 k) in
    let behind : take (suc k) bytes ≡ bytes_of rest =
    form_only bytes k (λ i. small (suc i)) (omega (arith, carried_some byte bytes more)) (omega arith) (omega (arith, least_le k)) in
    let some : 128 ≤ value = omega (arith, one-le-pow k 128 (omega arith)) in
    let low_group : byte ≡ value % 128 + 128 = omega (arith, small 0) in
    let others : rest ≡ value / 128 = omega arith in
    ap₂ (λ (b : ℕ) (l : List ℕ). b ∷ l) low_group (behind ∙ ap bytes_of others) ∙ sym (bytes_large value some)

-- what is read as a number is its byte form, the next position is right behind it, inside the input, and the field allows the number
pub record ReadForm (bytes : List ℕ) (start : ℕ) (field : Field) (v next : ℕ) : Type 0 where
  pub form : drop start bytes ≡ bytes_of v ++ drop next bytes
  pub position : next ≡ start + length (bytes_of v)
  pub behind : start < next
  pub inside : next ≤ length bytes
  pub allowed : v ≤ top field

part_small : (bytes : List ℕ) (start most : ℕ) → Bytes bytes → Bytes (take most (drop start bytes))
part_small bytes start most small i =
    ⊎_elim
    (λ (h : i < most). rw (get_or-take most (drop start bytes) i 0 h, get_or-drop) (small (start + i)))
    (λ (h : most ≤ i). rw (get_or-eq_default (take most (drop start bytes)) 0 {n = i} (omega (arith, length-take most (drop start bytes)))) (omega arith))
    (below_or_above i most)

pub read_form : (bytes : List ℕ) (start : ℕ) (field : Field) (v next : ℕ) → Bytes bytes → number_at bytes start field ≡ found v next → ReadForm bytes start field v next
unfolding number_at
read_form bytes start field v next small e =
    let most : ℕ = groups field in
    let tail : List ℕ = drop start bytes in
    let window : List ℕ = take most tail in
    let a = accepted most (top field) start (length bytes) window v next e in
    let k : ℕ = carried window in
    let size : length window ≡ min most (length bytes - start) = length-take most tail ∙ ap (min most) (length-drop start bytes) in
    let front : take (suc k) tail ≡ bytes_of v =
    sym (take-take (suc k) most tail (omega (arith, a.whole)))
    ∙ form_only window k (part_small bytes start most small) refl a.whole (rw a.stands a.shortest)
    ∙ ap bytes_of a.stands in
    let n : length (bytes_of v) ≡ suc k = sym (ap length front) ∙ length-take-le (suc k) tail (omega (arith, a.whole, length-drop start bytes)) in
    record {
      form = sym (take-append-drop (suc k) tail) ∙ ap₂ ◌++◌ front (drop-drop (suc k) start bytes ∙ ap (λ (i : ℕ). drop i bytes) a.position);
      position = omega (arith, a.position);
      behind = omega (arith, a.position);
      inside = omega (arith, a.whole, a.position);
      allowed = a.small;
    }

-- writing a number back to where it was read changes nothing, and ends where the reading ended
pub write_read : (bytes : List ℕ) (start : ℕ) (field : Field) (v next : ℕ) → Bytes bytes → number_at bytes start field ≡ found v next → placed bytes start (bytes_of v) ≡ outcome next bytes
write_read bytes start field v next small e =
    let r = read_form bytes start field v next small e in
    let n : start + length (bytes_of v) ≡ next = sym r.position in
    placed_fits bytes start (bytes_of v) (omega (arith, r.inside))
    ∙ simp (n, append_assoc, ← r.form, take-append-drop)

-- the bytes of a number are its byte form
pub number_bytes : (bytes : List ℕ) (start : ℕ) (field : Field) (v next : ℕ) → Bytes bytes → number_at bytes start field ≡ found v next → take (next - start) (drop start bytes) ≡ bytes_of v
number_bytes bytes start field v next small e =
    let r = read_form bytes start field v next small e in
    let n : next - start ≡ length (bytes_of v) = omega (arith, r.position) in
    rw (n, r.form) (take-append_seam (bytes_of v) (drop next bytes))

-- so one number has the same bytes wherever it is read, in whichever field
pub one_form : (a b : List ℕ) (i j : ℕ) (f g : Field) (v m n : ℕ) → Bytes a → Bytes b → number_at a i f ≡ found v m → number_at b j g ≡ found v n → take (m - i) (drop i a) ≡ take (n - j) (drop j b)
one_form a b i j f g v m n small-a small_b read_a read-b = number_bytes a i f v m small-a read_a ∙ sym (number_bytes b j g v n small_b read-b)
