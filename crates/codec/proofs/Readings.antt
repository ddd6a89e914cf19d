-- The three ways in which a number ends, behind bytes that all have bit 7 set: at its last allowed group, at the input's end, or at a byte
-- without bit 7. They say what `number_in` is by the bytes read so far, as a loop knows them.
-- Assumes nothing.
use mathlib.Core.Path.{◌≡◌, sym, ap, ◌∙◌}
use mathlib.Core.List.{List, [], ◌∷◌, ◌++◌}
use Prim.Native.Nat.{ℕ, suc, ◌+◌, ◌*◌, ◌^◌, ◌<◌}
use native.Mathlib.Nat.{add-zero, mul-zero, mul_comm, mod-eq_of_lt}
use native.Mathlib.Numerals.{add-one}
use native.Mathlib.Omega.{arith}
use borrow.Author.Tests.{lt-leb, le-leb, ne_eqb, eq-eqb}
use lib.ListN.{length, take, length-append}
use lib.Seq.{take-append-add}
use Rattle.answer.specs.declared.Reason.TheVariants.{EndOfBytes, WrongNumber}
use Rattle.answer.specs.Outcome.{at}
use Rattle.codec.specs.Reads.{refused}
use Rattle.codec.specs.Reading.{carried, value_of, least, ended, number_in}
use Rattle.codec.proofs.Groups.{carried_append, carried_none, value_append}

-- a number whose last byte is found
pub found_last : (most high start total : ℕ) (window : List ℕ) → carried window < most → carried window < length window → number_in most high window start total ≡ ended (value_of (take (suc (carried window)) window)) (least (carried window)) high start (start + suc (carried window))
unfolding number_in
found_last most high start total window m l = simp (ne_eqb (carried window) most (omega arith), lt-leb (length window) (carried window) l)

module _ (most high start total : ℕ) (front : List ℕ) (carries : carried front ≡ length front) where
  -- every allowed byte has bit 7 set
  pub ends_over : length front ≡ most → number_in most high front start total ≡ refused (at WrongNumber start)
  unfolding number_in
  ends_over h = simp (eq-eqb (carried front) most (carries ∙ h))

  -- the input ends before the number does
  pub ends_short : length front < most → number_in most high front start total ≡ refused (at EndOfBytes total)
  unfolding number_in
  ends_short h = simp (ne_eqb (carried front) most (omega arith), le-leb (length front) (carried front) (omega arith))

  -- a byte without bit 7 is the last
  pub ends_last : (byte : ℕ) (rest : List ℕ) → byte < 128 → length front < most → number_in most high (front ++ byte ∷ rest) start total ≡ ended (value_of front + byte * 128 ^ length front) (least (length front)) high start (start + suc (length front))
  ends_last byte rest h l =
      let k : carried (front ++ byte ∷ rest) ≡ length front = omega (arith, carried_append front (byte ∷ rest) carries, carried_none byte rest h) in
      let v : value_of (front ++ byte ∷ []) ≡ value_of front + byte * 128 ^ length front =
      value_append front (byte ∷ []) ∙ simp (mod-eq_of_lt h, mul-zero, add-zero, mul_comm (128 ^ length front) byte) in
      let t : take (suc (length front)) (front ++ byte ∷ rest) ≡ front ++ byte ∷ [] =
      ap (λ (n : ℕ). take n (front ++ byte ∷ rest)) (sym (add-one (length front))) ∙ take-append-add front (byte ∷ rest) 1 in
      found_last most high start total (front ++ byte ∷ rest) (omega arith) (omega (arith, length-append front (byte ∷ rest)))
      ∙ simp (k, t, v)
