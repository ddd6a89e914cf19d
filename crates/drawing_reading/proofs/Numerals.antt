-- A number along a walk over its digits: the digits passed stand in front, what they stand for is held, and where the run ends they are all the
-- digits that stand there.
-- Assumes nothing.
use mathlib.Core.Path.{◌≡◌, refl, sym, ap, ap₂, ◌∙◌, subst}
use mathlib.Core.Bool.{Bool, true, false, cond}
use mathlib.Core.List.{List, [], ◌∷◌, ◌++◌, append_assoc}
use mathlib.Core.Logic.{◌⊎◌, inl, inr}
use Prim.Native.Nat.{ℕ, ◌+◌, ◌-◌, ◌*◌, ◌≤◌, ◌<◌}
use native.Mathlib.Nat.{add-zero}
use native.Mathlib.Numerals.{add-one}
use native.Mathlib.Omega.{arith}
use lib.ListN.{length, get_or, drop, length-append, get_or-eq_default}
use lib.Seq.{drop-cons, get_or-drop}
use Rattle.std.specs.Prelude.{None}
use Rattle.numbers.proofs.Bools.{false_of}
use Rattle.numbers.proofs.Bounds.{below_or_above}
use Rattle.text.specs.Texts.{decimal}
use Rattle.text.proofs.Decimals.{decimal_small}
use Rattle.drawing_text.specs.Forms.{digit, value_from, same_bytes}
use Rattle.drawing_text.proofs.Numerals.{Digits, NoDigit, digit_bounds, digits_append, value_more, Begun, decimal_begun, digits_decimal}
use Rattle.drawing_text.proofs.Forms.{same_bytes_lem, bytes_same}
use Rattle.drawing_reading.specs.Inside.{digit_at, digits_in, held, pick_numeral, numeral_at, numeral, Numeral}

-- ---- one byte

-- a digit stands at a position of the text
record DigitHere (text : List ℕ) (i : ℕ) : Type 0 where
  is : digit (get_or text i 0) ≡ true
  value : digit_at text i ≡ get_or text i 0 - 48
  inside : i < length text

digit_here : (text : List ℕ) (i : ℕ) → digit_at text i < 10 → DigitHere text i
digit_here text i h = cases (digit (get_or text i 0)) refl
  where
    inside : digit (get_or text i 0) ≡ true → i < length text
    inside is = first (below_or_above i (length text))
      where
        first : (i < length text) ⊎ (length text ≤ i) → i < length text
        first (inl low) = low
        first (inr high) = absurd (omega (arith, (digit_bounds (get_or text i 0) is).0, get_or-eq_default text 0 high))

    cases : (t : Bool) → digit (get_or text i 0) ≡ t → DigitHere text i
    cases true is = record { is = is; value = ap (λ (b : Bool). cond b (get_or text i 0 - 48) 10) is; inside = inside is }
    cases false is = absurd (omega (arith, h, ap (λ (b : Bool). cond b (get_or text i 0 - 48) 10) is))

pub digit_inside : (text : List ℕ) (i : ℕ) → digit_at text i < 10 → i < length text
digit_inside text i h = (digit_here text i h).inside

-- no digit stands there
no_digit_here : (text : List ℕ) (i : ℕ) → 10 ≤ digit_at text i → NoDigit (drop i text)
no_digit_here text i h = first (below_or_above i (length text))
  where
    none : digit (get_or text i 0) ≡ false
    none =
        false_of (digit (get_or text i 0)) (λ is.
        omega (arith, h, ap (λ (b : Bool). cond b (get_or text i 0 - 48) 10) is, (digit_bounds (get_or text i 0) is).1))

    empty : (l : List ℕ) → length l ≡ 0 → NoDigit l
    empty [] e = tt
    empty (x ∷ l) e = absurd (omega (arith, e))

    first : (i < length text) ⊎ (length text ≤ i) → NoDigit (drop i text)
    first (inl low) = subst NoDigit (sym (drop-cons text i 0 low)) none
    first (inr high) = empty (drop i text) (omega (arith, lib.ListN.length-drop i text))

-- ---- the digits passed

pub record DigitWalk (text : List ℕ) (start value next : ℕ) : Type 0 where
  pub digits : List ℕ
  pub all : Digits digits
  pub stands : drop start text ≡ digits ++ drop next text
  pub ends : next ≡ start + length digits
  pub holds : value ≡ held (value_from 0 digits)

pub digit_walk_none : (text : List ℕ) (start : ℕ) → DigitWalk text start 0 start
unfolding value_from
digit_walk_none text start = record { digits = []; all = tt; stands = refl; ends = omega arith; holds = refl }

module _ {text : List ℕ} {start value next : ℕ} (w : DigitWalk text start value next) where
  pub digit_walk_held : value ≤ 100
  digit_walk_held = omega (arith, w.holds)

  pub digit_walk_more : digit_at text next < 10 → DigitWalk text start (held (10 * value + digit_at text next)) (next + 1)
  digit_walk_more h =
      let here = digit_here text next h in
      let byte : ℕ = get_or text next 0 in
      record {
        digits = w.digits ++ (byte ∷ []);
        all = digits_append w.digits (byte ∷ []) w.all (here.is, tt);
        stands =
            w.stands ∙ ap (λ (l : List ℕ). w.digits ++ l) (drop-cons text next 0 here.inside ∙ ap (λ (k : ℕ). byte ∷ drop k text) (sym (add-one next)))
            ∙ sym (append_assoc w.digits (byte ∷ []) (drop (next + 1) text));
        ends = omega (arith, w.ends, length-append w.digits (byte ∷ []));
        holds =
            omega (arith, w.holds, here.value, value_more w.digits byte w.all here.is);
      }

  -- ---- where the run ends

  module _ (none : 10 ≤ digit_at text next) where
    pub digit_walk_behind : NoDigit (drop next text)
    digit_walk_behind = no_digit_here text next none

    run_found : (digits rest : List ℕ) → Digits digits → NoDigit rest → digits_in (digits ++ rest) ≡ digits
    unfolding digits_in
    run_found [] [] all behind = refl
    run_found [] (byte ∷ rest) all behind = rw (behind, digits_in)
    run_found (byte ∷ digits) rest all behind = rw (all.0, digits_in) (ap (λ (l : List ℕ). byte ∷ l) (run_found digits rest all.1 behind))

    front : digits_in (drop start text) ≡ w.digits
    front = ap digits_in w.stands ∙ run_found w.digits (drop next text) w.all digit_walk_behind

    judged : (t : Bool) → same_bytes w.digits (decimal (value_from 0 w.digits)) ≡ t → pick_numeral t (numeral value next) ≡ numeral_at (drop start text) start
    unfolding numeral_at
    judged t e =
        ap₂ (λ (s : Bool) (number : Numeral). pick_numeral s number)
        (sym e ∙ ap (λ (l : List ℕ). same_bytes l (decimal (value_from 0 l))) (sym front))
        (ap₂ numeral (w.holds ∙ ap (λ (l : List ℕ). held (value_from 0 l)) (sym front)) (w.ends ∙ ap (λ (l : List ℕ). start + length l) (sym front)))

    -- the byte at the start is the first digit
    first_byte : (byte : ℕ) (digits : List ℕ) → w.digits ≡ byte ∷ digits → get_or text start 0 ≡ byte
    first_byte byte digits e =
        ap (λ (i : ℕ). get_or text i 0) (sym (add-zero start)) ∙ sym (get_or-drop start text 0 0)
        ∙ ap (λ (l : List ℕ). get_or l 0 0) (w.stands ∙ ap (λ (l : List ℕ). l ++ drop next text) e)

    first_digit : (byte : ℕ) (digits : List ℕ) → w.digits ≡ byte ∷ digits → (digit byte ≡ true) × (digit_at text start ≡ byte - 48)
    first_digit byte digits e =
        let is : digit byte ≡ true = (subst Digits e w.all).0 in
        (is, ap (λ (b : ℕ). cond (digit b) (b - 48) 10) (first_byte byte digits e) ∙ ap (λ (t : Bool). cond t (byte - 48) 10) is)

    -- no digit: no number
    pub numeral_none : next ≡ start → None ≡ numeral_at (drop start text) start
    numeral_none e = judged false (empty w.digits (omega (arith, w.ends)))
      where
        empty : (digits : List ℕ) → length digits ≡ 0 → same_bytes digits (decimal (value_from 0 digits)) ≡ false
        empty [] h = ap (same_bytes []) (decimal_begun (value_from 0 [])).same
        empty (byte ∷ digits) h = absurd (omega (arith, h))

    -- a 0 in front of other digits: no number
    pub numeral_zero : digit_at text start ≡ 0 → start + 1 < next → None ≡ numeral_at (drop start text) start
    numeral_zero zeroed longer = judged false (cases w.digits refl)
      where
        never : (byte second : ℕ) (more : List ℕ) (n : ℕ) → byte ≡ 48 → byte ∷ (second ∷ more) ≡ decimal n → ⊥
        never byte second more n low e =
            let b = decimal_begun n in
            let whole : byte ∷ (second ∷ more) ≡ b.first ∷ b.rest = e ∙ b.same in
            let first : byte ≡ b.first = cc in
            let rest : second ∷ more ≡ b.rest = cc in
            tenth b first rest (below_or_above 0 n)
          where
            tenth : (b : Begun n) → byte ≡ b.first → second ∷ more ≡ b.rest → (0 < n) ⊎ (n ≤ 0) → ⊥
            tenth b first rest (inl some) = omega (arith, b.not_zero some, first, low)
            tenth b first rest (inr none) = omega (arith, ap length (rest ∙ b.alone (omega arith)))

        cases : (digits : List ℕ) → w.digits ≡ digits → same_bytes w.digits (decimal (value_from 0 w.digits)) ≡ false
        cases [] e = absurd (omega (arith, w.ends, ap length e, longer))
        cases (byte ∷ []) e = absurd (omega (arith, w.ends, ap length e, longer))
        cases (byte ∷ (second ∷ more)) e =
            let f = first_digit byte (second ∷ more) e in
            let low : byte ≡ 48 = omega (arith, f.1, zeroed, (digit_bounds byte f.0).0) in
            false_of (same_bytes w.digits (decimal (value_from 0 w.digits))) (λ same.
            never byte second more (value_from 0 w.digits) low (sym e ∙ same_bytes_lem w.digits (decimal (value_from 0 w.digits)) same))

    -- one digit, or digits of which the first is not 0: the number that they stand for
    pub numeral_given : (next ≡ start → ⊥) → (digit_at text start ≡ 0 → ⊥) ⊎ (next ≤ start + 1) → numeral value next ≡ numeral_at (drop start text) start
    unfolding value_from
    numeral_given some right = judged true (cases w.digits refl right)
      where
        passes : (digits : List ℕ) → digits ≡ decimal (value_from 0 digits) → same_bytes digits (decimal (value_from 0 digits)) ≡ true
        passes digits e = subst (λ (l : List ℕ). same_bytes digits l ≡ true) e (bytes_same digits)

        single : (byte : ℕ) → digit byte ≡ true → byte ∷ [] ≡ decimal (value_from 0 (byte ∷ []))
        single byte is =
            let low : 48 ≤ byte = (digit_bounds byte is).0 in
            let high : byte ≤ 57 = (digit_bounds byte is).1 in
            ap (λ (b : ℕ). b ∷ []) (let one : byte ≡ 48 + (byte - 48) = omega arith in one) ∙ sym (decimal_small (byte - 48) (omega arith))
            ∙ ap decimal (sym (value_more [] byte tt is ∙ (let start : 10 * 0 + (byte - 48) ≡ byte - 48 = omega arith in start)))

        cases : (digits : List ℕ) → w.digits ≡ digits → (digit_at text start ≡ 0 → ⊥) ⊎ (next ≤ start + 1) → same_bytes w.digits (decimal (value_from 0 w.digits)) ≡ true
        cases [] e r = absurd (some (omega (arith, w.ends, ap length e)))
        cases (byte ∷ []) e r =
            passes w.digits (subst (λ (l : List ℕ). l ≡ decimal (value_from 0 l)) (sym e) (single byte (first_digit byte [] e).0))
        cases (byte ∷ (second ∷ more)) e (inr short) = absurd (omega (arith, w.ends, ap length e, short))
        cases (byte ∷ (second ∷ more)) e (inl other) =
            let f = first_digit byte (second ∷ more) e in
            let low : 48 ≤ byte = (digit_bounds byte f.0).0 in
            let above : 48 < byte = omega (arith, low, f.1, other) in
            passes w.digits
            (subst (λ (l : List ℕ). l ≡ decimal (value_from 0 l)) (sym e) (digits_decimal byte (second ∷ more) above (subst Digits e w.all)))
