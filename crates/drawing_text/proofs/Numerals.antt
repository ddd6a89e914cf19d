-- Laws of numbers in a text: the digits of a decimal stand for its number, digits without a leading zero are the decimal of what they stand
-- for, and where a run of digits ends is decided by the bytes alone.
-- Assumes nothing.
use mathlib.Core.Path.{◌≡◌, refl, sym, ap, ap₂, ◌∙◌, subst}
use mathlib.Core.Bool.{true, false}
use mathlib.Core.List.{List, [], ◌∷◌, ◌++◌, append_assoc, append-nil}
use mathlib.Core.Logic.{⊎_elim}
use Prim.Native.Nat.{ℕ, zero, suc, ◌+◌, ◌-◌, ◌*◌, ◌/◌, ◌%◌, ◌≤◌, ◌<◌}
use native.Mathlib.Nat.{le_refl}
use native.Mathlib.Omega.{arith}
use borrow.Author.Tests.{leb-true, le-leb}
use lib.Dec.{leb}
use Rattle.numbers.proofs.Bools.{and_left, and_right, and_both, clash}
use Rattle.numbers.proofs.Bounds.{below_or_above}
use Rattle.text.specs.Texts.{decimal}
use Rattle.text.proofs.Decimals.{decimal_small, decimal_large}
use Rattle.drawing_text.specs.Forms.{digit, value_from}

-- ---- one digit

pub digit_bounds : (byte : ℕ) → digit byte ≡ true → (48 ≤ byte) × (byte ≤ 57)
digit_bounds byte h =
    (leb-true 48 byte (and_left (leb 48 byte) (leb byte 57) h), leb-true byte 57 (and_right (leb 48 byte) (leb byte 57) h))

pub digit_of : (byte : ℕ) → 48 ≤ byte → byte ≤ 57 → digit byte ≡ true
digit_of byte low high = and_both (le-leb 48 byte low) (le-leb byte 57 high)

-- ---- runs of digits

-- all bytes are digits
abbrev pub Digits : List ℕ → Type 0
Digits [] = Unit
Digits (byte ∷ bytes) = (digit byte ≡ true) × Digits bytes

-- no digit stands in front
abbrev pub NoDigit : List ℕ → Type 0
NoDigit [] = Unit
NoDigit (byte ∷ bytes) = digit byte ≡ false

pub digits_append : (front rest : List ℕ) → Digits front → Digits rest → Digits (front ++ rest)
digits_append [] rest f r = r
digits_append (byte ∷ front) rest f r = (f.0, digits_append front rest f.1 r)

value_digit : (front byte : ℕ) (bytes : List ℕ) → digit byte ≡ true → value_from front (byte ∷ bytes) ≡ value_from (10 * front + (byte - 48)) bytes
unfolding value_from
value_digit front byte bytes h = rw (h, value_from)

value_other : (front : ℕ) (bytes : List ℕ) → NoDigit bytes → value_from front bytes ≡ front
unfolding value_from
value_other front [] h = refl
value_other front (byte ∷ bytes) h = rw (h, value_from)

pub value_append : (front : ℕ) (digits rest : List ℕ) → Digits digits → value_from front (digits ++ rest) ≡ value_from (value_from front digits) rest
unfolding value_from
value_append front [] rest h = refl
value_append front (byte ∷ digits) rest h =
    value_digit front byte (digits ++ rest) h.0 ∙ value_append (10 * front + (byte - 48)) digits rest h.1
    ∙ ap (λ (v : ℕ). value_from v rest) (sym (value_digit front byte digits h.0))

-- what stands behind the digits does not matter
pub value_run : (front : ℕ) (digits rest : List ℕ) → Digits digits → NoDigit rest → value_from front (digits ++ rest) ≡ value_from front digits
value_run front digits rest h none = value_append front digits rest h ∙ value_other (value_from front digits) rest none

-- one digit more
pub value_more : (digits : List ℕ) (byte : ℕ) → Digits digits → digit byte ≡ true → value_from 0 (digits ++ (byte ∷ [])) ≡ 10 * value_from 0 digits + (byte - 48)
unfolding value_from
value_more digits byte h d = value_append 0 digits (byte ∷ []) h ∙ value_digit (value_from 0 digits) byte [] d

-- two runs of digits in front of the same bytes, each with no digit behind it, are the same
pub run_same : (a b r s : List ℕ) → Digits a → Digits b → NoDigit r → NoDigit s → a ++ r ≡ b ++ s → (a ≡ b) × (r ≡ s)
run_same [] [] r s da db nr ns e = (refl, e)
run_same [] (y ∷ b) r s da db nr ns e = clash db.0 (subst NoDigit e nr)
run_same (x ∷ a) [] r s da db nr ns e = clash da.0 (subst NoDigit (sym e) ns)
run_same (x ∷ a) (y ∷ b) r s da db nr ns e =
    let first : x ≡ y = cc in
    let rest : a ++ r ≡ b ++ s = cc in
    let same = run_same a b r s da.1 db.1 nr ns rest in
    (ap₂ (λ (z : ℕ) (l : List ℕ). z ∷ l) first same.0, same.1)

-- a byte that stands nowhere among others
abbrev pub Without : ℕ → List ℕ → Type 0
Without other [] = Unit
Without other (byte ∷ bytes) = (byte ≡ other → ⊥) × Without other bytes

pub without_append : (other : ℕ) (front rest : List ℕ) → Without other front → Without other rest → Without other (front ++ rest)
without_append other [] rest f r = r
without_append other (byte ∷ front) rest f r = (f.0, without_append other front rest f.1 r)

-- what is below every digit stands nowhere among digits
pub digits_without : (other : ℕ) → other < 48 → (digits : List ℕ) → Digits digits → Without other digits
digits_without other low [] h = tt
digits_without other low (byte ∷ digits) h = ((λ e. omega (arith, low, e, (digit_bounds byte h.0).0)), digits_without other low digits h.1)

-- ---- the decimal of a number

-- what holds of every digit, and of a number where it holds of its tenth, holds of every number
by_tenths : (P : ℕ → Type 0) → ((n : ℕ) → n < 10 → P n) → ((n : ℕ) → 10 ≤ n → P (n / 10) → P n) → (n : ℕ) → P n
by_tenths P one more n = go n n (le_refl n)
  where
    go : (steps n : ℕ) → n ≤ steps → P n
    go zero n h = one n (omega arith)
    go (suc steps) n h =
        let rest : 10 ≤ n → P (n / 10) = λ g. go steps (n / 10) (omega arith) in
        ⊎_elim (λ g. one n g) (λ g. more n g (rest g)) (below_or_above n 10)

last_digit : (n : ℕ) → digit (48 + n % 10) ≡ true
last_digit n = digit_of (48 + n % 10) (omega arith) (omega arith)

pub decimal_digits : (n : ℕ) → Digits (decimal n)
decimal_digits =
    by_tenths (λ n. Digits (decimal n)) (λ n h. subst Digits (sym (decimal_small n h)) (digit_of (48 + n) (omega arith) (omega arith), tt))
    (λ n h rest. subst Digits (sym (decimal_large n h)) (digits_append (decimal (n / 10)) ((48 + n % 10) ∷ []) rest (last_digit n, tt)))

pub decimal_value : (n : ℕ) → value_from 0 (decimal n) ≡ n
unfolding value_from
decimal_value =
    by_tenths (λ n. value_from 0 (decimal n) ≡ n)
    (λ n h.
    ap (value_from 0) (decimal_small n h) ∙ value_more [] (48 + n) tt (digit_of (48 + n) (omega arith) (omega arith)) ∙ none n)
    (λ n h rest.
    ap (value_from 0) (decimal_large n h) ∙ value_more (decimal (n / 10)) (48 + n % 10) (decimal_digits (n / 10)) (last_digit n)
    ∙ ap (λ (v : ℕ). 10 * v + (48 + n % 10 - 48)) rest ∙ omega arith)
  where
    none : (n : ℕ) → 10 * value_from 0 [] + (48 + n - 48) ≡ n
    none n = omega arith

-- what a decimal begins with: a digit, which is 0 only for 0
pub record Begun (n : ℕ) : Type 0 where
  pub first : ℕ
  pub rest : List ℕ
  pub same : decimal n ≡ first ∷ rest
  pub digits : digit first ≡ true
  pub not_zero : 0 < n → 48 < first
  pub alone : n < 10 → rest ≡ []

pub decimal_begun : (n : ℕ) → Begun n
decimal_begun =
    by_tenths Begun
    (λ n h. record {
      first = 48 + n;
      rest = [];
      same = decimal_small n h;
      digits = digit_of (48 + n) (omega arith) (omega arith);
      not_zero = λ some. omega arith;
      alone = λ small. refl;
    })
    (λ n h tenth. record {
      first = tenth.first;
      rest = tenth.rest ++ ((48 + n % 10) ∷ []);
      same = decimal_large n h ∙ ap (λ (l : List ℕ). l ++ ((48 + n % 10) ∷ [])) tenth.same;
      digits = tenth.digits;
      not_zero = λ some. tenth.not_zero (omega arith);
      alone = λ small. absurd (omega arith);
    })

-- digits behind a decimal are the decimal of what they all stand for
decimal_more : (front : ℕ) (digits : List ℕ) → 1 ≤ front → Digits digits → decimal front ++ digits ≡ decimal (value_from front digits)
unfolding value_from
decimal_more front [] some h = append-nil (decimal front)
decimal_more front (byte ∷ digits) some h =
    let low : 48 ≤ byte = (digit_bounds byte h.0).0 in
    let high : byte ≤ 57 = (digit_bounds byte h.0).1 in
    let next : ℕ = 10 * front + (byte - 48) in
    let tenth : (10 * front + (byte - 48)) / 10 ≡ front = omega arith in
    let last : 48 + (10 * front + (byte - 48)) % 10 ≡ byte = omega arith in
    sym (append_assoc (decimal front) (byte ∷ []) digits)
    ∙ ap (λ (l : List ℕ). l ++ digits)
    (ap₂ (λ (f b : ℕ). decimal f ++ (b ∷ [])) (sym tenth) (sym last) ∙ sym (decimal_large (10 * front + (byte - 48)) (omega arith)))
    ∙ decimal_more (10 * front + (byte - 48)) digits (omega arith) h.1
    ∙ ap decimal (sym (value_digit front byte digits h.0))

-- digits of which the first is not 0 are the decimal of what they stand for
pub digits_decimal : (byte : ℕ) (digits : List ℕ) → 48 < byte → Digits (byte ∷ digits) → byte ∷ digits ≡ decimal (value_from 0 (byte ∷ digits))
digits_decimal byte digits first h =
    let high : byte ≤ 57 = (digit_bounds byte h.0).1 in
    let one : 48 + (byte - 48) ≡ byte = omega arith in
    let start : 10 * 0 + (byte - 48) ≡ byte - 48 = omega arith in
    ap (λ (b : ℕ). b ∷ digits) (sym one) ∙ ap (λ (l : List ℕ). l ++ digits) (sym (decimal_small (byte - 48) (omega arith)))
    ∙ decimal_more (byte - 48) digits (omega arith) h.1
    ∙ ap decimal (ap (λ (v : ℕ). value_from v digits) (sym start) ∙ sym (value_digit 0 byte digits h.0))
