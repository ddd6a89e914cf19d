-- Laws of decimal digits: a number's digits are those of its tenth and then its last one, they are the fewest that hold it, and a number of
-- 64 bits has at most 20, and a sign makes it 21.
-- Assumes nothing.
use mathlib.Core.Path.{◌≡◌, refl, sym, ap, ◌∙◌, subst}
use mathlib.Core.Bool.{Bool, cond}
use mathlib.Core.List.{List, [], ◌∷◌, ◌++◌}
use mathlib.Core.Logic.{⊎_elim}
use Prim.Native.Nat.{ℕ, zero, suc, ◌+◌, ◌-◌, ◌*◌, ◌/◌, ◌%◌, ◌^◌, ◌≤◌, ◌<◌}
use native.Mathlib.Nat.{le_refl, mod-eq_of_lt, mod-lt, zero-lt-suc, pow-suc, one-le-pow, not-suc-le-zero, le_of_eq}
use native.Mathlib.Numerals.{sub-one}
use native.Mathlib.Omega.{arith}
use lib.IntN.{ℤ, pos, negsuc}
use lib.ListN.{length, length-append}
use mir.Syntax.{w64}
use mir.Val.{Fits, SFits}
use borrow.Author.Tests.{lt-ltb, le-ltb}
use Rattle.io.specs.Digits.{hex_digit_ascii, last_digits, IsDigitCount}
use Rattle.numbers.proofs.Bounds.{below_or_above}
use Rattle.text.specs.Texts.{spelled, decimal, signed}

-- ---- one digit, and one digit more

spelled_small : (more n : ℕ) → n < 10 → spelled more n ≡ (48 + n) ∷ []
unfolding spelled
spelled_small zero n h = refl
spelled_small (suc more) n h = rw (lt-ltb n 10 h, spelled)

spelled_large : (more n : ℕ) → 10 ≤ n → spelled (suc more) n ≡ spelled more (n / 10) ++ ((48 + n % 10) ∷ [])
unfolding spelled
spelled_large more n h = rw (le-ltb n 10 h, spelled)

-- as many further digits as the number is large are enough, and more change nothing
spelled_enough : (more other n : ℕ) → n ≤ more → n ≤ other → spelled more n ≡ spelled other n
spelled_enough zero other n h l = spelled_small zero n (omega arith) ∙ sym (spelled_small other n (omega arith))
spelled_enough (suc more) zero n h l = spelled_small (suc more) n (omega arith) ∙ sym (spelled_small zero n (omega arith))
spelled_enough (suc more) (suc other) n h l =
    ⊎_elim (λ small. spelled_small (suc more) n small ∙ sym (spelled_small (suc other) n small)) (λ large.
    spelled_large more n large
    ∙ ap (λ (front : List ℕ). front ++ ((48 + n % 10) ∷ [])) (spelled_enough more other (n / 10) (omega arith) (omega arith))
    ∙ sym (spelled_large other n large)) (below_or_above n 10)

pub decimal_small : (n : ℕ) → n < 10 → decimal n ≡ (48 + n) ∷ []
unfolding decimal
decimal_small n h = spelled_small n n h

pub decimal_large : (n : ℕ) → 10 ≤ n → decimal n ≡ decimal (n / 10) ++ ((48 + n % 10) ∷ [])
unfolding decimal
decimal_large zero h = absurd (omega arith)
decimal_large (suc n) h =
    spelled_large n (suc n) h
    ∙ ap (λ (front : List ℕ). front ++ ((48 + suc n % 10) ∷ [])) (spelled_enough n (suc n / 10) (suc n / 10) (omega arith) (le_refl (suc n / 10)))

-- ---- the fewest digits that hold a number are its decimal

glyph_digit : (d : ℕ) → d < 10 → hex_digit_ascii d ≡ 48 + d
glyph_digit d h = ap (λ (t : Bool). cond t (48 + d) (87 + d)) (lt-ltb d 10 h)

pub digits_decimal : (k n : ℕ) → IsDigitCount 10 1 n k → last_digits 10 k n ≡ decimal n
digits_decimal zero n f = absurd (not-suc-le-zero f.0)
digits_decimal (suc zero) n f =
    let small : n < 10 = f.1 in
    ap (λ (d : ℕ). d ∷ []) (ap hex_digit_ascii (mod-eq_of_lt small) ∙ glyph_digit n small) ∙ sym (decimal_small n small)
digits_decimal (suc (suc k)) n f =
    let most : n < 10 ^ suc k * 10 = subst (λ (x : ℕ). n < x) (pow-suc 10 (suc k)) f.1 in
    let least : 10 ^ k * 10 ≤ n = subst (λ (x : ℕ). x ≤ n) (ap (λ (e : ℕ). 10 ^ e) (sub-one (suc (suc k))) ∙ pow-suc 10 k) (f.2 (omega arith)) in
    let some : 1 ≤ 10 ^ k = one-le-pow k 10 (zero-lt-suc 9) in
    let fewer : IsDigitCount 10 1 (n / 10) (suc k) = (omega arith, omega arith, λ more. below k more least) in
    ap (λ (front : List ℕ). front ++ (hex_digit_ascii (n % 10) ∷ [])) (digits_decimal (suc k) (n / 10) fewer)
    ∙ ap (λ (d : ℕ). decimal (n / 10) ++ (d ∷ [])) (glyph_digit (n % 10) (mod-lt n (zero-lt-suc 9)))
    ∙ sym (decimal_large n (omega arith))
  where
    below : (k : ℕ) → 1 < suc k → 10 ^ k * 10 ≤ n → 10 ^ (suc k - 1) ≤ n / 10
    below k more least = subst (λ (x : ℕ). 10 ^ x ≤ n / 10) (sym (sub-one (suc k))) (omega arith)

pub decimal_most : (k n : ℕ) → n < 10 ^ suc k → length (decimal n) ≤ suc k
decimal_most zero n h = le_of_eq (ap length (decimal_small n h))
decimal_most (suc k) n h =
    ⊎_elim (λ small. subst (λ (text : List ℕ). length text ≤ suc (suc k)) (sym (decimal_small n small)) (omega arith)) (λ large.
    let tenth : n < 10 ^ suc k * 10 = subst (λ (x : ℕ). n < x) (pow-suc 10 (suc k)) h in
    subst (λ (text : List ℕ). length text ≤ suc (suc k)) (sym (decimal_large n large))
    (omega (arith, length-append (decimal (n / 10)) ((48 + n % 10) ∷ []), decimal_most k (n / 10) (omega arith)))) (below_or_above n 10)

pub decimal_few : (n : ℕ) → Fits w64 n → length (decimal n) ≤ 20
decimal_few n fits = let small : n < 10 ^ 20 = omega arith in decimal_most 19 n small

pub signed_few : (z : ℤ) → SFits w64 z → length (signed z) ≤ 21
unfolding signed
signed_few (pos n) fits = let small : n < 10 ^ 20 = omega (arith, fits.sfits) in omega (arith, decimal_most 19 n small)
signed_few (negsuc n) fits = let small : suc n < 10 ^ 20 = omega (arith, fits.sfits) in omega (arith, decimal_most 19 (suc n) small)
