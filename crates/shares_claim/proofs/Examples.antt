-- The steps of Algorithm 2 for the bridge with all parts as the group (001, example 3), computed; 01's own † examples are in the list of
-- `examples_proved`.
-- Assumes nothing.
use mathlib.Core.Path.{◌≡◌, refl}
use mathlib.Core.List.{List, [], ◌∷◌}
use Prim.Native.Nat.{ℕ}
use lib.ListN.{get_or}
use lib.IntN.{ℤ, pos, negsuc}
use Rattle.numbers.specs.Counts.{choose}
use Rattle.numbers.specs.Tables.{tabulate}
use Rattle.theory_sums.specs.Sums.{sum_belowℤ}
use Rattle.shares_claim.specs.Polynomials.{derivative, reflected, shifted}

-- a polynomial in x by the list of its coefficients
polynomial : List ℤ → ℕ → ℤ
polynomial coefficients i = get_or coefficients i (pos 0)

-- h(x) = 2x² + 2x³ - 5x⁴ + 2x⁵
bridge_h : ℕ → ℤ
unfolding polynomial
bridge_h = polynomial (pos 0 ∷ pos 0 ∷ pos 2 ∷ pos 2 ∷ negsuc 4 ∷ pos 2 ∷ [])

-- g(x) = 4x + 6x² - 20x³ + 10x⁴
bridge_derivative : tabulate 5 (derivative bridge_h) ≡ pos 0 ∷ pos 4 ∷ pos 6 ∷ negsuc 19 ∷ pos 10 ∷ []
unfolding bridge_h polynomial tabulate derivative
bridge_derivative = refl

-- (R⁴ g)(x) = 10 - 20x + 6x² + 4x³
bridge_reflected : tabulate 5 (reflected 4 (derivative bridge_h)) ≡ pos 10 ∷ negsuc 19 ∷ pos 6 ∷ pos 4 ∷ pos 0 ∷ []
unfolding bridge_h polynomial tabulate derivative reflected
bridge_reflected = refl

-- (R⁴ g)(x+1) = 4x + 18x² + 4x³
bridge_shifted : tabulate 5 (shifted 4 (reflected 4 (derivative bridge_h))) ≡ pos 0 ∷ pos 4 ∷ pos 18 ∷ pos 4 ∷ pos 0 ∷ []
unfolding bridge_h polynomial tabulate derivative reflected shifted choose sum_belowℤ
bridge_shifted = refl
