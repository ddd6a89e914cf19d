-- Factorials and binomials (01, "Figures"), and the range in which the calculator gives them.
use Rattle.std.specs.Prelude.{cond, ℕ, zero, suc, ◌+◌, ◌*◌, leb}

unfoldable pub factorial : ℕ → ℕ
factorial zero = 1
factorial (suc n) = suc n * factorial n

-- C(n,k), by Pascal's rule
unfoldable pub choose : ℕ → ℕ → ℕ
choose n zero = 1
choose zero (suc k) = 0
choose (suc n) (suc k) = choose n k + choose n (suc k)

-- a count that is given for n up to 16, and is 0 above
abbrev pub up_to_16 : ℕ → ℕ → ℕ
up_to_16 n count = cond (leb n 16) count 0
