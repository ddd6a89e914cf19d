-- Sums and counts: over lists, over the numbers below a bound, and over sets of parts.
use Rattle.std.specs.Prelude.{Bool, true, false, cond, ◌&&◌, ◌||◌, List, [], ◌∷◌, ℕ, zero, suc, ◌+◌, ◌^◌, eqb, ℤ, pos, ◌+ℤ◌}

-- 1 for a test that passes and 0 for one that fails
abbrev pub indicator : Bool → ℕ
indicator true = 1
indicator false = 0

-- the sum of f over the entries of a list
unfoldable pub sum : {A : Type 0} → (A → ℕ) → List A → ℕ
sum f [] = 0
sum f (x ∷ xs) = f x + sum f xs

-- how many entries of a list pass a test
abbrev pub how_many : {A : Type 0} → (A → Bool) → List A → ℕ
how_many test xs = sum (λ x. indicator (test x)) xs

-- some entry of a list passes a test
unfoldable pub some : {A : Type 0} → (A → Bool) → List A → Bool
some test [] = false
some test (x ∷ xs) = test x || some test xs

-- the sum of f over the numbers below k
unfoldable pub sum_below : (ℕ → ℕ) → ℕ → ℕ
sum_below f zero = 0
sum_below f (suc k) = sum_below f k + f k

-- the sum of f over the sets of n parts, which are the masks below 2^n, that pass a test
abbrev pub sum_sets : ℕ → (ℕ → Bool) → (ℕ → ℕ) → ℕ
sum_sets n test f = sum_below (λ a. cond (test a) (f a) 0) (2 ^ n)

-- the sum of an amount over the numbers below t that pass a test and whose class is i
unfoldable pub gathered : (ℕ → Bool) → (ℕ → ℕ) → (ℕ → ℕ) → ℕ → ℕ → ℕ
gathered test class amount t i = sum_below (λ a. cond (test a && eqb (class a) i) (amount a) 0) t

-- the sum of integers f over the numbers below k
unfoldable pub sum_belowℤ : (ℕ → ℤ) → ℕ → ℤ
sum_belowℤ f zero = pos 0
sum_belowℤ f (suc k) = sum_belowℤ f k +ℤ f k
