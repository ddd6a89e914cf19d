-- 003's equations (12) and (13), with u = x - 1, by their values at the whole numbers u. The count (Blocks.antt) uses none of it; that its values are
-- these is proved (proofs/Formula.antt).
use Rattle.std.specs.Prelude.{Bool, true, false, ℕ, zero, suc, ◌+◌, ◌-◌, ◌*◌, ◌^◌}
use Rattle.theory_sums.specs.Sums.{sum_below, sum_sets}
use Rattle.theory_sets.specs.Masks.{has}

-- (13): the n-reflected of the diagonal section of h, the sum of C(n,k) S(k) (x-1)^k over k = 0..n; S(k) is the tail signature φ(n-k) / C(n,n-k)
unfoldable pub reflected : ℕ → (ℕ → ℕ) → ℕ → ℕ
reflected n φ u = sum_below (λ k. φ (n - k) * u ^ k) (suc n)

-- x^n z or x^n (1 - z), where z is what (12) puts in for a block of n parts, x^-n times its (13)
abbrev pub factor : Bool → ℕ → (ℕ → ℕ) → ℕ → ℕ
factor true n φ u = reflected n φ u
factor false n φ u = (1 + u) ^ n - reflected n φ u

-- the product of the factors of the first r blocks, of which those in the set of blocks run
unfoldable pub factors : (ℕ → ℕ) → (ℕ → ℕ → ℕ) → ℕ → ℕ → ℕ → ℕ
factors sizes φ zero running u = 1
factors sizes φ (suc r) running u = factor (has running r) (sizes r) (φ r) u * factors sizes φ r running u

-- (12): x^n h(z_1, .., z_r), h being the multilinear polynomial of the structure of the blocks: the sum over its path sets of the products of z_b for
-- the blocks inside and of 1 - z_b for those outside
unfoldable pub decomposed : (ℕ → ℕ) → (ℕ → ℕ → ℕ) → ℕ → (ℕ → Bool) → ℕ → ℕ
decomposed sizes φ r works u = sum_sets r works (λ running. factors sizes φ r running u)
