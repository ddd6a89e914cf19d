-- The path counts of a machine made of blocks, from the structure of its blocks and the path counts of each (02, §10; 003, section 3). Block b, from
-- 0, has `sizes b` parts and φ b j path sets of j parts; of r blocks, `works` says on which sets of them the whole runs.
use Rattle.std.specs.Prelude.{Bool, true, false, ◌≡◌, ℕ, zero, suc, ◌-◌, ◌*◌, ◌≤◌, ◌<◌, eqb}
use Rattle.numbers.specs.Counts.{choose}
use Rattle.theory_sums.specs.Sums.{indicator, sum_below, sum_sets}
use Rattle.theory_sets.specs.Masks.{has}

-- the coefficient j of the product of two polynomials with the coefficients f and g
unfoldable pub product : (ℕ → ℕ) → (ℕ → ℕ) → ℕ → ℕ
product f g j = sum_below (λ i. f i * g (j - i)) (suc j)

-- how many sets of j parts leave a block of n parts in a state: on φ(j) of them it runs, and on the other C(n,j) - φ(j) it is stopped
abbrev pub in_state : Bool → ℕ → (ℕ → ℕ) → ℕ → ℕ
in_state true n φ j = φ j
in_state false n φ j = choose n j - φ j

-- how many sets of j parts of the first r blocks leave exactly those of them running that are in the set of blocks
unfoldable pub ways : (ℕ → ℕ) → (ℕ → ℕ → ℕ) → ℕ → ℕ → ℕ → ℕ
ways sizes φ zero running j = indicator (eqb j 0)
ways sizes φ (suc r) running j = product (in_state (has running r) (sizes r) (φ r)) (ways sizes φ r running) j

-- the path count of size j of the whole: over the path sets of blocks
unfoldable pub count_of_blocks : (ℕ → ℕ) → (ℕ → ℕ → ℕ) → ℕ → (ℕ → Bool) → ℕ → ℕ
count_of_blocks sizes φ r works j = sum_sets r works (λ running. ways sizes φ r running j)

-- the parts of the first r blocks
abbrev pub parts_in : (ℕ → ℕ) → ℕ → ℕ
parts_in sizes r = sum_below sizes r

-- what 13 and 14 ask of the path counts of n parts, of which none are beyond n, whether or not some machine has them
pub record RisingCounts (n : ℕ) (φ : ℕ → ℕ) : Type 0 where
  pub most : (j : ℕ) → φ j ≤ choose n j
  pub none : φ 0 ≡ 0
  pub all : φ n ≡ 1
  pub rises : (j : ℕ) → j < n → φ j * choose n (suc j) ≤ φ (suc j) * choose n j
