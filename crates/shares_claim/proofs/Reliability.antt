-- What h is: at all whole numbers x and z it has the value of 001's eq. 4, with x for the parts in the group and z for the rest. And h from the counts
-- of path sets by type: in each power of z the coefficients of x are dominations of the counts, and those of z come from them by the same binomials
-- with signs. Assumes nothing.
use mathlib.Core.Path.{◌≡◌, refl, sym, ap, ap₂, ◌∙◌}
use mathlib.Core.Bool.{Bool, true, false, cond, ◌&&◌}
use Prim.Native.Nat.{ℕ, zero, suc, ◌-◌, ◌^◌, ◌≤◌, ◌<◌}
use native.Mathlib.Omega.{arith}
use lib.Dec.{eqb}
use lib.IntN.{ℤ, pos, ◌-ℤ◌, ◌*ℤ◌, pow, one, *ℤ_comm, zero-*ℤ}
use Rattle.numbers.specs.Counts.{choose}
use Rattle.theory_sums.specs.Sums.{indicator, sum_belowℤ}
use Rattle.theory_sums.proofs.Integers.{*ℤ-unit, unit-*ℤ, ring}
use Rattle.theory_sums.proofs.IntegerSums.{sum_belowℤ_same}
use Rattle.theory_sums.proofs.Differences.{difference, monomial, expansion, monomial_same, monomial_other}
use Rattle.theory_sets.specs.Masks.{size, inside, outside}
use Rattle.theory_figures.specs.Figures.{sign, domination}
use Rattle.theory_sums.proofs.IntegerSums.{sum_belowℤ_only, sum_below_pos}
use Rattle.theory_figures.proofs.Dominations.{expansion_terms, domination_coefficient}
use Rattle.shares_claim.specs.Reliability.{reliability}
use Rattle.shares_claim.proofs.Types.{sum_of_type, sum_types, sum_reliability, type_count}

-- ---- the value of h

-- the differences of the powers of x: x^a (1-x)^k
difference_powers : (x : ℤ) (k a : ℕ) → difference k (pow x) a ≡ pow x a *ℤ pow (pos 1 -ℤ x) k
unfolding difference pow one
difference_powers x zero a = sym (*ℤ-unit (pow x a))
difference_powers x (suc k) a =
    ap₂ (λ (u v : ℤ). u -ℤ v) (difference_powers x k a) (difference_powers x k (suc a)) ∙ out (pow x a) x (pow (pos 1 -ℤ x) k)
  where
    out : (p x q : ℤ) → p *ℤ q -ℤ p *ℤ x *ℤ q ≡ p *ℤ (q *ℤ (pos 1 -ℤ x))
    out p x q = simp ring

-- the sum over the path sets A of x^|M∩A| (1-x)^|M without A| z^|A without M| (1-z)^(rest)
pub reliability_value : (n : ℕ) (works : ℕ → Bool) (group : ℕ) → group < 2 ^ n → (x z : ℤ)
    → sum_belowℤ (λ j. sum_belowℤ (λ i. pow x i *ℤ reliability n works group i j) (suc (size group)) *ℤ pow z j) (suc (n - size group))
    ≡ sum_belowℤ (λ a. pos (indicator (works a))
    *ℤ (pow x (inside group a) *ℤ pow (pos 1 -ℤ x) (size group - inside group a)
    *ℤ (pow z (outside group a) *ℤ pow (pos 1 -ℤ z) (n - size group - outside group a)))) (2 ^ n)
reliability_value n works group within x z =
    sum_reliability n works group within (pow x) (pow z)
    ∙ sum_belowℤ_same _ _ (2 ^ n) (λ a l. ap₂ (λ (u v : ℤ). pos (indicator (works a)) *ℤ (u *ℤ v))
    (difference_powers x (size group - inside group a) (inside group a))
    (difference_powers z (n - size group - outside group a) (outside group a)))

-- ---- counts by type

-- the coefficient of one power
sum_monomial : (f : ℕ → ℤ) (i k : ℕ) → i < k → sum_belowℤ (λ s. monomial i s *ℤ f s) k ≡ f i
sum_monomial f i k l =
    sum_belowℤ_only (λ s. monomial i s *ℤ f s) i k l (λ s m other.
    ap (λ (u : ℤ). u *ℤ f s) (monomial_other i s (λ e. other (sym e))) ∙ zero-*ℤ (f s))
    ∙ ap (λ (u : ℤ). u *ℤ f i) (monomial_same i) ∙ unit-*ℤ (f i)

type_count_sum : (n : ℕ) (works : ℕ → Bool) (group i j : ℕ)
    → pos (type_count n works group i j) ≡ sum_of_type n group (λ a. pos (indicator (works a))) i j
unfolding type_count
type_count_sum n works group i j =
    sum_below_pos _ (2 ^ n) ∙ sum_belowℤ_same _ _ (2 ^ n) (λ a l. one (works a) (eqb (inside group a) i && eqb (outside group a) j))
  where
    one : (w t : Bool) → pos (cond (w && t) 1 0) ≡ cond t (pos (indicator w)) (pos 0)
    one true true = refl
    one true false = refl
    one false true = refl
    one false false = refl

pub reliability_by_type : (n : ℕ) (works : ℕ → Bool) (group : ℕ) → group < 2 ^ n → (i j : ℕ) → i ≤ size group → j ≤ n - size group
    → reliability n works group i j
    ≡ sum_belowℤ (λ b. sign (j - b) *ℤ pos (choose (n - size group - b) (j - b)) *ℤ domination (size group) (λ a. type_count n works group a b) i) (suc j)
unfolding expansion
reliability_by_type n works group within i j few rest =
    sym (sum_belowℤ_same _ (λ z. monomial j z *ℤ reliability n works group i z) (suc (n - size group)) (λ z l.
    *ℤ_comm _ (monomial j z) ∙ ap (λ (u : ℤ). monomial j z *ℤ u) (sum_monomial (λ x. reliability n works group x z) i (suc (size group)) (omega arith)))
    ∙ sum_monomial (reliability n works group i) j (suc (n - size group)) (omega arith))
    ∙ sum_reliability n works group within (monomial i) (monomial j)
    ∙ sum_belowℤ_same _ _ (2 ^ n) (λ a l. *ℤ_comm (pos (indicator (works a))) (in_x (inside group a) *ℤ in_z (outside group a)))
    ∙ sym (sum_types n group within in_x in_z (λ a. pos (indicator (works a))))
    ∙ sum_belowℤ_same _ _ (suc (n - size group)) (λ b l. ap (λ (u : ℤ). u *ℤ in_z b)
    (sum_belowℤ_same _ _ (suc (size group)) (λ a m.
    ap (λ (u : ℤ). in_x a *ℤ u) (sym (type_count_sum n works group a b)) ∙ *ℤ_comm (in_x a) (pos (type_count n works group a b)))
    ∙ sym (domination_coefficient (size group) (λ a. type_count n works group a b) i few)))
    ∙ sym (expansion_terms (n - size group) (λ b. domination (size group) (λ a. type_count n works group a b) i) j rest)
  where
    -- the coefficients of x^i and of z^j that a set of a type gives
    in_x : ℕ → ℤ
    in_x a = difference (size group - a) (monomial i) a

    in_z : ℕ → ℤ
    in_z b = difference (n - size group - b) (monomial j) b
