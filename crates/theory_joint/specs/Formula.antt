-- Document 004's joint signature, times n!, as sums over two sets of n parts. The count (Joint.antt) uses none of it; that it is what the
-- formula gives is proved (proofs/Formula.antt).
use Rattle.std.specs.Prelude.{Bool, cond, ◌&&◌, ℕ, ◌-◌, ◌*◌, eqb, ℤ, pos, ◌+ℤ◌, ◌-ℤ◌}
use Rattle.numbers.specs.Counts.{factorial}
use Rattle.theory_sums.specs.Sums.{sum_sets}
use Rattle.theory_sets.specs.Masks.{size, holds}

-- of a set of i parts and one of j parts inside it: (n-i)! × (i-j)! × j!
abbrev pub nestings : ℕ → ℕ → ℕ → ℕ
nestings n i j = factorial (n - i) * factorial (i - j) * factorial j

-- n! × q0(A,B) (004, eq. 8)
unfoldable pub quality : ℕ → ℕ → ℕ → ℕ
quality n a b = cond (holds a b) (nestings n (size a) (size b)) (cond (holds b a) (nestings n (size b) (size a)) 0)

-- a path set with s parts
abbrev pub path_of : (ℕ → Bool) → ℕ → ℕ → Bool
path_of works s a = works a && eqb (size a) s

-- the joint tail, k and l = 0..n: over the path sets A of the first with n-k parts and B of the second with n-l parts (004, eq. 12)
unfoldable pub joint_tail : ℕ → (ℕ → Bool) → (ℕ → Bool) → ℕ → ℕ → ℕ
joint_tail n first second k l = sum_sets n (path_of first (n - k)) (λ a. sum_sets n (path_of second (n - l)) (quality n a))

-- the joint signature, k and l = 1..n (004, Corollary 2.2)
unfoldable pub joint_signature : ℕ → (ℕ → Bool) → (ℕ → Bool) → ℕ → ℕ → ℤ
joint_signature n first second k l = tail (k - 1) (l - 1) -ℤ tail k (l - 1) -ℤ tail (k - 1) l +ℤ tail k l
  where
    tail : ℕ → ℕ → ℤ
    tail i j = pos (joint_tail n first second i j)

-- what is computed: how many path sets of the outer machine with i parts hold a path set of the inner with j, pair by pair
unfoldable pub nested_pairs : ℕ → (ℕ → Bool) → (ℕ → Bool) → ℕ → ℕ → ℕ
nested_pairs n outer inner i j = sum_sets n (path_of outer i) (λ a. sum_sets n (λ b. path_of inner j b && holds a b) (λ b. 1))
