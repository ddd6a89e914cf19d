-- Which path counts a vector stands for, when it is accepted, what it converts to, and which vectors a machine's figures are (01, "Vector sheets"
-- and refusals 1, 12, 13 and 14).
use Rattle.std.specs.Prelude.{Bool, not, ◌&&◌, ◌||◌, List, ℕ, suc, ◌-◌, ◌*◌, ◌/◌, ◌%◌, ltb, eqb, ℤ, pos, nat_abs, ◌*ℤ◌, length, get_or, Ok}
use Rattle.std.specs.Int.Signed.{lt_z}
use Rattle.numbers.specs.Counts.{factorial, choose}
use Rattle.numbers.specs.Tables.{tabulate}
use Rattle.theory_sums.specs.Sums.{sum_belowℤ}
use Rattle.theory_sets.specs.Masks.{any, least}
use Rattle.answer.specs.Outcome.{refuse, Verdict}
use Rattle.answer.specs.declared.Reason.TheVariants.{WrongVectorLength, WrongPathCount, FallingProportion}
use Rattle.answer.specs.Checks.{part_count_refusal}
use Rattle.theory_figures.specs.Figures.{tail, signature, domination, path_counts, tails, signatures, dominations}
use Rattle.vector_kind.specs.Kinds.{length_of}
use Rattle.vector_kind.specs.declared.Kind.{Kind}
use Rattle.vector_kind.specs.declared.Kind.TheVariants.{PathCounts, Tail, Signature, Domination}

-- ---- what a vector stands for

-- the entry at an index
abbrev pub entry_at : List ℤ → ℕ → ℤ
entry_at entries k = get_or entries k (pos 0)

-- The path count φ(j) times a unit. Tail: T(n-j). Signature: the T(n-j) that it stands for, where T(n) = 0 and T(k) = N(k+1) + .. + N(n);
-- N(k) is the entry k-1. Domination: the sum over i = 0..j of C(n-i, j-i) × d(i).
unfoldable pub scaled_count : Kind → ℕ → List ℤ → ℕ → ℤ
scaled_count PathCounts n entries j = entry_at entries j
scaled_count Tail n entries j = entry_at entries (n - j)
scaled_count Signature n entries j = sum_belowℤ (λ i. entry_at entries (n - suc i)) j
scaled_count Domination n entries j = sum_belowℤ (λ i. pos (choose (n - i) (j - i)) *ℤ entry_at entries i) (suc j)

-- the unit: T(n-j) is φ(j) × j! × (n-j)!
unfoldable pub unit_of : Kind → ℕ → ℕ → ℕ
unit_of PathCounts n j = 1
unit_of Tail n j = factorial j * factorial (n - j)
unit_of Signature n j = factorial j * factorial (n - j)
unit_of Domination n j = 1

-- a path count as a vector gives it: so many units
pub record Scaled : Type 0 where
  pub number : ℤ
  pub unit : ℕ

-- the path counts that a vector stands for, φ(j) at size j
abbrev pub stands_for : Kind → ℕ → List ℤ → ℕ → Scaled
stands_for kind n entries j = record { number = scaled_count kind n entries j; unit = unit_of kind n j }

-- a path count by itself, where it is whole and not negative
abbrev pub whole_count : Scaled → ℕ
whole_count count = nat_abs count.number / count.unit

abbrev pub counts_of : Kind → ℕ → List ℤ → ℕ → ℕ
counts_of kind n entries j = whole_count (stands_for kind n entries j)

-- ---- when it is accepted: by its path counts alone

-- 13: the path count of size j is not whole, outside 0..C(n,j), φ(0) not 0 or φ(n) not 1
unfoldable pub wrong_count : ℕ → (ℕ → Scaled) → ℕ → Bool
wrong_count n counts j =
    not (eqb (nat_abs (counts j).number % (counts j).unit) 0)
    || lt_z (counts j).number (pos 0) || ltb (choose n j) (whole_count (counts j))
    || eqb j 0 && not (eqb (whole_count (counts j)) 0)
    || eqb j n && not (eqb (whole_count (counts j)) 1)

-- 14: φ(j+1)/C(n,j+1) is below φ(j)/C(n,j)
unfoldable pub falls : ℕ → (ℕ → ℕ) → ℕ → Bool
falls n φ j = ltb (φ (suc j) * choose n j) (φ j * choose n (suc j))

-- the first refusal of path counts: all of 13 before any of 14, each at its smallest size
unfoldable pub path_counts_refusal : ℕ → (ℕ → Scaled) → Verdict
path_counts_refusal n counts =
    refuse (any (wrong_count n counts) (suc n)) WrongPathCount (least (wrong_count n counts) (suc n))
    (refuse (any (falls n (λ j. whole_count (counts j))) n) FallingProportion (least (falls n (λ j. whole_count (counts j))) n) (Ok tt))

-- that of the path counts that a vector stands for
unfoldable pub counts_refusal : Kind → ℕ → List ℤ → Verdict
counts_refusal kind n entries = path_counts_refusal n (stands_for kind n entries)

-- the first refusal of a vector
unfoldable pub vector_refusal : Kind → ℕ → List ℤ → Verdict
vector_refusal kind n entries =
    part_count_refusal 0 n (refuse (not (eqb (length entries) (length_of kind n))) WrongVectorLength 0 (counts_refusal kind n entries))

-- ---- what it converts to

-- the entry of a kind at an index, by the path counts
unfoldable pub figure : Kind → ℕ → (ℕ → ℕ) → ℕ → ℤ
figure PathCounts n φ k = pos (φ k)
figure Tail n φ k = pos (tail n φ k)
figure Signature n φ k = signature n φ (suc k)
figure Domination n φ k = domination n φ k

-- the vector of a kind
abbrev pub vector_of : Kind → ℕ → (ℕ → ℕ) → List ℤ
vector_of kind n φ = tabulate (length_of kind n) (figure kind n φ)

-- an accepted vector as one of another kind
abbrev pub converted : Kind → Kind → ℕ → List ℤ → List ℤ
converted target kind n entries = vector_of target n (counts_of kind n entries)

-- ---- the figures of a machine

-- of each kind the figure of its name
abbrev pub figures_of : Kind → ℕ → (ℕ → Bool) → List ℤ
figures_of PathCounts n works = path_counts n works
figures_of Tail n works = tails n works
figures_of Signature n works = signatures n works
figures_of Domination n works = dominations n works
