-- What the private functions do: a reader of the promises may pass this file over.
use Rattle.std.specs.Prelude.{Bool, true, false, not, ◌&&◌, ◌||◌, List, ◌≡◌, ℕ, suc, ◌-◌, ◌/◌, ◌^◌, ◌≤◌, ◌<◌, ltb, eqb, ℤ, pos, nat_abs, ◌-ℤ◌, ◌*ℤ◌, get_or, cond, Option, None, Some, Result, Ok, Err}
use Rattle.answer.specs.Outcome.{at}
use Rattle.answer.specs.declared.Reason.TheVariants.{WrongPathCount}
use Rattle.answer.specs.declared.Refusal.{Refusal}
use Rattle.numbers.specs.Tables.{NoneOver}
use Rattle.numbers.specs.Counts.{choose}
use Rattle.theory_sums.specs.Sums.{sum_belowℤ}
use Rattle.theory_figures.specs.Figures.{sign}
use Rattle.vector_conversion.specs.Vectors.{scaled_count, unit_of, stands_for, counts_of, wrong_count, falls, vector_refusal}
use Rattle.vector_kind.specs.declared.Kind.{Kind}

-- ---- one count

-- the count of size j in a number that has it with its unit
abbrev pub count_in : ℕ → ℕ → ℕ → ℤ → Option ℕ
count_in n j unit z = cond (wrong_count n (λ i. record { number = z; unit = unit }) j) None (Some (nat_abs z / unit))

-- what 13 asks of a whole count of size j that is not negative
unfoldable pub off_range : ℕ → ℕ → ℕ → Bool
off_range n j count = ltb (choose n j) count || eqb j 0 && not (eqb count 0) || eqb j n && not (eqb count 1)

-- the count of size j in a vector
unfoldable pub count_at : Kind → ℕ → List ℤ → ℕ → Option ℕ
count_at kind n entries j = count_in n j (unit_of kind n j) (scaled_count kind n entries j)

-- ---- all counts

-- a list of counts as a function
abbrev pub cells_of : List ℕ → ℕ → ℕ
cells_of counts j = get_or counts j 0

-- the counts of a vector below size j are right and found
pub record Found (kind : Kind) (n : ℕ) (entries : List ℤ) (counts : List ℕ) (j : ℕ) : Type 0 where
  pub few : NoneOver 12870 counts
  pub right : (i : ℕ) → i < j → wrong_count n (stands_for kind n entries) i ≡ false
  pub cells : (i : ℕ) → i < j → get_or counts i 0 ≡ counts_of kind n entries i

-- a refusal for the first wrong count of a vector
pub record FirstWrong (kind : Kind) (n : ℕ) (entries : List ℤ) (why : Refusal) : Type 0 where
  pub told : why ≡ at WrongPathCount why.place
  pub within : why.place ≤ n
  pub right : (i : ℕ) → i < why.place → wrong_count n (stands_for kind n entries) i ≡ false
  pub first : wrong_count n (stands_for kind n entries) why.place ≡ true

-- all counts of a vector, or a refusal for the first wrong one
abbrev pub CountsAs : Kind → ℕ → List ℤ → Result (List ℕ) Refusal → Type 0
CountsAs kind n entries (Ok counts) = Found kind n entries counts (suc n)
CountsAs kind n entries (Err why) = FirstWrong kind n entries why

-- the first size from which the proportion falls, or n
pub record FirstFall (n : ℕ) (counts : List ℕ) (fall : ℕ) : Type 0 where
  pub within : fall ≤ n
  pub rises : (j : ℕ) → j < fall → falls n (cells_of counts) j ≡ false
  pub first : fall < n → falls n (cells_of counts) fall ≡ true

-- the path counts of an accepted vector
pub record Examined (kind : Kind) (n : ℕ) (entries : List ℤ) (counts : List ℕ) : Type 0 where
  pub few : NoneOver 12870 counts
  pub accepted : Ok tt ≡ vector_refusal kind n entries
  pub cells : (j : ℕ) → j ≤ n → get_or counts j 0 ≡ counts_of kind n entries j

-- the path counts of a vector, or its refusal
abbrev pub ExaminedAs : Kind → ℕ → List ℤ → Result (List ℕ) Refusal → Type 0
ExaminedAs kind n entries (Ok counts) = Examined kind n entries counts
ExaminedAs kind n entries (Err why) = Err why ≡ vector_refusal kind n entries

-- ---- the terms of a domination

-- the terms of d(k) by the path counts below k, added and taken
pub record TermsOf (n : ℕ) (φ : ℕ → ℕ) (k added taken : ℕ) : Type 0 where
  pub few_added : added < 2 ^ 60
  pub few_taken : taken < 2 ^ 60
  pub sums : pos added -ℤ pos taken ≡ sum_belowℤ (λ i. sign (k - i) *ℤ pos (choose (n - i) (k - i)) *ℤ pos (φ i)) k
