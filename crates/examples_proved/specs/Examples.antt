-- The examples of 01 that are marked † ("Examples on each edge"): what is asked of a structure, given by its list of sets, or of a vector,
-- and the answer.
use Rattle.std.specs.Prelude.{List, [], ◌∷◌, ℕ, ℤ, pos, negsuc, Ok, Err}
use Rattle.answer.specs.Outcome.{at, Verdict}
use Rattle.answer.specs.declared.Reason.TheVariants.{WrongPathCount, FallingProportion}
use Rattle.theory_sets.specs.Structures.{listed}
use Rattle.theory_figures.specs.Figures.{importance, path_counts, tails, signatures, dominations}
use Rattle.shares_claim.specs.SetBySet.{shares_by_sets}
use Rattle.shares_claim.specs.Reliability.{reliability_cells, shares_by_reliability}
use Rattle.shares_claim.specs.Claim.{group_counts}
use Rattle.vector_conversion.specs.Vectors.{vector_refusal}
use Rattle.vector_kind.specs.declared.Kind.{Kind}
use Rattle.vector_kind.specs.declared.Kind.TheVariants.{PathCounts, Tail}

-- a structure of n parts by its list of sets
pub record Structure : Type 0 where
  pub parts : ℕ
  pub sets : List ℕ

-- what is asked of it, or whether a vector of a kind and n is accepted
pub data Question : Type 0 where
  path_counts_of tail_of signature_of domination_of : Structure → Question
  importance_of : Structure → ℕ → Question
  counts_of shares_by_sets_of reliability_of shares_by_reliability_of : Structure → ℕ → Question
  verdict_of : Kind → ℕ → List ℤ → Question

-- figures, or a verdict
pub data Answer : Type 0 where
  figures : List ℤ → Answer
  verdict : Verdict → Answer

-- what the definitions give
abbrev pub value : Question → Answer
value (path_counts_of s) = figures (path_counts s.parts (listed s.sets))
value (tail_of s) = figures (tails s.parts (listed s.sets))
value (signature_of s) = figures (signatures s.parts (listed s.sets))
value (domination_of s) = figures (dominations s.parts (listed s.sets))
value (importance_of s position) = figures (pos (importance s.parts (listed s.sets) position) ∷ [])
value (counts_of s group) = figures (group_counts s.parts (listed s.sets) group)
value (shares_by_sets_of s group) = figures (shares_by_sets s.parts (listed s.sets) group)
value (reliability_of s group) = figures (reliability_cells s.parts (listed s.sets) group)
value (shares_by_reliability_of s group) = figures (shares_by_reliability s.parts (listed s.sets) group)
value (verdict_of kind n entries) = verdict (vector_refusal kind n entries)

pub record Example : Type 0 where
  pub question : Question
  pub answer : Answer

abbrev gives : Question → List ℤ → Example
gives question cells = record { question = question; answer = figures cells }

abbrev is_judged : Question → Verdict → Example
is_judged question answer = record { question = question; answer = verdict answer }

-- {1,4}, {2,3,4}, {2,5}, {1,3,5}
abbrev pub bridge : Structure
bridge = record { parts = 5; sets = 9 ∷ 14 ∷ 18 ∷ 21 ∷ [] }

-- the group of positions 1, 2, 3, and that of all
abbrev pub first_three : ℕ
first_three = 7

abbrev pub all_five : ℕ
all_five = 31

-- h(x,z) = 2xz + 2x²z - 2x³z - 3x²z² + 2x³z²: for each power of x the coefficients of 1, z, z²
abbrev pub bridge_reliability : List ℤ
bridge_reliability = pos 0 ∷ pos 0 ∷ pos 0 ∷ pos 0 ∷ pos 2 ∷ pos 0 ∷ pos 0 ∷ pos 2 ∷ negsuc 2 ∷ pos 0 ∷ negsuc 1 ∷ pos 2 ∷ []

-- one part: {1}
abbrev pub single : Structure
single = record { parts = 1; sets = 1 ∷ [] }

-- two parts: {1}, {2}; {1,2}; {1}
abbrev pub parallel : Structure
parallel = record { parts = 2; sets = 1 ∷ 2 ∷ [] }

abbrev pub series : Structure
series = record { parts = 2; sets = 3 ∷ [] }

abbrev pub idle_second : Structure
idle_second = record { parts = 2; sets = 1 ∷ [] }

-- the group of position 2, and that of both
abbrev pub second : ℕ
second = 2

abbrev pub both : ℕ
both = 3

abbrev pub examples : List Example
examples =
    gives (path_counts_of bridge) (pos 0 ∷ pos 0 ∷ pos 2 ∷ pos 8 ∷ pos 5 ∷ pos 1 ∷ [])
    ∷ gives (tail_of bridge) (pos 120 ∷ pos 120 ∷ pos 96 ∷ pos 24 ∷ pos 0 ∷ pos 0 ∷ [])
    ∷ gives (counts_of bridge all_five) (pos 0 ∷ pos 24 ∷ pos 72 ∷ pos 24 ∷ pos 0 ∷ [])
    ∷ gives (counts_of bridge first_three) (pos 0 ∷ pos 44 ∷ pos 20 ∷ [])
    ∷ gives (shares_by_sets_of bridge first_three) (pos 0 ∷ pos 44 ∷ pos 20 ∷ [])
    ∷ gives (reliability_of bridge first_three) bridge_reliability
    ∷ gives (shares_by_reliability_of bridge first_three) (pos 0 ∷ pos 44 ∷ pos 20 ∷ [])
    ∷ gives (signature_of single) (pos 1 ∷ [])
    ∷ gives (domination_of single) (pos 0 ∷ pos 1 ∷ [])
    ∷ gives (signature_of parallel) (pos 0 ∷ pos 2 ∷ [])
    ∷ gives (counts_of parallel both) (pos 0 ∷ pos 2 ∷ [])
    ∷ gives (domination_of parallel) (pos 0 ∷ pos 2 ∷ negsuc 0 ∷ [])
    ∷ gives (signature_of series) (pos 2 ∷ pos 0 ∷ [])
    ∷ gives (counts_of series both) (pos 2 ∷ pos 0 ∷ [])
    ∷ gives (domination_of series) (pos 0 ∷ pos 0 ∷ pos 1 ∷ [])
    ∷ gives (signature_of idle_second) (pos 1 ∷ pos 1 ∷ [])
    ∷ gives (counts_of idle_second both) (pos 1 ∷ pos 1 ∷ [])
    ∷ gives (importance_of idle_second 2) (pos 0 ∷ [])
    ∷ gives (counts_of idle_second second) (pos 0 ∷ [])
    ∷ is_judged (verdict_of PathCounts 3 (pos 0 ∷ pos 3 ∷ pos 2 ∷ pos 1 ∷ [])) (Err (at FallingProportion 1))
    ∷ is_judged (verdict_of PathCounts 4 (pos 0 ∷ pos 0 ∷ pos 1 ∷ pos 1 ∷ pos 1 ∷ [])) (Ok tt)
    ∷ is_judged (verdict_of Tail 5 (pos 120 ∷ pos 120 ∷ pos 100 ∷ pos 24 ∷ pos 0 ∷ pos 0 ∷ [])) (Err (at WrongPathCount 3))
    ∷ []
