-- The machine of n parts that a pattern and its threshold k describe (02, §6), the family of sets that stop it, and the order of checks.
use Rattle.std.specs.Prelude.{Bool, not, ◌&&◌, List, ℕ, leb, Ok}
use Rattle.answer.specs.Checks.{part_count_refusal}
use Rattle.answer.specs.Outcome.{refuse, Verdict}
use Rattle.answer.specs.declared.Reason.TheVariants.{WrongThreshold}
use Rattle.theory_patterns.specs.Patterns.{at_least, row, ring, at_least_family, row_family, ring_family}
use Rattle.structure_patterns.specs.declared.Pattern.{Pattern}
use Rattle.structure_patterns.specs.declared.Pattern.TheVariants.{AtLeast, Row, Ring}

-- on which sets it runs
abbrev pub patterned : Pattern → ℕ → ℕ → ℕ → Bool
patterned AtLeast n k = at_least k
patterned Row n k = row n k
patterned Ring n k = ring n k

-- which sets stop it: exactly if the failed parts hold one of them
abbrev pub family_of : Pattern → ℕ → ℕ → List ℕ
family_of AtLeast n k = at_least_family n k
family_of Row n k = row_family n k
family_of Ring n k = ring_family n k

-- 1, and "29, k not 1..n, right after 1, place 0"
unfoldable pub pattern_refusal : ℕ → ℕ → Verdict
pattern_refusal n k = part_count_refusal 0 n (refuse (not (leb 1 k && leb k n)) WrongThreshold 0 (Ok tt))
