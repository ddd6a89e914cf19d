-- `structure_patterns::table_of_pattern` meets its contract: what is refused leaves the buffer alone, at least k of n comes word by word, and a row
-- and a ring by the sets of neighbours that stop them. Assumes nothing.
use mathlib.Core.Path.{◌≡◌, sym, ap, ap₂, ◌∙◌}
use mathlib.Core.List.{List}
use Prim.Native.Nat.{ℕ}
use native.Mathlib.Omega.{arith}
use Rattle.std.specs.Prelude.{Ok}
use Rattle.answer.specs.Outcome.{Outcome, delivered, Numbered, Verdict}
use Rattle.numbers.proofs.Counts.{up_to_16_given}
use Rattle.theory_sets.specs.Tables.{table_of, table_length}
use Rattle.theory_patterns.specs.Patterns.{at_least}
use Rattle.structure_words.specs.Words.{bytes_in}
use Rattle.structure.proofs.Walks.{words_table}
use Rattle.structure_patterns.specs.Patterns.{patterned, pattern_refusal}
use Rattle.structure_patterns.specs.declared.Pattern.{Pattern}
use Rattle.structure_patterns.proofs.Claims.{AcceptedPattern, accepted_pattern}
use Rattle.structure_patterns.proofs.NeighbourSets.{row_table, ring_table}
use Rattle.structure_patterns.proofs.table_of_pattern.Goals as goal
use Rattle.structure_patterns.proofs.table_of_pattern.Goals.{In_ok-pattern_verdict}

verdict : (c : In_ok-pattern_verdict) → pattern_refusal c.args.n c.args.k ≡ Ok tt
verdict c = sym c.pattern_verdict.ensures ∙ c.in_ok-pattern_verdict.was

accepted : (c : In_ok-pattern_verdict) → AcceptedPattern c.args.n c.args.k
accepted c = accepted_pattern c.args.n c.args.k (verdict c)

-- what is handed out is the table of the pattern that is asked for
given : (n k : ℕ) (buffer : List ℕ) {pattern named : Pattern} {made : List ℕ} {left : Outcome Numbered (List ℕ)} → pattern ≡ named → pattern_refusal n k ≡ Ok tt
    → left ≡ delivered (Ok tt) made buffer → made ≡ table_of n (patterned named n k) → left ≡ delivered (pattern_refusal n k) (table_of n (patterned pattern n k)) buffer
given n k buffer asked passed e same =
    e
    ∙ ap₂ (λ (v : Verdict) (table : List ℕ). delivered v table buffer) (sym passed)
    (same ∙ ap (λ (p : Pattern). table_of n (patterned p n k)) (sym asked))

pub at_least-running-requires : goal.at_least-running-requires
at_least-running-requires c = (accepted (goal.at.at_least-running-requires c).In_ok-pattern_verdict).few

pub overflow_add-n : goal.overflow_add-n
overflow_add-n c = omega (arith, (accepted (goal.at.overflow_add-n c).In_ok-pattern_verdict).few)

pub overflow_sub-n : goal.overflow_sub-n
overflow_sub-n c = omega (arith, (accepted (goal.at.overflow_sub-n c).In_ok-pattern_verdict).most)

pub stopped_by_neighbours-requires : goal.stopped_by_neighbours-requires
stopped_by_neighbours-requires c =
    let p = accepted (goal.at.stopped_by_neighbours-requires c).In_ok-pattern_verdict in
    record { n_bound = p.few; le_k = p.some; k_le_n = p.most; le_count = omega (arith, p.most); count_le_n = omega (arith, p.some) }

pub stopped_by_neighbours-requires-in-Ring : goal.stopped_by_neighbours-requires-in-Ring
stopped_by_neighbours-requires-in-Ring c =
    let p = accepted (goal.at.stopped_by_neighbours-requires-in-Ring c).In_ok-pattern_verdict in
    record { n_bound = p.few; le_k = p.some; k_le_n = p.most; le_count = omega (arith, p.some, p.most); count_le_n = omega arith }

pub returns-in-AtLeast : goal.returns-in-AtLeast
returns-in-AtLeast c =
    let a = c.args in
    let few = (accepted (goal.at.returns-in-AtLeast c).In_ok-pattern_verdict).few in
    given a.n a.k a.table.now c.in-AtLeast.is (verdict (goal.at.returns-in-AtLeast c).In_ok-pattern_verdict) c.hand_out_table.ensures
    (ap₂ bytes_in (up_to_16_given a.n (table_length a.n) few) c.at_least-running.ensures ∙ words_table a.n (at_least a.k) few)

pub returns-in-Row : goal.returns-in-Row
returns-in-Row c =
    let a = c.args in
    given a.n a.k a.table.now c.in-Row.is (verdict (goal.at.returns-in-Row c).In_ok-pattern_verdict) c.stopped_by_neighbours.ensures
    (row_table a.n a.k (accepted (goal.at.returns-in-Row c).In_ok-pattern_verdict).some (accepted (goal.at.returns-in-Row c).In_ok-pattern_verdict).most)

pub returns-in-Ring : goal.returns-in-Ring
returns-in-Ring c =
    let a = c.args in
    given a.n a.k a.table.now c.in-Ring.is (verdict (goal.at.returns-in-Ring c).In_ok-pattern_verdict) c.stopped_by_neighbours-in-Ring.ensures
    (ring_table a.n a.k (accepted (goal.at.returns-in-Ring c).In_ok-pattern_verdict).some (accepted (goal.at.returns-in-Ring c).In_ok-pattern_verdict).most)
