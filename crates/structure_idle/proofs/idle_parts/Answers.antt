-- `structure_idle::idle_parts` meets its contract: a refused table is refused, and the words of an accepted one give its mask.
-- Assumes nothing.
use mathlib.Core.Path.{◌≡◌, sym, ap, ◌∙◌}
use mathlib.Core.List.{List}
use Prim.Native.Nat.{ℕ, min}
use Rattle.std.specs.Prelude.{Ok}
use Rattle.answer.proofs.Outcomes.{valued_given}
use Rattle.theory_sets.specs.Tables.{packed, in_table}
use Rattle.theory_sets.specs.Idle.{idle, idle_parts}
use Rattle.structure_words.specs.Words.{in_words}
use Rattle.structure.specs.Checks.{table_refusal}
use Rattle.structure.proofs.Acceptance.{accepted_table}
use Rattle.structure_idle.proofs.Claims.{words_idle}
use Rattle.structure_idle.proofs.idle_parts.Goals as goal
use Rattle.structure_idle.proofs.idle_parts.Goals.{In_ok-table_verdict}

-- nothing refuses
accepted : (c : In_ok-table_verdict) → table_refusal c.args.n c.args.table.now ≡ Ok tt
accepted c = sym c.table_verdict.ensures ∙ c.in_ok-table_verdict.was

pub returns : goal.returns
returns c =
    let a = c.args in
    ap Ok (
    c.idle_parts.ensures ∙ ap (λ (words : List ℕ). packed (min a.n 16) (idle 16 (in_words words))) c.load-loaded.ensures
    ∙ words_idle a.n a.table.now (accepted_table a.n a.table.now (accepted (goal.at.returns c).In_ok-table_verdict)))
    ∙ valued_given (table_refusal a.n a.table.now) (idle_parts a.n (in_table a.table.now)) (accepted (goal.at.returns c).In_ok-table_verdict)
