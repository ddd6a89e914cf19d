-- `blocks_checks::blocks_verdict` meets its contract: the checks are made in the order of the definition, and an accepted table is over at most 16
-- blocks.
-- Assumes nothing.
use mathlib.Core.Path.{◌≡◌, sym, ◌∙◌}
use native.Mathlib.Omega.{arith}
use lib.ListN.{length}
use Rattle.std.specs.Prelude.{Ok}
use Rattle.structure.specs.Checks.{table_refusal}
use Rattle.structure.proofs.Acceptance.{accepted_table}
use Rattle.blocks_checks.specs.Refusals.{sizes_refusal}
use Rattle.blocks_checks.proofs.blocks_verdict.Goals as goal

pub counts_verdict-requires : goal.counts_verdict-requires
counts_verdict-requires c =
    let table_right : let a = c.args in table_refusal a.blocks a.table.now ≡ Ok tt =
    sym c.table_verdict.ensures ∙ c.in_ok-table_verdict.was in
    let sizes_right : let sizes = c.args.sizes.now in sizes_refusal sizes (length sizes) ≡ Ok tt =
    sym c.sizes_verdict.ensures ∙ c.in_ok-sizes_verdict.was in
    let a = c.args in
    record {
      sizes_len_bound = omega (arith, (accepted_table a.blocks a.table.now table_right).few, c.if-sizes-blocks.false);
      sizes_value = sizes_right;
    }
