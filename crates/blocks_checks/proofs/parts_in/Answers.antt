-- `blocks_checks::parts_in` meets its contract: each of at most 16 sizes is at most 16, so that the sum is at most 256.
-- Assumes nothing.
use Prim.Native.Nat.{◌^◌, ◌<◌}
use mathlib.Core.Path.{◌≡◌, ◌∙◌}
use native.Mathlib.Omega.{arith}
use Rattle.std.specs.List.{sum}
use Rattle.std.proofs.Common.{rules}
use Rattle.std.proofs.iter.runs.Made.{chains}
use Rattle.blocks_checks.proofs.Given.{all_parts}
use Rattle.blocks_checks.proofs.parts_in.Goals as goal

pub sum-requires-clause-fits : goal.sum-requires-clause-fits
sum-requires-clause-fits c =
    let few : sum c.args.sizes.now < 2 ^ 64 = omega (arith, all_parts c.args.sizes.now c.requires.sizes_len_bound c.requires.sizes_value) in
    search (rules, chains, few)

pub returns : goal.returns
returns c =
    let parts = all_parts c.args.sizes.now c.requires.sizes_len_bound c.requires.sizes_value in
    let same : c.sum.result ≡ sum c.args.sizes.now = search (rules, chains) in
    (same ∙ parts.0, omega arith)
