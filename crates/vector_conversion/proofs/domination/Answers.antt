-- `vector_conversion::domination` meets its contract: the sums of both signs are below 2^60, and the last term is the count itself.
-- Assumes nothing.
use mathlib.Core.Path.{◌∙◌}
use Prim.Native.Nat.{◌+◌}
use native.Mathlib.Omega.{arith}
use mir.Facts.{to_z-of_z}
use mir.Syntax.{w64}
use Rattle.integers.proofs.Differences.{difference_small}
use Rattle.vector_conversion.specs.Inside.{cells_of}
use Rattle.vector_conversion.proofs.Scaled.{domination_terms}
use Rattle.vector_conversion.proofs.domination.Goals as goal

pub returns : goal.returns
returns c =
    let a = c.args in
    let terms = c.signed_terms-terms.result in
    let signed = c.signed_terms-terms.ensures in
    to_z-of_z {w = w64} (record { sfits = c.difference.type_inv }) ∙ c.difference.ensures
    ∙ difference_small (terms.added + cells_of a.counts.now a.k) terms.taken
    (omega (arith, signed.few_added, c.requires.none_over a.k)) (omega (arith, signed.few_taken))
    ∙ domination_terms a.n (cells_of a.counts.now) a.k terms.added terms.taken signed.sums
