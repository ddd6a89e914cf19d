-- `vector_conversion::domination_count` meets its contract: the entry is added to what the terms of the smaller sizes leave.
-- Assumes nothing.
use mathlib.Core.Path.{ap, ◌∙◌}
use Prim.Native.Nat.{ℕ}
use native.Mathlib.Omega.{arith}
use lib.IntN.{ℤ, pos, ◌+ℤ◌, ◌-ℤ◌}
use Rattle.vector_conversion.specs.Inside.{count_in}
use Rattle.vector_conversion.proofs.CountAt.{entry_read, count_domination}
use Rattle.vector_conversion.proofs.domination_count.Goals as goal

pub returns : goal.returns
returns c =
    let a = c.args in
    let taken : ℕ = c.signed_terms-terms.result.taken in
    let added : ℕ = c.signed_terms-terms.result.added in
    c.count_of.ensures
    ∙ ap (λ (z : ℤ). count_in a.n a.j 1 (pos taken +ℤ z -ℤ pos added)) (entry_read a.entries.now a.j (omega arith))
    ∙ count_domination a.n a.entries.now a.counts.now a.j added taken c.requires.j_le_n c.requires.found
    c.signed_terms-terms.ensures.sums
