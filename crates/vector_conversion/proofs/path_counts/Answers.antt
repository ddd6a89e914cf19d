-- `vector_conversion::path_counts` meets its contract: below the size reached the counts are right and found.
-- Assumes nothing.
use mathlib.Core.Path.{◌≡◌, refl, sym, ◌∙◌, subst}
use Prim.Native.Nat.{ℕ, suc, ◌+◌, ◌<◌}
use native.Mathlib.Omega.{arith}
use lib.ListN.{length, set, length-set}
use Rattle.vector_conversion.proofs.CountAt.{count_wrong, found_more}
use Rattle.vector_conversion.specs.Inside.{Found}
use Rattle.vector_conversion.proofs.path_counts.Goals as goal

pub returns-in_default : goal.returns-in_default
returns-in_default c =
    let a = c.args in
    rw c.at.ensures (record {
      told = refl;
      within = omega arith;
      right = c.loop-j.invariant.2.right;
      first = count_wrong a.kind a.n a.entries.now c.loop-j.j (sym c.count_at.ensures ∙ c.in_default.is);
    })

pub loop-j-preserved : goal.loop-j-preserved
loop-j-preserved c =
    let a = c.args in
    let inv = c.loop-j.invariant in
    let x : ℕ = c.in-Some.count in
    let inside : c.loop-j.j < length c.loop-j.cells = omega (arith, inv.1) in (
      omega arith,
      length-set c.loop-j.cells c.loop-j.j x ∙ inv.1,
      found_more a.kind a.n a.entries.now c.loop-j.j c.loop-j.cells x c.requires.n_bound inside inv.2
          (sym c.count_at.ensures ∙ c.in-Some.is),
    )

-- behind the last size all counts are found
pub returns-in-Some : goal.returns-in-Some
returns-in-Some c =
    let a = c.args in
    let inv = c.loop-j.invariant in
    let inside : c.loop-j.j < length c.loop-j.cells = omega (arith, inv.1) in
    let last : c.loop-j.j + 1 ≡ suc a.n = omega arith in
    subst (Found a.kind a.n a.entries.now (set c.loop-j.cells c.loop-j.j c.in-Some.count)) last
    (found_more a.kind a.n a.entries.now c.loop-j.j c.loop-j.cells c.in-Some.count c.requires.n_bound inside inv.2 (sym c.count_at.ensures ∙ c.in-Some.is))
