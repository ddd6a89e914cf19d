-- `shares_by_polynomial::shares_by_reliability` meets its contract: h is worked out in an array; where that is refused, so are the shares, and else they
-- come from its coefficients alone.
-- Assumes nothing.
use mathlib.Core.Path.{refl, sym, ap₂, ◌∙◌}
use mathlib.Core.List.{List}
use native.Mathlib.Nat.{le_trans, le_of_eq}
use native.Mathlib.Omega.{arith}
use lib.Count.{ones-le}
use lib.IntN.{ℤ, pos}
use lib.ListN.{replicate}
use Rattle.answer.specs.Outcome.{delivered, Verdict}
use Rattle.theory_sets.specs.Tables.{in_table}
use Rattle.shares_claim.specs.Reliability.{shares_by_reliability}
use Rattle.shares_claim.proofs.Claim.{accepted_group}
use Rattle.shares_by_polynomial.proofs.ThroughH.{coefficients_bounded, shares_in_range, shares_same, found_refused, found_given}
use Rattle.shares_by_polynomial.proofs.shares_by_reliability.Goals as goal

pub write_shares-requires : goal.write_shares-requires
write_shares-requires c =
    let a = c.args in
    let works = in_table a.table.now in
    let found = found_given a.n a.table.now a.group (replicate 289 (pos 0)) _ c.reliability.result refl c.reliability.ensures _ c.in_ok-count.was in
    let group = accepted_group a.n a.table.now a.group found.accepted in
    record {
      n_bound = group.few;
      m_le_n = le_trans (le_of_eq c.size-m.ensures) (ones-le a.n a.group group.within);
      bounded = coefficients_bounded a.n works a.group group.within _ _ found.stands c.size-m.result c.size-m.ensures;
      by_index = shares_in_range a.n works a.group group.within _ _ found.stands c.size-m.result c.size-m.ensures group.coherent;
    }

pub returns-in_err-count : goal.returns-in_err-count
returns-in_err-count c =
    let a = c.args in
    let kept = found_refused a.n a.table.now a.group (replicate 289 (pos 0)) _ c.reliability.result refl c.reliability.ensures _ c.in_err-count.was
    (shares_by_reliability a.n (in_table a.table.now) a.group) a.shares.now in
    grind (arith, kept)

pub returns : goal.returns
returns c =
    let a = c.args in
    let works = in_table a.table.now in
    let found = found_given a.n a.table.now a.group (replicate 289 (pos 0)) _ c.reliability.result refl c.reliability.ensures _ c.in_ok-count.was in
    let group = accepted_group a.n a.table.now a.group found.accepted in
    c.write_shares.ensures
    ∙ ap₂ (λ (v : Verdict) (xs : List ℤ). delivered v xs a.shares.now) (sym found.accepted)
    (shares_same a.n works a.group group.within _ _ found.stands c.size-m.result c.size-m.ensures)
