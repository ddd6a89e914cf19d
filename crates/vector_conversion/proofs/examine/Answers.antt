-- `vector_conversion::examine` meets its contract: each check that refuses is the first that holds, and where none does all counts are found.
-- Assumes nothing.
use mathlib.Core.Path.{◌≡◌, sym, ap, ◌∙◌}
use native.Mathlib.Omega.{arith}
use lib.ListN.{length}
use Rattle.std.specs.Prelude.{Err}
use Rattle.std.proofs.lemmas.Result.{err_from_is_err_and}
use Rattle.vector_kind.specs.Kinds.{length_of}
use Rattle.vector_kind.proofs.KindNumbers.{entries_few}
use Rattle.vector_conversion.proofs.Refusals.{refused_parts, refused_length, refused_count, refused_fall, passed_all}
use Rattle.vector_conversion.proofs.examine.Goals as goal
use Rattle.vector_conversion.proofs.examine.Goals.{then-n-lt1-via-then-n-lt1, then-n-lt1-via-else-n-lt1+then-n-gt16}

pub returns-then-n-lt1 : goal.returns-then-n-lt1
returns-then-n-lt1 c =
    let a = c.args in
    ap Err c.at.ensures ∙ refused_parts a.kind a.n a.entries.now (elim c.then-n-lt1.branch [
      | then-n-lt1-via-then-n-lt1 w ↦ λ some few. omega (arith, some, w.if-n-lt1.true)
      | then-n-lt1-via-else-n-lt1+then-n-gt16 w ↦ λ some few. omega (arith, few, w.if-n-gt16.true)
    ])

-- the kind's own length is known, as n is at most 16
pub returns-then-entries : goal.returns-then-entries
returns-then-entries c =
    let a = c.args in
    let known : c.entries.result ≡ length_of a.kind a.n = c.entries.ensures ∙ entries_few a.kind a.n c.if-n-gt16.false in
    ap Err c.at-then-entries.ensures
    ∙ refused_length a.kind a.n a.entries.now c.if-n-lt1.false c.if-n-gt16.false (λ long. c.if-entries.true (long ∙ sym known))

pub returns-in_err-counts : goal.returns-in_err-counts
returns-in_err-counts c =
    let a = c.args in
    let long : length a.entries.now ≡ length_of a.kind a.n = c.if-entries.false ∙ c.entries.ensures ∙ entries_few a.kind a.n c.if-n-gt16.false in
    let p = err_from_is_err_and c.from_residual.result c.from_residual.ensures.1 in
    rw (p.1, p.2) (refused_count a.kind a.n a.entries.now c.if-n-lt1.false c.if-n-gt16.false long _ c.in_err-counts.ensures)

pub returns-then-fall-n : goal.returns-then-fall-n
returns-then-fall-n c =
    let a = c.args in
    let long : length a.entries.now ≡ length_of a.kind a.n = c.if-entries.false ∙ c.entries.ensures ∙ entries_few a.kind a.n c.if-n-gt16.false in
    ap Err c.at-then-fall-n.ensures
    ∙ refused_fall a.kind a.n a.entries.now c.if-n-lt1.false c.if-n-gt16.false long c.in_ok-counts.counts c.in_ok-counts.ensures
    c.first_fall-fall.result c.first_fall-fall.ensures c.if-fall-n.true

pub returns : goal.returns
returns c =
    let a = c.args in
    let long : length a.entries.now ≡ length_of a.kind a.n = c.if-entries.false ∙ c.entries.ensures ∙ entries_few a.kind a.n c.if-n-gt16.false in
    let found = c.in_ok-counts.ensures in
    record {
      few = found.few;
      accepted = passed_all a.kind a.n a.entries.now c.if-n-lt1.false c.if-n-gt16.false long c.in_ok-counts.counts found
          c.first_fall-fall.result c.first_fall-fall.ensures c.if-fall-n.false;
      cells = λ j h. found.cells j (omega (arith, h));
    }
