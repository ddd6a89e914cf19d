-- `record_editions::read_stored` meets its contract: the fields of edition 1, behind the numbers 0 and 2 where these stand there.
-- Assumes nothing.
use mathlib.Core.Path.{◌≡◌, sym, ◌∙◌}
use mathlib.Core.Bool.{true}
use native.Mathlib.Omega.{arith}
use Rattle.record_editions.specs.Editions.{second_there}
use Rattle.record_editions.proofs.Answers.{second_room, first_given, second_refused, second_few, second_given}
use Rattle.record_editions.proofs.read_stored.Goals as goal
use Rattle.record_editions.proofs.read_stored.Goals.{After-read_with_words-body}

pub returns-then-not-second_there : goal.returns-then-not-second_there
returns-then-not-second_there c =
    let a = c.args in
    c.first_edition.ensures
    ∙ first_given a.bytes.now a.start c.read_with_words.result (sym c.second_there.ensures ∙ c.if-not-second_there.true) c.read_with_words.ensures

pub overflow_add-start : goal.overflow_add-start
overflow_add-start c =
    let a = c.args in
    let room = second_room a.bytes.now a.start (sym c.second_there.ensures ∙ c.if-not-second_there.false) in
    omega (arith, room, c.shared_slice_known-1.given 0)

-- the numbers 0 and 2 stand there
there : (c : After-read_with_words-body) → second_there c.args.bytes.now c.args.start ≡ true
there c = sym c.second_there.ensures ∙ c.if-not-second_there.false

pub second_edition-requires : goal.second_edition-requires
second_edition-requires c =
    let a = c.args in
    let few = second_few a.bytes.now a.start c.read_with_words-body.result (there (goal.at.second_edition-requires c).After-read_with_words-body) c.read_with_words-body.ensures (λ i. omega (arith, c.shared_slice_known-1.given i)) c.in-Ok.is in
    record { count_le_most_parts = few.0; count_in_bounds = few.1 }

pub returns-in-Err : goal.returns-in-Err
returns-in-Err c =
    let a = c.args in
    c.first_edition-in-Err.ensures
    ∙ second_refused a.bytes.now a.start c.read_with_words-body.result (there (goal.at.returns-in-Err c).After-read_with_words-body) c.read_with_words-body.ensures _ c.in-Err.is

pub returns-in-Ok : goal.returns-in-Ok
returns-in-Ok c =
    let a = c.args in
    c.second_edition.ensures
    ∙ second_given a.bytes.now a.start c.read_with_words-body.result (there (goal.at.returns-in-Ok c).After-read_with_words-body) c.read_with_words-body.ensures (λ i. omega (arith, c.shared_slice_known-1.given i)) c.in-Ok.is
