-- `record_retired::place` meets its contract: the first that is above the number has as many in front of it as stand in front.
-- Assumes nothing.
use mathlib.Core.Path.{refl, sym, ◌∙◌}
use Prim.Native.Nat.{◌≤◌, ◌<◌}
use native.Mathlib.Numerals.{add-one}
use borrow.Author.Tests.{lt-ltb, le-ltb, tests}
use Rattle.std.proofs.Common.{rules}
use Rattle.std.proofs.lemmas.Iterator.{YieldsList-from_slice, IsFirst-from_position, index_from_first}
use Rattle.record_retired.specs.Steps.{in_front}
use Rattle.record_retired.proofs.place.Goals as goal

pub returns : goal.returns
unfolding in_front
returns c =
    let number = c.args.number in
    let list = c.args.numbers.now in
    c.unwrap_or.ensures
    ∙ sym (index_from_first (in_front number) (λ x. number < x) (λ x. x ≤ number) refl (λ x xs h. rw (lt-ltb number x h)) (λ x xs h. rw (le-ltb number x h, add-one)) list _
    (IsFirst-from_position _ _ _ (λ x. number < x) (λ x. x ≤ number) c.position.ensures.ran (YieldsList-from_slice list cc) (λ x q k. search (rules, tests)) (λ x q k. search (rules, tests))))
