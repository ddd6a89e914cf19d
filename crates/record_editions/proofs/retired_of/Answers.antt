-- `record_editions::retired_of` meets its contract: the retired numbers that reading tells are handed out.
-- Assumes nothing.
use mathlib.Core.Path.{◌∙◌}
use Rattle.record_editions.proofs.Whole.{Told, stored_told, retired_refused, retired_given_lem, retired_room, retired_counted}
use Rattle.record_editions.proofs.retired_of.Goals as goal
use Rattle.record_editions.proofs.retired_of.Goals.{After-whole_stored-read}

-- `record_editions::retired_of` meets its contract: the retired numbers that reading tells are handed out.
-- Assumes nothing.

-- what reading tells
told : (c : After-whole_stored-read) → Told c.args.bytes.now c.whole_stored-read.result
told c = stored_told c.args.bytes.now c.whole_stored-read.result c.whole_stored-read.ensures

pub returns-in-Err : goal.returns-in-Err
returns-in-Err c =
    let a = c.args in
    retired_refused _ c.whole_stored-read.result (told (goal.at.returns-in-Err c).After-whole_stored-read) a.buffer.now _ c.in-Err.is

pub slice_bounds-numbers-end : goal.slice_bounds-numbers-end
slice_bounds-numbers-end c = retired_room _ c.whole_stored-read.result (told (goal.at.slice_bounds-numbers-end c).After-whole_stored-read)

pub slice_bounds-hand_out-end : goal.slice_bounds-hand_out-end
slice_bounds-hand_out-end c = retired_counted _ c.whole_stored-read.result (told (goal.at.slice_bounds-hand_out-end c).After-whole_stored-read)

pub returns : goal.returns
returns c =
    let a = c.args in
    c.hand_out.ensures ∙ retired_given_lem _ c.whole_stored-read.result (told (goal.at.returns c).After-whole_stored-read) a.buffer.now c.in_default.is
