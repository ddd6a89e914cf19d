-- `drawing_writing::put_parts_line` meets its contract: the keyword, the number and the line feed are placed one behind the other.
-- Assumes nothing.
use mathlib.Core.List.{[], ◌∷◌}
use Prim.Native.Nat.{◌+◌, ◌≤◌}
use native.Mathlib.Omega.{arith}
use lib.ListN.{length}
use Rattle.drawing_text.specs.Forms.{parts_word, line_of}
use Rattle.drawing_writing.proofs.Writing.{numbers_room, feed_room, line_put}
use Rattle.drawing_writing.proofs.put_parts_line.Goals as goal

pub put_number-number-requires : goal.put_number-number-requires
put_number-number-requires c =
    -- there is room for the line in front
    let room : 0 + length (line_of parts_word (c.args.n ∷ [])) ≤ length c.args.text.now =
    omega arith in
    let a = c.args in record { number_bound = omega arith; number_in_bounds = numbers_room parts_word (a.n ∷ []) a.text.now 0 room _ _ c.put-word.ensures }

pub end_line-requires : goal.end_line-requires
end_line-requires c =
    -- there is room for the line in front
    let room : 0 + length (line_of parts_word (c.args.n ∷ [])) ≤ length c.args.text.now =
    omega arith in
    let a = c.args in
    feed_room parts_word (a.n ∷ []) a.text.now 0 room _ _ c.put-word.ensures _ _ c.put_number-number.ensures

pub returns : goal.returns
returns c =
    -- there is room for the line in front
    let room : 0 + length (line_of parts_word (c.args.n ∷ [])) ≤ length c.args.text.now =
    omega arith in
    let a = c.args in
    line_put parts_word (a.n ∷ []) a.text.now 0 room _ _ c.put-word.ensures _ _ c.put_number-number.ensures _ _ c.end_line.ensures
