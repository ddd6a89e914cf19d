-- `drawing_writing::put_set_line` meets its contract: the keyword, the positions and the line feed are placed one behind the other.
-- Assumes nothing.
use Rattle.drawing_text.specs.Forms.{set_word}
use Rattle.drawing_text.specs.Sets.{positions_of}
use Rattle.drawing_writing.proofs.Writing.{numbers_room, feed_room, line_put}
use Rattle.drawing_writing.proofs.put_set_line.Goals as goal

pub put_positions-positions-requires : goal.put_positions-positions-requires
put_positions-positions-requires c =
    let a = c.args in
    numbers_room set_word (positions_of a.set) a.text.now a.at c.requires _ _ c.put-word.ensures

pub end_line-requires : goal.end_line-requires
end_line-requires c =
    let a = c.args in
    feed_room set_word (positions_of a.set) a.text.now a.at c.requires _ _ c.put-word.ensures _ _ c.put_positions-positions.ensures

pub returns : goal.returns
returns c =
    let a = c.args in
    line_put set_word (positions_of a.set) a.text.now a.at c.requires _ _ c.put-word.ensures _ _ c.put_positions-positions.ensures _ _ c.end_line.ensures
