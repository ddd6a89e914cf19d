-- `drawing_writing::write_text` meets its contract: the needed length is known before anything is written, and where there is room the lines stand
-- behind the first.
-- Assumes nothing.
use mathlib.Core.Path.{◌≡◌, refl, ap, ◌∙◌}
use mathlib.Core.List.{[], ◌∷◌}
use Prim.Native.Nat.{◌+◌, ◌≤◌}
use native.Mathlib.Omega.{arith}
use lib.ListN.{length, length-append}
use Rattle.std.specs.Prelude.{Ok, Err}
use Rattle.answer.specs.Outcome.{outcome, Numbered}
use Rattle.answer.proofs.Outcomes.{InFront, in_front_none, in_front_delivered}
use Rattle.answer.proofs.Placing.{in_front_more}
use Rattle.answer.proofs.Deliveries.{delivered_short}
use Rattle.drawing_text.specs.Forms.{parts_word, line_of}
use Rattle.drawing_text.specs.Writing.{lines_of_sets, text_of}
use Rattle.drawing_text.proofs.Lengths.{parts_line_most, set_lines_most}
use Rattle.drawing_writing.proofs.Writing.{room_behind}
use Rattle.drawing_writing.proofs.write_text.Goals as goal

pub overflow_add-needed : goal.overflow_add-needed
overflow_add-needed c =
    let a = c.args in
    omega (
      arith,
      c.parts_line_length.ensures,
      c.set_lines_length.ensures,
      parts_line_most a.n (omega (arith, c.requires.n_le_most_parts)),
      set_lines_most a.sets.now,
      c.requires.sets_len_bound,
    )

pub returns-then-buffer-needed : goal.returns-then-buffer-needed
returns-then-buffer-needed c =
    -- the two lengths together are the text's
    let whole : c.parts_line_length.result + c.set_lines_length.result ≡ length (text_of c.args.n c.args.sets.now) =
    let a = c.args in
    omega (arith, c.parts_line_length.ensures, c.set_lines_length.ensures, length-append (line_of parts_word (a.n ∷ [])) (lines_of_sets a.sets.now)) in
    let a = c.args in
    ap (λ (w : Numbered). outcome w a.buffer.now) (ap Err c.at.ensures)
    ∙ delivered_short (Ok tt) (text_of a.n a.sets.now) a.buffer.now refl _ whole c.if-buffer-needed.true

pub put_parts_line-first-requires : goal.put_parts_line-first-requires
put_parts_line-first-requires c =
    -- the two lengths together are the text's
    let whole : c.parts_line_length.result + c.set_lines_length.result ≡ length (text_of c.args.n c.args.sets.now) =
    let a = c.args in
    omega (arith, c.parts_line_length.ensures, c.set_lines_length.ensures, length-append (line_of parts_word (a.n ∷ [])) (lines_of_sets a.sets.now)) in
    -- and it fits
    let fits : 0 + length (text_of c.args.n c.args.sets.now) ≤ length c.args.buffer.now =
    omega (arith, whole, c.if-buffer-needed.false) in
    let a = c.args in record { n_le_most_parts = c.requires.n_le_most_parts; n_in_bounds = omega (arith, fits, length-append (line_of parts_word (a.n ∷ [])) (lines_of_sets a.sets.now)) }

pub put_set_lines-end-requires : goal.put_set_lines-end-requires
put_set_lines-end-requires c =
    -- the two lengths together are the text's
    let whole : c.parts_line_length.result + c.set_lines_length.result ≡ length (text_of c.args.n c.args.sets.now) =
    let a = c.args in
    omega (arith, c.parts_line_length.ensures, c.set_lines_length.ensures, length-append (line_of parts_word (a.n ∷ [])) (lines_of_sets a.sets.now)) in
    -- and it fits
    let fits : 0 + length (text_of c.args.n c.args.sets.now) ≤ length c.args.buffer.now =
    omega (arith, whole, c.if-buffer-needed.false) in
    let a = c.args in
    room_behind a.buffer.now 0 (line_of parts_word (a.n ∷ [])) (lines_of_sets a.sets.now) fits _ _ c.put_parts_line-first.ensures

pub returns : goal.returns
returns c =
    -- the two lengths together are the text's
    let whole : c.parts_line_length.result + c.set_lines_length.result ≡ length (text_of c.args.n c.args.sets.now) =
    let a = c.args in
    omega (arith, c.parts_line_length.ensures, c.set_lines_length.ensures, length-append (line_of parts_word (a.n ∷ [])) (lines_of_sets a.sets.now)) in
    -- and it fits
    let fits : 0 + length (text_of c.args.n c.args.sets.now) ≤ length c.args.buffer.now =
    omega (arith, whole, c.if-buffer-needed.false) in
    let a = c.args in
    let lent = a.buffer.now in
    let room : length (text_of a.n a.sets.now) ≤ length lent = omega (arith, fits) in
    let first : InFront lent (line_of parts_word (a.n ∷ [])) c.put_parts_line-first.new.text c.put_parts_line-first.result =
    in_front_more (in_front_none lent) (line_of parts_word (a.n ∷ [])) _ _ (omega (arith, room, length-append (line_of parts_word (a.n ∷ [])) (lines_of_sets a.sets.now))) c.put_parts_line-first.ensures in
    in_front_delivered lent (text_of a.n a.sets.now) _ _ (in_front_more first (lines_of_sets a.sets.now) _ _ room c.put_set_lines-end.ensures) room
