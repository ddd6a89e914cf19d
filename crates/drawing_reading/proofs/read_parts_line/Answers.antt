-- `drawing_reading::read_parts_line` meets its contract: the keyword, a space, a number and a line feed are asked for one after the other, and
-- where one is lacking no line of the form stands there.
-- Assumes nothing.
use mathlib.Core.Path.{◌≡◌, sym, ◌∙◌}
use mathlib.Core.List.{[], ◌∷◌}
use Prim.Native.Nat.{◌+◌, ◌<◌}
use native.Mathlib.Omega.{arith}
use lib.ListN.{length, get_or, drop}
use Rattle.drawing_text.specs.Lines.{line_feed}
use Rattle.drawing_text.specs.Forms.{space, parts_word}
use Rattle.drawing_reading.proofs.Shown.{byte_here, NumeralRead, numeral_read, Shown, shown_none, shown_more}
use Rattle.drawing_reading.proofs.LineReads.{parts_no_keyword, parts_no_space, parts_no_number, parts_no_end, parts_read}
use Rattle.drawing_reading.proofs.read_parts_line.Goals as goal

pub returns-then-not-stands : goal.returns-then-not-stands
returns-then-not-stands c =
    parts_no_keyword c.args.text.now (sym c.stands.ensures ∙ c.if-not-stands.true)

pub returns-then-byte_at-ne32 : goal.returns-then-byte_at-ne32
returns-then-byte_at-ne32 c =
    -- the keyword stands in front
    let keyword : Shown parts_word c.args.text.now 0 5 [] =
    shown_none parts_word c.args.text.now 0 (sym c.stands.ensures ∙ c.if-not-stands.false) in
    parts_no_space c.args.text.now keyword (λ same. c.if-byte_at-ne32.true (c.byte_at.ensures ∙ same))

pub returns-then-byte_at-ne10 : goal.returns-then-byte_at-ne10
returns-then-byte_at-ne10 c =
    -- the keyword stands in front
    let keyword : Shown parts_word c.args.text.now 0 5 [] =
    shown_none parts_word c.args.text.now 0 (sym c.stands.ensures ∙ c.if-not-stands.false) in
    -- a space stands behind it
    let spaced-here : get_or c.args.text.now 5 0 ≡ space =
    sym c.byte_at.ensures ∙ c.if-byte_at-ne32.false in
    -- and a number behind that
    let read_number : NumeralRead c.args.text.now 6 c.in_ok-number.number.value c.in_ok-number.number.next =
    numeral_read c.args.text.now 6 _ _ (sym c.in_ok-number.was ∙ c.read_numeral.ensures) in
    let numbered : Shown parts_word c.args.text.now 0 c.in_ok-number.number.next (read_number.number ∷ []) =
    shown_more parts_word c.args.text.now 0 keyword spaced-here _ _ read_number in
    parts_no_end c.args.text.now numbered (λ same. c.if-byte_at-ne10.true (c.byte_at-2.ensures ∙ same))

pub overflow_add-result : goal.overflow_add-result
overflow_add-result c =
    -- and a line feed behind the number
    let ended : (c.in_ok-number.number.next < length c.args.text.now) × (drop c.in_ok-number.number.next c.args.text.now ≡ line_feed ∷ drop (c.in_ok-number.number.next + 1) c.args.text.now) =
    byte_here c.args.text.now c.in_ok-number.number.next line_feed (omega arith)
    (sym c.byte_at-2.ensures ∙ c.if-byte_at-ne10.false) in
    omega (arith, ended.0)

pub returns-in_err-number : goal.returns-in_err-number
returns-in_err-number c =
    -- the keyword stands in front
    let keyword : Shown parts_word c.args.text.now 0 5 [] =
    shown_none parts_word c.args.text.now 0 (sym c.stands.ensures ∙ c.if-not-stands.false) in
    -- a space stands behind it
    let spaced-here : get_or c.args.text.now 5 0 ≡ space =
    sym c.byte_at.ensures ∙ c.if-byte_at-ne32.false in
    rw c.from_residual.ensures (parts_no_number c.args.text.now keyword spaced-here (sym c.in_err-number.was ∙ c.read_numeral.ensures))

pub returns : goal.returns
returns c =
    -- the keyword stands in front
    let keyword : Shown parts_word c.args.text.now 0 5 [] =
    shown_none parts_word c.args.text.now 0 (sym c.stands.ensures ∙ c.if-not-stands.false) in
    -- a space stands behind it
    let spaced-here : get_or c.args.text.now 5 0 ≡ space =
    sym c.byte_at.ensures ∙ c.if-byte_at-ne32.false in
    -- and a number behind that
    let read_number : NumeralRead c.args.text.now 6 c.in_ok-number.number.value c.in_ok-number.number.next =
    numeral_read c.args.text.now 6 _ _ (sym c.in_ok-number.was ∙ c.read_numeral.ensures) in
    let numbered : Shown parts_word c.args.text.now 0 c.in_ok-number.number.next (read_number.number ∷ []) =
    shown_more parts_word c.args.text.now 0 keyword spaced-here _ _ read_number in
    parts_read c.args.text.now numbered _ read_number.holds (sym c.byte_at-2.ensures ∙ c.if-byte_at-ne10.false)
