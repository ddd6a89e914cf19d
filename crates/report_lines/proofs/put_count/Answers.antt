-- `report_lines::put_count` meets its contract: the number and the count are put one after the other in an array that has room for both, and
-- then put whole.
-- Assumes nothing.
use mathlib.Core.Path.{◌≡◌, sym, ap, ◌∙◌}
use mathlib.Core.List.{List, ◌++◌, append_assoc}
use native.Mathlib.Omega.{arith}
use lib.ListN.{replicate}
use lib.Seq.{length-take-le}
use Prim.Native.Nat.{ℕ}
use mir.Syntax.{w64}
use mir.Val.{Fits}
use Rattle.answer.specs.Outcome.{outcome}
use Rattle.answer.specs.Placed.{placed}
use Rattle.text.specs.Texts.{ascii, decimal}
use Rattle.report_lines.specs.Lines.{rest_of_line}
use Rattle.answer.proofs.Forms.{Wrote, wrote_more, wrote_same, wrote_room, wrote_front, wrote_inside}
use Rattle.report_lines.proofs.Lines.{number_first, number_more}
use Rattle.report_lines.proofs.put_count.Goals as goal

-- the number, and then the whole, in front of 48 zeros
numbered : (number : ℕ) → Fits w64 number → (line : List ℕ) (end : ℕ) → outcome end line ≡ placed (replicate 48 0) 0 (ascii " " ++ decimal number)
    → Wrote (replicate 48 0) 0 (ascii " " ++ decimal number) 21 line end
numbered number fits line end put = number_first (ascii " ") number fits (replicate 48 0) line end (omega arith) put

whole : (number count : ℕ) → Fits w64 number → Fits w64 count → (first second line : List ℕ) (one two end : ℕ)
    → outcome one first ≡ placed (replicate 48 0) 0 (ascii " " ++ decimal number) → outcome two second ≡ placed first one (ascii " " ++ decimal count)
    → outcome end line ≡ placed second two (ascii "\n") → Wrote (replicate 48 0) 0 (rest_of_line number (decimal count)) 43 line end
unfolding rest_of_line
whole number count number-fits count-fits first second line one two end put-number put-count put-end =
    let s2 = number_more (ascii " ") count count-fits (numbered number number-fits first one put-number) second two (omega arith) put-count in
    let s3 = wrote_more s2 (ascii "\n") 1 line end (omega arith) (omega arith) put-end in
    wrote_same s3 _ (simp append_assoc)

pub put_number-counted-requires : goal.put_number-counted-requires
put_number-counted-requires c = wrote_room (numbered c.args.number c.ranges.number _ _ c.put_number-numbered.ensures) 21 (omega arith)

pub slice_bounds-line-end : goal.slice_bounds-line-end
slice_bounds-line-end c = wrote_inside (whole c.args.number c.args.count c.ranges.number c.ranges.count _ _ _ _ _ _ c.put_number-numbered.ensures c.put_number-counted.ensures c.put-end.ensures)

pub slice_bounds-put-end-3 : goal.slice_bounds-put-end-3
slice_bounds-put-end-3 c = sym (length-take-le _ _ (wrote_inside (whole c.args.number c.args.count c.ranges.number c.ranges.count _ _ _ _ _ _ c.put_number-numbered.ensures c.put_number-counted.ensures c.put-end.ensures)))

pub returns : goal.returns
returns c = c.put.ensures ∙ ap (placed c.args.text.now c.args.at) (wrote_front (whole c.args.number c.args.count c.ranges.number c.ranges.count _ _ _ _ _ _ c.put_number-numbered.ensures c.put_number-counted.ensures c.put-end.ensures))
