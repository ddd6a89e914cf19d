-- `report_lines::put_figure` meets its contract: the number and the figure are put one after the other in an array that has room for both, and
-- then put whole.
-- Assumes nothing.
use mathlib.Core.Path.{◌≡◌, sym, ap, ◌∙◌}
use mathlib.Core.List.{List, ◌++◌, append_assoc}
use native.Mathlib.Omega.{arith}
use lib.ListN.{replicate}
use lib.Seq.{length-take-le}
use Prim.Native.Nat.{ℕ}
use mir.Val.{Fits}
use Rattle.answer.specs.Outcome.{outcome}
use Rattle.answer.specs.Placed.{placed}
use Rattle.text.specs.Texts.{ascii, decimal, signed}
use lib.IntN.{ℤ}
use mir.Syntax.{w64}
use mir.Val.{SFits, to_z, of_z}
use mir.Facts.{to_z-of_z}
use Rattle.text.proofs.Decimals.{signed_few}
use Rattle.report_lines.specs.Lines.{rest_of_line}
use Rattle.answer.proofs.Forms.{Wrote, wrote_more, wrote_same, wrote_front, wrote_inside}
use Rattle.report_lines.proofs.Lines.{number_first}
use Rattle.report_lines.proofs.put_figure.Goals as goal

-- the whole in front of 48 zeros
whole : (number : ℕ) (figure : ℤ) → Fits w64 number → SFits w64 figure → (first second third line : List ℕ) (one two three end : ℕ)
    → outcome one first ≡ placed (replicate 48 0) 0 (ascii " " ++ decimal number) → outcome two second ≡ placed first one (ascii " ")
    → outcome three third ≡ placed second two (signed (to_z w64 (of_z w64 figure))) → outcome end line ≡ placed third three (ascii "\n")
    → Wrote (replicate 48 0) 0 (rest_of_line number (signed figure)) 44 line end
unfolding rest_of_line
whole number figure number-fits figure-fits first second third line one two three end put-number put-space put-figure put-end =
    let held : to_z w64 (of_z w64 figure) ≡ figure = to_z-of_z figure-fits in
    let s1 = number_first (ascii " ") number number-fits (replicate 48 0) first one (omega arith) put-number in
    let s2 = wrote_more s1 (ascii " ") 1 second two (omega arith) (omega arith) put-space in
    let s3 = wrote_more s2 (signed figure) 21 third three (signed_few figure figure-fits) (omega arith)
    (put-figure ∙ ap (λ (z : ℤ). placed second two (signed z)) held) in
    let s4 = wrote_more s3 (ascii "\n") 1 line end (omega arith) (omega arith) put-end in
    wrote_same s4 _ (simp append_assoc)

pub slice_bounds-line-end : goal.slice_bounds-line-end
slice_bounds-line-end c = wrote_inside (whole c.args.number c.args.figure c.ranges.number c.ranges.figure _ _ _ _ _ _ _ _ c.put_number-numbered.ensures c.put-spaced.ensures c.put_signed-figured.ensures c.put-end.ensures)

pub slice_bounds-put-end-5 : goal.slice_bounds-put-end-5
slice_bounds-put-end-5 c = sym (length-take-le _ _ (wrote_inside (whole c.args.number c.args.figure c.ranges.number c.ranges.figure _ _ _ _ _ _ _ _ c.put_number-numbered.ensures c.put-spaced.ensures c.put_signed-figured.ensures c.put-end.ensures)))

pub returns : goal.returns
returns c = c.put.ensures ∙ ap (placed c.args.text.now c.args.at) (wrote_front (whole c.args.number c.args.figure c.ranges.number c.ranges.figure _ _ _ _ _ _ _ _ c.put_number-numbered.ensures c.put-spaced.ensures c.put_signed-figured.ensures c.put-end.ensures))
