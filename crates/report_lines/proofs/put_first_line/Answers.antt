-- `report_lines::put_first_line` meets its contract: the words and the numbers are put one after the other in an array that has room for all of
-- them, and then put whole.
-- Assumes nothing.
use mathlib.Core.Path.{◌≡◌, sym, ap, ◌∙◌}
use mathlib.Core.List.{List, ◌++◌}
use native.Mathlib.Omega.{arith}
use lib.ListN.{replicate}
use lib.Seq.{length-take-le}
use Prim.Native.Nat.{ℕ}
use mir.Syntax.{w64}
use mir.Val.{Fits}
use Rattle.answer.specs.Outcome.{outcome}
use Rattle.answer.specs.Placed.{placed}
use Rattle.text.specs.Texts.{ascii, decimal}
use Rattle.report_lines.specs.Lines.{head_line}
use Rattle.answer.proofs.Forms.{Wrote, wrote_more, wrote_same, wrote_room, wrote_front, wrote_inside}
use Rattle.report_lines.proofs.Lines.{number_first, number_more, numbers_joined}
use Rattle.report_lines.proofs.put_first_line.Goals as goal

-- the words and the numbers in front of 80 zeros
parts : (n : ℕ) → Fits w64 n → (line : List ℕ) (end : ℕ) → outcome end line ≡ placed (replicate 80 0) 0 (ascii "parts " ++ decimal n)
    → Wrote (replicate 80 0) 0 (ascii "parts " ++ decimal n) 26 line end
parts n fits line end put = number_first (ascii "parts ") n fits (replicate 80 0) line end (omega arith) put

sets : (n m : ℕ) → Fits w64 n → Fits w64 m → (first line : List ℕ) (one end : ℕ)
    → outcome one first ≡ placed (replicate 80 0) 0 (ascii "parts " ++ decimal n) → outcome end line ≡ placed first one (ascii " sets " ++ decimal m)
    → Wrote (replicate 80 0) 0 (ascii "parts " ++ decimal n ++ (ascii " sets " ++ decimal m)) 52 line end
sets n m n-fits m-fits first line one end put-parts put-sets =
    number_more (ascii " sets ") m m-fits (parts n n-fits first one put-parts) line end (omega arith) put-sets

whole : (n m mark : ℕ) → Fits w64 n → Fits w64 m → Fits w64 mark → (first second third line : List ℕ) (one two three end : ℕ)
    → outcome one first ≡ placed (replicate 80 0) 0 (ascii "parts " ++ decimal n) → outcome two second ≡ placed first one (ascii " sets " ++ decimal m)
    → outcome three third ≡ placed second two (ascii " mark " ++ decimal mark) → outcome end line ≡ placed third three (ascii "\n")
    → Wrote (replicate 80 0) 0 (head_line n m mark) 79 line end
unfolding head_line
whole n m mark n-fits m-fits mark-fits first second third line one two three end put-parts put-sets put-mark put-end =
    let s3 = number_more (ascii " mark ") mark mark-fits (sets n m n-fits m-fits first second one two put-parts put-sets) third three (omega arith) put-mark in
    let s4 = wrote_more s3 (ascii "\n") 1 line end (omega arith) (omega arith) put-end in
    wrote_same s4 _ (numbers_joined (ascii "parts ") (decimal n) (ascii " sets ") (decimal m) (ascii " mark ") (decimal mark) (ascii "\n"))

pub put_number-counted-requires : goal.put_number-counted-requires
put_number-counted-requires c = wrote_room (parts c.args.parts c.ranges.parts _ _ c.put_number-numbered.ensures) 26 (omega arith)

pub put_number-marked-requires : goal.put_number-marked-requires
put_number-marked-requires c =
    wrote_room (sets c.args.parts c.args.sets c.ranges.parts c.ranges.sets _ _ _ _ c.put_number-numbered.ensures c.put_number-counted.ensures) 26 (omega arith)

pub slice_bounds-line-end : goal.slice_bounds-line-end
slice_bounds-line-end c = wrote_inside (whole c.args.parts c.args.sets c.args.mark c.ranges.parts c.ranges.sets c.ranges.mark _ _ _ _ _ _ _ _ c.put_number-numbered.ensures c.put_number-counted.ensures c.put_number-marked.ensures c.put-end.ensures)

pub slice_bounds-put-end-3 : goal.slice_bounds-put-end-3
slice_bounds-put-end-3 c = sym (length-take-le _ _ (wrote_inside (whole c.args.parts c.args.sets c.args.mark c.ranges.parts c.ranges.sets c.ranges.mark _ _ _ _ _ _ _ _ c.put_number-numbered.ensures c.put_number-counted.ensures c.put_number-marked.ensures c.put-end.ensures)))

pub returns : goal.returns
returns c = c.put.ensures ∙ ap (placed c.args.text.now c.args.at) (wrote_front (whole c.args.parts c.args.sets c.args.mark c.ranges.parts c.ranges.sets c.ranges.mark _ _ _ _ _ _ _ _ c.put_number-numbered.ensures c.put_number-counted.ensures c.put_number-marked.ensures c.put-end.ensures))
