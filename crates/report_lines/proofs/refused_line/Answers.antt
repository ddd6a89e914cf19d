-- `report_lines::refused_line` meets its contract: the line is put together in an array that has room for it, and handed out.
-- Assumes nothing.
use mathlib.Core.Path.{◌≡◌, sym, ap, ◌∙◌}
use mathlib.Core.List.{List}
use Prim.Native.Nat.{ℕ}
use native.Mathlib.Omega.{arith}
use lib.ListN.{replicate}
use lib.Seq.{length-take-le}
use mir.Syntax.{w8, w64}
use mir.Val.{Fits}
use Rattle.std.specs.Prelude.{Ok}
use Rattle.answer.specs.Outcome.{at, outcome, delivered}
use Rattle.answer.specs.Placed.{placed}
use Rattle.text.specs.Texts.{ascii, decimal}
use Rattle.text.proofs.Decimals.{decimal_few}
use Rattle.report_lines.specs.Lines.{rest_of_line, refused_line}
use Rattle.answer.proofs.Forms.{Wrote, wrote_first, wrote_more, wrote_same, wrote_front, wrote_inside}
use Rattle.report_lines.proofs.Lines.{rest_few, refused_parts}
use Rattle.report_lines.proofs.refused_line.Goals as goal

-- the line in front of 64 zeros
line : (number place : ℕ) → Fits w8 number → Fits w64 place → (first text : List ℕ) (one end : ℕ)
    → outcome one first ≡ placed (replicate 64 0) 0 (ascii "refused") → outcome end text ≡ placed first one (rest_of_line number (decimal place))
    → Wrote (replicate 64 0) 0 (refused_line number place) 51 text end
line number place number-fits place-fits first text one end put-word put-rest =
    let s1 = wrote_first (replicate 64 0) 0 (ascii "refused") 7 first one (omega arith) (omega arith) put-word in
    let few = rest_few number (decimal place) (omega (arith, number-fits)) (omega (arith, decimal_few place place-fits)) in
    wrote_same (wrote_more s1 (rest_of_line number (decimal place)) 44 text end few (omega arith) put-rest) _ (refused_parts number place)

pub slice_bounds-line-end : goal.slice_bounds-line-end
slice_bounds-line-end c = wrote_inside (line c.args.number c.args.place c.ranges.number c.ranges.place _ _ _ _ c.put-worded.ensures c.put_count-end.ensures)

pub slice_bounds-hand_out-end : goal.slice_bounds-hand_out-end
slice_bounds-hand_out-end c = sym (length-take-le _ _ (wrote_inside (line c.args.number c.args.place c.ranges.number c.ranges.place _ _ _ _ c.put-worded.ensures c.put_count-end.ensures)))

pub returns : goal.returns
returns c = record {
  text_after = c.hand_out.ensures ∙ ap (λ (text : List ℕ). delivered (Ok tt) text c.args.text.now) (wrote_front (line c.args.number c.args.place c.ranges.number c.ranges.place _ _ _ _ c.put-worded.ensures c.put_count-end.ensures));
  place_len_bound = omega (arith, (line c.args.number c.args.place c.ranges.number c.ranges.place _ _ _ _ c.put-worded.ensures c.put_count-end.ensures).short);
}
