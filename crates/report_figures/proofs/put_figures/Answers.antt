-- `report_figures::put_figures` meets its contract: the lines are built in an array that has room for those of 16 parts, and then put whole.
-- Assumes nothing.
use mathlib.Core.Path.{◌≡◌, sym, ap, ◌∙◌}
use mathlib.Core.List.{List}
use Prim.Native.Nat.{ℕ, ◌≤◌}
use lib.IntN.{ℤ}
use native.Mathlib.Omega.{arith}
use lib.ListN.{length, replicate}
use lib.Seq.{length-take-le}
use Rattle.record_numbers.specs.Numbering.{most_parts}
use Rattle.record_parts.specs.declared.PartList.{PartList}
use Rattle.answer.specs.Outcome.{outcome}
use Rattle.answer.specs.Placed.{placed}
use Rattle.answer.proofs.Forms.{Wrote, wrote_none, wrote_first, wrote_same, wrote_front, wrote_inside}
use Rattle.report_figures.specs.FiguresText.{lines_by, text_by}
use Rattle.report_figures.proofs.Blocks.{few_parts, many_parts_lem}
use Rattle.report_figures.proofs.put_figures.Goals as goal

-- the text in front of 4,096 zeros
whole : (list : PartList) (sets : ℕ) (signature domination : List ℤ) (importance : List ℕ) (end : ℕ) (own : List ℕ) → list.count ≤ most_parts
    → outcome end own ≡ placed (replicate 4096 0) 0 (lines_by list sets signature domination importance)
    → length (lines_by list sets signature domination importance) ≤ 4096
    → Wrote (replicate 4096 0) 0 (text_by list sets signature domination importance) 4096 own end
whole list sets signature domination importance end own few put short =
    let lines = wrote_first (replicate 4096 0) 0 (lines_by list sets signature domination importance) 4096 own end short (omega arith) put in
    wrote_same lines _ (sym (few_parts list sets signature domination importance few))

pub returns-then-list-gt-MOST_PARTS : goal.returns-then-list-gt-MOST_PARTS
returns-then-list-gt-MOST_PARTS c =
    let a = c.args in
    let none = many_parts_lem a.list a.sets a.signature.now a.domination.now a.importance.now c.if-list-gt-MOST_PARTS.true in
    record {
      text_after = (wrote_none a.text.now 0 (omega arith)).wrote ∙ ap (placed a.text.now 0) (sym none);
      importance_len_bound = omega (arith, ap length none);
    }

pub slice_bounds-own-end : goal.slice_bounds-own-end
slice_bounds-own-end c = wrote_inside (whole c.args.list c.args.sets c.args.signature.now c.args.domination.now c.args.importance.now _ _ c.if-list-gt-MOST_PARTS.false c.put_lines-end.ensures.text_after c.put_lines-end.ensures.importance_len_bound)

pub slice_bounds-put-end : goal.slice_bounds-put-end
slice_bounds-put-end c = sym (length-take-le _ _ (wrote_inside (whole c.args.list c.args.sets c.args.signature.now c.args.domination.now c.args.importance.now _ _ c.if-list-gt-MOST_PARTS.false c.put_lines-end.ensures.text_after c.put_lines-end.ensures.importance_len_bound)))

pub returns : goal.returns
returns c =
    let built = whole c.args.list c.args.sets c.args.signature.now c.args.domination.now c.args.importance.now _ _ c.if-list-gt-MOST_PARTS.false c.put_lines-end.ensures.text_after c.put_lines-end.ensures.importance_len_bound in
    record {
      text_after = c.put.ensures ∙ ap (placed c.args.text.now 0) (wrote_front built);
      importance_len_bound = built.short;
    }
