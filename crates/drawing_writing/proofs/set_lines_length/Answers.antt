-- `drawing_writing::set_lines_length` meets its contract: the lengths of all lines are added up, and no line takes more than 43 bytes.
-- Assumes nothing.
use mathlib.Core.Path.{◌∙◌}
use Prim.Native.Nat.{ℕ}
use native.Mathlib.Omega.{arith}
use lib.ListN.{length}
use Rattle.std.proofs.Common.{rules}
use Rattle.std.proofs.lemmas.Iterator.{YieldsList-from_slice, YieldsList-from_map}
use Rattle.std.proofs.lemmas.Iterator.Consumers.{sum_by_from_yields_List, fits_by_from_yields_list}
use Rattle.drawing_text.specs.Forms.{set_word, line_of}
use Rattle.drawing_text.specs.Sets.{positions_of}
use Rattle.drawing_text.proofs.Lengths.{set_lines_most}
use Rattle.drawing_writing.proofs.Writing.{lines_summed}
use Rattle.drawing_writing.proofs.set_lines_length.Goals as goal

pub sum-requires-clause-fits : goal.sum-requires-clause-fits
sum-requires-clause-fits c =
    let sets = c.args.sets.now in
    fits_by_from_yields_list (λ (set : ℕ). length (line_of set_word (positions_of set))) sets _ _
    (YieldsList-from_map _ (λ (set : ℕ). length (line_of set_word (positions_of set))) (YieldsList-from_slice sets cc) c.map.ensures.closure (λ x r q k. search rules))
    (omega (arith, set_lines_most sets, c.requires, lines_summed sets))

pub returns : goal.returns
returns c =
    let sets = c.args.sets.now in
    sum_by_from_yields_List (λ (set : ℕ). length (line_of set_word (positions_of set))) sets _ _ c.sum.ensures.ran
    (YieldsList-from_map _ (λ (set : ℕ). length (line_of set_word (positions_of set))) (YieldsList-from_slice sets cc) c.map.ensures.closure (λ x r q k. search rules))
    ∙ lines_summed sets
