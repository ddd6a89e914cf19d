-- A line of changes by part numbers is a line of changes: it ends in the same record as its calls by positions, so all that holds along every
-- line of changes holds along it.
-- Assumes nothing.
use mathlib.Core.Path.{◌≡◌, refl, sym, ap, ◌∙◌}
use mathlib.Core.List.{List, [], ◌∷◌}
use Prim.Native.Nat.{ℕ}
use Rattle.std.specs.Prelude.{Ok, Err}
use Rattle.answer.specs.Outcome.{Numbered}
use Rattle.record_lines.specs.Changes.{Change}
use Rattle.record_lines.specs.Lines.{record_after, last_of}
use Rattle.record_lines.proofs.Lines.{last_append}
use Rattle.record_by_number.specs.Parts.{part_position, parts_mask, changed_there}
use Rattle.record_by_number.specs.Lines.{ByNumber, by_position, take_out_part, take_out_parts, add_set_of_parts, NumberCall, changed_by_number, after_by_number, last_by_number, found_change, change_of, calls_with, calls_of}

-- one change, where the parts were looked up
there_same : (change : ℕ → Change) (v : Numbered) (bytes buffer : List ℕ)
    → record_after (changed_there change v bytes buffer).answer (changed_there change v bytes buffer).buffer bytes ≡ last_of (calls_with buffer (found_change change v)) bytes
there_same change (Err why) bytes buffer = refl
there_same change (Ok there) bytes buffer = refl

one_same : (change : ByNumber) (bytes buffer : List ℕ)
    → record_after (changed_by_number change bytes buffer).answer (changed_by_number change bytes buffer).buffer bytes ≡ last_of (calls_with buffer (change_of change bytes)) bytes
one_same (by_position change) bytes buffer = refl
one_same (take_out_part number) bytes buffer = there_same _ (part_position bytes number) bytes buffer
one_same (take_out_parts wanted) bytes buffer = there_same _ (parts_mask bytes wanted) bytes buffer
one_same (add_set_of_parts wanted) bytes buffer = there_same _ (parts_mask bytes wanted) bytes buffer

pub number_line : (calls : List NumberCall) (bytes : List ℕ) → last_by_number calls bytes ≡ last_of (calls_of calls bytes) bytes
number_line [] bytes = refl
number_line (call ∷ calls) bytes =
    let after : List ℕ = after_by_number call bytes in
    number_line calls after ∙ ap (last_of (calls_of calls after)) (one_same call.change bytes call.buffer)
    ∙ sym (last_append (calls_with call.buffer (change_of call.change bytes)) (calls_of calls after) bytes)
