-- What was read of a text, as a first record takes it: the sets in front of the array, and the record of them.
-- Assumes nothing.
use mathlib.Core.Path.{◌≡◌, sym, ap, ap₂, ◌∙◌}
use mathlib.Core.List.{List}
use Prim.Native.Nat.{ℕ, ◌≤◌}
use native.Mathlib.Omega.{arith}
use lib.ListN.{length, take, drop, replicate, length-append}
use lib.Seq.{take-append_seam}
use Rattle.std.specs.Prelude.{Ok, Err}
use Rattle.answer.specs.Outcome.{outcome, delivered, Verdict}
use Rattle.answer.specs.declared.Refusal.{Refusal}
use Rattle.record.specs.RecordBytes.{record_bytes}
use Rattle.record_lines.specs.Changes.{first_design}
use Rattle.record_lines.specs.Records.{first_record}
use Rattle.drawing_text.specs.Drawings.{drawing_refusal, drawn_parts, drawn_sets, record_of_drawing}
use Rattle.drawing_text.proofs.Drawings.{drawn_accepted}
use Rattle.drawing_reading.specs.declared.Drawn.{Drawn}
use Rattle.drawing_reading.specs.Inside.{drawn_or}

module _ (text : List ℕ) (d : Drawn) (e : d ≡ drawn_or (drawing_refusal text) (drawn_parts text) (drawn_sets text)) where
  -- a refused text gives its refusal
  pub drawn_refused : (why : Refusal) → d.verdict ≡ Err why → (buffer : List ℕ) → outcome (Err why) buffer ≡ record_of_drawing text buffer
  unfolding record_of_drawing
  drawn_refused why h buffer =
      ap (λ (v : Verdict). delivered v (record_bytes (first_design (drawn_parts text) (drawn_sets text))) buffer)
      (sym (judged (drawing_refusal text) (sym (ap (λ (x : Drawn). x.verdict) e) ∙ h)))
    where
      judged : (v : Verdict) → (drawn_or v (drawn_parts text) (drawn_sets text)).verdict ≡ Err why → v ≡ Err why
      judged (Ok _) g = g
      judged (Err r) g = g

  -- an accepted one its parts and sets
  pub record DrawnRead : Type 0 where
    pub accepted : drawing_refusal text ≡ Ok tt
    pub parts : d.parts ≡ drawn_parts text
    pub counted : d.count ≡ length (drawn_sets text)
    pub front : take d.count d.sets ≡ drawn_sets text
    pub inside : d.count ≤ length d.sets

  module _ (h : d.verdict ≡ Ok tt) where
    judged : (v : Verdict) → (drawn_or v (drawn_parts text) (drawn_sets text)).verdict ≡ Ok tt → v ≡ Ok tt
    judged (Ok _) g = g
    judged (Err r) g = g

    taken : drawing_refusal text ≡ Ok tt
    taken = judged (drawing_refusal text) (sym (ap (λ (x : Drawn). x.verdict) e) ∙ h)

    same : d ≡ drawn_or (Ok tt) (drawn_parts text) (drawn_sets text)
    same = e ∙ ap (λ (v : Verdict). drawn_or v (drawn_parts text) (drawn_sets text)) taken

    pub drawn_read : DrawnRead
    drawn_read =
        let count : d.count ≡ length (drawn_sets text) = ap (λ (x : Drawn). x.count) same in
        record {
          accepted = taken;
          parts = ap (λ (x : Drawn). x.parts) same;
          counted = count;
          front = ap₂ (λ (k : ℕ) (l : List ℕ). take k l) count (ap (λ (x : Drawn). x.sets) same) ∙ take-append_seam (drawn_sets text) (drop (length (drawn_sets text)) (replicate 12870 0));
          inside = omega (arith, count, ap (λ (x : Drawn). length x.sets) same, length-append (drawn_sets text) (drop (length (drawn_sets text)) (replicate 12870 0)));
        }

    -- the first record of them is the record of the text
    pub drawn_record : (buffer : List ℕ) → first_record d.parts (take d.count d.sets) buffer ≡ record_of_drawing text buffer
    unfolding record_of_drawing first_record
    drawn_record buffer =
        ap₂ (λ (n : ℕ) (l : List ℕ). first_record n l buffer) drawn_read.parts drawn_read.front
        ∙ ap (λ (v : Verdict). delivered v (record_bytes (first_design (drawn_parts text) (drawn_sets text))) buffer) (drawn_accepted text taken ∙ sym taken)
