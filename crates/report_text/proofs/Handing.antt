-- The cases of handing out a table and a text.
-- Assumes nothing.
use mathlib.Core.Path.{◌≡◌, refl, sym, ap₂, ◌∙◌}
use mathlib.Core.List.{List}
use Prim.Native.Nat.{ℕ, ◌≤◌, ◌<◌}
use lib.ListN.{length}
use Rattle.std.specs.Prelude.{Ok, Err}
use Rattle.answer.specs.declared.Reason.TheVariants.{ShortBuffer}
use Rattle.answer.specs.Outcome.{at, front, Outcome, outcome, delivered, Numbered}
use Rattle.answer.proofs.Outcomes.{then_passed, then_refused, room_enough, room_short, settled_refused, settled_given}
use Rattle.answer.proofs.Deliveries.{delivered_whole, delivered_front}
use Rattle.report_text.specs.Reporting.{report_buffers, handed_out}

module _ (own_table own_text table text : List ℕ) where
  -- the table's buffer is short
  pub table_short : length table < length own_table → outcome (Err (at ShortBuffer (length own_table))) (report_buffers table text) ≡ handed_out own_table own_text table text
  table_short h = settled_refused _ Err (report_buffers table text) _ (then_refused _ (room_short (length own_table) (length table) h))

  module _ (table_fits : length own_table ≤ length table) where
    -- the text's is
    pub text_short : length text < length own_text → outcome (Err (at ShortBuffer (length own_text))) (report_buffers table text) ≡ handed_out own_table own_text table text
    text_short h =
        settled_refused _ Err (report_buffers table text) _
        (then_passed _ (room_enough (length own_table) (length table) table_fits) ∙ room_short (length own_text) (length text) h)

    -- neither is
    module _ (text-fits : length own_text ≤ length text) where
      pub both_given : outcome (Ok (length own_text)) (report_buffers (front own_table table) (front own_text text)) ≡ handed_out own_table own_text table text
      both_given =
          settled_given _ Err (report_buffers table text) _
          (then_passed _ (room_enough (length own_table) (length table) table_fits) ∙ room_enough (length own_text) (length text) text-fits)

      pub both_handed : {w answer : Numbered} {table-now text-now : List ℕ} → outcome w table-now ≡ delivered (Ok tt) own_table table
          → outcome answer text-now ≡ delivered (Ok tt) own_text text → outcome answer (report_buffers table-now text-now) ≡ handed_out own_table own_text table text
      both_handed e1 e2 =
          ap₂ (λ (t : List ℕ) (o : Outcome Numbered (List ℕ)). outcome o.answer (report_buffers t o.buffer))
          (delivered_front (Ok tt) own_table table refl table_fits e1)
          (e2 ∙ sym (delivered_whole (Ok tt) own_text text refl (length own_text) refl (front own_text text) refl text-fits))
          ∙ both_given
