-- `report::make_text` meets its contract: both buffers are long enough for every report, so that only a record is refused, and the text is long
-- enough for every line of a refusal.
-- Assumes nothing.
use mathlib.Core.Path.{◌≡◌, sym, ap, ◌∙◌}
use Prim.Native.Nat.{ℕ, ◌≤◌}
use native.Mathlib.Omega.{arith}
use lib.ListN.{length, replicate, length-replicate}
use Rattle.std.specs.Prelude.{Ok}
use Rattle.answer.specs.Refusals.{number_of}
use Rattle.answer.specs.Outcome.{outcome, delivered}
use Rattle.report_lines.specs.Lines.{refused_line}
use Rattle.report_text.proofs.Printed.{printed_given, printed_refused, line_given, line_said}
use Rattle.report.proofs.make_text.Goals as goal

pub returns-in-Ok : goal.returns-in-Ok
returns-in-Ok c =
    let a = c.args in
    let text = printed_given a.bytes.now (replicate 8192 0) a.text.now (λ i. omega (arith, c.type_inv.bytes i)) (omega (arith, length-replicate {A = ℕ} 8192 0)) c.requires
    c.report-made.ensures.bytes_len_bound _ c.report-made.ensures.text_after _ c.in-Ok.is in record { upper_bound = text.0; text_after = text.1 }

-- the line is that of the refusal's number
pub returns-in-Ok-said : goal.returns-in-Ok-said
returns-in-Ok-said c =
    let a = c.args in
    let why = c.in-Err.refusal in
    let refusal = printed_refused a.bytes.now (replicate 8192 0) a.text.now (λ i. omega (arith, c.type_inv.bytes i)) (omega (arith, length-replicate {A = ℕ} 8192 0)) c.requires
    c.report-made.ensures.bytes_len_bound _ c.report-made.ensures.text_after _ c.in-Err.is in
    let said : outcome c.refused_line-said.result c.refused_line-said.new.text ≡ delivered (Ok tt) (refused_line (number_of why.reason) why.place) c.report-made.new.text =
    c.refused_line-said.ensures.text_after ∙ ap (λ (k : ℕ). delivered (Ok tt) (refused_line k why.place) c.report-made.new.text) c.number.ensures in
    let short : length (refused_line (number_of why.reason) why.place) ≤ 4096 =
    omega (arith, c.refused_line-said.ensures.place_len_bound, ap (λ (k : ℕ). length (refused_line k why.place)) c.number.ensures) in
    let line = line_given why c.report-made.new.text _ said (omega (arith, short)) _ c.in-Ok-said.is in record { upper_bound = line.0; text_after = line.1 ∙ sym refusal }

pub returns-in-Err-said : goal.returns-in-Err-said
returns-in-Err-said c =
    let why = c.in-Err.refusal in
    let said : outcome c.refused_line-said.result c.refused_line-said.new.text ≡ delivered (Ok tt) (refused_line (number_of why.reason) why.place) c.report-made.new.text =
    c.refused_line-said.ensures.text_after ∙ ap (λ (k : ℕ). delivered (Ok tt) (refused_line k why.place) c.report-made.new.text) c.number.ensures in
    let short : length (refused_line (number_of why.reason) why.place) ≤ 4096 =
    omega (arith, c.refused_line-said.ensures.place_len_bound, ap (λ (k : ℕ). length (refused_line k why.place)) c.number.ensures) in
    absurd (line_said why c.report-made.new.text _ said (omega (arith, short)) _ c.in-Err-said.is)
