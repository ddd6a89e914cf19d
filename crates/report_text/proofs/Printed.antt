-- What is printed: with buffers that are long enough for every report, making a report answers the text's length and leaves the text that is
-- printed in front, or it refuses the record, and then the line of that refusal is printed. The first 40,000 bytes decide. Records of the same
-- design print the same, of whatever editions.
-- Assumes nothing.
use mathlib.Core.Path.{◌≡◌, refl, sym, ap, ap₂, ◌∙◌, subst}
use mathlib.Core.List.{List, ◌++◌}
use Prim.Native.Nat.{ℕ, ◌≤◌}
use native.Mathlib.Omega.{arith}
use lib.ListN.{length, take, drop, length-append}
use lib.Seq.{take-append_seam}
use Rattle.std.specs.Prelude.{Ok, Err}
use Rattle.answer.specs.Outcome.{front, Outcome, outcome, delivered, Numbered}
use Rattle.answer.specs.declared.Refusal.{Refusal}
use Rattle.answer.specs.Refusals.{number_of}
use Rattle.answer.proofs.Outcomes.{in_front_delivered}
use Rattle.codec.specs.Bytes.{Bytes}
use Rattle.codec.specs.Reads.{Read, found, refused}
use Rattle.record.specs.Records.{Design}
use Rattle.record_editions.specs.Editions.{Stored, design_of, whole_stored, whole_record}
use Rattle.record_editions.specs.Contents.{design_in}
use Rattle.record_editions.proofs.RoundTrip.{stored_design}
use Rattle.record_editions.proofs.Whole.{design_read_lem}
use Rattle.record_editions.proofs.Decided.{whole_first}
use Rattle.text.specs.Texts.{decimal, spelled, lines}
use Rattle.report_text.specs.Reports.{first_line, report_of, printed_for, printed}
use Rattle.report_lines.specs.Lines.{head_line, refused_line}
use Rattle.report_text.specs.Reporting.{ReportBuffers, report_buffers, handed_out, reported_read, reported}
use Rattle.report_text.proofs.Handing.{both_given}
use Rattle.report_text.proofs.Built.{design_table, table_most, design_in_lem}

-- the report of a design of no parts, which stands for that of a refused record
pub no_report : (bytes : List ℕ) (why : Refusal) → whole_record bytes ≡ refused why → length (report_of (design_in bytes)) ≤ 4096
unfolding design_in report_of first_line head_line decimal spelled lines
no_report bytes why here = rw here (omega arith)

-- any input of at least 40,000 bytes prints what its first 40,000 do
pub printed_first : (bytes : List ℕ) → Bytes bytes → 40000 ≤ length bytes → printed (take 40000 bytes) ≡ printed bytes
unfolding printed
printed_first bytes small long = ap printed_for (whole_first bytes small long)

-- two records of the same design, of whatever editions and with whatever retired numbers, print the same
module _ (a b : List ℕ) (s t : Stored) (i j : ℕ) (read_a : whole_stored a ≡ found s i) (read-b : whole_stored b ≡ found t j) (same : design_of s ≡ design_of t) where
  pub editions_print_alike : printed a ≡ printed b
  unfolding printed
  editions_print_alike = ap printed_for (stored_design a s i read_a) ∙ ap report_of same ∙ sym (ap printed_for (stored_design b t j read-b))

  -- and a report of the one leaves what a report of the other does
  pub editions_report_alike : (table text : List ℕ) → reported a table text ≡ reported b table text
  unfolding reported
  editions_report_alike table text =
      ap (λ (read : Read Design). reported_read read table text) (stored_design a s i read_a)
      ∙ ap (λ (d : Design). handed_out (design_table d) (report_of d) table text) same
      ∙ sym (ap (λ (read : Read Design). reported_read read table text) (stored_design b t j read-b))

-- the line of a refusal, in a buffer that is long enough
module _ (why : Refusal) (buffer : List ℕ) (o : Outcome Numbered (List ℕ)) (said : o ≡ delivered (Ok tt) (refused_line (number_of why.reason) why.place) buffer) (fits : length (refused_line (number_of why.reason) why.place) ≤ length buffer) where
  all_said : o ≡ outcome (Ok (length (refused_line (number_of why.reason) why.place))) (refused_line (number_of why.reason) why.place ++ drop (length (refused_line (number_of why.reason) why.place)) buffer)
  all_said =
      said ∙ sym (in_front_delivered buffer (refused_line (number_of why.reason) why.place) (refused_line (number_of why.reason) why.place ++ drop (length (refused_line (number_of why.reason) why.place)) buffer) (length (refused_line (number_of why.reason) why.place)) (record { ends = refl; stands = refl }) fits)

  answered : o.answer ≡ Ok (length (refused_line (number_of why.reason) why.place))
  answered = ap (λ (x : Outcome Numbered (List ℕ)). x.answer) all_said

  pub line_given : (end : ℕ) → o.answer ≡ Ok end → (end ≤ length o.buffer) × (take end o.buffer ≡ refused_line (number_of why.reason) why.place)
  line_given end e =
      let here : o.answer ≡ Ok (length (refused_line (number_of why.reason) why.place)) = answered in
      let counted : end ≡ length (refused_line (number_of why.reason) why.place) = cc in (
        omega (arith, ap (λ (x : Outcome Numbered (List ℕ)). length x.buffer) all_said, length-append (refused_line (number_of why.reason) why.place) (drop (length (refused_line (number_of why.reason) why.place)) buffer)),
        ap₂ (λ (k : ℕ) (x : Outcome Numbered (List ℕ)). take k x.buffer) counted all_said ∙ take-append_seam (refused_line (number_of why.reason) why.place) (drop (length (refused_line (number_of why.reason) why.place)) buffer),
      )

  pub line_said : (other : Refusal) → o.answer ≡ Err other → ⊥
  line_said other e =
      let here : o.answer ≡ Ok (length (refused_line (number_of why.reason) why.place)) = answered in
      let z : ◌≡◌ {A = ℕ} 0 1 = cc in
      omega arith

module _ (bytes table text : List ℕ) (small : Bytes bytes) (wide : 8192 ≤ length table) (long : 4096 ≤ length text) (short : length (report_of (design_in bytes)) ≤ 4096)
    (o : Outcome Numbered ReportBuffers) (made : o ≡ reported bytes table text) where
  nothing_made : (why : Refusal) → whole_record bytes ≡ refused why → o.answer ≡ Err why
  unfolding reported
  nothing_made why here = ap (λ (x : Outcome Numbered ReportBuffers). x.answer) (made ∙ ap (λ (read : Read Design). reported_read read table text) here)

  all_made : (d : Design) (end : ℕ) → whole_record bytes ≡ found d end
      → o ≡ outcome (Ok (length (report_of d))) (report_buffers (front (design_table d) table) (front (report_of d) text))
  unfolding reported
  all_made d end here =
      let brief : length (report_of d) ≤ 4096 = subst (λ (x : Design). length (report_of x) ≤ 4096) (design_in_lem bytes d end here) short in
      let most : length (design_table d) ≤ 8192 = table_most d (design_read_lem bytes small d end here).rules.parts.rules.few in
      let fits : reported_read (found d end) table text
      ≡ outcome (Ok (length (report_of d))) (report_buffers (front (design_table d) table) (front (report_of d) text)) =
      sym (both_given (design_table d) (report_of d) table text (omega arith) (omega arith)) in
      made ∙ ap (λ (read : Read Design). reported_read read table text) here ∙ fits

  pub printed_given : (end : ℕ) → o.answer ≡ Ok end → (end ≤ length o.buffer.text) × (take end o.buffer.text ≡ printed bytes)
  unfolding printed
  printed_given end e = cases (whole_record bytes) refl
    where
      cases : (read : Read Design) → whole_record bytes ≡ read → (end ≤ length o.buffer.text) × (take end o.buffer.text ≡ printed_for (whole_record bytes))
      cases (refused why) here =
          let other : o.answer ≡ Err why = nothing_made why here in
          let z : ◌≡◌ {A = ℕ} 0 1 = cc in
          absurd (omega arith)
      cases (found d next) here =
          let all = all_made d next here in
          let answered : o.answer ≡ Ok (length (report_of d)) = ap (λ (x : Outcome Numbered ReportBuffers). x.answer) all in
          let counted : end ≡ length (report_of d) = cc in (
            omega (arith, ap (λ (x : Outcome Numbered ReportBuffers). length x.buffer.text) all, length-append (report_of d) (drop (length (report_of d)) text)),
            ap₂ (λ (k : ℕ) (x : Outcome Numbered ReportBuffers). take k x.buffer.text) counted all ∙ take-append_seam (report_of d) (drop (length (report_of d)) text) ∙ sym (ap printed_for here),
          )

  pub printed_refused : (why : Refusal) → o.answer ≡ Err why → printed bytes ≡ refused_line (number_of why.reason) why.place
  unfolding printed
  printed_refused why e = cases (whole_record bytes) refl
    where
      cases : (read : Read Design) → whole_record bytes ≡ read → printed_for (whole_record bytes) ≡ refused_line (number_of why.reason) why.place
      cases (refused other) here =
          let same : o.answer ≡ Err other = nothing_made other here in
          let one : other ≡ why = cc in
          ap printed_for here ∙ ap (λ (r : Refusal). refused_line (number_of r.reason) r.place) one
      cases (found d next) here =
          let answered : o.answer ≡ Ok (length (report_of d)) = ap (λ (x : Outcome Numbered ReportBuffers). x.answer) (all_made d next here) in
          let z : ◌≡◌ {A = ℕ} 0 1 = cc in
          absurd (omega arith)
