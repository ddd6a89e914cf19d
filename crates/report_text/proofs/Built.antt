-- What the table of a record in an array of 8,192 zeros tells of the record: its design and its table, or its refusal.
-- Assumes nothing.
use mathlib.Core.Path.{◌≡◌, refl, sym, ap, ◌∙◌, subst}
use mathlib.Core.List.{List}
use mathlib.Core.Logic.{⊎_elim}
use Prim.Native.Nat.{ℕ, ◌≤◌, ◌<◌}
use native.Mathlib.Omega.{arith}
use lib.ListN.{length, take, replicate, length-replicate}
use lib.Pow.{pow_mono}
use Rattle.std.specs.Prelude.{Ok, Err}
use Rattle.answer.specs.Outcome.{Outcome, outcome, delivered, Numbered, Verdict}
use Rattle.answer.specs.declared.Refusal.{Refusal}
use Rattle.answer.proofs.Deliveries.{Given, given, refused_by}
use Rattle.codec.specs.Bytes.{Bytes}
use Rattle.theory_sets.specs.Structures.{listed}
use Rattle.theory_sets.specs.Tables.{table_of}
use Rattle.numbers.proofs.Bounds.{below_or_above}
use Rattle.theory_sets.proofs.Tables.{table_of_length, table_length_small, table_length_large}
use Rattle.record.specs.declared.Contents.{Contents}
use Rattle.codec.specs.Reads.{Read, found, refused}
use Rattle.record.specs.Records.{Design}
use Rattle.record_editions.specs.Editions.{whole_record}
use Rattle.record.specs.RecordBytes.{DesignRules}
use Rattle.record.specs.declared.WithWords.{WithWords}
use Rattle.record.specs.Contents.{table_of_words}
use Rattle.record_editions.specs.Contents.{whole_contents, record_refusal, design_or, design_in, whole_with_words}
use Rattle.record_editions.proofs.Answers.{contents_whole}
use Rattle.record_editions.proofs.Whole.{design_read_lem, refused_contents, words_delivered}

-- the table of a design
abbrev pub design_table : Design → List ℕ
design_table d = table_of d.parts.count (listed d.sets)

-- it takes at most 8,192 bytes
pub table_most : (d : Design) → d.parts.count ≤ 16 → length (design_table d) ≤ 8192
table_most d few =
    let n : ℕ = d.parts.count in
    let long = table_of_length n (listed d.sets) in
    ⊎_elim
    (λ (small : n < 3). omega (arith, long, table_length_small n small))
    (λ (large : 3 ≤ n). omega (arith, long, table_length_large n large, pow_mono few))
    (below_or_above n 3)

pub record Built (bytes : List ℕ) (contents : Contents) (own : List ℕ) (size : ℕ) : Type 0 where
  pub design : Design
  pub end : ℕ
  pub read : whole_record bytes ≡ found design end
  pub rules : DesignRules design
  pub parts : contents.list ≡ design.parts
  pub sets : contents.sets ≡ length design.sets
  pub counted : size ≡ length (design_table design)
  pub most : size ≤ 8192
  pub front : take size own ≡ design_table design

-- the design in an accepted record
pub design_in_lem : (bytes : List ℕ) (d : Design) (end : ℕ) → whole_record bytes ≡ found d end → design_in bytes ≡ d
unfolding design_in
design_in_lem bytes d end here = ap design_or here

module _ (bytes : List ℕ) (small : Bytes bytes) (known : WithWords) (with_words : known ≡ whole_with_words bytes) (w : Numbered) (own : List ℕ)
    (stored : outcome w own ≡ delivered known.contents.verdict (table_of_words known.contents.list.count known.words) (replicate 8192 0)) where
  wrote : outcome w own ≡ delivered (record_refusal bytes) (design_table (design_in bytes)) (replicate 8192 0)
  wrote = stored ∙ words_delivered bytes known small with_words (replicate 8192 0)

  -- what the call left for an answer
  left_by_lem : (answer : Numbered) → w ≡ answer → outcome answer own ≡ delivered (record_refusal bytes) (design_table (design_in bytes)) (replicate 8192 0)
  left_by_lem answer e = ap (λ (x : Numbered). outcome x own) (sym e) ∙ wrote

  refused_verdict : (why : Refusal) → whole_record bytes ≡ refused why → record_refusal bytes ≡ Err why
  refused_verdict why here = ap (λ (k : Contents). k.verdict) (refused_contents bytes why here)

  pub built_given : (size : ℕ) → w ≡ Ok size → Built bytes known.contents own size
  built_given size e = cases (whole_record bytes) refl
    where
      all : Given (record_refusal bytes) (design_table (design_in bytes)) (replicate 8192 0) own size
      all = given (record_refusal bytes) (design_table (design_in bytes)) (replicate 8192 0) own size (left_by_lem (Ok size) e)

      cases : (read : Read Design) → whole_record bytes ≡ read → Built bytes known.contents own size
      cases (refused why) here =
          let clash : ◌≡◌ {A = ℕ} 0 1 = cc (sym (refused_verdict why here) ∙ all.accepted) in
          absurd (omega arith)
      cases (found d end) here =
          let r = design_read_lem bytes small d end here in
          let whole : known.contents ≡ whole_contents bytes = contents_whole bytes known with_words in
          let counted : size ≡ length (design_table d) = all.counted ∙ ap (λ (x : Design). length (design_table x)) (design_in_lem bytes d end here) in
          record {
            design = d;
            end = end;
            read = here;
            rules = r.rules;
            parts = ap (λ (k : Contents). k.list) (whole ∙ r.contents);
            sets = ap (λ (k : Contents). k.sets) (whole ∙ r.contents);
            counted = counted;
            most = omega (arith, table_most d r.rules.parts.rules.few);
            front = all.front ∙ ap design_table (design_in_lem bytes d end here);
          }

  pub built_refused : (why : Refusal) → w ≡ Err why → whole_record bytes ≡ refused why
  built_refused why e = cases (whole_record bytes) refl
    where
      cases : (read : Read Design) → whole_record bytes ≡ read → whole_record bytes ≡ refused why
      cases (refused other) here =
          let judged = refused_verdict other here in
          let left : outcome (Err why) own ≡ outcome (Err other) (replicate 8192 0) =
          left_by_lem (Err why) e ∙ ap (λ (v : Verdict). delivered v (design_table (design_in bytes)) (replicate 8192 0)) judged in
          here ∙ ap refused (sym (cc (ap (λ (o : Outcome Numbered (List ℕ)). o.answer) left)))
      cases (found d end) here =
          let r = design_read_lem bytes small d end here in
          let fits : length (design_table (design_in bytes)) ≤ length (replicate {A = ℕ} 8192 0) =
          subst (λ (x : Design). length (design_table x) ≤ length (replicate {A = ℕ} 8192 0)) (sym (design_in_lem bytes d end here))
          (omega (arith, table_most d r.rules.parts.rules.few, length-replicate {A = ℕ} 8192 0)) in
          let judged = refused_by (record_refusal bytes) (design_table (design_in bytes)) (replicate 8192 0) own why (λ accepted. fits) (left_by_lem (Err why) e) in
          let clash : ◌≡◌ {A = ℕ} 0 1 = cc (sym judged ∙ ap (λ (k : Contents). k.verdict) r.contents) in
          absurd (omega arith)
