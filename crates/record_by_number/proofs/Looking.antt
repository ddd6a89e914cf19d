-- Parts that are looked up in the contents of a record: a refused record gives its refusal, and an accepted one the numbers of its design.
-- Assumes nothing.
use mathlib.Core.Path.{◌≡◌, refl, sym, ap, ◌∙◌}
use mathlib.Core.List.{List}
use Prim.Native.Nat.{ℕ, ◌≤◌, ◌<◌}
use native.Mathlib.Omega.{arith}
use lib.ListN.{length}
use Rattle.std.specs.Prelude.{Ok, Err}
use Rattle.answer.specs.Outcome.{outcome, Numbered}
use Rattle.answer.specs.declared.Refusal.{Refusal}
use Rattle.codec.specs.Bytes.{Bytes}
use Rattle.codec.specs.Reads.{Read, found, refused}
use Rattle.record_parts.specs.declared.PartList.{PartList}
use Rattle.record_parts.specs.PartLists.{numbers_of}
use Rattle.record_parts.proofs.WellFormed.{well_formed_counted, cells_enough}
use Rattle.record.specs.declared.Contents.{Contents}
use Rattle.record.specs.Records.{Design}
use Rattle.record_editions.specs.Editions.{whole_record}
use Rattle.record.specs.RecordBytes.{DesignRules}
use Rattle.record_editions.specs.Contents.{whole_contents}
use Rattle.record_editions.proofs.Whole.{accepted_design, refused_contents, design_read_lem}
use Rattle.record_lines.specs.Changes.{Change}
use Rattle.record_lines.specs.Records.{changed_record}
use Rattle.record_naming.specs.Naming.{found_mask}
use Rattle.record_naming.proofs.Refusals.{found_mask_small}
use Rattle.record_by_number.specs.Parts.{looked_up, parts_mask, changed_there}

-- the design of an accepted record whose contents were read
pub record DesignSeen (bytes : List ℕ) (contents : Contents) : Type 0 where
  pub d : Design
  pub next : ℕ
  pub read : whole_record bytes ≡ found d next
  pub rules : DesignRules d
  pub list : contents.list ≡ d.parts

module _ (bytes : List ℕ) (small : Bytes bytes) (contents : Contents) (e : contents ≡ whole_contents bytes) where
  pub looked_refused : (why : Refusal) → contents.verdict ≡ Err why → (look : List ℕ → Numbered) → Err why ≡ looked_up look (whole_record bytes)
  looked_refused why v look = cases (whole_record bytes) refl
    where
      told : (whole_contents bytes).verdict ≡ Err why
      told = ap (λ (c : Contents). c.verdict) (sym e) ∙ v

      cases : (read : Read Design) → whole_record bytes ≡ read → Err why ≡ looked_up look read
      cases (refused r) here =
          let same : Err r ≡ Err why = sym (ap (λ (c : Contents). c.verdict) (refused_contents bytes r here)) ∙ told in
          let why_same : why ≡ r = cc same in
          ap Err why_same
      cases (found d next) here =
          let same : (Ok tt) ≡ Err why = sym (ap (λ (c : Contents). c.verdict) (design_read_lem bytes small d next here).contents) ∙ told in
          let z : ◌≡◌ {A = ℕ} 0 1 = cc in
          absurd (omega arith)

  pub looked_design : contents.verdict ≡ Ok tt → DesignSeen bytes contents
  looked_design v =
      let a = accepted_design bytes (ap (λ (c : Contents). c.verdict) (sym e) ∙ v) in
      let r = design_read_lem bytes small a.0 a.1 a.2 in
      record { d = a.0; next = a.1; read = a.2; rules = r.rules; list = ap (λ (c : Contents). c.list) (e ∙ r.contents) }

module _ {bytes : List ℕ} {contents : Contents} (s : DesignSeen bytes contents) where
  pub numbers_room : contents.list.count ≤ length contents.list.numbers
  numbers_room = rw s.list (cells_enough s.d.parts s.rules.parts)

  pub numbers_counted : contents.list.count ≡ length (numbers_of contents.list)
  numbers_counted = rw s.list (sym (well_formed_counted s.d.parts s.rules.parts))

  pub looked_up_lem : (look : List ℕ → Numbered) → look (numbers_of contents.list) ≡ looked_up look (whole_record bytes)
  looked_up_lem look = ap (λ (list : PartList). look (numbers_of list)) s.list ∙ ap (looked_up look) (sym s.read)

-- ---- a change of what was looked up

module _ (change : ℕ → Change) (bytes buffer : List ℕ) (v : Numbered) where
  pub there_refused : (why : Refusal) → v ≡ Err why → outcome (Err why) buffer ≡ changed_there change v bytes buffer
  there_refused why e = ap (λ (x : Numbered). changed_there change x bytes buffer) (sym e)

  pub there_changed : (there : ℕ) → v ≡ Ok there → changed_record (change there) bytes buffer ≡ changed_there change v bytes buffer
  there_changed there e = ap (λ (x : Numbered). changed_there change x bytes buffer) (sym e)

-- a mask that was found is a set
pub mask_is_set : (bytes wanted : List ℕ) (mask : ℕ) → parts_mask bytes wanted ≡ Ok mask → mask < 65536
unfolding parts_mask
mask_is_set bytes wanted mask = cases (whole_record bytes)
  where
    cases : (read : Read Design) → looked_up (λ numbers. found_mask numbers wanted) read ≡ Ok mask → mask < 65536
    cases (refused why) e = let z : ◌≡◌ {A = ℕ} 0 1 = cc in absurd (omega arith)
    cases (found d next) e = found_mask_small (numbers_of d.parts) wanted mask e
