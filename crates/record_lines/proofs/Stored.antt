-- Changes of records of either edition: what a change gives has the changed design and keeps the rules, the numbers that left are filed, and
-- conversions there and back change nothing.
-- Assumes nothing.
use mathlib.Core.Path.{◌≡◌, refl}
use mathlib.Core.List.Memᴰ
use mathlib.Core.List.{List, []}
use mathlib.Core.Logic.{⊎_elim}
use Prim.Native.Nat.{ℕ}
use native.Mathlib.Omega.{arith}
use Rattle.std.specs.Prelude.{Ok}
use Rattle.answer.proofs.Outcomes.{then_accepted}
use Rattle.record_numbers.specs.Numbering.{RisingWithin}
use Rattle.record_parts.specs.PartLists.{numbers_of}
use Rattle.record_parts.specs.Changes.{single}
use Rattle.record_parts.specs.Lines.{In}
use Rattle.record_parts.proofs.LeftOut.{in_named}
use Rattle.record_parts.proofs.Numbers.{rising_in, rising_wider}
use Rattle.record.specs.Records.{Design}
use Rattle.record.specs.RecordBytes.{DesignRules}
use Rattle.record_retired.specs.Retired.{filed_all, RetiredRules}
use Rattle.record_retired.proofs.Filing.{filed_all_most, filed_from, filed_rising, rising_named}
use Rattle.record_editions.specs.declared.Edition.{Edition}
use Rattle.record_editions.specs.declared.Edition.TheVariants.{First, Second}
use Rattle.record_editions.specs.Editions.{Stored, first, second, design_of, retired_in, edition_of}
use Rattle.record_editions.specs.EditionBytes.{StoredRules}
use Rattle.record_editions.proofs.RoundTrip.{rules_design}
use Rattle.record_lines.specs.Changes.{Change, add_part, take_out, take_out_group, add_set, convert, change_refusal, changed, left_in}
use Rattle.record_lines.specs.Records.{edition_after, in_edition, back_refusal, stored_refusal, changed_stored}
use Rattle.record_lines.specs.Lines.{issued_in}
use Rattle.record_lines.proofs.Rules.{changed_rules}
use Rattle.record_lines.proofs.DesignLines.{design_line_one}

-- ---- what a change gives

in_design : (edition : Edition) (d : Design) (retired : List ℕ) → design_of (in_edition edition d retired) ≡ d
in_design First d retired = refl
in_design Second d retired = refl

in_edition_lem : (edition : Edition) (d : Design) (retired : List ℕ) → edition_of (in_edition edition d retired) ≡ edition
in_edition_lem First d retired = refl
in_edition_lem Second d retired = refl

-- the changed design, in the edition that was read or asked for
pub changed_design : (change : Change) (s : Stored) → design_of (changed_stored change s) ≡ changed change (design_of s)
unfolding changed_stored
changed_design change s = in_design (edition_after change (edition_of s)) (changed change (design_of s)) (filed_all (left_in change (design_of s)) (retired_in s))

pub changed_edition : (change : Change) (s : Stored) → edition_of (changed_stored change s) ≡ edition_after change (edition_of s)
unfolding changed_stored
changed_edition change s = in_edition_lem (edition_after change (edition_of s)) (changed change (design_of s)) (filed_all (left_in change (design_of s)) (retired_in s))

-- "A change writes the edition it read"
pub edition_kept : (s : Stored) → (edition_of (changed_stored add_part s) ≡ edition_of s) × ((position : ℕ) → edition_of (changed_stored (take_out position) s) ≡ edition_of s)
    × ((group : ℕ) → edition_of (changed_stored (take_out_group group) s) ≡ edition_of s) × ((set : ℕ) → edition_of (changed_stored (add_set set) s) ≡ edition_of s)
edition_kept s = (changed_edition add_part s, λ position. changed_edition (take_out position) s, λ group. changed_edition (take_out_group group) s, λ set. changed_edition (add_set set) s)

-- and where that is edition 2, the numbers that left are filed
pub changed_retired : (change : Change) (s : Stored) → edition_of (changed_stored change s) ≡ Second → retired_in (changed_stored change s) ≡ filed_all (left_in change (design_of s)) (retired_in s)
unfolding changed_stored
changed_retired change s = cases (edition_after change (edition_of s))
  where
    cases : (edition : Edition) → edition_of (in_edition edition (changed change (design_of s)) (filed_all (left_in change (design_of s)) (retired_in s))) ≡ Second
        → retired_in (in_edition edition (changed change (design_of s)) (filed_all (left_in change (design_of s)) (retired_in s))) ≡ filed_all (left_in change (design_of s)) (retired_in s)
    cases First e = let z : ◌≡◌ {A = ℕ} 0 1 = cc in absurd (omega arith)
    cases Second e = refl

-- ---- the rules

-- the retired numbers of a record keep their rules; edition 1 has none
pub retired_rules : (s : Stored) → StoredRules s → RetiredRules (design_of s).parts.mark (numbers_of (design_of s).parts) (retired_in s)
retired_rules (first d) r = record { most = omega arith; rising = tt; unused = λ number i used. Memᴰ.not-nil i }
retired_rules (second d retired) r = r.1

-- the numbers that leave were in use, and rise under the mark
left_rising : (change : Change) (d : Design) → DesignRules d → RisingWithin 0 d.parts.mark (left_in change d)
left_rising add_part d r = tt
left_rising (take_out position) d r = rising_named (single position) 0 d.parts.mark (numbers_of d.parts) r.parts.rules.rising
left_rising (take_out_group group) d r = rising_named group 0 d.parts.mark (numbers_of d.parts) r.parts.rules.rising
left_rising (add_set set) d r = tt
left_rising (convert edition) d r = tt

left_used : (change : Change) (d : Design) (number : ℕ) → In number (left_in change d) → In number (numbers_of d.parts)
left_used add_part d number i = absurd (Memᴰ.not-nil i)
left_used (take_out position) d number i = in_named (numbers_of d.parts) (single position) i
left_used (take_out_group group) d number i = in_named (numbers_of d.parts) group i
left_used (add_set set) d number i = absurd (Memᴰ.not-nil i)
left_used (convert edition) d number i = absurd (Memᴰ.not-nil i)

-- filed behind the others they keep the rules of the changed design: a number that is issued is above every retired one
filed_after : (change : Change) (d : Design) (retired : List ℕ) → DesignRules d → change_refusal change d ≡ Ok tt → RetiredRules d.parts.mark (numbers_of d.parts) retired
    → RetiredRules (changed change d).parts.mark (numbers_of (changed change d).parts) (filed_all (left_in change d) retired)
filed_after change d retired r accepted q =
    let line = (design_line_one change d r accepted).parts in
    let gone : List ℕ = left_in change d in
    let mark : ℕ = d.parts.mark in
    record {
      most = filed_all_most gone retired q.most;
      rising = rising_wider 0 mark 0 (changed change d).parts.mark (filed_all gone retired) (omega arith) line.mark
          (filed_rising 0 mark gone retired (left_rising change d r) q.rising (λ number i j. q.unused number j (left_used change d number i)));
      unused = λ number i used. ⊎_elim
          (λ left. (line.gone number left).1 used)
          (λ old. ⊎_elim
          (λ first. q.unused number old first)
          (λ issued.
          let above = (rising_in mark (changed change d).parts.mark (issued_in change d) line.rising issued).0 in
          let below = (rising_in 0 mark retired q.rising old).1 in
          omega arith)
          (line.origin number used))
          (filed_from gone retired i);
    }

-- a design and retired numbers that keep their rules keep them in either edition
in_rules : (edition : Edition) (d : Design) (retired : List ℕ) → DesignRules d → RetiredRules d.parts.mark (numbers_of d.parts) retired → StoredRules (in_edition edition d retired)
in_rules First d retired r q = r
in_rules Second d retired r q = (r, q)

pub stored_rules : (change : Change) (s : Stored) → StoredRules s → stored_refusal change s ≡ Ok tt → StoredRules (changed_stored change s)
unfolding changed_stored
stored_rules change s r accepted =
    let d : Design = design_of s in
    let made = (then_accepted (change_refusal change d) (back_refusal (edition_after change (edition_of s)) (retired_in s)) accepted).0 in
    in_rules (edition_after change (edition_of s)) (changed change d) (filed_all (left_in change d) (retired_in s)) (changed_rules change d (rules_design s r) made)
    (filed_after change d (retired_in s) (rules_design s r) made (retired_rules s r))

-- ---- conversions

-- a record already of the edition asked for stays as it is, and nothing refuses that
pub same_edition : (s : Stored) → (stored_refusal (convert (edition_of s)) s ≡ Ok tt) × (changed_stored (convert (edition_of s)) s ≡ s)
unfolding changed_stored filed_all
same_edition (first d) = (refl, refl)
same_edition (second d retired) = (refl, refl)

-- to edition 2 a design comes with no retired numbers
pub to_second : (d : Design) → (stored_refusal (convert Second) (first d) ≡ Ok tt) × (changed_stored (convert Second) (first d) ≡ second d [])
unfolding changed_stored filed_all
to_second d = (refl, refl)

-- and back only with none
pub to_first : (d : Design) → (stored_refusal (convert First) (second d []) ≡ Ok tt) × (changed_stored (convert First) (second d []) ≡ first d)
unfolding changed_stored
to_first d = (refl, refl)
