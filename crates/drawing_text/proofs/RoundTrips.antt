-- There and back: the text of an accepted record, of either edition, is read as a record of edition 1 with the same sets, part numbers 1 to n and
-- mark n; writing that gives the same text; and of a record that has those numbers already its bytes in edition 1 come back. What a text says does
-- not depend on the order of its lines and positions, nor on repeats and nested sets. And whatever is written of a text is accepted again.
-- Assumes nothing.
use mathlib.Core.Path.{◌≡◌, refl, sym, ap, ap₂, ◌∙◌, subst}
use mathlib.Core.List.Memᴰ
use mathlib.Core.List.{List, [], ◌∷◌, Memᴰ}
use Prim.Native.Nat.{ℕ, ◌+◌, ◌-◌, ◌≤◌, ◌<◌}
use native.Mathlib.Omega.{arith}
use lib.ListN.{length, take, drop, get_or}
use Rattle.std.specs.Prelude.{Ok}
use Rattle.answer.specs.Outcome.{Outcome, outcome, delivered, Numbered, Verdict}
use Rattle.answer.proofs.Deliveries.{given, delivered_whole}
use Rattle.numbers.specs.Tables.{tabulate}
use Rattle.numbers.proofs.Tables.{tabulate_length, tabulate_at}
use Rattle.codec.specs.Bytes.{Bytes}
use Rattle.codec.specs.Reads.{Read, found}
use Rattle.theory_sets.specs.Structures.{Covers, listed}
use Rattle.theory_sets.proofs.Masks.{holds_refl}
use Rattle.theory_sets.proofs.Lists.{listed_same, listed_minimal, member_at}
use Rattle.theory_sets.proofs.Structures.{minimal_sets_same}
use Rattle.record_parts.specs.declared.PartList.{PartList}
use Rattle.record_parts.specs.PartLists.{numbers_of, list_of}
use Rattle.record_parts.specs.Lines.{In}
use Rattle.record_parts.proofs.Numbers.{rising_in}
use Rattle.record_parts.proofs.WellFormed.{numbers_of_list}
use Rattle.record.specs.Records.{Design, design}
use Rattle.record.specs.RecordBytes.{record_bytes, DesignRules}
use Rattle.record.proofs.Lengths.{record_longest}
use Rattle.record_retired.specs.Retired.{RetiredRules}
use Rattle.record_editions.specs.declared.Edition.TheVariants.{First}
use Rattle.record_editions.specs.Editions.{Stored, first, second, design_of, retired_in, edition_of, whole_stored, whole_record}
use Rattle.record_editions.specs.EditionBytes.{stored_bytes, StoredRules}
use Rattle.record_editions.proofs.RoundTrip.{stored_written, whole_stored_lem, stored_design, rules_design, design_rules}
use Rattle.record_lines.specs.Changes.{convert, first_design}
use Rattle.record_lines.specs.Records.{back_refusal, stored_refusal, changed_stored, changed_read, changed_record}
use Rattle.record_lines.proofs.Rules.{first_rules}
use Rattle.record_lines.proofs.Stored.{retired_rules}
use Rattle.drawing_text.specs.Lines.{lines_of}
use Rattle.drawing_text.specs.Forms.{numbers_in}
use Rattle.drawing_text.specs.Drawings.{set_on, drawing_refusal, drawn_parts, drawn_sets, record_of_drawing}
use Rattle.drawing_text.specs.Writing.{text_of, drawing_of, drawing_read, drawing_of_record, wrote, text_there, record_back, renumbered}
use Rattle.drawing_text.specs.Whole.{Redrawn}
use Rattle.drawing_text.proofs.Sets.{set_same}
use Rattle.drawing_text.proofs.Drawings.{drawn_accepted, written_accepted, written_parts, written_sets}
use Rattle.drawing_text.proofs.Lengths.{drawing_most}

-- ---- a record that is made of a text

-- what is written of a text is accepted again, as a record of edition 1, and read as the first design of what the text says
pub drawn_read : (text buffer : List ℕ) (k : ℕ) → (record_of_drawing text buffer).answer ≡ Ok k
    → (wrote (record_of_drawing text buffer) k ≡ record_bytes (first_design (drawn_parts text) (drawn_sets text)))
    × (whole_stored (wrote (record_of_drawing text buffer) k) ≡ found (first (first_design (drawn_parts text) (drawn_sets text))) k)
unfolding record_of_drawing stored_bytes
drawn_read text buffer k e =
    let d : Design = first_design (drawn_parts text) (drawn_sets text) in
    let left = (delivered (drawing_refusal text) (record_bytes d) buffer).buffer in
    let g = given (drawing_refusal text) (record_bytes d) buffer left k (ap (λ (w : Numbered). outcome w left) (sym e)) in
    let rules = first_rules (drawn_parts text) (drawn_sets text) (drawn_accepted text g.accepted) in
    (g.front, ap whole_stored g.front ∙ whole_stored_lem (first d) rules ∙ ap (found (first d)) (sym g.counted))

-- ---- which lengths are always enough

-- 553,419 bytes for the text of an accepted record, of either edition
pub text_given : (bytes : List ℕ) → Bytes bytes → (d : Design) (next : ℕ) → whole_record bytes ≡ found d next → (buffer : List ℕ) → 553419 ≤ length buffer
    → (drawing_of_record bytes buffer).answer ≡ Ok (length (drawing_of d))
unfolding drawing_of_record
text_given bytes bounded d next read buffer long =
    let rules = (design_rules bytes d next bounded read).0 in
    ap (λ (r : Read Design). (drawing_read r buffer).answer) read
    ∙ sym (ap (λ (o : Outcome Numbered (List ℕ)). o.answer) (delivered_whole (Ok tt) (drawing_of d) buffer refl (length (drawing_of d)) refl _ refl (omega (arith, long, drawing_most d rules))))

-- 38,732 for the record of an accepted text
pub record_given : (text : List ℕ) → drawing_refusal text ≡ Ok tt → (buffer : List ℕ) → 38732 ≤ length buffer
    → (record_of_drawing text buffer).answer ≡ Ok (length (record_bytes (first_design (drawn_parts text) (drawn_sets text))))
unfolding record_of_drawing
record_given text accepted buffer long =
    let d : Design = first_design (drawn_parts text) (drawn_sets text) in
    let rules = first_rules (drawn_parts text) (drawn_sets text) (drawn_accepted text accepted) in
    sym
    (ap (λ (o : Outcome Numbered (List ℕ)). o.answer)
    (delivered_whole (drawing_refusal text) (record_bytes d) buffer accepted (length (record_bytes d)) refl _ refl (omega (arith, long, record_longest d rules))))

-- ---- the order of lines and positions, repeats and nested sets do not matter

-- two accepted texts of as many parts, of which each set holds one of the other text's, give the same record
pub same_record : (text other buffer : List ℕ) → drawing_refusal text ≡ Ok tt → drawing_refusal other ≡ Ok tt → drawn_parts text ≡ drawn_parts other
    → Covers (drawn_sets text) (drawn_sets other) → Covers (drawn_sets other) (drawn_sets text) → record_of_drawing text buffer ≡ record_of_drawing other buffer
unfolding record_of_drawing
same_record text other buffer here there parts forth back =
    ap₂ (λ (v : Verdict) (d : Design). delivered v (record_bytes d) buffer) (here ∙ sym there)
    (ap (λ (n : ℕ). first_design n (drawn_sets text)) parts
    ∙ ap (design (list_of (drawn_parts other) (tabulate (drawn_parts other) (λ i. i + 1))))
    (minimal_sets_same (drawn_parts other) (listed (drawn_sets text)) (listed (drawn_sets other)) (λ a small. listed_same (drawn_sets text) (drawn_sets other) forth back a)))

-- so it is if they have the same sets, in whatever order and however often
pub same_sets : (text other buffer : List ℕ) → drawing_refusal text ≡ Ok tt → drawing_refusal other ≡ Ok tt → drawn_parts text ≡ drawn_parts other
    → ((set : ℕ) → Memᴰ set (drawn_sets text) → Memᴰ set (drawn_sets other)) → ((set : ℕ) → Memᴰ set (drawn_sets other) → Memᴰ set (drawn_sets text))
    → record_of_drawing text buffer ≡ record_of_drawing other buffer
same_sets text other buffer here there parts forth back =
    same_record text other buffer here there parts (λ set m. (set, forth set m, holds_refl set)) (λ set m. (set, back set m, holds_refl set))

lines_sets : (text other : List ℕ) → Redrawn text other → (set : ℕ) → Memᴰ set (drawn_sets text) → Memᴰ set (drawn_sets other)
lines_sets text other lines set m =
    let f = Memᴰ.of_map set_on (drop 1 (lines_of text)) m in
    let same = lines f.0 f.1 in
    subst (λ (a : ℕ). Memᴰ a (drawn_sets other)) (sym (set_same (numbers_in f.0) (numbers_in same.0) same.2) ∙ f.2)
    (Memᴰ.map set_on same.1)

-- and so it is if each set line of one stands in the other too, its positions in whatever order
pub same_lines : (text other buffer : List ℕ) → drawing_refusal text ≡ Ok tt → drawing_refusal other ≡ Ok tt → drawn_parts text ≡ drawn_parts other
    → Redrawn text other → Redrawn other text → record_of_drawing text buffer ≡ record_of_drawing other buffer
same_lines text other buffer here there parts forth back =
    same_sets text other buffer here there parts (lines_sets text other forth) (lines_sets other text back)

-- ---- a design, its text, and back

module _ (d : Design) (rules : DesignRules d) where
  -- the text of a design says the design with its parts numbered again
  pub read_back : first_design (drawn_parts (drawing_of d)) (drawn_sets (drawing_of d)) ≡ renumbered d
  read_back =
      ap₂ first_design (written_parts d rules) (written_sets d rules)
      ∙ ap (design (list_of d.parts.count (tabulate d.parts.count (λ i. i + 1))))
      (listed_minimal d.parts.count d.sets rules.sets.rising (λ b m. (rules.sets.within b m).0) rules.sets.apart)

-- a design's parts numbered again are as many, so that its text is the same
pub same_text : (d : Design) → drawing_of (renumbered d) ≡ drawing_of d
unfolding drawing_of
same_text d = ap (λ (n : ℕ). text_of n d.sets) (tabulate_length d.parts.count (λ i. i + 1))

-- ---- records whose parts are numbered 1 to n already, with mark n

-- the design of such a record is its own
numbered_already : (d : Design) → d.parts ≡ list_of d.parts.count (tabulate d.parts.count (λ i. i + 1)) → renumbered d ≡ d
numbered_already d parts = ap (λ (list : PartList). design list d.sets) (sym parts)

-- all numbers up to its mark are in use, so that none is retired, in either edition
all_in_use : (n number : ℕ) → 0 < number → number ≤ n → In number (tabulate n (λ i. i + 1))
all_in_use n number some most =
    let here : get_or (tabulate n (λ i. i + 1)) (number - 1) 0 ≡ number - 1 + 1 = tabulate_at n (λ i. i + 1) (number - 1) 0 (omega arith) in
    let same : get_or (tabulate n (λ i. i + 1)) (number - 1) 0 ≡ number = omega (arith, here) in
    subst (λ (k : ℕ). In k (tabulate n (λ i. i + 1))) same
    (member_at (tabulate n (λ i. i + 1)) (number - 1) (omega (arith, tabulate_length n (λ i. i + 1))))

pub none_retired : (s : Stored) → StoredRules s → (design_of s).parts ≡ list_of (design_of s).parts.count (tabulate (design_of s).parts.count (λ i. i + 1)) → retired_in s ≡ []
none_retired s rules parts = cases (retired_in s) (retired_rules s rules)
  where
    cases : (retired : List ℕ) → RetiredRules (design_of s).parts.mark (numbers_of (design_of s).parts) retired → retired ≡ []
    cases [] q = refl
    cases (number ∷ more) q =
        let n : ℕ = (design_of s).parts.count in
        let mark : (design_of s).parts.mark ≡ n = ap (λ (list : PartList). list.mark) parts in
        let used : numbers_of (design_of s).parts ≡ tabulate n (λ i. i + 1) = ap numbers_of parts ∙ numbers_of_list n (tabulate n (λ i. i + 1)) in
        let here : In number (number ∷ more) = member_at (number ∷ more) 0 (omega arith) in
        let bounds = rising_in 0 (design_of s).parts.mark (number ∷ more) q.rising here in
        absurd (q.unused number here (subst (In number) (sym used) (all_in_use n number bounds.0 (omega (arith, mark, bounds.1)))))

-- in edition 1 a record's bytes are those of its design, and so are those that a conversion to edition 1 writes
first_bytes : (s : Stored) → edition_of s ≡ First → stored_bytes s ≡ record_bytes (design_of s)
unfolding stored_bytes
first_bytes (first d) edition = refl
first_bytes (second d retired) edition = let z : ◌≡◌ {A = ℕ} 0 1 = cc in absurd (omega arith)

converted_bytes : (s : Stored) → stored_bytes (changed_stored (convert First) s) ≡ record_bytes (design_of s)
unfolding changed_stored stored_bytes
converted_bytes (first d) = refl
converted_bytes (second d retired) = refl

-- which nothing refuses where no number is retired
converted_accepted : (s : Stored) → retired_in s ≡ [] → stored_refusal (convert First) s ≡ Ok tt
converted_accepted (first d) none = refl
converted_accepted (second d retired) none = ap (back_refusal First) none

-- ---- record bytes, their text, and back

-- what is written of an accepted record is the text of its design
pub text_written : (bytes : List ℕ) (d : Design) (next : ℕ) → whole_record bytes ≡ found d next → (buffer : List ℕ) (k : ℕ) → (drawing_of_record bytes buffer).answer ≡ Ok k
    → text_there bytes buffer k ≡ drawing_of d
unfolding drawing_of_record
text_written bytes d next read buffer k e = rw read (front (rw read at e))
  where
    front : (drawing_read (found d next) buffer).answer ≡ Ok k → take k (drawing_read (found d next) buffer).buffer ≡ drawing_of d
    front e =
        let left = (drawing_read (found d next) buffer).buffer in
        (given (Ok tt) (drawing_of d) buffer left k (ap (λ (w : Numbered). outcome w left) (sym e))).front

-- two records of the same design, of whatever editions, give the same text
pub editions_draw_alike : (a b : List ℕ) (s t : Stored) (i j : ℕ) → whole_stored a ≡ found s i → whole_stored b ≡ found t j → design_of s ≡ design_of t → (buffer : List ℕ)
    → drawing_of_record a buffer ≡ drawing_of_record b buffer
unfolding drawing_of_record
editions_draw_alike a b s t i j read_a read-b same buffer =
    ap (λ (r : Read Design). drawing_read r buffer) (stored_design a s i read_a)
    ∙ ap (λ (d : Design). delivered (Ok tt) (drawing_of d) buffer) same
    ∙ sym (ap (λ (r : Read Design). drawing_read r buffer) (stored_design b t j read-b))

-- a record that is accepted, its text in one buffer, and the record of that text in another
module _ (bytes : List ℕ) (bounded : Bytes bytes) (s : Stored) (next : ℕ) (read : whole_stored bytes ≡ found s next) (text_buffer : List ℕ) (text_bytes : ℕ) (e : (drawing_of_record bytes text_buffer).answer ≡ Ok text_bytes) where
  abbrev text : List ℕ
  text = text_there bytes text_buffer text_bytes

  keeps : StoredRules s × (stored_bytes s ≡ bytes) × (next ≡ length bytes)
  keeps = stored_written bytes s next bounded read

  rules : DesignRules (design_of s)
  rules = rules_design s keeps.0

  -- the text is that of its design, which says nothing of the edition and the retired numbers
  there : text ≡ drawing_of (design_of s)
  there = text_written bytes (design_of s) next (stored_design bytes s next read) text_buffer text_bytes e

  said : first_design (drawn_parts text) (drawn_sets text) ≡ renumbered (design_of s)
  said = ap (λ (l : List ℕ). first_design (drawn_parts l) (drawn_sets l)) there ∙ read_back (design_of s) rules

  -- the text is read: only a buffer that is too short refuses it, and 38,732 bytes are enough
  pub text_is_read : (record_buffer : List ℕ) → 38732 ≤ length record_buffer
      → (record_of_drawing (text_there bytes text_buffer text_bytes) record_buffer).answer ≡ Ok (length (record_bytes (renumbered (design_of s))))
  text_is_read record_buffer long =
      record_given text (ap drawing_refusal there ∙ written_accepted (design_of s) rules) record_buffer long
      ∙ ap (λ (x : Design). Ok (length (record_bytes x))) said

  module _ (record_buffer : List ℕ) (count : ℕ) (g : (record_of_drawing (text_there bytes text_buffer text_bytes) record_buffer).answer ≡ Ok count) where
    -- read back, it is a record of edition 1 with the same sets, part numbers 1 to n and mark n
    pub text_read_back : (record_back bytes text_buffer text_bytes record_buffer count ≡ record_bytes (renumbered (design_of s)))
        × (whole_stored (record_back bytes text_buffer text_bytes record_buffer count) ≡ found (first (renumbered (design_of s))) count)
    text_read_back =
        let r = drawn_read text record_buffer count g in
        (r.0 ∙ ap record_bytes said, r.1 ∙ ap (λ (x : Design). found (first x) count) said)

    -- writing that gives the same text
    pub text_again : (other : List ℕ) (other_bytes : ℕ) → (drawing_of_record (record_back bytes text_buffer text_bytes record_buffer count) other).answer ≡ Ok other_bytes
        → text_there (record_back bytes text_buffer text_bytes record_buffer count) other other_bytes ≡ text_there bytes text_buffer text_bytes
    text_again other other_bytes h =
        let back : List ℕ = record_back bytes text_buffer text_bytes record_buffer count in
        text_written back (renumbered (design_of s)) count (stored_design back (first (renumbered (design_of s))) count text_read_back.1) other other_bytes h
        ∙ same_text (design_of s) ∙ sym there

    -- a record that has those numbers already
    module _ (parts : (design_of s).parts ≡ list_of (design_of s).parts.count (tabulate (design_of s).parts.count (λ i. i + 1))) where
      same_design : record_back bytes text_buffer text_bytes record_buffer count ≡ record_bytes (design_of s)
      same_design = text_read_back.0 ∙ ap record_bytes (numbered_already (design_of s) parts)

      -- comes back byte for byte in edition 1
      pub record_identity : edition_of s ≡ First → record_back bytes text_buffer text_bytes record_buffer count ≡ bytes
      record_identity edition = same_design ∙ sym (first_bytes s edition) ∙ keeps.1

      -- and in either edition as its conversion to edition 1
      pub record_converted : record_back bytes text_buffer text_bytes record_buffer count ≡ stored_bytes (changed_stored (convert First) s)
      record_converted = same_design ∙ sym (converted_bytes s)

      -- so that a call of that conversion gives the same bytes, where the buffer has room for them
      pub conversion_alike : (buffer : List ℕ) → changed_record (convert First) bytes buffer ≡ delivered (Ok tt) (record_back bytes text_buffer text_bytes record_buffer count) buffer
      unfolding changed_record
      conversion_alike buffer =
          ap (λ (r : Read Stored). changed_read (convert First) r buffer) read
          ∙ ap₂ (λ (v : Verdict) (l : List ℕ). delivered v l buffer) (converted_accepted s (none_retired s keeps.0 parts)) (sym record_converted)
