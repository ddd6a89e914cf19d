-- Laws of numbers written one after the other, whatever their width: the form of one more stands behind that of those before it, and placing
-- form after form is placing them all; and the pieces of a record.
-- Assumes nothing.
use mathlib.Core.Path.{◌≡◌, refl, sym, ap, ap₂, ◌∙◌}
use mathlib.Core.List.{List, [], ◌∷◌, ◌++◌, append_assoc, append-nil}
use Prim.Native.Nat.{ℕ, ◌+◌, ◌*◌, ◌^◌, ◌≤◌, ◌<◌}
use native.Mathlib.Numerals.{add-one}
use native.Mathlib.Omega.{arith}
use lib.ListN.{length, get_or, take, drop, length-append, take-append-drop}
use lib.Seq.{take-suc}
use Rattle.std.specs.List.{sum_by}
use Rattle.std.proofs.lemmas.List.Sums.{sum_by-cons}
use Rattle.std.specs.Prelude.{Ok}
use Rattle.answer.specs.Outcome.{outcome, delivered}
use Rattle.answer.proofs.Outcomes.{in_front_none, in_front_delivered}
use Rattle.answer.proofs.Placing.{in_front_more}
use Rattle.answer.specs.Placed.{placed}
use Rattle.codec.specs.ByteForm.{bytes_of, forms_of}
use Rattle.codec.proofs.ByteForms.{bytes_at_most, forms_most}
use Rattle.record_tail.specs.TailBytes.{tail_bytes}
use Rattle.answer.proofs.Forms.{placed_more, wrote_none}
use Rattle.numbers.specs.Tables.{tabulate}
use Rattle.theory_sets.specs.Structures.{listed}
use Rattle.theory_orders.specs.Formulas.{path_count}
use Rattle.record_parts.specs.declared.PartList.{PartList}
use Rattle.record_parts.specs.PartLists.{list_of, numbers_of}
use Rattle.record_parts.proofs.WellFormed.{numbers_of_list, well_formed_list}
use Rattle.record.specs.Records.{Design, design}
use Rattle.record_editions.specs.declared.Edition.{Edition}
use Rattle.record_editions.specs.declared.Edition.TheVariants.{First, Second}
use Rattle.record_editions.specs.Editions.{fresh_counts}
use Rattle.record_editions.specs.EditionBytes.{stored_bytes}
use Rattle.record_lines.specs.Records.{in_edition}
use Rattle.record_changes.specs.Inside.{second_bytes}
use Rattle.record_head.specs.HeadingBytes.{parts_bytes, head_bytes}
use Rattle.record.specs.RecordBytes.{record_bytes, DesignRules}
use Rattle.record.proofs.Lengths.{record_sum}

pub forms_append : (front behind : List ℕ) → forms_of (front ++ behind) ≡ forms_of front ++ forms_of behind
unfolding forms_of
forms_append [] behind = refl
forms_append (x ∷ xs) behind =
    ap (λ (l : List ℕ). bytes_of x ++ l) (forms_append xs behind) ∙ sym (append_assoc (bytes_of x) (forms_of xs) (forms_of behind))

-- one number more
pub forms_next : (i : ℕ) (numbers : List ℕ) → i < length numbers → forms_of (take (i + 1) numbers) ≡ forms_of (take i numbers) ++ bytes_of (get_or numbers i 0)
unfolding forms_of
forms_next i numbers h =
    ap (λ (k : ℕ). forms_of (take k numbers)) (add-one i) ∙ ap forms_of (take-suc numbers i 0 h) ∙ forms_append (take i numbers) (get_or numbers i 0 ∷ [])
    ∙ ap (λ (l : List ℕ). forms_of (take i numbers) ++ l) (append-nil (bytes_of (get_or numbers i 0)))

-- the first numbers take no more than all
pub forms_part : (i : ℕ) (numbers : List ℕ) → length (forms_of (take i numbers)) ≤ length (forms_of numbers)
forms_part i numbers =
    let whole : forms_of numbers ≡ forms_of (take i numbers) ++ forms_of (drop i numbers) =
    ap forms_of (sym (take-append-drop i numbers)) ∙ forms_append (take i numbers) (drop i numbers) in
    omega (arith, simp length-append at (ap length whole))

-- ---- placed from a position on, where there is room for all of them

module _ (numbers buffer : List ℕ) (start : ℕ) (room : start + length (forms_of numbers) ≤ length buffer) where
  -- before the first
  pub forms_none : outcome start buffer ≡ placed buffer start (forms_of (take 0 numbers))
  unfolding forms_of
  forms_none = (wrote_none buffer start (omega arith)).wrote

  -- one number more, placed where those before it end
  pub forms_more : (i : ℕ) → i < length numbers → (entry : List ℕ) (position : ℕ) (exit : List ℕ) (next : ℕ) → outcome position entry ≡ placed buffer start (forms_of (take i numbers))
      → outcome next exit ≡ placed entry position (bytes_of (get_or numbers i 0)) → outcome next exit ≡ placed buffer start (forms_of (take (i + 1) numbers))
  forms_more i h entry position exit next before wrote =
      let more = forms_next i numbers h in
      placed_more buffer start (forms_of (take i numbers)) entry position (bytes_of (get_or numbers i 0)) exit next (omega (arith, ap length more, forms_part (i + 1) numbers)) before wrote
      ∙ ap (placed buffer start) (sym more)

-- ---- a record, piece by piece

abbrev pub pieces : ℕ → List ℕ → List ℕ → List ℕ
pieces mark numbers sets = bytes_of (length numbers) ++ bytes_of mark ++ forms_of numbers ++ bytes_of (length sets) ++ forms_of sets

pub record_pieces : (mark : ℕ) (numbers sets : List ℕ) → record_bytes (design (list_of mark numbers) sets) ≡ pieces mark numbers sets
unfolding record_bytes head_bytes parts_bytes
record_pieces mark numbers sets =
    ap (λ (l : List ℕ). (bytes_of (length numbers) ++ (bytes_of mark ++ forms_of l)) ++ bytes_of (length sets) ++ forms_of sets) (numbers_of_list mark numbers)
    ∙ ap (λ (l : List ℕ). l ++ bytes_of (length sets) ++ forms_of sets) (sym (append_assoc (bytes_of (length numbers)) (bytes_of mark) (forms_of numbers)))

pub record_length : (mark : ℕ) (numbers sets : List ℕ) → length (record_bytes (design (list_of mark numbers) sets))
    ≡ length (bytes_of (length numbers)) + length (bytes_of mark) + length (forms_of numbers) + length (bytes_of (length sets)) + length (forms_of sets)
record_length mark numbers sets =
    omega (arith, record_sum (design (list_of mark numbers) sets), ap (λ (l : List ℕ). length (forms_of l)) (numbers_of_list mark numbers))

-- what is placed in front of a lent buffer that has room for it is delivered
pub placed_delivered : (buffer form exit : List ℕ) (next : ℕ) → length form ≤ length buffer → outcome next exit ≡ placed buffer 0 form → outcome (Ok next) exit ≡ delivered (Ok tt) form buffer
placed_delivered buffer form exit next fits wrote =
    in_front_delivered buffer form exit next (in_front_more (in_front_none buffer) form exit next fits wrote) fits

-- ---- what stands behind the sets in edition 2, piece by piece

pub tail_length : (retired counts : List ℕ) → length (tail_bytes retired counts) ≡ length (bytes_of (length retired)) + length (forms_of retired) + length (forms_of counts)
unfolding tail_bytes
tail_length retired counts = omega (arith, length-append (bytes_of (length retired)) (forms_of retired ++ forms_of counts), length-append (forms_of retired) (forms_of counts))

pub tail_pieces : (retired counts : List ℕ) → tail_bytes retired counts ≡ bytes_of (length retired) ++ forms_of retired ++ forms_of counts
unfolding tail_bytes
tail_pieces retired counts = sym (append_assoc (bytes_of (length retired)) (forms_of retired) (forms_of counts))

-- a number of 64 bits takes ten bytes at the most
pub bytes_ten : (n : ℕ) → n < 18446744073709551616 → length (bytes_of n) ≤ 10
bytes_ten n small = bytes_at_most 10 n (omega arith) (omega arith)

-- the bytes of each, added up
pub forms_summed : (numbers : List ℕ) → sum_by (λ n. length (bytes_of n)) numbers ≡ length (forms_of numbers)
unfolding forms_of
forms_summed [] = refl
forms_summed (x ∷ xs) = sum_by-cons (λ n. length (bytes_of n)) x xs ∙ ap (λ (k : ℕ). length (bytes_of x) + k) (forms_summed xs) ∙ sym (length-append (bytes_of x) (forms_of xs))

-- numbers of 64 bits take ten bytes each at the most
pub forms_ten : (numbers : List ℕ) → ((i : ℕ) → get_or numbers i 0 < 128 ^ 10) → length (forms_of numbers) ≤ 10 * length numbers
forms_ten numbers small = forms_most 10 numbers (λ i. bytes_at_most 10 (get_or numbers i 0) (omega arith) (small i))

-- ---- in an edition

module _ (list : PartList) (sets retired buffer : List ℕ) (rules : DesignRules (design list sets)) where
  -- a well-formed list is the list of its mark and its numbers
  same_design : design (list_of list.mark (numbers_of list)) sets ≡ design list sets
  same_design = ap (λ (l : PartList). design l sets) (sym (well_formed_list list rules.parts))

  pub first_is : (edition : Edition) → edition ≡ First
      → delivered (Ok tt) (record_bytes (design (list_of list.mark (numbers_of list)) sets)) buffer ≡ delivered (Ok tt) (stored_bytes (in_edition edition (design list sets) retired)) buffer
  unfolding stored_bytes
  first_is edition e =
      ap (λ (d : Design). delivered (Ok tt) (record_bytes d) buffer) same_design
      ∙ ap (λ (x : Edition). delivered (Ok tt) (stored_bytes (in_edition x (design list sets) retired)) buffer) (sym e)

  pub second_is : (counts : List ℕ) → take (list.count + 1) counts ≡ tabulate (list.count + 1) (path_count list.count (listed sets)) → (edition : Edition) → edition ≡ Second
      → delivered (Ok tt) (second_bytes (design (list_of list.mark (numbers_of list)) sets) retired (take (list.count + 1) counts)) buffer
      ≡ delivered (Ok tt) (stored_bytes (in_edition edition (design list sets) retired)) buffer
  unfolding stored_bytes fresh_counts
  second_is counts fresh edition e =
      ap₂ (λ (d : Design) (l : List ℕ). delivered (Ok tt) (second_bytes d retired l) buffer) same_design fresh
      ∙ ap (λ (x : Edition). delivered (Ok tt) (stored_bytes (in_edition x (design list sets) retired)) buffer) (sym e)
