-- The walk along the entries of a sheet: those so far stand in the cells, and what is judged behind them.
-- Assumes nothing.
use mathlib.Core.Path.{◌≡◌, refl, sym, ap, ap₂, ◌∙◌}
use mathlib.Core.Bool.{not}
use mathlib.Core.List.{List, [], ◌∷◌, ◌++◌, append-nil, map, map-append}
use Prim.Native.Nat.{ℕ, ◌+◌, ◌-◌, ◌≤◌, ◌<◌}
use native.Mathlib.Nat.{sub-zero}
use native.Mathlib.Omega.{arith}
use lib.IntN.{ℤ, pos}
use lib.ListN.{length, take, drop, set, replicate, length-append}
use lib.Seq.{take-append_seam}
use borrow.Author.Tests.{eq-eqb, lt-ltb, le-ltb}
use Rattle.std.specs.Prelude.{Ok, Err}
use Rattle.std.proofs.lemmas.List.{take-replicate}
use Rattle.answer.specs.Outcome.{at, Verdict}
use Rattle.answer.specs.declared.Reason.TheVariants.{WrongVectorLength, BytesLeft}
use Rattle.answer.specs.declared.Refusal.{Refusal}
use Rattle.answer.proofs.Outcomes.{refuse_passed}
use Rattle.answer.proofs.Checks.{parts_passed}
use Rattle.answer.proofs.FixedCells.{cells_more}
use Rattle.codec.specs.declared.Field.TheVariants as field
use Rattle.codec.specs.Reads.{Read, found, refused, then, unless}
use Rattle.codec.specs.Reading.{number_at}
use Rattle.codec.specs.FieldReads.{judged, field_at, any_number}
use Rattle.codec.proofs.FieldReads.{FieldsWalk, fields_walk_none, fields_walk_more, fields_walk_refused, fields_walk_end}
use Rattle.vector.specs.InStruct.{most_entries, entry_cells, vector_holding, struct_refusal}
use Rattle.vector.proofs.InStruct.{zeros_behind}
use Rattle.vector.specs.declared.Vector.{Vector}
use Rattle.vector_kind.specs.Kinds.{length_of}
use Rattle.vector_conversion.specs.Vectors.{counts_refusal}
use Rattle.vector_kind.specs.declared.Kind.{Kind}
use Rattle.sheet.specs.Sheets.{decoded, sheet, entries_at}
use Rattle.sheet_reading.specs.Inside.{ended, entered}
use Rattle.sheet_reading.specs.Answers.{sheet_read}

pub record EntriesWalk (bytes : List ℕ) (kind : Kind) (count start : ℕ) (cells : List ℤ) (next index : ℕ) : Type 0 where
  pub numbers : List ℕ
  pub walk : FieldsWalk bytes field.Sheet any_number count start numbers next index
  pub earlier : List ℤ
  pub decodes : map (decoded kind) numbers ≡ earlier
  pub counted : length earlier ≡ index
  pub stands : cells ≡ earlier ++ replicate (count - length earlier) (pos 0)

pub walk_none : (bytes : List ℕ) (kind : Kind) (count start : ℕ) → count ≤ most_entries → EntriesWalk bytes kind count start (take count (replicate most_entries (pos 0))) start 0
walk_none bytes kind count start few =
    record {
      numbers = [];
      walk = fields_walk_none bytes field.Sheet any_number count start;
      earlier = [];
      decodes = refl;
      counted = refl;
      stands = take-replicate count most_entries (pos 0) few ∙ ap (λ (k : ℕ). replicate k (pos 0)) (sym (sub-zero count));
    }

module _ {bytes : List ℕ} {kind : Kind} {count start : ℕ} {cells : List ℤ} {next index : ℕ} (w : EntriesWalk bytes kind count start cells next index) where
  pub walk_more : index < count → (value after : ℕ) → number_at bytes next field.Sheet ≡ found value after
      → EntriesWalk bytes kind count start (set cells index (decoded kind value)) after (index + 1)
  unfolding field_at
  walk_more h value after e =
      let entry : ℤ = decoded kind value in
      record {
        numbers = w.numbers ++ (value ∷ []);
        walk = fields_walk_more w.walk h value after (sym (ap (judged (any_number w.numbers next)) e));
        earlier = w.earlier ++ (entry ∷ []);
        decodes = map-append (decoded kind) w.numbers (value ∷ []) ∙ ap (λ (l : List ℤ). l ++ (entry ∷ [])) w.decodes;
        counted = length-append w.earlier (entry ∷ []) ∙ ap (λ (k : ℕ). k + 1) w.counted;
        stands = ap (λ (l : List ℤ). set l index entry) w.stands ∙ cells_more count (pos 0) w.earlier index entry w.counted (omega arith);
      }

  pub walk_refused : index < count → (why : Refusal) → number_at bytes next field.Sheet ≡ refused why → entries_at bytes kind count start ≡ refused why
  unfolding entries_at field_at
  walk_refused h why e =
      ap (λ (r : Read (List ℕ)). then r (λ numbers end. found (map (decoded kind) numbers) end))
      (fields_walk_refused w.walk h why (sym (ap (judged (any_number w.numbers next)) e)))

  pub walk_end : count ≤ index → entries_at bytes kind count start ≡ found w.earlier next
  unfolding entries_at
  walk_end h =
      ap (λ (r : Read (List ℕ)). then r (λ numbers end. found (map (decoded kind) numbers) end)) (fields_walk_end w.walk h)
      ∙ ap (λ (l : List ℤ). found l next) w.decodes

  -- where all are read, they fill the cells
  pub walk_filled : count ≤ index → cells ≡ w.earlier
  walk_filled h =
      let none : count - length w.earlier ≡ 0 = omega (arith, w.counted) in
      w.stands ∙ ap (λ (k : ℕ). w.earlier ++ replicate k (pos 0)) none ∙ append-nil w.earlier

-- ---- behind the entries

-- the cells in front of those that hold entries are the entries
pub entries_held : (count : ℕ) (cells entries : List ℤ) → count ≡ length entries → cells ≡ entry_cells entries → take count cells ≡ entries
entries_held count cells entries counted stands =
    ap₂ (λ (k : ℕ) (l : List ℤ). take k l) counted stands ∙ take-append_seam entries (replicate (most_entries - length entries) (pos 0))

-- 25 comes first, and then 13 and 14
ended_left : (bytes : List ℕ) (kind : Kind) (n : ℕ) (entries : List ℤ) (end : ℕ) → end < length bytes → ended bytes kind n entries end ≡ refused (at BytesLeft end)
ended_left bytes kind n entries end h = rw (lt-ltb end (length bytes) h)

ended_judged : (bytes : List ℕ) (kind : Kind) (n : ℕ) (entries : List ℤ) (end : ℕ) → length bytes ≤ end
    → ended bytes kind n entries end ≡ unless (counts_refusal kind n entries) (found (sheet kind n entries) end)
ended_judged bytes kind n entries end h = rw (le-ltb end (length bytes) h)

-- what is answered of the vector whose entries are walked along, where its length is its kind's
module _ (n : ℕ) {bytes : List ℕ} {kind : Kind} {count start : ℕ} {cells : List ℤ} {next index : ℕ} (w : EntriesWalk bytes kind count start cells next index)
    (known : count ≡ length_of kind n) where
  read : (r : Read (List ℤ)) → entries_at bytes kind count start ≡ r → entered bytes kind n start ≡ then r (ended bytes kind n)
  read r e =
      ap (λ (k : ℕ). then (entries_at bytes kind k start) (ended bytes kind n)) (sym known) ∙ ap (λ (r : Read (List ℤ)). then r (ended bytes kind n)) e

  pub read_stopped : index < count → (why : Refusal) → number_at bytes next field.Sheet ≡ refused why → Err why ≡ sheet_read (entered bytes kind n start)
  read_stopped h why e = ap sheet_read (sym (read (refused why) (walk_refused w h why e)))

  module _ (some : 1 ≤ n) (few : n ≤ 16) (past : count ≤ index) where
    long : length w.earlier ≡ length_of kind n
    long = omega (arith, w.walk.within, w.counted, known)

    all : entered bytes kind n start ≡ ended bytes kind n w.earlier next
    all = read (found w.earlier next) (walk_end w past)

    abbrev vector : Vector
    vector = record { kind = kind; n = n; length = count; entries = cells ++ drop count (replicate most_entries (pos 0)) }

    same : vector ≡ vector_holding kind n w.earlier
    same =
        ap₂ (λ (k : ℕ) (l : List ℤ). record { kind = kind; n = n; length = k; entries = l ++ drop k (replicate most_entries (pos 0)) })
        (known ∙ sym long) (walk_filled w past)
        ∙ ap (λ (l : List ℤ). record { kind = kind; n = n; length = length w.earlier; entries = l }) (zeros_behind w.earlier)

    -- its length is its kind's, so it passes 1 and 12
    held : struct_refusal (vector_holding kind n w.earlier) ≡ counts_refusal kind n w.earlier
    unfolding struct_refusal
    held =
        parts_passed 0 n _ some few
        ∙ refuse_passed _ WrongVectorLength 0 _ (ap not (eq-eqb (length w.earlier) (length_of kind n) long))
        ∙ ap (counts_refusal kind n) (entries_held (length w.earlier) (entry_cells w.earlier) w.earlier refl refl)

    judged_as : (v : Verdict) → v ≡ struct_refusal vector → length bytes ≤ next → entered bytes kind n start ≡ unless v (found (sheet kind n w.earlier) next)
    judged_as v e h =
        all ∙ ended_judged bytes kind n w.earlier next h
        ∙ ap (λ (v : Verdict). unless v (found (sheet kind n w.earlier) next)) (sym (e ∙ ap struct_refusal same ∙ held))

    pub read_left : next < length bytes → Err (at BytesLeft next) ≡ sheet_read (entered bytes kind n start)
    read_left h = ap sheet_read (sym (all ∙ ended_left bytes kind n w.earlier next h))

    pub read_refused : (why : Refusal) → Err why ≡ struct_refusal vector → length bytes ≤ next → Err why ≡ sheet_read (entered bytes kind n start)
    read_refused why e h = ap sheet_read (sym (judged_as (Err why) e h))

    pub read_given : Ok tt ≡ struct_refusal vector → length bytes ≤ next → Ok vector ≡ sheet_read (entered bytes kind n start)
    read_given e h = ap Ok same ∙ ap sheet_read (sym (judged_as (Ok tt) e h))
