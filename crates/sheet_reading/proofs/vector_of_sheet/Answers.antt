-- `sheet_reading::vector_of_sheet` meets its contract: 21 and 22 of the kind's number, then 26, then the same of n, then 1 at place 0.
-- Assumes nothing.
use mathlib.Core.Path.{◌≡◌, sym, ap, ◌∙◌}
use mathlib.Core.Bool.{true, not, ◌&&◌}
use mathlib.Core.List.{List}
use Prim.Native.Nat.{ℕ, ◌≤◌, ◌<◌}
use native.Mathlib.Omega.{arith}
use lib.Dec.{leb}
use borrow.Author.Tests.{le-leb, lt-leb}
use Rattle.std.specs.Prelude.{Ok, Err}
use Rattle.std.proofs.lemmas.Result.{err_from_is_err_and}
use Rattle.answer.specs.Outcome.{at}
use Rattle.answer.specs.declared.Reason.TheVariants.{WrongPartCount, WrongKind}
use Rattle.answer.specs.declared.Refusal.{Refusal}
use Rattle.answer.proofs.Outcomes.{refuse_held}
use Rattle.answer.proofs.Checks.{parts_none, parts_over, parts_passed}
use Rattle.codec.specs.declared.Field.TheVariants as field
use Rattle.codec.specs.Reading.{number_at}
use Rattle.codec.specs.Reads.{Read, reading_of, then, answered, Reading}
use Rattle.codec.proofs.Found.{field_ended, field_passed, field_held}
use Rattle.vector_kind.specs.Kinds.{kind_of, kind_named}
use Rattle.vector_kind.specs.declared.Kind.{Kind}
use Rattle.vector_kind.proofs.KindNumbers.{kind_given, kind_refused}
use Rattle.sheet_reading.specs.Answers.{sheet_read}
use Rattle.sheet.specs.Sheets.{Sheet, kind_judged, parts_judged, sheet_of}
use Rattle.sheet_reading.specs.Inside.{entered, kinded}
use Rattle.sheet_reading.proofs.ReadSheet.{sheet_steps}
use Rattle.sheet_reading.proofs.vector_of_sheet.Goals as goal
use Rattle.sheet_reading.proofs.vector_of_sheet.Goals.{then-parts-lt1-via-then-parts-lt1, then-parts-lt1-via-else-parts-lt1+then-parts-gt16}

module _ (bytes : List ℕ) where
  abbrev behind_kind : Read ℕ → Read Sheet
  behind_kind r = then r (λ number after. kinded bytes (kind_of number) after)

  -- the kind's number
  module _ (r : Reading ℕ) (read : r ≡ reading_of (number_at bytes 0 field.Sheet)) where
    kind_ended : (why : Refusal) → r ≡ Err why → Err why ≡ sheet_read (sheet_of bytes)
    kind_ended why is = ap sheet_read (sym (sheet_steps bytes ∙ ap behind_kind (sym (field_ended bytes 0 field.Sheet kind_judged read why is))))

    module _ (value next : ℕ) (is : r ≡ answered value next) where
      kind_held : (why : Refusal) → kind_judged value ≡ Err why → Err why ≡ sheet_read (sheet_of bytes)
      kind_held why h =
          ap sheet_read (sym (sheet_steps bytes ∙ ap behind_kind (sym (field_held bytes 0 field.Sheet kind_judged read value next why is h))))

      kind_over : 4 < value → Err (at WrongKind 0) ≡ sheet_read (sheet_of bytes)
      kind_over h =
          let off : not (leb 1 value && leb value 4) ≡ true = rw (le-leb 1 value (omega arith), lt-leb value 4 h) in
          kind_held (at WrongKind 0) (refuse_held _ WrongKind 0 (Ok tt) off)

      kind_none : (why : Refusal) → Err why ≡ kind_named value → Err why ≡ sheet_read (sheet_of bytes)
      kind_none why e = kind_held why (kind_refused value why (Ok tt) e)

      module _ (kind : Kind) (named : Ok kind ≡ kind_named value) where
        kind_found : sheet_of bytes ≡ kinded bytes kind next
        kind_found =
            let known = kind_given value kind named in
            sheet_steps bytes ∙ ap behind_kind (sym (field_passed bytes 0 field.Sheet kind_judged read value next is (known.1 (Ok tt))))
            ∙ ap (λ (k : Kind). kinded bytes k next) (sym known.0)

        -- n
        module _ (s : Reading ℕ) (reads : s ≡ reading_of (number_at bytes next field.Sheet)) where
          parts_ended : (why : Refusal) → s ≡ Err why → Err why ≡ sheet_read (sheet_of bytes)
          parts_ended why said =
              ap sheet_read (sym (kind_found
              ∙ ap (λ (x : Read ℕ). then x (entered bytes kind)) (sym (field_ended bytes next field.Sheet parts_judged reads why said))))

          module _ (n start : ℕ) (said : s ≡ answered n start) where
            parts_held : parts_judged n ≡ Err (at WrongPartCount 0) → Err (at WrongPartCount 0) ≡ sheet_read (sheet_of bytes)
            parts_held h =
                ap sheet_read (sym (kind_found
                ∙ ap (λ (x : Read ℕ). then x (entered bytes kind)) (sym (field_held bytes next field.Sheet parts_judged reads n start (at WrongPartCount 0) said h))))

            parts_found : 1 ≤ n → n ≤ 16 → sheet_read (entered bytes kind n start) ≡ sheet_read (sheet_of bytes)
            parts_found some most =
                ap sheet_read (sym (kind_found
                ∙ ap (λ (x : Read ℕ). then x (entered bytes kind)) (sym (field_passed bytes next field.Sheet parts_judged reads n start said (parts_passed 0 n (Ok tt) some most)))))

pub returns-in_err-number : goal.returns-in_err-number
returns-in_err-number c =
    let p = err_from_is_err_and c.from_residual.result c.from_residual.ensures.1 in
    rw (p.1, p.2) (kind_ended c.args.bytes.now _ c.read_number.ensures _ c.in_err-number.was)

pub returns-then-number-gt4 : goal.returns-then-number-gt4
returns-then-number-gt4 c = ap Err c.at.ensures ∙ kind_over c.args.bytes.now _ c.read_number.ensures _ _ c.in_ok-number.was c.if-number-gt4.true

pub returns-in_err-kind : goal.returns-in_err-kind
returns-in_err-kind c =
    let p = err_from_is_err_and c.from_residual-in_err-kind.result c.from_residual-in_err-kind.ensures.1 in
    rw (p.1, p.2) (kind_none c.args.bytes.now _ c.read_number.ensures _ _ c.in_ok-number.was _ c.in_err-kind.ensures)

pub returns-in_err-parts : goal.returns-in_err-parts
returns-in_err-parts c =
    let p = err_from_is_err_and c.from_residual-in_err-parts.result c.from_residual-in_err-parts.ensures.1 in
    rw (p.1, p.2) (parts_ended c.args.bytes.now _ c.read_number.ensures _ _ c.in_ok-number.was _ c.in_ok-kind.ensures
    _ c.read_number-2.ensures _ c.in_err-parts.was)

pub returns-then-parts-lt1 : goal.returns-then-parts-lt1
returns-then-parts-lt1 c =
    let n : ℕ = c.in_ok-parts.parts.value in
    ap Err c.at-then-parts-lt1.ensures
    ∙ parts_held c.args.bytes.now _ c.read_number.ensures _ _ c.in_ok-number.was _ c.in_ok-kind.ensures
    _ c.read_number-2.ensures _ _ c.in_ok-parts.was (elim c.then-parts-lt1.branch [
      | then-parts-lt1-via-then-parts-lt1 w ↦ parts_none 0 n (Ok tt) (omega (arith, w.if-parts-lt1.true))
      | then-parts-lt1-via-else-parts-lt1+then-parts-gt16 w ↦ parts_over 0 n (Ok tt) w.if-parts-lt1.false w.if-parts-gt16.true
    ])

pub returns : goal.returns
returns c =
    c.read_entries.ensures
    ∙ parts_found c.args.bytes.now _ c.read_number.ensures _ _ c.in_ok-number.was _ c.in_ok-kind.ensures
    _ c.read_number-2.ensures _ _ c.in_ok-parts.was c.if-parts-lt1.false c.if-parts-gt16.false
