-- `sheet::write_numbers` meets its contract: each number is placed behind those before it, and together they are the sheet.
-- Assumes nothing.
use mathlib.Core.Path.{◌≡◌, sym, ap, ◌∙◌, subst}
use mathlib.Core.List.{List, [], ◌++◌}
use Prim.Native.Nat.{ℕ, ◌+◌, ◌≤◌, ◌<◌}
use native.Mathlib.Numerals.{add-one}
use native.Mathlib.Omega.{arith}
use lib.IntN.{ℤ}
use lib.ListN.{length, take, length-append}
use lib.Seq.{take_all}
use Rattle.answer.specs.Outcome.{outcome}
use Rattle.answer.proofs.Outcomes.{InFront, in_front_none, in_front_length, in_front_delivered}
use Rattle.answer.proofs.Deliveries.{in_front_now, in_front_on}
use Rattle.answer.specs.Placed.{placed}
use Rattle.codec.specs.ByteForm.{bytes_of}
use Rattle.answer.proofs.Placing.{in_front_more}
use Rattle.vector_kind.specs.Kinds.{kind_number}
use Rattle.vector_kind.specs.declared.Kind.{Kind}
use Rattle.vector_conversion.specs.Vectors.{entry_at}
use Rattle.vector_conversion.proofs.CountAt.{entry_read}
use Rattle.sheet.specs.Sheets.{coded, entry_bytes, sheet_bytes}
use Rattle.sheet.proofs.Written.{sheet_append, sheet_front, sheet_next, sheet_part}
use Rattle.sheet.proofs.write_numbers.Goals as goal

module _ (kind : Kind) (n : ℕ) (entries : List ℤ) (lent : List ℕ) (fits : length (sheet_bytes kind n entries) ≤ length lent) where
  -- the first number stands in front, and the second behind it
  front : (one two : List ℕ) (start next : ℕ) → outcome start one ≡ placed lent 0 (bytes_of (kind_number kind))
      → outcome next two ≡ placed one start (bytes_of n) → InFront lent (sheet_bytes kind n []) two next
  front one two start next first second =
      let number = bytes_of (kind_number kind) in
      let long = length-append number (bytes_of n) in
      let room : length (number ++ bytes_of n) ≤ length lent = omega (arith, ap length (sheet_front kind n), sheet_part kind n 0 entries, fits) in
      let written : InFront lent number one start = in_front_more (in_front_none lent) number one start (omega arith) first in
      subst (λ (l : List ℕ). InFront lent l two next) (sym (sheet_front kind n)) (in_front_more written (bytes_of n) two next room second)

  module _ (two : List ℕ) (start : ℕ) (before : InFront lent (sheet_bytes kind n []) two start) where
    -- one entry more behind those before it
    entry_more : (i : ℕ) (buffer now : List ℕ) (at next : ℕ) → i < length entries → InFront two (sheet_bytes kind n (take i entries)) buffer at
        → outcome next now ≡ placed buffer at (bytes_of (coded kind (entry_at entries i))) → InFront two (sheet_bytes kind n (take (i + 1) entries)) now next
    entry_more i buffer now at next below written wrote =
        let value : ℕ = coded kind (entry_at entries i) in
        let more : sheet_bytes kind n (take (i + 1) entries) ≡ sheet_bytes kind n (take i entries) ++ bytes_of value =
        rw (add-one i) (sheet_next kind n i entries below) in
        let same : length two ≡ length lent =
        in_front_length lent (sheet_bytes kind n []) two start before (omega (arith, sheet_part kind n 0 entries, fits)) in
        let room : length (sheet_bytes kind n (take i entries) ++ bytes_of value) ≤ length two =
        omega (arith, ap length more, sheet_part kind n (i + 1) entries, fits) in
        subst (λ (l : List ℕ). InFront two l now next) (sym more) (in_front_more written (bytes_of value) now next room wrote)

    -- all numbers, behind the two
    all_behind : (i : ℕ) (buffer : List ℕ) (next : ℕ) → length entries ≤ i → InFront two (sheet_bytes kind n (take i entries)) buffer next
        → InFront lent (sheet_bytes kind n entries) buffer next
    all_behind i buffer next past written =
        let whole : sheet_bytes kind n entries ≡ sheet_bytes kind n [] ++ entry_bytes kind entries = sheet_append kind n [] entries in
        let passed : InFront two (sheet_bytes kind n entries) buffer next =
        subst (λ (xs : List ℤ). InFront two (sheet_bytes kind n xs) buffer next) (take_all i entries past) written in
        subst (λ (r : List ℕ). InFront lent r buffer next) (sym whole)
        (in_front_on before (entry_bytes kind entries) (subst (λ (r : List ℕ). InFront two r buffer next) whole passed))

pub loop-entry-init : goal.loop-entry-init
loop-entry-init c =
    let a = c.args in
    let lent = a.buffer.now in
    in_front_now (front a.kind a.n a.entries.now lent c.requires c.write_number-start.new.buffer c.write_number-next.new.buffer
    c.write_number-start.result c.write_number-next.result
    (c.write_number-start.ensures ∙ ap (λ (v : ℕ). placed lent 0 (bytes_of v)) (c.from.ensures ∙ c.number.ensures)) c.write_number-next.ensures)

pub loop-entry-preserved : goal.loop-entry-preserved
loop-entry-preserved c =
    let a = c.args in
    let entries = a.entries.now in
    let lent = a.buffer.now in
    let two = c.write_number-next.new.buffer in
    let l = c.loop-entry in
    let before : InFront lent (sheet_bytes a.kind a.n []) two c.write_number-next.result
    = front a.kind a.n entries lent c.requires c.write_number-start.new.buffer two c.write_number-start.result c.write_number-next.result
    (c.write_number-start.ensures ∙ ap (λ (v : ℕ). placed lent 0 (bytes_of v)) (c.from.ensures ∙ c.number.ensures)) c.write_number-next.ensures in
    entry_more a.kind a.n entries lent c.requires two c.write_number-next.result before l.entry-index l.buffer
    c.write_number-next-in-loop-entry.new.buffer l.next c.write_number-next-in-loop-entry.result c.loop-entry-test.true l.invariant
    (c.write_number-next-in-loop-entry.ensures
    ∙ ap (λ (v : ℕ). placed l.buffer l.next (bytes_of v)) (c.code.ensures ∙ ap (coded a.kind) (entry_read entries l.entry-index (omega arith))))

pub returns : goal.returns
returns c =
    let a = c.args in
    let entries = a.entries.now in
    let lent = a.buffer.now in
    let two = c.write_number-next.new.buffer in
    let l = c.loop-entry in
    let before : InFront lent (sheet_bytes a.kind a.n []) two c.write_number-next.result
    = front a.kind a.n entries lent c.requires c.write_number-start.new.buffer two c.write_number-start.result c.write_number-next.result
    (c.write_number-start.ensures ∙ ap (λ (v : ℕ). placed lent 0 (bytes_of v)) (c.from.ensures ∙ c.number.ensures)) c.write_number-next.ensures in
    in_front_delivered lent (sheet_bytes a.kind a.n entries) l.buffer l.next
    (all_behind a.kind a.n entries lent c.requires two c.write_number-next.result before l.entry-index l.buffer l.next c.loop-entry-test.false l.invariant) c.requires
