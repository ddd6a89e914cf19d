-- `record_changes::write_pieces` meets its contract: each piece is placed behind those before it.
-- Assumes nothing.
use mathlib.Core.Path.{◌≡◌, sym, ap, ◌∙◌}
use mathlib.Core.List.{List, [], ◌++◌}
use Prim.Native.Nat.{ℕ, ◌+◌, ◌≤◌}
use native.Mathlib.Omega.{arith}
use lib.ListN.{length, length-append}
use Rattle.answer.specs.Outcome.{outcome}
use Rattle.answer.specs.Placed.{placed}
use Rattle.answer.proofs.Forms.{placed_more, placed_next, placed_length}
use Rattle.codec.specs.ByteForm.{bytes_of, forms_of}
use Rattle.record_parts.specs.PartLists.{list_of}
use Rattle.record.specs.Records.{design}
use Rattle.record.specs.RecordBytes.{record_bytes}
use Rattle.record_changes.proofs.Writing.{pieces, record_pieces, record_length}
use Rattle.record_changes.proofs.write_pieces.Goals as goal

-- the pieces stand behind one another, and there is room for them all
module _ (lent : List ℕ) (position : ℕ) (count mark numbers set_count sets : List ℕ)
    (room : position + (length count + length mark + length numbers + length set_count + length sets) ≤ length lent)
    (b1 b2 b3 b4 : List ℕ) (n1 n2 n3 n4 : ℕ) where
  abbrev One : Type 0
  One = outcome n1 b1 ≡ placed lent position count

  abbrev Two : Type 0
  Two = outcome n2 b2 ≡ placed b1 n1 mark

  abbrev Three : Type 0
  Three = outcome n3 b3 ≡ placed b2 n2 numbers

  abbrev Four : Type 0
  Four = outcome n4 b4 ≡ placed b3 n3 set_count

  two : One → Two → outcome n2 b2 ≡ placed lent position (count ++ mark)
  two first second = placed_more lent position count _ _ mark _ _ (omega (arith, room, length-append count mark)) first second

  three : One → Two → Three → outcome n3 b3 ≡ placed lent position (count ++ mark ++ numbers)
  three first second third =
      placed_more lent position (count ++ mark) _ _ numbers _ _ (omega (arith, room, length-append count mark, length-append (count ++ mark) numbers)) (two first second) third

  four : One → Two → Three → Four → outcome n4 b4 ≡ placed lent position (count ++ mark ++ numbers ++ set_count)
  four first second third fourth =
      placed_more lent position (count ++ mark ++ numbers) _ _ set_count _ _
      (omega (arith, room, length-append count mark, length-append (count ++ mark) numbers, length-append (count ++ mark ++ numbers) set_count)) (three first second third) fourth

  -- room for the numbers, and for the sets
  room_third : One → Two → n2 + length numbers ≤ length b2
  room_third first second =
      let long = length-append count mark in
      let fits : position + length (count ++ mark) ≤ length lent = omega (arith, room) in
      let next = placed_next lent position (count ++ mark) fits _ _ (two first second) in
      let same = placed_length lent position (count ++ mark) fits _ _ (two first second) in
      omega (arith, room)

  room_last : One → Two → Three → Four → n4 + length sets ≤ length b4
  room_last first second third fourth =
      let head : List ℕ = count ++ mark ++ numbers in
      let long : length (head ++ set_count) ≡ length count + length mark + length numbers + length set_count =
      omega (arith, length-append count mark, length-append (count ++ mark) numbers, length-append head set_count) in
      let fits : position + length (head ++ set_count) ≤ length lent = omega (arith, room) in
      let next = placed_next lent position (head ++ set_count) fits _ _ (four first second third fourth) in
      let same = placed_length lent position (head ++ set_count) fits _ _ (four first second third fourth) in
      omega (arith, room)

-- there is room for all pieces
whole_room : (position size mark : ℕ) (numbers sets : List ℕ) → position + length (record_bytes (design (list_of mark numbers) sets)) ≤ size
    → position + (length (bytes_of (length numbers)) + length (bytes_of mark) + length (forms_of numbers) + length (bytes_of (length sets)) + length (forms_of sets)) ≤ size
whole_room position size mark numbers sets h = omega (arith, record_length mark numbers sets)

pub write_numbers-third-requires : goal.write_numbers-third-requires
write_numbers-third-requires c =
    let a = c.args in
    room_third a.buffer.now a.at _ _ _ _ _ (whole_room a.at (length a.buffer.now) a.mark a.numbers.now a.sets.now c.requires) _ _ [] [] _ _ 0 0
    c.write_number-first.ensures c.write_number-second.ensures

pub write_sets-requires : goal.write_sets-requires
write_sets-requires c =
    let a = c.args in
    room_last a.buffer.now a.at _ _ _ _ _ (whole_room a.at (length a.buffer.now) a.mark a.numbers.now a.sets.now c.requires) _ _ _ _ _ _ _ _
    c.write_number-first.ensures c.write_number-second.ensures c.write_numbers-third.ensures c.write_number-fourth.ensures

pub returns : goal.returns
returns c =
    let a = c.args in
    let room = whole_room a.at (length a.buffer.now) a.mark a.numbers.now a.sets.now c.requires in
    let result = pieces a.mark a.numbers.now a.sets.now in
    let same : record_bytes (design (list_of a.mark a.numbers.now) a.sets.now) ≡ result = record_pieces a.mark a.numbers.now a.sets.now in
    let fits : a.at + length result ≤ length a.buffer.now = omega (arith, ap length same, c.requires) in
    placed_more a.buffer.now a.at (bytes_of (length a.numbers.now) ++ bytes_of a.mark ++ forms_of a.numbers.now ++ bytes_of (length a.sets.now)) _ _ (forms_of a.sets.now) _ _ fits
    (four a.buffer.now a.at _ _ _ _ _ room _ _ _ _ _ _ _ _ c.write_number-first.ensures c.write_number-second.ensures c.write_numbers-third.ensures c.write_number-fourth.ensures)
    c.write_sets.ensures
    ∙ ap (placed a.buffer.now a.at) (sym same)
