-- `record_changes::write_tail` meets its contract: each piece is placed behind those before it.
-- Assumes nothing.
use mathlib.Core.Path.{◌≡◌, sym, ap, ◌∙◌}
use mathlib.Core.List.{List, ◌++◌}
use Prim.Native.Nat.{ℕ, ◌+◌, ◌≤◌}
use native.Mathlib.Omega.{arith}
use lib.ListN.{length, length-append}
use Rattle.answer.specs.Outcome.{outcome}
use Rattle.answer.specs.Placed.{placed}
use Rattle.answer.proofs.Forms.{placed_more, placed_next, placed_length}
use Rattle.codec.specs.ByteForm.{bytes_of, forms_of}
use Rattle.record_tail.specs.TailBytes.{tail_bytes}
use Rattle.record_changes.proofs.Writing.{tail_length, tail_pieces}
use Rattle.record_changes.proofs.write_tail.Goals as goal

-- the pieces stand behind one another, and there is room for them all
module _ (lent : List ℕ) (position : ℕ) (count retired counts : List ℕ) (room : position + (length count + length retired + length counts) ≤ length lent) (b1 : List ℕ) (n1 : ℕ)
    (first : outcome n1 b1 ≡ placed lent position count) where
  room_second : n1 + length retired ≤ length b1
  room_second =
      let fits : position + length count ≤ length lent = omega (arith, room) in
      let next = placed_next lent position count fits _ _ first in
      let same = placed_length lent position count fits _ _ first in
      omega (arith, room)

  module _ (b2 : List ℕ) (n2 : ℕ) (second : outcome n2 b2 ≡ placed b1 n1 retired) where
    -- the count stands at the position, and the retired numbers behind it
    two : outcome n2 b2 ≡ placed lent position (count ++ retired)
    two = placed_more lent position count _ _ retired _ _ (omega (arith, room, length-append count retired)) first second

    room_third : n2 + length counts ≤ length b2
    room_third =
        let long = length-append count retired in
        let fits : position + length (count ++ retired) ≤ length lent = omega (arith, room) in
        let next = placed_next lent position (count ++ retired) fits _ _ two in
        let same = placed_length lent position (count ++ retired) fits _ _ two in
        omega (arith, room)

    three : (b3 : List ℕ) (n3 : ℕ) → outcome n3 b3 ≡ placed b2 n2 counts → outcome n3 b3 ≡ placed lent position (count ++ retired ++ counts)
    three b3 n3 third =
        placed_more lent position (count ++ retired) _ _ counts _ _ (omega (arith, room, length-append count retired, length-append (count ++ retired) counts)) two third

-- there is room for all pieces
whole_room : (position size : ℕ) (retired counts : List ℕ) → position + length (tail_bytes retired counts) ≤ size
    → position + (length (bytes_of (length retired)) + length (forms_of retired) + length (forms_of counts)) ≤ size
whole_room position size retired counts h = omega (arith, tail_length retired counts)

pub write_numbers-second-requires : goal.write_numbers-second-requires
write_numbers-second-requires c =
    let a = c.args in
    room_second a.buffer.now a.at _ _ _ (whole_room a.at (length a.buffer.now) a.retired.now a.counts.now c.requires) _ _ c.write_number-first.ensures

pub write_numbers-requires : goal.write_numbers-requires
write_numbers-requires c =
    let a = c.args in
    room_third a.buffer.now a.at _ _ _ (whole_room a.at (length a.buffer.now) a.retired.now a.counts.now c.requires) _ _ c.write_number-first.ensures _ _ c.write_numbers-second.ensures

pub returns : goal.returns
returns c =
    let a = c.args in
    three a.buffer.now a.at _ _ _ (whole_room a.at (length a.buffer.now) a.retired.now a.counts.now c.requires)
    _ _ c.write_number-first.ensures _ _ c.write_numbers-second.ensures _ _ c.write_numbers.ensures
    ∙ ap (placed a.buffer.now a.at) (sym (tail_pieces a.retired.now a.counts.now))
