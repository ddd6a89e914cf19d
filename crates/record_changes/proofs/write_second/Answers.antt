-- `record_changes::write_second` meets its contract: the needed length is known before anything is written, and each piece is placed behind those before it.
-- Assumes nothing.
use mathlib.Core.Path.{◌≡◌, refl, ap, ◌∙◌}
use mathlib.Core.List.{List, [], ◌∷◌, ◌++◌}
use Prim.Native.Nat.{ℕ, ◌+◌, ◌≤◌}
use native.Mathlib.Omega.{arith}
use lib.ListN.{length, length-append}
use Rattle.std.specs.Prelude.{Ok, Err}
use Rattle.answer.specs.Outcome.{outcome, Numbered}
use Rattle.answer.specs.Placed.{placed}
use Rattle.answer.proofs.Deliveries.{delivered_short}
use Rattle.answer.proofs.Forms.{placed_more, placed_next, placed_length}
use Rattle.record_parts.specs.PartLists.{list_of}
use Rattle.record.specs.Records.{design}
use Rattle.record.specs.RecordBytes.{record_bytes}
use Rattle.record_tail.specs.TailBytes.{tail_bytes}
use Rattle.record_changes.proofs.Writing.{placed_delivered}
use Rattle.record_changes.proofs.write_second.Goals as goal

-- the edition stands in front, the fields of edition 1 behind it, and then the tail; there is room for them all
module _ (lent body tail : List ℕ) (room : 2 + (length body + length tail) ≤ length lent) (b1 : List ℕ) (n1 : ℕ) (first : outcome n1 b1 ≡ placed lent 0 (0 ∷ 2 ∷ [])) where
  room_second : n1 + length body ≤ length b1
  room_second =
      let fits : 0 + 2 ≤ length lent = omega (arith, room) in
      let next = placed_next lent 0 (0 ∷ 2 ∷ []) fits _ _ first in
      let same = placed_length lent 0 (0 ∷ 2 ∷ []) fits _ _ first in
      omega (arith, room)

  module _ (b2 : List ℕ) (n2 : ℕ) (second : outcome n2 b2 ≡ placed b1 n1 body) where
    two : outcome n2 b2 ≡ placed lent 0 (0 ∷ 2 ∷ body)
    two = placed_more lent 0 (0 ∷ 2 ∷ []) _ _ body _ _ (omega (arith, room)) first second

    room_third : n2 + length tail ≤ length b2
    room_third =
        let fits : 0 + length (0 ∷ 2 ∷ body) ≤ length lent = omega (arith, room) in
        let next = placed_next lent 0 (0 ∷ 2 ∷ body) fits _ _ two in
        let same = placed_length lent 0 (0 ∷ 2 ∷ body) fits _ _ two in
        omega (arith, room)

    three : (b3 : List ℕ) (n3 : ℕ) → outcome n3 b3 ≡ placed b2 n2 tail → outcome n3 b3 ≡ placed lent 0 (0 ∷ 2 ∷ (body ++ tail))
    three b3 n3 third = placed_more lent 0 (0 ∷ 2 ∷ body) _ _ tail _ _ (omega (arith, room, length-append body tail)) two third

-- the needed length
whole_length : (body tail : List ℕ) (k m : ℕ) → k ≡ length body → m ≡ length tail → 2 + k + m ≡ length (0 ∷ 2 ∷ (body ++ tail))
whole_length body tail k m p q = omega (arith, length-append body tail)

whole_room : (size : ℕ) (body tail : List ℕ) (k m : ℕ) → k ≡ length body → m ≡ length tail → 2 + k + m ≤ size → 2 + (length body + length tail) ≤ size
whole_room size body tail k m p q h = omega arith

pub overflow_add-whole : goal.overflow_add-whole
overflow_add-whole c =
    omega (arith, c.record_length-body.ensures.upper_bound)

pub overflow_add-whole-2 : goal.overflow_add-whole-2
overflow_add-whole-2 c =
    omega (arith, c.record_length-body.ensures.upper_bound, c.tail_length.ensures.upper_bound)

pub returns-then-buffer-whole : goal.returns-then-buffer-whole
returns-then-buffer-whole c =
    let a = c.args in
    let body = record_bytes (design (list_of a.mark a.numbers.now) a.sets.now) in
    let tail = tail_bytes a.retired.now a.counts.now in
    ap (λ (w : Numbered). outcome w a.buffer.now) (ap Err c.at.ensures)
    ∙ delivered_short (Ok tt) (0 ∷ 2 ∷ (body ++ tail)) a.buffer.now refl _
    (whole_length body tail _ _ c.record_length-body.ensures.value c.tail_length.ensures.value) c.if-buffer-whole.true

pub write_pieces-middle-requires : goal.write_pieces-middle-requires
write_pieces-middle-requires c =
    let a = c.args in
    let room = whole_room (length a.buffer.now) _ _ _ _ c.record_length-body.ensures.value c.tail_length.ensures.value c.if-buffer-whole.false in
    room_second a.buffer.now _ _ room _ _ c.write_edition-begin.ensures

pub write_tail-end-requires : goal.write_tail-end-requires
write_tail-end-requires c =
    let a = c.args in
    let room = whole_room (length a.buffer.now) _ _ _ _ c.record_length-body.ensures.value c.tail_length.ensures.value c.if-buffer-whole.false in
    room_third a.buffer.now _ _ room _ _ c.write_edition-begin.ensures _ _ c.write_pieces-middle.ensures

pub returns : goal.returns
returns c =
    let a = c.args in
    let body = record_bytes (design (list_of a.mark a.numbers.now) a.sets.now) in
    let tail = tail_bytes a.retired.now a.counts.now in
    let room = whole_room (length a.buffer.now) body tail _ _ c.record_length-body.ensures.value c.tail_length.ensures.value c.if-buffer-whole.false in
    placed_delivered a.buffer.now (0 ∷ 2 ∷ (body ++ tail)) _ _ (omega (arith, room, length-append body tail))
    (three a.buffer.now body tail room _ _ c.write_edition-begin.ensures _ _ c.write_pieces-middle.ensures _ _ c.write_tail-end.ensures)
