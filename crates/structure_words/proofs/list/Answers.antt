-- `structure_words::list` meets its contract: the sets are counted first, so the buffer is left alone where it is short, and then written in their
-- order, a word after the other.
-- Assumes nothing.
use mathlib.Core.Path.{◌≡◌, sym, ◌∙◌, subst}
use mathlib.Core.List.{List}
use Prim.Native.Nat.{ℕ, ◌+◌, ◌-◌, ◌*◌, ◌/◌, ◌^◌, ◌≤◌, ◌<◌}
use native.Mathlib.Omega.{arith}
use lib.ListN.{length, get_or, set}
use lib.Pow.{shr_le}
use Rattle.answer.proofs.Outcomes.{InFront, in_front_delivered, in_front_length, room_accepted}
use Rattle.theory_sets.specs.Masks.{has, those, least}
use Rattle.theory_sets.proofs.Ranges.{those_fewer}
use Rattle.structure_words.specs.Words.{in_words}
use Rattle.structure_words.proofs.Runs.{Lowest, lowest_of, Walk, walk_start, walk_turn, walk_near, walk_room, walk_found}
use Rattle.structure_words.proofs.list.Goals as goal

-- the stores keep the buffer's length
kept : (words old sets : List ℕ) (at mask rest next : ℕ) → Walk words old at mask rest next sets → length (those (in_words words) 65536) ≤ length old
    → length sets ≡ length old
kept words old sets at mask rest next w all =
    in_front_length old (those (in_words words) mask) sets next w.listed (omega (arith, those_fewer (in_words words) mask 65536 w.last, all))

module _ (words old sets : List ℕ) (at mask rest next gap : ℕ) (w : Walk words old at mask rest next sets) (fits : get_or words at 0 < 2 ^ 64)
    (some : rest ≡ 0 → ⊥) (least_bit : gap ≡ least (has rest) 64) where
  -- what is left of the word is not empty
  low : Lowest rest gap
  low = lowest_of rest gap (omega (arith, w.bits, shr_le (get_or words at 0) (mask - 64 * at), fits)) some least_bit

  near : at < 1024 → mask + gap < 65536
  near h = omega (arith, walk_near words old at mask rest next sets w h fits gap low)

  -- the buffer has room for one more
  room : at < 1024 → length (those (in_words words) 65536) ≤ length old → next < length old
  room h all = omega (arith, w.listed.ends, walk_room words old at mask rest next sets w h fits gap low all)

  found : at < 1024 → length (those (in_words words) 65536) ≤ length old
      → Walk words old at (mask + gap + 1) (rest / 2 ^ gap / 2) (next + 1) (set sets next (mask + gap))
  found h all = walk_found words old at mask rest next sets w h fits gap low all

pub loop-at-init : goal.loop-at-init
loop-at-init c =
    let a = c.args in
    (c.count-needed.ensures, (room_accepted _ _ (sym c.room.ensures ∙ c.in_ok-room.was), walk_start a.words.now a.sets.now c.cell-rest.result c.cell-rest.ensures))

pub loop-at-smaller-then-rest-eq0 : goal.loop-at-smaller-then-rest-eq0
loop-at-smaller-then-rest-eq0 c = omega (arith, c.loop-at.invariant.1.1.high)

pub loop-at-preserved-then-rest-eq0 : goal.loop-at-preserved-then-rest-eq0
loop-at-preserved-then-rest-eq0 c =
    let a = c.args in
    let l = c.loop-at in
    (l.invariant.0, (l.invariant.1.0, walk_turn a.words.now a.sets.now l.at l.mask l.rest l.next l.sets l.invariant.1.1 c.loop-at-test.true c.if-rest-eq0.true c.cell-rest-then-rest-eq0.result c.cell-rest-then-rest-eq0.ensures))

pub overflow_add-mask : goal.overflow_add-mask
overflow_add-mask c = omega (arith, near _ _ _ _ _ _ _ _ c.loop-at.invariant.1.1 (omega (arith, c.type_inv.words c.loop-at.at)) c.if-rest-eq0.false c.lowest-gap.ensures c.loop-at-test.true)

pub overflow_cast-sets : goal.overflow_cast-sets
overflow_cast-sets c = omega (arith, near _ _ _ _ _ _ _ _ c.loop-at.invariant.1.1 (omega (arith, c.type_inv.words c.loop-at.at)) c.if-rest-eq0.false c.lowest-gap.ensures c.loop-at-test.true)

pub offset_bounds-sets-next : goal.offset_bounds-sets-next
offset_bounds-sets-next c = omega (arith, room _ _ _ _ _ _ _ _ c.loop-at.invariant.1.1 (omega (arith, c.type_inv.words c.loop-at.at)) c.if-rest-eq0.false c.lowest-gap.ensures c.loop-at-test.true (omega (arith, c.loop-at.invariant.0, c.loop-at.invariant.1.0)))

pub bounds-sets-next : goal.bounds-sets-next
bounds-sets-next c =
    omega (arith, kept _ _ _ _ _ _ _ c.loop-at.invariant.1.1 (omega (arith, c.loop-at.invariant.0, c.loop-at.invariant.1.0)), room _ _ _ _ _ _ _ _ c.loop-at.invariant.1.1 (omega (arith, c.type_inv.words c.loop-at.at)) c.if-rest-eq0.false c.lowest-gap.ensures c.loop-at-test.true (omega (arith, c.loop-at.invariant.0, c.loop-at.invariant.1.0)))

pub overflow_add-next : goal.overflow_add-next
overflow_add-next c = omega (arith, room _ _ _ _ _ _ _ _ c.loop-at.invariant.1.1 (omega (arith, c.type_inv.words c.loop-at.at)) c.if-rest-eq0.false c.lowest-gap.ensures c.loop-at-test.true (omega (arith, c.loop-at.invariant.0, c.loop-at.invariant.1.0)))

pub overflow_add-mask-else-rest-eq0 : goal.overflow_add-mask-else-rest-eq0
overflow_add-mask-else-rest-eq0 c = omega (arith, near _ _ _ _ _ _ _ _ c.loop-at.invariant.1.1 (omega (arith, c.type_inv.words c.loop-at.at)) c.if-rest-eq0.false c.lowest-gap.ensures c.loop-at-test.true)

pub overflow_shr-rest : goal.overflow_shr-rest
overflow_shr-rest c = (low _ _ _ _ _ _ _ _ c.loop-at.invariant.1.1 (omega (arith, c.type_inv.words c.loop-at.at)) c.if-rest-eq0.false c.lowest-gap.ensures).within

pub loop-at-smaller : goal.loop-at-smaller
loop-at-smaller c = omega (arith, near _ _ _ _ _ _ _ _ c.loop-at.invariant.1.1 (omega (arith, c.type_inv.words c.loop-at.at)) c.if-rest-eq0.false c.lowest-gap.ensures c.loop-at-test.true)

pub loop-at-preserved : goal.loop-at-preserved
loop-at-preserved c =
    let l = c.loop-at in (
      l.invariant.0,
      (
        l.invariant.1.0,
        found _ _ _ _ _ _ _ _ c.loop-at.invariant.1.1 (omega (arith, c.type_inv.words c.loop-at.at)) c.if-rest-eq0.false c.lowest-gap.ensures c.loop-at-test.true (omega (arith, c.loop-at.invariant.0, c.loop-at.invariant.1.0)),
      ),
    )

pub shape_of-sets : goal.shape_of-sets
shape_of-sets c = kept _ _ _ _ _ _ _ c.loop-at.invariant.1.1 (omega (arith, c.loop-at.invariant.0, c.loop-at.invariant.1.0))

pub returns : goal.returns
returns c =
    let a = c.args in
    let l = c.loop-at in
    let done : l.mask ≡ 65536 = omega (arith, l.invariant.1.1.low, l.invariant.1.1.last) in
    in_front_delivered a.sets.now (those (in_words a.words.now) 65536) l.sets l.next
    (subst (λ (m : ℕ). InFront a.sets.now (those (in_words a.words.now) m) l.sets l.next) done l.invariant.1.1.listed) (omega (arith, c.loop-at.invariant.0, c.loop-at.invariant.1.0))
