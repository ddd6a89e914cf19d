-- `codec::read_number` meets its contract. The loop's invariant: it walks along the number's bytes (`Walked`), all with bit 7 set so far; the
-- three ways out are the three ways in which a walk ends. The measure is the groups left. Nine groups are 63 bits, so no sum wraps.
-- Assumes nothing.
use mathlib.Core.Path.{◌≡◌, sym, ap, ◌∙◌}
use Prim.Native.Nat.{ℕ, ◌+◌, ◌-◌, ◌*◌, ◌^◌, ◌<◌, ◌≤◌}
use native.Mathlib.Omega.{arith}
use Rattle.std.specs.Prelude.{Err}
use Rattle.codec.specs.Reads.{reading_of}
use Rattle.codec.specs.declared.Field.{Field}
use Rattle.codec.specs.Fields.{groups}
use Rattle.codec.proofs.Fields.{allowed}
use Rattle.codec.proofs.Walk.{walked_none, walked_more, walked_over, walked_short, walked_last, walked_fits, walked_weight}
use Rattle.codec.proofs.read_number.Goals as goal

pub loop-left-init : goal.loop-left-init
loop-left-init c = walked_none _ _ _

pub returns-then-bytes-next : goal.returns-then-bytes-next
returns-then-bytes-next c =
    let l = c.before.before.before in
    (ap Err c.at.ensures) ∙ sym (ap reading_of (walked_short l.loop-left.invariant _ l.groups-left.ensures (omega arith) (omega arith)))

few : (field : Field) (most : ℕ) → most ≡ groups field → most ≤ 9
few field most is = omega (arith, (allowed field).few, is)

last_fits : (c : goal.Then-byte-lt128) → c.loop-left.value + c.wide-byte.result * c.loop-left.weight < 2 ^ 63
last_fits c =
    let l = c.before.before.before.before.before in
    walked_fits l.loop-left.invariant (few c.args.field l.groups-left.result l.groups-left.ensures) (omega arith) c.wide-byte.result (omega arith)

pub overflow_mul-byte : goal.overflow_mul-byte
overflow_mul-byte c = record { fits = omega (arith, last_fits c) }

pub overflow_add-value : goal.overflow_add-value
overflow_add-value c = record { fits = omega (arith, last_fits c) }

pub returns-then-byte-lt128 : goal.returns-then-byte-lt128
returns-then-byte-lt128 c =
    let l = c.before.before.before.before.before.before in
    rw c.ended.ensures
    (sym
    (ap reading_of
    (walked_last l.loop-left.invariant _ l.groups-left.ensures _ _ c.wide-byte.ensures l.top-top.ensures
    (omega arith) (omega arith) (omega arith))))

group_fits : (c : goal.Else-byte-lt128) → c.loop-left.value + (c.wide-byte.result - 128) * c.loop-left.weight < 2 ^ 63
group_fits c =
    let l = c.before.before.before.before.before in
    let byte = c.shared_slice_known-in-loop-left-1.given l.loop-left.next in
    walked_fits l.loop-left.invariant (few c.args.field l.groups-left.result l.groups-left.ensures) (omega arith) (c.wide-byte.result - 128) (omega (arith, byte))

pub overflow_mul-value : goal.overflow_mul-value
overflow_mul-value c = record { fits = omega (arith, group_fits c) }

pub overflow_add-value-in-loop-left : goal.overflow_add-value-in-loop-left
overflow_add-value-in-loop-left c = record { fits = omega (arith, group_fits c) }

pub overflow_mul-weight : goal.overflow_mul-weight
overflow_mul-weight c =
    let l = c.before.before.before.before.before in
    record { fits = omega (arith, walked_weight l.loop-left.invariant (few c.args.field l.groups-left.result l.groups-left.ensures) (omega arith)) }

pub loop-left-preserved : goal.loop-left-preserved
loop-left-preserved c =
    let l = c.before.before.before.before.before in
    let byte = c.shared_slice_known-in-loop-left-1.given l.loop-left.next in
    walked_more l.loop-left.invariant _ c.wide-byte.ensures (omega arith) (omega arith) (omega arith) (omega (arith, byte))

pub returns : goal.returns
returns c =
    let l = c.before.before in
    (ap Err c.at-2.ensures) ∙ sym (ap reading_of (walked_over l.loop-left.invariant _ l.groups-left.ensures (omega arith)))
