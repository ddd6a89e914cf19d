-- `record_sets::keep_without` meets its contract: each set that has no part of the group is stored, squeezed, behind those before it.
-- Assumes nothing.
use mathlib.Core.Path.{◌≡◌, sym, ap, ◌∙◌}
use mathlib.Core.Bool.{true, false}
use mathlib.Core.List.{List, [], ◌∷◌, ◌++◌}
use Prim.Native.Nat.{ℕ, ◌+◌, ◌≤◌, ◌<◌}
use native.Mathlib.Numerals.{add-one}
use native.Mathlib.Omega.{arith}
use lib.ListN.{length, get_or, set, take, length-append}
use Rattle.answer.proofs.Outcomes.{InFront, in_front_none, in_front_one, in_front_length}
use Rattle.masks.specs.Groups.{meets, squeezed}
use Rattle.record_lines.specs.Changes.{sets_without}
use Rattle.record_lines.proofs.TakenOut.{without_kept, without_gone, without_part_lem}
use Rattle.record_sets.proofs.keep_without.Goals as goal
use Rattle.record_sets.proofs.keep_without.Goals.{then-not-meets, else-not-meets}

pub loop-set-init : goal.loop-set-init
unfolding sets_without
loop-set-init c = in_front_none _

module _ (group : ℕ) (sets old kept : List ℕ) (next i : ℕ) (room : length (sets_without group sets) ≤ length old) (inside : i < length sets) (front : InFront old (sets_without group (take i sets)) kept next) where
  module _ (lacks : meets group (get_or sets i 0) ≡ false) where
    more : sets_without group (take (i + 1) sets) ≡ sets_without group (take i sets) ++ (squeezed 16 group (get_or sets i 0) ∷ [])
    more = rw (add-one i) (without_kept group i sets inside lacks)

    -- there is a place for a set that is kept
    place : next < length old
    place =
        omega (arith, front.ends, ap length more, length-append (sets_without group (take i sets)) (squeezed 16 group (get_or sets i 0) ∷ []), without_part_lem group (i + 1) sets)

    cell : next < length kept
    cell = omega (arith, place, in_front_length old (sets_without group (take i sets)) kept next front (omega (arith, front.ends, place)))

    stored : (value : ℕ) → value ≡ squeezed 16 group (get_or sets i 0) → InFront old (sets_without group (take (i + 1) sets)) (set kept next value) (next + 1)
    stored value e = rw (more, sym e) (in_front_one old (sets_without group (take i sets)) kept next value front (omega (arith, front.ends, place)))

  passed : meets group (get_or sets i 0) ≡ true → InFront old (sets_without group (take (i + 1) sets)) kept next
  passed names = rw (add-one i, without_gone group i sets inside names) front

pub bounds-kept-next : goal.bounds-kept-next
bounds-kept-next c = cell c.args.group c.args.sets.now c.args.kept.now _ _ _ c.requires c.loop-set-test.true c.loop-set.invariant (sym c.meets.ensures ∙ c.if-not-meets.true)

pub loop-set-preserved : goal.loop-set-preserved
loop-set-preserved c =
    elim c.if-not-meets.branch [
      | then-not-meets w ↦
          rw (w.kept-is, w.next-is) (stored c.args.group c.args.sets.now c.args.kept.now _ _ _ c.requires c.loop-set-test.true c.loop-set.invariant (sym c.meets.ensures ∙ w.if-not-meets.true) _ w.squeezed.ensures)
      | else-not-meets w ↦
          rw (w.kept-is, w.next-is) (passed c.args.group c.args.sets.now c.args.kept.now _ _ _ c.requires c.loop-set-test.true c.loop-set.invariant (sym c.meets.ensures ∙ w.if-not-meets.false))
    ]
