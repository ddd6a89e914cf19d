-- `drawing_writing::put_positions` meets its contract: the bits are walked from the lowest, and each position that the set has is put behind those
-- below it.
-- Assumes nothing.
use mathlib.Core.Path.{◌≡◌, sym, ap, ap₂, ◌∙◌}
use mathlib.Core.Bool.{true}
use mathlib.Core.List.{List}
use Prim.Native.Nat.{ℕ, ◌+◌, ◌-◌}
use native.Mathlib.Omega.{arith}
use borrow.Author.Tests.{eq-eqb, ne_eqb}
use Rattle.answer.specs.Outcome.{outcome}
use Rattle.answer.specs.Placed.{placed}
use Rattle.answer.proofs.Forms.{placed_length}
use Rattle.theory_sets.specs.Masks.{has}
use Rattle.drawing_text.specs.Forms.{spaced}
use Rattle.drawing_text.specs.Sets.{positions_of}
use Rattle.drawing_text.proofs.Lengths.{positions_below, positions_all}
use Rattle.drawing_writing.proofs.Writing.{positions_before, position_room, position_put, position_absent}
use Rattle.drawing_writing.proofs.put_positions.Goals.{then-set-position-eq1, else-set-position-eq1}
use Rattle.drawing_writing.proofs.put_positions.Goals as goal

pub loop-i-init : goal.loop-i-init
loop-i-init c =
    let a = c.args in
    (omega arith, positions_before a.set a.text.now a.at c.requires)

pub put_number-next-requires : goal.put_number-next-requires
unfolding has
put_number-next-requires c =
    -- the test asks whether the set has the part at the position
    let tested : has c.args.set (c.loop-i.i + 1 - 1) ≡ true =
    eq-eqb _ 1 c.if-set-position-eq1.true in
    let a = c.args in record { number_bound = omega arith; number_in_bounds = position_room a.set a.text.now a.at c.requires (c.loop-i.i + 1) (omega arith) (omega arith) tested _ _ c.loop-i.invariant.1 }

pub loop-i-preserved : goal.loop-i-preserved
unfolding has
loop-i-preserved c =
    let a = c.args in
    let position : ℕ = c.loop-i.i + 1 in
    let put : outcome c.if-set-position-eq1.next c.if-set-position-eq1.text ≡ placed a.text.now a.at (spaced (positions_below a.set (position + 1))) =
    elim c.if-set-position-eq1.branch [
      | then-set-position-eq1 w ↦
          ap₂ (λ (k : ℕ) (text : List ℕ). outcome k text) w.next-is w.text-is
          ∙ position_put a.set a.text.now a.at c.requires position (omega arith) (omega arith) (eq-eqb _ 1 w.if-set-position-eq1.true) _ _ c.loop-i.invariant.1 _ _
          w.put_number-next.ensures
      | else-set-position-eq1 w ↦
          ap₂ (λ (k : ℕ) (text : List ℕ). outcome k text) w.next-is w.text-is ∙ c.loop-i.invariant.1
          ∙ ap (λ (l : List ℕ). placed a.text.now a.at (spaced l))
          (sym (position_absent a.set position (omega arith) (ne_eqb _ 1 w.if-set-position-eq1.false)))
    ] in
    (omega arith, put)

pub shape_of-text : goal.shape_of-text
shape_of-text c =
    -- after the last position all that the set has are put
    let all : outcome c.loop-i.next c.loop-i.text ≡ placed c.args.text.now c.args.at (spaced (positions_of c.args.set)) =
    let a = c.args in
    let end : c.loop-i.i + 1 ≡ 17 = omega arith in
    c.loop-i.invariant.1
    ∙ ap (λ (l : List ℕ). placed a.text.now a.at (spaced l)) (ap (positions_below a.set) end ∙ positions_all a.set) in
    let a = c.args in
    placed_length a.text.now a.at (spaced (positions_of a.set)) c.requires c.loop-i.text c.loop-i.next all

pub returns : goal.returns
returns c =
    -- after the last position all that the set has are put
    let all : outcome c.loop-i.next c.loop-i.text ≡ placed c.args.text.now c.args.at (spaced (positions_of c.args.set)) =
    let a = c.args in
    let end : c.loop-i.i + 1 ≡ 17 = omega arith in
    c.loop-i.invariant.1
    ∙ ap (λ (l : List ℕ). placed a.text.now a.at (spaced l)) (ap (positions_below a.set) end ∙ positions_all a.set) in
    all
