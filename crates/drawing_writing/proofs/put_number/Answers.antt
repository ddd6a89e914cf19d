-- `drawing_writing::put_number` meets its contract: a space and one digit are stored, or a space, a 1 and a digit, which are the number's decimal.
-- Assumes nothing.
use mathlib.Core.Path.{◌≡◌, sym, ap, ap₂, ◌∙◌}
use mathlib.Core.List.{[], ◌∷◌}
use Prim.Native.Nat.{ℕ, suc, ◌+◌, ◌-◌}
use native.Mathlib.Numerals.{add-one}
use native.Mathlib.Omega.{arith}
use lib.ListN.{length, set, length-set}
use Rattle.answer.specs.Outcome.{outcome}
use Rattle.answer.specs.Placed.{placed}
use Rattle.answer.proofs.Placing.{stored_placed}
use Rattle.drawing_text.specs.Forms.{space, spaced}
use Rattle.drawing_text.proofs.Lengths.{spaced_digit, spaced_ten}
use Rattle.drawing_writing.proofs.put_number.Goals as goal

pub bounds-text-at : goal.bounds-text-at
unfolding spaced
bounds-text-at c = omega arith

pub bounds-text-at-then-number-lt10 : goal.bounds-text-at-then-number-lt10
bounds-text-at-then-number-lt10 c =
    simp length-set (omega (arith, ap length (spaced_digit c.args.number c.if-number-lt10.true)))

pub returns-then-number-lt10 : goal.returns-then-number-lt10
returns-then-number-lt10 c =
    let a = c.args in
    let form = spaced_digit a.number c.if-number-lt10.true in
    ap (λ (k : ℕ). outcome (a.at + 2) (set (set a.text.now a.at space) k (48 + a.number))) (add-one a.at)
    ∙ stored_placed a.text.now a.at (space ∷ (48 + a.number) ∷ []) (omega (arith, ap length form)) ∙ ap (placed a.text.now a.at) (sym form)

pub bounds-text-at-2 : goal.bounds-text-at-2
bounds-text-at-2 c =
    -- from 10 on a number takes three bytes
    let two_digits : length (spaced (c.args.number ∷ [])) ≡ 3 =
    ap length (spaced_ten c.args.number c.if-number-lt10.false (omega arith)) in
    simp length-set (omega (arith, two_digits))

pub bounds-text-at-3 : goal.bounds-text-at-3
bounds-text-at-3 c =
    -- from 10 on a number takes three bytes
    let two_digits : length (spaced (c.args.number ∷ [])) ≡ 3 =
    ap length (spaced_ten c.args.number c.if-number-lt10.false (omega arith)) in
    simp length-set (omega (arith, two_digits))

pub returns : goal.returns
returns c =
    -- from 10 on a number takes three bytes
    let two_digits : length (spaced (c.args.number ∷ [])) ≡ 3 =
    ap length (spaced_ten c.args.number c.if-number-lt10.false (omega arith)) in
    let a = c.args in
    let form = spaced_ten a.number c.if-number-lt10.false (omega arith) in
    let third : a.at + 2 ≡ suc (suc a.at) = omega arith in
    ap₂ (λ (k l : ℕ). outcome (a.at + 3) (set (set (set a.text.now a.at space) k 49) l (48 + (a.number - 10)))) (add-one a.at) third
    ∙ stored_placed a.text.now a.at (space ∷ 49 ∷ (48 + (a.number - 10)) ∷ []) (omega (arith, two_digits)) ∙ ap (placed a.text.now a.at) (sym form)
