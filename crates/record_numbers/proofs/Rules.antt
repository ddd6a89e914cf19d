-- A part list is accepted exactly if it keeps the rules: the checks that refuse it, one by one, are the rules' negations.
-- Assumes nothing.
use mathlib.Core.Path.{◌≡◌, refl, ◌∙◌}
use mathlib.Core.Bool.{Bool, true, false, cond}
use mathlib.Core.List.{List, [], ◌∷◌}
use Prim.Native.Nat.{ℕ, suc, ◌≤◌, ◌<◌}
use native.Mathlib.Nat.{le_trans}
use native.Mathlib.Omega.{arith}
use borrow.Author.Tests.{ltb-false, leb-false, le-ltb, lt-leb}
use Rattle.std.specs.Prelude.{Ok}
use Rattle.answer.proofs.Outcomes.{refuse_accepted}
use Rattle.answer.proofs.Checks.{parts_passed, parts_right}
use Rattle.record_numbers.specs.Numbering.{top_number, RisingWithin, Rules, misnumbered, numbers_refusal, part_list_refusal}

-- neither of two tests
pub either_none : (a b : Bool) → cond a true b ≡ false → (a ≡ false) × (b ≡ false)
either_none true b e = let z : ◌≡◌ {A = ℕ} 0 1 = cc in absurd (omega arith)
either_none false b e = (refl, e)

-- a number that is not wrong rises and is not above the mark
pub right_number : (previous mark number : ℕ) → misnumbered previous mark number ≡ false → (previous < number) × (number ≤ mark)
right_number previous mark number e =
    let f = either_none _ _ e in
    let g = either_none _ _ f.1 in
    (leb-false _ _ f.0, ltb-false _ _ g.0)

-- and one that does is not wrong, where the mark is not over the top number
pub number_right : (previous mark number : ℕ) → previous < number → number ≤ mark → mark ≤ top_number → misnumbered previous mark number ≡ false
number_right previous mark number low high top =
    simp (lt-leb number previous low, le-ltb mark number high, le-ltb top_number number (le_trans high top))

-- numbers that are not refused rise under the mark, and the mark is not over the top number
rising : (previous mark index : ℕ) (numbers : List ℕ) → numbers_refusal previous mark index numbers ≡ Ok tt → RisingWithin previous mark numbers × (mark ≤ top_number)
rising previous mark index [] e = (tt, ltb-false _ _ (refuse_accepted _ _ _ _ e).0)
rising previous mark index (n ∷ ns) e =
    let r = refuse_accepted (misnumbered previous mark n) _ index _ e in
    let w = right_number previous mark n r.0 in
    let rest = rising n mark (suc index) ns r.1 in
    ((w.0, w.1, rest.0), rest.1)

-- and such numbers are not refused
unrefused : (previous mark index : ℕ) (numbers : List ℕ) → RisingWithin previous mark numbers → mark ≤ top_number → numbers_refusal previous mark index numbers ≡ Ok tt
unrefused previous mark index [] r top = simp (le-ltb _ _ top)
unrefused previous mark index (n ∷ ns) r top =
    rw (number_right previous mark n r.0 r.1 top) (unrefused n mark (suc index) ns r.2 top)

-- what is accepted keeps the rules
pub accepted_rules : (count mark : ℕ) (numbers : List ℕ) → part_list_refusal count mark numbers ≡ Ok tt → Rules count mark numbers
unfolding part_list_refusal
accepted_rules count mark numbers e =
    let counted = parts_right 0 count (numbers_refusal 0 mark 0 numbers) e in
    let r = rising 0 mark 0 numbers counted.2 in
    record { some = counted.0; few = counted.1; rising = r.0; top = r.1 }

-- and what keeps the rules is accepted
pub rules_accepted : {count mark : ℕ} {numbers : List ℕ} → Rules count mark numbers → part_list_refusal count mark numbers ≡ Ok tt
unfolding part_list_refusal
rules_accepted {count} {mark} {numbers} r =
    parts_passed 0 count (numbers_refusal 0 mark 0 numbers) r.some r.few ∙ unrefused 0 mark 0 numbers r.rising r.top
