-- Lines of part list changes. Two lines one after the other are a line: what the second issues is above the mark between them, and what left
-- by the first is not above that mark, so it cannot come back. Hence no number that left, or was in use before and is not now, is ever in
-- use again, and no number is issued twice.
-- Assumes nothing.
use mathlib.Core.Path.{◌≡◌, refl}
use mathlib.Core.List.Memᴰ
use mathlib.Core.List.{List, [], ◌∷◌, ◌++◌}
use mathlib.Core.Logic.{◌⊎◌, inl, inr, ⊎_elim}
use Prim.Native.Nat.{ℕ, ◌≤◌}
use native.Mathlib.Nat.{le_trans}
use native.Mathlib.Omega.{arith}
use Rattle.record_parts.specs.declared.PartList.{PartList}
use Rattle.record_parts.specs.PartLists.{numbers_of, WellFormed}
use Rattle.record_parts.specs.Lines.{PartChange, apply, last_of, issued_by, left_by, In, Line}
use Rattle.record_parts.proofs.Numbers.{rising_in, rising_append}
use Rattle.record_parts.proofs.OneChange.{line_none, line_one}

-- a number of a line's beginning is not above the mark at its end
below_mark : {first last : PartList} {issued left : List ℕ} → WellFormed first → Line first last issued left → {number : ℕ} → In number (numbers_of first) ⊎ In number issued → number ≤ last.mark
below_mark {first} {last} {issued} {left} w line i =
    ⊎_elim
    (λ j. le_trans (rising_in 0 first.mark (numbers_of first) w.rules.rising j).1 line.mark)
    (λ j. (rising_in first.mark last.mark issued line.rising j).1)
    i

-- one line after another
pub line_append : {first middle last : PartList} {issued issued' left left' : List ℕ} → WellFormed first → Line first middle issued left → Line middle last issued' left' → Line first last (issued ++ issued') (left ++ left')
line_append {first} {middle} {last} {issued} {issued'} {left} {left'} w one two =
    let early : (number : ℕ) → In number (numbers_of first) ⊎ In number issued → In number (numbers_of first) ⊎ In number (issued ++ issued') =
    λ number i. ⊎_elim (λ j. inl j) (λ j. inr (Memᴰ.append_left issued' j)) i in
    let before : (number : ℕ) → In number (numbers_of middle) ⊎ In number issued' → In number (numbers_of first) ⊎ In number (issued ++ issued') =
    λ number i. ⊎_elim (λ j. early number (one.origin number j)) (λ j. inr (Memᴰ.append_right issued j)) i in
    let later : (number : ℕ) → In number (numbers_of middle) ⊎ In number issued' → In number (numbers_of last) ⊎ In number (left ++ left') =
    λ number i. ⊎_elim (λ j. inl j) (λ j. inr (Memᴰ.append_right left j)) (two.account number i) in
    let through : (number : ℕ) → In number (numbers_of first) ⊎ In number issued → In number (numbers_of last) ⊎ In number (left ++ left') =
    λ number i. ⊎_elim (λ j. later number (inl j)) (λ j. inr (Memᴰ.append_left left' j)) (one.account number i) in
    record {
      well_formed = two.well_formed;
      mark = le_trans one.mark two.mark;
      rising = rising_append first.mark middle.mark last.mark issued issued' one.mark two.mark one.rising two.rising;
      origin = λ number i. before number (two.origin number i);
      account = λ number i.
          ⊎_elim
          (λ j. through number (inl j))
          (λ j. ⊎_elim (λ k. through number (inr k)) (λ k. later number (inr k)) (Memᴰ.append_cases issued j))
          i;
      gone = λ number i.
          ⊎_elim
          (λ (j : In number left).
          let g = one.gone number j in (
            early number g.0,
            λ k. ⊎_elim g.1
                (λ (m : In number issued'). let a = rising_in middle.mark last.mark issued' two.rising m in omega (arith, a.0, below_mark w one g.0))
                (two.origin number k),
          ))
          (λ (j : In number left'). let g = two.gone number j in (before number g.0, g.1))
          (Memᴰ.append_cases left i);
    }

-- Every line of changes from a well-formed list is a line.
pub line_of : (changes : List PartChange) (list : PartList) → WellFormed list → Line list (last_of changes list) (issued_by changes list) (left_by changes list)
line_of [] list w = line_none list w
line_of (c ∷ cs) list w =
    let one = line_one c list w in
    line_append w one (line_of cs (apply c list).list one.well_formed)

-- a line in two parts
last_append : (earlier later : List PartChange) (list : PartList) → last_of (earlier ++ later) list ≡ last_of later (last_of earlier list)
last_append [] later list = refl
last_append (c ∷ cs) later list = last_append cs later (apply c list).list

-- A number up to the mark is never issued again: no number that was ever in use or left, also before the line began.
pub never_issued : (changes : List PartChange) (list : PartList) → WellFormed list → (number : ℕ) → number ≤ list.mark → In number (issued_by changes list) → ⊥
never_issued changes list w number low i =
    let line = line_of changes list w in
    omega (arith, (rising_in list.mark (last_of changes list).mark (issued_by changes list) line.rising i).0)

-- and where it is not in use, it is never in use again
pub never_back : (changes : List PartChange) (list : PartList) → WellFormed list → (number : ℕ) → number ≤ list.mark → (In number (numbers_of list) → ⊥) → In number (numbers_of (last_of changes list)) → ⊥
never_back changes list w number low out i =
    ⊎_elim out (λ j. never_issued changes list w number low j) ((line_of changes list w).origin number i)

-- A number that left by a line is in no later list.
pub left_never_back : (earlier later : List PartChange) (list : PartList) → WellFormed list → (number : ℕ) → In number (left_by earlier list) → In number (numbers_of (last_of (earlier ++ later) list)) → ⊥
left_never_back earlier later list w number left i =
    let line = line_of earlier list w in
    let g = line.gone number left in
    never_back later (last_of earlier list) line.well_formed number (below_mark w line g.0) g.1 (rw (last_append earlier later list) at i)

-- What is issued later was not in use at first and was not issued before.
pub issued_new : (earlier later : List PartChange) (list : PartList) → WellFormed list → (number : ℕ) → In number (issued_by later (last_of earlier list)) → In number (numbers_of list) ⊎ In number (issued_by earlier list) → ⊥
issued_new earlier later list w number new old =
    let line = line_of earlier list w in
    never_issued later (last_of earlier list) line.well_formed number (below_mark w line old) new
