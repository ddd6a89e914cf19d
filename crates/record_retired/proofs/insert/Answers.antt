-- `record_retired::insert` meets its contract: what stands in front, the number, and what stands behind it.
-- Assumes nothing.
use mathlib.Core.Path.{◌≡◌, sym, ap, ap₂, ◌∙◌}
use mathlib.Core.List.{List, [], ◌∷◌, ◌++◌}
use Prim.Native.Nat.{ℕ, ◌+◌, ◌-◌, ◌≤◌, ◌<◌}
use native.Mathlib.Numerals.{add-one}
use native.Mathlib.Omega.{arith}
use lib.ListN.{length, take, drop, set, length-append, length-drop, length-set}
use lib.Seq.{length-take-le, take_all, take-suc-set, take_at}
use borrow.Rule.Slice.PartMut.{put_mid}
use Rattle.std.proofs.lemmas.Slice.{take-put_mid}
use Rattle.std.proofs.Common.{append_assoc}
use Rattle.record_retired.specs.Retired.{inserted}
use Rattle.record_retired.specs.Steps.{in_front}
use Rattle.record_retired.proofs.Places.{place_inside, inserted_split}
use Rattle.record_retired.proofs.insert.Goals as goal

built : (number : ℕ) (numbers old front behind : List ℕ) (place : ℕ) → length numbers < length old → place ≡ in_front number numbers → front ≡ take place numbers
    → behind ≡ take (length numbers - place) (drop place numbers)
    → take (length numbers + 1) (put_mid (place + 1) (length numbers + 1 - (place + 1)) (set (front ++ drop place old) place number) behind) ≡ inserted number numbers
built number numbers old front behind place room at f b =
    let inside : place ≤ length numbers = omega (arith, place_inside number numbers) in
    let fronts : length front ≡ place = ap length f ∙ length-take-le place numbers inside in
    let behinds : behind ≡ drop place numbers = b ∙ take_all (length numbers - place) (drop place numbers) (omega (arith, length-drop place numbers)) in
    let many : length (front ++ drop place old) ≡ length old = omega (arith, length-append front (drop place old), length-drop place old) in
    take-put_mid (place + 1) (length numbers + 1 - (place + 1)) (set (front ++ drop place old) place number) behind (length numbers + 1)
    (omega (arith, ap length behinds, length-drop place numbers))
    (omega (arith, length-set (front ++ drop place old) place number))
    ∙ ap (λ (n : ℕ). take n (set (front ++ drop place old) place number) ++ behind) (add-one place)
    ∙ ap (λ (l : List ℕ). l ++ behind) (take-suc-set (front ++ drop place old) place number (omega arith) ∙ ap (λ (l : List ℕ). l ++ (number ∷ [])) (take_at front (drop place old) place fronts ∙ f))
    ∙ append_assoc (take place numbers) (number ∷ []) behind
    ∙ ap₂ (λ (n : ℕ) (l : List ℕ). take n numbers ++ (number ∷ l)) at (behinds ∙ ap (λ (n : ℕ). drop n numbers) at)
    ∙ sym (inserted_split number numbers)

-- the place is one of the cells, and of the numbers
inside : (number : ℕ) (numbers xs : List ℕ) (place : ℕ) → length numbers ≤ length xs → place ≡ in_front number numbers → length (take place xs) ≡ place
inside number numbers xs place room at = length-take-le place xs (omega (arith, place_inside number numbers))

pub slice_bounds-copy_from_slice-end : goal.slice_bounds-copy_from_slice-end
slice_bounds-copy_from_slice-end c = sym (inside c.args.number c.args.numbers.now _ _ (omega (arith, c.requires)) c.place-place.ensures)

pub slice_bounds-copy_from_slice-end-2 : goal.slice_bounds-copy_from_slice-end-2
slice_bounds-copy_from_slice-end-2 c = sym (inside c.args.number c.args.numbers.now _ _ (omega (arith, c.requires)) c.place-place.ensures)

pub copy_from_slice-requires : goal.copy_from_slice-requires
copy_from_slice-requires c =
    inside c.args.number c.args.numbers.now _ _ (omega (arith, c.requires)) c.place-place.ensures
    ∙ sym (inside c.args.number c.args.numbers.now _ _ (omega (arith, c.requires)) c.place-place.ensures)

pub returns : goal.returns
returns c = built c.args.number c.args.numbers.now _ _ _ c.place-place.result (omega (arith, c.requires)) c.place-place.ensures c.copy_from_slice.ensures.after c.copy_from_slice-2.ensures.after
