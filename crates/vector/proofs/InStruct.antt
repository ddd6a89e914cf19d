-- A vector in a struct: the cells that are looked at are its entries, or none where its length is wrong for every kind; and what is written
-- into its cells is the vector that holds it. Assumes nothing.
use mathlib.Core.Path.{◌≡◌, sym, ap, ◌∙◌}
use mathlib.Core.Bool.{Bool, true, false, not, cond, ◌&&◌}
use mathlib.Core.List.{List, ◌++◌}
use mathlib.Core.Logic.{◌⊎◌, inl, inr}
use Prim.Native.Nat.{ℕ, zero, suc, ◌-◌, ◌≤◌, ◌<◌}
use native.Mathlib.Nat.{sub-zero}
use native.Mathlib.Omega.{arith}
use lib.Dec.{leb, ltb, eqb}
use lib.IntN.{ℤ, pos}
use lib.ListN.{length, take, drop, replicate}
use lib.Seq.{length-take-le}
use borrow.Author.Tests.{ltb-true, ltb-false, le-ltb, leb-true, eqb-true, ne_eqb, not-false}
use Rattle.std.specs.Prelude.{Ok}
use Rattle.answer.specs.Outcome.{refuse, Verdict}
use Rattle.answer.specs.declared.Reason.TheVariants.{WrongPartCount, WrongVectorLength}
use Rattle.answer.proofs.Outcomes.{refuse_accepted}
use Rattle.numbers.proofs.Tables.{tabulate_length}
use Rattle.numbers.proofs.Bools.{and_left, and_right, true_or_false}
use Rattle.vector.specs.InStruct.{most_entries, entry_cells, entries_of, struct_refusal}
use Rattle.vector_kind.specs.Kinds.{length_of}
use Rattle.vector.specs.Inside.{lent_cells}
use Rattle.vector_conversion.specs.Vectors.{counts_of, counts_refusal, vector_refusal, figure, converted}
use Rattle.vector_kind.specs.declared.Kind.{Kind}
use Rattle.vector_kind.specs.declared.Kind.TheVariants.{PathCounts, Tail, Signature, Domination}
use Rattle.vector.specs.declared.Vector.{Vector}
use Rattle.vector_conversion.proofs.Acceptance.{accepted_vector}

-- a length that no vector of 1 to 16 parts has
lengths : (kind : Kind) (n : ℕ) → 1 ≤ n → n ≤ 16 → (1 ≤ length_of kind n) × (length_of kind n ≤ most_entries)
lengths PathCounts n some few = (omega arith, omega arith)
lengths Tail n some few = (omega arith, omega arith)
lengths Signature n some few = (omega arith, omega arith)
lengths Domination n some few = (omega arith, omega arith)

-- 12 where the length is wrong for every number of parts
too_long : (kind : Kind) (n count : ℕ) (p q : Verdict) → most_entries < count
    → refuse (not (leb 1 n && leb n 16)) WrongPartCount 0 (refuse (not (eqb 0 (length_of kind n))) WrongVectorLength 0 p)
    ≡ refuse (not (leb 1 n && leb n 16)) WrongPartCount 0 (refuse (not (eqb count (length_of kind n))) WrongVectorLength 0 q)
too_long kind n count p q long = cases (true_or_false (leb 1 n && leb n 16))
  where
    cases : (leb 1 n && leb n 16 ≡ true) ⊎ (leb 1 n && leb n 16 ≡ false)
        → refuse (not (leb 1 n && leb n 16)) WrongPartCount 0 (refuse (not (eqb 0 (length_of kind n))) WrongVectorLength 0 p)
        ≡ refuse (not (leb 1 n && leb n 16)) WrongPartCount 0 (refuse (not (eqb count (length_of kind n))) WrongVectorLength 0 q)
    cases (inl e) =
        let range = lengths kind n (leb-true 1 n (and_left (leb 1 n) (leb n 16) e)) (leb-true n 16 (and_right (leb 1 n) (leb n 16) e)) in
        ap (λ (t : Bool). refuse (not (leb 1 n && leb n 16)) WrongPartCount 0 (refuse (not t) WrongVectorLength 0 p)) (ne_eqb 0 (length_of kind n) (λ same. omega (arith, range)))
        ∙ sym (ap (λ (t : Bool). refuse (not (leb 1 n && leb n 16)) WrongPartCount 0 (refuse (not t) WrongVectorLength 0 q)) (ne_eqb count (length_of kind n) (λ same. omega (arith, range))))
    cases (inr e) =
        ap (λ (t : Bool). refuse (not t) WrongPartCount 0 (refuse (not (eqb 0 (length_of kind n))) WrongVectorLength 0 p)) e
        ∙ sym (ap (λ (t : Bool). refuse (not t) WrongPartCount 0 (refuse (not (eqb count (length_of kind n))) WrongVectorLength 0 q)) e)

-- the verdict on the cells that are looked at
pub lent_judged : (vector : Vector) → length vector.entries ≡ most_entries
    → vector_refusal vector.kind vector.n (take (lent_cells vector.length) vector.entries) ≡ struct_refusal vector
unfolding vector_refusal struct_refusal
lent_judged vector all = cases (true_or_false (ltb most_entries vector.length))
  where
    cases : (ltb most_entries vector.length ≡ true) ⊎ (ltb most_entries vector.length ≡ false)
        → vector_refusal vector.kind vector.n (take (lent_cells vector.length) vector.entries) ≡ struct_refusal vector
    cases (inl e) =
        ap (λ (t : Bool). vector_refusal vector.kind vector.n (take (cond t 0 vector.length) vector.entries)) e
        ∙ too_long vector.kind vector.n vector.length _ _ (ltb-true most_entries vector.length e)
    cases (inr e) =
        ap (λ (t : Bool). vector_refusal vector.kind vector.n (take (cond t 0 vector.length) vector.entries)) e
        ∙ ap (λ (k : ℕ). refuse (not (leb 1 vector.n && leb vector.n 16)) WrongPartCount 0
        (refuse (not (eqb k (length_of vector.kind vector.n))) WrongVectorLength 0 (counts_refusal vector.kind vector.n (entries_of vector))))
        (length-take-le vector.length vector.entries (omega (arith, ltb-false most_entries vector.length e)))

-- an accepted vector has no more entries than cells, so all of them are looked at
pub accepted_few : (vector : Vector) → struct_refusal vector ≡ Ok tt → vector.length ≤ most_entries
unfolding struct_refusal
accepted_few vector accepted =
    let c1 = refuse_accepted _ _ _ _ accepted in
    let c12 = refuse_accepted _ _ _ _ c1.1 in
    let n = vector.n in
    let parts : leb 1 n && leb n 16 ≡ true = not-false (leb 1 n && leb n 16) c1.0 in
    let long : vector.length ≡ length_of vector.kind n = eqb-true vector.length (length_of vector.kind n) (not-false (eqb vector.length (length_of vector.kind n)) c12.0) in
    omega (arith, lengths vector.kind n (leb-true 1 n (and_left (leb 1 n) (leb n 16) parts)) (leb-true n 16 (and_right (leb 1 n) (leb n 16) parts)))

pub lent_inside : (vector : Vector) → vector.length ≤ most_entries → take (lent_cells vector.length) vector.entries ≡ entries_of vector
lent_inside vector few = ap (λ (t : Bool). take (cond t 0 vector.length) vector.entries) (le-ltb most_entries vector.length few)

pub lent_held : (vector : Vector) → struct_refusal vector ≡ Ok tt → take (lent_cells vector.length) vector.entries ≡ entries_of vector
lent_held vector accepted = lent_inside vector (accepted_few vector accepted)

-- and its entries are an accepted vector
pub held_same : (vector : Vector) → length vector.entries ≡ most_entries → struct_refusal vector ≡ Ok tt
    → vector_refusal vector.kind vector.n (entries_of vector) ≡ struct_refusal vector
held_same vector all accepted =
    ap (vector_refusal vector.kind vector.n) (sym (lent_held vector accepted)) ∙ lent_judged vector all

-- ---- a result in spare cells

-- the cells behind a result hold 0 where all did
drop_zeros : (m k : ℕ) → drop k (replicate m (pos 0)) ≡ replicate (m - k) (pos 0)
drop_zeros m zero = ap (λ (k : ℕ). replicate k (pos 0)) (sym (sub-zero m))
drop_zeros zero (suc k) = let none : 0 - suc k ≡ 0 = omega arith in ap (λ (j : ℕ). replicate j (pos 0)) (sym none)
drop_zeros (suc m) (suc k) = let less : suc m - suc k ≡ m - k = omega arith in drop_zeros m k ∙ ap (λ (j : ℕ). replicate j (pos 0)) (sym less)

pub zeros_behind : (result : List ℤ) → result ++ drop (length result) (replicate most_entries (pos 0)) ≡ entry_cells result
zeros_behind result = ap (λ (l : List ℤ). result ++ l) (drop_zeros most_entries (length result))

-- a converted vector has its place in the cells
pub converted_fits : (target kind : Kind) (n : ℕ) (entries : List ℤ) → vector_refusal kind n entries ≡ Ok tt → length (converted target kind n entries) ≤ most_entries
converted_fits target kind n entries accepted =
    let a = accepted_vector kind n entries accepted in
    omega (arith, tabulate_length (length_of target n) (figure target n (counts_of kind n entries)), lengths target n a.some a.few)
