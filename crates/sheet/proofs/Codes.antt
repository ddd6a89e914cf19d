-- Entries and the numbers that they are written as: the number of each entry that a number stands for is that number, and a written entry comes
-- back where it may stand on a sheet. Assumes nothing.
use mathlib.Core.Path.{◌≡◌, refl, ap, ◌∙◌}
use mathlib.Core.Bool.{Bool, true, false, cond, false≢true}
use mathlib.Core.Logic.{◌⊎◌, inl, inr}
use Prim.Native.Nat.{ℕ, zero, suc, ◌+◌, ◌*◌, ◌/◌, ◌%◌, ◌≤◌}
use native.Mathlib.Omega.{arith}
use lib.Dec.{leb, eqb}
use lib.IntN.{ℤ, pos, negsuc}
use borrow.Author.Tests.{leb-true, eqb-true, eqb-false, eq-eqb, ne_eqb}
use Rattle.numbers.proofs.Bools.{and_right, true_or_false}
use Rattle.vector_kind.specs.Kinds.{kind_number, length_of, is_kind, kind_of}
use Rattle.vector_kind.specs.declared.Kind.{Kind}
use Rattle.vector_kind.specs.declared.Kind.TheVariants.{PathCounts, Tail, Signature, Domination}
use Rattle.sheet.specs.Sheets.{coded, decoded}

-- a kind's number is small
pub kind_few : (kind : Kind) → kind_number kind ≤ 4
kind_few PathCounts = omega arith
kind_few Tail = omega arith
kind_few Signature = omega arith
kind_few Domination = omega arith

-- no vector has more than 17 entries
pub length_few : (kind : Kind) (n : ℕ) → n ≤ 16 → length_of kind n ≤ 17
length_few PathCounts n h = omega arith
length_few Tail n h = omega arith
length_few Signature n h = omega arith
length_few Domination n h = omega arith

-- a kind's number comes back from the kind
pub number_back : (number : ℕ) → is_kind number ≡ true → kind_number (kind_of number) ≡ number
unfolding kind_of
number_back zero h = absurd (false≢true h)
number_back (suc zero) h = refl
number_back (suc (suc zero)) h = refl
number_back (suc (suc (suc zero))) h = refl
number_back (suc (suc (suc (suc zero)))) h = refl
number_back (suc (suc (suc (suc (suc m))))) h =
    let number : ℕ = suc (suc (suc (suc (suc m)))) in
    let few : number ≤ 4 = leb-true number 4 (and_right (leb 1 number) (leb number 4) h) in
    absurd (omega arith)

pub coded_decoded : (kind : Kind) (u : ℕ) → coded kind (decoded kind u) ≡ u
coded_decoded PathCounts u = refl
coded_decoded Tail u = refl
coded_decoded Signature u = refl
coded_decoded Domination u = cases (true_or_false (eqb (u % 2) 0))
  where
    cases : (eqb (u % 2) 0 ≡ true) ⊎ (eqb (u % 2) 0 ≡ false) → coded Domination (decoded Domination u) ≡ u
    cases (inl e) = ap (λ (t : Bool). coded Domination (cond t (pos (u / 2)) (negsuc (u / 2)))) e ∙ omega (arith, eqb-true (u % 2) 0 e)
    cases (inr e) = ap (λ (t : Bool). coded Domination (cond t (pos (u / 2)) (negsuc (u / 2)))) e ∙ omega (arith, eqb-false (u % 2) 0 e)

pub written_domination : (entry : ℤ) → decoded Domination (coded Domination entry) ≡ entry
written_domination (pos v) =
    let even : 2 * v % 2 ≡ 0 = omega arith in
    let half : 2 * v / 2 ≡ v = omega arith in
    ap (λ (t : Bool). cond t (pos (2 * v / 2)) (negsuc (2 * v / 2))) (eq-eqb (2 * v % 2) 0 even) ∙ ap pos half
written_domination (negsuc w) =
    let odd : (2 * w + 1) % 2 ≡ 1 = omega arith in
    let half : (2 * w + 1) / 2 ≡ w = omega arith in
    ap (λ (t : Bool). cond t (pos ((2 * w + 1) / 2)) (negsuc ((2 * w + 1) / 2))) (ne_eqb ((2 * w + 1) % 2) 0 (λ e. omega arith)) ∙ ap negsuc half

pub written_positive : (kind : Kind) (v : ℕ) → decoded kind (coded kind (pos v)) ≡ pos v
written_positive PathCounts v = refl
written_positive Tail v = refl
written_positive Signature v = refl
written_positive Domination v = written_domination (pos v)
