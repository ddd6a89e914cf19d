-- The entries of an accepted vector are small, so each has a place on a sheet: path counts are at most 12,870, tail and signature at most
-- 65,536 × 16!, and a domination at most 17 × 12,870² in size. Assumes nothing.
use mathlib.Core.Path.{◌≡◌, refl, sym, ap, ◌∙◌, subst}
use mathlib.Core.Bool.{Bool, true, false, cond}
use mathlib.Core.List.{List, [], ◌∷◌, map}
use Prim.Native.Nat.{ℕ, zero, suc, ◌+◌, ◌-◌, ◌*◌, ◌≤◌, ◌<◌}
use native.Mathlib.Nat.{le_refl, le_trans, le_of_eq, add-le-add, mul-le-mul}
use native.Mathlib.Omega.{arith}
use lib.Dec.{ltb}
use lib.IntN.{ℤ, pos, negsuc, neg_ℤ, nat_abs, ◌+ℤ◌, ◌*ℤ◌, pow, one}
use lib.ListN.{length}
use Rattle.std.specs.Prelude.{Ok}
use Rattle.numbers.specs.Counts.{choose}
use Rattle.numbers.proofs.Tables.{tabulate_at}
use Rattle.theory_sums.specs.Sums.{sum_belowℤ}
use Rattle.codec.specs.Fields.{top}
use Rattle.codec.proofs.FieldReads.{AllAllowed}
use Rattle.codec.specs.declared.Field.TheVariants as field
use Rattle.theory_figures.specs.Figures.{tail, sign, domination}
use Rattle.theory_figures.proofs.Ranges.{tail_few}
use Rattle.vector_kind.specs.Kinds.{length_of}
use Rattle.vector_conversion.specs.Vectors.{entry_at, counts_of, vector_refusal, figure}
use Rattle.vector_kind.specs.declared.Kind.{Kind}
use Rattle.vector_kind.specs.declared.Kind.TheVariants.{PathCounts, Tail, Signature, Domination}
use Rattle.theory_figures.proofs.Ranges.{choose_few}
use Rattle.vector_conversion.specs.Accepted.{AcceptedVector}
use Rattle.vector_conversion.proofs.Acceptance.{accepted_vector}
use Rattle.vector_conversion.proofs.Conversions.{conversion_same, signature_positive}
use Rattle.sheet.specs.Sheets.{coded, decoded}
use Rattle.sheet.proofs.Codes.{written_domination, written_positive}

-- entries that have a place on a sheet: each comes back from its number, which is at most 2^63-1
abbrev pub Fitting : Kind → List ℤ → Type 0
Fitting kind entries =
    (k : ℕ) → k < length entries → (decoded kind (coded kind (entry_at entries k)) ≡ entry_at entries k) × (coded kind (entry_at entries k) ≤ top field.Sheet)

-- ---- sizes of sums

size_add : (a b : ℤ) → nat_abs (a +ℤ b) ≤ nat_abs a + nat_abs b
size_add (pos a) (pos b) = le_refl (a + b)
size_add (pos a) (negsuc b) = either (ltb a (suc b))
  where
    either : (t : Bool) → nat_abs (cond t (negsuc (suc b - suc a)) (pos (a - suc b))) ≤ a + suc b
    either true = omega arith
    either false = omega arith
size_add (negsuc a) (pos b) = either (ltb b (suc a))
  where
    either : (t : Bool) → nat_abs (cond t (negsuc (suc a - suc b)) (pos (b - suc a))) ≤ suc a + b
    either true = omega arith
    either false = omega arith
size_add (negsuc a) (negsuc b) = omega arith

size_negative : (x : ℕ) → nat_abs (neg_ℤ (pos x)) ≡ x
size_negative zero = refl
size_negative (suc x) = refl

size_mul : (a b : ℤ) → nat_abs (a *ℤ b) ≡ nat_abs a * nat_abs b
size_mul (pos a) (pos b) = refl
size_mul (pos a) (negsuc b) = size_negative (a * suc b)
size_mul (negsuc a) (pos b) = size_negative (suc a * b)
size_mul (negsuc a) (negsuc b) = refl

size_sign : (k : ℕ) → nat_abs (sign k) ≡ 1
unfolding pow one
size_sign zero = refl
size_sign (suc k) = size_mul (sign k) (negsuc 0) ∙ ap (λ (x : ℕ). x * 1) (size_sign k)

size_sum : (f : ℕ → ℤ) (k m : ℕ) → ((i : ℕ) → i < k → nat_abs (f i) ≤ m) → nat_abs (sum_belowℤ f k) ≤ k * m
unfolding sum_belowℤ
size_sum f zero m few = omega arith
size_sum f (suc k) m few =
    le_trans (size_add (sum_belowℤ f k) (f k)) (le_trans (add-le-add (size_sum f k m (λ i h. few i (omega arith))) (few k (omega arith))) (omega arith))

-- ---- the entries of an accepted vector

module _ (kind : Kind) (n : ℕ) (entries : List ℤ) (accepted : vector_refusal kind n entries ≡ Ok tt) where
  abbrev φ : ℕ → ℕ
  φ = counts_of kind n entries

  a : AcceptedVector kind n entries
  a = accepted_vector kind n entries accepted

  few : (j : ℕ) → j ≤ n → φ j ≤ 12870
  few j h = le_trans (a.counts.most j h) (choose_few n j a.few)

  entry_is : (k : ℕ) → k < length_of kind n → entry_at entries k ≡ figure kind n φ k
  entry_is k h =
      ap (λ (xs : List ℤ). entry_at xs k) (sym (conversion_same kind n entries accepted)) ∙ tabulate_at (length_of kind n) (figure kind n φ) k (pos 0) h

  tail_size : (k : ℕ) → k ≤ n → tail n φ k ≤ 65536 * 20922789888000
  tail_size k h = tail_few n φ k a.few h (le_trans (few (n - k) (omega arith)) (omega arith))

  pub domination_size : (k : ℕ) → k ≤ n → nat_abs (domination n φ k) ≤ 17 * (12870 * 12870)
  unfolding domination
  domination_size k h =
      let most : suc k ≤ 17 = omega (arith, a.few) in
      le_trans (size_sum _ (suc k) (12870 * 12870) (λ j l.
      le_trans (le_of_eq (size_mul (sign (k - j) *ℤ pos (choose (n - j) (k - j))) (pos (φ j))
      ∙ ap (λ (x : ℕ). x * φ j) (size_mul (sign (k - j)) (pos (choose (n - j) (k - j))) ∙ ap (λ (x : ℕ). x * choose (n - j) (k - j)) (size_sign (k - j)))))
      (mul-le-mul (le_trans (le_of_eq (once (choose (n - j) (k - j)))) (choose_few (n - j) (k - j) (omega (arith, a.few)))) (few j (omega arith)))))
      (mul-le-mul most (le_refl (12870 * 12870)))
    where
      once : (x : ℕ) → 1 * x ≡ x
      once x = omega arith

-- a number that is not negative has its place where it is small
fitting_positive : (kind : Kind) (z : ℤ) (v : ℕ) → z ≡ pos v → v ≤ 65536 * 20922789888000
    → (decoded kind (coded kind z) ≡ z) × (coded kind z ≤ top field.Sheet)
fitting_positive kind z v e h =
    subst (λ (x : ℤ). (decoded kind (coded kind x) ≡ x) × (coded kind x ≤ top field.Sheet)) (sym e) (written_positive kind v, small kind)
  where
    small : (k : Kind) → coded k (pos v) ≤ top field.Sheet
    small PathCounts = omega arith
    small Tail = omega arith
    small Signature = omega arith
    small Domination = omega arith

fitting_domination : (z : ℤ) → nat_abs z ≤ 17 * (12870 * 12870) → (decoded Domination (coded Domination z) ≡ z) × (coded Domination z ≤ top field.Sheet)
fitting_domination z h = (written_domination z, small z h)
  where
    small : (x : ℤ) → nat_abs x ≤ 17 * (12870 * 12870) → coded Domination x ≤ top field.Sheet
    small (pos v) l = omega arith
    small (negsuc w) l = omega arith

pub accepted_fitting : (kind : Kind) (n : ℕ) (entries : List ℤ) → vector_refusal kind n entries ≡ Ok tt → Fitting kind entries
unfolding figure
accepted_fitting PathCounts n entries accepted k h =
    let l : k < n + 1 = subst (λ (m : ℕ). k < m) (a PathCounts n entries accepted).long h in
    fitting_positive PathCounts (entry_at entries k) (φ PathCounts n entries accepted k) (entry_is PathCounts n entries accepted k l)
    (le_trans (few PathCounts n entries accepted k (omega arith)) (omega arith))
accepted_fitting Tail n entries accepted k h =
    let l : k < n + 1 = subst (λ (m : ℕ). k < m) (a Tail n entries accepted).long h in
    fitting_positive Tail (entry_at entries k) (tail n (φ Tail n entries accepted) k) (entry_is Tail n entries accepted k l)
    (tail_size Tail n entries accepted k (omega arith))
accepted_fitting Signature n entries accepted k h =
    let l : k < n = subst (λ (m : ℕ). k < m) (a Signature n entries accepted).long h in
    fitting_positive Signature (entry_at entries k) _ (signature_positive n entries accepted k l)
    (le_trans (less (tail n (φ Signature n entries accepted) k) (tail n (φ Signature n entries accepted) (suc k))) (tail_size Signature n entries accepted k (omega arith)))
  where
    less : (x y : ℕ) → x - y ≤ x
    less x y = omega arith
accepted_fitting Domination n entries accepted k h =
    let l : k < n + 1 = subst (λ (m : ℕ). k < m) (a Domination n entries accepted).long h in
    fitting_domination (entry_at entries k)
    (le_trans (le_of_eq (ap nat_abs (entry_is Domination n entries accepted k l))) (domination_size Domination n entries accepted k (omega arith)))

-- so a sheet allows the numbers of such entries
pub fitting_allowed : (kind : Kind) (entries : List ℤ) → Fitting kind entries → AllAllowed field.Sheet (map (coded kind) entries)
fitting_allowed kind [] fits = tt
fitting_allowed kind (entry ∷ entries) fits = ((fits 0 (omega arith)).1, fitting_allowed kind entries (λ k h. fits (suc k) (omega arith)))
