-- The entries of an accepted signature total n!, and a total other than n! shows at φ(n) at the latest (01, "Vector sheets").
-- Assumes nothing.
use mathlib.Core.Path.{◌≡◌, refl, sym, ap, ◌∙◌}
use mathlib.Core.Bool.{true, false}
use mathlib.Core.List.{List}
use mathlib.Core.Logic.{◌⊎◌, inl, inr}
use Prim.Native.Nat.{ℕ, zero, suc, ◌-◌, ◌*◌}
use native.Mathlib.Nat.{sub_self, suc-sub-suc, mul-one, one-mul, le_refl}
use lib.IntN.{ℤ, pos}
use Rattle.std.specs.Prelude.{Ok}
use Rattle.numbers.specs.Counts.{factorial}
use Rattle.theory_sums.specs.Sums.{sum_belowℤ}
use Rattle.theory_sums.proofs.IntegerSums.{sum_belowℤ_same, sum_belowℤ_reversed}
use Rattle.numbers.proofs.Bools.{true_or_false}
use Rattle.vector_conversion.specs.Vectors.{entry_at, scaled_count, unit_of, stands_for, wrong_count, vector_refusal}
use Rattle.vector_kind.specs.declared.Kind.TheVariants.{Signature}
use Rattle.vector_conversion.proofs.Acceptance.{right_count, accepted_vector}

module _ (n : ℕ) (entries : List ℤ) where
  -- N(1) + .. + N(n)
  abbrev pub total : ℤ
  total = sum_belowℤ (entry_at entries) n

  -- what the signature stands for at size n is its total, and the unit there is n!
  total_scaled : scaled_count Signature n entries n ≡ total
  unfolding scaled_count sum_belowℤ
  total_scaled = backwards n
    where
      backwards : (m : ℕ) → sum_belowℤ (λ i. entry_at entries (m - suc i)) m ≡ sum_belowℤ (entry_at entries) m
      backwards zero = refl
      backwards (suc m) =
          sum_belowℤ_same (λ i. entry_at entries (suc m - suc i)) (λ i. entry_at entries (m - i)) (suc m) (λ i h. ap (entry_at entries) (suc-sub-suc m i))
          ∙ sum_belowℤ_reversed (entry_at entries) m

  unit_all : unit_of Signature n n ≡ factorial n
  unfolding unit_of factorial
  unit_all = ap (λ (k : ℕ). factorial n * factorial k) (sub_self n) ∙ mul-one (factorial n)

  -- a right φ(n) is 1
  pub right_total : wrong_count n (stands_for Signature n entries) n ≡ false → total ≡ pos (factorial n)
  right_total right =
      let c = right_count n (stands_for Signature n entries) n right in
      sym total_scaled ∙ c.whole ∙ ap (λ (k : ℕ). pos (k * unit_of Signature n n)) (c.all refl) ∙ ap pos (one-mul (unit_of Signature n n) ∙ unit_all)

  -- so another total is refused by 13 at n, unless something is wrong before it
  pub other_total : (total ≡ pos (factorial n) → ⊥) → wrong_count n (stands_for Signature n entries) n ≡ true
  other_total other = cases (true_or_false (wrong_count n (stands_for Signature n entries) n))
    where
      cases : (wrong_count n (stands_for Signature n entries) n ≡ true) ⊎ (wrong_count n (stands_for Signature n entries) n ≡ false) → wrong_count n (stands_for Signature n entries) n ≡ true
      cases (inl wrong) = wrong
      cases (inr right) = absurd (other (right_total right))

  pub accepted_total : vector_refusal Signature n entries ≡ Ok tt → total ≡ pos (factorial n)
  accepted_total accepted =
      let a = accepted_vector Signature n entries accepted in
      sym total_scaled ∙ a.whole n (le_refl n) ∙ ap (λ (k : ℕ). pos (k * unit_of Signature n n)) a.counts.all
      ∙ ap pos (one-mul (unit_of Signature n n) ∙ unit_all)
