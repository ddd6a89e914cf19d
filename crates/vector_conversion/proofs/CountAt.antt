-- The path count of a size in a vector, by the entry of that size and the path counts of the sizes below it. Assumes nothing.
use mathlib.Core.Path.{◌≡◌, refl, sym, ap, ap₂, ◌∙◌}
use mathlib.Core.Bool.{Bool, true, false, cond}
use mathlib.Core.Logic.{◌⊎◌, inl, inr}
use mathlib.Core.List.{List}
use Prim.Native.Nat.{ℕ, suc, ◌+◌, ◌-◌, ◌*◌, ◌^◌, ◌≤◌, ◌<◌}
use native.Mathlib.Nat.{le_trans, le_of_eq, lt-suc_self, eq-or-lt_of_le, mul-one}
use native.Mathlib.Omega.{arith}
use lib.IntN.{ℤ, pos, neg_ℤ, ◌+ℤ◌, ◌-ℤ◌, ◌*ℤ◌}
use lib.ListN.{length, get_or, set}
use lib.Signed.{mag}
use mir.Facts.{to_z-of_z}
use mir.Syntax.{w64}
use mir.Val.{to_z, of_z}
use lib.Seq.{get_or-set_same, get_or-set_other}
use Rattle.numbers.specs.Counts.{factorial, choose}
use Rattle.theory_sums.specs.Sums.{sum_belowℤ}
use Rattle.theory_sums.proofs.Integers.{ring}
use Rattle.theory_sums.proofs.IntegerSums.{sum_belowℤ_same}
use Rattle.numbers.proofs.Bounds.{below_or_above}
use Rattle.theory_figures.specs.Figures.{sign, domination}
use Rattle.theory_figures.proofs.Dominations.{path_count_back}
use Rattle.std.specs.Prelude.{None, Some}
use Rattle.vector_conversion.specs.Vectors.{entry_at, scaled_count, unit_of, stands_for, counts_of, wrong_count}
use Rattle.vector_conversion.specs.Inside.{count_in, count_at, cells_of, Found}
use Rattle.vector_kind.specs.declared.Kind.{Kind}
use Rattle.vector_kind.specs.declared.Kind.TheVariants.{PathCounts, Tail, Signature, Domination}
use Rattle.vector_conversion.proofs.Scaled.{last_term, sign_last, domination_unique}
use Rattle.vector_conversion.proofs.Acceptance.{right_count}
use Rattle.theory_figures.proofs.Ranges.{choose_few}

-- an entry as it is read
pub entry_read : (entries : List ℤ) (k : ℕ) → mag (entry_at entries k) < 2 ^ 63 → to_z w64 (of_z w64 (entry_at entries k)) ≡ entry_at entries k
entry_read entries k h = to_z-of_z {w = w64} {z = entry_at entries k} (record { sfits = h })

alone : (z : ℤ) → pos 0 +ℤ z -ℤ pos 0 ≡ z
alone z = simp ring

module _ (n : ℕ) (entries : List ℤ) (j : ℕ) where
  -- a path count by itself, and an entry of the tail
  pub count_entry : count_in n j 1 (pos 0 +ℤ entry_at entries j -ℤ pos 0) ≡ count_at PathCounts n entries j
  unfolding count_at scaled_count unit_of
  count_entry = ap (count_in n j 1) (alone (entry_at entries j))

  pub count_tail : count_in n j (factorial j * factorial (n - j)) (pos 0 +ℤ entry_at entries (n - j) -ℤ pos 0) ≡ count_at Tail n entries j
  unfolding count_at scaled_count unit_of
  count_tail = ap (count_in n j (factorial j * factorial (n - j))) (alone (entry_at entries (n - j)))

-- T(n) = 0
pub count_signature_first : (n : ℕ) (entries : List ℤ) → count_in n 0 (factorial 0 * factorial (n - 0)) (pos 0) ≡ count_at Signature n entries 0
unfolding count_at scaled_count unit_of sum_belowℤ
count_signature_first n entries = refl

module _ (kind : Kind) (n : ℕ) (entries : List ℤ) (counts : List ℕ) (j : ℕ) (found : Found kind n entries counts j) where
  -- what the counts found stand for
  pub found_scaled : (i : ℕ) → i < j → scaled_count kind n entries i ≡ pos (get_or counts i 0 * unit_of kind n i)
  found_scaled i h =
      (right_count n (stands_for kind n entries) i (found.right i h)).whole ∙ ap (λ (x : ℕ). pos (x * unit_of kind n i)) (sym (found.cells i h))

-- a signature's entry is added to what the sizes below it stand for
pub count_signature : (n : ℕ) (entries : List ℤ) (counts : List ℕ) (j : ℕ) → Found Signature n entries counts (suc j)
    → count_in n (suc j) (factorial (suc j) * factorial (n - suc j)) (pos (get_or counts j 0 * (factorial j * factorial (n - j))) +ℤ entry_at entries (n - suc j) -ℤ pos 0)
    ≡ count_at Signature n entries (suc j)
unfolding count_at scaled_count unit_of sum_belowℤ
count_signature n entries counts j found =
    ap (count_in n (suc j) (factorial (suc j) * factorial (n - suc j)))
    (whole (pos (get_or counts j 0 * (factorial j * factorial (n - j)))) (entry_at entries (n - suc j))
    ∙ ap (λ (z : ℤ). z +ℤ entry_at entries (n - suc j)) (sym (found_scaled Signature n entries counts (suc j) found j (lt-suc_self j))))
  where
    whole : (x y : ℤ) → x +ℤ y -ℤ pos 0 ≡ x +ℤ y
    whole x y = simp ring

-- a domination's entry is added to what the terms of the sizes below it leave
pub count_domination : (n : ℕ) (entries : List ℤ) (counts : List ℕ) (j added taken : ℕ) → j ≤ n → Found Domination n entries counts j
    → pos added -ℤ pos taken ≡ sum_belowℤ (λ i. sign (j - i) *ℤ pos (choose (n - i) (j - i)) *ℤ pos (cells_of counts i)) j
    → count_in n j 1 (pos taken +ℤ entry_at entries j -ℤ pos added) ≡ count_at Domination n entries j
unfolding count_at scaled_count unit_of sum_belowℤ domination
count_domination n entries counts j added taken h found sums =
    ap (count_in n j 1)
    (moved (pos taken) (entry_at entries j) (pos added) ∙ ap₂ (λ (u v : ℤ). u +ℤ v) (sym below) (sym (last_term n j (entry_at entries j))))
  where
    φ : ℕ → ℕ
    φ = cells_of counts

    moved : (x y z : ℤ) → x +ℤ y -ℤ z ≡ neg_ℤ (z -ℤ x) +ℤ y
    moved x y z = simp ring

    Sum : (ℕ → ℤ) → ℤ
    Sum d = sum_belowℤ (λ i. pos (choose (n - i) (j - i)) *ℤ d i) j

    terms : ℤ
    terms = sum_belowℤ (λ i. sign (j - i) *ℤ pos (choose (n - i) (j - i)) *ℤ pos (φ i)) j

    same : (i : ℕ) → i < j → entry_at entries i ≡ domination n φ i
    same =
        domination_unique n φ (entry_at entries) j (omega arith) (λ i l.
        found_scaled Domination n entries counts j found i l ∙ ap pos (mul-one (φ i)))

    whole : Sum (domination n φ) +ℤ (terms +ℤ pos (φ j)) ≡ pos (φ j)
    whole =
        ap (λ (z : ℤ). Sum (domination n φ) +ℤ (terms +ℤ z)) (sym (sign_last n j (pos (φ j))))
        ∙ ap (λ (z : ℤ). Sum (domination n φ) +ℤ z) (sym (last_term n j (domination n φ j))) ∙ path_count_back n φ j h

    leaves : (x s y : ℤ) → x +ℤ (s +ℤ y) ≡ y → x ≡ neg_ℤ s
    leaves x s y e = out x (s +ℤ y) ∙ ap (λ (z : ℤ). z -ℤ (s +ℤ y)) e ∙ rest s y
      where
        out : (a b : ℤ) → a ≡ a +ℤ b -ℤ b
        out a b = simp ring

        rest : (a b : ℤ) → b -ℤ (a +ℤ b) ≡ neg_ℤ a
        rest a b = simp ring

    below : Sum (entry_at entries) ≡ neg_ℤ (pos added -ℤ pos taken)
    below =
        sum_belowℤ_same _ _ j (λ i l. ap (λ (z : ℤ). pos (choose (n - i) (j - i)) *ℤ z) (same i l))
        ∙ leaves (Sum (domination n φ)) terms (pos (φ j)) whole ∙ ap neg_ℤ (sym sums)

-- ---- one count more

module _ (kind : Kind) (n : ℕ) (entries : List ℤ) (j : ℕ) where
  -- a count that is found, and one that is wrong
  pub count_of : (x : ℕ) → count_at kind n entries j ≡ Some x → (wrong_count n (stands_for kind n entries) j ≡ false) × (x ≡ counts_of kind n entries j)
  unfolding count_at wrong_count
  count_of x h = cases _ h
    where
      cases : (t : Bool) → cond t None (Some (counts_of kind n entries j)) ≡ Some x → (t ≡ false) × (x ≡ counts_of kind n entries j)
      cases true e = absurd (let clash : ◌≡◌ {A = ℕ} 0 1 = cc in omega arith)
      cases false e = (refl, cc)

  pub count_wrong : count_at kind n entries j ≡ None → wrong_count n (stands_for kind n entries) j ≡ true
  unfolding count_at wrong_count
  count_wrong h = cases _ h
    where
      cases : (t : Bool) → cond t None (Some (counts_of kind n entries j)) ≡ None → t ≡ true
      cases true e = refl
      cases false e = absurd (let clash : ◌≡◌ {A = ℕ} 0 1 = cc in omega arith)

  -- the counts with one more
  pub found_more : (counts : List ℕ) (x : ℕ) → n ≤ 16 → j < length counts → Found kind n entries counts j → count_at kind n entries j ≡ Some x
      → Found kind n entries (set counts j x) (j + 1)
  found_more counts x few h found e =
      record {
        few = λ i. small i (same_or_not i j);
        right = λ i l. right i (up i l);
        cells = λ i l. cell i (up i l);
      }
    where
      told : (wrong_count n (stands_for kind n entries) j ≡ false) × (x ≡ counts_of kind n entries j)
      told = count_of x e

      same_or_not : (i k : ℕ) → (i ≡ k) ⊎ (i ≡ k → ⊥)
      same_or_not i k = cases (below_or_above i k) (below_or_above k i)
        where
          cases : (i < k) ⊎ (k ≤ i) → (k < i) ⊎ (i ≤ k) → (i ≡ k) ⊎ (i ≡ k → ⊥)
          cases (inl l) m = inr (λ q. omega arith)
          cases (inr l) (inl m) = inr (λ q. omega arith)
          cases (inr l) (inr m) = inl (omega arith)

      up : (i : ℕ) → i < j + 1 → (i ≡ j) ⊎ (i < j)
      up i l = eq-or-lt_of_le (omega arith)

      here : get_or (set counts j x) j 0 ≡ x
      here = get_or-set_same counts j x 0 h

      small : (i : ℕ) → (i ≡ j) ⊎ (i ≡ j → ⊥) → get_or (set counts j x) i 0 ≤ 12870
      small i (inl q) =
          le_trans (le_of_eq (ap (λ (k : ℕ). get_or (set counts j x) k 0) q ∙ here ∙ told.1))
          (le_trans (right_count n (stands_for kind n entries) j told.0).most (choose_few n j few))
      small i (inr q) = le_trans (le_of_eq (get_or-set_other counts j i x 0 q)) (found.few i)

      right : (i : ℕ) → (i ≡ j) ⊎ (i < j) → wrong_count n (stands_for kind n entries) i ≡ false
      right i (inl q) = ap (wrong_count n (stands_for kind n entries)) q ∙ told.0
      right i (inr l) = found.right i l

      cell : (i : ℕ) → (i ≡ j) ⊎ (i < j) → get_or (set counts j x) i 0 ≡ counts_of kind n entries i
      cell i (inl q) = ap (λ (k : ℕ). get_or (set counts j x) k 0) q ∙ here ∙ told.1 ∙ ap (counts_of kind n entries) (sym q)
      cell i (inr l) = get_or-set_other counts j i x 0 (λ q. omega arith) ∙ found.cells i l
