-- Conversion: an accepted vector converts to accepted ones of every kind and back without change, the figures of a semicoherent structure are
-- accepted and convert into each other, and an accepted signature has no negative entry. Assumes nothing.
use mathlib.Core.Path.{◌≡◌, refl, sym, ap, ap₂, ◌∙◌, subst}
use mathlib.Core.Bool.{Bool}
use mathlib.Core.List.{List}
use Prim.Native.Nat.{ℕ, suc, ◌-◌, ◌*◌, ◌/◌, ◌≤◌, ◌<◌}
use native.Mathlib.Nat.{le_trans, le_of_eq, mul_assoc, mul-pos, mul-div_cancel, mul-le-mul_left, sub-add_cancel}
use native.Mathlib.Numerals.{add-one}
use native.Mathlib.Omega.{arith}
use lib.IntN.{ℤ, pos, nat_abs, ◌-ℤ◌, ◌*ℤ◌, pos-+ℤ-pos, +ℤ-neg_ℤ_cancel}
use Rattle.std.specs.Prelude.{Ok}
use Rattle.numbers.specs.Counts.{factorial, choose}
use Rattle.numbers.proofs.Counts.{factor_le, choose_pos, choose_mirror}
use Rattle.numbers.proofs.Tables.{tabulate_length, tabulate_at, tabulate_unique}
use Rattle.theory_sums.proofs.IntegerSums.{sum_belowℤ_same}
use Rattle.theory_orders.specs.Formulas.{path_count}
use Rattle.theory_sets.specs.Structures.{Semicoherent}
use Rattle.theory_figures.specs.Figures.{tail, signature, domination, sign}
use Rattle.theory_figures.proofs.Sizes.{path_count_most}
use Rattle.theory_figures.proofs.Tails.{tail_proportion, path_count_empty, path_count_full, proportions_rise}
use Rattle.vector_kind.specs.Kinds.{length_of}
use Rattle.vector_conversion.specs.Vectors.{entry_at, unit_of, counts_of, vector_refusal, figure, vector_of, converted, figures_of}
use Rattle.vector_kind.specs.declared.Kind.{Kind}
use Rattle.vector_kind.specs.declared.Kind.TheVariants.{PathCounts, Tail, Signature, Domination}
use Rattle.vector_conversion.proofs.Scaled.{unit_pos, signature_step, scaled_figure, vector_scaled}
use Rattle.vector_conversion.specs.Accepted.{AcceptedCounts, AcceptedVector}
use Rattle.vector_conversion.proofs.Acceptance.{accepted_same, accepted_vector, vector_accepted}

-- ---- path counts and their vectors

-- a vector looks at the path counts of the sizes up to n alone
pub figure_same : (kind : Kind) (n : ℕ) (φ ψ : ℕ → ℕ) → ((j : ℕ) → j ≤ n → φ j ≡ ψ j) → (k : ℕ) → k < length_of kind n → figure kind n φ k ≡ figure kind n ψ k
unfolding figure tail signature domination
figure_same PathCounts n φ ψ same k h = ap pos (same k (omega arith))
figure_same Tail n φ ψ same k h = ap (λ (x : ℕ). pos (x * factorial (n - k) * factorial k)) (same (n - k) (omega arith))
figure_same Signature n φ ψ same k h =
    ap₂ (λ (x y : ℕ). pos (x * factorial (n - (suc k - 1)) * factorial (suc k - 1)) -ℤ pos (y * factorial (n - suc k) * factorial (suc k)))
    (same (n - (suc k - 1)) (omega arith)) (same (n - suc k) (omega arith))
figure_same Domination n φ ψ same k h =
    sum_belowℤ_same _ _ (suc k) (λ j l. ap (λ (x : ℕ). sign (k - j) *ℤ pos (choose (n - j) (k - j)) *ℤ pos x) (same j (omega arith)))

pub vector_same : (kind : Kind) (n : ℕ) (φ ψ : ℕ → ℕ) → ((j : ℕ) → j ≤ n → φ j ≡ ψ j) → vector_of kind n φ ≡ vector_of kind n ψ
vector_same kind n φ ψ same =
    tabulate_unique (length_of kind n) (figure kind n ψ) (vector_of kind n φ) (pos 0) (tabulate_length (length_of kind n) (figure kind n φ)) (λ k h.
    tabulate_at (length_of kind n) (figure kind n φ) k (pos 0) h ∙ figure_same kind n φ ψ same k h)

-- the path counts come back from the vector of each kind
pub counts_back : (kind : Kind) (n : ℕ) (φ : ℕ → ℕ) → φ 0 ≡ 0 → (j : ℕ) → j ≤ n → counts_of kind n (vector_of kind n φ) j ≡ φ j
counts_back kind n φ none j h =
    ap (λ (z : ℤ). nat_abs z / unit_of kind n j) (scaled_figure n φ none kind j h) ∙ mul-div_cancel (φ j) (unit_pos kind n j)

-- ---- accepted path counts give accepted vectors, which convert into each other

module _ (n : ℕ) (some : 1 ≤ n) (few : n ≤ 16) (φ : ℕ → ℕ) (a : AcceptedCounts n φ) where
  pub figures_accepted : (kind : Kind) → AcceptedVector kind n (vector_of kind n φ)
  figures_accepted kind =
      record {
        some = some;
        few = few;
        long = tabulate_length (length_of kind n) (figure kind n φ);
        whole = λ j h. scaled_figure n φ a.none kind j h ∙ ap (λ (x : ℕ). pos (x * unit_of kind n j)) (sym (counts_back kind n φ a.none j h));
        counts = accepted_same n φ (counts_of kind n (vector_of kind n φ)) (counts_back kind n φ a.none) a;
      }

  pub figures_convert : (kind target : Kind) → converted target kind n (vector_of kind n φ) ≡ vector_of target n φ
  figures_convert kind target = vector_same target n (counts_of kind n (vector_of kind n φ)) φ (counts_back kind n φ a.none)

-- ---- an accepted vector

module _ (kind : Kind) (n : ℕ) (entries : List ℤ) (accepted : vector_refusal kind n entries ≡ Ok tt) where
  -- as its own kind it is itself
  pub conversion_same : converted kind kind n entries ≡ entries
  conversion_same =
      let a = accepted_vector kind n entries accepted in
      vector_scaled n (counts_of kind n entries) entries kind a.long a.whole

  -- what it converts to is accepted
  pub conversion_accepted : (target : Kind) → vector_refusal target n (converted target kind n entries) ≡ Ok tt
  conversion_accepted target =
      let a = accepted_vector kind n entries accepted in
      vector_accepted target n (converted target kind n entries) (figures_accepted n a.some a.few (counts_of kind n entries) a.counts target)

  -- by way of another kind it converts to the same vector
  pub conversion_through : (middle target : Kind) → converted target middle n (converted middle kind n entries) ≡ converted target kind n entries
  conversion_through middle target =
      let a = accepted_vector kind n entries accepted in
      figures_convert n a.some a.few (counts_of kind n entries) a.counts middle target

  -- there and back it is itself
  pub conversion_back : (target : Kind) → converted kind target n (converted target kind n entries) ≡ entries
  conversion_back target = conversion_through target kind ∙ conversion_same

-- ---- an accepted signature has no negative entry

pub difference_positive : (a b : ℕ) → b ≤ a → pos a -ℤ pos b ≡ pos (a - b)
difference_positive a b h =
    ap (λ (x : ℕ). pos x -ℤ pos b) (sym (sub-add_cancel h)) ∙ ap (λ (z : ℤ). z -ℤ pos b) (sym (pos-+ℤ-pos (a - b) b)) ∙ +ℤ-neg_ℤ_cancel (pos (a - b)) (pos b)

-- the tail falls as the proportions rise
pub accepted_tail_falls : (n : ℕ) (φ : ℕ → ℕ) → AcceptedCounts n φ → (k : ℕ) → k < n → tail n φ (suc k) ≤ tail n φ k
accepted_tail_falls n φ a k h =
    factor_le (tail n φ (suc k)) (tail n φ k) (choose n (suc k) * choose n k) (mul-pos (choose_pos n (suc k) h) (choose_pos n k (omega arith)))
    (le_trans (le_of_eq (sym (mul_assoc (tail n φ (suc k)) (choose n (suc k)) (choose n k)) ∙ ap (λ (x : ℕ). x * choose n k) (tail_proportion n φ (suc k) h)))
    (le_trans (across (factorial n) (φ j) (choose n k) (φ (n - k)) (choose n (suc k)) rising)
    (le_of_eq (ap (λ (x : ℕ). x * choose n (suc k)) (sym (tail_proportion n φ k (omega arith))) ∙ turned (tail n φ k) (choose n k) (choose n (suc k))))))
  where
    j : ℕ
    j = n - suc k

    across : (m x c y d : ℕ) → x * c ≤ y * d → m * x * c ≤ m * y * d
    across m x c y d l = le_trans (le_of_eq (mul_assoc m x c)) (le_trans (mul-le-mul_left m l) (le_of_eq (sym (mul_assoc m y d))))

    turned : (t c d : ℕ) → t * c * d ≡ t * (d * c)
    turned t c d = omega arith

    rising : φ j * choose n k ≤ φ (n - k) * choose n (suc k)
    rising =
        let next : suc j ≡ n - k = omega arith in
        subst (λ (x : ℕ). φ j * x ≤ φ (n - k) * choose n (suc k)) (choose_mirror n (n - k) k (omega arith))
        (subst (λ (x : ℕ). φ j * choose n (n - k) ≤ φ (n - k) * x) (choose_mirror n j (suc k) (omega arith))
        (subst (λ (x : ℕ). φ j * choose n x ≤ φ x * choose n j) next (a.rises j (omega arith))))

pub signature_positive : (n : ℕ) (entries : List ℤ) → vector_refusal Signature n entries ≡ Ok tt → (k : ℕ) → k < n
    → entry_at entries k ≡ pos (tail n (counts_of Signature n entries) k - tail n (counts_of Signature n entries) (suc k))
unfolding figure
signature_positive n entries accepted k h =
    let φ = counts_of Signature n entries in
    ap (λ (xs : List ℤ). entry_at xs k) (sym (conversion_same Signature n entries accepted))
    ∙ tabulate_at n (figure Signature n φ) k (pos 0) h ∙ signature_step n φ k
    ∙ difference_positive (tail n φ k) (tail n φ (suc k)) (accepted_tail_falls n φ (accepted_vector Signature n entries accepted).counts k h)

-- ---- the figures of a semicoherent structure

module _ (n : ℕ) (some : 1 ≤ n) (few : n ≤ 16) (works : ℕ → Bool) (coherent : Semicoherent n works) where
  pub structure_counts : AcceptedCounts n (path_count n works)
  structure_counts =
      record {
        none = path_count_empty n works coherent;
        all = path_count_full n works coherent;
        most = λ j h. path_count_most n works j;
        rises = λ j h.
            subst (λ (x : ℕ). path_count n works j * choose n x ≤ path_count n works x * choose n j) (add-one j) (proportions_rise n works coherent j h);
      }

  -- the vector of each kind is the figure of its name
  pub structure_vectors : (kind : Kind) → vector_of kind n (path_count n works) ≡ figures_of kind n works
  unfolding figure
  structure_vectors PathCounts = refl
  structure_vectors Tail = refl
  structure_vectors Signature = refl
  structure_vectors Domination = refl

  -- they are accepted
  pub structure_accepted : (kind : Kind) → vector_refusal kind n (figures_of kind n works) ≡ Ok tt
  structure_accepted kind =
      ap (vector_refusal kind n) (sym (structure_vectors kind))
      ∙ vector_accepted kind n (vector_of kind n (path_count n works)) (figures_accepted n some few (path_count n works) structure_counts kind)

  -- and convert into each other
  pub structure_convert : (kind target : Kind) → converted target kind n (figures_of kind n works) ≡ figures_of target n works
  structure_convert kind target =
      ap (converted target kind n) (sym (structure_vectors kind)) ∙ figures_convert n some few (path_count n works) structure_counts kind target
      ∙ structure_vectors target
