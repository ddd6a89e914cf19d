-- Which path counts belong to which entries: the vector of a kind that some path counts give stands for these, and whole path counts give back
-- the vector that stands for them. Assumes nothing.
use mathlib.Core.Path.{◌≡◌, sym, ap, ap₂, ◌∙◌}
use mathlib.Core.Logic.{◌⊎◌, inl, inr}
use mathlib.Core.List.{List}
use Prim.Native.Nat.{ℕ, zero, suc, ◌+◌, ◌-◌, ◌*◌, ◌≤◌, ◌<◌}
use native.Mathlib.Nat.{le_refl, le_step, le_of_suc-le-suc, lt-suc_self, eq-or-lt_of_le, not-suc-le-zero, mul_assoc, mul-one, sub_self, sub-zero, mul-pos}
use native.Mathlib.Omega.{arith}
use lib.IntN.{ℤ, pos, ◌+ℤ◌, ◌-ℤ◌, ◌*ℤ◌, pow, one, pos-+ℤ-pos}
use lib.ListN.{length, get_or}
use Rattle.numbers.specs.Counts.{factorial, choose}
use Rattle.numbers.proofs.Counts.{factorial_pos, choose_none}
use Rattle.numbers.proofs.Tables.{tabulate_at, tabulate_unique}
use Rattle.theory_sums.specs.Sums.{sum_belowℤ}
use Rattle.theory_sums.proofs.Integers.{ring, unit-*ℤ}
use Rattle.theory_sums.proofs.IntegerSums.{sum_belowℤ_same}
use Rattle.theory_figures.specs.Figures.{tail, signature, sign, domination}
use Rattle.theory_figures.proofs.Dominations.{path_count_back}
use Rattle.vector_kind.specs.Kinds.{length_of}
use Rattle.vector_conversion.specs.Vectors.{entry_at, scaled_count, unit_of, figure, vector_of}
use Rattle.vector_conversion.specs.Inside.{cells_of}
use Rattle.vector_kind.specs.declared.Kind.{Kind}
use Rattle.vector_kind.specs.declared.Kind.TheVariants.{PathCounts, Tail, Signature, Domination}

pub unit_pos : (kind : Kind) (n j : ℕ) → 0 < unit_of kind n j
unfolding unit_of
unit_pos PathCounts n j = omega arith
unit_pos Tail n j = mul-pos (factorial_pos j) (factorial_pos (n - j))
unit_pos Signature n j = mul-pos (factorial_pos j) (factorial_pos (n - j))
unit_pos Domination n j = omega arith

-- ---- the tail

-- T(n-j) is φ(j) × j! × (n-j)!
pub tail_size : (n : ℕ) (φ : ℕ → ℕ) (j : ℕ) → j ≤ n → tail n φ (n - j) ≡ φ j * (factorial j * factorial (n - j))
unfolding tail
tail_size n φ j h =
    let back : n - (n - j) ≡ j = omega arith in
    ap (λ (x : ℕ). φ x * factorial x * factorial (n - j)) back ∙ mul_assoc (φ j) (factorial j) (factorial (n - j))

-- T(k) by the count of the n - k parts that are left
pub tail_back : (n : ℕ) (counts : List ℕ) (k unit : ℕ) → k ≤ n → unit ≡ factorial (n - k) * factorial (n - (n - k))
    → get_or counts (n - k) 0 * unit ≡ tail n (cells_of counts) k
tail_back n counts k unit h e =
    let back : n - (n - k) ≡ k = omega arith in
    ap (λ (u : ℕ). get_or counts (n - k) 0 * u) e ∙ sym (tail_size n (cells_of counts) (n - k) (omega arith)) ∙ ap (tail n (cells_of counts)) back

-- T(n) is 0 where φ(0) is
pub tail_none : (n : ℕ) (φ : ℕ → ℕ) → φ 0 ≡ 0 → tail n φ n ≡ 0
unfolding tail
tail_none n φ none =
    ap (λ (x : ℕ). φ x * factorial x * factorial n) (sub_self n) ∙ ap (λ (u : ℕ). u * factorial 0 * factorial n) none ∙ omega arith

-- N(k+1) is T(k) - T(k+1)
pub signature_step : (n : ℕ) (φ : ℕ → ℕ) (k : ℕ) → signature n φ (suc k) ≡ pos (tail n φ k) -ℤ pos (tail n φ (suc k))
unfolding signature
signature_step n φ k = let before : suc k - 1 ≡ k = omega arith in ap (λ (x : ℕ). pos (tail n φ x) -ℤ pos (tail n φ (suc k))) before

-- ---- the domination

-- the last term of the sum for size k is d(k) itself
pub last_term : (n k : ℕ) (x : ℤ) → pos (choose (n - k) (k - k)) *ℤ x ≡ x
last_term n k x = ap (λ (u : ℕ). pos (choose (n - k) u) *ℤ x) (sub_self k) ∙ ap (λ (u : ℕ). pos u *ℤ x) (choose_none (n - k)) ∙ unit-*ℤ x

-- the last term of d(k) is φ(k) itself
pub sign_last : (n k : ℕ) (x : ℤ) → sign (k - k) *ℤ pos (choose (n - k) (k - k)) *ℤ x ≡ x
unfolding pow one
sign_last n k x =
    ap (λ (u : ℕ). sign u *ℤ pos (choose (n - k) (k - k)) *ℤ x) (sub_self k) ∙ ap (λ (z : ℤ). z *ℤ x) (unit-*ℤ (pos (choose (n - k) (k - k)))) ∙ last_term n k x

-- d(k) by the terms below k, added and taken
pub domination_terms : (n : ℕ) (φ : ℕ → ℕ) (k added taken : ℕ)
    → pos added -ℤ pos taken ≡ sum_belowℤ (λ i. sign (k - i) *ℤ pos (choose (n - i) (k - i)) *ℤ pos (φ i)) k
    → pos (added + φ k) -ℤ pos taken ≡ domination n φ k
unfolding domination sum_belowℤ
domination_terms n φ k added taken sums =
    ap (λ (z : ℤ). z -ℤ pos taken) (sym (pos-+ℤ-pos added (φ k))) ∙ moved (pos added) (pos (φ k)) (pos taken)
    ∙ ap₂ (λ (u v : ℤ). u +ℤ v) sums (sym (sign_last n k (pos (φ k))))
  where
    moved : (a x t : ℤ) → a +ℤ x -ℤ t ≡ a -ℤ t +ℤ x
    moved a x t = simp ring

-- the path counts of the sizes below a bound leave one domination
pub domination_unique : (n : ℕ) (φ : ℕ → ℕ) (d : ℕ → ℤ) (m : ℕ) → m ≤ suc n
    → ((k : ℕ) → k < m → sum_belowℤ (λ i. pos (choose (n - i) (k - i)) *ℤ d i) (suc k) ≡ pos (φ k))
    → (k : ℕ) → k < m → d k ≡ domination n φ k
unfolding sum_belowℤ
domination_unique n φ d zero h same k l = absurd (not-suc-le-zero l)
domination_unique n φ d (suc m) h same k l =
    cases (eq-or-lt_of_le (le_of_suc-le-suc l)) (domination_unique n φ d m (omega arith) (λ i u. same i (le_step u)))
  where
    last : (a x y : ℤ) → a +ℤ x ≡ a +ℤ y → x ≡ y
    last a x y e = alone a x ∙ ap (λ (u : ℤ). u -ℤ a) e ∙ sym (alone a y)
      where
        alone : (b z : ℤ) → z ≡ b +ℤ z -ℤ b
        alone b z = simp ring

    at_last : ((i : ℕ) → i < m → d i ≡ domination n φ i) → d m ≡ domination n φ m
    at_last below =
        last (sum_belowℤ (λ i. pos (choose (n - i) (m - i)) *ℤ domination n φ i) m) (d m) (domination n φ m)
        (ap₂ (λ (u v : ℤ). u +ℤ v) (sum_belowℤ_same _ _ m (λ i u. ap (λ (x : ℤ). pos (choose (n - i) (m - i)) *ℤ x) (sym (below i u))))
        (sym (last_term n m (d m)))
        ∙ same m (lt-suc_self m) ∙ sym (path_count_back n φ m (le_of_suc-le-suc h))
        ∙ ap (λ (x : ℤ). sum_belowℤ (λ i. pos (choose (n - i) (m - i)) *ℤ domination n φ i) m +ℤ x) (last_term n m (domination n φ m)))

    cases : (k ≡ m) ⊎ (k < m) → ((i : ℕ) → i < m → d i ≡ domination n φ i) → d k ≡ domination n φ k
    cases (inl e) below = ap d e ∙ at_last below ∙ ap (domination n φ) (sym e)
    cases (inr u) below = below k u

-- ---- from path counts to entries and back

module _ (n : ℕ) (φ : ℕ → ℕ) where
  -- an entry of the vector of a kind
  pub entry_figure : (kind : Kind) (k : ℕ) → k < length_of kind n → entry_at (vector_of kind n φ) k ≡ figure kind n φ k
  entry_figure kind k h = tabulate_at (length_of kind n) (figure kind n φ) k (pos 0) h

  -- what a signature adds up to
  signature_sum : φ 0 ≡ 0 → (j : ℕ) → j ≤ n → sum_belowℤ (λ i. entry_at (vector_of Signature n φ) (n - suc i)) j ≡ pos (tail n φ (n - j))
  unfolding sum_belowℤ figure
  signature_sum none zero h = ap pos (sym (ap (tail n φ) (sub-zero n) ∙ tail_none n φ none))
  signature_sum none (suc j) h =
      let next : suc (n - suc j) ≡ n - j = omega arith in
      ap₂ (λ (u v : ℤ). u +ℤ v) (signature_sum none j (omega arith))
      (entry_figure Signature (n - suc j) (omega arith) ∙ signature_step n φ (n - suc j) ∙ ap (λ (x : ℕ). pos (tail n φ (n - suc j)) -ℤ pos (tail n φ x)) next)
      ∙ left (pos (tail n φ (n - j))) (pos (tail n φ (n - suc j)))
    where
      left : (a b : ℤ) → a +ℤ (b -ℤ a) ≡ b
      left a b = simp ring

  -- the vector of a kind stands for the path counts that gave it
  pub scaled_figure : φ 0 ≡ 0 → (kind : Kind) (j : ℕ) → j ≤ n → scaled_count kind n (vector_of kind n φ) j ≡ pos (φ j * unit_of kind n j)
  unfolding scaled_count unit_of figure
  scaled_figure none PathCounts j h = entry_figure PathCounts j (omega arith) ∙ ap pos (sym (mul-one (φ j)))
  scaled_figure none Tail j h = entry_figure Tail (n - j) (omega arith) ∙ ap pos (tail_size n φ j h)
  scaled_figure none Signature j h = signature_sum none j h ∙ ap pos (tail_size n φ j h)
  scaled_figure none Domination j h =
      sum_belowℤ_same _ (λ i. pos (choose (n - i) (j - i)) *ℤ domination n φ i) (suc j) (λ i l.
      ap (λ (x : ℤ). pos (choose (n - i) (j - i)) *ℤ x) (entry_figure Domination i (omega arith)))
      ∙ path_count_back n φ j h ∙ ap pos (sym (mul-one (φ j)))

  module _ (entries : List ℤ) where
    -- an entry, by the path counts that the vector stands for
    figure_scaled : (kind : Kind) → ((j : ℕ) → j ≤ n → scaled_count kind n entries j ≡ pos (φ j * unit_of kind n j))
        → (k : ℕ) → k < length_of kind n → entry_at entries k ≡ figure kind n φ k
    unfolding scaled_count unit_of figure sum_belowℤ
    figure_scaled PathCounts same k h = same k (omega arith) ∙ ap pos (mul-one (φ k))
    figure_scaled Tail same k h =
        let back : n - (n - k) ≡ k = omega arith in
        ap (entry_at entries) (sym back) ∙ same (n - k) (omega arith) ∙ ap pos (sym (tail_size n φ (n - k) (omega arith))) ∙ ap (λ (x : ℕ). pos (tail n φ x)) back
    figure_scaled Signature same k h = taken (n - suc k) (omega arith) (omega arith)
      where
        alone : (a b : ℤ) → b ≡ a +ℤ b -ℤ a
        alone a b = simp ring

        taken : (j : ℕ) → suc j ≡ n - k → suc j ≤ n → entry_at entries k ≡ signature n φ (suc k)
        taken j e l =
            let here : n - suc j ≡ k = omega arith in
            let next : n - j ≡ suc k = omega arith in
            alone (sum_belowℤ (λ i. entry_at entries (n - suc i)) j) (entry_at entries k)
            ∙ ap₂ (λ (u v : ℤ). u -ℤ v)
            (ap (λ (x : ℕ). sum_belowℤ (λ i. entry_at entries (n - suc i)) j +ℤ entry_at entries x) (sym here) ∙ same (suc j) l
            ∙ ap pos (sym (tail_size n φ (suc j) l)) ∙ ap (λ (x : ℕ). pos (tail n φ x)) here)
            (same j (omega arith) ∙ ap pos (sym (tail_size n φ j (omega arith))) ∙ ap (λ (x : ℕ). pos (tail n φ x)) next)
            ∙ sym (signature_step n φ k)
    figure_scaled Domination same k h =
        domination_unique n φ (entry_at entries) (suc n) (le_refl (suc n)) (λ j l.
        same j (le_of_suc-le-suc l) ∙ ap pos (mul-one (φ j))) k (omega arith)

    -- whole path counts give the vector back that stands for them
    pub vector_scaled : (kind : Kind) → length entries ≡ length_of kind n
        → ((j : ℕ) → j ≤ n → scaled_count kind n entries j ≡ pos (φ j * unit_of kind n j)) → vector_of kind n φ ≡ entries
    vector_scaled kind long same =
        sym (tabulate_unique (length_of kind n) (figure kind n φ) entries (pos 0) long (figure_scaled kind same))
