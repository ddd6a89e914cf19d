-- Laws of what is gathered by class: one number more, and a bound. Assumes nothing.
use mathlib.Core.Path.{◌≡◌, refl, sym, ap, ap₂, ◌∙◌}
use mathlib.Core.Bool.{Bool, true, false, cond, ◌&&◌, and-true, and-false}
use mathlib.Core.List.{List}
use mathlib.Core.Logic.{◌⊎◌, inl, inr}
use Prim.Native.Nat.{ℕ, zero, suc, zero-le, ◌+◌, ◌*◌, ◌%◌, ◌^◌, ◌≤◌, ◌<◌}
use native.Mathlib.Decide.{ℕ_discrete}
use native.Mathlib.Nat.{le_trans, add-zero, le_of_eq, mod-eq_of_lt}
use native.Mathlib.Numerals.{add-one}
use native.Mathlib.Omega.{arith}
use lib.Dec.{eqb}
use lib.ListN.{length, get_or, set, length-set, get_or-eq_default}
use lib.Seq.{get_or-set_same, get_or-set_other}
use borrow.Author.Tests.{eq-eqb, ne_eqb}
use Rattle.numbers.specs.Tables.{tabulate}
use Rattle.numbers.proofs.Tables.{tabulate_at, tabulate_length, tabulate_unique}
use Rattle.numbers.proofs.Bounds.{below_or_above}
use Rattle.theory_sums.specs.Sums.{sum_below, gathered}

module _ (test : ℕ → Bool) (class amount : ℕ → ℕ) where
  -- a number that fails the test adds nothing, and another adds its amount to its class
  pub gathered_step : (t i : ℕ) → gathered test class amount (t + 1) i ≡ gathered test class amount t i + cond (test t && eqb (class t) i) (amount t) 0
  unfolding gathered sum_below
  gathered_step t i = ap (sum_below (λ a. cond (test a && eqb (class a) i) (amount a) 0)) (add-one t)

  pub gathered_none : (n : ℕ) → tabulate n (λ i. 0) ≡ tabulate n (gathered test class amount 0)
  unfolding gathered sum_below
  gathered_none n = refl

  pub gathered_skip : (n t : ℕ) → test t ≡ false → tabulate n (gathered test class amount t) ≡ tabulate n (gathered test class amount (t + 1))
  gathered_skip n t none =
      tabulate_unique n (gathered test class amount (t + 1)) (tabulate n (gathered test class amount t)) 0 (tabulate_length n _) (λ i h.
      tabulate_at n _ i 0 h ∙ sym (add-zero (gathered test class amount t i))
      ∙ ap (λ (b : Bool). gathered test class amount t i + cond (b && eqb (class t) i) (amount t) 0) (sym none)
      ∙ sym (gathered_step t i))

  -- the cell of a class with the amount of one number more, if it passes the test
  pub gathered_more : (n t : ℕ) (cells : List ℕ) → cells ≡ tabulate n (gathered test class amount t) → class t < n
      → (v : ℕ) → v ≡ get_or cells (class t) 0 + cond (test t) (amount t) 0 → set cells (class t) v ≡ tabulate n (gathered test class amount (t + 1))
  gathered_more n t cells is low v e =
      tabulate_unique n (gathered test class amount (t + 1)) (set cells (class t) v) 0 (length-set cells (class t) v ∙ long) (λ i h. cases i h (ℕ_discrete i (class t)))
    where
      long : length cells ≡ n
      long = ap length is ∙ tabulate_length n (gathered test class amount t)

      held : (i : ℕ) → i < n → get_or cells i 0 ≡ gathered test class amount t i
      held i h = ap (λ (xs : List ℕ). get_or xs i 0) is ∙ tabulate_at n (gathered test class amount t) i 0 h

      cases : (i : ℕ) → i < n → Dec (i ≡ class t) → get_or (set cells (class t) v) i 0 ≡ gathered test class amount (t + 1) i
      cases i h (yes same) =
          ap (λ (j : ℕ). get_or (set cells (class t) v) j 0) same
          ∙ get_or-set_same cells (class t) v 0 (rw long low)
          ∙ e ∙ ap₂ (λ (x : ℕ) (b : Bool). x + cond b (amount t) 0) (held (class t) low) (sym (and-true (test t)))
          ∙ ap (λ (b : Bool). gathered test class amount t (class t) + cond (test t && b) (amount t) 0) (sym (eq-eqb (class t) (class t) refl))
          ∙ sym (gathered_step t (class t)) ∙ ap (gathered test class amount (t + 1)) (sym same)
      cases i h (no other) =
          get_or-set_other cells (class t) i v 0 other ∙ held i h ∙ sym (add-zero (gathered test class amount t i))
          ∙ ap (λ (b : Bool). gathered test class amount t i + cond b (amount t) 0)
          (sym (ap (λ (b : Bool). test t && b) (ne_eqb (class t) i (λ x. other (sym x))) ∙ and-false (test t)))
          ∙ sym (gathered_step t i)

  pub gathered_few : (most t i : ℕ) → ((a : ℕ) → a < t → amount a ≤ most) → gathered test class amount t i ≤ t * most
  unfolding gathered sum_below
  gathered_few most zero i few = zero-le
  gathered_few most (suc t) i few =
      let one : cond (test t && eqb (class t) i) (amount t) 0 ≤ most = either (test t && eqb (class t) i) in
      let rest : sum_below (λ a. cond (test a && eqb (class a) i) (amount a) 0) t ≤ t * most = gathered_few most t i (λ a l. few a (omega arith)) in
      omega arith
    where
      either : (b : Bool) → cond b (amount t) 0 ≤ most
      either true = few t (omega arith)
      either false = zero-le

  -- in a list, also beyond the last class
  pub gathered_list_few : (n most t i : ℕ) (cells : List ℕ) → cells ≡ tabulate n (gathered test class amount t) → ((a : ℕ) → a < t → amount a ≤ most)
      → get_or cells i 0 ≤ t * most
  gathered_list_few n most t i cells is few = cases (below_or_above i n)
    where
      cases : (i < n) ⊎ (n ≤ i) → get_or cells i 0 ≤ t * most
      cases (inl l) =
          le_trans (le_of_eq (ap (λ (xs : List ℕ). get_or xs i 0) is ∙ tabulate_at n (gathered test class amount t) i 0 l)) (gathered_few most t i few)
      cases (inr h) =
          le_trans (le_of_eq (ap (λ (xs : List ℕ). get_or xs i 0) is
          ∙ get_or-eq_default (tabulate n (gathered test class amount t)) 0 (le_trans (le_of_eq (tabulate_length n (gathered test class amount t))) h))) zero-le

  -- what a call that adds the amount of a number leaves, where no sum reaches 2^64
  pub gathered_add : (n t most : ℕ) → ((a : ℕ) → a < suc t → amount a ≤ most) → suc t * most < 2 ^ 64 → (cells after : List ℕ) (at v : ℕ)
      → cells ≡ tabulate n (gathered test class amount t) → test t ≡ true → class t < n → at ≡ class t → v ≡ amount t
      → after ≡ set cells at ((get_or cells at 0 + v) % 2 ^ 64) → after ≡ tabulate n (gathered test class amount (t + 1))
  gathered_add n t most few small cells after at v is path low there much e =
      let old : get_or cells (class t) 0 ≤ t * most = gathered_list_few n most t (class t) cells is (λ a l. few a (omega arith)) in
      let new : amount t ≤ most = few t (omega arith) in
      e ∙ ap₂ (λ (i x : ℕ). set cells i ((get_or cells i 0 + x) % 2 ^ 64)) there much
      ∙ gathered_more n t cells is low _
      (mod-eq_of_lt (omega arith) ∙ ap (λ (b : Bool). get_or cells (class t) 0 + cond b (amount t) 0) (sym path))
