-- The counts of the first blocks, where those behind them are in the states that a set of blocks says: they are few, and the next block joins
-- them by both of its rows. Assumes nothing.
use mathlib.Core.Path.{◌≡◌, refl, sym, ap, ap₂, ◌∙◌}
use mathlib.Core.Bool.{Bool}
use mathlib.Core.List.{List, []}
use mathlib.Core.Logic.{◌⊎◌, inl, inr}
use Prim.Native.Nat.{ℕ, suc, ◌+◌, ◌^◌, ◌≤◌, ◌<◌}
use native.Mathlib.Nat.{le_trans, lt_of_lt_of_le}
use native.Mathlib.Omega.{arith}
use lib.ListN.{length, get_or, get_or-eq_default}
use Rattle.numbers.specs.Counts.{choose}
use Rattle.numbers.specs.Tables.{tabulate, NoneOver}
use Rattle.numbers.proofs.Bounds.{below_or_above}
use Rattle.numbers.proofs.Tables.{tabulate_length, tabulate_at, tabulate_few}
use Rattle.theory_sums.proofs.Sums.{sum_below_term, sum_below_prefix}
use Rattle.theory_figures.proofs.Ranges.{choose_few}
use Rattle.structure_words.specs.Words.{in_words}
use Rattle.theory_blocks.specs.Blocks.{count_of_blocks, parts_in}
use Rattle.theory_blocks.proofs.Products.{product_same}
use Rattle.theory_blocks.proofs.Whole.{with_last, whole_same, whole_last, whole_most, whole_beyond}
use Rattle.blocks_checks.specs.Given.{size_at}
use Rattle.blocks.specs.Inside.{row_at, cells_of, joined_count, BothRows, Joining}

-- the counts of the first r blocks, and their list
abbrev pub counts_over : List ℕ → List (List ℕ) → ℕ → (ℕ → Bool) → ℕ → ℕ
counts_over sizes running r works = count_of_blocks (size_at sizes) (row_at running) r works

abbrev pub Counted : List ℕ → List (List ℕ) → ℕ → (ℕ → Bool) → List ℕ → Type 0
Counted sizes running r works counts = counts ≡ tabulate 17 (counts_over sizes running r works)

-- the structure of the first blocks, where those in the set above run and no other behind the first ones does
abbrev pub over : List ℕ → ℕ → ℕ → Bool
over words above a = in_words words (a + above)

module _ {sizes : List ℕ} {running stopped : List (List ℕ)} (both : BothRows sizes running stopped) where
  size_within : (b : ℕ) → b < length sizes → size_at sizes b ≤ 16
  size_within b below = le_trans (sum_below_term (size_at sizes) b (length sizes) below) both.few

  pub parts_within : (r : ℕ) → r ≤ length sizes → parts_in (size_at sizes) r ≤ 16
  parts_within r inside = le_trans (sum_below_prefix (size_at sizes) r (length sizes) inside) both.few

  module _ (r : ℕ) (inside : r ≤ length sizes) (works : ℕ → Bool) where
    most : (b : ℕ) → b < r → (j : ℕ) → row_at running b j ≤ choose (size_at sizes b) j
    most b below = both.most b (lt_of_lt_of_le below inside)

    pub counts_beyond : (j : ℕ) → parts_in (size_at sizes) r < j → counts_over sizes running r works j ≡ 0
    counts_beyond = whole_beyond (size_at sizes) (row_at running) r most works

    module _ (counts : List ℕ) (is : Counted sizes running r works counts) where
      pub counts_few : NoneOver 12870 counts
      counts_few =
          rw is (tabulate_few 17 (counts_over sizes running r works) 12870 (λ j.
          le_trans (whole_most (size_at sizes) (row_at running) r most works j) (choose_few (parts_in (size_at sizes) r) j (parts_within r inside))))

      pub counts_at_lem : (j : ℕ) → cells_of counts j ≡ counts_over sizes running r works j
      counts_at_lem j = ap (λ (xs : List ℕ). get_or xs j 0) is ∙ cases (below_or_above j 17)
        where
          cases : (j < 17) ⊎ (17 ≤ j) → get_or (tabulate 17 (counts_over sizes running r works)) j 0 ≡ counts_over sizes running r works j
          cases (inl l) = tabulate_at 17 _ j 0 l
          cases (inr l) =
              get_or-eq_default (tabulate 17 (counts_over sizes running r works)) 0 (rw (tabulate_length 17 (counts_over sizes running r works)) l)
              ∙ sym (counts_beyond j (omega (arith, parts_within r inside)))

  -- block `last` joins those before it
  module _ (last : ℕ) (below : last < length sizes) (words : List ℕ) (above aside : ℕ) (beside : aside ≡ above + 2 ^ last) (with without : List ℕ)
      (is-with : Counted sizes running last (over words aside) with) (is-without : Counted sizes running last (over words above) without) where
    before : last ≤ length sizes
    before = omega arith

    pub joins_small : Joining (size_at sizes last) (get_or running last []) (get_or stopped last []) with without
    joins_small = record {
      parts = size_within last below;
      most_running = both.most last below;
      most_stopped = λ i. omega (arith, both.rest last below i);
      few_with = counts_few last before (over words aside) with is-with;
      few_without = counts_few last before (over words above) without is-without;
    }

    pub joins_next : (k : ℕ) → joined_count (get_or running last []) (get_or stopped last []) with without k ≡ counts_over sizes running (suc last) (over words above) k
    unfolding joined_count
    joins_next k =
        ap₂ (λ (u v : ℕ). u + v)
        (product_same _ _ _ _ k (λ i l. refl) (λ i l. counts_at_lem last before (over words aside) with is-with i
        ∙ whole_same (size_at sizes) (row_at running) last (over words aside) (with_last last (over words above)) (λ a h.
        let moved : a + aside ≡ a + 2 ^ last + above = omega arith in ap (in_words words) moved) i))
        (product_same _ _ _ _ k (λ i l. both.rest last below i) (λ i l. counts_at_lem last before (over words above) without is-without i))
        ∙ sym (whole_last (size_at sizes) (row_at running) last (over words above) k)
