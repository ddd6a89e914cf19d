-- Rows of 17 numbers, one for each block: what stands in a row, and the rows as a loop leaves them. Assumes nothing.
use mathlib.Core.Path.{◌≡◌, refl, sym, ap, ap₂, ◌∙◌}
use mathlib.Core.Bool.{Bool, cond}
use mathlib.Core.List.{List, []}
use mathlib.Core.Logic.{◌⊎◌, inl, inr}
use Prim.Native.Nat.{ℕ, ◌+◌, ◌≤◌, ◌<◌}
use native.Mathlib.Nat.{le_trans, div-one}
use native.Mathlib.Omega.{arith}
use lib.IntN.{ℤ, pos, nat_abs}
use lib.ListN.{length, get_or, take, drop, replicate, get_or-replicate, get_or-append, get_or-eq_default}
use borrow.Author.Tests.{lt-ltb, le-ltb}
use Rattle.numbers.specs.Tables.{tabulate}
use Rattle.numbers.proofs.Bounds.{below_or_above}
use Rattle.numbers.proofs.Tables.{tabulate_at, tabulate_length, tabulate_same, tabulate_unique, filled, filled_none, filled_again, filled_from, filled_length, filled_rest}
use Rattle.theory_sums.specs.Sums.{sum_below}
use Rattle.vector_conversion.specs.Vectors.{scaled_count, unit_of}
use Rattle.blocks_checks.specs.Given.{size_at, start_of, block_counts}
use Rattle.blocks_checks.proofs.Given.{start_next, start_inside}
use Rattle.blocks.specs.Inside.{row_in, rows_of, row_at, count_at, stopped_of, stopped_at}

-- what stands in a row
pub row_at_lem : (rows : List (List ℕ)) (b j : ℕ) → row_at rows b j ≡ get_or (get_or rows b []) j 0
row_at_lem rows b j = refl

module _ (r : ℕ) (f : ℕ → ℕ → ℕ) where
  -- the row of a block
  pub row_here : (b : ℕ) → b < r → row_in r f b ≡ tabulate 17 (f b)
  unfolding row_in
  row_here b below = ap (λ (t : Bool). cond t (tabulate 17 (f b)) (replicate 17 0)) (lt-ltb b r below)

  -- rows that are filled, and zeros behind them
  pub rows_filled : r ≤ 16 → filled (row_in r f) (replicate 16 (replicate 17 0)) r ≡ rows_of r f
  unfolding row_in
  rows_filled few =
      tabulate_unique 16 (row_in r f) (filled (row_in r f) (replicate 16 (replicate 17 0)) r) [] (filled_length (row_in r f) (replicate 16 (replicate 17 0)) r few)
      (λ b h. cases b h (below_or_above b r))
    where
      cases : (b : ℕ) → b < 16 → (b < r) ⊎ (r ≤ b) → get_or (filled (row_in r f) (replicate 16 (replicate 17 0)) r) b [] ≡ row_in r f b
      cases b h (inl l) =
          get_or-append (tabulate r (row_in r f)) (drop r (replicate 16 (replicate 17 0))) [] b (rw (tabulate_length r (row_in r f)) l)
          ∙ tabulate_at r (row_in r f) b [] l
      cases b h (inr l) =
          filled_from (row_in r f) (replicate 16 (replicate 17 0)) r b [] l ∙ get_or-replicate 16 b (replicate 17 0) [] h
          ∙ ap (λ (t : Bool). cond t (tabulate 17 (f b)) (replicate 17 0)) (sym (le-ltb b r l))

  -- the row of a block, of numbers that end with the row
  pub rows_row : r ≤ 16 → (rows : List (List ℕ)) → rows ≡ rows_of r f → (b : ℕ) → b < r → ((j : ℕ) → 17 ≤ j → f b j ≡ 0) → (j : ℕ) → row_at rows b j ≡ f b j
  rows_row few rows is b below ends j =
      row_at_lem rows b j ∙ ap (λ (xs : List (List ℕ)). get_or (get_or xs b []) j 0) is
      ∙ ap (λ (xs : List ℕ). get_or xs j 0) (tabulate_at 16 (row_in r f) b [] (omega arith) ∙ row_here b below) ∙ cases (below_or_above j 17)
    where
      cases : (j < 17) ⊎ (17 ≤ j) → get_or (tabulate 17 (f b)) j 0 ≡ f b j
      cases (inl l) = tabulate_at 17 (f b) j 0 l
      cases (inr l) = get_or-eq_default (tabulate 17 (f b)) 0 (rw (tabulate_length 17 (f b)) l) ∙ sym (ends j l)

-- the row of a block that runs, as its vector gives it
pub counts_here : (sizes : List ℕ) (vectors : List ℤ) (b start len : ℕ) (row : List ℕ) → b < length sizes → start ≡ start_of sizes b
    → len ≡ size_at sizes b + 1 → row ≡ tabulate 17 (count_at (take len (drop start vectors)))
    → row_in (length sizes) (block_counts sizes vectors) b ≡ row
unfolding scaled_count unit_of count_at
counts_here sizes vectors b start len row below at long is =
    row_here (length sizes) (block_counts sizes vectors) b below
    ∙ tabulate_same 17 (block_counts sizes vectors b) (count_at (take len (drop start vectors))) (λ j h.
    div-one _ ∙ ap₂ (λ (n s : ℕ). nat_abs (get_or (take n (drop s vectors)) j (pos 0))) (sym long) (sym at))
    ∙ sym is

-- the vector of each block ends in the list
pub vector_inside : (sizes : List ℕ) (b : ℕ) → b < length sizes
    → (start_of sizes b ≡ start_of sizes b) × ((start_of sizes b + size_at sizes b + 1 ≤ start_of sizes (length sizes)) × (start_of sizes (b + 1) ≡ start_of sizes b + size_at sizes b + 1))
vector_inside sizes b below = (refl, (start_inside sizes b (length sizes) below, start_next sizes b))

pub start_none : (sizes : List ℕ) → start_of sizes 0 ≡ 0
unfolding start_of sum_below
start_none sizes = refl

-- counts that are filled up to the end of the vector, and zeros behind them
pub counts_filled : (vector : List ℤ) (n : ℕ) → length vector ≤ 17 → length vector ≤ n → n ≤ length vector
    → filled (count_at vector) (replicate 17 0) n ≡ tabulate 17 (count_at vector)
unfolding count_at
counts_filled vector n few all most =
    filled_rest (count_at vector) (replicate 17 0) n 17 refl (le_trans most few) (λ j h l.
    ap nat_abs (get_or-eq_default vector (pos 0) (le_trans all h)) ∙ sym (get_or-replicate 17 j 0 0 l))

-- the row of a block that is stopped
pub stopped_here : (sizes : List ℕ) (running : List (List ℕ)) (b : ℕ) → b < length sizes
    → row_in (length sizes) (stopped_at sizes running) b ≡ tabulate 17 (stopped_of (size_at sizes b) (get_or running b []))
unfolding stopped_at
stopped_here sizes running b below = row_here (length sizes) (stopped_at sizes running) b below

-- ---- what search is told

-- of the rows of blocks that run
pub ruleset running = (filled_none, filled_again, rows_filled, counts_here, vector_inside, start_none)

-- of the counts in one of them
pub ruleset counting = (filled_none, filled_again, counts_filled)

-- of the rows of blocks that are stopped
pub ruleset stopping = (filled_none, filled_again, rows_filled, stopped_here)
