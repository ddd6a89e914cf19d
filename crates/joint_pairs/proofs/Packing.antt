-- Lanes of 21 bits in a word, what marks a set, and the sums by size. Assumes nothing.
use mathlib.Core.Path.{◌≡◌, refl, sym, ap, ◌∙◌}
use mathlib.Core.Bool.{Bool, true, false, cond, ◌&&◌, and-true}
use mathlib.Core.List.{List}
use Prim.Native.Nat.{ℕ, zero, suc, ◌+◌, ◌*◌, ◌%◌, ◌^◌, ◌≤◌, ◌<◌, zero-le}
use native.Mathlib.Nat.{one-mul, zero-mul, le_trans, le_of_eq, lt_of_le_of_lt}
use native.Mathlib.Omega.{arith}
use lib.Count.{ones-le}
use lib.Dec.{eqb}
use lib.ListN.{length, get_or, set, replicate}
use borrow.Author.Tests.{eq-eqb}
use Rattle.numbers.specs.Tables.{tabulate, NoneOver}
use Rattle.numbers.proofs.Tables.{tabulate_at}
use Rattle.theory_sums.specs.Sums.{indicator, gathered}
use Rattle.theory_sums.proofs.Sums.{sum_below_prefix}
use Rattle.theory_sums.proofs.Gathering.{gathered_none, gathered_step, gathered_more}
use Rattle.theory_sets.specs.Masks.{size}
use Rattle.joint_pairs.specs.Inside.{cell_of, cells_by_size, Fits}

-- each of the three lanes begins within a word
pub lane_fits : (x : ℕ) → x < 3 → 1 * 2 ^ (21 * x) % 2 ^ 64 ≡ 2 ^ (21 * x)
lane_fits zero h = refl
lane_fits (suc zero) h = refl
lane_fits (suc (suc zero)) h = refl
lane_fits (suc (suc (suc x))) h = absurd (omega arith)

-- ---- sums by size

pub bit_times : (b : Bool) (x : ℕ) → indicator b * x ≡ cond b x 0
bit_times true x = one-mul x
bit_times false x = zero-mul x

pub bit_few : (b : Bool) (x most : ℕ) → x ≤ most → indicator b * x ≤ most
bit_few true x most h = le_trans (le_of_eq (one-mul x)) h
bit_few false x most h = le_trans (le_of_eq (zero-mul x)) zero-le

-- where all sums fit a word, so does each on the way
pub sum_fits : (works : ℕ → Bool) (cells : List ℕ) → Fits works cells → (b : ℕ) → b < length cells
    → cells_by_size works cells b (size b) + indicator (works b) * get_or cells b 0 < 2 ^ 64
unfolding gathered cell_of
sum_fits works cells fits b h =
    lt_of_le_of_lt
    (le_trans (le_of_eq step) (sum_below_prefix (λ a. cond (works a && eqb (size a) (size b)) (get_or cells a 0) 0) (b + 1) (length cells) (omega arith)))
    (fits (size b))
  where
    step : cells_by_size works cells b (size b) + indicator (works b) * get_or cells b 0 ≡ cells_by_size works cells (b + 1) (size b)
    step =
        ap (λ (u : ℕ). cells_by_size works cells b (size b) + u)
        (bit_times (works b) (get_or cells b 0) ∙ ap (λ (t : Bool). cond t (get_or cells b 0) 0) (sym (ap (λ (t : Bool). works b && t) (eq-eqb (size b) (size b) refl) ∙ and-true (works b))))
        ∙ sym (gathered_step works size (λ a. get_or cells a 0) b (size b))

pub size_few : (a : ℕ) → a < 65536 → size a ≤ 16
size_few a h = ones-le 16 a h

pub mark_few : (b : Bool) (lanes : List ℕ) (s : ℕ) → NoneOver (2 ^ 42) lanes → indicator b * get_or lanes s 0 ≤ 2 ^ 42
mark_few b lanes s few = bit_few b (get_or lanes s 0) (2 ^ 42) (few s)

-- ---- the sums as a loop over the cells leaves them

pub sums_none : (works : ℕ → Bool) (cells : List ℕ) → replicate 17 0 ≡ tabulate 17 (cells_by_size works cells 0)
unfolding tabulate
sums_none works cells = gathered_none works size (cell_of cells) 17

module _ (works : ℕ → Bool) (cells sums : List ℕ) (b : ℕ) (is : sums ≡ tabulate 17 (cells_by_size works cells b)) (low : b < 65536) where
  small : size b < 17
  small = omega (arith, ones-le 16 b low)

  held : get_or sums (size b) 0 ≡ cells_by_size works cells b (size b)
  held = ap (λ (xs : List ℕ). get_or xs (size b) 0) is ∙ tabulate_at 17 (cells_by_size works cells b) (size b) 0 small

  pub sum_room : Fits works cells → b < length cells → get_or sums (size b) 0 + indicator (works b) * get_or cells b 0 < 2 ^ 64
  sum_room fits h =
      lt_of_le_of_lt (le_of_eq (ap (λ (x : ℕ). x + indicator (works b) * get_or cells b 0) held)) (sum_fits works cells fits b h)

  pub sum_more : set sums (size b) (get_or sums (size b) 0 + indicator (works b) * get_or cells b 0) ≡ tabulate 17 (cells_by_size works cells (b + 1))
  unfolding cell_of
  sum_more =
      gathered_more works size (cell_of cells) 17 b sums is small _
      (ap (λ (x : ℕ). get_or sums (size b) 0 + x) (bit_times (works b) (get_or cells b 0)))

-- ---- what search is told

-- of a cell that is added
pub ruleset adding = (sums_none, sum_room, sum_more, size_few)
