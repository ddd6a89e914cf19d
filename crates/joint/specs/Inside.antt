-- What the private functions do: a reader of the promises may pass this file over.
use Rattle.std.specs.Prelude.{Bool, cond, List, ◌≡◌, ℕ, ◌+◌, ◌-◌, ◌*◌, ◌/◌, ◌%◌, ◌≤◌, leb, get_or}
use Rattle.numbers.specs.Counts.{factorial}
use Rattle.numbers.specs.Tables.{tabulate}
use Rattle.theory_sets.specs.Structures.{Semicoherent}
use Rattle.theory_joint.specs.Formula.{nested_pairs}

-- the pairs of two machines by the sizes of both sets, in rows of 17
abbrev pub pairs_by_size : ℕ → (ℕ → Bool) → (ℕ → Bool) → List ℕ
pairs_by_size n outer inner = tabulate 289 (λ c. nested_pairs n outer inner (c / 17) (c % 17))

-- two lists are the pairs of some two machines: with the other's set within the one's, and with it around the one's
pub record Counted (n : ℕ) (within around : List ℕ) : Type 0 where
  pub few : n ≤ 16
  pub one : ℕ → Bool
  pub other : ℕ → Bool
  pub one_coherent : Semicoherent n one
  pub other_coherent : Semicoherent n other
  pub is_within : within ≡ pairs_by_size n one other
  pub is_around : around ≡ pairs_by_size n other one

-- the joint tail by the pairs
unfoldable pub tail_by : ℕ → List ℕ → List ℕ → ℕ → ℕ → ℕ
tail_by n within around k l =
    cond (leb k l) (get_or within (17 * (n - k) + (n - l)) 0 * (factorial k * factorial (l - k) * factorial (n - l)))
    (get_or around (17 * (n - l) + (n - k)) 0 * (factorial l * factorial (k - l) * factorial (n - k)))

-- the difference of tails
unfoldable pub cell_by : ℕ → List ℕ → List ℕ → ℕ → ℕ → ℕ
cell_by n within around k l = tail k l + tail (k + 1) (l + 1) - (tail (k + 1) l + tail k (l + 1))
  where
    tail : ℕ → ℕ → ℕ
    tail = tail_by n within around
