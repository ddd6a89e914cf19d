-- What demand 3 promises of a call (01, "Counting").
use Rattle.std.specs.Prelude.{Bool, List, ◌≡◌, ℕ, suc, ℤ, pos, take, Ok}
use Rattle.answer.specs.Outcome.{Outcome, Numbered}
use Rattle.numbers.specs.Tables.{tabulate}
use Rattle.theory_sets.specs.Masks.{size}
use Rattle.theory_orders.specs.Counting.{count}

-- the counts of failure orders for a group of m parts and k = 1..m
unfoldable pub group_counts : ℕ → (ℕ → Bool) → ℕ → List ℤ
group_counts n works group = tabulate (size group) (λ k. pos (count n works group (suc k)))

-- it gives m shares, which are the first m cells of the lent buffer, and for each k from 1 to m the k-th is the count for the group and k
pub record GivesCounts (n : ℕ) (works : ℕ → Bool) (group : ℕ) (call : Outcome Numbered (List ℤ)) : Type 0 where
  pub given : call.answer ≡ Ok (size group)
  pub shares : take (size group) call.buffer ≡ group_counts n works group
