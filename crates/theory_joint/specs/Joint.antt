-- Two machines on one cart (02, §5): of the orders in which n parts fail, in how many the k-th failure stops the first machine and the l-th the
-- second. Both machines are structures of the same n parts. Counted from n, the two set functions, k and l alone.
use Rattle.std.specs.Prelude.{Bool, ◌&&◌, List, ℕ, suc, ◌+◌, ◌-◌, ◌*◌, ◌/◌, ◌%◌, ◌^◌, get_or}
use Rattle.numbers.specs.Tables.{tabulate}
use Rattle.theory_sums.specs.Sums.{how_many, some}
use Rattle.theory_orders.specs.Orders.{orders}
use Rattle.theory_orders.specs.Counting.{entries, stops_as_kth}

-- the k-th failure of an order stops the machine: one machine's own notion (01, "Counting"), with all n parts as the group
unfoldable pub stopped_by : ℕ → (ℕ → Bool) → ℕ → List ℕ → Bool
stopped_by n works k order = some (stops_as_kth works (2 ^ n - 1) k) (entries order)

-- "in how many of the n! failure orders does the k-th failure stop the first and the l-th the second"
unfoldable pub joint_count : ℕ → (ℕ → Bool) → (ℕ → Bool) → ℕ → ℕ → ℕ
joint_count n first second k l = how_many (λ order. stopped_by n first k order && stopped_by n second l order) (orders n)

-- "the square of counts (k, l), in cell (k-1) × n + l-1"
unfoldable pub joint_square : ℕ → (ℕ → Bool) → (ℕ → Bool) → List ℕ
joint_square n first second = tabulate (n * n) (λ cell. joint_count n first second (suc (cell / n)) (suc (cell % n)))

-- the cell of k and l in a list of n × n numbers
abbrev pub cell_of : ℕ → List ℕ → ℕ → ℕ → ℕ
cell_of n square k l = get_or square ((k - 1) * n + (l - 1)) 0
