-- What is counted (01, "Counting"): from the number of parts, the path sets, a group and k alone.
use Rattle.std.specs.Prelude.{Bool, not, ◌&&◌, List, [], ◌∷◌, map, ℕ, ◌+◌, ◌-◌, eqb}
use Rattle.theory_sums.specs.Sums.{how_many, some}
use Rattle.theory_sets.specs.Masks.{has}
use Rattle.theory_orders.specs.Orders.{orders, mask}

-- an entry of an order: the positions before it, which fail earlier, its own position, and the positions after it
pub record Entry : Type 0 where
  pub before : List ℕ
  pub position : ℕ
  pub after : List ℕ

-- the entry as it is in the order with one more position in front
abbrev pub behind : ℕ → Entry → Entry
behind i entry = record { before = i ∷ entry.before; position = entry.position; after = entry.after }

-- the entries of an order
unfoldable pub entries : List ℕ → List Entry
entries [] = []
entries (i ∷ rest) = record { before = []; position = i; after = rest } ∷ map (behind i) (entries rest)

-- An entry "takes the system from working to stopped if the parts after it in the list are no path set and those parts together with it
-- are one".
unfoldable pub stops : (ℕ → Bool) → Entry → Bool
stops works entry = not (works (mask entry.after)) && works (mask (entry.position ∷ entry.after))

-- a position is in a group, which is a set of parts as a mask
unfoldable pub in_group : ℕ → ℕ → Bool
in_group group i = has group (i - 1)

-- the entry takes the system from working to stopped and is in the group, with exactly k - 1 parts of the group before it
unfoldable pub stops_as_kth : (ℕ → Bool) → ℕ → ℕ → Entry → Bool
stops_as_kth works group k entry =
    stops works entry && (in_group group entry.position && eqb (how_many (in_group group) entry.before + 1) k)

-- "The count for a group M and a number k is how many failure orders have that entry in M, with exactly k-1 parts of M before it."
unfoldable pub count : ℕ → (ℕ → Bool) → ℕ → ℕ → ℕ
count n works group k = how_many (λ order. some (stops_as_kth works group k) (entries order)) (orders n)
