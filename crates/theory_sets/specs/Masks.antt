-- Sets of parts as masks (01, "Structures"): the part at position i, from 1, is bit i - 1 of the mask.
use Rattle.std.specs.Prelude.{Bool, false, cond, ◌||◌, List, [], ◌∷◌, ◌++◌, ℕ, zero, suc, ◌-◌, ◌/◌, ◌%◌, ◌^◌, ◌≤◌, eqb, get_or}
use Rattle.std.specs.Int.Bits.{bit_and, bit_or}
use Rattle.std.specs.Int.Count.{ones}

-- bit i of the mask a is set: the part at position i + 1 is in the set
unfoldable pub has : ℕ → ℕ → Bool
has a i = eqb (a / 2 ^ i % 2) 1

-- the number of parts in a set
abbrev pub size : ℕ → ℕ
size a = ones a

-- the parts that two sets share
abbrev pub meet : ℕ → ℕ → ℕ
meet a b = bit_and a b

-- the parts that either of two sets has
abbrev pub join : ℕ → ℕ → ℕ
join a b = bit_or a b

-- the number of parts that a set has in a group, which is a set too, and outside it
abbrev pub inside : ℕ → ℕ → ℕ
inside group a = size (meet a group)

abbrev pub outside : ℕ → ℕ → ℕ
outside group a = size a - inside group a

-- the set a holds the set b: the parts that they share are all of b's
unfoldable pub holds : ℕ → ℕ → Bool
holds a b = eqb (meet a b) b

-- each number of the list is above the one before it, and the first is at least b
abbrev pub RisingFrom : ℕ → List ℕ → Type 0
RisingFrom b [] = Unit {0}
RisingFrom b (x ∷ xs) = (b ≤ x) × RisingFrom (suc x) xs

abbrev pub Rising : List ℕ → Type 0
Rising xs = RisingFrom 0 xs

-- some number below k passes the test
unfoldable pub any : (ℕ → Bool) → ℕ → Bool
any test zero = false
any test (suc k) = any test k || test k

-- the numbers below k that pass the test, rising
unfoldable pub those : (ℕ → Bool) → ℕ → List ℕ
those test zero = []
those test (suc k) = those test k ++ cond (test k) (k ∷ []) []

-- the smallest number below k that passes the test, and k where there is none
abbrev pub least : (ℕ → Bool) → ℕ → ℕ
least test k = get_or (those test k) 0 k
