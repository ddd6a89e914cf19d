-- The table form of a structure (01, "Structures").
use Rattle.std.specs.Prelude.{Bool, cond, ◌&&◌, List, ℕ, zero, suc, ◌+◌, ◌*◌, ◌/◌, ◌%◌, ◌^◌, max, ltb, get_or}
use Rattle.numbers.specs.Tables.{tabulate}
use Rattle.theory_sets.specs.Masks.{has}

-- the number whose bit i, for i below k, is `bit i`
unfoldable pub packed : ℕ → (ℕ → Bool) → ℕ
packed zero bit = 0
packed (suc k) bit = cond (bit 0) 1 0 + 2 * packed k (λ i. bit (suc i))

-- mask a stands at byte a/8 rounded down, bit a mod 8; a bit outside the table is 0
unfoldable pub in_table : List ℕ → ℕ → Bool
in_table table a = has (get_or table (a / 8) 0) (a % 8)

-- a table's bytes: 2^n bits, and one byte for n = 1 and 2
abbrev pub table_length : ℕ → ℕ
table_length n = max 1 (2 ^ n / 8)

-- the table of a structure, its unused bits zero
unfoldable pub table_of : ℕ → (ℕ → Bool) → List ℕ
table_of n works = tabulate (table_length n) (λ b. packed 8 (λ i. ltb (8 * b + i) (2 ^ n) && works (8 * b + i)))
