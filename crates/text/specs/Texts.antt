-- Text as bytes of ASCII.
use Rattle.std.specs.Prelude.{true, false, List, [], ◌∷◌, ◌++◌, ℕ, zero, suc, ◌+◌, ◌/◌, ◌%◌, ltb, ℤ, pos, negsuc}
use Prim.Native.Char.{code}
use Prim.Native.String.{String, [] as none, ◌∷◌ as ◌then◌}

-- the bytes of a text of ASCII
abbrev pub ascii : String → List ℕ
ascii none = []
ascii (letter then letters) = code letter ∷ ascii letters

-- A number in decimal digits, the most significant first: a number below 10 is one digit, and any other has the digits of its tenth and
-- then its last one. At most `more` of them stand in front of the last.
unfoldable pub spelled : ℕ → ℕ → List ℕ
spelled zero n = (48 + n) ∷ []
spelled (suc more) n =
    elim (ltb n 10) [ true ↦ (48 + n) ∷ [] | false ↦ spelled more (n / 10) ++ ((48 + n % 10) ∷ []) ]

-- its own value is more than enough for the digits in front
unfoldable pub decimal : ℕ → List ℕ
decimal n = spelled n n

-- an integer, with a minus sign in front of a negative one
unfoldable pub signed : ℤ → List ℕ
signed (pos n) = decimal n
signed (negsuc n) = 45 ∷ decimal (suc n)

-- lines 1 to n, one after the other
unfoldable pub lines : (ℕ → List ℕ) → ℕ → List ℕ
lines line zero = []
lines line (suc n) = lines line n ++ line (suc n)
