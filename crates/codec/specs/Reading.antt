-- What reading a number at a position finds (01, "Records on disk", and refusals 21 and 22).
use Rattle.std.specs.Prelude.{Bool, true, false, cond, List, [], ◌∷◌, ℕ, zero, suc, ◌+◌, ◌*◌, ◌%◌, ◌^◌, leb, ltb, eqb, length, take, drop}
use Rattle.answer.specs.declared.Reason.TheVariants.{EndOfBytes, WrongNumber}
use Rattle.answer.specs.Outcome.{at}
use Rattle.codec.specs.Fields.{groups, top}
use Rattle.codec.specs.declared.Field.{Field}
use Rattle.codec.specs.Reads.{Read, found, refused}

-- how many bytes in front have bit 7 set, each of them with a group to follow
abbrev pub carried : List ℕ → ℕ
carried [] = 0
carried (byte ∷ bytes) = cond (ltb byte 128) 0 (suc (carried bytes))

-- what groups stand for, lowest first: seven bits of each byte
abbrev pub value_of : List ℕ → ℕ
value_of [] = 0
value_of (byte ∷ bytes) = byte % 128 + 128 * value_of bytes

-- the least number that takes so many groups after its first: below it the form is not the shortest
abbrev pub least : ℕ → ℕ
least zero = 0
least (suc more) = 128 ^ suc more

-- one check of a number: where its condition holds it refuses, and else what comes later decides
abbrev pub check : Bool → Read ℕ → Read ℕ → Read ℕ
check true refusal later = refusal
check false refusal later = later

-- a number whose last byte is found: 22 where it is not shortest, or over its top value
abbrev pub ended : ℕ → ℕ → ℕ → ℕ → ℕ → Read ℕ
ended value low high start next =
    check (ltb value low) (refused (at WrongNumber start)) (check (ltb high value) (refused (at WrongNumber start)) (found value next))

-- The number of at most `most` groups, and `high` at most, in front of `window`: the bytes from its first on, `most` of them or fewer
-- where the input ends. 22 where the last allowed byte has bit 7 set, 21 where the bytes end before the number does.
unfoldable pub number_in : ℕ → ℕ → List ℕ → ℕ → ℕ → Read ℕ
number_in most high window start total =
    check (eqb (carried window) most) (refused (at WrongNumber start))
    (check (leb (length window) (carried window)) (refused (at EndOfBytes total))
    (ended (value_of (take (suc (carried window)) window)) (least (carried window)) high start (start + suc (carried window))))

-- the number of a field whose first byte is at that position
unfoldable pub number_at : List ℕ → ℕ → Field → Read ℕ
number_at bytes start field = number_in (groups field) (top field) (take (groups field) (drop start bytes)) start (length bytes)
