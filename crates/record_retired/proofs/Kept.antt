-- Laws of the last 64 of a list.
-- Assumes nothing.
use mathlib.Core.Path.{◌≡◌, sym, ap, ◌∙◌}
use mathlib.Core.List.Memᴰ
use mathlib.Core.List.{List, [], ◌∷◌}
use mathlib.Core.Logic.{⊎_elim}
use Prim.Native.Nat.{ℕ, zero, suc, ◌-◌, ◌≤◌, ◌<◌}
use native.Mathlib.Omega.{arith}
use lib.ListN.{length, drop, length-append, length-drop}
use Rattle.numbers.proofs.Bounds.{below_or_above}
use Rattle.codec.specs.ByteForm.{bytes_of, forms_of}
use Rattle.record_numbers.specs.Numbering.{RisingWithin}
use Rattle.record_parts.specs.Lines.{In}
use Rattle.record_parts.proofs.Numbers.{rising_wider}
use Rattle.record_retired.specs.Retired.{most_retired, inserted, kept}
use Rattle.record_retired.proofs.Inserted.{inserted_front, inserted_behind, inserted_length, inserted_first, Ordered, ordered_lower}

-- ---- how many

pub kept_length : (list : List ℕ) → length (kept list) ≡ length list - (length list - most_retired)
unfolding kept
kept_length list = length-drop (length list - most_retired) list

-- never more than 64
pub kept_most : (list : List ℕ) → length (kept list) ≤ most_retired
kept_most list = omega (arith, kept_length list)

-- and of 64 or more just 64
pub kept_full : (list : List ℕ) → most_retired ≤ length list → length (kept list) ≡ most_retired
kept_full list many = omega (arith, kept_length list)

-- up to 64 are all kept
pub kept_few : (list : List ℕ) → length list ≤ most_retired → kept list ≡ list
unfolding kept
kept_few list few = let none : length list - most_retired ≡ 0 = omega arith in rw none

-- and of more, the first is not
pub kept_past : (number : ℕ) (list : List ℕ) → most_retired ≤ length list → kept (number ∷ list) ≡ kept list
unfolding kept
kept_past number list many =
    let more : length (number ∷ list) - most_retired ≡ suc (length list - most_retired) = omega arith in
    ap (λ (n : ℕ). drop n (number ∷ list)) more

-- ---- what holds of all numbers holds of the last

in_drop : (n : ℕ) (list : List ℕ) {number : ℕ} → In number (drop n list) → In number list
in_drop zero list i = i
in_drop (suc n) [] i = i
in_drop (suc n) (x ∷ xs) i = Memᴰ.tail (in_drop n xs i)

pub in_kept : (list : List ℕ) {number : ℕ} → In number (kept list) → In number list
unfolding kept
in_kept list i = in_drop (length list - most_retired) list i

rising_drop : (n low high : ℕ) (list : List ℕ) → RisingWithin low high list → RisingWithin low high (drop n list)
rising_drop zero low high list r = r
rising_drop (suc n) low high [] r = tt
rising_drop (suc n) low high (x ∷ xs) r =
    rising_wider x high low high (drop n xs) (omega (arith, r.0)) (omega arith) (rising_drop n x high xs r.2)

pub rising_kept : (low high : ℕ) (list : List ℕ) → RisingWithin low high list → RisingWithin low high (kept list)
unfolding kept
rising_kept low high list r = rising_drop (length list - most_retired) low high list r

ordered_drop : (n low : ℕ) (list : List ℕ) → Ordered low list → Ordered low (drop n list)
ordered_drop zero low list o = o
ordered_drop (suc n) low [] o = tt
ordered_drop (suc n) low (x ∷ xs) o = ordered_lower x low (drop n xs) o.0 (ordered_drop n x xs o.1)

pub ordered_kept : (low : ℕ) (list : List ℕ) → Ordered low list → Ordered low (kept list)
unfolding kept
ordered_kept low list o = ordered_drop (length list - most_retired) low list o

forms_drop : (n : ℕ) (list : List ℕ) → length (forms_of (drop n list)) ≤ length (forms_of list)
unfolding forms_of
forms_drop zero list = omega arith
forms_drop (suc n) [] = omega arith
forms_drop (suc n) (x ∷ xs) = omega (arith, forms_drop n xs, length-append (bytes_of x) (forms_of xs))

pub forms_kept : (list : List ℕ) → length (forms_of (kept list)) ≤ length (forms_of list)
unfolding kept
forms_kept list = forms_drop (length list - most_retired) list

-- ---- a number more

-- a number put into more than 64 in order leaves what it leaves without the first of them
past : (number other : ℕ) (list : List ℕ) → most_retired ≤ length list → Ordered other list → kept (inserted number (other ∷ list)) ≡ kept (inserted number list)
past number other list many o = ⊎_elim front behind (below_or_above number other)
  where
    front : number < other → kept (inserted number (other ∷ list)) ≡ kept (inserted number list)
    front h =
        ap kept (inserted_front number other list h) ∙ kept_past number (other ∷ list) (omega arith) ∙ kept_past other list many
        ∙ sym (ap kept (inserted_first other number list h o) ∙ kept_past number list many)

    behind : other ≤ number → kept (inserted number (other ∷ list)) ≡ kept (inserted number list)
    behind h = ap kept (inserted_behind number other list h) ∙ kept_past other (inserted number list) (omega (arith, inserted_length number list))

-- so a number put into the last 64 leaves what it would leave of all
pub kept_inserted : (low number : ℕ) (list : List ℕ) → Ordered low list → kept (inserted number (kept list)) ≡ kept (inserted number list)
kept_inserted low number [] o = ap (λ (l : List ℕ). kept (inserted number l)) (kept_few [] (omega arith))
kept_inserted low number (x ∷ xs) o = ⊎_elim few (many (kept_inserted x number xs o.1)) (below_or_above (length xs) most_retired)
  where
    few : length xs < most_retired → kept (inserted number (kept (x ∷ xs))) ≡ kept (inserted number (x ∷ xs))
    few h = ap (λ (l : List ℕ). kept (inserted number l)) (kept_few (x ∷ xs) h)

    many : kept (inserted number (kept xs)) ≡ kept (inserted number xs) → most_retired ≤ length xs → kept (inserted number (kept (x ∷ xs))) ≡ kept (inserted number (x ∷ xs))
    many later h = ap (λ (l : List ℕ). kept (inserted number l)) (kept_past x xs h) ∙ later ∙ sym (past number x xs h o.1)
