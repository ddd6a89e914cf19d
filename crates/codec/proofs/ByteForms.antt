-- Laws of the byte form of a number: what its groups are, and how many. Each goes by the groups: a number below 128 is its own group,
-- any other has a lowest group and, after it, the form of the number divided by 128.
-- Assumes nothing.
use mathlib.Core.Path.{◌≡◌, refl, sym, ap, ◌∙◌}
use mathlib.Core.List.{List, [], ◌∷◌}
use mathlib.Core.Logic.{⊎_elim}
use Prim.Native.Nat.{ℕ, zero, suc, ◌+◌, ◌*◌, ◌/◌, ◌%◌, ◌^◌, ◌≤◌, ◌<◌, max}
use native.Mathlib.Nat.{le_refl, pow-suc, pow-succ', one-le-pow, mul-suc, zero-lt-suc}
use native.Mathlib.Omega.{arith}
use borrow.Author.Tests.{lt-ltb, le-ltb}
use native.Mathlib.Numerals.{add-one}
use lib.Pow.{pow_pos, pow_mono, pow-add}
use lib.ListN.{length, get_or, set, length-append}
use lib.Seq.{sets}
use Rattle.numbers.proofs.Bounds.{below_or_above}
use Rattle.codec.specs.ByteForm.{grouped, bytes_of, forms_of}

-- what holds of every single group, and of a number where it holds of what is left without the lowest group, holds of every number
pub by_groups : (P : ℕ → Type 0) → ((v : ℕ) → v < 128 → P v) → ((v : ℕ) → 128 ≤ v → P (v / 128) → P v) → (v : ℕ) → P v
by_groups P one more v = go v v (le_refl v)
  where
    go : (steps v : ℕ) → v ≤ steps → P v
    go zero v h = one v (omega arith)
    go (suc steps) v h =
        let rest : 128 ≤ v → P (v / 128) = λ g. go steps (v / 128) (omega arith) in
        ⊎_elim (λ g. one v g) (λ g. more v g (rest g)) (below_or_above v 128)

grouped_small : (more v : ℕ) → v < 128 → grouped more v ≡ v ∷ []
unfolding grouped
grouped_small zero v h = refl
grouped_small (suc more) v h = rw (lt-ltb v 128 h, grouped)

grouped_large : (more v : ℕ) → 128 ≤ v → grouped (suc more) v ≡ (v % 128 + 128) ∷ grouped more (v / 128)
unfolding grouped
grouped_large more v h = rw (le-ltb v 128 h, grouped)

-- as many steps as the number is large are enough, and more change nothing
grouped_enough : (more less v : ℕ) → v ≤ more → v ≤ less → grouped more v ≡ grouped less v
grouped_enough zero less v h g = grouped_small zero v (omega arith) ∙ sym (grouped_small less v (omega arith))
grouped_enough (suc more) zero v h g = grouped_small (suc more) v (omega arith) ∙ sym (grouped_small zero v (omega arith))
grouped_enough (suc more) (suc less) v h g =
    let rest : 128 ≤ v → grouped more (v / 128) ≡ grouped less (v / 128) =
    λ l. grouped_enough more less (v / 128) (omega arith) (omega arith) in
    ⊎_elim (λ l. grouped_small (suc more) v l ∙ sym (grouped_small (suc less) v l))
    (λ l. grouped_large more v l ∙ ap (λ (r : List ℕ). (v % 128 + 128) ∷ r) (rest l) ∙ sym (grouped_large less v l))
    (below_or_above v 128)

-- a number below 128 is its own group
pub bytes_small : (v : ℕ) → v < 128 → bytes_of v ≡ v ∷ []
unfolding bytes_of
bytes_small v h = grouped_small v v h

-- any other is its lowest group with bit 7 set, and then the form of what is left
pub bytes_large : (v : ℕ) → 128 ≤ v → bytes_of v ≡ (v % 128 + 128) ∷ bytes_of (v / 128)
unfolding bytes_of
bytes_large zero h = absurd (omega arith)
bytes_large (suc v) h =
    grouped_large v (suc v) h
    ∙ ap (λ (r : List ℕ). (suc v % 128 + 128) ∷ r)
    (grouped_enough v (suc v / 128) (suc v / 128) (omega arith) (le_refl (suc v / 128)))

-- a form is never empty
pub bytes_some : (v : ℕ) → 1 ≤ length (bytes_of v)
bytes_some = by_groups (λ v. 1 ≤ length (bytes_of v)) (λ v h. rw (bytes_small v h) (omega arith)) (λ v h ih. rw (bytes_large v h) (omega arith))

-- a number below 128 to a power takes at most so many groups
pub bytes_at_most : (most v : ℕ) → 1 ≤ most → v < 128 ^ most → length (bytes_of v) ≤ most
bytes_at_most zero v some h = absurd (omega arith)
bytes_at_most (suc zero) v some h = rw (bytes_small v h) (le_refl 1)
bytes_at_most (suc (suc k)) v some h =
    let rest : length (bytes_of (v / 128)) ≤ suc k = bytes_at_most (suc k) (v / 128) (omega arith) (omega (arith, h, pow-suc 128 (suc k))) in
    ⊎_elim (λ l. rw (bytes_small v l) (omega arith)) (λ l. rw (bytes_large v l) (omega arith)) (below_or_above v 128)

-- how many groups: one, or one more than what is left takes
pub length_small : (v : ℕ) → v < 128 → length (bytes_of v) ≡ 1
length_small v h = ap length (bytes_small v h)

pub length_large : (v : ℕ) → 128 ≤ v → length (bytes_of v) ≡ suc (length (bytes_of (v / 128)))
length_large v h = ap length (bytes_large v h)

-- and one that is not below it takes more
bytes_at_least : (k v : ℕ) → 128 ^ k ≤ v → k < length (bytes_of v)
bytes_at_least zero v h = bytes_some v
bytes_at_least (suc k) v h =
    let large : 128 ≤ v = omega (arith, pow-succ' 128 k, one-le-pow k 128 (zero-lt-suc 127)) in
    omega (arith, length_large v large, bytes_at_least k (v / 128) (omega (arith, h, pow-succ' 128 k)))

-- so a number takes a byte for each seven bits, and 0 takes one
pub length_by_bits : (v k : ℕ) → 2 ^ k ≤ max v 1 → max v 1 < 2 * 2 ^ k → k / 7 + 1 ≡ length (bytes_of v)
length_by_bits v k h l = ⊎_elim none some (below_or_above v 1)
  where
    sevens : (n : ℕ) → 128 ^ n ≡ 2 ^ (7 * n)
    sevens zero = refl
    sevens (suc n) = pow-succ' 128 n ∙ ap (λ (x : ℕ). 128 * x) (sevens n) ∙ sym (pow-add 2 7 (7 * n)) ∙ ap (λ (x : ℕ). 2 ^ x) (omega arith)

    none : v < 1 → k / 7 + 1 ≡ length (bytes_of v)
    none z = omega (arith, length_small v (omega arith), power k (omega (arith, h)))
      where
        power : (k : ℕ) → 2 ^ k ≤ 1 → k ≡ 0
        power zero h = refl
        power (suc k) h = absurd (omega (arith, pow-succ' 2 k, pow_pos k))

    some : 1 ≤ v → k / 7 + 1 ≡ length (bytes_of v)
    some g =
        let first : 2 ^ (7 * (k / 7)) ≤ 2 ^ k = pow_mono (omega arith) in
        let next : 2 ^ suc k ≤ 2 ^ (7 * suc (k / 7)) = pow_mono (omega arith) in
        omega (arith, bytes_at_least (k / 7) v (omega (arith, sevens (k / 7), first)), bytes_at_most (suc (k / 7)) v (omega arith) (omega (arith, sevens (suc (k / 7)), next, pow-succ' 2 k)))

-- a number of more than one group is large, and one of a single group is small
pub large_by_length : (v : ℕ) → 2 ≤ length (bytes_of v) → 128 ≤ v
large_by_length v h = ⊎_elim (λ small. absurd (omega (arith, length_small v small))) (λ large. large) (below_or_above v 128)

pub small_by_length : (v : ℕ) → length (bytes_of v) ≤ 1 → v < 128
small_by_length v h = ⊎_elim (λ small. small) (λ large. absurd (omega (arith, length_large v large, bytes_some (v / 128)))) (below_or_above v 128)

-- a number takes no more bytes than a larger one
pub bytes_rise : (v w : ℕ) → v ≤ w → length (bytes_of v) ≤ length (bytes_of w)
bytes_rise v w = by_groups (λ (w : ℕ). (v : ℕ) → v ≤ w → length (bytes_of v) ≤ length (bytes_of w)) one more w v
  where
    one : (w : ℕ) → w < 128 → (v : ℕ) → v ≤ w → length (bytes_of v) ≤ length (bytes_of w)
    one w small v h = omega (arith, length_small v (omega arith), length_small w small)

    more : (w : ℕ) → 128 ≤ w → ((v : ℕ) → v ≤ w / 128 → length (bytes_of v) ≤ length (bytes_of (w / 128))) → (v : ℕ) → v ≤ w → length (bytes_of v) ≤ length (bytes_of w)
    more w large rest v h =
        ⊎_elim
        (λ (small : v < 128). omega (arith, length_small v small, bytes_some w))
        (λ (both : 128 ≤ v). omega (arith, length_large v both, length_large w large, rest (v / 128) (omega arith)))
        (below_or_above v 128)

-- storing a form from an index on is storing its first byte there, and then the rest from the next index on
pub stores_small : (l : List ℕ) (i v : ℕ) → v < 128 → sets l i (bytes_of v) ≡ set l i v
stores_small l i v h = ap (sets l i) (bytes_small v h)

pub stores_large : (l : List ℕ) (i v : ℕ) → 128 ≤ v → sets l i (bytes_of v) ≡ sets (set l i (v % 128 + 128)) (i + 1) (bytes_of (v / 128))
stores_large l i v h =
    ap (sets l i) (bytes_large v h) ∙ ap (λ (k : ℕ). sets (set l i (v % 128 + 128)) k (bytes_of (v / 128))) (sym (add-one i))

-- numbers one after the other take so many bytes at the most, where none takes more than so many
pub forms_most : (most : ℕ) (numbers : List ℕ) → ((i : ℕ) → length (bytes_of (get_or numbers i 0)) ≤ most) → length (forms_of numbers) ≤ most * length numbers
unfolding forms_of
forms_most most [] h = omega arith
forms_most most (x ∷ numbers) h =
    omega (arith, length-append (bytes_of x) (forms_of numbers), h 0, forms_most most numbers (λ i. h (suc i)), mul-suc most (length numbers))
