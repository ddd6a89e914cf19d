-- Two places of an order: a sum over all orders and two places in each is a sum over pairs of nested sets, the parts behind the first place
-- and those behind the second. It goes one position at a time, which stands before both places, between them or behind both.
-- Assumes nothing.
use mathlib.Core.Path.{◌≡◌, refl, sym, ap, ap₂, ◌∙◌}
use mathlib.Core.Bool.{true, false, cond}
use mathlib.Core.List.{List, [], ◌∷◌, flat_map}
use mathlib.Core.Logic.{◌⊎◌, inl, inr}
use Prim.Native.Nat.{ℕ, zero, suc, ◌+◌, ◌-◌, ◌*◌, ◌^◌, ◌<◌}
use native.Mathlib.Nat.{add_comm, suc-sub-suc}
use native.Mathlib.Omega.{arith}
use native.Mathlib.Numerals.{sub-one}
use lib.Count.{ones, ones_in, ones-le}
use lib.ListN.{length}
use Rattle.numbers.specs.Counts.{factorial}
use Rattle.numbers.proofs.Bools.{true_or_false}
use Rattle.theory_sums.specs.Sums.{sum, sum_below}
use Rattle.theory_sums.proofs.Sums.{sum_same, sum_flat_map, sum_below_same, sum_below_add, sum_below_halves}
use Rattle.theory_sets.specs.Masks.{size, holds}
use Rattle.theory_orders.specs.Orders.{inserted, orders, mask}
use Rattle.theory_orders.proofs.Orders.{sum_inserted}
use Rattle.theory_orders.proofs.Sizes.{size_last}
use Rattle.theory_orders.proofs.Divisions.{divisions, divisions_same, divisions_add, divisions_inserted}
use Rattle.theory_figures.proofs.Holding.{size_holds, holds_more, holds_never, holds_last}
use Rattle.theory_joint.specs.Formula.{nestings}

-- what is summed at two places: from what comes before both, what comes between them and what comes behind both
abbrev AtPlaces : Type 0
AtPlaces = List ℕ → List ℕ → List ℕ → ℕ

-- the sum of f over the ways to divide a list into three
unfoldable pub double_divisions : AtPlaces → List ℕ → ℕ
double_divisions f list = divisions (λ before rest. divisions (f before) rest) list

double_same : (f g : AtPlaces) (list : List ℕ) → ((before between behind : List ℕ) → f before between behind ≡ g before between behind)
    → double_divisions f list ≡ double_divisions g list
unfolding double_divisions
double_same f g list h = divisions_same _ _ list (λ before rest. divisions_same (f before) (g before) rest (h before))

-- nothing at any place
pub divisions_none : (f : List ℕ → List ℕ → ℕ) (list : List ℕ) → ((before after : List ℕ) → f before after ≡ 0) → divisions f list ≡ 0
unfolding divisions
divisions_none f [] h = h [] []
divisions_none f (i ∷ rest) h = ap₂ (λ (u v : ℕ). u + v) (h [] (i ∷ rest)) (divisions_none (λ before after. f (i ∷ before) after) rest (λ before after. h (i ∷ before) after))

-- a sum over a list of what is summed over the divisions of another
sum_divisions_of : (f : AtPlaces) (xs : List (List ℕ)) (list : List ℕ)
    → sum (λ x. divisions (f x) list) xs ≡ divisions (λ before after. sum (λ x. f x before after) xs) list
unfolding sum divisions
sum_divisions_of f [] list = sym (divisions_none (λ before after. 0) list (λ before after. refl))
sum_divisions_of f (x ∷ xs) list =
    ap (λ (u : ℕ). divisions (f x) list + u) (sum_divisions_of f xs list) ∙ sym (divisions_add (f x) (λ before after. sum (λ y. f y before after) xs) list)

-- what f gives in all where a position is put in before both places, between them or behind both
beside : AtPlaces → ℕ → AtPlaces
beside f i before between behind =
    sum (λ b. f b between behind) (inserted i before)
    + (sum (λ m. f before m behind) (inserted i between) + sum (λ c. f before between c) (inserted i behind))

double_inserted : (f : AtPlaces) (i : ℕ) (list : List ℕ) → sum (double_divisions f) (inserted i list) ≡ double_divisions (beside f i) list
unfolding double_divisions beside
double_inserted f i list =
    divisions_inserted (λ before rest. divisions (f before) rest) i list
    ∙ divisions_same _ _ list (λ before rest.
    ap₂ (λ (u v : ℕ). u + v) (sum_divisions_of f (inserted i before) rest) (divisions_inserted (f before) i rest)
    ∙ sym (divisions_add (λ between behind. sum (λ b. f b between behind) (inserted i before)) _ rest))

-- ---- by lengths and sets

-- what goes by how many positions come before both places, between them and behind both, by the set behind the first and by that behind the
-- second
abbrev pub AtSets : Type 0
AtSets = ℕ → ℕ → ℕ → ℕ → ℕ → ℕ

unfoldable pub left_at : AtSets → AtPlaces
left_at g before between behind = g (length before) (length between) (length behind) (mask between + mask behind) (mask behind)

-- the same with one position more: before both places, between them, or behind both
with_last : ℕ → AtSets → AtSets
with_last n g x y z a b = suc x * g (suc x) y z a b + (suc y * g x (suc y) z (a + 2 ^ n) b + suc z * g x y (suc z) (a + 2 ^ n) (b + 2 ^ n))

left_inserted : (n : ℕ) (g : AtSets) (before between behind : List ℕ)
    → beside (left_at g) (suc n) before between behind ≡ left_at (with_last n g) before between behind
unfolding beside left_at with_last mask
left_inserted n g before between behind =
    ap₂ (λ (u v : ℕ). u + v)
    (sum_inserted (λ l c. g l (length between) (length behind) (mask between + mask behind) (mask behind)) (λ i. 0) (suc n) before)
    (ap₂ (λ (u v : ℕ). u + v)
    (sum_inserted (λ l c. g (length before) l (length behind) (c + mask behind) (mask behind)) (λ i. 2 ^ (i - 1)) (suc n) between
    ∙ ap (λ (c : ℕ). suc (length between) * g (length before) (suc (length between)) (length behind) c (mask behind)) (moved (mask between) (mask behind)))
    (sum_inserted (λ l c. g (length before) (length between) l (mask between + c) c) (λ i. 2 ^ (i - 1)) (suc n) behind
    ∙ ap₂ (λ (c d : ℕ). suc (length behind) * g (length before) (length between) (suc (length behind)) c d) (put (mask between) (mask behind)) (last (mask behind))))
  where
    last : (x : ℕ) → 2 ^ (suc n - 1) + x ≡ x + 2 ^ n
    last x = ap (λ (e : ℕ). 2 ^ e + x) (sub-one (suc n)) ∙ add_comm (2 ^ n) x

    moved : (x y : ℕ) → 2 ^ (suc n - 1) + x + y ≡ x + y + 2 ^ n
    moved x y = omega (arith, last x)

    put : (x y : ℕ) → x + (2 ^ (suc n - 1) + y) ≡ x + y + 2 ^ n
    put x y = omega (arith, last y)

-- how often a pair of nested sets is what is left at two places of an order, times what g gives there
unfoldable pub leaving : ℕ → AtSets → ℕ → ℕ → ℕ
leaving n g a b = cond (holds a b) (nestings n (size a) (size b) * g (n - size a) (size a - size b) (size b) a b) 0

-- the last position is in neither set, in the larger alone, or in both
share_out : (p q s x y z t u v : ℕ)
    → p * q * s * (suc x * t + (suc y * u + suc z * v)) ≡ suc x * p * q * s * t + (p * (suc y * q) * s * u + p * q * (suc z * s) * v)
share_out p q s x y z t u v = omega arith

leaving_last : (n : ℕ) (g : AtSets) (a b : ℕ) → a < 2 ^ n → b < 2 ^ n
    → leaving n (with_last n g) a b ≡ leaving (suc n) g a b + (leaving (suc n) g (a + 2 ^ n) b + leaving (suc n) g (a + 2 ^ n) (b + 2 ^ n))
unfolding leaving with_last factorial
leaving_last n g a b ha hb =
    rw (holds_more n a b ha hb, holds_last n a b ha hb, size_last n a ha, size_last n b hb, suc-sub-suc n (size a), suc-sub-suc (size a) (size b))
    (cases (true_or_false (holds a b)))
  where
    more : suc n - size a ≡ suc (n - size a)
    more = omega (arith, ones-le n a ha)

    cases : (holds a b ≡ true) ⊎ (holds a b ≡ false)
        → cond (holds a b) (nestings n (size a) (size b) * with_last n g (n - size a) (size a - size b) (size b) a b) 0
        ≡ cond (holds a b) (nestings (suc n) (size a) (size b) * g (suc n - size a) (size a - size b) (size b) a b) 0
        + (cond (holds a b) (factorial (n - size a) * factorial (suc (size a) - size b) * factorial (size b)
        * g (n - size a) (suc (size a) - size b) (size b) (a + 2 ^ n) b) 0
        + cond (holds a b) (factorial (n - size a) * factorial (size a - size b) * factorial (suc (size b))
        * g (n - size a) (size a - size b) (suc (size b)) (a + 2 ^ n) (b + 2 ^ n)) 0)
    cases (inr apart) = rw apart
    cases (inl within) =
        let between : suc (size a) - size b ≡ suc (size a - size b) = omega (arith, size_holds n a b ha hb within) in
        rw (within, more, between)
        (share_out (factorial (n - size a)) (factorial (size a - size b)) (factorial (size b)) (n - size a) (size a - size b) (size b)
        (g (suc (n - size a)) (size a - size b) (size b) a b) (g (n - size a) (suc (size a - size b)) (size b) (a + 2 ^ n) b)
        (g (n - size a) (size a - size b) (suc (size b)) (a + 2 ^ n) (b + 2 ^ n)))

-- no set without the last position holds one with it
leaving_never : (n : ℕ) (g : AtSets) (a b : ℕ) → a < 2 ^ n → b < 2 ^ n → leaving (suc n) g a (b + 2 ^ n) ≡ 0
unfolding leaving
leaving_never n g a b ha hb = rw (holds_never n a b ha hb)

-- a sum over all orders and two places in each is one over pairs of nested sets
pub sum_places : (n : ℕ) (g : AtSets) → sum (double_divisions (left_at g)) (orders n) ≡ sum_below (λ a. sum_below (leaving n g a) (2 ^ n)) (2 ^ n)
unfolding orders double_divisions divisions sum sum_below flat_map left_at leaving factorial mask holds ones ones_in
sum_places zero g = omega arith
sum_places (suc n) g =
    sum_flat_map (double_divisions (left_at g)) (inserted (suc n)) (orders n)
    ∙ sum_same _ (double_divisions (left_at (with_last n g))) (orders n)
    (λ order m. double_inserted (left_at g) (suc n) order ∙ double_same _ _ order (left_inserted n g))
    ∙ sum_places n (with_last n g)
    ∙ sum_below_halves (λ a. sum_below (leaving (suc n) g a) (2 ^ suc n)) (λ a. sum_below (leaving n (with_last n g) a) (2 ^ n)) n halves
  where
    halves : (a : ℕ) → a < 2 ^ n → sum_below (leaving n (with_last n g) a) (2 ^ n)
        ≡ sum_below (leaving (suc n) g a) (2 ^ suc n) + sum_below (leaving (suc n) g (a + 2 ^ n)) (2 ^ suc n)
    halves a ha =
        sum_below_same _ _ (2 ^ n) (λ b hb. leaving_last n g a b ha hb)
        ∙ sum_below_add (leaving (suc n) g a) (λ b. leaving (suc n) g (a + 2 ^ n) b + leaving (suc n) g (a + 2 ^ n) (b + 2 ^ n)) (2 ^ n)
        ∙ ap₂ (λ (u v : ℕ). u + v) without
        (sum_below_halves (leaving (suc n) g (a + 2 ^ n)) (λ b. leaving (suc n) g (a + 2 ^ n) b + leaving (suc n) g (a + 2 ^ n) (b + 2 ^ n)) n (λ b hb. refl))
      where
        without : sum_below (leaving (suc n) g a) (2 ^ n) ≡ sum_below (leaving (suc n) g a) (2 ^ suc n)
        without = sum_below_halves (leaving (suc n) g a) (leaving (suc n) g a) n (λ b hb. omega (arith, leaving_never n g a b ha hb))
