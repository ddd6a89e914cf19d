-- A sum over all orders, and over the places in each, is a sum over the sets that may be left there. What is summed may depend on how many
-- positions come before and how many of them are in a group, and on the set of those that come after. No monotony is needed.
-- Assumes nothing.
use mathlib.Core.Path.{◌≡◌, refl, sym, ap, ap₂, ◌∙◌}
use mathlib.Core.Bool.{true, false, not}
use mathlib.Core.List.{List, [], ◌∷◌, map, flat_map}
use mathlib.Core.Logic.{◌⊎◌, inl, inr}
use Prim.Native.Nat.{ℕ, zero, suc, ◌+◌, ◌-◌, ◌*◌, ◌^◌, ◌<◌}
use native.Mathlib.Nat.{add_comm, add_right_comm, one-mul, suc-sub-suc, le_refl}
use native.Mathlib.Omega.{arith}
use native.Mathlib.Numerals.{sub-one}
use lib.Count.{ones, ones_in, ones-le}
use lib.ListN.{length}
use Rattle.numbers.specs.Counts.{factorial}
use Rattle.theory_sums.specs.Sums.{indicator, sum, how_many, sum_below}
use Rattle.theory_sums.proofs.Sums.{sum_same, sum_add, sum_map, sum_flat_map, sum_below_same, sum_below_halves}
use Rattle.theory_sets.specs.Masks.{has, size}
use Rattle.numbers.proofs.Bools.{true_or_false}
use Rattle.theory_sets.proofs.Masks.{has_above}
use Rattle.theory_orders.specs.Orders.{inserted, orders, mask}
use Rattle.theory_orders.specs.Counting.{Entry, behind, entries, in_group}
use Rattle.theory_orders.proofs.Orders.{sum_inserted}
use Rattle.theory_orders.proofs.Sizes.{missing, missing_last, missing_with, size_last, size_lacking, has_last, has_others}

-- ---- the places between the entries of a list

-- the sum of f over the ways to divide a list into what comes before a place and what comes after it
unfoldable pub divisions : (List ℕ → List ℕ → ℕ) → List ℕ → ℕ
divisions f [] = f [] []
divisions f (i ∷ rest) = f [] (i ∷ rest) + divisions (λ before after. f (i ∷ before) after) rest

pub divisions_same : (f g : List ℕ → List ℕ → ℕ) (list : List ℕ) → ((before after : List ℕ) → f before after ≡ g before after)
    → divisions f list ≡ divisions g list
unfolding divisions
divisions_same f g [] h = h [] []
divisions_same f g (i ∷ rest) h = ap₂ (λ (u v : ℕ). u + v) (h [] (i ∷ rest)) (divisions_same _ _ rest (λ before after. h (i ∷ before) after))

pub divisions_add : (f g : List ℕ → List ℕ → ℕ) (list : List ℕ)
    → divisions (λ before after. f before after + g before after) list ≡ divisions f list + divisions g list
unfolding divisions
divisions_add f g [] = refl
divisions_add f g (i ∷ rest) =
    ap (λ (u : ℕ). f [] (i ∷ rest) + g [] (i ∷ rest) + u)
    (divisions_add (λ before after. f (i ∷ before) after) (λ before after. g (i ∷ before) after) rest)
    ∙ omega arith

-- a position that is put in stands before the place or after it
pub divisions_inserted : (f : List ℕ → List ℕ → ℕ) (i : ℕ) (list : List ℕ)
    → sum (divisions f) (inserted i list)
    ≡ divisions (λ before after. sum (λ b. f b after) (inserted i before) + sum (λ a. f before a) (inserted i after)) list
unfolding divisions inserted sum
divisions_inserted f i [] = omega arith
divisions_inserted f i (j ∷ rest) =
    omega (arith, later (divisions_inserted (λ before after. f (j ∷ before) after) i rest), sum_map (f []) (λ l. j ∷ l) (inserted i rest), before_both)
  where
    behind_first : List ℕ → List ℕ → ℕ
    behind_first before after = sum (λ b. f (j ∷ b) after) (inserted i before) + sum (λ a. f (j ∷ before) a) (inserted i after)

    later : sum (divisions (λ before after. f (j ∷ before) after)) (inserted i rest) ≡ divisions behind_first rest
        → sum (divisions f) (map (λ l. j ∷ l) (inserted i rest)) ≡ sum (λ l. f [] (j ∷ l)) (inserted i rest) + divisions behind_first rest
    later ih =
        sum_map (divisions f) (λ l. j ∷ l) (inserted i rest)
        ∙ sum_add (λ l. f [] (j ∷ l)) (divisions (λ before after. f (j ∷ before) after)) (inserted i rest)
        ∙ ap (λ (u : ℕ). sum (λ l. f [] (j ∷ l)) (inserted i rest) + u) ih

    before_both : divisions (λ before after. sum (λ b. f b after) (inserted i (j ∷ before)) + sum (λ a. f (j ∷ before) a) (inserted i after)) rest
        ≡ divisions (λ before after. f (i ∷ j ∷ before) after) rest + divisions behind_first rest
    before_both =
        divisions_same _ _ rest (λ before after.
        ap (λ (u : ℕ). f (i ∷ j ∷ before) after + u + sum (λ a. f (j ∷ before) a) (inserted i after))
        (sum_map (λ b. f b after) (λ b. j ∷ b) (inserted i before))
        ∙ omega arith)
        ∙ divisions_add (λ before after. f (i ∷ j ∷ before) after) behind_first rest

-- ---- the entries of a list

abbrev pub entry : List ℕ → ℕ → List ℕ → Entry
entry before position after = record { before = before; position = position; after = after }

-- what f gives in all for an entry where a position is put in before it or after it
beside : (Entry → ℕ) → ℕ → Entry → ℕ
beside f i e =
    sum (λ b. f (entry b e.position e.after)) (inserted i e.before) + sum (λ a. f (entry e.before e.position a)) (inserted i e.after)

-- a position that is put in is an entry itself, or stands before another entry or after it
entries_inserted : (f : Entry → ℕ) (i : ℕ) (list : List ℕ)
    → sum (λ l. sum f (entries l)) (inserted i list) ≡ divisions (λ before after. f (entry before i after)) list + sum (beside f i) (entries list)
unfolding divisions inserted sum entries beside
entries_inserted f i [] = omega arith
entries_inserted f i (j ∷ rest) = omega (arith, later (entries_inserted (λ e. f (behind j e)) i rest), in_front_lem, before_both)
  where
    behind_first : ℕ
    behind_first = divisions (λ before after. f (entry (j ∷ before) i after)) rest + sum (beside (λ e. f (behind j e)) i) (entries rest)

    later : sum (λ l. sum (λ e. f (behind j e)) (entries l)) (inserted i rest) ≡ behind_first
        → sum (λ l. sum f (entries l)) (map (λ l. j ∷ l) (inserted i rest)) ≡ sum (λ l. f (entry [] j l)) (inserted i rest) + behind_first
    later ih =
        sum_map (λ l. sum f (entries l)) (λ l. j ∷ l) (inserted i rest)
        ∙ sum_same _ (λ l. f (entry [] j l) + sum (λ e. f (behind j e)) (entries l)) (inserted i rest)
        (λ l m. ap (λ (u : ℕ). f (entry [] j l) + u) (sum_map f (behind j) (entries l)))
        ∙ sum_add (λ l. f (entry [] j l)) (λ l. sum (λ e. f (behind j e)) (entries l)) (inserted i rest)
        ∙ ap (λ (u : ℕ). sum (λ l. f (entry [] j l)) (inserted i rest) + u) ih

    in_front_lem : sum f (map (behind i) (map (behind j) (entries rest))) ≡ sum (λ e. f (behind i (behind j e))) (entries rest)
    in_front_lem = sum_map f (behind i) (map (behind j) (entries rest)) ∙ sum_map (λ e. f (behind i e)) (behind j) (entries rest)

    before_both : sum (beside f i) (map (behind j) (entries rest))
        ≡ sum (λ e. f (behind i (behind j e))) (entries rest) + sum (beside (λ e. f (behind j e)) i) (entries rest)
    before_both =
        sum_map (beside f i) (behind j) (entries rest)
        ∙ sum_same (λ e. beside f i (behind j e)) (λ e. f (behind i (behind j e)) + beside (λ d. f (behind j d)) i e) (entries rest) (λ e m.
        ap (λ (u : ℕ). f (behind i (behind j e)) + u + sum (λ a. f (entry (j ∷ e.before) e.position a)) (inserted i e.after))
        (sum_map (λ b. f (entry b e.position e.after)) (λ b. j ∷ b) (inserted i e.before))
        ∙ omega arith)
        ∙ sum_add (λ e. f (behind i (behind j e))) (beside (λ e. f (behind j e)) i) (entries rest)

-- ---- over all orders

-- what is summed at a place: from how many positions come before it, how many of these are in the group, how many come after it, and the
-- set of these
abbrev pub AtPlace : Type 0
AtPlace = ℕ → ℕ → ℕ → ℕ → ℕ

module _ (group : ℕ) where
  -- what g gives at a place of an order
  unfoldable pub left : AtPlace → List ℕ → List ℕ → ℕ
  left g before after = g (length before) (how_many (in_group group) before) (length after) (mask after)

  -- the same with one position more, before the place or after it
  with_last : ℕ → AtPlace → AtPlace
  with_last n g b c k a = suc b * g (suc b) (c + indicator (has group n)) k a + suc k * g b c (suc k) (a + 2 ^ n)

  left_inserted : (n : ℕ) (g : AtPlace) (before after : List ℕ)
      → sum (λ b. left g b after) (inserted (suc n) before) + sum (λ a. left g before a) (inserted (suc n) after) ≡ left (with_last n g) before after
  unfolding left with_last mask in_group
  left_inserted n g before after =
      ap₂ (λ (u v : ℕ). u + v)
      (sum_inserted (λ l c. g l c (length after) (mask after)) (λ i. indicator (has group (i - 1))) (suc n) before
      ∙ ap (λ (c : ℕ). suc (length before) * g (suc (length before)) c (length after) (mask after))
      (ap (λ (x : ℕ). indicator (has group x) + how_many (in_group group) before) (sub-one (suc n))
      ∙ add_comm (indicator (has group n)) (how_many (in_group group) before)))
      (sum_inserted (λ l a. g (length before) (how_many (in_group group) before) l a) (λ i. 2 ^ (i - 1)) (suc n) after
      ∙ ap (λ (a : ℕ). suc (length after) * g (length before) (how_many (in_group group) before) (suc (length after)) a)
      (ap (λ (x : ℕ). 2 ^ x + mask after) (sub-one (suc n)) ∙ add_comm (2 ^ n) (mask after)))

  -- how often a set is what is left at a place of an order, times what g gives there
  unfoldable pub leaving : ℕ → AtPlace → ℕ → ℕ
  leaving n g a = factorial (size a) * factorial (n - size a) * g (n - size a) (missing n group a) (size a) a

  share_out : (p q z s x y : ℕ) → p * q * (suc z * x + suc s * y) ≡ p * (suc z * q) * x + suc s * p * q * y
  share_out p q z s x y = omega arith

  leaving_last : (n : ℕ) (g : AtPlace) (a : ℕ) → a < 2 ^ n
      → leaving n (with_last n g) a ≡ leaving (suc n) g a + leaving (suc n) g (a + 2 ^ n)
  unfolding leaving with_last factorial
  leaving_last n g a h =
      let more : suc n - size a ≡ suc (n - size a) = omega (arith, ones-le n a h) in
      rw (more, missing_last n a h group, size_last n a h, suc-sub-suc n (size a), missing_with n a h group)
      (share_out (factorial (size a)) (factorial (n - size a)) (n - size a) (size a)
      (g (suc (n - size a)) (missing n group a + indicator (has group n)) (size a) a) (g (n - size a) (missing n group a) (suc (size a)) (a + 2 ^ n)))

  pub sum_divisions : (n : ℕ) (g : AtPlace) → sum (divisions (left g)) (orders n) ≡ sum_below (leaving n g) (2 ^ n)
  unfolding orders divisions sum sum_below flat_map left leaving factorial mask ones ones_in
  sum_divisions zero g = omega arith
  sum_divisions (suc n) g =
      sum_flat_map (divisions (left g)) (inserted (suc n)) (orders n)
      ∙ sum_same _ (divisions (left (with_last n g))) (orders n)
      (λ order m. divisions_inserted (left g) (suc n) order ∙ divisions_same _ _ order (left_inserted n g))
      ∙ sum_divisions n (with_last n g)
      ∙ sum_below_halves (leaving (suc n) g) (leaving n (with_last n g)) n (leaving_last n g)

  -- What g gives at an entry of an order. It goes by the entry's position too; the place is the one after the entry, so that the entry counts
  -- among the positions of the group before it, but not among those whose number g is given.
  unfoldable pub met : (ℕ → AtPlace) → Entry → ℕ
  met g e =
      g e.position (length e.before) (how_many (in_group group) e.before + indicator (in_group group e.position)) (length e.after)
      (mask e.after)

  met_inserted : (n : ℕ) (g : ℕ → AtPlace) (e : Entry) → beside (met g) (suc n) e ≡ met (λ i. with_last n (g i)) e
  unfolding beside met left with_last
  met_inserted n g e =
      left_inserted n (λ b c k a. g e.position b (c + indicator (in_group group e.position)) k a) e.before e.after
      ∙ ap (λ (c : ℕ).
      suc (length e.before) * g e.position (suc (length e.before)) c (length e.after) (mask e.after)
      + suc (length e.after) * g e.position (length e.before) (how_many (in_group group) e.before + indicator (in_group group e.position))
      (suc (length e.after)) (mask e.after + 2 ^ n))
      (add_right_comm (how_many (in_group group) e.before) (indicator (has group n)) (indicator (in_group group e.position)))

  -- how often a set is what is left after an entry, times what g gives there
  unfoldable pub leaving_after : ℕ → (ℕ → AtPlace) → ℕ → ℕ → ℕ
  leaving_after n g i a =
      indicator (not (has a i)) * (factorial (size a) * factorial (n - size a - 1) * g (suc i) (n - size a - 1) (missing n group a) (size a) a)

  leaving_after_last : (n : ℕ) (g : ℕ → AtPlace) (i : ℕ) → i < n → (a : ℕ) → a < 2 ^ n
      → leaving_after n (λ j. with_last n (g j)) i a ≡ leaving_after (suc n) g i a + leaving_after (suc n) g i (a + 2 ^ n)
  unfolding leaving_after with_last factorial
  leaving_after_last n g i l a h = cases (true_or_false (has a i))
    where
      cases : (has a i ≡ true) ⊎ (has a i ≡ false)
          → leaving_after n (λ j. with_last n (g j)) i a ≡ leaving_after (suc n) g i a + leaving_after (suc n) g i (a + 2 ^ n)
      cases (inl t) = rw (has_others n a h i l, t) (omega arith)
      cases (inr f) =
          let more : suc n - size a - 1 ≡ suc (n - size a - 1) = omega (arith, size_lacking n a i h l f) in
          rw (has_others n a h i l, f, more, missing_last n a h group, size_last n a h, suc-sub-suc n (size a), missing_with n a h group)
          (one-mul _
          ∙ share_out (factorial (size a)) (factorial (n - size a - 1)) (n - size a - 1) (size a)
          (g (suc i) (suc (n - size a - 1)) (missing n group a + indicator (has group n)) (size a) a)
          (g (suc i) (n - size a - 1) (missing n group a) (suc (size a)) (a + 2 ^ n))
          ∙ sym (ap₂ (λ (u v : ℕ). u + v) (one-mul _) (one-mul _)))

  entering_last : (n : ℕ) (g : ℕ → AtPlace) (a : ℕ) → a < 2 ^ n
      → leaving n (λ b c k a. g (suc n) b (c + indicator (has group n)) k a) a ≡ leaving_after (suc n) g n a + leaving_after (suc n) g n (a + 2 ^ n)
  unfolding leaving_after leaving
  entering_last n g a h =
      let same : suc n - size a - 1 ≡ n - size a = omega (arith, ones-le n a h) in
      rw (has_above a n n h (le_refl n), has_last n a h, same, missing_last n a h group) (omega arith)

  pub sum_entries : (n : ℕ) (g : ℕ → AtPlace)
      → sum (λ order. sum (met g) (entries order)) (orders n) ≡ sum_below (λ i. sum_below (leaving_after n g i) (2 ^ n)) n
  unfolding orders entries sum sum_below flat_map met left in_group
  sum_entries zero g = refl
  sum_entries (suc n) g =
      sum_flat_map (λ order. sum (met g) (entries order)) (inserted (suc n)) (orders n)
      ∙ sum_same _ (λ order. divisions (left entering) order + sum (met (λ i. with_last n (g i))) (entries order)) (orders n) (λ order m.
      entries_inserted (met g) (suc n) order
      ∙ ap₂ (λ (u v : ℕ). u + v) (divisions_same _ _ order first) (sum_same (beside (met g) (suc n)) _ (entries order) (λ e k. met_inserted n g e)))
      ∙ sum_add (divisions (left entering)) (λ order. sum (met (λ i. with_last n (g i))) (entries order)) (orders n)
      ∙ add_comm _ _
      ∙ ap₂ (λ (u v : ℕ). u + v)
      (sum_entries n (λ i. with_last n (g i))
      ∙ sum_below_same _ (λ i. sum_below (leaving_after (suc n) g i) (2 ^ suc n)) n (λ i l.
      sum_below_halves (leaving_after (suc n) g i) (leaving_after n (λ j. with_last n (g j)) i) n (leaving_after_last n g i l)))
      (sum_divisions n entering ∙ sum_below_halves (leaving_after (suc n) g n) (leaving n entering) n (entering_last n g))
    where
      entering : AtPlace
      entering b c k a = g (suc n) b (c + indicator (has group n)) k a

      first : (before after : List ℕ) → met g (entry before (suc n) after) ≡ left entering before after
      first before after =
          ap (λ (x : ℕ). g (suc n) (length before) (how_many (in_group group) before + indicator (has group x)) (length after) (mask after))
          (sub-one (suc n))
