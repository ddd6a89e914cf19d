-- A sweep over a part, block by block: in a block of the sets that agree in the parts behind it the lower half lacks the part and the upper half
-- has it. Assumes nothing.
use mathlib.Core.Path.{◌≡◌, refl, subst, sym, ap, ap₂, ◌∙◌}
use mathlib.Core.Bool.{Bool, true, false, cond}
use mathlib.Core.List.{List, ◌++◌}
use mathlib.Core.Logic.{◌⊎◌, inl, inr}
use Prim.Native.Nat.{ℕ, zero, suc, ◌+◌, ◌-◌, ◌*◌, ◌^◌, ◌≤◌, ◌<◌, zero-le, min}
use native.Mathlib.Nat.{add-zero, zero-add, add_assoc, add_comm, mul_comm, one-mul, pow-succ', le_trans, le_of_eq, add-le-add, add-sub_cancel_left, mul-zero, mul-le-mul_left, mul-le-mul_right}
use native.Mathlib.Numerals.{add-one}
use native.Mathlib.Omega.{arith}
use lib.Arith.{lt-one}
use lib.Dec.{ltb}
use lib.ListN.{length, get_or, take, drop, length-take, length-drop, length-append, get_or-append}
use lib.Seq.{get_or-append-add, get_or-drop}
use lib.Pow.{pow-add, pow_mono}
use borrow.Author.Tests.{lt-ltb, le-ltb, ltb-true}
use borrow.Rule.Slice.PartMut.{mid_of, put_mid}
use Rattle.numbers.specs.Tables.{tabulate, NoneOver}
use Rattle.numbers.proofs.Bools.{true_or_false, cond_same}
use Rattle.numbers.proofs.Bounds.{below_or_above}
use Rattle.numbers.proofs.Parts.{part_length, part_few, part_old, part_back}
use Rattle.numbers.proofs.Tables.{filled, filled_none, filled_all, filled_length, tabulate_at, tabulate_few, tabulate_length, tabulate_same, tabulate_unique}
use Rattle.theory_sums.specs.Sums.{sum_below}
use Rattle.theory_sums.proofs.Sums.{sum_below_same, sum_below_zero, sum_below_masks}
use Rattle.theory_sets.specs.Masks.{has, holds}
use Rattle.theory_sets.proofs.Masks.{has_block, has_odd, has_even, add_below}
use Rattle.theory_figures.proofs.Holding.{holds_more, holds_never, holds_last}
use Rattle.joint_pairs.specs.Inside.{cell_of, swept_over, swept}

-- the blocks are all of the sets
pub all_blocks : (n part half blocks : ℕ) → part < n → half ≡ 2 ^ part → blocks ≡ 2 ^ (n - (part + 1)) → 2 * half * blocks ≡ 2 ^ n
all_blocks n part half blocks h e b =
    let sizes : part + 1 + (n - (part + 1)) ≡ n = omega arith in
    ap₂ (λ (x y : ℕ). 2 * x * y) e b ∙ ap (λ (x : ℕ). x * 2 ^ (n - (part + 1))) twice ∙ sym (pow-add 2 (part + 1) (n - (part + 1))) ∙ ap (λ (x : ℕ). 2 ^ x) sizes
  where
    twice : 2 * 2 ^ part ≡ 2 ^ (part + 1)
    twice = sym (ap (λ (x : ℕ). 2 ^ x) (let next : part + 1 ≡ suc part = omega arith in next) ∙ pow-succ' 2 part)

module _ (part block r : ℕ) where
  -- the lower half of a block lacks the part
  pub lower_lacks : r < 2 ^ part → has (2 * 2 ^ part * block + r) part ≡ false
  lower_lacks h =
      ap₂ has place (sym (add-zero part)) ∙ has_block (2 * block) part r 0 h ∙ has_even (2 * block) (omega arith)
    where
      place : 2 * 2 ^ part * block + r ≡ 2 * block * 2 ^ part + r
      place = omega arith

  -- and the upper half has it
  pub upper_has : r < 2 ^ part → has (2 * 2 ^ part * block + (2 ^ part + r)) part ≡ true
  upper_has h =
      ap₂ has place (sym (add-zero part)) ∙ has_block (2 * block + 1) part r 0 h ∙ has_odd (2 * block + 1) (omega arith)
    where
      place : 2 * 2 ^ part * block + (2 ^ part + r) ≡ (2 * block + 1) * 2 ^ part + r
      place = omega arith

swept_block : (part block : ℕ) (f : ℕ → ℕ) (s : ℕ) → s < 2 * 2 ^ part
    → f (2 * 2 ^ part * block + s) + cond (ltb s (2 ^ part)) (f (2 * 2 ^ part * block + (2 ^ part + s))) 0 ≡ swept_over part f (2 * 2 ^ part * block + s)
unfolding swept_over
swept_block part block f s h = cases (below_or_above s (2 ^ part))
  where
    start : ℕ
    start = 2 * 2 ^ part * block

    cases : (s < 2 ^ part) ⊎ (2 ^ part ≤ s)
        → f (start + s) + cond (ltb s (2 ^ part)) (f (start + (2 ^ part + s))) 0 ≡ f (start + s) + cond (has (start + s) part) 0 (f (start + s + 2 ^ part))
    cases (inl low) =
        let place : start + (2 ^ part + s) ≡ start + s + 2 ^ part = omega arith in
        rw (lt-ltb s (2 ^ part) low, lower_lacks part block s low) (ap (λ (x : ℕ). f (start + s) + f x) place)
    cases (inr high) =
        let rest : s ≡ 2 ^ part + (s - 2 ^ part) = omega arith in
        let there : has (start + s) part ≡ true
        = ap (λ (x : ℕ). has (start + x) part) rest ∙ upper_has part block (s - 2 ^ part) (omega arith) in
        rw (le-ltb s (2 ^ part) high, there)

-- a cell of a block after the sweep
pub block_swept : (part half block : ℕ) → half ≡ 2 ^ part → (f : ℕ → ℕ) (s : ℕ) → s < 2 * half
    → f (2 * half * block + s) + cond (ltb s half) (f (2 * half * block + (half + s))) 0 ≡ swept_over part f (2 * half * block + s)
block_swept part half block e f s h = rw e (swept_block part block f s (rw e at h))

-- what stands in the lower half of a block after the sweep
abbrev pub half_sum : ℕ → List ℕ → ℕ → ℕ
half_sum half cells r = get_or cells r 0 + get_or cells (half + r) 0

pub halves_joined : (half : ℕ) (cells : List ℕ) → length cells ≡ 2 * half
    → filled (half_sum half cells) (take half cells) half ++ drop half cells
    ≡ tabulate (2 * half) (λ r. get_or cells r 0 + cond (ltb r half) (get_or cells (half + r) 0) 0)
halves_joined half cells long =
    tabulate_unique (2 * half) swept_cell (filled (half_sum half cells) (take half cells) half ++ drop half cells) 0 whole (λ r h. cases r h (below_or_above r half))
  where
    swept_cell : ℕ → ℕ
    swept_cell r = get_or cells r 0 + cond (ltb r half) (get_or cells (half + r) 0) 0

    front_long : length (take half cells) ≡ half
    front_long = length-take half cells ∙ (let few : min half (length cells) ≡ half = omega (arith, long) in few)

    front : filled (half_sum half cells) (take half cells) half ≡ tabulate half (half_sum half cells)
    front = filled_all (half_sum half cells) (take half cells) half (le_of_eq front_long)

    whole : length (filled (half_sum half cells) (take half cells) half ++ drop half cells) ≡ 2 * half
    whole =
        ap (λ (xs : List ℕ). length (xs ++ drop half cells)) front ∙ length-append (tabulate half (half_sum half cells)) (drop half cells)
        ∙ ap₂ (λ (u v : ℕ). u + v) (tabulate_length half (half_sum half cells)) (length-drop half cells)
        ∙ (let twice : half + (length cells - half) ≡ 2 * half = omega (arith, long) in twice)

    cases : (r : ℕ) → r < 2 * half → (r < half) ⊎ (half ≤ r) → get_or (filled (half_sum half cells) (take half cells) half ++ drop half cells) r 0 ≡ swept_cell r
    cases r h (inl low) =
        ap (λ (xs : List ℕ). get_or (xs ++ drop half cells) r 0) front
        ∙ get_or-append (tabulate half (half_sum half cells)) (drop half cells) 0 r (rw (tabulate_length half (half_sum half cells)) low)
        ∙ tabulate_at half (half_sum half cells) r 0 low
        ∙ ap (λ (t : Bool). get_or cells r 0 + cond t (get_or cells (half + r) 0) 0) (sym (lt-ltb r half low))
    cases r h (inr high) =
        let s : ℕ = r - half in
        let split : r ≡ half + s = omega arith in
        ap (λ (xs : List ℕ). get_or (xs ++ drop half cells) r 0) front
        ∙ ap (λ (i : ℕ). get_or (tabulate half (half_sum half cells) ++ drop half cells) i 0) (split ∙ ap (λ (x : ℕ). x + s) (sym (tabulate_length half (half_sum half cells))))
        ∙ get_or-append-add (tabulate half (half_sum half cells)) (drop half cells) s 0
        ∙ get_or-drop half cells s 0 ∙ ap (λ (i : ℕ). get_or cells i 0) (sym split)
        ∙ sym (add-zero (get_or cells r 0))
        ∙ ap (λ (t : Bool). get_or cells r 0 + cond t (get_or cells (half + r) 0) 0) (sym (le-ltb r half high))

-- ---- block after block

-- there is room for each block
pub block_room : (n part half block : ℕ) → n ≤ 16 → part < n → half ≡ 2 ^ part → block < 2 ^ (n - (part + 1))
    → (2 * half * block ≡ 2 * half * block) × ((2 * half * block + 2 * half ≤ 2 ^ n) × (2 ^ n ≤ 65536))
block_room n part half block few h e low =
    let next : 2 * half * block + 2 * half ≡ 2 * half * suc block = omega arith in (
      refl,
      (
        le_trans (le_of_eq next) (le_trans (mul-le-mul_left (2 * half) low) (le_of_eq (all_blocks n part half (2 ^ (n - (part + 1))) h e refl))),
        pow_mono few,
      ),
    )

-- the cells as the blocks so far leave them
module _ (part : ℕ) (old list : List ℕ) (start len : ℕ) (is : list ≡ filled (swept_over part (cell_of old)) old start) (room : start + len ≤ length old) where
  same_len : start + len - start ≡ len
  same_len = add-sub_cancel_left start len

  pub block_long : length (mid_of start len list) ≡ len
  block_long = rw same_len at (part_length (swept_over part (cell_of old)) old list start len is room)

  pub block_few : NoneOver (2 ^ 62) old → NoneOver (2 ^ 62) (mid_of start len list)
  block_few few i = rw same_len at (part_few (swept_over part (cell_of old)) old list start len is room (2 ^ 62) few i)

  pub block_back : (half block : ℕ) (new : List ℕ) → half ≡ 2 ^ part → start ≡ 2 * half * block → len ≡ 2 * half
      → new ≡ tabulate (2 * half) (λ r. get_or (mid_of start len list) r 0 + cond (ltb r half) (get_or (mid_of start len list) (half + r) 0) 0)
      → put_mid start len list new ≡ filled (swept_over part (cell_of old)) old (2 * half * (block + 1))
  unfolding cell_of
  block_back half block new e at whole made =
      ap (λ (k : ℕ). put_mid start k list new) (sym same_len)
      ∙ part_back f old list start len is room new (made ∙ tabulate_same (2 * half) _ (λ s. f (start + s)) same ∙ ap (λ (k : ℕ). tabulate k (λ s. f (start + s))) (sym whole))
      ∙ ap (filled f old) (let next : start + len ≡ 2 * half * (block + 1) = omega (arith, at, whole) in next)
    where
      f : ℕ → ℕ
      f = swept_over part (cell_of old)

      before : (s : ℕ) → s < 2 * half → get_or (mid_of start len list) s 0 ≡ get_or old (start + s) 0
      before s h =
          ap (λ (k : ℕ). get_or (mid_of start k list) s 0) (sym same_len) ∙ part_old f old list start len is room s (let low : s < len = omega (arith, whole) in low)

      same : (s : ℕ) → s < 2 * half
          → get_or (mid_of start len list) s 0 + cond (ltb s half) (get_or (mid_of start len list) (half + s) 0) 0 ≡ f (start + s)
      same s h =
          ap₂ (λ (x y : ℕ). x + y) (before s h) (cond_same (ltb s half) _ _ (λ low. before (half + s) (omega (arith, ltb-true s half low))))
          ∙ ap (λ (x : ℕ). get_or old (x + s) 0 + cond (ltb s half) (get_or old (x + (half + s)) 0) 0) at
          ∙ block_swept part half block e (cell_of old) s h ∙ ap (λ (x : ℕ). f (x + s)) (sym at)

pub blocks_none : (part half : ℕ) (old : List ℕ) → old ≡ filled (swept_over part (cell_of old)) old (2 * half * 0)
blocks_none part half old =
    filled_none (swept_over part (cell_of old)) old ∙ ap (filled (swept_over part (cell_of old)) old) (sym (mul-zero (2 * half)))

pub blocks_all : (n part half blocks : ℕ) (old list : List ℕ) → part < n → half ≡ 2 ^ part → blocks ≡ 2 ^ (n - (part + 1)) → length old ≡ 2 ^ n
    → list ≡ filled (swept_over part (cell_of old)) old (2 * half * blocks) → list ≡ tabulate (2 ^ n) (swept_over part (cell_of old))
blocks_all n part half blocks old list h e b long is =
    is ∙ ap (filled (swept_over part (cell_of old)) old) (all_blocks n part half blocks h e b)
    ∙ filled_all (swept_over part (cell_of old)) old (2 ^ n) (le_of_eq long)

-- ---- part after part

module _ (n part : ℕ) (h : part < n) (f : ℕ → ℕ) (cells : List ℕ) (is : cells ≡ tabulate (2 ^ n) (swept part f)) where
  cell_at : (b : ℕ) → b < 2 ^ n → get_or cells b 0 ≡ swept part f b
  cell_at b l = ap (λ (xs : List ℕ). get_or xs b 0) is ∙ tabulate_at (2 ^ n) (swept part f) b 0 l

  -- the next part
  pub swept_next : (b : ℕ) → b < 2 ^ n → swept_over part (cell_of cells) b ≡ swept (part + 1) f b
  unfolding swept_over swept cell_of
  swept_next b l = cases (true_or_false (has b part)) ∙ ap (λ (k : ℕ). swept k f b) (sym (add-one part))
    where
      cases : (has b part ≡ true) ⊎ (has b part ≡ false)
          → get_or cells b 0 + cond (has b part) 0 (get_or cells (b + 2 ^ part) 0) ≡ swept part f b + cond (has b part) 0 (swept part f (b + 2 ^ part))
      cases (inl there) = rw there (ap (λ (x : ℕ). x + 0) (cell_at b l))
      cases (inr lacks) = rw lacks (ap₂ (λ (x y : ℕ). x + y) (cell_at b l) (cell_at (b + 2 ^ part) (add_below n b part l h lacks)))

-- no cell of 16 parts reaches 2^62
pub swept_few : (part : ℕ) (f : ℕ → ℕ) (most : ℕ) → ((a : ℕ) → f a ≤ most) → (b : ℕ) → swept part f b ≤ 2 ^ part * most
unfolding swept swept_over
swept_few zero f most few b = le_trans (few b) (le_of_eq (sym (one-mul most)))
swept_few (suc part) f most few b =
    let one = swept_few part f most few b in
    let other = above (has b part) (swept_few part f most few (b + 2 ^ part)) in
    let twice : 2 ^ part * most + 2 ^ part * most ≡ 2 ^ suc part * most = twice_of (2 ^ part) ∙ ap (λ (x : ℕ). x * most) (sym (pow-succ' 2 part)) in
    le_trans (add-le-add one other) (le_of_eq twice)
  where
    above : (t : Bool) → swept part f (b + 2 ^ part) ≤ 2 ^ part * most → cond t 0 (swept part f (b + 2 ^ part)) ≤ 2 ^ part * most
    above true h = zero-le
    above false h = h

    twice_of : (x : ℕ) → x * most + x * most ≡ 2 * x * most
    twice_of x = omega arith

-- the cells part after part
pub swept_none : (n : ℕ) (start : List ℕ) → length start ≡ 2 ^ n → start ≡ tabulate (2 ^ n) (swept 0 (cell_of start))
unfolding swept cell_of
swept_none n start long = tabulate_unique (2 ^ n) (cell_of start) start 0 long (λ j h. refl)

module _ (n part : ℕ) (start cells : List ℕ) (is : cells ≡ tabulate (2 ^ n) (swept part (cell_of start))) where
  pub swept_more : part < n → tabulate (2 ^ n) (swept (part + 1) (cell_of start)) ≡ tabulate (2 ^ n) (swept_over part (cell_of cells))
  swept_more h = sym (tabulate_same (2 ^ n) _ _ (λ b l. swept_next n part h (cell_of start) cells is b l))

  pub swept_low : n ≤ 16 → part ≤ n → NoneOver (2 ^ 42) start → NoneOver (2 ^ 62) cells
  unfolding cell_of
  swept_low most within low =
      let small : 2 ^ 16 * 2 ^ 42 ≤ 2 ^ 62 = omega arith in
      subst (λ (xs : List ℕ). NoneOver (2 ^ 62) xs) (sym is)
      (tabulate_few (2 ^ n) (swept part (cell_of start)) (2 ^ 62) (λ b.
      le_trans (swept_few part (cell_of start) (2 ^ 42) low b) (le_trans (mul-le-mul_right (2 ^ 42) (pow_mono (le_trans within most))) small)))

-- what all sets that hold a set have, added up
above_set : (ℕ → ℕ) → ℕ → ℕ → ℕ
above_set g p r = sum_below (λ a. cond (holds a r) (g a) 0) (2 ^ p)

above_last : (g : ℕ → ℕ) (p r : ℕ) → r < 2 ^ p → above_set g (suc p) r ≡ above_set g p r + above_set (λ a. g (a + 2 ^ p)) p r
unfolding above_set
above_last g p r h =
    sum_below_masks (λ a. cond (holds a r) (g a) 0) p
    ∙ ap (λ (u : ℕ). sum_below (λ a. cond (holds a r) (g a) 0) (2 ^ p) + u)
    (sum_below_same _ _ (2 ^ p) (λ a l. ap (λ (t : Bool). cond t (g (a + 2 ^ p)) 0) (holds_more p a r l h)))

above_with : (g : ℕ → ℕ) (p r : ℕ) → r < 2 ^ p → above_set g (suc p) (r + 2 ^ p) ≡ above_set (λ a. g (a + 2 ^ p)) p r
unfolding above_set
above_with g p r h =
    sum_below_masks (λ a. cond (holds a (r + 2 ^ p)) (g a) 0) p
    ∙ ap₂ (λ (u v : ℕ). u + v)
    (sum_below_same _ (λ a. 0) (2 ^ p) (λ a l. ap (λ (t : Bool). cond t (g a) 0) (holds_never p a r l h)) ∙ sum_below_zero (2 ^ p))
    (sum_below_same _ _ (2 ^ p) (λ a l. ap (λ (t : Bool). cond t (g (a + 2 ^ p)) 0) (holds_last p a r l h)))
    ∙ zero-add _

above_same : (g h : ℕ → ℕ) (p r : ℕ) → ((a : ℕ) → g a ≡ h a) → above_set g p r ≡ above_set h p r
unfolding above_set
above_same g h p r same = sum_below_same _ _ (2 ^ p) (λ a l. ap (λ (x : ℕ). cond (holds a r) x 0) (same a))

-- within the sets that agree in the parts from p on
Within : ℕ → (ℕ → ℕ) → Type 0
Within p f = (q r : ℕ) → r < 2 ^ p → swept p f (q * 2 ^ p + r) ≡ above_set (λ a. f (q * 2 ^ p + a)) p r

-- one part more
module _ (p : ℕ) (f : ℕ → ℕ) (ih : Within p f) (q : ℕ) where
  turned : (x : ℕ) → q * 2 ^ suc p + x ≡ 2 * 2 ^ p * q + x
  turned x = ap (λ (y : ℕ). y + x) (ap (λ (y : ℕ). q * y) (pow-succ' 2 p) ∙ mul_comm q (2 * 2 ^ p))

  lower : (x : ℕ) → 2 * 2 ^ p * q + x ≡ 2 * q * 2 ^ p + x
  lower x = omega arith

  upper : (x : ℕ) → 2 * 2 ^ p * q + (x + 2 ^ p) ≡ (2 * q + 1) * 2 ^ p + x
  upper x = omega arith

  low_half : (x : ℕ) → x < 2 ^ p → swept p f (2 * 2 ^ p * q + x) ≡ above_set (λ a. f (q * 2 ^ suc p + a)) p x
  unfolding Within
  low_half x l = ap (swept p f) (lower x) ∙ ih (2 * q) x l ∙ above_same _ _ p x (λ a. ap f (sym (turned a ∙ lower a)))

  high_half : (x : ℕ) → x < 2 ^ p → swept p f (2 * 2 ^ p * q + (x + 2 ^ p)) ≡ above_set (λ a. f (q * 2 ^ suc p + (a + 2 ^ p))) p x
  unfolding Within
  high_half x l = ap (swept p f) (upper x) ∙ ih (2 * q + 1) x l ∙ above_same _ _ p x (λ a. ap f (sym (turned (a + 2 ^ p) ∙ upper a)))

  within_next : (r : ℕ) → r < 2 ^ suc p → swept (suc p) f (q * 2 ^ suc p + r) ≡ above_set (λ a. f (q * 2 ^ suc p + a)) (suc p) r
  unfolding swept swept_over
  within_next r h = cases (below_or_above r (2 ^ p))
    where
      cases : (r < 2 ^ p) ⊎ (2 ^ p ≤ r) → swept (suc p) f (q * 2 ^ suc p + r) ≡ above_set (λ a. f (q * 2 ^ suc p + a)) (suc p) r
      cases (inl l) =
          ap (swept (suc p) f) (turned r)
          ∙ ap (λ (t : Bool). swept p f (2 * 2 ^ p * q + r) + cond t 0 (swept p f (2 * 2 ^ p * q + r + 2 ^ p))) (lower_lacks p q r l)
          ∙ ap₂ (λ (u v : ℕ). u + v) (low_half r l) (ap (swept p f) (add_assoc (2 * 2 ^ p * q) r (2 ^ p)) ∙ high_half r l)
          ∙ sym (above_last (λ a. f (q * 2 ^ suc p + a)) p r l)
      cases (inr l) =
          let s : ℕ = r - 2 ^ p in
          let small : s < 2 ^ p = omega (arith, pow-succ' 2 p) in
          let rest : r ≡ s + 2 ^ p = omega arith in
          ap (swept (suc p) f) (turned r ∙ ap (λ (x : ℕ). 2 * 2 ^ p * q + x) rest)
          ∙ ap (λ (t : Bool). swept p f (2 * 2 ^ p * q + (s + 2 ^ p)) + cond t 0 (swept p f (2 * 2 ^ p * q + (s + 2 ^ p) + 2 ^ p)))
          (ap (λ (x : ℕ). has (2 * 2 ^ p * q + x) p) (add_comm s (2 ^ p)) ∙ upper_has p q s small)
          ∙ add-zero _ ∙ high_half s small ∙ sym (above_with (λ a. f (q * 2 ^ suc p + a)) p s small)
          ∙ ap (above_set (λ a. f (q * 2 ^ suc p + a)) (suc p)) (sym rest)

within_all : (p : ℕ) (f : ℕ → ℕ) → Within p f
unfolding Within swept above_set sum_below holds
within_all zero f q r h = rw (lt-one h) (sym (zero-add _))
within_all (suc p) f q r h = within_next p f (within_all p f) q r h

-- after all parts each set has what the sets that hold it had
pub swept_all : (n : ℕ) (f : ℕ → ℕ) (b : ℕ) → b < 2 ^ n → swept n f b ≡ sum_below (λ a. cond (holds a b) (f a) 0) (2 ^ n)
unfolding above_set Within
swept_all n f b h =
    ap (swept n f) (sym (start b)) ∙ within_all n f 0 b h ∙ sum_below_same _ _ (2 ^ n) (λ a l. ap (λ (x : ℕ). cond (holds a b) (f x) 0) (start a))
  where
    start : (x : ℕ) → 0 * 2 ^ n + x ≡ x
    start x = omega arith

-- ---- what search is told

-- of the cells part after part
pub ruleset parts = (swept_none, swept_more, swept_low)

-- of the cells block after block
pub ruleset blocks = (block_room, block_long, block_few, block_back, blocks_none, blocks_all, filled_length)
