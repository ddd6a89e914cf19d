-- What is gathered after a sweep are the pairs of three outer sizes, each in its lane; no lane runs over. Assumes nothing.
use mathlib.Core.Path.{◌≡◌, refl, sym, ap, ap₂, ◌∙◌, subst}
use mathlib.Core.Bool.{Bool, true, false, cond, ◌&&◌}
use mathlib.Core.List.{List, []}
use mathlib.Core.Logic.{◌⊎◌, inl, inr}
use Prim.Native.Nat.{ℕ, zero, suc, ◌+◌, ◌*◌, ◌/◌, ◌%◌, ◌^◌, ◌≤◌, ◌<◌, zero-le, min}
use native.Mathlib.Nat.{add-zero, mul-zero, zero-mul, one-mul, mul-one, le_trans, min-le_right, le_of_eq, lt_of_le_of_lt}
use native.Mathlib.Omega.{arith}
use lib.Count.{ones-le}
use lib.Dec.{eqb}
use lib.ListN.{length, get_or}
use lib.Pow.{pow_mono}
use borrow.Author.Tests.{eqb-true, eqb-false, eq-eqb, ne_eqb}
use Rattle.numbers.specs.Tables.{tabulate, NoneOver}
use Rattle.numbers.proofs.Bools.{true_or_false}
use Rattle.numbers.proofs.Tables.{tabulate_at, tabulate_length, tabulate_same, tabulate_few}
use Rattle.theory_sums.specs.Sums.{indicator, sum_below, sum_sets, gathered}
use Rattle.theory_sums.proofs.Sums.{sum_below_same, sum_below_zero, sum_below_add, sum_below_mul, sum_below_exchange}
use Rattle.theory_sets.specs.Masks.{size, holds}
use Rattle.theory_joint.specs.Formula.{path_of, nested_pairs}
use Rattle.theory_joint.proofs.Pairs.{pairs_few}
use Rattle.joint_pairs.specs.Inside.{lane_of, mark_of, swept, cell_of, cells_by_size, Fits, packed_pairs, packed_row}
use Rattle.joint_pairs.proofs.Packing.{bit_few}
use Rattle.joint_pairs.proofs.Sweeping.{swept_all}

-- ---- lanes

-- the lane of a size, as a sum over the three sizes
lane_sum : (third s : ℕ)
    → lane_of third s ≡ indicator (eqb s (3 * third)) + 2 ^ 21 * indicator (eqb s (3 * third + 1)) + 2 ^ 42 * indicator (eqb s (3 * third + 2))
unfolding lane_of
lane_sum third s = cases (true_or_false (eqb (s / 3) third))
  where
    other : (k : ℕ) → (s ≡ k → ⊥) → indicator (eqb s k) ≡ 0
    other k differ = ap indicator (ne_eqb s k differ)

    one : (k : ℕ) → s ≡ k → indicator (eqb s k) ≡ 1
    one k same = ap indicator (eq-eqb s k same)

    sum : ℕ
    sum = indicator (eqb s (3 * third)) + 2 ^ 21 * indicator (eqb s (3 * third + 1)) + 2 ^ 42 * indicator (eqb s (3 * third + 2))

    lanes : (x : ℕ) → s % 3 ≡ x → x < 3 → s / 3 ≡ third → 2 ^ (21 * x) ≡ sum
    lanes zero e h t = omega (arith, one (3 * third) (omega arith), other (3 * third + 1) (λ k. omega arith), other (3 * third + 2) (λ k. omega arith))
    lanes (suc zero) e h t = omega (arith, other (3 * third) (λ k. omega arith), one (3 * third + 1) (omega arith), other (3 * third + 2) (λ k. omega arith))
    lanes (suc (suc zero)) e h t = omega (arith, other (3 * third) (λ k. omega arith), other (3 * third + 1) (λ k. omega arith), one (3 * third + 2) (omega arith))
    lanes (suc (suc (suc x))) e h t = absurd (omega arith)

    cases : (eqb (s / 3) third ≡ true) ⊎ (eqb (s / 3) third ≡ false) → cond (eqb (s / 3) third) (2 ^ (21 * (s % 3))) 0 ≡ sum
    cases (inl t) = rw t (lanes (s % 3) refl (omega arith) (eqb-true (s / 3) third t))
    cases (inr f) =
        let apart = eqb-false (s / 3) third f in
        rw f (omega (arith, other (3 * third) (λ k. apart (omega arith)), other (3 * third + 1) (λ k. apart (omega arith)), other (3 * third + 2) (λ k. apart (omega arith))))

module _ (n : ℕ) (outer inner : ℕ → Bool) (third j : ℕ) where
  -- what marks a set
  mark : ℕ → ℕ
  mark a = indicator (outer a) * lane_of third (size a)

  -- how many path sets of the inner machine with j parts a set holds
  held : ℕ → ℕ
  held a = sum_sets n (λ b. path_of inner j b && holds a b) (λ b. 1)

  -- those of a path set with s parts
  held_by : ℕ → ℕ → ℕ
  held_by s a = cond (path_of outer s a) (held a) 0

  mark_held : (a : ℕ) → mark a * held a ≡ held_by (3 * third) a + 2 ^ 21 * held_by (3 * third + 1) a + 2 ^ 42 * held_by (3 * third + 2) a
  unfolding mark held_by
  mark_held a = cases (outer a)
    where
      h : ℕ
      h = held a

      alone : (p q r : Bool) → (indicator p + 2 ^ 21 * indicator q + 2 ^ 42 * indicator r) * h ≡ cond p h 0 + 2 ^ 21 * cond q h 0 + 2 ^ 42 * cond r h 0
      alone true true true = omega arith
      alone true true false = omega arith
      alone true false true = omega arith
      alone true false false = omega arith
      alone false true true = omega arith
      alone false true false = omega arith
      alone false false true = omega arith
      alone false false false = omega arith

      cases : (w : Bool) → indicator w * lane_of third (size a) * h
          ≡ cond (w && eqb (size a) (3 * third)) h 0 + 2 ^ 21 * cond (w && eqb (size a) (3 * third + 1)) h 0 + 2 ^ 42 * cond (w && eqb (size a) (3 * third + 2)) h 0
      cases true =
          ap (λ (x : ℕ). x * h) (one-mul (lane_of third (size a)) ∙ lane_sum third (size a))
          ∙ alone (eqb (size a) (3 * third)) (eqb (size a) (3 * third + 1)) (eqb (size a) (3 * third + 2))
      cases false = ap (λ (x : ℕ). x * h) (zero-mul (lane_of third (size a))) ∙ zero-mul h

  -- the sum over the inner path sets of what the sets that hold them are marked with
  marks_above : sum_below (λ b. cond (path_of inner j b) (sum_below (λ a. cond (holds a b) (mark a) 0) (2 ^ n)) 0) (2 ^ n) ≡ packed_pairs n outer inner third j
  unfolding packed_pairs nested_pairs held held_by
  marks_above =
      sum_below_same _ (λ b. sum_below (λ a. mark a * cond (path_of inner j b && holds a b) 1 0) (2 ^ n)) (2 ^ n) (λ b hb. inward (path_of inner j b) b)
      ∙ sum_below_exchange (λ b a. mark a * cond (path_of inner j b && holds a b) 1 0) (2 ^ n) (2 ^ n)
      ∙ sum_below_same _ (λ a. held_by (3 * third) a + 2 ^ 21 * held_by (3 * third + 1) a + 2 ^ 42 * held_by (3 * third + 2) a) (2 ^ n)
      (λ a ha. sum_below_mul (mark a) (λ b. cond (path_of inner j b && holds a b) 1 0) (2 ^ n) ∙ mark_held a)
      ∙ sum_below_add (λ a. held_by (3 * third) a + 2 ^ 21 * held_by (3 * third + 1) a) (λ a. 2 ^ 42 * held_by (3 * third + 2) a) (2 ^ n)
      ∙ ap₂ (λ (u v : ℕ). u + v)
      (sum_below_add (held_by (3 * third)) (λ a. 2 ^ 21 * held_by (3 * third + 1) a) (2 ^ n)
      ∙ ap (λ (u : ℕ). sum_below (held_by (3 * third)) (2 ^ n) + u) (sum_below_mul (2 ^ 21) (held_by (3 * third + 1)) (2 ^ n)))
      (sum_below_mul (2 ^ 42) (held_by (3 * third + 2)) (2 ^ n))
    where
      term : (p q : Bool) (x : ℕ) → cond p (cond q x 0) 0 ≡ x * cond (p && q) 1 0
      term true true x = sym (mul-one x)
      term true false x = sym (mul-zero x)
      term false q x = sym (mul-zero x)

      none : (x : ℕ) → 0 ≡ x * 0
      none x = sym (mul-zero x)

      inward : (p : Bool) (b : ℕ) → cond p (sum_below (λ a. cond (holds a b) (mark a) 0) (2 ^ n)) 0 ≡ sum_below (λ a. mark a * cond (p && holds a b) 1 0) (2 ^ n)
      inward true b = sum_below_same _ _ (2 ^ n) (λ a ha. term true (holds a b) (mark a))
      inward false b = sym (sum_below_same _ (λ a. 0) (2 ^ n) (λ a ha. mul-zero (mark a)) ∙ sum_below_zero (2 ^ n))

  module _ (few : n ≤ 16) (lanes marked cells : List ℕ) (is-lanes : lanes ≡ tabulate 17 (lane_of third)) (is_marked : marked ≡ tabulate (2 ^ n) (mark_of outer lanes))
      (is-swept : cells ≡ tabulate (2 ^ n) (swept n (cell_of marked))) where
    marked_at : (a : ℕ) → a < 2 ^ n → get_or marked a 0 ≡ mark a
    unfolding mark_of mark
    marked_at a h =
        ap (λ (xs : List ℕ). get_or xs a 0) is_marked ∙ tabulate_at (2 ^ n) (mark_of outer lanes) a 0 h
        ∙ ap (λ (x : ℕ). indicator (outer a) * x)
        (ap (λ (xs : List ℕ). get_or xs (size a) 0) is-lanes ∙ tabulate_at 17 (lane_of third) (size a) 0 (omega (arith, ones-le n a h)))

    cell_at : (b : ℕ) → b < 2 ^ n → get_or cells b 0 ≡ sum_below (λ a. cond (holds a b) (mark a) 0) (2 ^ n)
    unfolding cell_of
    cell_at b h =
        ap (λ (xs : List ℕ). get_or xs b 0) is-swept ∙ tabulate_at (2 ^ n) (swept n (cell_of marked)) b 0 h ∙ swept_all n (cell_of marked) b h
        ∙ sum_below_same _ _ (2 ^ n) (λ a l. ap (λ (x : ℕ). cond (holds a b) x 0) (marked_at a l))

    pub gathered_pairs : cells_by_size inner cells (2 ^ n) j ≡ packed_pairs n outer inner third j
    unfolding gathered cell_of
    gathered_pairs = sum_below_same _ _ (2 ^ n) (λ b h. ap (λ (x : ℕ). cond (path_of inner j b) x 0) (cell_at b h)) ∙ marks_above

-- no mark is over 2^42
pub lanes_few : (third : ℕ) (lanes : List ℕ) → lanes ≡ tabulate 17 (lane_of third) → NoneOver (2 ^ 42) lanes
unfolding lane_of
lanes_few third lanes is =
    subst (λ (xs : List ℕ). NoneOver (2 ^ 42) xs) (sym is)
    (tabulate_few 17 (lane_of third) (2 ^ 42) (λ s. one (eqb (s / 3) third) (s % 3) (omega arith)))
  where
    one : (t : Bool) (x : ℕ) → x < 3 → cond t (2 ^ (21 * x)) 0 ≤ 2 ^ 42
    one false x h = zero-le
    one true x h = pow_mono {i = 21 * x} {j = 42} (omega arith)

pub marks_few : (n : ℕ) (outer : ℕ → Bool) (lanes marked : List ℕ) → NoneOver (2 ^ 42) lanes → marked ≡ tabulate (2 ^ n) (mark_of outer lanes) → NoneOver (2 ^ 42) marked
unfolding mark_of
marks_few n outer lanes marked few is =
    subst (λ (xs : List ℕ). NoneOver (2 ^ 42) xs) (sym is)
    (tabulate_few (2 ^ n) (mark_of outer lanes) (2 ^ 42) (λ a. bit_few (outer a) (get_or lanes (size a) 0) (2 ^ 42) (few (size a))))

-- ---- no lane runs over

pub packed_fits : (n : ℕ) (outer inner : ℕ → Bool) (third j : ℕ) → n ≤ 16 → packed_pairs n outer inner third j < 2 ^ 64
unfolding packed_pairs
packed_fits n outer inner third j few =
    omega (arith, pairs_few n outer inner (3 * third) j few, pairs_few n outer inner (3 * third + 1) j few, pairs_few n outer inner (3 * third + 2) j few)

module _ (n : ℕ) (outer inner : ℕ → Bool) (third : ℕ) (few : n ≤ 16) (lanes marked cells : List ℕ) (is-lanes : lanes ≡ tabulate 17 (lane_of third))
    (is_marked : marked ≡ tabulate (2 ^ n) (mark_of outer lanes)) (is-swept : cells ≡ tabulate (2 ^ n) (swept n (cell_of marked))) where
  pub cells_long : length cells ≡ 2 ^ n
  cells_long = ap length is-swept ∙ tabulate_length (2 ^ n) _

  pairs_of : (j : ℕ) → cells_by_size inner cells (length cells) j ≡ packed_pairs n outer inner third j
  pairs_of j = ap (λ (t : ℕ). cells_by_size inner cells t j) cells_long ∙ gathered_pairs n outer inner third j few lanes marked cells is-lanes is_marked is-swept

  pub cells_fit : Fits inner cells
  cells_fit j = lt_of_le_of_lt (le_of_eq (pairs_of j)) (packed_fits n outer inner third j few)

  pub cells_gathered : packed_row n outer inner third ≡ tabulate 17 (cells_by_size inner cells (length cells))
  unfolding packed_row
  cells_gathered = sym (tabulate_same 17 _ _ (λ j h. pairs_of j))

-- each lane of a packed number is taken out whole
lane_out : (x y z k : ℕ) → x < 2 ^ 21 → y < 2 ^ 21 → z < 2 ^ 21 → k < 3 → (r : ℕ → ℕ) → r 0 ≡ x → r 1 ≡ y → r 2 ≡ z
    → (x + 2 ^ 21 * y + 2 ^ 42 * z) / 2 ^ (21 * k) % 2 ^ 21 ≡ r k
lane_out x y z zero hx hy hz h r e f g = omega (arith, e)
lane_out x y z (suc zero) hx hy hz h r e f g = omega (arith, f)
lane_out x y z (suc (suc zero)) hx hy hz h r e f g = omega (arith, g)
lane_out x y z (suc (suc (suc k))) hx hy hz h r e f g = absurd (omega arith)

unpacked_is : (n : ℕ) (outer inner : ℕ → Bool) (rows : List (List ℕ)) → n ≤ 16 → rows ≡ tabulate 6 (packed_row n outer inner) → (c : ℕ) → c < 289
    → get_or (get_or rows (c / 51) []) (c % 17) 0 / 2 ^ (21 * (c / 17 % 3)) % 2 ^ 21 ≡ nested_pairs n outer inner (c / 17) (c % 17)
unfolding packed_row packed_pairs
unpacked_is n outer inner rows few is c h =
    let pairs : ℕ → ℕ = λ i. nested_pairs n outer inner i (c % 17) in
    let base : ℕ = 3 * (c / 51) in
    let row : base + c / 17 % 3 ≡ c / 17 = omega arith in
    ap (λ (x : ℕ). x / 2 ^ (21 * (c / 17 % 3)) % 2 ^ 21)
    (ap (λ (xs : List (List ℕ)). get_or (get_or xs (c / 51) []) (c % 17) 0) is
    ∙ ap (λ (xs : List ℕ). get_or xs (c % 17) 0) (tabulate_at 6 (packed_row n outer inner) (c / 51) [] (omega arith))
    ∙ tabulate_at 17 (packed_pairs n outer inner (c / 51)) (c % 17) 0 (omega arith))
    ∙ lane_out (pairs base) (pairs (base + 1)) (pairs (base + 2)) (c / 17 % 3) (pairs_few n outer inner base (c % 17) few) (pairs_few n outer inner (base + 1) (c % 17) few)
    (pairs_few n outer inner (base + 2) (c % 17) few) (omega arith) (λ k. pairs (base + k)) (ap pairs (add-zero base)) refl refl
    ∙ ap pairs row

pub pairs_unpacked : (n k : ℕ) (outer inner : ℕ → Bool) (rows : List (List ℕ)) → rows ≡ tabulate 6 (packed_row k outer inner) → k ≡ min n 16
    → tabulate 289 (λ c. get_or (get_or rows (c / 51) []) (c % 17) 0 / 2 ^ (21 * (c / 17 % 3)) % 2 ^ 21)
    ≡ tabulate 289 (λ c. nested_pairs (min n 16) outer inner (c / 17) (c % 17))
pairs_unpacked n k outer inner rows is cut =
    tabulate_same 289 _ _ (λ c h.
    unpacked_is k outer inner rows (le_trans (le_of_eq cut) (min-le_right n 16)) is c h
    ∙ ap (λ (m : ℕ). nested_pairs m outer inner (c / 17) (c % 17)) cut)

-- ---- what search is told

-- of the cells as they are marked, swept and gathered
pub ruleset rows = (lanes_few, marks_few, cells_long, cells_fit, cells_gathered)
