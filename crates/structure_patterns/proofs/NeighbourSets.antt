-- Neighbours as sets: one more part joins the set, the sets of a row are the first of the ring's, and as a list of cut sets they are accepted and
-- give the row and the ring. Assumes nothing.
use mathlib.Core.Path.{◌≡◌, sym, ap, ap₂, subst, ◌∙◌}
use mathlib.Core.Bool.{Bool, ◌||◌}
use mathlib.Core.List.{List}
use Prim.Native.Nat.{ℕ, suc, ◌+◌, ◌-◌, ◌*◌, ◌%◌, ◌^◌, ◌≤◌, ◌<◌}
use native.Mathlib.Nat.{mod-eq_of_lt, mod-lt, one-mul}
use native.Mathlib.Numerals.{add-one}
use native.Mathlib.Omega.{arith}
use lib.Bits.{or_lt}
use lib.Dec.{eqb}
use lib.Pow.{pow-lt, pow_pos}
use Rattle.std.specs.Prelude.{Ok}
use Rattle.numbers.proofs.Tables.{tabulate_length, tabulate_same}
use Rattle.theory_sets.specs.Masks.{has, any, join}
use Rattle.theory_sets.specs.Tables.{table_of}
use Rattle.theory_sets.proofs.Masks.{has_empty, has_join, has_single}
use Rattle.theory_sets.proofs.Ranges.{any_same}
use Rattle.theory_sets.proofs.Tables.{has_packed, packed_below, packed_same, packed_unique, table_of_same}
use Rattle.theory_cuts.specs.Cuts.{by_cuts}
use Rattle.theory_patterns.specs.Patterns.{set_of, row, ring, row_family, ring_family}
use Rattle.theory_patterns.proofs.Families.{numbered_stopped, row_stopped, ring_stopped}
use Rattle.structure.specs.Checks.{list_refusal}
use Rattle.structure.proofs.Acceptance.{list_accepted}
use Rattle.structure_patterns.specs.Inside.{neighbours_from, first_neighbours}

-- ---- a set grows by one part

pub set_none : (n : ℕ) (part : ℕ → ℕ) → 0 ≡ set_of n 0 part
unfolding any
set_none n part = packed_unique n (λ bit. any (λ j. eqb bit (part j)) 0) 0 (pow_pos n) (λ i l. has_empty i)

pub set_more : (n k : ℕ) (part : ℕ → ℕ) (set : ℕ) → part k < n → set ≡ set_of n k part → join set (2 ^ part k) ≡ set_of n (k + 1) part
unfolding any
set_more n k part set inside e =
    packed_unique n (λ bit. any (λ j. eqb bit (part j)) (suc k)) (join set (2 ^ part k))
    (or_lt n set (2 ^ part k) (subst (λ (x : ℕ). x < 2 ^ n) (sym e) (packed_below n (λ bit. any (λ j. eqb bit (part j)) k))) (pow-lt inside))
    (λ i l.
    has_join set (2 ^ part k) i
    ∙ ap₂ (λ (p q : Bool). p || q) (ap (λ (x : ℕ). has x i) e ∙ has_packed n (λ bit. any (λ j. eqb bit (part j)) k) i l) (has_single (part k) i))
    ∙ ap (λ (m : ℕ). set_of n m part) (sym (add-one k))

-- the next neighbour of a ring of n parts, as a bit of 16
pub neighbour_more : (n i j set : ℕ) → 1 ≤ n → n ≤ 16 → set ≡ neighbours_from n j i → join set (1 * 2 ^ ((i + j) % n) % 2 ^ 16) ≡ neighbours_from n (j + 1) i
neighbour_more n i j set some few e =
    let near : (i + j) % n < n = mod-lt (i + j) some in
    let low : (i + j) % n < 16 = omega arith in
    ap (λ (x : ℕ). join set (x % 2 ^ 16)) (one-mul (2 ^ ((i + j) % n))) ∙ ap (join set) (mod-eq_of_lt (pow-lt low))
    ∙ set_more n j (λ j. (i + j) % n) set near e

-- ---- the sets of a row are the first of the ring's

row_first : (n k : ℕ) → row_family n k ≡ first_neighbours n k (n + 1 - k)
row_first n k =
    tabulate_same (n + 1 - k) (λ i. set_of n k (λ j. i + j)) (neighbours_from n k) (λ i l.
    packed_same n (λ bit. any (λ j. eqb bit (i + j)) k) (λ bit. any (λ j. eqb bit ((i + j) % n)) k) (λ bit h.
    any_same (λ j. eqb bit (i + j)) (λ j. eqb bit ((i + j) % n)) k (λ j m.
    let near : i + j < n = omega arith in ap (eqb bit) (sym (mod-eq_of_lt near)))))

module _ (n k : ℕ) (some : 1 ≤ k) (most : k ≤ n) where
  -- as a list of cut sets they are accepted
  pub neighbours_accepted : (count : ℕ) → n ≤ 16 → 1 ≤ count → count ≤ n → list_refusal n (first_neighbours n k count) ≡ Ok tt
  neighbours_accepted count few any_set short =
      let stopped = numbered_stopped n k count (λ i j. (i + j) % n) some any_set (λ i j l m. mod-lt (i + j) (omega arith)) in
      list_accepted n (first_neighbours n k count) (record {
        some = omega arith;
        few = few;
        any_set = stopped.some;
        most = omega (arith, tabulate_length count (neighbours_from n k));
        sets = stopped.sets;
      })

  -- and give the row and the ring
  pub row_table : table_of n (by_cuts n (first_neighbours n k (n + 1 - k))) ≡ table_of n (row n k)
  row_table =
      ap (λ (sets : List ℕ). table_of n (by_cuts n sets)) (sym (row_first n k))
      ∙ table_of_same n (by_cuts n (row_family n k)) (row n k) (λ a h. sym ((row_stopped n k some most).exactly a h))

  pub ring_table : table_of n (by_cuts n (first_neighbours n k n)) ≡ table_of n (ring n k)
  ring_table = table_of_same n (by_cuts n (ring_family n k)) (ring n k) (λ a h. sym ((ring_stopped n k some most).exactly a h))
