-- What the pairs of nested path sets give: the joint tail, and its differences, which are the counts of the square. Assumes nothing.
use mathlib.Core.Path.{◌≡◌, refl, sym, ap, ap₂, ◌∙◌}
use mathlib.Core.Bool.{Bool}
use mathlib.Core.List.{List}
use mathlib.Core.Logic.{◌⊎◌, inl, inr}
use Prim.Native.Nat.{ℕ, zero, suc, ◌+◌, ◌-◌, ◌*◌, ◌/◌, ◌%◌, ◌≤◌, ◌<◌, min}
use native.Mathlib.Nat.{min-eq_left, le_trans, le_of_eq, mul_comm, mul-le-mul, mul-le-mul_right, lt_of_lt_of_le, div-lt_iff_lt-mul, mod-lt, mul-zero, not-suc-le-zero, zero-lt-suc}
use native.Mathlib.Numerals.{add-one}
use native.Mathlib.Omega.{arith}
use lib.ListN.{length, get_or}
use borrow.Author.Tests.{le-leb, lt-leb}
use Rattle.std.specs.Prelude.{Ok}
use Rattle.numbers.specs.Counts.{factorial}
use Rattle.numbers.specs.Tables.{tabulate}
use Rattle.numbers.proofs.Bounds.{below_or_above}
use Rattle.numbers.proofs.Counts.{factorials_few, factorial_rises}
use Rattle.numbers.proofs.Tables.{filled_none, filled_again, tabulate_at, tabulate_same, tabulate_length}
use Rattle.theory_sets.specs.Tables.{in_table}
use Rattle.answer.proofs.Outcomes.{then_accepted}
use Rattle.structure_words.specs.Words.{in_words, words_of}
use Rattle.structure_words.proofs.Words.{words_say}
use Rattle.structure.specs.Accepted.{AcceptedTable}
use Rattle.structure.specs.Checks.{table_refusal}
use Rattle.structure.proofs.Acceptance.{accepted_table}
use Rattle.theory_joint.specs.Joint.{joint_count, joint_square}
use Rattle.theory_joint.specs.Formula.{nestings, nested_pairs}
use Rattle.theory_joint.proofs.Nested.{survivals, survivals_transposed, survivals_most, survivals_nested}
use Rattle.theory_joint.proofs.Formula.{joint_step}
use Rattle.theory_joint.proofs.Pairs.{pairs_same}
use Rattle.joint.specs.Refusals.{joint_refusal}
use Rattle.joint.specs.Inside.{pairs_by_size, Counted, tail_by, cell_by}

-- no product of factorials of parts that are 16 together is over 16!
pub two_few : (x y : ℕ) → x + y ≤ 16 → factorial x * factorial y ≤ 20922789888000
unfolding factorial
two_few x y h = le_trans (factorials_few x y (x + y) (le_of_eq refl)) (factorial_rises (x + y) 16 h)

pub three_few : (x y z : ℕ) → x + y + z ≤ 16 → factorial x * factorial y * factorial z ≤ 20922789888000
unfolding factorial
three_few x y z h = le_trans (mul-le-mul_right (factorial z) (factorials_few x y (x + y) (le_of_eq refl))) (factorials_few (x + y) z 16 h)

-- an entry of a row
pair_at : (n : ℕ) (one other : ℕ → Bool) (i j : ℕ) → i ≤ 16 → j ≤ 16 → get_or (pairs_by_size n one other) (17 * i + j) 0 ≡ nested_pairs n one other i j
pair_at n one other i j hi hj =
    let row : (17 * i + j) / 17 ≡ i = omega arith in
    let column : (17 * i + j) % 17 ≡ j = omega arith in
    tabulate_at 289 (λ c. nested_pairs n one other (c / 17) (c % 17)) (17 * i + j) 0 (omega arith) ∙ ap₂ (nested_pairs n one other) row column

-- the pairs of two sizes, times the ways to order the parts
nested_tail : (n : ℕ) (one other : ℕ → Bool) (pairs : List ℕ) → n ≤ 16 → pairs ≡ pairs_by_size n one other → (k l : ℕ) → k ≤ l → l ≤ n
    → get_or pairs (17 * (n - k) + (n - l)) 0 * (factorial k * factorial (l - k) * factorial (n - l)) ≡ survivals n one other k l
nested_tail n one other pairs few is k l le h =
    let sizes : n - k - (n - l) ≡ l - k = omega arith in
    let back : n - (n - k) ≡ k = omega arith in
    let back' : n - (n - l) ≡ l = omega arith in
    ap₂ (λ (x : ℕ) (xs : List ℕ). get_or xs (17 * (n - k) + (n - l)) 0 * x) ways is
    ∙ ap (λ (x : ℕ). x * nestings n (n - k) (n - l)) (pair_at n one other (n - k) (n - l) (omega arith) (omega arith))
    ∙ mul_comm (nested_pairs n one other (n - k) (n - l)) (nestings n (n - k) (n - l))
    ∙ sym (survivals_nested n one other (n - k) (n - l) (omega arith) (omega arith)) ∙ ap₂ (survivals n one other) back back'
  where
    ways : factorial k * factorial (l - k) * factorial (n - l) ≡ nestings n (n - k) (n - l)
    ways =
        let sizes : l - k ≡ n - k - (n - l) = omega arith in
        let back : k ≡ n - (n - k) = omega arith in
        ap₂ (λ (x y : ℕ). factorial x * factorial y * factorial (n - l)) back sizes

-- which pairs the tail goes by
pub tail_within : (n : ℕ) (within around : List ℕ) (k l : ℕ) → k ≤ l
    → get_or within (17 * (n - k) + (n - l)) 0 * (factorial k * factorial (l - k) * factorial (n - l)) ≡ tail_by n within around k l
unfolding tail_by
tail_within n within around k l le = rw (le-leb k l le)

pub tail_around : (n : ℕ) (within around : List ℕ) (k l : ℕ) → l < k
    → get_or around (17 * (n - l) + (n - k)) 0 * (factorial l * factorial (k - l) * factorial (n - k)) ≡ tail_by n within around k l
unfolding tail_by
tail_around n within around k l less = rw (lt-leb k l less)

module _ (n : ℕ) (within around : List ℕ) (counted : Counted n within around) where
  -- the joint tail
  pub tail_is : (k l : ℕ) → k ≤ n → l ≤ n → tail_by n within around k l ≡ survivals n counted.one counted.other k l
  unfolding tail_by
  tail_is k l hk hl = cases (below_or_above l k)
    where
      cases : (l < k) ⊎ (k ≤ l) → tail_by n within around k l ≡ survivals n counted.one counted.other k l
      cases (inr le) = rw (le-leb k l le) (nested_tail n counted.one counted.other within counted.few counted.is_within k l le hl)
      cases (inl less) =
          rw (lt-leb k l less)
          (nested_tail n counted.other counted.one around counted.few counted.is_around l k (omega arith) hk
          ∙ survivals_transposed n counted.other counted.one l k)

  -- no tail is over 16!
  pub tail_few : (k l : ℕ) → k ≤ n → l ≤ n → tail_by n within around k l ≤ 20922789888000
  unfolding factorial
  tail_few k l hk hl =
      le_trans (le_of_eq (tail_is k l hk hl)) (le_trans (survivals_most n counted.one counted.other k l) (factorial_rises n 16 counted.few))

  -- what is taken is not over what there is, and what is left is the count
  pub cell_is : (k l : ℕ) → k < n → l < n
      → (tail_by n within around (k + 1) l + tail_by n within around k (l + 1) ≤ tail_by n within around k l + tail_by n within around (k + 1) (l + 1))
      × (cell_by n within around k l ≡ joint_count n counted.one counted.other (suc k) (suc l))
  unfolding cell_by
  cell_is k l hk hl =
      let step = joint_step n counted.one counted.other counted.one_coherent counted.other_coherent k l hk hl in
      let works = survivals n counted.one counted.other in
      let at = tail_is k l (omega arith) (omega arith) in
      let after = tail_is (k + 1) (l + 1) (omega arith) (omega arith) ∙ ap₂ works (add-one k) (add-one l) in
      let after_first = tail_is (k + 1) l (omega arith) (omega arith) ∙ ap (λ (x : ℕ). works x l) (add-one k) in
      let after_second = tail_is k (l + 1) (omega arith) (omega arith) ∙ ap (works k) (add-one l) in
      (omega (arith, step, at, after, after_first, after_second), omega (arith, step, at, after, after_first, after_second))

  pub cell_less : (k l : ℕ) → k < n → l < n
      → (tail_by n within around k l ≡ tail_by n within around k l)
      × (tail_by n within around (k + 1) l + tail_by n within around k (l + 1) ≤ tail_by n within around k l + tail_by n within around (k + 1) (l + 1))
  cell_less k l hk hl = (refl, (cell_is k l hk hl).0)

  -- the product that the tail goes by
  pub within_few : (k l x w : ℕ) → k ≤ l → l ≤ n → x ≡ get_or within (17 * (n - k) + (n - l)) 0 → w ≡ factorial k * factorial (l - k) * factorial (n - l)
      → x * w ≤ 20922789888000
  within_few k l x w le h pairs ways =
      le_trans (le_of_eq (ap₂ (λ (u v : ℕ). u * v) pairs ways ∙ tail_within n within around k l le)) (tail_few k l (omega arith) h)

  pub around_few : (k l x w : ℕ) → l < k → k ≤ n → x ≡ get_or around (17 * (n - l) + (n - k)) 0 → w ≡ factorial l * factorial (k - l) * factorial (n - k)
      → x * w ≤ 20922789888000
  around_few k l x w less h pairs ways =
      le_trans (le_of_eq (ap₂ (λ (u v : ℕ). u * v) pairs ways ∙ tail_around n within around k l less)) (tail_few k l h (omega arith))

-- ---- the cells of a square

pub some_part : (n c : ℕ) → c < n * n → 0 < n
some_part zero c h = absurd (not-suc-le-zero (lt_of_lt_of_le h (le_of_eq (mul-zero 0))))
some_part (suc n) c h = zero-lt-suc n

pub square_row : (n c : ℕ) → c < n * n → c / n < n
square_row n c h = (div-lt_iff_lt-mul (some_part n c h)).1 h

pub square_column : (n c : ℕ) → c < n * n → c % n < n
square_column n c h = mod-lt c (some_part n c h)

-- the square of at most 16 parts
pub square_few : (n : ℕ) → n ≤ 16 → n * n ≤ 256
square_few n h = mul-le-mul h h

-- ---- the pairs of two accepted tables

pub tables_accepted : (n : ℕ) (first second : List ℕ) → joint_refusal n first second ≡ Ok tt → AcceptedTable n first × AcceptedTable n second
unfolding joint_refusal
tables_accepted n first second h =
    let both = then_accepted (table_refusal n first) (table_refusal n second) h in
    (accepted_table n first both.0, accepted_table n second both.1)

module _ (n : ℕ) (first second : List ℕ) (accepted : joint_refusal n first second ≡ Ok tt) (one other within around : List ℕ)
    (is_one : one ≡ words_of (in_table first)) (is-other : other ≡ words_of (in_table second))
    (is_within : within ≡ pairs_by_size (min n 16) (in_words one) (in_words other)) (is_around : around ≡ pairs_by_size (min n 16) (in_words other) (in_words one)) where
  pub counted_tables : Counted n within around
  counted_tables =
      let tables = tables_accepted n first second accepted in
      let few = tables.0.few in
      let parts : min n 16 ≡ n = min-eq_left few in
      let same_one = words_say n (in_table first) one few is_one in
      let same_other = words_say n (in_table second) other few is-other in
      record {
        few = few;
        one = in_table first;
        other = in_table second;
        one_coherent = tables.0.semicoherent;
        other_coherent = tables.1.semicoherent;
        is_within = is_within ∙ tabulate_same 289 _ _ (λ c h.
            ap (λ (k : ℕ). nested_pairs k (in_words one) (in_words other) (c / 17) (c % 17)) parts
            ∙ pairs_same n (in_words one) (in_table first) (in_words other) (in_table second) same_one same_other (c / 17) (c % 17));
        is_around = is_around ∙ tabulate_same 289 _ _ (λ c h.
            ap (λ (k : ℕ). nested_pairs k (in_words other) (in_words one) (c / 17) (c % 17)) parts
            ∙ pairs_same n (in_words other) (in_table second) (in_words one) (in_table first) same_other same_one (c / 17) (c % 17));
      }

  pub square_is : tabulate (n * n) (λ c. cell_by n within around (c / n) (c % n)) ≡ joint_square n (in_table first) (in_table second)
  unfolding joint_square in_table counted_tables
  square_is = tabulate_same (n * n) _ _ (λ c h. (cell_is n within around counted_tables (c / n) (c % n) (square_row n c h) (square_column n c h)).1)

pub square_length : (n : ℕ) (first second : ℕ → Bool) → length (joint_square n first second) ≡ n * n
unfolding joint_square
square_length n first second = tabulate_length (n * n) _

-- ---- what search is told

-- of a cell that is written
pub ruleset writing = (filled_none, filled_again, some_part, square_row, square_column, square_few)
