-- The set-by-set route: the weights of a path set stay in range, and what the path sets add and take by their parts in the group are the two sums
-- of each share. Assumes nothing.
use mathlib.Core.Path.{◌≡◌, refl, sym, ap, ap₂, ◌∙◌}
use mathlib.Core.Bool.{Bool, true, false, cond, ◌&&◌, and-false}
use mathlib.Core.List.{List}
use mathlib.Core.Logic.{◌⊎◌, inl, inr}
use Prim.Native.Nat.{ℕ, zero, suc, zero-le, ◌+◌, ◌-◌, ◌*◌, ◌%◌, ◌^◌, ◌≤◌, ◌<◌}
use native.Mathlib.Decide.{ℕ_discrete}
use native.Mathlib.Nat.{mul-le-mul, mul_assoc, lt_of_lt_of_le, le_of_eq, le_trans}
use native.Mathlib.Numerals.{add-one}
use native.Mathlib.Omega.{arith}
use lib.Count.{ones-le}
use lib.Dec.{leb, eqb}
use lib.IntN.{pos, ◌-ℤ◌}
use lib.ListN.{length, get_or, set, replicate}
use lib.Pow.{pow_mono}
use borrow.Author.Tests.{ne_eqb, le-leb, lt-leb}
use Rattle.numbers.specs.Counts.{factorial}
use Rattle.numbers.specs.Tables.{tabulate}
use Rattle.numbers.proofs.Tables.{tabulate_at, tabulate_length, tabulate_same}
use Rattle.theory_sums.proofs.Sums.{sum_below_same}
use Rattle.theory_sets.specs.Masks.{size, inside}
use Rattle.theory_sets.specs.Tables.{in_table}
use Rattle.numbers.proofs.Bounds.{below_or_above}
use Rattle.theory_orders.specs.Formulas.{added, taken}
use Rattle.structure_words.specs.Words.{in_words, words_of}
use Rattle.numbers.proofs.Counts.{factorials_few, up_to_16_given}
use Rattle.shares_claim.specs.SetBySet.{share_of, shares_by_sets}
use Rattle.shares_claim.proofs.Types.{inside_most, inside_and_outside, outside_most}
use Rattle.theory_sums.specs.Sums.{gathered}
use Rattle.theory_sums.proofs.Gathering.{gathered_none, gathered_list_few, gathered_add, gathered_skip}
use Rattle.shares_group.proofs.Gathering.{gathered_words}
use Rattle.shares_by_sets.specs.Inside.{weight, added_by, taken_by}

-- ---- ranges

-- 15!
pub weight_few : (n s : ℕ) → n ≤ 16 → weight n s ≤ 1307674368000
unfolding weight factorial
weight_few n zero few = zero-le
weight_few n (suc s) few = cases (below_or_above s n)
  where
    cases : (s < n) ⊎ (n ≤ s) → cond (leb (suc s) n) (factorial s * factorial (n - suc s)) 0 ≤ 1307674368000
    cases (inl l) = rw (le-leb (suc s) n l) (factorials_few s (n - suc s) 15 (omega arith))
    cases (inr h) = let above : n < suc s = omega arith in rw (lt-leb (suc s) n above) zero-le

module _ (n group a : ℕ) (few : n ≤ 16) (within : group < 65536) (l : a < 65536) where
  pub inside_few : inside group a ≤ 16
  inside_few = omega (arith, inside_most 16 group a within l, ones-le 16 group within)

  pub added_by_few : added_by n group a ≤ 20922789888000
  unfolding added_by
  added_by_few = mul-le-mul inside_few (weight_few n (size a) few)

  pub taken_by_few : taken_by n group a ≤ 20922789888000
  unfolding taken_by
  taken_by_few =
      let lacks : size group - inside group a ≤ 16 = omega (arith, ones-le 16 group within) in mul-le-mul lacks (weight_few n (size a + 1) few)

-- ---- the two sums of a share

-- a weight is asked for only where the test passes
where_same : (works : Bool) (x i u v : ℕ) → (x ≡ i → u ≡ v) → cond (works && eqb x i) u 0 ≡ cond (works && eqb x i) v 0
where_same works x i u v h = cases (ℕ_discrete x i)
  where
    cases : Dec (x ≡ i) → cond (works && eqb x i) u 0 ≡ cond (works && eqb x i) v 0
    cases (yes e) = ap (λ (y : ℕ). cond (works && eqb x i) y 0) (h e)
    cases (no other) =
        let none : works && eqb x i ≡ false = ap (λ (t : Bool). works && t) (ne_eqb x i other) ∙ and-false works in
        ap (λ (t : Bool). cond t u 0) none ∙ sym (ap (λ (t : Bool). cond t v 0) none)

pub weight_none : (n s : ℕ) → s ≡ 0 → weight n s ≡ 0
unfolding weight
weight_none n s e = ap (weight n) e

pub weight_above : (n s : ℕ) → n < s → weight n s ≡ 0
unfolding weight
weight_above n zero h = refl
weight_above n (suc s) h = ap (λ (t : Bool). cond t (factorial s * factorial (n - suc s)) 0) (lt-leb (suc s) n h)

weight_at : (n s : ℕ) → s < n → weight n (suc s) ≡ factorial s * factorial (n - suc s)
unfolding weight
weight_at n s h = ap (λ (t : Bool). cond t (factorial s * factorial (n - suc s)) 0) (le-leb (suc s) n h)

pub weight_size : (n s : ℕ) → 1 ≤ s → s ≤ n → weight n s ≡ factorial (s - 1) * factorial (n - s)
weight_size n zero some most = absurd (omega arith)
weight_size n (suc s) some most =
    let same : suc s - 1 ≡ s = omega arith in rw same (weight_at n s most)

module _ (n : ℕ) (works : ℕ → Bool) (group : ℕ) (within : group < 2 ^ n) (k : ℕ) (l : k < size group) where
  gathered_added : gathered works (inside group) (added_by n group) (2 ^ n) (size group - k) ≡ added n works group (suc k)
  unfolding gathered added added_by
  gathered_added =
      let one : size group - suc k + 1 ≡ size group - k = omega arith in
      rw one (sum_below_same _ _ (2 ^ n) (λ a h. where_same (works a) (inside group a) (size group - k) _ _ (λ e. weighed a h (size a) refl e)))
    where
      weighed : (a : ℕ) → a < 2 ^ n → (s : ℕ) → size a ≡ s → inside group a ≡ size group - k
          → inside group a * weight n s ≡ (size group - k) * factorial (s - 1) * factorial (n - s)
      weighed a h zero is e = absurd (omega (arith, inside_and_outside n group a within h))
      weighed a h (suc s) is e =
          let low : s < n = omega (arith, ones-le n a h) in
          let same : suc s - 1 ≡ s = omega arith in
          rw same (ap₂ (λ (x y : ℕ). x * y) e (weight_at n s low) ∙ sym (mul_assoc (size group - k) (factorial s) (factorial (n - suc s))))

  gathered_taken : gathered works (inside group) (taken_by n group) (2 ^ n) (size group - (k + 1)) ≡ taken n works group (suc k)
  unfolding gathered taken taken_by
  gathered_taken =
      rw (add-one k) (sum_below_same _ _ (2 ^ n) (λ a h. where_same (works a) (inside group a) (size group - suc k) _ _ (weighed a h)))
    where
      weighed : (a : ℕ) → a < 2 ^ n → inside group a ≡ size group - suc k
          → (size group - inside group a) * weight n (size a + 1) ≡ suc k * factorial (size a) * factorial (n - size a - 1)
      weighed a h e =
          let low : size a < n = omega (arith, inside_and_outside n group a within h, outside_most n group a within h, ones-le n group within) in
          let lacks : size group - inside group a ≡ suc k = omega arith in
          let rest : n - size a - 1 ≡ n - suc (size a) = omega arith in
          rw (lacks, rest) (ap (λ (x : ℕ). suc k * x) (ap (weight n) (add-one (size a)) ∙ weight_at n (size a) low)
          ∙ sym (mul_assoc (suc k) (factorial (size a)) (factorial (n - suc (size a)))))

  pub gathered_share : pos (gathered works (inside group) (added_by n group) (2 ^ n) (size group - k))
      -ℤ pos (gathered works (inside group) (taken_by n group) (2 ^ n) (size group - (k + 1))) ≡ share_of n works group (suc k)
  unfolding share_of
  gathered_share = ap₂ (λ (x y : ℕ). pos x -ℤ pos y) gathered_added gathered_taken

-- ---- the shares

pub sets_shares : (n : ℕ) (table words : List ℕ) (group : ℕ) (adds takes : List ℕ) → n ≤ 16 → group < 2 ^ n → words ≡ words_of (in_table table)
    → adds ≡ tabulate 17 (gathered (in_words words) (inside group) (added_by n group) (2 ^ n))
    → takes ≡ tabulate 17 (gathered (in_words words) (inside group) (taken_by n group) (2 ^ n))
    → shares_by_sets n (in_table table) group ≡ tabulate (size group) (λ k. pos (get_or adds (size group - k) 0) -ℤ pos (get_or takes (size group - (k + 1)) 0))
unfolding shares_by_sets
sets_shares n table words group adds takes few within loaded is-added is-taken =
    sym (tabulate_same (size group) _ _ (λ k l.
    ap₂ (λ (x y : ℕ). pos x -ℤ pos y)
    (gathers adds (added_by n group) is-added (size group - k) (omega (arith, ones-le n group within)))
    (gathers takes (taken_by n group) is-taken (size group - (k + 1)) (omega (arith, ones-le n group within)))
    ∙ gathered_share n (in_table table) group within k l))
  where
    gathers : (cells : List ℕ) (amount : ℕ → ℕ) → cells ≡ tabulate 17 (gathered (in_words words) (inside group) amount (2 ^ n)) → (i : ℕ) → i < 17
        → get_or cells i 0 ≡ gathered (in_table table) (inside group) amount (2 ^ n) i
    gathers cells amount is i h =
        ap (λ (xs : List ℕ). get_or xs i 0) is ∙ tabulate_at 17 (gathered (in_words words) (inside group) amount (2 ^ n)) i 0 h
        ∙ gathered_words n table words (inside group) amount few loaded i

pub by_sets_length : (n : ℕ) (works : ℕ → Bool) (group : ℕ) → length (shares_by_sets n works group) ≡ size group
unfolding shares_by_sets
by_sets_length n works group = tabulate_length (size group) _

-- the sums over all sets are below 2^62
module _ (n : ℕ) (works : ℕ → Bool) (group : ℕ) (few : n ≤ 16) (within : group < 2 ^ n) where
  pub added_small : (cells : List ℕ) → cells ≡ tabulate 17 (gathered works (inside group) (added_by n group) (2 ^ n)) → (i : ℕ) → get_or cells i 0 < 2 ^ 62
  added_small cells is i =
      omega (
        arith,
        pow_mono few,
        gathered_list_few works (inside group) (added_by n group) 17 20922789888000 (2 ^ n) i cells is (λ a l.
            added_by_few n group a few (lt_of_lt_of_le within (pow_mono few)) (lt_of_lt_of_le l (pow_mono few))),
      )

  pub taken_small : (cells : List ℕ) → cells ≡ tabulate 17 (gathered works (inside group) (taken_by n group) (2 ^ n)) → (i : ℕ) → get_or cells i 0 < 2 ^ 62
  taken_small cells is i =
      omega (
        arith,
        pow_mono few,
        gathered_list_few works (inside group) (taken_by n group) 17 20922789888000 (2 ^ n) i cells is (λ a l.
            taken_by_few n group a few (lt_of_lt_of_le within (pow_mono few)) (lt_of_lt_of_le l (pow_mono few))),
      )

-- ---- the weights of all sizes

pub listed_weight : (n : ℕ) (weights : List ℕ) → weights ≡ tabulate 18 (weight n) → (s t : ℕ) → s < 18 → s ≡ t → get_or weights s 0 ≡ weight n t
listed_weight n weights is s t below same =
    ap (λ (l : List ℕ). get_or l s 0) is ∙ tabulate_at 18 (weight n) s 0 below ∙ ap (weight n) same

pub listed_fits : (n : ℕ) (weights : List ℕ) (s x : ℕ) → weights ≡ tabulate 18 (weight n) → n ≤ 16 → s < 18 → x ≤ 16 → x * get_or weights s 0 ≤ 20922789888000
listed_fits n weights s x is few below most =
    mul-le-mul most (le_trans (le_of_eq (listed_weight n weights is s s below refl)) (weight_few n s few))

-- the two factorials of a weight
pub factorials_fit : (n s : ℕ) → 1 ≤ s → s ≤ n → n ≤ 16 → (factorial (n - s) ≡ factorial (n - s)) × (factorial (s - 1) * factorial (n - s) ≤ 1307674368000)
unfolding factorial
factorials_fit n s some most few = (refl, factorials_few (s - 1) (n - s) 15 (omega arith))

-- ---- the parts of a set

pub size_few : (a : ℕ) → a < 65536 → size a ≤ 16
size_few a l = ones-le 16 a l

pub inside_at_most : (group a : ℕ) → group < 65536 → a < 65536 → inside group a ≤ size group
inside_at_most group a within l = inside_most 16 group a within l

pub lacks_few : (group x : ℕ) → group < 65536 → size group - x ≤ 16
lacks_few group x within = omega (arith, ones-le 16 group within)

-- ---- the sums over the sets

pub sums_none : (test : ℕ → Bool) (class amount : ℕ → ℕ) → replicate 17 0 ≡ tabulate 17 (gathered test class amount 0)
unfolding tabulate
sums_none test class amount = gathered_none test class amount 17

-- what a path set leaves of the sums over the sets below it
module _ (n group a : ℕ) (words : List ℕ) (few : n ≤ 16) (within : group < 65536) (l : a < 65536) (path : in_words words a ≡ true) where
  unfoldable sums : (ℕ → ℕ) → ℕ → List ℕ
  sums amount t = tabulate 17 (gathered (in_words words) (inside group) amount t)

  more : (amount : ℕ → ℕ) → ((b : ℕ) → b < 65536 → amount b ≤ 20922789888000)
      → sums amount (a + 1) ≡ set (sums amount a) (inside group a) ((get_or (sums amount a) (inside group a) 0 + amount a) % 2 ^ 64)
  unfolding sums
  more amount few_each =
      let low : inside group a < 17 = omega (arith, inside_few n group a few within l) in
      sym (gathered_add (in_words words) (inside group) amount 17 a 20922789888000 (λ b h. few_each b (omega (arith, l))) (omega (arith, l)) _ _
      (inside group a) (amount a) refl path low refl refl refl)

  pub added_more : tabulate 17 (gathered (in_words words) (inside group) (added_by n group) (a + 1))
      ≡ set (tabulate 17 (gathered (in_words words) (inside group) (added_by n group) a)) (inside group a)
      ((get_or (tabulate 17 (gathered (in_words words) (inside group) (added_by n group) a)) (inside group a) 0 + added_by n group a) % 2 ^ 64)
  unfolding sums
  added_more = more (added_by n group) (λ b h. added_by_few n group b few within h)

  pub taken_more : tabulate 17 (gathered (in_words words) (inside group) (taken_by n group) (a + 1))
      ≡ set (tabulate 17 (gathered (in_words words) (inside group) (taken_by n group) a)) (inside group a)
      ((get_or (tabulate 17 (gathered (in_words words) (inside group) (taken_by n group) a)) (inside group a) 0 + taken_by n group a) % 2 ^ 64)
  unfolding sums
  taken_more = more (taken_by n group) (λ b h. taken_by_few n group b few within h)

-- ---- what search is told

-- of an amount
pub ruleset amounts = (inside_few, lacks_few, inside_at_most, listed_fits, listed_weight, size_few)

-- of a weight
pub ruleset weighing = (weight_none, weight_above, weight_size, factorials_fit, up_to_16_given)

-- of a set that is added
pub ruleset adding = (gathered_skip, added_more, taken_more)
