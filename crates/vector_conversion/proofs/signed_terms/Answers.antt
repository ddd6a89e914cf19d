-- `vector_conversion::signed_terms` meets its contract: each term goes to the sum of its sign, and each sum stays far below 2^60.
-- Assumes nothing.
use mathlib.Core.Path.{◌≡◌, ap, ap₂, ◌∙◌}
use Prim.Native.Nat.{ℕ, ◌+◌, ◌-◌, ◌*◌, ◌%◌, ◌^◌, ◌≤◌, ◌<◌}
use native.Mathlib.Nat.{mul-le-mul}
use native.Mathlib.Omega.{arith}
use lib.ListN.{get_or, take, length-take}
use lib.Seq.{get_or-take}
use Rattle.numbers.specs.Counts.{choose}
use Rattle.numbers.proofs.Counts.{up_to_16_given}
use Rattle.theory_figures.proofs.Signs.{terms_below, terms_none, terms_added, terms_taken}
use Rattle.vector_conversion.specs.Inside.{cells_of}
use Rattle.vector_conversion.proofs.signed_terms.Invariants.{Carried}
use Rattle.vector_conversion.proofs.signed_terms.Goals as goal
use Rattle.vector_conversion.proofs.signed_terms.Goals.{then-k-j-eq0, else-k-j-eq0}

pub loop-j-init : goal.loop-j-init
loop-j-init c =
    record {
      few_added = omega arith;
      few_taken = omega arith;
      terms = terms_none c.args.n (cells_of c.args.counts.now) c.args.k;
    }

-- a term is a binomial below 2^32 times a count of at most 12,870
few : (binomial count : ℕ) → binomial < 2 ^ 32 → count ≤ 12870 → binomial * count ≤ 2 ^ 46
few binomial count h l =
    let narrow : binomial ≤ 2 ^ 32 = omega arith in
    omega (arith, mul-le-mul narrow l)

odd : (x : ℕ) → (x % 2 ≡ 0 → ⊥) → x % 2 ≡ 1
odd x h = omega (arith, h)

module _ (n : ℕ) (φ : ℕ → ℕ) (k added taken j term : ℕ) (carried : Carried n φ k added taken j) (more : j < k)
    (small : term ≤ 2 ^ 46) (is : term ≡ choose (n - j) (k - j) * φ j) where
  carried_added : (k - j) % 2 ≡ 0 → Carried n φ k (added + term) taken (j + 1)
  carried_added even =
      record {
        few_added = omega (arith, carried.few_added);
        few_taken = omega (arith, carried.few_taken);
        terms = terms_added n φ k j added taken term is carried.terms even;
      }

  carried_taken : ((k - j) % 2 ≡ 0 → ⊥) → Carried n φ k added (taken + term) (j + 1)
  carried_taken uneven =
      record {
        few_added = omega (arith, carried.few_added);
        few_taken = omega (arith, carried.few_taken);
        terms = terms_taken n φ k j added taken term is carried.terms (odd (k - j) uneven);
      }

pub loop-j-preserved : goal.loop-j-preserved
loop-j-preserved c =
    let a = c.args in
    let φ = cells_of a.counts.now in
    let l = c.loop-j in
    let count : ℕ = get_or (take a.k a.counts.now) l.j 0 in
    let more : l.j < a.k = omega (arith, length-take {A = ℕ}) in
    let here : count ≡ φ l.j = get_or-take a.k a.counts.now l.j 0 more in
    let small : c.from.result * count ≤ 2 ^ 46 = few c.from.result count (omega arith) (omega (arith, here, c.requires.none_over l.j)) in
    let is : c.from.result * count ≡ choose (a.n - l.j) (a.k - l.j) * φ l.j
    = ap₂ (λ (x y : ℕ). x * y)
    (c.from.ensures ∙ c.binomial.ensures ∙ up_to_16_given (a.n - l.j) (choose (a.n - l.j) (a.k - l.j)) (omega arith)) here in
    elim c.if-k-j-eq0.branch [
      | then-k-j-eq0 w ↦ rw (w.added-is, w.taken-is)
          (carried_added a.n φ a.k l.added l.taken l.j (c.from.result * count) l.invariant more small is w.if-k-j-eq0.true)
      | else-k-j-eq0 w ↦ rw (w.added-is, w.taken-is)
          (carried_taken a.n φ a.k l.added l.taken l.j (c.from.result * count) l.invariant more small is w.if-k-j-eq0.false)
    ]

pub returns : goal.returns
unfolding terms_below
returns c =
    let a = c.args in
    let all : c.loop-j.j ≡ a.k = omega (arith, length-take {A = ℕ}) in
    record {
      few_added = omega (arith, c.loop-j.invariant.few_added);
      few_taken = omega (arith, c.loop-j.invariant.few_taken);
      sums = c.loop-j.invariant.terms ∙ ap (terms_below a.n (cells_of a.counts.now) a.k) all;
    }
