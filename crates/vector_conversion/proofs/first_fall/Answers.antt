-- `vector_conversion::first_fall` meets its contract: below the size reached no proportion falls. Counts of at most 12,870 times binomials fit.
-- Assumes nothing.
use mathlib.Core.Path.{◌≡◌, sym, ap, ap₂, ◌∙◌, subst}
use mathlib.Core.Bool.{true, false}
use mathlib.Core.Logic.{◌⊎◌, inl, inr}
use Prim.Native.Nat.{ℕ, suc, ◌+◌, ◌*◌, ◌≤◌, ◌<◌}
use native.Mathlib.Nat.{le_of_suc-le-suc, eq-or-lt_of_le}
use native.Mathlib.Numerals.{add-one}
use native.Mathlib.Omega.{arith}
use lib.Dec.{ltb}
use borrow.Author.Tests.{lt-ltb, le-ltb}
use Rattle.numbers.specs.Counts.{choose, up_to_16}
use Rattle.numbers.proofs.Counts.{up_to_16_given}
use Rattle.vector_conversion.specs.Vectors.{falls}
use Rattle.vector_conversion.specs.Inside.{cells_of}
use Rattle.vector_conversion.proofs.first_fall.Goals as goal

-- the two sides of the test are those of 14
module _ (n : ℕ) (few : n ≤ 16) (φ : ℕ → ℕ) (j x y : ℕ) (above : x ≡ up_to_16 n (choose n (j + 1))) (same : y ≡ up_to_16 n (choose n j)) where
  here : φ j * x ≡ φ j * choose n (suc j)
  here = ap (λ (u : ℕ). φ j * u) (above ∙ up_to_16_given n (choose n (j + 1)) few ∙ ap (choose n) (add-one j))

  next : φ (j + 1) * y ≡ φ (suc j) * choose n j
  next = ap₂ (λ (u v : ℕ). φ u * v) (add-one j) (same ∙ up_to_16_given n (choose n j) few)

  falls_here : φ (j + 1) * y < φ j * x → falls n φ j ≡ true
  unfolding falls
  falls_here l = ap₂ ltb (sym next) (sym here) ∙ lt-ltb _ _ l

  rises_here : φ j * x ≤ φ (j + 1) * y → falls n φ j ≡ false
  unfolding falls
  rises_here l = ap₂ ltb (sym next) (sym here) ∙ le-ltb _ _ l

-- one size more from which no proportion falls
one_more : (n : ℕ) (φ : ℕ → ℕ) (j : ℕ) → ((i : ℕ) → i < j → falls n φ i ≡ false) → falls n φ j ≡ false → (i : ℕ) → i < j + 1 → falls n φ i ≡ false
one_more n φ j below at i h = cases (eq-or-lt_of_le (le_of_suc-le-suc (subst (λ (x : ℕ). i < x) (add-one j) h)))
  where
    cases : (i ≡ j) ⊎ (i < j) → falls n φ i ≡ false
    cases (inl e) = ap (falls n φ) e ∙ at
    cases (inr l) = below i l

pub returns-then-next-here : goal.returns-then-next-here
returns-then-next-here c =
    record {
      within = omega arith;
      rises = c.loop-j.invariant;
      first = λ h.
          falls_here c.args.n c.requires.n_bound (cells_of c.args.counts.now) c.loop-j.j _ _ (c.from.ensures ∙ c.binomial.ensures)
          (c.from-in-loop-j.ensures ∙ c.binomial-in-loop-j.ensures) c.if-next-here.true;
    }

pub loop-j-preserved : goal.loop-j-preserved
loop-j-preserved c =
    one_more c.args.n (cells_of c.args.counts.now) c.loop-j.j c.loop-j.invariant
    (rises_here c.args.n c.requires.n_bound (cells_of c.args.counts.now) c.loop-j.j _ _ (c.from.ensures ∙ c.binomial.ensures)
    (c.from-in-loop-j.ensures ∙ c.binomial-in-loop-j.ensures) c.if-next-here.false)
