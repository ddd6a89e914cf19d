-- Laws of cut sets: the parts that remain, the dual's path sets are the cut sets, the dual's dual is the machine, the dual of a semicoherent
-- structure is one, and the cut sets of the machine that a list of cut sets gives are the sets that hold a listed one. Assumes nothing.
use mathlib.Core.Path.{◌≡◌, sym, ap, ◌∙◌}
use mathlib.Core.Bool.{Bool, true, false, not}
use mathlib.Core.List.{List}
use mathlib.Core.Logic.{◌⊎◌, inl, inr}
use Prim.Native.Nat.{ℕ, ◌-◌, ◌^◌, ◌≤◌, ◌<◌}
use native.Mathlib.Omega.{arith}
use lib.Pow.{pow_pos}
use borrow.Author.Tests.{not-true}
use Rattle.numbers.proofs.Bools.{clash, not_not, false_of}
use Rattle.numbers.proofs.Bounds.{below_or_above}
use Rattle.theory_sets.specs.Masks.{has, holds}
use Rattle.theory_sets.specs.Structures.{Semicoherent, listed}
use Rattle.theory_sets.proofs.Masks.{has_above, has_complement, holds_part, holds_of_parts}
use Rattle.theory_sets.proofs.Structures.{semicoherent_same}
use Rattle.theory_sets.proofs.Tables.{packed_unique}
use Rattle.theory_cuts.specs.Cuts.{remaining, cut, by_cuts, flipped, dual}

-- ---- the parts that remain

pub remaining_below : (n a : ℕ) → remaining n a < 2 ^ n
remaining_below n a = omega (arith, pow_pos n)

pub remaining_twice : (n a : ℕ) → a < 2 ^ n → remaining n (remaining n a) ≡ a
remaining_twice n a h = omega (arith, pow_pos n)

-- they are exactly those that have not failed
pub remaining_part : (n a i : ℕ) → a < 2 ^ n → i < n → has (remaining n a) i ≡ not (has a i)
remaining_part n a i h l = has_complement n a h i l

-- the fewer have failed, the more remain
remaining_holds : (n a b : ℕ) → a < 2 ^ n → b < 2 ^ n → holds b a ≡ true → holds (remaining n a) (remaining n b) ≡ true
remaining_holds n a b ha hb within = holds_of_parts (remaining n a) (remaining n b) (λ i t. part i t (below_or_above i n))
  where
    part : (i : ℕ) → has (remaining n b) i ≡ true → (i < n) ⊎ (n ≤ i) → has (remaining n a) i ≡ true
    part i t (inl below) =
        let lacks : has b i ≡ false = not-true (has b i) (sym (remaining_part n b i hb below) ∙ t) in
        remaining_part n a i ha below ∙ ap not (false_of (has a i) (λ s. clash (holds_part b a within i s) lacks))
    part i t (inr above) = clash t (has_above (remaining n b) n i (remaining_below n b) above)

-- 000's 1 - x is the set of the parts that remain
pub flipped_remaining : (n a : ℕ) → a < 2 ^ n → flipped n a ≡ remaining n a
flipped_remaining n a h =
    sym (packed_unique n (λ i. not (has a i)) (remaining n a) (remaining_below n a) (λ i l. remaining_part n a i h l))

-- ---- cut sets and the dual

-- the cut sets are the path sets of the dual
pub dual_is_cut : (n : ℕ) (works : ℕ → Bool) (a : ℕ) → a < 2 ^ n → dual n works a ≡ cut n works a
unfolding dual cut
dual_is_cut n works a h = ap (λ (x : ℕ). not (works x)) (flipped_remaining n a h)

-- the cut sets of the dual are the path sets
pub cut_twice : (n : ℕ) (works : ℕ → Bool) (a : ℕ) → a < 2 ^ n → cut n (cut n works) a ≡ works a
unfolding cut
cut_twice n works a h = not_not (works (remaining n (remaining n a))) ∙ ap works (remaining_twice n a h)

-- the cut sets of the machine that a list of cut sets gives: exactly the sets that hold a listed one
pub cut_by_cuts : (n : ℕ) (cuts : List ℕ) (a : ℕ) → a < 2 ^ n → cut n (by_cuts n cuts) a ≡ listed cuts a
unfolding by_cuts cut
cut_by_cuts n cuts a h = cut_twice n (listed cuts) a h

-- set functions that agree on the sets of n parts have the same cut sets
pub cut_same : (n : ℕ) (f g : ℕ → Bool) → ((a : ℕ) → a < 2 ^ n → f a ≡ g a) → (a : ℕ) → cut n f a ≡ cut n g a
unfolding cut
cut_same n f g same a = ap not (same (remaining n a) (remaining_below n a))

-- the dual of a semicoherent structure is one
module _ (n : ℕ) (works : ℕ → Bool) (coherent : Semicoherent n works) where
  pub cut_semicoherent : Semicoherent n (cut n works)
  unfolding cut
  cut_semicoherent = record {
    upward = λ a b ha hb within t.
        ap not (false_of (works (remaining n b)) (λ runs.
        clash (coherent.upward (remaining n b) (remaining n a) (remaining_below n b) (remaining_below n a) (remaining_holds n a b ha hb within) runs)
        (not-true (works (remaining n a)) t)));
    empty = ap not (ap works none ∙ coherent.full);
    full = ap not (ap works all ∙ coherent.empty);
  }
    where
      none : remaining n 0 ≡ 2 ^ n - 1
      none = omega arith

      all : remaining n (2 ^ n - 1) ≡ 0
      all = omega arith

  pub dual_semicoherent : Semicoherent n (dual n works)
  dual_semicoherent = semicoherent_same n (cut n works) (dual n works) (λ a h. sym (dual_is_cut n works a h)) cut_semicoherent
