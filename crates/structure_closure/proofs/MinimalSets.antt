-- In a semicoherent structure a path set is minimal exactly if it is none without any single one of its parts.
-- Assumes nothing.
use mathlib.Core.Path.{◌≡◌, ap}
use mathlib.Core.Bool.{Bool, true, false, not, ◌&&◌}
use Prim.Native.Nat.{ℕ, ◌-◌, ◌^◌, ◌<◌}
use native.Mathlib.Decide.{ℕ_discrete}
use native.Mathlib.Nat.{lt_of_le_of_lt, sub-le}
use native.Mathlib.Omega.{arith}
use lib.Pow.{pow_pos}
use borrow.Author.Tests.{not-true}
use Rattle.theory_sets.specs.Masks.{has, holds}
use Rattle.theory_sets.specs.Structures.{Semicoherent, minimal}
use Rattle.numbers.proofs.Bools.{and_left, and_right, and_both, clash, same_test}
use Rattle.theory_sets.proofs.Masks.{has_le, holds_sub, holds_without, lacking}
use Rattle.theory_sets.proofs.Ranges.{any_intro, any_false}
use Rattle.theory_sets.proofs.Structures.{minimal_works, minimal_least, minimal_intro}
use Rattle.structure_closure.specs.Closure.{spare, irredundant}

module _ (n : ℕ) (works : ℕ → Bool) where
  irredundant_works : (a : ℕ) → irredundant n works a ≡ true → works a ≡ true
  unfolding irredundant
  irredundant_works a h = and_left (works a) (not (spare n works a)) h

  pub irredundant_minimal : Semicoherent n works → (a : ℕ) → a < 2 ^ n → irredundant n works a ≡ minimal n works a
  unfolding irredundant
  irredundant_minimal sc a ha = same_test (irredundant n works a) (minimal n works a) there back
    where
      there : irredundant n works a ≡ true → minimal n works a ≡ true
      there t =
          let none : spare n works a ≡ false = not-true (spare n works a) (and_right (works a) (not (spare n works a)) t) in
          minimal_intro n works a (irredundant_works a t) (λ b hb w within. equal none b hb w within)
        where
          equal : spare n works a ≡ false → (b : ℕ) → b < 2 ^ n → works b ≡ true → holds a b ≡ true → a ≡ b
          equal none b hb w within = cases (ℕ_discrete a b)
            where
              cases : Dec (a ≡ b) → a ≡ b
              cases (yes e) = e
              cases (no differ) =
                  let part = lacking n a b ha within differ in
                  let i = part.0 in
                  let less : a - 2 ^ i < 2 ^ n = lt_of_le_of_lt (sub-le a (2 ^ i)) ha in
                  let still : works (a - 2 ^ i) ≡ true = sc.upward b (a - 2 ^ i) hb less (holds_without a b i within part.2 part.3) w in
                  clash (any_intro (λ i. has a i && works (a - 2 ^ i)) n i part.1 (and_both part.2 still)) none

      back : minimal n works a ≡ true → irredundant n works a ≡ true
      back m =
          and_both (minimal_works n works a m) (ap not (any_false (λ i. has a i && works (a - 2 ^ i)) n (λ i hi t.
          let part : has a i ≡ true = and_left (has a i) (works (a - 2 ^ i)) t in
          let less : a - 2 ^ i < 2 ^ n = lt_of_le_of_lt (sub-le a (2 ^ i)) ha in
          let same : a ≡ a - 2 ^ i = minimal_least n works a (a - 2 ^ i) m less (and_right (has a i) (works (a - 2 ^ i)) t) (holds_sub a i part) in
          omega (arith, pow_pos i, has_le a i part))))
