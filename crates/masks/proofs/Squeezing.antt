-- What a position does to the rest of a set without the rest of a group, by the unit of the next position that is kept. Assumes nothing.
use mathlib.Core.Path.{◌≡◌, ap, ◌∙◌}
use Prim.Native.Nat.{ℕ, ◌+◌, ◌-◌, ◌*◌, ◌/◌, ◌%◌, ◌^◌, ◌≤◌, ◌<◌}
use native.Mathlib.Nat.{mul_assoc, mul_comm, mul-add, mul-le-mul_left}
use native.Mathlib.Omega.{arith}
use Rattle.theory_sets.proofs.Masks.{has_odd, has_even}
use Rattle.masks.specs.Groups.{squeezed}
use Rattle.masks.proofs.Groups.{squeezed_skipped, squeezed_kept, squeezed_all}

module _ (unit skipped rest : ℕ) (small : rest < 2 ^ 16) where
  -- a position that is no part of the group is kept
  pub kept_on : skipped % 2 ≡ 0 → unit * squeezed 16 skipped rest ≡ rest % 2 * unit + unit * 2 * squeezed 16 (skipped / 2) (rest / 2)
  kept_on even =
      let later = squeezed 16 (skipped / 2) (rest / 2) in
      ap (λ (x : ℕ). unit * x) (squeezed_kept 15 skipped rest small (has_even skipped even))
      ∙ omega (arith, mul-add unit (rest % 2) (2 * later), mul_comm (rest % 2) unit, mul_assoc unit 2 later)

  -- and one of the group is skipped
  pub skipped_on : (skipped % 2 ≡ 0 → ⊥) → unit * squeezed 16 skipped rest ≡ unit * squeezed 16 (skipped / 2) (rest / 2)
  skipped_on uneven = ap (λ (x : ℕ). unit * x) (squeezed_skipped 15 skipped rest small (has_odd skipped (omega arith)))

  -- without a group nothing more moves
  pub end : skipped ≡ 0 → unit * squeezed 16 skipped rest ≡ rest * unit
  end none = ap (λ (x : ℕ). unit * squeezed 16 x rest) none ∙ ap (λ (x : ℕ). unit * x) (squeezed_all 16 rest small) ∙ mul_comm unit rest

module _ (unit skipped : ℕ) where
  pub room_half : unit * 2 * (skipped / 2) ≤ unit * skipped
  room_half =
      let halves : 2 * (skipped / 2) ≤ skipped = omega arith in
      omega (arith, mul_assoc unit 2 (skipped / 2), mul-le-mul_left unit halves)

  pub room_same : unit * (skipped / 2) ≤ unit * skipped
  room_same = let halves : skipped / 2 ≤ skipped = omega arith in mul-le-mul_left unit halves

  pub unit_small : 2 ≤ skipped → unit * skipped ≡ unit * 2 + unit * (skipped - 2)
  unit_small two = omega (arith, ap (λ (x : ℕ). unit * x) (sum two), mul-add unit 2 (skipped - 2))
    where
      sum : 2 ≤ skipped → skipped ≡ 2 + (skipped - 2)
      sum h = omega arith
