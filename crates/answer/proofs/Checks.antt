-- Laws of the checks that several lists of 01 share: what they pass, and what they refuse.
-- Assumes nothing.
use mathlib.Core.Path.{◌≡◌, refl}
use mathlib.Core.Bool.{Bool, true, false, not, ◌&&◌}
use Prim.Native.Nat.{ℕ, ◌^◌, ◌≤◌, ◌<◌}
use native.Mathlib.Nat.{pos_of_ne-zero}
use native.Mathlib.Omega.{arith}
use borrow.Author.Tests.{le-leb, lt-leb, leb-true, leb-false, eqb-false, eq-eqb, ne_eqb}
use lib.Dec.{leb, eqb}
use Rattle.std.specs.Prelude.{Ok, Err}
use Rattle.answer.specs.declared.Reason.TheVariants.{WrongPartCount, UnknownPart, EmptySet, EmptyGroup, UnknownGroupPart}
use Rattle.answer.specs.Outcome.{at, refuse, Verdict}
use Rattle.answer.specs.Checks.{part_count_refusal, mask_refusal, group_refusal}
use Rattle.answer.specs.declared.Refusal.{Refusal}
use Rattle.answer.proofs.Outcomes.{refuse_accepted}

module _ (place n : ℕ) (later : Verdict) where
  pub parts_none : n ≡ 0 → part_count_refusal place n later ≡ Err (at WrongPartCount place)
  parts_none h = simp (lt-leb 1 n (omega arith))

  pub parts_over : 1 ≤ n → 16 < n → part_count_refusal place n later ≡ Err (at WrongPartCount place)
  parts_over some h = simp (le-leb 1 n some, lt-leb n 16 h)

  pub parts_passed : 1 ≤ n → n ≤ 16 → part_count_refusal place n later ≡ later
  parts_passed some few = simp (le-leb 1 n some, le-leb n 16 few)

  pub parts_right : part_count_refusal place n later ≡ Ok tt → (1 ≤ n) × (n ≤ 16) × (later ≡ Ok tt)
  parts_right e =
      let passed = refuse_accepted (not (leb 1 n && leb n 16)) WrongPartCount place later e in
      let in_range = both (leb 1 n) (leb n 16) passed.0 in
      (leb-true 1 n in_range.0, leb-true n 16 in_range.1, passed.1)
    where
      both : (p q : Bool) → not (p && q) ≡ false → (p ≡ true) × (q ≡ true)
      both true true h = (refl, refl)
      both true false h = let wrong : ◌≡◌ {A = ℕ} 0 1 = cc in absurd (omega arith)
      both false q h = let wrong : ◌≡◌ {A = ℕ} 0 1 = cc in absurd (omega arith)

module _ (n place mask : ℕ) (later : Verdict) where
  pub mask_passed : mask < 2 ^ n → 0 < mask → mask_refusal n place mask later ≡ later
  mask_passed known some = simp (lt-leb (2 ^ n) mask known, ne_eqb mask 0 (λ z. omega arith))

  pub mask_right : mask_refusal n place mask later ≡ Ok tt → (mask < 2 ^ n) × (0 < mask) × (later ≡ Ok tt)
  mask_right e =
      let known = refuse_accepted (leb (2 ^ n) mask) UnknownPart place (refuse (eqb mask 0) EmptySet place later) e in
      let some = refuse_accepted (eqb mask 0) EmptySet place later known.1 in
      (leb-false (2 ^ n) mask known.0, pos_of_ne-zero (eqb-false mask 0 some.0), some.1)

module _ (n group : ℕ) (later : Verdict) where
  pub group_empty : group ≡ 0 → group_refusal n group later ≡ Err (at EmptyGroup 0)
  group_empty h = simp (eq-eqb group 0 h)

  pub group_unknown : (group ≡ 0 → ⊥) → 2 ^ n ≤ group → group_refusal n group later ≡ Err (at UnknownGroupPart 0)
  group_unknown some h = simp (ne_eqb group 0 some, le-leb (2 ^ n) group h)

  pub group_passed : 0 < group → group < 2 ^ n → group_refusal n group later ≡ later
  group_passed some known = simp (ne_eqb group 0 (λ z. omega arith), lt-leb (2 ^ n) group known)

  pub group_right : group_refusal n group later ≡ Ok tt → (0 < group) × (group < 2 ^ n) × (later ≡ Ok tt)
  group_right e =
      let some = refuse_accepted (eqb group 0) EmptyGroup 0 (refuse (leb (2 ^ n) group) UnknownGroupPart 0 later) e in
      let known = refuse_accepted (leb (2 ^ n) group) UnknownGroupPart 0 later some.1 in
      (pos_of_ne-zero (eqb-false group 0 some.0), leb-false (2 ^ n) group known.0, known.1)

  -- what comes later matters only where both checks pass
  pub group_refused : (other : Verdict) (why : Refusal) → group_refusal n group later ≡ Err why → (later ≡ Err why → other ≡ Err why) → group_refusal n group other ≡ Err why
  group_refused other why = cases (eqb group 0) (leb (2 ^ n) group)
    where
      cases : (p q : Bool) → refuse p EmptyGroup 0 (refuse q UnknownGroupPart 0 later) ≡ Err why → (later ≡ Err why → other ≡ Err why)
          → refuse p EmptyGroup 0 (refuse q UnknownGroupPart 0 other) ≡ Err why
      cases true q e same = e
      cases false true e same = e
      cases false false e same = same e
