-- Several verdicts, one after another: the first refusal of them stands, and none refuses exactly if each accepts. Assumes nothing.
use mathlib.Core.Path.{◌≡◌, refl, ap, ◌∙◌}
use mathlib.Core.Logic.{⊎_elim}
use Prim.Native.Nat.{ℕ, zero, suc, ◌<◌}
use native.Mathlib.Nat.{le_step, lt-suc_self}
use native.Mathlib.Omega.{arith}
use Rattle.std.specs.Prelude.{Ok, Err}
use Rattle.answer.specs.Outcome.{Verdict}
use Rattle.numbers.proofs.Bounds.{below_or_above}
use Rattle.answer.specs.declared.Refusal.{Refusal}
use Rattle.answer.proofs.Outcomes.{then_accepted, then_passed, then_refused}
use Rattle.blocks_checks.specs.Refusals.{first_refusal}

module _ (verdict : ℕ → Verdict) where
  pub each_accepted : (r : ℕ) → first_refusal verdict r ≡ Ok tt → (b : ℕ) → b < r → verdict b ≡ Ok tt
  unfolding first_refusal
  each_accepted zero h b below = absurd (omega arith)
  each_accepted (suc r) h b below =
      let both = then_accepted (first_refusal verdict r) (verdict r) h in
      ⊎_elim (each_accepted r both.0 b) (λ l. ap verdict (let last : b ≡ r = omega arith in last) ∙ both.1) (below_or_above b r)

  pub all_accepted : (r : ℕ) → ((b : ℕ) → b < r → verdict b ≡ Ok tt) → first_refusal verdict r ≡ Ok tt
  unfolding first_refusal
  all_accepted zero h = refl
  all_accepted (suc r) h = then_passed (verdict r) (all_accepted r (λ b below. h b (le_step below))) ∙ h r (lt-suc_self r)

  -- one that refuses behind those that accept is the first
  pub first_refused : (b : ℕ) {why : Refusal} → first_refusal verdict b ≡ Ok tt → verdict b ≡ Err why → (r : ℕ) → b < r
      → first_refusal verdict r ≡ Err why
  unfolding first_refusal
  first_refused b passed wrong zero below = absurd (omega arith)
  first_refused b passed wrong (suc r) below =
      ⊎_elim (λ l. then_refused (verdict r) (first_refused b passed wrong r l)) (λ l.
      let last : r ≡ b = omega arith in
      then_passed (verdict r) (ap (first_refusal verdict) last ∙ passed) ∙ ap verdict last ∙ wrong) (below_or_above b r)
