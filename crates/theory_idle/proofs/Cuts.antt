-- The dual has the same idle parts, and so they are those that no minimal cut set names. Assumes nothing.
use mathlib.Core.Path.{◌≡◌, sym, ap, ◌∙◌}
use mathlib.Core.Bool.{Bool, true, false}
use mathlib.Core.List.{Memᴰ}
use mathlib.Core.Logic.{◌↔◌}
use Prim.Native.Nat.{ℕ, suc, ◌<◌}
use native.Mathlib.Omega.{arith}
use lib.Dec.{eqb}
use Rattle.theory_sets.specs.Masks.{has}
use Rattle.theory_sets.specs.Structures.{Semicoherent}
use Rattle.theory_sets.specs.Idle.{idle}
use Rattle.theory_sets.proofs.Idle.{idle_same, idle_exactly}
use Rattle.theory_cuts.specs.Cuts.{cut, minimal_cuts, dual}
use Rattle.theory_cuts.proofs.Cuts.{dual_is_cut, cut_semicoherent, dual_semicoherent}
use Rattle.theory_cuts.proofs.Orders.{dual_importance}
use Rattle.theory_idle.proofs.Counts.{idle_importance}

module _ (n : ℕ) (works : ℕ → Bool) (coherent : Semicoherent n works) (part : ℕ) (l : part < n) where
  pub dual_idle : idle n (dual n works) part ≡ idle n works part
  dual_idle =
      idle_importance n (dual n works) part (dual_semicoherent n works coherent) l
      ∙ ap (λ (x : ℕ). eqb x 0) (dual_importance n works coherent (suc part) (omega arith) l)
      ∙ sym (idle_importance n works part coherent l)

  pub idle_cuts : (idle n works part ≡ true) ↔ ((a : ℕ) → Memᴰ a (minimal_cuts n works) → has a part ≡ false)
  idle_cuts =
      let same : idle n (cut n works) part ≡ idle n works part = idle_same n (cut n works) (dual n works) (λ a h. sym (dual_is_cut n works a h)) part l ∙ dual_idle in
      let named = idle_exactly n (cut n works) (cut_semicoherent n works coherent) part l in
      (λ h. named.0 (same ∙ h), λ none. sym same ∙ named.1 none)
