-- Laws of the numbers of a set of positions and of the others, one position more at a time.
-- Assumes nothing.
use mathlib.Core.Path.{◌≡◌, refl, sym, ap, ◌∙◌}
use mathlib.Core.Bool.{Bool, true, false, cond}
use mathlib.Core.List.{List, [], ◌∷◌, ◌++◌}
use Prim.Native.Nat.{ℕ, zero, suc, ◌+◌, ◌/◌, ◌<◌}
use native.Mathlib.Nat.{le_of_suc-le-suc}
use native.Mathlib.Omega.{arith}
use lib.ListN.{length, take, get_or}
use Rattle.theory_sets.specs.Masks.{has}
use Rattle.theory_sets.proofs.Masks.{has_suc}
use Rattle.record_numbers.specs.Numbering.{named, others}

-- each number is one of the set's or one of the others
pub named_or_others : (numbers : List ℕ) (set : ℕ) → length (named numbers set) + length (others numbers set) ≡ length numbers
unfolding named others
named_or_others [] set = refl
named_or_others (n ∷ ns) set = cases (has set 0) (named_or_others ns (set / 2))
  where
    cases : (p : Bool) → length (named ns (set / 2)) + length (others ns (set / 2)) ≡ length ns
        → length (cond p (n ∷ named ns (set / 2)) (named ns (set / 2))) + length (cond p (others ns (set / 2)) (n ∷ others ns (set / 2))) ≡ length (n ∷ ns)
    cases true rest = omega arith
    cases false rest = omega arith

-- of one number more, which is in the set, no other comes in
pub others_same : (numbers : List ℕ) (set i : ℕ) → i < length numbers → has set i ≡ true → others (take (suc i) numbers) set ≡ others (take i numbers) set
unfolding others
others_same [] set i h e = absurd (omega arith)
others_same (n ∷ ns) set zero h e = rw e
others_same (n ∷ ns) set (suc i) h e =
    ap (λ (rest : List ℕ). cond (has set 0) rest (n ∷ rest)) (others_same ns (set / 2) i (le_of_suc-le-suc h) (sym (has_suc set i) ∙ e))

-- and one that is not comes behind the others
pub others_more : (numbers : List ℕ) (set i : ℕ) → i < length numbers → has set i ≡ false → others (take (suc i) numbers) set ≡ others (take i numbers) set ++ (get_or numbers i 0 ∷ [])
unfolding others
others_more [] set i h e = absurd (omega arith)
others_more (n ∷ ns) set zero h e = rw e
others_more (n ∷ ns) set (suc i) h e = cases (has set 0) (others_more ns (set / 2) i (le_of_suc-le-suc h) (sym (has_suc set i) ∙ e))
  where
    cases : (p : Bool) → others (take (suc i) ns) (set / 2) ≡ others (take i ns) (set / 2) ++ (get_or ns i 0 ∷ [])
        → cond p (others (take (suc i) ns) (set / 2)) (n ∷ others (take (suc i) ns) (set / 2))
        ≡ cond p (others (take i ns) (set / 2)) (n ∷ others (take i ns) (set / 2)) ++ (get_or ns i 0 ∷ [])
    cases true rest = rest
    cases false rest = ap (λ (l : List ℕ). n ∷ l) rest
