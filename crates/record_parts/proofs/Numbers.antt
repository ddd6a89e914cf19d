-- Laws of rising numbers: their bounds, numbers joined behind others, and some left out.
-- Assumes nothing.
use mathlib.Core.Path.{◌≡◌}
use mathlib.Core.Bool.{Bool, true, false, cond}
use mathlib.Core.List.Memᴰ
use mathlib.Core.List.{List, [], ◌∷◌, ◌++◌}
use mathlib.Core.Logic.{⊎_elim}
use Prim.Native.Nat.{ℕ, ◌/◌, ◌≤◌, ◌<◌}
use native.Mathlib.Omega.{arith}
use Rattle.theory_sets.specs.Masks.{has}
use Rattle.record_numbers.specs.Numbering.{RisingWithin, named, others}
use Rattle.record_parts.specs.Lines.{In}
use Rattle.record_parts.proofs.LeftOut.{in_named, in_others}

-- each is within the bounds
pub rising_in : (low high : ℕ) (numbers : List ℕ) → RisingWithin low high numbers → {number : ℕ} → In number numbers → (low < number) × (number ≤ high)
rising_in low high [] r i = absurd (Memᴰ.not-nil i)
rising_in low high (n ∷ ns) r {number} i =
    ⊎_elim
    (λ (e : number ≡ n). rw e (r.0, r.1))
    (λ (i : In number ns). let b = rising_in n high ns r.2 i in (omega (arith, r.0, b.0), b.1))
    (Memᴰ.cases_cons i)

-- wider bounds
pub rising_wider : (low high low' high' : ℕ) (numbers : List ℕ) → low' ≤ low → high ≤ high' → RisingWithin low high numbers → RisingWithin low' high' numbers
rising_wider low high low' high' [] l h r = tt
rising_wider low high low' high' (n ∷ ns) l h r =
    (omega (arith, r.0), omega (arith, r.1), rising_wider n high n high' ns (omega arith) h r.2)

-- numbers above a bound behind numbers that are not
pub rising_append : (low middle high : ℕ) (front behind : List ℕ) → low ≤ middle → middle ≤ high → RisingWithin low middle front → RisingWithin middle high behind → RisingWithin low high (front ++ behind)
rising_append low middle high [] behind l h f b = rising_wider middle high low high behind l (omega arith) b
rising_append low middle high (n ∷ ns) behind l h f b =
    (f.0, omega (arith, f.1), rising_append n middle high ns behind f.1 h f.2 b)

-- some left out
pub rising_others : (set low high : ℕ) (numbers : List ℕ) → RisingWithin low high numbers → RisingWithin low high (others numbers set)
unfolding others
rising_others set low high [] r = tt
rising_others set low high (n ∷ ns) r = cases (has set 0) (rising_others (set / 2) n high ns r.2)
  where
    cases : (p : Bool) → RisingWithin n high (others ns (set / 2)) → RisingWithin low high (cond p (others ns (set / 2)) (n ∷ others ns (set / 2)))
    cases true rest = rising_wider n high low high (others ns (set / 2)) (omega (arith, r.0)) (omega arith) rest
    cases false rest = (r.0, r.1, rest)

-- since they rise, those left out are not among the others
pub others_gone : (set low high : ℕ) (numbers : List ℕ) → RisingWithin low high numbers → {number : ℕ} → In number (named numbers set) → In number (others numbers set) → ⊥
unfolding named others
others_gone set low high [] r i j = Memᴰ.not-nil i
others_gone set low high (n ∷ ns) r {number} i j = cases (has set 0) (others_gone (set / 2) n high ns r.2) i j
  where
    apart : number ≡ n → In number ns → ⊥
    apart e i = let b = rising_in n high ns r.2 i in omega (arith, b.0)

    cases : (p : Bool) → (In number (named ns (set / 2)) → In number (others ns (set / 2)) → ⊥)
        → In number (cond p (n ∷ named ns (set / 2)) (named ns (set / 2))) → In number (cond p (others ns (set / 2)) (n ∷ others ns (set / 2))) → ⊥
    cases true rest i j =
        ⊎_elim (λ (e : number ≡ n). apart e (in_others ns (set / 2) j)) (λ k. rest k j) (Memᴰ.cases_cons i)
    cases false rest i j =
        ⊎_elim (λ (e : number ≡ n). apart e (in_named ns (set / 2) i)) (λ k. rest i k) (Memᴰ.cases_cons j)
