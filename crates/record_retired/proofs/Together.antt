-- Numbers that are filed one after the other leave the last 64 of all together, so their order does not matter.
-- Assumes nothing.
use mathlib.Core.Path.{◌≡◌, refl, sym, ap, ◌∙◌}
use mathlib.Core.Bool.{Bool, true, false}
use mathlib.Core.List.{List, [], ◌∷◌}
use Prim.Native.Nat.{ℕ, ◌+◌, ◌≤◌}
use native.Mathlib.Omega.{arith}
use borrow.Author.Tests.{eqb-true, eq-eqb}
use lib.Dec.{eqb}
use Rattle.theory_sums.specs.Sums.{indicator, sum}
use Rattle.theory_orders.specs.Orders.{times}
use Rattle.record_retired.specs.Retired.{inserted, kept, filed_all}
use Rattle.record_retired.proofs.Inserted.{inserted_both, Ordered, ordered_inserted}
use Rattle.record_retired.proofs.Kept.{kept_inserted}

-- numbers put in one after the other, and none dropped
pub inserted_all : List ℕ → List ℕ → List ℕ
inserted_all [] list = list
inserted_all (x ∷ xs) list = inserted_all xs (inserted x list)

pub filed_together : (gone list : List ℕ) → Ordered 0 list → filed_all gone (kept list) ≡ kept (inserted_all gone list)
unfolding filed_all inserted_all
filed_together [] list o = refl
filed_together (x ∷ xs) list o =
    ap (filed_all xs) (kept_inserted 0 x list o) ∙ filed_together xs (inserted x list) (ordered_inserted 0 x list (omega arith) o)

-- the first may come last
inserted_last : (number : ℕ) (gone list : List ℕ) → inserted_all gone (inserted number list) ≡ inserted number (inserted_all gone list)
unfolding inserted_all
inserted_last number [] list = refl
inserted_last number (x ∷ xs) list = ap (inserted_all xs) (inserted_both x number list) ∙ inserted_last number xs (inserted x list)

-- a list is one of its numbers, which may come last, and the rest
record Parted (number : ℕ) (list : List ℕ) : Type 0 where
  rest : List ℕ
  counted : (other : ℕ) → times other list ≡ indicator (eqb other number) + times other rest
  last : (into : List ℕ) → inserted_all list into ≡ inserted number (inserted_all rest into)

parted : (number : ℕ) (list : List ℕ) → 1 ≤ times number list → Parted number list
unfolding sum inserted_all
parted number [] some = absurd (omega arith)
parted number (x ∷ xs) some = cases (eqb number x) refl some (parted number xs)
  where
    cases : (p : Bool) → eqb number x ≡ p → 1 ≤ indicator p + times number xs → (1 ≤ times number xs → Parted number xs) → Parted number (x ∷ xs)
    cases true e some later =
        let same : x ≡ number = sym (eqb-true number x e) in
        record {
          rest = xs;
          counted = λ other. ap (λ (y : ℕ). indicator (eqb other y) + times other xs) same;
          last = λ into. inserted_last x xs into ∙ ap (λ (y : ℕ). inserted y (inserted_all xs into)) same;
        }
    cases false e some later =
        let p = later (omega arith) in
        record { rest = x ∷ p.rest; counted = λ other. omega (arith, p.counted other); last = λ into. p.last (inserted x into) }

-- the same numbers in two orders
pub inserted_order : (first second list : List ℕ) → ((number : ℕ) → times number first ≡ times number second) → inserted_all first list ≡ inserted_all second list
unfolding sum inserted_all
inserted_order [] [] list same = refl
inserted_order [] (y ∷ ys) list same = absurd (omega (arith, same y, ap indicator (eq-eqb y y refl)))
inserted_order (x ∷ xs) second list same =
    let p = parted x second (omega (arith, same x, ap indicator (eq-eqb x x refl))) in
    inserted_last x xs list ∙ ap (inserted x) (inserted_order xs p.rest list (λ number. omega (arith, same number, p.counted number))) ∙ sym (p.last list)
