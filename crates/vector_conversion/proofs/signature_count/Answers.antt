-- `vector_conversion::signature_count` meets its contract: what the size before stands for is at most 12,870 × 16!, and the entry is added to it.
-- Assumes nothing.
use mathlib.Core.Path.{◌≡◌, sym, ap, ap₂, ◌∙◌, subst}
use Prim.Native.Nat.{ℕ, suc, ◌-◌, ◌*◌, ◌≤◌, ◌<◌}
use native.Mathlib.Nat.{le_trans, le_of_eq, mul-le-mul, mul-pos, lt_of_lt_of_le}
use native.Mathlib.Omega.{arith}
use lib.IntN.{ℤ, pos, ◌+ℤ◌, ◌-ℤ◌}
use lib.ListN.{get_or}
use Rattle.numbers.specs.Counts.{factorial}
use Rattle.numbers.proofs.Counts.{factorial_pos}
use Rattle.vector_conversion.specs.Vectors.{entry_at}
use Rattle.vector_conversion.specs.Inside.{count_in, count_at, Found}
use Rattle.vector_kind.specs.declared.Kind.TheVariants.{Signature}
use Rattle.vector_conversion.proofs.Fits.{tail_unit_few}
use Rattle.vector_conversion.proofs.CountAt.{entry_read, count_signature_first, count_signature}
use Rattle.vector_conversion.proofs.signature_count.Goals as goal

unit_some : (n j unit : ℕ) → unit ≡ factorial j * factorial (n - j) → 0 < unit
unit_some n j unit e = lt_of_lt_of_le (mul-pos (factorial_pos j) (factorial_pos (n - j))) (le_of_eq (sym e))

-- what the sizes below stand for
before_few : (n j unit count : ℕ) → n ≤ 16 → j ≤ n → unit ≡ factorial j * factorial (n - j) → count ≤ 12870 → count * unit ≤ 12870 * 20922789888000
before_few n j unit count h l e most = mul-le-mul most (le_trans (le_of_eq e) (tail_unit_few n j h l))

pub count_of-requires-clause-unit_nonzero : goal.count_of-requires-clause-unit_nonzero
count_of-requires-clause-unit_nonzero c = unit_some c.args.n c.args.j _ c.tail_unit-unit.ensures

pub returns-then-j-eq0 : goal.returns-then-j-eq0
returns-then-j-eq0 c =
    let a = c.args in
    let first : a.j ≡ 0 = c.if-j-eq0.true in
    c.count_of.ensures
    ∙ ap (λ (u : ℕ). count_in a.n 0 u (pos 0)) (c.tail_unit-unit.ensures ∙ ap (λ (x : ℕ). factorial x * factorial (a.n - x)) first)
    ∙ count_signature_first a.n a.entries.now ∙ ap (count_at Signature a.n a.entries.now) (sym first)

pub overflow_mul-before : goal.overflow_mul-before
overflow_mul-before c =
    let a = c.args in
    let few = before_few a.n (a.j - 1) _ _ c.requires.n_bound (omega arith) c.tail_unit.ensures (c.requires.found.few (a.j - 1)) in
    record { fits = omega (arith, few) }

pub count_of-requires-2-clause-base_bound : goal.count_of-requires-2-clause-base_bound
count_of-requires-2-clause-base_bound c =
    let a = c.args in
    omega (arith, before_few a.n (a.j - 1) _ _ c.requires.n_bound (omega arith) c.tail_unit.ensures (c.requires.found.few (a.j - 1)))

pub count_of-requires-2-clause-unit_nonzero : goal.count_of-requires-2-clause-unit_nonzero
count_of-requires-2-clause-unit_nonzero c = unit_some c.args.n c.args.j _ c.tail_unit-unit.ensures

pub returns : goal.returns
returns c =
    let a = c.args in
    let i : ℕ = a.j - 1 in
    let some : a.j ≡ suc i = omega (arith, c.if-j-eq0.false) in
    let last : ℕ = get_or a.counts.now i 0 in
    c.count_of-2.ensures
    ∙ ap (λ (z : ℤ). count_in a.n a.j c.tail_unit-unit.result (pos (last * c.tail_unit.result) +ℤ z -ℤ pos 0))
    (entry_read a.entries.now (a.n - a.j) (omega arith))
    ∙ ap₂ (λ (u v : ℕ). count_in a.n a.j u (pos (last * v) +ℤ entry_at a.entries.now (a.n - a.j) -ℤ pos 0)) c.tail_unit-unit.ensures
    c.tail_unit.ensures
    ∙ ap (λ (x : ℕ). count_in a.n x (factorial x * factorial (a.n - x)) (pos (last * (factorial i * factorial (a.n - i))) +ℤ entry_at a.entries.now (a.n - x) -ℤ pos 0))
    some
    ∙ count_signature a.n a.entries.now a.counts.now i (subst (Found Signature a.n a.entries.now a.counts.now) some c.requires.found)
    ∙ ap (count_at Signature a.n a.entries.now) (sym some)
