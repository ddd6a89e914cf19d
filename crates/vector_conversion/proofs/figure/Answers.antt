-- `vector_conversion::figure` meets its contract, kind by kind: each cell is a difference of two numbers below 2^62.
-- Assumes nothing.
use mathlib.Core.Path.{◌≡◌, sym, ap, ap₂, ◌∙◌, subst}
use Prim.Native.Nat.{ℕ, suc, ◌+◌, ◌-◌, ◌^◌, ◌≤◌, ◌<◌}
use native.Mathlib.Nat.{add-zero, le_trans}
use native.Mathlib.Numerals.{add-one, sub-one}
use native.Mathlib.Omega.{arith}
use lib.IntN.{pos, ◌-ℤ◌}
use mir.Facts.{to_z-of_z}
use mir.Syntax.{w64}
use Rattle.theory_figures.specs.Figures.{tail, signature}
use Rattle.vector_kind.specs.Kinds.{length_of}
use Rattle.vector_conversion.specs.Vectors.{figure}
use Rattle.vector_conversion.specs.Inside.{cells_of}
use Rattle.vector_kind.specs.declared.Kind.{Kind}
use Rattle.integers.proofs.Differences.{difference_small}
use Rattle.theory_figures.proofs.Ranges.{tail_few}
use Rattle.vector_conversion.proofs.figure.Goals as goal

-- a number less nothing
less_none : (x : ℕ) → pos x -ℤ pos 0 ≡ pos x
less_none x = ap pos (add-zero x)

-- a cell of a kind that is known
told : (kind known : Kind) (n k : ℕ) → k < length_of kind n → kind ≡ known → k < length_of known n
told kind known n k h e = subst (λ (x : Kind). k < length_of x n) e h

-- T(k) is far below 2^62
small : (n : ℕ) (φ : ℕ → ℕ) (k t : ℕ) → n ≤ 16 → k ≤ n → ((s : ℕ) → φ s ≤ 12870) → t ≡ tail n φ k → t < 2 ^ 62
small n φ k t most h few e = omega (arith, e, tail_few n φ k most h (le_trans (few (n - k)) (omega arith)))

pub returns-in-PathCounts : goal.returns-in-PathCounts
unfolding figure
returns-in-PathCounts c =
    let a = c.args in
    to_z-of_z {w = w64} (record { sfits = c.difference.type_inv }) ∙ c.difference.ensures
    ∙ difference_small (cells_of a.counts.now a.k) 0 (omega (arith, c.requires.none_over a.k)) (omega arith)
    ∙ less_none (cells_of a.counts.now a.k)
    ∙ ap (λ (kind : Kind). figure kind a.n (cells_of a.counts.now) a.k) (sym c.in-PathCounts.is)

pub returns-in-Tail : goal.returns-in-Tail
unfolding figure
returns-in-Tail c =
    let a = c.args in
    let below = told a.kind _ a.n a.k c.requires.k_in_bounds c.in-Tail.is in
    to_z-of_z {w = w64} (record { sfits = c.difference-in-Tail.type_inv }) ∙ c.difference-in-Tail.ensures
    ∙ difference_small c.tail.result 0
    (small a.n (cells_of a.counts.now) a.k c.tail.result c.requires.n_bound (omega arith) c.requires.none_over c.tail.ensures) (omega arith)
    ∙ less_none c.tail.result
    ∙ ap pos c.tail.ensures
    ∙ ap (λ (kind : Kind). figure kind a.n (cells_of a.counts.now) a.k) (sym c.in-Tail.is)

pub returns-in-Signature : goal.returns-in-Signature
unfolding figure signature
returns-in-Signature c =
    let n = c.args.n in
    let φ = cells_of c.args.counts.now in
    let k = c.args.k in
    let below = told c.args.kind _ n k c.requires.k_in_bounds c.in-Signature.is in
    to_z-of_z {w = w64} (record { sfits = c.difference-in-Signature.type_inv }) ∙ c.difference-in-Signature.ensures
    ∙ difference_small c.tail-in-Signature.result c.tail-in-Signature-2.result
    (small n φ k c.tail-in-Signature.result c.requires.n_bound (omega arith) c.requires.none_over c.tail-in-Signature.ensures)
    (small n φ (k + 1) c.tail-in-Signature-2.result c.requires.n_bound (omega arith) c.requires.none_over c.tail-in-Signature-2.ensures)
    ∙ ap₂ (λ (x y : ℕ). pos x -ℤ pos y) (c.tail-in-Signature.ensures ∙ ap (tail n φ) (sym (sub-one (suc k))))
    (c.tail-in-Signature-2.ensures ∙ ap (tail n φ) (add-one k))
    ∙ ap (λ (kind : Kind). figure kind n φ k) (sym c.in-Signature.is)

pub returns-in-Domination : goal.returns-in-Domination
unfolding figure
returns-in-Domination c =
    let a = c.args in
    to_z-of_z {w = w64} (record { sfits = c.domination.type_inv }) ∙ c.domination.ensures
    ∙ ap (λ (kind : Kind). figure kind a.n (cells_of a.counts.now) a.k) (sym c.in-Domination.is)
