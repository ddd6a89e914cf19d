-- `record_retired::latest` meets its contract: the last 64 are copied in front of the cells.
-- Assumes nothing.
use mathlib.Core.Path.{◌≡◌, ap, ap₂, ◌∙◌}
use mathlib.Core.List.{List, ◌++◌}
use Prim.Native.Nat.{ℕ, ◌-◌, min}
use native.Mathlib.Omega.{arith}
use lib.ListN.{length, take, drop, replicate, length-drop}
use lib.Seq.{take_all}
use Rattle.std.proofs.lemmas.List.{drop-replicate}
use Rattle.record_retired.specs.declared.Retired.{Retired}
use Rattle.record_retired.specs.Retired.{most_retired, kept, retired_of}
use Rattle.record_retired.proofs.latest.Goals as goal

spare : (room n : ℕ) → drop {A = ℕ} n (replicate room 0) ≡ replicate (room - n) 0
spare room n = drop-replicate n room 0

copied : (numbers cells : List ℕ) (count : ℕ) → count ≡ min (length numbers) most_retired → cells ≡ take (length numbers - (length numbers - count)) (drop (length numbers - count) numbers)
    → ◌≡◌ {A = Retired} (record { count = count; numbers = cells ++ drop count (replicate most_retired 0) }) (retired_of (kept numbers))
unfolding kept
copied numbers cells count e stands =
    let dropped : length numbers - count ≡ length numbers - most_retired = omega arith in
    let last : cells ≡ drop (length numbers - most_retired) numbers =
    stands ∙ take_all (length numbers - (length numbers - count)) (drop (length numbers - count) numbers) (omega (arith, length-drop (length numbers - count) numbers)) ∙ ap (λ (n : ℕ). drop n numbers) dropped in
    let counted : count ≡ length (drop (length numbers - most_retired) numbers) = omega (arith, length-drop (length numbers - most_retired) numbers) in
    let filled : cells ++ drop count (replicate most_retired 0) ≡ (retired_of (kept numbers)).numbers =
    ap₂ (λ (front rest : List ℕ). front ++ rest) last (spare most_retired count ∙ ap (λ (n : ℕ). replicate (most_retired - n) 0) counted) in
    ap₂ (λ (n : ℕ) (list : List ℕ). record { count = n; numbers = list }) counted filled

pub returns : goal.returns
returns c = copied c.args.numbers.now _ _ c.min-count.ensures c.copy_from_slice.ensures.after
