-- `record_changes::numbers_length` meets its contract: the lengths of all are added up, and no number takes more than ten bytes.
-- Assumes nothing.
use mathlib.Core.Path.{◌≡◌, ◌∙◌}
use Prim.Native.Nat.{ℕ, ◌*◌, ◌≤◌}
use native.Mathlib.Omega.{arith}
use lib.ListN.{length}
use Rattle.std.proofs.Common.{rules}
use Rattle.std.proofs.lemmas.Iterator.{YieldsList-from_slice, YieldsList-from_map}
use Rattle.std.proofs.lemmas.Iterator.Consumers.{sum_by_from_yields_List, fits_by_from_yields_list}
use Rattle.codec.specs.ByteForm.{bytes_of, forms_of}
use Rattle.record_changes.proofs.Writing.{forms_summed, forms_ten}
use Rattle.record_changes.proofs.numbers_length.Goals as goal

pub sum-requires-clause-fits : goal.sum-requires-clause-fits
sum-requires-clause-fits c =
    let numbers = c.args.numbers.now in
    let few : length (forms_of numbers) ≤ 10 * length numbers = forms_ten numbers (λ i. omega (arith, c.type_inv.numbers i)) in
    fits_by_from_yields_list (λ (n : ℕ). length (bytes_of n)) numbers _ _
    (YieldsList-from_map _ (λ (n : ℕ). length (bytes_of n)) (YieldsList-from_slice numbers cc) c.map.ensures.closure (λ x r q k. search rules))
    (omega (arith, few, c.requires, forms_summed numbers))

pub returns : goal.returns
returns c =
    let numbers = c.args.numbers.now in
    let few : length (forms_of numbers) ≤ 10 * length numbers = forms_ten numbers (λ i. omega (arith, c.type_inv.numbers i)) in
    let all : c.sum.result ≡ length (forms_of numbers) =
    sum_by_from_yields_List (λ (n : ℕ). length (bytes_of n)) numbers _ _ c.sum.ensures.ran
    (YieldsList-from_map _ (λ (n : ℕ). length (bytes_of n)) (YieldsList-from_slice numbers cc) c.map.ensures.closure (λ x r q k. search rules))
    ∙ forms_summed numbers in
    record { value = all; upper_bound = omega (arith, all, few) }
