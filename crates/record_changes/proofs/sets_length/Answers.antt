-- `record_changes::sets_length` meets its contract: the lengths of all are added up, and no set takes more than three bytes.
-- Assumes nothing.
use mathlib.Core.Path.{◌≡◌, ◌∙◌}
use Prim.Native.Nat.{ℕ, ◌*◌, ◌≤◌}
use native.Mathlib.Omega.{arith}
use lib.ListN.{length}
use Rattle.std.proofs.Common.{rules}
use Rattle.std.proofs.lemmas.Iterator.{YieldsList-from_slice, YieldsList-from_map}
use Rattle.std.proofs.lemmas.Iterator.Consumers.{sum_by_from_yields_List, fits_by_from_yields_list}
use Rattle.codec.proofs.ByteForms.{bytes_at_most, forms_most}
use Rattle.codec.specs.ByteForm.{bytes_of, forms_of}
use Rattle.record_changes.proofs.Writing.{forms_summed}
use Rattle.record_changes.proofs.sets_length.Goals as goal

pub sum-requires-clause-fits : goal.sum-requires-clause-fits
sum-requires-clause-fits c =
    let sets = c.args.sets.now in
    let few : length (forms_of sets) ≤ 3 * length sets = forms_most 3 sets (λ i. bytes_at_most 3 _ (omega arith) (omega (arith, c.type_inv.sets i))) in
    fits_by_from_yields_list (λ (n : ℕ). length (bytes_of n)) sets _ _
    (YieldsList-from_map _ (λ (n : ℕ). length (bytes_of n)) (YieldsList-from_slice sets cc) c.map.ensures.closure (λ x r q k. search rules))
    (omega (arith, few, c.requires, forms_summed sets))

pub returns : goal.returns
returns c =
    let sets = c.args.sets.now in
    let few : length (forms_of sets) ≤ 3 * length sets = forms_most 3 sets (λ i. bytes_at_most 3 _ (omega arith) (omega (arith, c.type_inv.sets i))) in
    let all : c.sum.result ≡ length (forms_of sets) =
    sum_by_from_yields_List (λ (n : ℕ). length (bytes_of n)) sets _ _ c.sum.ensures.ran
    (YieldsList-from_map _ (λ (n : ℕ). length (bytes_of n)) (YieldsList-from_slice sets cc) c.map.ensures.closure (λ x r q k. search rules))
    ∙ forms_summed sets in
    record { value = all; upper_bound = omega (arith, all, few) }
