-- A record without a group is not longer than the record, in either edition: fewer numbers and fewer sets, and no set is a larger mask than before;
-- in edition 2 the numbers that left are filed among the retired ones, and there are fewer path counts and none is larger. So a buffer as long as
-- the record that is read is enough.
-- Assumes nothing.
use mathlib.Core.Path.{◌≡◌, refl, ap, subst}
use mathlib.Core.Bool.{Bool, true, false, not, cond}
use mathlib.Core.List.{List, [], ◌∷◌, map}
use Prim.Native.Nat.{ℕ, zero, suc, ◌+◌, ◌/◌, ◌≤◌}
use native.Mathlib.Nat.{le_of_suc-le-suc}
use native.Mathlib.Omega.{arith}
use lib.ListN.{length, length-append}
use Rattle.codec.specs.ByteForm.{bytes_of, forms_of}
use Rattle.codec.proofs.ByteForms.{bytes_some, length_small, bytes_rise}
use Rattle.numbers.specs.Tables.{tabulate}
use Rattle.theory_sets.specs.Masks.{has}
use Rattle.theory_sets.specs.Structures.{listed}
use Rattle.theory_orders.specs.Formulas.{path_count}
use Rattle.masks.specs.Groups.{meets, squeezed}
use Rattle.masks.proofs.Groups.{squeezed_le}
use Rattle.record_numbers.specs.Numbering.{most_parts, named, others}
use Rattle.record_numbers.proofs.Others.{named_or_others}
use Rattle.record_parts.specs.PartLists.{numbers_of}
use Rattle.record_parts.proofs.WellFormed.{numbers_of_list, well_formed_counted}
use Rattle.record.specs.Records.{Design}
use Rattle.record.specs.RecordBytes.{record_bytes, DesignRules}
use Rattle.record.proofs.Lengths.{record_sum}
use Rattle.record_retired.specs.Retired.{filed_all}
use Rattle.record_retired.proofs.Filing.{filed_all_most, forms_filed}
use Rattle.record_editions.specs.Editions.{Stored, first, second, fresh_counts}
use Rattle.record_editions.specs.EditionBytes.{stored_bytes, StoredRules}
use Rattle.record_editions.proofs.Lengths.{second_sum}
use Rattle.record_lines.specs.Changes.{take_out_group, keep, sets_without, design_without}
use Rattle.record_lines.specs.Records.{changed_stored}
use Rattle.record_lines.proofs.TakenOut.{without_fewer}
use Rattle.record_groups.proofs.PathCounts.{count_fewer}

-- the form of one number more
forms_first : (number : ℕ) (numbers : List ℕ) → length (forms_of (number ∷ numbers)) ≡ length (bytes_of number) + length (forms_of numbers)
unfolding forms_of
forms_first number numbers = length-append (bytes_of number) (forms_of numbers)

-- the numbers of the group, and the others
forms_parted : (numbers : List ℕ) (group : ℕ) → length (forms_of (named numbers group)) + length (forms_of (others numbers group)) ≡ length (forms_of numbers)
unfolding named others forms_of
forms_parted [] group = refl
forms_parted (n ∷ ns) group = cases (has group 0) (forms_parted ns (group / 2))
  where
    gone : List ℕ
    gone = named ns (group / 2)

    left : List ℕ
    left = others ns (group / 2)

    cases : (p : Bool) → length (forms_of gone) + length (forms_of left) ≡ length (forms_of ns)
        → length (forms_of (cond p (n ∷ gone) gone)) + length (forms_of (cond p left (n ∷ left))) ≡ length (forms_of (n ∷ ns))
    cases true rest = omega (arith, forms_first n ns, forms_first n gone)
    cases false rest = omega (arith, forms_first n ns, forms_first n left)

-- the sets that are left
sets_shorter : (group : ℕ) (sets : List ℕ) → length (forms_of (sets_without group sets)) ≤ length (forms_of sets)
unfolding sets_without
sets_shorter group [] = omega arith
sets_shorter group (x ∷ xs) = cases (meets group x) (sets_shorter group xs)
  where
    kept : List ℕ
    kept = keep (λ set. not (meets group set)) xs

    moved : List ℕ → List ℕ
    moved sets = map (squeezed most_parts group) sets

    cases : (p : Bool) → length (forms_of (moved kept)) ≤ length (forms_of xs) → length (forms_of (moved (cond (not p) (x ∷ kept) kept))) ≤ length (forms_of (x ∷ xs))
    cases true rest = omega (arith, forms_first x xs)
    cases false rest =
        omega (arith, forms_first x xs, forms_first (squeezed most_parts group x) (moved kept), bytes_rise (squeezed most_parts group x) x (squeezed_le most_parts group x))

-- fewer numbers, none of them larger
forms_fewer : (m n : ℕ) (f g : ℕ → ℕ) → m ≤ n → ((j : ℕ) → f j ≤ g j) → length (forms_of (tabulate m f)) ≤ length (forms_of (tabulate n g))
unfolding tabulate forms_of
forms_fewer zero n f g h each = omega arith
forms_fewer (suc m) zero f g h each = absurd (omega arith)
forms_fewer (suc m) (suc n) f g h each =
    omega (
      arith,
      forms_first (f 0) (tabulate m (λ i. f (suc i))),
      forms_first (g 0) (tabulate n (λ i. g (suc i))),
      bytes_rise (f 0) (g 0) (each 0),
      forms_fewer m n (λ i. f (suc i)) (λ i. g (suc i)) (le_of_suc-le-suc h) (λ j. each (suc j)),
    )

module _ (group : ℕ) (d : Design) (r : DesignRules d) where
  abbrev numbers : List ℕ
  numbers = numbers_of d.parts

  -- the fields of edition 1 are shorter by the numbers that left at the least
  fields_shorter : length (record_bytes (design_without group d)) + length (forms_of (named numbers group)) ≤ length (record_bytes d)
  fields_shorter =
      let left : List ℕ = others numbers group in
      let fewer = named_or_others numbers group in
      let counted = well_formed_counted d.parts r.parts in
      omega (
        arith,
        record_sum d,
        record_sum (design_without group d),
        bytes_rise (length left) d.parts.count (omega arith),
        ap (λ (l : List ℕ). length (forms_of l)) (numbers_of_list d.parts.mark left),
        forms_parted numbers group,
        bytes_rise (length (sets_without group d.sets)) (length d.sets) (without_fewer group d.sets),
        sets_shorter group d.sets,
      )

  pub without_shorter : length (record_bytes (design_without group d)) ≤ length (record_bytes d)
  without_shorter = omega (arith, fields_shorter)

  -- the path counts
  counts_shorter : length (forms_of (fresh_counts (design_without group d))) ≤ length (forms_of (fresh_counts d))
  unfolding fresh_counts
  counts_shorter =
      let counted = well_formed_counted d.parts r.parts in
      forms_fewer (length (others numbers group) + 1) (d.parts.count + 1) (path_count (length (others numbers group)) (listed (sets_without group d.sets)))
      (path_count d.parts.count (listed d.sets)) (omega (arith, named_or_others numbers group)) (λ j.
      subst (λ (n : ℕ). path_count (length (others numbers group)) (listed (sets_without group d.sets)) j ≤ path_count n (listed d.sets) j) counted
      (count_fewer numbers d.sets group (omega (arith, r.parts.rules.few)) (λ a m. rw counted (r.sets.within a m).0) j))

-- a record of either edition
pub taken_out_shorter : (group : ℕ) (s : Stored) → StoredRules s → length (stored_bytes (changed_stored (take_out_group group) s)) ≤ length (stored_bytes s)
unfolding changed_stored stored_bytes
taken_out_shorter group (first d) r = without_shorter group d r
taken_out_shorter group (second d retired) r =
    let gone : List ℕ = named (numbers_of d.parts) group in
    omega (
      arith,
      second_sum (design_without group d) (filed_all gone retired),
      second_sum d retired,
      fields_shorter group d r.0,
      forms_filed gone retired,
      length_small (length (filed_all gone retired)) (omega (arith, filed_all_most gone retired r.1.most)),
      bytes_some (length retired),
      counts_shorter group d r.0,
    )
