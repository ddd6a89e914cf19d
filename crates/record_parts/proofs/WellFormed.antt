-- The constructors give well-formed part lists and give exactly those: a list is determined by its mark and its numbers, and these are
-- accepted exactly if they keep the rules.
-- Assumes nothing.
use mathlib.Core.Path.{◌≡◌, refl, sym, ap, ap₂, ◌∙◌}
use mathlib.Core.List.{List, []}
use mathlib.Core.Logic.{◌↔◌}
use Prim.Native.Nat.{ℕ, ◌+◌, ◌-◌, ◌≤◌}
use native.Mathlib.Nat.{min-le_left, le_refl}
use native.Mathlib.Omega.{arith}
use lib.ListN.{length, replicate, length-append, length-replicate, length-take}
use lib.Seq.{take-append_seam, length-take-le}
use Rattle.std.specs.Prelude.{Ok, Err}
use Rattle.answer.specs.Outcome.{Verdict}
use Rattle.record_parts.specs.declared.PartList.{PartList}
use Rattle.record_numbers.specs.Numbering.{most_parts, top_number, cells_of, Rules, part_list_refusal, highest}
use Rattle.record_parts.specs.PartLists.{numbers_of, list_of, WellFormed, listed_or, listing, made}
use Rattle.record_parts.proofs.Numbers.{rising_wider}
use Rattle.record_parts.proofs.Marks.{rising_highest, highest_below}
use Rattle.record_numbers.proofs.Rules.{accepted_rules, rules_accepted}

-- a list made of numbers has these numbers in use
pub numbers_of_list : (mark : ℕ) (numbers : List ℕ) → numbers_of (list_of mark numbers) ≡ numbers
numbers_of_list mark numbers = take-append_seam numbers (replicate (most_parts - length numbers) 0)

pub list_well_formed : (mark : ℕ) (numbers : List ℕ) → Rules (length numbers) mark numbers → WellFormed (list_of mark numbers)
list_well_formed mark numbers r =
    let same = numbers_of_list mark numbers in
    record {
      rules = record { some = r.some; few = r.few; rising = rw same r.rising; top = r.top };
      spare = ap cells_of (sym same);
    }

-- a well-formed list has as many numbers in use as it counts
pub well_formed_counted : (list : PartList) → WellFormed list → length (numbers_of list) ≡ list.count
well_formed_counted list w =
    let few : length (numbers_of list) ≤ list.count = rw (length-take) (min-le_left _ _) in
    let all : length list.numbers ≡ length (numbers_of list) + (most_parts - length (numbers_of list)) =
    ap length w.spare ∙ length-append (numbers_of list) _ ∙ simp length-replicate in
    length-take-le list.count list.numbers (omega (arith, w.rules.few))

-- and is the list that is made of its mark and its numbers
pub well_formed_list : (list : PartList) → WellFormed list → list ≡ list_of list.mark (numbers_of list)
well_formed_list list w =
    ap₂ (λ (count : ℕ) (cells : List ℕ). record { count = count; mark = list.mark; numbers = cells })
    (sym (well_formed_counted list w)) w.spare

-- a list with a verdict has that verdict
pub listed_verdict : (other : PartList) (v : Verdict) (list : PartList) → (listed_or other v list).verdict ≡ v
listed_verdict other (Ok _) list = refl
listed_verdict other (Err refusal) list = refl

-- numbers and a mark are accepted exactly if they keep the rules
pub made_exactly : (mark : ℕ) (numbers : List ℕ) → ((made mark numbers).verdict ≡ Ok tt) ↔ Rules (length numbers) mark numbers
unfolding made
made_exactly mark numbers = (
  λ e. accepted_rules (length numbers) mark numbers (sym (listed_verdict (list_of 0 []) (part_list_refusal (length numbers) mark numbers) (list_of mark numbers)) ∙ e),
  λ r. listed_verdict (list_of 0 []) (part_list_refusal (length numbers) mark numbers) (list_of mark numbers) ∙ rules_accepted r,
)

-- they are then the mark and the numbers of the list that is made
pub made_list : (mark : ℕ) (numbers : List ℕ) → (made mark numbers).verdict ≡ Ok tt → (made mark numbers).list ≡ list_of mark numbers
unfolding made
made_list mark numbers e =
    ap (λ (v : Verdict). (listing v (list_of mark numbers)).list) (rules_accepted ((made_exactly mark numbers).0 e))

-- which is well-formed
pub made_well_formed : (mark : ℕ) (numbers : List ℕ) → (made mark numbers).verdict ≡ Ok tt → WellFormed (made mark numbers).list
made_well_formed mark numbers e =
    rw (made_list mark numbers e) (list_well_formed mark numbers ((made_exactly mark numbers).0 e))

-- and every well-formed list is made, of its own mark and numbers
pub well_formed_made : (list : PartList) → WellFormed list → made list.mark (numbers_of list) ≡ listing (Ok tt) list
unfolding made
well_formed_made list w =
    let same = well_formed_list list w in
    let rules : Rules (length (numbers_of list)) list.mark (numbers_of list) = rw (well_formed_counted list w) w.rules in
    ap (λ (v : Verdict). listing v (list_of list.mark (numbers_of list))) (rules_accepted rules) ∙ ap (listing (Ok tt)) (sym same)

-- the numbers of a first list are accepted exactly if they keep the rules under the top number
pub first_exactly : (numbers : List ℕ) → ((made (highest numbers) numbers).verdict ≡ Ok tt) ↔ Rules (length numbers) top_number numbers
first_exactly numbers = (
  λ e. let r = (made_exactly (highest numbers) numbers).0 e in
      record { some = r.some; few = r.few; rising = rising_wider 0 (highest numbers) 0 top_number numbers (le_refl 0) r.top r.rising; top = le_refl top_number },
  λ r. (made_exactly (highest numbers) numbers).1
      (record { some = r.some; few = r.few; rising = rising_highest 0 top_number numbers r.rising; top = highest_below 0 top_number numbers r.rising }),
)

-- the cells of a part list are enough for its numbers
pub cells_enough : (list : PartList) → WellFormed list → list.count ≤ length list.numbers
cells_enough list w =
    omega (arith, ap length w.spare, length-append (numbers_of list) (replicate (most_parts - length (numbers_of list)) 0), well_formed_counted list w)
