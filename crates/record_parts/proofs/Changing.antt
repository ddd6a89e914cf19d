-- What a change gives, case by case: the list is broken, or the change is refused, or it is made.
-- Assumes nothing.
use mathlib.Core.Path.{◌≡◌, ap, ◌∙◌}
use mathlib.Core.List.{List}
use lib.ListN.{length}
use mir.Val.{Val}
use denote.Laws.{Is}
use Rattle.std.specs.Prelude.{Ok, Err}
use Rattle.answer.specs.Outcome.{Verdict}
use Rattle.answer.specs.declared.Refusal.{Refusal}
use Rattle.record_parts.specs.declared.PartList.{PartList}
use Rattle.record_parts.specs.declared.Changed.{Changed}
use Rattle.record_numbers.specs.Numbering.{most_parts, Rules}
use Rattle.record_parts.specs.PartLists.{numbers_of}
use Rattle.record_parts.specs.Changes.{changed, unless, broken_refusal, change}
use Rattle.record_parts.specs.contracts.PartList.{the_row}
use Rattle.record_parts.proofs.InCells.{cells_all, numbers_counted}
use Rattle.record_numbers.proofs.Rules.{accepted_rules}

module _ (list : PartList) (refusal : Verdict) (result : Changed) where
  -- a broken list is refused as it would be on being read
  pub change_broken : (r : Refusal) → broken_refusal list ≡ Err r → change list refusal result ≡ changed list (Err r)
  change_broken r broken = ap (λ (v : Verdict). unless v list (unless refusal list result)) broken

  -- one that keeps the rules has the change's own refusal
  pub change_refused : (r : Refusal) → broken_refusal list ≡ Ok tt → refusal ≡ Err r → change list refusal result ≡ changed list (Err r)
  change_refused r whole refused =
      ap (λ (v : Verdict). unless v list (unless refusal list result)) whole ∙ ap (λ (v : Verdict). unless v list result) refused

  -- or the change
  pub change_made : broken_refusal list ≡ Ok tt → refusal ≡ Ok tt → change list refusal result ≡ result
  change_made whole accepted =
      ap (λ (v : Verdict). unless v list (unless refusal list result)) whole ∙ ap (λ (v : Verdict). unless v list result) accepted

-- what a change may rest on where the list is not broken
pub record Usable (list : PartList) : Type 0 where
  pub rules : Rules list.count list.mark (numbers_of list)
  pub all : length list.numbers ≡ most_parts
  pub counted : length (numbers_of list) ≡ list.count

pub usable : (list : PartList) (values : List Val) → Is the_row list values → broken_refusal list ≡ Ok tt → Usable list
usable list values held whole =
    let rules = accepted_rules list.count list.mark (numbers_of list) whole in
    let all = cells_all list values held in
    record { rules = rules; all = all; counted = numbers_counted list all rules.few }
