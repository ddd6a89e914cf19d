-- One change of a well-formed part list, as a line of its own: a part more, a part or a group taken out, or nothing where it is
-- refused.
-- Assumes nothing.
use mathlib.Core.Path.{◌≡◌, refl, sym, ap, ◌∙◌, subst}
use mathlib.Core.Bool.{Bool}
use mathlib.Core.List.Memᴰ
use mathlib.Core.List.{List, [], ◌∷◌, ◌++◌}
use mathlib.Core.Logic.{inl, inr, ⊎_elim}
use Prim.Native.Nat.{ℕ, ◌+◌, ◌-◌, ◌^◌, ◌≤◌, ◌<◌}
use native.Mathlib.Nat.{le_refl, pos_of_ne-zero}
use native.Mathlib.Omega.{arith}
use borrow.Author.Tests.{eqb-true, eqb-false, ltb-false, eq-eqb, ne_eqb, le-ltb}
use lib.Dec.{eqb}
use lib.Pow.{pow_pos, pow-lt}
use lib.ListN.{length, get_or, length-append}
use Rattle.std.specs.Prelude.{Ok, Err}
use Rattle.answer.specs.declared.Reason.TheVariants.{InEverySet}
use Rattle.answer.specs.Outcome.{refuse, and_then, Verdict}
use Rattle.answer.specs.declared.Refusal.{Refusal}
use Rattle.record_parts.specs.declared.PartList.{PartList}
use Rattle.record_parts.specs.declared.Changed.{Changed}
use Rattle.record_parts.specs.declared.Listed.{Listed}
use Rattle.record_numbers.specs.Numbering.{most_parts, top_number, Rules, named, others}
use Rattle.record_parts.specs.PartLists.{numbers_of, list_of, WellFormed, listed_or, listing}
use Rattle.record_parts.specs.Changes.{changed, unless, broken_refusal, change, add_refusal, with_part, part_added, take_out_refusal, single, list_without, without_part, taken_out, take_out_group_refusal, group_taken_out}
use Rattle.record_parts.specs.Lines.{PartChange, add_part, take_out, take_out_group, verdict_in, listed_after, apply, given_number, if_made, issued_in, left_in, In, Line}
use Rattle.record_numbers.proofs.Others.{named_or_others}
use Rattle.record_parts.proofs.LeftOut.{in_named, in_others, in_either, named_single, others_single}
use Rattle.record_parts.proofs.InCells.{numbers_counted}
use Rattle.record_parts.proofs.Numbers.{rising_in, rising_append, rising_others, others_gone}
use Rattle.answer.proofs.Outcomes.{refuse_accepted, then_passed, then_refused, then_same}
use Rattle.answer.proofs.Checks.{group_passed, group_right}
use Rattle.numbers.proofs.Bools.{same_test}
use Rattle.record_numbers.proofs.Rules.{accepted_rules, rules_accepted}
use Rattle.record_parts.proofs.Changing.{change_broken}
use Rattle.record_parts.proofs.WellFormed.{numbers_of_list, list_well_formed, well_formed_counted}

-- Numbers that keep the rules keep them with mark+1 behind them, and without a group of them that leaves one.
module _ (list : PartList) (rules : Rules list.count list.mark (numbers_of list)) (counted : length (numbers_of list) ≡ list.count) where
  with_part_well_formed : list.count < most_parts → list.mark < top_number → WellFormed (with_part list).list
  with_part_well_formed few low =
      let ns = numbers_of list in
      let issued = list.mark + 1 in
      list_well_formed issued (ns ++ (issued ∷ []))
      (record {
        some = omega (arith, length-append ns (issued ∷ []));
        few = omega (arith, length-append ns (issued ∷ []));
        rising = rising_append 0 list.mark issued ns (issued ∷ []) (omega arith) (omega arith) rules.rising (omega arith, le_refl issued, tt);
        top = omega arith;
      })

  without_well_formed : (group : ℕ) → 1 ≤ length (others (numbers_of list) group) → WellFormed (list_without group list)
  without_well_formed group left =
      let ns = numbers_of list in
      let fewer = named_or_others ns group in
      list_well_formed list.mark (others ns group)
      (record {
        some = left;
        few = omega (arith, rules.few);
        rising = rising_others group 0 list.mark ns rules.rising;
        top = rules.top;
      })

-- the part at a position is one of two or more, so some are left without it
some_left : (list : PartList) → length (numbers_of list) ≡ list.count → (position : ℕ) → 1 ≤ position → position ≤ list.count → 2 ≤ list.count → 1 ≤ length (others (numbers_of list) (single position))
some_left list counted position low high two = omega (arith, others_single (position - 1) (numbers_of list) (omega arith))

-- what is refused changes nothing
pub line_none : (list : PartList) → WellFormed list → Line list list [] []
line_none list w =
    record {
      well_formed = w;
      mark = le_refl list.mark;
      rising = tt;
      origin = λ number i. inl i;
      account = λ number i. ⊎_elim (λ (j : In number (numbers_of list)). inl j) (λ (j : In number []). absurd (Memᴰ.not-nil j)) i;
      gone = λ number i. absurd (Memᴰ.not-nil i);
    }

module _ (list : PartList) (w : WellFormed list) where
  -- a part more: mark+1 is issued, above the mark and so above every number in use
  line_with_part : list.count < most_parts → list.mark < top_number → Line list (with_part list).list ((list.mark + 1) ∷ []) []
  line_with_part few low =
      let ns = numbers_of list in
      let issued = list.mark + 1 in
      let same = numbers_of_list issued (ns ++ (issued ∷ [])) in
      record {
        well_formed = with_part_well_formed list w.rules (well_formed_counted list w) few low;
        mark = omega arith;
        rising = (omega arith, le_refl issued, tt);
        origin = λ number i. Memᴰ.append_cases ns (rw same at i);
        account = λ number i.
            inl (rw same (⊎_elim (λ (j : In number ns). Memᴰ.append_left (issued ∷ []) j) (λ (j : In number (issued ∷ [])). Memᴰ.append_right ns j) i));
        gone = λ number i. absurd (Memᴰ.not-nil i);
      }

  -- a group taken out: its numbers leave, and the others are in use in their order
  pub line_without : (group : ℕ) → 1 ≤ length (others (numbers_of list) group) → Line list (list_without group list) [] (named (numbers_of list) group)
  line_without group left =
      let ns = numbers_of list in
      let same = numbers_of_list list.mark (others ns group) in
      record {
        well_formed = without_well_formed list w.rules (well_formed_counted list w) group left;
        mark = le_refl list.mark;
        rising = tt;
        origin = λ number i. inl (in_others ns group (rw same at i));
        account = λ number i.
            ⊎_elim
            (λ (j : In number ns). ⊎_elim (λ (k : In number (others ns group)). inl (rw same k)) (λ (k : In number (named ns group)). inr k) (in_either ns group j))
            (λ (j : In number []). absurd (Memᴰ.not-nil j))
            i;
        gone = λ number i. (inl (in_named ns group i), λ j. others_gone group 0 list.mark ns w.rules.rising i (rw same at j));
      }

  -- so for the group of a single part
  line_without_part : (position : ℕ) → 1 ≤ position → position ≤ list.count → 2 ≤ list.count → Line list (without_part list position).list [] (get_or (numbers_of list) (position - 1) 0 ∷ [])
  line_without_part position low high two =
      let counted = well_formed_counted list w in
      subst (λ (left : List ℕ). Line list (list_without (single position) list) [] left) (named_single (position - 1) (numbers_of list) (omega arith))
      (line_without (single position) (some_left list counted position low high two))

  -- the list is not broken, so the change's own refusals decide
  whole : (refusal : Verdict) (result : Changed) → change list refusal result ≡ unless refusal list result
  whole refusal result = ap (λ (v : Verdict). unless v list (unless refusal list result)) (rules_accepted w.rules)

  pub added_whole : part_added list ≡ unless (add_refusal list) list (with_part list)
  unfolding part_added
  added_whole = whole (add_refusal list) (with_part list)

  pub taken_out_whole : (position : ℕ) → taken_out list position ≡ unless (take_out_refusal list position) list (without_part list position)
  unfolding taken_out
  taken_out_whole position = whole (take_out_refusal list position) (without_part list position)

  pub group_taken_out_whole : (group : ℕ) → group_taken_out list group ≡ listed_or list (take_out_group_refusal list group) (list_without group list)
  unfolding group_taken_out
  group_taken_out_whole group = ap (λ (v : Verdict). listed_or list v (list_without group list)) (then_passed (take_out_group_refusal list group) (rules_accepted w.rules))

  -- While there is room and a number is left, the numbers are the old ones and mark+1 behind them,
  pub added_given : list.count < most_parts → list.mark < top_number → part_added list ≡ changed (list_of (list.mark + 1) (numbers_of list ++ ((list.mark + 1) ∷ []))) (Ok (list.mark + 1))
  added_given few low =
      added_whole ∙ simp (ne_eqb list.count most_parts (λ e. omega arith), ne_eqb list.mark top_number (λ e. omega arith))

  -- which is above every old one.
  pub added_above : (number : ℕ) → In number (numbers_of list) → number < list.mark + 1
  added_above number i = omega (arith, (rising_in 0 list.mark (numbers_of list) w.rules.rising i).1)

  -- From a list of two or more, the number at a position goes and the others stay, in order.
  pub taken_out_given : (position : ℕ) → 1 ≤ position → position ≤ list.count → 2 ≤ list.count → taken_out list position ≡ changed (list_without (single position) list) (Ok (get_or (numbers_of list) (position - 1) 0))
  taken_out_given position low high two =
      taken_out_whole position
      ∙ simp (ne_eqb position 0 (λ e. omega arith), le-ltb list.count position high, ne_eqb list.count 1 (λ e. omega arith))

-- a change is refused and leaves the list, or it is made of a list that keeps the rules
by_unless : (P : Changed → Type 0) (refusal : Verdict) (list : PartList) (result : Changed) → (refusal ≡ Ok tt → P result) → ((r : Refusal) → P (changed list (Err r))) → P (unless refusal list result)
by_unless P (Ok _) list result made refused = made refl
by_unless P (Err r) list result made refused = refused r

by_change : (P : Changed → Type 0) (list : PartList) (refusal : Verdict) (result : Changed) → (Rules list.count list.mark (numbers_of list) → refusal ≡ Ok tt → P result) → ((r : Refusal) → P (changed list (Err r))) → P (change list refusal result)
by_change P list refusal result made refused =
    by_unless P (broken_refusal list) list (unless refusal list result)
    (λ whole. by_unless P refusal list result (made (accepted_rules list.count list.mark (numbers_of list) whole)) refused)
    refused

-- a part is added where there is room and a number is left
add_accepted : (list : PartList) → Rules list.count list.mark (numbers_of list) → add_refusal list ≡ Ok tt → (list.count < most_parts) × (list.mark < top_number)
add_accepted list rules accepted =
    let s = refuse_accepted _ _ _ _ accepted in
    let t = refuse_accepted _ _ _ _ s.1 in
    (omega (arith, eqb-false list.count most_parts s.0), omega (arith, eqb-false list.mark top_number t.0))

-- and taken out at a position of two or more
pub take_out_accepted : (list : PartList) (position : ℕ) → Rules list.count list.mark (numbers_of list) → take_out_refusal list position ≡ Ok tt → (1 ≤ position) × (position ≤ list.count) × (2 ≤ list.count)
take_out_accepted list position rules accepted =
    let s = refuse_accepted _ _ _ _ accepted in
    let t = refuse_accepted _ _ _ _ s.1 in
    let u = refuse_accepted _ _ _ _ t.1 in
    (omega (arith, eqb-false position 0 s.0), ltb-false _ _ t.0, omega (arith, eqb-false list.count 1 u.0))

-- a group is taken out that has a part, only parts of the list, and not all of them
pub take_out_group_accepted : (list : PartList) (group : ℕ) → take_out_group_refusal list group ≡ Ok tt → (0 < group) × (group < 2 ^ list.count) × (1 ≤ length (others (numbers_of list) group))
take_out_group_accepted list group accepted =
    let left = length (others (numbers_of list) group) in
    let s = group_right list.count group (refuse (eqb left 0) InEverySet 0 (Ok tt)) accepted in
    let t = refuse_accepted (eqb left 0) InEverySet 0 (Ok tt) s.2 in
    (s.0, s.1, pos_of_ne-zero (eqb-false left 0 t.0))

-- it is refused and leaves the list, or made of a list that keeps the rules
by_group : (P : Listed → Type 0) (list : PartList) (group : ℕ) → (Rules list.count list.mark (numbers_of list) → take_out_group_refusal list group ≡ Ok tt → P (listing (Ok tt) (list_without group list)))
    → ((r : Refusal) → P (record { list = list; verdict = Err r })) → P (group_taken_out list group)
unfolding group_taken_out
by_group P list group made refused = cases (broken_refusal list) refl (take_out_group_refusal list group) refl
  where
    cases : (v : Verdict) → broken_refusal list ≡ v → (w : Verdict) → take_out_group_refusal list group ≡ w → P (listed_or list (and_then v w) (list_without group list))
    cases (Err r) broken w e = refused r
    cases (Ok _) whole (Err r) e = refused r
    cases (Ok _) whole (Ok _) e = made (accepted_rules list.count list.mark (numbers_of list) whole) e

-- each change of a well-formed list is a line
pub line_one : (c : PartChange) (list : PartList) → WellFormed list → Line list (apply c list).list (issued_in c list) (left_in c list)
unfolding part_added taken_out
line_one add_part list w =
    by_change (λ r. Line list r.list (given_number r.answer) []) list (add_refusal list) (with_part list)
    (λ rules accepted. let a = add_accepted list rules accepted in line_with_part list w a.0 a.1)
    (λ r. line_none list w)
line_one (take_out position) list w =
    by_change (λ r. Line list r.list [] (given_number r.answer)) list (take_out_refusal list position) (without_part list position)
    (λ rules accepted. let a = take_out_accepted list position rules accepted in line_without_part list w position a.0 a.1 a.2)
    (λ r. line_none list w)
line_one (take_out_group group) list w =
    by_group (λ r. Line list r.list [] (if_made r.verdict (named (numbers_of list) group))) list group
    (λ rules accepted. line_without list w group (take_out_group_accepted list group accepted).2)
    (λ r. line_none list w)

-- What a change gives is well-formed, whatever list it was handed: of a list with all its cells, spare ones that do not hold 0 among them.
pub given_well_formed : (c : PartChange) (list : PartList) → length list.numbers ≡ most_parts → (apply c list).verdict ≡ Ok tt → WellFormed (apply c list).list
unfolding part_added taken_out
given_well_formed add_part list all =
    by_change (λ r. verdict_in r.answer ≡ Ok tt → WellFormed r.list) list (add_refusal list) (with_part list)
    (λ rules accepted e. let a = add_accepted list rules accepted in with_part_well_formed list rules (numbers_counted list all rules.few) a.0 a.1)
    (λ r e. let z : ◌≡◌ {A = ℕ} 0 1 = cc in absurd (omega arith))
given_well_formed (take_out position) list all =
    by_change (λ r. verdict_in r.answer ≡ Ok tt → WellFormed r.list) list (take_out_refusal list position) (without_part list position)
    (λ rules accepted e.
    let a = take_out_accepted list position rules accepted in
    let counted = numbers_counted list all rules.few in
    without_well_formed list rules counted (single position) (some_left list counted position a.0 a.1 a.2))
    (λ r e. let z : ◌≡◌ {A = ℕ} 0 1 = cc in absurd (omega arith))
given_well_formed (take_out_group group) list all =
    by_group (λ r. r.verdict ≡ Ok tt → WellFormed r.list) list group
    (λ rules accepted e. without_well_formed list rules (numbers_counted list all rules.few) group (take_out_group_accepted list group accepted).2)
    (λ r e. let z : ◌≡◌ {A = ℕ} 0 1 = cc in absurd (omega arith))

-- taking out leaves the mark, whatever the list
pub taken_out_mark : (list : PartList) (position : ℕ) → (taken_out list position).list.mark ≡ list.mark
unfolding taken_out
taken_out_mark list position =
    by_change (λ r. r.list.mark ≡ list.mark) list (take_out_refusal list position) (without_part list position) (λ rules accepted. refl) (λ r. refl)

pub group_taken_out_mark : (list : PartList) (group : ℕ) → (group_taken_out list group).list.mark ≡ list.mark
group_taken_out_mark list group = by_group (λ r. r.list.mark ≡ list.mark) list group (λ rules accepted. refl) (λ r. refl)

-- a list that breaks the rules is never changed
pub broken_stays : (c : PartChange) (list : PartList) (refusal : Refusal) → broken_refusal list ≡ Err refusal → apply c list ≡ record { list = list; verdict = Err refusal }
unfolding part_added taken_out group_taken_out
broken_stays add_part list refusal broken = ap listed_after (change_broken list (add_refusal list) (with_part list) refusal broken)
broken_stays (take_out position) list refusal broken =
    ap listed_after (change_broken list (take_out_refusal list position) (without_part list position) refusal broken)
broken_stays (take_out_group group) list refusal broken =
    ap (λ (v : Verdict). listed_or list v (list_without group list)) (then_refused (take_out_group_refusal list group) broken)

-- ---- a position is the group of the one part at it

-- a change by its number and one by its verdict
change_listed : (broken refusal : Verdict) (list new : PartList) (number : ℕ)
    → listed_after (unless broken list (unless refusal list (changed new (Ok number)))) ≡ listed_or list (and_then broken refusal) new
change_listed (Err r) refusal list new number = refl
change_listed (Ok _) (Err r) list new number = refl
change_listed (Ok _) (Ok _) list new number = refl

-- 18 for the only part is 18 for all parts
same_refusal : (list : PartList) (position : ℕ) → length (numbers_of list) ≡ list.count → 1 ≤ position → position ≤ list.count → take_out_refusal list position ≡ take_out_group_refusal list (single position)
same_refusal list position counted low high =
    let left = length (others (numbers_of list) (single position)) in
    let one = others_single (position - 1) (numbers_of list) (omega arith) in
    let same : eqb list.count 1 ≡ eqb left 0 =
    same_test (eqb list.count 1) (eqb left 0)
    (λ h. eq-eqb left 0 (omega (arith, eqb-true list.count 1 h))) (λ h. eq-eqb list.count 1 (omega (arith, eqb-true left 0 h))) in
    simp (ne_eqb position 0 (λ e. omega arith), le-ltb list.count position high)
    (ap (λ (p : Bool). refuse p InEverySet 0 (Ok tt)) same
    ∙ sym (group_passed list.count (single position) _ (pow_pos (position - 1)) (pow-lt (omega arith))))

-- so taking out a position of the list is taking out the group of the part at it
pub single_group : (list : PartList) (position : ℕ) → length list.numbers ≡ most_parts → 1 ≤ position → position ≤ list.count → apply (take_out position) list ≡ apply (take_out_group (single position)) list
unfolding taken_out group_taken_out
single_group list position all low high =
    change_listed (broken_refusal list) (take_out_refusal list position) list (list_without (single position) list) _
    ∙ ap (λ (v : Verdict). listed_or list v (list_without (single position) list))
    (then_same (broken_refusal list) (take_out_refusal list position) (take_out_group_refusal list (single position)) (λ whole.
    let rules = accepted_rules list.count list.mark (numbers_of list) whole in
    same_refusal list position (numbers_counted list all rules.few) low high))
