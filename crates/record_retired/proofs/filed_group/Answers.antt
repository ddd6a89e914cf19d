-- `record_retired::filed_group` meets its contract. The loop's invariant: the numbers of the group among those left, filed after those that are
-- filed, come to what all of the group come to.
-- Assumes nothing.
use mathlib.Core.Path.{◌≡◌, sym, ap, ◌∙◌}
use mathlib.Core.List.{List, ◌∷◌}
use Prim.Native.Nat.{ℕ, ◌+◌, ◌/◌, ◌%◌, ◌≤◌, ◌<◌}
use native.Mathlib.Numerals.{add-one}
use native.Mathlib.Omega.{arith}
use lib.ListN.{length, take, drop, get_or, drop_of_length-le}
use lib.Seq.{drop-cons}
use Rattle.theory_sets.proofs.Masks.{has_odd, has_even}
use Rattle.record_numbers.specs.Numbering.{named}
use Rattle.record_retired.specs.declared.Retired.{Retired}
use Rattle.record_retired.specs.Retired.{filed, filed_all, retired_of}
use Rattle.record_retired.proofs.Cells.{numbers_back}
use Rattle.record_retired.proofs.Filing.{filed_most}
use Rattle.record_retired.proofs.filed_group.Invariants.{Filing}
use Rattle.record_retired.proofs.filed_group.Goals as goal
use Rattle.record_retired.proofs.filed_group.Goals.{then-left-eq1, else-left-eq1}

-- the numbers of the group among those left: the next one is of them, or not
module _ (numbers : List ℕ) (left i : ℕ) (inside : i < length numbers) where
  named_here : left % 2 ≡ 1 → named (drop i numbers) left ≡ get_or numbers i 0 ∷ named (drop (i + 1) numbers) (left / 2)
  unfolding named
  named_here odd = rw (drop-cons numbers i 0 inside, has_odd left odd, add-one i)

  named_past : (left % 2 ≡ 1 → ⊥) → named (drop i numbers) left ≡ named (drop (i + 1) numbers) (left / 2)
  unfolding named
  named_past even = rw (drop-cons numbers i 0 inside, has_even left (omega arith), add-one i)

module _ (numbers : List ℕ) (filing : Retired) (left i : ℕ) (result : List ℕ) (f : Filing numbers filing left i result) where
  -- a number of the group is filed
  more : i < length numbers → left % 2 ≡ 1 → (new : Retired) → new ≡ retired_of (filed (get_or numbers i 0) (take filing.count filing.numbers))
      → Filing numbers new (left / 2) (i + 1) result
  unfolding filed_all
  more inside odd new e =
      let number = get_or numbers i 0 in
      let same : take filing.count filing.numbers ≡ f.list =
      ap (λ (r : Retired). take r.count r.numbers) f.stands ∙ numbers_back f.list in
      record {
        list = filed number f.list;
        few = filed_most number f.list;
        stands = e ∙ ap (λ (l : List ℕ). retired_of (filed number l)) same;
        comes = sym (ap (λ (l : List ℕ). filed_all l f.list) (named_here numbers left i inside odd)) ∙ f.comes;
      }

  -- and any other is passed
  past : i < length numbers → (left % 2 ≡ 1 → ⊥) → (new : Retired) → new ≡ filing → Filing numbers new (left / 2) (i + 1) result
  past inside even new e =
      record {
        list = f.list;
        few = f.few;
        stands = e ∙ f.stands;
        comes = sym (ap (λ (l : List ℕ). filed_all l f.list) (named_past numbers left i inside even)) ∙ f.comes;
      }

  -- behind the last number
  end : length numbers ≤ i → filing ≡ retired_of result
  unfolding named filed_all
  end over =
      f.stands ∙ ap retired_of (sym (ap (λ (l : List ℕ). filed_all (named l left) f.list) (drop_of_length-le numbers over)) ∙ f.comes)

pub loop-number-preserved : goal.loop-number-preserved
loop-number-preserved c =
    let f = c.loop-number.invariant in
    let inside = c.loop-number-test.true in
    elim c.if-left-eq1.branch [
      | then-left-eq1 w ↦ more _ _ _ _ _ f inside w.if-left-eq1.true c.if-left-eq1.filing (w.filing-is ∙ w.file-filing.ensures)
      | else-left-eq1 w ↦ past _ _ _ _ _ f inside w.if-left-eq1.false c.if-left-eq1.filing w.filing-is
    ]

pub returns : goal.returns
returns c = end _ _ _ _ _ c.loop-number.invariant c.loop-number-test.false
