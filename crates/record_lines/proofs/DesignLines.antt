-- Lines of designs. Each change is a line, and two lines one after the other are one: so along every line of changes no number that left comes
-- back, none is issued twice, each minimal set, by part numbers, is one of the first design or was given, and every such set stays a path set until
-- one of its parts leaves. No part ever stands on another part's path sets.
-- Assumes nothing.
use mathlib.Core.Path.{◌≡◌, sym, ap, ◌∙◌}
use mathlib.Core.List.Memᴰ
use mathlib.Core.List.{List, [], ◌∷◌, ◌++◌, Memᴰ}
use mathlib.Core.Logic.{◌⊎◌, inl, inr, ⊎_elim}
use mathlib.Core.Bool.{Bool, true, false, not, ◌&&◌}
use Prim.Native.Nat.{ℕ}
use Rattle.std.specs.Prelude.{Ok}
use Rattle.record_numbers.specs.Numbering.{named, names}
use Rattle.record_parts.specs.PartLists.{numbers_of}
use Rattle.record_parts.specs.Changes.{single}
use Rattle.record_parts.specs.Lines.{In, Line}
use Rattle.record_parts.specs.Lines as lines
use Rattle.record_parts.proofs.OneChange.{line_none, line_one, line_without}
use Rattle.record_parts.proofs.Lines.{line_append}
use Rattle.record.specs.Records.{Design}
use Rattle.record.specs.RecordBytes.{DesignRules}
use Rattle.masks.specs.Groups.{meets}
use Rattle.numbers.proofs.Bools.{and_left, and_right, and_both, or_left, or_right, false_of}
use Rattle.record_lines.specs.Changes.{Change, add_part, take_out, take_out_group, add_set, convert, every, design_without, change_refusal, changed, left_in}
use Rattle.record_lines.specs.Names.{named_sets, names_some, runs}
use Rattle.record_lines.specs.Lines.{design_after, issued_in, given_in, along, DesignLine}
use Rattle.record_lines.proofs.Keeping.{keep_elim, every_intro, every_elim, some_intro, some_elim}
use Rattle.record_numbers.proofs.Names.{names_intro, names_elim}
use Rattle.record_lines.proofs.NamedChanges.{added_names, without_named, with_set_names, named_in_use}
use Rattle.record_lines.proofs.Rules.{changed_rules, without_rules, take_out_accepted, group_out_accepted}
use Rattle.record_lines.proofs.Running.{added_runs, without_runs, with_set_runs}

-- a set that names no number that left is still a path set: if all its parts work, the machine runs
abbrev Stays : Design → List ℕ → List ℕ → Type 0
Stays last left set = ((number : ℕ) → In number set → In number left → ⊥) → (working : ℕ → Bool) → every working set ≡ true → runs last working ≡ true

-- A line of part lists, with where each minimal set comes from and that sets stay, is a line of designs: minimal sets name numbers in use only.
line : {first last : Design} {issued left : List ℕ} {given : List (List ℕ)} → DesignRules last → Line first.parts last.parts issued left
    → ((set : List ℕ) → Memᴰ set (named_sets last) → Memᴰ set (named_sets first) ⊎ Memᴰ set given)
    → ((set : List ℕ) → Memᴰ set (named_sets first) → Stays last left set) → ((set : List ℕ) → Memᴰ set given → Stays last left set)
    → DesignLine first last issued left given
line {first} {last} rules parts origin old new =
    record {
      rules = rules;
      parts = parts;
      origin = origin;
      clean = λ set m number i gone. (parts.gone number gone).1 (named_in_use last set m number i);
      stays = λ set m. ⊎_elim (old set) (new set) m;
    }

-- the machine runs while all parts of a minimal set work
minimal_runs : (d : Design) (set : List ℕ) → Memᴰ set (named_sets d) → (working : ℕ → Bool) → every working set ≡ true → runs d working ≡ true
minimal_runs d set m working all = some_intro (every working) (named_sets d) m all

design_line_none : (d : Design) → DesignRules d → DesignLine d d [] [] []
design_line_none d r = line r (line_none d.parts r.parts) (λ set m. inl m) (λ set m free. minimal_runs d set m) (λ set m. absurd (Memᴰ.not-nil m))

-- a group taken out is a line along which its numbers leave
pub design_line_without : (group : ℕ) (d : Design) → DesignRules d → every (meets group) d.sets ≡ false
    → DesignLine d (design_without group d) [] (named (numbers_of d.parts) group) []
design_line_without group d r left =
    let gone = named (numbers_of d.parts) group in
    let rules = without_rules group d r left in
    line rules (line_without d.parts r.parts group rules.parts.rules.some)
    (λ set m. inl (keep_elim (λ set. not (names_some gone set)) (named_sets d) (rw (without_named group d r) at m)).0)
    (λ set m free working all.
    without_runs group d r working
    ∙ minimal_runs d set m (λ number. working number && not (names number gone)) (every_intro (λ number. working number && not (names number gone)) set (λ number i.
    and_both (every_elim working set all i) (ap not (false_of (names number gone) (λ h. free number i (names_elim number gone h)))))))
    (λ set m. absurd (Memᴰ.not-nil m))

-- each change that is not refused is a line
pub design_line_one : (change : Change) (d : Design) → DesignRules d → change_refusal change d ≡ Ok tt
    → DesignLine d (changed change d) (issued_in change d) (left_in change d) (given_in change d)
design_line_one add_part d r accepted =
    line (changed_rules add_part d r accepted) (line_one lines.add_part d.parts r.parts) (λ set m. inl (rw (added_names d r accepted) at m))
    (λ set m free working all. added_runs d r accepted working ∙ minimal_runs d set m working all)
    (λ set m. absurd (Memᴰ.not-nil m))
design_line_one (take_out position) d r accepted = design_line_without (single position) d r (take_out_accepted position d accepted).left
design_line_one (take_out_group group) d r accepted = design_line_without group d r (group_out_accepted group d accepted).2
design_line_one (add_set set) d r accepted =
    let numbers = numbers_of d.parts in
    line (changed_rules (add_set set) d r accepted) (line_none d.parts r.parts)
    (λ names m.
    ⊎_elim
    (λ (e : names ≡ named numbers set). inr (Memᴰ.head e))
    (λ (k : Memᴰ names (named_sets d)). inl k)
    (Memᴰ.cases_cons ((with_set_names set d r accepted names).0 m).0))
    (λ names m free working all. with_set_runs set d r accepted working ∙ or_right (every working (named numbers set)) (minimal_runs d names m working all))
    (λ names m free working all. with_set_runs set d r accepted working
    ∙ or_left (runs d working) (ap (every working) (sym (Memᴰ.eq_of_singleton m)) ∙ all))
design_line_one (convert edition) d r accepted = design_line_none d r

-- One line after another. A set that stays along the first holds a minimal set of the middle, which names no number that leaves along the second.
design_line_append : {first middle last : Design} {issued issued' left left' : List ℕ} {given given' : List (List ℕ)} → DesignRules first
    → DesignLine first middle issued left given → DesignLine middle last issued' left' given' → DesignLine first last (issued ++ issued') (left ++ left') (given ++ given')
design_line_append {middle = middle} {last = last} {left = left} {left' = left'} {given = given} {given' = given'} r one two =
    line two.rules (line_append r.parts one.parts two.parts)
    (λ set m.
    ⊎_elim
    (λ k. ⊎_elim (λ j. inl j) (λ j. inr (Memᴰ.append_left given' j)) (one.origin set k))
    (λ k. inr (Memᴰ.append_right given k))
    (two.origin set m))
    (λ set m. through set (one.stays set (inl m)))
    (λ set m. ⊎_elim
    (λ k. through set (one.stays set (inr k)))
    (λ k free working all. two.stays set (inr k) (λ number i j. free number i (Memᴰ.append_right left j)) working all)
    (Memᴰ.append_cases given m))
  where
    through : (set : List ℕ) → Stays middle left set → Stays last (left ++ left') set
    through set holds free working all =
        let inside : ℕ → Bool = λ number. working number && names number set in
        let whole : every inside set ≡ true = every_intro inside set (λ number i. and_both (every_elim working set all i) (names_intro number set i)) in
        let found = some_elim (every inside) (named_sets middle) (holds (λ number i j. free number i (Memᴰ.append_left left' j)) inside whole) in
        let small = found.0 in
        two.stays small (inl found.1)
        (λ number i j. free number (names_elim number set (and_right (working number) (names number set) (every_elim inside small found.2 i))) (Memᴰ.append_right left j))
        working
        (every_intro working small (λ number i. and_left (working number) (names number set) (every_elim inside small found.2 i)))

-- ---- changes none of which is refused

abbrev pub Allowed : List Change → Design → Type 0
Allowed [] d = Unit {0}
Allowed (change ∷ changes) d = (change_refusal change d ≡ Ok tt) × Allowed changes (changed change d)

pub design_line : (changes : List Change) (d : Design) → DesignRules d → Allowed changes d
    → DesignLine d (design_after changes d) (along issued_in changes d) (along left_in changes d) (along given_in changes d)
design_line [] d r allowed = design_line_none d r
design_line (change ∷ changes) d r allowed =
    let one = design_line_one change d r allowed.0 in
    design_line_append r one (design_line changes (changed change d) one.rules allowed.1)
