-- Lines of changes on record bytes: along every line from an accepted record, of either edition, no number that left comes back, none is issued
-- twice, and each minimal set, by part numbers, is one of the first record or was given while all its parts were in use.
-- Assumes nothing.
use mathlib.Core.Path.{◌≡◌, refl, sym, ap, ◌∙◌, subst}
use mathlib.Core.List.Memᴰ
use mathlib.Core.List.{List, [], ◌∷◌, ◌++◌, Memᴰ}
use mathlib.Core.Logic.{◌⊎◌, ⊎_elim}
use Prim.Native.Nat.{ℕ, ◌≤◌}
use native.Mathlib.Nat.{le_trans}
use native.Mathlib.Omega.{arith}
use lib.ListN.{take}
use Rattle.std.specs.Prelude.{Ok, Err}
use Rattle.answer.specs.Outcome.{Numbered}
use Rattle.answer.proofs.Outcomes.{then_accepted}
use Rattle.codec.specs.Bytes.{Bytes}
use Rattle.record_numbers.specs.Numbering.{named}
use Rattle.record_parts.specs.PartLists.{numbers_of}
use Rattle.record_parts.proofs.LeftOut.{in_named}
use Rattle.record_parts.specs.Lines.{In}
use Rattle.record_parts.proofs.Numbers.{rising_in}
use Rattle.codec.specs.Reads.{found}
use Rattle.record.specs.Records.{Design}
use Rattle.record_editions.specs.Editions.{Stored, first, design_of, retired_in, edition_of, whole_stored, whole_record}
use Rattle.record_editions.specs.EditionBytes.{StoredRules}
use Rattle.record_editions.proofs.RoundTrip.{stored_written, stored_design, rules_design}
use Rattle.record_lines.specs.Changes.{Change, add_part, take_out, take_out_group, add_set, convert, change_refusal, changed, entered_design}
use Rattle.record_lines.specs.Records.{edition_after, back_refusal, changed_stored, entered_record}
use Rattle.record_lines.specs.Lines.{Call, outcome_of, record_after, after, last_of, unless_refused, made_by, design_after, given_in, along, last_design, issued_by, left_by, given_by, DesignLine, GivenInUse, stored_after}
use Rattle.record_lines.proofs.Rules.{set_accepted}
use Rattle.record_lines.proofs.Stored.{changed_design}
use Rattle.record_lines.proofs.Written.{made_stored, entered_keeps, entered_stored}
use Rattle.record_lines.proofs.DesignLines.{Allowed, design_line}

-- ---- on record bytes

-- the design at the end of some changes is that of the record at their end
pub after_design : (changes : List Change) (s : Stored) → design_of (stored_after changes s) ≡ design_after changes (design_of s)
after_design [] s = refl
after_design (change ∷ changes) s = after_design changes (changed_stored change s) ∙ ap (design_after changes) (changed_design change s)

-- what the calls of a line made is allowed, and the last record is read as what these changes give
pub record Follows (calls : List Call) (bytes : List ℕ) (s : Stored) : Type 0 where
  pub allowed : Allowed (made_by calls bytes) (design_of s)
  pub next : ℕ
  pub read : whole_stored (last_of calls bytes) ≡ found (stored_after (made_by calls bytes) s) next
  pub rules : StoredRules (stored_after (made_by calls bytes) s)

pub follows : (calls : List Call) (bytes : List ℕ) (s : Stored) (next : ℕ) → whole_stored bytes ≡ found s next → StoredRules s → Follows calls bytes s
follows [] bytes s next read r = record { allowed = tt; next = next; read = read; rules = r }
follows (call ∷ calls) bytes s next read r =
    let on = cases (outcome_of call bytes).answer refl (follows calls bytes s next read r) (λ n now t k q. follows calls now t n k q) in
    record { allowed = on.0; next = on.1; read = on.2; rules = on.3 }
  where
    -- the rest of the line behind an answer
    Onward : Numbered → Type 0
    Onward answer =
        let now : List ℕ = record_after answer (outcome_of call bytes).buffer bytes in
        let changes : List Change = unless_refused answer call.change ++ made_by calls now in
        Allowed changes (design_of s) × (next : ℕ) × (whole_stored (last_of calls now) ≡ found (stored_after changes s) next) × StoredRules (stored_after changes s)

    cases : (answer : Numbered) → (outcome_of call bytes).answer ≡ answer → Follows calls bytes s
        → ((n : ℕ) (now : List ℕ) (t : Stored) → whole_stored now ≡ found t n → StoredRules t → Follows calls now t) → Onward answer
    cases (Err refusal) e same later = (same.allowed, same.next, same.read, same.rules)
    cases (Ok n) e same later =
        let change : Change = call.change in
        let made = made_stored change bytes call.buffer n e s next read r in
        let rest = later n _ (changed_stored change s) made.accepted_again made.again in
        let accepted = (then_accepted (change_refusal change (design_of s)) (back_refusal (edition_after change (edition_of s)) (retired_in s)) made.accepted).0 in
        ((accepted, subst (Allowed (made_by calls (take n (outcome_of call bytes).buffer))) (changed_design change s) rest.allowed), rest.next, rest.read, rest.rules)

module _ (calls : List Call) (bytes : List ℕ) (s : Stored) (next : ℕ) (read : whole_stored bytes ≡ found s next) (rules : StoredRules s) where
  line_from : DesignLine (design_of s) (last_design calls bytes (design_of s)) (issued_by calls bytes (design_of s)) (left_by calls bytes (design_of s)) (given_by calls bytes (design_of s))
  line_from = design_line (made_by calls bytes) (design_of s) (rules_design s rules) (follows calls bytes s next read rules).allowed

  -- a number up to the mark is never issued
  above_mark : (number : ℕ) → number ≤ (design_of s).parts.mark → In number (issued_by calls bytes (design_of s)) → ⊥
  above_mark number low i =
      let above = (rising_in (design_of s).parts.mark (last_design calls bytes (design_of s)).parts.mark (issued_by calls bytes (design_of s)) line_from.parts.rising i).0 in
      omega arith

  -- a number that was in use at first, or was issued, is not above the last mark
  below_mark : (number : ℕ) → In number (numbers_of (design_of s).parts) ⊎ In number (issued_by calls bytes (design_of s)) → number ≤ (last_design calls bytes (design_of s)).parts.mark
  below_mark number i =
      ⊎_elim
      (λ j. le_trans (rising_in 0 (design_of s).parts.mark (numbers_of (design_of s).parts) (rules_design s rules).parts.rules.rising j).1 line_from.parts.mark)
      (λ j. (rising_in (design_of s).parts.mark (last_design calls bytes (design_of s)).parts.mark (issued_by calls bytes (design_of s)) line_from.parts.rising j).1)
      i

-- a line in two parts
pub last_append : (earlier later : List Call) (bytes : List ℕ) → last_of (earlier ++ later) bytes ≡ last_of later (last_of earlier bytes)
last_append [] later bytes = refl
last_append (call ∷ calls) later bytes = last_append calls later (after call bytes)

-- ---- every line from an accepted record

module _ (bytes : List ℕ) (s : Stored) (next : ℕ) (small : Bytes bytes) (read : whole_stored bytes ≡ found s next) where
  rules : StoredRules s
  rules = (stored_written bytes s next small read).0

  -- the design of the record that the line begins with
  abbrev d : Design
  d = design_of s

  -- Every line of changes ends in an accepted record, whose design is at the end of a line of designs: see `DesignLine` for what that says.
  pub line_of : (calls : List Call) → (end : ℕ) × (whole_record (last_of calls bytes) ≡ found (last_design calls bytes d) end)
      × DesignLine d (last_design calls bytes d) (issued_by calls bytes d) (left_by calls bytes d) (given_by calls bytes d)
  line_of calls =
      let f = follows calls bytes s next read rules in
      let changes : List Change = made_by calls bytes in (
        f.next,
        stored_design (last_of calls bytes) (stored_after changes s) f.next f.read ∙ ap (λ (e : Design). found e f.next) (after_design changes s),
        line_from calls bytes s next read rules,
      )

  -- And what that record is, its edition and its retired numbers included, is what the changes made give.
  pub stored_line : (calls : List Call) → (end : ℕ) × (whole_stored (last_of calls bytes) ≡ found (stored_after (made_by calls bytes) s) end)
  stored_line calls = let f = follows calls bytes s next read rules in (f.next, f.read)

  -- A number up to the first record's mark is never issued: none that was ever in use or left, also before the line began.
  pub never_issued : (calls : List Call) (number : ℕ) → number ≤ d.parts.mark → In number (issued_by calls bytes d) → ⊥
  never_issued calls = above_mark calls bytes s next read rules

  module _ (earlier later : List Call) where
    abbrev middle : Stored
    middle = stored_after (made_by earlier bytes) s

    middle_read : Follows earlier bytes s
    middle_read = follows earlier bytes s next read rules

    middle_design : design_of middle ≡ last_design earlier bytes d
    middle_design = after_design (made_by earlier bytes) s

    -- What is issued later was not in use at first and was not issued before.
    pub issued_new : (number : ℕ) → In number (issued_by later (last_of earlier bytes) (last_design earlier bytes d)) → In number (numbers_of d.parts) ⊎ In number (issued_by earlier bytes d) → ⊥
    issued_new number new old =
        above_mark later (last_of earlier bytes) middle middle_read.next middle_read.read middle_read.rules number
        (subst (λ (e : Design). number ≤ e.parts.mark) (sym middle_design) (below_mark earlier bytes s next read rules number old))
        (subst (λ (e : Design). In number (issued_by later (last_of earlier bytes) e)) (sym middle_design) new)

    -- A number that left never stands in a later record.
    pub left_never_back : (number : ℕ) → In number (left_by earlier bytes d) → (last : Design) (end : ℕ) → whole_record (last_of (earlier ++ later) bytes) ≡ found last end
        → In number (numbers_of last.parts) → ⊥
    left_never_back number left last end at_end i =
        let now : List ℕ = last_of earlier bytes in
        let between : Design = design_of middle in
        let gone = (line_from earlier bytes s next read rules).parts.gone number left in
        let f = follows later now middle middle_read.next middle_read.read middle_read.rules in
        let changes : List Change = made_by later now in
        let at_last : whole_record (last_of later now) ≡ found last end = ap whole_record (sym (last_append earlier later bytes)) ∙ at_end in
        let by_changes : whole_record (last_of later now) ≡ found (last_design later now between) f.next =
        stored_design (last_of later now) (stored_after changes middle) f.next f.read ∙ ap (λ (e : Design). found e f.next) (after_design changes middle) in
        let same : last ≡ last_design later now between = cc (at_last, by_changes) in
        let j : In number (numbers_of (last_design later now between).parts) = subst (λ (e : Design). In number (numbers_of e.parts)) same i in
        ⊎_elim
        (λ old. gone.1 (subst (λ (e : Design). In number (numbers_of e.parts)) middle_design old))
        (above_mark later now middle middle_read.next middle_read.read middle_read.rules number
        (subst (λ (e : Design). number ≤ e.parts.mark) (sym middle_design) (below_mark earlier bytes s next read rules number gone.0)))
        ((line_from later now middle middle_read.next middle_read.read middle_read.rules).parts.origin number j)

-- ---- every line from a record that was entered

-- Along every line from a record of parts that already had numbers, no number up to the mark that was given with them is issued.
pub entered_never_issued : (mark : ℕ) (numbers list buffer : List ℕ) (k : ℕ) → (entered_record mark numbers list buffer).answer ≡ Ok k
    → (calls : List Call) (number : ℕ) → number ≤ mark
    → In number (issued_by calls (take k (entered_record mark numbers list buffer).buffer) (entered_design mark numbers list)) → ⊥
entered_never_issued mark numbers list buffer k e calls =
    above_mark calls (take k (entered_record mark numbers list buffer).buffer) (first (entered_design mark numbers list)) k (entered_stored mark numbers list buffer k e) (entered_keeps mark numbers list buffer k e)

-- ---- the sets that were given

given_at : (changes : List Change) (d : Design) → Allowed changes d → (set : List ℕ) → Memᴰ set (along given_in changes d) → GivenInUse changes d set
given_at [] d allowed set m = absurd (Memᴰ.not-nil m)
given_at (change ∷ changes) d allowed set m =
    ⊎_elim (here change allowed.0) (λ k. behind (given_at changes (changed change d) allowed.1 set k)) (Memᴰ.append_cases (given_in change d) m)
  where
    here : (c : Change) → change_refusal c d ≡ Ok tt → Memᴰ set (given_in c d) → GivenInUse (c ∷ changes) d set
    here add_part accepted k = absurd (Memᴰ.not-nil k)
    here (take_out position) accepted k = absurd (Memᴰ.not-nil k)
    here (take_out_group group) accepted k = absurd (Memᴰ.not-nil k)
    here (convert edition) accepted k = absurd (Memᴰ.not-nil k)
    here (add_set mask) accepted k =
        let same : set ≡ named (numbers_of d.parts) mask = Memᴰ.eq_of_singleton k in
        record {
          earlier = [];
          mask = mask;
          later = changes;
          at = refl;
          within = (set_accepted mask d accepted).0;
          same = same;
          in_use = λ number i. in_named (numbers_of d.parts) mask (rw same at i);
        }

    behind : GivenInUse changes (changed change d) set → GivenInUse (change ∷ changes) d set
    behind g =
        record {
          earlier = change ∷ g.earlier;
          mask = g.mask;
          later = g.later;
          at = ap (λ (cs : List Change). change ∷ cs) g.at;
          within = g.within;
          same = g.same;
          in_use = g.in_use;
        }

-- Along every line from an accepted record, a set that was given was one of parts then in use.
pub given_in_use : (bytes : List ℕ) (s : Stored) (next : ℕ) → Bytes bytes → whole_stored bytes ≡ found s next → (calls : List Call) (set : List ℕ)
    → Memᴰ set (given_by calls bytes (design_of s)) → GivenInUse (made_by calls bytes) (design_of s) set
given_in_use bytes s next small read calls set m =
    given_at (made_by calls bytes) (design_of s) (follows calls bytes s next read (stored_written bytes s next small read).0).allowed set m
