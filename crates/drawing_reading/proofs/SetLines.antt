-- The set lines of a text along a walk over them: the sets of the lines passed stand in front of the array, and what is still to be read decides
-- as all of them do.
-- Assumes nothing.
use mathlib.Core.Path.{◌≡◌, refl, sym, ap, ap₂, ◌∙◌, subst}
use mathlib.Core.Bool.{Bool, true, false, not}
use mathlib.Core.List.{List, [], ◌∷◌, ◌++◌, append_assoc, append-nil, map}
use Prim.Native.Nat.{ℕ, suc, ◌+◌, ◌≤◌, ◌<◌}
use native.Mathlib.Omega.{arith}
use borrow.Author.Tests.{ne_eqb, not-false}
use lib.Dec.{eqb}
use lib.ListN.{length, get_or, drop, set, replicate, length-append, length-drop, length-replicate}
use lib.Seq.{drop-drop, drop-append_seam, drop-cons}
use Rattle.std.specs.Prelude.{Ok, Err}
use Rattle.answer.specs.declared.Reason.{Reason}
use Rattle.answer.specs.declared.Reason.TheVariants.{LongList, UnknownPosition, WrongLine, RepeatedPosition}
use Rattle.answer.specs.Outcome.{at, refuse, Verdict}
use Rattle.answer.proofs.Outcomes.{InFront, in_front_none, in_front_one, refuse_passed}
use Rattle.record_lines.specs.Changes.{every}
use Rattle.drawing_text.specs.Lines.{lines_of, first_line}
use Rattle.drawing_text.specs.Forms.{set_word, spaced, line_of, numbers_in, is_set_line}
use Rattle.record_lines.specs.Names.{repeated}
use Rattle.drawing_text.specs.Sets.{set_of, within}
use Rattle.drawing_text.specs.Drawings.{set_on, set_lines_refusal}
use Rattle.drawing_text.proofs.Forms.{set_line_exactly}
use Rattle.drawing_text.proofs.Drawings.{line_over}
use Rattle.drawing_text.proofs.Lines.{FirstLine, first_line_lem}
use Rattle.codec.specs.declared.Standing.{Standing}
use Rattle.drawing_reading.specs.declared.Drawn.{Drawn}
use Rattle.drawing_reading.specs.Inside.{refuse_line, set_line_of, drawn_or, line_read, Line}

-- ---- one line

-- what a line is refused for, and what it gives where nothing refuses it
module _ (place start : ℕ) (result : ℕ) (end : ℕ) where
  abbrev chain : Bool → Bool → Bool → Line
  chain a b c = refuse_line a WrongLine (refuse_line b UnknownPosition (refuse_line c RepeatedPosition (line_read result end)))

  abbrev verdicts : Bool → Bool → Bool → Verdict → Verdict
  verdicts a b c later = refuse a WrongLine place (refuse b UnknownPosition place (refuse c RepeatedPosition place later))

  abbrev refused_at : Reason → Verdict
  refused_at reason = Err (at reason place)

  same_reason : (a b : Reason) → ◌≡◌ {A = Line} (Err a) (Err b) → refused_at b ≡ refused_at a
  same_reason a b e = let same : a ≡ b = cc e in ap refused_at (sym same)

  told_refused : (reason : Reason) (a b c : Bool) (later : Verdict) → Err reason ≡ chain a b c → verdicts a b c later ≡ Err (at reason place)
  told_refused reason true b c later e = same_reason _ _ e
  told_refused reason false true c later e = same_reason _ _ e
  told_refused reason false false true later e = same_reason _ _ e
  told_refused reason false false false later e = let z : ◌≡◌ {A = ℕ} 0 1 = cc in absurd (omega arith)

  told_set : (set next : ℕ) (a b c : Bool) → line_read set next ≡ chain a b c → (a ≡ false) × (b ≡ false) × (c ≡ false) × (set ≡ result) × (next ≡ end)
  told_set set next true b c e = let z : ◌≡◌ {A = ℕ} 0 1 = cc in absurd (omega arith)
  told_set set next false true c e = let z : ◌≡◌ {A = ℕ} 0 1 = cc in absurd (omega arith)
  told_set set next false false true e = let z : ◌≡◌ {A = ℕ} 0 1 = cc in absurd (omega arith)
  told_set set next false false false e =
      let both : record { value = set; next = next } ≡ record { value = result; next = end } = cc e in
      (refl, refl, refl, ap (λ (x : Standing ℕ). x.value) both, ap (λ (x : Standing ℕ). x.next) both)

module _ (n place : ℕ) (bytes : List ℕ) (lines : List (List ℕ)) (start : ℕ) where
  module _ (other : place ≡ 12872 → ⊥) where
    pub line_refused : (reason : Reason) → Err reason ≡ set_line_of n bytes start → set_lines_refusal n place (bytes ∷ lines) ≡ Err (at reason place)
    unfolding set_lines_refusal
    line_refused reason e =
        refuse_passed (eqb place 12872) LongList place _ (ne_eqb place 12872 other)
        ∙ told_refused place start (set_of (numbers_in bytes)) (start + length bytes) reason (not (is_set_line bytes)) (not (every (within n) (numbers_in bytes))) (repeated (numbers_in bytes))
        (set_lines_refusal n (suc place) lines) e

    module _ (set next : ℕ) (e : line_read set next ≡ set_line_of n bytes start) where
      told : (not (is_set_line bytes) ≡ false) × (not (every (within n) (numbers_in bytes)) ≡ false) × (repeated (numbers_in bytes) ≡ false) × (set ≡ set_of (numbers_in bytes)) × (next ≡ start + length bytes)
      told =
          told_set place start (set_of (numbers_in bytes)) (start + length bytes) set next (not (is_set_line bytes)) (not (every (within n) (numbers_in bytes))) (repeated (numbers_in bytes)) e

      -- a line that is taken gives its set, and what follows decides
      pub line_passed : set_lines_refusal n place (bytes ∷ lines) ≡ set_lines_refusal n (suc place) lines
      unfolding set_lines_refusal
      line_passed =
          refuse_passed (eqb place 12872) LongList place _ (ne_eqb place 12872 other)
          ∙ refuse_passed (not (is_set_line bytes)) WrongLine place _ told.0
          ∙ refuse_passed (not (every (within n) (numbers_in bytes))) UnknownPosition place _ told.1
          ∙ refuse_passed (repeated (numbers_in bytes)) RepeatedPosition place _ told.2

      pub line_set : set ≡ set_of (numbers_in bytes)
      line_set = told.3

      pub line_end : next ≡ start + length bytes
      line_end = told.4

      -- and is not empty
      pub line_some : start < next
      unfolding line_of
      line_some =
          let f = (set_line_exactly bytes).0 (not-false (is_set_line bytes) told.0) in
          omega (arith, line_end, ap length f.2, length-append set_word (spaced f.0 ++ (10 ∷ [])))

-- ---- all lines

abbrev pub room : List ℕ
room = replicate 12870 0

pub record LinesWalk (text : List ℕ) (start n : ℕ) (sets : List ℕ) (count next : ℕ) : Type 0 where
  pub done : List ℕ
  pub front : InFront room done sets count
  pub few : count ≤ 12870
  pub judged : set_lines_refusal n (count + 2) (lines_of (drop next text)) ≡ set_lines_refusal n 2 (lines_of (drop start text))
  pub all : done ++ map set_on (lines_of (drop next text)) ≡ map set_on (lines_of (drop start text))

pub lines_walk_none : (text : List ℕ) (start n : ℕ) → LinesWalk text start n room 0 start
lines_walk_none text start n = record { done = []; front = in_front_none room; few = omega arith; judged = refl; all = refl }

module _ {text : List ℕ} {start n : ℕ} {sets : List ℕ} {count next : ℕ} (w : LinesWalk text start n sets count next) where
  abbrev says : Verdict → List ℕ → Drawn
  says v s = drawn_or v n s

  abbrev whole : Drawn
  whole = says (set_lines_refusal n 2 (lines_of (drop start text))) (map set_on (lines_of (drop start text)))

  -- a refusal of what is left is one of the whole
  pub lines_walk_refused : (reason : Reason) → set_lines_refusal n (count + 2) (lines_of (drop next text)) ≡ Err (at reason (count + 2))
      → drawn_or (Err (at reason (count + 2))) 0 [] ≡ whole
  lines_walk_refused reason e =
      ap (λ (v : Verdict). drawn_or v n (map set_on (lines_of (drop start text)))) (sym e ∙ w.judged)

  -- nothing is left: all sets are in front
  pub lines_walk_end : length text ≤ next → record { parts = n; count = count; sets = sets; verdict = (Ok tt) } ≡ whole
  unfolding lines_of set_lines_refusal
  lines_walk_end h = closing (drop next text) refl (omega (arith, length-drop next text))
    where
      closing : (rest : List ℕ) → drop next text ≡ rest → length rest ≡ 0 → record { parts = n; count = count; sets = sets; verdict = (Ok tt) } ≡ whole
      closing (byte ∷ rest) e none = absurd (omega (arith, none))
      closing [] e none =
          let given : w.done ≡ map set_on (lines_of (drop start text)) =
          sym (append-nil w.done) ∙ ap (λ (l : List ℕ). w.done ++ map set_on (lines_of l)) (sym e) ∙ w.all in
          ap₂ (λ (k : ℕ) (s : List ℕ). record { parts = n; count = k; sets = s; verdict = (Ok tt) }) w.front.ends w.front.stands
          ∙ ap₂ says (ap (λ (l : List ℕ). set_lines_refusal n (count + 2) (lines_of l)) (sym e) ∙ w.judged) given

  module _ (h : next < length text) where
    -- the line that stands there
    here : FirstLine (drop next text)
    here = subst FirstLine (sym (drop-cons text next 0 h)) (first_line_lem (get_or text next 0) (drop (suc next) text))

    this : first_line (drop next text) ≡ here.line
    this = ap (λ (lines : List (List ℕ)). get_or lines 0 []) here.lines

    pub lines_walk_over : count ≡ 12870 → set_lines_refusal n (count + 2) (lines_of (drop next text)) ≡ Err (at LongList (count + 2))
    lines_walk_over e =
        ap (set_lines_refusal n (count + 2)) here.lines ∙ line_over n (count + 2) here.line (lines_of here.behind) (let full : count + 2 ≡ 12872 = omega arith in full)

    module _ (other : count ≡ 12870 → ⊥) where
      -- the array has room for one set more
      pub lines_walk_room : count < 12870
      lines_walk_room = omega (arith, w.few, other)

      fewer : count + 2 ≡ 12872 → ⊥
      fewer e = other (omega arith)

      pub lines_walk_broken : (reason : Reason) → Err reason ≡ set_line_of n (first_line (drop next text)) next
          → set_lines_refusal n (count + 2) (lines_of (drop next text)) ≡ Err (at reason (count + 2))
      lines_walk_broken reason e =
          ap (set_lines_refusal n (count + 2)) here.lines
          ∙ line_refused n (count + 2) here.line (lines_of here.behind) next fewer reason (e ∙ ap (λ (l : List ℕ). set_line_of n l next) this)

      module _ (value after : ℕ) (e : line_read value after ≡ set_line_of n (first_line (drop next text)) next) where
        read : line_read value after ≡ set_line_of n here.line next
        read = e ∙ ap (λ (l : List ℕ). set_line_of n l next) this

        pub lines_walk_on : next < after
        lines_walk_on = line_some n (count + 2) here.line (lines_of here.behind) next fewer value after read

        behind : drop after text ≡ here.behind
        behind =
            ap (λ (k : ℕ). drop k text) (line_end n (count + 2) here.line (lines_of here.behind) next fewer value after read)
            ∙ sym (drop-drop (length here.line) next text) ∙ ap (drop (length here.line)) here.same ∙ drop-append_seam here.line here.behind

        pub lines_walk_more : LinesWalk text start n (set sets count value) (count + 1) after
        lines_walk_more =
            let taken : value ≡ set_of (numbers_in here.line) = line_set n (count + 2) here.line (lines_of here.behind) next fewer value after read in
            let small : count + 1 ≤ 12870 = omega (arith, lines_walk_room) in
            record {
              done = w.done ++ (value ∷ []);
              front = in_front_one room w.done sets count value w.front (omega (arith, w.front.ends, small, length-replicate {A = ℕ} 12870 0));
              few = small;
              judged = ap₂ (λ (k : ℕ) (l : List ℕ). set_lines_refusal n k (lines_of l)) (let step : count + 1 + 2 ≡ suc (count + 2) = omega arith in step) behind
                  ∙ sym (line_passed n (count + 2) here.line (lines_of here.behind) next fewer value after read)
                  ∙ ap (set_lines_refusal n (count + 2)) (sym here.lines) ∙ w.judged;
              all = append_assoc w.done (value ∷ []) (map set_on (lines_of (drop after text)))
                  ∙ ap₂ (λ (v : ℕ) (l : List ℕ). w.done ++ (v ∷ map set_on (lines_of l))) taken behind
                  ∙ ap (λ (lines : List (List ℕ)). w.done ++ map set_on lines) (sym here.lines) ∙ w.all;
            }
