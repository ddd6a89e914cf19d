-- What was read of a text is what its lines say: the first line, and then the others.
-- Assumes nothing.
use mathlib.Core.Path.{◌≡◌, refl, sym, ap, ap₂, ◌∙◌, subst}
use mathlib.Core.Bool.{Bool, true, false, not}
use mathlib.Core.List.{List, [], ◌∷◌, map}
use Prim.Native.Nat.{ℕ, suc, ◌≤◌, ◌<◌}
use native.Mathlib.Omega.{arith}
use borrow.Author.Tests.{ne_eqb}
use lib.Dec.{eqb}
use lib.ListN.{length, get_or, drop, length-drop}
use lib.Seq.{drop-append_seam, drop-cons}
use Rattle.std.specs.Prelude.{Err, None}
use Rattle.answer.specs.declared.Reason.TheVariants.{WrongPartCount, EmptyList, WrongLine}
use Rattle.answer.specs.Outcome.{at, refuse, Verdict}
use Rattle.answer.specs.Checks.{part_count_refusal}
use Rattle.answer.proofs.Outcomes.{refuse_passed, refuse_held}
use Rattle.answer.proofs.Checks.{parts_none, parts_over, parts_passed}
use Rattle.drawing_text.specs.Lines.{lines_of, first_line}
use Rattle.drawing_text.specs.Forms.{line_of, is_parts_line}
use Rattle.drawing_text.specs.Drawings.{set_on, number_on, set_lines_refusal, lines_refusal, drawing_refusal, drawn_parts, drawn_sets}
use Rattle.drawing_text.proofs.Lines.{FirstLine, first_line_lem}
use Rattle.codec.specs.declared.Standing.{Standing}
use Rattle.drawing_reading.specs.declared.Drawn.{Drawn}
use Rattle.drawing_reading.specs.Inside.{held, pick_numeral, parts_at, drawn_or, numeral, Numeral}

-- no bytes are no line
empty : is_parts_line (first_line []) ≡ true → ⊥
unfolding is_parts_line lines_of line_of
empty h = let z : ◌≡◌ {A = ℕ} 0 1 = cc in omega arith

module _ (text : List ℕ) where
  abbrev whole : Drawn
  whole = drawn_or (drawing_refusal text) (drawn_parts text) (drawn_sets text)

  abbrev shown : Numeral
  shown = numeral (held (number_on (first_line text))) (length (first_line text))

  -- a refused text has no parts and no sets
  refused_text : (why : Verdict) → drawing_refusal text ≡ why → drawn_or why (drawn_parts text) (drawn_sets text) ≡ whole
  refused_text why e = ap (λ (v : Verdict). drawn_or v (drawn_parts text) (drawn_sets text)) (sym e)

  -- ---- a first line of another form

  pub text_malformed : None ≡ parts_at text → drawn_or (Err (at WrongLine 1)) 0 [] ≡ whole
  unfolding parts_at drawing_refusal lines_of
  text_malformed e = refused_text (Err (at WrongLine 1)) (cases text (other (is_parts_line (first_line text)) refl))
    where
      other : (t : Bool) → is_parts_line (first_line text) ≡ t → is_parts_line (first_line text) ≡ false
      other false h = h
      other true h =
          let given : None ≡ shown = e ∙ ap (λ (t : Bool). pick_numeral t shown) h in
          let z : ◌≡◌ {A = ℕ} 0 1 = cc in
          absurd (omega arith)

      cases : (bytes : List ℕ) → is_parts_line (first_line bytes) ≡ false → drawing_refusal bytes ≡ Err (at WrongLine 1)
      cases [] h = refl
      cases (byte ∷ bytes) h =
          let f = first_line_lem byte bytes in
          let first : first_line (byte ∷ bytes) ≡ f.line = ap (λ (lines : List (List ℕ)). get_or lines 0 []) f.lines in
          ap lines_refusal f.lines ∙ refuse_held (not (is_parts_line f.line)) WrongLine 1 _ (ap not (sym (ap is_parts_line first) ∙ h))

  -- ---- a first line of the form

  -- what a number that was read tells of the text
  record FirstRead (value next : ℕ) : Type 0 where
    number : ℕ
    same : number ≡ drawn_parts text
    holds : value ≡ held number
    lines : lines_of text ≡ first_line text ∷ lines_of (drop next text)
    judged : drawing_refusal text ≡ part_count_refusal 1 number (refuse (eqb (length (lines_of (drop next text))) 0) EmptyList 1 (set_lines_refusal number 2 (lines_of (drop next text))))

  module _ (value next : ℕ) (e : numeral value next ≡ parts_at text) where
    first_read_lem : FirstRead value next
    unfolding parts_at drawing_refusal
    first_read_lem = cases (is_parts_line (first_line text)) refl
      where
        opened : (bytes : List ℕ) → bytes ≡ text → is_parts_line (first_line text) ≡ true → FirstLine text
        opened [] same h = absurd (empty (subst (λ (l : List ℕ). is_parts_line (first_line l) ≡ true) (sym same) h))
        opened (byte ∷ bytes) same h = subst FirstLine same (first_line_lem byte bytes)

        cases : (t : Bool) → is_parts_line (first_line text) ≡ t → FirstRead value next
        cases false h =
            let given : numeral value next ≡ None = e ∙ ap (λ (t : Bool). pick_numeral t shown) h in
            let z : ◌≡◌ {A = ℕ} 0 1 = cc in
            absurd (omega arith)
        cases true h =
            let f = opened text refl h in
            let given : numeral value next ≡ shown = e ∙ ap (λ (t : Bool). pick_numeral t shown) h in
            let both : record { value = value; next = next } ≡ record { value = held (number_on (first_line text)); next = length (first_line text) } = cc given in
            let holds : value ≡ held (number_on (first_line text)) = ap (λ (x : Standing ℕ). x.value) both in
            let ends : next ≡ length (first_line text) = ap (λ (x : Standing ℕ). x.next) both in
            let first : first_line text ≡ f.line = ap (λ (lines : List (List ℕ)). get_or lines 0 []) f.lines in
            let behind : drop next text ≡ f.behind =
            ap₂ drop (ends ∙ ap length first) f.same ∙ drop-append_seam f.line f.behind in
            let lines : lines_of text ≡ first_line text ∷ lines_of (drop next text) =
            f.lines ∙ ap₂ (λ (l : List ℕ) (m : List ℕ). l ∷ lines_of m) (sym first) (sym behind) in
            record {
              number = number_on (first_line text);
              same = refl;
              holds = holds;
              lines = lines;
              judged = ap lines_refusal lines ∙ refuse_passed (not (is_parts_line (first_line text))) WrongLine 1 _ (ap not h);
            }

    -- 1: no parts
    pub text_no_parts : value ≡ 0 → drawn_or (Err (at WrongPartCount 1)) 0 [] ≡ whole
    text_no_parts none =
        let f = first_read_lem in
        let zeroed : f.number ≡ 0 = omega (arith, f.holds, none) in
        refused_text (Err (at WrongPartCount 1))
        (f.judged ∙ parts_none 1 f.number _ zeroed)

    -- 1: too many parts
    pub text_many_parts : 16 < value → drawn_or (Err (at WrongPartCount 1)) 0 [] ≡ whole
    text_many_parts many =
        let f = first_read_lem in
        let over : 16 < f.number = omega (arith, f.holds, many) in
        refused_text (Err (at WrongPartCount 1))
        (f.judged ∙ parts_over 1 f.number _ (omega (arith, over)) over)

    module _ (some : value ≡ 0 → ⊥) (few : value ≤ 16) where
      parts : value ≡ first_read_lem.number
      parts = omega (arith, first_read_lem.holds, few)

      passed : drawing_refusal text ≡ refuse (eqb (length (lines_of (drop next text))) 0) EmptyList 1 (set_lines_refusal first_read_lem.number 2 (lines_of (drop next text)))
      passed =
          first_read_lem.judged ∙ parts_passed 1 first_read_lem.number _ (omega (arith, parts, some)) (omega (arith, parts, few))

      -- 2: the text ends there
      pub text_no_sets : length text ≤ next → drawn_or (Err (at EmptyList 1)) 0 [] ≡ whole
      unfolding lines_of
      text_no_sets h = refused_text (Err (at EmptyList 1)) (passed ∙ refuse_held (eqb (length (lines_of (drop next text))) 0) EmptyList 1 _ (closed (drop next text) (omega (arith, length-drop next text, h))))
        where
          closed : (rest : List ℕ) → length rest ≡ 0 → eqb (length (lines_of rest)) 0 ≡ true
          closed [] none = refl
          closed (byte ∷ rest) none = absurd (omega (arith, none))

      -- the set lines decide
      pub text_sets : next < length text → drawn_or (set_lines_refusal value 2 (lines_of (drop next text))) value (map set_on (lines_of (drop next text))) ≡ whole
      text_sets h =
          let some_line : length (lines_of (drop next text)) ≡ 0 → ⊥ = λ none. omega (arith, none, ap length opened.lines) in
          let verdict : set_lines_refusal value 2 (lines_of (drop next text)) ≡ drawing_refusal text =
          ap (λ (n : ℕ). set_lines_refusal n 2 (lines_of (drop next text))) parts
          ∙ sym (passed ∙ refuse_passed (eqb (length (lines_of (drop next text))) 0) EmptyList 1 _ (ne_eqb (length (lines_of (drop next text))) 0 some_line)) in
          ap₂ (λ (v : Verdict) (n : ℕ). drawn_or v n (map set_on (lines_of (drop next text)))) verdict (parts ∙ first_read_lem.same)
          ∙ ap (λ (l : List (List ℕ)). drawn_or (drawing_refusal text) (drawn_parts text) (map set_on (drop 1 l))) (sym first_read_lem.lines)
        where
          opened : FirstLine (drop next text)
          opened = subst FirstLine (sym (drop-cons text next 0 h)) (first_line_lem (get_or text next 0) (drop (suc next) text))
