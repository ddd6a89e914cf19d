-- What an accepted text says is a list of sets as a first record takes it; and the text of a design is accepted, and says what the design has.
-- Assumes nothing.
use mathlib.Core.Path.{◌≡◌, refl, sym, ap, ap₂, ◌∙◌, subst}
use mathlib.Core.Bool.{Bool, true, false, not}
use mathlib.Core.List.Memᴰ
use mathlib.Core.List.{List, [], ◌∷◌, ◌++◌, map, Memᴰ, append_assoc, append-nil}
use mathlib.Core.Logic.{◌⊎◌, inl, inr, ◌↔◌}
use Prim.Native.Nat.{ℕ, suc, ◌+◌, ◌^◌, ◌≤◌, ◌<◌}
use native.Mathlib.Nat.{add-zero}
use native.Mathlib.Omega.{arith}
use borrow.Author.Tests.{eqb-false, eq-eqb, ne_eqb, not-false}
use lib.Dec.{eqb}
use lib.ListN.{length, get_or, drop, length-append, length-map}
use lib.Pow.{pow_mono}
use Rattle.std.specs.Prelude.{Ok, Err}
use Rattle.answer.specs.declared.Reason.TheVariants.{EmptyList, LongList, UnknownPosition, WrongLine, RepeatedPosition}
use Rattle.answer.specs.Outcome.{at}
use Rattle.answer.proofs.Outcomes.{refuse_accepted, refuse_passed, refuse_held}
use Rattle.answer.proofs.Checks.{parts_passed, parts_right}
use Rattle.structure.specs.Checks.{list_refusal}
use Rattle.structure.proofs.Acceptance.{list_accepted}
use Rattle.record.specs.Records.{Design}
use Rattle.record.specs.RecordBytes.{DesignRules}
use Rattle.record_lines.specs.Changes.{every}
use Rattle.drawing_text.specs.Lines.{line_feed, begun, lines_of}
use Rattle.drawing_text.specs.Forms.{parts_word, set_word, line_of, numbers_in, is_parts_line, is_set_line, set_lines}
use Rattle.record_lines.specs.Names.{repeated}
use Rattle.drawing_text.specs.Sets.{set_of, positions_of, within}
use Rattle.drawing_text.specs.Whole.{RightPositions, WellDrawn}
use Rattle.drawing_text.specs.Drawings.{set_on, set_lines_refusal, number_on, lines_refusal, drawing_refusal, drawn_parts, drawn_sets}
use Rattle.drawing_text.specs.Writing.{drawing_of}
use Rattle.drawing_text.proofs.Forms.{parts_line_numbers, set_line_numbers, parts_line_exactly, set_line_exactly}
use Rattle.drawing_text.proofs.Lines.{first_line_lem, parts_line_cut, set_line_cut}
use Rattle.drawing_text.proofs.Sets.{set_below, set_some, set_positions, positions_within, positions_once, positions_some}

-- ---- what an accepted text says

-- a set line that is accepted: of the form, with positions of n, none twice
record LineAccepted (n place : ℕ) (line : List ℕ) (lines : List (List ℕ)) : Type 0 where
  other : place ≡ 12872 → ⊥
  form : is_set_line line ≡ true
  inside : every (within n) (numbers_in line) ≡ true
  once : repeated (numbers_in line) ≡ false
  rest : set_lines_refusal n (suc place) lines ≡ Ok tt

line_accepted : (n place : ℕ) (line : List ℕ) (lines : List (List ℕ)) → set_lines_refusal n place (line ∷ lines) ≡ Ok tt → LineAccepted n place line lines
unfolding set_lines_refusal
line_accepted n place line lines h =
    let first = refuse_accepted (eqb place 12872) LongList place _ h in
    let second = refuse_accepted (not (is_set_line line)) WrongLine place _ first.1 in
    let third = refuse_accepted (not (every (within n) (numbers_in line))) UnknownPosition place _ second.1 in
    let fourth = refuse_accepted (repeated (numbers_in line)) RepeatedPosition place _ third.1 in
    record {
      other = eqb-false place 12872 first.0;
      form = not-false (is_set_line line) second.0;
      inside = not-false (every (within n) (numbers_in line)) third.0;
      once = fourth.0;
      rest = fourth.1;
    }

-- there are at most 12,870 of them
lines_most : (n place : ℕ) (lines : List (List ℕ)) → place ≤ 12872 → set_lines_refusal n place lines ≡ Ok tt → place + length lines ≤ 12872
lines_most n place [] most h = omega arith
lines_most n place (line ∷ lines) most h =
    let f = line_accepted n place line lines h in
    let rest = lines_most n (suc place) lines (let next : suc place ≤ 12872 = omega (arith, most, f.other) in next) f.rest in
    omega arith

-- and each gives a set of n parts, not empty
line_set : (n place : ℕ) (line : List ℕ) (lines : List (List ℕ)) → n ≤ 16 → LineAccepted n place line lines → (set_on line < 2 ^ n) × (0 < set_on line)
line_set n place line lines few f =
    let form = (set_line_exactly line).0 f.form in
    let on : numbers_in line ≡ form.0 = ap numbers_in form.2 ∙ set_line_numbers form.0 in (
      set_below n few (numbers_in line) f.inside,
      set_some n few (numbers_in line) f.inside (subst (λ (l : List ℕ). 1 ≤ length l) (sym on) form.1),
    )

lines_sets : (n place : ℕ) (lines : List (List ℕ)) → n ≤ 16 → set_lines_refusal n place lines ≡ Ok tt → (b : ℕ) → Memᴰ b (map set_on lines) → (b < 2 ^ n) × (0 < b)
lines_sets n place [] few h b m = absurd (Memᴰ.not-nil m)
lines_sets n place (line ∷ lines) few h b m =
    cases (line_accepted n place line lines h) (lines_sets n (suc place) lines few) (Memᴰ.cases_cons m)
  where
    cases : LineAccepted n place line lines → (set_lines_refusal n (suc place) lines ≡ Ok tt → (b : ℕ) → Memᴰ b (map set_on lines) → (b < 2 ^ n) × (0 < b))
        → (b ≡ set_on line) ⊎ Memᴰ b (map set_on lines) → (b < 2 ^ n) × (0 < b)
    cases f rest (inl e) = subst (λ (x : ℕ). (x < 2 ^ n) × (0 < x)) (sym e) (line_set n place line lines few f)
    cases f rest (inr later) = rest f.rest b later

-- what an accepted text says is an accepted list
pub drawn_accepted : (text : List ℕ) → drawing_refusal text ≡ Ok tt → list_refusal (drawn_parts text) (drawn_sets text) ≡ Ok tt
unfolding drawing_refusal
drawn_accepted text h = cases (lines_of text) h
  where
    cases : (lines : List (List ℕ)) → lines_refusal lines ≡ Ok tt → list_refusal (number_on (get_or lines 0 [])) (map set_on (drop 1 lines)) ≡ Ok tt
    cases [] e = let z : ◌≡◌ {A = ℕ} 0 1 = cc in absurd (omega arith)
    cases (first ∷ lines) e =
        let form = refuse_accepted (not (is_parts_line first)) WrongLine 1 _ e in
        let parts = parts_right 1 (number_on first) _ form.1 in
        let some = refuse_accepted (eqb (length lines) 0) EmptyList 1 _ parts.2 in
        list_accepted (number_on first) (map set_on lines)
        (record {
          some = parts.0;
          few = parts.1;
          any_set = omega (arith, length-map lines set_on, eqb-false (length lines) 0 some.0);
          most = omega (arith, length-map lines set_on, lines_most (number_on first) 2 lines (omega arith) some.1);
          sets = lines_sets (number_on first) 2 lines parts.1 some.1;
        })

-- ---- a line with right positions

-- it is taken, and the lines behind it decide
right_line : (n place : ℕ) (positions : List ℕ) (lines : List (List ℕ)) → (place ≡ 12872 → ⊥) → RightPositions n positions
    → set_lines_refusal n place (line_of set_word positions ∷ lines) ≡ set_lines_refusal n (suc place) lines
unfolding set_lines_refusal
right_line n place positions lines other right =
    let line : List ℕ = line_of set_word positions in
    let on : numbers_in line ≡ positions = set_line_numbers positions in
    refuse_passed (eqb place 12872) LongList place _ (ne_eqb place 12872 other)
    ∙ refuse_passed (not (is_set_line line)) WrongLine place _ (ap not ((set_line_exactly line).1 (positions, right.0, refl)))
    ∙ refuse_passed (not (every (within n) (numbers_in line))) UnknownPosition place _ (ap (λ (l : List ℕ). not (every (within n) l)) on ∙ ap not right.1)
    ∙ refuse_passed (repeated (numbers_in line)) RepeatedPosition place _ (ap repeated on ∙ right.2)

-- ---- a text is accepted exactly if it is one line of parts and then set lines with right positions

-- lines with right positions are taken, and those behind them decide
lines_right : (n place : ℕ) (sets : List (List ℕ)) (lines : List (List ℕ)) → place + length sets ≤ 12872 → ((positions : List ℕ) → Memᴰ positions sets → RightPositions n positions)
    → set_lines_refusal n place (map (line_of set_word) sets ++ lines) ≡ set_lines_refusal n (place + length sets) lines
lines_right n place [] lines most right = ap (λ (k : ℕ). set_lines_refusal n k lines) (sym (add-zero place))
lines_right n place (positions ∷ sets) lines most right =
    right_line n place positions (map (line_of set_word) sets ++ lines) (λ e. omega (arith, most, e)) (right positions (Memᴰ.head refl))
    ∙ lines_right n (suc place) sets lines (omega arith) (λ p m. right p (Memᴰ.tail m))
    ∙ ap (λ (k : ℕ). set_lines_refusal n k lines) (let next : suc place + length sets ≡ place + suc (length sets) = omega arith in next)

set_lines_cut : (sets : List (List ℕ)) (rest : List ℕ) → lines_of (set_lines sets ++ rest) ≡ map (line_of set_word) sets ++ lines_of rest
unfolding set_lines
set_lines_cut [] rest = refl
set_lines_cut (positions ∷ sets) rest =
    ap lines_of (append_assoc (line_of set_word positions) (set_lines sets) rest) ∙ set_line_cut positions (set_lines sets ++ rest)
    ∙ ap (λ (lines : List (List ℕ)). line_of set_word positions ∷ lines) (set_lines_cut sets rest)

-- a first line of 1 to 16 parts, right set lines behind it, and then other bytes, which decide if they are not none
module _ (n : ℕ) (sets : List (List ℕ)) (some : 1 ≤ n) (few : n ≤ 16) (any_set : 1 ≤ length sets) (most : length sets ≤ 12870)
    (right : (positions : List ℕ) → Memᴰ positions sets → RightPositions n positions) (rest : List ℕ) where
  abbrev first : List ℕ
  first = line_of parts_word (n ∷ [])

  abbrev lines : List (List ℕ)
  lines = map (line_of set_word) sets ++ lines_of rest

  begins : lines_of (first ++ (set_lines sets ++ rest)) ≡ first ∷ lines
  begins = parts_line_cut (n ∷ []) (set_lines sets ++ rest) ∙ ap (λ (l : List (List ℕ)). first ∷ l) (set_lines_cut sets rest)

  right_so_far : drawing_refusal (first ++ (set_lines sets ++ rest)) ≡ set_lines_refusal n (2 + length sets) (lines_of rest)
  unfolding drawing_refusal
  right_so_far =
      let on : number_on first ≡ n = ap (λ (numbers : List ℕ). get_or numbers 0 0) (parts_line_numbers n) in
      let counted : length lines ≡ length sets + length (lines_of rest) =
      length-append (map (line_of set_word) sets) (lines_of rest) ∙ ap (λ (k : ℕ). k + length (lines_of rest)) (length-map sets (line_of set_word)) in
      ap lines_refusal begins
      ∙ refuse_passed (not (is_parts_line first)) WrongLine 1 _ (ap not ((parts_line_exactly first).1 (n, refl)))
      ∙ parts_passed 1 (number_on first) _ (omega (arith, on, some)) (omega (arith, on, few))
      ∙ refuse_passed (eqb (length lines) 0) EmptyList 1 _ (ne_eqb (length lines) 0 (λ e. omega (arith, e, counted, any_set)))
      ∙ ap (λ (k : ℕ). set_lines_refusal k 2 lines) on ∙ lines_right n 2 sets (lines_of rest) (omega (arith, most)) right

-- 3 at line 12,872 where any byte stands behind 12,871 right lines, whatever it is
pub line_over : (n place : ℕ) (line : List ℕ) (lines : List (List ℕ)) → place ≡ 12872 → set_lines_refusal n place (line ∷ lines) ≡ Err (at LongList place)
unfolding set_lines_refusal
line_over n place line lines e = refuse_held (eqb place 12872) LongList place _ (eq-eqb place 12872 e)

pub too_many_lines : (n : ℕ) (sets : List (List ℕ)) → 1 ≤ n → n ≤ 16 → length sets ≡ 12870 → ((positions : List ℕ) → Memᴰ positions sets → RightPositions n positions)
    → (byte : ℕ) (rest : List ℕ) → drawing_refusal (line_of parts_word (n ∷ []) ++ (set_lines sets ++ byte ∷ rest)) ≡ Err (at LongList 12872)
too_many_lines n sets some few all right byte rest =
    let f = first_line_lem byte rest in
    let last : 2 + length sets ≡ 12872 = omega (arith, all) in
    right_so_far n sets some few (omega (arith, all)) (omega (arith, all)) right (byte ∷ rest)
    ∙ ap₂ (λ (k : ℕ) (lines : List (List ℕ)). set_lines_refusal n k lines) last f.lines ∙ line_over n 12872 f.line (lines_of f.behind) refl

drawn_whole : (text : List ℕ) → WellDrawn text → drawing_refusal text ≡ Ok tt
unfolding set_lines_refusal lines_of
drawn_whole text w =
    ap drawing_refusal (w.whole ∙ ap (λ (l : List ℕ). line_of parts_word (w.parts ∷ []) ++ l) (sym (append-nil (set_lines w.sets))))
    ∙ right_so_far w.parts w.sets w.some w.few w.any_set w.most w.right []

-- the lines of a text, one after the other, are the text
joined : List (List ℕ) → List ℕ
joined [] = []
joined (line ∷ lines) = line ++ joined lines

lines_joined : (text : List ℕ) → joined (lines_of text) ≡ text
unfolding lines_of joined
lines_joined [] = refl
lines_joined (byte ∷ bytes) = cases (eqb byte line_feed) refl (lines_joined bytes)
  where
    first : (lines : List (List ℕ)) → joined (begun byte lines) ≡ byte ∷ joined lines
    first [] = refl
    first (line ∷ lines) = refl

    cases : (t : Bool) → eqb byte line_feed ≡ t → joined (lines_of bytes) ≡ bytes → joined (lines_of (byte ∷ bytes)) ≡ byte ∷ bytes
    cases true is rest = rw (is, lines_of) (ap (λ (l : List ℕ). byte ∷ l) rest)
    cases false is rest = rw (is, lines_of) (first (lines_of bytes) ∙ ap (λ (l : List ℕ). byte ∷ l) rest)

-- lines that are accepted are those of their positions
lines_shown : (n place : ℕ) (lines : List (List ℕ)) → set_lines_refusal n place lines ≡ Ok tt → joined lines ≡ set_lines (map numbers_in lines)
unfolding set_lines joined
lines_shown n place [] h = refl
lines_shown n place (line ∷ lines) h =
    let f = line_accepted n place line lines h in
    let form = (set_line_exactly line).0 f.form in
    let on : numbers_in line ≡ form.0 = ap numbers_in form.2 ∙ set_line_numbers form.0 in
    ap₂ (λ (a b : List ℕ). a ++ b) (form.2 ∙ ap (line_of set_word) (sym on)) (lines_shown n (suc place) lines f.rest)

lines_are_right : (n place : ℕ) (lines : List (List ℕ)) → set_lines_refusal n place lines ≡ Ok tt → (positions : List ℕ) → Memᴰ positions (map numbers_in lines) → RightPositions n positions
lines_are_right n place [] h positions m = absurd (Memᴰ.not-nil m)
lines_are_right n place (line ∷ lines) h positions m =
    cases (line_accepted n place line lines h) (lines_are_right n (suc place) lines) (Memᴰ.cases_cons m)
  where
    cases : LineAccepted n place line lines → (set_lines_refusal n (suc place) lines ≡ Ok tt → (positions : List ℕ) → Memᴰ positions (map numbers_in lines) → RightPositions n positions)
        → (positions ≡ numbers_in line) ⊎ Memᴰ positions (map numbers_in lines) → RightPositions n positions
    cases f rest (inl e) =
        let form = (set_line_exactly line).0 f.form in
        let on : numbers_in line ≡ form.0 = ap numbers_in form.2 ∙ set_line_numbers form.0 in
        subst (RightPositions n) (sym e) (subst (λ (l : List ℕ). 1 ≤ length l) (sym on) form.1, f.inside, f.once)
    cases f rest (inr later) = rest f.rest positions later

whole_drawn : (text : List ℕ) → drawing_refusal text ≡ Ok tt → WellDrawn text
unfolding drawing_refusal joined
whole_drawn text h = cases (lines_of text) h (lines_joined text)
  where
    cases : (lines : List (List ℕ)) → lines_refusal lines ≡ Ok tt → joined lines ≡ text → WellDrawn text
    cases [] e same = let z : ◌≡◌ {A = ℕ} 0 1 = cc in absurd (omega arith)
    cases (first ∷ lines) e same =
        let form = refuse_accepted (not (is_parts_line first)) WrongLine 1 _ e in
        let parts = parts_right 1 (number_on first) _ form.1 in
        let some = refuse_accepted (eqb (length lines) 0) EmptyList 1 _ parts.2 in
        let line = (parts_line_exactly first).0 (not-false (is_parts_line first) form.0) in
        let on : number_on first ≡ line.0 = ap number_on line.1 ∙ ap (λ (numbers : List ℕ). get_or numbers 0 0) (parts_line_numbers line.0) in
        record {
          parts = number_on first;
          sets = map numbers_in lines;
          some = parts.0;
          few = parts.1;
          any_set = omega (arith, length-map lines numbers_in, eqb-false (length lines) 0 some.0);
          most = omega (arith, length-map lines numbers_in, lines_most (number_on first) 2 lines (omega arith) some.1);
          right = lines_are_right (number_on first) 2 lines some.1;
          whole = sym same ∙ ap₂ (λ (a b : List ℕ). a ++ b) (line.1 ∙ ap (λ (n : ℕ). line_of parts_word (n ∷ [])) (sym on)) (lines_shown (number_on first) 2 lines some.1);
        }

pub accepted_exactly : (text : List ℕ) → (drawing_refusal text ≡ Ok tt) ↔ WellDrawn text
accepted_exactly text = (whole_drawn text, drawn_whole text)

-- ---- the text of a design

module _ (d : Design) (rules : DesignRules d) where
  inside : (set : ℕ) → Memᴰ set d.sets → (set < 2 ^ d.parts.count) × (0 < set)
  inside = rules.sets.within

  few : d.parts.count ≤ 16
  few = rules.parts.rules.few

  right : (positions : List ℕ) → Memᴰ positions (map positions_of d.sets) → RightPositions d.parts.count positions
  right positions m =
      let f = Memᴰ.of_map positions_of d.sets m in
      let set = f.0 in
      subst (RightPositions d.parts.count) f.2
      (positions_some d.parts.count set few (inside set f.1).0 (inside set f.1).1, positions_within d.parts.count set (inside set f.1).0, positions_once set)

  -- the text of a design is accepted,
  pub written_accepted : drawing_refusal (drawing_of d) ≡ Ok tt
  unfolding drawing_of
  written_accepted =
      drawn_whole (drawing_of d)
      (record {
        parts = d.parts.count;
        sets = map positions_of d.sets;
        some = rules.parts.rules.some;
        few = few;
        any_set = omega (arith, length-map d.sets positions_of, rules.sets.some);
        most = omega (arith, length-map d.sets positions_of, rules.sets.most);
        right = right;
        whole = refl;
      })

  text_lines : lines_of (drawing_of d) ≡ line_of parts_word (d.parts.count ∷ []) ∷ map (line_of set_word) (map positions_of d.sets)
  unfolding drawing_of lines_of
  text_lines =
      parts_line_cut (d.parts.count ∷ []) (set_lines (map positions_of d.sets))
      ∙ ap (λ (l : List (List ℕ)). line_of parts_word (d.parts.count ∷ []) ∷ l)
      (ap lines_of (sym (append-nil (set_lines (map positions_of d.sets)))) ∙ set_lines_cut (map positions_of d.sets) [] ∙ append-nil (map (line_of set_word) (map positions_of d.sets)))

  -- and says the design's number of parts and its sets
  pub written_parts : drawn_parts (drawing_of d) ≡ d.parts.count
  written_parts = ap (λ (l : List (List ℕ)). number_on (get_or l 0 [])) text_lines ∙ ap (λ (numbers : List ℕ). get_or numbers 0 0) (parts_line_numbers d.parts.count)

  said : (sets : List ℕ) → ((set : ℕ) → Memᴰ set sets → set < 65536) → map set_on (map (line_of set_word) (map positions_of sets)) ≡ sets
  said [] small = refl
  said (set ∷ sets) small =
      ap₂ (λ (a : ℕ) (l : List ℕ). a ∷ l)
      (ap set_of (set_line_numbers (positions_of set)) ∙ set_positions set (small set (Memᴰ.head refl))) (said sets (λ a m. small a (Memᴰ.tail m)))

  pub written_sets : drawn_sets (drawing_of d) ≡ d.sets
  written_sets =
      ap (λ (l : List (List ℕ)). map set_on (drop 1 l)) text_lines
      ∙ said d.sets (λ set m. let most : 2 ^ d.parts.count ≤ 2 ^ 16 = pow_mono few in omega (arith, (inside set m).0, most))
