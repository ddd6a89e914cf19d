-- The positions of a line as they are gathered: whether all are positions of the machine, whether one stands twice, and which set they are.
-- Assumes nothing.
use mathlib.Core.Path.{◌≡◌, refl, sym, ap, ap₂, ◌∙◌, subst}
use mathlib.Core.Bool.{Bool, true, false, not, ◌&&◌, ◌||◌, and-true, and-false, and_assoc, or_assoc, or_comm}
use mathlib.Core.List.{List, [], ◌∷◌, ◌++◌}
use mathlib.Core.Logic.{◌⊎◌, inl, inr}
use Prim.Native.Nat.{ℕ, suc, ◌+◌, ◌-◌, ◌%◌, ◌^◌, ◌≤◌, ◌<◌}
use native.Mathlib.Nat.{zero-div}
use native.Mathlib.Omega.{arith}
use lib.Dec.{eqb}
use lib.Pow.{pow_mono, pow_pos}
use borrow.Author.Tests.{le-leb, lt-leb, eqb-true, eq-eqb, ne_eqb}
use Rattle.std.specs.Prelude.{Err}
use Rattle.numbers.proofs.Bools.{or_false, or_true, clash}
use Rattle.numbers.proofs.Bounds.{below_or_above}
use Rattle.answer.specs.declared.Reason.TheVariants.{UnknownPosition, RepeatedPosition}
use Rattle.theory_sets.specs.Masks.{has}
use Rattle.theory_sets.proofs.Masks.{has_add, add_below}
use Rattle.theory_sets.proofs.Tables.{packed_unique}
use Rattle.theory_sums.specs.Sums.{some}
use Rattle.theory_orders.proofs.Orders.{eqb_comm}
use Rattle.record_lines.specs.Changes.{every}
use Rattle.record_lines.specs.Names.{repeated}
use Rattle.record_numbers.specs.Numbering.{names}
use Rattle.drawing_text.specs.Sets.{set_of, within}
use Rattle.drawing_text.proofs.Sets.{within_bounds}
use Rattle.drawing_reading.specs.declared.Gathered.{Gathered}
use Rattle.drawing_reading.specs.Inside.{held, pick_gathered, with_position, refuse_line, gathered_line, line_read}

-- ---- one position

pub outside_low : (n position : ℕ) → position ≡ 0 → within n position ≡ false
outside_low n position e = ap (λ (p : ℕ). within n p) e

pub outside_high : (n position : ℕ) → n < position → within n position ≡ false
outside_high n position h =
    ap₂ (λ (s t : Bool). s && t) (le-leb 1 position (let low : 1 ≤ position = omega arith in low)) (lt-leb position n h)

module _ (n : ℕ) (g : Gathered) (position : ℕ) where
  abbrev again : Gathered
  again = record { set = g.set; unknown = g.unknown; repeated = true }

  abbrev new : Gathered
  new = record { set = g.set + 2 ^ (position - 1); unknown = g.unknown; repeated = g.repeated }

  abbrev outside : Gathered
  outside = record { set = g.set; unknown = true; repeated = g.repeated }

  pub with_outside : within n position ≡ false → outside ≡ with_position n g position
  with_outside h = ap (λ (t : Bool). pick_gathered t (pick_gathered (has g.set (position - 1)) again new) outside) (sym h)

  pub with_again : within n position ≡ true → has g.set (position - 1) ≡ true → again ≡ with_position n g position
  with_again h k = ap₂ (λ (s t : Bool). pick_gathered s (pick_gathered t again new) outside) (sym h) (sym k)

  pub with_new : within n position ≡ true → has g.set (position - 1) ≡ false → new ≡ with_position n g position
  with_new h k = ap₂ (λ (s t : Bool). pick_gathered s (pick_gathered t again new) outside) (sym h) (sym k)

-- a number as it is held is a position exactly if it is one
pub with_held : (n : ℕ) → n ≤ 16 → (g : Gathered) (number : ℕ) → with_position n g (held number) ≡ with_position n g number
with_held n few g number = cases (below_or_above number 100)
  where
    cases : (number < 100) ⊎ (100 ≤ number) → with_position n g (held number) ≡ with_position n g number
    cases (inl small) = ap (with_position n g) (let same : held number ≡ number = omega arith in same)
    cases (inr large) =
        sym (with_outside n g (held number) (outside_high n (held number) (let over : n < held number = omega arith in over)))
        ∙ with_outside n g number (outside_high n number (let over : n < number = omega arith in over))

-- ---- one position more in a list of them

every_more : (n : ℕ) (positions : List ℕ) (position : ℕ) → every (within n) (positions ++ (position ∷ [])) ≡ every (within n) positions && within n position
every_more n [] position = and-true (within n position)
every_more n (p ∷ positions) position =
    ap (λ (t : Bool). within n p && t) (every_more n positions position) ∙ sym (and_assoc (within n p) (every (within n) positions) (within n position))

names_more : (number : ℕ) (positions : List ℕ) (position : ℕ) → names number (positions ++ (position ∷ [])) ≡ names number positions || eqb number position
unfolding some
names_more number [] position = or_false (eqb number position)
names_more number (p ∷ positions) position =
    ap (λ (t : Bool). eqb number p || t) (names_more number positions position) ∙ sym (or_assoc (eqb number p) (names number positions) (eqb number position))

repeated_more : (positions : List ℕ) (position : ℕ) → repeated (positions ++ (position ∷ [])) ≡ repeated positions || names position positions
unfolding some
repeated_more [] position = refl
repeated_more (p ∷ positions) position =
    ap₂ (λ (s t : Bool). s || t) (names_more p positions position) (repeated_more positions position)
    ∙ regroup (names p positions) (eqb p position) (repeated positions) (names position positions)
    ∙ ap (λ (t : Bool). (names p positions || repeated positions) || (t || names position positions)) (eqb_comm p position)
  where
    regroup : (a b c d : Bool) → (a || b) || (c || d) ≡ (a || c) || (b || d)
    regroup true b c d = refl
    regroup false true true d = refl
    regroup false true false d = refl
    regroup false false c d = refl

-- ---- what is gathered of the positions so far

pub record Gathers (n : ℕ) (positions : List ℕ) (g : Gathered) : Type 0 where
  pub unknown : g.unknown ≡ not (every (within n) positions)
  pub repeats : g.unknown ≡ false → g.repeated ≡ repeated positions
  pub parts : g.unknown ≡ false → (i : ℕ) → has g.set i ≡ names (suc i) positions
  pub below : g.set < 2 ^ n

pub gathers_none : (n : ℕ) → Gathers n [] (record { set = 0; unknown = false; repeated = false })
unfolding has some
gathers_none n = record { unknown = refl; repeats = λ h. refl; parts = none; below = pow_pos n }
  where
    none : false ≡ false → (i : ℕ) → has 0 i ≡ names (suc i) []
    none h i = ap (λ (q : ℕ). eqb (q % 2) 1) (zero-div (2 ^ i))

-- a position of a bit, and the bit of a position
eqb_position : (i position : ℕ) → 1 ≤ position → eqb (suc i) position ≡ eqb i (position - 1)
eqb_position i position some = cases (eqb i (position - 1)) refl
  where
    cases : (t : Bool) → eqb i (position - 1) ≡ t → eqb (suc i) position ≡ t
    cases true h = eq-eqb (suc i) position (omega (arith, eqb-true i (position - 1) h))
    cases false h = ne_eqb (suc i) position (λ e. clash {p = eqb i (position - 1)} (eq-eqb i (position - 1) (omega (arith, e))) h)

module _ {n : ℕ} {positions : List ℕ} {g : Gathered} (w : Gathers n positions g) (position : ℕ) where
  abbrev Next : Gathered → Type 0
  Next h = Gathers n (positions ++ (position ∷ [])) h

  lost : within n position ≡ false → Next (outside n g position)
  lost h =
      record {
        unknown = ap not (sym (every_more n positions position ∙ ap (λ (t : Bool). every (within n) positions && t) h ∙ and-false (every (within n) positions)));
        repeats = λ e. clash {p = true} refl e;
        parts = λ e. clash {p = true} refl e;
        below = w.below;
      }

  module _ (h : within n position ≡ true) where
    some_position : 1 ≤ position
    some_position = (within_bounds n position h).0

    known : g.unknown ≡ not (every (within n) (positions ++ (position ∷ [])))
    known =
        w.unknown
        ∙ ap not (sym (every_more n positions position ∙ ap (λ (t : Bool). every (within n) positions && t) h ∙ and-true (every (within n) positions)))

    -- whether the position stands among those before it
    stood : g.unknown ≡ false → has g.set (position - 1) ≡ names position positions
    stood e = w.parts e (position - 1) ∙ ap (λ (p : ℕ). names p positions) (let same : suc (position - 1) ≡ position = omega (arith, some_position) in same)

    more_parts : g.unknown ≡ false → (i : ℕ) → names (suc i) (positions ++ (position ∷ [])) ≡ has g.set i || eqb i (position - 1)
    more_parts e i =
        names_more (suc i) positions position ∙ ap₂ (λ (s t : Bool). s || t) (sym (w.parts e i)) (eqb_position i position some_position)

    seen : has g.set (position - 1) ≡ true → Next (again n g position)
    seen k =
        record {
          unknown = known;
          repeats = λ e. sym (repeated_more positions position ∙ ap (λ (t : Bool). repeated positions || t) (sym (stood e) ∙ k) ∙ or_true (repeated positions));
          parts = λ e i. sym (more_parts e i ∙ same i (eqb i (position - 1)) refl);
          below = w.below;
        }
      where
        same : (i : ℕ) (t : Bool) → eqb i (position - 1) ≡ t → has g.set i || eqb i (position - 1) ≡ has g.set i
        same i true is =
            let had : has g.set i ≡ true = ap (has g.set) (eqb-true i (position - 1) is) ∙ k in
            ap (λ (t : Bool). t || eqb i (position - 1)) had ∙ sym had
        same i false is = ap (λ (t : Bool). has g.set i || t) is ∙ or_false (has g.set i)

    fresh : has g.set (position - 1) ≡ false → Next (new n g position)
    fresh k =
        record {
          unknown = known;
          repeats = λ e.
              w.repeats e ∙ sym (repeated_more positions position ∙ ap (λ (t : Bool). repeated positions || t) (sym (stood e) ∙ k) ∙ or_false (repeated positions));
          parts = λ e i. has_add g.set (position - 1) k i ∙ or_comm (eqb i (position - 1)) (has g.set i) ∙ sym (more_parts e i);
          below = add_below n g.set (position - 1) w.below (let inside : position - 1 < n = omega (arith, within_bounds n position h) in inside) k;
        }

  pub gathers_more : Gathers n (positions ++ (position ∷ [])) (with_position n g position)
  gathers_more = inside (within n position) refl
    where
      had : within n position ≡ true → (t : Bool) → has g.set (position - 1) ≡ t → Gathers n (positions ++ (position ∷ [])) (with_position n g position)
      had h true k = subst Next (with_again n g position h k) (seen h k)
      had h false k = subst Next (with_new n g position h k) (fresh h k)

      inside : (t : Bool) → within n position ≡ t → Gathers n (positions ++ (position ∷ [])) (with_position n g position)
      inside true h = had h (has g.set (position - 1)) refl
      inside false h = subst Next (with_outside n g position h) (lost h)

-- ---- what was gathered of all of them

module _ {n : ℕ} {positions : List ℕ} {g : Gathered} (few : n ≤ 16) (w : Gathers n positions g) where
  -- the set of the positions
  pub gathers_set : g.unknown ≡ false → g.set ≡ set_of positions
  unfolding set_of
  gathers_set e =
      packed_unique 16 (λ i. names (suc i) positions) g.set (let small : 2 ^ n ≤ 2 ^ 16 = pow_mono few in omega (arith, w.below, small)) (λ i h. w.parts e i)

  -- the line is refused, or has its set, as the positions say
  pub gathers_line : (next : ℕ) → gathered_line g next
      ≡ refuse_line (not (every (within n) positions)) UnknownPosition (refuse_line (repeated positions) RepeatedPosition (line_read (set_of positions) next))
  gathers_line next =
      ap (λ (t : Bool). refuse_line t UnknownPosition (refuse_line g.repeated RepeatedPosition (line_read g.set next))) w.unknown
      ∙ rest (not (every (within n) positions)) (λ e. (w.repeats (w.unknown ∙ e), gathers_set (w.unknown ∙ e)))
    where
      rest : (t : Bool) → (t ≡ false → (g.repeated ≡ repeated positions) × (g.set ≡ set_of positions))
          → refuse_line t UnknownPosition (refuse_line g.repeated RepeatedPosition (line_read g.set next))
          ≡ refuse_line t UnknownPosition (refuse_line (repeated positions) RepeatedPosition (line_read (set_of positions) next))
      rest true h = refl
      rest false h = ap₂ (λ (t : Bool) (set : ℕ). refuse_line t RepeatedPosition (line_read set next)) (h refl).0 (h refl).1
