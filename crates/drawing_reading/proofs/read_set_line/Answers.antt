-- `drawing_reading::read_set_line` meets its contract. The loop's invariant: the keyword and the numbers passed stand in front (`Shown`), and
-- what was gathered is gathered of them. The measure is what is left of the text. Each way out is one in which such a walk ends.
-- Assumes nothing.
use mathlib.Core.Path.{◌≡◌, sym, ap, ◌∙◌, subst}
use mathlib.Core.List.{[], ◌∷◌, ◌++◌}
use Prim.Native.Nat.{◌+◌, ◌<◌}
use native.Mathlib.Omega.{arith}
use lib.ListN.{length, get_or, drop}
use Rattle.drawing_text.specs.Lines.{line_feed}
use Rattle.drawing_text.specs.Forms.{space, set_word}
use Rattle.drawing_reading.specs.Inside.{with_position}
use Rattle.drawing_reading.proofs.Positions.{Gathers, gathers_none, gathers_more, with_held}
use Rattle.drawing_reading.proofs.Shown.{byte_here, NumeralRead, numeral_read, shown_none, keyword_inside, shown_more}
use Rattle.drawing_reading.proofs.LineReads.{set_no_keyword, set_no_number, set_no_position, set_no_end, set_read}
use Rattle.drawing_reading.proofs.read_set_line.Goals as goal

pub returns-then-not-stands : goal.returns-then-not-stands
returns-then-not-stands c =
    let a = c.args in
    set_no_keyword a.text.now a.start a.n (sym c.stands.ensures ∙ c.if-not-stands.true)

pub overflow_add-first : goal.overflow_add-first
overflow_add-first c =
    let a = c.args in
    omega (arith, keyword_inside set_word a.text.now a.start (sym c.stands.ensures ∙ c.if-not-stands.false) (omega arith))

pub loop-next-init : goal.loop-next-init
loop-next-init c =
    let a = c.args in
    record {
      positions = [];
      shown = shown_none set_word a.text.now a.start (sym c.stands.ensures ∙ c.if-not-stands.false);
      gathers = gathers_none a.n;
    }

pub overflow_add-next : goal.overflow_add-next
overflow_add-next c =
    -- a space stands at the position
    let spaced-here : get_or c.args.text.now c.loop-next.next 0 ≡ space =
    sym c.byte_at.ensures ∙ c.loop-next-test.true in
    let spaced-inside : (c.loop-next.next < length c.args.text.now) × (drop c.loop-next.next c.args.text.now ≡ space ∷ drop (c.loop-next.next + 1) c.args.text.now) =
    byte_here c.args.text.now c.loop-next.next space (omega arith) spaced-here in
    omega (arith, spaced-inside.0)

pub returns-in_default : goal.returns-in_default
returns-in_default c =
    -- a space stands at the position
    let spaced-here : get_or c.args.text.now c.loop-next.next 0 ≡ space =
    sym c.byte_at.ensures ∙ c.loop-next-test.true in
    let a = c.args in
    set_no_number a.text.now a.start a.n c.loop-next.invariant.shown spaced-here (sym c.in_default.is ∙ c.read_numeral.ensures)

pub with-gathered-requires : goal.with-gathered-requires
with-gathered-requires c =
    record { n_bound = c.requires.n_bound; set_bound = c.loop-next.invariant.gathers.below }

pub loop-next-smaller : goal.loop-next-smaller
loop-next-smaller c =
    -- a space stands at the position
    let spaced-here : get_or c.args.text.now c.loop-next.next 0 ≡ space =
    sym c.byte_at.ensures ∙ c.loop-next-test.true in
    let spaced-inside : (c.loop-next.next < length c.args.text.now) × (drop c.loop-next.next c.args.text.now ≡ space ∷ drop (c.loop-next.next + 1) c.args.text.now) =
    byte_here c.args.text.now c.loop-next.next space (omega arith) spaced-here in
    -- the number behind it
    let read_number : NumeralRead c.args.text.now (c.loop-next.next + 1) c.in-Some.number.value c.in-Some.number.next =
    numeral_read c.args.text.now (c.loop-next.next + 1) _ _ (sym c.in-Some.is ∙ c.read_numeral.ensures) in
    omega (arith, spaced-inside.0, read_number.ends)

pub loop-next-preserved : goal.loop-next-preserved
loop-next-preserved c =
    -- a space stands at the position
    let spaced-here : get_or c.args.text.now c.loop-next.next 0 ≡ space =
    sym c.byte_at.ensures ∙ c.loop-next-test.true in
    -- the number behind it
    let read_number : NumeralRead c.args.text.now (c.loop-next.next + 1) c.in-Some.number.value c.in-Some.number.next =
    numeral_read c.args.text.now (c.loop-next.next + 1) _ _ (sym c.in-Some.is ∙ c.read_numeral.ensures) in
    let a = c.args in
    let few = c.requires.n_bound in
    let r = read_number in
    record {
      positions = c.loop-next.invariant.positions ++ (r.number ∷ []);
      shown = shown_more set_word a.text.now a.start c.loop-next.invariant.shown spaced-here _ _ r;
      gathers = subst (Gathers a.n (c.loop-next.invariant.positions ++ (r.number ∷ [])))
          (sym (c.with-gathered.ensures ∙ ap (with_position a.n c.loop-next.gathered) r.holds ∙ with_held a.n few c.loop-next.gathered r.number))
          (gathers_more c.loop-next.invariant.gathers r.number);
    }

pub returns-then-next-first : goal.returns-then-next-first
returns-then-next-first c =
    let no-space-here : get_or c.args.text.now c.loop-next.next 0 ≡ space → ⊥ =
    λ e. c.loop-next-test.false (c.byte_at.ensures ∙ e) in
    let a = c.args in
    set_no_position a.text.now a.start a.n c.loop-next.invariant.shown c.if-next-first.true no-space-here

pub returns-then-byte_at-ne10 : goal.returns-then-byte_at-ne10
returns-then-byte_at-ne10 c =
    let no-space-here : get_or c.args.text.now c.loop-next.next 0 ≡ space → ⊥ =
    λ e. c.loop-next-test.false (c.byte_at.ensures ∙ e) in
    let a = c.args in
    set_no_end a.text.now a.start a.n c.loop-next.invariant.shown no-space-here (λ same. c.if-byte_at-ne10.true (c.byte_at-2.ensures ∙ same))

pub overflow_add-next-2 : goal.overflow_add-next-2
overflow_add-next-2 c =
    let a = c.args in
    omega (arith, (byte_here a.text.now c.loop-next.next line_feed (omega arith) (sym c.byte_at-2.ensures ∙ c.if-byte_at-ne10.false)).0)

pub returns : goal.returns
returns c =
    let a = c.args in
    let few = c.requires.n_bound in
    c.line.ensures
    ∙ set_read a.text.now a.start a.n c.loop-next.invariant.shown few c.if-next-first.false (sym c.byte_at-2.ensures ∙ c.if-byte_at-ne10.false) c.loop-next.invariant.gathers
