-- `record_naming::numbers_of` meets its contract: the cells without all other positions of the list have the numbers of the mask in front.
-- Assumes nothing.
use mathlib.Core.Path.{◌≡◌, refl, sym, ap, ap₂, ◌∙◌}
use mathlib.Core.List.{List}
use Prim.Native.Nat.{ℕ, ◌-◌, ◌^◌, ◌≤◌, ◌<◌}
use native.Mathlib.Nat.{pos_of_ne-zero}
use native.Mathlib.Omega.{arith}
use borrow.Author.Tests.{le-leb, lt-leb}
use lib.ListN.{length, take, replicate, length-append}
use lib.Seq.{take_all, take-append_seam}
use Rattle.std.specs.Prelude.{Ok, Err}
use Rattle.numbers.proofs.Counts.{up_to_16_given}
use Rattle.answer.specs.declared.Reason.TheVariants.{UnknownGroupPart}
use Rattle.answer.specs.Outcome.{at, outcome, delivered, Numbered, Verdict}
use Rattle.answer.specs.declared.Refusal.{Refusal}
use Rattle.answer.proofs.Checks.{parts_none, parts_over, parts_passed}
use Rattle.answer.proofs.Deliveries.{refused_kept}
use Rattle.theory_sets.specs.Masks.{size}
use Rattle.record_numbers.specs.Numbering.{most_parts, named, others, cells_of}
use Rattle.record_naming.specs.Naming.{named_refusal}
use Rattle.record_naming.proofs.Masks.{named_counted, others_of_rest}
use Rattle.record_naming.proofs.numbers_of.Goals as goal

module _ (numbers : List ℕ) (mask : ℕ) (few : length numbers ≤ most_parts) (inside : mask < 2 ^ length numbers) where
  -- the cells without all other positions have the numbers of the mask
  filled : cells_of (others (take most_parts numbers) (2 ^ length numbers - 1 - mask)) ≡ cells_of (named numbers mask)
  filled = ap cells_of (ap (λ (l : List ℕ). others l (2 ^ length numbers - 1 - mask)) (take_all most_parts numbers few) ∙ others_of_rest numbers mask inside)

  -- as many as it has positions
  in_front_lem : take (size mask) (cells_of (named numbers mask)) ≡ named numbers mask
  in_front_lem = ap (λ (k : ℕ). take k (cells_of (named numbers mask))) (sym (named_counted numbers mask inside)) ∙ take-append_seam (named numbers mask) _

  room : size mask ≤ length (cells_of (named numbers mask))
  room = omega (arith, named_counted numbers mask inside, length-append (named numbers mask) (replicate (most_parts - length (named numbers mask)) 0))

-- a mask that has no bit beyond the last position is not refused
mask_right : (numbers : List ℕ) (mask : ℕ) → 1 ≤ length numbers → length numbers ≤ 16 → mask < 2 ^ length numbers → named_refusal numbers mask ≡ Ok tt
mask_right numbers mask some few inside = parts_passed 0 (length numbers) _ some few ∙ rw (lt-leb (2 ^ length numbers) mask inside) refl

mask_over : (numbers : List ℕ) (mask : ℕ) → 1 ≤ length numbers → length numbers ≤ 16 → 2 ^ length numbers ≤ mask → named_refusal numbers mask ≡ Err (at UnknownGroupPart 0)
mask_over numbers mask some few over = parts_passed 0 (length numbers) _ some few ∙ rw (le-leb (2 ^ length numbers) mask over) refl

-- where the numbers are refused the buffer stays
kept : (numbers : List ℕ) (mask : ℕ) (buffer : List ℕ) (r : Numbered) (why : Refusal) → r ≡ Err why → named_refusal numbers mask ≡ Err why
    → outcome r buffer ≡ delivered (named_refusal numbers mask) (named numbers mask) buffer
kept numbers mask buffer r why e refused =
    ap (λ (x : Numbered). outcome x buffer) e ∙ refused_kept (named_refusal numbers mask) (named numbers mask) buffer why refused

pub returns-then-count-eq0 : goal.returns-then-count-eq0
returns-then-count-eq0 c =
    let a = c.args in
    kept a.numbers.now a.mask a.buffer.now _ _ (ap Err c.at.ensures) (parts_none 0 (length a.numbers.now) _ c.if-count-eq0.true)

pub returns-then-count-gt-MOST_PARTS : goal.returns-then-count-gt-MOST_PARTS
returns-then-count-gt-MOST_PARTS c =
    let a = c.args in
    kept a.numbers.now a.mask a.buffer.now _ _ (ap Err c.at-then-count-gt-MOST_PARTS.ensures)
    (parts_over 0 (length a.numbers.now) _ (pos_of_ne-zero c.if-count-eq0.false) c.if-count-gt-MOST_PARTS.true)

pub returns-then-all-mask : goal.returns-then-all-mask
returns-then-all-mask c =
    -- 2^n
    let all : c.power_of_two-all.result ≡ 2 ^ length c.args.numbers.now =
    let n : ℕ = length c.args.numbers.now in
    c.power_of_two-all.ensures ∙ up_to_16_given n (2 ^ n) c.if-count-gt-MOST_PARTS.false in
    let a = c.args in
    kept a.numbers.now a.mask a.buffer.now _ _ (ap Err c.at-then-all-mask.ensures)
    (mask_over a.numbers.now a.mask (pos_of_ne-zero c.if-count-eq0.false) c.if-count-gt-MOST_PARTS.false (omega (arith, all, c.if-all-mask.true)))

pub slice_bounds-cells-end : goal.slice_bounds-cells-end
slice_bounds-cells-end c =
    -- 2^n
    let all : c.power_of_two-all.result ≡ 2 ^ length c.args.numbers.now =
    let n : ℕ = length c.args.numbers.now in
    c.power_of_two-all.ensures ∙ up_to_16_given n (2 ^ n) c.if-count-gt-MOST_PARTS.false in
    let numbers : List ℕ =
    c.args.numbers.now in
    let mask : ℕ =
    c.args.mask in
    let inside : mask < 2 ^ length numbers =
    omega (arith, all, c.if-all-mask.false) in
    let laid_out : c.cells-cells.result ≡ cells_of (named numbers mask) =
    c.cells-cells.ensures
    ∙ ap (λ (k : ℕ). cells_of (others (take most_parts numbers) (k - 1 - mask))) (all) ∙ filled numbers mask c.if-count-gt-MOST_PARTS.false inside in
    rw (c.size-named.ensures, laid_out) (room numbers mask c.if-count-gt-MOST_PARTS.false inside)

pub slice_bounds-hand_out-end : goal.slice_bounds-hand_out-end
slice_bounds-hand_out-end c =
    -- 2^n
    let all : c.power_of_two-all.result ≡ 2 ^ length c.args.numbers.now =
    let n : ℕ = length c.args.numbers.now in
    c.power_of_two-all.ensures ∙ up_to_16_given n (2 ^ n) c.if-count-gt-MOST_PARTS.false in
    let numbers : List ℕ =
    c.args.numbers.now in
    let mask : ℕ =
    c.args.mask in
    let inside : mask < 2 ^ length numbers =
    omega (arith, all, c.if-all-mask.false) in
    let laid_out : c.cells-cells.result ≡ cells_of (named numbers mask) =
    c.cells-cells.ensures
    ∙ ap (λ (k : ℕ). cells_of (others (take most_parts numbers) (k - 1 - mask))) (all) ∙ filled numbers mask c.if-count-gt-MOST_PARTS.false inside in
    let shown : take c.size-named.result c.cells-cells.result ≡ named numbers mask =
    ap₂ take c.size-named.ensures laid_out ∙ in_front_lem numbers mask c.if-count-gt-MOST_PARTS.false inside in
    c.size-named.ensures ∙ sym (named_counted numbers mask inside) ∙ ap length (sym shown)

pub returns : goal.returns
returns c =
    -- 2^n
    let all : c.power_of_two-all.result ≡ 2 ^ length c.args.numbers.now =
    let n : ℕ = length c.args.numbers.now in
    c.power_of_two-all.ensures ∙ up_to_16_given n (2 ^ n) c.if-count-gt-MOST_PARTS.false in
    let numbers : List ℕ =
    c.args.numbers.now in
    let mask : ℕ =
    c.args.mask in
    let inside : mask < 2 ^ length numbers =
    omega (arith, all, c.if-all-mask.false) in
    let laid_out : c.cells-cells.result ≡ cells_of (named numbers mask) =
    c.cells-cells.ensures
    ∙ ap (λ (k : ℕ). cells_of (others (take most_parts numbers) (k - 1 - mask))) (all) ∙ filled numbers mask c.if-count-gt-MOST_PARTS.false inside in
    let shown : take c.size-named.result c.cells-cells.result ≡ named numbers mask =
    ap₂ take c.size-named.ensures laid_out ∙ in_front_lem numbers mask c.if-count-gt-MOST_PARTS.false inside in
    let buffer = c.args.buffer.now in
    c.hand_out.ensures ∙ ap (λ (l : List ℕ). delivered (Ok tt) l buffer) shown
    ∙ ap (λ (v : Verdict). delivered v (named numbers mask) buffer)
    (sym (mask_right numbers mask (pos_of_ne-zero c.if-count-eq0.false) c.if-count-gt-MOST_PARTS.false inside))
