-- `drawing_reading::Gathered::with` meets its contract: a part that the set lacks is added to it, and the set stays one of n parts.
-- Assumes nothing.
use mathlib.Core.Path.{◌≡◌, sym, ap, ◌∙◌}
use mathlib.Core.Bool.{true}
use Prim.Native.Nat.{ℕ, ◌+◌, ◌-◌, ◌^◌, ◌≤◌, ◌<◌}
use native.Mathlib.Omega.{arith}
use lib.Pow.{pow_mono}
use Rattle.numbers.proofs.Counts.{up_to_16_given}
use Rattle.theory_sets.specs.Masks.{has}
use Rattle.theory_sets.proofs.Masks.{add_below}
use Rattle.masks.specs.Groups.{meets}
use Rattle.masks.proofs.Groups.{meets_single}
use Rattle.drawing_text.specs.Sets.{within}
use Rattle.drawing_text.proofs.Sets.{within_of}
use Rattle.drawing_reading.proofs.Positions.{outside_low, outside_high, with_outside, with_again, with_new}
use Rattle.drawing_reading.proofs.Gathered.with.Goals as goal

pub returns-then-position-eq0 : goal.returns-then-position-eq0
returns-then-position-eq0 c =
    let a = c.args in
    c.with_unknown.ensures ∙ with_outside a.n a.self a.position (outside_low a.n a.position c.if-position-eq0.true)

pub returns-then-n-position : goal.returns-then-n-position
returns-then-n-position c =
    let a = c.args in
    c.with_unknown-then-n-position.ensures ∙ with_outside a.n a.self a.position (outside_high a.n a.position c.if-n-position.true)

pub returns-then-meets : goal.returns-then-meets
returns-then-meets c =
    -- the part at the position
    let part-given : c.power_of_two-part.result ≡ 2 ^ (c.args.position - 1) =
    let i = c.args.position - 1 in c.power_of_two-part.ensures ∙ up_to_16_given i (2 ^ i) (omega arith) in
    -- whether the set has it
    let had : c.meets.result ≡ has c.args.self.set (c.args.position - 1) =
    let a = c.args in
    c.meets.ensures ∙ ap (λ (part : ℕ). meets part a.self.set) part-given ∙ meets_single (a.position - 1) a.self.set in
    -- the position is one of n
    let inside : within c.args.n c.args.position ≡ true =
    let a = c.args in
    within_of a.n a.position (omega (arith, c.if-position-eq0.false)) c.if-n-position.false in
    let a = c.args in
    with_again a.n a.self a.position inside (sym had ∙ c.if-meets.true)

pub overflow_add-more : goal.overflow_add-more
overflow_add-more c =
    -- the part at the position
    let part-given : c.power_of_two-part.result ≡ 2 ^ (c.args.position - 1) =
    let i = c.args.position - 1 in c.power_of_two-part.ensures ∙ up_to_16_given i (2 ^ i) (omega arith) in
    -- whether the set has it
    let had : c.meets.result ≡ has c.args.self.set (c.args.position - 1) =
    let a = c.args in
    c.meets.ensures ∙ ap (λ (part : ℕ). meets part a.self.set) part-given ∙ meets_single (a.position - 1) a.self.set in
    -- with it the set is still one of n parts
    let below : c.args.self.set + 2 ^ (c.args.position - 1) < 65536 =
    let a = c.args in
    let few : 2 ^ a.n ≤ 2 ^ 16 = pow_mono c.requires.n_bound in
    omega (arith, few, add_below a.n a.self.set (a.position - 1) c.requires.set_bound (omega arith) (sym had ∙ c.if-meets.false)) in
    omega (arith, below, part-given)

pub overflow_cast-result : goal.overflow_cast-result
overflow_cast-result c =
    -- the part at the position
    let part-given : c.power_of_two-part.result ≡ 2 ^ (c.args.position - 1) =
    let i = c.args.position - 1 in c.power_of_two-part.ensures ∙ up_to_16_given i (2 ^ i) (omega arith) in
    -- whether the set has it
    let had : c.meets.result ≡ has c.args.self.set (c.args.position - 1) =
    let a = c.args in
    c.meets.ensures ∙ ap (λ (part : ℕ). meets part a.self.set) part-given ∙ meets_single (a.position - 1) a.self.set in
    -- with it the set is still one of n parts
    let below : c.args.self.set + 2 ^ (c.args.position - 1) < 65536 =
    let a = c.args in
    let few : 2 ^ a.n ≤ 2 ^ 16 = pow_mono c.requires.n_bound in
    omega (arith, few, add_below a.n a.self.set (a.position - 1) c.requires.set_bound (omega arith) (sym had ∙ c.if-meets.false)) in
    omega (arith, below, part-given)

pub returns : goal.returns
returns c =
    -- the part at the position
    let part-given : c.power_of_two-part.result ≡ 2 ^ (c.args.position - 1) =
    let i = c.args.position - 1 in c.power_of_two-part.ensures ∙ up_to_16_given i (2 ^ i) (omega arith) in
    -- whether the set has it
    let had : c.meets.result ≡ has c.args.self.set (c.args.position - 1) =
    let a = c.args in
    c.meets.ensures ∙ ap (λ (part : ℕ). meets part a.self.set) part-given ∙ meets_single (a.position - 1) a.self.set in
    -- the position is one of n
    let inside : within c.args.n c.args.position ≡ true =
    let a = c.args in
    within_of a.n a.position (omega (arith, c.if-position-eq0.false)) c.if-n-position.false in
    let a = c.args in
    ap (λ (part : ℕ). record { set = a.self.set + part; unknown = a.self.unknown; repeated = a.self.repeated }) part-given
    ∙ with_new a.n a.self a.position inside (sym had ∙ c.if-meets.false)
