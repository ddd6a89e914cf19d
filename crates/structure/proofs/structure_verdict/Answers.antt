-- `structure::structure_verdict` meets its contract: the three checks are made in their order on the words that the table is loaded into.
-- Assumes nothing.
use mathlib.Core.Path.{◌≡◌, sym, ap, ◌∙◌, subst}
use mathlib.Core.Bool.{not}
use mathlib.Core.List.{List}
use Prim.Native.Nat.{ℕ, ◌-◌, ◌^◌, ◌≤◌, ◌<◌, min}
use native.Mathlib.Nat.{lt_of_lt_of_le}
use native.Mathlib.Omega.{arith}
use lib.Pow.{pow_mono, pow_pos, ones_lt}
use Rattle.std.specs.Prelude.{Ok, Err}
use Rattle.answer.specs.Outcome.{at}
use Rattle.answer.specs.declared.Reason.TheVariants.{EmptySetWorks, FullSetFails, BrokenSet}
use Rattle.answer.proofs.Outcomes.{refuse_held, refuse_passed}
use Rattle.numbers.proofs.Counts.{up_to_16_given}
use Rattle.theory_sets.specs.Masks.{least}
use Rattle.theory_sets.specs.Structures.{broken}
use Rattle.theory_sets.specs.Tables.{in_table}
use Rattle.structure_words.specs.Words.{in_words, words_of}
use Rattle.structure_words.proofs.Words.{in_words_words_of}
use Rattle.structure.proofs.Walks.{first_found, first_none}
use Rattle.structure.proofs.structure_verdict.Goals as goal
use Rattle.structure.proofs.structure_verdict.Goals.{After-first_broken-place, After-power_of_two, After-works, After-works-2}

-- what the words say of a mask, the table says
said : (words table : List ℕ) (a : ℕ) → words ≡ words_of (in_table table) → a < 65536 → in_table table a ≡ in_words words a
said words table a e h = sym (ap (λ (ws : List ℕ). in_words ws a) e ∙ in_words_words_of (in_table table) a h)

empty-is : (c : After-works) → in_table c.args.table.now 0 ≡ c.works.result
empty-is c = said _ c.args.table.now 0 c.load-loaded.ensures (omega arith) ∙ sym c.works.ensures

power-is : (c : After-power_of_two) → c.power_of_two.result ≡ 2 ^ c.args.n
power-is c =
    let start = c in
    c.power_of_two.ensures ∙ up_to_16_given start.args.n _ start.requires.n_bound

full_is : (c : After-works-2) → in_table c.args.table.now (2 ^ c.args.n - 1) ≡ c.works-2.result
full_is c =
    let start = c in
    let n = start.args.n in
    let inside : 2 ^ n - 1 < 65536 = lt_of_lt_of_le (ones_lt n) (pow_mono start.requires.n_bound) in
    said _ start.args.table.now (2 ^ n - 1) c.load-loaded.ensures inside
    ∙ ap (λ (x : ℕ). in_words c.load-loaded.result (x - 1)) (sym (c.power_of_two.ensures ∙ up_to_16_given n _ start.requires.n_bound)) ∙ sym c.works-2.ensures

place_is : (c : After-first_broken-place) → c.first_broken-place.result
    ≡ least (broken (min c.args.n 16) (in_words (words_of (in_table c.args.table.now)))) 65536
place_is c =
    c.first_broken-place.ensures
    ∙ ap (λ (ws : List ℕ). least (broken (min c.args.n 16) (in_words ws)) 65536) c.load-loaded.ensures

pub returns-then-works : goal.returns-then-works
returns-then-works c = (ap Err c.at.ensures) ∙ sym (refuse_held _ EmptySetWorks 0 _ (empty-is (goal.at.returns-then-works c).After-works ∙ c.if-works.true))

pub overflow_sub-power_of_two : goal.overflow_sub-power_of_two
overflow_sub-power_of_two c = subst (λ (x : ℕ). 1 ≤ x) (sym (power-is (goal.at.overflow_sub-power_of_two c).After-power_of_two)) (pow_pos c.args.n)

pub returns-then-not-works : goal.returns-then-not-works
returns-then-not-works c =
    (ap Err c.at-then-not-works.ensures)
    ∙ sym (refuse_passed _ EmptySetWorks 0 _ (empty-is (goal.at.returns-then-not-works c).After-works ∙ c.if-works.false)
    ∙ refuse_held _ FullSetFails 0 _ (ap not (full_is (goal.at.returns-then-not-works c).After-works-2 ∙ c.if-not-works.true)))

pub returns-then-place-lt65536 : goal.returns-then-place-lt65536
returns-then-place-lt65536 c =
    let start = c in
    let table = start.args.table.now in
    let n = start.args.n in
    let place = c.first_broken-place.result in
    let found = first_found n table start.requires.n_bound start.requires.by_index place (place_is (goal.at.returns-then-place-lt65536 c).After-first_broken-place) c.if-place-lt65536.true in
    (ap Err c.at-then-place-lt65536.ensures) ∙ ap (λ (p : ℕ). Err (at BrokenSet p)) found.1
    ∙ sym (refuse_passed _ EmptySetWorks 0 _ (empty-is (goal.at.returns-then-place-lt65536 c).After-works ∙ c.if-works.false)
    ∙ refuse_passed _ FullSetFails 0 _ (ap not (full_is (goal.at.returns-then-place-lt65536 c).After-works-2 ∙ c.if-not-works.false)) ∙ refuse_held _ BrokenSet _ _ found.0)

pub returns : goal.returns
returns c =
    let start = c in
    let table = start.args.table.now in
    let n = start.args.n in
    sym (refuse_passed _ EmptySetWorks 0 _ (empty-is (goal.at.returns c).After-works ∙ c.if-works.false)
    ∙ refuse_passed _ FullSetFails 0 _ (ap not (full_is (goal.at.returns c).After-works-2 ∙ c.if-not-works.false))
    ∙ refuse_passed _ BrokenSet _ (Ok tt)
    (first_none n table start.requires.n_bound start.requires.by_index c.first_broken-place.result (place_is (goal.at.returns c).After-first_broken-place) c.if-place-lt65536.false))
