-- Four buffers: which length is refused first, what acceptance says of the lengths, and all four results written. Assumes nothing.
use mathlib.Core.Path.{◌≡◌, refl, sym, ap, ap₂, ◌∙◌}
use mathlib.Core.Bool.{Bool}
use mathlib.Core.List.{List, ◌++◌}
use Prim.Native.Nat.{ℕ, suc, ◌+◌, ◌≤◌}
use native.Mathlib.Nat.{le_trans, le_of_eq}
use native.Mathlib.Omega.{arith}
use lib.IntN.{ℤ}
use lib.ListN.{length, take, length-append}
use lib.Seq.{take_at}
use Rattle.std.specs.Prelude.{Ok}
use Rattle.answer.specs.Outcome.{room, front, outcome, delivered, Numbered}
use Rattle.answer.proofs.Outcomes as outcomes
use Rattle.answer.proofs.Outcomes.{then_accepted, then_passed, then_refused, room_short}
use Rattle.answer.proofs.Deliveries.{delivered_front}
use Rattle.numbers.specs.Tables.{tabulate}
use Rattle.numbers.proofs.Tables.{tabulate_length}
use Rattle.vector_kind.specs.Kinds.{length_of}
use Rattle.vector_kind.specs.declared.Kind.{Kind}
use Rattle.vector_kind.specs.declared.Kind.TheVariants.{PathCounts}
use Rattle.vector_conversion.specs.Vectors.{counts_of, vector_refusal, figure, converted}
use Rattle.theory_figures.specs.Figures.{path_counts, signatures, dominations, importance, importances}
use Rattle.figures.specs.All.{Buffers, buffers_of, room_refusal, all_in_front}

pub record Room (n counts signature domination importance : ℕ) : Type 0 where
  pub for_counts : n + 1 ≤ counts
  pub for_signature : n ≤ signature
  pub for_domination : n + 1 ≤ domination
  pub for_importance : n ≤ importance

module _ (n counts signature domination importance : ℕ) where
  pub room_accepted : room_refusal n counts signature domination importance ≡ Ok tt → Room n counts signature domination importance
  room_accepted h =
      let c1 = then_accepted (room (n + 1) counts) _ h in
      let c2 = then_accepted (room n signature) _ c1.1 in
      let c3 = then_accepted (room (n + 1) domination) _ c2.1 in
      record {
        for_counts = outcomes.room_accepted (n + 1) counts c1.0;
        for_signature = outcomes.room_accepted n signature c2.0;
        for_domination = outcomes.room_accepted (n + 1) domination c3.0;
        for_importance = outcomes.room_accepted n importance c3.1;
      }

  pub room_enough : n + 1 ≤ counts → n ≤ signature → n + 1 ≤ domination → n ≤ importance → Ok tt ≡ room_refusal n counts signature domination importance
  room_enough h1 h2 h3 h4 =
      sym (then_passed _ (outcomes.room_enough (n + 1) counts h1) ∙ then_passed _ (outcomes.room_enough n signature h2)
      ∙ then_passed _ (outcomes.room_enough (n + 1) domination h3) ∙ outcomes.room_enough n importance h4)

-- ---- what is written

-- what a conversion leaves in a buffer that is long enough, where the entries are accepted
pub converted_stands : (target : Kind) (n : ℕ) (entries cells now : List ℤ) (answer : Numbered) → vector_refusal PathCounts n entries ≡ Ok tt
    → length_of target n ≤ length cells → outcome answer now ≡ delivered (vector_refusal PathCounts n entries) (converted target PathCounts n entries) cells
    → now ≡ front (converted target PathCounts n entries) cells
converted_stands target n entries cells now answer accepted fits e =
    let result : List ℤ = converted target PathCounts n entries in
    let long : length result ≡ length_of target n = tabulate_length (length_of target n) (figure target n (counts_of PathCounts n entries)) in
    delivered_front (vector_refusal PathCounts n entries) result cells accepted (le_trans (le_of_eq long) fits) e

-- a vector in front of a local array, and the part of the array that is lent on
module _ (n : ℕ) (f : ℕ → ℕ) (rest made : List ℕ) (is : made ≡ tabulate n f ++ rest) where
  pub made_room : n ≤ length made
  made_room = omega (arith, ap length is, length-append (tabulate n f) rest, tabulate_length n f)

  pub made_front : take n made ≡ tabulate n f
  made_front = ap (take n) is ∙ take_at (tabulate n f) rest n (tabulate_length n f)

-- the importances handed out into a buffer that is long enough
pub importances_front : (n : ℕ) (works : ℕ → Bool) (cells now : List ℕ) (answer : Numbered) → n ≤ length cells
    → outcome answer now ≡ delivered (Ok tt) (importances n works) cells → now ≡ front (importances n works) cells
importances_front n works cells now answer fits e =
    delivered_front (Ok tt) (importances n works) cells refl (le_trans (le_of_eq (tabulate_length n (λ i. importance n works (suc i)))) fits) e

-- all four results written
pub all_in_front_lem : (n : ℕ) (works : ℕ → Bool) (old : Buffers) (counts signature domination : List ℤ) (importance : List ℕ)
    → counts ≡ front (path_counts n works) old.counts → signature ≡ front (signatures n works) old.signature
    → domination ≡ front (dominations n works) old.domination → importance ≡ front (importances n works) old.importance
    → buffers_of counts signature domination importance ≡ all_in_front n works old
all_in_front_lem n works old counts signature domination importance e1 e2 e3 e4 =
    ap₂ (λ (x y : List ℤ). buffers_of x y domination importance) e1 e2
    ∙ ap₂ (λ (x : List ℤ) (y : List ℕ). buffers_of (front (path_counts n works) old.counts) (front (signatures n works) old.signature) x y) e3 e4
