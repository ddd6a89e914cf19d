-- What the figures of an accepted table are: each entry of the signature is the count of failure orders for all parts, each importance the count
-- for its part alone, and its figures are accepted vectors, which convert into each other. Assumes nothing.
use mathlib.Core.Path.{◌≡◌, ap, ◌∙◌}
use mathlib.Core.List.{List}
use Prim.Native.Nat.{ℕ, suc, ◌-◌, ◌^◌}
use native.Mathlib.Numerals.{sub-one}
use native.Mathlib.Omega.{arith}
use lib.IntN.{pos}
use Rattle.std.specs.Prelude.{Ok}
use Rattle.numbers.specs.Tables.{tabulate}
use Rattle.theory_orders.specs.Counting.{count}
use Rattle.theory_orders.specs.Formulas.{path_count}
use Rattle.theory_sets.specs.Tables.{in_table}
use Rattle.structure.specs.Checks.{table_refusal}
use Rattle.structure.proofs.Acceptance.{accepted_table}
use Rattle.vector_kind.specs.declared.Kind.{Kind}
use Rattle.vector_conversion.specs.Vectors.{vector_refusal, converted, figures_of}
use Rattle.theory_figures.specs.Figures.{signature, importance, signatures, importances}
use Rattle.numbers.proofs.Tables.{tabulate_same}
use Rattle.theory_figures.proofs.Tails.{signature_is_count}
use Rattle.theory_figures.proofs.Importances.{importance_is_count}
use Rattle.vector_conversion.proofs.Conversions.{structure_accepted, structure_convert}

module _ (n : ℕ) (table : List ℕ) (accepted : table_refusal n table ≡ Ok tt) where
  pub signature_counts : signatures n (in_table table) ≡ tabulate n (λ k. pos (count n (in_table table) (2 ^ n - 1) (suc k)))
  signature_counts =
      tabulate_same n (λ k. signature n (path_count n (in_table table)) (suc k)) (λ k. pos (count n (in_table table) (2 ^ n - 1) (suc k)))
      (λ k h. signature_is_count n (in_table table) (accepted_table n table accepted).semicoherent (suc k) (omega arith) h)

  pub importance_counts : importances n (in_table table) ≡ tabulate n (λ i. count n (in_table table) (2 ^ i) 1)
  importance_counts =
      tabulate_same n (λ i. importance n (in_table table) (suc i)) (λ i. count n (in_table table) (2 ^ i) 1)
      (λ i h.
      importance_is_count n (in_table table) (accepted_table n table accepted).semicoherent (suc i) (omega arith) h
      ∙ ap (λ (x : ℕ). count n (in_table table) (2 ^ x) 1) (sub-one (suc i)))

  pub vectors_accepted : (kind : Kind) → vector_refusal kind n (figures_of kind n (in_table table)) ≡ Ok tt
  vectors_accepted =
      let a = accepted_table n table accepted in
      structure_accepted n a.some a.few (in_table table) a.semicoherent

  pub vectors_converted : (kind target : Kind) → converted target kind n (figures_of kind n (in_table table)) ≡ figures_of target n (in_table table)
  vectors_converted =
      let a = accepted_table n table accepted in
      structure_convert n a.some a.few (in_table table) a.semicoherent
