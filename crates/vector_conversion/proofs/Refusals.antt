-- The first refusal of a vector, check by check: what each check that holds gives, where those before it pass. Assumes nothing.
use mathlib.Core.Path.{◌≡◌, sym, ap, ap₂, ◌∙◌}
use mathlib.Core.Bool.{true, false, not, ◌&&◌}
use mathlib.Core.List.{List}
use Prim.Native.Nat.{ℕ, suc, ◌*◌, ◌≤◌, ◌<◌, suc-le-suc}
use native.Mathlib.Omega.{arith}
use lib.Dec.{leb, ltb}
use lib.IntN.{ℤ}
use lib.ListN.{length}
use borrow.Author.Tests.{leb-true, le-leb, eq-eqb, ne_eqb}
use Rattle.std.specs.Prelude.{Ok, Err}
use Rattle.answer.specs.Outcome.{at, Verdict}
use Rattle.answer.specs.declared.Reason.{Reason}
use Rattle.answer.specs.declared.Refusal.{Refusal}
use Rattle.answer.specs.declared.Reason.TheVariants.{WrongPartCount, WrongVectorLength, WrongPathCount, FallingProportion}
use Rattle.answer.proofs.Outcomes.{refuse_held, refuse_passed}
use Rattle.numbers.specs.Counts.{choose}
use Rattle.theory_sets.specs.Masks.{any, least}
use Rattle.numbers.proofs.Bools.{and_left, and_right, and_both, clash, false_of}
use Rattle.theory_sets.proofs.Ranges.{any_intro, any_false, least_found}
use Rattle.vector_kind.specs.Kinds.{length_of}
use Rattle.vector_conversion.specs.Vectors.{stands_for, counts_of, wrong_count, falls, path_counts_refusal, counts_refusal, vector_refusal}
use Rattle.vector_conversion.specs.Inside.{cells_of, Found, FirstWrong, FirstFall}
use Rattle.vector_kind.specs.declared.Kind.{Kind}

module _ (kind : Kind) (n : ℕ) (entries : List ℤ) where
  pub refused_parts : (1 ≤ n → n ≤ 16 → ⊥) → Err (at WrongPartCount 0) ≡ vector_refusal kind n entries
  unfolding vector_refusal
  refused_parts out =
      sym (refuse_held _ WrongPartCount 0 _ (ap not (false_of (leb 1 n && leb n 16) (λ t.
      out (leb-true 1 n (and_left (leb 1 n) (leb n 16) t)) (leb-true n 16 (and_right (leb 1 n) (leb n 16) t))))))

  module _ (some : 1 ≤ n) (few : n ≤ 16) where
    pub refused_length : (length entries ≡ length_of kind n → ⊥) → Err (at WrongVectorLength 0) ≡ vector_refusal kind n entries
    unfolding vector_refusal
    refused_length other =
        sym (refuse_passed _ WrongPartCount 0 _ (ap not (and_both (le-leb 1 n some) (le-leb n 16 few)))
        ∙ refuse_held _ WrongVectorLength 0 _ (ap not (ne_eqb (length entries) (length_of kind n) other)))

    module _ (long : length entries ≡ length_of kind n) where
      passed : vector_refusal kind n entries ≡ counts_refusal kind n entries
      unfolding vector_refusal
      passed =
          refuse_passed _ WrongPartCount 0 _ (ap not (and_both (le-leb 1 n some) (le-leb n 16 few)))
          ∙ refuse_passed _ WrongVectorLength 0 _ (ap not (eq-eqb (length entries) (length_of kind n) long))

      module _ (why : Refusal) (wrong : FirstWrong kind n entries why) where
        pub refused_count : Err why ≡ vector_refusal kind n entries
        unfolding counts_refusal path_counts_refusal
        refused_count =
            ap Err wrong.told
            ∙ sym (passed
            ∙ refuse_held _ WrongPathCount (least (wrong_count n (stands_for kind n entries)) (suc n)) _ (any_intro (wrong_count n (stands_for kind n entries)) (suc n) why.place (suc-le-suc wrong.within) wrong.first)
            ∙ ap (λ (place : ℕ). Err (at WrongPathCount place))
            (least_found (wrong_count n (stands_for kind n entries)) (suc n) why.place (suc-le-suc wrong.within) wrong.first wrong.right))

      module _ (counts : List ℕ) (found : Found kind n entries counts (suc n)) where
        -- no count is wrong
        none_wrong : any (wrong_count n (stands_for kind n entries)) (suc n) ≡ false
        none_wrong = any_false (wrong_count n (stands_for kind n entries)) (suc n) (λ j h w. clash w (found.right j h))

        fall_same : (j : ℕ) → j < n → falls n (counts_of kind n entries) j ≡ falls n (cells_of counts) j
        unfolding falls
        fall_same j h = sym (ap₂ (λ (x y : ℕ). ltb (x * choose n j) (y * choose n (suc j))) (found.cells (suc j) (suc-le-suc h)) (found.cells j (omega arith)))

        module _ (fall : ℕ) (first : FirstFall n counts fall) where
          below : (j : ℕ) → j < fall → falls n (counts_of kind n entries) j ≡ false
          below j h = fall_same j (omega (arith, first.within)) ∙ first.rises j h

          pub refused_fall : fall < n → Err (at FallingProportion fall) ≡ vector_refusal kind n entries
          unfolding counts_refusal path_counts_refusal
          refused_fall h =
              let here : falls n (counts_of kind n entries) fall ≡ true = fall_same fall h ∙ first.first h in
              sym (passed ∙ refuse_passed _ WrongPathCount (least (wrong_count n (stands_for kind n entries)) (suc n)) _ none_wrong
              ∙ refuse_held _ FallingProportion (least (falls n (counts_of kind n entries)) n) (Ok tt)
              (any_intro (falls n (counts_of kind n entries)) n fall h here)
              ∙ ap (λ (place : ℕ). Err (at FallingProportion place)) (least_found (falls n (counts_of kind n entries)) n fall h here below))

          pub passed_all : n ≤ fall → Ok tt ≡ vector_refusal kind n entries
          unfolding counts_refusal path_counts_refusal
          passed_all h =
              sym (passed ∙ refuse_passed _ WrongPathCount (least (wrong_count n (stands_for kind n entries)) (suc n)) _ none_wrong
              ∙ refuse_passed _ FallingProportion (least (falls n (counts_of kind n entries)) n) (Ok tt)
              (any_false (falls n (counts_of kind n entries)) n (λ j l w. clash w (below j (omega arith)))))

-- a refusal is no acceptance
pub refused-other {ℓ} : {A : Type ℓ} (verdict : Verdict) (reason : Reason) (place : ℕ) → verdict ≡ Err (at reason place) → verdict ≡ Ok tt → A
refused-other verdict reason place refused accepted = let clash : ◌≡◌ {A = ℕ} 0 1 = cc in absurd (omega arith)
