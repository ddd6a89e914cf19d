-- A vector is refused by nothing exactly where it is accepted in 01's own words. Assumes nothing.
use mathlib.Core.Path.{◌≡◌, refl, sym, ap, ◌∙◌, subst}
use mathlib.Core.Bool.{Bool, true, false, not, ◌&&◌}
use mathlib.Core.List.{List}
use Prim.Native.Nat.{ℕ, suc, ◌*◌, ◌%◌, ◌≤◌, ◌<◌, suc-le-suc}
use native.Mathlib.Nat.{le_refl, le_trans, le_of_eq, le_of_suc-le-suc, div-add-mod', mul-mod_left}
use native.Mathlib.Omega.{arith}
use lib.Dec.{leb, ltb, eqb}
use lib.IntN.{ℤ, pos, negsuc, nat_abs}
use lib.ListN.{length}
use lib.Signed.{lt_z}
use borrow.Author.Tests.{eqb-true, eq-eqb, leb-true, le-leb, ltb-false, le-ltb, not-false}
use Rattle.std.specs.Prelude.{Ok}
use Rattle.answer.specs.declared.Reason.TheVariants.{WrongPartCount, WrongVectorLength, WrongPathCount, FallingProportion}
use Rattle.answer.proofs.Outcomes.{refuse_accepted, refuse_passed}
use Rattle.numbers.specs.Counts.{choose}
use Rattle.theory_sets.specs.Masks.{least}
use Rattle.numbers.proofs.Bools.{and_left, and_right, and_both, neither, clash}
use Rattle.theory_sets.proofs.Ranges.{any_false, any_none}
use Rattle.vector_kind.specs.Kinds.{length_of}
use Rattle.vector_conversion.specs.Vectors.{Scaled, stands_for, whole_count, counts_of, wrong_count, falls, path_counts_refusal, counts_refusal, vector_refusal}
use Rattle.vector_conversion.specs.Accepted.{AcceptedCounts, AcceptedVector}
use Rattle.vector_kind.specs.declared.Kind.{Kind}

-- ---- accepted path counts

-- path counts that agree up to n are accepted together
pub accepted_same : (n : ℕ) (φ ψ : ℕ → ℕ) → ((j : ℕ) → j ≤ n → ψ j ≡ φ j) → AcceptedCounts n φ → AcceptedCounts n ψ
accepted_same n φ ψ same a =
    record {
      none = same 0 (omega arith) ∙ a.none;
      all = same n (le_refl n) ∙ a.all;
      most = λ j h. le_trans (le_of_eq (same j h)) (a.most j h);
      rises = λ j h.
          subst (λ (x : ℕ). x * choose n (suc j) ≤ ψ (suc j) * choose n j) (sym (same j (omega arith)))
          (subst (λ (x : ℕ). φ j * choose n (suc j) ≤ x * choose n j) (sym (same (suc j) h)) (a.rises j h));
    }

-- ---- what 13 lets pass

-- a path count of size j, with its unit
pub record RightCount (n j : ℕ) (count : Scaled) : Type 0 where
  pub whole : count.number ≡ pos (whole_count count * count.unit)
  pub most : whole_count count ≤ choose n j
  pub none : j ≡ 0 → whole_count count ≡ 0
  pub all : j ≡ n → whole_count count ≡ 1

-- one test does not hold without another
without : (p q : Bool) → p && not q ≡ false → p ≡ true → q ≡ true
without true true h k = refl
without true false h k = clash {p = true} refl h
without false q h k = clash k refl

kept : (p q : Bool) → (p ≡ true → q ≡ true) → p && not q ≡ false
kept true q h = ap not (h refl)
kept false q h = refl

module _ (n : ℕ) (counts : ℕ → Scaled) (j : ℕ) where
  pub right_count : wrong_count n counts j ≡ false → RightCount n j (counts j)
  unfolding wrong_count
  right_count h =
      let found = whole_count (counts j) in
      let last = neither _ (eqb j n && not (eqb found 1)) h in
      let first = neither _ (eqb j 0 && not (eqb found 0)) last.0 in
      let over = neither _ (ltb (choose n j) found) first.0 in
      let below = neither (not (eqb (nat_abs (counts j).number % (counts j).unit) 0)) (lt_z (counts j).number (pos 0)) over.0 in
      let rest : nat_abs (counts j).number % (counts j).unit ≡ 0 = eqb-true _ 0 (not-false _ below.0) in
      record {
        whole = positive (counts j).number below.1
            ∙ ap pos (let parts : found * (counts j).unit ≡ nat_abs (counts j).number = omega (arith, div-add-mod' (nat_abs (counts j).number) (counts j).unit) in sym parts);
        most = ltb-false (choose n j) found over.1;
        none = λ e. eqb-true found 0 (without (eqb j 0) (eqb found 0) first.1 (eq-eqb j 0 e));
        all = λ e. eqb-true found 1 (without (eqb j n) (eqb found 1) last.1 (eq-eqb j n e));
      }
    where
      positive : (z : ℤ) → lt_z z (pos 0) ≡ false → z ≡ pos (nat_abs z)
      positive (pos v) h = refl
      positive (negsuc v) h = clash {p = true} refl h

  pub count_right : RightCount n j (counts j) → wrong_count n counts j ≡ false
  unfolding wrong_count
  count_right right =
      let rest : nat_abs (counts j).number % (counts j).unit ≡ 0 =
      ap (λ (z : ℤ). nat_abs z % (counts j).unit) right.whole ∙ mul-mod_left (whole_count (counts j)) (counts j).unit in
      let above : lt_z (counts j).number (pos 0) ≡ false =
      ap (λ (z : ℤ). lt_z z (pos 0)) right.whole ∙ le-ltb (whole_count (counts j) * (counts j).unit) 0 (omega arith) in
      rw (
        eq-eqb _ 0 rest,
        above,
        le-ltb (choose n j) (whole_count (counts j)) right.most,
        kept (eqb j 0) (eqb (whole_count (counts j)) 0) (λ t. eq-eqb _ 0 (right.none (eqb-true j 0 t))),
        kept (eqb j n) (eqb (whole_count (counts j)) 1) (λ t. eq-eqb _ 1 (right.all (eqb-true j n t))),
      )

-- ---- accepted vectors

module _ (kind : Kind) (n : ℕ) (entries : List ℤ) where
  -- what 13 and 14 let pass
  pub accepted_counts : ((j : ℕ) → j ≤ n → wrong_count n (stands_for kind n entries) j ≡ false) → ((j : ℕ) → j < n → falls n (counts_of kind n entries) j ≡ false)
      → AcceptedCounts n (counts_of kind n entries)
  unfolding falls
  accepted_counts right rise =
      record {
        most = λ j h. (right_count n (stands_for kind n entries) j (right j h)).most;
        none = (right_count n (stands_for kind n entries) 0 (right 0 (omega arith))).none refl;
        all = (right_count n (stands_for kind n entries) n (right n (le_refl n))).all refl;
        rises = λ j h. ltb-false (counts_of kind n entries (suc j) * choose n j) (counts_of kind n entries j * choose n (suc j)) (rise j h);
      }

  pub accepted_vector : vector_refusal kind n entries ≡ Ok tt → AcceptedVector kind n entries
  unfolding vector_refusal counts_refusal path_counts_refusal
  accepted_vector h =
      let c1 = refuse_accepted _ _ _ _ h in
      let c12 = refuse_accepted _ _ _ _ c1.1 in
      let c13 = refuse_accepted _ _ _ _ c12.1 in
      let c14 = refuse_accepted _ _ _ _ c13.1 in
      let parts : leb 1 n && leb n 16 ≡ true = not-false (leb 1 n && leb n 16) c1.0 in
      let right : (j : ℕ) → j ≤ n → wrong_count n (stands_for kind n entries) j ≡ false =
      λ j l. any_none (wrong_count n (stands_for kind n entries)) (suc n) j c13.0 (suc-le-suc l) in
      record {
        some = leb-true 1 n (and_left (leb 1 n) (leb n 16) parts);
        few = leb-true n 16 (and_right (leb 1 n) (leb n 16) parts);
        long = eqb-true (length entries) (length_of kind n) (not-false (eqb (length entries) (length_of kind n)) c12.0);
        whole = λ j l. (right_count n (stands_for kind n entries) j (right j l)).whole;
        counts = accepted_counts right (λ j l. any_none (falls n (counts_of kind n entries)) n j c14.0 l);
      }

  pub vector_accepted : AcceptedVector kind n entries → vector_refusal kind n entries ≡ Ok tt
  unfolding vector_refusal counts_refusal path_counts_refusal falls
  vector_accepted a =
      refuse_passed _ WrongPartCount 0 _ (ap not (and_both (le-leb 1 n a.some) (le-leb n 16 a.few)))
      ∙ refuse_passed _ WrongVectorLength 0 _ (ap not (eq-eqb (length entries) (length_of kind n) a.long))
      ∙ refuse_passed _ WrongPathCount (least (wrong_count n (stands_for kind n entries)) (suc n)) _
      (any_false (wrong_count n (stands_for kind n entries)) (suc n) (λ j h w. clash w (right j (le_of_suc-le-suc h))))
      ∙ refuse_passed _ FallingProportion (least (falls n (counts_of kind n entries)) n) (Ok tt)
      (any_false (falls n (counts_of kind n entries)) n (λ j h w. clash w (le-ltb _ _ (a.counts.rises j h))))
    where
      right : (j : ℕ) → j ≤ n → wrong_count n (stands_for kind n entries) j ≡ false
      right j h =
          count_right n (stands_for kind n entries) j (record {
            whole = a.whole j h;
            most = a.counts.most j h;
            none = λ e. ap (counts_of kind n entries) e ∙ a.counts.none;
            all = λ e. ap (counts_of kind n entries) e ∙ a.counts.all;
          })
