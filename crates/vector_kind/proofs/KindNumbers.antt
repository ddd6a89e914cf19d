-- Kinds and their numbers: each kind has its own, and 26 refuses every other number; and the number of a vector's entries. Assumes nothing.
use mathlib.Core.Path.{◌≡◌, refl, ap, ◌∙◌}
use mathlib.Core.Bool.{Bool, true, false, not, cond}
use Prim.Native.Nat.{ℕ, zero, suc, ◌≤◌}
use native.Mathlib.Omega.{arith}
use lib.Dec.{eqb}
use borrow.Author.Tests.{le-ltb, le-leb, lt-leb, eqb-true, ne_eqb}
use Rattle.std.specs.Prelude.{Ok, Err}
use Rattle.answer.specs.Outcome.{at, Verdict}
use Rattle.answer.specs.declared.Reason.TheVariants.{WrongKind}
use Rattle.answer.specs.declared.Refusal.{Refusal}
use Rattle.answer.proofs.Outcomes.{refuse_held, refuse_passed}
use Rattle.vector_kind.specs.Kinds.{kind_number, length_of, entry_count, is_kind, kind_of, kind_refusal, kind_named}
use Rattle.vector_kind.specs.declared.Kind.{Kind}
use Rattle.vector_kind.specs.declared.Kind.TheVariants.{PathCounts, Tail, Signature, Domination}

-- a kind comes back from its number
pub kind_back : (kind : Kind) → kind_of (kind_number kind) ≡ kind
unfolding kind_of
kind_back PathCounts = refl
kind_back Tail = refl
kind_back Signature = refl
kind_back Domination = refl

pub kind_is_one : (kind : Kind) → is_kind (kind_number kind) ≡ true
kind_is_one PathCounts = refl
kind_is_one Tail = refl
kind_is_one Signature = refl
kind_is_one Domination = refl

-- 2 alone is the tail's number
pub tail_number : (number : ℕ) → kind_of number ≡ Tail → number ≡ 2
unfolding kind_of
tail_number number same = cases (eqb number 2) (eqb number 3) (eqb number 4) refl same
  where
    cases : (two three four : Bool) → eqb number 2 ≡ two → cond two Tail (cond three Signature (cond four Domination PathCounts)) ≡ Tail → number ≡ 2
    cases true three four e is = eqb-true number 2 e
    cases false true four e is = absurd (omega (arith, ap kind_number is))
    cases false false true e is = absurd (omega (arith, ap kind_number is))
    cases false false false e is = absurd (omega (arith, ap kind_number is))

-- a kind that is named is its number's, and the number is not refused
pub kind_given : (number : ℕ) (kind : Kind) → Ok kind ≡ kind_named number → (kind ≡ kind_of number) × ((later : Verdict) → kind_refusal number later ≡ later)
kind_given number kind e = cases (is_kind number) refl e
  where
    cases : (t : Bool) → is_kind number ≡ t → Ok kind ≡ cond t (Ok (kind_of number)) (Err (at WrongKind 0))
        → (kind ≡ kind_of number) × ((later : Verdict) → kind_refusal number later ≡ later)
    cases true h same = (cc same, λ later. refuse_passed (not (is_kind number)) WrongKind 0 later (ap not h))
    cases false h same = absurd (let clash : ◌≡◌ {A = ℕ} 0 1 = cc same in omega arith)

-- a number that names none is refused
pub kind_refused : (number : ℕ) (why : Refusal) (later : Verdict) → Err why ≡ kind_named number → kind_refusal number later ≡ Err why
kind_refused number why later e = cases (is_kind number) refl e
  where
    cases : (t : Bool) → is_kind number ≡ t → Err why ≡ cond t (Ok (kind_of number)) (Err (at WrongKind 0)) → kind_refusal number later ≡ Err why
    cases true h same = absurd (let clash : ◌≡◌ {A = ℕ} 0 1 = cc same in omega arith)
    cases false h same = refuse_held (not (is_kind number)) WrongKind 0 later (ap not h) ∙ ap Err (let right : at WrongKind 0 ≡ why = cc same in right)

-- for 16 parts or fewer a vector has its kind's length
pub entries_few : (kind : Kind) (n : ℕ) → n ≤ 16 → entry_count kind n ≡ length_of kind n
entries_few kind n h = ap (λ (t : Bool). cond t 0 (length_of kind n)) (le-ltb 16 n h)
