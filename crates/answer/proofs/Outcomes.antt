-- Laws of outcomes: one check of a chain, the cases of `delivered` and of `valued`, and a result that is written into a lent buffer from its
-- front.
-- Assumes nothing.
use mathlib.Core.Path.{◌≡◌, refl, sym, ap, ap₂, ◌∙◌}
use mathlib.Core.Bool.{Bool, true, false}
use mathlib.Core.List.{List, [], ◌∷◌, ◌++◌}
use Prim.Native.Nat.{ℕ, suc, ◌+◌, ◌≤◌, ◌<◌}
use native.Mathlib.Nat.{add-sub_of_le}
use native.Mathlib.Numerals.{add-one}
use native.Mathlib.Omega.{arith}
use borrow.Author.Tests.{le-ltb, lt-ltb, ltb-false}
use lib.Dec.{ltb}
use lib.ListN.{length, get_or, drop, set, length-append, length-drop}
use lib.Seq.{drop-cons, set-append_seam, append_snoc}
use Rattle.std.specs.Prelude.{Ok, Err}
use Rattle.answer.specs.declared.Reason.{Reason}
use Rattle.answer.specs.declared.Reason.TheVariants.{ShortBuffer}
use Rattle.answer.specs.Outcome.{at, refuse, and_then, room, Outcome, outcome, settled, delivered, valued, Verdict}
use Rattle.answer.specs.declared.Refusal.{Refusal}

-- a check that accepts: its condition does not hold, and what comes later accepts
pub refuse_accepted : (test : Bool) (reason : Reason) (place : ℕ) (later : Verdict) → refuse test reason place later ≡ Ok tt → (test ≡ false) × (later ≡ Ok tt)
refuse_accepted true reason place later h = absurd (let wrong : ◌≡◌ {A = ℕ} 0 1 = cc in omega arith)
refuse_accepted false reason place later h = (refl, h)

pub refuse_passed : (test : Bool) (reason : Reason) (place : ℕ) (later : Verdict) → test ≡ false → refuse test reason place later ≡ later
refuse_passed test reason place later h = ap (λ (t : Bool). refuse t reason place later) h

pub refuse_held : (test : Bool) (reason : Reason) (place : ℕ) (later : Verdict) → test ≡ true → refuse test reason place later ≡ Err (at reason place)
refuse_held test reason place later h = ap (λ (t : Bool). refuse t reason place later) h

-- two verdicts, one after the other: both accept
pub then_accepted : (first later : Verdict) → and_then first later ≡ Ok tt → (first ≡ Ok tt) × (later ≡ Ok tt)
then_accepted (Err refusal) later h = absurd (let wrong : ◌≡◌ {A = ℕ} 0 1 = cc in omega arith)
then_accepted (Ok _) later h = (refl, h)

pub then_passed : {first : Verdict} (later : Verdict) → first ≡ Ok tt → and_then first later ≡ later
then_passed later h = ap (λ (v : Verdict). and_then v later) h

pub then_refused : {first : Verdict} (later : Verdict) {why : Refusal} → first ≡ Err why → and_then first later ≡ Err why
then_refused later h = ap (λ (v : Verdict). and_then v later) h

-- what comes later matters only where the first accepts
pub then_same : (first later other : Verdict) → (first ≡ Ok tt → later ≡ other) → and_then first later ≡ and_then first other
then_same (Err why) later other same = refl
then_same (Ok _) later other same = same refl

-- ---- the room that is lent

pub room_enough : (needed lent : ℕ) → needed ≤ lent → room needed lent ≡ Ok tt
room_enough needed lent h = refuse_passed (ltb lent needed) ShortBuffer needed (Ok tt) (le-ltb lent needed h)

pub room_short : (needed lent : ℕ) → lent < needed → room needed lent ≡ Err (at ShortBuffer needed)
room_short needed lent h = refuse_held (ltb lent needed) ShortBuffer needed (Ok tt) (lt-ltb lent needed h)

pub room_accepted : (needed lent : ℕ) → room needed lent ≡ Ok tt → needed ≤ lent
room_accepted needed lent h = ltb-false lent needed (refuse_accepted (ltb lent needed) ShortBuffer needed (Ok tt) h).0

-- ---- what is settled

module _ {A B : Type 0} (judged : Verdict) (refusing : Refusal → A) (buffer : B) (given : Outcome A B) where
  pub settled_refused : {why : Refusal} → judged ≡ Err why → outcome (refusing why) buffer ≡ settled judged refusing buffer given
  settled_refused h = ap (λ (v : Verdict). settled v refusing buffer given) (sym h)

  pub settled_given : judged ≡ Ok tt → given ≡ settled judged refusing buffer given
  settled_given h = ap (λ (v : Verdict). settled v refusing buffer given) (sym h)

-- ---- a number that is given

module _ (v : Verdict) (number : ℕ) where
  pub valued_refused : (why : Refusal) → v ≡ Err why → Err why ≡ valued v number
  valued_refused why e = ap (λ (x : Verdict). valued x number) (sym e)

  pub valued_given : v ≡ Ok tt → Ok number ≡ valued v number
  valued_given e = ap (λ (x : Verdict). valued x number) (sym e)

-- what was given was not refused
pub given_valued : (v : Verdict) (number given : ℕ) → valued v number ≡ Ok given → (v ≡ Ok tt) × (number ≡ given)
given_valued (Err why) number given e = let z : ◌≡◌ {A = ℕ} 0 1 = cc in absurd (omega arith)
given_valued (Ok _) number given e = (refl, cc e)

-- ---- a result in front of a buffer

-- A result stands in front of a lent buffer, all else is as it was, and the next cell is behind it.
pub record InFront {A : Type 0} (buffer result now : List A) (next : ℕ) : Type 0 where
  pub ends : next ≡ length result
  pub stands : now ≡ result ++ drop (length result) buffer

module _ {A : Type 0} (buffer : List A) where
  -- nothing is written yet
  pub in_front_none : InFront buffer [] buffer 0
  in_front_none = record { ends = refl; stands = refl }

  -- one cell more, stored at the next place
  pub in_front_one : (result now : List A) (next : ℕ) (value : A) → InFront buffer result now next → length result < length buffer
      → InFront buffer (result ++ (value ∷ [])) (set now next value) (next + 1)
  in_front_one result now next value before room =
      let longer : length (result ++ (value ∷ [])) ≡ length result + 1 = length-append result (value ∷ []) in
      record {
        ends = ap (λ (n : ℕ). n + 1) before.ends ∙ sym longer;
        stands = ap₂ (λ (ys : List A) (n : ℕ). set ys n value) before.stands before.ends
            ∙ ap (λ (ys : List A). set (result ++ ys) (length result) value) (drop-cons buffer (length result) value room)
            ∙ set-append_seam result (get_or buffer (length result) value) (drop (suc (length result)) buffer) value
            ∙ sym (append_snoc result value (drop (suc (length result)) buffer))
            ∙ ap (λ (n : ℕ). result ++ (value ∷ []) ++ drop n buffer) (sym (longer ∙ add-one (length result)));
      }

  pub in_front_length : (result now : List A) (next : ℕ) → InFront buffer result now next → length result ≤ length buffer → length now ≡ length buffer
  in_front_length result now next before fits =
      ap length before.stands ∙ length-append result (drop (length result) buffer)
      ∙ ap (λ (n : ℕ). length result + n) (length-drop (length result) buffer) ∙ add-sub_of_le fits

  -- the whole result is delivered
  pub in_front_delivered : (result now : List A) (next : ℕ) → InFront buffer result now next → length result ≤ length buffer
      → outcome (Ok next) now ≡ delivered (Ok tt) result buffer
  in_front_delivered result now next whole fits =
      ap₂ (λ (n : ℕ) (b : List A). outcome (Ok n) b) whole.ends whole.stands
      ∙ settled_given _ Err buffer _ (room_enough (length result) (length buffer) fits)

  -- a result that does not fit is not delivered
  pub short_delivered : (result : List A) → length buffer < length result → outcome (Err (at ShortBuffer (length result))) buffer ≡ delivered (Ok tt) result buffer
  short_delivered result short = settled_refused _ Err buffer _ (room_short (length result) (length buffer) short)
