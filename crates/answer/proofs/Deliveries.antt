-- A result for a lent buffer: what a call delivers once its verdict and the cells it needs are known, and what an answer tells of the verdict
-- and of the buffer. Assumes nothing.
use mathlib.Core.Path.{◌≡◌, refl, sym, ap, ◌∙◌, subst}
use mathlib.Core.List.{List, ◌++◌}
use Prim.Native.Nat.{ℕ, ◌+◌, ◌≤◌, ◌<◌}
use native.Mathlib.Omega.{arith}
use lib.ListN.{length, take, drop, length-append}
use lib.Seq.{take-append_seam, drop-append_seam, drop-append-add, drop-drop}
use Rattle.std.specs.Prelude.{Ok, Err}
use Rattle.answer.specs.declared.Reason.TheVariants.{ShortBuffer}
use Rattle.answer.specs.Outcome.{at, and_then, room, Outcome, outcome, settled, delivered, Numbered, Verdict}
use Rattle.answer.specs.declared.Refusal.{Refusal}
use Rattle.answer.proofs.Outcomes.{then_accepted, then_passed, then_same, room_enough, room_accepted, settled_refused, settled_given, InFront, in_front_delivered, short_delivered}

module _ {A : Type 0} (judged : Verdict) (result buffer : List A) where
  -- ---- what is delivered

  pub refused_kept : (why : Refusal) → judged ≡ Err why → outcome (Err why) buffer ≡ delivered judged result buffer
  refused_kept why e = ap (λ (v : Verdict). delivered v result buffer) (sym e)

  module _ (accepted : judged ≡ Ok tt) (needed : ℕ) (long : needed ≡ length result) where
    pub delivered_short : length buffer < needed → outcome (Err (at ShortBuffer needed)) buffer ≡ delivered judged result buffer
    delivered_short short =
        ap (λ (k : ℕ). outcome (Err (at ShortBuffer k)) buffer) long
        ∙ short_delivered buffer result (subst (λ (k : ℕ). length buffer < k) long short)
        ∙ ap (λ (v : Verdict). delivered v result buffer) (sym accepted)

    pub delivered_whole : (now : List A) → now ≡ result ++ drop needed buffer → needed ≤ length buffer
        → outcome (Ok needed) now ≡ delivered judged result buffer
    delivered_whole now written fits =
        in_front_delivered buffer result now needed
        (record { ends = long; stands = written ∙ ap (λ (k : ℕ). result ++ drop k buffer) long })
        (subst (λ (k : ℕ). k ≤ length buffer) long fits)
        ∙ ap (λ (v : Verdict). delivered v result buffer) (sym accepted)

  -- where the number of cells needed is the result's length if nothing is refused before
  module _ (needed : ℕ) (long : judged ≡ Ok tt → needed ≡ length result) where
    checks : and_then judged (room (length result) (length buffer)) ≡ and_then judged (room needed (length buffer))
    checks = sym (then_same judged _ _ (λ h. ap (λ (k : ℕ). room k (length buffer)) (long h)))

    pub checked_refused : {why : Refusal} → and_then judged (room needed (length buffer)) ≡ Err why
        → outcome (Err why) buffer ≡ delivered judged result buffer
    checked_refused h = settled_refused _ Err buffer _ (checks ∙ h)

    pub checked_whole : and_then judged (room needed (length buffer)) ≡ Ok tt → (now : List A) → now ≡ result ++ drop needed buffer
        → outcome (Ok needed) now ≡ delivered judged result buffer
    checked_whole h now written =
        let accepted : judged ≡ Ok tt = (then_accepted judged _ h).0 in
        delivered_whole accepted needed (long accepted) now written (room_accepted needed (length buffer) (then_accepted judged _ h).1)

  -- ---- what an answer tells

  -- a length: nothing was refused, and all of the result stands in front of the buffer
  pub record Given (now : List A) (count : ℕ) : Type 0 where
    pub accepted : judged ≡ Ok tt
    pub counted : count ≡ length result
    pub stands : now ≡ result ++ drop (length result) buffer
    pub front : take count now ≡ result

  abbrev checked : Verdict
  checked = and_then judged (room (length result) (length buffer))

  abbrev whole : Outcome Numbered (List A)
  whole = outcome (Ok (length result)) (result ++ drop (length result) buffer)

  pub given : (now : List A) (count : ℕ) → outcome (Ok count) now ≡ delivered judged result buffer → Given now count
  given now count e = cases checked refl e
    where
      cases : (v : Verdict) → checked ≡ v → outcome (Ok count) now ≡ settled v Err buffer whole → Given now count
      cases (Err r) is said =
          let clash : ◌≡◌ {A = ℕ} 0 1 = cc (ap (λ (o : Outcome Numbered (List A)). o.answer) said) in absurd (omega arith)
      cases (Ok _) is said =
          let counted : count ≡ length result = cc (ap (λ (o : Outcome Numbered (List A)). o.answer) said) in
          let stands : now ≡ result ++ drop (length result) buffer = ap (λ (o : Outcome Numbered (List A)). o.buffer) said in
          record {
            accepted = (then_accepted judged _ is).0;
            counted = counted;
            stands = stands;
            front = rw (counted, stands) (take-append_seam result (drop (length result) buffer));
          }

  -- whatever the answer: where nothing is refused and the buffer is long enough, the result stands in front
  pub delivered_front : {answer : Numbered} {now : List A} → judged ≡ Ok tt → length result ≤ length buffer → outcome answer now ≡ delivered judged result buffer
      → now ≡ result ++ drop (length result) buffer
  delivered_front accepted fits e =
      ap (λ (o : Outcome Numbered (List A)). o.buffer)
      (e ∙ sym (settled_given checked Err buffer whole (then_passed _ accepted ∙ room_enough (length result) (length buffer) fits)))

  -- a refusal where the buffer is long enough: the verdict's own
  pub refused_by : (now : List A) (why : Refusal) → (judged ≡ Ok tt → length result ≤ length buffer) → outcome (Err why) now ≡ delivered judged result buffer
      → judged ≡ Err why
  refused_by now why fits e = cases judged refl
    where
      cases : (v : Verdict) → judged ≡ v → judged ≡ Err why
      cases (Err r) is =
          is ∙ cc (ap (λ (o : Outcome Numbered (List A)). o.answer) (e ∙ ap (λ (v : Verdict). delivered v result buffer) is))
      cases (Ok _) is =
          let all : outcome (Err why) now ≡ whole =
          e ∙ sym (settled_given checked Err buffer whole (then_passed _ is ∙ room_enough (length result) (length buffer) (fits is))) in
          let clash : ◌≡◌ {A = ℕ} 0 1 = cc (ap (λ (o : Outcome Numbered (List A)). o.answer) all) in absurd (omega arith)

-- ---- a result in front of a buffer, and a longer one

-- a result in front of a buffer stands in front of what is there now, too
pub in_front_now : {A : Type 0} {buffer result now : List A} {next : ℕ} → InFront buffer result now next → InFront now result now next
in_front_now {A} {buffer} {result} {now} {next} before = record {
  ends = before.ends;
  stands = before.stands ∙ ap (λ (l : List A). result ++ l) (sym (ap (drop (length result)) before.stands ∙ drop-append_seam result (drop (length result) buffer)));
}

-- what stands in front of that, and begins with the result, stands in front of the buffer
pub in_front_on : {A : Type 0} {buffer result middle now : List A} {start next : ℕ} → InFront buffer result middle start → (more : List A) → InFront middle (result ++ more) now next
    → InFront buffer (result ++ more) now next
in_front_on {A} {buffer} {result} {middle} {now} {start} {next} before more after =
    let long : length (result ++ more) ≡ length result + length more = length-append result more in
    let rest : drop (length (result ++ more)) middle ≡ drop (length (result ++ more)) buffer =
    ap (λ (k : ℕ). drop k middle) long ∙ ap (drop (length result + length more)) before.stands
    ∙ drop-append-add result (drop (length result) buffer) (length more) ∙ drop-drop (length more) (length result) buffer ∙ ap (λ (k : ℕ). drop k buffer) (sym long) in
    record { ends = after.ends; stands = after.stands ∙ ap (λ (l : List A). (result ++ more) ++ l) rest }
