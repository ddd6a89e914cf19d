-- What a call answers and what it leaves in the buffers lent to it, on every input.
use Rattle.std.specs.Prelude.{Bool, true, false, List, ◌++◌, ℕ, ltb, length, drop, Result, Ok, Err}
use Rattle.answer.specs.declared.Reason.{Reason}
use Rattle.answer.specs.declared.Reason.TheVariants.{ShortBuffer}
use Rattle.answer.specs.declared.Refusal.{Refusal}

-- the answer of a call that only judges: nothing refuses, or a refusal
abbrev pub Verdict : Type 0
Verdict = Result (Unit {0}) Refusal

-- the answer of a call that gives a number, or the length that it wrote: the number, or a refusal
abbrev pub Numbered : Type 0
Numbered = Result ℕ Refusal

-- a refusal by its reason and place
abbrev pub at : Reason → ℕ → Refusal
at reason place = record { reason = reason; place = place }

-- One check of 01's table: where its condition holds it refuses for its reason at its place, and else what comes later decides.
-- A chain of these is the order of checks.
abbrev pub refuse : Bool → Reason → ℕ → Verdict → Verdict
refuse true reason place later = Err (at reason place)
refuse false reason place later = later

-- a verdict, and where it accepts a later one
abbrev pub and_then : Verdict → Verdict → Verdict
and_then (Err r) later = Err r
and_then (Ok _) later = later

-- 11 where the length lent is shorter than needed, with the length needed
abbrev pub room : ℕ → ℕ → Verdict
room needed lent = refuse (ltb lent needed) ShortBuffer needed (Ok tt)

-- a result in front of a buffer, and the rest as it was
abbrev pub front : {A : Type 0} → List A → List A → List A
front result buffer = result ++ drop (length result) buffer

-- what a call leaves behind: its answer, and the lent buffer afterwards, or the record of the lent buffers
pub record Outcome (A B : Type 0) : Type 0 where
  pub answer : A
  pub buffer : B

abbrev pub outcome : {A B : Type 0} → A → B → Outcome A B
outcome answer buffer = record { answer = answer; buffer = buffer }

-- the same with its answer told in another form
abbrev pub retold : {A B C : Type 0} → (A → C) → Outcome A B → Outcome C B
retold form o = outcome (form o.answer) o.buffer

-- What a call leaves once all its checks are made. Refused: the refusal as its answer, and the buffers as they were. Accepted: what is given.
abbrev pub settled : {A B : Type 0} → Verdict → (Refusal → A) → B → Outcome A B → Outcome A B
settled (Err r) refusing buffer given = outcome (refusing r) buffer
settled (Ok _) refusing buffer given = given

-- A result for a lent buffer: 11 is asked after all else, and what is given is the result in front, with its length as the answer.
abbrev pub delivered : {A : Type 0} → Verdict → List A → List A → Outcome Numbered (List A)
delivered refusal result buffer =
    settled (and_then refusal (room (length result) (length buffer))) Err buffer (outcome (Ok (length result)) (front result buffer))

-- The answer of a call that gives a number and lends no buffer: the refusal, or the number.
abbrev pub valued : Verdict → ℕ → Numbered
valued (Err r) number = Err r
valued (Ok _) number = Ok number
