-- What stands at bytes from a position on: something, with the position after it, or a refusal. Places are counted in the whole input.
use Rattle.std.specs.Prelude.{Result, cond, List, ℕ, ltb, length, Ok, Err}
use Rattle.answer.specs.declared.Reason.TheVariants.{BytesLeft}
use Rattle.answer.specs.Outcome.{at, Verdict}
use Rattle.answer.specs.declared.Refusal.{Refusal}
use Rattle.codec.specs.declared.Standing.{Standing}

pub data Read (A : Type 0) : Type 0 where
  found : A → ℕ → Read A
  refused : Refusal → Read A

-- what is found decides what is read after it
abbrev pub then : {A B : Type 0} → Read A → (A → ℕ → Read B) → Read B
then (found value next) later = later value next
then (refused refusal) later = refused refusal

-- a verdict on what is read, before what comes later
abbrev pub unless : {A : Type 0} → Verdict → Read A → Read A
unless (Err refusal) later = refused refusal
unless (Ok _) later = later

-- 25 at the first byte that is left
abbrev pub alone : {A : Type 0} → List ℕ → A → ℕ → Read A
alone bytes value next = cond (ltb next (length bytes)) (refused (at BytesLeft next)) (found value next)

-- How what is read is answered: its value and the position after it, or the refusal.
abbrev pub Reading : Type 0 → Type 0
Reading A = Result (Standing A) Refusal

abbrev pub answered : {A : Type 0} → A → ℕ → Reading A
answered value next = Ok (record { value = value; next = next })

abbrev pub reading_of : {A : Type 0} → Read A → Reading A
reading_of (found value next) = answered value next
reading_of (refused refusal) = Err refusal
