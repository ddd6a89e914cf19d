-- Parts taken out of a record of either edition one after the other (02, §2 and §8): "singly in any order, each traced by its part number".
use Rattle.std.specs.Prelude.{List, [], ◌∷◌, map, ◌≡◌, ℕ, Ok, Err}
use Rattle.answer.specs.declared.Reason.TheVariants.{ShortBuffer}
use Rattle.answer.specs.Outcome.{at, Numbered, Verdict}
use Rattle.codec.specs.Reads.{Read, found, refused}
use Rattle.theory_orders.specs.Orders.{times}
use Rattle.record_parts.specs.PartLists.{numbers_of}
use Rattle.record_naming.specs.Naming.{position_of}
use Rattle.record.specs.Records.{Design}
use Rattle.record_editions.specs.Editions.{whole_record}
use Rattle.record_lines.specs.Changes.{take_out}
use Rattle.record_lines.specs.Lines.{Call, outcome_of, after}

-- ---- what calls come to

-- the verdict, and the record afterwards; where it is refused, the record that was read
pub record Result : Type 0 where
  pub verdict : Verdict
  pub bytes : List ℕ

abbrev pub verdict_of : Numbered → Verdict
verdict_of (Ok n) = (Ok tt)
verdict_of (Err refusal) = Err refusal

-- of one call
abbrev pub result_of : Call → List ℕ → Result
result_of call bytes = record { verdict = verdict_of (outcome_of call bytes).answer; bytes = after call bytes }

-- not refused by 11, for a buffer that is too short
abbrev pub NotShort : Result → Type 0
NotShort result = (needed : ℕ) → result.verdict ≡ Err (at ShortBuffer needed) → ⊥

-- ---- one part after the other

-- the position of the part with a number in the record that was read, from 1; 0 where no part in use has it
abbrev pub position_in : Read Design → ℕ → ℕ
position_in (found d next) number = position_of (numbers_of d.parts) number
position_in (refused refusal) number = 0

-- a part that is to leave, by its number, and the buffer lent for the record without it
pub record Leaving : Type 0 where
  pub number : ℕ
  pub buffer : List ℕ

-- the numbers of such parts, in the order in which they leave
abbrev pub leaving : List Leaving → List ℕ
leaving parts = map (λ part. part.number) parts

-- the call that takes a part out of the record of that moment
abbrev pub call_for : Leaving → List ℕ → Call
call_for part bytes = record { change = take_out (position_in (whole_record bytes) part.number); buffer = part.buffer }

-- the first refusal ends a series and is its outcome, with the record that it began with
abbrev pub ending : Verdict → List ℕ → Result → Result
ending (Err refusal) began later = record { verdict = Err refusal; bytes = began }
ending (Ok _) began later = later

-- parts taken out one after the other, in a series that began with the record `began`
abbrev pub series_from : List ℕ → List Leaving → List ℕ → Result
series_from began [] bytes = record { verdict = (Ok tt); bytes = bytes }
series_from began (part ∷ parts) bytes =
    ending (result_of (call_for part bytes) bytes).verdict began (series_from began parts (after (call_for part bytes) bytes))

abbrev pub series : List Leaving → List ℕ → Result
series parts bytes = series_from bytes parts bytes

-- ---- any order

-- the same numbers in some order: each stands as often in the one list as in the other
abbrev pub Reordered : List ℕ → List ℕ → Type 0
Reordered order numbers = (number : ℕ) → times number order ≡ times number numbers
