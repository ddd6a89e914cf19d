-- What the private functions answer on the way to a record's contents: a reader of the promises may pass this file over.
use Rattle.std.specs.Prelude.{Bool, not, List, [], ◌∷◌, ◌++◌, ℕ, zero, suc, leb, length, Ok, Err}
use Rattle.answer.specs.declared.Reason.TheVariants.{WrongSet}
use Rattle.answer.specs.Outcome.{refuse, Verdict}
use Rattle.answer.specs.Checks.{mask_refusal}
use Rattle.codec.specs.declared.Field.TheVariants.{Set}
use Rattle.codec.specs.Reads.{Read, found, refused}
use Rattle.codec.specs.Reading.{number_at}
use Rattle.codec.specs.FieldReads.{field_at}
use Rattle.structure_words.specs.Words.{words_of, among}
use Rattle.record.specs.declared.Marked.{Marked}
use Rattle.record.specs.declared.SetsRead.{SetsRead}
use Rattle.record.specs.Contents.{structure_words}
use Rattle.record_head.specs.Headings.{last_number}

-- sets of n parts with the words of their structure and where they end, or a refusal
abbrev pub sets_read_of : ℕ → Read (List ℕ) → SetsRead
sets_read_of n (found sets end) = record { words = structure_words n sets; end = end; verdict = (Ok tt) }
sets_read_of n (refused refusal) = record { words = structure_words 0 []; end = 0; verdict = Err refusal }

-- ---- the two passes over the sets

-- a set without the question whether it holds an earlier one: 4, 5, and 24 where it is not above the one before it
abbrev pub rising_refusal : ℕ → ℕ → ℕ → ℕ → Verdict
rising_refusal n previous place set = mask_refusal n place set (refuse (leb set previous) WrongSet place (Ok tt))

-- the first pass: the sets up to the first that is refused by this, the position after them, and that refusal
pub record Pass : Type 0 where
  pub sets : List ℕ
  pub next : ℕ
  pub verdict : Verdict

abbrev pub passed : List ℕ → ℕ → Verdict → Pass
passed sets next verdict = record { sets = sets; next = next; verdict = verdict }

abbrev pub pass_on : List ℕ → ℕ → Read ℕ → (ℕ → ℕ → Pass) → Pass
pass_on earlier start (found set next) later = later set next
pass_on earlier start (refused refusal) later = passed earlier start (Err refusal)

unfoldable pub rising_at : List ℕ → ℕ → ℕ → List ℕ → ℕ → Pass
rising_at bytes n zero earlier start = passed earlier start (Ok tt)
rising_at bytes n (suc more) earlier start =
    pass_on earlier start (field_at bytes start Set (rising_refusal n (last_number 0 earlier) start)) (λ set next.
    rising_at bytes n more (earlier ++ (set ∷ [])) next)

-- the sets of a pass, marked
abbrev pub marked_of : Pass → Marked
marked_of pass = record { words = words_of (among pass.sets); read = length pass.sets; next = pass.next; verdict = pass.verdict }

-- the second pass: 24 at the first of so many sets that is none of those given
abbrev pub nested_on : (ℕ → Bool) → ℕ → Read ℕ → (ℕ → Verdict) → Verdict
nested_on kept start (found set next) later = refuse (not (kept set)) WrongSet start (later next)
nested_on kept start (refused refusal) later = (Ok tt)

unfoldable pub nested_at : List ℕ → (ℕ → Bool) → ℕ → ℕ → Verdict
nested_at bytes kept zero start = (Ok tt)
nested_at bytes kept (suc more) start = nested_on kept start (number_at bytes start Set) (λ next. nested_at bytes kept more next)

-- both passes together
abbrev pub decided : Verdict → Pass → Read (List ℕ)
decided (Err refusal) pass = refused refusal
decided (Ok _) pass = pass_end pass.verdict
  where
    pass_end : Verdict → Read (List ℕ)
    pass_end (Err refusal) = refused refusal
    pass_end (Ok _) = found pass.sets pass.next
