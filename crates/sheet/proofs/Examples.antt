-- 01's sheets, those at the edges of its refusals, and tails as they are read and saved (02, §11), computed. Assumes nothing.
use mathlib.Core.Path.{◌≡◌, refl}
use mathlib.Core.List.{List, [], ◌∷◌, ◌++◌}
use lib.IntN.{ℤ, pos, negsuc}
use lib.ListN.{replicate}
use Rattle.std.specs.Prelude.{Err}
use Rattle.answer.specs.declared.Reason.TheVariants.{WrongPartCount, WrongPathCount, FallingProportion, EndOfBytes, WrongNumber, BytesLeft, WrongKind, TailSheet}
use Rattle.answer.specs.Outcome.{at, outcome, delivered}
use Rattle.numbers.specs.Counts.{factorial, choose}
use Rattle.numbers.specs.Tables.{tabulate}
use Rattle.theory_sums.specs.Sums.{sum_belowℤ}
use Rattle.theory_sets.specs.Masks.{any, those}
use Rattle.codec.specs.ByteForm.{grouped, bytes_of, forms_of}
use Rattle.codec.specs.Reads.{found, refused}
use Rattle.codec.specs.Reading.{number_in, number_at}
use Rattle.codec.specs.FieldReads.{field_at, fields_at}
use Rattle.theory_figures.specs.Figures.{tail, signature as signature_of}
use Rattle.vector_kind.specs.Kinds.{kind_of, kind_refusal}
use Rattle.vector_conversion.specs.Vectors.{scaled_count, unit_of, wrong_count, falls, path_counts_refusal, counts_refusal, vector_refusal, figure}
use Rattle.vector_kind.specs.declared.Kind.TheVariants.{PathCounts, Tail, Signature, Domination}
use Rattle.sheet.specs.Saving.{sheet_as, saved_sheet, tail_sheet_refusal}
use Rattle.sheet.specs.Sheets.{entry_bytes, sheet_bytes, sheet, entries_at, sheet_of}

empty : sheet_of [] ≡ refused (at EndOfBytes 0)
unfolding sheet_of field_at number_at number_in
empty = refl

-- 26 before n is read
no_kind : sheet_of (0x00 ∷ 0x80 ∷ 0x00 ∷ []) ≡ refused (at WrongKind 0)
unfolding sheet_of field_at number_at number_in
no_kind = refl

long_number : sheet_of (0x01 ∷ 0x80 ∷ 0x00 ∷ []) ≡ refused (at WrongNumber 1)
unfolding sheet_of field_at number_at number_in
long_number = refl

-- 1 is at place 0 although n stands at byte 1
parts : sheet_of (0x01 ∷ 0x11 ∷ []) ≡ refused (at WrongPartCount 0)
unfolding sheet_of field_at number_at number_in
parts = refl

-- 25 before 13
bytes_left_lem : sheet_of (0x01 ∷ 0x01 ∷ 0x00 ∷ 0x02 ∷ 0x07 ∷ []) ≡ refused (at BytesLeft 4)
unfolding sheet_of entries_at fields_at field_at number_at number_in kind_of
bytes_left_lem = refl

wrong_count_lem : sheet_of (0x01 ∷ 0x01 ∷ 0x00 ∷ 0x02 ∷ []) ≡ refused (at WrongPathCount 1)
unfolding sheet_of entries_at fields_at field_at number_at number_in kind_of factorial choose sum_belowℤ any those scaled_count unit_of wrong_count falls path_counts_refusal counts_refusal
wrong_count_lem = refl

falling : sheet_of (0x01 ∷ 0x03 ∷ 0x00 ∷ 0x03 ∷ 0x02 ∷ 0x01 ∷ []) ≡ refused (at FallingProportion 1)
unfolding sheet_of entries_at fields_at field_at number_at number_in kind_of factorial choose sum_belowℤ any those scaled_count unit_of wrong_count falls path_counts_refusal counts_refusal
falling = refl

short : sheet_of (0x01 ∷ 0x02 ∷ 0x00 ∷ 0x01 ∷ []) ≡ refused (at EndOfBytes 4)
unfolding sheet_of entries_at fields_at field_at number_at number_in kind_of
short = refl

signature : sheet_of (0x03 ∷ 0x02 ∷ 0x01 ∷ 0x01 ∷ []) ≡ found (sheet Signature 2 (pos 1 ∷ pos 1 ∷ [])) 4
unfolding sheet_of entries_at fields_at field_at number_at number_in kind_of factorial choose sum_belowℤ any those scaled_count unit_of wrong_count falls path_counts_refusal counts_refusal
signature = refl

domination : sheet_of (0x04 ∷ 0x02 ∷ 0x00 ∷ 0x04 ∷ 0x01 ∷ []) ≡ found (sheet Domination 2 (pos 0 ∷ pos 2 ∷ negsuc 0 ∷ [])) 5
unfolding sheet_of entries_at fields_at field_at number_at number_in kind_of factorial choose sum_belowℤ any those scaled_count unit_of wrong_count falls path_counts_refusal counts_refusal
domination = refl

domination_bytes : sheet_bytes Domination 2 (pos 0 ∷ pos 2 ∷ negsuc 0 ∷ []) ≡ 0x04 ∷ 0x02 ∷ 0x00 ∷ 0x04 ∷ 0x01 ∷ []
unfolding sheet_bytes entry_bytes forms_of bytes_of grouped
domination_bytes = refl

-- the largest number of a sheet is an entry far below 0
largest : sheet_of (0x04 ∷ 0x01 ∷ 0x00 ∷ replicate 8 0xFF ++ (0x7F ∷ [])) ≡ refused (at WrongPathCount 1)
unfolding sheet_of entries_at fields_at field_at number_at number_in kind_of factorial choose sum_belowℤ any those scaled_count unit_of wrong_count falls path_counts_refusal counts_refusal
largest = refl

-- ---- tails, which are read and no longer written (02, §11)

-- the bridge's tail
abbrev bridge_tail : List ℤ
bridge_tail = pos 120 ∷ pos 120 ∷ pos 96 ∷ pos 24 ∷ pos 0 ∷ pos 0 ∷ []

-- as a sheet of kind 2 it is read
bridge_read : sheet_of (0x02 ∷ 0x05 ∷ 0x78 ∷ 0x78 ∷ 0x60 ∷ 0x18 ∷ 0x00 ∷ 0x00 ∷ []) ≡ found (sheet Tail 5 bridge_tail) 8
unfolding sheet_of entries_at fields_at field_at number_at number_in kind_of factorial choose sum_belowℤ any those scaled_count unit_of wrong_count falls path_counts_refusal counts_refusal
bridge_read = refl

-- it is saved as the bridge's signature 0, 24, 72, 24, 0
bridge_saved : saved_sheet Tail 5 bridge_tail ≡ 0x03 ∷ 0x05 ∷ 0x00 ∷ 0x18 ∷ 0x48 ∷ 0x18 ∷ 0x00 ∷ []
unfolding sheet_bytes entry_bytes forms_of bytes_of grouped factorial choose tabulate sum_belowℤ scaled_count unit_of figure signature_of tail
bridge_saved = refl

-- and by name as its path counts 0, 0, 2, 8, 5, 1
bridge_as_counts : sheet_as PathCounts Tail 5 bridge_tail ≡ 0x01 ∷ 0x05 ∷ 0x00 ∷ 0x00 ∷ 0x02 ∷ 0x08 ∷ 0x05 ∷ 0x01 ∷ []
unfolding sheet_bytes entry_bytes forms_of bytes_of grouped factorial choose tabulate sum_belowℤ scaled_count unit_of figure
bridge_as_counts = refl

-- by name as a tail it is 34, whatever is wrong beside: here the vector's kind is 0, n is 0 and the buffer is empty
tail_by_name : delivered (tail_sheet_refusal 2 (kind_refusal 0 (kind_refusal 2 (vector_refusal (kind_of 0) 0 [])))) (sheet_as (kind_of 2) (kind_of 0) 0 []) []
    ≡ outcome (Err (at TailSheet 0)) []
tail_by_name = refl
