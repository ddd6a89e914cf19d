-- The definitions at the numbers of 01 and at the edges of its refusals 21 and 22: they compute.
-- Assumes nothing.
use mathlib.Core.Path.{◌≡◌, refl}
use mathlib.Core.List.{[], ◌∷◌, ◌++◌}
use Prim.Native.Nat.{◌-◌, ◌^◌}
use lib.ListN.{replicate}
use Rattle.answer.specs.declared.Reason.TheVariants.{EndOfBytes, WrongNumber}
use Rattle.answer.specs.Outcome.{at}
use Rattle.codec.specs.declared.Field.TheVariants.{Count, PartNumber, Set, Sheet}
use Rattle.codec.specs.Reads.{found, refused}
use Rattle.codec.specs.ByteForm.{grouped, bytes_of}
use Rattle.codec.specs.Reading.{number_in, number_at}

-- 300 is AC 02
three_hundred : bytes_of 300 ≡ 0xAC ∷ 0x02 ∷ []
unfolding bytes_of grouped
three_hundred = refl

three_hundred_read : number_at (0x07 ∷ 0xAC ∷ 0x02 ∷ 0x09 ∷ []) 1 Set ≡ found 300 3
unfolding number_at number_in
three_hundred_read = refl

-- 80 00 is not shortest
two_for_zero : number_at (0x80 ∷ 0x00 ∷ []) 0 Count ≡ refused (at WrongNumber 0)
unfolding number_at number_in
two_for_zero = refl

-- a last group 0 behind four others
five_for_zero : number_at (0x01 ∷ replicate 4 0x80 ++ (0x00 ∷ [])) 1 Count ≡ refused (at WrongNumber 1)
unfolding number_at number_in
five_for_zero = refl

-- four bytes with bit 7, and the end
four_carried : number_at (0x01 ∷ replicate 4 0xFF) 1 Count ≡ refused (at EndOfBytes 5)
unfolding number_at number_in
four_carried = refl

-- five bytes with bit 7, and the end
five_carried : number_at (0x01 ∷ replicate 5 0xFF) 1 Count ≡ refused (at WrongNumber 1)
unfolding number_at number_in
five_carried = refl

-- the top value of a count and of a set, and one over it
count_top : number_at (replicate 4 0xFF ++ (0x0F ∷ 0x01 ∷ [])) 0 Count ≡ found (2 ^ 32 - 1) 5
unfolding number_at number_in
count_top = refl

count_over : number_at (replicate 4 0x80 ++ (0x10 ∷ [])) 0 Count ≡ refused (at WrongNumber 0)
unfolding number_at number_in
count_over = refl

set_top : number_at (replicate 4 0xFF ++ (0x0F ∷ [])) 0 Set ≡ found (2 ^ 32 - 1) 5
unfolding number_at number_in
set_top = refl

set_over : number_at (replicate 4 0x80 ++ (0x10 ∷ [])) 0 Set ≡ refused (at WrongNumber 0)
unfolding number_at number_in
set_over = refl

-- a part number goes on where a count ends
part_number_on : number_at (0x01 ∷ replicate 4 0x80 ++ (0x10 ∷ 0x01 ∷ [])) 1 PartNumber ≡ found (2 ^ 32) 6
unfolding number_at number_in
part_number_on = refl

-- its top value, and one over it
part_number_top : number_at (0x01 ∷ replicate 6 0xFF ++ (0x3F ∷ 0x01 ∷ [])) 1 PartNumber ≡ found (2 ^ 48 - 1) 8
unfolding number_at number_in
part_number_top = refl

part_number_over : number_at (0x01 ∷ replicate 6 0x80 ++ (0x40 ∷ 0x01 ∷ [])) 1 PartNumber ≡ refused (at WrongNumber 1)
unfolding number_at number_in
part_number_over = refl

-- six bytes with bit 7 and the end, and seven
six_carried : number_at (0x01 ∷ replicate 6 0xFF) 1 PartNumber ≡ refused (at EndOfBytes 7)
unfolding number_at number_in
six_carried = refl

seven_carried : number_at (0x01 ∷ replicate 7 0xFF) 1 PartNumber ≡ refused (at WrongNumber 1)
unfolding number_at number_in
seven_carried = refl

-- the top value of a sheet, and its eight and nine bytes with bit 7
sheet_top : number_at (replicate 8 0xFF ++ (0x7F ∷ [])) 0 Sheet ≡ found (2 ^ 63 - 1) 9
unfolding number_at number_in
sheet_top = refl

eight_carried : number_at (replicate 8 0xFF) 0 Sheet ≡ refused (at EndOfBytes 8)
unfolding number_at number_in
eight_carried = refl

nine_carried : number_at (replicate 9 0xFF) 0 Sheet ≡ refused (at WrongNumber 0)
unfolding number_at number_in
nine_carried = refl

-- a position past the input
past_the_end : number_at (0x01 ∷ []) 4 Sheet ≡ refused (at EndOfBytes 1)
unfolding number_at number_in
past_the_end = refl
