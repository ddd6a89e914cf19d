-- The refusals of 01, "Where each refusal is found", and of 02, by their numbers; `Reason` says beside each what it refuses.
use Rattle.std.specs.Prelude.{ℕ}
use Rattle.answer.specs.declared.Reason.{Reason}
use Rattle.answer.specs.declared.Reason.TheVariants.{WrongPartCount, EmptyList, LongList, UnknownPart, EmptySet, WrongTableLength, UnusedBit, EmptySetWorks, FullSetFails, BrokenSet, ShortBuffer, WrongVectorLength, WrongPathCount, FallingProportion, EmptyGroup, UnknownGroupPart, UnknownPosition, InEverySet, FullMachine, NumbersSpent, EndOfBytes, WrongNumber, WrongPartNumber, WrongSet, BytesLeft, WrongKind, WrongLine, RepeatedPosition, WrongThreshold, WrongRetired, DifferentCount, RetiredPresent, ManyParts, TailSheet}

-- the number of a refusal
abbrev pub number_of : Reason → ℕ
number_of WrongPartCount = 1
number_of EmptyList = 2
number_of LongList = 3
number_of UnknownPart = 4
number_of EmptySet = 5
number_of WrongTableLength = 6
number_of UnusedBit = 7
number_of EmptySetWorks = 8
number_of FullSetFails = 9
number_of BrokenSet = 10
number_of ShortBuffer = 11
number_of WrongVectorLength = 12
number_of WrongPathCount = 13
number_of FallingProportion = 14
number_of EmptyGroup = 15
number_of UnknownGroupPart = 16
number_of UnknownPosition = 17
number_of InEverySet = 18
number_of FullMachine = 19
number_of NumbersSpent = 20
number_of EndOfBytes = 21
number_of WrongNumber = 22
number_of WrongPartNumber = 23
number_of WrongSet = 24
number_of BytesLeft = 25
number_of WrongKind = 26
number_of WrongLine = 27
number_of RepeatedPosition = 28
number_of WrongThreshold = 29
number_of WrongRetired = 30
number_of DifferentCount = 31
number_of RetiredPresent = 32
number_of ManyParts = 33
number_of TailSheet = 34
