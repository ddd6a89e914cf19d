-- Checks of 01, "Where each refusal is found", that stand in several of its lists: the place is the caller's, and what comes later decides where
-- they accept.
use Rattle.std.specs.Prelude.{not, ◌&&◌, ℕ, ◌^◌, leb, eqb}
use Rattle.answer.specs.declared.Reason.TheVariants.{WrongPartCount, UnknownPart, EmptySet, EmptyGroup, UnknownGroupPart}
use Rattle.answer.specs.Outcome.{refuse, Verdict}

-- n, 1: not 1 to 16
abbrev pub part_count_refusal : ℕ → ℕ → Verdict → Verdict
part_count_refusal place n later = refuse (not (leb 1 n && leb n 16)) WrongPartCount place later

-- a set of n parts as a mask, 4: bit n or above; 5: mask 0
abbrev pub mask_refusal : ℕ → ℕ → ℕ → Verdict → Verdict
mask_refusal n place mask later = refuse (leb (2 ^ n) mask) UnknownPart place (refuse (eqb mask 0) EmptySet place later)

-- a group of the positions of n parts as a mask, 15: it is empty; 16: bit n or above
abbrev pub group_refusal : ℕ → ℕ → Verdict → Verdict
group_refusal n group later = refuse (eqb group 0) EmptyGroup 0 (refuse (leb (2 ^ n) group) UnknownGroupPart 0 later)
