-- The lines of the report, put from their parts, and how long each is at the most.
-- Assumes nothing.
use mathlib.Core.Path.{◌≡◌, refl}
use mathlib.Core.List.{List, ◌++◌, append_assoc}
use Prim.Native.Nat.{ℕ, ◌+◌, ◌≤◌}
use native.Mathlib.Omega.{arith}
use lib.ListN.{length, length-append}
use mir.Syntax.{w64}
use mir.Val.{Fits}
use Rattle.answer.specs.Outcome.{at, outcome}
use Rattle.answer.specs.Placed.{placed}
use Rattle.text.specs.Texts.{ascii, decimal}
use Rattle.text.proofs.Decimals.{decimal_few}
use Rattle.report_lines.specs.Lines.{head_line, rest_of_line, refused_line}
use Rattle.answer.proofs.Forms.{Wrote, placed_more, wrote_first, wrote_more}

-- ---- a word and a number

module _ (word : List ℕ) (number : ℕ) (fits : Fits w64 number) where
  number_few : length (word ++ decimal number) ≤ length word + 20
  number_few = omega (arith, length-append word (decimal number), decimal_few number fits)

  -- the number is put behind the word
  pub number_put : (line : List ℕ) (start : ℕ) → start + (length word + 20) ≤ length line → (entry exit : List ℕ) (position next : ℕ)
      → outcome position entry ≡ placed line start word → outcome next exit ≡ placed entry position (decimal number)
      → outcome next exit ≡ placed line start (word ++ decimal number)
  number_put line start room entry exit position next = placed_more line start word entry position (decimal number) exit next (omega (arith, number_few))

  -- both at the start of a line, and behind what was put
  pub number_first : (line exit : List ℕ) (next : ℕ) → length word + 20 ≤ length line → outcome next exit ≡ placed line 0 (word ++ decimal number)
      → Wrote line 0 (word ++ decimal number) (length word + 20) exit next
  number_first line exit next room = wrote_first line 0 (word ++ decimal number) (length word + 20) exit next number_few (omega arith)

  pub number_more : {line form : List ℕ} {most : ℕ} {entry : List ℕ} {position : ℕ} → Wrote line 0 form most entry position → (exit : List ℕ) (next : ℕ)
      → most + (length word + 20) ≤ length line → outcome next exit ≡ placed entry position (word ++ decimal number)
      → Wrote line 0 (form ++ (word ++ decimal number)) (most + (length word + 20)) exit next
  number_more before exit next room = wrote_more before (word ++ decimal number) (length word + 20) exit next number_few (omega arith)

-- three words with their numbers, and the end of the line
pub numbers_joined : (a b c d e f g : List ℕ) → (a ++ b) ++ (c ++ d) ++ (e ++ f) ++ g ≡ a ++ (b ++ (c ++ (d ++ (e ++ (f ++ g)))))
numbers_joined a b c d e f g = simp append_assoc

-- ---- how long the lines are

pub head_few : (parts sets mark : ℕ) → Fits w64 parts → Fits w64 sets → Fits w64 mark → length (head_line parts sets mark) ≤ 79
unfolding head_line
head_few parts sets mark parts-fit sets-fit mark-fits =
    omega (
      arith,
      decimal_few parts parts-fit,
      decimal_few sets sets-fit,
      decimal_few mark mark-fits,
      length-append (decimal parts) (ascii " sets " ++ (decimal sets ++ (ascii " mark " ++ (decimal mark ++ ascii "\n")))),
      length-append (decimal sets) (ascii " mark " ++ (decimal mark ++ ascii "\n")),
      length-append (decimal mark) (ascii "\n"),
    )

pub rest_few : (number : ℕ) (figure : List ℕ) → Fits w64 number → length figure ≤ 21 → length (rest_of_line number figure) ≤ 44
unfolding rest_of_line
rest_few number figure fits few =
    omega (arith, few, decimal_few number fits, length-append (decimal number) (ascii " " ++ (figure ++ ascii "\n")), length-append figure (ascii "\n"))

-- the line of a refusal is its word and what ends the line
pub refused_parts : (number place : ℕ) → ascii "refused" ++ rest_of_line number (decimal place) ≡ refused_line number place
unfolding rest_of_line refused_line
refused_parts number place = refl
