-- What was read of a line is what the line says: each way out of a walk along it, whether at its line feed or at a byte that fits no form.
-- Assumes nothing.
use mathlib.Core.Path.{◌≡◌, refl, sym, ap, ap₂, ◌∙◌}
use mathlib.Core.Bool.{Bool, false, not}
use mathlib.Core.List.{List, [], ◌∷◌, ◌++◌}
use Prim.Native.Nat.{ℕ, ◌+◌, ◌≤◌, ◌<◌}
use native.Mathlib.Omega.{arith}
use lib.ListN.{length, get_or, take, drop, length-append}
use Rattle.std.specs.Prelude.{None, Err}
use Rattle.answer.specs.declared.Reason.TheVariants.{UnknownPosition, WrongLine, RepeatedPosition}
use Rattle.text.specs.Texts.{decimal}
use Rattle.record_lines.specs.Changes.{every}
use Rattle.drawing_text.specs.Lines.{line_feed, first_line}
use Rattle.drawing_text.specs.Forms.{space, parts_word, set_word, same_bytes, spaced, line_of, numbers_in, is_parts_line, is_set_line}
use Rattle.record_lines.specs.Names.{repeated}
use Rattle.drawing_text.specs.Sets.{set_of, within}
use Rattle.drawing_text.specs.Drawings.{number_on}
use Rattle.drawing_text.proofs.Forms.{parts_line_numbers, set_line_numbers, parts_line_exactly, set_line_exactly, spaced_no_digit, Behind, the_end, another}
use Rattle.drawing_text.proofs.Lines.{line_shown, parts_line_first, set_line_first, no_parts_line, no_set_line}
use Rattle.drawing_reading.specs.declared.Gathered.{Gathered}
use Rattle.drawing_reading.specs.Inside.{held, pick_numeral, numeral_at, parts_at, refuse_line, gathered_line, set_line_of, numeral, line_read, Numeral, Line}
use Rattle.drawing_reading.proofs.Positions.{Gathers, gathers_line}
use Rattle.drawing_reading.proofs.Shown.{byte_here, front_byte, front_rest, numeral_missing, Shown, keyword_missing, shown_behind}

-- ---- a walk that cannot go on

-- behind the numbers passed stands what no line of the keyword with these numbers in front has there
module _ {word text : List ℕ} {start next : ℕ} {numbers : List ℕ} (s : Shown word text start next numbers) (all more : List ℕ) (e : drop start text ≡ word ++ (spaced all ++ line_feed ∷ more)) where
  -- a space without a number behind it
  pub no_number : get_or text next 0 ≡ space → None ≡ numeral_at (drop (next + 1) text) (next + 1) → ⊥
  no_number byte none = cases (shown_behind word text start s all more e)
    where
      cases : Behind numbers all (drop next text) more → ⊥
      cases (the_end whole rest) = omega (arith, byte, front_byte text next line_feed more rest)
      cases (another number later whole rest) =
          numeral_missing text (next + 1) none number (spaced later ++ line_feed ∷ more) (spaced_no_digit later more)
          (front_rest text next space (decimal number ++ (spaced later ++ line_feed ∷ more)) rest)

  -- no space: the line ends there
  pub no_space : (get_or text next 0 ≡ space → ⊥) → (all ≡ numbers) × (get_or text next 0 ≡ line_feed)
  no_space byte = cases (shown_behind word text start s all more e)
    where
      cases : Behind numbers all (drop next text) more → (all ≡ numbers) × (get_or text next 0 ≡ line_feed)
      cases (the_end whole rest) = (whole, front_byte text next line_feed more rest)
      cases (another number later whole rest) =
          absurd (byte (front_byte text next space (decimal number ++ (spaced later ++ line_feed ∷ more)) rest))

  -- no line feed: another number stands there
  pub no_end : (get_or text next 0 ≡ line_feed → ⊥) → length numbers < length all
  no_end byte = cases (shown_behind word text start s all more e)
    where
      cases : Behind numbers all (drop next text) more → length numbers < length all
      cases (the_end whole rest) = absurd (byte (front_byte text next line_feed more rest))
      cases (another number later whole rest) = omega (arith, ap length whole, length-append numbers (number ∷ later))

-- a walk that ends at a line feed has passed a whole line
whole_line : {word text : List ℕ} {start next : ℕ} {numbers : List ℕ} → Shown word text start next numbers → get_or text next 0 ≡ line_feed
    → drop start text ≡ line_of word numbers ++ drop (next + 1) text
whole_line {word} {text} {start} {next} {numbers} s byte =
    s.stands ∙ ap (λ (l : List ℕ). word ++ (spaced numbers ++ l)) (byte_here text next line_feed (omega arith) byte).1 ∙ sym (line_shown word numbers (drop (next + 1) text))

line_length : {word text : List ℕ} {start next : ℕ} {numbers : List ℕ} → Shown word text start next numbers → next + 1 ≡ start + length (line_of word numbers)
unfolding line_of
line_length {word} {text} {start} {next} {numbers} s =
    omega (arith, s.ends, length-append word (spaced numbers ++ (line_feed ∷ [])), length-append (spaced numbers) (line_feed ∷ []))

spaced_some : (number : ℕ) (numbers : List ℕ) → length (spaced (number ∷ numbers)) ≡ 0 → ⊥
unfolding spaced
spaced_some number numbers h = omega (arith, h)

spaced_none : (numbers : List ℕ) → numbers ≡ [] → length (spaced numbers) ≡ 0
unfolding spaced
spaced_none numbers e = ap (λ (l : List ℕ). length (spaced l)) e

-- ---- a set line

module _ (text : List ℕ) (start n : ℕ) where
  abbrev Says : Line → Type 0
  Says l = l ≡ set_line_of n (first_line (drop start text)) start

  -- no line of the form stands there
  no_line : ((all more : List ℕ) → 1 ≤ length all → drop start text ≡ set_word ++ (spaced all ++ line_feed ∷ more) → ⊥) → Says (Err WrongLine)
  no_line none =
      ap (λ (t : Bool). refuse_line (not t) WrongLine (rest (first_line (drop start text))))
      (sym (no_set_line (drop start text) (λ all more some e. none all more some (e ∙ line_shown set_word all more))))
    where
      rest : List ℕ → Line
      rest bytes =
          refuse_line (not (every (within n) (numbers_in bytes))) UnknownPosition
          (refuse_line (repeated (numbers_in bytes)) RepeatedPosition (line_read (set_of (numbers_in bytes)) (start + length bytes)))

  pub set_no_keyword : same_bytes (take (length set_word) (drop start text)) set_word ≡ false → Says (Err WrongLine)
  set_no_keyword h = no_line (λ all more some e. keyword_missing set_word text start h (spaced all ++ line_feed ∷ more) e)

  module _ {next : ℕ} {numbers : List ℕ} (s : Shown set_word text start next numbers) where
    pub set_no_number : get_or text next 0 ≡ space → None ≡ numeral_at (drop (next + 1) text) (next + 1) → Says (Err WrongLine)
    set_no_number byte none = no_line (λ all more some e. no_number s all more e byte none)

    -- the keyword alone
    pub set_no_position : next ≡ start + 3 → (get_or text next 0 ≡ space → ⊥) → Says (Err WrongLine)
    set_no_position h byte = no_line (λ all more some e. empty numbers all (omega (arith, h, s.ends)) some (no_space s all more e byte).0)
      where
        empty : (numbers all : List ℕ) → length (spaced numbers) ≡ 0 → 1 ≤ length all → all ≡ numbers → ⊥
        empty [] all h some e = omega (arith, ap length e, some)
        empty (number ∷ numbers) all h some e = spaced_some number numbers h

    pub set_no_end : (get_or text next 0 ≡ space → ⊥) → (get_or text next 0 ≡ line_feed → ⊥) → Says (Err WrongLine)
    set_no_end byte other = no_line (λ all more some e. other (no_space s all more e byte).1)

    pub set_read : n ≤ 16 → (next ≡ start + 3 → ⊥) → get_or text next 0 ≡ line_feed → {g : Gathered} → Gathers n numbers g → Says (gathered_line g (next + 1))
    set_read few some byte gathers =
        gathers_line few gathers (next + 1)
        ∙ ap₂ (λ (t : Bool) (positions : List ℕ).
        refuse_line (not t) WrongLine
        (refuse_line (not (every (within n) positions)) UnknownPosition (refuse_line (repeated positions) RepeatedPosition (line_read (set_of positions) (next + 1)))))
        (sym ((set_line_exactly (line_of set_word numbers)).1 (numbers, one numbers refl, refl))) (sym (set_line_numbers numbers))
        ∙ ap (λ (end : ℕ).
        refuse_line (not (is_set_line (line_of set_word numbers))) WrongLine
        (refuse_line (not (every (within n) (numbers_in (line_of set_word numbers)))) UnknownPosition
        (refuse_line (repeated (numbers_in (line_of set_word numbers))) RepeatedPosition (line_read (set_of (numbers_in (line_of set_word numbers))) end)))) (line_length s)
        ∙ ap (λ (bytes : List ℕ). set_line_of n bytes start) (sym (ap first_line (whole_line s byte) ∙ set_line_first numbers (drop (next + 1) text)))
      where
        one : (positions : List ℕ) → numbers ≡ positions → 1 ≤ length positions
        one [] e = absurd (some (omega (arith, s.ends, spaced_none numbers e)))
        one (position ∷ positions) e = omega arith

-- ---- the first line

module _ (text : List ℕ) where
  abbrev Gives : Numeral → Type 0
  Gives number = number ≡ parts_at text

  no_first_line : ((n : ℕ) (more : List ℕ) → drop 0 text ≡ parts_word ++ (spaced (n ∷ []) ++ line_feed ∷ more) → ⊥) → Gives None
  unfolding parts_at
  no_first_line none =
      ap (λ (t : Bool). pick_numeral t (numeral (held (number_on (first_line text))) (length (first_line text))))
      (sym (no_parts_line text (λ n more e. none n more (e ∙ line_shown parts_word (n ∷ []) more))))

  pub parts_no_keyword : same_bytes (take (length parts_word) (drop 0 text)) parts_word ≡ false → Gives None
  parts_no_keyword h = no_first_line (λ n more e. keyword_missing parts_word text 0 h (spaced (n ∷ []) ++ line_feed ∷ more) e)

  module _ {next : ℕ} (s : Shown parts_word text 0 next []) where
    pub parts_no_space : (get_or text next 0 ≡ space → ⊥) → Gives None
    parts_no_space byte = no_first_line (λ n more e. omega (arith, ap length (no_space s (n ∷ []) more e byte).0))

    pub parts_no_number : get_or text next 0 ≡ space → None ≡ numeral_at (drop (next + 1) text) (next + 1) → Gives None
    parts_no_number byte none = no_first_line (λ n more e. no_number s (n ∷ []) more e byte none)

  module _ {next number : ℕ} (s : Shown parts_word text 0 next (number ∷ [])) where
    pub parts_no_end : (get_or text next 0 ≡ line_feed → ⊥) → Gives None
    parts_no_end byte = no_first_line (λ n more e. omega (arith, no_end s (n ∷ []) more e byte))

    pub parts_read : (value : ℕ) → value ≡ held number → get_or text next 0 ≡ line_feed → Gives (numeral value (next + 1))
    unfolding parts_at
    parts_read value holds byte =
        let first : first_line text ≡ line_of parts_word (number ∷ []) = ap first_line (whole_line s byte) ∙ parts_line_first number (drop (next + 1) text) in
        let whole : next + 1 ≡ length (line_of parts_word (number ∷ [])) = omega (arith, line_length s) in
        ap₂ numeral (holds ∙ ap (λ (numbers : List ℕ). held (get_or numbers 0 0)) (sym (parts_line_numbers number))) whole
        ∙ ap (λ (t : Bool). pick_numeral t (numeral (held (number_on (line_of parts_word (number ∷ [])))) (length (line_of parts_word (number ∷ [])))))
        (sym ((parts_line_exactly (line_of parts_word (number ∷ []))).1 (number, refl)))
        ∙ ap (λ (bytes : List ℕ). pick_numeral (is_parts_line bytes) (numeral (held (number_on bytes)) (length bytes))) (sym first)
