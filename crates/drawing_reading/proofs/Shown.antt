-- What the number at a position tells of the bytes there, and a line along a walk over its numbers: the keyword and the numbers passed stand
-- in front, and what may stand behind them if the line is of the form.
-- Assumes nothing.
use mathlib.Core.Path.{◌≡◌, refl, sym, ap, ap₂, ◌∙◌, subst}
use mathlib.Core.Bool.{Bool, true, false}
use mathlib.Core.List.{List, [], ◌∷◌, ◌++◌, append_cancel_left}
use mathlib.Core.Logic.{◌⊎◌, inl, inr}
use Prim.Native.Nat.{ℕ, ◌+◌, ◌≤◌, ◌<◌}
use native.Mathlib.Nat.{add-zero}
use native.Mathlib.Numerals.{add-one}
use native.Mathlib.Omega.{arith}
use lib.ListN.{length, get_or, take, drop, length-append, length-take, length-drop, get_or-eq_default, take-append-drop}
use lib.Seq.{drop-cons, drop-drop, drop-append_seam, take-append_seam, get_or-drop}
use Rattle.std.specs.Prelude.{None}
use Rattle.numbers.proofs.Bools.{clash}
use Rattle.numbers.proofs.Bounds.{below_or_above}
use Rattle.text.specs.Texts.{decimal}
use Rattle.drawing_text.specs.Lines.{line_feed}
use Rattle.drawing_text.specs.Forms.{space, digit, value_from, same_bytes, spaced}
use Rattle.drawing_text.proofs.Numerals.{Digits, NoDigit, decimal_digits, decimal_value, run_same}
use Rattle.drawing_text.proofs.Forms.{same_bytes_lem, bytes_same, spaced_more, Behind, spaced_behind}
use Rattle.codec.specs.declared.Standing.{Standing}
use Rattle.drawing_reading.specs.Inside.{digits_in, held, pick_numeral, numeral_at, numeral}

-- ---- one byte

-- a byte that is not 0 stands inside the text
pub byte_here : (text : List ℕ) (i byte : ℕ) → 0 < byte → get_or text i 0 ≡ byte → (i < length text) × (drop i text ≡ byte ∷ drop (i + 1) text)
byte_here text i byte some e = cases (below_or_above i (length text))
  where
    cases : (i < length text) ⊎ (length text ≤ i) → (i < length text) × (drop i text ≡ byte ∷ drop (i + 1) text)
    cases (inl low) = (low, drop-cons text i 0 low ∙ ap₂ (λ (b k : ℕ). b ∷ drop k text) e (sym (add-one i)))
    cases (inr high) = absurd (omega (arith, get_or-eq_default text 0 high, e, some))

-- the byte in front of what stands at a position
pub front_byte : (text : List ℕ) (i byte : ℕ) (rest : List ℕ) → drop i text ≡ byte ∷ rest → get_or text i 0 ≡ byte
front_byte text i byte rest e =
    ap (λ (k : ℕ). get_or text k 0) (sym (add-zero i)) ∙ sym (get_or-drop i text 0 0) ∙ ap (λ (l : List ℕ). get_or l 0 0) e

-- and what stands behind it
pub front_rest : (text : List ℕ) (i byte : ℕ) (rest : List ℕ) → drop i text ≡ byte ∷ rest → drop (i + 1) text ≡ rest
front_rest text i byte rest e = sym (drop-drop 1 i text) ∙ ap (drop 1) e

-- ---- the number at a position

-- the digits in front of some bytes, and what stands behind them
record Split (bytes : List ℕ) : Type 0 where
  rest : List ℕ
  whole : bytes ≡ digits_in bytes ++ rest
  digits : Digits (digits_in bytes)
  behind : NoDigit rest

split : (bytes : List ℕ) → Split bytes
unfolding digits_in
split [] = record { rest = []; whole = refl; digits = tt; behind = tt }
split (byte ∷ bytes) = cases (digit byte) refl (split bytes)
  where
    cases : (t : Bool) → digit byte ≡ t → Split bytes → Split (byte ∷ bytes)
    cases true is s =
        let same : digits_in (byte ∷ bytes) ≡ byte ∷ digits_in bytes = rw (is, digits_in) in
        record {
          rest = s.rest;
          whole = ap (λ (l : List ℕ). byte ∷ l) s.whole ∙ ap (λ (l : List ℕ). l ++ s.rest) (sym same);
          digits = subst Digits (sym same) (is, s.digits);
          behind = s.behind;
        }
    cases false is s =
        let same : digits_in (byte ∷ bytes) ≡ [] = rw (is, digits_in) in
        record {
          rest = byte ∷ bytes;
          whole = ap (λ (l : List ℕ). l ++ byte ∷ bytes) (sym same);
          digits = subst Digits (sym same) tt;
          behind = is;
        }

-- a number that was read: it stands there in decimal, and no digit behind it
pub record NumeralRead (text : List ℕ) (start value next : ℕ) : Type 0 where
  pub number : ℕ
  pub stands : drop start text ≡ decimal number ++ drop next text
  pub behind : NoDigit (drop next text)
  pub holds : value ≡ held number
  pub ends : next ≡ start + length (decimal number)

module _ (text : List ℕ) (start : ℕ) where
  abbrev bytes : List ℕ
  bytes = drop start text

  abbrev run : List ℕ
  run = digits_in bytes

  pub numeral_read : (value next : ℕ) → numeral value next ≡ numeral_at bytes start → NumeralRead text start value next
  unfolding numeral_at
  numeral_read value next e = cases (same_bytes run (decimal (value_from 0 run))) refl
    where
      cases : (t : Bool) → same_bytes run (decimal (value_from 0 run)) ≡ t → NumeralRead text start value next
      cases true h =
          let s = split bytes in
          let same : run ≡ decimal (value_from 0 run) = same_bytes_lem run (decimal (value_from 0 run)) h in
          let given : numeral value next ≡ numeral (held (value_from 0 run)) (start + length run) =
          e ∙ ap (λ (t : Bool). pick_numeral t (numeral (held (value_from 0 run)) (start + length run))) h in
          let both : record { value = value; next = next } ≡ record { value = held (value_from 0 run); next = start + length run } = cc given in
          let holds : value ≡ held (value_from 0 run) = ap (λ (x : Standing ℕ). x.value) both in
          let ends : next ≡ start + length run = ap (λ (x : Standing ℕ). x.next) both in
          let rest : drop next text ≡ s.rest =
          ap (λ (k : ℕ). drop k text) ends ∙ sym (drop-drop (length run) start text) ∙ ap (drop (length run)) s.whole ∙ drop-append_seam run s.rest in
          record {
            number = value_from 0 run;
            stands = s.whole ∙ ap₂ (λ (d r : List ℕ). d ++ r) same (sym rest);
            behind = subst NoDigit (sym rest) s.behind;
            holds = holds;
            ends = ends ∙ ap (λ (l : List ℕ). start + length l) same;
          }
      cases false h =
          let given : numeral value next ≡ None = e ∙ ap (λ (t : Bool). pick_numeral t (numeral (held (value_from 0 run)) (start + length run))) h in
          let z : ◌≡◌ {A = ℕ} 0 1 = cc in
          absurd (omega arith)

  -- where none was read, no number stands there
  pub numeral_missing : None ≡ numeral_at bytes start → (number : ℕ) (rest : List ℕ) → NoDigit rest → bytes ≡ decimal number ++ rest → ⊥
  unfolding numeral_at
  numeral_missing e number rest behind whole =
      let s = split bytes in
      let same : run ≡ decimal number =
      (run_same run (decimal number) s.rest rest s.digits (decimal_digits number) s.behind behind (sym s.whole ∙ whole)).0 in
      let value : value_from 0 run ≡ number = ap (value_from 0) same ∙ decimal_value number in
      let passes : same_bytes run (decimal (value_from 0 run)) ≡ true =
      subst (λ (l : List ℕ). same_bytes run l ≡ true) (same ∙ ap decimal (sym value)) (bytes_same run) in
      let given : None ≡ numeral (held (value_from 0 run)) (start + length run) =
      e ∙ ap (λ (t : Bool). pick_numeral t (numeral (held (value_from 0 run)) (start + length run))) passes in
      let z : ◌≡◌ {A = ℕ} 0 1 = cc in
      omega arith

-- ---- a line so far

-- the keyword and these numbers stand from a start to a position, and no digit behind the last of them
pub record Shown (word text : List ℕ) (start next : ℕ) (numbers : List ℕ) : Type 0 where
  pub stands : drop start text ≡ word ++ (spaced numbers ++ drop next text)
  pub behind : 1 ≤ length numbers → NoDigit (drop next text)
  pub ends : next ≡ start + (length word + length (spaced numbers))

module _ (word text : List ℕ) (start : ℕ) where
  pub shown_none : same_bytes (take (length word) (drop start text)) word ≡ true → Shown word text start (start + length word) []
  unfolding spaced
  shown_none h =
      record {
        stands = sym (take-append-drop (length word) (drop start text))
            ∙ ap₂ (λ (a b : List ℕ). a ++ b) (same_bytes_lem (take (length word) (drop start text)) word h) (drop-drop (length word) start text);
        behind = λ none. absurd (omega arith);
        ends = omega arith;
      }

  -- a keyword that stands there stands inside the text
  pub keyword_inside : same_bytes (take (length word) (drop start text)) word ≡ true → 1 ≤ length word → start + length word ≤ length text
  keyword_inside h some =
      omega (arith, some, ap length (same_bytes_lem (take (length word) (drop start text)) word h), length-take (length word) (drop start text), length-drop start text)

  -- where the keyword does not stand, no line of it does
  pub keyword_missing : same_bytes (take (length word) (drop start text)) word ≡ false → (rest : List ℕ) → drop start text ≡ word ++ rest → ⊥
  keyword_missing h rest e =
      clash {p = same_bytes (take (length word) (drop start text)) word}
      (subst (λ (l : List ℕ). same_bytes l word ≡ true) (sym (ap (take (length word)) e ∙ take-append_seam word rest)) (bytes_same word)) h

  module _ {next : ℕ} {numbers : List ℕ} (s : Shown word text start next numbers) where
    -- a space and a number more
    pub shown_more : get_or text next 0 ≡ space → (value after : ℕ) (r : NumeralRead text (next + 1) value after) → Shown word text start after (numbers ++ (r.number ∷ []))
    shown_more e value after r =
        let byte = (byte_here text next space (omega arith) e).1 in
        let whole : spaced (numbers ++ (r.number ∷ [])) ++ drop after text ≡ spaced numbers ++ drop next text =
        spaced_more numbers r.number (drop after text) ∙ ap (λ (l : List ℕ). spaced numbers ++ l) (sym (byte ∙ ap (λ (l : List ℕ). space ∷ l) r.stands)) in
        record {
          stands = s.stands ∙ ap (λ (l : List ℕ). word ++ l) (sym whole);
          behind = λ some. r.behind;
          ends = counted r.number r.ends (ap length (spaced_more numbers r.number []));
        }
      where
        counted : (number : ℕ) → after ≡ next + 1 + length (decimal number)
            → length (spaced (numbers ++ (number ∷ [])) ++ []) ≡ length (spaced numbers ++ (space ∷ (decimal number ++ [])))
            → after ≡ start + (length word + length (spaced (numbers ++ (number ∷ []))))
        counted number ends e =
            omega (arith, ends, s.ends, e, length-append (spaced (numbers ++ (number ∷ []))) [], length-append (spaced numbers) (space ∷ (decimal number ++ [])), length-append (decimal number) [])

    -- what may stand behind them on a line of the keyword
    pub shown_behind : (all more : List ℕ) → drop start text ≡ word ++ (spaced all ++ line_feed ∷ more) → Behind numbers all (drop next text) more
    shown_behind all more e =
        spaced_behind numbers all (drop next text) more s.behind
        (append_cancel_left word (spaced numbers ++ drop next text) (spaced all ++ line_feed ∷ more) (sym s.stands ∙ e))
