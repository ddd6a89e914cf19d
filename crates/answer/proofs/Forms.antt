-- Bytes put one after the other from a position of a buffer on are all of them put there at once.
-- Assumes nothing.
use mathlib.Core.Path.{◌≡◌, sym, ap, ap₂, ◌∙◌, subst}
use mathlib.Core.List.{List, [], ◌++◌, append_assoc, append-nil}
use Prim.Native.Nat.{ℕ, ◌+◌, ◌≤◌}
use native.Mathlib.Nat.{add-zero, zero-add}
use native.Mathlib.Omega.{arith}
use lib.ListN.{length, take, drop, length-append, take-append-drop}
use lib.Seq.{length-take-le, take-append_seam}
use Rattle.answer.proofs.Outcomes.{InFront, in_front_length}
use Rattle.answer.specs.Outcome.{Outcome, outcome}
use Rattle.answer.specs.Placed.{placed}
use Rattle.answer.proofs.Placing.{placed_fits, in_front_more}

-- where two forms fit, the first does
pub first_fits : (start : ℕ) (form more : List ℕ) (room : ℕ) → start + length (form ++ more) ≤ room → start + length form ≤ room
first_fits start form more room h = omega (arith, length-append form more)

module _ (buffer : List ℕ) (start : ℕ) where
  -- what stands before the position stands in front
  from_position : start ≤ length buffer → InFront buffer (take start buffer) buffer start
  from_position inside = record {
    ends = sym (length-take-le start buffer inside);
    stands = sym (ap (λ (k : ℕ). take start buffer ++ drop k buffer) (length-take-le start buffer inside) ∙ take-append-drop start buffer);
  }

  module _ (form : List ℕ) (fits : start + length form ≤ length buffer) where
    inside : start ≤ length buffer
    inside = omega arith

    -- a form that is put at the position stands behind what is before it
    long : length (take start buffer ++ form) ≡ start + length form
    long = length-append (take start buffer) form ∙ ap (λ (k : ℕ). k + length form) (length-take-le start buffer inside)

    front : (exit : List ℕ) (next : ℕ) → outcome next exit ≡ placed buffer start form → InFront buffer (take start buffer ++ form) exit next
    front exit next wrote = in_front_more (from_position inside) form exit next (omega (arith, long)) wrote

    back : (exit : List ℕ) (next : ℕ) → InFront buffer (take start buffer ++ form) exit next → outcome next exit ≡ placed buffer start form
    back exit next whole =
        ap₂ (λ (k : ℕ) (text : List ℕ). outcome k text) (whole.ends ∙ long) (whole.stands ∙ ap (λ (k : ℕ). take start buffer ++ form ++ drop k buffer) long)
        ∙ sym (placed_fits buffer start form fits)

    -- the position after it, and the length of the buffer
    pub placed_next : (exit : List ℕ) (next : ℕ) → outcome next exit ≡ placed buffer start form → next ≡ start + length form
    placed_next exit next wrote = (front exit next wrote).ends ∙ long

    pub placed_length : (exit : List ℕ) (next : ℕ) → outcome next exit ≡ placed buffer start form → length exit ≡ length buffer
    placed_length exit next wrote = in_front_length buffer (take start buffer ++ form) exit next (front exit next wrote) (omega (arith, long))

  -- one form more, put where the one before it ends
  pub placed_more : (form entry : List ℕ) (position : ℕ) (more exit : List ℕ) (next : ℕ) → start + length (form ++ more) ≤ length buffer
      → outcome position entry ≡ placed buffer start form → outcome next exit ≡ placed entry position more → outcome next exit ≡ placed buffer start (form ++ more)
  placed_more form entry position more exit next fits first second =
      let here = front form (first_fits start form more (length buffer) fits) entry position first in
      let whole : length (take start buffer ++ form ++ more) ≤ length buffer =
      omega (arith, length-append (take start buffer ++ form) more, long form (first_fits start form more (length buffer) fits), length-append form more) in
      let both : InFront buffer (take start buffer ++ form ++ more) exit next = in_front_more here more exit next whole second in
      back (form ++ more) fits exit next (rw append_assoc at both)

-- What was put from a position on so far: a form of at most so many bytes, for which there is room.
pub record Wrote (buffer : List ℕ) (start : ℕ) (form : List ℕ) (most : ℕ) (exit : List ℕ) (next : ℕ) : Type 0 where
  pub short : length form ≤ most
  pub room : start + most ≤ length buffer
  pub wrote : outcome next exit ≡ placed buffer start form

pub wrote_first : (buffer : List ℕ) (start : ℕ) (form : List ℕ) (most : ℕ) (exit : List ℕ) (next : ℕ) → length form ≤ most → start + most ≤ length buffer
    → outcome next exit ≡ placed buffer start form → Wrote buffer start form most exit next
wrote_first buffer start form most exit next short room e = record { short = short; room = room; wrote = e }

-- nothing yet
pub wrote_none : (buffer : List ℕ) (start : ℕ) → start ≤ length buffer → Wrote buffer start [] 0 buffer start
wrote_none buffer start inside = record {
  short = omega arith;
  room = omega arith;
  wrote = sym (placed_fits buffer start [] (omega arith)
      ∙ ap₂ (λ (k : ℕ) (text : List ℕ). outcome k text) (add-zero start)
      (ap₂ (λ (front : List ℕ) (k : ℕ). front ++ drop k buffer) (append-nil (take start buffer)) (add-zero start) ∙ take-append-drop start buffer));
}

module _ {buffer : List ℕ} {start : ℕ} {form : List ℕ} {most : ℕ} {entry : List ℕ} {position : ℕ} (before : Wrote buffer start form most entry position) where
  pub wrote_more : (more : List ℕ) (again : ℕ) (exit : List ℕ) (next : ℕ) → length more ≤ again → start + (most + again) ≤ length buffer
      → outcome next exit ≡ placed entry position more → Wrote buffer start (form ++ more) (most + again) exit next
  wrote_more more again exit next short room e =
      let both : length (form ++ more) ≤ most + again = omega (arith, length-append form more, before.short) in
      record {
        short = both;
        room = room;
        wrote = placed_more buffer start form entry position more exit next (omega arith) before.wrote e;
      }

  pub wrote_same : (other : List ℕ) → form ≡ other → Wrote buffer start other most entry position
  wrote_same other e = subst (λ (text : List ℕ). Wrote buffer start text most entry position) e before

  pub wrote_most : (other : ℕ) → most ≤ other → start + other ≤ length buffer → Wrote buffer start form other entry position
  wrote_most other h room = record { short = omega (arith, before.short); room = room; wrote = before.wrote }

  pub wrote_fits : start + length form ≤ length buffer
  wrote_fits = omega (arith, before.short, before.room)

  -- the position after it, and the length of the buffer
  pub wrote_next : position ≡ start + length form
  wrote_next = placed_next buffer start form wrote_fits entry position before.wrote

  pub wrote_length : length entry ≡ length buffer
  wrote_length = placed_length buffer start form wrote_fits entry position before.wrote

  -- there is room for so many bytes more behind it
  pub wrote_room : (again : ℕ) → start + (most + again) ≤ length buffer → position + again ≤ length entry
  wrote_room again room = omega (arith, wrote_next, wrote_length, before.short)

-- what was put in front of a buffer is all that its first bytes are
module _ {buffer form : List ℕ} {most : ℕ} {exit : List ℕ} {next : ℕ} (whole : Wrote buffer 0 form most exit next) where
  pub wrote_front : take next exit ≡ form
  wrote_front =
      let all : outcome next exit ≡ outcome (0 + length form) (form ++ drop (0 + length form) buffer) = whole.wrote ∙ placed_fits buffer 0 form (wrote_fits whole) in
      ap₂ (λ (k : ℕ) (text : List ℕ). take k text) (ap (λ (l : Outcome ℕ (List ℕ)). l.answer) all ∙ zero-add (length form)) (ap (λ (l : Outcome ℕ (List ℕ)). l.buffer) all)
      ∙ take-append_seam form (drop (0 + length form) buffer)

  pub wrote_inside : next ≤ length exit
  wrote_inside = omega (arith, wrote_next whole, wrote_length whole, wrote_fits whole)
