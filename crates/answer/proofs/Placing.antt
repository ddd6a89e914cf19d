-- Laws of bytes put at a position of a lent buffer: the two cases of the definition, and forms placed one after the other, each to where
-- the one before it ends, which make up one result in front of the buffer.
-- Assumes nothing.
use mathlib.Core.Path.{◌≡◌, sym, ap, ap₂, ◌∙◌}
use mathlib.Core.List.{List, ◌++◌}
use Prim.Native.Nat.{ℕ, ◌+◌, ◌≤◌, ◌<◌}
use native.Mathlib.Omega.{arith}
use borrow.Author.Tests.{le-leb, lt-leb}
use lib.ListN.{length, take, drop, length-append, length-drop}
use lib.Seq.{sets, sets-eq, take-append_seam, drop-append-add, drop-drop}
use Rattle.answer.proofs.Outcomes.{InFront}
use Rattle.answer.specs.Outcome.{Outcome, outcome}
use Rattle.answer.specs.Placed.{placed}

-- bytes that fit stand at the position, and all else is as it was
pub placed_fits : (buffer : List ℕ) (start : ℕ) (form : List ℕ) → start + length form ≤ length buffer → placed buffer start form ≡ outcome (start + length form) (take start buffer ++ form ++ drop (start + length form) buffer)
unfolding placed
placed_fits buffer start form h = simp (le-leb _ _ h)

-- bytes that do not fit leave the buffer and the position as they were
pub placed_short : (buffer : List ℕ) (start : ℕ) (form : List ℕ) → length buffer < start + length form → placed buffer start form ≡ outcome start buffer
unfolding placed
placed_short buffer start form h = simp (lt-leb _ _ h)

-- storing the bytes one by one places them
pub stored_placed : (buffer : List ℕ) (start : ℕ) (form : List ℕ) → start + length form ≤ length buffer → outcome (start + length form) (sets buffer start form) ≡ placed buffer start form
stored_placed buffer start form h = ap (outcome (start + length form)) (sets-eq form buffer start h) ∙ sym (placed_fits buffer start form h)

-- Bytes placed behind a result that stands in front of a buffer make, with that result, one longer result in front of it.
placed_behind : (buffer result form : List ℕ) → length (result ++ form) ≤ length buffer → placed (result ++ drop (length result) buffer) (length result) form ≡ outcome (length (result ++ form)) (result ++ form ++ drop (length (result ++ form)) buffer)
placed_behind buffer result form h =
    let n : length (result ++ form) ≡ length result + length form = length-append result form in
    let whole : length result + length form ≤ length (result ++ drop (length result) buffer) =
    simp (length-append, length-drop) (omega arith) in
    placed_fits (result ++ drop (length result) buffer) (length result) form whole
    ∙ simp (take-append_seam, drop-append-add, drop-drop, n)

-- one form more, placed at the next position
pub in_front_more : {buffer result entry : List ℕ} {start : ℕ} → InFront buffer result entry start → (form exit : List ℕ) (next : ℕ) → length (result ++ form) ≤ length buffer → outcome next exit ≡ placed entry start form → InFront buffer (result ++ form) exit next
in_front_more {buffer} {result} {entry} {start} before form exit next fits wrote =
    let all : outcome next exit ≡ outcome (length (result ++ form)) (result ++ form ++ drop (length (result ++ form)) buffer) =
    wrote ∙ ap₂ (λ (b : List ℕ) (s : ℕ). placed b s form) before.stands before.ends ∙ placed_behind buffer result form fits in
    record { ends = ap (λ (l : Outcome ℕ (List ℕ)). l.answer) all; stands = ap (λ (l : Outcome ℕ (List ℕ)). l.buffer) all }
