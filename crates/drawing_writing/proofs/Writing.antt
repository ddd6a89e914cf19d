-- The pieces of a text placed one after the other, where there is room for all of them: the positions of a set, a line, the lines of all sets.
-- Assumes nothing.
use mathlib.Core.Path.{◌≡◌, refl, sym, ap, ◌∙◌, subst}
use mathlib.Core.Bool.{Bool, true, false, cond}
use mathlib.Core.List.{List, [], ◌∷◌, ◌++◌, append-nil, append_assoc}
use Prim.Native.Nat.{ℕ, ◌+◌, ◌-◌, ◌≤◌, ◌<◌}
use native.Mathlib.Nat.{add-sub_of_le}
use native.Mathlib.Omega.{arith}
use lib.ListN.{length, get_or, take, length-append}
use Rattle.std.specs.List.{sum_by}
use Rattle.std.proofs.lemmas.List.Sums.{sum_by-cons}
use Rattle.answer.specs.Outcome.{outcome}
use Rattle.answer.specs.Placed.{placed}
use Rattle.answer.proofs.Forms.{first_fits, placed_next, placed_length, placed_more, wrote_none}
use Rattle.theory_sets.specs.Masks.{has}
use Rattle.drawing_text.specs.Lines.{line_feed}
use Rattle.drawing_text.specs.Forms.{set_word, spaced, line_of, set_lines}
use Rattle.drawing_text.specs.Sets.{positions_of}
use Rattle.drawing_text.specs.Writing.{lines_of_sets}
use Rattle.drawing_text.proofs.Lengths.{spaced_append, positions_below, positions_none, positions_all, positions_next, positions_part, set_lines_next, set_lines_part}

-- behind a form that is placed there is room for the next, where there is room for both
pub room_behind : (buffer : List ℕ) (start : ℕ) (form more : List ℕ) → start + length (form ++ more) ≤ length buffer → (entry : List ℕ) (position : ℕ)
    → outcome position entry ≡ placed buffer start form → position + length more ≤ length entry
room_behind buffer start form more both entry position wrote =
    let fits = first_fits start form more (length buffer) both in
    omega (
      arith,
      length-append form more,
      placed_next buffer start form fits entry position wrote,
      placed_length buffer start form fits entry position wrote,
    )

-- ---- the positions of a set

-- one that the set lacks
pub position_absent : (set position : ℕ) → 1 ≤ position → has set (position - 1) ≡ false → positions_below set (position + 1) ≡ positions_below set position
position_absent set position some lacks =
    positions_next set position some ∙ ap (λ (p : Bool). positions_below set position ++ cond p (position ∷ []) []) lacks ∙ append-nil (positions_below set position)

module _ (set : ℕ) (text : List ℕ) (start : ℕ) (room : start + length (spaced (positions_of set)) ≤ length text) where
  -- before the first
  pub positions_before : outcome start text ≡ placed text start (spaced (positions_below set 1))
  unfolding spaced
  positions_before = (wrote_none text start (omega arith)).wrote ∙ ap (λ (l : List ℕ). placed text start (spaced l)) (sym (positions_none set))

  -- one that it has
  module _ (position : ℕ) (some : 1 ≤ position) (most : position ≤ 16) (there : has set (position - 1) ≡ true) where
    one_more : spaced (positions_below set (position + 1)) ≡ spaced (positions_below set position) ++ spaced (position ∷ [])
    one_more =
        ap spaced (positions_next set position some ∙ ap (λ (p : Bool). positions_below set position ++ cond p (position ∷ []) []) there)
        ∙ spaced_append (positions_below set position) (position ∷ [])

    both_fit : start + length (spaced (positions_below set position) ++ spaced (position ∷ [])) ≤ length text
    both_fit =
        let last : position + 1 ≤ 17 = omega arith in
        let all : positions_below set (position + 1 + (17 - (position + 1))) ≡ positions_of set = ap (positions_below set) (add-sub_of_le last) ∙ positions_all set in
        omega (arith, ap length one_more, positions_part set (position + 1) (17 - (position + 1)), ap (λ (l : List ℕ). length (spaced l)) all)

    module _ (entry : List ℕ) (here : ℕ) (before : outcome here entry ≡ placed text start (spaced (positions_below set position))) where
      pub position_room : here + length (spaced (position ∷ [])) ≤ length entry
      position_room = room_behind text start (spaced (positions_below set position)) (spaced (position ∷ [])) both_fit entry here before

      pub position_put : (exit : List ℕ) (next : ℕ) → outcome next exit ≡ placed entry here (spaced (position ∷ []))
          → outcome next exit ≡ placed text start (spaced (positions_below set (position + 1)))
      position_put exit next wrote =
          placed_more text start (spaced (positions_below set position)) entry here (spaced (position ∷ [])) exit next both_fit before wrote
          ∙ ap (placed text start) (sym one_more)

-- ---- a line: its keyword, its numbers and a line feed

module _ (word numbers text : List ℕ) (start : ℕ) (room : start + length (line_of word numbers) ≤ length text) where
  three : line_of word numbers ≡ (word ++ spaced numbers) ++ (line_feed ∷ [])
  unfolding line_of
  three = sym (append_assoc word (spaced numbers) (line_feed ∷ []))

  three_fit : start + length ((word ++ spaced numbers) ++ (line_feed ∷ [])) ≤ length text
  three_fit = subst (λ (l : List ℕ). start + length l ≤ length text) three room

  two_fit : start + length (word ++ spaced numbers) ≤ length text
  two_fit = first_fits start (word ++ spaced numbers) (line_feed ∷ []) (length text) three_fit

  module _ (worded : List ℕ) (first : ℕ) (word-put : outcome first worded ≡ placed text start word) where
    pub numbers_room : first + length (spaced numbers) ≤ length worded
    numbers_room = room_behind text start word (spaced numbers) two_fit worded first word-put

    module _ (numbered : List ℕ) (second : ℕ) (numbers-put : outcome second numbered ≡ placed worded first (spaced numbers)) where
      both : outcome second numbered ≡ placed text start (word ++ spaced numbers)
      both = placed_more text start word worded first (spaced numbers) numbered second two_fit word-put numbers-put

      pub feed_room : second < length numbered
      feed_room = let one = room_behind text start (word ++ spaced numbers) (line_feed ∷ []) three_fit numbered second both in omega arith

      pub line_put : (exit : List ℕ) (next : ℕ) → outcome next exit ≡ placed numbered second (line_feed ∷ []) → outcome next exit ≡ placed text start (line_of word numbers)
      line_put exit next feed =
          placed_more text start (word ++ spaced numbers) numbered second (line_feed ∷ []) exit next three_fit both feed ∙ ap (placed text start) (sym three)

-- ---- the lines of all sets

-- the bytes of each, added up
pub lines_summed : (sets : List ℕ) → sum_by (λ set. length (line_of set_word (positions_of set))) sets ≡ length (lines_of_sets sets)
unfolding set_lines
lines_summed [] = refl
lines_summed (x ∷ xs) =
    sum_by-cons (λ set. length (line_of set_word (positions_of set))) x xs ∙ ap (λ (k : ℕ). length (line_of set_word (positions_of x)) + k) (lines_summed xs)
    ∙ sym (length-append (line_of set_word (positions_of x)) (lines_of_sets xs))

module _ (sets text : List ℕ) (start : ℕ) (room : start + length (lines_of_sets sets) ≤ length text) where
  -- before the first
  pub lines_before : outcome start text ≡ placed text start (lines_of_sets (take 0 sets))
  unfolding set_lines
  lines_before = (wrote_none text start (omega arith)).wrote

  module _ (i : ℕ) (inside : i < length sets) where
    lines_fit : start + length (lines_of_sets (take i sets) ++ line_of set_word (positions_of (get_or sets i 0))) ≤ length text
    lines_fit = omega (arith, ap length (set_lines_next i sets inside), set_lines_part (i + 1) sets)

    module _ (entry : List ℕ) (here : ℕ) (before : outcome here entry ≡ placed text start (lines_of_sets (take i sets))) where
      pub line_room : here + length (line_of set_word (positions_of (get_or sets i 0))) ≤ length entry
      line_room = room_behind text start (lines_of_sets (take i sets)) (line_of set_word (positions_of (get_or sets i 0))) lines_fit entry here before

      pub line_more : (exit : List ℕ) (next : ℕ) → outcome next exit ≡ placed entry here (line_of set_word (positions_of (get_or sets i 0)))
          → outcome next exit ≡ placed text start (lines_of_sets (take (i + 1) sets))
      line_more exit next wrote =
          placed_more text start (lines_of_sets (take i sets)) entry here (line_of set_word (positions_of (get_or sets i 0))) exit next lines_fit before wrote
          ∙ ap (placed text start) (sym (set_lines_next i sets inside))
