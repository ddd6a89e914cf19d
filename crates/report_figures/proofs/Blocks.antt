-- Blocks of lines: one line more, put from its word and what ends it, and all of them.
-- Assumes nothing.
use mathlib.Core.Path.{◌≡◌, refl, sym, ap, ap₂, ◌∙◌, subst}
use mathlib.Core.List.{List, [], ◌++◌, append_assoc}
use Prim.Native.Nat.{ℕ, zero, suc, ◌+◌, ◌-◌, ◌*◌, ◌≤◌, ◌<◌}
use native.Mathlib.Numerals.{sub-one}
use native.Mathlib.Omega.{arith}
use borrow.Author.Tests.{le-leb, lt-leb}
use lib.IntN.{ℤ}
use lib.ListN.{length}
use mir.Syntax.{w64}
use mir.Val.{Fits}
use Rattle.answer.specs.Outcome.{outcome}
use Rattle.answer.specs.Placed.{placed}
use Rattle.record_parts.specs.declared.PartList.{PartList}
use Rattle.text.specs.Texts.{lines}
use Rattle.report_lines.specs.Lines.{rest_of_line}
use Rattle.report_lines.proofs.Lines.{rest_few}
use Rattle.answer.proofs.Forms.{Wrote, wrote_none, wrote_more, wrote_same, wrote_most}
use Rattle.report_figures.specs.FiguresText.{lines_by, text_by}

-- ---- lines 1 to n

lines_one : (line : ℕ → List ℕ) (k : ℕ) → 1 ≤ k → lines line k ≡ lines line (k - 1) ++ line k
unfolding lines
lines_one line zero h = absurd (omega arith)
lines_one line (suc k) h = ap (λ (j : ℕ). lines line j ++ line (suc k)) (sym (sub-one (suc k)))

pub lines_same : (f g : ℕ → List ℕ) (n : ℕ) → ((k : ℕ) → 1 ≤ k → k ≤ n → f k ≡ g k) → lines f n ≡ lines g n
unfolding lines
lines_same f g zero same = refl
lines_same f g (suc n) same = ap₂ (λ (front last : List ℕ). front ++ last) (lines_same f g n (λ k low high. same k low (omega arith))) (same (suc n) (omega arith) (omega arith))

module _ (text : List ℕ) (start : ℕ) (line : ℕ → List ℕ) where
  -- the lines before line k
  abbrev pub Before : ℕ → List ℕ → ℕ → Type 0
  Before k entry position = Wrote text start (lines line (k - 1)) (64 * (k - 1)) entry position

  pub before_first : start ≤ length text → Before 1 text start
  unfolding lines
  before_first inside = wrote_none text start inside

  module _ (n : ℕ) (room : start + 64 * n ≤ length text) (k : ℕ) (low : 1 ≤ k) (high : k < n + 1) (entry : List ℕ) (position : ℕ) (before : Before k entry position) where
    -- line k: its word, and what ends it
    pub before_next : (word : List ℕ) (number : ℕ) (figure : List ℕ) (t1 t2 : List ℕ) (n1 n2 : ℕ) → length word ≤ 5 → Fits w64 number → length figure ≤ 21
        → line k ≡ word ++ rest_of_line number figure → outcome n1 t1 ≡ placed entry position word → outcome n2 t2 ≡ placed t1 n1 (rest_of_line number figure)
        → Before (k + 1) t2 n2
    before_next word number figure t1 t2 n1 n2 few1 fits few2 here e1 e2 =
        let s1 = wrote_more before word 5 t1 n1 few1 (omega arith) e1 in
        let s2 = wrote_more s1 (rest_of_line number figure) 44 t2 n2 (rest_few number figure fits few2) (omega arith) e2 in
        let back : k + 1 - 1 ≡ k = omega arith in
        let all : lines line (k - 1) ++ word ++ rest_of_line number figure ≡ lines line (k + 1 - 1) =
        append_assoc (lines line (k - 1)) word (rest_of_line number figure) ∙ ap (λ (last : List ℕ). lines line (k - 1) ++ last) (sym here) ∙ sym (lines_one line k low) ∙ ap (lines line) (sym back) in
        wrote_most (wrote_same s2 _ all) (64 * (k + 1 - 1)) (omega arith) (omega arith)

  -- all lines
  pub before_end : (n k : ℕ) (exit : List ℕ) (next : ℕ) → 1 ≤ k → k ≤ n + 1 → n + 1 ≤ k → Before k exit next → Wrote text start (lines line n) (64 * n) exit next
  before_end n k exit next low high end all =
      let last : k - 1 ≡ n = omega arith in
      subst (λ (j : ℕ). Wrote text start (lines line j) (64 * j) exit next) last all

-- ---- the whole text

pub blocks_joined : (a b c d : List ℕ) → a ++ b ++ c ++ d ≡ a ++ (b ++ (c ++ d))
blocks_joined a b c d = simp append_assoc

module _ (list : PartList) (sets : ℕ) (orders dominations : List ℤ) (parts : List ℕ) where
  pub few_parts : list.count ≤ 16 → text_by list sets orders dominations parts ≡ lines_by list sets orders dominations parts
  unfolding text_by
  few_parts few = simp (le-leb _ _ few)

  pub many_parts_lem : 16 < list.count → text_by list sets orders dominations parts ≡ []
  unfolding text_by
  many_parts_lem many = simp (lt-leb _ _ many)
