-- A part that changes nothing: the words of the sets that work with it are those of the sets that work. Assumes nothing.
use mathlib.Core.Path.{◌≡◌, sym, ap, ◌∙◌}
use mathlib.Core.Bool.{Bool, true, false}
use mathlib.Core.Logic.{◌⊎◌, inl, inr}
use Prim.Native.Nat.{ℕ, ◌+◌, ◌-◌, ◌*◌, ◌^◌, ◌≤◌, ◌<◌}
use native.Mathlib.Nat.{add-sub_of_le, not-suc-le-zero}
use native.Mathlib.Omega.{arith}
use Rattle.numbers.proofs.Bools.{false_of, true_or_false}
use Rattle.numbers.proofs.Bounds.{below_or_above}
use Rattle.theory_sets.specs.Masks.{has, join}
use Rattle.theory_sets.specs.Idle.{idle}
use Rattle.theory_sets.proofs.Masks.{join_held, join_more}
use Rattle.theory_sets.proofs.Tables.{packed_same}
use Rattle.theory_sets.proofs.Idle.{idle_elim, idle_intro}
use Rattle.structure_words.specs.Words.{word_of}
use Rattle.structure_words.proofs.Words.{has_word_of}
use Rattle.structure_closure.specs.Inside.{with}

module _ (part : ℕ) (works : ℕ → Bool) where
  with_joined : (a : ℕ) → with part works a ≡ works (join a (2 ^ part))
  with_joined a = cases (true_or_false (has a part))
    where
      cases : (has a part ≡ true) ⊎ (has a part ≡ false) → with part works a ≡ works (join a (2 ^ part))
      cases (inl here) = rw here (ap works (sym (join_held a part here)))
      cases (inr lacks) = rw lacks (ap works (sym (join_more a part lacks)))

  -- the part changes no set of the first words
  abbrev pub Unchanged : ℕ → Type 0
  Unchanged at = (a : ℕ) → a < 64 * at → with part works a ≡ works a

  pub unchanged_none : Unchanged 0
  unchanged_none a h = absurd (not-suc-le-zero h)

  module _ (at w u : ℕ) (with-word : w ≡ word_of (with part works) at) (word : u ≡ word_of works at) where
    -- a word that is the same
    pub unchanged_more : Unchanged at → w ≡ u → Unchanged (at + 1)
    unchanged_more before same a h = cases (below_or_above a (64 * at))
      where
        cases : (a < 64 * at) ⊎ (64 * at ≤ a) → with part works a ≡ works a
        cases (inl low) = before a low
        cases (inr high) =
            let k : ℕ = a - 64 * at in
            let whole : 64 * at + k ≡ a = add-sub_of_le high in
            let near : k < 64 = omega (arith, whole) in
            ap (with part works) (sym whole) ∙ sym (has_word_of (with part works) at k near)
            ∙ ap (λ (x : ℕ). has x k) (sym with-word ∙ same ∙ word) ∙ has_word_of works at k near ∙ ap works whole

    -- a word that is another: the part changes a set of it
    pub changed_word : at < 1024 → (w ≡ u → ⊥) → false ≡ idle 16 works part
    unfolding word_of
    changed_word l other =
        sym (false_of (idle 16 works part) (λ h.
        other (with-word ∙ packed_same 64 (λ k. with part works (64 * at + k)) (λ k. works (64 * at + k)) (λ k near.
        with_joined (64 * at + k) ∙ idle_elim 16 works part h (64 * at + k) (omega arith)) ∙ sym word)))

  -- all words are the same
  pub unchanged_all : (at : ℕ) → 1024 ≤ at → Unchanged at → true ≡ idle 16 works part
  unchanged_all at l before = sym (idle_intro 16 works part (λ a h. sym (with_joined a) ∙ before a (omega arith)))
