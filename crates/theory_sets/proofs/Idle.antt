-- Laws of idle parts: what it takes to be one, that the structure on the sets of n parts alone decides it, and that the idle parts of a
-- semicoherent structure are those that no minimal set names. Assumes nothing.
use mathlib.Core.Path.{◌≡◌, refl, sym, ap, ◌∙◌, subst}
use mathlib.Core.Bool.{Bool, true, false, not, xor}
use mathlib.Core.List.{Memᴰ}
use mathlib.Core.Logic.{◌↔◌, ◌⊎◌, inl, inr}
use Prim.Native.Nat.{ℕ, ◌+◌, ◌-◌, ◌^◌, ◌≤◌, ◌<◌}
use native.Mathlib.Nat.{lt_of_lt_of_le, lt_of_le_of_lt, add-sub_cancel, sub-add_cancel}
use native.Mathlib.Omega.{arith}
use lib.Pow.{pow_mono, ones_lt}
use borrow.Author.Tests.{eq-eqb, not-true}
use Rattle.numbers.proofs.Bools.{clash, false_of, same_test, true_or_false}
use Rattle.numbers.proofs.Bounds.{below_or_above}
use Rattle.theory_sets.specs.Masks.{has, join, holds, any}
use Rattle.theory_sets.specs.Structures.{Semicoherent, minimal, minimal_sets}
use Rattle.theory_sets.specs.Idle.{pivotal, idle, idle_parts}
use Rattle.theory_sets.proofs.Masks.{has_add, has_sub, has_le, has_empty, join_held, join_more, holds_of_parts, holds_sub, holds_le, holds_without, add_below, lacking}
use Rattle.theory_sets.proofs.Ranges.{any_none, any_false, those_intro, those_elim}
use Rattle.theory_sets.proofs.Structures.{upward_by_parts, minimal_works, minimal_least, minimal_below}
use Rattle.theory_sets.proofs.Tables.{has_packed, packed_below}

-- ---- by the sets that lack the part

xor_same : (p q : Bool) → xor p q ≡ false → p ≡ q
unfolding xor
xor_same true true h = refl
xor_same true false h = clash refl h
xor_same false true h = clash refl h
xor_same false false h = refl

same_xor : (p q : Bool) → p ≡ q → xor p q ≡ false
unfolding xor
same_xor true true h = refl
same_xor true false h = clash refl h
same_xor false true h = clash refl (sym h)
same_xor false false h = refl

module _ (n : ℕ) (works : ℕ → Bool) (part : ℕ) where
  -- an idle part changes nothing
  pub idle_elim : idle n works part ≡ true → (a : ℕ) → a < 2 ^ n → works (join a (2 ^ part)) ≡ works a
  unfolding idle
  idle_elim h a l = xor_same (works (join a (2 ^ part))) (works a) (any_none (pivotal works part) (2 ^ n) a (not-true (any (pivotal works part) (2 ^ n)) h) l)

  pub idle_intro : ((a : ℕ) → a < 2 ^ n → works (join a (2 ^ part)) ≡ works a) → idle n works part ≡ true
  unfolding idle
  idle_intro same = ap not (any_false (pivotal works part) (2 ^ n) (λ a l h. clash h (same_xor (works (join a (2 ^ part))) (works a) (same a l))))

  -- a set that has it is no different with it, so those that lack it decide
  pub idle_more : idle n works part ≡ true → (a : ℕ) → a < 2 ^ n → has a part ≡ false → works (a + 2 ^ part) ≡ works a
  idle_more h a l lacks = ap works (sym (join_more a part lacks)) ∙ idle_elim h a l

  pub idle_of_more : ((a : ℕ) → a < 2 ^ n → has a part ≡ false → works (a + 2 ^ part) ≡ works a) → idle n works part ≡ true
  idle_of_more same = idle_intro (λ a l. cases a l (true_or_false (has a part)))
    where
      cases : (a : ℕ) → a < 2 ^ n → (has a part ≡ true) ⊎ (has a part ≡ false) → works (join a (2 ^ part)) ≡ works a
      cases a l (inl here) = ap works (join_held a part here)
      cases a l (inr lacks) = ap works (join_more a part lacks) ∙ same a l lacks

-- ---- the sets of n parts decide

pub idle_same : (n : ℕ) (f g : ℕ → Bool) → ((a : ℕ) → a < 2 ^ n → f a ≡ g a) → (part : ℕ) → part < n → idle n f part ≡ idle n g part
idle_same n f g same part l = same_test (idle n f part) (idle n g part) (carried f g same) (carried g f (λ a h. sym (same a h)))
  where
    carried : (f g : ℕ → Bool) → ((a : ℕ) → a < 2 ^ n → f a ≡ g a) → idle n f part ≡ true → idle n g part ≡ true
    carried f g same h =
        idle_of_more n g part (λ a k lacks. sym (same (a + 2 ^ part) (add_below n a part k l lacks)) ∙ idle_more n f part h a k lacks ∙ same a k)

-- where no set beyond those of n parts works, it is the same to ask of more parts
pub idle_beyond : (n m : ℕ) (works : ℕ → Bool) → n ≤ m → ((a : ℕ) → 2 ^ n ≤ a → works a ≡ false) → (part : ℕ) → idle m works part ≡ idle n works part
idle_beyond n m works few beyond part =
    same_test (idle m works part) (idle n works part)
    (λ h. idle_of_more n works part (λ a l. idle_more m works part h a (lt_of_lt_of_le l (pow_mono few))))
    (λ h. idle_of_more m works part (λ a l lacks. cases h a lacks (below_or_above a (2 ^ n))))
  where
    cases : idle n works part ≡ true → (a : ℕ) → has a part ≡ false → (a < 2 ^ n) ⊎ (2 ^ n ≤ a) → works (a + 2 ^ part) ≡ works a
    cases h a lacks (inl low) = idle_more n works part h a low lacks
    cases h a lacks (inr high) = beyond (a + 2 ^ part) (omega arith) ∙ sym (beyond a high)

-- ---- the mask

pub has_idle_parts : (n : ℕ) (works : ℕ → Bool) (part : ℕ) → part < n → has (idle_parts n works) part ≡ idle n works part
unfolding idle_parts
has_idle_parts n works part l = has_packed n (idle n works) part l

pub idle_parts_below : (n : ℕ) (works : ℕ → Bool) → idle_parts n works < 2 ^ n
unfolding idle_parts
idle_parts_below n works = packed_below n (idle n works)

-- ---- no minimal set names an idle part, and each other part is named by one

module _ (n : ℕ) (works : ℕ → Bool) (sc : Semicoherent n works) (part : ℕ) (l : part < n) where
  idle_unnamed : idle n works part ≡ true → (a : ℕ) → Memᴰ a (minimal_sets n works) → has a part ≡ false
  idle_unnamed h a m =
      false_of (has a part) (λ here.
      let found = those_elim (minimal n works) (2 ^ n) a m in
      let less : a - 2 ^ part < 2 ^ n = lt_of_le_of_lt (holds_le a (a - 2 ^ part) (holds_sub a part here)) found.0 in
      let gone : has (a - 2 ^ part) part ≡ false = has_sub a part here part ∙ rw (eq-eqb part part refl) in
      let whole : a - 2 ^ part + 2 ^ part ≡ a = sub-add_cancel (has_le a part here) in
      let runs : works (a - 2 ^ part) ≡ true =
      sym (idle_more n works part h (a - 2 ^ part) less gone) ∙ ap works whole ∙ minimal_works n works a found.1 in
      let same : a ≡ a - 2 ^ part = minimal_least n works a (a - 2 ^ part) found.1 less runs (holds_sub a part here) in
      clash here (ap (λ (x : ℕ). has x part) same ∙ gone))

  unnamed_idle : ((a : ℕ) → Memᴰ a (minimal_sets n works) → has a part ≡ false) → idle n works part ≡ true
  unnamed_idle none =
      idle_of_more n works part (λ a k lacks.
      same_test (works (a + 2 ^ part)) (works a) (down a k lacks) (upward_by_parts n works sc.upward a part k l lacks))
    where
      down : (a : ℕ) → a < 2 ^ n → has a part ≡ false → works (a + 2 ^ part) ≡ true → works a ≡ true
      down a k lacks w =
          let low = minimal_below n works (a + 2 ^ part) w in
          let b = low.0 in
          let small : b < 2 ^ n = lt_of_le_of_lt low.1 (add_below n a part k l lacks) in
          let unnamed : has b part ≡ false = none b (those_intro (minimal n works) (2 ^ n) b small low.2) in
          let here : has (a + 2 ^ part) part ≡ true = has_add a part lacks part ∙ rw (eq-eqb part part refl) in
          let inside : holds a b ≡ true =
          subst (λ (x : ℕ). holds x b ≡ true) (add-sub_cancel a (2 ^ part)) (holds_without (a + 2 ^ part) b part low.3 here unnamed) in
          sc.upward b a small k inside (minimal_works n works b low.2)

  pub idle_exactly : (idle n works part ≡ true) ↔ ((a : ℕ) → Memᴰ a (minimal_sets n works) → has a part ≡ false)
  idle_exactly = (idle_unnamed, unnamed_idle)

-- some part is not idle, since no machine runs without parts
pub some_not_idle : (n : ℕ) (works : ℕ → Bool) → Semicoherent n works → (part : ℕ) × (part < n) × (idle n works part ≡ false)
some_not_idle n works sc =
    let low = minimal_below n works (2 ^ n - 1) sc.full in
    let b = low.0 in
    let small : b < 2 ^ n = lt_of_le_of_lt low.1 (ones_lt n) in
    let some : (b ≡ 0 → ⊥) = λ e. clash (minimal_works n works b low.2) (ap works e ∙ sc.empty) in
    let named = lacking n b 0 small (holds_of_parts b 0 (λ i t. clash t (has_empty i))) some in
    let part = named.0 in (
      part,
      named.1,
      false_of (idle n works part) (λ h.
          clash named.2 ((idle_exactly n works sc part named.1).0 h b (those_intro (minimal n works) (2 ^ n) b small low.2))),
    )
