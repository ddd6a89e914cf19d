-- The sets of a design without a group of parts keep the rules of a record's sets with the parts that are left, as long as one of them shares
-- no part with the group.
-- Assumes nothing.
use mathlib.Core.Path.{◌≡◌, refl, sym, ap, ◌∙◌}
use mathlib.Core.Bool.{Bool, true, false, not, cond}
use mathlib.Core.List.Memᴰ
use mathlib.Core.List.{List, [], ◌∷◌, ◌++◌, append-nil, map, Memᴰ}
use Prim.Native.Nat.{ℕ, suc, ◌^◌, ◌≤◌, ◌<◌}
use native.Mathlib.Nat.{lt_of_lt_of_le}
use native.Mathlib.Omega.{arith}
use borrow.Author.Tests.{not-true}
use lib.ListN.{length, get_or, take, drop, length-append, length-map, take-append-drop}
use lib.Pow.{pow_mono}
use lib.Seq.{take-suc}
use Rattle.theory_sets.specs.Masks.{RisingFrom, holds}
use Rattle.numbers.proofs.Bools.{not_not, clash, false_of}
use Rattle.theory_sets.proofs.Ranges.{rising_above}
use Rattle.masks.specs.Groups.{meets, squeezed}
use Rattle.masks.proofs.Groups.{squeezed_rises, squeezed_some, squeezed_holds}
use Rattle.record_numbers.specs.Numbering.{most_parts, others}
use Rattle.record.specs.RecordBytes.{SetRules}
use Rattle.record_lines.specs.Changes.{keep, every, sets_without}
use Rattle.record_lines.proofs.Keeping.{keep_elim, keep_fewer, keep_some, every_elim}
use Rattle.record_lines.proofs.MovedDown.{squeezed_within}

-- the sets that share no part with the group
abbrev lacking : ℕ → List ℕ → List ℕ
lacking group sets = keep (λ set. not (meets group set)) sets

-- each is a set that shared no part with the group, squeezed
pub record From (group : ℕ) (sets : List ℕ) (a : ℕ) : Type 0 where
  pub old : ℕ
  pub member : Memᴰ old sets
  pub lacks : meets group old ≡ false
  pub same : squeezed most_parts group old ≡ a

pub without_from : (group : ℕ) (sets : List ℕ) (a : ℕ) → Memᴰ a (sets_without group sets) → From group sets a
unfolding sets_without
without_from group sets a m =
    let found = Memᴰ.of_map (squeezed most_parts group) (lacking group sets) m in
    let kept = keep_elim (λ set. not (meets group set)) sets found.1 in
    record { old = found.0; member = kept.0; lacks = not-true (meets group found.0) kept.1; same = found.2 }

-- they rise
without_rises : (group low b : ℕ) (sets : List ℕ) → RisingFrom b sets → ((a : ℕ) → Memᴰ a sets → a < 2 ^ most_parts)
    → ((a : ℕ) → Memᴰ a sets → meets group a ≡ false → low ≤ squeezed most_parts group a) → RisingFrom low (sets_without group sets)
unfolding sets_without
without_rises group low b [] r small h = tt
without_rises group low b (x ∷ xs) r small h =
    cases (meets group x) refl (without_rises group low (suc x) xs r.1 (λ a m. small a (Memᴰ.tail m)) (λ a m. h a (Memᴰ.tail m)))
    (λ lacks. without_rises group (suc (squeezed most_parts group x)) (suc x) xs r.1 (λ a m. small a (Memᴰ.tail m)) (λ a m k.
    squeezed_rises most_parts group x a lacks k (small a (Memᴰ.tail m)) (rising_above (suc x) xs r.1 a m)))
  where
    cases : (p : Bool) → meets group x ≡ p → RisingFrom low (sets_without group xs) → (meets group x ≡ false → RisingFrom (suc (squeezed most_parts group x)) (sets_without group xs))
        → RisingFrom low (map (squeezed most_parts group) (cond (not p) (x ∷ lacking group xs) (lacking group xs)))
    cases true e skip more = skip
    cases false e skip more = (h x (Memᴰ.head refl) e, more e)

-- where these are the numbers by position
pub sets_without_rules : (numbers : List ℕ) (group : ℕ) (sets : List ℕ) → length numbers ≤ most_parts → SetRules (length numbers) sets → every (meets group) sets ≡ false
    → SetRules (length (others numbers group)) (sets_without group sets)
unfolding sets_without
sets_without_rules numbers group sets few r some =
    let kept = lacking group sets in
    let fewer = keep_fewer (λ set. not (meets group set)) sets in
    let same : length (map (squeezed most_parts group) kept) ≡ length kept = length-map kept (squeezed most_parts group) in
    let left : every (λ set. not (not (meets group set))) sets ≡ false = simp not_not some in
    let small : (a : ℕ) → Memᴰ a sets → a < 2 ^ most_parts = λ a m. lt_of_lt_of_le (r.within a m).0 (pow_mono few) in
    record {
      some = omega (arith, keep_some (λ set. not (meets group set)) sets left);
      most = omega (arith, r.most);
      within = λ a m.
          let f = without_from group sets a m in
          let w = r.within f.old f.member in
          rw (sym f.same) (
            squeezed_within most_parts numbers group f.old few w.0,
            squeezed_some most_parts group f.old f.lacks (small f.old f.member) w.1,
          );
      rising = without_rises group 0 0 sets r.rising small (λ a m k. omega arith);
      apart = λ a b m k within.
          let f = without_from group sets a m in
          let g = without_from group sets b k in
          let low : holds (squeezed most_parts group f.old) (squeezed most_parts group g.old) ≡ true = rw (f.same, g.same) within in
          sym f.same
          ∙ ap (squeezed most_parts group) (r.apart f.old g.old f.member g.member
          (squeezed_holds most_parts group f.old g.old f.lacks g.lacks (small g.old g.member) low))
          ∙ g.same;
    }

-- ---- one set more

without_append : (group : ℕ) (front behind : List ℕ) → sets_without group (front ++ behind) ≡ sets_without group front ++ sets_without group behind
unfolding sets_without
without_append group [] behind = refl
without_append group (x ∷ xs) behind = cases (meets group x) (without_append group xs behind)
  where
    moved : List ℕ → List ℕ
    moved sets = map (squeezed most_parts group) sets

    cases : (p : Bool) → moved (lacking group (xs ++ behind)) ≡ moved (lacking group xs) ++ moved (lacking group behind)
        → moved (cond (not p) (x ∷ lacking group (xs ++ behind)) (lacking group (xs ++ behind)))
        ≡ moved (cond (not p) (x ∷ lacking group xs) (lacking group xs)) ++ moved (lacking group behind)
    cases true rest = rest
    cases false rest = ap (λ (l : List ℕ). squeezed most_parts group x ∷ l) rest

module _ (group i : ℕ) (sets : List ℕ) (h : i < length sets) where
  one_more : sets_without group (take (suc i) sets) ≡ sets_without group (take i sets) ++ sets_without group (get_or sets i 0 ∷ [])
  one_more = ap (sets_without group) (take-suc sets i 0 h) ∙ without_append group (take i sets) (get_or sets i 0 ∷ [])

  -- a set that shares no part with the group is kept
  pub without_kept : meets group (get_or sets i 0) ≡ false → sets_without group (take (suc i) sets) ≡ sets_without group (take i sets) ++ (squeezed most_parts group (get_or sets i 0) ∷ [])
  unfolding sets_without
  without_kept lacks = one_more ∙ simp lacks

  -- one that shares a part with it is not
  pub without_gone : meets group (get_or sets i 0) ≡ true → sets_without group (take (suc i) sets) ≡ sets_without group (take i sets)
  unfolding sets_without
  without_gone names = one_more ∙ simp names (append-nil _)

-- no more of the first sets are kept than of all
pub without_part_lem : (group i : ℕ) (sets : List ℕ) → length (sets_without group (take i sets)) ≤ length (sets_without group sets)
without_part_lem group i sets =
    let whole : sets_without group sets ≡ sets_without group (take i sets) ++ sets_without group (drop i sets) =
    ap (sets_without group) (sym (take-append-drop i sets)) ∙ without_append group (take i sets) (drop i sets) in
    omega (arith, ap length whole, length-append (sets_without group (take i sets)) (sets_without group (drop i sets)))

-- no more sets are kept than there are
pub without_fewer : (group : ℕ) (sets : List ℕ) → length (sets_without group sets) ≤ length sets
unfolding sets_without
without_fewer group sets =
    omega (arith, length-map (lacking group sets) (squeezed most_parts group), keep_fewer (λ set. not (meets group set)) sets)

-- none is left exactly if every set names a part of the group
pub without_none : (group : ℕ) (sets : List ℕ) → length (sets_without group sets) ≡ 0 → every (meets group) sets ≡ true
unfolding sets_without
without_none group sets none = cases (every (meets group) sets) refl
  where
    cases : (p : Bool) → every (meets group) sets ≡ p → every (meets group) sets ≡ true
    cases true e = e
    cases false e =
        let left : every (λ set. not (not (meets group set))) sets ≡ false = simp not_not e in
        absurd (omega (arith, length-map (lacking group sets) (squeezed most_parts group), keep_some (λ set. not (meets group set)) sets left))

pub without_some : (group : ℕ) (sets : List ℕ) → (length (sets_without group sets) ≡ 0 → ⊥) → every (meets group) sets ≡ false
without_some group sets some =
    false_of (every (meets group) sets) (λ all.
    some (empty (sets_without group sets) (λ a m. let f = without_from group sets a m in clash (every_elim (meets group) sets all f.member) f.lacks)))
  where
    empty : (l : List ℕ) → ((a : ℕ) → Memᴰ a l → ⊥) → length l ≡ 0
    empty [] h = refl
    empty (x ∷ xs) h = absurd (h x (Memᴰ.head refl))
