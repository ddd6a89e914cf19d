-- The sets of a record, one after the other: each passes after the earlier ones exactly if they keep the rules of minimal sets; what is found
-- is the byte form of such sets, and their byte form is found as these sets.
-- Assumes nothing.
use mathlib.Core.Path.{◌≡◌, refl, sym, ◌∙◌, subst}
use mathlib.Core.Bool.{true, false, ◌||◌}
use mathlib.Core.List.{List, [], ◌∷◌, ◌++◌, append_assoc, Memᴰ}
use mathlib.Core.Logic.{◌⊎◌, inl, inr}
use Prim.Native.Nat.{ℕ, suc, ◌^◌, ◌≤◌, ◌<◌}
use native.Mathlib.Nat.{lt_irrefl, lt_of_lt_of_le}
use native.Mathlib.Omega.{arith}
use borrow.Author.Tests.{leb-false, lt-leb}
use lib.Dec.{leb}
use lib.Pow.{pow_mono}
use Rattle.std.specs.Prelude.{Ok}
use Rattle.answer.specs.declared.Reason.TheVariants.{WrongSet}
use Rattle.answer.specs.Outcome.{refuse}
use Rattle.answer.proofs.Outcomes.{refuse_accepted, refuse_passed}
use Rattle.answer.proofs.Checks.{mask_passed, mask_right}
use Rattle.codec.specs.declared.Field.TheVariants.{Set}
use Rattle.codec.proofs.FieldReads.{AnyPlace, Follow, AllAllowed}
use Rattle.theory_sets.specs.Masks.{holds, RisingFrom, Rising}
use Rattle.numbers.proofs.Bools.{clash, neither, false_of}
use Rattle.theory_sets.proofs.Masks.{holds_le}
use Rattle.theory_sets.proofs.Ranges.{rising_above}
use Rattle.record.specs.Records.{misplaced, set_refusal}
use Rattle.record.specs.RecordBytes.{SetRules}

-- ---- 24

-- a set that 24 passes is above each earlier set and holds none
pub misplaced_none : (earlier : List ℕ) (x : ℕ) → misplaced earlier x ≡ false → (c : ℕ) → Memᴰ c earlier → (c < x) × (holds x c ≡ false)
unfolding misplaced
misplaced_none [] x h c m = absurd (mathlib.Core.List.Memᴰ.not-nil m)
misplaced_none (y ∷ earlier) x h c m = cases (mathlib.Core.List.Memᴰ.cases_cons m) (misplaced_none earlier x rest.1 c)
  where
    low : (leb x y ≡ false) × (holds x y || misplaced earlier x ≡ false)
    low = neither (leb x y) (holds x y || misplaced earlier x) h

    rest : (holds x y ≡ false) × (misplaced earlier x ≡ false)
    rest = neither (holds x y) (misplaced earlier x) low.1

    cases : (c ≡ y) ⊎ Memᴰ c earlier → (Memᴰ c earlier → (c < x) × (holds x c ≡ false)) → (c < x) × (holds x c ≡ false)
    cases (inl e) later = subst (λ (z : ℕ). (z < x) × (holds x z ≡ false)) (sym e) (leb-false x y low.0, rest.0)
    cases (inr k) later = later k

pub none_misplaced : (earlier : List ℕ) (x : ℕ) → ((c : ℕ) → Memᴰ c earlier → (c < x) × (holds x c ≡ false)) → misplaced earlier x ≡ false
unfolding misplaced
none_misplaced [] x h = refl
none_misplaced (y ∷ earlier) x h =
    let first = h y (mathlib.Core.List.Memᴰ.head refl) in
    rw (lt-leb x y first.0, first.1) (none_misplaced earlier x (λ c m. h c (mathlib.Core.List.Memᴰ.tail m)))

-- ---- sets that pass one after the other

module _ (n : ℕ) where
  -- a set that passes is of n parts, is not empty and is right after the earlier ones
  pub set_right : (earlier : List ℕ) (place set : ℕ) → set_refusal n earlier place set ≡ Ok tt → (set < 2 ^ n) × (0 < set) × (misplaced earlier set ≡ false)
  set_right earlier place set e =
      let known = mask_right n place set (refuse (misplaced earlier set) WrongSet place (Ok tt)) e in
      (known.0, known.1, (refuse_accepted (misplaced earlier set) WrongSet place (Ok tt) known.2).0)

  right_set : (earlier : List ℕ) (place set : ℕ) → set < 2 ^ n → 0 < set → misplaced earlier set ≡ false → set_refusal n earlier place set ≡ Ok tt
  right_set earlier place set known some free =
      mask_passed n place set (refuse (misplaced earlier set) WrongSet place (Ok tt)) known some
      ∙ refuse_passed (misplaced earlier set) WrongSet place (Ok tt) free

  pub sets_any_place : AnyPlace (set_refusal n)
  sets_any_place earlier place other set e = let right = set_right earlier place set e in right_set earlier other set right.0 right.1 right.2

  first_right : (earlier : List ℕ) (x : ℕ) (sets : List ℕ) → Follow (set_refusal n) earlier (x ∷ sets) → (x < 2 ^ n) × (0 < x) × (misplaced earlier x ≡ false)
  first_right earlier x sets f = set_right earlier 0 x (f.0 0)

  pub follow_allowed : n ≤ 16 → (earlier sets : List ℕ) → Follow (set_refusal n) earlier sets → AllAllowed Set sets
  follow_allowed few earlier [] f = tt
  follow_allowed few earlier (x ∷ sets) f =
      let inside : 2 ^ n ≤ 2 ^ 16 = pow_mono few in
      (omega (arith, (first_right earlier x sets f).0), follow_allowed few (earlier ++ (x ∷ [])) sets f.1)

  pub follow_within : (earlier sets : List ℕ) → Follow (set_refusal n) earlier sets → (a : ℕ) → Memᴰ a sets → (a < 2 ^ n) × (0 < a)
  follow_within earlier [] f a m = absurd (mathlib.Core.List.Memᴰ.not-nil m)
  follow_within earlier (x ∷ sets) f a m = cases (mathlib.Core.List.Memᴰ.cases_cons m) (follow_within (earlier ++ (x ∷ [])) sets f.1 a)
    where
      cases : (a ≡ x) ⊎ Memᴰ a sets → (Memᴰ a sets → (a < 2 ^ n) × (0 < a)) → (a < 2 ^ n) × (0 < a)
      cases (inl e) later = subst (λ (z : ℕ). (z < 2 ^ n) × (0 < z)) (sym e) ((first_right earlier x sets f).0, (first_right earlier x sets f).1)
      cases (inr k) later = later k

  pub follow_rising : (b : ℕ) (earlier sets : List ℕ) → ((x : ℕ) → misplaced earlier x ≡ false → b ≤ x) → Follow (set_refusal n) earlier sets → RisingFrom b sets
  follow_rising b earlier [] low f = tt
  follow_rising b earlier (x ∷ sets) low f = (
    low x (first_right earlier x sets f).2,
    follow_rising (suc x) (earlier ++ (x ∷ [])) sets
        (λ y h. (misplaced_none (earlier ++ (x ∷ [])) y h x (mathlib.Core.List.Memᴰ.append_right earlier (mathlib.Core.List.Memᴰ.head refl))).0) f.1,
  )

  pub follow_apart : (earlier sets : List ℕ) → Follow (set_refusal n) earlier sets → (a b : ℕ) → Memᴰ a sets → Memᴰ b (earlier ++ sets) → holds a b ≡ true → a ≡ b
  follow_apart earlier [] f a b m k h = absurd (mathlib.Core.List.Memᴰ.not-nil m)
  follow_apart earlier (x ∷ sets) f a b m k h =
      cases (mathlib.Core.List.Memᴰ.cases_cons m) (λ later. follow_apart (earlier ++ (x ∷ [])) sets f.1 a b later (subst (Memᴰ b) (sym (append_assoc earlier (x ∷ []) sets)) k) h)
    where
      rises : RisingFrom (suc x) sets
      rises =
          follow_rising (suc x) (earlier ++ (x ∷ [])) sets
          (λ y h. (misplaced_none (earlier ++ (x ∷ [])) y h x (mathlib.Core.List.Memᴰ.append_right earlier (mathlib.Core.List.Memᴰ.head refl))).0) f.1

      held : holds x b ≡ true → x ≡ b
      held within = place (mathlib.Core.List.Memᴰ.append_cases earlier k)
        where
          behind_it : (b ≡ x) ⊎ Memᴰ b sets → x ≡ b
          behind_it (inl e) = sym e
          behind_it (inr later) =
              let above : suc x ≤ b = rising_above (suc x) sets rises b later in
              absurd (lt_irrefl x (lt_of_lt_of_le above (holds_le x b within)))

          place : Memᴰ b earlier ⊎ Memᴰ b (x ∷ sets) → x ≡ b
          place (inl before) = clash within (misplaced_none earlier x (first_right earlier x sets f).2 b before).1
          place (inr after) = behind_it (mathlib.Core.List.Memᴰ.cases_cons after)

      cases : (a ≡ x) ⊎ Memᴰ a sets → (Memᴰ a sets → a ≡ b) → a ≡ b
      cases (inl e) rest = e ∙ held (subst (λ (z : ℕ). holds z b ≡ true) e h)
      cases (inr later) rest = rest later

-- in a rising list what stands before a set is below it
pub rising_before : (b : ℕ) (earlier : List ℕ) (x : ℕ) (sets : List ℕ) → RisingFrom b (earlier ++ (x ∷ sets)) → (c : ℕ) → Memᴰ c earlier → c < x
rising_before b [] x sets r c m = absurd (mathlib.Core.List.Memᴰ.not-nil m)
rising_before b (y ∷ earlier) x sets r c m = cases (mathlib.Core.List.Memᴰ.cases_cons m) (rising_before (suc y) earlier x sets r.1 c)
  where
    cases : (c ≡ y) ⊎ Memᴰ c earlier → (Memᴰ c earlier → c < x) → c < x
    cases (inl e) later = subst (λ (z : ℕ). z < x) (sym e) (rising_above (suc y) (earlier ++ (x ∷ sets)) r.1 x (mathlib.Core.List.Memᴰ.append_right earlier (mathlib.Core.List.Memᴰ.head refl)))
    cases (inr k) later = later k

-- sets that keep the rules pass one after the other
module _ (n : ℕ) (all : List ℕ) (within : (a : ℕ) → Memᴰ a all → (a < 2 ^ n) × (0 < a)) (rising : Rising all)
    (apart : (a b : ℕ) → Memᴰ a all → Memᴰ b all → holds a b ≡ true → a ≡ b) where
  rules_follow_from : (earlier sets : List ℕ) → earlier ++ sets ≡ all → Follow (set_refusal n) earlier sets
  rules_follow_from earlier [] e = tt
  rules_follow_from earlier (x ∷ sets) e =
      let here : Memᴰ x all = subst (Memᴰ x) e (mathlib.Core.List.Memᴰ.append_right earlier (mathlib.Core.List.Memᴰ.head refl)) in
      let free : misplaced earlier x ≡ false = none_misplaced earlier x (λ c m.
      let below : c < x = rising_before 0 earlier x sets (subst Rising (sym e) rising) c m in (
        below,
        false_of (holds x c) (λ h.
            let same : x ≡ c = apart x c here (subst (Memᴰ c) e (mathlib.Core.List.Memᴰ.append_left (x ∷ sets) m)) h in
            lt_irrefl c (subst (λ (z : ℕ). c < z) same below)),
      )) in (
        λ place. right_set n earlier place x (within x here).0 (within x here).1 free,
        rules_follow_from (earlier ++ (x ∷ [])) sets (append_assoc earlier (x ∷ []) sets ∙ e),
      )

pub rules_follow : (n : ℕ) (sets : List ℕ) → SetRules n sets → Follow (set_refusal n) [] sets
rules_follow n sets r = rules_follow_from n sets r.within r.rising r.apart [] sets refl
