-- Laws of filing retired numbers: how many they are, which they are, that they keep the rules, and that the order in which numbers are filed
-- does not matter.
-- Assumes nothing.
use mathlib.Core.Path.{◌≡◌, refl, sym, ap, ◌∙◌}
use mathlib.Core.Bool.{Bool, true, false, cond}
use mathlib.Core.List.Memᴰ
use mathlib.Core.List.{List, [], ◌∷◌, ◌++◌}
use mathlib.Core.Logic.{◌⊎◌, inl, inr, ⊎_elim}
use Prim.Native.Nat.{ℕ, ◌+◌, ◌/◌, ◌≤◌}
use native.Mathlib.Omega.{arith}
use lib.ListN.{length, length-append}
use Rattle.codec.specs.ByteForm.{bytes_of, forms_of}
use Rattle.theory_orders.specs.Orders.{times}
use Rattle.theory_sets.specs.Masks.{has}
use Rattle.record_numbers.specs.Numbering.{RisingWithin, named, others}
use Rattle.record_parts.specs.Lines.{In}
use Rattle.record_parts.proofs.LeftOut.{in_named, in_others}
use Rattle.record_parts.proofs.Numbers.{rising_in, rising_wider, others_gone}
use Rattle.record_retired.specs.Retired.{most_retired, inserted, kept, filed, filed_all, RetiredRules}
use Rattle.record_retired.proofs.Inserted.{in_inserted, inserted_forms, rising_inserted, Ordered, rising_ordered}
use Rattle.record_retired.proofs.Kept.{kept_most, kept_few, in_kept, rising_kept, forms_kept}
use Rattle.record_retired.proofs.Tracing.{Traced, traced_all}
use Rattle.record_retired.proofs.Together.{inserted_all, filed_together, inserted_order}

-- ---- how many, and one list after another

-- never more than 64
pub filed_most : (number : ℕ) (retired : List ℕ) → length (filed number retired) ≤ most_retired
filed_most number retired = kept_most (inserted number retired)

pub filed_all_most : (gone retired : List ℕ) → length retired ≤ most_retired → length (filed_all gone retired) ≤ most_retired
unfolding filed_all
filed_all_most [] retired most = most
filed_all_most (x ∷ xs) retired most = filed_all_most xs (filed x retired) (filed_most x retired)

pub filed_append : (first second retired : List ℕ) → filed_all (first ++ second) retired ≡ filed_all second (filed_all first retired)
unfolding filed_all
filed_append [] second retired = refl
filed_append (x ∷ xs) second retired = filed_append xs second (filed x retired)

-- they take no more bytes than the numbers that left and those that were filed before
pub forms_filed : (gone retired : List ℕ) → length (forms_of (filed_all gone retired)) ≤ length (forms_of gone) + length (forms_of retired)
unfolding filed_all forms_of
forms_filed [] retired = omega arith
forms_filed (x ∷ xs) retired =
    omega (arith, forms_filed xs (filed x retired), forms_kept (inserted x retired), inserted_forms x retired, length-append (bytes_of x) (forms_of xs))

-- ---- which

-- a number that is filed left now, or was filed before
pub filed_from : (gone retired : List ℕ) {other : ℕ} → In other (filed_all gone retired) → In other gone ⊎ In other retired
unfolding filed_all
filed_from [] retired i = inr i
filed_from (x ∷ xs) retired {other} i = ⊎_elim (λ j. inl (Memᴰ.tail j)) here (filed_from xs (filed x retired) i)
  where
    here : In other (filed x retired) → In other (x ∷ xs) ⊎ In other retired
    here j = ⊎_elim (λ (e : other ≡ x). inl (Memᴰ.head e)) (λ k. inr k) (in_inserted x retired (in_kept (inserted x retired) j))

-- each number that left or was filed before is traced,
pub filed_there : (low high : ℕ) (gone retired : List ℕ) → RisingWithin low high retired → {number : ℕ} → In number gone ⊎ In number retired → Traced number (filed_all gone retired)
filed_there low high gone retired rising {number} h =
    traced_all number gone retired (rising_ordered low 0 high retired (omega arith) rising) (⊎_elim (λ i. inl i) (λ i. inr (inl i)) h)

-- and what is traced stays so, change after change
pub filed_still : (low high : ℕ) (gone retired : List ℕ) → RisingWithin low high retired → {number : ℕ} → Traced number retired → Traced number (filed_all gone retired)
filed_still low high gone retired rising {number} t =
    traced_all number gone retired (rising_ordered low 0 high retired (omega arith) rising) (inr t)

-- ---- the rules

-- numbers that rise, filed into others that rise, where none is of both
pub filed_rising : (low high : ℕ) (gone retired : List ℕ) → RisingWithin low high gone → RisingWithin low high retired → ((number : ℕ) → In number gone → In number retired → ⊥)
    → RisingWithin low high (filed_all gone retired)
unfolding filed_all
filed_rising low high [] retired g r apart = r
filed_rising low high (x ∷ xs) retired g r apart =
    filed_rising low high xs (filed x retired)
    (rising_wider x high low high xs (omega (arith, g.0)) (omega arith) g.2)
    (rising_kept low high (inserted x retired) (rising_inserted low high x retired r g.0 g.1 (apart x (Memᴰ.head refl))))
    later
  where
    later : (number : ℕ) → In number xs → In number (filed x retired) → ⊥
    later number i j =
        ⊎_elim
        (λ (e : number ≡ x). let b = rising_in x high xs g.2 {number = number} i in omega (arith, b.0))
        (λ k. apart number (Memᴰ.tail i) k)
        (in_inserted x retired (in_kept (inserted x retired) j))

-- parts in use leave, each once, and are not in use any more: the retired numbers keep the rules
pub filed_rules : {mark : ℕ} {in_use retired : List ℕ} (gone after : List ℕ) → RetiredRules mark in_use retired → RisingWithin 0 mark gone
    → ((number : ℕ) → In number gone → In number in_use) → ((number : ℕ) → In number after → In number in_use × (In number gone → ⊥))
    → RetiredRules mark after (filed_all gone retired)
filed_rules {mark} {in_use} {retired} gone after r g used left =
    record {
      most = filed_all_most gone retired r.most;
      rising = filed_rising 0 mark gone retired g r.rising (λ number i j. r.unused number j (used number i));
      unused = λ number i j. ⊎_elim (λ k. (left number j).1 k) (λ k. r.unused number k (left number j).0) (filed_from gone retired i);
    }

-- the numbers of a group rise where all do
pub rising_named : (set low high : ℕ) (numbers : List ℕ) → RisingWithin low high numbers → RisingWithin low high (named numbers set)
unfolding named
rising_named set low high [] r = tt
rising_named set low high (x ∷ xs) r = cases (has set 0) (rising_named (set / 2) x high xs r.2)
  where
    cases : (p : Bool) → RisingWithin x high (named xs (set / 2)) → RisingWithin low high (cond p (x ∷ named xs (set / 2)) (named xs (set / 2)))
    cases true rest = (r.0, r.1, rest)
    cases false rest = rising_wider x high low high (named xs (set / 2)) (omega (arith, r.0)) (omega arith) rest

-- so the rules hold after the parts of a group left
pub group_rules : {mark : ℕ} {numbers retired : List ℕ} (group : ℕ) → RisingWithin 0 mark numbers → RetiredRules mark numbers retired
    → RetiredRules mark (others numbers group) (filed_all (named numbers group) retired)
group_rules {mark} {numbers} group rising r =
    filed_rules (named numbers group) (others numbers group) r (rising_named group 0 mark numbers rising) (λ number i. in_named numbers group i)
    (λ number i. (in_others numbers group i, λ j. others_gone group 0 mark numbers rising j i))

-- ---- in any order

-- the same numbers, filed in two orders, leave the same
pub filed_order : (low high : ℕ) (first second retired : List ℕ) → ((number : ℕ) → times number first ≡ times number second) → RisingWithin low high retired
    → length retired ≤ most_retired → filed_all first retired ≡ filed_all second retired
filed_order low high first second retired same rising few =
    together first ∙ ap kept (inserted_order first second retired same) ∙ sym (together second)
  where
    ordered : Ordered 0 retired
    ordered = rising_ordered low 0 high retired (omega arith) rising

    together : (gone : List ℕ) → filed_all gone retired ≡ kept (inserted_all gone retired)
    together gone = ap (filed_all gone) (sym (kept_few retired few)) ∙ filed_together gone retired ordered
