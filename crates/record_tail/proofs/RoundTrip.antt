-- What stands behind the sets, read and written: what is found keeps the rules of retired numbers and is its own byte form, and that byte form
-- is found wherever it stands.
-- Assumes nothing.
use mathlib.Core.Path.{◌≡◌, refl, sym, ap, ◌∙◌, subst}
use mathlib.Core.Bool.{Bool, true, false, not, ◌||◌}
use mathlib.Core.List.Memᴰ
use mathlib.Core.List.{List, [], ◌∷◌, ◌++◌, append_assoc}
use mathlib.Core.Logic.{◌⊎◌, inl, inr}
use Prim.Native.Nat.{ℕ, ◌+◌, ◌≤◌}
use native.Mathlib.Omega.{arith}
use borrow.Author.Tests.{ltb-false, le-ltb, eqb-true, eq-eqb}
use lib.Dec.{eqb}
use lib.ListN.{length, get_or, drop, length-append}
use Rattle.std.specs.Prelude.{Ok}
use Rattle.numbers.proofs.Bools.{neither, clash, false_of}
use Rattle.answer.specs.declared.Reason.TheVariants.{WrongRetired, DifferentCount}
use Rattle.answer.proofs.Outcomes.{refuse_accepted, refuse_passed}
use Rattle.codec.specs.declared.Field.TheVariants.{Count, PartNumber}
use Rattle.codec.specs.ByteForm.{bytes_of, forms_of}
use Rattle.codec.specs.Reads.{found}
use Rattle.codec.specs.FieldReads.{field_at, fields_at}
use Rattle.codec.specs.Bytes.{Bytes}
use Rattle.codec.proofs.Found.{then_found, Stands, stands_both, behind, field_found, field_read}
use Rattle.codec.proofs.FieldReads.{AnyPlace, Follow, AllAllowed, fields_found, fields_read}
use Rattle.record_numbers.specs.Numbering.{top_number, RisingWithin, misnumbered, names}
use Rattle.record_numbers.proofs.Rules.{right_number, number_right}
use Rattle.record_numbers.proofs.Names.{names_intro, names_elim}
use Rattle.record_parts.specs.Lines.{In}
use Rattle.record_head.specs.Headings.{last_number}
use Rattle.record_head.proofs.PartNumbers.{last_more, rising_allowed}
use Rattle.record_retired.specs.Retired.{most_retired, RetiredRules}
use Rattle.record_tail.specs.Tails.{retired_count_refusal, retired_judge, count_judge, retired_at, counts_at, tail_at}
use Rattle.record_tail.specs.TailBytes.{tail_bytes}

-- ---- retired numbers

module _ (mark : ℕ) (in_use : List ℕ) where
  -- one that passes at one place passes at any
  pub retired_any_place : AnyPlace (retired_judge mark in_use)
  retired_any_place earlier place other number e =
      let wrong : Bool = misnumbered (last_number 0 earlier) mark number || names number in_use in
      refuse_passed wrong WrongRetired other (Ok tt) (refuse_accepted wrong WrongRetired place (Ok tt) e).0

  -- one that passes is right after the earlier ones and is not in use
  right : (earlier : List ℕ) (number : ℕ) → retired_judge mark in_use earlier 0 number ≡ Ok tt → (misnumbered (last_number 0 earlier) mark number ≡ false) × (names number in_use ≡ false)
  right earlier number e = neither _ _ (refuse_accepted _ WrongRetired 0 (Ok tt) e).0

  -- they pass one after the other exactly if they rise under the mark and none is in use
  follow_rising : (earlier numbers : List ℕ) → Follow (retired_judge mark in_use) earlier numbers → RisingWithin (last_number 0 earlier) mark numbers
  follow_rising earlier [] f = tt
  follow_rising earlier (v ∷ numbers) f =
      let rises = right_number (last_number 0 earlier) mark v (right earlier v (f.0 0)).0 in
      (rises.0, rises.1, subst (λ (low : ℕ). RisingWithin low mark numbers) (last_more 0 earlier v) (follow_rising (earlier ++ (v ∷ [])) numbers f.1))

  follow_unused : (earlier numbers : List ℕ) → Follow (retired_judge mark in_use) earlier numbers → (number : ℕ) → In number numbers → In number in_use → ⊥
  follow_unused earlier [] f number i used = Memᴰ.not-nil i
  follow_unused earlier (v ∷ numbers) f number i used = cases (Memᴰ.cases_cons i) (follow_unused (earlier ++ (v ∷ [])) numbers f.1 number)
    where
      cases : (number ≡ v) ⊎ In number numbers → (In number numbers → In number in_use → ⊥) → ⊥
      cases (inl e) later = clash (names_intro number in_use used) (subst (λ (x : ℕ). names x in_use ≡ false) (sym e) (right earlier v (f.0 0)).1)
      cases (inr k) later = later k used

  rules_follow : mark ≤ top_number → (earlier numbers : List ℕ) → RisingWithin (last_number 0 earlier) mark numbers → ((number : ℕ) → In number numbers → In number in_use → ⊥)
      → Follow (retired_judge mark in_use) earlier numbers
  rules_follow top earlier [] r unused = tt
  rules_follow top earlier (v ∷ numbers) r unused =
      let rises : misnumbered (last_number 0 earlier) mark v ≡ false = number_right (last_number 0 earlier) mark v r.0 r.1 top in
      let free : names v in_use ≡ false = false_of (names v in_use) (λ h. unused v (Memᴰ.head refl) (names_elim v in_use h)) in (
        λ place. refuse_passed (misnumbered (last_number 0 earlier) mark v || names v in_use) WrongRetired place (Ok tt) (rw (rises, free) refl),
        rules_follow top (earlier ++ (v ∷ [])) numbers (subst (λ (low : ℕ). RisingWithin low mark numbers) (sym (last_more 0 earlier v)) r.2) (λ number i. unused number (Memᴰ.tail i)),
      )

-- ---- path counts

counts_any_place : (counts : List ℕ) → AnyPlace (count_judge counts)
counts_any_place counts earlier place other count e =
    let wrong : Bool = not (eqb count (get_or counts (length earlier) 0)) in
    refuse_passed wrong DifferentCount other (Ok tt) (refuse_accepted wrong DifferentCount place (Ok tt) e).0

shown : (p : Bool) → not p ≡ false → p ≡ true
shown true e = refl
shown false e = sym e

-- they pass exactly if they are the counts that have to stand there
follow_counts : (front counts rest : List ℕ) → length rest ≡ length counts → Follow (count_judge (front ++ counts)) front rest → rest ≡ counts
follow_counts front [] [] e f = refl
follow_counts front [] (x ∷ rest) e f = absurd (omega (arith, e))
follow_counts front (c ∷ counts) [] e f = absurd (omega (arith, e))
follow_counts front (c ∷ counts) (x ∷ rest) e f =
    let passed : eqb x (get_or (front ++ (c ∷ counts)) (length front) 0) ≡ true = shown _ (refuse_accepted _ DifferentCount 0 (Ok tt) (f.0 0)).0 in
    let same : x ≡ c = eqb-true x _ passed ∙ here front c counts in
    let whole : front ++ (c ∷ counts) ≡ (front ++ (x ∷ [])) ++ counts = sym (append_assoc front (c ∷ []) counts) ∙ ap (λ (k : ℕ). (front ++ (k ∷ [])) ++ counts) (sym same) in
    let later : rest ≡ counts =
    follow_counts (front ++ (x ∷ [])) counts rest (omega (arith, e)) (subst (λ (l : List ℕ). Follow (count_judge l) (front ++ (x ∷ [])) rest) whole f.1) in
    ap (λ (k : ℕ). k ∷ rest) same ∙ ap (λ (l : List ℕ). c ∷ l) later
  where
    here : (front : List ℕ) (c : ℕ) (counts : List ℕ) → get_or (front ++ (c ∷ counts)) (length front) 0 ≡ c
    here [] c counts = refl
    here (y ∷ front) c counts = here front c counts

counts_follow : (front counts : List ℕ) → Follow (count_judge (front ++ counts)) front counts
counts_follow front [] = tt
counts_follow front (c ∷ counts) =
    let same : (front ++ (c ∷ [])) ++ counts ≡ front ++ (c ∷ counts) = append_assoc front (c ∷ []) counts in (
      λ place. refuse_passed (not (eqb c (get_or (front ++ (c ∷ counts)) (length front) 0))) DifferentCount place (Ok tt) (rw (eq-eqb c (get_or (front ++ (c ∷ counts)) (length front) 0) (sym (here front))) refl),
      subst (λ (l : List ℕ). Follow (count_judge l) (front ++ (c ∷ [])) counts) same (counts_follow (front ++ (c ∷ [])) counts),
    )
  where
    here : (front : List ℕ) → get_or (front ++ (c ∷ counts)) (length front) 0 ≡ c
    here [] = refl
    here (y ∷ front) = here front

-- ---- both

-- what is found keeps the rules, and its byte form stands there
pub record TailRead (bytes : List ℕ) (mark : ℕ) (in_use counts : List ℕ) (start : ℕ) (retired : List ℕ) (end : ℕ) : Type 0 where
  pub rules : RetiredRules mark in_use retired
  pub stands : Stands bytes start end (tail_bytes retired counts)

module _ (bytes : List ℕ) (mark : ℕ) (in_use counts : List ℕ) (start : ℕ) where
  retired_found : (retired : List ℕ) (next : ℕ) → Bytes bytes → retired_at bytes mark in_use start ≡ found retired next
      → RetiredRules mark in_use retired × Stands bytes start next (bytes_of (length retired) ++ forms_of retired)
  unfolding retired_at
  retired_found retired next small e =
      let a = then_found (field_at bytes start Count (retired_count_refusal start)) _ retired next e in
      let f = field_found bytes start Count (retired_count_refusal start) a.0 a.1 small a.2 in
      let r = fields_found bytes PartNumber (retired_judge mark in_use) (retired_any_place mark in_use) a.0 [] a.1 retired next small f.stands.inside a.3 in
      let counted : a.0 ≡ length retired = sym (ap length r.behind_earlier ∙ r.counted) in
      let follow : Follow (retired_judge mark in_use) [] retired = subst (Follow (retired_judge mark in_use) []) (sym r.behind_earlier) r.follow in
      let few : a.0 ≤ most_retired = ltb-false most_retired a.0 (refuse_accepted _ WrongRetired start (Ok tt) f.passed).0 in
      let front : Stands bytes start a.1 (bytes_of (length retired)) = subst (λ (k : ℕ). Stands bytes start a.1 (bytes_of k)) counted f.stands in
      let forms : Stands bytes a.1 next (forms_of retired) = subst (λ (l : List ℕ). Stands bytes a.1 next (forms_of l)) (sym r.behind_earlier) r.stands in (
        record { most = subst (λ (k : ℕ). k ≤ most_retired) counted few; rising = follow_rising mark in_use [] retired follow; unused = follow_unused mark in_use [] retired follow },
        stands_both front forms,
      )

  pub tail_found : (retired : List ℕ) (end : ℕ) → Bytes bytes → tail_at bytes mark in_use counts start ≡ found retired end → TailRead bytes mark in_use counts start retired end
  unfolding tail_at tail_bytes
  tail_found retired end small e =
      let a = then_found (retired_at bytes mark in_use start) _ retired end e in
      let b = then_found (counts_at bytes counts a.1) _ retired end a.3 in
      let same : a.0 ≡ retired = cc b.3 in
      let ends : b.1 ≡ end = cc b.3 in
      let first = retired_found a.0 a.1 small a.2 in
      let c = fields_found bytes Count (count_judge counts) (counts_any_place counts) (length counts) [] a.1 b.0 b.1 small first.1.inside b.2 in
      let right : c.rest ≡ counts = follow_counts [] counts c.rest c.counted c.follow in
      let last : Stands bytes a.1 b.1 (forms_of counts) = subst (λ (l : List ℕ). Stands bytes a.1 b.1 (forms_of l)) right c.stands in
      let whole : Stands bytes start b.1 (bytes_of (length a.0) ++ (forms_of a.0 ++ forms_of counts)) =
      subst (λ (l : List ℕ). Stands bytes start b.1 l) (append_assoc (bytes_of (length a.0)) (forms_of a.0) (forms_of counts)) (stands_both first.1 last) in
      subst (λ (l : List ℕ). TailRead bytes mark in_use counts start l end) same
      (record { rules = first.0; stands = subst (λ (k : ℕ). Stands bytes start k (bytes_of (length a.0) ++ (forms_of a.0 ++ forms_of counts))) ends whole })

  -- the byte form of retired numbers that keep the rules, and of these counts, is found
  pub tail_read : (retired rest : List ℕ) → mark ≤ top_number → RetiredRules mark in_use retired → AllAllowed Count counts → drop start bytes ≡ tail_bytes retired counts ++ rest
      → tail_at bytes mark in_use counts start ≡ found retired (start + length (tail_bytes retired counts))
  unfolding tail_at retired_at tail_bytes
  tail_read retired rest top r allowed e =
      let front : List ℕ = bytes_of (length retired) in
      let forms : drop start bytes ≡ front ++ (forms_of retired ++ (forms_of counts ++ rest)) =
      e ∙ append_assoc front (forms_of retired ++ forms_of counts) rest ∙ ap (λ (l : List ℕ). front ++ l) (append_assoc (forms_of retired) (forms_of counts) rest) in
      let after : drop (start + length front) bytes ≡ forms_of retired ++ (forms_of counts ++ rest) = behind bytes start front (forms_of retired ++ (forms_of counts ++ rest)) forms in
      let last : drop (start + length front + length (forms_of retired)) bytes ≡ forms_of counts ++ rest = behind bytes (start + length front) (forms_of retired) (forms_of counts ++ rest) after in
      let first : field_at bytes start Count (retired_count_refusal start) ≡ found (length retired) (start + length front) =
      field_read bytes start Count (retired_count_refusal start) (length retired) (forms_of retired ++ (forms_of counts ++ rest)) forms (omega (arith, r.most))
      (refuse_passed _ WrongRetired start (Ok tt) (le-ltb most_retired (length retired) r.most)) in
      let second : fields_at bytes PartNumber (retired_judge mark in_use) (length retired) [] (start + length front) ≡ found retired (start + length front + length (forms_of retired)) =
      fields_read bytes PartNumber (retired_judge mark in_use) retired [] (start + length front) (forms_of counts ++ rest) (rising_allowed mark 0 top retired r.rising)
      (rules_follow mark in_use top [] retired r.rising r.unused) after in
      let third : counts_at bytes counts (start + length front + length (forms_of retired)) ≡ found counts (start + length front + length (forms_of retired) + length (forms_of counts)) =
      fields_read bytes Count (count_judge counts) counts [] (start + length front + length (forms_of retired)) rest allowed (counts_follow [] counts) last in
      let ends : start + length front + length (forms_of retired) + length (forms_of counts) ≡ start + length (front ++ (forms_of retired ++ forms_of counts)) =
      omega (arith, length-append front (forms_of retired ++ forms_of counts), length-append (forms_of retired) (forms_of counts)) in
      simp (first, second, third, ends)
