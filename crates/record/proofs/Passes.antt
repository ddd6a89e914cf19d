-- The two passes over the sets of a record decide as reading them one by one does: among rising sets, a set holds an earlier one exactly if it
-- is not minimal among them, and a set that the first pass refuses is refused for the same reason.
-- Assumes nothing.
use mathlib.Core.Path.{◌≡◌, refl, sym, ap, ap₂, ◌∙◌, subst}
use mathlib.Core.Bool.{Bool, true, false, not, ◌&&◌}
use mathlib.Core.List.{List, [], ◌∷◌, ◌++◌, append_assoc, append-nil, Memᴰ}
use mathlib.Core.Logic.{◌⊎◌, inl, inr}
use Prim.Native.Nat.{ℕ, zero, suc, ◌-◌, ◌^◌, ◌≤◌, ◌<◌, min}
use native.Mathlib.Nat.{lt_irrefl, lt_of_lt_of_le, lt_of_le_of_lt, min-eq_left, sub-le}
use native.Mathlib.Omega.{arith}
use borrow.Author.Tests.{leb-true, eqb-false}
use lib.Dec.{leb, eqb}
use lib.ListN.{length}
use lib.Pow.{pow_mono}
use Rattle.std.specs.Prelude.{Ok, Err}
use Rattle.answer.specs.Outcome.{at, refuse, Verdict}
use Rattle.answer.specs.declared.Reason.TheVariants.{UnknownPart, EmptySet, WrongSet}
use Rattle.answer.specs.declared.Refusal.{Refusal}
use Rattle.codec.specs.declared.Field.TheVariants.{Set}
use Rattle.codec.specs.Reads.{Read, found, refused, then, unless}
use Rattle.codec.specs.Reading.{number_at}
use Rattle.codec.specs.FieldReads.{judged, field_at, fields_at}
use Rattle.theory_sets.specs.Masks.{has, holds, Rising, RisingFrom}
use Rattle.theory_sets.specs.Structures.{listed, minimal}
use Rattle.numbers.proofs.Bools.{clash, false_of, true_or_false, same_test, not_not}
use Rattle.theory_sets.proofs.Lists.{listed_intro, listed_elim, listed_semicoherent, some_entry}
use Rattle.theory_sets.proofs.Masks.{holds_refl, holds_trans, holds_le, holds_antisym}
use Rattle.theory_sets.proofs.Ranges.{any_same, rising_above}
use Rattle.theory_sets.proofs.Structures.{minimal_least, minimal_intro}
use Rattle.structure_words.specs.Words.{in_words, words_of, among}
use Rattle.structure_closure.specs.Closure.{without, spread, irredundant}
use Rattle.structure_words.proofs.Words.{in_words_words_of}
use Rattle.structure_closure.proofs.ListedSets.{spread_listed}
use Rattle.structure_closure.proofs.MinimalSets.{irredundant_minimal}
use Rattle.structure.proofs.Walks.{irredundant_same, spread_same}
use Rattle.record_head.specs.Headings.{last_number}
use Rattle.record.specs.Records.{misplaced, set_refusal, sets_at}
use Rattle.record.specs.Inside.{rising_refusal, Pass, passed, pass_on, rising_at, nested_on, nested_at, decided}
use Rattle.record.proofs.Sets.{misplaced_none, none_misplaced, rising_before}
use Rattle.record.proofs.Marking.{climb}

-- ---- minimal among rising sets

-- a set of a rising list is minimal in what the list gives exactly if 24 passes it after the sets before it
pub minimal_at : (n : ℕ) (all earlier : List ℕ) (v : ℕ) (rest : List ℕ) → Rising all → ((a : ℕ) → Memᴰ a all → (a < 2 ^ n) × (0 < a)) → all ≡ earlier ++ (v ∷ rest)
    → minimal n (listed all) v ≡ not (misplaced earlier v)
minimal_at n all earlier v rest rising within e = same_test (minimal n (listed all) v) (not (misplaced earlier v)) there back
  where
    here : Memᴰ v all
    here = subst (Memᴰ v) (sym e) (mathlib.Core.List.Memᴰ.append_right earlier (mathlib.Core.List.Memᴰ.head refl))

    before : (c : ℕ) → Memᴰ c earlier → c < v
    before = rising_before 0 earlier v rest (subst Rising e rising)

    after : (c : ℕ) → Memᴰ c rest → v < c
    after c m = rising_above (suc v) rest (tail 0 earlier (subst Rising e rising)) c m
      where
        tail : (b : ℕ) (front : List ℕ) → RisingFrom b (front ++ (v ∷ rest)) → RisingFrom (suc v) rest
        tail b [] r = r.1
        tail b (x ∷ front) r = tail (suc x) front r.1

    there : minimal n (listed all) v ≡ true → not (misplaced earlier v) ≡ true
    there m =
        ap not (none_misplaced earlier v (λ c k.
        let inside : Memᴰ c all = subst (Memᴰ c) (sym e) (mathlib.Core.List.Memᴰ.append_left (v ∷ rest) k) in (
          before c k,
          false_of (holds v c) (λ h.
              let same : v ≡ c = minimal_least n (listed all) v c m (within c inside).0 (listed_intro all c c inside (holds_refl c)) h in
              lt_irrefl c (subst (λ (z : ℕ). c < z) same (before c k))),
        )))

    back : not (misplaced earlier v) ≡ true → minimal n (listed all) v ≡ true
    back t = minimal_intro n (listed all) v (listed_intro all v v here (holds_refl v)) (λ b hb works held.
        let found = listed_elim all b works in
        same_set b held found.0 (subst (Memᴰ found.0) e found.1) found.2)
      where
        free : misplaced earlier v ≡ false
        free = sym (not_not (misplaced earlier v)) ∙ ap not t

        same_set : (b : ℕ) → holds v b ≡ true → (c : ℕ) → Memᴰ c (earlier ++ (v ∷ rest)) → holds b c ≡ true → v ≡ b
        same_set b held c m k = place (mathlib.Core.List.Memᴰ.append_cases earlier m)
          where
            within_v : holds v c ≡ true
            within_v = holds_trans v b c held k

            behind_it : (c ≡ v) ⊎ Memᴰ c rest → v ≡ b
            behind_it (inl same) = holds_antisym v b held (subst (λ (z : ℕ). holds b z ≡ true) same k)
            behind_it (inr later) = absurd (lt_irrefl v (lt_of_lt_of_le (after c later) (holds_le v c within_v)))

            place : Memᴰ c earlier ⊎ Memᴰ c (v ∷ rest) → v ≡ b
            place (inl first) = clash within_v (misplaced_none earlier v free c first).1
            place (inr second) = behind_it (mathlib.Core.List.Memᴰ.cases_cons second)

-- ---- one set in both passes

last_in : (before : ℕ) (earlier : List ℕ) → (last_number before earlier ≡ before) ⊎ Memᴰ (last_number before earlier) earlier
last_in before [] = inl refl
last_in before (x ∷ earlier) = cases (last_in x earlier)
  where
    cases : (last_number x earlier ≡ x) ⊎ Memᴰ (last_number x earlier) earlier → (last_number x earlier ≡ before) ⊎ Memᴰ (last_number x earlier) (x ∷ earlier)
    cases (inl e) = inr (mathlib.Core.List.Memᴰ.head e)
    cases (inr m) = inr (mathlib.Core.List.Memᴰ.tail m)

-- a set that is not above the last one is one that 24 refuses
fallen : (earlier : List ℕ) (v : ℕ) → eqb v 0 ≡ false → leb v (last_number 0 earlier) ≡ true → misplaced earlier v ≡ true
fallen earlier v some low = cases (true_or_false (misplaced earlier v))
  where
    cases : (misplaced earlier v ≡ true) ⊎ (misplaced earlier v ≡ false) → misplaced earlier v ≡ true
    cases (inl t) = t
    cases (inr f) = place (last_in 0 earlier)
      where
        place : (last_number 0 earlier ≡ 0) ⊎ Memᴰ (last_number 0 earlier) earlier → misplaced earlier v ≡ true
        place (inl none) = absurd (eqb-false v 0 some (omega (arith, leb-true v (last_number 0 earlier) low)))
        place (inr m) = absurd (omega (arith, leb-true v (last_number 0 earlier) low, (misplaced_none earlier v f (last_number 0 earlier) m).0))

-- what the two judgements of one set say: both pass on to 24 against all earlier ones, or both refuse alike
abbrev Alike : ℕ → List ℕ → ℕ → ℕ → Type 0
Alike n earlier start v =
    ((rising_refusal n (last_number 0 earlier) start v ≡ Ok tt) × (set_refusal n earlier start v ≡ refuse (misplaced earlier v) WrongSet start (Ok tt)))
    ⊎ ((why : Refusal) × (rising_refusal n (last_number 0 earlier) start v ≡ Err why) × (set_refusal n earlier start v ≡ Err why))

alike : (n : ℕ) (earlier : List ℕ) (start v : ℕ) → Alike n earlier start v
alike n earlier start v = cases (leb (2 ^ n) v) (eqb v 0) refl (leb v (last_number 0 earlier)) refl
  where
    cases : (unknown empty : Bool) → eqb v 0 ≡ empty → (low : Bool) → leb v (last_number 0 earlier) ≡ low
        → ((refuse unknown UnknownPart start (refuse empty EmptySet start (refuse low WrongSet start (Ok tt))) ≡ Ok tt) × (refuse unknown UnknownPart start (refuse empty EmptySet start (refuse (misplaced earlier v) WrongSet start (Ok tt))) ≡ refuse (misplaced earlier v) WrongSet start (Ok tt)))
        ⊎ ((why : Refusal) × (refuse unknown UnknownPart start (refuse empty EmptySet start (refuse low WrongSet start (Ok tt))) ≡ Err why) × (refuse unknown UnknownPart start (refuse empty EmptySet start (refuse (misplaced earlier v) WrongSet start (Ok tt))) ≡ Err why))
    cases true empty z low l = inr (at UnknownPart start, refl, refl)
    cases false true z low l = inr (at EmptySet start, refl, refl)
    cases false false z true l = inr (at WrongSet start, refl, ap (λ (t : Bool). refuse t WrongSet start (Ok tt)) (fallen earlier v z l))
    cases false false z false l = inl (refl, refl)

-- ---- the passes

module _ (bytes : List ℕ) (n : ℕ) (p : Pass) (kept : ℕ → Bool) (rising : Rising p.sets) (within : (a : ℕ) → Memᴰ a p.sets → (a < 2 ^ n) × (0 < a))
    (minimal-kept : (a : ℕ) → Memᴰ a p.sets → kept a ≡ minimal n (listed p.sets) a) where
  record Decides (more : ℕ) (earlier : List ℕ) (start : ℕ) : Type 0 where
    rest : List ℕ
    behind_earlier : p.sets ≡ earlier ++ rest
    same : sets_at bytes n more earlier start ≡ decided (nested_at bytes kept (length rest) start) p

  nothing_more : (more : ℕ) (earlier : List ℕ) (start : ℕ) (v : Verdict) → p ≡ passed earlier start v → sets_at bytes n more earlier start ≡ decided (Ok tt) (passed earlier start v) → Decides more earlier start
  unfolding nested_at
  nothing_more more earlier start v e d = record {
    rest = [];
    behind_earlier = ap (λ (q : Pass). q.sets) e ∙ sym (append-nil earlier);
    same = d ∙ ap (decided (Ok tt)) (sym e);
  }

  decides : (more : ℕ) (earlier : List ℕ) (start : ℕ) → p ≡ rising_at bytes n more earlier start → Decides more earlier start
  unfolding rising_at fields_at field_at nested_at
  decides zero earlier start e = nothing_more zero earlier start (Ok tt) e refl
  decides (suc more) earlier start e = number (λ v next k. decides more (earlier ++ (v ∷ [])) next k) (number_at bytes start Set) refl
    where
      later : ℕ → ℕ → Pass
      later v next = rising_at bytes n more (earlier ++ (v ∷ [])) next

      goes_on : ℕ → ℕ → Read (List ℕ)
      goes_on v next = sets_at bytes n more (earlier ++ (v ∷ [])) next

      number : ((v next : ℕ) → p ≡ later v next → Decides more (earlier ++ (v ∷ [])) next) → (r : Read ℕ) → number_at bytes start Set ≡ r → Decides (suc more) earlier start
      number on (refused why) read =
          nothing_more (suc more) earlier start (Err why) (e ∙ ap (λ (f : Read ℕ). pass_on earlier start (judged (rising_refusal n (last_number 0 earlier) start) f) later) read)
          (ap (λ (f : Read ℕ). then (judged (set_refusal n earlier start) f) goes_on) read)
      number on (found v next) read = verdicts (alike n earlier start v)
        where
          pass_is : p ≡ pass_on earlier start (unless (rising_refusal n (last_number 0 earlier) start v) (found v next)) later
          pass_is = e ∙ ap (λ (f : Read ℕ). pass_on earlier start (judged (rising_refusal n (last_number 0 earlier) start) f) later) read

          sets_are : sets_at bytes n (suc more) earlier start ≡ then (unless (set_refusal n earlier start v) (found v next)) goes_on
          sets_are = ap (λ (f : Read ℕ). then (judged (set_refusal n earlier start) f) goes_on) read

          verdicts : Alike n earlier start v → Decides (suc more) earlier start
          verdicts (inr both) =
              nothing_more (suc more) earlier start (Err both.0)
              (pass_is ∙ ap (λ (w : Verdict). pass_on earlier start (unless w (found v next)) later) both.1)
              (sets_are ∙ ap (λ (w : Verdict). then (unless w (found v next)) goes_on) both.2)
          verdicts (inl both) =
              let d = on v next (pass_is ∙ ap (λ (w : Verdict). pass_on earlier start (unless w (found v next)) later) both.0) in
              let whole : p.sets ≡ earlier ++ (v ∷ d.rest) = d.behind_earlier ∙ append_assoc earlier (v ∷ []) d.rest in
              let here : Memᴰ v p.sets = subst (Memᴰ v) (sym whole) (mathlib.Core.List.Memᴰ.append_right earlier (mathlib.Core.List.Memᴰ.head refl)) in
              let keeps : kept v ≡ not (misplaced earlier v) = minimal-kept v here ∙ minimal_at n p.sets earlier v d.rest rising within whole in
              record {
                rest = v ∷ d.rest;
                behind_earlier = whole;
                same =
                    sets_are ∙ ap (λ (w : Verdict). then (unless w (found v next)) goes_on) both.1
                    ∙ twice (misplaced earlier v) (kept v) keeps (nested_at bytes kept (length d.rest) next) goes_on d.same
                    ∙ sym (ap (λ (f : Read ℕ). decided (nested_on kept start f (λ after. nested_at bytes kept (length d.rest) after)) p) read);
              }
            where
              twice : (wrong keep : Bool) → keep ≡ not wrong → (nested : Verdict) (goes : ℕ → ℕ → Read (List ℕ)) → goes v next ≡ decided nested p
                  → then (unless (refuse wrong WrongSet start (Ok tt)) (found v next)) goes ≡ decided (refuse (not keep) WrongSet start nested) p
              twice true true k nested goes s = clash {p = true} refl k
              twice true false k nested goes s = refl
              twice false true k nested goes s = s
              twice false false k nested goes s = clash {p = true} refl (sym k)

-- ---- from the words

irredundant_below : (n : ℕ) (f g : ℕ → Bool) → ((b : ℕ) → b < 2 ^ n → f b ≡ g b) → (a : ℕ) → a < 2 ^ n → irredundant n f a ≡ irredundant n g a
unfolding irredundant
irredundant_below n f g same a h =
    ap₂ (λ (p q : Bool). p && not q) (same a h)
    (any_same (λ part. without part f a) (λ part. without part g a) n (λ part l.
    ap (λ (p : Bool). has a part && p) (same (a - 2 ^ part) (lt_of_le_of_lt (sub-le a (2 ^ part)) h))))

-- what carrying and trimming the marked sets leaves of them is the minimal ones
pub kept_minimal : (n : ℕ) (sets : List ℕ) → n ≤ 16 → ((a : ℕ) → Memᴰ a sets → (a < 2 ^ n) × (0 < a)) → (a : ℕ) → Memᴰ a sets
    → in_words (words_of (irredundant (min n 16) (in_words (words_of (spread (min n 16) (in_words (words_of (among sets)))))))) a ≡ minimal n (listed sets) a
kept_minimal n sets few within a m =
    let inside : 2 ^ n ≤ 65536 = pow_mono few in
    let small : a < 2 ^ n = (within a m).0 in
    let near : a < 65536 = omega arith in
    let reached : ℕ → Bool = spread n (in_words (words_of (among sets))) in
    ap (λ (k : ℕ). in_words (words_of (irredundant k (in_words (words_of (spread k (in_words (words_of (among sets)))))))) a) (min-eq_left few)
    ∙ in_words_words_of (irredundant n (in_words (words_of reached))) a near
    ∙ irredundant_same (in_words (words_of reached)) reached (in_words_words_of reached) n a near
    ∙ irredundant_below n reached (listed sets) (λ b h.
    spread_same (in_words (words_of (among sets))) (among sets) (in_words_words_of (among sets)) n b (lt_of_lt_of_le h inside)
    ∙ spread_listed n sets (λ c k. (within c k).0) b h) a small
    ∙ irredundant_minimal n (listed sets) (listed_semicoherent n sets (some_entry sets m) within) a small

-- the two passes decide what reading the sets one by one does
pub passes_decide : (bytes : List ℕ) (n count start : ℕ) → n ≤ 16 → sets_at bytes n count [] start
    ≡ decided (nested_at bytes (in_words (words_of (irredundant (min n 16) (in_words (words_of (spread (min n 16) (in_words (words_of (among (rising_at bytes n count [] start).sets))))))))) (length (rising_at bytes n count [] start).sets) start) (rising_at bytes n count [] start)
passes_decide bytes n count start few =
    let p : Pass = rising_at bytes n count [] start in
    let c = climb bytes n count [] start in
    let within : (a : ℕ) → Memᴰ a p.sets → (a < 2 ^ n) × (0 < a) = subst (λ (l : List ℕ). (a : ℕ) → Memᴰ a l → (a < 2 ^ n) × (0 < a)) (sym c.behind_earlier) c.within in
    let kept : ℕ → Bool = in_words (words_of (irredundant (min n 16) (in_words (words_of (spread (min n 16) (in_words (words_of (among p.sets)))))))) in
    let d = decides bytes n p kept (lower p.sets (subst (RisingFrom 1) (sym c.behind_earlier) c.rising)) within (kept_minimal n p.sets few within) count [] start refl in
    d.same ∙ ap (λ (l : List ℕ). decided (nested_at bytes kept (length l) start) p) (sym d.behind_earlier)
  where
    lower : (sets : List ℕ) → RisingFrom 1 sets → Rising sets
    lower [] r = tt
    lower (x ∷ sets) r = (omega arith, r.1)
