-- Along a stretch of a line whose records are all of edition 2, every number that left in it is one of the retired numbers, or these are 64 and all
-- higher.
-- Assumes nothing.
use mathlib.Core.Path.{◌≡◌, refl, sym, ◌∙◌, subst}
use mathlib.Core.List.Memᴰ
use mathlib.Core.List.{List, [], ◌∷◌, ◌++◌}
use mathlib.Core.Logic.{◌⊎◌, inl, inr, ⊎_elim}
use Prim.Native.Nat.{ℕ}
use native.Mathlib.Omega.{arith}
use Rattle.std.specs.Prelude.{Ok, Err}
use Rattle.answer.specs.Outcome.{Numbered}
use Rattle.codec.specs.Bytes.{Bytes}
use Rattle.codec.specs.Reads.{found}
use Rattle.record_parts.specs.Lines.{In}
use Rattle.record.specs.Records.{Design}
use Rattle.record_retired.proofs.Filing.{filed_there, filed_still}
use Rattle.record_editions.specs.declared.Edition.{Edition}
use Rattle.record_editions.specs.declared.Edition.TheVariants.{First, Second}
use Rattle.record_editions.specs.Editions.{Stored, design_of, retired_in, edition_of, whole_stored}
use Rattle.record_editions.specs.EditionBytes.{StoredRules}
use Rattle.record_editions.specs.Contents.{edition_number, edition_given}
use Rattle.record_editions.proofs.RoundTrip.{stored_written}
use Rattle.record_editions.proofs.Whole.{edition_read}
use Rattle.record_lines.specs.Changes.{Change, changed, left_in}
use Rattle.record_lines.specs.Records.{changed_stored}
use Rattle.record_lines.specs.Lines.{Call, outcome_of, record_after, last_of, unless_refused, made_by, along, left_by, stored_after, SecondThroughout, Filed}
use Rattle.record_lines.proofs.Stored.{changed_design, changed_retired, retired_rules}
use Rattle.record_lines.proofs.Written.{made_stored}
use Rattle.record_lines.proofs.Lines.{follows}

-- the edition of what was read is the one that is given
second_read_lem : (bytes : List ℕ) (s : Stored) (next : ℕ) → whole_stored bytes ≡ found s next → edition_given bytes ≡ Ok 2 → edition_of s ≡ Second
second_read_lem bytes s next read two = cases (edition_of s) (sym (edition_read bytes s next read) ∙ two)
  where
    cases : (edition : Edition) → ◌≡◌ {A = Numbered} (Ok (edition_number edition)) (Ok 2) → edition ≡ Second
    cases First e = let z : ◌≡◌ {A = ℕ} 1 2 = cc e in absurd (omega (arith, z))
    cases Second e = refl

-- one change that writes edition 2: what left in it is filed, and what was filed before stays so
one_filed : (change : Change) (s : Stored) → StoredRules s → edition_of (changed_stored change s) ≡ Second → (number : ℕ)
    → In number (left_in change (design_of s)) ⊎ Filed number (retired_in s) → Filed number (retired_in (changed_stored change s))
one_filed change s r two number i =
    let q = retired_rules s r in
    let gone : List ℕ = left_in change (design_of s) in
    subst (Filed number) (sym (changed_retired change s two))
    (⊎_elim
    (λ left. filed_there 0 (design_of s).parts.mark gone (retired_in s) q.rising (inl left))
    (λ old. filed_still 0 (design_of s).parts.mark gone (retired_in s) q.rising old)
    i)

-- along a line
filed_along : (calls : List Call) (bytes : List ℕ) (s : Stored) (next : ℕ) → whole_stored bytes ≡ found s next → StoredRules s → SecondThroughout calls bytes → (number : ℕ)
    → In number (left_by calls bytes (design_of s)) ⊎ Filed number (retired_in s) → Filed number (retired_in (stored_after (made_by calls bytes) s))
filed_along [] bytes s next read r two number i = ⊎_elim (λ left. absurd (Memᴰ.not-nil left)) (λ old. old) i
filed_along (call ∷ calls) bytes s next read r two number i =
    cases (outcome_of call bytes).answer refl two.1 (λ k. filed_along calls bytes s next read r k number) (λ n now t k q rest. filed_along calls now t n k q rest number) i
  where
    -- the rest of the line behind an answer
    now : Numbered → List ℕ
    now answer = record_after answer (outcome_of call bytes).buffer bytes

    made : Numbered → List Change
    made answer = unless_refused answer call.change ++ made_by calls (now answer)

    first_second : (calls : List Call) (bytes : List ℕ) → SecondThroughout calls bytes → edition_given bytes ≡ Ok 2
    first_second [] bytes h = h
    first_second (c ∷ cs) bytes h = h.0

    cases : (answer : Numbered) → (outcome_of call bytes).answer ≡ answer → SecondThroughout calls (now answer)
        → (SecondThroughout calls bytes → In number (left_by calls bytes (design_of s)) ⊎ Filed number (retired_in s) → Filed number (retired_in (stored_after (made_by calls bytes) s)))
        → ((n : ℕ) (now : List ℕ) (t : Stored) → whole_stored now ≡ found t n → StoredRules t → SecondThroughout calls now
        → In number (left_by calls now (design_of t)) ⊎ Filed number (retired_in t) → Filed number (retired_in (stored_after (made_by calls now) t)))
        → In number (along left_in (made answer) (design_of s)) ⊎ Filed number (retired_in s) → Filed number (retired_in (stored_after (made answer) s))
    cases (Err refusal) e rest same later i = same rest i
    cases (Ok n) e rest same later i =
        let change : Change = call.change in
        let m = made_stored change bytes call.buffer n e s next read r in
        let t : Stored = changed_stored change s in
        let after_bytes : List ℕ = now (Ok n) in
        let here : edition_of t ≡ Second = second_read_lem after_bytes t n m.accepted_again (first_second calls after_bytes rest) in
        let moved : (x : Design) → design_of t ≡ x → In number (along left_in (made_by calls after_bytes) x) → In number (left_by calls after_bytes (design_of t)) =
        λ x same j. subst (λ (y : Design). In number (along left_in (made_by calls after_bytes) y)) (sym same) j in
        later n after_bytes t m.accepted_again m.again rest
        (⊎_elim
        (λ left. ⊎_elim
        (λ now-left. inr (one_filed change s r here number (inl now-left)))
        (λ later-left. inl (moved (changed change (design_of s)) (changed_design change s) later-left))
        (Memᴰ.append_cases (left_in change (design_of s)) left))
        (λ old. inr (one_filed change s r here number (inr old)))
        i)

-- Every number that left along such a stretch, and every one that was retired when it began.
pub left_is_filed : (bytes : List ℕ) (s : Stored) (next : ℕ) → Bytes bytes → whole_stored bytes ≡ found s next → (calls : List Call) → SecondThroughout calls bytes
    → (number : ℕ) → In number (left_by calls bytes (design_of s)) ⊎ In number (retired_in s) → (last : Stored) (end : ℕ) → whole_stored (last_of calls bytes) ≡ found last end
    → Filed number (retired_in last)
left_is_filed bytes s next small read calls two number i last end at_end =
    let rules = (stored_written bytes s next small read).0 in
    let f = follows calls bytes s next read rules in
    let same : last ≡ stored_after (made_by calls bytes) s = cc (at_end, f.read) in
    subst (λ (t : Stored). Filed number (retired_in t)) (sym same)
    (filed_along calls bytes s next read rules two number (⊎_elim (λ left. inl left) (λ old. inr (inl old)) i))
