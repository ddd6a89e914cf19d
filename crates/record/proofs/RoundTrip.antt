-- Read after write and write after read: an accepted record keeps the rules and has exactly one byte form, which is read as that record
-- wherever it stands.
-- Assumes nothing.
use mathlib.Core.Path.{◌≡◌, sym, ap, ◌∙◌, subst}
use mathlib.Core.List.{List, [], ◌++◌, append_assoc}
use Prim.Native.Nat.{ℕ, ◌+◌, ◌≤◌}
use native.Mathlib.Omega.{arith}
use lib.ListN.{length, drop, length-append}
use Rattle.codec.specs.ByteForm.{forms_of}
use Rattle.codec.specs.declared.Field.TheVariants.{Set}
use Rattle.codec.specs.Reads.{found}
use Rattle.codec.specs.Bytes.{Bytes}
use Rattle.codec.proofs.Found.{then_found, Stands, stands_both, behind}
use Rattle.codec.proofs.FieldReads.{Follow, fields_found, fields_read}
use Rattle.theory_orders.specs.Antichains.{most_sets}
use Rattle.record_head.specs.Headings.{Head, head_at}
use Rattle.record.specs.Records.{set_refusal, sets_at, Design, DesignAt, design_at, record_at}
use Rattle.record_head.specs.HeadingBytes.{head_bytes}
use Rattle.record.specs.RecordBytes.{record_bytes, DesignRules}
use Rattle.record_head.proofs.RoundTrip.{head_found, head_read}
use Rattle.record.proofs.Sets.{sets_any_place, follow_allowed, follow_within, follow_rising, follow_apart, rules_follow}

-- ---- the record

-- what is found as a record keeps the rules, its byte form stands there, and the sets' stretch is the end of it
pub record RecordRead (bytes : List ℕ) (start : ℕ) (here : DesignAt) (next : ℕ) : Type 0 where
  pub rules : DesignRules here.design
  pub sets_at_lem : sets_at bytes here.design.parts.count (length here.design.sets) [] here.begin ≡ found here.design.sets here.end
  pub sets : Stands bytes here.begin here.end (forms_of here.design.sets)
  pub last : here.end ≡ next
  pub stands : Stands bytes start next (record_bytes here.design)

pub record_found : (bytes : List ℕ) (start : ℕ) (here : DesignAt) (next : ℕ) → Bytes bytes → record_at bytes start ≡ found here next → RecordRead bytes start here next
unfolding record_at record_bytes
record_found bytes start here next small e =
    let a = then_found (head_at bytes start) _ here next e in
    let head : Head = a.0 in
    let begin : ℕ = a.1 in
    let n : ℕ = head.parts.count in
    let b = then_found (sets_at bytes n head.count [] begin) _ here next a.3 in
    let sets : List ℕ = b.0 in
    let end : ℕ = b.1 in
    let same : design_at head.parts sets begin end ≡ here = cc b.3 in
    let ends : end ≡ next = cc b.3 in
    let h = head_found bytes start head begin small a.2 in
    let s = fields_found bytes Set (set_refusal n) (sets_any_place n) head.count [] begin sets end small h.stands.inside b.2 in
    let counted : head.count ≡ length sets = sym (ap length s.behind_earlier ∙ s.counted) in
    let follow : Follow (set_refusal n) [] sets = subst (Follow (set_refusal n) []) (sym s.behind_earlier) s.follow in
    let forms : Stands bytes begin end (forms_of sets) = subst (λ (l : List ℕ). Stands bytes begin end (forms_of l)) (sym s.behind_earlier) s.stands in
    let front : Stands bytes start begin (head_bytes head.parts (length sets)) =
    subst (λ (k : ℕ). Stands bytes start begin (head_bytes head.parts k)) counted h.stands in
    subst (λ (w : DesignAt). RecordRead bytes start w next) same
    (record {
      rules = record {
        parts = h.parts;
        sets = record {
          some = subst (λ (k : ℕ). 1 ≤ k) counted h.some;
          most = subst (λ (k : ℕ). k ≤ most_sets) counted h.most;
          within = follow_within n [] sets follow;
          rising = follow_rising n 0 [] sets (λ x z. omega arith) follow;
          apart = λ a b m k. follow_apart n [] sets follow a b m k;
        };
      };
      sets_at_lem = ap (λ (k : ℕ). sets_at bytes n k [] begin) (sym counted) ∙ b.2;
      sets = forms;
      last = ends;
      stands = subst (λ (k : ℕ). Stands bytes start k (head_bytes head.parts (length sets) ++ forms_of sets)) ends (stands_both front forms);
    })

-- a design that keeps the rules is read where its byte form stands
pub record_read : (bytes : List ℕ) (start : ℕ) (d : Design) (rest : List ℕ) → DesignRules d → drop start bytes ≡ record_bytes d ++ rest
    → record_at bytes start ≡ found (design_at d.parts d.sets (start + length (head_bytes d.parts (length d.sets))) (start + length (record_bytes d))) (start + length (record_bytes d))
unfolding record_at record_bytes
record_read bytes start d rest r e =
    let front : List ℕ = head_bytes d.parts (length d.sets) in
    let forms : drop start bytes ≡ front ++ (forms_of d.sets ++ rest) = e ∙ append_assoc front (forms_of d.sets) rest in
    let first : head_at bytes start ≡ found (record { parts = d.parts; count = length d.sets }) (start + length front) =
    head_read bytes start d.parts (length d.sets) (forms_of d.sets ++ rest) r.parts r.sets.some r.sets.most forms in
    let second : sets_at bytes d.parts.count (length d.sets) [] (start + length front) ≡ found d.sets (start + length front + length (forms_of d.sets)) =
    let follow : Follow (set_refusal d.parts.count) [] d.sets = rules_follow d.parts.count d.sets r.sets in
    fields_read bytes Set (set_refusal d.parts.count) d.sets [] (start + length front) rest (follow_allowed d.parts.count r.parts.rules.few [] d.sets follow) follow
    (behind bytes start front (forms_of d.sets ++ rest) forms) in
    let ends : start + length front + length (forms_of d.sets) ≡ start + length (front ++ forms_of d.sets) = omega (arith, length-append front (forms_of d.sets)) in
    simp (first, second, ends)
