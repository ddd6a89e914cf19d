-- The two passes over the sets of a record as walks: the first marks them, and the second looks for one that is not kept.
-- Assumes nothing.
use mathlib.Core.Path.{◌≡◌, refl, sym, ap, ap₂, ◌∙◌, subst}
use mathlib.Core.Bool.{Bool, true, false, not, ◌||◌}
use mathlib.Core.List.Memᴰ
use mathlib.Core.List.{List, [], ◌∷◌, ◌++◌, append_assoc, append-nil, Memᴰ}
use mathlib.Core.Logic.{◌⊎◌, inl, inr}
use Prim.Native.Nat.{ℕ, zero, suc, ◌+◌, ◌-◌, ◌*◌, ◌/◌, ◌%◌, ◌^◌, ◌≤◌, ◌<◌}
use native.Mathlib.Nat.{add-zero, sub-zero, one-mul, mod-lt, mod-eq_of_lt, zero-lt-suc}
use native.Mathlib.Numerals.{add-one}
use native.Mathlib.Omega.{arith}
use borrow.Author.Tests.{leb-false}
use lib.Dec.{eqb, leb}
use lib.ListN.{length, get_or, set, replicate, length-append, get_or-append}
use lib.Pow.{pow_mono, pow-lt}
use lib.Seq.{get_or-append-add}
use Rattle.std.specs.Prelude.{Ok, Err}
use Rattle.answer.specs.Outcome.{at, refuse, Verdict}
use Rattle.answer.specs.declared.Reason.TheVariants.{WrongSet}
use Rattle.answer.specs.declared.Refusal.{Refusal}
use Rattle.answer.proofs.Outcomes.{refuse_accepted}
use Rattle.answer.proofs.Checks.{mask_right}
use Rattle.codec.specs.declared.Field.TheVariants.{Set}
use Rattle.codec.specs.Reads.{Read, found, refused}
use Rattle.codec.specs.Reading.{number_at}
use Rattle.codec.specs.FieldReads.{field_at}
use Rattle.codec.proofs.Found.{field_checked}
use Rattle.theory_sets.specs.Masks.{any, RisingFrom, join}
use Rattle.theory_sets.proofs.Ranges.{any_same}
use Rattle.structure_words.specs.Words.{words_of, among}
use Rattle.structure_words.proofs.Words.{words_of_none, words_of_same, marked_more}
use Rattle.record_head.specs.Headings.{last_number}
use Rattle.record.specs.Inside.{rising_refusal, Pass, passed, pass_on, rising_at, marked_of, nested_on, nested_at}
use Rattle.record_head.proofs.PartNumbers.{last_more}

-- ---- a set more among those marked

among_more : (list : List ℕ) (m a : ℕ) → among (list ++ (m ∷ [])) a ≡ among list a || eqb m a
unfolding any
among_more list m a =
    let all : List ℕ = list ++ (m ∷ []) in
    let long : length all ≡ suc (length list) = length-append list (m ∷ []) ∙ add-one (length list) in
    let here : get_or all (length list) 0 ≡ m = ap (λ (k : ℕ). get_or all k 0) (sym (add-zero (length list))) ∙ get_or-append-add list (m ∷ []) 0 0 in
    ap (any (λ i. eqb (get_or all i 0) a)) long
    ∙ ap₂ (λ (p q : Bool). p || q)
    (any_same (λ i. eqb (get_or all i 0) a) (λ i. eqb (get_or list i 0) a) (length list) (λ i h. ap (λ (x : ℕ). eqb x a) (get_or-append list (m ∷ []) 0 i h)))
    (ap (λ (x : ℕ). eqb x a) here)

pub marked_one : (list : List ℕ) (m : ℕ) → m < 65536 → set (words_of (among list)) (m / 64) (join (get_or (words_of (among list)) (m / 64) 0) (1 * 2 ^ (m % 64) % 2 ^ 64)) ≡ words_of (among (list ++ (m ∷ [])))
marked_one list m h =
    let bit : 1 * 2 ^ (m % 64) % 2 ^ 64 ≡ 2 ^ (m % 64) =
    ap (λ (x : ℕ). x % 2 ^ 64) (one-mul (2 ^ (m % 64))) ∙ mod-eq_of_lt (pow-lt (mod-lt m (zero-lt-suc 63))) in
    ap (λ (b : ℕ). set (words_of (among list)) (m / 64) (join (get_or (words_of (among list)) (m / 64) 0) b)) bit
    ∙ marked_more (among list) m h
    ∙ words_of_same (λ a. among list a || eqb m a) (among (list ++ (m ∷ []))) (λ a l. sym (among_more list m a))

-- ---- a set that passes

pub rising_right : (n previous place set : ℕ) → rising_refusal n previous place set ≡ Ok tt → (set < 2 ^ n) × (0 < set) × (previous < set)
rising_right n previous place set e =
    let known = mask_right n place set (refuse (leb set previous) WrongSet place (Ok tt)) e in
    (known.0, known.1, leb-false set previous (refuse_accepted (leb set previous) WrongSet place (Ok tt) known.2).0)

-- what the first pass reads behind the earlier sets rises above them and is of n parts
pub record Climb (bytes : List ℕ) (n more : ℕ) (earlier : List ℕ) (start : ℕ) : Type 0 where
  pub rest : List ℕ
  pub behind_earlier : (rising_at bytes n more earlier start).sets ≡ earlier ++ rest
  pub rising : RisingFrom (suc (last_number 0 earlier)) rest
  pub within : (a : ℕ) → Memᴰ a rest → (a < 2 ^ n) × (0 < a)

split : (f : Read ℕ) → ((v : ℕ) × (next : ℕ) × (f ≡ found v next)) ⊎ ((why : Refusal) × (f ≡ refused why))
split (found v next) = inl (v, next, refl)
split (refused why) = inr (why, refl)

pub climb : (bytes : List ℕ) (n more : ℕ) (earlier : List ℕ) (start : ℕ) → Climb bytes n more earlier start
unfolding rising_at
climb bytes n zero earlier start =
    record { rest = []; behind_earlier = sym (append-nil earlier); rising = tt; within = λ a m. absurd (Memᴰ.not-nil m) }
climb bytes n (suc more) earlier start =
    cases (split (field_at bytes start Set (rising_refusal n (last_number 0 earlier) start))) (λ v next. climb bytes n more (earlier ++ (v ∷ [])) next)
  where
    later : ℕ → ℕ → Pass
    later v next = rising_at bytes n more (earlier ++ (v ∷ [])) next

    cases : ((v : ℕ) × (next : ℕ) × (field_at bytes start Set (rising_refusal n (last_number 0 earlier) start) ≡ found v next)) ⊎ ((why : Refusal) × (field_at bytes start Set (rising_refusal n (last_number 0 earlier) start) ≡ refused why))
        → ((v next : ℕ) → Climb bytes n more (earlier ++ (v ∷ [])) next) → Climb bytes n (suc more) earlier start
    cases (inr w) on =
        record {
          rest = [];
          behind_earlier = ap (λ (f : Read ℕ). (pass_on earlier start f later).sets) w.1 ∙ sym (append-nil earlier);
          rising = tt;
          within = λ a m. absurd (Memᴰ.not-nil m);
        }
    cases (inl f) on =
        let v : ℕ = f.0 in
        let c = on v f.1 in
        let right = rising_right n (last_number 0 earlier) start v (field_checked bytes start Set (rising_refusal n (last_number 0 earlier) start) v f.1 f.2) in
        record {
          rest = v ∷ c.rest;
          behind_earlier = ap (λ (f : Read ℕ). (pass_on earlier start f later).sets) f.2 ∙ c.behind_earlier ∙ append_assoc earlier (v ∷ []) c.rest;
          rising = (right.2, subst (λ (low : ℕ). RisingFrom (suc low) c.rest) (last_more 0 earlier v) c.rising);
          within = λ a m. member v c.rest (right.0, right.1) c.within a m;
        }
      where
        member : (v : ℕ) (rest : List ℕ) → (v < 2 ^ n) × (0 < v) → ((a : ℕ) → Memᴰ a rest → (a < 2 ^ n) × (0 < a)) → (a : ℕ) → Memᴰ a (v ∷ rest) → (a < 2 ^ n) × (0 < a)
        member v rest first others a m = place (Memᴰ.cases_cons m)
          where
            place : (a ≡ v) ⊎ Memᴰ a rest → (a < 2 ^ n) × (0 < a)
            place (inl e) = subst (λ (z : ℕ). (z < 2 ^ n) × (0 < z)) (sym e) first
            place (inr k) = others a k

-- ---- the walk

pub record MarkWalk (bytes : List ℕ) (n count start : ℕ) (words : List ℕ) (previous next read : ℕ) : Type 0 where
  pub earlier : List ℕ
  pub within : read ≤ count
  pub counted : length earlier ≡ read
  pub marks : words ≡ words_of (among earlier)
  pub last : previous ≡ last_number 0 earlier
  pub rest : rising_at bytes n (count - read) earlier next ≡ rising_at bytes n count [] start

pub mark_walk_none : (bytes : List ℕ) (n count start : ℕ) → MarkWalk bytes n count start (replicate 1024 0) 0 start 0
unfolding any
mark_walk_none bytes n count start = record {
  earlier = [];
  within = omega arith;
  counted = refl;
  marks = words_of_none (among []) (λ a. refl);
  last = refl;
  rest = ap (λ (k : ℕ). rising_at bytes n k [] start) (sub-zero count);
}

module _ {bytes : List ℕ} {n count start : ℕ} {words : List ℕ} {previous next read : ℕ} (walk : MarkWalk bytes n count start words previous next read) where
  abbrev later : ℕ → ℕ → Pass
  later v after = rising_at bytes n (count - (read + 1)) (walk.earlier ++ (v ∷ [])) after

  step : read < count → rising_at bytes n count [] start ≡ pass_on walk.earlier next (field_at bytes next Set (rising_refusal n previous next)) later
  unfolding rising_at
  step h =
      let more : count - read ≡ suc (count - (read + 1)) = omega arith in
      sym walk.rest ∙ ap (λ (k : ℕ). rising_at bytes n k walk.earlier next) more
      ∙ ap (λ (low : ℕ). pass_on walk.earlier next (field_at bytes next Set (rising_refusal n low next)) later) (sym walk.last)

  pub mark_walk_below : n ≤ 16 → (value after : ℕ) → found value after ≡ field_at bytes next Set (rising_refusal n previous next) → value < 65536
  mark_walk_below few value after e =
      let inside : 2 ^ n ≤ 2 ^ 16 = pow_mono few in
      omega (arith, (rising_right n previous next value (field_checked bytes next Set (rising_refusal n previous next) value after (sym e))).0)

  pub mark_walk_more : read < count → (value after : ℕ) → value < 65536 → found value after ≡ field_at bytes next Set (rising_refusal n previous next)
      → MarkWalk bytes n count start (set words (value / 64) (join (get_or words (value / 64) 0) (1 * 2 ^ (value % 64) % 2 ^ 64))) value after (read + 1)
  mark_walk_more h value after small e = record {
    earlier = walk.earlier ++ (value ∷ []);
    within = omega arith;
    counted = length-append walk.earlier (value ∷ []) ∙ ap (λ (k : ℕ). k + 1) walk.counted;
    marks = ap (λ (l : List ℕ). set l (value / 64) (join (get_or l (value / 64) 0) (1 * 2 ^ (value % 64) % 2 ^ 64))) walk.marks ∙ marked_one walk.earlier value small;
    last = sym (last_more 0 walk.earlier value);
    rest = sym (step h ∙ ap (λ (r : Read ℕ). pass_on walk.earlier next r later) (sym e));
  }

  pub mark_walk_refused : read < count → (why : Refusal) → refused why ≡ field_at bytes next Set (rising_refusal n previous next) → rising_at bytes n count [] start ≡ passed walk.earlier next (Err why)
  mark_walk_refused h why e = step h ∙ ap (λ (r : Read ℕ). pass_on walk.earlier next r later) (sym e)

  pub mark_walk_end : count ≤ read → rising_at bytes n count [] start ≡ passed walk.earlier next (Ok tt)
  unfolding rising_at
  mark_walk_end h =
      let none : count - read ≡ 0 = omega arith in
      sym walk.rest ∙ ap (λ (k : ℕ). rising_at bytes n k walk.earlier next) none

  -- what the walk hands back
  pub marked_of_lem : (v : Verdict) → rising_at bytes n count [] start ≡ passed walk.earlier next v
      → record { words = words; read = read; next = next; verdict = v } ≡ marked_of (rising_at bytes n count [] start)
  marked_of_lem v e =
      ap₂ (λ (w : List ℕ) (k : ℕ). record { words = w; read = k; next = next; verdict = v }) walk.marks (sym walk.counted) ∙ ap marked_of (sym e)

-- ---- the second pass

module _ (bytes : List ℕ) (kept : ℕ → Bool) (count index start : ℕ) where
  module _ (h : index < count) where
    nested_step : nested_at bytes kept (count - index) start ≡ nested_on kept start (number_at bytes start Set) (λ next. nested_at bytes kept (count - (index + 1)) next)
    unfolding nested_at
    nested_step = let more : count - index ≡ suc (count - (index + 1)) = omega arith in ap (λ (k : ℕ). nested_at bytes kept k start) more

    on : (r : Read ℕ) → number_at bytes start Set ≡ r → nested_at bytes kept (count - index) start ≡ nested_on kept start r (λ next. nested_at bytes kept (count - (index + 1)) next)
    on r e = nested_step ∙ ap (λ (f : Read ℕ). nested_on kept start f (λ next. nested_at bytes kept (count - (index + 1)) next)) e

    pub nested_ended : (why : Refusal) → number_at bytes start Set ≡ refused why → (Ok tt) ≡ nested_at bytes kept (count - index) start
    nested_ended why e = sym (on (refused why) e)

    pub nested_here : (value next : ℕ) → number_at bytes start Set ≡ found value next → not (kept value) ≡ true → Err (at WrongSet start) ≡ nested_at bytes kept (count - index) start
    nested_here value next e k = sym (on (found value next) e ∙ ap (λ (t : Bool). refuse t WrongSet start (nested_at bytes kept (count - (index + 1)) next)) k)

    pub nested_past : (value next : ℕ) → number_at bytes start Set ≡ found value next → not (kept value) ≡ false → nested_at bytes kept (count - (index + 1)) next ≡ nested_at bytes kept (count - index) start
    nested_past value next e k = sym (on (found value next) e ∙ ap (λ (t : Bool). refuse t WrongSet start (nested_at bytes kept (count - (index + 1)) next)) k)

  pub nested_none : count ≤ index → (Ok tt) ≡ nested_at bytes kept (count - index) start
  unfolding nested_at
  nested_none h = let none : count - index ≡ 0 = omega arith in sym (ap (λ (k : ℕ). nested_at bytes kept k start) none)
