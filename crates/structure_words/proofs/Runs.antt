-- Runs of bits: the lowest bit that is set, and how many sets a word adds to those before it.
-- Assumes nothing.
use mathlib.Core.Path.{◌≡◌, refl, sym, ap, ap₂, ◌∙◌, subst}
use mathlib.Core.Bool.{Bool, true, false, cond}
use mathlib.Core.List.{List, [], ◌∷◌, ◌++◌}
use mathlib.Core.Logic.{◌⊎◌, inl, inr, ⊎_elim}
use Prim.Native.Nat.{ℕ, zero, suc, ◌+◌, ◌-◌, ◌*◌, ◌/◌, ◌%◌, ◌^◌, ◌≤◌, ◌<◌, zero-le, suc-le-suc}
use native.Mathlib.Decide.{ℕ_discrete}
use native.Mathlib.Nat.{mod-eq_of_lt, not-suc-le-zero, le_of_suc-le-suc, le_of_lt, le_refl, zero-lt-suc, mod-lt, pow-succ', add-zero, add-suc, add_comm, add_assoc, mod-one, zero-add, add-sub_of_le, sub_self, div-one}
use native.Mathlib.Numerals.{one-add, add-one}
use native.Mathlib.Omega.{arith}
use lib.Count.{ones, ones_cat, ones-le, count_trailing_zeros, under}
use lib.ListN.{length, get_or, set, take, length-append, length-take, get_or-eq_default}
use lib.Seq.{get_or-take}
use mir.Syntax.{w64}
use mir.Val.{Fits}
use Rattle.std.proofs.lemmas.Grind.{get_or_default_zero}
use lib.Pow.{pow_pos, mod-pow-add, shr-shr}
use Rattle.answer.proofs.Outcomes.{InFront, in_front_none, in_front_one}
use Rattle.theory_sets.specs.Masks.{has, those, least}
use Rattle.numbers.proofs.Bools.{true_or_false, clash}
use Rattle.theory_sets.proofs.Masks.{odd, even, has_suc, has_above, has_empty, has_shift, quotient_odd, quotient_even}
use Rattle.numbers.proofs.Bounds.{below_or_above}
use Rattle.theory_sets.proofs.Ranges.{least_none, least_found, those_skip, those_take, those_fewer}
use Rattle.structure_words.specs.Words.{in_words}
use Rattle.structure_words.proofs.Words.{in_words_at}

-- bit i is the lowest that is set, of 64
pub record Lowest (word i : ℕ) : Type 0 where
  pub within : i < 64
  pub stands : has word i ≡ true
  pub clear : (k : ℕ) → k < i → has word k ≡ false

-- ---- the lowest bit that is set

-- counted in k bits: the zeros below it end at a bit that is set
ends : (k w : ℕ) → w < 2 ^ k → (w ≡ 0 → ⊥) → (count_trailing_zeros k w < k) × (has w (count_trailing_zeros k w) ≡ true)
unfolding count_trailing_zeros
ends zero w h some = absurd (some (omega arith))
ends (suc k) w h some = cases (true_or_false (has w 0)) (ends k (w / 2) (omega (arith, pow-succ' 2 k)))
  where
    Ends : ℕ → Type 0
    Ends t = (t < suc k) × (has w t ≡ true)

    cases : (has w 0 ≡ true) ⊎ (has w 0 ≡ false)
        → ((w / 2 ≡ 0 → ⊥) → (count_trailing_zeros k (w / 2) < k) × (has (w / 2) (count_trailing_zeros k (w / 2)) ≡ true))
        → Ends (under (w % 2) (count_trailing_zeros k (w / 2)))
    cases (inl t) rest = subst (λ (d : ℕ). Ends (under d (count_trailing_zeros k (w / 2)))) (sym (odd w t)) (zero-lt-suc k, t)
    cases (inr f) rest =
        let found = rest (λ e. some (omega (arith, even w f))) in
        subst (λ (d : ℕ). Ends (under d (count_trailing_zeros k (w / 2)))) (sym (even w f))
        (suc-le-suc found.0, has_suc w (count_trailing_zeros k (w / 2)) ∙ found.1)

clears : (k w i : ℕ) → i < count_trailing_zeros k w → has w i ≡ false
unfolding count_trailing_zeros
clears zero w i l = absurd (not-suc-le-zero l)
clears (suc k) w i l = cases i l (true_or_false (has w 0)) (clears k (w / 2))
  where
    cases : (i : ℕ) → i < under (w % 2) (count_trailing_zeros k (w / 2)) → (has w 0 ≡ true) ⊎ (has w 0 ≡ false)
        → ((j : ℕ) → j < count_trailing_zeros k (w / 2) → has (w / 2) j ≡ false) → has w i ≡ false
    cases i l (inl t) rest =
        absurd (not-suc-le-zero (subst (λ (d : ℕ). i < under d (count_trailing_zeros k (w / 2))) (odd w t) l))
    cases zero l (inr f) rest = f
    cases (suc j) l (inr f) rest =
        has_suc w j ∙ rest j (le_of_suc-le-suc (subst (λ (d : ℕ). suc j < under d (count_trailing_zeros k (w / 2))) (even w f) l))

lowest_bit : (w : ℕ) → w < 2 ^ 64 → (w ≡ 0 → ⊥) → Lowest w (count_trailing_zeros 64 w)
lowest_bit w h some =
    let found = ends 64 w h some in
    record { within = found.0; stands = found.1; clear = clears 64 w }

pub lowest_least : (w : ℕ) → w < 2 ^ 64 → count_trailing_zeros 64 w ≡ least (has w) 64
unfolding count_trailing_zeros
lowest_least w h = cases (ℕ_discrete w 0)
  where
    cases : Dec (w ≡ 0) → count_trailing_zeros 64 w ≡ least (has w) 64
    cases (yes e) =
        ap (count_trailing_zeros 64) e
        ∙ sym (least_none (has w) 64 (λ i l. ap (λ (x : ℕ). has x i) e ∙ has_empty i))
    cases (no some) =
        let low = lowest_bit w h some in
        sym (least_found (has w) 64 (count_trailing_zeros 64 w) low.within low.stands low.clear)

-- what the smallest number of a set bit tells of a word that is not 0
pub lowest_of : (w i : ℕ) → w < 2 ^ 64 → (w ≡ 0 → ⊥) → i ≡ least (has w) 64 → Lowest w i
lowest_of w i h some e = subst (Lowest w) (lowest_least w h ∙ sym e) (lowest_bit w h some)

-- ---- counting

-- one bit more of a word
ones_more : (w k : ℕ) → ones (w % 2 ^ suc k) ≡ ones (w / 2 ^ k % 2) + ones (w % 2 ^ k)
ones_more w k =
    ap ones (ap (λ (m : ℕ). w % 2 ^ m) (sym (one-add k)) ∙ mod-pow-add w 1 k)
    ∙ ones_cat k (w / 2 ^ k % 2) (w % 2 ^ k) (mod-lt w (pow_pos k))

those_length : (test : ℕ → Bool) (k : ℕ) → length (those test (suc k)) ≡ cond (test k) 1 0 + length (those test k)
unfolding those
those_length test k = length-append (those test k) (cond (test k) (k ∷ []) []) ∙ cases (test k)
  where
    cases : (p : Bool) → length (those test k) + length (cond p (k ∷ []) []) ≡ cond p 1 0 + length (those test k)
    cases true = add_comm (length (those test k)) 1
    cases false = add_comm (length (those test k)) 0

module _ (words : List ℕ) (at : ℕ) where
  -- the sets of a word's first k bits add as many as bits are set there
  pub those_count : (k : ℕ) → k ≤ 64 → length (those (in_words words) (64 * at + k)) ≡ ones (get_or words at 0 % 2 ^ k) + length (those (in_words words) (64 * at))
  unfolding ones
  those_count zero h =
      ap (λ (m : ℕ). length (those (in_words words) m)) (add-zero (64 * at))
      ∙ sym (ap (λ (m : ℕ). ones m + length (those (in_words words) (64 * at))) (mod-one (get_or words at 0)) ∙ zero-add (length (those (in_words words) (64 * at))))
  those_count (suc k) h =
      let w : ℕ = get_or words at 0 in
      let before : ℕ = length (those (in_words words) (64 * at)) in
      ap (λ (m : ℕ). length (those (in_words words) m)) (add-suc (64 * at) k)
      ∙ those_length (in_words words) (64 * at + k)
      ∙ ap₂ (λ (x y : ℕ). x + y) (digit w k (in_words_at words at k h)) (those_count k (le_of_lt h))
      ∙ sym (add_assoc (ones (w / 2 ^ k % 2)) (ones (w % 2 ^ k)) before)
      ∙ ap (λ (x : ℕ). x + before) (sym (ones_more w k))
    where
      digit : (w k : ℕ) {p : Bool} → p ≡ has w k → cond p 1 0 ≡ ones (w / 2 ^ k % 2)
      digit w k {p} e = subst (λ (q : Bool). cond q 1 0 ≡ ones (w / 2 ^ k % 2)) (sym e) (cases (true_or_false (has w k)))
        where
          cases : (has w k ≡ true) ⊎ (has w k ≡ false) → cond (has w k) 1 0 ≡ ones (w / 2 ^ k % 2)
          cases (inl t) = rw (t, quotient_odd w k t)
          cases (inr f) = rw (f, quotient_even w k f)

-- ---- the sets that a full walk of the words counts

pub those_few : (test : ℕ → Bool) (k : ℕ) → length (those test k) ≤ k
unfolding those
those_few test zero = zero-le
those_few test (suc k) =
    subst (λ (x : ℕ). x ≤ suc k) (sym (those_length test k)) (cases (test k) (those_few test k))
  where
    cases : (p : Bool) → length (those test k) ≤ k → cond p 1 0 + length (those test k) ≤ suc k
    cases true h = omega arith
    cases false h = omega arith

module _ (words : List ℕ) where
  pub count_none : 0 ≡ length (those (in_words words) 0)
  unfolding those
  count_none = refl

  module _ (n sum : ℕ) (so : sum ≡ length (those (in_words words) (64 * n))) where
    -- the next of the first 1,024 words
    module _ (w : ℕ) (next : (n < length (take 1024 words)) × (w ≡ get_or (take 1024 words) n w)) (fits : Fits w64 (get_or words n 0)) where
      few : (n < 1024) × (n < length words)
      few = let l = next.0 in (omega (arith, length-take 1024 words), omega (arith, length-take 1024 words))

      read : w ≡ get_or words n 0
      read = next.1 ∙ get_or-take 1024 words n w few.0 ∙ get_or_default_zero words n w few.1

      below : w < 2 ^ 64
      below = omega (arith, read, fits.fits)

      pub count_more : (m : ℕ) → m ≡ n + 1 → sum + ones w ≡ length (those (in_words words) (64 * m))
      count_more m more =
          let whole : get_or words n 0 % 2 ^ 64 ≡ w = ap (λ (x : ℕ). x % 2 ^ 64) (sym read) ∙ mod-eq_of_lt below in
          add_comm sum (ones w) ∙ ap₂ (λ (x y : ℕ). ones x + y) (sym whole) so ∙ sym (those_count words n 64 (le_refl 64))
          ∙ ap (λ (k : ℕ). length (those (in_words words) k)) (omega arith)

      pub count_small : sum + ones w < 2 ^ 64
      count_small = let l = few.0 in omega (arith, so, those_few (in_words words) (64 * n), ones-le 64 w below)

    -- the words that are lacking have no set
    pub count_all : n ≡ length (take 1024 words) → sum ≡ length (those (in_words words) 65536)
    unfolding in_words
    count_all e =
        let most : n ≤ 1024 = omega (arith, length-take 1024 words) in
        let whole : 64 * n + (65536 - 64 * n) ≡ 65536 = omega arith in
        so ∙ ap length (sym (ap (those (in_words words)) (sym whole) ∙ those_skip (in_words words) (64 * n) (65536 - 64 * n) (λ i l u.
        ap (λ (x : ℕ). has x (i % 64)) (get_or-eq_default words 0 (omega (arith, length-take 1024 words, whole))) ∙ has_empty (i % 64))))

-- ---- the list of the sets, written bit by bit

-- The walk stands at word `at`; the sets below `mask` are listed, and `rest` has what is left of the word.
pub record Walk (words buffer : List ℕ) (at mask rest next : ℕ) (now : List ℕ) : Type 0 where
  pub inside : at ≤ 1024
  pub low : 64 * at ≤ mask
  pub high : mask ≤ 64 * at + 64
  pub last : mask ≤ 65536
  pub bits : rest ≡ get_or words at 0 / 2 ^ (mask - 64 * at)
  pub listed : InFront buffer (those (in_words words) mask) now next

module _ (words buffer : List ℕ) where
  pub walk_start : (rest : ℕ) → rest ≡ get_or words 0 0 → Walk words buffer 0 0 rest 0 buffer
  unfolding those
  walk_start rest e = record {
    inside = omega arith;
    low = omega arith;
    high = omega arith;
    last = omega arith;
    bits = e ∙ sym (div-one (get_or words 0 0));
    listed = in_front_none buffer;
  }

  -- a bit of what is left of the word is a set from the mask on
  later : (at mask rest : ℕ) → 64 * at ≤ mask → rest ≡ get_or words at 0 / 2 ^ (mask - 64 * at) → (k : ℕ) → mask + k < 64 * at + 64
      → in_words words (mask + k) ≡ has rest k
  later at mask rest low e k h =
      let p : ℕ = mask - 64 * at in
      let whole : mask + k ≡ 64 * at + (p + k) = omega arith in
      ap (in_words words) whole ∙ in_words_at words at (p + k) (omega (arith, whole)) ∙ sym (ap (λ (x : ℕ). has x k) e ∙ has_shift (get_or words at 0) p k)

  -- nothing is left of the word: the next one is taken up
  pub walk_turn : (at mask rest next : ℕ) (now : List ℕ) → Walk words buffer at mask rest next now → at < 1024 → rest ≡ 0
      → (word : ℕ) → word ≡ get_or words (at + 1) 0 → Walk words buffer (at + 1) (64 * (at + 1)) word next now
  walk_turn at mask rest next now w h empty word e =
      let gap : ℕ = 64 * (at + 1) - mask in
      let whole : mask + gap ≡ 64 * (at + 1) = add-sub_of_le (let hi : mask ≤ 64 * at + 64 = w.high in omega arith) in
      let same : those (in_words words) (64 * (at + 1)) ≡ those (in_words words) mask =
      ap (those (in_words words)) (sym whole) ∙ those_skip (in_words words) mask gap (λ i l u.
      let k : ℕ = i - mask in
      let split : mask + k ≡ i = add-sub_of_le l in
      ap (in_words words) (sym split)
      ∙ later at mask rest w.low w.bits k (omega (arith, split, whole))
      ∙ ap (λ (x : ℕ). has x k) empty ∙ has_empty k) in
      record {
        inside = omega arith;
        low = le_refl (64 * (at + 1));
        high = omega arith;
        last = omega arith;
        bits = e ∙ sym (ap (λ (x : ℕ). get_or words (at + 1) 0 / 2 ^ x) (sub_self (64 * (at + 1))) ∙ div-one (get_or words (at + 1) 0));
        listed = subst (λ (xs : List ℕ). InFront buffer xs now next) (sym same) w.listed;
      }

  module _ (at mask rest next : ℕ) (now : List ℕ) (w : Walk words buffer at mask rest next now) (h : at < 1024)
      (fits : get_or words at 0 < 2 ^ 64) (gap : ℕ) (lowest : Lowest rest gap) where
    -- the lowest bit that is left is still one of this word
    pub walk_near : mask + gap < 64 * at + 64
    walk_near = ⊎_elim (λ l. l) beyond (below_or_above (mask + gap) (64 * at + 64))
      where
        beyond : 64 * at + 64 ≤ mask + gap → mask + gap < 64 * at + 64
        beyond l =
            let p : ℕ = mask - 64 * at in
            let lo : 64 * at ≤ mask = w.low in
            let stands : has (get_or words at 0) (p + gap) ≡ true =
            sym (has_shift (get_or words at 0) p gap) ∙ ap (λ (x : ℕ). has x gap) (sym w.bits) ∙ lowest.stands in
            clash stands (has_above (get_or words at 0) 64 (p + gap) fits (omega arith))

    found : in_words words (mask + gap) ≡ true
    found = later at mask rest w.low w.bits gap walk_near ∙ lowest.stands

    skipped : those (in_words words) (mask + gap) ≡ those (in_words words) mask
    skipped =
        those_skip (in_words words) mask gap (λ i l u.
        let k : ℕ = i - mask in
        let split : mask + k ≡ i = add-sub_of_le l in
        ap (in_words words) (sym split)
        ∙ later at mask rest w.low w.bits k (omega (arith, split, walk_near)) ∙ lowest.clear k (omega (arith, split)))

    grown : those (in_words words) (mask + gap + 1) ≡ those (in_words words) mask ++ ((mask + gap) ∷ [])
    grown =
        ap (those (in_words words)) (add-one (mask + gap)) ∙ those_take (in_words words) (mask + gap) found
        ∙ ap (λ (xs : List ℕ). xs ++ ((mask + gap) ∷ [])) skipped

    -- there is room for it where there is room for all
    pub walk_room : length (those (in_words words) 65536) ≤ length buffer → length (those (in_words words) mask) < length buffer
    walk_room all =
        let more : length (those (in_words words) (mask + gap + 1)) ≡ length (those (in_words words) mask) + 1 =
        ap length grown ∙ length-append (those (in_words words) mask) ((mask + gap) ∷ []) in
        let most : length (those (in_words words) (mask + gap + 1)) ≤ length (those (in_words words) 65536) =
        those_fewer (in_words words) (mask + gap + 1) 65536 (omega (arith, walk_near)) in
        omega arith

    pub walk_found : length (those (in_words words) 65536) ≤ length buffer
        → Walk words buffer at (mask + gap + 1) (rest / 2 ^ gap / 2) (next + 1) (set now next (mask + gap))
    walk_found all =
        let p : ℕ = mask - 64 * at in
        let lo : 64 * at ≤ mask = w.low in
        record {
          inside = w.inside;
          low = omega arith;
          high = omega (arith, walk_near);
          last = omega (arith, walk_near);
          bits = ap (λ (x : ℕ). x / 2 ^ gap / 2) w.bits ∙ ap (λ (x : ℕ). x / 2) (shr-shr (get_or words at 0) p gap)
              ∙ shr-shr (get_or words at 0) (p + gap) 1
              ∙ ap (λ (x : ℕ). get_or words at 0 / 2 ^ x) (omega arith);
          listed = subst (λ (xs : List ℕ). InFront buffer xs (set now next (mask + gap)) (next + 1)) (sym grown)
              (in_front_one buffer (those (in_words words) mask) now next (mask + gap) w.listed (walk_room all));
        }
