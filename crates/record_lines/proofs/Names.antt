-- Laws of the part numbers of a set: which they are, that they decide the set, and that one set holds another exactly if it names all that the
-- other names.
-- Assumes nothing.
use mathlib.Core.Path.{◌≡◌, refl, sym, ap, ◌∙◌, subst}
use mathlib.Core.Bool.{Bool, true, false, not, cond, ◌&&◌, ◌||◌}
use mathlib.Core.List.Memᴰ
use mathlib.Core.List.{List, [], ◌∷◌, ◌++◌}
use mathlib.Core.Logic.{◌⊎◌, inl, inr}
use Prim.Native.Nat.{ℕ, zero, suc, ◌/◌, ◌^◌, ◌≤◌, ◌<◌}
use native.Mathlib.Nat.{pow-succ', le_of_suc-le-suc}
use native.Mathlib.Omega.{arith}
use borrow.Author.Tests.{eq-eqb, ne_eqb}
use lib.Dec.{eqb}
use lib.ListN.{length, get_or}
use Rattle.theory_sums.specs.Sums.{some}
use Rattle.record_numbers.specs.Numbering.{RisingWithin, named, others, names}
use Rattle.record_numbers.proofs.Names.{names_intro, names_elim}
use Rattle.record_parts.specs.Lines.{In}
use Rattle.record_parts.proofs.LeftOut.{in_named}
use Rattle.record_parts.proofs.Numbers.{rising_in}
use Rattle.theory_sets.specs.Masks.{has, holds}
use Rattle.numbers.proofs.Bools.{clash, same_test, false_of}
use Rattle.theory_sets.proofs.Lists.{member_at}
use Rattle.theory_sets.proofs.Masks.{has_suc, has_even, has_above, holds_part, holds_of_parts, holds_antisym}
use Rattle.numbers.proofs.Bounds.{below_or_above}
use Rattle.masks.specs.Groups.{meets}
use Rattle.masks.proofs.Groups.{meets_part, shared_part}
use Rattle.record_lines.specs.Changes.{keep}
use Rattle.record_lines.specs.Names.{names_some}
use Rattle.record_lines.proofs.Keeping.{keep_same, some_intro, some_elim}

-- the numbers of a set by its lowest bit and the rest
abbrev picked : Bool → ℕ → List ℕ → List ℕ
picked here number rest = cond here (number ∷ rest) rest

-- a part more, which the set lacks, changes no names
pub named_more : (numbers : List ℕ) (number set : ℕ) → set < 2 ^ length numbers → named (numbers ++ (number ∷ [])) set ≡ named numbers set
unfolding named
named_more [] number set h = ap (λ (p : Bool). picked p number []) (has_even set (omega arith))
named_more (p ∷ ps) number set h =
    ap (picked (has set 0) p) (named_more ps number (set / 2) (omega (arith, pow-succ' 2 (length ps))))

-- each is one of the numbers, at a position whose bit is set
pub record Position (numbers : List ℕ) (set number : ℕ) : Type 0 where
  pub index : ℕ
  pub inside : index < length numbers
  pub member : has set index ≡ true
  pub same : number ≡ get_or numbers index 0

pub named_position : (numbers : List ℕ) (set : ℕ) {number : ℕ} → In number (named numbers set) → Position numbers set number
unfolding named
named_position [] set i = absurd (Memᴰ.not-nil i)
named_position (p ∷ ps) set {number} i = cases (has set 0) refl (named_position ps (set / 2)) i
  where
    later : Position ps (set / 2) number → Position (p ∷ ps) set number
    later at =
        record { index = suc at.index; inside = omega (arith, at.inside); member = has_suc set at.index ∙ at.member; same = at.same }

    cases : (q : Bool) → has set 0 ≡ q → (In number (named ps (set / 2)) → Position ps (set / 2) number) → In number (picked q p (named ps (set / 2)))
        → Position (p ∷ ps) set number
    cases true e rest i = first (Memᴰ.cases_cons i)
      where
        first : (number ≡ p) ⊎ In number (named ps (set / 2)) → Position (p ∷ ps) set number
        first (inl same) = record { index = 0; inside = omega arith; member = e; same = same }
        first (inr i) = later (rest i)
    cases false e rest i = later (rest i)

pub named_at : (numbers : List ℕ) (set index : ℕ) → index < length numbers → has set index ≡ true → In (get_or numbers index 0) (named numbers set)
unfolding named
named_at [] set index h k = absurd (omega arith)
named_at (p ∷ ps) set zero h k = subst (λ (q : Bool). In p (picked q p (named ps (set / 2)))) (sym k) (Memᴰ.head refl)
named_at (p ∷ ps) set (suc i) h k = cases (has set 0) (named_at ps (set / 2) i (le_of_suc-le-suc h) (sym (has_suc set i) ∙ k))
  where
    cases : (q : Bool) → In (get_or ps i 0) (named ps (set / 2)) → In (get_or ps i 0) (picked q p (named ps (set / 2)))
    cases true rest = Memᴰ.tail rest
    cases false rest = rest

-- Rising numbers stand at one position each, so the number at a position is named exactly if the bit is set.
pub rising_once : (low high : ℕ) (numbers : List ℕ) → RisingWithin low high numbers → (i j : ℕ) → i < length numbers → j < length numbers → get_or numbers i 0 ≡ get_or numbers j 0 → i ≡ j
rising_once low high [] r i j hi hj e = absurd (omega arith)
rising_once low high (p ∷ ps) r zero zero hi hj e = refl
rising_once low high (p ∷ ps) r zero (suc j) hi hj e = absurd (omega (arith, (rising_in p high ps r.2 (member_at ps j (le_of_suc-le-suc hj))).0))
rising_once low high (p ∷ ps) r (suc i) zero hi hj e = absurd (omega (arith, (rising_in p high ps r.2 (member_at ps i (le_of_suc-le-suc hi))).0))
rising_once low high (p ∷ ps) r (suc i) (suc j) hi hj e = ap suc (rising_once p high ps r.2 i j (le_of_suc-le-suc hi) (le_of_suc-le-suc hj) e)

module _ (low high : ℕ) (numbers : List ℕ) (rising : RisingWithin low high numbers) where
  pub named_has : (set index : ℕ) → index < length numbers → In (get_or numbers index 0) (named numbers set) → has set index ≡ true
  named_has set index h i =
      let at = named_position numbers set i in
      let same : at.index ≡ index = rising_once low high numbers rising at.index index at.inside h (sym at.same) in
      subst (λ (k : ℕ). has set k ≡ true) same at.member

  -- one set holds another exactly if it names all that the other names
  pub holds_names : (a b : ℕ) → holds a b ≡ true → (number : ℕ) → In number (named numbers b) → In number (named numbers a)
  holds_names a b within number i =
      let at = named_position numbers b i in
      subst (λ (x : ℕ). In x (named numbers a)) (sym at.same) (named_at numbers a at.index at.inside (holds_part a b within at.index at.member))

  pub names_hold : (a b : ℕ) → b < 2 ^ length numbers → ((number : ℕ) → In number (named numbers b) → In number (named numbers a)) → holds a b ≡ true
  names_hold a b hb within = holds_of_parts a b (λ i k. cases i k (below_or_above i (length numbers)))
    where
      cases : (i : ℕ) → has b i ≡ true → (i < length numbers) ⊎ (length numbers ≤ i) → has a i ≡ true
      cases i k (inl below) = named_has a i below (within (get_or numbers i 0) (named_at numbers b i below k))
      cases i k (inr above) = clash k (has_above b (length numbers) i hb above)

  -- and the names decide the set
  pub named_once : (a b : ℕ) → a < 2 ^ length numbers → b < 2 ^ length numbers → named numbers a ≡ named numbers b → a ≡ b
  named_once a b ha hb e =
      holds_antisym a b (names_hold a b hb (λ number i. rw e i)) (names_hold b a ha (λ number i. rw e at i))

-- ---- by part numbers

module _ (low high : ℕ) (numbers : List ℕ) (rising : RisingWithin low high numbers) (group : ℕ) where
  -- a set names a number of the group exactly if it shares a part with it
  pub names_meet : (set : ℕ) → set < 2 ^ length numbers → names_some (named numbers group) (named numbers set) ≡ meets group set
  names_meet set small =
      same_test (names_some (named numbers group) (named numbers set)) (meets group set)
      (λ h.
      let found = some_elim (λ number. names number (named numbers set)) (named numbers group) h in
      let at = named_position numbers group found.1 in
      let inside = subst (λ (x : ℕ). In x (named numbers set)) at.same (names_elim found.0 (named numbers set) found.2) in
      meets_part group set at.index (named_has low high numbers rising set at.index at.inside inside) at.member)
      (λ h.
      let found = shared_part (length numbers) group set small h in
      let i = found.0 in
      some_intro (λ number. names number (named numbers set)) (named numbers group) (named_at numbers group i found.1 found.3)
      (names_intro (get_or numbers i 0) (named numbers set) (named_at numbers set i found.1 found.2)))

-- the others are the numbers that are not of the group
pub others_kept : (low high : ℕ) (numbers : List ℕ) → RisingWithin low high numbers → (group : ℕ)
    → others numbers group ≡ keep (λ number. not (names number (named numbers group))) numbers
unfolding named others some
others_kept low high [] rising group = refl
others_kept low high (p ∷ ps) rising group = cases (has group 0) (others_kept p high ps rising.2 (group / 2))
  where
    gone : List ℕ
    gone = named ps (group / 2)

    -- the first number is none of those behind it
    apart : (number : ℕ) → In number ps → eqb number p ≡ false
    apart number i = ne_eqb number p (λ e. let b = rising_in p high ps rising.2 i in omega (arith, b.0))

    absent : names p gone ≡ false
    absent = false_of (names p gone) (λ h. clash (eq-eqb p p refl) (apart p (in_named ps (group / 2) (names_elim p gone h))))

    more : ℕ → Bool
    more number = not (names number (p ∷ gone))

    cases : (q : Bool) → others ps (group / 2) ≡ keep (λ number. not (names number gone)) ps
        → cond q (others ps (group / 2)) (p ∷ others ps (group / 2)) ≡ keep (λ number. not (names number (cond q (p ∷ gone) gone))) (p ∷ ps)
    cases true rest =
        rest ∙ keep_same (λ number. not (names number gone)) more ps (λ number i. ap (λ (q : Bool). not (q || names number gone)) (sym (apart number i)))
        ∙ ap (λ (q : Bool). picked (not (q || names p gone)) p (keep more ps)) (sym (eq-eqb p p refl))
    cases false rest = ap (λ (l : List ℕ). p ∷ l) rest ∙ ap (λ (q : Bool). picked (not q) p (keep (λ number. not (names number gone)) ps)) (sym absent)

-- ---- one number, and then the others

neither : (p q : Bool) → not (p || false) && not q ≡ not (p || q)
neither true q = refl
neither false q = refl

either : (p q : Bool) → (p || false) || q ≡ p || q
either true q = refl
either false q = refl

module _ (number : ℕ) (rest : List ℕ) where
  -- a number is neither the one nor among the others
  pub none_of_numbers : (other : ℕ) → not (names other (number ∷ [])) && not (names other rest) ≡ not (names other (number ∷ rest))
  unfolding some
  none_of_numbers other = neither (eqb other number) (names other rest)

  -- a set names neither the one nor any of the others
  pub names_none : (set : List ℕ) → not (names_some (number ∷ []) set) && not (names_some rest set) ≡ not (names_some (number ∷ rest) set)
  unfolding some
  names_none set = neither (names number set) (names_some rest set)

  -- or one of them
  pub names_either : (set : List ℕ) → names_some (number ∷ []) set || names_some rest set ≡ names_some (number ∷ rest) set
  unfolding some
  names_either set = either (names number set) (names_some rest set)
