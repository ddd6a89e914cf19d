-- Laws of the list form: a list of sets gives a semicoherent structure, repeats, nesting and order in the list do not matter, the minimal
-- sets of a structure give it back, and a rising list of sets none of which holds another is the minimal sets of what it gives.
-- Assumes nothing.
use mathlib.Core.Path.{◌≡◌, refl, sym, ap, subst, ◌∙◌}
use mathlib.Core.Bool.{Bool, true, false, ◌||◌}
use mathlib.Core.List.Memᴰ
use mathlib.Core.List.{List, [], ◌∷◌, ◌++◌, Memᴰ}
use mathlib.Core.Logic.{◌⊎◌, inl, inr}
use Prim.Native.Nat.{ℕ, zero, suc, ◌-◌, ◌^◌, ◌≤◌, ◌<◌, suc-le-suc}
use native.Mathlib.Nat.{lt_of_le_of_lt, lt_irrefl, lt_of_lt_of_le, zero-lt-suc, not-suc-le-zero, le_of_suc-le-suc}
use lib.ListN.{length, get_or}
use Rattle.theory_sets.specs.Masks.{holds, Rising}
use Rattle.theory_sets.specs.Structures.{Covers, Semicoherent, listed, minimal, minimal_sets}
use Rattle.numbers.proofs.Bools.{or_cases, or_left, or_right, clash, false_of, same_test}
use Rattle.theory_sets.proofs.Masks.{holds_refl, holds_trans, holds_le, holds_antisym, full_holds}
use Rattle.theory_sets.proofs.Ranges.{those_elim, those_intro, those_rising, rising_unique}
use Rattle.theory_sets.proofs.Structures.{minimal_works, minimal_least, minimal_intro, minimal_below}

-- a set is a path set of a list exactly if it holds a listed one
pub listed_intro : (xs : List ℕ) (a b : ℕ) → Memᴰ b xs → holds a b ≡ true → listed xs a ≡ true
unfolding listed
listed_intro [] a b m h = elim m [ ]
listed_intro (x ∷ xs) a b m h = cases (Memᴰ.cases_cons m) (λ later. listed_intro xs a b later h)
  where
    cases : (b ≡ x) ⊎ Memᴰ b xs → (Memᴰ b xs → listed xs a ≡ true) → holds a x || listed xs a ≡ true
    cases (inl e) rest = or_left (listed xs a) (subst (λ (y : ℕ). holds a y ≡ true) e h)
    cases (inr later) rest = or_right (holds a x) (rest later)

pub listed_elim : (xs : List ℕ) (a : ℕ) → listed xs a ≡ true → (b : ℕ) × Memᴰ b xs × (holds a b ≡ true)
unfolding listed
listed_elim [] a h = clash {p = true} refl (sym h)
listed_elim (x ∷ xs) a h = cases (or_cases (holds a x) (listed xs a) h) (listed_elim xs a)
  where
    cases : (holds a x ≡ true) ⊎ (listed xs a ≡ true) → (listed xs a ≡ true → (b : ℕ) × Memᴰ b xs × (holds a b ≡ true))
        → (b : ℕ) × Memᴰ b (x ∷ xs) × (holds a b ≡ true)
    cases (inl k) rest = (x, Memᴰ.head refl, k)
    cases (inr k) rest = let found = rest k in (found.0, Memᴰ.tail found.1, found.2)

covered : (xs ys : List ℕ) → Covers xs ys → (a : ℕ) → listed xs a ≡ true → listed ys a ≡ true
covered xs ys cover a h =
    let found = listed_elim xs a h in
    let inner = cover found.0 found.1 in
    listed_intro ys a inner.0 inner.1 (holds_trans a found.0 inner.0 found.2 inner.2)

-- each set of one list holds one of the other, and the other way round: the lists give the same structure
pub listed_same : (xs ys : List ℕ) → Covers xs ys → Covers ys xs → (a : ℕ) → listed xs a ≡ listed ys a
listed_same xs ys there back a = same_test (listed xs a) (listed ys a) (covered xs ys there a) (covered ys xs back a)

-- a list gives the same structure with its first set put behind the others
pub listed_behind : (xs : List ℕ) (x a : ℕ) → listed (xs ++ (x ∷ [])) a ≡ listed (x ∷ xs) a
unfolding listed
listed_behind [] x a = refl
listed_behind (y ∷ ys) x a = ap (λ (p : Bool). holds a y || p) (listed_behind ys x a) ∙ swap (holds a y) (holds a x)
  where
    swap : (p q : Bool) → p || (q || listed ys a) ≡ q || (p || listed ys a)
    swap true true = refl
    swap true false = refl
    swap false true = refl
    swap false false = refl

-- a list that has a member has an entry
pub some_entry : {a : ℕ} (xs : List ℕ) → Memᴰ a xs → 1 ≤ length xs
some_entry [] m = absurd (Memᴰ.not-nil m)
some_entry (x ∷ xs) m = zero-lt-suc (length xs)

-- the members of a list by their index
pub member_at : (xs : List ℕ) (i : ℕ) → i < length xs → Memᴰ (get_or xs i 0) xs
member_at [] i h = absurd (not-suc-le-zero h)
member_at (x ∷ xs) zero h = Memᴰ.head refl
member_at (x ∷ xs) (suc i) h = Memᴰ.tail (member_at xs i (le_of_suc-le-suc h))

pub index_of : (xs : List ℕ) (a : ℕ) → Memᴰ a xs → (i : ℕ) × (i < length xs) × (get_or xs i 0 ≡ a)
index_of [] a m = elim m [ ]
index_of (x ∷ xs) a m = cases (Memᴰ.cases_cons m) (index_of xs a)
  where
    cases : (a ≡ x) ⊎ Memᴰ a xs → (Memᴰ a xs → (i : ℕ) × (i < length xs) × (get_or xs i 0 ≡ a))
        → (i : ℕ) × (i < suc (length xs)) × (get_or (x ∷ xs) i 0 ≡ a)
    cases (inl e) rest = (zero, zero-lt-suc (length xs), sym e)
    cases (inr later) rest = let found = rest later in (suc found.0, suc-le-suc found.1, found.2)

-- a list that has a set, none of them empty, gives a semicoherent structure
pub listed_semicoherent : (n : ℕ) (sets : List ℕ) → 1 ≤ length sets → ((b : ℕ) → Memᴰ b sets → (b < 2 ^ n) × (0 < b)) → Semicoherent n (listed sets)
listed_semicoherent n [] some good = absurd (lt_irrefl 0 some)
listed_semicoherent n (x ∷ xs) some good = record {
  upward = λ a b ha hb within h.
      let found = listed_elim (x ∷ xs) a h in
      listed_intro (x ∷ xs) b found.0 found.1 (holds_trans b a found.0 within found.2);
  empty = false_of (listed (x ∷ xs) 0) (λ h.
      let found = listed_elim (x ∷ xs) 0 h in
      lt_irrefl 0 (lt_of_lt_of_le (good found.0 found.1).1 (holds_le 0 found.0 found.2)));
  full = listed_intro (x ∷ xs) (2 ^ n - 1) x (Memᴰ.head refl) (full_holds n x (good x (Memᴰ.head refl)).0);
}

-- the minimal sets of a semicoherent structure give it back
pub minimal_listed : (n : ℕ) (works : ℕ → Bool) → Semicoherent n works → (a : ℕ) → a < 2 ^ n → listed (minimal_sets n works) a ≡ works a
minimal_listed n works sc a ha = same_test (listed (minimal_sets n works) a) (works a) there back
  where
    there : listed (minimal_sets n works) a ≡ true → works a ≡ true
    there h =
        let found = listed_elim (minimal_sets n works) a h in
        let b = found.0 in
        let least = those_elim (minimal n works) (2 ^ n) b found.1 in
        sc.upward b a least.0 ha found.2 (minimal_works n works b least.1)

    back : works a ≡ true → listed (minimal_sets n works) a ≡ true
    back w =
        let found = minimal_below n works a w in
        let b = found.0 in
        listed_intro (minimal_sets n works) a b (those_intro (minimal n works) (2 ^ n) b (lt_of_le_of_lt found.1 ha) found.2) found.3

-- a rising list of sets of n parts none of which holds another is the minimal sets of what it gives
pub listed_minimal : (n : ℕ) (xs : List ℕ) → Rising xs → ((b : ℕ) → Memᴰ b xs → b < 2 ^ n)
    → ((a b : ℕ) → Memᴰ a xs → Memᴰ b xs → holds a b ≡ true → a ≡ b) → minimal_sets n (listed xs) ≡ xs
listed_minimal n xs rising below apart =
    rising_unique 0 (minimal_sets n (listed xs)) xs (those_rising (minimal n (listed xs)) (2 ^ n)) rising there back
  where
    there : (a : ℕ) → Memᴰ a (minimal_sets n (listed xs)) → Memᴰ a xs
    there a m =
        let least = (those_elim (minimal n (listed xs)) (2 ^ n) a m).1 in
        let found = listed_elim xs a (minimal_works n (listed xs) a least) in
        let b = found.0 in
        let same : a ≡ b = minimal_least n (listed xs) a b least (below b found.1) (listed_intro xs b b found.1 (holds_refl b)) found.2 in
        subst (λ (x : ℕ). Memᴰ x xs) (sym same) found.1

    back : (a : ℕ) → Memᴰ a xs → Memᴰ a (minimal_sets n (listed xs))
    back a m =
        those_intro (minimal n (listed xs)) (2 ^ n) a (below a m)
        (minimal_intro n (listed xs) a (listed_intro xs a a m (holds_refl a)) (λ b hb w within.
        let found = listed_elim xs b w in
        let c = found.0 in
        let same : a ≡ c = apart a c m found.1 (holds_trans a b c within found.2) in
        holds_antisym a b within (subst (λ (x : ℕ). holds b x ≡ true) (sym same) found.2)))
