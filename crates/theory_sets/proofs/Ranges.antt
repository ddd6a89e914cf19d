-- Laws of `any` and `those`: which numbers they speak of, that `those` rises, and that a rising list is decided by its members.
-- Assumes nothing.
use mathlib.Core.Path.{◌≡◌, refl, sym, ap, ap₂, ◌∙◌, subst}
use mathlib.Core.Bool.{Bool, true, false, cond, ◌||◌}
use mathlib.Core.List.Memᴰ
use mathlib.Core.List.{List, [], ◌∷◌, ◌++◌, append-nil, append_assoc, Memᴰ}
use mathlib.Core.Logic.{◌⊎◌, inl, inr}
use Prim.Native.Nat.{ℕ, zero, suc, ◌+◌, ◌-◌, ◌≤◌, ◌<◌, zero-le}
use native.Mathlib.Nat.{not-suc-le-zero, le_refl, le_step, lt_irrefl, eq-or-lt_of_le, le_of_suc-le-suc, le_antisymm, lt-suc_self, le_of_lt, add-zero, add-suc, le-add_right, add-sub_of_le}
use native.Mathlib.Omega.{arith}
use lib.ListN.{length, get_or, length-append}
use Rattle.theory_sets.specs.Masks.{any, those, least, Rising, RisingFrom}
use Rattle.numbers.proofs.Bools.{or_cases, or_left, or_right, clash, false_of}

-- ---- `any`

pub any_intro : (test : ℕ → Bool) (k i : ℕ) → i < k → test i ≡ true → any test k ≡ true
unfolding any
any_intro test zero i h t = absurd (not-suc-le-zero h)
any_intro test (suc k) i h t = cases (eq-or-lt_of_le (le_of_suc-le-suc h)) (λ l. any_intro test k i l t)
  where
    cases : (i ≡ k) ⊎ (i < k) → (i < k → any test k ≡ true) → any test k || test k ≡ true
    cases (inl e) rest = or_right (any test k) (subst (λ (x : ℕ). test x ≡ true) e t)
    cases (inr l) rest = or_left (test k) (rest l)

pub any_elim : (test : ℕ → Bool) (k : ℕ) → any test k ≡ true → (i : ℕ) × (i < k) × (test i ≡ true)
unfolding any
any_elim test zero h = clash {p = true} refl (sym h)
any_elim test (suc k) h = cases (or_cases (any test k) (test k) h) (any_elim test k)
  where
    cases : (any test k ≡ true) ⊎ (test k ≡ true) → (any test k ≡ true → (i : ℕ) × (i < k) × (test i ≡ true))
        → (i : ℕ) × (i < suc k) × (test i ≡ true)
    cases (inl a) rest = let found = rest a in (found.0, le_step found.1, found.2)
    cases (inr t) rest = (k, lt-suc_self k, t)

pub any_none : (test : ℕ → Bool) (k i : ℕ) → any test k ≡ false → i < k → test i ≡ false
any_none test k i h l = false_of (test i) (λ t. clash (any_intro test k i l t) h)

pub any_false : (test : ℕ → Bool) (k : ℕ) → ((i : ℕ) → i < k → test i ≡ true → ⊥) → any test k ≡ false
any_false test k h = false_of (any test k) (λ t. let found = any_elim test k t in h found.0 found.1 found.2)

pub any_same : (f g : ℕ → Bool) (k : ℕ) → ((i : ℕ) → i < k → f i ≡ g i) → any f k ≡ any g k
unfolding any
any_same f g zero h = refl
any_same f g (suc k) h = ap₂ (λ (p q : Bool). p || q) (any_same f g k (λ i l. h i (le_step l))) (h k (lt-suc_self k))

-- ---- the members of `those`

one_if : (p : Bool) (k a : ℕ) → Memᴰ a (cond p (k ∷ []) []) → (a ≡ k) × (p ≡ true)
one_if true k a m = (Memᴰ.eq_of_singleton m, refl)
one_if false k a m = absurd (Memᴰ.not-nil m)

pub those_elim : (test : ℕ → Bool) (k a : ℕ) → Memᴰ a (those test k) → (a < k) × (test a ≡ true)
unfolding those
those_elim test zero a m = absurd (Memᴰ.not-nil m)
those_elim test (suc k) a m = cases (Memᴰ.append_cases (those test k) m) (those_elim test k a)
  where
    cases : Memᴰ a (those test k) ⊎ Memᴰ a (cond (test k) (k ∷ []) []) → (Memᴰ a (those test k) → (a < k) × (test a ≡ true))
        → (a < suc k) × (test a ≡ true)
    cases (inl earlier) rest = (le_step (rest earlier).0, (rest earlier).1)
    cases (inr last) rest =
        let found = one_if (test k) k a last in
        (subst (λ (x : ℕ). x < suc k) (sym found.0) (lt-suc_self k), subst (λ (x : ℕ). test x ≡ true) (sym found.0) found.1)

pub those_intro : (test : ℕ → Bool) (k a : ℕ) → a < k → test a ≡ true → Memᴰ a (those test k)
unfolding those
those_intro test zero a h t = absurd (not-suc-le-zero h)
those_intro test (suc k) a h t = cases (eq-or-lt_of_le (le_of_suc-le-suc h)) (λ l. those_intro test k a l t)
  where
    cases : (a ≡ k) ⊎ (a < k) → (a < k → Memᴰ a (those test k)) → Memᴰ a (those test k ++ cond (test k) (k ∷ []) [])
    cases (inl e) rest =
        Memᴰ.append_right (those test k)
        (subst (λ (p : Bool). Memᴰ a (cond p (k ∷ []) [])) (sym (subst (λ (x : ℕ). test x ≡ true) e t)) (Memᴰ.head e))
    cases (inr l) rest = Memᴰ.append_left (cond (test k) (k ∷ []) []) (rest l)

pub those_same : (f g : ℕ → Bool) (k : ℕ) → ((i : ℕ) → i < k → f i ≡ g i) → those f k ≡ those g k
unfolding those
those_same f g zero h = refl
those_same f g (suc k) h =
    ap₂ (λ (xs : List ℕ) (p : Bool). xs ++ cond p (k ∷ []) []) (those_same f g k (λ i l. h i (le_step l))) (h k (lt-suc_self k))

-- numbers that fail the test add nothing
pub those_skip : (test : ℕ → Bool) (k m : ℕ) → ((i : ℕ) → k ≤ i → i < k + m → test i ≡ false) → those test (k + m) ≡ those test k
unfolding those
those_skip test k zero none = ap (those test) (add-zero k)
those_skip test k (suc m) none =
    ap (those test) (add-suc k m)
    ∙ ap (λ (p : Bool). those test (k + m) ++ cond p ((k + m) ∷ []) []) (none (k + m) (le-add_right k m) (omega arith))
    ∙ append-nil (those test (k + m)) ∙ those_skip test k m (λ i l h. none i l (omega arith))

pub those_none : (test : ℕ → Bool) (k : ℕ) → ((i : ℕ) → i < k → test i ≡ false) → those test k ≡ []
unfolding those
those_none test zero none = refl
those_none test (suc k) none =
    ap₂ (λ (xs : List ℕ) (p : Bool). xs ++ cond p (k ∷ []) []) (those_none test k (λ i h. none i (le_step h))) (none k (lt-suc_self k))

pub those_take : (test : ℕ → Bool) (k : ℕ) → test k ≡ true → those test (suc k) ≡ those test k ++ (k ∷ [])
unfolding those
those_take test k h = ap (λ (p : Bool). those test k ++ cond p (k ∷ []) []) h

-- what passes later stands behind
those_later : (test : ℕ → Bool) (k m : ℕ) → (rest : List ℕ) × (those test (k + m) ≡ those test k ++ rest)
unfolding those
those_later test k zero = ([], ap (those test) (add-zero k) ∙ sym (append-nil (those test k)))
those_later test k (suc m) =
    let before = those_later test k m in
    let last : List ℕ = cond (test (k + m)) ((k + m) ∷ []) [] in (
      before.0 ++ last,
      ap (those test) (add-suc k m) ∙ ap (λ (xs : List ℕ). xs ++ last) before.1 ∙ append_assoc (those test k) before.0 last,
    )

pub those_fewer : (test : ℕ → Bool) (j k : ℕ) → j ≤ k → length (those test j) ≤ length (those test k)
those_fewer test j k h =
    let later = those_later test j (k - j) in
    let longer : length (those test k) ≡ length (those test j) + length later.0 =
    ap (λ (m : ℕ). length (those test m)) (sym (add-sub_of_le h)) ∙ ap length later.1 ∙ length-append (those test j) later.0 in
    omega arith

-- ---- `least`

pub least_none : (test : ℕ → Bool) (k : ℕ) → ((i : ℕ) → i < k → test i ≡ false) → least test k ≡ k
least_none test k none = ap (λ (xs : List ℕ). get_or xs 0 k) (those_none test k none)

pub least_found : (test : ℕ → Bool) (k i : ℕ) → i < k → test i ≡ true → ((j : ℕ) → j < i → test j ≡ false) → least test k ≡ i
least_found test k i h found none =
    let m : ℕ = k - suc i in
    let later = those_later test (suc i) m in
    let first : those test (suc i) ≡ i ∷ [] = those_take test i found ∙ ap (λ (xs : List ℕ). xs ++ (i ∷ [])) (those_none test i none) in
    ap (λ (xs : List ℕ). get_or xs 0 k)
    (ap (those test) (sym (add-sub_of_le h)) ∙ later.1 ∙ ap (λ (xs : List ℕ). xs ++ later.0) first)

-- ---- rising lists

pub rising_above : (b : ℕ) (xs : List ℕ) → RisingFrom b xs → (a : ℕ) → Memᴰ a xs → b ≤ a
rising_above b [] r a m = absurd (Memᴰ.not-nil m)
rising_above b (x ∷ xs) r a m = cases (Memᴰ.cases_cons m) (rising_above (suc x) xs r.1 a)
  where
    cases : (a ≡ x) ⊎ Memᴰ a xs → (Memᴰ a xs → suc x ≤ a) → b ≤ a
    cases (inl e) rest = subst (λ (y : ℕ). b ≤ y) (sym e) r.0
    cases (inr later) rest = let above : suc x ≤ a = rest later in let first : b ≤ x = r.0 in omega arith

rising_snoc : (b : ℕ) (xs : List ℕ) (k : ℕ) → RisingFrom b xs → b ≤ k → ((a : ℕ) → Memᴰ a xs → a < k) → RisingFrom b (xs ++ (k ∷ []))
rising_snoc b [] k r h below = (h, tt)
rising_snoc b (x ∷ xs) k r h below =
    (r.0, rising_snoc (suc x) xs k r.1 (below x (Memᴰ.head refl)) (λ a m. below a (Memᴰ.tail m)))

pub those_rising : (test : ℕ → Bool) (k : ℕ) → Rising (those test k)
unfolding those
those_rising test zero = tt
those_rising test (suc k) = cases (test k) (those_rising test k)
  where
    cases : (p : Bool) → Rising (those test k) → Rising (those test k ++ cond p (k ∷ []) [])
    cases true r = rising_snoc 0 (those test k) k r zero-le (λ a m. (those_elim test k a m).0)
    cases false r = subst Rising (sym (append-nil (those test k))) r

-- two rising lists with the same members are one
head_least : (b x y : ℕ) (xs ys : List ℕ) → RisingFrom b (y ∷ ys) → ((a : ℕ) → Memᴰ a (x ∷ xs) → Memᴰ a (y ∷ ys)) → y ≤ x
head_least b x y xs ys r into = cases (Memᴰ.cases_cons (into x (Memᴰ.head refl)))
  where
    cases : (x ≡ y) ⊎ Memᴰ x ys → y ≤ x
    cases (inl e) = subst (λ (z : ℕ). y ≤ z) (sym e) (le_refl y)
    cases (inr m) = le_of_lt (rising_above (suc y) ys r.1 x m)

tail_into : (x y : ℕ) (xs ys : List ℕ) → x ≡ y → RisingFrom (suc x) xs → ((a : ℕ) → Memᴰ a (x ∷ xs) → Memᴰ a (y ∷ ys))
    → (a : ℕ) → Memᴰ a xs → Memᴰ a ys
tail_into x y xs ys e r into a m = cases (Memᴰ.cases_cons (into a (Memᴰ.tail m)))
  where
    cases : (a ≡ y) ⊎ Memᴰ a ys → Memᴰ a ys
    cases (inl k) =
        let above : suc x ≤ a = rising_above (suc x) xs r a m in
        absurd (lt_irrefl x (subst (λ (z : ℕ). x < z) (k ∙ sym e) above))
    cases (inr later) = later

pub rising_unique : (b : ℕ) (xs ys : List ℕ) → RisingFrom b xs → RisingFrom b ys → ((a : ℕ) → Memᴰ a xs → Memᴰ a ys)
    → ((a : ℕ) → Memᴰ a ys → Memᴰ a xs) → xs ≡ ys
rising_unique b [] [] r s into back = refl
rising_unique b [] (y ∷ ys) r s into back = absurd (Memᴰ.not-nil (back y (Memᴰ.head refl)))
rising_unique b (x ∷ xs) [] r s into back = absurd (Memᴰ.not-nil (into x (Memᴰ.head refl)))
rising_unique b (x ∷ xs) (y ∷ ys) r s into back =
    let e : x ≡ y = le_antisymm (head_least b y x ys xs r back) (head_least b x y xs ys s into) in
    ap₂ (λ (z : ℕ) (zs : List ℕ). z ∷ zs) e
    (rising_unique (suc x) xs ys r.1 (subst (λ (z : ℕ). RisingFrom (suc z) ys) (sym e) s.1) (tail_into x y xs ys e r.1 into)
    (tail_into y x ys xs (sym e) s.1 back))

-- some number passes: the first of them is what `least` gives, whatever the default
pub least_some : (test : ℕ → Bool) (k : ℕ) → any test k ≡ true → (d : ℕ) → (get_or (those test k) 0 d ≡ least test k) × (least test k < k)
least_some test k some d =
    let found = any_elim test k some in
    cases (those test k) (those_intro test k found.0 found.1 found.2) (those_elim test k)
  where
    cases : (xs : List ℕ) → {a : ℕ} → Memᴰ a xs → ((b : ℕ) → Memᴰ b xs → (b < k) × (test b ≡ true)) → (get_or xs 0 d ≡ get_or xs 0 k) × (get_or xs 0 k < k)
    cases [] m each = absurd (Memᴰ.not-nil m)
    cases (x ∷ xs) m each = (refl, (each x (Memᴰ.head refl)).0)

-- none passes: there is none to list
pub those_empty : (test : ℕ → Bool) (k : ℕ) → any test k ≡ false → those test k ≡ []
those_empty test k none = those_none test k (λ i h. any_none test k i none h)
