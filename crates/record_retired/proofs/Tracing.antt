-- Every number that left is traced: it is filed, or it was dropped because 64 numbers above it are.
-- Assumes nothing.
use mathlib.Core.Path.{◌≡◌, ap, ◌∙◌}
use mathlib.Core.List.Memᴰ
use mathlib.Core.List.{List, [], ◌∷◌}
use mathlib.Core.Logic.{◌⊎◌, inl, inr, ⊎_elim}
use Prim.Native.Nat.{ℕ, ◌≤◌, ◌<◌}
use native.Mathlib.Omega.{arith}
use lib.ListN.{length}
use Rattle.numbers.proofs.Bounds.{below_or_above}
use Rattle.record_parts.specs.Lines.{In}
use Rattle.record_retired.specs.Retired.{most_retired, inserted, kept, filed, filed_all}
use Rattle.record_retired.proofs.Inserted.{inserted_length, inserted_in, inserted_first, Ordered, ordered_in, ordered_from, ordered_inserted}
use Rattle.record_retired.proofs.Kept.{kept_full, kept_few, kept_past, ordered_kept}

-- a number stands among the retired, or these are 64 and it is below them all
abbrev pub Traced : ℕ → List ℕ → Type 0
Traced number retired = In number retired ⊎ ((length retired ≡ most_retired) × ((other : ℕ) → In other retired → number < other))

-- a number below which none of 64 stands is the first of them, or below them all
lowest_traced : (number : ℕ) (list : List ℕ) → length list ≡ most_retired → Ordered number list → Traced number list
lowest_traced number [] full o = absurd (omega arith)
lowest_traced number (x ∷ xs) full o = ⊎_elim below (λ h. inl (Memᴰ.head (omega (arith, o.0)))) (below_or_above number x)
  where
    below : number < x → Traced number (x ∷ xs)
    below h =
        inr (full, λ other i. ⊎_elim (λ (e : other ≡ x). omega arith) (λ j. omega (arith, ordered_in x xs o.1 {number = other} j)) (Memᴰ.cases_cons i))

-- a number of a list in order is among the last 64, or below them
kept_traced : (low number : ℕ) (list : List ℕ) → Ordered low list → In number list → Traced number (kept list)
kept_traced low number [] o i = absurd (Memᴰ.not-nil i)
kept_traced low number (x ∷ xs) o i =
    ⊎_elim (λ few. inl (rw (kept_few (x ∷ xs) few) i)) (many (kept_traced x number xs o.1)) (below_or_above (length xs) most_retired)
  where
    many : (In number xs → Traced number (kept xs)) → most_retired ≤ length xs → Traced number (kept (x ∷ xs))
    many later h =
        let first : number ≡ x → Traced number (kept xs) = λ e. rw e (lowest_traced x (kept xs) (kept_full xs h) (ordered_kept x xs o.1)) in
        rw (kept_past x xs h) (⊎_elim first later (Memᴰ.cases_cons i))

-- one that is below 64 numbers stays below 64: what is filed is dropped at once, or is not below it
still_below : (low number other : ℕ) (retired : List ℕ) → Ordered low retired → length retired ≡ most_retired → ((each : ℕ) → In each retired → number < each)
    → Traced number (filed other retired)
still_below low number other retired o full below = ⊎_elim dropped filed_above (below_or_above other number)
  where
    above : Ordered number retired
    above = ordered_from number low retired o below

    dropped : other < number → Traced number (filed other retired)
    dropped h =
        let same : filed other retired ≡ retired =
        ap kept (inserted_first number other retired h above) ∙ kept_past other retired (omega arith) ∙ kept_few retired (omega arith) in
        rw same (inr (full, below))

    filed_above : number ≤ other → Traced number (filed other retired)
    filed_above h =
        lowest_traced number (filed other retired) (kept_full (inserted other retired) (omega (arith, inserted_length other retired)))
        (ordered_kept number (inserted other retired) (ordered_inserted number other retired h above))

-- numbers that left, and those that were traced before
pub traced_all : (number : ℕ) (gone retired : List ℕ) → Ordered 0 retired → In number gone ⊎ Traced number retired → Traced number (filed_all gone retired)
unfolding filed_all
traced_all number [] retired o (inl i) = absurd (Memᴰ.not-nil i)
traced_all number [] retired o (inr t) = t
traced_all number (x ∷ xs) retired o h = traced_all number xs (filed x retired) (ordered_kept 0 (inserted x retired) more) (next h)
  where
    more : Ordered 0 (inserted x retired)
    more = ordered_inserted 0 x retired (omega arith) o

    here : (number ≡ x) ⊎ In number retired → Traced number (filed x retired)
    here i = kept_traced 0 number (inserted x retired) more (inserted_in x retired i)

    next : In number (x ∷ xs) ⊎ Traced number retired → In number xs ⊎ Traced number (filed x retired)
    next (inl i) = ⊎_elim (λ (e : number ≡ x). inr (here (inl e))) (λ j. inl j) (Memᴰ.cases_cons i)
    next (inr (inl i)) = inr (here (inr i))
    next (inr (inr b)) = inr (still_below 0 number x retired o b.0 b.1)
