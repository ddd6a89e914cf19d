-- The minimal sets of a structure keep the rules of a record's sets: there are some, at most 12,870 by Sperner's bound, rising, and none holds
-- another. And the minimal sets of a list are those of the list that hold no other of it.
-- Assumes nothing.
use mathlib.Core.Path.{◌≡◌, sym, subst}
use mathlib.Core.Bool.{Bool, true}
use mathlib.Core.List.{List, Memᴰ}
use mathlib.Core.Logic.{◌↔◌}
use Prim.Native.Nat.{ℕ, ◌-◌, ◌^◌, ◌≤◌, ◌<◌}
use native.Mathlib.Nat.{lt_of_le_of_lt, pos_of_ne-zero}
use lib.Pow.{ones_lt}
use Rattle.theory_orders.proofs.Sperner.{minimal_sets_most}
use Rattle.theory_sets.specs.Masks.{holds}
use Rattle.theory_sets.specs.Structures.{Semicoherent, listed, minimal, minimal_sets}
use Rattle.numbers.proofs.Bools.{clash}
use Rattle.theory_sets.proofs.Masks.{holds_refl, holds_trans, holds_antisym}
use Rattle.theory_sets.proofs.Ranges.{those_elim, those_intro, those_rising}
use Rattle.theory_sets.proofs.Structures.{minimal_works, minimal_least, minimal_intro, minimal_below}
use Rattle.theory_sets.proofs.Lists.{listed_intro, listed_elim, some_entry}
use Rattle.record.specs.RecordBytes.{SetRules}

pub minimal_set_rules : (n : ℕ) (works : ℕ → Bool) → n ≤ 16 → Semicoherent n works → SetRules n (minimal_sets n works)
minimal_set_rules n works few sc =
    let family = minimal n works in
    let low = minimal_below n works (2 ^ n - 1) sc.full in
    record {
      some = some_entry (minimal_sets n works) (those_intro family (2 ^ n) low.0 (lt_of_le_of_lt low.1 (ones_lt n)) low.2);
      most = minimal_sets_most n works few;
      within = λ a m.
          let found = those_elim family (2 ^ n) a m in
          (found.0, pos_of_ne-zero (λ e. clash (subst (λ (x : ℕ). works x ≡ true) e (minimal_works n works a found.1)) sc.empty));
      rising = those_rising family (2 ^ n);
      apart = λ a b m k within.
          let x = those_elim family (2 ^ n) a m in
          let y = those_elim family (2 ^ n) b k in
          minimal_least n works a b x.1 y.0 (minimal_works n works b y.1) within;
    }

-- a set of a list is least in it: it holds no other set of the list
abbrev pub Least : List ℕ → ℕ → Type 0
Least xs a = Memᴰ a xs × ((b : ℕ) → Memᴰ b xs → holds a b ≡ true → a ≡ b)

pub minimal_exactly : (n : ℕ) (xs : List ℕ) → ((b : ℕ) → Memᴰ b xs → b < 2 ^ n) → (a : ℕ) → Memᴰ a (minimal_sets n (listed xs)) ↔ Least xs a
minimal_exactly n xs below a = (there, back)
  where
    there : Memᴰ a (minimal_sets n (listed xs)) → Least xs a
    there m =
        let least = (those_elim (minimal n (listed xs)) (2 ^ n) a m).1 in
        let inside : (b : ℕ) → Memᴰ b xs → holds a b ≡ true → a ≡ b =
        λ b k within. minimal_least n (listed xs) a b least (below b k) (listed_intro xs b b k (holds_refl b)) within in
        let found = listed_elim xs a (minimal_works n (listed xs) a least) in
        let same : a ≡ found.0 = inside found.0 found.1 found.2 in
        (subst (λ (x : ℕ). Memᴰ x xs) (sym same) found.1, inside)

    back : Least xs a → Memᴰ a (minimal_sets n (listed xs))
    back least =
        those_intro (minimal n (listed xs)) (2 ^ n) a (below a least.0)
        (minimal_intro n (listed xs) a (listed_intro xs a a least.0 (holds_refl a)) (λ b hb w within.
        let found = listed_elim xs b w in
        let c = found.0 in
        let same : a ≡ c = least.1 c found.1 (holds_trans a b c within found.2) in
        holds_antisym a b within (subst (λ (x : ℕ). holds b x ≡ true) (sym same) found.2)))
