-- A structure of n parts as a set function: `works a` says of each mask a below 2^n whether the machine runs on that set (01, "Structures").
use Rattle.std.specs.Prelude.{Bool, true, false, not, ◌&&◌, ◌||◌, ◌≡◌, ℕ, ◌+◌, ◌-◌, ◌^◌, ◌<◌, eqb}
use mathlib.Core.List.{List, [], ◌∷◌, Memᴰ}
use Rattle.theory_sets.specs.Masks.{has, holds, any, those}

-- Semicoherent: every set holding a path set is one, the empty set isn't and the full set is.
pub record Semicoherent (n : ℕ) (works : ℕ → Bool) : Type 0 where
  pub upward : (a b : ℕ) → a < 2 ^ n → b < 2 ^ n → holds b a ≡ true → works a ≡ true → works b ≡ true
  pub empty : works 0 ≡ false
  pub full : works (2 ^ n - 1) ≡ true

-- The list form: a set is a path set exactly if it holds a listed one.
unfoldable pub listed : List ℕ → ℕ → Bool
listed [] a = false
listed (b ∷ bs) a = holds a b || listed bs a

-- each set of a list holds one of another
abbrev pub Covers : List ℕ → List ℕ → Type 0
Covers sets others = (b : ℕ) → Memᴰ b sets → (c : ℕ) × Memᴰ c others × (holds b c ≡ true)

-- a path set from which some single part more leads to a set that is none: what check 10 looks for
unfoldable pub broken : ℕ → (ℕ → Bool) → ℕ → Bool
broken n works a = works a && any (λ i. not (has a i) && not (works (a + 2 ^ i))) n

-- a minimal set: a path set holding no other
unfoldable pub minimal : ℕ → (ℕ → Bool) → ℕ → Bool
minimal n works a = works a && not (any (λ b. works b && holds a b && not (eqb a b)) (2 ^ n))

-- the minimal sets, ascending by mask
abbrev pub minimal_sets : ℕ → (ℕ → Bool) → List ℕ
minimal_sets n works = those (minimal n works) (2 ^ n)
