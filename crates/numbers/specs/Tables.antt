-- A function's first values as a list.
use Rattle.std.specs.Prelude.{List, [], ◌∷◌, ℕ, zero, suc, ◌≤◌, get_or}

-- f 0, f 1, .., f (n - 1)
unfoldable pub tabulate : {A : Type 0} → ℕ → (ℕ → A) → List A
tabulate zero f = []
tabulate (suc n) f = f zero ∷ tabulate n (λ i. f (suc i))

-- no number of a list is over a bound
abbrev pub NoneOver : ℕ → List ℕ → Type 0
NoneOver most numbers = (i : ℕ) → get_or numbers i 0 ≤ most
