-- An accepted vector in 01's own words ("Vector sheets"): that it is one exactly where nothing refuses it is proved (proofs/Acceptance.antt).
use Rattle.std.specs.Prelude.{List, ◌≡◌, ℕ, suc, ◌*◌, ◌≤◌, ◌<◌, ℤ, pos, length}
use Rattle.numbers.specs.Counts.{choose}
use Rattle.vector_kind.specs.Kinds.{length_of}
use Rattle.vector_kind.specs.declared.Kind.{Kind}
use Rattle.vector_conversion.specs.Vectors.{scaled_count, unit_of, counts_of}

-- path counts "lie in 0..C(n,j), φ(0) = 0, φ(n) = 1, and φ(j)/C(n,j) never falls as j grows"
pub record AcceptedCounts (n : ℕ) (φ : ℕ → ℕ) : Type 0 where
  pub most : (j : ℕ) → j ≤ n → φ j ≤ choose n j
  pub none : φ 0 ≡ 0
  pub all : φ n ≡ 1
  pub rises : (j : ℕ) → j < n → φ j * choose n (suc j) ≤ φ (suc j) * choose n j

-- a vector of 1 to 16 parts has its kind's length, and "the path counts it stands for are whole" and accepted
pub record AcceptedVector (kind : Kind) (n : ℕ) (entries : List ℤ) : Type 0 where
  pub some : 1 ≤ n
  pub few : n ≤ 16
  pub long : length entries ≡ length_of kind n
  pub whole : (j : ℕ) → j ≤ n → scaled_count kind n entries j ≡ pos (counts_of kind n entries j * unit_of kind n j)
  pub counts : AcceptedCounts n (counts_of kind n entries)
