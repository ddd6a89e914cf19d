-- What a pass over the words of a table gathers by class. Assumes nothing.
use Rattle.std.proofs.Common.{◌≡◌, ℕ, ◌^◌, ◌≤◌, Bool, cond, ◌&&◌, eqb, List, ap}
use Rattle.theory_sums.specs.Sums.{gathered}
use Rattle.theory_sums.proofs.Sums.{sum_below_same}
use Rattle.theory_sets.specs.Tables.{in_table}
use Rattle.structure_words.specs.Words.{in_words, words_of}
use Rattle.structure_words.proofs.Words.{words_say}

-- a pass over the words of a table gathers what the table's path sets give
pub gathered_words : (n : ℕ) (table words : List ℕ) (class amount : ℕ → ℕ) → n ≤ 16 → words ≡ words_of (in_table table) → (i : ℕ)
    → gathered (in_words words) class amount (2 ^ n) i ≡ gathered (in_table table) class amount (2 ^ n) i
unfolding gathered
gathered_words n table words class amount few loaded i =
    sum_below_same _ _ (2 ^ n) (λ a h.
    ap (λ (b : Bool). cond (b && eqb (class a) i) (amount a) 0) (words_say n (in_table table) words few loaded a h))
