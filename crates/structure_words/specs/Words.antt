-- A set function of 16 parts in 1,024 words of 64 bits: mask a stands at word a/64 rounded down, bit a mod 64.
use Rattle.std.specs.Prelude.{Bool, not, List, ℕ, ◌+◌, ◌*◌, ◌/◌, ◌%◌, eqb, length, get_or}
use Rattle.numbers.specs.Tables.{tabulate}
use Rattle.theory_sets.specs.Masks.{has, any}
use Rattle.theory_sets.specs.Tables.{packed}

-- a bit outside the words is 0
unfoldable pub in_words : List ℕ → ℕ → Bool
in_words words a = has (get_or words (a / 64) 0) (a % 64)

-- one word of a set function, and all of them
unfoldable pub word_of : (ℕ → Bool) → ℕ → ℕ
word_of works at = packed 64 (λ k. works (64 * at + k))

abbrev pub words_of : (ℕ → Bool) → List ℕ
words_of works = tabulate 1024 (word_of works)

-- the bits of a word whose index lacks the part: an index within a word has six parts
abbrev pub lacks : ℕ → ℕ
lacks part = packed 64 (λ k. not (has k part))

-- the first bytes of words, in each the bits of eight masks
abbrev pub bytes_in : ℕ → List ℕ → List ℕ
bytes_in count words = tabulate count (λ b. packed 8 (λ i. in_words words (8 * b + i)))

-- the mask a is one of the list
abbrev pub among : List ℕ → ℕ → Bool
among list a = any (λ i. eqb (get_or list i 0) a) (length list)
