-- What the private functions answer on the way to minimal sets: a reader of the promises may pass this file over.
use Rattle.std.specs.Prelude.{List, ℕ, min}
use Rattle.theory_sets.specs.Masks.{those}
use Rattle.structure_closure.specs.Closure.{spread, irredundant}
use Rattle.structure_words.specs.Words.{in_words, words_of}

-- marked sets, carried over n parts and trimmed
abbrev pub least_of : ℕ → List ℕ → List ℕ
least_of n marks = those (in_words (words_of (irredundant (min n 16) (in_words (words_of (spread (min n 16) (in_words marks))))))) 65536
