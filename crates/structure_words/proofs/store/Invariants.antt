-- `structure_words::store` meets its contract: the bytes so far are those of the words.
use Rattle.std.proofs.Common.{◌≡◌, ◌+◌, ◌*◌}
use Rattle.numbers.proofs.Tables.{filled}
use Rattle.theory_sets.specs.Tables.{packed}
use Rattle.structure_words.specs.Words.{in_words}
use Rattle.structure_words.proofs.store.Given as goal

abbrev pub invariant-loop-at : goal.invariant-loop-at
invariant-loop-at l = l.table ≡ filled (λ b. packed 8 (λ k. in_words l.words (8 * b + k))) l.initial.table l.at
