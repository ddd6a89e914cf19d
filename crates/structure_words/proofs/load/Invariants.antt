-- `structure_words::load` meets its contract: the words so far are those of the table.
use Rattle.std.proofs.Common.{◌≡◌}
use Rattle.numbers.proofs.Tables.{filled}
use Rattle.structure_words.specs.Words.{word_of}
use Rattle.theory_sets.specs.Tables.{in_table}
use Rattle.structure_words.proofs.load.Given as goal

abbrev pub invariant-loop-at : goal.invariant-loop-at
invariant-loop-at l = l.word-items ≡ filled (word_of (in_table l.table)) l.initial.word-items l.at
