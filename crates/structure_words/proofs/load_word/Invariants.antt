-- `structure_words::load_word` meets its contract: so far it is the word without its i lowest bytes.
use Rattle.std.proofs.Common.{◌≡◌, ◌*◌, ◌/◌, ◌^◌}
use Rattle.theory_sets.specs.Tables.{in_table}
use Rattle.structure_words.specs.Words.{word_of}
use Rattle.structure_words.proofs.load_word.Given as goal

abbrev pub invariant-loop-i : goal.invariant-loop-i
invariant-loop-i l = l.word ≡ word_of (in_table l.table) l.at / 2 ^ (8 * l.i)
