-- `record_editions::table_of_record` meets its contract: the words of an accepted record give its table.
-- Assumes nothing.
use mathlib.Core.Path.{◌∙◌}
use native.Mathlib.Omega.{arith}
use Rattle.record_editions.proofs.Whole.{words_delivered}
use Rattle.record_editions.proofs.table_of_record.Goals as goal

pub returns : goal.returns
returns c =
    let a = c.args in
    c.store_table.ensures
    ∙ words_delivered a.bytes.now c.whole_with_words.result (λ i. omega (arith, c.shared_slice_known-1.given i)) c.whole_with_words.ensures a.table.now
