-- `record_editions::whole_stored` meets its contract: the record from the first byte on, and then 25.
-- Assumes nothing.
use mathlib.Core.Path.{ap, ◌∙◌}
use Rattle.record_editions.specs.Inside.{first_read}
use Rattle.record_editions.proofs.Answers.{whole_refused, whole_left, whole_alone}
use Rattle.record_editions.proofs.whole_stored.Goals as goal

pub returns-then-next-bytes : goal.returns-then-next-bytes
returns-then-next-bytes c =
    let a = c.args in
    c.first_edition.ensures ∙ ap first_read c.refused_with_words.ensures
    ∙ whole_left a.bytes.now c.read_stored-read.result c.read_stored-read.ensures c.in-Ok.is c.if-next-bytes.true

pub returns-in-Err : goal.returns-in-Err
returns-in-Err c =
    let a = c.args in
    whole_refused a.bytes.now c.read_stored-read.result c.read_stored-read.ensures _ c.in-Err.is

pub returns-else-next-bytes : goal.returns-else-next-bytes
returns-else-next-bytes c =
    let a = c.args in
    whole_alone a.bytes.now c.read_stored-read.result c.read_stored-read.ensures c.in-Ok.is c.if-next-bytes.false
