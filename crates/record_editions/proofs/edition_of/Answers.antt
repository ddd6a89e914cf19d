-- `record_editions::edition_of` meets its contract: the edition that reading tells.
-- Assumes nothing.
use Rattle.record_editions.specs.declared.Edition.TheVariants.{First, Second}
use Rattle.record_editions.proofs.Whole.{stored_told, edition_refused, edition_given_lem}
use Rattle.record_editions.proofs.edition_of.Goals as goal

pub returns-in-Err : goal.returns-in-Err
returns-in-Err c =
    let bytes = c.args.bytes.now in
    edition_refused bytes c.whole_stored-read.result (stored_told bytes c.whole_stored-read.result c.whole_stored-read.ensures) _ c.in-Err.is

pub returns-in-First : goal.returns-in-First
returns-in-First c =
    let bytes = c.args.bytes.now in
    edition_given_lem bytes c.whole_stored-read.result (stored_told bytes c.whole_stored-read.result c.whole_stored-read.ensures) c.in_default.is First c.in-First.is

pub returns-in-Second : goal.returns-in-Second
returns-in-Second c =
    let bytes = c.args.bytes.now in
    edition_given_lem bytes c.whole_stored-read.result (stored_told bytes c.whole_stored-read.result c.whole_stored-read.ensures) c.in_default.is Second c.in-Second.is
