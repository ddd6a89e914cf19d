-- `record::read_with_words` meets its contract: what stands before the sets, and then the sets.
-- Assumes nothing.
use mathlib.Core.Path.{◌≡◌, sym, ap, ◌∙◌}
use Rattle.codec.specs.Reads.{found}
use Rattle.record_head.specs.Headings.{head_at}
use Rattle.record_head.proofs.Answers.{head_few, heading_given, heading_refused}
use Rattle.record.proofs.Answers.{sets_given, sets_refused, record_no_head, record_no_sets, record_given}
use Rattle.record.specs.Contents.{with_words_of}
use Rattle.record.proofs.read_with_words.Goals as goal
use Rattle.record.proofs.read_with_words.Goals.{In-Ok}

-- what stands before the sets, which was read
head : (c : In-Ok) → head_at c.args.bytes.now c.args.start
    ≡ found (record { parts = c.in-Ok.heading.list; count = c.in-Ok.heading.sets }) c.in-Ok.heading.begin
head c =
    heading_given _ _ (sym c.in-Ok.is ∙ c.read_heading-head.ensures)

pub read_sets-read-requires : goal.read_sets-read-requires
read_sets-read-requires c =
    let a = c.args in
    head_few a.bytes.now a.start _ _ (head (goal.at.read_sets-read-requires c).In-Ok)

pub returns-in-Err : goal.returns-in-Err
returns-in-Err c =
    let a = c.args in
    c.refused_with_words.ensures
    ∙ sym (ap with_words_of (record_no_head a.bytes.now a.start _ (heading_refused _ _ (sym c.in-Err.is ∙ c.read_heading-head.ensures))))

pub returns-in-Err-judged : goal.returns-in-Err-judged
returns-in-Err-judged c =
    let a = c.args in
    c.refused_with_words-in-Err-judged.ensures
    ∙ sym (ap with_words_of (record_no_sets a.bytes.now a.start _ _ _ (head (goal.at.returns-in-Err-judged c).In-Ok) (sets_refused _ _ c.read_sets-read.result _ c.read_sets-read.ensures c.in-Err-judged.is)))

pub returns-in-Ok-judged : goal.returns-in-Ok-judged
returns-in-Ok-judged c =
    let a = c.args in
    let heading = c.in-Ok.heading in
    let sets = sets_given _ _ c.read_sets-read.result c.read_sets-read.ensures c.in-Ok-judged.is in
    record_given a.bytes.now a.start (record { parts = heading.list; count = heading.sets }) heading.begin sets.sets _ _ (head (goal.at.returns-in-Ok-judged c).In-Ok) sets.given sets.words
