-- `record_opening::open_record` meets its contract: the walk from the first set meets the sets of the design that was read, and none where the record
-- is refused.
-- Assumes nothing.
use mathlib.Core.Path.{ap, ◌∙◌}
use mathlib.Core.List.{List}
use Prim.Native.Nat.{ℕ}
use native.Mathlib.Omega.{arith}
use Rattle.record_editions.specs.declared.StoredRead.{StoredRead}
use Rattle.record_opening.proofs.Loading.{Loaded, met_of, stored_loaded}
use Rattle.record_opening.proofs.open_record.Goals as goal

pub load_sets-sets-requires : goal.load_sets-sets-requires
load_sets-sets-requires c =
    let loaded : Loaded c.args.bytes.now c.whole_stored-read.result (met_of c.args.bytes.now c.whole_stored-read.result.body.contents) =
    stored_loaded c.args.bytes.now c.whole_stored-read.result (λ i. omega (arith, c.shared_slice_known-1.given i)) c.whole_stored-read.ensures in
    record { left_le_most_sets = loaded.most; by_index = loaded.small }

pub returns : goal.returns
returns c =
    let loaded : Loaded c.args.bytes.now c.whole_stored-read.result (met_of c.args.bytes.now c.whole_stored-read.result.body.contents) =
    stored_loaded c.args.bytes.now c.whole_stored-read.result (λ i. omega (arith, c.shared_slice_known-1.given i)) c.whole_stored-read.ensures in
    let w : StoredRead = c.whole_stored-read.result in
    ap (λ (cells : List ℕ). record { list = w.body.contents.list; count = w.body.contents.sets; sets = cells; edition = w.edition; retired = w.retired; verdict = w.body.contents.verdict }) c.load_sets-sets.ensures
    ∙ loaded.opened
