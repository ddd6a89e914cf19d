-- `figures::write_vectors` meets its contract: the entries are accepted and there is room, so each conversion writes its vector.
-- Assumes nothing.
use Rattle.vector_kind.specs.declared.Kind.TheVariants.{PathCounts, Signature, Domination}
use Rattle.figures.proofs.Rooms.{converted_stands}
use Rattle.figures.proofs.write_vectors.Goals as goal

pub returns : goal.returns
returns c =
    let a = c.args in
    let entries = a.entries.now in
    let given = c.requires in
    record {
      counts_after = converted_stands PathCounts a.n entries a.counts.now _ c.convert.result given.entries_accepted given.counts_long c.convert.ensures;
      signature_after = converted_stands Signature a.n entries a.signature.now _ c.convert-2.result given.entries_accepted given.signature_long c.convert-2.ensures;
      domination_after = converted_stands Domination a.n entries a.domination.now _ c.convert-3.result given.entries_accepted given.domination_long c.convert-3.ensures;
    }
