-- `codec::write_groups` meets its contract: storing the form of what is left, from the next position on, gives what storing the whole form
-- gives, and ends where that ends.
use Rattle.std.proofs.Common.{◌≡◌, ◌+◌, length}
use lib.Seq.{sets}
use Rattle.codec.specs.ByteForm.{bytes_of}
use Rattle.codec.proofs.write_groups.Given as goal

abbrev pub invariant-loop-next : goal.invariant-loop-next
invariant-loop-next l = record {
  whole : sets l.buffer l.next (bytes_of l.rest) ≡ sets l.initial.buffer l.at (bytes_of l.value);
  ends : l.next + length (bytes_of l.rest) ≡ l.at + length (bytes_of l.value);
}
