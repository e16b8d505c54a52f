-- `utf8::well_formed` meets its contract: whether what is owed follows from here is whether the bytes are well-formed. Assumes nothing.
use Rattle.std.proofs.Common.{◌≡◌, drop}
use Rattle.buffer.specs.Utf8.{well_formed, owed}
use Rattle.buffer.specs.Reader.{ranges}
use Rattle.buffer.proofs.utf8.well_formed.Given as goal

abbrev pub invariant-loop-b : goal.invariant-loop-b
invariant-loop-b l = owed (ranges l.o) (drop l.b-index l.bytes) ≡ well_formed l.bytes
