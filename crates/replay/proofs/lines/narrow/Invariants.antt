-- `replay::lines::narrow` meets its contract: so far the first i numbers stand as bytes. Assumes nothing.
use Rattle.std.proofs.Common.{◌≡◌, length, take}
use Rattle.buffer.specs.Run.{put}
use Rattle.replay.specs.Bytes.{bytes_of}
use Rattle.replay.proofs.lines.narrow.Given as goal

abbrev pub invariant-loop-i : goal.invariant-loop-i
invariant-loop-i l = (l.bytes ≡ put l.initial.bytes 0 (take l.i (bytes_of l.wide))) × (length l.bytes ≡ length l.initial.bytes)
