use Rattle.std.proofs.Common.{◌≤◌, length}
use Rattle.std.specs.Prelude.{take}
use Rattle.std.specs.Io.KnownBytes.{Appends}
use Rattle.gomp_service.proofs.write.write_whole.Given as goal

-- so many bytes were written, and they are the first ones
abbrev pub invariant-loop : goal.invariant-loop
invariant-loop g l = (l.written ≤ length l.bytes) × Appends (g.W.Write.contents l.fn.writer) (g.W.Write.contents l.writer) (take l.written l.bytes)
