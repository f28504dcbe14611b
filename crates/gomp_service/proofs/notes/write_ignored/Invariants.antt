use Rattle.std.proofs.Common.{take}
use Rattle.std.specs.Io.KnownBytes.{Appends}
use Rattle.gomp_service.specs.Notes.{lines_of}
use Rattle.gomp_service.proofs.notes.write_ignored.Given as goal

-- the lines of the words so far are written
abbrev pub invariant-loop-word : goal.invariant-loop-word
invariant-loop-word g l = Appends (g.W.Write.contents l.fn.writer) (g.W.Write.contents l.writer) (lines_of (take l.word-index l.words))
