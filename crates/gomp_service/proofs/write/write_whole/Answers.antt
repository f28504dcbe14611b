use Rattle.gomp_service.proofs.Writes.{more_is_written, appended_and_kept}
use Rattle.gomp_service.proofs.write.write_whole.Goals as goal
use Rattle.gomp_service.proofs.write.write_whole.Goals.{in-Ok, in-Err+else-ne}

pub loop-preserved : goal.loop-preserved
loop-preserved g c = elim c.match-write.branch [
  | in-Ok w ↦ rw w.written-is (more_is_written _ _ _ c.args.bytes.now c.loop.written w.in-Ok.count c.loop.invariant.0 c.loop.invariant.1 w.in-Ok.ensures.bound w.in-Ok.ensures.bytes)
  | in-Err+else-ne w ↦ rw w.written-is (c.loop.invariant.0, appended_and_kept _ _ _ _ c.loop.invariant.1 w.in-Err.ensures.bytes)
]
