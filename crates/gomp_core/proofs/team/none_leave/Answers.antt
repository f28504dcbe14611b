use Rattle.std.proofs.Common.{arith}
use Rattle.std.proofs.lemmas.List.{replicate_more}
use Rattle.gomp_dispatch.specs.declared.leaving.Leaving.{Leaving}
use Rattle.gomp_dispatch.specs.Leaves.{leaves_nothing}
use Rattle.gomp_core.proofs.team.none_leave.Goals as goal

pub loop-preserved : goal.loop-preserved
loop-preserved c = record {
  items = rw (c.push_reserved.ensures.items, c.loop.invariant.items) (replicate_more {X = Leaving} c.loop.counter leaves_nothing);
  room = let kept = c.push_reserved.ensures.capacity in let room = c.loop.invariant.room in omega arith;
}
