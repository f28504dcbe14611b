use Rattle.std.proofs.Common.{arith}
use Rattle.std.proofs.lemmas.List.{replicate_more}
use Rattle.gomp_model.specs.Past.{Waits, no_waits}
use Rattle.gomp_core.proofs.team.none_wait.Goals as goal

pub loop-preserved : goal.loop-preserved
loop-preserved c = record {
  items = rw (c.push_reserved.ensures.items, c.loop.invariant.items, c.in_ok-new.ensures.none) (replicate_more {X = Waits} c.loop.counter no_waits);
  room = let kept = c.push_reserved.ensures.capacity in let room = c.loop.invariant.room in omega arith;
}
