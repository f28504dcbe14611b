use Rattle.std.proofs.Common.{arith}
use Rattle.std.proofs.lemmas.List.{replicate_more}
use Rattle.gomp_tasks.specs.declared.rows.Newest.{Newest}
use Rattle.gomp_tasks.specs.Rows.{no_newest}
use Rattle.gomp_tasks.proofs.tasks.empty_roots.Goals as goal

pub loop-preserved : goal.loop-preserved
loop-preserved c = record {
  items = rw (c.push_reserved.ensures.items, c.loop.invariant.items, c.none.ensures) (replicate_more {X = Newest} c.loop.counter no_newest);
  room = let kept = c.push_reserved.ensures.capacity in let room = c.loop.invariant.room in omega arith;
}
