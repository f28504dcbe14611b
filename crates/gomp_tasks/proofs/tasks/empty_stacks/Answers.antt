use Rattle.std.proofs.Common.{ℕ, List, [], arith}
use Rattle.std.proofs.lemmas.List.{replicate_more}
use Rattle.gomp_tasks.proofs.tasks.empty_stacks.Goals as goal

pub loop-preserved : goal.loop-preserved
loop-preserved c = record {
  items = rw (c.push_reserved.ensures.items, c.loop.invariant.items, c.new.ensures) (replicate_more {X = List ℕ} c.loop.counter []);
  room = let kept = c.push_reserved.ensures.capacity in let room = c.loop.invariant.room in omega arith;
}
