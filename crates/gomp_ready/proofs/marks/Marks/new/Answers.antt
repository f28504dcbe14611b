use Rattle.gomp_ready.proofs.Marked.{zero_at_each}
use Rattle.gomp_ready.proofs.marks.Marks.new.Goals as goal

pub returns-clause-zero : goal.returns-clause-zero
returns-clause-zero c = zero_at_each c.loop.members.items c.loop.counter 65 0 c.loop.invariant.zero
