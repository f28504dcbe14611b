use Rattle.gomp_program.specs.Passing.{executes, point_in}
use Rattle.gomp_program.proofs.LeadLemmas.{has_arrived}
use Rattle.gomp_program.proofs.progress.Progress.advance.Goals as goal

-- one statement more
pub loop-preserved : goal.loop-preserved
loop-preserved c = λ place sum comes. c.loop.invariant place sum (executes (point_in c.loop.self c.loop.total) (point_in c.pass.new.self c.pass.new.total) place sum (rw c.loop-test.true at c.pass.ensures.point) comes)

pub returns : goal.returns
returns c = c.loop.invariant _ _ (has_arrived c.args.script.now c.args.member (point_in c.loop.self c.loop.total) (point_in c.pass.new.self c.pass.new.total) _ (rw c.loop-test.false at c.pass.ensures.point) (c.pass.ensures.stays c.loop-test.false) (c.arrive.ensures c.pass.new.total))
