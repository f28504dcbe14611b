use Rattle.gomp_ompt.proofs.RecordsGiven.{after_next_record, unmoved_after_each}
use Rattle.gomp_ompt.proofs.tool.give_records.Goals as goal

pub returns-then-not-listens : goal.returns-then-not-listens
returns-then-not-listens g c = unmoved_after_each g.T.Tool.on_gives c.args.tool.now _ (c.listens.ensures.unmoved c.if-not-listens.true)

pub loop-event-preserved : goal.loop-event-preserved
loop-event-preserved g c = after_next_record g.T.Tool.on_gives _ _ _ _ _ _ c.loop-event-test.true c.loop-event.invariant c.on.ensures
