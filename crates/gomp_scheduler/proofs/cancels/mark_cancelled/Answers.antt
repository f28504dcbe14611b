use Rattle.gomp_types.specs.declared.cancel.Scope.TheVariants.{OneGroup}
use Rattle.gomp_events.specs.declared.event.Event.TheVariants.{Cancel}
use Rattle.gomp_barrier.proofs.Laws.{events_aside_keep_barriers}
use Rattle.gomp_scheduler.proofs.cancels.mark_cancelled.Goals as goal

pub returns-in-Region-clause-cancelled : goal.returns-in-Region-clause-cancelled
returns-in-Region-clause-cancelled c = λ h m st. rw c.in-Region.is (c.cancel_region.ensures.stands h m st)

pub returns-in-OneGroup-clause-cancelled : goal.returns-in-OneGroup-clause-cancelled
returns-in-OneGroup-clause-cancelled c = λ h m st. rw c.in-OneGroup.is (c.cancel_group.ensures.stands h m st)

pub returns-in-OneGroup-clause-barriers : goal.returns-in-OneGroup-clause-barriers
returns-in-OneGroup-clause-barriers c = λ h m st. rw c.in-OneGroup.is (events_aside_keep_barriers c.args.barriers.now h (Cancel m (OneGroup c.in-OneGroup.group)) tt st)
