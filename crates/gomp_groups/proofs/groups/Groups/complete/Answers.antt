use Rattle.std.proofs.Common.{refl}
use Rattle.gomp_events.specs.declared.event.Event.TheVariants.{Done}
use Rattle.gomp_groups.proofs.groups.Groups.complete.Goals as goal

pub finish_task-requires : goal.finish_task-requires
finish_task-requires c = let (h, m, st, may) = c.requires.may in record { may = (h, Done c.args.task m, st, record { completes = refl; rule = may }) }

pub returns-clause-stands : goal.returns-clause-stands
returns-clause-stands c = λ h m st may. c.finish_task.ensures.stands h (Done c.args.task m) st (record { completes = refl; rule = may })
