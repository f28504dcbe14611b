use Rattle.std.proofs.Common.{arith}
use Rattle.gomp_scheduler.specs.Passed.{shown}
use Rattle.gomp_scheduler.proofs.PartsKeep.{new_scheduler, new_stands}
use Rattle.gomp_scheduler.proofs.scheduler.Scheduler.new.Goals as goal

pub invariant_of-result : goal.invariant_of-result
invariant_of-result c =
    let waits = c.new-4.ensures.waiting in let room = c.in_ok-new-4.ensures.room in
    new_scheduler c.in_ok-new.field-0 c.in_ok-new-2.field-0 c.in_ok-new-3.field-0 c.new-4.result c.new-5.result (shown c.in_ok-new-4.field-0) c.in_ok-new.ensures.stands c.in_ok-new-2.ensures.stands c.in_ok-new-3.ensures.stands c.new-4.ensures.stands c.new-5.ensures.stands c.in_ok-new-4.ensures.ids
    c.args.count c.requires.size c.in_ok-new.ensures.members c.in_ok-new-2.ensures.members c.in_ok-new-3.ensures.members c.in_ok-new-4.ensures.members c.new-4.ensures.freed (omega (arith, waits, room)) c.in_ok-new-4.field-0 c.in_ok-new-4.ensures.passed

pub returns-clause-stands : goal.returns-clause-stands
returns-clause-stands c =
    new_stands c.in_ok-new.field-0 c.in_ok-new-2.field-0 c.in_ok-new-3.field-0 c.new-4.result c.new-5.result (shown c.in_ok-new-4.field-0) c.in_ok-new.ensures.stands c.in_ok-new-2.ensures.stands c.in_ok-new-3.ensures.stands c.new-4.ensures.stands c.new-5.ensures.stands c.in_ok-new-4.ensures.ids
