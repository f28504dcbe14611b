use Rattle.std.proofs.Common.{refl, ap}
use Rattle.gomp_program.specs.Totals.{total_with}
use Rattle.gomp_program.proofs.LeadLemmas.{led_to_call, led_to_stop}
use Rattle.gomp_program.proofs.program.ScriptProgram.take.Goals as goal

pub returns-in-Stopping-clause-place : goal.returns-in-Stopping-clause-place
returns-in-Stopping-clause-place c =
    let led = rw (c.deref-2.ensures, c.in-Stopping.is) at c.in_ok-take_reply.ensures.led in
    rw (← c.self.view_is) (led_to_stop _ c.args.last.now c.self.inside.progress c.take_reply.new.self _ _ led refl refl refl).0

pub returns-in-ItsCall-clause-place : goal.returns-in-ItsCall-clause-place
returns-in-ItsCall-clause-place c =
    let led = rw (c.deref-2.ensures, c.in-ItsCall.is) at c.in_ok-take_reply.ensures.led in
    let adds = rw c.deref.ensures at c.addition-addition.ensures in
    rw (← c.self.view_is, c.add.ensures) (led_to_call _ c.args.last.now c.self.inside.progress c.take_reply.new.self _ _ led refl refl (ap (total_with c.self.inside.total) adds)).0
