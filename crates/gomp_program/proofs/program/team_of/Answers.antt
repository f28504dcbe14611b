use Rattle.std.proofs.Common.{add-one, zero-add}
use Rattle.gomp_program.proofs.ProgramLists.{programs_from_more}
use Rattle.std.specs.Arc.{arc_value}
use Rattle.gomp_program.proofs.program.team_of.Goals as goal

-- one member more
pub loop-member-preserved : goal.loop-member-preserved
loop-member-preserved c =
    let more = programs_from_more (arc_value c.args.script.now) c.args.line 0 c.loop-member.member in
    let here = rw (zero-add c.loop-member.member) at more in
    let pushed = rw c.new.ensures.items at c.in_ok-push.ensures.items in
    rw add-one (rw here (rw (← c.loop-member.invariant) (rw (← c.in_ok-try_clone.ensures) pushed)))
