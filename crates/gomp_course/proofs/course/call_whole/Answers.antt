use Rattle.std.proofs.Common.{subst}
use Rattle.gomp_team.specs.Members.{CalledWhole}
use Rattle.gomp_course.proofs.Courses.{other_call_made}
use Rattle.gomp_course.proofs.course.call_whole.Goals as goal

pub returns-in_default : goal.returns-in_default
returns-in_default g c =
    subst (λ call. CalledWhole g.T.Tool.on_gives call c.call.result c.args.member.now c.call.new.self) (other_call_made c.args.member.now.icv c.args.call c.in_default.not-LoopStart) c.call.ensures
