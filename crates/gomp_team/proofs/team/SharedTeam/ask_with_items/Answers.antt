use Rattle.std.proofs.Common.{false, refl, subst}
use Rattle.gomp_types.specs.declared.call.Call.{Call}
use Rattle.gomp_types.specs.declared.call.Call.TheVariants as calls
use Rattle.gomp_board.specs.declared.op.Op.TheVariants.{Taskwait}
use Rattle.gomp_team.specs.Answers.{FindsItself}
use Rattle.gomp_team.proofs.AnswerLaws.{board_call_answered}
use Rattle.gomp_team.proofs.team.SharedTeam.ask_with_items.Goals as goal

pub returns-in-Taskwait-clause-answers : goal.returns-in-Taskwait-clause-answers
returns-in-Taskwait-clause-answers g c =
    rw c.in-Taskwait.is (board_call_answered c.args.self.now.team.icv.cancellation false c.args.state.now.own (calls.Taskwait c.in-Taskwait.items) (Taskwait c.in-Taskwait.items) c.args.found c.args.parts.now.seat c.ask-reply-in-Taskwait.result refl refl
    (subst (λ (call : Call). FindsItself false c.args.state.now.own call c.args.parts.now.seat c.args.found) c.in-Taskwait.is c.requires.finds) c.ask-reply-in-Taskwait.ensures.answer)
