use Rattle.std.proofs.Common.{◌∙◌, subst}
use Rattle.std.specs.Prelude.{IfOk, option_copied, string_bytes}
use Rattle.gomp_icv.specs.Variables.{Variables}
use Rattle.gomp_core.specs.Stands.{members_of}
use Rattle.gomp_script.specs.StepText.{steps_left}
use Rattle.gomp_steps.specs.Output.{AnswerToSteps}
use Rattle.gomp_steps.proofs.AnsweredLines.{team_answers}
use Rattle.gomp_steps.proofs.answer.answer_team.Goals as goal

pub returns-in-Ok : goal.returns-in-Ok
returns-in-Ok g c =
    let line = c.args.line in
    let team = c.in-Ok.team in
    let read = steps_left line.first (option_copied line.lines) in
    let told = subst (λ (icv : Variables). IfOk c.answer_lines.result (λ answer. AnswerToSteps icv (members_of team) read (string_bytes answer.text) answer.code)) c.in-Ok.ensures.icv c.answer_lines.ensures in
    team_answers c.args.icv line.count (members_of team) read c.answer_lines.result (c.in-Ok.ensures.members ∙ c.team_size.ensures) c.in-Ok.ensures.stands.size told
