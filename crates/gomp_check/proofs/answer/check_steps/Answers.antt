use Rattle.std.proofs.Common.{◌≡◌, ◌∙◌, length, arith}
use Rattle.gomp_check.specs.Checked.{later_lines}
use Rattle.gomp_check.proofs.CountLaws.{steps_by_lines}
use Rattle.gomp_check.proofs.answer.check_steps.Goals as goal

pub returns-in-Ok : goal.returns-in-Ok
returns-in-Ok c =
    let size : c.len.result ≡ length c.in-Ok.steps.items = let len = c.len.ensures in let ok = c.in-Ok.steps.ok in omega arith in
    let lines : c.len.result ≡ later_lines c.args.text.now = size ∙ steps_by_lines c.args.text.now c.in-Ok.field-0-0 c.in-Ok.steps.items c.in-Ok.ensures.steps in
    rw c.in-Ok.ensures.steps (rw lines at c.counted.ensures)
