use Rattle.std.proofs.Common.{◌≡◌, ◌∙◌, length, arith}
use Rattle.gomp_check.specs.Checked.{later_lines}
use Rattle.gomp_check.proofs.CountLaws.{script_counted}
use Rattle.gomp_check.proofs.answer.check_script.Goals as goal

pub returns-in-Ok : goal.returns-in-Ok
returns-in-Ok c =
    let size : c.len.result ≡ length c.in-Ok.script.lines.items = let len = c.len.ensures in let ok = c.in-Ok.script.lines.ok in omega arith in
    let lines : c.len.result ≡ later_lines c.args.text.now = size ∙ script_counted c.args.text.now c.in-Ok.script.team c.in-Ok.script.lines.items c.in-Ok.script.ends.items c.in-Ok.ensures.script in
    rw c.in-Ok.ensures.script (rw lines at c.counted.ensures)
