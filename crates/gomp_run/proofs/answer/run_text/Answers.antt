use Rattle.gomp_run.proofs.ReportLemmas.{answers_text}
use Rattle.gomp_run.proofs.answer.run_text.Goals as goal

pub returns-in-Ok : goal.returns-in-Ok
returns-in-Ok g c = answers_text c.run_script.result c.args.icv c.args.text.now c.in-Ok.script c.in-Ok.ensures.script c.run_script.ensures
