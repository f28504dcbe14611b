use Rattle.std.proofs.Common.{◌≡◌, ◌∙◌, length, ap, refl, subst}
use Rattle.std.specs.Arc.{arc_value}
use Rattle.gomp_program.specs.Programs.{programs_from}
use Rattle.gomp_region.specs.declared.script.Script.{Script}
use Rattle.gomp_runtime.specs.Regions.{ForksRegion}
use Rattle.gomp_run.specs.Asks.{no_tool, script_program}
use Rattle.gomp_run.proofs.ProgramCounts.{programs_counted}
use Rattle.gomp_run.proofs.ReportLemmas.{answers_fault, answers_report, has_reported, lines_of_report}
use Rattle.gomp_run.proofs.answer.run_script.Goals as goal

pub returns-in-Ok : goal.returns-in-Ok
returns-in-Ok g c =
    let count = c.program_count-count.result in
    let shared : arc_value c.in_ok-new.field-0 ≡ c.args.script = c.in_ok-new.ensures.ok in
    let progs : c.in_ok-progs.progs.items ≡ programs_from c.args.script 0 0 count = c.in_ok-progs.ensures ∙ ap (λ (script : Script). programs_from script 0 0 count) shared in
    let many : length c.in_ok-progs.progs.items ≡ count = ap length progs ∙ programs_counted c.args.script 0 0 count in
    answers_report c.answer_of.result c.args.icv c.args.script (lines_of_report c.in-Ok.report) c.answer_of.ensures.text c.answer_of.ensures.code
    (λ text is. has_reported c.args.icv c.args.script count c.in_ok-progs.progs.items c.in_ok-tools.tools.items (record { icv = c.args.icv; regions = 0 }) c.in-Ok.report text
    c.program_count-count.ensures progs many refl refl
    (subst (ForksRegion script_program no_tool (record { icv = c.args.icv; regions = 0 }) c.in_ok-progs.progs.items c.in_ok-tools.tools.items) c.in-Ok.is c.in_ok-report.ensures.region) is)

pub returns-in-Err : goal.returns-in-Err
returns-in-Err g c =
    let count = c.program_count-count.result in
    let shared : arc_value c.in_ok-new.field-0 ≡ c.args.script = c.in_ok-new.ensures.ok in
    let progs : c.in_ok-progs.progs.items ≡ programs_from c.args.script 0 0 count = c.in_ok-progs.ensures ∙ ap (λ (script : Script). programs_from script 0 0 count) shared in
    answers_fault c.answer_refused.result c.args.icv c.args.script count c.in_ok-progs.progs.items c.in_ok-tools.tools.items c.in-Err.fault
    c.program_count-count.ensures progs
    (subst (ForksRegion script_program no_tool (record { icv = c.args.icv; regions = 0 }) c.in_ok-progs.progs.items c.in_ok-tools.tools.items) c.in-Err.is c.in_ok-report.ensures.region)
    c.answer_refused.ensures.text c.answer_refused.ensures.code
