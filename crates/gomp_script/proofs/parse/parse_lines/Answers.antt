use Rattle.std.proofs.Common.{◌≡◌, ◌+◌, ◌∙◌, Some, Ok, Err, ap, sym, length, rules}
use Rattle.std.specs.Prelude.{IsSome, option_copied}
use Rattle.gomp_types.specs.Limits.{shown_number}
use Rattle.gomp_script.specs.StepText.{LineHasItems, read_line, step_of, steps_left, steps_kept}
use Rattle.gomp_script.proofs.TextLemmas.{left_less, lines_here, line_kept, fault_behind, fault_behind_line, has_refused_step, has_unread_step}
use Rattle.gomp_script.proofs.parse.parse_lines.Goals as goal

pub returns-in-Err-Fault-clause-steps : goal.returns-in-Err-Fault-clause-steps
returns-in-Err-Fault-clause-steps c =
    let here = lines_here c.in-Some.lines.now c.cut_at.result.0.now (option_copied c.loop-rest.rest) (option_copied c.cut_at.result.1) (ap option_copied c.in-Some.is) c.cut_at.ensures.parts in
    let fault : read_line step_of c.cut_at.result.0.now ≡ Err c.in-Err-Fault.why = search rules in
    sym (rw (here, fault) at c.loop-rest.invariant)

pub returns-in-Err-NoMemory-clause-steps : goal.returns-in-Err-NoMemory-clause-steps
returns-in-Err-NoMemory-clause-steps c =
    let number = c.loop-rest.number in
    let line = c.cut_at.result.0.now in
    let here = lines_here c.in-Some.lines.now line (option_copied c.loop-rest.rest) (option_copied c.cut_at.result.1) (ap option_copied c.in-Some.is) c.cut_at.ensures.parts in
    let all = rw here at c.loop-rest.invariant in
    let later = steps_left (shown_number (number + 1)) (option_copied c.cut_at.result.1) in
    let items : LineHasItems (read_line step_of line) = search rules in
    rw (c.first_fault.ensures, c.saturating_add.ensures, ← all) (fault_behind_line c.loop-rest.steps.items number (read_line step_of line) later items)

pub returns-in-Err-NoMemory-clause-memory : goal.returns-in-Err-NoMemory-clause-memory
returns-in-Err-NoMemory-clause-memory c =
    let number = c.loop-rest.number in
    let line = c.cut_at.result.0.now in
    let here = lines_here c.in-Some.lines.now line (option_copied c.loop-rest.rest) (option_copied c.cut_at.result.1) (ap option_copied c.in-Some.is) c.cut_at.ensures.parts in
    let all = rw here at c.loop-rest.invariant in
    let later = steps_left (shown_number (number + 1)) (option_copied c.cut_at.result.1) in
    let items : LineHasItems (read_line step_of line) = search rules in
    let fault = rw c.saturating_add.ensures at c.first_fault.ensures in
    λ refused. rw (← all) (has_unread_step c.loop-rest.steps.items number (read_line step_of line) later items (sym fault ∙ (cc)))

pub loop-rest-smaller : goal.loop-rest-smaller
loop-rest-smaller c =
    let before : option_copied c.loop-rest.rest ≡ Some c.in-Some.lines.now = ap option_copied c.in-Some.is in
    rw before (left_less c.cut_at.result.1 (length c.in-Some.lines.now) c.cut_at.ensures.shorter)

pub loop-rest-preserved : goal.loop-rest-preserved
loop-rest-preserved c =
    let number = c.loop-rest.number in
    let here = lines_here c.in-Some.lines.now c.cut_at.result.0.now (option_copied c.loop-rest.rest) (option_copied c.cut_at.result.1) (ap option_copied c.in-Some.is) c.cut_at.ensures.parts in
    let told : read_line step_of c.cut_at.result.0.now ≡ Ok c.in-Ok.step = search rules in
    let later = steps_left (shown_number (number + 1)) (option_copied c.cut_at.result.1) in
    let step_kept : c.keep.new.steps.items ≡ steps_kept c.loop-rest.steps.items c.in-Ok.step = search rules in
    rw (step_kept, c.saturating_add-number.ensures) (sym (line_kept c.loop-rest.steps.items number c.in-Ok.step later) ∙ rw (here, told) at c.loop-rest.invariant)

pub returns-then-is_err-clause-steps : goal.returns-then-is_err-clause-steps
returns-then-is_err-clause-steps c =
    let number = c.loop-rest.number in
    let here = lines_here c.in-Some.lines.now c.cut_at.result.0.now (option_copied c.loop-rest.rest) (option_copied c.cut_at.result.1) (ap option_copied c.in-Some.is) c.cut_at.ensures.parts in
    let told : read_line step_of c.cut_at.result.0.now ≡ Ok c.in-Ok.step = search rules in
    let all = rw (here, told) at c.loop-rest.invariant in
    let later = steps_left (shown_number (number + 1)) (option_copied c.cut_at.result.1) in
    let step : IsSome c.in-Ok.step = search rules in
    rw (c.first_fault-then-is_err.ensures, c.saturating_add-number.ensures, ← all) (fault_behind c.loop-rest.steps.items number c.in-Ok.step later step)

pub returns-then-is_err-clause-memory : goal.returns-then-is_err-clause-memory
returns-then-is_err-clause-memory c =
    let number = c.loop-rest.number in
    let here = lines_here c.in-Some.lines.now c.cut_at.result.0.now (option_copied c.loop-rest.rest) (option_copied c.cut_at.result.1) (ap option_copied c.in-Some.is) c.cut_at.ensures.parts in
    let told : read_line step_of c.cut_at.result.0.now ≡ Ok c.in-Ok.step = search rules in
    let all = rw (here, told) at c.loop-rest.invariant in
    let later = steps_left (shown_number (number + 1)) (option_copied c.cut_at.result.1) in
    let step : IsSome c.in-Ok.step = search rules in
    let fault = rw c.saturating_add-number.ensures at c.first_fault-then-is_err.ensures in
    λ refused. rw (← all) (has_refused_step c.loop-rest.steps.items number c.in-Ok.step later step (sym fault ∙ (cc)))

pub returns-clause-steps : goal.returns-clause-steps
returns-clause-steps c = search rules
