use Rattle.std.proofs.Common.{◌≡◌, ◌+◌, ◌∙◌, List, [], Ok, ap, sym, rules}
use Rattle.std.specs.Prelude.{option_copied}
use Rattle.gomp_types.specs.Limits.{shown_number}
use Rattle.gomp_script.specs.StepText.{lines_left, read_line}
use Rattle.gomp_script.proofs.TextLemmas.{lines_here}
use Rattle.gomp_region.specs.declared.nesting.OpenBlock.{OpenBlock}
use Rattle.gomp_region.specs.ScriptText.{IsRefused, line_nested, statement_of, statements_from, statements_left}
use Rattle.gomp_region.proofs.BlockLaws.{statements_nest}
use Rattle.gomp_region.proofs.TextLemmas.{has_refused_line, refused_inside}
use Rattle.gomp_region.proofs.parse.read_lines.Goals as goal

pub returns-in-Err-OutOfMemory-clause-memory : goal.returns-in-Err-OutOfMemory-clause-memory
returns-in-Err-OutOfMemory-clause-memory c =
    let number = c.loop-rest.number in
    let before = c.loop-rest.around in
    let behind = c.keep_line.new.around in
    let read = read_line statement_of c.cut_at.result.0.now in
    let here = lines_here c.in-Some.lines.now c.cut_at.result.0.now (option_copied c.loop-rest.rest) (option_copied c.cut_at.result.1) (ap option_copied c.in-Some.is) c.cut_at.ensures.parts in
    let later = λ (inside : List OpenBlock). statements_from (shown_number (number + 1)) inside (lines_left (option_copied c.cut_at.result.1)) in
    let refused : IsRefused read before behind = search rules in
    let fault = rw (refused_inside read before behind refused, here) at c.first_fault.ensures in
    let all = rw here at c.loop-rest.invariant in
    λ told. rw (← all) (has_refused_line c.loop-rest.kept.items number read before behind (line_nested number read before) later refused (sym fault ∙ (cc)))

pub returns-in-Ok-finish-clause-nest : goal.returns-in-Ok-finish-clause-nest
returns-in-Ok-finish-clause-nest c =
    let read : statements_left c.args.first [] (option_copied c.args.lines) ≡ Ok c.loop-rest.kept.items = search rules in
    statements_nest (lines_left (option_copied c.args.lines)) c.args.first c.loop-rest.kept.items read
