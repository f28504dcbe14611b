use Rattle.std.proofs.Common.{◌≡◌, ◌∙◌, Some, Ok, ap, sym, length, rules}
use Rattle.std.specs.Prelude.{option_copied}
use Rattle.gomp_script.proofs.TextLemmas.{left_less, lines_here}
use Rattle.gomp_script.proofs.parse.parse_team.Goals as goal

pub returns-in-Err : goal.returns-in-Err
returns-in-Err c =
    let here = lines_here c.in-Some.lines.now c.cut_at.result.0.now (option_copied c.loop-rest.rest) (option_copied c.cut_at.result.1) (ap option_copied c.in-Some.is) c.cut_at.ensures.parts in
    let fault = sym c.read_team.ensures ∙ c.in-Err.is in
    sym (rw (here, fault) at c.loop-rest.invariant)

pub loop-rest-smaller : goal.loop-rest-smaller
loop-rest-smaller c =
    let before : option_copied c.loop-rest.rest ≡ Some c.in-Some.lines.now = ap option_copied c.in-Some.is in
    rw before (left_less c.cut_at.result.1 (length c.in-Some.lines.now) c.cut_at.ensures.shorter)

pub loop-rest-preserved : goal.loop-rest-preserved
loop-rest-preserved c =
    let here = lines_here c.in-Some.lines.now c.cut_at.result.0.now (option_copied c.loop-rest.rest) (option_copied c.cut_at.result.1) (ap option_copied c.in-Some.is) c.cut_at.ensures.parts in
    let told = sym c.read_team.ensures ∙ c.in-Ok.is ∙ ap Ok c.in_default-team.is in
    rw c.saturating_add-number.ensures (rw (here, told) at c.loop-rest.invariant)

pub returns-in-Some-team : goal.returns-in-Some-team
returns-in-Some-team c =
    let here = lines_here c.in-Some.lines.now c.cut_at.result.0.now (option_copied c.loop-rest.rest) (option_copied c.cut_at.result.1) (ap option_copied c.in-Some.is) c.cut_at.ensures.parts in
    let told = sym c.read_team.ensures ∙ c.in-Ok.is ∙ ap Ok c.in-Some-team.is in
    rw c.saturating_add-number.ensures (sym (rw (here, told) at c.loop-rest.invariant))

pub loop-rest-init : goal.loop-rest-init
loop-rest-init c = search rules
