use Rattle.std.proofs.Common.{◌≡◌, Some, Ok, Err, refl}
use Rattle.std.specs.Prelude.{string_bytes, is_some}
use Rattle.gomp_script.specs.declared.live.LiveLine.TheVariants.{NewTeam, NextStep}
use Rattle.gomp_script.specs.LiveText.{read_live_line}
use Rattle.gomp_live.proofs.TalkLemmas.{talk_goes_on, step_of_talk, line_asked, line_fault, if_ok_then}
use Rattle.gomp_live.proofs.talk.Talk.answer.Goals as goal

pub returns-in-Ok-Some-NewTeam-clause-answer : goal.returns-in-Ok-Some-NewTeam-clause-answer
returns-in-Ok-Some-NewTeam-clause-answer g c = λ lines said stood.
    let before = rw (← c.self.view_is) at stood in
    let read = line_asked c.parse_live_line.result (read_live_line c.is_some.result c.args.line.now) (Some (NewTeam c.in-Ok-Some-NewTeam.count)) c.parse_live_line.ensures.asked (let is = c.in-Ok-Some-NewTeam.is in let some = c.in-Ok-Some-NewTeam.field-0-is in let line = c.in-Ok-Some-NewTeam.field-0-0-is in cc) in
    let asked : Ok (Some (NewTeam c.in-Ok-Some-NewTeam.count)) ≡ read_live_line (is_some c.self.inside.team) c.args.line.now = let some = c.is_some.ensures in cc in
    let begins = rw c.copied.ensures at c.begin_team.ensures in
    if_ok_then c.begin_team.result
    (λ answer begun.
    let done = begun before.made before.team_is in
    talk_goes_on g.S.Shares.stands g.S.Shares.members _ lines said c.args.line.now (string_bytes answer) c.saturating_add-self-inside.result c.begin_team.new.team done.0
    (Ok (Some (NewTeam c.in-Ok-Some-NewTeam.count))) before asked c.saturating_add-self-inside.ensures done.1 done.2)
    begins

pub returns-in-Some-clause-answer : goal.returns-in-Some-clause-answer
returns-in-Some-clause-answer g c = λ lines said stood.
    let before = rw (← c.self.view_is) at stood in
    let read = line_asked c.parse_live_line.result (read_live_line c.is_some.result c.args.line.now) (Some (NextStep c.in-Ok-Some-NextStep.step)) c.parse_live_line.ensures.asked (let is = c.in-Ok-Some-NextStep.is in let some = c.in-Ok-Some-NextStep.field-0-is in let line = c.in-Ok-Some-NextStep.field-0-0-is in cc) in
    let asked : Ok (Some (NextStep c.in-Ok-Some-NextStep.step)) ≡ read_live_line (is_some c.self.inside.team) c.args.line.now = let some = c.is_some.ensures in cc in
    if_ok_then c.step_team.result
    (λ answer steps.
    let done = step_of_talk g.S.Shares.stands g.S.Shares.members c.self.inside.icv c.self.inside.number c.self.inside.team c.in-Some.team c.step_team.new.team before.made c.in-Ok-Some-NextStep.step (string_bytes answer) c.in-Some.is before.team_is steps in
    talk_goes_on g.S.Shares.stands g.S.Shares.members _ lines said c.args.line.now (string_bytes answer) c.saturating_add-self-inside.result (Some c.step_team.new.team) done.0
    (Ok (Some (NextStep c.in-Ok-Some-NextStep.step))) before asked c.saturating_add-self-inside.ensures done.1 done.2)
    c.step_team.ensures

pub returns-in-Err-Fault-clause-answer : goal.returns-in-Err-Fault-clause-answer
returns-in-Err-Fault-clause-answer g c = λ lines said stood.
    let before = rw (← c.self.view_is) at stood in
    let read = line_fault c.parse_live_line.result (read_live_line c.is_some.result c.args.line.now) c.in-Err-Fault.why c.parse_live_line.ensures.asked (let is = c.in-Err-Fault.is in let fault = c.in-Err-Fault.field-0-is in cc) in
    let asked : Err c.in-Err-Fault.why ≡ read_live_line (is_some c.self.inside.team) c.args.line.now = let some = c.is_some.ensures in cc in
    if_ok_then c.print_bad_line.result
    (λ answer text.
    talk_goes_on g.S.Shares.stands g.S.Shares.members _ lines said c.args.line.now (string_bytes answer) c.saturating_add-self-inside.result c.self.inside.team before.made
    (Err c.in-Err-Fault.why) before asked c.saturating_add-self-inside.ensures (text, refl) before.team_is)
    c.print_bad_line.ensures
