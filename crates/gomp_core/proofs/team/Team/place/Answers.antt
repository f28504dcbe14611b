use Rattle.std.proofs.Common.{◌∙◌, ◌<◌, length, refl, ap, sym}
use Rattle.std.proofs.lemmas.Option.{slice_get_read}
use Rattle.gomp_types.specs.declared.call.Call.{Call}
use Rattle.gomp_types.specs.declared.call.Step.{Step}
use Rattle.gomp_model.specs.Calls.{row_of}
use Rattle.gomp_types.specs.Resumes.{call_meant}
use Rattle.gomp_dispatch.specs.Answers.{BothStand}
use Rattle.gomp_core.specs.Stands.{TeamView, past}
use Rattle.gomp_core.proofs.Stepping.{same_stands, board_size}
use Rattle.gomp_core.proofs.Answered.{call_kept}
use Rattle.gomp_core.proofs.team.Team.place.Goals as goal

pub place_of-requires-clause-team : goal.place_of-requires-clause-team
place_of-requires-clause-team g c =
    let (before, st) = c.self.invariant in
    c.barriers.ensures.members ∙ board_size st ∙ sym st.shares_size

pub returns : goal.returns
returns g c = λ before st0.
    let team : TeamView g.row.S.Denot = record { icv = c.self.inside.icv; board = c.self.inside.board; waits = c.self.inside.waits.items; leaving = c.self.inside.leaving.items; book = c.self.inside.book; shares = c.self.inside.shares } in
    let step : Step = record { member = c.args.member; call = c.args.call.now } in
    let st = same_stands g.S.Shares.stands g.S.Shares.members team c.args.self.now before c.self.view_is st0 in
    let lt : c.args.member < length c.self.inside.waits.items = rw (← c.self.view_is) at c.requires.member in
    let at = slice_get_read c.self.inside.waits.items _ c.args.member _ refl lt c.index.ensures in
    let p = past team before in
    let is = c.call_meant.ensures ∙ ap (call_meant c.args.call.now) c.open_call-waiting.ensures ∙ call_kept g.S.Shares.stands g.S.Shares.members team before step _ st at in
    let stand : BothStand g.S.Shares.stands team.shares c.barriers.result.now p.events = (st.parts_are.shares_are, rw c.barriers.ensures.value st.parts_are.board_is.scheduler.barriers) in
    rw (← c.self.view_is) (c.place_of.ensures p stand ∙ ap (λ (call : Call). (row_of call).place c.args.member p.events) is)
