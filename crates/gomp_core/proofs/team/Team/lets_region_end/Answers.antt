use Rattle.std.proofs.Common.{◌∙◌, ◌<◌, length, refl, sym, subst}
use Rattle.std.proofs.lemmas.Option.{slice_get_read}
use Rattle.gomp_model.specs.Arrivals.{region_end_row}
use Rattle.gomp_dispatch.specs.Admission.{PartsLet}
use Rattle.gomp_core.specs.Stands.{TeamView, past, members_of}
use Rattle.gomp_core.proofs.Stepping.{same_stands, board_size}
use Rattle.gomp_core.proofs.Unrefused.{region_end_unrefused}
use Rattle.gomp_core.proofs.team.Team.lets_region_end.Goals as goal

pub lets_region_end-requires-clause-team : goal.lets_region_end-requires-clause-team
lets_region_end-requires-clause-team g c = let (before, st) = c.self.invariant in board_size st ∙ sym st.shares_size

pub returns : goal.returns
returns g c = λ e before st0.
    let team : TeamView g.row.S.Denot = record { icv = c.self.inside.icv; board = c.self.inside.board; waits = c.self.inside.waits.items; leaving = c.self.inside.leaving.items; book = c.self.inside.book; shares = c.self.inside.shares } in
    let st = same_stands g.S.Shares.stands g.S.Shares.members team c.args.self.now before c.self.view_is st0 in
    let m = c.args.member in
    let lt : m < length c.self.inside.waits.items = subst (λ (t : TeamView g.row.S.Denot). m < members_of t) (sym c.self.view_is) (c.is_free.ensures.member c.if-not-is_free.false) in
    let there = slice_get_read c.self.inside.leaving.items _ m _ refl (rw st.leaving_size lt) c.index-leaving.ensures in
    let parts : PartsLet region_end_row m (past team before) = ((c.lets_region_end.ensures (past team before) st.parts_are (st.leave m _ there)).0 e).1 in
    region_end_unrefused m (past c.args.self.now before) (c.is_free.ensures.free c.if-not-is_free.false before st0) (subst (λ (t : TeamView g.row.S.Denot). PartsLet region_end_row m (past t before)) c.self.view_is parts)
