use Rattle.std.proofs.Common.{subst}
use Rattle.gomp_types.specs.declared.call.Step.{Step}
use Rattle.gomp_events.specs.declared.event.Event.TheVariants.{Break as BreakEvent}
use Rattle.gomp_core.specs.Stands.{TeamView, Keeps}
use Rattle.gomp_core.proofs.Stepping.{same_stands, other_stands, differing_here, member_differs, board_size}
use Rattle.gomp_core.proofs.Breaks.{team_breaks}
use Rattle.gomp_core.proofs.team.Team.break_team.Goals as goal

-- The member

pub place-place-requires : goal.place-place-requires
place-place-requires g c =
    let team : TeamView g.row.S.Denot = record { icv = c.self.inside.icv; board = c.self.inside.board; waits = c.self.inside.waits.items; leaving = c.self.inside.leaving.items; book = c.self.inside.book; shares = c.self.inside.shares } in
    let step : Step = record { member = c.args.member; call = c.args.call.now } in
    let (before, st) = c.self.invariant in
    let is = differing_here g.S.Shares.stands g.S.Shares.members team c.args.self.now before step c.self.view_is st c.requires.differs in
    record { member = rw (← c.self.view_is) (member_differs team before step is) }

pub step-requires : goal.step-requires
step-requires g c =
    let team : TeamView g.row.S.Denot = record { icv = c.self.inside.icv; board = c.self.inside.board; waits = c.self.inside.waits.items; leaving = c.self.inside.leaving.items; book = c.self.inside.book; shares = c.self.inside.shares } in
    let step : Step = record { member = c.args.member; call = c.args.call.now } in
    let (before, st) = c.self.invariant in
    let is = differing_here g.S.Shares.stands g.S.Shares.members team c.args.self.now before step c.self.view_is st c.requires.differs in
    record { member = rw (board_size st) (member_differs team before step is) }

-- What it leaves

pub returns-clause-refused : goal.returns-clause-refused
returns-clause-refused g c =
    let (before, st) = c.self.invariant in
    let team : TeamView g.row.S.Denot = record { icv = c.self.inside.icv; board = c.self.inside.board; waits = c.self.inside.waits.items; leaving = c.self.inside.leaving.items; book = c.self.inside.book; shares = c.self.inside.shares } in
    let step : Step = record { member = c.args.member; call = c.args.call.now } in
    let is = differing_here g.S.Shares.stands g.S.Shares.members team c.args.self.now before step c.self.view_is st c.requires.differs in
    let at = rw (← c.self.view_is) at (c.place-place.ensures before (other_stands g.S.Shares.stands g.S.Shares.members team c.args.self.now before c.self.view_is st)) in
    let broken = team_breaks g.S.Shares.stands g.S.Shares.members team c.step.new.self before step c.place-place.result c.step.result st is at
    (λ h s. g.met.S.Shares.aside c.self.inside.shares h (BreakEvent c.args.member c.place-place.result) tt s) c.step.ensures.performs in
    broken.refused

pub returns-clause-keeps : goal.returns-clause-keeps
returns-clause-keeps g c =
    let (before, st) = c.self.invariant in
    let team : TeamView g.row.S.Denot = record { icv = c.self.inside.icv; board = c.self.inside.board; waits = c.self.inside.waits.items; leaving = c.self.inside.leaving.items; book = c.self.inside.book; shares = c.self.inside.shares } in
    let step : Step = record { member = c.args.member; call = c.args.call.now } in
    let is = differing_here g.S.Shares.stands g.S.Shares.members team c.args.self.now before step c.self.view_is st c.requires.differs in
    let at = rw (← c.self.view_is) at (c.place-place.ensures before (other_stands g.S.Shares.stands g.S.Shares.members team c.args.self.now before c.self.view_is st)) in
    let broken = team_breaks g.S.Shares.stands g.S.Shares.members team c.step.new.self before step c.place-place.result c.step.result st is at
    (λ h s. g.met.S.Shares.aside c.self.inside.shares h (BreakEvent c.args.member c.place-place.result) tt s) c.step.ensures.performs in
    subst (λ (t : TeamView g.row.S.Denot). Keeps t (record team { board = c.step.new.self }) c.args.call.now c.step.result) c.self.view_is broken.keeps

pub returns-clause-stands : goal.returns-clause-stands
returns-clause-stands g c = λ before st0.
    let team : TeamView g.row.S.Denot = record { icv = c.self.inside.icv; board = c.self.inside.board; waits = c.self.inside.waits.items; leaving = c.self.inside.leaving.items; book = c.self.inside.book; shares = c.self.inside.shares } in
    let step : Step = record { member = c.args.member; call = c.args.call.now } in
    let st = same_stands g.S.Shares.stands g.S.Shares.members team c.args.self.now before c.self.view_is st0 in
    let is = differing_here g.S.Shares.stands g.S.Shares.members team c.args.self.now before step c.self.view_is st c.requires.differs in
    let at = rw (← c.self.view_is) at (c.place-place.ensures before (other_stands g.S.Shares.stands g.S.Shares.members team c.args.self.now before c.self.view_is st)) in
    let broken = team_breaks g.S.Shares.stands g.S.Shares.members team c.step.new.self before step c.place-place.result c.step.result st is at
    (λ h s. g.met.S.Shares.aside c.self.inside.shares h (BreakEvent c.args.member c.place-place.result) tt s) c.step.ensures.performs in
    broken.stands_for

pub invariant_of-self : goal.invariant_of-self
invariant_of-self g c =
    let (before, st) = c.self.invariant in
    let team : TeamView g.row.S.Denot = record { icv = c.self.inside.icv; board = c.self.inside.board; waits = c.self.inside.waits.items; leaving = c.self.inside.leaving.items; book = c.self.inside.book; shares = c.self.inside.shares } in
    let step : Step = record { member = c.args.member; call = c.args.call.now } in
    let is = differing_here g.S.Shares.stands g.S.Shares.members team c.args.self.now before step c.self.view_is st c.requires.differs in
    let at = rw (← c.self.view_is) at (c.place-place.ensures before (other_stands g.S.Shares.stands g.S.Shares.members team c.args.self.now before c.self.view_is st)) in
    let broken = team_breaks g.S.Shares.stands g.S.Shares.members team c.step.new.self before step c.place-place.result c.step.result st is at
    (λ h s. g.met.S.Shares.aside c.self.inside.shares h (BreakEvent c.args.member c.place-place.result) tt s) c.step.ensures.performs in
    (_, broken.stands_for)
