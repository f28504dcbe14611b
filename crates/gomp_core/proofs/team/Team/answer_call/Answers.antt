use Rattle.std.proofs.Common.{◌≡◌, ◌∙◌, ◌<◌, Some, None, length, slice_get, refl, ap, sym, subst, arith}
use Rattle.std.proofs.lemmas.Option.{slice_get_read}
use Rattle.gomp_types.specs.declared.call.Step.{Step}
use Rattle.gomp_types.specs.Resumes.{call_meant}
use Rattle.gomp_model.specs.Team.{Record, row_at, refusal_of, MayAnswer}
use Rattle.gomp_dispatch.specs.Answers.{StartsShare}
use Rattle.gomp_dispatch.specs.Leaves.{leaving_after}
use Rattle.gomp_core.specs.Stands.{TeamView, Stands, EndsDrained, Keeps, past}
use Rattle.gomp_core.proofs.Stepping.{same_stands, other_stands, unrefused_here, member_free, board_size}
use Rattle.gomp_core.proofs.Answered.{team_after, AnswersStep, team_admits, answered_cause, answered_room, stands_answered, answer_keeps, waiting_known, call_kept}
use Rattle.gomp_core.proofs.team.Team.answer_call.Given.{Over}
use Rattle.gomp_core.proofs.team.Team.answer_call.Goals as goal

-- The call and its member

pub index-requires : goal.index-requires
index-requires g c =
    let team : TeamView g.row.S.Denot = record { icv = c.self.inside.icv; board = c.self.inside.board; waits = c.self.inside.waits.items; leaving = c.self.inside.leaving.items; book = c.self.inside.book; shares = c.self.inside.shares } in
    let step : Step = record { member = c.args.member; call = c.args.call } in
    let (before, st) = c.self.invariant in
    let none = unrefused_here g.S.Shares.stands g.S.Shares.members team c.args.self.now before step c.self.view_is st c.requires.admitted in
    let lt : c.args.member < length c.self.inside.waits.items = member_free team before step none in
    let ok = c.self.inside.waits.ok in omega arith

pub index-leaving-requires : goal.index-leaving-requires
index-leaving-requires g c =
    let team : TeamView g.row.S.Denot = record { icv = c.self.inside.icv; board = c.self.inside.board; waits = c.self.inside.waits.items; leaving = c.self.inside.leaving.items; book = c.self.inside.book; shares = c.self.inside.shares } in
    let step : Step = record { member = c.args.member; call = c.args.call } in
    let (before, st) = c.self.invariant in
    let none = unrefused_here g.S.Shares.stands g.S.Shares.members team c.args.self.now before step c.self.view_is st c.requires.admitted in
    let lt : c.args.member < length c.self.inside.leaving.items = rw st.leaving_size (member_free team before step none) in
    let ok = c.self.inside.leaving.ok in omega arith

pub team_reply-reply-requires-clause-member : goal.team_reply-reply-requires-clause-member
team_reply-reply-requires-clause-member g c =
    let team : TeamView g.row.S.Denot = record { icv = c.self.inside.icv; board = c.self.inside.board; waits = c.self.inside.waits.items; leaving = c.self.inside.leaving.items; book = c.self.inside.book; shares = c.self.inside.shares } in
    let step : Step = record { member = c.args.member; call = c.args.call } in
    let (before, st) = c.self.invariant in
    let none = unrefused_here g.S.Shares.stands g.S.Shares.members team c.args.self.now before step c.self.view_is st c.requires.admitted in
    let lt : c.args.member < length c.self.inside.waits.items = member_free team before step none in
    rw st.shares_size lt

pub team_reply-reply-requires-clause-starts : goal.team_reply-reply-requires-clause-starts
team_reply-reply-requires-clause-starts g c =
    let team : TeamView g.row.S.Denot = record { icv = c.self.inside.icv; board = c.self.inside.board; waits = c.self.inside.waits.items; leaving = c.self.inside.leaving.items; book = c.self.inside.book; shares = c.self.inside.shares } in
    let step : Step = record { member = c.args.member; call = c.args.call } in
    let (before, st) = c.self.invariant in
    let none = unrefused_here g.S.Shares.stands g.S.Shares.members team c.args.self.now before step c.self.view_is st c.requires.admitted in
    let lt : c.args.member < length c.self.inside.waits.items = member_free team before step none in
    let at = slice_get_read c.self.inside.waits.items _ c.args.member _ refl lt c.index.ensures in
    let is = c.call_meant-meant.ensures ∙ ap (call_meant c.args.call) c.open_call.ensures ∙ call_kept g.S.Shares.stands g.S.Shares.members team before step _ st at in
    let starts = c.requires.starts before (other_stands g.S.Shares.stands g.S.Shares.members team c.args.self.now before c.self.view_is st) in
    rw is (subst (λ (t : TeamView g.row.S.Denot). StartsShare (row_at (past t before) step) (g.S.Shares.seen t.shares c.args.member) c.args.starts.now) (sym c.self.view_is) starts)

pub team_reply-reply-requires-clause-drained : goal.team_reply-reply-requires-clause-drained
team_reply-reply-requires-clause-drained g c =
    let team : TeamView g.row.S.Denot = record { icv = c.self.inside.icv; board = c.self.inside.board; waits = c.self.inside.waits.items; leaving = c.self.inside.leaving.items; book = c.self.inside.book; shares = c.self.inside.shares } in
    let step : Step = record { member = c.args.member; call = c.args.call } in
    let (before, st) = c.self.invariant in
    let none = unrefused_here g.S.Shares.stands g.S.Shares.members team c.args.self.now before step c.self.view_is st c.requires.admitted in
    let lt : c.args.member < length c.self.inside.waits.items = member_free team before step none in
    let at = slice_get_read c.self.inside.waits.items _ c.args.member _ refl lt c.index.ensures in
    let is = c.call_meant-meant.ensures ∙ ap (call_meant c.args.call) c.open_call.ensures ∙ call_kept g.S.Shares.stands g.S.Shares.members team before step _ st at in
    let drained = c.requires.drained before (other_stands g.S.Shares.stands g.S.Shares.members team c.args.self.now before c.self.view_is st) in
    rw (is, c.is_resume.ensures) (subst (λ (t : TeamView g.row.S.Denot). EndsDrained g.S.Shares.stands t before step) (sym c.self.view_is) drained)

pub team_reply-reply-requires-clause-team : goal.team_reply-reply-requires-clause-team
team_reply-reply-requires-clause-team g c =
    let (before, st) = c.self.invariant in
    board_size st ∙ sym st.shares_size

pub team_reply-reply-requires-clause-admitted : goal.team_reply-reply-requires-clause-admitted
team_reply-reply-requires-clause-admitted g c =
    let team : TeamView g.row.S.Denot = record { icv = c.self.inside.icv; board = c.self.inside.board; waits = c.self.inside.waits.items; leaving = c.self.inside.leaving.items; book = c.self.inside.book; shares = c.self.inside.shares } in
    let step : Step = record { member = c.args.member; call = c.args.call } in
    let (before, st) = c.self.invariant in
    let none = unrefused_here g.S.Shares.stands g.S.Shares.members team c.args.self.now before step c.self.view_is st c.requires.admitted in
    let lt : c.args.member < length c.self.inside.waits.items = member_free team before step none in
    let at = slice_get_read c.self.inside.waits.items _ c.args.member _ refl lt c.index.ensures in
    let is = c.call_meant-meant.ensures ∙ ap (call_meant c.args.call) c.open_call.ensures ∙ call_kept g.S.Shares.stands g.S.Shares.members team before step _ st at in
    let there = slice_get_read c.self.inside.leaving.items _ c.args.member _ refl (rw st.leaving_size lt) c.index-leaving.ensures in
    (past team before, (st.parts_are, st.book_are), rw (is, c.is_resume.ensures, c.cancellation.ensures) (team_admits g.S.Shares.stands g.S.Shares.members team before step _ st there none))

pub team_reply-reply-requires-clause-known : goal.team_reply-reply-requires-clause-known
team_reply-reply-requires-clause-known g c = λ repeated.
    let team : TeamView g.row.S.Denot = record { icv = c.self.inside.icv; board = c.self.inside.board; waits = c.self.inside.waits.items; leaving = c.self.inside.leaving.items; book = c.self.inside.book; shares = c.self.inside.shares } in
    let step : Step = record { member = c.args.member; call = c.args.call } in
    let (before, st) = c.self.invariant in
    let none = unrefused_here g.S.Shares.stands g.S.Shares.members team c.args.self.now before step c.self.view_is st c.requires.admitted in
    let lt : c.args.member < length c.self.inside.waits.items = member_free team before step none in
    let at = slice_get_read c.self.inside.waits.items _ c.args.member _ refl lt c.index.ensures in
    let is = c.call_meant-meant.ensures ∙ ap (call_meant c.args.call) c.open_call.ensures ∙ call_kept g.S.Shares.stands g.S.Shares.members team before step _ st at in
    rw is (waiting_known g.S.Shares.stands g.S.Shares.members team before step st none (sym c.is_resume.ensures ∙ repeated))

pub index_mut-requires : goal.index_mut-requires
index_mut-requires g c =
    let team : TeamView g.row.S.Denot = record { icv = c.self.inside.icv; board = c.self.inside.board; waits = c.self.inside.waits.items; leaving = c.self.inside.leaving.items; book = c.self.inside.book; shares = c.self.inside.shares } in
    let step : Step = record { member = c.args.member; call = c.args.call } in
    let (before, st) = c.self.invariant in
    let none = unrefused_here g.S.Shares.stands g.S.Shares.members team c.args.self.now before step c.self.view_is st c.requires.admitted in
    let lt : c.args.member < length c.self.inside.leaving.items = rw st.leaving_size (member_free team before step none) in
    let ok = c.self.inside.leaving.ok in omega arith

pub index_mut-requires-2 : goal.index_mut-requires-2
index_mut-requires-2 g c =
    let team : TeamView g.row.S.Denot = record { icv = c.self.inside.icv; board = c.self.inside.board; waits = c.self.inside.waits.items; leaving = c.self.inside.leaving.items; book = c.self.inside.book; shares = c.self.inside.shares } in
    let step : Step = record { member = c.args.member; call = c.args.call } in
    let (before, st) = c.self.invariant in
    let none = unrefused_here g.S.Shares.stands g.S.Shares.members team c.args.self.now before step c.self.view_is st c.requires.admitted in
    let lt : c.args.member < length c.self.inside.waits.items = member_free team before step none in
    let ok = c.self.inside.waits.ok in omega arith

-- The reply

abbrev team_of : (g : Over) (c : goal.After-self-2-1 g) → TeamView g.row.S.Denot
team_of g c = record { icv = c.self.inside.icv; board = c.self.inside.board; waits = c.self.inside.waits.items; leaving = c.self.inside.leaving.items; book = c.self.inside.book; shares = c.self.inside.shares }

abbrev step_of : (g : Over) (c : goal.After-self-2-1 g) → Step
step_of g c = record { member = c.args.member; call = c.args.call }

pub note-requires : goal.note-requires
note-requires g c =
    let team : TeamView g.row.S.Denot = record { icv = c.self.inside.icv; board = c.self.inside.board; waits = c.self.inside.waits.items; leaving = c.self.inside.leaving.items; book = c.self.inside.book; shares = c.self.inside.shares } in
    let step : Step = record { member = c.args.member; call = c.args.call } in
    let (before, st) = c.self.invariant in
    let none = unrefused_here g.S.Shares.stands g.S.Shares.members team c.args.self.now before step c.self.view_is st c.requires.admitted in
    let lt : c.args.member < length c.self.inside.waits.items = member_free team before step none in
    let at = slice_get_read c.self.inside.waits.items _ c.args.member _ refl lt c.index.ensures in
    let there = slice_get_read c.self.inside.leaving.items _ c.args.member _ refl (rw st.leaving_size lt) c.index-leaving.ensures in
    let at_mut = slice_get_read c.self.inside.waits.items _ c.args.member _ refl lt c.index_mut-2.ensures.value in
    let is = c.call_meant-meant.ensures ∙ ap (call_meant c.args.call) c.open_call.ensures ∙ call_kept g.S.Shares.stands g.S.Shares.members team before step _ st at in
    let answers : AnswersStep g.S.Shares.stands team c.team_reply-reply.new.shares c.team_reply-reply.new.board c.team_reply-reply.new.book before step c.index-leaving.result.now c.team_reply-reply.result = rw (is, c.is_resume.ensures, c.cancellation.ensures) at c.team_reply-reply.ensures.answers in
    let cause = answered_cause g.S.Shares.stands g.S.Shares.members team c.team_reply-reply.new.shares c.team_reply-reply.new.board c.team_reply-reply.new.book before step _ c.team_reply-reply.result st there none answers in
    record { room = answered_room g.S.Shares.stands g.S.Shares.members team before step _ c.team_reply-reply.result st at_mut cause }

-- what is known of it after a record
record Replied (g : Over) (c : goal.After-self-2-1 g) (before : Record) : Type 0 where
  st : Stands g.S.Shares.stands g.S.Shares.members (team_of g c) before
  none : refusal_of (past (team_of g c) before) (step_of g c) ≡ None
  at : slice_get c.self.inside.waits.items c.args.member ≡ Some c.index_mut-2.result.now
  -- it is read twice
  same : c.index.result.now ≡ c.index_mut-2.result.now
  there : slice_get c.self.inside.leaving.items c.args.member ≡ Some c.index-leaving.result.now
  answers : AnswersStep g.S.Shares.stands (team_of g c) c.team_reply-reply.new.shares c.team_reply-reply.new.board c.team_reply-reply.new.book before (step_of g c) c.index-leaving.result.now c.team_reply-reply.result

replied_so : (g : Over) (c : goal.After-self-2-1 g) (before : Record) → Stands g.S.Shares.stands g.S.Shares.members (team_of g c) before → Replied g c before
replied_so g c before st =
    let team = team_of g c in
    let step = step_of g c in
    let none = unrefused_here g.S.Shares.stands g.S.Shares.members team c.args.self.now before step c.self.view_is st c.requires.admitted in
    let lt : c.args.member < length c.self.inside.waits.items = member_free team before step none in
    let at = slice_get_read c.self.inside.waits.items _ c.args.member _ refl lt c.index.ensures in
    let there = slice_get_read c.self.inside.leaving.items _ c.args.member _ refl (rw st.leaving_size lt) c.index-leaving.ensures in
    let at_mut = slice_get_read c.self.inside.waits.items _ c.args.member _ refl lt c.index_mut-2.ensures.value in
    let is = c.call_meant-meant.ensures ∙ ap (call_meant c.args.call) c.open_call.ensures ∙ call_kept g.S.Shares.stands g.S.Shares.members team before step _ st at in
    record { st = st; none = none; at = at_mut; same = (let both = sym at ∙ at_mut in cc); there = there; answers = rw (is, c.is_resume.ensures, c.cancellation.ensures) at c.team_reply-reply.ensures.answers }

replied_of : (g : Over) (c : goal.After-self-2-1 g) (before : Record) → Stands g.S.Shares.stands g.S.Shares.members c.args.self.now before → Replied g c before
replied_of g c before st0 = replied_so g c before (same_stands g.S.Shares.stands g.S.Shares.members (team_of g c) c.args.self.now before c.self.view_is st0)

-- what is kept of what it leaves
left_so : (g : Over) (c : goal.After-self-2-1 g) (before : Record) → Replied g c before → c.after.result ≡ leaving_after c.team_reply-reply.result (call_meant c.args.call c.index_mut-2.result.now.open_call) c.index-leaving.result.now
left_so g c before k = c.after.ensures ∙ rw (c.call_meant-meant.ensures, c.open_call.ensures, k.same) refl

pub returns-clause-stands : goal.returns-clause-stands
returns-clause-stands g c = λ before st0.
    let k = replied_of g c before st0 in
    rw (c.note.ensures, left_so g c before k) (stands_answered g.S.Shares.stands g.S.Shares.members (team_of g c) c.team_reply-reply.new.shares c.team_reply-reply.new.board c.team_reply-reply.new.book before (step_of g c) c.index_mut-2.result.now c.index-leaving.result.now c.team_reply-reply.result k.st k.at k.there k.none k.answers c.team_reply-reply.ensures.members)

pub invariant_of-self : goal.invariant_of-self
invariant_of-self g c =
    let (before, st) = c.self.invariant in
    (_, returns-clause-stands g c before (other_stands g.S.Shares.stands g.S.Shares.members (team_of g c) c.args.self.now before c.self.view_is st))

pub returns-clause-answer : goal.returns-clause-answer
returns-clause-answer g c = λ before st0.
    let k = replied_of g c before st0 in
    subst (λ (t : TeamView g.row.S.Denot). MayAnswer (past t before) (step_of g c) c.team_reply-reply.result) c.self.view_is
    (answered_cause g.S.Shares.stands g.S.Shares.members (team_of g c) c.team_reply-reply.new.shares c.team_reply-reply.new.board c.team_reply-reply.new.book before (step_of g c) c.index-leaving.result.now c.team_reply-reply.result k.st k.there k.none k.answers)

pub returns-clause-keeps : goal.returns-clause-keeps
returns-clause-keeps g c =
    let (before, st) = c.self.invariant in
    let k = replied_so g c before st in
    let keeps = answer_keeps g.S.Shares.stands g.S.Shares.members (team_of g c) c.team_reply-reply.new.shares c.team_reply-reply.new.board c.team_reply-reply.new.book before (step_of g c) c.index_mut-2.result.now c.index-leaving.result.now c.team_reply-reply.result k.st k.at k.there k.none k.answers in
    rw (c.note.ensures, left_so g c before k) (subst (λ (t : TeamView g.row.S.Denot). Keeps t (team_after (team_of g c) c.team_reply-reply.new.shares c.team_reply-reply.new.board c.team_reply-reply.new.book (step_of g c) c.index_mut-2.result.now c.index-leaving.result.now c.team_reply-reply.result) c.args.call c.team_reply-reply.result) c.self.view_is keeps)
