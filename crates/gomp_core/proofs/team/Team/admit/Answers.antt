use Rattle.std.proofs.Common.{◌≡◌, ◌∙◌, ℕ, ◌<◌, ◌≤◌, Option, length, refl, ap, sym, subst, arith}
use Rattle.std.specs.Prelude.{IfOk}
use Rattle.std.specs.Result.{result_err}
use Rattle.std.proofs.lemmas.Option.{slice_get_read}
use Rattle.gomp_types.specs.declared.call.Call.{Call}
use Rattle.gomp_types.specs.declared.call.Step.{Step}
use Rattle.gomp_types.specs.Least.{lesser, least}
use Rattle.gomp_model.specs.Past.{Waits}
use Rattle.gomp_types.specs.Resumes.{call_meant}
use Rattle.gomp_model.specs.Team.{member_tests, wait_tests, refusal_of, row_at}
use Rattle.gomp_board.specs.Boards.{members_of as board_members}
use Rattle.gomp_core.specs.Stands.{TeamView, EndsDrained, past, terms_of, members_of}
use Rattle.gomp_dispatch.specs.Answers.{StartsShare}
use Rattle.gomp_core.proofs.Refused.{bad_member, step_refused, still_admitted}
use Rattle.gomp_core.proofs.Admitted.{same_members, rule_of_holds, step_place}
use Rattle.gomp_core.proofs.Answered.{call_kept}
use Rattle.gomp_core.proofs.Stepping.{same_stands, board_size}
use Rattle.gomp_core.proofs.team.Team.admit.Goals as goal

pub returns-then-member-len-clause-least : goal.returns-then-member-len-clause-least
returns-then-member-len-clause-least g c = λ before st0.
    let size = same_members (terms_of c.args.self.now) before ∙ ap (λ (t : TeamView g.row.S.Denot). members_of t) (sym c.self.view_is) in
    let le : (past c.args.self.now before).terms.members ≤ c.args.member = let over = c.if-member-len.true in let len = c.len.ensures in omega arith in
    bad_member (past c.args.self.now before) (record { member = c.args.member; call = c.args.call.now }) le

-- the member is one of the board
pub team_refusal-by_member-requires : goal.team_refusal-by_member-requires
team_refusal-by_member-requires g c =
    let (before, st) = c.self.invariant in
    let lt : c.args.member < length c.self.inside.waits.items = let under = c.if-member-len.false in let len = c.len.ensures in omega arith in
    record { member = rw (board_size st) lt }

pub task_refusal-by_tasks-requires : goal.task_refusal-by_tasks-requires
task_refusal-by_tasks-requires g c =
    let (before, st) = c.self.invariant in
    let lt : c.args.member < length c.self.inside.waits.items = let under = c.if-member-len.false in let len = c.len.ensures in omega arith in
    record { member = rw (board_size st) lt }

pub current-task-requires : goal.current-task-requires
current-task-requires g c =
    let (before, st) = c.self.invariant in
    let lt : c.args.member < length c.self.inside.waits.items = let under = c.if-member-len.false in let len = c.len.ensures in omega arith in
    record { member = rw (board_size st) lt }

pub call_shape-by_place-requires-clause-team : goal.call_shape-by_place-requires-clause-team
call_shape-by_place-requires-clause-team g c =
    let (before, st) = c.self.invariant in
    c.barriers.ensures.members ∙ board_size st ∙ sym st.shares_size

pub call_shape-by_place-requires-clause-place : goal.call_shape-by_place-requires-clause-place
call_shape-by_place-requires-clause-place g c = λ repeated stays.
    let team : TeamView g.row.S.Denot = record { icv = c.self.inside.icv; board = c.self.inside.board; waits = c.self.inside.waits.items; leaving = c.self.inside.leaving.items; book = c.self.inside.book; shares = c.self.inside.shares } in
    let (before, st) = c.self.invariant in
    let step : Step = record { member = c.args.member; call = c.args.call.now } in
    let lt : c.args.member < length c.self.inside.waits.items = let under = c.if-member-len.false in let len = c.len.ensures in omega arith in
    let at = slice_get_read c.self.inside.waits.items _ c.args.member _ refl lt c.index.ensures in
    let is = c.call_meant-meant.ensures ∙ ap (call_meant c.args.call.now) c.open_call-waiting.ensures ∙ call_kept g.S.Shares.stands g.S.Shares.members team before step _ st at in
    let own : c.args.member < g.S.Shares.members c.self.inside.shares = rw st.shares_size lt in
    let seen = g.met.S.Shares.agrees c.self.inside.shares (past team before).events c.args.member st.parts_are.shares_are own in
    rw (is, seen) (step_place (terms_of team) before step c.limits-limits.result st.caused st.limits_are c.limits-limits.ensures.value (sym c.is_resume-repeated.ensures ∙ repeated) (rw is at stays))

pub returns-clause-least : goal.returns-clause-least
returns-clause-least g c = λ before st0.
    let team : TeamView g.row.S.Denot = record { icv = c.self.inside.icv; board = c.self.inside.board; waits = c.self.inside.waits.items; leaving = c.self.inside.leaving.items; book = c.self.inside.book; shares = c.self.inside.shares } in
    let st = same_stands g.S.Shares.stands g.S.Shares.members team c.args.self.now before c.self.view_is st0 in
    let p = past team before in
    let m = c.args.member in
    let parts = st.parts_are in
    let step : Step = record { member = c.args.member; call = c.args.call.now } in
    let lt : c.args.member < length c.self.inside.waits.items = let under = c.if-member-len.false in let len = c.len.ensures in omega arith in
    let at = slice_get_read c.self.inside.waits.items _ c.args.member _ refl lt c.index.ensures in
    let waiting = c.open_call-waiting.ensures ∙ ap (λ (w : Waits). w.open_call) (sym (st.wait c.args.member _ at)) in
    let is = c.call_meant-meant.ensures ∙ ap (call_meant c.args.call.now) waiting in
    let by_team = c.team_refusal-by_member.ensures p.events parts.board_is
    ∙ ap (λ (w : Option Call). lesser (least (member_tests (board_members team.board) m p.events)) (least (wait_tests c.args.call.now w))) waiting
    ∙ ap (λ (n : ℕ). lesser (least (member_tests n m p.events)) (least (wait_tests c.args.call.now (p.waits m).open_call))) (sym parts.members) in
    let there = slice_get_read c.self.inside.leaving.items _ m _ refl (rw st.leaving_size lt) c.index-leaving.ensures in
    let leaves = st.leave m _ there in
    let by_leaving = rw (is, c.is_resume-repeated.ensures) at (c.leaving_refusal-by_leaving.ensures.least p parts.shares_are leaves) in
    let by_book = rw (is, c.is_resume-repeated.ensures) at (c.book_refusal-by_book.ensures p st.book_are (sym (c.current-task.ensures.value p.events parts.board_is)) (rule_of_holds (terms_of team) before st.caused)) in
    let by_tasks = rw (is, c.is_resume-repeated.ensures) at (c.task_refusal-by_tasks.ensures.least p parts.board_is parts.limits parts.room leaves) in
    let by_place = rw (is, c.is_resume-repeated.ensures) at (c.call_shape-by_place.ensures.least p (parts.limits ∙ sym c.limits-limits.ensures.value) (parts.shares_are, rw c.barriers.ensures.value parts.board_is.scheduler.barriers) leaves) in
    subst (λ (t : TeamView g.row.S.Denot). result_err c.unless_any_refused.result ≡ refusal_of (past t before) step) c.self.view_is
    (c.unless_any_refused.ensures.least
    ∙ step_refused p step c.team_refusal-by_member.result c.leaving_refusal-by_leaving.result (result_err c.call_shape-by_place.result) c.task_refusal-by_tasks.result c.book_refusal-by_book.result by_team by_leaving by_place by_tasks by_book)

pub returns-clause-starts : goal.returns-clause-starts
returns-clause-starts g c = λ before st0.
    let team : TeamView g.row.S.Denot = record { icv = c.self.inside.icv; board = c.self.inside.board; waits = c.self.inside.waits.items; leaving = c.self.inside.leaving.items; book = c.self.inside.book; shares = c.self.inside.shares } in
    let st = same_stands g.S.Shares.stands g.S.Shares.members team c.args.self.now before c.self.view_is st0 in
    let step : Step = record { member = c.args.member; call = c.args.call.now } in
    let lt : c.args.member < length c.self.inside.waits.items = let under = c.if-member-len.false in let len = c.len.ensures in omega arith in
    let at = slice_get_read c.self.inside.waits.items _ c.args.member _ refl lt c.index.ensures in
    let is = c.call_meant-meant.ensures ∙ ap (call_meant c.args.call.now) c.open_call-waiting.ensures ∙ call_kept g.S.Shares.stands g.S.Shares.members team before step _ st at in
    let starts : IfOk c.call_shape-by_place.result (StartsShare (row_at (past team before) step) (g.S.Shares.seen team.shares c.args.member)) = rw is at c.call_shape-by_place.ensures.starts in
    subst (λ (t : TeamView g.row.S.Denot). IfOk c.unless_any_refused.result (StartsShare (row_at (past t before) step) (g.S.Shares.seen t.shares c.args.member))) c.self.view_is
    (still_admitted (StartsShare (row_at (past team before) step) (g.S.Shares.seen team.shares c.args.member)) c.call_shape-by_place.result c.unless_any_refused.result c.unless_any_refused.ensures.admitted starts)

pub returns-clause-drained : goal.returns-clause-drained
returns-clause-drained g c = λ before st0.
    let team : TeamView g.row.S.Denot = record { icv = c.self.inside.icv; board = c.self.inside.board; waits = c.self.inside.waits.items; leaving = c.self.inside.leaving.items; book = c.self.inside.book; shares = c.self.inside.shares } in
    let st = same_stands g.S.Shares.stands g.S.Shares.members team c.args.self.now before c.self.view_is st0 in
    let step : Step = record { member = c.args.member; call = c.args.call.now } in
    let lt : c.args.member < length c.self.inside.waits.items = let under = c.if-member-len.false in let len = c.len.ensures in omega arith in
    let at = slice_get_read c.self.inside.waits.items _ c.args.member _ refl lt c.index.ensures in
    let is = c.call_meant-meant.ensures ∙ ap (call_meant c.args.call.now) c.open_call-waiting.ensures ∙ call_kept g.S.Shares.stands g.S.Shares.members team before step _ st at in
    let drained : IfOk c.call_shape-by_place.result (λ starts. EndsDrained g.S.Shares.stands team before step) = rw (is, c.is_resume-repeated.ensures) at c.call_shape-by_place.ensures.drained in
    subst (λ (t : TeamView g.row.S.Denot). IfOk c.unless_any_refused.result (λ starts. EndsDrained g.S.Shares.stands t before step)) c.self.view_is
    (still_admitted (λ starts. EndsDrained g.S.Shares.stands team before step) c.call_shape-by_place.result c.unless_any_refused.result c.unless_any_refused.ensures.admitted drained)
