use Rattle.std.proofs.Common.{◌≡◌, ◌<◌, ◌∷◌, false, ap, ◌∙◌, sym, subst, arith}
use Rattle.std.specs.Prelude.{ℕ, Bool, reverse}
use Rattle.gomp_events.specs.declared.event.Event.TheVariants.{Pass}
use Rattle.gomp_events.specs.Goals.{may_pass}
use Rattle.gomp_barrier.specs.Calls.{turn_after}
use Rattle.gomp_scheduler.specs.Schedulers.{SchedulerView, Stands as SchedulerStands, scheduler_members}
use Rattle.gomp_board.specs.Boards.{BoardView, Stands, IsBoard, members_of}
use Rattle.gomp_board.specs.contracts.board.Board.{the_view}
use Rattle.gomp_board.proofs.BoardEvents.{stands_too}
use Rattle.gomp_board.proofs.Joined.{barrier_number_is, passed_stands_next, passed_board, pass_fits}
use Rattle.gomp_board.proofs.Passing.{passing_member_waits}
use Rattle.gomp_board.proofs.Waiting.{runs_unmet}
use Rattle.gomp_board.proofs.board.Board.await_pass.Goals as goal

pub push-requires-clause-space : goal.push-requires-clause-space
push-requires-clause-space c =
    let own = reverse c.self.inside.history.events in
    let member = subst (λ (b : BoardView). c.args.member < members_of b) (sym c.self.view_is) c.requires.member in
    let there = passing_member_waits _ c.args.member own c.self.invariant member c.self.invariant.stands (sym (c.pass.ensures.answer own c.self.invariant.stands.scheduler) ∙ c.if-not-pass.false) in
    pass_fits _ c.args.member 0 _ c.self.invariant member there

pub invariant_of-self : goal.invariant_of-self
invariant_of-self c =
    let same = c.pass.ensures.kept c.if-not-pass.true in
    subst (λ (x : SchedulerView). IsBoard c.self.inside.history.capacity (record (the_view c.self.inside) { scheduler = x })) (sym same) c.self.invariant

pub invariant_of-self-2 : goal.invariant_of-self-2
invariant_of-self-2 c =
    let own = reverse c.self.inside.history.events in
    let member = subst (λ (b : BoardView). c.args.member < members_of b) (sym c.self.view_is) c.requires.member in
    let there = passing_member_waits _ c.args.member own c.self.invariant member c.self.invariant.stands (sym (c.pass.ensures.answer own c.self.invariant.stands.scheduler) ∙ c.if-not-pass.false) in
    let number = barrier_number_is _ c.args.member _ _ own c.self.invariant (omega arith) c.barrier_number-barrier.ensures.value c.self.invariant.stands in
    let passed = subst (λ (b : Bool). SchedulerStands c.pass.new.self (turn_after b c.args.member own)) c.if-not-pass.false (c.pass.ensures.stands _ c.self.invariant.stands.scheduler) in
    let next = subst (λ (g : ℕ). SchedulerStands c.pass.new.self (Pass g c.args.member ∷ own)) (sym number) passed in
    passed_board _ _ c.args.member c.barrier_number-barrier.result _ _ _ c.self.invariant member there c.push.ensures.events c.pass.ensures.members next c.push.ensures.capacity

pub returns-then-not-pass-clause-known : goal.returns-then-not-pass-clause-known
returns-then-not-pass-clause-known c = subst (λ (b : BoardView). Stands b (reverse b.history)) c.self.view_is c.self.invariant.stands

pub returns-clause-known : goal.returns-clause-known
returns-clause-known c = subst (λ (b : BoardView). Stands b (reverse b.history)) c.self.view_is c.self.invariant.stands

pub returns-then-not-pass-clause-answer : goal.returns-then-not-pass-clause-answer
returns-then-not-pass-clause-answer c = λ h st0.
    let st = stands_too _ _ h c.self.view_is st0 in
    let same = c.pass.ensures.kept c.if-not-pass.true in
    let mid = subst (λ (x : SchedulerView). Stands (record (the_view c.self.inside) { scheduler = x }) h) (sym same) st in
    let size : scheduler_members c.self.inside.scheduler ≡ members_of c.args.self.now = c.self.invariant.members.tasks ∙ ap (λ (b : BoardView). members_of b) c.self.view_is in
    let unmet : may_pass (members_of c.args.self.now) c.args.member h ≡ false = rw (← size) (sym (c.pass.ensures.answer h st.scheduler) ∙ c.if-not-pass.true) in
    runs_unmet c.args.member _ h _ unmet (c.run_or_wait.ensures.answer h mid)

pub returns-clause-stands : goal.returns-clause-stands
returns-clause-stands c = λ h st0.
    let st = stands_too _ _ h c.self.view_is st0 in
    let number = barrier_number_is _ c.args.member _ _ h c.self.invariant (omega arith) c.barrier_number-barrier.ensures.value st in
    let passed = subst (λ (b : Bool). SchedulerStands c.pass.new.self (turn_after b c.args.member h)) c.if-not-pass.false (c.pass.ensures.stands _ st.scheduler) in
    passed_stands_next _ _ _ c.args.member c.barrier_number-barrier.result h number c.push.ensures.events passed st

pub returns-clause-answer : goal.returns-clause-answer
returns-clause-answer c = λ h st0.
    let st = stands_too _ _ h c.self.view_is st0 in
    let size : scheduler_members c.self.inside.scheduler ≡ members_of c.args.self.now = c.self.invariant.members.tasks ∙ ap (λ (b : BoardView). members_of b) c.self.view_is in
    rw (← size) (sym (c.pass.ensures.answer h st.scheduler) ∙ c.if-not-pass.false)

pub returns-then-not-pass-clause-waits : goal.returns-then-not-pass-clause-waits
returns-then-not-pass-clause-waits c = λ wait.
    c.run_or_wait.ensures.waits wait ∙ ap (λ (x : SchedulerView). record (the_view c.self.inside) { scheduler = x }) (c.pass.ensures.kept c.if-not-pass.true) ∙ c.self.view_is
