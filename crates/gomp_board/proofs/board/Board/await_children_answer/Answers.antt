use Rattle.std.proofs.Common.{reverse, refl, sym, subst, ◌∙◌, arith}
use Rattle.gomp_types.specs.declared.reply.Reply.TheVariants.{Passed}
use Rattle.gomp_events.specs.Tasks.{executed_task}
use Rattle.gomp_events.specs.Goals.{taskwait_met}
use Rattle.gomp_board.specs.declared.op.Op.TheVariants.{Taskwait, AwaitChildren}
use Rattle.gomp_board.specs.Boards.{BoardView, HasMembers, Performs}
use Rattle.gomp_board.proofs.AdmittedOnce.{admitted_on_each}
use Rattle.gomp_board.proofs.Performed.{op_performed}
use Rattle.gomp_board.proofs.Taskwaits.{taskwait_performed}
use Rattle.gomp_board.specs.contracts.board.Board.{the_view}
use Rattle.gomp_board.proofs.BoardEvents.{member_too, own_history_stands, scheduler_too, set_same, stands_now, stands_too}
use Rattle.gomp_board.proofs.Laws.{waited_stands}
use Rattle.gomp_board.proofs.Waiting.{runs_is_reply, runs_unmet, waited_runs}
use Rattle.gomp_board.proofs.board.Board.await_children_answer.Goals as goal

pub returns-then-children_done : goal.returns-then-children_done
returns-then-children_done c =
    let now = c.args.self.now in let m = c.args.member in let items = c.args.items.now in
    let places = subst (λ (v : BoardView). HasMembers v) c.self.view_is c.self.invariant.members in let low = c.requires.member in
    let does : Performs (AwaitChildren items) m now now Passed =
    op_performed (AwaitChildren items) m now now Passed tt refl (admitted_on_each (AwaitChildren items) m now places low c.requires.admitted)
    (λ h st. sym (c.children_done.ensures.value h (scheduler_too _ _ h c.self.view_is st)) ∙ c.if-children_done.true)
    (λ h st. stands_now _ _ _ c.self.view_is (waited_stands (the_view c.self.inside) m items h c.self.invariant.members (member_too _ _ m c.self.view_is low) (sym (c.children_done.ensures.value h (scheduler_too _ _ h c.self.view_is st)) ∙ c.if-children_done.true) (stands_too _ _ h c.self.view_is st)))
    refl (omega arith) (sym (set_same now.kept m)) (λ wait goes. refl) in
    record { performs = does; taskwait = λ once. taskwait_performed items m now now Passed (admitted_on_each (Taskwait items) m now places low once) does }

pub returns-else-children_done : goal.returns-else-children_done
returns-else-children_done c =
    let now = c.args.self.now in let m = c.args.member in let items = c.args.items.now in let reply = c.run_or_wait.result in let after = c.run_or_wait.new.self in let room = c.run_or_wait.ensures.room in
    let places = subst (λ (v : BoardView). HasMembers v) c.self.view_is c.self.invariant.members in let low = c.requires.member in
    let own = c.run_or_wait.ensures.answer (reverse now.history) (own_history_stands _ _ c.self.view_is c.self.invariant.stands) in
    let does : Performs (AwaitChildren items) m now after reply =
    op_performed (AwaitChildren items) m now after reply (runs_is_reply m (reverse now.history) reply own) refl (admitted_on_each (AwaitChildren items) m now places low c.requires.admitted)
    (λ h st. runs_unmet m (taskwait_met (executed_task m h) items h) h reply (sym (c.children_done.ensures.value h (scheduler_too _ _ h c.self.view_is st)) ∙ c.if-children_done.false) (c.run_or_wait.ensures.answer h st))
    (λ h st. rw (waited_runs m items h reply (c.run_or_wait.ensures.answer h st)) (c.run_or_wait.ensures.stands h st))
    c.run_or_wait.ensures.limits (omega (arith, room)) (c.run_or_wait.ensures.kept ∙ sym (set_same now.kept m)) (λ wait goes. c.run_or_wait.ensures.waits wait) in
    record { performs = does; taskwait = λ once. taskwait_performed items m now after reply (admitted_on_each (Taskwait items) m now places low once) does }
