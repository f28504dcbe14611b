use Rattle.std.proofs.Common.{◌≡◌, reverse, refl, sym, subst, ap, ◌∙◌, arith, Bool}
use Rattle.std.specs.Prelude.{not}
use Rattle.gomp_events.specs.declared.event.Event.TheVariants.{Done}
use Rattle.gomp_types.specs.declared.reply.Reply.TheVariants.{TaskDone}
use Rattle.gomp_types.specs.declared.task.Task.{Task}
use Rattle.gomp_scheduler.specs.Calls.{items_of_task}
use Rattle.gomp_events.specs.TaskCalls.{EndsTask}
use Rattle.gomp_board.specs.declared.op.Op.TheVariants.{EndTask}
use Rattle.gomp_board.specs.Boards.{BoardView}
use Rattle.gomp_board.specs.contracts.board.Board.{the_view}
use Rattle.gomp_board.proofs.BoardEvents.{board_after, event_stands, members_after, memory_for, rule_of, set_same, stands_too}
use Rattle.gomp_board.proofs.OwedKeeps.{end_owes}
use Rattle.gomp_board.proofs.Performed.{op_performed}
use Rattle.gomp_board.proofs.Sealed.{sealed_aside}
use Rattle.gomp_board.proofs.TaskSteps.{ends_within_task, executed_is_created}
use Rattle.gomp_board.proofs.board.Board.end_task_admitted.Goals as goal

pub items_of-items-requires : goal.items_of-items-requires
items_of-items-requires c =
    let b = the_view c.self.inside in let own = reverse b.history in let st = c.self.invariant.stands in
    record { created = executed_is_created _ c.args.member c.current.result own (rule_of b own c.self.invariant.members st) (c.current.ensures.value own st.scheduler) (ends_within_task _ b c.args.member c.args.leaving own c.self.view_is c.requires.admitted st) }

pub finish-task-requires-clause-inside : goal.finish-task-requires-clause-inside
finish-task-requires-clause-inside c =
    let b = the_view c.self.inside in let own = reverse b.history in let st = c.self.invariant.stands in
    (own, st.scheduler, ends_within_task _ b c.args.member c.args.leaving own c.self.view_is c.requires.admitted st, c.items_of-items.ensures.value own st.history ∙ ap (λ (p : Task). items_of_task p own) (c.current.ensures.value own st.scheduler))

pub push-requires-clause-space : goal.push-requires-clause-space
push-requires-clause-space c =
    let b = the_view c.self.inside in let m = c.args.member in let own = reverse b.history in let st = c.self.invariant.stands in
    let lent = c.items_of-items.ensures.value own st.history ∙ ap (λ (p : Task). items_of_task p own) (c.current.ensures.value own st.scheduler) in
    let current = c.finish-task.ensures.task own st.scheduler (ends_within_task _ b m c.args.leaving own c.self.view_is c.requires.admitted st) lent in
    memory_for _ b (Done c.finish-task.result.task m) c.self.invariant (end_owes _ m c.finish-task.result.task own (rule_of b own c.self.invariant.members st) current)

pub invariant_of-self : goal.invariant_of-self
invariant_of-self c =
    let b = the_view c.self.inside in let m = c.args.member in let t = c.finish-task.result.task in let own = reverse b.history in let st = c.self.invariant.stands in
    let inside = ends_within_task _ b m c.args.leaving own c.self.view_is c.requires.admitted st in
    let lent = c.items_of-items.ensures.value own st.history ∙ ap (λ (p : Task). items_of_task p own) (c.current.ensures.value own st.scheduler) in
    let current = c.finish-task.ensures.task own st.scheduler inside lent in
    let capacity = c.push.ensures.capacity in
    board_after _ b (Done t m) c.self.invariant (end_owes _ m t own (rule_of b own c.self.invariant.members st) current) _ _ c.push.ensures.events
    (event_stands b _ b.room b.kept c.finish-task.new.self (Done t m) own refl tt refl (sealed_aside (Done t m) own tt st.sealed) c.push.ensures.events (c.finish-task.ensures.stands own st.scheduler inside lent) st)
    (members_after b b.kept c.finish-task.new.self c.self.invariant.members refl c.finish-task.ensures.members) refl refl refl (omega (arith, capacity))

pub returns : goal.returns
returns c =
    let now = c.args.self.now in let b = the_view c.self.inside in let m = c.args.member in let t = c.finish-task.result.task in
    let room : b.room ≡ now.room = ap (λ (v : BoardView). v.room) c.self.view_is in
    record {
      performs = op_performed (EndTask c.args.leaving) m now _ (TaskDone t (not c.finish-task.result.undeferred)) tt refl c.requires.admitted
          (λ h now_st.
          let st = stands_too _ _ h c.self.view_is now_st in
          let inside = ends_within_task _ b m c.args.leaving h c.self.view_is c.requires.admitted st in
          let lent = c.items_of-items.ensures.value h st.history ∙ ap (λ (p : Task). items_of_task p h) (c.current.ensures.value h st.scheduler) in
          let current = c.finish-task.ensures.task h st.scheduler inside lent in
          subst (λ (p : Task). EndsTask p h (TaskDone t (not c.finish-task.result.undeferred))) (sym current) (ap (λ (u : Bool). TaskDone t (not u)) (c.finish-task.ensures.undeferred h st.scheduler inside lent)))
          (λ h now_st.
          let st = stands_too _ _ h c.self.view_is now_st in
          let inside = ends_within_task _ b m c.args.leaving h c.self.view_is c.requires.admitted st in
          let lent = c.items_of-items.ensures.value h st.history ∙ ap (λ (p : Task). items_of_task p h) (c.current.ensures.value h st.scheduler) in
          event_stands b _ b.room b.kept c.finish-task.new.self (Done t m) h refl tt refl (sealed_aside (Done t m) h tt st.sealed) c.push.ensures.events (c.finish-task.ensures.stands h st.scheduler inside lent) st)
          (ap (λ (v : BoardView). v.limits) c.self.view_is) (omega (arith, room)) (ap (λ (v : BoardView). v.kept) c.self.view_is ∙ sym (set_same now.kept m)) (λ wait goes. absurd (cc));
    }
