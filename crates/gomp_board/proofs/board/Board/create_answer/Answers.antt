use Rattle.std.proofs.Common.{◌++◌, reverse, refl, sym, ◌∙◌}
use Rattle.gomp_events.specs.TaskCalls.{creates}
use Rattle.gomp_tasks.specs.Stands.{task_members}
use Rattle.gomp_board.specs.declared.op.Op.TheVariants.{Create}
use Rattle.gomp_board.proofs.AdmittedOnce.{admitted_on_each}
use Rattle.gomp_board.proofs.Performed.{op_performed, out_of_memory}
use Rattle.gomp_board.proofs.Sealed.{still_uncovered}
use Rattle.gomp_board.proofs.BoardEvents.{err_of_none, set_same}
use Rattle.gomp_board.proofs.Creators.{creator_is_answered, creator_keeps_room, creates_begun, answers_undropped, creation_dropped}
use Rattle.gomp_board.proofs.board.Board.create_answer.Goals as goal

pub add_task-requires-clause-admitted : goal.add_task-requires-clause-admitted
add_task-requires-clause-admitted c = admitted_on_each (Create c.args.desc.now) c.args.member c.args.self.now c.drops_creation.ensures.members c.requires.member c.requires.admitted

pub add_task-requires-clause-uncovered : goal.add_task-requires-clause-uncovered
add_task-requires-clause-uncovered c = λ h st. sym (c.drops_creation.ensures.value h st) ∙ c.if-drops_creation.false

pub returns-then-drops_creation : goal.returns-then-drops_creation
returns-then-drops_creation c = record { performs = creation_dropped c.args.member c.args.desc.now c.args.self.now (admitted_on_each (Create c.args.desc.now) c.args.member c.args.self.now c.drops_creation.ensures.members c.requires.member c.requires.admitted) (λ h st. sym (c.drops_creation.ensures.value h st) ∙ c.if-drops_creation.true) }

pub returns-in_default : goal.returns-in_default
returns-in_default c = record {
  performs = out_of_memory (Create c.args.desc.now) c.args.member c.args.self.now c.add_task.new.self (admitted_on_each (Create c.args.desc.now) c.args.member c.args.self.now c.drops_creation.ensures.members c.requires.member c.requires.admitted)
      (λ h st. let low = sym (c.drops_creation.ensures.value h st) ∙ c.if-drops_creation.false in rw low refl) (c.add_task.ensures.lacks (err_of_none c.add_task.result c.in_default.not-Ok)) c.add_task.ensures.limits;
}

pub returns : goal.returns
returns c =
    let now = c.args.self.now in let m = c.args.member in let d = c.args.desc.now in let reply = c.answer_creator.result in
    let made = reverse c.add_task.new.self.history in
    let known = c.answer_creator.ensures.answer made c.answer_creator.ensures.known in
    record {
      performs = op_performed (Create d) m now c.answer_creator.new.self reply (creator_is_answered m made reply known) (creator_keeps_room m d made reply known) (admitted_on_each (Create c.args.desc.now) c.args.member c.args.self.now c.drops_creation.ensures.members c.requires.member c.requires.admitted)
          (λ h st.
          let low = sym (c.drops_creation.ensures.value h st) ∙ c.if-drops_creation.false in
          rw (creates_begun m d h low) (answers_undropped m (creates m d h ++ h) reply (still_uncovered (task_members now.scheduler.tasks) m d h st.scheduler.tasks.rule low) (c.answer_creator.ensures.answer (creates m d h ++ h) (c.in-Ok.ensures.stands h st))))
          (λ h st.
          let low = sym (c.drops_creation.ensures.value h st) ∙ c.if-drops_creation.false in
          rw (creates_begun m d h low) (c.answer_creator.ensures.stands (creates m d h ++ h) (c.in-Ok.ensures.stands h st)))
          (c.answer_creator.ensures.limits ∙ c.add_task.ensures.limits) (c.answer_creator.ensures.room ∙ c.in-Ok.ensures.room) (c.answer_creator.ensures.kept ∙ c.add_task.ensures.kept ∙ sym (set_same now.kept m)) (λ wait goes. absurd (cc));
    }
