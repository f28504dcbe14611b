use Rattle.std.proofs.Common.{◌+◌, ◌∷◌, [], ◌++◌, reverse, refl, sym, subst, ap, ◌∙◌, arith, List, suc}
use Rattle.gomp_events.specs.Tasks.{tasks_created}
use Rattle.gomp_events.specs.declared.event.Event.{Event}
use Rattle.gomp_events.specs.declared.event.Event.TheVariants.{Create}
use Rattle.gomp_types.specs.declared.task.TaskDesc.{TaskDesc}
use Rattle.gomp_board.specs.Boards.{BoardView, IsSame}
use Rattle.gomp_board.specs.contracts.board.Board.{the_view}
use Rattle.gomp_board.proofs.BoardEvents.{board_asked, created_stands, grown_board, grown_is_same, grown_member, grown_twice, member_too, members_after, rule_of, stands_now, stands_too}
use Rattle.gomp_board.proofs.OwedKeeps.{create_owes}
use Rattle.gomp_board.proofs.TaskSteps.{creates_so, creation_fits, creation_has_number}
use Rattle.gomp_board.proofs.board.Board.add_task.Goals as goal

pub overflow_add-room : goal.overflow_add-room
overflow_add-room c =
    let b = the_view c.self.inside in let own = reverse b.history in
    let small = creation_fits c.args.self.now b c.args.member c.args.desc.now _ c.self.view_is c.self.invariant c.requires.admitted (c.requires.uncovered own (stands_now _ _ own c.self.view_is c.self.invariant.stands)) in
    omega (arith, small)

pub create-task-requires-clause-few : goal.create-task-requires-clause-few
create-task-requires-clause-few c =
    let b = the_view c.self.inside in let st = c.self.invariant.stands in
    let few = creation_has_number c.args.self.now b c.args.member c.args.desc.now _ c.self.view_is c.self.invariant c.requires.admitted in
    let count = st.scheduler.tasks.count in let after = (c.reserve_task.ensures.scheduler.stands (reverse b.history) st.scheduler).tasks.count in
    omega (arith, few, count, after)

pub create-task-requires-clause-may : goal.create-task-requires-clause-may
create-task-requires-clause-may c =
    let b = the_view c.self.inside in let m = c.args.member in let own = reverse b.history in let st = c.self.invariant.stands in let grown = c.reserve_task.ensures.scheduler in
    (own, grown.stands own st.scheduler, creates_so c.args.self.now b m _ c.args.desc.now own c.self.view_is c.requires.admitted (grown_member b c.reserve_task.new.scheduler m c.self.invariant.members grown (member_too _ _ m c.self.view_is c.requires.member)) (c.requires.uncovered own (stands_now _ _ own c.self.view_is st)) st)

pub push_task-requires-clause-next : goal.push_task-requires-clause-next
push_task-requires-clause-next c =
    let own = reverse (the_view c.self.inside).history in
    c.create-task.ensures.number own (c.reserve_task.ensures.scheduler.stands own c.self.invariant.stands.scheduler)
    ∙ ap (λ (es : List Event). suc (tasks_created (reverse es))) (sym c.reserve_task.ensures.history)

pub invariant_of-self : goal.invariant_of-self
invariant_of-self c =
    grown_board (the_view c.self.inside) c.reserve_task.new.history.events c.reserve_task.new.scheduler c.reserve_task.ensures.scheduler c.reserve_task.ensures.history _ _ c.self.invariant c.reserve_task.ensures.grows

pub invariant_of-self-2 : goal.invariant_of-self-2
invariant_of-self-2 c =
    let b = the_view c.self.inside in let m = c.args.member in let t = c.create-task.result in let p = c.current-parent.result in let d = c.args.desc.now in let own = reverse b.history in let st = c.self.invariant.stands in
    let now_st = stands_now _ _ own c.self.view_is st in let grown = c.reserve_task.ensures.scheduler in
    let longer = c.push_task.ensures.events ∙ ap (λ (x : TaskDesc). c.reserve_task.new.history.events ++ Create t m p x ∷ []) c.in_ok-stored.ensures.task ∙ ap (λ (es : List Event). es ++ Create t m p d ∷ []) c.reserve_task.ensures.history in
    let may = creates_so c.args.self.now b m _ d own c.self.view_is c.requires.admitted (grown_member b c.reserve_task.new.scheduler m c.self.invariant.members grown (member_too _ _ m c.self.view_is c.requires.member)) (c.requires.uncovered own now_st) st in
    let before = grown.stands own st.scheduler in
    let capacity = c.push_task.ensures.capacity in
    let space = c.in_ok-reserve_task.ensures.space in
    board_asked _ _ 3 b (Create t m p d) c.self.invariant (create_owes _ m t p d own (rule_of b own c.self.invariant.members st)) _ longer
    (created_stands b c.push_task.new.self.events (b.room + 3) c.create-task.new.self t m p d own (c.current-parent.ensures.value own now_st) longer (c.create-task.ensures.number own before) (c.requires.uncovered own now_st) (c.create-task.ensures.stands own before may) st)
    (members_after b b.kept c.create-task.new.self c.self.invariant.members refl (grown_twice b.scheduler c.reserve_task.new.scheduler c.create-task.new.self grown c.create-task.ensures.members)) refl refl refl (omega (arith, capacity, space))

pub returns-clause-stands : goal.returns-clause-stands
returns-clause-stands c = λ h now_st.
    let b = the_view c.self.inside in let m = c.args.member in let t = c.create-task.result in let p = c.current-parent.result in let d = c.args.desc.now in
    let st = stands_too _ _ h c.self.view_is now_st in let grown = c.reserve_task.ensures.scheduler in
    let longer = c.push_task.ensures.events ∙ ap (λ (x : TaskDesc). c.reserve_task.new.history.events ++ Create t m p x ∷ []) c.in_ok-stored.ensures.task ∙ ap (λ (es : List Event). es ++ Create t m p d ∷ []) c.reserve_task.ensures.history in
    let may = creates_so c.args.self.now b m _ d h c.self.view_is c.requires.admitted (grown_member b c.reserve_task.new.scheduler m c.self.invariant.members grown (member_too _ _ m c.self.view_is c.requires.member)) (c.requires.uncovered h now_st) st in
    let before = grown.stands h st.scheduler in
    let current = c.current-parent.ensures.value h now_st in let number = c.create-task.ensures.number h before in
    let stands = created_stands b c.push_task.new.self.events (b.room + 3) c.create-task.new.self t m p d h current longer number (c.requires.uncovered h now_st) (c.create-task.ensures.stands h before may) st in
    rw (← number, ← current) stands

pub returns-in_err-reserve_task-clause-lacks : goal.returns-in_err-reserve_task-clause-lacks
returns-in_err-reserve_task-clause-lacks c = λ failed.
    let b = the_view c.self.inside in
    subst (λ (v : BoardView). IsSame v (record b { history = c.reserve_task.new.history.events; scheduler = c.reserve_task.new.scheduler })) c.self.view_is
    (grown_is_same b c.reserve_task.new.history.events c.reserve_task.new.scheduler c.reserve_task.ensures.scheduler c.reserve_task.ensures.history)
