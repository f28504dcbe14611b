use Rattle.std.proofs.Common.{◌∷◌, ℕ, List, suc, sym, subst, ◌∙◌}
use Rattle.gomp_events.specs.declared.event.Event.TheVariants.{Create}
use Rattle.gomp_types.specs.declared.depend.Dep.{Dep}
use Rattle.gomp_types.specs.declared.task.Task.{Task}
use Rattle.gomp_events.specs.Tasks.{tasks_created, executed_task}
use Rattle.gomp_tasks.specs.Stands.{Stands as TasksStand}
use Rattle.gomp_groups.specs.Stands.{Stands as GroupsStand}
use Rattle.gomp_depend.specs.Stands.{HasDependRoom}
use Rattle.gomp_barrier.specs.Stands.{Stands as BarriersStand}
use Rattle.gomp_scheduler.specs.Passed.{shown}
use Rattle.gomp_scheduler.specs.Schedulers.{SchedulerView}
use Rattle.gomp_scheduler.specs.contracts.scheduler.Scheduler.{the_view}
use Rattle.gomp_scheduler.proofs.PartsKeep.{barriers_bind, child_parity, found_bare, freed_is_kept, parts_created, parts_created_bare, creates_inside, groups_create, listed_so, members_with, next_task_number, room_once_put, scheduler_with, scheduler_stands_inside, tasks_create}
use Rattle.gomp_scheduler.proofs.PassedOver.{created_passed, next_looked}
use Rattle.gomp_scheduler.proofs.scheduler.Scheduler.create.Goals as goal

pub bind-requires-clause-may : goal.bind-requires-clause-may
bind-requires-clause-may c =
    let s = the_view c.self.inside in let m = c.args.member in
    let (h, now_st, now_may) = c.requires.may in let st = scheduler_stands_inside _ _ h c.self.view_is now_st in let may = creates_inside _ _ m h c.self.view_is now_may in
    let current = c.current-parent.ensures.value h st.tasks in let parity = child_parity c.child_is_odd-odd.result m c.current-parent.result h current (c.child_is_odd-odd.ensures.value h now_st current) in
    (h, suc (tasks_created h), c.current-parent.result, st.barriers, barriers_bind s m c.current-parent.result c.child_is_odd-odd.result h c.self.invariant.members may current parity st)

pub create-requires-then-not-is_empty-clause-room : goal.create-requires-then-not-is_empty-clause-room
create-requires-then-not-is_empty-clause-room c =
    let s = the_view c.self.inside in let m = c.args.member in let t = c.create-task.result in let its = c.as_slice-items.result.now in
    let (h, now_st, now_may) = c.requires.may in let st = scheduler_stands_inside _ _ h c.self.view_is now_st in
    let current = c.current-parent.ensures.value h st.tasks in
    let number = next_task_number s.tasks c.create-task.new.self t h st.tasks c.create-task.ensures.number c.create-task.ensures.count in
    subst (λ (v : SchedulerView). HasDependRoom t c.current-parent.result its v.depends) (sym c.self.view_is)
    (subst (λ (q : Task). HasDependRoom t q its c.args.self.now.depends) (sym current)
    (subst (λ (n : ℕ). HasDependRoom n (executed_task m h) its c.args.self.now.depends) (sym number)
    (subst (λ (ds : List Dep). HasDependRoom (suc (tasks_created h)) (executed_task m h) ds c.args.self.now.depends) (sym c.as_slice-items.ensures) (c.requires.room.depends c.requires.few h now_st))))

pub put_freed-requires-clause-kept : goal.put_freed-requires-clause-kept
put_freed-requires-clause-kept c =
    let s = the_view c.self.inside in let m = c.args.member in let t = c.create-task.result in let p = c.current-parent.result in let d = c.args.desc.now in
    let (h, now_st, now_may) = c.requires.may in let st = scheduler_stands_inside _ _ h c.self.view_is now_st in let may = creates_inside _ _ m h c.self.view_is now_may in
    let current = c.current-parent.ensures.value h st.tasks in let parity = child_parity c.child_is_odd-odd.result m c.current-parent.result h current (c.child_is_odd-odd.ensures.value h now_st current) in
    let number = next_task_number s.tasks c.create-task.new.self t h st.tasks c.create-task.ensures.number c.create-task.ensures.count in
    let next = subst (λ (q : Task). TasksStand c.create-task.new.self (Create t m q d ∷ h)) (sym current) (c.create-task.ensures.stands h st.tasks (tasks_create s m c.child_is_odd-odd.result h may parity st)) in
    freed_is_kept c.create-task.new.self c.create-then-not-is_empty.new.self (Create t m p d) h next (c.create-then-not-is_empty.ensures.stands h m d st.depends number (sym c.as_slice-items.ensures)) (c.create-then-not-is_empty.ensures.freed h m d st.depends number (sym c.as_slice-items.ensures))

pub invariant_of-self : goal.invariant_of-self
invariant_of-self c =
    let s = the_view c.self.inside in let m = c.args.member in let t = c.create-task.result in let p = c.current-parent.result in let d = c.args.desc.now in let has = c.self.invariant.members in let put = c.put_freed.ensures in
    let (h, now_st, now_may) = c.requires.may in let st = scheduler_stands_inside _ _ h c.self.view_is now_st in let may = creates_inside _ _ m h c.self.view_is now_may in
    let current = c.current-parent.ensures.value h st.tasks in let parity = child_parity c.child_is_odd-odd.result m c.current-parent.result h current (c.child_is_odd-odd.ensures.value h now_st current) in
    let number = next_task_number s.tasks c.create-task.new.self t h st.tasks c.create-task.ensures.number c.create-task.ensures.count in
    let next = subst (λ (q : Task). TasksStand c.create-task.new.self (Create t m q d ∷ h)) (sym current) (c.create-task.ensures.stands h st.tasks (tasks_create s m c.child_is_odd-odd.result h may parity st)) in
    let next_groups = subst (λ (n : ℕ). GroupsStand c.create.new.self (Create n m p d ∷ h)) (sym number) (c.create.ensures.stands h m d st.groups (groups_create s m p h has may current)) in
    let next_barriers = subst (λ (n : ℕ). BarriersStand c.bind.new.self (Create n m p d ∷ h)) (sym number) (c.bind.ensures.stands h (suc (tasks_created h)) m p d st.barriers (barriers_bind s m p c.child_is_odd-odd.result h has may current parity st)) in
    let next_depends = c.create-then-not-is_empty.ensures.stands h m d st.depends number (sym c.as_slice-items.ensures) in
    let plain = listed_so c.is_listed-listed.result c.becomes_undeferred-undeferred.result c.as_slice-items.result.now d p h c.is_listed-listed.ensures (c.becomes_undeferred-undeferred.ensures.value h now_st) c.as_slice-items.ensures in
    scheduler_with s _ _ (Create t m p d ∷ h) (members_with s _ has c.create-task.ensures.members c.create.ensures.members c.bind.ensures.members (put.members ∙ c.put_if.ensures.members))
    (parts_created s c.create-task.new.self c.create.new.self c.bind.new.self c.create-then-not-is_empty.new.self c.put_freed.new.depends c.put_if.new.ready.ids (shown c.put_freed.new.ready) t m c.is_listed-listed.result p d h c.put_if.ensures.ids number plain next next_groups next_barriers next_depends
    (put.stands (Create t m p d ∷ h) next_depends) (c.create-then-not-is_empty.ensures.freed h m d st.depends number (sym c.as_slice-items.ensures)) (record { ids = put.ids (Create t m p d ∷ h) next; once = put.once }) st) put.freed put.room
    (next_looked c.self.inside.tasks c.create-task.new.self c.self.inside.ready c.put_freed.new.ready (Create t m p d) h (put.members ∙ c.put_if.ensures.members ∙ has.ready ∙ sym c.create-task.ensures.members) st.tasks next (put.members ∙ c.put_if.ensures.members) (put.passed ∙ c.put_if.ensures.passed) (created_passed c.self.inside.ready t m p d h number) c.self.invariant.looked)

pub returns-then-not-is_empty-clause-stands : goal.returns-then-not-is_empty-clause-stands
returns-then-not-is_empty-clause-stands c = λ h now_st now_may.
    let s = the_view c.self.inside in let m = c.args.member in let t = c.create-task.result in let p = c.current-parent.result in let d = c.args.desc.now in let has = c.self.invariant.members in let put = c.put_freed.ensures in
    let st = scheduler_stands_inside _ _ h c.self.view_is now_st in let may = creates_inside _ _ m h c.self.view_is now_may in
    let current = c.current-parent.ensures.value h st.tasks in let parity = child_parity c.child_is_odd-odd.result m c.current-parent.result h current (c.child_is_odd-odd.ensures.value h now_st current) in
    let number = next_task_number s.tasks c.create-task.new.self t h st.tasks c.create-task.ensures.number c.create-task.ensures.count in
    let next = subst (λ (q : Task). TasksStand c.create-task.new.self (Create t m q d ∷ h)) (sym current) (c.create-task.ensures.stands h st.tasks (tasks_create s m c.child_is_odd-odd.result h may parity st)) in
    let next_groups = subst (λ (n : ℕ). GroupsStand c.create.new.self (Create n m p d ∷ h)) (sym number) (c.create.ensures.stands h m d st.groups (groups_create s m p h has may current)) in
    let next_barriers = subst (λ (n : ℕ). BarriersStand c.bind.new.self (Create n m p d ∷ h)) (sym number) (c.bind.ensures.stands h (suc (tasks_created h)) m p d st.barriers (barriers_bind s m p c.child_is_odd-odd.result h has may current parity st)) in
    let next_depends = c.create-then-not-is_empty.ensures.stands h m d st.depends number (sym c.as_slice-items.ensures) in
    let plain = listed_so c.is_listed-listed.result c.becomes_undeferred-undeferred.result c.as_slice-items.result.now d p h c.is_listed-listed.ensures (c.becomes_undeferred-undeferred.ensures.value h now_st) c.as_slice-items.ensures in
    let stands = parts_created s c.create-task.new.self c.create.new.self c.bind.new.self c.create-then-not-is_empty.new.self c.put_freed.new.depends c.put_if.new.ready.ids (shown c.put_freed.new.ready) t m c.is_listed-listed.result p d h c.put_if.ensures.ids number plain next next_groups next_barriers next_depends
    (put.stands (Create t m p d ∷ h) next_depends) (c.create-then-not-is_empty.ensures.freed h m d st.depends number (sym c.as_slice-items.ensures)) (record { ids = put.ids (Create t m p d ∷ h) next; once = put.once }) st in
    rw (← current) stands

pub invariant_of-self-else-not-is_empty : goal.invariant_of-self-else-not-is_empty
invariant_of-self-else-not-is_empty c =
    let s = the_view c.self.inside in let m = c.args.member in let t = c.create-task.result in let p = c.current-parent.result in let d = c.args.desc.now in let has = c.self.invariant.members in let put = c.put_if.ensures in
    let (h, now_st, now_may) = c.requires.may in let st = scheduler_stands_inside _ _ h c.self.view_is now_st in let may = creates_inside _ _ m h c.self.view_is now_may in
    let current = c.current-parent.ensures.value h st.tasks in let parity = child_parity c.child_is_odd-odd.result m c.current-parent.result h current (c.child_is_odd-odd.ensures.value h now_st current) in
    let number = next_task_number s.tasks c.create-task.new.self t h st.tasks c.create-task.ensures.number c.create-task.ensures.count in
    let next = subst (λ (q : Task). TasksStand c.create-task.new.self (Create t m q d ∷ h)) (sym current) (c.create-task.ensures.stands h st.tasks (tasks_create s m c.child_is_odd-odd.result h may parity st)) in
    let next_groups = subst (λ (n : ℕ). GroupsStand c.create.new.self (Create n m p d ∷ h)) (sym number) (c.create.ensures.stands h m d st.groups (groups_create s m p h has may current)) in
    let next_barriers = subst (λ (n : ℕ). BarriersStand c.bind.new.self (Create n m p d ∷ h)) (sym number) (c.bind.ensures.stands h (suc (tasks_created h)) m p d st.barriers (barriers_bind s m p c.child_is_odd-odd.result h has may current parity st)) in
    let bare = found_bare c.as_slice-items.result.now d.deps c.is_empty.result c.as_slice-items.ensures c.is_empty.ensures c.if-not-is_empty.false in
    let plain = listed_so c.is_listed-listed.result c.becomes_undeferred-undeferred.result c.as_slice-items.result.now d p h c.is_listed-listed.ensures (c.becomes_undeferred-undeferred.ensures.value h now_st) c.as_slice-items.ensures in
    scheduler_with s _ _ (Create t m p d ∷ h) (members_with s _ has c.create-task.ensures.members c.create.ensures.members c.bind.ensures.members put.members)
    (parts_created_bare s c.create-task.new.self c.create.new.self c.bind.new.self (shown c.put_if.new.ready) t m c.is_listed-listed.result p d h c.self.invariant.freed bare put.ids number plain next next_groups next_barriers st) c.self.invariant.freed (room_once_put s _ m _ c.is_listed-listed.result c.put_if.new.ready.room c.self.view_is c.requires.room put.room)
    (next_looked c.self.inside.tasks c.create-task.new.self c.self.inside.ready c.put_if.new.ready (Create t m p d) h (put.members ∙ has.ready ∙ sym c.create-task.ensures.members) st.tasks next put.members put.passed (created_passed c.self.inside.ready t m p d h number) c.self.invariant.looked)

pub returns-else-not-is_empty-clause-stands : goal.returns-else-not-is_empty-clause-stands
returns-else-not-is_empty-clause-stands c = λ h now_st now_may.
    let s = the_view c.self.inside in let m = c.args.member in let t = c.create-task.result in let p = c.current-parent.result in let d = c.args.desc.now in let has = c.self.invariant.members in let put = c.put_if.ensures in
    let st = scheduler_stands_inside _ _ h c.self.view_is now_st in let may = creates_inside _ _ m h c.self.view_is now_may in
    let current = c.current-parent.ensures.value h st.tasks in let parity = child_parity c.child_is_odd-odd.result m c.current-parent.result h current (c.child_is_odd-odd.ensures.value h now_st current) in
    let number = next_task_number s.tasks c.create-task.new.self t h st.tasks c.create-task.ensures.number c.create-task.ensures.count in
    let next = subst (λ (q : Task). TasksStand c.create-task.new.self (Create t m q d ∷ h)) (sym current) (c.create-task.ensures.stands h st.tasks (tasks_create s m c.child_is_odd-odd.result h may parity st)) in
    let next_groups = subst (λ (n : ℕ). GroupsStand c.create.new.self (Create n m p d ∷ h)) (sym number) (c.create.ensures.stands h m d st.groups (groups_create s m p h has may current)) in
    let next_barriers = subst (λ (n : ℕ). BarriersStand c.bind.new.self (Create n m p d ∷ h)) (sym number) (c.bind.ensures.stands h (suc (tasks_created h)) m p d st.barriers (barriers_bind s m p c.child_is_odd-odd.result h has may current parity st)) in
    let bare = found_bare c.as_slice-items.result.now d.deps c.is_empty.result c.as_slice-items.ensures c.is_empty.ensures c.if-not-is_empty.false in
    let plain = listed_so c.is_listed-listed.result c.becomes_undeferred-undeferred.result c.as_slice-items.result.now d p h c.is_listed-listed.ensures (c.becomes_undeferred-undeferred.ensures.value h now_st) c.as_slice-items.ensures in
    let stands = parts_created_bare s c.create-task.new.self c.create.new.self c.bind.new.self (shown c.put_if.new.ready) t m c.is_listed-listed.result p d h c.self.invariant.freed bare put.ids number plain next next_groups next_barriers st in
    rw (← current) stands
