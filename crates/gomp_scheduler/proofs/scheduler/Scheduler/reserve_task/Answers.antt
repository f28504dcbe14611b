use Rattle.std.proofs.Common.{refl, ap, arith, ◌∙◌}
use Rattle.gomp_tasks.specs.Stands.{count_of}
use Rattle.gomp_ready.specs.Ready.{ReadyView}
use Rattle.gomp_scheduler.specs.contracts.scheduler.Scheduler.{the_view}
use Rattle.gomp_scheduler.proofs.PartsKeep.{grown_by_a_task, grown_outside, ready_with_items, room_for_a_task, scheduler_grown}
use Rattle.gomp_scheduler.proofs.PassedOver.{grown_looked}
use Rattle.gomp_scheduler.proofs.scheduler.Scheduler.reserve_task.Goals as goal

pub invariant_of-self : goal.invariant_of-self
invariant_of-self c =
    let s = the_view c.self.inside in let room = c.make_task_room.ensures in
    scheduler_grown s _ _ _ c.self.invariant (grown_by_a_task s _ c.self.invariant.members room.tasks room.groups room.stands room.stood (ap (λ (v : ReadyView). v.ids) room.ready) (ap (λ (v : ReadyView). v.members) room.ready) refl refl)
    (λ t. room.freed t ∙ c.self.invariant.freed t) (let before = c.self.invariant.waiting in let same = room.waiting in let more = room.ready_grows in omega (arith, before, same, more)) (grown_looked c.self.inside.tasks c.make_task_room.new.tasks c.self.inside.ready c.make_task_room.new.ready room.tasks room.ready c.self.invariant.looked)

pub returns-clause-room : goal.returns-clause-room
returns-clause-room c =
    let s = the_view c.self.inside in let room = c.make_task_room.ensures in
    room_for_a_task c.make_task_room.result s _ c.args.member c.saturating_add-task.result c.count.result c.current-parent.result c.args.items.now
    (grown_by_a_task s _ c.self.invariant.members room.tasks room.groups room.stands room.stood (ap (λ (v : ReadyView). v.ids) room.ready) (ap (λ (v : ReadyView). v.members) room.ready) refl refl)
    (ap count_of room.tasks) c.count.ensures.rows c.saturating_add-task.ensures c.current-parent.ensures.value room.task_room room.group_room room.depend_room (ready_with_items _ _ _ c.make_task_room.result room.waiting room.ready_room)

pub returns-clause-same : goal.returns-clause-same
returns-clause-same c =
    let s = the_view c.self.inside in let room = c.make_task_room.ensures in
    grown_outside _ _ _ c.self.view_is (grown_by_a_task s _ c.self.invariant.members room.tasks room.groups room.stands room.stood (ap (λ (v : ReadyView). v.ids) room.ready) (ap (λ (v : ReadyView). v.members) room.ready) refl refl)
