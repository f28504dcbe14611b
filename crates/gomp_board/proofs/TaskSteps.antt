-- What a board knows when one of its tasks is created or ended, or a group is ended.
use Rattle.std.proofs.Common.{◌≡◌, ℕ, ◌+◌, ◌<◌, ◌≤◌, Bool, true, false, List, ap, sym, subst, arith, suc}
use Rattle.std.specs.Prelude.{min, reverse}
use Rattle.gomp_types.specs.declared.limits.Limits.{Limits}
use Rattle.gomp_types.specs.Limits.{capped_limits}
use Rattle.gomp_types.specs.declared.task.TaskDesc.{TaskDesc}
use Rattle.gomp_events.specs.declared.event.Event.{Event}
use Rattle.gomp_types.specs.declared.task.Task.{Task}
use Rattle.gomp_types.specs.declared.task.Task.TheVariants.{Implicit, Explicit}
use Rattle.gomp_events.specs.Tasks.{tasks_created, is_created, of_explicit, executed_task, in_task}
use Rattle.gomp_events.specs.Laws.{Always}
use Rattle.gomp_events.specs.TaskRules.{TaskRule, MayCreate}
use Rattle.gomp_events.proofs.Suspended.{current_open}
use Rattle.gomp_events.specs.CancelCalls.{creates_covered}
use Rattle.gomp_tasks.specs.Stands.{count_of}
use Rattle.gomp_board.specs.declared.op.Op.TheVariants.{Create, EndTask}
use Rattle.gomp_board.specs.Boards.{BoardView, Stands, IsBoard, IsOpAdmitted, kept_by}
use Rattle.gomp_board.proofs.Admitted.{create_may, create_few, create_room, end_within}

-- A task is created

pub creates_so : (now b : BoardView) (m n : ℕ) (desc : TaskDesc) (h : List Event) → b ≡ now → IsOpAdmitted (Create desc) m now → m < n → creates_covered m h ≡ false → Stands b h → MayCreate n (suc (tasks_created h)) m (executed_task m h) h
creates_so now b m n desc h e admitted low uncovered st = create_may now.limits now.room (kept_by m now) n m desc h low uncovered (admitted h (subst (λ (v : BoardView). Stands v h) e st))

-- the limits are not above the standard ones, so the numbers that count up to them are small
limits_low : (limits : Limits) → capped_limits limits ≡ limits → (limits.tasks ≤ 1048576) × (limits.events ≤ 16777216)
limits_low limits capped =
    let tasks : min limits.tasks 1048576 ≡ limits.tasks = ap (λ (l : Limits). l.tasks) capped in
    let events : min limits.events 16777216 ≡ limits.events = ap (λ (l : Limits). l.events) capped in
    (omega (arith, tasks), omega (arith, events))

-- the room that was asked for with that of a task
pub creation_fits : (now b : BoardView) (m : ℕ) (desc : TaskDesc) (space : ℕ) → b ≡ now → IsBoard space b → IsOpAdmitted (Create desc) m now → creates_covered m (reverse b.history) ≡ false → b.room + 3 < 4294967296
creation_fits now b m desc space e is admitted uncovered =
    let fine = admitted (reverse b.history) (subst (λ (v : BoardView). Stands v (reverse b.history)) e is.stands) in
    let asked = create_room now.limits now.room (kept_by m now) m desc (reverse b.history) uncovered fine in
    let low = (limits_low b.limits is.limits).1 in
    let room : b.room ≡ now.room = ap (λ (v : BoardView). v.room) e in
    let limit : b.limits.events ≡ now.limits.events = ap (λ (v : BoardView). v.limits.events) e in
    omega (arith, asked, low, room, limit)

-- the number of the next task
pub creation_has_number : (now b : BoardView) (m : ℕ) (desc : TaskDesc) (space : ℕ) → b ≡ now → IsBoard space b → IsOpAdmitted (Create desc) m now → count_of b.scheduler.tasks < 4294967295
creation_has_number now b m desc space e is admitted =
    let fine = admitted (reverse b.history) (subst (λ (v : BoardView). Stands v (reverse b.history)) e is.stands) in
    let few = create_few now.limits now.room (kept_by m now) m desc (reverse b.history) fine in
    let low = (limits_low b.limits is.limits).0 in
    let limit : b.limits.tasks ≡ now.limits.tasks = ap (λ (v : BoardView). v.limits.tasks) e in
    let count = is.stands.scheduler.tasks.count in
    omega (arith, few, low, limit, count)

-- A task is ended

pub ends_within_task : (now b : BoardView) (m : ℕ) (leaving : Bool) (h : List Event) → b ≡ now → IsOpAdmitted (EndTask leaving) m now → Stands b h → in_task m h ≡ true
ends_within_task now b m leaving h e admitted st = end_within now.limits now.room (kept_by m now) m leaving h (admitted h (subst (λ (v : BoardView). Stands v h) e st))

-- the task that a member executes, an explicit one, was created
pub executed_is_created : (members m : ℕ) (task : Task) (h : List Event) → Always (TaskRule members) h → task ≡ executed_task m h → in_task m h ≡ true → of_explicit (λ t. is_created t h) task ≡ true
executed_is_created members m (Implicit x) h rule current within = absurd (let e = rw (← current) at within in cc)
executed_is_created members m (Explicit t) h rule current within = (current_open members m t h rule (sym current)).0
