-- What two lists of events say alike if the same parts of a board stand for both: what the tests of an operation ask.
use Rattle.std.proofs.Common.{◌≡◌, ℕ, ◌<◌, Bool, true, List, [], ◌∷◌, Option, refl, ap, ◌∙◌, sym}
use Rattle.std.specs.Prelude.{◌||◌}
use Rattle.gomp_types.specs.declared.refusal.Clash.{Clash}
use Rattle.gomp_types.specs.declared.task.Task.{Task}
use Rattle.gomp_types.specs.declared.task.Task.TheVariants.{Implicit, Explicit}
use Rattle.gomp_types.proofs.Lists.{some_item}
use Rattle.gomp_events.specs.declared.event.Event.{Event}
use Rattle.gomp_events.specs.Events.{barriers_passed, tag_at, at_barrier, at_region_end, has_left_region, was_region_end, clash_of}
use Rattle.gomp_events.specs.Tasks.{innermost_task, executed_task, in_task, of_explicit, depth_of, tasks_created}
use Rattle.gomp_events.specs.Groups.{open_groups}
use Rattle.gomp_events.specs.Cancels.{first_in, is_cancelled, some_cancelled, groups_over, groups_within, would_be_covered}
use Rattle.gomp_events.specs.TaskCalls.{has_some, group_is_open}
use Rattle.gomp_events.specs.CancelCalls.{creates_covered}
use Rattle.gomp_events.proofs.ArrivalsKeep.{same_arrivals}
use Rattle.gomp_events.proofs.EndsPassed.{comes_to_end}
use Rattle.gomp_tasks.specs.Stands.{TasksView, IsTask, Stands as TasksStand, task_members}
use Rattle.gomp_tasks.proofs.Laws.{executed_tasks_are_kept}
use Rattle.gomp_tasks.proofs.RowsAt.{row_under}
use Rattle.gomp_groups.specs.Rows.{seat_at}
use Rattle.gomp_groups.specs.Stands.{GroupsView, IsSeated, Stands as GroupsStand, group_members}
use Rattle.gomp_groups.proofs.Laws.{executed_is_seated}
use Rattle.gomp_groups.proofs.Chains.{chain_unique}
use Rattle.gomp_groups.proofs.Fields.{open_read}
use Rattle.gomp_barrier.specs.declared.barriers.AtBarrier.{AtBarrier}
use Rattle.gomp_barrier.specs.Calls.{barrier_seen}
use Rattle.gomp_barrier.specs.Stands.{BarriersView, Stands as BarriersStand, barrier_members}
use Rattle.gomp_barrier.proofs.BarrierSteps.{look_is, waits_is}
use Rattle.gomp_tasks.proofs.Alike.{alike_created}
use Rattle.gomp_cancel.specs.Cancellations.{CancelView, CancelStands}
use Rattle.gomp_cancel.proofs.Marked.{marks_tell}

-- Tasks

pub executed_alike : (tasks : TasksView) (m : ℕ) (h g : List Event) → TasksStand tasks h → TasksStand tasks g → m < task_members tasks → executed_task m h ≡ executed_task m g
executed_alike tasks m h g st other low =
    let (ts, at) = some_item tasks.stacks m low in
    ap (innermost_task m) (st.stack m ts at ∙ sym (other.stack m ts at))

task_depth_alike : (tasks : TasksView) (task : Task) (h g : List Event) → TasksStand tasks h → TasksStand tasks g → IsTask task tasks → depth_of task h ≡ depth_of task g
task_depth_alike tasks (Implicit x) h g st other kept = refl
task_depth_alike tasks (Explicit t) h g st other kept =
    let (row, at) = row_under tasks.rows t kept in
    (st.kept_row t row at).depth ∙ sym (other.kept_row t row at).depth

pub depth_alike : (tasks : TasksView) (m : ℕ) (h g : List Event) → TasksStand tasks h → TasksStand tasks g → m < task_members tasks → depth_of (executed_task m h) h ≡ depth_of (executed_task m g) g
depth_alike tasks m h g st other low =
    task_depth_alike tasks (executed_task m h) h g st other (executed_tasks_are_kept tasks h m low st)
    ∙ ap (λ (p : Task). depth_of p g) (executed_alike tasks m h g st other low)

-- Groups

pub over_alike : (groups : GroupsView) (p : Task) (h g : List Event) → GroupsStand groups h → GroupsStand groups g → IsSeated groups p → groups_over p h ≡ groups_over p g
over_alike groups p h g st other seated = chain_unique groups.groups (seat_at groups.tasks groups.members p).around (groups_over p h) (groups_over p g) (st.around p seated) (other.around p seated)

pub within_alike : (groups : GroupsView) (p : Task) (h g : List Event) → GroupsStand groups h → GroupsStand groups g → IsSeated groups p → groups_within p h ≡ groups_within p g
within_alike groups p h g st other seated = chain_unique groups.groups (seat_at groups.tasks groups.members p).last (groups_within p h) (groups_within p g) (st.last p seated) (other.last p seated)

some_by_first : (qs rs : List ℕ) → first_in qs ≡ first_in rs → has_some qs ≡ has_some rs
some_by_first [] [] e = refl
some_by_first [] (r ∷ rs) e = absurd (cc)
some_by_first (q ∷ qs) [] e = absurd (cc)
some_by_first (q ∷ qs) (r ∷ rs) e = refl

pub open_alike : (groups : GroupsView) (p : Task) (h g : List Event) → GroupsStand groups h → GroupsStand groups g → IsSeated groups p → has_some (open_groups p h) ≡ has_some (open_groups p g)
open_alike groups p h g st other seated =
    let seat = seat_at groups.tasks groups.members p in
    some_by_first (open_groups p h) (open_groups p g) (sym (open_read groups.groups groups.tasks groups.members p seat h st seated refl) ∙ open_read groups.groups groups.tasks groups.members p seat g other seated refl)

-- Barriers

pub barrier_alike : (barriers : BarriersView) (m : ℕ) (h g : List Event) → BarriersStand barriers h → BarriersStand barriers g → m < barrier_members barriers → barrier_seen m h ≡ barrier_seen m g
barrier_alike barriers m h g st other low =
    let (seat, at) = some_item barriers.seats m low in
    sym (look_is barriers.seats barriers.front barriers.tasks barriers.cancelled m seat h st at) ∙ look_is barriers.seats barriers.front barriers.tasks barriers.cancelled m seat g other at

pub waits_alike : (barriers : BarriersView) (m : ℕ) (h g : List Event) → BarriersStand barriers h → BarriersStand barriers g → m < barrier_members barriers → at_barrier m h ≡ at_barrier m g
waits_alike barriers m h g st other low =
    let (seat, at) = some_item barriers.seats m low in
    sym (waits_is barriers.seats barriers.front barriers.tasks barriers.cancelled m seat h st at) ∙ waits_is barriers.seats barriers.front barriers.tasks barriers.cancelled m seat g other at

pub came_alike : (barriers : BarriersView) (m : ℕ) (h g : List Event) → BarriersStand barriers h → BarriersStand barriers g → m < barrier_members barriers → at_region_end m h ≡ at_region_end m g
came_alike barriers m h g st other low =
    comes_to_end m h (same_arrivals (barrier_members barriers) h st.rule) ∙ ap (λ (seen : AtBarrier). seen.left || was_region_end seen.arrived) (barrier_alike barriers m h g st other low) ∙ sym (comes_to_end m g (same_arrivals (barrier_members barriers) g other.rule))

-- Cancellation

pub cancelled_alike : (cancelled : CancelView) (h g : List Event) → CancelStands cancelled h → CancelStands cancelled g → is_cancelled h ≡ is_cancelled g
cancelled_alike cancelled h g st other = st.region ∙ sym other.region

pub some_cancelled_alike : (cancelled : CancelView) (qs : List ℕ) (h g : List Event) → CancelStands cancelled h → CancelStands cancelled g → some_cancelled qs h ≡ some_cancelled qs g
some_cancelled_alike cancelled qs h g st other = sym (marks_tell cancelled h qs st) ∙ marks_tell cancelled g qs other

pub covered_alike : (cancelled : CancelView) (groups : GroupsView) (p : Task) (h g : List Event) → CancelStands cancelled h → CancelStands cancelled g → GroupsStand groups h → GroupsStand groups g → IsSeated groups p → would_be_covered p h ≡ would_be_covered p g
covered_alike cancelled groups p h g st other groups_st groups_other seated =
    ap (λ (b : Bool). b || some_cancelled (groups_within p h) h) (cancelled_alike cancelled h g st other)
    ∙ ap (λ (qs : List ℕ). is_cancelled g || some_cancelled qs h) (within_alike groups p h g groups_st groups_other seated)
    ∙ ap (λ (b : Bool). is_cancelled g || b) (some_cancelled_alike cancelled (groups_within p g) h g st other)

-- Together

-- two lists of events say alike what the tests of a member's operation ask
pub record AreAskedAlike (m : ℕ) (h g : List Event) : Type 0 where
  pub left : has_left_region m h ≡ has_left_region m g
  pub clash : clash_of h ≡ clash_of g
  pub waits : at_barrier m h ≡ at_barrier m g
  pub came : at_region_end m h ≡ at_region_end m g
  -- with which tag others have arrived at the member's next barrier
  pub tag : tag_at (barriers_passed m h) h ≡ tag_at (barriers_passed m g) g
  pub cancelled : is_cancelled h ≡ is_cancelled g
  pub inside : in_task m h ≡ in_task m g
  pub depth : depth_of (executed_task m h) h ≡ depth_of (executed_task m g) g
  pub created : tasks_created h ≡ tasks_created g
  pub opened : group_is_open m h ≡ group_is_open m g
  -- whether the end of a group waits for its task
  pub around : has_some (groups_over (executed_task m h) h) ≡ has_some (groups_over (executed_task m g) g)
  pub covered : creates_covered m h ≡ creates_covered m g

pub asked_alike : (tasks : TasksView) (groups : GroupsView) (barriers : BarriersView) (cancelled : CancelView) (clash : Option Clash) (m : ℕ) (h g : List Event) → TasksStand tasks h → TasksStand tasks g → GroupsStand groups h → GroupsStand groups g →
    BarriersStand barriers h → BarriersStand barriers g → CancelStands cancelled h → CancelStands cancelled g → clash_of h ≡ clash → clash_of g ≡ clash → m < task_members tasks → m < group_members groups → m < barrier_members barriers → AreAskedAlike m h g
asked_alike tasks groups barriers cancelled clash m h g tasks_h tasks_g groups_h groups_g barriers_h barriers_g cancelled_h cancelled_g clash_h clash_g low within there =
    let task : executed_task m h ≡ executed_task m g = executed_alike tasks m h g tasks_h tasks_g low in
    let seated : IsSeated groups (executed_task m g) = executed_is_seated groups g m within groups_g in
    let seen : barrier_seen m h ≡ barrier_seen m g = barrier_alike barriers m h g barriers_h barriers_g there in
    record {
      left = ap (λ (s : AtBarrier). s.left) seen;
      clash = clash_h ∙ sym clash_g;
      waits = waits_alike barriers m h g barriers_h barriers_g there;
      came = came_alike barriers m h g barriers_h barriers_g there;
      tag = ap (λ (s : AtBarrier). s.tag) seen;
      cancelled = cancelled_alike cancelled h g cancelled_h cancelled_g;
      inside = ap (of_explicit (λ t. true)) task;
      depth = depth_alike tasks m h g tasks_h tasks_g low;
      created = alike_created tasks h g tasks_h tasks_g;
      opened = ap (λ (p : Task). has_some (open_groups p h)) task ∙ open_alike groups (executed_task m g) h g groups_h groups_g seated;
      around = ap (λ (p : Task). has_some (groups_over p h)) task ∙ ap has_some (over_alike groups (executed_task m g) h g groups_h groups_g seated);
      covered = ap (λ (p : Task). would_be_covered p h) task ∙ covered_alike cancelled groups (executed_task m g) h g cancelled_h cancelled_g groups_h groups_g seated;
    }
