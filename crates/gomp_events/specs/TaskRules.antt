-- When tasks and groups may be created, started and ended, given the events before. OpenMP API 5.2, chapter 12 and section 15.4.
use Rattle.std.specs.Prelude.{ℕ, ◌<◌, ◌≡◌, true, false, List, ◌∷◌}
use Rattle.std.proofs.Common.{suc}
use Rattle.gomp_types.specs.declared.task.Task.{Task}
use Rattle.gomp_types.specs.declared.task.Task.TheVariants.{Explicit}
use Rattle.gomp_types.specs.declared.depend.Dep.{Dep}
use Rattle.gomp_types.specs.declared.limits.TheConstants.{MAX_TASK_DEPTH}
use Rattle.gomp_events.specs.declared.event.Event.{Event}
use Rattle.gomp_events.specs.declared.event.Event.TheVariants.{Create, Start, Done, Discard, Group, GroupEnd, Waited}
use Rattle.gomp_events.specs.Events.{at_barrier}
use Rattle.gomp_events.specs.Tasks.{tasks_created, executed_task, in_task, depth_of, is_undeferred}
use Rattle.gomp_events.specs.Groups.{groups_opened, open_groups, group_complete}
use Rattle.gomp_events.specs.Goals.{is_unstarted, may_start, is_own, taskwait_met}
use Rattle.gomp_events.specs.Cancels.{is_covered, would_be_covered}

-- a member of the team creates the next task in the one that it executes, which is not the deepest; in its implicit task it does so only while it does not wait at a barrier
pub record MayCreate (members t m : ℕ) (parent : Task) (earlier : List Event) : Type 0 where
  pub member : m < members
  pub number : t ≡ suc (tasks_created earlier)
  pub current : parent ≡ executed_task m earlier
  pub away : in_task m earlier ≡ false → at_barrier m earlier ≡ false
  pub shallow : depth_of parent earlier < MAX_TASK_DEPTH
  -- nor is anything cancelled that would reach it
  pub uncovered : would_be_covered parent earlier ≡ false

-- a member of the team starts a task that it may start; an undeferred one only if the member created it, in the task that it executes
pub record MayStart (members t m : ℕ) (earlier : List Event) : Type 0 where
  pub member : m < members
  pub may : may_start m t earlier ≡ true
  pub own : is_undeferred t earlier ≡ true → is_own m t earlier ≡ true

-- it ends the task that it executes
pub record MayEnd (members t m : ℕ) (earlier : List Event) : Type 0 where
  pub member : m < members
  pub current : executed_task m earlier ≡ Explicit t

-- a task is discarded that nobody has started, and that a cancellation reaches
pub record MayDiscard (members t m : ℕ) (earlier : List Event) : Type 0 where
  pub member : m < members
  pub unstarted : is_unstarted t earlier ≡ true
  pub covered : is_covered t earlier ≡ true

-- it opens the next group
pub record MayOpenGroup (members q m : ℕ) (earlier : List Event) : Type 0 where
  pub member : m < members
  pub number : q ≡ groups_opened earlier

-- it ends the last open group of the task that it executes, whose tasks are complete
pub record MayEndGroup (members q m : ℕ) (earlier : List Event) : Type 0 where
  pub member : m < members
  pub outer : List ℕ
  pub last : open_groups (executed_task m earlier) earlier ≡ q ∷ outer
  pub complete : group_complete q earlier ≡ true

-- its task waited for its children, with items for those for which a child with them waits
pub record MayEndTaskwait (members m : ℕ) (items : List Dep) (earlier : List Event) : Type 0 where
  pub member : m < members
  pub complete : taskwait_met (executed_task m earlier) items earlier ≡ true

-- the rule of tasks and groups
abbrev pub TaskRule : ℕ → Event → List Event → Type 0
TaskRule members (Create t m parent desc) earlier = MayCreate members t m parent earlier
TaskRule members (Start t m) earlier = MayStart members t m earlier
TaskRule members (Done t m) earlier = MayEnd members t m earlier
TaskRule members (Discard t m) earlier = MayDiscard members t m earlier
TaskRule members (Group q m) earlier = MayOpenGroup members q m earlier
TaskRule members (GroupEnd q m) earlier = MayEndGroup members q m earlier
TaskRule members (Waited m items) earlier = MayEndTaskwait members m items earlier
TaskRule members _ earlier = Unit {0}
