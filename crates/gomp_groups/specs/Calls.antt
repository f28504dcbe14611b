-- What the calls on a team's groups answer and when they may be made. OpenMP API 5.2, sections 15.4 and 15.5.
use Rattle.std.specs.Prelude.{ℕ, ◌<◌, ◌≤◌, ◌≡◌, ◌==◌, true, if◌then◌else◌, List, [], ◌∷◌, Option}
use Rattle.std.proofs.Common.{suc}
use Rattle.gomp_types.specs.declared.task.Task.{Task}
use Rattle.gomp_events.specs.declared.event.Event.{Event}
use Rattle.gomp_events.specs.declared.event.Event.TheVariants.{Create, Done, Discard, Group, GroupEnd}
use Rattle.gomp_events.specs.Tasks.{tasks_created, executed_task, contains}
use Rattle.gomp_events.specs.Groups.{open_groups}
use Rattle.gomp_events.specs.Cancels.{first_in}
use Rattle.gomp_events.specs.TaskRules.{TaskRule, MayCreate, MayEndGroup}

-- the last group that the task has opened and not ended
abbrev pub last_open : Task → List Event → Option ℕ
last_open task h = first_in (open_groups task h)

-- how many tasks were created before the group was opened; 0 if it was not
abbrev pub tasks_before : ℕ → List Event → ℕ
tasks_before q [] = 0
tasks_before q (Group group member ∷ earlier) = if group == q then tasks_created earlier else tasks_before q earlier
tasks_before q (_ ∷ earlier) = tasks_before q earlier

-- of these groups this one was opened last
abbrev pub IsLastOf : List ℕ → ℕ → Type 0
IsLastOf qs q = (contains q qs ≡ true) × ((other : ℕ) → contains other qs ≡ true → other ≤ q)

-- the member is of the team, and executes the task
pub record Executes (members m : ℕ) (task : Task) (h : List Event) : Type 0 where
  pub member : m < members
  pub current : executed_task m h ≡ task

-- it executes the task, whose last group it may end
pub record MayClose (members q m : ℕ) (task : Task) (h : List Event) : Type 0 where
  pub current : executed_task m h ≡ task
  pub rule : MayEndGroup members q m h

-- it may create the next task in this one
abbrev pub MayCreateIn : (members m : ℕ) → Task → List Event → Type 0
MayCreateIn members m parent h = MayCreate members (suc (tasks_created h)) m parent h

-- the task is complete after this: a member ended it, or a cancellation discarded it
abbrev pub Completes : ℕ → Event → Type 0
Completes t (Done task m) = task ≡ t
Completes t (Discard task m) = task ≡ t
Completes t _ = ⊥

-- the rule of tasks allows that
pub record MayComplete (members t : ℕ) (event : Event) (h : List Event) : Type 0 where
  pub completes : Completes t event
  pub rule : TaskRule members event h

-- an event that changes no group
abbrev pub IsNoGroupEvent : Event → Type 0
IsNoGroupEvent (Create t m parent desc) = ⊥
IsNoGroupEvent (Done t m) = ⊥
IsNoGroupEvent (Discard t m) = ⊥
IsNoGroupEvent (Group q m) = ⊥
IsNoGroupEvent (GroupEnd q m) = ⊥
IsNoGroupEvent _ = Unit {0}
