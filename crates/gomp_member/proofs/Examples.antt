-- What a member knows of itself after short lists of calls and their replies.
use Rattle.std.proofs.Common.{◌≡◌, ℕ, true, false, List, [], ◌∷◌, Some, None, refl}
use Rattle.gomp_types.specs.declared.call.Call.{Call}
use Rattle.gomp_types.specs.declared.call.Call.TheVariants.{Barrier, CriticalStart, CriticalEnd, RegionEnd, LoopEnd, LoopEndCancel, SectionsEnd, TaskCreate, TaskEnd, GroupEnd, Cancel, Point, Resume, Stop}
use Rattle.gomp_types.specs.declared.cancel.CancelKind.TheVariants.{Parallel, Loop, Sections, Taskgroup}
use Rattle.gomp_types.specs.declared.critical_name.CriticalName.{CriticalName}
use Rattle.gomp_types.specs.declared.refusal.Refusal.{Refusal}
use Rattle.gomp_types.specs.declared.reply.Reply.{Reply}
use Rattle.gomp_types.specs.declared.reply.Reply.TheVariants.{Finished, Passed, Cancelled, Wait, Cancelling, Run, TaskDone, Refused, Stopped}
use Rattle.gomp_types.specs.declared.task.Task.TheVariants.{Implicit, Explicit}
use Rattle.gomp_types.specs.declared.task.TaskDesc.{TaskDesc}
use Rattle.gomp_member.specs.Own.{OwnView, new_member, own_task, own_owner, own_after}

-- a member after these calls and their replies, the first one first
abbrev after_each : List (Call × Reply) → OwnView → OwnView
after_each [] own = own
after_each (pair ∷ later) own = after_each later (own_after pair.1 pair.0 own)

-- A barrier

-- it waits there
pub barrier_is_waited_for : (team m : ℕ) → after_each ((Barrier, Wait) ∷ []) (new_member team m) ≡ record (new_member team m) { waits = record { open_call = Some Barrier; beneath = [] } }
barrier_is_waited_for team m = refl

-- executes a task meanwhile
pub task_is_run_above_the_barrier : (team m task code arg : ℕ) → after_each ((Barrier, Wait) ∷ (Resume, Run task code arg false) ∷ []) (new_member team m)
    ≡ record (new_member team m) { waits = record { open_call = None; beneath = Barrier ∷ [] }; tasks = task ∷ [] }
task_is_run_above_the_barrier team m task code arg = refl

-- waits again when that has ended
pub barrier_is_waited_for_again : (team m task code arg : ℕ) → after_each ((Barrier, Wait) ∷ (Resume, Run task code arg false) ∷ (TaskEnd, TaskDone task true) ∷ []) (new_member team m)
    ≡ record (new_member team m) { waits = record { open_call = Some Barrier; beneath = [] } }
barrier_is_waited_for_again team m task code arg = refl

-- and goes on as it came
pub member_goes_on_after_the_barrier : (team m task code arg : ℕ) → after_each ((Barrier, Wait) ∷ (Resume, Run task code arg false) ∷ (TaskEnd, TaskDone task true) ∷ (Resume, Wait) ∷ (Resume, Passed) ∷ []) (new_member team m) ≡ new_member team m
member_goes_on_after_the_barrier team m task code arg = refl

-- The region's end

pub member_ends_its_region : (team m : ℕ) → after_each ((RegionEnd, Wait) ∷ (Resume, Passed) ∷ []) (new_member team m) ≡ record (new_member team m) { ended = true }
member_ends_its_region team m = refl

pub member_ends_its_region_at_once : (team m : ℕ) → after_each ((RegionEnd, Passed) ∷ []) (new_member team m) ≡ record (new_member team m) { ended = true }
member_ends_its_region_at_once team m = refl

pub member_at_the_end_is_inside : (team m : ℕ) → (after_each ((RegionEnd, Wait) ∷ []) (new_member team m)).ended ≡ false
member_at_the_end_is_inside team m = refl

-- a stop ends no region, and closes the wait
pub stop_closes_the_wait : (team m : ℕ) → after_each ((Barrier, Wait) ∷ (Stop, Stopped) ∷ []) (new_member team m) ≡ new_member team m
stop_closes_the_wait team m = refl

-- Shares

-- a loop is cancelled, and left by its end
pub loop_is_left_once_cancelled : (team m : ℕ) → after_each ((Cancel Loop true, Cancelling true) ∷ []) (new_member team m) ≡ record (new_member team m) { leaves_share = true }
loop_is_left_once_cancelled team m = refl

pub loop_is_left : (team m : ℕ) → after_each ((Cancel Loop true, Cancelling true) ∷ (LoopEndCancel, Wait) ∷ (Resume, Passed) ∷ []) (new_member team m) ≡ new_member team m
loop_is_left team m = refl

-- so are sections, which a cancellation point finds cancelled
pub sections_are_left_once_cancelled : (team m : ℕ) → after_each ((Point Sections, Cancelling true) ∷ []) (new_member team m) ≡ record (new_member team m) { leaves_share = true }
sections_are_left_once_cancelled team m = refl

pub sections_are_left : (team m : ℕ) → after_each ((Point Sections, Cancelling true) ∷ (SectionsEnd, Passed) ∷ []) (new_member team m) ≡ new_member team m
sections_are_left team m = refl

-- an end that is refused leaves nothing
pub refused_end_leaves_no_share : (team m : ℕ) (refusal : Refusal) → after_each ((Cancel Loop true, Cancelling true) ∷ (LoopEnd, Refused refusal) ∷ []) (new_member team m) ≡ record (new_member team m) { leaves_share = true }
refused_end_leaves_no_share team m refusal = refl

-- a construct that finds nothing cancelled changes nothing
pub nothing_is_left_uncancelled : (team m : ℕ) → after_each ((Cancel Loop false, Cancelling false) ∷ (Point Parallel, Cancelling false) ∷ []) (new_member team m) ≡ new_member team m
nothing_is_left_uncancelled team m = refl

-- The region and a task

pub cancelled_region_is_left : (team m : ℕ) → after_each ((Barrier, Cancelled) ∷ []) (new_member team m) ≡ record (new_member team m) { leaving = record { region = true; task = false } }
cancelled_region_is_left team m = refl

-- its task is left till that ends
pub cancelled_task_is_left : (team m task code arg : ℕ) → after_each ((Barrier, Run task code arg false) ∷ (Cancel Taskgroup true, Cancelling true) ∷ []) (new_member team m)
    ≡ record (new_member team m) { waits = record { open_call = None; beneath = Barrier ∷ [] }; tasks = task ∷ []; leaving = record { region = false; task = true } }
cancelled_task_is_left team m task code arg = refl

pub ended_task_is_left_no_more : (team m task code arg : ℕ) → after_each ((Barrier, Run task code arg false) ∷ (Cancel Taskgroup true, Cancelling true) ∷ (TaskEnd, TaskDone task true) ∷ []) (new_member team m)
    ≡ record (new_member team m) { waits = record { open_call = Some Barrier; beneath = [] } }
ended_task_is_left_no_more team m task code arg = refl

-- Tasks in tasks

pub inner_task_is_run_above_the_outer_one : (team m one two code arg : ℕ) → after_each ((Barrier, Run one code arg false) ∷ (GroupEnd, Wait) ∷ (Resume, Run two code arg false) ∷ []) (new_member team m)
    ≡ record (new_member team m) { waits = record { open_call = None; beneath = GroupEnd ∷ Barrier ∷ [] }; tasks = two ∷ one ∷ [] }
inner_task_is_run_above_the_outer_one team m one two code arg = refl

pub outer_task_waits_again : (team m one two code arg : ℕ) → after_each ((Barrier, Run one code arg false) ∷ (GroupEnd, Wait) ∷ (Resume, Run two code arg false) ∷ (TaskEnd, TaskDone two true) ∷ []) (new_member team m)
    ≡ record (new_member team m) { waits = record { open_call = Some GroupEnd; beneath = Barrier ∷ [] }; tasks = one ∷ [] }
outer_task_waits_again team m one two code arg = refl

pub both_tasks_are_ended : (team m one two code arg : ℕ) → after_each ((Barrier, Run one code arg false) ∷ (GroupEnd, Wait) ∷ (Resume, Run two code arg false) ∷ (TaskEnd, TaskDone two true) ∷ (Resume, Passed) ∷ (TaskEnd, TaskDone one true) ∷ (Resume, Passed) ∷ []) (new_member team m)
    ≡ new_member team m
both_tasks_are_ended team m one two code arg = refl

-- an undeferred task is run above no wait
pub undeferred_task_waits_for_nothing : (team m task code arg : ℕ) (desc : TaskDesc) → after_each ((TaskCreate desc, Run task code arg true) ∷ []) (new_member team m) ≡ record (new_member team m) { tasks = task ∷ [] }
undeferred_task_waits_for_nothing team m task code arg desc = refl

pub creator_goes_on : (team m task code arg : ℕ) (desc : TaskDesc) → after_each ((TaskCreate desc, Run task code arg true) ∷ (TaskEnd, TaskDone task false) ∷ []) (new_member team m) ≡ new_member team m
creator_goes_on team m task code arg desc = refl

-- A refusal

pub refused_barrier_changes_nothing : (team m : ℕ) (refusal : Refusal) → after_each ((Barrier, Refused refusal) ∷ (RegionEnd, Refused refusal) ∷ []) (new_member team m) ≡ new_member team m
refused_barrier_changes_nothing team m refusal = refl

pub refused_resume_waits_on : (team m : ℕ) (refusal : Refusal) → after_each ((Barrier, Wait) ∷ (Resume, Refused refusal) ∷ []) (new_member team m) ≡ record (new_member team m) { waits = record { open_call = Some Barrier; beneath = [] } }
refused_resume_waits_on team m refusal = refl

-- The task, and who asks

pub implicit_task_asks_first : (team m : ℕ) → own_owner (new_member team m) ≡ record { team = team; member = m; task = 0 }
implicit_task_asks_first team m = refl

pub started_task_asks : (team m task code arg : ℕ) → own_owner (after_each ((Barrier, Run task code arg false) ∷ []) (new_member team m)) ≡ record { team = team; member = m; task = task }
started_task_asks team m task code arg = refl

pub member_executes_its_implicit_task : (team m : ℕ) → own_task (new_member team m) ≡ Implicit m
member_executes_its_implicit_task team m = refl

pub member_executes_the_started_task : (team m task code arg : ℕ) → own_task (after_each ((Barrier, Run task code arg false) ∷ []) (new_member team m)) ≡ Explicit task
member_executes_the_started_task team m task code arg = refl

-- Names

-- a name is counted once it is entered, also after a wait, and until it is left
pub name_is_counted : (team m : ℕ) (name : CriticalName) → after_each ((CriticalStart name, Wait) ∷ (Resume, Finished) ∷ []) (new_member team m) ≡ record (new_member team m) { names = 1 }
name_is_counted team m name = refl

pub name_is_counted_until_it_is_left : (team m : ℕ) (one other : CriticalName) →
    after_each ((CriticalStart one, Finished) ∷ (CriticalStart other, Finished) ∷ (CriticalEnd other, Finished) ∷ (CriticalEnd one, Finished) ∷ []) (new_member team m) ≡ new_member team m
name_is_counted_until_it_is_left team m one other = refl

-- nobody is in a name that he waits for
pub awaited_name_is_not_counted : (team m : ℕ) (name : CriticalName) → (after_each ((CriticalStart name, Wait) ∷ []) (new_member team m)).names ≡ 0
awaited_name_is_not_counted team m name = refl
