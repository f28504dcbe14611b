-- What a wait waits for, and which tasks a member may start meanwhile. OpenMP API 5.2, sections 12.9 and 15.3 to 15.5.
use Rattle.std.specs.Prelude.{ℕ, ◌&&◌, ◌||◌, not, nat_le, if◌then◌else◌, Bool, true, List, [], ◌∷◌}
use Rattle.gomp_types.specs.declared.task.Task.{Task}
use Rattle.gomp_types.specs.declared.task.Task.TheVariants.{Implicit, Explicit}
use Rattle.gomp_types.specs.declared.depend.Dep.{Dep}
use Rattle.gomp_events.specs.declared.event.Event.{Event}
use Rattle.gomp_types.specs.Members.{every_member}
use Rattle.gomp_events.specs.Events.{barriers_passed, all_arrived, at_barrier, at_region_end, has_left_region}
use Rattle.gomp_events.specs.Tasks.{task_stack, executed_task, some_task, is_created, has_started, is_complete, all_complete, epoch, is_child, is_created_by, is_ancestor, is_undeferred}
use Rattle.gomp_events.specs.Depends.{taskwait_waits, is_free}
use Rattle.gomp_events.specs.Cancels.{is_cancelled, is_covered}

-- Goals

-- whether the tasks that are bound to this barrier, or to an earlier one, are complete
abbrev pub bound_complete : ℕ → List Event → Bool
bound_complete barrier h = all_complete (λ t. nat_le (epoch t h) barrier) h

-- whether a member that waits at the barrier may go on: every member has arrived there, and the tasks bound to it are complete
abbrev pub barrier_met : ℕ → ℕ → List Event → Bool
barrier_met members barrier h = all_arrived members barrier h && bound_complete barrier h

-- whether the region may end: every member has arrived at its end, and every task is complete
abbrev pub region_met : ℕ → List Event → Bool
region_met members h = every_member members (λ m. at_region_end m h) && all_complete (λ t. true) h

-- whether the member may pass the region's end: the region may end, and its barrier there is met, or the region is cancelled and the member has not left it (OpenMP API 5.2, section 16.1)
abbrev pub may_pass_end : ℕ → ℕ → List Event → Bool
may_pass_end members m h =
    region_met members h && (if is_cancelled h then not (has_left_region m h) else barrier_met members (barriers_passed m h) h)

-- whether the member may pass its next barrier: once it has arrived at the region's end, if it may pass that; before, if the barrier is met and the region is not cancelled
abbrev pub may_pass : ℕ → ℕ → List Event → Bool
may_pass members m h =
    if at_region_end m h then may_pass_end members m h
    else not (is_cancelled h) && barrier_met members (barriers_passed m h) h

-- what a taskwait in this task waits for: all its children are complete
abbrev pub children_complete : Task → List Event → Bool
children_complete p h = all_complete (λ t. is_child p t h) h

-- what a taskwait with these items waits for: all tasks for which it waits are complete
abbrev pub taskwait_met : Task → List Dep → List Event → Bool
taskwait_met p items h = all_complete (λ t. taskwait_waits p items t h) h

-- Tasks that may be started

-- whether the task was created, and is neither started nor complete
abbrev pub is_unstarted : ℕ → List Event → Bool
is_unstarted t h = is_created t h && (not (has_started t h) && not (is_complete t h))

-- whether it was, waits for no task that is not complete (OpenMP API 5.2, section 15.9.5), and no cancellation reaches it (section 16.1)
abbrev pub is_ready : ℕ → List Event → Bool
is_ready t h = is_unstarted t h && (is_free t h && not (is_covered t h))

-- whether a test holds of each of these tasks
abbrev pub each_of : (ℕ → Bool) → List ℕ → Bool
each_of test [] = true
each_of test (t ∷ ts) = test t && each_of test ts

-- whether the task descends from all that the member has started and not ended, and from its implicit task unless the member waits at a barrier (own: implicit tasks count)
abbrev pub may_descend : ℕ → ℕ → List Event → Bool
may_descend m t h = each_of (λ s. is_ancestor (Explicit s) t h) (task_stack m h) && (at_barrier m h || is_ancestor (Implicit m) t h)

-- whether the member may start the task: it is ready, and descends so (OpenMP API 5.2, section 12.9)
abbrev pub may_start : ℕ → ℕ → List Event → Bool
may_start m t h = is_ready t h && may_descend m t h

-- whether the member created the task, in the one that it executes
abbrev pub is_own : ℕ → ℕ → List Event → Bool
is_own m t h = is_created_by m (executed_task m h) t h

-- whether the member may start the task at a wait: an undeferred one is started at its own creation alone
abbrev pub is_startable : ℕ → ℕ → List Event → Bool
is_startable m t h = not (is_undeferred t h) && may_start m t h

-- whether there is a task that the member may start at a wait
abbrev pub some_startable : ℕ → List Event → Bool
some_startable m h = some_task (λ t. is_startable m t h) h
