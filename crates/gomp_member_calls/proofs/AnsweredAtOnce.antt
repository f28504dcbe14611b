-- Why these calls have one form: by its row none of them may be answered to wait, of any member, past and argument.
use Rattle.std.specs.Prelude.{ℕ, Bool, List, Option, Some, None}
use Rattle.gomp_types.specs.declared.cancel.CancelKind.{CancelKind}
use Rattle.gomp_types.specs.declared.lock.Held.{Held}
use Rattle.gomp_types.specs.declared.lock.LockKind.{LockKind}
use Rattle.gomp_types.specs.declared.reply.Reply.TheVariants.{Wait}
use Rattle.gomp_types.specs.declared.shape.Shape.{Shape}
use Rattle.gomp_types.specs.declared.task.Task.{Task}
use Rattle.gomp_types.specs.declared.task.Task.TheVariants.{Implicit, Explicit}
use Rattle.gomp_types.specs.declared.task.Owner.{Owner}
use Rattle.gomp_events.specs.declared.event.Event.{Event}
use Rattle.gomp_events.specs.Events.{open_share}
use Rattle.gomp_events.specs.TaskCalls.{EndsTask}
use Rattle.gomp_events.specs.Tasks.{executed_task}
use Rattle.gomp_shares.specs.Sections.{DealsSections}
use Rattle.gomp_locks.specs.Holders.{asker, found_lock}
use Rattle.gomp_locks.specs.Locks.{TestsLock, TestsNest, UnsetsNest}
use Rattle.gomp_types.specs.declared.lock.LockKind.TheVariants.{Simple, Nest}
use Rattle.gomp_model.specs.Past.{Past}
use Rattle.gomp_model.specs.Row.{Row, MayGive, begun_past}
use Rattle.gomp_model.specs.Calls.{stop_row}
use Rattle.gomp_model.specs.Cancels.{cancel_row, point_row}
use Rattle.gomp_model.specs.CriticalNames.{critical_end_row}
use Rattle.gomp_model.specs.Locks.{init_row, destroy_row, test_row, unset_row, test_nest_row, unset_nest_row}
use Rattle.gomp_model.specs.Loops.{loop_end_nowait_row}
use Rattle.gomp_model.specs.OrderedParts.{ordered_end_row}
use Rattle.gomp_model.specs.Sections.{sections_next_row, sections_end_nowait_row}
use Rattle.gomp_model.specs.Singles.{single_copy_end_row}
use Rattle.gomp_model.specs.Tasks.{task_end_row, group_start_row}

-- no call of this row may be answered to wait
abbrev pub NeverWaits : Row → Type 0
NeverWaits row = (m : ℕ) (p : Past) → row.may_reply m p Wait → ⊥

-- so none is, made or repeated
pub no_wait_is_given : (row : Row) (repeated : Bool) (m : ℕ) (p : Past) → NeverWaits row → MayGive row repeated m p Wait → ⊥
no_wait_is_given row repeated m p never waits = never m (begun_past repeated row m p) waits

-- Work-shares

pub loop_end_nowait_never_waits : NeverWaits loop_end_nowait_row
loop_end_nowait_never_waits m p waits = absurd (cc)

no_section_is_a_wait : (members m : ℕ) (share : Option (ℕ × Shape)) (h : List Event) → DealsSections members m share Wait h → ⊥
no_section_is_a_wait members m None h deals = deals
no_section_is_a_wait members m (Some share) h deals = deals

pub sections_next_never_waits : NeverWaits sections_next_row
sections_next_never_waits m p waits = no_section_is_a_wait p.terms.members m (open_share m p.events) p.events waits

pub sections_end_nowait_never_waits : NeverWaits sections_end_nowait_row
sections_end_nowait_never_waits m p waits = absurd (cc)

pub single_copy_end_never_waits : (words : List ℕ) → NeverWaits (single_copy_end_row words)
single_copy_end_never_waits words m p waits = absurd (cc)

pub ordered_end_never_waits : NeverWaits ordered_end_row
ordered_end_never_waits m p waits = absurd (cc)

-- Names and locks

pub critical_end_never_waits : (name : List ℕ) → NeverWaits (critical_end_row name)
critical_end_never_waits name m p waits = absurd (cc)

pub lock_init_never_waits : (kind : LockKind) → NeverWaits (init_row kind)
lock_init_never_waits kind m p waits = waits

pub lock_destroy_never_waits : (number : ℕ) → NeverWaits (destroy_row number)
lock_destroy_never_waits number m p waits = absurd (cc)

no_test_is_a_wait : (found : Option (Option Held)) → TestsLock found Wait → ⊥
no_test_is_a_wait None tests = tests
no_test_is_a_wait (Some held) tests = tests

pub test_never_waits : (number : ℕ) → NeverWaits (test_row number)
test_never_waits number m p waits = no_test_is_a_wait (found_lock Simple number p.locks p.events) waits

pub unset_never_waits : (number : ℕ) → NeverWaits (unset_row number)
unset_never_waits number m p waits = absurd (cc)

no_nest_test_is_a_wait : (owner : Owner) (found : Option (Option Held)) → TestsNest owner found Wait → ⊥
no_nest_test_is_a_wait owner None tests = tests
no_nest_test_is_a_wait owner (Some held) tests = tests

pub test_nest_never_waits : (number : ℕ) → NeverWaits (test_nest_row number)
test_nest_never_waits number m p waits = no_nest_test_is_a_wait (asker m p.events) (found_lock Nest number p.locks p.events) waits

no_nest_unset_is_a_wait : (owner : Owner) (found : Option (Option Held)) → UnsetsNest owner found Wait → ⊥
no_nest_unset_is_a_wait owner None unsets = unsets
no_nest_unset_is_a_wait owner (Some held) unsets = unsets

pub unset_nest_never_waits : (number : ℕ) → NeverWaits (unset_nest_row number)
unset_nest_never_waits number m p waits = no_nest_unset_is_a_wait (asker m p.events) (found_lock Nest number p.locks p.events) waits

-- Tasks, cancellation and the stop

no_task_end_is_a_wait : (task : Task) (h : List Event) → EndsTask task h Wait → ⊥
no_task_end_is_a_wait (Implicit m) h ends = ends
no_task_end_is_a_wait (Explicit t) h ends = absurd (cc)

pub task_end_never_waits : NeverWaits task_end_row
task_end_never_waits m p waits = no_task_end_is_a_wait (executed_task m p.events) p.events waits

pub group_start_never_waits : NeverWaits group_start_row
group_start_never_waits m p waits = absurd (cc)

pub cancel_never_waits : (kind : CancelKind) (clause : Bool) → NeverWaits (cancel_row kind clause)
cancel_never_waits kind clause m p waits = absurd (cc)

pub point_never_waits : (kind : CancelKind) → NeverWaits (point_row kind)
point_never_waits kind m p waits = absurd (cc)

pub stop_never_waits : NeverWaits stop_row
stop_never_waits m p waits = absurd (cc)
