-- The rows of the calls on tasks and groups. OpenMP API 5.2, chapter 12 and sections 15.4, 15.5 and 15.9.5.
use Rattle.std.specs.Prelude.{not, Bool, true, false, List, Some}
use Rattle.gomp_types.specs.declared.depend.Dep.{Dep}
use Rattle.gomp_types.specs.declared.task.TaskDesc.{TaskDesc}
use Rattle.gomp_types.specs.declared.reply.Reply.{Reply}
use Rattle.gomp_types.specs.declared.reply.Reply.TheVariants.{Dropped}
use Rattle.gomp_events.specs.Tasks.{executed_task}
use Rattle.gomp_events.specs.TaskCalls.{items_tests, create_tests, end_task_tests, end_group_tests, EndsTask, AwaitsChildren, AwaitsGroup, starts_task, ends_task, waited, opens_group, ends_group}
use Rattle.gomp_events.specs.declared.room.TheConstants.{TASK_ROOM, GROUP_ROOM}
use Rattle.gomp_events.specs.Cancels.{leaves_task}
use Rattle.gomp_events.specs.CancelCalls.{creates_covered, creates_uncovered, CreatesOrDrops}
use Rattle.gomp_locks.specs.CriticalNames.{critical_tests}
use Rattle.gomp_locks.specs.Holders.{asker, holds_critical}
use Rattle.gomp_model.specs.Row.{Row, plain_row}

-- whether a task was dropped
abbrev pub is_dropped : Reply → Bool
is_dropped Dropped = true
is_dropped _ = false

-- the creation of a task in the member's current one, which starts it if it is undeferred, or runs others until it may; it asks for the room of its events. One that a cancellation would reach is dropped
abbrev pub task_create_row : TaskDesc → Row
task_create_row desc = record plain_row {
  by_task = λ m p. create_tests p.terms.limits desc.deps m p.events;
  room = TASK_ROOM;
  keeps_room = λ reply. not (is_dropped reply);
  drops = λ m p. creates_covered m p.events;
  creates = Some desc;
  begins = λ m p. creates_uncovered m desc p.events;
  may_reply = λ m p reply. CreatesOrDrops m p.events reply;
  gives = λ m p reply. starts_task m reply;
}

-- the end of the task that the member executes, which a member that leaves the task may call; a task does not end while it holds a critical name
abbrev pub task_end_row : Row
task_end_row = record plain_row {
  by_task = λ m p. end_task_tests (leaves_task m p.events) m p.events;
  lets_leave = leaves_task;
  by_team = λ m p. critical_tests (holds_critical (asker m p.events) p.events);
  may_reply = λ m p reply. EndsTask (executed_task m p.events) p.events reply;
  gives = λ m p reply. ends_task m reply;
}

-- a wait for the children of the member's current task, or with items for those for which a child with these items waits, at which tasks are run
abbrev pub taskwait_row : List Dep → Row
taskwait_row items = record plain_row {
  by_task = λ m p. items_tests items;
  may_reply = λ m p reply. AwaitsChildren m items p.events reply;
  gives = λ m p reply. waited m items reply;
}

-- the start of a group in that task; it asks for the room of its events
abbrev pub group_start_row : Row
group_start_row = record plain_row {
  room = GROUP_ROOM;
  gives = λ m p reply. opens_group m p.events reply;
}

-- the end of its last open group, at which tasks are run
abbrev pub group_end_row : Row
group_end_row = record plain_row {
  by_task = λ m p. end_group_tests m p.events;
  may_reply = λ m p reply. AwaitsGroup m p.events reply;
  gives = λ m p reply. ends_group m p.events reply;
}
