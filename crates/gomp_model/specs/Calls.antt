-- Each call's row: the one list of calls.
use Rattle.std.specs.Prelude.{ℕ, ◌≡◌, true, List, [], ◌∷◌}
use Rattle.gomp_types.specs.declared.call.Call.{Call}
use Rattle.gomp_types.specs.declared.call.Call.TheVariants.{LoopStart, LoopNext, LoopEnd, LoopEndNowait, LoopEndCancel, SectionsStart, SectionsNext, SectionsEnd, SectionsEndNowait, SectionsEndCancel, SingleStart, SingleCopyStart, SingleCopyEnd, OrderedStart, OrderedEnd, Barrier, RegionEnd, CriticalStart, CriticalEnd, LockInit, NestInit, LockDestroy, Set, Test as TestLock, Unset, SetNest, TestNest, UnsetNest, TaskCreate, TaskEnd, Taskwait, GroupStart, GroupEnd, Cancel, Point, Resume, Stop}
use Rattle.gomp_types.specs.declared.refusal.Refusal.TheVariants.{NotInside}
use Rattle.gomp_types.specs.declared.refusal.Place.TheVariants.{Stopped as AtStop}
use Rattle.gomp_types.specs.declared.reply.Reply.{Reply}
use Rattle.gomp_types.specs.declared.reply.Reply.TheVariants.{Stopped}
use Rattle.gomp_events.specs.declared.event.Event.{Event}
use Rattle.gomp_events.specs.declared.event.Event.TheVariants.{Break}
use Rattle.gomp_model.specs.Row.{Row, plain_row}
use Rattle.gomp_model.specs.Loops.{loop_start_row, loop_next_row, loop_end_row, loop_end_nowait_row, loop_end_cancel_row}
use Rattle.gomp_model.specs.Sections.{sections_start_row, sections_next_row, sections_end_row, sections_end_nowait_row, sections_end_cancel_row}
use Rattle.gomp_model.specs.Singles.{single_start_row, single_copy_start_row, single_copy_end_row}
use Rattle.gomp_model.specs.OrderedParts.{ordered_start_row, ordered_end_row}
use Rattle.gomp_model.specs.Arrivals.{barrier_row, region_end_row}
use Rattle.gomp_types.specs.declared.lock.LockKind.TheVariants.{Simple, Nest}
use Rattle.gomp_model.specs.CriticalNames.{critical_start_row, critical_end_row}
use Rattle.gomp_model.specs.Locks.{init_row, destroy_row, set_row, test_row, unset_row, set_nest_row, test_nest_row, unset_nest_row}
use Rattle.gomp_model.specs.Cancels.{cancel_row, point_row}
use Rattle.gomp_model.specs.Tasks.{task_create_row, task_end_row, taskwait_row, group_start_row, group_end_row}

-- a resume with no wait open is refused, and so has no other answer
abbrev pub resume_row : Row
resume_row = record plain_row { compared = λ repeated m p. (true, NotInside) ∷ []; may_reply = λ m p reply. ⊥ }

-- a member that stops the team breaks it
abbrev pub stop_given : ℕ → Reply → List Event
stop_given m Stopped = Break m AtStop ∷ []
stop_given m _ = []

-- a stop is answered so, and nothing else
abbrev pub stop_row : Row
stop_row = record plain_row { lets_leave = λ m h. true; may_reply = λ m p reply. reply ≡ Stopped; gives = λ m p reply. stop_given m reply }

-- the row of a call
abbrev pub row_of : Call → Row
row_of (LoopStart loop) = loop_start_row loop
row_of LoopNext = loop_next_row
row_of LoopEnd = loop_end_row
row_of LoopEndNowait = loop_end_nowait_row
row_of LoopEndCancel = loop_end_cancel_row
row_of (SectionsStart count end_kind) = sections_start_row count end_kind
row_of SectionsNext = sections_next_row
row_of SectionsEnd = sections_end_row
row_of SectionsEndNowait = sections_end_nowait_row
row_of SectionsEndCancel = sections_end_cancel_row
row_of SingleStart = single_start_row
row_of SingleCopyStart = single_copy_start_row
row_of (SingleCopyEnd payload) = single_copy_end_row payload
row_of (OrderedStart value) = ordered_start_row value
row_of OrderedEnd = ordered_end_row
row_of Barrier = barrier_row
row_of RegionEnd = region_end_row
row_of (CriticalStart name) = critical_start_row name
row_of (CriticalEnd name) = critical_end_row name
row_of LockInit = init_row Simple
row_of NestInit = init_row Nest
row_of (LockDestroy number) = destroy_row number
row_of (Set number) = set_row number
row_of (TestLock number) = test_row number
row_of (Unset number) = unset_row number
row_of (SetNest number) = set_nest_row number
row_of (TestNest number) = test_nest_row number
row_of (UnsetNest number) = unset_nest_row number
row_of (TaskCreate desc) = task_create_row desc
row_of TaskEnd = task_end_row
row_of (Taskwait items) = taskwait_row items
row_of GroupStart = group_start_row
row_of GroupEnd = group_end_row
row_of (Cancel kind clause) = cancel_row kind clause
row_of (Point kind) = point_row kind
row_of Stop = stop_row
row_of Resume = resume_row
