-- Worked runs of a team, step by step. (own)
use Rattle.std.specs.Prelude.{ℕ, ℤ, pos, negsuc, Result, true, false, List, [], ◌∷◌, ◌++◌, map}
use Rattle.gomp_types.specs.declared.call.Call.{Call}
use Rattle.gomp_types.specs.declared.call.Call.TheVariants.{LoopStart, LoopNext, LoopEnd, LoopEndNowait, Barrier, RegionEnd, Resume, Stop}
use Rattle.gomp_types.specs.declared.call.Step.{Step}
use Rattle.gomp_types.specs.declared.loop_desc.LoopDesc.{LoopDesc}
use Rattle.gomp_types.specs.declared.loop_desc.Sched.{Sched}
use Rattle.gomp_types.specs.declared.loop_desc.Sched.TheVariants.{Static, Dynamic, Guided, Runtime}
use Rattle.gomp_types.specs.declared.loop_desc.EndKind.{EndKind}
use Rattle.gomp_types.specs.declared.loop_desc.EndKind.TheVariants.{Wait as WaitEnd, Nowait}
use Rattle.gomp_types.specs.declared.refusal.Place.TheVariants.{Share, Barrier as AtBarrier, Stopped as AtStop}
use Rattle.gomp_types.specs.declared.refusal.Refusal.{Refusal}
use Rattle.gomp_types.specs.declared.refusal.Refusal.TheVariants.{BadMember, Ended, Broken, Waiting, Leaving, InsideTask, NotInTask, InsideShare, OutsideShare, InOrdered, HoldsCritical, ZeroStep, BadChunk, LoopTooLong, BadSections, OrderedLoop, EndDiffers, NotDrained, Drained, NotOrdered, OrderedBackwards, NotInside, NotCancellable, NoGroup, GroupOpen, TooDeep, TooManyTasks, NameTooLong, AlreadyHeld, NotHolder, NoLock, CountTooLarge, TooManyDepends, TooManyShares, Mismatch, TraceFull, NoMemory, BadTeam}
use Rattle.gomp_types.specs.declared.reply.Reply.{Reply}
use Rattle.gomp_types.specs.declared.reply.Reply.TheVariants.{Chunk, NoChunk, Section, Executor, Copied, Finished, Passed, Wait, Created, Run as RunTask, TaskDone, Lock, Got, Count, Stopped, Refused}
use Rattle.gomp_types.specs.Limits.{standard}
use Rattle.gomp_types.specs.Tests.{first_holding, outcome}
use Rattle.gomp_types.specs.Iterations.{trip_count, loop_tests}
use Rattle.gomp_events.specs.EventLists.{newest_first}
use Rattle.gomp_events.specs.declared.event.Event.{Event}
use Rattle.gomp_model.specs.Past.{Terms, Past}
use Rattle.gomp_model.specs.Team.{Record, Caused, before_all}

-- steps with their replies, the first one first
abbrev pub Run : Type 0
Run = List (Step × Reply)

-- the record of the run, after what was before
abbrev pub run_recorded : Run → Record → Record
run_recorded [] before = before
run_recorded (pair ∷ pairs) before = run_recorded pairs (pair ∷ before)

-- a team of this size, with the standard limits
abbrev pub team_of : ℕ → Terms
team_of members = record {
  members = members;
  limits = standard;
  cancellation = false;
}

-- each reply of the run has its cause
abbrev pub IsRunOf : Terms → Run → Type 0
IsRunOf terms run = Caused terms (run_recorded run [])

-- each reply of the run has its cause, in a team of this size with the standard limits
abbrev pub IsRun : ℕ → Run → Type 0
IsRun members run = IsRunOf (team_of members) run

-- answers to a call on a task
abbrev pub task_answers : List Reply
task_answers = Created 0 ∷ Created 1 ∷ RunTask 1 7 70 false ∷ RunTask 1 7 70 true ∷ TaskDone 1 true ∷ TaskDone 1 false ∷ []

-- answers to a call on a lock
abbrev pub lock_answers : List Reply
lock_answers = Lock 0 ∷ Lock 1 ∷ Got true ∷ Got false ∷ Count 0 ∷ Count 1 ∷ []

-- answers to a call on a task or a lock
abbrev pub later_answers : List Reply
later_answers = task_answers ++ lock_answers

-- answers to a call on a share, and of a barrier and a stop
abbrev pub share_answers : List Reply
share_answers = Chunk (pos 0) 1 ∷ NoChunk ∷ Section 0 ∷ Section 1 ∷ Executor true ∷ Executor false ∷ Copied [] ∷ Passed ∷ Stopped ∷ []

-- all refusals but want of memory, and but one with a cause or a word
abbrev pub all_refusals : List Reply
all_refusals =
    map Refused
    (BadMember ∷ Ended ∷ Waiting ∷ Leaving ∷ InsideTask ∷ NotInTask ∷ InsideShare ∷ OutsideShare ∷ InOrdered ∷ HoldsCritical ∷ ZeroStep ∷ BadChunk
    ∷ LoopTooLong ∷ BadSections ∷ OrderedLoop ∷ EndDiffers ∷ NotDrained ∷ Drained ∷ NotOrdered ∷ OrderedBackwards ∷ NotInside ∷ NotCancellable ∷ NoGroup ∷ GroupOpen
    ∷ TooDeep ∷ TooManyTasks ∷ NameTooLong ∷ AlreadyHeld ∷ NotHolder ∷ NoLock ∷ CountTooLarge ∷ TooManyDepends ∷ TooManyShares ∷ Mismatch ∷ TraceFull ∷ BadTeam ∷ [])

-- a team of this size in which these events happened, the oldest first, need it be one or not; nobody waits
abbrev pub past_with : ℕ → List Event → Past
past_with members happened = record (before_all (team_of members)) { events = newest_first happened [] }

-- the step in which a member makes this call
abbrev pub asks : ℕ → Call → Step
asks m call = record { member = m; call = call }

-- a dynamic loop of step 1
abbrev pub dynamic_loop : ℤ → ℤ → ℤ → EndKind → Call
dynamic_loop chunk start end end_kind =
    LoopStart (record { start = start; end = end; incr = pos 1; sched = Dynamic; chunk = chunk; ordered = false; end_kind = end_kind })

-- ten iterations in chunks of three
abbrev pub ten_by_three : Call
ten_by_three = dynamic_loop (pos 3) (pos 0) (pos 10) WaitEnd

-- a loop over a team of two, from its start to its barrier
abbrev pub loop_of_two : Run
loop_of_two =
    (asks 0 ten_by_three, Chunk (pos 0) 3)
    ∷ (asks 1 ten_by_three, Chunk (pos 3) 3)
    ∷ (asks 0 LoopNext, Chunk (pos 6) 3)
    ∷ (asks 1 LoopNext, Chunk (pos 9) 1)
    ∷ (asks 0 LoopNext, NoChunk)
    ∷ (asks 1 LoopNext, NoChunk)
    ∷ (asks 0 LoopEnd, Wait)
    ∷ (asks 1 LoopEnd, Passed)
    ∷ (asks 0 Resume, Passed)
    ∷ []

-- two loops without an iteration
abbrev pub empty_loops : Run
empty_loops =
    (asks 0 (dynamic_loop (pos 3) (pos 5) (pos 5) Nowait), NoChunk)
    ∷ (asks 0 LoopEndNowait, Finished)
    ∷ (asks 0 (dynamic_loop (pos 3) (pos 10) (pos 0) Nowait), NoChunk)
    ∷ (asks 0 LoopEndNowait, Finished)
    ∷ []

-- a loop whose end is asked for too early, and otherwise than it ends
abbrev pub refused_ends : Run
refused_ends =
    (asks 0 (dynamic_loop (pos 3) (pos 0) (pos 4) WaitEnd), Chunk (pos 0) 3)
    ∷ (asks 0 LoopEndNowait, Refused EndDiffers)
    ∷ (asks 0 LoopEnd, Refused NotDrained)
    ∷ (asks 0 LoopNext, Chunk (pos 3) 1)
    ∷ (asks 0 LoopNext, NoChunk)
    ∷ (asks 0 LoopNext, Refused Drained)
    ∷ (asks 0 LoopEnd, Passed)
    ∷ (asks 0 LoopNext, Refused OutsideShare)
    ∷ []

-- one iteration, no barrier
abbrev pub one_nowait : Call
one_nowait = dynamic_loop (pos 1) (pos 0) (pos 1) Nowait

-- a member goes through such a loop alone
abbrev pub loop_alone : Run
loop_alone = (asks 0 one_nowait, Chunk (pos 0) 1) ∷ (asks 0 LoopNext, NoChunk) ∷ (asks 0 LoopEndNowait, Finished) ∷ []

-- a member that is eight loops ahead of the other
abbrev pub eight_ahead : Run
eight_ahead =
    loop_alone ++ loop_alone ++ loop_alone ++ loop_alone ++ loop_alone ++ loop_alone ++ loop_alone ++ loop_alone

-- it has to wait at the ninth until the other has left the first
abbrev pub ninth_share : Run
ninth_share =
    eight_ahead
    ++ (asks 0 one_nowait, Wait)
    ∷ (asks 0 LoopNext, Refused Waiting)
    ∷ (asks 1 one_nowait, NoChunk)
    ∷ (asks 0 Resume, Wait)
    ∷ (asks 1 LoopEndNowait, Finished)
    ∷ (asks 0 Resume, Chunk (pos 0) 1)
    ∷ []

-- a team of one whose member may start one share
abbrev pub one_share : Terms
one_share = record {
  members = 1;
  limits = record { shares = 1; tasks = standard.tasks; events = standard.events };
  cancellation = false;
}

-- it may not start a second one
abbrev pub second_share : Run
second_share = loop_alone ++ (asks 0 one_nowait, Refused TooManyShares) ∷ []

-- a loop that is refused for itself
abbrev pub loop_by : ℤ → ℤ → ℤ → Call
loop_by incr end chunk =
    LoopStart (record { start = pos 0; end = end; incr = incr; sched = Dynamic; chunk = chunk; ordered = false; end_kind = WaitEnd })

-- a member alone in its team goes through a region, and asks what it may not
abbrev pub whole_region : Run
whole_region =
    (asks 1 Barrier, Refused BadMember)
    ∷ (asks 0 Resume, Refused NotInside)
    ∷ (asks 0 (loop_by (pos 0) (pos 4) (negsuc 0)), Refused ZeroStep)
    ∷ (asks 0 (loop_by (pos 1) (pos 4) (negsuc 0)), Refused BadChunk)
    ∷ (asks 0 (loop_by (pos 1) (pos 549755813889) (pos 1)), Refused LoopTooLong)
    ∷ (asks 0 (loop_by (pos 1) (pos 1) (pos 0)), Chunk (pos 0) 1)
    ∷ (asks 0 Barrier, Refused InsideShare)
    ∷ (asks 0 LoopNext, NoChunk)
    ∷ (asks 0 LoopEnd, Passed)
    ∷ (asks 0 Barrier, Refused NoMemory)
    ∷ (asks 0 Barrier, Passed)
    ∷ (asks 0 RegionEnd, Passed)
    ∷ (asks 0 Barrier, Refused Ended)
    ∷ []

-- the loop of all values of an i64, upwards
abbrev pub over_all_values : ℤ → LoopDesc
over_all_values incr = record { start = negsuc 9223372036854775807; end = pos 9223372036854775807; incr = incr; sched = Dynamic; chunk = pos 0; ordered = false; end_kind = WaitEnd }

-- and downwards
abbrev pub down_all_values : ℤ → LoopDesc
down_all_values incr = record { start = pos 9223372036854775807; end = negsuc 9223372036854775807; incr = incr; sched = Dynamic; chunk = pos 0; ordered = false; end_kind = WaitEnd }

-- a loop of step 1 from 0 to this end, with this chunk
abbrev pub up_to : ℤ → ℤ → LoopDesc
up_to end chunk = record (over_all_values (pos 1)) { start = pos 0; end = end; chunk = chunk }

-- what becomes of a loop: its number of iterations, or why it is refused
abbrev pub trips_of : LoopDesc → Result ℕ Refusal
trips_of loop = outcome (first_holding (loop_tests loop)) (trip_count loop)

-- of a loop's end only the number of iterations is compared: these two have four each
abbrev pub by_threes : ℤ → Call
by_threes end =
    LoopStart (record { start = pos 0; end = end; incr = pos 3; sched = Dynamic; chunk = pos 1; ordered = false; end_kind = Nowait })

-- so neither member breaks the team
abbrev pub other_end_values : Run
other_end_values = (asks 0 (by_threes (pos 10)), Chunk (pos 0) 1) ∷ (asks 1 (by_threes (pos 12)), Chunk (pos 3) 1) ∷ []

-- a member whose loop has another chunk breaks the team
abbrev pub differing_loop : Run
differing_loop =
    (asks 0 ten_by_three, Chunk (pos 0) 3)
    ∷ (asks 1 (dynamic_loop (pos 2) (pos 0) (pos 10) WaitEnd), Refused Mismatch)
    ∷ (asks 0 LoopNext, Refused (Broken (record { member = 1; place = Share 0 })))
    ∷ (asks 1 RegionEnd, Refused (Broken (record { member = 1; place = Share 0 })))
    ∷ []

-- and so does one that ends the region if another waits at a barrier
abbrev pub differing_barrier : Run
differing_barrier =
    (asks 0 Barrier, Wait)
    ∷ (asks 1 RegionEnd, Refused Mismatch)
    ∷ (asks 0 Resume, Refused (Broken (record { member = 1; place = AtBarrier 0 })))
    ∷ []

-- a member stops its team while another waits at a barrier, which is then told so
abbrev pub stopped_team : Run
stopped_team =
    (asks 0 Barrier, Wait)
    ∷ (asks 1 Stop, Stopped)
    ∷ (asks 0 Resume, Refused (Broken (record { member = 1; place = AtStop })))
    ∷ (asks 1 Stop, Refused (Broken (record { member = 1; place = AtStop })))
    ∷ []

-- a member that waits may stop its team, and so may one inside a loop
abbrev pub stopped_waiting : Run
stopped_waiting = (asks 0 Barrier, Wait) ∷ (asks 0 Stop, Stopped) ∷ []

-- a member may stop its team from within a share
abbrev pub stopped_inside : Run
stopped_inside = (asks 0 one_nowait, Chunk (pos 0) 1) ∷ (asks 0 Stop, Stopped) ∷ []

-- a loop of step 1 from 0 on, with this schedule
abbrev pub loop_with : Sched → ℤ → ℤ → Call
loop_with sched chunk end = LoopStart (record { start = pos 0; end = end; incr = pos 1; sched = sched; chunk = chunk; ordered = false; end_kind = Nowait })

-- a static loop with a chunk, of two members, whoever asks when
abbrev pub owned_pieces : Run
owned_pieces =
    (asks 1 (loop_with Static (pos 3) (pos 10)), Chunk (pos 3) 3)
    ∷ (asks 1 LoopNext, Chunk (pos 9) 1)
    ∷ (asks 0 (loop_with Static (pos 3) (pos 10)), Chunk (pos 0) 3)
    ∷ (asks 1 LoopNext, NoChunk)
    ∷ (asks 0 LoopNext, Chunk (pos 6) 3)
    ∷ (asks 0 LoopNext, NoChunk)
    ∷ []

-- one without, of four members, and one of fewer iterations than members
abbrev pub even_pieces_of_four : Run
even_pieces_of_four =
    (asks 2 (loop_with Static (pos 0) (pos 10)), Chunk (pos 6) 2)
    ∷ (asks 0 (loop_with Static (pos 0) (pos 10)), Chunk (pos 0) 3)
    ∷ (asks 3 (loop_with Static (pos 0) (pos 10)), Chunk (pos 8) 2)
    ∷ (asks 2 LoopNext, NoChunk)
    ∷ (asks 1 (loop_with Static (pos 0) (pos 10)), Chunk (pos 3) 3)
    ∷ (asks 2 LoopEndNowait, Finished)
    ∷ (asks 2 (loop_with Static (pos 0) (pos 2)), NoChunk)
    ∷ []

-- a guided loop of four members
abbrev pub shrinking_pieces : Run
shrinking_pieces =
    (asks 2 (loop_with Guided (pos 2) (pos 20)), Chunk (pos 0) 5)
    ∷ (asks 2 LoopNext, Chunk (pos 5) 4)
    ∷ (asks 0 (loop_with Guided (pos 2) (pos 20)), Chunk (pos 9) 3)
    ∷ (asks 2 LoopNext, Chunk (pos 12) 2)
    ∷ (asks 0 LoopNext, Chunk (pos 14) 2)
    ∷ (asks 0 LoopNext, Chunk (pos 16) 2)
    ∷ (asks 2 LoopNext, Chunk (pos 18) 2)
    ∷ (asks 0 LoopNext, NoChunk)
    ∷ []

-- a loop whose schedule the control variables give, while they are as they begin
abbrev pub runtime_pieces : Run
runtime_pieces =
    (asks 0 (loop_with Runtime (pos 5) (pos 10)), Refused BadChunk)
    ∷ (asks 0 (loop_with Runtime (pos 0) (pos 10)), Chunk (pos 0) 1)
    ∷ (asks 1 (loop_with Dynamic (pos 1) (pos 10)), Chunk (pos 1) 1)
    ∷ []

-- a member whose loop differs in the schedule alone breaks the team
abbrev pub differing_schedule : Sched → Sched → Run
differing_schedule sched other =
    (asks 0 (loop_with sched (pos 2) (pos 10)), Chunk (pos 0) 2) ∷ (asks 1 (loop_with other (pos 2) (pos 10)), Refused Mismatch) ∷ []
