-- Lists of events, the newest first, and answers to operations that the examples share. (own)
use Rattle.std.specs.Prelude.{ℕ, Option, List, [], ◌∷◌}
use Rattle.std.proofs.Common.{zero, suc}
use Rattle.gomp_types.specs.declared.task.Task.TheVariants.{Implicit, Explicit}
use Rattle.gomp_types.specs.declared.task.TaskDesc.{TaskDesc}
use Rattle.gomp_types.specs.declared.limits.Limits.{Limits}
use Rattle.gomp_types.specs.declared.refusal.Place.TheVariants.{Stopped as AtStop}
use Rattle.gomp_types.specs.declared.refusal.Refusal.{Refusal}
use Rattle.gomp_types.specs.declared.reply.Reply.{Reply}
use Rattle.gomp_events.specs.declared.event.Arrival.TheVariants.{Barrier, RegionEnd}
use Rattle.gomp_events.specs.declared.event.Event.{Event}
use Rattle.gomp_events.specs.declared.event.Event.TheVariants.{Arrive, Pass, Create, Start, Done, Group, Break}
use Rattle.gomp_events.specs.EventLists.{at}
use Rattle.gomp_events.specs.TaskExamples.{job_with}
use Rattle.gomp_board.specs.declared.op.Op.{Op}
use Rattle.gomp_board.specs.Ops.{op_refusal, OpAnswer}

-- a task, and another
abbrev pub seven : TaskDesc
seven = job_with 7 9 []

abbrev pub eight : TaskDesc
eight = job_with 8 9 []

-- Tasks of the first member

-- it creates a task in its implicit one, or in an explicit one
abbrev pub creates_root : ℕ → Event
creates_root t = Create t 0 (Implicit 0) seven

abbrev pub creates_in : ℕ → ℕ → Event
creates_in p t = Create t 0 (Explicit p) seven

-- one that nobody has started
abbrev pub one_ready : List Event
one_ready = creates_root 1 ∷ []

-- it runs, and is done
abbrev pub one_runs : List Event
one_runs = Start 1 0 ∷ one_ready

abbrev pub one_done : List Event
one_done = Done 1 0 ∷ one_runs

-- the second member runs it
abbrev pub other_runs : List Event
other_runs = Start 1 1 ∷ one_ready

-- so many, each created in the one before, which the member runs
abbrev pub nested : ℕ → List Event
nested zero = []
nested (suc zero) = one_runs
nested (suc (suc k)) = Start (suc (suc k)) 0 ∷ creates_in (suc k) (suc (suc k)) ∷ nested (suc k)

-- Groups of the first member

-- one that is open, one with a task that nobody has started, and one whose task is done
abbrev pub group_empty : List Event
group_empty = Group 0 0 ∷ []

abbrev pub group_ready : List Event
group_ready = creates_root 1 ∷ group_empty

abbrev pub group_done : List Event
group_done = Done 1 0 ∷ Start 1 0 ∷ group_ready

-- Barriers of a team of two

-- the first member waits at one, and both do
abbrev pub first_waits : List Event
first_waits = Arrive 0 0 (at Barrier 0) ∷ []

abbrev pub both_wait : List Event
both_wait = Arrive 0 1 (at Barrier 0) ∷ first_waits

-- the first one executes a task there, which it created before
abbrev pub runs_there : List Event
runs_there = Start 1 0 ∷ Arrive 0 0 (at Barrier 0) ∷ one_ready

-- the second member waits at the region's end, and both do
abbrev pub second_ends : List Event
second_ends = Arrive 0 1 (at RegionEnd 0) ∷ []

abbrev pub both_end : List Event
both_end = Arrive 0 0 (at RegionEnd 0) ∷ second_ends

-- the first one has left the region
abbrev pub first_left : List Event
first_left = Pass 0 0 ∷ both_end

-- the second one has stopped the team
abbrev pub stopped : List Event
stopped = Break 1 AtStop ∷ []

-- Words of a single

abbrev pub words : List ℕ
words = 7 ∷ 8 ∷ []

-- Operations of the first member of a team of two

-- limits that allow so many tasks and events
abbrev pub limits_of : ℕ → ℕ → Limits
limits_of tasks events = record { shares = 4; tasks = tasks; events = events }

abbrev pub usual_limits : Limits
usual_limits = limits_of 64 100

-- why the operation is refused, if it is, and the answers that it may have, with the usual limits, room asked for 5 events, and none kept
abbrev pub usual_refusal : Op → List Event → Option Refusal
usual_refusal op h = op_refusal usual_limits 5 0 0 op h

abbrev pub Allows : Op → List Event → Reply → Type 0
Allows op h reply = OpAnswer usual_limits 5 0 2 0 op h reply

-- it does not have this answer
abbrev pub Excludes : Op → List Event → Reply → Type 0
Excludes op h reply = Allows op h reply → ⊥

-- nor any of these
abbrev pub ExcludesEach : Op → List Event → List Reply → Type 0
ExcludesEach op h [] = Unit {0}
ExcludesEach op h (reply ∷ replies) = Excludes op h reply × ExcludesEach op h replies
