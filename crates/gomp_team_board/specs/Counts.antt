-- Which events of a team its ledger counts, and how many of them an operation and its reply give. (own)
use Rattle.std.specs.Prelude.{ℕ, ◌+◌, Bool, true, false, if◌then◌else◌, List, [], ◌∷◌}
use Rattle.gomp_types.specs.declared.refusal.Refusal.TheVariants.{Mismatch}
use Rattle.gomp_types.specs.declared.reply.Reply.{Reply}
use Rattle.gomp_types.specs.declared.reply.Reply.TheVariants.{Finished, Passed, Cancelled, Dropped, Cancelling, Run, TaskDone, Stopped, Refused}
use Rattle.gomp_events.specs.declared.event.Event.{Event}
use Rattle.gomp_events.specs.declared.event.Event.TheVariants.{Discard}
use Rattle.gomp_board.specs.declared.op.Op.{Op}
use Rattle.gomp_board.specs.declared.op.Op.TheVariants.{Create, EndTask, OpenGroup, EndGroup, AwaitGroup, Arrive, AwaitBarrier, Put, Got, Cancel, Break}
use Rattle.gomp_board.specs.Stored.{is_stored}

-- In a list of events

-- whether the ledger counts the event: a board stores it, and it is no discard
abbrev pub is_counted : Event → Bool
is_counted (Discard task m) = false
is_counted event = is_stored event

-- how many events pass a test
abbrev pub events_with : (Event → Bool) → List Event → ℕ
events_with test [] = 0
events_with test (event ∷ h) = (if test event then 1 else 0) + events_with test h

-- how many the ledger counts
abbrev pub counted_events : List Event → ℕ
counted_events h = events_with is_counted h

-- Of an operation and its reply: one for each of these events

-- the member created a task: it is not dropped
abbrev pub creations_given : Op → Reply → ℕ
creations_given (Create desc) (Refused refusal) = 0
creations_given (Create desc) Dropped = 0
creations_given (Create desc) reply = 1
creations_given op reply = 0

-- it started a task
abbrev pub starts_given : Reply → ℕ
starts_given (Run task code arg own) = 1
starts_given _ = 0

-- it ended one
abbrev pub ends_given : Op → Reply → ℕ
ends_given (EndTask leaving) (TaskDone task waiting) = 1
ends_given op reply = 0

-- it arrived at a barrier: no cancelled region sends it on to the region's end
abbrev pub arrivals_given : Op → Reply → ℕ
arrivals_given (Arrive tag leaving) (Refused refusal) = 0
arrivals_given (Arrive tag leaving) Cancelled = 0
arrivals_given (Arrive tag leaving) reply = 1
arrivals_given op reply = 0

-- it passed a barrier, on its arrival or after a wait
abbrev pub passes_given : Op → Reply → ℕ
passes_given (Arrive tag leaving) Passed = 1
passes_given AwaitBarrier Passed = 1
passes_given op reply = 0

-- it opened a group, or ended one
abbrev pub groups_given : Op → Reply → ℕ
groups_given OpenGroup Finished = 1
groups_given EndGroup Passed = 1
groups_given AwaitGroup Passed = 1
groups_given op reply = 0

-- it put words, or was given them
abbrev pub words_given : Op → Reply → ℕ
words_given (Put share words) Finished = 1
words_given (Got share words) Finished = 1
words_given op reply = 0

-- it cancelled the region or a group, by a construct whose clause is true
abbrev pub cancels_given : Op → Reply → ℕ
cancels_given (Cancel named true allowed) (Cancelling true) = 1
cancels_given op reply = 0

-- it stopped the team
abbrev pub stops_given : Op → Reply → ℕ
stops_given (Break place back) Stopped = 1
stops_given op reply = 0

-- how many events come of tasks
abbrev pub task_events : Op → Reply → ℕ
task_events op reply = creations_given op reply + starts_given reply + ends_given op reply

-- how many come of barriers, groups and words, and of what ends a region early
abbrev pub team_events : Op → Reply → ℕ
team_events op reply =
    arrivals_given op reply + passes_given op reply + groups_given op reply + words_given op reply + cancels_given op reply + stops_given op reply

-- how many the ledger counts: of refusals a mismatch alone gives an event, the break
abbrev pub events_given : Op → Reply → ℕ
events_given op (Refused Mismatch) = 1
events_given op (Refused refusal) = 0
events_given op reply = task_events op reply + team_events op reply
