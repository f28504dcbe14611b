-- A step of a team: its tests, its reply, and what it leaves. The past before a step decides its reply, save which task is run of those that may be, and that memory may be refused. (own)
use Rattle.std.specs.Prelude.{ℕ, nat_le, ◌==◌, ◌≡◌, ◌≢◌, ◌⊎◌, if◌then◌else◌, is_some, Bool, true, false, IsTrue, List, [], ◌∷◌, ◌++◌, Option, Some, None}
use Rattle.gomp_types.specs.declared.call.Call.{Call}
use Rattle.gomp_types.specs.declared.call.Call.TheVariants.{Resume, Stop}
use Rattle.gomp_types.specs.declared.call.Step.{Step}
use Rattle.gomp_types.specs.declared.reply.Reply.{Reply}
use Rattle.gomp_types.specs.declared.reply.Reply.TheVariants.{Wait, Run, TaskDone, Refused}
use Rattle.gomp_types.specs.declared.refusal.Refusal.{Refusal}
use Rattle.gomp_types.specs.declared.refusal.Refusal.TheVariants.{BadMember, Ended, Waiting, NoMemory}
use Rattle.gomp_events.specs.declared.event.Event.{Event}
use Rattle.gomp_types.specs.Tests.{Test}
use Rattle.gomp_types.specs.Limits.{capped_limits}
use Rattle.gomp_types.specs.Resumes.{call_meant, is_resume}
use Rattle.gomp_types.specs.Least.{least}
use Rattle.gomp_events.specs.Events.{has_left_region, clash_of}
use Rattle.gomp_events.specs.TaskCalls.{first_room}
use Rattle.gomp_events.specs.Breaks.{broken_tests}
use Rattle.gomp_model.specs.Past.{Terms, Waits, no_waits, Past}
use Rattle.gomp_model.specs.Row.{Row, begun_past, row_tests, asks_memory, events_after, room_after, locks_after}
use Rattle.gomp_model.specs.Calls.{row_of}

-- what was asked and answered, the newest pair first
abbrev pub Record : Type 0
Record = List (Step × Reply)

-- the record of these steps and replies, in order, after what was before
abbrev pub record_after : List Step → List Reply → Record → Record
record_after [] replies before = before
record_after (step ∷ steps) [] before = before
record_after (step ∷ steps) (reply ∷ replies) before = record_after steps replies ((step, reply) ∷ before)

-- the row of the call that a step makes or repeats
abbrev pub row_at : Past → Step → Row
row_at p step = row_of (call_meant step.call (p.waits step.member).open_call)

-- Tests

-- what every call is tested for
abbrev pub member_tests : ℕ → ℕ → List Event → List Test
member_tests members m h = (nat_le members m, BadMember) ∷ (has_left_region m h, Ended) ∷ broken_tests (clash_of h)

-- while a wait is open only a resume and a stop are answered
abbrev pub wait_tests : Call → Option Call → List Test
wait_tests Resume waiting = []
wait_tests Stop waiting = []
wait_tests _ waiting = (is_some waiting, Waiting) ∷ []

-- all that a step is tested for: the member, its open wait, and its call
abbrev pub tests_of : Past → Step → List Test
tests_of p step =
    member_tests p.terms.members step.member p.events
    ++ (wait_tests step.call (p.waits step.member).open_call ++ row_tests (is_resume step.call) (row_at p step) step.member p)

-- a step is refused by that of its tests that hold whose refusal has the least number
abbrev pub refusal_of : Past → Step → Option Refusal
refusal_of p step = least (tests_of p step)

-- Replies

-- a refusal is the one of the tests; if no test holds, a call that takes memory may find none, a resume may not
abbrev pub MayRefuse : Option Refusal → Refusal → Bool → Type 0
MayRefuse first NoMemory asks = (first ≡ None) × IsTrue asks
MayRefuse first refusal asks = first ≡ Some refusal

-- a step may be answered so
abbrev pub MayAnswer : Past → Step → Reply → Type 0
MayAnswer p step (Refused refusal) = MayRefuse (refusal_of p step) refusal (asks_memory (row_of step.call) step.member p)
MayAnswer p step reply =
    (refusal_of p step ≡ None)
    × (row_at p step).may_reply step.member (begun_past (is_resume step.call) (row_at p step) step.member p) reply

-- What a step leaves

-- the first of these calls waits again, if there is one
abbrev pub open_first : List Call → Waits
open_first [] = no_waits
open_first (call ∷ calls) = record { open_call = Some call; beneath = calls }

-- a refusal leaves a member's waits, Wait opens one, and a task is run above the call at which it was started, which waits again when the task has ended; every other reply closes the wait, the run of a task of the call's own among them
abbrev pub waits_after : Reply → Call → Waits → Waits
waits_after (Refused refusal) call waits = waits
waits_after Wait call waits = record waits { open_call = Some (call_meant call waits.open_call) }
waits_after (Run task code arg false) call waits = record { open_call = None; beneath = call_meant call waits.open_call ∷ waits.beneath }
waits_after (TaskDone task true) call waits = open_first waits.beneath
waits_after _ call waits = record waits { open_call = None }

-- the past after a step and its reply: the row's events, the member's waits, the room, and the row's locks
abbrev pub past_after : Past → Step → Reply → Past
past_after p step reply = record p {
  events = events_after (is_resume step.call) (row_at p step) step.member p reply;
  waits = λ m. if step.member == m then waits_after reply step.call (p.waits m) else p.waits m;
  room = room_after (is_resume step.call) (row_at p step) reply p.room;
  locks = locks_after (row_at p step) reply p.locks;
}

-- a new team, of which nothing was asked: no limit of it is above the standard one, and it has room for the end of its region
abbrev pub before_all : Terms → Past
before_all terms = record { terms = record terms { limits = capped_limits terms.limits }; events = []; waits = λ m. no_waits; room = first_room terms.members; locks = [] }

-- what is known of a record, the newest step first
abbrev pub past_of : Terms → Record → Past
past_of terms [] = before_all terms
past_of terms (pair ∷ earlier) = past_after (past_of terms earlier) pair.0 pair.1

-- all that happened, the newest first
abbrev pub events : Terms → Record → List Event
events terms run = (past_of terms run).events

-- every reply of a record has its cause
abbrev pub Caused : Terms → Record → Type 0
Caused terms [] = Unit {0}
Caused terms (pair ∷ earlier) = MayAnswer (past_of terms earlier) pair.0 pair.1 × Caused terms earlier

-- both replies have the member execute a task, one each, and neither is its own: which of those that it may start is open, and nothing else of it
abbrev pub ChoosesTask : Reply → Reply → Type 0
ChoosesTask (Run task code arg false) (Run other other_code other_arg false) = task ≢ other
ChoosesTask _ _ = ⊥

-- two replies are one, or run two tasks, or one of them is want of memory
abbrev pub OneReply : Reply → Reply → Type 0
OneReply a b = (a ≡ b) ⊎ ChoosesTask a b ⊎ (a ≡ Refused NoMemory) ⊎ (b ≡ Refused NoMemory)

-- some reply to the step, other than want of memory, has its cause
abbrev pub SomeReply : Past → Step → Type 0
SomeReply p step = (reply : Reply) × (reply ≢ Refused NoMemory) × MayAnswer p step reply
