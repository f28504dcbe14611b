-- What the theorems on a team ask of a call's row.
use Rattle.std.proofs.Common.{◌≡◌, ℕ, Bool, true, false, List, [], ◌∷◌, ◌++◌, Option, Some, None, refl, sym, ◌∙◌}
use Rattle.gomp_types.specs.declared.key.Key.{Key}
use Rattle.std.specs.Prelude.{ℤ, ◌⊎◌, ◌<◌, ◌&&◌, ◌||◌, not, is_some}
use Rattle.gomp_types.specs.declared.refusal.Refusal.{Refusal}
use Rattle.gomp_types.specs.declared.refusal.Refusal.TheVariants.{Mismatch, NoMemory}
use Rattle.gomp_types.specs.declared.reply.Reply.{Reply}
use Rattle.gomp_types.specs.declared.reply.Reply.TheVariants.{Chunk, Passed, Cancelled, Wait, Created, Run, TaskDone, Dropped, Count, Cancelling, Stopped, Refused}
use Rattle.gomp_events.specs.declared.event.Event.{Event}
use Rattle.gomp_events.specs.declared.event.Event.TheVariants.{Arrive, Put, Pass, Hold, Free, Create, Start, Done, Cancel, Discard, See, Break}
use Rattle.gomp_types.specs.Tests.{Test}
use Rattle.gomp_types.specs.declared.task.Task.TheVariants.{Explicit}
use Rattle.gomp_types.specs.declared.task.TaskDesc.{TaskDesc}
use Rattle.gomp_events.specs.Events.{member_of, barriers_passed, arrival, at_barrier}
use Rattle.gomp_events.specs.Laws.{Always, Happened}
use Rattle.gomp_types.specs.declared.task.Task.{Task}
use Rattle.gomp_events.specs.Tasks.{executed_task, in_task, task_desc, newest_child, is_undeferred}
use Rattle.gomp_events.specs.Goals.{may_start}
use Rattle.gomp_events.specs.TaskCalls.{HasJob}
use Rattle.gomp_types.specs.declared.cancel.CancelKind.TheVariants.{Parallel, Taskgroup}
use Rattle.gomp_events.specs.Cancels.{same_cancel, is_cancelled, would_be_covered, leaves_region}
use Rattle.gomp_laws.specs.Rules.{TeamRule}
use Rattle.gomp_events.specs.Seen.{seen_of}
use Rattle.gomp_types.proofs.Booleans.{and_left, and_right, not_both}
use Rattle.gomp_types.proofs.LeastTests.{AllFail}
use Rattle.gomp_laws.proofs.WordsToCome.{WordsToCome}
use Rattle.gomp_types.specs.declared.lock.Held.{Held}
use Rattle.gomp_locks.specs.Book.{held_by}
use Rattle.gomp_locks.specs.Locks.{times_held}
use Rattle.gomp_locks.specs.Holders.{asker, holder}
use Rattle.gomp_model.specs.Past.{Past}
use Rattle.gomp_model.specs.Row.{Row, begun_past, given_after, goes_on, MayGoOn}
use Rattle.gomp_model.specs.Team.{ChoosesTask}
use Rattle.gomp_model.specs.Admits.{IsAdmitted}
use Rattle.gomp_model.proofs.Admitted.{by_task_fails}

-- whether a refusal is want of memory
abbrev pub is_memory : Refusal → Bool
is_memory NoMemory = true
is_memory _ = false

-- whether a reply passes a barrier
abbrev pub is_pass : Reply → Bool
is_pass Passed = true
is_pass _ = false

-- whether it is to wait
abbrev pub is_wait : Reply → Bool
is_wait Wait = true
is_wait _ = false

-- whether it is to execute a task
abbrev pub is_run : Reply → Bool
is_run (Run task code arg own) = true
is_run _ = false

-- whether it ends a task
abbrev pub is_end : Reply → Bool
is_end (TaskDone task waiting) = true
is_end _ = false

-- two replies are one, or run two tasks
abbrev pub Same : Reply → Reply → Type 0
Same a b = (a ≡ b) ⊎ ChoosesTask a b

-- whether it is that the region is cancelled
abbrev pub is_cut : Reply → Bool
is_cut Cancelled = true
is_cut _ = false

-- whether it tells that something is cancelled
abbrev pub tells_of_cancellation : Reply → Bool
tells_of_cancellation Cancelled = true
tells_of_cancellation (Cancelling is) = is
tells_of_cancellation _ = false

-- whether the team is broken with it
abbrev pub breaks : Reply → Bool
breaks Stopped = true
breaks (Refused Mismatch) = true
breaks _ = false

-- The events that a call gives

-- what events a call may give besides
pub record Gives : Type 0 where
  pub arrives : Bool
  pub creates : Bool
  pub puts : Bool
  pub holds : Option Key
  pub cancels : Bool

-- none of them
abbrev pub quiet : Gives
quiet = record { arrives = false; creates = false; puts = false; holds = None; cancels = false }

-- an arrival alone
abbrev pub only_arrives : Gives
only_arrives = record { arrives = true; creates = false; puts = false; holds = None; cancels = false }

-- that a task is created, alone
abbrev pub only_creates : Gives
only_creates = record { arrives = false; creates = true; puts = false; holds = None; cancels = false }

-- that this key is held or freed, alone
abbrev pub only_holds : Key → Gives
only_holds key = record { arrives = false; creates = false; puts = false; holds = Some key; cancels = false }

-- that something is cancelled, alone
abbrev pub only_cancels : Gives
only_cancels = record { arrives = false; creates = false; puts = false; holds = None; cancels = true }

-- what a row allows
abbrev pub gives_of : Row → Gives
gives_of row = record { arrives = is_some row.arrives; creates = is_some row.creates; puts = row.puts; holds = row.holds; cancels = is_some row.cancels }

-- an event of the member that neither passes a barrier, nor holds or frees anything, nor starts or ends a task, nor sees that the region or its task is cancelled, nor breaks the team;
-- it arrives, creates a task, puts words or cancels something only if its call does
abbrev pub IsOwn : Gives → ℕ → Event → Type 0
IsOwn can m (Arrive barrier n tag) = (n ≡ m) × (can.arrives ≡ true)
IsOwn can m (Create task n parent desc) = (n ≡ m) × (can.creates ≡ true)
IsOwn can m (Put share n payload) = (n ≡ m) × (can.puts ≡ true)
IsOwn can m (Pass barrier n) = ⊥
IsOwn can m (Hold key n task) = ⊥
IsOwn can m (Free key n task) = ⊥
IsOwn can m (Start task n) = ⊥
IsOwn can m (Done task n) = ⊥
IsOwn can m (Cancel n scope) = (n ≡ m) × (can.cancels ≡ true)
IsOwn can m (Discard task n) = (n ≡ m) × (can.cancels ≡ true)
IsOwn can m (See n kind) = (n ≡ m) × (same_cancel kind Parallel ≡ false) × (same_cancel kind Taskgroup ≡ false)
IsOwn can m (Break n place) = ⊥
IsOwn can m event = member_of event ≡ m

-- all of them are
abbrev pub AreOwn : Gives → ℕ → List Event → Type 0
AreOwn can m [] = Unit {0}
AreOwn can m (event ∷ events) = IsOwn can m event × AreOwn can m events

-- the newest event of a reply may pass a barrier, hold or free what the call is about, start or end a task, see that the region or the task is cancelled, or break the team, if the reply says so
abbrev pub IsLast : Gives → ℕ → Reply → Event → Type 0
IsLast can m reply (Pass barrier n) = (n ≡ m) × (can.arrives ≡ true) × (is_pass reply ≡ true)
IsLast can m reply (Hold key n task) = (n ≡ m) × (can.holds ≡ Some key) × (is_wait reply ≡ false)
IsLast can m reply (Free key n task) = (n ≡ m) × (can.holds ≡ Some key) × (is_wait reply ≡ false)
IsLast can m reply (Start task n) = (n ≡ m) × (is_run reply ≡ true)
IsLast can m reply (Done task n) = (n ≡ m) × (is_end reply ≡ true)
IsLast can m reply (See n kind) = (n ≡ m) × (same_cancel kind Parallel ≡ true → tells_of_cancellation reply ≡ true) × (same_cancel kind Taskgroup ≡ true → tells_of_cancellation reply ≡ true)
IsLast can m reply (Break n place) = (n ≡ m) × (breaks reply ≡ true)
IsLast can m reply event = IsOwn can m event

-- the newest is the last one, and the others are the member's own
abbrev pub AreGiven : Gives → ℕ → Reply → List Event → Type 0
AreGiven can m reply [] = Unit {0}
AreGiven can m reply (event ∷ events) = IsLast can m reply event × AreOwn can m events

pub own_last : (can : Gives) (m : ℕ) (reply : Reply) (event : Event) → IsOwn can m event → IsLast can m reply event
own_last can m reply (Pass barrier n) own = absurd own
own_last can m reply (Hold key n task) own = absurd own
own_last can m reply (Free key n task) own = absurd own
own_last can m reply (Start task n) own = absurd own
own_last can m reply (Done task n) own = absurd own
own_last can m reply (See n kind) own = (own.0, (λ region. absurd (not_both (same_cancel kind Parallel) region own.1)), (λ group. absurd (not_both (same_cancel kind Taskgroup) group own.2)))
own_last can m reply (Break n place) own = absurd own
own_last can m reply _ own = own

pub own_append : (can : Gives) (m : ℕ) (events more : List Event) → AreOwn can m events → AreOwn can m more → AreOwn can m (events ++ more)
own_append can m [] more one other = other
own_append can m (event ∷ events) more one other = (one.0, own_append can m events more one.1 other)

pub own_given : (can : Gives) (m : ℕ) (reply : Reply) (events : List Event) → AreOwn can m events → AreGiven can m reply events
own_given can m reply [] own = tt
own_given can m reply (event ∷ events) own = (own_last can m reply event own.0, own.1)

-- Tests

-- no test is for want of memory
abbrev pub memoryless : List Test → Bool
memoryless [] = true
memoryless (test ∷ tests) = not (is_memory test.1) && memoryless tests

pub clean_append : (tests more : List Test) → memoryless tests ≡ true → memoryless more ≡ true → memoryless (tests ++ more) ≡ true
clean_append [] more one other = other
clean_append (test ∷ tests) more one other =
    rw (and_left (not (is_memory test.1)) (memoryless tests) one) (clean_append tests more (and_right (not (is_memory test.1)) (memoryless tests) one) other)

-- What is known of a member whose call no test refuses

-- what holds on of a call while it waits: a member that arrived is in no task; the task that waits for a name or a lock does not hold it, and its member does not leave the region;
-- and it is a call that may go on
abbrev pub Lasts : Row → ℕ → List Event → Type 0
Lasts row m h =
    (is_some row.arrives ≡ true → in_task m h ≡ false)
    × ((key : Key) → row.holds ≡ Some key → (held_by (asker m h) (holder key h) ≡ false) × (leaves_region m h ≡ false))
    × MayGoOn row m

-- what a creation that is not answered whole has created in this task: the newest task in it is undeferred, and was asked for so
abbrev pub HasCreated : Row → Task → List Event → Type 0
HasCreated row parent h = (desc : TaskDesc) → row.creates ≡ Some desc → (task_desc (newest_child parent h) h ≡ Some desc) × (is_undeferred (newest_child parent h) h ≡ true)

-- whether a call creates a task, or holds or frees something, and does not arrive: while its member waits at a barrier, only a task that it executes makes such a call
abbrev pub acts_away : Row → Bool
acts_away row = not (is_some row.arrives) && (is_some row.creates || is_some row.holds)

-- a member whose call is admitted, after a record whose replies have their causes
pub record IsAdmittedMember (row : Row) (repeated : Bool) (m : ℕ) (p : Past) : Type 0 where
  pub admitted : IsAdmitted row repeated m p
  pub member : m < p.terms.members
  -- a member that repeats an arrival is in no task
  pub outside : repeated ≡ true → is_some row.arrives ≡ true → in_task m p.events ≡ false
  -- and one that waits for a name or a lock does not leave the region
  pub inside : repeated ≡ true → (key : Key) → row.holds ≡ Some key → leaves_region m p.events ≡ false
  -- a creation that is repeated has created its task
  pub made : repeated ≡ true → HasCreated row (executed_task m p.events) p.events
  -- a call that arrives has not arrived there before, unless its member leaves the region
  pub first : repeated ≡ false → is_some row.arrives ≡ true → leaves_region m p.events ≡ false → arrival (barriers_passed m p.events) m p.events ≡ None
  -- and one that creates a task, or holds or frees something, is made by a member that waits at no barrier or leaves the region, or by a task that it executes
  pub away : acts_away row ≡ true → leaves_region m p.events ≡ false → in_task m p.events ≡ false → at_barrier m p.events ≡ false
  -- the words of a single are still to be put while its executor is in it
  pub words : WordsToCome p.events

-- so a call that no explicit task makes is made, or was, outside of every task
pub outside_of_tasks : {row : Row} {repeated : Bool} {m : ℕ} {p : Past} → IsAdmittedMember row repeated m p → is_some row.arrives ≡ true → (AllFail (row.by_task m p) → in_task m p.events ≡ false) → in_task m p.events ≡ false
outside_of_tasks {row} {repeated = true} {m} {p} ready arrives tested = ready.outside refl arrives
outside_of_tasks {row} {repeated = false} {m} {p} ready arrives tested = tested (by_task_fails ready.admitted.parts refl)

-- and waits there
pub outside_lasts : {row : Row} {repeated : Bool} {m : ℕ} {p : Past} → IsAdmittedMember row repeated m p → row.holds ≡ None → (is_some row.arrives ≡ true → AllFail (row.by_task m p) → in_task m p.events ≡ false) →
    row.may_reply m (begun_past repeated row m p) Wait → Lasts row m p.events
outside_lasts {row} {repeated} {m} {p} ready none tested may = (
  (λ arrives. outside_of_tasks ready arrives (tested arrives)),
  (λ key holds. absurd (let some = sym none ∙ holds in cc)),
  (begun_past repeated row m p, Wait, refl, may),
)

-- what a row has to be for the theorems
pub record IsSound (row : Row) : Type 0 where
  -- one answer, but for which task is run
  pub decided : (m : ℕ) (p : Past) (a b : Reply) → row.may_reply m p a → row.may_reply m p b → Same a b
  -- that is no refusal
  pub accepts : (m : ℕ) (p : Past) (refusal : Refusal) → row.may_reply m p (Refused refusal) → ⊥
  -- and there is one
  pub answered : (repeated : Bool) (m : ℕ) (p : Past) → IsAdmittedMember row repeated m p → Always (TeamRule p.terms.members) p.events → (reply : Reply) × row.may_reply m (begun_past repeated row m p) reply
  -- a chunk has an iteration
  pub counts : (repeated : Bool) (m : ℕ) (p : Past) (first : ℤ) (count : ℕ) → IsAdmittedMember row repeated m p → Always (TeamRule p.terms.members) p.events → row.may_reply m (begun_past repeated row m p) (Chunk first count) → 0 < count
  -- the events are its member's
  pub begins_own : (m : ℕ) (p : Past) → AreOwn (gives_of row) m (row.begins m p)
  pub gives_own : (m : ℕ) (p : Past) (reply : Reply) → AreGiven (gives_of row) m reply (row.gives m p reply)
  -- and keep the rule
  pub begins_keep : (m : ℕ) (p : Past) → IsAdmittedMember row false m p → Always (TeamRule p.terms.members) p.events → Always (TeamRule p.terms.members) (row.begins m p ++ p.events)
  pub gives_keep : (repeated : Bool) (m : ℕ) (p : Past) (reply : Reply) → IsAdmittedMember row repeated m p → row.may_reply m (begun_past repeated row m p) reply → Always (TeamRule p.terms.members) (begun_past repeated row m p).events →
      Always (TeamRule p.terms.members) (row.gives m (begun_past repeated row m p) reply ++ (begun_past repeated row m p).events)
  -- a call that stays in its place changes nothing while it waits
  pub still : row.stays ≡ true → (m : ℕ) (p : Past) → (row.begins m p ≡ []) × (row.gives m p Wait ≡ [])
  -- nor does its member give up its share
  pub placed : row.stays ≡ true → (m : ℕ) (h : List Event) → row.gives_up m h ≡ false
  -- no explicit task makes a call that arrives
  pub outside : is_some row.arrives ≡ true → (m : ℕ) (p : Past) → AllFail (row.by_task m p) → in_task m p.events ≡ false
  -- a call that arrives passes the barrier, waits, or runs a task, or the region is cancelled
  pub tells : is_some row.arrives ≡ true → (m : ℕ) (p : Past) (reply : Reply) → row.may_reply m p reply → (reply ≡ Passed) ⊎ (goes_on reply ≡ true) ⊎ (reply ≡ Cancelled)
  pub one_pass : is_some row.arrives ≡ true → (m : ℕ) (p : Past) → row.gives m p Passed ≡ Pass (barriers_passed m p.events) m ∷ []
  -- a call that arrives waits at its barrier once it has begun, if it goes on
  pub arrives_there : is_some row.arrives ≡ true → (m : ℕ) (p : Past) (reply : Reply) → row.may_reply m (begun_past false row m p) reply → goes_on reply ≡ true → at_barrier m (begun_past false row m p).events ≡ true
  -- and gives nothing while it waits
  pub waits_quietly : is_some row.arrives ≡ true → (m : ℕ) (p : Past) → row.gives m p Wait ≡ []
  -- what holds on while it waits
  pub lasts : (repeated : Bool) (m : ℕ) (p : Past) → IsAdmittedMember row repeated m p → Always (TeamRule p.terms.members) p.events → row.may_reply m (begun_past repeated row m p) Wait → Lasts row m p.events
  -- it waits for a name or a lock only if somebody holds that
  pub waits_for : (key : Key) (m : ℕ) (p : Past) → row.holds ≡ Some key → row.may_reply m p Wait → (held : Held) × (holder key p.events ≡ Some held)
  -- a count is how often the task that asks holds the lock then
  pub tells_count : (key : Key) (repeated : Bool) (m count : ℕ) (p : Past) → row.holds ≡ Some key → IsAdmittedMember row repeated m p → Always (TeamRule p.terms.members) p.events → row.may_reply m (begun_past repeated row m p) (Count count) →
      count ≡ times_held (asker m p.events) (holder key (given_after row repeated m p (Count count)))
  -- a task that is run may be started, with what was asked for, and is undeferred exactly if it is the call's own, which is the newest that its member created; its call neither stays in its place nor holds anything, and gives its start alone
  pub runs : (m : ℕ) (p : Past) (task code arg : ℕ) (own : Bool) → row.may_reply m p (Run task code arg own) →
      (row.stays ≡ false) × (row.holds ≡ None) × (is_undeferred task p.events ≡ own) × (may_start m task p.events ≡ true)
      × HasJob (task_desc task p.events) code arg × (row.gives m p (Run task code arg own) ≡ Start task m ∷ [])
      × (own ≡ true → (is_some row.arrives ≡ false) × ((desc : TaskDesc) × (row.creates ≡ Some desc)) × (task ≡ newest_child (executed_task m p.events) p.events))
  -- a task that is done is the one that its member executes, which was started at a wait unless it is undeferred; its call gives its end alone
  pub ends : (m : ℕ) (p : Past) (task : ℕ) (waiting : Bool) → row.may_reply m p (TaskDone task waiting) →
      (is_some row.arrives ≡ false) × (waiting ≡ not (is_undeferred task p.events)) × (executed_task m p.events ≡ Explicit task) × (row.gives m p (TaskDone task waiting) ≡ Done task m ∷ [])
      × ((q : Past) → row.begins m q ≡ [])
  -- a task whose number is answered was created by the call
  pub created : (repeated : Bool) (m : ℕ) (p : Past) (task : ℕ) → IsAdmittedMember row repeated m p → row.may_reply m (begun_past repeated row m p) (Created task) →
      (desc : TaskDesc) × (row.creates ≡ Some desc) × Happened (Create task m (executed_task m p.events) desc) (given_after row repeated m p (Created task))
  -- a member is answered that the region is cancelled only if it is, and sees that, alone
  pub cancelled : (m : ℕ) (p : Past) → row.may_reply m p Cancelled → (is_cancelled p.events ≡ true) × (row.gives m p Cancelled ≡ See m Parallel ∷ [])
  -- a task is dropped only if a cancellation reaches it
  pub dropped : (repeated : Bool) (m : ℕ) (p : Past) → IsAdmittedMember row repeated m p → Always (TeamRule p.terms.members) p.events → row.may_reply m (begun_past repeated row m p) Dropped → would_be_covered (executed_task m p.events) p.events ≡ true
  -- a call that may cancel something does so by its reply alone, and only in a team that allows that
  pub allowed : is_some row.cancels ≡ true → (m : ℕ) (p : Past) → (row.begins m p ≡ []) × ((reply : Reply) → row.may_reply m p reply → p.terms.cancellation ≡ false → row.gives m p reply ≡ [])
  -- no test is for want of memory
  pub no_memory : (m : ℕ) (p : Past) →
      (memoryless (row.by_place p.terms.limits (seen_of m p.events)) ≡ true) × (memoryless (row.by_task m p) ≡ true) × (memoryless (row.by_team m p) ≡ true) × (memoryless (row.missing m p) ≡ true) × ((repeated : Bool) → memoryless (row.compared repeated m p) ≡ true)
  -- a call that puts words is the executor's
  pub words_keep : row.puts ≡ true → (repeated : Bool) (m : ℕ) (p : Past) (reply : Reply) → IsAdmittedMember row repeated m p → row.may_reply m (begun_past repeated row m p) reply → Always (TeamRule p.terms.members) p.events →
      WordsToCome (row.gives m (begun_past repeated row m p) reply ++ (begun_past repeated row m p).events)
