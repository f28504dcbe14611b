-- All that there is to say of one call, and what each of its fields means to a step. (own)
use Rattle.std.specs.Prelude.{ℕ, ◌+◌, ◌≡◌, ◌&&◌, ◌||◌, nat_lt, not, if◌then◌else◌, Bool, true, false, List, [], ◌∷◌, ◌++◌, Option, None}
use Rattle.gomp_types.specs.declared.cancel.CancelKind.{CancelKind}
use Rattle.gomp_types.specs.declared.key.Key.{Key}
use Rattle.gomp_types.specs.declared.limits.Limits.{Limits}
use Rattle.gomp_types.specs.declared.lock.LockKind.{LockKind}
use Rattle.gomp_events.specs.declared.seen.Seen.{Seen}
use Rattle.gomp_types.specs.declared.shape.Shape.{Shape}
use Rattle.gomp_types.specs.declared.refusal.Place.{Place}
use Rattle.gomp_types.specs.declared.refusal.Place.TheVariants.{Barrier as AtBarrier}
use Rattle.gomp_types.specs.declared.refusal.Refusal.TheVariants.{Leaving, NoMemory}
use Rattle.gomp_types.specs.declared.reply.Reply.{Reply}
use Rattle.gomp_types.specs.declared.reply.Reply.TheVariants.{Finished, Wait, Run, Refused}
use Rattle.gomp_events.specs.declared.event.Arrival.{Arrival}
use Rattle.gomp_events.specs.declared.event.Event.{Event}
use Rattle.gomp_types.specs.declared.task.TaskDesc.{TaskDesc}
use Rattle.gomp_types.specs.Tests.{Test}
use Rattle.gomp_types.specs.Limits.{shown_number}
use Rattle.gomp_events.specs.Events.{barriers_passed}
use Rattle.gomp_events.specs.Seen.{seen_of}
use Rattle.gomp_events.specs.TaskCalls.{outside_tasks_tests, unless_given_up, room_tests}
use Rattle.gomp_events.specs.Cancels.{is_cancelled, is_leaving}
use Rattle.gomp_events.specs.CancelCalls.{OrWaitsCancelled, sees_cancelled}
use Rattle.gomp_events.specs.Breaks.{refusal_gives}
use Rattle.gomp_shares.specs.Starts.{drained_tests}
use Rattle.gomp_locks.specs.CriticalNames.{critical_tests}
use Rattle.gomp_locks.specs.Holders.{asker, holds_critical}
use Rattle.gomp_model.specs.Past.{Past}

-- a call's row, with one field for each thing that a step asks of it
pub record Row : Type 1 where
  -- its tests that the member's place among the shares decides
  pub by_place : Limits → Seen → List Test
  -- whether its member gives up the share that it is in, so that these are not made
  pub gives_up : ℕ → List Event → Bool
  -- whether its member has to be answered first that nothing is left of its share, unless the share is cancelled
  pub drains : Bool
  -- those that tasks, groups and cancellation decide
  pub by_task : ℕ → Past → List Test
  -- those that names and locks decide
  pub by_team : ℕ → Past → List Test
  -- those on whether the lock that it asks for is there, which are made of a repeated call too
  pub missing : ℕ → Past → List Test
  -- those that compare its construct with other members'; the flag says that a resume repeats the call
  pub compared : Bool → ℕ → Past → List Test
  -- whether a member that leaves a region, a share or a task may make it
  pub lets_leave : ℕ → List Event → Bool
  -- for how many events it asks room
  pub room : ℕ
  -- whether its reply has it keep the room that it asked for
  pub keeps_room : Reply → Bool
  -- whether it is dropped, whatever room and memory there are
  pub drops : ℕ → Past → Bool
  -- whether it makes a name or a lock, which takes memory
  pub makes : ℕ → Past → Bool
  -- the share that it starts, by what the team compares of it
  pub starts : Option Shape
  -- whether its member stays in its place while it waits
  pub stays : Bool
  -- at what kind of barrier it arrives
  pub arrives : Option Arrival
  -- which task it creates, by what is asked for, if one
  pub creates : Option TaskDesc
  -- what it may cancel, if something
  pub cancels : Option CancelKind
  -- whether it puts words for the other members
  pub puts : Bool
  -- which critical name or lock it holds or frees, if one
  pub holds : Option Key
  -- the events that it gives before its reply, unless it is refused, the newest first
  pub begins : ℕ → Past → List Event
  -- what it may be answered after these
  pub may_reply : ℕ → Past → Reply → Type 0
  -- and the events that its reply gives
  pub gives : ℕ → Past → Reply → List Event
  -- which locks there are after that reply
  pub locks : Reply → List (Option LockKind) → List (Option LockKind)
  -- where its construct differs
  pub place : ℕ → List Event → Place

-- a call with no tests, which is done at once: what a row leaves as it is
abbrev pub plain_row : Row
plain_row = record {
  by_place = λ limits seen. [];
  gives_up = λ m h. false;
  drains = false;
  by_task = λ m p. [];
  by_team = λ m p. [];
  missing = λ m p. [];
  compared = λ repeated m p. [];
  lets_leave = λ m h. false;
  room = 0;
  keeps_room = λ reply. true;
  drops = λ m p. false;
  makes = λ m p. false;
  starts = None;
  stays = false;
  arrives = None;
  creates = None;
  cancels = None;
  puts = false;
  holds = None;
  begins = λ m p. [];
  may_reply = λ m p reply. reply ≡ Finished;
  gives = λ m p reply. [];
  locks = λ reply locks. locks;
  place = λ m h. AtBarrier (shown_number (barriers_passed m h));
}

-- a call on a work-share or a barrier: no explicit task makes it, nor a task that holds a critical name
abbrev pub outside_row : Row
outside_row = record plain_row {
  by_task = λ m p. outside_tasks_tests m p.events;
  by_team = λ m p. critical_tests (holds_critical (asker m p.events) p.events);
}

-- one that is done at once, with these tests, and gives these events
abbrev pub at_once : (Seen → List Test) → (ℕ → List Event → List Event) → Row
at_once tests events = record outside_row { by_place = λ limits seen. tests seen; begins = λ m p. events m p.events }

-- one that waits in its place in a region that is not cancelled: in one that is, its member is answered so instead of to wait, and sees that (OpenMP API 5.2, section 16.1)
abbrev pub waits_uncancelled : Row → Row
waits_uncancelled row = record row {
  may_reply = λ m p reply. OrWaitsCancelled (is_cancelled p.events) (row.may_reply m p) reply;
  gives = λ m p reply. sees_cancelled m reply (row.gives m p reply);
}

-- these events, unless the call is repeated; the match on the events is for the prover: where there are none it need not know whether the call is
abbrev pub unless_repeated : List Event → Bool → List Event
unless_repeated [] repeated = []
unless_repeated (event ∷ events) true = []
unless_repeated (event ∷ events) false = event ∷ events

-- the past once the call has begun
abbrev pub begun_past : Bool → Row → ℕ → Past → Past
begun_past repeated row m p = record p { events = unless_repeated (row.begins m p) repeated ++ p.events }

-- a call by which a share is ended: its member was answered that nothing is left, or the share is cancelled
abbrev pub drain_tests : Bool → ℕ → List Event → List Test
drain_tests false m h = []
drain_tests true m h = drained_tests m h

-- the tests of a call that its member's place decides, and the comparison with other members'; one that is repeated was tested by its place when it was made
abbrev pub place_tests : Bool → Row → ℕ → Past → List Test
place_tests true row m p = row.compared true m p
place_tests false row m p =
    unless_given_up (row.gives_up m p.events) (row.by_place p.terms.limits (seen_of m p.events)) ++ (drain_tests row.drains m p.events ++ row.compared false m p)

-- whether there is room for the events that a call asks for; one that is dropped asks for none
abbrev pub asked_tests : Bool → Row → Past → List Test
asked_tests true row p = []
asked_tests false row p = room_tests p.terms.limits p.room row.room

-- those that tasks, groups and cancellation decide, and whether there is room; a call that is repeated has its room
abbrev pub board_tests : Bool → Row → ℕ → Past → List Test
board_tests true row m p = []
board_tests false row m p = row.by_task m p ++ asked_tests (row.drops m p) row p

-- whether the call takes memory, which may be wanting: it makes a name or a lock, or asks for room and is not dropped
abbrev pub asks_memory : Row → ℕ → Past → Bool
asks_memory row m p = row.makes m p || (nat_lt 0 row.room && not (row.drops m p))

-- those that names and locks decide; of one that is repeated only whether its lock is there
abbrev pub book_tests : Bool → Row → ℕ → Past → List Test
book_tests true row m p = row.missing m p
book_tests false row m p = row.by_team m p ++ row.missing m p

-- a member that leaves a region, a share or a task may make but few calls; one that waits was let make its own
abbrev pub leaving_tests : Bool → Row → ℕ → Past → List Test
leaving_tests true row m p = []
leaving_tests false row m p = (is_leaving m p.events && not (row.lets_leave m p.events), Leaving) ∷ []

-- the tests of a call
abbrev pub row_tests : Bool → Row → ℕ → Past → List Test
row_tests repeated row m p = leaving_tests repeated row m p ++ (place_tests repeated row m p ++ (board_tests repeated row m p ++ book_tests repeated row m p))

-- what a reply that is no refusal may be
abbrev pub MayReply : Row → Bool → ℕ → Past → Reply → Type 0
MayReply row repeated m p reply = row.may_reply m (begun_past repeated row m p) reply

-- the events after the call and such a reply
abbrev pub given_after : Row → Bool → ℕ → Past → Reply → List Event
given_after row repeated m p reply = row.gives m (begun_past repeated row m p) reply ++ (begun_past repeated row m p).events

-- the events after the call and its reply
abbrev pub events_after : Bool → Row → ℕ → Past → Reply → List Event
events_after repeated row m p (Refused refusal) = refusal_gives refusal m (row.place m p.events) ++ p.events
events_after repeated row m p reply = given_after row repeated m p reply

-- the room that was asked for then: a refused call asks for none, one that is repeated for no more, and not every reply has the call keep it
abbrev pub room_after : Bool → Row → Reply → ℕ → ℕ
room_after repeated row (Refused refusal) room = room
room_after true row reply room = room
room_after false row reply room = if row.keeps_room reply then room + row.room else room

-- which locks there are then; a refusal changes none
abbrev pub locks_after : Row → Reply → List (Option LockKind) → List (Option LockKind)
locks_after row (Refused refusal) locks = locks
locks_after row reply locks = row.locks reply locks

-- the past after the call and its reply, but for what waits; a refusal leaves it as it was, and a break is none of this
abbrev pub past_given : Row → Bool → ℕ → Past → Reply → Past
past_given row repeated m p (Refused refusal) = p
past_given row repeated m p reply = record p {
  events = given_after row repeated m p reply;
  room = room_after repeated row reply p.room;
  locks = locks_after row reply p.locks;
}

-- whether a call goes on after its reply: it waits, or a task is executed before it is repeated, or, if that is the creation's own, before its creator goes on
abbrev pub goes_on : Reply → Bool
goes_on Wait = true
goes_on (Run task code arg own) = true
goes_on _ = false

-- a call that may go on after a reply
abbrev pub MayGoOn : Row → ℕ → Type 0
MayGoOn row m = (q : Past) × (reply : Reply) × (goes_on reply ≡ true) × row.may_reply m q reply

-- a reply is want of memory, of a call that takes some; or it is one that the row has
abbrev pub MayGive : Row → Bool → ℕ → Past → Reply → Type 0
MayGive row repeated m p (Refused NoMemory) = asks_memory row m p ≡ true
MayGive row repeated m p reply = MayReply row repeated m p reply
