-- What each field of a row says of each call, and what the fields mean to a step.
use Rattle.std.proofs.Common.{ℕ, ◌≡◌, true, false, List, [], ◌∷◌, Some, None, refl}
use Rattle.std.specs.Prelude.{Bool, Option, pos, map, ◌++◌}
use Rattle.gomp_types.specs.declared.call.Call.{Call}
use Rattle.gomp_types.specs.declared.call.Call.TheVariants.{LoopStart, LoopNext, LoopEnd, SectionsStart, SectionsNext, SectionsEnd, SingleStart, SingleCopyStart, OrderedStart, Barrier, RegionEnd, CriticalStart, CriticalEnd, LockInit, NestInit, LockDestroy, Set, Test as TestLock, Unset, SetNest, TestNest, UnsetNest, Resume, Stop}
use Rattle.gomp_types.specs.declared.key.Key.{Key}
use Rattle.gomp_types.specs.declared.key.Key.TheVariants.{Critical, Lock, NestLock}
use Rattle.gomp_types.specs.declared.lock.LockKind.{LockKind}
use Rattle.gomp_types.specs.declared.lock.LockKind.TheVariants.{Simple, Nest}
use Rattle.gomp_types.specs.declared.task.Task.TheVariants.{Implicit}
use Rattle.gomp_types.specs.declared.loop_desc.EndKind.TheVariants.{Wait as WaitEnd, Nowait}
use Rattle.gomp_types.specs.declared.refusal.Place.TheVariants.{Share, Barrier as AtBarrier, Stopped as AtStop}
use Rattle.gomp_types.specs.declared.refusal.Refusal.TheVariants.{Mismatch}
use Rattle.gomp_types.specs.declared.reply.Reply.{Reply}
use Rattle.gomp_types.specs.declared.reply.Reply.TheVariants.{Chunk, NoChunk, Section, Executor, Copied, Finished, Passed, Wait, Created, Run as RunTask, TaskDone, Lock as LockMade, Got as GotLock, Count, Stopped}
use Rattle.gomp_types.specs.declared.shape.Shape.{Shape}
use Rattle.gomp_types.specs.declared.shape.ShareKind.TheVariants.{Dynamic}
use Rattle.gomp_events.specs.declared.event.Arrival.{Arrival}
use Rattle.gomp_events.specs.declared.event.Arrival.TheVariants.{Barrier as BarrierArrival, ShareEnd, RegionEnd as RegionEndArrival}
use Rattle.gomp_events.specs.declared.event.Event.{Event}
use Rattle.gomp_events.specs.declared.event.Event.TheVariants.{Enter, Take, Drained, End, HandOn, Part, PartEnd, Put, Got, Arrive, Pass, Hold, Free, Start, Break}
use Rattle.gomp_events.specs.Events.{shares_entered, barriers_passed}
use Rattle.gomp_types.specs.Sections.{sections_shape}
use Rattle.gomp_types.specs.Singles.{single_shape}
use Rattle.gomp_types.specs.ExampleShapes.{even_four, four}
use Rattle.gomp_events.specs.EventLists.{at}
use Rattle.gomp_events.specs.Breaks.{refusal_gives}
use Rattle.gomp_model.specs.Row.{Row, asks_memory}
use Rattle.gomp_model.specs.Calls.{row_of}
use Rattle.gomp_model.specs.Loops.{loop_next_row}
use Rattle.gomp_model.specs.Past.{Past}
use Rattle.gomp_model.specs.Arrivals.{barrier_row}
use Rattle.gomp_model.specs.OrderedParts.{ordered_start_row}
use Rattle.gomp_model.specs.Examples.{task_answers, later_answers, lock_answers, share_answers, past_with, ten_by_three, one_nowait, up_to}
use Rattle.gomp_model.specs.HoldExamples.{name_a, name_b}
use Rattle.gomp_model.specs.ShareExamples.{three_sections, ends_with}

-- Flags

-- calls that start a share, or ask for some of it (those on tasks and groups are in TaskRowExamples)
abbrev pub starts : List Call
starts = ten_by_three ∷ three_sections ∷ SingleStart ∷ SingleCopyStart ∷ []

abbrev pub nexts : List Call
nexts = LoopNext ∷ SectionsNext ∷ OrderedStart (pos 0) ∷ []

abbrev pub ends : List Call
ends = ends_with (7 ∷ [])

-- calls that arrive at a barrier
abbrev pub arrivals : List Call
arrivals = LoopEnd ∷ SectionsEnd ∷ Barrier ∷ RegionEnd ∷ []

-- all calls on shares and at barriers
abbrev pub in_team : List Call
in_team = starts ++ nexts ++ ends ++ arrivals

-- those on critical names, and those on locks
abbrev pub on_names : List Call
on_names = CriticalStart name_a ∷ CriticalEnd name_a ∷ []

abbrev pub on_locks : List Call
on_locks = LockInit ∷ NestInit ∷ LockDestroy 0 ∷ Set 0 ∷ TestLock 0 ∷ Unset 0 ∷ SetNest 1 ∷ TestNest 1 ∷ UnsetNest 1 ∷ []

abbrev pub in_book : List Call
in_book = on_names ++ on_locks

-- and the others
abbrev pub others : List Call
others = Resume ∷ Stop ∷ []

-- a flag of these calls
abbrev pub flags : (Row → Bool) → List Call → List Bool
flags flag calls = map (λ call. flag (row_of call)) calls

-- which of these calls take memory after these events
abbrev pub takers : List Event → List Call → List Bool
takers happened calls = map (λ call. asks_memory (row_of call) 0 (past_with 2 happened)) calls

-- the starts of shares that end with a barrier, and that of a single with words; neither a loop that ends without one nor a plain single
pub memory_of_starts : takers [] starts ≡ true ∷ true ∷ false ∷ true ∷ []
memory_of_starts = refl

pub no_memory_without_a_barrier : takers [] (one_nowait ∷ SectionsStart 3 Nowait ∷ []) ≡ false ∷ false ∷ []
no_memory_without_a_barrier = refl

-- and a barrier
pub memory_of_arrivals : takers [] arrivals ≡ false ∷ false ∷ true ∷ false ∷ []
memory_of_arrivals = refl

-- the first start of a critical construct, and the making of a lock
pub memory_of_book : takers [] in_book ≡ true ∷ false ∷ true ∷ true ∷ false ∷ false ∷ false ∷ false ∷ false ∷ false ∷ false ∷ []
memory_of_book = refl

-- a name that a member holds, and one that it has left
abbrev name_taken : List Event
name_taken = Hold (Critical name_a) 1 (Implicit 1) ∷ []

abbrev name_left : List Event
name_left = Free (Critical name_a) 1 (Implicit 1) ∷ name_taken

-- a name that was started before takes none, held or not, by whichever member; another name does
pub memory_of_names :
    (map (λ happened. takers happened on_names) (name_taken ∷ name_left ∷ []) ≡ (false ∷ false ∷ []) ∷ (false ∷ false ∷ []) ∷ [])
    × (map (λ happened. takers happened (CriticalStart name_b ∷ [])) (name_taken ∷ name_left ∷ (Hold (Lock 0) 1 (Implicit 1) ∷ []) ∷ []) ≡ (true ∷ []) ∷ (true ∷ []) ∷ (true ∷ []) ∷ [])
memory_of_names = (refl, refl)

-- no other call
pub memory_of_others : takers [] (nexts ++ ends ++ others) ≡ false ∷ false ∷ false ∷ false ∷ false ∷ false ∷ false ∷ false ∷ false ∷ []
memory_of_others = refl

-- a member stays in its place while it waits to start a share, for its next piece, or to begin a part
pub stays_while_waiting : flags (λ row. row.stays) (starts ++ nexts) ≡ true ∷ true ∷ true ∷ true ∷ true ∷ true ∷ true ∷ []
stays_while_waiting = refl

-- if it waits at a barrier it has left its share; the ends wait for nothing
pub moves_or_waits_never : flags (λ row. row.stays) (ends ++ arrivals ++ others) ≡ false ∷ false ∷ false ∷ false ∷ false ∷ false ∷ false ∷ false ∷ false ∷ false ∷ []
moves_or_waits_never = refl

-- a name or a lock is waited for wherever the member is
pub stays_for_no_lock : flags (λ row. row.stays) in_book ≡ map (λ call. false) in_book
stays_for_no_lock = refl

-- words are put at the end of a single with words
pub puts_of_ends : flags (λ row. row.puts) ends ≡ false ∷ false ∷ true ∷ false ∷ []
puts_of_ends = refl

-- and by no other call
pub puts_of_others : flags (λ row. row.puts) (starts ++ nexts ++ arrivals ++ others) ≡ false ∷ false ∷ false ∷ false ∷ false ∷ false ∷ false ∷ false ∷ false ∷ false ∷ false ∷ false ∷ false ∷ []
puts_of_others = refl

pub puts_of_book : flags (λ row. row.puts) in_book ≡ map (λ call. false) in_book
puts_of_book = refl

-- which name or lock these calls hold or free
abbrev pub keys : List Call → List (Option Key)
keys calls = map (λ call. (row_of call).holds) calls

pub keys_of_names : keys on_names ≡ Some (Critical name_a) ∷ Some (Critical name_a) ∷ []
keys_of_names = refl

-- a lock is held by its kind and number; one that is made or destroyed is not
pub keys_of_locks :
    keys on_locks ≡ None ∷ None ∷ None ∷ Some (Lock 0) ∷ Some (Lock 0) ∷ Some (Lock 0) ∷ Some (NestLock 1) ∷ Some (NestLock 1) ∷ Some (NestLock 1) ∷ []
keys_of_locks = refl

-- no other call holds any
pub keys_of_others : keys (in_team ++ others) ≡ map (λ call. None) (in_team ++ others)
keys_of_others = refl

-- at which kind of barrier these calls arrive
abbrev pub kinds : List Call → List (Option Arrival)
kinds calls = map (λ call. (row_of call).arrives) calls

pub kinds_of_arrivals : kinds arrivals ≡ Some ShareEnd ∷ Some ShareEnd ∷ Some BarrierArrival ∷ Some RegionEndArrival ∷ []
kinds_of_arrivals = refl

-- no other call arrives
pub kinds_of_others : kinds (starts ++ nexts ++ ends ++ others) ≡ None ∷ None ∷ None ∷ None ∷ None ∷ None ∷ None ∷ None ∷ None ∷ None ∷ None ∷ None ∷ None ∷ []
kinds_of_others = refl

pub kinds_of_book : kinds in_book ≡ map (λ call. None) in_book
kinds_of_book = refl

-- Places

-- a member has entered two shares, the second of which it is in, and has passed a barrier
abbrev pub in_the_second : List Event
in_the_second =
    Enter 0 0 (single_shape false) ∷ Take 0 0 0 1 ∷ End 0 0 ∷ Arrive 0 0 (at BarrierArrival 1) ∷ Pass 0 0 ∷ Enter 1 0 (single_shape true) ∷ Take 1 0 0 1 ∷ []

-- the breaks that these calls give
abbrev breaks : List Call → List Event
breaks [] = []
breaks (call ∷ calls) = refusal_gives Mismatch 0 ((row_of call).place 0 (past_with 1 in_the_second).events) ++ breaks calls

-- a start differs at the share that is the member's next
pub places_of_starts : breaks starts ≡ Break 0 (Share 2) ∷ Break 0 (Share 2) ∷ Break 0 (Share 2) ∷ Break 0 (Share 2) ∷ []
places_of_starts = refl

-- an arrival at the barrier that is
pub places_of_arrivals : breaks arrivals ≡ Break 0 (AtBarrier 1) ∷ Break 0 (AtBarrier 1) ∷ Break 0 (AtBarrier 1) ∷ Break 0 (AtBarrier 1) ∷ []
places_of_arrivals = refl

-- a number of a share that is too large is shown as the largest
pub place_of_late_share : (h : List Event) → shares_entered 0 h ≡ 18446744073709551616 → (row_of SingleStart).place 0 h ≡ Share 18446744073709551615
place_of_late_share h many = rw many refl

-- and so is one of a barrier
pub place_of_late_barrier : (h : List Event) → barriers_passed 0 h ≡ 18446744073709551616 → (row_of Barrier).place 0 h ≡ AtBarrier 18446744073709551615
place_of_late_barrier h many = rw many refl

-- Events that a call gives whatever it is answered

-- those of these calls there, the calls' in turn
abbrev begun : List Call → List (List Event)
begun calls = map (λ call. (row_of call).begins 0 (past_with 1 in_the_second)) calls

-- a share is left, words are put, a part is ended
pub begun_by_ends : begun ends ≡ (End 1 0 ∷ []) ∷ (End 1 0 ∷ []) ∷ (End 1 0 ∷ Put 1 0 (7 ∷ []) ∷ []) ∷ (PartEnd 1 0 ∷ []) ∷ []
begun_by_ends = refl

-- a share is left, and then the member has arrived
pub begun_by_arrivals :
    begun arrivals
    ≡ (Arrive 1 0 (at ShareEnd 2) ∷ End 1 0 ∷ []) ∷ (Arrive 1 0 (at ShareEnd 2) ∷ End 1 0 ∷ []) ∷ (Arrive 1 0 (at BarrierArrival 2) ∷ []) ∷ (Arrive 1 0 (at RegionEndArrival 2) ∷ []) ∷ []
begun_by_arrivals = refl

-- no other call gives an event before its answer
pub begun_by_others : begun (starts ++ nexts ++ others) ≡ [] ∷ [] ∷ [] ∷ [] ∷ [] ∷ [] ∷ [] ∷ [] ∷ [] ∷ []
begun_by_others = refl

pub begun_by_book : begun in_book ≡ map (λ call. []) in_book
begun_by_book = refl

-- Events that a reply gives

-- those of this call in a loop of four, ordered, in whose first piece the member is, for each of these replies
abbrev given : Call → List Reply → List Event
given call [] = []
given call (reply ∷ replies) =
    (row_of call).gives 0 (past_with 1 (Enter 0 0 (four true) ∷ Take 0 0 0 2 ∷ [])) reply ++ given call replies

-- those of each of these calls, one after another
abbrev given_each : List Call → List Reply → List Event
given_each [] replies = []
given_each (call ∷ calls) replies = given call replies ++ given_each calls replies

-- replies of other calls than one that asks for iterations
abbrev no_iterations : List Reply
no_iterations = Section 0 ∷ Section 1 ∷ Executor true ∷ Executor false ∷ Copied (7 ∷ []) ∷ Finished ∷ Passed ∷ Wait ∷ Stopped ∷ later_answers

-- than one that asks for a section
abbrev no_section : List Reply
no_section = Chunk (pos 0) 1 ∷ NoChunk ∷ Executor true ∷ Executor false ∷ Copied (7 ∷ []) ∷ Finished ∷ Passed ∷ Wait ∷ Stopped ∷ later_answers

-- than a single
abbrev no_single : List Reply
no_single = Chunk (pos 0) 1 ∷ NoChunk ∷ Section 0 ∷ Section 1 ∷ Copied (7 ∷ []) ∷ Finished ∷ Passed ∷ Wait ∷ Stopped ∷ later_answers

-- than one with words
abbrev no_copy : List Reply
no_copy = Chunk (pos 0) 1 ∷ NoChunk ∷ Section 0 ∷ Section 1 ∷ Executor false ∷ Finished ∷ Passed ∷ Wait ∷ Stopped ∷ later_answers

-- than one that only finishes, passes, runs a task, or stops
abbrev no_finish : List Reply
no_finish = Chunk (pos 0) 1 ∷ NoChunk ∷ Section 0 ∷ Section 1 ∷ Executor true ∷ Executor false ∷ Copied (7 ∷ []) ∷ Wait ∷ Created 1 ∷ TaskDone 1 true ∷ TaskDone 1 false ∷ lock_answers

-- a task that is run
abbrev runs : List Reply
runs = RunTask 1 7 70 false ∷ RunTask 1 7 70 true ∷ []

-- a start that waits enters nothing, and one that is answered as another call gives nothing
pub none_given_by_starts : given ten_by_three no_iterations ++ given three_sections no_section ++ given SingleStart no_single ++ given SingleCopyStart no_copy ≡ []
none_given_by_starts = refl

-- nor does a member that waits for its turn hand a piece on, or begin a part
pub none_given_by_nexts :
    given LoopNext no_iterations ++ given SectionsNext no_section ++ given (OrderedStart (pos 0)) (Passed ∷ Stopped ∷ runs ++ no_finish) ≡ []
none_given_by_nexts = refl

-- the ends give nothing beside what they have begun with
pub none_given_by_ends : given_each (ends_with []) (Finished ∷ Passed ∷ runs ++ no_finish) ≡ []
none_given_by_ends = refl

-- the arrivals nothing but the pass, and the start of a task
pub none_given_by_arrivals :
    given LoopEnd (Finished ∷ Stopped ∷ no_finish) ++ given SectionsEnd (Finished ∷ Stopped ∷ no_finish)
    ++ given Barrier (Finished ∷ Stopped ∷ no_finish) ++ given RegionEnd (Finished ∷ Stopped ∷ no_finish) ≡ []
none_given_by_arrivals = refl

-- a stop nothing but the break
pub none_given_by_stop : given Stop (Finished ∷ Passed ∷ runs ++ no_finish) ++ given Resume (Finished ∷ Passed ∷ Stopped ∷ runs ++ no_finish) ≡ []
none_given_by_stop = refl

-- a member that does not get a name or a lock holds nothing, and one that is answered as another call neither
pub none_held_or_freed :
    given (CriticalStart name_a) (Passed ∷ Stopped ∷ Wait ∷ GotLock false ∷ Count 0 ∷ LockMade 0 ∷ share_answers ++ task_answers) ++ given (Set 0) (Passed ∷ Stopped ∷ Wait ∷ GotLock false ∷ Count 0 ∷ LockMade 0 ∷ share_answers ++ task_answers)
    ++ given (TestLock 0) (Wait ∷ GotLock false ∷ Count 0 ∷ LockMade 0 ∷ share_answers ++ task_answers)
    ++ given (SetNest 1) (Wait ∷ GotLock false ∷ Count 0 ∷ LockMade 0 ∷ share_answers ++ task_answers) ++ given (TestNest 1) (Wait ∷ GotLock false ∷ Count 0 ∷ LockMade 0 ∷ share_answers ++ task_answers) ≡ []
none_held_or_freed = refl

-- nor does such an answer free any
pub none_freed :
    given (CriticalEnd name_a) (Wait ∷ GotLock true ∷ GotLock false ∷ LockMade 0 ∷ share_answers ++ task_answers) ++ given (Unset 0) (Wait ∷ GotLock true ∷ GotLock false ∷ LockMade 0 ∷ share_answers ++ task_answers)
    ++ given (UnsetNest 1) (Wait ∷ GotLock true ∷ GotLock false ∷ LockMade 0 ∷ share_answers ++ task_answers) ≡ []
none_freed = refl

-- a lock that is made or destroyed gives no event
pub none_given_by_makers :
    given LockInit (Finished ∷ Wait ∷ later_answers ++ share_answers) ++ given NestInit (Finished ∷ Wait ∷ later_answers ++ share_answers)
    ++ given (LockDestroy 0) (Finished ∷ Wait ∷ later_answers ++ share_answers) ≡ []
none_given_by_makers = refl

-- ten iterations in chunks of three
abbrev ten_shape : Shape
ten_shape = record { start = pos 0; incr = pos 1; trips = 10; kind = Dynamic; chunk = 3; ordered = false; end_kind = WaitEnd }

-- what each gives by its own replies: the starts
pub given_by_starts :
    (given ten_by_three (Chunk (pos 3) 3 ∷ []) ≡ Take 1 0 3 6 ∷ Enter 1 0 ten_shape ∷ [])
    × (given SingleStart (Executor true ∷ []) ≡ End 1 0 ∷ Take 1 0 0 1 ∷ Enter 1 0 (single_shape false) ∷ [])
    × (given SingleStart (Executor false ∷ []) ≡ End 1 0 ∷ Drained 1 0 ∷ Enter 1 0 (single_shape false) ∷ [])
    × (given SingleCopyStart (Executor true ∷ []) ≡ Take 1 0 0 1 ∷ Enter 1 0 (single_shape true) ∷ [])
    × (given SingleCopyStart (Copied (7 ∷ []) ∷ []) ≡ End 1 0 ∷ Got 1 0 (7 ∷ []) ∷ Drained 1 0 ∷ Enter 1 0 (single_shape true) ∷ [])
given_by_starts = (refl, refl, refl, refl, refl)

-- the others
pub given_by_others :
    (given LoopNext (Chunk (pos 2) 2 ∷ []) ≡ Take 0 0 2 4 ∷ HandOn 0 0 0 ∷ [])
    × (given LoopNext (NoChunk ∷ []) ≡ Drained 0 0 ∷ HandOn 0 0 0 ∷ [])
    × (given SectionsNext (Section 2 ∷ Section 0 ∷ []) ≡ Take 0 0 1 2 ∷ Drained 0 0 ∷ [])
    × (given (OrderedStart (pos 1)) (Finished ∷ []) ≡ Part 0 0 1 ∷ [])
    × (given Barrier (Passed ∷ []) ≡ Pass 0 0 ∷ [])
    × (map (λ call. given call runs) arrivals ≡ map (λ call. Start 1 0 ∷ Start 1 0 ∷ []) arrivals)
    × (given Stop (Stopped ∷ []) ≡ Break 0 AtStop ∷ [])
given_by_others = (refl, refl, refl, refl, refl, refl, refl)

-- the calls on names
pub given_by_names :
    (given (CriticalStart name_a) (Finished ∷ []) ≡ Hold (Critical name_a) 0 (Implicit 0) ∷ []) × (given (CriticalEnd name_a) (Finished ∷ []) ≡ Free (Critical name_a) 0 (Implicit 0) ∷ [])
given_by_names = (refl, refl)

-- and on locks
pub given_by_locks :
    (given (Set 3) (Finished ∷ []) ≡ Hold (Lock 3) 0 (Implicit 0) ∷ []) × (given (TestLock 3) (GotLock true ∷ []) ≡ Hold (Lock 3) 0 (Implicit 0) ∷ [])
    × (given (Unset 3) (Finished ∷ []) ≡ Free (Lock 3) 0 (Implicit 0) ∷ [])
    × (given (SetNest 3) (Count 2 ∷ []) ≡ Hold (NestLock 3) 0 (Implicit 0) ∷ []) × (given (TestNest 3) (Count 2 ∷ []) ≡ Hold (NestLock 3) 0 (Implicit 0) ∷ [])
    × (given (UnsetNest 3) (Count 2 ∷ Count 0 ∷ []) ≡ Free (NestLock 3) 0 (Implicit 0) ∷ Free (NestLock 3) 0 (Implicit 0) ∷ [])
given_by_locks = (refl, refl, refl, refl, refl, refl)

-- the second member holds for itself
pub given_by_the_second :
    ((row_of (Set 3)).gives 1 (past_with 2 []) Finished ≡ Hold (Lock 3) 1 (Implicit 1) ∷ []) × ((row_of (CriticalEnd name_b)).gives 1 (past_with 2 []) Finished ≡ Free (Critical name_b) 1 (Implicit 1) ∷ [])
given_by_the_second = (refl, refl)

-- Locks that there are

-- lock 0 is simple, lock 1 nestable, and lock 2 was destroyed
abbrev pub three_locks : List (Option LockKind)
three_locks = Some Simple ∷ Some Nest ∷ None ∷ []

-- those after each of these replies to a call
abbrev left_by : Call → List Reply → List (List (Option LockKind))
left_by call replies = map (λ reply. (row_of call).locks reply three_locks) replies

-- a lock that is made stands behind the others, with its kind
pub left_by_makers :
    (left_by LockInit (LockMade 3 ∷ Finished ∷ Count 3 ∷ []) ≡ (Some Simple ∷ Some Nest ∷ None ∷ Some Simple ∷ []) ∷ three_locks ∷ three_locks ∷ [])
    × (left_by NestInit (LockMade 3 ∷ Finished ∷ Count 3 ∷ []) ≡ (Some Simple ∷ Some Nest ∷ None ∷ Some Nest ∷ []) ∷ three_locks ∷ three_locks ∷ [])
left_by_makers = (refl, refl)

-- one that is destroyed leaves its place, and no other number changes
pub left_by_destroyers :
    (left_by (LockDestroy 0) (Finished ∷ Wait ∷ LockMade 3 ∷ []) ≡ (None ∷ Some Nest ∷ None ∷ []) ∷ three_locks ∷ three_locks ∷ [])
    × (left_by (LockDestroy 1) (Finished ∷ []) ≡ (Some Simple ∷ None ∷ None ∷ []) ∷ []) × (left_by (LockDestroy 3) (Finished ∷ []) ≡ three_locks ∷ [])
left_by_destroyers = (refl, refl, refl)

-- all calls that change none
abbrev no_makers : List Call
no_makers = in_team ++ on_names ++ Set 0 ∷ TestLock 0 ∷ Unset 0 ∷ SetNest 1 ∷ TestNest 1 ∷ UnsetNest 1 ∷ others

pub left_by_others :
    map (λ call. left_by call (Finished ∷ Wait ∷ later_answers ++ share_answers)) no_makers ≡ map (λ call. map (λ reply. three_locks) (Finished ∷ Wait ∷ later_answers ++ share_answers)) no_makers
left_by_others = refl

-- what a member of a team of this size gives after these events, when it is told that no iteration is left
abbrev last_given : ℕ → ℕ → List Event → List Event
last_given members m events = loop_next_row.gives m (past_with members events) NoChunk

-- the piece that it hands on has its own number, whatever was handed on before, and by the pieces of a team of this size
pub given_by_number :
    (last_given 2 0 (Enter 0 0 (four true) ∷ Take 0 0 2 4 ∷ []) ≡ Drained 0 0 ∷ HandOn 0 0 1 ∷ [])
    × (last_given 2 0 (Enter 0 0 (four true) ∷ Take 0 0 2 4 ∷ HandOn 0 1 0 ∷ []) ≡ Drained 0 0 ∷ HandOn 0 0 1 ∷ [])
    × (last_given 2 0 (Enter 0 0 (four true) ∷ Take 0 0 0 2 ∷ HandOn 0 1 0 ∷ []) ≡ Drained 0 0 ∷ HandOn 0 0 0 ∷ [])
    × (last_given 4 2 (Enter 0 2 (record even_four { ordered = true }) ∷ Take 0 2 2 3 ∷ []) ≡ Drained 0 2 ∷ HandOn 0 2 2 ∷ [])
    × (last_given 4 2 (Enter 0 2 even_four ∷ Take 0 2 2 3 ∷ []) ≡ Drained 0 2 ∷ [])
given_by_number = (refl, refl, refl, refl, refl)

-- The second member, if the first is elsewhere

-- it is in an ordered loop alone
abbrev second_inside : Past
second_inside = past_with 2 (Enter 0 1 (four true) ∷ Take 0 1 0 2 ∷ [])

pub part_of_the_second : (ordered_start_row (pos 0)).gives 1 second_inside Finished ≡ Part 0 1 0 ∷ []
part_of_the_second = refl

-- both have arrived, and the first has passed
abbrev second_arrived : Past
second_arrived = past_with 2 (Arrive 0 0 (at BarrierArrival 0) ∷ Arrive 0 1 (at BarrierArrival 0) ∷ Pass 0 0 ∷ [])

pub pass_of_the_second : barrier_row.gives 1 second_arrived Passed ≡ Pass 0 1 ∷ []
pass_of_the_second = refl

pub pass_of_the_first : barrier_row.gives 0 second_arrived Passed ≡ Pass 1 0 ∷ []
pass_of_the_first = refl

-- Shares that are started

-- a start names the share that the team compares
pub shapes_of_starts :
    map (λ call. (row_of call).starts) (three_sections ∷ SingleStart ∷ SingleCopyStart ∷ []) ≡ Some (sections_shape 3 WaitEnd) ∷ Some (single_shape false) ∷ Some (single_shape true) ∷ []
shapes_of_starts = refl

pub shape_of_a_loop_start : (row_of (ten_by_three)).starts ≡ Some (record { start = pos 0; incr = pos 1; trips = 10; kind = Dynamic; chunk = 3; ordered = false; end_kind = WaitEnd })
shape_of_a_loop_start = refl

-- an ordered loop's start too
pub shape_of_an_ordered_start : (row_of (LoopStart (record (up_to (pos 4) (pos 2)) { ordered = true }))).starts ≡ Some (four true)
shape_of_an_ordered_start = refl

-- and every other call none
pub no_share_started :
    map (λ call. (row_of call).starts) (nexts ++ (ends ++ (arrivals ++ others))) ≡ None ∷ None ∷ None ∷ None ∷ None ∷ None ∷ None ∷ None ∷ None ∷ None ∷ None ∷ None ∷ None ∷ []
no_share_started = refl

pub no_share_by_book : map (λ call. (row_of call).starts) in_book ≡ map (λ call. None) in_book
no_share_by_book = refl
