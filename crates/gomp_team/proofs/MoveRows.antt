-- A member's parts move as the model's rows have it: by each reply of a call the parts get the events that its row gives, counted in a history.
use Rattle.std.proofs.Common.{ℕ, ℤ, ◌≡◌, Bool, true, false, List, [], ◌∷◌, refl}
use Rattle.std.specs.Prelude.{map}
use Rattle.gomp_types.specs.declared.call.Call.{Call}
use Rattle.gomp_types.specs.declared.call.Call.TheVariants as calls
use Rattle.gomp_types.specs.declared.cancel.CancelKind.TheVariants as kinds
use Rattle.gomp_types.specs.declared.cancel.Scope.TheVariants.{Region}
use Rattle.gomp_types.specs.declared.depend.Dep.{Dep}
use Rattle.gomp_types.specs.declared.refusal.Refusal.TheVariants.{NotInTask, InsideShare, NotDrained, NotInside, NoGroup, TooDeep, TooManyDepends, AlreadyHeld, NotHolder, NoLock, CountTooLarge, Mismatch, NoMemory}
use Rattle.gomp_types.specs.declared.loop_desc.EndKind.TheVariants.{Wait as WaitEnd}
use Rattle.gomp_types.specs.declared.reply.Reply.{Reply}
use Rattle.gomp_types.specs.declared.reply.Reply.TheVariants.{Chunk, NoChunk, Section, Executor, Copied, Finished, Passed, Cancelled, Wait, Created, Dropped, Cancelling, Run, TaskDone, Lock, Got, Count, Stopped, Refused}
use Rattle.gomp_types.specs.declared.task.TaskDesc.{TaskDesc}
use Rattle.gomp_types.specs.ExampleShapes.{four}
use Rattle.gomp_types.specs.Sections.{sections_shape}
use Rattle.gomp_events.specs.declared.event.Event.{Event}
use Rattle.gomp_events.specs.declared.event.Event.TheVariants as events
use Rattle.gomp_model.specs.Calls.{row_of}
use Rattle.gomp_model.specs.Examples.{past_with}
use Rattle.gomp_model.specs.Row.{events_after}
use Rattle.gomp_model.proofs.RowExamples.{starts, in_book}
use Rattle.gomp_model.specs.ShareExamples.{ends_with}
use Rattle.gomp_team_board.specs.Counts.{counted_events, events_with}
use Rattle.gomp_team_board.specs.Parts.{PartView, part_of, counts_in}
use Rattle.gomp_team_book.specs.Parts.{BookPartView}
use Rattle.gomp_team.specs.Moves.{events_part, holds_part, releases_part}

-- Parts of a history

-- the events after a call of the last of two members, made or repeated, and its reply, by the model
abbrev modelled : Bool → List Event → Call → Reply → List Event
modelled repeated happened call reply = events_after repeated (row_of call) 1 (past_with 2 happened) reply

-- what the ledger counts of a history, and of it the member's creations, passes and starts
abbrev part_in : List Event → PartView
part_in h = part_of 1 (counted_events h) (counts_in 1 h)

abbrev part_by_model : Bool → List Event → Call → Reply → PartView
part_by_model repeated happened call reply = part_in (modelled repeated happened call reply)

-- the same part as the member keeps it
abbrev part_by_moves : Bool → List Event → Call → Reply → PartView
part_by_moves repeated happened call reply = events_part repeated call reply (part_in (past_with 2 happened).events)

-- what is held once more, and once less
abbrev is_hold : Event → Bool
is_hold (events.Hold key m task) = true
is_hold _ = false

abbrev is_release : Event → Bool
is_release (events.Free key m task) = true
is_release _ = false

-- so many of these in a history, on one part
abbrev book_part_in : (Event → Bool) → List Event → BookPartView
book_part_in test h = record { parts = 1; amount = events_with test h }

abbrev holds_by_model : Bool → List Event → Call → Reply → BookPartView
holds_by_model repeated happened call reply = book_part_in is_hold (modelled repeated happened call reply)

abbrev holds_by_moves : Bool → List Event → Call → Reply → BookPartView
holds_by_moves repeated happened call reply = holds_part repeated call reply (book_part_in is_hold (past_with 2 happened).events)

abbrev releases_by_model : Bool → List Event → Call → Reply → BookPartView
releases_by_model repeated happened call reply = book_part_in is_release (modelled repeated happened call reply)

abbrev releases_by_moves : Bool → List Event → Call → Reply → BookPartView
releases_by_moves repeated happened call reply = releases_part repeated call reply (book_part_in is_release (past_with 2 happened).events)

-- of each call by each reply
abbrev of_each : {X : Type 0} → (Call → Reply → X) → List Call → List Reply → List (List X)
of_each part called replies = map (λ (call : Call). map (λ (reply : Reply). part call reply) replies) called

-- Barriers

abbrev at_barriers : List Call
at_barriers = calls.Barrier ∷ calls.LoopEnd ∷ calls.LoopEndCancel ∷ calls.SectionsEnd ∷ calls.SectionsEndCancel ∷ []

abbrev runs_at_waits : ℕ → ℕ → ℕ → List Reply
runs_at_waits task code arg = Passed ∷ Run task code arg false ∷ Wait ∷ []

-- at once, and after a wait
pub arrivals_move_as_modelled : (task code arg : ℕ)
    → (of_each (part_by_moves false []) (calls.RegionEnd ∷ at_barriers) (Refused Mismatch ∷ Refused NotDrained ∷ runs_at_waits task code arg)
    ≡ of_each (part_by_model false []) (calls.RegionEnd ∷ at_barriers) (Refused Mismatch ∷ Refused NotDrained ∷ runs_at_waits task code arg))
    × (of_each (part_by_moves true []) (calls.RegionEnd ∷ at_barriers) (Refused NotInside ∷ runs_at_waits task code arg)
    ≡ of_each (part_by_model true []) (calls.RegionEnd ∷ at_barriers) (Refused NotInside ∷ runs_at_waits task code arg))
arrivals_move_as_modelled task code arg = (refl, refl)

-- the first member has cancelled the region
abbrev region_cancelled : List Event
region_cancelled = events.Cancel 0 Region ∷ []

pub cancelled_arrivals_move_as_modelled :
    (of_each (part_by_moves false region_cancelled) at_barriers (Cancelled ∷ []) ≡ of_each (part_by_model false region_cancelled) at_barriers (Cancelled ∷ []))
    × (of_each (part_by_moves true region_cancelled) at_barriers (Cancelled ∷ []) ≡ of_each (part_by_model true region_cancelled) at_barriers (Cancelled ∷ []))
cancelled_arrivals_move_as_modelled = (refl, refl)

-- Shares

-- a loop, sections and a single by their pieces, one with words by these
abbrev start_replies : ℤ → ℕ → List Reply
start_replies first amount = Chunk first amount ∷ NoChunk ∷ Section 0 ∷ Section 1 ∷ Section 65536 ∷ Executor true ∷ Executor false ∷ Wait ∷ Refused Mismatch ∷ Refused InsideShare ∷ Refused NoMemory ∷ []

pub starts_move_as_modelled : (first : ℤ) (amount : ℕ)
    → (of_each (part_by_moves false []) starts (start_replies first amount) ≡ of_each (part_by_model false []) starts (start_replies first amount))
    × (of_each (part_by_moves true []) starts (start_replies first amount) ≡ of_each (part_by_model true []) starts (start_replies first amount))
    × (of_each (part_by_moves false region_cancelled) starts (Cancelled ∷ []) ≡ of_each (part_by_model false region_cancelled) starts (Cancelled ∷ []))
    × (of_each (part_by_moves true region_cancelled) starts (Cancelled ∷ []) ≡ of_each (part_by_model true region_cancelled) starts (Cancelled ∷ []))
starts_move_as_modelled first amount = (refl, refl, refl, refl)

pub copies_move_as_modelled : (words : List ℕ)
    → (of_each (part_by_moves false []) (calls.SingleCopyStart ∷ []) (Copied words ∷ Copied [] ∷ []) ≡ of_each (part_by_model false []) (calls.SingleCopyStart ∷ []) (Copied words ∷ Copied [] ∷ []))
    × (of_each (part_by_moves true []) (calls.SingleCopyStart ∷ []) (Copied words ∷ Copied [] ∷ []) ≡ of_each (part_by_model true []) (calls.SingleCopyStart ∷ []) (Copied words ∷ Copied [] ∷ []))
copies_move_as_modelled words = (refl, refl)

-- the member is in an ordered loop, with its first piece, and in sections with none left
abbrev in_a_loop : List Event
in_a_loop = events.Enter 0 1 (four true) ∷ events.Take 0 1 0 2 ∷ []

abbrev in_sections : List Event
in_sections = events.Enter 0 1 (sections_shape 3 WaitEnd) ∷ events.Take 0 1 0 1 ∷ events.Drained 0 1 ∷ []

-- its next piece, and the start of an ordered part
pub pieces_move_as_modelled : (value first : ℤ) (amount : ℕ)
    → (of_each (part_by_moves false in_a_loop) (calls.LoopNext ∷ []) (Chunk first amount ∷ NoChunk ∷ Wait ∷ Refused NotInside ∷ []) ≡ of_each (part_by_model false in_a_loop) (calls.LoopNext ∷ []) (Chunk first amount ∷ NoChunk ∷ Wait ∷ Refused NotInside ∷ []))
    × (of_each (part_by_moves true in_a_loop) (calls.LoopNext ∷ []) (Chunk first amount ∷ NoChunk ∷ Wait ∷ Refused NotInside ∷ []) ≡ of_each (part_by_model true in_a_loop) (calls.LoopNext ∷ []) (Chunk first amount ∷ NoChunk ∷ Wait ∷ Refused NotInside ∷ []))
    × (of_each (part_by_moves false in_sections) (calls.SectionsNext ∷ []) (Section 0 ∷ Section 1 ∷ Section 65536 ∷ Refused NotInside ∷ []) ≡ of_each (part_by_model false in_sections) (calls.SectionsNext ∷ []) (Section 0 ∷ Section 1 ∷ Section 65536 ∷ Refused NotInside ∷ []))
    × (of_each (part_by_moves false in_a_loop) (calls.OrderedStart value ∷ []) (Finished ∷ Wait ∷ Refused NotInside ∷ []) ≡ of_each (part_by_model false in_a_loop) (calls.OrderedStart value ∷ []) (Finished ∷ Wait ∷ Refused NotInside ∷ []))
pieces_move_as_modelled value first amount = (refl, refl, refl, refl)

-- the ends that are done at once, and those with a barrier
pub ends_move_as_modelled : (words : List ℕ) (task code arg : ℕ)
    → (of_each (part_by_moves false in_a_loop) (ends_with words) (Finished ∷ Refused NotInside ∷ []) ≡ of_each (part_by_model false in_a_loop) (ends_with words) (Finished ∷ Refused NotInside ∷ []))
    × (of_each (part_by_moves false in_sections) (ends_with words) (Finished ∷ Refused NotInside ∷ []) ≡ of_each (part_by_model false in_sections) (ends_with words) (Finished ∷ Refused NotInside ∷ []))
    × (of_each (part_by_moves false in_sections) at_barriers (runs_at_waits task code arg) ≡ of_each (part_by_model false in_sections) at_barriers (runs_at_waits task code arg))
ends_move_as_modelled words task code arg = (refl, refl, refl)

-- Tasks and groups

pub creations_move_as_modelled : (desc : TaskDesc) (task code arg : ℕ)
    → (of_each (part_by_moves false []) (calls.TaskCreate desc ∷ []) (Created task ∷ Run task code arg true ∷ Run task code arg false ∷ Wait ∷ Refused TooDeep ∷ Refused NoMemory ∷ [])
    ≡ of_each (part_by_model false []) (calls.TaskCreate desc ∷ []) (Created task ∷ Run task code arg true ∷ Run task code arg false ∷ Wait ∷ Refused TooDeep ∷ Refused NoMemory ∷ []))
    × (of_each (part_by_moves true []) (calls.TaskCreate desc ∷ []) (Run task code arg true ∷ Run task code arg false ∷ Wait ∷ Dropped ∷ Refused NotInside ∷ [])
    ≡ of_each (part_by_model true []) (calls.TaskCreate desc ∷ []) (Run task code arg true ∷ Run task code arg false ∷ Wait ∷ Dropped ∷ Refused NotInside ∷ []))
    × (of_each (part_by_moves false region_cancelled) (calls.TaskCreate desc ∷ []) (Dropped ∷ []) ≡ of_each (part_by_model false region_cancelled) (calls.TaskCreate desc ∷ []) (Dropped ∷ []))
creations_move_as_modelled desc task code arg = (refl, refl, refl)

pub tasks_move_as_modelled : (items : List Dep) (task code arg : ℕ) (waiting : Bool)
    → (of_each (part_by_moves false []) (calls.TaskEnd ∷ []) (TaskDone task waiting ∷ Refused NotInTask ∷ []) ≡ of_each (part_by_model false []) (calls.TaskEnd ∷ []) (TaskDone task waiting ∷ Refused NotInTask ∷ []))
    × (of_each (part_by_moves false []) (calls.Taskwait items ∷ []) (Refused TooManyDepends ∷ runs_at_waits task code arg) ≡ of_each (part_by_model false []) (calls.Taskwait items ∷ []) (Refused TooManyDepends ∷ runs_at_waits task code arg))
    × (of_each (part_by_moves true []) (calls.Taskwait items ∷ []) (Refused NotInside ∷ runs_at_waits task code arg) ≡ of_each (part_by_model true []) (calls.Taskwait items ∷ []) (Refused NotInside ∷ runs_at_waits task code arg))
tasks_move_as_modelled items task code arg waiting = (refl, refl, refl)

-- the member has a group open
abbrev group_open : List Event
group_open = events.Group 0 1 ∷ []

pub groups_move_as_modelled : (task code arg : ℕ)
    → (of_each (part_by_moves false []) (calls.GroupStart ∷ []) (Finished ∷ Refused NoMemory ∷ []) ≡ of_each (part_by_model false []) (calls.GroupStart ∷ []) (Finished ∷ Refused NoMemory ∷ []))
    × (of_each (part_by_moves false group_open) (calls.GroupEnd ∷ []) (Refused NoGroup ∷ runs_at_waits task code arg) ≡ of_each (part_by_model false group_open) (calls.GroupEnd ∷ []) (Refused NoGroup ∷ runs_at_waits task code arg))
    × (of_each (part_by_moves true group_open) (calls.GroupEnd ∷ []) (Refused NotInside ∷ runs_at_waits task code arg) ≡ of_each (part_by_model true group_open) (calls.GroupEnd ∷ []) (Refused NotInside ∷ runs_at_waits task code arg))
groups_move_as_modelled task code arg = (refl, refl, refl)

-- Cancellation, and the stop

-- constructs of each kind
abbrev constructs : List Call
constructs = calls.Cancel kinds.Parallel true ∷ calls.Cancel kinds.Parallel false ∷ calls.Cancel kinds.Loop true ∷ calls.Cancel kinds.Sections true ∷ calls.Point kinds.Parallel ∷ calls.Point kinds.Loop ∷ calls.Point kinds.Taskgroup ∷ []

pub constructs_move_as_modelled :
    of_each (part_by_moves false []) constructs (Cancelling true ∷ Cancelling false ∷ Refused NotInside ∷ []) ≡ of_each (part_by_model false []) constructs (Cancelling true ∷ Cancelling false ∷ Refused NotInside ∷ [])
constructs_move_as_modelled = refl

pub stops_move_as_modelled : of_each (part_by_moves false []) (calls.Stop ∷ []) (Stopped ∷ []) ≡ of_each (part_by_model false []) (calls.Stop ∷ []) (Stopped ∷ [])
stops_move_as_modelled = refl

-- Names and locks

-- they give no event of the board's, whatever the call is answered
abbrev key_replies : ℕ → List Reply
key_replies number = Finished ∷ Wait ∷ Lock number ∷ Got true ∷ Got false ∷ Count 0 ∷ Count 1 ∷ Count number ∷ Refused AlreadyHeld ∷ Refused NoLock ∷ []

pub keys_move_events_as_modelled :
    (of_each (part_by_moves false []) in_book (key_replies 7) ≡ of_each (part_by_model false []) in_book (key_replies 7))
    × (of_each (part_by_moves true []) in_book (key_replies 7) ≡ of_each (part_by_model true []) in_book (key_replies 7))
keys_move_events_as_modelled = (refl, refl)

-- what a reply holds and frees stands in the history
abbrev both_of_keys : Bool → Call → List Reply → Type 0
both_of_keys repeated call replies =
    (map (holds_by_moves repeated [] call) replies ≡ map (holds_by_model repeated [] call) replies) × (map (releases_by_moves repeated [] call) replies ≡ map (releases_by_model repeated [] call) replies)

pub names_move_as_modelled : (name : List ℕ)
    → both_of_keys false (calls.CriticalStart name) (Finished ∷ Wait ∷ Refused AlreadyHeld ∷ Refused NoMemory ∷ [])
    × both_of_keys true (calls.CriticalStart name) (Finished ∷ Wait ∷ Refused NotInside ∷ [])
    × both_of_keys false (calls.CriticalEnd name) (Finished ∷ Refused NotHolder ∷ [])
names_move_as_modelled name = ((refl, refl), (refl, refl), (refl, refl))

pub simple_locks_move_as_modelled : (number : ℕ)
    → both_of_keys false (calls.Set number) (Finished ∷ Wait ∷ Refused NoLock ∷ [])
    × both_of_keys true (calls.Set number) (Finished ∷ Wait ∷ Refused NoLock ∷ [])
    × both_of_keys false (calls.Test number) (Got true ∷ Got false ∷ Refused NoLock ∷ [])
    × both_of_keys false (calls.Unset number) (Finished ∷ Refused NotHolder ∷ [])
simple_locks_move_as_modelled number = ((refl, refl), (refl, refl), (refl, refl), (refl, refl))

-- a nestable lock that is set has a count of 1 or more
pub nestable_locks_move_as_modelled : (number : ℕ)
    → both_of_keys false (calls.SetNest number) (Count 1 ∷ Count 2 ∷ Count 65535 ∷ Wait ∷ Refused CountTooLarge ∷ [])
    × both_of_keys true (calls.SetNest number) (Count 1 ∷ Count 2 ∷ Count 65535 ∷ Wait ∷ Refused NoLock ∷ [])
    × both_of_keys false (calls.TestNest number) (Count 0 ∷ Count 1 ∷ Count 65535 ∷ Refused CountTooLarge ∷ [])
    × both_of_keys false (calls.UnsetNest number) (Count 0 ∷ Count 1 ∷ Count 65534 ∷ Refused NotHolder ∷ [])
nestable_locks_move_as_modelled number = ((refl, refl), (refl, refl), (refl, refl), (refl, refl))

pub makings_move_as_modelled : (made number : ℕ)
    → both_of_keys false calls.LockInit (Lock made ∷ Refused CountTooLarge ∷ []) × both_of_keys false calls.NestInit (Lock made ∷ Refused NoMemory ∷ []) × both_of_keys false (calls.LockDestroy number) (Finished ∷ Refused NoLock ∷ [])
makings_move_as_modelled made number = ((refl, refl), (refl, refl), (refl, refl))
