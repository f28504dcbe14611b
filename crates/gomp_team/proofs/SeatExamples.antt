-- What calls ask of a member's seat: one of each kind, made and repeated.
use Rattle.std.proofs.Common.{ℤ, ◌≡◌, Bool, true, false, [], refl}
use Rattle.gomp_types.specs.declared.call.Call.TheVariants as calls
use Rattle.gomp_types.specs.declared.cancel.CancelKind.TheVariants.{Loop, Sections, Parallel, Taskgroup}
use Rattle.gomp_types.specs.declared.loop_desc.EndKind.TheVariants.{Wait, Nowait, Cancellable}
use Rattle.gomp_types.specs.declared.loop_desc.LoopDesc.{LoopDesc}
use Rattle.gomp_shares.specs.declared.admission.Construct.TheVariants as constructs
use Rattle.gomp_team_shares.specs.declared.inside.InsideCall.TheVariants as inside
use Rattle.gomp_team_shares.specs.declared.start.ShareStart.TheVariants as start
use Rattle.gomp_team.specs.Seats.{seat_ask}
use Rattle.gomp_team.specs.Seats.SeatAsk.{Aside, Starts, Inside, Ends, Puts}

-- a start asks for its construct, made or repeated
loop_asks_to_start : (allowed repeated : Bool) (desc : LoopDesc) → seat_ask allowed repeated (calls.LoopStart desc) ≡ Starts repeated (start.Loop desc)
loop_asks_to_start allowed repeated desc = refl

sections_ask_to_start : (allowed : Bool) → seat_ask allowed false (calls.SectionsStart 3 Nowait) ≡ Starts false (start.Sections 3 Nowait)
sections_ask_to_start allowed = refl

words_are_waited_for : (allowed : Bool) → seat_ask allowed true calls.SingleCopyStart ≡ Starts true start.SingleCopy
words_are_waited_for allowed = refl

-- a call on the member's share is that, made or repeated
next_chunk_is_asked : (allowed repeated : Bool) → seat_ask allowed repeated calls.LoopNext ≡ Inside (inside.Next constructs.Loop)
next_chunk_is_asked allowed repeated = refl

next_section_is_asked : (allowed repeated : Bool) → seat_ask allowed repeated calls.SectionsNext ≡ Inside (inside.Next constructs.Sections)
next_section_is_asked allowed repeated = refl

part_asks_to_begin : (allowed repeated : Bool) (value : ℤ) → seat_ask allowed repeated (calls.OrderedStart value) ≡ Inside (inside.BeginPart value)
part_asks_to_begin allowed repeated value = refl

-- so is the cancellation of a loop or sections, where cancellation is allowed or not; that of the region or of a group asks the board
loop_is_cancelled : (allowed clause : Bool) → seat_ask allowed false (calls.Cancel Loop clause) ≡ Inside (inside.Cancel constructs.Loop clause allowed)
loop_is_cancelled allowed clause = refl

point_asks_alone : (allowed : Bool) → seat_ask allowed false (calls.Point Sections) ≡ Inside (inside.Cancel constructs.Sections false allowed)
point_asks_alone allowed = refl

region_is_cancelled_aside : (allowed clause : Bool) → seat_ask allowed false (calls.Cancel Parallel clause) ≡ Aside
region_is_cancelled_aside allowed clause = refl

group_point_is_aside : (allowed : Bool) → seat_ask allowed false (calls.Point Taskgroup) ≡ Aside
group_point_is_aside allowed = refl

-- an end with a barrier is made once, and waits at that when it is repeated
loop_is_ended : (allowed : Bool) → seat_ask allowed false calls.LoopEnd ≡ Ends (record { construct = constructs.Loop; end_kind = Wait })
loop_is_ended allowed = refl

sections_are_ended : (allowed : Bool) → seat_ask allowed false calls.SectionsEndCancel ≡ Ends (record { construct = constructs.Sections; end_kind = Cancellable })
sections_are_ended allowed = refl

repeated_end_is_aside : (allowed : Bool) → seat_ask allowed true calls.LoopEnd ≡ Aside
repeated_end_is_aside allowed = refl

-- words are put
words_are_put : (allowed repeated : Bool) → seat_ask allowed repeated (calls.SingleCopyEnd []) ≡ Puts
words_are_put allowed repeated = refl

-- and barriers, tasks and locks ask nothing
barrier_is_aside : (allowed repeated : Bool) → seat_ask allowed repeated calls.Barrier ≡ Aside
barrier_is_aside allowed repeated = refl

region_end_is_aside : (allowed repeated : Bool) → seat_ask allowed repeated calls.RegionEnd ≡ Aside
region_end_is_aside allowed repeated = refl

lock_is_aside : (allowed repeated : Bool) → seat_ask allowed repeated (calls.Set 3) ≡ Aside
lock_is_aside allowed repeated = refl

task_end_is_aside : (allowed repeated : Bool) → seat_ask allowed repeated calls.TaskEnd ≡ Aside
task_end_is_aside allowed repeated = refl
