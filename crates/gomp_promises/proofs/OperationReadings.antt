-- What an operation on a board asks for, is tested for and gives, of every member, board and number.
use Rattle.std.proofs.Common.{◌≢◌, ◌≡◌, ℕ, ◌+◌, Bool, true, false, List, [], ◌∷◌, ◌++◌, Some, None, if◌then◌else◌, refl}
use Rattle.std.specs.Prelude.{◌-◌, ◌&&◌, nat_le, not}
use Rattle.gomp_types.specs.declared.cancel.CancelKind.{CancelKind}
use Rattle.gomp_types.specs.declared.cancel.CancelKind.TheVariants as names
use Rattle.gomp_types.specs.declared.depend.Dep.{Dep}
use Rattle.gomp_events.specs.declared.event.Arrival.TheVariants as arrival
use Rattle.gomp_events.specs.declared.event.Event.{Event}
use Rattle.gomp_events.specs.declared.event.Event.TheVariants as event
use Rattle.gomp_events.specs.declared.event.Tag.{Tag}
use Rattle.gomp_types.specs.declared.limits.Limits.{Limits}
use Rattle.gomp_types.specs.declared.refusal.Clash.{Clash}
use Rattle.gomp_types.specs.declared.refusal.Place.{Place}
use Rattle.gomp_types.specs.declared.refusal.Place.TheVariants as broke
use Rattle.gomp_types.specs.declared.refusal.Refusal.{Refusal}
use Rattle.gomp_types.specs.declared.refusal.Refusal.TheVariants.{Ended, Broken, Waiting, NotInside, Mismatch}
use Rattle.gomp_types.specs.declared.reply.Reply.{Reply}
use Rattle.gomp_types.specs.declared.reply.Reply.TheVariants as reply
use Rattle.gomp_types.specs.declared.task.TaskDesc.{TaskDesc}
use Rattle.gomp_events.specs.CancelCalls.{cancel_tests, cancel_room, keeps_cancel, creates_covered, creates_uncovered, cancels_by, unless_cancelled}
use Rattle.gomp_events.specs.Cancels.{is_cancelled}
use Rattle.gomp_events.specs.Tags.{tag_differs}
use Rattle.gomp_events.specs.Events.{barriers_passed, tag_at, at_barrier, at_region_end, is_region_end, has_left_region, clash_of}
use Rattle.gomp_types.specs.Least.{least}
use Rattle.gomp_types.specs.Limits.{shown_number}
use Rattle.gomp_events.specs.TaskCalls.{outside_tasks_tests, unless_given_up, group_open_tests, items_tests, create_tests, end_task_tests, end_group_tests, room_tests, starts_task, ends_task, waited, opens_group, ends_group}
use Rattle.gomp_events.specs.declared.room.TheConstants.{TASK_ROOM, GROUP_ROOM, ARRIVAL_ROOM}
use Rattle.gomp_events.specs.Tasks.{in_task}
use Rattle.gomp_events.specs.Breaks.{broken_tests, refusal_gives}
use Rattle.gomp_board.specs.declared.op.Op.{Op}
use Rattle.gomp_board.specs.declared.op.Op.TheVariants as op
use Rattle.gomp_board.specs.declared.op.TeamCancel.{TeamCancel}
use Rattle.gomp_board.specs.declared.op.TeamCancel.TheVariants as team
use Rattle.gomp_board.proofs.Refused.{nothing_goes_back, others_give_nothing_back}
use Rattle.gomp_board.specs.Ops.{op_gives_back, arrival_asks, arrival_keeps, arrival_tests, awaits_barrier, begun, breaks, busy_tests, cancelled_by, creation_room_tests, region_end_tests, goes_to_the_end, is_stop, keeps_room, named_kind, op_member_tests, op_after, op_asks, op_begins, op_gives, op_keeps, op_place, op_refusal, op_tests, passes_barrier, words_ask, words_keep}

-- Room

-- an arrival asks for its room, but for what its member has kept
pub arrival_asks_for_its_room : (kept : ℕ) → (arrival_asks arrival.Barrier kept ≡ ARRIVAL_ROOM) × (arrival_asks arrival.RegionEnd kept ≡ 0) × (nat_le ARRIVAL_ROOM kept ≡ true → arrival_asks arrival.ShareEnd kept ≡ 0) × (nat_le ARRIVAL_ROOM kept ≡ false → arrival_asks arrival.ShareEnd kept ≡ ARRIVAL_ROOM)
arrival_asks_for_its_room kept = (refl, refl, λ some. rw some refl, λ none. rw none refl)

pub arrival_uses_what_was_kept : (kept : ℕ) → (arrival_keeps arrival.Barrier kept ≡ kept) × (arrival_keeps arrival.RegionEnd kept ≡ kept) × (nat_le ARRIVAL_ROOM kept ≡ true → arrival_keeps arrival.ShareEnd kept ≡ kept - ARRIVAL_ROOM) × (nat_le ARRIVAL_ROOM kept ≡ false → arrival_keeps arrival.ShareEnd kept ≡ kept)
arrival_uses_what_was_kept kept = (refl, refl, λ some. rw some refl, λ none. rw none refl)

-- so do words, of one event
pub words_ask_for_one_event : (kept : ℕ) → (words_ask kept ≡ (if nat_le 1 kept then 0 else 1)) × (words_keep kept ≡ (if nat_le 1 kept then kept - 1 else kept))
words_ask_for_one_event kept = (refl, refl)

-- each operation asks for its own
pub operation_asks_for_its_own : (desc : TaskDesc) (tag : Tag) (leaving clause allowed : Bool) (more share kept : ℕ) (words : List ℕ) (named : TeamCancel) →
    (op_asks (op.Create desc) kept ≡ TASK_ROOM) × (op_asks op.OpenGroup kept ≡ GROUP_ROOM) × (op_asks (op.Arrive tag leaving) kept ≡ arrival_asks tag.kind kept) × (op_asks (op.Reserve more) kept ≡ more) × (op_asks (op.Put share words) kept ≡ words_ask kept) × (op_asks (op.Got share words) kept ≡ words_ask kept) × (op_asks (op.Cancel named clause allowed) kept ≡ cancel_room (named_kind named))
operation_asks_for_its_own desc tag leaving clause allowed more share kept words named = (refl, refl, refl, refl, refl, refl, refl)

pub operation_asks_for_nothing : (items : List Dep) (leaving allowed : Bool) (kept back : ℕ) (named : TeamCancel) (place : Place) →
    (op_asks op.AwaitOwn kept ≡ 0) × (op_asks (op.EndTask leaving) kept ≡ 0) × (op_asks (op.Taskwait items) kept ≡ 0) × (op_asks (op.AwaitChildren items) kept ≡ 0) × (op_asks op.EndGroup kept ≡ 0) × (op_asks op.AwaitGroup kept ≡ 0) × (op_asks op.AwaitBarrier kept ≡ 0) × (op_asks (op.Point named allowed) kept ≡ 0) × (op_asks (op.Break place back) kept ≡ 0)
operation_asks_for_nothing items leaving allowed kept back named place = (refl, refl, refl, refl, refl, refl, refl, refl, refl)

-- and its member keeps what it does not use
pub member_keeps_by_its_operation : (tag : Tag) (leaving : Bool) (more share kept : ℕ) (words : List ℕ) →
    (op_keeps (op.Arrive tag leaving) kept ≡ arrival_keeps tag.kind kept) × (op_keeps (op.Reserve more) kept ≡ kept + more) × (op_keeps (op.Put share words) kept ≡ words_keep kept) × (op_keeps (op.Got share words) kept ≡ words_keep kept)
member_keeps_by_its_operation tag leaving more share kept words = (refl, refl, refl, refl)

-- a construct that differs gives back so much as its break says, or all that its member keeps; nothing else gives room back
pub room_goes_back_at_a_break : (place : Place) (back kept : ℕ) → op_gives_back (op.Break place back) Mismatch kept ≡ (if nat_le back kept then back else kept)
room_goes_back_at_a_break place back kept = refl

pub room_goes_back_at_a_mismatch_alone : (asked : Op) (refusal : Refusal) (kept : ℕ) → refusal ≢ Mismatch → op_gives_back asked refusal kept ≡ 0
room_goes_back_at_a_mismatch_alone asked refusal kept other = nothing_goes_back asked refusal kept other

pub room_goes_back_at_no_other_operation : (asked : Op) (kept : ℕ) → ((place : Place) (back : ℕ) → asked ≡ op.Break place back → ⊥) → op_gives_back asked Mismatch kept ≡ 0
room_goes_back_at_no_other_operation asked kept differs = others_give_nothing_back asked kept differs

-- Tests

pub member_is_tested_first : (m : ℕ) (h : List Event) (clash : Clash) → (op_member_tests m h ≡ (has_left_region m h, Ended) ∷ broken_tests (clash_of h)) × (broken_tests None ≡ []) × (broken_tests (Some clash) ≡ (true, Broken clash) ∷ [])
member_is_tested_first m h clash = (refl, refl, refl)

pub waiting_member_is_busy : (m : ℕ) (h : List Event) → (awaits_barrier m h ≡ at_barrier m h && not (in_task m h)) × (goes_to_the_end m h ≡ is_cancelled h && not (at_region_end m h)) × (busy_tests m h ≡ (awaits_barrier m h && not (goes_to_the_end m h), Waiting) ∷ [])
waiting_member_is_busy m h = (refl, refl, refl)

pub arrival_is_compared : (tag : Tag) (leaving : Bool) (m : ℕ) (h : List Event) →
    (arrival_tests tag m h ≡ (not (is_cancelled h) && tag_differs tag (tag_at (barriers_passed m h) h), Mismatch) ∷ []) × (region_end_tests arrival.RegionEnd leaving m h ≡ unless_given_up leaving (group_open_tests m h)) × (region_end_tests arrival.Barrier leaving m h ≡ []) × (region_end_tests arrival.ShareEnd leaving m h ≡ [])
arrival_is_compared tag leaving m h = (refl, refl, refl, refl)

pub task_operation_is_tested : (limits : Limits) (room kept m : ℕ) (desc : TaskDesc) (leaving : Bool) (items : List Dep) (h : List Event) →
    (op_tests limits room kept m (op.Create desc) h ≡ busy_tests m h ++ (create_tests limits desc.deps m h ++ creation_room_tests (creates_covered m h) limits room))
    × (op_tests limits room kept m op.AwaitOwn h ≡ busy_tests m h)
    × (op_tests limits room kept m (op.EndTask leaving) h ≡ busy_tests m h ++ end_task_tests leaving m h)
    × (op_tests limits room kept m (op.Taskwait items) h ≡ busy_tests m h ++ items_tests items)
    × (op_tests limits room kept m (op.AwaitChildren items) h ≡ busy_tests m h)
    × (op_tests limits room kept m op.OpenGroup h ≡ busy_tests m h ++ room_tests limits room GROUP_ROOM)
    × (op_tests limits room kept m op.EndGroup h ≡ busy_tests m h ++ end_group_tests m h)
    × (op_tests limits room kept m op.AwaitGroup h ≡ busy_tests m h)
task_operation_is_tested limits room kept m desc leaving items h = (refl, refl, refl, refl, refl, refl, refl, refl)

pub barrier_operation_is_tested : (limits : Limits) (room kept m : ℕ) (tag : Tag) (leaving : Bool) (h : List Event) →
    (op_tests limits room kept m (op.Arrive tag leaving) h ≡ busy_tests m h ++ (outside_tasks_tests m h ++ (region_end_tests tag.kind leaving m h ++ (arrival_tests tag m h ++ room_tests limits room (arrival_asks tag.kind kept)))))
    × (op_tests limits room kept m op.AwaitBarrier h ≡ (not (awaits_barrier m h), NotInside) ∷ [])
barrier_operation_is_tested limits room kept m tag leaving h = (refl, refl)

pub share_operation_is_tested : (limits : Limits) (room kept m more share : ℕ) (words : List ℕ) (h : List Event) →
    (op_tests limits room kept m (op.Reserve more) h ≡ busy_tests m h ++ (outside_tasks_tests m h ++ room_tests limits room more))
    × (op_tests limits room kept m (op.Put share words) h ≡ busy_tests m h ++ (outside_tasks_tests m h ++ room_tests limits room (words_ask kept)))
    × (op_tests limits room kept m (op.Got share words) h ≡ busy_tests m h ++ room_tests limits room (words_ask kept))
share_operation_is_tested limits room kept m more share words h = (refl, refl, refl)

pub cancelling_operation_is_tested : (limits : Limits) (room kept m back : ℕ) (named : TeamCancel) (clause allowed : Bool) (place : Place) (h : List Event) →
    (op_tests limits room kept m (op.Cancel named clause allowed) h ≡ busy_tests m h ++ (cancel_tests (named_kind named) m h ++ room_tests limits room (cancel_room (named_kind named))))
    × (op_tests limits room kept m (op.Point named allowed) h ≡ busy_tests m h ++ cancel_tests (named_kind named) m h)
    × (op_tests limits room kept m (op.Break place back) h ≡ (not (is_stop place), Mismatch) ∷ [])
cancelling_operation_is_tested limits room kept m back named clause allowed place h = (refl, refl, refl)

pub task_that_is_covered_asks_for_no_room : (limits : Limits) (room : ℕ) → (creation_room_tests true limits room ≡ []) × (creation_room_tests false limits room ≡ room_tests limits room TASK_ROOM)
task_that_is_covered_asks_for_no_room limits room = (refl, refl)

pub only_a_stop_breaks : (number : ℕ) → (is_stop broke.Stopped ≡ true) × (is_stop (broke.Share number) ≡ false) × (is_stop (broke.Barrier number) ≡ false)
only_a_stop_breaks number = (refl, refl, refl)

-- the least of all its refusals is the answer
pub operation_has_its_least_refusal : (limits : Limits) (room kept m : ℕ) (asked : Op) (h : List Event) → op_refusal limits room kept m asked h ≡ least (op_member_tests m h ++ op_tests limits room kept m asked h)
operation_has_its_least_refusal limits room kept m asked h = refl

-- Events

pub operation_begins_with_its_events : (m share : ℕ) (desc : TaskDesc) (tag : Tag) (leaving : Bool) (words : List ℕ) (asked : Op) (h : List Event) →
    (op_begins m (op.Create desc) h ≡ creates_uncovered m desc h)
    × (op_begins m (op.Arrive tag leaving) h ≡ unless_cancelled (is_cancelled h && not (is_region_end tag.kind)) (event.Arrive (barriers_passed m h) m tag ∷ []))
    × (op_begins m (op.Put share words) h ≡ event.Put share m words ∷ [])
    × (op_begins m (op.Got share words) h ≡ event.Got share m words ∷ [])
    × (begun m asked h ≡ op_begins m asked h ++ h)
operation_begins_with_its_events m share desc tag leaving words asked h = (refl, refl, refl, refl, refl)

pub pass_is_of_its_barrier : (m : ℕ) (place : Place) (h : List Event) → (passes_barrier m h reply.Passed ≡ event.Pass (barriers_passed m h) m ∷ []) × (breaks m place reply.Stopped ≡ event.Break m place ∷ [])
pass_is_of_its_barrier m place h = (refl, refl)

pub cancelled_construct_gives_its_events : (clause : Bool) (kind : CancelKind) (m : ℕ) (h : List Event) → (cancelled_by clause kind m h (reply.Cancelling true) ≡ cancels_by clause kind m h) × (cancelled_by clause kind m h (reply.Cancelling false) ≡ [])
cancelled_construct_gives_its_events clause kind m h = (refl, refl)

pub task_operation_gives_its_events : (m : ℕ) (desc : TaskDesc) (leaving : Bool) (items : List Dep) (h : List Event) (answer : Reply) →
    (op_gives m (op.Create desc) h answer ≡ starts_task m answer)
    × (op_gives m op.AwaitOwn h answer ≡ starts_task m answer)
    × (op_gives m (op.EndTask leaving) h answer ≡ ends_task m answer)
    × (op_gives m (op.Taskwait items) h answer ≡ waited m items answer)
    × (op_gives m (op.AwaitChildren items) h answer ≡ waited m items answer)
    × (op_gives m op.OpenGroup h answer ≡ opens_group m h answer)
    × (op_gives m op.EndGroup h answer ≡ ends_group m h answer)
    × (op_gives m op.AwaitGroup h answer ≡ ends_group m h answer)
task_operation_gives_its_events m desc leaving items h answer = (refl, refl, refl, refl, refl, refl, refl, refl)

pub other_operation_gives_its_events : (m more share back : ℕ) (tag : Tag) (leaving clause allowed : Bool) (words : List ℕ) (named : TeamCancel) (place : Place) (h : List Event) (answer : Reply) →
    (op_gives m (op.Arrive tag leaving) h answer ≡ passes_barrier m h answer)
    × (op_gives m op.AwaitBarrier h answer ≡ passes_barrier m h answer)
    × (op_gives m (op.Reserve more) h answer ≡ [])
    × (op_gives m (op.Put share words) h answer ≡ [])
    × (op_gives m (op.Got share words) h answer ≡ [])
    × (op_gives m (op.Cancel named clause allowed) h answer ≡ cancelled_by clause (named_kind named) m h answer)
    × (op_gives m (op.Point named allowed) h answer ≡ [])
    × (op_gives m (op.Break place back) h answer ≡ breaks m place answer)
other_operation_gives_its_events m more share back tag leaving clause allowed words named place h answer = (refl, refl, refl, refl, refl, refl, refl, refl)

pub refused_operation_gives_its_break : (m back : ℕ) (asked : Op) (place : Place) (h : List Event) →
    (refusal_gives Mismatch m place ≡ event.Break m place ∷ []) × (op_place m (op.Break place back) h ≡ place) × (op_place m op.AwaitBarrier h ≡ broke.Barrier (shown_number (barriers_passed m h))) × (op_after m asked (reply.Refused Mismatch) h ≡ event.Break m (op_place m asked h) ∷ h)
refused_operation_gives_its_break m back asked place h = (refl, refl, refl, refl)

pub passed_operation_gives_its_events : (m : ℕ) (asked : Op) (h : List Event) → op_after m asked reply.Passed h ≡ op_gives m asked (begun m asked h) reply.Passed ++ begun m asked h
passed_operation_gives_its_events m asked h = refl

-- what is cancelled of a team
pub team_cancellation_has_its_kind : (named_kind team.Parallel ≡ names.Parallel) × (named_kind team.Taskgroup ≡ names.Taskgroup)
team_cancellation_has_its_kind = (refl, refl)

-- a task that is dropped keeps no room, nor does what cancels nothing
pub dropped_task_keeps_no_room : (desc : TaskDesc) (named : TeamCancel) (clause allowed : Bool) (answer : Reply) → (keeps_room (op.Create desc) reply.Dropped ≡ false) × (keeps_room (op.Cancel named clause allowed) answer ≡ keeps_cancel clause answer)
dropped_task_keeps_no_room desc named clause allowed answer = (refl, refl)
