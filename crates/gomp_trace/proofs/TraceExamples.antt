-- What is written of some records: each rule of a lane, each name and category once, and lists that do not nest.
use Rattle.std.proofs.Common.{◌≡◌, List, [], ◌∷◌, refl, ap, subst}
use Rattle.std.specs.Prelude.{map, codes}
use Rattle.std.specs.Fmt.{digits}
use Rattle.gomp_ompt.specs.declared.record.Point.TheVariants.{ParallelBegin, ParallelEnd, Work, Dispatch, TaskCreate, Dependences, TaskSchedule, ImplicitTask, SyncRegion, MutexAcquire, MutexAcquired, MutexReleased, NestLock, Cancel}
use Rattle.gomp_ompt.specs.declared.record.Endpoint.TheVariants.{End}
use Rattle.gomp_ompt.specs.declared.record.Record.{Record}
use Rattle.gomp_ompt.specs.Records.{begin_record, end_record, single_record}
use Rattle.gomp_trace.specs.Lanes.{lane_records, lane_after, at_time}
use Rattle.gomp_trace.specs.Nesting.{Changes, Nests}
use Rattle.gomp_trace.specs.Runs.{join_events, lane_ends}
use Rattle.gomp_trace.specs.Names.{event_name, category}

-- a member's implicit task, a loop, a group of tasks, a task
abbrev region : Record
region = begin_record ImplicitTask 1 2

abbrev loop : Record
loop = begin_record Work 0 0

abbrev group : Record
group = begin_record SyncRegion 4 0

abbrev task : Record
task = begin_record TaskSchedule 7 0

-- Lanes

-- what begins is written, and has begun
pub begins_on_a_lane : (lane_records loop (region ∷ []) ≡ loop ∷ []) × (lane_after loop (region ∷ []) ≡ region ∷ loop ∷ [])
begins_on_a_lane = (refl, refl)

-- the end of the innermost ends that alone
pub ends_the_innermost :
    (lane_records (end_record Work 0 0) (region ∷ loop ∷ []) ≡ end_record Work 0 0 ∷ []) × (lane_after (end_record Work 0 0) (region ∷ loop ∷ []) ≡ region ∷ [])
ends_the_innermost = (refl, refl)

-- a loop ends in which a group has begun that goes on: the group ends first, and begins again behind it
pub ends_around_a_group :
    (lane_records (end_record Work 0 0) (region ∷ loop ∷ group ∷ []) ≡ end_record SyncRegion 4 0 ∷ end_record Work 0 0 ∷ group ∷ [])
    × (lane_after (end_record Work 0 0) (region ∷ loop ∷ group ∷ []) ≡ region ∷ group ∷ [])
ends_around_a_group = (refl, refl)

-- with a task ends all that has begun in it, and with the implicit task of another number too
pub ends_with_a_task :
    (lane_records (end_record TaskSchedule 7 0) (region ∷ task ∷ group ∷ []) ≡ end_record SyncRegion 4 0 ∷ end_record TaskSchedule 7 0 ∷ [])
    × (lane_after (end_record TaskSchedule 7 0) (region ∷ task ∷ group ∷ []) ≡ region ∷ [])
    × (lane_records (end_record ImplicitTask 0 0) (region ∷ loop ∷ []) ≡ end_record Work 0 0 ∷ end_record ImplicitTask 1 2 ∷ [])
    × (lane_after (end_record ImplicitTask 0 0) (region ∷ loop ∷ []) ≡ [])
ends_with_a_task = (refl, refl, refl, refl)

-- an end of what has not begun is of a moment, and so is a nestable lock that is set once more
pub moments_on_a_lane :
    (lane_records (end_record TaskSchedule 8 0) (region ∷ task ∷ []) ≡ single_record TaskSchedule 8 0 ∷ [])
    × (lane_after (end_record TaskSchedule 8 0) (region ∷ task ∷ []) ≡ region ∷ task ∷ [])
    × (lane_records (begin_record NestLock 3 2) (region ∷ []) ≡ single_record NestLock 3 2 ∷ [])
    × (lane_after (begin_record NestLock 3 2) (region ∷ []) ≡ region ∷ [])
moments_on_a_lane = (refl, refl, refl, refl)

-- Runs

-- the region ends once nothing goes on on any lane, and on the lane of member 0
pub region_ends_with_the_last :
    (join_events 5 ((region ∷ []) ∷ [] ∷ []) ≡ []) × (join_events 5 ([] ∷ [] ∷ []) ≡ at_time 5 0 (single_record ParallelEnd 2 0) ∷ [])
region_ends_with_the_last = (refl, refl)

-- what goes on behind the last step ends, lane by lane, the innermost first
pub ends_behind_the_last_step :
    lane_ends 9 0 ((region ∷ loop ∷ []) ∷ [] ∷ (region ∷ []) ∷ []) ≡ at_time 9 0 (end_record Work 0 0) ∷ at_time 9 0 (end_record ImplicitTask 1 2) ∷ at_time 9 2 (end_record ImplicitTask 1 2) ∷ []
ends_behind_the_last_step = refl

-- Nesting

-- an end of what is not innermost does not nest
pub crossing_does_not_nest : Nests [] (loop ∷ group ∷ end_record Work 0 0 ∷ []) (group ∷ []) → ⊥
crossing_does_not_nest nests =
    let inner : nests.2.0 ≡ group ∷ loop ∷ [] = rw nests.2.1 (ap (λ (outer : List Record). group ∷ outer) nests.1) in
    let ended_group = (subst (λ (begun : List Record). Changes End (end_record Work 0 0) begun nests.2.2.0) inner nests.2.2.1).0 in
    absurd (let point = ap (λ (event : Record). event.point) ended_group in cc)

-- nor an end of nothing
pub end_of_nothing_does_not_nest : Nests [] (end_record Work 0 0 ∷ []) [] → ⊥
end_of_nothing_does_not_nest nests = nests.1

-- nor does what has begun and not ended vanish
pub begun_does_not_vanish : Nests [] (loop ∷ []) [] → ⊥
begun_does_not_vanish nests = absurd (let begins = nests.1 in let ends = nests.2 in cc)

-- Names

-- the names of events
pub names_of_events :
    map event_name (single_record ParallelBegin 2 0 ∷ single_record ParallelEnd 2 0 ∷ loop ∷ begin_record Work 1 1 ∷ single_record Dispatch 0 3 ∷ single_record TaskCreate 7 1 ∷ single_record Dependences 7 2 ∷ task ∷ region ∷ [])
    ≡ codes "parallel region begins" ∷ codes "parallel region ends" ∷ codes "loop or sections" ∷ codes "single" ∷ codes "dispatch" ∷ codes "create task 7" ∷ codes "dependences of task 7" ∷ codes "task 7" ∷ codes "implicit task" ∷ []
unfolding event_name digits
names_of_events = refl

-- the names of waits
pub names_of_waits :
    map (λ place. event_name (begin_record SyncRegion place 0)) (1 ∷ 2 ∷ 3 ∷ 4 ∷ 5 ∷ []) ≡ codes "barrier" ∷ codes "end of work-share" ∷ codes "taskwait" ∷ codes "taskgroup" ∷ codes "end of region" ∷ []
unfolding event_name digits
names_of_waits = refl

-- the names of what one task holds, and of cancellations
pub names_of_holds :
    map event_name (single_record MutexAcquire 1 0 ∷ single_record MutexAcquired 2 0 ∷ single_record MutexReleased 3 0 ∷ single_record MutexAcquire 4 12 ∷ begin_record NestLock 12 2 ∷ [])
    ≡ codes "acquire critical" ∷ codes "lock acquired" ∷ codes "ordered released" ∷ codes "acquire nestable lock 12" ∷ codes "nestable lock 12 set 2 times" ∷ []
unfolding event_name digits
names_of_holds = refl

pub names_of_cancellations :
    map (λ kind. event_name (single_record Cancel kind 0)) (1 ∷ 2 ∷ 4 ∷ 8 ∷ []) ≡ codes "cancel parallel" ∷ codes "cancel loop" ∷ codes "cancel sections" ∷ codes "cancel taskgroup" ∷ []
unfolding event_name digits
names_of_cancellations = refl

-- the categories
pub categories_of_events :
    map category (ParallelBegin ∷ ParallelEnd ∷ Work ∷ Dispatch ∷ TaskCreate ∷ Dependences ∷ TaskSchedule ∷ ImplicitTask ∷ SyncRegion ∷ MutexAcquire ∷ MutexAcquired ∷ MutexReleased ∷ NestLock ∷ Cancel ∷ [])
    ≡ codes "parallel_begin" ∷ codes "parallel_end" ∷ codes "work" ∷ codes "dispatch" ∷ codes "task_create" ∷ codes "dependences" ∷ codes "task_schedule" ∷ codes "implicit_task" ∷ codes "sync_region" ∷ codes "mutex_acquire" ∷ codes "mutex_acquired" ∷ codes "mutex_released" ∷ codes "nest_lock" ∷ codes "cancel" ∷ []
unfolding category
categories_of_events = refl
