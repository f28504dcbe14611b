-- What is written on a lane, whatever has begun on it: a lemma for each line of the definitions, so that none says less unnoticed.
use Rattle.std.proofs.Common.{◌≡◌, ◌++◌, ◌∷◌, ◌==◌, ◌&&◌, ℕ, Bool, true, false, List, [], length, Some, None, refl, ap, arith, eq-eqb}
use Rattle.std.specs.Prelude.{codes, decimal, map}
use Rattle.std.proofs.Math.Seq.{drop-append_seam, drop-append-add, take-append_seam}
use Rattle.std.proofs.lemmas.List.{reverse-append}
use Rattle.gomp_ompt.specs.declared.record.Endpoint.TheVariants.{Begin, End, Single}
use Rattle.gomp_ompt.specs.declared.record.Point.{Point}
use Rattle.gomp_ompt.specs.declared.record.Point.TheVariants.{ParallelBegin, ParallelEnd, Work, Dispatch, TaskCreate, Dependences, TaskSchedule, ImplicitTask, SyncRegion, MutexAcquire, MutexAcquired, MutexReleased, NestLock, Cancel}
use Rattle.gomp_ompt.specs.declared.record.Record.{Record}
use Rattle.gomp_ompt.specs.Points.{point_index}
use Rattle.gomp_ompt.specs.Records.{begin_record, end_record, single_record}
use Rattle.gomp_trace.specs.Lanes.{after_end, all_at, all_ended, end_records, ended, ends, innermost, is_implicit, is_span, is_task, lane_after, lane_records, moment}
use Rattle.gomp_trace.specs.Names.{event_name}
use Rattle.gomp_trace.specs.Nesting.{Changes, Nests}

-- Kinds

-- all that a record can be of
abbrev every_point : List Point
every_point = ParallelBegin ∷ ParallelEnd ∷ Work ∷ Dispatch ∷ TaskCreate ∷ Dependences ∷ TaskSchedule ∷ ImplicitTask ∷ SyncRegion ∷ MutexAcquire ∷ MutexAcquired ∷ MutexReleased ∷ NestLock ∷ Cancel ∷ []

-- slices are work-shares, tasks, implicit tasks and waits
pub slices_of_points : map is_span every_point ≡ false ∷ false ∷ true ∷ false ∷ false ∷ false ∷ true ∷ true ∷ true ∷ false ∷ false ∷ false ∷ false ∷ false ∷ []
slices_of_points = refl

-- tasks are the explicit and the implicit ones
pub tasks_of_points : map is_task every_point ≡ false ∷ false ∷ false ∷ false ∷ false ∷ false ∷ true ∷ true ∷ false ∷ false ∷ false ∷ false ∷ false ∷ false ∷ []
tasks_of_points = refl

pub implicit_tasks_of_points : map is_implicit every_point ≡ false ∷ false ∷ false ∷ false ∷ false ∷ false ∷ false ∷ true ∷ false ∷ false ∷ false ∷ false ∷ false ∷ false ∷ []
implicit_tasks_of_points = refl

-- What an end ends

-- what has begun ends with its own numbers
pub end_has_numbers_of_begin : (point : Point) (id extra : ℕ) → ended (begin_record point id extra) ≡ end_record point id extra
end_has_numbers_of_begin point id extra = refl

pub moment_has_numbers_of_record : (event : Record) → moment event ≡ single_record event.point event.id event.extra
moment_has_numbers_of_record event = refl

-- an end ends what has begun of its kind with its number
pub end_of_own_number : (point : Point) (id extra other : ℕ) → ends (end_record point id extra) (begin_record point id other) ≡ true
end_of_own_number ParallelBegin id extra other = rw (eq-eqb id id refl) refl
end_of_own_number ParallelEnd id extra other = rw (eq-eqb id id refl) refl
end_of_own_number Work id extra other = rw (eq-eqb id id refl) refl
end_of_own_number Dispatch id extra other = rw (eq-eqb id id refl) refl
end_of_own_number TaskCreate id extra other = rw (eq-eqb id id refl) refl
end_of_own_number Dependences id extra other = rw (eq-eqb id id refl) refl
end_of_own_number TaskSchedule id extra other = rw (eq-eqb id id refl) refl
end_of_own_number ImplicitTask id extra other = refl
end_of_own_number SyncRegion id extra other = rw (eq-eqb id id refl) refl
end_of_own_number MutexAcquire id extra other = rw (eq-eqb id id refl) refl
end_of_own_number MutexAcquired id extra other = rw (eq-eqb id id refl) refl
end_of_own_number MutexReleased id extra other = rw (eq-eqb id id refl) refl
end_of_own_number NestLock id extra other = rw (eq-eqb id id refl) refl
end_of_own_number Cancel id extra other = rw (eq-eqb id id refl) refl

-- not what has begun of another kind
pub no_end_of_other_kind : (end begun : Record) → (point_index end.point == point_index begun.point) ≡ false → ends end begun ≡ false
no_end_of_other_kind end begun other = rw other refl

-- nor with another number, unless it is the implicit task of the lane
pub no_end_of_other_number : (end begun : Record) → is_implicit end.point ≡ false → (end.id == begun.id) ≡ false → ends end begun ≡ false
no_end_of_other_number end begun explicit other = rw (explicit, other) (without_number (point_index end.point == point_index begun.point))
  where
    without_number : (b : Bool) → (b && false) ≡ false
    without_number true = refl
    without_number false = refl

pub implicit_task_ends_by_any_number : (id extra other more : ℕ) → ends (end_record ImplicitTask id extra) (begin_record ImplicitTask other more) ≡ true
implicit_task_ends_by_any_number id extra other more = refl

-- The innermost

-- nothing ends where nothing has begun
pub none_is_innermost : (end : Record) → innermost end [] ≡ None
none_is_innermost end = refl

-- of all that an end may end it ends what has begun last
pub last_begun_is_innermost : (end begun : Record) (outer : List Record) → ends end begun ≡ true → innermost end (outer ++ begun ∷ []) ≡ Some (length outer)
last_begun_is_innermost end begun [] same = rw same refl
last_begun_is_innermost end begun (event ∷ outer) same = rw (last_begun_is_innermost end begun outer same) (ap Some (omega arith))

-- and passes over what it does not end
pub other_is_not_innermost : (end begun : Record) (outer : List Record) → ends end begun ≡ false → innermost end (outer ++ begun ∷ []) ≡ innermost end outer
other_is_not_innermost end begun [] other = rw other refl
other_is_not_innermost end begun (event ∷ outer) other = rw (other_is_not_innermost end begun outer other) refl

-- What is written of an end

-- what has begun last ends first
pub last_begun_ends_first : (outer : List Record) (inner : Record) → all_ended (outer ++ inner ∷ []) ≡ ended inner ∷ all_ended outer
last_begun_ends_first outer inner = ap (λ (all : List Record). map ended all) (reverse-append outer (inner ∷ []))

-- an end of what has not begun is of a moment, and ends nothing
pub end_without_begin_is_moment : (end : Record) (begun : List Record) → (end_records end None begun ≡ moment end ∷ []) × (after_end end None begun ≡ begun)
end_without_begin_is_moment end begun = (refl, refl)

-- what has begun within is ended, and begins again behind the end, in the order in which it began
pub inner_slices_begin_again : (end begun : Record) (outer inner : List Record) → is_task end.point ≡ false →
    (end_records end (Some (length outer)) (outer ++ begun ∷ inner) ≡ all_ended (begun ∷ inner) ++ inner) × (after_end end (Some (length outer)) (outer ++ begun ∷ inner) ≡ outer ++ inner)
inner_slices_begin_again end begun outer inner share = (
  rw (drop-append_seam outer (begun ∷ inner), drop-append-add outer (begun ∷ inner) 1, share) refl,
  rw (take-append_seam outer (begun ∷ inner), drop-append-add outer (begun ∷ inner) 1, share) refl,
)

-- but with a task ends all that has begun in it
pub inner_slices_end_with_task : (end begun : Record) (outer inner : List Record) → is_task end.point ≡ true →
    (end_records end (Some (length outer)) (outer ++ begun ∷ inner) ≡ all_ended (begun ∷ inner) ++ []) × (after_end end (Some (length outer)) (outer ++ begun ∷ inner) ≡ outer ++ [])
inner_slices_end_with_task end begun outer inner task = (
  rw (drop-append_seam outer (begun ∷ inner), task) refl,
  rw (take-append_seam outer (begun ∷ inner), task) refl,
)

-- three slices within a loop: they end from the last, and begin again from the first
pub three_begin_again_in_order : (a b c : Record) →
    end_records (end_record Work 0 0) (Some 0) (begin_record Work 0 0 ∷ a ∷ b ∷ c ∷ []) ≡ ended c ∷ ended b ∷ ended a ∷ end_record Work 0 0 ∷ a ∷ b ∷ c ∷ []
three_begin_again_in_order a b c = refl

-- Lanes

-- a slice that begins is written, and is innermost then
pub begin_is_written : (point : Point) (id extra : ℕ) (begun : List Record) → is_span point ≡ true →
    (lane_records (begin_record point id extra) begun ≡ begin_record point id extra ∷ []) × (lane_after (begin_record point id extra) begun ≡ begun ++ begin_record point id extra ∷ [])
begin_is_written point id extra begun span = (rw span refl, rw span refl)

-- an end is written of the innermost that it ends
pub end_is_of_innermost : (point : Point) (id extra : ℕ) (begun : List Record) → is_span point ≡ true →
    (lane_records (end_record point id extra) begun ≡ end_records (end_record point id extra) (innermost (end_record point id extra) begun) begun) × (lane_after (end_record point id extra) begun ≡ after_end (end_record point id extra) (innermost (end_record point id extra) begun) begun)
end_is_of_innermost point id extra begun span = (rw span refl, rw span refl)

-- what is of a moment neither begins nor ends anything
pub moment_changes_no_lane : (point : Point) (id extra : ℕ) (begun : List Record) → is_span point ≡ true →
    (lane_records (single_record point id extra) begun ≡ single_record point id extra ∷ []) × (lane_after (single_record point id extra) begun ≡ begun)
moment_changes_no_lane point id extra begun span = (rw span refl, rw span refl)

-- and so is whatever is no slice
pub other_record_is_moment : (event : Record) (begun : List Record) → is_span event.point ≡ false → (lane_records event begun ≡ moment event ∷ []) × (lane_after event begun ≡ begun)
other_record_is_moment event begun other = (rw other refl, rw other refl)

-- an event has its time and its member
pub event_is_at_its_time : (time member : ℕ) (event : Record) (events : List Record) → all_at time member (event ∷ events) ≡ record { time = time; member = member; event = event } ∷ all_at time member events
event_is_at_its_time time member event events = refl

-- Nesting

-- what begins is put in front of what has begun, which stays
pub begin_is_put_in_front : (event : Record) (before after : List Record) → Changes Begin event before after → after ≡ event ∷ before
begin_is_put_in_front event before after changes = changes

-- nothing ends where nothing has begun
pub nothing_ends_nothing : (event : Record) (after : List Record) → Changes End event [] after → ⊥
nothing_ends_nothing event after never = never

-- an end is of what began last, and of that alone
pub end_is_of_last_begun : (event inner : Record) (outer after : List Record) → Changes End event (inner ∷ outer) after → (event ≡ ended inner) × (after ≡ outer)
end_is_of_last_begun event inner outer after changes = (changes.0, changes.1)

-- a moment leaves what has begun
pub moment_changes_nothing : (event : Record) (before after : List Record) → Changes Single event before after → after ≡ before
moment_changes_nothing event before after changes = changes

-- records that nest do so one by one, and behind the last all is as it is said
pub no_records_nest_nothing : (before after : List Record) → Nests before [] after → before ≡ after
no_records_nest_nothing before after nests = nests

pub records_nest_one_by_one : (before after : List Record) (event : Record) (events : List Record) → Nests before (event ∷ events) after → (between : List Record) × Changes event.scope event before between × Nests between events after
records_nest_one_by_one before after event events nests = (nests.0, nests.1, nests.2)

-- Names

-- a task is named by its number
pub task_names_have_numbers : (id extra : ℕ) →
    (event_name (single_record TaskCreate id extra) ≡ codes "create task " ++ decimal id) × (event_name (single_record Dependences id extra) ≡ codes "dependences of task " ++ decimal id) × (event_name (begin_record TaskSchedule id extra) ≡ codes "task " ++ decimal id)
unfolding event_name
task_names_have_numbers id extra = (refl, refl, refl)

-- and a nestable lock by its own, with how often it is set
pub lock_names_have_numbers : (lock times : ℕ) →
    (event_name (single_record MutexAcquire 4 lock) ≡ codes "acquire " ++ (codes "nestable lock " ++ decimal lock)) × (event_name (begin_record NestLock lock times) ≡ codes "nestable lock " ++ decimal lock ++ codes " set " ++ decimal times ++ codes " times")
unfolding event_name
lock_names_have_numbers lock times = (refl, refl)
