-- The places of events.
use Rattle.std.proofs.Common.{◌≡◌, ℕ, ◌<◌, List, [], ◌∷◌, get_or, refl, sym, ap, ◌∙◌, arith}
use Rattle.gomp_ompt.specs.declared.record.Point.{Point}
use Rattle.gomp_ompt.specs.declared.record.Point.TheVariants.{ParallelBegin, ParallelEnd, Work, Dispatch, TaskCreate, Dependences, TaskSchedule, ImplicitTask, SyncRegion, MutexAcquire, MutexAcquired, MutexReleased, NestLock, Cancel}
use Rattle.gomp_ompt.specs.declared.record.TheConstants.{POINTS}
use Rattle.gomp_ompt.specs.Points.{point_index}

-- all events, in their order
abbrev all_points : List Point
all_points = ParallelBegin ∷ ParallelEnd ∷ Work ∷ Dispatch ∷ TaskCreate ∷ Dependences ∷ TaskSchedule ∷ ImplicitTask ∷ SyncRegion ∷ MutexAcquire ∷ MutexAcquired ∷ MutexReleased ∷ NestLock ∷ Cancel ∷ []

event_at_its_place : (point : Point) → get_or all_points (point_index point) ParallelBegin ≡ point
event_at_its_place ParallelBegin = refl
event_at_its_place point = refl

-- each has a place of its own
pub place_tells_the_event : (one other : Point) → point_index one ≡ point_index other → one ≡ other
place_tells_the_event one other same = sym (event_at_its_place one) ∙ ap (λ (k : ℕ). get_or all_points k ParallelBegin) same ∙ event_at_its_place other

-- there are fourteen
pub place_is_below_fourteen : (point : Point) → point_index point < POINTS
place_is_below_fourteen ParallelBegin = omega arith
place_is_below_fourteen point = omega arith
