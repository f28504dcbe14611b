-- When the barriers of a team stand for a list of events. (own)
use Rattle.std.specs.Prelude.{ℕ, ◌≡◌, Bool, true, false, not, List, length, All}
use Rattle.gomp_events.specs.declared.event.Event.{Event}
use Rattle.gomp_events.specs.Laws.{Always}
use Rattle.gomp_events.specs.Arrivals.{ArrivalRule}
use Rattle.gomp_events.specs.Cancels.{is_cancelled}
use Rattle.gomp_barrier.specs.declared.front.BarrierSeat.{BarrierSeat}
use Rattle.gomp_barrier.specs.declared.front.Front.{Front}
use Rattle.gomp_barrier.specs.declared.bound.BoundTasks.{BoundTasks}
use Rattle.gomp_barrier.specs.Seats.{is_ahead, IsThere, has_come_to_end, AllCome, FrontStands, SomeBehind}
use Rattle.gomp_barrier.specs.Bound.{bound_count, TasksStand}

-- the barriers of a team, as data
pub record BarriersView : Type 0 where
  pub seats : List BarrierSeat
  pub front : Front
  pub tasks : BoundTasks
  pub cancelled : Bool

-- the barriers of a region that is not cancelled
abbrev pub uncancelled : List BarrierSeat → Front → BoundTasks → BarriersView
uncancelled seats front tasks = record { seats = seats; front = front; tasks = tasks; cancelled = false }

-- how many members the team has
abbrev pub barrier_members : BarriersView → ℕ
barrier_members barriers = length barriers.seats

-- a member may pass the front of a region that is not cancelled: it has not, all are there, and no open task holds it up
pub record MayTurn (barriers : BarriersView) (member : BarrierSeat) : Type 0 where
  pub behind : is_ahead barriers.front member ≡ false
  pub there : All (IsThere barriers.front) barriers.seats
  -- none is bound to the front
  pub bound : bound_count barriers.tasks barriers.front.odd ≡ 0
  -- and at the region's end none to the barrier after it
  pub ended : has_come_to_end member ≡ true → bound_count barriers.tasks (not barriers.front.odd) ≡ 0

-- a member may pass the end of a cancelled region: it has not, all have come there, and no task is open
pub record MayLeave (seats : List BarrierSeat) (tasks : BoundTasks) (member : BarrierSeat) : Type 0 where
  pub stays : member.left ≡ false
  pub come : AllCome seats
  pub even : tasks.even ≡ 0
  pub odd : tasks.odd ≡ 0

-- each seat, the front, the counts and the flag say what the events do, some member has not passed the front, and the events keep their rule
pub record Stands (barriers : BarriersView) (h : List Event) : Type 0 where
  pub least : ℕ
  pub barrier : FrontStands barriers.seats barriers.front least h
  pub tasks : TasksStand barriers.tasks least h
  pub behind : SomeBehind barriers.front barriers.seats
  pub cancelled : is_cancelled h ≡ barriers.cancelled
  pub rule : Always (ArrivalRule (barrier_members barriers)) h
