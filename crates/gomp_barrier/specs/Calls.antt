-- What the calls on a team's barriers answer, require and add to the events. The newest event stands first. OpenMP API 5.2, section 15.3.
use Rattle.std.specs.Prelude.{ℕ, ◌<◌, ◌≡◌, ◌&&◌, Bool, true, false, not, if◌then◌else◌, List, ◌∷◌}
use Rattle.std.proofs.Common.{suc}
use Rattle.gomp_types.specs.declared.task.Task.{Task}
use Rattle.gomp_types.specs.declared.task.Task.TheVariants.{Implicit, Explicit}
use Rattle.gomp_events.specs.declared.event.Tag.{Tag}
use Rattle.gomp_events.specs.declared.event.Event.{Event}
use Rattle.gomp_events.specs.declared.event.Event.TheVariants.{Arrive, Pass, Create, Done, Cancel, Discard}
use Rattle.gomp_types.specs.declared.cancel.Scope.{Scope}
use Rattle.gomp_types.specs.declared.cancel.Scope.TheVariants.{Region}
use Rattle.gomp_events.specs.Events.{barriers_passed, arrival, tag_at, has_left_region, is_region_end}
use Rattle.gomp_events.specs.Cancels.{is_cancelled}
use Rattle.gomp_events.specs.Tags.{tag_differs}
use Rattle.gomp_events.specs.Tasks.{tasks_created, is_created, is_complete, epoch, epoch_of_child, is_odd}
use Rattle.gomp_types.specs.Limits.{shown_number}
use Rattle.gomp_barrier.specs.declared.barriers.AtBarrier.{AtBarrier}

-- what these events say of the member's next barrier
abbrev pub barrier_seen : ℕ → List Event → AtBarrier
barrier_seen m h = record {
  number = shown_number (barriers_passed m h);
  tag = tag_at (barriers_passed m h) h;
  arrived = arrival (barriers_passed m h) m h;
  left = has_left_region m h;
}

-- whether the barriers accept the member's arrival with this tag: with that of the others there; once the region is cancelled at its end alone, unless the member has left it (OpenMP API 5.2, section 16.1)
abbrev pub accepts_arrival : ℕ → Tag → List Event → Bool
accepts_arrival m tag h =
    if is_cancelled h then is_region_end tag.kind && not (has_left_region m h)
    else not (tag_differs tag (tag_at (barriers_passed m h) h))

-- the events after an arrival that was accepted, or was not
abbrev pub arrived_after : Bool → ℕ → Tag → List Event → List Event
arrived_after true m tag h = Arrive (barriers_passed m h) m tag ∷ h
arrived_after false m tag h = h

-- the events after the member has passed, or has not
abbrev pub turn_after : Bool → ℕ → List Event → List Event
turn_after true m h = Pass (barriers_passed m h) m ∷ h
turn_after false m h = h

-- the task was created, and is not complete
abbrev pub IsTaskOpen : ℕ → List Event → Type 0
IsTaskOpen t h = (is_created t h ≡ true) × (is_complete t h ≡ false)

-- a task in which one may be created: the implicit one of a member of the team, or an open explicit one
abbrev pub IsOpenParent : ℕ → Task → List Event → Type 0
IsOpenParent members (Implicit m) h = m < members
IsOpenParent members (Explicit t) h = IsTaskOpen t h

-- the next task is created in this one, bound to a barrier of this parity
pub record MayBind (members t : ℕ) (parent : Task) (odd : Bool) (h : List Event) : Type 0 where
  pub number : t ≡ suc (tasks_created h)
  pub parent_is : IsOpenParent members parent h
  pub parity : odd ≡ is_odd (epoch_of_child parent h)

-- an open task is ended or discarded, which is bound to a barrier of this parity
pub record MayRelease (t : ℕ) (odd : Bool) (h : List Event) : Type 0 where
  pub is_open : IsTaskOpen t h
  pub parity : odd ≡ is_odd (epoch t h)

-- a part of the region: a share or a group
abbrev pub IsShareOrGroup : Scope → Type 0
IsShareOrGroup Region = ⊥
IsShareOrGroup _ = Unit {0}

-- an event that the barriers do not see
abbrev pub IsNoBarrierEvent : Event → Type 0
IsNoBarrierEvent (Arrive barrier m tag) = ⊥
IsNoBarrierEvent (Pass barrier m) = ⊥
IsNoBarrierEvent (Create task m parent desc) = ⊥
IsNoBarrierEvent (Done task m) = ⊥
IsNoBarrierEvent (Discard task m) = ⊥
IsNoBarrierEvent (Cancel m scope) = IsShareOrGroup scope
IsNoBarrierEvent _ = Unit {0}
