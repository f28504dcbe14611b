-- What holds of every list of events that the barriers of a team stand for: the laws that the crates above cite.
use Rattle.std.proofs.Common.{◌≡◌, ℕ, true, false, List, ◌∷◌, refl, inl, inr}
use Rattle.std.proofs.lemmas.Bool.{cases_Bool}
use Rattle.gomp_events.specs.declared.event.Tag.{Tag}
use Rattle.gomp_events.specs.declared.event.Event.{Event}
use Rattle.gomp_events.specs.Events.{barriers_passed, tag_at, is_region_end, has_left_region}
use Rattle.gomp_events.specs.Cancels.{is_cancelled}
use Rattle.gomp_events.specs.Tags.{tag_differs}
use Rattle.gomp_events.specs.Arrivals.{ArrivalLaws}
use Rattle.gomp_events.proofs.Laws.{arrival_rule_keeps_laws}
use Rattle.gomp_barrier.specs.Calls.{accepts_arrival, IsNoBarrierEvent}
use Rattle.gomp_barrier.specs.Stands.{BarriersView, Stands, barrier_members}
use Rattle.gomp_barrier.proofs.BarrierSteps.{aside_keeps}

-- whatever calls were made: all members arrive alike, at one barrier after another, and none passes before all arrived
pub barriers_keep_arrival_laws : (barriers : BarriersView) (h : List Event) → Stands barriers h → ArrivalLaws (barrier_members barriers) h
barriers_keep_arrival_laws barriers h st = arrival_rule_keeps_laws (barrier_members barriers) h st.rule

-- events of the work-shares, and a break, change nothing of the barriers; nor does the cancellation of a share or a group
pub events_aside_keep_barriers : (barriers : BarriersView) (h : List Event) (event : Event) → IsNoBarrierEvent event → Stands barriers h → Stands barriers (event ∷ h)
events_aside_keep_barriers = aside_keeps

-- an arrival with the tag of the others is accepted; in a cancelled region one at its end, by a member that has not left it
pub arrival_is_accepted : (m : ℕ) (tag : Tag) (h : List Event) → (is_cancelled h ≡ false → tag_differs tag (tag_at (barriers_passed m h) h) ≡ false) →
    (is_cancelled h ≡ true → (is_region_end tag.kind ≡ true) × (has_left_region m h ≡ false)) → accepts_arrival m tag h ≡ true
arrival_is_accepted m tag h alike ends = elim (cases_Bool (is_cancelled h)) [
  | inl on ↦ let at_end = ends on in rw (on, at_end.0, at_end.1) refl
  | inr off ↦ rw (off, alike off) refl
]
