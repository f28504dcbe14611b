-- What the barriers of no team stand for, of any member, barrier, tag and list of events; and which arrivals they do not refuse.
use Rattle.std.proofs.Common.{◌≡◌, ◌≢◌, ◌<◌, ℕ, true, false, List, ◌∷◌, ◌++◌}
use Rattle.gomp_types.specs.declared.cancel.Scope.TheVariants.{Region}
use Rattle.gomp_events.specs.declared.event.Arrival.TheVariants.{RegionEnd}
use Rattle.gomp_events.specs.declared.event.Tag.{Tag}
use Rattle.gomp_events.specs.declared.event.Event.{Event}
use Rattle.gomp_events.specs.declared.event.Event.TheVariants.{Arrive, Pass, Cancel}
use Rattle.gomp_events.specs.Events.{barriers_passed, tag_at, is_region_end, has_left_region}
use Rattle.gomp_events.specs.Cancels.{is_cancelled}
use Rattle.gomp_events.specs.Tags.{tag_differs}
use Rattle.gomp_events.specs.Laws.{Happened}
use Rattle.gomp_events.specs.Arrivals.{ArrivalLaws}
use Rattle.gomp_types.proofs.Booleans.{not_both}
use Rattle.gomp_events.proofs.Refutations.{NobodyCancelled, NeverAtTheEnd, arrival_laws_before, never_arrives_out_of_order, never_passes_out_of_order, never_arrives_with_another_tag, never_arrives_when_cancelled, never_passes_when_cancelled, never_passes_before_all, never_leaves_before_all}
use Rattle.gomp_barrier.specs.Calls.{accepts_arrival}
use Rattle.gomp_barrier.specs.Stands.{BarriersView, Stands, barrier_members}
use Rattle.gomp_barrier.proofs.Laws.{barriers_keep_arrival_laws, arrival_is_accepted}

-- none for a pass before every member has arrived, unless the region is cancelled
pub barriers_never_stand_for_an_early_pass : (barriers : BarriersView) (barrier m x : ℕ) (h : List Event) → ((n : ℕ) → Happened (Cancel n Region) h → ⊥) → x < barrier_members barriers → ((tag : Tag) → Happened (Arrive barrier x tag) h → ⊥) →
    Stands barriers (Pass barrier m ∷ h) → ⊥
barriers_never_stand_for_an_early_pass barriers barrier m x h whole within never st = never_passes_before_all (barrier_members barriers) barrier m x h whole within never (barriers_keep_arrival_laws barriers (Pass barrier m ∷ h) st)

-- no arrival with the tag of the others is refused
pub alike_never_refused : (m : ℕ) (tag : Tag) (h : List Event) → is_cancelled h ≡ false → tag_differs tag (tag_at (barriers_passed m h) h) ≡ false → accepts_arrival m tag h ≡ false → ⊥
alike_never_refused m tag h whole alike refused = not_both (accepts_arrival m tag h) (arrival_is_accepted m tag h (λ off. alike) (λ on. absurd (not_both (is_cancelled h) on whole))) refused

-- nor one at the end of a cancelled region, of a member that has not left it
pub end_never_refused : (m : ℕ) (tag : Tag) (h : List Event) → is_cancelled h ≡ true → is_region_end tag.kind ≡ true → has_left_region m h ≡ false → accepts_arrival m tag h ≡ false → ⊥
end_never_refused m tag h cancelled at_end stays refused = not_both (accepts_arrival m tag h) (arrival_is_accepted m tag h (λ off. absurd (not_both (is_cancelled h) cancelled off)) (λ on. (at_end, stays))) refused

-- What happened at any time, in a region that is cancelled or not

-- none for events that do not keep the laws of arrivals
pub barriers_never_stand_against_the_laws : (barriers : BarriersView) (h : List Event) → (ArrivalLaws (barrier_members barriers) h → ⊥) → Stands barriers h → ⊥
barriers_never_stand_against_the_laws barriers h broken st = broken (barriers_keep_arrival_laws barriers h st)

arrival_laws_kept_before : (barriers : BarriersView) (later h : List Event) → Stands barriers (later ++ h) → ArrivalLaws (barrier_members barriers) h
arrival_laws_kept_before barriers later h st = arrival_laws_before (barrier_members barriers) later h (barriers_keep_arrival_laws barriers (later ++ h) st)

-- so none for an arrival at a barrier that is not the member's next one
pub barriers_never_stand_for_an_arrival_out_of_order : (barriers : BarriersView) (barrier m : ℕ) (tag : Tag) (later h : List Event) → barrier ≢ barriers_passed m h → Stands barriers (later ++ Arrive barrier m tag ∷ h) → ⊥
barriers_never_stand_for_an_arrival_out_of_order barriers barrier m tag later h differs st = never_arrives_out_of_order (barrier_members barriers) barrier m tag h differs (arrival_laws_kept_before barriers later (Arrive barrier m tag ∷ h) st)

-- nor for a pass of another
pub barriers_never_stand_for_a_pass_out_of_order : (barriers : BarriersView) (barrier m : ℕ) (later h : List Event) → barrier ≢ barriers_passed m h → Stands barriers (later ++ Pass barrier m ∷ h) → ⊥
barriers_never_stand_for_a_pass_out_of_order barriers barrier m later h differs st = never_passes_out_of_order (barrier_members barriers) barrier m h differs (arrival_laws_kept_before barriers later (Pass barrier m ∷ h) st)

-- nor for an arrival with another tag than one before it, unless the region is cancelled
pub barriers_never_stand_for_another_tag : (barriers : BarriersView) (barrier m n : ℕ) (tag other : Tag) (later h : List Event) → NobodyCancelled Region h → Happened (Arrive barrier n other) h → other ≢ tag → Stands barriers (later ++ Arrive barrier m tag ∷ h) → ⊥
barriers_never_stand_for_another_tag barriers barrier m n tag other later h whole arrived differs st = never_arrives_with_another_tag (barrier_members barriers) barrier m n tag other h whole arrived differs (arrival_laws_kept_before barriers later (Arrive barrier m tag ∷ h) st)

-- nor, once it is cancelled, for an arrival elsewhere than at its end
pub barriers_never_stand_for_an_arrival_once_cancelled : (barriers : BarriersView) (barrier m n : ℕ) (tag : Tag) (later h : List Event) → Happened (Cancel n Region) h → tag.kind ≢ RegionEnd → Stands barriers (later ++ Arrive barrier m tag ∷ h) → ⊥
barriers_never_stand_for_an_arrival_once_cancelled barriers barrier m n tag later h cancelled differs st = never_arrives_when_cancelled (barrier_members barriers) barrier m n tag h cancelled differs (arrival_laws_kept_before barriers later (Arrive barrier m tag ∷ h) st)

-- nor for a pass before the member has arrived there
pub barriers_never_stand_for_a_pass_once_cancelled : (barriers : BarriersView) (barrier m n : ℕ) (later h : List Event) → Happened (Cancel n Region) h → NeverAtTheEnd m h → Stands barriers (later ++ Pass barrier m ∷ h) → ⊥
barriers_never_stand_for_a_pass_once_cancelled barriers barrier m n later h cancelled never st = never_passes_when_cancelled (barrier_members barriers) barrier m n h cancelled never (arrival_laws_kept_before barriers later (Pass barrier m ∷ h) st)

-- nor for a pass, at any time, before every member has arrived, unless it is cancelled
pub barriers_never_stand_for_a_pass_before_all : (barriers : BarriersView) (barrier m x : ℕ) (later h : List Event) → NobodyCancelled Region h → x < barrier_members barriers → ((tag : Tag) → Happened (Arrive barrier x tag) h → ⊥) → Stands barriers (later ++ Pass barrier m ∷ h) → ⊥
barriers_never_stand_for_a_pass_before_all barriers barrier m x later h whole within never st = never_passes_before_all (barrier_members barriers) barrier m x h whole within never (arrival_laws_kept_before barriers later (Pass barrier m ∷ h) st)

-- nor for a pass of the region's end before every member has arrived there, cancelled or not
pub barriers_never_stand_for_an_early_leave : (barriers : BarriersView) (barrier g m x : ℕ) (tag : Tag) (later h : List Event) → tag.kind ≡ RegionEnd → Happened (Arrive g m tag) h → x < barrier_members barriers → NeverAtTheEnd x h → Stands barriers (later ++ Pass barrier m ∷ h) → ⊥
barriers_never_stand_for_an_early_leave barriers barrier g m x tag later h kind arrived within never st = never_leaves_before_all (barrier_members barriers) barrier g m x tag h kind arrived within never (arrival_laws_kept_before barriers later (Pass barrier m ∷ h) st)
