-- Each call keeps the barriers of a team in step with the events.
use Rattle.std.proofs.Common.{◌≡◌, ℕ, ◌+◌, ◌<◌, ◌≤◌, Bool, true, false, List, [], ◌∷◌, Option, Some, None, length, slice_get, slice_set, get_or, replicate, refl, ap, ◌∙◌, sym, subst, arith, suc, zero, ◌⊎◌, inl, inr}
use Rattle.std.specs.Prelude.{◌&&◌, ◌||◌, not, if◌then◌else◌, is_some, All, IsTrue, ◌↔◌}
use Rattle.std.proofs.lemmas.Bool.{cases_Bool}
use Rattle.std.proofs.lemmas.List.{length-set, get_or-replicate, length-replicate}
use Rattle.std.proofs.lemmas.Option.{slice_get-get_or, slice_get_within, get_or_from_slice_get}
use Rattle.gomp_events.specs.declared.event.Tag.{Tag}
use Rattle.gomp_types.specs.declared.task.Task.{Task}
use Rattle.gomp_types.specs.declared.task.Task.TheVariants.{Implicit, Explicit}
use Rattle.gomp_types.specs.declared.task.TaskDesc.{TaskDesc}
use Rattle.gomp_events.specs.declared.event.Event.{Event}
use Rattle.gomp_events.specs.declared.event.Event.TheVariants.{Arrive, Pass, Create, Done, Cancel, Discard}
use Rattle.gomp_types.specs.declared.cancel.Scope.{Scope}
use Rattle.gomp_types.specs.declared.cancel.Scope.TheVariants.{Region, OneShare, OneGroup}
use Rattle.gomp_events.specs.Cancels.{same_scope, is_cancelled}
use Rattle.gomp_events.specs.Events.{barriers_passed, arrival, tag_at, has_left_region, was_region_end, is_region_end, at_barrier, at_region_end, all_arrived}
use Rattle.gomp_types.specs.Members.{every_member}
use Rattle.gomp_events.specs.Tasks.{is_created, epoch_of_child, all_complete, is_odd}
use Rattle.gomp_events.specs.Goals.{bound_complete, barrier_met, region_met, may_pass}
use Rattle.gomp_types.specs.Limits.{shown_number}
use Rattle.gomp_events.specs.Tags.{tag_differs}
use Rattle.gomp_events.specs.Laws.{Always}
use Rattle.gomp_events.specs.Arrivals.{MayArrive, ArrivalRule}
use Rattle.gomp_events.proofs.ArrivalsKeep.{uncancelled_before, same_arrivals, pass_uncancelled, pass_cancelled}
use Rattle.gomp_types.proofs.Booleans.{every_tells, false_of_not, some_of, and_left, and_right, or_right, not_both, every_by}
use Rattle.gomp_events.proofs.EndsPassed.{comes_to_end}
use Rattle.gomp_events.proofs.OpenTasks.{created_low, created_high}
use Rattle.gomp_events.proofs.TagsCompared.{same_tags}
use Rattle.gomp_types.proofs.Lists.{slice_get-set}
use Rattle.gomp_events.proofs.Refutations.{ends_the_region}
use Rattle.gomp_barrier.specs.declared.front.BarrierSeat.{BarrierSeat}
use Rattle.gomp_barrier.specs.declared.front.Front.{Front}
use Rattle.gomp_barrier.specs.declared.barriers.AtBarrier.{AtBarrier}
use Rattle.gomp_barrier.specs.Seats.{differ, is_ahead, has_odd_number, seat_accepts, gone_from, has_come_to_end, tag_for, number_for, IsThere, arrived_at, passed_by, next_front, barrier_of, SeatStands, FrontStands, SomeBehind}
use Rattle.gomp_barrier.specs.Calls.{barrier_seen, accepts_arrival, IsShareOrGroup, IsOpenParent, MayBind, MayRelease, IsNoBarrierEvent}
use Rattle.gomp_barrier.specs.declared.bound.BoundTasks.{BoundTasks}
use Rattle.gomp_barrier.specs.Bound.{open_bound, bound_count, one_more, one_less, TasksStand}
use Rattle.gomp_barrier.specs.Stands.{BarriersView, Stands, MayTurn, MayLeave, uncancelled}
use Rattle.gomp_barrier.proofs.BarrierKeeps.{not_gone_yet, stays_here, next_behind, next_gone, tag_is, number_is, arrival_keeps_the_front, turn_arrived, pass_keeps_the_front, moves_on, behind_again, there_before, met_by, met_all, not_met_ahead}
use Rattle.gomp_barrier.proofs.BoundKeeps.{odd_next, front_complete, front_closed, tasks_complete, tasks_closed, tasks_move_on, bind_keeps, release_keeps, discard_keeps}
use Rattle.gomp_barrier.proofs.RegionEnds.{waits_there, others_end}

-- The value of a team's barriers, and their fields

pub view_stands_too : (view now : BarriersView) (h : List Event) → view ≡ now → Stands now h → Stands view h
view_stands_too view now h e st = rw e st

-- barriers with these seats, this front and these counts stand for the events
abbrev pub StandAt : List BarrierSeat → Front → BoundTasks → Bool → List Event → Type 0
StandAt seats front tasks cancelled h = Stands (record { seats = seats; front = front; tasks = tasks; cancelled = cancelled }) h

-- Looking

pub look_is : (seats : List BarrierSeat) (front : Front) (tasks : BoundTasks) (cancelled : Bool) (m : ℕ) (seat : BarrierSeat) (h : List Event) → StandAt seats front tasks cancelled h → slice_get seats m ≡ Some seat →
    record { number = number_for front seat; tag = tag_for front seat; arrived = seat.arrived; left = seat.left } ≡ barrier_seen m h
look_is seats front tasks cancelled m seat h st at =
    let p = st.barrier.seat m seat at in
    let number : number_for front seat ≡ shown_number (barriers_passed m h) = number_is seats front st.least seat h st.barrier ∙ ap shown_number (sym p.passed_is) in
    let tag : tag_for front seat ≡ tag_at (barriers_passed m h) h = sym (tag_is seats front st.least seat h st.barrier) ∙ ap (λ g. tag_at g h) (sym p.passed_is) in
    let arrived : seat.arrived ≡ arrival (barriers_passed m h) m h = sym p.here ∙ ap (λ g. arrival g m h) (sym p.passed_is) in
    let left : seat.left ≡ has_left_region m h = sym p.left_is in
    same_look _ _ _ _ _ _ _ _ number tag arrived left
  where
    same_look : (n n2 : ℕ) (t t2 a a2 : Option Tag) (l l2 : Bool) → n ≡ n2 → t ≡ t2 → a ≡ a2 → l ≡ l2 → ◌≡◌ {A = AtBarrier} (record { number = n; tag = t; arrived = a; left = l }) (record { number = n2; tag = t2; arrived = a2; left = l2 })
    same_look n n2 t t2 a a2 l l2 e f g i = rw (e, f, g, i) refl

-- the parity of how many barriers the member has passed
pub odd_is : (seats : List BarrierSeat) (front : Front) (tasks : BoundTasks) (cancelled : Bool) (m : ℕ) (seat : BarrierSeat) (h : List Event) → StandAt seats front tasks cancelled h → slice_get seats m ≡ Some seat → has_odd_number seat ≡ is_odd (barriers_passed m h)
odd_is seats front tasks cancelled m seat h st at = by seat.gone seat.odd front.odd st.barrier.parity (st.barrier.seat m seat at).passed_is
  where
    odd_second : (n : ℕ) → is_odd (n + 2) ≡ is_odd n
    odd_second n = let e : n + 2 ≡ suc (suc n) = omega arith in rw e (twice (is_odd n))
      where
        twice : (b : Bool) → not (not b) ≡ b
        twice true = refl
        twice false = refl

    by : (gone own first : Bool) → first ≡ is_odd st.least → barriers_passed m h ≡ (if gone then (if differ own first then st.least + 2 else st.least + 1) else if differ own first then st.least + 1 else st.least) → differ own gone ≡ is_odd (barriers_passed m h)
    by false true true parity passed = parity ∙ ap is_odd (sym passed)
    by false false false parity passed = parity ∙ ap is_odd (sym passed)
    by false true false parity passed = ap not parity ∙ sym (odd_next st.least) ∙ ap is_odd (sym passed)
    by false false true parity passed = ap not parity ∙ sym (odd_next st.least) ∙ ap is_odd (sym passed)
    by true true true parity passed = ap not parity ∙ sym (odd_next st.least) ∙ ap is_odd (sym passed)
    by true false false parity passed = ap not parity ∙ sym (odd_next st.least) ∙ ap is_odd (sym passed)
    by true true false parity passed = parity ∙ sym (odd_second st.least) ∙ ap is_odd (sym passed)
    by true false true parity passed = parity ∙ sym (odd_second st.least) ∙ ap is_odd (sym passed)

-- whether the member waits at a barrier
pub waits_is : (seats : List BarrierSeat) (front : Front) (tasks : BoundTasks) (cancelled : Bool) (m : ℕ) (seat : BarrierSeat) (h : List Event) → StandAt seats front tasks cancelled h → slice_get seats m ≡ Some seat → is_some seat.arrived ≡ at_barrier m h
waits_is seats front tasks cancelled m seat h st at =
    let p = st.barrier.seat m seat at in
    ap is_some (sym p.here ∙ ap (λ g. arrival g m h) (sym p.passed_is)) ∙ sym (waits_there (length seats) m h st.rule)

-- Aside

-- an event that is no arrival and no pass leaves the seats and the front
abbrev IsNoArrival : Event → Type 0
IsNoArrival (Arrive barrier k tag) = ⊥
IsNoArrival (Pass barrier k) = ⊥
IsNoArrival _ = Unit {0}

aside_seat : (front : Front) (least m : ℕ) (seat : BarrierSeat) (event : Event) (h : List Event) → IsNoArrival event → SeatStands front least m seat h → SeatStands front least m seat (event ∷ h)
aside_seat front least m seat (Arrive barrier k tag) h is p = absurd is
aside_seat front least m seat (Pass barrier k) h is p = absurd is
aside_seat front least m seat (Cancel k scope) h is p = record {
  passed_is = p.passed_is;
  here = p.here;
  behind = p.behind;
  beyond = p.beyond;
  left_is = p.left_is;
  gone_is = λ e. let was = p.gone_is e in (or_right (same_scope scope Region) (is_cancelled h) was.0, was.1);
}
aside_seat front least m seat _ h is p = record { passed_is = p.passed_is; here = p.here; behind = p.behind; beyond = p.beyond; left_is = p.left_is; gone_is = p.gone_is }

aside_tag : (event : Event) (h : List Event) → IsNoArrival event → (g : ℕ) → tag_at g (event ∷ h) ≡ tag_at g h
aside_tag (Arrive barrier k tag) h is g = absurd is
aside_tag (Pass barrier k) h is g = absurd is
aside_tag _ h is g = refl

aside_rule : (members : ℕ) (event : Event) (h : List Event) → IsNoArrival event → ArrivalRule members event h
aside_rule members (Arrive barrier k tag) h is = absurd is
aside_rule members (Pass barrier k) h is = absurd is
aside_rule members _ h is = tt

-- so the barriers stand for it, if the counts do
counts_keep : (seats : List BarrierSeat) (front : Front) (tasks after : BoundTasks) (cancelled now : Bool) (event : Event) (h : List Event) → IsNoArrival event → (st : StandAt seats front tasks cancelled h) → TasksStand after st.least (event ∷ h) → is_cancelled (event ∷ h) ≡ now → StandAt seats front after now (event ∷ h)
counts_keep seats front tasks after cancelled now event h is st counts flag = record {
  least = st.least;
  barrier = record {
    parity = st.barrier.parity;
    number = st.barrier.number;
    tag = aside_tag event h is st.least ∙ st.barrier.tag;
    next = aside_tag event h is (st.least + 1) ∙ st.barrier.next;
    beyond = λ g le. aside_tag event h is g ∙ st.barrier.beyond g le;
    seat = λ m seat at. aside_seat front st.least m seat event h is (st.barrier.seat m seat at);
  };
  tasks = counts;
  behind = st.behind;
  cancelled = flag;
  rule = (aside_rule (length seats) event h is, st.rule);
}

no_arrival : (event : Event) → IsNoBarrierEvent event → IsNoArrival event
no_arrival (Arrive barrier k tag) is = is
no_arrival (Pass barrier k) is = is
no_arrival _ is = tt

-- a cancellation leaves the counts
cancel_tasks : (tasks : BoundTasks) (least m : ℕ) (scope : Scope) (h : List Event) → TasksStand tasks least h → TasksStand tasks least (Cancel m scope ∷ h)
cancel_tasks tasks least m scope h t = record { counted = t.counted; near = λ whole. t.near (uncancelled_before (Cancel m scope) h whole); unborn = t.unborn }

aside_tasks : (tasks : BoundTasks) (least : ℕ) (event : Event) (h : List Event) → IsNoBarrierEvent event → TasksStand tasks least h → TasksStand tasks least (event ∷ h)
aside_tasks tasks least (Create task k parent desc) h is t = absurd is
aside_tasks tasks least (Done task k) h is t = absurd is
aside_tasks tasks least (Discard task k) h is t = absurd is
aside_tasks tasks least (Cancel k scope) h is t = cancel_tasks tasks least k scope h t
aside_tasks tasks least _ h is t = record { counted = t.counted; near = t.near; unborn = t.unborn }

-- a share or a group is not the region
part_differs : (scope : Scope) → IsShareOrGroup scope → same_scope scope Region ≡ false
part_differs Region is = absurd is
part_differs (OneShare i) is = refl
part_differs (OneGroup p) is = refl

aside_flag : (event : Event) (h : List Event) → IsNoBarrierEvent event → is_cancelled (event ∷ h) ≡ is_cancelled h
aside_flag (Create task k parent desc) h is = refl
aside_flag (Cancel k scope) h is = rw (part_differs scope is) refl
aside_flag _ h is = refl

pub aside_keeps : (barriers : BarriersView) (h : List Event) (event : Event) → IsNoBarrierEvent event → Stands barriers h → Stands barriers (event ∷ h)
aside_keeps barriers h event is st =
    counts_keep barriers.seats barriers.front barriers.tasks barriers.tasks barriers.cancelled barriers.cancelled event h (no_arrival event is) st (aside_tasks barriers.tasks st.least event h is st.tasks) (aside_flag event h is ∙ st.cancelled)

-- Arriving

pub tag_here : (seats : List BarrierSeat) (front : Front) (tasks : BoundTasks) (cancelled : Bool) (m : ℕ) (seat : BarrierSeat) (h : List Event) → StandAt seats front tasks cancelled h → slice_get seats m ≡ Some seat → tag_at (barriers_passed m h) h ≡ tag_for front seat
tag_here seats front tasks cancelled m seat h st at =
    ap (λ g. tag_at g h) (st.barrier.seat m seat at).passed_is ∙ tag_is seats front st.least seat h st.barrier

ahead_stays : (front after : Front) (m : ℕ) (seat new : BarrierSeat) (seats : List BarrierSeat) → slice_get seats m ≡ Some seat → new.odd ≡ seat.odd → after.odd ≡ front.odd → SomeBehind front seats → SomeBehind after (slice_set seats m new)
ahead_stays front after m seat new seats at odd turn behind = λ all. behind (λ k d lt.
    let here : slice_get seats k ≡ Some (get_or seats k d) = slice_get-get_or seats k d lt in
    let longer : k < length (slice_set seats m new) = rw (length-set seats m new) lt in
    let now : slice_get (slice_set seats m new) k ≡ Some (get_or (slice_set seats m new) k d) = slice_get-get_or (slice_set seats m new) k d longer in
    let ahead : is_ahead after (get_or (slice_set seats m new) k d) ≡ true = all k d longer in
    elim (slice_get-set seats m k new (get_or (slice_set seats m new) k d) now) [
      | inl e ↦
          let own : Some (get_or seats k d) ≡ Some seat = sym here ∙ ap (slice_get seats) e.0 ∙ at in
          let same : get_or seats k d ≡ seat = let t = own in cc in
          same_ahead (get_or (slice_set seats m new) k d) (get_or seats k d) (ap (λ (p : BarrierSeat). p.odd) e.1 ∙ odd ∙ ap (λ (p : BarrierSeat). p.odd) (sym same)) ahead
      | inr e ↦
          let own : Some (get_or seats k d) ≡ Some (get_or (slice_set seats m new) k d) = sym here ∙ e.1 in
          let same : get_or seats k d ≡ get_or (slice_set seats m new) k d = let t = own in cc in
          same_ahead (get_or (slice_set seats m new) k d) (get_or seats k d) (ap (λ (p : BarrierSeat). p.odd) (sym same)) ahead
    ])
  where
    same_ahead : (one other : BarrierSeat) → one.odd ≡ other.odd → is_ahead after one ≡ true → is_ahead front other ≡ true
    same_ahead one other e is = subst (λ odd. differ odd front.odd ≡ true) e (subst (λ odd. differ one.odd odd ≡ true) turn is)

-- whether an arrival is accepted, by the seat
pub accept_is : (seats : List BarrierSeat) (front : Front) (tasks : BoundTasks) (cancelled : Bool) (m : ℕ) (seat : BarrierSeat) (tag : Tag) (h : List Event) → StandAt seats front tasks cancelled h → slice_get seats m ≡ Some seat → accepts_arrival m tag h ≡ seat_accepts cancelled front seat tag
accept_is seats front tasks true m seat tag h st at =
    let on : is_cancelled h ≡ true = st.cancelled in
    rw (on, (st.barrier.seat m seat at).left_is) refl
accept_is seats front tasks false m seat tag h st at =
    let off : is_cancelled h ≡ false = st.cancelled in
    rw (off, tag_here seats front tasks false m seat h st at) refl

-- who may arrive is not gone
arriver_stays : (seats : List BarrierSeat) (front : Front) (tasks : BoundTasks) (cancelled : Bool) (m : ℕ) (seat : BarrierSeat) (tag : Tag) (h : List Event) → StandAt seats front tasks cancelled h → slice_get seats m ≡ Some seat → seat_accepts cancelled front seat tag ≡ true → seat.gone ≡ false
arriver_stays seats front tasks true m seat tag h st at fine = stays_here front st.least m seat h (false_of_not seat.left (and_right (is_region_end tag.kind) (not seat.left) fine)) (st.barrier.seat m seat at)
arriver_stays seats front tasks false m seat tag h st at fine = not_gone_yet front st.least m seat h st.cancelled (st.barrier.seat m seat at)

-- and keeps the rule
arriver_may : (seats : List BarrierSeat) (front : Front) (tasks : BoundTasks) (cancelled : Bool) (m : ℕ) (seat : BarrierSeat) (tag : Tag) (h : List Event) → StandAt seats front tasks cancelled h → slice_get seats m ≡ Some seat → seat_accepts cancelled front seat tag ≡ true → MayArrive (barriers_passed m h) m tag h
arriver_may seats front tasks true m seat tag h st at fine = record {
  number = refl;
  same = λ whole. absurd (let on : is_cancelled h ≡ true = st.cancelled in not_both (is_cancelled h) on whole);
  ends = λ on. ends_the_region tag.kind (and_left (is_region_end tag.kind) (not seat.left) fine);
}
arriver_may seats front tasks false m seat tag h st at fine = record {
  number = refl;
  same = λ whole. same_tags tag (tag_at (barriers_passed m h) h) (ap (tag_differs tag) (tag_here seats front tasks false m seat h st at) ∙ false_of_not (tag_differs tag (tag_for front seat)) fine);
  ends = λ on. absurd (let off : is_cancelled h ≡ false = st.cancelled in not_both (is_cancelled h) on off);
}

pub arrive_keeps : (seats : List BarrierSeat) (front : Front) (tasks : BoundTasks) (cancelled : Bool) (m : ℕ) (seat : BarrierSeat) (tag : Tag) (h : List Event) → StandAt seats front tasks cancelled h → slice_get seats m ≡ Some seat → seat_accepts cancelled front seat tag ≡ true →
    StandAt (slice_set seats m (record { odd = seat.odd; arrived = Some tag; left = seat.left; gone = seat.gone })) (arrived_at front seat tag) tasks cancelled (Arrive (barriers_passed m h) m tag ∷ h)
arrive_keeps seats front tasks cancelled m seat tag h st at fine =
    let new : BarrierSeat = record { odd = seat.odd; arrived = Some tag; left = seat.left; gone = seat.gone } in
    let p = st.barrier.seat m seat at in
    let stays = arriver_stays seats front tasks cancelled m seat tag h st at fine in
    record {
      least = st.least;
      barrier = subst (λ g. FrontStands (slice_set seats m new) (arrived_at front seat tag) st.least (Arrive g m tag ∷ h)) (sym p.passed_is) (arrival_keeps_the_front seats front st.least m seat new tag h st.barrier at stays refl refl refl refl);
      tasks = record { counted = st.tasks.counted; near = st.tasks.near; unborn = st.tasks.unborn };
      behind = ahead_stays front (arrived_at front seat tag) m seat new seats at refl (turn_arrived front seat tag) st.behind;
      cancelled = st.cancelled;
      rule = subst (λ n. Always (ArrivalRule n) (Arrive (barriers_passed m h) m tag ∷ h)) (sym (length-set seats m new)) (arriver_may seats front tasks cancelled m seat tag h st at fine, st.rule);
    }

-- Passing

at_least : (seats : List BarrierSeat) (front : Front) (tasks : BoundTasks) (m : ℕ) (seat : BarrierSeat) (h : List Event) (st : StandAt seats front tasks false h) → slice_get seats m ≡ Some seat → is_ahead front seat ≡ false → barriers_passed m h ≡ st.least
at_least seats front tasks m seat h st at behind =
    let p = st.barrier.seat m seat at in
    let same : barrier_of front st.least seat ≡ st.least = rw (not_gone_yet front st.least m seat h st.cancelled p, behind) refl in p.passed_is ∙ same

-- whether the member has come to the region's end
come_is : (seats : List BarrierSeat) (front : Front) (tasks : BoundTasks) (cancelled : Bool) (m : ℕ) (seat : BarrierSeat) (h : List Event) → StandAt seats front tasks cancelled h → slice_get seats m ≡ Some seat → at_region_end m h ≡ has_come_to_end seat
come_is seats front tasks cancelled m seat h st at =
    let p = st.barrier.seat m seat at in
    let here : arrival (barriers_passed m h) m h ≡ seat.arrived = ap (λ g. arrival g m h) p.passed_is ∙ p.here in
    comes_to_end m h (same_arrivals (length seats) h st.rule) ∙ ap (λ (b : Bool). b || was_region_end (arrival (barriers_passed m h) m h)) p.left_is ∙ ap (λ (tag : Option Tag). seat.left || was_region_end tag) here

come_as : (seats : List BarrierSeat) (front : Front) (tasks : BoundTasks) (cancelled : Bool) (m : ℕ) (seat : BarrierSeat) (tag : Tag) (h : List Event) → StandAt seats front tasks cancelled h → slice_get seats m ≡ Some seat → seat.arrived ≡ Some tag →
    at_region_end m h ≡ (seat.left || is_region_end tag.kind)
come_as seats front tasks cancelled m seat tag h st at arrived = come_is seats front tasks cancelled m seat h st at ∙ ap (λ (t : Option Tag). seat.left || was_region_end t) arrived

-- once all are there, all have come to it with the member
all_come : (seats : List BarrierSeat) (front : Front) (tasks : BoundTasks) (m : ℕ) (seat : BarrierSeat) (h : List Event) → StandAt seats front tasks false h → slice_get seats m ≡ Some seat → is_ahead front seat ≡ false → All (IsThere front) seats →
    at_region_end m h ≡ true → every_member (length seats) (λ x. at_region_end x h) ≡ true
all_come seats front tasks m seat h st at behind all come =
    every_by (length seats) (λ x. at_region_end x h) (λ x lt.
    let at_x : slice_get seats x ≡ Some (get_or seats x seat) = slice_get-get_or seats x seat lt in
    others_end (length seats) m x h st.cancelled st.rule (λ g le. there_before front st.least x (get_or seats x seat) h g st.cancelled (st.barrier.seat x (get_or seats x seat) at_x) (all x seat lt) (subst (λ (n : ℕ). g ≤ n) (at_least seats front tasks m seat h st at behind) le)) come)

-- a member may pass if it may pass the front
may_now : (seats : List BarrierSeat) (front : Front) (tasks : BoundTasks) (m : ℕ) (seat : BarrierSeat) (h : List Event) → StandAt seats front tasks false h → slice_get seats m ≡ Some seat → MayTurn (uncancelled seats front tasks) seat → may_pass (length seats) m h ≡ true
may_now seats front tasks m seat h st at may =
    let whole : is_cancelled h ≡ false = st.cancelled in
    let number = at_least seats front tasks m seat h st at may.behind in
    let arrived : all_arrived (length seats) (barriers_passed m h) h ≡ true = rw number (met_by seats front st.least h whole st.barrier may.there) in
    let none : bound_count tasks (is_odd st.least) ≡ 0 = rw (← st.barrier.parity) may.bound in
    let bound : bound_complete (barriers_passed m h) h ≡ true = rw number (front_complete tasks st.least h whole st.tasks none) in
    pass_uncancelled (length seats) m h whole ∙ rw (arrived, bound) (elim (cases_Bool (at_region_end m h)) [
      | inl come ↦
          let every = all_come seats front tasks m seat h st at may.behind may.there come in
          let ended = may.ended (sym (come_is seats front tasks false m seat h st at) ∙ come) in
          let complete = tasks_complete tasks st.least h st.tasks front.odd may.bound ended in
          rw (every, complete) (or_right (not (at_region_end m h)) true refl)
      | inr not_come ↦ rw not_come refl
    ])

-- and only then
must_now : (seats : List BarrierSeat) (front : Front) (tasks : BoundTasks) (m : ℕ) (seat : BarrierSeat) (h : List Event) → StandAt seats front tasks false h → slice_get seats m ≡ Some seat → may_pass (length seats) m h ≡ true → MayTurn (uncancelled seats front tasks) seat
must_now seats front tasks m seat h st at passes =
    let whole : is_cancelled h ≡ false = st.cancelled in
    let may : (barrier_met (length seats) (barriers_passed m h) h && (not (at_region_end m h) || region_met (length seats) h)) ≡ true = sym (pass_uncancelled (length seats) m h whole) ∙ passes in
    let met : barrier_met (length seats) (barriers_passed m h) h ≡ true = and_left (barrier_met (length seats) (barriers_passed m h) h) (not (at_region_end m h) || region_met (length seats) h) may in
    let arrived : all_arrived (length seats) (barriers_passed m h) h ≡ true = and_left (all_arrived (length seats) (barriers_passed m h) h) (bound_complete (barriers_passed m h) h) met in
    let bound : bound_complete (barriers_passed m h) h ≡ true = and_right (all_arrived (length seats) (barriers_passed m h) h) (bound_complete (barriers_passed m h) h) met in
    let here = not_gone_yet front st.least m seat h whole (st.barrier.seat m seat at) in
    elim (cases_Bool (is_ahead front seat)) [
      | inl ahead ↦ absurd (
          let next : barriers_passed m h ≡ st.least + 1 = (st.barrier.seat m seat at).passed_is ∙ (let e : barrier_of front st.least seat ≡ st.least + 1 = rw (here, ahead) refl in e) in
          not_both (all_arrived (length seats) (st.least + 1) h) (rw next at arrived) (not_met_ahead seats front st.least h whole st.barrier st.behind))
      | inr behind ↦
          let number = at_least seats front tasks m seat h st at behind in
          record {
            behind = behind;
            there = met_all seats front st.least h whole st.barrier (rw number at arrived);
            bound = rw st.barrier.parity (front_closed tasks st.least h whole st.tasks (rw number at bound));
            ended = λ come.
                let come_too : at_region_end m h ≡ true = come_is seats front tasks false m seat h st at ∙ come in
                let ends : (not true || region_met (length seats) h) ≡ true = rw come_too at (and_right (barrier_met (length seats) (barriers_passed m h) h) (not (at_region_end m h) || region_met (length seats) h) may) in
                tasks_closed tasks st.least h st.tasks (not front.odd) (and_right (every_member (length seats) (λ x. at_region_end x h)) (all_complete (λ t. true) h) ends);
          }
    ]

-- a member may pass the end of a cancelled region if all have come there and no task is open
leave_now : (seats : List BarrierSeat) (front : Front) (tasks : BoundTasks) (m : ℕ) (seat : BarrierSeat) (h : List Event) → StandAt seats front tasks true h → slice_get seats m ≡ Some seat → MayLeave seats tasks seat → may_pass (length seats) m h ≡ true
leave_now seats front tasks m seat h st at may =
    let on : is_cancelled h ≡ true = st.cancelled in
    let every : every_member (length seats) (λ x. at_region_end x h) ≡ true = every_by (length seats) (λ x. at_region_end x h) (λ x lt.
    let at_x : slice_get seats x ≡ Some (get_or seats x seat) = slice_get-get_or seats x seat lt in
    come_is seats front tasks true x (get_or seats x seat) h st at_x ∙ may.come x seat lt) in
    let own : at_region_end m h ≡ true = every_tells (length seats) (λ x. at_region_end x h) m every (slice_get_within seats m seat at) in
    let complete : all_complete (λ t. true) h ≡ true = tasks_complete tasks st.least h st.tasks true may.odd may.even in
    let stays : has_left_region m h ≡ false = (st.barrier.seat m seat at).left_is ∙ may.stays in
    pass_cancelled (length seats) m h on ∙ rw (own, every, complete, stays) refl

-- and only then
must_leave : (seats : List BarrierSeat) (front : Front) (tasks : BoundTasks) (m : ℕ) (seat : BarrierSeat) (h : List Event) → StandAt seats front tasks true h → slice_get seats m ≡ Some seat → may_pass (length seats) m h ≡ true → MayLeave seats tasks seat
must_leave seats front tasks m seat h st at passes =
    let on : is_cancelled h ≡ true = st.cancelled in
    let may : (at_region_end m h && (not (has_left_region m h) && region_met (length seats) h)) ≡ true = sym (pass_cancelled (length seats) m h on) ∙ passes in
    let rest : (not (has_left_region m h) && region_met (length seats) h) ≡ true = and_right (at_region_end m h) (not (has_left_region m h) && region_met (length seats) h) may in
    let stays : not (has_left_region m h) ≡ true = and_left (not (has_left_region m h)) (region_met (length seats) h) rest in
    let region : region_met (length seats) h ≡ true = and_right (not (has_left_region m h)) (region_met (length seats) h) rest in
    let every : every_member (length seats) (λ x. at_region_end x h) ≡ true = and_left (every_member (length seats) (λ x. at_region_end x h)) (all_complete (λ t. true) h) region in
    let complete : all_complete (λ t. true) h ≡ true = and_right (every_member (length seats) (λ x. at_region_end x h)) (all_complete (λ t. true) h) region in
    record {
      stays = sym (st.barrier.seat m seat at).left_is ∙ false_of_not (has_left_region m h) stays;
      come = λ k d lt.
          let at_k : slice_get seats k ≡ Some (get_or seats k d) = slice_get-get_or seats k d lt in
          sym (come_is seats front tasks true k (get_or seats k d) h st at_k) ∙ every_tells (length seats) (λ x. at_region_end x h) k every lt;
      even = tasks_closed tasks st.least h st.tasks false complete;
      odd = tasks_closed tasks st.least h st.tasks true complete;
    }

-- the answer of a turn
pub turn_is : (seats : List BarrierSeat) (front : Front) (tasks : BoundTasks) (m : ℕ) (seat : BarrierSeat) (h : List Event) (result : Bool) → StandAt seats front tasks false h → slice_get seats m ≡ Some seat →
    IsTrue result ↔ MayTurn (uncancelled seats front tasks) seat → result ≡ may_pass (length seats) m h
turn_is seats front tasks m seat h true st at is = sym (may_now seats front tasks m seat h st at (is.0 refl))
turn_is seats front tasks m seat h false st at is =
    elim (cases_Bool (may_pass (length seats) m h)) [
      | inl may ↦ absurd (let no : false ≡ true = is.1 (must_now seats front tasks m seat h st at may) in cc)
      | inr not_may ↦ sym not_may
    ]

-- and in a cancelled region
pub leave_is : (seats : List BarrierSeat) (front : Front) (tasks : BoundTasks) (m : ℕ) (seat : BarrierSeat) (h : List Event) (result : Bool) → StandAt seats front tasks true h → slice_get seats m ≡ Some seat →
    IsTrue result ↔ MayLeave seats tasks seat → result ≡ may_pass (length seats) m h
leave_is seats front tasks m seat h true st at is = sym (leave_now seats front tasks m seat h st at (is.0 refl))
leave_is seats front tasks m seat h false st at is =
    elim (cases_Bool (may_pass (length seats) m h)) [
      | inl may ↦ absurd (let no : false ≡ true = is.1 (must_leave seats front tasks m seat h st at may) in cc)
      | inr not_may ↦ sym not_may
    ]

-- all seats pass a test, or not all do
decide_all : (test : BarrierSeat → Bool) (seats : List BarrierSeat) → All (λ p. test p ≡ true) seats ⊎ (All (λ p. test p ≡ true) seats → ⊥)
decide_all test [] = inl (λ k d lt. absurd (omega arith))
decide_all test (x ∷ xs) =
    elim (cases_Bool (test x)) [
      | inl e ↦ elim (decide_all test xs) [
        | inl all ↦ inl (λ k d lt. cons_all k d e all lt)
        | inr some ↦ inr (λ all. some (λ k d lt. all (suc k) d (omega arith)))
      ]
      | inr e ↦ inr (λ all. let is : test x ≡ true = all 0 x (omega arith) in cc)
    ]
  where
    cons_all : (k : ℕ) (d : BarrierSeat) → test x ≡ true → All (λ p. test p ≡ true) xs → k < length (x ∷ xs) → test (get_or (x ∷ xs) k d) ≡ true
    cons_all zero d e all lt = e
    cons_all (suc k) d e all lt = all k d (omega arith)

-- the front after members have passed
settle_keeps : (seats : List BarrierSeat) (front settled : Front) (tasks : BoundTasks) (m : ℕ) (seat : BarrierSeat) (least : ℕ) (h : List Event) → is_cancelled h ≡ false → FrontStands seats front least h → TasksStand tasks least h → bound_count tasks front.odd ≡ 0 → slice_get seats m ≡ Some seat → Always (ArrivalRule (length seats)) h →
    (All (λ p. is_ahead front p ≡ true) seats → settled ≡ next_front front) → ((All (λ p. is_ahead front p ≡ true) seats → ⊥) → settled ≡ front) → StandAt seats settled tasks false h
settle_keeps seats front settled tasks m seat least h whole st counts none at rule all some =
    elim (decide_all (is_ahead front) seats) [
      | inl every ↦ rw (all every) (record { least = least + 1; barrier = moves_on seats front least h whole st every; tasks = tasks_move_on tasks least h whole counts (rw (← st.parity) none); behind = behind_again seats front m seat at every; cancelled = whole; rule = rule })
      | inr not_every ↦ rw (some not_every) (record { least = least; barrier = st; tasks = counts; behind = not_every; cancelled = whole; rule = rule })
    ]

there_tag : (front : Front) (seat : BarrierSeat) → is_ahead front seat ≡ false → IsThere front seat → (tag : Tag) × (seat.arrived ≡ Some tag)
there_tag front seat behind is = some_of seat.arrived (subst (λ b. (b || is_some seat.arrived) ≡ true) behind is)

pub turn_keeps : (seats : List BarrierSeat) (front settled : Front) (tasks : BoundTasks) (m : ℕ) (seat : BarrierSeat) (h : List Event) → StandAt seats front tasks false h → slice_get seats m ≡ Some seat → MayTurn (uncancelled seats front tasks) seat →
    (All (λ p. is_ahead front p ≡ true) (slice_set seats m (passed_by seat (was_region_end seat.arrived))) → settled ≡ next_front front) →
    ((All (λ p. is_ahead front p ≡ true) (slice_set seats m (passed_by seat (was_region_end seat.arrived))) → ⊥) → settled ≡ front) →
    StandAt (slice_set seats m (passed_by seat (was_region_end seat.arrived))) settled tasks false (Pass (barriers_passed m h) m ∷ h)
turn_keeps seats front settled tasks m seat h st at may every some =
    let new : BarrierSeat = passed_by seat (was_region_end seat.arrived) in
    let is : IsThere front seat = rw (get_or_from_slice_get seats m seat seat at) at (may.there m seat (slice_get_within seats m seat at)) in
    let tag = there_tag front seat may.behind is in
    let p = st.barrier.seat m seat at in
    let here : seat.gone ≡ false = not_gone_yet front st.least m seat h st.cancelled p in
    let left : new.left ≡ (seat.left || is_region_end tag.0.kind) = ap (λ t. seat.left || was_region_end t) tag.1 in
    let moved : FrontStands (slice_set seats m new) front st.least (Pass (barriers_passed m h) m ∷ h) = subst (λ g. FrontStands (slice_set seats m new) front st.least (Pass g m ∷ h)) (sym p.passed_is)
    (pass_keeps_the_front seats front st.least m seat new tag.0 h (come_as seats front tasks false m seat tag.0 h st at tag.1) st.barrier at (next_behind front st.least seat new may.behind here refl here) tag.1 refl left (λ gone. absurd (not_both seat.gone gone here))) in
    let counts : TasksStand tasks st.least (Pass (barriers_passed m h) m ∷ h) = record { counted = st.tasks.counted; near = st.tasks.near; unborn = st.tasks.unborn } in
    let own : slice_get (slice_set seats m new) m ≡ Some new = set_same seats m new (slice_get_within seats m seat at) in
    settle_keeps (slice_set seats m new) front settled tasks m new st.least (Pass (barriers_passed m h) m ∷ h) st.cancelled moved counts may.bound own
    (subst (λ n. Always (ArrivalRule n) (Pass (barriers_passed m h) m ∷ h)) (sym (length-set seats m new)) (record { number = refl; met = may_now seats front tasks m seat h st at may }, st.rule)) every some
  where
    set_same : (xs : List BarrierSeat) (i : ℕ) (x : BarrierSeat) → i < length xs → slice_get (slice_set xs i x) i ≡ Some x
    set_same [] i x lt = absurd (omega arith)
    set_same (a ∷ xs) zero x lt = refl
    set_same (a ∷ xs) (suc i) x lt = set_same xs i x (omega arith)

end_tag : (arrived : Option Tag) → was_region_end arrived ≡ true → (tag : Tag) × (arrived ≡ Some tag) × (is_region_end tag.kind ≡ true)
end_tag None e = absurd (cc)
end_tag (Some tag) e = (tag, refl, e)

-- a member passes the end of a cancelled region
pub leave_keeps : (seats : List BarrierSeat) (front : Front) (tasks : BoundTasks) (m : ℕ) (seat : BarrierSeat) (h : List Event) → StandAt seats front tasks true h → slice_get seats m ≡ Some seat → MayLeave seats tasks seat →
    StandAt (slice_set seats m (gone_from seat)) front tasks true (Pass (barriers_passed m h) m ∷ h)
leave_keeps seats front tasks m seat h st at may =
    let on : is_cancelled h ≡ true = st.cancelled in
    let new : BarrierSeat = gone_from seat in
    let p = st.barrier.seat m seat at in
    let here : seat.gone ≡ false = stays_here front st.least m seat h may.stays p in
    let come : has_come_to_end seat ≡ true = rw (get_or_from_slice_get seats m seat seat at) at (may.come m seat (slice_get_within seats m seat at)) in
    let tag = end_tag seat.arrived (rw may.stays at come) in
    let ends : is_region_end tag.0.kind ≡ true = tag.2 in
    let left : new.left ≡ (seat.left || is_region_end tag.0.kind) = sym (or_right seat.left (is_region_end tag.0.kind) ends) in
    record {
      least = st.least;
      barrier = subst (λ g. FrontStands (slice_set seats m new) front st.least (Pass g m ∷ h)) (sym p.passed_is) (pass_keeps_the_front seats front st.least m seat new tag.0 h (come_as seats front tasks true m seat tag.0 h st at tag.1) st.barrier at (next_gone front st.least seat new here refl refl) tag.1 refl left (λ gone. (on, refl)));
      tasks = record { counted = st.tasks.counted; near = st.tasks.near; unborn = st.tasks.unborn };
      behind = ahead_stays front front m seat new seats at refl refl st.behind;
      cancelled = st.cancelled;
      rule = subst (λ n. Always (ArrivalRule n) (Pass (barriers_passed m h) m ∷ h)) (sym (length-set seats m new))
          (record { number = refl; met = leave_now seats front tasks m seat h st at may }, st.rule);
    }

-- the region is cancelled
pub cancel_keeps : (seats : List BarrierSeat) (front : Front) (tasks : BoundTasks) (cancelled : Bool) (m : ℕ) (h : List Event) → StandAt seats front tasks cancelled h → StandAt seats front tasks true (Cancel m Region ∷ h)
cancel_keeps seats front tasks cancelled m h st = counts_keep seats front tasks tasks cancelled true (Cancel m Region) h tt st (cancel_tasks tasks st.least m Region h st.tasks) refl

-- Tasks

-- a task that is created now is bound to the front or to the barrier after it, while the region is not cancelled
child_near : (seats : List BarrierSeat) (front : Front) (tasks : BoundTasks) (cancelled : Bool) (parent : Task) (h : List Event) (st : StandAt seats front tasks cancelled h) → IsOpenParent (length seats) parent h → is_cancelled h ≡ false → (st.least ≤ epoch_of_child parent h) × (epoch_of_child parent h ≤ st.least + 1)
child_near seats front tasks cancelled (Explicit t) h st is whole = st.tasks.near whole t is
child_near seats front tasks cancelled (Implicit m) h st lt whole =
    let none : BarrierSeat = record { odd = true; arrived = None; left = true; gone = false } in
    let at : slice_get seats m ≡ Some (get_or seats m none) = slice_get-get_or seats m none lt in
    let p = st.barrier.seat m (get_or seats m none) at in
    let same : barrier_of front st.least (get_or seats m none) ≡ (if is_ahead front (get_or seats m none) then st.least + 1 else st.least) = rw (not_gone_yet front st.least m (get_or seats m none) h whole p) refl in
    by (is_ahead front (get_or seats m none)) (p.passed_is ∙ same)
  where
    by : (ahead : Bool) → barriers_passed m h ≡ (if ahead then st.least + 1 else st.least) → (st.least ≤ barriers_passed m h) × (barriers_passed m h ≤ st.least + 1)
    by true e = (omega (arith, e), omega (arith, e))
    by false e = (omega (arith, e), omega (arith, e))

pub task_bound : (seats : List BarrierSeat) (front : Front) (tasks : BoundTasks) (cancelled : Bool) (task member : ℕ) (parent : Task) (desc : TaskDesc) (odd : Bool) (h : List Event) → StandAt seats front tasks cancelled h → MayBind (length seats) task parent odd h → StandAt seats front (one_more tasks odd) cancelled (Create task member parent desc ∷ h)
task_bound seats front tasks cancelled task member parent desc odd h st may =
    counts_keep seats front tasks (one_more tasks odd) cancelled cancelled (Create task member parent desc) h tt st (bind_keeps tasks st.least (length seats) task member parent desc odd h st.tasks may (child_near seats front tasks cancelled parent h st may.parent_is)) st.cancelled

pub task_released : (seats : List BarrierSeat) (front : Front) (tasks : BoundTasks) (cancelled : Bool) (task member : ℕ) (odd : Bool) (h : List Event) → StandAt seats front tasks cancelled h → MayRelease task odd h → StandAt seats front (one_less tasks odd) cancelled (Done task member ∷ h)
task_released seats front tasks cancelled task member odd h st may =
    counts_keep seats front tasks (one_less tasks odd) cancelled cancelled (Done task member) h tt st (release_keeps tasks st.least task member odd h st.tasks may) st.cancelled

pub task_discarded : (seats : List BarrierSeat) (front : Front) (tasks : BoundTasks) (cancelled : Bool) (task member : ℕ) (odd : Bool) (h : List Event) → StandAt seats front tasks cancelled h → MayRelease task odd h → StandAt seats front (one_less tasks odd) cancelled (Discard task member ∷ h)
task_discarded seats front tasks cancelled task member odd h st may =
    counts_keep seats front tasks (one_less tasks odd) cancelled cancelled (Discard task member) h tt st (discard_keeps tasks st.least task member odd h st.tasks may) st.cancelled

-- New barriers stand for no events

pub new_barriers_stand : (seats : List BarrierSeat) (n : ℕ) → 0 < n → seats ≡ replicate n (record { odd = false; arrived = None; left = false; gone = false }) → StandAt seats (record { odd = false; number = 0; tag = None; next = None }) (record { even = 0; odd = 0 }) false []
new_barriers_stand seats n some e =
    let new : BarrierSeat = record { odd = false; arrived = None; left = false; gone = false } in
    let front : Front = record { odd = false; number = 0; tag = None; next = None } in
    let size : length seats ≡ n = ap length e ∙ length-replicate n new in
    record {
      least = 0;
      tasks = record { counted = no_counts; near = λ whole t is. absurd (none_created t is.0); unborn = λ t lt. refl };
      barrier = record {
        parity = refl;
        number = refl;
        tag = refl;
        next = refl;
        beyond = λ g le. refl;
        seat = λ m seat at. rw (← one m seat (subst (λ xs. slice_get xs m ≡ Some seat) e at)) (record { passed_is = refl; here = refl; behind = λ g lt. absurd (omega arith); beyond = λ g lt. refl; left_is = refl; gone_is = λ e. absurd (cc) });
      };
      behind = λ all.
          let first = all 0 new (rw size some) in
          let at : slice_get seats 0 ≡ Some (get_or seats 0 new) = slice_get-get_or seats 0 new (rw size some) in
          let is : new ≡ get_or seats 0 new = one 0 (get_or seats 0 new) (subst (λ xs. slice_get xs 0 ≡ Some (get_or seats 0 new)) e at) in
          let ahead : is_ahead front new ≡ true = subst (λ (p : BarrierSeat). is_ahead front p ≡ true) (sym is) first in cc;
      cancelled = refl;
      rule = tt;
    }
  where
    no_counts : (odd : Bool) → open_bound odd [] ≡ bound_count (record { even = 0; odd = 0 }) odd
    no_counts true = refl
    no_counts false = refl

    none_created : (t : ℕ) → is_created t [] ≡ true → ⊥
    none_created t made = let low = created_low t [] made in let high = created_high t [] made in omega (arith, low, high)

    one : (m : ℕ) (seat : BarrierSeat) → slice_get (replicate n (record { odd = false; arrived = None; left = false; gone = false })) m ≡ Some seat → record { odd = false; arrived = None; left = false; gone = false } ≡ seat
    one m seat at =
        let new : BarrierSeat = record { odd = false; arrived = None; left = false; gone = false } in
        let lt : m < n = rw (length-replicate n new) at (slice_get_within _ m seat at) in
        sym (get_or-replicate n m new seat lt) ∙ get_or_from_slice_get (replicate n new) m seat seat at
