-- A member that may pass a barrier waits there.
use Rattle.std.proofs.Common.{◌≡◌, ℕ, ◌<◌, true, List, [], ◌∷◌, refl, sym, subst, ◌∙◌, arith, inl, inr, ◌⊎◌}
use Rattle.std.specs.Prelude.{◌&&◌, ◌||◌, ◌==◌, not, is_some}
use Rattle.std.proofs.lemmas.Bool.{cases_Bool}
use Rattle.gomp_events.specs.declared.event.Event.{Event}
use Rattle.gomp_events.specs.declared.event.Event.TheVariants.{Arrive, Pass}
use Rattle.gomp_events.specs.Events.{barriers_passed, arrival, at_barrier, at_region_end, has_left_region, all_arrived}
use Rattle.gomp_events.specs.Cancels.{is_cancelled}
use Rattle.gomp_events.specs.Goals.{bound_complete, barrier_met, region_met, may_pass}
use Rattle.gomp_events.specs.Laws.{Always}
use Rattle.gomp_events.specs.Arrivals.{ArrivalRule}
use Rattle.gomp_events.proofs.ArrivalsKeep.{pass_uncancelled, pass_cancelled}
use Rattle.gomp_events.proofs.EndsPassed.{end_waits}
use Rattle.gomp_types.proofs.Booleans.{and_left, and_right, and_false, false_of_not, is_equal, every_tells}
use Rattle.gomp_barrier.specs.Stands.{barrier_members}
use Rattle.gomp_scheduler.specs.Schedulers.{scheduler_members}
use Rattle.gomp_board.specs.Boards.{BoardView, IsBoard, Stands, members_of}

-- the member has passed the barrier, or waits at it
abbrev PassedOrWaits : ℕ → ℕ → List Event → Type 0
PassedOrWaits g m h = (g < barriers_passed m h) ⊎ ((g ≡ barriers_passed m h) × (at_barrier m h ≡ true))

arrived_passed_or_waits : (members g m : ℕ) (h : List Event) → Always (ArrivalRule members) h → is_some (arrival g m h) ≡ true → PassedOrWaits g m h
arrived_passed_or_waits members g m [] all e = absurd (cc)
arrived_passed_or_waits members g m (Arrive barrier member tag ∷ earlier) all e =
    elim (cases_Bool (member == m)) [
      | inl who ↦ elim (cases_Bool (barrier == g)) [
        | inl at ↦ inr (let here = is_equal barrier g at in let same = is_equal member m who in let n : g ≡ barriers_passed m earlier = rw (← here, ← same) all.0.number in n, rw who refl)
        | inr away ↦ elim (arrived_passed_or_waits members g m earlier all.1 (rw away at e)) [ inl past ↦ inl past | inr here ↦ inr (here.0, rw who refl) ]
      ]
      | inr other ↦ elim (arrived_passed_or_waits members g m earlier all.1 (rw (and_false (barrier == g) (member == m) other) at e)) [ inl past ↦ inl past | inr here ↦ inr (here.0, rw other here.1) ]
    ]
arrived_passed_or_waits members g m (Pass barrier member ∷ earlier) all e =
    elim (cases_Bool (member == m)) [
      | inl who ↦ elim (arrived_passed_or_waits members g m earlier all.1 e) [ inl past ↦ inl (rw who (omega (arith, past))) | inr here ↦ inl (rw who (let n = here.0 in omega (arith, n))) ]
      | inr other ↦ elim (arrived_passed_or_waits members g m earlier all.1 e) [ inl past ↦ inl (rw other past) | inr here ↦ inr (rw other here.0, rw other here.1) ]
    ]
arrived_passed_or_waits members g m (_ ∷ earlier) all e = arrived_passed_or_waits members g m earlier all.1 e

-- who may pass has arrived at its next barrier
pub passes_where_it_waits : (members m : ℕ) (h : List Event) → Always (ArrivalRule members) h → m < members → may_pass members m h ≡ true → at_barrier m h ≡ true
passes_where_it_waits members m h all low may =
    elim (cases_Bool (is_cancelled h)) [
      | inl cancelled ↦
          let ends : (at_region_end m h && (not (has_left_region m h) && region_met members h)) ≡ true = sym (pass_cancelled members m h cancelled) ∙ may in
          let came = and_left (at_region_end m h) (not (has_left_region m h) && region_met members h) ends in
          let stays = and_left (not (has_left_region m h)) (region_met members h) (and_right (at_region_end m h) (not (has_left_region m h) && region_met members h) ends) in
          end_waits m h (false_of_not (has_left_region m h) stays) came
      | inr whole ↦
          let passes : (barrier_met members (barriers_passed m h) h && (not (at_region_end m h) || region_met members h)) ≡ true = sym (pass_uncancelled members m h whole) ∙ may in
          let met = and_left (barrier_met members (barriers_passed m h) h) (not (at_region_end m h) || region_met members h) passes in
          let arrived = and_left (all_arrived members (barriers_passed m h) h) (bound_complete (barriers_passed m h) h) met in
          elim (arrived_passed_or_waits members (barriers_passed m h) m h all (every_tells members (λ x. is_some (arrival (barriers_passed m h) x h)) m arrived low)) [
            | inl past ↦ absurd (omega (arith, past))
            | inr here ↦ here.1
          ]
    ]

pub passing_member_waits : (space m : ℕ) (h : List Event) {board : BoardView} → IsBoard space board → m < members_of board → Stands board h → may_pass (scheduler_members board.scheduler) m h ≡ true → at_barrier m h ≡ true
passing_member_waits space m h {board = board} is low st may =
    let tasks = is.members.tasks in let barriers = is.members.barriers in
    let same : scheduler_members board.scheduler ≡ barrier_members board.scheduler.barriers = tasks ∙ sym barriers in
    passes_where_it_waits (barrier_members board.scheduler.barriers) m h st.scheduler.barriers.rule (omega (arith, low, barriers)) (subst (λ (n : ℕ). may_pass n m h ≡ true) same may)
