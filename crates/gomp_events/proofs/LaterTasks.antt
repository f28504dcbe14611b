-- No task that is bound to a barrier is created after a member passed it.
use Rattle.std.proofs.Common.{◌≡◌, ℕ, ◌<◌, Bool, true, false, List, [], ◌∷◌, Some, refl, sym, subst, arith, suc, inl, inr, ◌⊎◌}
use Rattle.std.specs.Prelude.{◌&&◌, ◌==◌, nat_lt, nat_le, if◌then◌else◌, is_some, Option}
use Rattle.std.proofs.lemmas.Bool.{cases_Bool, cases_lt}
use Rattle.std.proofs.lemmas.Bool.Decides.{nat_tests}
use Rattle.gomp_types.specs.declared.task.Task.{Task}
use Rattle.gomp_types.specs.declared.task.Task.TheVariants.{Implicit, Explicit}
use Rattle.gomp_types.specs.declared.task.TaskDesc.{TaskDesc}
use Rattle.gomp_events.specs.declared.event.Event.{Event}
use Rattle.gomp_events.specs.declared.event.Event.TheVariants.{Create, Done, Arrive, Pass, Cancel, Discard}
use Rattle.gomp_types.specs.Members.{every_member}
use Rattle.gomp_events.specs.Events.{barriers_passed, arrival, at_barrier, at_region_end, all_arrived}
use Rattle.gomp_events.specs.Tasks.{tasks_created, is_created, task_stack, innermost_task, is_complete, all_complete, epoch, of_explicit}
use Rattle.gomp_events.specs.Goals.{bound_complete, barrier_met, region_met}
use Rattle.gomp_events.specs.Cancels.{is_cancelled, some_cancelled, groups_within, would_be_covered}
use Rattle.gomp_events.specs.Laws.{Always, Happened}
use Rattle.gomp_events.specs.Arrivals.{ArrivalRule}
use Rattle.gomp_events.specs.TaskRules.{TaskRule}
use Rattle.gomp_events.specs.TaskLaws.{CreatesLater}
use Rattle.gomp_types.proofs.Booleans.{and_left, and_right, and_false, neither_left, or_false, same_number, other_number, is_equal, not_both, every_tells}
use Rattle.gomp_events.proofs.ArrivalsKeep.{uncancelled_before, passed_met, passed_cancelled}
use Rattle.gomp_events.proofs.OpenTasks.{created_high, complete_at}
use Rattle.gomp_events.proofs.Suspended.{current_open}

-- Where an arrival leads

-- the member has passed the barrier, or waits at it
abbrev Beyond : ℕ → ℕ → List Event → Type 0
Beyond g x h = (g < barriers_passed x h) ⊎ ((g ≡ barriers_passed x h) × (at_barrier x h ≡ true))

-- a member that arrived at a barrier has passed it, or waits there
arrived_is_beyond : (members g x : ℕ) (h : List Event) → Always (ArrivalRule members) h → is_some (arrival g x h) ≡ true → Beyond g x h
arrived_is_beyond members g x [] all e = absurd (cc)
arrived_is_beyond members g x (Arrive barrier member tag ∷ earlier) all e =
    elim (cases_Bool (member == x)) [
      | inl who ↦ elim (cases_Bool (barrier == g)) [
        | inl at ↦ inr (let here = is_equal barrier g at in let same = is_equal member x who in let n : g ≡ barriers_passed x earlier = rw (← here, ← same) all.0.number in n, rw who refl)
        | inr away ↦ elim (arrived_is_beyond members g x earlier all.1 (rw away at e)) [ inl past ↦ inl past | inr here ↦ inr (here.0, rw who refl) ]
      ]
      | inr other ↦ elim (arrived_is_beyond members g x earlier all.1 (rw (and_false (barrier == g) (member == x) other) at e)) [ inl past ↦ inl past | inr here ↦ inr (here.0, rw other here.1) ]
    ]
arrived_is_beyond members g x (Pass barrier member ∷ earlier) all e =
    elim (cases_Bool (member == x)) [
      | inl who ↦ elim (arrived_is_beyond members g x earlier all.1 e) [ inl past ↦ inl (rw who (omega (arith, past))) | inr here ↦ inl (rw who (let n = here.0 in omega (arith, n))) ]
      | inr other ↦ elim (arrived_is_beyond members g x earlier all.1 e) [ inl past ↦ inl (rw other past) | inr here ↦ inr (rw other here.0, rw other here.1) ]
    ]
arrived_is_beyond members g x (_ ∷ earlier) all e = arrived_is_beyond members g x earlier all.1 e

-- if some member passed a barrier, every member has arrived there
is_some_stays : (b : Bool) {A : Type 0} (x : A) (rest : Option A) → is_some rest ≡ true → is_some (if b then Some x else rest) ≡ true
is_some_stays true x rest e = refl
is_some_stays false x rest e = e

arrived_all : (members g n x : ℕ) (h : List Event) → is_cancelled h ≡ false → Always (ArrivalRule members) h → Happened (Pass g n) h → x < members → is_some (arrival g x h) ≡ true
arrived_all members g n x [] whole all past lt = absurd past
arrived_all members g n x (Pass barrier member ∷ earlier) whole all (inl e) lt =
    let here : barrier ≡ g = cc in
    let met = and_left (all_arrived members barrier earlier) (bound_complete barrier earlier) (passed_met members barrier member earlier whole all.0) in
    let there : is_some (arrival g x earlier) ≡ true = rw (← here) (every_tells members (λ m. is_some (arrival barrier m earlier)) x met lt) in there
arrived_all members g n x (Arrive barrier member tag ∷ earlier) whole all (inr past) lt =
    is_some_stays (barrier == g && member == x) tag (arrival g x earlier) (arrived_all members g n x earlier whole all.1 past lt)
arrived_all members g n x (Cancel member scope ∷ earlier) whole all (inl e) lt = absurd (cc)
arrived_all members g n x (Cancel member scope ∷ earlier) whole all (inr past) lt = arrived_all members g n x earlier (uncancelled_before (Cancel member scope) earlier whole) all.1 past lt
arrived_all members g n x (_ ∷ earlier) whole all (inl e) lt = absurd (cc)
arrived_all members g n x (_ ∷ earlier) whole all (inr past) lt = arrived_all members g n x earlier whole all.1 past lt

-- After a barrier was passed

-- every open task is bound to a later one
abbrev LaterOpen : ℕ → List Event → Type 0
LaterOpen g h = (t : ℕ) → is_created t h ≡ true → is_complete t h ≡ false → g < epoch t h

-- at the pass itself
met_open : (members g t : ℕ) (h : List Event) → barrier_met members g h ≡ true → is_created t h ≡ true → is_complete t h ≡ false → g < epoch t h
met_open members g t h met made incomplete =
    elim (cases_lt g (epoch t h)) [
      | inl past ↦ past
      | inr not_past ↦ absurd (
          let bound = and_right (all_arrived members g h) (bound_complete g h) met in
          let within : nat_le (epoch t h) g ≡ true = grind (arith, nat_tests, not_past) in
          not_both (is_complete t h) (complete_at (λ v. nat_le (epoch v h) g) h t bound made within) incomplete)
    ]

-- a member that executes its implicit task
implicit_is : (m x : ℕ) (ts : List ℕ) → Implicit x ≡ innermost_task m ts → (x ≡ m) × (of_explicit (λ t. true) (innermost_task m ts) ≡ false)
implicit_is m x [] e = (cc, refl)
implicit_is m x (t ∷ ts) e = absurd (cc)

-- where a task may be created nothing is cancelled
uncovered_whole : (p : Task) (h : List Event) → would_be_covered p h ≡ false → is_cancelled h ≡ false
uncovered_whole p h e = neither_left (is_cancelled h) (some_cancelled (groups_within p h) h) e

new_later : (members g n task member : ℕ) (p : Task) (desc : TaskDesc) (h : List Event) → Always (ArrivalRule members) h → Always (TaskRule members) h → TaskRule members (Create task member p desc) h → Happened (Pass g n) h → LaterOpen g h →
    g < epoch task (Create task member p desc ∷ h)
new_later members g n task member (Implicit x) desc h arrivals tasks rule past later =
    let who = implicit_is member x (task_stack member h) rule.current in
    rw (same_number task, who.0) (elim (arrived_is_beyond members g member h arrivals (arrived_all members g n member h (uncovered_whole (Implicit x) h rule.uncovered) arrivals past rule.member)) [
      | inl past ↦ past
      | inr waits ↦ absurd (not_both (at_barrier member h) waits.1 (rule.away who.1))
    ])
new_later members g n task member (Explicit q) desc h arrivals tasks rule past later =
    let is = current_open members member q h tasks (sym rule.current) in
    rw (same_number task) (later q is.0 is.1)

-- another task keeps its barrier
pub old_epoch : (t task member : ℕ) (p : Task) (desc : TaskDesc) (h : List Event) → (task == t) ≡ false → epoch t (Create task member p desc ∷ h) ≡ epoch t h
old_epoch t task member (Implicit x) desc h other = rw other refl
old_epoch t task member (Explicit q) desc h other = rw other refl

-- a task that was created is not the new one
pub not_new : (s task : ℕ) (h : List Event) → is_created s h ≡ true → task ≡ suc (tasks_created h) → (task == s) ≡ false
not_new s task h made number = let high = created_high s h made in other_number task s (λ same. omega (arith, same, high, number))

-- a task that is among them with the new one is that one, or was created before
pub old_created : (t task : ℕ) (h : List Event) → task ≡ suc (tasks_created h) → (task == t) ≡ false → (nat_lt 0 t && nat_le t (suc (tasks_created h))) ≡ true → is_created t h ≡ true
old_created t task h number other made =
    let low = and_left (nat_lt 0 t) (nat_le t (suc (tasks_created h))) made in
    let high = and_right (nat_lt 0 t) (nat_le t (suc (tasks_created h))) made in
    rw low (grind (arith, nat_tests, high, number, other))

later_open : (members g n : ℕ) (h : List Event) → Always (ArrivalRule members) h → Always (TaskRule members) h → Happened (Pass g n) h → LaterOpen g h
later_open members g n [] arrivals tasks past = absurd past
later_open members g n (Pass barrier member ∷ earlier) arrivals tasks (inl e) = λ t made incomplete.
    let here : barrier ≡ g = cc in
    elim (cases_Bool (is_cancelled earlier)) [
      | inl cancelled ↦
          let met = and_right (at_region_end member earlier) (region_met members earlier) (passed_cancelled members barrier member earlier arrivals.0 cancelled) in
          let every = and_right (every_member members (λ x. at_region_end x earlier)) (all_complete (λ u. true) earlier) met in
          absurd (not_both (is_complete t earlier) (complete_at (λ u. true) earlier t every made refl) incomplete)
      | inr whole ↦ met_open members g t earlier (rw (← here) (passed_met members barrier member earlier whole arrivals.0)) made incomplete
    ]
later_open members g n (Create task member p desc ∷ earlier) arrivals tasks (inr past) = λ t made incomplete.
    let before = later_open members g n earlier arrivals.1 tasks.1 past in
    elim (cases_Bool (task == t)) [
      | inl new ↦ subst (λ (x : ℕ). g < epoch x (Create task member p desc ∷ earlier)) (is_equal task t new) (new_later members g n task member p desc earlier arrivals.1 tasks.1 tasks.0 past before)
      | inr other ↦ rw (old_epoch t task member p desc earlier other) (before t (old_created t task earlier tasks.0.number other made) incomplete)
    ]
later_open members g n (Done task member ∷ earlier) arrivals tasks (inr past) = λ t made incomplete.
    later_open members g n earlier arrivals.1 tasks.1 past t made (or_false (task == t) (is_complete t earlier) incomplete)
later_open members g n (Discard task member ∷ earlier) arrivals tasks (inl e) = absurd (cc)
later_open members g n (Discard task member ∷ earlier) arrivals tasks (inr past) = λ t made incomplete.
    later_open members g n earlier arrivals.1 tasks.1 past t made (or_false (task == t) (is_complete t earlier) incomplete)
later_open members g n (_ ∷ earlier) arrivals tasks (inl e) = absurd (cc)
later_open members g n (_ ∷ earlier) arrivals tasks (inr past) = later_open members g n earlier arrivals.1 tasks.1 past

pub creates_later : (members : ℕ) (h : List Event) → Always (ArrivalRule members) h → Always (TaskRule members) h → Always CreatesLater h
creates_later members [] arrivals tasks = tt
creates_later members (Create task member p desc ∷ earlier) arrivals tasks = (
  (λ g n past. new_later members g n task member p desc earlier arrivals.1 tasks.1 tasks.0 past (later_open members g n earlier arrivals.1 tasks.1 past)),
  creates_later members earlier arrivals.1 tasks.1,
)
creates_later members (_ ∷ earlier) arrivals tasks = (tt, creates_later members earlier arrivals.1 tasks.1)
