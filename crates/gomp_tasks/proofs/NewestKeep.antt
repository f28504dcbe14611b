-- Which task was created last in another, as tasks are created and as other events come.
use Rattle.std.proofs.Common.{◌≡◌, ℕ, ◌<◌, ◌≤◌, Bool, false, List, [], ◌∷◌, refl, ap, ◌∙◌, arith}
use Rattle.std.specs.Prelude.{◌==◌, ◌||◌}
use Rattle.gomp_types.specs.declared.task.Task.{Task}
use Rattle.gomp_types.specs.declared.task.Task.TheVariants.{Implicit, Explicit}
use Rattle.gomp_types.specs.declared.task.TaskDesc.{TaskDesc}
use Rattle.gomp_events.specs.declared.event.Event.{Event}
use Rattle.gomp_events.specs.declared.event.Event.TheVariants.{Create}
use Rattle.gomp_events.specs.Tasks.{same_task, tasks_created, innermost_task, task_stack, of_explicit, is_final, is_undeferred, newest_child}
use Rattle.gomp_events.specs.Laws.{Always}
use Rattle.gomp_events.specs.TaskRules.{TaskRule}
use Rattle.gomp_types.proofs.Booleans.{same_number, other_number}
use Rattle.gomp_events.proofs.OpenTasks.{created_high}
use Rattle.gomp_events.proofs.Suspended.{current_open}
use Rattle.gomp_events.proofs.TaskReadings.{newest_once_created}
use Rattle.gomp_events.proofs.TasksKeep.{newest_is_created}
use Rattle.gomp_tasks.specs.declared.rows.Newest.{Newest}
use Rattle.gomp_tasks.specs.Rows.{NewestIs, no_newest}
use Rattle.gomp_tasks.specs.Calls.{IsNoTaskEvent}

-- An event that creates no task

abbrev pub CreatesNone : Event → Type 0
CreatesNone (Create t m p desc) = ⊥
CreatesNone _ = Unit {0}

pub aside_creates_none : (event : Event) → IsNoTaskEvent event → CreatesNone event
aside_creates_none (Create t m p desc) is = is
aside_creates_none _ is = tt

pub created_as_many : (event : Event) (h : List Event) → CreatesNone event → tasks_created (event ∷ h) ≡ tasks_created h
created_as_many (Create t m p desc) h none = absurd none
created_as_many _ h none = refl

pub newest_child_stays : (p : Task) (newest : Newest) (event : Event) (h : List Event) → CreatesNone event → NewestIs p newest h → NewestIs p newest (event ∷ h)
newest_child_stays p newest (Create t m q desc) h none is = absurd none
newest_child_stays p newest _ h none is = record { task = is.task; undeferred = is.undeferred }

-- What was created

-- the number 0 is of no task, so of no undeferred one
pub number_zero_is_deferred : (members : ℕ) (h : List Event) → Always (TaskRule members) h → is_undeferred 0 h ≡ false
number_zero_is_deferred members [] all = refl
number_zero_is_deferred members (Create task m p desc ∷ earlier) all =
    let number = all.0.number in
    let other : (task == 0) ≡ false = other_number task 0 (λ e. omega (arith, e, number)) in
    rw other (number_zero_is_deferred members earlier all.1)
number_zero_is_deferred members (_ ∷ earlier) all = number_zero_is_deferred members earlier all.1

no_newest_is : (members : ℕ) (p : Task) (h : List Event) → Always (TaskRule members) h → newest_child p h ≡ 0 → NewestIs p no_newest h
no_newest_is members p h all none = record { task = none; undeferred = ap (λ (x : ℕ). is_undeferred x h) none ∙ number_zero_is_deferred members h all }

-- no task is created in the implicit task of a member that the team does not have
nobody_creates : (members m member : ℕ) (parent : Task) (ts : List ℕ) → members ≤ m → member < members → parent ≡ innermost_task member ts → same_task parent (Implicit m) ≡ false
nobody_creates members m member parent [] past low e = rw e (other_number member m (λ same. omega (arith, same, past, low)))
nobody_creates members m member parent (t ∷ ts) past low e = rw e refl

none_in_no_member : (members m : ℕ) (h : List Event) → Always (TaskRule members) h → members ≤ m → newest_child (Implicit m) h ≡ 0
none_in_no_member members m [] all past = refl
none_in_no_member members m (Create task member parent desc ∷ earlier) all past =
    rw (nobody_creates members m member parent (task_stack member earlier) past all.0.member all.0.current) (none_in_no_member members m earlier all.1 past)
none_in_no_member members m (_ ∷ earlier) all past = none_in_no_member members m earlier all.1 past

pub no_newest_in_no_member : (members m : ℕ) (h : List Event) → Always (TaskRule members) h → members ≤ m → NewestIs (Implicit m) no_newest h
no_newest_in_no_member members m h all past = no_newest_is members (Implicit m) h all (none_in_no_member members m h all past)

-- nor in one that was not created
uncreated_creates_none : (members t member : ℕ) (parent : Task) (h : List Event) → Always (TaskRule members) h → tasks_created h < t → parent ≡ innermost_task member (task_stack member h) → same_task parent (Explicit t) ≡ false
uncreated_creates_none members t member (Implicit x) h all past e = refl
uncreated_creates_none members t member (Explicit q) h all past e =
    let high = created_high q h (current_open members member q h all (let is : innermost_task member (task_stack member h) ≡ Explicit q = cc in is)).0 in
    other_number q t (λ same. omega (arith, same, high, past))

none_in_no_task : (members t : ℕ) (h : List Event) → Always (TaskRule members) h → tasks_created h < t → newest_child (Explicit t) h ≡ 0
none_in_no_task members t [] all past = refl
none_in_no_task members t (Create task member parent desc ∷ earlier) all past =
    let before : tasks_created earlier < t = omega (arith, past) in
    rw (uncreated_creates_none members t member parent earlier all.1 before all.0.current) (none_in_no_task members t earlier all.1 before)
none_in_no_task members t (_ ∷ earlier) all past = none_in_no_task members t earlier all.1 past

pub no_newest_in_no_task : (members t : ℕ) (h : List Event) → Always (TaskRule members) h → tasks_created h < t → NewestIs (Explicit t) no_newest h
no_newest_in_no_task members t h all past = no_newest_is members (Explicit t) h all (none_in_no_task members t h all past)

-- A task that is created

-- it is the newest in its parent
pub newest_in_its_parent : (t m : ℕ) (p : Task) (desc : TaskDesc) (in_final : Bool) (h : List Event) → in_final ≡ of_explicit (λ q. is_final q h) p → NewestIs p (record { task = t; undeferred = desc.undeferred || in_final }) (Create t m p desc ∷ h)
newest_in_its_parent t m p desc in_final h final_is =
    let now = newest_once_created t m p desc h in
    let own : is_undeferred t (Create t m p desc ∷ h) ≡ (desc.undeferred || in_final) = rw (same_number t, final_is) refl in
    record { task = now; undeferred = ap (λ (x : ℕ). is_undeferred x (Create t m p desc ∷ h)) now ∙ own }

-- and in no other
pub newest_in_another : (members t m : ℕ) (p q : Task) (desc : TaskDesc) (newest : Newest) (h : List Event) → Always (TaskRule members) h → tasks_created h < t → same_task p q ≡ false → NewestIs q newest h → NewestIs q newest (Create t m p desc ∷ h)
newest_in_another members t m p q desc newest h all past apart is =
    let high = newest_is_created members q h all in
    let other : (t == newest_child q h) ≡ false = other_number t (newest_child q h) (λ same. omega (arith, same, high, past)) in
    let same : newest_child q (Create t m p desc ∷ h) ≡ newest_child q h = rw apart refl in
    record { task = same ∙ is.task; undeferred = ap (λ (x : ℕ). is_undeferred x (Create t m p desc ∷ h)) same ∙ (rw other is.undeferred) }
