-- What a creation that is not answered whole has created stays as it is: only a member that executes a task creates children in it.
use Rattle.std.proofs.Common.{◌≡◌, ℕ, Bool, true, false, List, [], ◌∷◌, Option, Some, None, refl, sym, ◌∙◌, subst, arith, inl, inr}
use Rattle.std.specs.Prelude.{◌==◌}
use Rattle.std.proofs.lemmas.Bool.{cases_Bool}
use Rattle.gomp_types.specs.declared.call.Call.{Call}
use Rattle.gomp_types.specs.declared.reply.Reply.{Reply}
use Rattle.gomp_types.specs.declared.task.Task.{Task}
use Rattle.gomp_types.specs.declared.task.Task.TheVariants.{Explicit}
use Rattle.gomp_types.specs.declared.task.TaskDesc.{TaskDesc}
use Rattle.gomp_events.specs.declared.event.Event.{Event}
use Rattle.gomp_events.specs.declared.event.Event.TheVariants.{Create, Start, Done}
use Rattle.gomp_events.specs.Laws.{Always}
use Rattle.gomp_events.specs.Tasks.{same_task, contains, is_created, task_stack, innermost_task, executed_task, task_runner, task_desc, newest_child, is_undeferred}
use Rattle.gomp_events.specs.TaskRules.{TaskRule}
use Rattle.gomp_types.proofs.Booleans.{same_number, other_number, or_right, not_both}
use Rattle.gomp_events.proofs.GroupsKeep.{same_is_one, Executes, executed_by, one_executes}
use Rattle.gomp_events.proofs.LaterTasks.{not_new}
use Rattle.gomp_events.proofs.Suspended.{Apart, IsOpen, tasks_stacked}
use Rattle.gomp_events.proofs.TasksKeep.{newest_is_created}
use Rattle.gomp_model.specs.Past.{Past}
use Rattle.gomp_model.specs.Row.{Row, begun_past, events_after}
use Rattle.gomp_model.specs.Calls.{row_of}
use Rattle.gomp_laws.specs.Rules.{TeamRule}
use Rattle.gomp_laws.proofs.TeamShares.{task_rules}
use Rattle.gomp_laws.proofs.Sound.{is_run, is_end, HasCreated, IsSound, gives_of, Gives}
use Rattle.gomp_laws.proofs.CallsKeep.{OwnKeeps, LastKeeps, since_keeps, step_keeps}
use Rattle.gomp_laws.proofs.Waiting.{WaitCreated, Covers}

-- One event

-- an event that creates no task in this one
abbrev pub Leaves : Task → Event → Type 0
Leaves p (Create t m parent desc) = same_task parent p ≡ false
Leaves p _ = Unit {0}

-- keeps what was created there last
pub made_stays : (members : ℕ) (row : Row) (p : Task) (event : Event) (h : List Event) → Always (TaskRule members) (event ∷ h) → Leaves p event → HasCreated row p h → HasCreated row p (event ∷ h)
made_stays members row p (Create task m parent desc) h all leaves made = λ asked is.
    let was = made asked is in
    let below = newest_is_created members p h all.1 in
    let number = all.0.number in
    let old : (task == newest_child p h) ≡ false = other_number task (newest_child p h) (λ same. omega (arith, same, number, below)) in
    let now : List Event = Create task m parent desc ∷ h in
    let newest : newest_child p now ≡ newest_child p h = rw leaves refl in
    subst (λ (t : ℕ). (task_desc t now ≡ Some asked) × (is_undeferred t now ≡ true)) (sym newest) (rw old was)
made_stays members row p _ h all leaves made = made

-- a task that was created is undeferred or not for good
pub undeferred_stays : (members t : ℕ) (event : Event) (h : List Event) → Always (TaskRule members) (event ∷ h) → is_created t h ≡ true → is_undeferred t (event ∷ h) ≡ is_undeferred t h
undeferred_stays members t (Create task m parent desc) h all made = rw (not_new t task h made all.0.number) refl
undeferred_stays members t _ h all made = refl

-- an event that creates no task in those beneath which a member has started others
abbrev LeavesBeneath : ℕ → Event → List ℕ → Type 0
LeavesBeneath k event [] = Unit {0}
LeavesBeneath k event (t ∷ ts) = Leaves (innermost_task k ts) event × LeavesBeneath k event ts

leaves_all : (k : ℕ) (event : Event) (ts : List ℕ) → ((p : Task) → Leaves p event) → LeavesBeneath k event ts
leaves_all k event [] each = tt
leaves_all k event (t ∷ ts) each = (each (innermost_task k ts), leaves_all k event ts each)

-- the tasks of a list are open, and this member started them
abbrev AreOpen : ℕ → List ℕ → List Event → Type 0
AreOpen k ts h = (t : ℕ) → contains t ts ≡ true → IsOpen k t h

first_open : (k t : ℕ) (ts : List ℕ) (h : List Event) → AreOpen k (t ∷ ts) h → IsOpen k t h
first_open k t ts h opened = opened t (rw (same_number t) refl)

rest_is_open : (k t : ℕ) (ts : List ℕ) (h : List Event) → AreOpen k (t ∷ ts) h → AreOpen k ts h
rest_is_open k t ts h opened = λ u there. opened u (or_right (t == u) (contains u ts) there)

-- what covers its tasks stays
event_covers : (members k : ℕ) (event : Event) (h : List Event) (calls : List Call) (ts : List ℕ) → Always (TaskRule members) (event ∷ h) → AreOpen k ts h → LeavesBeneath k event ts → Covers k calls ts h → Covers k calls ts (event ∷ h)
event_covers members k event h calls [] all opened leaves covers = covers
event_covers members k event h calls (t ∷ ts) all opened leaves (inl held) =
    inl (undeferred_stays members t event h all (first_open k t ts h opened).0 ∙ held.0, event_covers members k event h calls ts all (rest_is_open k t ts h opened) leaves.1 held.1)
event_covers members k event h [] (t ∷ ts) all opened leaves (inr covers) = absurd covers.1
event_covers members k event h (call ∷ calls) (t ∷ ts) all opened leaves (inr covers) =
    inr (
      undeferred_stays members t event h all (first_open k t ts h opened).0 ∙ covers.0,
      (
        record { outside = covers.1.0.outside; created = made_stays members (row_of call) (innermost_task k ts) event h all leaves.0 covers.1.0.created },
        event_covers members k event h calls ts all (rest_is_open k t ts h opened) leaves.1 covers.1.1,
      ),
    )

-- Another member's events

-- the innermost of such tasks is one that the member executes
open_executes : (k : ℕ) (ts : List ℕ) (h : List Event) → AreOpen k ts h → Executes (λ u. task_runner u h) k (innermost_task k ts)
open_executes k [] h opened = refl
open_executes k (t ∷ ts) h opened = (first_open k t ts h opened).2

-- so another member creates none in it
other_leaves : (members k n task : ℕ) (parent p : Task) (desc : TaskDesc) (h : List Event) → (n == k) ≡ false → Always (TaskRule members) (Create task n parent desc ∷ h) → Executes (λ u. task_runner u h) k p → same_task parent p ≡ false
other_leaves members k n task parent p desc h other all executes = elim (cases_Bool (same_task parent p)) [
  | inl same ↦
      let current : executed_task n h ≡ p = sym all.0.current ∙ same_is_one parent p same in
      let who = one_executes (λ u. task_runner u h) n k p (executed_by members n h all.1 p current) executes in
      let is : (n == k) ≡ true = rw (who, same_number k) refl in absurd (not_both (n == k) is other)
  | inr apart ↦ apart
]

other_leaves_beneath : (members k n task : ℕ) (parent : Task) (desc : TaskDesc) (h : List Event) (ts : List ℕ) → (n == k) ≡ false → Always (TaskRule members) (Create task n parent desc ∷ h) → AreOpen k ts h →
    LeavesBeneath k (Create task n parent desc) ts
other_leaves_beneath members k n task parent desc h [] other all opened = tt
other_leaves_beneath members k n task parent desc h (t ∷ ts) other all opened =
    let later = rest_is_open k t ts h opened in (
      other_leaves members k n task parent (innermost_task k ts) desc h other all (open_executes k ts h later),
      other_leaves_beneath members k n task parent desc h ts other all later,
    )

stack_open : (members k : ℕ) (h : List Event) → Always (TaskRule members) h → AreOpen k (task_stack k h) h
stack_open members k h all = (tasks_stacked members h all k).1

-- that a list of events covers a member's tasks, if it keeps the rule
abbrev CoversBy : ℕ → ℕ → List Call → List Event → Type 0
CoversBy members k calls now = Always (TeamRule members) now → Covers k calls (task_stack k now) now

pub quiet_covers : (members k : ℕ) (event : Event) (h : List Event) (calls : List Call) → Always (TeamRule members) (event ∷ h) → ((p : Task) → Leaves p event) → Covers k calls (task_stack k h) h → Covers k calls (task_stack k h) (event ∷ h)
quiet_covers members k event h calls rules leaves covers =
    event_covers members k event h calls (task_stack k h) (task_rules members (event ∷ h) rules) (stack_open members k h (task_rules members h rules.1)) (leaves_all k event (task_stack k h) leaves) covers

covers_by_another : (can : Gives) (reply : Reply) (members k m : ℕ) (calls : List Call) → (m == k) ≡ false → LastKeeps can m reply (CoversBy members k calls)
covers_by_another can reply members k m calls e (Create task n parent desc) h by kept = λ rules.
    let other : (n == k) ≡ false = rw by.0 e in
    let all = task_rules members (Create task n parent desc ∷ h) rules in
    let opened = stack_open members k h all.1 in
    event_covers members k (Create task n parent desc) h calls (task_stack k h) all opened (other_leaves_beneath members k n task parent desc h (task_stack k h) other all opened) (kept rules.1)
covers_by_another can reply members k m calls e (Start task n) h by kept = λ rules.
    let other : (n == k) ≡ false = rw by.0 e in rw other (quiet_covers members k (Start task n) h calls rules (λ p. tt) (kept rules.1))
covers_by_another can reply members k m calls e (Done task n) h by kept = λ rules.
    let other : (n == k) ≡ false = rw by.0 e in rw other (quiet_covers members k (Done task n) h calls rules (λ p. tt) (kept rules.1))
covers_by_another can reply members k m calls e event h by kept = λ rules. quiet_covers members k event h calls rules (λ p. tt) (kept rules.1)

pub covers_other : (row : Row) → IsSound row → (repeated : Bool) (members k m : ℕ) (p : Past) (reply : Reply) (calls : List Call) → (m == k) ≡ false → Always (TeamRule members) (events_after repeated row m p reply) →
    Covers k calls (task_stack k p.events) p.events → Covers k calls (task_stack k (events_after repeated row m p reply)) (events_after repeated row m p reply)
covers_other row sound repeated members k m p reply calls e rules covers =
    step_keeps row sound repeated m p reply (CoversBy members k calls) (covers_by_another (gives_of row) reply members k m calls e) (λ before. covers) rules

-- nor does it change what the call that waits has created
abbrev MadeBy : ℕ → ℕ → Row → List Event → Type 0
MadeBy members k row now = Always (TeamRule members) now → HasCreated row (executed_task k now) now

made_by_another : (can : Gives) (reply : Reply) (members k m : ℕ) (row : Row) → (m == k) ≡ false → LastKeeps can m reply (MadeBy members k row)
made_by_another can reply members k m row e (Create task n parent desc) h by kept = λ rules.
    let other : (n == k) ≡ false = rw by.0 e in
    let all = task_rules members (Create task n parent desc ∷ h) rules in
    let leaves = other_leaves members k n task parent (executed_task k h) desc h other all (open_executes k (task_stack k h) h (stack_open members k h all.1)) in
    made_stays members row (executed_task k h) (Create task n parent desc) h all leaves (kept rules.1)
made_by_another can reply members k m row e (Start task n) h by kept = λ rules.
    let other : (n == k) ≡ false = rw by.0 e in
    let same : task_stack k (Start task n ∷ h) ≡ task_stack k h = rw other (refl {a = task_stack k h}) in
    subst (λ (ts : List ℕ). HasCreated row (innermost_task k ts) (Start task n ∷ h)) (sym same) (kept rules.1)
made_by_another can reply members k m row e (Done task n) h by kept = λ rules.
    let other : (n == k) ≡ false = rw by.0 e in
    let same : task_stack k (Done task n ∷ h) ≡ task_stack k h = rw other (refl {a = task_stack k h}) in
    subst (λ (ts : List ℕ). HasCreated row (innermost_task k ts) (Done task n ∷ h)) (sym same) (kept rules.1)
made_by_another can reply members k m row e _ h by kept = λ rules. kept rules.1

pub created_other : (row : Row) → IsSound row → (repeated : Bool) (members k m : ℕ) (p : Past) (reply : Reply) (waiting : Option Call) → (m == k) ≡ false → Always (TeamRule members) (events_after repeated row m p reply) →
    WaitCreated k waiting p.events → WaitCreated k waiting (events_after repeated row m p reply)
created_other row sound repeated members k m p reply None e rules made = tt
created_other row sound repeated members k m p reply (Some call) e rules made =
    step_keeps row sound repeated m p reply (MadeBy members k (row_of call)) (made_by_another (gives_of row) reply members k m (row_of call) e) (λ before. made) rules

-- The member's own events

-- a member creates tasks in the one that it executes, which is none of those beneath
not_the_innermost : (k t : ℕ) (ts : List ℕ) → contains t ts ≡ false → same_task (Explicit t) (innermost_task k ts) ≡ false
not_the_innermost k t [] apart = refl
not_the_innermost k t (u ∷ us) apart = other_number t u (λ same. let there : contains t (u ∷ us) ≡ true = rw (same, same_number u) refl in not_both (contains t (u ∷ us)) there apart)

not_later : (t u : ℕ) (us : List ℕ) → contains t (u ∷ us) ≡ false → contains t us ≡ false
not_later t u us apart = elim (cases_Bool (contains t us)) [
  | inl there ↦ absurd (not_both (contains t (u ∷ us)) (or_right (u == t) (contains t us) there) apart)
  | inr away ↦ away
]

executed_leaves : (k n task t x : ℕ) (desc : TaskDesc) (ts : List ℕ) → contains t ts ≡ false → LeavesBeneath k (Create task n (Explicit t) desc) (x ∷ ts)
executed_leaves k n task t x desc [] apart = (refl, tt)
executed_leaves k n task t x desc (u ∷ us) apart = (not_the_innermost k t (u ∷ us) apart, executed_leaves k n task t u desc us (not_later t u us apart))

own_creation_leaves : (k n task : ℕ) (parent : Task) (desc : TaskDesc) (ts : List ℕ) → Apart ts → parent ≡ innermost_task k ts → LeavesBeneath k (Create task n parent desc) ts
own_creation_leaves k n task parent desc [] apart current = tt
own_creation_leaves k n task parent desc (t ∷ ts) apart current =
    subst (λ (p : Task). LeavesBeneath k (Create task n p desc) (t ∷ ts)) (sym current) (executed_leaves k n task t t desc ts apart.0)

own_creation_covers : (members m task n : ℕ) (parent : Task) (desc : TaskDesc) (h : List Event) (calls : List Call) → n ≡ m → Always (TeamRule members) (Create task n parent desc ∷ h) → Covers m calls (task_stack m h) h →
    Covers m calls (task_stack m h) (Create task n parent desc ∷ h)
own_creation_covers members m task n parent desc h calls who rules covers =
    let all = task_rules members (Create task n parent desc ∷ h) rules in
    let current : parent ≡ executed_task m h = subst (λ (x : ℕ). parent ≡ executed_task x h) who all.0.current in
    event_covers members m (Create task n parent desc) h calls (task_stack m h) all (stack_open members m h all.1) (own_creation_leaves m n task parent desc (task_stack m h) (tasks_stacked members h all.1 m).0 current) covers

covers_while_begun : (can : Gives) (members m : ℕ) (calls : List Call) → OwnKeeps can m (CoversBy members m calls)
covers_while_begun can members m calls (Create task n parent desc) h own kept = λ rules. own_creation_covers members m task n parent desc h calls own.0 rules (kept rules.1)
covers_while_begun can members m calls (Start task n) h own kept = absurd own
covers_while_begun can members m calls (Done task n) h own kept = absurd own
covers_while_begun can members m calls event h own kept = λ rules. quiet_covers members m event h calls rules (λ p. tt) (kept rules.1)

pub covers_begun : (row : Row) → IsSound row → (repeated : Bool) (members m : ℕ) (p : Past) (calls : List Call) → Always (TeamRule members) (begun_past repeated row m p).events →
    Covers m calls (task_stack m p.events) p.events → Covers m calls (task_stack m (begun_past repeated row m p).events) (begun_past repeated row m p).events
covers_begun row sound repeated members m p calls rules covers =
    since_keeps row sound repeated m p (CoversBy members m calls) (covers_while_begun (gives_of row) members m calls) (λ before. covers) rules

-- a reply that neither runs a task nor ends one
covers_by_own : (can : Gives) (reply : Reply) (members m : ℕ) (calls : List Call) → is_run reply ≡ false → is_end reply ≡ false → LastKeeps can m reply (CoversBy members m calls)
covers_by_own can reply members m calls run end (Create task n parent desc) h by kept = λ rules. own_creation_covers members m task n parent desc h calls by.0 rules (kept rules.1)
covers_by_own can reply members m calls run end (Start task n) h by kept = absurd (let runs = by.1 in cc)
covers_by_own can reply members m calls run end (Done task n) h by kept = absurd (let ends = by.1 in cc)
covers_by_own can reply members m calls run end event h by kept = λ rules. quiet_covers members m event h calls rules (λ p. tt) (kept rules.1)

pub covers_own : (row : Row) → IsSound row → (repeated : Bool) (members m : ℕ) (p : Past) (reply : Reply) (calls : List Call) → is_run reply ≡ false → is_end reply ≡ false → Always (TeamRule members) (events_after repeated row m p reply) →
    Covers m calls (task_stack m p.events) p.events → Covers m calls (task_stack m (events_after repeated row m p reply)) (events_after repeated row m p reply)
covers_own row sound repeated members m p reply calls run end rules covers =
    step_keeps row sound repeated m p reply (CoversBy members m calls) (covers_by_own (gives_of row) reply members m calls run end) (λ before. covers) rules

-- and of one that starts or ends one, what lay beneath stays
pub covers_started : (members m task : ℕ) (h : List Event) (calls : List Call) → Always (TeamRule members) (Start task m ∷ h) → Covers m calls (task_stack m h) h → Covers m calls (task_stack m h) (Start task m ∷ h)
covers_started members m task h calls rules covers = quiet_covers members m (Start task m) h calls rules (λ p. tt) covers

pub covers_ended : (members m task : ℕ) (h : List Event) (calls : List Call) → Always (TeamRule members) (Done task m ∷ h) → Covers m calls (task_stack m h) h → Covers m calls (task_stack m h) (Done task m ∷ h)
covers_ended members m task h calls rules covers = quiet_covers members m (Done task m) h calls rules (λ p. tt) covers
