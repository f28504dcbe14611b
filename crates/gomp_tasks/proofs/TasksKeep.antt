-- What the rows and the stacks of a team's tasks say: which tasks have a row, and which task a member executes.
use Rattle.std.proofs.Common.{◌≡◌, ℕ, ◌<◌, true, false, List, [], ◌∷◌, Option, Some, None, length, slice_get, slice_set, refl, ap, ◌∙◌, sym, subst, arith, inl, inr, ◌≤◌, ◌⊎◌, suc, zero}
use Rattle.std.specs.Prelude.{◌==◌, ◌||◌, ◌&&◌, not, IfSome, nat_lt, nat_le}
use Rattle.std.proofs.Math.Bool.{or-false}
use Rattle.std.proofs.lemmas.Bool.{cases_Bool}
use Rattle.std.proofs.lemmas.Bool.Decides.{nat_tests}
use Rattle.gomp_types.specs.declared.task.Task.{Task}
use Rattle.gomp_types.specs.declared.task.Task.TheVariants.{Implicit, Explicit}
use Rattle.gomp_types.specs.declared.limits.TheConstants.{MAX_TASK_DEPTH}
use Rattle.gomp_events.specs.declared.event.Event.{Event}
use Rattle.gomp_events.specs.declared.event.Event.TheVariants.{Start, Done}
use Rattle.gomp_events.specs.Tasks.{tasks_created, task_stack, executed_task, innermost_task, after_first, same_task, of_explicit, is_child, is_ancestor, is_created, is_complete}
use Rattle.gomp_events.specs.Goals.{is_unstarted}
use Rattle.gomp_events.specs.TaskRules.{MayStart}
use Rattle.gomp_types.proofs.Booleans.{same_number, other_number, is_equal, not_both, or_tells}
use Rattle.gomp_types.proofs.Lists.{slice_get-set}
use Rattle.gomp_events.proofs.Suspended.{current_open, unstarted_is_fresh, startable_is_fresh}
use Rattle.gomp_events.proofs.TaskDepths.{few_suspended}
use Rattle.gomp_events.specs.Cancels.{first_in}
use Rattle.gomp_rows.specs.Rows.{row_no, HasRow}
use Rattle.gomp_tasks.specs.declared.rows.Newest.{Newest}
use Rattle.gomp_tasks.specs.declared.rows.TaskRow.{TaskRow}
use Rattle.gomp_tasks.specs.Rows.{is_started, is_over}
use Rattle.gomp_tasks.specs.Stands.{TasksView, TablesStand, Stands, IsKept, IsTask}
use Rattle.gomp_tasks.specs.Calls.{task_or_implicit, is_within}
use Rattle.gomp_tasks.proofs.RowsAt.{row_given, row_is_there, row_under, row_or_none}

-- the tasks of another value with the same view
pub tasks_of_view_stand : (view now : TasksView) (h : List Event) → view ≡ now → Stands now h → Stands view h
tasks_of_view_stand view now h e st = subst (λ (v : TasksView). Stands v h) (sym e) st

-- Which tasks have a row

-- a task that was created and is not complete
pub open_has_row : (rows : List (Option TaskRow)) (stacks : List (List ℕ)) (roots : List Newest) (t : ℕ) (h : List Event) → TablesStand rows stacks roots h → is_created t h ≡ true → is_complete t h ≡ false → HasRow rows t
open_has_row rows stacks roots t h st made open' = elim (row_or_none (row_no rows t)) [
  | inl none ↦ absurd (not_both (is_complete t h) (st.gone t made none) open')
  | inr found ↦ row_is_there rows t found.0 found.1
]

-- one that nobody has started, and no cancellation has discarded
pub unstarted_has_row : (rows : List (Option TaskRow)) (stacks : List (List ℕ)) (roots : List Newest) (t : ℕ) (h : List Event) → TablesStand rows stacks roots h → is_unstarted t h ≡ true → HasRow rows t
unstarted_has_row rows stacks roots t h st new = let is = unstarted_is_fresh t h new in open_has_row rows stacks roots t h st is.0 is.2

-- one that a member may start
pub startable_has_row : (rows : List (Option TaskRow)) (stacks : List (List ℕ)) (roots : List Newest) (m t : ℕ) (h : List Event) → TablesStand rows stacks roots h → MayStart (length stacks) t m h → HasRow rows t
startable_has_row rows stacks roots m t h st rule = let is = startable_is_fresh m t h rule.may in open_has_row rows stacks roots t h st is.0 is.2

-- one that a member executes
pub executed_has_row : (rows : List (Option TaskRow)) (stacks : List (List ℕ)) (roots : List Newest) (m t : ℕ) (h : List Event) → TablesStand rows stacks roots h → executed_task m h ≡ Explicit t → HasRow rows t
executed_has_row rows stacks roots m t h st is = let open' = current_open (length stacks) m t h st.rule is in open_has_row rows stacks roots t h st open'.0 open'.1

pub innermost_has_row : (rows : List (Option TaskRow)) (stacks : List (List ℕ)) (roots : List Newest) (m : ℕ) (found : Option ℕ) (h : List Event) → TablesStand rows stacks roots h → executed_task m h ≡ task_or_implicit m found → IfSome found (λ t. HasRow rows t)
innermost_has_row rows stacks roots m None h st is = tt
innermost_has_row rows stacks roots m (Some t) h st is = executed_has_row rows stacks roots m t h st is

pub executed_is_task : (tasks : TasksView) (m : ℕ) (p : Task) (h : List Event) → Stands tasks h → executed_task m h ≡ p → IsTask p tasks
executed_is_task tasks m (Implicit k) h st is = tt
executed_is_task tasks m (Explicit t) h st is = executed_has_row tasks.rows tasks.stacks tasks.roots m t h st is

-- the parent of one that has a row
pub parent_is_task : (tasks : TasksView) (t : ℕ) (p : Task) (h : List Event) → Stands tasks h → IsKept t tasks → is_child p t h ≡ true → IsTask p tasks
parent_is_task tasks t (Implicit m) h st is child = tt
parent_is_task tasks t (Explicit q) h st is child =
    let found = row_under tasks.rows t is in
    st.parent t q found.0 found.1 (same_is_explicit found.0.parent q (sym ((st.kept_row t found.0 found.1).parent.children (Explicit q)) ∙ child))
  where
    same_is_explicit : (p : Task) (q : ℕ) → same_task p (Explicit q) ≡ true → p ≡ Explicit q
    same_is_explicit (Implicit m) q on = absurd (cc)
    same_is_explicit (Explicit x) q on = ap Explicit (is_equal x q on)

-- an explicit task above one that has a row is older; tasks up to `most` are looked through
ancestor_is_older : (rows : List (Option TaskRow)) (stacks : List (List ℕ)) (roots : List Newest) (h : List Event) → TablesStand rows stacks roots h → (a most t : ℕ) → t < most → HasRow rows t → is_ancestor (Explicit a) t h ≡ true → a < t
ancestor_is_older rows stacks roots h st a zero t lt has e = absurd (omega arith)
ancestor_is_older rows stacks roots h st a (suc most) t lt has e =
    let found = row_under rows t has in
    let is = (st.kept_row t found.0 found.1).parent in
    by found.0.parent (λ q up.
    let less = (is.older q up).1 in (
      less,
      λ above.
          let further = ancestor_is_older rows stacks roots h st a most q (omega (arith, lt, less)) (st.parent t q found.0 found.1 up) above in
          omega (arith, further, less),
    )) (sym (is.ancestors (Explicit a)) ∙ e)
  where
    by : (p : Task) → ((q : ℕ) → p ≡ Explicit q → (q < t) × (is_ancestor (Explicit a) q h ≡ true → a < t)) → (same_task p (Explicit a) || of_explicit (λ q. is_ancestor (Explicit a) q h) p) ≡ true → a < t
    by (Implicit m) over on = absurd (cc)
    by (Explicit q) over on = elim (or_tells (q == a) (is_ancestor (Explicit a) q h) on) [
      | inl here ↦ let same = is_equal q a here in let less = (over q refl).0 in omega (arith, same, less)
      | inr further ↦ (over q refl).1 further
    ]

-- so a task that is not older than another is not above it
not_above_older : (rows : List (Option TaskRow)) (stacks : List (List ℕ)) (roots : List Newest) (a t : ℕ) (h : List Event) → TablesStand rows stacks roots h → HasRow rows t → t ≤ a → is_ancestor (Explicit a) t h ≡ false
not_above_older rows stacks roots a t h st has late = elim (cases_Bool (is_ancestor (Explicit a) t h)) [
  | inl on ↦ absurd (let less = ancestor_is_older rows stacks roots h st a (suc t) t (omega arith) has on in omega (arith, less, late))
  | inr off ↦ off
]

-- of a task and those above it, only the task itself can be one that is not older than the task
pub itself_or_none : (rows : List (Option TaskRow)) (stacks : List (List ℕ)) (roots : List Newest) (a t : ℕ) (h : List Event) → TablesStand rows stacks roots h → HasRow rows t → t ≤ a → (t == a) ≡ is_within (Explicit a) (Explicit t) h
itself_or_none rows stacks roots a t h st has late = sym (ap (λ b. (t == a) || b) (not_above_older rows stacks roots a t h st has late) ∙ or-false (t == a))

-- a row is of a task that was created
pub row_of_created : (rows : List (Option TaskRow)) (stacks : List (List ℕ)) (roots : List Newest) (t : ℕ) (row : TaskRow) (h : List Event) → TablesStand rows stacks roots h → row_no rows t ≡ Some row → is_created t h ≡ true
row_of_created rows stacks roots t row h st at =
    let given = row_given rows t row at in let low = given.0 in let high = given.1 in let count = st.count in
    let some : nat_lt 0 t ≡ true = grind (arith, nat_tests, low) in
    let few : nat_le t (tasks_created h) ≡ true = grind (arith, nat_tests, high, count) in
    rw (some, few) refl

-- and says whether nobody has started it
pub unstarted_by_row : (rows : List (Option TaskRow)) (stacks : List (List ℕ)) (roots : List Newest) (t : ℕ) (row : TaskRow) (h : List Event) → TablesStand rows stacks roots h → row_no rows t ≡ Some row → is_unstarted t h ≡ (not (is_started row.state) && not (is_over row.state))
unstarted_by_row rows stacks roots t row h st at = let state = (st.kept_row t row at).state in rw (row_of_created rows stacks roots t row h st at, state.started, state.complete) refl

-- The innermost task of a member

innermost_is : (m : ℕ) (ts : List ℕ) → innermost_task m ts ≡ task_or_implicit m (first_in ts)
innermost_is m [] = refl
innermost_is m (t ∷ ts) = refl

-- it is the task that the member executes
pub executed_is : (rows : List (Option TaskRow)) (stacks : List (List ℕ)) (roots : List Newest) (m : ℕ) (ts : List ℕ) (found : Option ℕ) (h : List Event) → TablesStand rows stacks roots h → slice_get stacks m ≡ Some ts → found ≡ first_in ts → executed_task m h ≡ task_or_implicit m found
executed_is rows stacks roots m ts found h st at e = ap (innermost_task m) (st.stack m ts at) ∙ innermost_is m ts ∙ ap (task_or_implicit m) (sym e)

-- A stack that was written, or another

pub stack_set : (stacks : List (List ℕ)) (m : ℕ) (new : List ℕ) (k : ℕ) (ts : List ℕ) → slice_get (slice_set stacks m new) k ≡ Some ts → ((m ≡ k) × (ts ≡ new)) ⊎ (((m == k) ≡ false) × (slice_get stacks k ≡ Some ts))
stack_set stacks m new k ts at = elim (slice_get-set stacks m k new ts at) [
  | inl here ↦ inl (sym here.0, here.1)
  | inr away ↦ inr (other_number m k (λ same. away.0 (sym same)), away.1)
]

pub stack_popped : (t m k : ℕ) (ts us : List ℕ) (h : List Event) → m ≡ k → us ≡ after_first ts → task_stack m h ≡ ts → task_stack k (Done t m ∷ h) ≡ us
stack_popped t m k ts us h here e is =
    let own : task_stack m (Done t m ∷ h) ≡ after_first ts = rw (same_number m) (ap after_first is) in
    subst (λ (x : ℕ). task_stack x (Done t m ∷ h) ≡ us) here (own ∙ sym e)

pub stack_pushed : (t m k : ℕ) (ts us : List ℕ) (h : List Event) → m ≡ k → us ≡ t ∷ ts → task_stack m h ≡ ts → task_stack k (Start t m ∷ h) ≡ us
stack_pushed t m k ts us h here e is =
    let own : task_stack m (Start t m ∷ h) ≡ t ∷ ts = rw (same_number m) (ap (λ xs. t ∷ xs) is) in
    subst (λ (x : ℕ). task_stack x (Start t m ∷ h) ≡ us) here (own ∙ sym e)

-- there is room for a task that is started
pub stack_room : (rows : List (Option TaskRow)) (stacks : List (List ℕ)) (roots : List Newest) (m t : ℕ) (ts : List ℕ) (h : List Event) → TablesStand rows stacks roots h → slice_get stacks m ≡ Some ts → MayStart (length stacks) t m h → length ts < MAX_TASK_DEPTH
stack_room rows stacks roots m t ts h st at rule =
    let top : task_stack m (Start t m ∷ h) ≡ t ∷ ts = stack_pushed t m m ts (t ∷ ts) h refl refl (st.stack m ts at) in
    let most = few_suspended (length stacks) m (Start t m ∷ h) (rule, st.rule) in
    let all : length (task_stack m (Start t m ∷ h)) ≡ length (t ∷ ts) = ap length top in
    omega (arith, all, most)
