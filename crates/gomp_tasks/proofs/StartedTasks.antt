-- The tasks that a member has started and not ended lie one above another: what descends from the innermost descends from all.
use Rattle.std.proofs.Common.{◌≡◌, ℕ, ◌<◌, Bool, true, false, List, [], ◌∷◌, Option, length, refl, ◌∙◌, sym, subst, arith, suc, zero, inl, inr, ◌⊎◌, Some}
use Rattle.std.specs.Prelude.{◌==◌, ◌||◌, ◌&&◌, not, if◌then◌else◌}
use Rattle.std.proofs.lemmas.Bool.{cases_Bool}
use Rattle.gomp_types.specs.declared.task.Task.{Task}
use Rattle.gomp_types.specs.declared.task.Task.TheVariants.{Implicit, Explicit}
use Rattle.gomp_events.specs.declared.event.Event.{Event}
use Rattle.gomp_events.specs.declared.event.Event.TheVariants.{Create, Start, Done}
use Rattle.gomp_events.specs.Events.{at_barrier}
use Rattle.gomp_events.specs.Tasks.{task_stack, executed_task, innermost_task, after_first, contains, same_task, of_explicit, is_ancestor}
use Rattle.gomp_events.specs.Goals.{each_of, is_ready, may_descend, may_start}
use Rattle.gomp_events.specs.Laws.{Always}
use Rattle.gomp_events.specs.TaskRules.{TaskRule}
use Rattle.gomp_types.proofs.Booleans.{and_left, and_right, or_tells, or_right, same_number, other_number, is_equal}
use Rattle.gomp_events.proofs.OpenTasks.{created_high}
use Rattle.gomp_events.proofs.Suspended.{tasks_stacked}
use Rattle.gomp_events.proofs.TaskStacks.{each_same}
use Rattle.gomp_rows.specs.Rows.{row_no, HasRow}
use Rattle.gomp_tasks.specs.declared.rows.Newest.{Newest}
use Rattle.gomp_tasks.specs.declared.rows.TaskRow.{TaskRow}
use Rattle.gomp_tasks.specs.Rows.{is_started, is_over}
use Rattle.gomp_tasks.specs.Stands.{TablesStand}
use Rattle.gomp_tasks.specs.Calls.{is_within, is_under_all, may_run}
use Rattle.gomp_tasks.proofs.RowsAt.{row_under, row_is_there}
use Rattle.gomp_tasks.proofs.TasksKeep.{unstarted_by_row}

-- An ancestor of an ancestor is an ancestor

-- what is above the task s is above each parent that s is, or that lies below s
over_parent : (a : Task) (s : ℕ) (h : List Event) → is_ancestor a s h ≡ true → (p : Task) → ((q : ℕ) → p ≡ Explicit q → is_ancestor (Explicit s) q h ≡ true → is_ancestor a q h ≡ true) →
    (same_task p (Explicit s) || of_explicit (λ q. is_ancestor (Explicit s) q h) p) ≡ true → (same_task p a || of_explicit (λ q. is_ancestor a q h) p) ≡ true
over_parent a s h top (Implicit x) through far = absurd (cc)
over_parent a s h top (Explicit q) through far =
    or_right (same_task (Explicit q) a) (is_ancestor a q h) (elim (or_tells (q == s) (is_ancestor (Explicit s) q h) far) [
      | inl same ↦ subst (λ (x : ℕ). is_ancestor a x h ≡ true) (sym (is_equal q s same)) top
      | inr further ↦ through q refl further
    ])

-- so it is above each task below s that has a row; tasks up to `most` are looked through
pub through_parent : (rows : List (Option TaskRow)) (stacks : List (List ℕ)) (roots : List Newest) (h : List Event) → TablesStand rows stacks roots h → (a : Task) (s : ℕ) → is_ancestor a s h ≡ true → (most t : ℕ) → t < most → HasRow rows t → is_ancestor (Explicit s) t h ≡ true → is_ancestor a t h ≡ true
through_parent rows stacks roots h st a s top zero t lt has e = absurd (omega arith)
through_parent rows stacks roots h st a s top (suc most) t lt has e =
    let found = row_under rows t has in
    let is = (st.kept_row t found.0 found.1).parent in
    is.ancestors a ∙ over_parent a s h top found.0.parent (λ q up far.
    let less = (is.older q up).1 in
    through_parent rows stacks roots h st a s top most q (omega (arith, lt, less)) (st.parent t q found.0 found.1 up) far) (sym (is.ancestors (Explicit s)) ∙ e)

-- The started tasks of a member

-- each of them descends from those before it
abbrev Chained : (ℕ → ℕ → Bool) → List ℕ → Type 0
Chained under [] = Unit {0}
Chained under (t ∷ ts) = (each_of (λ s. under s t) ts ≡ true) × Chained under ts

chained_same : (one other : ℕ → ℕ → Bool) (ts : List ℕ) → ((s t : ℕ) → contains t ts ≡ true → other s t ≡ one s t) → Chained one ts → Chained other ts
chained_same one other [] same all = tt
chained_same one other (t ∷ ts) same all =
    (each_same (λ s. one s t) (λ s. other s t) ts (λ s. same s t (rw (same_number t) refl)) all.0, chained_same one other ts (λ s u there. same s u (or_right (t == u) (contains u ts) there)) all.1)

chained_rest : (under : ℕ → ℕ → Bool) (ts : List ℕ) → Chained under ts → (b : Bool) → Chained under (if b then after_first ts else ts)
chained_rest under [] all true = tt
chained_rest under (t ∷ ts) all true = all.1
chained_rest under ts all false = all

chained_more : (m task member : ℕ) (h : List Event) → may_start member task h ≡ true → Chained (λ s t. is_ancestor (Explicit s) t h) (task_stack m h) → (b : Bool) → (member == m) ≡ b →
    Chained (λ s t. is_ancestor (Explicit s) t h) (if b then task ∷ task_stack m h else task_stack m h)
chained_more m task member h may all false e = all
chained_more m task member h may all true e =
    let down = and_right (is_ready task h) (may_descend member task h) may in
    let each = and_left (is_under_all (task_stack member h) task h) (at_barrier member h || is_ancestor (Implicit member) task h) down in
    (subst (λ (x : ℕ). is_under_all (task_stack x h) task h ≡ true) (is_equal member m e) each, all)

started_chained : (members m : ℕ) (h : List Event) → Always (TaskRule members) h → Chained (λ s t. is_ancestor (Explicit s) t h) (task_stack m h)
started_chained members m [] all = tt
started_chained members m (Start task member ∷ earlier) all = chained_more m task member earlier all.0.may (started_chained members m earlier all.1) (member == m) refl
started_chained members m (Done task member ∷ earlier) all = chained_rest (λ s t. is_ancestor (Explicit s) t earlier) (task_stack m earlier) (started_chained members m earlier all.1) (member == m)
started_chained members m (Create task member p desc ∷ earlier) all =
    chained_same (λ s t. is_ancestor (Explicit s) t earlier) (λ s t. is_ancestor (Explicit s) t (Create task member p desc ∷ earlier)) (task_stack m earlier)
    (λ s t there.
    let high = created_high t earlier (((tasks_stacked members earlier all.1) m).1 t there).0 in
    let number = all.0.number in
    let old : (task == t) ≡ false = other_number task t (λ same. omega (arith, high, number, same)) in rw old refl)
    (started_chained members m earlier all.1)
started_chained members m (_ ∷ earlier) all = started_chained members m earlier all.1

-- what descends from one descends from all that this one descends from
under_rest : (rows : List (Option TaskRow)) (stacks : List (List ℕ)) (roots : List Newest) (t s : ℕ) (ss : List ℕ) (h : List Event) → TablesStand rows stacks roots h → HasRow rows t → is_ancestor (Explicit s) t h ≡ true → is_under_all ss s h ≡ true → is_under_all ss t h ≡ true
under_rest rows stacks roots t s [] h st has far each = refl
under_rest rows stacks roots t s (u ∷ us) h st has far each =
    rw (through_parent rows stacks roots h st (Explicit u) s (and_left (is_ancestor (Explicit u) s h) (is_under_all us s h) each) (suc t) t (omega arith) has far)
    (under_rest rows stacks roots t s us h st has far (and_right (is_ancestor (Explicit u) s h) (is_under_all us s h) each))

-- the innermost tells
pub under_all_of : (rows : List (Option TaskRow)) (stacks : List (List ℕ)) (roots : List Newest) (t s : ℕ) (ss : List ℕ) (h : List Event) → TablesStand rows stacks roots h → HasRow rows t → Chained (λ u v. is_ancestor (Explicit u) v h) (s ∷ ss) → is_under_all (s ∷ ss) t h ≡ is_ancestor (Explicit s) t h
under_all_of rows stacks roots t s ss h st has all =
    elim (cases_Bool (is_ancestor (Explicit s) t h)) [
      | inl far ↦ rw far (under_rest rows stacks roots t s ss h st has far all.0)
      | inr not_under ↦ rw not_under refl
    ]

pub under_started : (rows : List (Option TaskRow)) (stacks : List (List ℕ)) (roots : List Newest) (m t s : ℕ) (h : List Event) → TablesStand rows stacks roots h → HasRow rows t → executed_task m h ≡ Explicit s → is_under_all (task_stack m h) t h ≡ is_ancestor (Explicit s) t h
under_started rows stacks roots m t s h st has top = by (task_stack m h) (started_chained (length stacks) m h st.rule) top
  where
    by : (ts : List ℕ) → Chained (λ u v. is_ancestor (Explicit u) v h) ts → innermost_task m ts ≡ Explicit s → is_under_all ts t h ≡ is_ancestor (Explicit s) t h
    by [] all e = absurd (cc)
    by (x ∷ xs) all e = let same : x ≡ s = cc in subst (λ (y : ℕ). is_under_all (x ∷ xs) t h ≡ is_ancestor (Explicit y) t h) same (under_all_of rows stacks roots t x xs h st has all)

-- a member that has started no task that it has not ended
pub under_none : (m t : ℕ) (h : List Event) → executed_task m h ≡ Implicit m → is_under_all (task_stack m h) t h ≡ true
under_none m t h top = by (task_stack m h) top
  where
    by : (ts : List ℕ) → innermost_task m ts ≡ Implicit m → is_under_all ts t h ≡ true
    by [] e = refl
    by (x ∷ xs) e = absurd (cc)

-- whether the innermost is the parent of a task, or lies above that, tells whether all are above the task; all are if there is none
pub under_by_parent : (rows : List (Option TaskRow)) (stacks : List (List ℕ)) (roots : List Newest) (m t : ℕ) (row : TaskRow) (told : Bool) (h : List Event) → TablesStand rows stacks roots h → row_no rows t ≡ Some row → (executed_task m h ≡ Implicit m → told ≡ true) → ((s : ℕ) → executed_task m h ≡ Explicit s → told ≡ is_within (Explicit s) row.parent h) →
    is_under_all (task_stack m h) t h ≡ told
under_by_parent rows stacks roots m t row told h st at none some = by (executed_task m h) refl (innermost_or_none m (task_stack m h))
  where
    innermost_or_none : (m : ℕ) (ts : List ℕ) → (innermost_task m ts ≡ Implicit m) ⊎ ((s : ℕ) × (innermost_task m ts ≡ Explicit s))
    innermost_or_none m [] = inl refl
    innermost_or_none m (s ∷ ss) = inr (s, refl)

    by : (p : Task) → executed_task m h ≡ p → (p ≡ Implicit m) ⊎ ((s : ℕ) × (p ≡ Explicit s)) → is_under_all (task_stack m h) t h ≡ told
    by p is (inl top) = under_none m t h (is ∙ top) ∙ sym (none (is ∙ top))
    by p is (inr top) =
        let own = (st.kept_row t row at).parent in
        under_started rows stacks roots m t top.0 h st (row_is_there rows t row at) (is ∙ top.1) ∙ own.ancestors (Explicit top.0) ∙ sym (some top.0 (is ∙ top.1))

-- a member may start a task if its row says that nobody has, and that it lies below what it has to lie below
pub may_run_by_row : (rows : List (Option TaskRow)) (stacks : List (List ℕ)) (roots : List Newest) (m t : ℕ) (row : TaskRow) (h : List Event) → TablesStand rows stacks roots h → row_no rows t ≡ Some row → may_run m t h ≡ ((not (is_started row.state) && not (is_over row.state)) && (is_under_all (task_stack m h) t h && (at_barrier m h || (row.root == m))))
may_run_by_row rows stacks roots m t row h st at = rw (unstarted_by_row rows stacks roots t row h st at, (st.kept_row t row at).root m) refl

-- what is asked of the tree last decides, if the rest holds
pub last_decides : (new started rest : Bool) → (new && rest) ≡ true → (new && (started && rest)) ≡ started
last_decides true true true on = refl
last_decides true false true on = refl
last_decides true started false on = absurd (cc)
last_decides false started rest on = absurd (cc)

pub rest_decides : (new started rest : Bool) → (new && rest) ≡ false → (new && (started && rest)) ≡ false
rest_decides true true true off = absurd (cc)
rest_decides true false true off = refl
rest_decides true true false off = refl
rest_decides true false false off = refl
rest_decides false started rest off = refl
