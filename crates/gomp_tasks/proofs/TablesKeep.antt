-- What becomes of all that is kept of a team's tasks as they are created, started, ended and discarded.
use Rattle.std.proofs.Common.{◌≡◌, ◌≢◌, ℕ, ◌+◌, ◌-◌, ◌<◌, ◌≤◌, Bool, true, false, cond, List, [], ◌∷◌, ◌++◌, Option, Some, None, length, slice_get, slice_set, refl, ap, ◌∙◌, sym, subst, arith, suc, zero, inl, inr, ◌⊎◌, replicate}
use Rattle.std.specs.Prelude.{◌==◌, ◌||◌, count_by, if◌then◌else◌, nat_lt, nat_le}
use Rattle.std.proofs.Math.Bool.{or-false}
use Rattle.std.proofs.lemmas.Bool.Decides.{nat_tests}
use Rattle.std.proofs.lemmas.List.Sums.{count_by-le-length}
use Rattle.std.proofs.lemmas.Bool.{cases_Bool}
use Rattle.std.proofs.lemmas.List.{length-set, length-replicate}
use Rattle.gomp_types.specs.declared.task.Task.{Task}
use Rattle.gomp_types.specs.declared.task.Task.TheVariants.{Implicit, Explicit}
use Rattle.gomp_types.specs.declared.task.TaskDesc.{TaskDesc}
use Rattle.gomp_events.specs.declared.event.Event.{Event}
use Rattle.gomp_events.specs.declared.event.Event.TheVariants.{Create, Start, Done, Discard}
use Rattle.gomp_events.specs.Tasks.{same_task, tasks_created, is_created, is_complete, task_stack, executed_task, after_first, depth_of, epoch_of_child, is_odd, of_explicit, is_ancestor, is_final, newest_child}
use Rattle.gomp_events.specs.Laws.{Always}
use Rattle.gomp_events.specs.TaskRules.{TaskRule, MayCreate, MayStart, MayDiscard}
use Rattle.gomp_types.proofs.Booleans.{same_number, other_number, is_equal, unequal_numbers}
use Rattle.gomp_types.proofs.Lists.{slice_get-set}
use Rattle.gomp_events.proofs.OpenTasks.{created_low, created_high}
use Rattle.gomp_events.proofs.Suspended.{runner_has_started, current_open, unstarted_is_fresh, startable_is_fresh}
use Rattle.gomp_events.proofs.TaskRoom.{uncreated_not_started}
use Rattle.gomp_events.proofs.TasksKeep.{newest_is_created}
use Rattle.gomp_rows.specs.Rows.{row_no, HasRow, with_row}
use Rattle.gomp_tasks.specs.declared.rows.Newest.{Newest}
use Rattle.gomp_tasks.specs.declared.rows.TaskState.{TaskState}
use Rattle.gomp_tasks.specs.declared.rows.TaskState.TheVariants as states
use Rattle.gomp_tasks.specs.declared.rows.TaskRow.{TaskRow}
use Rattle.gomp_tasks.specs.Rows.{RowStands, NewestIs, is_over, is_needed, no_newest, newest_kept, unstarted_row, in_state, with_child, without_child}
use Rattle.gomp_tasks.specs.Stands.{TablesStand, TablesStandBut, StandBelow, is_row_of_child}
use Rattle.gomp_tasks.specs.Calls.{IsNoTaskEvent}
use Rattle.gomp_tasks.proofs.RowsAt.{row_given, row_is_there, row_under, as_many_rows, replaced_row, untouched_row, row_replaced, row_replaced_by_none, row_stays, other_row_stays, row_put_last, row_put_before, row_put, one_row_more, count_replaced, count_put, passing_row_is_counted, no_row_is_counted}
use Rattle.gomp_tasks.proofs.NewestKeep.{CreatesNone, aside_creates_none, created_as_many, newest_child_stays, no_newest_in_no_task, newest_in_its_parent, newest_in_another}
use Rattle.gomp_tasks.proofs.RowsKeep.{row_with_children, row_in_state, state_aside, Takes, start_takes, end_takes, discard_takes, old_row, new_row}
use Rattle.gomp_tasks.proofs.StateMoves.{nobody_runs, complete_later}
use Rattle.gomp_tasks.proofs.TasksKeep.{executed_has_row, stack_set, stack_popped, stack_pushed}

-- Rows of which one may not be needed

-- if it is, all are
pub all_needed : (task : ℕ) (rows : List (Option TaskRow)) (stacks : List (List ℕ)) (roots : List Newest) (h : List Event) → TablesStandBut task rows stacks roots h → ((row : TaskRow) → row_no rows task ≡ Some row → is_over row.state ≡ true → 0 < row.kept_children) → TablesStand rows stacks roots h
all_needed task rows stacks roots h st own = record {
  count = st.count;
  kept_row = st.kept_row;
  gone = st.gone;
  needed = λ t row at over. elim (cases_Bool (t == task)) [
    | inl here ↦ own row (subst (λ (x : ℕ). row_no rows x ≡ Some row) (is_equal t task here) at) over
    | inr other ↦ st.needed t row at over (unequal_numbers t task other)
  ];
  children = st.children;
  parent = st.parent;
  stack = st.stack;
  root = st.root;
  members = st.members;
  rule = st.rule;
}

-- a row that is not needed is of a complete task, and no child of that has one
pub not_needed : (row : TaskRow) → is_needed row ≡ false → (is_over row.state ≡ true) × (row.kept_children ≡ 0)
not_needed row off = elim (cases_Bool (is_over row.state)) [
  | inl over ↦ let none : nat_lt 0 row.kept_children ≡ false = rw over at off in (over, grind (arith, nat_tests, none))
  | inr open' ↦ let wrong : true ≡ false = rw open' at off in absurd (cc)
]

-- one that is needed, of a complete task, is so for a child
pub needed_by_a_child : (row : TaskRow) → is_needed row ≡ true → is_over row.state ≡ true → 0 < row.kept_children
needed_by_a_child row on over = let some : nat_lt 0 row.kept_children ≡ true = rw over at on in grind (arith, nat_tests, some)

-- Events that create no task

created_before : (t : ℕ) (event : Event) (h : List Event) → CreatesNone event → is_created t (event ∷ h) ≡ true → is_created t h ≡ true
created_before t (Create task m p desc) h none made = absurd none
created_before t _ h none made = made

-- one that creates, starts, ends or discards none
pub aside_keeps_tables : (rows : List (Option TaskRow)) (stacks : List (List ℕ)) (roots : List Newest) (event : Event) (h : List Event) → IsNoTaskEvent event → TaskRule (length stacks) event h → TablesStand rows stacks roots h → TablesStand rows stacks roots (event ∷ h)
aside_keeps_tables rows stacks roots event h is rule st =
    let none = aside_creates_none event is in
    let as_many = created_as_many event h none in record {
      count = as_many ∙ st.count;
      kept_row = λ t row at. row_in_state t row row.state event h none (state_aside t row.state event h is (st.kept_row t row at).state) (st.kept_row t row at);
      gone = λ t made no_row. complete_later t event h (st.gone t (created_before t event h none made) no_row);
      needed = st.needed;
      children = st.children;
      parent = st.parent;
      stack = λ m ts at. stack_aside m event h is ∙ st.stack m ts at;
      root = λ m newest at. newest_child_stays (Implicit m) newest event h none (st.root m newest at);
      members = st.members;
      rule = (rule, st.rule);
    }
  where
    stack_aside : (m : ℕ) (event : Event) (h : List Event) → IsNoTaskEvent event → task_stack m (event ∷ h) ≡ task_stack m h
    stack_aside m (Create t k p desc) h is = absurd is
    stack_aside m (Start t k) h is = absurd is
    stack_aside m (Done t k) h is = absurd is
    stack_aside m (Discard t k) h is = absurd is
    stack_aside m _ h is = refl

-- one that takes a task to another state
task_moves : (rows : List (Option TaskRow)) (stacks later : List (List ℕ)) (roots : List Newest) (t : ℕ) (row : TaskRow) (state : TaskState) (event : Event) (h : List Event) → TablesStand rows stacks roots h → row_no rows t ≡ Some row → CreatesNone event → Takes t state event h → TaskRule (length stacks) event h →
    length later ≡ length stacks → ((m : ℕ) (ts : List ℕ) → slice_get later m ≡ Some ts → task_stack m (event ∷ h) ≡ ts) → TablesStandBut t (with_row rows t (Some (in_state state row))) later roots (event ∷ h)
task_moves rows stacks later roots t row state event h st at none takes rule as_many stacked = record {
  count = created_as_many event h none ∙ st.count ∙ sym (as_many_rows rows t (Some (in_state state row)));
  kept_row = λ x found at_x. elim (row_replaced rows t x row found (Some (in_state state row)) at at_x) [
    | inl here ↦
        let same : in_state state row ≡ found = cc in
        subst (λ (n : ℕ). RowStands n found (event ∷ h)) (sym here.0) (subst (λ (r : TaskRow). RowStands t r (event ∷ h)) same (row_in_state t row state event h none takes.own (st.kept_row t row at)))
    | inr away ↦ row_in_state x found found.state event h none (takes.others x found.state away.0 (st.kept_row x found away.1).state) (st.kept_row x found away.1)
  ];
  gone = λ x made no_row. elim (row_replaced_by_none rows t x row (Some (in_state state row)) at no_row) [
    | inl here ↦ absurd (cc)
    | inr away ↦ complete_later x event h (st.gone x (created_before x event h none made) away.1)
  ];
  needed = λ x found at_x over apart. elim (row_replaced rows t x row found (Some (in_state state row)) at at_x) [
    | inl here ↦ absurd (apart here.0)
    | inr away ↦ st.needed x found away.1 over
  ];
  children = λ x found at_x.
      let count = count_replaced (is_row_of_child x) rows t row (Some (in_state state row)) at in
      elim (row_replaced rows t x row found (Some (in_state state row)) at at_x) [
        | inl here ↦
            let same : in_state state row ≡ found = cc in
            let kept : row.kept_children ≡ found.kept_children = ap (λ (r : TaskRow). r.kept_children) same in
            let old = st.children t row at in
            let old_x : count_by (is_row_of_child x) rows ≡ row.kept_children = rw here.0 old in
            omega (arith, count, old_x, kept)
        | inr away ↦ let old = st.children x found away.1 in omega (arith, count, old)
      ];
  parent = λ x p found at_x is. elim (row_replaced rows t x row found (Some (in_state state row)) at at_x) [
    | inl here ↦
        let same : in_state state row ≡ found = cc in
        row_stays rows t p row (in_state state row) at (st.parent t p row at (ap (λ (r : TaskRow). r.parent) same ∙ is))
    | inr away ↦ row_stays rows t p row (in_state state row) at (st.parent x p found away.1 is)
  ];
  stack = stacked;
  root = λ m newest at_m. newest_child_stays (Implicit m) newest event h none (st.root m newest at_m);
  members = st.members ∙ sym as_many;
  rule = subst (λ (n : ℕ). Always (TaskRule n) (event ∷ h)) (sym as_many) (rule, st.rule);
}

-- a task that is started
pub start_keeps_tables : (rows : List (Option TaskRow)) (stacks : List (List ℕ)) (roots : List Newest) (m t : ℕ) (row : TaskRow) (ts : List ℕ) (h : List Event) → TablesStand rows stacks roots h → slice_get stacks m ≡ Some ts → row_no rows t ≡ Some row → MayStart (length stacks) t m h →
    TablesStand (with_row rows t (Some (in_state (states.Running m) row))) (slice_set stacks m (t ∷ ts)) roots (Start t m ∷ h)
start_keeps_tables rows stacks roots m t row ts h st at_m at rule =
    all_needed t (with_row rows t (Some (in_state (states.Running m) row))) (slice_set stacks m (t ∷ ts)) roots (Start t m ∷ h)
    (task_moves rows stacks (slice_set stacks m (t ∷ ts)) roots t row (states.Running m) (Start t m) h st at tt (start_takes t m h (startable_is_fresh m t h rule.may).2) rule (length-set stacks m (t ∷ ts)) (λ k us at_k. elim (stack_set stacks m (t ∷ ts) k us at_k) [
      | inl here ↦ stack_pushed t m k ts us h here.0 here.1 (st.stack m ts at_m)
      | inr away ↦ rw away.0 (st.stack k us away.1)
    ]))
    (λ found at_t over.
    let same : Some (in_state (states.Running m) row) ≡ Some found = sym (replaced_row rows t row (Some (in_state (states.Running m) row)) at) ∙ at_t in
    let is : in_state (states.Running m) row ≡ found = cc in
    absurd (let open' : false ≡ true = ap (λ (r : TaskRow). is_over r.state) is ∙ over in cc))

-- one that ends
pub end_keeps_tables : (rows : List (Option TaskRow)) (stacks : List (List ℕ)) (roots : List Newest) (m t : ℕ) (row : TaskRow) (ts : List ℕ) (h : List Event) → TablesStand rows stacks roots h → m < length stacks → slice_get stacks m ≡ Some ts → row_no rows t ≡ Some row → executed_task m h ≡ Explicit t →
    TablesStandBut t (with_row rows t (Some (in_state (states.Done m) row))) (slice_set stacks m (after_first ts)) roots (Done t m ∷ h)
end_keeps_tables rows stacks roots m t row ts h st member at_m at top =
    let is = current_open (length stacks) m t h st.rule top in
    task_moves rows stacks (slice_set stacks m (after_first ts)) roots t row (states.Done m) (Done t m) h st at tt (end_takes t m h (runner_has_started t m h is.2) is.2) (record { member = member; current = top }) (length-set stacks m (after_first ts)) (λ k us at_k. elim (stack_set stacks m (after_first ts) k us at_k) [
      | inl here ↦ stack_popped t m k ts us h here.0 here.1 (st.stack m ts at_m)
      | inr away ↦ rw away.0 (st.stack k us away.1)
    ])

-- one that is discarded
pub discard_keeps_tables : (rows : List (Option TaskRow)) (stacks : List (List ℕ)) (roots : List Newest) (m t : ℕ) (row : TaskRow) (h : List Event) → TablesStand rows stacks roots h → row_no rows t ≡ Some row → MayDiscard (length stacks) t m h →
    TablesStandBut t (with_row rows t (Some (in_state states.Discarded row))) stacks roots (Discard t m ∷ h)
discard_keeps_tables rows stacks roots m t row h st at rule =
    let is = unstarted_is_fresh t h rule.unstarted in
    task_moves rows stacks stacks roots t row states.Discarded (Discard t m) h st at tt (discard_takes t m h is.1 (nobody_runs t h is.1)) rule refl st.stack

-- A row that is taken out

-- what it leaves: the other rows, one child less in its parent's
pub record RowLeft (t : ℕ) (p : Task) (rows less : List (Option TaskRow)) : Type 0 where
  pub found : (x : ℕ) (row : TaskRow) → row_no less x ≡ Some row → (x ≢ t) × (old : TaskRow) × (row_no rows x ≡ Some old) × (row ≡ (if same_task p (Explicit x) then without_child old else old))
  pub none : (x : ℕ) → row_no less x ≡ None → (x ≡ t) ⊎ (row_no rows x ≡ None)
  pub stays : (x : ℕ) → x ≢ t → HasRow rows x → HasRow less x
  pub count : (x : ℕ) → count_by (is_row_of_child x) less + cond (same_task p (Explicit x)) 1 0 ≡ count_by (is_row_of_child x) rows
  pub as_many : length less ≡ length rows

pub row_left_in_implicit : (rows : List (Option TaskRow)) (t m : ℕ) (row : TaskRow) → row_no rows t ≡ Some row → row.parent ≡ Implicit m → RowLeft t (Implicit m) rows (with_row rows t None)
row_left_in_implicit rows t m row at is = record {
  found = λ x r at_x. elim (row_replaced rows t x row r None at at_x) [
    | inl here ↦ absurd (let e : None ≡ Some r = here.1 in cc)
    | inr away ↦ (away.0, r, away.1, refl)
  ];
  none = λ x no_row. elim (row_replaced_by_none rows t x row None at no_row) [
    | inl here ↦ inl here.0
    | inr away ↦ inr away.1
  ];
  stays = λ x apart has. other_row_stays rows t x None apart has;
  count = λ x.
      let count = count_replaced (is_row_of_child x) rows t row None at in
      let own : same_task row.parent (Explicit x) ≡ false = rw is refl in
      let less : count_by (is_row_of_child x) (with_row rows t None) + 0 ≡ count_by (is_row_of_child x) rows + 0 = rw own at count in
      omega (arith, less);
  as_many = as_many_rows rows t None;
}

pub row_left_in_explicit : (rows : List (Option TaskRow)) (t p : ℕ) (row above : TaskRow) → row_no rows t ≡ Some row → row.parent ≡ Explicit p → p ≢ t → row_no rows p ≡ Some above → RowLeft t (Explicit p) rows (with_row (with_row rows t None) p (Some (without_child above)))
row_left_in_explicit rows t p row above at is apart at_p =
    let at_less : row_no (with_row rows t None) p ≡ Some above = untouched_row rows t p None apart ∙ at_p in record {
      found = λ x r at_x. elim (row_replaced (with_row rows t None) p x above r (Some (without_child above)) at_less at_x) [
        | inl here ↦
            let same : without_child above ≡ r = cc in
            let on : (p == x) ≡ true = rw here.0 (same_number p) in
            ((λ e. apart (sym here.0 ∙ e)), above, (rw here.0 at_p), (rw on (sym same)))
        | inr away ↦ elim (row_replaced rows t x row r None at away.1) [
          | inl here ↦ absurd (let e : None ≡ Some r = here.1 in cc)
          | inr further ↦
              let off : (p == x) ≡ false = other_number p x (λ e. away.0 (sym e)) in
              (further.0, r, further.1, rw off refl)
        ]
      ];
      none = λ x no_row. elim (row_replaced_by_none (with_row rows t None) p x above (Some (without_child above)) at_less no_row) [
        | inl here ↦ absurd (let e = here.1 in cc)
        | inr away ↦ elim (row_replaced_by_none rows t x row None at away.1) [
          | inl here ↦ inl here.0
          | inr further ↦ inr further.1
        ]
      ];
      stays = λ x away has. row_stays (with_row rows t None) p x above (without_child above) at_less (other_row_stays rows t x None away has);
      count = λ x.
          let first = count_replaced (is_row_of_child x) rows t row None at in
          let second = count_replaced (is_row_of_child x) (with_row rows t None) p above (Some (without_child above)) at_less in
          let own : count_by (is_row_of_child x) (with_row rows t None) + cond (p == x) 1 0 ≡ count_by (is_row_of_child x) rows + 0 = rw is at first in
          omega (arith, own, second);
      as_many = as_many_rows (with_row rows t None) p (Some (without_child above)) ∙ as_many_rows rows t None;
    }

-- a task with a row of a child has kept children
pub child_is_counted : (task : ℕ) (rows : List (Option TaskRow)) (stacks : List (List ℕ)) (roots : List Newest) (t p : ℕ) (row above : TaskRow) (h : List Event) → TablesStandBut task rows stacks roots h → row_no rows t ≡ Some row → row.parent ≡ Explicit p → row_no rows p ≡ Some above → 0 < above.kept_children
child_is_counted task rows stacks roots t p row above h st at is at_p =
    let on : is_row_of_child p (Some row) ≡ true = rw is (same_number p) in
    let some = passing_row_is_counted (is_row_of_child p) rows t row refl at on in
    let kept = st.children p above at_p in
    omega (arith, some, kept)

-- the rows that it leaves stand, but that of its parent may not be needed
pub row_taken_out : (t next : ℕ) (rows less : List (Option TaskRow)) (stacks : List (List ℕ)) (roots : List Newest) (row : TaskRow) (h : List Event) → TablesStandBut t rows stacks roots h → row_no rows t ≡ Some row → is_over row.state ≡ true → row.kept_children ≡ 0 → RowLeft t row.parent rows less → ((x : ℕ) → x ≢ next → same_task row.parent (Explicit x) ≡ false) → TablesStandBut next less stacks roots h
row_taken_out t next rows less stacks roots row h st at over childless left only = record {
  count = st.count ∙ sym left.as_many;
  kept_row = λ x found at_x.
      let was = left.found x found at_x in
      subst (λ (r : TaskRow). RowStands x r h) (sym was.3) (either (same_task row.parent (Explicit x)) x was.1 (st.kept_row x was.1 was.2));
  gone = λ x made no_row. elim (left.none x no_row) [
    | inl here ↦ subst (λ (n : ℕ). is_complete n h ≡ true) (sym here) ((st.kept_row t row at).state.complete ∙ over)
    | inr before ↦ st.gone x made before
  ];
  needed = λ x found at_x complete apart.
      let was = left.found x found at_x in
      let off = only x apart in
      let same : found ≡ was.1 = (rw off at was.3) in
      let kept = st.needed x was.1 was.2 (ap (λ (r : TaskRow). is_over r.state) (sym same) ∙ complete) was.0 in
      let e : found.kept_children ≡ was.1.kept_children = ap (λ (r : TaskRow). r.kept_children) same in
      omega (arith, kept, e);
  children = λ x found at_x.
      let was = left.found x found at_x in
      let count = left.count x in
      let old = st.children x was.1 was.2 in
      let e : found.kept_children ≡ was.1.kept_children - cond (same_task row.parent (Explicit x)) 1 0 = ap (λ (r : TaskRow). r.kept_children) was.3 ∙ counts (same_task row.parent (Explicit x)) was.1 in
      omega (arith, count, old, e);
  parent = λ x p found at_x is.
      let was = left.found x found at_x in
      let up : was.1.parent ≡ Explicit p = parents (same_task row.parent (Explicit x)) was.1 ∙ ap (λ (r : TaskRow). r.parent) (sym was.3) ∙ is in
      left.stays p (λ same. absurd (
      let here : was.1.parent ≡ Explicit t = up ∙ ap Explicit same in
      let some = child_is_counted t rows stacks roots x t was.1 row h st was.2 here at in
      omega (arith, some, childless))) (st.parent x p was.1 was.2 up);
  stack = st.stack;
  root = st.root;
  members = st.members;
  rule = st.rule;
}
  where
    either : (b : Bool) (x : ℕ) (old : TaskRow) → RowStands x old h → RowStands x (if b then without_child old else old) h
    either true x old is = row_with_children x (old.kept_children - 1) old h is
    either false x old is = is

    counts : (b : Bool) (old : TaskRow) → (if b then without_child old else old).kept_children ≡ old.kept_children - cond b 1 0
    counts true old = refl
    counts false old = omega arith

    parents : (b : Bool) (old : TaskRow) → old.parent ≡ (if b then without_child old else old).parent
    parents true old = refl
    parents false old = refl

-- what is known of the parent's row
pub record ParentRow (t p : ℕ) (rows : List (Option TaskRow)) : Type 0 where
  pub above : TaskRow
  pub at : row_no rows p ≡ Some above
  pub older : p < t
  pub stays : row_no (with_row rows t None) p ≡ Some above
  pub some : 0 < above.kept_children

pub parent_row : (t p : ℕ) (rows : List (Option TaskRow)) (stacks : List (List ℕ)) (roots : List Newest) (row : TaskRow) (h : List Event) → TablesStandBut t rows stacks roots h → row_no rows t ≡ Some row → row.parent ≡ Explicit p → ParentRow t p rows
parent_row t p rows stacks roots row h st at is =
    let found = row_under rows p (st.parent t p row at is) in
    let less = ((st.kept_row t row at).parent.older p is).1 in record {
      above = found.0;
      at = found.1;
      older = less;
      stays = untouched_row rows t p None (λ same. omega (arith, same, less)) ∙ found.1;
      some = child_is_counted t rows stacks roots t p row found.0 h st at is found.1;
    }

pub row_and_child_taken_out : (t p : ℕ) (rows : List (Option TaskRow)) (stacks : List (List ℕ)) (roots : List Newest) (row : TaskRow) (h : List Event) → TablesStandBut t rows stacks roots h → row_no rows t ≡ Some row → is_over row.state ≡ true → row.kept_children ≡ 0 → row.parent ≡ Explicit p → (up : ParentRow t p rows) →
    TablesStandBut p (with_row (with_row rows t None) p (Some (without_child up.above))) stacks roots h
row_and_child_taken_out t p rows stacks roots row h st at over childless is up =
    let less = up.older in
    row_taken_out t p rows (with_row (with_row rows t None) p (Some (without_child up.above))) stacks roots row h st at over childless
    (rw is (row_left_in_explicit rows t p row up.above at is (λ same. omega (arith, same, less)) up.at))
    (λ x apart. rw is (other_number p x (λ same. apart (sym same))))

-- and if that is an implicit task, all are needed
-- as long as the parent's row counts the child that is gone
pub parent_stands_below : (t p : ℕ) (rows : List (Option TaskRow)) (stacks : List (List ℕ)) (roots : List Newest) (row : TaskRow) (h : List Event) → TablesStandBut t rows stacks roots h → row_no rows t ≡ Some row → is_over row.state ≡ true → row.kept_children ≡ 0 → row.parent ≡ Explicit p →
    StandBelow p (with_row rows t None) stacks roots h
parent_stands_below t p rows stacks roots row h st at over childless is = λ above at_p.
    let up = parent_row t p rows stacks roots row h st at is in
    let both : Some up.above ≡ Some above = sym up.stays ∙ at_p in
    let same : up.above ≡ above = cc in
    subst (λ (r : TaskRow). TablesStandBut p (with_row (with_row rows t None) p (Some (without_child r))) stacks roots h) same (row_and_child_taken_out t p rows stacks roots row h st at over childless is up)

pub last_row_taken_out : (t m : ℕ) (rows : List (Option TaskRow)) (stacks : List (List ℕ)) (roots : List Newest) (row : TaskRow) (h : List Event) → TablesStandBut t rows stacks roots h → row_no rows t ≡ Some row → is_over row.state ≡ true → row.kept_children ≡ 0 → row.parent ≡ Implicit m → TablesStand (with_row rows t None) stacks roots h
last_row_taken_out t m rows stacks roots row h st at over childless is =
    all_needed 0 (with_row rows t None) stacks roots h
    (row_taken_out t 0 rows (with_row rows t None) stacks roots row h st at over childless (rw is (row_left_in_implicit rows t m row at is)) (λ x apart. rw is refl))
    (λ found at_0 complete. absurd (let none : None ≡ Some found = at_0 in cc))

-- A task that is created

-- the rows with one more, and with that child in its parent's
pub record RowMore (t : ℕ) (p : Task) (new : TaskRow) (newest : Newest) (rows more : List (Option TaskRow)) : Type 0 where
  pub found : (x : ℕ) (row : TaskRow) → row_no more x ≡ Some row → ((x ≡ t) × (row ≡ new)) ⊎ ((x ≢ t) × (old : TaskRow) × (row_no rows x ≡ Some old) × (row ≡ (if same_task p (Explicit x) then with_child newest old else old)))
  pub none : (x : ℕ) → row_no more x ≡ None → (x ≢ t) × (row_no rows x ≡ None)
  pub stays : (x : ℕ) → HasRow rows x → HasRow more x
  pub count : (x : ℕ) → count_by (is_row_of_child x) more ≡ count_by (is_row_of_child x) rows + cond (same_task p (Explicit x)) 1 0
  pub as_many : length more ≡ suc (length rows)

put_stays : (rows : List (Option TaskRow)) (x : ℕ) (new : TaskRow) → HasRow rows x → HasRow (rows ++ Some new ∷ []) x
put_stays rows x new has =
    let row = row_under rows x has in
    let high = (row_given rows x row.0 row.1).1 in
    row_is_there (rows ++ Some new ∷ []) x row.0 (row_put_before rows new x (λ same. omega (arith, same, high)) ∙ row.1)

no_row_before_put : (rows : List (Option TaskRow)) (x : ℕ) (new : TaskRow) → row_no (rows ++ Some new ∷ []) x ≡ None → (x ≢ suc (length rows)) × (row_no rows x ≡ None)
no_row_before_put rows x new no_row = elim (cases_Bool (x == suc (length rows))) [
  | inl here ↦
      let same = is_equal x (suc (length rows)) here in
      absurd (let e : Some new ≡ None = sym (row_put_last rows new) ∙ (rw same at no_row) in cc)
  | inr other ↦ let apart = unequal_numbers x (suc (length rows)) other in (apart, sym (row_put_before rows new x apart) ∙ no_row)
]

pub row_more_in_implicit : (rows : List (Option TaskRow)) (m : ℕ) (new : TaskRow) (newest : Newest) → new.parent ≡ Implicit m → RowMore (suc (length rows)) (Implicit m) new newest rows (rows ++ Some new ∷ [])
row_more_in_implicit rows m new newest is = record {
  found = λ x row at. elim (row_put rows new row x at) [
    | inl here ↦ inl (here.0, sym here.1)
    | inr away ↦ inr (away.0, row, away.1, refl)
  ];
  none = λ x no_row. no_row_before_put rows x new no_row;
  stays = λ x has. put_stays rows x new has;
  count = λ x.
      let count = count_put (is_row_of_child x) rows new in
      let own : same_task new.parent (Explicit x) ≡ false = rw is refl in
      let same : count_by (is_row_of_child x) (rows ++ Some new ∷ []) ≡ count_by (is_row_of_child x) rows + 0 = rw own at count in
      same;
  as_many = one_row_more rows new;
}

pub row_more_in_explicit : (rows : List (Option TaskRow)) (p : ℕ) (new above : TaskRow) (newest : Newest) → new.parent ≡ Explicit p → row_no rows p ≡ Some above → RowMore (suc (length rows)) (Explicit p) new newest rows (with_row (rows ++ Some new ∷ []) p (Some (with_child newest above)))
row_more_in_explicit rows p new above newest is at_p =
    let high = (row_given rows p above at_p).1 in
    let apart : p ≢ suc (length rows) = (λ same. omega (arith, same, high)) in
    let at_more : row_no (rows ++ Some new ∷ []) p ≡ Some above = row_put_before rows new p apart ∙ at_p in record {
      found = λ x row at. elim (row_replaced (rows ++ Some new ∷ []) p x above row (Some (with_child newest above)) at_more at) [
        | inl here ↦
            let same : with_child newest above ≡ row = cc in
            let on : (p == x) ≡ true = rw here.0 (same_number p) in
            inr ((λ e. apart (sym here.0 ∙ e)), above, (rw here.0 at_p), (rw on (sym same)))
        | inr away ↦ elim (row_put rows new row x away.1) [
          | inl here ↦ inl (here.0, sym here.1)
          | inr further ↦
              let off : (p == x) ≡ false = other_number p x (λ e. away.0 (sym e)) in
              inr (further.0, row, further.1, rw off refl)
        ]
      ];
      none = λ x no_row. elim (row_replaced_by_none (rows ++ Some new ∷ []) p x above (Some (with_child newest above)) at_more no_row) [
        | inl here ↦ absurd (let e = here.1 in cc)
        | inr away ↦ no_row_before_put rows x new away.1
      ];
      stays = λ x has. row_stays (rows ++ Some new ∷ []) p x above (with_child newest above) at_more (put_stays rows x new has);
      count = λ x.
          let first = count_put (is_row_of_child x) rows new in
          let second = count_replaced (is_row_of_child x) (rows ++ Some new ∷ []) p above (Some (with_child newest above)) at_more in
          let up : same_task new.parent (Explicit x) ≡ (p == x) = rw is refl in
          let own : count_by (is_row_of_child x) (rows ++ Some new ∷ []) ≡ count_by (is_row_of_child x) rows + cond (p == x) 1 0 = rw up at first in
          omega (arith, own, second);
      as_many = as_many_rows (rows ++ Some new ∷ []) p (Some (with_child newest above)) ∙ one_row_more rows new;
    }

-- no row is of a child of the next task
next_has_no_child : (rows : List (Option TaskRow)) (stacks : List (List ℕ)) (roots : List Newest) (t : ℕ) (h : List Event) → TablesStand rows stacks roots h → length rows < t → count_by (is_row_of_child t) rows ≡ 0
next_has_no_child rows stacks roots t h st past = no_row_is_counted (is_row_of_child t) rows refl (λ x row at.
    let high = (row_given rows x row at).1 in
    by row.parent (λ q up. let older = ((st.kept_row x row at).parent.older q up).1 in omega (arith, older, high, past)))
  where
    by : (p : Task) → ((q : ℕ) → p ≡ Explicit q → q < t) → same_task p (Explicit t) ≡ false
    by (Implicit m) older = refl
    by (Explicit q) older = let less = older q refl in other_number q t (λ same. omega (arith, same, less))

-- the rows with it stand, with the tasks that then were created last in the implicit ones
task_created : (rows more : List (Option TaskRow)) (stacks : List (List ℕ)) (roots later : List Newest) (m t root depth : ℕ) (odd in_final : Bool) (p : Task) (desc : TaskDesc) (h : List Event) → TablesStand rows stacks roots h → MayCreate (length stacks) t m p h → ((k : ℕ) → (same_task p (Implicit k) || of_explicit (λ q. is_ancestor (Implicit k) q h) p) ≡ (root == k)) → depth ≡ depth_of p h + 1 → odd ≡ is_odd (epoch_of_child p h) → in_final ≡ of_explicit (λ q. is_final q h) p →
    RowMore t p (unstarted_row desc p root depth odd in_final) (record { task = t; undeferred = desc.undeferred || in_final }) rows more → length later ≡ length stacks → ((k : ℕ) (newest : Newest) → slice_get later k ≡ Some newest → NewestIs (Implicit k) newest (Create t m p desc ∷ h)) → TablesStand more stacks later (Create t m p desc ∷ h)
task_created rows more stacks roots later m t root depth odd in_final p desc h st rule top deep odd_is final_is grown as_many rooted =
    let number = rule.number in
    let count = st.count in
    let past : tasks_created h < t = omega (arith, number) in
    let new = uncreated_not_started (length stacks) h st.rule t past in
    let up : (q : ℕ) → p ≡ Explicit q → HasRow rows q = (λ q e. executed_has_row rows stacks roots m q h st (sym rule.current ∙ e)) in
    let older : (q : ℕ) → p ≡ Explicit q → (0 < q) × (q < t) = (λ q e.
    let row = row_under rows q (up q e) in
    let given = row_given rows q row.0 row.1 in
    let high = given.1 in (given.0, omega (arith, high, past, count))) in record {
      count = (let more_rows = grown.as_many in omega (arith, count, more_rows));
      kept_row = λ x found at. elim (grown.found x found at) [
        | inl here ↦
            let stands : RowStands t (unstarted_row desc p root depth odd in_final) (Create t m p desc ∷ h) = new_row t m p desc root depth odd in_final h (record { started = new.0; complete = new.1; runner = nobody_runs t h new.0 }) (newest_in_another (length stacks) t m p (Explicit t) desc no_newest h st.rule past (not_itself p t older) (no_newest_in_no_task (length stacks) t h st.rule past)) older top deep odd_is final_is in
            subst (λ (n : ℕ). RowStands n found (Create t m p desc ∷ h)) (sym here.0) (subst (λ (r : TaskRow). RowStands t r (Create t m p desc ∷ h)) (sym here.1) stands)
        | inr away ↦
            let high = (row_given rows x away.1 away.2).1 in
            let other : (t == x) ≡ false = other_number t x (λ same. omega (arith, same, high, past, count)) in
            let before : (q : ℕ) → q < x → (t == q) ≡ false = (λ q less. other_number t q (λ same. omega (arith, same, less, high, past, count))) in
            let was = st.kept_row x away.1 away.2 in
            subst (λ (r : TaskRow). RowStands x r (Create t m p desc ∷ h)) (sym away.3) (elim (cases_Bool (same_task p (Explicit x))) [
              | inl on ↦
                  let is = same_as_explicit p x on in
                  rw on (row_with_children x (away.1.kept_children + 1) (record away.1 { newest = t; newest_undeferred = desc.undeferred || in_final }) (Create t m p desc ∷ h) (old_row t m x p desc away.1 (record { task = t; undeferred = desc.undeferred || in_final }) h other before (subst (λ (q : Task). NewestIs q (record { task = t; undeferred = desc.undeferred || in_final }) (Create t m p desc ∷ h)) is (newest_in_its_parent t m p desc in_final h final_is)) was))
              | inr off ↦ rw off (old_row t m x p desc away.1 (newest_kept away.1) h other before (newest_in_another (length stacks) t m p (Explicit x) desc (newest_kept away.1) h st.rule past off was.newest) was)
            ])
      ];
      gone = λ x made no_row.
          let was = grown.none x no_row in
          st.gone x (created_but_new x t m p desc h number was.0 made) was.1;
      needed = λ x found at over. elim (grown.found x found at) [
        | inl here ↦ absurd (let open' : false ≡ true = ap (λ (r : TaskRow). is_over r.state) (sym here.1) ∙ over in cc)
        | inr away ↦ kept_more _ (same_task p (Explicit x)) away.1 found away.3 over (λ was_over. st.needed x away.1 away.2 was_over)
      ];
      children = λ x found at.
          let counted = grown.count x in
          elim (grown.found x found at) [
            | inl here ↦
                let none = next_has_no_child rows stacks roots t h st (omega (arith, past, count)) in
                let none_of : count_by (is_row_of_child x) rows ≡ 0 = rw here.0 none in
                let off : same_task p (Explicit x) ≡ false = rw here.0 (not_itself p t older) in
                let same : count_by (is_row_of_child x) more ≡ count_by (is_row_of_child x) rows + 0 = rw off at counted in
                let e : found.kept_children ≡ 0 = ap (λ (r : TaskRow). r.kept_children) here.1 in
                omega (arith, none_of, same, e)
            | inr away ↦
                let old = st.children x away.1 away.2 in
                let e : found.kept_children ≡ away.1.kept_children + cond (same_task p (Explicit x)) 1 0 = ap (λ (r : TaskRow). r.kept_children) away.3 ∙ counts _ (same_task p (Explicit x)) away.1 in
                omega (arith, counted, old, e)
          ];
      parent = λ x q found at is. elim (grown.found x found at) [
        | inl here ↦ grown.stays q (up q (ap (λ (r : TaskRow). r.parent) (sym here.1) ∙ is))
        | inr away ↦ grown.stays q (st.parent x q away.1 away.2 (parents (record { task = t; undeferred = desc.undeferred || in_final }) (same_task p (Explicit x)) away.1 ∙ ap (λ (r : TaskRow). r.parent) (sym away.3) ∙ is))
      ];
      stack = st.stack;
      root = rooted;
      members = as_many;
      rule = (rule, st.rule);
    }
  where
    same_as_explicit : (p : Task) (x : ℕ) → same_task p (Explicit x) ≡ true → p ≡ Explicit x
    same_as_explicit (Implicit k) x on = absurd (cc)
    same_as_explicit (Explicit q) x on = ap Explicit (is_equal q x on)

    not_itself : (p : Task) (t : ℕ) → ((q : ℕ) → p ≡ Explicit q → (0 < q) × (q < t)) → same_task p (Explicit t) ≡ false
    not_itself (Implicit k) t older = refl
    not_itself (Explicit q) t older = let less = (older q refl).1 in other_number q t (λ same. omega (arith, same, less))

    created_but_new : (x t m : ℕ) (p : Task) (desc : TaskDesc) (h : List Event) → t ≡ suc (tasks_created h) → x ≢ t → is_created x (Create t m p desc ∷ h) ≡ true → is_created x h ≡ true
    created_but_new x t m p desc h number apart made =
        let low = created_low x (Create t m p desc ∷ h) made in
        let high : x ≤ suc (tasks_created h) = created_high x (Create t m p desc ∷ h) made in
        let some : nat_lt 0 x ≡ true = grind (arith, nat_tests, low) in
        let before : x ≤ tasks_created h = omega (arith, high, number, apart) in
        let few : nat_le x (tasks_created h) ≡ true = grind (arith, nat_tests, before) in
        rw (some, few) refl

    kept_more : (newest : Newest) (b : Bool) (old found : TaskRow) → found ≡ (if b then with_child newest old else old) → is_over found.state ≡ true → (is_over old.state ≡ true → 0 < old.kept_children) → 0 < found.kept_children
    kept_more newest true old found e over was = let more_kept : found.kept_children ≡ old.kept_children + 1 = ap (λ (r : TaskRow). r.kept_children) e in omega (arith, more_kept)
    kept_more newest false old found e over was =
        let same : found.kept_children ≡ old.kept_children = ap (λ (r : TaskRow). r.kept_children) e in
        let kept = was (ap (λ (r : TaskRow). is_over r.state) (sym e) ∙ over) in
        omega (arith, same, kept)

    counts : (newest : Newest) (b : Bool) (old : TaskRow) → (if b then with_child newest old else old).kept_children ≡ old.kept_children + cond b 1 0
    counts newest true old = refl
    counts newest false old = omega arith

    parents : (newest : Newest) (b : Bool) (old : TaskRow) → old.parent ≡ (if b then with_child newest old else old).parent
    parents newest true old = refl
    parents newest false old = refl

pub create_in_implicit_keeps : (rows : List (Option TaskRow)) (stacks : List (List ℕ)) (roots : List Newest) (m t k depth : ℕ) (odd in_final : Bool) (desc : TaskDesc) (h : List Event) → TablesStand rows stacks roots h → t ≡ suc (length rows) → MayCreate (length stacks) t m (Implicit k) h → depth ≡ depth_of (Implicit k) h + 1 → odd ≡ is_odd (epoch_of_child (Implicit k) h) → in_final ≡ of_explicit (λ q. is_final q h) (Implicit k) →
    TablesStand (rows ++ Some (unstarted_row desc (Implicit k) k depth odd in_final) ∷ []) stacks (slice_set roots k (record { task = t; undeferred = desc.undeferred || in_final })) (Create t m (Implicit k) desc ∷ h)
create_in_implicit_keeps rows stacks roots m t k depth odd in_final desc h st next rule deep odd_is final_is =
    let newest : Newest = record { task = t; undeferred = desc.undeferred || in_final } in
    let new = unstarted_row desc (Implicit k) k depth odd in_final in
    let past : tasks_created h < t = (let number = rule.number in omega (arith, number)) in
    task_created rows (rows ++ Some new ∷ []) stacks roots (slice_set roots k newest) m t k depth odd in_final (Implicit k) desc h st rule (λ j. or-false (k == j)) deep odd_is final_is
    (subst (λ (n : ℕ). RowMore n (Implicit k) new newest rows (rows ++ Some new ∷ [])) (sym next) (row_more_in_implicit rows k new newest refl))
    (length-set roots k newest ∙ st.members)
    (λ j found at. elim (slice_get-set roots k j newest found at) [
      | inl here ↦ subst (λ (n : ℕ). NewestIs (Implicit n) found (Create t m (Implicit k) desc ∷ h)) (sym here.0) (subst (λ (w : Newest). NewestIs (Implicit k) w (Create t m (Implicit k) desc ∷ h)) (sym here.1) (newest_in_its_parent t m (Implicit k) desc in_final h final_is))
      | inr away ↦ newest_in_another (length stacks) t m (Implicit k) (Implicit j) desc found h st.rule past (other_number k j (λ same. away.0 (sym same))) (st.root j found away.1)
    ])

pub create_in_explicit_keeps : (rows : List (Option TaskRow)) (stacks : List (List ℕ)) (roots : List Newest) (m t p depth : ℕ) (odd in_final : Bool) (above : TaskRow) (desc : TaskDesc) (h : List Event) → TablesStand rows stacks roots h → t ≡ suc (length rows) → MayCreate (length stacks) t m (Explicit p) h → depth ≡ depth_of (Explicit p) h + 1 → odd ≡ is_odd (epoch_of_child (Explicit p) h) → in_final ≡ of_explicit (λ q. is_final q h) (Explicit p) → row_no rows p ≡ Some above →
    TablesStand (with_row (rows ++ Some (unstarted_row desc (Explicit p) above.root depth odd in_final) ∷ []) p (Some (with_child (record { task = t; undeferred = desc.undeferred || in_final }) above))) stacks roots (Create t m (Explicit p) desc ∷ h)
create_in_explicit_keeps rows stacks roots m t p depth odd in_final above desc h st next rule deep odd_is final_is at_p =
    let newest : Newest = record { task = t; undeferred = desc.undeferred || in_final } in
    let new = unstarted_row desc (Explicit p) above.root depth odd in_final in
    let past : tasks_created h < t = (let number = rule.number in omega (arith, number)) in
    task_created rows (with_row (rows ++ Some new ∷ []) p (Some (with_child newest above))) stacks roots roots m t above.root depth odd in_final (Explicit p) desc h st rule (st.kept_row p above at_p).root deep odd_is final_is
    (subst (λ (n : ℕ). RowMore n (Explicit p) new newest rows (with_row (rows ++ Some new ∷ []) p (Some (with_child newest above)))) (sym next) (row_more_in_explicit rows p new above newest refl at_p))
    st.members
    (λ j found at. newest_in_another (length stacks) t m (Explicit p) (Implicit j) desc found h st.rule past refl (st.root j found at))

-- New tasks

pub no_tables_stand : (members : ℕ) (rows : List (Option TaskRow)) (stacks : List (List ℕ)) (roots : List Newest) → rows ≡ [] → stacks ≡ replicate members [] → roots ≡ replicate members no_newest → TablesStand rows stacks roots []
no_tables_stand members rows stacks roots no_rows empty none =
    rw (no_rows, empty, none) (record {
      count = refl;
      kept_row = λ t row at. absurd (let no_row = no_row_at t row at in no_row);
      gone = λ t made no_row. absurd (let low = created_low t [] made in let high : t ≤ 0 = created_high t [] made in omega (arith, low, high));
      needed = λ t row at over. absurd (no_row_at t row at);
      children = λ t row at. absurd (no_row_at t row at);
      parent = λ t p row at is. absurd (no_row_at t row at);
      stack = λ m ts at. sym (in_replicate members m [] ts at);
      root = λ m newest at. subst (λ (w : Newest). NewestIs (Implicit m) w []) (sym (in_replicate members m no_newest newest at)) (record { task = refl; undeferred = refl });
      members = length-replicate members no_newest ∙ sym (length-replicate {A = List ℕ} members []);
      rule = tt;
    })
  where
    no_row_at : (t : ℕ) (row : TaskRow) → row_no [] t ≡ Some row → ⊥
    no_row_at zero row at = cc
    no_row_at (suc k) row at = cc

    in_replicate : {A : Type 0} (n m : ℕ) (x y : A) → slice_get (replicate n x) m ≡ Some y → y ≡ x
    in_replicate zero m x y at = absurd (cc)
    in_replicate (suc n) zero x y at = let e : x ≡ y = cc in sym e
    in_replicate (suc n) (suc m) x y at = in_replicate n m x y at

-- What is read

-- the newest task of another is none, or was created
pub newest_number : (rows : List (Option TaskRow)) (stacks : List (List ℕ)) (roots : List Newest) (p : Task) (t : ℕ) (h : List Event) → TablesStand rows stacks roots h → newest_child p h ≡ t → (t ≡ 0) ⊎ ((0 < t) × (t ≤ length rows))
newest_number rows stacks roots p zero h st e = inl refl
newest_number rows stacks roots p (suc k) h st e = let high = newest_is_created (length stacks) p h st.rule in let count = st.count in inr (omega arith, omega (arith, e, high, count))

-- no more children are kept than there are tasks
pub few_kept_children : (rows : List (Option TaskRow)) (stacks : List (List ℕ)) (roots : List Newest) (t : ℕ) (row : TaskRow) (h : List Event) → TablesStand rows stacks roots h → row_no rows t ≡ Some row → row.kept_children ≤ length rows
few_kept_children rows stacks roots t row h st at =
    let counted = st.children t row at in
    let few = count_by-le-length (is_row_of_child t) rows in
    omega (arith, counted, few)
