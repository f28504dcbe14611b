-- The tables stand for the events after each call.
use Rattle.std.proofs.Common.{◌≡◌, ℕ, ◌≤◌, ◌+◌, Bool, true, false, List, [], ◌∷◌, Option, Some, None, refl, ap, ◌∙◌, sym, subst, arith, suc, inl, inr}
use Rattle.std.specs.Prelude.{◌==◌, ◌&&◌, ◌||◌, ◌≢◌, not, is_some, length, nat_lt, if◌then◌else◌}
use Rattle.std.specs.List.{list_all}
use Rattle.std.proofs.lemmas.Bool.{cases_Bool}
use Rattle.std.proofs.lemmas.Bool.Decides.{eqb_tells}
use Rattle.gomp_types.specs.declared.task.Task.{Task}
use Rattle.gomp_types.specs.declared.task.Task.TheVariants.{Implicit}
use Rattle.gomp_types.specs.declared.task.TaskDesc.{TaskDesc}
use Rattle.gomp_types.specs.declared.depend.Dep.{Dep}
use Rattle.gomp_events.specs.declared.event.Event.{Event}
use Rattle.gomp_events.specs.declared.event.Event.TheVariants.{Create, Done, Discard}
use Rattle.gomp_events.specs.Laws.{Always}
use Rattle.gomp_events.specs.Tasks.{same_task, tasks_created, is_created, is_complete, all_complete}
use Rattle.gomp_events.specs.Depends.{task_items, child_waits, is_free}
use Rattle.gomp_types.proofs.Booleans.{same_number, other_number, and_false, not_both}
use Rattle.gomp_events.proofs.GroupsKeep.{same_is_one}
use Rattle.gomp_lines.specs.declared.classes.Class.{Class}
use Rattle.gomp_lines.specs.Classes.{class_at}
use Rattle.gomp_lines.specs.Order.{InOrder, IsOpen, task_parent}
use Rattle.gomp_lines.specs.Lines.{Entry, joined, without, line_of, may_join}
use Rattle.gomp_lines.specs.Queues.{LineView, StandsFor}
use Rattle.gomp_lines.proofs.LineTasks.{uncreated_is_no_child, next_is_uncreated}
use Rattle.gomp_lines.proofs.FreeTasks.{free_by_lines, child_free_by_lines}
use Rattle.gomp_lines.proofs.QueueTasks.{free_is_not_held, ready_by_line}
use Rattle.gomp_depend.specs.declared.depends.Depends.{Depends}
use Rattle.gomp_depend.specs.declared.rows.Row.{Row}
use Rattle.gomp_depend.specs.declared.rows.RowTable.{RowTable}
use Rattle.gomp_depend.specs.declared.table.LineTable.{LineTable}
use Rattle.gomp_depend.specs.Tables.{entry_at, has_entry, line_at, depend_row, is_row_freed, LowersRows}
use Rattle.gomp_depend.specs.Books.{names, addresses_where, holds, row_by, Agree, Books, left_by, LeavesLines, NoneIsEmpty}
use Rattle.gomp_depend.specs.Rows.{has_items, names_items, no_row, is_free_row, is_waiting_row}
use Rattle.gomp_depend.specs.Stands.{open_items, open_parent, Stands, ready_at, is_free_with_items, is_freed, NoneIsFreed, NothingIsKept}
use Rattle.gomp_depend.proofs.Addresses.{none_where, where_same, class_at_named, named_has_items, some_are_named}
use Rattle.gomp_depend.proofs.Tables.{same_held}
use Rattle.gomp_depend.proofs.Freeing.{agree_same, row_with}
use Rattle.gomp_depend.proofs.Leaving.{books_same, left_nothing, stands_still, stands_up}
use Rattle.gomp_depend.proofs.TaskFacts.{uncreated_has_no_items, done_task_leaves, done_lines}

-- Answers

all_same : {X : Type 0} (one other : X → Bool) → ((x : X) → one x ≡ other x) → (xs : List X) → list_all one xs ≡ list_all other xs
all_same one other same [] = refl
all_same one other same (x ∷ xs) = rw (same x, all_same one other same xs) refl

own_parent : (h : List Event) (t : ℕ) (lines : LineTable) → (items : List Dep) → open_items h t ≡ items → addresses_where (holds lines t (open_parent h t)) items ≡ addresses_where (holds lines t (task_parent t h)) items
own_parent h t lines [] is = refl
own_parent h t lines (item ∷ items) is =
    let parent : open_parent h t ≡ task_parent t h = rw is refl in
    ap (λ (p : Task). addresses_where (holds lines t p) (item ∷ items)) parent

-- a task is free exactly if its row says that it waits at no address
pub free_by_row : (d : Depends) (h : List Event) (t : ℕ) → Stands d h → IsOpen t h → ((depend_row t d.rows).held_count == 0) ≡ is_free t h
free_by_row d h t st is =
    let items : open_items h t ≡ task_items t h = rw is.incomplete refl in
    ap (λ (row : Row). row.held_count == 0) (st.books.agree t)
    ∙ ap (λ (n : ℕ). n == 0) (own_parent h t d.lines (open_items h t) refl)
    ∙ none_where (holds d.lines t (task_parent t h)) (open_items h t)
    ∙ ap (λ (x : List Dep). list_all (λ (item : Dep). not (holds d.lines t (task_parent t h) item.addr)) x) items
    ∙ sym (all_same _ _ (λ (item : Dep). free_is_not_held t (line_at (task_parent t h) item.addr d.lines) _ (line_of (task_parent t h) item.addr h) (st.books.stand (task_parent t h) item.addr)) (task_items t h))
    ∙ sym (free_by_lines t h st.order is)

ready_may_join : (class : Option Class) (queue : LineView) (n : ℕ) (line : List Entry) → StandsFor queue n line → ready_at class queue ≡ may_join class line
ready_may_join None queue n line st = refl
ready_may_join (Some class) queue n line st = ready_by_line class queue n line st

pub child_by_tables : (d : Depends) (h : List Event) (p : Task) (items : List Dep) → Stands d h → list_all (λ (item : Dep). ready_at (class_at item.addr items) (line_at p item.addr d.lines)) items ≡ all_complete (λ t. child_waits p items t h) h
child_by_tables d h p items st =
    all_same _ (λ (item : Dep). may_join (class_at item.addr items) (line_of p item.addr h)) (λ (item : Dep). ready_may_join (class_at item.addr items) (line_at p item.addr d.lines) _ (line_of p item.addr h) (st.books.stand p item.addr)) items
    ∙ sym (child_free_by_lines p items h st.order)

-- Room

-- other room changes nothing of what the tables say
pub stands_reserved : (d e : Depends) (h : List Event) → ((p : Task) (a n : ℕ) (line : List Entry) → StandsFor (line_at p a d.lines) n line → StandsFor (line_at p a e.lines) n line) → ((t : ℕ) → depend_row t e.rows ≡ depend_row t d.rows) → Stands d h → Stands e h
stands_reserved d e h lines rows st = record {
  order = st.order;
  books = record {
    stand = λ p a. lines p a _ (line_of p a h) (st.books.stand p a);
    agree = λ t. rows t ∙ agree_same (open_parent h) (open_items h) d.lines e.lines d.rows st.books.agree
        (λ u a named. same_held _ _ _ _ (line_of (open_parent h u) a h) (lines (open_parent h u) a _ (line_of (open_parent h u) a h) (st.books.stand (open_parent h u) a)) (st.books.stand (open_parent h u) a) u) t;
  };
}

-- A task is complete

pub agree_done : (task m : ℕ) (h : List Event) (lines : LineTable) (rows after : RowTable) → Agree (open_parent h) (open_items h) lines rows → depend_row task after ≡ no_row → ((t : ℕ) → t ≢ task → depend_row t after ≡ depend_row t rows) → Agree (open_parent (Done task m ∷ h)) (open_items (Done task m ∷ h)) lines after
agree_done task m h lines rows after agree gone others t = elim (eqb_tells task t) [
  | inl here ↦ subst (λ (u : ℕ). depend_row u after ≡ row_with (open_parent (Done task m ∷ h) u) (open_items (Done task m ∷ h) u) (addresses_where (holds lines u (open_parent (Done task m ∷ h) u)) (open_items (Done task m ∷ h) u))) here.1 (gone ∙ rw (same_number task) refl)
  | inr away ↦ others t (λ e. away.1 (sym e)) ∙ agree t ∙ rw away.0 refl
]

-- what the row of the task says, and what its clause has
pub row_tells : (task : ℕ) (h : List Event) (lines : LineTable) (rows : RowTable) (row : Row) → Agree (open_parent h) (open_items h) lines rows → row ≡ depend_row task rows → row.parent ≡ open_parent h task
row_tells task h lines rows row agree is = ap (λ (r : Row). r.parent) (is ∙ agree task)

pub items_while_open : (task : ℕ) (h : List Event) → IsOpen task h → open_items h task ≡ task_items task h
items_while_open task h is = rw is.incomplete refl

-- a task without items has no row, and one with items has one
pub no_items_no_row : (task : ℕ) (h : List Event) (d : Depends) → Stands d h → open_items h task ≡ [] → depend_row task d.rows ≡ no_row
no_items_no_row task h d st none = st.books.agree task ∙ ap (λ (x : List Dep). row_by d.lines task (if has_items x then task_parent task h else Implicit 0) x) none

pub items_have_row : (task : ℕ) (h : List Event) (d : Depends) (items : List Dep) → Stands d h → IsOpen task h → items ≡ task_items task h → has_items items ≡ true → no_row ≡ depend_row task d.rows → ⊥
items_have_row task h d items st is its some none =
    let row : names_items (depend_row task d.rows) ≡ true = ap names_items (st.books.agree task) ∙ some_are_named (open_items h task) ∙ ap has_items (items_while_open task h is ∙ sym its) ∙ some in
    let no : names_items (depend_row task d.rows) ≡ false = ap names_items (sym none) in
    not_both (names_items (depend_row task d.rows)) row no

pub done_row_leaves : (task m : ℕ) (h : List Event) (parent : Task) (items : List Dep) → Always InOrder h → IsOpen task h → parent ≡ open_parent h task → items ≡ open_items h task → LeavesLines task parent items (open_parent (Done task m ∷ h)) (open_items (Done task m ∷ h)) (λ p a. line_of p a h)
done_row_leaves task m h parent items all is own its =
    subst (λ (p : Task). LeavesLines task p items (open_parent (Done task m ∷ h)) (open_items (Done task m ∷ h)) (λ q a. line_of q a h)) (sym own)
    (subst (λ (x : List Dep). LeavesLines task (open_parent h task) x (open_parent (Done task m ∷ h)) (open_items (Done task m ∷ h)) (λ q a. line_of q a h)) (sym its) (done_task_leaves task m h all is))

done_row_lines : (task : ℕ) (h : List Event) (parent : Task) (items : List Dep) → Always InOrder h → parent ≡ open_parent h task → items ≡ open_items h task → (p : Task) (a : ℕ) → left_by task parent items (λ q b. line_of q b h) p a ≡ without task (line_of p a h)
done_row_lines task h parent items all own its p a =
    ap (λ (q : Task). left_by task q items (λ r b. line_of r b h) p a) own ∙ ap (λ (x : List Dep). left_by task (open_parent h task) x (λ r b. line_of r b h) p a) its ∙ done_lines task h all p a

pub stands_done : (task m : ℕ) (h : List Event) (d : Depends) (parent : Task) (items : List Dep) → Always InOrder h → IsOpen task h → parent ≡ open_parent h task → items ≡ open_items h task →
    Books (suc (tasks_created h)) (open_parent (Done task m ∷ h)) (open_items (Done task m ∷ h)) (left_by task parent items (λ p a. line_of p a h)) d.lines d.rows → Stands d (Done task m ∷ h)
stands_done task m h d parent items all is own its books = record {
  order = (is, all);
  books = books_same (suc (tasks_created h)) (open_parent (Done task m ∷ h)) (open_items (Done task m ∷ h)) (left_by task parent items (λ p a. line_of p a h)) (λ p a. line_of p a (Done task m ∷ h)) d.lines d.rows books (done_row_lines task h parent items all own its);
}

-- a task without items
pub stands_done_without_items : (task m : ℕ) (h : List Event) (d : Depends) → Stands d h → IsOpen task h → task_items task h ≡ [] → Stands d (Done task m ∷ h)
stands_done_without_items task m h d st is none =
    let its : open_items h task ≡ [] = items_while_open task h is ∙ none in
    stands_done task m h d (open_parent h task) [] st.order is refl (sym its)
    (books_same (suc (tasks_created h)) (open_parent (Done task m ∷ h)) (open_items (Done task m ∷ h)) (λ p a. line_of p a h) (left_by task (open_parent h task) [] (λ p a. line_of p a h)) d.lines d.rows
    (record { stand = st.books.stand; agree = agree_done task m h d.lines d.rows d.rows st.books.agree (no_items_no_row task h d st its) (λ t differ. refl) }) (left_nothing task (open_parent h task) (λ p a. line_of p a h)))

-- and nothing is kept of it
pub nothing_without_items : (task m : ℕ) (h : List Event) (d : Depends) (items : List Dep) → items ≡ [] → NothingIsKept task items (Done task m ∷ h) d
nothing_without_items task m h d items none = record {
  row = λ some. absurd (let unnamed = ap has_items none in not_both (has_items items) some unnamed);
  lines = λ a named. absurd (let unnamed = ap (names a) none in not_both (names a items) named unnamed);
}

pub nothing_is_kept : (task m : ℕ) (h : List Event) (d : Depends) (parent : Task) (items : List Dep) → Always InOrder h → IsOpen task h → parent ≡ open_parent h task → items ≡ open_items h task → has_entry task d.rows ≡ false →
    ((a : ℕ) → names a items ≡ true → NoneIsEmpty parent a (left_by task parent items (λ q b. line_of q b h)) d.lines) → NothingIsKept task items (Done task m ∷ h) d
nothing_is_kept task m h d parent items all is own its no_row_left dropped = record {
  row = λ some. no_row_left;
  lines = λ a named none.
      let some : has_items (open_items h task) ≡ true = ap has_items (sym its) ∙ named_has_items a items named in
      let same : task_parent task h ≡ parent = sym (own ∙ rw some refl) in
      subst (λ (p : Task). entry_at p a d.lines ≡ None) (sym same)
      (dropped a named (done_row_lines task h parent items all own its parent a ∙ ap (λ (p : Task). without task (line_of p a h)) (sym same) ∙ none));
}

pub discarded_keeps_nothing : (task m : ℕ) (items : List Dep) (h : List Event) (d : Depends) → NothingIsKept task items (Done task m ∷ h) d → NothingIsKept task items (Discard task m ∷ h) d
discarded_keeps_nothing task m items h d gone = record { row = gone.row; lines = gone.lines }

pub discarded_as_done : (d : Depends) (task m : ℕ) (h : List Event) → Stands d (Done task m ∷ h) → Stands d (Discard task m ∷ h)
discarded_as_done d task m h st = record { order = st.order; books = st.books }

-- A task is created

-- a task without items
pub stands_without_items : (task m : ℕ) (parent : Task) (desc : TaskDesc) (h : List Event) (d : Depends) → Stands d h → task ≡ suc (tasks_created h) → desc.deps ≡ [] → Stands d (Create task m parent desc ∷ h)
stands_without_items task m parent desc h d st number none = record {
  order = (number, st.order);
  books = record {
    stand = λ p a. subst (λ line. StandsFor (line_at p a d.lines) (suc (suc (tasks_created h))) line) (same_line p a) (stands_up (line_at p a d.lines) (suc (tasks_created h)) (suc (suc (tasks_created h))) (line_of p a h) (omega arith) (st.books.stand p a));
    agree = λ t. st.books.agree t ∙ same_row t;
  };
}
  where
    same_line : (p : Task) (a : ℕ) → line_of p a h ≡ line_of p a (Create task m parent desc ∷ h)
    same_line p a = elim (cases_Bool (same_task parent p)) [
      | inl own ↦ rw (own, none) refl
      | inr alien ↦ rw alien refl
    ]

    old_items : open_items h task ≡ []
    old_items =
        let new : is_created task h ≡ false = rw number (next_is_uncreated h) in
        rw ((uncreated_is_no_child h st.order task new).1, uncreated_has_no_items h st.order task new) refl

    new_items : open_items (Create task m parent desc ∷ h) task ≡ []
    new_items =
        let new : is_created task h ≡ false = rw number (next_is_uncreated h) in
        rw ((uncreated_is_no_child h st.order task new).1, same_number task, none) refl

    same_row : (t : ℕ) → row_with (open_parent h t) (open_items h t) (addresses_where (holds d.lines t (open_parent h t)) (open_items h t))
        ≡ row_with (open_parent (Create task m parent desc ∷ h) t) (open_items (Create task m parent desc ∷ h) t) (addresses_where (holds d.lines t (open_parent (Create task m parent desc ∷ h) t)) (open_items (Create task m parent desc ∷ h) t))
    same_row t = elim (eqb_tells task t) [
      | inl here ↦ subst (λ (u : ℕ). row_with (open_parent h u) (open_items h u) (addresses_where (holds d.lines u (open_parent h u)) (open_items h u)) ≡ row_with (open_parent (Create task m parent desc ∷ h) u) (open_items (Create task m parent desc ∷ h) u) (addresses_where (holds d.lines u (open_parent (Create task m parent desc ∷ h) u)) (open_items (Create task m parent desc ∷ h) u))) here.1 (rw (old_items, new_items) refl)
      | inr away ↦ rw away.0 refl
    ]

-- the row of the new task, and the rows of the others
agree_created : (task m : ℕ) (parent : Task) (desc : TaskDesc) (items : List Dep) (count : ℕ) (h : List Event) (lines joined_lines : LineTable) (rows after : RowTable) → Always InOrder h → task ≡ suc (tasks_created h) → desc.deps ≡ items → has_items items ≡ true →
    Agree (open_parent h) (open_items h) lines rows → count ≡ addresses_where (holds joined_lines task parent) items → ((t : ℕ) (p : Task) (a : ℕ) → (task == t) ≡ false → holds joined_lines t p a ≡ holds lines t p a) →
    depend_row task after ≡ row_with parent items count → ((t : ℕ) → t ≢ task → depend_row t after ≡ depend_row t rows) → Agree (open_parent (Create task m parent desc ∷ h)) (open_items (Create task m parent desc ∷ h)) joined_lines after
agree_created task m parent desc items count h lines joined_lines rows after all number its some agree counted held row others t = elim (eqb_tells task t) [
  | inl here ↦
      let new : is_created task h ≡ false = rw number (next_is_uncreated h) in
      let incomplete = (uncreated_is_no_child h all task new).1 in
      let now : depend_row task after ≡ row_with parent items (addresses_where (holds joined_lines task parent) items) = row ∙ ap (row_with parent items) counted in
      let own_items : open_items (Create task m parent desc ∷ h) task ≡ items = rw (incomplete, same_number task) its in
      let own_parent_is : open_parent (Create task m parent desc ∷ h) task ≡ parent = rw (incomplete, same_number task, its, some) refl in
      subst (λ (u : ℕ). depend_row u after ≡ row_with (open_parent (Create task m parent desc ∷ h) u) (open_items (Create task m parent desc ∷ h) u) (addresses_where (holds joined_lines u (open_parent (Create task m parent desc ∷ h) u)) (open_items (Create task m parent desc ∷ h) u))) here.1
      (now ∙ sym (ap (λ (p : Task). row_with p items (addresses_where (holds joined_lines task p) items)) own_parent_is)
      ∙ sym (ap (λ (x : List Dep). row_with (open_parent (Create task m parent desc ∷ h) task) x (addresses_where (holds joined_lines task (open_parent (Create task m parent desc ∷ h) task)) x)) own_items))
  | inr away ↦
      others t (λ e. away.1 (sym e)) ∙ agree t
      ∙ ap (row_with (open_parent h t) (open_items h t)) (where_same (holds lines t (open_parent h t)) (holds joined_lines t (open_parent h t)) (open_items h t) (λ a named. sym (held t (open_parent h t) a away.0)))
      ∙ rw away.0 refl
]

-- the line of a parent and an address with the new task
line_created : (task m : ℕ) (parent : Task) (desc : TaskDesc) (items : List Dep) (h : List Event) (lines joined_lines : LineTable) → task ≡ suc (tasks_created h) → desc.deps ≡ items →
    ((p : Task) (a : ℕ) → StandsFor (line_at p a lines) (suc (tasks_created h)) (line_of p a h)) → ((p : Task) (a : ℕ) → (same_task parent p && names a items) ≡ false → entry_at p a joined_lines ≡ entry_at p a lines) →
    ((a : ℕ) (class : Class) (n : ℕ) (line : List Entry) → names a items ≡ true → class_at a items ≡ Some class → StandsFor (line_at parent a lines) n line → n ≤ task → StandsFor (line_at parent a joined_lines) (task + 1) (record { task = task; class = class } ∷ line)) →
    (p : Task) (a : ℕ) → StandsFor (line_at p a joined_lines) (suc (suc (tasks_created h))) (line_of p a (Create task m parent desc ∷ h))
line_created task m parent desc items h lines joined_lines number its stand others joins p a = elim (cases_Bool (same_task parent p)) [
  | inl own ↦ rw own (subst (λ (x : List Dep). StandsFor (line_at p a joined_lines) (suc (suc (tasks_created h))) (joined task (class_at a x) (line_of p a h))) (sym its)
      (subst (λ (q : Task). StandsFor (line_at q a joined_lines) (suc (suc (tasks_created h))) (joined task (class_at a items) (line_of q a h))) (same_is_one parent p own) (by (class_at a items) refl)))
  | inr alien ↦ rw alien (up p (stands_still p a (suc (tasks_created h)) lines joined_lines (line_of p a h) (others p a (rw alien refl)) (stand p a)))
]
  where
    up : (q : Task) → StandsFor (line_at q a joined_lines) (suc (tasks_created h)) (line_of q a h) → StandsFor (line_at q a joined_lines) (suc (suc (tasks_created h))) (line_of q a h)
    up q st = stands_up (line_at q a joined_lines) (suc (tasks_created h)) (suc (suc (tasks_created h))) (line_of q a h) (omega arith) st

    by : (class : Option Class) → class_at a items ≡ class → StandsFor (line_at parent a joined_lines) (suc (suc (tasks_created h))) (joined task class (line_of parent a h))
    by None is =
        let unnamed : names a items ≡ false = sym (class_at_named a items) ∙ ap is_some is in
        up parent (stands_still parent a (suc (tasks_created h)) lines joined_lines (line_of parent a h) (others parent a (and_false (same_task parent parent) (names a items) unnamed)) (stand parent a))
    by (Some class) is =
        let named : names a items ≡ true = sym (class_at_named a items) ∙ ap is_some is in
        let next : task + 1 ≡ suc (suc (tasks_created h)) = omega (arith, number) in
        subst (λ (n : ℕ). StandsFor (line_at parent a joined_lines) n (record { task = task; class = class } ∷ line_of parent a h)) next
        (joins a class (suc (tasks_created h)) (line_of parent a h) named is (stand parent a) (omega (arith, number)))

-- a task with items
pub stands_created : (task m : ℕ) (parent : Task) (desc : TaskDesc) (items : List Dep) (count : ℕ) (h : List Event) (d e : Depends) → Stands d h → task ≡ suc (tasks_created h) → desc.deps ≡ items → has_items items ≡ true →
    count ≡ addresses_where (holds e.lines task parent) items → ((t : ℕ) (p : Task) (a : ℕ) → (task == t) ≡ false → holds e.lines t p a ≡ holds d.lines t p a) → ((p : Task) (a : ℕ) → (same_task parent p && names a items) ≡ false → entry_at p a e.lines ≡ entry_at p a d.lines) →
    ((a : ℕ) (class : Class) (n : ℕ) (line : List Entry) → names a items ≡ true → class_at a items ≡ Some class → StandsFor (line_at parent a d.lines) n line → n ≤ task → StandsFor (line_at parent a e.lines) (task + 1) (record { task = task; class = class } ∷ line)) →
    depend_row task e.rows ≡ row_with parent items count → ((t : ℕ) → t ≢ task → depend_row t e.rows ≡ depend_row t d.rows) → Stands e (Create task m parent desc ∷ h)
stands_created task m parent desc items count h d e st number its some counted held others joins row rest = record {
  order = (number, st.order);
  books = record {
    stand = line_created task m parent desc items h d.lines e.lines number its st.books.stand others joins;
    agree = agree_created task m parent desc items count h d.lines e.lines d.rows e.rows st.order number its some st.books.agree counted held row rest;
  };
}

-- Clauses as the code has them

pub clause_is_empty : (items : List Dep) → (length items == 0) ≡ true → items ≡ []
clause_is_empty [] e = refl
clause_is_empty (item ∷ items) e = absurd (let some : (length (item ∷ items) == 0) ≡ false = other_number (length (item ∷ items)) 0 (λ same. omega (arith, same)) in cc)

pub clause_has_items : (items : List Dep) → (length items == 0) ≡ false → has_items items ≡ true
clause_has_items [] e = absurd (cc)
clause_has_items (item ∷ items) e = refl

-- a task that was not created has no row
pub new_has_no_row : (d : Depends) (h : List Event) (task : ℕ) → Stands d h → task ≡ suc (tasks_created h) → names_items (depend_row task d.rows) ≡ false
new_has_no_row d h task st number =
    let new : is_created task h ≡ false = rw number (next_is_uncreated h) in
    let none : open_items h task ≡ [] = rw ((uncreated_is_no_child h st.order task new).1, uncreated_has_no_items h st.order task new) refl in
    ap names_items (no_items_no_row task h d st none)

not_while_done : (a b : Bool) → (a && false && b) ≡ false
not_while_done true b = refl
not_while_done false b = refl

-- which tasks the rows have as free
pub free_by_rows : (d : Depends) (h : List Event) (t : ℕ) → Stands d h → is_free_row (depend_row t d.rows) ≡ is_free_with_items t h
free_by_rows d h t st = by (is_complete t h) refl (has_items (task_items t h)) refl
  where
    own : names_items (depend_row t d.rows) ≡ has_items (open_items h t)
    own = ap names_items (st.books.agree t) ∙ some_are_named (open_items h t)

    by : (complete : Bool) → is_complete t h ≡ complete → (some : Bool) → has_items (task_items t h) ≡ some → is_free_row (depend_row t d.rows) ≡ (has_items (task_items t h) && not (is_complete t h) && is_free t h)
    by true done some has =
        let none : names_items (depend_row t d.rows) ≡ false = own ∙ rw done refl in
        rw (none, done) (sym (not_while_done (has_items (task_items t h)) (is_free t h)))
    by false undone false none =
        let its : names_items (depend_row t d.rows) ≡ false = own ∙ rw undone none in
        rw (its, none) refl
    by false undone true has =
        let its : names_items (depend_row t d.rows) ≡ true = own ∙ rw undone has in
        rw (its, has, undone) (elim (cases_Bool (is_created t h)) [
          | inl made ↦ free_by_row d h t st (record { created = made; incomplete = undone })
          | inr new ↦ absurd (let none : has_items (task_items t h) ≡ false = rw (uncreated_has_no_items h st.order t new) refl in cc)
        ])

-- Which tasks an event frees

not_both_free : (b : Bool) → (b && not b) ≡ false
not_both_free true = refl
not_both_free false = refl

-- it frees those whose rows are free after it, and were not before
freed_by_events : (d e : Depends) (h after : List Event) (t : ℕ) → Stands d h → Stands e after → is_freed t e ≡ (is_free_row (depend_row t e.rows) && not (is_free_row (depend_row t d.rows))) → is_freed t e ≡ (is_free_with_items t after && not (is_free_with_items t h))
freed_by_events d e h after t st now by_rows =
    by_rows ∙ ap (λ (b : Bool). b && not (is_free_row (depend_row t d.rows))) (free_by_rows e after t now) ∙ ap (λ (b : Bool). is_free_with_items t after && not b) (free_by_rows d h t st)

-- the end of a task
pub freed_by_end : (task : ℕ) (d e : Depends) (h after : List Event) (left : RowTable) → Stands d h → Stands e after → NoneIsFreed d → depend_row task left ≡ no_row → ((t : ℕ) → t ≢ task → depend_row t left ≡ depend_row t d.rows) →
    ((t : ℕ) → is_row_freed t left ≡ is_row_freed t d.rows) → LowersRows left e.rows → (t : ℕ) → is_freed t e ≡ (is_free_with_items t after && not (is_free_with_items t h))
freed_by_end task d e h after left st now none gone others freed lowers t =
    let not_yet : is_row_freed t left ≡ false = freed t ∙ none t in
    freed_by_events d e h after t st now (lowers.freed t ∙ ap (λ (b : Bool). b || (is_waiting_row (depend_row t left) && (depend_row t e.rows).held_count == 0)) not_yet ∙ by_rows)
  where
    same_tests : (some before now : Bool) → ((some && not before) && now) ≡ ((some && now) && not (some && before))
    same_tests false before now = refl
    same_tests true true true = refl
    same_tests true true false = refl
    same_tests true false true = refl
    same_tests true false false = refl

    by_rows : (is_waiting_row (depend_row t left) && (depend_row t e.rows).held_count == 0) ≡ (is_free_row (depend_row t e.rows) && not (is_free_row (depend_row t d.rows)))
    by_rows = elim (eqb_tells task t) [
      | inl here ↦
          let none_left : names_items (depend_row t left) ≡ false = ap (λ (u : ℕ). names_items (depend_row u left)) (sym here.1) ∙ ap names_items gone in
          let none_after : names_items (depend_row t e.rows) ≡ false = ap (nat_lt 0) (lowers.named t) ∙ none_left in
          ap (λ (b : Bool). (b && not ((depend_row t left).held_count == 0)) && (depend_row t e.rows).held_count == 0) none_left
          ∙ sym (ap (λ (b : Bool). (b && (depend_row t e.rows).held_count == 0) && not (is_free_row (depend_row t d.rows))) none_after)
      | inr away ↦
          same_tests (names_items (depend_row t left)) ((depend_row t left).held_count == 0) ((depend_row t e.rows).held_count == 0)
          ∙ ap (λ (n : ℕ). (nat_lt 0 n && (depend_row t e.rows).held_count == 0) && not (is_free_row (depend_row t left))) (sym (lowers.named t))
          ∙ ap (λ (row : Row). is_free_row (depend_row t e.rows) && not (is_free_row row)) (others t (λ e. away.1 (sym e)))
    ]

-- the creation or the end of a task without items
pub freed_without_items : (d : Depends) (h after : List Event) → Stands d h → Stands d after → NoneIsFreed d → (t : ℕ) → is_freed t d ≡ (is_free_with_items t after && not (is_free_with_items t h))
freed_without_items d h after st now none t = freed_by_events d d h after t st now (none t ∙ sym (not_both_free (is_free_row (depend_row t d.rows))))

-- or with items
pub freed_by_creation : (task : ℕ) (d e : Depends) (h after : List Event) (row : Row) → Stands d h → Stands e after → NoneIsFreed d → names_items (depend_row task d.rows) ≡ false → names_items row ≡ true → depend_row task e.rows ≡ row →
    ((t : ℕ) → t ≢ task → depend_row t e.rows ≡ depend_row t d.rows) → ((t : ℕ) → is_freed t e ≡ (is_freed t d || (row.held_count == 0 && task == t))) → (t : ℕ) → is_freed t e ≡ (is_free_with_items t after && not (is_free_with_items t h))
freed_by_creation task d e h after row st now none new some is others freed t =
    freed_by_events d e h after t st now (freed t ∙ ap (λ (b : Bool). b || (row.held_count == 0 && task == t)) (none t) ∙ by_rows)
  where
    by_rows : (row.held_count == 0 && task == t) ≡ (is_free_row (depend_row t e.rows) && not (is_free_row (depend_row t d.rows)))
    by_rows = elim (eqb_tells task t) [
      | inl here ↦
          let now_free : is_free_row (depend_row t e.rows) ≡ (row.held_count == 0) = ap (λ (u : ℕ). is_free_row (depend_row u e.rows)) (sym here.1) ∙ ap is_free_row is ∙ ap (λ (b : Bool). b && row.held_count == 0) some in
          let was_not : is_free_row (depend_row t d.rows) ≡ false = ap (λ (u : ℕ). is_free_row (depend_row u d.rows)) (sym here.1) ∙ ap (λ (b : Bool). b && (depend_row task d.rows).held_count == 0) new in
          ap (λ (b : Bool). row.held_count == 0 && b) here.0
          ∙ sym (ap (λ (b : Bool). b && not (is_free_row (depend_row t d.rows))) now_free ∙ ap (λ (b : Bool). row.held_count == 0 && not b) was_not)
      | inr away ↦
          and_false (row.held_count == 0) (task == t) away.0
          ∙ sym (ap (λ (r : Row). is_free_row r && not (is_free_row (depend_row t d.rows))) (others t (λ e. away.1 (sym e))) ∙ not_both_free (is_free_row (depend_row t d.rows)))
    ]

-- how many more tasks wait or are freed by that
pub waits_none_more : (items : List Dep) (n : ℕ) → items ≡ [] → n ≡ n + (if has_items items then 1 else 0)
waits_none_more items n e = rw e (omega arith)

pub waits_one_more : (items : List Dep) (n m : ℕ) → has_items items ≡ true → m ≡ n + 1 → m ≡ n + (if has_items items then 1 else 0)
waits_one_more items n m e is = rw e is
