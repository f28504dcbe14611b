-- What holds of every list of events that the counts of a team's tasks stand for: the laws that the crates above cite.
use Rattle.std.proofs.Common.{◌≡◌, ◌≢◌, ℕ, ◌+◌, ◌<◌, Bool, true, false, List, [], ◌∷◌, ◌++◌, length-append, refl, ap, ◌∙◌, sym, arith, suc, ◌⊎◌, inl, inr}
use Rattle.std.specs.Prelude.{◌==◌, ◌&&◌, ◌||◌, not, length}
use mathlib.Core.Logic.{∥∥₁_elim, ∥∥₁_map}
use native.Mathlib.Nat.{ℕ_set}
use Rattle.std.proofs.lemmas.Bool.{cases_Bool}
use Rattle.std.proofs.lemmas.Bool.Decides.{eqb_tells}
use Rattle.gomp_types.specs.declared.task.Task.{Task}
use Rattle.gomp_types.specs.declared.task.TaskDesc.{TaskDesc}
use Rattle.gomp_events.specs.declared.event.Event.{Event}
use Rattle.gomp_events.specs.declared.event.Event.TheVariants.{Create, Done, Discard}
use Rattle.gomp_events.specs.Laws.{Always}
use Rattle.gomp_events.specs.Tasks.{contains, tasks_created, open_tasks, is_created, is_complete}
use Rattle.gomp_types.specs.declared.depend.Dep.{Dep}
use Rattle.gomp_events.specs.Depends.{task_items, waits_for, is_free}
use Rattle.std.specs.List.{list_all}
use Rattle.gomp_lines.specs.Order.{InOrder, task_parent}
use Rattle.gomp_lines.specs.Lines.{line_of, is_free_in}
use Rattle.gomp_lines.proofs.FreeTasks.{free_by_lines}
use Rattle.gomp_types.proofs.Booleans.{same_number, other_number, unequal_numbers, not_both, and_false, and_left, and_right, false_of_not}
use Rattle.gomp_events.proofs.OpenTasks.{open_done, open_done_other, none_open_is_complete}
use Rattle.gomp_events.proofs.TaskStacks.{contains_in_either}
use Rattle.gomp_depend.specs.Calls.{IsNoDependEvent}
use Rattle.gomp_depend.specs.declared.depends.Depends.{Depends}
use Rattle.gomp_depend.specs.FreeLists.{are_different}
use Rattle.gomp_depend.specs.FreeTasks.{listed_waiting_count}
use Rattle.gomp_depend.specs.Rows.{names_items, is_waiting_row, WaitAll}
use Rattle.gomp_depend.specs.Tables.{depend_row}
use Rattle.gomp_depend.specs.Stands.{Stands, IsOpen, has_items, open_items, is_held_with_items, is_freed, NoneIsFreed, IsFreedBy, waiting_count}
use Rattle.gomp_depend.proofs.Addresses.{some_are_named}
use Rattle.gomp_depend.proofs.Listed.{different_lists, same_length}
use Rattle.gomp_depend.proofs.Listing.{waiting_is_counted, waiting_not_freed}
use Rattle.gomp_depend.proofs.Keeping.{discarded_as_done, free_by_row, freed_without_items, items_while_open, stands_done_without_items, stands_without_items}
use Rattle.gomp_depend.proofs.TaskFacts.{uncreated_has_no_items}

-- an event that neither creates, ends nor discards a task changes nothing of what the tables say
pub events_aside_keep_depends : (depends : Depends) (h : List Event) (event : Event) → IsNoDependEvent event → Stands depends h → Stands depends (event ∷ h)
events_aside_keep_depends depends h (Create t m parent desc) is st = absurd is
events_aside_keep_depends depends h (Done t m) is st = absurd is
events_aside_keep_depends depends h (Discard t m) is st = absurd is
events_aside_keep_depends depends h _ is st = record { order = (tt, st.order); books = st.books }

-- nor does the creation of a task without items, which frees no task: the call may be left out
pub created_without_items : (depends : Depends) (t m : ℕ) (parent : Task) (desc : TaskDesc) (h : List Event) → Stands depends h → NoneIsFreed depends → t ≡ suc (tasks_created h) → desc.deps ≡ [] → Stands depends (Create t m parent desc ∷ h) × IsFreedBy (Create t m parent desc) h depends
created_without_items depends t m parent desc h st none number bare =
    let next = stands_without_items t m parent desc h depends st number bare in
    (next, freed_without_items depends h (Create t m parent desc ∷ h) st next none)

-- nor its end
pub ended_without_items : (depends : Depends) (t m : ℕ) (h : List Event) → Stands depends h → NoneIsFreed depends → IsOpen t h → task_items t h ≡ [] → Stands depends (Done t m ∷ h) × IsFreedBy (Done t m) h depends
ended_without_items depends t m h st none is bare =
    let next = stands_done_without_items t m h depends st is bare in
    (next, freed_without_items depends h (Done t m ∷ h) st next none)

-- nor its discard
pub discarded_without_items : (depends : Depends) (t m : ℕ) (h : List Event) → Stands depends h → NoneIsFreed depends → IsOpen t h → task_items t h ≡ [] → Stands depends (Discard t m ∷ h) × IsFreedBy (Discard t m) h depends
discarded_without_items depends t m h st none is bare =
    let ended = ended_without_items depends t m h st none is bare in
    (discarded_as_done depends t m h ended.0, ended.1)

-- an open task without items is free
pub no_items_is_free : (depends : Depends) (t : ℕ) (h : List Event) → Stands depends h → IsOpen t h → has_items (task_items t h) ≡ false → is_free t h ≡ true
no_items_is_free depends t h st is none = free_by_lines t h st.order is ∙ ap (λ (items : List Dep). list_all (λ (item : Dep). is_free_in t (line_of (task_parent t h) item.addr h)) items) (no_items (task_items t h) none)
  where
    no_items : (items : List Dep) → has_items items ≡ false → items ≡ []
    no_items [] e = refl
    no_items (item ∷ items) e = absurd (cc)

one_is_none_more : (m n : ℕ) → m ≡ n + 1 → (n == 0) ≡ (m == 1)
one_is_none_more m n e = rw e (by n)
  where
    by : (k : ℕ) → (k == 0) ≡ (k + 1 == 1)
    by k = elim (eqb_tells k 0) [
      | inl is ↦ let zero_is = is.1 in rw zero_is refl
      | inr other ↦ let differ : k + 1 ≢ 1 = (λ same. let low = unequal_numbers k 0 other.0 in low (omega (arith, same))) in rw (other.0, other_number (k + 1) 1 differ) refl
    ]

no_task_before : (m n : ℕ) → m ≡ n + 1 → (m == 0) ≡ false
no_task_before m n e = other_number m 0 (λ same. omega (arith, e, same))

-- after the end of a task another is free if it was before, or if it waited for that task and for no other
pub end_frees : (t d m : ℕ) (h : List Event) → IsOpen d h → is_free t (Done d m ∷ h) ≡ (is_free t h || (waits_for t d h && (open_tasks (λ q. waits_for t q h) h == 1)))
end_frees t d m h is =
    let before = none_open_is_complete (λ q. waits_for t q h) h in
    let after = none_open_is_complete (λ q. waits_for t q h) (Done d m ∷ h) in
    elim (cases_Bool (waits_for t d h)) [
      | inl waits ↦
          let less = open_done (λ q. waits_for t q h) d m h is.created waits is.incomplete in
          let held : is_free t h ≡ false = sym before ∙ no_task_before _ _ less in
          sym after ∙ one_is_none_more _ _ less ∙ rw (held, waits) refl
      | inr other ↦
          let same = open_done_other (λ q. waits_for t q h) d m h other in
          sym after ∙ ap (λ (n : ℕ). n == 0) (sym same) ∙ before ∙ rw other (or_none (is_free t h))
    ]
  where
    or_none : (b : Bool) → b ≡ (b || false)
    or_none true = refl
    or_none false = refl

-- and so it is after a task is discarded
pub discard_frees : (t d m : ℕ) (h : List Event) → IsOpen d h → is_free t (Discard d m ∷ h) ≡ (is_free t h || (waits_for t d h && (open_tasks (λ q. waits_for t q h) h == 1)))
discard_frees t d m h is = end_frees t d m h is

-- a task with items that is not complete is open
open_with_items : (h : List Event) (t : ℕ) → Always InOrder h → has_items (open_items h t) ≡ true → IsOpen t h
open_with_items h t all some = elim (cases_Bool (is_complete t h)) [
  | inl done ↦ absurd (let none : has_items (open_items h t) ≡ false = rw done refl in cc)
  | inr undone ↦ elim (cases_Bool (is_created t h)) [
    | inl made ↦ record { created = made; incomplete = undone }
    | inr new ↦ absurd (let none : has_items (open_items h t) ≡ false = rw (undone, uncreated_has_no_items h all t new) refl in cc)
  ]
]

-- a task that waits for an open one is counted as waiting
pub held_is_counted : (depends : Depends) (t : ℕ) (h : List Event) → Stands depends h → IsOpen t h → is_free t h ≡ false → 0 < waiting_count depends
held_is_counted depends t h st is held = elim (cases_Bool (has_items (task_items t h))) [
  | inl some ↦
      let its : names_items (depend_row t depends.rows) ≡ true = ap names_items (st.books.agree t) ∙ some_are_named (open_items h t) ∙ ap has_items (items_while_open t h is) ∙ some in
      let count : not ((depend_row t depends.rows).held_count == 0) ≡ true = ap not (free_by_row depends h t st is ∙ held) in
      let waits : is_waiting_row (depend_row t depends.rows) ≡ true = ap (λ (b : Bool). b && not ((depend_row t depends.rows).held_count == 0)) its ∙ count in
      let counted = waiting_is_counted depends.rows.rows depends.rows.list t depends.rows.tied waits in
      omega (arith, counted)
  | inr none ↦ absurd (not_both (is_free t h) (no_items_is_free depends t h st is none) held)
]

-- a task whose row says that it waits is open, and waits for an open one
waiting_row_is_held : (depends : Depends) (t : ℕ) (h : List Event) → Stands depends h → is_waiting_row (depend_row t depends.rows) ≡ true → IsOpen t h × (is_free t h ≡ false)
waiting_row_is_held depends t h st waits =
    let its : has_items (open_items h t) ≡ true = sym (some_are_named (open_items h t)) ∙ sym (ap names_items (st.books.agree t)) ∙ and_left (names_items (depend_row t depends.rows)) (not ((depend_row t depends.rows).held_count == 0)) waits in
    let is = open_with_items h t st.order its in
    (is, sym (free_by_row depends h t st is) ∙ false_of_not ((depend_row t depends.rows).held_count == 0) (and_right (names_items (depend_row t depends.rows)) (not ((depend_row t depends.rows).held_count == 0)) waits))

-- and if one is counted, some task waits for an open one, or was freed and is not handed out yet
pub counted_is_held_or_freed : (depends : Depends) (h : List Event) → Stands depends h → 0 < waiting_count depends → ∥ ((t : ℕ) × ((is_freed t depends ≡ true) ⊎ (IsOpen t h × (is_free t h ≡ false)))) ∥₁
counted_is_held_or_freed depends h st some = by depends.rows.list.freed.items refl
  where
    first_is_held : depends.rows.list.freed.items ≡ [] → (tasks : List ℕ) → WaitAll depends.rows.rows tasks → length tasks ≡ listed_waiting_count depends.rows.list → (t : ℕ) × ((is_freed t depends ≡ true) ⊎ (IsOpen t h × (is_free t h ≡ false)))
    first_is_held is [] all count = absurd (let none = ap length is in omega (arith, some, none, count))
    first_is_held is (t ∷ tasks) all count = (t, inr (waiting_row_is_held depends t h st (sym (all.waits t) ∙ rw (same_number t) refl)))

    by : (freed : List ℕ) → depends.rows.list.freed.items ≡ freed → ∥ ((t : ℕ) × ((is_freed t depends ≡ true) ⊎ (IsOpen t h × (is_free t h ≡ false)))) ∥₁
    by (t ∷ freed) is = ∣ (t, inl (ap (contains t) is ∙ rw (same_number t) refl)) ∣₁
    by [] is = ∥∥₁_map depends.rows.tied.waits (λ all. first_is_held is all.0 all.1 all.2)

-- the rows have those tasks as waiting that are open, have items and wait for an open task
held_by_rows : (depends : Depends) (h : List Event) (t : ℕ) → Stands depends h → is_waiting_row (depend_row t depends.rows) ≡ is_held_with_items t h
held_by_rows depends h t st = by (has_items (open_items h t)) refl
  where
    own : names_items (depend_row t depends.rows) ≡ has_items (open_items h t)
    own = ap names_items (st.books.agree t) ∙ some_are_named (open_items h t)

    with_true : (b : Bool) → (b && true) ≡ b
    with_true true = refl
    with_true false = refl

    open_ones : (complete : Bool) → is_complete t h ≡ complete → has_items (open_items h t) ≡ (has_items (task_items t h) && not (is_complete t h))
    open_ones true is = rw is (sym (and_false (has_items (task_items t h)) false refl))
    open_ones false is = rw is (sym (with_true (has_items (task_items t h))))

    by : (some : Bool) → has_items (open_items h t) ≡ some → is_waiting_row (depend_row t depends.rows) ≡ is_held_with_items t h
    by true some =
        let free : ((depend_row t depends.rows).held_count == 0) ≡ is_free t h = free_by_row depends h t st (open_with_items h t st.order some) in
        ap (λ (b : Bool). b && not ((depend_row t depends.rows).held_count == 0)) own
        ∙ ap (λ (b : Bool). has_items (open_items h t) && not b) free
        ∙ ap (λ (b : Bool). b && not (is_free t h)) (open_ones (is_complete t h) refl)
    by false none =
        ap (λ (b : Bool). b && not ((depend_row t depends.rows).held_count == 0)) (own ∙ none)
        ∙ sym (ap (λ (b : Bool). b && not (is_free t h)) (sym (open_ones (is_complete t h) refl) ∙ none))

-- so many are counted as there are tasks, each once, that were freed and are not handed out yet, or that are open, have items and wait for an open one
pub all_are_counted : (depends : Depends) (h : List Event) (tasks : List ℕ) → Stands depends h → are_different tasks ≡ true → ((t : ℕ) → contains t tasks ≡ (is_freed t depends || is_held_with_items t h)) → waiting_count depends ≡ length tasks
all_are_counted depends h tasks st differ these = ∥∥₁_elim depends.rows.tied.waits (ℕ_set _ _) (λ all.
    let apart = different_lists depends.rows.list.freed.items all.0 depends.rows.list.counted.differ all.1.differ (λ t freed. freed_waits_not t all.0 all.1 freed) in
    let same : length tasks ≡ length (depends.rows.list.freed.items ++ all.0) = same_length tasks (depends.rows.list.freed.items ++ all.0) differ apart (λ t. these t ∙ ap (λ (b : Bool). is_freed t depends || b) (sym (held_by_rows depends h t st) ∙ sym (all.1.waits t)) ∙ sym (contains_in_either t depends.rows.list.freed.items all.0)) in
    let sum = length-append depends.rows.list.freed.items all.0 in
    let count = all.2 in
    let within = depends.rows.list.counted.within in
    omega (arith, same, sum, count, within))
  where
    freed_waits_not : (t : ℕ) (waiting : List ℕ) → WaitAll depends.rows.rows waiting → is_freed t depends ≡ true → contains t waiting ≡ false
    freed_waits_not t waiting all freed = elim (cases_Bool (contains t waiting)) [
      | inl there ↦ absurd (not_both (is_freed t depends) freed (waiting_not_freed depends.rows.rows depends.rows.list t depends.rows.tied (sym (all.waits t) ∙ there)))
      | inr out ↦ out
    ]
