-- What the laws and the definitions of freed tasks exclude, of any tasks, members, lists of events and tables.
use Rattle.std.proofs.Common.{◌≡◌, ℕ, ◌<◌, Bool, true, false, None, Some, List, [], ◌∷◌, ◌++◌, ◌∙◌, ◌+◌, length, ap, arith, inl, inr, refl, sym}
use Rattle.std.specs.Prelude.{◌==◌, ◌&&◌, ◌||◌, not, vec_capacity, is_some}
use Rattle.std.specs.Ordering.{nat_cmp}
use Rattle.std.specs.BTreeMap as tree
use mathlib.Core.Logic.{∥∥₁_elim}
use Rattle.gomp_events.specs.declared.event.Event.{Event}
use Rattle.gomp_events.specs.declared.event.Event.TheVariants.{Done, Discard}
use Rattle.gomp_types.specs.declared.depend.Dep.{Dep}
use Rattle.gomp_events.specs.Tasks.{contains, open_tasks}
use Rattle.gomp_events.specs.Depends.{waits_for, is_free}
use Rattle.gomp_types.proofs.Booleans.{not_both, and_left, and_right, and_false, or_right, other_number, false_of_not}
use Rattle.gomp_lines.specs.Lines.{line_of}
use Rattle.gomp_lines.specs.Order.{task_parent}
use Rattle.gomp_depend.specs.declared.depends.Depends.{Depends}
use Rattle.gomp_depend.specs.declared.free_list.FreeList.{FreeList}
use Rattle.gomp_depend.specs.declared.rows.Row.{Row}
use Rattle.gomp_depend.specs.declared.rows.RowTable.{RowTable}
use Rattle.gomp_depend.specs.FreeLists.{are_different}
use Rattle.gomp_depend.specs.FreeTasks.{is_listed_free, listed_count}
use Rattle.gomp_depend.specs.Rows.{names_items, row_in, is_free_row, is_waiting_row, WaitAll, Tied}
use Rattle.gomp_depend.specs.Tables.{depend_row, has_entry, entry_at, is_row_freed, listed_row_count, LowersRows}
use Rattle.gomp_depend.specs.Books.{names}
use Rattle.gomp_depend.specs.Stands.{Stands, IsOpen, has_items, open_items, is_free_with_items, is_held_with_items, NothingIsKept, is_freed, NoneIsFreed, IsFreedBy, waiting_count}
use Rattle.gomp_depend.proofs.Listed.{same_length}
use Rattle.gomp_depend.proofs.Laws.{end_frees, discard_frees, held_is_counted, counted_is_held_or_freed, all_are_counted}

-- The end of a task

-- no task that waits for others, and not for that one
pub never_freed_by_the_end_of_another : (t d m : ℕ) (h : List Event) → IsOpen d h → is_free t h ≡ false → waits_for t d h ≡ false → (is_free t (Done d m ∷ h) ≡ true → ⊥) × (is_free t (Discard d m ∷ h) ≡ true → ⊥)
never_freed_by_the_end_of_another t d m h is held other = (
  (λ free. not_both (is_free t (Done d m ∷ h)) free (end_frees t d m h is ∙ rw (held, other) refl)),
  (λ free. not_both (is_free t (Discard d m ∷ h)) free (discard_frees t d m h is ∙ rw (held, other) refl)),
)

-- and none stays held that waited for that one alone
pub never_held_by_no_other : (t d m : ℕ) (h : List Event) → IsOpen d h → waits_for t d h ≡ true → open_tasks (λ q. waits_for t q h) h ≡ 1 → is_free t h ≡ false → (is_free t (Done d m ∷ h) ≡ false → ⊥) × (is_free t (Discard d m ∷ h) ≡ false → ⊥)
never_held_by_no_other t d m h is waits one held = (
  (λ still. not_both (is_free t (Done d m ∷ h)) (end_frees t d m h is ∙ rw (held, waits, one) refl) still),
  (λ still. not_both (is_free t (Discard d m ∷ h)) (discard_frees t d m h is ∙ rw (held, waits, one) refl) still),
)

-- none is freed that waits for one more than that
pub never_freed_while_it_waits_for_more : (t d m : ℕ) (h : List Event) → IsOpen d h → is_free t h ≡ false → (open_tasks (λ q. waits_for t q h) h ≡ 1 → ⊥) → (is_free t (Done d m ∷ h) ≡ true → ⊥) × (is_free t (Discard d m ∷ h) ≡ true → ⊥)
never_freed_while_it_waits_for_more t d m h is held more = (
  (λ free. not_both (is_free t (Done d m ∷ h)) free (end_frees t d m h is ∙ rw (held, other_number (open_tasks (λ q. waits_for t q h) h) 1 more) (and_false (waits_for t d h) false refl))),
  (λ free. not_both (is_free t (Discard d m ∷ h)) free (discard_frees t d m h is ∙ rw (held, other_number (open_tasks (λ q. waits_for t q h) h) 1 more) (and_false (waits_for t d h) false refl))),
)

-- none that is free is held again
pub never_held_once_free : (t d m : ℕ) (h : List Event) → IsOpen d h → is_free t h ≡ true → (is_free t (Done d m ∷ h) ≡ false → ⊥) × (is_free t (Discard d m ∷ h) ≡ false → ⊥)
never_held_once_free t d m h is free = (
  (λ held. not_both (is_free t (Done d m ∷ h)) (end_frees t d m h is ∙ rw free refl) held),
  (λ held. not_both (is_free t (Discard d m ∷ h)) (discard_frees t d m h is ∙ rw free refl) held),
)

-- so none is freed or held otherwise than the two laws say
pub never_freed_otherwise_by_an_end : (t d m : ℕ) (h : List Event) → IsOpen d h → (is_free t (Done d m ∷ h) ≡ (is_free t h || (waits_for t d h && (open_tasks (λ q. waits_for t q h) h == 1))) → ⊥) → ⊥
never_freed_otherwise_by_an_end t d m h is wrong = wrong (end_frees t d m h is)

pub never_freed_otherwise_by_a_discard : (t d m : ℕ) (h : List Event) → IsOpen d h → (is_free t (Discard d m ∷ h) ≡ (is_free t h || (waits_for t d h && (open_tasks (λ q. waits_for t q h) h == 1))) → ⊥) → ⊥
never_freed_otherwise_by_a_discard t d m h is wrong = wrong (discard_frees t d m h is)

-- The tasks that an event frees

-- none is left out
pub never_freed_and_not_handed_out : (event : Event) (h : List Event) (d : Depends) (t : ℕ) → IsFreedBy event h d → is_free_with_items t (event ∷ h) ≡ true → is_free_with_items t h ≡ false → is_freed t d ≡ false → ⊥
never_freed_and_not_handed_out event h d t frees now before out = not_both (is_freed t d) (frees t ∙ ap (λ (b : Bool). b && not (is_free_with_items t h)) now ∙ ap not before) out

-- none that was free before
pub never_freed_once_it_was_free : (event : Event) (h : List Event) (d : Depends) (t : ℕ) → IsFreedBy event h d → is_free_with_items t h ≡ true → is_freed t d ≡ true → ⊥
never_freed_once_it_was_free event h d t frees before listed = not_both (is_freed t d) listed (frees t ∙ and_false (is_free_with_items t (event ∷ h)) (not (is_free_with_items t h)) (ap not before))

-- none that waits, is complete or has no items
pub never_freed_while_it_waits : (event : Event) (h : List Event) (d : Depends) (t : ℕ) → IsFreedBy event h d → is_free_with_items t (event ∷ h) ≡ false → is_freed t d ≡ true → ⊥
never_freed_while_it_waits event h d t frees waits listed = not_both (is_freed t d) listed (frees t ∙ ap (λ (b : Bool). b && not (is_free_with_items t h)) waits)

pub never_freed_if_none_is : (d : Depends) (t : ℕ) → NoneIsFreed d → is_freed t d ≡ true → ⊥
never_freed_if_none_is d t none listed = not_both (is_freed t d) listed (none t)

-- The tasks that wait, and the rows

-- none that waits is left out
pub never_waits_unlisted : (rows : tree.BTreeMap ℕ Row) (tasks : List ℕ) (t : ℕ) → WaitAll rows tasks → is_waiting_row (row_in t rows) ≡ true → contains t tasks ≡ false → ⊥
never_waits_unlisted rows tasks t all waits out = not_both (contains t tasks) (all.waits t ∙ waits) out

-- none is among them that does not wait
pub never_listed_for_nothing : (rows : tree.BTreeMap ℕ Row) (tasks : List ℕ) (t : ℕ) → WaitAll rows tasks → contains t tasks ≡ true → is_waiting_row (row_in t rows) ≡ false → ⊥
never_listed_for_nothing rows tasks t all listed idle = not_both (contains t tasks) listed (all.waits t ∙ idle)

-- none is among them twice, nor among those that were freed
pub never_twice : (t : ℕ) (front tasks : List ℕ) → are_different (front ++ t ∷ tasks) ≡ true → contains t tasks ≡ true → ⊥
never_twice t [] tasks differ again = not_both (contains t tasks) again (false_of_not (contains t tasks) (and_left (not (contains t tasks)) (are_different tasks) differ))
never_twice t (u ∷ front) tasks differ again = never_twice t front tasks (and_right (not (contains u (front ++ t ∷ tasks))) (are_different (front ++ t ∷ tasks)) differ) again

pub never_waits_twice : (rows : tree.BTreeMap ℕ Row) (t : ℕ) (front tasks : List ℕ) → WaitAll rows (front ++ t ∷ tasks) → contains t tasks ≡ true → ⊥
never_waits_twice rows t front tasks all again = never_twice t front tasks all.differ again

pub never_listed_free_twice : (list : FreeList) (t : ℕ) (front tasks : List ℕ) → list.freed.items ≡ front ++ t ∷ tasks → contains t tasks ≡ true → ⊥
never_listed_free_twice list t front tasks is again = never_twice t front tasks (sym (ap are_different is) ∙ list.counted.differ) again

-- none that waits is freed
pub never_listed_free_while_it_waits : (rows : tree.BTreeMap ℕ Row) (list : FreeList) (t : ℕ) → Tied rows list → is_waiting_row (row_in t rows) ≡ true → is_listed_free t list ≡ true → ⊥
never_listed_free_while_it_waits rows list t tied waits free = by (names_items (row_in t rows)) ((row_in t rows).held_count == 0) waits (tied.freed t free)
  where
    by : (some none : Bool) → (some && not none) ≡ true → (some && none) ≡ true → ⊥
    by true true e f = absurd (cc)
    by true false e f = absurd (cc)
    by false none e f = absurd (cc)

-- none that has no row, or waits at an address
pub never_listed_free_without_a_free_row : (rows : tree.BTreeMap ℕ Row) (list : FreeList) (t : ℕ) → Tied rows list → is_listed_free t list ≡ true → is_free_row (row_in t rows) ≡ false → ⊥
never_listed_free_without_a_free_row rows list t tied free held = not_both (is_free_row (row_in t rows)) (tied.freed t free) held

-- whatever list has those that wait, each once, so many are counted beside those that were freed
pub never_counts_more_or_fewer : (rows : tree.BTreeMap ℕ Row) (list : FreeList) (tasks : List ℕ) → Tied rows list → WaitAll rows tasks → (listed_count list ≡ length list.freed.items + length tasks → ⊥) → ⊥
never_counts_more_or_fewer rows list tasks tied all wrong = ∥∥₁_elim tied.waits (λ x y. absurd x) (λ some.
    let same = same_length some.0 tasks some.1.differ all.differ (λ t. some.1.waits t ∙ sym (all.waits t)) in
    let count = some.2 in
    let within = list.counted.within in
    wrong (omega (arith, same, count, within)))

-- there is room for each of them
pub never_without_room : (list : FreeList) → vec_capacity list.freed < listed_count list → ⊥
never_without_room list more = let room = list.counted.room in omega (arith, room, more)

-- Tasks that wait at fewer addresses

pub never_gets_another_parent : (before after : RowTable) (t : ℕ) → LowersRows before after → ((depend_row t after).parent ≡ (depend_row t before).parent → ⊥) → ⊥
never_gets_another_parent before after t lowers wrong = wrong (lowers.parents t)

pub never_names_more_or_fewer : (before after : RowTable) (t : ℕ) → LowersRows before after → ((depend_row t after).named ≡ (depend_row t before).named → ⊥) → ⊥
never_names_more_or_fewer before after t lowers wrong = wrong (lowers.named t)

pub never_waits_at_more_addresses : (before after : RowTable) (t : ℕ) → LowersRows before after → (depend_row t before).held_count < (depend_row t after).held_count → ⊥
never_waits_at_more_addresses before after t lowers more = let fewer = lowers.fewer t in omega (arith, fewer, more)

-- a task that was freed stays so
pub never_taken_back : (before after : RowTable) (t : ℕ) → LowersRows before after → is_row_freed t before ≡ true → is_row_freed t after ≡ false → ⊥
never_taken_back before after t lowers was gone = not_both (is_row_freed t after) (lowers.freed t ∙ ap (λ (b : Bool). b || (is_waiting_row (depend_row t before) && (depend_row t after).held_count == 0)) was) gone

-- one that waited, and waits at no address any more, is freed
pub never_left_waiting_at_none : (before after : RowTable) (t : ℕ) → LowersRows before after → is_waiting_row (depend_row t before) ≡ true → (depend_row t after).held_count ≡ 0 → is_row_freed t after ≡ false → ⊥
never_left_waiting_at_none before after t lowers waits none gone =
    let now : ((depend_row t after).held_count == 0) ≡ true = ap (λ (n : ℕ). n == 0) none in
    let last : (is_waiting_row (depend_row t before) && (depend_row t after).held_count == 0) ≡ true = ap (λ (b : Bool). b && (depend_row t after).held_count == 0) waits ∙ now in
    not_both (is_row_freed t after) (lowers.freed t ∙ or_right (is_row_freed t before) (is_waiting_row (depend_row t before) && (depend_row t after).held_count == 0) last) gone

-- and no other one
pub never_lowered_free_while_it_waits : (before after : RowTable) (t : ℕ) → LowersRows before after → is_row_freed t before ≡ false → 0 < (depend_row t after).held_count → is_row_freed t after ≡ true → ⊥
never_lowered_free_while_it_waits before after t lowers was waits free =
    let some : ((depend_row t after).held_count == 0) ≡ false = other_number (depend_row t after).held_count 0 (λ e. omega (arith, e, waits)) in
    not_both (is_row_freed t after) free
    (lowers.freed t ∙ ap (λ (b : Bool). b || (is_waiting_row (depend_row t before) && (depend_row t after).held_count == 0)) was ∙ and_false (is_waiting_row (depend_row t before)) ((depend_row t after).held_count == 0) some)

pub never_lowered_free_without_waiting : (before after : RowTable) (t : ℕ) → LowersRows before after → is_row_freed t before ≡ false → is_waiting_row (depend_row t before) ≡ false → is_row_freed t after ≡ true → ⊥
never_lowered_free_without_waiting before after t lowers was idle free =
    not_both (is_row_freed t after) free
    (lowers.freed t ∙ ap (λ (b : Bool). b || (is_waiting_row (depend_row t before) && (depend_row t after).held_count == 0)) was ∙ ap (λ (b : Bool). b && (depend_row t after).held_count == 0) idle)

-- none is handed out by that, and none joins
pub never_lists_more_or_fewer : (before after : RowTable) → LowersRows before after → (listed_row_count after ≡ listed_row_count before → ⊥) → ⊥
never_lists_more_or_fewer before after lowers wrong = wrong lowers.listed

-- How many tasks wait

-- no task that waits for an open one is left out of the count
pub never_left_uncounted : (depends : Depends) (t : ℕ) (h : List Event) → Stands depends h → IsOpen t h → is_free t h ≡ false → waiting_count depends ≡ 0 → ⊥
never_left_uncounted depends t h st is held none = let some = held_is_counted depends t h st is held in omega (arith, some, none)

-- and none is counted once nothing waits or was freed
pub never_counted_for_nothing : (depends : Depends) (h : List Event) → Stands depends h → NoneIsFreed depends → ((t : ℕ) → IsOpen t h → is_free t h ≡ true) → 0 < waiting_count depends → ⊥
never_counted_for_nothing depends h st none all some = ∥∥₁_elim (counted_is_held_or_freed depends h st some) (λ x y. absurd x) (λ one. elim one.1 [
  | inl freed ↦ not_both (is_freed one.0 depends) freed (none one.0)
  | inr held ↦ not_both (is_free one.0 h) (all one.0 held.0) held.1
])

-- nor is any other number of them counted
pub never_counted_otherwise : (depends : Depends) (h : List Event) (tasks : List ℕ) → Stands depends h → are_different tasks ≡ true → ((t : ℕ) → contains t tasks ≡ (is_freed t depends || is_held_with_items t h)) → (waiting_count depends ≡ length tasks → ⊥) → ⊥
never_counted_otherwise depends h tasks st differ these wrong = wrong (all_are_counted depends h tasks st differ these)

-- What the rows say of tasks

-- another count of items or another parent than the task has
pub never_names_another_count : (depends : Depends) (h : List Event) (t : ℕ) → Stands depends h → ((depend_row t depends.rows).named ≡ length (open_items h t) → ⊥) → ⊥
never_names_another_count depends h t st wrong = wrong (ap (λ (row : Row). row.named) (st.books.agree t))

pub never_another_parent : (depends : Depends) (h : List Event) (t : ℕ) → Stands depends h → has_items (open_items h t) ≡ true → ((depend_row t depends.rows).parent ≡ task_parent t h → ⊥) → ⊥
never_another_parent depends h t st some wrong = wrong (ap (λ (row : Row). row.parent) (st.books.agree t) ∙ rw some refl)

-- What is kept of a task that is complete

pub never_keeps_a_row : (task : ℕ) (items : List Dep) (h : List Event) (depends : Depends) → NothingIsKept task items h depends → has_items items ≡ true → has_entry task depends.rows ≡ true → ⊥
never_keeps_a_row task items h depends gone some kept = not_both (has_entry task depends.rows) kept (gone.row some)

pub never_keeps_an_empty_line : (task a : ℕ) (items : List Dep) (h : List Event) (depends : Depends) → NothingIsKept task items h depends → names a items ≡ true → line_of (task_parent task h) a h ≡ [] → (entry_at (task_parent task h) a depends.lines ≡ None → ⊥) → ⊥
never_keeps_an_empty_line task a items h depends gone named none kept = kept (gone.lines a named none)

-- an entry that is there is kept, whatever it says
pub never_hides_an_entry : (table : RowTable) (t : ℕ) (row : Row) → tree.get nat_cmp table.rows t ≡ Some row → has_entry t table ≡ false → ⊥
never_hides_an_entry table t row there none = not_both (has_entry t table) (ap is_some there) none

-- no entry of a task comes or goes while others wait at fewer addresses
pub never_enters_or_goes : (before after : RowTable) (t : ℕ) → LowersRows before after → (has_entry t after ≡ has_entry t before → ⊥) → ⊥
never_enters_or_goes before after t lowers wrong = wrong (lowers.entries t)
