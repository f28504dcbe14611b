-- For which tasks a task waits, which tasks are final and which undeferred, and what the laws of them refuse. All is computed, with none of the lemmas that prove the laws.
use Rattle.std.proofs.Common.{◌≡◌, true, false, List, [], ◌∷◌, ◌++◌, refl, rules, inl, inr}
use Rattle.std.specs.Prelude.{◌==◌, ◌≢◌, map}
use Rattle.std.proofs.lemmas.Bool.{cases_Bool}
use Rattle.gomp_events.proofs.TaskEvents.{open_is_not_done}
use Rattle.gomp_types.specs.declared.depend.DepKind.{DepKind}
use Rattle.gomp_types.specs.declared.depend.DepKind.TheVariants.{DepIn, DepOut, DepInout, DepInoutset, DepMutex}
use Rattle.gomp_types.specs.declared.task.Task.TheVariants.{Implicit, Explicit}
use Rattle.gomp_events.specs.declared.event.Arrival.TheVariants.{Barrier}
use Rattle.gomp_events.specs.declared.event.Event.{Event}
use Rattle.gomp_events.specs.declared.event.Event.TheVariants.{Create, Start, Done, Waited, Arrive}
use Rattle.gomp_events.specs.EventLists.{at}
use Rattle.gomp_events.specs.Tasks.{is_created_by, newest_child, is_final, becomes_undeferred, is_undeferred}
use Rattle.gomp_types.specs.DependItems.{kind_waits, item_waits, items_wait, kind_number, same_item, same_items}
use Rattle.gomp_events.specs.Depends.{task_items, child_waits, waits_for, is_free, taskwait_waits}
use Rattle.gomp_events.specs.Goals.{is_unstarted, is_ready, may_start, is_own, is_startable, some_startable, taskwait_met}
use Rattle.gomp_events.specs.TaskRules.{TaskRule}
use Rattle.gomp_events.specs.TaskLaws.{StartsAfterNamed, StartsItsOwn, WaitsForTasks}
use Rattle.gomp_events.specs.TaskExamples.{after, Allows, Forbids, TaskLaw, StartedOnce, AfterNamed, OwnAlone, Waits, law_of, RefusedAlone, item, with_items, one_job, other_job, at_once, last_of_all}
use Rattle.gomp_types.proofs.Booleans.{is_equal}
use Rattle.gomp_events.proofs.TaskLawExamples.{starts_without_items}

-- Items

abbrev all_kinds : List DepKind
all_kinds = DepIn ∷ DepOut ∷ DepInout ∷ DepInoutset ∷ DepMutex ∷ []

-- each kind with each earlier one
pub kinds_that_wait :
    (map (kind_waits DepIn) all_kinds ≡ false ∷ true ∷ true ∷ true ∷ true ∷ []) × (map (kind_waits DepOut) all_kinds ≡ true ∷ true ∷ true ∷ true ∷ true ∷ [])
    × (map (kind_waits DepInout) all_kinds ≡ true ∷ true ∷ true ∷ true ∷ true ∷ []) × (map (kind_waits DepInoutset) all_kinds ≡ true ∷ true ∷ true ∷ false ∷ true ∷ [])
    × (map (kind_waits DepMutex) all_kinds ≡ true ∷ true ∷ true ∷ true ∷ true ∷ [])
kinds_that_wait = (refl, refl, refl, refl, refl)

-- on the same address, and on another
pub items_that_wait :
    (item_waits (item DepIn 9) (item DepOut 9) ≡ true) × (item_waits (item DepIn 9) (item DepOut 8) ≡ false) × (item_waits (item DepIn 9) (item DepIn 9) ≡ false)
    × (item_waits (item DepOut 9) (item DepIn 9) ≡ true)
items_that_wait = (refl, refl, refl, refl)

-- the last of each clause, an item twice, none of them, and no items
pub clauses_that_wait :
    (items_wait (item DepIn 7 ∷ item DepIn 9 ∷ []) (item DepIn 7 ∷ item DepOut 9 ∷ []) ≡ true) × (items_wait (item DepIn 9 ∷ item DepIn 9 ∷ []) (item DepOut 9 ∷ []) ≡ true)
    × (items_wait (item DepOut 7 ∷ item DepIn 9 ∷ []) (item DepOut 8 ∷ item DepIn 9 ∷ []) ≡ false) × (items_wait [] (item DepOut 9 ∷ []) ≡ false)
    × (items_wait (item DepOut 9 ∷ []) [] ≡ false)
clauses_that_wait = (refl, refl, refl, refl, refl)

-- items are the same if their kinds and addresses are, and clauses if their items are, in order
pub same_clauses :
    (map kind_number all_kinds ≡ 0 ∷ 1 ∷ 2 ∷ 3 ∷ 4 ∷ []) × (same_item (item DepIn 9) (item DepIn 9) ≡ true) × (same_item (item DepIn 9) (item DepIn 8) ≡ false)
    × (same_item (item DepIn 9) (item DepOut 9) ≡ false) × (same_items (item DepIn 9 ∷ item DepOut 8 ∷ []) (item DepIn 9 ∷ item DepOut 8 ∷ []) ≡ true)
    × (same_items (item DepOut 8 ∷ item DepIn 9 ∷ []) (item DepIn 9 ∷ item DepOut 8 ∷ []) ≡ false) × (same_items (item DepIn 9 ∷ []) [] ≡ false)
same_clauses = (refl, refl, refl, refl, refl, refl, refl)

-- Tasks

-- a task of one item, and after it one of another on the same address
abbrev pair : DepKind → DepKind → List Event
pair new old = Create 1 0 (Implicit 0) (with_items (item old 9 ∷ [])) ∷ Create 2 0 (Implicit 0) (with_items (item new 9 ∷ [])) ∷ []

-- the second waits for the first by their kinds, each with each
pub pairs_that_wait :
    (map (λ old. waits_for 2 1 (after (pair DepIn old))) all_kinds ≡ false ∷ true ∷ true ∷ true ∷ true ∷ [])
    × (map (λ old. waits_for 2 1 (after (pair DepOut old))) all_kinds ≡ true ∷ true ∷ true ∷ true ∷ true ∷ [])
    × (map (λ old. waits_for 2 1 (after (pair DepInout old))) all_kinds ≡ true ∷ true ∷ true ∷ true ∷ true ∷ [])
    × (map (λ old. waits_for 2 1 (after (pair DepInoutset old))) all_kinds ≡ true ∷ true ∷ true ∷ false ∷ true ∷ [])
    × (map (λ old. waits_for 2 1 (after (pair DepMutex old))) all_kinds ≡ true ∷ true ∷ true ∷ true ∷ true ∷ [])
pairs_that_wait = (refl, refl, refl, refl, refl)

-- the first never for the second, nor a task for itself
pub earlier_tasks_alone : (waits_for 1 2 (after (pair DepOut DepOut)) ≡ false) × (waits_for 2 2 (after (pair DepOut DepOut)) ≡ false) × (waits_for 3 1 (after (pair DepOut DepOut)) ≡ false)
earlier_tasks_alone = (refl, refl, refl)

-- a writer, two readers, a writer, and a task without items
abbrev readers : List Event
readers =
    Create 1 0 (Implicit 0) (with_items (item DepOut 9 ∷ [])) ∷ Create 2 0 (Implicit 0) (with_items (item DepIn 9 ∷ item DepIn 9 ∷ []))
    ∷ Create 3 0 (Implicit 0) (with_items (item DepOut 8 ∷ item DepIn 9 ∷ [])) ∷ Create 4 0 (Implicit 0) (with_items (item DepInout 9 ∷ [])) ∷ Create 5 0 (Implicit 0) one_job ∷ []

-- what each was created with
pub items_of_tasks : map (λ t. task_items t (after readers)) (0 ∷ 1 ∷ 3 ∷ 5 ∷ 6 ∷ []) ≡ [] ∷ (item DepOut 9 ∷ []) ∷ (item DepOut 8 ∷ item DepIn 9 ∷ []) ∷ [] ∷ [] ∷ []
items_of_tasks = refl

-- for which each waits: a reader for the writer before, not for a reader; the second writer for all before, not for the last writer alone
pub tasks_waited_for :
    (map (λ q. waits_for 2 q (after readers)) (1 ∷ 2 ∷ 3 ∷ 4 ∷ []) ≡ true ∷ false ∷ false ∷ false ∷ []) × (map (λ q. waits_for 3 q (after readers)) (1 ∷ 2 ∷ 3 ∷ 4 ∷ []) ≡ true ∷ false ∷ false ∷ false ∷ [])
    × (map (λ q. waits_for 4 q (after readers)) (1 ∷ 2 ∷ 3 ∷ 4 ∷ []) ≡ true ∷ true ∷ true ∷ false ∷ []) × (map (λ q. waits_for 5 q (after readers)) (1 ∷ 2 ∷ 3 ∷ 4 ∷ []) ≡ false ∷ false ∷ false ∷ false ∷ [])
tasks_waited_for = (refl, refl, refl, refl)

-- of another parent none, whoever created it
pub parents_apart :
    (waits_for 2 1 (after (Create 1 0 (Implicit 0) (with_items (item DepOut 9 ∷ [])) ∷ Create 2 1 (Implicit 1) (with_items (item DepIn 9 ∷ [])) ∷ [])) ≡ false)
    × (waits_for 2 1 (after (Create 1 0 (Implicit 0) (with_items (item DepOut 9 ∷ [])) ∷ Start 1 0 ∷ Create 2 0 (Explicit 1) (with_items (item DepIn 9 ∷ [])) ∷ [])) ≡ false)
parents_apart = (refl, refl)

-- a new child, by its items
pub children_that_wait :
    (map (λ t. child_waits (Implicit 0) (item DepIn 8 ∷ []) t (after readers)) (1 ∷ 2 ∷ 3 ∷ 4 ∷ 5 ∷ 6 ∷ []) ≡ false ∷ false ∷ true ∷ false ∷ false ∷ false ∷ [])
    × (map (λ t. child_waits (Implicit 0) [] t (after readers)) (1 ∷ 2 ∷ 3 ∷ []) ≡ false ∷ false ∷ false ∷ [])
    × (map (λ t. child_waits (Implicit 1) (item DepOut 9 ∷ []) t (after readers)) (1 ∷ 2 ∷ 3 ∷ []) ≡ false ∷ false ∷ false ∷ [])
children_that_wait = (refl, refl, refl)

-- a taskwait with items as a new child, without items for all children
pub taskwaits_wait :
    (map (λ t. taskwait_waits (Implicit 0) (item DepIn 8 ∷ []) t (after readers)) (1 ∷ 2 ∷ 3 ∷ 5 ∷ 6 ∷ []) ≡ false ∷ false ∷ true ∷ false ∷ false ∷ [])
    × (map (λ t. taskwait_waits (Implicit 0) [] t (after readers)) (1 ∷ 2 ∷ 3 ∷ 5 ∷ 6 ∷ []) ≡ true ∷ true ∷ true ∷ true ∷ false ∷ [])
    × (map (λ t. taskwait_waits (Implicit 1) [] t (after readers)) (1 ∷ 2 ∷ []) ≡ false ∷ false ∷ [])
taskwaits_wait = (refl, refl, refl)

pub taskwaits_that_are_met :
    (taskwait_met (Implicit 0) (item DepIn 8 ∷ []) (after readers) ≡ false) × (taskwait_met (Implicit 0) (item DepIn 8 ∷ []) (after (readers ++ Done 3 0 ∷ [])) ≡ true)
    × (taskwait_met (Implicit 0) [] (after (readers ++ Done 3 0 ∷ [])) ≡ false) × (taskwait_met (Implicit 1) [] (after readers) ≡ true)
taskwaits_that_are_met = (refl, refl, refl, refl)

-- once those for which it waits are complete a task is free, and ready, not before
pub tasks_that_are_free :
    (map (λ t. is_free t (after readers)) (1 ∷ 2 ∷ 3 ∷ 4 ∷ 5 ∷ []) ≡ true ∷ false ∷ false ∷ false ∷ true ∷ [])
    × (map (λ t. is_free t (after (readers ++ Done 1 0 ∷ []))) (1 ∷ 2 ∷ 3 ∷ 4 ∷ []) ≡ true ∷ true ∷ true ∷ false ∷ [])
    × (map (λ t. is_free t (after (readers ++ Done 1 0 ∷ Done 2 0 ∷ []))) (3 ∷ 4 ∷ []) ≡ true ∷ false ∷ [])
    × (is_free 4 (after (readers ++ Done 1 0 ∷ Done 2 0 ∷ Done 3 0 ∷ [])) ≡ true)
tasks_that_are_free = (refl, refl, refl, refl)

pub tasks_with_items_that_are_ready :
    (map (λ t. is_unstarted t (after (readers ++ Start 1 0 ∷ []))) (0 ∷ 1 ∷ 2 ∷ 5 ∷ 6 ∷ []) ≡ false ∷ false ∷ true ∷ true ∷ false ∷ [])
    × (map (λ t. is_ready t (after (readers ++ Start 1 0 ∷ []))) (0 ∷ 1 ∷ 2 ∷ 5 ∷ 6 ∷ []) ≡ false ∷ false ∷ false ∷ true ∷ false ∷ [])
    × (map (λ t. is_ready t (after (readers ++ Start 1 0 ∷ Done 1 0 ∷ []))) (1 ∷ 2 ∷ 4 ∷ []) ≡ false ∷ true ∷ false ∷ [])
    × (may_start 0 2 (after (readers ++ Start 1 0 ∷ [])) ≡ false) × (may_start 0 2 (after (readers ++ Start 1 0 ∷ Done 1 0 ∷ [])) ≡ true)
tasks_with_items_that_are_ready = (refl, refl, refl, refl, refl)

-- Final and undeferred tasks

-- an undeferred task with a child; a final task with a child, and a child of that
abbrev finals : List Event
finals =
    Create 1 0 (Implicit 0) at_once ∷ Start 1 0 ∷ Create 2 0 (Explicit 1) one_job ∷ Done 1 0 ∷ Create 3 0 (Implicit 0) last_of_all ∷ Start 3 0
    ∷ Create 4 0 (Explicit 3) one_job ∷ Start 4 0 ∷ Create 5 0 (Explicit 4) other_job ∷ Create 6 1 (Implicit 1) one_job ∷ []

-- a final task's descendants are final; an undeferred task's child is not
pub tasks_that_are_final : map (λ t. is_final t (after finals)) (0 ∷ 1 ∷ 2 ∷ 3 ∷ 4 ∷ 5 ∷ 6 ∷ 7 ∷ []) ≡ false ∷ false ∷ false ∷ true ∷ true ∷ true ∷ false ∷ false ∷ []
tasks_that_are_final = refl

-- the descendants of a final task are undeferred, the final task itself is not
pub tasks_that_are_undeferred : map (λ t. is_undeferred t (after finals)) (0 ∷ 1 ∷ 2 ∷ 3 ∷ 4 ∷ 5 ∷ 6 ∷ 7 ∷ []) ≡ false ∷ true ∷ false ∷ false ∷ true ∷ true ∷ false ∷ false ∷ []
tasks_that_are_undeferred = refl

-- and so is a new task by its `if` clause, or in a final task
pub tasks_that_would_be_undeferred :
    (becomes_undeferred at_once (Implicit 0) (after finals) ≡ true) × (becomes_undeferred one_job (Implicit 0) (after finals) ≡ false) × (becomes_undeferred last_of_all (Implicit 0) (after finals) ≡ false)
    × (becomes_undeferred one_job (Explicit 3) (after finals) ≡ true) × (becomes_undeferred one_job (Explicit 1) (after finals) ≡ false) × (becomes_undeferred one_job (Explicit 5) (after finals) ≡ true)
tasks_that_would_be_undeferred = (refl, refl, refl, refl, refl, refl)

-- who created a task, and in which
pub creators_of_tasks :
    (is_created_by 0 (Explicit 1) 2 (after finals) ≡ true) × (is_created_by 1 (Explicit 1) 2 (after finals) ≡ false) × (is_created_by 0 (Implicit 0) 2 (after finals) ≡ false)
    × (is_created_by 0 (Explicit 1) 1 (after finals) ≡ false) × (is_created_by 0 (Implicit 0) 7 (after finals) ≡ false)
creators_of_tasks = (refl, refl, refl, refl, refl)

-- the last child of each
pub newest_children : map (λ p. newest_child p (after finals)) (Implicit 0 ∷ Implicit 1 ∷ Explicit 1 ∷ Explicit 4 ∷ Explicit 5 ∷ []) ≡ 3 ∷ 6 ∷ 2 ∷ 5 ∷ 0 ∷ []
newest_children = refl

-- a member's own tasks are those that it created in the one that it executes
pub own_tasks : (map (λ t. is_own 0 t (after finals)) (1 ∷ 3 ∷ 4 ∷ 5 ∷ 6 ∷ []) ≡ false ∷ false ∷ false ∷ true ∷ false ∷ []) × (map (λ t. is_own 1 t (after finals)) (5 ∷ 6 ∷ []) ≡ false ∷ true ∷ [])
own_tasks = (refl, refl)

-- no wait but that of its creation starts an undeferred task
pub tasks_started_at_waits :
    (may_start 0 5 (after finals) ≡ true) × (is_startable 0 5 (after finals) ≡ false) × (some_startable 0 (after finals) ≡ false) × (is_startable 1 6 (after finals) ≡ true)
    × (some_startable 1 (after finals) ≡ true) × (some_startable 1 (after (Create 1 0 (Implicit 0) at_once ∷ Arrive 0 1 (at Barrier 0) ∷ [])) ≡ false)
tasks_started_at_waits = (refl, refl, refl, refl, refl, refl)

-- Started after those that its items name

-- a member starts a reader, and the writer is open
pub start_before_writer : Forbids StartsAfterNamed (pair DepIn DepOut) (Start 2 0)
start_before_writer law = open_is_not_done 1 (after (pair DepIn DepOut)) refl (law 1 refl)

-- or runs
pub start_beside_writer : Forbids StartsAfterNamed (pair DepIn DepOut ++ Start 1 1 ∷ []) (Start 2 0)
start_beside_writer law = open_is_not_done 1 (after (pair DepIn DepOut ++ Start 1 1 ∷ [])) refl (law 1 refl)

-- a writer, and a reader is open while the last writer is done
pub start_before_reader : Forbids StartsAfterNamed (Create 1 0 (Implicit 0) (with_items (item DepIn 9 ∷ [])) ∷ Create 2 0 (Implicit 0) (with_items (item DepOut 9 ∷ [])) ∷ Create 3 0 (Implicit 0) (with_items (item DepInout 9 ∷ [])) ∷ Done 2 0 ∷ []) (Start 3 0)
start_before_reader law = open_is_not_done 1 (after (Create 1 0 (Implicit 0) (with_items (item DepIn 9 ∷ [])) ∷ Create 2 0 (Implicit 0) (with_items (item DepOut 9 ∷ [])) ∷ Create 3 0 (Implicit 0) (with_items (item DepInout 9 ∷ [])) ∷ Done 2 0 ∷ [])) refl (law 1 refl)

-- a reader beside a reader
pub start_beside_reader : Allows StartsAfterNamed (pair DepIn DepIn) (Start 2 0)
start_beside_reader q waits = elim (cases_Bool (1 == q)) [ inl same ↦ absurd (let is = rw same at waits in cc) | inr other ↦ absurd (let is = rw other at waits in cc) ]

-- or after the writer is done
pub start_after_writer : Allows StartsAfterNamed (pair DepIn DepOut ++ Start 1 1 ∷ Done 1 1 ∷ []) (Start 2 0)
start_after_writer q waits = elim (cases_Bool (1 == q)) [ inl same ↦ (1, inl (inl (let here = is_equal 1 q same in rw here refl))) | inr other ↦ absurd (let is = rw other at waits in cc) ]

-- the writer first
pub start_writer_first : Allows StartsAfterNamed (pair DepIn DepOut) (Start 1 0)
start_writer_first = search rules

-- this law alone
abbrev started_before_writer : List Event
started_before_writer = pair DepIn DepOut ++ Start 2 0 ∷ []

pub after_named_alone : RefusedAlone AfterNamed started_before_writer
after_named_alone = ((λ laws. start_before_writer laws.0), others)
  where
    others : (other : TaskLaw) → other ≢ AfterNamed → law_of other (after started_before_writer)
    others AfterNamed differ = absurd (differ refl)
    others StartedOnce differ = (((0, Implicit 0, with_items (item DepIn 9 ∷ []), inl refl), search rules, search rules), (tt, (tt, tt)))
    others _ differ = search rules

-- Undeferred tasks

-- another member starts an undeferred task, at a barrier
pub start_undeferred_of_another : Forbids StartsItsOwn (Create 1 0 (Implicit 0) at_once ∷ Arrive 0 1 (at Barrier 0) ∷ []) (Start 1 1)
start_undeferred_of_another law = elim (law refl).1 [ inl e ↦ absurd (cc) | inr (inl e) ↦ absurd (cc) | inr (inr never) ↦ never ]

-- its creator in another task than the one in which it created it
pub start_undeferred_elsewhere : Forbids StartsItsOwn (Create 1 0 (Implicit 0) at_once ∷ Create 2 0 (Implicit 0) one_job ∷ Start 2 0 ∷ []) (Start 1 0)
start_undeferred_elsewhere law = elim (law refl).1 [ inl e ↦ absurd (cc) | inr (inl e) ↦ absurd (cc) | inr (inr (inl e)) ↦ absurd (cc) | inr (inr (inr never)) ↦ never ]

-- another member a child of a final task
pub start_child_of_final : Forbids StartsItsOwn (Create 1 0 (Implicit 0) last_of_all ∷ Start 1 0 ∷ Create 2 0 (Explicit 1) one_job ∷ Arrive 0 1 (at Barrier 0) ∷ []) (Start 2 1)
start_child_of_final law = elim (law refl).1 [
  | inl e ↦ absurd (cc)
  | inr (inl e) ↦ absurd (cc)
  | inr (inr (inl e)) ↦ absurd (cc)
  | inr (inr (inr (inl e))) ↦ absurd (cc)
  | inr (inr (inr (inr never))) ↦ never
]

-- its creator starts it
pub start_own_undeferred : Allows StartsItsOwn (Create 1 0 (Implicit 0) at_once ∷ []) (Start 1 0)
start_own_undeferred undeferred = (at_once, inl refl)

-- another member starts a final task
pub start_final_of_another : Allows StartsItsOwn (Create 1 0 (Implicit 0) last_of_all ∷ Arrive 0 1 (at Barrier 0) ∷ []) (Start 1 1)
start_final_of_another = search rules

-- this law alone
abbrev undeferred_given_away : List Event
undeferred_given_away = Create 1 0 (Implicit 0) at_once ∷ Arrive 0 1 (at Barrier 0) ∷ Start 1 1 ∷ []

pub own_alone : RefusedAlone OwnAlone undeferred_given_away
own_alone = ((λ laws. start_undeferred_of_another laws.0), others)
  where
    others : (other : TaskLaw) → other ≢ OwnAlone → law_of other (after undeferred_given_away)
    others OwnAlone differ = absurd (differ refl)
    others AfterNamed differ = starts_without_items (after undeferred_given_away) (search rules)
    others StartedOnce differ = (((0, Implicit 0, at_once, inr (inl refl)), search rules, search rules), (tt, (tt, tt)))
    others _ differ = search rules

-- Taskwait with items

-- a task has waited for the writer of an address, which is open
pub wait_for_writer : Forbids WaitsForTasks (Create 1 0 (Implicit 0) (with_items (item DepOut 9 ∷ [])) ∷ []) (Waited 0 (item DepIn 9 ∷ []))
wait_for_writer law = open_is_not_done 1 (after (Create 1 0 (Implicit 0) (with_items (item DepOut 9 ∷ [])) ∷ [])) refl (law 1 refl)

-- or of another address
pub wait_for_another : Allows WaitsForTasks (Create 1 0 (Implicit 0) (with_items (item DepOut 9 ∷ [])) ∷ []) (Waited 0 (item DepIn 8 ∷ []))
wait_for_another t waits = elim (cases_Bool (1 == t)) [ inl same ↦ absurd (let is = rw same at waits in cc) | inr other ↦ absurd (let is = rw other at waits in cc) ]

-- this law alone
abbrev waited_for_open_writer : List Event
waited_for_open_writer = Create 1 0 (Implicit 0) (with_items (item DepOut 9 ∷ [])) ∷ Waited 0 (item DepIn 9 ∷ []) ∷ []

pub wait_with_items_alone : RefusedAlone Waits waited_for_open_writer
wait_with_items_alone = ((λ laws. wait_for_writer laws.0), others)
  where
    others : (other : TaskLaw) → other ≢ Waits → law_of other (after waited_for_open_writer)
    others Waits differ = absurd (differ refl)
    others _ differ = search rules

-- The rule

-- a member starts a reader before the writer
pub rule_start_before_writer : Forbids (TaskRule 1) (pair DepIn DepOut) (Start 2 0)
rule_start_before_writer may = absurd (let ready = may.may in cc)

-- once it is done
pub rule_start_after_writer : Allows (TaskRule 1) (pair DepIn DepOut ++ Start 1 0 ∷ Done 1 0 ∷ []) (Start 2 0)
rule_start_after_writer = search rules

-- an undeferred task of another
pub rule_start_undeferred_of_another : Forbids (TaskRule 2) (Create 1 0 (Implicit 0) at_once ∷ Arrive 0 1 (at Barrier 0) ∷ []) (Start 1 1)
rule_start_undeferred_of_another may = absurd (let own = may.own refl in cc)

-- its own
pub rule_start_own_undeferred : Allows (TaskRule 1) (Create 1 0 (Implicit 0) at_once ∷ []) (Start 1 0)
rule_start_own_undeferred = search rules

-- a task has waited for an open writer
pub rule_wait_for_writer : Forbids (TaskRule 1) (Create 1 0 (Implicit 0) (with_items (item DepOut 9 ∷ [])) ∷ []) (Waited 0 (item DepIn 9 ∷ []))
rule_wait_for_writer may = absurd (let complete = may.complete in cc)

-- of another address
pub rule_wait_for_another : Allows (TaskRule 1) (Create 1 0 (Implicit 0) (with_items (item DepOut 9 ∷ [])) ∷ []) (Waited 0 (item DepIn 8 ∷ []))
rule_wait_for_another = search rules
