-- What the events say of rows, and what tables say of addresses. All is computed.
use Rattle.std.proofs.Common.{◌≡◌, ℕ, Bool, true, false, List, [], ◌∷◌, refl}
use Rattle.std.specs.Prelude.{◌==◌, ◌&&◌, not, map}
use Rattle.gomp_types.specs.declared.cancel.CancelKind.TheVariants.{Parallel}
use Rattle.gomp_types.specs.declared.cancel.Scope.TheVariants.{Region}
use Rattle.gomp_types.specs.declared.task.Task.TheVariants.{Implicit, Explicit}
use Rattle.gomp_types.specs.declared.depend.DepKind.TheVariants.{DepIn, DepOut, DepInout}
use Rattle.gomp_events.specs.declared.event.Event.{Event}
use Rattle.gomp_events.specs.declared.event.Event.TheVariants.{Create, Start, Done, Waited, Cancel, Discard, See}
use Rattle.gomp_lines.specs.Lines.{line_of}
use Rattle.gomp_lines.specs.Examples.{item, entry, with_items, all_kinds, grandchild, writer_discarded, readers_done}
use Rattle.gomp_lines.specs.declared.classes.Class.TheVariants.{Readers}
use Rattle.gomp_depend.specs.Calls.{IsNoDependEvent}
use Rattle.gomp_depend.specs.FreeLists.{are_different}
use Rattle.gomp_depend.specs.Tables.{is_key}
use Rattle.gomp_depend.specs.Books.{names, addresses_where, left_at, left_by}
use Rattle.gomp_depend.specs.Rows.{is_free_row, is_waiting_row, no_row}
use Rattle.gomp_depend.specs.Stands.{open_items, open_parent, is_free_with_items}

-- Addresses

pub addresses_of_clauses : (names 9 (item DepIn 8 ∷ item DepOut 9 ∷ []) ≡ true) × (names 7 (item DepIn 8 ∷ item DepOut 9 ∷ []) ≡ false) × (names 0 [] ≡ false) × (map (λ a. names a (item DepIn 18446744073709551615 ∷ [])) (18446744073709551615 ∷ 18446744073709551614 ∷ 4294967295 ∷ []) ≡ true ∷ false ∷ false ∷ [])
addresses_of_clauses = (refl, refl, refl, refl)

-- each address of a clause is counted once
pub counts_of_addresses :
    (addresses_where (λ a. true) (item DepIn 9 ∷ item DepOut 8 ∷ item DepInout 9 ∷ []) ≡ 2) × (addresses_where (λ a. a == 9) (item DepIn 9 ∷ item DepOut 8 ∷ item DepInout 9 ∷ []) ≡ 1) × (addresses_where (λ a. false) (item DepIn 9 ∷ []) ≡ 0) × (addresses_where (λ a. true) [] ≡ 0)
counts_of_addresses = (refl, refl, refl, refl)

-- Keys

-- a member and a task with its number have lines of their own
pub keys_of_lines : map (λ p. is_key (Implicit 1) 9 p 9) (Implicit 1 ∷ Explicit 1 ∷ Implicit 2 ∷ []) ≡ true ∷ false ∷ false ∷ []
keys_of_lines = refl

pub keys_of_addresses : map (is_key (Explicit 7) 9 (Explicit 7)) (9 ∷ 10 ∷ 4294967305 ∷ []) ≡ true ∷ false ∷ false ∷ []
keys_of_addresses = refl

-- Rows

-- a task has its items until it is complete
pub items_of_open_tasks :
    (open_items grandchild 2 ≡ item DepIn 9 ∷ item DepIn 9 ∷ []) × (open_items grandchild 3 ≡ []) × (open_items grandchild 99 ≡ []) × (open_items readers_done 2 ≡ []) × (open_items writer_discarded 4 ≡ []) × (open_items writer_discarded 5 ≡ item DepIn 9 ∷ [])
items_of_open_tasks = (refl, refl, refl, refl, refl, refl)

pub parents_of_tasks : map (open_parent grandchild) (1 ∷ 12 ∷ 3 ∷ []) ≡ Implicit 0 ∷ Explicit 1 ∷ Implicit 0 ∷ []
parents_of_tasks = refl

-- which tasks are free, of those that are open and have items
pub free_tasks_of_events :
    (map (λ t. is_free_with_items t grandchild) (1 ∷ 2 ∷ 3 ∷ 4 ∷ 5 ∷ 12 ∷ 99 ∷ []) ≡ true ∷ true ∷ false ∷ false ∷ false ∷ true ∷ false ∷ [])
    × (map (λ t. is_free_with_items t writer_discarded) (4 ∷ 5 ∷ 6 ∷ []) ≡ false ∷ true ∷ false ∷ []) × (map (λ t. is_free_with_items t readers_done) (1 ∷ 2 ∷ 4 ∷ 5 ∷ []) ≡ false ∷ false ∷ true ∷ false ∷ [])
free_tasks_of_events = (refl, refl, refl)

pub rows_that_are_free : (is_free_row no_row ≡ false) × (is_free_row (record { parent = Implicit 0; named = 1; held_count = 0 }) ≡ true) × (is_free_row (record { parent = Implicit 0; named = 1; held_count = 1 }) ≡ false)
rows_that_are_free = (refl, refl, refl)

pub rows_that_wait : (is_waiting_row no_row ≡ false) × (is_waiting_row (record { parent = Implicit 0; named = 1; held_count = 0 }) ≡ false) × (is_waiting_row (record { parent = Implicit 0; named = 1; held_count = 2 }) ≡ true)
rows_that_wait = (refl, refl, refl)

-- a row without items says nothing, wherever it waits
pub rows_that_say_nothing : map (λ n. is_waiting_row (record { parent = Implicit 0; named = n; held_count = 1 })) (0 ∷ 1 ∷ 18446744073709551615 ∷ []) ≡ false ∷ true ∷ true ∷ []
rows_that_say_nothing = refl

-- lists that have a task twice, at either end
pub lists_of_different_tasks : map are_different ([] ∷ (4294967295 ∷ []) ∷ (1 ∷ 2 ∷ 3 ∷ []) ∷ (1 ∷ 2 ∷ 1 ∷ []) ∷ (3 ∷ 2 ∷ 2 ∷ []) ∷ (4294967295 ∷ 1 ∷ 4294967295 ∷ []) ∷ []) ≡ true ∷ true ∷ true ∷ false ∷ false ∷ false ∷ []
lists_of_different_tasks = refl

-- which of these tasks an event frees after these events
abbrev freed_of : Event → List Event → List ℕ → List Bool
freed_of event h tasks = map (λ t. is_free_with_items t (event ∷ h) && not (is_free_with_items t h)) tasks

-- the end of the last reader frees the writer, and not the reader before it nor those that wait for the writer; a discard frees as an end does
pub tasks_that_an_end_frees :
    (freed_of (Done 1 0) grandchild (1 ∷ 2 ∷ 3 ∷ 4 ∷ 5 ∷ []) ≡ false ∷ false ∷ false ∷ false ∷ false ∷ []) × (freed_of (Done 2 0) (Start 2 0 ∷ Done 1 0 ∷ grandchild) (1 ∷ 2 ∷ 3 ∷ 4 ∷ 5 ∷ 99 ∷ []) ≡ false ∷ false ∷ false ∷ true ∷ false ∷ false ∷ [])
    × (freed_of (Discard 4 0) (Cancel 0 Region ∷ grandchild) (1 ∷ 4 ∷ 5 ∷ 6 ∷ 12 ∷ []) ≡ false ∷ false ∷ true ∷ false ∷ false ∷ [])
tasks_that_an_end_frees = (refl, refl, refl)

-- a creation frees the new task alone, if it has items and waits for none; no other event frees any
pub tasks_that_a_creation_frees :
    (freed_of (Create 12 0 (Explicit 1) (with_items (item DepIn 9 ∷ []))) (Start 1 0 ∷ all_kinds) (1 ∷ 4 ∷ 12 ∷ 13 ∷ []) ≡ false ∷ false ∷ true ∷ false ∷ []) × (freed_of (Create 12 0 (Implicit 0) (with_items (item DepIn 9 ∷ []))) all_kinds (4 ∷ 12 ∷ []) ≡ false ∷ false ∷ [])
    × (freed_of (Create 12 0 (Implicit 0) (with_items [])) all_kinds (4 ∷ 12 ∷ []) ≡ false ∷ false ∷ []) × (freed_of (Start 1 0) all_kinds (1 ∷ 2 ∷ 4 ∷ []) ≡ false ∷ false ∷ false ∷ [])
tasks_that_a_creation_frees = (refl, refl, refl, refl)

-- Leaving

-- a task leaves the lines of its own addresses and parent alone
pub lines_that_are_left :
    (left_at 12 (Explicit 1) 9 (λ p a. line_of p a grandchild) (Explicit 1) 9 ≡ []) × (left_at 12 (Explicit 1) 8 (λ p a. line_of p a grandchild) (Explicit 1) 9 ≡ entry 12 Readers ∷ [])
    × (left_by 12 (Explicit 1) (item DepIn 8 ∷ item DepIn 9 ∷ []) (λ p a. line_of p a grandchild) (Explicit 1) 9 ≡ []) × (left_by 12 (Implicit 0) (item DepIn 9 ∷ []) (λ p a. line_of p a grandchild) (Explicit 1) 9 ≡ entry 12 Readers ∷ [])
lines_that_are_left = (refl, refl, refl, refl)

-- Calls

pub events_aside : IsNoDependEvent (Start 1 0) × IsNoDependEvent (Waited 0 []) × IsNoDependEvent (Cancel 0 Region) × IsNoDependEvent (See 0 Parallel) × (IsNoDependEvent (Done 1 0) → ⊥) × (IsNoDependEvent (Discard 1 0) → ⊥) × (IsNoDependEvent (Create 1 0 (Implicit 0) (with_items [])) → ⊥)
events_aside = (tt, tt, tt, tt, (λ never. never), (λ never. never), (λ never. never))
