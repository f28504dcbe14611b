-- The lines of lists of events, and which of their tasks are free. All is computed.
use Rattle.std.proofs.Common.{◌≡◌, true, false, [], ◌∷◌, Some, None, refl}
use Rattle.std.specs.Prelude.{map}
use Rattle.gomp_types.specs.declared.task.Task.TheVariants.{Implicit, Explicit}
use Rattle.gomp_types.specs.declared.depend.DepKind.TheVariants.{DepIn, DepOut, DepInout, DepInoutset, DepMutex}
use Rattle.gomp_events.specs.Depends.{is_free}
use Rattle.gomp_lines.specs.declared.classes.Class.TheVariants.{Readers, Set, Alone}
use Rattle.gomp_lines.specs.Classes.{shares, class_at, waits_in_line}
use Rattle.gomp_lines.specs.Lines.{line_of, waits_in, is_free_in, is_free_at_each, may_join, child_is_free}
use Rattle.gomp_lines.specs.Queues.{queued, is_held_back, from_first_open, queue_room}
use Rattle.gomp_lines.specs.Examples.{item, entry, waits, all_kinds, grandchild, writer_discarded, readers_done}

-- Classes

-- readers share an address, and so do tasks of a set; no others do
pub classes_that_share : (map (shares Readers) (Readers ∷ Set ∷ Alone ∷ []) ≡ true ∷ false ∷ false ∷ []) × (map (shares Set) (Readers ∷ Set ∷ Alone ∷ []) ≡ false ∷ true ∷ false ∷ []) × (map (shares Alone) (Readers ∷ Set ∷ Alone ∷ []) ≡ false ∷ false ∷ false ∷ [])
classes_that_share = (refl, refl, refl)

-- a clause that names an address twice
pub classes_of_clauses :
    (class_at 9 (item DepIn 9 ∷ item DepIn 9 ∷ []) ≡ Some Readers) × (class_at 9 (item DepInoutset 9 ∷ item DepInoutset 9 ∷ []) ≡ Some Set) × (class_at 9 (item DepIn 9 ∷ item DepInoutset 9 ∷ []) ≡ Some Alone)
    × (class_at 9 (item DepInoutset 9 ∷ item DepIn 8 ∷ item DepIn 9 ∷ []) ≡ Some Alone) × (class_at 9 (item DepOut 9 ∷ item DepIn 9 ∷ []) ≡ Some Alone) × (class_at 9 (item DepMutex 9 ∷ item DepMutex 9 ∷ []) ≡ Some Alone)
    × (class_at 9 (item DepInout 8 ∷ item DepIn 9 ∷ []) ≡ Some Readers) × (class_at 9 (item DepIn 8 ∷ []) ≡ None) × (class_at 9 [] ≡ None)
classes_of_clauses = (refl, refl, refl, refl, refl, refl, refl, refl, refl)

-- at both ends of an address
pub classes_at_large_addresses :
    map (λ a. class_at a (item DepIn 18446744073709551615 ∷ item DepOut 0 ∷ [])) (18446744073709551615 ∷ 18446744073709551614 ∷ 4294967295 ∷ 4294967296 ∷ 0 ∷ []) ≡ Some Readers ∷ None ∷ None ∷ None ∷ Some Alone ∷ []
classes_at_large_addresses = refl

pub waits_at_an_address : (waits_in_line (Some Readers) (Some Readers) ≡ false) × (waits_in_line (Some Readers) (Some Set) ≡ true) × (waits_in_line (Some Alone) (Some Alone) ≡ true) × (waits_in_line None (Some Alone) ≡ false) × (waits_in_line (Some Alone) None ≡ false)
waits_at_an_address = (refl, refl, refl, refl, refl)

-- Lines

pub line_of_all_kinds :
    line_of (Implicit 0) 9 all_kinds
    ≡ entry 11 Alone ∷ entry 10 Alone ∷ entry 9 Alone ∷ entry 8 Set ∷ entry 7 Set ∷ entry 6 Alone ∷ entry 5 Readers ∷ entry 4 Alone ∷ entry 2 Readers ∷ entry 1 Readers ∷ []
line_of_all_kinds = refl

-- another address and another parent have lines of their own
pub other_lines : (line_of (Implicit 0) 8 all_kinds ≡ entry 11 Alone ∷ []) × (line_of (Explicit 1) 9 grandchild ≡ entry 12 Readers ∷ []) × (line_of (Implicit 0) 9 grandchild ≡ line_of (Implicit 0) 9 all_kinds) × (line_of (Implicit 1) 9 grandchild ≡ [])
other_lines = (refl, refl, refl, refl)

-- a task that is discarded in the middle leaves, and the reader behind it is free
pub lines_without_a_writer :
    (line_of (Implicit 0) 9 writer_discarded ≡ entry 11 Alone ∷ entry 10 Alone ∷ entry 9 Alone ∷ entry 8 Set ∷ entry 7 Set ∷ entry 6 Alone ∷ entry 5 Readers ∷ entry 2 Readers ∷ entry 1 Readers ∷ [])
    × (map (λ t. is_free_in t (line_of (Implicit 0) 9 writer_discarded)) (1 ∷ 2 ∷ 5 ∷ 6 ∷ 7 ∷ []) ≡ true ∷ true ∷ true ∷ false ∷ false ∷ [])
lines_without_a_writer = (refl, refl)

-- which tasks are free, by the lines and by the definition
pub free_of_all_kinds :
    (map (λ t. is_free_at_each t grandchild) (1 ∷ 2 ∷ 3 ∷ 4 ∷ 5 ∷ 6 ∷ 7 ∷ 8 ∷ 9 ∷ 10 ∷ 11 ∷ 12 ∷ []) ≡ true ∷ true ∷ true ∷ false ∷ false ∷ false ∷ false ∷ false ∷ false ∷ false ∷ false ∷ true ∷ [])
    × (map (λ t. is_free t grandchild) (1 ∷ 2 ∷ 3 ∷ 4 ∷ 5 ∷ 6 ∷ 7 ∷ 8 ∷ 9 ∷ 10 ∷ 11 ∷ 12 ∷ []) ≡ map (λ t. is_free_at_each t grandchild) (1 ∷ 2 ∷ 3 ∷ 4 ∷ 5 ∷ 6 ∷ 7 ∷ 8 ∷ 9 ∷ 10 ∷ 11 ∷ 12 ∷ []))
    × (map (λ t. is_free_at_each t writer_discarded) (5 ∷ 6 ∷ []) ≡ true ∷ false ∷ []) × (map (λ t. is_free t writer_discarded) (5 ∷ 6 ∷ []) ≡ true ∷ false ∷ [])
    × (map (λ t. is_free_at_each t readers_done) (4 ∷ 5 ∷ []) ≡ true ∷ false ∷ []) × (map (λ t. is_free t readers_done) (4 ∷ 5 ∷ []) ≡ true ∷ false ∷ [])
free_of_all_kinds = (refl, refl, refl, refl, refl, refl)

-- one task of a set does not wait for another, and each waits for the tasks before them
pub waits_of_a_set : map (λ q. waits_in 8 q (line_of (Implicit 0) 9 all_kinds)) (7 ∷ 6 ∷ 5 ∷ 4 ∷ 2 ∷ 1 ∷ 3 ∷ 9 ∷ []) ≡ false ∷ true ∷ true ∷ true ∷ true ∷ true ∷ false ∷ false ∷ []
waits_of_a_set = refl

-- what a taskwait with items asks
pub children_that_are_free :
    (child_is_free (Implicit 0) (item DepIn 9 ∷ []) all_kinds ≡ false) × (child_is_free (Implicit 0) (item DepIn 7 ∷ []) all_kinds ≡ true) × (child_is_free (Explicit 1) (item DepIn 9 ∷ []) grandchild ≡ true)
    × (child_is_free (Explicit 1) (item DepIn 9 ∷ item DepInoutset 9 ∷ []) grandchild ≡ false) × (may_join None (line_of (Implicit 0) 9 all_kinds) ≡ true)
children_that_are_free = (refl, refl, refl, refl, refl)

-- Queues

-- those that wait join in their order, those that are complete left out
pub queue_of_a_line : (queued (waits 4 Alone ∷ record (waits 5 Readers) { is_open = false } ∷ waits 6 Alone ∷ []) (entry 2 Readers ∷ entry 1 Readers ∷ []) ≡ entry 6 Alone ∷ entry 4 Alone ∷ entry 2 Readers ∷ entry 1 Readers ∷ [])
    × (map (λ t. is_held_back t (waits 4 Alone ∷ record (waits 5 Readers) { is_open = false } ∷ [])) (4 ∷ 5 ∷ 1 ∷ []) ≡ true ∷ false ∷ false ∷ [])
    × (from_first_open (record (waits 4 Alone) { is_open = false } ∷ waits 5 Readers ∷ record (waits 6 Alone) { is_open = false } ∷ []) ≡ waits 5 Readers ∷ record (waits 6 Alone) { is_open = false } ∷ [])
queue_of_a_line = (refl, refl, refl)

pub rooms_of_lines : (queue_room true 9 0 ≡ 0) × (queue_room false 9 2 ≡ 2) × (queue_room false 0 0 ≡ 4) × (queue_room false 9 0 ≡ 10)
rooms_of_lines = (refl, refl, refl, refl)
