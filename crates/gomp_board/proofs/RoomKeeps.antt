-- The room of a board goes on being enough: with an event, and with room that a member keeps.
use Rattle.std.proofs.Common.{◌≡◌, ℕ, ◌+◌, ◌<◌, ◌≤◌, List, [], ◌∷◌, ◌++◌, length, arith}
use Rattle.std.specs.Prelude.{reverse, sum, slice_index_or, slice_set}
use Rattle.std.proofs.lemmas.List.{length_push}
use Rattle.std.proofs.lemmas.List.Sums.{sum_by-set, get_or-le-sum_by}
use Rattle.gomp_events.specs.declared.event.Event.{Event}
use Rattle.gomp_board.specs.Owed.{owed}
use Rattle.gomp_board.proofs.StoredKeeps.{reverse_with}

-- there was memory for the event, and the room asked for is enough afterwards
pub room_with : (members room asked old_sum new_sum : ℕ) (history after : List Event) (event : Event) → after ≡ history ++ event ∷ [] →
    owed members (event ∷ reverse history) + 1 + new_sum ≤ owed members (reverse history) + asked + old_sum → length history + owed members (reverse history) + old_sum ≤ room →
    (length history < room + asked) × (length after + owed members (reverse after) + new_sum ≤ room + asked)
room_with members room asked old_sum new_sum history after event more owes enough =
    let longer : length after ≡ length history + 1 = rw more (length_push history event) in
    let within : length history + 1 + owed members (event ∷ reverse history) + new_sum ≤ room + asked = omega (arith, owes, enough) in
    (omega (arith, within), rw (reverse_with history after event more, longer) within)

-- if room was asked for it before, there is memory for the event, and the rest stays enough
pub room_within : (members room more old_sum new_sum : ℕ) (history after : List Event) (event : Event) → after ≡ history ++ event ∷ [] →
    owed members (event ∷ reverse history) + 1 + new_sum ≤ owed members (reverse history) + more + old_sum → length history + owed members (reverse history) + old_sum + more ≤ room →
    (length history < room) × (length after + owed members (reverse after) + new_sum ≤ room)
room_within members room more old_sum new_sum history after event longer owes enough =
    let size : length after ≡ length history + 1 = rw longer (length_push history event) in
    let within : length history + 1 + owed members (event ∷ reverse history) + new_sum ≤ room = omega (arith, owes, enough) in
    (omega (arith, within), rw (reverse_with history after event longer, size) within)

-- what all members keep, if one keeps otherwise
pub sum_with : (kept : List ℕ) (m n : ℕ) → m < length kept → sum (slice_set kept m n) + slice_index_or kept m 0 ≡ sum kept + n
sum_with kept m n low = sum_by-set (λ k. k) kept m n 0 low

-- a member keeps no more than all do
pub kept_within : (kept : List ℕ) (m : ℕ) → m < length kept → slice_index_or kept m 0 ≤ sum kept
kept_within kept m low = get_or-le-sum_by (λ k. k) kept m 0 low
