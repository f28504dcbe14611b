-- What a list of events says of a member, a share or a barrier: others are not counted, and what comes later counts.
use Rattle.std.proofs.Common.{◌≡◌, true, false, List, [], ◌∷◌, Some, None, refl}
use Rattle.std.specs.Prelude.{pos, negsuc, nat_lt, map}
use Rattle.gomp_types.specs.declared.shape.Shape.{Shape}
use Rattle.gomp_types.specs.declared.refusal.Place.TheVariants.{Share, Stopped as AtStop}
use Rattle.gomp_events.specs.declared.event.Arrival.TheVariants.{Barrier, ShareEnd, RegionEnd}
use Rattle.gomp_events.specs.declared.event.Event.{Event}
use Rattle.gomp_events.specs.declared.event.Event.TheVariants.{Enter, Take, Drained, End, HandOn, Part, PartEnd, Put, Got, Arrive, Pass, Hold, Free, Create, Start, Done, Group, GroupEnd, Waited, Break}
use Rattle.gomp_types.specs.declared.key.Key.TheVariants.{Lock}
use Rattle.gomp_types.specs.declared.task.Task.TheVariants.{Implicit}
use Rattle.gomp_types.specs.Singles.{single_shape}
use Rattle.gomp_types.specs.Shapes.{is_loop}
use Rattle.gomp_types.specs.Pieces.{Piece}
use Rattle.gomp_types.specs.Values.{value_at, iteration_of}
use Rattle.gomp_types.specs.Members.{every_member}
use Rattle.gomp_events.specs.Events.{member_of, shares_entered, open_share, is_inside, open_number, has_drained, last_piece, in_kind, shape_at, has_ended, is_over, has_room, times_taken, turn, holds_piece, next_part, in_part, open_part, payload_at, has_piece, has_words, barriers_passed, arrival, tag_at, all_arrived, at_barrier, at_region_end, has_left_region, clash_of}
use Rattle.gomp_types.specs.Pieces.{has_iteration}
use Rattle.gomp_events.specs.Ordered.{same_piece, has_turn, number_of_piece, last_number, is_ordered, must_wait, is_in_rest, comes_next}
use Rattle.gomp_events.specs.EventLists.{newest_first, at}
use Rattle.gomp_types.specs.ExampleShapes.{four, wider}
use Rattle.gomp_events.specs.TaskExamples.{one_job}

-- after these events, the oldest first
abbrev after : List Event → List Event
after events = newest_first events []

-- Shares

-- two members enter a loop, and one of them leaves it and enters another
abbrev entries : List Event
entries = Enter 0 0 (four false) ∷ Enter 0 1 (four false) ∷ End 0 0 ∷ Enter 1 0 wider ∷ []

-- how many shares each member has entered
pub entries_are_counted : (shares_entered 0 (after entries) ≡ 2) × (shares_entered 1 (after entries) ≡ 1) × (shares_entered 2 (after entries) ≡ 0)
entries_are_counted = (refl, refl, refl)

-- which share each is in
pub share_that_is_open : (open_share 0 (after entries) ≡ Some (1, wider)) × (open_share 1 (after entries) ≡ Some (0, four false)) × (open_share 2 (after entries) ≡ None)
share_that_is_open = (refl, refl, refl)

-- and its number
pub number_that_is_open : (open_number 0 (after entries) ≡ 1) × (open_number 1 (after entries) ≡ 0) × (open_number 2 (after entries) ≡ 0)
number_that_is_open = (refl, refl, refl)

-- in which a member is no more once it has left it, whatever another does
pub share_that_is_left :
    (open_share 0 (after (Enter 0 0 (four false) ∷ End 0 1 ∷ [])) ≡ Some (0, four false)) × (open_share 0 (after (Enter 0 0 (four false) ∷ End 0 0 ∷ [])) ≡ None)
    × (is_inside 0 (after (Enter 0 0 (four false) ∷ [])) ≡ true) × (is_inside 0 (after (Enter 0 0 (four false) ∷ End 0 0 ∷ [])) ≡ false)
share_that_is_left = (refl, refl, refl, refl)

-- what each share is
pub shape_that_was_entered :
    (shape_at 0 (after entries) ≡ Some (four false)) × (shape_at 1 (after entries) ≡ Some wider) × (shape_at 2 (after entries) ≡ None)
shape_that_was_entered = (refl, refl, refl)

-- of which kind
pub kind_of_the_open :
    (in_kind is_loop None ≡ false) × (in_kind is_loop (Some (0, four false)) ≡ true) × (in_kind is_loop (Some (0, single_shape true)) ≡ false)
kind_of_the_open = (refl, refl, refl)

-- a member was told that nothing is left, which holds until it enters the next share, and of no other member
pub drained_until_next :
    (has_drained 0 (after (Enter 0 0 (four false) ∷ Drained 0 0 ∷ Enter 0 1 (four false) ∷ [])) ≡ true)
    × (has_drained 0 (after (Enter 0 0 (four false) ∷ Drained 0 1 ∷ [])) ≡ false)
    × (has_drained 0 (after (Enter 0 0 (four false) ∷ Drained 0 0 ∷ End 0 0 ∷ Enter 1 0 wider ∷ [])) ≡ false)
drained_until_next = (refl, refl, refl)

-- the last piece of a member, until it is told that none is left or enters the next share
pub piece_until_next :
    (last_piece 0 (after (Enter 0 0 (four false) ∷ Take 0 0 0 2 ∷ Enter 0 1 (four false) ∷ Take 0 1 2 4 ∷ Drained 0 1 ∷ [])) ≡ Some (0, 2))
    × (last_piece 0 (after (Enter 0 0 (four false) ∷ Take 0 0 0 2 ∷ Take 0 0 2 4 ∷ [])) ≡ Some (2, 4))
    × (last_piece 0 (after (Enter 0 0 (four false) ∷ Take 0 0 0 2 ∷ Drained 0 0 ∷ [])) ≡ None)
    × (last_piece 0 (after (Enter 0 0 (four false) ∷ Take 0 0 0 2 ∷ Enter 1 0 wider ∷ [])) ≡ None)
piece_until_next = (refl, refl, refl, refl)

-- to leave a share changes neither
pub kept_at_the_end :
    (has_drained 0 (after (Enter 0 0 (four false) ∷ Drained 0 0 ∷ End 0 0 ∷ [])) ≡ true)
    × (last_piece 0 (after (Enter 0 0 (single_shape false) ∷ Take 0 0 0 1 ∷ End 0 0 ∷ [])) ≡ Some (0, 1))
kept_at_the_end = (refl, refl)

-- two members leave some shares, and one of them both
abbrev leaves : List Event
leaves = End 0 1 ∷ End 1 0 ∷ End 2 0 ∷ End 2 1 ∷ []

-- who has left which share
pub left_by_each :
    (has_ended 0 0 (after leaves) ≡ false) × (has_ended 0 1 (after leaves) ≡ true) × (has_ended 1 0 (after leaves) ≡ true) × (has_ended 1 1 (after leaves) ≡ false)
left_by_each = (refl, refl, refl, refl)

-- which share all have left
pub left_by_all : (is_over 2 0 (after leaves) ≡ false) × (is_over 2 1 (after leaves) ≡ false) × (is_over 2 2 (after leaves) ≡ true)
left_by_all = (refl, refl, refl)

-- and which share can be opened
pub room_for_eight :
    (has_room 2 7 (after []) ≡ true) × (has_room 2 8 (after []) ≡ false) × (has_room 2 8 (after leaves) ≡ false)
    × (has_room 2 9 (after leaves) ≡ false) × (has_room 2 10 (after leaves) ≡ true) × (has_room 2 18 (after leaves) ≡ false)
room_for_eight = (refl, refl, refl, refl, refl, refl)

-- an iteration lies in a piece from its first to its last
pub iterations_of_a_piece :
    (has_iteration 1 2 4 ≡ false) × (has_iteration 2 2 4 ≡ true) × (has_iteration 3 2 4 ≡ true) × (has_iteration 4 2 4 ≡ false)
iterations_of_a_piece = (refl, refl, refl, refl)

-- two members take pieces of two loops
abbrev takes : List Event
takes = Take 0 0 0 2 ∷ Take 0 1 1 3 ∷ Take 1 0 0 4 ∷ []

-- how often each iteration is taken
pub takes_are_counted :
    (times_taken 0 0 (after takes) ≡ 1) × (times_taken 0 1 (after takes) ≡ 2) × (times_taken 0 2 (after takes) ≡ 1) × (times_taken 0 3 (after takes) ≡ 0) × (times_taken 1 3 (after takes) ≡ 1)
takes_are_counted = (refl, refl, refl, refl, refl)

-- Ordered parts

-- pieces that were handed on of each loop, whoever did
pub turn_is_counted : (turn 0 (after (HandOn 0 0 0 ∷ HandOn 1 0 0 ∷ HandOn 0 1 1 ∷ [])) ≡ 2) × (turn 1 (after (HandOn 0 0 0 ∷ HandOn 1 0 0 ∷ HandOn 0 1 1 ∷ [])) ≡ 1)
turn_is_counted = (refl, refl)

-- a member holds a piece until it hands it on, or enters the next share
pub piece_is_held :
    (holds_piece 0 (after (Enter 0 0 (four true) ∷ [])) ≡ false) × (holds_piece 0 (after (Enter 0 0 (four true) ∷ Take 0 1 0 2 ∷ [])) ≡ false)
    × (holds_piece 0 (after (Enter 0 0 (four true) ∷ Take 0 0 0 2 ∷ HandOn 0 1 0 ∷ Enter 0 1 (four true) ∷ [])) ≡ true)
    × (holds_piece 0 (after (Enter 0 0 (four true) ∷ Take 0 0 0 2 ∷ HandOn 0 0 0 ∷ [])) ≡ false)
    × (holds_piece 0 (after (Enter 0 0 (four true) ∷ Take 0 0 0 2 ∷ End 0 0 ∷ Enter 1 0 (four true) ∷ [])) ≡ false)
piece_is_held = (refl, refl, refl, refl, refl)

-- the iteration after that of a member's last part, in its share
pub part_that_is_next :
    (next_part 0 (after (Enter 0 0 (four true) ∷ Part 0 0 1 ∷ Part 0 1 2 ∷ Enter 0 1 (four true) ∷ [])) ≡ 2)
    × (next_part 0 (after (Part 0 0 1 ∷ Enter 1 0 (four true) ∷ [])) ≡ 0) × (next_part 0 (after []) ≡ 0)
part_that_is_next = (refl, refl, refl)

-- the part that a member is in
pub part_of_a_member :
    (in_part 0 (after (Part 0 0 0 ∷ PartEnd 0 1 ∷ Enter 0 1 (four true) ∷ [])) ≡ true) × (in_part 1 (after (Part 0 0 0 ∷ [])) ≡ false)
    × (in_part 0 (after (Part 0 0 0 ∷ PartEnd 0 0 ∷ [])) ≡ false) × (in_part 0 (after (Part 0 0 0 ∷ Enter 1 0 (four true) ∷ [])) ≡ false)
part_of_a_member = (refl, refl, refl, refl)

-- and whose part of a loop is open
pub open_part_of_a_loop :
    (open_part 0 (after (Part 0 1 0 ∷ PartEnd 1 0 ∷ Part 1 0 0 ∷ [])) ≡ Some 1) × (open_part 1 (after (Part 0 1 0 ∷ [])) ≡ None)
    × (open_part 0 (after (Part 0 1 0 ∷ PartEnd 0 1 ∷ [])) ≡ None)
open_part_of_a_loop = (refl, refl, refl)

-- the pieces of a loop of six iterations
abbrev three_pieces : List Piece
three_pieces = (0, 2) ∷ (2, 3) ∷ (3, 6) ∷ []

-- two pieces are one if both ends are
pub pieces_that_are_one :
    (same_piece (Some (0, 2)) (Some (0, 2)) ≡ true) × (same_piece (Some (0, 2)) (Some (0, 3)) ≡ false) × (same_piece (Some (0, 2)) (Some (1, 2)) ≡ false)
    × (same_piece None (Some (0, 2)) ≡ false) × (same_piece (Some (0, 2)) None ≡ false) × (same_piece None None ≡ false)
pieces_that_are_one = (refl, refl, refl, refl, refl, refl)

-- the number of the first piece of a list, the second and the last; all stand before none, and before a piece that is not in the list
pub numbers_of_pieces :
    (number_of_piece three_pieces (Some (0, 2)) ≡ 0) × (number_of_piece three_pieces (Some (2, 3)) ≡ 1) × (number_of_piece three_pieces (Some (3, 6)) ≡ 2)
    × (number_of_piece three_pieces None ≡ 3) × (number_of_piece three_pieces (Some (2, 6)) ≡ 3) × (number_of_piece three_pieces (Some (1, 3)) ≡ 3) × (number_of_piece [] (Some (0, 2)) ≡ 0)
numbers_of_pieces = (refl, refl, refl, refl, refl, refl, refl)

-- and that of a member's last piece, whatever was handed on, and whatever another member took
pub number_of_the_last :
    (last_number 2 (0, four true) 0 (after (Take 0 0 0 2 ∷ HandOn 0 1 1 ∷ [])) ≡ 0) × (last_number 2 (0, four true) 0 (after (Take 0 0 2 4 ∷ Take 0 1 0 2 ∷ [])) ≡ 1)
    × (last_number 2 (0, four true) 0 (after (Take 0 0 0 2 ∷ HandOn 0 0 0 ∷ Take 0 0 2 4 ∷ [])) ≡ 1)
    × (last_number 2 (0, four true) 0 (after (Take 0 1 0 2 ∷ [])) ≡ 2) × (last_number 2 (0, four true) 0 (after (Take 0 0 1 4 ∷ [])) ≡ 2)
number_of_the_last = (refl, refl, refl, refl, refl)

-- a member has the turn with the first piece that was not handed on, and waits without it, in an ordered loop alone
pub turn_of_a_member :
    (has_turn 2 (0, four true) 0 (after (Take 0 0 0 2 ∷ [])) ≡ true) × (has_turn 2 (0, four true) 0 (after (Take 0 0 2 4 ∷ [])) ≡ false)
    × (has_turn 2 (0, four true) 0 (after (Take 0 0 2 4 ∷ HandOn 0 1 0 ∷ [])) ≡ true) × (has_turn 2 (0, four true) 0 (after (Take 0 0 2 4 ∷ HandOn 1 1 0 ∷ [])) ≡ false)
    × (must_wait 2 (0, four true) 0 (after (Take 0 0 2 4 ∷ [])) ≡ true) × (must_wait 2 (0, four true) 0 (after (Take 0 0 0 2 ∷ [])) ≡ false)
    × (must_wait 2 (0, four false) 0 (after (Take 0 0 2 4 ∷ [])) ≡ false)
    × (is_ordered None ≡ false) × (is_ordered (Some (0, four false)) ≡ false) × (is_ordered (Some (0, four true)) ≡ true)
turn_of_a_member = (refl, refl, refl, refl, refl, refl, refl, refl, refl, refl)

-- the iteration of a part lies in the piece, and not before those whose parts were begun
pub rest_of_a_piece :
    (is_in_rest (Some (2, 4)) 0 (Some 1) ≡ false) × (is_in_rest (Some (2, 4)) 0 (Some 4) ≡ false) × (is_in_rest (Some (2, 4)) 3 (Some 2) ≡ false)
    × (is_in_rest (Some (2, 4)) 3 (Some 3) ≡ true) × (is_in_rest None 0 (Some 2) ≡ false) × (is_in_rest (Some (2, 4)) 0 None ≡ false)
    × (comes_next None (Some (2, 4)) 0 (pos 2) ≡ false) × (comes_next (Some (0, four true)) (Some (2, 4)) 0 (pos 2) ≡ true)
    × (comes_next (Some (0, four true)) (Some (2, 4)) 0 (pos 1) ≡ false)
rest_of_a_piece = (refl, refl, refl, refl, refl, refl, refl, refl, refl)

-- Words

-- words of two singles
abbrev words : List Event
words = Take 0 0 0 1 ∷ Put 0 0 (7 ∷ []) ∷ Got 0 1 (7 ∷ []) ∷ Put 1 1 (8 ∷ 9 ∷ []) ∷ []

-- which words each has
pub words_that_were_put : (payload_at 0 (after words) ≡ Some (7 ∷ [])) × (payload_at 1 (after words) ≡ Some (8 ∷ 9 ∷ [])) × (payload_at 2 (after words) ≡ None)
words_that_were_put = (refl, refl, refl)

-- who took its piece
pub piece_of_a_single :
    (has_piece 0 0 (after words) ≡ true) × (has_piece 0 1 (after words) ≡ false) × (has_piece 1 0 (after words) ≡ false)
    × (has_piece 0 0 (after (Take 0 0 0 1 ∷ Take 1 1 0 1 ∷ [])) ≡ true) × (has_piece 1 0 (after (Take 0 0 0 1 ∷ Take 1 1 0 1 ∷ [])) ≡ false)
piece_of_a_single = (refl, refl, refl, refl, refl)

-- who has words of it
pub words_of_a_member :
    (has_words 0 0 (after words) ≡ true) × (has_words 0 1 (after words) ≡ true) × (has_words 0 2 (after words) ≡ false)
    × (has_words 1 0 (after words) ≡ false) × (has_words 1 1 (after words) ≡ true) × (has_words 2 1 (after words) ≡ false)
words_of_a_member = (refl, refl, refl, refl, refl, refl)

-- Barriers

-- two members arrive at one barrier, and one of them passes and arrives at the next
abbrev some_arrivals : List Event
some_arrivals = Arrive 0 0 (at Barrier 0) ∷ Arrive 0 1 (at Barrier 0) ∷ Pass 0 0 ∷ Arrive 1 0 (at ShareEnd 1) ∷ []

-- how many barriers each has passed
pub passes_are_counted : (barriers_passed 0 (after some_arrivals) ≡ 1) × (barriers_passed 1 (after some_arrivals) ≡ 0)
passes_are_counted = (refl, refl)

-- with which tag each has arrived
pub tags_of_members :
    (arrival 0 0 (after some_arrivals) ≡ Some (at Barrier 0)) × (arrival 1 0 (after some_arrivals) ≡ Some (at ShareEnd 1)) × (arrival 1 1 (after some_arrivals) ≡ None) × (arrival 0 2 (after some_arrivals) ≡ None)
tags_of_members = (refl, refl, refl, refl)

-- with which tag any has
pub tags_of_barriers : (tag_at 0 (after some_arrivals) ≡ Some (at Barrier 0)) × (tag_at 1 (after some_arrivals) ≡ Some (at ShareEnd 1)) × (tag_at 2 (after some_arrivals) ≡ None)
tags_of_barriers = (refl, refl, refl)

-- whether all have
pub all_have_arrived : (all_arrived 2 0 (after some_arrivals) ≡ true) × (all_arrived 3 0 (after some_arrivals) ≡ false) × (all_arrived 2 1 (after some_arrivals) ≡ false)
all_have_arrived = (refl, refl, refl)

-- who waits at a barrier: the first at the second one, the second still at the first, no third member
pub members_at_barriers :
    (at_barrier 0 (after some_arrivals) ≡ true) × (at_barrier 1 (after some_arrivals) ≡ true) × (at_barrier 2 (after some_arrivals) ≡ false)
    × (at_barrier 0 (after (Arrive 0 0 (at Barrier 0) ∷ Pass 0 0 ∷ [])) ≡ false) × (at_barrier 1 (after (Arrive 0 0 (at Barrier 0) ∷ Arrive 0 1 (at Barrier 0) ∷ Pass 0 0 ∷ [])) ≡ true)
members_at_barriers = (refl, refl, refl, refl, refl)

-- who has arrived at the region's end, and stays there when it passes; a barrier is none
pub members_at_region_end :
    (at_region_end 0 (after (Arrive 0 0 (at RegionEnd 0) ∷ [])) ≡ true) × (at_region_end 1 (after (Arrive 0 0 (at RegionEnd 0) ∷ [])) ≡ false)
    × (at_region_end 0 (after (Arrive 0 0 (at RegionEnd 0) ∷ Pass 0 0 ∷ [])) ≡ true) × (at_region_end 0 (after some_arrivals) ≡ false)
members_at_region_end = (refl, refl, refl, refl)

-- a member leaves the region if it passes its end, and not if another does, or at another barrier
pub region_that_is_left :
    (has_left_region 0 (after (Arrive 0 0 (at RegionEnd 0) ∷ Pass 0 0 ∷ Arrive 1 0 (at Barrier 0) ∷ [])) ≡ true) × (has_left_region 0 (after (Arrive 0 0 (at RegionEnd 0) ∷ [])) ≡ false)
    × (has_left_region 0 (after (Arrive 0 0 (at Barrier 0) ∷ Pass 0 0 ∷ Arrive 1 0 (at RegionEnd 0) ∷ [])) ≡ false)
    × (has_left_region 0 (after (Arrive 0 0 (at ShareEnd 1) ∷ Pass 0 0 ∷ [])) ≡ false) × (has_left_region 0 (after (Pass 0 0 ∷ [])) ≡ false)
    × (has_left_region 1 (after (Arrive 0 0 (at RegionEnd 0) ∷ Arrive 0 1 (at RegionEnd 0) ∷ Pass 0 0 ∷ [])) ≡ false)
    × (has_left_region 0 (after (Arrive 0 0 (at RegionEnd 0) ∷ Arrive 0 1 (at RegionEnd 0) ∷ Pass 0 0 ∷ Pass 0 1 ∷ [])) ≡ true)
region_that_is_left = (refl, refl, refl, refl, refl, refl, refl)

-- nor if another member arrived there at the region's end, and it did not
pub region_of_another :
    (has_left_region 0 (after (Arrive 0 0 (at Barrier 0) ∷ Arrive 0 1 (at RegionEnd 0) ∷ Pass 0 0 ∷ [])) ≡ false)
    × (has_left_region 1 (after (Arrive 0 0 (at Barrier 0) ∷ Arrive 0 1 (at RegionEnd 0) ∷ Pass 0 1 ∷ Arrive 0 2 (at Barrier 0) ∷ [])) ≡ true)
region_of_another = (refl, refl)

-- a team broke by the first of two causes
pub first_of_two_causes :
    (clash_of (after (Break 1 (Share 3) ∷ Break 0 AtStop ∷ [])) ≡ Some (record { member = 1; place = Share 3 })) × (clash_of (after (Drained 0 0 ∷ [])) ≡ None)
first_of_two_causes = (refl, refl)

-- every member, from the first to the last, and no more
pub test_of_all_members :
    (every_member 2 (λ m. nat_lt 0 m) ≡ false) × (every_member 2 (λ m. nat_lt m 1) ≡ false) × (every_member 2 (λ m. nat_lt m 2) ≡ true)
test_of_all_members = (refl, refl, refl)

-- each event has its member
pub members_of_events :
    map member_of (Enter 0 1 wider ∷ Take 0 2 0 3 ∷ Drained 0 3 ∷ End 0 4 ∷ HandOn 0 5 0 ∷ Part 0 6 0 ∷ PartEnd 0 7 ∷ Put 0 8 [] ∷ Got 0 9 [] ∷ Arrive 0 10 (at Barrier 0) ∷ Pass 0 11 ∷ Break 12 AtStop ∷ Hold (Lock 0) 13 (Implicit 13) ∷ Free (Lock 0) 14 (Implicit 14) ∷ [])
    ≡ 1 ∷ 2 ∷ 3 ∷ 4 ∷ 5 ∷ 6 ∷ 7 ∷ 8 ∷ 9 ∷ 10 ∷ 11 ∷ 12 ∷ 13 ∷ 14 ∷ []
members_of_events = refl

-- those of tasks and groups too
pub members_of_task_events :
    map member_of (Create 1 2 (Implicit 3) one_job ∷ Start 1 4 ∷ Done 1 5 ∷ Group 0 6 ∷ GroupEnd 0 7 ∷ Waited 8 [] ∷ []) ≡ 2 ∷ 4 ∷ 5 ∷ 6 ∷ 7 ∷ 8 ∷ []
members_of_task_events = refl

-- Values

-- a loop of four values downwards by two from 5: 5, 3, 1, -1
abbrev downwards : Shape
downwards = record (four false) { start = pos 5; incr = negsuc 1 }

-- the value of each iteration
pub values_of_iterations : map (value_at downwards) (0 ∷ 1 ∷ 2 ∷ 3 ∷ []) ≡ pos 5 ∷ pos 3 ∷ pos 1 ∷ negsuc 0 ∷ []
values_of_iterations = refl

-- and the iteration of each value; none of one between two, before the first or behind the last
pub iterations_of_values :
    map (iteration_of downwards) (pos 5 ∷ pos 3 ∷ negsuc 0 ∷ pos 4 ∷ negsuc 2 ∷ pos 7 ∷ []) ≡ Some 0 ∷ Some 1 ∷ Some 3 ∷ None ∷ None ∷ None ∷ []
iterations_of_values = refl
