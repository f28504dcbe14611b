-- What the calls of the shares ask, answer and add: for each line of a definition what it says, and what it alone refuses.
use Rattle.std.proofs.Common.{◌≡◌, ℕ, ◌-◌, ◌^◌, true, false, List, [], ◌∷◌, Option, Some, None, Ok, Err, refl, ap, arith, length}
use Rattle.gomp_types.specs.declared.refusal.Refusal.TheVariants.{NoMemory, InsideShare, OutsideShare, InOrdered, EndDiffers, Drained as DrainedRefusal, TooManyShares}
use Rattle.gomp_types.specs.declared.refusal.Place.{Place}
use Rattle.gomp_types.specs.declared.loop_desc.EndKind.TheVariants.{Wait as WaitEnd, Nowait}
use Rattle.gomp_types.specs.declared.shape.Shape.{Shape}
use Rattle.gomp_types.specs.declared.shape.ShareKind.TheVariants as kind
use Rattle.gomp_events.specs.declared.event.Tag.{Tag}
use Rattle.gomp_events.specs.declared.event.Event.TheVariants.{Enter, Take, Drained, End, HandOn as Handed, Part, PartEnd, Put, Got, Arrive, Pass, Break}
use Rattle.gomp_types.specs.Limits.{standard}
use Rattle.gomp_types.specs.Pieces.{shape_of}
use Rattle.gomp_events.specs.Events.{open_share}
use Rattle.gomp_types.specs.Singles.{single_shape}
use Rattle.gomp_types.specs.Sections.{sections_shape}
use Rattle.gomp_shares.specs.declared.Opening.TheVariants.{Entered, NotYet, Differs}
use Rattle.gomp_shares.specs.declared.admission.Construct.TheVariants.{Loop, Sections}
use Rattle.gomp_shares.specs.declared.calls.ShareCall.TheVariants.{Open, OpenSections, OpenSingle, Claim, Leave, Begin, EndPart, HandOn}
use Rattle.gomp_events.specs.Seen.{seen_of}
use Rattle.gomp_shares.specs.Calls.{taken_of, was_taken, CanOpen, IsIn, MayOpenAs, MayBeginAs, MayOpen, events_opened, CanClaim, Claims, events_claimed, is_done, CanLeave, events_left, CanBeginPart, CanEndPart, CanHandOn, own_turn, number_in, part_begun, part_ended, piece_handed, left_unless_refused, EachStands, IsNoShareEvent}
use Rattle.gomp_shares.specs.Starts.{start_tests}
use Rattle.gomp_shares.specs.Admission.{kinds_of, seen_in, in_part_of, next_tests_of, end_tests_of}
use Rattle.gomp_shares.specs.Runs.{may_make, is_made}
use Rattle.gomp_shares.specs.Examples.{asks, ten, nine, ordered_two, ordered_four, no_step, no_chunk, ordered_single, events_of, took_all, told_none, both_hold, in_the_part, handed_on, in_single, left_single, eight_ahead, sees, sees_outside, sees_loop, sees_single}
use Rattle.gomp_shares.proofs.RunExamples.{ten_fits, two_fit}

-- What a member sees

-- a member in the ordered part of its piece
pub seen_in_a_part : seen_of 0 (events_of 2 in_the_part) ≡ sees 1 (Some (0, shape_of ordered_two)) false (Some (0, 1)) 1 true
seen_in_a_part = refl

-- and one that waits for its turn
pub seen_before_its_turn : seen_of 1 (events_of 2 in_the_part) ≡ sees 1 (Some (0, shape_of ordered_two)) false (Some (1, 2)) 0 false
seen_before_its_turn = refl

-- one that was told that nothing is left
pub seen_after_none : seen_of 0 (events_of 2 told_none) ≡ sees 1 (Some (0, shape_of ten)) true None 0 false
seen_after_none = refl

-- a member that has left a single keeps its piece until it enters the next share
pub seen_after_the_end : seen_of 0 (events_of 2 left_single) ≡ sees 1 None false (Some (0, 1)) 0 false
seen_after_the_end = refl

-- a member that has entered nothing
pub seen_at_first : seen_of 1 (events_of 2 in_single) ≡ sees_outside 0
seen_at_first = refl

-- four pieces of the first share were taken, by both members
pub taken_of_the_first : taken_of 0 (events_of 2 took_all) ≡ 4
taken_of_the_first = refl

-- none of the second share was taken
pub taken_of_the_second : taken_of 1 (events_of 2 took_all) ≡ 0
taken_of_the_second = refl

-- a piece of the first share was taken
pub first_was_taken : was_taken 0 (events_of 2 in_single) ≡ true
first_was_taken = refl

-- and none of the second
pub second_was_not_taken : was_taken 1 (events_of 2 in_single) ≡ false
second_was_not_taken = refl

-- Who may open a share

-- a member that is outside
pub may_open_outside : CanOpen 2 1 (shape_of ten) (sees_outside (2 ^ 48 - 1))
may_open_outside = record { member = omega arith; valid = ten_fits; ordered = λ is. absurd (cc); outside = refl; few = omega arith }

-- also an ordered loop
pub may_open_ordered : CanOpen 2 1 (shape_of ordered_two) (sees_outside 0)
may_open_ordered = record { member = omega arith; valid = two_fit; ordered = λ is. refl; outside = refl; few = omega arith }

-- one who is no member cannot
pub stranger_cannot_open : CanOpen 2 2 (shape_of ten) (sees_outside 0) → ⊥
stranger_cannot_open can = absurd (let member = can.member in omega arith)

-- nobody can open a shape that no construct has
pub no_shape_to_open : CanOpen 2 1 no_chunk (sees_outside 0) → ⊥
no_shape_to_open can = absurd (let some = can.valid.some in omega arith)

-- nor a single with ordered parts
pub no_ordered_single : CanOpen 2 1 ordered_single (sees_outside 0) → ⊥
no_ordered_single can = absurd (let is = can.ordered refl in cc)

-- a member that is in a share cannot
pub cannot_open_inside : CanOpen 2 1 (shape_of ten) (sees_single false None) → ⊥
cannot_open_inside can = absurd (let outside = can.outside in cc)

-- nor can one that has entered the most shares
pub cannot_open_more : CanOpen 2 1 (shape_of ten) (sees_outside (2 ^ 48)) → ⊥
cannot_open_more can = absurd (let few = can.few in omega arith)

-- what a member sees lets it open a share in whatever team it is
pub may_open_anywhere : MayOpenAs (sees_outside 0) (shape_of ten)
may_open_anywhere members m lt = record { member = lt; valid = ten_fits; ordered = λ is. absurd (cc); outside = refl; few = omega arith }

-- and inside a share in none
pub may_open_nowhere : MayOpenAs (sees_single false None) (shape_of ten) → ⊥
may_open_nowhere may = cannot_open_inside (may 2 1 (omega arith))

-- how many iterations the share has that a member is in
abbrev trips_in : Option (ℕ × Shape) → ℕ
trips_in None = 0
trips_in (Some share) = share.1.trips

-- a member in a loop is in a share of its shape, and of no other
pub is_in_its_share : IsIn (shape_of ten) (sees_loop ten false None 0 false) × (IsIn (shape_of nine) (sees_loop ten false None 0 false) → ⊥) × (IsIn (shape_of ten) (sees_outside 0) → ⊥)
is_in_its_share = ((0, refl), λ is. absurd (let trips : 10 ≡ 9 = ap trips_in is.1 in omega arith), λ is. absurd (let inside = is.1 in cc))

-- Which answer it gets

-- if nobody is in the share and there is room
pub opens_first : MayOpen 2 0 (shape_of ten) Entered []
opens_first = (refl, refl)

-- if the other is in it
pub opens_second : MayOpen 2 1 (shape_of ten) Entered (events_of 2 took_all)
opens_second = (refl, refl)

-- if the other is in another one of this number
pub opens_another : MayOpen 2 1 (shape_of nine) Differs (Enter 0 0 (shape_of ten) ∷ [])
opens_another = refl

-- and if it is eight shares ahead
pub opens_ninth : MayOpen 2 0 (single_shape false) NotYet (events_of 2 eight_ahead)
opens_ninth = (refl, refl)

-- the share has the number of those that the member has entered
pub entered_adds : events_opened 0 (shape_of ten) Entered (events_of 2 left_single) ≡ Enter 1 0 (shape_of ten) ∷ events_of 2 left_single
entered_adds = refl

-- a member that has to wait adds nothing
pub not_yet_adds : events_opened 0 (shape_of ten) NotYet (events_of 2 left_single) ≡ events_of 2 left_single
not_yet_adds = refl

-- nor does one whose construct differs
pub differs_adds : events_opened 0 (shape_of ten) Differs (events_of 2 left_single) ≡ events_of 2 left_single
differs_adds = refl

-- Who may ask for a piece

-- a member in a loop
pub may_claim_inside : CanClaim 2 1 (sees_loop ten false None 0 false)
may_claim_inside = record { member = omega arith; inside = refl; more = refl; apart = refl }

-- one who is no member cannot
pub stranger_cannot_claim : CanClaim 2 2 (sees_loop ten false None 0 false) → ⊥
stranger_cannot_claim can = absurd (let member = can.member in omega arith)

-- nor can a member that is in no share
pub cannot_claim_outside : CanClaim 2 1 (sees_outside 0) → ⊥
cannot_claim_outside can = absurd (let inside = can.inside in cc)

-- nor one that was told that nothing is left
pub cannot_claim_after_none : CanClaim 2 1 (sees_loop ten true None 0 false) → ⊥
cannot_claim_after_none can = absurd (let more = can.more in cc)

-- nor one in an ordered part
pub cannot_claim_in_a_part : CanClaim 2 1 (sees_loop ordered_two false (Some (0, 1)) 1 true) → ⊥
cannot_claim_in_a_part can = absurd (let apart = can.apart in cc)

-- What it gets: the pieces are in the examples of runs

-- of a share that no construct has nothing, not even that nothing is left
pub none_of_no_shape : Claims 2 0 None (Enter 0 0 no_chunk ∷ []) → ⊥
none_of_no_shape claims = absurd (let some = claims.valid.some in let there = claims.there in let same : claims.share.1.chunk ≡ 0 = let is : claims.share ≡ (0, no_chunk) = cc in ap (λ (share : ℕ × Shape). share.1.chunk) is in omega arith)

-- it is the piece of the share that it is in
pub piece_adds : events_claimed 0 (Some (3, 6)) (Enter 1 0 (shape_of ten) ∷ events_of 2 left_single) ≡ Take 1 0 3 6 ∷ Enter 1 0 (shape_of ten) ∷ events_of 2 left_single
piece_adds = refl

-- none is told of the share that it is in
pub none_adds : events_claimed 0 None (Enter 1 0 (shape_of ten) ∷ events_of 2 left_single) ≡ Drained 1 0 ∷ Enter 1 0 (shape_of ten) ∷ events_of 2 left_single
none_adds = refl

-- Who may leave

-- a member that was told that nothing is left is done
pub done_after_none : is_done (sees_loop ten true None 0 false) ≡ true
done_after_none = refl

-- a member that took the piece of a single is done
pub done_after_the_single : is_done (sees_single false (Some (0, 1))) ≡ true
done_after_the_single = refl

-- also of one with words
pub done_after_the_copy : is_done (sees_single true (Some (0, 1))) ≡ true
done_after_the_copy = refl

-- a member that has no piece of a single is not done
pub not_done_before_the_single : is_done (sees_single false None) ≡ false
not_done_before_the_single = refl

-- nor is one with a piece of a loop
pub not_done_in_a_loop : is_done (sees_loop ten false (Some (0, 3)) 0 false) ≡ false
not_done_in_a_loop = refl

-- a member that was told that nothing is left may leave
pub may_leave_after_none : CanLeave 2 1 (sees_loop ten true None 0 false)
may_leave_after_none = record { member = omega arith; inside = refl; done = refl; apart = refl }

-- one who is no member cannot
pub stranger_cannot_leave : CanLeave 2 2 (sees_loop ten true None 0 false) → ⊥
stranger_cannot_leave can = absurd (let member = can.member in omega arith)

-- nor can a member that is in no share
pub cannot_leave_outside : CanLeave 2 1 (sees 1 None true None 0 false) → ⊥
cannot_leave_outside can = absurd (let inside = can.inside in cc)

-- nor one for which pieces are left
pub cannot_leave_before : CanLeave 2 1 (sees_loop ten false (Some (0, 3)) 0 false) → ⊥
cannot_leave_before can = absurd (let done = can.done in cc)

-- nor one in an ordered part
pub cannot_leave_in_a_part : CanLeave 2 1 (sees_loop ordered_two true None 1 true) → ⊥
cannot_leave_in_a_part can = absurd (let apart = can.apart in cc)

-- it leaves the share that it is in
pub leave_adds : events_left 0 (Enter 1 0 (shape_of ten) ∷ events_of 2 left_single) ≡ End 1 0 ∷ Enter 1 0 (shape_of ten) ∷ events_of 2 left_single
leave_adds = refl

-- a member that is not refused has left
pub left_where_done : left_unless_refused {A = ℕ} (Ok 0) 0 (events_of 2 told_none) ≡ End 0 0 ∷ events_of 2 told_none
left_where_done = refl

-- a member that is refused stays
pub not_left_where_refused : left_unless_refused {A = ℕ} (Err NoMemory) 0 (events_of 2 told_none) ≡ events_of 2 told_none
not_left_where_refused = refl

-- Ordered parts

-- a member begins the part of an iteration of its piece, after those whose parts it has begun
pub may_begin_its_part : CanBeginPart 2 1 1 (sees_loop ordered_four false (Some (0, 2)) 1 false)
may_begin_its_part = record { member = omega arith; ordered = refl; apart = refl; rest = refl }

-- one who is no member cannot
pub stranger_cannot_begin : CanBeginPart 2 2 1 (sees_loop ordered_four false (Some (0, 2)) 1 false) → ⊥
stranger_cannot_begin can = absurd (let member = can.member in omega arith)

-- nor can a member in a loop that is not ordered
pub cannot_begin_unordered : CanBeginPart 2 1 1 (sees_loop ten false (Some (0, 3)) 1 false) → ⊥
cannot_begin_unordered can = absurd (let ordered = can.ordered in cc)

-- nor one that is in a part
pub cannot_begin_in_a_part : CanBeginPart 2 1 1 (sees_loop ordered_four false (Some (0, 2)) 1 true) → ⊥
cannot_begin_in_a_part can = absurd (let apart = can.apart in cc)

-- nor can it begin a part again
pub cannot_begin_again : CanBeginPart 2 1 0 (sees_loop ordered_four false (Some (0, 2)) 1 false) → ⊥
cannot_begin_again can = absurd (let rest = can.rest in cc)

-- nor one of another piece
pub cannot_begin_of_another : CanBeginPart 2 1 2 (sees_loop ordered_four false (Some (0, 2)) 1 false) → ⊥
cannot_begin_of_another can = absurd (let rest = can.rest in cc)

-- what a member sees lets it begin a part in whatever team it is
pub may_begin_anywhere : MayBeginAs (sees_loop ordered_four false (Some (0, 2)) 1 false) 1
may_begin_anywhere members m lt = record { member = lt; ordered = refl; apart = refl; rest = refl }

-- and that of an iteration before in none
pub may_begin_nowhere : MayBeginAs (sees_loop ordered_four false (Some (0, 2)) 1 false) 0 → ⊥
may_begin_nowhere may = cannot_begin_again (may 2 1 (omega arith))

-- it ends the part that it is in
pub may_end_its_part : CanEndPart 2 1 (sees_loop ordered_two false (Some (0, 1)) 1 true)
may_end_its_part = record { member = omega arith; within = refl }

-- one who is no member cannot
pub stranger_cannot_end : CanEndPart 2 2 (sees_loop ordered_two false (Some (0, 1)) 1 true) → ⊥
stranger_cannot_end can = absurd (let member = can.member in omega arith)

-- nor can a member that is in no part
pub cannot_end_outside : CanEndPart 2 1 (sees_loop ordered_two false (Some (0, 1)) 1 false) → ⊥
cannot_end_outside can = absurd (let within = can.within in cc)

-- and asks whether its piece can be handed on, when it is in none
pub hand_on_is_allowed : CanHandOn 2 1 (sees_loop ordered_two false (Some (0, 1)) 1 false)
hand_on_is_allowed = record { member = omega arith; ordered = refl; apart = refl }

-- one who is no member cannot
pub stranger_cannot_hand_on : CanHandOn 2 2 (sees_loop ordered_two false (Some (0, 1)) 1 false) → ⊥
stranger_cannot_hand_on can = absurd (let member = can.member in omega arith)

-- nor can a member in a loop that is not ordered
pub cannot_hand_on_unordered : CanHandOn 2 1 (sees_loop ten false (Some (0, 3)) 0 false) → ⊥
cannot_hand_on_unordered can = absurd (let ordered = can.ordered in cc)

-- nor one that is in a part
pub cannot_hand_on_in_a_part : CanHandOn 2 1 (sees_loop ordered_two false (Some (0, 1)) 1 true) → ⊥
cannot_hand_on_in_a_part can = absurd (let apart = can.apart in cc)

-- the turn is that of the first piece, then that of the second, and nobody's outside
pub turn_of_the_first : own_turn 2 0 (events_of 2 both_hold) ≡ true
turn_of_the_first = refl

-- the second member has no turn while the first holds its piece
pub turn_not_of_the_second : own_turn 2 1 (events_of 2 both_hold) ≡ false
turn_not_of_the_second = refl

-- it has the turn when the first piece was handed on
pub turn_of_the_second : own_turn 2 1 (events_of 2 handed_on) ≡ true
turn_of_the_second = refl

-- and the first has it no longer
pub turn_no_longer_of_the_first : own_turn 2 0 (events_of 2 handed_on) ≡ false
turn_no_longer_of_the_first = refl

-- a member in no share has no turn
pub no_turn_outside : own_turn 2 0 [] ≡ false
no_turn_outside = refl

-- what is begun, ended and handed on is of the share that the member is in
pub part_adds : part_begun 0 2 true (Enter 1 0 (shape_of ordered_four) ∷ events_of 2 left_single) ≡ Part 1 0 2 ∷ Enter 1 0 (shape_of ordered_four) ∷ events_of 2 left_single
part_adds = refl

-- a part that is not begun adds nothing
pub no_part_adds : part_begun 0 2 false (events_of 2 both_hold) ≡ events_of 2 both_hold
no_part_adds = refl

-- the end of a part is of the share that the member is in
pub part_end_adds : part_ended 0 (Enter 1 0 (shape_of ordered_four) ∷ events_of 2 left_single) ≡ PartEnd 1 0 ∷ Enter 1 0 (shape_of ordered_four) ∷ events_of 2 left_single
part_end_adds = refl

-- and a piece has its own number
pub hand_on_adds : piece_handed 2 1 true (events_of 2 handed_on) ≡ Handed 0 1 1 ∷ events_of 2 handed_on
hand_on_adds = refl

-- however many were handed on before
pub hand_on_of_the_second : piece_handed 2 1 true (events_of 2 both_hold) ≡ Handed 0 1 1 ∷ events_of 2 both_hold
hand_on_of_the_second = refl

-- and each member's is that of its last piece
pub hand_on_of_the_first : piece_handed 2 0 true (events_of 2 handed_on) ≡ Handed 0 0 0 ∷ events_of 2 handed_on
hand_on_of_the_first = refl

-- the numbers begin again in the next share
pub hand_on_in_the_second :
    piece_handed 2 0 true (Take 1 0 0 2 ∷ Enter 1 0 (shape_of ordered_four) ∷ events_of 2 left_single) ≡ Handed 1 0 0 ∷ Take 1 0 0 2 ∷ Enter 1 0 (shape_of ordered_four) ∷ events_of 2 left_single
hand_on_in_the_second = refl

-- the number of a member's last piece, of none, and in no share
pub numbers_in_a_share :
    (number_in 2 (open_share 1 (events_of 2 both_hold)) 1 (events_of 2 both_hold) ≡ 1) × (number_in 2 (Some (0, shape_of ordered_two)) 0 [] ≡ 2) × (number_in 2 None 0 (events_of 2 both_hold) ≡ 0)
numbers_in_a_share = (refl, refl, refl)

-- a piece that is not handed on adds nothing
pub no_hand_on_adds : piece_handed 2 1 false (events_of 2 handed_on) ≡ events_of 2 handed_on
no_hand_on_adds = refl

-- Events

-- what holds of each list of events that is stood for holds of the one that is
pub each_of_one : EachStands (λ h. h ≡ []) (λ h. length h ≡ 1) → ⊥
each_of_one each = absurd (let one = each [] refl in omega arith)

-- the shares see none of these events
pub words_are_aside : (share m : ℕ) (payload : List ℕ) → IsNoShareEvent (Put share m payload) × IsNoShareEvent (Got share m payload)
words_are_aside share m payload = (tt, tt)

-- arrivals and passes
pub barriers_are_aside : (barrier m : ℕ) (tag : Tag) → IsNoShareEvent (Arrive barrier m tag) × IsNoShareEvent (Pass barrier m)
barriers_are_aside barrier m tag = (tt, tt)

-- and a break
pub breaks_are_aside : (m : ℕ) (place : Place) → IsNoShareEvent (Break m place)
breaks_are_aside m place = tt

-- and each of these
pub shares_are_seen : (share m : ℕ) (shape : Shape) → (IsNoShareEvent (Enter share m shape) → ⊥) × (IsNoShareEvent (Drained share m) → ⊥) × (IsNoShareEvent (End share m) → ⊥)
shares_are_seen share m shape = (λ is. is, λ is. is, λ is. is)

-- so is a piece that is taken
pub takes_are_seen : (share m low high : ℕ) → IsNoShareEvent (Take share m low high) → ⊥
takes_are_seen share m low high is = is

-- and so is each event of ordered parts
pub parts_are_seen : (share m k : ℕ) → (IsNoShareEvent (Handed share m k) → ⊥) × (IsNoShareEvent (Part share m k) → ⊥) × (IsNoShareEvent (PartEnd share m) → ⊥)
parts_are_seen share m k = (λ is. is, λ is. is, λ is. is)

-- Which call may be made, by what its member sees

-- a member outside may open a loop, below the most shares
pub makes_a_loop : may_make (sees_outside (2 ^ 48 - 1)) (Open ten) ≡ true
makes_a_loop = refl

-- inside a share it may not
pub makes_no_loop_inside : may_make (sees_single false None) (Open ten) ≡ false
makes_no_loop_inside = refl

-- nor at the most shares
pub makes_no_more_loops : may_make (sees_outside (2 ^ 48)) (Open ten) ≡ false
makes_no_more_loops = refl

-- a loop that is refused
pub makes_no_refused_loop : may_make (sees_outside 0) (Open no_step) ≡ false
makes_no_refused_loop = refl

-- the most sections
pub makes_sections : may_make (sees_outside 0) (OpenSections 65536 Nowait) ≡ true
makes_sections = refl

-- inside a share no sections are opened
pub makes_no_sections_inside : may_make (sees_single false None) (OpenSections 3 Nowait) ≡ false
makes_no_sections_inside = refl

-- nor at the most shares
pub makes_no_more_sections : may_make (sees_outside (2 ^ 48)) (OpenSections 3 Nowait) ≡ false
makes_no_more_sections = refl

-- nor if there are too many sections
pub makes_no_refused_sections : may_make (sees_outside 0) (OpenSections 65537 Nowait) ≡ false
makes_no_refused_sections = refl

-- a single is opened outside
pub makes_a_single : may_make (sees_outside 0) (OpenSingle true) ≡ true
makes_a_single = refl

-- and not inside a share
pub makes_no_single_inside : may_make (sees_single false None) (OpenSingle true) ≡ false
makes_no_single_inside = refl

-- nor at the most shares
pub makes_no_more_singles : may_make (sees_outside (2 ^ 48)) (OpenSingle true) ≡ false
makes_no_more_singles = refl

-- a member with a piece may claim the next one
pub makes_a_claim : may_make (sees_loop ten false (Some (0, 3)) 0 false) Claim ≡ true
makes_a_claim = refl

-- outside a share it may not
pub makes_no_claim_outside : may_make (sees_outside 0) Claim ≡ false
makes_no_claim_outside = refl

-- nor when it was told that nothing is left
pub makes_no_claim_after_none : may_make (sees_loop ten true None 0 false) Claim ≡ false
makes_no_claim_after_none = refl

-- nor in a part
pub makes_no_claim_in_a_part : may_make (sees_loop ordered_two false (Some (0, 1)) 1 true) Claim ≡ false
makes_no_claim_in_a_part = refl

-- a member that was told that nothing is left may leave
pub makes_a_leave : may_make (sees_loop ten true None 0 false) Leave ≡ true
makes_a_leave = refl

-- so may the one that took the piece of a single
pub makes_a_leave_of_a_single : may_make (sees_single true (Some (0, 1))) Leave ≡ true
makes_a_leave_of_a_single = refl

-- outside a share it may not
pub makes_no_leave_outside : may_make (sees 1 None true None 0 false) Leave ≡ false
makes_no_leave_outside = refl

-- nor while pieces are left
pub makes_no_leave_before : may_make (sees_loop ten false (Some (0, 3)) 0 false) Leave ≡ false
makes_no_leave_before = refl

-- nor in a part
pub makes_no_leave_in_a_part : may_make (sees_loop ordered_two true None 1 true) Leave ≡ false
makes_no_leave_in_a_part = refl

-- a part of its piece, after those that it has begun
pub makes_a_part : may_make (sees_loop ordered_four false (Some (2, 4)) 3 false) (Begin 3) ≡ true
makes_a_part = refl

-- outside a share it may not begin one
pub makes_no_part_outside : may_make (sees 1 None false (Some (2, 4)) 3 false) (Begin 3) ≡ false
makes_no_part_outside = refl

-- nor in a loop that is not ordered
pub makes_no_part_unordered : may_make (sees_loop ten false (Some (2, 4)) 3 false) (Begin 3) ≡ false
makes_no_part_unordered = refl

-- nor in a part
pub makes_no_part_in_a_part : may_make (sees_loop ordered_four false (Some (2, 4)) 3 true) (Begin 3) ≡ false
makes_no_part_in_a_part = refl

-- a part again
pub makes_no_part_again : may_make (sees_loop ordered_four false (Some (2, 4)) 3 false) (Begin 2) ≡ false
makes_no_part_again = refl

-- a part of the piece before
pub makes_no_part_before : may_make (sees_loop ordered_four false (Some (2, 4)) 0 false) (Begin 1) ≡ false
makes_no_part_before = refl

-- a part of the piece after
pub makes_no_part_after : may_make (sees_loop ordered_four false (Some (2, 4)) 3 false) (Begin 4) ≡ false
makes_no_part_after = refl

-- a part without a piece
pub makes_no_part_of_none : may_make (sees_loop ordered_four false None 0 false) (Begin 0) ≡ false
makes_no_part_of_none = refl

-- a part that is open may be ended
pub makes_a_part_end : may_make (sees_loop ordered_two false (Some (0, 1)) 1 true) EndPart ≡ true
makes_a_part_end = refl

-- and none else
pub makes_no_part_end_outside : may_make (sees_loop ordered_two false (Some (0, 1)) 1 false) EndPart ≡ false
makes_no_part_end_outside = refl

-- a member in an ordered loop may ask whether its piece can be handed on
pub makes_a_hand_on : may_make (sees_loop ordered_two false None 0 false) HandOn ≡ true
makes_a_hand_on = refl

-- outside a share it may not
pub makes_no_hand_on_outside : may_make (sees_outside 1) HandOn ≡ false
makes_no_hand_on_outside = refl

-- nor in a loop that is not ordered
pub makes_no_hand_on_unordered : may_make (sees_loop ten false (Some (0, 3)) 0 false) HandOn ≡ false
makes_no_hand_on_unordered = refl

-- nor in a part
pub makes_no_hand_on_in_a_part : may_make (sees_loop ordered_two false (Some (0, 1)) 1 true) HandOn ≡ false
makes_no_hand_on_in_a_part = refl

-- a member opens a single
pub made_by_a_member : is_made 2 (asks 1 (OpenSingle false)) [] ≡ true
made_by_a_member = refl

-- one who is no member opens no single
pub not_made_by_a_stranger : is_made 2 (asks 2 (OpenSingle false)) [] ≡ false
not_made_by_a_stranger = refl

-- Refusals by a member's own place

-- a dynamic loop is a loop
pub loops_are_loops : kinds_of Loop kind.Dynamic ≡ true
loops_are_loops = refl

-- sections are no loop
pub sections_are_no_loops : kinds_of Loop kind.Sections ≡ false
sections_are_no_loops = refl

-- sections are sections
pub sections_are_sections : kinds_of Sections kind.Sections ≡ true
sections_are_sections = refl

-- and a loop is none
pub loops_are_no_sections : kinds_of Sections kind.Dynamic ≡ false
loops_are_no_sections = refl

-- a member in a loop is in a loop
pub seen_in_a_loop : seen_in (kinds_of Loop) (sees_loop ten false None 0 false) ≡ true
seen_in_a_loop = refl

-- and one outside is not
pub not_seen_in_a_loop : seen_in (kinds_of Loop) (sees_outside 0) ≡ false
not_seen_in_a_loop = refl

-- only loops have ordered parts
pub part_of_a_loop : in_part_of Loop (sees_loop ordered_two false (Some (0, 1)) 1 true) ≡ true
part_of_a_loop = refl

-- a member that is in no part is in none
pub no_part_of_a_loop : in_part_of Loop (sees_loop ordered_two false (Some (0, 1)) 1 false) ≡ false
no_part_of_a_loop = refl

-- sections have none, whatever the member sees
pub no_part_of_sections : in_part_of Sections (sees_loop ordered_two false (Some (0, 1)) 1 true) ≡ false
no_part_of_sections = refl

-- the tests of a start, of which the last one holds at the limit
pub tests_of_a_start : start_tests [] (record standard { shares = 4 }) (sees_outside 4) ≡ (false, InsideShare) ∷ (true, TooManyShares) ∷ []
tests_of_a_start = refl

-- below the limit neither holds
pub tests_of_a_start_below : start_tests [] (record standard { shares = 4 }) (sees_outside 3) ≡ (false, InsideShare) ∷ (false, TooManyShares) ∷ []
tests_of_a_start_below = refl

-- in a share the first one holds
pub tests_of_a_start_inside : start_tests [] (record standard { shares = 4 }) (sees_single false None) ≡ (true, InsideShare) ∷ (false, TooManyShares) ∷ []
tests_of_a_start_inside = refl

-- those of the next piece
pub tests_of_the_next : next_tests_of Loop (sees_loop ordered_two false (Some (0, 1)) 1 true) ≡ (false, OutsideShare) ∷ (true, InOrdered) ∷ (false, DrainedRefusal) ∷ []
tests_of_the_next = refl

-- if nothing is left the last one holds
pub tests_of_the_next_after_none : next_tests_of Loop (sees_loop ten true None 0 false) ≡ (false, OutsideShare) ∷ (false, InOrdered) ∷ (true, DrainedRefusal) ∷ []
tests_of_the_next_after_none = refl

-- a loop is no sections, which have no ordered parts
pub tests_of_the_next_section : next_tests_of Sections (sees_loop ten false None 0 false) ≡ (true, OutsideShare) ∷ (false, DrainedRefusal) ∷ []
tests_of_the_next_section = refl

-- those of the end
pub tests_of_the_end : end_tests_of Loop Nowait (sees_loop ten false (Some (0, 3)) 0 false) ≡ (false, OutsideShare) ∷ (false, InOrdered) ∷ (true, EndDiffers) ∷ []
tests_of_the_end = refl

-- in an ordered part the second one holds
pub tests_of_the_end_in_a_part : end_tests_of Loop WaitEnd (sees_loop ordered_two true None 1 true) ≡ (false, OutsideShare) ∷ (true, InOrdered) ∷ (false, EndDiffers) ∷ []
tests_of_the_end_in_a_part = refl

-- sections have no test of parts
pub tests_of_the_sections_end : end_tests_of Sections WaitEnd (sees 1 (Some (0, sections_shape 3 Nowait)) false (Some (0, 1)) 0 false) ≡ (false, OutsideShare) ∷ (true, EndDiffers) ∷ []
tests_of_the_sections_end = refl
