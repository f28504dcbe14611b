-- What each event changes of what a list says of work-shares, ordered parts and words, for any member, share and list; no other event changes it.
use Rattle.std.proofs.Common.{◌≡◌, ◌≢◌, ℕ, ℤ, ◌+◌, ◌<◌, ◌≤◌, Bool, true, false, List, [], ◌∷◌, Option, Some, None, refl, subst, arith, inl, inr, slice_get}
use Rattle.std.specs.Prelude.{◌&&◌, ◌==◌, nat_le, nat_lt}
use Rattle.std.proofs.lemmas.Bool.{cases_Bool}
use Rattle.std.proofs.lemmas.Bool.Decides.{nat_tests}
use Rattle.gomp_types.specs.declared.refusal.Clash.{Clash}
use Rattle.gomp_types.specs.declared.refusal.Place.{Place}
use Rattle.gomp_types.specs.declared.shape.Shape.{Shape}
use Rattle.gomp_types.specs.declared.shape.ShareKind.{ShareKind}
use Rattle.gomp_types.specs.declared.key.Key.{Key}
use Rattle.gomp_types.specs.declared.task.Task.{Task}
use Rattle.gomp_types.specs.declared.task.TaskDesc.{TaskDesc}
use Rattle.gomp_types.specs.declared.depend.Dep.{Dep}
use Rattle.gomp_types.specs.declared.cancel.CancelKind.{CancelKind}
use Rattle.gomp_types.specs.declared.cancel.Scope.{Scope}
use Rattle.gomp_events.specs.declared.event.Tag.{Tag}
use Rattle.gomp_events.specs.declared.event.Event.{Event}
use Rattle.gomp_events.specs.declared.event.Event.TheVariants.{Enter, Take, Drained, End, HandOn, Part, PartEnd, Put, Got, Arrive, Pass, Hold, Free, Create, Start, Done, Group, GroupEnd, Waited, Cancel, Discard, See, Break}
use Rattle.gomp_events.specs.Events.{member_of, shares_entered, open_share, is_inside, open_number, in_kind, has_drained, last_piece, shape_at, has_ended, is_over, times_taken, turn, holds_piece, next_part, in_part, open_part, payload_at, has_piece, has_words, arrival, tag_at, clash_of}
use Rattle.gomp_types.specs.Pieces.{has_iteration}
use Rattle.gomp_types.specs.Pieces.{Piece, pieces_of}
use Rattle.gomp_types.specs.Values.{iteration_of}
use Rattle.gomp_events.specs.Ordered.{has_turn, must_wait, is_ordered, is_in_rest, comes_next}
use Rattle.gomp_events.specs.Cancels.{leaves_share}
use Rattle.gomp_events.specs.Seen.{seen_of}
use Rattle.gomp_events.specs.Laws.{Happened}
use Rattle.gomp_types.proofs.Booleans.{and_left, and_right, and_false, or_right, not_both, same_number, other_number, is_equal, every_tells, every_by}
use Rattle.gomp_events.proofs.Numbering.{same_is, piece_same_as_itself}

-- Whose event it is

-- an event on a share is its member's, whatever else it says
pub share_event_has_its_member :
    (i m low high k : ℕ) (shape : Shape) (words : List ℕ) →
    (member_of (Enter i m shape) ≡ m) × (member_of (Take i m low high) ≡ m) × (member_of (Drained i m) ≡ m) × (member_of (End i m) ≡ m) × (member_of (HandOn i m k) ≡ m)
    × (member_of (Part i m k) ≡ m) × (member_of (PartEnd i m) ≡ m) × (member_of (Put i m words) ≡ m) × (member_of (Got i m words) ≡ m)
share_event_has_its_member i m low high k shape words = (refl, refl, refl, refl, refl, refl, refl, refl, refl)

-- so is one on a barrier, a name, a lock or a break
pub barrier_event_has_its_member :
    (g m : ℕ) (tag : Tag) (key : Key) (task : Task) (place : Place) →
    (member_of (Arrive g m tag) ≡ m) × (member_of (Pass g m) ≡ m) × (member_of (Hold key m task) ≡ m) × (member_of (Free key m task) ≡ m) × (member_of (Break m place) ≡ m)
barrier_event_has_its_member g m tag key task place = (refl, refl, refl, refl, refl)

-- and one on a task, a group or a cancellation
pub task_event_has_its_member :
    (t m q : ℕ) (p : Task) (desc : TaskDesc) (items : List Dep) (scope : Scope) (kind : CancelKind) →
    (member_of (Create t m p desc) ≡ m) × (member_of (Start t m) ≡ m) × (member_of (Done t m) ≡ m) × (member_of (Group q m) ≡ m) × (member_of (GroupEnd q m) ≡ m)
    × (member_of (Waited m items) ≡ m) × (member_of (Cancel m scope) ≡ m) × (member_of (Discard t m) ≡ m) × (member_of (See m kind) ≡ m)
task_event_has_its_member t m q p desc items scope kind = (refl, refl, refl, refl, refl, refl, refl, refl, refl)

-- A member's share

-- a member begins with nothing entered
pub nothing_entered_at_first : (m : ℕ) → (shares_entered m [] ≡ 0) × (open_share m [] ≡ None)
nothing_entered_at_first m = (refl, refl)

-- a member is in the share that it has entered, as what it is there
pub inside_once_entered : (i m : ℕ) (shape : Shape) (h : List Event) → open_share m (Enter i m shape ∷ h) ≡ Some (i, shape)
inside_once_entered i m shape h = rw (same_number m) refl

-- in none once it has left
pub outside_once_left : (i m : ℕ) (h : List Event) → open_share m (End i m ∷ h) ≡ None
outside_once_left i m h = rw (same_number m) refl

-- and it has entered one more
pub entry_counts_its_own : (i m : ℕ) (shape : Shape) (h : List Event) → shares_entered m (Enter i m shape ∷ h) ≡ shares_entered m h + 1
entry_counts_its_own i m shape h = rw (same_number m) refl

-- of a share that it has entered it has no piece, no part, and was not answered that nothing is left
pub entry_begins_anew :
    (i m : ℕ) (shape : Shape) (h : List Event) →
    (last_piece m (Enter i m shape ∷ h) ≡ None) × (holds_piece m (Enter i m shape ∷ h) ≡ false) × (next_part m (Enter i m shape ∷ h) ≡ 0)
    × (in_part m (Enter i m shape ∷ h) ≡ false) × (has_drained m (Enter i m shape ∷ h) ≡ false)
entry_begins_anew i m shape h = (rw (same_number m) refl, rw (same_number m) refl, rw (same_number m) refl, rw (same_number m) refl, rw (same_number m) refl)

-- the piece that it took is its last, and it holds it
pub take_gives_the_piece : (i m low high : ℕ) (h : List Event) → (last_piece m (Take i m low high ∷ h) ≡ Some (low, high)) × (holds_piece m (Take i m low high ∷ h) ≡ true)
take_gives_the_piece i m low high h = (rw (same_number m) refl, rw (same_number m) refl)

-- until it has handed it on
pub hand_on_gives_it_up : (i m piece : ℕ) (h : List Event) → holds_piece m (HandOn i m piece ∷ h) ≡ false
hand_on_gives_it_up i m piece h = rw (same_number m) refl

-- or nothing is left
pub drained_leaves_no_piece : (i m : ℕ) (h : List Event) → (last_piece m (Drained i m ∷ h) ≡ None) × (has_drained m (Drained i m ∷ h) ≡ true)
drained_leaves_no_piece i m h = (rw (same_number m) refl, rw (same_number m) refl)

-- it is in the ordered part that it began, and the next is a later one
pub part_begins : (i m k : ℕ) (h : List Event) → (in_part m (Part i m k ∷ h) ≡ true) × (next_part m (Part i m k ∷ h) ≡ k + 1)
part_begins i m k h = (rw (same_number m) refl, rw (same_number m) refl)

-- until it ended it
pub part_is_ended : (i m : ℕ) (h : List Event) → in_part m (PartEnd i m ∷ h) ≡ false
part_is_ended i m h = rw (same_number m) refl

-- what an event of another member says of this one: nothing
abbrev MemberSame : ℕ → List Event → List Event → Type 0
MemberSame m later h =
    (shares_entered m later ≡ shares_entered m h)
    × (open_share m later ≡ open_share m h)
    × (has_drained m later ≡ has_drained m h)
    × (last_piece m later ≡ last_piece m h)
    × (holds_piece m later ≡ holds_piece m h)
    × (next_part m later ≡ next_part m h)
    × (in_part m later ≡ in_part m h)

other_says_nothing : (m : ℕ) (event : Event) (h : List Event) → (member_of event == m) ≡ false → MemberSame m (event ∷ h) h
other_says_nothing m (Enter i n shape) h other = (rw other refl, rw other refl, rw other refl, rw other refl, rw other refl, rw other refl, rw other refl)
other_says_nothing m (Take i n low high) h other = (refl, refl, refl, rw other refl, rw other refl, refl, refl)
other_says_nothing m (Drained i n) h other = (refl, refl, rw other refl, rw other refl, refl, refl, refl)
other_says_nothing m (End i n) h other = (refl, rw other refl, refl, refl, refl, refl, refl)
other_says_nothing m (HandOn i n piece) h other = (refl, refl, refl, refl, rw other refl, refl, refl)
other_says_nothing m (Part i n k) h other = (refl, refl, refl, refl, refl, rw other refl, rw other refl)
other_says_nothing m (PartEnd i n) h other = (refl, refl, refl, refl, refl, refl, rw other refl)
other_says_nothing m _ h other = (refl, refl, refl, refl, refl, refl, refl)

pub events_of_others_say_nothing : (m : ℕ) (event : Event) (h : List Event) → member_of event ≢ m → MemberSame m (event ∷ h) h
events_of_others_say_nothing m event h differ = other_says_nothing m event h (other_number (member_of event) m differ)

-- a member leaves its share by its own end alone, and comes into one by its own entry alone
pub share_stays_otherwise :
    (m : ℕ) (event : Event) (h : List Event) → ((i n : ℕ) (shape : Shape) → event ≢ Enter i n shape) → ((i n : ℕ) → event ≢ End i n) →
    (open_share m (event ∷ h) ≡ open_share m h) × (shares_entered m (event ∷ h) ≡ shares_entered m h)
share_stays_otherwise m (Enter i n shape) h enters ends = absurd (enters i n shape refl)
share_stays_otherwise m (End i n) h enters ends = absurd (ends i n refl)
share_stays_otherwise m _ h enters ends = (refl, refl)

-- A share

-- a share has its number
pub own_share_has_its_number : (m i : ℕ) (shape : Shape) (h : List Event) → open_share m h ≡ Some (i, shape) → (open_number m h ≡ i) × (is_inside m h ≡ true)
own_share_has_its_number m i shape h inside = rw inside (refl, refl)

-- its kind and its clause, whatever else it is
pub own_share_has_its_kind : (is : ShareKind → Bool) (i : ℕ) (shape : Shape) → (in_kind is (Some (i, shape)) ≡ is shape.kind) × (is_ordered (Some (i, shape)) ≡ shape.ordered)
own_share_has_its_kind is i shape = (refl, refl)

-- and what is none has no kind
pub no_share_has_a_kind : (is : ShareKind → Bool) → (in_kind is None ≡ false) × (is_ordered None ≡ false)
no_share_has_a_kind is = (refl, refl)

-- what is seen of a member's place tells whether nothing is left for it, whether it is in a part, and whether it leaves
pub seen_has_its_answers : (m : ℕ) (h : List Event) → ((seen_of m h).drained ≡ has_drained m h) × ((seen_of m h).in_part ≡ in_part m h) × ((seen_of m h).leaving ≡ leaves_share m h)
seen_has_its_answers m h = (refl, refl, refl)

-- a share is what the member says that entered it last
pub shape_of_its_entry : (i m : ℕ) (shape : Shape) (h : List Event) → shape_at i (Enter i m shape ∷ h) ≡ Some shape
shape_of_its_entry i m shape h = rw (same_number i) refl

-- and is nothing while nobody entered it
pub no_shape_without_entry : (i : ℕ) (h : List Event) → ((m : ℕ) (shape : Shape) → Happened (Enter i m shape) h → ⊥) → shape_at i h ≡ None
no_shape_without_entry i [] never = refl
no_shape_without_entry i (Enter j n shape ∷ earlier) never = elim (cases_Bool (j == i)) [
  | inl here ↦ absurd (never n shape (inl (let same = is_equal j i here in rw same refl)))
  | inr other ↦ rw other (no_shape_without_entry i earlier (λ m one was. never m one (inr was)))
]
no_shape_without_entry i (_ ∷ earlier) never = no_shape_without_entry i earlier (λ m shape was. never m shape (inr was))

-- a member has left a share once it has ended it
pub ended_once_left : (i m : ℕ) (h : List Event) → Happened (End i m) h → has_ended i m h ≡ true
ended_once_left i m [] never = absurd never
ended_once_left i m (End j n ∷ earlier) (inl e) = let share : j ≡ i = cc in let who : n ≡ m = cc in rw (share, who, same_number i, same_number m) refl
ended_once_left i m (End j n ∷ earlier) (inr was) = or_right (j == i && n == m) (has_ended i m earlier) (ended_once_left i m earlier was)
ended_once_left i m (_ ∷ earlier) (inl e) = absurd (cc)
ended_once_left i m (_ ∷ earlier) (inr was) = ended_once_left i m earlier was

-- and only then
pub ended_by_none : (i m : ℕ) (h : List Event) → (Happened (End i m) h → ⊥) → has_ended i m h ≡ false
ended_by_none i m [] never = refl
ended_by_none i m (End j n ∷ earlier) never = elim (cases_Bool (j == i && n == m)) [
  | inl both ↦ absurd (never (inl (let share = is_equal j i (and_left (j == i) (n == m) both) in let who = is_equal n m (and_right (j == i) (n == m) both) in rw (share, who) refl)))
  | inr other ↦ rw other (ended_by_none i m earlier (λ was. never (inr was)))
]
ended_by_none i m (_ ∷ earlier) never = ended_by_none i m earlier (λ was. never (inr was))

-- a share is over once each member of the team has left it, however many they are and by whatever number it goes
pub over_once_each_left : (members i : ℕ) (h : List Event) → ((x : ℕ) → x < members → Happened (End i x) h) → is_over members i h ≡ true
over_once_each_left members i h each = every_by members (λ m. has_ended i m h) (λ x within. ended_once_left i x h (each x within))

-- and only then
pub over_only_if_each_left : (members i x : ℕ) (h : List Event) → is_over members i h ≡ true → x < members → (Happened (End i x) h → ⊥) → ⊥
over_only_if_each_left members i x h over within never = not_both (has_ended i x h) (every_tells members (λ m. has_ended i m h) x over within) (ended_by_none i x h never)

-- each take of an iteration counts, by whichever member
pub take_counts_once : (i m k low high : ℕ) (h : List Event) → has_iteration k low high ≡ true → times_taken i k (Take i m low high ∷ h) ≡ times_taken i k h + 1
take_counts_once i m k low high h there = rw (same_number i, there) refl

-- and no other take
pub take_counts_no_other : (i m k low high : ℕ) (h : List Event) → has_iteration k low high ≡ false → times_taken i k (Take i m low high ∷ h) ≡ times_taken i k h
take_counts_no_other i m k low high h away = rw (same_number i, away) refl

-- each hand-on brings the turn to the next piece
pub hand_on_brings_the_turn : (i m piece : ℕ) (h : List Event) → turn i (HandOn i m piece ∷ h) ≡ turn i h + 1
hand_on_brings_the_turn i m piece h = rw (same_number i) refl

-- a member has the turn once the piece with the number of the turn is its last, whatever its number and its iterations
pub turn_of_its_piece : (members i m : ℕ) (shape : Shape) (piece : Piece) (h : List Event) → slice_get (pieces_of members shape) (turn i h) ≡ Some piece → last_piece m h ≡ Some piece → has_turn members (i, shape) m h ≡ true
turn_of_its_piece members i m shape piece h next own = rw (next, own) (piece_same_as_itself piece)

-- and only then
pub turn_of_no_other_piece : (members i m : ℕ) (shape : Shape) (h : List Event) → has_turn members (i, shape) m h ≡ true → (piece : Piece) × (slice_get (pieces_of members shape) (turn i h) ≡ Some piece) × (last_piece m h ≡ Some piece)
turn_of_no_other_piece members i m shape h is = let found = same_is (slice_get (pieces_of members shape) (turn i h)) (last_piece m h) is in ((found.0, found.1), found.2, found.3)

-- it waits for the turn in an ordered loop alone, and no longer than it has none
pub waits_for_its_turn : (members i m : ℕ) (shape : Shape) (h : List Event) → shape.ordered ≡ true → has_turn members (i, shape) m h ≡ false → must_wait members (i, shape) m h ≡ true
waits_for_its_turn members i m shape h ordered none = rw (none, ordered) refl

pub waits_no_more_at_its_turn : (members i m : ℕ) (shape : Shape) (h : List Event) → has_turn members (i, shape) m h ≡ true → must_wait members (i, shape) m h ≡ false
waits_no_more_at_its_turn members i m shape h is = rw is (and_false shape.ordered false refl)

pub waits_in_no_other_loop : (members i m : ℕ) (shape : Shape) (h : List Event) → shape.ordered ≡ false → must_wait members (i, shape) m h ≡ false
waits_in_no_other_loop members i m shape h other = rw other refl

-- a part may begin whose iteration lies in the member's piece, and after those that it has begun
pub part_comes_next : (i k low high after : ℕ) (value : ℤ) (shape : Shape) → iteration_of shape value ≡ Some k → low ≤ k → k < high → after ≤ k → comes_next (Some (i, shape)) (Some (low, high)) after value ≡ true
part_comes_next i k low high after value shape is from to behind =
    let above : nat_le low k ≡ true = grind (arith, nat_tests, from) in
    let below : nat_lt k high ≡ true = grind (arith, nat_tests, to) in
    let later : nat_le after k ≡ true = grind (arith, nat_tests, behind) in
    rw (is, above, below, later) refl

-- and no other
pub no_other_part_comes_next : (i k low high after : ℕ) (value : ℤ) (shape : Shape) → iteration_of shape value ≡ Some k → comes_next (Some (i, shape)) (Some (low, high)) after value ≡ true → (low ≤ k) × (k < high) × (after ≤ k)
no_other_part_comes_next i k low high after value shape is next =
    let here : is_in_rest (Some (low, high)) after (Some k) ≡ true = subst (λ (found : Option ℕ). is_in_rest (Some (low, high)) after found ≡ true) is next in
    let within = and_left (has_iteration k low high) (nat_le after k) here in
    let from = and_left (nat_le low k) (nat_lt k high) within in
    let to = and_right (nat_le low k) (nat_lt k high) within in
    let behind = and_right (has_iteration k low high) (nat_le after k) here in
    (grind (arith, nat_tests, from), grind (arith, nat_tests, to), grind (arith, nat_tests, behind))

pub no_part_without_iteration : (i after : ℕ) (value : ℤ) (shape : Shape) (piece : Option Piece) → iteration_of shape value ≡ None → comes_next (Some (i, shape)) piece after value ≡ false
no_part_without_iteration i after value shape None is = refl
no_part_without_iteration i after value shape (Some piece) is = rw is refl

-- the ordered part of a share is open from its beginning
pub part_opens : (i m k : ℕ) (h : List Event) → open_part i (Part i m k ∷ h) ≡ Some m
part_opens i m k h = rw (same_number i) refl

-- to its end
pub part_closes : (i m : ℕ) (h : List Event) → open_part i (PartEnd i m ∷ h) ≡ None
part_closes i m h = rw (same_number i) refl

-- the words of a share are those that were put
pub words_as_they_were_put : (i m : ℕ) (words : List ℕ) (h : List Event) → payload_at i (Put i m words ∷ h) ≡ Some words
words_as_they_were_put i m words h = rw (same_number i) refl

-- a member has a piece once it has taken one
pub piece_once_taken : (i m low high : ℕ) (h : List Event) → has_piece i m (Take i m low high ∷ h) ≡ true
piece_once_taken i m low high h = rw (same_number i, same_number m) refl

-- and keeps it
pub piece_stays_taken : (i m : ℕ) (event : Event) (h : List Event) → has_piece i m h ≡ true → has_piece i m (event ∷ h) ≡ true
piece_stays_taken i m (Take j n low high) h is = or_right (j == i && n == m) (has_piece i m h) is
piece_stays_taken i m _ h is = is

-- and has none of which it took none
pub no_piece_without_take : (i m : ℕ) (h : List Event) → ((low high : ℕ) → Happened (Take i m low high) h → ⊥) → has_piece i m h ≡ false
no_piece_without_take i m [] never = refl
no_piece_without_take i m (Take j n low high ∷ earlier) never = elim (cases_Bool (j == i && n == m)) [
  | inl both ↦ absurd (never low high (inl (let share = is_equal j i (and_left (j == i) (n == m) both) in let who = is_equal n m (and_right (j == i) (n == m) both) in rw (share, who) refl)))
  | inr other ↦ rw other (no_piece_without_take i m earlier (λ from to was. never from to (inr was)))
]
no_piece_without_take i m (_ ∷ earlier) never = no_piece_without_take i m earlier (λ low high was. never low high (inr was))

-- it has the words once it has put them, or was given them
pub words_once_put : (i m : ℕ) (words : List ℕ) (h : List Event) → has_words i m (Put i m words ∷ h) ≡ true
words_once_put i m words h = rw (same_number i, same_number m) refl

pub words_once_got : (i m : ℕ) (words : List ℕ) (h : List Event) → has_words i m (Got i m words ∷ h) ≡ true
words_once_got i m words h = rw (same_number i, same_number m) refl

-- and keeps them
pub words_stay_had : (i m : ℕ) (event : Event) (h : List Event) → has_words i m h ≡ true → has_words i m (event ∷ h) ≡ true
words_stay_had i m (Put j n words) h is = or_right (j == i && n == m) (has_words i m h) is
words_stay_had i m (Got j n words) h is = or_right (j == i && n == m) (has_words i m h) is
words_stay_had i m _ h is = is

-- and has none that it neither put nor was given
pub no_words_without_either : (i m : ℕ) (h : List Event) → ((words : List ℕ) → Happened (Put i m words) h → ⊥) → ((words : List ℕ) → Happened (Got i m words) h → ⊥) → has_words i m h ≡ false
no_words_without_either i m [] put got = refl
no_words_without_either i m (Put j n words ∷ earlier) put got = elim (cases_Bool (j == i && n == m)) [
  | inl both ↦ absurd (put words (inl (let share = is_equal j i (and_left (j == i) (n == m) both) in let who = is_equal n m (and_right (j == i) (n == m) both) in rw (share, who) refl)))
  | inr other ↦ rw other (no_words_without_either i m earlier (λ one was. put one (inr was)) (λ one was. got one (inr was)))
]
no_words_without_either i m (Got j n words ∷ earlier) put got = elim (cases_Bool (j == i && n == m)) [
  | inl both ↦ absurd (got words (inl (let share = is_equal j i (and_left (j == i) (n == m) both) in let who = is_equal n m (and_right (j == i) (n == m) both) in rw (share, who) refl)))
  | inr other ↦ rw other (no_words_without_either i m earlier (λ one was. put one (inr was)) (λ one was. got one (inr was)))
]
no_words_without_either i m (_ ∷ earlier) put got = no_words_without_either i m earlier (λ one was. put one (inr was)) (λ one was. got one (inr was))

-- a share has no words while nobody put some
pub no_payload_without_put : (i : ℕ) (h : List Event) → ((m : ℕ) (words : List ℕ) → Happened (Put i m words) h → ⊥) → payload_at i h ≡ None
no_payload_without_put i [] never = refl
no_payload_without_put i (Put j n words ∷ earlier) never = elim (cases_Bool (j == i)) [
  | inl here ↦ absurd (never n words (inl (let same = is_equal j i here in rw same refl)))
  | inr other ↦ rw other (no_payload_without_put i earlier (λ m one was. never m one (inr was)))
]
no_payload_without_put i (_ ∷ earlier) never = no_payload_without_put i earlier (λ m words was. never m words (inr was))

-- what an event of another share says of this one: nothing
abbrev ShareSame : ℕ → List Event → List Event → Type 0
ShareSame i later h =
    (shape_at i later ≡ shape_at i h)
    × ((k : ℕ) → times_taken i k later ≡ times_taken i k h)
    × (turn i later ≡ turn i h)
    × (open_part i later ≡ open_part i h)
    × (payload_at i later ≡ payload_at i h)

-- whether an event is one of the share, of those that say something of it
abbrev is_of_share : ℕ → Event → Bool
is_of_share i (Enter j n shape) = j == i
is_of_share i (Take j n low high) = j == i
is_of_share i (HandOn j n piece) = j == i
is_of_share i (Part j n k) = j == i
is_of_share i (PartEnd j n) = j == i
is_of_share i (Put j n words) = j == i
is_of_share i _ = false

pub says_nothing_of_another_share : (i : ℕ) (event : Event) (h : List Event) → is_of_share i event ≡ false → ShareSame i (event ∷ h) h
says_nothing_of_another_share i (Enter j n shape) h other = (rw other refl, (λ k. refl), refl, refl, refl)
says_nothing_of_another_share i (Take j n low high) h other = (refl, (λ k. rw other refl), refl, refl, refl)
says_nothing_of_another_share i (HandOn j n piece) h other = (refl, (λ k. refl), rw other refl, refl, refl)
says_nothing_of_another_share i (Part j n k) h other = (refl, (λ x. refl), refl, rw other refl, refl)
says_nothing_of_another_share i (PartEnd j n) h other = (refl, (λ x. refl), refl, rw other refl, refl)
says_nothing_of_another_share i (Put j n words) h other = (refl, (λ x. refl), refl, refl, rw other refl)
says_nothing_of_another_share i _ h other = (refl, (λ k. refl), refl, refl, refl)

-- Arrivals

-- the tag at a barrier is that of the last arrival there, and so is a member's
pub tag_of_the_last_arrival : (g m : ℕ) (tag : Tag) (h : List Event) → (tag_at g (Arrive g m tag ∷ h) ≡ Some tag) × (arrival g m (Arrive g m tag ∷ h) ≡ Some tag)
tag_of_the_last_arrival g m tag h = (rw (same_number g) refl, rw (same_number g, same_number m) refl)

-- without one there is none
pub no_tag_without_arrival : (g : ℕ) (h : List Event) → ((n : ℕ) (tag : Tag) → Happened (Arrive g n tag) h → ⊥) → tag_at g h ≡ None
no_tag_without_arrival g [] never = refl
no_tag_without_arrival g (Arrive barrier n tag ∷ earlier) never = elim (cases_Bool (barrier == g)) [
  | inl here ↦ absurd (never n tag (inl (let same = is_equal barrier g here in rw same refl)))
  | inr other ↦ rw other (no_tag_without_arrival g earlier (λ m one was. never m one (inr was)))
]
no_tag_without_arrival g (_ ∷ earlier) never = no_tag_without_arrival g earlier (λ m tag was. never m tag (inr was))

-- Breaks

-- the first cause is the first, whatever breaks the team later and whoever does
pub first_cause_stays : (clash : Clash) (event : Event) (h : List Event) → clash_of h ≡ Some clash → clash_of (event ∷ h) ≡ Some clash
first_cause_stays clash (Break m place) h was = rw was refl
first_cause_stays clash _ h was = was

-- a break of a team that is whole is one
pub break_is_the_first_cause : (m : ℕ) (place : Place) (h : List Event) → clash_of h ≡ None → clash_of (Break m place ∷ h) ≡ Some (record { member = m; place = place })
break_is_the_first_cause m place h whole = rw whole refl

-- and without a break there is none
pub whole_without_break : (h : List Event) → ((m : ℕ) (place : Place) → Happened (Break m place) h → ⊥) → clash_of h ≡ None
whole_without_break [] never = refl
whole_without_break (Break m place ∷ earlier) never = absurd (never m place (inl refl))
whole_without_break (_ ∷ earlier) never = whole_without_break earlier (λ m place was. never m place (inr was))
