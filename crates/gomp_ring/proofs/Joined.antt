-- The seats of a team's members are joined one after another: what the one seat stands for then, what was noted of them, and what it learns at the end.
use Rattle.std.proofs.Common.{◌≡◌, ◌≢◌, ℕ, zero, suc, ◌+◌, ◌-◌, ◌<◌, ◌≤◌, Bool, true, false, List, [], ◌∷◌, ◌++◌, length, map, take, drop, set, get_or, slice_get, Some, None, inl, inr, refl, ap, sym, ◌∙◌, subst, arith, add-one, append_assoc}
use Rattle.std.specs.Prelude.{◌==◌, ◌&&◌, ◌||◌, nat_lt, min}
use Rattle.std.proofs.lemmas.Bool.{cases_Bool, cases_lt, lt-ltb, ltb-true}
use Rattle.std.proofs.lemmas.Bool.Decides.{nat_tests}
use Rattle.std.proofs.lemmas.List.{append-nil, map-append, length-set, take_more, take_more_set, take_all, get_or-drop, length-drop, drop-drop}
use Rattle.std.proofs.lemmas.Option.{slice_get_within, get_or_from_slice_get, slice_get_read, slice_get_cases, same_Some}
use Rattle.atomic_table.specs.declared.shared.Seat.{Seat}
use Rattle.atomic_table.specs.Table.{Me}
use Rattle.gomp_types.specs.declared.shape.Shape.{Shape}
use Rattle.gomp_events.specs.declared.event.Event.{Event}
use Rattle.gomp_events.specs.declared.event.Event.TheVariants.{Enter, End}
use Rattle.gomp_types.specs.Members.{every_member}
use Rattle.gomp_events.specs.Events.{member_of, shares_entered, open_share, has_ended, is_over}
use Rattle.gomp_types.specs.Pieces.{Piece, pieces_of}
use Rattle.gomp_types.specs.Deals.{schedule}
use Rattle.gomp_events.specs.Laws.{Always}
use Rattle.gomp_events.specs.Seen.{seen_of}
use Rattle.gomp_events.specs.declared.seen.Seen.{Seen}
use Rattle.gomp_events.specs.Tasks.{contains}
use Rattle.gomp_types.proofs.Booleans.{and_false, is_equal, other_number, unequal_numbers}
use Rattle.gomp_events.proofs.TaskStacks.{contains_in_either}
use Rattle.gomp_shares.specs.Only.{own_of}
use Rattle.gomp_shares.specs.Rules.{ShareRule, MayLeaveShare}
use Rattle.gomp_shares.proofs.OwnEvents.{seen_own}
use Rattle.gomp_shares.proofs.SharesKeep.{member_is_inside}
use Rattle.gomp_ring.specs.declared.ring.Ring.{Ring}
use Rattle.gomp_slots.specs.declared.view.View.{View}
use Rattle.gomp_slots.specs.Calls.{Settles}
use Rattle.gomp_ring.specs.Gathers.{pieces_taken, pieces_of_all, loop_iterations, IsRearrangement}
use Rattle.gomp_slots.specs.Premises.{IsSeatOf}
use Rattle.gomp_ring.specs.Rings.{ring_members}
use Rattle.gomp_slots.specs.Rule.{stands_for}
use Rattle.gomp_ring.specs.RingSeats.{SeatView, shares_left, IsGivenUp, AreAllSeats, pieces_of_seats, Gathers}
use Rattle.gomp_slots.specs.Seats.{both_view, IsApart}
use Rattle.gomp_ring.proofs.Rearranged.{pieces_are_rearranged}
use Rattle.gomp_slots.proofs.SeatSteps.{own_of_both}
use Rattle.gomp_slots.proofs.WordSteps.{seat_sees}
use Rattle.gomp_ring.proofs.SeatCalls.{pieces_own}

-- how many iterations of loops the member of a seat took
abbrev pub loops_of : SeatView → ℕ
loops_of seat = loop_iterations seat.member seat.did

-- the front of the list with one more seat
front_more : (seats : List SeatView) (seat : SeatView) (k : ℕ) → slice_get seats k ≡ Some seat → take (k + 1) seats ≡ take k seats ++ seat ∷ []
front_more seats seat k at =
    take_more seats k seat (slice_get_within seats k seat at) ∙ ap (λ (s : SeatView). take k seats ++ s ∷ []) (get_or_from_slice_get seats k seat seat at)

-- Events of one member

-- none of them is of another
own_of_another : (m k : ℕ) (h : List Event) → k ≢ m → own_of k (own_of m h) ≡ []
own_of_another m k [] differ = refl
own_of_another m k (event ∷ h) differ = elim (cases_Bool (member_of event == m)) [
  | inl e ↦
      let who = is_equal (member_of event) m e in
      rw (e, other_number (member_of event) k (λ same. differ (sym same ∙ who))) (own_of_another m k h differ)
  | inr e ↦ rw e (own_of_another m k h differ)
]

-- a member's seat knows none of another's
knows_no_other : (m k : ℕ) (did : List Event) → own_of m did ≡ did → k ≢ m → own_of k did ≡ []
knows_no_other m k did own differ = sym (ap (own_of k) own) ∙ own_of_another m k did differ

-- Which members a joined seat stands for

-- the seat stands for the members below this number, and knows what these did
pub record StandsBelow (seats : List SeatView) (count : ℕ) (v : View) : Type 0 where
  pub idle : v.opening ≡ None
  pub stands : (m : ℕ) → stands_for v m ≡ nat_lt m count
  pub own : (m : ℕ) (seat : SeatView) → slice_get seats m ≡ Some seat → m < count → own_of m v.did ≡ seat.did
  pub others : (m : ℕ) → count ≤ m → own_of m v.did ≡ []

-- the seat stands for one member alone, and knows what it did
pub record StandsForOne (seat : SeatView) (m : ℕ) (v : View) : Type 0 where
  pub idle : v.opening ≡ None
  pub mine : v.mine ≡ m ∷ []
  pub did : v.did ≡ seat.did
  pub own : own_of m v.did ≡ v.did

-- as one does that was given up
one_given_up : (before : SeatView) (seat : Seat Shape View) (left taken m : ℕ) → IsGivenUp before seat left taken → before.member ≡ m → StandsForOne before m seat.me.0
one_given_up before seat left taken m given at = record {
  idle = given.idle;
  mine = given.mine ∙ ap (λ (n : ℕ). n ∷ []) at;
  did = given.did;
  own = ap (own_of m) given.did ∙ ap (λ (n : ℕ). own_of n before.did) (sym at) ∙ given.own ∙ sym given.did;
}

-- such a seat stands for no other member
one_stands : (seat : SeatView) (m k : ℕ) (v : View) → StandsForOne seat m v → stands_for v k ≡ (m == k || false)
one_stands seat m k v one = ap (contains k) one.mine

-- what the member of a place did
did_at : (seats : List SeatView) (k m : ℕ) (seat other : SeatView) (did : List Event) → slice_get seats k ≡ Some seat → slice_get seats m ≡ Some other → m ≡ k → own_of k did ≡ seat.did → own_of m did ≡ other.did
did_at seats k m seat other did at there same own =
    let is : seat ≡ other = same_Some seat other (sym at ∙ ap (slice_get seats) (sym same) ∙ there) in
    ap (λ (n : ℕ). own_of n did) same ∙ own ∙ ap (λ (s : SeatView). s.did) is

-- the first seat stands for its member
first_stands_alone : (seats : List SeatView) (seat : SeatView) (v : View) → slice_get seats 0 ≡ Some seat → StandsForOne seat 0 v → StandsBelow seats 1 v
first_stands_alone seats seat v at one = record {
  idle = one.idle;
  stands = λ m. one_stands seat 0 m v one ∙ grind (arith, nat_tests);
  own = λ m other there below. did_at seats 0 m seat other v.did at there (omega arith) (one.own ∙ one.did);
  others = λ m above. knows_no_other 0 m v.did one.own (λ e. omega arith);
}

-- the numbers below the next one
one_more_below : (m k : ℕ) → (nat_lt m k || (k == m || false)) ≡ nat_lt m (k + 1)
one_more_below m k = grind (arith, nat_tests)

-- and a seat that takes in the next one for one more
next_stands : (seats : List SeatView) (seat : SeatView) (k : ℕ) (v w : View) → StandsBelow seats k v → slice_get seats k ≡ Some seat → StandsForOne seat k w → StandsBelow seats (k + 1) (both_view v w)
next_stands seats seat k v w before at one = record {
  idle = before.idle;
  stands = λ m. contains_in_either m v.mine w.mine ∙ ap (λ (b : Bool). b || stands_for w m) (before.stands m) ∙ ap (λ (b : Bool). nat_lt m k || b) (one_stands seat k m w one) ∙ one_more_below m k;
  own = λ m other there below. own_of_both m w.did v.did ∙ elim (cases_lt m k) [
    | inl under ↦ ap (λ (l : List Event). l ++ own_of m v.did) (knows_no_other k m w.did one.own (λ e. omega arith)) ∙ before.own m other there under
    | inr past ↦ ap (λ (l : List Event). own_of m w.did ++ l) (before.others m past) ∙ append-nil (own_of m w.did) ∙ did_at seats k m seat other w.did at there (omega arith) (one.own ∙ one.did)
  ];
  others = λ m above. own_of_both m w.did v.did ∙ ap (λ (l : List Event). l ++ own_of m v.did) (knows_no_other k m w.did one.own (λ e. omega arith)) ∙ before.others m (omega arith);
}

-- neither knows events of the other's members
are_apart : (seats : List SeatView) (seat : SeatView) (k : ℕ) (v w : View) → StandsBelow seats k v → StandsForOne seat k w → IsApart v w
are_apart seats seat k v w before one = record {
  left = λ m is. before.others m (at_most k m (sym (one_stands seat k m w one) ∙ is));
  right = λ m is.
      let below : m < k = ltb-true m k (sym (before.stands m) ∙ is) in
      knows_no_other k m w.did one.own (λ e. omega arith);
}
  where
    at_most : (a b : ℕ) → (a == b || false) ≡ true → a ≤ b
    at_most a b e = grind (arith, nat_tests)

-- What was noted of the joined seats

-- of each share whether all these members have left it, and how many iterations of loops each took
pub record NotedBelow (seats : List SeatView) (count : ℕ) (did : List Event) (shares : ℕ) (taken : List ℕ) : Type 0 where
  pub shares_is : (i : ℕ) → every_member count (λ m. nat_lt i (shares_left (seen_of m did))) ≡ nat_lt i shares
  pub size : length taken ≡ length seats
  pub taken_is : take count taken ≡ map loops_of (take count seats)

-- a member's own events tell which shares it has left
left_known : (before : SeatView) (seat : Seat Shape View) (left taken m : ℕ) (did : List Event) → IsGivenUp before seat left taken → before.member ≡ m → own_of m did ≡ before.did → shares_left (seen_of m did) ≡ left
left_known before seat left taken m did given at own =
    ap shares_left (sym (seen_own m did) ∙ ap (seen_of m) own ∙ ap (λ (n : ℕ). seen_of n before.did) (sym at) ∙ sym given.sees) ∙ sym given.left_is

-- tests that agree below a number
every_same_below : (count : ℕ) (one other : ℕ → Bool) → ((m : ℕ) → m < count → one m ≡ other m) → every_member count one ≡ every_member count other
every_same_below zero one other same = refl
every_same_below (suc count) one other same = rw (same count (omega arith), every_same_below count one other (λ m lt. same m (omega arith))) refl

-- the numbers below two are those below the lesser
both_below : (i left shares : ℕ) → (nat_lt i left && nat_lt i shares) ≡ nat_lt i (min shares left)
both_below i left shares = grind (arith, nat_tests)

-- the numbers of iterations, with one more
taken_more : (seats : List SeatView) (seat : SeatView) (k iterations : ℕ) (taken : List ℕ) → slice_get seats k ≡ Some seat → length taken ≡ length seats → take k taken ≡ map loops_of (take k seats) → iterations ≡ loops_of seat →
    take (k + 1) (set taken k iterations) ≡ map loops_of (take (k + 1) seats)
taken_more seats seat k iterations taken at size before is =
    let lt : k < length seats = slice_get_within seats k seat at in
    take_more_set taken k iterations (omega arith)
    ∙ ap (λ (l : List ℕ). l ++ iterations ∷ []) before
    ∙ ap (λ (n : ℕ). map loops_of (take k seats) ++ n ∷ []) is
    ∙ sym (ap (map loops_of) (front_more seats seat k at) ∙ map-append loops_of (take k seats) (seat ∷ []))

-- of the first seat
first_noted : (seats : List SeatView) (seat : SeatView) (whole : Seat Shape View) (left iterations : ℕ) (taken : List ℕ) → slice_get seats 0 ≡ Some seat → seat.member ≡ 0 → IsGivenUp seat whole left iterations → length taken ≡ length seats →
    NotedBelow seats 1 whole.me.0.did left (set taken 0 iterations)
first_noted seats seat whole left iterations taken at place given size = record {
  shares_is = λ i. alone (nat_lt i (shares_left (seen_of 0 whole.me.0.did))) (nat_lt i left) (ap (nat_lt i) (left_known seat whole left iterations 0 whole.me.0.did given place (one.own ∙ one.did)));
  size = length-set taken 0 iterations ∙ size;
  taken_is = taken_more seats seat 0 iterations taken at size refl given.taken_is;
}
  where
    one : StandsForOne seat 0 whole.me.0
    one = one_given_up seat whole left iterations 0 given place

    alone : (a b : Bool) → a ≡ b → (a && true) ≡ b
    alone true b e = e
    alone false b e = e

-- and of one more
next_noted : (seats : List SeatView) (seat : SeatView) (k : ℕ) (v : View) (other : Seat Shape View) (shares left iterations : ℕ) (taken : List ℕ) → StandsBelow seats k v → slice_get seats k ≡ Some seat → seat.member ≡ k → IsGivenUp seat other left iterations → NotedBelow seats k v.did shares taken →
    NotedBelow seats (k + 1) (both_view v other.me.0).did (min shares left) (set taken k iterations)
next_noted seats seat k v other shares left iterations taken before at place given noted = record {
  shares_is = λ i.
      ap (λ (n : ℕ). every_member n (λ m. nat_lt i (shares_left (seen_of m (other.me.0.did ++ v.did))))) (add-one k)
      ∙ ap (λ (b : Bool). b && every_member k (λ m. nat_lt i (shares_left (seen_of m (other.me.0.did ++ v.did))))) (ap (nat_lt i) last)
      ∙ ap (λ (b : Bool). nat_lt i left && b) (every_same_below k (λ m. nat_lt i (shares_left (seen_of m (other.me.0.did ++ v.did)))) (λ m. nat_lt i (shares_left (seen_of m v.did))) (λ m lt. ap (λ (s : Seen). nat_lt i (shares_left s)) (same m lt)) ∙ noted.shares_is i)
      ∙ both_below i left shares;
  size = length-set taken k iterations ∙ noted.size;
  taken_is = taken_more seats seat k iterations taken at noted.size noted.taken_is given.taken_is;
}
  where
    one : StandsForOne seat k other.me.0
    one = one_given_up seat other left iterations k given place

    after : StandsBelow seats (k + 1) (both_view v other.me.0)
    after = next_stands seats seat k v other.me.0 before at one

    last : shares_left (seen_of k (other.me.0.did ++ v.did)) ≡ left
    last = left_known seat other left iterations k (other.me.0.did ++ v.did) given place (after.own k seat at (omega arith))

    same : (m : ℕ) → m < k → seen_of m (other.me.0.did ++ v.did) ≡ seen_of m v.did
    same m lt = sym (seen_own m (other.me.0.did ++ v.did)) ∙ ap (seen_of m) (own_of_both m other.me.0.did v.did ∙ ap (λ (l : List Event). l ++ own_of m v.did) (knows_no_other k m other.me.0.did one.own (λ e. omega arith))) ∙ seen_own m v.did

-- The seats, one after another

-- the seats below this number are joined into the one, and these are left
pub record Joined (ring : Ring) (seats rest : List SeatView) (count : ℕ) (whole : Seat Shape View) (shares : ℕ) (taken : List ℕ) : Type 0 where
  pub rest_is : rest ≡ drop count seats
  pub within : count ≤ length seats
  pub table : IsSeatOf ring.slots whole
  pub stands : StandsBelow seats count whole.me.0
  pub noted : NotedBelow seats count whole.me.0.did shares taken

-- the first of those that are left is that of the next number
pub next_seat : (ring : Ring) (seats rest : List SeatView) (k size : ℕ) (whole : Seat Shape View) (shares : ℕ) (taken : List ℕ) (seat : SeatView) → Joined ring seats rest k whole shares taken → size ≡ length rest → (size == 0) ≡ false → seat ≡ get_or rest 0 seat →
    slice_get seats k ≡ Some seat
next_seat ring seats rest k size whole shares taken seat joined count more first =
    let some = unequal_numbers size 0 more in
    let left = ap length joined.rest_is ∙ length-drop k seats in
    let number : k + 0 ≡ k = omega arith in
    slice_get_read seats (length seats) k seat refl (omega arith)
    (first ∙ ap (λ (l : List SeatView). get_or l 0 seat) joined.rest_is ∙ get_or-drop k seats 0 seat ∙ ap (λ (n : ℕ). get_or seats n seat) number)

-- the first seat is joined into itself
pub first_joined : (ring : Ring) (seats rest : List SeatView) (seat : SeatView) (whole : Seat Shape View) (left iterations : ℕ) (taken : List ℕ) → AreAllSeats ring seats → slice_get seats 0 ≡ Some seat → IsGivenUp seat whole left iterations → rest ≡ drop 1 seats → length taken ≡ length seats →
    Joined ring seats rest 1 whole left (set taken 0 iterations)
first_joined ring seats rest seat whole left iterations taken all at given is size = record {
  rest_is = is;
  within = let lt = slice_get_within seats 0 seat at in omega arith;
  table = given.table ∙ (all.on 0 seat at).table;
  stands = first_stands_alone seats seat whole.me.0 at (one_given_up seat whole left iterations 0 given (all.place 0 seat at));
  noted = first_noted seats seat whole left iterations taken at (all.place 0 seat at) given size;
}

-- and the next one into it
pub next_joined : (ring : Ring) (seats rest after : List SeatView) (k : ℕ) (seat : SeatView) (whole other now : Seat Shape View) (shares left least iterations : ℕ) (taken : List ℕ) → AreAllSeats ring seats → Joined ring seats rest k whole shares taken → slice_get seats k ≡ Some seat → IsGivenUp seat other left iterations →
    now.table_id ≡ whole.table_id → now.me ≡ (both_view whole.me.0 other.me.0, whole.me.1) → after ≡ drop 1 rest → least ≡ min shares left → Joined ring seats after (k + 1) now least (set taken k iterations)
next_joined ring seats rest after k seat whole other now shares left least iterations taken all joined at given table me is min_is =
    let view : now.me.0 ≡ both_view whole.me.0 other.me.0 = ap (λ (m : Me Shape View). m.0) me in
    let place = all.place k seat at in
    let noted = next_noted seats seat k whole.me.0 other shares left iterations taken joined.stands at place given joined.noted in record {
      rest_is = is ∙ ap (drop 1) joined.rest_is ∙ drop-drop 1 k seats;
      within = let lt = slice_get_within seats k seat at in omega arith;
      table = table ∙ joined.table;
      stands = subst (StandsBelow seats (k + 1)) (sym view) (next_stands seats seat k whole.me.0 other.me.0 joined.stands at (one_given_up seat other left iterations k given place));
      noted = rw (view, min_is) noted;
    }

-- neither of the two knows events of the other's members
pub joined_apart : (ring : Ring) (seats rest : List SeatView) (k : ℕ) (seat : SeatView) (whole other : Seat Shape View) (shares left iterations : ℕ) (taken : List ℕ) → AreAllSeats ring seats → Joined ring seats rest k whole shares taken → slice_get seats k ≡ Some seat → IsGivenUp seat other left iterations → IsApart whole.me.0 other.me.0
joined_apart ring seats rest k seat whole other shares left iterations taken all joined at given = are_apart seats seat k whole.me.0 other.me.0 joined.stands (one_given_up seat other left iterations k given (all.place k seat at))

-- What is known at the end

-- a member has left the shares below those that it entered, but for the one that it is in, and no others
left_below : (members m i : ℕ) (h : List Event) → Always (ShareRule (schedule members) members) h → has_ended i m h ≡ nat_lt i (shares_left (seen_of m h))
left_below members m i [] all = grind (arith, nat_tests)
left_below members m i (Enter share member shape ∷ earlier) all = elim (cases_Bool (member == m)) [
  | inl e ↦
      let outside : open_share m earlier ≡ None = rw (is_equal member m e) at all.0.outside in
      let before : has_ended i m earlier ≡ nat_lt i (shares_entered m earlier) = rw outside at (left_below members m i earlier all.1) in
      let same : shares_entered m earlier + 1 - 1 ≡ shares_entered m earlier = omega arith in
      rw e (before ∙ ap (nat_lt i) (sym same))
  | inr e ↦ rw e (left_below members m i earlier all.1)
]
left_below members m i (End share member ∷ earlier) all = elim (cases_Bool (member == m)) [
  | inl e ↦
      let may : MayLeaveShare (schedule members) share m earlier = rw (is_equal member m e) at all.0 in
      let inside = member_is_inside (schedule members) members m share may.shape earlier all.1 may.inside in
      let number : shares_entered m earlier ≡ share + 1 = inside.2 in
      let before : has_ended i m earlier ≡ nat_lt i (shares_entered m earlier - 1) = rw may.inside at (left_below members m i earlier all.1) in
      rw e (ap (λ (b : Bool). (share == i && true) || b) before ∙ one_left i share (shares_entered m earlier) number)
  | inr e ↦ rw (e, and_false (share == i) false refl) (left_below members m i earlier all.1)
]
  where
    one_left : (a b n : ℕ) → n ≡ b + 1 → ((b == a && true) || nat_lt a (n - 1)) ≡ nat_lt a n
    one_left a b n e = grind (arith, nat_tests)
left_below members m i (_ ∷ earlier) all = left_below members m i earlier all.1

-- the pieces of the seats, with one more
pieces_one_more : (i : ℕ) (seats : List SeatView) (seat : SeatView) → pieces_of_seats i (seats ++ seat ∷ []) ≡ pieces_of_seats i seats ++ pieces_taken i seat.member seat.did
pieces_one_more i [] seat = append-nil (pieces_taken i seat.member seat.did)
pieces_one_more i (first ∷ seats) seat =
    ap (λ (l : List Piece). pieces_taken i first.member first.did ++ l) (pieces_one_more i seats seat)
    ∙ sym (append_assoc (pieces_taken i first.member first.did) (pieces_of_seats i seats) (pieces_taken i seat.member seat.did))

-- the pieces of the members are those of their seats
pieces_are : (i count : ℕ) (seats : List SeatView) (h : List Event) → count ≤ length seats → ((m : ℕ) (seat : SeatView) → slice_get seats m ≡ Some seat → (seat.member ≡ m) × (seat.did ≡ own_of m h)) → pieces_of_all count i h ≡ pieces_of_seats i (take count seats)
pieces_are i zero seats h few each = refl
pieces_are i (suc m) seats h few each = elim (slice_get_cases seats m).1 [
  | inl found ↦
      let seat = found.0 in
      let is = each m seat found.2 in
      let own : pieces_taken i m h ≡ pieces_taken i seat.member seat.did = sym (pieces_own i m h) ∙ ap (pieces_taken i m) (sym is.1) ∙ ap (λ (n : ℕ). pieces_taken i n seat.did) (sym is.0) in
      ap (λ (l : List Piece). l ++ pieces_taken i m h) (pieces_are i m seats h (omega arith) each)
      ∙ ap (λ (l : List Piece). pieces_of_seats i (take m seats) ++ l) own
      ∙ sym (ap (pieces_of_seats i) (ap (λ (n : ℕ). take n seats) (sym (add-one m)) ∙ front_more seats seat m found.2) ∙ pieces_one_more i (take m seats) seat)
  | inr past ↦ absurd (let most = past.0 in omega arith)
]

-- all seats are joined, and the one seat has learned that there is a list of events
pub seats_are_gathered : (ring : Ring) (seats rest : List SeatView) (count left : ℕ) (whole : Seat Shape View) (shares : ℕ) (taken : List ℕ) → 0 < ring_members ring → AreAllSeats ring seats → Joined ring seats rest count whole shares taken → left ≡ length rest → (left == 0) ≡ true → Settles (ring_members ring) whole.me.0 →
    Gathers (ring_members ring) seats shares taken
seats_are_gathered ring seats rest count left whole shares taken some all joined left_is none settled = record {
  events = settled.events;
  rule = settled.rule;
  clean = settled.clean;
  own = own;
  shares_is = shares_is;
  taken_is = sym (take_all count taken (let same = size in let each = joined.noted.size in let all_of = all.count in omega arith)) ∙ joined.noted.taken_is ∙ ap (map loops_of) (take_all count seats (let same = size in let all_of = all.count in omega arith));
  pieces = λ i shape at below uncancelled.
      subst (λ (l : List Piece). IsRearrangement l (pieces_of (ring_members ring) shape))
      (pieces_are i (ring_members ring) seats settled.events (let all_of = all.count in omega arith) (λ m seat there. (all.place m seat there, own m seat there)) ∙ ap (pieces_of_seats i) (take_all (ring_members ring) seats (let all_of = all.count in omega arith)))
      (pieces_are_rearranged (ring_members ring) i shape settled.events some settled.rule at (settled.shapes i shape at).valid (shares_is i ∙ lt-ltb i shares below) uncancelled);
}
  where
    size : count ≡ ring_members ring
    size = let nothing = is_equal left 0 none in let rest_of = ap length joined.rest_is ∙ length-drop count seats in let within = joined.within in let all_of = all.count in omega arith

    stands : (m : ℕ) → m < ring_members ring → stands_for whole.me.0 m ≡ true
    stands m lt = joined.stands.stands m ∙ lt-ltb m count (let same = size in omega arith)

    own : (m : ℕ) (seat : SeatView) → slice_get seats m ≡ Some seat → seat.did ≡ own_of m settled.events
    own m seat at =
        let lt = slice_get_within seats m seat at in
        let all_of = all.count in
        let same = size in
        sym (joined.stands.own m seat at (omega arith)) ∙ settled.knows.own m (stands m (omega arith))

    shares_is : (i : ℕ) → is_over (ring_members ring) i settled.events ≡ nat_lt i shares
    shares_is i =
        every_same_below (ring_members ring) (λ m. has_ended i m settled.events) (λ m. nat_lt i (shares_left (seen_of m whole.me.0.did))) (λ m lt.
        left_below (ring_members ring) m i settled.events settled.rule ∙ ap (λ (s : Seen). nat_lt i (shares_left s)) (sym (seat_sees m whole.me.0 settled.events settled.knows (stands m lt))))
        ∙ ap (λ (n : ℕ). every_member n (λ m. nat_lt i (shares_left (seen_of m whole.me.0.did)))) (sym size)
        ∙ joined.noted.shares_is i
