-- What the seat of a member keeps at each call, and what the call tells.
use Rattle.std.proofs.Common.{◌≡◌, ℕ, zero, suc, ◌+◌, ◌-◌, ◌*◌, ◌/◌, ◌^◌, ◌<◌, ◌≤◌, Bool, true, false, List, [], ◌∷◌, ◌++◌, slice_get, length, Option, Some, None, inl, inr, refl, ap, sym, ◌∙◌, subst, suc-mul, arith}
use Rattle.std.specs.Int.{div_ceil}
use Rattle.std.proofs.Math.Nat.{mul-le-mul_right}
use Rattle.std.proofs.lemmas.Nat.{div-add-mod'}
use Rattle.std.proofs.lemmas.Grind.{div_ceil_times}
use Rattle.std.specs.Prelude.{min, ◌==◌, ◌&&◌, if◌then◌else◌, nat_lt, is_some, is_none, not, IfSome}
use Rattle.std.proofs.lemmas.Bool.{cases_Bool, cases_lt}
use Rattle.std.proofs.lemmas.Bool.Decides.{nat_tests}
use Rattle.std.proofs.lemmas.Option.{slice_get_past}
use Rattle.atomic_table.specs.Seated.{TableId}
use Rattle.gomp_types.specs.declared.shape.Shape.{Shape}
use Rattle.gomp_events.specs.declared.event.Event.{Event}
use Rattle.gomp_events.specs.declared.event.Event.TheVariants.{Take}
use Rattle.gomp_events.specs.declared.seen.Seen.{Seen}
use Rattle.gomp_types.specs.declared.shape.ShareKind.{ShareKind}
use Rattle.gomp_types.specs.declared.shape.ShareKind.TheVariants.{Dynamic}
use Rattle.gomp_types.specs.Pieces.{Piece, dynamic_pieces, kind_pieces, pieces_of}
use Rattle.gomp_types.specs.Values.{IsShape}
use Rattle.gomp_types.specs.Shapes.{is_static, is_loop}
use Rattle.gomp_events.specs.Events.{open_share, shape_at, has_drained, in_kind, member_of}
use Rattle.gomp_types.specs.Deals.{schedule}
use Rattle.gomp_events.specs.Takes.{next_for, taken_in}
use Rattle.gomp_types.specs.Limits.{shown_number}
use Rattle.gomp_events.specs.Laws.{Always}
use Rattle.gomp_events.specs.Seen.{seen_of}
use Rattle.gomp_events.specs.Tasks.{contains}
use Rattle.gomp_types.proofs.Booleans.{same_number, other_number, is_equal, share_is}
use Rattle.gomp_chunks.specs.Plans.{PlanView, pieces, next_piece, IsPieceWithin}
use Rattle.gomp_chunks.proofs.PieceAt.{slice_get-dynamic_pieces, length-dynamic_pieces}
use Rattle.gomp_shares.specs.Calls.{CanClaim}
use Rattle.gomp_shares.specs.Only.{own_of}
use Rattle.gomp_shares.specs.Rules.{ShareRule}
use Rattle.gomp_shares.proofs.SharesKeep.{member_is_inside}
use Rattle.gomp_slots.specs.declared.view.View.{View}
use Rattle.gomp_slots.specs.Rule.{stands_for, numbers_from}
use Rattle.gomp_slots.specs.Calls.{Acts, piece_of, claim_event, own_next}
use Rattle.gomp_slots.specs.Premises.{IsInShare, MayClaim, MayAssign}
use Rattle.gomp_ring.specs.Gathers.{pieces_taken, iterations_of, loop_iterations}
use Rattle.gomp_ring.specs.RingSeats.{SeatView, asked_piece, IsPartOfTeam, IsSeat, ActsFor, shares_left, Counts, AreWhole, SeatActs, SeatClaims, IsLawfulSeat, piece_in, AreNoneFrom}
use Rattle.gomp_slots.proofs.History.{pieces_few}
use Rattle.gomp_slots.proofs.OwnPieces.{next_assigned}
use Rattle.gomp_slots.proofs.WordSteps.{seat_sees}
use Rattle.gomp_slots.proofs.EveryMoment.{rule_gives}
use Rattle.gomp_ring.proofs.Rearranged.{iterations_of-append, own_iterations_few}
use Rattle.gomp_ring.proofs.RingReadings.{two_numbers_are_a_piece}

-- The members of a seat

pub own_stands : (members m seated : ℕ) (v : View) → ActsFor members m seated v → stands_for v m ≡ true
own_stands members m seated v acts = ap (contains m) acts.mine ∙ rw (same_number m) refl

pub still_acts_for : (members m seated : ℕ) (v now : View) → ActsFor members m seated v → now.mine ≡ v.mine → now.alone ≡ v.alone → ActsFor members m seated now
still_acts_for members m seated v now acts mine alone = record { above = acts.above; within = acts.within; mine = mine ∙ acts.mine; only = λ e. alone ∙ acts.only e }

-- the first of so many numbers, and the others
pub first_number : (first end : ℕ) → first < end → numbers_from first (end - first) ≡ first ∷ numbers_from (suc first) (end - suc first)
first_number first end lt = let more : end - first ≡ suc (end - suc first) = omega arith in rw more refl

-- none of them is below the first
pub no_number_below : (first count m : ℕ) → m < first → contains m (numbers_from first count) ≡ false
no_number_below first zero m lt = refl
no_number_below first (suc count) m lt = elim (cases_Bool (first == m)) [
  | inl e ↦ absurd (let same = is_equal first m e in omega arith)
  | inr e ↦ rw e (no_number_below (suc first) count m (omega arith))
]

-- what stands of a seat, by what it keeps
pub lawful_seat : (table : TableId) (members m seated : ℕ) (seen : Seen) (plan : PlanView) (v : View) → IsSeat members m seen plan v →
    IsLawfulSeat (record { table = table; members = members; member = m; seated = seated; seen = seen; did = v.did })
lawful_seat table members m seated seen plan v seat = record {
  member = seat.member;
  few_members = seat.few_members;
  sees = seat.sees;
  own = seat.own;
  lawful = seat.lawful;
  few = seat.few;
  valid = seat.valid;
}

-- An act of the member

pub own_first : (m : ℕ) (event : Event) (h : List Event) → member_of event ≡ m → own_of m (event ∷ h) ≡ event ∷ own_of m h
own_first m event h who = rw (who, same_number m) refl

-- what the member did is its part of the events that its act tells
pub part_of_team : (key members m : ℕ) (seen : Seen) (plan : PlanView) (event : Event) (v now : View) → key ≡ members → IsSeat members m seen plan v → stands_for v m ≡ true → member_of event ≡ m → Acts key event v now → IsPartOfTeam members m now.did
part_of_team key members m seen plan event v now team seat stands who acts = record {
  events = event ∷ acts.events;
  part = ap (λ (x : View). x.did) acts.after ∙ ap (λ (h : List Event). event ∷ h) (sym seat.own ∙ acts.knows.own m stands) ∙ sym (own_first m event acts.events who);
  rule = subst (λ (n : ℕ). Always (ShareRule (schedule n) n) (event ∷ acts.events)) team acts.rule;
}

-- what the call tells
abbrev pub seat_acts : (key members m seated : ℕ) (table then_table : TableId) (seen then_seen : Seen) (plan : PlanView) (event : Event) (v now : View) → key ≡ members → IsSeat members m seen plan v → stands_for v m ≡ true → then_table ≡ table → Acts key event v now → then_seen ≡ seen_of m now.did →
    SeatActs event (record { table = table; members = members; member = m; seated = seated; seen = seen; did = v.did }) (record { table = then_table; members = members; member = m; seated = seated; seen = then_seen; did = now.did })
seat_acts key members m seated table then_table seen then_seen plan event v now team seat stands same acts sees = record {
  events = acts.events;
  knows = sym seat.own ∙ acts.knows.own m stands;
  rule = subst (λ (n : ℕ). Always (ShareRule (schedule n) n) (event ∷ acts.events)) team acts.rule;
  did = ap (λ (x : View). x.did) acts.after;
  sees = sees;
  table = same;
  members = refl;
  member = refl;
  seated = refl;
}

-- what the seat keeps, in the share that the member is in or when it leaves it
pub seat_after : (members m i : ℕ) (shape : Shape) (seen then_seen : Seen) (plan then_plan : PlanView) (event : Event) (v now : View) → IsSeat members m seen plan v → seen.current ≡ Some (i, shape) → member_of event ≡ m → now ≡ record v { did = event ∷ v.did; found = None } → IsPartOfTeam members m now.did →
    then_seen ≡ seen_of m now.did → then_seen.entered ≡ seen.entered → ((share : ℕ × Shape) → then_seen.current ≡ Some share → seen.current ≡ Some share) → then_plan ≡ plan → IsSeat members m then_seen then_plan now
seat_after members m i shape seen then_seen plan then_plan event v now seat current who after lawful sees entered still same_plan =
    let goes : now.did ≡ event ∷ v.did = ap (λ (x : View). x.did) after in
    record {
      member = seat.member;
      few_members = seat.few_members;
      idle = ap (λ (x : View). x.opening) after ∙ seat.idle;
      sees = sees;
      own = ap (own_of m) goes ∙ own_first m event v.did who ∙ ap (λ (h : List Event). event ∷ h) seat.own ∙ sym goes;
      lawful = lawful;
      few = subst (λ (n : ℕ). n ≤ 2 ^ 48) (sym entered) seat.few;
      fresh = λ none. absurd (let last = seat.last (i, shape) current in omega arith);
      last = λ share at. seat.last share (still share at) ∙ sym entered;
      valid = λ share at. seat.valid share (still share at);
      plan_is = λ share at. same_plan ∙ seat.plan_is share (still share at);
    }

-- Pieces that a member took

-- its own events tell them
pub pieces_own : (i m : ℕ) (h : List Event) → pieces_taken i m (own_of m h) ≡ pieces_taken i m h
pieces_own i m [] = refl
pieces_own i m (Take share k low high ∷ h) = elim (cases_Bool (k == m)) [
  | inl e ↦ rw e (rw e (ap (λ (l : List Piece). if share == i && true then l ++ (low, high) ∷ [] else l) (pieces_own i m h)))
  | inr e ↦ rw (e, off (share == i)) (pieces_own i m h)
]
  where
    off : (b : Bool) → (b && false) ≡ false
    off true = refl
    off false = refl
pieces_own i m (event ∷ h) = elim (cases_Bool (member_of event == m)) [
  | inl e ↦ rw e (pieces_own i m h)
  | inr e ↦ rw e (pieces_own i m h)
]

-- Claims

-- the member claims, and this is the piece, or there is none
pub record IsClaimed (members m i : ℕ) (shape : Shape) (piece : Option Piece) (seen : Seen) (plan : PlanView) (v now : View) : Type 0 where
  pub seat : IsSeat members m seen plan v
  pub stands : stands_for v m ≡ true
  pub current : seen.current ≡ Some (i, shape)
  pub can : CanClaim members m seen
  pub acts : Acts members (claim_event i m piece) v now
  pub within : IfSome piece (IsPieceWithin shape.trips)

abbrev pub in_share : (key members m i : ℕ) (seen : Seen) (plan : PlanView) (shape : Shape) (v : View) → key ≡ members → IsSeat members m seen plan v → stands_for v m ≡ true → seen.current ≡ Some (i, shape) → IsInShare key m i v
in_share key members m i seen plan shape v team seat stands current = record {
  member = subst (λ (n : ℕ). m < n) (sym team) seat.member;
  stands = stands;
  shape = shape;
  inside = sym (ap (λ (s : Seen). s.current) seat.sees) ∙ current;
}

pub may_take_ticket : (key members m i : ℕ) (seen : Seen) (plan : PlanView) (shape : Shape) (v : View) → key ≡ members → IsSeat members m seen plan v → stands_for v m ≡ true → seen.current ≡ Some (i, shape) → CanClaim members m seen → is_static shape.kind ≡ false → MayClaim key m i v
may_take_ticket key members m i seen plan shape v team seat stands current can queue = record {
  at = in_share key members m i seen plan shape v team seat stands current;
  queue = queue;
  more = sym (ap (λ (s : Seen). s.drained) seat.sees) ∙ can.more;
  apart = sym (ap (λ (s : Seen). s.in_part) seat.sees) ∙ can.apart;
}

pub may_take_assigned : (key members m i : ℕ) (seen : Seen) (plan : PlanView) (shape : Shape) (v : View) → key ≡ members → IsSeat members m seen plan v → stands_for v m ≡ true → seen.current ≡ Some (i, shape) → CanClaim members m seen → is_static shape.kind ≡ true → MayAssign key m i v
may_take_assigned key members m i seen plan shape v team seat stands current can static = record {
  at = in_share key members m i seen plan shape v team seat stands current;
  static = static;
  apart = sym (ap (λ (s : Seen). s.in_part) seat.sees) ∙ can.apart;
}

-- the piece is that of the ticket
pub claimed_by_ticket : (key members m i ticket : ℕ) (shape : Shape) (piece : Option Piece) (seen : Seen) (plan : PlanView) (v now : View) → key ≡ members → IsSeat members m seen plan v → stands_for v m ≡ true → seen.current ≡ Some (i, shape) → CanClaim members m seen →
    Acts key (claim_event i m (piece_of key (open_share m v.did) ticket)) v now → piece ≡ slice_get (pieces plan) ticket → IfSome piece (IsPieceWithin plan.shape.trips) → IsClaimed members m i shape piece seen plan v now
claimed_by_ticket key members m i ticket shape piece seen plan v now team seat stands current can acts piece_is within =
    let plan_is : plan ≡ record { members = members; shape = shape } = seat.plan_is (i, shape) current in
    let there : open_share m v.did ≡ Some (i, shape) = sym (ap (λ (s : Seen). s.current) seat.sees) ∙ current in
    let same : piece_of key (open_share m v.did) ticket ≡ piece =
    ap (λ (o : Option (ℕ × Shape)). piece_of key o ticket) there ∙ ap (λ (n : ℕ). slice_get (pieces_of n shape) ticket) team ∙ sym (piece_is ∙ ap (λ (p : PlanView). slice_get (pieces p) ticket) plan_is) in
    record {
      seat = seat;
      stands = stands;
      current = current;
      can = can;
      acts = subst (λ (q : Option Piece). Acts members (claim_event i m q) v now) same (subst (λ (n : ℕ). Acts n (claim_event i m (piece_of key (open_share m v.did) ticket)) v now) team acts);
      within = subst (λ (p : PlanView). IfSome piece (IsPieceWithin p.shape.trips)) plan_is within;
    }

-- what the member sees then
claim_seen : (m i : ℕ) (piece : Option Piece) (h : List Event) (drained : Bool) → has_drained m h ≡ false → is_none piece ≡ drained → record (seen_of m h) { drained = drained; piece = piece } ≡ seen_of m (claim_event i m piece ∷ h)
claim_seen m i (Some piece) h drained was is = rw (same_number m, was ∙ is) refl
claim_seen m i None h drained was is = rw (same_number m, sym is) refl

pub sees_claim : (members m i : ℕ) (shape : Shape) (piece : Option Piece) (drained : Bool) (seen : Seen) (plan : PlanView) (v now : View) → IsClaimed members m i shape piece seen plan v now → is_none piece ≡ drained → record seen { drained = drained; piece = piece } ≡ seen_of m now.did
sees_claim members m i shape piece drained seen plan v now is none =
    ap (λ (s : Seen). record s { drained = drained; piece = piece }) is.seat.sees
    ∙ claim_seen m i piece v.did drained (sym (ap (λ (s : Seen). s.drained) is.seat.sees) ∙ is.can.more) none
    ∙ sym (ap (λ (x : View). seen_of m x.did) is.acts.after)

claim_shows : (members m i seated : ℕ) (table then_table : TableId) (shape : Shape) (piece : Option Piece) (seen then_seen : Seen) (plan : PlanView) (v now : View) → IsClaimed members m i shape piece seen plan v now → then_table ≡ table → then_seen ≡ seen_of m now.did →
    SeatClaims (record { table = table; members = members; member = m; seated = seated; seen = seen; did = v.did }) piece (record { table = then_table; members = members; member = m; seated = seated; seen = then_seen; did = now.did })
claim_shows members m i seated table then_table shape piece seen then_seen plan v now is same sees =
    let h : List Event = is.acts.events in
    let there : open_share m v.did ≡ Some (i, shape) = sym (ap (λ (s : Seen). s.current) is.seat.sees) ∙ is.current in
    let there_h : open_share m h ≡ Some (i, shape) = sym (ap (λ (s : Seen). s.current) (seat_sees m v h is.acts.knows is.stands)) ∙ there in
    record {
      share = (i, shape);
      inside = is.current;
      acts = seat_acts members members m seated table then_table seen then_seen plan (claim_event i m piece) v now refl is.seat is.stands same is.acts sees;
      claims = record {
        share = (i, shape);
        there = there_h;
        valid = is.seat.valid (i, shape) is.current;
        least = rule_gives members m i shape piece h there_h is.acts.rule.0;
        within = is.within;
      };
    }

-- and what the call tells
pub claim_tells : (members m i seated : ℕ) (table then_table : TableId) (shape : Shape) (piece answer : Option Piece) (seen then_seen : Seen) (plan : PlanView) (v now : View) (before : SeatView) → IsClaimed members m i shape piece seen plan v now → then_table ≡ table → then_seen ≡ seen_of m now.did →
    record { table = table; members = members; member = m; seated = seated; seen = seen; did = v.did } ≡ before → piece ≡ answer → SeatClaims before answer (record { table = then_table; members = members; member = m; seated = seated; seen = then_seen; did = now.did })
claim_tells members m i seated table then_table shape piece answer seen then_seen plan v now before is same sees view same_piece =
    let after : SeatView = record { table = then_table; members = members; member = m; seated = seated; seen = then_seen; did = now.did } in
    subst (λ (b : SeatView). SeatClaims b answer after) view (subst (λ (q : Option Piece). SeatClaims (record { table = table; members = members; member = m; seated = seated; seen = seen; did = v.did }) q after) same_piece (claim_shows members m i seated table then_table shape piece seen then_seen plan v now is same sees))

claim_member : (m i : ℕ) (piece : Option Piece) → member_of (claim_event i m piece) ≡ m
claim_member m i (Some piece) = refl
claim_member m i None = refl

pub seat_after_claim : (members m i : ℕ) (shape : Shape) (piece : Option Piece) (seen then_seen : Seen) (plan then_plan : PlanView) (v now : View) → IsClaimed members m i shape piece seen plan v now → then_seen ≡ seen_of m now.did → then_seen.entered ≡ seen.entered → then_seen.current ≡ seen.current → then_plan ≡ plan → IsSeat members m then_seen then_plan now
seat_after_claim members m i shape piece seen then_seen plan then_plan v now is sees entered current same =
    seat_after members m i shape seen then_seen plan then_plan (claim_event i m piece) v now is.seat is.current (claim_member m i piece) is.acts.after (part_of_team members members m seen plan (claim_event i m piece) v now refl is.seat is.stands (claim_member m i piece) is.acts) sees entered (λ share at. sym current ∙ at) same

-- What is counted

-- how many iterations a claim gives
abbrev pub iterations_in : Option Piece → ℕ
iterations_in None = 0
iterations_in (Some piece) = piece.1 - piece.0

pieces_more : (m i : ℕ) (piece : Option Piece) (h : List Event) → iterations_of (pieces_taken i m (claim_event i m piece ∷ h)) ≡ iterations_of (pieces_taken i m h) + iterations_in piece
pieces_more m i (Some piece) h = rw (same_number i, same_number m) (iterations_of-append (pieces_taken i m h) (piece ∷ []) ∙ one)
  where
    one : iterations_of (pieces_taken i m h) + iterations_of (piece ∷ []) ≡ iterations_of (pieces_taken i m h) + (piece.1 - piece.0)
    one = omega arith
pieces_more m i None h = omega arith

pub loop_more : (m i : ℕ) (shape : Shape) (piece : Option Piece) (h : List Event) → open_share m h ≡ Some (i, shape) → loop_iterations m (claim_event i m piece ∷ h) ≡ loop_iterations m h + (if is_loop shape.kind then iterations_in piece else 0)
loop_more m i shape None h at = elim (cases_Bool (is_loop shape.kind)) [ inl e ↦ rw e (omega arith) | inr e ↦ rw e (omega arith) ]
loop_more m i shape (Some piece) h at = elim (cases_Bool (is_loop shape.kind)) [ inl e ↦ rw (same_number m, at, e) refl | inr e ↦ rw (same_number m, at, e) (omega arith) ]

-- no more than the share has
pub claimed_few : (members m i : ℕ) (shape : Shape) (piece : Option Piece) (seen : Seen) (plan : PlanView) (v now : View) → IsClaimed members m i shape piece seen plan v now → iterations_of (pieces_taken i m now.did) ≤ shape.trips
claimed_few members m i shape piece seen plan v now is =
    let h : List Event = is.acts.events in
    let event : Event = claim_event i m piece in
    let there : open_share m h ≡ Some (i, shape) = sym (ap (λ (s : Seen). s.current) (seat_sees m v h is.acts.knows is.stands)) ∙ sym (ap (λ (s : Seen). s.current) is.seat.sees) ∙ is.current in
    let at : shape_at i h ≡ Some shape = (member_is_inside (schedule members) members m i shape h is.acts.rule.1 there).0 in
    let few : iterations_of (pieces_taken i m (event ∷ h)) ≤ shape.trips = own_iterations_few members i m shape (event ∷ h) is.seat.member is.acts.rule (claim_shapes i m piece h ∙ at) (is.seat.valid (i, shape) is.current) in
    let own : now.did ≡ own_of m (event ∷ h) = ap (λ (x : View). x.did) is.acts.after ∙ ap (λ (l : List Event). event ∷ l) (sym is.seat.own ∙ is.acts.knows.own m is.stands) ∙ sym (own_first m event h (claim_member m i piece)) in
    let same : pieces_taken i m now.did ≡ pieces_taken i m (event ∷ h) = ap (pieces_taken i m) own ∙ pieces_own i m (event ∷ h) in
    subst (λ (l : List Piece). iterations_of l ≤ shape.trips) (sym same) few
  where
    claim_shapes : (i m : ℕ) (piece : Option Piece) (h : List Event) → shape_at i (claim_event i m piece ∷ h) ≡ shape_at i h
    claim_shapes i m (Some piece) h = refl
    claim_shapes i m None h = refl

pub counts_claim : (members m i own here taken then_own then_here : ℕ) (shape : Shape) (piece : Option Piece) (seen then_seen : Seen) (plan : PlanView) (v now : View) → IsClaimed members m i shape piece seen plan v now → Counts m own here taken seen v → then_seen.entered ≡ seen.entered → then_seen.current ≡ seen.current →
    then_here ≡ here + iterations_in piece → (is_static shape.kind ≡ true → then_own ≡ shown_number (taken_in (λ k. k) i m now.did)) → Counts m then_own then_here taken then_seen now
counts_claim members m i own here taken then_own then_here shape piece seen then_seen plan v now is counts entered current here_more own_more =
    let goes : now.did ≡ claim_event i m piece ∷ v.did = ap (λ (x : View). x.did) is.acts.after in
    let there : then_seen.current ≡ Some (i, shape) = current ∙ is.current in
    let inside : open_share m v.did ≡ Some (i, shape) = sym (ap (λ (s : Seen). s.current) is.seat.sees) ∙ is.current in
    let all : then_here ≡ iterations_of (pieces_taken i m now.did) =
    here_more ∙ ap (λ (n : ℕ). n + iterations_in piece) (counts.here_is (i, shape) is.current) ∙ sym (pieces_more m i piece v.did) ∙ sym (ap (λ (l : List Event). iterations_of (pieces_taken i m l)) goes) in
    let few = claimed_few members m i shape piece seen plan v now is in
    let share_of : (share : ℕ × Shape) → then_seen.current ≡ Some share → share ≡ (i, shape) = λ share at. let p = share_is share.0 i share.1 shape (sym at ∙ there) in rw (p.0, p.1) refl in
    record {
      own_is = λ share at. subst (λ (s : ℕ × Shape). is_static s.1.kind ≡ true → then_own ≡ shown_number (taken_in (λ k. k) s.0 m now.did)) (sym (share_of share at)) own_more;
      here_is = λ share at. subst (λ (s : ℕ × Shape). then_here ≡ iterations_of (pieces_taken s.0 m now.did)) (sym (share_of share at)) all;
      here_few = λ share at. subst (λ (s : ℕ × Shape). then_here ≤ s.1.trips) (sym (share_of share at)) (omega arith);
      taken_few = subst (λ (n : ℕ). taken ≤ n * 2 ^ 39) (sym (left_same entered current)) counts.taken_few;
      taken_is = ap (loop_iterations m) goes ∙ loop_more m i shape piece v.did inside ∙ ap (λ (n : ℕ). n + (if is_loop shape.kind then iterations_in piece else 0)) (counts.taken_is ∙ ap (λ (o : Option (ℕ × Shape)). taken + (if in_kind is_loop o then here else 0)) is.current)
          ∙ summed (is_loop shape.kind) ∙ sym (ap (λ (o : Option (ℕ × Shape)). taken + (if in_kind is_loop o then then_here else 0)) there);
    }
  where
    left_same : then_seen.entered ≡ seen.entered → then_seen.current ≡ seen.current → shares_left then_seen ≡ shares_left seen
    left_same a b = ap (λ (o : Option (ℕ × Shape)). if is_some o then then_seen.entered - 1 else then_seen.entered) b ∙ ap (λ (n : ℕ). if is_some seen.current then n - 1 else n) a

    summed : (b : Bool) → taken + (if b then here else 0) + (if b then iterations_in piece else 0) ≡ taken + (if b then then_here else 0)
    summed true = omega (arith, here_more)
    summed false = omega arith

-- The pieces of a static share

-- the piece is the member's next one
pub claimed_by_assignment : (key members m i own here taken : ℕ) (shape : Shape) (piece : Option Piece) (seen : Seen) (plan : PlanView) (v now : View) → key ≡ members → IsSeat members m seen plan v → stands_for v m ≡ true → seen.current ≡ Some (i, shape) → CanClaim members m seen → is_static shape.kind ≡ true → Counts m own here taken seen v →
    Acts key (claim_event i m (own_next key m v.did (open_share m v.did))) v now → piece ≡ next_piece plan m own 0 → IfSome piece (IsPieceWithin plan.shape.trips) → IsClaimed members m i shape piece seen plan v now
claimed_by_assignment key members m i own here taken shape piece seen plan v now team seat stands current can static counts acts piece_is within =
    let plan_is : plan ≡ record { members = members; shape = shape } = seat.plan_is (i, shape) current in
    let there : open_share m v.did ≡ Some (i, shape) = sym (ap (λ (s : Seen). s.current) seat.sees) ∙ current in
    let any : 0 < members = let member = seat.member in omega arith in
    let same : own_next key m v.did (open_share m v.did) ≡ piece =
    ap (own_next key m v.did) there ∙ ap (λ (n : ℕ). next_for (schedule n) shape i m v.did) team
    ∙ sym (piece_is ∙ ap (λ (p : PlanView). next_piece p m own 0) plan_is ∙ next_assigned members m i own shape v.did any (seat.valid (i, shape) current) static (counts.own_is (i, shape) current static)) in
    record {
      seat = seat;
      stands = stands;
      current = current;
      can = can;
      acts = subst (λ (q : Option Piece). Acts members (claim_event i m q) v now) same (subst (λ (n : ℕ). Acts n (claim_event i m (own_next key m v.did (open_share m v.did))) v now) team acts);
      within = subst (λ (p : PlanView). IfSome piece (IsPieceWithin p.shape.trips)) plan_is within;
    }

-- it took one more, or as many as before
pub own_count_more : (members m i own here taken : ℕ) (shape : Shape) (piece : Piece) (seen : Seen) (plan : PlanView) (v now : View) → IsClaimed members m i shape (Some piece) seen plan v now → Counts m own here taken seen v → is_static shape.kind ≡ true → (then_own : ℕ) → then_own ≡ shown_number (own + 1) → then_own ≡ shown_number (taken_in (λ k. k) i m now.did)
own_count_more members m i own here taken shape piece seen plan v now is counts static then_own one_more =
    let goes : now.did ≡ Take i m piece.0 piece.1 ∷ v.did = ap (λ (x : View). x.did) is.acts.after in
    let before : own ≡ shown_number (taken_in (λ k. k) i m v.did) = counts.own_is (i, shape) is.current static in
    let more : taken_in (λ k. k) i m (Take i m piece.0 piece.1 ∷ v.did) ≡ taken_in (λ k. k) i m v.did + 1 = rw (same_number i, same_number m) refl in
    one_more ∙ sum (taken_in (λ k. k) i m v.did) before ∙ ap shown_number (sym more) ∙ sym (ap (λ (l : List Event). shown_number (taken_in (λ k. k) i m l)) goes)
  where
    sum : (n : ℕ) → own ≡ shown_number n → shown_number (own + 1) ≡ shown_number (n + 1)
    sum n e = omega (arith, e)

pub own_as_before : (members m i own here taken : ℕ) (shape : Shape) (seen : Seen) (plan : PlanView) (v now : View) → IsClaimed members m i shape None seen plan v now → Counts m own here taken seen v → is_static shape.kind ≡ true → own ≡ shown_number (taken_in (λ k. k) i m now.did)
own_as_before members m i own here taken shape seen plan v now is counts static =
    counts.own_is (i, shape) is.current static ∙ sym (ap (λ (x : View). shown_number (taken_in (λ k. k) i m x.did)) is.acts.after)

-- The piece that was asked for last

pub asked_next : (plan : PlanView) (number : ℕ) → asked_piece plan (number + 1) ≡ slice_get (pieces plan) number
asked_next plan number = let one : number + 1 ≡ suc number = omega arith in ap (asked_piece plan) one

-- behind the last one there is none
pub asked_past : (members asked : ℕ) (shape : Shape) (plan : PlanView) → 0 < members → IsShape shape → plan ≡ record { members = members; shape = shape } → 2 ^ 39 < asked → asked_piece plan asked ≡ None
asked_past members zero shape plan any is same past = absurd (omega arith)
asked_past members (suc number) shape plan any is same past =
    let few = pieces_few members shape any is in
    ap (λ (p : PlanView). slice_get (pieces p) number) same ∙ slice_get_past (pieces_of members shape) number (omega arith)

-- and of any share no piece has such a number
pub none_dealt_past : (members : ℕ) (shape : Shape) (none_from : ℕ) → 0 < members → IsShape shape → 2 ^ 39 ≤ none_from → AreNoneFrom (record { members = members; shape = shape }) none_from
none_dealt_past members shape none_from any is past number from =
    let few = pieces_few members shape any is in
    slice_get_past (pieces_of members shape) number (omega arith)

-- a dynamic loop has so many pieces
pub none_after_all : (members : ℕ) (shape : Shape) (none_from : ℕ) → shape.kind ≡ Dynamic → none_from ≡ div_ceil shape.trips shape.chunk → AreNoneFrom (record { members = members; shape = shape }) none_from
none_after_all members shape none_from kind count number from =
    ap (λ (k : ShareKind). slice_get (kind_pieces members k shape) number) kind
    ∙ slice_get_past (dynamic_pieces shape.trips shape.chunk) number (let all = length-dynamic_pieces shape.trips shape.chunk in omega arith)

-- none is none more
pub plus_none : (n : ℕ) → n ≡ n + 0
plus_none n = omega arith

-- Pieces as two numbers

-- so many iterations a piece has, and there is none if the numbers are equal
pub iterations_between : (first end : ℕ) → first ≤ end → end - first ≡ iterations_in (piece_in first end)
iterations_between first end le = elim (cases_lt first end) [
  | inl less ↦ sym (ap iterations_in (two_numbers_are_a_piece first end less))
  | inr past ↦ let none : nat_lt first end ≡ false = grind (arith, nat_tests) in rw none (omega arith)
]

pub none_if_equal : (first end : ℕ) → first ≤ end → is_none (piece_in first end) ≡ (first == end)
none_if_equal first end le = elim (cases_lt first end) [
  | inl less ↦ ap is_none (two_numbers_are_a_piece first end less) ∙ sym (other_number first end (λ e. omega arith))
  | inr past ↦ let none : nat_lt first end ≡ false = grind (arith, nat_tests) in let same : first ≡ end = omega arith in rw none (rw same (sym (same_number end)))
]

-- there is a piece unless there is none
pub some_unless_none : (piece : Option Piece) → is_some piece ≡ not (is_none piece)
some_unless_none None = refl
some_unless_none (Some piece) = refl

-- a dynamic loop has so many whole chunks
pub whole_chunks : (members : ℕ) (shape : Shape) → IsShape shape → shape.kind ≡ Dynamic → AreWhole (record { members = members; shape = shape }) (shape.trips / shape.chunk)
whole_chunks members shape is kind number lt =
    let chunk : ℕ = shape.chunk in
    let next : suc number * chunk ≡ number * chunk + chunk = suc-mul number chunk in
    let whole : suc number * chunk ≤ shape.trips / chunk * chunk = mul-le-mul_right chunk lt in
    let parts = div-add-mod' shape.trips chunk in
    let within : number * chunk + chunk ≤ shape.trips = omega arith in
    let ends = (div_ceil_times shape.trips chunk is.some).0 in
    let count : number < length (dynamic_pieces shape.trips chunk) = elim (cases_lt number (div_ceil shape.trips chunk)) [
      | inl below ↦ rw (length-dynamic_pieces shape.trips chunk) below
      | inr past ↦ absurd (let fewer : div_ceil shape.trips chunk * chunk ≤ number * chunk = mul-le-mul_right chunk past in let some = is.some in omega arith)
    ] in
    let end : min shape.trips (number * chunk + chunk) ≡ number * chunk + chunk = omega arith in (
      ap (λ (k : ShareKind). slice_get (kind_pieces members k shape) number) kind ∙ slice_get-dynamic_pieces shape.trips chunk number count ∙ ap (λ (n : ℕ). Some (number * chunk, n)) end,
      within,
    )

-- the piece is a whole chunk
pub claimed_whole : (key members m i ticket whole : ℕ) (shape : Shape) (seen : Seen) (plan : PlanView) (v now : View) → key ≡ members → IsSeat members m seen plan v → stands_for v m ≡ true → seen.current ≡ Some (i, shape) → CanClaim members m seen → AreWhole plan whole → ticket < whole →
    Acts key (claim_event i m (piece_of key (open_share m v.did) ticket)) v now → IsClaimed members m i shape (Some (ticket * shape.chunk, ticket * shape.chunk + shape.chunk)) seen plan v now
claimed_whole key members m i ticket whole shape seen plan v now team seat stands current can are lt acts =
    let plan_is : plan ≡ record { members = members; shape = shape } = seat.plan_is (i, shape) current in
    let here : AreWhole (record { members = members; shape = shape }) whole = subst (λ (p : PlanView). AreWhole p whole) plan_is are in
    let piece = here ticket lt in
    let some : 0 < shape.chunk = (seat.valid (i, shape) current).some in
    claimed_by_ticket key members m i ticket shape (Some (ticket * shape.chunk, ticket * shape.chunk + shape.chunk)) seen plan v now team seat stands current can acts
    (sym (ap (λ (p : PlanView). slice_get (pieces p) ticket) plan_is ∙ piece.0))
    (subst (λ (p : PlanView). IfSome (Some (ticket * shape.chunk, ticket * shape.chunk + shape.chunk)) (IsPieceWithin p.shape.trips)) (sym plan_is) (omega arith, piece.1))

-- and it is the one that was asked for
pub asked_whole : (members ticket whole : ℕ) (shape : Shape) (plan : PlanView) → plan ≡ record { members = members; shape = shape } → AreWhole plan whole → ticket < whole → asked_piece plan (ticket + 1) ≡ Some (ticket * shape.chunk, ticket * shape.chunk + shape.chunk)
asked_whole members ticket whole shape plan plan_is are lt =
    let here : AreWhole (record { members = members; shape = shape }) whole = subst (λ (p : PlanView). AreWhole p whole) plan_is are in
    asked_next plan ticket ∙ ap (λ (p : PlanView). slice_get (pieces p) ticket) plan_is ∙ (here ticket lt).0

-- what is counted of it, ahead or behind
pub chunk_more : (here ticket chunk : ℕ) → here + chunk ≡ here + (ticket * chunk + chunk - ticket * chunk)
chunk_more here ticket chunk = omega arith

pub rest_more : (here chunk first end : ℕ) → first ≤ end → here + chunk - chunk + (end - first) ≡ here + iterations_in (piece_in first end)
rest_more here chunk first end le = let same : here + chunk - chunk ≡ here = omega arith in ap (λ (n : ℕ). n + (end - first)) same ∙ ap (λ (n : ℕ). here + n) (iterations_between first end le)
