-- What the calls on the seat that stands for all members answer.
use Rattle.std.proofs.Common.{◌≡◌, ℕ, ◌%◌, ◌^◌, ◌<◌, ◌≤◌, Bool, true, false, List, ◌∷◌, slice_get, Option, Some, None, inl, inr, refl, ap, sym, ◌∙◌, subst, arith}
use Rattle.std.specs.Prelude.{◌==◌, IfSome, not}
use Rattle.std.proofs.lemmas.Bool.{cases_Bool}
use Rattle.std.proofs.lemmas.Option.{none-some}
use Rattle.gomp_types.specs.declared.shape.Shape.{Shape}
use Rattle.gomp_events.specs.declared.event.Event.{Event}
use Rattle.gomp_events.specs.declared.event.Event.TheVariants.{Enter, HandOn, See}
use Rattle.gomp_events.specs.declared.seen.Seen.{Seen}
use Rattle.gomp_types.specs.Pieces.{Piece, pieces_of}
use Rattle.gomp_types.specs.Values.{IsShape}
use Rattle.gomp_types.specs.Shapes.{same_shape}
use Rattle.gomp_types.specs.Compare.{shape_differs}
use Rattle.gomp_events.specs.Events.{shares_entered, open_share, shape_at, has_room, last_piece, turn}
use Rattle.gomp_events.specs.Ordered.{same_piece}
use Rattle.gomp_events.specs.Cancels.{share_cancelled, inside_cancelled, own_cancelled}
use Rattle.gomp_types.specs.Deals.{schedule}
use Rattle.gomp_types.specs.declared.limits.TheConstants.{OPEN_SHARES}
use Rattle.gomp_events.specs.Laws.{Always}
use Rattle.gomp_types.proofs.Booleans.{not_both}
use Rattle.gomp_types.proofs.Compared.{same_shape_is, same_shape_itself, differs_from}
use Rattle.gomp_types.proofs.Dealing.{pieces_tile_all}
use Rattle.gomp_events.proofs.Numbering.{piece_lies_within}
use Rattle.gomp_types.specs.Shapes.{is_static}
use Rattle.gomp_chunks.specs.Plans.{PlanView, IsPieceWithin, pieces, next_piece}
use Rattle.gomp_shares.specs.Calls.{was_taken, MayOpen, CanClaim, Claims, own_turn, turn_in, number_in, piece_handed, kind_in}
use Rattle.gomp_shares.specs.declared.Opening.TheVariants.{Entered, NotYet, Differs}
use Rattle.gomp_shares.specs.Only.{shares_only}
use Rattle.gomp_shares.specs.Rules.{ShareRule, MayEnter}
use Rattle.gomp_shares.proofs.Only.{open_only, shape_only, room_only, cancelled_only}
use Rattle.gomp_gate.specs.Gates.{holds_share, phase_of, is_bare_single}
use Rattle.gomp_gate.specs.Shapes.{SameWords}
use Rattle.gomp_gate.proofs.Shapes.{words_tell_shape, bare_shape}
use Rattle.gomp_slots.specs.declared.opening.Delay.{Delay}
use Rattle.gomp_slots.specs.declared.opening.Delay.TheVariants.{NoRoom, BeingOpened}
use Rattle.gomp_slots.specs.declared.opening.Entry.TheVariants.{Entered as HasEntered, NotYet as MustWait, Differs as IsDifferent}
use Rattle.gomp_slots.specs.declared.view.View.{View}
use Rattle.gomp_slots.specs.Rule.{Knows, FitsWords}
use Rattle.gomp_slots.specs.Calls.{Acts, claim_event, piece_of, own_next, SeesShareCancelled, AsksShareCancelled, TriesTurn, HasDone, IsNotEntered, OpensNext, LooksAtSlot}
use Rattle.gomp_slots.specs.Premises.{MayClaim, MayAssign, HasPieceNumber}
use Rattle.gomp_slots.proofs.OwnPieces.{next_assigned}
use Rattle.gomp_shares.proofs.PartsKeep.{part_inside}
use Rattle.gomp_events.specs.Tasks.{contains}
use Rattle.gomp_share_ring.specs.AllShares.{StandsForAll, SeatTells, IsAll, IsNoted}
use Rattle.gomp_share_ring.specs.declared.member_seat.MemberSeat.{MemberSeat}
use Rattle.gomp_share_ring.proofs.OnlyShares.{was_taken_only, own_turn_only, rule_only}
use Rattle.gomp_share_ring.proofs.NotedTakes.{noted_none, noted_some, noted_after}
use Rattle.gomp_share_ring.proofs.AllSteps.{IsMemberOf, tells_now, hand_on_all}
use Rattle.gomp_share_ring.proofs.AllCalls.{in_share_of_all, sees_in, own_share_in, own_number_in}
use Rattle.gomp_types.specs.Singles.{single_shape}
use Rattle.gomp_slots.proofs.EveryMoment.{rule_gives}

-- Events

-- the events of the shares alone are those that the seat knows
pub shares_known : (members : ℕ) (seats : List MemberSeat) (v : View) (h events : List Event) → IsAll members seats v → StandsForAll members seats v.did h → Knows v events → shares_only h ≡ events
shares_known members seats v h events all st knows = st.same ∙ knows.all all.alone

-- an event that keeps the rule after these keeps it after each list for which the seat stands
pub ruled_at : (members : ℕ) (seats : List MemberSeat) (event : Event) (v : View) (h events : List Event) → IsAll members seats v → StandsForAll members seats v.did h → Knows v events → ShareRule (schedule members) members event events → ShareRule (schedule members) members event h
ruled_at members seats event v h events all st knows rule =
    rule_only (schedule members) members event h (subst (λ (l : List Event). ShareRule (schedule members) members event l) (sym (shares_known members seats v h events all st knows)) rule)

-- the share that a member is in, and its number of shares
pub same_share_in : (members m : ℕ) (seats : List MemberSeat) (did h : List Event) → StandsForAll members seats did h → open_share m h ≡ open_share m did
same_share_in members m seats did h st = sym (open_only m h) ∙ ap (open_share m) st.same

-- a member that is in no share by its seat is in none by the events
outside_in : (members m : ℕ) (seats : List MemberSeat) (v : View) (seat : MemberSeat) (h : List Event) → IsMemberOf members m seats v seat → seat.seen.current ≡ None → StandsForAll members seats v.did h → open_share m h ≡ None
outside_in members m seats v seat h is none st = sym (ap (λ (s : Seen). s.current) (sees_in members m seats v seat h is st)) ∙ none

-- its seat and the events have the same number of its next share
pub entered_in : (members m : ℕ) (seats : List MemberSeat) (v : View) (seat : MemberSeat) (h : List Event) → IsMemberOf members m seats v seat → StandsForAll members seats v.did h → shares_entered m h ≡ seat.seen.entered
entered_in members m seats v seat h is st = sym (ap (λ (s : Seen). s.entered) (sees_in members m seats v seat h is st))

-- Cancellation

-- a member in no share is in none that is cancelled
pub outside_not_cancelled : (members m : ℕ) (seats : List MemberSeat) (v : View) (seat : MemberSeat) (h : List Event) → IsMemberOf members m seats v seat → seat.seen.current ≡ None → StandsForAll members seats v.did h → false ≡ own_cancelled m h
outside_not_cancelled members m seats v seat h is none st = sym (ap (λ (own : Option (ℕ × Shape)). inside_cancelled own h) (outside_in members m seats v seat h is none st))

-- and the answer of one that asks in its share is right
pub cancelled_answer : (members m i : ℕ) (shape : Shape) (seats : List MemberSeat) (v now : View) (seat : MemberSeat) (h : List Event) (answer : Bool) → IsMemberOf members m seats v seat → seat.seen.current ≡ Some (i, shape) → AsksShareCancelled members i v answer now → StandsForAll members seats v.did h → answer ≡ own_cancelled m h
cancelled_answer members m i shape seats v now seat h answer is current asks st =
    asks.answer_is ∙ sym (ap (share_cancelled i) (shares_known members seats v h asks.events is.all st asks.knows)) ∙ cancelled_only i h
    ∙ sym (ap (λ (own : Option (ℕ × Shape)). inside_cancelled own h) (own_share_in members m i shape seats v seat h is current st))

-- a member whose share is cancelled sees that it is
pub sees_it : (members m i : ℕ) (shape : Shape) (seats : List MemberSeat) (v now : View) (seat : MemberSeat) (answer : Bool) → IsMemberOf members m seats v seat → seat.seen.current ≡ Some (i, shape) → own_cancelled m v.did ≡ true → SeesShareCancelled members m i v answer now → Acts members (See m (kind_in (open_share m v.did))) v now
sees_it members m i shape seats v now seat answer is current cancelled sees =
    let inside = (in_share_of_all members m i shape seats v seat is current).inside in
    sees.seen (sees.answer_is ∙ sym (ap (share_cancelled i) (sees.knows.all is.all.alone)) ∙ ap (λ (own : Option (ℕ × Shape)). inside_cancelled own v.did) (sym inside) ∙ cancelled)

-- Claims

-- the cursor of a member goes over the pieces of its share
plan_of : (members m i : ℕ) (shape : Shape) (seats : List MemberSeat) (v : View) (seat : MemberSeat) → IsMemberOf members m seats v seat → seat.seen.current ≡ Some (i, shape) → seat.cursor.plan ≡ record { members = members; shape = shape }
plan_of members m i shape seats v seat is current = (tells_now members m seats v seat is).plan_is (i, shape) current

-- so the member is one of the team that the cursor counts
pub team_of_plan : (members m i : ℕ) (shape : Shape) (seats : List MemberSeat) (v : View) (seat : MemberSeat) → IsMemberOf members m seats v seat → seat.seen.current ≡ Some (i, shape) → m < seat.cursor.plan.members
team_of_plan members m i shape seats v seat is current = subst (λ (p : PlanView). m < p.members) (sym (plan_of members m i shape seats v seat is current)) is.member

-- a piece has the same number in the cursor and in the share
pub number_of_plan : (members m i number : ℕ) (shape : Shape) (piece : Option Piece) (seats : List MemberSeat) (v : View) (seat : MemberSeat) → IsMemberOf members m seats v seat → seat.seen.current ≡ Some (i, shape) → slice_get (pieces seat.cursor.plan) number ≡ piece → slice_get (pieces_of members shape) number ≡ piece
number_of_plan members m i number shape piece seats v seat is current at = subst (λ (p : PlanView). slice_get (pieces p) number ≡ piece) (plan_of members m i shape seats v seat is current) at

-- and lies within the share if it lies within the cursor
pub within_plan : (members m i : ℕ) (shape : Shape) (piece : Option Piece) (seats : List MemberSeat) (v : View) (seat : MemberSeat) → IsMemberOf members m seats v seat → seat.seen.current ≡ Some (i, shape) → IfSome piece (IsPieceWithin seat.cursor.plan.shape.trips) → IfSome piece (IsPieceWithin shape.trips)
within_plan members m i shape piece seats v seat is current within = subst (λ (p : PlanView). IfSome piece (IsPieceWithin p.shape.trips)) (plan_of members m i shape seats v seat is current) within

-- a member may take its next piece of a static share
pub may_take_own : (members m i : ℕ) (shape : Shape) (seats : List MemberSeat) (v : View) (seat : MemberSeat) → IsMemberOf members m seats v seat → seat.seen.current ≡ Some (i, shape) → CanClaim members m seat.seen → is_static shape.kind ≡ true → MayAssign members m i v
may_take_own members m i shape seats v seat is current can static = record {
  at = in_share_of_all members m i shape seats v seat is current;
  static = static;
  apart = sym (ap (λ (s : Seen). s.in_part) (tells_now members m seats v seat is).sees) ∙ can.apart;
}

-- and the next one of all of any other share
pub may_take_next : (members m i : ℕ) (shape : Shape) (seats : List MemberSeat) (v : View) (seat : MemberSeat) → IsMemberOf members m seats v seat → seat.seen.current ≡ Some (i, shape) → CanClaim members m seat.seen → is_static shape.kind ≡ false → MayClaim members m i v
may_take_next members m i shape seats v seat is current can queue =
    let t = tells_now members m seats v seat is in record {
      at = in_share_of_all members m i shape seats v seat is current;
      queue = queue;
      more = sym (ap (λ (s : Seen). s.drained) t.sees) ∙ can.more;
      apart = sym (ap (λ (s : Seen). s.in_part) t.sees) ∙ can.apart;
    }

-- what the cursor gives of a static share is the piece that the call takes
pub own_piece_taken : (members m i : ℕ) (shape : Shape) (piece : Option Piece) (seats : List MemberSeat) (v now : View) (seat : MemberSeat) → IsMemberOf members m seats v seat → seat.seen.current ≡ Some (i, shape) → is_static shape.kind ≡ true → piece ≡ next_piece seat.cursor.plan m seat.own 0 →
    Acts members (claim_event i m (own_next members m v.did (open_share m v.did))) v now → Acts members (claim_event i m piece) v now
own_piece_taken members m i shape piece seats v now seat is current static piece_is acts =
    let inside : open_share m v.did ≡ Some (i, shape) = (in_share_of_all members m i shape seats v seat is current).inside in
    let same : own_next members m v.did (open_share m v.did) ≡ piece =
    ap (own_next members m v.did) inside
    ∙ sym (piece_is ∙ ap (λ (p : PlanView). next_piece p m seat.own 0) (plan_of members m i shape seats v seat is current) ∙ next_assigned members m i seat.own shape v.did is.all.some_member (is.all.valid m (i, shape) inside) static ((tells_now members m seats v seat is).own_is (i, shape) current)) in
    subst (λ (q : Option Piece). Acts members (claim_event i m q) v now) same acts

-- and so is what it gives by the ticket
pub ticket_piece_taken : (members m i ticket : ℕ) (shape : Shape) (piece : Option Piece) (seats : List MemberSeat) (v now : View) (seat : MemberSeat) → IsMemberOf members m seats v seat → seat.seen.current ≡ Some (i, shape) → piece ≡ slice_get (pieces seat.cursor.plan) ticket →
    Acts members (claim_event i m (piece_of members (open_share m v.did) ticket)) v now → Acts members (claim_event i m piece) v now
ticket_piece_taken members m i ticket shape piece seats v now seat is current piece_is acts =
    let inside : open_share m v.did ≡ Some (i, shape) = (in_share_of_all members m i shape seats v seat is current).inside in
    let same : piece_of members (open_share m v.did) ticket ≡ piece =
    ap (λ (own : Option (ℕ × Shape)). piece_of members own ticket) inside ∙ sym (piece_is ∙ ap (λ (p : PlanView). slice_get (pieces p) ticket) (plan_of members m i shape seats v seat is current)) in
    subst (λ (q : Option Piece). Acts members (claim_event i m q) v now) same acts

-- so the answer of a claim is what the trait asks
pub claims_in : (members m i : ℕ) (shape : Shape) (piece : Option Piece) (seats : List MemberSeat) (v now : View) (seat : MemberSeat) (h : List Event) → IsMemberOf members m seats v seat → seat.seen.current ≡ Some (i, shape) → Acts members (claim_event i m piece) v now → IfSome piece (IsPieceWithin shape.trips) → StandsForAll members seats v.did h → Claims members m piece h
claims_in members m i shape piece seats v now seat h is current acts within st =
    let there = own_share_in members m i shape seats v seat h is current st in record {
      share = (i, shape);
      there = there;
      valid = is.all.valid m (i, shape) (in_share_of_all members m i shape seats v seat is current).inside;
      least = rule_gives members m i shape piece h there (ruled_at members seats (claim_event i m piece) v h acts.events is.all st acts.knows acts.rule.0);
      within = within;
    }

-- Turns

-- the answer of a member that tries its turn is right
pub turn_answer : (members m : ℕ) (event : Event) (seats : List MemberSeat) (v now : View) (h : List Event) (answer : Bool) → IsAll members seats v → TriesTurn members m event v answer now → StandsForAll members seats v.did h → answer ≡ own_turn members m h
turn_answer members m event seats v now h answer all tries st =
    tries.answer_is ∙ sym (ap (own_turn members m) (shares_known members seats v h tries.events all st tries.knows)) ∙ own_turn_only members m h

-- a member that took none has no turn
pub no_turn : (members m : ℕ) (seats : List MemberSeat) (v : View) (seat : MemberSeat) (h : List Event) → IsMemberOf members m seats v seat → seat.seen.piece ≡ None → StandsForAll members seats v.did h → false ≡ own_turn members m h
no_turn members m seats v seat h is none st =
    let last : last_piece m h ≡ None = sym (ap (λ (s : Seen). s.piece) (sees_in members m seats v seat h is st)) ∙ none in sym (by (open_share m h) last)
  where
    nothing : (found : Option Piece) → same_piece found None ≡ false
    nothing None = refl
    nothing (Some piece) = refl

    by : (own : Option (ℕ × Shape)) → last_piece m h ≡ None → turn_in members own m h ≡ false
    by None last = refl
    by (Some share) last = rw last (nothing (slice_get (pieces_of members share.1) (turn share.0 h)))

-- a member that is in a part is in a share
pub part_not_outside : (members m : ℕ) (seats : List MemberSeat) (v : View) (seat : MemberSeat) → IsMemberOf members m seats v seat → seat.seen.in_part ≡ true → seat.seen.current ≡ None → ⊥
part_not_outside members m seats v seat is within none =
    let t = tells_now members m seats v seat is in
    let (i, shape, there, loop) = part_inside (schedule members) members m v.did is.all.rule (sym (ap (λ (s : Seen). s.in_part) t.sees) ∙ within) in
    none-some (i, shape) (sym none ∙ ap (λ (s : Seen). s.current) t.sees ∙ there)

-- what is kept of a member is the number of its piece
pub piece_has_its_number : (members m i : ℕ) (shape : Shape) (piece : Piece) (seats : List MemberSeat) (v : View) (seat : MemberSeat) → IsMemberOf members m seats v seat → seat.seen.current ≡ Some (i, shape) → seat.seen.piece ≡ Some piece → HasPieceNumber members m i seat.number v
piece_has_its_number members m i shape piece seats v seat is current has =
    let t = tells_now members m seats v seat is in record {
      at = in_share_of_all members m i shape seats v seat is current;
      piece = piece;
      last = sym (ap (λ (s : Seen). s.piece) t.sees) ∙ has;
      number_is = t.number_is (i, shape) piece current has;
    }

-- that number is small, and so is the end of the piece
pub record IsSmall (number : ℕ) (piece : Piece) : Type 0 where
  pub number_few : number < 2 ^ 39
  pub end_few : piece.1 ≤ 2 ^ 39

-- since a share has no more iterations than that
pub piece_is_small : (members m i : ℕ) (shape : Shape) (piece : Piece) (seats : List MemberSeat) (v : View) (seat : MemberSeat) → IsMemberOf members m seats v seat → seat.seen.current ≡ Some (i, shape) → seat.seen.piece ≡ Some piece → IsSmall seat.number piece
piece_is_small members m i shape piece seats v seat is current has =
    let valid : IsShape shape = is.all.valid m (i, shape) (in_share_of_all members m i shape seats v seat is current).inside in
    let lie = piece_lies_within 0 shape.trips (pieces_of members shape) seat.number piece (pieces_tile_all members shape is.all.some_member valid) ((tells_now members m seats v seat is).number_is (i, shape) piece current has) in
    let from = lie.from in
    let some = lie.some in
    let most = lie.within in
    let few = valid.trips in
    record { number_few = omega arith; end_few = omega arith }

-- the piece that is handed on is the member's
pub handed_number : (members m i number : ℕ) (shape : Shape) (seats : List MemberSeat) (v now : View) (seat : MemberSeat) (h : List Event) → IsMemberOf members m seats v seat → seat.seen.current ≡ Some (i, shape) → Acts members (HandOn i m number) v now → StandsForAll members seats v.did h → number_in members (open_share m h) m h ≡ number
handed_number members m i number shape seats v now seat h is current acts st =
    let there = own_share_in members m i shape seats v seat h is current st in
    let r = ruled_at members seats (HandOn i m number) v h acts.events is.all st acts.knows acts.rule.0 in
    ap (λ (own : Option (ℕ × Shape)). number_in members own m h) r.inside ∙ sym r.number

-- the answer tells which of both was done
pub hand_on_keeps : (members m i number : ℕ) (seats : List MemberSeat) (v now : View) (answer : Bool) → IsAll members seats v → TriesTurn members m (HandOn i m number) v answer now → IsAll members seats now
hand_on_keeps members m i number seats v now true all tries = (hand_on_all members m i number seats v now all (tries.acts refl)).all
hand_on_keeps members m i number seats v now false all tries = subst (λ (w : View). IsAll members seats w) (sym (tries.waits refl)) all

-- a piece that is handed on, or is not, leaves what is noted of the pieces taken
pub handed_noted : (members m i number : ℕ) (places : List (Option ℕ)) (v now : View) (answer : Bool) → IsNoted places v.did → TriesTurn members m (HandOn i m number) v answer now → IsNoted places now.did
handed_noted members m i number places v now true noted tries = noted_after places (HandOn i m number) v.did now.did noted (ap (λ (x : View). x.did) (tries.acts refl).after) (λ j. refl)
handed_noted members m i number places v now false noted tries = subst (λ (x : View). IsNoted places x.did) (sym (tries.waits refl)) noted

-- and the seat stands for the events with that one more, or without it
pub hand_on_stands_for : (members m i number : ℕ) (shape : Shape) (seats : List MemberSeat) (v now : View) (seat : MemberSeat) (h : List Event) (answer : Bool) → IsMemberOf members m seats v seat → seat.seen.current ≡ Some (i, shape) → TriesTurn members m (HandOn i m number) v answer now → StandsForAll members seats v.did h → StandsForAll members seats now.did (piece_handed members m answer h)
hand_on_stands_for members m i number shape seats v now seat h true is current tries st =
    rw (own_number_in members m i shape seats v seat h is current st, handed_number members m i number shape seats v now seat h is current (tries.acts refl) st) ((hand_on_all members m i number seats v now is.all (tries.acts refl)).stands h st)
hand_on_stands_for members m i number shape seats v now seat h false is current tries st = subst (λ (w : View). StandsForAll members seats w.did h) (sym (tries.waits refl)) st

-- Opening

-- a member that entered kept the rule, after each list for which the seat stands
share_entry_rule : (members m i : ℕ) (shape : Shape) (seats : List MemberSeat) (v : View) (h events : List Event) → IsAll members seats v → StandsForAll members seats v.did h → Knows v events → Always (ShareRule (schedule members) members) (Enter i m shape ∷ events) → MayEnter (schedule members) members i m shape h
share_entry_rule members m i shape seats v h events all st knows rule = ruled_at members seats (Enter i m shape) v h events all st knows rule.0

-- a shape differs from none, and not from itself
not_differs : (shape : Shape) (own : Option Shape) → ((other : Shape) → own ≡ Some other → other ≡ shape) → shape_differs shape own ≡ false
not_differs shape None same = refl
not_differs shape (Some other) same = ap (λ (s : Shape). not (same_shape s shape)) (same other refl) ∙ ap not (same_shape_itself shape)

-- the shape of a share is what the known events say
shape_in : (members i : ℕ) (seats : List MemberSeat) (v : View) (h events : List Event) → IsAll members seats v → StandsForAll members seats v.did h → Knows v events → shape_at i h ≡ shape_at i events
shape_in members i seats v h events all st knows = sym (shape_only i h) ∙ ap (shape_at i) (shares_known members seats v h events all st knows)

-- a member that entered was right to
pub entered_answer : (members m : ℕ) (shape : Shape) (seats : List MemberSeat) (v now : View) (seat : MemberSeat) (h : List Event) → IsMemberOf members m seats v seat → OpensNext (record { members = members; m = m }) seat.seen.entered shape HasEntered v now → StandsForAll members seats v.did h → MayOpen members m shape Entered h
entered_answer members m shape seats v now seat h is (events, knows, rule, done) st =
    let r = share_entry_rule members m seat.seen.entered shape seats v h events is.all st knows rule in
    rw (entered_in members m seats v seat h is st) (not_differs shape (shape_at seat.seen.entered h) r.same, r.room)

-- one that waits for room has none
waits_at : (members m : ℕ) (shape : Shape) (seats : List MemberSeat) (v : View) (seat : MemberSeat) (h : List Event) → IsMemberOf members m seats v seat → IsNotEntered members seat.seen.entered false v → StandsForAll members seats v.did h → MayOpen members m shape NotYet h
waits_at members m shape seats v seat h is waits st =
    let i : ℕ = seat.seen.entered in
    let none : shape_at i h ≡ None = shape_in members i seats v h waits.events is.all st waits.knows ∙ waits.none in
    let room : has_room members i h ≡ false = sym (room_only members i h) ∙ ap (has_room members i) (shares_known members seats v h waits.events is.all st waits.knows) ∙ waits.room_is in
    rw (entered_in members m seats v seat h is st) (ap (shape_differs shape) none, room)

-- so one that is told to wait has no room: nobody else opens a share
pub not_yet_answer : (members m : ℕ) (shape : Shape) (delay : Delay) (seats : List MemberSeat) (v now : View) (seat : MemberSeat) (h : List Event) → IsMemberOf members m seats v seat → OpensNext (record { members = members; m = m }) seat.seen.entered shape (MustWait delay) v now → StandsForAll members seats v.did h → MayOpen members m shape NotYet h
not_yet_answer members m shape NoRoom seats v now seat h is (waits, same) st = waits_at members m shape seats v seat h is waits st
not_yet_answer members m shape BeingOpened seats v now seat h is (waits, beside, same) st = absurd (not_both v.alone is.all.alone beside)

-- and one that is told that its shape differs has another shape
pub differs_answer : (members m : ℕ) (shape : Shape) (seats : List MemberSeat) (v now : View) (seat : MemberSeat) (h : List Event) → IsMemberOf members m seats v seat → OpensNext (record { members = members; m = m }) seat.seen.entered shape IsDifferent v now → StandsForAll members seats v.did h → MayOpen members m shape Differs h
differs_answer members m shape seats v now seat h is (apart, done) st =
    rw (entered_in members m seats v seat h is st) (ap (shape_differs shape) (shape_in members seat.seen.entered seats v h apart.events is.all st apart.knows ∙ apart.other_is) ∙ differs_from shape apart.other apart.differs)

-- what the seat knows stays, and so does all that is kept
pub did_same : (members : ℕ) (seats : List MemberSeat) (v now : View) → IsAll members seats v → HasDone v.did v now → IsAll members seats now
did_same members seats v now all done = record {
  size = all.size;
  some_member = all.some_member;
  alone = done.alone ∙ all.alone;
  idle = done.idle;
  whose = λ k lt. ap (contains k) done.mine ∙ all.whose k lt;
  rule = subst (λ (l : List Event). Always (ShareRule (schedule members) members) l) (sym done.did_is) all.rule;
  clean = ap shares_only done.did_is ∙ all.clean ∙ sym done.did_is;
  tells = λ k s at. subst (λ (l : List Event). SeatTells members k s l) (sym done.did_is) (all.tells k s at);
  valid = λ k share at. all.valid k share (sym (ap (open_share k) done.did_is) ∙ at);
}

-- Whether the next share is taken

-- whether a piece of the next share of a member was taken is known
taken_in_all : (members m : ℕ) (seats : List MemberSeat) (v : View) (seat : MemberSeat) (h : List Event) → IsMemberOf members m seats v seat → StandsForAll members seats v.did h → was_taken (shares_entered m h) h ≡ was_taken seat.seen.entered v.did
taken_in_all members m seats v seat h is st =
    ap (λ (i : ℕ). was_taken i h) (entered_in members m seats v seat h is st) ∙ sym (was_taken_only seat.seen.entered h) ∙ ap (was_taken seat.seen.entered) st.same

-- none was if nothing is noted of its slot
pub taken_by_none : (members m : ℕ) (seats : List MemberSeat) (places : List (Option ℕ)) (copied : Option ℕ) (v : View) (seat : MemberSeat) (h : List Event) → IsMemberOf members m seats v seat → IsNoted places v.did → Some copied ≡ slice_get places (seat.seen.entered % OPEN_SHARES) → copied ≡ None → StandsForAll members seats v.did h →
    false ≡ was_taken (shares_entered m h) h
taken_by_none members m seats places copied v seat h is noted there none st =
    sym (taken_in_all members m seats v seat h is st ∙ noted_none seat.seen.entered places v.did noted (sym there ∙ ap Some none))

-- else one was if the share is the one that is noted there
pub taken_by_last : (members m last : ℕ) (seats : List MemberSeat) (places : List (Option ℕ)) (copied : Option ℕ) (v : View) (seat : MemberSeat) (h : List Event) → IsMemberOf members m seats v seat → IsNoted places v.did → Some copied ≡ slice_get places (seat.seen.entered % OPEN_SHARES) → copied ≡ Some last → StandsForAll members seats v.did h →
    (last == seat.seen.entered) ≡ was_taken (shares_entered m h) h
taken_by_last members m last seats places copied v seat h is noted there some st =
    let next : shares_entered m v.did ≡ seat.seen.entered = sym (ap (λ (s : Seen). s.entered) (tells_now members m seats v seat is).sees) in
    sym (taken_in_all members m seats v seat h is st ∙ noted_some members m seat.seen.entered last places v.did noted is.all.rule is.member next (sym there ∙ ap Some some))

-- Looking at the next share

-- the seat looks, and what it knows of the events stays
pub record HasLooked (members : ℕ) (seats : List MemberSeat) (v now : View) : Type 0 where
  pub all : IsAll members seats now
  pub did : now.did ≡ v.did

-- a look at a slot changes nothing that is kept
pub look_is_known : (members i word : ℕ) (seats : List MemberSeat) (v now : View) → IsAll members seats v → LooksAtSlot members i v word now → HasLooked members seats v now
look_is_known members i word seats v now all looked = elim (cases_Bool (holds_share i word)) [
  | inl here ↦
      let now_is = (looked.there here).4 in
      let done : HasDone v.did v now = record { did_is = ap (λ (x : View). x.did) now_is; mine = ap (λ (x : View). x.mine) now_is; alone = ap (λ (x : View). x.alone) now_is; idle = ap (λ (x : View). x.opening) now_is ∙ all.idle } in
      record { all = did_same members seats v now all done; did = done.did_is }
  | inr absent ↦
      let now_is = (looked.absent absent).1 in
      record { all = subst (λ (x : View). IsAll members seats x) (sym now_is) all; did = ap (λ (x : View). x.did) now_is }
]

-- what it found
pub next_found : (members i word : ℕ) (v now : View) → LooksAtSlot members i v word now → holds_share i word ≡ true → (other : Shape) × (now.found ≡ Some other) × (now.share ≡ i)
next_found members i word v now looked here =
    let there = looked.there here in
    (there.0, ap (λ (x : View). x.found) there.4, ap (λ (x : View). x.share) there.4)

-- nobody has entered the share
pub none_differs : (members m word : ℕ) (shape : Shape) (seats : List MemberSeat) (v now : View) (seat : MemberSeat) (h : List Event) → IsMemberOf members m seats v seat → LooksAtSlot members seat.seen.entered v word now → holds_share seat.seen.entered word ≡ false → StandsForAll members seats v.did h →
    false ≡ shape_differs shape (shape_at (shares_entered m h) h)
none_differs members m word shape seats v now seat h is looked absent st =
    let none = shape_in members seat.seen.entered seats v h looked.events is.all st looked.knows ∙ (looked.absent absent).0 in
    rw (entered_in members m seats v seat h is st) (sym (ap (shape_differs shape) none))

-- or it is of the shape that was found
other_found : (members m word : ℕ) (shape : Shape) (answer : Bool) (seats : List MemberSeat) (v now : View) (seat : MemberSeat) (h : List Event) → IsMemberOf members m seats v seat → LooksAtSlot members seat.seen.entered v word now → holds_share seat.seen.entered word ≡ true → StandsForAll members seats v.did h →
    ((other : Shape) → now.found ≡ Some other → FitsWords other → answer ≡ shape_differs shape (Some other)) → answer ≡ shape_differs shape (shape_at (shares_entered m h) h)
other_found members m word shape answer seats v now seat h is looked here st tells =
    let there = looked.there here in
    let at = shape_in members seat.seen.entered seats v h looked.events is.all st looked.knows ∙ there.1 in
    rw (entered_in members m seats v seat h is st) (tells there.0 (ap (λ (x : View). x.found) there.4) there.2 ∙ sym (ap (shape_differs shape) at))

-- a bare single is told by its gate
bare_differs : (shape other : Shape) → other ≡ single_shape false → not (is_bare_single shape) ≡ shape_differs shape (Some other)
bare_differs shape other is = by (is_bare_single shape) refl
  where
    by : (c : Bool) → is_bare_single shape ≡ c → not c ≡ not (same_shape other shape)
    by true e = let mine : shape ≡ single_shape false = same_shape_is shape (single_shape false) e in let one : other ≡ shape = is ∙ sym mine in sym (ap not (ap (λ (s : Shape). same_shape s shape) one ∙ same_shape_itself shape))
    by false e = elim (cases_Bool (same_shape other shape)) [
      | inl same ↦ absurd (let one : other ≡ shape = same_shape_is other shape same in not_both (is_bare_single shape) (ap is_bare_single (sym one ∙ is) ∙ same_shape_itself (single_shape false)) e)
      | inr differs ↦ sym (ap not differs)
    ]

pub bare_single_differs : (members m word : ℕ) (shape : Shape) (seats : List MemberSeat) (v now : View) (seat : MemberSeat) (h : List Event) → IsMemberOf members m seats v seat → (looked : LooksAtSlot members seat.seen.entered v word now) → holds_share seat.seen.entered word ≡ true → phase_of word ≡ 3 → StandsForAll members seats v.did h →
    not (is_bare_single shape) ≡ shape_differs shape (shape_at (shares_entered m h) h)
bare_single_differs members m word shape seats v now seat h is looked here phase st =
    let there = looked.there here in
    let bare : there.0 ≡ single_shape false = bare_shape there.0 (sym there.3 ∙ phase) in
    let at = shape_in members seat.seen.entered seats v h looked.events is.all st looked.knows ∙ there.1 in
    rw (entered_in members m seats v seat h is st) (bare_differs shape there.0 bare ∙ sym (ap (shape_differs shape) at))

-- which no construct can have
pub misfit_differs : (members m word : ℕ) (shape : Shape) (seats : List MemberSeat) (v now : View) (seat : MemberSeat) (h : List Event) → IsMemberOf members m seats v seat → LooksAtSlot members seat.seen.entered v word now → holds_share seat.seen.entered word ≡ true → (IsShape shape → ⊥) → StandsForAll members seats v.did h →
    true ≡ shape_differs shape (shape_at (shares_entered m h) h)
misfit_differs members m word shape seats v now seat h is looked here misfit st =
    other_found members m word shape true seats v now seat h is looked here st (λ other found fits. sym (differs_from shape other (λ e. misfit (subst (λ (s : Shape). IsShape s) e fits.valid))))

-- or whose words are compared
pub words_differ : (members m word : ℕ) (shape : Shape) (same : Bool) (seats : List MemberSeat) (v now : View) (seat : MemberSeat) (h : List Event) → IsMemberOf members m seats v seat → LooksAtSlot members seat.seen.entered v word now → holds_share seat.seen.entered word ≡ true → FitsWords shape →
    (same ≡ true → (other : Shape) → now.found ≡ Some other → SameWords other shape) → (same ≡ false → now.found ≡ Some shape → ⊥) → StandsForAll members seats v.did h → not same ≡ shape_differs shape (shape_at (shares_entered m h) h)
words_differ members m word shape same seats v now seat h is looked here fits alike unlike st =
    other_found members m word shape (not same) seats v now seat h is looked here st (λ other found others. by same alike unlike other found others)
  where
    by : (same : Bool) → (same ≡ true → (other : Shape) → now.found ≡ Some other → SameWords other shape) → (same ≡ false → now.found ≡ Some shape → ⊥) → (other : Shape) → now.found ≡ Some other → FitsWords other → not same ≡ shape_differs shape (Some other)
    by true alike unlike other found others =
        let one : other ≡ shape = words_tell_shape other shape others.valid fits.valid others.start others.incr fits.start fits.incr (alike refl other found) in
        sym (ap (λ (s : Shape). not (same_shape s shape)) one ∙ ap not (same_shape_itself shape))
    by false alike unlike other found others = sym (differs_from shape other (λ e. unlike refl (found ∙ ap Some e)))
