-- From the answer of a call on the shares to the rule of the event that it gives: what each body of the shares has to show of it.
use Rattle.std.proofs.Common.{◌≡◌, ℕ, ◌<◌, ◌≤◌, true, nat_lt, nat_le, List, Option, Some, None, ◌⊎◌, inl, inr, refl, ap, sym, arith}
use Rattle.std.specs.Prelude.{◌&&◌, is_some}
use Rattle.std.proofs.lemmas.Bool.Decides.{nat_tests}
use Rattle.gomp_types.specs.declared.shape.Shape.{Shape}
use Rattle.gomp_events.specs.declared.event.Event.{Event}
use Rattle.gomp_types.specs.Pieces.{Piece}
use Rattle.gomp_types.specs.Shapes.{is_single}
use Rattle.gomp_events.specs.Events.{shares_entered, open_share, open_number, share_number, has_drained, last_piece, next_part, in_kind, is_inside, shape_at}
use Rattle.gomp_types.specs.Pieces.{has_iteration}
use Rattle.gomp_events.specs.Ordered.{is_ordered, is_in_rest}
use Rattle.gomp_types.specs.Deals.{schedule}
use Rattle.gomp_events.specs.Takes.{next_for}
use Rattle.gomp_events.specs.Laws.{Always}
use Rattle.gomp_shares.specs.Rules.{ShareRule, MayEnter, MayTake, HasNone, MayLeaveShare, MayCancelShare, MayHandOn, MayPart, MayEndPart}
use Rattle.gomp_events.specs.Cancels.{may_be_cancelled, leaves_share}
use Rattle.gomp_events.specs.Seen.{seen_of}
use Rattle.gomp_types.proofs.Booleans.{some_of, none_of, or_tells, and_left, and_right}
use Rattle.gomp_types.proofs.Compared.{same_shapes}
use Rattle.gomp_types.proofs.Dealing.{schedule_deals, pieces_tile_all}
use Rattle.gomp_shares.proofs.CancelledShares.{cancellable_end}
use Rattle.gomp_shares.proofs.SharesKeep.{drained_none}
use Rattle.gomp_shares.proofs.SinglesKeep.{single_is_done}
use Rattle.gomp_shares.proofs.PartsKeep.{part_inside}
use Rattle.gomp_shares.specs.declared.Opening.TheVariants.{Entered}
use Rattle.gomp_shares.specs.Calls.{CanOpen, MayOpen, CanClaim, Claims, CanLeave, is_done, CanBeginPart, CanEndPart, CanHandOn, own_turn, number_in}

-- Entering, taking and leaving

-- a member that opens its next share, and is told that it entered, may enter
pub enter_rule : (members m : ℕ) (shape : Shape) (h : List Event) → CanOpen members m shape (seen_of m h) → MayOpen members m shape Entered h → MayEnter (schedule members) members (shares_entered m h) m shape h
enter_rule members m shape h can may = let lt = can.member in record {
  member = lt;
  number = refl;
  outside = none_of (open_share m h) can.outside;
  dealt = schedule_deals members shape (omega arith) can.valid.some;
  tiles = pieces_tile_all members shape (omega arith) can.valid;
  moves = can.valid.moves;
  ordered = can.ordered;
  unordered = can.valid.unordered;
  same = same_shapes shape (shape_at (shares_entered m h) h) may.0;
  room = may.1;
}

-- one that claims, and is given a piece, may take it
pub take_rule : (members m : ℕ) (piece : Piece) (h : List Event) → CanClaim members m (seen_of m h) → Claims members m (Some piece) h → MayTake (schedule members) (open_number m h) m piece.0 piece.1 h
take_rule members m piece h can claims =
    let number : open_number m h ≡ claims.share.0 = ap share_number claims.there in
    rw number (record { shape = claims.share.1; inside = claims.there; next = sym claims.least; apart = can.apart })

-- and one that is given none may be told so
pub none_rule : (members m : ℕ) (h : List Event) → CanClaim members m (seen_of m h) → Claims members m None h → HasNone (schedule members) (open_number m h) m h
none_rule members m h can claims =
    let number : open_number m h ≡ claims.share.0 = ap share_number claims.there in
    rw number (record { shape = claims.share.1; inside = claims.there; none = sym claims.least; apart = can.apart })

-- a member that was told so has nothing left for it, nor has one that took the piece of a single
none_left : (members m i : ℕ) (shape : Shape) (h : List Event) → Always (ShareRule (schedule members) members) h → open_share m h ≡ Some (i, shape) → is_done (seen_of m h) ≡ true →
    next_for (schedule members) shape i m h ≡ None
none_left members m i shape h rule there done =
    elim (or_tells (has_drained m h) (in_kind is_single (open_share m h) && is_some (last_piece m h)) done) [
      | inl drained ↦ drained_none (schedule members) members m i shape h rule there drained
      | inr took ↦
          let kind : in_kind is_single (open_share m h) ≡ true = and_left (in_kind is_single (open_share m h)) (is_some (last_piece m h)) took in
          single_is_done members m i shape h rule there (rw there at kind) (and_right (in_kind is_single (open_share m h)) (is_some (last_piece m h)) took)
    ]

-- so it may leave, and so may one that has seen that its share is cancelled
pub leave_rule : (members m : ℕ) (h : List Event) → Always (ShareRule (schedule members) members) h → CanLeave members m (seen_of m h) → MayLeaveShare (schedule members) (open_number m h) m h
leave_rule members m h rule can =
    let own = some_of (open_share m h) can.inside in
    let number : open_number m h ≡ own.0.0 = ap share_number own.1 in
    rw number (record { shape = own.0.1; inside = own.1; done = free own.0.0 own.0.1 own.1; apart = can.apart })
  where
    free : (i : ℕ) (shape : Shape) → open_share m h ≡ Some (i, shape) → (next_for (schedule members) shape i m h ≡ None) ⊎ (leaves_share m h ≡ true)
    free i shape there = elim (or_tells (is_done (seen_of m h)) (leaves_share m h) can.done) [
      | inl done ↦ inl (none_left members m i shape h rule there done)
      | inr leaving ↦ inr leaving
    ]

-- a member may cancel the share that it is in, if that may be cancelled
pub cancel_rule : (m : ℕ) (h : List Event) → may_be_cancelled (open_share m h) ≡ true → MayCancelShare (open_number m h) m h
cancel_rule m h may = by_share (open_share m h) refl may
  where
    by_share : (own : Option (ℕ × Shape)) → open_share m h ≡ own → may_be_cancelled own ≡ true → MayCancelShare (open_number m h) m h
    by_share None at e = absurd (cc)
    by_share (Some share) at e = rw at (record { shape = share.1; inside = at; cancellable = cancellable_end share.1.end_kind e })

-- Ordered parts

ordered_some : (own : Option (ℕ × Shape)) → is_ordered own ≡ true → is_some own ≡ true
ordered_some None e = absurd (cc)
ordered_some (Some share) e = refl

-- a member that begins a part, or hands on, is in a share
pub begins_inside : (members m iteration : ℕ) (h : List Event) → CanBeginPart members m iteration (seen_of m h) → is_inside m h ≡ true
begins_inside members m iteration h can = ordered_some (open_share m h) can.ordered

pub hands_inside : (members m : ℕ) (h : List Event) → CanHandOn members m (seen_of m h) → is_inside m h ≡ true
hands_inside members m h can = ordered_some (open_share m h) can.ordered

-- what the test of an iteration tells
pub record IsInRest (own : Option Piece) (least k : ℕ) : Type 0 where
  pub piece : Piece
  pub is : own ≡ Some piece
  pub from : piece.0 ≤ k
  pub before : k < piece.1
  pub after : least ≤ k

pub rest_tells : (own : Option Piece) (after k : ℕ) → is_in_rest own after (Some k) ≡ true → IsInRest own after k
rest_tells None after k e = absurd (cc)
rest_tells (Some piece) after k e =
    let both = and_left (has_iteration k piece.0 piece.1) (nat_le after k) e in
    let last = and_right (has_iteration k piece.0 piece.1) (nat_le after k) e in
    let low = and_left (nat_le piece.0 k) (nat_lt k piece.1) both in
    let high = and_right (nat_le piece.0 k) (nat_lt k piece.1) both in
    record { piece = piece; is = refl; from = grind (arith, nat_tests, low); before = grind (arith, nat_tests, high); after = grind (arith, nat_tests, last) }

-- a member that has the turn may begin the part
pub part_rule : (members m iteration : ℕ) (h : List Event) → CanBeginPart members m iteration (seen_of m h) → own_turn members m h ≡ true → MayPart members (open_number m h) m iteration h
part_rule members m iteration h can next =
    let own = some_of (open_share m h) (begins_inside members m iteration h can) in
    let number : open_number m h ≡ own.0.0 = ap share_number own.1 in
    let rest = rest_tells (last_piece m h) (next_part m h) iteration can.rest in
    rw number (record {
      shape = own.0.1;
      inside = own.1;
      ordered = rw own.1 at can.ordered;
      apart = can.apart;
      next = rw own.1 at next;
      low = rest.piece.0;
      high = rest.piece.1;
      piece = rest.is;
      from = rest.from;
      before = rest.before;
      after = rest.after;
    })

-- one that is in a part may end it: it is in a share
pub part_end_follows_the_rule : (members m : ℕ) (h : List Event) → Always (ShareRule (schedule members) members) h → CanEndPart members m (seen_of m h) → MayEndPart (open_number m h) m h
part_end_follows_the_rule members m h rule can =
    let (i, shape, there, is) = part_inside (schedule members) members m h rule can.within in
    let number : open_number m h ≡ i = ap share_number there in
    rw number (record { shape = shape; inside = there; within = can.within })

-- and one that has the turn may hand its piece on
pub hand_on_rule : (members m : ℕ) (h : List Event) → CanHandOn members m (seen_of m h) → own_turn members m h ≡ true → MayHandOn members (open_number m h) m (number_in members (open_share m h) m h) h
hand_on_rule members m h can next =
    let own = some_of (open_share m h) (hands_inside members m h can) in
    let number : open_number m h ≡ own.0.0 = ap share_number own.1 in
    rw number (record {
      shape = own.0.1;
      inside = own.1;
      ordered = rw own.1 at can.ordered;
      apart = can.apart;
      number = ap (λ (share : Option (ℕ × Shape)). number_in members share m h) own.1;
      next = rw own.1 at next;
    })
