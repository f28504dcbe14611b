-- What holds of all work-shares whose events keep their rule, however they are kept: the laws that the crates above cite.
-- No program state stands behind them, so whatever body keeps the rule keeps these laws.
use Rattle.std.proofs.Common.{ℕ, List, Some, None, true, false, suc, ◌+◌, ◌*◌, ◌<◌, ◌≡◌}
use Rattle.std.specs.Prelude.{is_some}
use Rattle.gomp_events.specs.declared.event.Event.{Event}
use Rattle.gomp_types.specs.declared.limits.TheConstants.{OPEN_SHARES}
use Rattle.gomp_types.specs.declared.shape.Shape.{Shape}
use Rattle.gomp_types.specs.Deals.{Queues, FirstOfQueue, schedule}
use Rattle.gomp_events.specs.Takes.{takes_in, next_for}
use Rattle.gomp_types.specs.Pieces.{Piece}
use Rattle.gomp_types.specs.Shapes.{is_loop, is_single}
use Rattle.gomp_events.specs.Events.{shares_entered, open_share, has_drained, last_piece, shape_at, is_over, in_part}
use Rattle.gomp_events.specs.Cancels.{own_cancelled, leaves_share}
use Rattle.gomp_events.specs.Laws.{Always}
use Rattle.gomp_shares.specs.Rules.{ShareRule}
use Rattle.gomp_shares.specs.Laws.{OrderedLaws, ShareLaws}
use Rattle.gomp_shares.proofs.CancelledShares.{leaving_is_cancelled}
use Rattle.gomp_shares.proofs.FirstOfQueue.{first_of_queue}
use Rattle.gomp_shares.proofs.OrderedKeep.{ordered_keep}
use Rattle.gomp_shares.proofs.PartsKeep.{part_inside}
use Rattle.gomp_shares.proofs.SharesKeep.{shares_keep, drained_none}
use Rattle.gomp_shares.proofs.SinglesKeep.{single_is_done}
use Rattle.gomp_shares.proofs.SharesOver.{eight_before, inside_is_open, next_is_open}

-- however the pieces of the work-shares are dealt out, events that keep the rule of the shares keep their laws: taken once,
-- whole, same shares
pub share_rule_keeps_laws : (queues : Queues) (members : ℕ) (h : List Event) → Always (ShareRule queues members) h → ShareLaws queues members h
share_rule_keeps_laws = shares_keep

-- however the shares are kept, events that keep their rule keep the order of ordered parts: they rise along a loop, each in its
-- member's last piece once every earlier one is handed on, one after another
pub share_rule_keeps_order : (members : ℕ) (h : List Event) → Always (ShareRule (schedule members) members) h → OrderedLaws members h
share_rule_keeps_order = ordered_keep

-- the next piece of a member is the first of its queue that nobody took: before it are the pieces that were taken from the
-- queue, in the order in which they were taken
pub next_piece_is_first_of_queue : (queues : Queues) (members m i : ℕ) (shape : Shape) (piece : Piece) (h : List Event) → Always (ShareRule queues members) h → open_share m h ≡ Some (i, shape) →
    next_for queues shape i m h ≡ Some piece → FirstOfQueue (queues.queue shape (queues.queue_of shape m)) (takes_in (queues.queue_of shape) i (queues.queue_of shape m) h) piece
next_piece_is_first_of_queue = first_of_queue

-- once a member found nothing left in the share that it is in, nothing is left there for it
pub drained_share_stays_drained : (queues : Queues) (members m i : ℕ) (shape : Shape) (h : List Event) → Always (ShareRule queues members) h → open_share m h ≡ Some (i, shape) → has_drained m h ≡ true →
    next_for queues shape i m h ≡ None
drained_share_stays_drained = drained_none

-- a member that took the piece of the single that it is in finds nothing left there
pub taken_single_has_nothing_left : (members m i : ℕ) (shape : Shape) (h : List Event) → Always (ShareRule (schedule members) members) h → open_share m h ≡ Some (i, shape) →
    is_single shape.kind ≡ true → is_some (last_piece m h) ≡ true → next_for (schedule members) shape i m h ≡ None
taken_single_has_nothing_left = single_is_done

-- a share that a member is in was entered in its shape, and is not over
pub share_of_a_member_is_open : (members m i : ℕ) (shape : Shape) (h : List Event) → Always (ShareRule (schedule members) members) h → open_share m h ≡ Some (i, shape) →
    (shape_at i h ≡ Some shape) × (is_over members i h ≡ false)
share_of_a_member_is_open members = inside_is_open (schedule members) members

-- nor is the share over that a member enters next
pub next_share_is_open : (members m : ℕ) (h : List Event) → Always (ShareRule (schedule members) members) h → m < members → is_over members (shares_entered m h) h ≡ false
next_share_is_open members = next_is_open (schedule members) members

-- of the shares whose numbers differ by a multiple of eight all but the last that was entered are over: so eight places serve them
pub shares_eight_before_are_over : (members i j k : ℕ) (shape : Shape) (h : List Event) → Always (ShareRule (schedule members) members) h → shape_at i h ≡ Some shape →
    i ≡ OPEN_SHARES * suc k + j → is_over members j h ≡ true
shares_eight_before_are_over members = eight_before (schedule members) members

-- a member in an ordered part is in a loop
pub ordered_part_is_in_a_loop : (members m : ℕ) (h : List Event) → Always (ShareRule (schedule members) members) h → in_part m h ≡ true →
    (i : ℕ) × (shape : Shape) × (open_share m h ≡ Some (i, shape)) × (is_loop shape.kind ≡ true)
ordered_part_is_in_a_loop members = part_inside (schedule members) members

-- a member that has seen that its share is cancelled, and has not left it, is in a cancelled share
pub leaving_member_is_in_a_cancelled_share : (members m : ℕ) (h : List Event) → Always (ShareRule (schedule members) members) h → leaves_share m h ≡ true → own_cancelled m h ≡ true
leaving_member_is_in_a_cancelled_share members = leaving_is_cancelled (schedule members) members
