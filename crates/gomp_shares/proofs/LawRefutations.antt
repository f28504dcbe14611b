-- What no events of the work-shares do that keep their rule, of any queues, team, member, share, shape and list of events.
use Rattle.std.proofs.Common.{◌≡◌, ◌≢◌, ℕ, suc, ◌+◌, ◌*◌, ◌<◌, List, Some, true, false}
use Rattle.std.specs.Prelude.{is_some}
use Rattle.gomp_events.specs.declared.event.Event.{Event}
use Rattle.gomp_types.specs.declared.limits.TheConstants.{OPEN_SHARES}
use Rattle.gomp_types.specs.declared.shape.Shape.{Shape}
use Rattle.gomp_types.specs.Deals.{Queues, FirstOfQueue, schedule}
use Rattle.gomp_events.specs.Takes.{takes_in, next_for}
use Rattle.gomp_types.specs.Pieces.{Piece}
use Rattle.gomp_types.specs.Shapes.{is_loop, is_single}
use Rattle.gomp_events.specs.Events.{shares_entered, open_share, has_drained, last_piece, shape_at, is_over, in_part}
use Rattle.gomp_events.specs.Cancels.{own_cancelled, leaves_share}
use Rattle.gomp_events.specs.Laws.{Always}
use Rattle.gomp_types.proofs.Booleans.{not_both}
use Rattle.gomp_shares.specs.Rules.{ShareRule}
use Rattle.gomp_shares.specs.Laws.{OrderedLaws, ShareLaws}
use Rattle.gomp_shares.proofs.Laws.{share_rule_keeps_laws, share_rule_keeps_order, next_piece_is_first_of_queue, drained_share_stays_drained, taken_single_has_nothing_left, share_of_a_member_is_open, next_share_is_open, shares_eight_before_are_over, ordered_part_is_in_a_loop, leaving_member_is_in_a_cancelled_share}

-- no next piece is another than the first of its queue that nobody took
pub never_next_but_the_first_of_its_queue : (queues : Queues) (members m i : ℕ) (shape : Shape) (piece : Piece) (h : List Event) → open_share m h ≡ Some (i, shape) → next_for queues shape i m h ≡ Some piece →
    (FirstOfQueue (queues.queue shape (queues.queue_of shape m)) (takes_in (queues.queue_of shape) i (queues.queue_of shape m) h) piece → ⊥) → Always (ShareRule queues members) h → ⊥
never_next_but_the_first_of_its_queue queues members m i shape piece h inside next other all = other (next_piece_is_first_of_queue queues members m i shape piece h all inside next)

-- no piece is left for a member that found nothing left
pub never_a_piece_once_drained : (queues : Queues) (members m i : ℕ) (shape : Shape) (piece : Piece) (h : List Event) → open_share m h ≡ Some (i, shape) → has_drained m h ≡ true → next_for queues shape i m h ≡ Some piece → Always (ShareRule queues members) h → ⊥
never_a_piece_once_drained queues members m i shape piece h inside drained next all = let none = drained_share_stays_drained queues members m i shape h all inside drained in absurd (cc)

-- nor for one that took the piece of a single
pub never_a_second_piece_of_a_single : (members m i : ℕ) (shape : Shape) (piece : Piece) (h : List Event) → open_share m h ≡ Some (i, shape) → is_single shape.kind ≡ true → is_some (last_piece m h) ≡ true → next_for (schedule members) shape i m h ≡ Some piece →
    Always (ShareRule (schedule members) members) h → ⊥
never_a_second_piece_of_a_single members m i shape piece h inside single taken next all = let none = taken_single_has_nothing_left members m i shape h all inside single taken in absurd (cc)

-- no member leaves a share that is not cancelled as one that is
pub never_leaving_an_uncancelled_share : (members m : ℕ) (h : List Event) → leaves_share m h ≡ true → own_cancelled m h ≡ false → Always (ShareRule (schedule members) members) h → ⊥
never_leaving_an_uncancelled_share members m h leaves stays all = not_both (own_cancelled m h) (leaving_member_is_in_a_cancelled_share members m h all leaves) stays

-- The other laws of Laws.antt, each in its whole generality

-- no events that keep the rule of the shares break their laws, however the pieces are dealt out
pub share_rule_never_breaks_laws : (queues : Queues) (members : ℕ) (h : List Event) → Always (ShareRule queues members) h → (ShareLaws queues members h → ⊥) → ⊥
share_rule_never_breaks_laws queues members h rule broken = broken (share_rule_keeps_laws queues members h rule)

-- nor the order of ordered parts
pub share_rule_never_breaks_order : (members : ℕ) (h : List Event) → Always (ShareRule (schedule members) members) h → (OrderedLaws members h → ⊥) → ⊥
share_rule_never_breaks_order members h rule broken = broken (share_rule_keeps_order members h rule)

-- a share that a member is in was never entered in another shape
pub share_of_a_member_never_of_another_shape : (members m i : ℕ) (shape : Shape) (h : List Event) → Always (ShareRule (schedule members) members) h → open_share m h ≡ Some (i, shape) → shape_at i h ≢ Some shape → ⊥
share_of_a_member_never_of_another_shape members m i shape h rule inside other = other (share_of_a_member_is_open members m i shape h rule inside).0

-- and is never over
pub share_of_a_member_never_over : (members m i : ℕ) (shape : Shape) (h : List Event) → Always (ShareRule (schedule members) members) h → open_share m h ≡ Some (i, shape) → is_over members i h ≢ false → ⊥
share_of_a_member_never_over members m i shape h rule inside over = over (share_of_a_member_is_open members m i shape h rule inside).1

-- nor is the share that it enters next
pub next_share_never_over : (members m : ℕ) (h : List Event) → Always (ShareRule (schedule members) members) h → m < members → is_over members (shares_entered m h) h ≢ false → ⊥
next_share_never_over members m h rule member over = over (next_share_is_open members m h rule member)

-- no share is open whose number is a multiple of eight below that of one that was entered
pub shares_eight_before_never_open : (members i j k : ℕ) (shape : Shape) (h : List Event) → Always (ShareRule (schedule members) members) h → shape_at i h ≡ Some shape → i ≡ OPEN_SHARES * suc k + j → is_over members j h ≢ true → ⊥
shares_eight_before_never_open members i j k shape h rule entered before stays = stays (shares_eight_before_are_over members i j k shape h rule entered before)

-- no member is in an ordered part outside of a loop
pub ordered_part_never_outside_a_loop : (members m : ℕ) (h : List Event) → Always (ShareRule (schedule members) members) h → in_part m h ≡ true → ((i : ℕ) (shape : Shape) → open_share m h ≡ Some (i, shape) → is_loop shape.kind ≡ true → ⊥) → ⊥
ordered_part_never_outside_a_loop members m h rule inside outside = let (i, shape, there, loop) = ordered_part_is_in_a_loop members m h rule inside in outside i shape there loop
