use Rattle.std.proofs.Common.{refl, ◌∙◌}
use Rattle.gomp_types.proofs.Booleans.{some_of, none_of}
use Rattle.gomp_shares.specs.Calls.{CanHandOn}
use Rattle.gomp_share_ring.proofs.AllAnswers.{piece_has_its_number, piece_is_small, turn_answer, no_turn, hand_on_keeps, hand_on_stands_for, handed_noted}
use Rattle.gomp_share_ring.proofs.AllCalls.{member_at, asked_of_events, known_to_all, stands_here, unchanged_view}
use Rattle.gomp_share_ring.proofs.ring_all.RingAllShares.hand_on.Goals as goal

pub returns-then-is_none-clause-known : goal.returns-then-is_none-clause-known
returns-then-is_none-clause-known c = known_to_all _ _ _ _ c.self.view_is c.self.invariant.3

pub returns-then-is_none-clause-answer : goal.returns-then-is_none-clause-answer
returns-then-is_none-clause-answer c = λ h st0.
    let st = stands_here _ _ _ h _ c.self.view_is st0 in
    let place = member_at _ _ _ _ _ _ c.self.view_is c.self.invariant.3 c.requires.place.member c.index.ensures in
    rw (← c.self.view_is) (no_turn _ _ _ _ _ h place (none_of c.index.result.now.seen.piece c.if-is_none.ensures) st)

pub hand_on-requires-clause-piece : goal.hand_on-requires-clause-piece
hand_on-requires-clause-piece c =
    let place = member_at _ _ _ _ _ _ c.self.view_is c.self.invariant.3 c.requires.place.member c.index.ensures in
    let has = some_of c.index.result.now.seen.piece c.if-is_none.ensures in
    (refl, (piece_is_small _ _ _ _ has.0 _ _ _ place c.in-Some.is has.1).number_few)

pub hand_on-requires-clause-holds : goal.hand_on-requires-clause-holds
hand_on-requires-clause-holds c =
    let place = member_at _ _ _ _ _ _ c.self.view_is c.self.invariant.3 c.requires.place.member c.index.ensures in
    let has = some_of c.index.result.now.seen.piece c.if-is_none.ensures in
    piece_has_its_number _ _ _ _ has.0 _ _ _ place c.in-Some.is has.1

pub hand_on-requires-clause-may : goal.hand_on-requires-clause-may
hand_on-requires-clause-may c =
    let place = member_at _ _ _ _ _ _ c.self.view_is c.self.invariant.3 c.requires.place.member c.index.ensures in
    asked_of_events _ _ _ _ _ _ (λ n seen. CanHandOn n c.args.member seen) c.self.view_is place c.requires.place

pub invariant_of-self : goal.invariant_of-self
invariant_of-self c = (c.hand_on.ensures.seat.0 ∙ c.self.invariant.0, c.hand_on.ensures.seat.1 ∙ c.self.invariant.1, c.self.invariant.2, hand_on_keeps _ _ _ _ _ _ _ c.hand_on.result c.self.invariant.3 c.hand_on.ensures.turn, handed_noted _ _ _ _ _ _ _ c.hand_on.result c.self.invariant.4 c.hand_on.ensures.turn)

pub returns-clause-known : goal.returns-clause-known
returns-clause-known c = known_to_all _ _ _ _ c.self.view_is c.self.invariant.3

pub returns-clause-answer : goal.returns-clause-answer
returns-clause-answer c = λ h st0.
    let st = stands_here _ _ _ h _ c.self.view_is st0 in
    rw (← c.self.view_is) (turn_answer _ _ _ _ _ _ h _ c.self.invariant.3 c.hand_on.ensures.turn st)

pub returns-clause-stands : goal.returns-clause-stands
returns-clause-stands c = λ h st0.
    let st = stands_here _ _ _ h _ c.self.view_is st0 in
    let place = member_at _ _ _ _ _ _ c.self.view_is c.self.invariant.3 c.requires.place.member c.index.ensures in
    rw (← c.self.view_is) (hand_on_stands_for _ _ _ _ _ _ _ _ _ h c.hand_on.result place c.in-Some.is c.hand_on.ensures.turn st)

pub returns-clause-kept : goal.returns-clause-kept
returns-clause-kept c = λ e. unchanged_view _ _ _ _ _ c.self.view_is (c.hand_on.ensures.turn.waits e)
