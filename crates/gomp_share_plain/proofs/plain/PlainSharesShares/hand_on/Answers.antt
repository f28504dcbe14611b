use Rattle.std.proofs.Common.{ap, arith, ◌∙◌, sym}
use Rattle.std.specs.Prelude.{option_copied, is_some}
use Rattle.gomp_types.proofs.Booleans.{some_of, and_left, and_right, is_equal}
use Rattle.gomp_shares.specs.Calls.{CanHandOn}
use Rattle.gomp_shares.proofs.AnswerRules.{hands_inside}
use Rattle.gomp_types.proofs.Laws.{pieces_tile_the_share}
use Rattle.gomp_share_plain.proofs.Places.{place_is, own_place, not_empty}
use Rattle.gomp_share_plain.proofs.Views.{own_seat, known_by}
use Rattle.gomp_share_plain.proofs.PartsKeep.{next_tells, number_below, hand_on_stands}
use Rattle.gomp_share_plain.proofs.plain.PlainSharesShares.hand_on.Goals as goal

pub unreachable-requires : goal.unreachable-requires
unreachable-requires c =
    let (h, st0) = known_by _ _ c.self.view_is c.self.invariant in
    let (can, st, at) = own_seat _ _ c.args.member c.index-seat.result.now h (λ n seen. CanHandOn n c.args.member seen) c.self.view_is c.requires.place c.requires.place.member st0 c.index-seat.ensures in
    not_empty _ _ _ h (own_place _ _ _ _ h c.args.member c.index-seat.result.now st at (hands_inside _ c.args.member h can)) (place_is _ _ _ (rw c.ended_shares-number.ensures at c.at.ensures.there) (ap option_copied c.in_default.is))

pub returns-then-not-is_next-clause-answer : goal.returns-then-not-is_next-clause-answer
returns-then-not-is_next-clause-answer c = λ h st0.
    let (can, st, at) = own_seat _ _ c.args.member c.index-seat.result.now h (λ n seen. CanHandOn n c.args.member seen) c.self.view_is c.requires.place c.requires.place.member st0 c.index-seat.ensures in
    let there = place_is _ _ _ (rw c.ended_shares-number.ensures at c.at.ensures.there) (ap option_copied c.in-Some.is) in
    let tells = next_tells _ _ _ _ h c.args.member c.index-seat.result.now c.in-Some.share.now st at (hands_inside _ c.args.member h can) there can.member pieces_tile_the_share in
    rw (← c.self.view_is) (sym (tells ∙ sym c.is_next.ensures ∙ c.if-not-is_next.true))

pub returns-clause-answer : goal.returns-clause-answer
returns-clause-answer c = λ h st0.
    let (can, st, at) = own_seat _ _ c.args.member c.index-seat.result.now h (λ n seen. CanHandOn n c.args.member seen) c.self.view_is c.requires.place c.requires.place.member st0 c.index-seat.ensures in
    let there = place_is _ _ _ (rw c.ended_shares-number.ensures at c.at.ensures.there) (ap option_copied c.in-Some.is) in
    let tells = next_tells _ _ _ _ h c.args.member c.index-seat.result.now c.in-Some.share.now st at (hands_inside _ c.args.member h can) there can.member pieces_tile_the_share in
    rw (← c.self.view_is) (sym (tells ∙ sym c.is_next.ensures ∙ c.if-not-is_next.false))

pub returns-clause-stands : goal.returns-clause-stands
returns-clause-stands c = λ h st0.
    let (can, st, at) = own_seat _ _ c.args.member c.index-seat.result.now h (λ n seen. CanHandOn n c.args.member seen) c.self.view_is c.requires.place c.requires.place.member st0 c.index-seat.ensures in
    let there = place_is _ _ _ (rw c.ended_shares-number.ensures at c.at.ensures.there) (ap option_copied c.in-Some.is) in
    let tells = next_tells _ _ _ _ h c.args.member c.index-seat.result.now c.in-Some.share.now st at (hands_inside _ c.args.member h can) there can.member pieces_tile_the_share in
    let next = tells ∙ sym c.is_next.ensures ∙ c.if-not-is_next.false in
    let is = is_equal c.index-seat.result.now.number c.in-Some.share.now.turn (and_right (is_some c.index-seat.result.now.seen.piece) _ (sym c.is_next.ensures ∙ c.if-not-is_next.false)) in
    rw (← c.self.view_is, c.put.ensures, c.ended_shares-number.ensures) (hand_on_stands _ _ _ _ h c.args.member c.index-seat.result.now c.in-Some.share.now st at there can next is)

pub invariant_of-self : goal.invariant_of-self
invariant_of-self c = let (h, st0) = known_by _ _ c.self.view_is c.self.invariant in (_, returns-clause-stands c h st0)

pub overflow_add-passed_on : goal.overflow_add-passed_on
overflow_add-passed_on c =
    let (h, st0) = known_by _ _ c.self.view_is c.self.invariant in
    let (can, st, at) = own_seat _ _ c.args.member c.index-seat.result.now h (λ n seen. CanHandOn n c.args.member seen) c.self.view_is c.requires.place c.requires.place.member st0 c.index-seat.ensures in
    let there = place_is _ _ _ (rw c.ended_shares-number.ensures at c.at.ensures.there) (ap option_copied c.in-Some.is) in
    let piece = some_of c.index-seat.result.now.seen.piece (and_left (is_some c.index-seat.result.now.seen.piece) _ (sym c.is_next.ensures ∙ c.if-not-is_next.false)) in
    let few = number_below _ _ _ _ h c.args.member c.index-seat.result.now c.in-Some.share.now piece.0 st at (hands_inside _ c.args.member h can) there can.member pieces_tile_the_share piece.1 in
    let least = few.0 in
    omega arith
