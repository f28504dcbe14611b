use Rattle.std.proofs.Common.{◌≡◌, ◌<◌, arith, refl, ap, ◌∙◌, sym, Some}
use Rattle.std.specs.Prelude.{option_copied, is_some}
use Rattle.std.proofs.lemmas.List.{length-set}
use Rattle.std.proofs.lemmas.Option.{slice_get_read}
use Rattle.gomp_events.specs.declared.seen.Seen.{Seen}
use Rattle.gomp_types.proofs.Booleans.{some_of, and_left}
use Rattle.gomp_shares.specs.Calls.{CanBeginPart}
use Rattle.gomp_shares.proofs.AnswerRules.{begins_inside, rest_tells}
use Rattle.gomp_types.proofs.Laws.{pieces_tile_the_share}
use Rattle.gomp_share_plain.proofs.Places.{place_is, own_place, not_empty}
use Rattle.gomp_share_plain.proofs.Views.{own_seat, known_by}
use Rattle.gomp_share_plain.proofs.PartsKeep.{next_tells, number_below, part_start_stands}
use Rattle.gomp_share_plain.proofs.plain.PlainSharesShares.try_turn.Goals as goal

pub unreachable-requires : goal.unreachable-requires
unreachable-requires c =
    let (h, st0) = known_by _ _ c.self.view_is c.self.invariant in
    let (can, st, at) = own_seat _ _ c.args.member c.index-seat.result.now h (λ n seen. CanBeginPart n c.args.member c.args.iteration seen) c.self.view_is c.requires.place c.requires.place.member st0 c.index-seat.ensures in
    not_empty _ _ _ h (own_place _ _ _ _ h c.args.member c.index-seat.result.now st at (begins_inside _ c.args.member c.args.iteration h can)) (place_is _ _ _ (rw c.ended_shares.ensures at c.at.ensures.there) (ap option_copied c.in_default.is))

pub returns-then-not-is_next-clause-answer : goal.returns-then-not-is_next-clause-answer
returns-then-not-is_next-clause-answer c = λ h st0.
    let (can, st, at) = own_seat _ _ c.args.member c.index-seat.result.now h (λ n seen. CanBeginPart n c.args.member c.args.iteration seen) c.self.view_is c.requires.place c.requires.place.member st0 c.index-seat.ensures in
    let there = place_is _ _ _ (rw c.ended_shares.ensures at c.at.ensures.there) (ap option_copied c.in-Some.is) in
    let tells = next_tells _ _ _ _ h c.args.member c.index-seat.result.now c.in-Some.share.now st at (begins_inside _ c.args.member c.args.iteration h can) there can.member pieces_tile_the_share in
    rw (← c.self.view_is) (sym (tells ∙ sym c.is_next.ensures ∙ c.if-not-is_next.true))

pub returns-clause-answer : goal.returns-clause-answer
returns-clause-answer c = λ h st0.
    let (can, st, at) = own_seat _ _ c.args.member c.index-seat.result.now h (λ n seen. CanBeginPart n c.args.member c.args.iteration seen) c.self.view_is c.requires.place c.requires.place.member st0 c.index-seat.ensures in
    let there = place_is _ _ _ (rw c.ended_shares.ensures at c.at.ensures.there) (ap option_copied c.in-Some.is) in
    let tells = next_tells _ _ _ _ h c.args.member c.index-seat.result.now c.in-Some.share.now st at (begins_inside _ c.args.member c.args.iteration h can) there can.member pieces_tile_the_share in
    rw (← c.self.view_is) (sym (tells ∙ sym c.is_next.ensures ∙ c.if-not-is_next.false))

pub returns-clause-stands : goal.returns-clause-stands
returns-clause-stands c = λ h st0.
    let (can, st, at) = own_seat _ _ c.args.member c.index-seat.result.now h (λ n seen. CanBeginPart n c.args.member c.args.iteration seen) c.self.view_is c.requires.place c.requires.place.member st0 c.index-seat.ensures in
    let there = place_is _ _ _ (rw c.ended_shares.ensures at c.at.ensures.there) (ap option_copied c.in-Some.is) in
    let tells = next_tells _ _ _ _ h c.args.member c.index-seat.result.now c.in-Some.share.now st at (begins_inside _ c.args.member c.args.iteration h can) there can.member pieces_tile_the_share in
    let next = tells ∙ sym c.is_next.ensures ∙ c.if-not-is_next.false in
    let own = slice_get_read c.self.inside.seats.items _ c.args.member c.index_mut-seat.result.now refl can.member c.index_mut-seat.ensures.value in
    rw (length-set c.self.inside.seats.items c.args.member _) (part_start_stands _ _ _ _ h c.args.member c.index_mut-seat.result.now c.args.iteration st own can next)

pub invariant_of-self : goal.invariant_of-self
invariant_of-self c = let (h, st0) = known_by _ _ c.self.view_is c.self.invariant in (_, returns-clause-stands c h st0)

pub overflow_add-seat : goal.overflow_add-seat
overflow_add-seat c =
    let (h, st0) = known_by _ _ c.self.view_is c.self.invariant in
    let (can, st, at) = own_seat _ _ c.args.member c.index-seat.result.now h (λ n seen. CanBeginPart n c.args.member c.args.iteration seen) c.self.view_is c.requires.place c.requires.place.member st0 c.index-seat.ensures in
    let there = place_is _ _ _ (rw c.ended_shares.ensures at c.at.ensures.there) (ap option_copied c.in-Some.is) in
    let piece = some_of c.index-seat.result.now.seen.piece (and_left (is_some c.index-seat.result.now.seen.piece) _ (sym c.is_next.ensures ∙ c.if-not-is_next.false)) in
    let few = number_below _ _ _ _ h c.args.member c.index-seat.result.now c.in-Some.share.now piece.0 st at (begins_inside _ c.args.member c.args.iteration h can) there can.member pieces_tile_the_share piece.1 in
    let s = st.seat c.args.member _ at in
    let rest = rest_tells _ _ c.args.iteration can.rest in
    let before = rest.before in
    let same : Some rest.piece ≡ Some piece.0 = sym rest.is ∙ sym (ap (λ (seen : Seen). seen.piece) s.seen) ∙ piece.1 in
    let one : rest.piece ≡ piece.0 = let e = same in cc in
    let below : c.args.iteration < piece.0.1 = rw one at before in
    let most = few.1 in
    omega arith
