use Rattle.std.proofs.Common.{sym, ◌∙◌, arith}
use Rattle.std.proofs.lemmas.List.{length-set}
use Rattle.gomp_shares.specs.Calls.{CanClaim}
use Rattle.gomp_types.proofs.Laws.{pieces_tile_the_share}
use Rattle.gomp_share_plain.proofs.Places.{place_is, own_place, not_empty, here_plan}
use Rattle.gomp_share_plain.proofs.TakesKeep.{claim_stands, drained_stands, claim_answers}
use Rattle.gomp_share_plain.proofs.Views.{own_seat, known_by}
use Rattle.gomp_share_plain.proofs.plain.PlainSharesShares.claim.Goals as goal

pub unreachable-requires : goal.unreachable-requires
unreachable-requires c =
    let (h, st0) = known_by _ _ c.self.view_is c.self.invariant in
    let (can, st, at) = own_seat _ _ c.args.member c.index_mut-seat.result.now h (λ n seen. CanClaim n c.args.member seen) c.self.view_is c.requires.place c.requires.place.member st0 c.index_mut-seat.ensures.value in
    not_empty _ _ _ h (own_place _ _ _ _ h c.args.member c.index_mut-seat.result.now st at can.inside) (place_is _ _ _ (rw c.ended_shares-number.ensures at c.at.ensures.there) (sym c.copied.ensures ∙ c.in_default.is))

pub next_piece-requires : goal.next_piece-requires
next_piece-requires c =
    let (h, st0) = known_by _ _ c.self.view_is c.self.invariant in
    let (can, st, at) = own_seat _ _ c.args.member c.index_mut-seat.result.now h (λ n seen. CanClaim n c.args.member seen) c.self.view_is c.requires.place c.requires.place.member st0 c.index_mut-seat.ensures.value in
    let there = place_is _ _ _ (rw c.ended_shares-number.ensures at c.at.ensures.there) (sym c.copied.ensures ∙ c.in-Some.is) in
    let plan = here_plan _ _ _ c.in-Some.share h (own_place _ _ _ _ h c.args.member c.index_mut-seat.result.now st at can.inside) there in
    record { member = rw plan can.member }

pub returns-in_default-next_piece-clause-answer : goal.returns-in_default-next_piece-clause-answer
returns-in_default-next_piece-clause-answer c = λ h st0.
    let (can, st, at) = own_seat _ _ c.args.member c.index_mut-seat.result.now h (λ n seen. CanClaim n c.args.member seen) c.self.view_is c.requires.place c.requires.place.member st0 c.index_mut-seat.ensures.value in
    let there = place_is _ _ _ (rw c.ended_shares-number.ensures at c.at.ensures.there) (sym c.copied.ensures ∙ c.in-Some.is) in
    rw (← c.self.view_is) (
    claim_answers _ _ _ _ h c.args.member c.index_mut-seat.result.now c.in-Some.share _ st at can.inside there
    (rw c.in_default-next_piece.is at c.next_piece.ensures.piece) (rw c.in_default-next_piece.is at c.next_piece.ensures.within)
    (λ valid. pieces_tile_the_share _ c.in-Some.share.shape (let lt = can.member in omega arith) valid))

pub returns-in_default-next_piece-clause-stands : goal.returns-in_default-next_piece-clause-stands
returns-in_default-next_piece-clause-stands c = λ h st0.
    let (can, st, at) = own_seat _ _ c.args.member c.index_mut-seat.result.now h (λ n seen. CanClaim n c.args.member seen) c.self.view_is c.requires.place c.requires.place.member st0 c.index_mut-seat.ensures.value in
    let may = rw (← c.self.view_is) at (returns-in_default-next_piece-clause-answer c h st0) in
    rw (length-set c.self.inside.seats.items c.args.member _) (drained_stands _ _ _ _ h c.args.member c.index_mut-seat.result.now st at can may)

pub invariant_of-self : goal.invariant_of-self
invariant_of-self c = let (h, st0) = known_by _ _ c.self.view_is c.self.invariant in (_, returns-in_default-next_piece-clause-stands c h st0)

pub returns-clause-answer : goal.returns-clause-answer
returns-clause-answer c = λ h st0.
    let (can, st, at) = own_seat _ _ c.args.member c.index_mut-seat.result.now h (λ n seen. CanClaim n c.args.member seen) c.self.view_is c.requires.place c.requires.place.member st0 c.index_mut-seat.ensures.value in
    let there = place_is _ _ _ (rw c.ended_shares-number.ensures at c.at.ensures.there) (sym c.copied.ensures ∙ c.in-Some.is) in
    rw (← c.self.view_is) (
    claim_answers _ _ _ _ h c.args.member c.index_mut-seat.result.now c.in-Some.share _ st at can.inside there
    (rw c.in-Some-next_piece.is at c.next_piece.ensures.piece) (rw c.in-Some-next_piece.is at c.next_piece.ensures.within)
    (λ valid. pieces_tile_the_share _ c.in-Some.share.shape (let lt = can.member in omega arith) valid))

pub returns-clause-stands : goal.returns-clause-stands
returns-clause-stands c = λ h st0.
    let (can, st, at) = own_seat _ _ c.args.member c.index_mut-seat.result.now h (λ n seen. CanClaim n c.args.member seen) c.self.view_is c.requires.place c.requires.place.member st0 c.index_mut-seat.ensures.value in
    let there = place_is _ _ _ (rw c.ended_shares-number.ensures at c.at.ensures.there) (sym c.copied.ensures ∙ c.in-Some.is) in
    let may = rw (← c.self.view_is) at (returns-clause-answer c h st0) in
    let kept = claim_stands _ _ _ _ h c.args.member c.index_mut-seat.result.now c.in-Some.share _ _ c.next_piece.new.self c.next_piece.ensures.plan (rw c.in-Some-next_piece.is at c.next_piece.ensures.number) st at can.inside there can may in
    rw (c.put.ensures, length-set c.self.inside.seats.items c.args.member _, c.saturating_add-seat.ensures, c.saturating_add.ensures, c.ended_shares-number.ensures) kept

pub invariant_of-self-2 : goal.invariant_of-self-2
invariant_of-self-2 c = let (h, st0) = known_by _ _ c.self.view_is c.self.invariant in (_, returns-clause-stands c h st0)
