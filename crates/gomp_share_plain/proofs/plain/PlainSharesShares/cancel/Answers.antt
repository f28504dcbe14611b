use Rattle.std.proofs.Common.{ap}
use Rattle.std.specs.Prelude.{option_copied}
use Rattle.gomp_events.specs.Events.{open_share}
use Rattle.gomp_shares.specs.Calls.{CanCancel}
use Rattle.gomp_share_plain.proofs.CancelsKeep.{cancelling_stands, cancels_inside}
use Rattle.gomp_share_plain.proofs.Places.{place_is, own_place, not_empty}
use Rattle.gomp_share_plain.proofs.Views.{own_seat, known_by}
use Rattle.gomp_share_plain.proofs.plain.PlainSharesShares.cancel.Goals as goal

pub unreachable-requires : goal.unreachable-requires
unreachable-requires c =
    let (h, st0) = known_by _ _ c.self.view_is c.self.invariant in
    let (can, st, at) = own_seat _ _ c.args.member c.index.result.now h (λ n seen. CanCancel n c.args.member seen) c.self.view_is c.requires.place c.requires.place.member st0 c.index.ensures in
    not_empty _ _ _ h (own_place _ _ _ _ h c.args.member c.index.result.now st at (cancels_inside (open_share c.args.member h) can.cancellable)) (place_is _ _ _ (rw c.ended_shares-number.ensures at c.at.ensures.there) (ap option_copied c.in_default.is))

pub returns-clause-stands : goal.returns-clause-stands
returns-clause-stands c = λ h st0.
    let (can, st, at) = own_seat _ _ c.args.member c.index.result.now h (λ n seen. CanCancel n c.args.member seen) c.self.view_is c.requires.place c.requires.place.member st0 c.index.ensures in
    let there = place_is _ _ _ (rw c.ended_shares-number.ensures at c.at.ensures.there) (ap option_copied c.in-Some.is) in
    rw (c.put.ensures, c.ended_shares-number.ensures) (cancelling_stands _ _ _ _ h c.args.member c.index.result.now c.in-Some.share.now st at there can)

pub invariant_of-self : goal.invariant_of-self
invariant_of-self c = let (h, st0) = known_by _ _ c.self.view_is c.self.invariant in (_, returns-clause-stands c h st0)
