use Rattle.std.proofs.Common.{◌<◌, ap}
use Rattle.std.specs.Prelude.{option_copied}
use Rattle.gomp_types.proofs.Booleans.{none_of}
use Rattle.gomp_share_plain.proofs.CancelsKeep.{own_place_tells, outside_none_cancelled, inside_by_seat}
use Rattle.gomp_share_plain.proofs.Places.{place_is, own_place, not_empty}
use Rattle.gomp_share_plain.proofs.Views.{own_seat, known_by}
use Rattle.gomp_share_plain.proofs.plain.PlainSharesShares.cancelled.Goals as goal

pub unreachable-requires : goal.unreachable-requires
unreachable-requires c =
    let (h, st0) = known_by _ _ c.self.view_is c.self.invariant in
    let (lt, st, at) = own_seat _ _ c.args.member c.index-seat.result.now h (λ n seen. c.args.member < n) c.self.view_is c.requires.member c.requires.member st0 c.index-seat.ensures in
    not_empty _ _ _ h (own_place _ _ _ _ h c.args.member c.index-seat.result.now st at (inside_by_seat _ _ _ _ h c.args.member c.index-seat.result.now st at c.if-is_none.ensures)) (place_is _ _ _ (rw c.ended_shares.ensures at c.at.ensures.there) (ap option_copied c.in_default.is))

pub returns-then-is_none-clause-answer : goal.returns-then-is_none-clause-answer
returns-then-is_none-clause-answer c = λ h st0.
    let (lt, st, at) = own_seat _ _ c.args.member c.index-seat.result.now h (λ n seen. c.args.member < n) c.self.view_is c.requires.member c.requires.member st0 c.index-seat.ensures in
    outside_none_cancelled _ _ _ _ h c.args.member c.index-seat.result.now st at (none_of c.index-seat.result.now.seen.current c.if-is_none.ensures)

pub returns-clause-answer : goal.returns-clause-answer
returns-clause-answer c = λ h st0.
    let (lt, st, at) = own_seat _ _ c.args.member c.index-seat.result.now h (λ n seen. c.args.member < n) c.self.view_is c.requires.member c.requires.member st0 c.index-seat.ensures in
    own_place_tells _ _ _ _ h c.args.member c.index-seat.result.now c.in-Some.share.now st at (inside_by_seat _ _ _ _ h c.args.member c.index-seat.result.now st at c.if-is_none.ensures) (place_is _ _ _ (rw c.ended_shares.ensures at c.at.ensures.there) (ap option_copied c.in-Some.is))
