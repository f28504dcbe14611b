use Rattle.std.proofs.Common.{◌<◌, sym, ap}
use Rattle.std.specs.Prelude.{option_copied}
use Rattle.gomp_share_plain.proofs.Places.{place_is, next_place, next_differs, new_differs, not_empty}
use Rattle.gomp_share_plain.proofs.Views.{own_seat, known_by}
use Rattle.gomp_share_plain.proofs.plain.PlainSharesShares.next_differs.Goals as goal

pub returns-then-next-self-clause-answer : goal.returns-then-next-self-clause-answer
returns-then-next-self-clause-answer c = λ h st0.
    let (lt, st, at) = own_seat _ _ c.args.member c.index.result.now h (λ n seen. c.args.member < n) c.self.view_is c.requires.member c.requires.member st0 c.index.ensures in
    sym (new_differs _ _ _ _ h c.args.member c.index.result.now c.args.shape.now st at c.if-next-self.true)

pub returns-clause-answer : goal.returns-clause-answer
returns-clause-answer c = λ h st0.
    let (lt, st, at) = own_seat _ _ c.args.member c.index.result.now h (λ n seen. c.args.member < n) c.self.view_is c.requires.member c.requires.member st0 c.index.ensures in
    rw c.is_same.ensures (next_differs _ _ _ _ h c.args.member c.index.result.now c.in-Some.share.now c.args.shape.now st at c.if-next-self.false (place_is _ _ _ c.at.ensures.there (ap option_copied c.in-Some.is)))

pub unreachable-requires : goal.unreachable-requires
unreachable-requires c =
    let (h, st0) = known_by _ _ c.self.view_is c.self.invariant in
    let (lt, st, at) = own_seat _ _ c.args.member c.index.result.now h (λ n seen. c.args.member < n) c.self.view_is c.requires.member c.requires.member st0 c.index.ensures in
    not_empty _ _ _ h (next_place _ _ _ _ h c.args.member c.index.result.now st at c.if-next-self.false) (place_is _ _ _ c.at.ensures.there (ap option_copied c.in_default.is))
