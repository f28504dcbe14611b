use Rattle.std.proofs.lemmas.List.{length-set}
use Rattle.gomp_shares.specs.Calls.{CanSee}
use Rattle.gomp_share_plain.proofs.CancelsKeep.{see_stands}
use Rattle.gomp_share_plain.proofs.Views.{own_seat, known_by}
use Rattle.gomp_share_plain.proofs.plain.PlainSharesShares.see.Goals as goal

pub returns-clause-stands : goal.returns-clause-stands
returns-clause-stands c = λ h st0.
    let (can, st, at) = own_seat _ _ c.args.member c.index_mut.result.now h (λ n seen. CanSee n c.args.member seen) c.self.view_is c.requires.place c.requires.place.member st0 c.index_mut.ensures.value in
    rw (length-set c.self.inside.seats.items c.args.member _) (see_stands _ _ _ _ h c.args.member c.index_mut.result.now st at can (c.requires.cancelled h st0))

pub invariant_of-self : goal.invariant_of-self
invariant_of-self c = let (h, st0) = known_by _ _ c.self.view_is c.self.invariant in (_, returns-clause-stands c h st0)
