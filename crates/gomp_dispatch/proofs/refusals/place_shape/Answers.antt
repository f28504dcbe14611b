use Rattle.std.proofs.Common.{◌∙◌}
use Rattle.gomp_events.specs.Events.{open_share}
use Rattle.gomp_ordered.proofs.PartReplies.{current_has_shape}
use Rattle.gomp_dispatch.proofs.refusals.place_shape.Goals as goal

pub share_shape-requires-clause-shape : goal.share_shape-requires-clause-shape
share_shape-requires-clause-shape g c =
    let (h, st) = c.look-seen.ensures.known in
    let e = c.look-seen.ensures.value ∙ g.met.S.Shares.agrees c.args.shares.now h c.args.member st c.requires.member in
    rw e (current_has_shape (open_share c.args.member h) (λ i shape there. g.met.S.Shares.valid c.args.shares.now h c.args.member i shape st there))

pub returns-in-Shares : goal.returns-in-Shares
returns-in-Shares g c = rw (← c.look-seen.ensures.value) c.share_shape.ensures

pub returns-in-Team : goal.returns-in-Team
returns-in-Team g c = rw (← c.look-seen.ensures.value) c.together_shape.ensures
