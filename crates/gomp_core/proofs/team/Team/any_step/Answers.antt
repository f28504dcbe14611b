use Rattle.std.proofs.Common.{ap, ◌∙◌}
use Rattle.gomp_core.specs.Resolved.{resolved_call}
use Rattle.gomp_core.proofs.team.Team.any_step.Goals as goal

pub returns-clause-keeps : goal.returns-clause-keeps
returns-clause-keeps g c =
    let kept = c.perform.ensures.keeps in
    record { members = kept.members; icv = kept.icv; limits = kept.limits; refused = kept.refused; lacks = kept.lacks; broken = kept.broken; waits = λ same resume. kept.waits same (c.resolve_call.ensures ∙ ap (resolved_call c.self.inside.icv) resume) }
