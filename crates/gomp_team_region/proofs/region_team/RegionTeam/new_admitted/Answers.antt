use Rattle.std.proofs.Common.{◌≡◌, ◌∙◌, ap, subst, reverse, IfOk, IfErr}
use Rattle.std.proofs.lemmas.List.{reverse-reverse}
use Rattle.gomp_team_region.specs.Regions.{tools_of}
use Rattle.gomp_team_region.proofs.region_team.RegionTeam.new_admitted.Goals as goal

pub returns-in-Ok-new_team-clause-tools : goal.returns-in-Ok-new_team-clause-tools
returns-in-Ok-new_team-clause-tools g c =
    subst (λ tools. IfOk c.open.result (λ made. tools_of made.1.items ≡ tools)) (ap reverse c.in-Ok-new.ensures.tools ∙ reverse-reverse c.args.tools.items) c.open.ensures.tools

pub returns-in-Ok-new_team-clause-back : goal.returns-in-Ok-new_team-clause-back
returns-in-Ok-new_team-clause-back g c =
    subst (λ tools. IfErr c.open.result (λ back. back.1.items ≡ tools)) (ap reverse c.in-Ok-new.ensures.tools ∙ reverse-reverse c.args.tools.items) c.open.ensures.back
