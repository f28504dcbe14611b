use Rattle.gomp_core.proofs.team.Team.new_checked.Goals as goal

-- a team that was made has a size that it may have
pub returns-in-Ok-clause-size : goal.returns-in-Ok-clause-size
returns-in-Ok-clause-size g c = (λ same size. absurd (cc), λ none. absurd (none (c.is_team_size.ensures.0 c.if-not-is_team_size.false)))
