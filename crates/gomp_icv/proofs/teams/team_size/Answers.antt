use Rattle.std.proofs.Common.{rules}
use Rattle.gomp_icv.proofs.teams.team_size.Goals as goal

pub returns-clause-size : goal.returns-clause-size
returns-clause-size c = search rules

pub returns-clause-within : goal.returns-clause-within
returns-clause-within c = search rules

pub returns-clause-limit : goal.returns-clause-limit
returns-clause-limit c = search rules

pub returns-then-not-if_clause-clause-size : goal.returns-then-not-if_clause-clause-size
returns-then-not-if_clause-clause-size c = search rules
