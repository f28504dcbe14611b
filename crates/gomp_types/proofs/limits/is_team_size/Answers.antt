use Rattle.std.proofs.Common.{rules}
use Rattle.gomp_types.proofs.limits.is_team_size.Goals as goal

pub returns-then-members-ge1 : goal.returns-then-members-ge1
returns-then-members-ge1 c = search rules
