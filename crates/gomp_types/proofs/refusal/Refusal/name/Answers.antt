use Rattle.std.proofs.Common.{rules}
use Rattle.gomp_types.proofs.refusal.Refusal.name.Goals as goal

pub returns-in-BadMember : goal.returns-in-BadMember
returns-in-BadMember c = search rules
