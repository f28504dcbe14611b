use Rattle.std.proofs.Common.{rules}
use Rattle.gomp_types.proofs.refusal.Refusal.number.Goals as goal

pub returns-in-NotDrained : goal.returns-in-NotDrained
returns-in-NotDrained c = search rules

pub returns-in-Drained : goal.returns-in-Drained
returns-in-Drained c = search rules

pub returns-in-BadEnv : goal.returns-in-BadEnv
returns-in-BadEnv c = search rules
