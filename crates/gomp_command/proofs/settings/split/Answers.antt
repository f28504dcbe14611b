use Rattle.std.proofs.Common.{rules}
use Rattle.gomp_command.proofs.settings.split.Goals as goal

pub returns : goal.returns
returns c = search rules
