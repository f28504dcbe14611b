use Rattle.std.proofs.Common.{◌∙◌}
use Rattle.gomp_depend.proofs.Keeping.{free_by_row}
use Rattle.gomp_depend.proofs.depends.Depends.is_free.Goals as goal

pub returns : goal.returns
returns c = λ h st is. c.is_free.ensures ∙ free_by_row c.args.self.now h c.args.task st is
