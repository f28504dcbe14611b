use Rattle.std.proofs.Common.{◌∙◌}
use Rattle.gomp_depend.proofs.Keeping.{child_by_tables}
use Rattle.gomp_depend.proofs.depends.Depends.are_named_done.Goals as goal

pub returns : goal.returns
returns c = λ h st. c.all_ready.ensures ∙ child_by_tables c.args.self.now h c.args.parent c.args.items.now st
