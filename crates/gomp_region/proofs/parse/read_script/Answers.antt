use Rattle.std.proofs.Common.{◌∙◌, ap}
use Rattle.gomp_region.specs.ScriptText.{ends_from}
use Rattle.gomp_region.proofs.EndLaws.{have_ends}
use Rattle.gomp_region.proofs.parse.read_script.Goals as goal

pub returns-in-Ok-clause-ends : goal.returns-in-Ok-clause-ends
returns-in-Ok-clause-ends c = have_ends c.in_ok-lines.lines.items c.in-Ok.ends.items c.in_ok-lines.ensures.nest (c.in-Ok.ensures.ends ∙ ap (ends_from 0) c.deref.ensures.value)
