use Rattle.std.proofs.Common.{rules, ◌∙◌, ap, sym}
use Rattle.gomp_service.specs.Reading.{unread_as}
use Rattle.gomp_service.proofs.read.read_fault.Goals as goal

pub returns-in-OutOfMemory : goal.returns-in-OutOfMemory
returns-in-OutOfMemory c = ap unread_as (sym c.in-OutOfMemory.is ∙ c.kind.ensures)

pub returns-in_default : goal.returns-in_default
returns-in_default c = search rules
