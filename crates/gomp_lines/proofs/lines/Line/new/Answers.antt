use Rattle.gomp_lines.proofs.QueueCalls.{stands_empty}
use Rattle.gomp_lines.proofs.lines.Line.new.Goals as goal

pub returns : goal.returns
returns c = λ n. stands_empty _ c.new.result.items _ n c.new.ensures.items
