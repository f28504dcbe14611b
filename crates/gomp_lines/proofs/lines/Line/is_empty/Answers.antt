use Rattle.gomp_lines.proofs.QueueTasks.{same_line_stands, empty_line}
use Rattle.gomp_lines.proofs.lines.Line.is_empty.Goals as goal

pub returns : goal.returns
returns c = λ n line st. empty_line _ n line (same_line_stands _ _ n line c.self.view_is st)
