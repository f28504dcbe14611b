use Rattle.std.proofs.Common.{◌≡◌, length}
use Rattle.gomp_course.proofs.no_tool.NoToolTool.fork.Given as goal

-- one for each member so far
abbrev pub invariant-loop-member : goal.invariant-loop-member
invariant-loop-member l = length l.tools.items ≡ l._member
