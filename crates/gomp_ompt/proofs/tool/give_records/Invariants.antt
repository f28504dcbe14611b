use Rattle.std.proofs.Common.{take}
use Rattle.gomp_ompt.specs.Tools.{AfterEach}
use Rattle.gomp_ompt.proofs.tool.give_records.Given as goal

-- it has got the records so far
abbrev pub invariant-loop-event : goal.invariant-loop-event
invariant-loop-event g l = AfterEach g.T.Tool.on_gives l.initial.tool (take l.event-index l.event-items) l.tool
