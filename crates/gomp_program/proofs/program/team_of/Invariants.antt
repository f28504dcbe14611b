use Rattle.std.proofs.Common.{◌≡◌}
use Rattle.std.specs.Arc.{arc_value}
use Rattle.gomp_program.specs.Programs.{programs_from}
use Rattle.gomp_program.proofs.program.team_of.Given as goal

-- the members below this one
abbrev pub invariant-loop-member : goal.invariant-loop-member
invariant-loop-member l = l.team.items ≡ programs_from (arc_value l.script) l.line 0 l.member
