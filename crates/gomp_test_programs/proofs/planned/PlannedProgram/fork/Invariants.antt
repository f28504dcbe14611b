use Rattle.std.proofs.Common.{◌≡◌, length}
use Rattle.gomp_test_programs.proofs.planned.PlannedProgram.fork.Given as goal

-- one for each member so far
abbrev pub invariant-loop-member : goal.invariant-loop-member
invariant-loop-member l = length l.progs.items ≡ l.member
