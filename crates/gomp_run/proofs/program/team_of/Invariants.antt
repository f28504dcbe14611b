use Rattle.std.proofs.Common.{◌≡◌, ◌++◌}
use Rattle.gomp_run.proofs.program.team_of.Given as goal

-- those so far and those that are left are all
abbrev pub invariant-loop-program : goal.invariant-loop-program
invariant-loop-program l = l.team.items ++ l.program-iterator.rest.items ≡ l.fn.programs.items
