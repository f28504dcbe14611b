use Rattle.std.proofs.Common.{◌≡◌, take}
use Rattle.gomp_run.specs.Output.{taken_sum}
use Rattle.gomp_run.proofs.answer.taken_sum.Given as goal

-- the iterations so far
abbrev pub invariant-loop-iterations : goal.invariant-loop-iterations
invariant-loop-iterations l = l.sum ≡ taken_sum (take l.iterations-index l.taken)
