use Rattle.std.proofs.Common.{◌≡◌, replicate}
use Rattle.gomp_ompt.specs.Counts.{no_counts}
use Rattle.gomp_ompt.proofs.counts.CountsTool.fork.Given as goal

-- so far each has counted nothing
abbrev pub invariant-loop-member : goal.invariant-loop-member
invariant-loop-member l = l.tools.items ≡ replicate l._member no_counts
