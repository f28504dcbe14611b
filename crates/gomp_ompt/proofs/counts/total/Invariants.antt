use Rattle.std.proofs.Common.{◌≡◌, ◌+◌, take, get_or}
use Rattle.std.specs.Prelude.{sum_by}
use Rattle.gomp_ompt.specs.Counts.{capped}
use Rattle.gomp_ompt.proofs.counts.total.Given as goal

-- the counts of those so far are added
abbrev pub invariant-loop-other : goal.invariant-loop-other
invariant-loop-other l = l.sum ≡ capped (l.count + sum_by (λ other. get_or other l.index 0) (take l.other-index l.others))
