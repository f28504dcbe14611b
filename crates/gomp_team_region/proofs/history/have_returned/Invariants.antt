use Rattle.std.proofs.Common.{◌≡◌, ◌+◌, ◌↔◌, length}
use Rattle.gomp_team_region.specs.Settled.{HaveReturned}
use Rattle.gomp_team_region.proofs.history.have_returned.Given as goal

abbrev pub invariant-loop-rest : goal.invariant-loop-rest
invariant-loop-rest l = (HaveReturned 0 l.counts l.history ↔ HaveReturned l.member l.rest l.history) × (l.member + length l.rest ≡ length l.counts)

abbrev pub decreases-loop-rest : goal.decreases-loop-rest
decreases-loop-rest l = length l.rest
