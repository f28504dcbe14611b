use Rattle.std.proofs.Common.{◌≡◌, length, reverse}
use Rattle.gomp_events.specs.Events.{has_left_region}
use Rattle.gomp_team_region.proofs.Scans.{leaves_in}
use Rattle.gomp_team_region.proofs.history.has_left.Given as goal

abbrev pub invariant-loop-rest : goal.invariant-loop-rest
invariant-loop-rest l = leaves_in l.member l.came l.rest ≡ has_left_region l.member (reverse l.history)

abbrev pub decreases-loop-rest : goal.decreases-loop-rest
decreases-loop-rest l = length l.rest
