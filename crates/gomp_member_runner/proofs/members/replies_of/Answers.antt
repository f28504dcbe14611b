use Rattle.std.proofs.Common.{ap, subst, sym}
use Rattle.std.specs.Prelude.{All}
use Rattle.gomp_ring.specs.RingSeats.{IsOnRing}
use Rattle.gomp_team.specs.Members.{SharedView}
use Rattle.gomp_member_runner.proofs.SeatsOnRing.{seats_on_ring}
use Rattle.gomp_member_runner.proofs.members.replies_of.Goals as goal

-- each seat is on the ring of the team that they came with
pub members_of-requires-clause-seats : goal.members_of-requires-clause-seats
members_of-requires-clause-seats g c =
    subst (λ ring. All (IsOnRing ring) c.in-Ok.made.seats.items) (sym (ap (λ (team : SharedView). team.ring) c.in_ok-team.ensures.ok)) (seats_on_ring _ _ _ c.in-Ok.ensures.seats)
