-- A seat whose member may act: it stays so, and each of a team's seats is one.
use Rattle.std.proofs.Common.{◌≡◌, ℕ, List, slice_get, Some, arith}
use Rattle.std.proofs.lemmas.Option.{slice_get_within}
use Rattle.gomp_ring.specs.declared.ring.Ring.{Ring}
use Rattle.gomp_ring.specs.RingSeats.{SeatView, AreAllSeats}
use Rattle.gomp_seats.specs.NewSeats.{IsSameMember}
use Rattle.gomp_seats.proofs.Kept.{still_on}
use Rattle.gomp_ring_tests.specs.Members.{MayAct}

pub still_may : (ring : Ring) (before now : SeatView) → MayAct ring before → IsSameMember before now → MayAct ring now
still_may ring before now may same = record {
  on = still_on ring before now may.on same;
  within = let member = same.member in let members = same.members in let within = may.within in omega arith;
}

-- the seat at a place may act
pub seat_may : (ring : Ring) (seats : List SeatView) (m : ℕ) (seat : SeatView) → AreAllSeats ring seats → slice_get seats m ≡ Some seat → MayAct ring seat
seat_may ring seats m seat all at = record {
  on = all.on m seat at;
  within =
      let place = all.place m seat at in
      let inside = slice_get_within seats m seat at in
      let count = all.count in
      let members = (all.on m seat at).members in
      omega arith;
}
