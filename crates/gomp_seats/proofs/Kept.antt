-- The seats of a team, each at its number: they stay so when one acts, and when all act.
use Rattle.std.proofs.Common.{◌≡◌, ℕ, ◌<◌, List, length, slice_get, slice_set, slice_index_or, Some, inl, inr, sym, ◌∙◌, subst, arith}
use Rattle.std.proofs.lemmas.List.{length-set}
use Rattle.std.proofs.lemmas.Option.{slice_get_within, slice_get_cases, get_or_from_slice_get}
use Rattle.gomp_types.proofs.Lists.{slice_get-set}
use Rattle.gomp_ring.specs.declared.ring.Ring.{Ring}
use Rattle.gomp_ring.specs.Rings.{ring_members}
use Rattle.gomp_ring.specs.RingSeats.{SeatView, IsOnRing, AreAllSeats}
use Rattle.gomp_seats.specs.NewSeats.{IsSameMember}

-- One seat

pub still_on : (ring : Ring) (before now : SeatView) → IsOnRing ring before → IsSameMember before now → IsOnRing ring now
still_on ring before now on same = record { table = same.table ∙ on.table; members = on.members ∙ sym same.members }

-- the seat of member m of this ring, from which none is still to be split
record IsSeatAt (ring : Ring) (m : ℕ) (seat : SeatView) : Type 0 where
  on : IsOnRing ring seat
  place : seat.member ≡ m
  seated : seat.seated ≡ seat.members

still_at : (ring : Ring) (m : ℕ) (before now : SeatView) → IsSeatAt ring m before → IsSameMember before now → IsSeatAt ring m now
still_at ring m before now at same = record {
  on = still_on ring before now at.on same;
  place = same.member ∙ at.place;
  seated = same.seated ∙ at.seated ∙ sym same.members;
}

-- All seats

seat_at : (ring : Ring) (seats : List SeatView) (m : ℕ) (seat : SeatView) → AreAllSeats ring seats → slice_get seats m ≡ Some seat → IsSeatAt ring m seat
seat_at ring seats m seat all at = record { on = all.on m seat at; place = all.place m seat at; seated = all.seated m seat at }

seats_at_their_places : (ring : Ring) (seats : List SeatView) → length seats ≡ ring_members ring → ((m : ℕ) (seat : SeatView) → slice_get seats m ≡ Some seat → IsSeatAt ring m seat) → AreAllSeats ring seats
seats_at_their_places ring seats count each = record {
  count = count;
  on = λ m seat at. (each m seat at).on;
  place = λ m seat at. (each m seat at).place;
  seated = λ m seat at. (each m seat at).seated;
}

-- one of them acted
pub kept_seats : (ring : Ring) (seats : List SeatView) (m : ℕ) (seat now : SeatView) → AreAllSeats ring seats → slice_get seats m ≡ Some seat → IsSameMember seat now → AreAllSeats ring (slice_set seats m now)
kept_seats ring seats m seat now all at same = seats_at_their_places ring (slice_set seats m now) (length-set seats m now ∙ all.count) (λ k other there. elim (slice_get-set seats m k now other there) [
  | inl e ↦ subst (λ (s : SeatView). IsSeatAt ring k s) (sym e.1) (subst (λ (n : ℕ). IsSeatAt ring n now) (sym e.0) (still_at ring m seat now (seat_at ring seats m seat all at) same))
  | inr e ↦ seat_at ring seats k other all e.1
])

-- each of them acted
pub walked_seats : (ring : Ring) (seats walked : List SeatView) → AreAllSeats ring seats → length walked ≡ length seats → ((m : ℕ) (d : SeatView) → m < length seats → IsSameMember (slice_index_or seats m d) (slice_index_or walked m d)) → AreAllSeats ring walked
walked_seats ring seats walked all count each = seats_at_their_places ring walked (count ∙ all.count) (λ m now at. elim (slice_get_cases seats m).1 [
  | inl e ↦
      let was : IsSameMember (slice_index_or seats m now) (slice_index_or walked m now) = each m now e.1 in
      let from : IsSameMember e.0 (slice_index_or walked m now) = subst (λ (s : SeatView). IsSameMember s (slice_index_or walked m now)) (get_or_from_slice_get seats m e.0 now e.2) was in
      let same : IsSameMember e.0 now = subst (λ (s : SeatView). IsSameMember e.0 s) (get_or_from_slice_get walked m now now at) from in
      still_at ring m e.0 now (seat_at ring seats m e.0 all e.2) same
  | inr e ↦ absurd (let inside = slice_get_within walked m now at in let past = e.0 in omega arith)
])
