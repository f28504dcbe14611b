-- The seats of a new team are on its ring.
use Rattle.std.proofs.Common.{ℕ, List, inl, inr, refl, sym, subst, arith}
use Rattle.std.specs.Prelude.{All}
use Rattle.std.proofs.lemmas.Option.{slice_get_cases, get_or_from_slice_get}
use Rattle.gomp_ring.specs.declared.ring.Ring.{Ring}
use Rattle.gomp_ring.specs.RingSeats.{SeatView, IsOnRing}
use Rattle.gomp_seats.specs.NewSeats.{AreNewSeats}

pub seats_on_ring : (members : ℕ) (ring : Ring) (seats : List SeatView) → AreNewSeats members ring seats → All (IsOnRing ring) seats
seats_on_ring members ring seats new k d within = elim (slice_get_cases seats k).1 [
  | inl e ↦
      let fresh : IsOnRing ring e.0 = rw (new.fresh k e.0 e.2) (record { table = refl; members = new.size }) in
      subst (λ (seat : SeatView). IsOnRing ring seat) (sym (get_or_from_slice_get seats k e.0 d e.2)) fresh
  | inr e ↦ absurd (let past = e.0 in omega (arith, within, past))
]
