-- The seats of a new team, handed out one after another.
use Rattle.std.proofs.Common.{ℕ, ◌≡◌, ◌+◌, ◌++◌, List, [], ◌∷◌, refl, ap, sym, ◌∙◌, arith, reverse, length, subst, slice_get, Some, suc, zero, map}
use Rattle.std.proofs.lemmas.List.{length-map}
use Rattle.std.proofs.lemmas.Option.{none-some, same_Some}
use Rattle.gomp_ring.specs.declared.ring.Ring.{Ring}
use Rattle.gomp_ring.specs.Rings.{ring_table, ring_members}
use Rattle.gomp_ring.specs.RingSeats.{SeatView, AreAllSeats, IsOnRing, fresh_view}
use Rattle.gomp_seat_calls.specs.Stays.{StaysSeat}
use Rattle.gomp_team.specs.Members.{MemberView}
use Rattle.gomp_seats.specs.NewSeats.{AreNewSeats}
use Rattle.gomp_team_region.specs.Regions.{IsNewSeat, AreSeatsFrom, seats_of}
use Rattle.gomp_team_region.proofs.Taken.{last_mapped, last_reversed}

-- seats each of which is at its number are those from this number on
seats_from : (ring : Ring) (m : ℕ) (seats : List SeatView) → ((k : ℕ) (seat : SeatView) → slice_get seats k ≡ Some seat → IsNewSeat ring (m + k) seat) → AreSeatsFrom ring m seats
seats_from ring m [] each = tt
seats_from ring m (seat ∷ seats) each =
    let here : m + 0 ≡ m = omega arith in (
      subst (λ k. IsNewSeat ring k seat) here (each 0 seat refl),
      seats_from ring (m + 1) seats (λ k other at. (let there : m + suc k ≡ m + 1 + k = omega arith in subst (λ n. IsNewSeat ring n other) there (each (suc k) other at))),
    )

-- those of a new team
pub new_seats_from : (ring : Ring) (members : ℕ) (seats : List SeatView) → AreNewSeats members ring seats → AreSeatsFrom ring 0 seats
new_seats_from ring members seats new =
    seats_from ring 0 seats (λ k seat at. (let here : k ≡ 0 + k = omega arith in
    subst (λ n. IsNewSeat ring n seat) here (subst (λ size. seat ≡ fresh_view (ring_table ring) size k size) (sym new.size) (new.fresh k seat at))))

-- the first of them is the last of the list that is turned round
pub first_of_seats : (ring : Ring) (m : ℕ) (before after : List SeatView) (seat : SeatView) → before ≡ after ++ seat ∷ [] → AreSeatsFrom ring m (reverse before)
    → IsNewSeat ring m seat × AreSeatsFrom ring (m + 1) (reverse after)
first_of_seats ring m before after seat is from = subst (λ seats. AreSeatsFrom ring m seats) (ap reverse is ∙ last_reversed after seat) from

-- a new seat is on its ring
pub new_seat_on_ring : (ring : Ring) (m : ℕ) (seat : SeatView) → IsNewSeat ring m seat → IsOnRing ring seat
new_seat_on_ring ring m seat new = rw new (record { table = refl; members = refl })

-- one more of them
one_more_seat : (ring : Ring) (m : ℕ) (seats : List SeatView) (seat : SeatView) → AreSeatsFrom ring m seats → IsNewSeat ring (m + length seats) seat → AreSeatsFrom ring m (seats ++ seat ∷ [])
one_more_seat ring m [] seat from new =
    let here : m + 0 ≡ m = omega arith in
    (subst (λ k. IsNewSeat ring k seat) here new, tt)
one_more_seat ring m (first ∷ seats) seat (one, others) new =
    let there : m + length (first ∷ seats) ≡ m + 1 + length seats = omega arith in
    (one, one_more_seat ring (m + 1) seats seat others (subst (λ k. IsNewSeat ring k seat) there new))

-- of a member that is made with it
pub seat_opened : {T : Type 0} (ring : Ring) (number : ℕ) (before after : List (MemberView T)) (member : MemberView T) (seat : SeatView)
    → after ≡ before ++ member ∷ [] → length before ≡ number → AreSeatsFrom ring 0 (seats_of before) → member.seat ≡ seat → IsNewSeat ring number seat → AreSeatsFrom ring 0 (seats_of after)
seat_opened ring number before after member seat is many from has new =
    let mapped : seats_of after ≡ seats_of before ++ member.seat ∷ [] = last_mapped (λ other. other.seat) before after member is in
    let count : length (seats_of before) ≡ length before = length-map before (λ other. other.seat) in
    let here : number ≡ 0 + length (seats_of before) = omega (arith, many, count) in
    subst (λ seats. AreSeatsFrom ring 0 seats) (sym mapped)
    (one_more_seat ring 0 (seats_of before) member.seat from (subst (λ s. IsNewSeat ring (0 + length (seats_of before)) s) (sym has) (subst (λ k. IsNewSeat ring k seat) here new)))

-- the one at each place
seat_at_place : (ring : Ring) (m k : ℕ) (seats : List SeatView) (seat : SeatView) → AreSeatsFrom ring m seats → slice_get seats k ≡ Some seat → IsNewSeat ring (m + k) seat
seat_at_place ring m k [] seat from at = absurd (none-some seat at)
seat_at_place ring m zero (first ∷ seats) seat (one, others) at =
    let here : m ≡ m + 0 = omega arith in
    subst (λ n. IsNewSeat ring n seat) here (subst (λ s. IsNewSeat ring m s) (same_Some first seat at) one)
seat_at_place ring m (suc k) (first ∷ seats) seat (one, others) at =
    let there : m + 1 + k ≡ m + suc k = omega arith in
    subst (λ n. IsNewSeat ring n seat) there (seat_at_place ring (m + 1) k seats seat others at)

-- as many as the ring has members are the seats of all
pub opened_seats_are_all : (ring : Ring) (seats : List SeatView) → AreSeatsFrom ring 0 seats → length seats ≡ ring_members ring → AreAllSeats ring seats
opened_seats_are_all ring seats from count = record {
  count = count;
  on = λ m seat at. new_seat_on_ring ring (0 + m) seat (seat_at_place ring 0 m seats seat from at);
  place = λ m seat at. (let here : 0 + m ≡ m = omega arith in ap (λ (s : SeatView). s.member) (seat_at_place ring 0 m seats seat from at) ∙ here);
  seated = λ m seat at. (let new = seat_at_place ring 0 m seats seat from at in ap (λ (s : SeatView). s.seated) new ∙ sym (ap (λ (s : SeatView). s.members) new));
}

-- each is the seat of the same member as before
abbrev pub EachStays : List SeatView → List SeatView → Type 0
EachStays [] [] = Unit {0}
EachStays (was ∷ befores) (now ∷ afters) = StaysSeat was now × EachStays befores afters
EachStays _ _ = ⊥

as_many_stay : (befores afters : List SeatView) → EachStays befores afters → length afters ≡ length befores
as_many_stay [] [] each = refl
as_many_stay (was ∷ befores) (now ∷ afters) (one, others) = ap suc (as_many_stay befores afters others)
as_many_stay [] (now ∷ afters) each = absurd each
as_many_stay (was ∷ befores) [] each = absurd each

-- what it was, of the one at each place
stayed_at : (befores afters : List SeatView) (m : ℕ) (now : SeatView) → EachStays befores afters → slice_get afters m ≡ Some now → (was : SeatView) × (slice_get befores m ≡ Some was) × StaysSeat was now
stayed_at [] [] m now each at = absurd (none-some now at)
stayed_at (was ∷ befores) (first ∷ afters) zero now (one, others) at = (was, refl, subst (λ s. StaysSeat was s) (same_Some first now at) one)
stayed_at (was ∷ befores) (first ∷ afters) (suc m) now (one, others) at = stayed_at befores afters m now others at
stayed_at [] (first ∷ afters) m now each at = absurd each
stayed_at (was ∷ befores) [] m now each at = absurd each

-- so the seats of all members stay these, whatever each has done
pub all_seats_stay : (ring : Ring) (befores afters : List SeatView) → AreAllSeats ring befores → EachStays befores afters → AreAllSeats ring afters
all_seats_stay ring befores afters all each = record {
  count = as_many_stay befores afters each ∙ all.count;
  on = λ m now at. (let was = stayed_at befores afters m now each at in let on = all.on m was.0 was.1 in record { table = was.2.table ∙ on.table; members = on.members ∙ sym was.2.members });
  place = λ m now at. (let was = stayed_at befores afters m now each at in was.2.member ∙ all.place m was.0 was.1);
  seated = λ m now at. (let was = stayed_at befores afters m now each at in was.2.seated ∙ all.seated m was.0 was.1 ∙ sym was.2.members);
}
