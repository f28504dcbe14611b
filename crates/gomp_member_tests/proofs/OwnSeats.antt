-- The seats of members that go their ways, and come back.
use Rattle.std.proofs.Common.{ℕ, ◌≡◌, ◌+◌, ◌++◌, List, [], ◌∷◌, zero, suc, refl, ap, sym, ◌∙◌, subst, arith, length, slice_get, Some, inl, inr}
use Rattle.std.proofs.lemmas.List.{length-map, map-append}
use Rattle.std.proofs.lemmas.Option.{none-some, same_Some}
use Rattle.gomp_types.specs.declared.call.Call.{Call}
use Rattle.gomp_types.specs.declared.reply.Reply.{Reply}
use Rattle.gomp_ompt.specs.declared.record.Record.{Record}
use Rattle.gomp_ring.specs.declared.ring.Ring.{Ring}
use Rattle.atomic_table.specs.Seated.{TableId}
use Rattle.gomp_ring.specs.RingSeats.{SeatView, AreAllSeats}
use Rattle.gomp_seat_calls.specs.Stays.{StaysSeat}
use Rattle.gomp_team.specs.Members.{MemberView, Called, CalledWhole}
use Rattle.gomp_team_region.specs.Regions.{seats_of}
use Rattle.gomp_member_tests.specs.Seats.{HasOwnSeat, HaveSeatsFrom, first_size, first_table}

-- a seat that stays its member's is its own still
own_seat_stays : (table : TableId) (members : ℕ) (number : ℕ) (before after : SeatView) → StaysSeat before after → HasOwnSeat table members number before → HasOwnSeat table members number after
own_seat_stays table members number before after stays own = record {
  table_is = stays.table ∙ own.table_is;
  members_are = stays.members ∙ own.members_are;
  number_is = stays.member ∙ own.number_is;
  seated = stays.seated ∙ own.seated;
}

module _ {T : Type 0} (gives : T → Record → T → Type 0) where
  pub call_keeps_own_seat : (table : TableId) (members : ℕ) (number : ℕ) (call : Call) (reply : Reply) (before after : MemberView T) → Called gives call reply before after → HasOwnSeat table members number before.seat → HasOwnSeat table members number after.seat
  call_keeps_own_seat table members number call reply before after called own = own_seat_stays table members number before.seat after.seat called.stays own

  pub whole_call_keeps_own_seat : (table : TableId) (members : ℕ) (number : ℕ) (call : Call) (reply : Reply) (before after : MemberView T) → CalledWhole gives call reply before after → HasOwnSeat table members number before.seat → HasOwnSeat table members number after.seat
  whole_call_keeps_own_seat table members number call reply before after called own = elim called.tries [
    | inl once ↦ call_keeps_own_seat table members number call reply before after once own
    | inr waited ↦ own_seat_stays table members number waited.0.seat after.seat waited.2.stays (own_seat_stays table members number before.seat waited.0.seat waited.1.stays own)
  ]

-- the last of a list of these, and those before it
last_own : (table : TableId) (members : ℕ) (m : ℕ) (rest : List SeatView) (seat : SeatView) → HaveSeatsFrom table members m (rest ++ seat ∷ []) → HaveSeatsFrom table members m rest × HasOwnSeat table members (m + length rest) seat
last_own table members m [] seat (one, none) =
    let here : m ≡ m + 0 = omega arith in
    (tt, subst (λ k. HasOwnSeat table members k seat) here one)
last_own table members m (first ∷ rest) seat (one, others) =
    let more = last_own table members (m + 1) rest seat others in
    let there : m + 1 + length rest ≡ m + length (first ∷ rest) = omega arith in
    ((one, more.0), subst (λ k. HasOwnSeat table members k seat) there more.1)

pub last_has_own_seat : {T : Type 0} (table : TableId) (size : ℕ) (members rest : List (MemberView T)) (member : MemberView T) → members ≡ rest ++ member ∷ [] → HaveSeatsFrom table size 0 (seats_of members)
    → HaveSeatsFrom table size 0 (seats_of rest) × HasOwnSeat table size (length rest) member.seat
last_has_own_seat table size members rest member is have =
    let mapped : seats_of members ≡ seats_of rest ++ member.seat ∷ [] = ap seats_of is ∙ map-append (λ other. other.seat) rest (member ∷ []) in
    let both = last_own table size 0 (seats_of rest) member.seat (subst (HaveSeatsFrom table size 0) mapped have) in
    let here : 0 + length (seats_of rest) ≡ length rest = omega (arith, length-map rest (λ other. other.seat)) in
    (both.0, subst (λ k. HasOwnSeat table size k member.seat) here both.1)

-- one more behind them
one_more_own : (table : TableId) (members : ℕ) (m : ℕ) (seats : List SeatView) (seat : SeatView) → HaveSeatsFrom table members m seats → HasOwnSeat table members (m + length seats) seat → HaveSeatsFrom table members m (seats ++ seat ∷ [])
one_more_own table members m [] seat have own =
    let here : m + 0 ≡ m = omega arith in
    (subst (λ k. HasOwnSeat table members k seat) here own, tt)
one_more_own table members m (first ∷ seats) seat (one, others) own =
    let there : m + length (first ∷ seats) ≡ m + 1 + length seats = omega arith in
    (one, one_more_own table members (m + 1) seats seat others (subst (λ k. HasOwnSeat table members k seat) there own))

pub one_more_has_own_seat : {T : Type 0} (table : TableId) (members : ℕ) (before after : List (MemberView T)) (member : MemberView T) (number : ℕ) → after ≡ before ++ member ∷ [] → length before ≡ number → HaveSeatsFrom table members 0 (seats_of before) → HasOwnSeat table members number member.seat
    → HaveSeatsFrom table members 0 (seats_of after)
one_more_has_own_seat table members before after member number is many have own =
    let mapped : seats_of after ≡ seats_of before ++ member.seat ∷ [] = ap seats_of is ∙ map-append (λ other. other.seat) before (member ∷ []) in
    let here : number ≡ 0 + length (seats_of before) = omega (arith, many, length-map before (λ other. other.seat)) in
    subst (HaveSeatsFrom table members 0) (sym mapped) (one_more_own table members 0 (seats_of before) member.seat have (subst (λ k. HasOwnSeat table members k member.seat) here own))

-- the seats of all members are such, and such are the seats of all
own_from : (table : TableId) (members : ℕ) (m : ℕ) (seats : List SeatView) → ((k : ℕ) (seat : SeatView) → slice_get seats k ≡ Some seat → HasOwnSeat table members (m + k) seat) → HaveSeatsFrom table members m seats
own_from table members m [] each = tt
own_from table members m (seat ∷ seats) each =
    let here : m + 0 ≡ m = omega arith in (
      subst (λ k. HasOwnSeat table members k seat) here (each 0 seat refl),
      own_from table members (m + 1) seats (λ k other at. (let there : m + suc k ≡ m + 1 + k = omega arith in subst (λ n. HasOwnSeat table members n other) there (each (suc k) other at))),
    )

own_at : (table : TableId) (members : ℕ) (m k : ℕ) (seats : List SeatView) (seat : SeatView) → HaveSeatsFrom table members m seats → slice_get seats k ≡ Some seat → HasOwnSeat table members (m + k) seat
own_at table members m k [] seat have at = absurd (none-some seat at)
own_at table members m zero (first ∷ seats) seat (one, others) at =
    let here : m ≡ m + 0 = omega arith in
    subst (λ n. HasOwnSeat table members n seat) here (subst (λ s. HasOwnSeat table members m s) (same_Some first seat at) one)
own_at table members m (suc k) (first ∷ seats) seat (one, others) at =
    let there : m + 1 + k ≡ m + suc k = omega arith in
    subst (λ n. HasOwnSeat table members n seat) there (own_at table members (m + 1) k seats seat others at)

-- the seats of all members are such, on the ring of the first
pub all_have_own_seats : (ring : Ring) (seats : List SeatView) → AreAllSeats ring seats → HaveSeatsFrom (first_table seats) (first_size seats) 0 seats
all_have_own_seats ring [] all = tt
all_have_own_seats ring (first ∷ seats) all =
    let own = all.on 0 first refl in
    own_from first.table first.members 0 (first ∷ seats) (λ k seat at. (let here : k ≡ 0 + k = omega arith in
    let on = all.on k seat at in
    let size : seat.members ≡ first.members = sym on.members ∙ own.members in
    subst (λ n. HasOwnSeat first.table first.members n seat) here (record { table_is = on.table ∙ sym own.table; members_are = size; number_is = all.place k seat at; seated = all.seated k seat at ∙ size })))

-- and such seats, as many, are those of all members still
pub own_seats_are_all : (ring : Ring) (before after : List SeatView) → AreAllSeats ring before → HaveSeatsFrom (first_table before) (first_size before) 0 after → length after ≡ length before → AreAllSeats ring after
own_seats_are_all ring [] [] all have same = all
own_seats_are_all ring [] (now ∷ after) all have same = absurd (omega (arith, same))
own_seats_are_all ring (first ∷ before) after all have same =
    let own = all.on 0 first refl in
    record {
      count = same ∙ all.count;
      on = λ m seat at. (let now = own_at first.table first.members 0 m after seat have at in record { table = now.table_is ∙ own.table; members = own.members ∙ sym now.members_are });
      place = λ m seat at. (let here : 0 + m ≡ m = omega arith in (own_at first.table first.members 0 m after seat have at).number_is ∙ here);
      seated = λ m seat at. (let now = own_at first.table first.members 0 m after seat have at in now.seated ∙ sym now.members_are);
    }
