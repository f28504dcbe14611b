-- Whether there is room for a share, by the seats of its team.
use Rattle.std.proofs.Common.{◌≡◌, ℕ, ◌+◌, ◌-◌, ◌<◌, true, false, nat_lt, List, get_or, slice_get, Some, inl, inr, ◌∙◌, sym, arith}
use Rattle.std.specs.Prelude.{Option, All}
use Rattle.std.proofs.lemmas.Bool.Decides.{nat_tests}
use Rattle.std.proofs.lemmas.Bool.{cases_Bool}
use Rattle.std.proofs.lemmas.Option.{slice_get-get_or, slice_get_within, get_or_from_slice_get}
use Rattle.gomp_types.specs.declared.limits.TheConstants.{OPEN_SHARES}
use Rattle.gomp_events.specs.declared.event.Event.{Event}
use Rattle.gomp_events.specs.Events.{has_ended, is_over, has_room}
use Rattle.gomp_types.proofs.Booleans.{every_tells, every_by, or_tells, or_left, or_right}
use Rattle.gomp_share_plain.specs.declared.seat.PlainSeat.{PlainSeat}
use Rattle.gomp_share_plain.specs.declared.open_share.OpenShare.{OpenShare}
use Rattle.gomp_share_plain.specs.Plain.{StandsFor, new_seat, ended_of}

-- if each seat is near enough, there is room
pub room_by : (members : ℕ) (seats : List PlainSeat) (count : ℕ) (places : List (Option OpenShare)) (h : List Event) (number : ℕ) →
    StandsFor members seats count places h → ((k : ℕ) (other : PlainSeat) → slice_get seats k ≡ Some other → number < ended_of other + OPEN_SHARES) → has_room members number h ≡ true
room_by members seats count places h number st each =
    elim (cases_Bool (nat_lt number OPEN_SHARES)) [
      | inl low ↦ or_left (nat_lt number OPEN_SHARES) (is_over members (number - OPEN_SHARES) h) low
      | inr high ↦ or_right (nat_lt number OPEN_SHARES) (is_over members (number - OPEN_SHARES) h) (every_by members (λ m. has_ended (number - OPEN_SHARES) m h) (λ m lt.
          let size = st.size in
          let at : slice_get seats m ≡ Some (get_or seats m new_seat) = slice_get-get_or seats m new_seat (omega arith) in
          let near = each m _ at in
          (st.seat m _ at).ended (number - OPEN_SHARES) ∙ grind (arith, nat_tests, high)))
    ]

-- and if there is room, each is
pub room_near : (members : ℕ) (seats : List PlainSeat) (count : ℕ) (places : List (Option OpenShare)) (h : List Event) (number : ℕ) →
    StandsFor members seats count places h → has_room members number h ≡ true → (k : ℕ) (other : PlainSeat) → slice_get seats k ≡ Some other → number < ended_of other + OPEN_SHARES
room_near members seats count places h number st room k other at =
    elim (or_tells (nat_lt number OPEN_SHARES) (is_over members (number - OPEN_SHARES) h) room) [
      | inl low ↦ grind (arith, nat_tests)
      | inr over ↦
          let lt : k < members = rw (← st.size) (slice_get_within seats k other at) in
          let ended : nat_lt (number - OPEN_SHARES) (ended_of other) ≡ true = sym ((st.seat k other at).ended (number - OPEN_SHARES)) ∙ every_tells members (λ m. has_ended (number - OPEN_SHARES) m h) k over lt in
          grind (arith, nat_tests)
    ]

-- before the team's newest share there is room
pub room_before : (members : ℕ) (seats : List PlainSeat) (count : ℕ) (places : List (Option OpenShare)) (h : List Event) (number : ℕ) →
    StandsFor members seats count places h → number < count → has_room members number h ≡ true
room_before members seats count places h number st before =
    room_by members seats count places h number st (λ k other at. let near = (st.seat k other at).near in omega arith)

-- by the test of all seats
pub each_room : (seats : List PlainSeat) (number : ℕ) → All (λ seat. number < ended_of seat + OPEN_SHARES) seats → (k : ℕ) (other : PlainSeat) → slice_get seats k ≡ Some other → number < ended_of other + OPEN_SHARES
each_room seats number all k other at = rw (get_or_from_slice_get seats k other other at) at (all k other (slice_get_within seats k other at))

pub all_room : (seats : List PlainSeat) (number : ℕ) → ((k : ℕ) (other : PlainSeat) → slice_get seats k ≡ Some other → number < ended_of other + OPEN_SHARES) → All (λ seat. number < ended_of seat + OPEN_SHARES) seats
all_room seats number each = λ k d lt. each k (get_or seats k d) (slice_get-get_or seats k d lt)

-- if not all seats have room, there is none
pub no_room : (members : ℕ) (seats : List PlainSeat) (count : ℕ) (places : List (Option OpenShare)) (h : List Event) (number : ℕ) →
    StandsFor members seats count places h → (All (λ seat. number < ended_of seat + OPEN_SHARES) seats → ⊥) → has_room members number h ≡ false
no_room members seats count places h number st not_all =
    elim (cases_Bool (has_room members number h)) [
      | inl e ↦ absurd (not_all (all_room seats number (room_near members seats count places h number st e)))
      | inr e ↦ e
    ]
