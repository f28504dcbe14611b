-- A member that leaves its share keeps the plain shares in step with the events.
use Rattle.std.proofs.Common.{◌≡◌, ℕ, ◌+◌, true, false, List, ◌∷◌, slice_get, slice_set, Some, None, refl, ap, ◌∙◌, arith}
use Rattle.std.specs.Prelude.{Option}
use Rattle.std.proofs.lemmas.Bool.Decides.{nat_tests}
use Rattle.gomp_events.specs.declared.event.Event.{Event}
use Rattle.gomp_events.specs.declared.event.Event.TheVariants.{End}
use Rattle.gomp_events.specs.Events.{open_number, is_inside}
use Rattle.gomp_events.specs.declared.seen.Seen.{Seen}
use Rattle.gomp_types.proofs.Booleans.{same_number}
use Rattle.gomp_types.specs.Deals.{schedule}
use Rattle.gomp_shares.specs.Rules.{MayLeaveShare}
use Rattle.gomp_share_plain.specs.declared.seat.PlainSeat.{PlainSeat}
use Rattle.gomp_share_plain.specs.declared.open_share.OpenShare.{OpenShare}
use Rattle.gomp_share_plain.specs.Plain.{SeatStands, StandsFor, ended_of}
use Rattle.gomp_share_plain.proofs.Seats.{seat_inside, inside_number, seat_steps}

-- a member leaves its share, of which nothing is left for it, or which it has seen to be cancelled
pub leave_stands : (members : ℕ) (seats : List PlainSeat) (count : ℕ) (places : List (Option OpenShare)) (h : List Event) (m : ℕ) (seat : PlainSeat) →
    StandsFor members seats count places h → slice_get seats m ≡ Some seat → is_inside m h ≡ true → MayLeaveShare (schedule members) (open_number m h) m h →
    StandsFor members (slice_set seats m (record seat { seen = record seat.seen { current = None; leaving = false } })) count places (End (open_number m h) m ∷ h)
leave_stands members seats count places h m seat st at within none =
    let s : SeatStands members m seat count h = st.seat m seat at in
    let here : open_number m h ≡ ended_of seat = inside_number members m seat count h s within in
    let full : seat.seen.entered ≡ ended_of seat + 1 = (seat_inside members m seat count h s within).full in
    seat_steps members seats count places h (End (open_number m h) m) _ st
    (record { shape = λ i. refl; taken = λ queue_of i q. refl; turn = λ i. refl; cancelled = λ i. refl })
    (record {
      seen = rw (same_number m) (ap (λ (seen : Seen). record seen { current = None; leaving = false }) s.seen);
      ended = λ i. grind (arith, nat_tests, s.ended i, here, full);
      inside = λ share is. absurd (cc);
      apart = λ e. ap (λ (seen : Seen). seen.in_part) s.seen ∙ none.apart;
      number = λ share piece there e. absurd (cc);
      taken = λ share is. absurd (cc);
      fresh = s.fresh;
      known = s.known;
      near = let r = s.near in omega arith;
    })
    none
