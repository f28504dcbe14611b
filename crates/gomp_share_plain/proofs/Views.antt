-- The value of a team's shares, and their fields: what is known of the one is of the others; new shares stand for no events.
use Rattle.std.proofs.Common.{◌≡◌, ℕ, ◌^◌, ◌<◌, List, [], length, get_or, slice_get, Some, None, refl, ◌∙◌, sym, subst, arith, replicate}
use Rattle.std.proofs.lemmas.Bool.Decides.{nat_tests}
use Rattle.std.proofs.lemmas.List.{get_or-replicate, length-replicate}
use Rattle.std.proofs.lemmas.Option.{slice_get_within, slice_get_read, get_or_from_slice_get}
use Rattle.gomp_types.specs.declared.limits.TheConstants.{OPEN_SHARES}
use Rattle.gomp_events.specs.declared.event.Event.{Event}
use Rattle.gomp_events.specs.Seen.{seen_of}
use Rattle.gomp_events.specs.declared.seen.Seen.{Seen}
use Rattle.gomp_share_plain.specs.declared.seat.PlainSeat.{PlainSeat}
use Rattle.gomp_share_plain.specs.Plain.{StandsFor, PlainView, new_seat, plain_seen}
use Rattle.gomp_share_plain.specs.PlainLaws.{plain_agrees}

-- a call's own place: what the call asks of it holds of the events, the shares stand for these, and the seat that was read is the member's
pub own_seat : (view now : PlainView) (m : ℕ) (seat : PlainSeat) (h : List Event) (P : ℕ → Seen → Type 0) → view ≡ now → P (length now.seats) (plain_seen now.seats m) → m < length now.seats →
    StandsFor (length now.seats) now.seats now.opened now.places h → seat ≡ get_or view.seats m seat →
    P (length view.seats) (seen_of m h) × StandsFor (length view.seats) view.seats view.opened view.places h × (slice_get view.seats m ≡ Some seat)
own_seat view now m seat h P e asked lt st read =
    let here : seat ≡ get_or now.seats m seat = rw e at read in
    rw e (subst (P (length now.seats)) (plain_agrees (length now.seats) now.seats now.opened now.places h m st lt) asked, st, slice_get_read now.seats _ m seat refl lt here)

-- and the other way round
pub known_by : (view now : PlainView) → view ≡ now → (h : List Event) × StandsFor (length view.seats) view.seats view.opened view.places h → (h : List Event) × StandsFor (length now.seats) now.seats now.opened now.places h
known_by view now e (h, st) = (h, rw (← e) st)

-- new shares stand for no events
pub new_shares_stand : (seats : List PlainSeat) (n : ℕ) → n < 2 ^ 16 → seats ≡ replicate n new_seat →
    StandsFor (length seats) seats 0 (replicate OPEN_SHARES None) []
new_shares_stand seats n small e = record {
  size = refl;
  team = rw e (rw (length-replicate {A = PlainSeat} n new_seat) small);
  eight = refl;
  seat = λ m seat at.
      let in_new : slice_get (replicate n new_seat) m ≡ Some seat = rw e at at in
      let lt : m < n = rw (length-replicate n new_seat) at (slice_get_within _ m seat in_new) in
      let one : new_seat ≡ seat = sym (get_or-replicate n m new_seat seat lt) ∙ get_or_from_slice_get (replicate n new_seat) m seat seat in_new in
      rw (← one) (record {
        seen = refl;
        ended = λ i. grind (arith, nat_tests);
        inside = λ share is. absurd (cc);
        apart = λ e. refl;
        number = λ share piece there e. absurd (cc);
        taken = λ share is. absurd (cc);
        fresh = λ i le. refl;
        known = omega arith;
        near = omega arith;
      });
  place = λ i low high. absurd (omega arith);
  beyond = λ i past. (refl, (λ queue_of q. refl), refl, refl);
  rule = tt;
}
