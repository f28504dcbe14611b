-- The plain shares keep the laws of the trait. (own)
use Rattle.std.specs.Prelude.{ℕ, ◌+◌, ◌%◌, ◌<◌, ◌≡◌, ◌==◌, List, ◌∷◌, Option, Some, length, slice_get, refl}
use Rattle.std.proofs.Common.{sym, ap, ◌∙◌, arith, get_or}
use Rattle.std.proofs.lemmas.Option.{slice_get-get_or}
use Rattle.gomp_events.specs.declared.event.Event.{Event}
use Rattle.gomp_events.specs.declared.event.Event.TheVariants.{Enter, Take, Drained, End, HandOn, Part, PartEnd, Cancel, See}
use Rattle.gomp_types.specs.declared.cancel.CancelKind.TheVariants.{Parallel, Loop, Sections, Taskgroup}
use Rattle.gomp_types.specs.declared.cancel.Scope.TheVariants.{OneShare}
use Rattle.gomp_events.specs.Cancels.{leaves_share}
use Rattle.gomp_shares.proofs.Only.{sees_another}
use Rattle.gomp_shares.specs.Rules.{ShareRule}
use Rattle.gomp_types.specs.Values.{IsShape}
use Rattle.gomp_types.specs.declared.limits.TheConstants.{OPEN_SHARES}
use Rattle.gomp_types.specs.declared.shape.Shape.{Shape}
use Rattle.gomp_shares.proofs.SharesKeep.{member_is_inside}
use Rattle.gomp_types.specs.Deals.{schedule}
use Rattle.gomp_events.specs.Events.{open_share}
use Rattle.gomp_share_plain.specs.Same.{ended_is, SameSeat, SamePlaces, seat_same, same_place_kept, beyond_kept}
use Rattle.gomp_shares.specs.Calls.{IsNoShareEvent}
use Rattle.gomp_events.specs.Seen.{seen_of}
use Rattle.gomp_share_plain.specs.Plain.{SeatStands, StandsFor, new_seat, ended_of, seat_seen, plain_seen}
use Rattle.gomp_events.specs.declared.seen.Seen.{Seen}
use Rattle.gomp_share_plain.specs.declared.seat.PlainSeat.{PlainSeat}
use Rattle.gomp_share_plain.specs.declared.open_share.OpenShare.{OpenShare}

-- a member sees what the events say
pub plain_agrees : (members : ℕ) (seats : List PlainSeat) (opened : ℕ) (places : List (Option OpenShare)) (h : List Event) (m : ℕ) → StandsFor members seats opened places h → m < length seats →
    plain_seen seats m ≡ seen_of m h
plain_agrees members seats opened places h m st lt =
    let at : slice_get seats m ≡ Some (get_or seats m new_seat) = slice_get-get_or seats m new_seat lt in
    ap seat_seen at ∙ (st.seat m _ at).seen

-- a share that a member is in has a shape that a construct has: its place does
valid_inside : (members : ℕ) (seats : List PlainSeat) (opened : ℕ) (places : List (Option OpenShare)) (h : List Event) (m i : ℕ) (shape : Shape) (seat : PlainSeat) → StandsFor members seats opened places h → slice_get seats m ≡ Some seat →
    open_share m h ≡ Some (i, shape) → IsShape shape
valid_inside members seats opened places h m i shape seat st at there =
    let s : SeatStands members m seat opened h = st.seat m seat at in
    let own : seat.seen.current ≡ Some (i, shape) = ap (λ (seen : Seen). seen.current) s.seen ∙ there in
    let number : ended_of seat ≡ i = ended_is seat (i, shape) own in
    let last = s.inside (i, shape) own in
    let entered : seat.seen.entered ≡ i + 1 = last.0 in
    let known = s.known in let near = s.near in
    let p = st.place i (omega arith) (omega arith) in
    let same : Some shape ≡ Some p.share.shape = sym last.1 ∙ p.shape in
    let is : shape ≡ p.share.shape = let e = same in cc in
    rw is p.valid

pub plain_valid : (members : ℕ) (seats : List PlainSeat) (opened : ℕ) (places : List (Option OpenShare)) (h : List Event) (m i : ℕ) (shape : Shape) → StandsFor members seats opened places h → open_share m h ≡ Some (i, shape) → IsShape shape
plain_valid members seats opened places h m i shape st there =
    let lt : m < members = (member_is_inside (schedule members) members m i shape h st.rule there).1 in
    let size = st.size in
    valid_inside members seats opened places h m i shape (get_or seats m new_seat) st (slice_get-get_or seats m new_seat (omega arith)) there

-- such an event says the same of each seat and each place, and the rule asks nothing of it
pub record SaysNothing (members : ℕ) (event : Event) (h : List Event) : Type 0 where
  pub seat : (m : ℕ) → SameSeat m (event ∷ h) h
  pub places : SamePlaces (event ∷ h) h
  pub rule : ShareRule (schedule members) members event h

aside_says : (members : ℕ) (event : Event) (h : List Event) → IsNoShareEvent event → SaysNothing members event h
aside_says members (Enter share k shape) h is = absurd is
aside_says members (Take share k low high) h is = absurd is
aside_says members (Drained share k) h is = absurd is
aside_says members (End share k) h is = absurd is
aside_says members (HandOn share k piece) h is = absurd is
aside_says members (Part share k iteration) h is = absurd is
aside_says members (PartEnd share k) h is = absurd is
aside_says members (Cancel k (OneShare share)) h is = absurd is
aside_says members (See k Loop) h is = absurd is
aside_says members (See k Sections) h is = absurd is
aside_says members (See k Parallel) h is = record {
  seat = λ m. record { seen = rw (sees_another (k == m) (leaves_share m h)) refl; left = λ i. refl; taken = λ i. refl; shape = λ i shape at. at };
  places = record { shape = λ i. refl; taken = λ queue_of i q. refl; turn = λ i. refl; cancelled = λ i. refl };
  rule = tt;
}
aside_says members (See k Taskgroup) h is = record {
  seat = λ m. record { seen = rw (sees_another (k == m) (leaves_share m h)) refl; left = λ i. refl; taken = λ i. refl; shape = λ i shape at. at };
  places = record { shape = λ i. refl; taken = λ queue_of i q. refl; turn = λ i. refl; cancelled = λ i. refl };
  rule = tt;
}
aside_says members _ h is = record {
  seat = λ m. record { seen = refl; left = λ i. refl; taken = λ i. refl; shape = λ i shape at. at };
  places = record { shape = λ i. refl; taken = λ queue_of i q. refl; turn = λ i. refl; cancelled = λ i. refl };
  rule = tt;
}

-- so nothing that is kept depends on arrivals and the like
pub plain_aside : (members : ℕ) (seats : List PlainSeat) (opened : ℕ) (places : List (Option OpenShare)) (h : List Event) (event : Event) → IsNoShareEvent event → StandsFor members seats opened places h → StandsFor members seats opened places (event ∷ h)
plain_aside members seats opened places h event is st =
    let nothing = aside_says members event h is in record {
      size = st.size;
      team = st.team;
      eight = st.eight;
      seat = λ k seat at. seat_same members k seat opened (event ∷ h) h (nothing.seat k) (st.seat k seat at);
      place = λ i low high. same_place_kept members i (slice_get places (i % OPEN_SHARES)) (event ∷ h) h nothing.places (st.place i low high);
      beyond = λ i past. beyond_kept i (event ∷ h) h nothing.places (st.beyond i past);
      rule = (nothing.rule, st.rule);
    }
