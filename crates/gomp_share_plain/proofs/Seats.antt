-- Where a member is, by its seat; and a step that changes the seat of its member alone.
use Rattle.std.proofs.Common.{◌≡◌, ◌≢◌, ℕ, ◌+◌, ◌%◌, ◌≤◌, true, false, List, ◌∷◌, slice_get, slice_set, Some, None, inl, inr, refl, ap, ◌∙◌, sym, arith}
use Rattle.std.specs.Prelude.{Option, ◌==◌}
use Rattle.std.proofs.lemmas.Bool.{cases_Bool}
use Rattle.std.proofs.lemmas.Bool.Decides.{nat_tests, eqb_tells}
use Rattle.std.proofs.lemmas.List.{length-set}
use Rattle.gomp_types.specs.declared.limits.TheConstants.{OPEN_SHARES}
use Rattle.gomp_types.specs.declared.shape.Shape.{Shape}
use Rattle.gomp_events.specs.declared.event.Event.{Event}
use Rattle.gomp_events.specs.declared.event.Event.TheVariants.{Enter, Take, Drained, End, Part, PartEnd, See}
use Rattle.gomp_events.specs.Events.{open_share, open_number, share_number, shape_at, is_inside, member_of}
use Rattle.gomp_events.specs.declared.seen.Seen.{Seen}
use Rattle.gomp_types.proofs.Booleans.{some_of, none_of}
use Rattle.gomp_types.specs.Deals.{schedule}
use Rattle.gomp_shares.specs.Rules.{ShareRule}
use Rattle.gomp_types.proofs.Lists.{slice_get-set}
use Rattle.gomp_share_plain.specs.declared.seat.PlainSeat.{PlainSeat}
use Rattle.gomp_share_plain.specs.declared.open_share.OpenShare.{OpenShare}
use Rattle.gomp_share_plain.specs.Plain.{SeatStands, StandsFor, number_or, ended_of}
use Rattle.gomp_share_plain.proofs.Takes.{taken_theirs}
use Rattle.gomp_share_plain.specs.Same.{ended_is, SameSeat, seat_same, SamePlaces, same_place_kept, beyond_kept}

-- Where a member is

-- what is known of a member that is in a share: its seat shows it, with its shape, and it is the one that the member entered last
pub record SeatInside (seat : PlainSeat) (m : ℕ) (h : List Event) : Type 0 where
  pub shape : Shape
  pub current : seat.seen.current ≡ Some (ended_of seat, shape)
  pub is_open : open_share m h ≡ Some (ended_of seat, shape)
  pub there : shape_at (ended_of seat) h ≡ Some shape
  pub full : seat.seen.entered ≡ ended_of seat + 1

pub seat_inside : (members m : ℕ) (seat : PlainSeat) (opened : ℕ) (h : List Event) → SeatStands members m seat opened h → is_inside m h ≡ true → SeatInside seat m h
seat_inside members m seat opened h s within =
    let own = some_of (open_share m h) within in
    let current : seat.seen.current ≡ Some own.0 = ap (λ (seen : Seen). seen.current) s.seen ∙ own.1 in
    let number : ended_of seat ≡ own.0.0 = ended_is seat own.0 current in
    let last = s.inside own.0 current in
    let share : own.0 ≡ (ended_of seat, own.0.1) = ap (λ (n : ℕ). (n, own.0.1)) (sym number) in
    record {
      shape = own.0.1;
      current = current ∙ ap Some share;
      is_open = own.1 ∙ ap Some share;
      there = ap (λ n. shape_at n h) number ∙ last.1;
      full = last.0 ∙ ap (λ (n : ℕ). n + 1) (sym number);
    }

-- the number of the share that it is in
pub inside_number : (members m : ℕ) (seat : PlainSeat) (opened : ℕ) (h : List Event) → SeatStands members m seat opened h → is_inside m h ≡ true → open_number m h ≡ ended_of seat
inside_number members m seat opened h s within = ap share_number (seat_inside members m seat opened h s within).is_open

-- a member that is outside has left what it entered
pub seat_outside : (members m : ℕ) (seat : PlainSeat) (opened : ℕ) (h : List Event) → SeatStands members m seat opened h → is_inside m h ≡ false → (seat.seen.current ≡ None) × (ended_of seat ≡ seat.seen.entered)
seat_outside members m seat opened h s out =
    let none : seat.seen.current ≡ None = ap (λ (seen : Seen). seen.current) s.seen ∙ none_of (open_share m h) out in
    (none, ap (number_or seat.seen.entered) none)

-- in any case it has left no more than it entered
pub ended_few : (members m : ℕ) (seat : PlainSeat) (opened : ℕ) (h : List Event) → SeatStands members m seat opened h → ended_of seat ≤ seat.seen.entered
ended_few members m seat opened h s =
    elim (cases_Bool (is_inside m h)) [
      | inl within ↦ let full = (seat_inside members m seat opened h s within).full in omega arith
      | inr out ↦ let even = (seat_outside members m seat opened h s out).1 in omega arith
    ]

-- Another member's seat

-- numbers that differ do so for the test
pub number_is_another : (i n : ℕ) → i ≢ n → (n == i) ≡ false
number_is_another i n differ = elim (eqb_tells n i) [ inl e ↦ absurd (differ (sym e.1)) | inr e ↦ e.0 ]

-- an event of another member says the same of it, if each open share keeps its shape
pub other_seat : (event : Event) (k : ℕ) (h : List Event) → k ≢ member_of event → ((i : ℕ) (shape : Shape) → shape_at i h ≡ Some shape → shape_at i (event ∷ h) ≡ Some shape) → SameSeat k (event ∷ h) h
other_seat (Enter share m shape) k h other kept = record { seen = rw (number_is_another k m other) refl; left = λ i. refl; taken = λ i. refl; shape = kept }
other_seat (Take share m low high) k h other kept = record { seen = rw (number_is_another k m other) refl; left = λ i. refl; taken = λ i. taken_theirs i share k m low high h other; shape = kept }
other_seat (Drained share m) k h other kept = record { seen = rw (number_is_another k m other) refl; left = λ i. refl; taken = λ i. refl; shape = kept }
other_seat (End share m) k h other kept = record { seen = rw (number_is_another k m other) refl; left = λ i. grind (arith, nat_tests, other); taken = λ i. refl; shape = kept }
other_seat (Part share m iteration) k h other kept = record { seen = rw (number_is_another k m other) refl; left = λ i. refl; taken = λ i. refl; shape = kept }
other_seat (PartEnd share m) k h other kept = record { seen = rw (number_is_another k m other) refl; left = λ i. refl; taken = λ i. refl; shape = kept }
other_seat (See m kind) k h other kept = record { seen = rw (number_is_another k m other) refl; left = λ i. refl; taken = λ i. refl; shape = kept }
other_seat _ k h other kept = record { seen = refl; left = λ i. refl; taken = λ i. refl; shape = kept }

-- A step of a member

-- if an event keeps the rule and changes no place, and its member's seat is as the events say then, so are all shares
pub seat_steps : (members : ℕ) (seats : List PlainSeat) (count : ℕ) (places : List (Option OpenShare)) (h : List Event) (event : Event) (now : PlainSeat) →
    StandsFor members seats count places h → SamePlaces (event ∷ h) h → SeatStands members (member_of event) now count (event ∷ h) → ShareRule (schedule members) members event h →
    StandsFor members (slice_set seats (member_of event) now) count places (event ∷ h)
seat_steps members seats count places h event now st same own rule = record {
  size = length-set seats (member_of event) _ ∙ st.size;
  team = st.team;
  eight = st.eight;
  seat = λ k other at. elim (slice_get-set seats (member_of event) k _ other at) [
    | inl e ↦ rw (e.0, e.1) own
    | inr e ↦ seat_same members k other count (event ∷ h) h (other_seat event k h e.0 (λ i shape is. same.shape i ∙ is)) (st.seat k other e.1)
  ];
  place = λ i low high. same_place_kept members i (slice_get places (i % OPEN_SHARES)) (event ∷ h) h same (st.place i low high);
  beyond = λ i past. beyond_kept i (event ∷ h) h same (st.beyond i past);
  rule = (rule, st.rule);
}
