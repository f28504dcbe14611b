-- The seats of a whole team come from that with which its ring was made, one split for each other member, and stay all of them whatever their members do: of a team of any size.
use Rattle.std.proofs.Common.{◌≡◌, ℕ, zero, suc, ◌+◌, List, [], ◌∷◌, ◌++◌, length, slice_get, slice_set, Some, ◌⊎◌, inl, inr, refl, ap, sym, ◌∙◌, subst, arith, length-append}
use Rattle.std.proofs.lemmas.List.{length-set}
use Rattle.std.proofs.lemmas.Option.{none-some, same_Some}
use Rattle.gomp_events.specs.declared.event.Event.{Event}
use Rattle.gomp_types.proofs.Lists.{slice_get-set}
use Rattle.gomp_ring.specs.declared.ring.Ring.{Ring}
use Rattle.gomp_ring.specs.Rings.{ring_members}
use Rattle.gomp_ring.specs.RingSeats.{SeatView, IsOnRing, SeatActs, SeatSplits, IsNewRing, AreAllSeats}
use Rattle.gomp_ring.proofs.RingPremises.{new_seat_is_on_ring, seat_stays_on_ring, split_seats_are_on_ring, seats_are_all}

-- so many members have a seat: member 0 the first, from which those of the others were split, in the order of their numbers
pub record AreSeated (ring : Ring) (count : ℕ) (first : SeatView) (others : List SeatView) : Type 0 where
  pub on : IsOnRing ring first
  pub first_is : first.member ≡ 0
  pub seated : first.seated ≡ count
  pub size : length others + 1 ≡ count
  pub each : (m : ℕ) (seat : SeatView) → slice_get others m ≡ Some seat → IsOnRing ring seat × (seat.member ≡ suc m) × (seat.seated ≡ seat.members)

-- on a new ring it is one
pub one_is_seated : (members : ℕ) (ring : Ring) (seat : SeatView) → IsNewRing members ring seat → AreSeated ring 1 seat []
one_is_seated members ring seat made = record {
  on = new_seat_is_on_ring members ring seat made;
  first_is = ap (λ (s : SeatView). s.member) made.seat_is;
  seated = ap (λ (s : SeatView). s.seated) made.seat_is;
  size = omega arith;
  each = λ m other at. absurd (none-some other at);
}

-- a seat of a list with one more is one of the list, or the last
last_or_before : (seats : List SeatView) (last seat : SeatView) (n : ℕ) → slice_get (seats ++ last ∷ []) n ≡ Some seat → (slice_get seats n ≡ Some seat) ⊎ ((n ≡ length seats) × (last ≡ seat))
last_or_before [] last seat zero e = inr (refl, same_Some last seat e)
last_or_before [] last seat (suc n) e = absurd (none-some seat e)
last_or_before (first ∷ seats) last seat zero e = inl e
last_or_before (first ∷ seats) last seat (suc n) e = elim (last_or_before seats last seat n e) [ inl at ↦ inl at | inr is ↦ inr (ap suc is.0, is.1) ]

-- with each split it is one more
pub one_more_is_seated : (ring : Ring) (count : ℕ) (first now other : SeatView) (others : List SeatView) → AreSeated ring count first others → SeatSplits first (Some other) now → AreSeated ring (count + 1) now (others ++ other ∷ [])
one_more_is_seated ring count first now other others before splits = record {
  on = both.0;
  first_is = ap (λ (s : SeatView). s.member) splits.2 ∙ before.first_is;
  seated = ap (λ (s : SeatView). s.seated) splits.2 ∙ ap (λ (n : ℕ). n + 1) before.seated;
  size = let longer = length-append others (other ∷ []) in let size = before.size in omega arith;
  each = λ m seat at. elim (last_or_before others other seat m at) [
    | inl there ↦ before.each m seat there
    | inr last ↦ subst (λ (s : SeatView). IsOnRing ring s × (s.member ≡ suc m) × (s.seated ≡ s.members)) last.1 (last_one m last.0)
  ];
}
  where
    both : IsOnRing ring now × IsOnRing ring other
    both = split_seats_are_on_ring ring first now other splits before.on

    last_one : (m : ℕ) → m ≡ length others → IsOnRing ring other × (other.member ≡ suc m) × (other.seated ≡ other.members)
    last_one m at =
        let who = ap (λ (s : SeatView). s.member) splits.3 in
        let count_is = before.seated in
        let size = before.size in
        (both.1, (omega arith), ap (λ (s : SeatView). s.seated) splits.3 ∙ sym (ap (λ (s : SeatView). s.members) splits.3))

-- once all are seated, these are the seats of all members
pub all_are_seated : (ring : Ring) (first : SeatView) (others : List SeatView) → AreSeated ring (ring_members ring) first others → AreAllSeats ring (first ∷ others)
all_are_seated ring first others seats = seats_are_all ring (first ∷ others) (let size = seats.size in omega arith) each
  where
    each : (m : ℕ) (seat : SeatView) → slice_get (first ∷ others) m ≡ Some seat → IsOnRing ring seat × (seat.member ≡ m) × (seat.seated ≡ seat.members)
    each zero seat at = subst (λ (s : SeatView). IsOnRing ring s × (s.member ≡ 0) × (s.seated ≡ s.members)) (same_Some first seat at) (seats.on, seats.first_is, seats.seated ∙ seats.on.members)
    each (suc m) seat at = seats.each m seat at

-- and they stay that, whatever a member does
pub all_stay_seated : (event : Event) (ring : Ring) (m : ℕ) (before now : SeatView) (seats : List SeatView) → AreAllSeats ring seats → slice_get seats m ≡ Some before → SeatActs event before now → AreAllSeats ring (slice_set seats m now)
all_stay_seated event ring m before now seats all at acts = seats_are_all ring (slice_set seats m now) (length-set seats m now ∙ all.count) each
  where
    after : IsOnRing ring now × (now.member ≡ m) × (now.seated ≡ now.members)
    after = (seat_stays_on_ring event ring before now acts (all.on m before at), acts.member ∙ all.place m before at, acts.seated ∙ all.seated m before at ∙ sym acts.members)

    each : (k : ℕ) (seat : SeatView) → slice_get (slice_set seats m now) k ≡ Some seat → IsOnRing ring seat × (seat.member ≡ k) × (seat.seated ≡ seat.members)
    each k seat there = elim (slice_get-set seats m k now seat there) [
      | inl own ↦ subst (λ (s : SeatView). IsOnRing ring s × (s.member ≡ k) × (s.seated ≡ s.members)) (sym own.1) (subst (λ (n : ℕ). IsOnRing ring now × (now.member ≡ n) × (now.seated ≡ now.members)) (sym own.0) after)
      | inr other ↦ (all.on k seat other.1, all.place k seat other.1, all.seated k seat other.1)
    ]
