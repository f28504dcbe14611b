-- What the calls on the seat that stands for all members ask and tell.
use Rattle.std.proofs.Common.{◌≡◌, ℕ, zero, suc, ◌+◌, ◌<◌, ◌≤◌, true, List, [], get_or, replicate, Option, Some, inl, inr, refl, ap, sym, ◌∙◌, subst, arith}
use Rattle.std.specs.Prelude.{◌==◌}
use Rattle.std.proofs.lemmas.Bool.Decides.{eqb_tells}
use Rattle.std.proofs.lemmas.List.{get_or-replicate, length-replicate}
use Rattle.std.proofs.lemmas.Option.{none-some, slice_get_read, slice_get_within, get_or_from_slice_get}
use Rattle.gomp_types.specs.declared.shape.Shape.{Shape}
use Rattle.gomp_events.specs.declared.event.Event.{Event}
use Rattle.gomp_events.specs.declared.seen.Seen.{Seen}
use Rattle.gomp_events.specs.Events.{open_share, open_number, share_number}
use Rattle.gomp_events.specs.Seen.{seen_of}
use Rattle.gomp_events.specs.Tasks.{contains}
use Rattle.gomp_types.proofs.Booleans.{same_number, or_right}
use Rattle.gomp_shares.proofs.Only.{seen_only}
use Rattle.gomp_slots.specs.declared.view.View.{View}
use Rattle.gomp_slots.specs.Rule.{numbers_from, first_view}
use Rattle.gomp_slots.specs.Seats.{unseen}
use Rattle.gomp_slots.specs.Premises.{IsInShare, IsBeforeShare}
use Rattle.gomp_share_ring.specs.AllShares.{AllView, StandsForAll, SeatTells, IsAll, all_seen, member_seen}
use Rattle.gomp_share_ring.specs.declared.member_seat.MemberSeat.{MemberSeat}
use Rattle.gomp_share_ring.proofs.AllSteps.{IsMemberOf, tells_now, stands_by_seats}

-- a call's own place: what it reads is kept of its member
pub member_at : (members m : ℕ) (seats : List MemberSeat) (v : View) (view : AllView) (seat : MemberSeat) → ◌≡◌ {A = AllView} (record { members = members; seats = seats; did = v.did }) view → IsAll members seats v → m < view.members → seat ≡ get_or seats m seat → IsMemberOf members m seats v seat
member_at members m seats v view seat is all lt read =
    let below : m < members = subst (λ (a : AllView). m < a.members) (sym is) lt in
    let size = all.size in
    record { all = all; at = slice_get_read seats _ m seat refl (omega arith) read; member = below }

-- what the call asks holds of what the member sees, and of what the events say
pub view_is_asked : (members m : ℕ) (seats : List MemberSeat) (v : View) (view : AllView) (seat : MemberSeat) (P : ℕ → Seen → Type 0) → ◌≡◌ {A = AllView} (record { members = members; seats = seats; did = v.did }) view → IsMemberOf members m seats v seat → P view.members (all_seen view.seats m) → P members seat.seen
view_is_asked members m seats v view seat P is place can = subst (P members) (ap member_seen place.at) (subst (λ (a : AllView). P a.members (all_seen a.seats m)) (sym is) can)

-- and so of what the events say of it
pub asked_of_events : (members m : ℕ) (seats : List MemberSeat) (v : View) (view : AllView) (seat : MemberSeat) (P : ℕ → Seen → Type 0) → ◌≡◌ {A = AllView} (record { members = members; seats = seats; did = v.did }) view → IsMemberOf members m seats v seat → P view.members (all_seen view.seats m) → P members (seen_of m v.did)
asked_of_events members m seats v view seat P is place can = subst (P members) (tells_now members m seats v seat place).sees (view_is_asked members m seats v view seat P is place can)

-- `look` shows that
pub shown_at : (members m : ℕ) (seats : List MemberSeat) (v : View) (view : AllView) (seat : MemberSeat) → ◌≡◌ {A = AllView} (record { members = members; seats = seats; did = v.did }) view → IsMemberOf members m seats v seat → seat.seen ≡ all_seen view.seats m
shown_at members m seats v view seat is place = sym (ap member_seen place.at) ∙ ap (λ (a : AllView). all_seen a.seats m) is

-- it stands for the events that it knows
pub stands_itself : (members : ℕ) (seats : List MemberSeat) (v : View) (view : AllView) → ◌≡◌ {A = AllView} (record { members = members; seats = seats; did = v.did }) view → IsAll members seats v → StandsForAll view.members view.seats view.did v.did
stands_itself members seats v view is all = subst (λ (a : AllView). StandsForAll a.members a.seats a.did v.did) is (stands_by_seats members seats v v.did all all.clean all.rule)

-- so there is a list for which it stands
pub known_to_all : (members : ℕ) (seats : List MemberSeat) (v : View) (view : AllView) → ◌≡◌ {A = AllView} (record { members = members; seats = seats; did = v.did }) view → IsAll members seats v → (h : List Event) × StandsForAll view.members view.seats view.did h
known_to_all members seats v view is all = (v.did, stands_itself members seats v view is all)

-- and a list for which it stands is one for the fields
pub stands_here : (members : ℕ) (seats : List MemberSeat) (did h : List Event) (view : AllView) → ◌≡◌ {A = AllView} (record { members = members; seats = seats; did = did }) view → StandsForAll view.members view.seats view.did h → StandsForAll members seats did h
stands_here members seats did h view is st = subst (λ (a : AllView). StandsForAll a.members a.seats a.did h) (sym is) st

-- what is read of it twice is the same
pub inside_again : (members m : ℕ) (seats : List MemberSeat) (v : View) (seat again : MemberSeat) (own : Option (ℕ × Shape)) → IsMemberOf members m seats v seat → IsMemberOf members m seats v again → seat.seen.current ≡ own → again.seen.current ≡ own
inside_again members m seats v seat again own one other is = ap (λ (s : Option MemberSeat). (member_seen s).current) (sym other.at ∙ one.at) ∙ is

-- the member is in this share
abbrev pub in_share_of_all : (members m i : ℕ) (shape : Shape) (seats : List MemberSeat) (v : View) (seat : MemberSeat) → IsMemberOf members m seats v seat → seat.seen.current ≡ Some (i, shape) → IsInShare members m i v
in_share_of_all members m i shape seats v seat is current = record {
  member = is.member;
  stands = is.all.whose m is.member;
  shape = shape;
  inside = sym (ap (λ (s : Seen). s.current) (tells_now members m seats v seat is).sees) ∙ current;
}

-- or this is its next one
pub before_share_of_all : (members m : ℕ) (seats : List MemberSeat) (v : View) (seat : MemberSeat) → IsMemberOf members m seats v seat → IsBeforeShare members m seat.seen.entered v
before_share_of_all members m seats v seat is = record {
  member = is.member;
  stands = is.all.whose m is.member;
  next = sym (ap (λ (s : Seen). s.entered) (tells_now members m seats v seat is).sees);
}

-- the events say the same of its place
pub sees_in : (members m : ℕ) (seats : List MemberSeat) (v : View) (seat : MemberSeat) (h : List Event) → IsMemberOf members m seats v seat → StandsForAll members seats v.did h → seat.seen ≡ seen_of m h
sees_in members m seats v seat h is st = (tells_now members m seats v seat is).sees ∙ ap (seen_of m) (sym st.same) ∙ seen_only m h

-- and of its share
pub own_share_in : (members m i : ℕ) (shape : Shape) (seats : List MemberSeat) (v : View) (seat : MemberSeat) (h : List Event) → IsMemberOf members m seats v seat → seat.seen.current ≡ Some (i, shape) → StandsForAll members seats v.did h → open_share m h ≡ Some (i, shape)
own_share_in members m i shape seats v seat h is current st = sym (ap (λ (s : Seen). s.current) (sees_in members m seats v seat h is st)) ∙ current

-- and of the number of that share
pub own_number_in : (members m i : ℕ) (shape : Shape) (seats : List MemberSeat) (v : View) (seat : MemberSeat) (h : List Event) → IsMemberOf members m seats v seat → seat.seen.current ≡ Some (i, shape) → StandsForAll members seats v.did h → open_number m h ≡ i
own_number_in members m i shape seats v seat h is current st = ap share_number (own_share_in members m i shape seats v seat h is current st)

-- a call that does nothing leaves the value as it was
pub unchanged_view : (members : ℕ) (seats : List MemberSeat) (v now : View) (view : AllView) → ◌≡◌ {A = AllView} (record { members = members; seats = seats; did = v.did }) view → now ≡ v → ◌≡◌ {A = AllView} (record { members = members; seats = seats; did = now.did }) view
unchanged_view members seats v now view is same = ap (λ (w : View). record { members = members; seats = seats; did = w.did }) same ∙ is

-- A new team

-- what is kept of a new member says that it has done nothing
new_tells : (members m : ℕ) (first seat : MemberSeat) → first.seen ≡ unseen → first ≡ seat → SeatTells members m seat []
new_tells members m first seat new same = record {
  sees = ap (λ (s : MemberSeat). s.seen) (sym same) ∙ new;
  own_is = λ share at. absurd (outside share at);
  number_is = λ share piece at. absurd (outside share at);
  plan_is = λ share at. absurd (outside share at);
}
  where
    outside : (share : ℕ × Shape) → seat.seen.current ≡ Some share → ⊥
    outside share at = none-some share (sym (ap (λ (s : Seen). s.current) (ap (λ (s : MemberSeat). s.seen) (sym same) ∙ new)) ∙ at)

-- a number of a range stands among its numbers
number_is_among : (first count m : ℕ) → first ≤ m → m < first + count → contains m (numbers_from first count) ≡ true
number_is_among first zero m le lt = absurd (omega arith)
number_is_among first (suc count) m le lt = elim (eqb_tells first m) [
  | inl e ↦ rw (e.1, same_number m) refl
  | inr e ↦ or_right (first == m) (contains m (numbers_from (suc first) count)) (number_is_among (suc first) count m (let other = e.1 in omega arith) (omega arith))
]

-- so the seats of a new team are as its first view says
pub new_team : (members : ℕ) (first : MemberSeat) (seats : List MemberSeat) (v : View) → 0 < members → first.seen ≡ unseen → seats ≡ replicate members first → v ≡ first_view (record { members = members }) → IsAll members seats v
new_team members first seats v some new same is = rw (is, same) (record {
  size = length-replicate members first;
  some_member = some;
  alone = refl;
  idle = refl;
  whose = λ m lt. number_is_among 0 members m (omega arith) (omega arith);
  rule = tt;
  clean = refl;
  tells = λ m seat at.
      let lt : m < members = rw (length-replicate members first) at (slice_get_within _ m seat at) in
      let one : first ≡ seat = sym (get_or-replicate members m first seat lt) ∙ get_or_from_slice_get (replicate members first) m seat seat at in
      new_tells members m first seat new one;
  valid = λ m share at. absurd (none-some share at);
})

-- and stand for no events
pub nothing_stands : (members : ℕ) (seats : List MemberSeat) (v : View) → IsAll members seats v → v.did ≡ [] → StandsForAll members seats v.did []
nothing_stands members seats v all none = stands_by_seats members seats v [] all (sym none) tt
