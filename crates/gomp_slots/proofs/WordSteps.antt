-- What the steps have in common: an event of a member, beside one write to the gate or the turn of its share, or beside none.
use Rattle.std.proofs.Common.{◌≡◌, ◌≢◌, ℕ, ◌+◌, ◌-◌, true, List, ◌∷◌, set, Option, Some, None, inl, inr, refl, ap, sym, ◌∙◌, subst, slice_index}
use Rattle.std.specs.Prelude.{nat_lt}
use Rattle.std.proofs.lemmas.List.{set-get_or}
use mathlib.Core.Option.{some}
use lib.ListN.{get_elem?}
use Rattle.atomic_table.specs.Table.{State, Me, Allows, stepped, keeps}
use Rattle.atomic_table.proofs.Lists.{set_again}
use Rattle.gomp_types.specs.declared.limits.TheConstants.{OPEN_SHARES}
use Rattle.gomp_types.specs.declared.shape.Shape.{Shape}
use Rattle.gomp_events.specs.declared.event.Event.{Event}
use Rattle.gomp_events.specs.Events.{open_share, shape_at, has_room, is_over, member_of, turn}
use Rattle.gomp_types.specs.Deals.{schedule}
use Rattle.gomp_events.specs.Seen.{seen_of}
use Rattle.gomp_types.proofs.Booleans.{or_tells, or_left, or_right}
use Rattle.gomp_shares.specs.Only.{shares_only}
use Rattle.gomp_shares.specs.Rules.{ShareRule}
use Rattle.gomp_shares.proofs.OwnEvents.{seen_own}
use Rattle.gomp_shares.proofs.SharesOver.{inside_is_open, over_stays}
use Rattle.gomp_slots.specs.declared.view.TeamSize.{TeamSize}
use Rattle.gomp_slots.specs.declared.view.View.{View}
use Rattle.gomp_slots.specs.Words.{gate_at, gate_of, BusySlot, IsCurrent}
use Rattle.gomp_slots.specs.Rule.{LearnsOnce, IsTeam, IsOpening, stands_for, Knows, AreSeats, IsRing, IsKept}
use Rattle.gomp_slots.proofs.SlotShares.{open_is_current}
use Rattle.gomp_slots.proofs.Tables.{SameShapes, table_still, table_gate, table_turn}
use Rattle.gomp_slots.proofs.SeatViews.{seats_act}

-- what a member sees of its place, its seat knows
pub seat_sees : (m : ℕ) (v : View) (h : List Event) → Knows v h → stands_for v m ≡ true → seen_of m v.did ≡ seen_of m h
seat_sees m v h mine stands = sym (seen_own m v.did) ∙ ap (seen_of m) (mine.own m stands) ∙ seen_own m h

-- the share of a member is that of its slot
pub inside_is_current : (members m i : ℕ) (shape : Shape) (words : List ℕ) (views : List View) (h : List Event) (busy : Option BusySlot) → IsRing members words views h busy → open_share m h ≡ Some (i, shape) → IsCurrent i shape h busy
inside_is_current members m i shape words views h busy ring inside =
    let o = inside_is_open (schedule members) members m i shape h ring.team.rule inside in
    open_is_current members i shape h busy ring.team ring.opening o.0 o.1

room_remains : (members i : ℕ) (event : Event) (h : List Event) → has_room members i h ≡ true → has_room members i (event ∷ h) ≡ true
room_remains members i event h room = elim (or_tells (nat_lt i OPEN_SHARES) (is_over members (i - OPEN_SHARES) h) room) [
  | inl low ↦ or_left (nat_lt i OPEN_SHARES) (is_over members (i - OPEN_SHARES) (event ∷ h)) low
  | inr over ↦ or_right (nat_lt i OPEN_SHARES) (is_over members (i - OPEN_SHARES) (event ∷ h)) (over_stays members (i - OPEN_SHARES) event h over)
]

-- an event of the member, of the work-shares, that keeps their rule, changes no shape, and tells the member nothing twice
pub record IsMemberStep (members m : ℕ) (event : Event) (h : List Event) : Type 0 where
  pub who : member_of event ≡ m
  pub rule : ShareRule (schedule members) members event h
  pub once : LearnsOnce members event h
  pub own : shares_only (event ∷ h) ≡ event ∷ shares_only h
  pub shapes : SameShapes (event ∷ h) h

team_act : (members m : ℕ) (event : Event) (h : List Event) → IsTeam members h → IsMemberStep members m event h → IsTeam members (event ∷ h)
team_act members m event h team ours = record {
  some_member = team.some_member;
  few_members = team.few_members;
  rule = (ours.rule, team.rule);
  once = (ours.once, team.once);
  clean = ours.own ∙ ap (λ (rest : List Event). event ∷ rest) team.clean;
  shapes = λ i shape at. team.shapes i shape (sym (ours.shapes i) ∙ at);
}

opening_act : (members m : ℕ) (event : Event) (h : List Event) (busy : Option BusySlot) → IsOpening members h busy → IsMemberStep members m event h → IsOpening members (event ∷ h) busy
opening_act members m event h busy opening ours = record {
  fresh = λ b e. ours.shapes b.share ∙ opening.fresh b e;
  room = λ b e. room_remains members b.share event h (opening.room b e);
  few = opening.few;
  reached = λ b e j lt. let was = opening.reached b e j lt in (was.0, ours.shapes j ∙ was.1);
}

seats_after : (members id m : ℕ) (event : Event) (words : List ℕ) (views : List View) (v : View) (h : List Event) (busy : Option BusySlot) → IsRing members words views h busy → get_elem? views id ≡ some v → stands_for v m ≡ true → IsMemberStep members m event h →
    AreSeats (set views id (record v { did = event ∷ v.did; found = None })) (event ∷ h) busy
seats_after members id m event words views v h busy ring at stands ours =
    seats_act id m event views v (record v { did = event ∷ v.did; found = None }) h busy ring.seats at stands ours.who (λ i shape e. ours.shapes i ∙ e) refl

-- no word changes
pub ring_still : (members id m : ℕ) (event : Event) (words : List ℕ) (views : List View) (v : View) (h : List Event) (busy : Option BusySlot) → IsRing members words views h busy → get_elem? views id ≡ some v → stands_for v m ≡ true → IsMemberStep members m event h →
    ((j : ℕ) (s : Shape) → shape_at j h ≡ Some s → gate_of members j s (event ∷ h) ≡ gate_of members j s h) → ((j : ℕ) → turn j (event ∷ h) ≡ turn j h) →
    IsRing members words (set views id (record v { did = event ∷ v.did; found = None })) (event ∷ h) busy
ring_still members id m event words views v h busy ring at stands ours gates turns = record {
  team = team_act members m event h ring.team ours;
  table = table_still members words h (event ∷ h) busy ring.table ours.shapes gates turns;
  opening = opening_act members m event h busy ring.opening ours;
  seats = seats_after members id m event words views v h busy ring at stands ours;
}

-- the gate of its share
pub ring_gate : (members id m i x : ℕ) (shape : Shape) (event : Event) (words : List ℕ) (views : List View) (v : View) (h : List Event) (busy : Option BusySlot) → IsRing members words views h busy → get_elem? views id ≡ some v → stands_for v m ≡ true → IsMemberStep members m event h → open_share m h ≡ Some (i, shape) →
    ((j : ℕ) (s : Shape) → j ≢ i → gate_of members j s (event ∷ h) ≡ gate_of members j s h) → ((j : ℕ) → turn j (event ∷ h) ≡ turn j h) → x ≡ gate_of members i shape (event ∷ h) →
    IsRing members (set words (gate_at i) x) (set views id (record v { did = event ∷ v.did; found = None })) (event ∷ h) busy
ring_gate members id m i x shape event words views v h busy ring at stands ours inside gates turns is = record {
  team = team_act members m event h ring.team ours;
  table = table_gate members i shape words h (event ∷ h) busy x ring.team ring.opening ring.table (inside_is_current members m i shape words views h busy ring inside) ours.shapes gates turns is;
  opening = opening_act members m event h busy ring.opening ours;
  seats = seats_after members id m event words views v h busy ring at stands ours;
}

-- its turn
pub ring_turn : (members id m i x : ℕ) (shape : Shape) (event : Event) (words : List ℕ) (views : List View) (v : View) (h : List Event) (busy : Option BusySlot) → IsRing members words views h busy → get_elem? views id ≡ some v → stands_for v m ≡ true → IsMemberStep members m event h → open_share m h ≡ Some (i, shape) →
    ((j : ℕ) (s : Shape) → gate_of members j s (event ∷ h) ≡ gate_of members j s h) → ((j : ℕ) → j ≢ i → turn j (event ∷ h) ≡ turn j h) → x ≡ turn i (event ∷ h) →
    IsRing members (set words (gate_at i + 5) x) (set views id (record v { did = event ∷ v.did; found = None })) (event ∷ h) busy
ring_turn members id m i x shape event words views v h busy ring at stands ours inside gates turns is = record {
  team = team_act members m event h ring.team ours;
  table = table_turn members i shape words h (event ∷ h) busy x ring.team ring.opening ring.table (inside_is_current members m i shape words views h busy ring inside) ours.shapes gates turns is;
  opening = opening_act members m event h busy ring.opening ours;
  seats = seats_after members id m event words views v h busy ring at stands ours;
}

-- a word that is written as it was
pub written_again : (words : List ℕ) (w : ℕ) → set words w (slice_index words w) ≡ words
written_again words w = set-get_or words w 0

-- the team's number of members is that which the caller names
pub ring_again : (members : ℕ) (team : TeamSize) (words then_words : List ℕ) (views then_views : List View) (h : List Event) (busy : Option BusySlot) → team.members ≡ members → then_words ≡ words → then_views ≡ views → IsRing members words views h busy → IsRing team.members then_words then_views h busy
ring_again members team words then_words views then_views h busy same same_words same_views ring =
    subst (λ (n : ℕ). IsRing n then_words then_views h busy) (sym same)
    (subst (λ (ws : List ℕ). IsRing members ws then_views h busy) (sym same_words)
    (subst (λ (vs : List View). IsRing members words vs h busy) (sym same_views) ring))

pub ring_of_size : (members : ℕ) (team : TeamSize) (words : List ℕ) (views : List View) (h : List Event) (busy : Option BusySlot) → team.members ≡ members → IsRing team.members words views h busy → IsRing members words views h busy
ring_of_size members team words views h busy same ring = subst (λ (n : ℕ). IsRing n words views h busy) same ring

-- the rule after a step that writes the word as it was and leaves the view
pub kept_still : (id w : ℕ) (carried : List (ℕ × Shape)) (v : View) (team : TeamSize) (s : State Shape View) → IsKept team s → get_elem? s.views id ≡ some v → IsKept team (stepped s w (slice_index s.words w) id carried v keeps)
kept_still id w carried v team s kept at = record {
  events = kept.events;
  busy = kept.busy;
  ring = ring_again team.members team s.words (set s.words w (slice_index s.words w)) s.views (set s.views id v) kept.events kept.busy refl (written_again s.words w) (set_again s.views id v at) kept.ring;
}

-- and after one that changes the view
pub kept_acted : (members id w : ℕ) (carried : List (ℕ × Shape)) (u : View) (team : TeamSize) (s : State Shape View) (h : List Event) (busy : Option BusySlot) → team.members ≡ members → IsRing members s.words (set s.views id u) h busy → IsKept team (stepped s w (slice_index s.words w) id carried u keeps)
kept_acted members id w carried u team s h busy same ring = record {
  events = h;
  busy = busy;
  ring = ring_again members team s.words (set s.words w (slice_index s.words w)) (set s.views id u) (set s.views id u) h busy same (written_again s.words w) refl ring;
}

-- a step on the word that a call has computed
pub at_word : (holds : State Shape View → Type 0) (slots id : ℕ) (me : Me Shape View) (w k : ℕ) (f : ℕ → ℕ) (tells : ℕ → Me Shape View → Type 0) → w ≡ k → Allows holds slots id me k f tells → Allows holds slots id me w f tells
at_word holds slots id me w k f tells e allowed = subst (λ (n : ℕ). Allows holds slots id me n f tells) (sym e) allowed
