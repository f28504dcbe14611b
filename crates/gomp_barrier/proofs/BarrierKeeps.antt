-- The barrier stays in step with the events.
use Rattle.std.proofs.Common.{◌≡◌, ◌≢◌, ℕ, ◌+◌, ◌<◌, ◌≤◌, Bool, true, false, not, List, ◌∷◌, Some, None, length, slice_get, slice_set, get_or, refl, ap, ◌∙◌, sym, subst, arith, inl, inr}
use Rattle.std.specs.Prelude.{◌==◌, ◌&&◌, ◌||◌, if◌then◌else◌, is_some, All}
use Rattle.std.proofs.lemmas.Bool.Decides.{eqb_tells}
use Rattle.std.proofs.lemmas.Bool.{cases_Bool}
use Rattle.std.proofs.lemmas.Option.{slice_get-get_or, slice_get_within, get_or_from_slice_get}
use Rattle.gomp_events.specs.declared.event.Tag.{Tag}
use Rattle.gomp_events.specs.declared.event.Event.{Event}
use Rattle.gomp_events.specs.declared.event.Event.TheVariants.{Arrive, Pass}
use Rattle.gomp_events.specs.Events.{barriers_passed, arrival, tag_at, at_region_end, has_left_region, is_region_end, all_arrived}
use Rattle.gomp_types.specs.Limits.{shown_number}
use Rattle.gomp_events.specs.Cancels.{is_cancelled}
use Rattle.gomp_types.proofs.Booleans.{same_number, other_number, every_tells, every_by}
use Rattle.gomp_types.proofs.Lists.{slice_get-set}
use Rattle.gomp_events.proofs.TaskReadings.{pass_counts_its_own}
use Rattle.gomp_barrier.proofs.BoundKeeps.{odd_next}
use Rattle.gomp_barrier.specs.declared.front.BarrierSeat.{BarrierSeat}
use Rattle.gomp_barrier.specs.declared.front.Front.{Front}
use Rattle.gomp_barrier.specs.Seats.{differ, is_ahead, tag_for, number_for, IsThere, arrived_at, next_front, barrier_of, SeatStands, FrontStands, SomeBehind}

-- What an arrival and a pass add

arrival_same : (g m : ℕ) (tag : Tag) (h : List Event) → arrival g m (Arrive g m tag ∷ h) ≡ Some tag
arrival_same g m tag h = rw (same_number g, same_number m) refl

arrival_elsewhere : (g n m : ℕ) (tag : Tag) (h : List Event) → n ≢ g → arrival g m (Arrive n m tag ∷ h) ≡ arrival g m h
arrival_elsewhere g n m tag h other = rw (other_number n g other) refl

arrival_other : (g n m k : ℕ) (tag : Tag) (h : List Event) → m ≢ k → arrival g k (Arrive n m tag ∷ h) ≡ arrival g k h
arrival_other g n m k tag h other = and_other (n == g) (m == k) (other_number m k other)
  where
    and_other : (a b : Bool) → b ≡ false → (if a && b then Some tag else arrival g k h) ≡ arrival g k h
    and_other true b e = rw e refl
    and_other false b e = refl

tag_same : (g m : ℕ) (tag : Tag) (h : List Event) → tag_at g (Arrive g m tag ∷ h) ≡ Some tag
tag_same g m tag h = rw (same_number g) refl

tag_elsewhere : (g n m : ℕ) (tag : Tag) (h : List Event) → n ≢ g → tag_at g (Arrive n m tag ∷ h) ≡ tag_at g h
tag_elsewhere g n m tag h other = rw (other_number n g other) refl

-- in a region that is not cancelled no member is gone from it
pub not_gone_yet : (front : Front) (least m : ℕ) (member : BarrierSeat) (h : List Event) → is_cancelled h ≡ false → SeatStands front least m member h → member.gone ≡ false
not_gone_yet front least m member h whole p = elim (cases_Bool member.gone) [
  | inl gone ↦ absurd (let cancelled = (p.gone_is gone).0 in cc)
  | inr e ↦ e
]

-- nor one that has not left it
pub stays_here : (front : Front) (least m : ℕ) (member : BarrierSeat) (h : List Event) → member.left ≡ false → SeatStands front least m member h → member.gone ≡ false
stays_here front least m member h stays p = elim (cases_Bool member.gone) [
  | inl gone ↦ absurd (let left = (p.gone_is gone).1 in cc)
  | inr e ↦ e
]

-- where a member's tag stands
pub tag_is : (members : List BarrierSeat) (front : Front) (least : ℕ) (member : BarrierSeat) (h : List Event) → FrontStands members front least h → tag_at (barrier_of front least member) h ≡ tag_for front member
tag_is members front least member h st = by member.gone (is_ahead front member)
  where
    by : (gone ahead : Bool) → tag_at (if gone then (if ahead then least + 2 else least + 1) else if ahead then least + 1 else least) h ≡ (if gone then (if ahead then None else front.next) else if ahead then front.next else front.tag)
    by true true = st.beyond (least + 2) (omega arith)
    by true false = st.next
    by false true = st.next
    by false false = st.tag

shown_next : (n : ℕ) → shown_number (shown_number n + 1) ≡ shown_number (n + 1)
shown_next n = omega arith

shown_second : (n : ℕ) → shown_number (shown_number n + 2) ≡ shown_number (n + 2)
shown_second n = omega arith

pub number_is : (members : List BarrierSeat) (front : Front) (least : ℕ) (member : BarrierSeat) (h : List Event) → FrontStands members front least h → number_for front member ≡ shown_number (barrier_of front least member)
number_is members front least member h st = by member.gone (is_ahead front member)
  where
    by : (gone ahead : Bool) → (if gone then (if ahead then shown_number (front.number + 2) else shown_number (front.number + 1)) else if ahead then shown_number (front.number + 1) else front.number) ≡
        shown_number (if gone then (if ahead then least + 2 else least + 1) else if ahead then least + 1 else least)
    by true true = ap (λ n. shown_number (n + 2)) st.number ∙ shown_second least
    by true false = ap (λ n. shown_number (n + 1)) st.number ∙ shown_next least
    by false true = ap (λ n. shown_number (n + 1)) st.number ∙ shown_next least
    by false false = st.number

-- An arrival

-- a member that arrives at its next barrier
own_arrives : (front after_front : Front) (least m : ℕ) (member after : BarrierSeat) (tag : Tag) (h : List Event) → SeatStands front least m member h → after.odd ≡ member.odd → after.arrived ≡ Some tag → after.left ≡ member.left → after.gone ≡ member.gone →
    after_front.odd ≡ front.odd → SeatStands after_front least m after (Arrive (barrier_of front least member) m tag ∷ h)
own_arrives front after_front least m member after tag h p odd arrived left gone turn =
    let same : barrier_of after_front least after ≡ barrier_of front least member = rw (odd, turn, gone) refl in
    record {
      passed_is = p.passed_is ∙ sym same;
      here = subst (λ n. arrival n m (Arrive (barrier_of front least member) m tag ∷ h) ≡ after.arrived) (sym same) (arrival_same (barrier_of front least member) m tag h ∙ sym arrived);
      behind = λ g lt. let below : g < barrier_of front least member = subst (λ n. g < n) same lt in
          rw (arrival_elsewhere g (barrier_of front least member) m tag h (λ e. omega arith)) (p.behind g below);
      beyond = λ g lt. let above : barrier_of front least member < g = subst (λ n. n < g) same lt in
          arrival_elsewhere g (barrier_of front least member) m tag h (λ e. omega arith) ∙ p.beyond g above;
      left_is = p.left_is ∙ sym left;
      gone_is = λ e. let was = p.gone_is (sym gone ∙ e) in (was.0, left ∙ was.1);
    }

-- another member's seat
other_arrives : (front after_front : Front) (least n m k : ℕ) (member : BarrierSeat) (tag : Tag) (h : List Event) → SeatStands front least k member h → m ≢ k → after_front.odd ≡ front.odd →
    SeatStands after_front least k member (Arrive n m tag ∷ h)
other_arrives front after_front least n m k member tag h p other turn =
    let same : barrier_of after_front least member ≡ barrier_of front least member = rw turn refl in
    record {
      passed_is = p.passed_is ∙ sym same;
      here = subst (λ b. arrival b k (Arrive n m tag ∷ h) ≡ member.arrived) (sym same) (arrival_other (barrier_of front least member) n m k tag h other ∙ p.here);
      behind = λ g lt. rw (arrival_other g n m k tag h other) (p.behind g (subst (λ b. g < b) same lt));
      beyond = λ g lt. arrival_other g n m k tag h other ∙ p.beyond g (subst (λ b. b < g) same lt);
      left_is = p.left_is;
      gone_is = p.gone_is;
    }

pub turn_arrived : (front : Front) (member : BarrierSeat) (tag : Tag) → (arrived_at front member tag).odd ≡ front.odd
turn_arrived front member tag = by_ahead (is_ahead front member)
  where
    by_ahead : (ahead : Bool) → (let after : Front = if ahead then record { odd = front.odd; number = front.number; tag = front.tag; next = Some tag } else record { odd = front.odd; number = front.number; tag = Some tag; next = front.next } in after.odd) ≡ front.odd
    by_ahead true = refl
    by_ahead false = refl

-- the front's tags after an arrival
record Tagged (front : Front) (least : ℕ) (h : List Event) : Type 0 where
  number : front.number ≡ shown_number least
  tag : tag_at least h ≡ front.tag
  next : tag_at (least + 1) h ≡ front.next
  beyond : (g : ℕ) → least + 2 ≤ g → tag_at g h ≡ None

tagged_after_arrival : (front : Front) (member : BarrierSeat) (least m : ℕ) (tag : Tag) (h : List Event) → member.gone ≡ false → Tagged front least h → Tagged (arrived_at front member tag) least (Arrive (barrier_of front least member) m tag ∷ h)
tagged_after_arrival front member least m tag h here t =
    let same : barrier_of front least member ≡ (if is_ahead front member then least + 1 else least) = rw here refl in
    subst (λ (b : ℕ). Tagged (arrived_at front member tag) least (Arrive b m tag ∷ h)) (sym same) (by_ahead (is_ahead front member))
  where
    by_ahead : (ahead : Bool) → Tagged (if ahead then record { odd = front.odd; number = front.number; tag = front.tag; next = Some tag } else record { odd = front.odd; number = front.number; tag = Some tag; next = front.next }) least (Arrive (if ahead then least + 1 else least) m tag ∷ h)
    by_ahead true = record {
      number = t.number;
      tag = tag_elsewhere least (least + 1) m tag h (λ e. omega arith) ∙ t.tag;
      next = tag_same (least + 1) m tag h;
      beyond = λ g le. tag_elsewhere g (least + 1) m tag h (λ e. omega arith) ∙ t.beyond g le;
    }
    by_ahead false = record {
      number = t.number;
      tag = tag_same least m tag h;
      next = tag_elsewhere (least + 1) least m tag h (λ e. omega arith) ∙ t.next;
      beyond = λ g le. tag_elsewhere g least m tag h (λ e. omega arith) ∙ t.beyond g le;
    }

pub arrival_keeps_the_front : (members : List BarrierSeat) (front : Front) (least m : ℕ) (member after : BarrierSeat) (tag : Tag) (h : List Event) → FrontStands members front least h → slice_get members m ≡ Some member →
    member.gone ≡ false → after.odd ≡ member.odd → after.arrived ≡ Some tag → after.left ≡ member.left → after.gone ≡ member.gone →
    FrontStands (slice_set members m after) (arrived_at front member tag) least (Arrive (barrier_of front least member) m tag ∷ h)
arrival_keeps_the_front members front least m member after tag h st at here odd arrived left gone =
    let t = tagged_after_arrival front member least m tag h here (record { number = st.number; tag = st.tag; next = st.next; beyond = st.beyond }) in
    let turn = turn_arrived front member tag in
    record {
      parity = turn ∙ st.parity;
      number = t.number;
      tag = t.tag;
      next = t.next;
      beyond = t.beyond;
      seat = λ k other at_k. elim (slice_get-set members m k after other at_k) [
        | inl e ↦ rw (e.0, e.1) (own_arrives front (arrived_at front member tag) least m member after tag h (st.seat m member at) odd arrived left gone turn)
        | inr e ↦ other_arrives front (arrived_at front member tag) least (barrier_of front least member) m k other tag h (st.seat k other e.1) (λ same. e.0 (sym same)) turn
      ];
    }

-- A pass

passed_other : (g m k : ℕ) (h : List Event) → m ≢ k → barriers_passed k (Pass g m ∷ h) ≡ barriers_passed k h
passed_other g m k h other = rw (other_number m k other) refl

left_other : (g m k : ℕ) (h : List Event) → m ≢ k → has_left_region k (Pass g m ∷ h) ≡ has_left_region k h
left_other g m k h other = rw (other_number m k other) refl

left_own : (g m : ℕ) (tag : Tag) (left : Bool) (h : List Event) → at_region_end m h ≡ (left || is_region_end tag.kind) → has_left_region m h ≡ left → has_left_region m (Pass g m ∷ h) ≡ (left || is_region_end tag.kind)
left_own g m tag left h came is = rw (same_number m, came, is) (or_again left (is_region_end tag.kind))
  where
    or_again : (a b : Bool) → ((a || b) || a) ≡ (a || b)
    or_again true b = refl
    or_again false true = refl
    or_again false false = refl

differs_once_flipped : (front : Front) (member : BarrierSeat) → differ (not member.odd) front.odd ≡ not (is_ahead front member)
differs_once_flipped front member = by (member.odd) (front.odd)
  where
    by : (a b : Bool) → differ (not a) b ≡ not (differ a b)
    by true true = refl
    by true false = refl
    by false true = refl
    by false false = refl

-- a member behind the front is ahead once it has passed
pub next_behind : (front : Front) (least : ℕ) (member after : BarrierSeat) → is_ahead front member ≡ false → member.gone ≡ false → after.odd ≡ not member.odd → after.gone ≡ false → barrier_of front least after ≡ barrier_of front least member + 1
next_behind front least member after behind here odd still =
    let before : barrier_of front least member ≡ least = rw (here, behind) refl in
    let now : is_ahead front after ≡ true = rw odd (differs_once_flipped front member ∙ ap not behind) in
    let next : barrier_of front least after ≡ least + 1 = rw (still, now) refl in
    next ∙ ap (λ (n : ℕ). n + 1) (sym before)

-- one that is gone from the region comes after the barrier that it passed
pub next_gone : (front : Front) (least : ℕ) (member after : BarrierSeat) → member.gone ≡ false → after.odd ≡ member.odd → after.gone ≡ true → barrier_of front least after ≡ barrier_of front least member + 1
next_gone front least member after here odd gone = rw (here, gone, odd) (by (is_ahead front member))
  where
    by : (ahead : Bool) → (if ahead then least + 2 else least + 1) ≡ (if ahead then least + 1 else least) + 1
    by true = omega arith
    by false = omega arith

-- a member passes its next barrier
own_passes : (front : Front) (least m : ℕ) (member after : BarrierSeat) (tag : Tag) (h : List Event) → at_region_end m h ≡ (member.left || is_region_end tag.kind) → SeatStands front least m member h → barrier_of front least after ≡ barrier_of front least member + 1 → member.arrived ≡ Some tag →
    after.arrived ≡ None → after.left ≡ (member.left || is_region_end tag.kind) → (after.gone ≡ true → (is_cancelled h ≡ true) × (after.left ≡ true)) → SeatStands front least m after (Pass (barrier_of front least member) m ∷ h)
own_passes front least m member after tag h came p next arrived none left gone =
    let here : arrival (barrier_of front least member) m h ≡ Some tag = p.here ∙ arrived in
    record {
      passed_is = pass_counts_its_own (barrier_of front least member) m h ∙ ap (λ (n : ℕ). n + 1) p.passed_is ∙ sym next;
      here = subst (λ b. arrival b m h ≡ after.arrived) (sym next) (p.beyond (barrier_of front least member + 1) (omega arith) ∙ sym none);
      behind = λ g lt. elim (eqb_tells g (barrier_of front least member)) [
        | inl e ↦ ap (λ n. is_some (arrival n m h)) e.1 ∙ ap is_some here
        | inr e ↦ p.behind g (let below : g < barrier_of front least member + 1 = subst (λ b. g < b) next lt in omega (arith, e.1, below))
      ];
      beyond = λ g lt. p.beyond g (let above : barrier_of front least member + 1 < g = subst (λ b. b < g) next lt in omega (arith, above));
      left_is = left_own (barrier_of front least member) m tag member.left h came p.left_is ∙ sym left;
      gone_is = gone;
    }

other_passes : (front : Front) (least g m k : ℕ) (member : BarrierSeat) (h : List Event) → SeatStands front least k member h → m ≢ k → SeatStands front least k member (Pass g m ∷ h)
other_passes front least g m k member h p other = record {
  passed_is = passed_other g m k h other ∙ p.passed_is;
  here = p.here;
  behind = p.behind;
  beyond = p.beyond;
  left_is = left_other g m k h other ∙ p.left_is;
  gone_is = p.gone_is;
}

pub pass_keeps_the_front : (members : List BarrierSeat) (front : Front) (least m : ℕ) (member after : BarrierSeat) (tag : Tag) (h : List Event) → at_region_end m h ≡ (member.left || is_region_end tag.kind) → FrontStands members front least h → slice_get members m ≡ Some member →
    barrier_of front least after ≡ barrier_of front least member + 1 → member.arrived ≡ Some tag → after.arrived ≡ None → after.left ≡ (member.left || is_region_end tag.kind) → (after.gone ≡ true → (is_cancelled h ≡ true) × (after.left ≡ true)) →
    FrontStands (slice_set members m after) front least (Pass (barrier_of front least member) m ∷ h)
pass_keeps_the_front members front least m member after tag h came st at next arrived none left gone = record {
  parity = st.parity;
  number = st.number;
  tag = st.tag;
  next = st.next;
  beyond = st.beyond;
  seat = λ k other at_k. elim (slice_get-set members m k after other at_k) [
    | inl e ↦ rw (e.0, e.1) (own_passes front least m member after tag h came (st.seat m member at) next arrived none left gone)
    | inr e ↦ other_passes front least (barrier_of front least member) m k other h (st.seat k other e.1) (λ same. e.0 (sym same))
  ];
}

-- The front moves on once all have passed it

not_ahead_once_advanced : (front : Front) (member : BarrierSeat) → is_ahead front member ≡ true → is_ahead (next_front front) member ≡ false
not_ahead_once_advanced front member e = by member.odd front.odd e
  where
    by : (a b : Bool) → differ a b ≡ true → differ a (not b) ≡ false
    by true true e = absurd (cc)
    by true false e = refl
    by false true e = refl
    by false false e = absurd (cc)

all_at : (front : Front) (members : List BarrierSeat) (m : ℕ) (member : BarrierSeat) → All (λ x. is_ahead front x ≡ true) members → slice_get members m ≡ Some member → is_ahead front member ≡ true
all_at front members m member all at = rw (get_or_from_slice_get members m member member at) at (all m member (slice_get_within members m member at))

pub moves_on : (members : List BarrierSeat) (front : Front) (least : ℕ) (h : List Event) → is_cancelled h ≡ false → FrontStands members front least h → All (λ x. is_ahead front x ≡ true) members → FrontStands members (next_front front) (least + 1) h
moves_on members front least h whole st all = record {
  parity = ap not st.parity ∙ sym (odd_next least);
  number = ap (λ n. shown_number (n + 1)) st.number ∙ shown_next least;
  tag = st.next;
  next = st.beyond (least + 1 + 1) (omega arith);
  beyond = λ g le. st.beyond g (omega arith);
  seat = λ m member at.
      let p = st.seat m member at in
      let here = not_gone_yet front least m member h whole p in
      let ahead = all_at front members m member all at in
      let before : barrier_of front least member ≡ least + 1 = rw (here, ahead) refl in
      let after : barrier_of (next_front front) (least + 1) member ≡ least + 1 = rw (here, not_ahead_once_advanced front member ahead) refl in
      record {
        passed_is = p.passed_is ∙ before ∙ sym after;
        here = subst (λ b. arrival b m h ≡ member.arrived) (before ∙ sym after) p.here;
        behind = λ g lt. p.behind g (subst (λ b. g < b) (after ∙ sym before) lt);
        beyond = λ g lt. p.beyond g (subst (λ b. b < g) (after ∙ sym before) lt);
        left_is = p.left_is;
        gone_is = p.gone_is;
      };
}

-- then some member is behind it
pub behind_again : (members : List BarrierSeat) (front : Front) (m : ℕ) (member : BarrierSeat) → slice_get members m ≡ Some member → All (λ x. is_ahead front x ≡ true) members → SomeBehind (next_front front) members
behind_again members front m member at all repeated =
    let ahead = all_at front members m member all at in
    let now = all_at (next_front front) members m member repeated at in
    let off = not_ahead_once_advanced front member ahead in cc

-- Whether a barrier is met

arrived_at_least : (front : Front) (least m : ℕ) (member : BarrierSeat) (h : List Event) → member.gone ≡ false → SeatStands front least m member h → is_some (arrival least m h) ≡ (is_ahead front member || is_some member.arrived)
arrived_at_least front least m member h stays p = by_ahead (is_ahead front member) refl
  where
    by_ahead : (ahead : Bool) → is_ahead front member ≡ ahead → is_some (arrival least m h) ≡ (ahead || is_some member.arrived)
    by_ahead true e = let same : barrier_of front least member ≡ least + 1 = rw (stays, e) refl in p.behind least (subst (λ b. least < b) (sym same) (omega arith))
    by_ahead false e = let same : barrier_of front least member ≡ least = rw (stays, e) refl in ap is_some (subst (λ b. arrival b m h ≡ member.arrived) same p.here)

-- who is at the front has arrived at every barrier up to it
pub there_before : (front : Front) (least x : ℕ) (member : BarrierSeat) (h : List Event) (g : ℕ) → is_cancelled h ≡ false → SeatStands front least x member h → IsThere front member → g ≤ least → is_some (arrival g x h) ≡ true
there_before front least x member h g whole p there le =
    elim (eqb_tells g least) [
      | inl e ↦ ap (λ (n : ℕ). is_some (arrival n x h)) e.1 ∙ arrived_at_least front least x member h (not_gone_yet front least x member h whole p) p ∙ there
      | inr e ↦ p.behind g (by member.gone (is_ahead front member) (omega (arith, e.1, le)))
    ]
  where
    by : (gone ahead : Bool) → g < least → g < (if gone then (if ahead then least + 2 else least + 1) else if ahead then least + 1 else least)
    by true true lt = omega (arith, lt)
    by true false lt = omega (arith, lt)
    by false true lt = omega (arith, lt)
    by false false lt = lt

pub met_by : (members : List BarrierSeat) (front : Front) (least : ℕ) (h : List Event) → is_cancelled h ≡ false → FrontStands members front least h → All (IsThere front) members → all_arrived (length members) least h ≡ true
met_by members front least h whole st all =
    every_by (length members) (λ m. is_some (arrival least m h)) (λ m lt.
    let none : BarrierSeat = record { odd = true; arrived = None; left = true; gone = false } in
    let at : slice_get members m ≡ Some (get_or members m none) = slice_get-get_or members m none lt in
    arrived_at_least front least m _ h (not_gone_yet front least m _ h whole (st.seat m _ at)) (st.seat m _ at) ∙ all m none lt)

pub met_all : (members : List BarrierSeat) (front : Front) (least : ℕ) (h : List Event) → is_cancelled h ≡ false → FrontStands members front least h → all_arrived (length members) least h ≡ true → All (IsThere front) members
met_all members front least h whole st met = λ m none lt.
    let at : slice_get members m ≡ Some (get_or members m none) = slice_get-get_or members m none lt in
    sym (arrived_at_least front least m _ h (not_gone_yet front least m _ h whole (st.seat m _ at)) (st.seat m _ at)) ∙ every_tells (length members) (λ x. is_some (arrival least x h)) m met lt

-- a member ahead of the front waits for those behind it
pub not_met_ahead : (members : List BarrierSeat) (front : Front) (least : ℕ) (h : List Event) → is_cancelled h ≡ false → FrontStands members front least h → SomeBehind front members → all_arrived (length members) (least + 1) h ≡ false
not_met_ahead members front least h whole st behind =
    elim (cases_Bool (all_arrived (length members) (least + 1) h)) [
      | inl met ↦ absurd (behind (λ m none lt.
          let at : slice_get members m ≡ Some (get_or members m none) = slice_get-get_or members m none lt in
          ahead_of m _ (st.seat m _ at) (every_tells (length members) (λ x. is_some (arrival (least + 1) x h)) m met lt)))
      | inr e ↦ e
    ]
  where
    ahead_of : (m : ℕ) (member : BarrierSeat) → SeatStands front least m member h → is_some (arrival (least + 1) m h) ≡ true → is_ahead front member ≡ true
    ahead_of m member p arrived_at_least =
        elim (cases_Bool (is_ahead front member)) [
          | inl e ↦ e
          | inr e ↦ absurd (let none : arrival (least + 1) m h ≡ None = (let same : barrier_of front least member ≡ least = rw (not_gone_yet front least m member h whole p, e) refl in p.beyond (least + 1) (subst (λ b. b < least + 1) (sym same) (omega arith))) in let off : is_some (arrival (least + 1) m h) ≡ false = rw none refl in cc)
        ]
