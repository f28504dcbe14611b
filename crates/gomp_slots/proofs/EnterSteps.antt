-- The steps by which a member looks at its next share, and enters it if another has opened it.
use Rattle.std.proofs.Common.{◌≡◌, ℕ, ◌+◌, ◌-◌, ◌*◌, ◌/◌, ◌%◌, ◌^◌, ◌<◌, ◌≤◌, Bool, true, false, List, ◌∷◌, set, Option, Some, None, ◌⊎◌, inl, inr, refl, ap, sym, ◌∙◌, subst, arith, slice_index}
use Rattle.std.specs.Prelude.{◌==◌, ◌||◌, nat_lt}
use Rattle.std.proofs.lemmas.Bool.{cases_Bool, cases_lt}
use Rattle.std.proofs.lemmas.Bool.Decides.{nat_tests}
use Rattle.std.proofs.lemmas.Option.{none-some, same_Some}
use mathlib.Core.Option.{some}
use lib.ListN.{get_elem?}
use Rattle.atomic_table.specs.Table.{Me, Act, Step, keeps, stepped, Allows, Valid, carried_after}
use Rattle.gomp_types.specs.declared.limits.TheConstants.{OPEN_SHARES}
use Rattle.gomp_types.specs.declared.shape.Shape.{Shape}
use Rattle.gomp_events.specs.declared.event.Event.{Event}
use Rattle.gomp_events.specs.declared.event.Event.TheVariants.{Enter}
use Rattle.gomp_events.specs.Events.{shares_entered, open_share, shape_at, has_room, is_over, has_ended}
use Rattle.gomp_types.specs.Deals.{schedule}
use Rattle.gomp_events.specs.Seen.{seen_of}
use Rattle.gomp_events.specs.declared.seen.Seen.{Seen}
use Rattle.gomp_types.proofs.Booleans.{is_equal, same_number, none_of, every_tells, not_both}
use Rattle.gomp_types.proofs.Dealing.{schedule_deals, pieces_tile_all}
use Rattle.gomp_shares.specs.Calls.{CanOpen}
use Rattle.gomp_shares.specs.Rules.{MayEnter}
use Rattle.gomp_shares.proofs.SharesOver.{next_is_open, eight_before}
use Rattle.gomp_shares.proofs.SharesKeep.{room_over}
use Rattle.gomp_gate.specs.Gates.{round_for, opening_word, holds_share, is_free_for, phase_of, round_of, left_of, phase_for, is_bare_single}
use Rattle.gomp_gate.specs.Shapes.{shape_word}
use Rattle.gomp_slots.specs.declared.view.TeamSize.{TeamSize}
use Rattle.gomp_slots.specs.declared.view.View.{View}
use Rattle.gomp_slots.specs.Words.{gate_at, left_count, BusySlot, IsCurrent, IsTable}
use Rattle.gomp_slots.specs.Rule.{IsTeam, Knows, AreSeats, IsRing, IsKept}
use Rattle.gomp_slots.specs.Premises.{IsBeforeShare}
use Rattle.gomp_slots.specs.Calls.{Acts, IsNextWord}
use Rattle.gomp_slots.specs.Plays.{LookStep, ReadStep, EnterStep}
use Rattle.gomp_slots.proofs.Counts.{count_every}
use Rattle.gomp_slots.proofs.SlotShares.{none_not_some, open_is_current, IsNextFree, next_slot, gate_is, round_before, current_holds, opening_phase, holds_is_current, free_may_take, has_share}
use Rattle.gomp_slots.proofs.Tables.{SameShapes}
use Rattle.gomp_slots.proofs.SeatViews.{view_at, seats_look}
use Rattle.gomp_slots.proofs.WordSteps.{seat_sees, ring_still, written_again, ring_again, ring_of_size, kept_still, kept_acted}
use Rattle.gomp_gate.proofs.Shapes.{phase_open}

pub entered_same : (members m i : ℕ) (v : View) (h : List Event) → Knows v h → IsBeforeShare members m i v → shares_entered m h ≡ i
entered_same members m i v h mine b = sym (ap (λ (x : Seen). x.entered) (seat_sees m v h mine b.stands)) ∙ b.next

-- beside a seat that was never split, and opens nothing, none opens anything
alone_idle : (id : ℕ) (v : View) (views : List View) (h : List Event) (busy : Option BusySlot) → AreSeats views h busy → get_elem? views id ≡ some v → v.alone ≡ true → v.opening ≡ None → (o : Option BusySlot) → busy ≡ o → o ≡ None
alone_idle id v views h busy seats at alone idle None e = refl
alone_idle id v views h busy seats at alone idle (Some b) e =
    let u = seats.opens b e in
    let same : id ≡ b.id = seats.lonely id b.id v u.0 at u.1 alone in
    let is : v ≡ u.0 = view_at views id b.id v u.0 at u.1 same in
    absurd (none-some b.shape (sym idle ∙ ap (λ (z : View). z.opening) is ∙ u.2))

-- the gate of a slot that nobody has taken for the share
free_gate : (members i : ℕ) (words : List ℕ) (h : List Event) (busy : Option BusySlot) → IsTable members words h busy → IsNextFree members i h busy → IsNextWord members i h (slice_index words (gate_at i))
free_gate members i words h busy table free = record {
  low = λ low. table.empty i low free.none free.idle;
  late = λ le. elim free.before [
    | inl low ↦ absurd (omega arith)
    | inr before ↦
        let eight : gate_at (i - 8) ≡ gate_at i = let e : (i - 8) % 8 ≡ i % 8 = (omega arith) in ap (λ (n : ℕ). 1 + 6 * n) e in
        (before.1.0, before.1.1.shape_is, sym (ap (slice_index words) eight) ∙ table.gates (i - 8) before.1.0 before.1.1)
  ];
}

next_gate : (members m i : ℕ) (words : List ℕ) (views : List View) (h : List Event) → (busy : Option BusySlot) → IsRing members words views h busy → busy ≡ None → m < members → shares_entered m h ≡ i → shape_at i h ≡ None → IsNextWord members i h (slice_index words (gate_at i))
next_gate members m i words views h busy ring idle lt number none =
    elim (next_slot members m i h busy ring.team ring.opening lt number) [
      | inl there ↦ absurd (none_not_some (shape_at i h) there.0 none there.1.shape_is)
      | inr other ↦ elim other [
        | inl taken ↦ absurd (none_not_some busy taken.0 idle taken.1)
        | inr free ↦ free_gate members i words h busy ring.table free
      ]
    ]

-- so a seat that was never split knows it
pub alone_gate : (members id m i : ℕ) (v : View) (words : List ℕ) (views : List View) (h : List Event) (busy : Option BusySlot) → IsRing members words views h busy → get_elem? views id ≡ some v → v.opening ≡ None → Knows v h → m < members → shares_entered m h ≡ i → v.alone ≡ true → shape_at i v.did ≡ None →
    IsNextWord members i v.did (slice_index words (gate_at i))
alone_gate members id m i v words views h busy ring at idle mine lt number alone none =
    let is : v.did ≡ h = mine.all alone in
    subst (λ (l : List Event). IsNextWord members i l (slice_index words (gate_at i))) (sym is)
    (next_gate members m i words views h busy ring (alone_idle id v views h busy ring.seats at alone idle busy refl) lt number (sym (ap (shape_at i) is) ∙ none))

low_is_free : (members i word : ℕ) → i < 8 → word ≡ 0 → is_free_for members i word ≡ true
low_is_free members i word lt e = let low : nat_lt i 8 ≡ true = grind (arith, nat_tests) in rw (low, e) refl

late_is_free : (members i word : ℕ) → 8 ≤ i → nat_lt 1 (phase_of word) ≡ true → round_of word ≡ i / 8 % 2 ^ 14 → left_of word ≡ members → is_free_for members i word ≡ true
late_is_free members i word le a b c =
    let high : nat_lt i 8 ≡ false = grind (arith, nat_tests) in
    rw (high, a, b, c, same_number (i / 8 % 2 ^ 14), same_number members) refl

-- by such a gate there is no room for the share if it does not say that the slot may be taken
no_room_by : (members i word : ℕ) (h : List Event) → IsTeam members h → IsNextWord members i h word → is_free_for members i word ≡ false → has_room members i h ≡ false
no_room_by members i word h team next full =
    elim (cases_Bool (has_room members i h)) [
      | inr off ↦ off
      | inl room ↦ absurd (elim (cases_lt i 8) [
        | inl low ↦ not_both _ (low_is_free members i word low (next.low low)) full
        | inr past ↦
            let le : 8 ≤ i = omega arith in
            let late = next.late le in
            let is = gate_is members (i - 8) late.0 h team late.1 in
            let over : is_over members (i - 8) h ≡ true = room_over members i (i - 8) h (omega arith) room in
            let all : left_count members (i - 8) h ≡ members = count_every members (λ k. has_ended (i - 8) k h) (λ k below. every_tells members (λ k. has_ended (i - 8) k h) k over below) in
            let left : left_of word ≡ members = ap left_of late.2 ∙ is.left_is ∙ all in
            let phase : nat_lt 1 (phase_of word) ≡ true = has_share (is_bare_single late.0) (phase_of word) (ap phase_of late.2 ∙ is.phase_is) in
            let round : round_of word ≡ i / 8 % 2 ^ 14 = ap round_of late.2 ∙ is.round_is ∙ round_before i le in
            not_both _ (late_is_free members i word le phase round left) full
      ])
    ]

no_room_left : (members m i : ℕ) (words : List ℕ) (views : List View) (h : List Event) → (busy : Option BusySlot) → IsRing members words views h busy → busy ≡ None → m < members → shares_entered m h ≡ i → shape_at i h ≡ None → is_free_for members i (slice_index words (gate_at i)) ≡ false → has_room members i h ≡ false
no_room_left members m i words views h busy ring idle lt number none full =
    no_room_by members i (slice_index words (gate_at i)) h ring.team (next_gate members m i words views h busy ring idle lt number none) full

-- and if there is room all the same, another seat opens the share
opened_by_another : (members m i : ℕ) (words : List ℕ) (views : List View) (h : List Event) (busy : Option BusySlot) → IsRing members words views h busy → m < members → shares_entered m h ≡ i → holds_share i (slice_index words (gate_at i)) ≡ false → is_free_for members i (slice_index words (gate_at i)) ≡ false → has_room members i h ≡ true →
    phase_of (slice_index words (gate_at i)) ≡ 1
opened_by_another members m i words views h busy ring lt number shut full room =
    elim (next_slot members m i h busy ring.team ring.opening lt number) [
      | inl there ↦ absurd (not_both _ (current_holds members i there.0 words h busy ring.team ring.table there.1) shut)
      | inr other ↦ elim other [
        | inl taken ↦
            let is : slice_index words (gate_at i) ≡ opening_word i = subst (λ (n : ℕ). slice_index words (gate_at n) ≡ opening_word n) taken.2 (ring.table.taken taken.0 taken.1) in
            ap phase_of is ∙ opening_phase (round_for i) (omega arith)
        | inr free ↦ absurd (not_both _ room (no_room_by members i (slice_index words (gate_at i)) h ring.team (free_gate members i words h busy ring.table free) full))
      ]
    ]

-- a slot that is taken for the share has room for it
opened_has_room : (members m i : ℕ) (words : List ℕ) (views : List View) (h : List Event) (busy : Option BusySlot) → IsRing members words views h busy → m < members → shares_entered m h ≡ i → holds_share i (slice_index words (gate_at i)) ≡ false → phase_of (slice_index words (gate_at i)) ≡ 1 →
    has_room members i h ≡ true
opened_has_room members m i words views h busy ring lt number shut phase =
    elim (next_slot members m i h busy ring.team ring.opening lt number) [
      | inl there ↦ absurd (not_both _ (current_holds members i there.0 words h busy ring.team ring.table there.1) shut)
      | inr other ↦ elim other [
        | inl taken ↦ subst (λ (n : ℕ). has_room members n h ≡ true) taken.2 (ring.opening.room taken.0 taken.1)
        | inr free ↦ absurd (let next = free_gate members i words h busy ring.table free in elim (cases_lt i 8) [
          | inl low ↦ let none : slice_index words (gate_at i) ≡ 0 = next.low low in omega arith
          | inr past ↦
              let late = next.late past in
              let open_one : phase_of (slice_index words (gate_at i)) ≡ phase_for late.0 = ap phase_of late.2 ∙ (gate_is members (i - 8) late.0 h ring.team late.1).phase_is in
              let two = (phase_open (is_bare_single late.0)).0 in
              omega arith
        ])
      ]
    ]

shut_is_none : (members m i : ℕ) (words : List ℕ) (views : List View) (h : List Event) (busy : Option BusySlot) → IsRing members words views h busy → m < members → shares_entered m h ≡ i → holds_share i (slice_index words (gate_at i)) ≡ false → shape_at i h ≡ None
shut_is_none members m i words views h busy ring lt number shut =
    elim (next_slot members m i h busy ring.team ring.opening lt number) [
      | inl there ↦ absurd (not_both _ (current_holds members i there.0 words h busy ring.team ring.table there.1) shut)
      | inr other ↦ elim other [
        | inl taken ↦ subst (λ (n : ℕ). shape_at n h ≡ None) taken.2 (ring.opening.fresh taken.0 taken.1)
        | inr free ↦ free.none
      ]
    ]

pub look_allowed : (members id m i slots : ℕ) (me : Me Shape View) (team : TeamSize) (st : Step Shape) → team.members ≡ members → IsBeforeShare members m i me.0 → me.0.opening ≡ None →
    Allows (IsKept team) slots id me (gate_at i) (λ n. n) (LookStep members i st me)
look_allowed members id m i slots me team st same b idle s kept homes at bound =
    let ring : IsRing members s.words s.views kept.events kept.busy = ring_of_size members team s.words s.views kept.events kept.busy same kept.ring in
    let mine : Knows me.0 kept.events = ring.seats.knows id me.0 at in
    let number : shares_entered m kept.events ≡ i = entered_same members m i me.0 kept.events mine b in
    by_found ring mine number (holds_share i (slice_index s.words (gate_at i))) refl
  where
    full_by : IsRing members s.words s.views kept.events kept.busy → shares_entered m kept.events ≡ i → holds_share i (slice_index s.words (gate_at i)) ≡ false → is_free_for members i (slice_index s.words (gate_at i)) ≡ false → (c : Bool) → me.0.alone ≡ c → (has_room members i kept.events ≡ false) ⊎ (me.0.alone ≡ false)
    full_by ring number shut full false e = inr e
    full_by ring number shut full true e = inl (no_room_left members m i s.words s.views kept.events kept.busy ring (alone_idle id me.0 s.views kept.events kept.busy ring.seats at e idle kept.busy refl) b.member number (shut_is_none members m i s.words s.views kept.events kept.busy ring b.member number shut) full)

    by_found : IsRing members s.words s.views kept.events kept.busy → Knows me.0 kept.events → shares_entered m kept.events ≡ i → (c : Bool) → holds_share i (slice_index s.words (gate_at i)) ≡ c →
        (w : View) × (a : Act Shape) × Valid s.homes me.1 a × IsKept team (stepped s (gate_at i) (slice_index s.words (gate_at i)) id me.1 w a) × LookStep members i st me (slice_index s.words (gate_at i)) (w, carried_after me.1 a)
    by_found ring mine number true e =
        let there = holds_is_current members m i s.words kept.events kept.busy ring.team ring.table ring.opening b.member number e in
        let w : View = record me.0 { share = i; found = Some there.0 } in (
          w,
          keeps,
          tt,
          record {
            events = kept.events;
            busy = kept.busy;
            ring = ring_again members team s.words (set s.words (gate_at i) (slice_index s.words (gate_at i))) (set s.views id w) (set s.views id w) kept.events kept.busy same (written_again s.words (gate_at i)) refl (record {
              team = ring.team;
              table = ring.table;
              opening = ring.opening;
              seats = seats_look id s.views me.0 w kept.events kept.busy i there.0 ring.seats at idle there.1.shape_is refl;
            });
          },
          (
            record {
              events = kept.events;
              knows = mine;
              rule = ring.team.rule;
              there = λ o. (there.0, there.1.shape_is, ring.team.shapes i there.0 there.1.shape_is, ap phase_of (ring.table.gates i there.0 there.1) ∙ (gate_is members i there.0 kept.events ring.team there.1.shape_is).phase_is, refl);
              absent = λ o. absurd (not_both _ e o);
              free = λ o. absurd (not_both _ e o);
              full = λ o. absurd (not_both _ e o);
              opening = λ o. absurd (not_both _ e o);
              busy = λ o. absurd (not_both _ e o);
              alone = alone_gate members id m i me.0 s.words s.views kept.events kept.busy ring at idle mine b.member number;
            },
            refl,
          ),
        )
    by_found ring mine number false e = (
      me.0,
      keeps,
      tt,
      kept_still id (gate_at i) me.1 me.0 team s kept at,
      (
        record {
          events = kept.events;
          knows = mine;
          rule = ring.team.rule;
          there = λ o. absurd (not_both _ o e);
          absent = λ o. (shut_is_none members m i s.words s.views kept.events kept.busy ring b.member number e, refl);
          free = λ o is_free. (free_may_take members m i s.words kept.events kept.busy ring.team ring.table ring.opening b.member number is_free).room;
          full = λ o full. full_by ring number e full me.0.alone refl;
          opening = λ o phase. opened_has_room members m i s.words s.views kept.events kept.busy ring b.member number e phase;
          busy = λ o full room. opened_by_another members m i s.words s.views kept.events kept.busy ring b.member number e full room;
          alone = alone_gate members id m i me.0 s.words s.views kept.events kept.busy ring at idle mine b.member number;
        },
        refl,
      ),
    )

-- the share that a seat looks at is that of its slot
pub found_is_current : (members id m i : ℕ) (v : View) (shape : Shape) (words : List ℕ) (views : List View) (h : List Event) (busy : Option BusySlot) → IsRing members words views h busy → get_elem? views id ≡ some v → v.found ≡ Some shape → v.share ≡ i → m < members → shares_entered m h ≡ i → IsCurrent i shape h busy
found_is_current members id m i v shape words views h busy ring at found place lt number =
    let there : shape_at i h ≡ Some shape = subst (λ (n : ℕ). shape_at n h ≡ Some shape) place (ring.seats.found id v shape at found) in
    let unfinished : is_over members i h ≡ false = subst (λ (n : ℕ). is_over members n h ≡ false) number (next_is_open (schedule members) members m h ring.team.rule lt) in
    open_is_current members i shape h busy ring.team ring.opening there unfinished

pub read_allowed : (members id m i w slots : ℕ) (me : Me Shape View) (team : TeamSize) (shape : Shape) (st : Step Shape) → st.word ≡ w → team.members ≡ members → IsBeforeShare members m i me.0 → me.0.found ≡ Some shape → me.0.share ≡ i → is_bare_single shape ≡ false →
    Allows (IsKept team) slots id me w (λ n. n) (ReadStep st me)
read_allowed members id m i w slots me team shape st st_is same b found number_is told s kept homes at bound =
    let ring : IsRing members s.words s.views kept.events kept.busy = ring_of_size members team s.words s.views kept.events kept.busy same kept.ring in
    let mine : Knows me.0 kept.events = ring.seats.knows id me.0 at in
    let number : shares_entered m kept.events ≡ i = entered_same members m i me.0 kept.events mine b in
    let now = found_is_current members id m i me.0 shape s.words s.views kept.events kept.busy ring at found number_is b.member number in (
      me.0,
      keeps,
      tt,
      kept_still id w me.1 me.0 team s kept at,
      (refl, λ other place is e lt. ap (slice_index s.words) (sym st_is ∙ e) ∙ ap (λ (n : ℕ). slice_index s.words (gate_at n + 1 + place)) number_is ∙ ring.table.shape_words i shape now told place lt ∙ ap (shape_word place) (same_Some shape other (sym found ∙ is))),
    )

-- Entering

-- from what its member may do to the rule of an entry
pub entry_rule : (members m i : ℕ) (shape : Shape) (h : List Event) → 0 < members → CanOpen members m shape (seen_of m h) → shares_entered m h ≡ i → ((other : Shape) → shape_at i h ≡ Some other → other ≡ shape) → has_room members i h ≡ true → MayEnter (schedule members) members i m shape h
entry_rule members m i shape h any can number same room = record {
  member = can.member;
  number = sym number;
  outside = none_of (open_share m h) can.outside;
  dealt = schedule_deals members shape any can.valid.some;
  tiles = pieces_tile_all members shape any can.valid;
  moves = can.valid.moves;
  ordered = can.ordered;
  unordered = can.valid.unordered;
  same = same;
  room = room;
}

-- a share that was entered had room
pub room_of : (members i : ℕ) (shape : Shape) (h : List Event) → IsTeam members h → shape_at i h ≡ Some shape → has_room members i h ≡ true
room_of members i shape h team at = elim (cases_lt i 8) [
  | inl low ↦ let is : nat_lt i OPEN_SHARES ≡ true = grind (arith, nat_tests) in rw is refl
  | inr past ↦ by (nat_lt i OPEN_SHARES) (eight_before (schedule members) members i (i - 8) 0 shape h team.rule at (omega arith))
]
  where
    by : (c : Bool) → is_over members (i - OPEN_SHARES) h ≡ true → (c || is_over members (i - OPEN_SHARES) h) ≡ true
    by true over = refl
    by false over = over

pub same_shapes_after : (i m : ℕ) (shape : Shape) (h : List Event) → shape_at i h ≡ Some shape → SameShapes (Enter i m shape ∷ h) h
same_shapes_after i m shape h at j = elim (cases_Bool (i == j)) [
  | inl e ↦ rw e (sym (ap (λ (n : ℕ). shape_at n h) (sym (is_equal i j e)) ∙ at))
  | inr e ↦ rw e refl
]

pub enter_allowed : (members id m i slots : ℕ) (me : Me Shape View) (team : TeamSize) (shape : Shape) (st : Step Shape) → team.members ≡ members → IsBeforeShare members m i me.0 → me.0.found ≡ Some shape → me.0.share ≡ i → CanOpen members m shape (seen_of m me.0.did) →
    Allows (IsKept team) slots id me (gate_at i) (λ n. n) (EnterStep members m i st me)
enter_allowed members id m i slots me team shape st same b found number_is can s kept homes at bound =
    let v : View = me.0 in
    let h : List Event = kept.events in
    let ring : IsRing members s.words s.views h kept.busy = ring_of_size members team s.words s.views h kept.busy same kept.ring in
    let mine : Knows v h = ring.seats.knows id v at in
    let number : shares_entered m h ≡ i = entered_same members m i v h mine b in
    let there : shape_at i h ≡ Some shape = subst (λ (n : ℕ). shape_at n h ≡ Some shape) number_is (ring.seats.found id v shape at found) in
    let rule = entry_rule members m i shape h ring.team.some_member (subst (CanOpen members m shape) (seat_sees m v h mine b.stands) can) number (λ other is. same_Some other shape (sym is ∙ there)) (room_of members i shape h ring.team there) in
    let event : Event = Enter i m shape in
    let w : View = record v { did = Enter i m shape ∷ v.did; found = None } in
    let next = ring_still members id m (Enter i m shape) s.words s.views v h kept.busy ring at b.stands (record { who = refl; rule = rule; once = tt; own = refl; shapes = same_shapes_after i m shape h there }) (λ j t e. refl) (λ j. refl) in (
      w,
      keeps,
      tt,
      kept_acted members id (gate_at i) me.1 w team s (Enter i m shape ∷ h) kept.busy same next,
      (λ other is. subst (λ (x : Shape). Acts members (Enter i m x) v w) (same_Some shape other (sym found ∙ is)) (record { events = h; knows = mine; rule = next.team.rule; after = refl }), refl),
    )
