-- Which share a slot has, and what its gate tells of it.
use Rattle.std.proofs.Common.{◌≡◌, ℕ, zero, suc, ◌+◌, ◌-◌, ◌*◌, ◌/◌, ◌%◌, ◌<◌, ◌≤◌, ◌^◌, Bool, true, false, List, Option, Some, None, ◌⊎◌, inl, inr, refl, ap, sym, ◌∙◌, subst, arith, slice_index}
use Rattle.std.specs.Prelude.{◌==◌, ◌&&◌, ◌||◌, nat_lt, if◌then◌else◌}
use Rattle.std.proofs.lemmas.Bool.{cases_Bool, cases_lt}
use Rattle.std.proofs.lemmas.Bool.Decides.{nat_tests}
use Rattle.std.proofs.lemmas.Option.{none-some}
use Rattle.gomp_types.specs.declared.shape.Shape.{Shape}
use Rattle.gomp_types.specs.declared.limits.TheConstants.{OPEN_SHARES}
use Rattle.gomp_events.specs.declared.event.Event.{Event}
use Rattle.gomp_types.specs.Shapes.{is_static}
use Rattle.gomp_events.specs.Events.{shares_entered, shape_at, has_ended, has_room, is_over}
use Rattle.gomp_events.specs.Cancels.{share_cancelled}
use Rattle.gomp_types.specs.Deals.{schedule}
use Rattle.gomp_types.proofs.Booleans.{is_equal, same_number, every_tells, every_by, not_both, and_left, and_right}
use Rattle.gomp_events.proofs.EventRanges.{first_shares_have_room}
use Rattle.gomp_events.proofs.GoalReadings.{and_both}
use Rattle.gomp_shares.specs.Calls.{taken_of}
use Rattle.gomp_shares.proofs.SharesKeep.{ended_shape, room_over}
use Rattle.gomp_shares.proofs.SharesOver.{next_is_open, eight_before}
use Rattle.gomp_gate.specs.Gates.{round_for, opening_word, holds_share, is_free_for, phase_of, round_of, left_of, HasFields, phase_for, open_phase, is_bare_single}
use Rattle.gomp_gate.specs.Shapes.{bit_of}
use Rattle.gomp_gate.proofs.Gates.{gate_fields}
use Rattle.gomp_slots.specs.Words.{gate_at, count_members, was_drained, tickets, left_count, gate_of, BusySlot, is_busy, IsCurrent, IsTable}
use Rattle.gomp_slots.specs.Rule.{IsTeam, IsOpening}
use Rattle.gomp_slots.proofs.Counts.{bit_most, count_most, count_all}
use Rattle.gomp_slots.proofs.History.{pieces_few, taken_most, entered_shape}
use Rattle.gomp_gate.proofs.Shapes.{phase_open}

-- Where words lie

place_in_slot : (a b p q : ℕ) → p < 6 → q < 6 → 1 + 6 * a + p ≡ 1 + 6 * b + q → (a ≡ b) × (p ≡ q)
place_in_slot a b p q lp lq e = (omega arith, omega arith)

pub apart_words : (i j p q : ℕ) → p < 6 → q < 6 → gate_at i + p ≡ gate_at j + q → (i % 8 ≡ j % 8) × (p ≡ q)
apart_words i j p q lp lq e = place_in_slot (i % 8) (j % 8) p q lp lq e

-- Shares that are over were entered

pub over_shape : (members j : ℕ) (h : List Event) → IsTeam members h → is_over members j h ≡ true → (shape : Shape) × (shape_at j h ≡ Some shape)
over_shape members j h team over = ended_shape (schedule members) members 0 j h team.rule (every_tells members (λ m. has_ended j m h) 0 over team.some_member)

pub none_not_some : {A : Type 0} (own : Option A) (x : A) → own ≡ None → own ≡ Some x → ⊥
none_not_some own x a b = none-some x (sym a ∙ b)

-- a share eight after one that was entered, and further
eight_after : (members i j k : ℕ) (shape : Shape) (h : List Event) → IsTeam members h → shape_at j h ≡ Some shape → j ≡ 8 * suc k + i → (other : Shape) × (shape_at (i + 8) h ≡ Some other)
eight_after members i j zero shape h team at number = let same : j ≡ i + 8 = omega arith in (shape, rw same at at)
eight_after members i j (suc k) shape h team at number = over_shape members (i + 8) h team (eight_before (schedule members) members j (i + 8) k shape h team.rule at (omega arith))

rounds_apart : (i j : ℕ) → i % 8 ≡ j % 8 → i < j → j ≡ 8 * suc (j / 8 - i / 8 - 1) + i
rounds_apart i j same lt = omega arith

not_before : (members i j : ℕ) (shape other : Shape) (h : List Event) (busy : Option BusySlot) → IsTeam members h → IsCurrent i shape h busy → shape_at j h ≡ Some other → i % 8 ≡ j % 8 → i < j → ⊥
not_before members i j shape other h busy team now at same lt =
    let there = eight_after members i j (j / 8 - i / 8 - 1) other h team at (rounds_apart i j same lt) in
    none_not_some (shape_at (i + 8) h) there.0 now.next there.1

-- a slot has one share
pub one_current : (members i j : ℕ) (shape other : Shape) (h : List Event) (busy : Option BusySlot) → IsTeam members h → IsCurrent i shape h busy → IsCurrent j other h busy → i % 8 ≡ j % 8 → i ≡ j
one_current members i j shape other h busy team one two same =
    elim (cases_lt i j) [
      | inl lt ↦ absurd (not_before members i j shape other h busy team one two.shape_is same lt)
      | inr le ↦ elim (cases_lt j i) [
        | inl lt ↦ absurd (not_before members j i other shape h busy team two one.shape_is (sym same) lt)
        | inr ge ↦ omega arith
      ]
    ]

not_busy : (members i : ℕ) (h : List Event) (busy : Option BusySlot) → IsOpening members h busy → is_over members i h ≡ false → (o : Option BusySlot) → busy ≡ o → is_busy o (i + 8) ≡ false
not_busy members i h busy opening unfinished None e = refl
not_busy members i h busy opening unfinished (Some b) e = elim (cases_Bool (b.share == i + 8)) [
  | inl same ↦
      let number : b.share ≡ i + 8 = is_equal b.share (i + 8) same in
      let room = opening.room b e in
      absurd (not_both (is_over members i h) (room_over members b.share i h number room) unfinished)
  | inr other ↦ other
]

not_after : (members i : ℕ) (shape : Shape) (h : List Event) → IsTeam members h → shape_at i h ≡ Some shape → is_over members i h ≡ false → (o : Option Shape) → shape_at (i + 8) h ≡ o → o ≡ None
not_after members i shape h team at unfinished None e = refl
not_after members i shape h team at unfinished (Some other) e = absurd (not_both (is_over members i h) (eight_before (schedule members) members (i + 8) i 0 other h team.rule e (omega arith)) unfinished)

-- a share that was entered, and is not over, is that of its slot
pub open_is_current : (members i : ℕ) (shape : Shape) (h : List Event) (busy : Option BusySlot) → IsTeam members h → IsOpening members h busy → shape_at i h ≡ Some shape → is_over members i h ≡ false → IsCurrent i shape h busy
open_is_current members i shape h busy team opening at unfinished = record {
  shape_is = at;
  next = not_after members i shape h team at unfinished (shape_at (i + 8) h) refl;
  free = not_busy members i h busy opening unfinished busy refl;
}

-- the slot that is being opened has no other share
pub busy_is_apart : (members i : ℕ) (shape : Shape) (h : List Event) (busy : Option BusySlot) (b : BusySlot) → IsTeam members h → IsOpening members h busy → busy ≡ Some b → IsCurrent i shape h busy → i % 8 ≡ b.share % 8 → ⊥
busy_is_apart members i shape h busy b team opening is now same =
    elim (cases_lt i b.share) [
      | inl lt ↦ before (b.share / 8 - i / 8 - 1) (rounds_apart i b.share same lt)
      | inr le ↦ elim (cases_lt b.share i) [
        | inl gt ↦
            let over = eight_before (schedule members) members i b.share (i / 8 - b.share / 8 - 1) shape h team.rule now.shape_is (rounds_apart b.share i (sym same) gt) in
            let there = over_shape members b.share h team over in
            none_not_some (shape_at b.share h) there.0 (opening.fresh b is) there.1
        | inr ge ↦ let number : i ≡ b.share = omega arith in none_not_some (shape_at b.share h) shape (opening.fresh b is) (subst (λ (n : ℕ). shape_at n h ≡ Some shape) number now.shape_is)
      ]
    ]
  where
    before : (k : ℕ) → b.share ≡ 8 * suc k + i → ⊥
    before zero number =
        let next : b.share ≡ i + 8 = omega arith in
        let off : (b.share == i + 8) ≡ false = subst (λ (o : Option BusySlot). is_busy o (i + 8) ≡ false) is now.free in
        let on : (b.share == i + 8) ≡ true = rw next (same_number (i + 8)) in
        not_both (b.share == i + 8) on off
    before (suc k) number =
        let over = room_over members b.share (b.share - 8) h (omega arith) (opening.room b is) in
        let there = over_shape members (b.share - 8) h team over in
        not_before members i (b.share - 8) shape there.0 h busy team now there.1 (omega arith) (omega arith)

-- What the slot of a member's next share has

pub record IsNextFree (members i : ℕ) (h : List Event) (busy : Option BusySlot) : Type 0 where
  pub none : shape_at i h ≡ None
  pub idle : is_busy busy i ≡ false
  pub before : (i < 8) ⊎ ((8 ≤ i) × ((shape : Shape) × IsCurrent (i - 8) shape h busy))

abbrev pub NextSlot : ℕ → ℕ → List Event → Option BusySlot → Type 0
NextSlot members i h busy = ((shape : Shape) × IsCurrent i shape h busy) ⊎ (((b : BusySlot) × (busy ≡ Some b) × (b.share ≡ i)) ⊎ IsNextFree members i h busy)

next_by : (members m i : ℕ) (h : List Event) (busy : Option BusySlot) → IsTeam members h → IsOpening members h busy → m < members → shares_entered m h ≡ i → (o : Option Shape) → shape_at i h ≡ o → (p : Option BusySlot) → busy ≡ p → (c : Bool) → is_busy p i ≡ c → NextSlot members i h busy
next_by members m i h busy team opening lt number (Some shape) at p is c e =
    inl (shape, open_is_current members i shape h busy team opening at (subst (λ (n : ℕ). is_over members n h ≡ false) number (next_is_open (schedule members) members m h team.rule lt)))
next_by members m i h busy team opening lt number None at (Some b) is true e = inr (inl (b, is, is_equal b.share i e))
next_by members m i h busy team opening lt number None at None is true e = absurd (cc)
next_by members m i h busy team opening lt number None at p is false e = inr (inr (record {
  none = at;
  idle = ap (λ (o : Option BusySlot). is_busy o i) is ∙ e;
  before = elim (cases_lt i 8) [
    | inl low ↦ inl low
    | inr past ↦
        let was = entered_shape members m (i - 8) h team.rule (omega arith) in
        let eight : i - 8 + 8 ≡ i = omega arith in
        inr (
          (omega arith),
          (
            was.0,
            record {
              shape_is = was.1;
              next = ap (λ (n : ℕ). shape_at n h) eight ∙ at;
              free = ap (λ (n : ℕ). is_busy busy n) eight ∙ ap (λ (o : Option BusySlot). is_busy o i) is ∙ e;
            },
          ),
        )
  ];
}))

pub next_slot : (members m i : ℕ) (h : List Event) (busy : Option BusySlot) → IsTeam members h → IsOpening members h busy → m < members → shares_entered m h ≡ i → NextSlot members i h busy
next_slot members m i h busy team opening lt number = next_by members m i h busy team opening lt number (shape_at i h) refl busy refl (is_busy busy i) refl

-- The fields of its gate

by_static : (b : Bool) (t n : ℕ) → (b ≡ false → t < n) → 0 < n → (if b then 0 else t) < n
by_static true t n few some = some
by_static false t n few some = few refl

few_claims : (members i : ℕ) (shape : Shape) (h : List Event) → IsTeam members h → shape_at i h ≡ Some shape → is_static shape.kind ≡ false → taken_of i h + count_members members (λ m. was_drained i m h) < 2 ^ 39 + 65
few_claims members i shape h team at queue =
    let taken = taken_most members i shape h team.rule at queue in
    let pieces = pieces_few members shape team.some_member (team.shapes i shape at).valid in
    let drained = count_most members (λ m. was_drained i m h) in
    let size = team.few_members in
    omega arith

pub few_tickets : (members i : ℕ) (shape : Shape) (h : List Event) → IsTeam members h → shape_at i h ≡ Some shape → tickets members i shape.kind h + 1 < 2 ^ 40
few_tickets members i shape h team at =
    let few : tickets members i shape.kind h < 2 ^ 39 + 65 = by_static (is_static shape.kind) (taken_of i h + count_members members (λ m. was_drained i m h)) (2 ^ 39 + 65) (few_claims members i shape h team at) (omega arith) in
    omega arith

pub gate_is : (members i : ℕ) (shape : Shape) (h : List Event) → IsTeam members h → shape_at i h ≡ Some shape → HasFields (gate_of members i shape h) (tickets members i shape.kind h) (left_count members i h) (bit_of (share_cancelled i h)) (phase_for shape) (round_for i)
gate_is members i shape h team at =
    let few = few_tickets members i shape h team at in
    let left = count_most members (λ m. has_ended i m h) in
    let size = team.few_members in
    let one = bit_most (share_cancelled i h) in
    gate_fields (phase_for shape) (round_for i) (tickets members i shape.kind h) (left_count members i h) (bit_of (share_cancelled i h)) (phase_open (is_bare_single shape)).1 (omega arith) (omega arith) (omega arith)

-- a slot has the share if its gate says so, and may be taken if it says so
next_round : (i : ℕ) → round_for i ≡ i / 8 % 2 ^ 14 → ⊥
next_round i e = omega arith

pub round_before : (i : ℕ) → 8 ≤ i → round_for (i - 8) ≡ i / 8 % 2 ^ 14
round_before i le = omega arith

equal_true : (a b : ℕ) → a ≡ b → (a == b) ≡ true
equal_true a b e = rw e (same_number b)

-- a slot that has a share is in one of two phases
pub has_share : (bare : Bool) (n : ℕ) → n ≡ open_phase bare → nat_lt 1 n ≡ true
has_share true n e = rw e refl
has_share false n e = rw e refl

pub late_phase : (n : ℕ) → nat_lt 1 n ≡ true → 1 < n
late_phase n e = grind (arith, nat_tests)

pub current_holds : (members i : ℕ) (shape : Shape) (words : List ℕ) (h : List Event) (busy : Option BusySlot) → IsTeam members h → IsTable members words h busy → IsCurrent i shape h busy → holds_share i (slice_index words (gate_at i)) ≡ true
current_holds members i shape words h busy team table now =
    let word = table.gates i shape now in
    let is = gate_is members i shape h team now.shape_is in
    rw word (and_both _ _ (has_share (is_bare_single shape) _ is.phase_is) (equal_true _ _ is.round_is))

-- what an open gate of another share, or one that is taken or empty, is not
pub opening_phase : (n : ℕ) → n < 2 ^ 14 → phase_of (2 ^ 48 + 2 ^ 50 * n) ≡ 1
opening_phase n lt = omega arith

pub holds_is_current : (members m i : ℕ) (words : List ℕ) (h : List Event) (busy : Option BusySlot) → IsTeam members h → IsTable members words h busy → IsOpening members h busy → m < members → shares_entered m h ≡ i → holds_share i (slice_index words (gate_at i)) ≡ true → (shape : Shape) × IsCurrent i shape h busy
holds_is_current members m i words h busy team table opening lt number holds =
    let word : ℕ = slice_index words (gate_at i) in
    let phase : 1 < phase_of word = late_phase (phase_of word) (and_left (nat_lt 1 (phase_of word)) (round_of word == round_for i) holds) in
    let round : round_of word ≡ round_for i = is_equal (round_of word) (round_for i) (and_right (nat_lt 1 (phase_of word)) (round_of word == round_for i) holds) in
    elim (next_slot members m i h busy team opening lt number) [
      | inl there ↦ there
      | inr other ↦ elim other [
        | inl taken ↦
            let is : slice_index words (gate_at i) ≡ opening_word i = subst (λ (n : ℕ). slice_index words (gate_at n) ≡ opening_word n) taken.2 (table.taken taken.0 taken.1) in
            let one : phase_of word ≡ 1 = ap phase_of is ∙ opening_phase (round_for i) (omega arith) in
            absurd (omega arith)
        | inr free ↦ elim free.before [
          | inl low ↦
              let none : word ≡ 0 = table.empty i low free.none free.idle in
              absurd (omega arith)
          | inr past ↦
              let now = past.1.1 in
              let shape = past.1.0 in
              let eight : gate_at (i - 8) ≡ gate_at i = let e : (i - 8) % 8 ≡ i % 8 = (let le = past.0 in omega arith) in ap (λ (n : ℕ). 1 + 6 * n) e in
              let is : word ≡ gate_of members (i - 8) shape h = sym (ap (slice_index words) eight) ∙ table.gates (i - 8) shape now in
              let fields = gate_is members (i - 8) shape h team now.shape_is in
              let other_round : round_of word ≡ i / 8 % 2 ^ 14 = ap round_of is ∙ fields.round_is ∙ round_before i past.0 in
              absurd (next_round i (sym round ∙ other_round))
        ]
      ]
    ]

-- a slot whose gate says so may be taken for the member's next share
pub record MayTakeSlot (members i : ℕ) (h : List Event) (busy : Option BusySlot) : Type 0 where
  pub none : shape_at i h ≡ None
  pub idle : is_busy busy i ≡ false
  pub room : has_room members i h ≡ true

late_room : (members i : ℕ) (h : List Event) → is_over members (i - 8) h ≡ true → has_room members i h ≡ true
late_room members i h over = by (nat_lt i OPEN_SHARES)
  where
    by : (b : Bool) → (b || is_over members (i - OPEN_SHARES) h) ≡ true
    by true = refl
    by false = over

free_low : (members i word : ℕ) → i < 8 → is_free_for members i word ≡ true → word ≡ 0
free_low members i word lt e = let low : nat_lt i 8 ≡ true = grind (arith, nat_tests) in is_equal word 0 (rw low at e)

free_late : (members i word : ℕ) → 8 ≤ i → is_free_for members i word ≡ true → (1 < phase_of word) × (round_of word ≡ i / 8 % 2 ^ 14) × (left_of word ≡ members)
free_late members i word le e =
    let high : nat_lt i 8 ≡ false = grind (arith, nat_tests) in
    let all : (nat_lt 1 (phase_of word) && (round_of word == i / 8 % 2 ^ 14) && (left_of word == members)) ≡ true = rw high at e in
    let first = and_left (nat_lt 1 (phase_of word) && (round_of word == i / 8 % 2 ^ 14)) (left_of word == members) all in
    let last = and_right (nat_lt 1 (phase_of word) && (round_of word == i / 8 % 2 ^ 14)) (left_of word == members) all in
    (late_phase _ (and_left (nat_lt 1 (phase_of word)) (round_of word == i / 8 % 2 ^ 14) first), is_equal _ _ (and_right (nat_lt 1 (phase_of word)) (round_of word == i / 8 % 2 ^ 14) first), is_equal _ _ last)

pub free_may_take : (members m i : ℕ) (words : List ℕ) (h : List Event) (busy : Option BusySlot) → IsTeam members h → IsTable members words h busy → IsOpening members h busy → m < members → shares_entered m h ≡ i → is_free_for members i (slice_index words (gate_at i)) ≡ true → MayTakeSlot members i h busy
free_may_take members m i words h busy team table opening lt number is_free =
    let word : ℕ = slice_index words (gate_at i) in
    elim (cases_lt i 8) [
      | inl low ↦
          let none : word ≡ 0 = free_low members i word low is_free in
          elim (next_slot members m i h busy team opening lt number) [
            | inl there ↦
                let is : word ≡ gate_of members i there.0 h = table.gates i there.0 there.1 in
                let fields = gate_is members i there.0 h team there.1.shape_is in
                let phase : phase_of word ≡ phase_for there.0 = ap phase_of is ∙ fields.phase_is in
                let late = (phase_open (is_bare_single there.0)).0 in
                absurd (omega arith)
            | inr other ↦ elim other [
              | inl taken ↦
                  let is : word ≡ opening_word i = subst (λ (n : ℕ). slice_index words (gate_at n) ≡ opening_word n) taken.2 (table.taken taken.0 taken.1) in
                  let one : phase_of word ≡ 1 = ap phase_of is ∙ opening_phase (round_for i) (omega arith) in
                  absurd (omega arith)
              | inr free ↦ record { none = free.none; idle = free.idle; room = first_shares_have_room members i h low }
            ]
          ]
      | inr past ↦
          let le : 8 ≤ i = omega arith in
          let says = free_late members i word le is_free in
          elim (next_slot members m i h busy team opening lt number) [
            | inl there ↦
                let is : word ≡ gate_of members i there.0 h = table.gates i there.0 there.1 in
                let fields = gate_is members i there.0 h team there.1.shape_is in
                absurd (next_round i (sym (ap round_of is ∙ fields.round_is) ∙ says.1))
            | inr other ↦ elim other [
              | inl taken ↦
                  let is : word ≡ opening_word i = subst (λ (n : ℕ). slice_index words (gate_at n) ≡ opening_word n) taken.2 (table.taken taken.0 taken.1) in
                  let one : phase_of word ≡ 1 = ap phase_of is ∙ opening_phase (round_for i) (omega arith) in
                  let two = says.0 in
                  absurd (omega arith)
              | inr free ↦ elim free.before [
                | inl low ↦ absurd (omega arith)
                | inr before ↦
                    let now = before.1.1 in
                    let shape = before.1.0 in
                    let eight : gate_at (i - 8) ≡ gate_at i = let e : (i - 8) % 8 ≡ i % 8 = (omega arith) in ap (λ (n : ℕ). 1 + 6 * n) e in
                    let is : word ≡ gate_of members (i - 8) shape h = sym (ap (slice_index words) eight) ∙ table.gates (i - 8) shape now in
                    let fields = gate_is members (i - 8) shape h team now.shape_is in
                    let left : left_count members (i - 8) h ≡ members = sym (ap left_of is ∙ fields.left_is) ∙ says.2 in
                    record {
                      none = free.none;
                      idle = free.idle;
                      room = late_room members i h (every_by members (λ k. has_ended (i - 8) k h) (count_all members (λ k. has_ended (i - 8) k h) left));
                    }
              ]
            ]
          ]
    ]
