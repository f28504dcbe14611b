-- A step writes one word, and the words are then those that the events leave.
use Rattle.std.proofs.Common.{◌≡◌, ◌≢◌, ℕ, suc, ◌+◌, ◌-◌, ◌*◌, ◌/◌, ◌%◌, ◌<◌, ◌≤◌, Bool, true, false, List, ◌∷◌, length, set, Option, Some, None, ◌⊎◌, inl, inr, refl, ap, sym, ◌∙◌, subst, arith, slice_index, length-set, get_or-set_same}
use Rattle.std.specs.Prelude.{◌==◌, if◌then◌else◌}
use Rattle.std.proofs.lemmas.List.{get_or-set_other}
use Rattle.std.proofs.lemmas.Bool.{cases_lt}
use Rattle.std.proofs.lemmas.Bool.Decides.{eqb_tells}
use Rattle.std.proofs.lemmas.Option.{none-some, same_Some}
use Rattle.gomp_types.specs.declared.shape.Shape.{Shape}
use Rattle.gomp_types.specs.declared.shape.ShareKind.{ShareKind}
use Rattle.gomp_events.specs.declared.event.Event.{Event}
use Rattle.gomp_events.specs.declared.event.Event.TheVariants.{Enter}
use Rattle.gomp_types.specs.Shapes.{is_static}
use Rattle.gomp_events.specs.Events.{shape_at, has_ended, has_room, turn}
use Rattle.gomp_events.specs.Cancels.{share_cancelled}
use Rattle.gomp_types.specs.Deals.{schedule}
use Rattle.gomp_types.proofs.Booleans.{is_equal, which_branch, unequal_numbers}
use Rattle.gomp_shares.specs.Calls.{taken_of}
use Rattle.gomp_shares.proofs.SharesOver.{eight_before}
use Rattle.gomp_shares.proofs.SharesKeep.{room_over}
use Rattle.gomp_gate.specs.Gates.{round_for, gate_word, opening_word, open_word, phase_for, is_bare_single}
use Rattle.gomp_gate.specs.Shapes.{shape_word, bit_of}
use Rattle.gomp_slots.specs.Words.{gate_at, count_members, was_drained, tickets, left_count, gate_of, BusySlot, is_busy, IsCurrent, IsTable}
use Rattle.gomp_slots.specs.Rule.{IsTeam, IsOpening}
use Rattle.gomp_slots.proofs.Counts.{count_none}
use Rattle.gomp_slots.proofs.History.{no_events_of}
use Rattle.gomp_slots.proofs.SlotShares.{none_not_some, apart_words, over_shape, one_current, busy_is_apart}

pub read_here : (words : List ℕ) (w x : ℕ) → w < length words → slice_index (set words w x) w ≡ x
read_here words w x lt = get_or-set_same words w x 0 lt

read_other : (words : List ℕ) (w k x : ℕ) → k ≢ w → slice_index (set words w x) k ≡ slice_index words k
read_other words w k x other = get_or-set_other words w k x 0 other

-- Places of other shares

other_slot : (members i j p q : ℕ) (shape other : Shape) (h : List Event) (busy : Option BusySlot) → IsTeam members h → IsCurrent i shape h busy → IsCurrent j other h busy → j ≢ i → p < 6 → q < 6 → gate_at j + q ≢ gate_at i + p
other_slot members i j p q shape other h busy team one two differ lp lq e = differ (sym (one_current members i j shape other h busy team one two (sym (apart_words j i q p lq lp e).0)))

other_place : (i j p q : ℕ) → p < 6 → q < 6 → q ≢ p → gate_at j + q ≢ gate_at i + p
other_place i j p q lp lq differ e = differ (apart_words j i q p lq lp e).1

busy_slot : (members i p q : ℕ) (shape : Shape) (h : List Event) (busy : Option BusySlot) (b : BusySlot) → IsTeam members h → IsOpening members h busy → busy ≡ Some b → IsCurrent i shape h busy → p < 6 → q < 6 → gate_at b.share + q ≢ gate_at i + p
busy_slot members i p q shape h busy b team opening is now lp lq e = busy_is_apart members i shape h busy b team opening is now (sym (apart_words b.share i q p lq lp e).0)

-- an empty slot has no share
empty_slot : (members i j p q : ℕ) (shape : Shape) (h : List Event) → IsTeam members h → shape_at i h ≡ Some shape → j < 8 → shape_at j h ≡ None → p < 6 → q < 6 → gate_at j + q ≢ gate_at i + p
empty_slot members i j p q shape h team at low none lp lq e =
    let same : j % 8 ≡ i % 8 = (apart_words j i q p lq lp e).0 in
    elim (cases_lt j i) [
      | inl lt ↦
          let number : i ≡ 8 * suc (i / 8 - j / 8 - 1) + j = omega arith in
          let there = over_shape members j h team (eight_before (schedule members) members i j (i / 8 - j / 8 - 1) shape h team.rule at number) in
          none_not_some (shape_at j h) there.0 none there.1
      | inr ge ↦
          let number : j ≡ i = omega arith in
          none_not_some (shape_at j h) shape none (ap (λ (n : ℕ). shape_at n h) number ∙ at)
    ]

gate_place : (i : ℕ) → gate_at i ≡ gate_at i + 0
gate_place i = omega arith

word_place : (i place : ℕ) → gate_at i + 1 + place ≡ gate_at i + (1 + place)
word_place i place = omega arith

-- Steps with an event, by which no share is opened

abbrev pub SameShapes : List Event → List Event → Type 0
SameShapes after before = (i : ℕ) → shape_at i after ≡ shape_at i before

current_before : (i : ℕ) (shape : Shape) (after h : List Event) (busy : Option BusySlot) → SameShapes after h → IsCurrent i shape after busy → IsCurrent i shape h busy
current_before i shape after h busy same now = record { shape_is = sym (same i) ∙ now.shape_is; next = sym (same (i + 8)) ∙ now.next; free = now.free }

-- no word changes
pub table_still : (members : ℕ) (words : List ℕ) (h after : List Event) (busy : Option BusySlot) → IsTable members words h busy → SameShapes after h →
    ((j : ℕ) (s : Shape) → shape_at j h ≡ Some s → gate_of members j s after ≡ gate_of members j s h) → ((j : ℕ) → turn j after ≡ turn j h) → IsTable members words after busy
table_still members words h after busy table same gates turns = record {
  long = table.long;
  size = table.size;
  gates = λ j s now. let before = current_before j s after h busy same now in table.gates j s before ∙ sym (gates j s before.shape_is);
  shape_words = λ j s now. table.shape_words j s (current_before j s after h busy same now);
  turns = λ j s now told. table.turns j s (current_before j s after h busy same now) told ∙ sym (turns j);
  taken = table.taken;
  stored = table.stored;
  empty = λ j low none idle. table.empty j low (sym (same j) ∙ none) idle;
}

-- the gate of the share i is written
pub table_gate : (members i : ℕ) (shape : Shape) (words : List ℕ) (h after : List Event) (busy : Option BusySlot) (x : ℕ) → IsTeam members h → IsOpening members h busy → IsTable members words h busy → IsCurrent i shape h busy → SameShapes after h →
    ((j : ℕ) (s : Shape) → j ≢ i → gate_of members j s after ≡ gate_of members j s h) → ((j : ℕ) → turn j after ≡ turn j h) → x ≡ gate_of members i shape after → IsTable members (set words (gate_at i) x) after busy
table_gate members i shape words h after busy x team opening table now same gates turns is =
    let long = table.long in
    let keeps_k : (k : ℕ) → k ≢ gate_at i → slice_index (set words (gate_at i) x) k ≡ slice_index words k = λ k differ. read_other words (gate_at i) k x differ in record {
      long = length-set words (gate_at i) x ∙ table.long;
      size = keeps_k 0 (λ e. omega arith) ∙ table.size;
      gates = λ j s now_j.
          let before = current_before j s after h busy same now_j in
          elim (eqb_tells j i) [
            | inl e ↦
                let one : shape ≡ s = same_Some shape s (sym now.shape_is ∙ sym (ap (λ (n : ℕ). shape_at n h) e.1) ∙ before.shape_is) in
                ap (slice_index (set words (gate_at i) x)) (ap gate_at e.1) ∙ read_here words (gate_at i) x (omega arith) ∙ is ∙ ap (λ (s : Shape). gate_of members i s after) one ∙ sym (ap (λ (n : ℕ). gate_of members n s after) e.1)
            | inr e ↦ keeps_k (gate_at j) (λ same_word. other_slot members i j 0 0 shape s h busy team now before e.1 (omega arith) (omega arith) (sym (gate_place j) ∙ same_word ∙ gate_place i)) ∙ table.gates j s before ∙ sym (gates j s e.1)
          ];
      shape_words = λ j s now_j told place lt. keeps_k (gate_at j + 1 + place) (λ e. other_place i j 0 (1 + place) (omega arith) (omega arith) (λ z. omega arith) (sym (word_place j place) ∙ e ∙ gate_place i)) ∙ table.shape_words j s (current_before j s after h busy same now_j) told place lt;
      turns = λ j s now_j told. keeps_k (gate_at j + 5) (λ e. other_place i j 0 5 (omega arith) (omega arith) (λ z. omega arith) (e ∙ gate_place i)) ∙ table.turns j s (current_before j s after h busy same now_j) told ∙ sym (turns j);
      taken = λ b e. keeps_k (gate_at b.share) (λ w. busy_slot members i 0 0 shape h busy b team opening e now (omega arith) (omega arith) (sym (gate_place b.share) ∙ w ∙ gate_place i)) ∙ table.taken b e;
      stored = λ b e place lt. let few = opening.few b e in keeps_k (gate_at b.share + 1 + place) (λ w. other_place i b.share 0 (1 + place) (omega arith) (omega arith) (λ z. omega arith) (sym (word_place b.share place) ∙ w ∙ gate_place i)) ∙ table.stored b e place lt;
      empty = λ j low none idle. keeps_k (gate_at j) (λ w. empty_slot members i j 0 0 shape h team now.shape_is low (sym (same j) ∙ none) (omega arith) (omega arith) (sym (gate_place j) ∙ w ∙ gate_place i)) ∙ table.empty j low (sym (same j) ∙ none) idle;
    }

-- the turn of the share i is written
pub table_turn : (members i : ℕ) (shape : Shape) (words : List ℕ) (h after : List Event) (busy : Option BusySlot) (x : ℕ) → IsTeam members h → IsOpening members h busy → IsTable members words h busy → IsCurrent i shape h busy → SameShapes after h →
    ((j : ℕ) (s : Shape) → gate_of members j s after ≡ gate_of members j s h) → ((j : ℕ) → j ≢ i → turn j after ≡ turn j h) → x ≡ turn i after → IsTable members (set words (gate_at i + 5) x) after busy
table_turn members i shape words h after busy x team opening table now same gates turns is =
    let long = table.long in
    let keeps_k : (k : ℕ) → k ≢ gate_at i + 5 → slice_index (set words (gate_at i + 5) x) k ≡ slice_index words k = λ k differ. read_other words (gate_at i + 5) k x differ in record {
      long = length-set words (gate_at i + 5) x ∙ table.long;
      size = keeps_k 0 (λ e. omega arith) ∙ table.size;
      gates = λ j s now_j. keeps_k (gate_at j) (λ e. other_place i j 5 0 (omega arith) (omega arith) (λ z. omega arith) (sym (gate_place j) ∙ e)) ∙ table.gates j s (current_before j s after h busy same now_j) ∙ sym (gates j s);
      shape_words = λ j s now_j told place lt. keeps_k (gate_at j + 1 + place) (λ e. other_place i j 5 (1 + place) (omega arith) (omega arith) (λ z. omega arith) (sym (word_place j place) ∙ e)) ∙ table.shape_words j s (current_before j s after h busy same now_j) told place lt;
      turns = λ j s now_j told.
          let before = current_before j s after h busy same now_j in
          elim (eqb_tells j i) [
            | inl e ↦ ap (λ (n : ℕ). slice_index (set words (gate_at i + 5) x) (gate_at n + 5)) e.1 ∙ read_here words (gate_at i + 5) x (omega arith) ∙ is ∙ sym (ap (λ (n : ℕ). turn n after) e.1)
            | inr e ↦ keeps_k (gate_at j + 5) (other_slot members i j 5 5 shape s h busy team now before e.1 (omega arith) (omega arith)) ∙ table.turns j s before told ∙ sym (turns j e.1)
          ];
      taken = λ b e. keeps_k (gate_at b.share) (λ w. other_place i b.share 5 0 (omega arith) (omega arith) (λ z. omega arith) (sym (gate_place b.share) ∙ w)) ∙ table.taken b e;
      stored = λ b e place lt. let few = opening.few b e in keeps_k (gate_at b.share + 1 + place) (λ w. busy_slot members i 5 (1 + place) shape h busy b team opening e now (omega arith) (omega arith) (sym (word_place b.share place) ∙ w)) ∙ table.stored b e place lt;
      empty = λ j low none idle. keeps_k (gate_at j) (λ w. other_place i j 5 0 (omega arith) (omega arith) (λ z. omega arith) (sym (gate_place j) ∙ w)) ∙ table.empty j low (sym (same j) ∙ none) idle;
    }

-- Opening

-- a share in a slot that was never taken is one of the first eight
empty_far : (members i j : ℕ) (h : List Event) → IsTeam members h → has_room members i h ≡ true → j % 8 ≡ i % 8 → j < 8 → 8 ≤ i → shape_at j h ≡ None → ⊥
empty_far members i j h team room same low late none =
    let before = over_shape members (i - 8) h team (room_over members i (i - 8) h (omega arith) room) in
    elim (cases_lt j (i - 8)) [
      | inl lt ↦
          let number : i - 8 ≡ 8 * suc ((i - 8) / 8 - j / 8 - 1) + j = omega arith in
          let there = over_shape members j h team (eight_before (schedule members) members (i - 8) j ((i - 8) / 8 - j / 8 - 1) before.0 h team.rule before.1 number) in
          none_not_some (shape_at j h) there.0 none there.1
      | inr ge ↦
          let number : j ≡ i - 8 = omega arith in
          none_not_some (shape_at j h) before.0 none (ap (λ (n : ℕ). shape_at n h) number ∙ before.1)
    ]

idle_none : (i : ℕ) (o : Option BusySlot) → o ≡ None → is_busy o i ≡ false
idle_none i o e = rw e refl

current_idle : (i : ℕ) (shape : Shape) (h : List Event) (busy other : Option BusySlot) → busy ≡ None → IsCurrent i shape h other → IsCurrent i shape h busy
current_idle i shape h busy other none now = record { shape_is = now.shape_is; next = now.next; free = idle_none (i + 8) busy none }

-- a slot is taken
pub table_take : (members : ℕ) (b : BusySlot) (words : List ℕ) (h : List Event) (busy : Option BusySlot) → IsTeam members h → IsTable members words h busy → busy ≡ None → IsOpening members h (Some b) → b.stored ≡ 0 →
    IsTable members (set words (gate_at b.share) (opening_word b.share)) h (Some b)
table_take members b words h busy team table none opening start =
    let long = table.long in
    let keeps_k : (k : ℕ) → k ≢ gate_at b.share → slice_index (set words (gate_at b.share) (opening_word b.share)) k ≡ slice_index words k = λ k differ. read_other words (gate_at b.share) k (opening_word b.share) differ in record {
      long = length-set words (gate_at b.share) (opening_word b.share) ∙ table.long;
      size = keeps_k 0 (λ e. omega arith) ∙ table.size;
      gates = λ j s now. keeps_k (gate_at j) (λ e. busy_slot members j 0 0 s h (Some b) b team opening refl now (omega arith) (omega arith) (sym (gate_place b.share) ∙ sym e ∙ gate_place j)) ∙ table.gates j s (current_idle j s h busy (Some b) none now);
      shape_words = λ j s now told place lt. keeps_k (gate_at j + 1 + place) (λ e. other_place b.share j 0 (1 + place) (omega arith) (omega arith) (λ z. omega arith) (sym (word_place j place) ∙ e ∙ gate_place b.share)) ∙ table.shape_words j s (current_idle j s h busy (Some b) none now) told place lt;
      turns = λ j s now told. keeps_k (gate_at j + 5) (λ e. other_place b.share j 0 5 (omega arith) (omega arith) (λ z. omega arith) (e ∙ gate_place b.share)) ∙ table.turns j s (current_idle j s h busy (Some b) none now) told;
      taken = λ c e. subst (λ (x : BusySlot). slice_index (set words (gate_at b.share) (opening_word b.share)) (gate_at x.share) ≡ opening_word x.share) (same_Some b c e) (read_here words (gate_at b.share) (opening_word b.share) (omega arith));
      stored = λ c e place lt. absurd (let s : c.stored ≡ 0 = sym (ap (λ (x : BusySlot). x.stored) (same_Some b c e)) ∙ start in omega arith);
      empty = λ j low fresh idle. keeps_k (gate_at j) (λ w. unequal_numbers b.share j idle (busy_low j low fresh w)) ∙ table.empty j low fresh (idle_none j busy none);
    }
  where
    busy_low : (j : ℕ) → j < 8 → shape_at j h ≡ None → gate_at j ≡ gate_at b.share → b.share ≡ j
    busy_low j low fresh w =
        let same : j % 8 ≡ b.share % 8 = (apart_words j b.share 0 0 (omega arith) (omega arith) (sym (gate_place j) ∙ w ∙ gate_place b.share)).0 in
        elim (cases_lt b.share 8) [
          | inl lt ↦ omega arith
          | inr ge ↦ absurd (empty_far members b.share j h team (opening.room b refl) same low (omega arith) fresh)
        ]

-- a word is stored, or found equal
current_same : (i : ℕ) (shape : Shape) (h : List Event) (b c : BusySlot) → c.share ≡ b.share → IsCurrent i shape h (Some c) → IsCurrent i shape h (Some b)
current_same i shape h b c same now = record { shape_is = now.shape_is; next = now.next; free = ap (λ (n : ℕ). n == i + 8) (sym same) ∙ now.free }

stored_words : (words : List ℕ) (b : BusySlot) (now : List ℕ) → ((place : ℕ) → place < b.stored → slice_index words (gate_at b.share + 1 + place) ≡ shape_word place b.shape) →
    ((place : ℕ) → place < b.stored → slice_index now (gate_at b.share + 1 + place) ≡ slice_index words (gate_at b.share + 1 + place)) → slice_index now (gate_at b.share + 1 + b.stored) ≡ shape_word b.stored b.shape →
    (place : ℕ) → place < b.stored + 1 → slice_index now (gate_at b.share + 1 + place) ≡ shape_word place b.shape
stored_words words b now was same new place lt =
    elim (eqb_tells place b.stored) [
      | inl e ↦ subst (λ (n : ℕ). slice_index now (gate_at b.share + 1 + n) ≡ shape_word n b.shape) (sym e.1) new
      | inr e ↦ let below : place < b.stored = let d = e.1 in omega arith in same place below ∙ was place below
    ]

pub table_store : (members : ℕ) (b c : BusySlot) (words : List ℕ) (h : List Event) (busy : Option BusySlot) → IsTeam members h → IsTable members words h busy → IsOpening members h busy → busy ≡ Some b → b.stored < 5 → c ≡ record b { stored = b.stored + 1 } →
    IsTable members (set words (gate_at b.share + 1 + b.stored) (shape_word b.stored b.shape)) h (Some c)
table_store members b c words h busy team table opening is few next =
    let long = table.long in
    let w : ℕ = gate_at b.share + 1 + b.stored in
    let x : ℕ = shape_word b.stored b.shape in
    let number : c.share ≡ b.share = ap (λ (y : BusySlot). y.share) next in
    let back : (j : ℕ) (s : Shape) → IsCurrent j s h (Some c) → IsCurrent j s h busy = λ j s now. subst (λ (o : Option BusySlot). IsCurrent j s h o) (sym is) (current_same j s h b c number now) in
    let keeps_k : (k : ℕ) → k ≢ w → slice_index (set words w x) k ≡ slice_index words k = λ k differ. read_other words w k x differ in record {
      long = length-set words w x ∙ table.long;
      size = keeps_k 0 (λ e. omega arith) ∙ table.size;
      gates = λ j s now. keeps_k (gate_at j) (λ e. other_place b.share j (1 + b.stored) 0 (omega arith) (omega arith) (λ z. omega arith) (sym (gate_place j) ∙ e ∙ word_place b.share b.stored)) ∙ table.gates j s (back j s now);
      shape_words = λ j s now told place lt. keeps_k (gate_at j + 1 + place) (λ e. busy_slot members j (1 + place) (1 + b.stored) s h busy b team opening is (back j s now) (omega arith) (omega arith) (sym (word_place b.share b.stored) ∙ sym e ∙ word_place j place)) ∙ table.shape_words j s (back j s now) told place lt;
      turns = λ j s now told. keeps_k (gate_at j + 5) (λ e. busy_slot members j 5 (1 + b.stored) s h busy b team opening is (back j s now) (omega arith) (omega arith) (sym (word_place b.share b.stored) ∙ sym e)) ∙ table.turns j s (back j s now) told;
      taken = λ d e. subst (λ (y : BusySlot). slice_index (set words w x) (gate_at y.share) ≡ opening_word y.share) (same_Some c d e) (subst (λ (n : ℕ). slice_index (set words w x) (gate_at n) ≡ opening_word n) (sym number)
          (keeps_k (gate_at b.share) (λ z. other_place b.share b.share (1 + b.stored) 0 (omega arith) (omega arith) (λ z. omega arith) (sym (gate_place b.share) ∙ z ∙ word_place b.share b.stored)) ∙ table.taken b is));
      stored = λ d e. subst (λ (y : BusySlot). (place : ℕ) → place < y.stored → slice_index (set words w x) (gate_at y.share + 1 + place) ≡ shape_word place y.shape) (sym next ∙ same_Some c d e)
          (stored_words words b (set words w x) (table.stored b is) (λ place lt. keeps_k (gate_at b.share + 1 + place) (λ z. let d : gate_at b.share + 1 + place ≡ gate_at b.share + 1 + b.stored = z in omega arith)) (read_here words w x (omega arith)));
      empty = λ j low fresh idle. keeps_k (gate_at j) (λ e. other_place b.share j (1 + b.stored) 0 (omega arith) (omega arith) (λ z. omega arith) (sym (gate_place j) ∙ e ∙ word_place b.share b.stored)) ∙ table.empty j low fresh (ap (λ (o : Option BusySlot). is_busy o j) is ∙ ap (λ (n : ℕ). n == j) (sym number) ∙ idle);
    }

pub table_equal : (members : ℕ) (b c : BusySlot) (words : List ℕ) (h : List Event) (busy : Option BusySlot) → IsTable members words h busy → busy ≡ Some b → c ≡ record b { stored = b.stored + 1 } → slice_index words (gate_at b.share + 1 + b.stored) ≡ shape_word b.stored b.shape →
    IsTable members words h (Some c)
table_equal members b c words h busy table is next same =
    let number : c.share ≡ b.share = ap (λ (y : BusySlot). y.share) next in
    let back : (j : ℕ) (s : Shape) → IsCurrent j s h (Some c) → IsCurrent j s h busy = λ j s now. subst (λ (o : Option BusySlot). IsCurrent j s h o) (sym is) (current_same j s h b c number now) in record {
      long = table.long;
      size = table.size;
      gates = λ j s now. table.gates j s (back j s now);
      shape_words = λ j s now. table.shape_words j s (back j s now);
      turns = λ j s now told. table.turns j s (back j s now) told;
      taken = λ d e. subst (λ (y : BusySlot). slice_index words (gate_at y.share) ≡ opening_word y.share) (same_Some c d e) (subst (λ (n : ℕ). slice_index words (gate_at n) ≡ opening_word n) (sym number) (table.taken b is));
      stored = λ d e. subst (λ (y : BusySlot). (place : ℕ) → place < y.stored → slice_index words (gate_at y.share + 1 + place) ≡ shape_word place y.shape) (sym next ∙ same_Some c d e)
          (stored_words words b words (table.stored b is) (λ place lt. refl) same);
      empty = λ j low fresh idle. table.empty j low fresh (ap (λ (o : Option BusySlot). is_busy o j) is ∙ ap (λ (n : ℕ). n == j) (sym number) ∙ idle);
    }

-- the share is opened
none_static : (b : Bool) (n : ℕ) → n ≡ 0 → (if b then 0 else n) ≡ 0
none_static true n e = refl
none_static false n e = e

word_of_none : (p r t l c : ℕ) → t ≡ 0 → l ≡ 0 → c ≡ 0 → gate_word p r 0 0 0 ≡ gate_word p r t l c
word_of_none p r t l c a b d = omega arith

-- nobody has claimed a piece of it
pub no_tickets : (members i : ℕ) (kind : ShareKind) (h : List Event) → IsTeam members h → shape_at i h ≡ None → tickets members i kind h ≡ 0
no_tickets members i kind h team none =
    let clear = no_events_of members i h team.rule none in
    let known : count_members members (λ k. was_drained i k h) ≡ 0 = count_none members (λ k. was_drained i k h) (λ k lt. clear.drained k) in
    let takes = clear.takes in
    none_static (is_static kind) (taken_of i h + count_members members (λ k. was_drained i k h)) (omega arith)

new_gate : (members i : ℕ) (shape : Shape) (h : List Event) → IsTeam members h → shape_at i h ≡ None → open_word (is_bare_single shape) i ≡ gate_of members i shape h
new_gate members i shape h team none =
    let clear = no_events_of members i h team.rule none in
    word_of_none (phase_for shape) (round_for i) (tickets members i shape.kind h) (left_count members i h) (bit_of (share_cancelled i h))
    (no_tickets members i shape.kind h team none)
    (count_none members (λ k. has_ended i k h) (λ k lt. clear.ended k))
    (ap bit_of clear.whole)

none_else : (b : Bool) (shape : Shape) (o : Option Shape) → (if b then Some shape else o) ≡ None → (b ≡ false) × (o ≡ None)
none_else true shape o e = absurd (cc)
none_else false shape o e = (refl, e)

pub table_publish : (members m : ℕ) (b : BusySlot) (words : List ℕ) (h : List Event) (busy : Option BusySlot) → IsTeam members h → IsTable members words h busy → IsOpening members h busy → busy ≡ Some b → (is_bare_single b.shape ≡ false → b.stored ≡ 5) →
    IsTable members (set words (gate_at b.share) (open_word (is_bare_single b.shape) b.share)) (Enter b.share m b.shape ∷ h) None
table_publish members m b words h busy team table opening is full =
    let long = table.long in
    let w : ℕ = gate_at b.share in
    let x : ℕ = open_word (is_bare_single b.shape) b.share in
    let after : List Event = Enter b.share m b.shape ∷ h in
    let fresh = opening.fresh b is in
    let keeps_k : (k : ℕ) → k ≢ w → slice_index (set words w x) k ≡ slice_index words k = λ k differ. read_other words w k x differ in record {
      long = length-set words w x ∙ table.long;
      size = keeps_k 0 (λ e. omega arith) ∙ table.size;
      gates = λ j s now. elim (which j s now) [
        | inl new ↦ subst (λ (q : Shape). slice_index (set words w x) (gate_at j) ≡ gate_of members j q after) new.1 (subst (λ (n : ℕ). slice_index (set words w x) (gate_at n) ≡ gate_of members n b.shape after) new.0 (read_here words w x (omega arith) ∙ new_gate members b.share b.shape h team fresh))
        | inr old ↦ keeps_k (gate_at j) (λ e. busy_slot members j 0 0 s h busy b team opening is old (omega arith) (omega arith) (sym (gate_place b.share) ∙ sym e ∙ gate_place j)) ∙ table.gates j s old
      ];
      shape_words = λ j s now told place lt. keeps_k (gate_at j + 1 + place) (λ e. other_place b.share j 0 (1 + place) (omega arith) (omega arith) (λ z. omega arith) (sym (word_place j place) ∙ e ∙ gate_place b.share)) ∙ elim (which j s now) [
        | inl new ↦ let all = full (ap is_bare_single new.1 ∙ told) in subst (λ (n : ℕ). slice_index words (gate_at n + 1 + place) ≡ shape_word place s) new.0 (subst (λ (t : Shape). slice_index words (gate_at b.share + 1 + place) ≡ shape_word place t) new.1 (table.stored b is place (omega arith)))
        | inr old ↦ table.shape_words j s old told place lt
      ];
      turns = λ j s now told. keeps_k (gate_at j + 5) (λ e. other_place b.share j 0 5 (omega arith) (omega arith) (λ z. omega arith) (e ∙ gate_place b.share)) ∙ elim (which j s now) [
        | inl new ↦ let all = full (ap is_bare_single new.1 ∙ told) in subst (λ (n : ℕ). slice_index words (gate_at n + 5) ≡ turn n h) new.0 (ap (slice_index words) (five b.share) ∙ table.stored b is 4 (omega arith) ∙ sym (no_events_of members b.share h team.rule fresh).turned)
        | inr old ↦ table.turns j s old told
      ];
      taken = λ d e. absurd (none-some d e);
      stored = λ d e. absurd (none-some d e);
      empty = λ j low none idle.
          let p = none_else (b.share == j) b.shape (shape_at j h) none in
          let was : is_busy busy j ≡ false = ap (λ (o : Option BusySlot). is_busy o j) is ∙ p.0 in
          keeps_k (gate_at j) (λ e. unequal_numbers b.share j p.0 (busy_low j low p.1 e)) ∙ table.empty j low p.1 was;
    }
  where
    five : (i : ℕ) → gate_at i + 5 ≡ gate_at i + 1 + 4
    five i = omega arith

    which : (j : ℕ) (s : Shape) → IsCurrent j s (Enter b.share m b.shape ∷ h) None → ((b.share ≡ j) × (b.shape ≡ s)) ⊎ IsCurrent j s h busy
    which j s now =
        let p = none_else (b.share == j + 8) b.shape (shape_at (j + 8) h) now.next in
        elim (which_branch (b.share == j) (Some b.shape) (shape_at j h) (Some s) now.shape_is) [
          | inl e ↦ inl (is_equal b.share j e.0, same_Some b.shape s e.1)
          | inr e ↦ inr (record { shape_is = e.1; next = p.1; free = ap (λ (o : Option BusySlot). is_busy o (j + 8)) is ∙ p.0 })
        ]

    busy_low : (j : ℕ) → j < 8 → shape_at j h ≡ None → gate_at j ≡ gate_at b.share → b.share ≡ j
    busy_low j low none w =
        let same : j % 8 ≡ b.share % 8 = (apart_words j b.share 0 0 (omega arith) (omega arith) (sym (gate_place j) ∙ w ∙ gate_place b.share)).0 in
        elim (cases_lt b.share 8) [
          | inl lt ↦ omega arith
          | inr ge ↦ absurd (empty_far members b.share j h team (opening.room b is) same low (omega arith) none)
        ]
