-- The steps by which a member of a share claims a piece of it, or takes its next one of a static share.
use Rattle.std.proofs.Common.{◌≡◌, ◌≢◌, ℕ, ◌+◌, ◌%◌, ◌^◌, ◌<◌, ◌≤◌, Bool, true, false, List, [], ◌∷◌, length, set, slice_get, Option, Some, None, inl, inr, refl, ap, sym, ◌∙◌, subst, arith, slice_index}
use Rattle.std.specs.Prelude.{◌==◌, ◌&&◌, if◌then◌else◌}
use Rattle.std.proofs.lemmas.Bool.{cases_Bool, cases_lt}
use Rattle.std.proofs.lemmas.Option.{slice_get_past, slice_get_within, same_Some}
use mathlib.Core.Option.{some}
use lib.ListN.{get_elem?}
use Rattle.atomic_table.specs.Table.{Me, Step, keeps, Allows}
use Rattle.gomp_types.specs.declared.shape.Shape.{Shape}
use Rattle.gomp_types.specs.declared.shape.ShareKind.{ShareKind}
use Rattle.gomp_events.specs.declared.event.Event.{Event}
use Rattle.gomp_events.specs.declared.event.Event.TheVariants.{Take, Drained}
use Rattle.gomp_types.specs.Shapes.{is_static}
use Rattle.gomp_types.specs.Pieces.{Piece, pieces_of}
use Rattle.gomp_events.specs.Events.{open_share, shape_at, has_ended, has_drained, in_part, member_of, turn}
use Rattle.gomp_events.specs.Cancels.{share_cancelled}
use Rattle.gomp_types.specs.Deals.{schedule, queues_of}
use Rattle.gomp_events.specs.Takes.{next_for, taken_in}
use Rattle.gomp_events.specs.Laws.{Always}
use Rattle.gomp_events.specs.Seen.{seen_of}
use Rattle.gomp_events.specs.declared.seen.Seen.{Seen}
use Rattle.gomp_types.specs.declared.shape.ShareKind.TheVariants.{StaticChunked, StaticEven}
use Rattle.gomp_types.proofs.Booleans.{same_number, other_number, is_equal, share_is, not_both}
use Rattle.gomp_types.proofs.Tiling.{still_past}
use Rattle.gomp_shares.specs.Calls.{taken_of}
use Rattle.gomp_shares.specs.Rules.{MayTake, HasNone, ShareRule}
use Rattle.gomp_shares.specs.Only.{own_of}
use Rattle.gomp_shares.proofs.SharesKeep.{member_is_inside}
use Rattle.gomp_gate.specs.Gates.{round_for, gate_word, ticket_of, phase_for, is_bare_single}
use Rattle.gomp_gate.specs.Shapes.{bit_of}
use Rattle.gomp_gate.proofs.Gates.{claim_word}
use Rattle.gomp_slots.specs.declared.view.TeamSize.{TeamSize}
use Rattle.gomp_slots.specs.declared.view.View.{View}
use Rattle.gomp_slots.specs.Words.{gate_at, count_members, was_drained, tickets, left_count, gate_of, BusySlot, IsCurrent, IsTable}
use Rattle.gomp_slots.specs.Rule.{IsTeam, stands_for, Knows, IsRing, IsKept}
use Rattle.gomp_slots.specs.Premises.{MayClaim, MayAssign}
use Rattle.gomp_slots.specs.Calls.{piece_of, claim_event, own_next}
use Rattle.gomp_slots.specs.Plays.{ClaimStep, AssignStep}
use Rattle.gomp_slots.proofs.Counts.{bit_most, count_most, count_one_more, count_some}
use Rattle.gomp_slots.proofs.History.{next_in_line, all_spent, drained_is_known}
use Rattle.gomp_slots.proofs.SlotShares.{few_tickets, gate_is}
use Rattle.gomp_slots.proofs.WordSteps.{seat_sees, inside_is_current, IsMemberStep, ring_still, ring_gate, ring_of_size, kept_acted}
use Rattle.gomp_gate.proofs.Shapes.{phase_open}

-- Tickets

-- a claim that takes a piece is one more
pub tickets_taken : (members i m low high : ℕ) (kind : ShareKind) (h : List Event) → is_static kind ≡ false → tickets members i kind (Take i m low high ∷ h) ≡ tickets members i kind h + 1
tickets_taken members i m low high kind h queue =
    rw (queue, same_number i) (let d : ℕ = count_members members (λ k. was_drained i k h) in let t : ℕ = taken_of i h in more t d)
  where
    more : (t d : ℕ) → t + 1 + d ≡ t + d + 1
    more t d = omega arith

gate_taken_else : (members i m low high j : ℕ) (shape : Shape) (h : List Event) → j ≢ i → gate_of members j shape (Take i m low high ∷ h) ≡ gate_of members j shape h
gate_taken_else members i m low high j shape h other = rw (other_number i j (λ e. other (sym e))) refl

-- and so is one by which a member learns that none is left
pub tickets_drained : (members i m : ℕ) (kind : ShareKind) (h : List Event) → is_static kind ≡ false → m < members → was_drained i m h ≡ false → tickets members i kind (Drained i m ∷ h) ≡ tickets members i kind h + 1
tickets_drained members i m kind h queue lt was =
    let one : count_members members (λ k. was_drained i k (Drained i m ∷ h)) ≡ count_members members (λ k. was_drained i k h) + 1 =
    count_one_more members m (λ k. was_drained i k h) (λ k. was_drained i k (Drained i m ∷ h)) lt was (rw (same_number i, same_number m) refl) (λ k other. rw (same_number i, other_number m k (λ e. other (sym e))) refl) in
    rw queue (more (taken_of i h) (count_members members (λ k. was_drained i k h)) (count_members members (λ k. was_drained i k (Drained i m ∷ h))) one)
  where
    more : (t d e : ℕ) → e ≡ d + 1 → t + e ≡ t + d + 1
    more t d e is = omega arith

gate_drained_else : (members i m j : ℕ) (shape : Shape) (h : List Event) → j ≢ i → gate_of members j shape (Drained i m ∷ h) ≡ gate_of members j shape h
gate_drained_else members i m j shape h other = rw (other_number i j (λ e. other (sym e))) refl

-- A claim

-- if a piece is left, nobody has learned that none is
pub none_drained : (members i : ℕ) (shape : Shape) (h : List Event) → Always (ShareRule (schedule members) members) h → shape_at i h ≡ Some shape → is_static shape.kind ≡ false →
    taken_of i h < length (pieces_of members shape) → count_members members (λ m. was_drained i m h) ≡ 0
none_drained members i shape h all at queue lt = elim (cases_lt 0 (count_members members (λ m. was_drained i m h))) [
  | inl any ↦
      let one = count_some members (λ m. was_drained i m h) any in
      let past = all_spent members i one.0 shape h all at queue one.2 in
      absurd (omega arith)
  | inr nobody ↦ omega arith
]

-- if none is left, all were taken
pub all_taken : (members i : ℕ) (shape : Shape) (h : List Event) → IsTeam members h → shape_at i h ≡ Some shape → is_static shape.kind ≡ false →
    length (pieces_of members shape) ≤ taken_of i h + count_members members (λ m. was_drained i m h) → length (pieces_of members shape) ≤ taken_of i h
all_taken members i shape h team at queue le = elim (cases_lt 0 (count_members members (λ m. was_drained i m h))) [
  | inl any ↦ let one = count_some members (λ m. was_drained i m h) any in all_spent members i one.0 shape h team.rule at queue one.2
  | inr nobody ↦ omega arith
]

-- there are no others
pub tickets_are : (members i : ℕ) (kind : ShareKind) (h : List Event) → is_static kind ≡ false → tickets members i kind h ≡ taken_of i h + count_members members (λ m. was_drained i m h)
tickets_are members i kind h queue = rw queue refl

-- the gate after it
claimed_word : (members i : ℕ) (shape : Shape) (words : List ℕ) (h after : List Event) (busy : Option BusySlot) → IsTeam members h → IsTable members words h busy → IsCurrent i shape h busy → tickets members i shape.kind after ≡ tickets members i shape.kind h + 1 → left_count members i after ≡ left_count members i h → share_cancelled i after ≡ share_cancelled i h →
    (slice_index words (gate_at i) + 1) % 2 ^ 64 ≡ gate_of members i shape after
claimed_word members i shape words h after busy team table now one left cancelled =
    let few = few_tickets members i shape h team now.shape_is in
    let most = count_most members (λ m. has_ended i m h) in
    let size = team.few_members in
    let bit = bit_most (share_cancelled i h) in
    ap (λ (n : ℕ). (n + 1) % 2 ^ 64) (table.gates i shape now)
    ∙ claim_word (phase_for shape) (round_for i) (tickets members i shape.kind h) (left_count members i h) (bit_of (share_cancelled i h)) (phase_open (is_bare_single shape)).1 few (omega arith) (omega arith) (omega arith)
    ∙ ap (λ (n : ℕ). gate_word (phase_for shape) (round_for i) n (left_count members i h) (bit_of (share_cancelled i h))) (sym one)
    ∙ ap (λ (n : ℕ). gate_word (phase_for shape) (round_for i) (tickets members i shape.kind after) n (bit_of (share_cancelled i h))) (sym left)
    ∙ ap (λ (b : Bool). gate_word (phase_for shape) (round_for i) (tickets members i shape.kind after) (left_count members i after) (bit_of b)) (sym cancelled)

take_ring : (members id m i : ℕ) (shape : Shape) (piece : Piece) (words : List ℕ) (views : List View) (v : View) (h : List Event) (busy : Option BusySlot) → IsRing members words views h busy → get_elem? views id ≡ some v → stands_for v m ≡ true →
    open_share m h ≡ Some (i, shape) → is_static shape.kind ≡ false → in_part m h ≡ false → slice_get (pieces_of members shape) (tickets members i shape.kind h) ≡ Some piece →
    IsRing members (set words (gate_at i) ((slice_index words (gate_at i) + 1) % 2 ^ 64)) (set views id (record v { did = Take i m piece.0 piece.1 ∷ v.did; found = None })) (Take i m piece.0 piece.1 ∷ h) busy
take_ring members id m i shape piece words views v h busy ring at stands inside queue apart next =
    let now = inside_is_current members m i shape words views h busy ring inside in
    let here = now.shape_is in
    let are = tickets_are members i shape.kind h queue in
    let within = slice_get_within (pieces_of members shape) (tickets members i shape.kind h) piece next in
    let nobody = none_drained members i shape h ring.team.rule here queue (let a : tickets members i shape.kind h ≡ taken_of i h + count_members members (λ k. was_drained i k h) = are in omega arith) in
    let same : tickets members i shape.kind h ≡ taken_of i h = (let a : tickets members i shape.kind h ≡ taken_of i h + count_members members (λ k. was_drained i k h) = are in omega arith) in
    let may : MayTake (schedule members) i m piece.0 piece.1 h = record { shape = shape; inside = inside; next = next_in_line members m i shape h queue ∙ sym (ap (slice_get (pieces_of members shape)) same) ∙ next; apart = apart } in
    ring_gate members id m i ((slice_index words (gate_at i) + 1) % 2 ^ 64) shape (Take i m piece.0 piece.1) words views v h busy ring at stands (record { who = refl; rule = may; once = tt; own = refl; shapes = λ j. refl }) inside
    (λ j s other. gate_taken_else members i m piece.0 piece.1 j s h other) (λ j. refl)
    (claimed_word members i shape words h (Take i m piece.0 piece.1 ∷ h) busy ring.team ring.table now (tickets_taken members i m piece.0 piece.1 shape.kind h queue) refl refl)

drain_ring : (members id m i : ℕ) (shape : Shape) (words : List ℕ) (views : List View) (v : View) (h : List Event) (busy : Option BusySlot) → IsRing members words views h busy → get_elem? views id ≡ some v → stands_for v m ≡ true → m < members →
    open_share m h ≡ Some (i, shape) → is_static shape.kind ≡ false → has_drained m h ≡ false → in_part m h ≡ false → slice_get (pieces_of members shape) (tickets members i shape.kind h) ≡ None →
    IsRing members (set words (gate_at i) ((slice_index words (gate_at i) + 1) % 2 ^ 64)) (set views id (record v { did = Drained i m ∷ v.did; found = None })) (Drained i m ∷ h) busy
drain_ring members id m i shape words views v h busy ring at stands lt inside queue more apart next =
    let now = inside_is_current members m i shape words views h busy ring inside in
    let here = now.shape_is in
    let are : tickets members i shape.kind h ≡ taken_of i h + count_members members (λ k. was_drained i k h) = tickets_are members i shape.kind h queue in
    let past : length (pieces_of members shape) ≤ tickets members i shape.kind h = still_past (pieces_of members shape) (tickets members i shape.kind h) next in
    let all = all_taken members i shape h ring.team here queue (omega arith) in
    let may : HasNone (schedule members) i m h = record { shape = shape; inside = inside; none = next_in_line members m i shape h queue ∙ slice_get_past (pieces_of members shape) (taken_of i h) all; apart = apart } in
    let first : was_drained i m h ≡ false = drained_is_known members m i shape h ring.team.rule inside ∙ more in
    ring_gate members id m i ((slice_index words (gate_at i) + 1) % 2 ^ 64) shape (Drained i m) words views v h busy ring at stands (record { who = refl; rule = may; once = λ other at_other is. first; own = refl; shapes = λ j. refl }) inside
    (λ j s other. gate_drained_else members i m j s h other) (λ j. refl)
    (claimed_word members i shape words h (Drained i m ∷ h) busy ring.team ring.table now (tickets_drained members i m shape.kind h queue lt first) refl refl)

pub claim_ring : (members id m i : ℕ) (shape : Shape) (piece : Option Piece) (words : List ℕ) (views : List View) (v : View) (h : List Event) (busy : Option BusySlot) → IsRing members words views h busy → get_elem? views id ≡ some v → stands_for v m ≡ true → m < members →
    open_share m h ≡ Some (i, shape) → is_static shape.kind ≡ false → has_drained m h ≡ false → in_part m h ≡ false → slice_get (pieces_of members shape) (tickets members i shape.kind h) ≡ piece →
    IsRing members (set words (gate_at i) ((slice_index words (gate_at i) + 1) % 2 ^ 64)) (set views id (record v { did = claim_event i m piece ∷ v.did; found = None })) (claim_event i m piece ∷ h) busy
claim_ring members id m i shape (Some piece) words views v h busy ring at stands lt inside queue more apart next = take_ring members id m i shape piece words views v h busy ring at stands inside queue apart next
claim_ring members id m i shape None words views v h busy ring at stands lt inside queue more apart next = drain_ring members id m i shape words views v h busy ring at stands lt inside queue more apart next

pub claim_allowed : (members id m i slots : ℕ) (me : Me Shape View) (team : TeamSize) (st : Step Shape) → team.members ≡ members → MayClaim members m i me.0 →
    Allows (IsKept team) slots id me (gate_at i) (λ n. (n + 1) % 2 ^ 64) (ClaimStep members m i st me)
claim_allowed members id m i slots me team st same may s kept homes at bound =
    let v : View = me.0 in
    let h : List Event = kept.events in
    let ring : IsRing members s.words s.views h kept.busy = subst (λ (n : ℕ). IsRing n s.words s.views h kept.busy) same kept.ring in
    let mine : Knows v h = ring.seats.knows id v at in
    let is : seen_of m v.did ≡ seen_of m h = seat_sees m v h mine may.at.stands in
    let shape : Shape = may.at.shape in
    let inside : open_share m h ≡ Some (i, shape) = sym (ap (λ (x : Seen). x.current) is) ∙ may.at.inside in
    let now = inside_is_current members m i shape s.words s.views h kept.busy ring inside in
    let found : ℕ = slice_index s.words (gate_at i) in
    let ticket : ticket_of found ≡ tickets members i shape.kind h = ap ticket_of (ring.table.gates i shape now) ∙ (gate_is members i shape h ring.team now.shape_is).ticket_is in
    let piece : Option Piece = piece_of members (open_share m v.did) (ticket_of found) in
    let piece_is : slice_get (pieces_of members shape) (tickets members i shape.kind h) ≡ piece =
    sym (ap (λ (o : Option (ℕ × Shape)). piece_of members o (ticket_of found)) may.at.inside ∙ ap (slice_get (pieces_of members shape)) ticket) in
    let next = claim_ring members id m i shape piece s.words s.views v h kept.busy ring at may.at.stands may.at.member inside may.queue (sym (ap (λ (x : Seen). x.drained) is) ∙ may.more) (sym (ap (λ (x : Seen). x.in_part) is) ∙ may.apart) piece_is in (
      record v { did = claim_event i m piece ∷ v.did; found = None },
      keeps,
      tt,
      record { events = claim_event i m piece ∷ h; busy = kept.busy; ring = subst (λ (n : ℕ). IsRing n (set s.words (gate_at i) ((found + 1) % 2 ^ 64)) (set s.views id (record v { did = claim_event i m piece ∷ v.did; found = None })) (claim_event i m piece ∷ h) kept.busy) (sym same) next },
      (
        record {
          acts = record { events = h; knows = mine; rule = next.team.rule; after = refl };
          ticket = λ other inside_other. ticket ∙ ap (λ (x : Shape). tickets members i x.kind h) (share_is i i shape other (sym may.at.inside ∙ inside_other)).1;
        },
        refl,
      ),
    )

-- Pieces of a static share

pub taken_own : (i m : ℕ) (h : List Event) → taken_in (λ k. k) i m (own_of m h) ≡ taken_in (λ k. k) i m h
taken_own i m [] = refl
taken_own i m (Take share k low high ∷ h) = elim (cases_Bool (k == m)) [
  | inl e ↦ rw e (rw e (ap (λ (n : ℕ). if share == i && true then n + 1 else n) (taken_own i m h)))
  | inr e ↦ rw (e, off (share == i)) (taken_own i m h)
]
  where
    off : (b : Bool) → (b && false) ≡ false
    off true = refl
    off false = refl
taken_own i m (event ∷ h) = elim (cases_Bool (member_of event == m)) [
  | inl e ↦ rw e (taken_own i m h)
  | inr e ↦ rw e (taken_own i m h)
]

next_by_kind : (members m i : ℕ) (kind : ShareKind) (shape : Shape) (one other : List Event) → is_static kind ≡ true → taken_in (λ k. k) i m one ≡ taken_in (λ k. k) i m other →
    slice_get ((queues_of members kind).queue shape ((queues_of members kind).queue_of shape m)) (taken_in ((queues_of members kind).queue_of shape) i ((queues_of members kind).queue_of shape m) one)
    ≡ slice_get ((queues_of members kind).queue shape ((queues_of members kind).queue_of shape m)) (taken_in ((queues_of members kind).queue_of shape) i ((queues_of members kind).queue_of shape m) other)
next_by_kind members m i StaticChunked shape one other e same = ap (slice_get ((queues_of members StaticChunked).queue shape ((queues_of members StaticChunked).queue_of shape m))) same
next_by_kind members m i StaticEven shape one other e same = ap (slice_get ((queues_of members StaticEven).queue shape ((queues_of members StaticEven).queue_of shape m))) same
next_by_kind members m i _ shape one other e same = absurd (cc)

-- a member's own events tell its next piece of a static share
pub next_own : (members m i : ℕ) (shape : Shape) (v : View) (h : List Event) → Knows v h → stands_for v m ≡ true → is_static shape.kind ≡ true → next_for (schedule members) shape i m v.did ≡ next_for (schedule members) shape i m h
next_own members m i shape v h mine stands static =
    next_by_kind members m i shape.kind shape v.did h static (sym (taken_own i m v.did) ∙ ap (taken_in (λ k. k) i m) (mine.own m stands) ∙ taken_own i m h)

static_gates : (members i m : ℕ) (piece : Option Piece) (shape : Shape) (h : List Event) → is_static shape.kind ≡ true → shape_at i h ≡ Some shape → (j : ℕ) (s : Shape) → shape_at j h ≡ Some s → gate_of members j s (claim_event i m piece ∷ h) ≡ gate_of members j s h
static_gates members i m piece shape h static here j s there = elim (cases_Bool (i == j)) [
  | inl e ↦
      let same : shape ≡ s = same_Some shape s (sym here ∙ ap (λ (n : ℕ). shape_at n h) (is_equal i j e) ∙ there) in
      by_piece piece (ap (λ (x : Shape). is_static x.kind) (sym same) ∙ static)
  | inr e ↦ apart piece e
]
  where
    by_piece : (p : Option Piece) → is_static s.kind ≡ true → gate_of members j s (claim_event i m p ∷ h) ≡ gate_of members j s h
    by_piece (Some p) is = rw is refl
    by_piece None is = rw is refl

    apart : (p : Option Piece) → (i == j) ≡ false → gate_of members j s (claim_event i m p ∷ h) ≡ gate_of members j s h
    apart (Some p) e = rw e refl
    apart None e = rw e refl

-- the event of a static share's piece, of which a member may learn more than once that none is left
static_claim : (members m i : ℕ) (shape : Shape) (piece : Option Piece) (h : List Event) → is_static shape.kind ≡ true → shape_at i h ≡ Some shape → open_share m h ≡ Some (i, shape) → next_for (schedule members) shape i m h ≡ piece → in_part m h ≡ false → IsMemberStep members m (claim_event i m piece) h
static_claim members m i shape (Some piece) h static here inside next apart = record { who = refl; rule = record { shape = shape; inside = inside; next = next; apart = apart }; once = tt; own = refl; shapes = λ j. refl }
static_claim members m i shape None h static here inside next apart = record { who = refl; rule = record { shape = shape; inside = inside; none = next; apart = apart }; once = λ other at queue. absurd (not_both (is_static other.kind) (ap (λ (s : Shape). is_static s.kind) (same_Some other shape (sym at ∙ here)) ∙ static) queue); own = refl; shapes = λ j. refl }

claim_turn : (i m : ℕ) (piece : Option Piece) (h : List Event) (j : ℕ) → turn j (claim_event i m piece ∷ h) ≡ turn j h
claim_turn i m (Some piece) h j = refl
claim_turn i m None h j = refl

pub assign_allowed : (members id m i w slots : ℕ) (me : Me Shape View) (team : TeamSize) (st : Step Shape) → team.members ≡ members → MayAssign members m i me.0 →
    Allows (IsKept team) slots id me w (λ n. n) (AssignStep members m i st me)
assign_allowed members id m i w slots me team st same may s kept homes at bound =
    let v : View = me.0 in
    let h : List Event = kept.events in
    let ring : IsRing members s.words s.views h kept.busy = ring_of_size members team s.words s.views h kept.busy same kept.ring in
    let mine : Knows v h = ring.seats.knows id v at in
    let is : seen_of m v.did ≡ seen_of m h = seat_sees m v h mine may.at.stands in
    let inside : open_share m h ≡ Some (i, may.at.shape) = sym (ap (λ (x : Seen). x.current) is) ∙ may.at.inside in
    let piece : Option Piece = own_next members m v.did (open_share m v.did) in
    let next : next_for (schedule members) may.at.shape i m h ≡ piece = sym (ap (own_next members m v.did) may.at.inside ∙ next_own members m i may.at.shape v h mine may.at.stands may.static) in
    let here = (member_is_inside (schedule members) members m i may.at.shape h ring.team.rule inside).0 in
    let u : View = record v { did = claim_event i m piece ∷ v.did; found = None } in
    let after = ring_still members id m (claim_event i m piece) s.words s.views v h kept.busy ring at may.at.stands (static_claim members m i may.at.shape piece h may.static here inside next (sym (ap (λ (x : Seen). x.in_part) is) ∙ may.apart)) (static_gates members i m piece may.at.shape h may.static here) (claim_turn i m piece h) in (
      u,
      keeps,
      tt,
      kept_acted members id w me.1 u team s (claim_event i m piece ∷ h) kept.busy same after,
      (record { events = h; knows = mine; rule = after.team.rule; after = refl }, refl),
    )
