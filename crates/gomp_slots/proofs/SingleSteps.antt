-- The steps by which a member goes through a bare single: one write enters the share, claims its one piece, and leaves it.
use Rattle.std.proofs.Common.{◌≡◌, ℕ, zero, suc, ◌+◌, ◌%◌, ◌^◌, ◌<◌, ◌≤◌, Bool, true, false, List, [], ◌∷◌, set, slice_get, Option, Some, None, inl, refl, ap, sym, ◌∙◌, subst, arith, slice_index}
use Rattle.std.specs.Prelude.{◌==◌}
use Rattle.std.proofs.lemmas.Option.{slice_get_past, same_Some}
use prog.Atomic.{either}
use mathlib.Core.Option.{none, some}
use lib.ListN.{get_elem?}
use Rattle.atomic_table.specs.Table.{Me, Act, Step, step, keeps, stepped, Allows, Valid, carried_after}
use Rattle.atomic_table.proofs.Lists.{set_again, set_here}
use Rattle.gomp_types.specs.declared.shape.Shape.{Shape}
use Rattle.gomp_types.specs.declared.shape.ShareKind.TheVariants.{Single}
use Rattle.gomp_events.specs.declared.event.Event.{Event}
use Rattle.gomp_events.specs.declared.event.Event.TheVariants.{Enter, End}
use Rattle.gomp_types.specs.Pieces.{pieces_of}
use Rattle.gomp_types.specs.Singles.{single_shape}
use Rattle.gomp_events.specs.Events.{shares_entered, open_share, shape_at, has_drained, in_part}
use Rattle.gomp_types.specs.Deals.{schedule}
use Rattle.gomp_events.specs.Seen.{seen_of}
use Rattle.gomp_types.proofs.Booleans.{same_number, other_number, is_equal, not_both}
use Rattle.gomp_shares.specs.Calls.{CanOpen, taken_of}
use Rattle.gomp_shares.specs.Rules.{MayLeaveShare}
use Rattle.gomp_gate.specs.Gates.{round_for, gate_word, opening_word, open_word, passed_word, is_free_for, ticket_of}
use Rattle.gomp_gate.proofs.Gates.{pass_word}
use Rattle.gomp_slots.specs.declared.view.TeamSize.{TeamSize}
use Rattle.gomp_slots.specs.declared.view.View.{View}
use Rattle.gomp_slots.specs.Words.{gate_at, tickets, BusySlot}
use Rattle.gomp_slots.specs.Rule.{FitsWords, IsTeam, stands_for, Knows, IsRing, IsKept}
use Rattle.gomp_slots.specs.Premises.{IsBeforeShare}
use Rattle.gomp_slots.specs.Calls.{claim_event, single_piece, events_through}
use Rattle.gomp_slots.specs.Plays.{PassStep, TakeSingleStep}
use Rattle.gomp_slots.proofs.History.{next_in_line}
use Rattle.gomp_slots.proofs.SlotShares.{free_may_take, gate_is}
use Rattle.gomp_slots.proofs.Tables.{read_here, no_tickets}
use Rattle.gomp_slots.proofs.SeatViews.{elem_within}
use Rattle.gomp_slots.proofs.WordSteps.{seat_sees, inside_is_current, ring_still, written_again, ring_again, ring_of_size}
use Rattle.gomp_slots.proofs.ClaimSteps.{claim_ring, all_taken, tickets_are}
use Rattle.gomp_slots.proofs.LeaveSteps.{leave_ring}
use Rattle.gomp_slots.proofs.EnterSteps.{entered_same, alone_gate, entry_rule, room_of, found_is_current, same_shapes_after}
use Rattle.gomp_slots.proofs.OpenSteps.{took_ring, publish_ring}

-- Two writes of one word, or of one view, are one

written_twice : {A : Type 0} (xs : List A) (k : ℕ) (a b : A) → set (set xs k a) k b ≡ set xs k b
written_twice {A = A} [] k a b = refl
written_twice {A = A} (x ∷ xs) zero a b = refl
written_twice {A = A} (x ∷ xs) (suc k) a b = ap (λ (l : List A). x ∷ l) (written_twice xs k a b)

one_sum : (w : ℕ) → ((w + 1) % 2 ^ 64 + 2 ^ 40) % 2 ^ 64 ≡ (w + 0x10000000001) % 2 ^ 64
one_sum w = omega arith

-- The one piece

-- it is that of ticket 0
pub piece_of_single : (members n : ℕ) → slice_get (pieces_of members (single_shape false)) n ≡ single_piece (n == 0)
piece_of_single members zero = refl
piece_of_single members (suc n) = ap single_piece (sym (other_number (suc n) 0 (λ e. absurd (omega (arith, e)))))

-- the claim of it leaves the member where it is
inside_still : (executes : Bool) (i m : ℕ) (h : List Event) → open_share m (claim_event i m (single_piece executes) ∷ h) ≡ open_share m h
inside_still true i m h = refl
inside_still false i m h = refl

apart_still : (executes : Bool) (i m : ℕ) (h : List Event) → in_part m (claim_event i m (single_piece executes) ∷ h) ≡ in_part m h
apart_still true i m h = refl
apart_still false i m h = refl

-- and then it is taken
taken_then : (executes : Bool) (members i m : ℕ) (h : List Event) → IsTeam members h → shape_at i h ≡ Some (single_shape false) → (tickets members i Single h == 0) ≡ executes → 1 ≤ taken_of i (claim_event i m (single_piece executes) ∷ h)
taken_then true members i m h team at is = rw (same_number i) (let t : ℕ = taken_of i h in more t)
  where
    more : (t : ℕ) → 1 ≤ t + 1
    more t = omega arith
taken_then false members i m h team at is =
    let are = tickets_are members i Single h refl in
    all_taken members i (single_shape false) h team at refl (one_of _ _ are is)
  where
    one_of : (t n : ℕ) → t ≡ n → (t == 0) ≡ false → 1 ≤ n
    one_of zero n e off = absurd (cc)
    one_of (suc t) n e off = omega arith

-- Entered, claimed and left

through_ring : (members id m i : ℕ) (words : List ℕ) (views : List View) (v : View) (h : List Event) (busy : Option BusySlot) → IsRing members words views (Enter i m (single_shape false) ∷ h) busy → get_elem? views id ≡ some v → stands_for v m ≡ true → m < members →
    (executes : Bool) → (tickets members i Single h == 0) ≡ executes →
    IsRing members (set words (gate_at i) ((slice_index words (gate_at i) + 0x10000000001) % 2 ^ 64)) (set views id (record v { did = End i m ∷ claim_event i m (single_piece executes) ∷ v.did; found = None })) (events_through executes i m h) busy
through_ring members id m i words views v h busy ring at stands lt executes is =
    let g : ℕ = gate_at i in
    let w : ℕ = slice_index words (gate_at i) in
    let a : ℕ = (slice_index words (gate_at i) + 1) % 2 ^ 64 in
    let entered : List Event = Enter i m (single_shape false) ∷ h in
    let long = ring.table.long in
    let inside : open_share m (Enter i m (single_shape false) ∷ h) ≡ Some (i, single_shape false) = rw (same_number m) refl in
    let more : has_drained m (Enter i m (single_shape false) ∷ h) ≡ false = rw (same_number m) refl in
    let apart : in_part m (Enter i m (single_shape false) ∷ h) ≡ false = rw (same_number m) refl in
    let here = (inside_is_current members m i (single_shape false) words views (Enter i m (single_shape false) ∷ h) busy ring inside).shape_is in
    let next = piece_of_single members (tickets members i Single h) ∙ ap single_piece is in
    let claimed = claim_ring members id m i (single_shape false) (single_piece executes) words views v (Enter i m (single_shape false) ∷ h) busy ring at stands lt inside refl more apart next in
    let u : View = record v { did = claim_event i m (single_piece executes) ∷ v.did; found = None } in
    let u_at = set_here views id u (elem_within views id v at) in
    let still = inside_still executes i m (Enter i m (single_shape false) ∷ h) ∙ inside in
    let took = taken_then executes members i m (Enter i m (single_shape false) ∷ h) ring.team here is in
    let may : MayLeaveShare (schedule members) i m (claim_event i m (single_piece executes) ∷ Enter i m (single_shape false) ∷ h) = record {
      shape = single_shape false;
      inside = still;
      done = inl (next_in_line members m i (single_shape false) (claim_event i m (single_piece executes) ∷ Enter i m (single_shape false) ∷ h) refl ∙ slice_get_past (pieces_of members (single_shape false)) (taken_of i (claim_event i m (single_piece executes) ∷ Enter i m (single_shape false) ∷ h)) took);
      apart = apart_still executes i m (Enter i m (single_shape false) ∷ h) ∙ apart;
    } in
    let left = leave_ring members id m i (single_shape false) (set words g a) (set views id u) u (claim_event i m (single_piece executes) ∷ Enter i m (single_shape false) ∷ h) busy claimed u_at stands lt still may in
    let x : View = record v { did = End i m ∷ claim_event i m (single_piece executes) ∷ v.did; found = None } in
    let one_write : set (set words g a) g ((slice_index (set words g a) g + 2 ^ 40) % 2 ^ 64) ≡ set words g ((w + 0x10000000001) % 2 ^ 64) =
    ap (λ (n : ℕ). set (set words g a) g ((n + 2 ^ 40) % 2 ^ 64)) (read_here words g a (omega arith)) ∙ written_twice words g a ((a + 2 ^ 40) % 2 ^ 64) ∙ ap (set words g) (one_sum w) in
    subst (λ (ws : List ℕ). IsRing members ws (set views id x) (events_through executes i m h) busy) one_write
    (subst (λ (vs : List View). IsRing members (set (set words g a) g ((slice_index (set words g a) g + 2 ^ 40) % 2 ^ 64)) vs (events_through executes i m h) busy) (written_twice views id u x) left)

-- Through a single that the seat has found

pub pass_allowed : (members id m i slots : ℕ) (me : Me Shape View) (team : TeamSize) (st : Step Shape) → team.members ≡ members → IsBeforeShare members m i me.0 → me.0.opening ≡ None → me.0.found ≡ Some (single_shape false) → me.0.share ≡ i → CanOpen members m (single_shape false) (seen_of m me.0.did) →
    Allows (IsKept team) slots id me (gate_at i) (λ n. (n + 0x10000000001) % 2 ^ 64) (PassStep members m i st me)
pass_allowed members id m i slots me team st same b idle found number_is can s kept homes at bound =
    let v : View = me.0 in
    let h : List Event = kept.events in
    let ring : IsRing members s.words s.views h kept.busy = ring_of_size members team s.words s.views h kept.busy same kept.ring in
    let mine : Knows v h = ring.seats.knows id v at in
    let number : shares_entered m h ≡ i = entered_same members m i v h mine b in
    let now = found_is_current members id m i v (single_shape false) s.words s.views h kept.busy ring at found number_is b.member number in
    let there : shape_at i h ≡ Some (single_shape false) = now.shape_is in
    let rule = entry_rule members m i (single_shape false) h ring.team.some_member (subst (CanOpen members m (single_shape false)) (seat_sees m v h mine b.stands) can) number (λ other is. same_Some other (single_shape false) (sym is ∙ there)) (room_of members i (single_shape false) h ring.team there) in
    let u : View = record v { did = Enter i m (single_shape false) ∷ v.did; found = None } in
    let entered = ring_still members id m (Enter i m (single_shape false)) s.words s.views v h kept.busy ring at b.stands (record { who = refl; rule = rule; once = tt; own = refl; shapes = same_shapes_after i m (single_shape false) h there }) (λ j t e. refl) (λ j. refl) in
    let u_at = set_here s.views id u (elem_within s.views id v at) in
    let word : ℕ = slice_index s.words (gate_at i) in
    let ticket : ticket_of word ≡ tickets members i Single h = ap ticket_of (ring.table.gates i (single_shape false) now) ∙ (gate_is members i (single_shape false) h ring.team there).ticket_is in
    let after = through_ring members id m i s.words (set s.views id u) u h kept.busy entered u_at b.stands b.member (ticket_of word == 0) (ap (λ (n : ℕ). n == 0) (sym ticket)) in
    let x : View = record v { did = End i m ∷ claim_event i m (single_piece (ticket_of word == 0)) ∷ Enter i m (single_shape false) ∷ v.did; found = None } in (
      x,
      keeps,
      tt,
      record {
        events = events_through (ticket_of word == 0) i m h;
        busy = kept.busy;
        ring = ring_again members team (set s.words (gate_at i) ((word + 0x10000000001) % 2 ^ 64)) (set s.words (gate_at i) ((word + 0x10000000001) % 2 ^ 64)) (set (set s.views id u) id x) (set s.views id x) (events_through (ticket_of word == 0) i m h) kept.busy same refl (sym (written_twice s.views id u x)) after;
      },
      (record { events = h; knows = mine; rule = after.team.rule; after = record { did_is = refl; mine = refl; alone = refl; idle = idle } }, refl),
    )

-- Through one whose slot the seat takes

first_sum : (r : ℕ) → r < 2 ^ 14 → (gate_word 3 r 0 0 0 + 0x10000000001) % 2 ^ 64 ≡ gate_word 3 r 1 1 0
first_sum r lt = pass_word r 0 0 0 (omega arith) (omega arith) (omega arith) lt

took_single : (members id m i : ℕ) (v : View) (words : List ℕ) (views : List View) (h : List Event) (busy : Option BusySlot) → IsRing members words views h busy → get_elem? views id ≡ some v → stands_for v m ≡ true → m < members → shares_entered m h ≡ i → is_free_for members i (slice_index words (gate_at i)) ≡ true → CanOpen members m (single_shape false) (seen_of m h) →
    IsRing members (set words (gate_at i) (passed_word i)) (set views id (record v { did = End i m ∷ claim_event i m (single_piece true) ∷ Enter i m (single_shape false) ∷ v.did; share = i; opening = None; stored = 0; found = None })) (events_through true i m h) None
took_single members id m i v words views h busy ring at stands lt number is_free can =
    let g : ℕ = gate_at i in
    let long = ring.table.long in
    let may = free_may_take members m i words h busy ring.team ring.table ring.opening lt number is_free in
    let took = took_ring members id m i v (single_shape false) words views h busy ring at number may in
    let t : View = record v { share = i; opening = Some (single_shape false); stored = 0; found = None } in
    let t_at = set_here views id t (elem_within views id v at) in
    let fits : FitsWords (single_shape false) = record { valid = can.valid; start = record { sfits = omega arith }; incr = record { sfits = omega arith } } in
    let opened = publish_ring members id m t (single_shape false) (set words g (opening_word i)) (set views id t) h (Some (record { id = id; share = i; shape = single_shape false; stored = 0 })) took t_at refl (λ told. absurd (cc)) stands number can fits in
    let u : View = record t { did = Enter i m (single_shape false) ∷ v.did; opening = None; found = None } in
    let u_at = set_here (set views id t) id u (elem_within (set views id t) id t t_at) in
    let none_yet : tickets members i Single h ≡ 0 = no_tickets members i Single h ring.team may.none in
    let one : ℕ = open_word true i in
    let words_then : List ℕ = set (set words g (opening_word i)) g (open_word true i) in
    let after = through_ring members id m i words_then (set (set views id t) id u) u h None opened u_at stands lt true (ap (λ (n : ℕ). n == 0) none_yet) in
    let x : View = record v { did = End i m ∷ claim_event i m (single_piece true) ∷ Enter i m (single_shape false) ∷ v.did; share = i; opening = None; stored = 0; found = None } in
    let twice : words_then ≡ set words g (open_word true i) = written_twice words g (opening_word i) (open_word true i) in
    let one_write : set words_then g ((slice_index words_then g + 0x10000000001) % 2 ^ 64) ≡ set words g (passed_word i) =
    ap (λ (ws : List ℕ). set ws g ((slice_index ws g + 0x10000000001) % 2 ^ 64)) twice
    ∙ ap (λ (n : ℕ). set (set words g (open_word true i)) g ((n + 0x10000000001) % 2 ^ 64)) (read_here words g (open_word true i) (omega arith))
    ∙ written_twice words g (open_word true i) ((open_word true i + 0x10000000001) % 2 ^ 64)
    ∙ ap (set words g) (first_sum (round_for i) (omega arith)) in
    let one_view : set (set (set views id t) id u) id x ≡ set views id x = written_twice (set views id t) id u x ∙ written_twice views id t x in
    subst (λ (ws : List ℕ). IsRing members ws (set views id x) (events_through true i m h) None) one_write
    (subst (λ (vs : List View). IsRing members (set words_then g ((slice_index words_then g + 0x10000000001) % 2 ^ 64)) vs (events_through true i m h) None) one_view after)

pub take_single_allowed : (members id m i word slots : ℕ) (me : Me Shape View) (team : TeamSize) → team.members ≡ members → IsBeforeShare members m i me.0 → me.0.opening ≡ None → is_free_for members i word ≡ true → CanOpen members m (single_shape false) (seen_of m me.0.did) →
    Allows (IsKept team) slots id me (gate_at i) (λ n. either (n == word) (passed_word i) n) (TakeSingleStep members m i (step slots (gate_at i) word (passed_word i) none) me)
take_single_allowed members id m i word slots me team same b idle is_free can s kept homes at bound =
    let ring : IsRing members s.words s.views kept.events kept.busy = ring_of_size members team s.words s.views kept.events kept.busy same kept.ring in
    let mine : Knows me.0 kept.events = ring.seats.knows id me.0 at in
    by_found ring mine (entered_same members m i me.0 kept.events mine b) (slice_index s.words (gate_at i) == word) refl
  where
    by_found : IsRing members s.words s.views kept.events kept.busy → Knows me.0 kept.events → shares_entered m kept.events ≡ i → (c : Bool) → (slice_index s.words (gate_at i) == word) ≡ c →
        (w : View) × (a : Act Shape) × Valid s.homes me.1 a × IsKept team (stepped s (gate_at i) (either (slice_index s.words (gate_at i) == word) (passed_word i) (slice_index s.words (gate_at i))) id me.1 w a)
        × TakeSingleStep members m i (step slots (gate_at i) word (passed_word i) none) me (slice_index s.words (gate_at i)) (w, carried_after me.1 a)
    by_found ring mine number true e =
        let v : View = me.0 in
        let h : List Event = kept.events in
        let is : slice_index s.words (gate_at i) ≡ word = is_equal _ _ e in
        let after = took_single members id m i v s.words s.views h kept.busy ring at b.stands b.member number (subst (λ (n : ℕ). is_free_for members i n ≡ true) (sym is) is_free) (subst (CanOpen members m (single_shape false)) (seat_sees m v h mine b.stands) can) in
        let x : View = record v { did = End i m ∷ claim_event i m (single_piece true) ∷ Enter i m (single_shape false) ∷ v.did; share = i; opening = None; stored = 0; found = None } in (
          x,
          keeps,
          tt,
          record {
            events = events_through true i m h;
            busy = None;
            ring = ring_again members team (set s.words (gate_at i) (passed_word i)) (set s.words (gate_at i) (either (slice_index s.words (gate_at i) == word) (passed_word i) (slice_index s.words (gate_at i)))) (set s.views id x) (set s.views id x) (events_through true i m h) None same
                (ap (λ (c : Bool). set s.words (gate_at i) (either c (passed_word i) (slice_index s.words (gate_at i)))) e) refl after;
          },
          (
            record {
              won = λ o. record { events = h; knows = mine; rule = after.team.rule; after = record { did_is = refl; mine = refl; alone = refl; idle = refl } };
              lost = λ o. absurd (not_both _ e o);
              alone = alone_gate members id m i me.0 s.words s.views kept.events kept.busy ring at idle mine b.member number;
            },
            refl,
          ),
        )
    by_found ring mine number false e = (
      me.0,
      keeps,
      tt,
      record {
        events = kept.events;
        busy = kept.busy;
        ring = ring_again members team s.words (set s.words (gate_at i) (either (slice_index s.words (gate_at i) == word) (passed_word i) (slice_index s.words (gate_at i)))) s.views (set s.views id me.0) kept.events kept.busy same
            (ap (λ (c : Bool). set s.words (gate_at i) (either c (passed_word i) (slice_index s.words (gate_at i)))) e ∙ written_again s.words (gate_at i)) (set_again s.views id me.0 at) ring;
      },
      (record { won = λ o. absurd (not_both _ o e); lost = λ o. refl; alone = alone_gate members id m i me.0 s.words s.views kept.events kept.busy ring at idle mine b.member number }, refl),
    )
