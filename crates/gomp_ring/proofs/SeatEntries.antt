-- What the seat of a member keeps when it opens a share, leaves one, is split, or is new, and what these calls tell.
use Rattle.std.proofs.Common.{◌≡◌, ℕ, suc, ◌+◌, ◌-◌, ◌*◌, ◌^◌, ◌<◌, ◌≤◌, Bool, true, false, List, [], ◌∷◌, Option, Some, None, inl, inr, refl, ap, sym, ◌∙◌, subst, arith}
use Rattle.std.specs.Prelude.{◌==◌, ◌||◌, if◌then◌else◌, is_some}
use Rattle.std.proofs.lemmas.Bool.{cases_Bool}
use Rattle.std.proofs.lemmas.Option.{none-some}
use Rattle.atomic_table.specs.Seated.{TableId}
use Rattle.gomp_types.specs.declared.shape.Shape.{Shape}
use Rattle.gomp_events.specs.declared.event.Event.{Event}
use Rattle.gomp_events.specs.declared.event.Event.TheVariants.{Enter, End}
use Rattle.gomp_events.specs.declared.seen.Seen.{Seen}
use Rattle.gomp_types.specs.Values.{IsShape}
use Rattle.gomp_types.specs.Shapes.{is_loop}
use Rattle.gomp_types.specs.Compare.{shape_differs}
use Rattle.gomp_events.specs.Events.{shares_entered, share_number, shape_at, in_kind}
use Rattle.gomp_types.specs.Deals.{schedule}
use Rattle.gomp_events.specs.Takes.{taken_in}
use Rattle.gomp_types.specs.Limits.{shown_number}
use Rattle.gomp_events.specs.Laws.{Always}
use Rattle.gomp_events.specs.Seen.{seen_of}
use Rattle.gomp_types.proofs.Booleans.{same_number, is_equal, not_both}
use Rattle.gomp_types.proofs.Compared.{differs_from}
use Rattle.gomp_chunks.specs.Plans.{PlanView}
use Rattle.gomp_shares.specs.Calls.{CanOpen, CanLeave}
use Rattle.gomp_shares.specs.Only.{own_of}
use Rattle.gomp_shares.specs.Rules.{ShareRule}
use Rattle.gomp_slots.specs.declared.opening.Delay.TheVariants.{NoRoom, BeingOpened}
use Rattle.gomp_slots.specs.declared.opening.Entry.{Entry}
use Rattle.gomp_slots.specs.declared.opening.Entry.TheVariants.{Entered, NotYet, Differs}
use Rattle.gomp_slots.specs.declared.view.View.{View}
use Rattle.gomp_slots.specs.Rule.{stands_for, numbers_from}
use Rattle.gomp_slots.specs.Seats.{without_second, second_alone, kept_view, dealt_view, IsSecondOnce}
use Rattle.gomp_slots.specs.Calls.{Acts, HasDone, IsNotEntered, IsInAnotherShape, OpensNext}
use Rattle.gomp_slots.specs.Premises.{IsBeforeShare}
use Rattle.gomp_ring.specs.Gathers.{pieces_taken, iterations_of, loop_iterations}
use Rattle.gomp_slots.specs.Seats.{unseen}
use Rattle.gomp_ring.specs.RingSeats.{SeatView, IsPartOfTeam, IsSeat, ActsFor, Counts, SeatActs, SeatWaits, SeatDiffers, SeatOpens}
use Rattle.gomp_ring.proofs.SeatCalls.{own_stands, first_number, no_number_below, own_first, seat_acts, pieces_own}
use Rattle.gomp_slots.proofs.ClaimSteps.{taken_own}
use Rattle.gomp_slots.proofs.OwnPieces.{one_share, HasNoPieces, no_pieces_ahead}
use Rattle.gomp_slots.proofs.WordSteps.{seat_sees}

-- Opening

pub before_share : (key members m i : ℕ) (seen : Seen) (plan : PlanView) (v : View) → key ≡ members → IsSeat members m seen plan v → stands_for v m ≡ true → seen.entered ≡ i → IsBeforeShare key m i v
before_share key members m i seen plan v team seat stands number = record {
  member = subst (λ (n : ℕ). m < n) (sym team) seat.member;
  stands = stands;
  next = sym (ap (λ (s : Seen). s.entered) seat.sees) ∙ number;
}

pub may_open : (key members m : ℕ) (seen : Seen) (plan : PlanView) (shape : Shape) (v : View) → key ≡ members → IsSeat members m seen plan v → CanOpen members m shape seen → CanOpen key m shape (seen_of m v.did)
may_open key members m seen plan shape v team seat can = subst (CanOpen key m shape) seat.sees (subst (λ (n : ℕ). CanOpen n m shape seen) (sym team) can)

-- what the members of the seat did stays: so does all that the seat keeps
pub seat_unchanged : (members m : ℕ) (seen : Seen) (plan : PlanView) (v now : View) → IsSeat members m seen plan v → now.did ≡ v.did → now.opening ≡ None → IsSeat members m seen plan now
seat_unchanged members m seen plan v now seat same idle = record {
  member = seat.member;
  few_members = seat.few_members;
  idle = idle;
  sees = seat.sees ∙ sym (ap (seen_of m) same);
  own = ap (own_of m) same ∙ seat.own ∙ sym same;
  lawful = subst (IsPartOfTeam members m) (sym same) seat.lawful;
  few = seat.few;
  fresh = λ none. same ∙ seat.fresh none;
  last = seat.last;
  valid = seat.valid;
  plan_is = seat.plan_is;
}

pub counts_unchanged : (m own here taken : ℕ) (seen : Seen) (v now : View) → Counts m own here taken seen v → now.did ≡ v.did → Counts m own here taken seen now
counts_unchanged m own here taken seen v now counts same = record {
  own_is = λ share at static. counts.own_is share at static ∙ ap (λ (h : List Event). shown_number (taken_in (λ k. k) share.0 m h)) (sym same);
  here_is = λ share at. counts.here_is share at ∙ ap (λ (h : List Event). iterations_of (pieces_taken share.0 m h)) (sym same);
  here_few = counts.here_few;
  taken_few = counts.taken_few;
  taken_is = ap (loop_iterations m) same ∙ counts.taken_is;
}

-- what the member sees once it has entered the share i
abbrev pub entered_seen : ℕ → Shape → Seen
entered_seen i shape = record { entered = i + 1; current = Some (i, shape); drained = false; piece = None; next_part = 0; in_part = false; leaving = false }

sees_entry : (m i : ℕ) (shape : Shape) (h : List Event) → shares_entered m h ≡ i → entered_seen i shape ≡ seen_of m (Enter i m shape ∷ h)
sees_entry m i shape h e = rw (same_number m, e) refl

pub sees_entered : (members m i : ℕ) (seen : Seen) (plan : PlanView) (shape : Shape) (v now : View) → IsSeat members m seen plan v → seen.entered ≡ i → now.did ≡ Enter i m shape ∷ v.did → entered_seen i shape ≡ seen_of m now.did
sees_entered members m i seen plan shape v now seat number goes =
    sees_entry m i shape v.did (sym (ap (λ (s : Seen). s.entered) seat.sees) ∙ number) ∙ sym (ap (seen_of m) goes)

pub seat_after_entry : (members m i : ℕ) (seen : Seen) (plan then_plan : PlanView) (shape : Shape) (v now : View) → IsSeat members m seen plan v → seen.entered ≡ i → CanOpen members m shape seen → then_plan ≡ record { members = members; shape = shape } → IsPartOfTeam members m now.did → HasDone (Enter i m shape ∷ v.did) v now → IsSeat members m (entered_seen i shape) then_plan now
seat_after_entry members m i seen plan then_plan shape v now seat number can plan_is lawful done = record {
  member = seat.member;
  few_members = seat.few_members;
  idle = done.idle;
  sees = sees_entered members m i seen plan shape v now seat number done.did_is;
  own = ap (own_of m) done.did_is ∙ own_first m (Enter i m shape) v.did refl ∙ ap (λ (h : List Event). Enter i m shape ∷ h) seat.own ∙ sym done.did_is;
  lawful = lawful;
  few = let few = can.few in omega arith;
  fresh = λ none. absurd (omega arith);
  last = λ share at. ap (λ (s : ℕ × Shape). s.0 + 1) (one_share i shape share at);
  valid = λ share at. subst (λ (s : ℕ × Shape). IsShape s.1) (sym (one_share i shape share at)) can.valid;
  plan_is = λ share at. plan_is ∙ ap (λ (s : ℕ × Shape). record { members = members; shape = s.1 }) (sym (one_share i shape share at));
}

-- the member's events are its part of those at its entry
pub entry_of_team : (key members m i : ℕ) (seen : Seen) (plan : PlanView) (shape : Shape) (v now : View) → key ≡ members → IsSeat members m seen plan v → stands_for v m ≡ true → OpensNext (record { members = key; m = m }) i shape Entered v now → IsPartOfTeam members m now.did
entry_of_team key members m i seen plan shape v now team seat stands (h, knows, rule, done) = record {
  events = Enter i m shape ∷ h;
  part = done.did_is ∙ ap (λ (l : List Event). Enter i m shape ∷ l) (sym seat.own ∙ knows.own m stands) ∙ sym (own_first m (Enter i m shape) h refl);
  rule = subst (λ (n : ℕ). Always (ShareRule (schedule n) n) (Enter i m shape ∷ h)) team rule;
}

-- a member that may open a share is in none
pub in_no_share : (o : Option (ℕ × Shape)) → is_some o ≡ false → o ≡ None
in_no_share None e = refl
in_no_share (Some share) e = absurd (cc)

pub counts_entered : (key members m i own here taken : ℕ) (seen : Seen) (plan : PlanView) (shape : Shape) (v now : View) → key ≡ members → IsSeat members m seen plan v → stands_for v m ≡ true → seen.entered ≡ i → CanOpen members m shape seen → Counts m own here taken seen v →
    OpensNext (record { members = key; m = m }) i shape Entered v now → Counts m 0 0 taken (entered_seen i shape) now
counts_entered key members m i own here taken seen plan shape v now team seat stands number can counts (h, knows, rule, done) =
    let none : seen.current ≡ None = in_no_share seen.current can.outside in
    let before : shares_entered m h ≡ i = sym (ap (λ (s : Seen). s.entered) (seat_sees m v h knows stands)) ∙ sym (ap (λ (s : Seen). s.entered) seat.sees) ∙ number in
    let ahead : HasNoPieces i m h = no_pieces_ahead key i m h rule.1 (omega arith) in
    let own_h : v.did ≡ own_of m h = sym seat.own ∙ knows.own m stands in
    let count : taken_in (λ k. k) i m now.did ≡ 0 = ap (taken_in (λ k. k) i m) done.did_is ∙ ap (taken_in (λ k. k) i m) own_h ∙ taken_own i m h ∙ ahead.count in
    let pieces : pieces_taken i m now.did ≡ [] = ap (pieces_taken i m) done.did_is ∙ ap (pieces_taken i m) own_h ∙ pieces_own i m h ∙ ahead.pieces in
    record {
      own_is = λ share at static. sym (ap (λ (s : ℕ × Shape). shown_number (taken_in (λ k. k) s.0 m now.did)) (one_share i shape share at) ∙ ap shown_number count);
      here_is = λ share at. sym (ap (λ (s : ℕ × Shape). iterations_of (pieces_taken s.0 m now.did)) (one_share i shape share at) ∙ ap iterations_of pieces);
      here_few = λ share at. omega arith;
      taken_few = let few : taken ≤ seen.entered * 2 ^ 39 = subst (λ (o : Option (ℕ × Shape)). taken ≤ (if is_some o then seen.entered - 1 else seen.entered) * 2 ^ 39) none counts.taken_few in omega arith;
      taken_is = ap (loop_iterations m) done.did_is ∙ counts.taken_is ∙ ap (λ (o : Option (ℕ × Shape)). taken + (if in_kind is_loop o then here else 0)) none ∙ sym (same_sum (is_loop shape.kind));
    }
  where
    same_sum : (b : Bool) → taken + (if b then 0 else 0) ≡ taken + 0
    same_sum true = refl
    same_sum false = refl

-- what the calls tell
pub entry_tells : (key members m seated : ℕ) (table then_table : TableId) (seen then_seen : Seen) (plan : PlanView) (shape : Shape) (v now : View) (before : SeatView) → key ≡ members → IsSeat members m seen plan v → stands_for v m ≡ true → then_table ≡ table → then_seen ≡ seen_of m now.did → OpensNext (record { members = key; m = m }) seen.entered shape Entered v now →
    record { table = table; members = members; member = m; seated = seated; seen = seen; did = v.did } ≡ before → SeatActs (Enter before.seen.entered before.member shape) before (record { table = then_table; members = members; member = m; seated = seated; seen = then_seen; did = now.did })
entry_tells key members m seated table then_table seen then_seen plan shape v now before team seat stands same sees (h, knows, rule, done) view =
    let after : SeatView = record { table = then_table; members = members; member = m; seated = seated; seen = then_seen; did = now.did } in
    subst (λ (b : SeatView). SeatActs (Enter b.seen.entered b.member shape) b after) view (record {
      events = h;
      knows = sym seat.own ∙ knows.own m stands;
      rule = subst (λ (n : ℕ). Always (ShareRule (schedule n) n) (Enter seen.entered m shape ∷ h)) team rule;
      did = done.did_is;
      sees = sees;
      table = same;
      members = refl;
      member = refl;
      seated = refl;
    })

pub waits_tell : (key members m i seated : ℕ) (room : Bool) (table then_table : TableId) (seen : Seen) (plan : PlanView) (v now : View) → key ≡ members → IsSeat members m seen plan v → stands_for v m ≡ true → then_table ≡ table → seen.entered ≡ i → IsNotEntered key i room v → now ≡ v →
    SeatWaits (record { table = table; members = members; member = m; seated = seated; seen = seen; did = v.did }) room (record { table = then_table; members = members; member = m; seated = seated; seen = seen; did = now.did })
waits_tell key members m i seated room table then_table seen plan v now team seat stands same number waits unchanged =
    let h : List Event = waits.events in
    record {
      events = h;
      knows = sym seat.own ∙ waits.knows.own m stands;
      rule = subst (λ (n : ℕ). Always (ShareRule (schedule n) n) h) team waits.rule;
      none = ap (λ (n : ℕ). shape_at n h) number ∙ waits.none;
      room_is = rw (number, ← team) waits.room_is;
      same = rw (same, unchanged) refl;
    }

pub differs_tell : (key members m i seated : ℕ) (table then_table : TableId) (seen : Seen) (plan : PlanView) (shape : Shape) (v now : View) → key ≡ members → IsSeat members m seen plan v → stands_for v m ≡ true → then_table ≡ table → seen.entered ≡ i → IsInAnotherShape key i shape v → HasDone v.did v now →
    SeatDiffers (record { table = table; members = members; member = m; seated = seated; seen = seen; did = v.did }) shape (record { table = then_table; members = members; member = m; seated = seated; seen = seen; did = now.did })
differs_tell key members m i seated table then_table seen plan shape v now team seat stands same number apart done =
    let h : List Event = apart.events in
    record {
      events = h;
      knows = sym seat.own ∙ apart.knows.own m stands;
      rule = subst (λ (n : ℕ). Always (ShareRule (schedule n) n) h) team apart.rule;
      differs = ap (λ (n : ℕ). shape_differs shape (shape_at n h)) number ∙ ap (shape_differs shape) apart.other_is ∙ differs_from shape apart.other apart.differs;
      same = rw (same, done.did_is) refl;
    }

opening_shows : (key members m i seated : ℕ) (table then_table : TableId) (seen : Seen) (plan : PlanView) (shape : Shape) (answer : Entry) (v now : View) → key ≡ members → IsSeat members m seen plan v → ActsFor members m seated v → then_table ≡ table → seen.entered ≡ i → OpensNext (record { members = key; m = m }) i shape answer v now → (answer ≡ Entered → ⊥) →
    SeatOpens (record { table = table; members = members; member = m; seated = seated; seen = seen; did = v.did }) shape answer (record { table = then_table; members = members; member = m; seated = seated; seen = seen; did = now.did })
opening_shows key members m i seated table then_table seen plan shape Entered v now team seat acts same number opens not_entered = absurd (not_entered refl)
opening_shows key members m i seated table then_table seen plan shape (NotYet NoRoom) v now team seat acts same number (waits, unchanged) not_entered =
    waits_tell key members m i seated false table then_table seen plan v now team seat (own_stands members m seated v acts) same number waits unchanged
opening_shows key members m i seated table then_table seen plan shape (NotYet BeingOpened) v now team seat acts same number (waits, beside, unchanged) not_entered =
    (waits_tell key members m i seated true table then_table seen plan v now team seat (own_stands members m seated v acts) same number waits unchanged, λ first. not_both v.alone (acts.only first) beside)
opening_shows key members m i seated table then_table seen plan shape Differs v now team seat acts same number (apart, done) not_entered =
    differs_tell key members m i seated table then_table seen plan shape v now team seat (own_stands members m seated v acts) same number apart done

pub opening_tells : (key members m seated : ℕ) (table then_table : TableId) (seen : Seen) (plan : PlanView) (shape : Shape) (answer : Entry) (v now : View) (before : SeatView) → key ≡ members → IsSeat members m seen plan v → ActsFor members m seated v → then_table ≡ table → OpensNext (record { members = key; m = m }) seen.entered shape answer v now → (answer ≡ Entered → ⊥) →
    record { table = table; members = members; member = m; seated = seated; seen = seen; did = v.did } ≡ before → SeatOpens before shape answer (record { table = then_table; members = members; member = m; seated = seated; seen = seen; did = now.did })
opening_tells key members m seated table then_table seen plan shape answer v now before team seat acts same opens not_entered view =
    subst (λ (b : SeatView). SeatOpens b shape answer (record { table = then_table; members = members; member = m; seated = seated; seen = seen; did = now.did })) view
    (opening_shows key members m seen.entered seated table then_table seen plan shape answer v now team seat acts same refl opens not_entered)

-- Leaving

pub sees_left : (members m i : ℕ) (seen : Seen) (plan : PlanView) (v now : View) → IsSeat members m seen plan v → now.did ≡ End i m ∷ v.did → record seen { current = None; leaving = false } ≡ seen_of m now.did
sees_left members m i seen plan v now seat goes =
    ap (λ (s : Seen). record s { current = None; leaving = false }) seat.sees ∙ after_end v.did ∙ sym (ap (seen_of m) goes)
  where
    after_end : (h : List Event) → record (seen_of m h) { current = None; leaving = false } ≡ seen_of m (End i m ∷ h)
    after_end h = rw (same_number m) refl

pub may_leave_share : (key members m : ℕ) (seen : Seen) (plan : PlanView) (v : View) → key ≡ members → IsSeat members m seen plan v → CanLeave members m seen → CanLeave key m (seen_of m v.did)
may_leave_share key members m seen plan v team seat can = subst (CanLeave key m) seat.sees (subst (λ (n : ℕ). CanLeave n m seen) (sym team) can)

pub leave_tells : (key members m i seated : ℕ) (table then_table : TableId) (shape : Shape) (seen then_seen : Seen) (plan : PlanView) (v now : View) (before : SeatView) → key ≡ members → IsSeat members m seen plan v → stands_for v m ≡ true → seen.current ≡ Some (i, shape) → then_table ≡ table → Acts key (End i m) v now → then_seen ≡ seen_of m now.did →
    record { table = table; members = members; member = m; seated = seated; seen = seen; did = v.did } ≡ before → SeatActs (End (share_number before.seen.current) before.member) before (record { table = then_table; members = members; member = m; seated = seated; seen = then_seen; did = now.did })
leave_tells key members m i seated table then_table shape seen then_seen plan v now before team seat stands current same acts sees view =
    let was : SeatView = record { table = table; members = members; member = m; seated = seated; seen = seen; did = v.did } in
    let after : SeatView = record { table = then_table; members = members; member = m; seated = seated; seen = then_seen; did = now.did } in
    let tells : SeatActs (End i m) was after = seat_acts key members m seated table then_table seen then_seen plan (End i m) v now team seat stands same acts sees in
    subst (λ (b : SeatView). SeatActs (End (share_number b.seen.current) b.member) b after) view (subst (λ (n : ℕ). SeatActs (End n m) was after) (sym (ap share_number current)) tells)

pub counts_left : (members m i own here taken then_taken : ℕ) (shape : Shape) (seen : Seen) (plan : PlanView) (v now : View) → IsSeat members m seen plan v → Counts m own here taken seen v → seen.current ≡ Some (i, shape) → now.did ≡ End i m ∷ v.did → then_taken ≡ taken + (if is_loop shape.kind then here else 0) →
    Counts m own here then_taken (record seen { current = None; leaving = false }) now
counts_left members m i own here taken then_taken shape seen plan v now seat counts current goes more = record {
  own_is = λ share at. absurd (none-some share at);
  here_is = λ share at. absurd (none-some share at);
  here_few = λ share at. absurd (none-some share at);
  taken_few = few;
  taken_is = ap (loop_iterations m) goes ∙ counts.taken_is ∙ ap (λ (o : Option (ℕ × Shape)). taken + (if in_kind is_loop o then here else 0)) current ∙ sym more ∙ plus_none;
}
  where
    plus_none : then_taken ≡ then_taken + 0
    plus_none = omega arith

    most : (b : Bool) → here ≤ 2 ^ 39 → (if b then here else 0) ≤ 2 ^ 39
    most true le = le
    most false le = omega arith

    few : then_taken ≤ seen.entered * 2 ^ 39
    few =
        let last : i + 1 ≡ seen.entered = seat.last (i, shape) current in
        let before : taken ≤ (seen.entered - 1) * 2 ^ 39 = subst (λ (o : Option (ℕ × Shape)). taken ≤ (if is_some o then seen.entered - 1 else seen.entered) * 2 ^ 39) current counts.taken_few in
        let trips : shape.trips ≤ 2 ^ 39 = (seat.valid (i, shape) current).trips in
        let here_few : here ≤ shape.trips = counts.here_few (i, shape) current in
        let add : (if is_loop shape.kind then here else 0) ≤ 2 ^ 39 = most (is_loop shape.kind) (omega arith) in
        omega (arith, more)

-- Seats that are split, and new ones

-- the next member without a seat stands once among those of the seat
pub second_once : (members m seated : ℕ) (v : View) → ActsFor members m seated v → seated < members → IsSecondOnce v.mine
second_once members m seated v acts more =
    let mine : v.mine ≡ m ∷ (seated ∷ numbers_from (suc seated) (members - suc seated)) = acts.mine ∙ ap (λ (l : List ℕ). m ∷ l) (first_number seated members more) in
    subst IsSecondOnce (sym mine) once
  where
    once : IsSecondOnce (m ∷ (seated ∷ numbers_from (suc seated) (members - suc seated)))
    once k is = elim (cases_Bool (seated == k)) [
      | inl e ↦
          let same : seated ≡ k = is_equal seated k e in
          let first : (m == k) ≡ false = unequal (m == k) refl same in
          rw first (no_number_below (suc seated) (members - suc seated) k (omega arith))
      | inr e ↦ absurd (not_both (seated == k) (only (seated == k) is) e)
    ]
      where
        only : (b : Bool) → (b || false) ≡ true → b ≡ true
        only true o = refl
        only false o = o

        unequal : (b : Bool) → (m == k) ≡ b → seated ≡ k → b ≡ false
        unequal true o same = absurd (let less = acts.above in let both = is_equal m k o in omega arith)
        unequal false o same = refl

pub kept_acts_for : (members m seated : ℕ) (v : View) → ActsFor members m seated v → seated < members → ActsFor members m (seated + 1) (kept_view v)
kept_acts_for members m seated v acts more =
    let mine : v.mine ≡ m ∷ (seated ∷ numbers_from (suc seated) (members - suc seated)) = acts.mine ∙ ap (λ (l : List ℕ). m ∷ l) (first_number seated members more) in
    record {
      above = let above = acts.above in omega arith;
      within = omega arith;
      mine = ap without_second mine ∙ ap (λ (n : ℕ). m ∷ numbers_from n (members - n)) (next seated);
      only = λ one. absurd (let above = acts.above in omega arith);
    }
  where
    next : (n : ℕ) → suc n ≡ n + 1
    next n = omega arith

pub dealt_acts_for : (members m seated : ℕ) (v : View) → ActsFor members m seated v → seated < members → ActsFor members seated members (dealt_view v)
dealt_acts_for members m seated v acts more =
    let mine : v.mine ≡ m ∷ (seated ∷ numbers_from (suc seated) (members - suc seated)) = acts.mine ∙ ap (λ (l : List ℕ). m ∷ l) (first_number seated members more) in
    record {
      above = more;
      within = omega arith;
      mine = ap second_alone mine ∙ ap (λ (n : ℕ). seated ∷ numbers_from members n) none;
      only = λ one. absurd (let above = acts.above in omega arith);
    }
  where
    none : 0 ≡ members - members
    none = omega arith

-- a seat whose member has done nothing
pub seen_outside : (current : Option (ℕ × Shape)) → current ≡ None → record { entered = 0; current = current; drained = false; piece = None; next_part = 0; in_part = false; leaving = false } ≡ unseen
seen_outside current none = ap (λ (o : Option (ℕ × Shape)). record { entered = 0; current = o; drained = false; piece = None; next_part = 0; in_part = false; leaving = false }) none

pub seat_is_new : (members m : ℕ) (seen : Seen) (plan : PlanView) (v : View) → m < members → members ≤ 64 → seen ≡ unseen → v.did ≡ [] → v.opening ≡ None → IsSeat members m seen plan v
seat_is_new members m seen plan v lt few is none idle = record {
  member = lt;
  few_members = few;
  idle = idle;
  sees = is ∙ sym (ap (seen_of m) none);
  own = ap (own_of m) none ∙ sym none;
  lawful = record { events = []; part = none; rule = tt };
  few = subst (λ (s : Seen). s.entered ≤ 2 ^ 48) (sym is) (omega arith);
  fresh = λ e. none;
  last = λ share at. absurd (none-some share (sym (ap (λ (s : Seen). s.current) is) ∙ at));
  valid = λ share at. absurd (none-some share (sym (ap (λ (s : Seen). s.current) is) ∙ at));
  plan_is = λ share at. absurd (none-some share (sym (ap (λ (s : Seen). s.current) is) ∙ at));
}

pub counts_are_new : (m own here : ℕ) (seen : Seen) (v : View) → seen ≡ unseen → v.did ≡ [] → Counts m own here 0 seen v
counts_are_new m own here seen v is none = record {
  own_is = λ share at. absurd (none-some share (sym (ap (λ (s : Seen). s.current) is) ∙ at));
  here_is = λ share at. absurd (none-some share (sym (ap (λ (s : Seen). s.current) is) ∙ at));
  here_few = λ share at. absurd (none-some share (sym (ap (λ (s : Seen). s.current) is) ∙ at));
  taken_few = omega arith;
  taken_is = ap (loop_iterations m) none ∙ sym (ap (λ (s : Seen). 0 + (if in_kind is_loop s.current then here else 0)) is);
}
