-- What the seat of a member keeps when the member goes through a bare single, and what the call tells.
use Rattle.std.proofs.Common.{◌≡◌, ℕ, ◌+◌, ◌-◌, ◌*◌, ◌^◌, ◌<◌, ◌≤◌, Bool, true, false, List, ◌∷◌, Option, Some, None, refl, ap, sym, ◌∙◌, subst, arith}
use Rattle.std.specs.Prelude.{nat_lt, ◌&&◌, if◌then◌else◌, is_some, not}
use Rattle.std.proofs.lemmas.Bool.Decides.{nat_tests}
use Rattle.std.proofs.lemmas.Option.{none-some}
use Rattle.atomic_table.specs.Seated.{TableId}
use Rattle.gomp_types.specs.declared.shape.Shape.{Shape}
use Rattle.gomp_events.specs.declared.event.Event.{Event}
use Rattle.gomp_events.specs.declared.event.Event.TheVariants.{Enter, End}
use Rattle.gomp_events.specs.declared.seen.Seen.{Seen}
use Rattle.gomp_types.specs.Singles.{single_shape}
use Rattle.gomp_types.specs.Pieces.{Piece}
use Rattle.gomp_types.specs.Shapes.{is_loop}
use Rattle.gomp_events.specs.Events.{shares_entered, open_share, in_kind, member_of}
use Rattle.gomp_types.specs.Deals.{schedule}
use Rattle.gomp_events.specs.Laws.{Always}
use Rattle.gomp_events.specs.Seen.{seen_of}
use Rattle.gomp_types.proofs.Booleans.{same_number, not_both}
use Rattle.gomp_events.proofs.TestReadings.{below_is}
use Rattle.gomp_chunks.specs.Plans.{PlanView}
use Rattle.gomp_shares.specs.Calls.{CanOpen, most_shares}
use Rattle.gomp_shares.specs.Only.{own_of}
use Rattle.gomp_shares.specs.Rules.{ShareRule}
use Rattle.gomp_shares.proofs.RunExamples.{single_fits}
use Rattle.gomp_slots.specs.declared.opening.Delay.TheVariants.{NoRoom, BeingOpened}
use Rattle.gomp_slots.specs.declared.singles.Passage.{Passage}
use Rattle.gomp_slots.specs.declared.singles.Passage.TheVariants.{Passed, NotYet, Differs}
use Rattle.gomp_slots.specs.declared.view.View.{View}
use Rattle.gomp_slots.specs.Rule.{stands_for}
use Rattle.gomp_slots.specs.Calls.{claim_event, single_piece, events_through, GoesThrough, PassesNext}
use Rattle.gomp_ring.specs.Gathers.{loop_iterations}
use Rattle.gomp_ring.specs.RingSeats.{SeatView, asked_piece, seen_by, passed_seen, HasExecuted, IsPartOfTeam, IsSeat, ActsFor, Counts, SeatGoesThrough, SeatPasses, may_enter}
use Rattle.gomp_ring.proofs.SeatCalls.{own_stands, own_first, loop_more}
use Rattle.gomp_ring.proofs.SeatEntries.{waits_tell, in_no_share, differs_tell}

-- What the member sees then

sees_through : (executes : Bool) (m i : ℕ) (h : List Event) → shares_entered m h ≡ i → passed_seen executes i ≡ seen_of m (events_through executes i m h)
sees_through true m i h e = rw (same_number m, e) refl
sees_through false m i h e = rw (same_number m, e) refl

pub sees_passed : (executes : Bool) (members m i : ℕ) (seen : Seen) (plan : PlanView) (v now : View) → IsSeat members m seen plan v → seen.entered ≡ i → now.did ≡ events_through executes i m v.did → passed_seen executes i ≡ seen_of m now.did
sees_passed executes members m i seen plan v now seat number goes =
    sees_through executes m i v.did (sym (ap (λ (s : Seen). s.entered) seat.sees) ∙ number) ∙ sym (ap (seen_of m) goes)

-- the piece that the seat keeps is that of the single
pub kept_piece : (executes : Bool) (members asked : ℕ) (plan : PlanView) → plan ≡ record { members = members; shape = single_shape false } → asked ≡ (if executes then 1 else 0) → asked_piece plan asked ≡ single_piece executes
kept_piece true members asked plan is number = ap (asked_piece plan) number ∙ ap (λ (p : PlanView). asked_piece p 1) is
kept_piece false members asked plan is number = ap (asked_piece plan) number

-- so it sees what it does
pub kept_seen : (executes : Bool) (members i asked : ℕ) (current : Option (ℕ × Shape)) (plan : PlanView) → current ≡ None → plan ≡ record { members = members; shape = single_shape false } → asked ≡ (if executes then 1 else 0) → seen_by (i + 1) current (not executes) plan asked 0 false false ≡ passed_seen executes i
kept_seen executes members i asked current plan none is number =
    ap (λ (o : Option (ℕ × Shape)). seen_by (i + 1) o (not executes) plan asked 0 false false) none
    ∙ ap (λ (p : Option Piece). record { entered = i + 1; current = None; drained = not executes; piece = p; next_part = 0; in_part = false; leaving = false }) (kept_piece executes members asked plan is number)

-- and has the piece that it asked for
pub asked_there : (executes : Bool) (members asked : ℕ) (plan : PlanView) → plan ≡ record { members = members; shape = single_shape false } → asked ≡ (if executes then 1 else 0) → 0 < asked → is_some (asked_piece plan asked) ≡ not (not executes)
asked_there true members asked plan is number some = ap is_some (kept_piece true members asked plan is number)
asked_there false members asked plan is number some = absurd (let none : asked ≡ 0 = number in omega arith)

-- The member's events

own_claim : (executes : Bool) (i m : ℕ) → member_of (claim_event i m (single_piece executes)) ≡ m
own_claim true i m = refl
own_claim false i m = refl

own_through : (executes : Bool) (i m : ℕ) (h : List Event) → own_of m (events_through executes i m h) ≡ events_through executes i m (own_of m h)
own_through executes i m h =
    own_first m (End i m) (claim_event i m (single_piece executes) ∷ Enter i m (single_shape false) ∷ h) refl
    ∙ ap (λ (l : List Event). End i m ∷ l) (own_first m (claim_event i m (single_piece executes)) (Enter i m (single_shape false) ∷ h) (own_claim executes i m)
    ∙ ap (λ (l : List Event). claim_event i m (single_piece executes) ∷ l) (own_first m (Enter i m (single_shape false)) h refl))

part_through : (executes : Bool) (key members m i : ℕ) (seen : Seen) (plan : PlanView) (v now : View) → key ≡ members → IsSeat members m seen plan v → stands_for v m ≡ true → GoesThrough key m i executes v now → IsPartOfTeam members m now.did
part_through executes key members m i seen plan v now team seat stands goes = record {
  events = events_through executes i m goes.events;
  part = goes.after.did_is ∙ ap (events_through executes i m) (sym seat.own ∙ goes.knows.own m stands) ∙ sym (own_through executes i m goes.events);
  rule = subst (λ (n : ℕ). Always (ShareRule (schedule n) n) (events_through executes i m goes.events)) team goes.rule;
}

-- What the seat keeps

pub seat_after_pass : (executes : Bool) (key members m i : ℕ) (seen : Seen) (plan then_plan : PlanView) (v now : View) → key ≡ members → IsSeat members m seen plan v → stands_for v m ≡ true → seen.entered ≡ i → CanOpen members m (single_shape false) seen → GoesThrough key m i executes v now → IsSeat members m (passed_seen executes i) then_plan now
seat_after_pass executes key members m i seen plan then_plan v now team seat stands number can goes = record {
  member = seat.member;
  few_members = seat.few_members;
  idle = goes.after.idle;
  sees = sees_passed executes members m i seen plan v now seat number goes.after.did_is;
  own = ap (own_of m) goes.after.did_is ∙ own_through executes i m v.did ∙ ap (events_through executes i m) seat.own ∙ sym goes.after.did_is;
  lawful = part_through executes key members m i seen plan v now team seat stands goes;
  few = let few = can.few in omega arith;
  fresh = λ none. absurd (omega arith);
  last = λ share at. absurd (none-some share at);
  valid = λ share at. absurd (none-some share at);
  plan_is = λ share at. absurd (none-some share at);
}

-- no iteration of a loop was taken
loops_through : (executes : Bool) (i m : ℕ) (h : List Event) → loop_iterations m (events_through executes i m h) ≡ loop_iterations m h
loops_through executes i m h =
    let inside : open_share m (Enter i m (single_shape false) ∷ h) ≡ Some (i, single_shape false) = rw (same_number m) refl in
    loop_more m i (single_shape false) (single_piece executes) (Enter i m (single_shape false) ∷ h) inside ∙ none (loop_iterations m h)
  where
    none : (n : ℕ) → n + 0 ≡ n
    none n = omega arith

pub counts_passed : (executes : Bool) (key members m i own here taken then_own then_here : ℕ) (seen : Seen) (plan : PlanView) (v now : View) → IsSeat members m seen plan v → seen.entered ≡ i → CanOpen members m (single_shape false) seen → Counts m own here taken seen v → GoesThrough key m i executes v now →
    Counts m then_own then_here taken (passed_seen executes i) now
counts_passed executes key members m i own here taken then_own then_here seen plan v now seat number can counts goes =
    let none : seen.current ≡ None = in_no_share seen.current can.outside in record {
      own_is = λ share at static. absurd (none-some share at);
      here_is = λ share at. absurd (none-some share at);
      here_few = λ share at. absurd (none-some share at);
      taken_few = let few : taken ≤ seen.entered * 2 ^ 39 = subst (λ (o : Option (ℕ × Shape)). taken ≤ (if is_some o then seen.entered - 1 else seen.entered) * 2 ^ 39) none counts.taken_few in omega arith;
      taken_is = ap (loop_iterations m) goes.after.did_is ∙ loops_through executes i m v.did ∙ counts.taken_is ∙ ap (λ (o : Option (ℕ × Shape)). taken + (if in_kind is_loop o then here else 0)) none;
    }

-- What the call tells

pub passage_tells : (executes : Bool) (key members m seated : ℕ) (table then_table : TableId) (seen then_seen : Seen) (plan : PlanView) (v now : View) (before : SeatView) → key ≡ members → IsSeat members m seen plan v → stands_for v m ≡ true → then_table ≡ table → then_seen ≡ seen_of m now.did → GoesThrough key m seen.entered executes v now →
    record { table = table; members = members; member = m; seated = seated; seen = seen; did = v.did } ≡ before → SeatGoesThrough executes before (record { table = then_table; members = members; member = m; seated = seated; seen = then_seen; did = now.did })
passage_tells executes key members m seated table then_table seen then_seen plan v now before team seat stands same sees goes view =
    let after : SeatView = record { table = then_table; members = members; member = m; seated = seated; seen = then_seen; did = now.did } in
    subst (λ (b : SeatView). SeatGoesThrough executes b after) view (record {
      events = goes.events;
      knows = sym seat.own ∙ goes.knows.own m stands;
      rule = subst (λ (n : ℕ). Always (ShareRule (schedule n) n) (events_through executes seen.entered m goes.events)) team goes.rule;
      did = goes.after.did_is;
      sees = sees;
      table = same;
      members = refl;
      member = refl;
      seated = refl;
    })

passing_shows : (key members m i seated : ℕ) (table then_table : TableId) (seen : Seen) (plan : PlanView) (answer : Passage) (v now : View) → key ≡ members → IsSeat members m seen plan v → ActsFor members m seated v → then_table ≡ table → seen.entered ≡ i → PassesNext key m i answer v now → ((executes : Bool) → answer ≡ Passed executes → ⊥) →
    SeatPasses (record { table = table; members = members; member = m; seated = seated; seen = seen; did = v.did }) answer (record { table = then_table; members = members; member = m; seated = seated; seen = seen; did = now.did })
passing_shows key members m i seated table then_table seen plan (Passed executes) v now team seat acts same number passes not_passed = absurd (not_passed executes refl)
passing_shows key members m i seated table then_table seen plan (NotYet NoRoom) v now team seat acts same number (waits, unchanged) not_passed =
    waits_tell key members m i seated false table then_table seen plan v now team seat (own_stands members m seated v acts) same number waits unchanged
passing_shows key members m i seated table then_table seen plan (NotYet BeingOpened) v now team seat acts same number (waits, beside, unchanged) not_passed =
    (waits_tell key members m i seated true table then_table seen plan v now team seat (own_stands members m seated v acts) same number waits unchanged, λ first. not_both v.alone (acts.only first) beside)
passing_shows key members m i seated table then_table seen plan Differs v now team seat acts same number (apart, done) not_passed =
    differs_tell key members m i seated table then_table seen plan (single_shape false) v now team seat (own_stands members m seated v acts) same number apart done

pub passing_tells : (key members m seated : ℕ) (table then_table : TableId) (seen : Seen) (plan : PlanView) (answer : Passage) (v now : View) (before : SeatView) → key ≡ members → IsSeat members m seen plan v → ActsFor members m seated v → then_table ≡ table → PassesNext key m seen.entered answer v now → ((executes : Bool) → answer ≡ Passed executes → ⊥) →
    record { table = table; members = members; member = m; seated = seated; seen = seen; did = v.did } ≡ before → SeatPasses before answer (record { table = then_table; members = members; member = m; seated = seated; seen = seen; did = now.did })
passing_tells key members m seated table then_table seen plan answer v now before team seat acts same passes not_passed view =
    subst (λ (b : SeatView). SeatPasses b answer (record { table = then_table; members = members; member = m; seated = seated; seen = seen; did = now.did })) view
    (passing_shows key members m seen.entered seated table then_table seen plan answer v now team seat acts same refl passes not_passed)

-- What a seat keeps of a single that its member executed

-- nothing while the member is in a share
pub none_executed : (executed : Bool) (seen then_seen : Seen) (share : ℕ × Shape) → HasExecuted executed seen → seen.current ≡ Some share → HasExecuted executed then_seen
none_executed executed seen then_seen share has inside = λ is. absurd (none-some share (sym (ap (λ (s : Seen). s.current) (has is).1) ∙ inside))

-- a seat that keeps 0 there has none
pub never_below_none : (n : ℕ) → nat_lt n 0 ≡ true → ⊥
never_below_none n is = grind (arith, nat_tests)

-- once it went through one by a look
pub has_executed : (executes late : Bool) (i below : ℕ) (seen : Seen) → seen ≡ passed_seen executes i → late ≡ nat_lt 6 i → below ≡ (if executes && late then most_shares else 0) → HasExecuted (nat_lt (i + 1) below) seen
has_executed true true i below seen is far goes = λ so.
    let entered : seen.entered ≡ i + 1 = ap (λ (s : Seen). s.entered) is in
    let past : nat_lt 6 i ≡ true = sym far in
    let more : 6 < i = grind (arith, nat_tests) in
    (omega arith, is ∙ ap (passed_seen true) (one_less seen.entered entered))
  where
    one_less : (n : ℕ) → n ≡ i + 1 → i ≡ n - 1
    one_less n e = omega arith
has_executed true false i below seen is far goes = λ so. absurd (never_below_none (i + 1) (subst (λ (n : ℕ). nat_lt (i + 1) n ≡ true) goes so))
has_executed false late i below seen is far goes = λ so. absurd (never_below_none (i + 1) (subst (λ (n : ℕ). nat_lt (i + 1) n ≡ true) goes so))

pub below_most : (executed : Bool) (below : ℕ) → below ≡ (if executed then most_shares else 0) → below ≤ 2 ^ 48
below_most true below goes = omega arith
below_most false below goes = omega arith

-- and again, with no look
pub seen_again : (seen then_seen : Seen) (executed : Bool) → HasExecuted executed seen → executed ≡ true → then_seen ≡ record seen { entered = seen.entered + 1 } → then_seen ≡ passed_seen true seen.entered
seen_again seen then_seen executed has is goes = goes ∙ ap (λ (s : Seen). record s { entered = seen.entered + 1 }) (has is).1

pub executed_again : (seen then_seen : Seen) (executed then_executed : Bool) → HasExecuted executed seen → executed ≡ true → then_seen ≡ record seen { entered = seen.entered + 1 } → HasExecuted then_executed then_seen
executed_again seen then_seen executed then_executed has is goes = λ so.
    let entered : then_seen.entered ≡ seen.entered + 1 = ap (λ (s : Seen). s.entered) goes in
    let late = (has is).0 in
    (omega arith, seen_again seen then_seen executed has is goes ∙ ap (passed_seen true) (one_less then_seen.entered entered))
  where
    one_less : (n : ℕ) → n ≡ seen.entered + 1 → seen.entered ≡ n - 1
    one_less n e = omega arith

-- so the member may enter a share if it has entered fewer than it can
pub may_open_again : (members m : ℕ) (executed : Bool) (seen : Seen) (plan : PlanView) (v : View) → IsSeat members m seen plan v → HasExecuted executed seen → executed ≡ true → seen.entered < 2 ^ 48 → CanOpen members m (single_shape false) seen
may_open_again members m executed seen plan v seat has is few = record {
  member = seat.member;
  valid = single_fits;
  ordered = λ o. absurd (cc);
  outside = ap (λ (s : Seen). is_some s.current) (has is).1;
  few = few;
}

pub may_enter_again : (executed : Bool) (seen : Seen) → HasExecuted executed seen → executed ≡ true → seen.entered < 2 ^ 48 → may_enter seen ≡ true
may_enter_again executed seen has is few =
    let none : is_some seen.current ≡ false = ap (λ (s : Seen). is_some s.current) (has is).1 in
    rw (none, below_is seen.entered most_shares few) refl
