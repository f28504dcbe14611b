-- What the seat of a member keeps when the member cancels a share, sees that it is cancelled, begins or ends a part, or hands its piece on, and what these calls tell.
use Rattle.std.proofs.Common.{◌≡◌, ℕ, zero, suc, ◌+◌, ◌-◌, ◌*◌, ◌^◌, ◌<◌, ◌≤◌, Bool, true, false, List, ◌∷◌, slice_get, length, Option, Some, None, ◌⊎◌, inl, inr, refl, ap, sym, ◌∙◌, subst, arith}
use Rattle.std.specs.Prelude.{if◌then◌else◌, is_some, not}
use Rattle.std.proofs.lemmas.Bool.{cases_Bool, cases_lt}
use Rattle.std.proofs.lemmas.Option.{none-some, slice_get_past}
use Rattle.atomic_table.specs.Seated.{TableId}
use Rattle.gomp_types.specs.declared.shape.Shape.{Shape}
use Rattle.gomp_events.specs.declared.event.Event.{Event}
use Rattle.gomp_events.specs.declared.event.Event.TheVariants.{Part, PartEnd, See}
use Rattle.gomp_events.specs.declared.seen.Seen.{Seen}
use Rattle.gomp_types.specs.Pieces.{Piece, pieces_of}
use Rattle.gomp_types.specs.Shapes.{is_loop, is_sections}
use Rattle.gomp_events.specs.Events.{open_share, share_number, last_piece, in_kind, member_of, turn}
use Rattle.gomp_events.specs.Cancels.{inside_cancelled, own_cancelled}
use Rattle.gomp_events.specs.Ordered.{same_piece, number_of_piece}
use Rattle.gomp_types.specs.Deals.{schedule}
use Rattle.gomp_events.specs.Takes.{taken_in}
use Rattle.gomp_types.specs.Limits.{shown_number}
use Rattle.gomp_events.specs.Laws.{Always}
use Rattle.gomp_events.specs.Seen.{seen_of}
use Rattle.gomp_types.proofs.Booleans.{same_number, none_of, some_of}
use Rattle.gomp_types.proofs.Dealing.{pieces_tile_all}
use Rattle.gomp_events.proofs.Numbering.{number_at}
use Rattle.gomp_types.proofs.Tiling.{piece_within}
use Rattle.gomp_chunks.specs.Plans.{PlanView, pieces}
use Rattle.gomp_shares.specs.Calls.{CanBeginPart, CanEndPart, kind_in, turn_in, own_turn, number_in}
use Rattle.gomp_shares.specs.Only.{own_of}
use Rattle.gomp_shares.specs.Rules.{ShareRule}
use Rattle.gomp_shares.proofs.AnswerRules.{rest_tells, part_end_follows_the_rule}
use Rattle.gomp_shares.proofs.OwnEvents.{seen_own}
use Rattle.gomp_slots.specs.declared.view.View.{View}
use Rattle.gomp_slots.specs.Rule.{stands_for, Knows}
use Rattle.gomp_slots.specs.Calls.{Acts, SeesShareCancelled, AsksShareCancelled, TriesTurn}
use Rattle.gomp_slots.specs.Premises.{HasPieceNumber}
use Rattle.gomp_ring.specs.Gathers.{pieces_taken, iterations_of, loop_iterations}
use Rattle.gomp_ring.specs.RingSeats.{SeatView, asked_piece, AskedIsThere, IsSeat, Counts, shares_left, SeatActs, SeatAsks, SeatSees, SeatTriesTurn}
use Rattle.gomp_slots.proofs.History.{pieces_few}
use Rattle.gomp_ring.proofs.SeatCalls.{in_share, part_of_team, seat_acts, seat_after}
use Rattle.gomp_slots.proofs.WordSteps.{seat_sees}

-- An act of the member in its share, by which it takes nothing

-- the member acts in the share that it is in, and stays in it; this is what it sees then
pub record ActsInside (key members m i : ℕ) (shape : Shape) (event : Event) (seen then_seen : Seen) (plan : PlanView) (v now : View) : Type 0 where
  pub team : key ≡ members
  pub seat : IsSeat members m seen plan v
  pub stands : stands_for v m ≡ true
  pub current : seen.current ≡ Some (i, shape)
  pub who : member_of event ≡ m
  pub acts : Acts key event v now
  pub sees : then_seen ≡ seen_of m (event ∷ v.did)
  pub entered : then_seen.entered ≡ seen.entered
  pub still : then_seen.current ≡ seen.current

-- this is made of its parts
pub acts_inside : (key members m i : ℕ) (shape : Shape) (event : Event) (seen then_seen : Seen) (plan : PlanView) (v now : View) → key ≡ members → IsSeat members m seen plan v → stands_for v m ≡ true → seen.current ≡ Some (i, shape) → member_of event ≡ m → Acts key event v now → then_seen ≡ seen_of m (event ∷ v.did) → then_seen.entered ≡ seen.entered → then_seen.current ≡ seen.current →
    ActsInside key members m i shape event seen then_seen plan v now
acts_inside key members m i shape event seen then_seen plan v now team seat stands current who acts sees entered still = record {
  team = team;
  seat = seat;
  stands = stands;
  current = current;
  who = who;
  acts = acts;
  sees = sees;
  entered = entered;
  still = still;
}

-- what the member did then
pub did_then : (key members m i : ℕ) (shape : Shape) (event : Event) (seen then_seen : Seen) (plan : PlanView) (v now : View) → ActsInside key members m i shape event seen then_seen plan v now → now.did ≡ event ∷ v.did
did_then key members m i shape event seen then_seen plan v now is = ap (λ (x : View). x.did) is.acts.after

-- and what it sees
pub sees_then : (key members m i : ℕ) (shape : Shape) (event : Event) (seen then_seen : Seen) (plan : PlanView) (v now : View) → ActsInside key members m i shape event seen then_seen plan v now → then_seen ≡ seen_of m now.did
sees_then key members m i shape event seen then_seen plan v now is = is.sees ∙ sym (ap (seen_of m) (did_then key members m i shape event seen then_seen plan v now is))

-- the seat keeps what it keeps
pub seat_after_act : (key members m i : ℕ) (shape : Shape) (event : Event) (seen then_seen : Seen) (plan : PlanView) (v now : View) → ActsInside key members m i shape event seen then_seen plan v now → IsSeat members m then_seen plan now
seat_after_act key members m i shape event seen then_seen plan v now is =
    seat_after members m i shape seen then_seen plan plan event v now is.seat is.current is.who is.acts.after
    (part_of_team key members m seen plan event v now is.team is.seat is.stands is.who is.acts)
    (sees_then key members m i shape event seen then_seen plan v now is) is.entered (λ share at. sym is.still ∙ at) refl

-- what the call tells: the event is that which the seat before it says
pub act_tells : (key members m i seated : ℕ) (table then_table : TableId) (shape : Shape) (event : Event) (event_of : SeatView → Event) (seen then_seen : Seen) (plan : PlanView) (v now : View) (before : SeatView) → ActsInside key members m i shape event seen then_seen plan v now → then_table ≡ table →
    event_of (record { table = table; members = members; member = m; seated = seated; seen = seen; did = v.did }) ≡ event → record { table = table; members = members; member = m; seated = seated; seen = seen; did = v.did } ≡ before →
    SeatActs (event_of before) before (record { table = then_table; members = members; member = m; seated = seated; seen = then_seen; did = now.did })
act_tells key members m i seated table then_table shape event event_of seen then_seen plan v now before is same event_is view =
    let was : SeatView = record { table = table; members = members; member = m; seated = seated; seen = seen; did = v.did } in
    let after : SeatView = record { table = then_table; members = members; member = m; seated = seated; seen = then_seen; did = now.did } in
    let tells : SeatActs event was after = seat_acts key members m seated table then_table seen then_seen plan event v now is.team is.seat is.stands same is.acts (sees_then key members m i shape event seen then_seen plan v now is) in
    subst (λ (b : SeatView). SeatActs (event_of b) b after) view (subst (λ (e : Event). SeatActs e was after) (sym event_is) tells)

-- the member takes nothing by such an event
pub record TakesNothing (m : ℕ) (event : Event) (h : List Event) : Type 0 where
  pub count : (share : ℕ) → taken_in (λ k. k) share m (event ∷ h) ≡ taken_in (λ k. k) share m h
  pub pieces : (share : ℕ) → pieces_taken share m (event ∷ h) ≡ pieces_taken share m h
  pub loops : loop_iterations m (event ∷ h) ≡ loop_iterations m h

-- then what the seat counts stays
pub counts_stay : (m own here taken : ℕ) (event : Event) (seen then_seen : Seen) (v now : View) → Counts m own here taken seen v → now.did ≡ event ∷ v.did → TakesNothing m event v.did → then_seen.entered ≡ seen.entered → then_seen.current ≡ seen.current → Counts m own here taken then_seen now
counts_stay m own here taken event seen then_seen v now counts goes none entered current = record {
  own_is = λ share at static. counts.own_is share (sym current ∙ at) static ∙ ap shown_number (sym (none.count share.0)) ∙ sym (ap (λ (h : List Event). shown_number (taken_in (λ k. k) share.0 m h)) goes);
  here_is = λ share at. counts.here_is share (sym current ∙ at) ∙ ap iterations_of (sym (none.pieces share.0)) ∙ sym (ap (λ (h : List Event). iterations_of (pieces_taken share.0 m h)) goes);
  here_few = λ share at. counts.here_few share (sym current ∙ at);
  taken_few = subst (λ (n : ℕ). taken ≤ n * 2 ^ 39) (sym left_same) counts.taken_few;
  taken_is = ap (loop_iterations m) goes ∙ none.loops ∙ counts.taken_is ∙ ap (λ (o : Option (ℕ × Shape)). taken + (if in_kind is_loop o then here else 0)) (sym current);
}
  where
    left_same : shares_left then_seen ≡ shares_left seen
    left_same = ap (λ (o : Option (ℕ × Shape)). if is_some o then then_seen.entered - 1 else then_seen.entered) current ∙ ap (λ (n : ℕ). if is_some seen.current then n - 1 else n) entered

-- what holds of what the member sees holds of what its events say
pub holds_of_place : (key members m : ℕ) (P : ℕ → Seen → Type 0) (seen : Seen) (plan : PlanView) (v : View) → key ≡ members → IsSeat members m seen plan v → P members seen → P key (seen_of m v.did)
holds_of_place key members m P seen plan v team seat holds = subst (P key) seat.sees (subst (λ (n : ℕ). P n seen) (sym team) holds)

-- What the member sees then

-- it sees what it saw, after an event that tells it nothing
pub sees_as_before : (members m : ℕ) (event : Event) (seen : Seen) (plan : PlanView) (v : View) → IsSeat members m seen plan v → seen_of m (event ∷ v.did) ≡ seen_of m v.did → seen ≡ seen_of m (event ∷ v.did)
sees_as_before members m event seen plan v seat same = seat.sees ∙ sym same

-- it leaves, once it has seen that its share is cancelled
pub sees_leaving : (members m : ℕ) (seen : Seen) (plan : PlanView) (v : View) → IsSeat members m seen plan v → record seen { leaving = true } ≡ seen_of m (See m (kind_in (open_share m v.did)) ∷ v.did)
sees_leaving members m seen plan v seat = ap (λ (s : Seen). record s { leaving = true }) seat.sees ∙ by_kind (in_kind is_sections (open_share m v.did)) refl
  where
    by_kind : (b : Bool) → in_kind is_sections (open_share m v.did) ≡ b → record (seen_of m v.did) { leaving = true } ≡ seen_of m (See m (kind_in (open_share m v.did)) ∷ v.did)
    by_kind true e = rw (e, same_number m) refl
    by_kind false e = rw (e, same_number m) refl

-- it is in a part that it has begun
pub sees_part : (members m i iteration : ℕ) (seen : Seen) (plan : PlanView) (v : View) → IsSeat members m seen plan v → record seen { next_part = iteration + 1; in_part = true } ≡ seen_of m (Part i m iteration ∷ v.did)
sees_part members m i iteration seen plan v seat = ap (λ (s : Seen). record s { next_part = iteration + 1; in_part = true }) seat.sees ∙ begun v.did
  where
    begun : (h : List Event) → record (seen_of m h) { next_part = iteration + 1; in_part = true } ≡ seen_of m (Part i m iteration ∷ h)
    begun h = rw (same_number m) refl

-- and in none that it has ended
pub sees_part_end : (members m i : ℕ) (seen : Seen) (plan : PlanView) (v : View) → IsSeat members m seen plan v → record seen { in_part = false } ≡ seen_of m (PartEnd i m ∷ v.did)
sees_part_end members m i seen plan v seat = ap (λ (s : Seen). record s { in_part = false }) seat.sees ∙ ended v.did
  where
    ended : (h : List Event) → record (seen_of m h) { in_part = false } ≡ seen_of m (PartEnd i m ∷ h)
    ended h = rw (same_number m) refl

-- Whether the share is cancelled

-- what the team's events say of the member's place is what its own say
place_of_team : (m : ℕ) (did h : List Event) → did ≡ own_of m h → seen_of m did ≡ seen_of m h
place_of_team m did h part = ap (seen_of m) part ∙ seen_own m h

-- a member asks of the share that it is in
cancelled_in_share : (m i : ℕ) (shape : Shape) (h : List Event) → open_share m h ≡ Some (i, shape) → own_cancelled m h ≡ inside_cancelled (Some (i, shape)) h
cancelled_in_share m i shape h at = ap (λ (o : Option (ℕ × Shape)). inside_cancelled o h) at

-- the events say that the member is in that share
inside_then : (members m i : ℕ) (shape : Shape) (seen : Seen) (plan : PlanView) (v : View) (h : List Event) → IsSeat members m seen plan v → stands_for v m ≡ true → seen.current ≡ Some (i, shape) → Knows v h → open_share m h ≡ Some (i, shape)
inside_then members m i shape seen plan v h seat stands current knows = sym (ap (λ (s : Seen). s.current) (seat_sees m v h knows stands)) ∙ sym (ap (λ (s : Seen). s.current) seat.sees) ∙ current

-- what is told to a member that asks
pub asking_tells : (key members m i seated : ℕ) (table then_table : TableId) (shape : Shape) (answer : Bool) (seen : Seen) (plan : PlanView) (v now : View) (before : SeatView) → key ≡ members → IsSeat members m seen plan v → stands_for v m ≡ true → seen.current ≡ Some (i, shape) → then_table ≡ table → AsksShareCancelled key i v answer now →
    record { table = table; members = members; member = m; seated = seated; seen = seen; did = v.did } ≡ before → SeatAsks before answer (record { table = then_table; members = members; member = m; seated = seated; seen = seen; did = now.did })
asking_tells key members m i seated table then_table shape answer seen plan v now before team seat stands current same asks view =
    let h : List Event = asks.events in
    let after : SeatView = record { table = then_table; members = members; member = m; seated = seated; seen = seen; did = now.did } in
    subst (λ (b : SeatView). SeatAsks b answer after) view (record {
      events = h;
      knows = sym seat.own ∙ asks.knows.own m stands;
      rule = subst (λ (n : ℕ). Always (ShareRule (schedule n) n) h) team asks.rule;
      answer_is = asks.answer_is ∙ sym (cancelled_in_share m i shape h (inside_then members m i shape seen plan v h seat stands current asks.knows));
      same = rw (same, asks.after) refl;
    })

-- outside of a share it is not
pub asking_outside_tells : (members m seated : ℕ) (table : TableId) (seen : Seen) (plan : PlanView) (v : View) (before : SeatView) → IsSeat members m seen plan v → seen.current ≡ None →
    record { table = table; members = members; member = m; seated = seated; seen = seen; did = v.did } ≡ before → SeatAsks before false before
asking_outside_tells members m seated table seen plan v before seat outside view =
    let h : List Event = seat.lawful.events in
    let none : open_share m h ≡ None = sym (ap (λ (s : Seen). s.current) (place_of_team m v.did h seat.lawful.part)) ∙ sym (ap (λ (s : Seen). s.current) seat.sees) ∙ outside in
    subst (λ (b : SeatView). SeatAsks b false b) view (record {
      events = h;
      knows = seat.lawful.part;
      rule = seat.lawful.rule;
      answer_is = sym (ap (λ (o : Option (ℕ × Shape)). inside_cancelled o h) none);
      same = refl;
    })

-- the member sees it
pub sight_tells : (key members m i seated : ℕ) (table then_table : TableId) (shape : Shape) (answer : Bool) (seen : Seen) (plan : PlanView) (v now : View) (before : SeatView) → IsSeat members m seen plan v → stands_for v m ≡ true → then_table ≡ table → SeesShareCancelled key m i v answer now → answer ≡ true →
    ActsInside key members m i shape (See m (kind_in (open_share m v.did))) seen (record seen { leaving = true }) plan v now →
    record { table = table; members = members; member = m; seated = seated; seen = seen; did = v.did } ≡ before → SeatSees before true (record { table = then_table; members = members; member = m; seated = seated; seen = record seen { leaving = true }; did = now.did })
sight_tells key members m i seated table then_table shape answer seen plan v now before seat stands same sight is_true is view =
    let h : List Event = sight.events in
    let was : SeatView = record { table = table; members = members; member = m; seated = seated; seen = seen; did = v.did } in
    let after : SeatView = record { table = then_table; members = members; member = m; seated = seated; seen = record seen { leaving = true }; did = now.did } in
    let event_is : See m (kind_in seen.current) ≡ See m (kind_in (open_share m v.did)) = ap (λ (s : Seen). See m (kind_in s.current)) seat.sees in
    let tells = act_tells key members m i seated table then_table shape (See m (kind_in (open_share m v.did))) (λ (b : SeatView). See b.member (kind_in b.seen.current)) seen (record seen { leaving = true }) plan v now was is same event_is refl in
    subst (λ (b : SeatView). SeatSees b true after) view (record {
      events = h;
      knows = sym seat.own ∙ sight.knows.own m stands;
      rule = subst (λ (n : ℕ). Always (ShareRule (schedule n) n) h) is.team sight.rule;
      answer_is = sym is_true ∙ sight.answer_is ∙ sym (cancelled_in_share m i shape h (inside_then members m i shape seen plan v h seat stands is.current sight.knows));
      acts = λ e. tells;
      leaves = λ e. refl;
      same = λ e. absurd (cc);
    })

-- or it is not, and nothing changes
pub no_sight_tells : (key members m i seated : ℕ) (table then_table : TableId) (shape : Shape) (answer : Bool) (seen : Seen) (plan : PlanView) (v now : View) (before : SeatView) → key ≡ members → IsSeat members m seen plan v → stands_for v m ≡ true → seen.current ≡ Some (i, shape) → then_table ≡ table → SeesShareCancelled key m i v answer now → answer ≡ false →
    record { table = table; members = members; member = m; seated = seated; seen = seen; did = v.did } ≡ before → SeatSees before false (record { table = then_table; members = members; member = m; seated = seated; seen = seen; did = now.did })
no_sight_tells key members m i seated table then_table shape answer seen plan v now before team seat stands current same sight is_false view =
    let h : List Event = sight.events in
    let after : SeatView = record { table = then_table; members = members; member = m; seated = seated; seen = seen; did = now.did } in
    subst (λ (b : SeatView). SeatSees b false after) view (record {
      events = h;
      knows = sym seat.own ∙ sight.knows.own m stands;
      rule = subst (λ (n : ℕ). Always (ShareRule (schedule n) n) h) team sight.rule;
      answer_is = sym is_false ∙ sight.answer_is ∙ sym (cancelled_in_share m i shape h (inside_then members m i shape seen plan v h seat stands current sight.knows));
      acts = λ e. absurd (cc);
      leaves = λ e. absurd (cc);
      same = λ e. rw (same, sight.unseen is_false) refl;
    })

-- The number of a piece

-- the piece that was asked for last has that number
piece_is_numbered : (members asked : ℕ) (shape : Shape) (piece : Piece) (plan : PlanView) → plan ≡ record { members = members; shape = shape } → asked_piece plan asked ≡ Some piece → slice_get (pieces_of members shape) (asked - 1) ≡ Some piece
piece_is_numbered members zero shape piece plan plan_is there = absurd (none-some piece there)
piece_is_numbered members (suc number) shape piece plan plan_is there =
    let before : suc number - 1 ≡ number = omega arith in
    ap (slice_get (pieces_of members shape)) before ∙ sym (ap (λ (p : PlanView). slice_get (pieces p) number) plan_is) ∙ there

-- the member's piece has the number that was asked for last
pub has_number : (key members m i asked : ℕ) (shape : Shape) (piece : Piece) (seen : Seen) (plan : PlanView) (v : View) → key ≡ members → IsSeat members m seen plan v → stands_for v m ≡ true → seen.current ≡ Some (i, shape) → asked_piece plan asked ≡ seen.piece → seen.piece ≡ Some piece → HasPieceNumber key m i (asked - 1) v
has_number key members m i asked shape piece seen plan v team seat stands current asked_is there = record {
  at = in_share key members m i seen plan shape v team seat stands current;
  piece = piece;
  last = sym (ap (λ (s : Seen). s.piece) seat.sees) ∙ there;
  number_is = ap (λ (n : ℕ). slice_get (pieces_of n shape) (asked - 1)) team ∙ piece_is_numbered members asked shape piece plan (seat.plan_is (i, shape) current) (asked_is ∙ there);
}

-- a member that asked for none, or was answered that nothing is left, has no piece
pub no_piece_asked_for : (plan : PlanView) (asked : ℕ) (drained : Bool) → AskedIsThere plan asked drained → (asked ≡ 0) ⊎ (drained ≡ true) → asked_piece plan asked ≡ None
no_piece_asked_for plan asked drained there (inl none) = ap (asked_piece plan) none
no_piece_asked_for plan zero drained there (inr past) = refl
no_piece_asked_for plan (suc number) drained there (inr past) = none_of (asked_piece plan (suc number)) (there (omega arith) ∙ ap not past)

-- and each other has one
pub piece_asked_for : (plan : PlanView) (asked : ℕ) (drained : Bool) → AskedIsThere plan asked drained → 0 < asked → drained ≡ false → (piece : Piece) × (asked_piece plan asked ≡ Some piece)
piece_asked_for plan asked drained there any more = some_of (asked_piece plan asked) (there any ∙ ap not more)

-- it is below 2^39
pub number_few : (members m i asked : ℕ) (shape : Shape) (piece : Piece) (seen : Seen) (plan : PlanView) (v : View) → IsSeat members m seen plan v → seen.current ≡ Some (i, shape) → asked_piece plan asked ≡ seen.piece → seen.piece ≡ Some piece → asked - 1 < 2 ^ 39
number_few members m i asked shape piece seen plan v seat current asked_is there =
    let any : 0 < members = let member = seat.member in omega arith in
    let few = pieces_few members shape any (seat.valid (i, shape) current) in
    let at = piece_is_numbered members asked shape piece plan (seat.plan_is (i, shape) current) (asked_is ∙ there) in
    elim (cases_lt (asked - 1) (length (pieces_of members shape))) [
      | inl below ↦ omega arith
      | inr past ↦ absurd (none-some piece (sym (slice_get_past (pieces_of members shape) (asked - 1) past) ∙ at))
    ]

-- and it is that of the member's last piece
pub number_of_last : (members m i asked : ℕ) (shape : Shape) (piece : Piece) (seen : Seen) (plan : PlanView) (v : View) → IsSeat members m seen plan v → seen.current ≡ Some (i, shape) → asked_piece plan asked ≡ seen.piece → seen.piece ≡ Some piece → number_in members seen.current m v.did ≡ asked - 1
number_of_last members m i asked shape piece seen plan v seat current asked_is there =
    let any : 0 < members = let member = seat.member in omega arith in
    let at = piece_is_numbered members asked shape piece plan (seat.plan_is (i, shape) current) (asked_is ∙ there) in
    let tiles = pieces_tile_all members shape any (seat.valid (i, shape) current) in
    let last : last_piece m v.did ≡ Some piece = sym (ap (λ (s : Seen). s.piece) seat.sees) ∙ there in
    ap (λ (o : Option (ℕ × Shape)). number_in members o m v.did) current ∙ ap (number_of_piece (pieces_of members shape)) last ∙ number_at 0 shape.trips (pieces_of members shape) (asked - 1) piece tiles at

-- the iteration of a part is below 2^39
pub iteration_few : (members m i asked iteration : ℕ) (shape : Shape) (seen : Seen) (plan : PlanView) (v : View) → IsSeat members m seen plan v → seen.current ≡ Some (i, shape) → asked_piece plan asked ≡ seen.piece → CanBeginPart members m iteration seen → iteration < 2 ^ 39
iteration_few members m i asked iteration shape seen plan v seat current asked_is can =
    let any : 0 < members = let member = seat.member in omega arith in
    let is = seat.valid (i, shape) current in
    let rest = rest_tells seen.piece seen.next_part iteration can.rest in
    let at = piece_is_numbered members asked shape rest.piece plan (seat.plan_is (i, shape) current) (asked_is ∙ rest.is) in
    let within : rest.piece.1 ≤ shape.trips = piece_within 0 shape.trips (pieces_of members shape) (asked - 1) rest.piece (pieces_tile_all members shape any is) at in
    let below = rest.before in
    let trips = is.trips in
    omega arith

-- Turns

-- the answer is whether the turn is the member's
turn_inside : (key members m : ℕ) (event : Event) (answer : Bool) (v now : View) → key ≡ members → (tries : TriesTurn key m event v answer now) → answer ≡ own_turn members m tries.events
turn_inside key members m event answer v now team tries = tries.answer_is ∙ ap (λ (n : ℕ). own_turn n m tries.events) team

-- the turn is the member's, and it does this
pub own_turn_tells : (key members m i seated : ℕ) (table then_table : TableId) (shape : Shape) (event : Event) (event_of : SeatView → Event) (answer : Bool) (seen then_seen : Seen) (plan : PlanView) (v now : View) (before : SeatView) → ActsInside key members m i shape event seen then_seen plan v now → then_table ≡ table → TriesTurn key m event v answer now → answer ≡ true →
    event_of (record { table = table; members = members; member = m; seated = seated; seen = seen; did = v.did }) ≡ event → record { table = table; members = members; member = m; seated = seated; seen = seen; did = v.did } ≡ before →
    SeatTriesTurn (event_of before) before true (record { table = then_table; members = members; member = m; seated = seated; seen = then_seen; did = now.did })
own_turn_tells key members m i seated table then_table shape event event_of answer seen then_seen plan v now before is same tries is_true event_is view =
    let h : List Event = tries.events in
    let was : SeatView = record { table = table; members = members; member = m; seated = seated; seen = seen; did = v.did } in
    let after : SeatView = record { table = then_table; members = members; member = m; seated = seated; seen = then_seen; did = now.did } in
    let tells : SeatActs (event_of was) was after = act_tells key members m i seated table then_table shape event event_of seen then_seen plan v now was is same event_is refl in
    subst (λ (b : SeatView). SeatTriesTurn (event_of b) b true after) view (record {
      events = h;
      knows = sym is.seat.own ∙ tries.knows.own m is.stands;
      rule = subst (λ (n : ℕ). Always (ShareRule (schedule n) n) h) is.team tries.rule;
      answer_is = sym is_true ∙ turn_inside key members m event answer v now is.team tries;
      acts = λ e. tells;
      same = λ e. absurd (cc);
    })

-- or it is not, and nothing changes
pub no_turn_tells : (key members m seated : ℕ) (table then_table : TableId) (event : Event) (event_of : SeatView → Event) (answer : Bool) (seen : Seen) (plan : PlanView) (v now : View) (before : SeatView) → key ≡ members → IsSeat members m seen plan v → stands_for v m ≡ true → then_table ≡ table → TriesTurn key m event v answer now → answer ≡ false →
    record { table = table; members = members; member = m; seated = seated; seen = seen; did = v.did } ≡ before → SeatTriesTurn (event_of before) before false (record { table = then_table; members = members; member = m; seated = seated; seen = seen; did = now.did })
no_turn_tells key members m seated table then_table event event_of answer seen plan v now before team seat stands same tries is_false view =
    let h : List Event = tries.events in
    let after : SeatView = record { table = then_table; members = members; member = m; seated = seated; seen = seen; did = now.did } in
    subst (λ (b : SeatView). SeatTriesTurn (event_of b) b false after) view (record {
      events = h;
      knows = sym seat.own ∙ tries.knows.own m stands;
      rule = subst (λ (n : ℕ). Always (ShareRule (schedule n) n) h) team tries.rule;
      answer_is = sym is_false ∙ turn_inside key members m event answer v now team tries;
      acts = λ e. absurd (cc);
      same = λ e. rw (same, tries.waits is_false) refl;
    })

-- with either answer the member sees what it saw
pub try_tells : (key members m i seated : ℕ) (table then_table : TableId) (shape : Shape) (event : Event) (event_of : SeatView → Event) (answer : Bool) (seen : Seen) (plan : PlanView) (v now : View) (before : SeatView) → key ≡ members → IsSeat members m seen plan v → stands_for v m ≡ true → (answer ≡ true → ActsInside key members m i shape event seen seen plan v now) → then_table ≡ table → TriesTurn key m event v answer now →
    event_of (record { table = table; members = members; member = m; seated = seated; seen = seen; did = v.did }) ≡ event → record { table = table; members = members; member = m; seated = seated; seen = seen; did = v.did } ≡ before →
    SeatTriesTurn (event_of before) before answer (record { table = then_table; members = members; member = m; seated = seated; seen = seen; did = now.did })
try_tells key members m i seated table then_table shape event event_of answer seen plan v now before team seat stands is same tries event_is view =
    let after : SeatView = record { table = then_table; members = members; member = m; seated = seated; seen = seen; did = now.did } in
    elim (cases_Bool answer) [
      | inl e ↦ subst (λ (b : Bool). SeatTriesTurn (event_of before) before b after) (sym e) (own_turn_tells key members m i seated table then_table shape event event_of answer seen seen plan v now before (is e) same tries e event_is view)
      | inr e ↦ subst (λ (b : Bool). SeatTriesTurn (event_of before) before b after) (sym e) (no_turn_tells key members m seated table then_table event event_of answer seen plan v now before team seat stands same tries e view)
    ]

-- a member without a piece has no turn
turn_without : (members m : ℕ) (own : Option (ℕ × Shape)) (h : List Event) → last_piece m h ≡ None → turn_in members own m h ≡ false
turn_without members m None h none = refl
turn_without members m (Some share) h none = ap (same_piece (slice_get (pieces_of members share.1) (turn share.0 h))) none ∙ apart (slice_get (pieces_of members share.1) (turn share.0 h))
  where
    apart : (piece : Option Piece) → same_piece piece None ≡ false
    apart None = refl
    apart (Some piece) = refl

-- so nothing changes
pub no_piece_tells : (members m seated : ℕ) (table : TableId) (event_of : SeatView → Event) (seen : Seen) (plan : PlanView) (v : View) (before : SeatView) → IsSeat members m seen plan v → seen.piece ≡ None →
    record { table = table; members = members; member = m; seated = seated; seen = seen; did = v.did } ≡ before → SeatTriesTurn (event_of before) before false before
no_piece_tells members m seated table event_of seen plan v before seat none view =
    let h : List Event = seat.lawful.events in
    let last : last_piece m h ≡ None = sym (ap (λ (s : Seen). s.piece) (place_of_team m v.did h seat.lawful.part)) ∙ sym (ap (λ (s : Seen). s.piece) seat.sees) ∙ none in
    subst (λ (b : SeatView). SeatTriesTurn (event_of b) b false b) view (record {
      events = h;
      knows = seat.lawful.part;
      rule = seat.lawful.rule;
      answer_is = sym (turn_without members m (open_share m h) h last);
      acts = λ e. absurd (cc);
      same = λ e. refl;
    })

-- a member that is in a part is in a share
pub in_part_is_inside : (members m : ℕ) (seen : Seen) (plan : PlanView) (v : View) → IsSeat members m seen plan v → CanEndPart members m seen → seen.current ≡ None → ⊥
in_part_is_inside members m seen plan v seat can outside =
    let h : List Event = seat.lawful.events in
    let is : seen ≡ seen_of m h = seat.sees ∙ place_of_team m v.did h seat.lawful.part in
    let may = part_end_follows_the_rule members m h seat.lawful.rule (subst (CanEndPart members m) is can) in
    none-some (share_number (open_share m h), may.shape) (sym outside ∙ ap (λ (s : Seen). s.current) is ∙ may.inside)
