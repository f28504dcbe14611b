-- What the seat that stands for all members keeps when one of them acts, and for which events it stands then.
use Rattle.std.proofs.Common.{◌≡◌, ◌≢◌, ℕ, ◌+◌, ◌<◌, Bool, true, false, List, ◌∷◌, length, slice_get, slice_set, Option, Some, None, inl, inr, refl, ap, sym, ◌∙◌, subst, arith}
use Rattle.std.specs.Prelude.{◌==◌}
use Rattle.std.proofs.lemmas.Bool.{cases_Bool}
use Rattle.std.proofs.lemmas.List.{length-set}
use Rattle.std.proofs.lemmas.Option.{none-some}
use Rattle.gomp_types.specs.declared.shape.Shape.{Shape}
use Rattle.gomp_events.specs.declared.event.Event.{Event}
use Rattle.gomp_events.specs.declared.event.Event.TheVariants.{Enter, Take, Drained, End, HandOn, Part, PartEnd, Cancel, See}
use Rattle.gomp_types.specs.declared.cancel.Scope.TheVariants.{OneShare}
use Rattle.gomp_events.specs.declared.seen.Seen.{Seen}
use Rattle.gomp_types.specs.Pieces.{Piece, pieces_of}
use Rattle.gomp_types.specs.Shapes.{is_sections}
use Rattle.gomp_events.specs.Tasks.{contains}
use Rattle.gomp_types.specs.Values.{IsShape}
use Rattle.gomp_events.specs.Events.{shares_entered, open_share, in_kind, member_of}
use Rattle.gomp_types.specs.Deals.{schedule}
use Rattle.gomp_events.specs.Takes.{taken_in}
use Rattle.gomp_types.specs.Limits.{shown_number}
use Rattle.gomp_events.specs.Laws.{Always}
use Rattle.gomp_events.specs.Seen.{seen_of}
use Rattle.gomp_types.proofs.Booleans.{same_number, is_equal, not_both}
use Rattle.gomp_types.proofs.Lists.{slice_get-set, some_item}
use Rattle.gomp_shares.specs.Calls.{is_of_shares, kind_in}
use Rattle.gomp_shares.specs.Only.{shares_only}
use Rattle.gomp_shares.specs.Rules.{ShareRule}
use Rattle.gomp_shares.proofs.OwnEvents.{own_else, seen_apart}
use Rattle.gomp_shares.proofs.Ended.{names_a_construct}
use Rattle.gomp_slots.specs.declared.view.View.{View}
use Rattle.gomp_slots.specs.Rule.{Knows}
use Rattle.gomp_slots.specs.Calls.{Acts, HasDone}
use Rattle.gomp_slots.proofs.ClaimSteps.{taken_own}
use Rattle.gomp_slots.proofs.OwnPieces.{one_share, no_pieces_ahead}
use Rattle.gomp_share_ring.specs.AllShares.{StandsForAll, SeatTells, IsAll, all_seen, member_seen, seen_in_share}
use Rattle.gomp_share_ring.specs.declared.member_seat.MemberSeat.{MemberSeat}
use Rattle.gomp_share_ring.proofs.OnlyShares.{rule_only}

-- What is kept tells for which events it stands

-- each member sees what the known events say
each_sees : (members m : ℕ) (seats : List MemberSeat) (v : View) → IsAll members seats v → m < members → all_seen seats m ≡ seen_of m v.did
each_sees members m seats v all lt =
    let size = all.size in
    let own = some_item seats m (omega arith) in
    ap member_seen own.1 ∙ (all.tells m own.0 own.1).sees

-- so what is kept stands for each list with the known events that kept the rule
pub stands_by_seats : (members : ℕ) (seats : List MemberSeat) (v : View) (h : List Event) → IsAll members seats v → shares_only h ≡ v.did → Always (ShareRule (schedule members) members) h → StandsForAll members seats v.did h
stands_by_seats members seats v h all same rule = record { same = same; rule = rule; sees = λ m lt. each_sees members m seats v all lt; valid = all.valid }

-- A step

-- with the event the seats are these, and it stands for each list with the event more
pub record IsStep (members : ℕ) (seats then_seats : List MemberSeat) (event : Event) (v now : View) : Type 0 where
  pub all : IsAll members then_seats now
  pub goes : now.did ≡ event ∷ v.did
  pub stands : (h : List Event) → StandsForAll members seats v.did h → StandsForAll members then_seats now.did (event ∷ h)

-- one event more keeps all this if the new seats tell it
pub all_step : (members : ℕ) (seats then_seats : List MemberSeat) (event : Event) (v now : View) (h : List Event) → IsAll members seats v → length then_seats ≡ members → is_of_shares event ≡ true → Knows v h → Always (ShareRule (schedule members) members) (event ∷ h) → HasDone (event ∷ v.did) v now →
    ((k : ℕ) (s : MemberSeat) → slice_get then_seats k ≡ Some s → SeatTells members k s (event ∷ v.did)) → ((k : ℕ) (share : ℕ × Shape) → open_share k (event ∷ v.did) ≡ Some share → IsShape share.1) → IsStep members seats then_seats event v now
all_step members seats then_seats event v now h all size ours knows rule done tells valid =
    let is : v.did ≡ h = knows.all all.alone in
    let ruled : Always (ShareRule (schedule members) members) (event ∷ v.did) = subst (λ (l : List Event). Always (ShareRule (schedule members) members) (event ∷ l)) (sym is) rule in
    let more : (l : List Event) → shares_only l ≡ v.did → shares_only (event ∷ l) ≡ now.did = λ l same. rw ours (ap (λ (rest : List Event). event ∷ rest) same ∙ sym done.did_is) in
    let after : IsAll members then_seats now = record {
      size = size;
      some_member = all.some_member;
      alone = done.alone ∙ all.alone;
      idle = done.idle;
      whose = λ k lt. ap (contains k) done.mine ∙ all.whose k lt;
      rule = subst (λ (l : List Event). Always (ShareRule (schedule members) members) l) (sym done.did_is) ruled;
      clean = ap shares_only done.did_is ∙ more v.did all.clean;
      tells = λ k s at. subst (λ (l : List Event). SeatTells members k s l) (sym done.did_is) (tells k s at);
      valid = λ k share at. valid k share (sym (ap (open_share k) done.did_is) ∙ at);
    } in
    record {
      all = after;
      goes = done.did_is;
      stands = λ l st. stands_by_seats members then_seats now (event ∷ l) after (more l st.same) (rule_only (schedule members) members event l (subst (λ (d : List Event). ShareRule (schedule members) members event d) (sym st.same) ruled.0), st.rule);
    }

-- A member that acts

-- what is kept of the member m is this
pub record IsMemberOf (members m : ℕ) (seats : List MemberSeat) (v : View) (seat : MemberSeat) : Type 0 where
  pub all : IsAll members seats v
  pub at : slice_get seats m ≡ Some seat
  pub member : m < members

-- what is kept of the member says what the known events do
pub tells_now : (members m : ℕ) (seats : List MemberSeat) (v : View) (seat : MemberSeat) → IsMemberOf members m seats v seat → SeatTells members m seat v.did
tells_now members m seats v seat is = is.all.tells m seat is.at

-- what another member does leaves what is kept of this one
taken_apart : (i k : ℕ) (event : Event) (h : List Event) → k ≢ member_of event → taken_in (λ k. k) i k (event ∷ h) ≡ taken_in (λ k. k) i k h
taken_apart i k event h other = sym (taken_own i k (event ∷ h)) ∙ ap (taken_in (λ k. k) i k) (own_else k event h other) ∙ taken_own i k h

-- so it says the same after that
tells_apart : (members k : ℕ) (seat : MemberSeat) (event : Event) (h : List Event) → k ≢ member_of event → SeatTells members k seat h → SeatTells members k seat (event ∷ h)
tells_apart members k seat event h other t = record {
  sees = t.sees ∙ sym (seen_apart event k h other);
  own_is = λ share at. t.own_is share at ∙ ap shown_number (sym (taken_apart share.0 k event h other));
  number_is = t.number_is;
  plan_is = t.plan_is;
}

-- the member does this, and then this is kept of it
pub member_step : (members m : ℕ) (seats : List MemberSeat) (seat then_seat : MemberSeat) (event : Event) (v now : View) (h : List Event) → IsMemberOf members m seats v seat → is_of_shares event ≡ true → member_of event ≡ m → Knows v h → Always (ShareRule (schedule members) members) (event ∷ h) → HasDone (event ∷ v.did) v now →
    SeatTells members m then_seat (event ∷ v.did) → ((share : ℕ × Shape) → open_share m (event ∷ v.did) ≡ Some share → IsShape share.1) → IsStep members seats (slice_set seats m then_seat) event v now
member_step members m seats seat then_seat event v now h is ours who knows rule done tells valid =
    all_step members seats (slice_set seats m then_seat) event v now h is.all (length-set seats m then_seat ∙ is.all.size) ours knows rule done
    (λ k s at. elim (slice_get-set seats m k then_seat s at) [
      | inl e ↦ rw (e.0, e.1) tells
      | inr e ↦ tells_apart members k s event v.did (λ x. e.0 (x ∙ who)) (is.all.tells k s e.1)
    ])
    (λ k share at. by_member k share (k == m) refl at)
  where
    by_member : (k : ℕ) (share : ℕ × Shape) (c : Bool) → (k == m) ≡ c → open_share k (event ∷ v.did) ≡ Some share → IsShape share.1
    by_member k share true e at = valid share (ap (λ (n : ℕ). open_share n (event ∷ v.did)) (sym (is_equal k m e)) ∙ at)
    by_member k share false e at =
        let apart : k ≢ member_of event = λ x. not_both (k == m) (ap (λ (n : ℕ). n == m) (x ∙ who) ∙ same_number m) e in
        is.all.valid k share (sym (ap (λ (s : Seen). s.current) (seen_apart event k v.did apart)) ∙ at)

-- an act of a member adds its event, and no share is being opened
done_by : (members : ℕ) (event : Event) (v now : View) → v.opening ≡ None → Acts members event v now → HasDone (event ∷ v.did) v now
done_by members event v now idle acts = record {
  did_is = ap (λ (x : View). x.did) acts.after;
  mine = ap (λ (x : View). x.mine) acts.after;
  alone = ap (λ (x : View). x.alone) acts.after;
  idle = ap (λ (x : View). x.opening) acts.after ∙ idle;
}

-- in the share that it is in
act_step : (members m : ℕ) (seats : List MemberSeat) (seat then_seat : MemberSeat) (event : Event) (v now : View) → IsMemberOf members m seats v seat → is_of_shares event ≡ true → member_of event ≡ m → Acts members event v now →
    SeatTells members m then_seat (event ∷ v.did) → ((share : ℕ × Shape) → open_share m (event ∷ v.did) ≡ Some share → open_share m v.did ≡ Some share) → IsStep members seats (slice_set seats m then_seat) event v now
act_step members m seats seat then_seat event v now is ours who acts tells still =
    member_step members m seats seat then_seat event v now acts.events is ours who acts.knows acts.rule (done_by members event v now is.all.idle acts) tells (λ share at. is.all.valid m share (still share at))

-- or without a change of what is kept
still_step : (members : ℕ) (seats : List MemberSeat) (event : Event) (v now : View) → IsAll members seats v → is_of_shares event ≡ true → Acts members event v now →
    ((k : ℕ) (s : MemberSeat) → SeatTells members k s v.did → SeatTells members k s (event ∷ v.did)) → ((k : ℕ) → open_share k (event ∷ v.did) ≡ open_share k v.did) → IsStep members seats seats event v now
still_step members seats event v now all ours acts tells still =
    all_step members seats seats event v now acts.events all all.size ours acts.knows acts.rule (done_by members event v now all.idle acts) (λ k s at. tells k s (all.tells k s at)) (λ k share at. all.valid k share (sym (still k) ∙ at))

-- Leaving

-- the member is in no share then
pub leave_all : (members m i : ℕ) (seats : List MemberSeat) (seat : MemberSeat) (v now : View) → IsMemberOf members m seats v seat → Acts members (End i m) v now →
    IsStep members seats (slice_set seats m (record seat { seen = record seat.seen { current = None; leaving = false } })) (End i m) v now
leave_all members m i seats seat v now is acts =
    act_step members m seats seat _ (End i m) v now is refl refl acts
    (record {
      sees = ap (λ (s : Seen). record s { current = None; leaving = false }) (tells_now members m seats v seat is).sees ∙ after_end v.did;
      own_is = λ share at. absurd (none-some share at);
      number_is = λ share piece at. absurd (none-some share at);
      plan_is = λ share at. absurd (none-some share at);
    })
    (λ share at. absurd (none-some share (sym (outside v.did) ∙ at)))
  where
    after_end : (h : List Event) → record (seen_of m h) { current = None; leaving = false } ≡ seen_of m (End i m ∷ h)
    after_end h = rw (same_number m) refl

    outside : (h : List Event) → open_share m (End i m ∷ h) ≡ None
    outside h = rw (same_number m) refl

-- Cancellation

-- nothing that is kept changes
pub cancel_all : (members m i : ℕ) (seats : List MemberSeat) (v now : View) → IsAll members seats v → Acts members (Cancel m (OneShare i)) v now → IsStep members seats seats (Cancel m (OneShare i)) v now
cancel_all members m i seats v now all acts =
    still_step members seats (Cancel m (OneShare i)) v now all refl acts (λ k s t. record { sees = t.sees; own_is = t.own_is; number_is = t.number_is; plan_is = t.plan_is }) (λ k. refl)

-- so the shares see that event
see_is_ours : (m : ℕ) (own : Option (ℕ × Shape)) → is_of_shares (See m (kind_in own)) ≡ true
see_is_ours m own = elim (cases_Bool (in_kind is_sections own)) [
  | inl e ↦ rw e refl
  | inr e ↦ rw e refl
]

-- the member is leaving then
pub see_all : (members m : ℕ) (seats : List MemberSeat) (seat : MemberSeat) (v now : View) → IsMemberOf members m seats v seat → Acts members (See m (kind_in (open_share m v.did))) v now →
    IsStep members seats (slice_set seats m (record seat { seen = record seat.seen { leaving = true } })) (See m (kind_in (open_share m v.did))) v now
see_all members m seats seat v now is acts =
    let t = tells_now members m seats v seat is in
    act_step members m seats seat _ (See m (kind_in (open_share m v.did))) v now is (see_is_ours m (open_share m v.did)) refl acts
    (record {
      sees = ap (λ (s : Seen). record s { leaving = true }) t.sees ∙ after_see (open_share m v.did) v.did;
      own_is = t.own_is;
      number_is = t.number_is;
      plan_is = t.plan_is;
    })
    (λ share at. at)
  where
    after_see : (own : Option (ℕ × Shape)) (h : List Event) → record (seen_of m h) { leaving = true } ≡ seen_of m (See m (kind_in own) ∷ h)
    after_see own h = rw (same_number m, names_a_construct own) refl

-- Turns

-- the member is in a part then, and past its iteration
pub part_all : (members m i iteration : ℕ) (seats : List MemberSeat) (seat : MemberSeat) (v now : View) → IsMemberOf members m seats v seat → Acts members (Part i m iteration) v now →
    IsStep members seats (slice_set seats m (record seat { seen = record seat.seen { next_part = iteration + 1; in_part = true } })) (Part i m iteration) v now
part_all members m i iteration seats seat v now is acts =
    let t = tells_now members m seats v seat is in
    act_step members m seats seat _ (Part i m iteration) v now is refl refl acts
    (record {
      sees = ap (λ (s : Seen). record s { next_part = iteration + 1; in_part = true }) t.sees ∙ after_part v.did;
      own_is = t.own_is;
      number_is = t.number_is;
      plan_is = t.plan_is;
    })
    (λ share at. at)
  where
    after_part : (h : List Event) → record (seen_of m h) { next_part = iteration + 1; in_part = true } ≡ seen_of m (Part i m iteration ∷ h)
    after_part h = rw (same_number m) refl

-- and in none after its end
pub part_end_all : (members m i : ℕ) (seats : List MemberSeat) (seat : MemberSeat) (v now : View) → IsMemberOf members m seats v seat → Acts members (PartEnd i m) v now →
    IsStep members seats (slice_set seats m (record seat { seen = record seat.seen { in_part = false } })) (PartEnd i m) v now
part_end_all members m i seats seat v now is acts =
    let t = tells_now members m seats v seat is in
    act_step members m seats seat _ (PartEnd i m) v now is refl refl acts
    (record {
      sees = ap (λ (s : Seen). record s { in_part = false }) t.sees ∙ after_part_end v.did;
      own_is = t.own_is;
      number_is = t.number_is;
      plan_is = t.plan_is;
    })
    (λ share at. at)
  where
    after_part_end : (h : List Event) → record (seen_of m h) { in_part = false } ≡ seen_of m (PartEnd i m ∷ h)
    after_part_end h = rw (same_number m) refl

-- a piece that is handed on changes nothing that is kept
pub hand_on_all : (members m i number : ℕ) (seats : List MemberSeat) (v now : View) → IsAll members seats v → Acts members (HandOn i m number) v now → IsStep members seats seats (HandOn i m number) v now
hand_on_all members m i number seats v now all acts =
    still_step members seats (HandOn i m number) v now all refl acts (λ k s t. record { sees = t.sees; own_is = t.own_is; number_is = t.number_is; plan_is = t.plan_is }) (λ k. refl)

-- Claims

-- there is one piece in an answer
piece_is_one : (a b : Piece) → ◌≡◌ {A = Option Piece} (Some a) (Some b) → b ≡ a
piece_is_one a b e = cc

-- one piece more was taken by the member
taken_one_more : (i m low high : ℕ) (h : List Event) → taken_in (λ k. k) i m (Take i m low high ∷ h) ≡ taken_in (λ k. k) i m h + 1
taken_one_more i m low high h = rw (same_number i, same_number m) refl

-- the piece, its number and the count of pieces are kept
pub take_all : (members m i : ℕ) (shape : Shape) (piece : Piece) (seats : List MemberSeat) (seat then_seat : MemberSeat) (v now : View) → IsMemberOf members m seats v seat → seat.seen.current ≡ Some (i, shape) → Acts members (Take i m piece.0 piece.1) v now →
    then_seat.seen ≡ record seat.seen { piece = Some piece } → then_seat.own ≡ shown_number (seat.own + 1) → slice_get (pieces_of members shape) then_seat.number ≡ Some piece → then_seat.cursor.plan ≡ seat.cursor.plan → IsStep members seats (slice_set seats m then_seat) (Take i m piece.0 piece.1) v now
take_all members m i shape piece seats seat then_seat v now is inside acts seen own number plan =
    let t = tells_now members m seats v seat is in
    let current : then_seat.seen.current ≡ Some (i, shape) = ap (λ (s : Seen). s.current) seen ∙ inside in
    let more = taken_one_more i m piece.0 piece.1 v.did in
    act_step members m seats seat then_seat (Take i m piece.0 piece.1) v now is refl refl acts
    (record {
      sees = seen ∙ ap (λ (s : Seen). record s { piece = Some piece }) t.sees ∙ after_take v.did;
      own_is = λ share at. own ∙ one_more (taken_in (λ k. k) i m v.did) (t.own_is (i, shape) inside) ∙ ap shown_number (sym more) ∙ ap (λ (s : ℕ × Shape). shown_number (taken_in (λ k. k) s.0 m (Take i m piece.0 piece.1 ∷ v.did))) (sym (one_share i shape share (sym current ∙ at)));
      number_is = λ share other at has. rw (one_share i shape share (sym current ∙ at), piece_is_one piece other (sym (ap (λ (s : Seen). s.piece) seen) ∙ has)) number;
      plan_is = λ share at. plan ∙ t.plan_is share (sym (ap (λ (s : Seen). s.current) seen) ∙ at);
    })
    (λ share at. at)
  where
    after_take : (h : List Event) → record (seen_of m h) { piece = Some piece } ≡ seen_of m (Take i m piece.0 piece.1 ∷ h)
    after_take h = rw (same_number m) refl

    one_more : (n : ℕ) → seat.own ≡ shown_number n → shown_number (seat.own + 1) ≡ shown_number (n + 1)
    one_more n e = omega (arith, e)

-- or that nothing is left, and then there is no piece
pub drained_all : (members m i : ℕ) (seats : List MemberSeat) (seat then_seat : MemberSeat) (v now : View) → IsMemberOf members m seats v seat → Acts members (Drained i m) v now →
    then_seat.seen ≡ record seat.seen { drained = true; piece = None } → then_seat.own ≡ seat.own → then_seat.cursor.plan ≡ seat.cursor.plan → IsStep members seats (slice_set seats m then_seat) (Drained i m) v now
drained_all members m i seats seat then_seat v now is acts seen own plan =
    let t = tells_now members m seats v seat is in
    act_step members m seats seat then_seat (Drained i m) v now is refl refl acts
    (record {
      sees = seen ∙ ap (λ (s : Seen). record s { drained = true; piece = None }) t.sees ∙ after_none v.did;
      own_is = λ share at. own ∙ t.own_is share (sym (ap (λ (s : Seen). s.current) seen) ∙ at);
      number_is = λ share piece at has. absurd (none-some piece (sym (ap (λ (s : Seen). s.piece) seen) ∙ has));
      plan_is = λ share at. plan ∙ t.plan_is share (sym (ap (λ (s : Seen). s.current) seen) ∙ at);
    })
    (λ share at. at)
  where
    after_none : (h : List Event) → record (seen_of m h) { drained = true; piece = None } ≡ seen_of m (Drained i m ∷ h)
    after_none h = rw (same_number m) refl

-- Entering

-- the member is in the share then, of which it took nothing
pub enter_all : (members m i : ℕ) (shape : Shape) (seats : List MemberSeat) (seat then_seat : MemberSeat) (v now : View) (h : List Event) → IsMemberOf members m seats v seat → seat.seen.entered ≡ i → IsShape shape → Knows v h → Always (ShareRule (schedule members) members) (Enter i m shape ∷ h) → HasDone (Enter i m shape ∷ v.did) v now →
    then_seat.seen ≡ seen_in_share i shape → then_seat.own ≡ 0 → then_seat.cursor.plan ≡ record { members = members; shape = shape } → IsStep members seats (slice_set seats m then_seat) (Enter i m shape) v now
enter_all members m i shape seats seat then_seat v now h is number valid knows rule done seen own plan =
    let t = tells_now members m seats v seat is in
    let before : shares_entered m v.did ≡ i = sym (ap (λ (s : Seen). s.entered) t.sees) ∙ number in
    let share_of : (share : ℕ × Shape) → then_seat.seen.current ≡ Some share → share ≡ (i, shape) = λ share at. one_share i shape share (sym (ap (λ (s : Seen). s.current) seen) ∙ at) in
    let none : taken_in (λ k. k) i m v.did ≡ 0 = (no_pieces_ahead members i m v.did is.all.rule (omega arith)).count in
    member_step members m seats seat then_seat (Enter i m shape) v now h is refl refl knows rule done
    (record {
      sees = seen ∙ after_enter v.did before;
      own_is = λ share at. own ∙ sym (ap (λ (s : ℕ × Shape). shown_number (taken_in (λ k. k) s.0 m v.did)) (share_of share at) ∙ ap shown_number none);
      number_is = λ share piece at has. absurd (none-some piece (sym (ap (λ (s : Seen). s.piece) seen) ∙ has));
      plan_is = λ share at. plan ∙ ap (λ (s : ℕ × Shape). record { members = members; shape = s.1 }) (sym (share_of share at));
    })
    (λ share at. let same = one_share i shape share (sym (inside v.did) ∙ at) in subst (λ (s : ℕ × Shape). IsShape s.1) (sym same) valid)
  where
    after_enter : (h : List Event) → shares_entered m h ≡ i → seen_in_share i shape ≡ seen_of m (Enter i m shape ∷ h)
    after_enter h e = rw (same_number m, e) refl

    inside : (h : List Event) → open_share m (Enter i m shape ∷ h) ≡ Some (i, shape)
    inside h = rw (same_number m) refl
