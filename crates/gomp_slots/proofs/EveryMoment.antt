-- What holds of the ring at every moment follows from its rule.
use Rattle.std.proofs.Common.{◌≡◌, ℕ, zero, suc, ◌+◌, ◌-◌, ◌<◌, ◌≤◌, true, false, List, [], ◌∷◌, ◌++◌, length, slice_get, Option, Some, None, ◌⊎◌, inl, inr, refl, ap, sym, ◌∙◌, subst, arith, length-append}
use Rattle.std.specs.Prelude.{◌==◌, ◌&&◌}
use Rattle.std.proofs.lemmas.Bool.{cases_Bool, cases_lt}
use Rattle.std.proofs.lemmas.Option.{slice_get_past, slice_get_within, same_Some, none-some}
use Rattle.gomp_types.specs.declared.shape.Shape.{Shape}
use Rattle.gomp_types.specs.declared.shape.ShareKind.{ShareKind}
use Rattle.gomp_events.specs.declared.event.Event.{Event}
use Rattle.gomp_events.specs.declared.event.Event.TheVariants.{Enter, Take, Drained, End}
use Rattle.gomp_types.specs.Shapes.{is_static}
use Rattle.gomp_types.specs.Pieces.{Piece, pieces_of}
use Rattle.gomp_events.specs.Events.{shares_entered, open_share, shape_at, has_ended, is_over}
use Rattle.gomp_types.specs.Deals.{schedule}
use Rattle.gomp_events.specs.Takes.{next_for}
use Rattle.gomp_events.specs.Laws.{Always}
use Rattle.gomp_events.proofs.Always.{always_so}
use Rattle.gomp_types.proofs.Booleans.{same_number, is_equal, share_is, or_right, not_both, every_tells, every_by}
use Rattle.gomp_types.proofs.Tiling.{still_past}
use Rattle.gomp_shares.specs.Calls.{taken_of}
use Rattle.gomp_shares.specs.Laws.{TakesItsOwn}
use Rattle.gomp_shares.specs.Rules.{ShareRule, MayEnter, MayTake, HasNone, MayLeaveShare}
use Rattle.gomp_shares.proofs.SharesKeep.{shape_stays, member_is_inside, ended_below, room_over, enter_has_its_shape, shares_keep}
use Rattle.gomp_shares.proofs.OrderedKeep.{ordered_keep}
use Rattle.gomp_shares.proofs.Assigned.{takes_its_own}
use Rattle.gomp_shares.proofs.SharesOver.{eight_before}
use Rattle.gomp_gate.specs.Gates.{ticket_of, left_of, phase_of, phase_for, is_bare_single}
use Rattle.gomp_gate.specs.Shapes.{shape_word}
use Rattle.atomic_table.specs.Table.{State}
use Rattle.gomp_slots.specs.declared.view.TeamSize.{TeamSize}
use Rattle.gomp_slots.specs.declared.view.View.{View}
use Rattle.gomp_slots.specs.Words.{count_members, was_drained, tickets, BusySlot, is_busy, IsCurrent, IsTable}
use Rattle.gomp_slots.specs.Rule.{LearnsOnce, IsTeam, IsOpening, IsRing, IsKept}
use Rattle.gomp_slots.specs.Calls.{claim_event}
use Rattle.gomp_slots.specs.Moments.{claims_made, TicketLaws, MomentLaws, IsLawful}
use Rattle.gomp_slots.proofs.Counts.{count_none}
use Rattle.gomp_slots.proofs.History.{next_in_line}
use Rattle.gomp_slots.proofs.SlotShares.{one_current, open_is_current, gate_is}
use Rattle.gomp_slots.proofs.ClaimSteps.{tickets_taken, tickets_drained, none_drained, tickets_are}

-- Claims

-- a claim of the share stands behind those before it
claims_after : (i m : ℕ) (piece : Option Piece) (h : List Event) → claims_made i (claim_event i m piece ∷ h) ≡ claims_made i h ++ (m, piece) ∷ []
claims_after i m (Some piece) h = rw (same_number i) refl
claims_after i m None h = rw (same_number i) refl

-- the share has this shape, if any member has entered it
abbrev OfShape : ℕ → Shape → List Event → Type 0
OfShape i shape h = (other : Shape) → shape_at i h ≡ Some other → other ≡ shape

-- and it had it before
before_too : (members i : ℕ) (shape : Shape) (event : Event) (earlier : List Event) → ShareRule (schedule members) members event earlier → OfShape i shape (event ∷ earlier) → OfShape i shape earlier
before_too members i shape event earlier rule only other at = only other (shape_stays (schedule members) members i other event earlier rule at)

-- with one claim more that the gate counts it still counts all
claim_more : (members i m : ℕ) (kind : ShareKind) (piece : Option Piece) (h : List Event) → length (claims_made i h) ≡ tickets members i kind h → tickets members i kind (claim_event i m piece ∷ h) ≡ tickets members i kind h + 1 → length (claims_made i (claim_event i m piece ∷ h)) ≡ tickets members i kind (claim_event i m piece ∷ h)
claim_more members i m kind piece h were more = ap length (claims_after i m piece h) ∙ length-append (claims_made i h) ((m, piece) ∷ []) ∙ ap (λ (n : ℕ). n + 1) were ∙ sym more

-- so many claims of a share were made as its gate counts
claims_count : (members i : ℕ) (shape : Shape) (h : List Event) → Always (ShareRule (schedule members) members) h → Always (LearnsOnce members) h → OfShape i shape h → is_static shape.kind ≡ false → length (claims_made i h) ≡ tickets members i shape.kind h
claims_count members i shape [] all once only queue = let none = count_none members (λ m. false) (λ m lt. refl) in rw queue (omega arith)
claims_count members i shape (Take share m low high ∷ earlier) all once only queue =
    let were = claims_count members i shape earlier all.1 once.1 (before_too members i shape (Take share m low high) earlier all.0 only) queue in
    elim (cases_Bool (share == i)) [
      | inl e ↦
          subst (λ (n : ℕ). length (claims_made i (Take n m low high ∷ earlier)) ≡ tickets members i shape.kind (Take n m low high ∷ earlier)) (sym (is_equal share i e))
          (claim_more members i m shape.kind (Some (low, high)) earlier were (tickets_taken members i m low high shape.kind earlier queue))
      | inr e ↦ rw e were
    ]
claims_count members i shape (Drained share m ∷ earlier) all once only queue =
    let before = before_too members i shape (Drained share m) earlier all.0 only in
    let were = claims_count members i shape earlier all.1 once.1 before queue in
    elim (cases_Bool (share == i)) [
      | inl e ↦
          let may : HasNone (schedule members) i m earlier = rw (is_equal share i e) at all.0 in
          let inside = member_is_inside (schedule members) members m i may.shape earlier all.1 may.inside in
          let same : may.shape ≡ shape = before may.shape inside.0 in
          let first : was_drained i m earlier ≡ false = subst (λ (n : ℕ). LearnsOnce members (Drained n m) earlier) (is_equal share i e) once.0 may.shape inside.0 (ap (λ (s : Shape). is_static s.kind) same ∙ queue) in
          subst (λ (n : ℕ). length (claims_made i (Drained n m ∷ earlier)) ≡ tickets members i shape.kind (Drained n m ∷ earlier)) (sym (is_equal share i e))
          (claim_more members i m shape.kind None earlier were (tickets_drained members i m shape.kind earlier queue inside.1 first))
      | inr e ↦ rw e were
    ]
claims_count members i shape (event ∷ earlier) all once only queue = claims_count members i shape earlier all.1 once.1 (before_too members i shape event earlier all.0 only) queue

-- each claim took the piece with its number, or learned that there is none
abbrev ByNumber : List Piece → List (ℕ × Option Piece) → Type 0
ByNumber pieces claims = (ticket : ℕ) (claim : ℕ × Option Piece) → slice_get claims ticket ≡ Some claim → claim.1 ≡ slice_get pieces ticket

-- a claim of a list with one more is one of the list, or the last
claim_behind : (claims : List (ℕ × Option Piece)) (last claim : ℕ × Option Piece) (n : ℕ) → slice_get (claims ++ last ∷ []) n ≡ Some claim → (slice_get claims n ≡ Some claim) ⊎ ((n ≡ length claims) × (last ≡ claim))
claim_behind [] last claim zero e = inr (refl, same_Some last claim e)
claim_behind [] last claim (suc n) e = absurd (cc)
claim_behind (first ∷ claims) last claim zero e = inl e
claim_behind (first ∷ claims) last claim (suc n) e = elim (claim_behind claims last claim n e) [ inl at ↦ inl at | inr is ↦ inr (ap suc is.0, is.1) ]

-- so they stay with a claim more that has its number's piece
by_number_more : (pieces : List Piece) (claims : List (ℕ × Option Piece)) (m : ℕ) (piece : Option Piece) → ByNumber pieces claims → piece ≡ slice_get pieces (length claims) → ByNumber pieces (claims ++ (m, piece) ∷ [])
by_number_more pieces claims m piece each is ticket claim at = elim (claim_behind claims (m, piece) claim ticket at) [
  | inl before ↦ each ticket claim before
  | inr last ↦ sym (ap (λ (c : ℕ × Option Piece). c.1) last.1) ∙ is ∙ ap (slice_get pieces) (sym last.0)
]

-- the next piece in line is that with the number of the claims: if one is left, no claim went without
next_by_number : (members i : ℕ) (shape : Shape) (h : List Event) → Always (ShareRule (schedule members) members) h → shape_at i h ≡ Some shape → is_static shape.kind ≡ false → (n : ℕ) → n ≡ taken_of i h + count_members members (λ m. was_drained i m h) →
    (piece : Option Piece) → slice_get (pieces_of members shape) (taken_of i h) ≡ piece → piece ≡ slice_get (pieces_of members shape) n
next_by_number members i shape h all at queue n number (Some piece) next =
    let within = slice_get_within (pieces_of members shape) (taken_of i h) piece next in
    let nobody = none_drained members i shape h all at queue within in
    let same : taken_of i h ≡ n = omega arith in
    sym next ∙ ap (slice_get (pieces_of members shape)) same
next_by_number members i shape h all at queue n number None next =
    let past = still_past (pieces_of members shape) (taken_of i h) next in
    sym (slice_get_past (pieces_of members shape) n (omega arith))

-- so a claim of a member that is in the share has its number's piece
claim_by_number : (members i m : ℕ) (shape own : Shape) (piece : Option Piece) (h : List Event) → Always (ShareRule (schedule members) members) h → Always (LearnsOnce members) h → OfShape i shape h → is_static shape.kind ≡ false →
    open_share m h ≡ Some (i, own) → next_for (schedule members) own i m h ≡ piece → piece ≡ slice_get (pieces_of members shape) (length (claims_made i h))
claim_by_number members i m shape own piece h all once only queue inside next =
    let here = (member_is_inside (schedule members) members m i own h all inside).0 in
    let same : own ≡ shape = only own here in
    next_by_number members i shape h all (here ∙ ap Some same) queue (length (claims_made i h)) (claims_count members i shape h all once only queue ∙ tickets_are members i shape.kind h queue) piece
    (sym (next_in_line members m i shape h queue) ∙ sym (ap (λ (s : Shape). next_for (schedule members) s i m h) same) ∙ next)

-- and so did each of the claims that were made
claims_by_number : (members i : ℕ) (shape : Shape) (h : List Event) → Always (ShareRule (schedule members) members) h → Always (LearnsOnce members) h → OfShape i shape h → is_static shape.kind ≡ false → ByNumber (pieces_of members shape) (claims_made i h)
claims_by_number members i shape [] all once only queue = λ ticket claim at. absurd (none-some claim at)
claims_by_number members i shape (Take share m low high ∷ earlier) all once only queue =
    let before = before_too members i shape (Take share m low high) earlier all.0 only in
    let were = claims_by_number members i shape earlier all.1 once.1 before queue in
    elim (cases_Bool (share == i)) [
      | inl e ↦
          let may : MayTake (schedule members) i m low high earlier = rw (is_equal share i e) at all.0 in
          rw e (by_number_more (pieces_of members shape) (claims_made i earlier) m (Some (low, high)) were (claim_by_number members i m shape may.shape (Some (low, high)) earlier all.1 once.1 before queue may.inside may.next))
      | inr e ↦ rw e were
    ]
claims_by_number members i shape (Drained share m ∷ earlier) all once only queue =
    let before = before_too members i shape (Drained share m) earlier all.0 only in
    let were = claims_by_number members i shape earlier all.1 once.1 before queue in
    elim (cases_Bool (share == i)) [
      | inl e ↦
          let may : HasNone (schedule members) i m earlier = rw (is_equal share i e) at all.0 in
          rw e (by_number_more (pieces_of members shape) (claims_made i earlier) m None were (claim_by_number members i m shape may.shape None earlier all.1 once.1 before queue may.inside may.none))
      | inr e ↦ rw e were
    ]
claims_by_number members i shape (event ∷ earlier) all once only queue = claims_by_number members i shape earlier all.1 once.1 (before_too members i shape event earlier all.0 only) queue

-- the gate counts the claims of its share
tickets_stand : (members i : ℕ) (shape : Shape) (words : List ℕ) (h : List Event) (busy : Option BusySlot) → IsTeam members h → IsTable members words h busy → IsCurrent i shape h busy → is_static shape.kind ≡ false → TicketLaws members i shape words h
tickets_stand members i shape words h busy team table now queue =
    let only : OfShape i shape h = λ other at. same_Some other shape (sym at ∙ now.shape_is) in record {
      all = claims_count members i shape h team.rule team.once only queue ∙ sym (ap ticket_of (table.gates i shape now) ∙ (gate_is members i shape h team now.shape_is).ticket_is);
      each = claims_by_number members i shape h team.rule team.once only queue;
    }

-- Shares before one that is over

-- of the shares that a member has entered it has left all but the one that it is in
left_or_inside : (members m i : ℕ) (h : List Event) → Always (ShareRule (schedule members) members) h → i < shares_entered m h → (has_ended i m h ≡ true) ⊎ ((shape : Shape) × (open_share m h ≡ Some (i, shape)))
left_or_inside members m i [] all lt = absurd (omega arith)
left_or_inside members m i (Enter share member shape ∷ earlier) all lt = elim (cases_Bool (member == m)) [
  | inl e ↦
      let may : MayEnter (schedule members) members share m shape earlier = rw (is_equal member m e) at all.0 in
      let more : shares_entered m (Enter share member shape ∷ earlier) ≡ shares_entered m earlier + 1 = rw e (refl {a = shares_entered m earlier + 1}) in
      elim (cases_lt i (shares_entered m earlier)) [
        | inl before ↦ elim (left_or_inside members m i earlier all.1 before) [
          | inl left ↦ inl left
          | inr inside ↦ absurd (none-some (i, inside.0) (sym may.outside ∙ inside.1))
        ]
        | inr past ↦ inr (shape, (let number : share ≡ i = (let is = may.number in omega arith) in rw (e, number) refl))
      ]
  | inr e ↦ rw e (left_or_inside members m i earlier all.1 (rw e at lt))
]
left_or_inside members m i (End share member ∷ earlier) all lt = elim (left_or_inside members m i earlier all.1 lt) [
  | inl left ↦ inl (or_right (share == i && member == m) (has_ended i m earlier) left)
  | inr inside ↦ elim (cases_Bool (member == m)) [
    | inl e ↦
        let may : MayLeaveShare (schedule members) share m earlier = rw (is_equal member m e) at all.0 in
        let number = (share_is share i may.shape inside.0 (sym may.inside ∙ inside.1)).0 in
        inl (rw (number, same_number i, e) refl)
    | inr e ↦ inr (inside.0, rw e inside.1)
  ]
]
left_or_inside members m i (event ∷ earlier) all lt = left_or_inside members m i earlier all.1 lt

-- so a member that has left a share has left those before it
left_before_it : (members m i j : ℕ) (h : List Event) → Always (ShareRule (schedule members) members) h → i < j → has_ended j m h ≡ true → has_ended i m h ≡ true
left_before_it members m i j h all lt left =
    let below = ended_below (schedule members) members m j h all left in
    elim (left_or_inside members m i h all (let few = below.0 in omega arith)) [
      | inl ended ↦ ended
      | inr inside ↦ absurd (let past = below.1 i inside.0 inside.1 in omega arith)
    ]

-- and those before a share that is over are over
over_before_it : (members i j : ℕ) (h : List Event) → Always (ShareRule (schedule members) members) h → i ≤ j → is_over members j h ≡ true → is_over members i h ≡ true
over_before_it members i j h all le over = elim (cases_lt i j) [
  | inl lt ↦ every_by members (λ m. has_ended i m h) (λ m member. left_before_it members m i j h all lt (every_tells members (λ k. has_ended j k h) m over member))
  | inr past ↦ let same : j ≡ i = omega arith in rw same at over
]

-- a share that is not over lies less than eight before one that has room
less_than_eight : (members i j : ℕ) (h : List Event) → Always (ShareRule (schedule members) members) h → is_over members i h ≡ false → ((old : ℕ) → j ≡ old + 8 → is_over members old h ≡ true) → j < i + 8
less_than_eight members i j h all unfinished room = elim (cases_lt j (i + 8)) [
  | inl lt ↦ lt
  | inr far ↦ absurd (not_both (is_over members i h) (over_before_it members i (j - 8) h all (omega arith) (room (j - 8) (omega arith))) unfinished)
]

-- a share that a seat opens has room
busy_over : (members i j : ℕ) (h : List Event) (busy : Option BusySlot) → IsOpening members h busy → j ≡ i + 8 → (o : Option BusySlot) → busy ≡ o → is_busy o j ≡ true → is_over members i h ≡ true
busy_over members i j h busy opening number None e is = absurd (cc)
busy_over members i j h busy opening number (Some b) e is = room_over members b.share i h (is_equal b.share j is ∙ number) (opening.room b e)

-- Every moment

-- the rule of the ring keeps the laws of every moment
pub moment_laws : (members : ℕ) (words : List ℕ) (views : List View) (h : List Event) (busy : Option BusySlot) → IsRing members words views h busy → MomentLaws members words h busy
moment_laws members words views h busy ring =
    let team = ring.team in
    let table = ring.table in record {
      laws = shares_keep (schedule members) members h team.rule;
      ordered = ordered_keep members h team.rule;
      own_pieces = always_so (ShareRule (schedule members) members) (TakesItsOwn members) (takes_its_own members) h team.rule;
      tickets = λ i shape now queue. tickets_stand members i shape words h busy team table now queue;
      left = λ i shape now. ap left_of (table.gates i shape now) ∙ (gate_is members i shape h team now.shape_is).left_is;
      phase = λ i m shape other now entered.
          let same : shape ≡ other = same_Some shape other (sym now.shape_is ∙ (enter_has_its_shape (schedule members) members i m other h team.rule entered).1) in
          ap phase_of (table.gates i shape now) ∙ (gate_is members i shape h team now.shape_is).phase_is ∙ ap phase_for same;
      shape = λ i m place shape other now entered told lt.
          let same : shape ≡ other = same_Some shape other (sym now.shape_is ∙ (enter_has_its_shape (schedule members) members i m other h team.rule entered).1) in
          table.shape_words i shape now (ap is_bare_single same ∙ told) place lt ∙ ap (shape_word place) same;
      turns = table.turns;
      one = λ i j shape other now then_now same. one_current members i j shape other h busy team now then_now same;
      stays = λ i shape at unfinished. open_is_current members i shape h busy team ring.opening at unfinished;
      anew = λ i shape at. eight_before (schedule members) members (i + 8) i 0 shape h team.rule at (omega arith);
      taken = λ i is. busy_over members i (i + 8) h busy ring.opening refl busy refl is;
      span = λ i j one other at unfinished at_other. less_than_eight members i j h team.rule unfinished (λ old number. eight_before (schedule members) members j old 0 other h team.rule at_other (omega arith));
      opening = λ i j one at unfinished is. less_than_eight members i j h team.rule unfinished (λ old number. busy_over members old j h busy ring.opening number busy refl is);
    }

-- so at every moment: the rule of the ring holds between any two steps
pub every_moment_is_lawful : (size : TeamSize) (state : State Shape View) → IsKept size state → IsLawful size state
every_moment_is_lawful size state kept = record {
  events = kept.events;
  busy = kept.busy;
  knows = kept.ring.seats.knows;
  laws = moment_laws size.members state.words state.views kept.events kept.busy kept.ring;
}

-- the rule tells the piece
pub rule_gives : (members m i : ℕ) (shape : Shape) (piece : Option Piece) (h : List Event) → open_share m h ≡ Some (i, shape) → ShareRule (schedule members) members (claim_event i m piece) h → piece ≡ next_for (schedule members) shape i m h
rule_gives members m i shape (Some piece) h at rule =
    let p = share_is i i rule.shape shape (sym rule.inside ∙ at) in
    sym (subst (λ (s : Shape). next_for (schedule members) s i m h ≡ Some piece) p.1 rule.next)
rule_gives members m i shape None h at rule =
    let p = share_is i i rule.shape shape (sym rule.inside ∙ at) in
    sym (subst (λ (s : Shape). next_for (schedule members) s i m h ≡ None) p.1 rule.none)
