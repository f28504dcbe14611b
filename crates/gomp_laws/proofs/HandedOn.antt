-- In a team a member hands on each piece of an ordered loop that it took, before it takes another and before it leaves.
use Rattle.std.proofs.Common.{◌≡◌, ℕ, ◌<◌, ◌≤◌, arith, get_or, true, false, List, [], ◌∷◌, Some, None, slice_get, refl, ◌∙◌, sym, subst, ◌⊎◌, inl, inr}
use Rattle.std.specs.Prelude.{◌==◌, ◌&&◌}
use Rattle.std.proofs.lemmas.Bool.Decides.{nat_tests}
use Rattle.std.proofs.lemmas.Bool.{cases_Bool, cases_lt}
use Rattle.std.proofs.lemmas.Option.{slice_get-get_or}
use Rattle.gomp_types.specs.declared.shape.Shape.{Shape}
use Rattle.gomp_events.specs.declared.event.Event.{Event}
use Rattle.gomp_events.specs.declared.event.Event.TheVariants.{Enter, Take, Drained, End, HandOn, Cancel}
use Rattle.gomp_types.specs.declared.cancel.Scope.TheVariants.{OneShare}
use Rattle.gomp_types.specs.declared.loop_desc.EndKind.TheVariants.{Cancellable}
use Rattle.gomp_events.specs.Cancels.{share_cancelled}
use Rattle.gomp_types.specs.Shapes.{same_end}
use Rattle.gomp_types.specs.Pieces.{Piece, Tiles, pieces_of}
use Rattle.gomp_events.specs.Events.{shares_entered, open_share, has_drained, last_piece, shape_at, has_ended, times_taken, turn, holds_piece}
use Rattle.gomp_types.specs.Pieces.{has_iteration}
use Rattle.gomp_types.specs.Deals.{Queues, schedule}
use Rattle.gomp_events.specs.Laws.{Always, Happened}
use Rattle.gomp_shares.specs.Rules.{MayTake, MayHandOn, MayCancelShare, ShareRule}
use Rattle.gomp_laws.specs.Rules.{MayTakeIn, HasNoneIn, MayLeaveIn, TeamRule}
use Rattle.gomp_shares.specs.Laws.{IsOver}
use Rattle.gomp_laws.specs.Laws.{LeavesHandedOn, HandedOnWhereOver}
use Rattle.gomp_types.proofs.Booleans.{which_branch, is_equal, same_number, share_is, and_left, and_right, not_both}
use Rattle.gomp_types.proofs.Tiling.{piece_some, piece_within}
use Rattle.gomp_events.proofs.ShareReadings.{ended_once_left}
use Rattle.gomp_shares.proofs.CancelledShares.{cancel_stands}
use Rattle.gomp_shares.proofs.SharesKeep.{member_is_inside, enter_has_its_shape, drained_none, shape_stays, not_ended, shares_keep}
use Rattle.gomp_shares.proofs.OrderedKeep.{piece_before, share_is_tiled, piece_of_turn, hands_the_turn}
use Rattle.gomp_laws.proofs.CopiesKeep.{never_took, takes_below}
use Rattle.gomp_laws.proofs.TeamShares.{share_rules}

-- a member for which nothing is left of an ordered loop holds no piece of it
pub drained_member_holds_none : (members m i : ℕ) (shape : Shape) (h : List Event) → Always (TeamRule members) h → open_share m h ≡ Some (i, shape) → shape.ordered ≡ true → has_drained m h ≡ true → holds_piece m h ≡ false
drained_member_holds_none members m i shape [] all at ordered drained = absurd (cc)
drained_member_holds_none members m i shape (Enter share member other ∷ earlier) all at ordered drained =
    elim (cases_Bool (member == m)) [
      | inl e ↦ absurd (let off = rw e at drained in cc)
      | inr e ↦ rw e (drained_member_holds_none members m i shape earlier all.1 (rw e at at) ordered (rw e at drained))
    ]
drained_member_holds_none members m i shape (Take share member low high ∷ earlier) all at ordered drained =
    elim (cases_Bool (member == m)) [
      | inl e ↦
          let takes : MayTake (schedule members) share m low high earlier = rw (is_equal member m e) at all.0.takes in
          let none = drained_none (schedule members) members m share takes.shape earlier (share_rules members earlier all.1) takes.inside drained in
          absurd (let both = sym takes.next ∙ none in cc)
      | inr e ↦ rw e (drained_member_holds_none members m i shape earlier all.1 at ordered drained)
    ]
drained_member_holds_none members m i shape (Drained share member ∷ earlier) all at ordered drained =
    elim (cases_Bool (member == m)) [
      | inl e ↦
          let rule : HasNoneIn members share m earlier = rw (is_equal member m e) at all.0 in
          let same = (share_is share i rule.done.shape shape (sym rule.done.inside ∙ at)).1 in
          rule.handed_on (rw same ordered)
      | inr e ↦ drained_member_holds_none members m i shape earlier all.1 at ordered (rw e at drained)
    ]
drained_member_holds_none members m i shape (HandOn share member piece ∷ earlier) all at ordered drained =
    elim (cases_Bool (member == m)) [
      | inl e ↦ rw e refl
      | inr e ↦ rw e (drained_member_holds_none members m i shape earlier all.1 at ordered drained)
    ]
drained_member_holds_none members m i shape (End share member ∷ earlier) all at ordered drained =
    elim (cases_Bool (member == m)) [
      | inl e ↦ absurd (let outside = rw e at at in cc)
      | inr e ↦ drained_member_holds_none members m i shape earlier all.1 (rw e at at) ordered drained
    ]
drained_member_holds_none members m i shape (_ ∷ earlier) all at ordered drained = drained_member_holds_none members m i shape earlier all.1 at ordered drained

-- a piece that a member took was handed on
abbrev HandedOn : ℕ → ℕ → ℕ → Shape → Piece → List Event → Type 0
HandedOn members share m shape piece h = (number : ℕ) × Happened (HandOn share m number) h × (slice_get (pieces_of members shape) number ≡ Some piece)

-- or it is the last one, which the member holds
abbrev Held : ℕ → Piece → List Event → Type 0
Held m piece h = (last_piece m h ≡ Some piece) × (holds_piece m h ≡ true)

handed_later : (members share m : ℕ) (shape : Shape) (piece : Piece) (event : Event) (h : List Event) → HandedOn members share m shape piece h → HandedOn members share m shape piece (event ∷ h)
handed_later members share m shape piece event h handed = (handed.0, inr handed.1, handed.2)

handed_or_held_stays : (members share m : ℕ) (shape : Shape) (piece : Piece) (event : Event) (h : List Event) → last_piece m (event ∷ h) ≡ last_piece m h → holds_piece m (event ∷ h) ≡ holds_piece m h → HandedOn members share m shape piece h ⊎ Held m piece h →
    HandedOn members share m shape piece (event ∷ h) ⊎ Held m piece (event ∷ h)
handed_or_held_stays members share m shape piece event h last holds (inl handed) = inl (handed_later members share m shape piece event h handed)
handed_or_held_stays members share m shape piece event h last holds (inr held) = inr (last ∙ held.0, holds ∙ held.1)

none_held : (members share m : ℕ) (shape : Shape) (piece : Piece) (h : List Event) → holds_piece m h ≡ false → HandedOn members share m shape piece h ⊎ Held m piece h → HandedOn members share m shape piece h
none_held members share m shape piece h none (inl handed) = handed
none_held members share m shape piece h none (inr held) = absurd (not_both (holds_piece m h) held.1 none)

-- in the loop that a member is in each piece that it took is one or the other
handed_or_held : (members m i low high : ℕ) (shape : Shape) (h : List Event) → Always (TeamRule members) h → open_share m h ≡ Some (i, shape) → shape.ordered ≡ true → Happened (Take i m low high) h →
    HandedOn members i m shape (low, high) h ⊎ Held m (low, high) h
handed_or_held members m i low high shape [] all at ordered took = absurd took
handed_or_held members m i low high shape (Take share member from to ∷ earlier) all at ordered (inl e) =
    let who : member ≡ m = cc in
    let begins : from ≡ low = cc in
    let ends : to ≡ high = cc in
    inr (rw (who, begins, ends, same_number m) refl, rw (who, same_number m) refl)
handed_or_held members m i low high shape (_ ∷ earlier) all at ordered (inl e) = absurd (cc)
handed_or_held members m i low high shape (Enter share member other ∷ earlier) all at ordered (inr took) =
    elim (which_branch (member == m) (Some (share, other)) (open_share m earlier) (Some (i, shape)) at) [
      | inl e ↦
          let number : share ≡ i = (share_is share i other shape e.1).0 in
          let next : share ≡ shares_entered m earlier = rw (← is_equal member m e.0) all.0.number in
          let of_next : Happened (Take (shares_entered m earlier) m low high) earlier = subst (λ (x : ℕ). Happened (Take x m low high) earlier) (sym number ∙ next) took in
          absurd (never_took (shares_entered m earlier) m low high earlier (takes_below (schedule members) members m earlier (share_rules members earlier all.1)) of_next)
      | inr e ↦ handed_or_held_stays members i m shape (low, high) (Enter share member other) earlier (rw e.0 refl) (rw e.0 refl) (handed_or_held members m i low high shape earlier all.1 e.1 ordered took)
    ]
handed_or_held members m i low high shape (Take share member from to ∷ earlier) all at ordered (inr took) =
    let before = handed_or_held members m i low high shape earlier all.1 at ordered took in
    elim (cases_Bool (member == m)) [
      | inl e ↦
          let rule : MayTakeIn members share m from to earlier = rw (is_equal member m e) at all.0 in
          let same = (share_is share i rule.takes.shape shape (sym rule.takes.inside ∙ at)).1 in
          inl (handed_later members i m shape (low, high) (Take share member from to) earlier (none_held members i m shape (low, high) earlier (rule.handed_on (rw same ordered)) before))
      | inr e ↦ handed_or_held_stays members i m shape (low, high) (Take share member from to) earlier (rw e refl) (rw e refl) before
    ]
handed_or_held members m i low high shape (Drained share member ∷ earlier) all at ordered (inr took) =
    let before = handed_or_held members m i low high shape earlier all.1 at ordered took in
    elim (cases_Bool (member == m)) [
      | inl e ↦
          let rule : HasNoneIn members share m earlier = rw (is_equal member m e) at all.0 in
          let same = (share_is share i rule.done.shape shape (sym rule.done.inside ∙ at)).1 in
          inl (handed_later members i m shape (low, high) (Drained share member) earlier (none_held members i m shape (low, high) earlier (rule.handed_on (rw same ordered)) before))
      | inr e ↦ handed_or_held_stays members i m shape (low, high) (Drained share member) earlier (rw e refl) refl before
    ]
handed_or_held members m i low high shape (HandOn share member number ∷ earlier) all at ordered (inr took) =
    let before = handed_or_held members m i low high shape earlier all.1 at ordered took in
    elim (cases_Bool (member == m)) [
      | inl e ↦
          let who = is_equal member m e in
          let rule : MayHandOn members share m number earlier = rw who at all.0 in
          let same = share_is share i rule.shape shape (sym rule.inside ∙ at) in
          inl (elim before [
            | inl handed ↦ handed_later members i m shape (low, high) (HandOn share member number) earlier handed
            | inr held ↦
                let piece : slice_get (pieces_of members shape) (turn share earlier) ≡ Some (low, high) = rw (← same.1) (piece_of_turn members m share low high rule.shape earlier rule.next held.0) in
                (number, inl (rw (who, same.0) refl), rw (hands_the_turn (schedule members) members m share number earlier (share_rules members earlier all.1) rule) piece)
          ])
      | inr e ↦ handed_or_held_stays members i m shape (low, high) (HandOn share member number) earlier refl (rw e refl) before
    ]
handed_or_held members m i low high shape (End share member ∷ earlier) all at ordered (inr took) =
    elim (which_branch (member == m) None (open_share m earlier) (Some (i, shape)) at) [
      | inl e ↦ absurd (let outside = e.1 in cc)
      | inr e ↦ handed_or_held_stays members i m shape (low, high) (End share member) earlier refl refl (handed_or_held members m i low high shape earlier all.1 e.1 ordered took)
    ]
handed_or_held members m i low high shape (event ∷ earlier) all at ordered (inr took) = handed_or_held_stays members i m shape (low, high) event earlier refl refl (handed_or_held members m i low high shape earlier all.1 at ordered took)

-- so a member that leaves an ordered loop has handed on each piece that it took
left_handed : (members share m low high : ℕ) (h : List Event) (rule : MayLeaveIn members share m h) → Always (TeamRule members) h → rule.done.shape.ordered ≡ true → Happened (Take share m low high) h → HandedOn members share m rule.done.shape (low, high) h
left_handed members share m low high h rule all ordered took = none_held members share m rule.done.shape (low, high) h (rule.handed_on ordered) (handed_or_held members m share low high rule.done.shape h all rule.done.inside ordered took)

pub leaves_handed_on : (members : ℕ) (event : Event) (earlier : List Event) → TeamRule members event earlier → Always (TeamRule members) earlier → LeavesHandedOn members event earlier
leaves_handed_on members (End share m) earlier rule all = λ shape low high stands ordered took.
    let shares = share_rules members earlier all in
    let one : shape_at share earlier ≡ Some rule.done.shape = (member_is_inside (schedule members) members m share rule.done.shape earlier shares rule.done.inside).0 in
    let other : shape_at share earlier ≡ Some shape = (enter_has_its_shape (schedule members) members share m shape earlier shares stands).1 in
    let same : rule.done.shape ≡ shape = let both = sym one ∙ other in cc in
    subst (λ (s : Shape). HandedOn members share m s (low, high) earlier) same (left_handed members share m low high earlier rule all (rw same ordered) took)
leaves_handed_on members _ earlier rule all = tt

-- Loops that all members left

-- a piece that a member took was handed on once the member has left
abbrev LeftHanded : ℕ → ℕ → ℕ → Piece → List Event → Type 0
LeftHanded members share m piece h = (shape : Shape) × (shape_at share h ≡ Some shape) × (shape.ordered ≡ true → HandedOn members share m shape piece h)

leaver_handed : (members share m low high : ℕ) (h : List Event) → Always (TeamRule members) h → Happened (End share m) h → Happened (Take share m low high) h → LeftHanded members share m (low, high) h
leaver_handed members share m low high [] all left took = absurd left
leaver_handed members share m low high (End i member ∷ earlier) all (inl e) (inr took) =
    let number : i ≡ share = cc in
    let who : member ≡ m = cc in
    let rule : MayLeaveIn members share m earlier = rw (number, who) at all.0 in
    let found = (member_is_inside (schedule members) members m share rule.done.shape earlier (share_rules members earlier all.1) rule.done.inside).0 in
    (rule.done.shape, found, λ ordered. handed_later members share m rule.done.shape (low, high) (End i member) earlier (left_handed members share m low high earlier rule all.1 ordered took))
leaver_handed members share m low high (End i member ∷ earlier) all (inl e) (inl f) = absurd (cc)
leaver_handed members share m low high (_ ∷ earlier) all (inl e) took = absurd (cc)
leaver_handed members share m low high (Take i member from to ∷ earlier) all (inr left) (inl e) =
    let number : i ≡ share = cc in
    let who : member ≡ m = cc in
    let rule : MayTakeIn members share m from to earlier = rw (number, who) at all.0 in
    absurd (not_both (has_ended share m earlier) (ended_once_left share m earlier left) (not_ended (schedule members) members m share rule.takes.shape earlier (share_rules members earlier all.1) rule.takes.inside))
leaver_handed members share m low high (_ ∷ earlier) all (inr left) (inl e) = absurd (cc)
leaver_handed members share m low high (event ∷ earlier) all (inr left) (inr took) =
    let before = leaver_handed members share m low high earlier all.1 left took in
    (before.0, shape_stays (schedule members) members share before.0 event earlier (share_rules members (event ∷ earlier) all).0 before.1, λ ordered. handed_later members share m before.0 (low, high) event earlier (before.2 ordered))

-- who took an iteration, and in which piece
record Taker (members share k : ℕ) (h : List Event) : Type 0 where
  who : ℕ
  low : ℕ
  high : ℕ
  member : who < members
  took : Happened (Take share who low high) h
  from : low ≤ k
  before : k < high

taker_later : (members share k : ℕ) (event : Event) (h : List Event) → Taker members share k h → Taker members share k (event ∷ h)
taker_later members share k event h taker = record { who = taker.who; low = taker.low; high = taker.high; member = taker.member; took = inr taker.took; from = taker.from; before = taker.before }

taker_of : (members share k : ℕ) (h : List Event) → Always (ShareRule (schedule members) members) h → 0 < times_taken share k h → Taker members share k h
taker_of members share k [] all some = absurd (omega arith)
taker_of members share k (Take i member low high ∷ earlier) all some =
    elim (cases_Bool (i == share && has_iteration k low high)) [
      | inl e ↦
          let number = is_equal i share (and_left (i == share) (has_iteration k low high) e) in
          let has = and_right (i == share) (has_iteration k low high) e in
          record {
            who = member;
            low = low;
            high = high;
            member = (member_is_inside (schedule members) members member i all.0.shape earlier all.1 all.0.inside).1;
            took = inl (rw number refl);
            from = grind (arith, nat_tests, has);
            before = grind (arith, nat_tests, has);
          }
      | inr e ↦ taker_later members share k (Take i member low high) earlier (taker_of members share k earlier all.1 (rw e at some))
    ]
taker_of members share k (event ∷ earlier) all some = taker_later members share k event earlier (taker_of members share k earlier all.1 some)

-- an iteration is in one piece
one_piece : (k low high a b : ℕ) (one other : Piece) (pieces : List Piece) → Tiles low pieces high → slice_get pieces a ≡ Some one → slice_get pieces b ≡ Some other → one.0 ≤ k → k < one.1 → other.0 ≤ k → k < other.1 → a ≡ b
one_piece k low high a b one other pieces tiles first second from before start end =
    elim (cases_lt a b) [
      | inl lt ↦ absurd (let apart = piece_before low high pieces a b one other tiles first second lt in omega arith)
      | inr le ↦ elim (cases_lt b a) [
        | inl lt ↦ absurd (let apart = piece_before low high pieces b a other one tiles second first lt in omega arith)
        | inr ge ↦ omega arith
      ]
    ]

same_handed : (share m n number : ℕ) (h : List Event) → n ≡ number → Happened (HandOn share m n) h → Happened (HandOn share m number) h
same_handed share m n number h same handed = rw (← same) handed

same_loop : (members share m : ℕ) (piece : Piece) (one shape : Shape) (h : List Event) → one ≡ shape → HandedOn members share m one piece h → HandedOn members share m shape piece h
same_loop members share m piece one shape h same handed = subst (λ (s : Shape). HandedOn members share m s piece h) same handed

-- so who took the first iteration of a piece has handed that piece on, once it has left
taker_handed : (members share number : ℕ) (shape : Shape) (own : Piece) (h : List Event) → Always (TeamRule members) h → shape_at share h ≡ Some shape → shape.ordered ≡ true → Tiles 0 (pieces_of members shape) shape.trips →
    slice_get (pieces_of members shape) number ≡ Some own → own.0 < own.1 → (taker : Taker members share own.0 h) → Happened (End share taker.who) h → Happened (HandOn share taker.who number) h
taker_handed members share number shape own h all found ordered tiles at some taker gone =
    let left = leaver_handed members share taker.who taker.low taker.high h all gone taker.took in
    let same : left.0 ≡ shape = let both = sym left.1 ∙ found in cc in
    let handed = same_loop members share taker.who (taker.low, taker.high) left.0 shape h same (left.2 (rw same ordered)) in
    let is = one_piece own.0 0 shape.trips handed.0 number (taker.low, taker.high) own (pieces_of members shape) tiles handed.2 at taker.from taker.before (omega arith) some in
    same_handed share taker.who handed.0 number h is handed.1

-- and all of its pieces were handed on if all members left
over_handed : (members share number : ℕ) (shape : Shape) (own : Piece) (h : List Event) → Always (TeamRule members) h → shape_at share h ≡ Some shape → shape.ordered ≡ true → IsOver members share h → ((k : ℕ) → k < shape.trips → times_taken share k h ≡ 1) →
    slice_get (pieces_of members shape) number ≡ Some own → (x : ℕ) × Happened (HandOn share x number) h
over_handed members share number shape own h all found ordered over whole at =
    let shares = share_rules members h all in
    let tiles = share_is_tiled (schedule members) members share shape h shares found in
    let some = piece_some 0 shape.trips (pieces_of members shape) number own tiles at in
    let within = piece_within 0 shape.trips (pieces_of members shape) number own tiles at in
    let once = whole own.0 (omega arith) in
    let taker = taker_of members share own.0 h shares (omega (arith, once)) in
    (taker.who, taker_handed members share number shape own h all found ordered tiles at some taker (over taker.who taker.member))

-- Ordered loops are not cancelled

-- a share that may be cancelled is not ordered
cancellable_unordered : (queues : Queues) (members i : ℕ) (shape : Shape) (h : List Event) → Always (ShareRule queues members) h → shape_at i h ≡ Some shape → same_end shape.end_kind Cancellable ≡ true → shape.ordered ≡ false
cancellable_unordered queues members i shape [] all at cancellable = absurd (cc)
cancellable_unordered queues members i shape (Enter share member other ∷ earlier) all at cancellable =
    elim (which_branch (share == i) (Some other) (shape_at i earlier) (Some shape) at) [
      | inl e ↦
          let same : other ≡ shape = let t = e.1 in cc in
          let unordered : same_end shape.end_kind Cancellable ≡ true → shape.ordered ≡ false = rw same at all.0.unordered in
          unordered cancellable
      | inr e ↦ cancellable_unordered queues members i shape earlier all.1 e.1 cancellable
    ]
cancellable_unordered queues members i shape (_ ∷ earlier) all at cancellable = cancellable_unordered queues members i shape earlier all.1 at cancellable

-- and one that was cancelled could be
cancelled_is_cancellable : (queues : Queues) (members i n : ℕ) (h : List Event) → Always (ShareRule queues members) h → Happened (Cancel n (OneShare i)) h → (shape : Shape) × (shape_at i h ≡ Some shape) × (shape.end_kind ≡ Cancellable)
cancelled_is_cancellable queues members i n [] all stands = absurd stands
cancelled_is_cancellable queues members i n (Cancel member (OneShare share) ∷ earlier) all (inl e) =
    let number : share ≡ i = cc in
    let rule : MayCancelShare i member earlier = rw number at all.0 in
    (rule.shape, (member_is_inside queues members member i rule.shape earlier all.1 rule.inside).0, rule.cancellable)
cancelled_is_cancellable queues members i n (_ ∷ earlier) all (inl e) = absurd (cc)
cancelled_is_cancellable queues members i n (event ∷ earlier) all (inr stands) =
    let before = cancelled_is_cancellable queues members i n earlier all.1 stands in
    (before.0, shape_stays queues members i before.0 event earlier all.0 before.1, before.2)

-- so no ordered loop was
pub ordered_not_cancelled : (queues : Queues) (members i : ℕ) (shape : Shape) (h : List Event) → Always (ShareRule queues members) h → shape_at i h ≡ Some shape → shape.ordered ≡ true → share_cancelled i h ≡ false
ordered_not_cancelled queues members i shape h all at ordered =
    elim (cases_Bool (share_cancelled i h)) [
      | inl is ↦
          let who = cancel_stands (OneShare i) h is in
          let found = cancelled_is_cancellable queues members i who.0 h all who.1 in
          let same : found.0 ≡ shape = let both = sym found.1 ∙ at in cc in
          let ends : shape.end_kind ≡ Cancellable = rw same at found.2 in
          absurd (not_both shape.ordered ordered (cancellable_unordered queues members i shape h all at (rw ends refl)))
      | inr off ↦ off
    ]

pub all_handed_on : (members : ℕ) (h : List Event) → Always (TeamRule members) h → HandedOnWhereOver members h
all_handed_on members h all = λ share m number shape stands ordered over below.
    let shares = share_rules members h all in
    let found = (enter_has_its_shape (schedule members) members share m shape h shares stands).1 in
    let whole = ordered_not_cancelled (schedule members) members share shape h shares found ordered in
    over_handed members share number shape (get_or (pieces_of members shape) number (0, 0)) h all found ordered over
    ((shares_keep (schedule members) members h shares).whole share m shape stands over whole) (slice_get-get_or (pieces_of members shape) number (0, 0) below)
