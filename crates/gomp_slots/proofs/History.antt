-- What the rule of the work-shares tells of a share: how many pieces were taken, who learned that none is left, and that all this is of a share that was entered.
use Rattle.std.proofs.Common.{◌≡◌, ℕ, ◌+◌, ◌<◌, ◌≤◌, ◌^◌, Bool, true, false, List, [], ◌∷◌, length, slice_get, Some, None, inl, inr, refl, sym, ◌∙◌, subst, arith}
use Rattle.std.specs.Prelude.{◌==◌, ◌&&◌}
use Rattle.std.proofs.lemmas.Bool.{cases_Bool, cases_lt}
use Rattle.std.proofs.lemmas.Option.{slice_get_within, same_Some, none-some}
use Rattle.gomp_types.specs.declared.shape.Shape.{Shape}
use Rattle.gomp_types.specs.declared.shape.ShareKind.{ShareKind}
use Rattle.gomp_types.specs.declared.shape.ShareKind.TheVariants.{StaticChunked, StaticEven, Dynamic, Guided, Sections, Single, SingleCopy}
use Rattle.gomp_events.specs.declared.event.Event.{Event}
use Rattle.gomp_events.specs.declared.event.Event.TheVariants.{Enter, Take, Drained, End, HandOn, Cancel}
use Rattle.gomp_types.specs.declared.cancel.Scope.TheVariants.{OneShare}
use Rattle.gomp_types.specs.Shapes.{is_static}
use Rattle.gomp_types.specs.Pieces.{pieces_of, kind_pieces}
use Rattle.gomp_events.specs.Events.{shares_entered, open_share, shape_at, has_drained, has_ended, turn}
use Rattle.gomp_events.specs.Cancels.{share_cancelled}
use Rattle.gomp_types.specs.Deals.{schedule, queues_of}
use Rattle.gomp_events.specs.Takes.{taken_in, next_for}
use Rattle.gomp_events.specs.Laws.{Always}
use Rattle.gomp_types.specs.Values.{IsShape}
use Rattle.gomp_types.proofs.Booleans.{which_branch, is_equal, same_number, and_left, and_right, or_tells, share_is}
use Rattle.gomp_types.proofs.Tiling.{still_past}
use Rattle.gomp_types.proofs.Dealing.{pieces_tile_all}
use Rattle.gomp_chunks.proofs.NextPieces.{tiles_few}
use Rattle.gomp_shares.specs.Calls.{taken_of}
use Rattle.gomp_shares.specs.Rules.{ShareRule, MayTake, HasNone, MayHandOn, MayCancelShare}
use Rattle.gomp_shares.proofs.SharesKeep.{shape_stays, member_is_inside, ended_shape}
use Rattle.gomp_slots.specs.Words.{was_drained}

-- Pieces that are not static lie in one queue

by_kind : (members : ℕ) (kind : ShareKind) (shape : Shape) (i m : ℕ) (h : List Event) → is_static kind ≡ false →
    slice_get ((queues_of members kind).queue shape ((queues_of members kind).queue_of shape m)) (taken_in ((queues_of members kind).queue_of shape) i ((queues_of members kind).queue_of shape m) h) ≡ slice_get (kind_pieces members kind shape) (taken_of i h)
by_kind members StaticChunked shape i m h e = absurd (cc)
by_kind members StaticEven shape i m h e = absurd (cc)
by_kind members Dynamic shape i m h e = refl
by_kind members Guided shape i m h e = refl
by_kind members Sections shape i m h e = refl
by_kind members Single shape i m h e = refl
by_kind members SingleCopy shape i m h e = refl

-- so the next one is that with the number of those that were taken
pub next_in_line : (members m i : ℕ) (shape : Shape) (h : List Event) → is_static shape.kind ≡ false → next_for (schedule members) shape i m h ≡ slice_get (pieces_of members shape) (taken_of i h)
next_in_line members m i shape h queue = by_kind members shape.kind shape i m h queue

-- there are no more pieces than iterations
pub pieces_few : (members : ℕ) (shape : Shape) → 0 < members → IsShape shape → length (pieces_of members shape) ≤ 2 ^ 39
pieces_few members shape some is = let few = tiles_few 0 shape.trips (pieces_of members shape) (pieces_tile_all members shape some is) in let most = is.trips in omega arith

-- What was taken

-- a share of which a piece was taken was entered, and no more were taken than it has
abbrev Taken : ℕ → ℕ → List Event → Type 0
Taken members i h = (shape : Shape) × (shape_at i h ≡ Some shape) × (is_static shape.kind ≡ false → taken_of i h ≤ length (pieces_of members shape))

later_taken : (members i : ℕ) (event : Event) (earlier : List Event) → ShareRule (schedule members) members event earlier → taken_of i (event ∷ earlier) ≡ taken_of i earlier → Taken members i earlier → Taken members i (event ∷ earlier)
later_taken members i event earlier rule same was =
    (was.0, shape_stays (schedule members) members i was.0 event earlier rule was.1, λ queue. let few = was.2 queue in omega arith)

taken_few : (members i : ℕ) (h : List Event) → Always (ShareRule (schedule members) members) h → 0 < taken_of i h → Taken members i h
taken_few members i [] all any = absurd (omega arith)
taken_few members i (Take share member low high ∷ earlier) all any =
    elim (cases_Bool (share == i)) [
      | inl e ↦
          let may : MayTake (schedule members) i member low high earlier = rw (is_equal share i e) at all.0 in
          let inside = (member_is_inside (schedule members) members member i may.shape earlier all.1 may.inside).0 in
          let more : taken_of i (Take share member low high ∷ earlier) ≡ taken_of i earlier + 1 = rw e (refl {a = taken_of i earlier + 1}) in
          (may.shape, inside, λ queue. let lt : taken_of i earlier < length (pieces_of members may.shape) = slice_get_within (pieces_of members may.shape) (taken_of i earlier) (low, high) (sym (next_in_line members member i may.shape earlier queue) ∙ may.next) in omega arith)
      | inr e ↦
          let same : taken_of i (Take share member low high ∷ earlier) ≡ taken_of i earlier = rw e refl in
          later_taken members i (Take share member low high) earlier all.0 same (taken_few members i earlier all.1 (omega arith))
    ]
taken_few members i (Enter share member other ∷ earlier) all any = later_taken members i (Enter share member other) earlier all.0 refl (taken_few members i earlier all.1 any)
taken_few members i (event ∷ earlier) all any =
    let was = taken_few members i earlier all.1 any in (was.0, shape_stays (schedule members) members i was.0 event earlier all.0 was.1, was.2)

one_shape_at : (i : ℕ) (h : List Event) (shape other : Shape) → shape_at i h ≡ Some shape → shape_at i h ≡ Some other → other ≡ shape
one_shape_at i h shape other a b = same_Some other shape (sym b ∙ a)

pub taken_most : (members i : ℕ) (shape : Shape) (h : List Event) → Always (ShareRule (schedule members) members) h → shape_at i h ≡ Some shape → is_static shape.kind ≡ false → taken_of i h ≤ length (pieces_of members shape)
taken_most members i shape h all at queue = elim (cases_lt 0 (taken_of i h)) [
  | inl any ↦
      let t = taken_few members i h all any in
      let same : t.0 ≡ shape = one_shape_at i h shape t.0 at t.1 in
      subst (λ (s : Shape). is_static s.kind ≡ false → taken_of i h ≤ length (pieces_of members s)) same t.2 queue
  | inr none ↦ omega arith
]

-- Who learned that nothing is left

takes_grow : (i : ℕ) (event : Event) (earlier : List Event) → taken_of i earlier ≤ taken_of i (event ∷ earlier)
takes_grow i (Take share member low high) earlier = elim (cases_Bool (share == i)) [ inl e ↦ rw e (omega arith) | inr e ↦ rw e (omega arith) ]
takes_grow i _ earlier = omega arith

-- a member that learned so was in the share, and all of its pieces were taken
abbrev Spent : ℕ → ℕ → List Event → Type 0
Spent members i h = (shape : Shape) × (shape_at i h ≡ Some shape) × (is_static shape.kind ≡ false → length (pieces_of members shape) ≤ taken_of i h)

later_spent : (members i : ℕ) (event : Event) (earlier : List Event) → ShareRule (schedule members) members event earlier → Spent members i earlier → Spent members i (event ∷ earlier)
later_spent members i event earlier rule was =
    let grows = takes_grow i event earlier in
    (was.0, shape_stays (schedule members) members i was.0 event earlier rule was.1, λ queue. let few = was.2 queue in omega arith)

drained_spent : (members i m : ℕ) (h : List Event) → Always (ShareRule (schedule members) members) h → was_drained i m h ≡ true → Spent members i h
drained_spent members i m [] all was = absurd (cc)
drained_spent members i m (Drained share member ∷ earlier) all was =
    elim (or_tells (share == i && member == m) (was_drained i m earlier) was) [
      | inl e ↦
          let may : HasNone (schedule members) i member earlier = rw (is_equal share i (and_left (share == i) (member == m) e)) at all.0 in
          let inside = (member_is_inside (schedule members) members member i may.shape earlier all.1 may.inside).0 in
          (may.shape, inside, λ queue. still_past _ _ (sym (next_in_line members member i may.shape earlier queue) ∙ may.none))
      | inr e ↦ later_spent members i (Drained share member) earlier all.0 (drained_spent members i m earlier all.1 e)
    ]
drained_spent members i m (event ∷ earlier) all was = later_spent members i event earlier all.0 (drained_spent members i m earlier all.1 was)

pub all_spent : (members i m : ℕ) (shape : Shape) (h : List Event) → Always (ShareRule (schedule members) members) h → shape_at i h ≡ Some shape → is_static shape.kind ≡ false → was_drained i m h ≡ true → length (pieces_of members shape) ≤ taken_of i h
all_spent members i m shape h all at queue was =
    let t = drained_spent members i m h all was in
    let same : t.0 ≡ shape = one_shape_at i h shape t.0 at t.1 in
    subst (λ (s : Shape). is_static s.kind ≡ false → length (pieces_of members s) ≤ taken_of i h) same t.2 queue

-- Shares that were entered

-- each share before the next one of a member was entered
pub entered_shape : (members m j : ℕ) (h : List Event) → Always (ShareRule (schedule members) members) h → j < shares_entered m h → (shape : Shape) × (shape_at j h ≡ Some shape)
entered_shape members m j [] all lt = absurd (omega arith)
entered_shape members m j (Enter share member shape ∷ earlier) all lt =
    elim (cases_Bool (member == m)) [
      | inl e ↦
          let number : share ≡ shares_entered m earlier = rw (is_equal member m e) at all.0.number in
          let more : shares_entered m (Enter share member shape ∷ earlier) ≡ shares_entered m earlier + 1 = rw e (refl {a = shares_entered m earlier + 1}) in
          elim (cases_lt j (shares_entered m earlier)) [
            | inl before ↦ later (entered_shape members m j earlier all.1 before)
            | inr past ↦ (shape, let same : share ≡ j = omega arith in rw (same, same_number j) refl)
          ]
      | inr e ↦ let same : shares_entered m (Enter share member shape ∷ earlier) ≡ shares_entered m earlier = rw e refl in later (entered_shape members m j earlier all.1 (omega arith))
    ]
  where
    later : ((other : Shape) × (shape_at j earlier ≡ Some other)) → (other : Shape) × (shape_at j (Enter share member shape ∷ earlier) ≡ Some other)
    later was = (was.0, shape_stays (schedule members) members j was.0 (Enter share member shape) earlier all.0 was.1)
entered_shape members m j (event ∷ earlier) all lt =
    let was = entered_shape members m j earlier all.1 lt in (was.0, shape_stays (schedule members) members j was.0 event earlier all.0 was.1)

-- of a share that is handed on or cancelled, too
turn_shape : (members i : ℕ) (h : List Event) → Always (ShareRule (schedule members) members) h → 0 < turn i h → (shape : Shape) × (shape_at i h ≡ Some shape)
turn_shape members i [] all any = absurd (omega arith)
turn_shape members i (HandOn share member piece ∷ earlier) all any =
    elim (cases_Bool (share == i)) [
      | inl e ↦ let may : MayHandOn members i member piece earlier = rw (is_equal share i e) at all.0 in (may.shape, (member_is_inside (schedule members) members member i may.shape earlier all.1 may.inside).0)
      | inr e ↦ let same : turn i (HandOn share member piece ∷ earlier) ≡ turn i earlier = rw e refl in turn_shape members i earlier all.1 (omega arith)
    ]
turn_shape members i (event ∷ earlier) all any =
    let was = turn_shape members i earlier all.1 any in (was.0, shape_stays (schedule members) members i was.0 event earlier all.0 was.1)

cancelled_shape : (members i : ℕ) (h : List Event) → Always (ShareRule (schedule members) members) h → share_cancelled i h ≡ true → (shape : Shape) × (shape_at i h ≡ Some shape)
cancelled_shape members i [] all is = absurd (cc)
cancelled_shape members i (Cancel member (OneShare share) ∷ earlier) all is =
    elim (or_tells (share == i) (share_cancelled i earlier) is) [
      | inl e ↦ let may : MayCancelShare i member earlier = rw (is_equal share i e) at all.0 in (may.shape, (member_is_inside (schedule members) members member i may.shape earlier all.1 may.inside).0)
      | inr e ↦ cancelled_shape members i earlier all.1 e
    ]
cancelled_shape members i (event ∷ earlier) all is =
    let was = cancelled_shape members i earlier all.1 is in (was.0, shape_stays (schedule members) members i was.0 event earlier all.0 was.1)

not_entered : (i : ℕ) (h : List Event) → shape_at i h ≡ None → ((shape : Shape) × (shape_at i h ≡ Some shape)) → ⊥
not_entered i h none some = none-some some.0 (sym none ∙ some.1)

-- a share that nobody entered has no events
pub record HasNoEvents (members i : ℕ) (h : List Event) : Type 0 where
  pub takes : taken_of i h ≡ 0
  pub drained : (m : ℕ) → was_drained i m h ≡ false
  pub ended : (m : ℕ) → has_ended i m h ≡ false
  pub turned : turn i h ≡ 0
  pub whole : share_cancelled i h ≡ false

pub no_events_of : (members i : ℕ) (h : List Event) → Always (ShareRule (schedule members) members) h → shape_at i h ≡ None → HasNoEvents members i h
no_events_of members i h all none = record {
  takes = elim (cases_lt 0 (taken_of i h)) [ inl any ↦ absurd (let t = taken_few members i h all any in not_entered i h none (t.0, t.1)) | inr nobody ↦ omega arith ];
  drained = λ m. elim (cases_Bool (was_drained i m h)) [ inl was ↦ absurd (let t = drained_spent members i m h all was in not_entered i h none (t.0, t.1)) | inr e ↦ e ];
  ended = λ m. elim (cases_Bool (has_ended i m h)) [ inl was ↦ absurd (not_entered i h none (ended_shape (schedule members) members m i h all was)) | inr e ↦ e ];
  turned = elim (cases_lt 0 (turn i h)) [ inl any ↦ absurd (not_entered i h none (turn_shape members i h all any)) | inr nobody ↦ omega arith ];
  whole = elim (cases_Bool (share_cancelled i h)) [ inl was ↦ absurd (not_entered i h none (cancelled_shape members i h all was)) | inr e ↦ e ];
}

-- a member that learned so is in the share or has left it, so it has not learned it of the one that it enters next
drained_before : (members m i : ℕ) (h : List Event) → Always (ShareRule (schedule members) members) h → was_drained i m h ≡ true → i < shares_entered m h
drained_before members m i [] all was = absurd (cc)
drained_before members m i (Drained share member ∷ earlier) all was =
    elim (or_tells (share == i && member == m) (was_drained i m earlier) was) [
      | inl e ↦
          let may : HasNone (schedule members) i m earlier = rw (is_equal share i (and_left (share == i) (member == m) e), is_equal member m (and_right (share == i) (member == m) e)) at all.0 in
          let inside = member_is_inside (schedule members) members m i may.shape earlier all.1 may.inside in
          let number = inside.2 in omega arith
      | inr e ↦ drained_before members m i earlier all.1 e
    ]
drained_before members m i (Enter share member shape ∷ earlier) all was =
    let before = drained_before members m i earlier all.1 was in
    elim (cases_Bool (member == m)) [
      | inl e ↦ rw e (omega arith)
      | inr e ↦ rw e before
    ]
drained_before members m i (event ∷ earlier) all was = drained_before members m i earlier all.1 was

-- a member that is in a share has learned so of it if it remembers that
pub drained_is_known : (members m i : ℕ) (shape : Shape) (h : List Event) → Always (ShareRule (schedule members) members) h → open_share m h ≡ Some (i, shape) → was_drained i m h ≡ has_drained m h
drained_is_known members m i shape [] all at = refl
drained_is_known members m i shape (Enter share member other ∷ earlier) all at =
    elim (which_branch (member == m) (Some (share, other)) (open_share m earlier) (Some (i, shape)) at) [
      | inl e ↦
          let p = share_is share i other shape e.1 in
          let who = is_equal member m e.0 in
          let number : share ≡ shares_entered m earlier = rw who at all.0.number in
          let off : was_drained i m earlier ≡ false = elim (cases_Bool (was_drained i m earlier)) [ inl was ↦ absurd (let lt = drained_before members m i earlier all.1 was in let same = p.0 in omega arith) | inr never ↦ never ] in
          rw e.0 off
      | inr e ↦ rw e.0 (drained_is_known members m i shape earlier all.1 e.1)
    ]
drained_is_known members m i shape (Drained share member ∷ earlier) all at =
    elim (cases_Bool (member == m)) [
      | inl e ↦
          let may : HasNone (schedule members) share m earlier = rw (is_equal member m e) at all.0 in
          let p = share_is share i may.shape shape (sym may.inside ∙ at) in
          rw (e, p.0, same_number i) refl
      | inr e ↦ rw (e, and_off (share == i)) (drained_is_known members m i shape earlier all.1 at)
    ]
  where
    and_off : (b : Bool) → (b && false) ≡ false
    and_off true = refl
    and_off false = refl
drained_is_known members m i shape (End share member ∷ earlier) all at =
    elim (which_branch (member == m) None (open_share m earlier) (Some (i, shape)) at) [
      | inl e ↦ absurd (cc)
      | inr e ↦ drained_is_known members m i shape earlier all.1 e.1
    ]
drained_is_known members m i shape (_ ∷ earlier) all at = drained_is_known members m i shape earlier all.1 at
