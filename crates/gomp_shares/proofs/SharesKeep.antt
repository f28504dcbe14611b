-- Events that keep the rule of the work-shares keep their laws, however the pieces are dealt out.
use Rattle.std.proofs.Common.{◌≡◌, ℕ, ◌+◌, ◌<◌, ◌≤◌, Bool, true, false, List, [], ◌∷◌, ◌++◌, Option, Some, None, refl, ap, ◌∙◌, sym, arith, take, ◌⊎◌, inl, inr, subst}
use Rattle.std.specs.Prelude.{pos, if◌then◌else◌, ◌&&◌, ◌||◌, ◌==◌, ◌-◌, ◌≢◌, nat_lt}
use Rattle.std.proofs.lemmas.Bool.Decides.{nat_tests}
use Rattle.std.proofs.lemmas.Bool.{cases_Bool}
use Rattle.gomp_types.specs.declared.shape.Shape.{Shape}
use Rattle.gomp_types.specs.declared.limits.TheConstants.{OPEN_SHARES}
use Rattle.gomp_events.specs.declared.event.Event.{Event}
use Rattle.gomp_events.specs.declared.event.Event.TheVariants.{Enter, Take, Drained, End, Cancel}
use Rattle.gomp_types.specs.declared.cancel.Scope.TheVariants.{OneShare}
use Rattle.gomp_events.specs.Cancels.{share_cancelled}
use Rattle.gomp_types.specs.Pieces.{Piece}
use Rattle.gomp_events.specs.Events.{shares_entered, open_share, has_drained, has_ended, shape_at, is_over, has_room, times_taken}
use Rattle.gomp_types.specs.Pieces.{has_iteration}
use Rattle.gomp_types.specs.Deals.{Queues, IsDealt, times}
use Rattle.gomp_events.specs.Takes.{taken_in, takes_in, next_in, next_for}
use Rattle.gomp_events.proofs.Always.{always_so}
use Rattle.gomp_events.specs.Laws.{Always, Happened}
use Rattle.gomp_shares.specs.Rules.{MayTake, HasNone, MayLeaveShare, ShareRule}
use Rattle.gomp_shares.specs.Laws.{IsOver, TakesNext, TakesWithin, LeavesNothing, CancelsCancellable, LeavesCancelled, EntersOneByOne, EndsInside, EntersWithRoom, ShareLaws}
use Rattle.gomp_types.proofs.Booleans.{which_branch, is_equal, unequal_numbers, same_number, share_is, and_left, and_right, or_tells, not_both, every_tells}
use Rattle.gomp_shares.proofs.CancelledShares.{not_cancelled_before, none_or_cancelled, cancel_stands}
use Rattle.gomp_types.proofs.Tiling.{still_past, later_none, times-append, times-take, take_next, take_past, none_has}
use Rattle.gomp_events.proofs.ShareReadings.{ended_once_left}

-- The shape of a share

pub shape_stays : (queues : Queues) (members i : ℕ) (shape : Shape) (event : Event) (earlier : List Event) → ShareRule queues members event earlier →
    shape_at i earlier ≡ Some shape → shape_at i (event ∷ earlier) ≡ Some shape
shape_stays queues members i shape (Enter share member other) earlier rule at =
    elim (cases_Bool (share == i)) [
      | inl e ↦ rw e (let same : shape ≡ other = rule.same shape (rw (is_equal share i e) at) in rw same refl)
      | inr e ↦ rw e at
    ]
shape_stays queues members i shape _ earlier rule at = at

-- each share that was entered is dealt
pub share_is_dealt : (queues : Queues) (members i : ℕ) (shape : Shape) (h : List Event) → Always (ShareRule queues members) h → shape_at i h ≡ Some shape → IsDealt queues members shape
share_is_dealt queues members i shape [] all at = absurd (cc)
share_is_dealt queues members i shape (Enter share member other ∷ earlier) all at =
    elim (which_branch (share == i) (Some other) (shape_at i earlier) (Some shape) at) [
      | inl e ↦ let same : other ≡ shape = let t = e.1 in cc in rw same at all.0.dealt
      | inr e ↦ share_is_dealt queues members i shape earlier all.1 e.1
    ]
share_is_dealt queues members i shape (_ ∷ earlier) all at = share_is_dealt queues members i shape earlier all.1 at

-- What is known of the share that a member is in

abbrev pub Inside : ℕ → ℕ → ℕ → Shape → List Event → Type 0
Inside members m i shape h = (shape_at i h ≡ Some shape) × (m < members) × (shares_entered m h ≡ i + 1) × (shape.incr ≢ pos 0)

pub member_is_inside : (queues : Queues) (members m i : ℕ) (shape : Shape) (h : List Event) → Always (ShareRule queues members) h → open_share m h ≡ Some (i, shape) → Inside members m i shape h
member_is_inside queues members m i shape [] all at = absurd (cc)
member_is_inside queues members m i shape (Enter share member other ∷ earlier) all at =
    elim (which_branch (member == m) (Some (share, other)) (open_share m earlier) (Some (i, shape)) at) [
      | inl e ↦
          let p = share_is share i other shape e.1 in
          let who = is_equal member m e.0 in
          let number : share ≡ shares_entered m earlier = rw (← who) all.0.number in
          rw (e.0, p.0, p.1, same_number i) (refl, (rw who at all.0.member), rw (← p.0) (rw number refl), (rw p.1 at all.0.moves))
      | inr e ↦
          let before = member_is_inside queues members m i shape earlier all.1 e.1 in
          (shape_stays queues members i shape (Enter share member other) earlier all.0 before.0, before.1, rw e.0 before.2, before.3)
    ]
member_is_inside queues members m i shape (End share member ∷ earlier) all at =
    elim (which_branch (member == m) None (open_share m earlier) (Some (i, shape)) at) [
      | inl e ↦ absurd (cc)
      | inr e ↦ member_is_inside queues members m i shape earlier all.1 e.1
    ]
member_is_inside queues members m i shape (_ ∷ earlier) all at = member_is_inside queues members m i shape earlier all.1 at

-- the member has entered the share that it is in
pub inside_stands : (m i : ℕ) (shape : Shape) (h : List Event) → open_share m h ≡ Some (i, shape) → Happened (Enter i m shape) h
inside_stands m i shape [] at = absurd (cc)
inside_stands m i shape (Enter share member other ∷ earlier) at =
    elim (which_branch (member == m) (Some (share, other)) (open_share m earlier) (Some (i, shape)) at) [
      | inl e ↦ inl (let p = share_is share i other shape e.1 in let same = is_equal member m e.0 in rw (p.0, p.1, same) refl)
      | inr e ↦ inr (inside_stands m i shape earlier e.1)
    ]
inside_stands m i shape (End share member ∷ earlier) at =
    elim (which_branch (member == m) None (open_share m earlier) (Some (i, shape)) at) [
      | inl e ↦ absurd (cc)
      | inr e ↦ inr (inside_stands m i shape earlier e.1)
    ]
inside_stands m i shape (_ ∷ earlier) at = inr (inside_stands m i shape earlier at)

-- Takes from a queue

-- a share that nobody entered has no takes
none_taken : (queues : Queues) (members i : ℕ) (h : List Event) → Always (ShareRule queues members) h → shape_at i h ≡ None →
    ((queue_of : ℕ → ℕ) (q : ℕ) → (taken_in queue_of i q h ≡ 0) × (takes_in queue_of i q h ≡ [])) × ((k : ℕ) → times_taken i k h ≡ 0)
none_taken queues members i [] all at = ((λ queue_of q. (refl, refl)), λ k. refl)
none_taken queues members i (Enter share member shape ∷ earlier) all at =
    elim (which_branch (share == i) (Some shape) (shape_at i earlier) None at) [
      | inl e ↦ absurd (cc)
      | inr e ↦ none_taken queues members i earlier all.1 e.1
    ]
none_taken queues members i (Take share member low high ∷ earlier) all at =
    elim (cases_Bool (share == i)) [
      | inl e ↦ absurd (let found : shape_at share earlier ≡ Some all.0.shape = (member_is_inside queues members member share all.0.shape earlier all.1 all.0.inside).0 in
          let there : shape_at i earlier ≡ None = at in
          let is : share ≡ i = is_equal share i e in
          let none : Some all.0.shape ≡ None = sym found ∙ ap (λ (n : ℕ). shape_at n earlier) is ∙ there in cc)
      | inr e ↦ rw e (none_taken queues members i earlier all.1 at)
    ]
none_taken queues members i (_ ∷ earlier) all at = none_taken queues members i earlier all.1 at

-- what a take takes, in the words of its share
next_of_queue_is_taken : (queues : Queues) (members i m low high : ℕ) (shape : Shape) (h : List Event) → Always (ShareRule queues members) h → shape_at i h ≡ Some shape → MayTake queues i m low high h →
    next_in queues shape i (queues.queue_of shape m) h ≡ Some (low, high)
next_of_queue_is_taken queues members i m low high shape h all at may =
    let found = (member_is_inside queues members m i may.shape h all may.inside).0 in
    let same : may.shape ≡ shape = cc in
    rw same at may.next

-- before an entry the share was entered in this shape, or not at all
earlier_shape : (own : Option Shape) (shape : Shape) → ((other : Shape) → own ≡ Some other → other ≡ shape) → (own ≡ None) ⊎ (own ≡ Some shape)
earlier_shape None shape same = inl refl
earlier_shape (Some other) shape same = inr (ap Some (same other refl))

-- the takes from a queue are its first pieces, in order
pub taken_front_of_queue : (queues : Queues) (members i q : ℕ) (shape : Shape) (h : List Event) → Always (ShareRule queues members) h → shape_at i h ≡ Some shape →
    takes_in (queues.queue_of shape) i q h ≡ take (taken_in (queues.queue_of shape) i q h) (queues.queue shape q)
taken_front_of_queue queues members i q shape [] all at = absurd (cc)
taken_front_of_queue queues members i q shape (Enter share member other ∷ earlier) all at =
    elim (which_branch (share == i) (Some other) (shape_at i earlier) (Some shape) at) [
      | inl e ↦
          let same : other ≡ shape = let t = e.1 in cc in
          elim (earlier_shape (shape_at i earlier) shape (rw (is_equal share i e.0, same) at all.0.same)) [
            | inl none ↦ let empty = (none_taken queues members i earlier all.1 none).0 (queues.queue_of shape) q in rw (empty.0, empty.1) refl
            | inr some ↦ taken_front_of_queue queues members i q shape earlier all.1 some
          ]
      | inr e ↦ taken_front_of_queue queues members i q shape earlier all.1 e.1
    ]
taken_front_of_queue queues members i q shape (Take share member low high ∷ earlier) all at =
    elim (cases_Bool (share == i && queues.queue_of shape member == q)) [
      | inl e ↦
          let is = is_equal share i (and_left (share == i) (queues.queue_of shape member == q) e) in
          let from = is_equal (queues.queue_of shape member) q (and_right (share == i) (queues.queue_of shape member == q) e) in
          let next = next_of_queue_is_taken queues members i member low high shape earlier all.1 at (rw is at all.0) in
          rw (e, taken_front_of_queue queues members i q shape earlier all.1 at, take_next (queues.queue shape q) (taken_in (queues.queue_of shape) i q earlier) (low, high) (rw from at next)) refl
      | inr e ↦ rw e (taken_front_of_queue queues members i q shape earlier all.1 at)
    ]
taken_front_of_queue queues members i q shape (_ ∷ earlier) all at = taken_front_of_queue queues members i q shape earlier all.1 at

times_with_one_more : (has : Bool) (k low high n : ℕ) (xs : List Piece) → has_iteration k low high ≡ has → n ≡ times k xs → (if has then n + 1 else n) ≡ times k (xs ++ (low, high) ∷ [])
times_with_one_more true k low high n xs e before = rw (times-append k xs ((low, high) ∷ []), e, before) refl
times_with_one_more false k low high n xs e before = rw (times-append k xs ((low, high) ∷ []), e, before) (omega arith)

-- how often an iteration was taken is told by the queue that has it
by_queue : (queues : Queues) (members i k : ℕ) (shape : Shape) (d : IsDealt queues members shape) (h : List Event) → Always (ShareRule queues members) h → shape_at i h ≡ Some shape →
    times_taken i k h ≡ times k (takes_in (queues.queue_of shape) i (d.queue_with k) h)
by_queue queues members i k shape d [] all at = absurd (cc)
by_queue queues members i k shape d (Enter share member other ∷ earlier) all at =
    elim (which_branch (share == i) (Some other) (shape_at i earlier) (Some shape) at) [
      | inl e ↦
          let same : other ≡ shape = let t = e.1 in cc in
          elim (earlier_shape (shape_at i earlier) shape (rw (is_equal share i e.0, same) at all.0.same)) [
            | inl none ↦ let empty = none_taken queues members i earlier all.1 none in rw (empty.1 k, (empty.0 (queues.queue_of shape) (d.queue_with k)).1) refl
            | inr some ↦ by_queue queues members i k shape d earlier all.1 some
          ]
      | inr e ↦ by_queue queues members i k shape d earlier all.1 e.1
    ]
by_queue queues members i k shape d (Take share member low high ∷ earlier) all at =
    elim (cases_Bool (share == i)) [
      | inl e ↦
          let next = next_of_queue_is_taken queues members i member low high shape earlier all.1 at (rw (is_equal share i e) at all.0) in
          elim (cases_Bool (queues.queue_of shape member == d.queue_with k)) [
            | inl own ↦ rw (e, own) (times_with_one_more (has_iteration k low high) k low high (times_taken i k earlier) (takes_in (queues.queue_of shape) i (d.queue_with k) earlier) refl (by_queue queues members i k shape d earlier all.1 at))
            | inr other ↦
                let away = d.not_in_another k member (member_is_inside queues members member share all.0.shape earlier all.1 all.0.inside).1 (unequal_numbers (queues.queue_of shape member) (d.queue_with k) other) in
                rw (e, other, none_has k (taken_in (queues.queue_of shape) i (queues.queue_of shape member) earlier) low high (queues.queue shape (queues.queue_of shape member)) next away) (by_queue queues members i k shape d earlier all.1 at)
          ]
      | inr e ↦ rw e (by_queue queues members i k shape d earlier all.1 at)
    ]
by_queue queues members i k shape d (_ ∷ earlier) all at = by_queue queues members i k shape d earlier all.1 at

-- no iteration of a share is taken twice
pub taken_once : (queues : Queues) (members i k : ℕ) (h : List Event) → Always (ShareRule queues members) h → times_taken i k h ≤ 1
taken_once queues members i k h all = by_shape (shape_at i h) refl
  where
    by_shape : (own : Option Shape) → shape_at i h ≡ own → times_taken i k h ≤ 1
    by_shape None at = let none = (none_taken queues members i h all at).1 k in omega arith
    by_shape (Some shape) at =
        let d = share_is_dealt queues members i shape h all at in
        let q = d.queue_with k in
        let told = by_queue queues members i k shape d h all at in
        let part = times-take k (taken_in (queues.queue_of shape) i q h) (queues.queue shape q) in
        let most = d.most k in
        rw (told, taken_front_of_queue queues members i q shape h all at) (omega arith)

-- Members that left

-- what a member that left a share found stays so
pub none_stays : (queues : Queues) (shape : Shape) (i q : ℕ) (event : Event) (earlier : List Event) → next_in queues shape i q earlier ≡ None → next_in queues shape i q (event ∷ earlier) ≡ None
none_stays queues shape i q (Take share member low high) earlier e =
    elim (cases_Bool (share == i && queues.queue_of shape member == q)) [
      | inl same ↦ rw same (later_none (queues.queue shape q) (taken_in (queues.queue_of shape) i q earlier) e)
      | inr other ↦ rw other e
    ]
none_stays queues shape i q _ earlier e = e

-- unless the share was cancelled
pub ended_none : (queues : Queues) (members m i : ℕ) (h : List Event) → Always (ShareRule queues members) h → has_ended i m h ≡ true → share_cancelled i h ≡ false →
    (shape : Shape) × (shape_at i h ≡ Some shape) × (next_for queues shape i m h ≡ None)
ended_none queues members m i [] all ended whole = absurd (cc)
ended_none queues members m i (End share member ∷ earlier) all ended whole =
    elim (cases_Bool (share == i && member == m)) [
      | inl e ↦
          let is = is_equal share i (and_left (share == i) (member == m) e) in
          let who = is_equal member m (and_right (share == i) (member == m) e) in
          let end : MayLeaveShare queues i m earlier = rw (is, who) at all.0 in
          (end.shape, (member_is_inside queues members m i end.shape earlier all.1 end.inside).0, none_or_cancelled queues members m i earlier all.1 end whole)
      | inr e ↦ ended_none queues members m i earlier all.1 (rw e at ended) whole
    ]
ended_none queues members m i (event ∷ earlier) all ended whole =
    let before = ended_none queues members m i earlier all.1 ended (not_cancelled_before (OneShare i) event earlier whole) in
    (before.0, shape_stays queues members i before.0 event earlier all.0 before.1, none_stays queues before.0 i (queues.queue_of before.0 m) event earlier before.2)

-- a share that a member left was entered
pub ended_shape : (queues : Queues) (members m i : ℕ) (h : List Event) → Always (ShareRule queues members) h → has_ended i m h ≡ true → (shape : Shape) × (shape_at i h ≡ Some shape)
ended_shape queues members m i [] all ended = absurd (cc)
ended_shape queues members m i (End share member ∷ earlier) all ended =
    elim (cases_Bool (share == i && member == m)) [
      | inl e ↦
          let is = is_equal share i (and_left (share == i) (member == m) e) in
          let who = is_equal member m (and_right (share == i) (member == m) e) in
          let end : MayLeaveShare queues i m earlier = rw (is, who) at all.0 in
          (end.shape, (member_is_inside queues members m i end.shape earlier all.1 end.inside).0)
      | inr e ↦ ended_shape queues members m i earlier all.1 (rw e at ended)
    ]
ended_shape queues members m i (event ∷ earlier) all ended =
    let before = ended_shape queues members m i earlier all.1 ended in
    (before.0, shape_stays queues members i before.0 event earlier all.0 before.1)

-- a share that every member has left had each of its iterations taken, unless it was cancelled
pub taken_whole : (queues : Queues) (members i k : ℕ) (shape : Shape) (h : List Event) → Always (ShareRule queues members) h → shape_at i h ≡ Some shape →
    ((m : ℕ) → m < members → has_ended i m h ≡ true) → share_cancelled i h ≡ false → k < shape.trips → times_taken i k h ≡ 1
taken_whole queues members i k shape h all at over whole lt =
    let d = share_is_dealt queues members i shape h all at in
    let who = d.taker k lt in
    let left = ended_none queues members who.0 i h all (over who.0 who.1) whole in
    let same : left.0 ≡ shape = let one = left.1 in cc in
    let none : next_for queues shape i who.0 h ≡ None = rw same at left.2 in
    let none_left : next_in queues shape i (d.queue_with k) h ≡ None = rw who.2 at none in
    let past = still_past (queues.queue shape (d.queue_with k)) (taken_in (queues.queue_of shape) i (d.queue_with k) h) none_left in
    rw (
      by_queue queues members i k shape d h all at,
      taken_front_of_queue queues members i (d.queue_with k) shape h all at,
      take_past (queues.queue shape (d.queue_with k)) (taken_in (queues.queue_of shape) i (d.queue_with k) h) past,
    ) (d.one k lt)

and_no : (a b c : Bool) → b ≡ false → (a && b || c) ≡ true → c ≡ true
and_no true b c off e = rw off at e
and_no false b c off e = e

-- the shares that a member left are below those that it entered, and below the one that it is in
pub ended_below : (queues : Queues) (members m i : ℕ) (h : List Event) → Always (ShareRule queues members) h → has_ended i m h ≡ true →
    (i < shares_entered m h) × ((j : ℕ) (shape : Shape) → open_share m h ≡ Some (j, shape) → i < j)
ended_below queues members m i [] all ended = absurd (cc)
ended_below queues members m i (Enter share member shape ∷ earlier) all ended =
    let before = ended_below queues members m i earlier all.1 ended in
    elim (cases_Bool (member == m)) [
      | inl e ↦ rw e (
        omega (arith, before.0),
        λ j other within.
            let p = share_is share j shape other within in
            let number : share ≡ shares_entered m earlier = rw (← is_equal member m e) all.0.number in
            let low = before.0 in let same = p.0 in omega arith,
      )
      | inr e ↦ rw e before
    ]
ended_below queues members m i (End share member ∷ earlier) all ended =
    elim (cases_Bool (member == m)) [
      | inl e ↦ elim (cases_Bool (share == i)) [
        | inl same ↦
            let at : open_share m earlier ≡ Some (share, all.0.shape) = rw (← is_equal member m e) all.0.inside in
            let found = member_is_inside queues members m share all.0.shape earlier all.1 at in
            let number = found.2 in let is = is_equal share i same in
            rw e (omega arith, λ j other within. absurd (cc))
        | inr other ↦
            let before = ended_below queues members m i earlier all.1 (rw other at ended) in
            rw e (before.0, λ j other within. absurd (cc))
      ]
      | inr e ↦ rw e (ended_below queues members m i earlier all.1 (and_no (share == i) (member == m) (has_ended i m earlier) e ended))
    ]
ended_below queues members m i (_ ∷ earlier) all ended = ended_below queues members m i earlier all.1 ended

-- the member is still in its share
pub not_ended : (queues : Queues) (members m i : ℕ) (shape : Shape) (h : List Event) → Always (ShareRule queues members) h → open_share m h ≡ Some (i, shape) → has_ended i m h ≡ false
not_ended queues members m i shape h all within =
    elim (cases_Bool (has_ended i m h)) [
      | inl e ↦ absurd (let below = (ended_below queues members m i h all e).1 i shape within in omega arith)
      | inr e ↦ e
    ]

-- Members that were told that nothing is left

none_same : (queues : Queues) (i j m : ℕ) (shape other : Shape) (h : List Event) → i ≡ j → shape ≡ other → next_for queues shape i m h ≡ None → next_for queues other j m h ≡ None
none_same queues i j m shape other h e same none =
    subst (λ (s : Shape). next_for queues s j m h ≡ None) same (subst (λ (n : ℕ). next_for queues shape n m h ≡ None) e none)

pub drained_none : (queues : Queues) (members m i : ℕ) (shape : Shape) (h : List Event) → Always (ShareRule queues members) h → open_share m h ≡ Some (i, shape) → has_drained m h ≡ true →
    next_for queues shape i m h ≡ None
drained_none queues members m i shape [] all within drained = absurd (cc)
drained_none queues members m i shape (Enter share member other ∷ earlier) all within drained =
    elim (cases_Bool (member == m)) [
      | inl e ↦ absurd (let off = rw e at drained in cc)
      | inr e ↦ drained_none queues members m i shape earlier all.1 (rw e at within) (rw e at drained)
    ]
drained_none queues members m i shape (Drained share member ∷ earlier) all within drained =
    elim (cases_Bool (member == m)) [
      | inl e ↦
          let who = is_equal member m e in
          let may : HasNone queues share m earlier = rw who at all.0 in
          let p = share_is share i may.shape shape (sym may.inside ∙ within) in
          none_same queues share i m may.shape shape earlier p.0 p.1 may.none
      | inr e ↦ drained_none queues members m i shape earlier all.1 within (rw e at drained)
    ]
drained_none queues members m i shape (End share member ∷ earlier) all within drained =
    elim (cases_Bool (member == m)) [
      | inl e ↦ absurd (let off = rw e at within in cc)
      | inr e ↦ drained_none queues members m i shape earlier all.1 (rw e at within) drained
    ]
drained_none queues members m i shape (Take share member low high ∷ earlier) all within drained =
    none_stays queues shape i (queues.queue_of shape m) (Take share member low high) earlier (drained_none queues members m i shape earlier all.1 within drained)
drained_none queues members m i shape (_ ∷ earlier) all within drained = drained_none queues members m i shape earlier all.1 within drained

-- From tests on the list to what stands in it

pub end_stands : (share m : ℕ) (h : List Event) → has_ended share m h ≡ true → Happened (End share m) h
end_stands share m [] e = absurd (cc)
end_stands share m (End i member ∷ earlier) e =
    elim (or_tells (i == share && member == m) (has_ended share m earlier) e) [
      | inl top ↦ inl (
          let is = is_equal i share (and_left (i == share) (member == m) top) in
          let who = is_equal member m (and_right (i == share) (member == m) top) in
          rw (is, who) refl)
      | inr below ↦ inr (end_stands share m earlier below)
    ]
end_stands share m (_ ∷ earlier) e = inr (end_stands share m earlier e)

pub over_stands : (members share : ℕ) (h : List Event) → is_over members share h ≡ true → IsOver members share h
over_stands members share h over m lt = end_stands share m h (every_tells members (λ x. has_ended share x h) m over lt)

pub room_over : (members share old : ℕ) (h : List Event) → share ≡ old + OPEN_SHARES → has_room members share h ≡ true → is_over members old h ≡ true
room_over members share old h e room =
    elim (or_tells (nat_lt share OPEN_SHARES) (is_over members (share - OPEN_SHARES) h) room) [
      | inl low ↦ absurd (grind (arith, nat_tests))
      | inr over ↦ let number : share - OPEN_SHARES ≡ old = omega arith in rw number at over
    ]

-- The laws

-- who entered the share, and in which shape
abbrev pub Entry : ℕ → ℕ → ℕ → Shape → List Event → Type 0
Entry members share m shape h = (m < members) × (shape_at share h ≡ Some shape)

pub enter_has_its_shape : (queues : Queues) (members share m : ℕ) (shape : Shape) (h : List Event) → Always (ShareRule queues members) h → Happened (Enter share m shape) h → Entry members share m shape h
enter_has_its_shape queues members share m shape [] all stands = absurd stands
enter_has_its_shape queues members share m shape (Enter i member other ∷ earlier) all (inl e) =
    let number : i ≡ share = cc in
    let who : member ≡ m = cc in
    let what : other ≡ shape = cc in
    let in_team : m < members = rw (← who) all.0.member in
    rw (number, same_number share) (in_team, ap Some what)
enter_has_its_shape queues members share m shape (_ ∷ earlier) all (inl e) = absurd (cc)
enter_has_its_shape queues members share m shape (event ∷ earlier) all (inr stands) =
    let before = enter_has_its_shape queues members share m shape earlier all.1 stands in
    (before.0, shape_stays queues members share shape event earlier all.0 before.1)

takes_next : (queues : Queues) (members : ℕ) (event : Event) (earlier : List Event) → ShareRule queues members event earlier → Always (ShareRule queues members) earlier → TakesNext queues event earlier
takes_next queues members (Take share m low high) earlier rule all = (
  rule.shape,
  inside_stands m share rule.shape earlier rule.inside,
  (λ stands. not_both (has_ended share m earlier) (ended_once_left share m earlier stands) (not_ended queues members m share rule.shape earlier all rule.inside)),
  rule.next,
)
takes_next queues members _ earlier rule all = tt

-- the share that a member entered is the one that it is in, or it has left it
entered_left : (queues : Queues) (members i m : ℕ) (shape : Shape) (h : List Event) → Always (ShareRule queues members) h → Happened (Enter i m shape) h → (open_share m h ≡ Some (i, shape)) ⊎ Happened (End i m) h
entered_left queues members i m shape [] all stands = absurd stands
entered_left queues members i m shape (Enter share member other ∷ earlier) all (inl e) =
    let number : share ≡ i = cc in
    let who : member ≡ m = cc in
    let what : other ≡ shape = cc in
    inl (rw (number, who, what, same_number m) refl)
entered_left queues members i m shape (_ ∷ earlier) all (inl e) = absurd (cc)
entered_left queues members i m shape (Enter share member other ∷ earlier) all (inr stands) =
    elim (entered_left queues members i m shape earlier all.1 stands) [
      | inl at ↦ elim (cases_Bool (member == m)) [
        | inl e ↦ absurd (let none : open_share m earlier ≡ None = rw (← is_equal member m e) all.0.outside in let both = sym at ∙ none in cc)
        | inr e ↦ inl (rw e at)
      ]
      | inr left ↦ inr (inr left)
    ]
entered_left queues members i m shape (End share member ∷ earlier) all (inr stands) =
    elim (entered_left queues members i m shape earlier all.1 stands) [
      | inl at ↦ elim (cases_Bool (member == m)) [
        | inl e ↦
            let who = is_equal member m e in
            let there : open_share m earlier ≡ Some (share, all.0.shape) = rw (← who) all.0.inside in
            let number = (share_is share i all.0.shape shape (sym there ∙ at)).0 in
            inr (inl (rw (who, number) refl))
        | inr e ↦ inl (rw e at)
      ]
      | inr left ↦ inr (inr left)
    ]
entered_left queues members i m shape (_ ∷ earlier) all (inr stands) =
    elim (entered_left queues members i m shape earlier all.1 stands) [ inl at ↦ inl at | inr left ↦ inr (inr left) ]

pub left_before : (queues : Queues) (members m : ℕ) (h : List Event) → Always (ShareRule queues members) h → open_share m h ≡ None → (i : ℕ) (other : Shape) → Happened (Enter i m other) h → Happened (End i m) h
left_before queues members m h all outside i other stands =
    elim (entered_left queues members i m other h all stands) [
      | inl at ↦ absurd (let both = sym at ∙ outside in cc)
      | inr left ↦ left
    ]

takes_within : (queues : Queues) (members : ℕ) (event : Event) (earlier : List Event) → ShareRule queues members event earlier → Always (ShareRule queues members) earlier → TakesWithin event earlier
takes_within queues members (Take share m low high) earlier rule all =
    let known = member_is_inside queues members m share rule.shape earlier all rule.inside in
    let fair = share_is_dealt queues members share rule.shape earlier all known.0 in
    let number = taken_in (queues.queue_of rule.shape) share (queues.queue_of rule.shape m) earlier in
    (rule.shape, inside_stands m share rule.shape earlier rule.inside, fair.some m number (low, high) known.1 rule.next, fair.within m number (low, high) known.1 rule.next)
takes_within queues members _ earlier rule all = tt

leaves_nothing : (queues : Queues) (members : ℕ) (event : Event) (earlier : List Event) → ShareRule queues members event earlier → Always (ShareRule queues members) earlier → LeavesNothing queues event earlier
leaves_nothing queues members (End share m) earlier rule all = λ shape stands whole.
    let one : shape_at share earlier ≡ Some rule.shape = (member_is_inside queues members m share rule.shape earlier all rule.inside).0 in
    let other : shape_at share earlier ≡ Some shape = (enter_has_its_shape queues members share m shape earlier all stands).1 in
    let same : rule.shape ≡ shape = let both = sym one ∙ other in cc in
    rw (← same) (none_or_cancelled queues members m share earlier all rule whole)
leaves_nothing queues members _ earlier rule all = tt

-- who cancels a share is in it
cancels_cancellable : (queues : Queues) (members : ℕ) (event : Event) (earlier : List Event) → ShareRule queues members event earlier → Always (ShareRule queues members) earlier → CancelsCancellable event earlier
cancels_cancellable queues members (Cancel m (OneShare share)) earlier rule all = (
  rule.shape,
  inside_stands m share rule.shape earlier rule.inside,
  (λ stands. not_both (has_ended share m earlier) (ended_once_left share m earlier stands) (not_ended queues members m share rule.shape earlier all rule.inside)),
  rule.cancellable,
)
cancels_cancellable queues members _ earlier rule all = tt

-- and who leaves it with a piece left leaves a cancelled one
leaves_cancelled : (queues : Queues) (members : ℕ) (event : Event) (earlier : List Event) → ShareRule queues members event earlier → Always (ShareRule queues members) earlier → LeavesCancelled queues event earlier
leaves_cancelled queues members (End share m) earlier rule all = λ shape stands some.
    elim (cases_Bool (share_cancelled share earlier)) [
      | inl is ↦ cancel_stands (OneShare share) earlier is
      | inr whole ↦ absurd (some (leaves_nothing queues members (End share m) earlier rule all shape stands whole))
    ]
leaves_cancelled queues members _ earlier rule all = tt

enters_one_by_one : (queues : Queues) (members : ℕ) (event : Event) (earlier : List Event) → ShareRule queues members event earlier → Always (ShareRule queues members) earlier → EntersOneByOne members event earlier
enters_one_by_one queues members (Enter share m shape) earlier rule all = (rule.member, rule.number, left_before queues members m earlier all rule.outside)
enters_one_by_one queues members _ earlier rule all = tt

ends_inside : (queues : Queues) (members : ℕ) (event : Event) (earlier : List Event) → ShareRule queues members event earlier → Always (ShareRule queues members) earlier → EndsInside event earlier
ends_inside queues members (End share m) earlier rule all = (
  rule.shape,
  inside_stands m share rule.shape earlier rule.inside,
  (λ stands. not_both (has_ended share m earlier) (ended_once_left share m earlier stands) (not_ended queues members m share rule.shape earlier all rule.inside)),
)
ends_inside queues members _ earlier rule all = tt

enters_with_room : (queues : Queues) (members : ℕ) (event : Event) (earlier : List Event) → ShareRule queues members event earlier → Always (ShareRule queues members) earlier → EntersWithRoom members event earlier
enters_with_room queues members (Enter share m shape) earlier rule all =
    λ old e. over_stands members old earlier (room_over members share old earlier e rule.room)
enters_with_room queues members _ earlier rule all = tt

-- the laws of the work-shares, from their rule alone
pub shares_keep : (queues : Queues) (members : ℕ) (h : List Event) → Always (ShareRule queues members) h → ShareLaws queues members h
shares_keep queues members h all = record {
  taken_once = record {
    once = λ share k. taken_once queues members share k h all;
    pieces = always_so (ShareRule queues members) (TakesNext queues) (takes_next queues members) h all;
    within = always_so (ShareRule queues members) TakesWithin (takes_within queues members) h all;
    left = always_so (ShareRule queues members) (LeavesNothing queues) (leaves_nothing queues members) h all;
    order = λ share m q shape stands. taken_front_of_queue queues members share q shape h all (enter_has_its_shape queues members share m shape h all stands).1;
  };
  whole = λ share m shape stands over whole k lt.
      taken_whole queues members share k shape h all (enter_has_its_shape queues members share m shape h all stands).1 (λ x below. ended_once_left share x h (over x below)) whole lt;
  cancelled = always_so (ShareRule queues members) CancelsCancellable (cancels_cancellable queues members) h all;
  left_early = always_so (ShareRule queues members) (LeavesCancelled queues) (leaves_cancelled queues members) h all;
  same_shares = record {
    one_by_one = always_so (ShareRule queues members) (EntersOneByOne members) (enters_one_by_one queues members) h all;
    ends = always_so (ShareRule queues members) EndsInside (ends_inside queues members) h all;
    shapes = λ share m n one other first second.
        let a = (enter_has_its_shape queues members share m one h all first).1 in
        let b = (enter_has_its_shape queues members share n other h all second).1 in cc;
    room = always_so (ShareRule queues members) (EntersWithRoom members) (enters_with_room queues members) h all;
  };
}
