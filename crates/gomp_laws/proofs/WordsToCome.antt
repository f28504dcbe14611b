-- While the executor of a single is in it, its words are still to be put.
use Rattle.std.proofs.Common.{◌≡◌, ℕ, ◌<◌, true, List, [], ◌∷◌, Option, Some, None, refl, ◌∙◌, sym, subst, arith, inl, inr}
use Rattle.std.specs.Prelude.{◌==◌, ◌&&◌, is_some}
use Rattle.std.proofs.lemmas.Bool.{cases_Bool}
use Rattle.gomp_types.specs.declared.shape.Shape.{Shape}
use Rattle.gomp_types.specs.declared.shape.ShareKind.{ShareKind}
use Rattle.gomp_types.specs.declared.shape.ShareKind.TheVariants as kinds
use Rattle.gomp_events.specs.declared.event.Event.{Event}
use Rattle.gomp_events.specs.declared.event.Event.TheVariants.{Enter, Take, Drained, End, Put}
use Rattle.gomp_types.specs.Shapes.{is_single}
use Rattle.gomp_events.specs.Events.{open_share, last_piece, payload_at}
use Rattle.gomp_events.specs.Takes.{next_for, taken_in}
use Rattle.gomp_types.specs.Deals.{schedule}
use Rattle.gomp_events.specs.Laws.{Always, Happened}
use Rattle.gomp_shares.specs.Rules.{ShareRule, MayTake}
use Rattle.gomp_laws.specs.Rules.{TeamRule}
use Rattle.gomp_types.proofs.Booleans.{is_equal, unequal_numbers, same_number, share_is, some_with_one_more}
use Rattle.gomp_shares.proofs.SharesKeep.{member_is_inside}
use Rattle.gomp_shares.proofs.SinglesKeep.{one_only, single_is_done}
use Rattle.gomp_laws.proofs.CopiesKeep.{piece_was_taken, was_put}
use Rattle.gomp_laws.proofs.TeamShares.{share_rules}

-- all members take from the one queue of a single
same_queue : (members x y i : ℕ) (shape : Shape) (h : List Event) → is_single shape.kind ≡ true → next_for (schedule members) shape i x h ≡ next_for (schedule members) shape i y h
same_queue members x y i shape h single = by_kind shape.kind refl
  where
    by_kind : (kind : ShareKind) → shape.kind ≡ kind → next_for (schedule members) shape i x h ≡ next_for (schedule members) shape i y h
    by_kind kinds.Single e = rw e refl
    by_kind kinds.SingleCopy e = rw e refl
    by_kind _ e = absurd (let other = rw e at single in cc)

-- nobody takes the piece of a single that a member has
take_alone : (members t x i low high : ℕ) (shape : Shape) (h : List Event) → Always (ShareRule (schedule members) members) h → open_share x h ≡ Some (i, shape) → is_single shape.kind ≡ true → is_some (last_piece x h) ≡ true →
    MayTake (schedule members) i t low high h → ⊥
take_alone members t x i low high shape h all at single piece may =
    let none = single_is_done members x i shape h all at single piece in
    let own = (member_is_inside (schedule members) members x i shape h all at).0 in
    let its = (member_is_inside (schedule members) members t i may.shape h all may.inside).0 in
    let same : may.shape ≡ shape = let both = sym its ∙ own in cc in
    let next : next_for (schedule members) shape i t h ≡ Some (low, high) = rw (← same) may.next in
    let both = sym next ∙ same_queue members t x i shape h single ∙ none in
    absurd (cc)

-- so one member executes it
pub one_executor : (members m k i : ℕ) (one other : Shape) (h : List Event) → Always (ShareRule (schedule members) members) h → open_share m h ≡ Some (i, one) → open_share k h ≡ Some (i, other) → is_single one.kind ≡ true → is_single other.kind ≡ true →
    is_some (last_piece m h) ≡ true → is_some (last_piece k h) ≡ true → m ≡ k
one_executor members m k i one other [] all at there first second mine its = absurd (cc)
one_executor members m k i one other (Enter share member shape ∷ earlier) all at there first second mine its =
    elim (cases_Bool (member == m)) [
      | inl e ↦ absurd (let none = rw e at mine in cc)
      | inr e ↦ elim (cases_Bool (member == k)) [
        | inl f ↦ absurd (let none = rw f at its in cc)
        | inr f ↦ one_executor members m k i one other earlier all.1 (rw e at at) (rw f at there) first second (rw e at mine) (rw f at its)
      ]
    ]
one_executor members m k i one other (Take share member low high ∷ earlier) all at there first second mine its =
    elim (cases_Bool (member == m)) [
      | inl e ↦ elim (cases_Bool (member == k)) [
        | inl f ↦ sym (is_equal member m e) ∙ is_equal member k f
        | inr f ↦ absurd (take_alone members m k i low high other earlier all.1 there second (rw f at its) (taker members m member share i low high one earlier e at all.0))
      ]
      | inr e ↦ elim (cases_Bool (member == k)) [
        | inl f ↦ absurd (take_alone members k m i low high one earlier all.1 at first (rw e at mine) (taker members k member share i low high other earlier f there all.0))
        | inr f ↦ one_executor members m k i one other earlier all.1 at there first second (rw e at mine) (rw f at its)
      ]
    ]
  where
    taker : (members m member share i low high : ℕ) (shape : Shape) (h : List Event) → (member == m) ≡ true → open_share m h ≡ Some (i, shape) → MayTake (schedule members) share member low high h → MayTake (schedule members) i m low high h
    taker members m member share i low high shape h e at may =
        let who = is_equal member m e in
        let its : open_share m h ≡ Some (share, may.shape) = rw (← who) may.inside in
        let number = (share_is share i may.shape shape (sym its ∙ at)).0 in
        rw (← number, ← who) may
one_executor members m k i one other (Drained share member ∷ earlier) all at there first second mine its =
    elim (cases_Bool (member == m)) [
      | inl e ↦ absurd (let none = rw e at mine in cc)
      | inr e ↦ elim (cases_Bool (member == k)) [
        | inl f ↦ absurd (let none = rw f at its in cc)
        | inr f ↦ one_executor members m k i one other earlier all.1 at there first second (rw e at mine) (rw f at its)
      ]
    ]
one_executor members m k i one other (End share member ∷ earlier) all at there first second mine its =
    elim (cases_Bool (member == m)) [
      | inl e ↦ absurd (let none = rw e at at in cc)
      | inr e ↦ elim (cases_Bool (member == k)) [
        | inl f ↦ absurd (let none = rw f at there in cc)
        | inr f ↦ one_executor members m k i one other earlier all.1 (rw e at at) (rw f at there) first second mine its
      ]
    ]
one_executor members m k i one other (_ ∷ earlier) all at there first second mine its = one_executor members m k i one other earlier all.1 at there first second mine its

-- if words were put, the piece was taken
put_took : (members share n : ℕ) (words : List ℕ) (h : List Event) → Always (TeamRule members) h → Happened (Put share n words) h → (low high : ℕ) × Happened (Take share n low high) h
put_took members share n words [] all put = absurd put
put_took members share n words (Put i member payload ∷ earlier) all (inl e) =
    let number : i ≡ share = cc in
    let who : member ≡ n = cc in
    let taken = piece_was_taken (schedule members) members member i all.0.shape earlier (share_rules members earlier all.1) all.0.inside all.0.executor in
    (taken.0, taken.1, inr (subst (λ (j : ℕ). Happened (Take j n taken.0 taken.1) earlier) number (subst (λ (x : ℕ). Happened (Take i x taken.0 taken.1) earlier) who taken.2)))
put_took members share n words (_ ∷ earlier) all (inl e) = absurd (cc)
put_took members share n words (event ∷ earlier) all (inr put) = let before = put_took members share n words earlier all.1 put in (before.0, before.1, inr before.2)

-- and a piece that was taken counts
took_counts : (queue_of : ℕ → ℕ) (share n low high : ℕ) (h : List Event) → Happened (Take share n low high) h → 0 < taken_in queue_of share (queue_of n) h
took_counts queue_of share n low high [] took = absurd took
took_counts queue_of share n low high (Take i member from to ∷ earlier) (inl e) =
    let number : i ≡ share = cc in
    let who : member ≡ n = cc in
    rw (number, who, same_number share, same_number (queue_of n)) (omega arith)
took_counts queue_of share n low high (_ ∷ earlier) (inl e) = absurd (cc)
took_counts queue_of share n low high (Take i member from to ∷ earlier) (inr took) =
    some_with_one_more (i == share && queue_of member == queue_of n) _ (took_counts queue_of share n low high earlier took)
took_counts queue_of share n low high (_ ∷ earlier) (inr took) = took_counts queue_of share n low high earlier took

-- so nothing is left of a single whose words were put
put_none : (members m i : ℕ) (shape : Shape) (words : List ℕ) (h : List Event) → Always (TeamRule members) h → is_single shape.kind ≡ true → payload_at i h ≡ Some words → next_for (schedule members) shape i m h ≡ None
put_none members m i shape words h all single at = by_kind shape.kind refl
  where
    put : (n : ℕ) × Happened (Put i n words) h
    put = was_put i words h at

    taken : (low high : ℕ) × Happened (Take i put.0 low high) h
    taken = put_took members i put.0 words h all put.1

    by_kind : (kind : ShareKind) → shape.kind ≡ kind → next_for (schedule members) shape i m h ≡ None
    by_kind kinds.Single e = rw e (one_only shape.trips _ (took_counts (λ x. 0) i put.0 taken.0 taken.1 h taken.2))
    by_kind kinds.SingleCopy e = rw e (one_only shape.trips _ (took_counts (λ x. 0) i put.0 taken.0 taken.1 h taken.2))
    by_kind _ e = absurd (let other = rw e at single in cc)

-- no words were put in a single whose executor is in it
abbrev pub WordsToCome : List Event → Type 0
WordsToCome h = (k i : ℕ) (shape : Shape) → open_share k h ≡ Some (i, shape) → is_single shape.kind ≡ true → is_some (last_piece k h) ≡ true → payload_at i h ≡ None

-- an event that puts none keeps it so
abbrev pub PutsNone : Event → Type 0
PutsNone (Put share m payload) = ⊥
PutsNone _ = Unit {0}

pub still_to_come : (members : ℕ) (event : Event) (h : List Event) → PutsNone event → TeamRule members event h → Always (TeamRule members) h → WordsToCome h → WordsToCome (event ∷ h)
still_to_come members (Put share m payload) h none rule all words = absurd none
still_to_come members (Enter share m shape) h none rule all words = λ k i own at single piece.
    elim (cases_Bool (m == k)) [
      | inl e ↦ absurd (let no_piece = rw e at piece in cc)
      | inr e ↦ words k i own (rw e at at) single (rw e at piece)
    ]
still_to_come members (Take share m low high) h none rule all words = λ k i own at single piece.
    elim (cases_Bool (m == k)) [
      | inl e ↦
          let who = is_equal m k e in
          let there : open_share k h ≡ Some (share, rule.takes.shape) = rw (← who) rule.takes.inside in
          let same = share_is share i rule.takes.shape own (sym there ∙ at) in
          let next : next_for (schedule members) own i k h ≡ Some (low, high) = rw (← same.0, ← same.1, ← who) rule.takes.next in
          fresh members k i low high own h all single next (payload_at i h) refl
      | inr e ↦ words k i own at single (rw e at piece)
    ]
  where
    fresh : (members k i low high : ℕ) (own : Shape) (h : List Event) → Always (TeamRule members) h → is_single own.kind ≡ true → next_for (schedule members) own i k h ≡ Some (low, high) → (words : Option (List ℕ)) → payload_at i h ≡ words → words ≡ None
    fresh members k i low high own h all single next None at = refl
    fresh members k i low high own h all single next (Some words) at = absurd (let both = sym next ∙ put_none members k i own words h all single at in cc)
still_to_come members (Drained share m) h none rule all words = λ k i own at single piece.
    elim (cases_Bool (m == k)) [
      | inl e ↦ absurd (let no_piece = rw e at piece in cc)
      | inr e ↦ words k i own at single (rw e at piece)
    ]
still_to_come members (End share m) h none rule all words = λ k i own at single piece.
    elim (cases_Bool (m == k)) [
      | inl e ↦ absurd (let outside = rw e at at in cc)
      | inr e ↦ words k i own (rw e at at) single piece
    ]
still_to_come members _ h none rule all words = λ k i own at single piece. words k i own at single piece

-- and so does an executor that puts its words and leaves
pub put_and_left : (members m i : ℕ) (shape : Shape) (payload : List ℕ) (h : List Event) → Always (TeamRule members) h → open_share m h ≡ Some (i, shape) → is_single shape.kind ≡ true → is_some (last_piece m h) ≡ true → WordsToCome h → WordsToCome (End i m ∷ Put i m payload ∷ h)
put_and_left members m i shape payload h all inside_it its_kind has words = λ k j own at single piece.
    elim (cases_Bool (m == k)) [
      | inl e ↦ absurd (let outside = rw e at at in cc)
      | inr e ↦ elim (cases_Bool (i == j)) [
        | inl f ↦
            let number = is_equal i j f in
            let there : open_share k h ≡ Some (i, own) = rw number (rw e at at) in
            absurd (unequal_numbers m k e (one_executor members m k i shape own h (share_rules members h all) inside_it there its_kind single has piece))
        | inr f ↦ rw f (words k j own (rw e at at) single piece)
      ]
    ]
