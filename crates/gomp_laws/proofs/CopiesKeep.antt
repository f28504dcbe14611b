-- The words of a single are put once, by its executor, and the other members are given these.
use Rattle.std.proofs.Common.{◌≡◌, ℕ, ◌+◌, ◌<◌, arith, List, [], ◌∷◌, Some, None, refl, ◌∙◌, sym, inl, inr, true, false}
use Rattle.std.specs.Prelude.{◌==◌, ◌&&◌, ◌⊎◌, is_some}
use Rattle.std.proofs.lemmas.Bool.{cases_Bool}
use Rattle.gomp_types.specs.declared.shape.Shape.{Shape}
use Rattle.gomp_events.specs.declared.event.Event.{Event}
use Rattle.gomp_events.specs.declared.event.Event.TheVariants.{Enter, Take, Drained, End, Put, Got}
use Rattle.gomp_events.specs.Events.{shares_entered, open_share, last_piece, shape_at, has_ended, payload_at, has_piece, has_words}
use Rattle.gomp_types.specs.Deals.{Queues, schedule}
use Rattle.gomp_events.specs.Laws.{Always, Happened}
use Rattle.gomp_shares.specs.Rules.{ShareRule}
use Rattle.gomp_laws.specs.Rules.{TeamRule}
use Rattle.gomp_laws.specs.Laws.{PutsOnce, GetsWhatWasPut, LeavesWithWords}
use Rattle.gomp_types.proofs.Booleans.{which_branch, is_equal, same_number, share_is, and_left, and_right, or_tells, or_right, not_both}
use Rattle.gomp_events.proofs.ShareReadings.{ended_once_left}
use Rattle.gomp_shares.proofs.SharesKeep.{member_is_inside, inside_stands, enter_has_its_shape, not_ended}

-- what was had is had still
had_later : (share m : ℕ) (event : Event) (h : List Event) → ((payload : List ℕ) × (Happened (Put share m payload) h ⊎ Happened (Got share m payload) h)) → (payload : List ℕ) × (Happened (Put share m payload) (event ∷ h) ⊎ Happened (Got share m payload) (event ∷ h))
had_later share m event h had = (had.0, elim had.1 [ inl put ↦ inl (inr put) | inr got ↦ inr (inr got) ])

-- a member with a piece of its share took one
pub piece_was_taken : (queues : Queues) (members m i : ℕ) (shape : Shape) (h : List Event) → Always (ShareRule queues members) h → open_share m h ≡ Some (i, shape) → is_some (last_piece m h) ≡ true →
    (low high : ℕ) × Happened (Take i m low high) h
piece_was_taken queues members m i shape [] all at piece = absurd (cc)
piece_was_taken queues members m i shape (Enter share member other ∷ earlier) all at piece =
    elim (cases_Bool (member == m)) [
      | inl e ↦ absurd (let none = rw e at piece in cc)
      | inr e ↦ let before = piece_was_taken queues members m i shape earlier all.1 (rw e at at) (rw e at piece) in (before.0, before.1, inr before.2)
    ]
piece_was_taken queues members m i shape (Take share member low high ∷ earlier) all at piece =
    elim (cases_Bool (member == m)) [
      | inl e ↦
          let who = is_equal member m e in
          let there : open_share m earlier ≡ Some (share, all.0.shape) = rw (← who) all.0.inside in
          let number : share ≡ i = (share_is share i all.0.shape shape (sym there ∙ at)).0 in
          (low, high, inl (rw (who, number) refl))
      | inr e ↦ let before = piece_was_taken queues members m i shape earlier all.1 at (rw e at piece) in (before.0, before.1, inr before.2)
    ]
piece_was_taken queues members m i shape (Drained share member ∷ earlier) all at piece =
    elim (cases_Bool (member == m)) [
      | inl e ↦ absurd (let none = rw e at piece in cc)
      | inr e ↦ let before = piece_was_taken queues members m i shape earlier all.1 at (rw e at piece) in (before.0, before.1, inr before.2)
    ]
piece_was_taken queues members m i shape (End share member ∷ earlier) all at piece =
    elim (cases_Bool (member == m)) [
      | inl e ↦ absurd (let none = rw e at at in cc)
      | inr e ↦ let before = piece_was_taken queues members m i shape earlier all.1 (rw e at at) piece in (before.0, before.1, inr before.2)
    ]
piece_was_taken queues members m i shape (_ ∷ earlier) all at piece = let before = piece_was_taken queues members m i shape earlier all.1 at piece in (before.0, before.1, inr before.2)

-- if no words are, none were put
never_put : (share n : ℕ) (words : List ℕ) (h : List Event) → payload_at share h ≡ None → Happened (Put share n words) h → ⊥
never_put share n words [] none put = put
never_put share n words (Put i member payload ∷ earlier) none (inl e) = let number : i ≡ share = cc in absurd (let same = rw (number, same_number share) at none in cc)
never_put share n words (Put i member payload ∷ earlier) none (inr put) =
    elim (which_branch (i == share) (Some payload) (payload_at share earlier) None none) [
      | inl e ↦ absurd (let same = e.1 in cc)
      | inr e ↦ never_put share n words earlier e.1 put
    ]
never_put share n words (_ ∷ earlier) none (inl e) = absurd (cc)
never_put share n words (_ ∷ earlier) none (inr put) = never_put share n words earlier none put

-- who took no piece has taken none
pub never_took : (share m low high : ℕ) (h : List Event) → has_piece share m h ≡ false → Happened (Take share m low high) h → ⊥
never_took share m low high [] none took = took
never_took share m low high (Take i member from to ∷ earlier) none (inl e) =
    let number : i ≡ share = cc in
    let who : member ≡ m = cc in
    absurd (let some = rw (number, who, same_number share, same_number m) at none in cc)
never_took share m low high (Take i member from to ∷ earlier) none (inr took) =
    elim (cases_Bool (has_piece share m earlier)) [
      | inl e ↦ absurd (not_both _ (or_right (i == share && member == m) (has_piece share m earlier) e) none)
      | inr e ↦ never_took share m low high earlier e took
    ]
never_took share m low high (_ ∷ earlier) none (inl e) = absurd (cc)
never_took share m low high (_ ∷ earlier) none (inr took) = never_took share m low high earlier none took

-- a member has taken no piece of the share that it comes to next
took_below : (queues : Queues) (members m i : ℕ) (h : List Event) → Always (ShareRule queues members) h → has_piece i m h ≡ true → i < shares_entered m h
took_below queues members m i [] all e = absurd (cc)
took_below queues members m i (Enter share member shape ∷ earlier) all e =
    let before = took_below queues members m i earlier all.1 e in
    elim (cases_Bool (member == m)) [ inl own ↦ rw own (omega arith) | inr other ↦ rw other before ]
took_below queues members m i (Take share member low high ∷ earlier) all e =
    elim (or_tells (share == i && member == m) (has_piece i m earlier) e) [
      | inl own ↦
          let number = is_equal share i (and_left (share == i) (member == m) own) in
          let who = is_equal member m (and_right (share == i) (member == m) own) in
          let count = (member_is_inside queues members member share all.0.shape earlier all.1 all.0.inside).2 in
          let own_count : shares_entered m earlier ≡ share + 1 = rw (← who) count in
          omega (arith, number)
      | inr before ↦ took_below queues members m i earlier all.1 before
    ]
took_below queues members m i (_ ∷ earlier) all e = took_below queues members m i earlier all.1 e

pub takes_below : (queues : Queues) (members m : ℕ) (h : List Event) → Always (ShareRule queues members) h → has_piece (shares_entered m h) m h ≡ false
takes_below queues members m h all =
    elim (cases_Bool (has_piece (shares_entered m h) m h)) [
      | inl e ↦ absurd (let less = took_below queues members m (shares_entered m h) h all e in omega arith)
      | inr e ↦ e
    ]

-- who is in a share has not left it
not_left : (members m share : ℕ) (shape : Shape) (h : List Event) → Always (ShareRule (schedule members) members) h → open_share m h ≡ Some (share, shape) → Happened (End share m) h → ⊥
not_left members m share shape h all at left = not_both (has_ended share m h) (ended_once_left share m h left) (not_ended (schedule members) members m share shape h all at)

-- if words are, they were put
pub was_put : (share : ℕ) (words : List ℕ) (h : List Event) → payload_at share h ≡ Some words → (n : ℕ) × Happened (Put share n words) h
was_put share words [] at = absurd (cc)
was_put share words (Put i member payload ∷ earlier) at =
    elim (which_branch (i == share) (Some payload) (payload_at share earlier) (Some words) at) [
      | inl e ↦ (member, inl (let number = is_equal i share e.0 in let same : payload ≡ words = let t = e.1 in cc in rw (number, same) refl))
      | inr e ↦ let before = was_put share words earlier e.1 in (before.0, inr before.1)
    ]
was_put share words (_ ∷ earlier) at = let before = was_put share words earlier at in (before.0, inr before.1)

-- who has words has put them, or was given them
had_words : (share m : ℕ) (h : List Event) → has_words share m h ≡ true → (payload : List ℕ) × (Happened (Put share m payload) h ⊎ Happened (Got share m payload) h)
had_words share m [] e = absurd (cc)
had_words share m (Put i member payload ∷ earlier) e =
    elim (or_tells (i == share && member == m) (has_words share m earlier) e) [
      | inl own ↦ (payload, inl (inl (by_own i share member m own)))
      | inr before ↦ had_later share m (Put i member payload) earlier (had_words share m earlier before)
    ]
  where
    by_own : (i share member m : ℕ) → (i == share && member == m) ≡ true → ◌≡◌ {A = Event} (Put i member payload) (Put share m payload)
    by_own i share member m own = rw (is_equal i share (and_left (i == share) (member == m) own), is_equal member m (and_right (i == share) (member == m) own)) refl
had_words share m (Got i member payload ∷ earlier) e =
    elim (or_tells (i == share && member == m) (has_words share m earlier) e) [
      | inl own ↦ (payload, inr (inl (by_own i share member m own)))
      | inr before ↦ had_later share m (Got i member payload) earlier (had_words share m earlier before)
    ]
  where
    by_own : (i share member m : ℕ) → (i == share && member == m) ≡ true → ◌≡◌ {A = Event} (Got i member payload) (Got share m payload)
    by_own i share member m own = rw (is_equal i share (and_left (i == share) (member == m) own), is_equal member m (and_right (i == share) (member == m) own)) refl
had_words share m (event ∷ earlier) e = had_later share m event earlier (had_words share m earlier e)

pub puts_once : (members : ℕ) (event : Event) (earlier : List Event) → TeamRule members event earlier → Always (ShareRule (schedule members) members) earlier → PutsOnce event earlier
puts_once members (Put share m payload) earlier rule all =
    let taken = piece_was_taken (schedule members) members m share rule.shape earlier all rule.inside rule.executor in
    (rule.shape, taken.0, taken.1, rule.copies, inside_stands m share rule.shape earlier rule.inside, not_left members m share rule.shape earlier all rule.inside, taken.2, λ n other put. never_put share n other earlier rule.once put)
puts_once members _ earlier rule all = tt

pub gets_what_was_put : (members : ℕ) (event : Event) (earlier : List Event) → TeamRule members event earlier → Always (ShareRule (schedule members) members) earlier → GetsWhatWasPut event earlier
gets_what_was_put members (Got share m payload) earlier rule all =
    let put = was_put share payload earlier rule.words in
    (rule.shape, put.0, inside_stands m share rule.shape earlier rule.inside, not_left members m share rule.shape earlier all rule.inside, (λ low high took. never_took share m low high earlier rule.other took), put.1)
gets_what_was_put members _ earlier rule all = tt

pub leaves_with_words : (members : ℕ) (event : Event) (earlier : List Event) → TeamRule members event earlier → Always (ShareRule (schedule members) members) earlier → LeavesWithWords event earlier
leaves_with_words members (End share m) earlier rule all = λ shape stands copies.
    let one : shape_at share earlier ≡ Some rule.done.shape = (member_is_inside (schedule members) members m share rule.done.shape earlier all rule.done.inside).0 in
    let other : shape_at share earlier ≡ Some shape = (enter_has_its_shape (schedule members) members share m shape earlier all stands).1 in
    let same : rule.done.shape ≡ shape = let both = sym one ∙ other in cc in
    had_words share m earlier (rule.words (rw same copies))
leaves_with_words members _ earlier rule all = tt
