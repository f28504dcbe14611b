-- The rows of the calls on singles.
use Rattle.std.proofs.Common.{◌≡◌, ℕ, zero, suc, Bool, true, false, List, [], ◌∷◌, ◌++◌, slice_get, Option, Some, None, refl, ap, sym, ◌∙◌, subst, arith, inl, inr}
use Rattle.std.specs.Prelude.{not, is_some, ◌⊎◌}
use Rattle.gomp_types.specs.declared.reply.Reply.{Reply}
use Rattle.gomp_types.specs.declared.reply.Reply.TheVariants.{Executor, Copied, Finished, Wait}
use Rattle.gomp_types.specs.declared.shape.Shape.{Shape}
use Rattle.gomp_types.specs.declared.shape.ShareKind.TheVariants as kinds
use Rattle.gomp_events.specs.declared.event.Event.{Event}
use Rattle.gomp_events.specs.declared.event.Event.TheVariants.{Enter, Take, Drained, End, Put, Got}
use Rattle.gomp_types.specs.Pieces.{whole_piece}
use Rattle.gomp_types.specs.Singles.{single_shape}
use Rattle.gomp_types.specs.Shapes.{is_loop, is_copy}
use Rattle.gomp_types.specs.Deals.{schedule}
use Rattle.gomp_events.specs.Takes.{next_for, taken_in}
use Rattle.gomp_events.specs.Events.{open_share, share_number, in_kind, last_piece, in_part, holds_piece, has_piece, payload_at}
use Rattle.gomp_events.specs.Laws.{Always}
use Rattle.gomp_laws.specs.Rules.{TeamRule, MayPut}
use Rattle.gomp_shares.specs.Rules.{HasNone, MayLeaveShare}
use Rattle.gomp_events.specs.Seen.{seen_of}
use Rattle.gomp_types.proofs.Booleans.{and_left, and_right, not_both, not_false, same_number, copy_is_single}
use Rattle.gomp_shares.proofs.SinglesKeep.{single_is_done}
use Rattle.gomp_laws.proofs.CopiesKeep.{takes_below}
use Rattle.gomp_shares.proofs.PartsKeep.{apart_by, ordered_loop, no_single_loop, copy_away}
use Rattle.gomp_laws.proofs.WordsToCome.{WordsToCome, put_and_left}
use Rattle.gomp_laws.proofs.TeamShares.{share_rules}
use Rattle.gomp_shares.specs.Singles.{DealsSingle, DealsCopy, single_given, copy_given, is_executor, words_put}
use Rattle.gomp_model.specs.Past.{Past}
use Rattle.gomp_model.specs.Row.{unless_repeated}
use Rattle.gomp_model.specs.Singles.{single_start_row, single_copy_start_row, single_copy_end_row}
use Rattle.gomp_model.proofs.Admitted.{by_place_fails}
use Rattle.gomp_laws.proofs.Sound.{quiet, AreOwn, IsAdmittedMember, IsSound}
use Rattle.gomp_laws.proofs.Starts.{IsShareReply, IsDeal, start_sound}
use Rattle.gomp_laws.proofs.Sections.{some_not_none}

same_words : (words : Option (List ℕ)) (p q : List ℕ) → words ≡ Some p → words ≡ Some q → Copied p ≡ Copied q
same_words words p q x y = let e : Some p ≡ Some q = sym x ∙ y in let same : p ≡ q = cc in ap Copied same

no_words : (words : Option (List ℕ)) (p : List ℕ) → words ≡ Some p → words ≡ None → ⊥
no_words words p some none = absurd (let e : ◌≡◌ {A = Option (List ℕ)} None (Some p) = sym none ∙ some in cc)

one_single : (members m : ℕ) (own : Option (ℕ × Shape)) (a b : Reply) (h : List Event) → DealsSingle members m own a h → DealsSingle members m own b h → a ≡ b
one_single members m None a b h x y = absurd x
one_single members m (Some share) (Executor true) (Executor true) h x y = refl
one_single members m (Some share) (Executor false) (Executor false) h x y = refl
one_single members m (Some share) (Executor true) (Executor false) h x y = absurd (some_not_none (next_for (schedule members) share.1 share.0 m h) (0, 1) y x)
one_single members m (Some share) (Executor false) (Executor true) h x y = absurd (some_not_none (next_for (schedule members) share.1 share.0 m h) (0, 1) x y)
one_single members m (Some share) (Executor true) _ h x y = absurd y
one_single members m (Some share) (Executor false) _ h x y = absurd y
one_single members m (Some share) _ b h x y = absurd x

one_copy : (members m : ℕ) (own : Option (ℕ × Shape)) (a b : Reply) (h : List Event) → DealsCopy members m own a h → DealsCopy members m own b h → a ≡ b
one_copy members m None a b h x y = absurd x
one_copy members m (Some share) (Executor true) (Executor true) h x y = refl
one_copy members m (Some share) Wait Wait h x y = refl
one_copy members m (Some share) (Copied p) (Copied q) h x y = same_words (payload_at share.0 h) p q x.1 y.1
one_copy members m (Some share) (Executor true) (Copied q) h x y = absurd (some_not_none (next_for (schedule members) share.1 share.0 m h) (0, 1) y.0 x)
one_copy members m (Some share) (Executor true) Wait h x y = absurd (some_not_none (next_for (schedule members) share.1 share.0 m h) (0, 1) y.0 x)
one_copy members m (Some share) (Copied p) (Executor true) h x y = absurd (some_not_none (next_for (schedule members) share.1 share.0 m h) (0, 1) x.0 y)
one_copy members m (Some share) (Copied p) Wait h x y = absurd (no_words (payload_at share.0 h) p x.1 y.1)
one_copy members m (Some share) Wait (Executor true) h x y = absurd (some_not_none (next_for (schedule members) share.1 share.0 m h) (0, 1) x.0 y)
one_copy members m (Some share) Wait (Copied q) h x y = absurd (no_words (payload_at share.0 h) q y.1 x.1)
one_copy members m (Some share) (Executor true) _ h x y = absurd y
one_copy members m (Some share) (Copied p) _ h x y = absurd y
one_copy members m (Some share) Wait _ h x y = absurd y
one_copy members m (Some share) _ b h x y = absurd x

single_by_share : (members m : ℕ) (share : Option (ℕ × Shape)) (reply : Reply) (h : List Event) → DealsSingle members m share reply h → IsShareReply reply
single_by_share members m None reply h x = absurd x
single_by_share members m (Some share) (Executor executes) h x = tt
single_by_share members m (Some share) _ h x = absurd x

copy_by_share : (members m : ℕ) (share : Option (ℕ × Shape)) (reply : Reply) (h : List Event) → DealsCopy members m share reply h → IsShareReply reply
copy_by_share members m None reply h x = absurd x
copy_by_share members m (Some share) (Executor executes) h x = tt
copy_by_share members m (Some share) (Copied payload) h x = tt
copy_by_share members m (Some share) Wait h x = tt
copy_by_share members m (Some share) _ h x = absurd x

-- a single has its piece, or none
single_next : (taken : ℕ) → (slice_get (whole_piece 1) taken ≡ Some (0, 1)) ⊎ (slice_get (whole_piece 1) taken ≡ None)
single_next zero = inl refl
single_next (suc taken) = inr refl

single_some : (members m share : ℕ) (h : List Event) → (reply : Reply) × DealsSingle members m (Some (share, single_shape false)) reply h
single_some members m share h = elim (single_next (taken_in (λ k. 0) share 0 h)) [ inl next ↦ (Executor true, next) | inr none ↦ (Executor false, none) ]

copied_some : (members m share : ℕ) (h : List Event) (words : Option (List ℕ)) → next_for (schedule members) (single_shape true) share m h ≡ None → payload_at share h ≡ words → (reply : Reply) × DealsCopy members m (Some (share, single_shape true)) reply h
copied_some members m share h None none at = (Wait, (none, at))
copied_some members m share h (Some words) none at = (Copied words, (none, at))

copy_some : (members m share : ℕ) (h : List Event) → (reply : Reply) × DealsCopy members m (Some (share, single_shape true)) reply h
copy_some members m share h = elim (single_next (taken_in (λ k. 0) share 0 h)) [ inl next ↦ (Executor true, next) | inr none ↦ copied_some members m share h (payload_at share h) none refl ]

single_own : (share m : ℕ) (shape : Shape) (reply : Reply) → AreOwn quiet m (single_given share shape m reply)
single_own share m shape (Executor true) = (refl, (refl, tt))
single_own share m shape (Executor false) = (refl, (refl, tt))
single_own share m shape _ = tt

copy_own : (share m : ℕ) (shape : Shape) (reply : Reply) → AreOwn quiet m (copy_given share shape m reply)
copy_own share m shape (Executor true) = (refl, tt)
copy_own share m shape (Copied payload) = (refl, (refl, (refl, tt)))
copy_own share m shape _ = tt

-- What the replies give keeps the rule

single_keeps : (members m share : ℕ) (reply : Reply) (h : List Event) → DealsSingle members m (Some (share, single_shape false)) reply h → open_share m (Enter share m (single_shape false) ∷ h) ≡ Some (share, single_shape false) →
    in_part m (Enter share m (single_shape false) ∷ h) ≡ false → holds_piece m (Enter share m (single_shape false) ∷ h) ≡ false → Always (TeamRule members) (Enter share m (single_shape false) ∷ h) →
    Always (TeamRule members) (single_given share (single_shape false) m reply ++ (Enter share m (single_shape false) ∷ h))
single_keeps members m share (Executor true) h may at apart held all =
    let shape = single_shape false in
    let now : List Event = Take share m 0 1 ∷ Enter share m shape ∷ h in
    let rules : Always (TeamRule members) now = (record { takes = record { shape = shape; inside = at; next = may; apart = apart }; handed_on = λ ordered. held }, all) in
    let done : MayLeaveShare (schedule members) share m now = record {
      shape = shape;
      inside = at;
      done = inl (single_is_done members m share shape now (share_rules members now rules) at refl (rw (same_number m) refl));
      apart = apart;
    } in (record { done = done; words = λ copies. absurd (cc); handed_on = λ ordered. absurd (cc) }, rules)
single_keeps members m share (Executor false) h may at apart held all =
    let shape = single_shape false in
    let done : MayLeaveShare (schedule members) share m (Drained share m ∷ Enter share m shape ∷ h) = record { shape = shape; inside = at; done = inl may; apart = apart } in (
      record { done = done; words = λ copies. absurd (cc); handed_on = λ ordered. absurd (cc) },
      (record { done = record { shape = shape; inside = at; none = may; apart = apart }; handed_on = λ ordered. held }, all),
    )
single_keeps members m share _ h may at apart held all = absurd may

copy_keeps : (members m share : ℕ) (reply : Reply) (h : List Event) → DealsCopy members m (Some (share, single_shape true)) reply h → open_share m (Enter share m (single_shape true) ∷ h) ≡ Some (share, single_shape true) →
    in_part m (Enter share m (single_shape true) ∷ h) ≡ false → holds_piece m (Enter share m (single_shape true) ∷ h) ≡ false → Always (TeamRule members) (Enter share m (single_shape true) ∷ h) →
    Always (TeamRule members) (copy_given share (single_shape true) m reply ++ (Enter share m (single_shape true) ∷ h))
copy_keeps members m share (Executor true) h may at apart held all =
    (record { takes = record { shape = single_shape true; inside = at; next = may; apart = apart }; handed_on = λ ordered. held }, all)
copy_keeps members m share Wait h may at apart held all = all
copy_keeps members m share (Copied payload) h may at apart held all =
    let shape = single_shape true in
    let drained : HasNone (schedule members) share m (Enter share m shape ∷ h) = record { shape = shape; inside = at; none = may.0; apart = apart } in
    let done : MayLeaveShare (schedule members) share m (Got share m payload ∷ Drained share m ∷ Enter share m shape ∷ h) = record { shape = shape; inside = at; done = inl may.0; apart = apart } in
    let below : has_piece share m h ≡ false = subst (λ (i : ℕ). has_piece i m h ≡ false) (sym all.0.number) (takes_below (schedule members) members m h (share_rules members h all.1)) in (
      record { done = done; words = λ copies. rw (same_number share, same_number m) refl; handed_on = λ ordered. absurd (cc) },
      (record { shape = shape; inside = at; other = below; words = may.1 }, (record { done = drained; handed_on = λ ordered. held }, all)),
    )
copy_keeps members m share _ h may at apart held all = absurd may

single_deal : IsDeal [] (single_shape false) DealsSingle single_given
single_deal = record {
  one = one_single;
  by_share = single_by_share;
  some = λ members m share h lt fail. single_some members m share h;
  counts = λ members m share first count h lt may. absurd may;
  still = λ share m. refl;
  given_own = λ share m reply. single_own share m (single_shape false) reply;
  moves = λ fail. λ e. cc;
  chunked = omega arith;
  ordered = λ e. absurd (cc);
  unordered = λ fail may. refl;
  keeps = λ members m share reply h fail may at apart held all. single_keeps members m share reply h may at apart held all;
  no_memory = refl;
}

copy_deal : IsDeal [] (single_shape true) DealsCopy copy_given
copy_deal = record {
  one = one_copy;
  by_share = copy_by_share;
  some = λ members m share h lt fail. copy_some members m share h;
  counts = λ members m share first count h lt may. absurd may;
  still = λ share m. refl;
  given_own = λ share m reply. copy_own share m (single_shape true) reply;
  moves = λ fail. λ e. cc;
  chunked = omega arith;
  ordered = λ e. absurd (cc);
  unordered = λ fail may. refl;
  keeps = λ members m share reply h fail may at apart held all. copy_keeps members m share reply h may at apart held all;
  no_memory = refl;
}

pub single_start_sound : IsSound single_start_row
single_start_sound = start_sound [] (single_shape false) DealsSingle single_given single_deal

pub single_copy_start_sound : IsSound single_copy_start_row
single_copy_start_sound = start_sound [] (single_shape true) DealsCopy copy_given copy_deal

-- The executor's end

words_to_come : (m : ℕ) (h : List Event) (own : Option (ℕ × Shape)) → open_share m h ≡ own → in_kind is_copy own ≡ true → is_some (last_piece m h) ≡ true → WordsToCome h → payload_at (share_number own) h ≡ None
words_to_come m h None at copies piece words = absurd (cc)
words_to_come m h (Some share) at copies piece words = words m share.0 share.1 at (copy_is_single share.1.kind copies) piece

put_keeps : (members m : ℕ) (payload : List ℕ) (h : List Event) (own : Option (ℕ × Shape)) → open_share m h ≡ own → in_kind is_copy own ≡ true → is_some (last_piece m h) ≡ true → WordsToCome h → Always (TeamRule members) h →
    Always (TeamRule members) (End (share_number own) m ∷ Put (share_number own) m payload ∷ h)
put_keeps members m payload h None at copies piece words all = absurd (cc)
put_keeps members m payload h (Some share) at copies piece words all =
    let rules = share_rules members h all in
    let single = copy_is_single share.1.kind copies in
    let put : MayPut share.0 m h = record { shape = share.1; inside = at; copies = copies; executor = piece; once = words_to_come m h (Some share) at copies piece words } in
    let now : List Event = Put share.0 m payload ∷ h in
    let done : MayLeaveShare (schedule members) share.0 m now = record {
      shape = share.1;
      inside = at;
      done = inl (single_is_done members m share.0 share.1 h rules at single piece);
      apart = apart_by (schedule members) members m h rules (rw at (copy_away (Some share) copies));
    } in (
      record {
        done = done;
        words = λ copies. rw (same_number share.0, same_number m) refl;
        handed_on = λ ordered. absurd (not_both (is_loop share.1.kind) (ordered_loop (schedule members) members m share.0 share.1 h rules at ordered) (no_single_loop share.1.kind single));
      },
      (put, all),
    )

put_words : (members m : ℕ) (payload : List ℕ) (h : List Event) (own : Option (ℕ × Shape)) → open_share m h ≡ own → in_kind is_copy own ≡ true → is_some (last_piece m h) ≡ true → Always (TeamRule members) h → WordsToCome h →
    WordsToCome (End (share_number own) m ∷ Put (share_number own) m payload ∷ h)
put_words members m payload h None at copies piece all words = absurd (cc)
put_words members m payload h (Some share) at copies piece all words = put_and_left members m share.0 share.1 payload h all at (copy_is_single share.1.kind copies) piece words

is_its_executor : (m : ℕ) (h : List Event) → not (is_executor (seen_of m h)) ≡ false → (in_kind is_copy (open_share m h) ≡ true) × (is_some (last_piece m h) ≡ true)
is_its_executor m h e =
    let is = not_false (is_executor (seen_of m h)) e in
    (and_left (in_kind is_copy (open_share m h)) (is_some (last_piece m h)) is, and_right (in_kind is_copy (open_share m h)) (is_some (last_piece m h)) is)

end_words : (payload : List ℕ) (repeated : Bool) (m : ℕ) (p : Past) → IsAdmittedMember (single_copy_end_row payload) repeated m p → Always (TeamRule p.terms.members) p.events → WordsToCome p.events → WordsToCome (unless_repeated (words_put payload m p.events) repeated ++ p.events)
end_words payload true m p ready all words = words
end_words payload false m p ready all words =
    let is = is_its_executor m p.events (by_place_fails ready.admitted.parts refl refl).0 in put_words p.terms.members m payload p.events (open_share m p.events) refl is.0 is.1 all words

pub single_copy_end_sound : (payload : List ℕ) → IsSound (single_copy_end_row payload)
single_copy_end_sound payload = record {
  decided = λ m p a b x y. inl (x ∙ sym y);
  accepts = λ m p refusal x. cc;
  answered = λ repeated m p ready all. (Finished, refl);
  counts = λ repeated m p first count ready all may. absurd (cc);
  begins_own = λ m p. (refl, ((refl, refl), tt));
  gives_own = λ m p reply. tt;
  begins_keep = λ m p ready all.
      let is = is_its_executor m p.events (by_place_fails ready.admitted.parts refl refl).0 in put_keeps p.terms.members m payload p.events (open_share m p.events) refl is.0 is.1 ready.words all;
  gives_keep = λ repeated m p reply ready may all. all;
  still = λ stays m p. absurd (cc);
  placed = λ stays m h. refl;
  outside = λ arrives m p fail. absurd (cc);
  tells = λ arrives m p reply may. absurd (cc);
  one_pass = λ arrives m p. absurd (cc);
  arrives_there = λ arrives m p. absurd (cc);
  waits_quietly = λ arrives m p. absurd (cc);
  lasts = λ repeated m p ready all may. absurd (cc);
  waits_for = λ key m p holds may. absurd (cc);
  tells_count = λ key repeated m count p holds ready all may. absurd (cc);
  runs = λ m p task code arg own may. absurd (cc);
  ends = λ m p task waiting may. absurd (cc);
  created = λ repeated m p task ready may. absurd (cc);
  cancelled = λ m p may. absurd (cc);
  dropped = λ repeated m p ready all may. absurd (cc);
  allowed = λ cancels m p. absurd (cc);
  no_memory = λ m p. (refl, refl, refl, refl, λ repeated. refl);
  words_keep = λ puts repeated m p reply ready may all. end_words payload repeated m p ready all ready.words;
}
