-- The rows of the calls on sections.
use Rattle.std.proofs.Common.{◌≡◌, ℕ, zero, suc, ◌+◌, ◌*◌, ◌<◌, true, false, List, [], ◌∷◌, ◌++◌, slice_get, Option, Some, None, refl, ap, sym, ◌∙◌, arith, inl}
use Rattle.std.specs.Prelude.{ℤ, not, map, min}
use Rattle.std.specs.Int.{div_ceil}
use Rattle.std.specs.List.{range_with_len}
use Rattle.gomp_types.specs.declared.loop_desc.EndKind.{EndKind}
use Rattle.gomp_types.specs.declared.loop_desc.EndKind.TheVariants.{Wait as WaitEnd, Nowait, Cancellable}
use Rattle.gomp_types.specs.declared.reply.Reply.{Reply}
use Rattle.gomp_types.specs.declared.reply.Reply.TheVariants.{Chunk, Section, Wait, Cancelled, Created, Run, TaskDone, Dropped, Refused}
use Rattle.gomp_types.specs.declared.shape.Shape.{Shape}
use Rattle.gomp_types.specs.declared.shape.ShareKind.{ShareKind}
use Rattle.gomp_types.specs.declared.shape.ShareKind.TheVariants as kinds
use Rattle.gomp_events.specs.declared.event.Arrival.TheVariants.{ShareEnd}
use Rattle.gomp_events.specs.declared.event.Event.{Event}
use Rattle.gomp_events.specs.declared.event.Event.TheVariants.{Enter}
use Rattle.gomp_types.specs.Pieces.{Piece, dynamic_piece}
use Rattle.gomp_types.specs.Sections.{sections_shape, sections_tests}
use Rattle.gomp_types.specs.Shapes.{is_loop, is_sections, is_copy}
use Rattle.gomp_types.specs.Deals.{schedule}
use Rattle.gomp_events.specs.Takes.{next_for}
use Rattle.gomp_events.specs.Events.{open_share, in_kind, in_part, holds_piece}
use Rattle.gomp_events.specs.Laws.{Always}
use Rattle.gomp_laws.specs.Rules.{TeamRule}
use Rattle.gomp_types.proofs.IterationValues.{step_starts_below}
use Rattle.gomp_types.proofs.Booleans.{or_right, not_both, not_false}
use Rattle.gomp_shares.proofs.PartsKeep.{apart_by, ordered_loop, sections_away}
use Rattle.gomp_laws.proofs.CancelledEnds.{MayEndShare}
use Rattle.gomp_laws.proofs.TeamShares.{share_rules}
use Rattle.gomp_shares.specs.Sections.{DealsSections, section_given, section_next_given, sections_end_tests}
use Rattle.gomp_model.specs.Sections.{sections_start_row, sections_next_row, sections_end_row, sections_end_cancel_row, sections_end_nowait_row}
use Rattle.gomp_model.proofs.Admitted.{by_place_fails}
use Rattle.gomp_laws.proofs.Sound.{AreOwn, own_given, IsSound, quiet, outside_lasts}
use Rattle.gomp_laws.proofs.Starts.{IsShareReply, IsDeal, start_sound}
use Rattle.gomp_laws.proofs.Arrivals.{IsEnd, end_sound, end_arrival_sound}

pub some_not_none : (next : Option Piece) (piece : Piece) → next ≡ None → next ≡ Some piece → ⊥
some_not_none next piece none some = absurd (let e : ◌≡◌ {A = Option Piece} None (Some piece) = sym none ∙ some in cc)

same_section : (next : Option Piece) (k j : ℕ) → next ≡ Some (k, suc k) → next ≡ Some (j, suc j) → Section (suc k) ≡ Section (suc j)
same_section next k j x y =
    let e : ◌≡◌ {A = Option Piece} (Some (k, suc k)) (Some (j, suc j)) = sym x ∙ y in
    let p : ◌≡◌ {A = Piece} (k, suc k) (j, suc j) = cc in
    ap (λ (q : Piece). Section (suc q.0)) p

one_section : (members m : ℕ) (own : Option (ℕ × Shape)) (a b : Reply) (h : List Event) → DealsSections members m own a h → DealsSections members m own b h → a ≡ b
one_section members m None a b h x y = absurd x
one_section members m (Some share) (Section zero) (Section zero) h x y = refl
one_section members m (Some share) (Section zero) (Section (suc j)) h x y = absurd (some_not_none (next_for (schedule members) share.1 share.0 m h) (j, suc j) x y)
one_section members m (Some share) (Section (suc k)) (Section zero) h x y = absurd (some_not_none (next_for (schedule members) share.1 share.0 m h) (k, suc k) y x)
one_section members m (Some share) (Section (suc k)) (Section (suc j)) h x y = same_section (next_for (schedule members) share.1 share.0 m h) k j x y
one_section members m (Some share) (Section zero) _ h x y = absurd y
one_section members m (Some share) (Section (suc k)) _ h x y = absurd y
one_section members m (Some share) _ b h x y = absurd x

section_by_share : (members m : ℕ) (own : Option (ℕ × Shape)) (reply : Reply) (h : List Event) → DealsSections members m own reply h → IsShareReply reply
section_by_share members m None reply h x = absurd x
section_by_share members m (Some share) (Section zero) h x = tt
section_by_share members m (Some share) (Section (suc k)) h x = tt
section_by_share members m (Some share) _ h x = absurd x

section_counts : (members m : ℕ) (own : Option (ℕ × Shape)) (first : ℤ) (count : ℕ) (h : List Event) → DealsSections members m own (Chunk first count) h → 0 < count
section_counts members m None first count h may = absurd may
section_counts members m (Some share) first count h may = absurd may

-- a section of a construct is a piece of one iteration
section_is : (trips s n i : ℕ) (piece : Piece) → s + n ≡ div_ceil trips 1 → slice_get (map (dynamic_piece trips 1) (range_with_len s n)) i ≡ Some piece → piece ≡ (piece.0, suc piece.0)
section_is trips s zero i piece whole at = absurd (cc)
section_is trips s (suc n) zero piece whole at =
    let below : s * 1 < trips = step_starts_below trips 1 s (omega arith) (omega arith) in
    let same : dynamic_piece trips 1 s ≡ piece = let t = at in cc in
    rw (← same) (let high : min trips (s * 1 + 1) ≡ suc (s * 1) = omega arith in rw high refl)
section_is trips s (suc n) (suc i) piece whole at = section_is trips (s + 1) n i piece (omega arith) at

section_reply : Option Piece → Reply
section_reply None = Section zero
section_reply (Some piece) = Section (suc piece.0)

deals_section : (members m : ℕ) (share : ℕ × Shape) (h : List Event) (next : Option Piece) → next_for (schedule members) share.1 share.0 m h ≡ next → ((piece : Piece) → next ≡ Some piece → piece ≡ (piece.0, suc piece.0)) →
    DealsSections members m (Some share) (section_reply next) h
unfolding section_reply
deals_section members m share h None e one = e
deals_section members m share h (Some piece) e one = e ∙ ap Some (one piece refl)

next_piece_is_section : (members m i : ℕ) (shape : Shape) (h : List Event) → shape.kind ≡ kinds.Sections → (piece : Piece) → next_for (schedule members) shape i m h ≡ Some piece → piece ≡ (piece.0, suc piece.0)
next_piece_is_section members m i shape h kind piece at = section_is shape.trips 0 (div_ceil shape.trips 1) _ piece (omega arith) (rw kind at at)

sections_kind : (kind : ShareKind) → is_sections kind ≡ true → kind ≡ kinds.Sections
sections_kind kinds.Sections e = refl
sections_kind _ e = absurd (cc)

section_some : (members m : ℕ) (h : List Event) (own : Option (ℕ × Shape)) → not (in_kind is_sections own) ≡ false → (reply : Reply) × DealsSections members m own reply h
section_some members m h None is = absurd (cc)
section_some members m h (Some share) is =
    let next = next_for (schedule members) share.1 share.0 m h in
    (section_reply next, deals_section members m share h next refl (next_piece_is_section members m share.0 share.1 h (sections_kind share.1.kind (not_false (is_sections share.1.kind) is))))

section_own : (share : ℕ) (shape : Shape) (m : ℕ) (reply : Reply) → AreOwn quiet m (section_given share shape m reply)
section_own share shape m (Section zero) = (refl, tt)
section_own share shape m (Section (suc k)) = (refl, tt)
section_own share shape m _ = tt

section_next_own : (own : Option (ℕ × Shape)) (m : ℕ) (reply : Reply) → AreOwn quiet m (section_next_given own m reply)
section_next_own None m reply = tt
section_next_own (Some share) m reply = section_own share.0 share.1 m reply

section_keeps : (members m share : ℕ) (shape : Shape) (reply : Reply) (before h : List Event) → next_for (schedule members) shape share m h ≡ next_for (schedule members) shape share m before →
    open_share m h ≡ Some (share, shape) → in_part m h ≡ false → (shape.ordered ≡ true → holds_piece m h ≡ false) → DealsSections members m (Some (share, shape)) reply before → Always (TeamRule members) h → Always (TeamRule members) (section_given share shape m reply ++ h)
section_keeps members m share shape (Section zero) before h same at apart held may all = (record { done = record { shape = shape; inside = at; none = same ∙ may; apart = apart }; handed_on = held }, all)
section_keeps members m share shape (Section (suc k)) before h same at apart held may all = (record { takes = record { shape = shape; inside = at; next = same ∙ may; apart = apart }; handed_on = held }, all)
section_keeps members m share shape _ before h same at apart held may all = absurd may

section_next_keeps : (members m : ℕ) (reply : Reply) (h : List Event) (own : Option (ℕ × Shape)) → open_share m h ≡ own → not (in_kind is_sections own) ≡ false → DealsSections members m own reply h → Always (TeamRule members) h → Always (TeamRule members) (section_next_given own m reply ++ h)
section_next_keeps members m reply h None at known may all = absurd may
section_next_keeps members m reply h (Some share) at known may all =
    let sections = not_false (is_sections share.1.kind) known in
    let rules = share_rules members h all in
    let away = sections_away (Some share) sections in
    section_keeps members m share.0 share.1 reply h h refl at (apart_by (schedule members) members m h rules (rw at away))
    (λ ordered. absurd (not_both (is_loop share.1.kind) (ordered_loop (schedule members) members m share.0 share.1 h rules at ordered) away)) may all

sections_wordless : (kind : ShareKind) → is_sections kind ≡ true → is_copy kind ≡ false
sections_wordless kinds.Sections e = refl
sections_wordless _ e = absurd (cc)

sections_may_end : (members m : ℕ) (h : List Event) (own : Option (ℕ × Shape)) → open_share m h ≡ own → not (in_kind is_sections own) ≡ false → Always (TeamRule members) h → MayEndShare m h
sections_may_end members m h None at within all = absurd (cc)
sections_may_end members m h (Some share) at within all =
    let sections = not_false (is_sections share.1.kind) within in record {
      share = share;
      inside = at;
      construct = or_right (is_loop share.1.kind) (is_sections share.1.kind) sections;
      wordless = sections_wordless share.1.kind sections;
      apart = apart_by (schedule members) members m h (share_rules members h all) (rw at (sections_away (Some share) sections));
    }

sections_deal : (count : ℕ) (end_kind : EndKind) → IsDeal (sections_tests count) (sections_shape count end_kind) DealsSections section_given
sections_deal count end_kind =
    let shape = sections_shape count end_kind in record {
      one = one_section;
      by_share = section_by_share;
      some = λ members m share h lt fail.
          let next = next_for (schedule members) shape share m h in
          (section_reply next, deals_section members m (share, shape) h next refl (next_piece_is_section members m share shape h refl));
      counts = λ members m share first count h lt may. absurd may;
      still = λ share m. refl;
      given_own = λ share m reply. section_own share shape m reply;
      moves = λ fail. λ e. cc;
      chunked = omega arith;
      ordered = λ e. absurd (cc);
      unordered = λ fail may. refl;
      keeps = λ members m share reply h fail may at apart held all. section_keeps members m share shape reply h (Enter share m shape ∷ h) refl at apart (λ ordered. held) may all;
      no_memory = refl;
    }

pub sections_start_sound : (count : ℕ) (end_kind : EndKind) → IsSound (sections_start_row count end_kind)
sections_start_sound count end_kind = start_sound (sections_tests count) (sections_shape count end_kind) DealsSections section_given (sections_deal count end_kind)

section_next_still : (own : Option (ℕ × Shape)) (m : ℕ) → section_next_given own m Wait ≡ []
section_next_still None m = refl
section_next_still (Some share) m = refl

pub sections_next_sound : IsSound sections_next_row
sections_next_sound = record {
  decided = λ m p a b x y. inl (one_section p.terms.members m (open_share m p.events) a b p.events x y);
  accepts = λ m p refusal x. section_by_share p.terms.members m (open_share m p.events) (Refused refusal) p.events x;
  answered = λ repeated m p ready all. section_some p.terms.members m p.events (open_share m p.events) (by_place_fails ready.admitted.parts refl refl).0;
  counts = λ repeated m p first count ready all may. section_counts p.terms.members m (open_share m p.events) first count p.events may;
  begins_own = λ m p. tt;
  gives_own = λ m p reply. own_given quiet m reply (section_next_given (open_share m p.events) m reply) (section_next_own (open_share m p.events) m reply);
  begins_keep = λ m p ready all. all;
  gives_keep = λ repeated m p reply ready may all. section_next_keeps p.terms.members m reply p.events (open_share m p.events) refl (by_place_fails ready.admitted.parts refl refl).0 may all;
  still = λ stays m p. (refl, section_next_still (open_share m p.events) m);
  placed = λ stays m h. refl;
  outside = λ arrives m p fail. absurd (cc);
  tells = λ arrives m p reply may. absurd (cc);
  one_pass = λ arrives m p. absurd (cc);
  arrives_there = λ arrives m p. absurd (cc);
  waits_quietly = λ arrives m p. absurd (cc);
  lasts = λ repeated m p ready all may. outside_lasts ready refl (λ arrives fail. fail.0) may;
  waits_for = λ key m p holds may. absurd (cc);
  tells_count = λ key repeated m count p holds ready all may. absurd (cc);
  runs = λ m p task code arg own may. absurd (section_by_share p.terms.members m (open_share m p.events) (Run task code arg own) p.events may);
  ends = λ m p task waiting may. absurd (section_by_share p.terms.members m (open_share m p.events) (TaskDone task waiting) p.events may);
  created = λ repeated m p task ready may. absurd (section_by_share p.terms.members m (open_share m p.events) (Created task) p.events may);
  cancelled = λ m p may. absurd (section_by_share p.terms.members m (open_share m p.events) Cancelled p.events may);
  dropped = λ repeated m p ready all may. absurd (section_by_share p.terms.members m (open_share m p.events) Dropped p.events may);
  allowed = λ cancels m p. absurd (cc);
  no_memory = λ m p. (refl, refl, refl, refl, λ repeated. refl);
  words_keep = λ puts repeated m p reply ready may all. absurd (cc);
}

sections_ends : (kind : EndKind) → IsEnd (sections_end_tests kind)
sections_ends kind = record { inside = λ members m h fail all. sections_may_end members m h (open_share m h) refl fail.0 all; no_memory = λ seen. refl }

pub sections_end_sound : IsSound sections_end_row
sections_end_sound = end_arrival_sound (sections_end_tests WaitEnd) ShareEnd (sections_ends WaitEnd)

pub sections_end_nowait_sound : IsSound sections_end_nowait_row
sections_end_nowait_sound = end_sound (sections_end_tests Nowait) (sections_ends Nowait)

pub sections_end_cancel_sound : IsSound sections_end_cancel_row
sections_end_cancel_sound = end_arrival_sound (sections_end_tests Cancellable) ShareEnd (sections_ends Cancellable)
