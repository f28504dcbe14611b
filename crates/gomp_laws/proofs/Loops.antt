-- The rows of the calls on loops.
use Rattle.std.proofs.Common.{◌≡◌, ℕ, ◌+◌, ◌-◌, ◌<◌, Bool, true, false, List, [], ◌∷◌, ◌++◌, Option, Some, None, refl, ap, sym, ◌∙◌, arith, inl, inr}
use Rattle.std.specs.Prelude.{ℤ, pos, ◌≢◌, ◌&&◌, not, if◌then◌else◌}
use Rattle.std.specs.Ordering.{int_eq}
use Rattle.std.proofs.lemmas.Int.{ints}
use Rattle.std.proofs.lemmas.Bool.Decides.{nat_tests}
use Rattle.std.proofs.lemmas.Bool.{cases_Bool}
use Rattle.gomp_types.specs.declared.loop_desc.LoopDesc.{LoopDesc}
use Rattle.gomp_types.specs.declared.loop_desc.EndKind.{EndKind}
use Rattle.gomp_types.specs.declared.loop_desc.EndKind.TheVariants.{Wait as WaitEnd, Nowait, Cancellable}
use Rattle.gomp_types.specs.declared.reply.Reply.{Reply}
use Rattle.gomp_types.specs.declared.reply.Reply.TheVariants.{Chunk, NoChunk, Wait, Cancelled, Created, Run, TaskDone, Dropped, Refused}
use Rattle.gomp_types.specs.declared.shape.Shape.{Shape}
use Rattle.gomp_types.specs.declared.shape.ShareKind.{ShareKind}
use Rattle.gomp_types.specs.declared.shape.ShareKind.TheVariants as kinds
use Rattle.gomp_events.specs.declared.event.Arrival.TheVariants.{ShareEnd}
use Rattle.gomp_events.specs.declared.event.Event.{Event}
use Rattle.gomp_events.specs.declared.event.Event.TheVariants.{Enter, HandOn}
use Rattle.gomp_types.specs.Iterations.{may_lose_order, trip_tests, loop_tests}
use Rattle.gomp_types.specs.declared.refusal.Refusal.TheVariants.{OrderedLoop}
use Rattle.gomp_types.specs.Values.{value_at, iteration_at}
use Rattle.gomp_types.specs.Pieces.{Piece, shape_of}
use Rattle.gomp_types.specs.Shapes.{is_loop, is_sections, is_copy, same_end}
use Rattle.gomp_types.specs.Deals.{IsDealt, schedule}
use Rattle.gomp_events.specs.Takes.{next_for, taken_in}
use Rattle.gomp_events.specs.Events.{open_share, in_kind, in_part, holds_piece}
use Rattle.gomp_events.specs.Ordered.{has_turn, last_number, must_wait}
use Rattle.gomp_events.specs.Laws.{Always}
use Rattle.gomp_laws.specs.Rules.{TeamRule}
use Rattle.gomp_shares.specs.Rules.{MayHandOn}
use Rattle.gomp_types.proofs.IterationValues.{iteration_at-value_at, chunk_some, one_fails}
use Rattle.gomp_types.proofs.Booleans.{or_left, not_both, not_false, same_number}
use Rattle.gomp_types.proofs.LeastTests.{fail_later}
use Rattle.gomp_types.proofs.Dealing.{schedule_deals}
use Rattle.gomp_shares.proofs.SharesKeep.{member_is_inside, share_is_dealt}
use Rattle.gomp_shares.proofs.PartsKeep.{loop_is_loop}
use Rattle.gomp_laws.proofs.Cancels.{waits_uncancelled_sound}
use Rattle.gomp_laws.proofs.CancelledEnds.{MayEndShare}
use Rattle.gomp_laws.proofs.TeamShares.{share_rules}
use Rattle.gomp_shares.proofs.OrWaits.{each_answer_so, may_be_answered, may_not_waits, next_is_dealt, one_answer_or_wait}
use Rattle.gomp_shares.specs.Loops.{IsChunk, next_tests, end_tests, DealsOut, DealsNext, piece_given, handed_on, next_given}
use Rattle.gomp_model.specs.Row.{Row, outside_row}
use Rattle.gomp_model.specs.Loops.{loop_start_row, loop_next_row, loop_end_row, loop_end_cancel_row, loop_end_nowait_row}
use Rattle.gomp_model.proofs.Admitted.{by_place_fails}
use Rattle.gomp_laws.proofs.Sound.{AreOwn, own_append, own_given, IsSound, quiet, outside_lasts}
use Rattle.gomp_laws.proofs.CallsKeep.{regroup_rules}
use Rattle.gomp_laws.proofs.Starts.{IsShareReply, IsDeal, start_sound}
use Rattle.gomp_laws.proofs.Arrivals.{IsEnd, end_sound, end_arrival_sound}

same_chunk : (shape : Shape) (next : Option Piece) (f g : ℤ) (c d : ℕ) → IsChunk shape next f c → IsChunk shape next g d → Chunk f c ≡ Chunk g d
same_chunk shape None f g c d x y = absurd x
same_chunk shape (Some piece) f g c d x y =
    let first : f ≡ g = x.0 ∙ sym y.0 in
    let count : c ≡ d = (let a = x.1 in let b = y.1 in omega arith) in
    rw (first, count) refl

none_no_chunk : (shape : Shape) (next : Option Piece) (f : ℤ) (c : ℕ) → next ≡ None → IsChunk shape next f c → ⊥
none_no_chunk shape None f c e x = x
none_no_chunk shape (Some piece) f c e x = absurd (cc)

one_dealt : (members m : ℕ) (own : Option (ℕ × Shape)) (a b : Reply) (h : List Event) → DealsOut members m own a h → DealsOut members m own b h → a ≡ b
one_dealt members m None a b h x y = absurd x
one_dealt members m (Some share) (Chunk f c) (Chunk g d) h x y = same_chunk share.1 (next_for (schedule members) share.1 share.0 m h) f g c d x y
one_dealt members m (Some share) (Chunk f c) NoChunk h x y = absurd (none_no_chunk share.1 (next_for (schedule members) share.1 share.0 m h) f c y x)
one_dealt members m (Some share) NoChunk (Chunk g d) h x y = absurd (none_no_chunk share.1 (next_for (schedule members) share.1 share.0 m h) g d x y)
one_dealt members m (Some share) NoChunk NoChunk h x y = refl
one_dealt members m (Some share) (Chunk f c) _ h x y = absurd y
one_dealt members m (Some share) NoChunk _ h x y = absurd y
one_dealt members m (Some share) _ b h x y = absurd x

-- a next that waits has no turn, and every other one has it, or needs none
one_next : (members m : ℕ) (own : Option (ℕ × Shape)) (a b : Reply) (h : List Event) → DealsNext members m own a h → DealsNext members m own b h → a ≡ b
one_next members m None a b h x y = absurd x
one_next members m (Some share) a b h x y = one_answer_or_wait (not (must_wait members share m h)) (λ given. DealsOut members m (Some share) given h) a b (one_dealt members m (Some share) a b h) x y

dealt_by_share : (members m : ℕ) (own : Option (ℕ × Shape)) (reply : Reply) (h : List Event) → DealsOut members m own reply h → IsShareReply reply
dealt_by_share members m None reply h x = absurd x
dealt_by_share members m (Some share) (Chunk first count) h x = tt
dealt_by_share members m (Some share) NoChunk h x = tt
dealt_by_share members m (Some share) _ h x = absurd x

next_by_share : (members m : ℕ) (own : Option (ℕ × Shape)) (reply : Reply) (h : List Event) → DealsNext members m own reply h → IsShareReply reply
next_by_share members m None reply h x = absurd x
next_by_share members m (Some share) reply h x = each_answer_so IsShareReply (not (must_wait members share m h)) (λ given. DealsOut members m (Some share) given h) reply tt (dealt_by_share members m (Some share) reply h) x

piece_own : (share : ℕ) (shape : Shape) (m : ℕ) (reply : Reply) → AreOwn quiet m (piece_given share shape m reply)
piece_own share shape m (Chunk first count) = (refl, tt)
piece_own share shape m NoChunk = (refl, tt)
piece_own share shape m _ = tt

handed_own : (members : ℕ) (share : ℕ × Shape) (m : ℕ) (h : List Event) → AreOwn quiet m (handed_on members share m h)
handed_own members share m h = elim (cases_Bool share.1.ordered) [ inl e ↦ rw e (refl, tt) | inr e ↦ rw e tt ]

next_events_own : (members : ℕ) (own : Option (ℕ × Shape)) (m : ℕ) (h : List Event) (reply : Reply) → AreOwn quiet m (next_given members own m h reply)
next_events_own members None m h reply = tt
next_events_own members (Some share) m h (Chunk first count) = own_append quiet m (piece_given share.0 share.1 m (Chunk first count)) (handed_on members share m h) (refl, tt) (handed_own members share m h)
next_events_own members (Some share) m h NoChunk = own_append quiet m (piece_given share.0 share.1 m NoChunk) (handed_on members share m h) (refl, tt) (handed_own members share m h)
next_events_own members (Some share) m h _ = tt

-- What is dealt out

dealt_reply : Shape → Option Piece → Reply
dealt_reply shape None = NoChunk
dealt_reply shape (Some piece) = Chunk (value_at shape piece.0) (piece.1 - piece.0)

deals_out : (members m : ℕ) (share : ℕ × Shape) (h : List Event) (next : Option Piece) → next_for (schedule members) share.1 share.0 m h ≡ next → ((piece : Piece) → next ≡ Some piece → piece.0 < piece.1) →
    DealsOut members m (Some share) (dealt_reply share.1 next) h
unfolding dealt_reply
deals_out members m share h None e some = e
deals_out members m share h (Some piece) e some = rw e (refl, (let lt = some piece refl in omega arith))

deals_some : (members m : ℕ) (share : ℕ × Shape) (h : List Event) → m < members → IsDealt (schedule members) members share.1 → (reply : Reply) × DealsOut members m (Some share) reply h
deals_some members m share h lt fair =
    let next = next_for (schedule members) share.1 share.0 m h in (
      dealt_reply share.1 next,
      deals_out members m share h next refl (λ piece e. fair.some m (taken_in ((schedule members).queue_of share.1) share.0 ((schedule members).queue_of share.1 m) h) piece lt e),
    )

-- a chunk has an iteration, since the piece that it is has one
chunk_counts : (shape : Shape) (next : Option Piece) (first : ℤ) (count : ℕ) → ((piece : Piece) → next ≡ Some piece → piece.0 < piece.1) → IsChunk shape next first count → 0 < count
chunk_counts shape None first count some may = absurd may
chunk_counts shape (Some piece) first count some may = let lt = some piece refl in let sum = may.1 in omega arith

dealt_counts : (members m : ℕ) (share : ℕ × Shape) (first : ℤ) (count : ℕ) (h : List Event) → m < members → IsDealt (schedule members) members share.1 → DealsOut members m (Some share) (Chunk first count) h → 0 < count
dealt_counts members m share first count h lt fair may =
    chunk_counts share.1 (next_for (schedule members) share.1 share.0 m h) first count
    (λ piece e. fair.some m (taken_in ((schedule members).queue_of share.1) share.0 ((schedule members).queue_of share.1 m) h) piece lt e) may

next_counts : (members m : ℕ) (h : List Event) (own : Option (ℕ × Shape)) (first : ℤ) (count : ℕ) → open_share m h ≡ own → Always (TeamRule members) h → DealsNext members m own (Chunk first count) h → 0 < count
next_counts members m h None first count at all may = absurd may
next_counts members m h (Some share) first count at all may =
    let rules = share_rules members h all in
    let known = member_is_inside (schedule members) members m share.0 share.1 h rules at in
    let dealt = next_is_dealt members m share (Chunk first count) h (λ is. absurd (cc)) may in
    dealt_counts members m share first count h known.1 (share_is_dealt (schedule members) members share.0 share.1 h rules known.0) dealt.1

deals_next : (members m : ℕ) (share : ℕ × Shape) (reply : Reply) (h : List Event) → must_wait members share m h ≡ false → DealsOut members m (Some share) reply h → DealsNext members m (Some share) reply h
deals_next members m share reply h go may = may_be_answered (not (must_wait members share m h)) (λ given. DealsOut members m (Some share) given h) reply (rw go refl) may

next_some : (members m : ℕ) (h : List Event) (own : Option (ℕ × Shape)) → open_share m h ≡ own → not (in_kind is_loop own) ≡ false → Always (TeamRule members) h → (reply : Reply) × DealsNext members m own reply h
next_some members m h None at there all = absurd (cc)
next_some members m h (Some share) at there all =
    elim (cases_Bool (must_wait members share m h)) [
      | inl wait ↦ (Wait, may_not_waits (not (must_wait members share m h)) (λ given. DealsOut members m (Some share) given h) (rw wait refl))
      | inr go ↦
          let rules = share_rules members h all in
          let known = member_is_inside (schedule members) members m share.0 share.1 h rules at in
          let found = deals_some members m share h known.1 (share_is_dealt (schedule members) members share.0 share.1 h rules known.0) in
          (found.0, deals_next members m share found.0 h go found.1)
    ]

-- What the replies give keeps the rule

chunk_is : (shape : Shape) (next : Option Piece) (first : ℤ) (count : ℕ) → shape.incr ≢ pos 0 → IsChunk shape next first count → next ≡ Some (iteration_at shape first, iteration_at shape first + count)
chunk_is shape None first count moves is = absurd is
chunk_is shape (Some piece) first count moves is =
    let low : iteration_at shape first ≡ piece.0 = ap (iteration_at shape) is.0 ∙ iteration_at-value_at shape piece.0 moves in
    rw (low, is.1) refl

-- a piece, or none, by what was dealt out before something else was given
piece_keeps : (members m share : ℕ) (shape : Shape) (reply : Reply) (before h : List Event) → next_for (schedule members) shape share m h ≡ next_for (schedule members) shape share m before →
    open_share m h ≡ Some (share, shape) → in_part m h ≡ false → (shape.ordered ≡ true → holds_piece m h ≡ false) → shape.incr ≢ pos 0 → DealsOut members m (Some (share, shape)) reply before →
    Always (TeamRule members) h → Always (TeamRule members) (piece_given share shape m reply ++ h)
piece_keeps members m share shape (Chunk first count) before h same at apart held moves may all =
    (record { takes = record { shape = shape; inside = at; next = same ∙ chunk_is shape (next_for (schedule members) shape share m before) first count moves may; apart = apart }; handed_on = held }, all)
piece_keeps members m share shape NoChunk before h same at apart held moves may all =
    (record { done = record { shape = shape; inside = at; none = same ∙ may; apart = apart }; handed_on = held }, all)
piece_keeps members m share shape _ before h same at apart held moves may all = absurd may

-- a piece that need not wait has the turn
in_turn : (ordered turned : Bool) → ordered ≡ true → (ordered && not turned) ≡ false → turned ≡ true
in_turn true turned e go = not_false turned go
in_turn false turned e go = absurd (cc)

member_with_turn_hands_on : (members m : ℕ) (share : ℕ × Shape) (h : List Event) → open_share m h ≡ Some share → in_part m h ≡ false → share.1.ordered ≡ true → must_wait members share m h ≡ false → MayHandOn members share.0 m (last_number members share m h) h
member_with_turn_hands_on members m share h at apart ordered go =
    record { shape = share.1; inside = at; ordered = ordered; apart = apart; number = refl; next = in_turn share.1.ordered (has_turn members share m h) ordered go }

-- what is handed on is there in an ordered loop alone
by_ordered : (P : List Event → Type 0) (ordered : Bool) (event : Event) (h : List Event) → (ordered ≡ true → P (event ∷ h)) → (ordered ≡ false → P h) → P ((if ordered then event ∷ [] else []) ++ h)
by_ordered P true event h handed kept = handed refl
by_ordered P false event h handed kept = kept refl

hand_keeps : (members m : ℕ) (share : ℕ × Shape) (reply : Reply) (h : List Event) → open_share m h ≡ Some share → in_part m h ≡ false → must_wait members share m h ≡ false → share.1.incr ≢ pos 0 → DealsOut members m (Some share) reply h → Always (TeamRule members) h →
    Always (TeamRule members) (piece_given share.0 share.1 m reply ++ (handed_on members share m h ++ h))
hand_keeps members m share reply h at apart go moves may all =
    let number = last_number members share m h in
    by_ordered (λ events. Always (TeamRule members) (piece_given share.0 share.1 m reply ++ events)) share.1.ordered (HandOn share.0 m number) h
    (λ e. piece_keeps members m share.0 share.1 reply h (HandOn share.0 m number ∷ h) refl at apart (λ ordered. rw (same_number m) refl) moves may (member_with_turn_hands_on members m share h at apart e go, all))
    (λ e. piece_keeps members m share.0 share.1 reply h h refl at apart (λ ordered. absurd (not_both share.1.ordered ordered e)) moves may all)

next_keeps : (members m : ℕ) (reply : Reply) (h : List Event) (own : Option (ℕ × Shape)) → open_share m h ≡ own → in_part m h ≡ false → DealsNext members m own reply h → Always (TeamRule members) h → Always (TeamRule members) (next_given members own m h reply ++ h)
next_keeps members m reply h None at apart may all = absurd may
next_keeps members m (Chunk first count) h (Some share) at apart may all =
    let moves = (member_is_inside (schedule members) members m share.0 share.1 h (share_rules members h all) at).3 in
    let dealt = next_is_dealt members m share (Chunk first count) h (λ is. absurd (cc)) may in
    regroup_rules members (piece_given share.0 share.1 m (Chunk first count)) (handed_on members share m h) h (hand_keeps members m share (Chunk first count) h at apart dealt.0 moves dealt.1 all)
next_keeps members m NoChunk h (Some share) at apart may all =
    let moves = (member_is_inside (schedule members) members m share.0 share.1 h (share_rules members h all) at).3 in
    let dealt = next_is_dealt members m share NoChunk h (λ is. absurd (cc)) may in
    regroup_rules members (piece_given share.0 share.1 m NoChunk) (handed_on members share m h) h (hand_keeps members m share NoChunk h at apart dealt.0 moves dealt.1 all)
next_keeps members m _ h (Some share) at apart may all = all

next_still : (members : ℕ) (own : Option (ℕ × Shape)) (m : ℕ) (h : List Event) → next_given members own m h Wait ≡ []
next_still members None m h = refl
next_still members (Some share) m h = refl

loop_wordless : (kind : ShareKind) → is_loop kind ≡ true → is_copy kind ≡ false
loop_wordless kinds.SingleCopy e = absurd (cc)
loop_wordless _ e = refl

loop_may_end : (m : ℕ) (h : List Event) (own : Option (ℕ × Shape)) → open_share m h ≡ own → not (in_kind is_loop own) ≡ false → in_part m h ≡ false → MayEndShare m h
loop_may_end m h None at within apart = absurd (cc)
loop_may_end m h (Some share) at within apart =
    let loop = not_false (is_loop share.1.kind) within in
    record { share = share; inside = at; construct = or_left (is_loop share.1.kind) (is_sections share.1.kind) loop; wordless = loop_wordless share.1.kind loop; apart = apart }

-- The rows

incr_nonzero : (incr : ℤ) → ◌≡◌ {A = Bool} (int_eq incr (pos 0)) false → incr ≢ pos 0
incr_nonzero incr fine = λ zero. grind (arith, ints, nat_tests, fine, zero)

loop_deal : (loop : LoopDesc) → IsDeal (loop_tests loop) (shape_of loop) DealsOut piece_given
loop_deal loop = record {
  one = one_dealt;
  by_share = dealt_by_share;
  some = λ members m share h lt fail. deals_some members m (share, shape_of loop) h lt (schedule_deals members (shape_of loop) (omega arith) (chunk_some loop.chunk));
  counts = λ members m share first count h lt may. dealt_counts members m (share, shape_of loop) first count h lt (schedule_deals members (shape_of loop) (omega arith) (chunk_some loop.chunk)) may;
  still = λ share m. refl;
  given_own = λ share m reply. piece_own share (shape_of loop) m reply;
  moves = λ fail. incr_nonzero loop.incr fail.0;
  chunked = chunk_some loop.chunk;
  ordered = λ e. loop_is_loop loop.sched loop.chunk;
  unordered = λ fail may. one_fails loop.ordered (same_end loop.end_kind Cancellable) (fail_later (trip_tests loop) ((may_lose_order loop, OrderedLoop) ∷ []) fail).0 may;
  keeps = λ members m share reply h fail may at apart held all. piece_keeps members m share (shape_of loop) reply h (Enter share m (shape_of loop) ∷ h) refl at apart (λ ordered. held) (incr_nonzero loop.incr fail.0) may all;
  no_memory = refl;
}

pub loop_start_sound : (loop : LoopDesc) → IsSound (loop_start_row loop)
loop_start_sound loop = start_sound (loop_tests loop) (shape_of loop) DealsOut piece_given (loop_deal loop)

-- the row of the next piece without what a cancelled region changes
abbrev plain_next_row : Row
plain_next_row = record outside_row {
  by_place = λ limits seen. next_tests seen;
  stays = true;
  may_reply = λ m p reply. DealsNext p.terms.members m (open_share m p.events) reply p.events;
  gives = λ m p reply. next_given p.terms.members (open_share m p.events) m p.events reply;
}

plain_next_sound : IsSound plain_next_row
plain_next_sound = record {
  decided = λ m p a b x y. inl (one_next p.terms.members m (open_share m p.events) a b p.events x y);
  accepts = λ m p refusal x. next_by_share p.terms.members m (open_share m p.events) (Refused refusal) p.events x;
  answered = λ repeated m p ready all. next_some p.terms.members m p.events (open_share m p.events) refl (by_place_fails ready.admitted.parts refl refl).0 all;
  counts = λ repeated m p first count ready all may. next_counts p.terms.members m p.events (open_share m p.events) first count refl all may;
  begins_own = λ m p. tt;
  gives_own = λ m p reply. own_given quiet m reply (next_given p.terms.members (open_share m p.events) m p.events reply) (next_events_own p.terms.members (open_share m p.events) m p.events reply);
  begins_keep = λ m p ready all. all;
  gives_keep = λ repeated m p reply ready may all. next_keeps p.terms.members m reply p.events (open_share m p.events) refl (by_place_fails ready.admitted.parts refl refl).1.0 may all;
  still = λ stays m p. (refl, next_still p.terms.members (open_share m p.events) m p.events);
  placed = λ stays m h. refl;
  outside = λ arrives m p fail. absurd (cc);
  tells = λ arrives m p reply may. absurd (cc);
  one_pass = λ arrives m p. absurd (cc);
  arrives_there = λ arrives m p. absurd (cc);
  waits_quietly = λ arrives m p. absurd (cc);
  lasts = λ repeated m p ready all may. outside_lasts ready refl (λ arrives fail. fail.0) may;
  waits_for = λ key m p holds may. absurd (cc);
  tells_count = λ key repeated m count p holds ready all may. absurd (cc);
  runs = λ m p task code arg own may. absurd (next_by_share p.terms.members m (open_share m p.events) (Run task code arg own) p.events may);
  ends = λ m p task waiting may. absurd (next_by_share p.terms.members m (open_share m p.events) (TaskDone task waiting) p.events may);
  created = λ repeated m p task ready may. absurd (next_by_share p.terms.members m (open_share m p.events) (Created task) p.events may);
  cancelled = λ m p may. absurd (next_by_share p.terms.members m (open_share m p.events) Cancelled p.events may);
  dropped = λ repeated m p ready all may. absurd (next_by_share p.terms.members m (open_share m p.events) Dropped p.events may);
  allowed = λ cancels m p. absurd (cc);
  no_memory = λ m p. (refl, refl, refl, refl, λ repeated. refl);
  words_keep = λ puts repeated m p reply ready may all. absurd (cc);
}

pub loop_next_sound : IsSound loop_next_row
loop_next_sound = waits_uncancelled_sound plain_next_row plain_next_sound (record {
  silent = refl;
  holds = refl;
  harmless = refl;
  wordless = refl;
  never = λ m p may. next_by_share p.terms.members m (open_share m p.events) Cancelled p.events may;
})

loop_ends : (kind : EndKind) → IsEnd (end_tests kind)
loop_ends kind = record { inside = λ members m h fail all. loop_may_end m h (open_share m h) refl fail.0 fail.1.0; no_memory = λ seen. refl }

pub loop_end_sound : IsSound loop_end_row
loop_end_sound = end_arrival_sound (end_tests WaitEnd) ShareEnd (loop_ends WaitEnd)

pub loop_end_nowait_sound : IsSound loop_end_nowait_row
loop_end_nowait_sound = end_sound (end_tests Nowait) (loop_ends Nowait)

pub loop_end_cancel_sound : IsSound loop_end_cancel_row
loop_end_cancel_sound = end_arrival_sound (end_tests Cancellable) ShareEnd (loop_ends Cancellable)
