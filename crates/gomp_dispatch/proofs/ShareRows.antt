-- What the calls on the shares have in common, and what the shares promise of each construct.
use Rattle.std.proofs.Common.{◌≡◌, ◌<◌, ◌≤◌, ℕ, Bool, true, false, List, [], ◌∷◌, ◌++◌, Option, Some, None, refl, sym, subst, ◌∙◌, arith}
use Rattle.gomp_types.specs.declared.call.Server.TheVariants.{Shares as OfShares}
use Rattle.gomp_types.specs.Servers.{kind_served_by, served_by}
use Rattle.std.proofs.lemmas.Bool.Decides.{nat_tests}
use Rattle.std.specs.Prelude.{ℤ, IfSome, nat_lt, ◌&&◌, not}
use Rattle.gomp_types.specs.declared.cancel.CancelKind.{CancelKind}
use Rattle.gomp_types.specs.declared.cancel.CancelKind.TheVariants as kinds
use Rattle.gomp_events.specs.Cancels.{is_cancelled}
use Rattle.gomp_events.specs.CancelCalls.{cancel_tests, cancel_room, OrWaitsCancelled, sees_cancelled}
use Rattle.gomp_shares.specs.Calls.{IsNoShareEvent as SharesAside}
use Rattle.gomp_model.specs.Cancels.{cancel_row, point_row}
use Rattle.gomp_types.specs.declared.call.Call.{Call}
use Rattle.gomp_types.specs.declared.call.Call.TheVariants as calls
use Rattle.gomp_types.specs.declared.loop_desc.EndKind.TheVariants as ends
use Rattle.gomp_types.specs.declared.refusal.Refusal.{Refusal}
use Rattle.gomp_types.specs.declared.reply.Reply.{Reply}
use Rattle.gomp_types.specs.declared.reply.Reply.TheVariants.{Finished, Wait, Cancelled, Stopped, Refused}
use Rattle.gomp_types.specs.declared.shape.Shape.{Shape}
use Rattle.gomp_events.specs.declared.seen.Seen.{Seen}
use Rattle.gomp_events.specs.declared.event.Event.{Event}
use Rattle.gomp_events.specs.declared.event.Event.TheVariants.{See}
use Rattle.gomp_types.specs.Iterations.{loop_tests}
use Rattle.gomp_types.specs.Pieces.{shape_of}
use Rattle.gomp_types.specs.Sections.{sections_tests, sections_shape}
use Rattle.gomp_types.specs.Singles.{single_shape}
use Rattle.gomp_events.specs.Events.{open_share}
use Rattle.gomp_events.specs.Seen.{seen_of}
use Rattle.gomp_types.specs.Tests.{Test}
use Rattle.gomp_types.specs.Least.{least, Answers}
use Rattle.gomp_events.specs.TaskCalls.{outside_tasks_tests}
use Rattle.gomp_shares.specs.Serves.{Serves, IsDone}
use Rattle.gomp_shares.specs.Starts.{Deals, Starts, compared_share, AnswersBegin, done_given, entry_and, leaves}
use Rattle.gomp_shares.proofs.OrWaits.{next_is_dealt, part_is_begun, start_is_dealt}
use Rattle.gomp_shares.specs.Loops.{DealsOut, DealsNext, piece_given, end_tests}
use Rattle.gomp_shares.specs.Sections.{DealsSections, section_given, sections_end_tests}
use Rattle.gomp_shares.specs.Singles.{DealsSingle, DealsCopy, single_given, copy_given}
use Rattle.gomp_shares.specs.OrderedParts.{BeginsPart, part_end_tests, part_end_events}
use Rattle.gomp_model.specs.Past.{Past}
use Rattle.gomp_model.specs.Row.{Row, at_once, asks_memory, unless_repeated, goes_on, given_after}
use Rattle.gomp_model.specs.Starts.{share_room, start_row}
use Rattle.gomp_model.specs.Loops.{loop_next_row}
use Rattle.gomp_model.specs.Sections.{sections_next_row}
use Rattle.gomp_model.specs.Singles.{single_copy_start_row}
use Rattle.gomp_model.specs.OrderedParts.{ordered_start_row}
use Rattle.gomp_model.specs.Calls.{row_of}
use Rattle.gomp_board.specs.Boards.{BoardView}
use Rattle.gomp_model.specs.Admits.{in_place}
use Rattle.gomp_model.proofs.ReplyEvents.{once_first}
use Rattle.gomp_dispatch.specs.Answers.{ServersAdmitMember}
use Rattle.gomp_dispatch.specs.Serves.{AreShareEvents, GoesOn, SharesServe, GivesShareEvents, cut_reply}
use Rattle.gomp_dispatch.proofs.ShareEvents.{once_share_events, DealsShareEvents, entry_share_events, cut_share_events}
use Rattle.gomp_dispatch.proofs.OpAnswers.{KeepsAll}
use Rattle.gomp_dispatch.proofs.CallOps.{made_once, not_lower, keeps_all}

-- a row of the shares: it is made in no task and in its place, arrives nowhere, never stops the team, asks for the room of the share that it starts, and leaves its place only if it never goes on
pub record IsShareRow (row : Row) : Type 0 where
  pub by_task : (m : ℕ) (p : Past) → row.by_task m p ≡ outside_tasks_tests m p.events
  pub placed : (m : ℕ) (h : List Event) → row.gives_up m h ≡ false
  pub arrives : row.arrives ≡ None
  pub stops : (m : ℕ) (q : Past) → row.may_reply m q Stopped → ⊥
  pub drops : (m : ℕ) (p : Past) → row.drops m p ≡ false
  pub asks : 0 < row.room → (m : ℕ) (p : Past) → asks_memory row m p ≡ true
  pub keeps : KeepsAll row
  pub fits : IfSome row.starts (λ (shape : Shape). share_room shape ≤ row.room)
  pub once : row.stays ≡ false → (m : ℕ) (q : Past) (reply : Reply) → row.may_reply m q reply → goes_on reply ≡ false
  pub leaves : row.drains ≡ true → row.stays ≡ false

-- how a share is dealt out stops no team
abbrev pub NeverStops : Deals → Type 0
NeverStops deals = (members m : ℕ) (share : Option (ℕ × Shape)) (h : List Event) → deals members m share Stopped h → ⊥

-- and refuses nothing
abbrev pub NeverRefuses : Deals → Type 0
NeverRefuses deals = (members m : ℕ) (share : Option (ℕ × Shape)) (refusal : Refusal) (h : List Event) → deals members m share (Refused refusal) h → ⊥

-- nor tells that the region is cancelled
abbrev pub NeverCancels : Deals → Type 0
NeverCancels deals = (members m : ℕ) (share : Option (ℕ × Shape)) (h : List Event) → deals members m share Cancelled h → ⊥

piece_stops : NeverStops DealsOut
piece_stops members m None h may = may
piece_stops members m (Some share) h may = may

pub piece_cancels : NeverCancels DealsOut
piece_cancels members m None h may = may
piece_cancels members m (Some share) h may = may

pub piece_refuses : NeverRefuses DealsOut
piece_refuses members m None refusal h may = may
piece_refuses members m (Some share) refusal h may = may

next_stops : NeverStops DealsNext
next_stops members m None h may = may
next_stops members m (Some share) h may = (next_is_dealt members m share Stopped h (λ is. absurd (cc)) may).1

pub next_cancels : NeverCancels DealsNext
next_cancels members m None h may = may
next_cancels members m (Some share) h may = (next_is_dealt members m share Cancelled h (λ is. absurd (cc)) may).1

pub next_refuses : NeverRefuses DealsNext
next_refuses members m None refusal h may = may
next_refuses members m (Some share) refusal h may = (next_is_dealt members m share (Refused refusal) h (λ is. absurd (cc)) may).1

section_stops : NeverStops DealsSections
section_stops members m None h may = may
section_stops members m (Some share) h may = may

pub section_cancels : NeverCancels DealsSections
section_cancels members m None h may = may
section_cancels members m (Some share) h may = may

pub section_refuses : NeverRefuses DealsSections
section_refuses members m None refusal h may = may
section_refuses members m (Some share) refusal h may = may

single_stops : NeverStops DealsSingle
single_stops members m None h may = may
single_stops members m (Some share) h may = may

pub single_cancels : NeverCancels DealsSingle
single_cancels members m None h may = may
single_cancels members m (Some share) h may = may

pub single_refuses : NeverRefuses DealsSingle
single_refuses members m None refusal h may = may
single_refuses members m (Some share) refusal h may = may

copy_stops : NeverStops DealsCopy
copy_stops members m None h may = may
copy_stops members m (Some share) h may = may

pub copy_cancels : NeverCancels DealsCopy
copy_cancels members m None h may = may
copy_cancels members m (Some share) h may = may

pub copy_refuses : NeverRefuses DealsCopy
copy_refuses members m None refusal h may = may
copy_refuses members m (Some share) refusal h may = may

part_stops : NeverStops BeginsPart
part_stops members m None h may = may
part_stops members m (Some share) h may = let begun : Stopped ≡ Finished = (part_is_begun members m share Stopped h (λ is. absurd (cc)) may).1 in cc

pub part_cancels : NeverCancels BeginsPart
part_cancels members m None h may = may
part_cancels members m (Some share) h may = let begun : Cancelled ≡ Finished = (part_is_begun members m share Cancelled h (λ is. absurd (cc)) may).1 in cc

pub part_refuses : NeverRefuses BeginsPart
part_refuses members m None refusal h may = may
part_refuses members m (Some share) refusal h may = let begun : Refused refusal ≡ Finished = (part_is_begun members m share (Refused refusal) h (λ is. absurd (cc)) may).1 in cc

-- a call that waits in its place, in a region that is cancelled or not, stops no team
cut_stops : (cut : Bool) (May : Reply → Type 0) → (May Stopped → ⊥) → OrWaitsCancelled cut May Stopped → ⊥
cut_stops true May never may = never may
cut_stops false May never may = never may

-- a call that asks for room, and is never dropped, takes memory
room_takes_memory : (room : ℕ) → 0 < room → (nat_lt 0 room && not false) ≡ true
room_takes_memory room much = let asks : nat_lt 0 room ≡ true = grind (arith, nat_tests, much) in rw asks refl

start_is_share_row : (own : List Test) (shape : Shape) (deals : Deals) (Given : ℕ → Shape → ℕ → Reply → List Event) → NeverStops deals → IsShareRow (start_row own shape deals Given)
start_is_share_row own shape deals Given stops = record {
  by_task = λ m p. refl;
  placed = λ m h. refl;
  arrives = refl;
  stops = λ m q may. cut_stops (is_cancelled q.events) (λ reply. Starts deals q.terms.members m shape reply q.events) (λ starts. stops q.terms.members m _ q.events (start_is_dealt deals q.terms.members m shape Stopped q.events (λ is. absurd (cc)) starts)) may;
  drops = λ m p. refl;
  asks = λ much m p. room_takes_memory (share_room shape) much;
  keeps = λ reply lost. keeps_all reply lost;
  fits = omega arith;
  once = λ stays. absurd (cc);
  leaves = λ drains. absurd (cc);
}

done_is_share_row : (drains : Bool) (tests : Seen → List Test) (events : ℕ → List Event → List Event) → IsShareRow (record (at_once tests events) { drains = drains })
done_is_share_row drains tests events = record {
  by_task = λ m p. refl;
  placed = λ m h. refl;
  arrives = refl;
  stops = λ m q may. cc;
  drops = λ m p. refl;
  asks = λ much. not_lower much;
  keeps = λ reply lost. refl;
  fits = tt;
  once = λ stays m q reply may. rw may refl;
  leaves = λ drains. refl;
}

next_is_share_row : IsShareRow loop_next_row
next_is_share_row = record {
  by_task = λ m p. refl;
  placed = λ m h. refl;
  arrives = refl;
  stops = λ m q may. cut_stops (is_cancelled q.events) (λ reply. DealsNext q.terms.members m (open_share m q.events) reply q.events) (λ deals. next_stops q.terms.members m (open_share m q.events) q.events deals) may;
  drops = λ m p. refl;
  asks = λ much. not_lower much;
  keeps = λ reply lost. refl;
  fits = tt;
  once = λ stays. absurd (cc);
  leaves = λ drains. absurd (cc);
}

section_is_share_row : IsShareRow sections_next_row
section_is_share_row = record {
  by_task = λ m p. refl;
  placed = λ m h. refl;
  arrives = refl;
  stops = λ m q may. section_stops q.terms.members m (open_share m q.events) q.events may;
  drops = λ m p. refl;
  asks = λ much. not_lower much;
  keeps = λ reply lost. refl;
  fits = tt;
  once = λ stays. absurd (cc);
  leaves = λ drains. absurd (cc);
}

part_is_share_row : (value : ℤ) → IsShareRow (ordered_start_row value)
part_is_share_row value = record {
  by_task = λ m p. refl;
  placed = λ m h. refl;
  arrives = refl;
  stops = λ m q may. cut_stops (is_cancelled q.events) (λ reply. BeginsPart q.terms.members m (open_share m q.events) reply q.events) (λ begins. part_stops q.terms.members m (open_share m q.events) q.events begins) may;
  drops = λ m p. refl;
  asks = λ much. not_lower much;
  keeps = λ reply lost. refl;
  fits = tt;
  once = λ stays. absurd (cc);
  leaves = λ drains. absurd (cc);
}

cancel_is_made : (kind : CancelKind) (m : ℕ) (h : List Event) → kind_served_by kind ≡ OfShares → cancel_tests kind m h ≡ outside_tasks_tests m h
cancel_is_made kinds.Loop m h names = refl
cancel_is_made kinds.Sections m h names = refl
cancel_is_made _ m h names = absurd (cc)

cancel_asks_none : (kind : CancelKind) → kind_served_by kind ≡ OfShares → cancel_room kind ≡ 0
cancel_asks_none kinds.Loop names = refl
cancel_asks_none kinds.Sections names = refl
cancel_asks_none _ names = absurd (cc)

lower_than_none : {A : Type 0} (n : ℕ) → n ≡ 0 → 0 < n → A
lower_than_none n none much = absurd (omega (arith, none, much))

cancel_is_share_row : (kind : CancelKind) (clause : Bool) → kind_served_by kind ≡ OfShares → IsShareRow (cancel_row kind clause)
cancel_is_share_row kind clause names = record {
  by_task = λ m p. cancel_is_made kind m p.events names;
  placed = λ m h. refl;
  arrives = refl;
  stops = λ m q may. cc;
  drops = λ m p. refl;
  asks = λ much. lower_than_none (cancel_room kind) (cancel_asks_none kind names) much;
  keeps = λ reply lost. cancel_asks_none kind names;
  fits = tt;
  once = λ stays m q reply may. rw may refl;
  leaves = λ drains. refl;
}

point_is_share_row : (kind : CancelKind) → kind_served_by kind ≡ OfShares → IsShareRow (point_row kind)
point_is_share_row kind names = record {
  by_task = λ m p. cancel_is_made kind m p.events names;
  placed = λ m h. refl;
  arrives = refl;
  stops = λ m q may. cc;
  drops = λ m p. refl;
  asks = λ much. not_lower much;
  keeps = λ reply lost. refl;
  fits = tt;
  once = λ stays m q reply may. rw may refl;
  leaves = λ drains. refl;
}

pub copy_is_share_row : IsShareRow single_copy_start_row
copy_is_share_row = start_is_share_row [] (single_shape true) DealsCopy copy_given copy_stops

pub call_is_share_row : (call : Call) → served_by call ≡ OfShares → IsShareRow (row_of call)
call_is_share_row (calls.LoopStart loop) of = start_is_share_row (loop_tests loop) (shape_of loop) DealsOut piece_given piece_stops
call_is_share_row calls.LoopNext of = next_is_share_row
call_is_share_row calls.LoopEndNowait of = done_is_share_row true (end_tests ends.Nowait) leaves
call_is_share_row (calls.SectionsStart count end_kind) of = start_is_share_row (sections_tests count) (sections_shape count end_kind) DealsSections section_given section_stops
call_is_share_row calls.SectionsNext of = section_is_share_row
call_is_share_row calls.SectionsEndNowait of = done_is_share_row true (sections_end_tests ends.Nowait) leaves
call_is_share_row calls.SingleStart of = start_is_share_row [] (single_shape false) DealsSingle single_given single_stops
call_is_share_row (calls.OrderedStart value) of = part_is_share_row value
call_is_share_row calls.OrderedEnd of = done_is_share_row false part_end_tests part_end_events
call_is_share_row (calls.Cancel kind clause) of = cancel_is_share_row kind clause of
call_is_share_row (calls.Point kind) of = point_is_share_row kind of
call_is_share_row _ of = absurd (cc)

-- its member is in its place as it is answered
pub admitted_in_place : (row : Row) → IsShareRow row → (repeated : Bool) (m : ℕ) (board : BoardView) (p : Past) → ServersAdmitMember row repeated m board p → least (row.by_place p.terms.limits (seen_of m p.events)) ≡ None
admitted_in_place row is repeated m board p ready = ready.admitted.place (in_place_there row.stays repeated (λ goes. made_once row repeated m board p (is.once goes m) ready)) (is.placed m p.events)
  where
    in_place_there : (stays repeated : Bool) → (stays ≡ false → repeated ≡ false) → in_place stays repeated ≡ true
    in_place_there true repeated once = refl
    in_place_there false false once = refl
    in_place_there false true once = absurd (let never = once refl in cc)

-- What the shares promise

answers_may : (tests : List Test) (may : Reply → Type 0) (reply : Reply) → least tests ≡ None → Answers tests may reply → may reply
answers_may tests may (Refused refusal) none answers = absurd (let some = answers in cc)
answers_may tests may _ none answers = answers.1

-- a start that its member's own tests let through is compared alone
pub begin_may : (shape : Shape) (deals : Deals) (members n m : ℕ) (h : List Event) (reply : Reply) → n ≡ members → least (compared_share shape m h) ≡ None → AnswersBegin shape deals members m reply h → Starts deals n m shape reply h
begin_may shape deals members n m h reply size none answers =
    subst (λ (k : ℕ). Starts deals k m shape reply h) (sym size) (answers_may (compared_share shape m h) (λ given. Starts deals members m shape given h) reply none answers)

-- In a cancelled region

-- a reply that a call may give is cut to one that it may give in a cancelled region
pub cut_reply_may : (cut cancelled : Bool) (May : Reply → Type 0) (reply : Reply) → cut ≡ cancelled → (May Cancelled → ⊥) → May reply → OrWaitsCancelled cut May (cut_reply cancelled reply)
cut_reply_may true true May Wait same never may = may
cut_reply_may true true May Cancelled same never may = absurd (never may)
cut_reply_may true true May _ same never may = may
cut_reply_may false false May reply same never may = may
cut_reply_may true false May reply same never may = absurd (cc)
cut_reply_may false true May reply same never may = absurd (cc)

pub cut_refuses : (cut : Bool) (May : Reply → Type 0) (refusal : Refusal) → (May (Refused refusal) → ⊥) → OrWaitsCancelled cut May (Refused refusal) → ⊥
cut_refuses true May refusal never may = never may
cut_refuses false May refusal never may = never may

pub cut_waits : (cancelled : Bool) (reply : Reply) → cut_reply cancelled reply ≡ Wait → reply ≡ Wait
cut_waits true Wait e = refl
cut_waits true _ e = e
cut_waits false reply e = e

-- what holds of the events of the reply, and of those of a wait with what its member sees, holds of those of the reply that is cut
pub cut_given : (P : List Event → Type 0) (cancelled : Bool) (m : ℕ) (given : Reply → List Event) (h : List Event) (reply : Reply) → (reply ≡ Wait → P (See m kinds.Parallel ∷ h)) → (reply ≡ Cancelled → ⊥) → P (given reply ++ h) →
    P (sees_cancelled m (cut_reply cancelled reply) (given (cut_reply cancelled reply)) ++ h)
cut_given P true m given h Wait waits never holds = waits refl
cut_given P true m given h Cancelled waits never holds = absurd (never refl)
cut_given P true m given h _ waits never holds = holds
cut_given P false m given h Cancelled waits never holds = absurd (never refl)
cut_given P false m given h _ waits never holds = holds

-- the shares stand for what a member sees while it waits
pub sees_waiting : {S : Type 0} (stands : S → List Event → Type 0) (before after : S) (m : ℕ) (h : List Event) → ((event : Event) → SharesAside event → stands before h → stands before (event ∷ h)) → stands before h → after ≡ before → stands after (See m kinds.Parallel ∷ h)
sees_waiting stands before after m h aside st same = rw same (aside (See m kinds.Parallel) tt st)

pub start_serves : {S : Type 0} (stand : List Event → Type 0) (stands : S → List Event → Type 0) (members : ℕ) (allowed cancelled : Bool) (before after : S) (own : List Test) (shape : Shape) (deals : Deals) (Given : ℕ → Shape → ℕ → Reply → List Event) (m : ℕ) (reply : Reply) → NeverRefuses deals → NeverCancels deals →
    ((h : List Event) (event : Event) → SharesAside event → stands before h → stands before (event ∷ h)) → ((h : List Event) → stand h → stands before h) → ((h : List Event) → stand h → is_cancelled h ≡ cancelled) →
    (reply ≡ Wait → after ≡ before) → ((h : List Event) → stand h → AnswersBegin shape deals members m reply h) → ((h : List Event) → stand h → stands after (entry_and Given shape m h reply ++ h)) →
    SharesServe (record { stand = stand; stands = stands; members = members; allowed = allowed }) before after (start_row own shape deals Given) m (cut_reply cancelled reply)
start_serves stand stands members allowed cancelled before after own shape deals Given m reply accepts cancels aside known tells waits answer stands_for = record {
  waits = λ wait. waits (cut_waits cancelled reply wait);
  answer = λ repeated p size allows st goes. cut_reply_may (is_cancelled p.events) cancelled (λ r. Starts deals p.terms.members m shape r p.events) reply (tells p.events st) (λ starts. cancels p.terms.members m _ p.events (start_is_dealt deals p.terms.members m shape Cancelled p.events (λ is. absurd (cc)) starts))
      (begin_may shape deals members p.terms.members m p.events reply size goes.compared (answer p.events st));
  accepts = λ repeated p refusal may. cut_refuses (is_cancelled p.events) (λ r. Starts deals p.terms.members m shape r p.events) refusal (λ starts. accepts p.terms.members m _ refusal p.events (start_is_dealt deals p.terms.members m shape (Refused refusal) p.events (λ is. absurd (cc)) starts)) may;
  stands_for = λ repeated p size allows st goes. cut_given (stands after) cancelled m (λ r. entry_and Given shape m p.events r) p.events reply
      (λ wait. sees_waiting stands before after m p.events (aside p.events) (known p.events st) (waits wait))
      (λ tells_so. cancels p.terms.members m _ p.events (start_is_dealt deals p.terms.members m shape Cancelled p.events (λ is. absurd (cc))
      (subst (λ (r : Reply). Starts deals p.terms.members m shape r p.events) tells_so (begin_may shape deals members p.terms.members m p.events reply size goes.compared (answer p.events st)))))
      (stands_for p.events st);
}

pub start_events : (own : List Test) (shape : Shape) (deals : Deals) (Given : ℕ → Shape → ℕ → Reply → List Event) (m : ℕ) (reply : Reply) → DealsShareEvents Given → GivesShareEvents (start_row own shape deals Given) m reply
start_events own shape deals Given m reply are = λ repeated p sealed. (tt, cut_share_events m (Some shape) reply (entry_and Given shape m p.events reply) (entry_share_events Given are m shape p.events reply))

-- a call that is done at once
once_done : (drains : Bool) (tests : Seen → List Test) (events : ℕ → List Event → List Event) (repeated : Bool) (m : ℕ) (p : Past) → GoesOn (record (at_once tests events) { drains = drains }) repeated m p → repeated ≡ false
once_done drains tests events true m p goes = let (q, reply, on, may) = goes.waits refl in absurd (let off : goes_on reply ≡ false = rw may refl in let both = sym on ∙ off in cc)
once_done drains tests events false m p goes = refl

once_after : (P : List Event → Type 0) (drains : Bool) (tests : Seen → List Test) (events : ℕ → List Event → List Event) (repeated : Bool) (m : ℕ) (p : Past) (reply : Reply) → GoesOn (record (at_once tests events) { drains = drains }) repeated m p →
    reply ≡ Finished → P (done_given (events m p.events) reply ++ p.events) → P (given_after (record (at_once tests events) { drains = drains }) repeated m p reply)
once_after P drains tests events repeated m p reply goes done holds =
    let now : P (events m p.events ++ p.events) = subst (λ (r : Reply). P (done_given (events m p.events) r ++ p.events)) done holds in
    let first = once_done drains tests events repeated m p goes in
    subst (λ (b : Bool). P (unless_repeated (events m p.events) b ++ p.events)) (sym first) (subst (λ (es : List Event). P (es ++ p.events)) (sym (once_first (events m p.events))) now)

pub done_serves : {S : Type 0} (stand : List Event → Type 0) (stands : S → List Event → Type 0) (members : ℕ) (allowed : Bool) (before after : S) (drains : Bool) (tests : Seen → List Test) (events : ℕ → List Event → List Event) (m : ℕ) (reply : Reply) → ((h : List Event) → stand h → stands before h) →
    Serves stands before after reply IsDone (λ given h. done_given (events m h) given ++ h) → SharesServe (record { stand = stand; stands = stands; members = members; allowed = allowed }) before after (record (at_once tests events) { drains = drains }) m reply
done_serves stand stands members allowed before after drains tests events m reply known serves = record {
  waits = serves.waits;
  answer = λ repeated p size allows st goes. serves.answer p.events (known p.events st);
  accepts = λ repeated p refusal may. cc;
  stands_for = λ repeated p size allows st goes. once_after (stands after) drains tests events repeated m p reply goes (serves.answer p.events (known p.events st)) (serves.stands_for p.events (known p.events st));
}

pub done_events : (drains : Bool) (tests : Seen → List Test) (events : ℕ → List Event → List Event) (m : ℕ) (reply : Reply) → ((h : List Event) → AreShareEvents m None (events m h)) → GivesShareEvents (record (at_once tests events) { drains = drains }) m reply
done_events drains tests events m reply are = λ repeated p sealed. (once_share_events m None (events m p.events) repeated (are p.events), tt)
