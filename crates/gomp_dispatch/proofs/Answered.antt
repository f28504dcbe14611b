-- What the shares and the board answer together: the end of a construct with a barrier, a single's words, and any other call on the shares.
use Rattle.std.proofs.Common.{◌≡◌, ◌≢◌, ◌<◌, ◌≤◌, ℕ, ◌+◌, Bool, true, false, List, [], ◌∷◌, ◌++◌, Option, Some, None, refl, ap, sym, subst, ◌∙◌, arith, inl, inr}
use Rattle.std.specs.Prelude.{◌==◌, ◌&&◌, ◌||◌, not, nat_le, if◌then◌else◌, IfSome}
use Rattle.std.proofs.lemmas.Bool.{cases_eq}
use Rattle.std.proofs.lemmas.Bool.Decides.{nat_tests}
use Rattle.gomp_types.specs.declared.loop_desc.EndKind.{EndKind}
use Rattle.gomp_types.specs.declared.loop_desc.EndKind.TheVariants as ends
use Rattle.gomp_types.specs.declared.refusal.Refusal.{Refusal}
use Rattle.gomp_types.specs.declared.refusal.Refusal.TheVariants.{NoMemory}
use Rattle.gomp_types.specs.declared.reply.Reply.{Reply}
use Rattle.gomp_types.specs.declared.reply.Reply.TheVariants.{Finished, Wait, Executor, Copied, Refused}
use Rattle.gomp_types.specs.declared.shape.Shape.{Shape}
use Rattle.gomp_types.specs.declared.shape.ShareKind.{ShareKind}
use Rattle.gomp_events.specs.declared.seen.Seen.{Seen}
use Rattle.gomp_events.specs.declared.event.Arrival.TheVariants.{ShareEnd}
use Rattle.gomp_events.specs.declared.event.Event.{Event}
use Rattle.gomp_events.specs.declared.event.Event.TheVariants.{Enter, Drained, End, Put, Got, Arrive, See}
use Rattle.gomp_events.specs.declared.event.Tag.{Tag}
use Rattle.gomp_types.specs.declared.cancel.CancelKind.{CancelKind}
use Rattle.gomp_events.specs.Cancels.{is_cancelled, own_cancelled, leaves_share}
use Rattle.gomp_events.specs.CancelCalls.{unless_cancelled, sees_cancelled, OrIsCancelled}
use Rattle.gomp_events.specs.Goals.{may_pass}
use Rattle.gomp_events.specs.Tags.{tag_with, tag_differs}
use Rattle.gomp_types.specs.Compare.{end_differs}
use Rattle.gomp_types.specs.Shapes.{same_end, is_loop, is_sections, is_copy}
use Rattle.gomp_types.specs.Singles.{single_shape}
use Rattle.gomp_events.specs.Events.{open_share, open_number, share_number, shares_entered, barriers_passed, tag_at, at_region_end, has_left_region, has_drained, clash_of, in_kind}
use Rattle.gomp_events.specs.Laws.{Always}
use Rattle.gomp_events.specs.Seen.{seen_of}
use Rattle.gomp_types.specs.Tests.{Test}
use Rattle.gomp_types.specs.Least.{least}
use Rattle.gomp_events.specs.Tasks.{in_task}
use Rattle.gomp_events.specs.TaskCalls.{AwaitsTasks}
use Rattle.gomp_events.specs.declared.room.TheConstants.{ARRIVAL_ROOM}
use Rattle.gomp_types.proofs.Booleans.{same_number, other_number, not_false, and_left}
use Rattle.gomp_types.proofs.LeastTests.{all_fail}
use Rattle.gomp_shares.specs.Calls.{IsNoShareEvent as SharesAside, events_left, kind_in}
use Rattle.gomp_shares.specs.Loops.{end_tests}
use Rattle.gomp_shares.specs.Sections.{sections_end_tests}
use Rattle.gomp_shares.specs.Starts.{leaves}
use Rattle.gomp_shares.specs.Singles.{is_executor, put_tests, copy_given}
use Rattle.gomp_model.specs.Past.{Past}
use Rattle.gomp_model.specs.Row.{Row, unless_repeated, begun_past, MayReply, MayGive, past_given, room_after}
use Rattle.gomp_model.specs.Starts.{end_room, share_words_room, share_room}
use Rattle.gomp_model.specs.Arrivals.{compared_arrival, arrival_row, cut_short_row, ending}
use Rattle.gomp_model.specs.Singles.{single_copy_start_row, single_copy_end_row}
use Rattle.gomp_board.specs.declared.op.Op.{Op}
use Rattle.gomp_board.specs.declared.op.Op.TheVariants as ops
use Rattle.gomp_board.specs.Ops.{arrival_asks, words_ask, op_refusal, begun, OpAnswer}
use Rattle.gomp_board.specs.Boards.{BoardView, Stands as BoardStands, IsOpAdmittedOnce, Performs, members_of, kept_by}
use Rattle.gomp_board.proofs.Laws.{event_aside_keeps_board, events_aside_keep_board}
use Rattle.gomp_board.proofs.Waiting.{IsReply, after_reply, not_refused}
use Rattle.gomp_model.proofs.ReplyEvents.{again_none, once_first}
use Rattle.gomp_dispatch.specs.declared.leaving.Manner.{Manner}
use Rattle.gomp_dispatch.specs.Leaves.{IsMadeSo}
use Rattle.gomp_dispatch.specs.Answers.{room_left, PutsInside, ServersStand, KeepsStart, waits_there, ServersAdmitMember, SomeServersAdmit, LeavesBoard, AnswersCall}
use Rattle.gomp_dispatch.specs.Serves.{asked_once, KeepsMore, arrival_op, IsArrivalAdmitted, NotesWords, AreShareEvents, GoesOn, SharesServe, GivesShareEvents, cut_reply, left_once}
use Rattle.gomp_dispatch.proofs.ShareEvents.{share_events_aside, kept_after_events, puts_stay_inside, once_share_events, behind_entry, cut_share_events, leave_share_events}
use Rattle.gomp_dispatch.proofs.OpAnswers.{op_fine, refused_for_memory, memory_was_asked, room_was_asked, others_kept, op_leaves_board, room_made, given_events, given_terms, given_room, KeepsAll, room_asked_for, append_nested, parts_at, IsCallOp, op_is_admitted, op_gives_reply, op_stands}
use Rattle.gomp_dispatch.proofs.CallOps.{made_once, waits_nowhere, tests_of_board, arrival_goes_on, begun_alike, room_alike, keeps_all, asks_none, cut_begins, cut_away, cut_awaits, cut_gives, cut_never_stops, sees_beside}
use Rattle.gomp_dispatch.proofs.Laws.{parts_stand_alike}
use Rattle.gomp_dispatch.proofs.ShareRows.{copy_is_share_row}

-- a reply that is no refusal may be given if the row has it
pub may_be_given : (row : Row) (repeated : Bool) (m : ℕ) (p : Past) (reply : Reply) → IsReply reply → MayReply row repeated m p reply → MayGive row repeated m p reply
may_be_given row repeated m p (Refused refusal) is may = absurd is
may_be_given row repeated m p _ is may = may

-- The end of a construct with a barrier

-- what its end is, once its member has left it
abbrev pub end_arrival : Row
end_arrival = cut_short_row (arrival_row ShareEnd)

-- the room of its member's arrival is kept
end_needs_room : (own kind : EndKind) (more : ℕ) → ARRIVAL_ROOM ≤ end_room kind → not (same_end own kind) ≡ false → ARRIVAL_ROOM ≤ end_room own + more
end_needs_room ends.Wait kind more barrier same = omega arith
end_needs_room ends.Cancellable kind more barrier same = omega arith
end_needs_room ends.Nowait ends.Nowait more barrier same = absurd (omega (arith, barrier))
end_needs_room ends.Nowait ends.Wait more barrier same = absurd (cc)
end_needs_room ends.Nowait ends.Cancellable more barrier same = absurd (cc)

pub wait_needs_room : (kind : EndKind) (share : Option (ℕ × Shape)) (is : ShareKind → Bool) → ARRIVAL_ROOM ≤ end_room kind → in_kind is share ≡ true → end_differs kind share ≡ false → ARRIVAL_ROOM ≤ room_left share
wait_needs_room kind None is barrier inside same = absurd (cc)
wait_needs_room kind (Some (i, shape)) is barrier inside same = end_needs_room shape.end_kind kind (share_words_room (is_copy shape.kind)) barrier same

enough_kept : (least n kept : ℕ) → least ≤ n → n ≤ kept → nat_le least kept ≡ true
enough_kept least n kept one other = grind (arith, nat_tests)

-- the past in which the member has left it
abbrev pub left_past : Bool → ℕ → Past → Past
left_past repeated m p = record p { events = left_once repeated m p.events }

leaving_events : (m : ℕ) (repeated : Bool) (h : List Event) → AreShareEvents m None (unless_repeated (leaves m h) repeated)
leaving_events m repeated h = once_share_events m None (leaves m h) repeated (leave_share_events m h)

parts_left : {S : Type 0} (stands : S → List Event → Type 0) (shares after : S) (repeated : Bool) (m : ℕ) (board : BoardView) (p : Past) → stands after (left_once repeated m p.events) → ServersStand stands shares board p → ServersStand stands after board (left_past repeated m p)
parts_left stands shares after repeated m board p left parts =
    let events = unless_repeated (leaves m p.events) repeated in
    let are = leaving_events m repeated p.events in
    record {
      shares_are = left;
      board_is = events_aside_keep_board board p.events events (share_events_aside m None events are) parts.board_is;
      members = parts.members;
      limits = parts.limits;
      room = parts.room;
      kept = λ k. kept_after_events m k (kept_by k board) None events p.events are (λ own. tt) (parts.kept k);
      puts = puts_stay_inside events p.events (share_events_aside m None events are) parts.puts;
    }

-- what a board and the rows ask of the events is the same once the member has left its share
record LeavesAlike (m : ℕ) (left h : List Event) : Type 0 where
  pub inside : has_left_region m left ≡ has_left_region m h
  pub whole : clash_of left ≡ clash_of h
  pub waits : waits_there m left ≡ waits_there m h
  pub task : in_task m left ≡ in_task m h
  pub ends : at_region_end m left ≡ at_region_end m h
  pub cancelled : is_cancelled left ≡ is_cancelled h
  pub passed : barriers_passed m left ≡ barriers_passed m h
  pub tags : tag_at (barriers_passed m left) left ≡ tag_at (barriers_passed m h) h
  pub entered : shares_entered m left ≡ shares_entered m h
  pub outside : open_share m left ≡ None

left_alike_by : (sees : Bool) (n m : ℕ) (kind : CancelKind) (h : List Event) → LeavesAlike m (End n m ∷ ((if sees then See m kind ∷ [] else []) ++ h)) h
left_alike_by true n m kind h = record { inside = refl; whole = refl; waits = refl; task = refl; ends = refl; cancelled = refl; passed = refl; tags = refl; entered = refl; outside = rw (same_number m) refl }
left_alike_by false n m kind h = record { inside = refl; whole = refl; waits = refl; task = refl; ends = refl; cancelled = refl; passed = refl; tags = refl; entered = refl; outside = rw (same_number m) refl }

left_alike : (m : ℕ) (h : List Event) → LeavesAlike m (left_once false m h) h
left_alike m h = left_alike_by (own_cancelled m h && not (has_drained m h || leaves_share m h)) (open_number m h) m (kind_in (open_share m h)) h

-- the end begins as its arrival does once the share is left
begun_alike_left : (tests : Seen → List Test) (repeated : Bool) (m : ℕ) (p : Past) → begun_past repeated (ending tests end_arrival) m p ≡ begun_past repeated end_arrival m (left_past repeated m p)
begun_alike_left tests true m p =
    let h = p.events in
    let arrives : List Event = unless_cancelled (is_cancelled h) (Arrive (barriers_passed m h) m (tag_with ShareEnd (shares_entered m h)) ∷ []) in
    ap (λ (es : List Event). record p { events = es ++ h }) (again_none (arrives ++ leaves m h) ∙ sym (again_none arrives))
begun_alike_left tests false m p =
    let h = p.events in
    let left = left_once false m h in
    let alike = left_alike m h in
    let arrives : ℕ → ℕ → List Event = λ n entered. Arrive n m (tag_with ShareEnd entered) ∷ [] in
    let before = unless_cancelled (is_cancelled h) (arrives (barriers_passed m h) (shares_entered m h)) in
    let then_ = unless_cancelled (is_cancelled left) (arrives (barriers_passed m left) (shares_entered m left)) in
    let same : before ≡ then_ =
    ap (λ (b : Bool). unless_cancelled b (arrives (barriers_passed m h) (shares_entered m h))) (sym alike.cancelled)
    ∙ ap (λ (n : ℕ). unless_cancelled (is_cancelled left) (arrives n (shares_entered m h))) (sym alike.passed)
    ∙ ap (λ (n : ℕ). unless_cancelled (is_cancelled left) (arrives (barriers_passed m left) n)) (sym alike.entered) in
    ap (λ (es : List Event). record p { events = es })
    (ap (λ (es : List Event). es ++ h) (once_first (before ++ leaves m h)) ∙ append_nested before (leaves m h) h ∙ ap (λ (es : List Event). es ++ left) (same ∙ sym (once_first then_)))

-- what the arrival is on the board
end_once_is_op : (leaving : Bool) (m : ℕ) (board : BoardView) (p : Past) (left : List Event) → LeavesAlike m left p.events → p.terms.members ≡ members_of board → at_region_end m p.events ≡ false → arrival_asks ShareEnd (kept_by m board) ≡ 0 →
    op_refusal board.limits board.room (kept_by m board) m (ops.Arrive (tag_with ShareEnd (shares_entered m left)) leaving) left ≡ None → IsCallOp (ops.Arrive (tag_with ShareEnd (shares_entered m left)) leaving) end_arrival false m board (record p { events = left })
end_once_is_op leaving m board p left alike members away none fine =
    let q : Past = record p { events = left } in
    let tag = tag_with ShareEnd (shares_entered m left) in
    let begins = cut_begins false leaving ShareEnd m left refl in
    let e = begun_alike (ops.Arrive tag leaving) end_arrival false m q begins in
    record {
      fine = fine;
      memory = λ asks. absurd (let much = room_was_asked (ops.Arrive tag leaving) (kept_by m board) m left asks in omega (arith, much, none));
      begins = begins;
      may = λ reply awaits. cut_awaits p.terms.members (members_of board) m (begun m (ops.Arrive tag leaving) left) _ reply members e (cut_away false leaving ShareEnd m left refl (alike.ends ∙ away)) awaits;
      sees = λ reply. sees_cancelled m reply [];
      beside = sees_beside m;
      gives = λ reply awaits. cut_gives m (begun m (ops.Arrive tag leaving) left) _ reply e;
      room = room_alike (ops.Arrive tag leaving) end_arrival false (kept_by m board) (λ reply. refl) none (λ reply lost. refl);
      own = rw alike.outside (omega arith);
      no_words = refl;
    }

pub end_is_op : {S : Type 0} (stands : S → List Event → Type 0) (shares : S) (tests : Seen → List Test) (repeated leaving : Bool) (m : ℕ) (board : BoardView) (p : Past) → ServersStand stands shares board p → ServersAdmitMember (ending tests end_arrival) repeated m board p →
    (repeated ≡ false → ARRIVAL_ROOM ≤ room_left (open_share m p.events)) → IsCallOp (arrival_op repeated leaving (tag_with ShareEnd (shares_entered m p.events))) end_arrival repeated m board (left_past repeated m p)
end_is_op stands shares tests true leaving m board p parts ready needs =
    let e = begun_alike ops.AwaitBarrier end_arrival true m p (cut_begins true leaving ShareEnd m p.events refl) in
    record {
      fine = op_fine board.limits board.room (kept_by m board) m ops.AwaitBarrier p.events ready.inside ready.whole (ap not (ready.arrived refl), tt);
      memory = λ asks. asks_none asks;
      begins = cut_begins true leaving ShareEnd m p.events refl;
      may = λ reply awaits. cut_awaits p.terms.members (members_of board) m p.events _ reply parts.members e ready.ends awaits;
      sees = λ reply. sees_cancelled m reply [];
      beside = sees_beside m;
      gives = λ reply awaits. cut_gives m p.events _ reply e;
      room = room_alike ops.AwaitBarrier end_arrival true (kept_by m board) (λ reply. refl) refl (λ reply lost. refl);
      own = parts.kept m;
      no_words = refl;
    }
end_is_op stands shares tests false leaving m board p parts ready needs =
    let h = p.events in
    let left = left_once false m h in
    let alike = left_alike m h in
    let shown = tests_of_board (ending tests end_arrival) false m board p ready in
    let same = all_fail (compared_arrival ShareEnd false m h) ready.admitted.compared in
    let tag : ℕ → Tag = λ entered. tag_with ShareEnd entered in
    let enough : nat_le ARRIVAL_ROOM (kept_by m board) ≡ true = enough_kept ARRIVAL_ROOM (room_left (open_share m h)) (kept_by m board) (needs refl) (parts.kept m) in
    let none : arrival_asks ShareEnd (kept_by m board) ≡ 0 = rw enough refl in
    let busy = alike.waits ∙ ready.away (λ q may. cut_never_stops (is_cancelled q.events) q.terms.members m q.events may) refl in
    let agrees : (not (is_cancelled left) && tag_differs (tag (shares_entered m h)) (tag_at (barriers_passed m left) left)) ≡ false =
    subst (λ (b : Bool). (not b && tag_differs (tag (shares_entered m h)) (tag_at (barriers_passed m left) left)) ≡ false) (sym alike.cancelled)
    (subst (λ (t : Option Tag). (not (is_cancelled h) && tag_differs (tag (shares_entered m h)) t) ≡ false) (sym alike.tags) same.0) in
    let fine : op_refusal board.limits board.room (kept_by m board) m (ops.Arrive (tag (shares_entered m h)) leaving) left ≡ None =
    op_fine board.limits board.room (kept_by m board) m (ops.Arrive (tag (shares_entered m h)) leaving) left (alike.inside ∙ ready.inside) (alike.whole ∙ ready.whole) (busy, (alike.task ∙ shown.0, (agrees, (rw none refl, tt)))) in
    subst (λ (n : ℕ). IsCallOp (ops.Arrive (tag n) leaving) end_arrival false m board (record p { events = left })) alike.entered
    (end_once_is_op leaving m board p left alike parts.members ready.ends none (subst (λ (n : ℕ). op_refusal board.limits board.room (kept_by m board) m (ops.Arrive (tag n) leaving) left ≡ None) (sym alike.entered) fine))

-- no test refuses it
pub end_is_admitted : {S : Type 0} (stands : S → List Event → Type 0) (shares : S) (tests : Seen → List Test) (manner : Manner) (m : ℕ) (board : BoardView) → SomeServersAdmit stands shares board (ending tests end_arrival) manner m →
    ((p : Past) → ServersAdmitMember (ending tests end_arrival) manner.repeated m board p → manner.repeated ≡ false → ARRIVAL_ROOM ≤ room_left (open_share m p.events)) → IsArrivalAdmitted ShareEnd manner m stands shares board
end_is_admitted stands shares tests manner m board (p, parts, ready, made) needs =
    let events = unless_repeated (leaves m p.events) manner.repeated in
    let left = events_aside_keep_board board p.events events (share_events_aside m None events (leaving_events m manner.repeated p.events)) parts.board_is in
    (p.events, parts.shares_are, op_is_admitted _ end_arrival manner.repeated m board (left_past manner.repeated m p) left (end_is_op stands shares tests manner.repeated manner.leaving.region m board p parts ready (needs p ready)))

-- and its member has entered as many shares once it has left its own
pub left_entered : (repeated : Bool) (m : ℕ) (h : List Event) → shares_entered m (left_once repeated m h) ≡ shares_entered m h
left_entered true m h = ap (λ (es : List Event). shares_entered m (es ++ h)) (again_none (leaves m h))
left_entered false m h = (left_alike m h).entered

end_may : (tests : Seen → List Test) (repeated : Bool) (m : ℕ) (p : Past) (reply : Reply) → MayGive end_arrival repeated m (left_past repeated m p) reply → MayGive (ending tests end_arrival) repeated m p reply
end_may tests repeated m p (Refused NoMemory) may = may
end_may tests repeated m p reply may = may_end tests repeated m p reply may
  where
    may_end : (tests : Seen → List Test) (repeated : Bool) (m : ℕ) (p : Past) (reply : Reply) → MayReply end_arrival repeated m (left_past repeated m p) reply → MayReply (ending tests end_arrival) repeated m p reply
    may_end tests repeated m p reply may = subst (λ (q : Past). end_arrival.may_reply m q reply) (sym (begun_alike_left tests repeated m p)) may

end_refuses : (cut : Bool) (members m : ℕ) (h : List Event) (refusal : Refusal) → OrIsCancelled cut (AwaitsTasks m (may_pass members m h) h) (Refused refusal) → ⊥
end_refuses true members m h refusal may = cc
end_refuses false members m h refusal may = may

end_is_reply : (repeated : Bool) (m : ℕ) (q : Past) (reply : Reply) → MayGive end_arrival repeated m q reply → IsReply reply
end_is_reply repeated m q (Refused NoMemory) may = absurd (cc)
end_is_reply repeated m q (Refused refusal) may = let then_ = begun_past repeated end_arrival m q in end_refuses (is_cancelled then_.events) then_.terms.members m then_.events refusal may
end_is_reply repeated m q _ may = tt

end_room_alike : (tests : Seen → List Test) (repeated : Bool) (reply : Reply) (n : ℕ) → IsReply reply → room_after repeated (ending tests end_arrival) reply n ≡ room_after repeated end_arrival reply n
end_room_alike tests repeated reply n is = room_asked_for (ending tests end_arrival) repeated reply n (λ given lost. refl) is ∙ sym (room_asked_for end_arrival repeated reply n (λ given lost. refl) is)

construct_end_stands : {S : Type 0} (stands : S → List Event → Type 0) (shares : S) (board : BoardView) (tests : Seen → List Test) (repeated : Bool) (m : ℕ) (p : Past) (reply : Reply) → IsReply reply →
    ServersStand stands shares board (past_given end_arrival repeated m (left_past repeated m p) reply) → ServersStand stands shares board (past_given (ending tests end_arrival) repeated m p reply)
construct_end_stands stands shares board tests repeated m p reply is st =
    let row = ending tests end_arrival in
    let there = left_past repeated m p in
    parts_stand_alike stands shares board (past_given end_arrival repeated m there reply) (past_given row repeated m p reply) (given_terms row repeated m p reply ∙ sym (given_terms end_arrival repeated m there reply))
    (given_events row repeated m p reply is ∙ ap (λ (q : Past). end_arrival.gives m q reply ++ q.events) (begun_alike_left tests repeated m p) ∙ sym (given_events end_arrival repeated m there reply is))
    (given_room row repeated m p reply is ∙ end_room_alike tests repeated reply p.room is ∙ sym (given_room end_arrival repeated m there reply is)) st

pub end_answers : {S : Type 0} (stands : S → List Event → Type 0) (shares after : S) → ((h : List Event) (event : Event) → SharesAside event → stands after h → stands after (event ∷ h)) →
    (tests : Seen → List Test) (manner : Manner) (m : ℕ) (board board_after : BoardView) (reply : Reply) → m < members_of board → SomeServersAdmit stands shares board (ending tests end_arrival) manner m →
    ((h : List Event) → stands shares h → stands after (left_once manner.repeated m h)) → (manner.repeated ≡ true → after ≡ shares) →
    ((h : List Event) → stands shares h → Performs (arrival_op manner.repeated manner.leaving.region (tag_with ShareEnd (shares_entered m h))) m board board_after reply) →
    ((p : Past) → ServersAdmitMember (ending tests end_arrival) manner.repeated m board p → manner.repeated ≡ false → ARRIVAL_ROOM ≤ room_left (open_share m p.events)) → AnswersCall (record { stands = stands; row = ending tests end_arrival; manner = manner; m = m }) shares after board board_after reply
end_answers stands shares after aside tests manner m board board_after reply low (p0, parts0, ready0, made0) left kept performs needs =
    let repeated = manner.repeated in
    let leaving = manner.leaving.region in
    let op : Past → Op = λ p. arrival_op repeated leaving (tag_with ShareEnd (shares_entered m p.events)) in
    let given : (p : Past) → ServersStand stands shares board p → ServersAdmitMember (ending tests end_arrival) repeated m board p → MayGive end_arrival repeated m (left_past repeated m p) reply = λ p parts ready.
    op_gives_reply stands after aside (op p) end_arrival repeated m board board_after (left_past repeated m p) low (parts_left stands shares after repeated m board p (left p.events parts.shares_are) parts)
    (end_is_op stands shares tests repeated leaving m board p parts ready (needs p ready)) reply (performs p.events parts.shares_are) in
    let is = end_is_reply repeated m (left_past repeated m p0) reply (given p0 parts0 ready0) in
    let there = performs p0.events parts0.shares_are in
    record {
      leaves = op_leaves_board (op p0) m board board_after reply there;
      waits = λ again wait. (kept again, there.waits wait (arrival_goes_on ShareEnd m repeated leaving p0.events again));
      lacks = λ lack. absurd (not_refused reply NoMemory is lack);
      refuses = λ refusal refused. absurd (not_refused reply refusal is refused);
      answer = λ p parts ready made. end_may tests repeated m p reply (given p parts ready);
      stands_for = λ p parts ready made. construct_end_stands stands after board_after tests repeated m p reply is
          (op_stands stands after aside (op p) end_arrival repeated m board board_after (left_past repeated m p) low (parts_left stands shares after repeated m board p (left p.events parts.shares_are) parts)
          (end_is_op stands shares tests repeated leaving m board p parts ready (needs p ready)) reply (performs p.events parts.shares_are));
      keeps = λ wait. tt;
    }

-- of a loop's, and of that of sections
pub loop_end_needs : (kind : EndKind) (repeated : Bool) (m : ℕ) (board : BoardView) (p : Past) → ARRIVAL_ROOM ≤ end_room kind → ServersAdmitMember (ending (end_tests kind) end_arrival) repeated m board p → repeated ≡ false → ARRIVAL_ROOM ≤ room_left (open_share m p.events)
loop_end_needs kind repeated m board p barrier ready first =
    let fails = all_fail (end_tests kind (seen_of m p.events)) (ready.admitted.place (ap not first) refl) in
    wait_needs_room kind (open_share m p.events) is_loop barrier (not_false (in_kind is_loop (open_share m p.events)) fails.0) fails.1.1.0

pub sections_end_needs : (kind : EndKind) (repeated : Bool) (m : ℕ) (board : BoardView) (p : Past) → ARRIVAL_ROOM ≤ end_room kind → ServersAdmitMember (ending (sections_end_tests kind) end_arrival) repeated m board p → repeated ≡ false → ARRIVAL_ROOM ≤ room_left (open_share m p.events)
sections_end_needs kind repeated m board p barrier ready first =
    let fails = all_fail (sections_end_tests kind (seen_of m p.events)) (ready.admitted.place (ap not first) refl) in
    wait_needs_room kind (open_share m p.events) is_sections barrier (not_false (in_kind is_sections (open_share m p.events)) fails.0) fails.1.0

-- The words of a single

copy_needs_room : (share : Option (ℕ × Shape)) → in_kind is_copy share ≡ true → 1 ≤ room_left share
copy_needs_room None copies = absurd (cc)
copy_needs_room (Some (i, shape)) copies =
    let one : share_words_room (is_copy shape.kind) ≡ 1 = ap share_words_room copies in
    omega (arith, one)

in_its_share : (share : Option (ℕ × Shape)) (is : ShareKind → Bool) → in_kind is share ≡ true → (shape : Shape) × (share ≡ Some (share_number share, shape))
in_its_share None is inside = absurd (cc)
in_its_share (Some (i, shape)) is inside = (shape, refl)

none_asked : (kept : ℕ) → 1 ≤ kept → words_ask kept ≡ 0
none_asked kept low = let enough : nat_le 1 kept ≡ true = grind (arith, nat_tests) in rw enough refl

-- after an end no room is kept for the member's share, and for others as before
left_kept : (m k share : ℕ) (h : List Event) (n : ℕ) → (k ≢ m → room_left (open_share k h) ≤ n) → room_left (open_share k (End share m ∷ h)) ≤ n
left_kept m k share h n others = elim (cases_eq k m) [
  | inl same ↦ rw (same, same_number m) (omega arith)
  | inr other ↦ rw (other_number m k (λ e. other (sym e))) (others other)
]

module _ {S : Type 0} (stands : S → List Event → Type 0) (shares : S) (words : List ℕ) (m : ℕ) (board : BoardView) (p : Past) (parts : ServersStand stands shares board p) (ready : ServersAdmitMember (single_copy_end_row words) false m board p) where
  put_inside : in_kind is_copy (open_share m p.events) ≡ true
  put_inside =
      let fails = all_fail (put_tests (seen_of m p.events)) (ready.admitted.place refl refl) in
      and_left (in_kind is_copy (open_share m p.events)) _ (not_false (is_executor (seen_of m p.events)) fails.0)

  put_kept : 1 ≤ kept_by m board
  put_kept = let needs = copy_needs_room (open_share m p.events) put_inside in let kept = parts.kept m in omega (arith, needs, kept)

  put_fine : op_refusal board.limits board.room (kept_by m board) m (ops.Put (open_number m p.events) words) p.events ≡ None
  put_fine =
      let tests = tests_of_board (single_copy_end_row words) false m board p ready in
      op_fine board.limits board.room (kept_by m board) m (ops.Put (open_number m p.events) words) p.events ready.inside ready.whole
      (waits_nowhere (single_copy_end_row words) false m board p refl (λ q may. cc) ready, (tests.0, (rw (none_asked (kept_by m board) put_kept) refl, tt)))

pub put_is_admitted : {S : Type 0} (stands : S → List Event → Type 0) (shares : S) (words : List ℕ) (manner : Manner) (m : ℕ) (board : BoardView) → SomeServersAdmit stands shares board (single_copy_end_row words) manner m →
    (h : List Event) × stands shares h × IsOpAdmittedOnce (ops.Put (open_number m h) words) m board
put_is_admitted stands shares words manner m board (p, parts, ready, made) =
    let row = single_copy_end_row words in
    let once = made_once row manner.repeated m board p (λ q given may. rw may refl) ready in
    (p.events, parts.shares_are, (p.events, parts.board_is, put_fine stands shares words m board p parts (subst (λ (b : Bool). ServersAdmitMember row b m board p) once ready)))

module _ {S : Type 0} (stands : S → List Event → Type 0) (shares after : S) (aside : (h : List Event) (event : Event) → SharesAside event → stands shares h → stands shares (event ∷ h)) (words : List ℕ) (m : ℕ) (board board_after : BoardView) (p : Past)
    (low : m < members_of board) (parts : ServersStand stands shares board p) (ready : ServersAdmitMember (single_copy_end_row words) false m board p) where
  put_answered : (reply : Reply) → OpAnswer board.limits board.room (kept_by m board) (members_of board) m (ops.Put (open_number m p.events) words) p.events reply → reply ≡ Finished
  put_answered (Refused refusal) answer =
      let memory = refused_for_memory board.limits board.room (kept_by m board) (members_of board) m (ops.Put (open_number m p.events) words) p.events refusal (put_fine stands shares words m board p parts ready) answer in
      let asked = room_was_asked (ops.Put (open_number m p.events) words) (kept_by m board) m p.events (memory_was_asked board.limits board.room (kept_by m board) (members_of board) m (ops.Put (open_number m p.events) words) p.events (subst (λ (r : Refusal). OpAnswer board.limits board.room (kept_by m board) (members_of board) m (ops.Put (open_number m p.events) words) p.events (Refused r)) memory answer)) in
      let none = none_asked (kept_by m board) (put_kept stands shares words m board p parts ready) in
      absurd (omega (arith, asked, none))
  put_answered _ answer = answer.1

  pub put_finishes : (reply : Reply) → Performs (ops.Put (open_number m p.events) words) m board board_after reply → reply ≡ Finished
  put_finishes reply performs = put_answered reply (performs.answer p.events parts.board_is)

  pub put_stands : ((h : List Event) → stands shares h → stands after (events_left m h)) → Performs (ops.Put (open_number m p.events) words) m board board_after Finished → ServersStand stands after board_after (past_given (single_copy_end_row words) false m p Finished)
  put_stands left performs =
      let h = p.events in
      let own = Put (open_number m h) m words in
      let made = room_made (ops.Put (open_number m h) words) m board board_after Finished performs tt refl in
      let none = none_asked (kept_by m board) (put_kept stands shares words m board p parts ready) in
      let same = parts.room in
      let there = in_its_share (open_share m h) is_copy (put_inside stands shares words m board p parts ready) in
      parts_at stands after board_after (past_given (single_copy_end_row words) false m p Finished) p.terms (End (open_number m h) m ∷ own ∷ h) (p.room + 0) refl refl refl
      (left (own ∷ h) (aside h own tt parts.shares_are))
      (event_aside_keeps_board board_after (own ∷ h) (End (open_number m h) m) tt (performs.stands h parts.board_is))
      (parts.members ∙ sym performs.members) (parts.limits ∙ sym performs.limits) (omega (arith, made, none, same))
      (λ k. left_kept m k (open_number m h) (own ∷ h) (kept_by k board_after) (λ other. subst (λ (n : ℕ). room_left (open_share k h) ≤ n) (sym (others_kept (ops.Put (open_number m h) words) m k board board_after Finished performs other)) (parts.kept k)))
      (tt, (there, parts.puts))

pub put_answers : {S : Type 0} (stands : S → List Event → Type 0) (shares after : S) → ((h : List Event) (event : Event) → SharesAside event → stands shares h → stands shares (event ∷ h)) →
    (words : List ℕ) (manner : Manner) (m : ℕ) (board board_after : BoardView) (reply : Reply) → m < members_of board → SomeServersAdmit stands shares board (single_copy_end_row words) manner m →
    ((h : List Event) → stands shares h → Performs (ops.Put (open_number m h) words) m board board_after reply) → ((h : List Event) → stands shares h → stands after (events_left m h)) →
    AnswersCall (record { stands = stands; row = single_copy_end_row words; manner = manner; m = m }) shares after board board_after reply
put_answers stands shares after aside words manner m board board_after reply low (p0, parts0, ready0, made0) performs left =
    let row = single_copy_end_row words in
    let there = performs p0.events parts0.shares_are in
    let once = made_once row manner.repeated m board p0 (λ q given may. rw may refl) ready0 in
    let first : (p : Past) → ServersAdmitMember row manner.repeated m board p → ServersAdmitMember row false m board p = λ p. subst (λ (b : Bool). ServersAdmitMember row b m board p) once in
    let done = put_finishes stands shares after aside words m board board_after p0 low parts0 (first p0 ready0) reply there in
    record {
      leaves = op_leaves_board (ops.Put (open_number m p0.events) words) m board board_after reply there;
      waits = λ again wait. absurd (let both = sym again ∙ once in cc);
      lacks = λ lack. absurd (let both = sym done ∙ lack in cc);
      refuses = λ refusal refused. absurd (let both = sym done ∙ refused in cc);
      answer = λ p parts ready made. subst (λ (r : Reply). MayGive row manner.repeated m p r) (sym done) refl;
      stands_for = λ p parts ready made. subst (λ (b : Bool). ServersStand stands after board_after (past_given row b m p reply)) (sym once) (subst (λ (r : Reply). ServersStand stands after board_after (past_given row false m p r)) (sym done)
          (put_stands stands shares after aside words m board board_after p low parts (first p ready) left (subst (λ (r : Reply). Performs (ops.Put (open_number m p.events) words) m board board_after r) done (performs p.events parts.shares_are))));
      keeps = λ wait. tt;
    }

-- Calls on the shares

-- a start has its room
room_fits : (starts : Option Shape) (room kept n : ℕ) → IfSome starts (λ (shape : Shape). share_room shape ≤ room) → n ≡ kept + room → IfSome starts (λ (shape : Shape). share_room shape ≤ n)
room_fits None room kept n fits is = tt
room_fits (Some shape) room kept n fits is = omega (arith, fits, is)

kept_room_fits : (starts : Option Shape) (kept n : ℕ) → IfSome starts (λ (shape : Shape). share_room shape ≤ kept) → n ≡ kept + 0 → IfSome starts (λ (shape : Shape). share_room shape ≤ n)
kept_room_fits None kept n fits is = tt
kept_room_fits (Some shape) kept n fits is = omega (arith, fits, is)

pub start_has_room : (row : Row) (repeated : Bool) (m : ℕ) (board kept : BoardView) → IfSome row.starts (λ (shape : Shape). share_room shape ≤ row.room) → KeepsMore (asked_once repeated row.room) m board kept → (repeated ≡ true → KeepsStart row m board) → KeepsStart row m kept
start_has_room row true m board kept fits more ready = kept_room_fits row.starts (kept_by m board) (kept_by m kept) (ready refl) more.own
start_has_room row false m board kept fits more ready = room_fits row.starts row.room (kept_by m board) (kept_by m kept) fits more.own

kept_at_least : (more m k : ℕ) (board kept : BoardView) → KeepsMore more m board kept → kept_by k board ≤ kept_by k kept
kept_at_least more m k board kept keeps = elim (cases_eq k m) [
  | inl same ↦ let own = keeps.own in rw same (omega (arith, own))
  | inr other ↦ let same = keeps.others k other in omega (arith, same)
]

more_leaves : (more m : ℕ) (board kept : BoardView) → KeepsMore more m board kept → LeavesBoard m board kept
more_leaves more m board kept keeps = record { members = keeps.members; limits = keeps.limits; others = keeps.others }

asked_nothing : (repeated : Bool) (room : ℕ) → repeated ≡ true → asked_once repeated room ≡ 0
asked_nothing true room again = refl
asked_nothing false room again = absurd (cc)

pub admitted_goes_on : (row : Row) (repeated : Bool) (m : ℕ) (board : BoardView) (p : Past) → ServersAdmitMember row repeated m board p → GoesOn row repeated m p
admitted_goes_on row repeated m board p ready = record { compared = ready.admitted.compared; waits = ready.admitted.waits }

served_is_reply : (row : Row) (repeated : Bool) (m : ℕ) (p : Past) (reply : Reply) → ((refusal : Refusal) → MayReply row repeated m p (Refused refusal) → ⊥) → MayReply row repeated m p reply → IsReply reply
served_is_reply row repeated m p (Refused refusal) accepts may = accepts refusal may
served_is_reply row repeated m p _ accepts may = tt

pub share_answers : {S : Type 0} (stand : List Event → Type 0) (stands : S → List Event → Type 0) (members : ℕ) (shares after : S) (row : Row) (manner : Manner) (m : ℕ) (board kept : BoardView) (reply : Reply) → members_of board ≡ members →
    KeepsAll row → IfSome row.starts (λ (shape : Shape). share_room shape ≤ row.room) → SomeServersAdmit stands shares board row manner m → KeepsMore (asked_once manner.repeated row.room) m board kept → ((p : Past) → ServersStand stands shares board p → stand p.events) →
    SharesServe (record { stand = stand; stands = stands; members = members; allowed = manner.allowed }) shares after row m reply → GivesShareEvents row m reply → AnswersCall (record { stands = stands; row = row; manner = manner; m = m }) shares after board kept reply
share_answers stand stands members shares after row manner m board kept reply size all fits (p0, parts0, ready0, made0) more known serves events =
    let repeated = manner.repeated in
    let may : (p : Past) → ServersStand stands shares board p → ServersAdmitMember row repeated m board p → IsMadeSo manner m p → MayReply row repeated m p reply = λ p parts ready made. serves.answer repeated p (parts.members ∙ size) made.allowed (known p parts) (admitted_goes_on row repeated m board p ready) in
    let is = served_is_reply row repeated m p0 reply (serves.accepts repeated p0) (may p0 parts0 ready0 made0) in
    record {
      leaves = more_leaves (asked_once repeated row.room) m board kept more;
      waits = λ again wait. (serves.waits wait, more.nothing (asked_nothing repeated row.room again));
      lacks = λ lack. absurd (not_refused reply NoMemory is lack);
      refuses = λ refusal refused. absurd (not_refused reply refusal is refused);
      answer = λ p parts ready made. may_be_given row repeated m p reply is (may p parts ready made);
      stands_for = λ p parts ready made.
          let begins = unless_repeated (row.begins m p) repeated in
          let gives = row.gives m (begun_past repeated row m p) reply in
          let are_begun = (events repeated p parts.board_is.sealed).0 in
          let are_given = (events repeated p parts.board_is.sealed).1 in
          let has = start_has_room row repeated m board kept fits more ready.kept in
          let same = parts.room in let made_room = more.room in
          parts_at stands after kept (past_given row repeated m p reply) p.terms (gives ++ (begins ++ p.events)) (p.room + asked_once repeated row.room) (given_terms row repeated m p reply) (given_events row repeated m p reply is) (given_room row repeated m p reply is ∙ room_asked_for row repeated reply p.room all is)
          (serves.stands_for repeated p (parts.members ∙ size) made.allowed (known p parts) (admitted_goes_on row repeated m board p ready))
          (events_aside_keep_board kept (begins ++ p.events) gives (share_events_aside m row.starts gives are_given) (events_aside_keep_board kept p.events begins (share_events_aside m row.starts begins are_begun) (more.stands p.events parts.board_is)))
          (parts.members ∙ sym more.members) (parts.limits ∙ sym more.limits) (omega (arith, same, made_room))
          (λ k.
          let own : k ≡ m → IfSome row.starts (λ (shape : Shape). share_room shape ≤ kept_by k kept) = λ e. subst (λ (x : ℕ). IfSome row.starts (λ (shape : Shape). share_room shape ≤ kept_by x kept)) (sym e) has in
          let least = parts.kept k in let enough = kept_at_least (asked_once repeated row.room) m k board kept more in
          kept_after_events m k (kept_by k kept) row.starts gives (begins ++ p.events) are_given own (kept_after_events m k (kept_by k kept) row.starts begins p.events are_begun own (omega (arith, least, enough))))
          (puts_stay_inside gives (begins ++ p.events) (share_events_aside m row.starts gives are_given) (puts_stay_inside begins p.events (share_events_aside m row.starts begins are_begun) parts.puts));
      keeps = λ wait. start_has_room row repeated m board kept fits more ready0.kept;
    }

-- A single with words for the other members

-- the parts as such a start asks for them, in a region that is cancelled or not
abbrev pub WordsStand : {S : Type 0} → (S → List Event → Type 0) → S → BoardView → Bool → List Event → Type 0
WordsStand stands shares board cancelled h = stands shares h × BoardStands board h × Always PutsInside h × (is_cancelled h ≡ cancelled)

-- the events once the member has entered the single and found it executed
abbrev pub entered_after : ℕ → List Event → List Event
entered_after m h = Drained (shares_entered m h) m ∷ Enter (shares_entered m h) m (single_shape true) ∷ h

-- the words are noted between the entry and the end
module _ {S : Type 0} (stands : S → List Event → Type 0) (shares after : S) (members : ℕ) (allowed cancelled repeated : Bool) (m : ℕ) (board kept board_after : BoardView) (words : List ℕ) (noted : Reply) (low : m < members_of board) (size : members_of board ≡ members)
    (more : KeepsMore (asked_once repeated 1) m board kept) (serves : SharesServe (record { stand = WordsStand stands shares kept cancelled; stands = stands; members = members; allowed = allowed }) shares after single_copy_start_row m (Copied words)) (p : Past) (parts : ServersStand stands shares board p) (ready : ServersAdmitMember single_copy_start_row repeated m board p)
    (tells : is_cancelled p.events ≡ cancelled) (allows : p.terms.cancellation ≡ allowed) (performs : Performs (ops.Got (shares_entered m p.events) words) m kept board_after noted) where
  gift_kept : 1 ≤ kept_by m kept
  gift_kept = start_has_room single_copy_start_row repeated m board kept (omega arith) more ready.kept

  entered_stand : BoardStands kept (entered_after m p.events)
  entered_stand = events_aside_keep_board kept p.events (Drained (shares_entered m p.events) m ∷ Enter (shares_entered m p.events) m (single_shape true) ∷ []) (tt, (tt, tt)) (more.stands p.events parts.board_is)

  gift_fine : op_refusal kept.limits kept.room (kept_by m kept) m (ops.Got (shares_entered m p.events) words) (entered_after m p.events) ≡ None
  gift_fine =
      op_fine kept.limits kept.room (kept_by m kept) m (ops.Got (shares_entered m p.events) words) (entered_after m p.events) ready.inside ready.whole
      (waits_nowhere single_copy_start_row repeated m board p refl (copy_is_share_row.stops m) ready, (rw (none_asked (kept_by m kept) gift_kept) refl, tt))

  gift_answered : (reply : Reply) → OpAnswer kept.limits kept.room (kept_by m kept) (members_of kept) m (ops.Got (shares_entered m p.events) words) (entered_after m p.events) reply → IsReply reply
  gift_answered (Refused refusal) answer =
      let memory = refused_for_memory kept.limits kept.room (kept_by m kept) (members_of kept) m (ops.Got (shares_entered m p.events) words) (entered_after m p.events) refusal gift_fine answer in
      let asked = room_was_asked (ops.Got (shares_entered m p.events) words) (kept_by m kept) m (entered_after m p.events) (memory_was_asked kept.limits kept.room (kept_by m kept) (members_of kept) m (ops.Got (shares_entered m p.events) words) (entered_after m p.events)
      (subst (λ (r : Refusal). OpAnswer kept.limits kept.room (kept_by m kept) (members_of kept) m (ops.Got (shares_entered m p.events) words) (entered_after m p.events) (Refused r)) memory answer)) in
      let none = none_asked (kept_by m kept) gift_kept in
      absurd (omega (arith, asked, none))
  gift_answered _ answer = tt

  pub gift_is_noted : IsReply noted
  gift_is_noted = gift_answered noted (performs.answer (entered_after m p.events) entered_stand)

  gift_board : BoardStands board_after (End (shares_entered m p.events) m ∷ Got (shares_entered m p.events) m words ∷ (entered_after m p.events))
  gift_board =
      event_aside_keeps_board board_after (Got (shares_entered m p.events) m words ∷ (entered_after m p.events)) (End (shares_entered m p.events) m) tt
      (subst (λ (es : List Event). BoardStands board_after es) (after_reply m (ops.Got (shares_entered m p.events) words) noted (entered_after m p.events) gift_is_noted) (performs.stands (entered_after m p.events) entered_stand))

  pub gift_stands : ServersStand stands after board_after (past_given single_copy_start_row repeated m p (Copied words))
  gift_stands =
      let h = p.events in let n = shares_entered m h in
      let made = room_made (ops.Got n words) m kept board_after noted performs gift_is_noted refl in
      let none = none_asked (kept_by m kept) gift_kept in
      let same = parts.room in let roomy = more.room in
      parts_at stands after board_after (past_given single_copy_start_row repeated m p (Copied words)) p.terms (End n m ∷ Got n m words ∷ (entered_after m p.events)) (p.room + asked_once repeated 1) refl refl (given_room single_copy_start_row repeated m p (Copied words) tt ∙ room_asked_for single_copy_start_row repeated (Copied words) p.room (λ reply lost. keeps_all reply lost) tt)
      (serves.stands_for repeated p (parts.members ∙ size) allows (parts.shares_are, more.stands h parts.board_is, parts.puts, tells) (admitted_goes_on single_copy_start_row repeated m board p ready))
      gift_board (parts.members ∙ sym more.members ∙ sym performs.members) (parts.limits ∙ sym more.limits ∙ sym performs.limits) (omega (arith, made, none, same, roomy))
      (λ k. left_kept m k n (Got n m words ∷ (entered_after m p.events)) (kept_by k board_after) (λ other.
      let away : (m == k) ≡ false = other_number m k (λ e. other (sym e)) in
      let others = others_kept (ops.Got n words) m k kept board_after noted performs other in
      let before = more.others k other in let least = parts.kept k in
      rw away (omega (arith, others, before, least))))
      (tt, (tt, (tt, (tt, parts.puts))))

-- no test refuses the gift of any words
pub gift_is_admitted : {S : Type 0} (stands : S → List Event → Type 0) (shares : S) (manner : Manner) (m n : ℕ) (board kept : BoardView) → SomeServersAdmit stands shares board single_copy_start_row manner m → KeepsMore (asked_once manner.repeated 1) m board kept →
    (words : List ℕ) → IsOpAdmittedOnce (ops.Got n words) m kept
gift_is_admitted stands shares manner m n board kept (p, parts, ready, made) more words =
    let enough : 1 ≤ kept_by m kept = start_has_room single_copy_start_row manner.repeated m board kept (omega arith) more ready.kept in (
      p.events,
      more.stands p.events parts.board_is,
      op_fine kept.limits kept.room (kept_by m kept) m (ops.Got n words) p.events ready.inside ready.whole
          (waits_nowhere single_copy_start_row manner.repeated m board p refl (copy_is_share_row.stops m) ready, (rw (none_asked (kept_by m kept) enough) refl, tt)),
    )

gift_leaves : (more m share : ℕ) (words : List ℕ) (noted : Reply) (board kept after : BoardView) → KeepsMore more m board kept → Performs (ops.Got share words) m kept after noted → LeavesBoard m board after
gift_leaves more m share words noted board kept after keeps performs = record {
  members = performs.members ∙ keeps.members;
  limits = performs.limits ∙ keeps.limits;
  others = λ k other. others_kept (ops.Got share words) m k kept after noted performs other ∙ keeps.others k other;
}

-- a reply that gives no words
abbrev pub GivesNoWords : Reply → Type 0
GivesNoWords (Copied words) = ⊥
GivesNoWords _ = Unit {0}

copy_deals : (m n : ℕ) (starts : Option Shape) (shape : Shape) (reply : Reply) → GivesNoWords reply → AreShareEvents m starts (copy_given n shape m reply)
copy_deals m n starts shape (Copied words) none = absurd none
copy_deals m n starts shape (Executor true) none = (tt, tt)
copy_deals m n starts shape (Executor false) none = tt
copy_deals m n starts shape _ none = tt

copy_share_events : (m : ℕ) (reply : Reply) → GivesNoWords reply → GivesShareEvents single_copy_start_row m reply
copy_share_events m reply none = λ repeated p sealed. (
  tt,
  cut_share_events m (Some (single_shape true)) reply _
      (behind_entry m (shares_entered m p.events) (single_shape true) (copy_given (shares_entered m p.events) (single_shape true) m reply) (copy_deals m (shares_entered m p.events) (Some (single_shape true)) (single_shape true) reply none)),
)

uncopied_answers : {S : Type 0} (stands : S → List Event → Type 0) (shares after : S) (members : ℕ) (cancelled : Bool) (manner : Manner) (m : ℕ) (board kept board_after : BoardView) {reply : Reply} → members_of board ≡ members → SomeServersAdmit stands shares board single_copy_start_row manner m →
    KeepsMore (asked_once manner.repeated 1) m board kept → ((p : Past) → ServersStand stands shares board p → is_cancelled p.events ≡ cancelled) → SharesServe (record { stand = WordsStand stands shares kept cancelled; stands = stands; members = members; allowed = manner.allowed }) shares after single_copy_start_row m reply → GivesNoWords reply → board_after ≡ kept →
    AnswersCall (record { stands = stands; row = single_copy_start_row; manner = manner; m = m }) shares after board board_after reply
uncopied_answers stands shares after members cancelled manner m board kept board_after {reply} size ready more tells serves none same =
    subst (λ (b : BoardView). AnswersCall (record { stands = stands; row = single_copy_start_row; manner = manner; m = m }) shares after board b reply) (sym same)
    (share_answers (WordsStand stands shares kept cancelled) stands members shares after single_copy_start_row manner m board kept reply size (λ given lost. keeps_all given lost) (omega arith) ready more
    (λ p parts. (parts.shares_are, more.stands p.events parts.board_is, parts.puts, tells p parts)) serves (copy_share_events m reply none))

pub copy_answers : {S : Type 0} (stands : S → List Event → Type 0) (shares after : S) (members : ℕ) (cancelled : Bool) (manner : Manner) (m : ℕ) (board kept board_after : BoardView) (reply : Reply) → m < members_of board → members_of board ≡ members → SomeServersAdmit stands shares board single_copy_start_row manner m →
    KeepsMore (asked_once manner.repeated 1) m board kept → ((p : Past) → ServersStand stands shares board p → is_cancelled p.events ≡ cancelled) → SharesServe (record { stand = WordsStand stands shares kept cancelled; stands = stands; members = members; allowed = manner.allowed }) shares after single_copy_start_row m reply →
    ((h : List Event) → stands shares h → NotesWords (shares_entered m h) m reply kept board_after) → AnswersCall (record { stands = stands; row = single_copy_start_row; manner = manner; m = m }) shares after board board_after reply
copy_answers stands shares after members cancelled manner m board kept board_after (Copied words) low size (p0, parts0, ready0, made0) more tells serves notes =
    let (noted, performs) = notes p0.events parts0.shares_are in
    record {
      leaves = gift_leaves (asked_once manner.repeated 1) m (shares_entered m p0.events) words noted board kept board_after more performs;
      waits = λ again wait. absurd (cc);
      lacks = λ lack. absurd (cc);
      refuses = λ refusal refused. absurd (cc);
      answer = λ p parts ready made. serves.answer manner.repeated p (parts.members ∙ size) made.allowed (parts.shares_are, more.stands p.events parts.board_is, parts.puts, tells p parts) (admitted_goes_on single_copy_start_row manner.repeated m board p ready);
      stands_for = λ p parts ready made. let (noted_there, performs_there) = notes p.events parts.shares_are in
          gift_stands stands shares after members manner.allowed cancelled manner.repeated m board kept board_after words noted_there low size more serves p parts ready (tells p parts) made.allowed performs_there;
      keeps = λ wait. absurd (cc);
    }
copy_answers stands shares after members cancelled manner m board kept board_after _ low size (p0, parts0, ready0, made0) more tells serves notes =
    uncopied_answers stands shares after members cancelled manner m board kept board_after size (p0, parts0, ready0, made0) more tells serves tt (notes p0.events parts0.shares_are)

-- a reply that is cut gives the words that it did
pub cut_notes : (cancelled : Bool) (share m : ℕ) (reply : Reply) (board after : BoardView) → NotesWords share m reply board after → NotesWords share m (cut_reply cancelled reply) board after
cut_notes true share m Wait board after notes = notes
cut_notes true share m _ board after notes = notes
cut_notes false share m reply board after notes = notes
