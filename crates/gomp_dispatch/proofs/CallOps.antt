-- Which operation on the board a call is: an arrival, a call on tasks and groups, or a construct that cancels.
use Rattle.std.proofs.Common.{◌≡◌, ◌<◌, ℕ, ◌+◌, Bool, true, false, List, [], ◌∷◌, ◌++◌, Option, Some, None, refl, ap, sym, subst, ◌∙◌, arith}
use Rattle.gomp_types.specs.declared.call.Server.TheVariants.{Board as OfBoard}
use Rattle.gomp_types.specs.Servers.{kind_served_by, served_by}
use Rattle.std.specs.Prelude.{◌&&◌, not, is_some}
use Rattle.gomp_types.specs.declared.call.Call.{Call}
use Rattle.gomp_types.specs.declared.call.Call.TheVariants as calls
use Rattle.gomp_types.specs.declared.cancel.CancelKind.{CancelKind}
use Rattle.gomp_types.specs.declared.cancel.CancelKind.TheVariants as kinds
use Rattle.gomp_types.specs.declared.depend.Dep.{Dep}
use Rattle.gomp_types.specs.declared.limits.Limits.{Limits}
use Rattle.gomp_types.specs.declared.task.Task.{Task}
use Rattle.gomp_types.specs.declared.task.Task.TheVariants.{Implicit, Explicit}
use Rattle.gomp_types.specs.declared.task.TaskDesc.{TaskDesc}
use Rattle.gomp_types.specs.declared.refusal.Place.TheVariants.{Stopped as AtStop}
use Rattle.gomp_types.specs.declared.reply.Reply.{Reply}
use Rattle.gomp_types.specs.declared.reply.Reply.TheVariants.{Passed, Stopped, Cancelled, Dropped, Cancelling, Refused}
use Rattle.gomp_events.specs.declared.event.Arrival.{Arrival}
use Rattle.gomp_events.specs.declared.event.Arrival.TheVariants.{Barrier, RegionEnd}
use Rattle.gomp_events.specs.declared.event.Event.{Event}
use Rattle.gomp_events.specs.declared.event.Event.TheVariants.{Arrive, See}
use Rattle.gomp_events.specs.declared.event.Tag.{Tag}
use Rattle.gomp_types.specs.Tests.{Test}
use Rattle.gomp_events.specs.Cancels.{is_cancelled, leaves_region, leaves_task}
use Rattle.gomp_events.specs.CancelCalls.{cancel_tests, OrIsCancelled, AnswersCreation, CreatesOrDrops, creates_covered, creates_uncovered, unless_cancelled, sees_cancelled, tells_cancelled}
use Rattle.gomp_events.specs.Tags.{tag_with}
use Rattle.gomp_events.specs.Events.{shares_entered, barriers_passed, at_region_end, is_region_end}
use Rattle.gomp_events.specs.Goals.{may_pass}
use Rattle.gomp_events.specs.Tasks.{executed_task, is_undeferred, newest_child}
use Rattle.gomp_events.specs.TaskCalls.{AwaitsTasks, AnswersCreator, EndsTask, unless_given_up, group_open_tests, end_task_tests, create_tests, room_tests}
use Rattle.gomp_types.proofs.Booleans.{some_of, same_number, and_true_is_the_same}
use Rattle.gomp_types.proofs.LeastTests.{AllFail, all_fail, fail_first, both_lists_fail}
use Rattle.gomp_model.specs.Past.{Past}
use Rattle.gomp_model.specs.Row.{Row, asked_tests, board_tests, begun_past, unless_repeated, goes_on, room_after}
use Rattle.gomp_model.specs.Arrivals.{compared_arrival, passes, barrier_row, region_end_row}
use Rattle.gomp_model.specs.Tasks.{task_create_row, task_end_row, taskwait_row, group_start_row, group_end_row}
use Rattle.gomp_model.specs.Cancels.{cancel_row, point_row}
use Rattle.gomp_model.specs.Calls.{row_of, stop_row}
use Rattle.gomp_board.specs.declared.op.Op.{Op}
use Rattle.gomp_board.specs.declared.op.Op.TheVariants as ops
use Rattle.gomp_board.specs.declared.op.TeamCancel.{TeamCancel}
use Rattle.gomp_board.specs.declared.op.TeamCancel.TheVariants as named
use Rattle.gomp_board.specs.Ops.{op_asks, op_begins, keeps_room, named_kind, goes_to_the_end, creation_room_tests, op_tests, op_refusal, begun, passes_barrier, goes_on_waiting, cancelled_by, AwaitsPass}
use Rattle.gomp_shares.specs.Calls.{IsNoShareEvent as SharesAside}
use Rattle.gomp_board.specs.Boards.{BoardView, IsOpAdmittedOnce, Performs, members_of, kept_by, op_room_after as board_room_after}
use Rattle.gomp_board.proofs.Taskwaits.{taskwait_goes_on}
use Rattle.gomp_board.proofs.Waiting.{IsReply}
use Rattle.gomp_board.proofs.Performed.{room_of_reply}
use Rattle.gomp_model.proofs.ReplyEvents.{again_none, once_first}
use Rattle.gomp_dispatch.specs.declared.leaving.Manner.{Manner}
use Rattle.gomp_dispatch.specs.Leaves.{IsMadeSo}
use Rattle.gomp_dispatch.specs.Answers.{ServersStand, waits_there, ServersAdmitMember, SomeServersAdmit, AnswersCall}
use Rattle.gomp_dispatch.specs.Serves.{asked_once, arrival_op, IsArrivalAdmitted, create_op, group_op, wait_op, has_no_clause, board_op}
use Rattle.gomp_dispatch.proofs.BoardEvents.{AreBesideBoth}
use Rattle.gomp_dispatch.proofs.OpAnswers.{op_fine, op_is_admitted, IsCallOp, KeepsAll, room_asked_for, room_was_asked, sees_nothing, op_answers}

-- What a ready call has shown

-- a call that never goes on is not repeated
pub made_once : (row : Row) (repeated : Bool) (m : ℕ) (board : BoardView) (p : Past) → ((q : Past) (reply : Reply) → row.may_reply m q reply → goes_on reply ≡ false) → ServersAdmitMember row repeated m board p → repeated ≡ false
made_once row true m board p never ready =
    let (q, reply, goes, may) = ready.admitted.waits refl in
    let both = sym goes ∙ never q reply may in absurd (cc)
made_once row false m board p never ready = refl

pub tests_of_board : (row : Row) (repeated : Bool) (m : ℕ) (board : BoardView) (p : Past) → ServersAdmitMember row repeated m board p → AllFail (board_tests repeated row m p)
tests_of_board row repeated m board p ready = all_fail (board_tests repeated row m p) ready.admitted.tasks

pub neither_waits : (b : Bool) → (b && false) ≡ false
neither_waits true = refl
neither_waits false = refl

-- a member whose call arrives nowhere does not wait at a barrier, unless it stops the team
pub waits_nowhere : (row : Row) (repeated : Bool) (m : ℕ) (board : BoardView) (p : Past) → row.arrives ≡ None → ((q : Past) → row.may_reply m q Stopped → ⊥) → ServersAdmitMember row repeated m board p → waits_there m p.events ≡ false
waits_nowhere row repeated m board p none never ready = ready.away never (ap (λ (a : Option Arrival). repeated && is_some a) none ∙ neither_waits repeated)

-- the board's limits and room are those of the past
module _ {S : Type 0} (stands : S → List Event → Type 0) (shares : S) (row : Row) (repeated : Bool) (m : ℕ) (board : BoardView) (p : Past) (parts : ServersStand stands shares board p) (ready : ServersAdmitMember row repeated m board p) where
  pub admitted_op_fine : (op : Op) → AllFail (op_tests p.terms.limits p.room (kept_by m board) m op p.events) → op_refusal board.limits board.room (kept_by m board) m op p.events ≡ None
  admitted_op_fine op fail =
      op_fine board.limits board.room (kept_by m board) m op p.events ready.inside ready.whole
      (subst (λ (room : ℕ). AllFail (op_tests board.limits room (kept_by m board) m op p.events)) parts.room
      (subst (λ (limits : Limits). AllFail (op_tests limits p.room (kept_by m board) m op p.events)) parts.limits fail))

-- Events and room

-- the operation has begun as the call has
pub begun_alike : (op : Op) (row : Row) (repeated : Bool) (m : ℕ) (p : Past) → op_begins m op p.events ≡ unless_repeated (row.begins m p) repeated → begun m op p.events ≡ (begun_past repeated row m p).events
begun_alike op row repeated m p e = ap (λ (es : List Event). es ++ p.events) e

no_more : (n : ℕ) → n + 0 ≡ n
no_more n = omega arith

-- an operation that asks for as much as its call, each reply to which keeps that
pub room_alike : (op : Op) (row : Row) (repeated : Bool) (kept : ℕ) → ((reply : Reply) → keeps_room op reply ≡ true) → op_asks op kept ≡ asked_once repeated row.room → KeepsAll row → (reply : Reply) (n : ℕ) → IsReply reply → board_room_after op kept reply n ≡ room_after repeated row reply n
room_alike op row repeated kept keeps asks all reply n is = room_of_reply op kept n reply is (keeps reply) ∙ ap (λ (more : ℕ). n + more) asks ∙ sym (room_asked_for row repeated reply n all is)

pub keeps_all : (reply : Reply) → true ≡ false → {A : Type 0} → A
keeps_all reply e = absurd (cc)

none_more : (repeated : Bool) → 0 ≡ asked_once repeated 0
none_more true = refl
none_more false = refl

pub not_lower : {A : Type 0} → 0 < 0 → A
not_lower low = absurd (omega (arith, low))

-- an operation that asks for nothing finds no want of memory
pub asks_none : {A : Type 0} → false ≡ true → A
asks_none e = absurd (cc)

-- Arrivals

pub passes_alike : (m : ℕ) (h : List Event) (reply : Reply) → passes_barrier m h reply ≡ passes m h reply
passes_alike m h Passed = refl
passes_alike m h _ = refl

-- with what the member sees if the region is cancelled
pub cut_passes : (m : ℕ) (h : List Event) (reply : Reply) → sees_cancelled m reply (passes m h reply) ≡ sees_cancelled m reply [] ++ passes_barrier m h reply
cut_passes m h Passed = refl
cut_passes m h Cancelled = refl
cut_passes m h _ = refl

pub sees_beside : (m : ℕ) (reply : Reply) → AreBesideBoth (sees_cancelled m reply [])
sees_beside m Cancelled = (tt, tt, tt)
sees_beside m _ = tt

pub awaits_as_many : (members n m : ℕ) (h : List Event) (reply : Reply) → members ≡ n → AwaitsTasks m (may_pass n m h) h reply → AwaitsTasks m (may_pass members m h) h reply
awaits_as_many members n m h reply same awaits = subst (λ (k : ℕ). AwaitsTasks m (may_pass k m h) h reply) (sym same) awaits

-- a member that has not arrived at the region's end is cut short if the region is cancelled
cut_short_away : (m : ℕ) (h : List Event) → at_region_end m h ≡ false → goes_to_the_end m h ≡ is_cancelled h
cut_short_away m h away = ap (λ (b : Bool). is_cancelled h && not b) away ∙ and_true_is_the_same (is_cancelled h)

cut_short_there : (m : ℕ) (h : List Event) → at_region_end m h ≡ true → goes_to_the_end m h ≡ false
cut_short_there m h there = ap (λ (b : Bool). is_cancelled h && not b) there ∙ neither_waits (is_cancelled h)

-- and it has not, once it has arrived elsewhere or is cut short
away_then : (cut : Bool) (n m : ℕ) (tag : Tag) (h : List Event) → is_region_end tag.kind ≡ false → at_region_end m h ≡ false → at_region_end m (unless_cancelled cut (Arrive n m tag ∷ []) ++ h) ≡ false
away_then true n m tag h other away = away
away_then false n m tag h other away = rw (same_number m, other) away

cut_ends_region : (c : Bool) (kind : Arrival) → is_region_end kind ≡ false → (c && not (is_region_end kind)) ≡ c
cut_ends_region c kind other = ap (λ (b : Bool). c && not b) other ∙ and_true_is_the_same c

-- a cut arrival begins as its call
pub cut_begins : (repeated leaving : Bool) (kind : Arrival) (m : ℕ) (h : List Event) → is_region_end kind ≡ false →
    op_begins m (arrival_op repeated leaving (tag_with kind (shares_entered m h))) h ≡ unless_repeated (unless_cancelled (is_cancelled h) (Arrive (barriers_passed m h) m (tag_with kind (shares_entered m h)) ∷ [])) repeated
cut_begins true leaving kind m h other = sym (again_none (unless_cancelled (is_cancelled h) (Arrive (barriers_passed m h) m (tag_with kind (shares_entered m h)) ∷ [])))
cut_begins false leaving kind m h other =
    let arrives : List Event = Arrive (barriers_passed m h) m (tag_with kind (shares_entered m h)) ∷ [] in
    ap (λ (b : Bool). unless_cancelled b arrives) (cut_ends_region (is_cancelled h) kind other) ∙ sym (once_first (unless_cancelled (is_cancelled h) arrives))

-- and its member has not arrived at the region's end then
pub cut_away : (repeated leaving : Bool) (kind : Arrival) (m : ℕ) (h : List Event) → is_region_end kind ≡ false → at_region_end m h ≡ false → at_region_end m (begun m (arrival_op repeated leaving (tag_with kind (shares_entered m h))) h) ≡ false
cut_away true leaving kind m h other away = away
cut_away false leaving kind m h other away = away_then (is_cancelled h && not (is_region_end kind)) (barriers_passed m h) m (tag_with kind (shares_entered m h)) h other away

-- the wait there is the call's
pub cut_awaits : (members n m : ℕ) (h g : List Event) (reply : Reply) → members ≡ n → h ≡ g → at_region_end m h ≡ false → AwaitsPass n m h reply → OrIsCancelled (is_cancelled g) (AwaitsTasks m (may_pass members m g) g) reply
cut_awaits members n m h g reply same e away awaits =
    subst (λ (es : List Event). OrIsCancelled (is_cancelled es) (AwaitsTasks m (may_pass members m es) es) reply) e
    (subst (λ (k : ℕ). OrIsCancelled (is_cancelled h) (AwaitsTasks m (may_pass k m h) h) reply) (sym same)
    (subst (λ (b : Bool). OrIsCancelled b (AwaitsTasks m (may_pass n m h) h) reply) (cut_short_away m h away) awaits))

end_awaits : (members n m : ℕ) (h g : List Event) (reply : Reply) → members ≡ n → h ≡ g → at_region_end m h ≡ true → AwaitsPass n m h reply → AwaitsTasks m (may_pass members m g) g reply
end_awaits members n m h g reply same e there awaits =
    subst (λ (es : List Event). AwaitsTasks m (may_pass members m es) es reply) e
    (subst (λ (k : ℕ). AwaitsTasks m (may_pass k m h) h reply) (sym same)
    (subst (λ (b : Bool). OrIsCancelled b (AwaitsTasks m (may_pass n m h) h) reply) (cut_short_there m h there) awaits))

pub cut_gives : (m : ℕ) (h g : List Event) (reply : Reply) → h ≡ g → sees_cancelled m reply (passes m g reply) ≡ sees_cancelled m reply [] ++ passes_barrier m h reply
cut_gives m h g reply e = subst (λ (es : List Event). sees_cancelled m reply (passes m es reply) ≡ sees_cancelled m reply [] ++ passes_barrier m h reply) e (cut_passes m h reply)

end_gives : (m : ℕ) (h g : List Event) (reply : Reply) → h ≡ g → passes m g reply ≡ passes_barrier m h reply
end_gives m h g reply e = subst (λ (es : List Event). passes m es reply ≡ passes_barrier m h reply) e (sym (passes_alike m h reply))

pub cut_never_stops : (cut : Bool) (members m : ℕ) (h : List Event) → OrIsCancelled cut (AwaitsTasks m (may_pass members m h) h) Stopped → ⊥
cut_never_stops true members m h may = cc
cut_never_stops false members m h may = may

pub barrier_is_op : {S : Type 0} (stands : S → List Event → Type 0) (shares : S) (repeated leaving : Bool) (m : ℕ) (board : BoardView) (p : Past) → ServersStand stands shares board p → ServersAdmitMember barrier_row repeated m board p →
    IsCallOp (arrival_op repeated leaving (tag_with Barrier (shares_entered m p.events))) barrier_row repeated m board p
barrier_is_op stands shares true leaving m board p parts ready =
    let e = begun_alike ops.AwaitBarrier barrier_row true m p (cut_begins true leaving Barrier m p.events refl) in
    record {
      fine = admitted_op_fine stands shares barrier_row true m board p parts ready ops.AwaitBarrier (ap not (ready.arrived refl), tt);
      memory = λ asks. asks_none asks;
      begins = cut_begins true leaving Barrier m p.events refl;
      may = λ reply awaits. cut_awaits p.terms.members (members_of board) m p.events _ reply parts.members e ready.ends awaits;
      sees = λ reply. sees_cancelled m reply [];
      beside = sees_beside m;
      gives = λ reply awaits. cut_gives m p.events _ reply e;
      room = room_alike ops.AwaitBarrier barrier_row true (kept_by m board) (λ reply. refl) refl (λ reply lost. keeps_all reply lost);
      own = parts.kept m;
      no_words = refl;
    }
barrier_is_op stands shares false leaving m board p parts ready =
    let tests = tests_of_board barrier_row false m board p ready in
    let same = all_fail (compared_arrival Barrier false m p.events) ready.admitted.compared in
    let tag = tag_with Barrier (shares_entered m p.events) in
    let e = begun_alike (ops.Arrive tag leaving) barrier_row false m p (cut_begins false leaving Barrier m p.events refl) in
    record {
      fine = admitted_op_fine stands shares barrier_row false m board p parts ready (ops.Arrive tag leaving)
          (ready.away (λ q may. cut_never_stops (is_cancelled q.events) q.terms.members m q.events may) refl, (tests.0, (same.0, (tests.1.0, tt))));
      memory = λ asks. (refl, omega arith, refl);
      begins = cut_begins false leaving Barrier m p.events refl;
      may = λ reply awaits. cut_awaits p.terms.members (members_of board) m (begun m (ops.Arrive tag leaving) p.events) _ reply parts.members e (cut_away false leaving Barrier m p.events refl ready.ends) awaits;
      sees = λ reply. sees_cancelled m reply [];
      beside = sees_beside m;
      gives = λ reply awaits. cut_gives m (begun m (ops.Arrive tag leaving) p.events) _ reply e;
      room = room_alike (ops.Arrive tag leaving) barrier_row false (kept_by m board) (λ reply. refl) refl (λ reply lost. keeps_all reply lost);
      own = parts.kept m;
      no_words = refl;
    }

-- the region's end is begun in a cancelled region too
region_end_begins : (repeated leaving : Bool) (m : ℕ) (h : List Event) →
    op_begins m (arrival_op repeated leaving (tag_with RegionEnd (shares_entered m h))) h ≡ unless_repeated (Arrive (barriers_passed m h) m (tag_with RegionEnd (shares_entered m h)) ∷ []) repeated
region_end_begins true leaving m h = refl
region_end_begins false leaving m h = ap (λ (b : Bool). unless_cancelled b (Arrive (barriers_passed m h) m (tag_with RegionEnd (shares_entered m h)) ∷ [])) (neither_waits (is_cancelled h))

pub region_end_is_op : {S : Type 0} (stands : S → List Event → Type 0) (shares : S) (repeated leaving : Bool) (m : ℕ) (board : BoardView) (p : Past) → ServersStand stands shares board p → ServersAdmitMember region_end_row repeated m board p → leaves_region m p.events ≡ leaving →
    IsCallOp (arrival_op repeated leaving (tag_with RegionEnd (shares_entered m p.events))) region_end_row repeated m board p
region_end_is_op stands shares true leaving m board p parts ready leaves =
    record {
      fine = admitted_op_fine stands shares region_end_row true m board p parts ready ops.AwaitBarrier (ap not (ready.arrived refl), tt);
      memory = λ asks. asks_none asks;
      begins = refl;
      may = λ reply awaits. end_awaits p.terms.members (members_of board) m p.events p.events reply parts.members refl ready.ends awaits;
      sees = λ reply. [];
      beside = sees_nothing;
      gives = λ reply awaits. end_gives m p.events p.events reply refl;
      room = room_alike ops.AwaitBarrier region_end_row true (kept_by m board) (λ reply. refl) refl (λ reply lost. refl);
      own = parts.kept m;
      no_words = refl;
    }
region_end_is_op stands shares false leaving m board p parts ready leaves =
    let tests = tests_of_board region_end_row false m board p ready in
    let same = all_fail (compared_arrival RegionEnd false m p.events) ready.admitted.compared in
    let tag = tag_with RegionEnd (shares_entered m p.events) in
    let groups = fail_first (unless_given_up (leaves_region m p.events) (group_open_tests m p.events)) (room_tests p.terms.limits p.room 0) tests.1 in
    let open_ = subst (λ (b : Bool). AllFail (unless_given_up b (group_open_tests m p.events))) leaves groups in
    let e = begun_alike (ops.Arrive tag leaving) region_end_row false m p (region_end_begins false leaving m p.events) in
    let there : at_region_end m (begun m (ops.Arrive tag leaving) p.events) ≡ true = subst (λ (es : List Event). at_region_end m es ≡ true) (sym e) (rw (same_number m) refl) in
    record {
      fine = admitted_op_fine stands shares region_end_row false m board p parts ready (ops.Arrive tag leaving)
          (ready.away (λ q may. may) refl, (tests.0, both_lists_fail (unless_given_up leaving (group_open_tests m p.events)) _ open_ (same.0, (refl, tt))));
      memory = λ asks. asks_none asks;
      begins = region_end_begins false leaving m p.events;
      may = λ reply awaits. end_awaits p.terms.members (members_of board) m (begun m (ops.Arrive tag leaving) p.events) _ reply parts.members e there awaits;
      sees = λ reply. [];
      beside = sees_nothing;
      gives = λ reply awaits. end_gives m (begun m (ops.Arrive tag leaving) p.events) _ reply e;
      room = room_alike (ops.Arrive tag leaving) region_end_row false (kept_by m board) (λ reply. refl) refl (λ reply lost. refl);
      own = parts.kept m;
      no_words = refl;
    }

pub arrival_goes_on : (kind : Arrival) (m : ℕ) (repeated leaving : Bool) (h : List Event) → repeated ≡ true → goes_on_waiting (arrival_op repeated leaving (tag_with kind (shares_entered m h))) ≡ true
arrival_goes_on kind m true leaving h again = refl
arrival_goes_on kind m false leaving h again = absurd (cc)

-- Tasks and groups

-- a call that is neither a creation nor a taskwait has no clause
pub neither_has_clause : (call : Call) → ((desc : TaskDesc) → call ≡ calls.TaskCreate desc → ⊥) → ((items : List Dep) → call ≡ calls.Taskwait items → ⊥) → has_no_clause call
neither_has_clause (calls.TaskCreate desc) no_creation no_wait = absurd (no_creation desc refl)
neither_has_clause (calls.Taskwait items) no_creation no_wait = absurd (no_wait items refl)
neither_has_clause _ no_creation no_wait = tt

creator_never_stops : (held : Bool) (m t : ℕ) (h : List Event) → AnswersCreator held m t h Stopped → ⊥
creator_never_stops true m t h answers = answers
creator_never_stops false m t h answers = cc

dropped_never_stops : (covered : Bool) (m : ℕ) (h : List Event) → AnswersCreation covered m h Stopped → ⊥
dropped_never_stops true m h answers = cc
dropped_never_stops false m h answers = let newest = newest_child (executed_task m h) h in creator_never_stops (is_undeferred newest h) m newest h answers

-- in no past the creation of a task stops the team
creation_never_stops : (desc : TaskDesc) (m : ℕ) (p : Past) → (task_create_row desc).may_reply m p Stopped → ⊥
creation_never_stops desc m p may = dropped_never_stops (creates_covered m p.events) m p.events may

asked_for_creation : (covered : Bool) (desc : TaskDesc) (p : Past) → asked_tests covered (task_create_row desc) p ≡ creation_room_tests covered p.terms.limits p.room
asked_for_creation true desc p = refl
asked_for_creation false desc p = refl

-- a task that is dropped keeps no room
created_room : (desc : TaskDesc) (kept : ℕ) (reply : Reply) (n : ℕ) → IsReply reply → board_room_after (ops.Create desc) kept reply n ≡ room_after false (task_create_row desc) reply n
created_room desc kept (Refused refusal) n is = absurd is
created_room desc kept Dropped n is = refl
created_room desc kept _ n is = refl

awaited_room : (desc : TaskDesc) (kept : ℕ) (reply : Reply) (n : ℕ) → IsReply reply → board_room_after ops.AwaitOwn kept reply n ≡ room_after true (task_create_row desc) reply n
awaited_room desc kept (Refused refusal) n is = absurd is
awaited_room desc kept _ n is = no_more n

create_is_op : {S : Type 0} (stands : S → List Event → Type 0) (shares : S) (desc : TaskDesc) (repeated : Bool) (m : ℕ) (board : BoardView) (p : Past) → ServersStand stands shares board p → ServersAdmitMember (task_create_row desc) repeated m board p →
    IsCallOp (create_op repeated desc) (task_create_row desc) repeated m board p
create_is_op stands shares desc true m board p parts ready =
    let again : [] ≡ unless_repeated (creates_uncovered m desc p.events) true = sym (again_none (creates_uncovered m desc p.events)) in
    record {
      fine = admitted_op_fine stands shares (task_create_row desc) true m board p parts ready ops.AwaitOwn (waits_nowhere (task_create_row desc) true m board p refl (λ q may. creation_never_stops desc m q may) ready, tt);
      memory = λ asks. asks_none asks;
      begins = again;
      may = λ reply created. subst (λ (es : List Event). CreatesOrDrops m es reply) (ap (λ (es : List Event). es ++ p.events) again) created;
      sees = λ reply. [];
      beside = sees_nothing;
      gives = λ reply created. refl;
      room = awaited_room desc (kept_by m board);
      own = parts.kept m;
      no_words = refl;
    }
create_is_op stands shares desc false m board p parts ready =
    let first : creates_uncovered m desc p.events ≡ unless_repeated (creates_uncovered m desc p.events) false = sym (once_first (creates_uncovered m desc p.events)) in
    let tests = subst (λ (more : List Test). AllFail (create_tests p.terms.limits desc.deps m p.events ++ more)) (asked_for_creation (creates_covered m p.events) desc p) (tests_of_board (task_create_row desc) false m board p ready) in
    record {
      fine = admitted_op_fine stands shares (task_create_row desc) false m board p parts ready (ops.Create desc) (waits_nowhere (task_create_row desc) false m board p refl (λ q may. creation_never_stops desc m q may) ready, tests);
      memory = λ asks. (refl, omega arith, asks);
      begins = first;
      may = λ reply created. subst (λ (es : List Event). CreatesOrDrops m es reply) (ap (λ (es : List Event). es ++ p.events) first) created;
      sees = λ reply. [];
      beside = sees_nothing;
      gives = λ reply created. refl;
      room = created_room desc (kept_by m board);
      own = parts.kept m;
      no_words = refl;
    }

ends_never_wait : (task : Task) (h : List Event) (reply : Reply) → EndsTask task h reply → goes_on reply ≡ false
ends_never_wait (Explicit t) h reply ends = rw ends refl
ends_never_wait (Implicit x) h reply ends = absurd ends

ends_never_stop : (task : Task) (h : List Event) → EndsTask task h Stopped → ⊥
ends_never_stop (Explicit t) h ends = cc
ends_never_stop (Implicit x) h ends = ends

task_end_is_op : {S : Type 0} (stands : S → List Event → Type 0) (shares : S) (repeated leaving : Bool) (m : ℕ) (board : BoardView) (p : Past) → ServersStand stands shares board p → ServersAdmitMember task_end_row repeated m board p → leaves_task m p.events ≡ leaving →
    IsCallOp (ops.EndTask leaving) task_end_row repeated m board p
task_end_is_op stands shares true leaving m board p parts ready leaves = absurd (let once = made_once task_end_row true m board p (λ q reply may. ends_never_wait (executed_task m q.events) q.events reply may) ready in cc)
task_end_is_op stands shares false leaving m board p parts ready leaves =
    let tests = fail_first (end_task_tests (leaves_task m p.events) m p.events) (room_tests p.terms.limits p.room 0) (tests_of_board task_end_row false m board p ready) in
    let own = subst (λ (b : Bool). AllFail (end_task_tests b m p.events)) leaves tests in
    record {
      fine = admitted_op_fine stands shares task_end_row false m board p parts ready (ops.EndTask leaving) (waits_nowhere task_end_row false m board p refl (λ q may. ends_never_stop (executed_task m q.events) q.events may) ready, own);
      memory = λ asks. asks_none asks;
      begins = refl;
      may = λ reply ends. ends;
      sees = λ reply. [];
      beside = sees_nothing;
      gives = λ reply ends. refl;
      room = room_alike (ops.EndTask leaving) task_end_row false (kept_by m board) (λ reply. refl) refl (λ reply lost. refl);
      own = parts.kept m;
      no_words = refl;
    }

taskwait_is_op : {S : Type 0} (stands : S → List Event → Type 0) (shares : S) (items : List Dep) (repeated : Bool) (m : ℕ) (board : BoardView) (p : Past) → ServersStand stands shares board p → ServersAdmitMember (taskwait_row items) repeated m board p → IsCallOp (wait_op repeated items) (taskwait_row items) repeated m board p
taskwait_is_op stands shares items true m board p parts ready = record {
  fine = admitted_op_fine stands shares (taskwait_row items) true m board p parts ready (ops.AwaitChildren items) (waits_nowhere (taskwait_row items) true m board p refl (λ q may. may) ready, tt);
  memory = λ asks. asks_none asks;
  begins = refl;
  may = λ reply awaits. awaits;
  sees = λ reply. [];
  beside = sees_nothing;
  gives = λ reply awaits. refl;
  room = room_alike (ops.AwaitChildren items) (taskwait_row items) true (kept_by m board) (λ reply. refl) (none_more true) (λ reply lost. refl);
  own = parts.kept m;
  no_words = refl;
}
taskwait_is_op stands shares items false m board p parts ready =
    let tests = tests_of_board (taskwait_row items) false m board p ready in
    record {
      fine = admitted_op_fine stands shares (taskwait_row items) false m board p parts ready (ops.Taskwait items) (waits_nowhere (taskwait_row items) false m board p refl (λ q may. may) ready, (tests.0, tt));
      memory = λ asks. asks_none asks;
      begins = refl;
      may = λ reply awaits. awaits;
      sees = λ reply. [];
      beside = sees_nothing;
      gives = λ reply awaits. refl;
      room = room_alike (ops.Taskwait items) (taskwait_row items) false (kept_by m board) (λ reply. refl) (none_more false) (λ reply lost. refl);
      own = parts.kept m;
      no_words = refl;
    }

group_start_is_op : {S : Type 0} (stands : S → List Event → Type 0) (shares : S) (repeated : Bool) (m : ℕ) (board : BoardView) (p : Past) → ServersStand stands shares board p → ServersAdmitMember group_start_row repeated m board p → IsCallOp ops.OpenGroup group_start_row repeated m board p
group_start_is_op stands shares true m board p parts ready = absurd (let once = made_once group_start_row true m board p (λ q reply may. rw may refl) ready in cc)
group_start_is_op stands shares false m board p parts ready = record {
  fine = admitted_op_fine stands shares group_start_row false m board p parts ready ops.OpenGroup (waits_nowhere group_start_row false m board p refl (λ q may. cc) ready, tests_of_board group_start_row false m board p ready);
  memory = λ asks. (refl, omega arith, refl);
  begins = refl;
  may = λ reply opens. opens;
  sees = λ reply. [];
  beside = sees_nothing;
  gives = λ reply opens. refl;
  room = room_alike ops.OpenGroup group_start_row false (kept_by m board) (λ reply. refl) refl (λ reply lost. keeps_all reply lost);
  own = parts.kept m;
  no_words = refl;
}

group_end_is_op : {S : Type 0} (stands : S → List Event → Type 0) (shares : S) (repeated : Bool) (m : ℕ) (board : BoardView) (p : Past) → ServersStand stands shares board p → ServersAdmitMember group_end_row repeated m board p → IsCallOp (group_op repeated) group_end_row repeated m board p
group_end_is_op stands shares true m board p parts ready = record {
  fine = admitted_op_fine stands shares group_end_row true m board p parts ready ops.AwaitGroup (waits_nowhere group_end_row true m board p refl (λ q may. may) ready, tt);
  memory = λ asks. asks_none asks;
  begins = refl;
  may = λ reply awaits. awaits;
  sees = λ reply. [];
  beside = sees_nothing;
  gives = λ reply awaits. refl;
  room = room_alike ops.AwaitGroup group_end_row true (kept_by m board) (λ reply. refl) refl (λ reply lost. refl);
  own = parts.kept m;
  no_words = refl;
}
group_end_is_op stands shares false m board p parts ready =
    let tests = tests_of_board group_end_row false m board p ready in
    record {
      fine = admitted_op_fine stands shares group_end_row false m board p parts ready ops.EndGroup (waits_nowhere group_end_row false m board p refl (λ q may. may) ready, (tests.0, tt));
      memory = λ asks. asks_none asks;
      begins = refl;
      may = λ reply awaits. awaits;
      sees = λ reply. [];
      beside = sees_nothing;
      gives = λ reply awaits. refl;
      room = room_alike ops.EndGroup group_end_row false (kept_by m board) (λ reply. refl) refl (λ reply lost. refl);
      own = parts.kept m;
      no_words = refl;
    }

stop_is_op : {S : Type 0} (stands : S → List Event → Type 0) (shares : S) (repeated : Bool) (m : ℕ) (board : BoardView) (p : Past) → ServersStand stands shares board p → ServersAdmitMember stop_row repeated m board p → IsCallOp (ops.Break AtStop 0) stop_row repeated m board p
stop_is_op stands shares repeated m board p parts ready = record {
  fine = admitted_op_fine stands shares stop_row repeated m board p parts ready (ops.Break AtStop 0) (refl, tt);
  memory = λ asks. asks_none asks;
  begins = refl;
  may = λ reply stops. stops;
  sees = λ reply. [];
  beside = sees_nothing;
  gives = λ reply stops. rw stops refl;
  room = room_alike (ops.Break AtStop 0) stop_row repeated (kept_by m board) (λ reply. refl) (none_more repeated) (λ reply lost. refl);
  own = parts.kept m;
  no_words = refl;
}

-- Cancellation

-- what a member sees by the answer to a construct of this kind
abbrev told_sees : CancelKind → ℕ → Reply → List Event
told_sees kind m (Cancelling true) = See m kind ∷ []
told_sees kind m _ = []

told_beside : (what : TeamCancel) (m : ℕ) (reply : Reply) → AreBesideBoth (told_sees (named_kind what) m reply)
told_beside named.Parallel m (Cancelling true) = (tt, tt, tt)
told_beside named.Taskgroup m (Cancelling true) = (tt, tt, tt)
told_beside what m (Cancelling false) = tt
told_beside what m _ = tt

cancel_gives : (kind : CancelKind) (clause : Bool) (m : ℕ) (h : List Event) (reply : Reply) → tells_cancelled kind clause m h reply ≡ told_sees kind m reply ++ cancelled_by clause kind m h reply
cancel_gives kind clause m h (Cancelling true) = refl
cancel_gives kind clause m h (Cancelling false) = refl
cancel_gives kind clause m h _ = refl

point_gives : (kind : CancelKind) (m : ℕ) (h : List Event) (reply : Reply) → tells_cancelled kind false m h reply ≡ told_sees kind m reply ++ []
point_gives kind m h (Cancelling true) = refl
point_gives kind m h (Cancelling false) = refl
point_gives kind m h _ = refl

cancel_keeps_room : (what : TeamCancel) (clause allowed : Bool) (kept : ℕ) (reply : Reply) (n : ℕ) → IsReply reply → board_room_after (ops.Cancel what clause allowed) kept reply n ≡ room_after false (cancel_row (named_kind what) clause) reply n
cancel_keeps_room what clause allowed kept (Refused refusal) n is = absurd is
cancel_keeps_room what clause allowed kept _ n is = refl

cancel_is_op : {S : Type 0} (stands : S → List Event → Type 0) (shares : S) (what : TeamCancel) (clause allowed repeated : Bool) (m : ℕ) (board : BoardView) (p : Past) → ServersStand stands shares board p → ServersAdmitMember (cancel_row (named_kind what) clause) repeated m board p → p.terms.cancellation ≡ allowed →
    IsCallOp (ops.Cancel what clause allowed) (cancel_row (named_kind what) clause) repeated m board p
cancel_is_op stands shares what clause allowed true m board p parts ready allows = absurd (let once = made_once (cancel_row (named_kind what) clause) true m board p (λ q reply may. rw may refl) ready in cc)
cancel_is_op stands shares what clause allowed false m board p parts ready allows =
    let row = cancel_row (named_kind what) clause in
    record {
      fine = admitted_op_fine stands shares row false m board p parts ready (ops.Cancel what clause allowed) (waits_nowhere row false m board p refl (λ q may. cc) ready, tests_of_board row false m board p ready);
      memory = λ asks. (refl, room_was_asked (ops.Cancel what clause allowed) (kept_by m board) m p.events asks, asks);
      begins = refl;
      may = λ reply tells. rw allows tells;
      sees = λ reply. told_sees (named_kind what) m reply;
      beside = told_beside what m;
      gives = λ reply tells. cancel_gives (named_kind what) clause m p.events reply;
      room = cancel_keeps_room what clause allowed (kept_by m board);
      own = parts.kept m;
      no_words = refl;
    }

point_is_op : {S : Type 0} (stands : S → List Event → Type 0) (shares : S) (what : TeamCancel) (allowed repeated : Bool) (m : ℕ) (board : BoardView) (p : Past) → ServersStand stands shares board p → ServersAdmitMember (point_row (named_kind what)) repeated m board p → p.terms.cancellation ≡ allowed →
    IsCallOp (ops.Point what allowed) (point_row (named_kind what)) repeated m board p
point_is_op stands shares what allowed true m board p parts ready allows = absurd (let once = made_once (point_row (named_kind what)) true m board p (λ q reply may. rw may refl) ready in cc)
point_is_op stands shares what allowed false m board p parts ready allows =
    let row = point_row (named_kind what) in
    let tests = fail_first (cancel_tests (named_kind what) m p.events) (room_tests p.terms.limits p.room 0) (tests_of_board row false m board p ready) in
    record {
      fine = admitted_op_fine stands shares row false m board p parts ready (ops.Point what allowed) (waits_nowhere row false m board p refl (λ q may. cc) ready, tests);
      memory = λ asks. asks_none asks;
      begins = refl;
      may = λ reply tells. rw allows tells;
      sees = λ reply. told_sees (named_kind what) m reply;
      beside = told_beside what m;
      gives = λ reply tells. point_gives (named_kind what) m p.events reply;
      room = room_alike (ops.Point what allowed) row false (kept_by m board) (λ reply. refl) refl (λ reply lost. refl);
      own = parts.kept m;
      no_words = refl;
    }

-- so of each call that the board answers alone
pub board_call_is_op : {S : Type 0} (stands : S → List Event → Type 0) (shares : S) (call : Call) (op : Op) (manner : Manner) (m : ℕ) (board : BoardView) (p : Past) → board_op manner call ≡ Some op → ServersStand stands shares board p → ServersAdmitMember (row_of call) manner.repeated m board p → IsMadeSo manner m p → IsCallOp op (row_of call) manner.repeated m board p
board_call_is_op stands shares (calls.TaskCreate desc) op manner m board p is parts ready made = let same : create_op manner.repeated desc ≡ op = cc in subst (λ (o : Op). IsCallOp o (task_create_row desc) manner.repeated m board p) same (create_is_op stands shares desc manner.repeated m board p parts ready)
board_call_is_op stands shares calls.TaskEnd op manner m board p is parts ready made =
    let same : ops.EndTask manner.leaving.task ≡ op = cc in subst (λ (o : Op). IsCallOp o task_end_row manner.repeated m board p) same (task_end_is_op stands shares manner.repeated manner.leaving.task m board p parts ready made.leaves.task)
board_call_is_op stands shares (calls.Taskwait items) op manner m board p is parts ready made = let same : wait_op manner.repeated items ≡ op = cc in subst (λ (o : Op). IsCallOp o (taskwait_row items) manner.repeated m board p) same (taskwait_is_op stands shares items manner.repeated m board p parts ready)
board_call_is_op stands shares calls.GroupStart op manner m board p is parts ready made = let same : ops.OpenGroup ≡ op = cc in subst (λ (o : Op). IsCallOp o group_start_row manner.repeated m board p) same (group_start_is_op stands shares manner.repeated m board p parts ready)
board_call_is_op stands shares calls.GroupEnd op manner m board p is parts ready made = let same : group_op manner.repeated ≡ op = cc in subst (λ (o : Op). IsCallOp o group_end_row manner.repeated m board p) same (group_end_is_op stands shares manner.repeated m board p parts ready)
board_call_is_op stands shares (calls.Cancel kinds.Parallel clause) op manner m board p is parts ready made =
    let same : ops.Cancel named.Parallel clause manner.allowed ≡ op = cc in subst (λ (o : Op). IsCallOp o (cancel_row kinds.Parallel clause) manner.repeated m board p) same (cancel_is_op stands shares named.Parallel clause manner.allowed manner.repeated m board p parts ready made.allowed)
board_call_is_op stands shares (calls.Cancel kinds.Taskgroup clause) op manner m board p is parts ready made =
    let same : ops.Cancel named.Taskgroup clause manner.allowed ≡ op = cc in subst (λ (o : Op). IsCallOp o (cancel_row kinds.Taskgroup clause) manner.repeated m board p) same (cancel_is_op stands shares named.Taskgroup clause manner.allowed manner.repeated m board p parts ready made.allowed)
board_call_is_op stands shares (calls.Point kinds.Parallel) op manner m board p is parts ready made =
    let same : ops.Point named.Parallel manner.allowed ≡ op = cc in subst (λ (o : Op). IsCallOp o (point_row kinds.Parallel) manner.repeated m board p) same (point_is_op stands shares named.Parallel manner.allowed manner.repeated m board p parts ready made.allowed)
board_call_is_op stands shares (calls.Point kinds.Taskgroup) op manner m board p is parts ready made =
    let same : ops.Point named.Taskgroup manner.allowed ≡ op = cc in subst (λ (o : Op). IsCallOp o (point_row kinds.Taskgroup) manner.repeated m board p) same (point_is_op stands shares named.Taskgroup manner.allowed manner.repeated m board p parts ready made.allowed)
board_call_is_op stands shares calls.Stop op manner m board p is parts ready made = let same : ops.Break AtStop 0 ≡ op = cc in subst (λ (o : Op). IsCallOp o stop_row manner.repeated m board p) same (stop_is_op stands shares manner.repeated m board p parts ready)
board_call_is_op stands shares _ op manner m board p is parts ready made = absurd (cc)

-- no test refuses the operation of a call that is ready
pub board_call_is_admitted : {S : Type 0} (stands : S → List Event → Type 0) (shares : S) (call : Call) (manner : Manner) (m : ℕ) (board : BoardView) → SomeServersAdmit stands shares board (row_of call) manner m → (op : Op) → board_op manner call ≡ Some op → IsOpAdmittedOnce op m board
board_call_is_admitted stands shares call manner m board (p, parts, ready, made) op is =
    op_is_admitted op (row_of call) manner.repeated m board p parts.board_is (board_call_is_op stands shares call op manner m board p is parts ready made)

pub barrier_is_admitted : {S : Type 0} (stands : S → List Event → Type 0) (shares : S) (manner : Manner) (m : ℕ) (board : BoardView) → SomeServersAdmit stands shares board barrier_row manner m → IsArrivalAdmitted Barrier manner m stands shares board
barrier_is_admitted stands shares manner m board (p, parts, ready, made) =
    (p.events, parts.shares_are, op_is_admitted _ barrier_row manner.repeated m board p parts.board_is (barrier_is_op stands shares manner.repeated manner.leaving.region m board p parts ready))

pub region_end_is_admitted : {S : Type 0} (stands : S → List Event → Type 0) (shares : S) (manner : Manner) (m : ℕ) (board : BoardView) → SomeServersAdmit stands shares board region_end_row manner m → IsArrivalAdmitted RegionEnd manner m stands shares board
region_end_is_admitted stands shares manner m board (p, parts, ready, made) =
    (p.events, parts.shares_are, op_is_admitted _ region_end_row manner.repeated m board p parts.board_is (region_end_is_op stands shares manner.repeated manner.leaving.region m board p parts ready made.leaves.region))

-- a taskwait begins as it goes on
pub wait_is_admitted : (repeated : Bool) (items : List Dep) (m : ℕ) (board : BoardView) → IsOpAdmittedOnce (wait_op repeated items) m board → IsOpAdmittedOnce (ops.AwaitChildren items) m board
wait_is_admitted true items m board admitted = admitted
wait_is_admitted false items m board admitted = taskwait_goes_on items m board admitted

pub wait_performs : (repeated : Bool) (items : List Dep) (m : ℕ) (board after : BoardView) (reply : Reply) → IsOpAdmittedOnce (wait_op repeated items) m board → Performs (ops.AwaitChildren items) m board after reply →
    (IsOpAdmittedOnce (ops.Taskwait items) m board → Performs (ops.Taskwait items) m board after reply) → Performs (wait_op repeated items) m board after reply
wait_performs true items m board after reply admitted goes_on_so begins_so = goes_on_so
wait_performs false items m board after reply admitted goes_on_so begins_so = begins_so admitted

pub board_call_starts_none : (call : Call) (op : Op) (manner : Manner) → board_op manner call ≡ Some op → (row_of call).starts ≡ None
board_call_starts_none (calls.TaskCreate desc) op manner is = refl
board_call_starts_none calls.TaskEnd op manner is = refl
board_call_starts_none (calls.Taskwait items) op manner is = refl
board_call_starts_none calls.GroupStart op manner is = refl
board_call_starts_none calls.GroupEnd op manner is = refl
board_call_starts_none (calls.Cancel kind clause) op manner is = refl
board_call_starts_none (calls.Point kind) op manner is = refl
board_call_starts_none calls.Stop op manner is = refl
board_call_starts_none _ op manner is = absurd (cc)

-- and one that is repeated goes on with a wait
pub board_call_goes_on : (call : Call) (op : Op) (manner : Manner) (m : ℕ) (board : BoardView) (p : Past) → board_op manner call ≡ Some op → ServersAdmitMember (row_of call) manner.repeated m board p → manner.repeated ≡ true → goes_on_waiting op ≡ true
board_call_goes_on (calls.TaskCreate desc) op manner m board p is ready again = let same : create_op manner.repeated desc ≡ op = cc in subst (λ (o : Op). goes_on_waiting o ≡ true) same (rw again refl)
board_call_goes_on calls.TaskEnd op manner m board p is ready again = absurd (let once = made_once task_end_row manner.repeated m board p (λ q reply may. ends_never_wait (executed_task m q.events) q.events reply may) ready in let both = sym again ∙ once in cc)
board_call_goes_on (calls.Taskwait items) op manner m board p is ready again = let same : wait_op manner.repeated items ≡ op = cc in subst (λ (o : Op). goes_on_waiting o ≡ true) same (rw again refl)
board_call_goes_on calls.GroupStart op manner m board p is ready again = absurd (let once = made_once group_start_row manner.repeated m board p (λ q reply may. rw may refl) ready in let both = sym again ∙ once in cc)
board_call_goes_on calls.GroupEnd op manner m board p is ready again = let same : group_op manner.repeated ≡ op = cc in subst (λ (o : Op). goes_on_waiting o ≡ true) same (rw again refl)
board_call_goes_on (calls.Cancel kind clause) op manner m board p is ready again = absurd (let once = made_once (cancel_row kind clause) manner.repeated m board p (λ q reply may. rw may refl) ready in let both = sym again ∙ once in cc)
board_call_goes_on (calls.Point kind) op manner m board p is ready again = absurd (let once = made_once (point_row kind) manner.repeated m board p (λ q reply may. rw may refl) ready in let both = sym again ∙ once in cc)
board_call_goes_on calls.Stop op manner m board p is ready again = absurd (let once = made_once stop_row manner.repeated m board p (λ q reply may. rw may refl) ready in let both = sym again ∙ once in cc)
board_call_goes_on _ op manner m board p is ready again = absurd (cc)

-- a construct that names no share is answered by the board
team_cancel_served : (manner : Manner) (kind : CancelKind) (clause : Bool) → kind_served_by kind ≡ OfBoard → is_some (board_op manner (calls.Cancel kind clause)) ≡ true
team_cancel_served manner kinds.Parallel clause e = refl
team_cancel_served manner kinds.Taskgroup clause e = refl
team_cancel_served manner _ clause e = absurd (cc)

team_point_served : (manner : Manner) (kind : CancelKind) → kind_served_by kind ≡ OfBoard → is_some (board_op manner (calls.Point kind)) ≡ true
team_point_served manner kinds.Parallel e = refl
team_point_served manner kinds.Taskgroup e = refl
team_point_served manner _ e = absurd (cc)

-- as each call that it answers alone
board_call_served : (manner : Manner) (call : Call) → served_by call ≡ OfBoard → is_some (board_op manner call) ≡ true
board_call_served manner (calls.TaskCreate desc) e = refl
board_call_served manner calls.TaskEnd e = refl
board_call_served manner (calls.Taskwait items) e = refl
board_call_served manner calls.GroupStart e = refl
board_call_served manner calls.GroupEnd e = refl
board_call_served manner calls.Stop e = refl
board_call_served manner (calls.Cancel kind clause) e = team_cancel_served manner kind clause e
board_call_served manner (calls.Point kind) e = team_point_served manner kind e
board_call_served manner _ e = absurd (cc)

pub board_call_answers : {S : Type 0} (stands : S → List Event → Type 0) (shares : S) → ((h : List Event) (event : Event) → SharesAside event → stands shares h → stands shares (event ∷ h)) → (call : Call) (manner : Manner) (m : ℕ) (board after : BoardView) (reply : Reply) → m < members_of board →
    SomeServersAdmit stands shares board (row_of call) manner m → served_by call ≡ OfBoard → ((op : Op) → board_op manner call ≡ Some op → Performs op m board after reply) → AnswersCall (record { stands = stands; row = row_of call; manner = manner; m = m }) shares shares board after reply
board_call_answers stands shares aside call manner m board after reply low (p0, parts0, ready0, made0) served performs =
    let (op, is) = some_of (board_op manner call) (board_call_served manner call served) in
    op_answers stands shares aside (λ h. op) (row_of call) manner m board after reply low (p0, parts0, ready0, made0) (λ h st. performs op is) (λ p parts ready made. board_call_is_op stands shares call op manner m board p is parts ready made)
    (board_call_starts_none call op manner is) (λ h again. board_call_goes_on call op manner m board p0 is ready0 again)
