-- How many of the events that an operation gives pass a test which tells them by their kind: of those that the ledger counts, and of what a member's counts count.
use Rattle.std.proofs.Common.{◌≡◌, ℕ, ◌+◌, ◌*◌, ◌≤◌, Bool, true, false, List, [], ◌∷◌, ◌++◌, Option, Some, None, refl, ap, ◌∙◌, subst, zero, suc, reverse, arith, ◌==◌}
use Rattle.std.specs.Prelude.{if◌then◌else◌, ◌&&◌, ◌||◌, not}
use Rattle.std.proofs.lemmas.Grind.{reverse_onto}
use Rattle.gomp_types.specs.declared.cancel.Scope.{Scope}
use Rattle.gomp_types.specs.declared.cancel.Scope.TheVariants.{Region, OneGroup}
use Rattle.gomp_types.specs.declared.depend.Dep.{Dep}
use Rattle.gomp_types.specs.declared.limits.Limits.{Limits}
use Rattle.gomp_types.specs.declared.refusal.Place.{Place}
use Rattle.gomp_types.specs.declared.refusal.Refusal.{Refusal}
use Rattle.gomp_types.specs.declared.refusal.Refusal.TheVariants.{Mismatch}
use Rattle.gomp_types.specs.declared.reply.Reply.{Reply}
use Rattle.gomp_types.specs.declared.reply.Reply.TheVariants as replies
use Rattle.gomp_types.specs.declared.task.Task.{Task}
use Rattle.gomp_types.specs.declared.task.Task.TheVariants.{Implicit, Explicit}
use Rattle.gomp_types.specs.declared.task.TaskDesc.{TaskDesc}
use Rattle.gomp_types.specs.RefusalTexts.{number_of}
use Rattle.gomp_types.proofs.Booleans.{and_left, same_number}
use Rattle.gomp_types.proofs.LeastTests.{AllFail}
use Rattle.gomp_events.specs.declared.event.Event.{Event}
use Rattle.gomp_events.specs.declared.event.Event.TheVariants as events
use Rattle.gomp_events.specs.declared.event.Tag.{Tag}
use Rattle.gomp_events.specs.Breaks.{refusal_gives}
use Rattle.gomp_events.specs.Cancels.{is_cancelled, is_covered, scope_of, group_scope, first_in, groups_over}
use Rattle.gomp_events.specs.CancelCalls.{cancel_tests, discards_to, cancels, creates_covered, CreatesOrDrops, AnswersCreation, OrIsCancelled}
use Rattle.gomp_events.specs.Events.{barriers_passed, at_region_end, is_region_end}
use Rattle.gomp_events.specs.Goals.{may_pass, is_unstarted}
use Rattle.gomp_events.specs.Groups.{groups_opened, open_groups}
use Rattle.gomp_events.specs.Laws.{Always}
use Rattle.gomp_events.specs.TaskCalls.{has_some, AnswersCreator, AwaitsTasks, CreatesTask, EndsTask, creates, ends_first, ends_group, ends_task, last_complete, starts_task, waited}
use Rattle.gomp_events.specs.TaskRules.{TaskRule}
use Rattle.gomp_events.specs.Tasks.{executed_task, is_undeferred, newest_child, tasks_created}
use Rattle.gomp_board.specs.declared.op.Op.{Op}
use Rattle.gomp_board.specs.declared.op.Op.TheVariants as ops
use Rattle.gomp_board.specs.declared.op.TeamCancel.{TeamCancel}
use Rattle.gomp_board.specs.declared.op.TeamCancel.TheVariants as named
use Rattle.gomp_board.specs.Stored.{is_stored, stored}
use Rattle.gomp_board.specs.Ops.{op_refusal, op_after, op_gives, op_place, begun, named_kind, passes_barrier, cancelled_by, goes_to_the_end, OpReply, OpAnswer}
use Rattle.gomp_board.specs.Boards.{BoardView, Stands, Performs, members_of, kept_by}
use Rattle.gomp_board.proofs.AdmittedArrivals.{admitted_before_end, cancel_is_placed}
use Rattle.gomp_board.proofs.Sealed.{still_uncovered}
use Rattle.gomp_waits.specs.Waits.{WaitBoardView, is_waiting, open_wait_refusal, PerformsOrWaits}
use Rattle.gomp_waits.proofs.Answered.{wait_refusal_is_low}
use Rattle.gomp_waits.proofs.Laws.{wait_is_answered_low}
use Rattle.gomp_team_board.specs.Counts.{events_with, creations_given, starts_given, ends_given, arrivals_given, passes_given, groups_given, words_given, cancels_given, stops_given}

-- A test that passes events by their kind

-- for each kind of event one if the test passes it, and zero if not
pub record Kinds : Type 0 where
  pub creates : ℕ
  pub starts : ℕ
  pub ends : ℕ
  pub arrivals : ℕ
  pub passes : ℕ
  pub groups : ℕ
  pub words : ℕ
  pub cancels : ℕ
  pub breaks : ℕ

-- the test does so of the events of this member
pub record Tells (test : Event → Bool) (m : ℕ) (k : Kinds) : Type 0 where
  pub creates : (t : ℕ) (parent : Task) (desc : TaskDesc) → (if test (events.Create t m parent desc) then 1 else 0) ≡ k.creates
  pub starts : (t : ℕ) → (if test (events.Start t m) then 1 else 0) ≡ k.starts
  pub ends : (t : ℕ) → (if test (events.Done t m) then 1 else 0) ≡ k.ends
  pub arrivals : (barrier : ℕ) (tag : Tag) → (if test (events.Arrive barrier m tag) then 1 else 0) ≡ k.arrivals
  pub passes : (barrier : ℕ) → (if test (events.Pass barrier m) then 1 else 0) ≡ k.passes
  pub opens : (q : ℕ) → (if test (events.Group q m) then 1 else 0) ≡ k.groups
  pub closes : (q : ℕ) → (if test (events.GroupEnd q m) then 1 else 0) ≡ k.groups
  pub puts : (share : ℕ) (words : List ℕ) → (if test (events.Put share m words) then 1 else 0) ≡ k.words
  pub gets : (share : ℕ) (words : List ℕ) → (if test (events.Got share m words) then 1 else 0) ≡ k.words
  pub region : (if test (events.Cancel m Region) then 1 else 0) ≡ k.cancels
  pub group : (q : ℕ) → (if test (events.Cancel m (OneGroup q)) then 1 else 0) ≡ k.cancels
  pub breaks : (place : Place) → (if test (events.Break m place) then 1 else 0) ≡ k.breaks
  -- no discard, and nothing that no board stores
  pub discards : (t : ℕ) → test (events.Discard t m) ≡ false
  pub unstored : (event : Event) → is_stored event ≡ false → test event ≡ false

-- how many of the events of an operation that is not refused pass it
abbrev pub tally : Kinds → Op → Reply → ℕ
tally k op reply =
    k.creates * creations_given op reply + k.starts * starts_given reply + k.ends * ends_given op reply
    + k.arrivals * arrivals_given op reply + k.passes * passes_given op reply + k.groups * groups_given op reply
    + k.words * words_given op reply + k.cancels * cancels_given op reply + k.breaks * stops_given op reply

-- and of any: a mismatch breaks the team
abbrev pub whole_tally : Kinds → Op → Reply → ℕ
whole_tally k op (replies.Refused Mismatch) = k.breaks
whole_tally k op (replies.Refused refusal) = 0
whole_tally k op reply = tally k op reply

-- Lists

events_added : (test : Event → Bool) (xs ys : List Event) → events_with test (xs ++ ys) ≡ events_with test xs + events_with test ys
events_added test [] ys = omega arith
events_added test (x ∷ xs) ys = let more = events_added test xs ys in omega (arith, more)

-- an event that is not stored counts nothing
stored_count : (test : Event → Bool) (m : ℕ) (k : Kinds) → Tells test m k → (h : List Event) → events_with test (stored h) ≡ events_with test h
stored_count test m k tells [] = refl
stored_count test m k tells (event ∷ h) = by_stored (is_stored event) refl ∙ ap (λ (n : ℕ). (if test event then 1 else 0) + n) (stored_count test m k tells h)
  where
    by_stored : (b : Bool) → is_stored event ≡ b → events_with test (if b then event ∷ stored h else stored h) ≡ (if test event then 1 else 0) + events_with test (stored h)
    by_stored true is = refl
    by_stored false is = rw (tells.unstored event is) (omega arith)

-- the order counts nothing either
pub reverse_count : (test : Event → Bool) (h : List Event) → events_with test (reverse h) ≡ events_with test h
reverse_count test [] = refl
reverse_count test (event ∷ h) =
    let more = events_added test (reverse h) (event ∷ []) in
    let same = reverse_count test h in
    ap (events_with test) (reverse_onto h event []) ∙ omega (arith, more, same)

-- For the events of one member, by such a test

-- a discard counts nothing
discards_count : (test : Event → Bool) (m : ℕ) (k : Kinds) → Tells test m k → (n : ℕ) (h : List Event) → events_with test (discards_to n m h) ≡ 0
discards_count test m k tells zero h = refl
discards_count test m k tells (suc n) h = unless (is_unstarted (suc n) h && is_covered (suc n) h) ∙ discards_count test m k tells n h
  where
    unless : (b : Bool) → events_with test (if b then events.Discard (suc n) m ∷ discards_to n m h else discards_to n m h) ≡ events_with test (discards_to n m h)
    unless true = rw (tells.discards (suc n)) (omega arith)
    unless false = refl

refused_count : (test : Event → Bool) (m : ℕ) (k : Kinds) → Tells test m k → (op : Op) (place : Place) (refusal : Refusal) (h : List Event)
    → events_with test (refusal_gives refusal m place ++ h) ≡ whole_tally k op (replies.Refused refusal) + events_with test h
refused_count test m k tells op place Mismatch h = omega (arith, tells.breaks place)
refused_count test m k tells op place _ h = omega arith

start_count : (test : Event → Bool) (m : ℕ) (k : Kinds) → Tells test m k → (reply : Reply) (h : List Event) → events_with test (starts_task m reply ++ h) ≡ k.starts * starts_given reply + events_with test h
start_count test m k tells (replies.Run task code arg own) h = omega (arith, tells.starts task)
start_count test m k tells _ h = omega arith

waited_count : (test : Event → Bool) (m : ℕ) (k : Kinds) → Tells test m k → (items : List Dep) (reply : Reply) (h : List Event) → events_with test (waited m items reply ++ h) ≡ k.starts * starts_given reply + events_with test h
waited_count test m k tells items replies.Passed h = rw (tells.unstored (events.Waited m items) refl) (omega arith)
waited_count test m k tells items (replies.Run task code arg own) h = omega (arith, tells.starts task)
waited_count test m k tells items _ h = omega arith

pass_count : (test : Event → Bool) (m : ℕ) (k : Kinds) → Tells test m k → (reply : Reply) (h g : List Event)
    → events_with test (passes_barrier m g reply ++ h) ≡ k.starts * starts_given reply + k.passes * passes_given ops.AwaitBarrier reply + events_with test h
pass_count test m k tells replies.Passed h g = omega (arith, tells.passes (barriers_passed m g))
pass_count test m k tells (replies.Run task code arg own) h g = omega (arith, tells.starts task)
pass_count test m k tells _ h g = omega arith

first_count : (test : Event → Bool) (m : ℕ) (k : Kinds) → Tells test m k → (qs : List ℕ) (h g : List Event) → last_complete qs h ≡ true → events_with test (ends_first qs m ++ g) ≡ k.groups + events_with test g
first_count test m k tells [] h g complete = absurd (cc)
first_count test m k tells (q ∷ qs) h g complete = omega (arith, tells.closes q)

group_count : (test : Event → Bool) (m : ℕ) (k : Kinds) → Tells test m k → (reply : Reply) (h : List Event) → AwaitsTasks m (last_complete (open_groups (executed_task m h) h) h) h reply
    → events_with test (ends_group m h reply ++ h) ≡ k.starts * starts_given reply + k.groups * groups_given ops.AwaitGroup reply + events_with test h
group_count test m k tells replies.Passed h met = let one = first_count test m k tells (open_groups (executed_task m h) h) h h met in omega (arith, one)
group_count test m k tells (replies.Run task code arg own) h met = omega (arith, tells.starts task)
group_count test m k tells _ h met = omega arith

end_count : (test : Event → Bool) (m : ℕ) (k : Kinds) → Tells test m k → (leaving : Bool) (task : Task) (reply : Reply) (h g : List Event) → EndsTask task h reply → events_with test (ends_task m reply ++ g) ≡ tally k (ops.EndTask leaving) reply + events_with test g
end_count test m k tells leaving (Implicit x) reply h g ends = absurd ends
end_count test m k tells leaving (Explicit t) reply h g ends = rw ends (omega (arith, tells.ends t))

-- Creations

-- a creator is answered otherwise than that its task is dropped, or refused
one_created : (desc : TaskDesc) (undeferred : Bool) (m t : ℕ) (g : List Event) (reply : Reply) → AnswersCreator undeferred m t g reply → creations_given (ops.Create desc) reply ≡ 1
one_created desc true m t g replies.Dropped answer = absurd answer
one_created desc true m t g (replies.Refused refusal) answer = absurd answer
one_created desc false m t g replies.Dropped answer = absurd (cc)
one_created desc false m t g (replies.Refused refusal) answer = absurd (cc)
one_created desc undeferred m t g _ answer = refl

creator_count : (test : Event → Bool) (m : ℕ) (k : Kinds) → Tells test m k → (desc : TaskDesc) (reply : Reply) (h g : List Event) → CreatesTask m g reply → events_with test g ≡ k.creates + events_with test h
    → events_with test (starts_task m reply ++ g) ≡ k.creates * creations_given (ops.Create desc) reply + k.starts * starts_given reply + events_with test h
creator_count test m k tells desc reply h g answer grown =
    let e = start_count test m k tells reply g in
    let n = one_created desc (is_undeferred (newest_child (executed_task m g) g) g) m (newest_child (executed_task m g) g) g reply answer in
    rw n (omega (arith, e, grown))

creation_count : (test : Event → Bool) (m : ℕ) (k : Kinds) → Tells test m k → (members : ℕ) (desc : TaskDesc) (h : List Event) (reply : Reply) (covered : Bool)
    → creates_covered m h ≡ covered → Always (TaskRule members) h → CreatesOrDrops m (begun m (ops.Create desc) h) reply
    → events_with test (starts_task m reply ++ begun m (ops.Create desc) h) ≡ k.creates * creations_given (ops.Create desc) reply + k.starts * starts_given reply + events_with test h
creation_count test m k tells members desc h reply true is rule answer =
    let same : begun m (ops.Create desc) h ≡ h = rw is refl in
    let told : CreatesOrDrops m h reply = subst (λ (g : List Event). CreatesOrDrops m g reply) same answer in
    let dropped : reply ≡ replies.Dropped = subst (λ (b : Bool). AnswersCreation b m h reply) is told in
    rw (same, dropped) (omega arith)
creation_count test m k tells members desc h reply false is rule answer =
    let g : List Event = creates m desc h ++ h in
    let same : begun m (ops.Create desc) h ≡ g = rw is refl in
    let told : CreatesOrDrops m g reply = subst (λ (g : List Event). CreatesOrDrops m g reply) same answer in
    let made : CreatesTask m g reply = subst (λ (b : Bool). AnswersCreation b m g reply) (still_uncovered members m desc h rule is) told in
    rw same (creator_count test m k tells desc reply h g made (omega (arith, tells.creates (suc (tasks_created h)) (executed_task m h) desc)))

-- Arrivals

uncut_count : (m : ℕ) (tag : Tag) (leaving met : Bool) (h : List Event) (reply : Reply) → AwaitsTasks m met h reply → arrivals_given (ops.Arrive tag leaving) reply ≡ 1
uncut_count m tag leaving met h replies.Cancelled awaits = absurd awaits
uncut_count m tag leaving met h (replies.Refused refusal) awaits = absurd awaits
uncut_count m tag leaving met h _ awaits = refl

not_cut_short : (c r own a : Bool) → own ≡ true → (c && not r) ≡ false → (c && not ((own && r) || a)) ≡ false
not_cut_short false r own a is e = refl
not_cut_short true true true a is e = refl
not_cut_short true true false a is e = absurd (cc)
not_cut_short true false own a is e = absurd (cc)

arrival_count : (test : Event → Bool) (m : ℕ) (k : Kinds) → Tells test m k → (members : ℕ) (tag : Tag) (leaving nowhere : Bool) (h : List Event) (reply : Reply)
    → (is_cancelled h && not (is_region_end tag.kind)) ≡ nowhere → at_region_end m h ≡ false → OpReply members m (ops.Arrive tag leaving) (begun m (ops.Arrive tag leaving) h) reply
    → events_with test (passes_barrier m (begun m (ops.Arrive tag leaving) h) reply ++ begun m (ops.Arrive tag leaving) h)
    ≡ k.arrivals * arrivals_given (ops.Arrive tag leaving) reply + k.starts * starts_given reply + k.passes * passes_given ops.AwaitBarrier reply + events_with test h
arrival_count test m k tells members tag leaving true h reply is before answer =
    let same : begun m (ops.Arrive tag leaving) h ≡ h = rw is refl in
    let told : OpReply members m (ops.Arrive tag leaving) h reply = subst (λ (g : List Event). OpReply members m (ops.Arrive tag leaving) g reply) same answer in
    let cancelled : is_cancelled h ≡ true = and_left (is_cancelled h) (not (is_region_end tag.kind)) is in
    let cut : goes_to_the_end m h ≡ true = rw (cancelled, before) refl in
    let so : reply ≡ replies.Cancelled = subst (λ (b : Bool). OrIsCancelled b (AwaitsTasks m (may_pass members m h) h) reply) cut told in
    rw (same, so) (omega arith)
arrival_count test m k tells members tag leaving false h reply is before answer =
    let g : List Event = events.Arrive (barriers_passed m h) m tag ∷ h in
    let same : begun m (ops.Arrive tag leaving) h ≡ g = rw is refl in
    let told : OpReply members m (ops.Arrive tag leaving) g reply = subst (λ (g : List Event). OpReply members m (ops.Arrive tag leaving) g reply) same answer in
    let cut : goes_to_the_end m g ≡ false = not_cut_short (is_cancelled h) (is_region_end tag.kind) (m == m) (at_region_end m h) (same_number m) is in
    let awaits : AwaitsTasks m (may_pass members m g) g reply = subst (λ (b : Bool). OrIsCancelled b (AwaitsTasks m (may_pass members m g) g) reply) cut told in
    let e = pass_count test m k tells reply g g in
    let n = uncut_count m tag leaving (may_pass members m g) g reply awaits in
    let one = tells.arrivals (barriers_passed m h) tag in
    rw (same, n) (omega (arith, e, one))

-- Cancellations

one_cancel : (test : Event → Bool) (m : ℕ) (k : Kinds) → Tells test m k → (scope : Scope) (h g : List Event) → (if test (events.Cancel m scope) then 1 else 0) ≡ k.cancels → events_with test (cancels m (Some scope) h ++ g) ≡ k.cancels + events_with test g
one_cancel test m k tells scope h g one =
    let d = discards_count test m k tells (tasks_created h) (events.Cancel m scope ∷ h) in
    let a = events_added test (discards_to (tasks_created h) m (events.Cancel m scope ∷ h)) (events.Cancel m scope ∷ []) in
    let b = events_added test (cancels m (Some scope) h) g in
    b ∙ (omega (arith, a, d, one))

group_cancel : (test : Event → Bool) (m : ℕ) (k : Kinds) → Tells test m k → (qs : List ℕ) (h g : List Event) → not (has_some qs) ≡ false → events_with test (cancels m (group_scope (first_in qs)) h ++ g) ≡ k.cancels + events_with test g
group_cancel test m k tells [] h g some_open = absurd (cc)
group_cancel test m k tells (q ∷ qs) h g some_open = one_cancel test m k tells (OneGroup q) h g (tells.group q)

named_cancel : (test : Event → Bool) (m : ℕ) (k : Kinds) → Tells test m k → (names : TeamCancel) (h g : List Event) → AllFail (cancel_tests (named_kind names) m h) → events_with test (cancels m (scope_of (named_kind names) m h) h ++ g) ≡ k.cancels + events_with test g
named_cancel test m k tells named.Parallel h g fails = one_cancel test m k tells Region h g tells.region
named_cancel test m k tells named.Taskgroup h g fails = group_cancel test m k tells (groups_over (executed_task m h) h) h g (fails.1).0

cancel_count : (test : Event → Bool) (m : ℕ) (k : Kinds) → Tells test m k → (names : TeamCancel) (allowed told : Bool) (h : List Event) → AllFail (cancel_tests (named_kind names) m h)
    → events_with test (cancelled_by true (named_kind names) m h (replies.Cancelling told) ++ h) ≡ tally k (ops.Cancel names true allowed) (replies.Cancelling told) + events_with test h
cancel_count test m k tells names allowed true h fails = let e = named_cancel test m k tells names h h fails in omega (arith, e)
cancel_count test m k tells names allowed false h fails = omega arith

spared_count : (test : Event → Bool) (m : ℕ) (k : Kinds) (names : TeamCancel) (allowed told : Bool) (h : List Event)
    → events_with test (cancelled_by false (named_kind names) m h (replies.Cancelling told) ++ h) ≡ tally k (ops.Cancel names false allowed) (replies.Cancelling told) + events_with test h
spared_count test m k names allowed true h = omega arith
spared_count test m k names allowed false h = omega arith

-- All operations

-- what an operation that is not refused gives
given_count : (test : Event → Bool) (m : ℕ) (k : Kinds) → Tells test m k → (limits : Limits) (room kept members : ℕ) (op : Op) (h : List Event) (reply : Reply)
    → Always (TaskRule members) h → op_refusal limits room kept m op h ≡ None → OpReply members m op (begun m op h) reply
    → events_with test (op_gives m op (begun m op h) reply ++ begun m op h) ≡ tally k op reply + events_with test h
given_count test m k tells limits room kept members (ops.Create desc) h reply rule fine answer = let e = creation_count test m k tells members desc h reply (creates_covered m h) refl rule answer in omega (arith, e)
given_count test m k tells limits room kept members ops.AwaitOwn h reply rule fine answer = let e = start_count test m k tells reply h in omega (arith, e)
given_count test m k tells limits room kept members (ops.EndTask leaving) h reply rule fine answer = end_count test m k tells leaving (executed_task m h) reply h h answer
given_count test m k tells limits room kept members (ops.Taskwait items) h reply rule fine answer = let e = waited_count test m k tells items reply h in omega (arith, e)
given_count test m k tells limits room kept members (ops.AwaitChildren items) h reply rule fine answer = let e = waited_count test m k tells items reply h in omega (arith, e)
given_count test m k tells limits room kept members ops.OpenGroup h reply rule fine answer = let e = tells.opens (groups_opened h) in rw answer (omega (arith, e))
given_count test m k tells limits room kept members ops.EndGroup h reply rule fine answer = let e = group_count test m k tells reply h answer in omega (arith, e)
given_count test m k tells limits room kept members ops.AwaitGroup h reply rule fine answer = let e = group_count test m k tells reply h answer in omega (arith, e)
given_count test m k tells limits room kept members (ops.Arrive tag leaving) h reply rule fine answer =
    let e = arrival_count test m k tells members tag leaving (is_cancelled h && not (is_region_end tag.kind)) h reply refl (admitted_before_end limits room kept m tag leaving h fine) answer in omega (arith, e)
given_count test m k tells limits room kept members ops.AwaitBarrier h reply rule fine answer = let e = pass_count test m k tells reply h h in omega (arith, e)
given_count test m k tells limits room kept members (ops.Reserve more) h reply rule fine answer = rw answer (omega arith)
given_count test m k tells limits room kept members (ops.Put share words) h reply rule fine answer = let e = tells.puts share words in rw answer (omega (arith, e))
given_count test m k tells limits room kept members (ops.Got share words) h reply rule fine answer = let e = tells.gets share words in rw answer (omega (arith, e))
given_count test m k tells limits room kept members (ops.Cancel names true allowed) h reply rule fine answer =
    rw answer (cancel_count test m k tells names allowed _ h (cancel_is_placed limits room kept m names true allowed h fine))
given_count test m k tells limits room kept members (ops.Cancel names false allowed) h reply rule fine answer = rw answer (spared_count test m k names allowed _ h)
given_count test m k tells limits room kept members (ops.Point names allowed) h reply rule fine answer = rw answer (omega arith)
given_count test m k tells limits room kept members (ops.Break place back) h reply rule fine answer = let e = tells.breaks place in rw answer (omega (arith, e))

pub answer_count : (test : Event → Bool) (m : ℕ) (k : Kinds) → Tells test m k → (limits : Limits) (room kept members : ℕ) (op : Op) (h : List Event) (reply : Reply)
    → Always (TaskRule members) h → OpAnswer limits room kept members m op h reply → events_with test (op_after m op reply h) ≡ whole_tally k op reply + events_with test h
answer_count test m k tells limits room kept members op h (replies.Refused refusal) rule answer = refused_count test m k tells op (op_place m op h) refusal h
answer_count test m k tells limits room kept members op h reply rule answer = given_count test m k tells limits room kept members op h reply rule answer.0 answer.1

-- Boards

-- what an operation that the board performs does to the number of its events that pass the test
performed_count : (test : Event → Bool) (m : ℕ) (k : Kinds) → Tells test m k → (op : Op) (board after : BoardView) (reply : Reply)
    → Stands board (reverse board.history) → Always (TaskRule (members_of board)) (reverse board.history) → Performs op m board after reply
    → events_with test after.history ≡ events_with test board.history + whole_tally k op reply
performed_count test m k tells op board after reply known rule performs =
    let h : List Event = reverse board.history in
    let there : Stands after (op_after m op reply h) = performs.stands h known in
    let a = answer_count test m k tells board.limits board.room (kept_by m board) (members_of board) op h reply rule (performs.answer h known) in
    let b = stored_count test m k tells (op_after m op reply h) in
    let c = ap (events_with test) there.history in
    let d = reverse_count test after.history in
    let e = reverse_count test board.history in
    omega (arith, a, b, c, d, e)

-- a refusal by a wait gives no event
low_refusal_count : (k : Kinds) (op : Op) (refusal : Refusal) → number_of refusal ≤ 22 → whole_tally k op (replies.Refused refusal) ≡ 0
low_refusal_count k op Mismatch low = absurd (omega (arith, low))
low_refusal_count k op _ low = refl

-- what an operation does to that number, be it refused by a wait or not
pub asked_count : (test : Event → Bool) (m : ℕ) (k : Kinds) → Tells test m k → (op : Op) (view after : WaitBoardView) (reply : Reply)
    → Stands view.board (reverse view.board.history) → Always (TaskRule (members_of view.board)) (reverse view.board.history) → PerformsOrWaits op m view after reply
    → events_with test after.board.history ≡ events_with test view.board.history + whole_tally k op reply
asked_count test m k tells op view after reply known rule performs = by_wait (open_wait_refusal (is_waiting m view) op) refl
  where
    by_wait : (one : Option Refusal) → open_wait_refusal (is_waiting m view) op ≡ one → events_with test after.board.history ≡ events_with test view.board.history + whole_tally k op reply
    by_wait None is = performed_count test m k tells op view.board after.board reply known rule (performs.performs is)
    by_wait (Some refusal) is =
        let (found, so, low) = wait_is_answered_low op m view after reply (reverse view.board.history) refusal known performs is in
        let few = wait_refusal_is_low (is_waiting m view) op refusal is in
        let none = low_refusal_count k op found (omega (arith, low, few)) in
        let given = ap (λ (r : Reply). whole_tally k op r) so in
        let same = ap (λ (b : BoardView). events_with test b.history) (performs.stays refusal is) in
        omega (arith, none, given, same)
