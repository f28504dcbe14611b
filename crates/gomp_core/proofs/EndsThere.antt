-- A member of the region has arrived at its end exactly while a call that ends it is not answered whole.
use Rattle.std.proofs.Common.{◌≡◌, ℕ, Bool, true, false, List, [], ◌∷◌, ◌++◌, Option, Some, None, refl, ap, sym, ◌∙◌, subst, inl, inr}
use Rattle.std.specs.Prelude.{◌==◌, ◌&&◌, ◌||◌, not, is_some, IfSome, if◌then◌else◌}
use Rattle.std.proofs.lemmas.Bool.{cases_Bool}
use Rattle.gomp_types.specs.declared.call.Call.{Call}
use Rattle.gomp_types.specs.declared.call.Call.TheVariants as calls
use Rattle.gomp_types.specs.declared.call.Step.{Step}
use Rattle.gomp_types.specs.declared.cancel.CancelKind.{CancelKind}
use Rattle.gomp_events.specs.declared.event.Arrival.{Arrival}
use Rattle.gomp_events.specs.declared.event.Arrival.TheVariants.{Barrier as BarrierArrival, ShareEnd}
use Rattle.gomp_events.specs.declared.event.Event.{Event}
use Rattle.gomp_events.specs.declared.event.Event.TheVariants.{Arrive, Pass, End, See}
use Rattle.gomp_types.specs.declared.refusal.Refusal.TheVariants.{Mismatch}
use Rattle.gomp_types.specs.declared.reply.Reply.{Reply}
use Rattle.gomp_types.specs.declared.reply.Reply.TheVariants.{Passed, Cancelled, Wait, Run, TaskDone, Stopped, Refused}
use Rattle.gomp_events.specs.Cancels.{is_cancelled, leaves_region}
use Rattle.gomp_events.specs.CancelCalls.{unless_cancelled}
use Rattle.gomp_events.specs.Tags.{tag_with}
use Rattle.gomp_events.specs.Events.{is_region_end, at_region_end, at_barrier, has_left_region, clash_of}
use Rattle.gomp_events.specs.Tasks.{task_stack, in_task}
use Rattle.gomp_events.specs.Goals.{may_pass}
use Rattle.gomp_events.specs.Laws.{Always}
use Rattle.gomp_types.proofs.Booleans.{is_equal, same_number, and_false, not_both, none_of_either}
use Rattle.gomp_types.proofs.LeastTests.{AllFail}
use Rattle.gomp_locks.proofs.NamesKeep.{no_task_outside}
use Rattle.gomp_board.specs.Ops.{awaits_barrier, goes_to_the_end}
use Rattle.gomp_model.specs.Past.{Terms, Waits, Past}
use Rattle.gomp_model.specs.Row.{Row, begun_past, row_tests, events_after}
use Rattle.gomp_model.specs.Calls.{row_of}
use Rattle.gomp_types.specs.Resumes.{call_meant, is_resume}
use Rattle.gomp_scheduler.proofs.ReadyKeeps.{or_nothing}
use Rattle.gomp_model.specs.Team.{Record, row_at, refusal_of, MayAnswer, open_first, waits_after, past_after, past_of, Caused}
use Rattle.gomp_model.proofs.ReplyEvents.{again_none, once_first}
use Rattle.gomp_laws.specs.Rules.{TeamRule}
use Rattle.gomp_laws.proofs.Awaits.{await_tells}
use Rattle.gomp_laws.proofs.Sound.{IsSound, Gives, gives_of}
use Rattle.gomp_laws.proofs.Calls.{row_is_sound}
use Rattle.gomp_laws.proofs.CallsKeep.{LastKeeps, step_keeps}
use Rattle.gomp_laws.proofs.Places.{was_whole}
use Rattle.gomp_laws.proofs.Waiting.{has_arrived, covers_none, none_arrived}
use Rattle.gomp_laws.proofs.TeamShares.{leaver_is_cancelled}
use Rattle.gomp_dispatch.specs.Answers.{waits_there}
use Rattle.gomp_laws.proofs.Known.{Known, known_of, begun_rule, repeats_or_stops, never_stopped, unrefused_step_passes}
use Rattle.gomp_core.proofs.WaitsThere.{none_under, open_is_away}

-- whether a call that arrives so ends the region
abbrev pub ends_by : Option Arrival → Bool
ends_by None = false
ends_by (Some kind) = is_region_end kind

-- whether the call that waits does
abbrev pub end_open : Option Call → Bool
end_open None = false
end_open (Some call) = ends_by (row_of call).arrives

-- whether one of these calls does
abbrev pub some_end : List Call → Bool
some_end [] = false
some_end (call ∷ calls) = ends_by (row_of call).arrives || some_end calls

-- whether a call of the member that is not answered whole does
abbrev pub end_of : Waits → Bool
end_of waits = end_open waits.open_call || some_end waits.beneath

-- then a member that is in the region has arrived at its end, and no other member has, if the team is not broken
abbrev pub IsAtEnd : ℕ → Waits → List Event → Type 0
IsAtEnd k waits h = clash_of h ≡ None → has_left_region k h ≡ false → at_region_end k h ≡ end_of waits

-- What a call begins with

-- a barrier's arrival
cut_end : (cut : Bool) (m barrier shares : ℕ) (h : List Event) → at_region_end m (unless_cancelled cut (Arrive barrier m (tag_with BarrierArrival shares) ∷ []) ++ h) ≡ at_region_end m h
cut_end true m barrier shares h = refl
cut_end false m barrier shares h = rw (same_number m) refl

-- that at a share's end, which is left
left_end : (cut sees : Bool) (m barrier shares share : ℕ) (kind : CancelKind) (h : List Event) →
    at_region_end m ((unless_cancelled cut (Arrive barrier m (tag_with ShareEnd shares) ∷ []) ++ (End share m ∷ (if sees then See m kind ∷ [] else []))) ++ h) ≡ at_region_end m h
left_end true true m barrier shares share kind h = refl
left_end true false m barrier shares share kind h = refl
left_end false true m barrier shares share kind h = rw (same_number m) refl
left_end false false m barrier shares share kind h = rw (same_number m) refl

-- a call that arrives brings its member to the region's end if it ends that
begins_at_end : (call : Call) (m : ℕ) (p : Past) → is_some (row_of call).arrives ≡ true → at_region_end m ((row_of call).begins m p ++ p.events) ≡ (ends_by (row_of call).arrives || at_region_end m p.events)
begins_at_end calls.Barrier m p arrives = cut_end (is_cancelled p.events) m _ _ p.events
begins_at_end calls.LoopEnd m p arrives = left_end (is_cancelled p.events) _ m _ _ _ _ p.events
begins_at_end calls.LoopEndCancel m p arrives = left_end (is_cancelled p.events) _ m _ _ _ _ p.events
begins_at_end calls.SectionsEnd m p arrives = left_end (is_cancelled p.events) _ m _ _ _ _ p.events
begins_at_end calls.SectionsEndCancel m p arrives = left_end (is_cancelled p.events) _ m _ _ _ _ p.events
begins_at_end calls.RegionEnd m p arrives = rw (same_number m) refl
begins_at_end _ m p arrives = absurd (cc)

-- no call that ends the region is answered that the region is cancelled
cut_ends_none : (call : Call) (m : ℕ) (p : Past) → is_some (row_of call).arrives ≡ true → (row_of call).may_reply m p Cancelled → ends_by (row_of call).arrives ≡ false
cut_ends_none calls.RegionEnd m p arrives may = elim (await_tells m (may_pass p.terms.members m p.events) p.events Cancelled may) [ inl e ↦ absurd (cc) | inr e ↦ absurd (cc) ]
cut_ends_none calls.Barrier m p arrives may = refl
cut_ends_none calls.LoopEnd m p arrives may = refl
cut_ends_none calls.LoopEndCancel m p arrives may = refl
cut_ends_none calls.SectionsEnd m p arrives may = refl
cut_ends_none calls.SectionsEndCancel m p arrives may = refl
cut_ends_none _ m p arrives may = absurd (cc)

-- What a step changes

-- a member that is in the region after an event was in it before
inside_before : (can : Gives) (reply : Reply) (k m : ℕ) (h : List Event) → LastKeeps can m reply (λ after. has_left_region k after ≡ false → has_left_region k h ≡ false)
inside_before can reply k m h (Pass barrier n) after by before = λ inside. before (none_of_either (n == k && at_region_end k after) (has_left_region k after) inside).1
inside_before can reply k m h _ after by before = before

was_inside : (row : Row) → IsSound row → (repeated : Bool) (k m : ℕ) (p : Past) (reply : Reply) → has_left_region k (events_after repeated row m p reply) ≡ false → has_left_region k p.events ≡ false
was_inside row sound repeated k m p reply =
    step_keeps row sound repeated m p reply (λ after. has_left_region k after ≡ false → has_left_region k p.events ≡ false) (inside_before (gives_of row) reply k m p.events) (λ inside. inside)

-- a call that does not arrive brings its member to no end
silent_end : (can : Gives) → can.arrives ≡ false → (reply : Reply) (m : ℕ) (h : List Event) → LastKeeps can m reply (λ after. at_region_end m after ≡ at_region_end m h)
silent_end can silent reply m h (Arrive barrier n tag) after by same = absurd (let arrives = by.1 in cc)
silent_end can silent reply m h _ after by same = same

end_own : (row : Row) → IsSound row → (repeated : Bool) (m : ℕ) (p : Past) (reply : Reply) → is_some row.arrives ≡ false → at_region_end m (events_after repeated row m p reply) ≡ at_region_end m p.events
end_own row sound repeated m p reply silent = step_keeps row sound repeated m p reply (λ after. at_region_end m after ≡ at_region_end m p.events) (silent_end (gives_of row) silent reply m p.events) refl

-- nor does another member's
another_end : (can : Gives) (reply : Reply) (k m : ℕ) (h : List Event) → (m == k) ≡ false → LastKeeps can m reply (λ after. at_region_end k after ≡ at_region_end k h)
another_end can reply k m h e (Arrive barrier n tag) after by same = rw by.0 (rw e same)
another_end can reply k m h e _ after by same = same

end_other : (row : Row) → IsSound row → (repeated : Bool) (k m : ℕ) (p : Past) (reply : Reply) → (m == k) ≡ false → at_region_end k (events_after repeated row m p reply) ≡ at_region_end k p.events
end_other row sound repeated k m p reply e = step_keeps row sound repeated m p reply (λ after. at_region_end k after ≡ at_region_end k p.events) (another_end (gives_of row) reply k m p.events e) refl

-- The calls that are not answered whole

silent_ends_none : (arrives : Option Arrival) → is_some arrives ≡ false → ends_by arrives ≡ false
silent_ends_none None silent = refl
silent_ends_none (Some kind) silent = absurd (cc)

quiet_ends_none : (waiting : Option Call) → has_arrived waiting ≡ false → end_open waiting ≡ false
quiet_ends_none None quiet = refl
quiet_ends_none (Some call) quiet = silent_ends_none (row_of call).arrives quiet

first_end : (calls : List Call) → end_of (open_first calls) ≡ some_end calls
first_end [] = refl
first_end (call ∷ calls) = refl

-- after a call that does not arrive they are as before
silent_waits : (call : Call) (waits : Waits) (reply : Reply) → is_some (row_of (call_meant call waits.open_call)).arrives ≡ false → has_arrived waits.open_call ≡ false → end_of (waits_after reply call waits) ≡ end_of waits
silent_waits call waits (Refused refusal) silent quiet = refl
silent_waits call waits Wait silent quiet = rw (silent_ends_none (row_of (call_meant call waits.open_call)).arrives silent, quiet_ends_none waits.open_call quiet) refl
silent_waits call waits (Run task code arg false) silent quiet = rw (silent_ends_none (row_of (call_meant call waits.open_call)).arrives silent, quiet_ends_none waits.open_call quiet) refl
silent_waits call waits (TaskDone task true) silent quiet = rw (quiet_ends_none waits.open_call quiet) (first_end waits.beneath)
silent_waits call waits _ silent quiet = rw (quiet_ends_none waits.open_call quiet) refl

-- A call that arrives

-- a call that is repeated ends the region if the one that waits does
repeats_end : (m : ℕ) (p : Past) (call : Call) (waiting : Option Call) → AllFail (row_tests (is_resume call) (row_of (call_meant call waiting)) m p) → is_resume call ≡ true → end_open waiting ≡ ends_by (row_of (call_meant call waiting)).arrives
repeats_end m p calls.Resume None fail repeated = refl
repeats_end m p calls.Resume (Some call) fail repeated = refl
repeats_end m p _ waiting fail repeated = absurd (cc)

begun_at_end : (call : Call) (waiting : Option Call) (repeated : Bool) (m : ℕ) (p : Past) → is_some (row_of call).arrives ≡ true → at_region_end m p.events ≡ end_open waiting → (repeated ≡ true → end_open waiting ≡ ends_by (row_of call).arrives) →
    (repeated ≡ false → end_open waiting ≡ false) → at_region_end m (begun_past repeated (row_of call) m p).events ≡ ends_by (row_of call).arrives
begun_at_end call waiting true m p arrives at again first = rw (again_none ((row_of call).begins m p)) (at ∙ again refl)
begun_at_end call waiting false m p arrives at again first =
    rw (once_first ((row_of call).begins m p)) (begins_at_end call m p arrives ∙ ap (λ (b : Bool). ends_by (row_of call).arrives || b) (at ∙ first refl) ∙ or_nothing (ends_by (row_of call).arrives))

never_stops : (call : Call) (m : ℕ) (p : Past) → is_some (row_of call).arrives ≡ true → (row_of call).may_reply m p Stopped → ⊥
never_stops call m p arrives may = elim ((row_is_sound call).tells arrives m p Stopped may) [ inl e ↦ absurd (cc) | inr (inl e) ↦ absurd (cc) | inr (inr e) ↦ absurd (cc) ]

-- no other call of its member is not answered whole
only_waiting_ends : (p : Past) (step : Step) → refusal_of p step ≡ None → Known p → is_some (row_at p step).arrives ≡ true → end_of (p.waits step.member) ≡ end_open (p.waits step.member).open_call
only_waiting_ends p step none known arrives = rw (none_under p step none known arrives) (or_nothing (end_open (p.waits step.member).open_call))

repeated_call_ends : (p : Past) (step : Step) → refusal_of p step ≡ None → is_resume step.call ≡ true → end_open (p.waits step.member).open_call ≡ ends_by (row_at p step).arrives
repeated_call_ends p step none again = repeats_end step.member p step.call (p.waits step.member).open_call (unrefused_step_passes p step none).row again

first_call_ends_none : (p : Past) (step : Step) → refusal_of p step ≡ None → is_some (row_at p step).arrives ≡ true → is_resume step.call ≡ false → end_open (p.waits step.member).open_call ≡ false
first_call_ends_none p step none arrives once =
    let waiting = (p.waits step.member).open_call in
    quiet_ends_none waiting (open_is_away step.member p step.call waiting (unrefused_step_passes p step none).wait (never_stops (call_meant step.call waiting) step.member p arrives) (rw once refl))

-- once it has begun, its member is at the region's end if it ends that
begun_end : (p : Past) (step : Step) → refusal_of p step ≡ None → Known p → is_some (row_at p step).arrives ≡ true → at_region_end step.member p.events ≡ end_of (p.waits step.member) →
    at_region_end step.member (begun_past (is_resume step.call) (row_at p step) step.member p).events ≡ ends_by (row_at p step).arrives
begun_end p step none known arrives at =
    let waiting = (p.waits step.member).open_call in
    begun_at_end (call_meant step.call waiting) waiting (is_resume step.call) step.member p arrives (at ∙ only_waiting_ends p step none known arrives) (λ again. repeated_call_ends p step none again) (λ once. first_call_ends_none p step none arrives once)

-- and after its reply it is there only if the call goes on
reply_end : (made : Call) (waits : Waits) (repeated : Bool) (members m : ℕ) (p : Past) (reply : Reply) → is_some (row_of (call_meant made waits.open_call)).arrives ≡ true → waits.beneath ≡ [] →
    (row_of (call_meant made waits.open_call)).may_reply m (begun_past repeated (row_of (call_meant made waits.open_call)) m p) reply → Always (TeamRule members) (begun_past repeated (row_of (call_meant made waits.open_call)) m p).events →
    at_region_end m (begun_past repeated (row_of (call_meant made waits.open_call)) m p).events ≡ ends_by (row_of (call_meant made waits.open_call)).arrives →
    has_left_region m (events_after repeated (row_of (call_meant made waits.open_call)) m p reply) ≡ false →
    at_region_end m (events_after repeated (row_of (call_meant made waits.open_call)) m p reply) ≡ end_of (waits_after reply made waits)
reply_end made waits repeated members m p (Refused refusal) arrives under may rules at inside = absurd ((row_is_sound (call_meant made waits.open_call)).accepts m _ refusal may)
reply_end made waits repeated members m p Wait arrives under may rules at inside =
    let call = call_meant made waits.open_call in
    rw ((row_is_sound call).waits_quietly arrives m (begun_past repeated (row_of call) m p), under) (at ∙ sym (or_nothing (ends_by (row_of call).arrives)))
reply_end made waits repeated members m p (Run task code arg false) arrives under may rules at inside =
    let call = call_meant made waits.open_call in
    rw (((row_is_sound call).runs m (begun_past repeated (row_of call) m p) task code arg false may).5, under) (at ∙ sym (or_nothing (ends_by (row_of call).arrives)))
reply_end made waits repeated members m p (Run task code arg true) arrives under may rules at inside =
    let call = call_meant made waits.open_call in
    absurd (not_both (is_some (row_of call).arrives) arrives (((row_is_sound call).runs m (begun_past repeated (row_of call) m p) task code arg true may).6 refl).0)
reply_end made waits repeated members m p Passed arrives under may rules at inside =
    let call = call_meant made waits.open_call in
    let q = begun_past repeated (row_of call) m p in
    let one = (row_is_sound call).one_pass arrives m q in
    let parts = none_of_either (m == m && at_region_end m q.events) (has_left_region m q.events) (rw one at inside) in
    rw (one, under) (rw (same_number m) at parts.0)
reply_end made waits repeated members m p Cancelled arrives under may rules at inside =
    let call = call_meant made waits.open_call in
    let q = begun_past repeated (row_of call) m p in
    rw (((row_is_sound call).cancelled m q may).1, under) (at ∙ cut_ends_none call m q arrives may)
reply_end made waits repeated members m p reply arrives under may rules at inside =
    let call = call_meant made waits.open_call in
    absurd (elim ((row_is_sound call).tells arrives m (begun_past repeated (row_of call) m p) reply may) [ inl e ↦ absurd (cc) | inr (inl e) ↦ absurd (cc) | inr (inr e) ↦ absurd (cc) ])

-- One step

answer_end : (p : Past) (step : Step) (reply : Reply) → refusal_of p step ≡ None → (row_at p step).may_reply step.member (begun_past (is_resume step.call) (row_at p step) step.member p) reply → Known p → IsAtEnd step.member (p.waits step.member) p.events →
    IsAtEnd step.member (waits_after reply step.call (p.waits step.member)) (events_after (is_resume step.call) (row_at p step) step.member p reply)
answer_end p step reply none may known there = λ whole inside.
    let m = step.member in
    let waits = p.waits m in
    let repeated = is_resume step.call in
    let row = row_at p step in
    let sound = row_is_sound (call_meant step.call waits.open_call) in
    let at : at_region_end m p.events ≡ end_of waits = there (was_whole row sound repeated m p reply whole) (was_inside row sound repeated m m p reply inside) in
    elim (cases_Bool (is_some row.arrives)) [
      | inl arrives ↦ reply_end step.call waits repeated p.terms.members m p reply arrives (none_under p step none known arrives) may (begun_rule p step none known) (begun_end p step none known arrives at) inside
      | inr silent ↦ elim (repeats_or_stops step.call waits.open_call (unrefused_step_passes p step none).wait silent) [
        | inl stop ↦ absurd (never_stopped p step.call waits.open_call m reply stop may whole)
        | inr quiet ↦ end_own row sound repeated m p reply silent ∙ at ∙ sym (silent_waits step.call waits reply silent quiet)
      ]
    ]

own_end : (p : Past) (step : Step) (reply : Reply) → MayAnswer p step reply → Known p → IsAtEnd step.member (p.waits step.member) p.events → IsAtEnd step.member (waits_after reply step.call (p.waits step.member)) (past_after p step reply).events
own_end p step (Refused Mismatch) may known there = λ whole. absurd (cc)
own_end p step (Refused _) may known there = there
own_end p step reply may known there = answer_end p step reply may.0 may.1 known there

step_end : (p : Past) (step : Step) (reply : Reply) (k : ℕ) → MayAnswer p step reply → Known p → ((m : ℕ) → IsAtEnd m (p.waits m) p.events) → IsAtEnd k ((past_after p step reply).waits k) (past_after p step reply).events
step_end p step reply k may known there = elim (cases_Bool (step.member == k)) [
  | inl same ↦ rw same (subst (λ (m : ℕ). IsAtEnd m (waits_after reply step.call (p.waits m)) (past_after p step reply).events) (is_equal step.member k same) (own_end p step reply may known (there step.member)))
  | inr other ↦ rw other (λ whole inside.
      let row = row_at p step in
      let sound = row_is_sound (call_meant step.call (p.waits step.member).open_call) in
      let repeated = is_resume step.call in
      end_other row sound repeated k step.member p reply other ∙ there k (was_whole row sound repeated step.member p reply whole) (was_inside row sound repeated k step.member p reply inside))
]

-- whatever was asked, who has arrived at the region's end, and has not left the region, has a call that ends it open or beneath
pub ends_there : (terms : Terms) (run : Record) → Caused terms run → (k : ℕ) → IsAtEnd k ((past_of terms run).waits k) (past_of terms run).events
ends_there terms [] caused k = λ whole inside. refl
ends_there terms (pair ∷ earlier) caused k = step_end (past_of terms earlier) pair.0 pair.1 k caused.0 (known_of terms earlier caused.1) (ends_there terms earlier caused.1)

-- A call that no test refuses

end_shown : (arrives : Option Arrival) (repeated at : Bool) → (is_some arrives ≡ true → at ≡ (repeated && ends_by arrives)) → IfSome arrives (λ (kind : Arrival). at ≡ (repeated && is_region_end kind))
end_shown None repeated at is = tt
end_shown (Some kind) repeated at is = is refl

end_chosen : (repeated at before end : Bool) → at ≡ before → (repeated ≡ true → before ≡ end) → (repeated ≡ false → before ≡ false) → at ≡ (repeated && end)
end_chosen true at before end is again once = is ∙ again refl
end_chosen false at before end is again once = is ∙ once refl

-- a member whose call arrives is at the region's end only if it repeats a call that ends that
pub ends_if_repeated : (p : Past) (step : Step) → refusal_of p step ≡ None → Known p → clash_of p.events ≡ None → has_left_region step.member p.events ≡ false → IsAtEnd step.member (p.waits step.member) p.events →
    IfSome (row_at p step).arrives (λ (kind : Arrival). at_region_end step.member p.events ≡ (is_resume step.call && is_region_end kind))
ends_if_repeated p step none known whole inside there =
    let waits = p.waits step.member in
    end_shown (row_at p step).arrives (is_resume step.call) (at_region_end step.member p.events)
    (λ arrives. end_chosen (is_resume step.call) (at_region_end step.member p.events) (end_open waits.open_call) (ends_by (row_at p step).arrives) (there whole inside ∙ only_waiting_ends p step none known arrives)
    (λ again. repeated_call_ends p step none again) (λ once. first_call_ends_none p step none arrives once))

in_no_task : (a b : Bool) → ((a && not true) && b) ≡ false
in_no_task true b = refl
in_no_task false b = refl

-- one that makes another call, and does not stop the team, waits at no barrier, or the region is cancelled and it is not at its end
pub away_unless_repeated : (p : Past) (step : Step) → refusal_of p step ≡ None → Known p → clash_of p.events ≡ None → has_left_region step.member p.events ≡ false → IsAtEnd step.member (p.waits step.member) p.events →
    ((q : Past) → (row_at p step).may_reply step.member q Stopped → ⊥) → (is_resume step.call && is_some (row_at p step).arrives) ≡ false → waits_there step.member p.events ≡ false
away_unless_repeated p step none known whole inside there goes not_again =
    let m = step.member in
    let waits = p.waits m in
    let quiet = open_is_away m p step.call waits.open_call (unrefused_step_passes p step none).wait (goes p) not_again in
    elim (cases_Bool (in_task m p.events)) [
      | inl inner ↦ rw inner (in_no_task (at_barrier m p.events) (not (goes_to_the_end m p.events)))
      | inr outside ↦
          let under = covers_none m waits.beneath (task_stack m p.events) p.events (known.each m).covers (no_task_outside m p.events outside) in
          elim (cases_Bool (leaves_region m p.events)) [
            | inl leaves ↦
                let ends : at_region_end m p.events ≡ false = there whole inside ∙ rw (under, quiet_ends_none waits.open_call quiet) refl in
                and_false (awaits_barrier m p.events) (not (goes_to_the_end m p.events)) (rw (leaver_is_cancelled p.terms.members m p.events known.rule leaves, ends) refl)
            | inr stays ↦ rw ((known.each m).fresh whole stays quiet (none_arrived waits.beneath under)).1 refl
          ]
    ]
