-- What a member knows is what the model says of it: at first, after a step of its own, and after one of another member.
use Rattle.std.proofs.Common.{◌≡◌, ℕ, Bool, true, false, List, [], ◌∷◌, refl, sym, ap, subst, ◌∙◌, inl, inr}
use Rattle.std.specs.Prelude.{◌≢◌, ◌⊎◌, ◌==◌, ◌||◌, is_some}
use Rattle.gomp_types.specs.declared.call.Call.{Call}
use Rattle.gomp_types.specs.declared.call.Server.{Server}
use Rattle.gomp_types.specs.declared.call.Server.TheVariants.{Book}
use Rattle.gomp_types.specs.declared.call.Step.{Step}
use Rattle.gomp_types.specs.declared.call.Call.TheVariants.{RegionEnd}
use Rattle.gomp_types.specs.declared.refusal.Place.{Place}
use Rattle.gomp_types.specs.declared.refusal.Refusal.{Refusal}
use Rattle.gomp_types.specs.declared.refusal.Refusal.TheVariants.{Mismatch}
use Rattle.gomp_events.specs.Breaks.{refusal_gives}
use Rattle.std.specs.Prelude.{◌++◌}
use Rattle.gomp_types.specs.declared.reply.Reply.{Reply}
use Rattle.gomp_types.specs.declared.reply.Reply.TheVariants.{Passed, Cancelled, Cancelling, Run, TaskDone, Refused}
use Rattle.gomp_types.specs.Resumes.{call_meant, is_resume}
use Rattle.gomp_types.specs.Servers.{served_by}
use Rattle.gomp_types.proofs.Booleans.{same_number, other_number, not_both}
use Rattle.gomp_events.specs.declared.event.Event.{Event}
use Rattle.gomp_events.specs.declared.event.Event.TheVariants.{Pass, Start, Done, See, Enter, End}
use Rattle.gomp_events.specs.Events.{has_left_region}
use Rattle.gomp_events.specs.Tasks.{after_first, task_stack, innermost_task, executed_task}
use Rattle.gomp_events.specs.Cancels.{leaves_share}
use Rattle.gomp_model.specs.Past.{Terms, Past}
use Rattle.gomp_model.specs.Row.{begun_past, events_after}
use Rattle.gomp_model.specs.Calls.{row_of}
use Rattle.gomp_model.specs.Team.{row_at, MayAnswer, past_after, before_all}
use Rattle.gomp_laws.proofs.Sound.{is_pass, Gives, gives_of}
use Rattle.gomp_laws.proofs.Calls.{row_is_sound}
use Rattle.gomp_laws.proofs.CallsKeep.{LastKeeps, step_keeps}
use Rattle.gomp_laws.proofs.Places.{stack_own, stack_begun}
use Rattle.gomp_laws.proofs.Leaving.{others_leave_the_same, quiet_reply_leaves_the_same, starter_leaves_no_task, ender_leaves_no_task, member_answered_cancelled_leaves_the_region}
use Rattle.gomp_dispatch.specs.declared.leaving.Leaving.{Leaving}
use Rattle.gomp_dispatch.specs.Leaves.{LeavesAs, leaving_after}
use Rattle.gomp_dispatch.proofs.LeavesAfter.{leaves_after}
use Rattle.gomp_member.specs.Own.{OwnView, new_member, own_task, own_meant, own_after, passes_end, tasks_after, without_first}
use Rattle.gomp_member.specs.Tests.{KnowsPast}
use Rattle.gomp_member.proofs.BookReplies.{book_tells_of_no_cancellation}

-- A new member

-- it knows what is before all
pub new_member_knows : (team m : ℕ) (terms : Terms) → KnowsPast (new_member team m) (before_all terms)
new_member_knows team m terms = record { ended = refl; waits = refl; task = refl; leaving = record { region = refl; task = refl }; share = refl }

pub new_member_knows_its_tasks : (team m : ℕ) (terms : Terms) → task_stack m (before_all terms).events ≡ (new_member team m).tasks
new_member_knows_its_tasks team m terms = refl

-- A step of its own

-- the call that it means is the one that the model says is meant
pub meant_call_is_the_same : (own : OwnView) (p : Past) (step : Step) → step.member ≡ own.number → p.waits own.number ≡ own.waits → own_meant own step.call ≡ call_meant step.call (p.waits step.member).open_call
meant_call_is_the_same own p step by is = rw (by, is) refl

-- it knows which of its calls wait then
pub knows_waits_after : (own : OwnView) (p : Past) (step : Step) (reply : Reply) → step.member ≡ own.number → p.waits own.number ≡ own.waits → (past_after p step reply).waits own.number ≡ (own_after reply step.call own).waits
knows_waits_after own p step reply by is = rw (by, same_number own.number, is) refl

-- and which tasks it has started and not ended
same_without_first : (tasks : List ℕ) → after_first tasks ≡ without_first tasks
same_without_first [] = refl
same_without_first (task ∷ tasks) = refl

stack_after_step : (p : Past) (step : Step) (reply : Reply) → MayAnswer p step reply → task_stack step.member (past_after p step reply).events ≡ tasks_after reply (task_stack step.member p.events)
stack_after_step p step (Run task code arg own) may =
    let row = row_at p step in
    let sound = row_is_sound (call_meant step.call (p.waits step.member).open_call) in
    let begun = begun_past (is_resume step.call) row step.member p in
    rw ((sound.runs step.member begun task code arg own may.1).5, same_number step.member, stack_begun row sound (is_resume step.call) step.member p) refl
stack_after_step p step (TaskDone task waiting) may =
    let row = row_at p step in
    let sound = row_is_sound (call_meant step.call (p.waits step.member).open_call) in
    let begun = begun_past (is_resume step.call) row step.member p in
    rw ((sound.ends step.member begun task waiting may.1).3, same_number step.member, stack_begun row sound (is_resume step.call) step.member p) (same_without_first (task_stack step.member p.events))
stack_after_step p step reply may =
    stack_own (row_at p step) (row_is_sound (call_meant step.call (p.waits step.member).open_call)) (is_resume step.call) step.member p reply refl refl

pub knows_tasks_after : (own : OwnView) (p : Past) (step : Step) (reply : Reply) → step.member ≡ own.number → task_stack own.number p.events ≡ own.tasks → MayAnswer p step reply →
    task_stack own.number (past_after p step reply).events ≡ (own_after reply step.call own).tasks
knows_tasks_after own p step reply by is may =
    ap (λ (m : ℕ). task_stack m (past_after p step reply).events) (sym by) ∙ stack_after_step p step reply may ∙ ap (λ (m : ℕ). tasks_after reply (task_stack m p.events)) by ∙ ap (tasks_after reply) is

-- so which task it executes
same_innermost : (m : ℕ) (tasks : List ℕ) (own : OwnView) → own.number ≡ m → own.tasks ≡ tasks → innermost_task m tasks ≡ own_task own
same_innermost m [] own number tasks = rw (number, tasks) refl
same_innermost m (task ∷ below) own number tasks = rw tasks refl

pub knows_task_by_its_tasks : (own : OwnView) (p : Past) → task_stack own.number p.events ≡ own.tasks → executed_task own.number p.events ≡ own_task own
knows_task_by_its_tasks own p is = same_innermost own.number (task_stack own.number p.events) own refl (sym is)

-- and what it leaves, its share aside
by_the_book_or_not : (server : Server) → (server ≡ Book) ⊎ (server ≢ Book)
by_the_book_or_not Book = inl refl
by_the_book_or_not _ = inr (λ is. absurd (cc))

leaving_told : (call : Call) (repeated : Bool) (m : ℕ) (p : Past) (told : Bool) (leaving : Leaving) → (row_of call).may_reply m (begun_past repeated (row_of call) m p) (Cancelling told) → LeavesAs leaving m p.events →
    LeavesAs (leaving_after (Cancelling told) call leaving) m (events_after repeated (row_of call) m p (Cancelling told))
leaving_told call repeated m p told leaving may as_before =
    elim (by_the_book_or_not (served_by call)) [
      | inl asks ↦ absurd (book_tells_of_no_cancellation call m (begun_past repeated (row_of call) m p) told asks may)
      | inr aside ↦ leaves_after call repeated m p (Cancelling told) leaving aside may as_before
    ]

leaving_after_step : (p : Past) (step : Step) (reply : Reply) (leaving : Leaving) → MayAnswer p step reply → LeavesAs leaving step.member p.events →
    LeavesAs (leaving_after reply (call_meant step.call (p.waits step.member).open_call) leaving) step.member (past_after p step reply).events
leaving_after_step p step (Run task code arg own) leaving may as_before =
    let call = call_meant step.call (p.waits step.member).open_call in
    let none = starter_leaves_no_task (row_of call) (row_is_sound call) (is_resume step.call) step.member p task code arg own may.1 in
    record { region = none.0 ∙ as_before.region; task = none.1 }
leaving_after_step p step (TaskDone task waiting) leaving may as_before =
    let call = call_meant step.call (p.waits step.member).open_call in
    let none = ender_leaves_no_task (row_of call) (row_is_sound call) (is_resume step.call) step.member p task waiting may.1 in
    record { region = none.0 ∙ as_before.region; task = none.1 }
leaving_after_step p step Cancelled leaving may as_before =
    let call = call_meant step.call (p.waits step.member).open_call in
    let told = member_answered_cancelled_leaves_the_region (row_of call) (row_is_sound call) (is_resume step.call) step.member p may.1 in
    record { region = told.0; task = told.1 ∙ as_before.task }
leaving_after_step p step (Cancelling told) leaving may as_before = leaving_told (call_meant step.call (p.waits step.member).open_call) (is_resume step.call) step.member p told leaving may.1 as_before
leaving_after_step p step reply leaving may as_before =
    let call = call_meant step.call (p.waits step.member).open_call in
    let same = quiet_reply_leaves_the_same (row_of call) (row_is_sound call) (is_resume step.call) step.member step.member p reply refl refl refl in
    record { region = same.region ∙ as_before.region; task = same.task ∙ as_before.task }

pub knows_leaving_after : (own : OwnView) (p : Past) (step : Step) (reply : Reply) → step.member ≡ own.number → p.waits own.number ≡ own.waits → LeavesAs own.leaving own.number p.events → MayAnswer p step reply →
    LeavesAs (own_after reply step.call own).leaving own.number (past_after p step reply).events
knows_leaving_after own p step reply by is as_before may =
    let meant = meant_call_is_the_same own p step by is in
    let there : LeavesAs own.leaving step.member p.events = subst (λ (m : ℕ). LeavesAs own.leaving m p.events) (sym by) as_before in
    let after = leaving_after_step p step reply own.leaving may there in
    let here : LeavesAs (leaving_after reply (own_meant own step.call) own.leaving) step.member (past_after p step reply).events =
    subst (λ (call : Call). LeavesAs (leaving_after reply call own.leaving) step.member (past_after p step reply).events) (sym meant) after in
    subst (λ (m : ℕ). LeavesAs (leaving_after reply (own_meant own step.call) own.leaving) m (past_after p step reply).events) by here

-- whether it has passed the region's end, unless the reply is that a barrier is passed
end_kept_unpassed : (can : Gives) (m k : ℕ) (reply : Reply) (before : List Event) → is_pass reply ≡ false → LastKeeps can m reply (λ now. has_left_region k now ≡ has_left_region k before)
end_kept_unpassed can m k reply before none (Pass barrier n) now last same = absurd (not_both (is_pass reply) last.2 none)
end_kept_unpassed can m k reply before none _ now last same = same

end_unpassed : (reply : Reply) → is_pass reply ≡ false → passes_end RegionEnd reply ≡ false
end_unpassed Passed none = absurd (cc)
end_unpassed _ none = refl

no_end_unpassed : (call : Call) (reply : Reply) → is_pass reply ≡ false → passes_end call reply ≡ false
no_end_unpassed RegionEnd reply none = end_unpassed reply none
no_end_unpassed _ reply none = refl

flag_alone : (flag other : Bool) → other ≡ false → (flag || other) ≡ flag
flag_alone true other none = refl
flag_alone false other none = none

pub knows_end_after_unpassed : (own : OwnView) (p : Past) (step : Step) (reply : Reply) → has_left_region own.number p.events ≡ own.ended → is_pass reply ≡ false →
    has_left_region own.number (past_after p step reply).events ≡ (own_after reply step.call own).ended
knows_end_after_unpassed own p step reply is none =
    let call = call_meant step.call (p.waits step.member).open_call in
    let k = own.number in
    let same : has_left_region k (past_after p step reply).events ≡ has_left_region k p.events =
    step_keeps (row_of call) (row_is_sound call) (is_resume step.call) step.member p reply (λ now. has_left_region k now ≡ has_left_region k p.events) (end_kept_unpassed (gives_of (row_of call)) step.member k reply p.events none) refl in
    same ∙ is ∙ sym (flag_alone own.ended (passes_end (own_meant own step.call) reply) (no_end_unpassed (own_meant own step.call) reply none))

-- nor does a call that arrives at no barrier change that, whatever the reply
end_kept_elsewhere : (can : Gives) (m k : ℕ) (reply : Reply) (before : List Event) → can.arrives ≡ false → LastKeeps can m reply (λ now. has_left_region k now ≡ has_left_region k before)
end_kept_elsewhere can m k reply before none (Pass barrier n) now last same = absurd (not_both can.arrives last.1 none)
end_kept_elsewhere can m k reply before none _ now last same = same

no_end_without_arrival : (call : Call) (reply : Reply) → is_some (row_of call).arrives ≡ false → passes_end call reply ≡ false
no_end_without_arrival RegionEnd reply none = absurd (cc)
no_end_without_arrival _ reply none = refl

pub knows_end_without_arrival : (own : OwnView) (p : Past) (step : Step) (reply : Reply) → step.member ≡ own.number → p.waits own.number ≡ own.waits → has_left_region own.number p.events ≡ own.ended → is_some (row_at p step).arrives ≡ false →
    has_left_region own.number (past_after p step reply).events ≡ (own_after reply step.call own).ended
knows_end_without_arrival own p step reply by waits is none =
    let call = call_meant step.call (p.waits step.member).open_call in
    let k = own.number in
    let same : has_left_region k (past_after p step reply).events ≡ has_left_region k p.events =
    step_keeps (row_of call) (row_is_sound call) (is_resume step.call) step.member p reply (λ now. has_left_region k now ≡ has_left_region k p.events) (end_kept_elsewhere (gives_of (row_of call)) step.member k reply p.events none) refl in
    let unpassed : passes_end (own_meant own step.call) reply ≡ false = ap (λ (c : Call). passes_end c reply) (meant_call_is_the_same own p step by waits) ∙ no_end_without_arrival call reply none in
    same ∙ is ∙ sym (flag_alone own.ended (passes_end (own_meant own step.call) reply) unpassed)

-- A step of its own that is refused

share_kept_by_a_break : (refusal : Refusal) (m k : ℕ) (place : Place) (h : List Event) → leaves_share k (refusal_gives refusal m place ++ h) ≡ leaves_share k h
share_kept_by_a_break Mismatch m k place h = refl
share_kept_by_a_break _ m k place h = refl

-- it knows all of the past then
pub knows_after_refusal : (own : OwnView) (p : Past) (step : Step) (refusal : Refusal) → step.member ≡ own.number → KnowsPast own p → MayAnswer p step (Refused refusal) →
    KnowsPast (own_after (Refused refusal) step.call own) (past_after p step (Refused refusal))
knows_after_refusal own p step refusal by knows may =
    let call = call_meant step.call (p.waits step.member).open_call in
    let after = (past_after p step (Refused refusal)).events in
    let there = stack_own (row_of call) (row_is_sound call) (is_resume step.call) step.member p (Refused refusal) refl refl in
    let stack : task_stack own.number after ≡ task_stack own.number p.events = ap (λ (m : ℕ). task_stack m after) (sym by) ∙ there ∙ ap (λ (m : ℕ). task_stack m p.events) by in
    record {
      ended = knows_end_after_unpassed own p step (Refused refusal) knows.ended refl;
      waits = knows_waits_after own p step (Refused refusal) by knows.waits;
      task = ap (innermost_task own.number) stack ∙ knows.task;
      leaving = knows_leaving_after own p step (Refused refusal) by knows.waits knows.leaving may;
      share = share_kept_by_a_break refusal step.member own.number ((row_of call).place step.member p.events) p.events ∙ knows.share;
    }

-- A step of another member

-- it leaves the tasks of a member,
others_keep_the_stack : (can : Gives) (m k : ℕ) (reply : Reply) (before : List Event) → m ≢ k → LastKeeps can m reply (λ now. task_stack k now ≡ task_stack k before)
others_keep_the_stack can m k reply before other (Start task n) now last same = let apart : (n == k) ≡ false = rw last.0 (other_number m k other) in rw apart same
others_keep_the_stack can m k reply before other (Done task n) now last same = let apart : (n == k) ≡ false = rw last.0 (other_number m k other) in rw apart same
others_keep_the_stack can m k reply before other _ now last same = same

-- whether it has passed the region's end,
others_keep_the_end : (can : Gives) (m k : ℕ) (reply : Reply) (before : List Event) → m ≢ k → LastKeeps can m reply (λ now. has_left_region k now ≡ has_left_region k before)
others_keep_the_end can m k reply before other (Pass barrier n) now last same = let apart : (n == k) ≡ false = rw last.0 (other_number m k other) in rw apart same
others_keep_the_end can m k reply before other _ now last same = same

-- and whether it leaves its share
others_keep_the_share : (can : Gives) (m k : ℕ) (reply : Reply) (before : List Event) → m ≢ k → LastKeeps can m reply (λ now. leaves_share k now ≡ leaves_share k before)
others_keep_the_share can m k reply before other (See n kind) now last same = let apart : (n == k) ≡ false = rw last.0 (other_number m k other) in rw apart same
others_keep_the_share can m k reply before other (Enter share n shape) now last same = let apart : (n == k) ≡ false = rw last (other_number m k other) in rw apart same
others_keep_the_share can m k reply before other (End share n) now last same = let apart : (n == k) ≡ false = rw last (other_number m k other) in rw apart same
others_keep_the_share can m k reply before other _ now last same = same

pub other_steps_keep_tasks : (k : ℕ) (p : Past) (step : Step) (reply : Reply) → step.member ≢ k → task_stack k (past_after p step reply).events ≡ task_stack k p.events
other_steps_keep_tasks k p step reply other =
    let call = call_meant step.call (p.waits step.member).open_call in
    step_keeps (row_of call) (row_is_sound call) (is_resume step.call) step.member p reply (λ now. task_stack k now ≡ task_stack k p.events) (others_keep_the_stack (gives_of (row_of call)) step.member k reply p.events other) refl

other_steps_keep_the_end : (k : ℕ) (p : Past) (step : Step) (reply : Reply) → step.member ≢ k → has_left_region k (past_after p step reply).events ≡ has_left_region k p.events
other_steps_keep_the_end k p step reply other =
    let call = call_meant step.call (p.waits step.member).open_call in
    step_keeps (row_of call) (row_is_sound call) (is_resume step.call) step.member p reply (λ now. has_left_region k now ≡ has_left_region k p.events) (others_keep_the_end (gives_of (row_of call)) step.member k reply p.events other) refl

other_steps_keep_the_share : (k : ℕ) (p : Past) (step : Step) (reply : Reply) → step.member ≢ k → leaves_share k (past_after p step reply).events ≡ leaves_share k p.events
other_steps_keep_the_share k p step reply other =
    let call = call_meant step.call (p.waits step.member).open_call in
    step_keeps (row_of call) (row_is_sound call) (is_resume step.call) step.member p reply (λ now. leaves_share k now ≡ leaves_share k p.events) (others_keep_the_share (gives_of (row_of call)) step.member k reply p.events other) refl

-- it leaves all that a member knows as it is
pub other_steps_keep : (own : OwnView) (p : Past) (step : Step) (reply : Reply) → step.member ≢ own.number → KnowsPast own p → KnowsPast own (past_after p step reply)
other_steps_keep own p step reply other knows =
    let call = call_meant step.call (p.waits step.member).open_call in
    let leaves = others_leave_the_same (row_of call) (row_is_sound call) (is_resume step.call) step.member own.number p reply other in
    record {
      ended = other_steps_keep_the_end own.number p step reply other ∙ knows.ended;
      waits = rw (other_number step.member own.number other) knows.waits;
      task = ap (innermost_task own.number) (other_steps_keep_tasks own.number p step reply other) ∙ knows.task;
      leaving = record { region = leaves.region ∙ knows.leaving.region; task = leaves.task ∙ knows.leaving.task };
      share = other_steps_keep_the_share own.number p step reply other ∙ knows.share;
    }
