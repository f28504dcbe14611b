-- What is known of a step that no test refuses, from a record whose replies have their causes.
use Rattle.std.proofs.Common.{◌≡◌, ◌≤◌, ℕ, ◌<◌, true, false, List, [], ◌∷◌, Option, Some, None, length, refl, ap, sym, ◌∙◌, subst, arith, inl, inr}
use Rattle.std.specs.Prelude.{if◌then◌else◌, ◌==◌}
use Rattle.std.proofs.lemmas.Bool.{cases_lt}
use Rattle.gomp_types.specs.declared.call.Call.{Call}
use Rattle.gomp_types.specs.declared.call.Call.TheVariants.{Resume}
use Rattle.gomp_types.specs.declared.call.Step.{Step}
use Rattle.gomp_events.specs.declared.event.Event.{Event}
use Rattle.gomp_types.specs.declared.limits.Limits.{Limits}
use Rattle.gomp_types.specs.declared.limits.TheConstants.{MAX_TASK_DEPTH}
use Rattle.gomp_types.specs.declared.refusal.Refusal.TheVariants.{BadMember}
use Rattle.gomp_types.specs.declared.reply.Reply.TheVariants.{Run}
use Rattle.gomp_types.specs.Limits.{capped_limits}
use Rattle.gomp_types.specs.Least.{least}
use Rattle.gomp_events.specs.Events.{has_left_region, clash_of}
use Rattle.gomp_events.specs.Seen.{seen_of}
use Rattle.gomp_events.specs.Tasks.{task_stack}
use Rattle.gomp_types.proofs.LeastTests.{AllFail, none_holds}
use Rattle.gomp_types.proofs.Booleans.{same_number}
use Rattle.gomp_events.proofs.TaskDepths.{few_suspended}
use Rattle.gomp_model.specs.Past.{Terms, Waits, Past}
use Rattle.gomp_model.specs.Row.{row_tests}
use Rattle.gomp_model.specs.Calls.{row_of}
use Rattle.gomp_types.specs.Resumes.{call_meant, is_resume}
use Rattle.gomp_model.specs.Team.{Record, row_at, refusal_of, waits_after, past_of, Caused}
use Rattle.gomp_events.specs.Laws.{Always}
use Rattle.gomp_events.specs.Breaks.{broken_tests}
use Rattle.gomp_locks.specs.HoldRules.{HoldRule}
use Rattle.gomp_laws.proofs.TeamShares.{hold_rules, task_rules}
use Rattle.gomp_laws.proofs.Waiting.{Pending, Covers}
use Rattle.gomp_laws.proofs.Known.{known_of, same_terms, unrefused_step_passes, unrefused_step_is_admitted}
use Rattle.gomp_board.specs.Boards.{BoardView}
use Rattle.gomp_dispatch.specs.Answers.{KeepsStart}
use Rattle.gomp_dispatch.specs.declared.leaving.Manner.{Manner}
use Rattle.gomp_dispatch.specs.Leaves.{LeavesAs}
use Rattle.gomp_core.specs.Replies.{TeamAdmits}
use Rattle.gomp_core.proofs.Refused.{bad_member}
use Rattle.gomp_core.proofs.WaitsThere.{arrived_waits_there, awaits_if_repeated}
use Rattle.gomp_core.proofs.EndsThere.{ends_there, away_unless_repeated, ends_if_repeated}

-- a team's terms, with limits that are not above the standard ones
pub same_members : (terms : Terms) (run : Record) → (past_of terms run).terms.members ≡ terms.members
same_members terms run = ap (λ (t : Terms). t.members) (same_terms terms run)

pub same_limits : (terms : Terms) (run : Record) → capped_limits terms.limits ≡ terms.limits → (past_of terms run).terms.limits ≡ terms.limits
same_limits terms run small = ap (λ (t : Terms). t.limits) (same_terms terms run) ∙ small

-- The call that a step makes or repeats

-- what happened keeps the rule of names and locks
pub rule_of_holds : (terms : Terms) (run : Record) → Caused terms run → Always HoldRule (past_of terms run).events
rule_of_holds terms run caused = hold_rules (past_of terms run).terms.members (past_of terms run).events (known_of terms run caused).rule

whole_tests : (p : Past) → AllFail (broken_tests (clash_of p.events)) → clash_of p.events ≡ None
whole_tests p fail = none_broken (clash_of p.events) fail
  where
    none_broken : (clash : _) → AllFail (broken_tests clash) → clash ≡ None
    none_broken None fail = refl
    none_broken (Some clash) fail = absurd (let broken = fail.0 in cc)

-- the member of a step that is not refused is in the region, and its team is whole
pub unrefused_inside : (p : Past) (step : Step) → refusal_of p step ≡ None → has_left_region step.member p.events ≡ false
unrefused_inside p step none = (unrefused_step_passes p step none).member.1.0

pub unrefused_whole : (p : Past) (step : Step) → refusal_of p step ≡ None → clash_of p.events ≡ None
unrefused_whole p step none = whole_tests p (unrefused_step_passes p step none).member.1.1

-- the start that is repeated has its room, if each that waits has
repeated_kept : (m : ℕ) (board : BoardView) (p : Past) (call : Call) (waiting : Option Call) → AllFail (row_tests (is_resume call) (row_of (call_meant call waiting)) m p) → ((other : Call) → waiting ≡ Some other → KeepsStart (row_of other) m board) → is_resume call ≡ true →
    KeepsStart (row_of (call_meant call waiting)) m board
repeated_kept m board p Resume None fail kept repeated = absurd (let shut = fail.0 in cc)
repeated_kept m board p Resume (Some call) fail kept repeated = kept call refl
repeated_kept m board p _ waiting fail kept repeated = absurd (cc)

-- no test of the parts holds of a step that is not refused, nor one of the book
pub step_admitted : (terms : Terms) (run : Record) (step : Step) (manner : Manner) (board : BoardView) → Caused terms run → refusal_of (past_of terms run) step ≡ None →
    ((call : Call) → ((past_of terms run).waits step.member).open_call ≡ Some call → KeepsStart (row_of call) step.member board) →
    manner.repeated ≡ is_resume step.call → LeavesAs manner.leaving step.member (past_of terms run).events → terms.cancellation ≡ manner.allowed → TeamAdmits (row_at (past_of terms run) step) manner step.member board (past_of terms run)
step_admitted terms run step manner board caused none kept again leaves allowed =
    let p = past_of terms run in
    let m = step.member in
    let known = known_of terms run caused in
    let ready = unrefused_step_is_admitted p step none known in
    let passes = (unrefused_step_passes p step none).row in
    let whole = unrefused_whole p step none in
    rw again (
      record {
        admitted = ready.admitted.parts;
        inside = unrefused_inside p step none;
        whole = whole;
        arrived = awaits_if_repeated p step none known (arrived_waits_there terms run caused m);
        away = away_unless_repeated p step none known whole (unrefused_inside p step none) (ends_there terms run caused m);
        ends = ends_if_repeated p step none known whole (unrefused_inside p step none) (ends_there terms run caused m);
        kept = λ again. repeated_kept m board p step.call (p.waits m).open_call passes kept again;
      },
      record { leaves = leaves; allowed = ap (λ (t : Terms). t.cancellation) (same_terms terms run) ∙ allowed },
      rule_of_holds terms run caused,
      ready.admitted.book,
    )

-- the place of a call that waits there is tested still
waiting_place_kept : (m : ℕ) (limits : Limits) (h : List Event) (call : Call) (waiting : Option Call) → Pending limits m waiting h → is_resume call ≡ true → (row_of (call_meant call waiting)).stays ≡ true →
    least ((row_of (call_meant call waiting)).by_place limits (seen_of m h)) ≡ None
waiting_place_kept m limits h Resume None pending repeated stays = absurd (cc)
waiting_place_kept m limits h Resume (Some call) pending repeated stays = none_holds ((row_of call).by_place limits (seen_of m h)) (pending stays)
waiting_place_kept m limits h _ waiting pending repeated stays = absurd (cc)

pub step_place : (terms : Terms) (run : Record) (step : Step) (limits : Limits) → Caused terms run → capped_limits terms.limits ≡ terms.limits → limits ≡ terms.limits → is_resume step.call ≡ true → (row_at (past_of terms run) step).stays ≡ true →
    least ((row_at (past_of terms run) step).by_place limits (seen_of step.member (past_of terms run).events)) ≡ None
step_place terms run step limits caused small bounds repeated stays =
    let p = past_of terms run in
    let is : p.terms.limits ≡ limits = same_limits terms run small ∙ sym bounds in
    waiting_place_kept step.member limits p.events step.call (p.waits step.member).open_call (subst (λ (l : Limits). Pending l step.member (p.waits step.member).open_call p.events) is ((known_of terms run caused).each step.member).pending) repeated stays

-- a member whose step is not refused for that is one of the team
pub step_below : (p : Past) (step : Step) → (refusal_of p step ≡ Some BadMember → ⊥) → step.member < p.terms.members
step_below p step good =
    elim (cases_lt step.member p.terms.members) [
      | inl below ↦ below
      | inr past ↦ absurd (good (sym (bad_member p step past)))
    ]

-- The calls at which tasks were started

-- there are as many of them as tasks at most
covers_length : (k : ℕ) (calls : List Call) (tasks : List ℕ) (h : List Event) → Covers k calls tasks h → length calls ≤ length tasks
covers_length k calls [] h covers = rw covers (omega arith)
covers_length k calls (task ∷ tasks) h (inl own) = let most : length calls ≤ length tasks = covers_length k calls tasks h own.1 in omega (arith, most)
covers_length k [] (task ∷ tasks) h (inr other) = absurd (other.1)
covers_length k (call ∷ calls) (task ∷ tasks) h (inr other) = let most : length calls ≤ length tasks = covers_length k calls tasks h other.1.1 in omega (arith, most)

pub own_chosen : {A : Type 0} (n : ℕ) (x y : A) → (if n == n then x else y) ≡ x
own_chosen n x y = rw (same_number n) refl

-- before a task is started fewer lie beneath than may
pub few_beneath : (terms : Terms) (run : Record) (step : Step) (task code arg : ℕ) → Caused terms ((step, Run task code arg false) ∷ run) → length ((past_of terms run).waits step.member).beneath < MAX_TASK_DEPTH
few_beneath terms run step task code arg caused =
    let p = past_of terms run in
    let m = step.member in
    let q = past_of terms ((step, Run task code arg false) ∷ run) in
    let known = known_of terms ((step, Run task code arg false) ∷ run) caused in
    let after = waits_after (Run task code arg false) step.call (p.waits m) in
    let own : q.waits m ≡ after = own_chosen m after (p.waits m) in
    let most : length (task_stack m q.events) ≤ 64 = few_suspended q.terms.members m q.events (task_rules q.terms.members q.events known.rule) in
    let all : length after.beneath ≤ length (task_stack m q.events) = covers_length m after.beneath (task_stack m q.events) q.events (subst (λ (w : Waits). Covers m w.beneath (task_stack m q.events) q.events) own (known.each m).covers) in
    omega (arith, most, all)
