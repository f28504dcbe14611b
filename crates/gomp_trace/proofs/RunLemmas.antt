-- What one more step makes of a run that is traced.
use Rattle.std.proofs.Common.{◌≡◌, ℕ, ◌+◌, ◌<◌, ◌≤◌, true, false, Bool, List, [], ◌∷◌, ◌++◌, Option, length, refl, ap, sym, subst, ◌∙◌, arith, inl, inr, length-append}
use Rattle.std.specs.Prelude.{not, if◌then◌else◌}
use Rattle.std.proofs.lemmas.Option.{slice_get-get_or}
use Rattle.std.proofs.lemmas.List.{length-map}
use Rattle.std.proofs.lemmas.Bool.{cases_lt}
use Rattle.gomp_types.specs.declared.call.Call.{Call}
use Rattle.gomp_types.specs.declared.call.Call.TheVariants.{LoopStart}
use Rattle.gomp_types.specs.declared.call.Step.{Step}
use Rattle.gomp_events.specs.declared.event.Event.{Event}
use Rattle.gomp_types.specs.declared.reply.Reply.{Reply}
use Rattle.gomp_types.specs.declared.reply.Reply.TheVariants.{Refused}
use Rattle.gomp_ompt.specs.declared.record.Record.{Record}
use Rattle.gomp_ompt.specs.Table.{records_of, is_silent}
use Rattle.gomp_model.specs.Past.{Terms, Waits, no_waits}
use Rattle.gomp_types.specs.Resumes.{call_meant, is_resume}
use Rattle.gomp_model.specs.Team.{Record as Run, record_after, past_of, MayAnswer, Caused}
use Rattle.gomp_icv.specs.Variables.{Variables}
use Rattle.gomp_core.specs.Stands.{TeamView, Stands, past, terms_of, members_of, open_call_of, standard_terms}
use Rattle.gomp_core.specs.Resolved.{resolved_call, resolved_step, resolved_steps, record_of}
use Rattle.gomp_core.proofs.Lists.{resolved_grows, terms_are}
use Rattle.gomp_core.proofs.Refused.{bad_member}
use Rattle.gomp_service.specs.Statuses.{lacks, status_of}
use Rattle.gomp_core.proofs.Admitted.{same_members}
use Rattle.gomp_trace.specs.declared.event.TraceEvent.{TraceEvent}
use Rattle.gomp_trace.specs.Runs.{Traced, step_records, with_records, traced_run, closed, StepMade, HasMade, Ran}

-- The call that a step makes or repeats

pub open_call_is : {S : Type 0} (stands : S → List Event → Type 0) (members : S → ℕ) (team : TeamView S) (before : Run) (m : ℕ) → Stands stands members team before → m < members_of team →
    open_call_of team m ≡ ((past team before).waits m).open_call
open_call_is stands members team before m st below =
    let at = slice_get-get_or team.waits m no_waits below in
    rw at (ap (λ (w : Waits). w.open_call) (sym (st.wait m _ at)))

-- a schedule that counts changes no record
same_resolved : (icv : Variables) (call : Call) (waiting : Option Call) (first : Bool) (reply : Reply) → records_of (call_meant (resolved_call icv call) waiting) first reply ≡ records_of (call_meant call waiting) first reply
same_resolved icv (LoopStart loop) waiting first reply = refl
same_resolved icv _ waiting first reply = refl

resume_resolved : (icv : Variables) (call : Call) → is_resume (resolved_call icv call) ≡ is_resume call
resume_resolved icv (LoopStart loop) = refl
resume_resolved icv _ = refl

-- a step of no member of the team is refused
refused_past : {S : Type 0} (team : TeamView S) (before : Run) (step : Step) (reply : Reply) → MayAnswer (past team before) step reply → members_of team ≤ step.member → is_silent reply ≡ true
refused_past team before step (Refused refusal) may outside = refl
refused_past team before step _ may outside =
    absurd (let none = may.0 in let bad = bad_member (past_of (terms_of team) before) step (rw (same_members (terms_of team) before) outside) in cc)

silent_records : (call : Call) (first : Bool) (reply : Reply) → is_silent reply ≡ true → records_of call first reply ≡ []
silent_records call first reply silent = rw silent refl

-- the records that are taken are those of the step
pub records_are : {S : Type 0} (stands : S → List Event → Type 0) (members : S → ℕ) (icv : Variables) (team : TeamView S) (before : Run) (step : Step) (reply : Reply) →
    Stands stands members team before → MayAnswer (past team before) (resolved_step icv step) reply →
    records_of (call_meant step.call (open_call_of team step.member)) (not (is_resume step.call)) reply ≡ step_records (past team before) (resolved_step icv step) reply
records_are stands members icv team before step reply st may =
    let waiting = ((past team before).waits step.member).open_call in
    elim (cases_lt step.member (members_of team)) [
      | inl below ↦
          ap (λ (w : Option Call). records_of (call_meant step.call w) (not (is_resume step.call)) reply) (open_call_is stands members team before step.member st below)
          ∙ sym (same_resolved icv step.call waiting (not (is_resume step.call)) reply)
          ∙ ap (λ (again : Bool). records_of (call_meant (resolved_call icv step.call) waiting) (not again) reply) (sym (resume_resolved icv step.call))
      | inr outside ↦
          let silent = refused_past team before (resolved_step icv step) reply may outside in
          silent_records (call_meant step.call (open_call_of team step.member)) (not (is_resume step.call)) reply silent
          ∙ sym (silent_records (call_meant (resolved_call icv step.call) waiting) (not (is_resume (resolved_call icv step.call))) reply silent)
    ]

-- and only a member of the team has some
pub records_below : {S : Type 0} (icv : Variables) (team : TeamView S) (before : Run) (step : Step) (call : Call) (first : Bool) (reply : Reply) →
    MayAnswer (past team before) (resolved_step icv step) reply → 0 < length (records_of call first reply) → step.member < members_of team
records_below icv team before step call first reply may some =
    elim (cases_lt step.member (members_of team)) [
      | inl below ↦ below
      | inr outside ↦ absurd (let none = ap (λ (events : List Record). length events) (silent_records call first reply (refused_past team before (resolved_step icv step) reply may outside)) in omega arith)
    ]

-- The status, and the number of steps

either_first : (a b : Bool) (n : ℕ) → (if a then 3 else (if b then 3 else n)) ≡ (if b then 3 else (if a then 3 else n))
either_first true true n = refl
either_first true false n = refl
either_first false true n = refl
either_first false false n = refl

pub status_more : (replies : List Reply) (reply : Reply) → status_of (replies ++ reply ∷ []) ≡ (if lacks reply then 3 else status_of replies)
status_more [] reply = refl
status_more (first ∷ replies) reply = rw (status_more replies reply) (either_first (lacks first) (lacks reply) (status_of replies))

run_length : (steps : List Step) (replies : List Reply) (before : Run) → length replies ≡ length steps → length (record_after steps replies before) ≡ length steps + length before
run_length [] [] before each = omega arith
run_length [] (reply ∷ replies) before each = absurd (omega arith)
run_length (step ∷ steps) [] before each = absurd (omega arith)
run_length (step ∷ steps) (reply ∷ replies) before each =
    let later = run_length steps replies ((step, reply) ∷ before) (omega arith) in omega arith

steps_counted : (icv : Variables) (steps : List Step) (replies : List Reply) → length replies ≡ length steps → length (record_of icv steps replies) ≡ length steps
steps_counted icv steps replies each =
    let same = length-map steps (resolved_step icv) in
    let counted = run_length (resolved_steps icv steps) replies [] (omega arith) in
    omega arith

-- One more step

pub has_made_more : {S : Type 0} (stands : S → List Event → Type 0) (members : S → ℕ) (icv : Variables) (count : ℕ) (steps : List Step) (team team_after : TeamView S) (traced traced_after : Traced) (code code_after time : ℕ) (step : Step) →
    HasMade stands members icv count steps team traced code → time ≡ length steps + 1 → StepMade (record { stands = stands; members = members; time = time; step = step }) (record { team = team; traced = traced; code = code }) (record { team = team_after; traced = traced_after; code = code_after }) →
    HasMade stands members icv count (steps ++ step ∷ []) team_after traced_after code_after
has_made_more stands members icv count steps team team_after traced traced_after code code_after time step made now one =
    let reply = one.reply in
    let makes = one.makes in
    let run = record_of icv steps made.replies in
    let grows = resolved_grows icv steps made.replies step reply made.each in
    let terms = terms_are team count icv made.size_is made.icv_is made.limits_are in
    let at : time ≡ length run + 1 = now ∙ ap (λ (n : ℕ). n + 1) (sym (steps_counted icv steps made.replies made.each)) in
    let stood = subst (λ (v : Variables). Stands stands members team_after ((resolved_step v step, reply) ∷ run)) made.icv_is (makes.stands_for run made.team_stands) in
    let took : traced_after ≡ traced_run (standard_terms count icv) ((resolved_step icv step, reply) ∷ run) =
    makes.takes run made.team_stands
    ∙ ap (λ (t : Terms). with_records time step.member (step_records (past_of t run) (resolved_step team.icv step) reply) traced) terms
    ∙ ap (λ (v : Variables). with_records time step.member (step_records (past_of (standard_terms count icv) run) (resolved_step v step) reply) traced) made.icv_is
    ∙ ap (λ (n : ℕ). with_records n step.member (step_records (past_of (standard_terms count icv) run) (resolved_step icv step) reply) traced) at
    ∙ ap (λ (t : Traced). with_records (length run + 1) step.member (step_records (past_of (standard_terms count icv) run) (resolved_step icv step) reply) t) made.traced_is in
    record {
      replies = made.replies ++ reply ∷ [];
      each = let each = made.each in simp length-append (omega arith);
      size_is = makes.keeps.members ∙ made.size_is;
      icv_is = makes.keeps.icv ∙ made.icv_is;
      limits_are = makes.keeps.limits ∙ made.limits_are;
      team_stands = subst (λ (r : Run). Stands stands members team_after r) (sym grows) stood;
      traced_is = took ∙ ap (λ (r : Run). traced_run (standard_terms count icv) r) (sym grows);
      lanes_are = makes.lanes ∙ made.lanes_are;
      code_is = one.code_is ∙ ap (λ (n : ℕ). if lacks reply then 3 else n) made.code_is ∙ sym (status_more made.replies reply);
    }

-- and the end

pub has_run : {S : Type 0} (stands : S → List Event → Type 0) (members : S → ℕ) (icv : Variables) (count : ℕ) (steps : List Step) (team : TeamView S) (traced : Traced) (code time : ℕ) (events : List TraceEvent) →
    HasMade stands members icv count steps team traced code → time ≡ length steps → events ≡ closed time traced → Ran icv count steps events code
has_run stands members icv count steps team traced code time events made now are =
    let run = record_of icv steps made.replies in
    let terms = terms_are team count icv made.size_is made.icv_is made.limits_are in
    let at : time ≡ length run = now ∙ sym (steps_counted icv steps made.replies made.each) in
    record {
      replies = made.replies;
      each = made.each;
      caused = subst (λ (t : Terms). Caused t run) terms made.team_stands.caused;
      events_are = are ∙ ap (λ (t : Traced). closed time t) made.traced_is ∙ ap (λ (n : ℕ). closed n (traced_run (standard_terms count icv) run)) at;
      code_is = made.code_is;
    }
