-- What a run gives: the events of its records, of each member on its lane. (own)
use Rattle.std.specs.Prelude.{ℕ, zero, suc, ◌≡◌, ◌+◌, not, Bool, true, false, if◌then◌else◌, List, [], ◌∷◌, ◌++◌, length, replicate, slice_index_or, slice_set}
use Rattle.std.specs.List.{list_all}
use Rattle.gomp_types.specs.declared.call.Step.{Step}
use Rattle.gomp_types.specs.declared.reply.Reply.{Reply}
use Rattle.gomp_events.specs.declared.event.Event.{Event}
use Rattle.gomp_types.specs.Limits.{standard}
use Rattle.gomp_ompt.specs.declared.record.Record.{Record}
use Rattle.gomp_ompt.specs.declared.record.Point.TheVariants.{ParallelBegin, ParallelEnd, ImplicitTask}
use Rattle.gomp_ompt.specs.Records.{begin_record, single_record}
use Rattle.gomp_ompt.specs.Table.{records_of}
use Rattle.gomp_model.specs.Past.{Terms, Past}
use Rattle.gomp_types.specs.Resumes.{call_meant, is_resume}
use Rattle.gomp_model.specs.Team.{Record as Run, past_of, Caused}
use Rattle.gomp_icv.specs.Variables.{Variables}
use Rattle.gomp_core.specs.Stands.{TeamView, Stands, Keeps, past, members_of, standard_terms}
use Rattle.gomp_core.specs.Resolved.{resolved_step, record_of}
use Rattle.gomp_service.specs.Statuses.{lacks, status_of}
use Rattle.gomp_trace.specs.declared.event.TraceEvent.{TraceEvent}
use Rattle.gomp_trace.specs.Lanes.{lane_records, lane_after, all_ended, at_time, all_at}

-- what has begun and not ended on each lane, and the events so far
pub record Traced : Type 0 where
  pub lanes : List (List Record)
  pub events : List TraceEvent

-- whether nothing goes on
abbrev pub is_idle : List Record → Bool
is_idle [] = true
is_idle (event ∷ events) = false

-- the end of the region, once nothing goes on on any lane: all members have passed its end
abbrev pub join_events : ℕ → List (List Record) → List TraceEvent
join_events time lanes = if list_all is_idle lanes then at_time time 0 (single_record ParallelEnd (length lanes) 0) ∷ [] else []

-- a lane of the team after a record, with these lanes
abbrev pub with_lanes : ℕ → ℕ → Record → List Record → List (List Record) → List TraceEvent → Traced
with_lanes time member event begun lanes events =
    record { lanes = lanes; events = events ++ all_at time member (lane_records event begun) ++ join_events time lanes }

-- what is traced with one more record of a member
abbrev pub with_record : ℕ → ℕ → Record → Traced → Traced
with_record time member event traced =
    with_lanes time member event (slice_index_or traced.lanes member []) (slice_set traced.lanes member (lane_after event (slice_index_or traced.lanes member []))) traced.events

-- with the records of a step, in their order
abbrev pub with_records : ℕ → ℕ → List Record → Traced → Traced
with_records time member [] traced = traced
with_records time member (event ∷ events) traced = with_records time member events (with_record time member event traced)

-- before the first step: the region has begun, and the implicit tasks of the first so many members
abbrev pub begun : ℕ → ℕ → Traced
begun members zero = record { lanes = replicate members []; events = at_time 0 0 (single_record ParallelBegin members 0) ∷ [] }
begun members (suc m) = with_record 0 m (begin_record ImplicitTask m members) (begun members m)

-- the records of a step and its reply: of the call that it makes, or repeats if it is a resume
abbrev pub step_records : Past → Step → Reply → List Record
step_records p step reply = records_of (call_meant step.call (p.waits step.member).open_call) (not (is_resume step.call)) reply

-- what a run has traced; the time of a step is its number, from 1
abbrev pub traced_run : Terms → Run → Traced
traced_run terms [] = begun terms.members terms.members
traced_run terms (pair ∷ earlier) = with_records (length earlier + 1) pair.0.member (step_records (past_of terms earlier) pair.0 pair.1) (traced_run terms earlier)

-- the ends of what goes on on these lanes, from this member on
abbrev pub lane_ends : ℕ → ℕ → List (List Record) → List TraceEvent
lane_ends time member [] = []
lane_ends time member (begun ∷ lanes) = all_at time member (all_ended begun) ++ lane_ends time (member + 1) lanes

-- the events of a trace: what goes on behind the last step ends at its time
abbrev pub closed : ℕ → Traced → List TraceEvent
closed time traced = traced.events ++ lane_ends time 0 traced.lanes

abbrev pub trace_events : Terms → Run → List TraceEvent
trace_events terms run = closed (length run) (traced_run terms run)

-- the events and the status of a new team of this size, by these control variables, that makes these steps: each reply has its cause
pub record Ran (icv : Variables) (count : ℕ) (steps : List Step) (events : List TraceEvent) (code : ℕ) : Type 0 where
  pub replies : List Reply
  pub each : length replies ≡ length steps
  pub caused : Caused (standard_terms count icv) (record_of icv steps replies)
  pub events_are : events ≡ trace_events (standard_terms count icv) (record_of icv steps replies)
  pub code_is : code ≡ status_of replies

-- a team and what it has traced after a step of this number: the step is made, and the records of its reply are taken
pub record MakesStep {S : Type 0} (stands : S → List Event → Type 0) (members : S → ℕ) (time : ℕ) (step : Step) (team : TeamView S) (traced : Traced) (reply : Reply) (team_after : TeamView S) (traced_after : Traced) : Type 0 where
  pub keeps : Keeps team team_after step.call reply
  pub lanes : length traced_after.lanes ≡ length traced.lanes
  pub stands_for : (before : Run) → Stands stands members team before → Stands stands members team_after ((resolved_step team.icv step, reply) ∷ before)
  pub takes : (before : Run) → Stands stands members team before → traced_after ≡ with_records time step.member (step_records (past team before) (resolved_step team.icv step) reply) traced

-- a step of a team, and its number
pub record StepAsked (S : Type 0) : Type 1 where
  pub stands : S → List Event → Type 0
  pub members : S → ℕ
  pub time : ℕ
  pub step : Step

-- a team, what is traced of it, and the status up to here
pub record Tracked (S : Type 0) : Type 0 where
  pub team : TeamView S
  pub traced : Traced
  pub code : ℕ

-- this team, this trace and this status
abbrev pub tracked : {S : Type 0} → TeamView S → Traced → ℕ → Tracked S
tracked team traced code = record { team = team; traced = traced; code = code }

-- the same with some reply, by which the exit status goes on
pub record StepMade {S : Type 0} (asked : StepAsked S) (before after : Tracked S) : Type 0 where
  pub reply : Reply
  pub makes : MakesStep asked.stands asked.members asked.time asked.step before.team before.traced reply after.team after.traced
  pub code_is : after.code ≡ (if lacks reply then 3 else before.code)

-- a team of this size, by these control variables, has made these steps, and this is traced of them
pub record HasMade {S : Type 0} (stands : S → List Event → Type 0) (members : S → ℕ) (icv : Variables) (count : ℕ) (steps : List Step) (team : TeamView S) (traced : Traced) (code : ℕ) : Type 0 where
  pub replies : List Reply
  pub each : length replies ≡ length steps
  pub size_is : members_of team ≡ count
  pub icv_is : team.icv ≡ icv
  pub limits_are : team.board.limits ≡ standard
  pub team_stands : Stands stands members team (record_of icv steps replies)
  pub traced_is : traced ≡ traced_run (standard_terms count icv) (record_of icv steps replies)
  pub lanes_are : length traced.lanes ≡ count
  pub code_is : code ≡ status_of replies
