-- What the contracts of a trace promise, of every text, run and member: a lemma for each line of their definitions, so that none says less unnoticed.
use Rattle.std.proofs.Common.{◌≡◌, ◌≢◌, ◌<◌, ◌≤◌, ◌+◌, ◌++◌, ◌∷◌, ℕ, suc, Bool, true, false, List, [], length, Option, Some, Result, Ok, Err, refl, ap, subst, ◌∙◌, get_or-set_other, get_or-set_same, arith}
use Rattle.std.specs.Prelude.{replicate, slice_index_or, string_bytes, take}
use Rattle.std.specs.List.{list_all}
use Rattle.gomp_types.specs.declared.call.Call.{Call}
use Rattle.gomp_types.specs.declared.call.Call.TheVariants.{Resume, TaskCreate, Taskwait}
use Rattle.gomp_types.specs.declared.call.Step.{Step}
use Rattle.gomp_types.specs.declared.refusal.Refusal.TheVariants.{BadTeam}
use Rattle.gomp_types.specs.declared.reply.Reply.{Reply}
use Rattle.gomp_types.specs.declared.depend.Dep.{Dep}
use Rattle.gomp_types.specs.declared.task.TaskDesc.{TaskDesc}
use Rattle.gomp_ompt.specs.declared.record.Point.TheVariants.{ParallelBegin, ParallelEnd, ImplicitTask}
use Rattle.gomp_ompt.specs.declared.record.Record.{Record}
use Rattle.gomp_ompt.specs.Records.{begin_record, single_record}
use Rattle.gomp_ompt.specs.Table.{records_of}
use Rattle.gomp_model.specs.Past.{Terms, Past}
use Rattle.gomp_types.specs.Resumes.{is_resume}
use Rattle.gomp_model.specs.Team.{Record as Run, Caused, events, past_of}
use Rattle.gomp_icv.specs.Variables.{Variables}
use Rattle.gomp_core.specs.Stands.{standard_terms}
use Rattle.gomp_core.specs.Resolved.{record_of}
use Rattle.gomp_laws.specs.Headline.{Headline}
use Rattle.gomp_laws.proofs.Laws.{headline_holds}
use Rattle.gomp_script.specs.declared.parse.BadLine.{BadLine}
use Rattle.gomp_script.specs.Printing.{bad_line_text, refusal_line}
use Rattle.gomp_script.specs.StepText.{steps_of}
use Rattle.gomp_service.specs.Statuses.{is_size, status_of}
use Rattle.gomp_service.specs.Reading.{max_text}
use Rattle.gomp_service.specs.declared.answer.Answer.{Answer}
use Rattle.gomp_service.specs.declared.read.Ending.TheVariants.{Answered, NoMemory, InputFault, TooLong, OutputFault}
use Rattle.gomp_trace.specs.declared.event.TraceEvent.{TraceEvent}
use Rattle.gomp_types.specs.Copies.{CopyTakesMemory, HasNoItems}
use Rattle.gomp_trace.specs.Json.{trace_text}
use Rattle.gomp_trace.specs.Lanes.{all_at, all_ended, at_time, lane_after, lane_records}
use Rattle.gomp_trace.specs.Runs.{Ran, Traced, begun, closed, is_idle, join_events, lane_ends, step_records, trace_events, traced_run, with_record, with_records}
use Rattle.gomp_trace.specs.Serving.{IsTrace, IsTraced, TeamTrace, TraceOf, Traces}
use Rattle.gomp_types.proofs.ResumeReadings.{first_call_is_meant}

-- What is written

-- the text is read whole, and behind what was written before stands its trace and nothing else
pub trace_is_of_whole_text : (icv : Variables) (all held now : List ℕ) (code : ℕ) → Traces icv (Some all) (Some held) (Some now) (Answered code) →
    (output : List ℕ) × TraceOf icv (steps_of all) output code × (now ≡ held ++ output) × (length all ≤ max_text)
trace_is_of_whole_text icv all held now code written =
    let same : written.text ≡ all = written.whole.0 in
    (written.output, subst (λ (text : List ℕ). TraceOf icv (steps_of text) written.output code) same written.traced, written.written, subst (λ (text : List ℕ). length text ≤ max_text) same written.whole.1)

-- without memory, and if the input fails, nothing is written
pub no_trace_without_memory : (icv : Variables) (remaining before after : Option (List ℕ)) → Traces icv remaining before after NoMemory → after ≡ before
no_trace_without_memory icv remaining before after same = same

pub no_trace_of_input_fault : (icv : Variables) (remaining before after : Option (List ℕ)) → Traces icv remaining before after InputFault → after ≡ before
no_trace_of_input_fault icv remaining before after same = same

-- nor of a text that is too long, and only of such a text that is said
pub no_trace_of_long_text : (icv : Variables) (remaining before after : Option (List ℕ)) → Traces icv remaining before after TooLong → after ≡ before
no_trace_of_long_text icv remaining before after long = long.0

-- if the output failed what was written is a prefix of a trace of that very text, and leaves what was there
pub cut_trace_is_a_prefix : (icv : Variables) (input before after : List ℕ) → Traces icv (Some input) (Some before) (Some after) OutputFault →
    (output : List ℕ) × (code count : ℕ) × TraceOf icv (steps_of input) output code × (after ≡ before ++ take count output)
cut_trace_is_a_prefix icv input before after ends = (ends.output, ends.code, ends.written.0, subst (λ (text : List ℕ). TraceOf icv (steps_of text) ends.output ends.code) ends.whole.0 ends.traced, ends.written.1)

-- and the text was not too long
pub cut_trace_is_of_a_short_text : (icv : Variables) (input : List ℕ) (before after : Option (List ℕ)) → Traces icv (Some input) before after OutputFault → length input ≤ max_text
cut_trace_is_of_a_short_text icv input before after ends = let short = ends.whole.1 in let same = ap length ends.whole.0 in omega (arith, short, same)

pub short_text_is_not_too_long : (icv : Variables) (all : List ℕ) (before after : Option (List ℕ)) → Traces icv (Some all) before after TooLong → max_text < length all
short_text_is_not_too_long icv all before after long = long.1

-- Texts

-- a text with a bad line is answered by that line, with 1, and has no trace
pub bad_text_has_no_trace : (icv : Variables) (text output : List ℕ) (code : ℕ) (bad : BadLine) → steps_of text ≡ Err bad → TraceOf icv (steps_of text) output code → (output ≡ bad_line_text bad) × (code ≡ 1)
bad_text_has_no_trace icv text output code bad is traced = subst (λ (read : Result (ℕ × List Step) BadLine). TraceOf icv read output code) is traced

-- a team that may not be is refused, with 2
pub bad_team_has_no_trace : (icv : Variables) (count : ℕ) (steps : List Step) (output : List ℕ) (code : ℕ) → is_size count ≡ false → TraceOf icv (Ok (count, steps)) output code → (output ≡ refusal_line BadTeam) × (code ≡ 2)
bad_team_has_no_trace icv count steps output code unfit traced = subst (λ (fits : Bool). TeamTrace icv fits count steps output code) unfit traced

-- any other text has a trace
pub good_team_has_trace : (icv : Variables) (count : ℕ) (steps : List Step) (output : List ℕ) (code : ℕ) → is_size count ≡ true → TraceOf icv (Ok (count, steps)) output code → IsTrace icv count steps output code
good_team_has_trace icv count steps output code fit traced = subst (λ (fits : Bool). TeamTrace icv fits count steps output code) fit traced

pub answer_is_trace_of_text : (icv : Variables) (text : List ℕ) (answer : Answer) → IsTraced icv text answer → TraceOf icv (steps_of text) (string_bytes answer.text) answer.code
answer_is_trace_of_text icv text answer traced = traced

-- Runs

-- a trace shows the run of its steps: a reply to each that has its cause after those before it, their events and no others, and their status
pub trace_shows_a_run : (icv : Variables) (count : ℕ) (steps : List Step) (text : List ℕ) (code : ℕ) → IsTrace icv count steps text code →
    (replies : List Reply) × (length replies ≡ length steps) × Caused (standard_terms count icv) (record_of icv steps replies) × (text ≡ trace_text count (trace_events (standard_terms count icv) (record_of icv steps replies))) × (code ≡ status_of replies)
trace_shows_a_run icv count steps text code trace =
    let ran = trace.ran in
    (ran.replies, ran.each, ran.caused, trace.text_is ∙ ap (λ (shown : List TraceEvent). trace_text count shown) ran.events_are, ran.code_is)

-- so the headline holds of the run that a trace shows
pub headline_of_a_trace : (icv : Variables) (count : ℕ) (steps : List Step) (text : List ℕ) (code : ℕ) → IsTrace icv count steps text code →
    (replies : List Reply) × (text ≡ trace_text count (trace_events (standard_terms count icv) (record_of icv steps replies))) × Headline count (events (standard_terms count icv) (record_of icv steps replies))
headline_of_a_trace icv count steps text code trace =
    let shown = trace_shows_a_run icv count steps text code trace in
    (shown.0, shown.3, headline_holds (standard_terms count icv) (record_of icv steps shown.0) shown.2)

-- one reply of a run that lacks memory is told by its status
pub ran_status_is_of_replies : (icv : Variables) (count : ℕ) (steps : List Step) (shown : List TraceEvent) (code : ℕ) (ran : Ran icv count steps shown code) → code ≡ status_of ran.replies
ran_status_is_of_replies icv count steps shown code ran = ran.code_is

-- The events of a run

-- before the first step the region has begun, on the lane of member 0, and nothing goes on
pub region_begins_first : (members : ℕ) → begun members 0 ≡ record { lanes = replicate members []; events = at_time 0 0 (single_record ParallelBegin members 0) ∷ [] }
region_begins_first members = refl

-- and each member has begun its implicit task, on its lane
pub members_begin_next : (members m : ℕ) → begun members (suc m) ≡ with_record 0 m (begin_record ImplicitTask m members) (begun members m)
members_begin_next members m = refl

pub run_begins_with_all_members : (terms : Terms) → traced_run terms [] ≡ begun terms.members terms.members
run_begins_with_all_members terms = refl

-- a step is shown at its number, from 1, on the lane of its member, with the records of its call and its reply
pub step_is_shown_at_its_number : (terms : Terms) (step : Step) (reply : Reply) (earlier : Run) → traced_run terms ((step, reply) ∷ earlier) ≡ with_records (length earlier + 1) step.member (step_records (past_of terms earlier) step reply) (traced_run terms earlier)
step_is_shown_at_its_number terms step reply earlier = refl

-- the records of a call that is made are those of a first time, and of a resume those of the call that waits
pub step_shows_its_call : (p : Past) (m : ℕ) (call : Call) (reply : Reply) → is_resume call ≡ false → step_records p (record { member = m; call = call }) reply ≡ records_of call true reply
step_shows_its_call p m call reply first = rw (first, first_call_is_meant call (p.waits m).open_call first) refl

pub resume_shows_waiting_call : (p : Past) (m : ℕ) (call : Call) (reply : Reply) → (p.waits m).open_call ≡ Some call → step_records p (record { member = m; call = Resume }) reply ≡ records_of call false reply
resume_shows_waiting_call p m call reply waits = rw waits refl

-- each record is taken in its turn, and none is left out
pub no_records_change_nothing : (time member : ℕ) (traced : Traced) → with_records time member [] traced ≡ traced
no_records_change_nothing time member traced = refl

pub records_are_taken_in_turn : (time member : ℕ) (event : Record) (more : List Record) (traced : Traced) → with_records time member (event ∷ more) traced ≡ with_records time member more (with_record time member event traced)
records_are_taken_in_turn time member event more traced = refl

-- a record changes the lane of its member
pub record_changes_its_lane : (time member : ℕ) (event : Record) (traced : Traced) → member < length traced.lanes → slice_index_or (with_record time member event traced).lanes member [] ≡ lane_after event (slice_index_or traced.lanes member [])
record_changes_its_lane time member event traced below = get_or-set_same traced.lanes member (lane_after event (slice_index_or traced.lanes member [])) [] below

-- and no other
pub record_leaves_other_lanes : (time member other : ℕ) (event : Record) (traced : Traced) → other ≢ member → slice_index_or (with_record time member event traced).lanes other [] ≡ slice_index_or traced.lanes other []
record_leaves_other_lanes time member other event traced differ = get_or-set_other traced.lanes member other (lane_after event (slice_index_or traced.lanes member [])) [] differ

-- behind the events before stand what is written of the record on its lane, and the region's end once all lanes are idle
pub record_is_written_behind : (time member : ℕ) (event : Record) (traced : Traced) →
    (with_record time member event traced).events ≡ traced.events ++ all_at time member (lane_records event (slice_index_or traced.lanes member [])) ++ join_events time (with_record time member event traced).lanes
record_is_written_behind time member event traced = refl

pub region_ends_once_idle : (time : ℕ) (lanes : List (List Record)) → list_all is_idle lanes ≡ true → join_events time lanes ≡ at_time time 0 (single_record ParallelEnd (length lanes) 0) ∷ []
region_ends_once_idle time lanes idle = rw idle refl

pub region_goes_on_with_lane : (time : ℕ) (lanes : List (List Record)) → list_all is_idle lanes ≡ false → join_events time lanes ≡ []
region_goes_on_with_lane time lanes busy = rw busy refl

-- a lane is idle on which nothing has begun that has not ended
pub empty_lane_is_idle : is_idle [] ≡ true
empty_lane_is_idle = refl

pub begun_lane_is_not_idle : (event : Record) (more : List Record) → is_idle (event ∷ more) ≡ false
begun_lane_is_not_idle event more = refl

-- what goes on behind the last step ends at its number, on its own lane
pub run_ends_at_its_length : (terms : Terms) (run : Run) → trace_events terms run ≡ (traced_run terms run).events ++ lane_ends (length run) 0 (traced_run terms run).lanes
run_ends_at_its_length terms run = refl

pub closed_lanes_end_in_turn : (time member : ℕ) (goes_on : List Record) (lanes : List (List Record)) → lane_ends time member (goes_on ∷ lanes) ≡ all_at time member (all_ended goes_on) ++ lane_ends time (member + 1) lanes
closed_lanes_end_in_turn time member goes_on lanes = refl

-- nothing that was written is taken back at the end
pub closing_keeps_events : (time : ℕ) (traced : Traced) → closed time traced ≡ traced.events ++ lane_ends time 0 traced.lanes
closing_keeps_events time traced = refl

-- Copies of calls

-- a call that names no items is copied without memory
pub plain_copy_takes_no_memory : (call : Call) → HasNoItems call → CopyTakesMemory call → ⊥
plain_copy_takes_no_memory (TaskCreate desc) plain takes = plain
plain_copy_takes_no_memory (Taskwait deps) plain takes = plain
plain_copy_takes_no_memory _ plain takes = takes

-- and so are a task and a taskwait without items
pub task_copy_without_items_takes_none : (desc : TaskDesc) → desc.deps ≡ [] → CopyTakesMemory (TaskCreate desc) → ⊥
task_copy_without_items_takes_none desc none takes = takes none

pub taskwait_copy_without_items_takes_none : (deps : List Dep) → deps ≡ [] → CopyTakesMemory (Taskwait deps) → ⊥
taskwait_copy_without_items_takes_none deps none takes = takes none
