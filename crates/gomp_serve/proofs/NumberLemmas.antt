-- The number with which the program ends is 0, 1, 2 or 3.
use Rattle.std.proofs.Common.{◌≡◌, ◌≤◌, ℕ, Bool, true, false, List, [], ◌∷◌, Option, Some, None, ap, arith}
use Rattle.std.specs.Prelude.{Result, Ok, Err, if◌then◌else◌}
use Rattle.clap.specs.Words.{Kinds, Text}
use Rattle.clap.specs.declared.error.kind.ErrorKind.{ErrorKind}
use Rattle.gomp_types.specs.declared.call.Step.{Step}
use Rattle.gomp_types.specs.declared.refusal.Refusal.{Refusal}
use Rattle.gomp_types.specs.declared.reply.Reply.{Reply}
use Rattle.gomp_icv.specs.Variables.{Variables}
use Rattle.gomp_script.specs.declared.parse.BadLine.{BadLine}
use Rattle.gomp_script.specs.StepText.{steps_of}
use Rattle.gomp_command.specs.CommandLine.{Asked}
use Rattle.gomp_command.specs.Settings.{first_without, read_settings}
use Rattle.gomp_command.specs.declared.command.Service.{Service}
use Rattle.gomp_command.specs.declared.command.Service.TheVariants.{Steps, Live, Check, Trace, Run}
use Rattle.gomp_serve.specs.Ends.{Ends, EndsWithRead, IsFault, IsStatus, IsErrorReport, ServesBy}
use Rattle.gomp_check.proofs.CountLaws.{checked_number}
use Rattle.gomp_region.specs.ScriptText.{script_of}
use Rattle.gomp_run.proofs.RunNumbers.{run_number}
use Rattle.gomp_trace.specs.Serving.{TeamTrace, TraceOf}
use Rattle.gomp_service.specs.Statuses.{is_size, lacks, status_of}
use Rattle.gomp_steps.specs.Output.{AnswerTo, Runs}
use Rattle.gomp_service.specs.declared.notes.Notes.{Notes}
use Rattle.gomp_service.specs.declared.notes.Notes.TheVariants as notes
use Rattle.gomp_service.specs.declared.notes.Status.{Status}
use Rattle.gomp_service.specs.declared.read.Ending.{Ending}
use Rattle.gomp_service.specs.declared.read.Ending.TheVariants as ending

replies_number : (replies : List Reply) → status_of replies ≤ 3
replies_number [] = omega arith
replies_number (reply ∷ replies) = by_first (lacks reply) (replies_number replies)
  where
    by_first : (b : Bool) → status_of replies ≤ 3 → (if b then 3 else status_of replies) ≤ 3
    by_first true rest = omega arith
    by_first false rest = rest

runs_number : (icv : Variables) (fits : Bool) (count : ℕ) (steps : List Step) (text : List ℕ) (code : ℕ) → Runs icv fits count steps text code → code ≤ 3
runs_number icv true count steps text code runs = let is = runs.code_is in let small = replies_number runs.replies in omega (arith, is, small)
runs_number icv false count steps text code runs = let is = runs.1 in omega (arith, is)

answer_number : (icv : Variables) (read : Result (ℕ × List Step) BadLine) (text : List ℕ) (code : ℕ) → AnswerTo icv read text code → code ≤ 3
answer_number icv (Ok found) text code answer = runs_number icv (is_size found.0) found.0 found.1 text code answer
answer_number icv (Err bad) text code answer = let is = answer.1 in omega (arith, is)

team_trace_number : (icv : Variables) (fits : Bool) (count : ℕ) (steps : List Step) (text : List ℕ) (code : ℕ) → TeamTrace icv fits count steps text code → code ≤ 3
team_trace_number icv true count steps text code traced = let is = traced.ran.code_is in let small = replies_number traced.ran.replies in omega (arith, is, small)
team_trace_number icv false count steps text code traced = let is = traced.1 in omega (arith, is)

trace_number : (icv : Variables) (read : Result (ℕ × List Step) BadLine) (text : List ℕ) (code : ℕ) → TraceOf icv read text code → code ≤ 3
trace_number icv (Ok found) text code traced = team_trace_number icv (is_size found.0) found.0 found.1 text code traced
trace_number icv (Err bad) text code traced = let is = traced.1 in omega (arith, is)

served_number : (service : Service) (icv : Variables) (remaining before after : Option (List ℕ)) (code : ℕ) → ServesBy service icv remaining before after (ending.Answered code) → code ≤ 3
served_number Steps icv remaining before after code serves = answer_number icv (steps_of serves.text) serves.output code serves.answer
served_number Live icv remaining before after code serves = let none = serves.1 in omega (arith, none)
served_number Check icv remaining before after code serves = let small = checked_number serves.text in let is = serves.code_is in omega (arith, small, is)
served_number Trace icv remaining before after code serves = trace_number icv (steps_of serves.text) serves.output code serves.traced
served_number Run icv remaining before after code serves = run_number icv (script_of serves.text) serves.output code serves.answer

status_number : (service : Service) (icv : Variables) (how : Ending) (ignored : List Refusal) (remaining before after : Option (List ℕ)) (status : Status) → ServesBy service icv remaining before after how → IsStatus how ignored status → status.code ≤ 3
status_number service icv (ending.Answered code) [] remaining before after status serves is =
    let small = served_number service icv remaining before after code serves in
    let same : status.code ≡ code = ap (λ (s : Status). s.code) is in omega (arith, small, same)
status_number service icv (ending.Answered code) (word ∷ words) remaining before after status serves is =
    let small = served_number service icv remaining before after code serves in
    let same = is.0 in omega (arith, small, same)
status_number service icv ending.NoMemory ignored remaining before after status serves is = let same : status.code ≡ 3 = ap (λ (s : Status). s.code) is in omega (arith, same)
status_number service icv ending.InputFault ignored remaining before after status serves is = let same : status.code ≡ 1 = ap (λ (s : Status). s.code) is in omega (arith, same)
status_number service icv ending.TooLong ignored remaining before after status serves is = let same : status.code ≡ 1 = ap (λ (s : Status). s.code) is in omega (arith, same)
status_number service icv ending.OutputFault ignored remaining before after status serves is = let same : status.code ≡ 1 = ap (λ (s : Status). s.code) is in omega (arith, same)

fault_number : (word : Option Text) (notes : Notes) (code : ℕ) → IsFault word notes code → code ≤ 3
fault_number word notes.Nothing code is = absurd is
fault_number word notes.NoMemory code is = omega (arith, is)
fault_number word (notes.Command text) code is = let same = is.1 in omega (arith, same)
fault_number word (notes.Ignored words) code is = absurd is
fault_number word notes.InputFault code is = absurd is
fault_number word notes.OutputFault code is = absurd is

reported_number : (kind : ErrorKind) (before after : Option (List ℕ)) (notes : Notes) (code : ℕ) → IsErrorReport kind before after notes code → code ≤ 3
reported_number kind before after notes.Nothing code is = let same = is.1 in omega (arith, same)
reported_number kind before after notes.NoMemory code is = let same = is.0 in omega (arith, same)
reported_number kind before after (notes.Command text) code is = let same = is.2 in omega (arith, same)
reported_number kind before after (notes.Ignored words) code is = absurd is
reported_number kind before after notes.InputFault code is = absurd is
reported_number kind before after notes.OutputFault code is = let same = is.1 in omega (arith, same)

read_number : (asked : Asked) (read : Option (Variables × List Refusal)) (remaining before after : Option (List ℕ)) (status : Status) → EndsWithRead asked read remaining before after status → status.code ≤ 3
read_number asked None remaining before after status ends = fault_number (first_without asked.settings) status.notes status.code ends.0
read_number asked (Some read) remaining before after status ends = status_number asked.service read.0 ends.ending read.1 remaining before after status ends.serves ends.status_is

pub words_number : (faults : Kinds) (asked : Option Asked) (remaining before after : Option (List ℕ)) (status : Status) → Ends faults asked remaining before after status → status.code ≤ 3
words_number [] None remaining before after status ends = absurd ends
words_number [] (Some asked) remaining before after status ends = read_number asked (read_settings asked.settings) remaining before after status ends
words_number (fault ∷ others) asked remaining before after status ends = reported_number ends.kind before after status.notes status.code ends.reported
