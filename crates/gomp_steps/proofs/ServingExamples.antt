-- How a text of steps is served: for each line of a definition an end that it alone refuses.
use Rattle.std.proofs.Common.{◌≡◌, ℕ, true, false, List, [], ◌∷◌, Option, Some, length, ap, subst, arith}
use Rattle.std.specs.Prelude.{Err, flat_map, take, ◌++◌}
use Rattle.std.specs.Io.KnownBytes.{Appends}
use Rattle.gomp_types.specs.declared.call.Step.{Step}
use Rattle.gomp_types.specs.declared.reply.Reply.{Reply}
use Rattle.gomp_types.specs.declared.refusal.Refusal.TheVariants.{BadTeam}
use Rattle.gomp_model.specs.Team.{record_after, Caused}
use Rattle.gomp_icv.specs.Variables.{Variables}
use Rattle.gomp_core.specs.Stands.{standard_terms}
use Rattle.gomp_core.specs.Resolved.{resolved_steps}
use Rattle.gomp_script.specs.declared.parse.BadLine.{BadLine}
use Rattle.gomp_script.specs.declared.parse.Why.TheVariants.{BadNumber}
use Rattle.gomp_script.specs.Printing.{reply_line, bad_line_text, refusal_line}
use Rattle.gomp_script.specs.StepText.{steps_of}
use Rattle.gomp_service.specs.Statuses.{status_of}
use Rattle.gomp_service.specs.Reading.{Whole, max_text, IsLonger}
use Rattle.gomp_service.specs.declared.read.Ending.TheVariants as ending
use Rattle.gomp_steps.specs.Output.{Runs, AnswerTo}
use Rattle.gomp_steps.specs.Serving.{Serves}

-- three bytes
abbrev three : List ℕ
three = 35 ∷ 97 ∷ 10 ∷ []

-- What is written

-- the replies of a team that may be are one for each step, each with its cause, and are printed in their order
pub replied_has : (icv : Variables) (count : ℕ) (steps : List Step) (text : List ℕ) (code : ℕ) → Runs icv true count steps text code →
    (replies : List Reply) × (length replies ≡ length steps) × Caused (standard_terms count icv) (record_after (resolved_steps icv steps) replies [])
    × (text ≡ flat_map reply_line replies) × (code ≡ status_of replies)
replied_has icv count steps text code runs = (runs.replies, runs.each, runs.caused, runs.text_is, runs.code_is)

-- of another team its refusal is written
pub refused_has : (icv : Variables) (steps : List Step) (text : List ℕ) (code : ℕ) → Runs icv false 65 steps text code → (text ≡ refusal_line BadTeam) × (code ≡ 2)
refused_has icv steps text code runs = runs

-- and of a bad line its number, and what is wrong
pub bad_line_has : (icv : Variables) (text : List ℕ) (code : ℕ) → AnswerTo icv (Err (record { line = 3; why = BadNumber })) text code →
    (text ≡ bad_line_text (record { line = 3; why = BadNumber })) × (code ≡ 1)
bad_line_has icv text code answer = answer

-- How it ends

-- what an answer that was written has
pub written_has : (icv : Variables) (remaining before after : Option (List ℕ)) (code : ℕ) → Serves icv remaining before after (ending.Answered code) →
    (text : List ℕ) × (output : List ℕ) × Whole max_text remaining text × AnswerTo icv (steps_of text) output code × Appends before after output
written_has icv remaining before after code served = (served.text, served.output, served.whole, served.answer, served.written)

-- for want of memory nothing is written
pub memory_writes_nothing : (icv : Variables) (remaining : Option (List ℕ)) → Serves icv remaining (Some []) (Some three) ending.NoMemory → ⊥
memory_writes_nothing icv remaining same = absurd (cc)

-- nor if a read failed
pub fault_writes_nothing : (icv : Variables) (remaining : Option (List ℕ)) → Serves icv remaining (Some []) (Some three) ending.InputFault → ⊥
fault_writes_nothing icv remaining same = absurd (cc)

-- nor if the text is too long
pub too_long_writes_nothing : (icv : Variables) (remaining : Option (List ℕ)) → Serves icv remaining (Some []) (Some three) ending.TooLong → ⊥
too_long_writes_nothing icv remaining ends = absurd (let same = ends.0 in cc)

-- a short text is not too long
pub short_is_not_too_long : (icv : Variables) → Serves icv (Some three) (Some []) (Some []) ending.TooLong → ⊥
short_is_not_too_long icv ends = absurd (let longer = ends.1 in omega arith)

-- and if one is, the output cannot have failed
pub long_is_not_written : (icv : Variables) (long : List ℕ) → length long ≡ 16777217 → Serves icv (Some long) (Some []) (Some three) ending.OutputFault → ⊥
long_is_not_written icv long size ends = absurd (let short = ends.whole.1 in let all = ends.whole.0 in let same = ap length all in omega (arith, short, same, size))

-- what is written then is a prefix of an answer to that text, and leaves what was there
pub cut_answer_is_a_prefix : (icv : Variables) (input : List ℕ) (after : List ℕ) → Serves icv (Some input) (Some []) (Some after) ending.OutputFault →
    (output : List ℕ) × (code count : ℕ) × AnswerTo icv (steps_of input) output code × (after ≡ take count output)
cut_answer_is_a_prefix icv input after ends = (ends.output, ends.code, ends.written.0, subst (λ (text : List ℕ). AnswerTo icv (steps_of text) ends.output ends.code) ends.whole.0 ends.answer, ends.written.1)

pub cut_answer_keeps_the_rest : (icv : Variables) (input before after : List ℕ) → Serves icv (Some input) (Some before) (Some after) ending.OutputFault → (more : List ℕ) × (after ≡ before ++ more)
cut_answer_keeps_the_rest icv input before after ends = (take ends.written.0 ends.output, ends.written.1)

-- Ends, of any input and output

pub no_answer_without_memory : (icv : Variables) (remaining before after : Option (List ℕ)) → Serves icv remaining before after ending.NoMemory → after ≡ before
no_answer_without_memory icv remaining before after same = same

pub no_answer_to_a_failed_input : (icv : Variables) (remaining before after : Option (List ℕ)) → Serves icv remaining before after ending.InputFault → after ≡ before
no_answer_to_a_failed_input icv remaining before after same = same

pub no_answer_to_a_longer_text : (icv : Variables) (remaining before after : Option (List ℕ)) → Serves icv remaining before after ending.TooLong → (after ≡ before) × IsLonger max_text remaining
no_answer_to_a_longer_text icv remaining before after ends = ends

-- an answer that is cut is that to the whole text
pub cut_answer_is_of_that_text : (icv : Variables) (input before after : List ℕ) → Serves icv (Some input) (Some before) (Some after) ending.OutputFault →
    (output : List ℕ) × (code count : ℕ) × AnswerTo icv (steps_of input) output code × (after ≡ before ++ take count output)
cut_answer_is_of_that_text icv input before after ends =
    (ends.output, ends.code, ends.written.0, subst (λ (text : List ℕ). AnswerTo icv (steps_of text) ends.output ends.code) ends.whole.0 ends.answer, ends.written.1)

-- a bad line is answered by its text, whichever it is
pub bad_line_is_answered_by_its_text : (icv : Variables) (bad : BadLine) (text : List ℕ) (code : ℕ) → AnswerTo icv (Err bad) text code → (text ≡ bad_line_text bad) × (code ≡ 1)
bad_line_is_answered_by_its_text icv bad text code answer = answer

-- and each size that no team has by one refusal
pub no_other_team_is_answered : (icv : Variables) (count : ℕ) (steps : List Step) (text : List ℕ) (code : ℕ) → Runs icv false count steps text code → (text ≡ refusal_line BadTeam) × (code ≡ 2)
no_other_team_is_answered icv count steps text code runs = runs
