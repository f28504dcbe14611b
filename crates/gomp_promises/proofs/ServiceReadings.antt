-- What a service promises of what it wrote, whether the bytes of its reader are known or not; and of which share a member may ask whether it was taken.
use Rattle.std.proofs.Common.{◌≡◌, ◌≤◌, ℕ, true, length, List, Option, Some}
use Rattle.std.specs.Prelude.{Vec}
use Rattle.std.specs.declared.alloc.Global.{Global}
use Rattle.std.specs.declared.string.String.{String}
use Rattle.std.specs.Io.KnownBytes.{Appends}
use Rattle.gomp_types.specs.declared.shape.Shape.{Shape}
use Rattle.gomp_events.specs.declared.event.Event.{Event}
use Rattle.gomp_types.specs.declared.refusal.Refusal.{Refusal}
use Rattle.gomp_types.specs.Shapes.{is_single}
use Rattle.gomp_events.specs.Events.{shape_at}
use Rattle.gomp_shares.specs.Calls.{IsSingleAt}
use Rattle.gomp_service.specs.Writing.{AppendsPrefix}
use Rattle.gomp_service.specs.Reading.{Whole, max_text}
use Rattle.gomp_steps.specs.Serving.{AnswerCut}
use Rattle.gomp_script.specs.StepText.{steps_of}
use Rattle.gomp_steps.specs.Output.{AnswerTo}
use Rattle.gomp_check.specs.Checked.{checked}
use Rattle.gomp_check.specs.Serving.{CheckWritten, CheckCut}
use Rattle.gomp_trace.specs.Serving.{TraceOf, TraceWritten, TraceCut}
use Rattle.gomp_live.specs.Talk.{Talked}
use Rattle.gomp_live.specs.Serving.{AnswersCut}
use Rattle.gomp_icv.specs.Variables.{Variables}
use Rattle.gomp_service.specs.declared.notes.Notes.TheVariants as notes
use Rattle.gomp_serve.specs.Ends.{IsShown}

-- what a text is, is written, or a prefix of it
pub check_is_written_of_any_reader : (remaining before after : Option (List ℕ)) (code : ℕ) (written : CheckWritten remaining before after code) → Appends before after (checked written.text).0
check_is_written_of_any_reader remaining before after code written = written.written

pub cut_check_is_a_prefix_of_any_reader : (remaining before after : Option (List ℕ)) (cut : CheckCut remaining before after) → AppendsPrefix before after (checked cut.text).0
cut_check_is_a_prefix_of_any_reader remaining before after cut = cut.written

-- the trace of a text is, or a prefix of it
pub trace_is_written_of_any_reader : (icv : Variables) (remaining before after : Option (List ℕ)) (code : ℕ) (written : TraceWritten icv remaining before after code) → Appends before after written.output
trace_is_written_of_any_reader icv remaining before after code written = written.written

pub cut_trace_is_a_prefix_of_any_reader : (icv : Variables) (remaining before after : Option (List ℕ)) (cut : TraceCut icv remaining before after) → AppendsPrefix before after cut.output
cut_trace_is_a_prefix_of_any_reader icv remaining before after cut = cut.written

-- of the replies to a text, and of a talk's, a prefix is if the output fails
pub cut_answer_is_a_prefix_of_any_reader : (icv : Variables) (remaining before after : Option (List ℕ)) (cut : AnswerCut icv remaining before after) → AppendsPrefix before after cut.output
cut_answer_is_a_prefix_of_any_reader icv remaining before after cut = cut.written

pub cut_talk_is_a_prefix_of_any_reader : (icv : Variables) (remaining before after : Option (List ℕ)) (cut : AnswersCut icv remaining before after) → AppendsPrefix before after cut.said
cut_talk_is_a_prefix_of_any_reader icv remaining before after cut = cut.written

-- the text is all that the reader had, if that is known, and no longer than the limit
pub text_of_any_reader_is_within_the_limit : (limit : ℕ) (remaining : Option (List ℕ)) (text : List ℕ) → Whole limit remaining text → length text ≤ limit
text_of_any_reader_is_within_the_limit limit remaining text whole = whole.1

pub checked_text_is_whole : (remaining before after : Option (List ℕ)) (code : ℕ) (written : CheckWritten remaining before after code) → Whole max_text remaining written.text
checked_text_is_whole remaining before after code written = written.whole

pub check_of_any_reader_has_its_code : (remaining before after : Option (List ℕ)) (code : ℕ) (written : CheckWritten remaining before after code) → code ≡ (checked written.text).1
check_of_any_reader_has_its_code remaining before after code written = written.code_is

pub cut_check_is_of_a_whole_text : (remaining before after : Option (List ℕ)) (cut : CheckCut remaining before after) → Whole max_text remaining cut.text
cut_check_is_of_a_whole_text remaining before after cut = cut.whole

-- and what is written whole, or cut, is the trace of it, or the replies to it
pub trace_of_any_reader_is_of_its_text : (icv : Variables) (remaining before after : Option (List ℕ)) (code : ℕ) (written : TraceWritten icv remaining before after code) → Whole max_text remaining written.text × TraceOf icv (steps_of written.text) written.output code
trace_of_any_reader_is_of_its_text icv remaining before after code written = (written.whole, written.traced)

pub cut_trace_of_any_reader_is_of_its_text : (icv : Variables) (remaining before after : Option (List ℕ)) (cut : TraceCut icv remaining before after) → Whole max_text remaining cut.text × TraceOf icv (steps_of cut.text) cut.output cut.code
cut_trace_of_any_reader_is_of_its_text icv remaining before after cut = (cut.whole, cut.traced)

pub cut_answer_of_any_reader_is_of_its_text : (icv : Variables) (remaining before after : Option (List ℕ)) (cut : AnswerCut icv remaining before after) → Whole max_text remaining cut.text × AnswerTo icv (steps_of cut.text) cut.output cut.code
cut_answer_of_any_reader_is_of_its_text icv remaining before after cut = (cut.whole, cut.answer)

pub cut_talk_of_any_reader_is_of_its_lines : (icv : Variables) (remaining before after : Option (List ℕ)) (cut : AnswersCut icv remaining before after) → Talked icv cut.lines cut.said cut.made
cut_talk_of_any_reader_is_of_its_lines icv remaining before after cut = cut.talked

-- of every single, with words for the others or without, a member may ask whether some member took it
pub any_single_may_be_asked_for : (share : ℕ) (h : List Event) → ((shape : Shape) → shape_at share h ≡ Some shape → is_single shape.kind ≡ true) → IsSingleAt share h
any_single_may_be_asked_for share h single = single

-- help and the version: the program ends well only if all bytes were written
pub shown_well_is_written_whole : (before after : Option (List ℕ)) (bytes : List ℕ) (code : ℕ) → IsShown before after bytes notes.Nothing code → Appends before after bytes
shown_well_is_written_whole before after bytes code shown = shown.1

pub shown_well_is_zero : (before after : Option (List ℕ)) (bytes : List ℕ) (code : ℕ) → IsShown before after bytes notes.Nothing code → code ≡ 0
shown_well_is_zero before after bytes code shown = shown.0

-- if the output fails, the first of them were
pub cut_help_is_a_prefix : (before after : Option (List ℕ)) (bytes : List ℕ) (code : ℕ) → IsShown before after bytes notes.OutputFault code → AppendsPrefix before after bytes
cut_help_is_a_prefix before after bytes code shown = shown.1

pub cut_help_is_one : (before after : Option (List ℕ)) (bytes : List ℕ) (code : ℕ) → IsShown before after bytes notes.OutputFault code → code ≡ 1
cut_help_is_one before after bytes code shown = shown.0

-- and there is no third end
pub shown_without_want_of_memory : (before after : Option (List ℕ)) (bytes : List ℕ) (code : ℕ) → IsShown before after bytes notes.NoMemory code → ⊥
shown_without_want_of_memory before after bytes code shown = shown

pub shown_without_a_word : (before after : Option (List ℕ)) (bytes : List ℕ) (text : String Global) (code : ℕ) → IsShown before after bytes (notes.Command text) code → ⊥
shown_without_a_word before after bytes text code shown = shown

pub shown_without_ignored_words : (before after : Option (List ℕ)) (bytes : List ℕ) (words : Vec Refusal Global) (code : ℕ) → IsShown before after bytes (notes.Ignored words) code → ⊥
shown_without_ignored_words before after bytes words code shown = shown

pub shown_without_input : (before after : Option (List ℕ)) (bytes : List ℕ) (code : ℕ) → IsShown before after bytes notes.InputFault code → ⊥
shown_without_input before after bytes code shown = shown
