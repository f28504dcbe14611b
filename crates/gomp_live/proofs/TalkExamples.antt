-- A talk, line by line: for each line of a definition an answer that it alone refuses.
use Rattle.std.proofs.Common.{◌≡◌, ◌∙◌, ℕ, true, false, List, [], ◌∷◌, ◌++◌, Option, Some, None, refl, ap}
use Rattle.std.specs.Prelude.{IfSome, Ok, Err, map, codes, take}
use Rattle.std.specs.Io.KnownBytes.{Appends}
use Rattle.gomp_types.specs.declared.call.Step.{Step}
use Rattle.gomp_types.specs.declared.reply.Reply.{Reply}
use Rattle.gomp_types.specs.declared.refusal.Refusal.TheVariants.{BadTeam}
use Rattle.gomp_types.specs.declared.lock.LockKind.TheVariants.{Simple, Nest}
use Rattle.gomp_model.specs.Team.{MayAnswer, Caused, past_of}
use Rattle.gomp_icv.specs.Variables.{Variables, initial}
use Rattle.gomp_core.specs.LocksMade.{locks_made}
use Rattle.gomp_core.specs.Stands.{standard_terms}
use Rattle.gomp_core.specs.Resolved.{resolved_step}
use Rattle.gomp_script.specs.declared.parse.Why.{Why}
use Rattle.gomp_script.specs.declared.parse.Why.TheVariants.{FirstLine, MissingWord}
use Rattle.gomp_script.specs.Printing.{reply_line, bad_line_text, refusal_line}
use Rattle.gomp_script.specs.StepText.{taskwait_step}
use Rattle.gomp_live.specs.Talk.{Made, locks_so_far, begun_with, TeamAnswered, NextStepAnswered, LineAnswered, Answers, next_number, Talked}
use Rattle.gomp_live.specs.Input.{input_lines, in_order}
use Rattle.gomp_live.specs.Serving.{LinesAnswered, ServesLive}
use Rattle.gomp_service.specs.declared.read.Ending.TheVariants as ending

-- Answers

-- of a size that may be a new team stands, in which the locks that there were are made, and nothing else was asked
pub new_team_stands : (icv : Variables) (stood : Option Made) (answer : List ℕ) (stands : Option Made) → TeamAnswered icv true 2 stood answer stands →
    (answer ≡ codes "ok\n") × Caused (standard_terms 2 icv) (locks_made (locks_so_far icv stood)) × (stands ≡ Some (begun_with 2 (locks_so_far icv stood)))
new_team_stands icv stood answer stands answered = (answered.answer_is, answered.caused, answered.stands_is)

-- the first team has no lock, the second those of the first, the destroyed one too
pub locks_handed_on :
    (locks_so_far initial None ≡ [])
    × (locks_so_far initial (Some (begun_with 1 (Some Simple ∷ None ∷ Some Nest ∷ []))) ≡ Some Simple ∷ None ∷ Some Nest ∷ [])
    × (begun_with 2 [] ≡ record { size = 2; run = [] })
locks_handed_on = (refl, refl, refl)

-- of another the team that stood is left
pub old_team_stays : (icv : Variables) (stood : Option Made) (answer : List ℕ) (stands : Option Made) → TeamAnswered icv false 65 stood answer stands → (answer ≡ refusal_line BadTeam) × (stands ≡ stood)
old_team_stays icv stood answer stands answered = answered

-- no step is answered before the first team
pub no_step_without_a_team : (icv : Variables) (step : Step) (answer : List ℕ) (stands : Option Made) → NextStepAnswered icv None step answer stands → ⊥
no_step_without_a_team icv step answer stands answered = answered

-- its line is bad then, and is told by its number
pub first_line_is_no_step : (icv : Variables) (answer : List ℕ) (stands : Option Made) → Answers icv 3 None (codes "0 barrier") answer stands → (answer ≡ bad_line_text (record { line = 3; why = FirstLine })) × (stands ≡ None)
first_line_is_no_step icv answer stands answered = answered

-- a comment has no answer
pub comment_is_skipped : (icv : Variables) (stood : Option Made) (answer : List ℕ) (stands : Option Made) → Answers icv 3 None (codes "# 1") answer stands → (answer ≡ []) × (stands ≡ None)
comment_is_skipped icv stood answer stands answered = answered

-- of a line with a bad item of a `depend` clause its first fault is told, and the team that stood is left
pub bad_item_is_told : (icv : Variables) (made : Made) (answer : List ℕ) (stands : Option Made) → Answers icv 3 (Some made) (codes "0 taskwait in") answer stands → (answer ≡ bad_line_text (record { line = 3; why = MissingWord })) × (stands ≡ Some made)
unfolding taskwait_step
bad_item_is_told icv made answer stands answered = answered

-- what the answer to a step is
pub step_answered_has : (icv : Variables) (made : Made) (step : Step) (answer : List ℕ) (stands : Option Made) → NextStepAnswered icv (Some made) step answer stands →
    (reply : Reply) × MayAnswer (past_of (standard_terms made.size icv) made.run) (resolved_step icv step) reply
    × (answer ≡ reply_line reply) × (stands ≡ Some (record made { run = (resolved_step icv step, reply) ∷ made.run }))
step_answered_has icv made step answer stands answered = (answered.reply, answered.caused, answered.answer_is, answered.stands_is)

-- a team of any size that may be one begins
pub any_fitting_team_begins : (icv : Variables) (count : ℕ) (stood : Option Made) (answer : List ℕ) (stands : Option Made) → TeamAnswered icv true count stood answer stands →
    (answer ≡ codes "ok\n") × (stands ≡ Some (begun_with count (locks_so_far icv stood)))
any_fitting_team_begins icv count stood answer stands answered = (answered.answer_is, answered.stands_is)

-- of any other size none does, and the team that stood is left
pub any_other_team_leaves_what_stood : (icv : Variables) (count : ℕ) (stood : Option Made) (answer : List ℕ) (stands : Option Made) → TeamAnswered icv false count stood answer stands → (answer ≡ refusal_line BadTeam) × (stands ≡ stood)
any_other_team_leaves_what_stood icv count stood answer stands answered = answered

-- a line that is skipped has no answer, whichever it is
pub skipped_line_changes_nothing : (icv : Variables) (number : ℕ) (stood : Option Made) (answer : List ℕ) (stands : Option Made) → LineAnswered icv number stood (Ok None) answer stands → (answer ≡ []) × (stands ≡ stood)
skipped_line_changes_nothing icv number stood answer stands answered = answered

-- a bad one is answered by its number
pub bad_line_is_answered_by_its_number : (icv : Variables) (number : ℕ) (stood : Option Made) (why : Why) (answer : List ℕ) (stands : Option Made) → LineAnswered icv number stood (Err why) answer stands →
    (answer ≡ bad_line_text (record { line = number; why = why })) × (stands ≡ stood)
bad_line_is_answered_by_its_number icv number stood why answer stands answered = answered

-- Talks

pub numbers_of_lines : (next_number [] ≡ 1) × (next_number ([] ∷ [] ∷ []) ≡ 3)
numbers_of_lines = (refl, refl)

-- before the first line no team stands, and nothing was said
pub silent_before_the_first_line : (icv : Variables) (said : List ℕ) (stands : Option Made) → Talked icv [] said stands → (said ≡ []) × (stands ≡ None)
silent_before_the_first_line icv said stands talked = talked

-- the answer to the newest line stands behind what was said before, with the team that stood then
pub newest_line_answered : (icv : Variables) (said : List ℕ) (stands : Option Made) → Talked icv (codes "0 barrier" ∷ []) said stands → (said ≡ bad_line_text (record { line = 1; why = FirstLine })) × (stands ≡ None)
newest_line_answered icv said stands talked =
    let none = talked.3.1 in
    let answered = rw none at talked.4 in
    (talked.5 ∙ ap (λ (before : List ℕ). before ++ talked.2) talked.3.0 ∙ answered.0, answered.1)

-- each line adds its answer to what was said, whichever line it is
pub each_line_adds_its_answer : (icv : Variables) (line : List ℕ) (earlier : List (List ℕ)) (said : List ℕ) (stands : Option Made) → Talked icv (line ∷ earlier) said stands →
    (before : List ℕ) × (stood : Option Made) × (answer : List ℕ) × Talked icv earlier before stood × Answers icv (next_number earlier) stood line answer stands × (said ≡ before ++ answer)
each_line_adds_its_answer icv line earlier said stands talked = talked

-- Inputs

pub lines_of_inputs : map input_lines ([] ∷ codes "a\nb" ∷ codes "a\n" ∷ codes "\n\n" ∷ []) ≡ [] ∷ (codes "a" ∷ codes "b" ∷ []) ∷ (codes "a" ∷ []) ∷ ([] ∷ [] ∷ []) ∷ []
lines_of_inputs = refl

pub lines_in_order : in_order (codes "b" ∷ codes "a" ∷ []) (codes "c" ∷ []) ≡ codes "a" ∷ codes "b" ∷ codes "c" ∷ []
lines_in_order = refl

-- what was answered of an input has
pub lines_answered_have : (icv : Variables) (remaining before after : Option (List ℕ)) (left : List (List ℕ)) → LinesAnswered icv remaining before after left →
    (lines : List (List ℕ)) × (said : List ℕ) × (made : Option Made) × IfSome remaining (λ input. input_lines input ≡ in_order lines left) × Talked icv lines said made × Appends before after said
lines_answered_have icv remaining before after left answered = (answered.lines, answered.said, answered.made, answered.read, answered.talked, answered.written)

-- at the end of the input no line of it is left, and the status is 0
pub input_answered_whole : (icv : Variables) (remaining before after : Option (List ℕ)) (code : ℕ) → ServesLive icv remaining before after (ending.Answered code) → LinesAnswered icv remaining before after [] × (code ≡ 0)
input_answered_whole icv remaining before after code served = served

-- a fault may leave lines of it
pub lines_left_at_a_fault : (icv : Variables) (remaining before after : Option (List ℕ)) →
    (ServesLive icv remaining before after ending.InputFault → (left : List (List ℕ)) × LinesAnswered icv remaining before after left)
    × (ServesLive icv remaining before after ending.NoMemory → (left : List (List ℕ)) × LinesAnswered icv remaining before after left)
    × (ServesLive icv remaining before after ending.TooLong → (left : List (List ℕ)) × LinesAnswered icv remaining before after left)
lines_left_at_a_fault icv remaining before after = (λ served. served, λ served. served, λ served. served)

-- if the output failed what was written is a prefix of what a talk answers to lines of the input, and leaves what was there
pub cut_talk_is_a_prefix : (icv : Variables) (input before after : List ℕ) → ServesLive icv (Some input) (Some before) (Some after) ending.OutputFault →
    (lines left : List (List ℕ)) × (said : List ℕ) × (made : Option Made) × (count : ℕ) × (input_lines input ≡ in_order lines left) × Talked icv lines said made × (after ≡ before ++ take count said)
cut_talk_is_a_prefix icv input before after ends = (ends.lines, ends.left, ends.said, ends.made, ends.written.0, ends.read, ends.talked, ends.written.1)
