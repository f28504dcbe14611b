-- The lines of a text that are answered, one after another.
use Rattle.std.proofs.Common.{◌≡◌, ◌≤◌, ℕ, List, [], ◌∷◌, ◌++◌, Bool, true, false, Ok, Err, Result, length, refl, ap, ◌∙◌, sym, subst, arith, length-append, append-nil}
use Rattle.std.specs.Prelude.{flat_map, if◌then◌else◌, string_bytes, min, Option, Some, None, IfOk, OnOk}
use Rattle.std.specs.declared.alloc.AllocError.{AllocError}
use Rattle.std.proofs.lemmas.List.Concat.{flat_map-append}
use Rattle.gomp_types.specs.declared.call.Step.{Step}
use Rattle.gomp_types.specs.declared.reply.Reply.{Reply}
use Rattle.gomp_types.specs.Limits.{standard, IsTeamSize}
use Rattle.gomp_types.specs.declared.limits.TheConstants.{MAX_MEMBERS}
use Rattle.std.proofs.lemmas.Bool.Decides.{nat_tests}
use Rattle.gomp_events.specs.declared.event.Event.{Event}
use Rattle.gomp_icv.specs.Variables.{Variables}
use Rattle.gomp_model.specs.Past.{Terms}
use Rattle.gomp_model.specs.Team.{Caused, Record}
use Rattle.gomp_core.specs.Stands.{Stands, Keeps, TeamView, members_of}
use Rattle.gomp_core.specs.Resolved.{record_of, resolved_step}
use Rattle.gomp_core.proofs.Lists.{resolved_grows, terms_are}
use Rattle.gomp_script.specs.declared.parse.BadLine.{BadLine}
use Rattle.gomp_script.specs.declared.parse.LineError.{LineError}
use Rattle.gomp_script.specs.declared.parse.LineError.TheVariants.{Fault, NoMemory}
use Rattle.gomp_script.specs.declared.parse.Why.{Why}
use Rattle.gomp_script.specs.Printing.{reply_line}
use Rattle.gomp_script.specs.StepText.{step_line, steps_kept}
use Rattle.gomp_script.proofs.TextLemmas.{with_fronts}
use Rattle.gomp_service.specs.declared.answer.Answer.{Answer}
use Rattle.gomp_service.specs.Statuses.{is_size, lacks, status_of}
use Rattle.gomp_steps.specs.Output.{AnswersLine, AnswersSaid, AnswerToLines, AnswerToSteps, IsBadLine, Replied, TellsLine, code_after}

-- the steps so far were answered so, by a team that stands now for them and their replies, and was new before
pub record Answered {S : Type 0} (stands : S → List Event → Type 0) (members : S → ℕ) (new team : TeamView S) (steps : List Step) (replies : List Reply) (text : List ℕ) (code : ℕ) : Type 0 where
  pub each : length replies ≡ length steps
  pub size : members_of team ≡ members_of new
  pub icv : team.icv ≡ new.icv
  pub limits : team.board.limits ≡ standard
  pub stands_now : Stands stands members team (record_of new.icv steps replies)
  pub text_is : text ≡ flat_map reply_line replies
  pub code_is : code ≡ status_of replies

-- no step before what is read
pub fronted_by_none : (read : Result (List Step) BadLine) → with_fronts [] read ≡ read
fronted_by_none (Ok steps) = refl
fronted_by_none (Err bad) = refl

-- the lines of replies, and of one more
lines_more : (replies : List Reply) (reply : Reply) → flat_map reply_line (replies ++ reply ∷ []) ≡ flat_map reply_line replies ++ reply_line reply
lines_more replies reply = flat_map-append reply_line replies (reply ∷ []) ∙ ap (λ (line : List ℕ). flat_map reply_line replies ++ line) (append-nil (reply_line reply))

-- whichever of two replies lacks memory, the status is the same
either_lacks : (first later : Bool) (code : ℕ) → (if first then 3 else if later then 3 else code) ≡ (if later then 3 else if first then 3 else code)
either_lacks true true code = refl
either_lacks true false code = refl
either_lacks false later code = refl

-- the status after replies, and one more
code_grows : (replies : List Reply) (reply : Reply) → status_of (replies ++ reply ∷ []) ≡ code_after reply (status_of replies)
code_grows [] reply = refl
code_grows (first ∷ replies) reply = ap (λ (code : ℕ). if lacks first then 3 else code) (code_grows replies reply) ∙ either_lacks (lacks first) (lacks reply) (status_of replies)

-- a bad line is the answer to all lines
fault_told : (icv : Variables) (count number : ℕ) (steps : List Step) (why : Why) (later all : Result (List Step) BadLine) (text : List ℕ) (code : ℕ) →
    with_fronts steps (step_line number (Err why) later) ≡ all → IsBadLine (record { line = number; why = why }) text code → AnswerToSteps icv count all text code
fault_told icv count number steps why later all text code same told = subst (λ (read : Result (List Step) BadLine). AnswerToSteps icv count read text code) same told

pub line_told : {S : Type 0} (stands : S → List Event → Type 0) (members : S → ℕ) (team : TeamView S × TeamView S) (answers : Answer × Answer) (icv : Variables) (count number : ℕ) (steps : List Step) (read : Result (Option Step) Why) (error : LineError) (later all : Result (List Step) BadLine) (told : Result Answer AllocError) →
    AnswersLine stands members team answers read (Err error) → with_fronts steps (step_line number read later) ≡ all →
    IfOk told (λ answer. TellsLine number error (string_bytes answer.text) answer.code) → IfOk told (λ answer. AnswerToSteps icv count all (string_bytes answer.text) answer.code)
line_told stands members team answers icv count number steps read (Fault why) later all (Ok answer) is same told =
    fault_told icv count number steps why later all (string_bytes answer.text) answer.code (ap (λ (said : Result (Option Step) Why). with_fronts steps (step_line number said later)) (sym is) ∙ same) told
line_told stands members team answers icv count number steps read NoMemory later all (Ok answer) is same told = absurd told
line_told stands members team answers icv count number steps read error later all (Err none) is same told = tt

-- a size that a team may have is below the largest number of members that is told apart
whole_size : (count : ℕ) → min count 65535 ≤ MAX_MEMBERS → min count 65535 ≡ count
whole_size count most = omega (arith, most)

-- there is a team of this size
size_there : (count : ℕ) → IsTeamSize count → is_size count ≡ true
size_there count size = let least = size.0 in let most = size.1 in grind (arith, nat_tests, least, most)

-- what is answered by a team of this size is the answer to the lines behind the one that asks for it
lines_of_team : (icv : Variables) (count : ℕ) (read : Result (List Step) BadLine) (text : List ℕ) (code : ℕ) → is_size count ≡ true → AnswerToSteps icv count read text code → AnswerToLines icv count read text code
lines_of_team icv count (Ok steps) text code size answer = rw size answer
lines_of_team icv count (Err bad) text code size answer = answer

pub team_answers : (icv : Variables) (count members : ℕ) (read : Result (List Step) BadLine) (told : Result Answer AllocError) → members ≡ min count 65535 → IsTeamSize members →
    IfOk told (λ answer. AnswerToSteps icv members read (string_bytes answer.text) answer.code) → IfOk told (λ answer. AnswerToLines icv count read (string_bytes answer.text) answer.code)
team_answers icv count members read (Ok answer) same size told =
    let whole : members ≡ count = same ∙ whole_size count (subst (λ (size : ℕ). size ≤ MAX_MEMBERS) same size.1) in
    lines_of_team icv count read (string_bytes answer.text) answer.code (size_there count (subst IsTeamSize whole size)) (subst (λ (size : ℕ). AnswerToSteps icv size read (string_bytes answer.text) answer.code) whole told)
team_answers icv count members read (Err none) same size told = tt

module _ {S : Type 0} (stands : S → List Event → Type 0) (members : S → ℕ) (new team : TeamView S) where
  -- no line is read yet
  pub none_answered : Stands stands members new [] → new.board.limits ≡ standard → Answered stands members new new [] [] [] 0
  none_answered stands_new limits = record { each = refl; size = refl; icv = refl; limits = limits; stands_now = stands_new; text_is = refl; code_is = refl }

  -- one more step is answered
  pub one_more : (after : TeamView S) (steps : List Step) (replies : List Reply) (text : List ℕ) (code : ℕ) (step : Step) (reply : Reply) →
      Answered stands members new team steps replies text code → Keeps team after step.call reply →
      ((before : Record) → Stands stands members team before → Stands stands members after ((resolved_step team.icv step, reply) ∷ before)) →
      Answered stands members new after (steps ++ step ∷ []) (replies ++ reply ∷ []) (text ++ reply_line reply) (code_after reply code)
  one_more after steps replies text code step reply so_far keeps stands_after = record {
    each = let each = so_far.each in simp length-append (omega arith);
    size = keeps.members ∙ so_far.size;
    icv = keeps.icv ∙ so_far.icv;
    limits = keeps.limits ∙ so_far.limits;
    stands_now = rw (resolved_grows new.icv steps replies step reply so_far.each) (rw so_far.icv at (stands_after (record_of new.icv steps replies) so_far.stands_now));
    text_is = ap (λ (lines : List ℕ). lines ++ reply_line reply) so_far.text_is ∙ sym (lines_more replies reply);
    code_is = ap (code_after reply) so_far.code_is ∙ sym (code_grows replies reply);
  }

  -- all are answered: they are the replies of a new team of this size
  pub all_answered : (steps : List Step) (replies : List Reply) (text : List ℕ) (code : ℕ) → Answered stands members new team steps replies text code → Replied new.icv (members_of new) steps text code
  all_answered steps replies text code so_far = record {
    replies = replies;
    each = so_far.each;
    caused = subst (λ (terms : Terms). Caused terms (record_of new.icv steps replies)) (terms_are team (members_of new) new.icv so_far.size so_far.icv so_far.limits) so_far.stands_now.caused;
    text_is = so_far.text_is;
    code_is = so_far.code_is;
  }

  -- a line more is answered
  pub more_answered : (after : TeamView S) (answer : Answer × Answer) (steps : List Step) (replies : List Reply) (said : Option Step) →
      Answered stands members new team steps replies (string_bytes answer.0.text) answer.0.code → AnswersSaid stands members (team, after) answer said →
      (all : List Reply) × Answered stands members new after (steps_kept steps said) all (string_bytes answer.1.text) answer.1.code
  more_answered after answer steps replies None so_far nothing = (replies, rw (nothing.0, nothing.1) so_far)
  more_answered after answer steps replies (Some step) so_far more =
      (replies ++ more.reply ∷ [], rw (more.text_is, more.code_is) (one_more after steps replies (string_bytes answer.0.text) answer.0.code step more.reply so_far more.keeps more.stands_now))

-- what two facts of an end that is no error make is one of it
pub both_on_ok : {A E P Q R : Type 0} (done : Result A E) → OnOk done P → OnOk done Q → (P → Q → R) → OnOk done R
both_on_ok (Ok found) one other make = make one other
both_on_ok (Err error) one other make = tt
