-- What a line leaves of a talk.
use Rattle.std.proofs.Common.{◌≡◌, ◌+◌, ◌++◌, ◌∷◌, ◌∙◌, ℕ, List, Bool, Option, Some, None, Result, Ok, Err, refl, ap, sym, subst, arith}
use Rattle.std.specs.Prelude.{IfOk, is_some}
use Rattle.gomp_types.specs.declared.call.Step.{Step}
use Rattle.gomp_events.specs.declared.event.Event.{Event}
use Rattle.gomp_types.specs.declared.reply.Reply.{Reply}
use Rattle.gomp_types.specs.Limits.{shown_number}
use Rattle.gomp_model.specs.Past.{Terms}
use Rattle.gomp_model.specs.Team.{Record, MayAnswer, past_of}
use Rattle.gomp_icv.specs.Variables.{Variables}
use Rattle.gomp_core.specs.Stands.{TeamView, Stands, Keeps, past}
use Rattle.gomp_core.specs.Resolved.{resolved_step}
use Rattle.gomp_core.proofs.Lists.{terms_are}
use Rattle.gomp_script.specs.declared.live.LiveLine.{LiveLine}
use Rattle.gomp_script.specs.declared.live.LiveLine.TheVariants.{NextStep}
use Rattle.gomp_script.specs.declared.parse.LineError.{LineError}
use Rattle.gomp_script.specs.declared.parse.LineError.TheVariants.{Fault}
use Rattle.gomp_script.specs.declared.parse.Why.{Why}
use Rattle.gomp_script.specs.LiveText.{read_live_line}
use Rattle.gomp_script.specs.StepText.{Reads}
use Rattle.gomp_script.specs.Printing.{reply_line}
use Rattle.gomp_live.specs.Talk.{Made, StepAnswered, LineAnswered, next_number}
use Rattle.gomp_live.specs.Stands.{TalkView, TeamStands, TeamIs, TalkStands}

-- a step that a team answered is answered in the talk
pub step_said :
    {S : Type 0} (stands : S → List Event → Type 0) (members : S → ℕ) (icv : Variables) (team after : TeamView S) (made : Made) (step : Step) (reply : Reply) (answer : List ℕ)
    → TeamStands stands members icv team made → Keeps team after step.call reply
    → ((before : Record) → Stands stands members team before → MayAnswer (past team before) (resolved_step team.icv step) reply)
    → ((before : Record) → Stands stands members team before → Stands stands members after ((resolved_step team.icv step, reply) ∷ before))
    → answer ≡ reply_line reply
    → (x : Option Made) × StepAnswered icv made step answer x × TeamIs stands members icv (Some after) x
step_said stands members icv team after made step reply answer is keeps may next line =
    let same = terms_are team made.size icv is.size_is is.icv_is is.limits_are in
    let caused = subst (λ (v : Variables). MayAnswer (past team made.run) (resolved_step v step) reply) is.icv_is (may made.run is.stands_for) in (
      Some (record made { run = (resolved_step icv step, reply) ∷ made.run }),
      record {
        reply = reply;
        caused = subst (λ (terms : Terms). MayAnswer (past_of terms made.run) (resolved_step icv step) reply) same caused;
        answer_is = line;
        stands_is = refl;
      },
      record {
        size_is = keeps.members ∙ is.size_is;
        icv_is = keeps.icv ∙ is.icv_is;
        limits_are = keeps.limits ∙ is.limits_are;
        stands_for = subst (λ (v : Variables). Stands stands members after ((resolved_step v step, reply) ∷ made.run)) is.icv_is (next made.run is.stands_for);
      },
    )

-- a team stands in the talk where one is kept
same_standing : {S : Type 0} (stands : S → List Event → Type 0) (members : S → ℕ) (icv : Variables) (team : Option (TeamView S)) (made : Option Made) → TeamIs stands members icv team made → is_some team ≡ is_some made
same_standing stands members icv None None is = refl
same_standing stands members icv (Some team) (Some made) is = refl
same_standing stands members icv None (Some made) is = absurd is
same_standing stands members icv (Some team) None is = absurd is

-- the number that is counted on is that of the line after next
number_after : (line : List ℕ) (lines : List (List ℕ)) (number : ℕ) → number ≡ next_number lines → shown_number (number + 1) ≡ next_number (line ∷ lines)
number_after line lines number is = grind (arith, is)

-- once a line is answered the talk stands for it and those before it
pub talk_goes_on :
    {S : Type 0} (stands : S → List Event → Type 0) (members : S → ℕ) (talk : TalkView S) (lines : List (List ℕ)) (said line answer : List ℕ) (number : ℕ) (team : Option (TeamView S)) (after : Option Made)
    (parsed : Result (Option LiveLine) Why) (before : TalkStands stands members talk lines said)
    → parsed ≡ read_live_line (is_some talk.team) line → number ≡ shown_number (talk.number + 1)
    → LineAnswered talk.icv talk.number before.made parsed answer after
    → TeamIs stands members talk.icv team after
    → TalkStands stands members (record { icv = talk.icv; number = number; team = team }) (line ∷ lines) (said ++ answer)
talk_goes_on stands members talk lines said line answer number team after parsed before read counted answered is =
    let standing = same_standing stands members talk.icv talk.team before.made before.team_is in
    let asked : parsed ≡ read_live_line (is_some before.made) line = read ∙ ap (λ (b : Bool). read_live_line b line) standing in
    let by_line = subst (λ (p : Result (Option LiveLine) Why). LineAnswered talk.icv talk.number before.made p answer after) asked answered in
    let by_number = subst (λ (n : ℕ). LineAnswered talk.icv n before.made (read_live_line (is_some before.made) line) answer after) before.number_is by_line in
    record {
      made = after;
      talked = (said, before.made, answer, before.talked, by_number, refl);
      number_is = counted ∙ number_after line lines talk.number before.number_is;
      team_is = is;
    }

-- a step is answered of the team that stands
pub step_of_talk :
    {S : Type 0} (stands : S → List Event → Type 0) (members : S → ℕ) (icv : Variables) (number : ℕ) (old : Option (TeamView S)) (team after : TeamView S) (made : Option Made) (step : Step) (answer : List ℕ)
    → old ≡ Some team → TeamIs stands members icv old made
    → ((v : Variables) (one : Made) → TeamStands stands members v team one → (x : Option Made) × StepAnswered v one step answer x × TeamIs stands members v (Some after) x)
    → (x : Option Made) × LineAnswered icv number made (Ok (Some (NextStep step))) answer x × TeamIs stands members icv (Some after) x
step_of_talk {S} stands members icv number old team after (Some one) step answer same is steps = steps icv one (subst (λ (t : Option (TeamView S)). TeamIs stands members icv t (Some one)) same is)
step_of_talk {S} stands members icv number old team after None step answer same is steps = absurd (subst (λ (t : Option (TeamView S)). TeamIs stands members icv t None) same is)

-- a value that a line gave is what was read of it
pub line_asked : {A : Type 0} (given : Result A LineError) (read : Result A Why) (value : A) → Reads given read → given ≡ Ok value → Ok value ≡ read
line_asked {A = A} given read value reads is = sym (subst (λ (r : Result A LineError). Reads r read) is reads)

-- so is a fault
pub line_fault : {A : Type 0} (given : Result A LineError) (read : Result A Why) (why : Why) → Reads given read → given ≡ Err (Fault why) → Err why ≡ read
line_fault {A = A} given read why reads is = sym (subst (λ (r : Result A LineError). Reads r read) is reads)

-- what follows of each value follows of that which there is
pub if_ok_then : {X E : Type 0} {P Q : X → Type 0} (result : Result X E) → ((x : X) → P x → Q x) → IfOk result P → IfOk result Q
if_ok_then (Ok x) step given = step x given
if_ok_then (Err e) step given = tt
