-- What is known of a talk at any time, whatever lines were said: the page to read first.
use Rattle.std.proofs.Common.{◌≡◌, ℕ, Bool, true, false, List, [], ◌∷◌, Option, Some, None, Result, Ok, Err, refl, sym, subst}
use Rattle.std.specs.Prelude.{IfSome, is_some}
use Rattle.gomp_model.specs.Team.{Caused, events}
use Rattle.gomp_icv.specs.Variables.{Variables}
use Rattle.gomp_core.specs.Stands.{standard_terms}
use Rattle.gomp_laws.specs.Headline.{Headline}
use Rattle.gomp_laws.proofs.Laws.{headline_holds}
use Rattle.gomp_script.specs.declared.live.LiveLine.{LiveLine}
use Rattle.gomp_script.specs.declared.live.LiveLine.TheVariants.{NewTeam, NextStep}
use Rattle.gomp_script.specs.declared.parse.Why.{Why}
use Rattle.gomp_script.specs.LiveText.{read_live_line}
use Rattle.gomp_service.specs.Statuses.{is_size}
use Rattle.gomp_live.specs.Talk.{Made, TeamAnswered, LineAnswered, next_number, Talked}
use Rattle.gomp_live.specs.Serving.{SomeAnswered}
use Rattle.gomp_live.proofs.InputLemmas.{appends_nothing, input_begins, input_stays}

-- the replies to the steps of a team have their causes
abbrev HasCauses : Variables → Option Made → Type 0
HasCauses icv team = IfSome team (λ made. Caused (standard_terms made.size icv) made.run)

team_keeps_causes : (icv : Variables) (is_team : Bool) (count : ℕ) (stood : Option Made) (answer : List ℕ) (stands : Option Made) → TeamAnswered icv is_team count stood answer stands → HasCauses icv stood → HasCauses icv stands
team_keeps_causes icv true count stood answer stands answered had = subst (HasCauses icv) (sym answered.stands_is) answered.caused
team_keeps_causes icv false count stood answer stands answered had = subst (HasCauses icv) (sym answered.1) had

line_keeps_causes : (icv : Variables) (number : ℕ) (stood : Option Made) (read : Result (Option LiveLine) Why) (answer : List ℕ) (stands : Option Made) → LineAnswered icv number stood read answer stands → HasCauses icv stood → HasCauses icv stands
line_keeps_causes icv number stood (Ok (Some (NewTeam count))) answer stands answered had = team_keeps_causes icv (is_size count) count stood answer stands answered had
line_keeps_causes icv number None (Ok (Some (NextStep step))) answer stands answered had = absurd answered
line_keeps_causes icv number (Some made) (Ok (Some (NextStep step))) answer stands answered had = subst (HasCauses icv) (sym answered.stands_is) (answered.caused, had)
line_keeps_causes icv number stood (Ok None) answer stands answered had = subst (HasCauses icv) (sym answered.1) had
line_keeps_causes icv number stood (Err why) answer stands answered had = subst (HasCauses icv) (sym answered.1) had

talk_has_causes : (icv : Variables) (lines : List (List ℕ)) (said : List ℕ) (team : Option Made) → Talked icv lines said team → HasCauses icv team
talk_has_causes icv [] said team talked = subst (HasCauses icv) (sym talked.1) tt
talk_has_causes icv (line ∷ earlier) said team talked = line_keeps_causes icv (next_number earlier) talked.1 (read_live_line (is_some talked.1) line) talked.2 team talked.4 (talk_has_causes icv earlier talked.0 talked.1 talked.3)

-- The headline holds of the team that stands, of all that was asked of it and answered since its line.
pub headline_of_a_talk :
    (icv : Variables) → (lines : List (List ℕ)) → (said : List ℕ) → (made : Made) → Talked icv lines said (Some made)
    → Headline made.size (events (standard_terms made.size icv) made.run)
headline_of_a_talk icv lines said made talked = headline_holds (standard_terms made.size icv) made.run (talk_has_causes icv lines said (Some made) talked)

-- before the first line is read nothing was answered
pub none_is_answered : (icv : Variables) (remaining before after : Option (List ℕ)) → after ≡ before → SomeAnswered icv remaining before after
none_is_answered icv remaining before after same =
    let coming = input_stays remaining remaining [] (input_begins remaining) in (
      coming.0,
      record {
        lines = [];
        said = [];
        made = None;
        read = coming.1;
        talked = (refl, refl);
        written = rw same (appends_nothing before);
      },
    )
