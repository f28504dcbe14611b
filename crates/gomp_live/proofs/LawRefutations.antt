-- What is never known of a talk, of any variables, lines and teams.
use Rattle.std.proofs.Common.{ℕ, List, Some}
use Rattle.gomp_model.specs.Team.{events}
use Rattle.gomp_icv.specs.Variables.{Variables}
use Rattle.gomp_core.specs.Stands.{standard_terms}
use Rattle.gomp_laws.specs.Headline.{Headline}
use Rattle.gomp_live.specs.Talk.{Made, Talked}
use Rattle.gomp_live.proofs.Laws.{headline_of_a_talk}

-- no talk, whatever was said and asked in it, leaves a team whose events break the headline
pub no_talk_breaks_the_headline :
    (icv : Variables) → (lines : List (List ℕ)) → (said : List ℕ) → (made : Made) → Talked icv lines said (Some made)
    → (Headline made.size (events (standard_terms made.size icv) made.run) → ⊥) → ⊥
no_talk_breaks_the_headline icv lines said made talked broken = broken (headline_of_a_talk icv lines said made talked)
