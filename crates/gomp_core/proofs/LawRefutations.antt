-- What is never known of a team, of any size, limits, past and body of its shares.
use Rattle.std.proofs.Common.{ℕ, List}
use Rattle.gomp_events.specs.declared.event.Event.{Event}
use Rattle.gomp_laws.specs.Headline.{Headline}
use Rattle.gomp_model.specs.Team.{Record, events}
use Rattle.gomp_core.specs.Stands.{TeamView, Stands, members_of, terms_of}
use Rattle.gomp_core.proofs.Laws.{headline_of_a_team}

-- no team stands for events that break the headline
pub no_team_breaks_the_headline :
    {S : Type 0} → (stands : S → List Event → Type 0) → (members : S → ℕ) → (team : TeamView S) → (before : Record)
    → Stands stands members team before → (Headline (members_of team) (events (terms_of team) before) → ⊥) → ⊥
no_team_breaks_the_headline stands members team before st broken = broken (headline_of_a_team stands members team before st)
