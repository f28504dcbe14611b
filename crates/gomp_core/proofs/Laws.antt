-- What is known of a team at any time, whatever was asked of it.
use Rattle.std.proofs.Common.{ℕ, List}
use Rattle.gomp_events.specs.declared.event.Event.{Event}
use Rattle.gomp_laws.specs.Headline.{Headline}
use Rattle.gomp_laws.proofs.Laws.{headline_holds}
use Rattle.gomp_model.specs.Team.{Record, events}
use Rattle.gomp_core.specs.Stands.{TeamView, Stands, members_of, terms_of}

-- The headline holds of each record that a team stands for, whatever body its shares have.
pub headline_of_a_team :
    {S : Type 0} → (stands : S → List Event → Type 0) → (members : S → ℕ) → (team : TeamView S) → (before : Record)
    → Stands stands members team before → Headline (members_of team) (events (terms_of team) before)
headline_of_a_team stands members team before st = headline_holds (terms_of team) before st.caused
