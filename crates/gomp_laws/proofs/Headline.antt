-- The headline of every record whose replies have their causes.
use Rattle.gomp_laws.specs.Headline.{Headline}
use Rattle.gomp_model.specs.Past.{Terms}
use Rattle.gomp_model.specs.Team.{Record, events, Caused}
use Rattle.gomp_laws.proofs.Known.{rule_holds}
use Rattle.gomp_laws.proofs.InTime.{in_time_holds}
use Rattle.gomp_laws.proofs.TeamKeeps.{team_keeps}

pub headline_of : (terms : Terms) (run : Record) → Caused terms run → Headline terms.members (events terms run)
headline_of terms run caused = team_keeps terms.members (events terms run) (rule_holds terms run caused) (in_time_holds terms run caused)
