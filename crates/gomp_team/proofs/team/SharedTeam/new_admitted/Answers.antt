use Rattle.std.proofs.Common.{ap, ◌∙◌, List}
use Rattle.gomp_events.specs.declared.event.Event.{Event}
use Rattle.gomp_team_board.specs.Counts.{counted_events}
use Rattle.gomp_team_board.specs.Parts.{new_part}
use Rattle.gomp_team.proofs.NoEvents.{reversed_none_is_none}
use Rattle.gomp_team.proofs.team.SharedTeam.new_admitted.Goals as goal

pub returns-clause-whole : goal.returns-clause-whole
returns-clause-whole g c =
    c.new-board.ensures.whole ∙ ap (λ (history : List Event). new_part g.L.Ledger.parts (counted_events history)) (reversed_none_is_none c.in-Ok.board.board.history c.in-Ok.ensures.stands.history)
