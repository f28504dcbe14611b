use Rattle.std.proofs.Common.{◌∙◌, sym}
use Rattle.gomp_team_board.specs.Counts.{is_counted}
use Rattle.gomp_team_board.proofs.Fits.{counted_by}
use Rattle.gomp_team_board.proofs.counts.counted_events.Goals as goal

pub returns : goal.returns
returns c = c.number_of_counted.ensures ∙ sym (counted_by is_counted c.args.history.now)
