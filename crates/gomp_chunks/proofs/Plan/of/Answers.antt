use Rattle.std.proofs.Common.{rules}
use Rattle.gomp_types.proofs.Laws.{pieces_tile_the_share}
use Rattle.gomp_chunks.proofs.Plan.of.Goals as goal

pub returns-clause-plan : goal.returns-clause-plan
returns-clause-plan c = search rules

pub returns-clause-tiles : goal.returns-clause-tiles
returns-clause-tiles c = pieces_tile_the_share c.args.members c.args.shape.now c.requires.team c.requires.shape
