use Rattle.std.proofs.Common.{rules, ◌+◌}
use mathlib.Core.Option.{none}
use Rattle.atomic_table.specs.Table.{step}
use Rattle.gomp_slots.proofs.TurnSteps.{end_part_allowed}
use Rattle.gomp_slots.proofs.turns.end_part.Goals as goal

pub load-requires : goal.load-requires
load-requires g c = (c.requires.seat, search rules, end_part_allowed _ _ _ _ _ _ c.args.seat.now.me _ (step c.args.slots.now.table.shared.table_id.slots (c.gate_index-gate.result + 5) 0 0 none) c.requires.chosen.1 c.requires.inside c.requires.may)
