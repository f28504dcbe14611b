use Rattle.std.proofs.Common.{rules}
use mathlib.Core.Option.{none}
use Rattle.atomic_table.specs.Table.{step}
use Rattle.gomp_slots.proofs.SeatSteps.{settle_allowed}
use Rattle.gomp_slots.proofs.seats.settle.Goals as goal

pub load-requires : goal.load-requires
load-requires g c = (c.requires.seat, search rules, settle_allowed _ _ _ _ c.args.seat.now.me _ (step c.args.slots.now.table.shared.table_id.slots 0 0 0 none) c.requires.size)
