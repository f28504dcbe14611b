use Rattle.std.proofs.Common.{rules, ap, ◌∙◌}
use mathlib.Core.Option.{none}
use Rattle.atomic_table.specs.Table.{step}
use Rattle.gomp_slots.specs.Words.{gate_at}
use Rattle.gomp_slots.specs.Plays.{LookStep}
use Rattle.gomp_slots.proofs.WordSteps.{at_word}
use Rattle.gomp_slots.proofs.EnterSteps.{look_allowed}
use Rattle.gomp_slots.proofs.opening.look_at_next.Goals as goal

pub load-requires : goal.load-requires
load-requires g c = (c.requires.seat, search rules, at_word _ _ _ _ _ _ (λ n. n) (LookStep g.C.Chosen.members g.C.Chosen.share (step c.args.slots.now.table.shared.table_id.slots c.gate_index-gate.result 0 0 none) c.args.seat.now.me) (c.gate_index-gate.ensures.word ∙ ap gate_at c.requires.chosen.0) (look_allowed _ _ _ _ _ c.args.seat.now.me _ (step c.args.slots.now.table.shared.table_id.slots c.gate_index-gate.result 0 0 none) c.requires.chosen.1 c.requires.next c.requires.idle))
