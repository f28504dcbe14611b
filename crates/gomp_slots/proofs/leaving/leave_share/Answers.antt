use Rattle.std.proofs.Common.{rules, ◌+◌, ◌%◌, ◌^◌, ap, ◌∙◌}
use mathlib.Core.Option.{none}
use Rattle.atomic_table.specs.Table.{step}
use Rattle.gomp_slots.specs.Words.{gate_at}
use Rattle.gomp_slots.specs.Plays.{LeaveStep}
use Rattle.gomp_slots.proofs.WordSteps.{at_word}
use Rattle.gomp_slots.proofs.LeaveSteps.{leave_allowed}
use Rattle.gomp_slots.proofs.leaving.leave_share.Goals as goal

pub fetch_add-requires : goal.fetch_add-requires
fetch_add-requires g c = (c.requires.seat, search rules, at_word _ _ _ _ _ _ (λ n. (n + 0x10000000000) % 2 ^ 64) (LeaveStep g.C.Chosen.members g.C.Chosen.member g.C.Chosen.share (step c.args.slots.now.table.shared.table_id.slots c.gate_index-gate.result 0x10000000000 0 none) c.args.seat.now.me) (c.gate_index-gate.ensures.word ∙ ap gate_at c.requires.chosen.0) (leave_allowed _ _ _ _ _ c.args.seat.now.me _ (step c.args.slots.now.table.shared.table_id.slots c.gate_index-gate.result 0x10000000000 0 none) c.requires.chosen.1 c.requires.inside c.requires.may))
