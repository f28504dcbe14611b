use Rattle.std.proofs.Common.{rules, bit_or, ap, ◌∙◌}
use mathlib.Core.Option.{none}
use Rattle.atomic_table.specs.Table.{step}
use Rattle.gomp_slots.specs.Words.{gate_at}
use Rattle.gomp_slots.specs.Plays.{CancelStep}
use Rattle.gomp_slots.proofs.WordSteps.{at_word}
use Rattle.gomp_slots.proofs.LeaveSteps.{cancel_allowed}
use Rattle.gomp_slots.proofs.leaving.cancel_share.Goals as goal

pub fetch_or-requires : goal.fetch_or-requires
fetch_or-requires g c = (c.requires.seat, search rules, at_word _ _ _ _ _ _ (λ n. bit_or n 0x800000000000) (CancelStep g.C.Chosen.members g.C.Chosen.member g.C.Chosen.share (step c.args.slots.now.table.shared.table_id.slots c.gate_index-gate.result 0x800000000000 0 none) c.args.seat.now.me) (c.gate_index-gate.ensures.word ∙ ap gate_at c.requires.chosen.0) (cancel_allowed _ _ _ _ _ c.args.seat.now.me _ (step c.args.slots.now.table.shared.table_id.slots c.gate_index-gate.result 0x800000000000 0 none) c.requires.chosen.1 c.requires.inside c.requires.may))
