use Rattle.std.proofs.Common.{rules, ◌+◌, ◌%◌, ◌^◌, ap, ◌∙◌}
use mathlib.Core.Option.{none}
use Rattle.atomic_table.specs.Table.{step}
use Rattle.gomp_slots.specs.Words.{gate_at}
use Rattle.gomp_slots.specs.Plays.{PassStep}
use Rattle.gomp_slots.proofs.WordSteps.{at_word}
use Rattle.gomp_slots.proofs.SingleSteps.{pass_allowed}
use Rattle.gomp_slots.proofs.singles.pass_found.Goals as goal

pub fetch_add-requires : goal.fetch_add-requires
fetch_add-requires g c = (c.requires.seat, search rules, at_word _ _ _ _ _ _ (λ n. (n + 0x10000000001) % 2 ^ 64) (PassStep g.C.Chosen.members g.C.Chosen.member g.C.Chosen.share (step c.args.slots.now.table.shared.table_id.slots c.gate_index-gate.result 0x10000000001 0 none) c.args.seat.now.me) (c.gate_index-gate.ensures.word ∙ ap gate_at c.requires.chosen.0) (pass_allowed _ _ _ _ _ c.args.seat.now.me _ (step c.args.slots.now.table.shared.table_id.slots c.gate_index-gate.result 0x10000000001 0 none) c.requires.chosen.1 c.requires.next c.requires.idle c.requires.looks.0 c.requires.looks.1 c.requires.may))
