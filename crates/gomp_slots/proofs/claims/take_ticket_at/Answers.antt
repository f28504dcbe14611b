use Rattle.std.proofs.Common.{rules, ◌+◌, ◌%◌, ◌^◌, ap, ◌∙◌}
use mathlib.Core.Option.{none}
use Rattle.atomic_table.specs.Table.{step}
use Rattle.gomp_slots.specs.Words.{gate_at}
use Rattle.gomp_slots.specs.Plays.{ClaimStep}
use Rattle.gomp_slots.proofs.WordSteps.{at_word}
use Rattle.gomp_slots.proofs.ClaimSteps.{claim_allowed}
use Rattle.gomp_slots.proofs.claims.take_ticket_at.Goals as goal

pub fetch_add-requires : goal.fetch_add-requires
fetch_add-requires g c = (c.requires.seat, search rules, at_word _ _ _ _ _ _ (λ n. (n + 1) % 2 ^ 64) (ClaimStep g.C.Chosen.members g.C.Chosen.member g.C.Chosen.share (step c.args.slots.now.table.shared.table_id.slots c.args.gate 1 0 none) c.args.seat.now.me) (c.requires.gate ∙ ap gate_at c.requires.chosen.0) (claim_allowed _ _ _ _ _ c.args.seat.now.me _ (step c.args.slots.now.table.shared.table_id.slots c.args.gate 1 0 none) c.requires.chosen.1 c.requires.may))

pub returns-clause-claimed : goal.returns-clause-claimed
returns-clause-claimed g c = c.fetch_add.ensures.2.0
