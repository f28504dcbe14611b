use Rattle.std.proofs.Common.{rules, Bool, ap, sym, subst, ◌∙◌}
use mathlib.Core.Option.{none}
use Rattle.atomic_table.specs.Table.{step}
use Rattle.gomp_slots.specs.Words.{gate_at}
use Rattle.gomp_slots.specs.Plays.{AskStep}
use Rattle.gomp_gate.specs.Gates.{cancelled_of}
use Rattle.gomp_slots.specs.Calls.{AsksShareCancelled}
use Rattle.gomp_slots.proofs.WordSteps.{at_word}
use Rattle.gomp_slots.proofs.LeaveSteps.{decoded_bit, ask_allowed}
use Rattle.gomp_slots.proofs.leaving.ask_cancelled.Goals as goal

pub load-found-requires : goal.load-found-requires
load-found-requires g c = (c.requires.seat, search rules, at_word _ _ _ _ _ _ (λ n. n) (AskStep g.C.Chosen.members g.C.Chosen.share (step c.args.slots.now.table.shared.table_id.slots c.gate_index-gate.result 0 0 none) c.args.seat.now.me) (c.gate_index-gate.ensures.word ∙ ap gate_at c.requires.chosen.0) (ask_allowed _ _ _ _ _ c.args.seat.now.me _ (step c.args.slots.now.table.shared.table_id.slots c.gate_index-gate.result 0 0 none) c.requires.chosen.1 c.requires.inside))

pub returns-clause-answer : goal.returns-clause-answer
returns-clause-answer g c = subst (λ (b : Bool). AsksShareCancelled g.C.Chosen.members g.C.Chosen.share c.args.seat.now.me.0 b c.load-found.new.seat.me.0) (sym (decoded_bit c.decode.result.cancelled (cancelled_of c.load-found.result) c.decode.ensures.cancelled)) c.load-found.ensures.2.0
