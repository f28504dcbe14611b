use Rattle.std.proofs.Common.{rules, Bool, ap, sym, subst, ◌∙◌}
use mathlib.Core.Option.{none}
use Rattle.atomic_table.specs.Table.{step}
use Rattle.gomp_slots.specs.Words.{gate_at}
use Rattle.gomp_slots.specs.Plays.{SeeStep}
use Rattle.gomp_gate.specs.Gates.{cancelled_of}
use Rattle.gomp_slots.specs.Calls.{SeesShareCancelled}
use Rattle.gomp_slots.proofs.WordSteps.{at_word}
use Rattle.gomp_slots.proofs.LeaveSteps.{decoded_bit, see_allowed}
use Rattle.gomp_slots.proofs.leaving.see_cancelled.Goals as goal

pub load-word-requires : goal.load-word-requires
load-word-requires g c = (c.requires.seat, search rules, at_word _ _ _ _ _ _ (λ n. n) (SeeStep g.C.Chosen.members g.C.Chosen.member g.C.Chosen.share (step c.args.slots.now.table.shared.table_id.slots c.gate_index-gate.result 0 0 none) c.args.seat.now.me) (c.gate_index-gate.ensures.word ∙ ap gate_at c.requires.chosen.0) (see_allowed _ _ _ _ _ c.args.seat.now.me _ (step c.args.slots.now.table.shared.table_id.slots c.gate_index-gate.result 0 0 none) c.requires.chosen.1 c.requires.inside c.requires.may))

pub returns-clause-seen : goal.returns-clause-seen
returns-clause-seen g c = subst (λ (b : Bool). SeesShareCancelled g.C.Chosen.members g.C.Chosen.member g.C.Chosen.share c.args.seat.now.me.0 b c.load-word.new.seat.me.0) (sym (decoded_bit c.decode.result.cancelled (cancelled_of c.load-word.result) c.decode.ensures.cancelled)) c.load-word.ensures.2.0
