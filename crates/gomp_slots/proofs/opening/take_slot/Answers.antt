use Rattle.std.proofs.Common.{rules, ℕ, ap, sym, subst, ◌∙◌, refl}
use Rattle.std.specs.Prelude.{◌==◌}
use prog.Atomic.{either}
use mathlib.Core.Option.{some}
use Rattle.atomic_table.specs.Table.{step, Allows}
use Rattle.gomp_gate.specs.Gates.{opening_word}
use Rattle.gomp_slots.specs.Words.{gate_at}
use Rattle.gomp_slots.specs.Rule.{IsKept}
use Rattle.gomp_slots.specs.Plays.{TakeSlotStep}
use Rattle.gomp_slots.proofs.WordSteps.{at_word}
use Rattle.gomp_slots.proofs.OpenSteps.{take_slot_allowed}
use Rattle.gomp_slots.proofs.opening.take_slot.Goals as goal

pub compare_exchange_with-requires : goal.compare_exchange_with-requires
compare_exchange_with-requires g c = (c.requires.seat, search rules, at_word _ _ _ _ _ _ (λ n. either (n == c.args.word) c.opening-new.result n) (TakeSlotStep g.C.Chosen.members g.C.Chosen.share (step c.args.slots.now.table.shared.table_id.slots c.gate_index-gate.result c.args.word c.opening-new.result (some c.args.shape.now)) c.args.seat.now.me) (c.gate_index-gate.ensures.word ∙ ap gate_at c.requires.chosen.0) (subst (λ (p : ℕ). Allows (IsKept c.args.slots.now.table.shared.key) c.args.slots.now.table.shared.table_id.slots c.args.seat.now.id c.args.seat.now.me (gate_at g.C.Chosen.share) (λ n. either (n == c.args.word) p n) (TakeSlotStep g.C.Chosen.members g.C.Chosen.share (step c.args.slots.now.table.shared.table_id.slots c.gate_index-gate.result c.args.word c.opening-new.result (some c.args.shape.now)) c.args.seat.now.me)) (sym (c.opening-new.ensures.word ∙ ap opening_word c.requires.chosen.0)) (take_slot_allowed _ _ _ _ _ _ c.args.seat.now.me _ c.args.shape.now c.requires.chosen.1 c.requires.next c.requires.idle c.requires.free)))

pub returns-clause-tried : goal.returns-clause-tried
returns-clause-tried g c = c.compare_exchange_with.ensures.2.0 c.args.shape.now refl
