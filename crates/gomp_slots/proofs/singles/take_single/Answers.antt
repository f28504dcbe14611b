use Rattle.std.proofs.Common.{rules, ℕ, ap, sym, subst, ◌∙◌}
use Rattle.std.specs.Prelude.{◌==◌}
use prog.Atomic.{either}
use mathlib.Core.Option.{none}
use Rattle.atomic_table.specs.Table.{step, Allows}
use Rattle.gomp_gate.specs.Gates.{passed_word}
use Rattle.gomp_slots.specs.Words.{gate_at}
use Rattle.gomp_slots.specs.Rule.{IsKept}
use Rattle.gomp_slots.specs.Plays.{TakeSingleStep}
use Rattle.gomp_slots.proofs.WordSteps.{at_word}
use Rattle.gomp_slots.proofs.SingleSteps.{take_single_allowed}
use Rattle.gomp_slots.proofs.singles.take_single.Goals as goal

pub compare_exchange-requires : goal.compare_exchange-requires
compare_exchange-requires g c = (c.requires.seat, search rules, at_word _ _ _ _ _ _ (λ n. either (n == c.args.word) c.passed-new.result n) (TakeSingleStep g.C.Chosen.members g.C.Chosen.member g.C.Chosen.share (step c.args.slots.now.table.shared.table_id.slots c.gate_index-gate.result c.args.word c.passed-new.result none) c.args.seat.now.me) (c.gate_index-gate.ensures.word ∙ ap gate_at c.requires.chosen.0) (subst (λ (p : ℕ). Allows (IsKept c.args.slots.now.table.shared.key) c.args.slots.now.table.shared.table_id.slots c.args.seat.now.id c.args.seat.now.me (gate_at g.C.Chosen.share) (λ n. either (n == c.args.word) p n) (TakeSingleStep g.C.Chosen.members g.C.Chosen.member g.C.Chosen.share (step c.args.slots.now.table.shared.table_id.slots c.gate_index-gate.result c.args.word c.passed-new.result none) c.args.seat.now.me)) (sym (c.passed-new.ensures.word ∙ ap passed_word c.requires.chosen.0)) (take_single_allowed _ _ _ _ _ _ c.args.seat.now.me _ c.requires.chosen.1 c.requires.next c.requires.idle c.requires.free c.requires.may)))
