use Rattle.std.proofs.Common.{rules, ℕ, ◌+◌, ap, sym, subst, ◌∙◌}
use Rattle.std.specs.Prelude.{◌==◌}
use prog.Atomic.{either}
use mathlib.Core.Option.{none}
use Rattle.atomic_table.specs.Table.{step, Allows}
use Rattle.gomp_events.specs.declared.event.Event.TheVariants.{HandOn}
use Rattle.gomp_slots.specs.Words.{gate_at}
use Rattle.gomp_slots.specs.Rule.{IsKept}
use Rattle.gomp_slots.specs.Calls.{TriesTurn}
use Rattle.gomp_slots.specs.Plays.{HandOnStep}
use Rattle.gomp_slots.proofs.WordSteps.{at_word}
use Rattle.gomp_slots.proofs.TurnSteps.{hand_on_allowed}
use Rattle.gomp_slots.proofs.turns.hand_on.Goals as goal

pub compare_exchange-requires : goal.compare_exchange-requires
compare_exchange-requires g c = (c.requires.seat, search rules, at_word _ _ _ _ _ _ (λ n. either (n == c.args.piece) (c.args.piece + 1) n) (HandOnStep g.C.Chosen.members g.C.Chosen.member g.C.Chosen.share g.C.Chosen.piece (step c.args.slots.now.table.shared.table_id.slots (c.gate_index-gate.result + 5) c.args.piece (c.args.piece + 1) none) c.args.seat.now.me) (ap (λ (n : ℕ). n + 5) (c.gate_index-gate.ensures.word ∙ ap gate_at c.requires.chosen.0)) (subst (λ (p : ℕ). Allows (IsKept c.args.slots.now.table.shared.key) c.args.slots.now.table.shared.table_id.slots c.args.seat.now.id c.args.seat.now.me (gate_at g.C.Chosen.share + 5) (λ n. either (n == p) (p + 1) n) (HandOnStep g.C.Chosen.members g.C.Chosen.member g.C.Chosen.share g.C.Chosen.piece (step c.args.slots.now.table.shared.table_id.slots (c.gate_index-gate.result + 5) c.args.piece (c.args.piece + 1) none) c.args.seat.now.me)) (sym c.requires.piece.0) (hand_on_allowed _ _ _ _ _ _ c.args.seat.now.me _ (step c.args.slots.now.table.shared.table_id.slots (c.gate_index-gate.result + 5) c.args.piece (c.args.piece + 1) none) c.requires.chosen.1 c.requires.holds c.requires.may)))

pub returns-clause-turn : goal.returns-clause-turn
returns-clause-turn g c = subst (λ (p : ℕ). TriesTurn g.C.Chosen.members g.C.Chosen.member (HandOn g.C.Chosen.share g.C.Chosen.member g.C.Chosen.piece) c.args.seat.now.me.0 (c.compare_exchange.result == p) c.compare_exchange.new.seat.me.0) (sym c.requires.piece.0) c.compare_exchange.ensures.2.0
