use Rattle.std.proofs.Common.{rules, ℕ, ◌+◌, ap, sym, subst, ◌∙◌}
use Rattle.std.specs.Prelude.{◌==◌}
use mathlib.Core.Option.{none}
use Rattle.atomic_table.specs.Table.{step}
use Rattle.gomp_events.specs.declared.event.Event.TheVariants.{Part}
use Rattle.gomp_slots.specs.Words.{gate_at}
use Rattle.gomp_slots.specs.Calls.{TriesTurn}
use Rattle.gomp_slots.specs.Plays.{BeginStep}
use Rattle.gomp_slots.proofs.WordSteps.{at_word}
use Rattle.gomp_slots.proofs.TurnSteps.{begin_part_allowed}
use Rattle.gomp_slots.proofs.turns.begin_part.Goals as goal

pub load-requires : goal.load-requires
load-requires g c = (c.requires.seat, search rules, at_word _ _ _ _ _ _ (λ n. n) (BeginStep g.C.Chosen.members g.C.Chosen.member g.C.Chosen.share g.C.Chosen.piece g.C.Chosen.iteration (step c.args.slots.now.table.shared.table_id.slots (c.gate_index-gate.result + 5) 0 0 none) c.args.seat.now.me) (ap (λ (n : ℕ). n + 5) (c.gate_index-gate.ensures.word ∙ ap gate_at c.requires.chosen.0)) (begin_part_allowed _ _ _ _ _ _ _ c.args.seat.now.me _ (step c.args.slots.now.table.shared.table_id.slots (c.gate_index-gate.result + 5) 0 0 none) c.requires.chosen.1 c.requires.holds c.requires.may))

pub returns-clause-turn : goal.returns-clause-turn
returns-clause-turn g c = subst (λ (p : ℕ). TriesTurn g.C.Chosen.members g.C.Chosen.member (Part g.C.Chosen.share g.C.Chosen.member g.C.Chosen.iteration) c.args.seat.now.me.0 (c.load.result == p) c.load.new.seat.me.0) (sym c.requires.part.0) c.load.ensures.2.0
