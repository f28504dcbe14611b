use Rattle.std.proofs.Common.{rules, ℕ, ◌+◌, ap, sym, ◌∙◌, refl}
use mathlib.Core.Option.{none}
use Rattle.atomic_table.specs.Table.{step}
use Rattle.gomp_slots.specs.Words.{gate_at}
use Rattle.gomp_slots.proofs.EnterSteps.{read_allowed}
use Rattle.gomp_slots.proofs.opening.read_word.Goals as goal

pub load-requires : goal.load-requires
load-requires g c = (c.requires.seat, search rules, read_allowed _ _ _ _ _ _ c.args.seat.now.me _ c.requires.looks.0 (step c.args.slots.now.table.shared.table_id.slots (c.gate_index-gate.result + 1 + c.args.place) 0 0 none) refl c.requires.chosen.1 c.requires.next c.requires.looks.1 c.requires.looks.2 (c.requires.told _ c.requires.looks.1))

pub returns-clause-word : goal.returns-clause-word
returns-clause-word g c = λ shape is. c.load.ensures.2.1 shape c.args.place is (ap (λ (n : ℕ). n + 1 + c.args.place) (c.gate_index-gate.ensures.word ∙ ap gate_at (c.requires.chosen.0 ∙ sym c.requires.looks.2))) c.requires.place
