use Rattle.std.proofs.Common.{rules, ◌<◌, ◌≡◌, ℕ, ◌+◌, ap, sym, ◌∙◌, refl, arith}
use mathlib.Core.Option.{none}
use Rattle.atomic_table.specs.Table.{step}
use Rattle.gomp_slots.specs.Words.{gate_at}
use Rattle.gomp_slots.proofs.OpenSteps.{compare_allowed}
use Rattle.gomp_slots.proofs.opening.compare_word.Goals as goal

pub load-requires : goal.load-requires
load-requires c = (c.requires.seat, search rules, compare_allowed _ _ _ _ c.args.seat.now.me _ c.args.shape.now (step c.args.slots.now.table.shared.table_id.slots (c.gate_index-gate.result + 1 + c.args.place) 0 0 none) refl c.requires.storing.0 (let p : c.args.place < 5 = c.requires.place in let e : c.args.seat.now.me.0.stored ≡ c.args.place = c.requires.storing.2 in omega arith) (ap (λ (n : ℕ). n + 1 + c.args.place) (c.gate_index-gate.ensures.word ∙ ap gate_at (sym c.requires.storing.1)) ∙ ap (λ (n : ℕ). gate_at c.args.seat.now.me.0.share + 1 + n) (sym c.requires.storing.2)))

pub returns-clause-compared : goal.returns-clause-compared
returns-clause-compared c = c.load.ensures.2.0 c.args.shape.now c.requires.storing.0
