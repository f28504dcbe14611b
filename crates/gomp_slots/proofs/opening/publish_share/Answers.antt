use Rattle.std.specs.Prelude.{if◌then◌else◌}
use Rattle.std.proofs.Common.{rules, ℕ, Bool, ap, sym, subst, ◌∙◌}
use mathlib.Core.Option.{none}
use Rattle.atomic_table.specs.Table.{step, Allows}
use Rattle.gomp_gate.specs.Gates.{open_word, is_bare_single}
use Rattle.gomp_slots.specs.Words.{gate_at}
use Rattle.gomp_slots.specs.Rule.{IsKept}
use Rattle.gomp_slots.specs.Plays.{PublishStep}
use Rattle.gomp_slots.proofs.WordSteps.{at_word}
use Rattle.gomp_slots.proofs.OpenSteps.{publish_allowed}
use Rattle.gomp_slots.proofs.opening.publish_share.Goals as goal

pub store-requires : goal.store-requires
store-requires g c = (c.requires.seat, search rules, at_word _ _ _ _ _ _ (λ _. c.opened-new.result) (λ _. PublishStep g.C.Chosen.members g.C.Chosen.member g.C.Chosen.share (step c.args.slots.now.table.shared.table_id.slots c.gate_index-gate.result c.opened-new.result 0 none) c.args.seat.now.me c.opened-new.result) (c.gate_index-gate.ensures.word ∙ ap gate_at c.requires.chosen.0) (subst (λ (x : ℕ). Allows (IsKept c.args.slots.now.table.shared.key) c.args.slots.now.table.shared.table_id.slots c.args.seat.now.id c.args.seat.now.me (gate_at g.C.Chosen.share) (λ _. x) (λ _. PublishStep g.C.Chosen.members g.C.Chosen.member g.C.Chosen.share (step c.args.slots.now.table.shared.table_id.slots c.gate_index-gate.result c.opened-new.result 0 none) c.args.seat.now.me x)) (sym (c.opened-new.ensures.word ∙ ap (λ (b : Bool). open_word b c.args.share) c.requires.bare ∙ ap (open_word (is_bare_single c.args.shape.now)) c.requires.chosen.0)) (publish_allowed _ _ _ _ _ c.args.seat.now.me _ c.args.shape.now (step c.args.slots.now.table.shared.table_id.slots c.gate_index-gate.result c.opened-new.result 0 none) c.requires.chosen.1 c.requires.next c.requires.storing.0 c.requires.storing.1 (λ told. c.requires.storing.2 ∙ ap (λ (b : Bool). if b then 0 else 5) (c.requires.bare ∙ told)) c.requires.may c.requires.shape)))

pub returns-clause-published : goal.returns-clause-published
returns-clause-published g c = c.store.ensures.2.0 c.args.shape.now c.requires.storing.0
