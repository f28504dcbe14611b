use Rattle.std.proofs.Common.{refl, reverse, ◌∙◌}
use Rattle.gomp_events.specs.declared.event.Event.TheVariants.{Discard}
use Rattle.gomp_events.proofs.Suspended.{unstarted_is_fresh}
use Rattle.gomp_board.proofs.StoredKeeps.{stored_with, kept_items}
use Rattle.gomp_board.proofs.cancels.discard_task.Goals as goal

pub desc-requires : goal.desc-requires
desc-requires c = record { created = (unstarted_is_fresh c.args.task (reverse c.args.history.now.events) c.requires.may.unstarted).0 }

pub discard-requires : goal.discard-requires
discard-requires c =
    let own = reverse c.args.history.now.events in let parts = c.requires.own in
    record { member = c.requires.member; may = (own, c.args.member, parts.scheduler, c.requires.may, c.as_slice.ensures ∙ kept_items c.args.task c.desc.result.now own own parts.history c.desc.ensures.value) }

pub returns-clause-stands : goal.returns-clause-stands
returns-clause-stands c = λ h parts may. record {
  scheduler = c.discard.ensures.stands h c.args.member parts.scheduler may (c.as_slice.ensures ∙ kept_items c.args.task c.desc.result.now h (reverse c.args.history.now.events) parts.history c.desc.ensures.value);
  history = stored_with c.args.history.now.events _ (Discard c.args.task c.args.member) h refl c.push.ensures.events parts.history;
}
