-- The replies to calls on names and locks, of every record whose replies have their causes.
use Rattle.std.proofs.Common.{◌≡◌, ◌∙◌, ℕ, ◌<◌, List, [], ◌∷◌, Some, refl, sym, ap, arith}
use Rattle.gomp_types.specs.declared.call.Step.{Step}
use Rattle.gomp_events.specs.declared.event.Event.{Event}
use Rattle.gomp_events.specs.declared.event.Event.TheVariants.{Hold, Free}
use Rattle.gomp_types.specs.declared.key.Key.{Key}
use Rattle.gomp_types.specs.declared.lock.Held.{Held}
use Rattle.gomp_types.specs.declared.reply.Reply.{Reply}
use Rattle.gomp_types.specs.declared.reply.Reply.TheVariants.{Wait, Count}
use Rattle.gomp_events.specs.Laws.{Always}
use Rattle.gomp_locks.specs.Locks.{times_held}
use Rattle.gomp_locks.specs.Book.{held_by}
use Rattle.gomp_locks.specs.Holders.{asker, holder}
use Rattle.gomp_locks.specs.HoldRules.{HoldRule}
use Rattle.gomp_locks.specs.HoldLaws.{holds_left}
use Rattle.gomp_locks.proofs.HoldsKeep.{holds_left_is_count, held_at_least_once}
use Rattle.gomp_model.specs.Past.{Terms, Past}
use Rattle.gomp_model.specs.Row.{begun_past}
use Rattle.gomp_types.specs.Resumes.{call_meant, is_resume}
use Rattle.gomp_locks.proofs.AnswerRefutations.{own_holder}
use Rattle.gomp_model.specs.Team.{Record, row_at, MayAnswer, past_after, past_of, Caused}
use Rattle.gomp_laws.specs.Replies.{EachReply, WaitsForAnother, TellsHolds, HoldReplies}
use Rattle.gomp_laws.proofs.Sound.{Gives, gives_of}
use Rattle.gomp_laws.proofs.CallsKeep.{OwnKeeps, since_keeps}
use Rattle.gomp_laws.proofs.Calls.{row_is_sound}
use Rattle.gomp_laws.proofs.TeamShares.{hold_rules}
use Rattle.gomp_laws.proofs.Known.{Known, known_of, known_after, unrefused_step_is_admitted}

-- a call that has only begun holds and frees nothing
holder_stays : (can : Gives) (m : ℕ) (key : Key) (h : List Event) → OwnKeeps can m (λ now. holder key now ≡ holder key h)
holder_stays can m key h (Hold other n task) now own same = absurd own
holder_stays can m key h (Free other n task) now own same = absurd own
holder_stays can m key h _ now own same = same

-- who holds it does so at least once
holds_left_of_holder : (key : Key) (held : Held) (h : List Event) → Always HoldRule h → holder key h ≡ Some held → 0 < holds_left held.owner key h
holds_left_of_holder key held h all is =
    let once = held_at_least_once key held h all is in
    let same : holds_left held.owner key h ≡ held.count = holds_left_is_count held.owner key h all ∙ ap (times_held held.owner) is ∙ (rw (own_holder held.owner) refl) in
    omega (arith, same, once)

waits_for_another : (p : Past) (step : Step) (reply : Reply) → MayAnswer p step reply → Known p → WaitsForAnother p step reply
waits_for_another p step Wait may known = λ key is.
    let row = row_at p step in
    let repeated = is_resume step.call in
    let sound = row_is_sound (call_meant step.call (p.waits step.member).open_call) in
    let found = sound.waits_for key step.member (begun_past repeated row step.member p) is may.1 in
    let before = since_keeps row sound repeated step.member p (λ now. holder key now ≡ holder key p.events) (holder_stays (gives_of row) step.member key p.events) refl in
    let held : holder key p.events ≡ Some found.0 = sym before ∙ found.1 in
    let apart = ((sound.lasts repeated step.member p (unrefused_step_is_admitted p step may.0 known) known.rule may.1).1 key is).0 in (
      found.0.owner,
      holds_left_of_holder key found.0 p.events (hold_rules p.terms.members p.events known.rule) held,
      ap (held_by (asker step.member p.events)) (sym held) ∙ apart,
    )
waits_for_another p step _ may known = tt

tells_holds : (p : Past) (step : Step) (reply : Reply) → MayAnswer p step reply → Known p → TellsHolds p step reply
tells_holds p step (Count count) may known = λ key is.
    let repeated = is_resume step.call in
    let sound = row_is_sound (call_meant step.call (p.waits step.member).open_call) in
    let after = past_after p step (Count count) in
    let counted = sound.tells_count key repeated step.member count p is (unrefused_step_is_admitted p step may.0 known) known.rule may.1 in
    counted ∙ sym (holds_left_is_count (asker step.member p.events) key after.events (hold_rules p.terms.members after.events (known_after p step (Count count) may known).rule))
tells_holds p step _ may known = tt

-- what every answered step keeps is kept by each reply of a record
pub each_reply : (terms : Terms) (Law : Past → Step → Reply → Type 0) → ((p : Past) (step : Step) (reply : Reply) → MayAnswer p step reply → Known p → Law p step reply) → (run : Record) → Caused terms run → EachReply terms Law run
each_reply terms Law law [] caused = tt
each_reply terms Law law (pair ∷ earlier) caused = (law (past_of terms earlier) pair.0 pair.1 caused.0 (known_of terms earlier caused.1), each_reply terms Law law earlier caused.1)

pub hold_replies : (terms : Terms) (run : Record) → Caused terms run → HoldReplies terms run
hold_replies terms run caused = record {
  waits = each_reply terms WaitsForAnother waits_for_another run caused;
  counts = each_reply terms TellsHolds tells_holds run caused;
}
