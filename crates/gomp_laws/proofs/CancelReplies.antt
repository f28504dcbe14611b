-- The replies in a team of which something is cancelled, of every record whose replies have their causes.
use Rattle.std.proofs.Common.{◌≡◌, ℕ, Bool, true, false, List, [], ◌∷◌, ◌++◌, sym, subst, inl, inr}
use Rattle.std.specs.Prelude.{is_some}
use Rattle.std.proofs.lemmas.Bool.{cases_Bool}
use Rattle.gomp_types.specs.declared.call.Step.{Step}
use Rattle.gomp_types.specs.declared.cancel.Scope.{Scope}
use Rattle.gomp_events.specs.declared.event.Event.{Event}
use Rattle.gomp_events.specs.declared.event.Event.TheVariants.{Cancel}
use Rattle.gomp_types.specs.declared.refusal.Refusal.{Refusal}
use Rattle.gomp_types.specs.declared.refusal.Refusal.TheVariants.{Mismatch}
use Rattle.gomp_types.specs.declared.reply.Reply.{Reply}
use Rattle.gomp_types.specs.declared.reply.Reply.TheVariants.{Cancelled, Dropped, Refused}
use Rattle.gomp_events.specs.Cancels.{is_cancelled}
use Rattle.gomp_events.specs.Laws.{Happened}
use Rattle.gomp_types.proofs.Booleans.{not_both}
use Rattle.gomp_model.specs.Past.{Terms, Past}
use Rattle.gomp_model.specs.Row.{Row, begun_past}
use Rattle.gomp_types.specs.Resumes.{call_meant, is_resume}
use Rattle.gomp_model.specs.Team.{Record, row_at, MayAnswer, past_after, past_of, events, Caused}
use Rattle.gomp_laws.specs.Replies.{TellsCancelledRegion, DropsCovered, CancelReplies}
use Rattle.gomp_laws.proofs.Sound.{IsSound, Gives, gives_of}
use Rattle.gomp_laws.proofs.Awaits.{begun_holds}
use Rattle.gomp_laws.proofs.CallsKeep.{OwnKeeps, LastKeeps, since_keeps, step_keeps}
use Rattle.gomp_laws.proofs.Calls.{row_is_sound}
use Rattle.gomp_laws.proofs.Known.{Known, same_terms, unrefused_step_is_admitted}
use Rattle.gomp_laws.proofs.HoldReplies.{each_reply}

-- Cancelled

-- a call that has only begun cancels nothing
cancels_none : (can : Gives) (m : ℕ) (h : List Event) → can.cancels ≡ false → OwnKeeps can m (λ now. is_cancelled now ≡ true → is_cancelled h ≡ true)
cancels_none can m h harmless (Cancel n scope) now own before = absurd (not_both can.cancels own.1 harmless)
cancels_none can m h harmless _ now own before = before

begun_cancels_none : (row : Row) → IsSound row → (repeated : Bool) (m : ℕ) (p : Past) → is_cancelled (begun_past repeated row m p).events ≡ true → is_cancelled p.events ≡ true
begun_cancels_none row sound repeated m p =
    elim (cases_Bool (is_some row.cancels)) [
      | inl cancels ↦ begun_holds (λ now. is_cancelled now ≡ true → is_cancelled p.events ≡ true) repeated (row.begins m p) p.events (λ first. rw ((sound.allowed cancels m p).0) (λ e. e)) (λ e. e)
      | inr harmless ↦ since_keeps row sound repeated m p (λ now. is_cancelled now ≡ true → is_cancelled p.events ≡ true) (cancels_none (gives_of row) m p.events harmless) (λ e. e)
    ]

tells_cancelled_region : (p : Past) (step : Step) (reply : Reply) → MayAnswer p step reply → Known p → TellsCancelledRegion p step reply
tells_cancelled_region p step Cancelled may known =
    let row = row_at p step in
    let repeated = is_resume step.call in
    let sound = row_is_sound (call_meant step.call (p.waits step.member).open_call) in
    begun_cancels_none row sound repeated step.member p (sound.cancelled step.member (begun_past repeated row step.member p) may.1).0
tells_cancelled_region p step _ may known = tt

-- Dropped

drops_covered_task : (p : Past) (step : Step) (reply : Reply) → MayAnswer p step reply → Known p → DropsCovered p step reply
drops_covered_task p step Dropped may known =
    (row_is_sound (call_meant step.call (p.waits step.member).open_call)).dropped (is_resume step.call) step.member p (unrefused_step_is_admitted p step may.0 known) known.rule may.1
drops_covered_task p step _ may known = tt

-- A team that allows no cancellation

-- nothing is cancelled in these events
abbrev NoneCancelled : List Event → Type 0
NoneCancelled h = (m : ℕ) (scope : Scope) → Happened (Cancel m scope) h → ⊥

last_cancels_none : (can : Gives) (m : ℕ) (reply : Reply) → can.cancels ≡ false → LastKeeps can m reply NoneCancelled
last_cancels_none can m reply harmless (Cancel n scope) now by none = absurd (not_both can.cancels by.1 harmless)
last_cancels_none can m reply harmless _ now by none = λ k scope there. elim there [ inl e ↦ absurd (cc) | inr before ↦ none k scope before ]

break_cancels_none : (p : Past) (step : Step) (refusal : Refusal) → NoneCancelled p.events → NoneCancelled (past_after p step (Refused refusal)).events
break_cancels_none p step Mismatch none = λ k scope there. elim there [ inl e ↦ absurd (cc) | inr before ↦ none k scope before ]
break_cancels_none p step _ none = none

-- a call that may cancel something gives no events then
given_cancels_none : (row : Row) → IsSound row → is_some row.cancels ≡ true → (repeated : Bool) (m : ℕ) (p : Past) (reply : Reply) → row.may_reply m (begun_past repeated row m p) reply → p.terms.cancellation ≡ false → NoneCancelled p.events →
    NoneCancelled (row.gives m (begun_past repeated row m p) reply ++ (begun_past repeated row m p).events)
given_cancels_none row sound cancels repeated m p reply may off none =
    let q = begun_past repeated row m p in
    rw ((sound.allowed cancels m q).1 reply may off) (begun_holds NoneCancelled repeated (row.begins m p) p.events (λ first. rw ((sound.allowed cancels m p).0) none) none)

step_cancels_none : (p : Past) (step : Step) (reply : Reply) → MayAnswer p step reply → p.terms.cancellation ≡ false → NoneCancelled p.events → NoneCancelled (past_after p step reply).events
step_cancels_none p step (Refused refusal) may off none = break_cancels_none p step refusal none
step_cancels_none p step reply may off none =
    let row = row_at p step in
    let repeated = is_resume step.call in
    let sound = row_is_sound (call_meant step.call (p.waits step.member).open_call) in
    elim (cases_Bool (is_some row.cancels)) [
      | inl cancels ↦ given_cancels_none row sound cancels repeated step.member p reply may.1 off none
      | inr harmless ↦ step_keeps row sound repeated step.member p reply NoneCancelled (last_cancels_none (gives_of row) step.member reply harmless) none
    ]

none_cancelled_disallowed : (terms : Terms) (run : Record) → Caused terms run → terms.cancellation ≡ false → NoneCancelled (events terms run)
none_cancelled_disallowed terms [] caused off = λ m scope there. there
none_cancelled_disallowed terms (pair ∷ earlier) caused off =
    let p = past_of terms earlier in
    let same : p.terms.cancellation ≡ false = subst (λ (t : Terms). t.cancellation ≡ false) (sym (same_terms terms earlier)) off in
    step_cancels_none p pair.0 pair.1 caused.0 same (none_cancelled_disallowed terms earlier caused.1 off)

pub cancel_replies : (terms : Terms) (run : Record) → Caused terms run → CancelReplies terms run
cancel_replies terms run caused = record {
  cancelled = each_reply terms TellsCancelledRegion tells_cancelled_region run caused;
  dropped = each_reply terms DropsCovered drops_covered_task run caused;
  allowed = λ off. none_cancelled_disallowed terms run caused off;
}
