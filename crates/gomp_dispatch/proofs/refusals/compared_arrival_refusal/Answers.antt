use Rattle.std.proofs.Common.{◌∙◌, sym}
use Rattle.gomp_events.specs.Cancels.{is_cancelled}
use Rattle.gomp_dispatch.proofs.Refused.{arrival_refused, arrival_agrees, arrival_uncompared}
use Rattle.gomp_dispatch.proofs.refusals.compared_arrival_refusal.Goals as goal

pub returns-then-is_cancelled : goal.returns-then-is_cancelled
returns-then-is_cancelled g c = record { compared = λ h both. rw c.if-repeated.false (arrival_uncompared (is_cancelled h) _ (sym (c.is_cancelled.ensures.value h both.1) ∙ c.if-is_cancelled.true)) }

pub returns-then-arrival_differs : goal.returns-then-arrival_differs
returns-then-arrival_differs g c = record {
  compared = λ h both.
      rw c.if-repeated.false (arrival_refused (is_cancelled h) _ (sym (c.is_cancelled.ensures.value h both.1) ∙ c.if-is_cancelled.false) (sym (c.arrival_differs.ensures.compared h both) ∙ c.if-arrival_differs.true));
}

pub returns : goal.returns
returns g c = record { compared = λ h both. rw c.if-repeated.false (arrival_agrees (is_cancelled h) _ (sym (c.arrival_differs.ensures.compared h both) ∙ c.if-arrival_differs.false)) }
