-- Cancelled loops and sections: what the cancel and cancellation point constructs that name them are tested for, answered and give. OpenMP API 5.2, sections 16.1 and 16.2.
use Rattle.std.specs.Prelude.{ℕ, ◌<◌, ◌≡◌, not, Bool, List, [], ◌∷◌, ◌++◌, None}
use Rattle.gomp_types.specs.declared.call.Server.TheVariants.{Shares}
use Rattle.gomp_types.specs.declared.cancel.CancelKind.{CancelKind}
use Rattle.gomp_types.specs.declared.cancel.CancelKind.TheVariants.{Loop, Sections}
use Rattle.gomp_types.specs.declared.refusal.Refusal.TheVariants.{OutsideShare, NotCancellable}
use Rattle.gomp_types.specs.declared.reply.Reply.{Reply}
use Rattle.gomp_events.specs.declared.seen.Seen.{Seen}
use Rattle.gomp_events.specs.declared.event.Event.{Event}
use Rattle.gomp_types.specs.Tests.{Test}
use Rattle.gomp_types.specs.Least.{least}
use Rattle.gomp_types.specs.Servers.{kind_served_by}
use Rattle.gomp_types.specs.Shapes.{is_loop, is_sections}
use Rattle.gomp_events.specs.Events.{in_kind}
use Rattle.gomp_events.specs.Cancels.{may_be_cancelled}
use Rattle.gomp_events.specs.CancelCalls.{TellsCancelled, tells_cancelled}

-- the tests of a construct that names the member's share: it is in one of that kind, which may be cancelled
abbrev pub cancel_place_tests : CancelKind → Seen → List Test
cancel_place_tests Loop seen = (not (in_kind is_loop seen.current), OutsideShare) ∷ (not (may_be_cancelled seen.current), NotCancellable) ∷ []
cancel_place_tests Sections seen = (not (in_kind is_sections seen.current), OutsideShare) ∷ (not (may_be_cancelled seen.current), NotCancellable) ∷ []
cancel_place_tests _ seen = []

-- a member whose own tests let its construct cancel the share that it is in, or ask whether it is cancelled
pub record CanName (members m : ℕ) (kind : CancelKind) (seen : Seen) : Type 0 where
  pub member : m < members
  -- the kind names a share
  pub share : kind_served_by kind ≡ Shares
  pub place : least (cancel_place_tests kind seen) ≡ None

-- the answer to the construct, in a team that allows cancellation or not
abbrev pub AnswersCancel : Bool → CancelKind → Bool → ℕ → Reply → List Event → Type 0
AnswersCancel allowed kind clause m reply h = TellsCancelled allowed kind clause m h reply

-- the events after it
abbrev pub share_cancelled_by : CancelKind → Bool → ℕ → Reply → List Event → List Event
share_cancelled_by kind clause m reply h = tells_cancelled kind clause m h reply ++ h
