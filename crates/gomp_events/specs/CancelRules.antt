-- When something may be cancelled, and a cancellation seen, given the events before. OpenMP API 5.2, chapter 16.
use Rattle.std.specs.Prelude.{ℕ, ◌<◌, ◌≡◌, true, List, Some}
use Rattle.gomp_types.specs.declared.cancel.CancelKind.{CancelKind}
use Rattle.gomp_types.specs.declared.cancel.Scope.{Scope}
use Rattle.gomp_events.specs.declared.event.Event.{Event}
use Rattle.gomp_events.specs.declared.event.Event.TheVariants.{Cancel, See}
use Rattle.gomp_events.specs.Cancels.{scope_of, names_cancelled}

-- a member of the team cancels what a construct of some kind names there
pub record MayCancel (members m : ℕ) (scope : Scope) (earlier : List Event) : Type 0 where
  pub member : m < members
  pub kind : CancelKind
  pub named : scope_of kind m earlier ≡ Some scope

-- a member sees that what it names is cancelled
pub record MaySee (members m : ℕ) (kind : CancelKind) (earlier : List Event) : Type 0 where
  pub member : m < members
  pub cancelled : names_cancelled kind m earlier ≡ true

-- the rule of cancellation alone
abbrev pub CancelRule : ℕ → Event → List Event → Type 0
CancelRule members (Cancel m scope) earlier = MayCancel members m scope earlier
CancelRule members (See m kind) earlier = MaySee members m kind earlier
CancelRule members _ earlier = Unit {0}
