-- When an event may happen in a team, given the events before it: the rules of the shares, of arrivals, of tasks and of names, and what a team asks besides. (own)
use Rattle.std.specs.Prelude.{ℕ, ◌<◌, ◌≡◌, true, false, is_some, List, Some, None}
use Rattle.gomp_types.specs.declared.shape.Shape.{Shape}
use Rattle.gomp_events.specs.declared.event.Tag.{Tag}
use Rattle.gomp_events.specs.declared.event.Event.{Event}
use Rattle.gomp_events.specs.declared.event.Event.TheVariants.{Take, Drained, End, Put, Got, Arrive, Pass, Create, Start, Done, Group, GroupEnd, Waited, Hold, Free, Cancel, Discard, See}
use Rattle.gomp_types.specs.Shapes.{is_copy}
use Rattle.gomp_events.specs.Events.{shares_entered, open_share, last_piece, holds_piece, payload_at, has_piece, has_words, arrival}
use Rattle.gomp_types.specs.Deals.{schedule}
use Rattle.gomp_events.specs.Arrivals.{MayArrive, MayPass}
use Rattle.gomp_events.specs.Tasks.{in_task}
use Rattle.gomp_events.specs.TaskRules.{MayCreate, MayStart, MayEnd, MayDiscard, MayOpenGroup, MayEndGroup, MayEndTaskwait}
use Rattle.gomp_types.specs.declared.cancel.CancelKind.{CancelKind}
use Rattle.gomp_types.specs.declared.cancel.Scope.{Scope}
use Rattle.gomp_events.specs.Cancels.{leaves_region}
use Rattle.gomp_events.specs.CancelRules.{MayCancel, MaySee}
use Rattle.gomp_types.specs.declared.key.Key.{Key}
use Rattle.gomp_types.specs.declared.task.Task.{Task}
use Rattle.gomp_shares.specs.Rules.{HasNone, MayTake, MayLeaveShare, ShareRule}
use Rattle.gomp_locks.specs.HoldRules.{MayHold, MayFree}
use Rattle.gomp_locks.specs.NameRules.{NameRule}

-- the executor of a single puts its words, once
pub record MayPut (share m : ℕ) (earlier : List Event) : Type 0 where
  pub shape : Shape
  pub inside : open_share m earlier ≡ Some (share, shape)
  pub copies : is_copy shape.kind ≡ true
  pub executor : is_some (last_piece m earlier) ≡ true
  pub once : payload_at share earlier ≡ None

-- a member of a single that did not take its piece is given the words that were put
pub record MayGet (share m : ℕ) (payload : List ℕ) (earlier : List Event) : Type 0 where
  pub shape : Shape
  pub inside : open_share m earlier ≡ Some (share, shape)
  pub other : has_piece share m earlier ≡ false
  pub words : payload_at share earlier ≡ Some payload

-- in a team a member takes a piece of an ordered loop only if it has handed on the one before
pub record MayTakeIn (members share m low high : ℕ) (earlier : List Event) : Type 0 where
  pub takes : MayTake (schedule members) share m low high earlier
  pub handed_on : takes.shape.ordered ≡ true → holds_piece m earlier ≡ false

-- and it is answered that nothing is left of such a loop only if it has handed on its last piece
pub record HasNoneIn (members share m : ℕ) (earlier : List Event) : Type 0 where
  pub done : HasNone (schedule members) share m earlier
  pub handed_on : done.shape.ordered ≡ true → holds_piece m earlier ≡ false

-- it leaves a share if nothing is left for it, or if it has seen that the share is cancelled, a single with words only if it has them, and an ordered loop only if it has handed its last piece on
pub record MayLeaveIn (members share m : ℕ) (earlier : List Event) : Type 0 where
  pub done : MayLeaveShare (schedule members) share m earlier
  pub words : is_copy done.shape.kind ≡ true → has_words share m earlier ≡ true
  pub handed_on : done.shape.ordered ≡ true → holds_piece m earlier ≡ false

-- in a team a member of it arrives, outside of every share, task and critical name and once at each barrier, and tells how many shares it has entered; one that leaves a cancelled region arrives at its end from wherever it is among shares and barriers
pub record MayArriveIn (members barrier m : ℕ) (tag : Tag) (earlier : List Event) : Type 0 where
  pub arrives : MayArrive barrier m tag earlier
  pub member : m < members
  pub outside : leaves_region m earlier ≡ false → open_share m earlier ≡ None
  pub once : leaves_region m earlier ≡ false → arrival barrier m earlier ≡ None
  pub shares : tag.shares ≡ shares_entered m earlier
  pub names : NameRule (Arrive barrier m tag) earlier

-- and a member of it passes, outside of every task
pub record MayPassIn (members barrier m : ℕ) (earlier : List Event) : Type 0 where
  pub passes : MayPass members barrier m earlier
  pub member : m < members
  pub outside : in_task m earlier ≡ false

-- a task of a member of it holds what it may hold, unless its member waits at a barrier
pub record MayHoldIn (members : ℕ) (key : Key) (m : ℕ) (task : Task) (earlier : List Event) : Type 0 where
  pub holds : MayHold key m task earlier
  pub member : m < members
  pub names : NameRule (Hold key m task) earlier

-- a member of it ends its task, which holds no critical name
pub record MayEndIn (members t m : ℕ) (earlier : List Event) : Type 0 where
  pub ends : MayEnd members t m earlier
  pub names : NameRule (Done t m) earlier

-- a member of it cancels what a construct names there, a share only as the shares let it
pub record MayCancelIn (members m : ℕ) (scope : Scope) (earlier : List Event) : Type 0 where
  pub cancels : MayCancel members m scope earlier
  pub share : ShareRule (schedule members) members (Cancel m scope) earlier

-- and sees that what it names is cancelled
pub record MaySeeIn (members m : ℕ) (kind : CancelKind) (earlier : List Event) : Type 0 where
  pub sees : MaySee members m kind earlier
  pub share : ShareRule (schedule members) members (See m kind) earlier

-- the rule of a team
abbrev pub TeamRule : ℕ → Event → List Event → Type 0
TeamRule members (Take share m low high) earlier = MayTakeIn members share m low high earlier
TeamRule members (Drained share m) earlier = HasNoneIn members share m earlier
TeamRule members (End share m) earlier = MayLeaveIn members share m earlier
TeamRule members (Arrive barrier m tag) earlier = MayArriveIn members barrier m tag earlier
TeamRule members (Pass barrier m) earlier = MayPassIn members barrier m earlier
TeamRule members (Hold key m task) earlier = MayHoldIn members key m task earlier
TeamRule members (Free key m task) earlier = MayFree key m task earlier
TeamRule members (Create t m parent desc) earlier = MayCreate members t m parent earlier
TeamRule members (Start t m) earlier = MayStart members t m earlier
TeamRule members (Done t m) earlier = MayEndIn members t m earlier
TeamRule members (Discard t m) earlier = MayDiscard members t m earlier
TeamRule members (Cancel m scope) earlier = MayCancelIn members m scope earlier
TeamRule members (See m kind) earlier = MaySeeIn members m kind earlier
TeamRule members (Group q m) earlier = MayOpenGroup members q m earlier
TeamRule members (GroupEnd q m) earlier = MayEndGroup members q m earlier
TeamRule members (Waited m items) earlier = MayEndTaskwait members m items earlier
TeamRule members (Put share m payload) earlier = MayPut share m earlier
TeamRule members (Got share m payload) earlier = MayGet share m payload earlier
TeamRule members event earlier = ShareRule (schedule members) members event earlier
