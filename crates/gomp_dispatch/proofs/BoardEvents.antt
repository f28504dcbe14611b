-- What an operation on the board gives changes nothing for the shares, and no member's share.
use Rattle.std.proofs.Common.{◌≡◌, ℕ, Bool, true, false, List, [], ◌∷◌, ◌++◌, Option, Some, None, zero, suc, refl, ◌∙◌}
use Rattle.std.specs.Prelude.{◌&&◌, not, if◌then◌else◌}
use Rattle.gomp_types.specs.declared.cancel.Scope.{Scope}
use Rattle.gomp_types.specs.declared.cancel.Scope.TheVariants.{Region, OneShare, OneGroup}
use Rattle.gomp_types.specs.declared.depend.Dep.{Dep}
use Rattle.gomp_events.specs.declared.event.Event.{Event}
use Rattle.gomp_events.specs.declared.event.Event.TheVariants.{Enter, End, Put, Arrive, Cancel, Discard}
use Rattle.gomp_types.specs.declared.refusal.Place.{Place}
use Rattle.gomp_types.specs.declared.reply.Reply.{Reply}
use Rattle.gomp_types.specs.declared.reply.Reply.TheVariants.{Finished, Passed, Run, TaskDone, Stopped, Cancelling}
use Rattle.gomp_events.specs.Events.{open_share, barriers_passed, is_region_end}
use Rattle.gomp_events.specs.Laws.{Always}
use Rattle.gomp_events.specs.Tasks.{executed_task}
use Rattle.gomp_events.specs.Groups.{open_groups}
use Rattle.gomp_events.specs.Goals.{is_unstarted}
use Rattle.gomp_events.specs.Tasks.{tasks_created}
use Rattle.gomp_events.specs.Cancels.{is_cancelled, is_covered, groups_over, first_in, group_scope, scope_of}
use Rattle.gomp_events.specs.CancelCalls.{unless_cancelled, creates_covered, discards_to, cancels, cancels_by}
use Rattle.gomp_events.specs.TaskCalls.{creates, starts_task, ends_task, waited, opens_group, ends_first, ends_group}
use Rattle.gomp_shares.specs.Calls.{IsNoShareEvent as SharesAside}
use Rattle.gomp_board.specs.declared.op.Op.{Op}
use Rattle.gomp_board.specs.declared.op.Op.TheVariants as ops
use Rattle.gomp_board.specs.declared.op.TeamCancel.{TeamCancel}
use Rattle.gomp_board.specs.declared.op.TeamCancel.TheVariants as named
use Rattle.gomp_board.specs.Stored.{IsNotStored as BoardAside, AreAside}
use Rattle.gomp_board.specs.Ops.{named_kind, op_begins, op_gives, passes_barrier, breaks, cancelled_by}
use Rattle.gomp_dispatch.specs.Answers.{PutsInside}

-- an event that the shares do not see, and that puts no words
abbrev pub IsBoardEvent : Event → Type 0
IsBoardEvent (Put share m words) = ⊥
IsBoardEvent event = SharesAside event

-- each of these
abbrev pub AreBoardEvents : List Event → Type 0
AreBoardEvents [] = Unit {0}
AreBoardEvents (event ∷ earlier) = IsBoardEvent event × AreBoardEvents earlier

-- events that neither the shares nor the board see
abbrev pub AreBesideBoth : List Event → Type 0
AreBesideBoth [] = Unit {0}
AreBesideBoth (event ∷ earlier) = SharesAside event × BoardAside event × AreBesideBoth earlier

pub aside_of_both : (event : Event) → SharesAside event → BoardAside event → IsBoardEvent event
aside_of_both (Put share m words) shares board = absurd board
aside_of_both _ shares board = shares

pub beside_both : (events : List Event) → AreBesideBoth events → AreBoardEvents events
beside_both [] are = tt
beside_both (event ∷ events) are = (aside_of_both event are.0 are.1, beside_both events are.2)

pub beside_board : (events : List Event) → AreBesideBoth events → AreAside events
beside_board [] are = tt
beside_board (event ∷ events) are = (are.1, beside_board events are.2)

board_event_beside_shares : (event : Event) → IsBoardEvent event → SharesAside event
board_event_beside_shares (Put share m words) is = absurd is
board_event_beside_shares _ is = is

pub shares_stand_beside : {S : Type 0} (stands : S → List Event → Type 0) (shares : S) → ((h : List Event) (event : Event) → SharesAside event → stands shares h → stands shares (event ∷ h)) →
    (events h : List Event) → AreBoardEvents events → stands shares h → stands shares (events ++ h)
shares_stand_beside stands shares aside [] h are st = st
shares_stand_beside stands shares aside (event ∷ events) h are st = aside (events ++ h) event (board_event_beside_shares event are.0) (shares_stand_beside stands shares aside events h are.1 st)

-- no member's share changes
share_stays : (k : ℕ) (event : Event) (h : List Event) → IsBoardEvent event → open_share k (event ∷ h) ≡ open_share k h
share_stays k (Enter share x shape) h is = absurd is
share_stays k (End share x) h is = absurd is
share_stays k _ h is = refl

pub shares_stay : (k : ℕ) (events h : List Event) → AreBoardEvents events → open_share k (events ++ h) ≡ open_share k h
shares_stay k [] h are = refl
shares_stay k (event ∷ events) h are = share_stays k event (events ++ h) are.0 ∙ shares_stay k events h are.1

puts_beside_board : (event : Event) (h : List Event) → IsBoardEvent event → PutsInside event h
puts_beside_board (Put share m words) h is = absurd is
puts_beside_board _ h is = tt

pub puts_stay_with_board : (events h : List Event) → AreBoardEvents events → Always PutsInside h → Always PutsInside (events ++ h)
puts_stay_with_board [] h are all = all
puts_stay_with_board (event ∷ events) h are all = (puts_beside_board event (events ++ h) are.0, puts_stay_with_board events h are.1 all)

pub board_events_append : (events more : List Event) → AreBoardEvents events → AreBoardEvents more → AreBoardEvents (events ++ more)
board_events_append [] more first rest = rest
board_events_append (event ∷ events) more first rest = (first.0, board_events_append events more first.1 rest)

-- Operations

-- whether an operation puts no words
abbrev pub puts_no_words : Op → Bool
puts_no_words (ops.Put share words) = false
puts_no_words _ = true

unless_cut_on_board : (cut : Bool) (events : List Event) → AreBoardEvents events → AreBoardEvents (unless_cancelled cut events)
unless_cut_on_board true events are = tt
unless_cut_on_board false events are = are

pub begins_on_board : (m : ℕ) (op : Op) (h : List Event) → puts_no_words op ≡ true → AreBoardEvents (op_begins m op h)
begins_on_board m (ops.Put share words) h none = absurd (cc)
begins_on_board m (ops.Create desc) h none = unless_cut_on_board (creates_covered m h) (creates m desc h) (tt, tt)
begins_on_board m (ops.Arrive tag leaving) h none = unless_cut_on_board (is_cancelled h && not (is_region_end tag.kind)) (Arrive (barriers_passed m h) m tag ∷ []) (tt, tt)
begins_on_board m (ops.Got share words) h none = (tt, tt)
begins_on_board m _ h none = tt

task_starts_on_board : (m : ℕ) (reply : Reply) → AreBoardEvents (starts_task m reply)
task_starts_on_board m (Run task code arg own) = (tt, tt)
task_starts_on_board m _ = tt

task_ends_on_board : (m : ℕ) (reply : Reply) → AreBoardEvents (ends_task m reply)
task_ends_on_board m (TaskDone task waiting) = (tt, tt)
task_ends_on_board m _ = tt

waits_on_board : (m : ℕ) (items : List Dep) (reply : Reply) → AreBoardEvents (waited m items reply)
waits_on_board m items Passed = (tt, tt)
waits_on_board m items (Run task code arg own) = (tt, tt)
waits_on_board m items _ = tt

group_opens_on_board : (m : ℕ) (h : List Event) (reply : Reply) → AreBoardEvents (opens_group m h reply)
group_opens_on_board m h Finished = (tt, tt)
group_opens_on_board m h _ = tt

first_ends_on_board : (groups : List ℕ) (m : ℕ) → AreBoardEvents (ends_first groups m)
first_ends_on_board [] m = tt
first_ends_on_board (q ∷ outer) m = (tt, tt)

group_ends_on_board : (m : ℕ) (h : List Event) (reply : Reply) → AreBoardEvents (ends_group m h reply)
group_ends_on_board m h Passed = first_ends_on_board (open_groups (executed_task m h) h) m
group_ends_on_board m h (Run task code arg own) = (tt, tt)
group_ends_on_board m h _ = tt

passes_on_board : (m : ℕ) (h : List Event) (reply : Reply) → AreBoardEvents (passes_barrier m h reply)
passes_on_board m h Passed = (tt, tt)
passes_on_board m h (Run task code arg own) = (tt, tt)
passes_on_board m h _ = tt

breaks_on_board : (m : ℕ) (place : Place) (reply : Reply) → AreBoardEvents (breaks m place reply)
breaks_on_board m place Stopped = (tt, tt)
breaks_on_board m place _ = tt

-- what is cancelled beside a share
abbrev IsOfTeam : Option Scope → Type 0
IsOfTeam (Some (OneShare share)) = ⊥
IsOfTeam _ = Unit {0}

discard_if : (b : Bool) (t m : ℕ) (events : List Event) → AreBoardEvents events → AreBoardEvents (if b then Discard t m ∷ events else events)
discard_if true t m events are = (tt, are)
discard_if false t m events are = are

discards_on_board : (n m : ℕ) (h : List Event) → AreBoardEvents (discards_to n m h)
discards_on_board zero m h = tt
discards_on_board (suc k) m h = discard_if (is_unstarted (suc k) h && is_covered (suc k) h) (suc k) m (discards_to k m h) (discards_on_board k m h)

cancels_on_board : (m : ℕ) (scope : Option Scope) (h : List Event) → IsOfTeam scope → AreBoardEvents (cancels m scope h)
cancels_on_board m None h of = tt
cancels_on_board m (Some Region) h of = board_events_append (discards_to (tasks_created h) m (Cancel m Region ∷ h)) (Cancel m Region ∷ []) (discards_on_board (tasks_created h) m (Cancel m Region ∷ h)) (tt, tt)
cancels_on_board m (Some (OneShare share)) h of = absurd of
cancels_on_board m (Some (OneGroup q)) h of = board_events_append (discards_to (tasks_created h) m (Cancel m (OneGroup q) ∷ h)) (Cancel m (OneGroup q) ∷ []) (discards_on_board (tasks_created h) m (Cancel m (OneGroup q) ∷ h)) (tt, tt)

group_of_team : (group : Option ℕ) → IsOfTeam (group_scope group)
group_of_team None = tt
group_of_team (Some q) = tt

named_of_team : (what : TeamCancel) (m : ℕ) (h : List Event) → IsOfTeam (scope_of (named_kind what) m h)
named_of_team named.Parallel m h = tt
named_of_team named.Taskgroup m h = group_of_team (first_in (groups_over (executed_task m h) h))

cancels_by_on_board : (clause : Bool) (what : TeamCancel) (m : ℕ) (h : List Event) → AreBoardEvents (cancels_by clause (named_kind what) m h)
cancels_by_on_board true what m h = cancels_on_board m (scope_of (named_kind what) m h) h (named_of_team what m h)
cancels_by_on_board false what m h = tt

cancelled_on_board : (clause : Bool) (what : TeamCancel) (m : ℕ) (h : List Event) (reply : Reply) → AreBoardEvents (cancelled_by clause (named_kind what) m h reply)
cancelled_on_board clause what m h (Cancelling true) = cancels_by_on_board clause what m h
cancelled_on_board clause what m h (Cancelling false) = tt
cancelled_on_board clause what m h _ = tt

pub gives_on_board : (m : ℕ) (op : Op) (h : List Event) (reply : Reply) → AreBoardEvents (op_gives m op h reply)
gives_on_board m (ops.Create desc) h reply = task_starts_on_board m reply
gives_on_board m ops.AwaitOwn h reply = task_starts_on_board m reply
gives_on_board m (ops.EndTask leaving) h reply = task_ends_on_board m reply
gives_on_board m (ops.Taskwait items) h reply = waits_on_board m items reply
gives_on_board m (ops.AwaitChildren items) h reply = waits_on_board m items reply
gives_on_board m ops.OpenGroup h reply = group_opens_on_board m h reply
gives_on_board m ops.EndGroup h reply = group_ends_on_board m h reply
gives_on_board m ops.AwaitGroup h reply = group_ends_on_board m h reply
gives_on_board m (ops.Arrive tag leaving) h reply = passes_on_board m h reply
gives_on_board m ops.AwaitBarrier h reply = passes_on_board m h reply
gives_on_board m (ops.Reserve more) h reply = tt
gives_on_board m (ops.Put share words) h reply = tt
gives_on_board m (ops.Got share words) h reply = tt
gives_on_board m (ops.Cancel what clause allowed) h reply = cancelled_on_board clause what m h reply
gives_on_board m (ops.Point what allowed) h reply = tt
gives_on_board m (ops.Break place back) h reply = breaks_on_board m place reply
