-- Why what a member knows of itself refuses it a call. (own; OpenMP API 5.2, sections 16.1 and 17.1)
use Rattle.std.specs.Prelude.{◌||◌, ◌&&◌, not, is_some, if◌then◌else◌, Bool, true, false, Option, Some, None}
use Rattle.gomp_types.specs.declared.call.Call.{Call}
use Rattle.gomp_types.specs.declared.call.Call.TheVariants.{Cancel, CriticalEnd, LoopEnd, LoopEndCancel, Point, RegionEnd, Resume, SectionsEnd, SectionsEndCancel, Stop, TaskEnd, Unset, UnsetNest}
use Rattle.gomp_types.specs.declared.refusal.Refusal.{Refusal}
use Rattle.gomp_types.specs.declared.refusal.Refusal.TheVariants.{Ended, InsideTask, Leaving, NotInside, Waiting}
use Rattle.gomp_types.specs.declared.call.Server.{Server}
use Rattle.gomp_types.specs.declared.call.Server.TheVariants.{Shares, Team}
use Rattle.gomp_types.specs.Servers.{served_by}
use Rattle.gomp_member.specs.Own.{OwnView, executes_implicit}

-- whether it leaves something
abbrev pub leaves_something : OwnView → Bool
leaves_something own = own.leaving.region || (own.leaves_share || own.leaving.task)

-- whether it leaves its share, and that alone
abbrev pub leaves_share_alone : OwnView → Bool
leaves_share_alone own = own.leaves_share && not (own.leaving.region || own.leaving.task)

-- whether a member that leaves something may make the call: it gives up what it holds by that, stops the team, or ends what it leaves; its share only if it leaves nothing else, and its place lets it
abbrev pub leaves_by : Bool → OwnView → Call → Bool
leaves_by placed own (CriticalEnd name) = true
leaves_by placed own (Unset number) = true
leaves_by placed own (UnsetNest number) = true
leaves_by placed own Stop = true
leaves_by placed own RegionEnd = own.leaving.region
leaves_by placed own TaskEnd = own.leaving.task
leaves_by placed own LoopEnd = leaves_share_alone own && placed
leaves_by placed own LoopEndCancel = leaves_share_alone own && placed
leaves_by placed own SectionsEnd = leaves_share_alone own && placed
leaves_by placed own SectionsEndCancel = leaves_share_alone own && placed
leaves_by placed own call = false

-- inside of the region: a member that waits may only resume or stop, one that leaves something makes only a call by which it may leave, and a resume needs a call that waits
abbrev pub refusal_in_region : Bool → OwnView → Call → Option Refusal
refusal_in_region placed own Resume = if is_some own.waits.open_call then None else Some NotInside
refusal_in_region placed own Stop = None
refusal_in_region placed own call =
    if is_some own.waits.open_call then Some Waiting else (if leaves_something own && not (leaves_by placed own call) then Some Leaving else None)

-- a member that has passed the region's end makes none
abbrev pub own_refusal : Bool → OwnView → Call → Option Refusal
own_refusal placed own call = if own.ended then Some Ended else refusal_in_region placed own call

-- a call on the work-shares is refused in an explicit task
abbrev pub task_refusal : OwnView → Option Refusal
task_refusal own = if executes_implicit own then None else Some InsideTask

-- whether the work-shares answer the call, alone or with the board
abbrev pub is_on_shares : Server → Bool
is_on_shares Shares = true
is_on_shares Team = true
is_on_shares server = false

-- whether a task that holds a critical name is refused the call for that: such a call, but no resume and no construct of cancellation; and its end
abbrev pub tests_names : Call → Bool
tests_names TaskEnd = true
tests_names Resume = false
tests_names (Cancel kind clause) = false
tests_names (Point kind) = false
tests_names call = is_on_shares (served_by call)
