-- Events that keep the rule of a team keep that of the work-shares, of arrivals, of tasks, and of names and locks; and members leave only a cancelled region.
use Rattle.std.proofs.Common.{◌≡◌, ℕ, ◌<◌, true, false, List, [], ◌∷◌, arith, inl, inr}
use Rattle.std.specs.Prelude.{◌==◌, ◌&&◌, nat_lt, nat_le}
use Rattle.std.proofs.lemmas.Bool.{cases_Bool}
use Rattle.std.proofs.lemmas.Bool.Decides.{nat_tests}
use Rattle.gomp_types.specs.declared.cancel.CancelKind.TheVariants.{Parallel}
use Rattle.gomp_types.specs.declared.cancel.Scope.TheVariants.{Region}
use Rattle.gomp_events.specs.declared.event.Event.{Event}
use Rattle.gomp_events.specs.declared.event.Event.TheVariants.{Enter, Take, Drained, End, HandOn, Part, PartEnd, Arrive, Pass, Create, Start, Done, Group, GroupEnd, Waited, Hold, Free, Cancel, Discard, See}
use Rattle.gomp_events.specs.Cancels.{same_scope, is_cancelled, leaves_region}
use Rattle.gomp_events.specs.Tasks.{tasks_created}
use Rattle.gomp_events.specs.Goals.{may_start}
use Rattle.gomp_types.specs.Deals.{schedule}
use Rattle.gomp_events.specs.Laws.{Always}
use Rattle.gomp_events.specs.Arrivals.{ArrivalRule}
use Rattle.gomp_events.specs.TaskRules.{TaskRule}
use Rattle.gomp_shares.specs.Rules.{ShareRule}
use Rattle.gomp_locks.specs.HoldRules.{HoldRule}
use Rattle.gomp_locks.specs.NameRules.{NameRule}
use Rattle.gomp_laws.specs.Rules.{TeamRule}
use Rattle.gomp_events.proofs.Always.{always_so}
use Rattle.gomp_types.proofs.Booleans.{and_left, and_right, or_tells, or_right, not_both}
use Rattle.gomp_events.proofs.Suspended.{startable_is_fresh}

-- the rule of the team has that of the shares
share_rule : (members : ℕ) (event : Event) (earlier : List Event) → TeamRule members event earlier → Always (TeamRule members) earlier → ShareRule (schedule members) members event earlier
share_rule members (Enter share m shape) earlier rule all = rule
share_rule members (Take share m low high) earlier rule all = rule.takes
share_rule members (Drained share m) earlier rule all = rule.done
share_rule members (End share m) earlier rule all = rule.done
share_rule members (HandOn share m piece) earlier rule all = rule
share_rule members (Part share m iteration) earlier rule all = rule
share_rule members (PartEnd share m) earlier rule all = rule
share_rule members (Cancel m scope) earlier rule all = rule.share
share_rule members (See m kind) earlier rule all = rule.share
share_rule members _ earlier rule all = tt

pub share_rules : (members : ℕ) (h : List Event) → Always (TeamRule members) h → Always (ShareRule (schedule members) members) h
share_rules members h all = always_so (TeamRule members) (ShareRule (schedule members) members) (share_rule members) h all

-- that of the arrivals
arrival_rule : (members : ℕ) (event : Event) (earlier : List Event) → TeamRule members event earlier → Always (TeamRule members) earlier → ArrivalRule members event earlier
arrival_rule members (Arrive barrier m tag) earlier rule all = rule.arrives
arrival_rule members (Pass barrier m) earlier rule all = rule.passes
arrival_rule members _ earlier rule all = tt

pub arrival_rules : (members : ℕ) (h : List Event) → Always (TeamRule members) h → Always (ArrivalRule members) h
arrival_rules members h all = always_so (TeamRule members) (ArrivalRule members) (arrival_rule members) h all

-- that of tasks and groups
task_rule : (members : ℕ) (event : Event) (earlier : List Event) → TeamRule members event earlier → Always (TeamRule members) earlier → TaskRule members event earlier
task_rule members (Create t m parent desc) earlier rule all = rule
task_rule members (Start t m) earlier rule all = rule
task_rule members (Done t m) earlier rule all = rule.ends
task_rule members (Discard t m) earlier rule all = rule
task_rule members (Group q m) earlier rule all = rule
task_rule members (GroupEnd q m) earlier rule all = rule
task_rule members (Waited m items) earlier rule all = rule
task_rule members _ earlier rule all = tt

pub task_rules : (members : ℕ) (h : List Event) → Always (TeamRule members) h → Always (TaskRule members) h
task_rules members h all = always_so (TeamRule members) (TaskRule members) (task_rule members) h all

-- that of names and locks
hold_rule : (members : ℕ) (event : Event) (earlier : List Event) → TeamRule members event earlier → Always (TeamRule members) earlier → HoldRule event earlier
hold_rule members (Hold key m task) earlier rule all = rule.holds
hold_rule members (Free key m task) earlier rule all = rule
hold_rule members _ earlier rule all = tt

pub hold_rules : (members : ℕ) (h : List Event) → Always (TeamRule members) h → Always HoldRule h
hold_rules members h all = always_so (TeamRule members) HoldRule (hold_rule members) h all

-- and that of critical names at barriers and in tasks: a task that is started was created, so its number is none of an implicit one
startable_is_numbered : (m t : ℕ) (h : List Event) → may_start m t h ≡ true → 0 < t
startable_is_numbered m t h may =
    let low = and_left (nat_lt 0 t) (nat_le t (tasks_created h)) (startable_is_fresh m t h may).0 in grind (arith, nat_tests, low)

name_rule : (members : ℕ) (event : Event) (earlier : List Event) → TeamRule members event earlier → Always (TeamRule members) earlier → NameRule event earlier
name_rule members (Arrive barrier m tag) earlier rule all = rule.names
name_rule members (Start t m) earlier rule all = record { number = startable_is_numbered m t earlier rule.may }
name_rule members (Done t m) earlier rule all = rule.names
name_rule members (Hold key m task) earlier rule all = rule.names
name_rule members _ earlier rule all = tt

pub name_rules : (members : ℕ) (h : List Event) → Always (TeamRule members) h → Always NameRule h
name_rules members h all = always_so (TeamRule members) NameRule (name_rule members) h all

-- Members that leave the region

-- a member that leaves it has seen that it is cancelled, so it is
pub leaver_is_cancelled : (members m : ℕ) (h : List Event) → Always (TeamRule members) h → leaves_region m h ≡ true → is_cancelled h ≡ true
leaver_is_cancelled members m [] all e = absurd (cc)
leaver_is_cancelled members m (See n Parallel ∷ earlier) all e = all.0.sees.cancelled
leaver_is_cancelled members m (See n kind ∷ earlier) all e =
    elim (or_tells (n == m && false) (leaves_region m earlier) e) [
      | inl top ↦ absurd (let no = and_right (n == m) false top in cc)
      | inr below ↦ leaver_is_cancelled members m earlier all.1 below
    ]
leaver_is_cancelled members m (Cancel n scope ∷ earlier) all e = or_right (same_scope scope Region) (is_cancelled earlier) (leaver_is_cancelled members m earlier all.1 e)
leaver_is_cancelled members m (_ ∷ earlier) all e = leaver_is_cancelled members m earlier all.1 e

-- so nobody leaves one that is not
pub none_leaves : (members m : ℕ) (h : List Event) → Always (TeamRule members) h → is_cancelled h ≡ false → leaves_region m h ≡ false
none_leaves members m h all whole =
    elim (cases_Bool (leaves_region m h)) [
      | inl leaves ↦ absurd (not_both (is_cancelled h) (leaver_is_cancelled members m h all leaves) whole)
      | inr stays ↦ stays
    ]
