-- What the tests of an operation ask is what the board says: an operation that no test refuses on one list of events for which the board stands is refused on none.
use Rattle.std.proofs.Common.{◌≡◌, ℕ, ◌<◌, Bool, true, false, List, ◌++◌, refl, ap, ◌∙◌, arith}
use Rattle.gomp_types.specs.declared.limits.Limits.{Limits}
use Rattle.gomp_events.specs.declared.event.Arrival.{Arrival}
use Rattle.gomp_events.specs.declared.event.Arrival.TheVariants.{Barrier, ShareEnd, RegionEnd}
use Rattle.gomp_events.specs.declared.event.Event.{Event}
use Rattle.gomp_types.specs.Tests.{Test}
use Rattle.gomp_types.specs.Least.{least}
use Rattle.gomp_events.specs.CancelCalls.{cancel_tests}
use Rattle.gomp_board.specs.declared.op.Op.{Op}
use Rattle.gomp_board.specs.declared.op.Op.TheVariants.{Create, AwaitOwn, EndTask, Taskwait, AwaitChildren, OpenGroup, EndGroup, AwaitGroup, Arrive, AwaitBarrier, Reserve, Put, Got, Cancel, Point, Break}
use Rattle.gomp_board.specs.declared.op.TeamCancel.{TeamCancel}
use Rattle.gomp_board.specs.Ops.{op_member_tests, busy_tests, region_end_tests, named_kind, op_tests, op_refusal}
use Rattle.gomp_board.specs.Boards.{BoardView, Stands, HasMembers, IsOpAdmitted, IsOpAdmittedOnce, members_of, kept_by}
use Rattle.gomp_board.proofs.Alike.{AreAskedAlike, asked_alike}

-- The tests

member_tests_alike : (m : ℕ) (h g : List Event) → AreAskedAlike m h g → op_member_tests m h ≡ op_member_tests m g
member_tests_alike m h g alike = rw (alike.left, alike.clash) refl

busy_tests_alike : (m : ℕ) (h g : List Event) → AreAskedAlike m h g → busy_tests m h ≡ busy_tests m g
busy_tests_alike m h g alike = rw (alike.waits, alike.inside, alike.cancelled, alike.came) refl

end_tests_alike : (kind : Arrival) (leaving : Bool) (m : ℕ) (h g : List Event) → AreAskedAlike m h g → region_end_tests kind leaving m h ≡ region_end_tests kind leaving m g
end_tests_alike Barrier leaving m h g alike = refl
end_tests_alike ShareEnd leaving m h g alike = refl
end_tests_alike RegionEnd true m h g alike = refl
end_tests_alike RegionEnd false m h g alike = rw alike.opened refl

cancel_tests_alike : (named : TeamCancel) (m : ℕ) (h g : List Event) → AreAskedAlike m h g → cancel_tests (named_kind named) m h ≡ cancel_tests (named_kind named) m g
cancel_tests_alike TeamCancel.Parallel m h g alike = rw alike.inside refl
cancel_tests_alike TeamCancel.Taskgroup m h g alike = rw (alike.inside, alike.around, alike.opened) refl

-- those of an operation
op_tests_alike : (limits : Limits) (room kept m : ℕ) (op : Op) (h g : List Event) → AreAskedAlike m h g → op_tests limits room kept m op h ≡ op_tests limits room kept m op g
op_tests_alike limits room kept m (Create desc) h g alike = rw (alike.covered, alike.waits, alike.inside, alike.cancelled, alike.came, alike.depth, alike.created) refl
op_tests_alike limits room kept m AwaitOwn h g alike = busy_tests_alike m h g alike
op_tests_alike limits room kept m (EndTask leaving) h g alike = rw (alike.waits, alike.inside, alike.cancelled, alike.came, alike.opened) refl
op_tests_alike limits room kept m (Taskwait items) h g alike = rw (alike.waits, alike.inside, alike.cancelled, alike.came) refl
op_tests_alike limits room kept m (AwaitChildren items) h g alike = busy_tests_alike m h g alike
op_tests_alike limits room kept m OpenGroup h g alike = rw (alike.waits, alike.inside, alike.cancelled, alike.came) refl
op_tests_alike limits room kept m EndGroup h g alike = rw (alike.waits, alike.inside, alike.cancelled, alike.came, alike.opened) refl
op_tests_alike limits room kept m AwaitGroup h g alike = busy_tests_alike m h g alike
op_tests_alike limits room kept m (Arrive tag leaving) h g alike = rw (alike.waits, alike.inside, alike.cancelled, alike.came, end_tests_alike tag.kind leaving m h g alike, alike.tag) refl
op_tests_alike limits room kept m AwaitBarrier h g alike = rw (alike.waits, alike.inside) refl
op_tests_alike limits room kept m (Reserve more) h g alike = rw (alike.waits, alike.inside, alike.cancelled, alike.came) refl
op_tests_alike limits room kept m (Put share words) h g alike = rw (alike.waits, alike.inside, alike.cancelled, alike.came) refl
op_tests_alike limits room kept m (Got share words) h g alike = rw (alike.waits, alike.inside, alike.cancelled, alike.came) refl
op_tests_alike limits room kept m (Cancel named clause allowed) h g alike = rw (alike.waits, alike.inside, alike.cancelled, alike.came, cancel_tests_alike named m h g alike) refl
op_tests_alike limits room kept m (Point named allowed) h g alike = rw (alike.waits, alike.inside, alike.cancelled, alike.came, cancel_tests_alike named m h g alike) refl
op_tests_alike limits room kept m (Break place back) h g alike = refl

-- The board

-- an operation is refused alike on each two lists of events for which the board stands
pub refused_alike : (op : Op) (m : ℕ) (board : BoardView) (h g : List Event) → HasMembers board → m < members_of board → Stands board h → Stands board g →
    op_refusal board.limits board.room (kept_by m board) m op h ≡ op_refusal board.limits board.room (kept_by m board) m op g
refused_alike op m board h g places low st other =
    let tasks = places.tasks in let groups = places.groups in let barriers = places.barriers in
    let alike : AreAskedAlike m h g =
    asked_alike board.scheduler.tasks board.scheduler.groups board.scheduler.barriers board.scheduler.cancelled board.clash m h g st.scheduler.tasks other.scheduler.tasks st.scheduler.groups other.scheduler.groups st.scheduler.barriers other.scheduler.barriers st.scheduler.cancelled other.scheduler.cancelled st.clash other.clash (omega (arith, low, tasks)) (omega (arith, low, groups)) (omega (arith, low, barriers)) in
    ap (λ (tests : List Test). least (tests ++ op_tests board.limits board.room (kept_by m board) m op h)) (member_tests_alike m h g alike)
    ∙ ap (λ (tests : List Test). least (op_member_tests m g ++ tests)) (op_tests_alike board.limits board.room (kept_by m board) m op h g alike)

-- so what was tested on one of them was tested on each
pub admitted_on_each : (op : Op) (m : ℕ) (board : BoardView) → HasMembers board → m < members_of board → IsOpAdmittedOnce op m board → IsOpAdmitted op m board
admitted_on_each op m board places low (g, other, none) = λ h st. refused_alike op m board h g places low st other ∙ none
