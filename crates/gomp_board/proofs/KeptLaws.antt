-- The stored events keep the laws of tasks and of barriers, since they keep the rules.
use Rattle.std.proofs.Common.{ℕ, List, subst}
use Rattle.gomp_events.specs.declared.event.Event.{Event}
use Rattle.gomp_events.specs.Laws.{Always}
use Rattle.gomp_events.specs.Arrivals.{ArrivalRule}
use Rattle.gomp_events.proofs.Laws.{arrival_rule_keeps_laws, task_rule_keeps_laws, bound_tasks_are_done}
use Rattle.gomp_board.specs.Boards.{BoardView, HasMembers, Stands, members_of}
use Rattle.gomp_board.specs.KeptLaws.{KeepsLaws}
use Rattle.gomp_board.proofs.BoardEvents.{rule_of}

-- so does every list of events for which a board stands
pub laws_of : (b : BoardView) (h : List Event) → HasMembers b → Stands b h → KeepsLaws (members_of b) h
laws_of b h has st =
    let arrivals = subst (λ (n : ℕ). Always (ArrivalRule n) h) has.barriers st.scheduler.barriers.rule in
    let tasks = task_rule_keeps_laws (members_of b) h arrivals (rule_of b h has st) in
    record { tasks = tasks; bound = bound_tasks_are_done h tasks; arrivals = arrival_rule_keeps_laws (members_of b) h arrivals }
