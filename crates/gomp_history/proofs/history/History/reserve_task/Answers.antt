use Rattle.std.proofs.Common.{◌≡◌, ◌-◌, ◌∙◌, ap, length, reverse}
use Rattle.std.specs.Prelude.{vec_len}
use Rattle.std.specs.Vec.{vec_capacity}
use Rattle.std.proofs.lemmas.Result.{on_ok_weaker}
use Rattle.gomp_events.specs.Tasks.{tasks_created}
use Rattle.gomp_growth.specs.Growth.{growth_of, room_made}
use Rattle.gomp_history.specs.Histories.{HistoryView}
use Rattle.gomp_history.proofs.Places.{places_count}
use Rattle.gomp_history.proofs.history.History.reserve_task.Goals as goal

pub returns-clause-memory : goal.returns-clause-memory
returns-clause-memory c = on_ok_weaker c.reserve_one.result (λ memory.
    let now = c.args.self.now in
    let places = c.self.inside.places in
    let count : length places.items ≡ tasks_created (reverse now.events) =
    ap length c.self.invariant.kept ∙ places_count (reverse c.self.inside.events.items) ∙ ap (λ (v : HistoryView). tasks_created (reverse v.events)) c.self.view_is in
    let room : vec_capacity places - vec_len places ≡ now.task_room = ap (λ (v : HistoryView). v.task_room) c.self.view_is in
    memory ∙ ap (λ n. room_made 1 (growth_of 16 n) (vec_capacity places - vec_len places)) (places.ok.0 ∙ count) ∙ ap (room_made 1 (growth_of 16 (tasks_created (reverse now.events)))) room) c.reserve_one.ensures.memory
