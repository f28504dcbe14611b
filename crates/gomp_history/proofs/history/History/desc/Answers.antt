use Rattle.std.proofs.Common.{◌≡◌, ◌∙◌, reverse, sym, subst, ap, true, Some}
use Rattle.gomp_types.specs.declared.task.TaskDesc.{TaskDesc}
use Rattle.gomp_events.specs.Tasks.{is_created, task_desc}
use Rattle.gomp_history.specs.Histories.{HistoryView}
use Rattle.gomp_history.proofs.Places.{place_within, event_within, event_is}
use Rattle.gomp_history.proofs.history.History.desc.Goals as goal

pub index-place-requires : goal.index-place-requires
index-place-requires c =
    let created = subst (λ (v : HistoryView). is_created c.args.task (reverse v.events) ≡ true) (sym c.self.view_is) c.requires.created in
    rw c.self.inside.places.ok.0 (place_within _ c.args.task c.self.inside.events.items c.self.inside.places.items c.self.invariant created)

pub index-requires : goal.index-requires
index-requires c =
    let created = subst (λ (v : HistoryView). is_created c.args.task (reverse v.events) ≡ true) (sym c.self.view_is) c.requires.created in
    rw c.self.inside.events.ok.0 (event_within _ c.args.task c.self.inside.events.items c.self.inside.places.items c.self.invariant created _ c.index-place.ensures)

pub unreachable-requires : goal.unreachable-requires
unreachable-requires c =
    let created = subst (λ (v : HistoryView). is_created c.args.task (reverse v.events) ≡ true) (sym c.self.view_is) c.requires.created in
    let (m, parent, desc, is, value) = event_is _ c.args.task c.self.inside.events.items c.self.inside.places.items c.self.invariant created _ c.index-place.ensures _ c.index.ensures in
    c.in_default.not-Create c.args.task m parent desc is

pub returns : goal.returns
returns c =
    let created = subst (λ (v : HistoryView). is_created c.args.task (reverse v.events) ≡ true) (sym c.self.view_is) c.requires.created in
    let (m, parent, desc, is, value) = event_is _ c.args.task c.self.inside.events.items c.self.inside.places.items c.self.invariant created _ c.index-place.ensures _ c.index.ensures in
    let same : desc ≡ c.in-Create.desc = let one = is in let other = c.in-Create.is in cc in
    record { value = ap (λ (v : HistoryView). task_desc c.args.task (reverse v.events)) (sym c.self.view_is) ∙ value ∙ ap (λ (d : TaskDesc). Some d) same }
