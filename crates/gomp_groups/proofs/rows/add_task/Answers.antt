use Rattle.std.proofs.Common.{◌≡◌, ℕ, ◌+◌, Option, List, set, ap, subst, arith, sym, ◌∙◌}
use Rattle.gomp_groups.specs.declared.rows.GroupRow.{GroupRow}
use Rattle.gomp_groups.proofs.Chains.{row_read, steps_fewer}
use Rattle.gomp_groups.proofs.Counting.{IsLeft, adds_next, all_counted}
use Rattle.gomp_groups.proofs.rows.add_task.Goals as goal

-- the loop at what comes next
at_next : (first next goes_on : Option ℕ) (was now : List GroupRow) → next ≡ goes_on → IsLeft first next was now was now → IsLeft first goes_on was now was now
at_next first next goes_on was now e is = subst (λ (o : Option ℕ). IsLeft first o was now was now) e is

pub bounds-groups-group : goal.bounds-groups-group
bounds-groups-group c = (adds_next c.args.first c.args.groups.now c.loop-group.groups c.in-Some.group c.requires.nested (at_next _ _ _ _ _ (sym c.group.ensures ∙ c.in-Some.is) c.loop-group.invariant)).0

pub offset_bounds-groups-group : goal.offset_bounds-groups-group
offset_bounds-groups-group c = let lt = bounds-groups-group c in omega (arith, lt)

pub overflow_add-row : goal.overflow_add-row
overflow_add-row c =
    let next = adds_next c.args.first c.args.groups.now c.loop-group.groups c.in-Some.group c.requires.nested (at_next _ _ _ _ _ (sym c.group.ensures ∙ c.in-Some.is) c.loop-group.invariant) in
    let few = next.1 in
    let room = c.requires.room c.in-Some.group in
    let read = ap (λ (r : GroupRow). r.pending) (row_read c.loop-group.groups c.in-Some.group _ next.0 c.index-groups-group.is) in
    omega (arith, few, room, read)

pub loop-group-preserved : goal.loop-group-preserved
loop-group-preserved c =
    let next = adds_next c.args.first c.args.groups.now c.loop-group.groups c.in-Some.group c.requires.nested (at_next _ _ _ _ _ (sym c.group.ensures ∙ c.in-Some.is) c.loop-group.invariant) in
    subst (λ (r : GroupRow). IsLeft c.args.first r.outer c.args.groups.now (set c.loop-group.groups c.in-Some.group (record { outer = r.outer; pending = r.pending + 1; since = r.since })) c.args.groups.now (set c.loop-group.groups c.in-Some.group (record { outer = r.outer; pending = r.pending + 1; since = r.since })))
    (row_read c.loop-group.groups c.in-Some.group _ next.0 c.index-groups-group.is) next.2

pub loop-group-smaller : goal.loop-group-smaller
loop-group-smaller c =
    let next = adds_next c.args.first c.args.groups.now c.loop-group.groups c.in-Some.group c.requires.nested (at_next _ _ _ _ _ (sym c.group.ensures ∙ c.in-Some.is) c.loop-group.invariant) in
    let read = ap (λ (r : GroupRow). r.outer) (sym (row_read c.loop-group.groups c.in-Some.group _ next.0 c.index-groups-group.is)) in
    steps_fewer c.args.groups.now c.in-Some.group c.loop-group.next _ c.requires.nested (sym c.group.ensures ∙ c.in-Some.is) (read ∙ c.loop-group.invariant.outer c.in-Some.group)

pub returns : goal.returns
returns c = record {
  counts = λ qs chain.
      let is = at_next _ _ _ _ _ (sym c.group.ensures ∙ c.in_default.is) c.loop-group.invariant in
      all_counted c.args.first c.args.groups.now c.loop-group.groups c.args.groups.now c.loop-group.groups qs is is.len is.outer is.since chain;
}
