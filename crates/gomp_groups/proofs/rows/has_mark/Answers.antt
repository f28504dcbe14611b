use Rattle.std.proofs.Common.{◌≡◌, ℕ, Bool, List, Option, Some, sym, subst, arith, ◌∙◌, ap}
use Rattle.gomp_groups.specs.declared.rows.GroupRow.{GroupRow}
use Rattle.gomp_groups.proofs.Chains.{row_read, steps_fewer}
use Rattle.gomp_groups.proofs.Marks.{NoneYet, NextLooked, none_looked_at, looks_at_next, none_found}
use Rattle.gomp_groups.proofs.rows.has_mark.Goals as goal

-- the walk at the group that comes next
looks_on : (groups : List GroupRow) (marks : List Bool) (first next : Option ℕ) (q : ℕ) → next ≡ Some q → NoneYet groups marks first next → NextLooked groups marks first q
looks_on groups marks first next q e is = looks_at_next groups marks first q (subst (λ (o : Option ℕ). NoneYet groups marks first o) e is)

pub loop-group-init : goal.loop-group-init
loop-group-init c = none_looked_at c.args.groups.now c.args.marks.now c.args.first c.requires.chain

pub bounds-marks-group : goal.bounds-marks-group
bounds-marks-group c =
    let lt = (looks_on _ _ _ _ _ (sym c.group.ensures ∙ c.in-Some.is) c.loop-group.invariant).within in
    let size = c.requires.marks in
    omega (arith, lt, size)

pub bounds-groups-group-else-marks-group : goal.bounds-groups-group-else-marks-group
bounds-groups-group-else-marks-group c = (looks_on _ _ _ _ _ (sym c.group.ensures ∙ c.in-Some.is) c.loop-group.invariant).within

pub bounds-groups-group : goal.bounds-groups-group
bounds-groups-group c = (looks_on _ _ _ _ _ (sym c.group.ensures ∙ c.in-Some.is) c.loop-group.invariant).within

pub offset_bounds-groups-group : goal.offset_bounds-groups-group
offset_bounds-groups-group c = let lt = bounds-groups-group c in omega (arith, lt)

pub returns-then-marks-group : goal.returns-then-marks-group
returns-then-marks-group c = record {
  value = λ qs chain. sym ((looks_on _ _ _ _ _ (sym c.group.ensures ∙ c.in-Some.is) c.loop-group.invariant).found c.if-marks-group.true qs chain);
}

pub loop-group-preserved : goal.loop-group-preserved
loop-group-preserved c =
    let next = looks_on _ _ _ _ _ (sym c.group.ensures ∙ c.in-Some.is) c.loop-group.invariant in
    subst (λ (r : GroupRow). NoneYet c.args.groups.now c.args.marks.now c.args.first r.outer) (row_read c.args.groups.now c.in-Some.group _ next.within c.index-groups-group.is) (next.further c.if-marks-group.false)

pub loop-group-smaller : goal.loop-group-smaller
loop-group-smaller c =
    let within = (looks_on _ _ _ _ _ (sym c.group.ensures ∙ c.in-Some.is) c.loop-group.invariant).within in
    let read = ap (λ (r : GroupRow). r.outer) (sym (row_read c.args.groups.now c.in-Some.group _ within c.index-groups-group.is)) in
    steps_fewer c.args.groups.now c.in-Some.group c.loop-group.next _ c.requires.nested (sym c.group.ensures ∙ c.in-Some.is) read

pub returns : goal.returns
returns c = record {
  value = λ qs chain. sym (none_found c.args.groups.now c.args.marks.now c.args.first qs (subst (λ (o : Option ℕ). NoneYet c.args.groups.now c.args.marks.now c.args.first o) (sym c.group.ensures ∙ c.in_default.is) c.loop-group.invariant) chain);
}
