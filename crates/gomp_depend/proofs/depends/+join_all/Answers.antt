use Rattle.std.proofs.Common.{get_or, sym, ◌∙◌}
use Rattle.gomp_types.specs.declared.depend.Dep.{Dep}
use Rattle.gomp_types.specs.declared.depend.DepKind.TheVariants.{DepIn}
use Rattle.gomp_depend.proofs.Leaving.{later_items, clause_parts, stands_still}
use Rattle.gomp_depend.proofs.Joining.{at_later, counted_with_one_more, joined_more}
use Rattle.gomp_events.specs.Tasks.{same_task}
use Rattle.gomp_types.proofs.Booleans.{and_false}
use Rattle.gomp_depend.proofs.depends.+join_all.Goals as goal

default : Dep
default = record { kind = DepIn; addr = 0 }

pub returns-then-names-clause-joined : goal.returns-then-names-clause-joined
unfolding default
returns-then-names-clause-joined t c = λ a class n line named is st le.
    c.join_all-count.ensures.joined a class n line (at_later c.args.rest.now (get_or c.args.rest.now 0 default) (later_items c.args.rest.now) a (clause_parts c.args.rest.now default c.in-len1-up.len_at_least) (sym c.names.ensures ∙ c.if-names.true) named) is st le

pub join_one-requires-clause-newer : goal.join_one-requires-clause-newer
unfolding default
join_one-requires-clause-newer t c =
    let (n, all, st, le) = c.requires.newer in
    let first = get_or c.args.rest.now 0 default in (
      n,
      all first.addr,
      stands_still c.args.parent first.addr n c.args.lines.now c.join_all-count.new.lines (all first.addr)
          (c.join_all-count.ensures.others c.args.parent first.addr (and_false (same_task c.args.parent c.args.parent) _ (sym c.names.ensures ∙ c.if-names.false))) (st first.addr),
      le,
    )

pub returns-clause-count : goal.returns-clause-count
unfolding default
returns-clause-count t c =
    counted_with_one_more c.args.rest.now (get_or c.args.rest.now 0 default) (later_items c.args.rest.now) c.args.task c.args.parent c.join_all-count.new.lines c.join_one.new.lines c.join_all-count.result c.join_one.result
    (clause_parts c.args.rest.now default c.in-len1-up.len_at_least) (sym c.names.ensures ∙ c.if-names.false) c.join_all-count.ensures.count c.join_one.ensures.count c.join_one.ensures.others

pub returns-clause-joined : goal.returns-clause-joined
unfolding default
returns-clause-joined t c = λ a class n line named is st le.
    joined_more c.args.rest.now (get_or c.args.rest.now 0 default) (later_items c.args.rest.now) c.args.items.now a c.args.task n c.args.parent class line c.args.lines.now c.join_all-count.new.lines c.join_one.new.lines
    (clause_parts c.args.rest.now default c.in-len1-up.len_at_least) (sym c.names.ensures ∙ c.if-names.false) named is st c.join_all-count.ensures.others
    (λ in_later. c.join_all-count.ensures.joined a class n line in_later is st le) (λ own now. c.join_one.ensures.joined class n line own now le) c.join_one.ensures.others
