use Rattle.std.proofs.Common.{◌≡◌, ◌+◌, ◌∷◌, sym, subst, rules}
use Rattle.gomp_lines.specs.Queues.{LineView, StandsFor}
use Rattle.gomp_depend.specs.Tables.{line_at}
use Rattle.gomp_depend.proofs.table.LineTable.join.Goals as goal

pub returns-clause-stands : goal.returns-clause-stands
returns-clause-stands c = λ n line st le.
    let before : line_at c.args.parent c.args.addr c.args.self.now ≡ c.in-Some.line.now = search rules in
    let after : line_at c.args.parent c.args.addr (record { lines = c.get_mut.follows.lender c.join.new.self }) ≡ c.join.new.self = search rules in
    subst (λ (queue : LineView). StandsFor queue (c.args.task + 1) (record { task = c.args.task; class = c.args.class } ∷ line)) (sym after)
    (c.join.ensures.stands n line (subst (λ (queue : LineView). StandsFor queue n line) before st) le)
