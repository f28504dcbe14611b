use Rattle.std.proofs.Common.{◌≡◌, [], refl, rules, subst}
use Rattle.gomp_lines.specs.Queues.{LineView, StandsFor}
use Rattle.gomp_depend.specs.Tables.{line_at}
use Rattle.gomp_depend.proofs.table.LineTable.drop_empty.Goals as goal

pub returns-else-is_empty-clause-dropped : goal.returns-else-is_empty-clause-dropped
returns-else-is_empty-clause-dropped c = λ n st.
    let here : line_at c.args.parent c.args.addr c.args.self.now ≡ c.in-Some.line.now = search rules in
    let empty = (c.is_empty.ensures n [] (subst (λ (queue : LineView). StandsFor queue n []) here st)).1 refl in
    absurd (cc)
