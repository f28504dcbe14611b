use Rattle.std.proofs.Common.{◌≡◌, ℕ, ◌∙◌, sym, subst, refl, rules, Some, true, ◌+◌, ◌∷◌}
use Rattle.std.specs.Prelude.{not}
use Rattle.gomp_lines.specs.declared.classes.Class.{Class}
use Rattle.gomp_lines.specs.Queues.{StandsFor}
use Rattle.gomp_depend.specs.Tables.{line_at}
use Rattle.gomp_depend.proofs.Joining.{one_if, held_if_not_ready, not_held_counts}
use Rattle.gomp_depend.proofs.depends.join_one.Goals as goal

pub returns-in-Some-clause-joined : goal.returns-in-Some-clause-joined
returns-in-Some-clause-joined c = λ class n line is st le.
    let both : Some c.in-Some.class ≡ Some class = sym c.in-Some.is ∙ c.class_at.ensures ∙ is in
    let same : c.in-Some.class ≡ class = cc in
    subst (λ (k : Class). StandsFor (line_at c.args.parent c.args.addr c.join.new.self) (c.args.task + 1) (record { task = c.args.task; class = k } ∷ line)) same (c.join.ensures.stands n line st le)

pub returns-in_default-clause-joined : goal.returns-in_default-clause-joined
returns-in_default-clause-joined c = λ class n line is st le.
    let both : Some c.in-Some.class ≡ Some class = sym c.in-Some.is ∙ c.class_at.ensures ∙ is in
    let same : c.in-Some.class ≡ class = cc in
    subst (λ (k : Class). StandsFor (line_at c.args.parent c.args.addr c.join.new.self) (c.args.task + 1) (record { task = c.args.task; class = k } ∷ line)) same (c.join.ensures.stands n line st le)

pub returns-in_default-clause-count : goal.returns-in_default-clause-count
returns-in_default-clause-count c =
    let (n, line, st, le) = c.requires.newer in
    let ready : c.join.result ≡ true = search rules in
    let none : ◌≡◌ {A = ℕ} 0 (one_if (not c.join.result)) = rw ready refl in
    none ∙ held_if_not_ready c.args.task n c.join.result (line_at c.args.parent c.args.addr c.args.lines.now) (line_at c.args.parent c.args.addr c.join.new.self) line st le c.join.ensures.held

pub returns-in_default-2-clause-count : goal.returns-in_default-2-clause-count
returns-in_default-2-clause-count c =
    let (n, line, st, le) = c.requires.newer in
    not_held_counts c.args.task n _ line st le
