use Rattle.std.proofs.Common.{◌-◌, ◌∙◌, ap}
use Rattle.gomp_ready.specs.Marks.{mark_at}
use Rattle.gomp_ready.proofs.Marked.{mark_without, one_lower}
use Rattle.gomp_ready.proofs.marks.Marks.lower.Goals as goal

pub returns-then-self-lt-MOST_GONE-clause-lower : goal.returns-then-self-lt-MOST_GONE-clause-lower
returns-then-self-lt-MOST_GONE-clause-lower c m l = one_lower c.self.inside.gone c.self.inside.members.items m l ∙ ap (λ marks. mark_at m l marks - 1) c.self.view_is

pub returns-clause-lower : goal.returns-clause-lower
returns-clause-lower c m l =
    mark_without 1 c.lower_each.new.members.items m l ∙ ap (λ marks. mark_at m l marks - 1) c.lower_each.ensures ∙ ap (λ marks. mark_at m l marks - 1) c.self.view_is
