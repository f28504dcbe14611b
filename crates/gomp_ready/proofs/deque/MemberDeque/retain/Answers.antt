use Rattle.std.proofs.Common.{rules, ap, ◌∙◌, filter}
use Rattle.std.proofs.lemmas.Fn.{filter_same}
use Rattle.gomp_ready.proofs.deque.MemberDeque.retain.Goals as goal

pub returns-clause-tasks : goal.returns-clause-tasks
returns-clause-tasks g c test answers = filter_same _ test _ (λ x b f' k. search (rules, answers)) _ _ c.retain.ensures.filtered ∙ ap (filter test) c.self.view_is
