use Rattle.std.proofs.Common.{◌<◌, ◌-◌, ◌+◌, ◌∙◌, length, set, ap, sym, arith}
use Rattle.gomp_ready.specs.Marks.{mark_at}
use Rattle.gomp_ready.proofs.Marked.{mark_without, length_without, mark_if_set, set_others}
use Rattle.gomp_ready.proofs.marks.Marks.set.Goals as goal

pub returns-clause-mark : goal.returns-clause-mark
returns-clause-mark c few =
    let all = c.self.inside.members.items in
    let row = c.index_mut.result.now in
    let gone = c.self.inside.gone in
    let within : c.args.member < length all = omega (arith, length_without gone all, ap length c.self.view_is, c.requires.member) in
    let is = mark_without gone (set all c.args.member c.set.new.self) c.args.member c.args.level in
    let there = ap (λ r. mark_at c.args.member c.args.level (set all c.args.member r)) c.set.ensures.value ∙ mark_if_set all c.args.member c.args.level (gone + c.args.passed) row within (c.set.ensures.there few) in
    is ∙ ap (λ n. n - gone) there ∙ omega arith

pub returns-clause-others : goal.returns-clause-others
returns-clause-others c m l other =
    let all = c.self.inside.members.items in
    let row = c.index_mut.result.now in
    let gone = c.self.inside.gone in
    let within : c.args.member < length all = omega (arith, length_without gone all, ap length c.self.view_is, c.requires.member) in
    let same = ap (λ r. mark_at m l (set all c.args.member r)) c.set.ensures.value ∙ set_others all c.args.member c.args.level (gone + c.args.passed) row within c.index_mut.ensures.value m l other in
    mark_without gone (set all c.args.member c.set.new.self) m l ∙ ap (λ n. n - gone) same ∙ sym (mark_without gone all m l) ∙ ap (mark_at m l) c.self.view_is
