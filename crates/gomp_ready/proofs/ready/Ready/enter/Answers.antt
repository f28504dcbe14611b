use Rattle.std.proofs.Common.{◌≡◌, ◌∙◌, length, take, ap, sym, arith}
use Rattle.gomp_events.specs.Tasks.{contains}
use Rattle.gomp_types.specs.declared.limits.TheConstants.{MAX_TASK_DEPTH}
use Rattle.gomp_ready.specs.Ready.{ReadyView, passed_at}
use Rattle.gomp_ready.proofs.Marked.{entered_within, front_among, front_at, furthest_front}
use Rattle.gomp_ready.proofs.ready.Ready.enter.Goals as goal

pub set-requires-clause-few : goal.set-requires-clause-few
set-requires-clause-few c =
    let inside = c.self.inside in
    let is = c.len-mark.ensures in let ok = inside.list.ok in let small = inside.list.small in
    omega (arith, is, ok, small)

pub invariant_of-self : goal.invariant_of-self
invariant_of-self c =
    let inside = c.self.inside in
    let is = c.len-mark.ensures in let ok = inside.list.ok in
    (c.self.invariant.0, c.self.invariant.1, c.set.ensures.members ∙ c.self.invariant.2, entered_within inside.marks c.set.new.self c.args.member c.args.level c.len-mark.result MAX_TASK_DEPTH (length inside.list.items) c.self.invariant.3 (omega (arith, is, ok)) c.set.ensures.mark (λ deep. (c.set.ensures.past deep).1) c.set.ensures.others)

pub returns-clause-entered : goal.returns-clause-entered
returns-clause-entered c t there =
    ap (λ (v : ReadyView). contains t v.ids) (sym c.self.view_is) ∙ front_among c.self.inside.list.items _ c.set.new.self c.args.member c.args.level t there

pub returns-clause-furthest : goal.returns-clause-furthest
returns-clause-furthest c flat m l =
    let same = ap (λ (v : ReadyView). length (passed_at m l v)) c.self.view_is in
    let is = c.len-mark.ensures in let ok = c.self.inside.list.ok in
    let whole : c.len-mark.result ≡ length c.self.inside.list.items = omega (arith, is, ok) in
    let further = furthest_front c.self.inside.list.items c.self.inside.marks c.set.new.self c.args.member c.args.level m l (c.self.invariant.3 m l) (c.set.ensures.mark flat ∙ whole) in
    omega (arith, same, further)

pub returns-clause-past : goal.returns-clause-past
returns-clause-past c deep =
    front_at c.self.inside.list.items c.set.new.self c.args.member c.args.level ∙ ap (λ n. take n c.self.inside.list.items) (c.set.ensures.past deep).1

pub returns-clause-others : goal.returns-clause-others
returns-clause-others c m l other =
    let list = c.self.inside.list.items in
    front_at list c.set.new.self m l ∙ ap (λ n. take n list) (c.set.ensures.others m l other) ∙ sym (front_at list c.self.inside.marks m l) ∙ ap (passed_at m l) c.self.view_is
