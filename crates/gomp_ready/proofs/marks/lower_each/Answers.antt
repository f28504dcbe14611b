use Rattle.std.proofs.Common.{◌<◌, ◌-◌, ◌∙◌, ℕ, List, length, set, ap, arith, length-set}
use Rattle.std.specs.Prelude.{map}
use Rattle.std.proofs.lemmas.List.Edits.{map_over_more}
use Rattle.gomp_ready.proofs.marks.lower_each.Goals as goal

pub loop-member-preserved : goal.loop-member-preserved
loop-member-preserved c =
    let lower : List ℕ → List ℕ = map (λ mark. mark - c.args.gone) in
    let first = c.args.members.now.items in
    let members = c.loop-member.members.items in
    let m = c.loop-member.member in
    let before = c.loop-member.invariant in
    let within : m < length first = omega arith in
    record {
      lower = ap (set members m) c.lower.ensures ∙ map_over_more lower first members m c.index_mut.result.now within before.lower c.index_mut.ensures.value;
      members = length-set members m c.lower.new.self ∙ before.members;
    }
