use Rattle.std.proofs.Common.{◌≡◌, ◌∙◌, length, take, ap, sym, arith}
use Rattle.std.specs.Prelude.{replicate}
use Rattle.std.proofs.Math.Seq.{take-length}
use Rattle.gomp_ready.proofs.Marked.{zero_at_each}
use Rattle.gomp_ready.proofs.marks.Marks.clear.Goals as goal

pub returns-clause-zero : goal.returns-clause-zero
returns-clause-zero c =
    let all = c.loop-member.self-inside.members.items in
    let many : length all ≡ c.loop-member.member = omega arith in
    zero_at_each all (length all) 65 0 (sym (take-length all) ∙ ap (λ n. take n all) many ∙ c.loop-member.invariant.zero ∙ ap (λ n. replicate n (replicate 65 0)) (sym many))
