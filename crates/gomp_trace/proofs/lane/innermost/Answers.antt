use Rattle.std.proofs.Common.{◌≡◌, ◌-◌, sym, drop, arith}
use Rattle.std.specs.Prelude.{Some}
use Rattle.std.proofs.lemmas.Grind.{common_steps}
use Rattle.gomp_trace.specs.Lanes.{innermost}
use Rattle.gomp_trace.proofs.LaneLemmas.{innermost_whole}
use Rattle.gomp_trace.proofs.lane.innermost.Goals as goal

pub returns-then-ends-clause-place : goal.returns-then-ends-clause-place
returns-then-ends-clause-place c =
    let here : innermost c.args.end.now (drop (c.loop-left.left - 1) c.args.begun.now) ≡ Some 0 = let found = c.ends.ensures in grind (arith, common_steps) in
    sym (innermost_whole c.args.end.now c.args.begun.now (c.loop-left.left - 1) here)
