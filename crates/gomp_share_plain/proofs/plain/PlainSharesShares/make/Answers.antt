use Rattle.std.proofs.Common.{◌<◌, ◌^◌, [], arith}
use Rattle.gomp_share_plain.proofs.Views.{new_shares_stand}
use Rattle.gomp_share_plain.proofs.plain.PlainSharesShares.make.Goals as goal

pub returns-clause-stands : goal.returns-clause-stands
returns-clause-stands c =
    let small : c.args.count < 2 ^ 16 = let fits = c.ranges.count in omega arith in
    rw c.new.ensures (new_shares_stand c.in_ok-vec.field-0.items c.args.count small (c.in_ok-vec.ensures.items_if_clones_equal (λ y e. e)))

pub invariant_of-result : goal.invariant_of-result
invariant_of-result c = ([], returns-clause-stands c)
