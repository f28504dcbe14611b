use Rattle.std.proofs.Common.{◌≡◌, refl, w64}
use Rattle.std.proofs.lemmas.Int.{to_z-of_z}
use Rattle.gomp_types.specs.Tests.{first_holding}
use Rattle.gomp_shares.specs.OrderedParts.{part_tests}
use Rattle.gomp_dispatch.proofs.Refused.{rising_least}
use Rattle.gomp_dispatch.proofs.refusals.ordered_start_refusal.Goals as goal

pub returns : goal.returns
returns c =
    let told : c.ordered_start_refusal.result ≡ first_holding (part_tests c.args.value c.args.seen.now) = rw (to_z-of_z w64 c.args.value c.ranges.value) at c.ordered_start_refusal.ensures.first in
    rising_least c.ordered_start_refusal.result (part_tests c.args.value c.args.seen.now) told refl
