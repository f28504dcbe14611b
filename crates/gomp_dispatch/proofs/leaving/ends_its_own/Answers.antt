use Rattle.std.proofs.Common.{◌∙◌, ap, sym}
use Rattle.std.specs.Prelude.{◌||◌, is_none}
use Rattle.gomp_types.specs.Least.{least}
use Rattle.gomp_shares.specs.Admission.{end_tests_of}
use Rattle.gomp_shares.proofs.Admitted.{end_tests_rise}
use Rattle.gomp_dispatch.proofs.Refused.{rising_least}
use Rattle.gomp_dispatch.proofs.LeavingTests.{end_let, is_none_so}
use Rattle.gomp_dispatch.proofs.leaving.ends_its_own.Goals as goal

pub returns-then-leaves_alone : goal.returns-then-leaves_alone
returns-then-leaves_alone c =
    let tests = end_tests_of c.args.construct c.args.end_kind c.args.seen.now in
    let placed = is_none_so c.is_none-placed.result c.end_construct_refusal.result (sym c.is_none-placed.ensures) ∙ ap is_none (rising_least c.end_construct_refusal.result tests c.end_construct_refusal.ensures.first (end_tests_rise c.args.construct c.args.end_kind c.args.seen.now)) in
    placed ∙ end_let c.args.seen.now.leaving (c.args.leaving.region || c.args.leaving.task) (is_none (least tests)) c.leaves_alone.result c.leaves_alone.ensures c.if-leaves_alone.true
