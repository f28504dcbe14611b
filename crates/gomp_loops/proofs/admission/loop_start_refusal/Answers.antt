use Rattle.std.proofs.Common.{◌∙◌, ap}
use Rattle.std.specs.Result.{result_err}
use Rattle.gomp_types.specs.Tests.{first_holding}
use Rattle.gomp_types.specs.Iterations.{loop_tests}
use Rattle.gomp_types.specs.Pieces.{shape_of}
use Rattle.gomp_shares.specs.Starts.{start_tests}
use Rattle.gomp_shares.proofs.Admitted.{outcome_err}
use Rattle.gomp_loops.proofs.admission.loop_start_refusal.Goals as goal

pub returns : goal.returns
returns c = record {
  first = c.err.ensures.value ∙ ap result_err c.loop_start_shape.ensures.first
      ∙ outcome_err (first_holding (start_tests (loop_tests c.args.desc.now) c.args.limits.now c.args.seen.now)) (shape_of c.args.desc.now);
}
