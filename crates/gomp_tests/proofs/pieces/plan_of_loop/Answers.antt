use Rattle.std.proofs.Common.{◌≡◌, ◌∙◌, sym}
use Rattle.gomp_types.specs.Tests.{first_holding}
use Rattle.gomp_types.specs.Iterations.{loop_tests}
use Rattle.gomp_types.specs.Pieces.{shape_of}
use Rattle.gomp_tests.proofs.pieces.plan_of_loop.Goals as goal
use Rattle.gomp_types.proofs.TestRows.{outcome_value}

pub of-requires-clause-shape : goal.of-requires-clause-shape
of-requires-clause-shape c =
    let is : c.in_ok-shape.field-0 ≡ shape_of c.args.desc.now = outcome_value (first_holding (loop_tests c.args.desc.now)) (shape_of c.args.desc.now) c.in_ok-shape.field-0 (sym c.shape.ensures.shape ∙ c.in_ok-shape.was) in
    rw is c.in_ok-shape.ensures.fits
