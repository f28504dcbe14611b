use Rattle.std.proofs.Common.{◌≡◌, ◌∙◌, sym}
use Rattle.gomp_types.specs.Tests.{first_holding}
use Rattle.gomp_types.specs.Iterations.{loop_tests}
use Rattle.gomp_types.specs.Pieces.{shape_of}
use Rattle.gomp_types.proofs.TestRows.{outcome_value}
use Rattle.gomp_ring_tests.proofs.constructs.loop_of.Goals as goal

pub unordered-requires : goal.unordered-requires
unordered-requires c =
    let is : c.in-Ok.shape ≡ shape_of c.args.desc.now = outcome_value (first_holding (loop_tests c.args.desc.now)) (shape_of c.args.desc.now) c.in-Ok.shape (sym c.shape.ensures.shape ∙ c.in-Ok.is) in
    record { valid = rw is c.in-Ok.ensures.fits }
