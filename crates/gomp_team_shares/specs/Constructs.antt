-- The start of a construct that is a share: what it is tested for, and its share's shape. OpenMP API 5.2, sections 11.1, 11.3, 11.5 and 5.7.2.
use Rattle.std.specs.Prelude.{ℕ, true, false, List, []}
use Rattle.gomp_types.specs.declared.limits.Limits.{Limits}
use Rattle.gomp_types.specs.declared.shape.Shape.{Shape}
use Rattle.gomp_types.specs.Iterations.{loop_tests}
use Rattle.gomp_types.specs.Pieces.{shape_of}
use Rattle.gomp_types.specs.Sections.{sections_shape, sections_tests}
use Rattle.gomp_types.specs.Singles.{single_shape}
use Rattle.gomp_types.specs.Tests.{Test}
use Rattle.gomp_events.specs.declared.event.Event.{Event}
use Rattle.gomp_shares.specs.Starts.{share_tests}
use Rattle.gomp_team_shares.specs.declared.start.ShareStart.{ShareStart}
use Rattle.gomp_team_shares.specs.declared.start.ShareStart.TheVariants.{Loop, Sections, Single, SingleCopy}

-- the tests of the construct by itself
abbrev pub construct_tests : ShareStart → List Test
construct_tests (Loop loop) = loop_tests loop
construct_tests (Sections count end_kind) = sections_tests count
construct_tests Single = []
construct_tests SingleCopy = []

-- the shape of its share
abbrev pub construct_shape : ShareStart → Shape
construct_shape (Loop loop) = shape_of loop
construct_shape (Sections count end_kind) = sections_shape count end_kind
construct_shape Single = single_shape false
construct_shape SingleCopy = single_shape true

-- all tests of the start: the member is in no share, the construct by itself, the limit, and the comparison with the team's share
abbrev pub construct_start_tests : ShareStart → Limits → ℕ → List Event → List Test
construct_start_tests start limits m h = share_tests (construct_tests start) (construct_shape start) limits m h
