-- Plans and spots that the examples share. (own)
use Rattle.std.specs.Prelude.{ℕ, ℤ, pos, false}
use Rattle.gomp_types.specs.declared.loop_desc.EndKind.TheVariants.{Wait as WaitEnd}
use Rattle.gomp_types.specs.declared.loop_desc.Sched.{Sched}
use Rattle.gomp_types.specs.declared.loop_desc.Sched.TheVariants.{Static, Dynamic, Guided}
use Rattle.gomp_types.specs.declared.shape.Shape.{Shape}
use Rattle.gomp_types.specs.Pieces.{shape_of}
use Rattle.gomp_types.specs.Sections.{sections_shape}
use Rattle.gomp_chunks.specs.Plans.{PlanView}
use Rattle.gomp_chunks.specs.declared.guided.Spot.{Spot}

-- a loop from 0 in steps of 1, of so many iterations
abbrev pub loop_shape : Sched → ℤ → ℤ → Shape
loop_shape sched trips chunk =
    shape_of (record { start = pos 0; end = trips; incr = pos 1; sched = sched; chunk = chunk; ordered = false; end_kind = WaitEnd })

abbrev pub plan_for : ℕ → Shape → PlanView
plan_for members shape = record { members = members; shape = shape }

-- its plan in a team of this size
abbrev pub loop_plan : ℕ → Sched → ℤ → ℤ → PlanView
loop_plan members sched trips chunk = plan_for members (loop_shape sched trips chunk)

-- the plan of so many sections in a team of two
abbrev pub sections_plan : ℕ → PlanView
sections_plan count = plan_for 2 (sections_shape count WaitEnd)

-- ten iterations in chunks of three, in a team of two
abbrev pub static_ten : PlanView
static_ten = loop_plan 2 Static (pos 10) (pos 3)

abbrev pub dynamic_ten : PlanView
dynamic_ten = loop_plan 2 Dynamic (pos 10) (pos 3)

abbrev pub guided_ten : PlanView
guided_ten = loop_plan 2 Guided (pos 10) (pos 3)

-- and without a chunk
abbrev pub even_ten : PlanView
even_ten = loop_plan 2 Static (pos 10) (pos 0)

-- twenty iterations in pieces of two at least
abbrev pub guided_twenty : Shape
guided_twenty = loop_shape Guided (pos 20) (pos 2)

abbrev pub spot_at : ℕ → ℕ → Spot
spot_at number first = record { number = number; first = first }
