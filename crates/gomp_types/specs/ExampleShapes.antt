-- Shapes that the examples share. (own)
use Rattle.std.specs.Prelude.{Bool, pos, false}
use Rattle.gomp_types.specs.declared.loop_desc.EndKind.TheVariants.{Wait as WaitEnd, Nowait}
use Rattle.gomp_types.specs.declared.shape.Shape.{Shape}
use Rattle.gomp_types.specs.declared.shape.ShareKind.{ShareKind}
use Rattle.gomp_types.specs.declared.shape.ShareKind.TheVariants.{StaticChunked, StaticEven, Dynamic}

-- a loop of four iterations in chunks of two, ordered or not
abbrev pub four : Bool → Shape
four ordered = record { start = pos 0; incr = pos 1; trips = 4; kind = Dynamic; chunk = 2; ordered = ordered; end_kind = WaitEnd }

-- one without iterations
abbrev pub no_iterations : Shape
no_iterations = record (four false) { trips = 0 }

-- one of six in chunks of three
abbrev pub wider : Shape
wider = record { start = pos 0; incr = pos 1; trips = 6; kind = Dynamic; chunk = 3; ordered = false; end_kind = WaitEnd }

-- and one whose chunks are assigned beforehand
abbrev pub static_four : Shape
static_four = record { start = pos 0; incr = pos 1; trips = 4; kind = StaticChunked; chunk = 2; ordered = false; end_kind = WaitEnd }

-- or without a chunk, a piece for each member
abbrev pub even_four : Shape
even_four = record { start = pos 0; incr = pos 1; trips = 4; kind = StaticEven; chunk = 0; ordered = false; end_kind = WaitEnd }

-- ten iterations of this kind, in chunks of two
abbrev pub ten : ShareKind → Shape
ten kind = record { start = pos 0; incr = pos 1; trips = 10; kind = kind; chunk = 2; ordered = false; end_kind = Nowait }
