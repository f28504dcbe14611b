-- The next share of a member that compares as a single is one.
use Rattle.std.proofs.Common.{◌≡◌, ℕ, true, false, List, ap, sym}
use Rattle.gomp_events.specs.declared.event.Event.{Event}
use Rattle.gomp_types.specs.declared.shape.Shape.{Shape}
use Rattle.gomp_types.specs.Compare.{shape_differs}
use Rattle.gomp_events.specs.Events.{shape_at}
use Rattle.gomp_types.specs.Shapes.{is_single}
use Rattle.gomp_types.specs.Singles.{single_shape}
use Rattle.gomp_types.proofs.Compared.{same_shapes}
use Rattle.gomp_shares.specs.Calls.{IsSingleAt}

pub single_there : (share : ℕ) (h : List Event) → false ≡ shape_differs (single_shape true) (shape_at share h) → IsSingleAt share h
single_there share h same shape there =
    ap (λ (s : Shape). is_single s.kind) (same_shapes (single_shape true) (shape_at share h) (sym same) shape there)
