use Rattle.gomp_rows.specs.Table.{all_keys, IsTable, IsFront}
use Rattle.gomp_rows.proofs.Tables.{grown_table}
use Rattle.gomp_rows.proofs.rows.Rows.reserve.Goals as goal
use Rattle.gomp_rows.proofs.rows.Rows.reserve.Goals.{then-len-capacity+in_ok-reserve_exact, else-len-capacity}

pub invariant_of-self-2 : goal.invariant_of-self-2
invariant_of-self-2 g c =
    let now = c.if-len-capacity.self-inside in
    let kept : IsTable now.slab (all_keys now.base now.keys.items) × IsFront now.dead now.keys.items = elim c.if-len-capacity.branch [
      | then-len-capacity+in_ok-reserve_exact w ↦ rw (w.self-inside-is, w.reserve_exact.ensures.items) c.self.invariant
      | else-len-capacity w ↦ rw w.self-inside-is c.self.invariant
    ] in
    (grown_table now.slab c.reserve_exact-2.new.self _ c.reserve_exact-2.ensures.rest_kept kept.0, kept.1)
