-- Which ring it is, and of what team. (own)
use Rattle.std.specs.Prelude.{ℕ}
use Rattle.atomic_table.specs.Seated.{TableId}
use Rattle.gomp_slots.specs.Premises.{slots_table, slots_members}
use Rattle.gomp_ring.specs.declared.ring.Ring.{Ring}

-- a ring is that of its slots
abbrev pub ring_table : Ring → TableId
ring_table ring = slots_table ring.slots

-- and for as many members
abbrev pub ring_members : Ring → ℕ
ring_members ring = slots_members ring.slots
