-- What is never written on a lane, of any record and whatever has begun on it.
use Rattle.std.proofs.Common.{List, [], reverse}
use Rattle.gomp_ompt.specs.declared.record.Record.{Record}
use Rattle.gomp_trace.specs.Lanes.{all_ended, lane_records, lane_after}
use Rattle.gomp_trace.specs.Nesting.{Nests}
use Rattle.gomp_trace.proofs.Laws.{AllBegin, closing_nests, record_nests}

-- the end of a trace never leaves open what has begun on a lane
pub closing_never_fails_to_nest : (begun : List Record) → (Nests (reverse begun) (all_ended begun) [] → ⊥) → ⊥
closing_never_fails_to_nest begun fails = fails (closing_nests begun)

-- what is written of a record never ends anything but the innermost that has begun
pub record_never_fails_to_nest : (event : Record) (begun : List Record) → AllBegin begun → (Nests (reverse begun) (lane_records event begun) (reverse (lane_after event begun)) → ⊥) → ⊥
record_never_fails_to_nest event begun all fails = fails (record_nests event begun all).0

-- nor does it leave an end among what has begun
pub record_never_leaves_an_end : (event : Record) (begun : List Record) → AllBegin begun → (AllBegin (lane_after event begun) → ⊥) → ⊥
record_never_leaves_an_end event begun all fails = fails (record_nests event begun all).1
