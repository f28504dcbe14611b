-- What holds of the records of every call, and of every tool of this crate.
use Rattle.std.proofs.Common.{◌≡◌, ◌≢◌, ℕ, ◌+◌, ◌-◌, ◌^◌, ◌<◌, true, false, List, [], ◌∷◌, ◌++◌, inl, inr, length, length-append, refl, ap, arith}
use Rattle.std.proofs.lemmas.List.{get_or-set_same, get_or-set_other}
use Rattle.gomp_types.specs.declared.call.Call.{Call}
use Rattle.gomp_types.specs.declared.call.Call.TheVariants.{Barrier}
use Rattle.gomp_types.specs.declared.reply.Reply.{Reply}
use Rattle.gomp_types.specs.declared.reply.Reply.TheVariants.{Wait}
use Rattle.gomp_ompt.specs.declared.record.Point.{Point}
use Rattle.gomp_ompt.specs.declared.record.Record.{Record}
use Rattle.gomp_ompt.specs.declared.record.TheConstants.{POINTS}
use Rattle.gomp_ompt.specs.Table.{is_silent, entries_of, present_records, records_of}
use Rattle.gomp_ompt.specs.Points.{point_index}
use Rattle.gomp_ompt.specs.Counts.{capped, count_of, with_record}
use Rattle.gomp_ompt.specs.Traces.{TraceView, TakesRecord}
use Rattle.gomp_ompt.proofs.Places.{place_tells_the_event, place_is_below_fourteen}

-- the entries of a call that waits and is resumed are those of one that is answered at once
waiting_adds_no_entry : (call : Call) (reply : Reply) → present_records (entries_of call false Wait) ≡ [] → present_records (entries_of call true Wait) ++ present_records (entries_of call false reply) ≡ present_records (entries_of call true reply)
waiting_adds_no_entry Barrier reply waits = refl
waiting_adds_no_entry call reply waits = cc

-- so a call that waits, whose resumes give no record while it waits on, gives in all what it would give if it were answered at once
pub waiting_adds_no_record : (call : Call) (reply : Reply) → is_silent reply ≡ false → records_of call false Wait ≡ [] → records_of call true Wait ++ records_of call false reply ≡ records_of call true reply
waiting_adds_no_record call reply speaks waits = rw speaks (waiting_adds_no_entry call reply waits)

-- a record is counted once, as one of its event
pub record_counts_once : (counts : List ℕ) (event : Record) → length counts ≡ POINTS → count_of (with_record counts event) event.point ≡ capped (count_of counts event.point + 1)
record_counts_once counts event whole = get_or-set_same counts (point_index event.point) _ 0 (let small = place_is_below_fourteen event.point in omega (arith, whole, small))

-- and as one of no other
pub other_counts_stay : (counts : List ℕ) (event : Record) (point : Point) → point ≢ event.point → count_of (with_record counts event) point ≡ count_of counts point
other_counts_stay counts event point apart = get_or-set_other counts (point_index event.point) (point_index point) _ 0 (λ same. apart (place_tells_the_event point event.point same))

-- a trace keeps a record, or counts it as lost
pub no_record_vanishes : (old new : TraceView) (event : Record) → old.lost < 2 ^ 64 - 1 → TakesRecord old event new → length new.records + new.lost ≡ length old.records + old.lost + 1
no_record_vanishes old new event few takes = elim takes [
  | inl keeps ↦ omega (arith, few, ap length keeps.kept, length-append old.records (event ∷ []), keeps.lost)
  | inr loses ↦ omega (arith, few, ap length loses.kept, loses.lost)
]
