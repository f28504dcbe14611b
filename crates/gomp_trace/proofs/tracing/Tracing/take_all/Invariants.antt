use Rattle.std.proofs.Common.{◌≡◌, drop, length}
use Rattle.gomp_trace.specs.Runs.{with_records}
use Rattle.gomp_trace.proofs.tracing.Tracing.take_all.Given as goal

-- with the records that are left the whole is taken
abbrev pub invariant-loop-event : goal.invariant-loop-event
invariant-loop-event l = record {
  traced : with_records l.time l.member (drop l.event-index l.events) l.self ≡ with_records l.time l.member l.events l.fn.self;
  lanes : length l.self.lanes ≡ length l.fn.self.lanes;
}
