use Rattle.std.proofs.Common.{◌≡◌, ◌++◌, codes, take, string_bytes}
use Rattle.std.specs.Prelude.{flat_map}
use Rattle.gomp_trace.specs.Json.{names_text, next_line, event_data}
use Rattle.gomp_trace.proofs.json.trace_text.Given as goal

-- the events so far are written
abbrev pub invariant-loop-event : goal.invariant-loop-event
invariant-loop-event l = string_bytes l.text ≡ codes "{\"traceEvents\":[\n" ++ names_text l.members l.members ++ flat_map (λ traced. next_line (event_data traced)) (take l.event-index l.events)
