use Rattle.std.proofs.Common.{◌≡◌, ◌++◌, string_bytes}
use Rattle.gomp_trace.specs.Json.{names_text}
use Rattle.gomp_trace.proofs.json.push_names.Given as goal

-- the names so far are written
abbrev pub invariant-loop-member : goal.invariant-loop-member
invariant-loop-member l = string_bytes l.text ≡ string_bytes l.fn.text ++ names_text l.fn.members l.member-counter
