-- Which call a step makes: its own, or the one that waits, which a resume repeats. (own)
use Rattle.std.specs.Prelude.{Bool, true, false, Option, Some}
use Rattle.gomp_types.specs.declared.call.Call.{Call}
use Rattle.gomp_types.specs.declared.call.Call.TheVariants.{Resume}

-- the call that a step makes, or repeats if it is a resume
abbrev pub call_meant : Call → Option Call → Call
call_meant Resume (Some call) = call
call_meant call waiting = call

-- whether a call asks again what waits
abbrev pub is_resume : Call → Bool
is_resume Resume = true
is_resume _ = false
