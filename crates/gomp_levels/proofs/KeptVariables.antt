-- Within the last level the control variables of a member's region stay.
use Rattle.std.proofs.Common.{ap}
use Rattle.gomp_course.specs.Forkers.{KeepsVariables}
use Rattle.gomp_levels.specs.Levels.{NoneForked}

pub none_keeps_variables : {P T : Type 0} → KeepsVariables (NoneForked {P = P} {T = T})
none_keeps_variables asked before after reply forked = ap (λ forker. forker.icv) forked.1
