-- Whatever comes of a nested region, the control variables of its member's region are as they were.
use Rattle.std.proofs.Common.{ap, inl, inr}
use Rattle.gomp_ompt.specs.declared.tool.Tool.{Ghosts as ToolGhosts}
use Rattle.gomp_course.specs.declared.program.Program.{Ghosts as ProgramGhosts}
use Rattle.gomp_course.specs.Forkers.{KeepsVariables}
use Rattle.gomp_fork.specs.Teams.{ForksRelation}
use Rattle.gomp_nested.specs.Nested.{ForksWithin}

pub within_keeps_variables : {P T : Type 0} (program : ProgramGhosts P) (tool : ToolGhosts T) (forks : ForksRelation P T) → KeepsVariables (ForksWithin program tool forks)
within_keeps_variables program tool forks asked before after reply (inl (why, same)) = ap (λ forker. forker.icv) same
within_keeps_variables program tool forks asked before after reply (inr has) = has.icv_is
