-- What the tools of a region are told by the runtime itself, read record by record.
use Rattle.std.proofs.Common.{ℕ, ◌≡◌, List, ◌∷◌}
use Rattle.gomp_ompt.specs.declared.record.Endpoint.TheVariants.{Begin, Single}
use Rattle.gomp_ompt.specs.declared.record.Point.TheVariants.{ImplicitTask, ParallelBegin, ParallelEnd}
use Rattle.gomp_ompt.specs.declared.tool.Tool.{Ghosts as ToolGhosts}
use Rattle.gomp_team.specs.Members.{TeamView}
use Rattle.gomp_course.specs.declared.program.Program.{Ghosts as ProgramGhosts}
use Rattle.gomp_fork.specs.Teams.{EndView, ForksRelation, MemberHasRun}
use Rattle.gomp_runtime.specs.Regions.{FirstIsTold}

module _ {P T : Type 0} (program : ProgramGhosts P) (tool : ToolGhosts T) (forks : ForksRelation P T) where
  -- that of member m of n: that it begins, before any record of a call
  pub member_begins : (n : ℕ) (team : TeamView) (m : ℕ) (prog : P) (own : T) (end : EndView P T) (taken : ℕ) (ran : MemberHasRun program tool forks n team m prog own end taken)
      → tool.on_gives own (record { point = ImplicitTask; scope = Begin; id = m; extra = n }) ran.member.tool
  member_begins n team m prog own end taken ran = ran.begins

-- that of member 0 of an outermost team of n, and of no other: that the team begins
pub outermost_team_begins : {T : Type 0} (tool : ToolGhosts T) (n : ℕ) (own : T) (others after : List T) → FirstIsTold tool ParallelBegin n (own ∷ others) after
    → (told : T) × tool.on_gives own (record { point = ParallelBegin; scope = Single; id = n; extra = 0 }) told × (after ≡ told ∷ others)
outermost_team_begins tool n own others after told = told

-- and behind it that it has ended
pub outermost_team_has_ended : {T : Type 0} (tool : ToolGhosts T) (n : ℕ) (own : T) (others after : List T) → FirstIsTold tool ParallelEnd n (own ∷ others) after
    → (told : T) × tool.on_gives own (record { point = ParallelEnd; scope = Single; id = n; extra = 0 }) told × (after ≡ told ∷ others)
outermost_team_has_ended tool n own others after told = told
