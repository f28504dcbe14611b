-- A member that runs a program, and what it hands on as it forks a nested region. (own; OpenMP API 5.2, section 10.1)
use Rattle.std.specs.Prelude.{◌≡◌}
use Rattle.gomp_icv.specs.Variables.{Variables}
use Rattle.gomp_types.specs.declared.reply.Reply.{Reply}
use Rattle.gomp_team.specs.Members.{MemberView}
use Rattle.gomp_course.specs.declared.forking.RegionAsked.{RegionAsked}

-- a member with its program, and what it has for the regions that it forks
pub record RunnerView (I P T : Type 0) : Type 0 where
  pub prog : P
  pub member : MemberView T
  pub inner : I

-- what it hands on as it forks one, and has again behind it: its program, its tool, the control variables of its region, and what it has for them
pub record ForkerView (I P T : Type 0) : Type 0 where
  pub prog : P
  pub tool : T
  pub icv : Variables
  pub inner : I

-- of a runner
abbrev pub forker_of : {I P T : Type 0} → RunnerView I P T → ForkerView I P T
forker_of runner = record { prog = runner.prog; tool = runner.member.tool; icv = runner.member.icv; inner = runner.inner }

-- whatever comes of a nested region, its member has its variables again
abbrev pub KeepsVariables : {I P T : Type 0} → (RegionAsked → ForkerView I P T → Reply → ForkerView I P T → Type 0) → Type 0
KeepsVariables {I} {P} {T} forks = (asked : RegionAsked) (before after : ForkerView I P T) (reply : Reply) → forks asked before reply after → after.icv ≡ before.icv
