-- What a member never counts of nested regions, of any programs, tools and exchanges.
use Rattle.std.proofs.Common.{ℕ, ◌≡◌, ◌≢◌, Bool, true, false, List, [], ◌∷◌, Option, Some, None, ap, ◌∙◌}
use Rattle.gomp_types.specs.declared.reply.Reply.{Reply}
use Rattle.gomp_ompt.specs.declared.tool.Tool.{Ghosts as ToolGhosts}
use Rattle.gomp_team.specs.Members.{TeamView}
use Rattle.gomp_course.specs.declared.program.Act.{Act}
use Rattle.gomp_course.specs.declared.program.Act.TheVariants.{Do, Parallel}
use Rattle.gomp_course.specs.declared.program.Program.{Ghosts as ProgramGhosts}
use Rattle.gomp_course.specs.Exchanges.{Exchange}
use Rattle.gomp_course.specs.Runs.{ComesBy, ServesHere, ServesIf}
use Rattle.gomp_fork.specs.Counts.{nothing_counted}
use Rattle.gomp_fork.specs.Teams.{EndView, ForksRelation, MemberHasRun}

-- by none of these exchanges was a nested region forked
abbrev pub fork_none : List Exchange → Type 0
fork_none [] = Unit {0}
fork_none (exchange ∷ earlier) = (exchange.nested ≡ false) × fork_none earlier

module _ {P T : Type 0} (program : ProgramGhosts P) (tool : ToolGhosts T) (forks : ForksRelation P T) where
  here_keeps_inner : (act : Option Act) (reply : Reply) (before after : EndView P T) → ServesHere tool act reply before after → after.inner ≡ before.inner
  here_keeps_inner (Some (Do call)) reply before after served = served.inner_is
  here_keeps_inner (Some (Parallel num_threads if_clause)) reply before after (refusal, tests, refused) = tests.tested.inner_is
  here_keeps_inner None reply before after served = served.inner_is

  served_keeps_inner : (nested : Bool) (act : Option Act) (reply : Reply) (before after : EndView P T) → nested ≡ false → ServesIf program tool forks nested act reply before after → after.inner ≡ before.inner
  served_keeps_inner false act reply before after none served = here_keeps_inner act reply before after served
  served_keeps_inner true act reply before after none served = absurd (cc none)

  came_with_inner : (start end : EndView P T) (exchanges : List Exchange) → fork_none exchanges → ComesBy program tool forks start exchanges end → end.inner ≡ start.inner
  came_with_inner start end [] none came = ap (λ reached. reached.inner) came
  came_with_inner start end (exchange ∷ earlier) (here, before_it) (before, came, goes) =
      served_keeps_inner exchange.nested exchange.act exchange.reply (record (before) { prog = goes.prog }) end here goes.served ∙ came_with_inner start before earlier before_it came

  -- A member that forked no nested region has counted nothing of one
  pub nothing_is_counted_of_no_region : (n : ℕ) (team : TeamView) (m : ℕ) (prog : P) (own : T) (end : EndView P T) (taken : ℕ)
      (ran : MemberHasRun program tool forks n team m prog own end taken) → fork_none ran.ran.exchanges → end.inner ≢ nothing_counted → ⊥
  nothing_is_counted_of_no_region n team m prog own end taken ran none some =
      some (came_with_inner (record { prog = prog; member = ran.member; inner = nothing_counted }) end ran.ran.exchanges none ran.ran.came)
