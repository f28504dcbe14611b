-- Members that have run their programs have the parts of the ledgers that they were given.
use Rattle.std.proofs.Common.{ℕ, ◌≡◌, ◌+◌, Bool, true, false, List, [], ◌∷◌, Option, Some, None, refl, sym, subst, ap, ◌∙◌}
use Rattle.std.specs.Prelude.{All}
use Rattle.std.proofs.lemmas.List.Elements.{All-nil, All-cons}
use Rattle.gomp_types.specs.declared.call.Call.{Call}
use Rattle.gomp_types.specs.declared.reply.Reply.{Reply}
use Rattle.gomp_ompt.specs.declared.tool.Tool.{Ghosts as ToolGhosts}
use Rattle.gomp_team.specs.Members.{TeamView, MemberView}
use Rattle.gomp_team.proofs.PartsStay.{whole_call_keeps_events_parts, whole_call_keeps_holds_parts, whole_call_keeps_releases_parts}
use Rattle.gomp_team_region.specs.Regions.{HasOneOfEach}
use Rattle.gomp_course.specs.declared.program.Act.{Act}
use Rattle.gomp_course.specs.declared.program.Act.TheVariants.{Do, Parallel}
use Rattle.gomp_course.specs.declared.program.Program.{Ghosts as ProgramGhosts}
use Rattle.gomp_course.specs.Exchanges.{Exchange}
use Rattle.gomp_course.specs.Runs.{ComesBy, MakesCall, ServesHere, ServesIf}
use Rattle.gomp_fork.specs.Counts.{nothing_counted}
use Rattle.gomp_fork.specs.Teams.{EachHasRun, EndView, ForksRelation, MemberHasRun, members_of}

-- a member has as many parts as before
pub record KeepsParts {T : Type 0} (before after : MemberView T) : Type 0 where
  pub events : after.events.parts ≡ before.events.parts
  pub held : after.held.parts ≡ before.held.parts
  pub freed : after.freed.parts ≡ before.freed.parts

module _ {P T : Type 0} (program : ProgramGhosts P) (tool : ToolGhosts T) (forks : ForksRelation P T) where
  parts_then : (one two three : MemberView T) → KeepsParts one two → KeepsParts two three → KeepsParts one three
  parts_then one two three first second = record { events = second.events ∙ first.events; held = second.held ∙ first.held; freed = second.freed ∙ first.freed }

  call_keeps_parts : (call : Call) (reply : Reply) (before after : EndView P T) → MakesCall tool call reply before after → KeepsParts before.member after.member
  call_keeps_parts call reply before after makes = record {
    events = whole_call_keeps_events_parts tool.on_gives call reply before.member after.member makes.called;
    held = whole_call_keeps_holds_parts tool.on_gives call reply before.member after.member makes.called;
    freed = whole_call_keeps_releases_parts tool.on_gives call reply before.member after.member makes.called;
  }

  here_keeps_parts : (act : Option Act) (reply : Reply) (before after : EndView P T) → ServesHere tool act reply before after → KeepsParts before.member after.member
  here_keeps_parts (Some (Do call)) reply before after served = call_keeps_parts _ reply before after served
  here_keeps_parts (Some (Parallel num_threads if_clause)) reply before after (refusal, tests, told) = call_keeps_parts _ tests.shown before after tests.tested
  here_keeps_parts None reply before after served = call_keeps_parts _ reply before after served

  served_keeps_parts : (nested : Bool) (act : Option Act) (reply : Reply) (before after : EndView P T) → ServesIf program tool forks nested act reply before after → KeepsParts before.member after.member
  served_keeps_parts false act reply before after served = here_keeps_parts act reply before after served
  served_keeps_parts true (Some (Parallel num_threads if_clause)) reply before after (tested, tests, has) =
      parts_then before.member tested.member after.member (call_keeps_parts _ tests.shown before tested tests.tested)
      (record { events = ap (λ member. member.events.parts) has.member_is; held = ap (λ member. member.held.parts) has.member_is; freed = ap (λ member. member.freed.parts) has.member_is })
  served_keeps_parts true (Some (Do call)) reply before after served = absurd served
  served_keeps_parts true None reply before after served = absurd served

  came_with_parts : (start end : EndView P T) (exchanges : List Exchange) → ComesBy program tool forks start exchanges end → KeepsParts start.member end.member
  came_with_parts start end [] came = subst (λ reached. KeepsParts start.member reached.member) (sym came) (record { events = refl; held = refl; freed = refl })
  came_with_parts start end (exchange ∷ earlier) (before, came, goes) =
      parts_then start.member before.member end.member (came_with_parts start before earlier came)
      (served_keeps_parts exchange.nested exchange.act exchange.reply (record (before) { prog = goes.prog }) end goes.served)

  one_of_each : (n : ℕ) (team : TeamView) (m : ℕ) (prog : P) (own : T) (end : EndView P T) (taken : ℕ) → MemberHasRun program tool forks n team m prog own end taken → HasOneOfEach end.member
  one_of_each n team m prog own end taken ran =
      let kept = came_with_parts (record { prog = prog; member = ran.member; inner = nothing_counted }) end ran.ran.exchanges ran.ran.came in
      record {
        events = kept.events ∙ ap (λ part. part.parts) ran.new.events;
        held = kept.held ∙ ap (λ part. part.parts) ran.new.held;
        freed = kept.freed ∙ ap (λ part. part.parts) ran.new.freed;
      }

  pub ends_have_one_of_each : (n : ℕ) (team : TeamView) (m : ℕ) (progs : List P) (tools : List T) (ends : List (EndView P T)) (taken : List ℕ)
      → EachHasRun program tool forks n team m progs tools ends taken → All HasOneOfEach (members_of ends)
  ends_have_one_of_each n team m [] [] [] [] ran = All-nil HasOneOfEach
  ends_have_one_of_each n team m (prog ∷ progs) (own ∷ tools) (end ∷ ends) (taken ∷ others) (one, rest) =
      All-cons HasOneOfEach end.member (members_of ends) (one_of_each n team m prog own end taken one) (ends_have_one_of_each n team (m + 1) progs tools ends others rest)
  ends_have_one_of_each n team m _ _ _ _ ran = absurd ran
