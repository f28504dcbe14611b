-- A member that has come some way with its program goes on, or has run it to the end.
use Rattle.std.proofs.Common.{◌≡◌, Bool, true, false, List, [], ◌∷◌, Option, Some, None, refl, sym, ap, ◌∙◌, subst}
use Rattle.gomp_icv.specs.Variables.{Variables}
use Rattle.gomp_types.specs.declared.call.Call.{Call}
use Rattle.gomp_types.specs.declared.call.Call.TheVariants.{LoopStart}
use Rattle.gomp_types.specs.declared.loop_desc.LoopDesc.{LoopDesc}
use Rattle.gomp_types.specs.declared.reply.Reply.{Reply}
use Rattle.gomp_types.specs.declared.reply.Reply.TheVariants.{Finished}
use Rattle.gomp_ompt.specs.declared.tool.Tool.{Ghosts as ToolGhosts}
use Rattle.gomp_course.specs.declared.course.Came.TheVariants.{On, Over, Fork}
use Rattle.gomp_course.specs.declared.forking.RegionAsked.{RegionAsked}
use Rattle.gomp_course.specs.declared.program.Act.{Act}
use Rattle.gomp_course.specs.declared.program.Act.TheVariants.{Parallel}
use Rattle.gomp_course.specs.declared.program.Program.{Ghosts as ProgramGhosts}
use Rattle.gomp_course.specs.Exchanges.{Exchange, asked_by, ends_by, end_tasks, end_tasks_after, is_over, last_reply, taken_after, taken_of}
use Rattle.gomp_course.specs.Forkers.{ForkerView, RunnerView}
use Rattle.gomp_course.specs.Runs.{ActsHere, ComesBy, CourseView, HasRun, Moves, Rejoins, Serves, call_made}

-- a call that starts no loop is made as it is
pub other_call_made : (icv : Variables) (call : Call) → ((desc : LoopDesc) → call ≡ LoopStart desc → ⊥) → call ≡ call_made icv call
other_call_made icv (LoopStart desc) other = absurd (other desc refl)
other_call_made icv call other = refl

module _ {I P T : Type 0} (program : ProgramGhosts P) (tool : ToolGhosts T) (forks : RegionAsked → ForkerView I P T → Reply → ForkerView I P T → Type 0) where
  -- by these exchanges a member has come so far with its program
  pub record StandsBehind (start : RunnerView I P T) (exchanges : List Exchange) (course : CourseView I P T) : Type 0 where
    pub came : ComesBy program tool forks start exchanges course.runner
    pub last : course.last ≡ last_reply exchanges
    pub end_tasks_are : course.end_tasks ≡ end_tasks exchanges
    pub taken_is : course.taken ≡ taken_of exchanges

  -- by some, and that is not over
  abbrev pub StandsBy : RunnerView I P T → CourseView I P T → Type 0
  StandsBy start course = (exchanges : List Exchange) × StandsBehind start exchanges course × (is_over exchanges ≡ false)

  pub stands_at_first : (start : RunnerView I P T) (course : CourseView I P T)
      → course.runner ≡ start → course.last ≡ Finished → course.end_tasks ≡ None → course.taken ≡ 0 → StandsBy start course
  stands_at_first start course runner last tasks taken = ([], record { came = runner; last = last; end_tasks_are = tasks; taken_is = taken }, refl)

  -- one exchange more
  one_more : (start : RunnerView I P T) (exchanges : List Exchange) (before after : CourseView I P T) (act : Option Act) (nested : Bool) (reply : Reply) (prog : P)
      → StandsBehind start exchanges before → is_over exchanges ≡ false → program.next_gives before.runner.prog before.last act prog
      → Serves program tool forks (record { act = act; nested = nested; reply = reply }) (record (before.runner) { prog = prog }) after.runner
      → after.last ≡ reply → after.end_tasks ≡ end_tasks_after (asked_by act) reply before.end_tasks → after.taken ≡ taken_after reply before.taken
      → StandsBehind start (record { act = act; nested = nested; reply = reply } ∷ exchanges) after
  one_more start exchanges before after act nested reply prog stands goes asked served last tasks taken = record {
    came = (
      before.runner,
      stands.came,
      record {
        goes = goes;
        prog = prog;
        asked = subst (λ handed. program.next_gives before.runner.prog handed act prog) stands.last asked;
        served = served;
      },
    );
    last = last;
    end_tasks_are = tasks ∙ ap (end_tasks_after (asked_by act) reply) stands.end_tasks_are;
    taken_is = taken ∙ ap (taken_after reply) stands.taken_is;
  }

  -- the same of an act within its team
  over_after : (start : RunnerView I P T) (exchanges : List Exchange) (before after : CourseView I P T) (act : Option Act) (over : Bool) (prog : P)
      → StandsBehind start exchanges before → is_over exchanges ≡ false → program.next_gives before.runner.prog before.last act prog
      → ActsHere tool act (record (before) { runner = record (before.runner) { prog = prog } }) after over
      → (longer : List Exchange) × StandsBehind start longer after × (is_over longer ≡ over)
  over_after start exchanges before after act over prog stands goes asked acts = (
    record { act = act; nested = false; reply = acts.reply } ∷ exchanges,
    one_more start exchanges before after act false acts.reply prog stands goes asked acts.served acts.notes.last acts.notes.end_tasks acts.notes.taken,
    sym (acts.over_is ∙ ap (ends_by act false acts.reply) stands.end_tasks_are),
  )

  pub stands_after : (start : RunnerView I P T) (before after : CourseView I P T) → Moves program tool before after On → StandsBy start before → StandsBy start after
  stands_after start before after moves (exchanges, stands, goes) = over_after start exchanges before after moves.act false moves.prog stands goes moves.asked moves.acts

  pub has_run_then : (start : RunnerView I P T) (before after : CourseView I P T) → Moves program tool before after Over → StandsBy start before
      → HasRun program tool forks start after.runner after.taken
  has_run_then start before after moves (exchanges, stands, goes) =
      let (longer, behind, over) = over_after start exchanges before after moves.act true moves.prog stands goes moves.asked moves.acts in
      record { exchanges = longer; came = behind.came; over = over; taken_is = behind.taken_is }

  -- and of a nested region that was forked
  pub stands_rejoined : (start : RunnerView I P T) (asked : RegionAsked) (before between after : CourseView I P T)
      → Moves program tool before between (Fork asked) → Rejoins forks asked between after → StandsBy start before → StandsBy start after
  stands_rejoined start asked before between after moves rejoins (exchanges, stands, goes) =
      let (act_is, found) = moves.acts in
      let parallel : Option Act = Some (Parallel asked.num_threads asked.if_clause) in (
        record { act = parallel; nested = true; reply = rejoins.reply } ∷ exchanges,
        one_more start exchanges before after parallel true rejoins.reply moves.prog stands goes
            (subst (λ act. program.next_gives before.runner.prog before.last act moves.prog) act_is moves.asked)
            (between.runner, found.tested, rejoins.forked)
            rejoins.notes.last
            (rejoins.notes.end_tasks ∙ ap (end_tasks_after (asked_by parallel) rejoins.reply) found.end_tasks)
            (rejoins.notes.taken ∙ ap (taken_after rejoins.reply) found.taken),
        refl,
      )
