-- What a program that runs and its member never are, of any programs, tools and replies.
use Rattle.std.proofs.Common.{ℕ, ◌≡◌, ◌≢◌, ◌+◌, Bool, true, false, List, ◌∷◌, Option, Some, None, refl, sym, ap, arith, ◌==◌}
use Rattle.std.proofs.lemmas.Bool.Decides.{nat_tests}
use Rattle.gomp_types.specs.declared.refusal.Clash.{Clash}
use Rattle.gomp_types.specs.declared.refusal.Refusal.TheVariants.{Broken, NoLock}
use Rattle.gomp_types.specs.declared.reply.Reply.{Reply}
use Rattle.gomp_types.specs.declared.reply.Reply.TheVariants.{Passed, Stopped, Refused, Run, TaskDone}
use Rattle.gomp_ompt.specs.declared.tool.Tool.{Ghosts as ToolGhosts}
use Rattle.gomp_course.specs.declared.asked.Asked.{Asked}
use Rattle.gomp_course.specs.declared.asked.Asked.TheVariants as asked
use Rattle.gomp_course.specs.declared.forking.RegionAsked.{RegionAsked}
use Rattle.gomp_course.specs.declared.program.Act.{Act}
use Rattle.gomp_course.specs.declared.program.Act.TheVariants.{Parallel}
use Rattle.gomp_course.specs.declared.program.Program.{Ghosts as ProgramGhosts}
use Rattle.gomp_course.specs.Exchanges.{Exchange, end_tasks_after, ends_by, is_last, is_over, taken_of, tests_refusal}
use Rattle.gomp_course.specs.Forkers.{ForkerView, RunnerView}
use Rattle.gomp_course.specs.Runs.{GoesOn, HasForked, HasRun, Serves, ServesHere, ServesNested}

-- When a program is asked no more

pub asked_no_more_once_the_end_is_passed : (tasks : Option ℕ) → is_last asked.End Passed tasks ≡ false → ⊥
asked_no_more_once_the_end_is_passed tasks goes = absurd (cc goes)

pub asked_no_more_once_stopped : (asks : Asked) (tasks : Option ℕ) → is_last asks Stopped tasks ≡ false → ⊥
asked_no_more_once_stopped asks tasks goes = absurd (cc goes)

pub asked_no_more_once_broken : (asks : Asked) (clash : Clash) (tasks : Option ℕ) → is_last asks (Refused (Broken clash)) tasks ≡ false → ⊥
asked_no_more_once_broken asks clash tasks goes = absurd (cc goes)

pub asked_no_more_without_memory : (nested : Bool) (reply : Reply) (tasks : Option ℕ) → ends_by None nested reply tasks ≡ false → ⊥
asked_no_more_without_memory nested reply tasks goes = absurd (cc goes)

-- a barrier is not the region's end, and a task that was started there is none
pub asked_on_behind_a_barrier : (tasks : Option ℕ) → is_last asked.Other Passed tasks ≡ true → ⊥
asked_on_behind_a_barrier tasks last = absurd (cc last)

pub asked_on_inside_a_task : (n : ℕ) → is_last asked.Again Passed (Some (n + 1)) ≡ true → ⊥
asked_on_inside_a_task n last =
    let test : (n + 1 == 0) ≡ true = last in
    let none : n + 1 ≡ 0 = grind (arith, nat_tests) in
    absurd (omega arith)

pub asked_on_before_the_end : is_last asked.Again Passed None ≡ true → ⊥
asked_on_before_the_end last = absurd (cc last)

pub waits_at_the_end_again : (task other code arg : ℕ) (asks : Asked) → end_tasks_after asks (TaskDone task true) (end_tasks_after asked.End (Run other code arg false) None) ≢ Some 0 → ⊥
waits_at_the_end_again task other code arg asks otherwise = otherwise refl

-- whatever comes of a nested region, the program is asked on: also if that is broken
pub asked_on_behind_a_nested_region : (act : Act) (reply : Reply) (tasks : Option ℕ) → ends_by (Some act) true reply tasks ≡ true → ⊥
asked_on_behind_a_nested_region act reply tasks last = absurd (cc last)

-- Why a nested region is refused

pub not_refused_by_a_lock : tests_refusal (Refused NoLock) ≢ None → ⊥
not_refused_by_a_lock other = other refl

pub refused_if_broken : (clash : Clash) → tests_refusal (Refused (Broken clash)) ≢ Some (Broken clash) → ⊥
refused_if_broken clash other = other refl

-- What a program is handed, and its member does

module _ {I P T : Type 0} (program : ProgramGhosts P) (tool : ToolGhosts T) (forks : RegionAsked → ForkerView I P T → Reply → ForkerView I P T → Type 0) where
  pub never_asked_after_its_end : (earlier : List Exchange) (exchange : Exchange) (before after : RunnerView I P T)
      → GoesOn program tool forks earlier exchange before after → is_over earlier ≡ true → ⊥
  never_asked_after_its_end earlier exchange before after goes over = absurd (cc (goes.goes, over))

  pub never_handed_another_reply : (exchange next_one : Exchange) (earlier : List Exchange) (before after : RunnerView I P T)
      → GoesOn program tool forks (exchange ∷ earlier) next_one before after → ((prog : P) → program.next_gives before.prog exchange.reply next_one.act prog → ⊥) → ⊥
  never_handed_another_reply exchange next_one earlier before after goes never = never goes.prog goes.asked

  pub never_done_otherwise : (earlier : List Exchange) (exchange : Exchange) (before after : RunnerView I P T)
      → GoesOn program tool forks earlier exchange before after → ((prog : P) → Serves program tool forks exchange (record (before) { prog = prog }) after → ⊥) → ⊥
  never_done_otherwise earlier exchange before after goes never = never goes.prog goes.served

  pub never_back_before_its_end : (start end : RunnerView I P T) (taken : ℕ) (ran : HasRun program tool forks start end taken) → is_over ran.exchanges ≡ false → ⊥
  never_back_before_its_end start end taken ran goes = absurd (cc (ran.over, goes))

  pub never_with_other_iterations : (start end : RunnerView I P T) (taken : ℕ) (ran : HasRun program tool forks start end taken) → taken ≢ taken_of ran.exchanges → ⊥
  never_with_other_iterations start end taken ran differ = differ ran.taken_is

  -- a nested region that a test of each call refuses is not forked
  pub never_refused_otherwise : (num_threads : Option ℕ) (if_clause : Bool) (reply : Reply) (before after : RunnerView I P T)
      (served : ServesHere tool (Some (Parallel num_threads if_clause)) reply before after) → reply ≢ Refused served.0 → ⊥
  never_refused_otherwise num_threads if_clause reply before after served other = other served.2

  pub never_forked_if_refused : (num_threads : Option ℕ) (if_clause : Bool) (reply : Reply) (before after : RunnerView I P T)
      (served : ServesNested program tool forks (Some (Parallel num_threads if_clause)) reply before after) → tests_refusal served.1.shown ≢ None → ⊥
  never_forked_if_refused num_threads if_clause reply before after served refused = refused (sym served.1.refused_is)

  -- nor does it change its member's team
  pub never_by_another_member : (asked : RegionAsked) (reply : Reply) (before after : RunnerView I P T) → HasForked forks asked reply before after → after.member.own ≢ before.member.own → ⊥
  never_by_another_member asked reply before after has other = other (ap (λ member. member.own) has.member_is)

  pub never_on_other_parts : (asked : RegionAsked) (reply : Reply) (before after : RunnerView I P T) → HasForked forks asked reply before after → after.member.held ≢ before.member.held → ⊥
  never_on_other_parts asked reply before after has other = other (ap (λ member. member.held) has.member_is)
