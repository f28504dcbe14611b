-- How a member of a team runs its program. (own; OpenMP API 5.2, section 10.1)
use Rattle.std.specs.Prelude.{ℕ, ◌≡◌, Bool, true, false, List, [], ◌∷◌, Option, Some, None}
use Rattle.gomp_icv.specs.Variables.{Variables}
use Rattle.gomp_types.specs.declared.call.Call.{Call}
use Rattle.gomp_types.specs.declared.call.Call.TheVariants.{LoopStart, LockDestroy, Stop}
use Rattle.gomp_types.specs.declared.refusal.Refusal.{Refusal}
use Rattle.gomp_types.specs.declared.reply.Reply.{Reply}
use Rattle.gomp_types.specs.declared.reply.Reply.TheVariants.{Refused}
use Rattle.gomp_types.specs.Pieces.{resolved_loop}
use Rattle.gomp_ompt.specs.declared.tool.Tool.{Ghosts as ToolGhosts}
use Rattle.gomp_team.specs.Members.{CalledWhole}
use Rattle.gomp_course.specs.declared.course.Came.{Came}
use Rattle.gomp_course.specs.declared.course.Came.TheVariants.{On, Over, Fork}
use Rattle.gomp_course.specs.declared.forking.RegionAsked.{RegionAsked}
use Rattle.gomp_course.specs.declared.program.Act.{Act}
use Rattle.gomp_course.specs.declared.program.Act.TheVariants.{Do, Parallel}
use Rattle.gomp_course.specs.declared.program.Program.{Ghosts as ProgramGhosts}
use Rattle.gomp_course.specs.Exchanges.{Exchange, asked_by, ends_by, end_tasks_after, is_over, last_reply, taken_after, taken_of, tests_refusal}
use Rattle.gomp_course.specs.Forkers.{ForkerView, RunnerView, forker_of}

-- the call that is made: a loop whose schedule is left to the control variables has theirs
abbrev pub call_made : Variables → Call → Call
call_made icv (LoopStart desc) = LoopStart (resolved_loop icv.sched icv.chunk desc)
call_made icv call = call

-- a call that is refused in any case, at last by NoLock: that lock is never made
abbrev pub refused_call : Call
refused_call = LockDestroy 4294967295

module _ {I P T : Type 0} (tool : ToolGhosts T) where
  -- a member makes a call for its program; else it is as it was
  pub record MakesCall (call : Call) (reply : Reply) (before after : RunnerView I P T) : Type 0 where
    pub called : CalledWhole tool.on_gives call reply before.member after.member
    pub prog_is : after.prog ≡ before.prog
    pub inner_is : after.inner ≡ before.inner

  -- the tests of each call, which a call shows that is refused in any case, refuse a nested region, or do not
  pub record TestsNested (refused : Option Refusal) (before after : RunnerView I P T) : Type 0 where
    pub shown : Reply
    pub tested : MakesCall refused_call shown before after
    pub refused_is : refused ≡ tests_refusal shown

  -- what a member does for its program within its team, and the reply: it makes the call; it finds a nested region refused; a program without memory has it stop the team
  abbrev pub ServesHere : Option Act → Reply → RunnerView I P T → RunnerView I P T → Type 0
  ServesHere (Some (Do call)) reply before after = MakesCall (call_made before.member.icv call) reply before after
  ServesHere (Some (Parallel num_threads if_clause)) reply before after = (refusal : Refusal) × TestsNested (Some refusal) before after × (reply ≡ Refused refusal)
  ServesHere None reply before after = MakesCall Stop reply before after

-- a member has forked a nested region: of its own team nothing is changed but its tool
pub record HasForked {I P T : Type 0} (forks : RegionAsked → ForkerView I P T → Reply → ForkerView I P T → Type 0) (asked : RegionAsked) (reply : Reply) (before after : RunnerView I P T) : Type 0 where
  pub forked : forks asked (forker_of before) reply (forker_of after)
  pub member_is : after.member ≡ record (before.member) { tool = after.member.tool }

module _ {I P T : Type 0} (program : ProgramGhosts P) (tool : ToolGhosts T) (forks : RegionAsked → ForkerView I P T → Reply → ForkerView I P T → Type 0) where
  -- a nested region that is asked for and that no test of each call refuses
  abbrev pub ServesNested : Option Act → Reply → RunnerView I P T → RunnerView I P T → Type 0
  ServesNested (Some (Parallel num_threads if_clause)) reply before after =
      (tested : RunnerView I P T) × TestsNested tool None before tested × HasForked forks (record { num_threads = num_threads; if_clause = if_clause }) reply tested after
  ServesNested act reply before after = ⊥

  -- what a member does for its program: within its team, or it forks a nested region
  abbrev pub ServesIf : Bool → Option Act → Reply → RunnerView I P T → RunnerView I P T → Type 0
  ServesIf false act reply before after = ServesHere tool act reply before after
  ServesIf true act reply before after = ServesNested act reply before after

  abbrev pub Serves : Exchange → RunnerView I P T → RunnerView I P T → Type 0
  Serves exchange before after = ServesIf exchange.nested exchange.act exchange.reply before after

  -- the program is asked once more, unless it is over, and its member does what it asks
  pub record GoesOn (earlier : List Exchange) (exchange : Exchange) (before after : RunnerView I P T) : Type 0 where
    pub goes : is_over earlier ≡ false
    pub prog : P
    pub asked : program.next_gives before.prog (last_reply earlier) exchange.act prog
    pub served : Serves exchange (record (before) { prog = prog }) after

  -- by these exchanges, the newest first, a program and its member have come from where they began to where they are
  abbrev pub ComesBy : RunnerView I P T → List Exchange → RunnerView I P T → Type 0
  ComesBy start [] end = end ≡ start
  ComesBy start (exchange ∷ earlier) end = (before : RunnerView I P T) × ComesBy start earlier before × GoesOn earlier exchange before end

  -- a member has run its program to the end, and was given so many iterations
  pub record HasRun (start end : RunnerView I P T) (taken : ℕ) : Type 0 where
    pub exchanges : List Exchange
    pub came : ComesBy start exchanges end
    pub over : is_over exchanges ≡ true
    pub taken_is : taken ≡ taken_of exchanges

-- How far a member has come with its program: both, the reply to its last act, the tasks that it executes at the region's end, and the iterations that it was given
pub record CourseView (I P T : Type 0) : Type 0 where
  pub runner : RunnerView I P T
  pub last : Reply
  pub end_tasks : Option ℕ
  pub taken : ℕ

module _ {I P T : Type 0} where
  -- it takes note of a reply to an act
  pub record Notes (act : Option Act) (reply : Reply) (before after : CourseView I P T) : Type 0 where
    pub last : after.last ≡ reply
    pub end_tasks : after.end_tasks ≡ end_tasks_after (asked_by act) reply before.end_tasks
    pub taken : after.taken ≡ taken_after reply before.taken

  -- a member does what its program asked within its team, and takes note of the reply; whether that was the last one
  pub record ActsHere (tool : ToolGhosts T) (act : Option Act) (before after : CourseView I P T) (over : Bool) : Type 0 where
    pub reply : Reply
    pub served : ServesHere tool act reply before.runner after.runner
    pub notes : Notes act reply before after
    pub over_is : over ≡ ends_by act false reply before.end_tasks

  -- it has found that no test refuses the nested region
  pub record FindsNested (tool : ToolGhosts T) (before after : CourseView I P T) : Type 0 where
    pub tested : TestsNested tool None before.runner after.runner
    pub last : after.last ≡ before.last
    pub end_tasks : after.end_tasks ≡ before.end_tasks
    pub taken : after.taken ≡ before.taken

  -- what has come of an act: the program goes on, or is over, or a nested region is to be forked, with these clauses
  abbrev pub ActsOn : ToolGhosts T → Option Act → CourseView I P T → CourseView I P T → Came → Type 0
  ActsOn tool act before after On = ActsHere tool act before after false
  ActsOn tool act before after Over = ActsHere tool act before after true
  ActsOn tool act before after (Fork asked) = (act ≡ Some (Parallel asked.num_threads asked.if_clause)) × FindsNested tool before after

  -- the program is asked once more, and its member does what it asks
  pub record Moves (program : ProgramGhosts P) (tool : ToolGhosts T) (before after : CourseView I P T) (came : Came) : Type 0 where
    pub act : Option Act
    pub prog : P
    pub asked : program.next_gives before.runner.prog before.last act prog
    pub acts : ActsOn tool act (record (before) { runner = record (before.runner) { prog = prog } }) after came

  -- a nested region was forked, and the program is to be handed what has come of it
  pub record Rejoins (forks : RegionAsked → ForkerView I P T → Reply → ForkerView I P T → Type 0) (asked : RegionAsked) (before after : CourseView I P T) : Type 0 where
    pub reply : Reply
    pub forked : HasForked forks asked reply before.runner after.runner
    pub notes : Notes (Some (Parallel asked.num_threads asked.if_clause)) reply before after
