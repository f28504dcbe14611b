-- Nested regions. (own; OpenMP API 5.2, sections 10.1 and 10.1.1)
use Rattle.std.specs.Prelude.{ℕ, ◌≡◌, ◌<◌, ◌≤◌, ◌⊎◌, List, length, Result, Ok, Err}
use Rattle.gomp_icv.specs.Teams.{team_size}
use Rattle.gomp_types.specs.declared.refusal.Refusal.TheVariants.{BadTeam, CountTooLarge, NoMemory}
use Rattle.gomp_types.specs.declared.reply.Reply.{Reply}
use Rattle.gomp_types.specs.declared.reply.Reply.TheVariants as replies
use Rattle.gomp_ompt.specs.Records.{single_record}
use Rattle.gomp_ompt.specs.declared.record.Point.TheVariants.{ParallelBegin, ParallelEnd}
use Rattle.gomp_ompt.specs.declared.tool.Tool.{Ghosts as ToolGhosts}
use Rattle.gomp_team.specs.Members.{TeamView}
use Rattle.gomp_course.specs.declared.forking.RegionAsked.{RegionAsked}
use Rattle.gomp_course.specs.declared.program.Program.{Ghosts as ProgramGhosts}
use Rattle.gomp_course.specs.Forkers.{ForkerView}
use Rattle.gomp_fork.specs.declared.report.Report.{Report}
use Rattle.gomp_fork.specs.declared.report.RegionFault.{RegionFault}
use Rattle.gomp_fork.specs.declared.report.RegionRefusal.{RegionRefusal}
use Rattle.gomp_fork.specs.declared.report.RegionRefusal.TheVariants.{Refused, Unsettled}
use Rattle.gomp_fork.specs.Counts.{HoldCounts, both_counted}
use Rattle.gomp_fork.specs.Reports.{LeavesRegion}
use Rattle.gomp_fork.specs.Teams.{ForksRelation, team_sized}

-- a nested region that was not begun, for want of memory or of a number: its member as it was
abbrev pub NotBegun : {P T : Type 0} → ForkerView HoldCounts P T → Reply → ForkerView HoldCounts P T → Type 0
NotBegun before reply after = ((reply ≡ replies.Refused NoMemory) ⊎ (reply ≡ replies.Refused CountTooLarge)) × (after ≡ before)

-- what the member that forked a region is told by its end: that it is finished, if it left a report; else why it left none, BadTeam where its history was not settled (own)
abbrev pub told_of_refusal : RegionRefusal → Reply
told_of_refusal (Refused refusal) = replies.Refused refusal
told_of_refusal Unsettled = replies.Refused BadTeam

module _ {P T : Type 0} where
  abbrev pub told : Result (Report P T) (RegionFault P T) → Reply
  told (Ok report) = replies.Finished
  told (Err fault) = told_of_refusal fault.refusal

  -- the programs and the tools that come back from a region
  abbrev pub progs_back : Result (Report P T) (RegionFault P T) → List P
  progs_back (Ok report) = report.progs.items
  progs_back (Err fault) = fault.progs.items

  abbrev pub tools_back : Result (Report P T) (RegionFault P T) → List T
  tools_back (Ok report) = report.tools.items
  tools_back (Err fault) = fault.tools.items

-- What the tool of a member is told that forks a team of n members (OpenMP API 5.2, section 19.5.2)

-- nothing else of the member is changed
pub record BeginsTeam {P T : Type 0} (tool : ToolGhosts T) (n : ℕ) (before after : ForkerView HoldCounts P T) : Type 0 where
  pub gives : tool.on_gives before.tool (single_record ParallelBegin n 0) after.tool
  pub forker_is : after ≡ record (before) { tool = after.tool }

-- it takes their tools back, and is told then
pub record EndsTeam {T : Type 0} (tool : ToolGhosts T) (n : ℕ) (before : T) (children : List T) (after : T) : Type 0 where
  pub joined : T
  pub joins : tool.join_gives before children joined
  pub gives : tool.on_gives joined (single_record ParallelEnd n 0) after

module _ {P T : Type 0} (program : ProgramGhosts P) (tool : ToolGhosts T) (forks : ForksRelation P T) where
  -- a nested team was made, with programs and tools that those of the member that forked it made, one for each of its members, and has left this; so much was held and freed in it
  pub record TeamHasRun (team : TeamView) (size : ℕ) (before : ForkerView HoldCounts P T) (counted : HoldCounts) (result : Result (Report P T) (RegionFault P T)) : Type 0 where
    pub progs : List P
    pub tools : List T
    pub prog_forks : program.fork_gives before.prog size progs
    pub tool_forks : tool.fork_gives before.tool size tools
    pub many : length progs ≡ size
    pub as_many : length tools ≡ size
    pub left : LeavesRegion program tool forks size team progs tools result
    pub counted_is : counted ≡ left.counted

  -- the same of a team with its size, which a member forked that was so before
  abbrev pub RunsTeam : TeamView × ℕ × ForkerView HoldCounts P T → HoldCounts → Result (Report P T) (RegionFault P T) → Type 0
  RunsTeam forked counted result = TeamHasRun forked.0 forked.1 forked.2 counted result

  -- a member has forked a nested region with these clauses: its team has a number above those of outermost regions, and no more members than clauses and control variables ask for;
  -- it is told how that ended; its program and its tool, which is told of begin and end, take back those of the team; what was held and freed in it is counted as this member's; nothing else of this member is changed
  pub record HasForkedRegion (asked : RegionAsked) (before : ForkerView HoldCounts P T) (reply : Reply) (after : ForkerView HoldCounts P T) : Type 0 where
    pub number : ℕ
    pub above : 2147483647 < number
    pub size : ℕ
    pub some : 1 ≤ size
    pub fits : size ≤ team_size before.icv asked.num_threads asked.if_clause 1
    pub result : Result (Report P T) (RegionFault P T)
    pub counted : HoldCounts
    pub ran : TeamHasRun (team_sized number before.icv size) size before counted result
    pub reply_is : reply ≡ told result
    pub prog_joins : program.join_gives before.prog (progs_back result) after.prog
    pub begun : ForkerView HoldCounts P T
    pub tool_begins : BeginsTeam tool size before begun
    pub tool_ends : EndsTeam tool size begun.tool (tools_back result) after.tool
    pub icv_is : after.icv ≡ before.icv
    pub inner_is : after.inner ≡ both_counted before.inner counted

  -- what comes of a nested region: of its clauses, the member that forks it, before and after, and the reply
  abbrev pub ComesOf : RegionAsked → ForkerView HoldCounts P T × ForkerView HoldCounts P T → Reply → Type 0
  ComesOf asked forker reply = NotBegun forker.0 reply forker.1 ⊎ HasForkedRegion asked forker.0 reply forker.1

  -- the same of a member whose own team's members fork regions so
  abbrev pub ForksWithin : ForksRelation P T
  ForksWithin asked before reply after = ComesOf asked (before, after) reply
