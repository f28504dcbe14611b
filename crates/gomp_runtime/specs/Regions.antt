-- A runtime, and how its regions are forked. (own; OpenMP API 5.2, sections 10.1 and 10.1.1)
use Rattle.std.specs.Prelude.{ℕ, ◌≡◌, ◌+◌, ◌==◌, ◌||◌, ◌⊎◌, not, nat_lt, true, if◌then◌else◌, Option, Some, None, is_none, IfSome, ◌<◌, List, [], ◌∷◌, length, Result, Ok, Err, MatchResult, IfOk, ◌≤◌}
use Rattle.gomp_icv.specs.Variables.{Variables}
use Rattle.gomp_icv.specs.Teams.{team_size}
use Rattle.gomp_types.specs.declared.refusal.Refusal.{Refusal}
use Rattle.gomp_types.specs.declared.refusal.Refusal.TheVariants.{CountTooLarge, BadTeam}
use Rattle.gomp_types.specs.Limits.{IsTeamSize}
use Rattle.gomp_ompt.specs.Records.{single_record}
use Rattle.gomp_ompt.specs.declared.record.Point.{Point}
use Rattle.gomp_ompt.specs.declared.record.Point.TheVariants.{ParallelBegin, ParallelEnd}
use Rattle.gomp_ompt.specs.declared.tool.Tool.{Ghosts as ToolGhosts}
use Rattle.gomp_team.specs.Members.{TeamView}
use Rattle.gomp_course.specs.declared.program.Program.{Ghosts as ProgramGhosts}
use Rattle.gomp_fork.specs.Teams.{team_sized}
use Rattle.gomp_fork.specs.Reports.{LeavesRegion}
use Rattle.gomp_levels.specs.Levels.{Forks}
use Rattle.gomp_fork.specs.declared.report.Report.{Report}
use Rattle.gomp_fork.specs.declared.report.RegionFault.{RegionFault}
use Rattle.gomp_fork.specs.declared.report.RegionRefusal.TheVariants.{Refused}

-- the control variables of the initial task, and how many regions had a number
pub record RuntimeView : Type 0 where
  pub icv : Variables
  pub regions : ℕ

-- why a region is refused before a thread is looked for: it would have a number above 2^31 - 1, those of nested regions; or there is no program, or not a tool for each
abbrev pub fork_refusal : RuntimeView → ℕ → ℕ → Option Refusal
fork_refusal runtime progs tools =
    if nat_lt 2147483647 runtime.regions then Some CountTooLarge
    else if (progs == 0) || not (progs == tools) then Some BadTeam
    else None

-- how many regions had a number then
abbrev pub regions_after : RuntimeView → ℕ → ℕ → ℕ
regions_after runtime progs tools = if is_none (fork_refusal runtime progs tools) then runtime.regions + 1 else runtime.regions

-- what a runtime keeps between regions for the next: of the book's ledgers more parts than the members of a team may have, and all 65 of the ledger of events, unless another thread has them (own)
pub record KeptParts (held freed : ℕ) (events : Option ℕ) : Type 0 where
  pub enough_held : 128 < held
  pub enough_freed : 128 < freed
  pub events_whole : IfSome events (λ parts. parts ≡ 65)

-- how many members a team for so many programs has
abbrev pub size_for : Variables → ℕ → ℕ
size_for icv progs = team_size icv (Some progs) true 1

-- the one for them
abbrev pub team_for : ℕ → Variables → ℕ → TeamView
team_for number icv progs = team_sized number icv (size_for icv progs)

-- a region that is refused so, of member 0: programs and tools come back as they were
pub record RefusesRegion {P T : Type 0} (refusal : Refusal) (progs : List P) (tools : List T) (fault : RegionFault P T) : Type 0 where
  pub member : fault.member ≡ 0
  pub refusal_is : fault.refusal ≡ Refused refusal
  pub progs_are : fault.progs.items ≡ progs
  pub tools_are : fault.tools.items ≡ tools

-- it is, if there is such a reason
abbrev pub RefusesFork : {P T : Type 0} → Option Refusal → List P → List T → Result (Report P T) (RegionFault P T) → Type 0
RefusesFork None progs tools result = Unit {0}
RefusesFork (Some refusal) progs tools result = MatchResult result (λ report. ⊥) (RefusesRegion refusal progs tools)

-- a region that was refused at once: programs and tools come back as they were
abbrev pub IsReturned : {P T : Type 0} → List P → List T → Result (Report P T) (RegionFault P T) → Type 0
IsReturned progs tools result = MatchResult result (λ report. ⊥) (λ fault. (fault.progs.items ≡ progs) × (fault.tools.items ≡ tools))

-- What the tool of the member that forks a team of n members is told (OpenMP API 5.2, section 19.5.2): of an outermost team that is the tool of member 0

-- the first of these tools is told that the team begins, or has ended; the others are as they were
abbrev pub FirstIsTold : {T : Type 0} → ToolGhosts T → Point → ℕ → List T → List T → Type 0
FirstIsTold tool point n [] after = after ≡ []
FirstIsTold {T} tool point n (own ∷ others) after = (told : T) × tool.on_gives own (single_record point n 0) told × (after ≡ told ∷ others)

-- it is told that the region has ended that left this; nothing else of that is changed
abbrev pub EndIsTold : {P T : Type 0} → ToolGhosts T → ℕ → Result (Report P T) (RegionFault P T) → Result (Report P T) (RegionFault P T) → Type 0
EndIsTold tool n (Ok report) (Ok told) =
    (told.size ≡ report.size) × (told.taken ≡ report.taken) × (told.history ≡ report.history) × (told.progs ≡ report.progs) × FirstIsTold tool ParallelEnd n report.tools.items told.tools.items
EndIsTold tool n (Err fault) (Err told) = (told.member ≡ fault.member) × (told.refusal ≡ fault.refusal) × (told.progs ≡ fault.progs) × FirstIsTold tool ParallelEnd n fault.tools.items told.tools.items
EndIsTold tool n _ _ = ⊥

module _ {P T : Type 0} (program : ProgramGhosts P) (tool : ToolGhosts T) where
  -- a region of this number with these programs and tools, by these control variables: its team is as large as they give, and what it leaves is of that team
  abbrev pub RunsRegion : ℕ → Variables → List P → List T → Result (Report P T) (RegionFault P T) → Type 0
  RunsRegion number icv progs tools result = LeavesRegion program tool (Forks program tool) (size_for icv (length progs)) (team_for number icv (length progs)) progs tools result

  -- such a region of which the tool of member 0 is told, before it begins and after it has ended
  pub record RunsTold (number : ℕ) (icv : Variables) (progs : List P) (tools : List T) (result : Result (Report P T) (RegionFault P T)) : Type 0 where
    pub begun : List T
    pub begins : FirstIsTold tool ParallelBegin (size_for icv (length progs)) tools begun
    pub left : Result (Report P T) (RegionFault P T)
    pub region : RunsRegion number icv progs begun left
    pub ends : EndIsTold tool (size_for icv (length progs)) left result

  -- the same of the programs and tools that it is forked with
  abbrev pub RunsForked : ℕ → Variables → List P × List T → Result (Report P T) (RegionFault P T) → Type 0
  RunsForked number icv forked result = RunsTold number icv forked.0 forked.1 result

  -- the next region of a runtime: it is refused if there is a reason, and numbered from 0; it was refused at once, or left what a region leaves; its team has 1 to 64 members, and no more than there are programs
  pub record ForksRegion (runtime : RuntimeView) (progs : List P) (tools : List T) (result : Result (Report P T) (RegionFault P T)) : Type 0 where
    pub refused : RefusesFork (fork_refusal runtime (length progs) (length tools)) progs tools result
    pub region : IsReturned progs tools result ⊎ RunsTold runtime.regions runtime.icv progs tools result
    pub fits : IfOk result (λ report. IsTeamSize report.size × (report.size ≤ length progs))
