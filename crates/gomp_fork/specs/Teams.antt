-- How the members of a team run their programs. (own; OpenMP API 5.2, section 10.1)
use Rattle.std.specs.Prelude.{ℕ, ◌≡◌, ◌+◌, List, [], ◌∷◌, map, sum_by}
use Rattle.gomp_icv.specs.Variables.{Variables}
use Rattle.gomp_icv.specs.Teams.{child}
use Rattle.gomp_types.specs.declared.reply.Reply.{Reply}
use Rattle.gomp_events.specs.declared.event.Event.{Event}
use Rattle.gomp_ompt.specs.Records.{begin_record}
use Rattle.gomp_ompt.specs.declared.record.Point.TheVariants.{ImplicitTask}
use Rattle.gomp_ompt.specs.declared.tool.Tool.{Ghosts as ToolGhosts}
use Rattle.gomp_team.specs.Members.{TeamView, MemberView}
use Rattle.gomp_team.specs.declared.team.TeamTerms.{TeamTerms}
use Rattle.gomp_team_board.specs.Counts.{counted_events}
use Rattle.gomp_team_region.specs.Regions.{IsNewMember, events_parts, counts_on}
use Rattle.gomp_team_region.specs.Settled.{IsHistory}
use Rattle.gomp_course.specs.declared.forking.RegionAsked.{RegionAsked}
use Rattle.gomp_course.specs.declared.program.Program.{Ghosts as ProgramGhosts}
use Rattle.gomp_course.specs.Forkers.{ForkerView, RunnerView}
use Rattle.gomp_course.specs.Runs.{HasRun}
use Rattle.gomp_fork.specs.Counts.{HoldCounts, nothing_counted}

-- a member with its program, and what was counted in the regions that it forked, behind its region
abbrev pub EndView : Type 0 → Type 0 → Type 0
EndView P T = RunnerView HoldCounts P T

-- what comes of the nested regions that a member forks: their clauses, what it has before one, the reply, and what it has behind it
abbrev pub ForksRelation : Type 0 → Type 0 → Type 1
ForksRelation P T = RegionAsked → ForkerView HoldCounts P T → Reply → ForkerView HoldCounts P T → Type 0

-- whatever comes of regions by the one, comes of them by the other
abbrev pub IsWithin : {P T : Type 0} → ForksRelation P T → ForksRelation P T → Type 0
IsWithin {P} {T} some all = (asked : RegionAsked) (before after : ForkerView HoldCounts P T) (reply : Reply) → some asked before reply after → all asked before reply after

-- what came back of members: themselves, and their programs
abbrev pub members_of : {P T : Type 0} → List (EndView P T) → List (MemberView T)
members_of ends = map (λ end. end.member) ends

abbrev pub progs_of : {P T : Type 0} → List (EndView P T) → List P
progs_of ends = map (λ end. end.prog) ends

-- the team that is made with these terms
abbrev pub team_of : TeamTerms → TeamView
team_of terms = record { number = terms.number; icv = terms.icv }

-- the team of this number and size
abbrev pub team_sized : ℕ → Variables → ℕ → TeamView
team_sized number icv size = record { number = number; icv = child icv size }

-- member m of n has begun its part of the region: its tool was told so (OpenMP API 5.2, section 19.5.2), and nothing else of it is changed
pub record HasBegun {T : Type 0} (tool : ToolGhosts T) (n m : ℕ) (before after : MemberView T) : Type 0 where
  pub gives : tool.on_gives before.tool (begin_record ImplicitTask m n) after.tool
  pub member_is : after ≡ record (before) { tool = after.tool }

-- so has each member from this number on
abbrev pub EachHasBegun : {T : Type 0} → ToolGhosts T → ℕ → ℕ → List (MemberView T) → List (MemberView T) → Type 0
EachHasBegun tool n m [] [] = Unit {0}
EachHasBegun tool n m (before ∷ befores) (after ∷ afters) = HasBegun tool n m before after × EachHasBegun tool n (m + 1) befores afters
EachHasBegun tool n m _ _ = ⊥

module _ {P T : Type 0} (program : ProgramGhosts P) (tool : ToolGhosts T) (forks : ForksRelation P T) (n : ℕ) where
  -- a new member of this number, one of n, has run this program with this tool, which was told first that it begins, and was given so many iterations; so it forked nested regions
  pub record MemberHasRun (team : TeamView) (m : ℕ) (prog : P) (own : T) (end : EndView P T) (taken : ℕ) : Type 0 where
    pub member : MemberView T
    pub new : IsNewMember team m member
    pub begins : tool.on_gives own (begin_record ImplicitTask m n) member.tool
    pub ran : HasRun program tool forks (record { prog = prog; member = member; inner = nothing_counted }) end taken

  -- so has each member from this number on
  abbrev pub EachHasRun : TeamView → ℕ → List P → List T → List (EndView P T) → List ℕ → Type 0
  EachHasRun team m [] [] [] [] = Unit {0}
  EachHasRun team m (prog ∷ progs) (own ∷ tools) (end ∷ ends) (taken ∷ others) = MemberHasRun team m prog own end taken × EachHasRun team (m + 1) progs tools ends others
  EachHasRun team m _ _ _ _ = ⊥

-- the history is that of these members: with the events that each was answered and, discards aside, no others
pub record IsHistoryOf {P T : Type 0} (ends : List (EndView P T)) (history : List Event) : Type 0 where
  pub history_is : IsHistory (counts_on (events_parts (members_of ends))) history
  pub all_given : sum_by (λ end. end.member.events.amount) ends ≡ counted_events history
