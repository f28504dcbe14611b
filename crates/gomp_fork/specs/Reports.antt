-- What a region leaves. (own; OpenMP API 5.2, section 10.1)
use Rattle.std.specs.Prelude.{ℕ, ◌≡◌, ◌++◌, ◌⊎◌, List, Result, Ok, Err, IfOk, IfErr, codes, length, take, drop}
use Rattle.gomp_types.specs.RefusalTexts.{text_of}
use Rattle.gomp_types.specs.declared.refusal.Refusal.{Refusal}
use Rattle.gomp_types.specs.declared.refusal.Refusal.TheVariants.{NoMemory}
use Rattle.gomp_ompt.specs.declared.tool.Tool.{Ghosts as ToolGhosts}
use Rattle.gomp_team.specs.Members.{MemberView, TeamView}
use Rattle.gomp_team_board.specs.Parts.{PartView}
use Rattle.gomp_events.specs.declared.event.Event.{Event}
use Rattle.gomp_ring.specs.declared.ring.Ring.{Ring}
use Rattle.gomp_ring.specs.RingSeats.{AreAllSeats, Gathers}
use Rattle.gomp_team_region.specs.Regions.{AreNewMembers, RegionView, tools_of, seats_of, events_parts, counts_on, with_parts}
use Rattle.gomp_team_region.specs.declared.settle.SettleError.{SettleError}
use Rattle.gomp_team_region.specs.declared.settle.SettleError.TheVariants.{Broken}
use Rattle.gomp_team_region.specs.declared.settle.SettleError.TheVariants as errors
use Rattle.gomp_team_region.specs.Settled.{IsCounted, IsHistory, LeftShares, MembersNotSettled}
use Rattle.gomp_course.specs.declared.program.Program.{Ghosts as ProgramGhosts}
use Rattle.gomp_fork.specs.declared.report.Report.{Report}
use Rattle.gomp_fork.specs.declared.report.RegionFault.{RegionFault}
use Rattle.gomp_fork.specs.declared.report.RegionRefusal.{RegionRefusal}
use Rattle.gomp_fork.specs.declared.report.RegionRefusal.TheVariants.{Refused, Unsettled}
use Rattle.gomp_fork.specs.Counts.{HoldCounts, HaveCountedNothing, both_counted, counted_by, nothing_counted}
use Rattle.gomp_fork.specs.Lists.{ReturnedView}
use Rattle.gomp_fork.specs.Teams.{EachHasBegun, EachHasRun, EndView, ForksRelation, IsHistoryOf, members_of, progs_of}

-- how the refusal of a region prints
abbrev pub refusal_text : RegionRefusal → List ℕ
refusal_text (Refused refusal) = text_of refusal
refusal_text Unsettled = codes "E42 Unsettled"

-- how a region is refused that did not begin: by NoMemory, for want of a thread too; or, of a runtime whose ledger another thread has, by E42
abbrev pub IsRefusedUnbegun : RegionRefusal → Type 0
IsRefusedUnbegun refusal = (refusal ≡ Refused NoMemory) ⊎ (refusal ≡ Unsettled)

-- what these members know by their seats is what their team did with its work-shares: each took so many iterations of loops, and so many shares all have left, which, unless the region was cancelled, are all that an arrival counts
pub record HaveTaken {T : Type 0} (members : List (MemberView T)) (taken : List ℕ) (history : List Event) : Type 0 where
  pub shares : ℕ
  pub gathered : Gathers (length members) (seats_of members) shares taken
  pub left : LeftShares shares history

module _ {P T : Type 0} (program : ProgramGhosts P) (tool : ToolGhosts T) (forks : ForksRelation P T) where
  -- of these programs and tools the first n ran, each by the member of its place: the programs and tools that came back, in their order; behind them the others, as they were
  pub record FirstRan (n : ℕ) (team : TeamView) (progs : List P) (tools : List T) (progs_back : List P) (tools_back : List T) (ends : List (EndView P T)) (taken : List ℕ) : Type 0 where
    pub ran : EachHasRun program tool forks n team 0 (take n progs) (take n tools) ends taken
    pub progs_are : progs_back ≡ progs_of ends ++ drop n progs
    pub tools_are : tools_back ≡ tools_of (members_of ends) ++ drop n tools

  -- the report of a region with these programs and tools: as many as its size ran, and were given so many iterations; its history is that of their members, its iterations are those that these took,
  -- and so much they and the regions that they forked held and freed
  pub record IsReport (team : TeamView) (progs : List P) (tools : List T) (counted : HoldCounts) (report : Report P T) : Type 0 where
    pub ends : List (EndView P T)
    pub given : List ℕ
    pub size_is : report.size ≡ length ends
    pub ran : FirstRan report.size team progs tools report.progs.items report.tools.items ends given
    pub history_is : IsHistoryOf ends report.history.items
    pub took : HaveTaken (members_of ends) report.taken.items report.history.items
    pub counted_is : counted ≡ counted_by ends

  -- programs and tools come back from a region of n members without a report: as they were, when it did not begin, and nothing was held or freed; or the first n ran, and so much they and the regions that they forked held and freed
  abbrev pub AreBack : ℕ → TeamView → List P → List T → HoldCounts → RegionFault P T → Type 0
  AreBack n team progs tools counted fault =
      ((fault.progs.items ≡ progs) × (fault.tools.items ≡ tools) × (counted ≡ nothing_counted) × IsRefusedUnbegun fault.refusal)
      ⊎ ((ends : List (EndView P T)) × (taken : List ℕ) × FirstRan n team progs tools fault.progs.items fault.tools.items ends taken × (counted ≡ counted_by ends))

  -- what a region leaves whose team has n members: the report of so many, or programs and tools without one; and how much was held and freed in it
  pub record LeavesRegion (n : ℕ) (team : TeamView) (progs : List P) (tools : List T) (result : Result (Report P T) (RegionFault P T)) : Type 0 where
    pub counted : HoldCounts
    pub report : IfOk result (IsReport team progs tools counted)
    pub size : IfOk result (λ report. report.size ≡ n)
    pub back : IfErr result (AreBack n team progs tools counted)

  -- the same of a region with a member for each of its programs; and the counts on the parts of the book's ledgers from which its members had theirs: those behind it are those before it with what was held and freed in it
  pub record LeavesAll (forked : TeamView × List P × List T) (counts : HoldCounts × HoldCounts) (result : Result (Report P T) (RegionFault P T)) : Type 0 where
    pub left : LeavesRegion (length forked.1) forked.0 forked.1 forked.2 result
    pub counts_are : counts.1 ≡ both_counted counts.0 left.counted

-- whom a region blames that was not settled so, and by what: the member that broke its team, by some refusal, or nobody
abbrev pub Blames : SettleError → ℕ → RegionRefusal → Type 0
Blames (Broken clash) member refusal = (member ≡ clash.member) × (by : Refusal) × (refusal ≡ Refused by)
Blames errors.Unsettled member refusal = (member ≡ 0) × (refusal ≡ Unsettled)

-- the fault of members that returned, in a team of this ring that had this left of its ledger: there is a cause, and it blames by that
pub record HasBlamed {T : Type 0} (ring : Ring) (rest : PartView) (members : List (MemberView T)) (member : ℕ) (refusal : RegionRefusal) : Type 0 where
  pub error : SettleError
  pub cause : MembersNotSettled ring rest members error
  pub blames : Blames error member refusal

-- a region that left no report has a cause: NoMemory before it began; or its members, whose tools these are, have a cause not to be settled
abbrev pub FaultHasCause : {P T : Type 0} → RegionFault P T → Type 0
FaultHasCause {P} {T} fault = (fault.refusal ≡ Refused NoMemory) ⊎ ((ring : Ring) × (rest : PartView) × (members : List (MemberView T)) × (fault.tools.items ≡ tools_of members) × HasBlamed ring rest members fault.member fault.refusal)

-- the report of members that returned these lists, of a team that had this left of its ledger: tools and history are theirs, and all of this was counted on their parts
pub record HasSettled {P T : Type 0} (rest : PartView) (returned : ReturnedView P T) (report : Report P T) : Type 0 where
  pub size_is : report.size ≡ length returned.members
  pub took : HaveTaken returned.members report.taken.items report.history.items
  pub progs_are : report.progs.items ≡ returned.progs
  pub tools_are : report.tools.items ≡ tools_of returned.members
  pub history_is : IsHistory (counts_on (events_parts returned.members)) report.history.items
  pub counted_is : IsCounted (with_parts rest (events_parts returned.members)) report.history.items

-- the result of a region, with these programs and tools behind those that came back
abbrev pub HasOthers : {P T : Type 0} → List P → List T → Result (Report P T) (RegionFault P T) → Result (Report P T) (RegionFault P T) → Type 0
HasOthers progs tools (Ok report) (Ok all) =
    (all.size ≡ report.size) × (all.taken.items ≡ report.taken.items) × (all.history.items ≡ report.history.items)
    × (all.progs.items ≡ report.progs.items ++ progs) × (all.tools.items ≡ report.tools.items ++ tools)
HasOthers progs tools (Err fault) (Err all) =
    (all.progs.items ≡ fault.progs.items ++ progs) × (all.tools.items ≡ fault.tools.items ++ tools) × (all.member ≡ fault.member) × (all.refusal ≡ fault.refusal)
HasOthers progs tools _ _ = ⊥

-- a region that was opened for these programs and tools, of which no program has run: its members were new, each with its own program and tool, were told that they begin, and have forked no region
pub record IsOpened {P T : Type 0} (tool : ToolGhosts T) (team : TeamView) (progs : List P) (tools : List T) (region : RegionView) (starts : List (EndView P T)) : Type 0 where
  pub team_is : region.team ≡ team
  pub size_is : region.size ≡ length progs
  pub members : List (MemberView T)
  pub members_are : AreNewMembers team 0 members
  pub seats_are : AreAllSeats region.ring (seats_of members)
  pub tools_are : tools_of members ≡ tools
  pub begun : EachHasBegun tool (length progs) 0 members (members_of starts)
  pub progs_are : progs_of starts ≡ progs
  pub counted_is : HaveCountedNothing starts
