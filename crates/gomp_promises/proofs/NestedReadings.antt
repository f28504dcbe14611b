-- What comes of a nested region, read field by field: its team, what its members are made of, and what goes back.
use Rattle.std.proofs.Common.{ℕ, ◌≡◌, ◌<◌, ◌≤◌, Ok, Err, Some, None, true, false, refl, ap, ◌∙◌}
use Rattle.gomp_types.specs.declared.refusal.Refusal.{Refusal}
use Rattle.gomp_types.specs.declared.refusal.Refusal.TheVariants.{BadTeam}
use Rattle.gomp_types.specs.declared.reply.Reply.{Reply}
use Rattle.gomp_types.specs.declared.reply.Reply.TheVariants as replies
use Rattle.gomp_icv.specs.Teams.{team_size}
use Rattle.gomp_icv.specs.Variables.{initial}
use Rattle.gomp_ompt.specs.declared.record.Endpoint.TheVariants.{Single}
use Rattle.gomp_ompt.specs.declared.record.Point.TheVariants.{ParallelBegin, ParallelEnd}
use Rattle.gomp_ompt.specs.declared.tool.Tool.{Ghosts as ToolGhosts}
use Rattle.gomp_course.specs.declared.forking.RegionAsked.{RegionAsked}
use Rattle.gomp_course.specs.declared.program.Program.{Ghosts as ProgramGhosts}
use Rattle.gomp_course.specs.Forkers.{ForkerView}
use Rattle.gomp_fork.specs.declared.report.Report.{Report}
use Rattle.gomp_fork.specs.declared.report.RegionFault.{RegionFault}
use Rattle.gomp_fork.specs.declared.report.RegionRefusal.TheVariants.{Refused, Unsettled}
use Rattle.gomp_fork.specs.Counts.{HoldCounts, both_counted}
use Rattle.gomp_fork.specs.Reports.{LeavesRegion}
use Rattle.gomp_fork.specs.Teams.{ForksRelation, team_sized}
use Rattle.gomp_nested.specs.Nested.{ForksWithin, HasForkedRegion, NotBegun, progs_back, told, told_of_refusal, tools_back}
use Rattle.gomp_levels.specs.Levels.{Forks, NoneForked}

-- The levels

-- three lie within an outermost region
pub three_levels_lie_within : {P T : Type 0} (program : ProgramGhosts P) (tool : ToolGhosts T) → Forks program tool ≡ ForksWithin program tool (ForksWithin program tool (ForksWithin program tool NoneForked))
three_levels_lie_within program tool = refl

-- a team of one is no active level more, a team of two is
pub only_several_are_an_active_level : (number : ℕ) → ((team_sized number initial 1).icv.active ≡ 0) × ((team_sized number initial 2).icv.active ≡ 1) × ((team_sized number initial 2).number ≡ number)
only_several_are_an_active_level number = (refl, refl, refl)

-- as many members as it asks for, within an active level only if another is allowed
pub nested_teams_are_as_large_as_asked : (team_size (record initial { active = 1 }) (Some 3) true 1 ≡ 1) × (team_size (record initial { active = 1; max_active_levels = 2 }) (Some 3) true 1 ≡ 3)
    × (team_size (record initial { active = 1; max_active_levels = 2 }) (Some 3) false 1 ≡ 1) × (team_size initial None true 1 ≡ 4)
nested_teams_are_as_large_as_asked = (refl, refl, refl, refl)

-- What its member is told

pub told_by_the_end : {P T : Type 0} (report : Report P T) (fault : RegionFault P T) → (told (Ok report) ≡ replies.Finished) × (told {P = P} {T = T} (Err fault) ≡ told_of_refusal fault.refusal)
told_by_the_end report fault = (refl, refl)

pub told_of_each_refusal : (refusal : Refusal) → (told_of_refusal (Refused refusal) ≡ replies.Refused refusal) × (told_of_refusal Unsettled ≡ replies.Refused BadTeam)
told_of_each_refusal refusal = (refl, refl)

-- What comes back is what the report or the fault has

pub what_comes_back : {P T : Type 0} (report : Report P T) (fault : RegionFault P T) → (progs_back (Ok report) ≡ report.progs.items) × (tools_back (Ok report) ≡ report.tools.items)
    × (progs_back {P = P} {T = T} (Err fault) ≡ fault.progs.items) × (tools_back {P = P} {T = T} (Err fault) ≡ fault.tools.items)
what_comes_back report fault = (refl, refl, refl, refl)

-- A region that was not begun leaves its member as it was

pub unbegun_changes_nothing : {P T : Type 0} (before after : ForkerView HoldCounts P T) (reply : Reply) → NotBegun before reply after → after ≡ before
unbegun_changes_nothing before after reply unbegun = unbegun.1

-- A region that was

module _ {P T : Type 0} (program : ProgramGhosts P) (tool : ToolGhosts T) (forks : ForksRelation P T) (asked : RegionAsked) (before after : ForkerView HoldCounts P T) (reply : Reply) (has : HasForkedRegion program tool forks asked before reply after) where
  -- has a member or more, and no more than its clauses and the control variables of the region round it ask for
  pub its_size_is_as_asked : (1 ≤ has.size) × (has.size ≤ team_size before.icv asked.num_threads asked.if_clause 1)
  its_size_is_as_asked = (has.some, has.fits)

  -- and a program and a tool for each of them, which those of the member made
  pub its_children_are_made_by_its_forker : program.fork_gives before.prog has.size has.ran.progs × tool.fork_gives before.tool has.size has.ran.tools
  its_children_are_made_by_its_forker = (has.ran.prog_forks, has.ran.tool_forks)

  -- it leaves what a region leaves, of a team with a number of its own
  pub it_leaves_what_a_region_leaves : LeavesRegion program tool forks has.size (team_sized has.number before.icv has.size) has.ran.progs has.ran.tools has.result
  it_leaves_what_a_region_leaves = has.ran.left

  pub its_number_is_of_no_outermost_region : 2147483647 < has.number
  its_number_is_of_no_outermost_region = has.above

  -- what comes back of its children goes back to the member
  pub its_programs_are_taken_back : program.join_gives before.prog (progs_back has.result) after.prog
  its_programs_are_taken_back = has.prog_joins

  -- whose tool is told that the team begins, takes the tools of its members back, and is told that it has ended
  pub its_tool_is_told_of_the_team : (begun : T) × (joined : T) × tool.on_gives before.tool (record { point = ParallelBegin; scope = Single; id = has.size; extra = 0 }) begun
      × tool.join_gives begun (tools_back has.result) joined × tool.on_gives joined (record { point = ParallelEnd; scope = Single; id = has.size; extra = 0 }) after.tool
  its_tool_is_told_of_the_team = (has.begun.tool, has.tool_ends.joined, has.tool_begins.gives, has.tool_ends.joins, has.tool_ends.gives)

  -- which is told how the region ended, and has its variables
  pub its_reply_is_how_it_ended : (reply ≡ told has.result) × (after.icv ≡ before.icv)
  its_reply_is_how_it_ended = (has.reply_is, has.icv_is)

  -- and has what was held and freed in the region counted as its own
  pub its_holds_are_its_forkers : after.inner ≡ both_counted before.inner has.ran.left.counted
  its_holds_are_its_forkers = has.inner_is ∙ ap (λ counts. both_counted before.inner counts) has.ran.counted_is
