-- A nested region that has ended, as a whole.
use Rattle.std.proofs.Common.{ℕ, ◌≡◌, ◌+◌, ◌<◌, ◌≤◌, List, Result, inr, refl, sym, subst, ap, ◌∙◌, arith, length}
use Rattle.gomp_icv.specs.Variables.{Variables}
use Rattle.gomp_icv.specs.Teams.{team_size}
use Rattle.gomp_types.specs.declared.reply.Reply.{Reply}
use Rattle.gomp_ompt.specs.declared.tool.Tool.{Ghosts as ToolGhosts}
use Rattle.gomp_team.specs.Members.{TeamView}
use Rattle.gomp_course.specs.declared.forking.RegionAsked.{RegionAsked}
use Rattle.gomp_course.specs.declared.program.Program.{Ghosts as ProgramGhosts}
use Rattle.gomp_course.specs.Forkers.{ForkerView}
use Rattle.gomp_fork.specs.declared.report.Report.{Report}
use Rattle.gomp_fork.specs.declared.report.RegionFault.{RegionFault}
use Rattle.gomp_fork.specs.Counts.{HoldCounts, both_counted, nothing_counted}
use Rattle.gomp_fork.specs.Reports.{LeavesAll}
use Rattle.gomp_fork.specs.Teams.{ForksRelation, team_sized}
use Rattle.gomp_nested.specs.Nested.{BeginsTeam, ComesOf, EndsTeam, TeamHasRun, progs_back, told, tools_back}

-- what is counted behind nothing is counted alone
nothing_before : (counts : HoldCounts) → both_counted nothing_counted counts ≡ counts
nothing_before counts =
    let held : 0 + counts.held ≡ counts.held = omega arith in
    let freed : 0 + counts.freed ≡ counts.freed = omega arith in
    rw (held, freed) refl

module _ {P T : Type 0} (program : ProgramGhosts P) (tool : ToolGhosts T) (forks : ForksRelation P T) where
  -- a team whose parts had nothing counted on them, with as many members as programs
  team_of_all : (team : TeamView) (before : ForkerView HoldCounts P T) (progs : List P) (tools : List T) (counted : HoldCounts) (result : Result (Report P T) (RegionFault P T))
      → program.fork_gives before.prog (length progs) progs → tool.fork_gives before.tool (length progs) tools → length tools ≡ length progs
      → LeavesAll program tool forks (team, progs, tools) (nothing_counted, counted) result → TeamHasRun program tool forks team (length progs) before counted result
  team_of_all team before progs tools counted result prog_forks tool_forks as_many all = record {
    progs = progs;
    tools = tools;
    prog_forks = prog_forks;
    tool_forks = tool_forks;
    many = refl;
    as_many = as_many;
    left = all.left;
    counted_is = all.counts_are ∙ nothing_before all.left.counted;
  }

  -- or of this size
  pub team_has_run : (team : TeamView) (size : ℕ) (before : ForkerView HoldCounts P T) (progs : List P) (tools : List T) (counted : HoldCounts) (result : Result (Report P T) (RegionFault P T))
      → program.fork_gives before.prog size progs → tool.fork_gives before.tool size tools → length progs ≡ size → length tools ≡ size
      → LeavesAll program tool forks (team, progs, tools) (nothing_counted, counted) result → TeamHasRun program tool forks team size before counted result
  team_has_run team size before progs tools counted result prog_forks tool_forks many as_many all =
      subst (λ k. TeamHasRun program tool forks team k before counted result) many
      (team_of_all team before progs tools counted result (subst (λ k. program.fork_gives before.prog k progs) (sym many) prog_forks) (subst (λ k. tool.fork_gives before.tool k tools) (sym many) tool_forks) (as_many ∙ sym many) all)

  -- of its number, size and variables, the team that was made of them, and what that left
  pub region_forked : (asked : RegionAsked) (before begun handed after : ForkerView HoldCounts P T) (counted : HoldCounts) (reply : Reply) (result : Result (Report P T) (RegionFault P T)) (number size wanted : ℕ) (icv : Variables) (team : TeamView)
      → 2147483647 < number → (1 ≤ size) × (size ≤ wanted) → wanted ≡ team_size icv asked.num_threads asked.if_clause 1 → icv ≡ before.icv → team ≡ team_sized number icv size
      → TeamHasRun program tool forks team size before counted result
      → BeginsTeam tool size before begun → handed ≡ record (begun) { inner = both_counted begun.inner counted }
      → program.join_gives handed.prog (progs_back result) after.prog → EndsTeam tool size handed.tool (tools_back result) after.tool → after.icv ≡ handed.icv → after.inner ≡ handed.inner → reply ≡ told result
      → ComesOf program tool forks asked (before, after) reply
  region_forked asked before begun handed after counted reply result number size wanted icv team above fits wanted_is icv_is team_is ran begins hands prog_joins tool_ends same same_inner told_so = inr (record {
    number = number;
    above = above;
    size = size;
    some = fits.0;
    fits = subst (λ v. size ≤ team_size v asked.num_threads asked.if_clause 1) icv_is (subst (λ n. size ≤ n) wanted_is fits.1);
    result = result;
    counted = counted;
    ran = subst (λ v. TeamHasRun program tool forks (team_sized number v size) size before counted result) icv_is (subst (λ t. TeamHasRun program tool forks t size before counted result) team_is ran);
    reply_is = told_so;
    begun = begun;
    tool_begins = begins;
    prog_joins = subst (λ prog. program.join_gives prog (progs_back result) after.prog) (ap (λ forker. forker.prog) hands ∙ ap (λ forker. forker.prog) begins.forker_is) prog_joins;
    tool_ends = subst (λ own. EndsTeam tool size own (tools_back result) after.tool) (ap (λ forker. forker.tool) hands) tool_ends;
    icv_is = same ∙ ap (λ forker. forker.icv) hands ∙ ap (λ forker. forker.icv) begins.forker_is;
    inner_is = same_inner ∙ ap (λ forker. forker.inner) hands ∙ ap (λ forker. both_counted forker.inner counted) begins.forker_is;
  })
