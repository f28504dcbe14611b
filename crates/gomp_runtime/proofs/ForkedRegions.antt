-- A region that is not refused: its number, its size and its team.
use Rattle.std.proofs.Common.{ℕ, ◌≡◌, ◌≤◌, ◌<◌, ◌+◌, ◌-◌, Bool, true, false, if◌then◌else◌, min, max, List, length, None, Result, Ok, Err, IfOk, inr, sym, subst, ap, ◌∙◌, arith}
use Rattle.std.proofs.lemmas.Result.{IfOk-weaker}
use Rattle.gomp_icv.specs.Teams.{may_be_active}
use Rattle.gomp_icv.specs.Variables.{Variables}
use Rattle.gomp_types.specs.Limits.{IsTeamSize}
use Rattle.gomp_ompt.specs.declared.record.Point.TheVariants.{ParallelBegin}
use Rattle.gomp_ompt.specs.declared.tool.Tool.{Ghosts as ToolGhosts}
use Rattle.gomp_team.specs.Members.{TeamView}
use Rattle.gomp_course.specs.declared.program.Program.{Ghosts as ProgramGhosts}
use Rattle.gomp_fork.specs.declared.report.Report.{Report}
use Rattle.gomp_fork.specs.declared.report.RegionFault.{RegionFault}
use Rattle.gomp_fork.specs.Reports.{LeavesRegion}
use Rattle.gomp_fork.specs.Teams.{team_sized}
use Rattle.gomp_levels.specs.Levels.{Forks}
use Rattle.gomp_runtime.specs.Regions.{EndIsTold, FirstIsTold, ForksRegion, RefusesFork, RunsRegion, RunsTold, RuntimeView, fork_refusal, size_for}

wish_fits : (active : Bool) (n limit : ℕ) → 0 < n
    → ((1 ≤ (if active then min (min (max n 1) (max limit 1)) 64 else 1)) × ((if active then min (min (max n 1) (max limit 1)) 64 else 1) ≤ 64)) × ((if active then min (min (max n 1) (max limit 1)) 64 else 1) ≤ n)
wish_fits true n limit some = ((omega (arith, some), omega arith), omega (arith, some))
wish_fits false n limit some = ((omega arith, omega arith), some)

size_fits : (icv : Variables) (n : ℕ) → 0 < n → IsTeamSize (size_for icv n) × (size_for icv n ≤ n)
size_fits icv n some = wish_fits (may_be_active icv true) n (icv.thread_limit + 1 - 1) some

module _ {P T : Type 0} (program : ProgramGhosts P) (tool : ToolGhosts T) where
  -- what a team has left that was made as the control variables give it
  pub region_of_its_size : (number size n : ℕ) (icv base : Variables) (team : TeamView) (progs : List P) (tools : List T) (result : Result (Report P T) (RegionFault P T))
      → icv ≡ base → n ≡ length progs → size ≡ size_for icv n → team ≡ team_sized number icv size
      → LeavesRegion program tool (Forks program tool) size team progs tools result → RunsRegion program tool number base progs tools result
  region_of_its_size number size n icv base team progs tools result icv_is n_is size_is team_is left =
      subst (λ v. LeavesRegion program tool (Forks program tool) (size_for v (length progs)) (team_sized number v (size_for v (length progs))) progs tools result) icv_is
      (subst (λ k. LeavesRegion program tool (Forks program tool) (size_for icv k) (team_sized number icv (size_for icv k)) progs tools result) n_is
      (subst (λ s. LeavesRegion program tool (Forks program tool) s (team_sized number icv s) progs tools result) size_is
      (subst (λ t. LeavesRegion program tool (Forks program tool) size t progs tools result) team_is left)))

  -- and whose begin and end were told
  pub region_told : (number size n : ℕ) (icv base : Variables) (team : TeamView) (progs : List P) (tools begun : List T) (left result : Result (Report P T) (RegionFault P T))
      → icv ≡ base → n ≡ length progs → size ≡ size_for icv n → team ≡ team_sized number icv size → FirstIsTold tool ParallelBegin size tools begun
      → LeavesRegion program tool (Forks program tool) size team progs begun left → EndIsTold tool size left result → RunsTold program tool number base progs tools result
  region_told number size n icv base team progs tools begun left result icv_is n_is size_is team_is begins leaves ends =
      let sized : size ≡ size_for base (length progs) = size_is ∙ (ap (λ v. size_for v n) icv_is ∙ ap (size_for base) n_is) in
      record {
        begun = begun;
        begins = subst (λ s. FirstIsTold tool ParallelBegin s tools begun) sized begins;
        left = left;
        region = region_of_its_size number size n icv base team progs begun left icv_is n_is size_is team_is leaves;
        ends = subst (λ s. EndIsTold tool s left result) sized ends;
      }

  -- the size of what is left stays
  size_told : (n : ℕ) (left result : Result (Report P T) (RegionFault P T)) → EndIsTold tool n left result → IfOk left (λ report. report.size ≡ n) → IfOk result (λ report. report.size ≡ n)
  size_told n (Ok report) (Ok told) ends size = ends.0 ∙ size
  size_told n (Ok report) (Err told) ends size = absurd ends
  size_told n (Err fault) (Ok told) ends size = absurd ends
  size_told n (Err fault) (Err told) ends size = tt

  -- a region has the number that the runtime gives next
  pub told_by_number : (runtime : RuntimeView) (number : ℕ) (progs : List P) (tools : List T) (result : Result (Report P T) (RegionFault P T))
      → number ≡ runtime.regions → RunsTold program tool number runtime.icv progs tools result → RunsTold program tool runtime.regions runtime.icv progs tools result
  told_by_number runtime number progs tools result number_is runs = subst (λ k. RunsTold program tool k runtime.icv progs tools result) number_is runs

  -- a region that is not refused
  pub region_forked : (runtime : RuntimeView) (number : ℕ) (progs : List P) (tools : List T) (result : Result (Report P T) (RegionFault P T))
      → number ≡ runtime.regions → fork_refusal runtime (length progs) (length tools) ≡ None → 0 < length progs
      → RunsTold program tool number runtime.icv progs tools result → ForksRegion program tool runtime progs tools result
  region_forked runtime number progs tools result number_is none some runs =
      let here = told_by_number runtime number progs tools result number_is runs in
      record {
        refused = subst (λ why. RefusesFork why progs tools result) (sym none) tt;
        region = inr here;
        fits = IfOk-weaker result _ _ (λ report size. subst (λ k. IsTeamSize k × (k ≤ length progs)) (sym size) (size_fits runtime.icv (length progs) some)) (size_told _ here.left result here.ends here.region.size);
      }
