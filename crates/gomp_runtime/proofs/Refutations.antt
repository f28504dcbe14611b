-- What a region is never refused by, and what no tool is told of one.
use Rattle.std.proofs.Common.{ℕ, ◌≡◌, ◌≢◌, Bool, true, false, List, [], ◌∷◌, Some, None, Ok, Err, ap, refl, nat_lt, not, if◌then◌else◌, ◌==◌, ◌||◌}
use Rattle.gomp_types.specs.declared.refusal.Refusal.TheVariants.{CountTooLarge, BadTeam}
use Rattle.gomp_ompt.specs.Records.{single_record}
use Rattle.gomp_ompt.specs.declared.record.Point.{Point}
use Rattle.gomp_ompt.specs.declared.tool.Tool.{Ghosts as ToolGhosts}
use Rattle.gomp_fork.specs.declared.report.Report.{Report}
use Rattle.gomp_fork.specs.declared.report.RegionFault.{RegionFault}
use Rattle.gomp_runtime.specs.Regions.{EndIsTold, FirstIsTold, RuntimeView, fork_refusal}

pub no_region_after_the_last_number : (runtime : RuntimeView) (progs tools : ℕ) → runtime.regions ≡ 2147483648 → fork_refusal runtime progs tools ≢ Some CountTooLarge → ⊥
no_region_after_the_last_number runtime progs tools last other = other (rw last refl)

refused_late_or_empty : (late : Bool) (tools : ℕ) → (if late then Some CountTooLarge else if (0 == 0) || not (0 == tools) then Some BadTeam else None) ≡ None → ⊥
refused_late_or_empty true tools goes = absurd (cc goes)
refused_late_or_empty false tools goes = absurd (cc goes)

pub no_region_without_a_program : (runtime : RuntimeView) (tools : ℕ) → fork_refusal runtime 0 tools ≡ None → ⊥
no_region_without_a_program runtime tools goes = refused_late_or_empty (nat_lt 2147483647 runtime.regions) tools goes

abbrev tail : {T : Type 0} → List T → List T
tail [] = []
tail (first ∷ others) = others

-- A tool that is not member 0's is told nothing of an outermost team
pub no_other_tool_is_told : {T : Type 0} (tool : ToolGhosts T) (point : Point) (n : ℕ) (own told : T) (others after : List T)
    → FirstIsTold tool point n (own ∷ others) (told ∷ after) → after ≢ others → ⊥
no_other_tool_is_told tool point n own told others after (given, gives, is) other = other (ap tail is)

-- and its own is, whatever it is then
pub no_first_tool_untold : {T : Type 0} (tool : ToolGhosts T) (point : Point) (n : ℕ) (own : T) (others after : List T) → FirstIsTold tool point n (own ∷ others) after
    → ((told : T) → tool.on_gives own (single_record point n 0) told → ⊥) → ⊥
no_first_tool_untold tool point n own others after (told, gives, is) never = never told gives

-- No report comes of a fault, and no fault of a report, as the end is told
pub no_report_of_a_fault : {P T : Type 0} (tool : ToolGhosts T) (n : ℕ) (fault : RegionFault P T) (report : Report P T) → EndIsTold tool n (Err fault) (Ok report) → ⊥
no_report_of_a_fault tool n fault report ends = absurd ends

pub no_fault_of_a_report : {P T : Type 0} (tool : ToolGhosts T) (n : ℕ) (report : Report P T) (fault : RegionFault P T) → EndIsTold tool n (Ok report) (Err fault) → ⊥
no_fault_of_a_report tool n report fault ends = absurd ends
