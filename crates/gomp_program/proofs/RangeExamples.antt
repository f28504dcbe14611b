-- A program keeps the numbers of its lines, members, sections and iterations, however large: each lemma holds for every number.
use Rattle.std.proofs.Common.{◌≡◌, ℕ, ℤ, zero, suc, pos, negsuc, ◌+◌, ◌-◌, ◌^◌, ◌<◌, Bool, List, [], ◌∷◌, ◌++◌, replicate, Some, None, refl, ap, ◌∙◌, arith}
use Rattle.gomp_types.specs.declared.call.Call.TheVariants.{OrderedStart, SectionsStart, SingleCopyEnd, TaskCreate}
use Rattle.gomp_types.specs.declared.depend.Dep.{Dep}
use Rattle.gomp_types.specs.declared.loop_desc.EndKind.{EndKind}
use Rattle.gomp_region.specs.declared.script.Script.{Script}
use Rattle.gomp_region.specs.declared.script.ScriptLine.{ScriptLine}
use Rattle.gomp_region.specs.declared.statement.BlockConstruct.TheVariants.{Copy, Ordered, Section, Sections, Task, Parallel}
use Rattle.gomp_region.specs.declared.statement.EndWord.TheVariants.{EndSection}
use Rattle.gomp_region.specs.declared.statement.Statement.TheVariants.{Begin, End, Barrier}
use Rattle.gomp_program.specs.declared.acts.ScriptAct.TheVariants.{Do, Parallel as ParallelAct}
use Rattle.gomp_program.specs.Calls.{act_of_line, call_to_put}
use Rattle.gomp_program.specs.Places.{behind_end, blocks_inside, block_line}
use Rattle.gomp_program.specs.Programs.{program_from}
use Rattle.gomp_program.specs.Totals.{plus_number}

-- Acts

-- a task has the number of its line as its code and the iteration's value as its argument, on whatever line it stands
pub task_has_its_line : (count number value : ℕ) (undeferred final_task : Bool) (deps : List Dep) → act_of_line count (pos value) (Some (record { number = number; statement = Begin (Task (record { undeferred = undeferred; final_task = final_task; deps = deps })) })) ≡ Do (TaskCreate (record { code = number; arg = value; undeferred = undeferred; final_task = final_task; deps = deps }))
task_has_its_line count number value undeferred final_task deps = refl

-- a value below 0 is its bits
pub task_has_the_bits_of_a_value : (count number beyond : ℕ) (undeferred final_task : Bool) (deps : List Dep) → act_of_line count (negsuc beyond) (Some (record { number = number; statement = Begin (Task (record { undeferred = undeferred; final_task = final_task; deps = deps })) })) ≡ Do (TaskCreate (record { code = number; arg = 2 ^ 64 - suc beyond; undeferred = undeferred; final_task = final_task; deps = deps }))
task_has_the_bits_of_a_value count number beyond undeferred final_task deps = refl

-- a nested region has its size, on whatever line it stands
pub region_has_its_size : (count number members : ℕ) (value : ℤ) → act_of_line count value (Some (record { number = number; statement = Begin (Parallel members) })) ≡ ParallelAct members
region_has_its_size count number members value = refl

-- sections have their count, and an ordered part the value of its iteration
pub sections_have_their_count : (count number : ℕ) (value : ℤ) (end_kind : EndKind) → act_of_line count value (Some (record { number = number; statement = Begin (Sections end_kind) })) ≡ Do (SectionsStart count end_kind)
sections_have_their_count count number value end_kind = refl

pub part_has_its_value : (count number : ℕ) (value : ℤ) → act_of_line count value (Some (record { number = number; statement = Begin Ordered })) ≡ Do (OrderedStart value)
part_has_its_value count number value = refl

-- a copy puts its number whole
pub copy_puts_its_number : (number beyond : ℕ) → (call_to_put (Copy (pos number)) ≡ SingleCopyEnd (number ∷ [])) × (call_to_put (Copy (negsuc beyond)) ≡ SingleCopyEnd ((2 ^ 64 - suc beyond) ∷ []))
copy_puts_its_number number beyond = (refl, refl)

-- Places

-- behind a line without a block comes the next one, whatever its index is
pub line_behind_any_line : (count line : ℕ) → line + 1 < 2 ^ 64 → behind_end count line None ≡ line + 1
line_behind_any_line count line fits = omega (arith, fits)

-- so many sections, each without a statement
abbrev empty_sections : ℕ → List ScriptLine
empty_sections zero = []
empty_sections (suc count) = record { number = 1; statement = Begin Section } ∷ record { number = 2; statement = End EndSection } ∷ empty_sections count

-- are counted, each as one
pub sections_are_all_counted : (count : ℕ) → blocks_inside 0 (empty_sections count) ≡ count
sections_are_all_counted zero = refl
sections_are_all_counted (suc count) = let more = sections_are_all_counted count in omega (arith, more)

-- statements in front of them change the place of the first alone
pub section_behind_any_statements : (count index : ℕ) (later : List ScriptLine) → block_line 1 0 index (replicate count (record { number = 1; statement = Barrier }) ++ record { number = 2; statement = Begin Section } ∷ later) ≡ Some (index + count)
section_behind_any_statements zero index later = ap Some (let same : index ≡ index + 0 = omega arith in same)
section_behind_any_statements (suc count) index later = section_behind_any_statements count (index + 1) later ∙ ap Some (let same : index + 1 + count ≡ index + suc count = omega arith in same)

-- Programs

-- a program begins on its line, as its member, whatever their numbers are
pub program_begins_where_told : (script : Script) (line member : ℕ) → ((program_from script line member).line ≡ line) × ((program_from script line member).member ≡ member)
program_begins_where_told script line member = (refl, refl)

-- Totals

-- the largest and the least number of 64 bits are added whole, to totals of 128 bits
pub totals_beyond_64_bits :
    (plus_number (pos 9223372036854775807) (pos 9223372036854775807) ≡ pos 18446744073709551614)
    × (plus_number (negsuc 9223372036854775807) (negsuc 9223372036854775807) ≡ negsuc 18446744073709551615)
    × (plus_number (pos 170141183460469231731687303715884105726) (pos 1) ≡ pos 170141183460469231731687303715884105727)
    × (plus_number (pos 170141183460469231731687303715884105727) (pos 1) ≡ negsuc 170141183460469231731687303715884105727)
totals_beyond_64_bits = (refl, refl, refl, refl)
