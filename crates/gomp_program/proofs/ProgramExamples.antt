-- Examples of what the definitions of a program say.
use Rattle.std.proofs.Common.{◌≡◌, ℕ, ℤ, pos, negsuc, true, false, List, [], ◌∷◌, Some, None, refl}
use Rattle.gomp_types.specs.declared.call.Call.TheVariants.{SectionsEndNowait, Barrier as BarrierCall}
use Rattle.gomp_types.specs.declared.loop_desc.EndKind.TheVariants.{Wait, Nowait}
use Rattle.gomp_types.specs.declared.reply.Reply.TheVariants.{Chunk, Copied, Finished, Passed, Executor}
use Rattle.gomp_types.specs.declared.loop_desc.LoopDesc.{LoopDesc}
use Rattle.gomp_region.specs.declared.script.Script.{Script}
use Rattle.gomp_region.specs.declared.script.ScriptLine.{ScriptLine}
use Rattle.gomp_region.specs.declared.statement.Addend.TheVariants.{Number, Iteration as OfIteration}
use Rattle.gomp_region.specs.declared.statement.BlockConstruct.TheVariants.{Loop, Sections, Section, Single, Copy}
use Rattle.gomp_region.specs.declared.statement.EndWord.TheVariants.{EndFor, EndSections, EndSection, EndSingle}
use Rattle.gomp_region.specs.declared.statement.Statement.{Statement}
use Rattle.gomp_region.specs.declared.statement.Statement.TheVariants.{Begin, End, Add, Barrier}
use Rattle.gomp_program.specs.Answers.{is_answer}
use Rattle.gomp_program.specs.Calls.{call_to_end}
use Rattle.gomp_program.specs.Moves.{Executes, lead_of}
use Rattle.gomp_program.specs.Passing.{ComesTo, executes}
use Rattle.gomp_program.specs.Places.{blocks_inside, block_line, statement_at}
use Rattle.gomp_program.specs.Programs.{is_last_reply}
use Rattle.gomp_program.specs.Totals.{addition_at, joined_total, plus_number}
use Rattle.gomp_program.specs.Waits.{waiting_at}
use Rattle.gomp_program.specs.declared.frame.Block.TheVariants.{OfLoop}
use Rattle.gomp_program.specs.declared.frame.Frame.{Frame}
use Rattle.gomp_program.specs.declared.frame.Iteration.{Iteration}
use Rattle.gomp_program.specs.declared.frame.Stage.TheVariants.{Starting, Continuing, Putting, Ending, EndingRegion}
use Rattle.gomp_program.proofs.LeadLemmas.{has_arrived}
use Rattle.gomp_program.specs.declared.waiting.WaitsFor.TheVariants.{ForNothing, ForAll, ForTasks}

-- a statement on some line
abbrev pub on_some_line : Statement → ScriptLine
on_some_line statement = record { number = 7; statement = statement }

-- two sections, of which the first has a single in it, and what comes behind them
abbrev pub section_lines : List ScriptLine
section_lines = on_some_line (Begin Section) ∷ on_some_line (Begin Single) ∷ on_some_line (End EndSingle) ∷ on_some_line (End EndSection) ∷ on_some_line (Begin Section) ∷ on_some_line (End EndSection) ∷ on_some_line (End EndSections) ∷ on_some_line (Begin Section) ∷ []

pub sections_are_two : blocks_inside 0 section_lines ≡ 2
sections_are_two = refl

pub section_two_stands_fifth : block_line 2 0 11 section_lines ≡ Some 15
section_two_stands_fifth = refl

pub section_three_is_none : block_line 3 0 11 section_lines ≡ None
section_three_is_none = refl

-- a barrier stands behind a single, and none behind sections without one
pub single_ends_by_a_barrier : call_to_end Single ≡ BarrierCall
single_ends_by_a_barrier = refl

pub sections_end_without_one : call_to_end (Sections Nowait) ≡ SectionsEndNowait
sections_end_without_one = refl

pub sections_wait_for_nothing : waiting_at (Ending 0) (Some (Begin (Sections Nowait))) ≡ ForNothing
sections_wait_for_nothing = refl

pub sections_wait_for_all : waiting_at (Ending 0) (Some (Begin (Sections Wait))) ≡ ForAll
sections_wait_for_all = refl

pub region_waits_for_tasks : waiting_at EndingRegion None ≡ ForTasks
region_waits_for_tasks = refl

-- sections with a barrier are passed, and others finished
pub passed_answers_a_barrier : is_answer (Ending 0) (Some (Begin (Sections Wait))) Passed ≡ true
passed_answers_a_barrier = refl

pub finished_answers_no_barrier : is_answer (Ending 0) (Some (Begin (Sections Wait))) Finished ≡ false
finished_answers_no_barrier = refl

-- who does not execute a copy is handed its word
pub copy_has_an_executor : is_answer Starting (Some (Begin (Copy (pos 5)))) (Executor false) ≡ false
copy_has_an_executor = refl

pub word_of_a_copy_is_signed : addition_at Starting (Some (Begin (Copy (pos 5)))) (Copied (18446744073709551615 ∷ [])) ≡ Some (negsuc 0)
word_of_a_copy_is_signed = refl

pub executor_adds_its_number : addition_at Putting (Some (Begin (Copy (pos 5)))) Finished ≡ Some (pos 5)
executor_adds_its_number = refl

-- only the region's end is the last to be passed
pub start_is_not_passed_last : is_last_reply Starting Passed ≡ false
start_is_not_passed_last = refl

-- totals are added, and wrap
pub totals_are_added : joined_total (pos 1) (pos 2 ∷ negsuc 4 ∷ []) ≡ negsuc 1
totals_are_added = refl

pub totals_wrap_around : plus_number (pos 170141183460469231731687303715884105727) (pos 1) ≡ negsuc 170141183460469231731687303715884105727
totals_wrap_around = refl

-- a loop, whose iterations add their value, pass a barrier and add 5
pub record HasLoop (script : Script) (desc : LoopDesc) : Type 0 where
  pub begins : statement_at script 0 ≡ Some (Begin (Loop desc))
  pub value : statement_at script 1 ≡ Some (Add OfIteration)
  pub waits : statement_at script 2 ≡ Some Barrier
  pub five : statement_at script 3 ≡ Some (Add (Number (pos 5)))
  pub ends : statement_at script 4 ≡ Some (End EndFor)

abbrev pub in_iteration : ℤ → ℕ → Iteration
in_iteration value left = record { value = value; left = left }

abbrev pub in_loop : List Frame
in_loop = record { line = 0; block = OfLoop; around = in_iteration (pos 0) 0 } ∷ []

-- a chunk of the iterations 3 and 5 leads into iteration 3, behind the line of the loop
pub chunk_of_two_leads_in : (script : Script) (desc : LoopDesc) → HasLoop script desc → lead_of script (record { line = 0; stage = Starting; iteration = in_iteration (pos 0) 0; frames = [] }) (Chunk (pos 3) 2) ≡ Executes 1 (in_iteration (pos 3) 1) in_loop
chunk_of_two_leads_in script desc loop = rw loop.begins refl

-- there the member adds 3, and comes to the barrier
pub first_iteration_adds_three : (script : Script) (desc : LoopDesc) → HasLoop script desc → ComesTo script 0 (record { line = 1; iteration = in_iteration (pos 3) 1; frames = in_loop; total = pos 0 }) (record { line = 2; stage = Starting; iteration = in_iteration (pos 3) 1; frames = in_loop }) (pos 3)
first_iteration_adds_three script desc loop =
    executes _ (record { line = 2; iteration = in_iteration (pos 3) 1; frames = in_loop; total = pos 3 }) _ _ (rw loop.value refl)
    (has_arrived script 0 _ (record { line = 2; iteration = in_iteration (pos 3) 1; frames = in_loop; total = pos 3 }) _ (rw loop.waits refl) refl (rw loop.waits refl))

-- behind that barrier it adds 5, and 5 in iteration 5, and comes to the same barrier there
pub second_iteration_adds_ten : (script : Script) (desc : LoopDesc) → desc.incr ≡ pos 2 → HasLoop script desc → ComesTo script 0 (record { line = 3; iteration = in_iteration (pos 3) 1; frames = in_loop; total = pos 3 }) (record { line = 2; stage = Starting; iteration = in_iteration (pos 5) 0; frames = in_loop }) (pos 13)
second_iteration_adds_ten script desc by loop =
    executes _ (record { line = 4; iteration = in_iteration (pos 3) 1; frames = in_loop; total = pos 8 }) _ _ (rw loop.five refl)
    (executes _ (record { line = 1; iteration = in_iteration (pos 5) 0; frames = in_loop; total = pos 8 }) _ _ (rw (loop.ends, loop.begins, by) refl)
    (executes _ (record { line = 2; iteration = in_iteration (pos 5) 0; frames = in_loop; total = pos 13 }) _ _ (rw loop.value refl)
    (has_arrived script 0 _ (record { line = 2; iteration = in_iteration (pos 5) 0; frames = in_loop; total = pos 13 }) _ (rw loop.waits refl) refl (rw loop.waits refl))))

-- behind the barrier of the last iteration it adds 5, and asks for the next piece, outside of the loop's block
pub last_iteration_goes_out : (script : Script) (desc : LoopDesc) → HasLoop script desc → ComesTo script 0 (record { line = 3; iteration = in_iteration (pos 5) 0; frames = in_loop; total = pos 13 }) (record { line = 0; stage = Continuing; iteration = in_iteration (pos 0) 0; frames = [] }) (pos 18)
last_iteration_goes_out script desc loop =
    executes _ (record { line = 4; iteration = in_iteration (pos 5) 0; frames = in_loop; total = pos 18 }) _ _ (rw loop.five refl)
    (has_arrived script 0 _ (record { line = 4; iteration = in_iteration (pos 5) 0; frames = in_loop; total = pos 18 }) _ (rw (loop.ends, loop.begins) refl) refl (rw loop.ends refl))
