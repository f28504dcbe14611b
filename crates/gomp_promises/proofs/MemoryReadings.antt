-- When a text may find no memory, of every line, step and statement: only where there is one, and no bad line comes first; and errors that tell a bad line tell that one.
use Rattle.std.proofs.Common.{◌≡◌, ◌≢◌, ℕ, List, [], Some, None, Result, Ok, Err, refl}
use Rattle.gomp_types.specs.declared.call.Call.{Call}
use Rattle.gomp_types.specs.declared.call.Call.TheVariants.{TaskCreate, Taskwait}
use Rattle.gomp_types.specs.declared.call.Step.{Step}
use Rattle.gomp_types.specs.declared.depend.Dep.{Dep}
use Rattle.gomp_types.specs.declared.task.TaskDesc.{TaskDesc}
use Rattle.gomp_script.specs.declared.live.LiveLine.TheVariants as line
use Rattle.gomp_script.specs.declared.parse.BadLine.{BadLine}
use Rattle.gomp_script.specs.declared.parse.LineError.TheVariants as line_error
use Rattle.gomp_script.specs.declared.parse.ParseError.TheVariants as parse_error
use Rattle.gomp_script.specs.declared.parse.Why.{Why}
use Rattle.gomp_script.specs.LiveText.{AskedHasItems, LiveHasItems}
use Rattle.gomp_script.specs.StepText.{call_items, HasItems, LineHasItems, HasStep, TeamHasStep, Reads, Gives, refused_by}
use Rattle.gomp_region.specs.declared.script.BadScript.{BadScript}
use Rattle.gomp_region.specs.declared.script.ScriptError.TheVariants as script_error
use Rattle.gomp_region.specs.declared.script.ScriptLine.{ScriptLine}
use Rattle.gomp_region.specs.declared.script.AskedSize.{AskedSize}
use Rattle.gomp_region.specs.declared.statement.BlockConstruct.TheVariants as construct
use Rattle.gomp_region.specs.declared.statement.Statement.TheVariants as statement
use Rattle.gomp_region.specs.declared.statement.TaskClauses.{TaskClauses}
use Rattle.gomp_region.specs.ScriptText as script

-- Calls

-- a task and a wait for tasks have their items
pub task_and_wait_have_their_items : (task : TaskDesc) (items : List Dep) → (call_items (TaskCreate task) ≡ task.deps) × (call_items (Taskwait items) ≡ items)
task_and_wait_have_their_items task items = (refl, refl)

-- and no other call has any
pub other_call_has_no_items : (made : Call) → ((task : TaskDesc) → made ≢ TaskCreate task) → ((items : List Dep) → made ≢ Taskwait items) → call_items made ≡ []
other_call_has_no_items (TaskCreate task) create wait = absurd (create task refl)
other_call_has_no_items (Taskwait items) create wait = absurd (wait items refl)
other_call_has_no_items _ create wait = refl

-- Lines of steps

-- only a step with an item takes memory
pub step_without_items_takes_none : (step : Step) → call_items step.call ≡ [] → (HasItems (Ok step) → ⊥) × (LineHasItems (Ok (Some step)) → ⊥) × (LiveHasItems (Ok (Some (line.NextStep step))) → ⊥) × (AskedHasItems (Ok (line.NextStep step)) → ⊥)
step_without_items_takes_none step none = (λ some. some none, λ some. some none, λ some. some none, λ some. some none)

-- and no bad line, no line that says nothing, and no new team does
pub other_line_takes_none : (why : Why) (count : ℕ) →
    (HasItems (Err why) → ⊥) × (LineHasItems (Err why) → ⊥) × (LineHasItems (Ok None) → ⊥) × (LiveHasItems (Err why) → ⊥) × (LiveHasItems (Ok None) → ⊥) × (LiveHasItems (Ok (Some (line.NewTeam count))) → ⊥) × (AskedHasItems (Err why) → ⊥)
other_line_takes_none why count = (λ some. some, λ some. some, λ some. some, λ some. some, λ some. some, λ some. some, λ some. some)

-- Texts of steps

-- a text takes memory only with a step, and without a bad line
pub text_without_steps_takes_none : (count : ℕ) (bad : BadLine) → (HasStep (Ok []) → ⊥) × (HasStep (Err bad) → ⊥) × (TeamHasStep (Ok (count, [])) → ⊥) × (TeamHasStep (Err bad) → ⊥)
text_without_steps_takes_none count bad = (λ some. some refl, λ some. some, λ some. some refl, λ some. some)

-- a fault that is told is the one of the line, and a bad line that of the text
pub fault_that_is_told_is_there : {A : Type 0} (why : Why) (value : A) (read : Result A Why) → (Reads (Err (line_error.Fault why)) read → read ≡ Err why) × (Reads (Ok value) read → read ≡ Ok value)
fault_that_is_told_is_there why value read = (λ told. told, λ told. told)

pub bad_line_that_is_told_is_there : {X Y : Type 0} (view : X → Y) (bad : BadLine) (value : X) (read : Result Y BadLine) → (Gives view (Err (parse_error.Bad bad)) read → read ≡ Err bad) × (Gives view (Ok value) read → read ≡ Ok (view value))
bad_line_that_is_told_is_there view bad value read = (λ told. told, λ told. told)

-- where memory is refused a later bad line is told first
pub later_bad_line_is_told_first : (steps : List Step) (bad : BadLine) → (refused_by (Ok steps) ≡ parse_error.Memory) × (refused_by (Err bad) ≡ parse_error.Bad bad)
later_bad_line_is_told_first steps bad = (refl, refl)

-- Scripts

-- only a task with an item takes memory on its line
pub task_of_a_script_without_items_takes_none : (clauses : TaskClauses) → clauses.deps ≡ [] → (script.HasItems (Ok (statement.Begin (construct.Task clauses))) → ⊥) × (script.LineHasItems (Ok (Some (statement.Begin (construct.Task clauses)))) → ⊥)
task_of_a_script_without_items_takes_none clauses none = (λ some. some none, λ some. some none)

pub bad_line_of_a_script_takes_none : (why : Why) → (script.HasItems (Err why) → ⊥) × (script.LineHasItems (Err why) → ⊥) × (script.LineHasItems (Ok None) → ⊥)
bad_line_of_a_script_takes_none why = (λ some. some, λ some. some, λ some. some)

-- a script takes memory only with a statement, and without a bad line
pub script_without_statements_takes_none : (team : AskedSize) (ends : List ℕ) (bad : BadScript) → (script.HasStatement (Ok (team, [], ends)) → ⊥) × (script.HasStatement (Err bad) → ⊥) × (script.HasLine (Ok []) → ⊥) × (script.HasLine (Err bad) → ⊥)
script_without_statements_takes_none team ends bad = (λ some. some refl, λ some. some, λ some. some refl, λ some. some)

-- a bad line that is told is the one of the script, and comes before want of memory
pub bad_statement_that_is_told_is_there : {X Y : Type 0} (view : X → Y) (bad : BadScript) (value : X) (read : Result Y BadScript) → (script.Gives view (Err (script_error.Bad bad)) read → read ≡ Err bad) × (script.Gives view (Ok value) read → read ≡ Ok (view value))
bad_statement_that_is_told_is_there view bad value read = (λ told. told, λ told. told)

pub later_bad_statement_is_told_first : (lines : List ScriptLine) (bad : BadScript) → (script.refused_by (Ok lines) ≡ script_error.Memory) × (script.refused_by (Err bad) ≡ script_error.Bad bad)
later_bad_statement_is_told_first lines bad = (refl, refl)
