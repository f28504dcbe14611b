-- Lines and steps for the examples. (own)
use Rattle.std.specs.Prelude.{ℕ, pos, ◌≡◌, ◌==◌, ◌++◌, Bool, false, List, [], map, replicate, Option, Some, Result, Ok, Err, codes}
use Rattle.std.specs.List.{slice_split}
use Rattle.gomp_types.specs.declared.call.Call.{Call}
use Rattle.gomp_types.specs.declared.call.Call.TheVariants.{LoopNext}
use Rattle.gomp_types.specs.declared.call.Step.{Step}
use Rattle.gomp_types.specs.declared.loop_desc.EndKind.{EndKind}
use Rattle.gomp_types.specs.declared.loop_desc.LoopDesc.{LoopDesc}
use Rattle.gomp_types.specs.declared.loop_desc.Sched.{Sched}
use Rattle.gomp_types.specs.declared.depend.Dep.{Dep}
use Rattle.gomp_types.specs.declared.depend.DepKind.{DepKind}
use Rattle.gomp_types.specs.declared.task.TaskDesc.{TaskDesc}
use Rattle.gomp_script.specs.declared.parse.BadLine.{BadLine}
use Rattle.gomp_script.specs.declared.parse.Why.{Why}
use Rattle.gomp_script.specs.StepText.{read_line, step_of, team_of, steps_of, bad_line}

-- the parts of a text between `|`
abbrev pub parts : List ℕ → List (List ℕ)
parts text = slice_split (λ b. b == 124) text

-- what each of these lines says of a step
abbrev pub steps_said : List (List ℕ) → List (Result (Option Step) Why)
steps_said lines = map (read_line step_of) lines

-- what each of these lines says of the team
abbrev pub teams_said : List (List ℕ) → List (Result (Option ℕ) Why)
teams_said lines = map (read_line team_of) lines

-- lines of member 0 with each of these calls
abbrev pub calls : List ℕ → List (List ℕ)
calls words = map (λ word. codes "0 " ++ word) (parts words)

-- so many faulty lines
abbrev pub each_bad : {A : Type 0} → ℕ → Why → List (Result (Option A) Why)
each_bad count why = replicate count (Err why)

-- the line says that member 0 makes this call
abbrev pub by_first : Call → Result (Option Step) Why
by_first call = Ok (Some (record { member = 0; call = call }))

-- a loop over 0 to 3 by 1, without a chunk
abbrev pub loop_of_four : Sched → EndKind → Bool → LoopDesc
loop_of_four sched end_kind ordered = record { start = pos 0; end = pos 4; incr = pos 1; sched = sched; chunk = pos 0; ordered = ordered; end_kind = end_kind }

-- a deferred task with this code and this argument
abbrev pub task_of : ℕ → ℕ → TaskDesc
task_of code arg = record { code = code; arg = arg; undeferred = false; final_task = false; deps = [] }

-- the same with these items
abbrev pub task_with : List Dep → TaskDesc
task_with items = record { code = 7; arg = 5; undeferred = false; final_task = false; deps = items }

-- an item
abbrev pub item_of : DepKind → ℕ → Dep
item_of kind addr = record { kind = kind; addr = addr }

-- the step by which member 0 asks for its next chunk
abbrev pub next_step : Step
next_step = record { member = 0; call = LoopNext }

-- a text whose line of this number is the first bad one
abbrev pub IsBad : ℕ → Why → List ℕ → Type 0
IsBad number why text = steps_of text ≡ bad_line number why

-- line 2, with this fault
abbrev pub second_line : Why → BadLine
second_line why = record { line = 2; why = why }
