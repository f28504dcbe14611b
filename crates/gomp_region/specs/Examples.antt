-- Scripts and lines for the examples. (own)
use Rattle.std.specs.Prelude.{ℕ, pos, ◌≡◌, ◌==◌, false, List, map, replicate, Option, Some, Result, Ok, Err}
use Rattle.std.specs.List.{concat, slice_split}
use Rattle.gomp_types.specs.declared.depend.Dep.{Dep}
use Rattle.gomp_types.specs.declared.loop_desc.EndKind.TheVariants.{Wait}
use Rattle.gomp_types.specs.declared.loop_desc.LoopDesc.{LoopDesc}
use Rattle.gomp_types.specs.declared.loop_desc.Sched.{Sched}
use Rattle.gomp_script.specs.declared.parse.Why.{Why}
use Rattle.gomp_script.specs.StepText.{read_line}
use Rattle.gomp_region.specs.declared.script.ScriptLine.{ScriptLine}
use Rattle.gomp_region.specs.declared.script.ScriptWhy.{ScriptWhy}
use Rattle.gomp_region.specs.declared.script.ScriptWhy.TheVariants.{Words}
use Rattle.gomp_region.specs.declared.statement.Statement.{Statement}
use Rattle.gomp_region.specs.declared.statement.TaskClauses.{TaskClauses}
use Rattle.gomp_region.specs.ScriptText.{bad_script, script_of, statement_of}

-- the parts of a text between `|`
abbrev pub parts : List ℕ → List (List ℕ)
parts text = slice_split (λ b. b == 124) text

-- what each of these lines says
abbrev pub said : List (List ℕ) → List (Result (Option Statement) Why)
said lines = map (read_line statement_of) lines

-- each of them says a statement
abbrev pub each_says : List Statement → List (Result (Option Statement) Why)
each_says statements = map (λ statement. Ok (Some statement)) statements

-- so many faulty lines
abbrev pub each_bad : ℕ → Why → List (Result (Option Statement) Why)
each_bad count why = replicate count (Err why)

-- a text whose line of this number is the first bad one
abbrev pub IsBad : ℕ → ScriptWhy → List ℕ → Type 0
IsBad number why text = script_of text ≡ bad_script number why

-- the same, for a fault of the words alone
abbrev pub HasBadWords : ℕ → Why → List ℕ → Type 0
HasBadWords number why text = IsBad number (Words why) text

-- a statement on the line of this number
abbrev pub on_line : ℕ → Statement → ScriptLine
on_line number statement = record { number = number; statement = statement }

-- a loop from 0 by 1 to here, with this chunk, and a barrier at its end
abbrev pub loop_to : Sched → ℕ → ℕ → LoopDesc
loop_to sched chunk end = record { start = pos 0; end = pos end; incr = pos 1; sched = sched; chunk = pos chunk; ordered = false; end_kind = Wait }

-- the clauses of a task that has these items alone
abbrev pub with_items : List Dep → TaskClauses
with_items items = record { undeferred = false; final_task = false; deps = items }

-- the same text, so many times
abbrev pub times : ℕ → List ℕ → List ℕ
times count text = concat (replicate count text)

-- a statement on line 2
abbrev pub on_second : Statement → ScriptLine
on_second statement = on_line 2 statement
