-- The line of a parent and an address: its open children that name the address, the newest first. OpenMP API 5.2, section 15.9.5.
use Rattle.std.specs.Prelude.{ℕ, ◌==◌, ◌||◌, Bool, true, false, if◌then◌else◌, List, [], ◌∷◌, Option, Some, None}
use Rattle.std.specs.List.{list_all}
use Rattle.gomp_types.specs.declared.task.Task.{Task}
use Rattle.gomp_types.specs.declared.depend.Dep.{Dep}
use Rattle.gomp_events.specs.declared.event.Event.{Event}
use Rattle.gomp_events.specs.declared.event.Event.TheVariants.{Create, Done, Discard}
use Rattle.gomp_events.specs.Tasks.{same_task}
use Rattle.gomp_events.specs.Depends.{task_items}
use Rattle.gomp_lines.specs.declared.classes.Class.{Class}
use Rattle.gomp_lines.specs.Classes.{shares, class_at, waits_in_line}
use Rattle.gomp_lines.specs.Order.{task_parent}

-- a task of a line, and its class there
pub record Entry : Type 0 where
  pub task : ℕ
  pub class : Class

-- a task with this class joins the line, if it has one
abbrev pub joined : ℕ → Option Class → List Entry → List Entry
joined t None line = line
joined t (Some class) line = record { task = t; class = class } ∷ line

-- a line without a task
abbrev pub without : ℕ → List Entry → List Entry
without t [] = []
without t (entry ∷ line) = if entry.task == t then without t line else entry ∷ without t line

-- the line of a parent and an address: a new child joins it if it names the address, and a task that is complete leaves it
abbrev pub line_of : Task → ℕ → List Event → List Entry
line_of p a [] = []
line_of p a (Create task member parent desc ∷ earlier) = if same_task parent p then joined task (class_at a desc.deps) (line_of p a earlier) else line_of p a earlier
line_of p a (Done task member ∷ earlier) = without task (line_of p a earlier)
line_of p a (Discard task member ∷ earlier) = without task (line_of p a earlier)
line_of p a (_ ∷ earlier) = line_of p a earlier

-- the class of a task in a line, if it is in there
abbrev pub class_in : ℕ → List Entry → Option Class
class_in t [] = None
class_in t (entry ∷ line) = if entry.task == t then Some entry.class else class_in t line

-- whether the task is in a line
abbrev pub is_in : ℕ → List Entry → Bool
is_in t [] = false
is_in t (entry ∷ line) = entry.task == t || is_in t line

-- whether the first of two tasks waits in a line for the second, which joined before it
abbrev pub waits_in : ℕ → ℕ → List Entry → Bool
waits_in t q [] = false
waits_in t q (entry ∷ line) = if entry.task == t then waits_in_line (Some entry.class) (class_in q line) else waits_in t q line

-- whether a task of this class waits for none of a line: it shares the address with each
abbrev pub waits_for_none : Class → List Entry → Bool
waits_for_none class line = list_all (λ (entry : Entry). shares class entry.class) line

-- and if it names the address at all
abbrev pub may_join : Option Class → List Entry → Bool
may_join None line = true
may_join (Some class) line = waits_for_none class line

-- whether a task of a line waits for none of it: it shares the address with each that was there before it
abbrev pub is_free_in : ℕ → List Entry → Bool
is_free_in t [] = true
is_free_in t (entry ∷ line) = if entry.task == t then waits_for_none entry.class line else is_free_in t line

-- whether a task is free at each of its addresses
abbrev pub is_free_at_each : ℕ → List Event → Bool
is_free_at_each t h = list_all (λ (item : Dep). is_free_in t (line_of (task_parent t h) item.addr h)) (task_items t h)

-- whether a child of the task with these items that is created now is
abbrev pub child_is_free : Task → List Dep → List Event → Bool
child_is_free p items h = list_all (λ (item : Dep). may_join (class_at item.addr items) (line_of p item.addr h)) items
