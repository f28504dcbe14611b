-- What the tables of lines and of rows say of tasks, each of the other. (own)
use Rattle.std.specs.Prelude.{ℕ, ◌≤◌, ◌≡◌, ◌+◌, ◌==◌, ◌&&◌, Bool, true, false, if◌then◌else◌, List, [], ◌∷◌, Some, None, length}
use Rattle.std.specs.List.{list_any}
use Rattle.gomp_types.specs.declared.task.Task.{Task}
use Rattle.gomp_types.specs.declared.depend.Dep.{Dep}
use Rattle.gomp_events.specs.Tasks.{same_task}
use Rattle.gomp_lines.specs.declared.classes.Class.{Class}
use Rattle.gomp_lines.specs.Classes.{class_at}
use Rattle.gomp_lines.specs.Lines.{Entry, without, is_in}
use Rattle.gomp_lines.specs.Queues.{LineQueues, StandsFor, is_held_back}
use Rattle.gomp_depend.specs.declared.rows.Row.{Row}
use Rattle.gomp_depend.specs.declared.rows.RowTable.{RowTable}
use Rattle.gomp_depend.specs.declared.table.LineTable.{LineTable}
use Rattle.gomp_depend.specs.Tables.{is_key, entry_at, line_at, depend_row}

-- whether a clause names the address
abbrev pub names : ℕ → List Dep → Bool
names a items = list_any (λ (item : Dep). a == item.addr) items

-- at how many addresses of a clause a test holds, each counted once
abbrev pub addresses_where : (ℕ → Bool) → List Dep → ℕ
addresses_where test [] = 0
addresses_where test (item ∷ items) =
    if names item.addr items then addresses_where test items else if test item.addr then addresses_where test items + 1 else addresses_where test items

-- whether the lines hold a child of a task at an address
abbrev pub holds : LineTable → ℕ → Task → ℕ → Bool
holds lines t p a = is_held_back t (line_at p a lines).waiting

-- the row of a child of a task with these items, by the lines
abbrev pub row_by : LineTable → ℕ → Task → List Dep → Row
row_by lines t p items = record { parent = p; named = length items; held_count = addresses_where (holds lines t p) items }

-- each row agrees with the lines, if tasks have these parents and these items; a task without a row has no items
abbrev pub Agree : (ℕ → Task) → (ℕ → List Dep) → LineTable → RowTable → Type 0
Agree parents items lines rows = (t : ℕ) → depend_row t rows ≡ row_by lines t (parents t) (items t)

-- each task of the line has this parent, and names the address
abbrev pub AreIn : Task → ℕ → (ℕ → Task) → (ℕ → List Dep) → List Entry → Type 0
AreIn p a parents items line = (t : ℕ) → is_in t line ≡ true → (parents t ≡ p) × (names a (items t) ≡ true)

-- the tables stand for these lines, with the tasks' parents and items; all numbers are below this one
pub record Books (n : ℕ) (parents : ℕ → Task) (items : ℕ → List Dep) (all : Task → ℕ → List Entry) (lines : LineTable) (rows : RowTable) : Type 0 where
  pub stand : (p : Task) (a : ℕ) → StandsFor (line_at p a lines) n (all p a)
  pub agree : Agree parents items lines rows

-- the lines without a task, in that of one parent and address
abbrev pub left_at : ℕ → Task → ℕ → (Task → ℕ → List Entry) → Task → ℕ → List Entry
left_at t parent addr all p a = if is_key parent addr p a then without t (all p a) else all p a

-- or in those of a parent and the addresses that these items name
abbrev pub left_by : ℕ → Task → List Dep → (Task → ℕ → List Entry) → Task → ℕ → List Entry
left_by t parent items all p a = if same_task parent p && names a items then without t (all p a) else all p a

-- no entry is kept of the line of a parent and an address if it has no task
abbrev pub NoneIsEmpty : Task → ℕ → (Task → ℕ → List Entry) → LineTable → Type 0
NoneIsEmpty p a all lines = all p a ≡ [] → entry_at p a lines ≡ None

-- every other task of the lines has a row
abbrev pub OthersIn : ℕ → (ℕ → Task) → (ℕ → List Dep) → (Task → ℕ → List Entry) → Type 0
OthersIn t parents items all = (u : ℕ) → (t == u) ≡ false → (p : Task) (a : ℕ) → is_in u (all p a) ≡ true → (parents u ≡ p) × (names a (items u) ≡ true)

-- a task that has no row is in the line of a parent and an address
pub record LeavesOne (t : ℕ) (parent : Task) (addr : ℕ) (parents : ℕ → Task) (items : ℕ → List Dep) (all : Task → ℕ → List Entry) : Type 0 where
  pub no_items : items t ≡ []
  pub there : is_in t (all parent addr) ≡ true
  pub others : OthersIn t parents items all

-- or in those of a parent and the addresses that these items name
pub record LeavesLines (t : ℕ) (parent : Task) (named : List Dep) (parents : ℕ → Task) (items : ℕ → List Dep) (all : Task → ℕ → List Entry) : Type 0 where
  pub no_items : items t ≡ []
  pub there : (a : ℕ) → names a named ≡ true → is_in t (all parent a) ≡ true
  pub others : OthersIn t parents items all

-- What the steps of a call on the tables do

-- a task joins the line of an address that these items name, as its class there has it
abbrev pub JoinsLine : ℕ → Task → ℕ → List Dep → LineTable → LineTable → Type 0
JoinsLine task parent addr items before after =
    (class : Class) (n : ℕ) (line : List Entry) → class_at addr items ≡ Some class → StandsFor (line_at parent addr before) n line → n ≤ task → StandsFor (line_at parent addr after) (task + 1) (record { task = task; class = class } ∷ line)

-- or those of all addresses that the rest of its items names
abbrev pub JoinsLines : ℕ → Task → List Dep → List Dep → LineTable → LineTable → Type 0
JoinsLines task parent items rest before after =
    (a : ℕ) (class : Class) (n : ℕ) (line : List Entry) → names a rest ≡ true → class_at a items ≡ Some class → StandsFor (line_at parent a before) n line → n ≤ task → StandsFor (line_at parent a after) (task + 1) (record { task = task; class = class } ∷ line)

-- the tables stand for some lines that the task, whose row is taken out, may leave at an address, or at those that these items name
abbrev pub MayLeaveOne : ℕ → Task → ℕ → LineTable → RowTable → Type 0
MayLeaveOne task parent addr lines rows = (n : ℕ) × (parents : ℕ → Task) × (deps : ℕ → List Dep) × (all : Task → ℕ → List Entry) × Books n parents deps all lines rows × LeavesOne task parent addr parents deps all

abbrev pub MayLeaveLines : ℕ → Task → List Dep → LineTable → RowTable → Type 0
MayLeaveLines task parent named lines rows = (n : ℕ) × (parents : ℕ → Task) × (deps : ℕ → List Dep) × (all : Task → ℕ → List Entry) × Books n parents deps all lines rows × LeavesLines task parent named parents deps all

-- a task that leaves, and whose child it is
pub record Leaver : Type 0 where
  pub task : ℕ
  pub parent : Task

-- and stand for them without the task after it
abbrev pub BooksAreLeftAt : Leaver → ℕ → LineTable → RowTable → LineTable → RowTable → Type 0
BooksAreLeftAt leaver addr lines rows lines_after rows_after =
    (n : ℕ) (parents : ℕ → Task) (deps : ℕ → List Dep) (all : Task → ℕ → List Entry) → Books n parents deps all lines rows → LeavesOne leaver.task leaver.parent addr parents deps all → Books n parents deps (left_at leaver.task leaver.parent addr all) lines_after rows_after

abbrev pub BooksAreLeft : Leaver → List Dep → LineTable → RowTable → LineTable → RowTable → Type 0
BooksAreLeft leaver named lines rows lines_after rows_after =
    (n : ℕ) (parents : ℕ → Task) (deps : ℕ → List Dep) (all : Task → ℕ → List Entry) → Books n parents deps all lines rows → LeavesLines leaver.task leaver.parent named parents deps all → Books n parents deps (left_by leaver.task leaver.parent named all) lines_after rows_after

-- and no entry is left of a line that has no task any more
abbrev pub DropsLine : ℕ → Task → ℕ → LineTable → RowTable → LineTable → Type 0
DropsLine task parent addr lines rows lines_after =
    (n : ℕ) (parents : ℕ → Task) (deps : ℕ → List Dep) (all : Task → ℕ → List Entry) → Books n parents deps all lines rows → LeavesOne task parent addr parents deps all → NoneIsEmpty parent addr (left_at task parent addr all) lines_after

abbrev pub DropsLines : ℕ → Task → List Dep → LineTable → RowTable → LineTable → Type 0
DropsLines task parent named lines rows lines_after =
    (n : ℕ) (parents : ℕ → Task) (deps : ℕ → List Dep) (all : Task → ℕ → List Entry) → Books n parents deps all lines rows → LeavesLines task parent named parents deps all →
    (a : ℕ) → names a named ≡ true → NoneIsEmpty parent a (left_by task parent named all) lines_after

-- the line of an address has its queue, and the rows agree with the lines, those of its tasks too
abbrev pub MayFreeTask : Task → ℕ → LineTable → RowTable → Type 0
MayFreeTask parent addr lines rows = (n : ℕ) × (line : List Entry) × (parents : ℕ → Task) × (deps : ℕ → List Dep) × LineQueues (line_at parent addr lines) n line × Agree parents deps lines rows × AreIn parent addr parents deps line

-- and still agree after it
abbrev pub StillAgree : Task → ℕ → LineTable → RowTable → LineTable → RowTable → Type 0
StillAgree parent addr lines rows lines_after rows_after =
    (n : ℕ) (line : List Entry) (parents : ℕ → Task) (deps : ℕ → List Dep) → LineQueues (line_at parent addr lines) n line → Agree parents deps lines rows → AreIn parent addr parents deps line → Agree parents deps lines_after rows_after
