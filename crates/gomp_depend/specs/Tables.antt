-- What the tables of lines and of rows have. (own)
use Rattle.std.specs.Prelude.{ℕ, ◌≡◌, ◌<◌, ◌≤◌, ◌+◌, ◌==◌, ◌&&◌, ◌||◌, Bool, false, List, [], ◌∷◌, Option, Some, None, IsSome, is_some}
use Rattle.std.specs.Ordering.{nat_cmp}
use Rattle.std.specs.BTreeMap as tree
use Rattle.gomp_types.specs.declared.task.Task.{Task}
use Rattle.gomp_events.specs.Tasks.{same_task}
use Rattle.gomp_lines.specs.declared.classes.Class.{Class}
use Rattle.gomp_lines.specs.declared.classes.Class.TheVariants.{Alone}
use Rattle.gomp_lines.specs.Lines.{Entry}
use Rattle.gomp_lines.specs.Queues.{LineView, StandsFor, is_unblocked}
use Rattle.gomp_depend.specs.declared.rows.Row.{Row}
use Rattle.gomp_depend.specs.declared.rows.RowTable.{RowTable}
use Rattle.gomp_depend.specs.declared.table.LineTable.{LineTable}
use Rattle.gomp_depend.specs.contracts.keys.LineKeyOrd.TheImpl.{ghosts}
use Rattle.gomp_depend.specs.Keys.{key_of}
use Rattle.gomp_depend.specs.FreeTasks.{is_listed_free, listed_count, HasPlace}
use Rattle.gomp_depend.specs.Rows.{row_in, is_waiting_row}

-- Lines

-- whether two lines are of one parent and one address
abbrev pub is_key : Task → ℕ → Task → ℕ → Bool
is_key parent addr p a = same_task parent p && addr == a

-- a line without tasks
abbrev pub no_tasks : LineView
no_tasks = record { class = Alone; free_count = 0; waiting = []; room = 0 }

abbrev pub or_no_tasks : Option LineView → LineView
or_no_tasks None = no_tasks
or_no_tasks (Some line) = line

-- what the table has of a parent and an address
abbrev pub entry_at : Task → ℕ → LineTable → Option LineView
entry_at p a table = tree.get ghosts.cmp table.lines (key_of p a)

-- their line
abbrev pub line_at : Task → ℕ → LineTable → LineView
line_at p a table = or_no_tasks (entry_at p a table)

-- there is room in an entry for one more task of the class
abbrev pub HasRoomIn : Class → Option LineView → Type 0
HasRoomIn class None = ⊥
HasRoomIn class (Some line) = is_unblocked class line ≡ false → 0 < line.room

abbrev pub HasRoomAt : Task → ℕ → Class → LineTable → Type 0
HasRoomAt p a class table = HasRoomIn class (entry_at p a table)

-- Rows

-- what is kept of a task
abbrev pub depend_row : ℕ → RowTable → Row
depend_row t table = row_in t table.rows

-- whether the table has an entry for the task, with a row or without
abbrev pub has_entry : ℕ → RowTable → Bool
has_entry t table = is_some (tree.get nat_cmp table.rows t)

-- the table has a place for the task's row
abbrev pub HasRow : ℕ → RowTable → Type 0
HasRow t table = IsSome (tree.get nat_cmp table.rows t) × HasPlace table.list

-- whether the task was freed, and is not handed out yet
abbrev pub is_row_freed : ℕ → RowTable → Bool
is_row_freed t table = is_listed_free t table.list

-- how many tasks wait at an address, or were freed and are not handed out yet
abbrev pub listed_row_count : RowTable → ℕ
listed_row_count table = listed_count table.list

-- tasks wait at fewer addresses, or at as many as before, those that wait at none any more are freed, and each has the entry that it had
pub record LowersRows (before after : RowTable) : Type 0 where
  pub parents : (t : ℕ) → (depend_row t after).parent ≡ (depend_row t before).parent
  pub named : (t : ℕ) → (depend_row t after).named ≡ (depend_row t before).named
  pub fewer : (t : ℕ) → (depend_row t after).held_count ≤ (depend_row t before).held_count
  pub freed : (t : ℕ) → is_row_freed t after ≡ (is_row_freed t before || (is_waiting_row (depend_row t before) && (depend_row t after).held_count == 0))
  pub listed : listed_row_count after ≡ listed_row_count before
  pub entries : (t : ℕ) → has_entry t after ≡ has_entry t before

-- the line that one value stands for, the other does
abbrev pub StillStands : LineView → LineView → Type 0
StillStands before after = (n : ℕ) (line : List Entry) → StandsFor before n line → StandsFor after n line

-- a task joins a line with this class
abbrev pub Joins : ℕ → Class → LineView → LineView → Type 0
Joins task class before after = (n : ℕ) (line : List Entry) → StandsFor before n line → n ≤ task → StandsFor after (task + 1) (record { task = task; class = class } ∷ line)
