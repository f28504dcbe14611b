-- The rows of the open tasks that have items, and the list of those that were freed. (own)
use Rattle.std.specs.Prelude.{ℕ, ◌≡◌, ◌==◌, ◌&&◌, not, nat_lt, Bool, true, false, List, [], ◌∷◌, Option, Some, None, length}
use Rattle.std.specs.Ordering.{nat_cmp}
use Rattle.std.specs.BTreeMap as tree
use Rattle.gomp_types.specs.declared.task.Task.TheVariants.{Implicit}
use Rattle.gomp_types.specs.declared.depend.Dep.{Dep}
use Rattle.gomp_events.specs.Tasks.{contains}
use Rattle.gomp_depend.specs.declared.rows.Row.{Row}
use Rattle.gomp_depend.specs.declared.free_list.FreeList.{FreeList}
use Rattle.gomp_depend.specs.FreeLists.{are_different}
use Rattle.gomp_depend.specs.FreeTasks.{is_listed_free, listed_waiting_count}

-- whether a clause has items
abbrev pub has_items : List Dep → Bool
has_items [] = false
has_items (item ∷ items) = true

-- whether a row is of a task whose clause has items
abbrev pub names_items : Row → Bool
names_items row = nat_lt 0 row.named

-- what is kept of a task that has no row
abbrev pub no_row : Row
no_row = record { parent = Implicit 0; named = 0; held_count = 0 }

abbrev pub or_no_row : Option Row → Row
or_no_row None = no_row
or_no_row (Some row) = row

-- what the rows have of a task
abbrev pub row_in : ℕ → tree.BTreeMap ℕ Row → Row
row_in t rows = or_no_row (tree.get nat_cmp rows t)

-- whether a row is of a task that waits at no address
abbrev pub is_free_row : Row → Bool
is_free_row row = names_items row && row.held_count == 0

-- whether it is of one that waits at an address
abbrev pub is_waiting_row : Row → Bool
is_waiting_row row = names_items row && not (row.held_count == 0)

-- these are all tasks that wait at an address, by the rows
pub record WaitAll (rows : tree.BTreeMap ℕ Row) (tasks : List ℕ) : Type 0 where
  pub differ : are_different tasks ≡ true
  pub waits : (t : ℕ) → contains t tasks ≡ is_waiting_row (row_in t rows)

-- the list counts, beside the tasks that were freed, each that waits at an address, and none that waits was freed
pub record Tied (rows : tree.BTreeMap ℕ Row) (list : FreeList) : Type 0 where
  pub freed : (t : ℕ) → is_listed_free t list ≡ true → is_free_row (row_in t rows) ≡ true
  pub waits : ∥ ((tasks : List ℕ) × WaitAll rows tasks × (length tasks ≡ listed_waiting_count list)) ∥₁
