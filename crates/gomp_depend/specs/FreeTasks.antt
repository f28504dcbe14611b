-- What the list of tasks says of one. (own)
use Rattle.std.specs.Prelude.{ℕ, ◌<◌, ◌-◌, Bool, length, vec_capacity}
use Rattle.gomp_events.specs.Tasks.{contains}
use Rattle.gomp_depend.specs.declared.free_list.FreeList.{FreeList}

-- whether the task was freed, and is not handed out yet
abbrev pub is_listed_free : ℕ → FreeList → Bool
is_listed_free t list = contains t list.freed.items

-- how many tasks wait, or were freed and are not handed out yet
abbrev pub listed_count : FreeList → ℕ
listed_count list = list.count

-- how many of them wait
abbrev pub listed_waiting_count : FreeList → ℕ
listed_waiting_count list = list.count - length list.freed.items

-- there is room for one more task
abbrev pub HasPlace : FreeList → Type 0
HasPlace list = list.count < vec_capacity list.freed
