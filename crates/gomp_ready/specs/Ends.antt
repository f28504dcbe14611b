-- The ends of the deque of a member. (own)
use Rattle.std.specs.Prelude.{ℕ, ◌++◌, List, Option}
use Rattle.std.specs.Option.{option_to_list}
use Rattle.gomp_ready.specs.declared.deque.End.{End}
use Rattle.gomp_ready.specs.declared.deque.End.TheVariants.{Newest, Oldest}

-- some tasks, the newest last, and one more at this end, if there is one
abbrev pub with_at : End → Option ℕ → List ℕ → List ℕ
with_at Newest task tasks = tasks ++ option_to_list task
with_at Oldest task tasks = option_to_list task ++ tasks
