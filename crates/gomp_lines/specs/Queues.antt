-- Which line a queue of tasks stands for. (own)
use Rattle.std.specs.Prelude.{ℕ, ◌≡◌, ◌<◌, ◌≤◌, ◌+◌, ◌==◌, max, ◌&&◌, ◌||◌, Bool, true, false, if◌then◌else◌, List, [], ◌∷◌, length, Option, Some, None}
use Rattle.gomp_growth.specs.Growth.{room_made}
use Rattle.gomp_lines.specs.declared.classes.Class.{Class}
use Rattle.gomp_lines.specs.declared.lines.Waiting.{Waiting}
use Rattle.gomp_lines.specs.Classes.{shares}
use Rattle.gomp_lines.specs.Lines.{Entry}

-- the class of the tasks of a line that are free there, how many they are, the tasks that joined after them, the oldest first, and for how many more there is room
pub record LineView : Type 0 where
  pub class : Class
  pub free_count : ℕ
  pub waiting : List Waiting
  pub room : ℕ

-- a waiting task as the line has it
abbrev pub entry_of : Waiting → Entry
entry_of task = record { task = task.task; class = task.class }

-- the line in which these tasks joined one after another, those that are complete left out
abbrev pub queued : List Waiting → List Entry → List Entry
queued [] line = line
queued (task ∷ tasks) line = queued tasks (if task.is_open then entry_of task ∷ line else line)

-- whether the task is open and waits
abbrev pub is_held_back : ℕ → List Waiting → Bool
is_held_back t [] = false
is_held_back t (task ∷ tasks) = task.is_open && task.task == t || is_held_back t tasks

-- whether no task waits
abbrev pub none_waits : List Waiting → Bool
none_waits [] = true
none_waits (task ∷ tasks) = false

-- whether a task of the class waits for none of those that are free
abbrev pub shares_with_free : Class → LineView → Bool
shares_with_free class queue = queue.free_count == 0 || shares class queue.class

-- whether a task of the class is free if it joins
abbrev pub is_unblocked : Class → LineView → Bool
is_unblocked class queue = none_waits queue.waiting && shares_with_free class queue

-- the tasks have falling numbers, all below this one
abbrev pub Fall : ℕ → List Entry → Type 0
Fall n [] = Unit {0}
Fall n (entry ∷ line) = (entry.task < n) × Fall entry.task line

-- the tasks have rising numbers, from the first on and below the second
abbrev pub Rise : ℕ → ℕ → List Waiting → Type 0
Rise low n [] = low ≤ n
Rise low n (task ∷ tasks) = (low ≤ task.task) × Rise (task.task + 1) n tasks

-- each task of a line has this class
abbrev pub HaveClass : Class → List Entry → Type 0
HaveClass class [] = Unit {0}
HaveClass class (entry ∷ line) = (entry.class ≡ class) × HaveClass class line

-- the queue has this line's tasks: some are free, and all that wait joined after them; all numbers are below this one
pub record LineQueues (queue : LineView) (n : ℕ) (line : List Entry) : Type 0 where
  pub free : List Entry
  pub line_is : line ≡ queued queue.waiting free
  pub count_is : length free ≡ queue.free_count
  pub of_class : HaveClass queue.class free
  pub sharing : 1 < queue.free_count → shares queue.class queue.class ≡ true
  pub low : ℕ
  pub fall : Fall low free
  pub rise : Rise low n queue.waiting

-- these are no tasks, or the first is open and waits for those that are free
abbrev pub FirstOf : LineView → List Waiting → Type 0
FirstOf queue [] = Unit {0}
FirstOf queue (task ∷ tasks) = (task.is_open ≡ true) × (shares_with_free task.class queue ≡ false)

-- the first waiting task, if there is one, is open and waits for those that are free
abbrev pub FirstWaits : LineView → Type 0
FirstWaits queue = FirstOf queue queue.waiting

-- the queue stands for the line: besides, no task waits that may go
pub record StandsFor (queue : LineView) (n : ℕ) (line : List Entry) : Type 0 where
  pub queues : LineQueues queue n line
  pub first : FirstWaits queue

-- whether the first of these waits for none of those that are free
abbrev pub first_may_join : LineView → List Waiting → Bool
first_may_join queue [] = false
first_may_join queue (task ∷ tasks) = shares_with_free task.class queue

-- whether the first waiting task waits for none of those that are free
abbrev pub first_may_go : LineView → Bool
first_may_go queue = first_may_join queue queue.waiting

-- the tasks from the first on that is open
abbrev pub from_first_open : List Waiting → List Waiting
from_first_open [] = []
from_first_open (task ∷ tasks) = if task.is_open then task ∷ tasks else from_first_open tasks

-- two queues have the same tasks
pub record SameTasks (one : LineView) (other : LineView) : Type 0 where
  pub class : one.class ≡ other.class
  pub free_count : one.free_count ≡ other.free_count
  pub waiting : one.waiting ≡ other.waiting

-- whether an answer is this task
abbrev pub is_task : ℕ → Option ℕ → Bool
is_task t None = false
is_task t (Some task) = task == t

-- for how many more waiting tasks there is room once it was asked for one: a task that is free needs none; if there was none, for one and for as many as wait, at least 3, besides
abbrev pub queue_room : Bool → ℕ → ℕ → ℕ
queue_room ready count room = if ready then room else room_made 1 (max count 3) room
