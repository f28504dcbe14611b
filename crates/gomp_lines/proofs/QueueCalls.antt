-- What the calls on a line need: their steps at the values that the code has.
use Rattle.std.proofs.Common.{◌≡◌, ℕ, ◌+◌, ◌<◌, ◌≤◌, true, false, List, [], ◌∷◌, ◌++◌, length, get_or, slice_set, refl, ap, ◌∙◌, sym, subst, arith}
use Rattle.std.specs.Prelude.{◌&&◌, ◌||◌, ◌==◌, not}
use Rattle.gomp_types.proofs.Booleans.{same_number}
use Rattle.gomp_lines.specs.declared.classes.Class.{Class}
use Rattle.gomp_lines.specs.declared.lines.Waiting.{Waiting}
use Rattle.gomp_lines.specs.Classes.{shares}
use Rattle.gomp_lines.specs.Lines.{Entry, without}
use Rattle.gomp_lines.specs.Queues.{LineView, is_held_back, is_unblocked, LineQueues, StandsFor, FirstOf, from_first_open, first_may_join}
use Rattle.gomp_lines.proofs.QueueTasks.{fall_length}
use Rattle.gomp_lines.proofs.QueueSteps.{closed, leaves_waiting, skips_closed, first_is_open, none_may_go, first_goes, held_after_first, held_from_open, joins_waiting, empty_queue}
use Rattle.gomp_lines.proofs.QueuePlaces.{has_place, set_closed}

-- a queue with these waiting tasks
abbrev pub queue : Class → ℕ → List Waiting → ℕ → LineView
queue class count waiting room = record { class = class; free_count = count; waiting = waiting; room = room }

pub stands_empty : (class : Class) (waiting : List Waiting) (room n : ℕ) → waiting ≡ [] → StandsFor (queue class 0 waiting room) n []
stands_empty class waiting room n none = subst (λ tasks. StandsFor (queue class 0 tasks room) n []) (sym none) (empty_queue class room n)

pub stands_joined : (class own : Class) (count room other n task : ℕ) (waiting after : List Waiting) (line : List Entry) → StandsFor (queue own count waiting room) n line → n ≤ task → is_unblocked class (queue own count waiting room) ≡ false →
    after ≡ waiting ++ record { task = task; class = class; is_open = true } ∷ [] → StandsFor (queue own count after other) (task + 1) (record { task = task; class = class } ∷ line)
stands_joined class own count room other n task waiting after line st le isnt is =
    subst (λ tasks. StandsFor (queue own count tasks other) (task + 1) (record { task = task; class = class } ∷ line)) (sym is) (joins_waiting class own count room other n task waiting line st le isnt)

-- the place of a task that leaves
pub closed_at : (t : ℕ) (queue : LineView) (n k : ℕ) (line : List Entry) (task : Waiting) → LineQueues queue n line → k < length queue.waiting → task ≡ get_or queue.waiting k task → task.task ≡ t →
    slice_set queue.waiting k (record { task = task.task; class = task.class; is_open = false }) ≡ closed t queue.waiting
closed_at t queue n k line task qs lt is number = set_closed t qs.low n queue.waiting k task qs.rise lt is number

pub queues_closed : (t : ℕ) (class : Class) (count room other n k : ℕ) (waiting after : List Waiting) (line : List Entry) (task : Waiting) → LineQueues (queue class count waiting room) n line → k < length waiting → task ≡ get_or waiting k task → task.task ≡ t →
    after ≡ closed t waiting → LineQueues (queue class count after other) n (without t line)
queues_closed t class count room other n k waiting after line task qs lt is number same =
    subst (λ tasks. LineQueues (queue class count tasks other) n (without t line)) (sym same)
    (let now = leaves_waiting t class count room n waiting line qs (has_place t waiting k task lt (ap (λ (one : Waiting). one.task) (sym is) ∙ number)) in
    record { free = now.free; line_is = now.line_is; count_is = now.count_is; of_class = now.of_class; sharing = now.sharing; low = now.low; fall = now.fall; rise = now.rise })

-- The next task that is free

pub skipped_queues : (class : Class) (count room other n : ℕ) (waiting skipped : List Waiting) (line : List Entry) → LineQueues (queue class count waiting room) n line → skipped ≡ from_first_open waiting → LineQueues (queue class count skipped other) n line
skipped_queues class count room other n waiting skipped line qs is = subst (λ tasks. LineQueues (queue class count tasks other) n line) (sym is) (skips_closed class count room other n waiting line qs)

pub none_goes : (class : Class) (count room : ℕ) (waiting skipped : List Waiting) → skipped ≡ from_first_open waiting → first_may_join (queue class count skipped room) skipped ≡ false → FirstOf (queue class count skipped room) skipped
none_goes class count room waiting skipped is waits =
    subst (λ tasks. FirstOf (queue class count skipped room) tasks) (sym is) (none_may_go (queue class count skipped room) waiting (ap (first_may_join (queue class count skipped room)) (sym is) ∙ waits))

-- the first of those that are left
pub record NextTask (class : Class) (count : ℕ) (waiting : List Waiting) (first : Waiting) (after : List Waiting) : Type 0 where
  pub skipped : List Waiting
  pub skipped_is : skipped ≡ from_first_open waiting
  pub first_is : skipped ≡ first ∷ after
  pub may_go : (count == 0 || shares first.class class) ≡ true

pub next_task : (class : Class) (count room : ℕ) (waiting skipped : List Waiting) (first : Waiting) (after : List Waiting) → skipped ≡ from_first_open waiting → skipped ≡ first ∷ after → first_may_join (queue class count skipped room) skipped ≡ true →
    NextTask class count waiting first after
next_task class count room waiting skipped first after is was may = record { skipped = skipped; skipped_is = is; first_is = was; may_go = ap (first_may_join (queue class count skipped room)) (sym was) ∙ may }

next_queues : (class : Class) (count room n : ℕ) (waiting : List Waiting) (first : Waiting) (after : List Waiting) (line : List Entry) → NextTask class count waiting first after → LineQueues (queue class count waiting room) n line →
    LineQueues (queue class count (first ∷ after) room) n line
next_queues class count room n waiting first after line next qs = skipped_queues class count room room n waiting (first ∷ after) line qs (sym next.first_is ∙ next.skipped_is)

next_task_is_open : (class : Class) (count : ℕ) (waiting : List Waiting) (first : Waiting) (after : List Waiting) → NextTask class count waiting first after → first.is_open ≡ true
next_task_is_open class count waiting first after next = first_is_open waiting first after (sym next.skipped_is ∙ next.first_is)

pub next_goes : (class : Class) (count room other n : ℕ) (waiting : List Waiting) (first : Waiting) (after : List Waiting) (line : List Entry) → NextTask class count waiting first after → LineQueues (queue class count waiting room) n line →
    LineQueues (queue first.class (count + 1) after other) n line
next_goes class count room other n waiting first after line next qs =
    first_goes class count room other n first after line (next_queues class count room n waiting first after line next qs) (next_task_is_open class count waiting first after next) next.may_go

pub next_held : (class : Class) (count room n : ℕ) (waiting : List Waiting) (first : Waiting) (after : List Waiting) (line : List Entry) → NextTask class count waiting first after → LineQueues (queue class count waiting room) n line →
    (t : ℕ) → is_held_back t after ≡ (is_held_back t waiting && not (first.task == t))
next_held class count room n waiting first after line next qs t =
    let now = next_queues class count room n waiting first after line next qs in
    held_after_first now.low n t first after now.rise (next_task_is_open class count waiting first after next)
    ∙ ap (λ b. b && not (first.task == t)) (ap (is_held_back t) (sym next.first_is ∙ next.skipped_is) ∙ held_from_open t waiting)

pub next_was_held : (class : Class) (count : ℕ) (waiting : List Waiting) (first : Waiting) (after : List Waiting) → NextTask class count waiting first after → is_held_back first.task waiting ≡ true
next_was_held class count waiting first after next =
    let first_held : is_held_back first.task (first ∷ after) ≡ true = rw (next_task_is_open class count waiting first after next, same_number first.task) refl in
    sym (held_from_open first.task waiting) ∙ ap (is_held_back first.task) (sym next.skipped_is ∙ next.first_is) ∙ first_held

-- there are fewer free tasks than its number
pub next_bounds : (class : Class) (count room n : ℕ) (waiting : List Waiting) (first : Waiting) (after : List Waiting) (line : List Entry) → NextTask class count waiting first after → LineQueues (queue class count waiting room) n line → count ≤ first.task
next_bounds class count room n waiting first after line next qs =
    let now = next_queues class count room n waiting first after line next qs in
    let len = now.count_is in
    let low = fall_length now.low now.free now.fall in
    let from = now.rise.0 in
    omega (arith, len, low, from)
