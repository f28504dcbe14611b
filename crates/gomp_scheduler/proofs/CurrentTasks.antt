-- The task that a member executes.
use Rattle.std.proofs.Common.{◌≡◌, ℕ, ◌<◌, Bool, List, [], ◌∷◌, Option, Some, None, true, refl, ap, sym, ◌∙◌}
use Rattle.gomp_types.specs.declared.depend.Dep.{Dep}
use Rattle.gomp_types.specs.declared.task.Task.{Task}
use Rattle.gomp_types.specs.declared.task.Task.TheVariants.{Implicit, Explicit}
use Rattle.gomp_events.specs.declared.event.Event.{Event}
use Rattle.gomp_events.specs.Laws.{Always}
use Rattle.gomp_events.specs.Events.{barriers_passed}
use Rattle.gomp_events.specs.Tasks.{task_stack, innermost_task, executed_task, in_task, is_odd, epoch, epoch_of_child}
use Rattle.gomp_events.specs.Depends.{task_items}
use Rattle.gomp_events.specs.TaskRules.{TaskRule}
use Rattle.gomp_types.proofs.Booleans.{not_both}
use Rattle.gomp_events.proofs.Suspended.{current_open}
use Rattle.gomp_tasks.specs.declared.tasks.Ended.{Ended}
use Rattle.gomp_tasks.specs.Calls.{ended_task, task_or_implicit}
use Rattle.gomp_barrier.specs.Calls.{IsOpenParent, MayRelease}
use Rattle.gomp_depend.specs.Stands.{IsOpen}
use Rattle.gomp_scheduler.specs.Calls.{executed_items, items_of_task}

-- the implicit one is its own
own_of : (m x : ℕ) (ts : List ℕ) → innermost_task m ts ≡ Implicit x → x ≡ m
own_of m x [] e = cc
own_of m x (t ∷ ts) e = absurd (cc)

implicit_is_own : (m x : ℕ) (h : List Event) → executed_task m h ≡ Implicit x → x ≡ m
implicit_is_own m x h e = own_of m x (task_stack m h) e

-- the task that has ended is the one that it executed
pub ended_is_executed : (m : ℕ) (found : Option Ended) (ended : Ended) (h : List Event) → executed_task m h ≡ task_or_implicit m (ended_task found) → found ≡ Some ended → executed_task m h ≡ Explicit ended.task
ended_is_executed m found ended h answer is = answer ∙ ap (λ (f : Option Ended). task_or_implicit m (ended_task f)) is

-- one has ended if that is an explicit one
pub explicit_one_ends : (m : ℕ) (found : Option Ended) (h : List Event) → executed_task m h ≡ task_or_implicit m (ended_task found) → found ≡ None → in_task m h ≡ true → ⊥
explicit_one_ends m found h answer none inside = not_both (in_task m h) inside (rw (answer, none) refl)

-- its items are those that are lent
pub executed_items_are : (m t : ℕ) (items : List Dep) (h : List Event) → executed_task m h ≡ Explicit t → items ≡ executed_items m h → items ≡ task_items t h
executed_items_are m t items h current lent = lent ∙ ap (λ (p : Task). items_of_task p h) current

-- a task that is created in the implicit one is bound to the next barrier of the member
pub implicit_epoch : (m x : ℕ) (p : Task) (h : List Event) → p ≡ Implicit x → p ≡ executed_task m h → barriers_passed m h ≡ epoch_of_child p h
implicit_epoch m x p h is current = let own = implicit_is_own m x h (sym current ∙ is) in rw (is, own) refl

-- that one is open
pub executed_is_open : (members m t : ℕ) (h : List Event) → Always (TaskRule members) h → executed_task m h ≡ Explicit t → IsOpen t h
executed_is_open members m t h all current = let is = current_open members m t h all current in record { created = is.0; incomplete = is.1 }

-- either may have children
pub executed_is_parent : (members n m : ℕ) (p : Task) (h : List Event) → Always (TaskRule n) h → m < members → p ≡ executed_task m h → IsOpenParent members p h
executed_is_parent members n m (Implicit x) h all low e = rw (implicit_is_own m x h (sym e)) low
executed_is_parent members n m (Explicit t) h all low e = let is = current_open n m t h all (sym e) in (is.0, is.1)

-- once it is ended, the barrier to which it is bound waits for it no more
pub end_releases : (members m t : ℕ) (odd : Bool) (h : List Event) → Always (TaskRule members) h → executed_task m h ≡ Explicit t → odd ≡ is_odd (epoch t h) → MayRelease t odd h
end_releases members m t odd h all current parity = let is = executed_is_open members m t h all current in record { is_open = (is.created, is.incomplete); parity = parity }
