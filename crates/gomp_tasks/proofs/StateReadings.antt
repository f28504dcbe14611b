-- When a task is held and when it is ready, by what happened: of any task, items, member and list of events.
use Rattle.std.proofs.Common.{◌≡◌, ℕ, true, List, ◌∷◌, [], ◌++◌, sym, subst, inl, inr}
use Rattle.std.proofs.lemmas.Bool.{cases_Bool}
use Rattle.gomp_types.specs.declared.task.Task.{Task}
use Rattle.gomp_types.specs.declared.task.TaskDesc.{TaskDesc}
use Rattle.gomp_types.specs.declared.depend.Dep.{Dep}
use Rattle.gomp_events.specs.declared.event.Event.{Event}
use Rattle.gomp_events.specs.declared.event.Event.TheVariants.{Create}
use Rattle.gomp_events.specs.Tasks.{is_child}
use Rattle.gomp_types.specs.DependItems.{items_wait}
use Rattle.gomp_events.specs.Depends.{task_items, is_free}
use Rattle.gomp_events.specs.Laws.{Always, Happened}
use Rattle.gomp_events.specs.TaskRules.{TaskRule}
use Rattle.gomp_events.specs.TaskLaws.{IsTaskDone}
use Rattle.gomp_types.proofs.Booleans.{and_left, and_right}
use Rattle.gomp_events.proofs.TaskEvents.{open_is_not_done}
use Rattle.gomp_events.proofs.GoalReadings.{child_was_created, waits_since_created, waits_if_not_free, free_only_if_named_done, free_once_named_done, free_without_items}
use Rattle.gomp_tasks.specs.States.{State, IsUnstarted, InState}

-- an earlier child of the task's parent is not done, and an item of the task depends on one of its items
pub record HeldBack (t q : ℕ) (h : List Event) : Type 0 where
  pub later : List Event
  pub earlier : List Event
  pub creator : ℕ
  pub other_creator : ℕ
  pub parent : Task
  pub desc : TaskDesc
  pub other : TaskDesc
  pub created : h ≡ later ++ Create t creator parent desc ∷ earlier
  pub sibling : Happened (Create q other_creator parent other) earlier
  pub clash : items_wait desc.deps other.deps ≡ true
  pub undone : IsTaskDone q h → ⊥

-- a task that is held is held back by one
pub held_by_an_earlier_sibling : (t : ℕ) (h : List Event) → InState t State.Held h → (q : ℕ) × HeldBack t q h
held_by_an_earlier_sibling t h is =
    let found = waits_if_not_free t h is.1 in
    let from = waits_since_created t found.0 h found.1 in
    let own = child_was_created from.3 found.0 from.1 (and_left (is_child from.3 found.0 from.1) (items_wait from.4.deps (task_items found.0 from.1)) from.6) in
    let depend = and_right (is_child from.3 found.0 from.1) (items_wait from.4.deps (task_items found.0 from.1)) from.6 in (
      found.0,
      record {
        later = from.0;
        earlier = from.1;
        creator = from.2;
        other_creator = own.0;
        parent = from.3;
        desc = from.4;
        other = own.1;
        created = from.5;
        sibling = own.2;
        clash = subst (λ (old : List Dep). items_wait from.4.deps old ≡ true) own.3 depend;
        undone = open_is_not_done found.0 h found.2;
      },
    )

held_back_is_not_free : (members t q : ℕ) (h : List Event) → Always (TaskRule members) h → HeldBack t q h → is_free t h ≡ true → ⊥
held_back_is_not_free members t q h all back free =
    let whole = subst (λ (x : List Event). Always (TaskRule members) x) back.created all in
    let open' = subst (λ (x : List Event). is_free t x ≡ true) back.created free in
    back.undone (subst (λ (x : List Event). IsTaskDone q x) (sym back.created)
    (free_only_if_named_done members t q back.creator back.other_creator back.parent back.desc back.other back.later back.earlier whole back.sibling back.clash open'))

-- and one that nobody has started is held for as long as one holds it back
pub held_while_a_sibling_is_open : (members t q : ℕ) (h : List Event) → Always (TaskRule members) h → IsUnstarted t h → HeldBack t q h → InState t State.Held h
held_while_a_sibling_is_open members t q h all new back = (
  new,
  elim (cases_Bool (is_free t h)) [
    | inl free ↦ absurd (held_back_is_not_free members t q h all back free)
    | inr held ↦ held
  ],
)

-- it is ready as soon as none does
pub ready_once_nothing_holds : (members t : ℕ) (h : List Event) → Always (TaskRule members) h → IsUnstarted t h → ((q : ℕ) → HeldBack t q h → ⊥) → InState t State.Ready h
ready_once_nothing_holds members t h all new none = (
  new,
  elim (cases_Bool (is_free t h)) [
    | inl free ↦ free
    | inr held ↦ absurd (let by = held_by_an_earlier_sibling t h (new, held) in none by.0 by.1)
  ],
)

-- and only then
pub ready_only_if_nothing_holds : (members t q : ℕ) (h : List Event) → Always (TaskRule members) h → InState t State.Ready h → HeldBack t q h → ⊥
ready_only_if_nothing_holds members t q h all is back = held_back_is_not_free members t q h all back is.1

-- so it is ready once each earlier child of its parent is done that has an item on which one of its own depends
pub ready_once_named_done :
    (members t : ℕ) (h : List Event) → Always (TaskRule members) h → IsUnstarted t h →
    ((later earlier : List Event) (q m n : ℕ) (p : Task) (desc other : TaskDesc) →
    h ≡ later ++ Create t m p desc ∷ earlier → Happened (Create q n p other) earlier → items_wait desc.deps other.deps ≡ true → IsTaskDone q h) →
    InState t State.Ready h
ready_once_named_done members t h all new each = (new, free_once_named_done members t h all each)

-- and one without items at once
pub ready_without_items : (members t m : ℕ) (p : Task) (desc : TaskDesc) (h : List Event) → Always (TaskRule members) h → Happened (Create t m p desc) h → desc.deps ≡ [] → IsUnstarted t h → InState t State.Ready h
ready_without_items members t m p desc h all made none new = (new, free_without_items members t m p desc h all made none)
