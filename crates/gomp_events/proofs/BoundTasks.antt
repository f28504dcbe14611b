-- The laws of tasks give the barrier law of the whole list: a task that is bound to a barrier is done before any member passes it.
use Rattle.std.proofs.Common.{◌≡◌, ℕ, ◌<◌, ◌≤◌, List, [], ◌∷◌, refl, subst, arith, inl, inr}
use Rattle.std.specs.Prelude.{◌==◌, ◌++◌}
use Rattle.std.proofs.lemmas.Bool.{cases_Bool}
use Rattle.gomp_types.specs.declared.task.Task.{Task}
use Rattle.gomp_types.specs.declared.task.TaskDesc.{TaskDesc}
use Rattle.gomp_events.specs.declared.event.Event.{Event}
use Rattle.gomp_events.specs.declared.event.Event.TheVariants.{Create, Pass}
use Rattle.gomp_events.specs.Tasks.{epoch}
use Rattle.gomp_events.specs.Laws.{Always, Happened}
use Rattle.gomp_events.specs.TaskLaws.{IsCreated, IsTaskDone, CreatesOnce, PassesAfterTasks, CreatesLater, BoundIsDone, TaskLaws}
use Rattle.gomp_types.proofs.Booleans.{is_equal}
use Rattle.gomp_events.proofs.LaterTasks.{old_epoch}

-- a task keeps its barrier
epoch_stays : (t : ℕ) (event : Event) (h : List Event) → CreatesOnce event h → IsCreated t h → epoch t (event ∷ h) ≡ epoch t h
epoch_stays t (Create task m p desc) h once made = old_epoch t task m p desc h (elim (cases_Bool (task == t)) [
  | inl same ↦ absurd (once (let here = is_equal task t same in rw here made))
  | inr other ↦ other
])
epoch_stays t _ h once made = refl

pass_happened : (barrier m : ℕ) (later earlier : List Event) → Happened (Pass barrier m) (later ++ Pass barrier m ∷ earlier)
pass_happened barrier m [] earlier = inl refl
pass_happened barrier m (event ∷ later) earlier = inr (pass_happened barrier m later earlier)

-- a task that is created after a pass is bound to a later barrier
created_past : (t barrier m : ℕ) (event : Event) (h : List Event) → CreatesLater event h → Happened (Pass barrier m) h →
    (n : ℕ) (p : Task) (desc : TaskDesc) → event ≡ Create t n p desc → barrier < epoch t (event ∷ h)
created_past t barrier m event h later past n p desc e =
    let new : CreatesLater (Create t n p desc) h = subst (λ (x : Event). CreatesLater x h) e later in
    rw e (new barrier m past)

bound_before : (later earlier : List Event) (barrier m t : ℕ) →
    Always CreatesOnce (later ++ Pass barrier m ∷ earlier) → Always PassesAfterTasks (later ++ Pass barrier m ∷ earlier) → Always CreatesLater (later ++ Pass barrier m ∷ earlier) →
    IsCreated t (later ++ Pass barrier m ∷ earlier) → epoch t (later ++ Pass barrier m ∷ earlier) ≤ barrier → IsTaskDone t earlier
bound_before [] earlier barrier m t once passes after made early =
    elim made.3 [ inl e ↦ absurd (cc) | inr was ↦ passes.0 t (made.0, made.1, made.2, was) early ]
bound_before (event ∷ later) earlier barrier m t once passes after made early =
    elim made.3 [
      | inl e ↦ absurd (let past = created_past t barrier m event (later ++ Pass barrier m ∷ earlier) after.0 (pass_happened barrier m later earlier) made.0 made.1 made.2 e in omega (arith, past, early))
      | inr was ↦
          let before : IsCreated t (later ++ Pass barrier m ∷ earlier) = (made.0, made.1, made.2, was) in
          let same = epoch_stays t event (later ++ Pass barrier m ∷ earlier) once.0 before in
          bound_before later earlier barrier m t once.1 passes.1 after.1 before (omega (arith, same, early))
    ]

-- so a task that is bound to a barrier is done before any member passes it
pub bound_is_done : (h : List Event) → TaskLaws h → BoundIsDone h
bound_is_done h laws = λ later earlier barrier m e t made early.
    bound_before later earlier barrier m t (subst (λ (x : List Event). Always CreatesOnce x) e laws.created_once) (subst (λ (x : List Event). Always PassesAfterTasks x) e laws.passes) (subst (λ (x : List Event). Always CreatesLater x) e laws.later)
    (subst (λ (x : List Event). IsCreated t x) e made) (subst (λ (x : List Event). epoch t x ≤ barrier) e early)
