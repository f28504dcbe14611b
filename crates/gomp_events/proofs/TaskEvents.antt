-- What happened to a task, and what the events say of it.
use Rattle.std.proofs.Common.{false, ◌≡◌, ℕ, true, List, [], ◌∷◌, Some, refl, ◌∙◌, sym, arith, suc, inl, inr}
use Rattle.std.specs.Prelude.{◌&&◌, ◌==◌, nat_lt, nat_le}
use Rattle.std.proofs.lemmas.Bool.{cases_Bool}
use Rattle.std.proofs.lemmas.Bool.Decides.{nat_tests}
use Rattle.gomp_types.specs.declared.task.Task.{Task}
use Rattle.gomp_types.specs.declared.task.TaskDesc.{TaskDesc}
use Rattle.gomp_events.specs.declared.event.Event.{Event}
use Rattle.gomp_events.specs.declared.event.Event.TheVariants.{Create, Start, Done, Discard}
use Rattle.gomp_events.specs.Tasks.{tasks_created, is_created, has_started, task_runner, is_complete}
use Rattle.gomp_events.specs.Laws.{Always, Happened}
use Rattle.gomp_events.specs.TaskRules.{TaskRule}
use Rattle.gomp_events.specs.TaskLaws.{IsCreated, IsTaskDone}
use Rattle.gomp_types.proofs.Booleans.{not_both, or_tells, or_right, same_number, is_equal}
use Rattle.gomp_events.proofs.OpenTasks.{created_low, created_high}
use Rattle.gomp_events.proofs.Suspended.{created_stays}
use Rattle.gomp_events.proofs.LaterTasks.{old_created}

-- a task that is done stays so
pub done_stays : (event : Event) (t : ℕ) (h : List Event) → IsTaskDone t h → IsTaskDone t (event ∷ h)
done_stays event t h (m, inl done) = (m, inl (inr done))
done_stays event t h (m, inr gone) = (m, inr (inr gone))

-- a task that is complete was ended or discarded
pub complete_is_done : (t : ℕ) (h : List Event) → is_complete t h ≡ true → IsTaskDone t h
complete_is_done t [] e = absurd (cc)
complete_is_done t (Done task m ∷ earlier) e = elim (or_tells (task == t) (is_complete t earlier) e) [
  | inl same ↦ (m, inl (inl (let here = is_equal task t same in rw here refl)))
  | inr before ↦ done_stays (Done task m) t earlier (complete_is_done t earlier before)
]
complete_is_done t (Discard task m ∷ earlier) e = elim (or_tells (task == t) (is_complete t earlier) e) [
  | inl same ↦ (m, inr (inl (let here = is_equal task t same in rw here refl)))
  | inr before ↦ done_stays (Discard task m) t earlier (complete_is_done t earlier before)
]
complete_is_done t (_ ∷ earlier) e = done_stays _ t earlier (complete_is_done t earlier e)

-- and the other way round
pub done_is_complete : (t m : ℕ) (h : List Event) → Happened (Done t m) h → is_complete t h ≡ true
done_is_complete t m [] done = absurd done
done_is_complete t m (Done task member ∷ earlier) (inl e) = let here : task ≡ t = cc in rw (here, same_number t) refl
done_is_complete t m (Done task member ∷ earlier) (inr done) = or_right (task == t) (is_complete t earlier) (done_is_complete t m earlier done)
done_is_complete t m (Discard task member ∷ earlier) (inl e) = absurd (cc)
done_is_complete t m (Discard task member ∷ earlier) (inr done) = or_right (task == t) (is_complete t earlier) (done_is_complete t m earlier done)
done_is_complete t m (_ ∷ earlier) (inl e) = absurd (cc)
done_is_complete t m (_ ∷ earlier) (inr done) = done_is_complete t m earlier done

pub gone_is_complete : (t m : ℕ) (h : List Event) → Happened (Discard t m) h → is_complete t h ≡ true
gone_is_complete t m [] gone = absurd gone
gone_is_complete t m (Discard task member ∷ earlier) (inl e) = let here : task ≡ t = cc in rw (here, same_number t) refl
gone_is_complete t m (Discard task member ∷ earlier) (inr gone) = or_right (task == t) (is_complete t earlier) (gone_is_complete t m earlier gone)
gone_is_complete t m (Done task member ∷ earlier) (inl e) = absurd (cc)
gone_is_complete t m (Done task member ∷ earlier) (inr gone) = or_right (task == t) (is_complete t earlier) (gone_is_complete t m earlier gone)
gone_is_complete t m (_ ∷ earlier) (inl e) = absurd (cc)
gone_is_complete t m (_ ∷ earlier) (inr gone) = gone_is_complete t m earlier gone

pub done_or_gone : (t : ℕ) (h : List Event) → IsTaskDone t h → is_complete t h ≡ true
done_or_gone t h (m, inl done) = done_is_complete t m h done
done_or_gone t h (m, inr gone) = gone_is_complete t m h gone

-- so one that is not complete was neither ended nor discarded
pub open_is_not_done : (t : ℕ) (h : List Event) → is_complete t h ≡ false → IsTaskDone t h → ⊥
open_is_not_done t h incomplete done = not_both (is_complete t h) (done_or_gone t h done) incomplete

-- a task is not complete if nobody ended it and no cancellation discarded it
pub open_unless_done : (t : ℕ) (h : List Event) → (IsTaskDone t h → ⊥) → is_complete t h ≡ false
open_unless_done t h never = elim (cases_Bool (is_complete t h)) [ inl e ↦ absurd (never (complete_is_done t h e)) | inr e ↦ e ]

-- a task of which a start happened has started
pub start_happened : (t m : ℕ) (h : List Event) → Happened (Start t m) h → has_started t h ≡ true
start_happened t m [] start = absurd start
start_happened t m (Start task member ∷ earlier) (inl e) = let here : task ≡ t = cc in rw (here, same_number t) refl
start_happened t m (Start task member ∷ earlier) (inr start) = or_right (task == t) (has_started t earlier) (start_happened t m earlier start)
start_happened t m (_ ∷ earlier) (inl e) = absurd (cc)
start_happened t m (_ ∷ earlier) (inr start) = start_happened t m earlier start

-- the member that is its runner started it
pub runner_happened : (t m : ℕ) (h : List Event) → task_runner t h ≡ Some m → Happened (Start t m) h
runner_happened t m [] e = absurd (cc)
runner_happened t m (Start task member ∷ earlier) e = elim (cases_Bool (task == t)) [
  | inl same ↦ inl (let here = is_equal task t same in let who : member ≡ m = let some : Some member ≡ Some m = rw same at e in cc in rw (here, who) refl)
  | inr other ↦ inr (runner_happened t m earlier (rw other at e))
]
runner_happened t m (_ ∷ earlier) e = inr (runner_happened t m earlier e)

-- the newest task is among those that were created
pub newest_created : (t : ℕ) (h : List Event) → t ≡ suc (tasks_created h) → (nat_lt 0 t && nat_le t (suc (tasks_created h))) ≡ true
newest_created t h e = rw e (at (tasks_created h))
  where
    at : (n : ℕ) → (nat_lt 0 (suc n) && nat_le (suc n) (suc n)) ≡ true
    at n =
        let low : nat_lt 0 (suc n) ≡ true = grind (arith, nat_tests) in
        let high : nat_le (suc n) (suc n) ≡ true = grind (arith, nat_tests) in
        rw (low, high) refl

-- a task whose creation happened is among them
create_happened : (members t m : ℕ) (parent : Task) (desc : TaskDesc) (h : List Event) → Always (TaskRule members) h → Happened (Create t m parent desc) h → is_created t h ≡ true
create_happened members t m parent desc [] all made = absurd made
create_happened members t m parent desc (Create task member p d ∷ earlier) all (inl e) =
    let here : task ≡ t = cc in newest_created t earlier (sym here ∙ all.0.number)
create_happened members t m parent desc (Create task member p d ∷ earlier) all (inr made) = created_stays t earlier (create_happened members t m parent desc earlier all.1 made)
create_happened members t m parent desc (_ ∷ earlier) all (inl e) = absurd (cc)
create_happened members t m parent desc (_ ∷ earlier) all (inr made) = create_happened members t m parent desc earlier all.1 made

pub was_created : (members t : ℕ) (h : List Event) → Always (TaskRule members) h → IsCreated t h → is_created t h ≡ true
was_created members t h all made = create_happened members t made.0 made.1 made.2 h all made.3

-- and the other way round
pub created_happened : (members t : ℕ) (h : List Event) → Always (TaskRule members) h → is_created t h ≡ true → IsCreated t h
created_happened members t [] all e = absurd (let low = created_low t [] e in let high = created_high t [] e in omega (arith, low, high))
created_happened members t (Create task m parent desc ∷ earlier) all e = elim (cases_Bool (task == t)) [
  | inl same ↦ (m, parent, desc, inl (let here = is_equal task t same in rw here refl))
  | inr other ↦ let was = created_happened members t earlier all.1 (old_created t task earlier all.0.number other e) in (was.0, was.1, was.2, inr was.3)
]
created_happened members t (_ ∷ earlier) all e = let was = created_happened members t earlier all.1 e in (was.0, was.1, was.2, inr was.3)
