-- Where tasks are created among the events of a history.
use Rattle.std.proofs.Common.{◌≡◌, ℕ, ◌-◌, ◌<◌, true, List, [], ◌∷◌, ◌++◌, Some, length, refl, ◌∙◌, sym, subst, arith, suc, zero, inl, inr, slice_get, get_or}
use Rattle.std.specs.Prelude.{reverse}
use Rattle.std.proofs.lemmas.List.{reverse-append, length-reverse, length_push, reverse-reverse}
use Rattle.std.proofs.lemmas.Bool.{cases_lt}
use Rattle.std.proofs.lemmas.Option.{slice_get_within, get_or_from_slice_get}
use Rattle.gomp_types.specs.declared.task.Task.{Task}
use Rattle.gomp_types.specs.declared.task.TaskDesc.{TaskDesc}
use Rattle.gomp_events.specs.declared.event.Event.{Event}
use Rattle.gomp_events.specs.declared.event.Event.TheVariants.{Create}
use Rattle.gomp_events.specs.Tasks.{tasks_created, is_created, task_desc}
use Rattle.gomp_types.proofs.Booleans.{same_number, other_number}
use Rattle.gomp_events.proofs.OpenTasks.{created_low, created_high}
use Rattle.gomp_history.specs.Histories.{creation_places, AreNumbered, IsHistory}

-- Elements of a longer list

found_before : {X : Type 0} (xs ys : List X) (k : ℕ) (x : X) → slice_get xs k ≡ Some x → slice_get (xs ++ ys) k ≡ Some x
found_before [] ys k x at = absurd (cc)
found_before (first ∷ xs) ys zero x at = at
found_before (first ∷ xs) ys (suc k) x at = found_before xs ys k x at

found_last : {X : Type 0} (xs : List X) (x : X) (k : ℕ) → k ≡ length xs → slice_get (xs ++ x ∷ []) k ≡ Some x
found_last [] x k e = rw e refl
found_last (first ∷ xs) x k e = rw e (found_last xs x (length xs) refl)

-- the events with one more, the newest first
pub newest_first : (events : List Event) (event : Event) → reverse (events ++ event ∷ []) ≡ event ∷ reverse events
newest_first events event = reverse-append events (event ∷ [])

oldest_first : (event : Event) (h : List Event) → reverse (event ∷ h) ≡ reverse h ++ event ∷ []
oldest_first event h = reverse-append (event ∷ []) h

-- there is a place for each task
pub places_count : (h : List Event) → length (creation_places h) ≡ tasks_created h
places_count [] = refl
places_count (Create task m parent desc ∷ earlier) = let rest = places_count earlier in length_push (creation_places earlier) (length earlier) ∙ (omega (arith, rest))
places_count (_ ∷ earlier) = places_count earlier

-- The event that creates the task k + 1 stands at the place k

pub record CreatedAt (k : ℕ) (h : List Event) : Type 0 where
  pub place : ℕ
  pub m : ℕ
  pub parent : Task
  pub desc : TaskDesc
  pub kept : slice_get (creation_places h) k ≡ Some place
  pub there : slice_get (reverse h) place ≡ Some (Create (suc k) m parent desc)
  pub value : task_desc (suc k) h ≡ Some desc

-- also once there is another event
still_created_at : (k : ℕ) (event : Event) (h : List Event) → ((place : ℕ) → slice_get (creation_places h) k ≡ Some place → slice_get (creation_places (event ∷ h)) k ≡ Some place) → task_desc (suc k) (event ∷ h) ≡ task_desc (suc k) h → CreatedAt k h → CreatedAt k (event ∷ h)
still_created_at k event h places same at = record {
  place = at.place;
  m = at.m;
  parent = at.parent;
  desc = at.desc;
  kept = places at.place at.kept;
  there = rw (oldest_first event h) (found_before (reverse h) (event ∷ []) at.place (Create (suc k) at.m at.parent at.desc) at.there);
  value = same ∙ at.value;
}

newest_there : (t m : ℕ) (parent : Task) (desc : TaskDesc) (h : List Event) → t ≡ suc (tasks_created h) → CreatedAt (tasks_created h) (Create t m parent desc ∷ h)
newest_there t m parent desc h next = record {
  place = length h;
  m = m;
  parent = parent;
  desc = desc;
  kept = found_last (creation_places h) (length h) (tasks_created h) (sym (places_count h));
  there = rw (oldest_first (Create t m parent desc) h, ← next) (found_last (reverse h) (Create t m parent desc) (length h) (sym (length-reverse h)));
  value = rw (next, same_number (suc (tasks_created h))) refl;
}

pub created_at : (k : ℕ) (h : List Event) → AreNumbered h → k < tasks_created h → CreatedAt k h
created_at k [] numbered low = absurd (omega (arith, low))
created_at k (Create task m parent desc ∷ earlier) numbered low =
    elim (cases_lt k (tasks_created earlier)) [
      | inl below ↦ still_created_at k (Create task m parent desc) earlier
          (λ place at. found_before (creation_places earlier) (length earlier ∷ []) k place at)
          (rw (other_number task (suc k) (let next = numbered.0 in λ e. omega (arith, e, next, below))) refl)
          (created_at k earlier numbered.1 below)
      | inr past ↦
          let e : tasks_created earlier ≡ k = omega (arith, past, low) in
          subst (λ (n : ℕ). CreatedAt n (Create task m parent desc ∷ earlier)) e (newest_there task m parent desc earlier numbered.0)
    ]
created_at k (event ∷ earlier) numbered low = still_created_at k event earlier (λ place at. at) refl (created_at k earlier numbered low)

-- The same of the events, the oldest first

pub record CreatedAs (t : ℕ) (events : List Event) (places : List ℕ) : Type 0 where
  pub place : ℕ
  pub m : ℕ
  pub parent : Task
  pub desc : TaskDesc
  pub kept : slice_get places (t - 1) ≡ Some place
  pub there : slice_get events place ≡ Some (Create t m parent desc)
  pub value : task_desc t (reverse events) ≡ Some desc

as_numbered : (k t : ℕ) (events : List Event) (places : List ℕ) → suc k ≡ t → k ≡ t - 1 → places ≡ creation_places (reverse events) → CreatedAt k (reverse events) → CreatedAs t events places
as_numbered k t events places number before same at = record {
  place = at.place;
  m = at.m;
  parent = at.parent;
  desc = at.desc;
  kept = rw (← before, same) at.kept;
  there = rw (← number) (subst (λ (es : List Event). slice_get es at.place ≡ Some (Create (suc k) at.m at.parent at.desc)) (reverse-reverse events) at.there);
  value = rw (← number) at.value;
}

pub created_as : (capacity t : ℕ) (events : List Event) (places : List ℕ) → IsHistory capacity events places → is_created t (reverse events) ≡ true → CreatedAs t events places
created_as capacity t events places is created =
    let low = created_low t (reverse events) created in
    let high = created_high t (reverse events) created in
    as_numbered (t - 1) t events places (omega (arith, low)) refl is.kept (created_at (t - 1) (reverse events) is.numbered (omega (arith, low, high)))

-- what is read there

module _ (capacity t : ℕ) (events : List Event) (places : List ℕ) (is : IsHistory capacity events places) (created : is_created t (reverse events) ≡ true) where
  pub place_within : t - 1 < length places
  place_within = let at = created_as capacity t events places is created in slice_get_within places (t - 1) at.place at.kept

  module _ (place : ℕ) (read : place ≡ get_or places (t - 1) place) where
    place_is : place ≡ (created_as capacity t events places is created).place
    place_is = let at = created_as capacity t events places is created in read ∙ get_or_from_slice_get places (t - 1) at.place place at.kept

    pub event_within : place < length events
    event_within = let at = created_as capacity t events places is created in rw place_is (slice_get_within events at.place (Create t at.m at.parent at.desc) at.there)

    pub event_is : (event : Event) → event ≡ get_or events place event →
        (m : ℕ) × (parent : Task) × (desc : TaskDesc) × (event ≡ Create t m parent desc) × (task_desc t (reverse events) ≡ Some desc)
    event_is event at_place =
        let at = created_as capacity t events places is created in
        let there = subst (λ (n : ℕ). slice_get events n ≡ Some (Create t at.m at.parent at.desc)) (sym place_is) at.there in
        (at.m, at.parent, at.desc, at_place ∙ get_or_from_slice_get events place (Create t at.m at.parent at.desc) event there, at.value)
