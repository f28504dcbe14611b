-- How a board's history goes on with an event that is stored, and with another.
use Rattle.std.proofs.Common.{◌≡◌, ℕ, true, false, List, [], ◌∷◌, ◌++◌, Option, Some, refl, ap, ◌∙◌, sym, subst, suc, inl, inr}
use Rattle.std.specs.Prelude.{reverse, ◌==◌, if◌then◌else◌}
use Rattle.std.proofs.lemmas.List.{reverse-append}
use Rattle.std.proofs.lemmas.Bool.{cases_Bool}
use Rattle.gomp_types.specs.declared.cancel.Scope.TheVariants.{Region, OneShare, OneGroup}
use Rattle.gomp_types.specs.declared.task.TaskDesc.{TaskDesc}
use Rattle.gomp_events.specs.declared.event.Event.{Event}
use Rattle.gomp_events.specs.declared.event.Event.TheVariants.{Create, Cancel}
use Rattle.gomp_events.specs.Tasks.{tasks_created, task_desc}
use Rattle.gomp_events.specs.Depends.{task_items}
use Rattle.gomp_board.specs.Stored.{is_stored, stored}

-- the history with one more event at its end, the newest first
pub reverse_with : (history after : List Event) (event : Event) → after ≡ history ++ event ∷ [] → reverse after ≡ event ∷ reverse history
reverse_with history after event more = ap reverse more ∙ reverse-append history (event ∷ [])

-- an event that is stored comes to both
pub stored_with : (history after : List Event) (event : Event) (h : List Event) → is_stored event ≡ true → after ≡ history ++ event ∷ [] → stored h ≡ reverse history → stored (event ∷ h) ≡ reverse after
stored_with history after event h is more kept = rw (is, reverse_with history after event more) (ap (λ earlier. event ∷ earlier) kept)

-- another comes to neither
pub stored_aside : (history : List Event) (event : Event) (h : List Event) → is_stored event ≡ false → stored h ≡ reverse history → stored (event ∷ h) ≡ reverse history
stored_aside history event h is kept = rw is kept

-- what holds of the history with one more event in front holds of the history after it
pub history_after : (P : List Event → Type 0) (history after : List Event) (event : Event) → after ≡ history ++ event ∷ [] → P (event ∷ reverse history) → P (reverse after)
history_after P history after event more holds = subst P (sym (reverse_with history after event more)) holds

-- What the stored events say of tasks is what all events say

pub stored_created : (h : List Event) → tasks_created (stored h) ≡ tasks_created h
stored_created [] = refl
stored_created (Create task m parent desc ∷ earlier) = ap suc (stored_created earlier)
stored_created (Cancel m (OneShare share) ∷ earlier) = stored_created earlier
stored_created (Cancel m Region ∷ earlier) = stored_created earlier
stored_created (Cancel m (OneGroup group) ∷ earlier) = stored_created earlier
stored_created (_ ∷ earlier) = stored_created earlier

pub stored_desc : (t : ℕ) (h : List Event) → task_desc t (stored h) ≡ task_desc t h
stored_desc t [] = refl
stored_desc t (Create task m parent desc ∷ earlier) = ap (λ (rest : Option TaskDesc). if task == t then Some desc else rest) (stored_desc t earlier)
stored_desc t (Cancel m (OneShare share) ∷ earlier) = stored_desc t earlier
stored_desc t (Cancel m Region ∷ earlier) = stored_desc t earlier
stored_desc t (Cancel m (OneGroup group) ∷ earlier) = stored_desc t earlier
stored_desc t (_ ∷ earlier) = stored_desc t earlier

-- the items of a task are those of its description
items_of_desc : (t : ℕ) (desc : TaskDesc) (h : List Event) → task_desc t h ≡ Some desc → task_items t h ≡ desc.deps
items_of_desc t desc [] is = absurd (cc)
items_of_desc t desc (Create task m parent own ∷ earlier) is = elim (cases_Bool (task == t)) [
  | inl same ↦ let first : own ≡ desc = let e = rw same at is in cc in rw same (ap (λ (d : TaskDesc). d.deps) first)
  | inr other ↦ rw other (items_of_desc t desc earlier (rw other at is))
]
items_of_desc t desc (_ ∷ earlier) is = items_of_desc t desc earlier is

-- so a task that the history has is described there

pub kept_desc : (t : ℕ) (desc : TaskDesc) (h history : List Event) → stored h ≡ history → task_desc t history ≡ Some desc → task_desc t h ≡ Some desc
kept_desc t desc h history kept is = sym (stored_desc t h) ∙ ap (task_desc t) kept ∙ is

pub kept_items : (t : ℕ) (desc : TaskDesc) (h history : List Event) → stored h ≡ history → task_desc t history ≡ Some desc → desc.deps ≡ task_items t h
kept_items t desc h history kept is = sym (items_of_desc t desc h (kept_desc t desc h history kept is))
