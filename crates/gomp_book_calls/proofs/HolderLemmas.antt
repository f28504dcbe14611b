-- Who holds a critical name: by the book and by what happened.
use Rattle.std.proofs.Common.{◌≡◌, ℕ, Bool, true, false, List, Option, Some, None, refl, ap, sym, subst, ◌∙◌}
use Rattle.std.specs.Prelude.{◌↔◌, IsTrue}
use Rattle.gomp_types.specs.declared.task.Owner.{Owner}
use Rattle.gomp_types.specs.declared.task.Task.{Task}
use Rattle.gomp_types.specs.declared.refusal.Refusal.{Refusal}
use Rattle.gomp_types.specs.Least.{least}
use Rattle.gomp_events.specs.Tasks.{executed_task}
use Rattle.gomp_types.specs.declared.lock.Held.{Held}
use Rattle.gomp_types.specs.declared.key.Key.TheVariants.{Critical}
use Rattle.gomp_locks.specs.Book.{BookView, name_owner, owned_by, held_by}
use Rattle.gomp_events.specs.Laws.{Always}
use Rattle.gomp_locks.specs.HoldRules.{HoldRule}
use Rattle.gomp_locks.specs.CriticalNames.{critical_tests}
use Rattle.gomp_locks.specs.Holders.{owner_of, asker, holder, holding_owner, holds_critical}
use Rattle.gomp_locks.proofs.HoldsKeep.{name_is_held, critical_name_held}
use Rattle.gomp_model.specs.Past.{Past}
use Rattle.gomp_book_calls.specs.Stands.{BookStands}

-- what a holder holds is owned by it
pub owned_by_holder : (owner : Owner) (found : Option Held) → owned_by owner (holding_owner found) ≡ held_by owner found
owned_by_holder owner None = refl
owned_by_holder owner (Some held) = refl

-- an owner holds a critical name in the book exactly if it does by what happened
pub names_held_in_past : (owner : Owner) (book : BookView) (p : Past) → BookStands book p → Always HoldRule p.events → (b : Bool) → IsTrue b ↔ ((name : List ℕ) × (owned_by owner (name_owner name book) ≡ true)) → holds_critical owner p.events ≡ b
names_held_in_past owner book p stands rule b so = by_events (holds_critical owner p.events) refl b so
  where
    owned : (name : List ℕ) → owned_by owner (name_owner name book) ≡ held_by owner (holder (Critical name) p.events)
    owned name = ap (owned_by owner) (stands.names name) ∙ owned_by_holder owner (holder (Critical name) p.events)

    by_events : (a : Bool) → holds_critical owner p.events ≡ a → (b : Bool) → IsTrue b ↔ ((name : List ℕ) × (owned_by owner (name_owner name book) ≡ true)) → a ≡ b
    by_events true e true so = refl
    by_events false e false so = refl
    by_events true e false so = let held = critical_name_held owner p.events rule e in let never : false ≡ true = so.1 (held.0, owned held.0 ∙ held.1) in absurd (cc)
    by_events false e true so =
        let held = so.0 refl in
        let told = name_is_held owner held.0 p.events rule (sym (owned held.0) ∙ held.1) in absurd (cc)

-- the tests on what a task holds are those on what the asker holds, if the member executes that task
pub tests_of_task : (m : ℕ) (task : Task) (p : Past) → executed_task m p.events ≡ task → (refusal : Option Refusal) → refusal ≡ least (critical_tests (holds_critical (owner_of m task) p.events)) → refusal ≡ least (critical_tests (holds_critical (asker m p.events) p.events))
tests_of_task m task p asks refusal told = subst (λ (t : Task). refusal ≡ least (critical_tests (holds_critical (owner_of m t) p.events))) (sym asks) told
