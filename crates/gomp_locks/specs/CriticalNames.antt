-- The calls on critical names. OpenMP API 5.2, section 15.2.
use Rattle.std.specs.Prelude.{ℕ, nat_le, not, ◌&&◌, length, Bool, List, [], ◌∷◌, Option, Some, None}
use Rattle.gomp_text.specs.Words.{is_ascii}
use Rattle.gomp_types.specs.declared.task.Owner.{Owner}
use Rattle.gomp_types.specs.declared.critical_name.TheConstants.{MAX_NAME}
use Rattle.gomp_types.specs.declared.refusal.Refusal.TheVariants.{HoldsCritical, NameTooLong, AlreadyHeld, NotHolder}
use Rattle.gomp_types.specs.declared.reply.Reply.{Reply}
use Rattle.gomp_types.specs.declared.reply.Reply.TheVariants.{Finished, Wait}
use Rattle.gomp_types.specs.Tests.{Test}
use Rattle.gomp_locks.specs.Book.{BookView, with_name, owned_by, owned_by_member}

-- whether the name is refused as too long: it has more than 32 bytes, or a byte that is not ASCII (own)
abbrev pub is_too_long : List ℕ → Bool
is_too_long name = not (nat_le (length name) MAX_NAME && is_ascii name)

-- a member that holds the name in any of its tasks may not start it again
abbrev pub critical_start_tests : Owner → List ℕ → Option Owner → List Test
critical_start_tests owner name found = (is_too_long name, NameTooLong) ∷ (owned_by_member owner found, AlreadyHeld) ∷ []

-- a name that nobody holds is entered; else its owner is waited for
abbrev pub EntersCritical : Option Owner → Reply → Type 0
EntersCritical None Finished = Unit {0}
EntersCritical (Some other) Wait = Unit {0}
EntersCritical _ _ = ⊥

-- the book after that answer
abbrev pub after_critical_start : Owner → List ℕ → Reply → BookView → BookView
after_critical_start owner name Finished book = with_name name (Some owner) book
after_critical_start owner name _ book = book

-- the task that holds the name ends it
abbrev pub critical_end_tests : Owner → List ℕ → Option Owner → List Test
critical_end_tests owner name found = (is_too_long name, NameTooLong) ∷ (not (owned_by owner found), NotHolder) ∷ []

abbrev pub after_critical_end : List ℕ → Reply → BookView → BookView
after_critical_end name Finished book = with_name name None book
after_critical_end name _ book = book

-- a task that holds a critical name meets no barrier and no work-share
abbrev pub critical_tests : Bool → List Test
critical_tests holds = (holds, HoldsCritical) ∷ []
