-- Worked examples of the calls on names and locks, computed: what each test refuses, what each answer may be, what is left.
-- The expected values follow OpenMP API 5.2, sections 15.2 and 18.9, and libgomp's critical.c and lock.c.
use Rattle.std.proofs.Common.{◌≡◌, true, false, [], ◌∷◌, Some, None, refl}
use Rattle.std.specs.Prelude.{map, replicate}
use Rattle.gomp_types.specs.declared.task.Owner.{Owner}
use Rattle.gomp_types.specs.declared.refusal.Refusal.TheVariants.{NameTooLong, AlreadyHeld, NotHolder}
use Rattle.gomp_types.specs.declared.reply.Reply.TheVariants.{Finished, Wait}
use Rattle.gomp_types.specs.Least.{least}
use Rattle.gomp_locks.specs.Book.{BookView, name_at, name_owner, names_held, open_holds}
use Rattle.gomp_locks.specs.CriticalNames.{is_too_long, critical_start_tests, EntersCritical, critical_end_tests}
use Rattle.gomp_locks.specs.BookCalls.{after_call, start_critical, end_critical}

-- The owners: two members' implicit tasks, an explicit task of the first, and the first member of another team

abbrev pub zero_owner : Owner
zero_owner = record { team = 0; member = 0; task = 0 }

abbrev pub other_owner : Owner
other_owner = record { team = 0; member = 1; task = 0 }

abbrev pub task_owner : Owner
task_owner = record { team = 0; member = 0; task = 1 }

abbrev pub team_owner : Owner
team_owner = record { team = 1; member = 0; task = 0 }

abbrev pub empty_book : BookView
empty_book = record { names = []; locks = [] }

-- Critical names: 'a' is 97, 'b' is 98, and 'aa' is another name

-- owner 0 has entered 'a', and owner 1 'b'
abbrev pub entered : BookView
entered = after_call other_owner (start_critical (98 ∷ [])) Finished (after_call zero_owner (start_critical (97 ∷ [])) Finished empty_book)

pub names_entered : entered ≡ record { names = (97 ∷ [], Some zero_owner) ∷ (98 ∷ [], Some other_owner) ∷ []; locks = [] }
names_entered = refl

-- whose a name is: names are compared whole, so 'aa', the empty name and 'A' are nobody's
pub owners_of_names : map (λ name. name_owner name entered) ((97 ∷ []) ∷ (98 ∷ []) ∷ (97 ∷ 97 ∷ []) ∷ [] ∷ (65 ∷ []) ∷ []) ≡ Some zero_owner ∷ Some other_owner ∷ None ∷ None ∷ None ∷ []
owners_of_names = refl

-- a start is refused to the member that holds the name, in each of its tasks; not to another member, nor to that of another team
pub start_refusals :
    map (λ owner. least (critical_start_tests owner (97 ∷ []) (name_owner (97 ∷ []) entered))) (zero_owner ∷ task_owner ∷ other_owner ∷ team_owner ∷ []) ≡ Some AlreadyHeld ∷ Some AlreadyHeld ∷ None ∷ None ∷ []
start_refusals = refl

-- an end is refused to all but the task that holds the name, and of a name that nobody holds to all
pub end_refusals :
    map (λ owner. least (critical_end_tests owner (97 ∷ []) (name_owner (97 ∷ []) entered))) (zero_owner ∷ task_owner ∷ other_owner ∷ team_owner ∷ []) ≡ None ∷ Some NotHolder ∷ Some NotHolder ∷ Some NotHolder ∷ []
end_refusals = refl

pub end_of_free_name : least (critical_end_tests zero_owner (99 ∷ []) (name_owner (99 ∷ []) entered)) ≡ Some NotHolder
end_of_free_name = refl

-- 32 bytes are a name, 33 are too long, and a byte above 127 is no ASCII; then the name's owner is not asked for
pub long_names : map is_too_long (replicate 32 97 ∷ replicate 33 97 ∷ (127 ∷ []) ∷ (128 ∷ []) ∷ [] ∷ []) ≡ false ∷ true ∷ false ∷ true ∷ false ∷ []
long_names = refl

pub long_name_refused : (least (critical_start_tests zero_owner (128 ∷ []) (Some zero_owner)) ≡ Some NameTooLong) × (least (critical_end_tests zero_owner (128 ∷ []) (Some zero_owner)) ≡ Some NameTooLong)
long_name_refused = (refl, refl)

-- a free name is entered, and one that is held is waited for; no other answer is given
pub entered_or_waited : EntersCritical None Finished × EntersCritical (Some other_owner) Wait
entered_or_waited = (tt, tt)

pub no_entering_held : EntersCritical (Some other_owner) Finished → ⊥
no_entering_held never = never

pub no_waiting_for_free : EntersCritical None Wait → ⊥
no_waiting_for_free never = never

-- owner 1 ends 'b': it is nobody's, and was started; 'a' is owner 0's still
pub names_after_end : after_call other_owner (end_critical (98 ∷ [])) Finished entered ≡ record { names = (97 ∷ [], Some zero_owner) ∷ (98 ∷ [], None) ∷ []; locks = [] }
names_after_end = refl

-- started and held, started and free, never started
pub names_known : map (λ name. name_at name (after_call other_owner (end_critical (98 ∷ [])) Finished entered)) ((97 ∷ []) ∷ (98 ∷ []) ∷ (99 ∷ []) ∷ []) ≡ Some (Some zero_owner) ∷ Some None ∷ None ∷ []
names_known = refl

-- a call that waits, or is refused, leaves the book
pub waiting_leaves : after_call other_owner (start_critical (97 ∷ [])) Wait entered ≡ entered
waiting_leaves = refl

-- how many names each owner holds, and how many holds are open
pub names_counted : map (λ owner. names_held owner entered.names) (zero_owner ∷ task_owner ∷ other_owner ∷ team_owner ∷ []) ≡ 1 ∷ 0 ∷ 1 ∷ 0 ∷ []
names_counted = refl

pub two_holds : open_holds entered ≡ 2
two_holds = refl
