-- The record in which member 0 makes the locks of an older team has its causes, and a new team with these locks stands for it.
use Rattle.std.proofs.Common.{◌≡◌, ℕ, ◌+◌, ◌<◌, ◌≤◌, Bool, true, false, List, [], ◌∷◌, ◌++◌, Option, Some, None, length, slice_get, slice_set, refl, ap, ◌∙◌, sym, subst, arith, append_assoc, length-append}
use Rattle.std.specs.Prelude.{nat_le, ◌==◌, if◌then◌else◌, option_map, map}
use Rattle.std.proofs.lemmas.Bool.Decides.{nat_tests}
use Rattle.std.proofs.lemmas.List.{length-map, append-nil}
use Rattle.std.proofs.lemmas.Option.{slice_get-map}
use Rattle.gomp_types.specs.declared.call.Call.TheVariants.{LockDestroy}
use Rattle.gomp_types.specs.declared.lock.TheConstants.{MAX_LOCKS}
use Rattle.gomp_types.specs.declared.lock.LockKind.{LockKind}
use Rattle.gomp_types.specs.declared.lock.LockKind.TheVariants.{Simple, Nest}
use Rattle.gomp_types.specs.declared.reply.Reply.TheVariants.{Finished, Lock as LockMade}
use Rattle.gomp_locks.specs.declared.lock.Lock.{Lock}
use Rattle.gomp_locks.specs.Book.{BookView, unset_lock}
use Rattle.gomp_events.specs.TaskCalls.{first_room}
use Rattle.gomp_model.specs.Past.{Terms, Waits, no_waits, Past}
use Rattle.gomp_model.specs.Team.{Record, MayAnswer, past_of, Caused}
use Rattle.gomp_book_calls.specs.Stands.{lock_held, BookStands}
use Rattle.gomp_core.specs.Resolved.{step_by}
use Rattle.gomp_core.specs.Stands.{Begins}
use Rattle.gomp_core.specs.LocksMade.{lock_kinds_of, init_of, lock_made, made_from, locks_made}
use Rattle.gomp_core.proofs.Admitted.{same_members}

-- after this record nothing has happened, nobody waits, and these are the locks
record AfterLocks (terms : Terms) (places : List (Option LockKind)) (before : Record) : Type 0 where
  caused : Caused terms before
  quiet : (past_of terms before).events ≡ []
  nobody : (m : ℕ) → (past_of terms before).waits m ≡ no_waits
  room : (past_of terms before).room ≡ first_room terms.members
  locks : (past_of terms before).locks ≡ places

-- One lock

is_no_member : (members : ℕ) → 0 < members → nat_le members 0 ≡ false
is_no_member members some = grind (arith, nat_tests)

has_room : (made : ℕ) → made < MAX_LOCKS → nat_le MAX_LOCKS made ≡ false
has_room made less = grind (arith, nat_tests)

init_answered : (p : Past) (kind : LockKind) (number : ℕ) → 0 < p.terms.members → p.events ≡ [] → p.waits 0 ≡ no_waits → number ≡ length p.locks → number < MAX_LOCKS → MayAnswer p (step_by 0 (init_of kind)) (LockMade number)
init_answered p Simple number some quiet nobody is less =
    let small = is_no_member p.terms.members some in
    let room : nat_le MAX_LOCKS (length p.locks) ≡ false = rw is at (has_room number less) in
    (rw (small, quiet, nobody, room) refl, is)
init_answered p Nest number some quiet nobody is less =
    let small = is_no_member p.terms.members some in
    let room : nat_le MAX_LOCKS (length p.locks) ≡ false = rw is at (has_room number less) in
    (rw (small, quiet, nobody, room) refl, is)

destroy_answered : (p : Past) (kind : LockKind) (number : ℕ) → 0 < p.terms.members → p.events ≡ [] → p.waits 0 ≡ no_waits → slice_get p.locks number ≡ Some (Some kind) → MayAnswer p (step_by 0 (LockDestroy number)) Finished
destroy_answered p kind number some quiet nobody at =
    let small = is_no_member p.terms.members some in
    (rw (small, quiet, nobody, at) refl, refl)

none_either : (test : Bool) (x : Waits) → x ≡ no_waits → (if test then (record x { open_call = None }) else x) ≡ no_waits
none_either true x none = rw none refl
none_either false x none = none

after_init_step : (terms : Terms) (places : List (Option LockKind)) (kind : LockKind) (before : Record) → 0 < terms.members → length places < MAX_LOCKS → AfterLocks terms places before →
    AfterLocks terms (places ++ Some kind ∷ []) ((step_by 0 (init_of kind), LockMade (length places)) ∷ before)
after_init_step terms places Simple before some less after =
    let p = past_of terms before in
    let some_here : 0 < p.terms.members = rw (same_members terms before) some in
    record {
      caused = (init_answered p Simple (length places) some_here after.quiet (after.nobody 0) (sym (ap (λ (all : List (Option LockKind)). length all) after.locks)) less, after.caused);
      quiet = after.quiet;
      nobody = λ m. none_either (0 == m) (p.waits m) (after.nobody m);
      room = let same = after.room in omega (arith, same);
      locks = ap (λ (all : List (Option LockKind)). all ++ Some Simple ∷ []) after.locks;
    }
after_init_step terms places Nest before some less after =
    let p = past_of terms before in
    let some_here : 0 < p.terms.members = rw (same_members terms before) some in
    record {
      caused = (init_answered p Nest (length places) some_here after.quiet (after.nobody 0) (sym (ap (λ (all : List (Option LockKind)). length all) after.locks)) less, after.caused);
      quiet = after.quiet;
      nobody = λ m. none_either (0 == m) (p.waits m) (after.nobody m);
      room = let same = after.room in omega (arith, same);
      locks = ap (λ (all : List (Option LockKind)). all ++ Some Nest ∷ []) after.locks;
    }

last_place : (places : List (Option LockKind)) (place : Option LockKind) → slice_get (places ++ place ∷ []) (length places) ≡ Some place
last_place [] place = refl
last_place (first ∷ places) place = last_place places place

last_set : (places : List (Option LockKind)) (place other : Option LockKind) → slice_set (places ++ place ∷ []) (length places) other ≡ places ++ other ∷ []
last_set [] place other = refl
last_set (first ∷ places) place other = ap (λ (all : List (Option LockKind)). first ∷ all) (last_set places place other)

after_destroy_step : (terms : Terms) (places : List (Option LockKind)) (kind : LockKind) (before : Record) → 0 < terms.members → AfterLocks terms (places ++ Some kind ∷ []) before →
    AfterLocks terms (places ++ None ∷ []) ((step_by 0 (LockDestroy (length places)), Finished) ∷ before)
after_destroy_step terms places kind before some after =
    let p = past_of terms before in
    let some_here : 0 < p.terms.members = rw (same_members terms before) some in
    let at : slice_get p.locks (length places) ≡ Some (Some kind) = ap (λ (all : List (Option LockKind)). slice_get all (length places)) after.locks ∙ last_place places (Some kind) in
    record {
      caused = (destroy_answered p kind (length places) some_here after.quiet (after.nobody 0) at, after.caused);
      quiet = after.quiet;
      nobody = λ m. none_either (0 == m) (p.waits m) (after.nobody m);
      room = let same = after.room in omega (arith, same);
      locks = ap (λ (all : List (Option LockKind)). slice_set all (length places) None) after.locks ∙ last_set places (Some kind) None;
    }

after_lock_made : (terms : Terms) (places : List (Option LockKind)) (place : Option LockKind) (before : Record) → 0 < terms.members → length places < MAX_LOCKS → AfterLocks terms places before →
    AfterLocks terms (places ++ place ∷ []) (lock_made (length places) place ++ before)
after_lock_made terms places (Some kind) before some less after = after_init_step terms places kind before some less after
after_lock_made terms places None before some less after = after_destroy_step terms places Simple _ some (after_init_step terms places Simple before some less after)

-- All locks

after_locks_made : (terms : Terms) (places more : List (Option LockKind)) (before : Record) → 0 < terms.members → length places + length more ≤ MAX_LOCKS → AfterLocks terms places before →
    AfterLocks terms (places ++ more) (made_from (length places) more before)
after_locks_made terms places [] before some room after = subst (λ (all : List (Option LockKind)). AfterLocks terms all before) (sym (append-nil places)) after
after_locks_made terms places (place ∷ more) before some room after =
    let less : length places < MAX_LOCKS = omega arith in
    let next = after_lock_made terms places place before some less after in
    let longer : length (places ++ place ∷ []) ≡ length places + 1 = length-append places (place ∷ []) in
    let still : length (places ++ place ∷ []) + length more ≤ MAX_LOCKS = omega arith in
    let all = after_locks_made terms (places ++ place ∷ []) more (lock_made (length places) place ++ before) some still next in
    subst (λ (number : ℕ). AfterLocks terms (places ++ (place ∷ more)) (made_from number more (lock_made (length places) place ++ before))) longer
    (subst (λ (both : List (Option LockKind)). AfterLocks terms both (made_from (length (places ++ place ∷ [])) more (lock_made (length places) place ++ before))) (append_assoc places (place ∷ []) more) all)

nothing_made : (terms : Terms) → AfterLocks terms [] []
nothing_made terms = record { caused = tt; quiet = refl; nobody = λ m. refl; room = refl; locks = refl }

-- A book that nobody holds anything of

none_held_there : (number : ℕ) (place : Option (Option Lock)) → option_map (option_map unset_lock) place ≡ option_map (lock_held number []) (option_map (option_map (λ (lock : Lock). lock.kind)) place)
none_held_there number None = refl
none_held_there number (Some None) = refl
none_held_there number (Some (Some lock)) = refl

unset_book_stands : (book after : BookView) (p : Past) → after.names ≡ [] → after.locks ≡ map (option_map unset_lock) book.locks → p.events ≡ [] → p.locks ≡ lock_kinds_of book.locks → BookStands after p
unset_book_stands book after p names locks quiet kinds = record {
  names = λ name. rw (names, quiet) refl;
  locks = λ number. rw (locks, quiet, kinds) (slice_get-map (option_map unset_lock) book.locks number ∙ none_held_there number (slice_get book.locks number) ∙ ap (option_map (lock_held number [])) (sym (slice_get-map (option_map (λ (lock : Lock). lock.kind)) book.locks number)));
  unmade = λ kind number past. rw quiet refl;
  started = λ name is. absurd (let never = rw quiet at is in cc);
}

pub begins_with_locks : (terms : Terms) (book after : BookView) → 0 < terms.members → length after.locks ≤ MAX_LOCKS → after.names ≡ [] → after.locks ≡ map (option_map unset_lock) book.locks → Begins terms after (locks_made (lock_kinds_of book.locks))
begins_with_locks terms book after some bound names locks =
    let same : length (lock_kinds_of book.locks) ≡ length book.locks = length-map book.locks (option_map (λ (lock : Lock). lock.kind)) in
    let kept : length after.locks ≡ length book.locks = ap (λ (all : List (Option Lock)). length all) locks ∙ length-map book.locks (option_map unset_lock) in
    let made = after_locks_made terms [] (lock_kinds_of book.locks) [] some (omega arith) (nothing_made terms) in
    record { caused = made.caused; quiet = made.quiet; nobody = made.nobody; room = made.room; book_are = unset_book_stands book after (past_of terms (locks_made (lock_kinds_of book.locks))) names locks made.quiet made.locks }

pub begins_empty : (terms : Terms) (book : BookView) → book.names ≡ [] → book.locks ≡ [] → Begins terms book []
begins_empty terms book names locks = record {
  caused = tt;
  quiet = refl;
  nobody = λ m. refl;
  room = refl;
  book_are = record { names = λ name. rw names refl; locks = λ number. rw locks refl; unmade = λ kind number past. refl; started = λ name is. absurd (cc) };
}
