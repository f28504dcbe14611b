-- Which answers a call on a critical name or a lock never gets, whoever makes it and however it is held: each reply but the one that is due.
use Rattle.std.proofs.Common.{◌≡◌, ℕ, ◌+◌, ◌<◌, ◌≤◌, Bool, true, false, List, Option, Some, None, length, refl, ap, sym, ◌∙◌, arith}
use Rattle.std.specs.Prelude.{if◌then◌else◌, ◌==◌, not, is_some, nat_le, nat_lt}
use Rattle.std.proofs.lemmas.Bool.Decides.{nat_tests}
use Rattle.gomp_text.specs.Words.{is_ascii}
use Rattle.gomp_types.specs.declared.task.Owner.{Owner}
use Rattle.gomp_types.specs.declared.critical_name.TheConstants.{MAX_NAME}
use Rattle.gomp_types.specs.declared.lock.Held.{Held}
use Rattle.gomp_types.specs.declared.lock.TheConstants.{MAX_COUNT, MAX_LOCKS}
use Rattle.gomp_types.specs.declared.refusal.Refusal.{Refusal}
use Rattle.gomp_types.specs.declared.refusal.Refusal.TheVariants.{NameTooLong, AlreadyHeld, NotHolder, NoLock, CountTooLarge, NoMemory}
use Rattle.gomp_types.specs.declared.reply.Reply.{Reply}
use Rattle.gomp_types.specs.declared.reply.Reply.TheVariants.{Finished, Wait, Lock as LockMade, Got, Count, Refused}
use Rattle.gomp_types.specs.Owners.{same_owner, same_member}
use Rattle.gomp_types.specs.Tests.{Test}
use Rattle.gomp_types.specs.Least.{least, lesser, Answers}
use Rattle.gomp_types.proofs.Booleans.{and_false, same_number, other_number}
use Rattle.gomp_locks.specs.Book.{AnswersOrLacks, owned_by_member, owned_by}
use Rattle.gomp_locks.specs.CriticalNames.{is_too_long, critical_start_tests, EntersCritical, critical_end_tests, critical_tests}
use Rattle.gomp_locks.specs.Locks.{init_tests, MakesLock, destroy_tests, set_tests, SetsLock, test_tests, TestsLock, unset_tests, nest_tests, SetsNest, WaitsNest, TestsNest, UnsetsNest, gone_tests, held_by_another, may_set_nest, times_held}
use Rattle.gomp_locks.proofs.NameLemmas.{one_owner}

-- Refusals and other replies

-- where a test holds every other reply is wrong
refused_so_alone : (tests : List Test) (May : Reply → Type 0) (refusal : Refusal) (reply : Reply) → least tests ≡ Some refusal → (reply ≡ Refused refusal → ⊥) → Answers tests May reply → ⊥
refused_so_alone tests May refusal (Refused other) is wrong answer = wrong (let same : Some other ≡ Some refusal = sym answer ∙ is in let one : other ≡ refusal = cc in ap Refused one)
refused_so_alone tests May refusal _ is wrong answer = absurd (let none = answer.0 in cc)

-- also of a call that may lack memory
lacking_refused_so_alone : (tests : List Test) (May : Reply → Type 0) (refusal : Refusal) (reply : Reply) → least tests ≡ Some refusal → (reply ≡ Refused refusal → ⊥) → AnswersOrLacks tests May reply → ⊥
lacking_refused_so_alone tests May refusal (Refused NoMemory) is wrong answer = absurd (cc)
lacking_refused_so_alone tests May refusal (Refused other) is wrong answer = wrong (let same : Some other ≡ Some refusal = sym answer ∙ is in let one : other ≡ refusal = cc in ap Refused one)
lacking_refused_so_alone tests May refusal _ is wrong answer = absurd (let none = answer.0 in cc)

-- and where none holds, each reply that may not be given
given_so_alone : (tests : List Test) (May : Reply → Type 0) (reply : Reply) → least tests ≡ None → (May reply → ⊥) → Answers tests May reply → ⊥
given_so_alone tests May (Refused refusal) none never answer = absurd (cc)
given_so_alone tests May _ none never answer = never answer.1

lacking_given_so_alone : (tests : List Test) (May : Reply → Type 0) (reply : Reply) → least tests ≡ None → (May reply → ⊥) → (reply ≡ Refused NoMemory → ⊥) → AnswersOrLacks tests May reply → ⊥
lacking_given_so_alone tests May (Refused NoMemory) none never wrong answer = wrong refl
lacking_given_so_alone tests May (Refused other) none never wrong answer = absurd (cc)
lacking_given_so_alone tests May _ none never wrong answer = never answer.1

-- Owners

pub own_holder : (owner : Owner) → same_owner owner owner ≡ true
own_holder owner = rw (same_number owner.team, same_number owner.member, same_number owner.task) refl

pub other_holder : (one other : Owner) → (one ≡ other → ⊥) → same_owner one other ≡ false
other_holder one other apart = by_test (same_owner one other) refl
  where
    by_test : (b : Bool) → same_owner one other ≡ b → same_owner one other ≡ false
    by_test true e = absurd (apart (one_owner one other e))
    by_test false e = e

own_member : (one other : Owner) → one.team ≡ other.team → one.member ≡ other.member → same_member one other ≡ true
own_member one other team member = rw (team, member, same_number other.team, same_number other.member) refl

other_member : (one other : Owner) → (one.member ≡ other.member → ⊥) → same_member one other ≡ false
other_member one other apart = and_false (one.team == other.team) (one.member == other.member) (other_number one.member other.member apart)

-- Critical names

too_long : (name : List ℕ) → MAX_NAME < length name → is_too_long name ≡ true
too_long name long = let above : nat_le (length name) MAX_NAME ≡ false = grind (arith, nat_tests, long) in rw above refl

beyond_ascii : (name : List ℕ) → is_ascii name ≡ false → is_too_long name ≡ true
beyond_ascii name other = rw (and_false (nat_le (length name) MAX_NAME) (is_ascii name) other) refl

-- no other name is refused as too long
pub no_short_name_is_too_long : (name : List ℕ) → length name ≤ MAX_NAME → is_ascii name ≡ true → is_too_long name ≡ false
no_short_name_is_too_long name short ascii = let within : nat_le (length name) MAX_NAME ≡ true = grind (arith, nat_tests, short) in rw (within, ascii) refl

start_too_long : (owner : Owner) (name : List ℕ) (found : Option Owner) → is_too_long name ≡ true → least (critical_start_tests owner name found) ≡ Some NameTooLong
start_too_long owner name found long = rw long (by_owner (owned_by_member owner found))
  where
    by_owner : (b : Bool) → lesser (Some NameTooLong) (if b then lesser (Some AlreadyHeld) None else None) ≡ Some NameTooLong
    by_owner true = refl
    by_owner false = refl

end_too_long : (owner : Owner) (name : List ℕ) (found : Option Owner) → is_too_long name ≡ true → least (critical_end_tests owner name found) ≡ Some NameTooLong
end_too_long owner name found long = rw long (by_owner (not (owned_by owner found)))
  where
    by_owner : (b : Bool) → lesser (Some NameTooLong) (if b then lesser (Some NotHolder) None else None) ≡ Some NameTooLong
    by_owner true = refl
    by_owner false = refl

-- a name above the limit is refused as too long
pub no_entry_by_a_name_above_the_limit : (owner : Owner) (name : List ℕ) (found : Option Owner) (reply : Reply) → MAX_NAME < length name → (reply ≡ Refused NameTooLong → ⊥) → AnswersOrLacks (critical_start_tests owner name found) (EntersCritical found) reply → ⊥
no_entry_by_a_name_above_the_limit owner name found reply long wrong answer = lacking_refused_so_alone (critical_start_tests owner name found) (EntersCritical found) NameTooLong reply (start_too_long owner name found (too_long name long)) wrong answer

-- so is one with a byte that is not ASCII
pub no_entry_by_a_name_not_in_ascii : (owner : Owner) (name : List ℕ) (found : Option Owner) (reply : Reply) → is_ascii name ≡ false → (reply ≡ Refused NameTooLong → ⊥) → AnswersOrLacks (critical_start_tests owner name found) (EntersCritical found) reply → ⊥
no_entry_by_a_name_not_in_ascii owner name found reply other wrong answer = lacking_refused_so_alone (critical_start_tests owner name found) (EntersCritical found) NameTooLong reply (start_too_long owner name found (beyond_ascii name other)) wrong answer

-- a name that a task of the member holds is not entered again, and not waited for
pub no_entry_again_by_its_member : (owner other : Owner) (name : List ℕ) (reply : Reply) → is_too_long name ≡ false → other.team ≡ owner.team → other.member ≡ owner.member → (reply ≡ Refused AlreadyHeld → ⊥) →
    AnswersOrLacks (critical_start_tests owner name (Some other)) (EntersCritical (Some other)) reply → ⊥
no_entry_again_by_its_member owner other name reply short team member wrong answer =
    lacking_refused_so_alone (critical_start_tests owner name (Some other)) (EntersCritical (Some other)) AlreadyHeld reply (rw (short, own_member other owner team member) refl) wrong answer

entered_alone : (reply : Reply) → (reply ≡ Finished → ⊥) → EntersCritical None reply → ⊥
entered_alone Finished wrong answer = wrong refl
entered_alone _ wrong answer = answer

waited_alone : (other : Owner) (reply : Reply) → (reply ≡ Wait → ⊥) → EntersCritical (Some other) reply → ⊥
waited_alone other Wait wrong answer = wrong refl
waited_alone other _ wrong answer = answer

-- a name that nobody holds is entered, unless memory is wanting
pub no_wait_for_a_free_name : (owner : Owner) (name : List ℕ) (reply : Reply) → is_too_long name ≡ false → (reply ≡ Finished → ⊥) → (reply ≡ Refused NoMemory → ⊥) → AnswersOrLacks (critical_start_tests owner name None) (EntersCritical None) reply → ⊥
no_wait_for_a_free_name owner name reply short wrong lacks answer = lacking_given_so_alone (critical_start_tests owner name None) (EntersCritical None) reply (rw short refl) (entered_alone reply wrong) lacks answer

-- one that another member holds is waited for
pub no_entry_while_another_member_holds_it : (owner other : Owner) (name : List ℕ) (reply : Reply) → is_too_long name ≡ false → (other.member ≡ owner.member → ⊥) → (reply ≡ Wait → ⊥) → (reply ≡ Refused NoMemory → ⊥) →
    AnswersOrLacks (critical_start_tests owner name (Some other)) (EntersCritical (Some other)) reply → ⊥
no_entry_while_another_member_holds_it owner other name reply short apart wrong lacks answer =
    lacking_given_so_alone (critical_start_tests owner name (Some other)) (EntersCritical (Some other)) reply (rw (short, other_member other owner apart) refl) (waited_alone other reply wrong) lacks answer

-- and so is one that a member of another team holds, though their numbers agree
pub no_entry_while_another_team_holds_it : (owner other : Owner) (name : List ℕ) (reply : Reply) → is_too_long name ≡ false → (other.team ≡ owner.team → ⊥) → (reply ≡ Wait → ⊥) → (reply ≡ Refused NoMemory → ⊥) →
    AnswersOrLacks (critical_start_tests owner name (Some other)) (EntersCritical (Some other)) reply → ⊥
no_entry_while_another_team_holds_it owner other name reply short apart wrong lacks answer =
    lacking_given_so_alone (critical_start_tests owner name (Some other)) (EntersCritical (Some other)) reply (rw (short, other_number other.team owner.team apart) refl) (waited_alone other reply wrong) lacks answer

-- the end by a name above the limit is refused as too long
pub no_end_by_a_name_above_the_limit : (owner : Owner) (name : List ℕ) (found : Option Owner) (reply : Reply) → MAX_NAME < length name → (reply ≡ Refused NameTooLong → ⊥) → Answers (critical_end_tests owner name found) (λ given. given ≡ Finished) reply → ⊥
no_end_by_a_name_above_the_limit owner name found reply long wrong answer = refused_so_alone (critical_end_tests owner name found) (λ given. given ≡ Finished) NameTooLong reply (end_too_long owner name found (too_long name long)) wrong answer

pub no_end_by_a_name_not_in_ascii : (owner : Owner) (name : List ℕ) (found : Option Owner) (reply : Reply) → is_ascii name ≡ false → (reply ≡ Refused NameTooLong → ⊥) → Answers (critical_end_tests owner name found) (λ given. given ≡ Finished) reply → ⊥
no_end_by_a_name_not_in_ascii owner name found reply other wrong answer = refused_so_alone (critical_end_tests owner name found) (λ given. given ≡ Finished) NameTooLong reply (end_too_long owner name found (beyond_ascii name other)) wrong answer

-- the end of a name that nobody holds is refused
pub no_end_of_a_free_name : (owner : Owner) (name : List ℕ) (reply : Reply) → is_too_long name ≡ false → (reply ≡ Refused NotHolder → ⊥) → Answers (critical_end_tests owner name None) (λ given. given ≡ Finished) reply → ⊥
no_end_of_a_free_name owner name reply short wrong answer = refused_so_alone (critical_end_tests owner name None) (λ given. given ≡ Finished) NotHolder reply (rw short refl) wrong answer

-- and of one that another task or member holds
pub no_end_of_the_name_of_another : (owner other : Owner) (name : List ℕ) (reply : Reply) → is_too_long name ≡ false → (other ≡ owner → ⊥) → (reply ≡ Refused NotHolder → ⊥) → Answers (critical_end_tests owner name (Some other)) (λ given. given ≡ Finished) reply → ⊥
no_end_of_the_name_of_another owner other name reply short apart wrong answer =
    refused_so_alone (critical_end_tests owner name (Some other)) (λ given. given ≡ Finished) NotHolder reply (rw (short, other_holder other owner apart) refl) wrong answer

-- its own ends at once
pub no_wait_at_the_end_of_an_own_name : (owner : Owner) (name : List ℕ) (reply : Reply) → is_too_long name ≡ false → (reply ≡ Finished → ⊥) → Answers (critical_end_tests owner name (Some owner)) (λ given. given ≡ Finished) reply → ⊥
no_wait_at_the_end_of_an_own_name owner name reply short wrong answer = given_so_alone (critical_end_tests owner name (Some owner)) (λ given. given ≡ Finished) reply (rw (short, own_holder owner) refl) wrong answer

-- a task that holds a critical name is refused at a barrier and a work-share, and no other is
pub no_passing_test_with_a_name : least (critical_tests true) ≡ None → ⊥
no_passing_test_with_a_name none = absurd (cc)

pub no_test_without_a_name : (refusal : Refusal) → least (critical_tests false) ≡ Some refusal → ⊥
no_test_without_a_name refusal some = absurd (cc)

-- Making and destroying locks

-- no lock is made above the limit
pub no_lock_above_the_limit : (count : ℕ) (reply : Reply) → MAX_LOCKS ≤ count → (reply ≡ Refused CountTooLarge → ⊥) → AnswersOrLacks (init_tests count) (MakesLock count) reply → ⊥
no_lock_above_the_limit count reply many wrong answer =
    let full : nat_le MAX_LOCKS count ≡ true = grind (arith, nat_tests, many) in lacking_refused_so_alone (init_tests count) (MakesLock count) CountTooLarge reply (rw full refl) wrong answer

made_alone : (count : ℕ) (reply : Reply) → (reply ≡ LockMade count → ⊥) → MakesLock count reply → ⊥
made_alone count (LockMade number) wrong answer = wrong (ap LockMade answer)
made_alone count _ wrong answer = answer

-- below it its number is that of the locks before it
pub no_lock_of_another_number : (count : ℕ) (reply : Reply) → count < MAX_LOCKS → (reply ≡ LockMade count → ⊥) → (reply ≡ Refused NoMemory → ⊥) → AnswersOrLacks (init_tests count) (MakesLock count) reply → ⊥
no_lock_of_another_number count reply few wrong lacks answer =
    let room : nat_le MAX_LOCKS count ≡ false = grind (arith, nat_tests, few) in lacking_given_so_alone (init_tests count) (MakesLock count) reply (rw room refl) (made_alone count reply wrong) lacks answer

-- what is no lock is not destroyed
pub no_destroying_without_a_lock : (reply : Reply) → (reply ≡ Refused NoLock → ⊥) → Answers (destroy_tests None) (λ given. given ≡ Finished) reply → ⊥
no_destroying_without_a_lock reply wrong answer = refused_so_alone (destroy_tests None) (λ given. given ≡ Finished) NoLock reply refl wrong answer

-- nor is a lock that somebody holds
pub no_destroying_of_a_held_lock : (held : Held) (reply : Reply) → (reply ≡ Refused AlreadyHeld → ⊥) → Answers (destroy_tests (Some (Some held))) (λ given. given ≡ Finished) reply → ⊥
no_destroying_of_a_held_lock held reply wrong answer = refused_so_alone (destroy_tests (Some (Some held))) (λ given. given ≡ Finished) AlreadyHeld reply refl wrong answer

-- a free one is
pub no_keeping_of_a_free_lock : (reply : Reply) → (reply ≡ Finished → ⊥) → Answers (destroy_tests (Some None)) (λ given. given ≡ Finished) reply → ⊥
no_keeping_of_a_free_lock reply wrong answer = given_so_alone (destroy_tests (Some None)) (λ given. given ≡ Finished) reply refl wrong answer

-- Simple locks

-- what is no lock is not set
pub no_setting_without_a_lock : (owner : Owner) (reply : Reply) → (reply ≡ Refused NoLock → ⊥) → Answers (set_tests owner None) (SetsLock None) reply → ⊥
no_setting_without_a_lock owner reply wrong answer = refused_so_alone (set_tests owner None) (SetsLock None) NoLock reply refl wrong answer

-- nor a lock that the task holds
pub no_setting_of_an_own_lock : (owner : Owner) (held : Held) (reply : Reply) → held.owner ≡ owner → (reply ≡ Refused AlreadyHeld → ⊥) → Answers (set_tests owner (Some (Some held))) (SetsLock (Some (Some held))) reply → ⊥
no_setting_of_an_own_lock owner held reply own wrong answer = refused_so_alone (set_tests owner (Some (Some held))) (SetsLock (Some (Some held))) AlreadyHeld reply (rw (own, own_holder owner) refl) wrong answer

set_alone : (reply : Reply) → (reply ≡ Finished → ⊥) → SetsLock (Some None) reply → ⊥
set_alone Finished wrong answer = wrong refl
set_alone _ wrong answer = answer

lock_waited_alone : (held : Held) (reply : Reply) → (reply ≡ Wait → ⊥) → SetsLock (Some (Some held)) reply → ⊥
lock_waited_alone held Wait wrong answer = wrong refl
lock_waited_alone held _ wrong answer = answer

-- a free one is set at once
pub no_wait_for_a_free_lock : (owner : Owner) (reply : Reply) → (reply ≡ Finished → ⊥) → Answers (set_tests owner (Some None)) (SetsLock (Some None)) reply → ⊥
no_wait_for_a_free_lock owner reply wrong answer = given_so_alone (set_tests owner (Some None)) (SetsLock (Some None)) reply refl (set_alone reply wrong) answer

-- one that another holds is waited for
pub no_setting_of_the_lock_of_another : (owner : Owner) (held : Held) (reply : Reply) → (held.owner ≡ owner → ⊥) → (reply ≡ Wait → ⊥) → Answers (set_tests owner (Some (Some held))) (SetsLock (Some (Some held))) reply → ⊥
no_setting_of_the_lock_of_another owner held reply apart wrong answer =
    given_so_alone (set_tests owner (Some (Some held))) (SetsLock (Some (Some held))) reply (rw (other_holder held.owner owner apart) refl) (lock_waited_alone held reply wrong) answer

-- what is no lock is not tested
pub no_testing_without_a_lock : (reply : Reply) → (reply ≡ Refused NoLock → ⊥) → Answers (test_tests None) (TestsLock None) reply → ⊥
no_testing_without_a_lock reply wrong answer = refused_so_alone (test_tests None) (TestsLock None) NoLock reply refl wrong answer

got_alone : (held : Option Held) (reply : Reply) → (reply ≡ Got (not (is_some held)) → ⊥) → TestsLock (Some held) reply → ⊥
got_alone held (Got free) wrong answer = wrong (ap Got answer)
got_alone held _ wrong answer = answer

-- a test gets a free lock
pub no_free_lock_without_getting_it : (reply : Reply) → (reply ≡ Got true → ⊥) → Answers (test_tests (Some None)) (TestsLock (Some None)) reply → ⊥
no_free_lock_without_getting_it reply wrong answer = given_so_alone (test_tests (Some None)) (TestsLock (Some None)) reply refl (got_alone None reply wrong) answer

-- and no lock that somebody holds, for which it never waits
pub no_getting_of_a_held_lock : (held : Held) (reply : Reply) → (reply ≡ Got false → ⊥) → Answers (test_tests (Some (Some held))) (TestsLock (Some (Some held))) reply → ⊥
no_getting_of_a_held_lock held reply wrong answer = given_so_alone (test_tests (Some (Some held))) (TestsLock (Some (Some held))) reply refl (got_alone (Some held) reply wrong) answer

-- what is no lock is not unset, simple or nestable
pub no_unsetting_without_a_lock : (owner : Owner) (May : Reply → Type 0) (reply : Reply) → (reply ≡ Refused NoLock → ⊥) → Answers (unset_tests owner None) May reply → ⊥
no_unsetting_without_a_lock owner May reply wrong answer = refused_so_alone (unset_tests owner None) May NoLock reply refl wrong answer

-- nor a free one
pub no_unsetting_of_a_free_lock : (owner : Owner) (May : Reply → Type 0) (reply : Reply) → (reply ≡ Refused NotHolder → ⊥) → Answers (unset_tests owner (Some None)) May reply → ⊥
no_unsetting_of_a_free_lock owner May reply wrong answer = refused_so_alone (unset_tests owner (Some None)) May NotHolder reply refl wrong answer

-- nor that of another
pub no_unsetting_of_the_lock_of_another : (owner : Owner) (held : Held) (May : Reply → Type 0) (reply : Reply) → (held.owner ≡ owner → ⊥) → (reply ≡ Refused NotHolder → ⊥) → Answers (unset_tests owner (Some (Some held))) May reply → ⊥
no_unsetting_of_the_lock_of_another owner held May reply apart wrong answer = refused_so_alone (unset_tests owner (Some (Some held))) May NotHolder reply (rw (other_holder held.owner owner apart) refl) wrong answer

-- its own lock a task unsets at once
pub no_wait_at_unsetting_an_own_lock : (owner : Owner) (held : Held) (reply : Reply) → held.owner ≡ owner → (reply ≡ Finished → ⊥) → Answers (unset_tests owner (Some (Some held))) (λ given. given ≡ Finished) reply → ⊥
no_wait_at_unsetting_an_own_lock owner held reply own wrong answer = given_so_alone (unset_tests owner (Some (Some held))) (λ given. given ≡ Finished) reply (rw (own, own_holder owner) refl) wrong answer

-- Nestable locks

-- what is no nestable lock is neither set nor tested
pub no_nesting_without_a_lock : (owner : Owner) (May : Reply → Type 0) (reply : Reply) → (reply ≡ Refused NoLock → ⊥) → Answers (nest_tests owner None) May reply → ⊥
no_nesting_without_a_lock owner May reply wrong answer = refused_so_alone (nest_tests owner None) May NoLock reply refl wrong answer

-- nor is one that the task has set as often as can be counted
pub no_nesting_above_the_count : (owner : Owner) (held : Held) (May : Reply → Type 0) (reply : Reply) → held.owner ≡ owner → MAX_COUNT ≤ held.count → (reply ≡ Refused CountTooLarge → ⊥) → Answers (nest_tests owner (Some (Some held))) May reply → ⊥
no_nesting_above_the_count owner held May reply own many wrong answer =
    let full : nat_le MAX_COUNT held.count ≡ true = grind (arith, nat_tests, many) in
    refused_so_alone (nest_tests owner (Some (Some held))) May CountTooLarge reply (rw (own, own_holder owner, full) refl) wrong answer

nest_set_alone : (owner : Owner) (held : Option Held) (reply : Reply) → held_by_another owner held ≡ false → (reply ≡ Count (times_held owner held + 1) → ⊥) → SetsNest owner (Some held) reply → ⊥
nest_set_alone owner held (Count count) free wrong answer = wrong (ap Count answer.1)
nest_set_alone owner held Wait free wrong answer = absurd (cc)
nest_set_alone owner held _ free wrong answer = answer

nest_waited_alone : (owner : Owner) (held : Option Held) (reply : Reply) → held_by_another owner held ≡ true → (reply ≡ Wait → ⊥) → SetsNest owner (Some held) reply → ⊥
nest_waited_alone owner held Wait taken wrong answer = wrong refl
nest_waited_alone owner held (Count count) taken wrong answer = absurd (let free = answer.0 in cc)
nest_waited_alone owner held _ taken wrong answer = answer

nest_tested_alone : (owner : Owner) (held : Option Held) (count : ℕ) (reply : Reply) → (if held_by_another owner held then 0 else times_held owner held + 1) ≡ count → (reply ≡ Count count → ⊥) → TestsNest owner (Some held) reply → ⊥
nest_tested_alone owner held count (Count given) is wrong answer = wrong (ap Count (answer ∙ is))
nest_tested_alone owner held count _ is wrong answer = answer

no_count_yet : (owner : Owner) → least (nest_tests owner (Some None)) ≡ None
no_count_yet owner = refl

fewer_counted : (owner : Owner) (held : Held) → held.owner ≡ owner → held.count < MAX_COUNT → least (nest_tests owner (Some (Some held))) ≡ None
fewer_counted owner held own few = let room : nat_le MAX_COUNT held.count ≡ false = grind (arith, nat_tests, few) in rw (own, own_holder owner, room) refl

other_counted : (owner : Owner) (held : Held) → (held.owner ≡ owner → ⊥) → least (nest_tests owner (Some (Some held))) ≡ None
other_counted owner held apart = rw (other_holder held.owner owner apart) refl

-- a free nestable lock is set once
pub no_wait_for_a_free_nest : (owner : Owner) (reply : Reply) → (reply ≡ Count 1 → ⊥) → Answers (nest_tests owner (Some None)) (SetsNest owner (Some None)) reply → ⊥
no_wait_for_a_free_nest owner reply wrong answer = given_so_alone (nest_tests owner (Some None)) (SetsNest owner (Some None)) reply (no_count_yet owner) (nest_set_alone owner None reply refl wrong) answer

-- its own a task sets once more
pub no_other_count_of_an_own_nest : (owner : Owner) (held : Held) (reply : Reply) → held.owner ≡ owner → held.count < MAX_COUNT → (reply ≡ Count (held.count + 1) → ⊥) → Answers (nest_tests owner (Some (Some held))) (SetsNest owner (Some (Some held))) reply → ⊥
no_other_count_of_an_own_nest owner held reply own few wrong answer =
    given_so_alone (nest_tests owner (Some (Some held))) (SetsNest owner (Some (Some held))) reply (fewer_counted owner held own few) (nest_set_alone owner (Some held) reply (rw (own, own_holder owner) refl) (rw (own, own_holder owner) wrong)) answer

-- one that another task holds is waited for
pub no_setting_of_the_nest_of_another : (owner : Owner) (held : Held) (reply : Reply) → (held.owner ≡ owner → ⊥) → (reply ≡ Wait → ⊥) → Answers (nest_tests owner (Some (Some held))) (SetsNest owner (Some (Some held))) reply → ⊥
no_setting_of_the_nest_of_another owner held reply apart wrong answer =
    given_so_alone (nest_tests owner (Some (Some held))) (SetsNest owner (Some (Some held))) reply (other_counted owner held apart) (nest_waited_alone owner (Some held) reply (rw (other_holder held.owner owner apart) refl) wrong) answer

-- a test sets a free one once
pub no_free_nest_without_getting_it : (owner : Owner) (reply : Reply) → (reply ≡ Count 1 → ⊥) → Answers (nest_tests owner (Some None)) (TestsNest owner (Some None)) reply → ⊥
no_free_nest_without_getting_it owner reply wrong answer = given_so_alone (nest_tests owner (Some None)) (TestsNest owner (Some None)) reply (no_count_yet owner) (nest_tested_alone owner None 1 reply refl wrong) answer

-- and its own once more
pub no_other_test_of_an_own_nest : (owner : Owner) (held : Held) (reply : Reply) → held.owner ≡ owner → held.count < MAX_COUNT → (reply ≡ Count (held.count + 1) → ⊥) → Answers (nest_tests owner (Some (Some held))) (TestsNest owner (Some (Some held))) reply → ⊥
no_other_test_of_an_own_nest owner held reply own few wrong answer =
    given_so_alone (nest_tests owner (Some (Some held))) (TestsNest owner (Some (Some held))) reply (fewer_counted owner held own few) (nest_tested_alone owner (Some held) (held.count + 1) reply (rw (own, own_holder owner) refl) wrong) answer

-- and tells 0 of one that another task holds, for which it never waits
pub no_getting_of_the_nest_of_another : (owner : Owner) (held : Held) (reply : Reply) → (held.owner ≡ owner → ⊥) → (reply ≡ Count 0 → ⊥) → Answers (nest_tests owner (Some (Some held))) (TestsNest owner (Some (Some held))) reply → ⊥
no_getting_of_the_nest_of_another owner held reply apart wrong answer =
    given_so_alone (nest_tests owner (Some (Some held))) (TestsNest owner (Some (Some held))) reply (other_counted owner held apart) (nest_tested_alone owner (Some held) 0 reply (rw (other_holder held.owner owner apart) refl) wrong) answer

nest_unset_alone : (owner : Owner) (held : Held) (reply : Reply) → held.owner ≡ owner → ((count : ℕ) → count + 1 ≡ held.count → reply ≡ Count count → ⊥) → UnsetsNest owner (Some (Some held)) reply → ⊥
nest_unset_alone owner held (Count count) own wrong answer = wrong count (rw (own, own_holder owner) at answer) refl
nest_unset_alone owner held _ own wrong answer = answer

-- and a task unsets its own once less
pub no_other_count_at_unsetting : (owner : Owner) (held : Held) (reply : Reply) → held.owner ≡ owner → ((count : ℕ) → count + 1 ≡ held.count → reply ≡ Count count → ⊥) → Answers (unset_tests owner (Some (Some held))) (UnsetsNest owner (Some (Some held))) reply → ⊥
no_other_count_at_unsetting owner held reply own wrong answer =
    given_so_alone (unset_tests owner (Some (Some held))) (UnsetsNest owner (Some (Some held))) reply (rw (own, own_holder owner) refl) (nest_unset_alone owner held reply own wrong) answer

-- Waits that go on

-- what is no lock any more is not waited for
pub no_waiting_without_a_lock : (May : Reply → Type 0) (reply : Reply) → (reply ≡ Refused NoLock → ⊥) → Answers (gone_tests None) May reply → ⊥
no_waiting_without_a_lock May reply wrong answer = refused_so_alone (gone_tests None) May NoLock reply refl wrong answer

-- and nothing else refuses a wait
pub no_other_refusal_of_a_wait : (held : Option Held) (May : Reply → Type 0) (refusal : Refusal) → Answers (gone_tests (Some held)) May (Refused refusal) → ⊥
no_other_refusal_of_a_wait held May refusal answer = absurd (cc)

wait_ended_alone : (owner : Owner) (held : Option Held) (reply : Reply) → may_set_nest owner held ≡ true → (reply ≡ Count (times_held owner held + 1) → ⊥) → WaitsNest owner (Some held) reply → ⊥
wait_ended_alone owner held (Count count) may wrong answer = wrong (ap Count answer.1)
wait_ended_alone owner held Wait may wrong answer = absurd (cc)
wait_ended_alone owner held _ may wrong answer = answer

waited_on_alone : (owner : Owner) (held : Option Held) (reply : Reply) → may_set_nest owner held ≡ false → (reply ≡ Wait → ⊥) → WaitsNest owner (Some held) reply → ⊥
waited_on_alone owner held Wait may wrong answer = wrong refl
waited_on_alone owner held (Count count) may wrong answer = absurd (let free = answer.0 in cc)
waited_on_alone owner held _ may wrong answer = answer

-- a free nestable lock is waited for no more: it is set once
pub no_waiting_on_for_a_free_nest : (owner : Owner) (reply : Reply) → (reply ≡ Count 1 → ⊥) → WaitsNest owner (Some None) reply → ⊥
no_waiting_on_for_a_free_nest owner reply wrong answer = wait_ended_alone owner None reply refl wrong answer

-- one that another task holds is waited for, however often it is set
pub no_end_of_a_wait_for_another : (owner : Owner) (held : Held) (reply : Reply) → (held.owner ≡ owner → ⊥) → (reply ≡ Wait → ⊥) → WaitsNest owner (Some (Some held)) reply → ⊥
no_end_of_a_wait_for_another owner held reply apart wrong answer = waited_on_alone owner (Some held) reply (rw (other_holder held.owner owner apart) refl) wrong answer

-- its own a task sets once more, below the limit
pub no_other_count_after_a_wait : (owner : Owner) (held : Held) (reply : Reply) → held.owner ≡ owner → held.count < MAX_COUNT → (reply ≡ Count (held.count + 1) → ⊥) → WaitsNest owner (Some (Some held)) reply → ⊥
no_other_count_after_a_wait owner held reply own few wrong answer =
    let room : nat_lt held.count MAX_COUNT ≡ true = grind (arith, nat_tests, few) in
    wait_ended_alone owner (Some held) reply (rw (own, own_holder owner, room) refl) (rw (own, own_holder owner) wrong) answer

-- and not above it
pub no_count_above_the_limit_after_a_wait : (owner : Owner) (held : Held) (reply : Reply) → held.owner ≡ owner → MAX_COUNT ≤ held.count → (reply ≡ Wait → ⊥) → WaitsNest owner (Some (Some held)) reply → ⊥
no_count_above_the_limit_after_a_wait owner held reply own many wrong answer =
    let full : nat_lt held.count MAX_COUNT ≡ false = grind (arith, nat_tests, many) in waited_on_alone owner (Some held) reply (rw (own, own_holder owner, full) refl) wrong answer
