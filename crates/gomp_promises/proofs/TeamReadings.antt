-- What a team is made with, which of its calls wait, the locks that it is handed, and what a step leaves of it, of every team, member and lock.
use Rattle.std.proofs.Common.{◌≡◌, ◌≢◌, ℕ, ◌+◌, List, [], ◌∷◌, ◌++◌, Option, Some, None, length, refl}
use Rattle.std.specs.Prelude.{slice_get}
use Rattle.gomp_types.specs.declared.call.Call.{Call}
use Rattle.gomp_types.specs.declared.call.Call.TheVariants.{LockInit, NestInit, LockDestroy}
use Rattle.gomp_types.specs.declared.limits.Limits.{Limits}
use Rattle.gomp_types.specs.declared.lock.LockKind.{LockKind}
use Rattle.gomp_types.specs.declared.lock.LockKind.TheVariants.{Simple, Nest}
use Rattle.gomp_types.specs.declared.reply.Reply.{Reply}
use Rattle.gomp_types.specs.declared.reply.Reply.TheVariants.{Finished, Refused, Lock as LockMade}
use Rattle.gomp_types.specs.declared.refusal.Place.{Place}
use Rattle.gomp_types.specs.declared.refusal.Refusal.{Refusal}
use Rattle.gomp_types.specs.declared.refusal.Refusal.TheVariants.{Mismatch, NoMemory}
use Rattle.gomp_types.specs.Limits.{standard}
use Rattle.gomp_board.specs.declared.op.Op.TheVariants.{Break}
use Rattle.gomp_board.specs.Boards.{Performs}
use Rattle.gomp_locks.specs.declared.lock.Lock.{Lock}
use Rattle.gomp_model.specs.Past.{Waits}
use Rattle.gomp_types.specs.Resumes.{call_meant}
use Rattle.gomp_model.specs.Team.{Record}
use Rattle.gomp_icv.specs.Variables.{Variables}
use Rattle.gomp_core.specs.LocksMade.{lock_kinds_of, init_of, lock_made, made_from, locks_made}
use Rattle.gomp_core.specs.Resolved.{step_by}
use Rattle.gomp_core.specs.Stands.{TeamView, members_of, open_call_of, terms_of, terms_by, standard_terms, suspended_at, Keeps}

-- Terms

-- a team is made with its size, its limits and cancel-var
pub team_has_its_terms : {S : Type 0} (team : TeamView S) → ((terms_of team).members ≡ length team.waits) × ((terms_of team).limits ≡ team.board.limits) × ((terms_of team).cancellation ≡ team.icv.cancellation)
team_has_its_terms team = (refl, refl, refl)

pub terms_are_as_they_are_given : (count : ℕ) (limits : Limits) (icv : Variables) → terms_by count limits icv ≡ record { members = count; limits = limits; cancellation = icv.cancellation }
terms_are_as_they_are_given count limits icv = refl

-- with the standard limits, if none are given
pub terms_without_limits_have_the_standard_ones : (count : ℕ) (icv : Variables) → standard_terms count icv ≡ record { members = count; limits = standard; cancellation = icv.cancellation }
terms_without_limits_have_the_standard_ones count icv = refl

-- Waits

-- the open call of a member is its own, and a member that the team does not have has none
pub open_call_is_the_members_own : {S : Type 0} (team : TeamView S) (m : ℕ) (waits : Waits) → slice_get team.waits m ≡ Some waits → open_call_of team m ≡ waits.open_call
open_call_is_the_members_own team m waits is = rw is refl

pub no_member_has_no_open_call : {S : Type 0} (team : TeamView S) (m : ℕ) → slice_get team.waits m ≡ None → open_call_of team m ≡ None
no_member_has_no_open_call team m none = rw none refl

-- at the start of a task the call goes beneath it, before those that are there
pub call_goes_beneath_a_task : (call : Call) (waits : Waits) → suspended_at call waits ≡ record { open_call = None; beneath = call_meant call waits.open_call ∷ waits.beneath }
call_goes_beneath_a_task call waits = refl

-- Locks

-- a lock that stands is of its kind, and one that is gone of none
pub lock_is_of_its_kind : (lock : Lock) (locks : List (Option Lock)) → (lock_kinds_of (Some lock ∷ locks) ≡ Some lock.kind ∷ lock_kinds_of locks) × (lock_kinds_of (None ∷ locks) ≡ None ∷ lock_kinds_of locks)
lock_is_of_its_kind lock locks = (refl, refl)

-- each is made by the call of its kind, and one that is gone is destroyed at once, by its own number
pub lock_is_made_by_its_kind : (init_of Simple ≡ LockInit) × (init_of Nest ≡ NestInit)
lock_is_made_by_its_kind = (refl, refl)

pub lock_is_made_by_its_number : (number : ℕ) (kind : LockKind) →
    (lock_made number (Some kind) ≡ (step_by 0 (init_of kind), LockMade number) ∷ []) × (lock_made number None ≡ (step_by 0 (LockDestroy number), Finished) ∷ (step_by 0 LockInit, LockMade number) ∷ [])
lock_is_made_by_its_number number kind = (refl, refl)

-- they are made in their turn, from 0 on, behind what was before
pub locks_are_made_in_their_turn : (number : ℕ) (place : Option LockKind) (places : List (Option LockKind)) (earlier : Record) →
    (made_from number [] earlier ≡ earlier) × (made_from number (place ∷ places) earlier ≡ made_from (number + 1) places (lock_made number place ++ earlier)) × (locks_made places ≡ made_from 0 places [])
locks_are_made_in_their_turn number place places earlier = (refl, refl, refl)

-- What a step leaves of a team (`Keeps`), of every team, call and reply

-- its members, its variables and its limits
pub step_keeps_the_terms : {S : Type 0} (team after : TeamView S) (call : Call) (reply : Reply) → Keeps team after call reply → (members_of after ≡ members_of team) × (after.icv ≡ team.icv) × (after.board.limits ≡ team.board.limits)
step_keeps_the_terms team after call reply keeps = (keeps.members, keeps.icv, keeps.limits)

-- all of it, if it is refused for anything but a mismatch or want of memory
pub refused_step_keeps_all : {S : Type 0} (team after : TeamView S) (call : Call) (refusal : Refusal) → Keeps team after call (Refused refusal) → refusal ≢ Mismatch → refusal ≢ NoMemory → after ≡ team
refused_step_keeps_all team after call refusal keeps clash memory = keeps.refused refusal refl clash memory

-- all but the break, if it breaks the team
pub breaking_step_keeps_the_rest : {S : Type 0} (team after : TeamView S) (call : Call) → Keeps team after call (Refused Mismatch) →
    (after ≡ record team { board = after.board }) × ((m : ℕ) × (place : Place) × Performs (Break place 0) m team.board after.board (Refused Mismatch))
breaking_step_keeps_the_rest team after call keeps = keeps.broken refl
