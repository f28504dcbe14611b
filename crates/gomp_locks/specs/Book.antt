-- What a lock book keeps, and what a call reads of it. OpenMP API 5.2, sections 15.2 and 18.9.
use Rattle.std.specs.Prelude.{ℕ, ◌+◌, ◌==◌, ◌≡◌, Bool, true, false, if◌then◌else◌, List, Option, Some, None, slice_get, slice_set, bytes_eq}
use Rattle.std.specs.List.{sum_by, count_by}
use Rattle.std.specs.Map.{lookup, values_of}
use Rattle.std.specs.BTreeMap.{insert_entry}
use Rattle.std.specs.Ordering.{nat_cmp}
use Rattle.std.specs.Cmp.Lexicographic.{slice_cmp}
use Rattle.std.specs.Option.{option_flatten}
use Rattle.gomp_types.specs.declared.task.Owner.{Owner}
use Rattle.gomp_types.specs.declared.lock.LockKind.{LockKind}
use Rattle.gomp_types.specs.declared.lock.LockKind.TheVariants.{Simple, Nest}
use Rattle.gomp_types.specs.declared.lock.Held.{Held}
use Rattle.gomp_types.specs.Owners.{same_owner, same_member}
use Rattle.gomp_types.specs.declared.reply.Reply.{Reply}
use Rattle.gomp_types.specs.declared.reply.Reply.TheVariants.{Refused}
use Rattle.gomp_types.specs.declared.refusal.Refusal.TheVariants.{NoMemory}
use Rattle.gomp_types.specs.Tests.{Test}
use Rattle.gomp_types.specs.Least.{least, Answers}
use Rattle.gomp_locks.specs.declared.lock.Lock.{Lock}

-- what a book keeps
pub record BookView : Type 0 where
  -- the critical names that were ever started, in their order, each with its owner while it is held
  pub names : List (List ℕ × Option Owner)
  -- the locks by their numbers; None in the place of one that was destroyed
  pub locks : List (Option Lock)

-- Names

-- whether a name was ever started, and then its owner while it is held; names are compared whole
abbrev pub name_at : List ℕ → BookView → Option (Option Owner)
name_at name book = lookup (bytes_eq name) book.names

-- the owner of a name, if it is held
abbrev pub name_owner : List ℕ → BookView → Option Owner
name_owner name book = option_flatten (name_at name book)

-- the book with this owner of a name, or with none
abbrev pub with_name : List ℕ → Option Owner → BookView → BookView
with_name name owner book = record book { names = insert_entry (slice_cmp nat_cmp) book.names name owner }

-- whether this owner holds it
abbrev pub owned_by : Owner → Option Owner → Bool
owned_by owner None = false
owned_by owner (Some other) = same_owner other owner

-- whether its member does, in this task or in another
abbrev pub owned_by_member : Owner → Option Owner → Bool
owned_by_member owner None = false
owned_by_member owner (Some other) = same_member other owner

-- how many critical names an owner holds
abbrev pub names_held : Owner → List (List ℕ × Option Owner) → ℕ
names_held owner names = count_by (owned_by owner) (values_of names)

-- Locks

abbrev pub same_lock_kind : LockKind → LockKind → Bool
same_lock_kind Simple Simple = true
same_lock_kind Nest Nest = true
same_lock_kind _ _ = false

-- how a lock of this kind is held; None if there is no such lock
abbrev pub held_of_kind : LockKind → Option (Option Lock) → Option (Option Held)
held_of_kind kind (Some (Some lock)) = if same_lock_kind lock.kind kind then Some lock.held else None
held_of_kind kind _ = None

-- how the lock of this number and kind is held; None if there is no such lock
abbrev pub lock_at : LockKind → ℕ → BookView → Option (Option Held)
lock_at kind number book = held_of_kind kind (slice_get book.locks number)

-- how a lock is held, whatever its kind; None if there is no such lock
abbrev pub held_of_any_kind : Option (Option Lock) → Option (Option Held)
held_of_any_kind (Some (Some lock)) = Some lock.held
held_of_any_kind _ = None

-- how the lock of this number is held, whatever its kind; None if there is no such lock
abbrev pub any_lock_at : ℕ → BookView → Option (Option Held)
any_lock_at number book = held_of_any_kind (slice_get book.locks number)

-- the book with the lock of this number and kind held so
abbrev pub with_lock : LockKind → ℕ → Option Held → BookView → BookView
with_lock kind number held book = record book { locks = slice_set book.locks number (Some (record { kind = kind; held = held })) }

-- a lock as nobody holds it
abbrev pub unset_lock : Lock → Lock
unset_lock lock = record lock { held = None }

-- held by this owner so often; by nobody if that is 0
abbrev pub held_times : Owner → ℕ → Option Held
held_times owner count = if count == 0 then None else Some (record { owner = owner; count = count })

-- whether this owner holds it
abbrev pub held_by : Owner → Option Held → Bool
held_by owner None = false
held_by owner (Some held) = same_owner held.owner owner

-- Open holds: how many names and locks are held, a nestable lock as often as it is set

abbrev pub holds_of_name : Option Owner → ℕ
holds_of_name None = 0
holds_of_name (Some owner) = 1

abbrev pub holds_of_held : Option Held → ℕ
holds_of_held None = 0
holds_of_held (Some held) = held.count

abbrev pub holds_of_lock : Option Lock → ℕ
holds_of_lock None = 0
holds_of_lock (Some lock) = holds_of_held lock.held

abbrev pub open_holds : BookView → ℕ
open_holds book = sum_by holds_of_name (values_of book.names) + sum_by holds_of_lock book.locks

-- Answers

-- an answer by these tests and this relation, or want of memory if no test holds
abbrev pub AnswersOrLacks : List Test → (Reply → Type 0) → Reply → Type 0
AnswersOrLacks tests may (Refused NoMemory) = least tests ≡ None
AnswersOrLacks tests may reply = Answers tests may reply
