-- What a written name or lock leaves of a book, as the past with one more event says it.
use Rattle.std.proofs.Common.{◌≡◌, ◌∙◌, ◌+◌, ◌==◌, ℕ, true, false, List, [], ◌∷◌, ◌++◌, Option, Some, None, suc, zero, refl, ap, sym, length, arith, slice_get, inl, inr}
use Rattle.std.specs.Prelude.{slice_set, bytes_eq, option_map, is_some, not, IsSome, ◌⊎◌}
use Rattle.std.specs.Option.{option_flatten}
use Rattle.std.proofs.lemmas.Option.{slice_get_within}
use Rattle.std.proofs.lemmas.List.{length-set, length_push}
use Rattle.std.proofs.lemmas.Bool.{cases_Bool}
use Rattle.std.proofs.lemmas.Bool.Decides.{nat_tests}
use Rattle.gomp_types.specs.declared.task.Owner.{Owner}
use Rattle.gomp_types.specs.declared.task.Task.{Task}
use Rattle.gomp_events.specs.declared.event.Event.{Event}
use Rattle.gomp_events.specs.declared.event.Event.TheVariants.{Hold, Free}
use Rattle.gomp_types.specs.declared.key.Key.{Key}
use Rattle.gomp_types.specs.declared.key.Key.TheVariants.{Critical}
use Rattle.gomp_types.specs.declared.lock.Held.{Held}
use Rattle.gomp_types.specs.declared.lock.LockKind.{LockKind}
use Rattle.gomp_types.specs.declared.lock.LockKind.TheVariants.{Simple, Nest}
use Rattle.gomp_types.proofs.Booleans.{is_equal, unequal_numbers, or_tells}
use Rattle.gomp_types.proofs.Lists.{slice_get-set_same, slice_get-set_other}
use Rattle.gomp_locks.specs.declared.lock.Lock.{Lock}
use Rattle.gomp_locks.specs.Book.{BookView, name_at, with_name, with_lock, lock_at, any_lock_at, held_of_kind, held_of_any_kind}
use Rattle.gomp_locks.specs.Holders.{same_key, key_of, holder, holding_owner, held_if_kind, found_lock, held_of_either, found_any_lock}
use Rattle.gomp_locks.proofs.OwnerLemmas.{one_name, same_name, another_name}
use Rattle.gomp_locks.proofs.BookReadings.{put_name_is_found}
use Rattle.gomp_model.specs.Past.{Past}
use Rattle.gomp_model.specs.CriticalNames.{was_name_held}
use Rattle.gomp_book_calls.specs.Stands.{lock_held, BookStands}

-- What a book for a past finds

-- a lock of a kind
kind_found : (kind : LockKind) (number : ℕ) (h : List Event) (place : Option (Option LockKind)) → held_of_kind kind (option_map (lock_held number h) place) ≡ held_if_kind kind place (holder (key_of kind number) h)
kind_found kind number h None = refl
kind_found kind number h (Some None) = refl
kind_found Simple number h (Some (Some Simple)) = refl
kind_found Nest number h (Some (Some Simple)) = refl
kind_found Simple number h (Some (Some Nest)) = refl
kind_found Nest number h (Some (Some Nest)) = refl

pub lock_found_in_past : (kind : LockKind) (number : ℕ) (book : BookView) (p : Past) → BookStands book p → lock_at kind number book ≡ found_lock kind number p.locks p.events
lock_found_in_past kind number book p st = ap (held_of_kind kind) (st.locks number) ∙ kind_found kind number p.events (slice_get p.locks number)

-- a lock of either
either_found : (number : ℕ) (h : List Event) (place : Option (Option LockKind)) → held_of_any_kind (option_map (lock_held number h) place) ≡ held_of_either place number h
either_found number h None = refl
either_found number h (Some None) = refl
either_found number h (Some (Some kind)) = refl

pub any_lock_found_in_past : (number : ℕ) (book : BookView) (p : Past) → BookStands book p → any_lock_at number book ≡ found_any_lock number p.locks p.events
any_lock_found_in_past number book p st = ap held_of_any_kind (st.locks number) ∙ either_found number p.events (slice_get p.locks number)

-- lists whose places are told by one another are of one length
same_lengths : (made : ℕ → Option LockKind → Option Lock) (locks : List (Option Lock)) (kinds : List (Option LockKind)) → ((number : ℕ) → slice_get locks number ≡ option_map (made number) (slice_get kinds number)) → length locks ≡ length kinds
same_lengths made [] [] each = refl
same_lengths made [] (kind ∷ kinds) each = absurd (let first = each 0 in cc)
same_lengths made (lock ∷ locks) [] each = absurd (let first = each 0 in cc)
same_lengths made (lock ∷ locks) (kind ∷ kinds) each = let rest = same_lengths (λ number. made (suc number)) locks kinds (λ number. each (suc number)) in omega (arith, rest)

pub as_many_locks : (book : BookView) (p : Past) → BookStands book p → length book.locks ≡ length p.locks
as_many_locks book p st = same_lengths (λ number place. lock_held number p.events place) book.locks p.locks st.locks

-- a lock that is not missing is there, of its kind
pub kind_is_there : (kind : LockKind) (place : Option (Option LockKind)) (held : Option Held) → not (is_some (held_if_kind kind place held)) ≡ false → place ≡ Some (Some kind)
kind_is_there kind None held e = absurd (cc)
kind_is_there kind (Some None) held e = absurd (cc)
kind_is_there Simple (Some (Some Simple)) held e = refl
kind_is_there Nest (Some (Some Nest)) held e = refl
kind_is_there Simple (Some (Some Nest)) held e = absurd (cc)
kind_is_there Nest (Some (Some Simple)) held e = absurd (cc)

-- and is found as it is held
pub held_there : (kind : LockKind) (held : Option Held) → held_if_kind kind (Some (Some kind)) held ≡ Some held
held_there Simple held = refl
held_there Nest held = refl

-- how much room there is says nothing of a book
pub stands_with_room : (book : BookView) (p : Past) (room : ℕ) → BookStands book p → BookStands book (record p { room = room })
stands_with_room book p room st = record { names = st.names; locks = st.locks; unmade = st.unmade; started = st.started }

-- One more event

-- of all keys this one alone may have another holder now
abbrev pub ChangesOnly : Key → List Event → List Event → Type 0
ChangesOnly key h now = (other : Key) → same_key key other ≡ false → holder other now ≡ holder other h

pub hold_changes : (key : Key) (m : ℕ) (task : Task) (h : List Event) → ChangesOnly key h (Hold key m task ∷ h)
hold_changes key m task h = λ other e. rw e refl

pub free_changes : (key : Key) (m : ℕ) (task : Task) (h : List Event) → ChangesOnly key h (Free key m task ∷ h)
free_changes key m task h = λ other e. rw e refl

name_is_no_lock : (name : List ℕ) (kind : LockKind) (number : ℕ) → same_key (Critical name) (key_of kind number) ≡ false
name_is_no_lock name Simple number = refl
name_is_no_lock name Nest number = refl

lock_is_no_name : (name : List ℕ) (kind : LockKind) (number : ℕ) → same_key (key_of kind number) (Critical name) ≡ false
lock_is_no_name name Simple number = refl
lock_is_no_name name Nest number = refl

apart_numbers : (number other : ℕ) → (number == other) ≡ false → (kind k : LockKind) → same_key (key_of kind number) (key_of k other) ≡ false
apart_numbers number other e Simple Simple = e
apart_numbers number other e Nest Nest = e
apart_numbers number other e Simple Nest = refl
apart_numbers number other e Nest Simple = refl

pub key_of_itself : (kind : LockKind) (number : ℕ) → same_key (key_of kind number) (key_of kind number) ≡ true
key_of_itself Simple number = grind (arith, nat_tests)
key_of_itself Nest number = grind (arith, nat_tests)

-- a place is as before if its lock is
place_stays_held : (number : ℕ) (h now : List Event) → ((kind : LockKind) → holder (key_of kind number) now ≡ holder (key_of kind number) h) → (place : Option (Option LockKind)) → option_map (lock_held number h) place ≡ option_map (lock_held number now) place
place_stays_held number h now same None = refl
place_stays_held number h now same (Some None) = refl
place_stays_held number h now same (Some (Some kind)) = ap (λ (held : Option Held). lock_of kind held) (sym (same kind))
  where
    lock_of : LockKind → Option Held → Option (Option Lock)
    lock_of kind held = Some (Some (record { kind = kind; held = held }))

-- Names

-- a name that was known stays known
pub known_stays : (name other : List ℕ) (value : Option Owner) (book : BookView) → IsSome (name_at other book) → IsSome (name_at other (with_name name value book))
known_stays name other value book known = elim (cases_Bool (bytes_eq other name)) [
  | inl same ↦ rw (one_name other name same, put_name_is_found name value book.names) refl
  | inr apart ↦ rw (another_name name other value book.names apart) known
]

-- of all names this one alone may have been started since
abbrev pub StartsOnly : List ℕ → List Event → List Event → Type 0
StartsOnly name h now = (other : List ℕ) → was_name_held other now ≡ true → (bytes_eq name other ≡ true) ⊎ (was_name_held other h ≡ true)

pub hold_starts : (name : List ℕ) (m : ℕ) (task : Task) (h : List Event) → StartsOnly name h (Hold (Critical name) m task ∷ h)
hold_starts name m task h = λ other is. or_tells (bytes_eq name other) (was_name_held other h) is

pub free_starts : (name : List ℕ) (m : ℕ) (task : Task) (h : List Event) → StartsOnly name h (Free (Critical name) m task ∷ h)
free_starts name m task h = λ other is. inr is

-- or no name at all
abbrev pub StartsNone : List Event → List Event → Type 0
StartsNone h now = (name : List ℕ) → was_name_held name now ≡ true → was_name_held name h ≡ true

pub lock_hold_starts_none : (kind : LockKind) (number m : ℕ) (task : Task) (h : List Event) → StartsNone h (Hold (key_of kind number) m task ∷ h)
lock_hold_starts_none Simple number m task h = λ name is. is
lock_hold_starts_none Nest number m task h = λ name is. is

pub name_written : (name : List ℕ) (owner : Option Owner) (book : BookView) (p : Past) (now : List Event) → BookStands book p → holding_owner (holder (Critical name) now) ≡ owner → ChangesOnly (Critical name) p.events now → StartsOnly name p.events now →
    BookStands (with_name name owner book) (record p { events = now })
name_written name owner book p now st held only starts = record {
  names = λ other. elim (cases_Bool (bytes_eq other name)) [
    | inl same ↦ rw (one_name other name same) (ap option_flatten (put_name_is_found name owner book.names) ∙ sym held)
    | inr apart ↦ ap option_flatten (another_name name other owner book.names apart) ∙ st.names other ∙ ap holding_owner (sym (only (Critical other) (turned other apart)))
  ];
  locks = λ number. st.locks number ∙ place_stays_held number p.events now (λ kind. only (key_of kind number) (name_is_no_lock name kind number)) (slice_get p.locks number);
  unmade = λ kind number le. only (key_of kind number) (name_is_no_lock name kind number) ∙ st.unmade kind number le;
  started = λ other is. elim (starts other is) [
    | inl same ↦ rw (← one_name name other same, put_name_is_found name owner book.names) refl
    | inr was ↦ known_stays name other owner book (st.started other was)
  ];
}
  where
    turned : (other : List ℕ) → bytes_eq other name ≡ false → bytes_eq name other ≡ false
    turned other apart = elim (cases_Bool (bytes_eq name other)) [
      | inl same ↦ absurd (let never = rw (one_name name other same, same_name other) at apart in cc)
      | inr e ↦ e
    ]

-- Locks

pub lock_written : (kind : LockKind) (number : ℕ) (held : Option Held) (book : BookView) (p : Past) (now : List Event) → BookStands book p → slice_get p.locks number ≡ Some (Some kind) → holder (key_of kind number) now ≡ held → ChangesOnly (key_of kind number) p.events now → StartsNone p.events now →
    BookStands (with_lock kind number held book) (record p { events = now })
lock_written kind number held book p now st at is only starts =
    let lock : Option Lock = Some (record { kind = kind; held = held }) in
    let before : slice_get book.locks number ≡ Some (lock_held number p.events (Some kind)) = st.locks number ∙ ap (option_map (lock_held number p.events)) at in
    let within = slice_get_within book.locks number _ before in
    let inside = slice_get_within p.locks number _ at in record {
      names = λ name. st.names name ∙ ap holding_owner (sym (only (Critical name) (lock_is_no_name name kind number)));
      locks = λ other. elim (cases_Bool (number == other)) [
        | inl e ↦ rw (← is_equal number other e) (slice_get-set_same book.locks number lock within ∙ ap (λ (h : Option Held). written h) (sym is) ∙ ap (option_map (lock_held number now)) (sym at))
        | inr e ↦ slice_get-set_other book.locks number other lock (λ same. unequal_numbers number other e (sym same)) ∙ st.locks other
            ∙ place_stays_held other p.events now (λ k. only (key_of k other) (apart_numbers number other e kind k)) (slice_get p.locks other)
      ];
      unmade = λ k other le. only (key_of k other) (apart_numbers number other (grind (arith, nat_tests, le, inside)) kind k) ∙ st.unmade k other le;
      started = λ name is. st.started name (starts name is);
    }
  where
    written : Option Held → Option (Option Lock)
    written h = Some (Some (record { kind = kind; held = h }))

-- a list in which one place is written, told by one in which the same is
set_alike : (made : ℕ → Option LockKind → Option Lock) (number : ℕ) (locks : List (Option Lock)) (kinds : List (Option LockKind)) → ((k : ℕ) → slice_get locks k ≡ option_map (made k) (slice_get kinds k)) → ((k : ℕ) → made k None ≡ None) →
    (k : ℕ) → slice_get (slice_set locks number None) k ≡ option_map (made k) (slice_get (slice_set kinds number None) k)
set_alike made number [] [] each none k = refl
set_alike made number [] (kind ∷ kinds) each none k = absurd (let first = each 0 in cc)
set_alike made number (lock ∷ locks) [] each none k = absurd (let first = each 0 in cc)
set_alike made zero (lock ∷ locks) (kind ∷ kinds) each none zero = ap Some (sym (none 0))
set_alike made zero (lock ∷ locks) (kind ∷ kinds) each none (suc k) = each (suc k)
set_alike made (suc number) (lock ∷ locks) (kind ∷ kinds) each none zero = each 0
set_alike made (suc number) (lock ∷ locks) (kind ∷ kinds) each none (suc k) = set_alike (λ i. made (suc i)) number locks kinds (λ i. each (suc i)) (λ i. none (suc i)) k

pub lock_removed : (number : ℕ) (book : BookView) (p : Past) → BookStands book p → BookStands (record book { locks = slice_set book.locks number None }) (record p { locks = slice_set p.locks number None })
lock_removed number book p st = record {
  names = st.names;
  locks = set_alike (λ k place. lock_held k p.events place) number book.locks p.locks st.locks (λ k. refl);
  unmade = λ kind k le. st.unmade kind k (let same = length-set p.locks number None in omega (arith, le, same));
  started = st.started;
}

-- a list with one more place, told by one with one more
push_alike : (made : ℕ → Option LockKind → Option Lock) (locks : List (Option Lock)) (kinds : List (Option LockKind)) (lock : Option Lock) (kind : Option LockKind) → ((k : ℕ) → slice_get locks k ≡ option_map (made k) (slice_get kinds k)) → made (length kinds) kind ≡ lock →
    (k : ℕ) → slice_get (locks ++ lock ∷ []) k ≡ option_map (made k) (slice_get (kinds ++ kind ∷ []) k)
push_alike made [] [] lock kind each is zero = ap Some (sym is)
push_alike made [] [] lock kind each is (suc k) = refl
push_alike made [] (one ∷ kinds) lock kind each is k = absurd (let first = each 0 in cc)
push_alike made (one ∷ locks) [] lock kind each is k = absurd (let first = each 0 in cc)
push_alike made (one ∷ locks) (other ∷ kinds) lock kind each is zero = each 0
push_alike made (one ∷ locks) (other ∷ kinds) lock kind each is (suc k) = push_alike (λ i. made (suc i)) locks kinds lock kind (λ i. each (suc i)) is k

pub lock_made : (kind : LockKind) (book : BookView) (p : Past) → BookStands book p → BookStands (record book { locks = book.locks ++ Some (record { kind = kind; held = None }) ∷ [] }) (record p { locks = p.locks ++ Some kind ∷ [] })
lock_made kind book p st = record {
  names = st.names;
  locks = push_alike (λ k place. lock_held k p.events place) book.locks p.locks (Some (record { kind = kind; held = None })) (Some kind) st.locks
      (ap (λ (held : Option Held). new held) (st.unmade kind (length p.locks) (omega arith)));
  unmade = λ k number le. st.unmade k number (let more = longer p.locks (Some kind) in omega (arith, le, more));
  started = st.started;
}
  where
    new : Option Held → Option Lock
    new held = Some (record { kind = kind; held = held })

    longer : (locks : List (Option LockKind)) (place : Option LockKind) → length (locks ++ place ∷ []) ≡ length locks + 1
    longer locks place = length_push locks place
