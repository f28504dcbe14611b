-- The locks that a talk hands from team to team.
use Rattle.std.proofs.Common.{◌≡◌, ◌∙◌, ℕ, List, [], ◌∷◌, Option, Some, None, suc, refl, ap, slice_get}
use Rattle.std.specs.Prelude.{option_map}
use Rattle.gomp_events.specs.declared.event.Event.{Event}
use Rattle.gomp_types.specs.declared.lock.LockKind.{LockKind}
use Rattle.gomp_locks.specs.declared.lock.Lock.{Lock}
use Rattle.gomp_locks.specs.Book.{BookView}
use Rattle.gomp_model.specs.Past.{Terms, Past}
use Rattle.gomp_model.specs.Team.{past_of}
use Rattle.gomp_icv.specs.Variables.{Variables}
use Rattle.gomp_book_calls.specs.Stands.{lock_held, BookStands}
use Rattle.gomp_core.specs.Stands.{TeamView, terms_of}
use Rattle.gomp_core.specs.LocksMade.{lock_kinds_of}
use Rattle.gomp_core.proofs.Lists.{terms_are}
use Rattle.gomp_live.specs.Talk.{Made, locks_so_far}
use Rattle.gomp_live.specs.Stands.{TeamIs, book_of}

-- a lock that stands has the kind of its place
kind_of_held : (number : ℕ) (h : List Event) (place : Option LockKind) → option_map (λ (lock : Lock). lock.kind) (lock_held number h place) ≡ place
kind_of_held number h None = refl
kind_of_held number h (Some kind) = refl

-- two lists are one if the places of the first are those of the second
same_places : (made : ℕ → Option LockKind → Option Lock) → ((number : ℕ) (place : Option LockKind) → option_map (λ (lock : Lock). lock.kind) (made number place) ≡ place) → (locks : List (Option Lock)) (kinds : List (Option LockKind)) →
    ((number : ℕ) → slice_get locks number ≡ option_map (made number) (slice_get kinds number)) → lock_kinds_of locks ≡ kinds
same_places made back [] [] each = refl
same_places made back [] (kind ∷ kinds) each = absurd (let first = each 0 in cc)
same_places made back (lock ∷ locks) [] each = absurd (let first = each 0 in cc)
same_places made back (lock ∷ locks) (kind ∷ kinds) each =
    let first : Some lock ≡ Some (made 0 kind) = each 0 in
    let here : lock ≡ made 0 kind = cc in
    let own = ap (λ (place : Option Lock). option_map (λ (one : Lock). one.kind) place) here ∙ back 0 kind in
    let rest = same_places (λ number. made (suc number)) (λ number. back (suc number)) locks kinds (λ number. each (suc number)) in
    rw (own, rest) refl

-- the kinds of a book's locks are those of the locks of its past
pub kinds_of_the_book : (book : BookView) (p : Past) → BookStands book p → lock_kinds_of book.locks ≡ p.locks
kinds_of_the_book book p is = same_places (λ number place. lock_held number p.events place) (λ number place. kind_of_held number p.events place) book.locks p.locks is.locks

-- so the book of the team that stood has the locks so far
pub locks_of_the_book : {S : Type 0} (stands : S → List Event → Type 0) (members : S → ℕ) (icv : Variables) (team : Option (TeamView S)) (made : Option Made) → TeamIs stands members icv team made → lock_kinds_of (book_of team).locks ≡ locks_so_far icv made
locks_of_the_book stands members icv None None is = refl
locks_of_the_book stands members icv None (Some made) is = absurd is
locks_of_the_book stands members icv (Some team) None is = absurd is
locks_of_the_book stands members icv (Some team) (Some made) is =
    kinds_of_the_book team.book (past_of (terms_of team) made.run) is.stands_for.book_are
    ∙ ap (λ (terms : Terms). (past_of terms made.run).locks) (terms_are team made.size icv is.size_is is.icv_is is.limits_are)
