-- What no call of a member on its team's shares leaves open, of any shares, member, reply, refusal, tests and list of events: for each line of what the calls promise alike.
use Rattle.std.proofs.Common.{◌≡◌, ℕ, List, refl}
use Rattle.std.specs.Prelude.{Result, Err}
use Rattle.gomp_events.specs.declared.event.Event.{Event}
use Rattle.gomp_types.specs.declared.refusal.Refusal.{Refusal}
use Rattle.gomp_types.specs.declared.reply.Reply.{Reply}
use Rattle.gomp_types.specs.declared.reply.Reply.TheVariants.{Wait, Refused}
use Rattle.gomp_events.specs.declared.seen.Seen.{Seen}
use Rattle.gomp_types.specs.Tests.{Test, outcome}
use Rattle.gomp_types.specs.Least.{least}
use Rattle.gomp_events.specs.Seen.{seen_of}
use Rattle.gomp_shares.specs.Calls.{left_unless_refused}
use Rattle.gomp_shares.specs.Serves.{Ends, LeavesConstruct, Serves, ended_unless_refused}

-- A call that answers a reply

-- shares that stand for nothing answer nothing
pub never_served_by_no_shares : {S : Type 0} (stands : S → List Event → Type 0) (before after : S) (reply : Reply) (May : Reply → List Event → Type 0) (given : Reply → List Event → List Event) →
    ((h : List Event) → stands before h → ⊥) → Serves stands before after reply May given → ⊥
never_served_by_no_shares stands before after reply May given none served = none served.known.0 served.known.1

-- no reply is one that may not be given
pub never_served_by_another_reply : {S : Type 0} (stands : S → List Event → Type 0) (before after : S) (reply : Reply) (May : Reply → List Event → Type 0) (given : Reply → List Event → List Event) (h : List Event) →
    stands before h → (May reply h → ⊥) → Serves stands before after reply May given → ⊥
never_served_by_another_reply stands before after reply May given h st wrong served = wrong (served.answer h st)

-- none goes without its events
pub never_served_without_its_events : {S : Type 0} (stands : S → List Event → Type 0) (before after : S) (reply : Reply) (May : Reply → List Event → Type 0) (given : Reply → List Event → List Event) (h : List Event) →
    stands before h → (stands after (given reply h) → ⊥) → Serves stands before after reply May given → ⊥
never_served_without_its_events stands before after reply May given h st lost served = lost (served.stands_for h st)

-- no refusal changes the shares
pub never_changed_by_a_refusal : {S : Type 0} (stands : S → List Event → Type 0) (before after : S) (refusal : Refusal) (May : Reply → List Event → Type 0) (given : Reply → List Event → List Event) →
    (after ≡ before → ⊥) → Serves stands before after (Refused refusal) May given → ⊥
never_changed_by_a_refusal stands before after refusal May given changed served = changed (served.kept refusal refl)

-- nor does a wait
pub never_changed_by_a_wait : {S : Type 0} (stands : S → List Event → Type 0) (before after : S) (May : Reply → List Event → Type 0) (given : Reply → List Event → List Event) →
    (after ≡ before → ⊥) → Serves stands before after Wait May given → ⊥
never_changed_by_a_wait stands before after May given changed served = changed (served.waits refl)

-- The end of a single

pub never_left_by_no_shares : {S : Type 0} (stands : S → List Event → Type 0) (before after : S) (result : Result (Unit {0}) Refusal) (tests : Seen → List Test) (m : ℕ) →
    ((h : List Event) → stands before h → ⊥) → LeavesConstruct stands before after result tests m → ⊥
never_left_by_no_shares stands before after result tests m none left = none left.known.0 left.known.1

pub never_left_against_its_tests : {S : Type 0} (stands : S → List Event → Type 0) (before after : S) (result : Result (Unit {0}) Refusal) (tests : Seen → List Test) (m : ℕ) (h : List Event) →
    stands before h → (result ≡ outcome (least (tests (seen_of m h))) tt → ⊥) → LeavesConstruct stands before after result tests m → ⊥
never_left_against_its_tests stands before after result tests m h st wrong left = wrong (left.answer h st)

pub never_left_without_its_end : {S : Type 0} (stands : S → List Event → Type 0) (before after : S) (result : Result (Unit {0}) Refusal) (tests : Seen → List Test) (m : ℕ) (h : List Event) →
    stands before h → (stands after (left_unless_refused result m h) → ⊥) → LeavesConstruct stands before after result tests m → ⊥
never_left_without_its_end stands before after result tests m h st lost left = lost (left.stands_for h st)

pub never_changed_by_a_refused_leave : {S : Type 0} (stands : S → List Event → Type 0) (before after : S) (refusal : Refusal) (tests : Seen → List Test) (m : ℕ) →
    (after ≡ before → ⊥) → LeavesConstruct stands before after (Err refusal) tests m → ⊥
never_changed_by_a_refused_leave stands before after refusal tests m changed left = changed (left.kept refusal refl)

-- The end of a loop or sections

pub never_ended_by_no_shares : {S : Type 0} (stands : S → List Event → Type 0) (before after : S) (result : Result (Unit {0}) Refusal) (tests : ℕ → List Event → List Test) (m : ℕ) →
    ((h : List Event) → stands before h → ⊥) → Ends stands before after result tests m → ⊥
never_ended_by_no_shares stands before after result tests m none ended = none ended.known.0 ended.known.1

pub never_ended_against_its_tests : {S : Type 0} (stands : S → List Event → Type 0) (before after : S) (result : Result (Unit {0}) Refusal) (tests : ℕ → List Event → List Test) (m : ℕ) (h : List Event) →
    stands before h → (result ≡ outcome (least (tests m h)) tt → ⊥) → Ends stands before after result tests m → ⊥
never_ended_against_its_tests stands before after result tests m h st wrong ended = wrong (ended.answer h st)

pub never_ended_without_its_end : {S : Type 0} (stands : S → List Event → Type 0) (before after : S) (result : Result (Unit {0}) Refusal) (tests : ℕ → List Event → List Test) (m : ℕ) (h : List Event) →
    stands before h → (stands after (ended_unless_refused result m h) → ⊥) → Ends stands before after result tests m → ⊥
never_ended_without_its_end stands before after result tests m h st lost ended = lost (ended.stands_for h st)

pub never_changed_by_a_refused_end : {S : Type 0} (stands : S → List Event → Type 0) (before after : S) (refusal : Refusal) (tests : ℕ → List Event → List Test) (m : ℕ) →
    (after ≡ before → ⊥) → Ends stands before after (Err refusal) tests m → ⊥
never_changed_by_a_refused_end stands before after refusal tests m changed ended = changed (ended.kept refusal refl)
