-- What never ends what the parts stand for, of any shares, board, event and past.
use Rattle.std.proofs.Common.{◌≡◌, ℕ, List, ◌∷◌}
use Rattle.gomp_events.specs.declared.event.Event.{Event}
use Rattle.gomp_events.specs.declared.event.Event.TheVariants.{Break as BreakEvent}
use Rattle.gomp_types.specs.declared.refusal.Place.{Place}
use Rattle.gomp_types.specs.declared.refusal.Refusal.TheVariants.{Mismatch}
use Rattle.gomp_types.specs.declared.reply.Reply.TheVariants.{Refused}
use Rattle.gomp_shares.specs.Calls.{IsNoShareEvent as SharesAside}
use Rattle.gomp_model.specs.Past.{Past}
use Rattle.gomp_board.specs.declared.op.Op.TheVariants.{Break}
use Rattle.gomp_board.specs.Stored.{IsNotStored as BoardAside}
use Rattle.gomp_board.specs.Boards.{BoardView, Performs}
use Rattle.gomp_dispatch.specs.Answers.{ServersStand}
use Rattle.gomp_dispatch.proofs.Laws.{parts_stand_beside, parts_stand_alike, break_keeps_parts}

-- no event of names and locks
pub event_beside_never_ends_it : {S : Type 0} (stands : S → List Event → Type 0) (shares : S) → ((h : List Event) (event : Event) → SharesAside event → stands shares h → stands shares (event ∷ h)) →
    (board : BoardView) (event : Event) (p q : Past) → SharesAside event → BoardAside event → q.terms ≡ p.terms → q.events ≡ event ∷ p.events → q.room ≡ p.room → ServersStand stands shares board p → (ServersStand stands shares board q → ⊥) → ⊥
event_beside_never_ends_it stands shares aside board event p q of_shares of_board terms events room parts ends = ends (parts_stand_beside stands shares aside board event p q of_shares of_board terms events room parts)

-- nothing that a past says beside its terms, events and room
pub past_alike_never_ends_it : {S : Type 0} (stands : S → List Event → Type 0) (shares : S) (board : BoardView) (p q : Past) → q.terms ≡ p.terms → q.events ≡ p.events → q.room ≡ p.room → ServersStand stands shares board p → (ServersStand stands shares board q → ⊥) → ⊥
past_alike_never_ends_it stands shares board p q terms events room parts ends = ends (parts_stand_alike stands shares board p q terms events room parts)

-- and no break of the team
pub break_never_ends_it : {S : Type 0} (stands : S → List Event → Type 0) (shares : S) → ((h : List Event) (event : Event) → SharesAside event → stands shares h → stands shares (event ∷ h)) →
    (board after : BoardView) (m : ℕ) (place : Place) (p q : Past) → Performs (Break place 0) m board after (Refused Mismatch) → q.terms ≡ p.terms → q.events ≡ BreakEvent m place ∷ p.events → q.room ≡ p.room → ServersStand stands shares board p → (ServersStand stands shares after q → ⊥) → ⊥
break_never_ends_it stands shares aside board after m place p q performs terms events room parts ends = ends (break_keeps_parts stands shares aside board after m place p q performs terms events room parts)
