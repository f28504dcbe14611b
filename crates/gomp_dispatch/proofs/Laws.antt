-- What the parts stand for after events that none of them gives, and after a break: the laws that the crate above cites.
use Rattle.std.proofs.Common.{◌≡◌, ◌≤◌, ℕ, List, [], ◌∷◌, sym, subst, ◌∙◌}
use Rattle.std.specs.Prelude.{slice_index_or}
use Rattle.gomp_events.specs.declared.event.Event.{Event}
use Rattle.gomp_events.specs.declared.event.Event.TheVariants.{Break as BreakEvent}
use Rattle.gomp_types.specs.declared.refusal.Place.{Place}
use Rattle.gomp_types.specs.declared.refusal.Refusal.TheVariants.{Mismatch}
use Rattle.gomp_types.specs.declared.reply.Reply.TheVariants.{Refused}
use Rattle.gomp_events.specs.Events.{open_share}
use Rattle.gomp_shares.specs.Calls.{IsNoShareEvent as SharesAside}
use Rattle.gomp_model.specs.Past.{Past}
use Rattle.gomp_board.specs.declared.op.Op.TheVariants.{Break}
use Rattle.gomp_board.specs.Stored.{IsNotStored as BoardAside}
use Rattle.gomp_board.specs.Boards.{BoardView, Performs, kept_by}
use Rattle.gomp_board.proofs.Laws.{event_aside_keeps_board}
use Rattle.gomp_board.proofs.Refused.{break_that_gives_nothing_back}
use Rattle.gomp_dispatch.specs.Answers.{room_left, ServersStand}
use Rattle.gomp_dispatch.proofs.BoardEvents.{AreBoardEvents, aside_of_both, shares_stay, puts_stay_with_board}
use Rattle.gomp_dispatch.proofs.OpAnswers.{parts_at}

-- an event of names and locks changes nothing for the parts: for a past with it they stand as before
pub parts_stand_beside : {S : Type 0} (stands : S → List Event → Type 0) (shares : S) → ((h : List Event) (event : Event) → SharesAside event → stands shares h → stands shares (event ∷ h)) →
    (board : BoardView) (event : Event) (p q : Past) → SharesAside event → BoardAside event → q.terms ≡ p.terms → q.events ≡ event ∷ p.events → q.room ≡ p.room → ServersStand stands shares board p → ServersStand stands shares board q
parts_stand_beside stands shares aside board event p q of_shares of_board terms events room parts =
    let are : AreBoardEvents (event ∷ []) = (aside_of_both event of_shares of_board, tt) in
    parts_at stands shares board q p.terms (event ∷ p.events) p.room terms events room (aside p.events event of_shares parts.shares_are) (event_aside_keeps_board board p.events event of_board parts.board_is) parts.members parts.limits parts.room
    (λ k. subst (λ o. room_left o ≤ kept_by k board) (sym (shares_stay k (event ∷ []) p.events are)) (parts.kept k)) (puts_stay_with_board (event ∷ []) p.events are parts.puts)

-- nor does what a past says beside its terms, events and room
pub parts_stand_alike : {S : Type 0} (stands : S → List Event → Type 0) (shares : S) (board : BoardView) (p q : Past) → q.terms ≡ p.terms → q.events ≡ p.events → q.room ≡ p.room → ServersStand stands shares board p → ServersStand stands shares board q
parts_stand_alike stands shares board p q terms events room parts =
    parts_at stands shares board q p.terms p.events p.room terms events room parts.shares_are parts.board_is parts.members parts.limits parts.room parts.kept parts.puts

-- a construct that differs breaks the team there
pub break_keeps_parts : {S : Type 0} (stands : S → List Event → Type 0) (shares : S) → ((h : List Event) (event : Event) → SharesAside event → stands shares h → stands shares (event ∷ h)) →
    (board after : BoardView) (m : ℕ) (place : Place) (p q : Past) → Performs (Break place 0) m board after (Refused Mismatch) → q.terms ≡ p.terms → q.events ≡ BreakEvent m place ∷ p.events → q.room ≡ p.room → ServersStand stands shares board p → ServersStand stands shares after q
break_keeps_parts stands shares aside board after m place p q performs terms events room parts =
    let are : AreBoardEvents (BreakEvent m place ∷ []) = (tt, tt) in
    let (room_same, kept_same) = break_that_gives_nothing_back m place board after performs in
    parts_at stands shares after q p.terms (BreakEvent m place ∷ p.events) p.room terms events room (aside p.events (BreakEvent m place) tt parts.shares_are) (performs.stands p.events parts.board_is)
    (parts.members ∙ sym performs.members) (parts.limits ∙ sym performs.limits) (parts.room ∙ sym room_same)
    (λ k. subst (λ (kept : List ℕ). room_left (open_share k p.events) ≤ slice_index_or kept k 0) (sym kept_same) (parts.kept k)) (puts_stay_with_board (BreakEvent m place ∷ []) p.events are parts.puts)
