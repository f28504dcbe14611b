-- What never ends what a board stands for, of any board, event and list of events.
use Rattle.std.proofs.Common.{◌≡◌, ℕ, false, List, ◌∷◌, ◌++◌, Option}
use Rattle.gomp_events.specs.declared.event.Event.{Event}
use Rattle.gomp_events.specs.TaskRules.{TaskRule}
use Rattle.gomp_tasks.specs.Stands.{task_members}
use Rattle.gomp_groups.specs.Stands.{group_members}
use Rattle.gomp_board.specs.Stored.{is_stored, IsNotStored, AreAside}
use Rattle.gomp_board.specs.Boards.{BoardView, Stands}
use Rattle.gomp_board.specs.KeptPayload.{HasPayload, kept_payload}
use Rattle.gomp_board.proofs.Laws.{event_unstored_keeps_board, event_aside_keeps_board, events_aside_keep_board}

-- no event that is not stored, which the rule of tasks lets happen
pub unstored_event_never_ends_it : (board : BoardView) (event : Event) (h : List Event) → is_stored event ≡ false → TaskRule (task_members board.scheduler.tasks) event h → TaskRule (group_members board.scheduler.groups) event h → Stands board h → (Stands board (event ∷ h) → ⊥) → ⊥
unstored_event_never_ends_it board event h is tasks groups st ends = ends (event_unstored_keeps_board board event h is tasks groups st)

-- nothing that a member does in its shares, nor what names and locks keep
pub event_aside_never_ends_it : (board : BoardView) (h : List Event) (event : Event) → IsNotStored event → Stands board h → (Stands board (event ∷ h) → ⊥) → ⊥
event_aside_never_ends_it board h event is st ends = ends (event_aside_keeps_board board h event is st)

-- nor several such events
pub events_aside_never_end_it : (board : BoardView) (h events : List Event) → AreAside events → Stands board h → (Stands board (events ++ h) → ⊥) → ⊥
events_aside_never_end_it board h events are st ends = ends (events_aside_keep_board board h events are st)

-- a board has no other words of a share than those that were put and kept, by whatever events it stands for
pub no_other_words_of_a_share : (board : BoardView) (i : ℕ) (words : Option (List ℕ)) (h : List Event) → Stands board h → (words ≡ kept_payload i h → ⊥) → HasPayload board i words → ⊥
no_other_words_of_a_share board i words h st other has = other (has h st)
