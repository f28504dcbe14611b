-- The words of a share that a board still has. (own; OpenMP API 5.2, section 5.7.2)
use Rattle.std.specs.Prelude.{ℕ, ◌≡◌, ◌%◌, List, Option}
use Rattle.gomp_types.specs.declared.limits.TheConstants.{OPEN_SHARES}
use Rattle.gomp_events.specs.declared.event.Event.{Event}
use Rattle.gomp_board.specs.Payloads.{newest_put, words_of}
use Rattle.gomp_board.specs.Boards.{BoardView, Stands}

-- those that were put in share i, unless later ones took their place
abbrev pub kept_payload : ℕ → List Event → Option (List ℕ)
kept_payload i h = words_of i (newest_put (i % OPEN_SHARES) h)

-- these are they, by all events for which the board stands
abbrev pub HasPayload : BoardView → ℕ → Option (List ℕ) → Type 0
HasPayload board i words = (h : List Event) → Stands board h → words ≡ kept_payload i h
