-- What a board keeps of the words that the executors of singles put: the newest of all shares whose numbers leave the same rest by OPEN_SHARES. (own; OpenMP API 5.2, section 5.7.2)
use Rattle.std.specs.Prelude.{ℕ, ◌<◌, ◌≡◌, ◌%◌, ◌==◌, if◌then◌else◌, List, [], ◌∷◌, Option, Some, None, length, slice_get}
use Rattle.gomp_types.specs.declared.limits.TheConstants.{OPEN_SHARES}
use Rattle.gomp_events.specs.declared.event.Event.{Event}
use Rattle.gomp_events.specs.declared.event.Event.TheVariants.{Put as PutEvent}
use Rattle.gomp_board.specs.declared.payloads.Put.{Put}

-- the newest words that were put in a share whose number leaves this rest by OPEN_SHARES
abbrev pub newest_put : ℕ → List Event → Option Put
newest_put rest [] = None
newest_put rest (PutEvent share m words ∷ earlier) = if share % OPEN_SHARES == rest then Some (record { share = share; words = words }) else newest_put rest earlier
newest_put rest (_ ∷ earlier) = newest_put rest earlier

-- the words, if they were put in share i
abbrev pub words_of : ℕ → Option Put → Option (List ℕ)
words_of i None = None
words_of i (Some put) = if put.share == i then Some put.words else None

-- those that lie at a place, if there is one
abbrev pub words_at : ℕ → Option (Option Put) → Option (List ℕ)
words_at i None = None
words_at i (Some put) = words_of i put

-- the share in which words were put, if some were
abbrev pub share_of : Option Put → Option ℕ
share_of None = None
share_of (Some put) = Some put.share

-- that of the words at a place, if there is one
abbrev pub share_at : Option (Option Put) → Option ℕ
share_at None = None
share_at (Some put) = share_of put

-- as many places as shares may be open, and at each the newest words of the shares whose numbers leave the rest that is the number of the place
pub record PayloadsStand (places : List (Option Put)) (h : List Event) : Type 0 where
  pub size : length places ≡ OPEN_SHARES
  pub newest : (rest : ℕ) → rest < OPEN_SHARES → slice_get places rest ≡ Some (newest_put rest h)
