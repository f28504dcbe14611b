-- Parts of a list of events that tell all that is asked of the work-shares: the events of the shares, and those of one member. (own)
use Rattle.std.specs.Prelude.{ℕ, ◌==◌, if◌then◌else◌, List, [], ◌∷◌}
use Rattle.gomp_events.specs.declared.event.Event.{Event}
use Rattle.gomp_events.specs.Events.{member_of}
use Rattle.gomp_shares.specs.Calls.{is_of_shares}

-- the events that the shares see
abbrev pub shares_only : List Event → List Event
shares_only [] = []
shares_only (event ∷ earlier) = if is_of_shares event then event ∷ shares_only earlier else shares_only earlier

-- the events of one member
abbrev pub own_of : ℕ → List Event → List Event
own_of m [] = []
own_of m (event ∷ earlier) = if member_of event == m then event ∷ own_of m earlier else own_of m earlier
