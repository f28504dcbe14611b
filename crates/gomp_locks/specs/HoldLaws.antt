-- The laws of critical names and locks, in the words of the promises that they keep. OpenMP API 5.2, sections 15.2 and 18.9.
use Rattle.std.specs.Prelude.{ℕ, ◌+◌, ◌-◌, ◌<◌, ◌≤◌, ◌≡◌, ◌&&◌, false, if◌then◌else◌, List, [], ◌∷◌}
use Rattle.gomp_types.specs.declared.task.Owner.{Owner}
use Rattle.gomp_types.specs.declared.key.Key.{Key}
use Rattle.gomp_types.specs.declared.key.Key.TheVariants.{Critical}
use Rattle.gomp_events.specs.declared.event.Event.{Event}
use Rattle.gomp_events.specs.declared.event.Event.TheVariants.{Hold, Free, Pass}
use Rattle.gomp_types.specs.Owners.{same_owner}
use Rattle.gomp_locks.specs.Holders.{same_key, is_nestable, owner_of}

-- how many open holds of it an owner has: it held it so often more than it freed it
abbrev pub holds_left : Owner → Key → List Event → ℕ
holds_left owner key [] = 0
holds_left owner key (Hold other m task ∷ earlier) =
    if same_key other key && same_owner (owner_of m task) owner then holds_left owner key earlier + 1 else holds_left owner key earlier
holds_left owner key (Free other m task ∷ earlier) =
    if same_key other key && same_owner (owner_of m task) owner then holds_left owner key earlier - 1 else holds_left owner key earlier
holds_left owner key (_ ∷ earlier) = holds_left owner key earlier

-- this holds now, and held after each event before
abbrev pub AtEachMoment : (List Event → Type 0) → List Event → Type 0
AtEachMoment Law [] = Law []
AtEachMoment Law (event ∷ earlier) = Law (event ∷ earlier) × AtEachMoment Law earlier

-- a critical name, a simple lock and a nestable lock have at most one owner: all open holds are its own
abbrev pub OneOwner : List Event → Type 0
OneOwner h = (key : Key) (one other : Owner) → 0 < holds_left one key h → 0 < holds_left other key h → one ≡ other

-- and a critical name and a simple lock are held at most once
abbrev pub HeldOnce : List Event → Type 0
HeldOnce h = (key : Key) (owner : Owner) → is_nestable key ≡ false → holds_left owner key h ≤ 1

-- each release is by the owner of an open hold
abbrev pub FreesItsOwn : Event → List Event → Type 0
FreesItsOwn (Free key m task) earlier = 0 < holds_left (owner_of m task) key earlier
FreesItsOwn _ earlier = Unit {0}

-- a member that passes a barrier holds no critical name, in any of its tasks
abbrev pub PassesFree : Event → List Event → Type 0
PassesFree (Pass barrier m) earlier = (name : List ℕ) (owner : Owner) → owner.member ≡ m → holds_left owner (Critical name) earlier ≡ 0
PassesFree _ earlier = Unit {0}
