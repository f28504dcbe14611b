-- What refuses everything in a broken team, and what breaks one. (own)
use Rattle.std.specs.Prelude.{ℕ, true, List, [], ◌∷◌, Option, Some, None}
use Rattle.gomp_types.specs.declared.refusal.Clash.{Clash}
use Rattle.gomp_types.specs.declared.refusal.Place.{Place}
use Rattle.gomp_types.specs.declared.refusal.Refusal.{Refusal}
use Rattle.gomp_types.specs.declared.refusal.Refusal.TheVariants.{Broken, Mismatch}
use Rattle.gomp_types.specs.Tests.{Test}
use Rattle.gomp_events.specs.declared.event.Event.{Event}
use Rattle.gomp_events.specs.declared.event.Event.TheVariants.{Break}

-- a broken team refuses every call, and says by what it broke
abbrev pub broken_tests : Option Clash → List Test
broken_tests None = []
broken_tests (Some clash) = (true, Broken clash) ∷ []

-- a mismatch breaks the team, no other refusal changes anything
abbrev pub refusal_gives : Refusal → ℕ → Place → List Event
refusal_gives Mismatch m place = Break m place ∷ []
refusal_gives _ m place = []
