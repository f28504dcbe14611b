-- What breaks a team, and what a broken team refuses, of every member, place and cause.
use Rattle.std.proofs.Common.{◌≡◌, ℕ, [], ◌∷◌, true, Some, None, refl, false, Option}
use Rattle.gomp_types.specs.declared.refusal.Clash.{Clash}
use Rattle.gomp_types.specs.declared.refusal.Place.{Place}
use Rattle.gomp_types.specs.declared.refusal.Refusal.{Refusal}
use Rattle.gomp_types.specs.declared.refusal.Refusal.TheVariants.{Broken, Mismatch}
use Rattle.gomp_types.proofs.LeastTests.{AllFail}
use Rattle.gomp_events.specs.declared.event.Event.TheVariants.{Break}
use Rattle.gomp_events.specs.Breaks.{broken_tests, refusal_gives}

-- a mismatch breaks the team there
pub mismatch_breaks : (m : ℕ) (place : Place) → refusal_gives Mismatch m place ≡ Break m place ∷ []
mismatch_breaks m place = refl

-- and no other refusal does
pub no_other_refusal_breaks : (refusal : Refusal) (m : ℕ) (place : Place) → (refusal ≡ Mismatch → ⊥) → refusal_gives refusal m place ≡ []
no_other_refusal_breaks Mismatch m place other = absurd (other refl)
no_other_refusal_breaks _ m place other = refl

-- a broken team names its cause, and one that is whole refuses nothing by this
pub broken_team_refuses : (clash : Clash) → (broken_tests (Some clash) ≡ (true, Broken clash) ∷ []) × (broken_tests None ≡ [])
broken_team_refuses clash = (refl, refl)

pub team_unbroken : (clash : Option Clash) → AllFail (broken_tests clash) → clash ≡ None
team_unbroken None fails = refl
team_unbroken (Some clash) fails = absurd (let broken : true ≡ false = fails.0 in cc)
