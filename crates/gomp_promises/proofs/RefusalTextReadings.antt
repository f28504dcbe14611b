-- How a refusal is printed, of every member, every place and every number.
use Rattle.std.proofs.Common.{◌≡◌, ◌≢◌, ℕ, ◌++◌, List, codes, refl}
use Rattle.std.specs.Fmt.{decimal}
use Rattle.gomp_types.specs.declared.refusal.Place.{Place}
use Rattle.gomp_types.specs.declared.refusal.Place.TheVariants.{Share, Barrier, Stopped}
use Rattle.gomp_types.specs.declared.refusal.Clash.{Clash}
use Rattle.gomp_types.specs.declared.refusal.Refusal.{Refusal}
use Rattle.gomp_types.specs.declared.refusal.Refusal.TheVariants as refusal
use Rattle.gomp_types.specs.RefusalTexts.{number_of, name_of, place_text, clash_text, text_of, Prints}

-- a place is printed with its own number, if it has one
pub each_place_is_printed : (number : ℕ) → (place_text (Share number) ≡ codes "share " ++ decimal number) × (place_text (Barrier number) ≡ codes "barrier " ++ decimal number) × (place_text Stopped ≡ codes "stopped")
each_place_is_printed number = (refl, refl, refl)

-- a clash by its own member and place
pub each_clash_is_printed : (clash : Clash) → clash_text clash ≡ decimal clash.member ++ codes " " ++ place_text clash.place
each_clash_is_printed clash = refl

pub each_clash_of_a_member_is_printed : (member : ℕ) (place : Place) → clash_text (record { member = member; place = place }) ≡ decimal member ++ codes " " ++ place_text place
each_clash_of_a_member_is_printed member place = refl

-- a team that broke is told with its clash
pub broken_team_is_printed_with_its_clash : (clash : Clash) → (number_of (refusal.Broken clash) ≡ 3) × (name_of (refusal.Broken clash) ≡ codes "Broken") × (text_of (refusal.Broken clash) ≡ codes "E3 Broken " ++ clash_text clash)
broken_team_is_printed_with_its_clash clash = (refl, refl, refl)

-- a bad variable by its number and name, whichever it is
pub bad_variable_is_printed_alike : (name : List ℕ) → (number_of (refusal.BadEnv name) ≡ 41) × (name_of (refusal.BadEnv name) ≡ codes "BadEnv")
bad_variable_is_printed_alike name = (refl, refl)

-- any other refusal by its number and its name alone
pub other_refusal_is_printed_by_its_number : (refused : Refusal) → ((clash : Clash) → refused ≢ refusal.Broken clash) → text_of refused ≡ codes "E" ++ decimal (number_of refused) ++ codes " " ++ name_of refused
other_refusal_is_printed_by_its_number (refusal.Broken clash) other = absurd (other clash refl)
other_refusal_is_printed_by_its_number _ other = refl

-- what is printed of a refusal is its number, its name and its text
pub refusal_prints_all_three : (refused : Refusal) → Prints refused (number_of refused) (name_of refused) (text_of refused)
refusal_prints_all_three refused = (refl, refl, refl)
