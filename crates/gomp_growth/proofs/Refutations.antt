-- What the definitions rule out, of any part, list and room. (own)
use Rattle.std.proofs.Common.{◌≡◌, ℕ, ◌+◌, ◌<◌, ◌≤◌, true, false, refl, arith}
use Rattle.std.specs.Prelude.{◌≢◌, ◌/◌, nat_le}
use Rattle.std.proofs.lemmas.Bool.Decides.{nat_tests}
use Rattle.gomp_growth.specs.Growth.{growth_of, room_made}

-- the growth is never below 64, nor below the part, and never past both
pub never_a_growth_below_64 : (part held : ℕ) → growth_of part held < 64 → ⊥
never_a_growth_below_64 part held less = absurd (omega (arith, less))

pub never_a_growth_below_its_part : (part held : ℕ) → growth_of part held < held / part → ⊥
never_a_growth_below_its_part part held less = absurd (omega (arith, less))

pub never_a_growth_past_both : (part held : ℕ) → 64 < growth_of part held → held / part < growth_of part held → ⊥
never_a_growth_past_both part held past_64 past_part = absurd (omega (arith, past_64, past_part))

-- room that is enough is never changed, and other room never made if there is less
pub never_other_room_if_enough : (more growth room : ℕ) → more ≤ room → room_made more growth room ≢ room → ⊥
never_other_room_if_enough more growth room enough changed = changed (let fits : nat_le more room ≡ true = grind (arith, nat_tests, enough) in rw fits refl)

pub never_other_room_if_short : (more growth room : ℕ) → room < more → room_made more growth room ≢ more + growth → ⊥
never_other_room_if_short more growth room short other = other (let past : nat_le more room ≡ false = grind (arith, nat_tests, short) in rw past refl)

-- so there is never less than is asked for
pub never_less_room_than_asked : (more growth room : ℕ) → room_made more growth room < more → ⊥
never_less_room_than_asked more growth room less = absurd (grind (arith, nat_tests, less))
