-- How much room there is once it was asked for.
use Rattle.std.proofs.Common.{◌≡◌, ℕ, ◌+◌, ◌-◌, ◌<◌, ◌≤◌, false, refl, arith}
use Rattle.std.specs.Prelude.{max, min, nat_le}
use Rattle.std.proofs.lemmas.Bool.Decides.{nat_tests}
use Rattle.gomp_growth.specs.Growth.{growth_of, room_made}

-- more is asked for than there is room for
room_once_reserved : (more step room : ℕ) → room < more → room_made more step room ≡ more + step
room_once_reserved more step room lt = let short : nat_le more room ≡ false = grind (arith, nat_tests, lt) in rw short refl

pub room_after_reserve : (more count room capacity larger listed most step asked top : ℕ) → count ≤ capacity → room ≡ capacity - count → room < more → listed ≤ count → most ≡ max count more → step ≡ growth_of 16 most → asked ≡ min (more + (count - listed + step)) top → larger < top →
    larger ≡ max capacity (listed + asked) → larger - count ≡ room_made more (growth_of 16 (max count more)) room
room_after_reserve more count room capacity larger listed most step asked top within is short fewer larger_of steps ask small exact = rw (room_once_reserved more (growth_of 16 (max count more)) room short, ← larger_of) (omega (arith, within, is, short, fewer, steps, ask, small, exact))
