-- By how much memory grows, at both ends of each range. (own)
use Rattle.std.proofs.Common.{◌≡◌, [], ◌∷◌, refl}
use Rattle.std.specs.Prelude.{map}
use Rattle.gomp_growth.specs.Growth.{growth_of, room_made}

-- by 64 places, from 1,040 of them on by a sixteenth; by an eighth from 520 on
pub growth_at_both_ends : (map (growth_of 16) (0 ∷ 7 ∷ 1024 ∷ 1039 ∷ 1040 ∷ 16000 ∷ 1048575 ∷ 1048576 ∷ []) ≡ 64 ∷ 64 ∷ 64 ∷ 64 ∷ 65 ∷ 1000 ∷ 65535 ∷ 65536 ∷ []) × (map (growth_of 8) (0 ∷ 519 ∷ 520 ∷ 16000 ∷ []) ≡ 64 ∷ 64 ∷ 65 ∷ 2000 ∷ [])
growth_at_both_ends = (refl, refl)

-- room that is enough stays; if it is not, there is the growth more than is asked for
pub room_at_both_ends : (map (room_made 1 64) (0 ∷ 1 ∷ 2 ∷ 5000 ∷ []) ≡ 65 ∷ 1 ∷ 2 ∷ 5000 ∷ []) × (map (λ more. room_made more 125 9) (0 ∷ 9 ∷ 10 ∷ 4294967295 ∷ []) ≡ 9 ∷ 9 ∷ 135 ∷ 4294967420 ∷ [])
room_at_both_ends = (refl, refl)
