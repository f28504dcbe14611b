-- How far memory grows once there is too little. (own)
use Rattle.std.specs.Prelude.{ℕ, ◌+◌, ◌/◌, max, nat_le, if◌then◌else◌}

-- by how many places a list grows besides those that are asked for: by this part of those that it holds, and by 64 at least
abbrev pub growth_of : ℕ → ℕ → ℕ
growth_of part held = max (held / part) 64

-- for how many more there is room once it was asked for so many: if there was less, for these and for the growth besides
abbrev pub room_made : ℕ → ℕ → ℕ → ℕ
room_made more growth room = if nat_le more room then room else more + growth
