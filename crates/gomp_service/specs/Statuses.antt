-- Which sizes a team may have, and the exit status after its replies. (own)
use Rattle.std.specs.Prelude.{ℕ, ◌&&◌, nat_le, if◌then◌else◌, Bool, true, false, List, [], ◌∷◌}
use Rattle.gomp_types.specs.declared.limits.TheConstants.{MAX_MEMBERS}
use Rattle.gomp_types.specs.declared.reply.Reply.{Reply}
use Rattle.gomp_types.specs.declared.reply.Reply.TheVariants.{Refused}
use Rattle.gomp_types.specs.declared.refusal.Refusal.TheVariants.{NoMemory}

-- whether a team may have this many members
abbrev pub is_size : ℕ → Bool
is_size count = nat_le 1 count && nat_le count MAX_MEMBERS

-- whether a reply is want of memory
abbrev pub lacks : Reply → Bool
lacks (Refused NoMemory) = true
lacks _ = false

-- the exit status after these replies: 3 if one of them is want of memory
abbrev pub status_of : List Reply → ℕ
status_of [] = 0
status_of (reply ∷ replies) = if lacks reply then 3 else status_of replies
