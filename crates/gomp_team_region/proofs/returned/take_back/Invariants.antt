use Rattle.std.proofs.Common.{◌≡◌, ◌+◌, ◌++◌, ◌≤◌, reverse, vec_len, vec_capacity}
use Rattle.gomp_team_region.specs.Regions.{tools_of, seats_of, events_parts, held_parts, freed_parts, counts_on, with_parts, with_book_parts}
use Rattle.gomp_team_region.proofs.returned.take_back.Given as goal

abbrev pub invariant-loop-member : goal.invariant-loop-member
invariant-loop-member g l =
    (with_parts l.rest (events_parts l.members.items) ≡ with_parts l.fn.rest (events_parts l.fn.members.items))
    × (with_book_parts l.share.held (held_parts l.members.items) ≡ with_book_parts l.fn.share.held (held_parts l.fn.members.items))
    × (with_book_parts l.share.freed (freed_parts l.members.items) ≡ with_book_parts l.fn.share.freed (freed_parts l.fn.members.items))
    × (l.room.tools.items ++ reverse (tools_of l.members.items) ≡ l.fn.room.tools.items ++ reverse (tools_of l.fn.members.items))
    × (l.room.counts.items ++ reverse (counts_on (events_parts l.members.items)) ≡ l.fn.room.counts.items ++ reverse (counts_on (events_parts l.fn.members.items)))
    × (l.room.seats.items ++ reverse (seats_of l.members.items) ≡ l.fn.room.seats.items ++ reverse (seats_of l.fn.members.items))
    × (l.room.taken.items ≡ l.fn.room.taken.items)
    × (vec_len l.room.tools + vec_len l.members ≤ vec_capacity l.room.tools)
    × (vec_len l.room.counts + vec_len l.members ≤ vec_capacity l.room.counts)
    × (vec_len l.room.seats + vec_len l.members ≤ vec_capacity l.room.seats)

abbrev pub decreases-loop-member : goal.decreases-loop-member
decreases-loop-member g l = vec_len l.members
