use Rattle.std.proofs.Common.{◌≡◌, ◌+◌, ◌++◌, ◌≤◌, ◌<◌, length, reverse, vec_len, vec_capacity}
use Rattle.gomp_team_region.specs.Regions.{AreNewMembers, AreSeatsFrom, tools_of, seats_of, events_parts, held_parts, freed_parts, with_parts, with_book_parts}
use Rattle.gomp_team_region.proofs.opening.open_members.Given as goal

abbrev pub invariant-loop-tool : goal.invariant-loop-tool
invariant-loop-tool g l =
    (AreNewMembers l.team.value.team 0 l.members.items) × (length l.members.items ≡ l.number)
    × (tools_of l.members.items ++ reverse l.tools.items ≡ reverse l.fn.tools.items)
    × (with_parts l.rest (events_parts l.members.items) ≡ l.fn.rest)
    × (with_book_parts l.share.held (held_parts l.members.items) ≡ l.fn.share.held)
    × (with_book_parts l.share.freed (freed_parts l.members.items) ≡ l.fn.share.freed)
    × (vec_len l.tools + l.number ≡ vec_len l.fn.tools) × (vec_len l.fn.tools ≤ vec_capacity l.members)
    × (vec_capacity l.tools ≡ vec_capacity l.fn.tools)
    × (vec_len l.tools < l.rest.parts) × (vec_len l.tools < l.share.held.parts) × (vec_len l.tools < l.share.freed.parts)
    × AreSeatsFrom l.team.value.ring l.number (reverse l.seats.items) × (length l.seats.items ≡ vec_len l.tools)
    × AreSeatsFrom l.team.value.ring 0 (seats_of l.members.items)

abbrev pub decreases-loop-tool : goal.decreases-loop-tool
decreases-loop-tool g l = vec_len l.tools
