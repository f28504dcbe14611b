-- Worked examples, computed: the room of each start, the part after it, an arrival, and what refuses one by its place.
use Rattle.std.proofs.Common.{◌≡◌, ℕ, true, false, List, [], ◌∷◌, Some, None, refl}
use Rattle.std.specs.Prelude.{map, replicate}
use Rattle.gomp_types.specs.declared.loop_desc.EndKind.TheVariants.{Wait as WaitEnd, Nowait, Cancellable}
use Rattle.gomp_types.specs.declared.refusal.Refusal.TheVariants.{BadMember, InsideShare, Mismatch, NoMemory}
use Rattle.gomp_types.specs.declared.reply.Reply.{Reply}
use Rattle.gomp_types.specs.declared.reply.Reply.TheVariants.{Finished, Wait, Cancelled, Executor, Copied, Refused}
use Rattle.gomp_types.specs.Least.{least}
use Rattle.gomp_events.specs.declared.event.Arrival.{Arrival}
use Rattle.gomp_events.specs.declared.event.Arrival.TheVariants.{Barrier, ShareEnd, RegionEnd}
use Rattle.gomp_events.specs.Seen.{seen_of}
use Rattle.gomp_events.specs.Tags.{tag_with}
use Rattle.gomp_board.specs.declared.op.Op.TheVariants.{Arrive, Reserve}
use Rattle.gomp_shares.specs.Examples.{events_of, ten, took_one}
use Rattle.gomp_team_board.specs.Parts.{PartView}
use Rattle.gomp_team_shares.specs.declared.start.ShareStart.{ShareStart}
use Rattle.gomp_team_shares.specs.declared.start.ShareStart.TheVariants.{Loop, Sections, Single, SingleCopy}
use Rattle.gomp_team_calls.specs.Arrivals.{arrival_with, arrival_place_tests}
use Rattle.gomp_team_calls.specs.Starts.{start_room, back_room, reserve_op, start_part}

-- Room

-- each construct by each kind of its end
abbrev pub starts_of_each_end : List ShareStart
starts_of_each_end =
    Loop ten ∷ Loop (record ten { end_kind = Cancellable }) ∷ Loop (record ten { end_kind = Nowait })
    ∷ Sections 0 WaitEnd ∷ Sections 65536 Cancellable ∷ Sections 65536 Nowait ∷ Single ∷ SingleCopy ∷ []

-- two events at a barrier, one with words, and none without both
pub room_of_each_start : map start_room starts_of_each_end ≡ 2 ∷ 2 ∷ 0 ∷ 2 ∷ 2 ∷ 0 ∷ 0 ∷ 1 ∷ []
room_of_each_start = refl

-- a first start asks for that
pub first_starts_ask : map (λ (start : ShareStart). reserve_op start false) starts_of_each_end ≡
    Reserve 2 ∷ Reserve 2 ∷ Reserve 0 ∷ Reserve 2 ∷ Reserve 2 ∷ Reserve 0 ∷ Reserve 0 ∷ Reserve 1 ∷ []
first_starts_ask = refl

-- a start that goes on gives back what it asked for, if it differs; a first start has asked for nothing yet
pub room_that_goes_back : (map (λ (start : ShareStart). back_room start true) starts_of_each_end ≡ 2 ∷ 2 ∷ 0 ∷ 2 ∷ 2 ∷ 0 ∷ 0 ∷ 1 ∷ []) × (map (λ (start : ShareStart). back_room start false) starts_of_each_end ≡ replicate 8 0)
room_that_goes_back = (refl, refl)

-- one that goes on asks for nothing
pub repeated_starts_ask_nothing : map (λ (start : ShareStart). reserve_op start true) starts_of_each_end ≡
    Reserve 0 ∷ Reserve 0 ∷ Reserve 0 ∷ Reserve 0 ∷ Reserve 0 ∷ Reserve 0 ∷ Reserve 0 ∷ Reserve 0 ∷ []
repeated_starts_ask_nothing = refl

-- Parts

-- a part of so many events, with counts
abbrev pub part_of_events : ℕ → PartView
part_of_events amount = record { parts = 3; amount = amount; counts = record { creates = 1; passes = 2; starts = 1 } }

-- words are one event, and so is the break of a mismatch; no other reply is any
pub parts_after_replies : map (λ (reply : Reply). start_part reply (part_of_events 7))
    (Copied (5 ∷ []) ∷ Refused Mismatch ∷ Refused BadMember ∷ Refused NoMemory ∷ Executor true ∷ Wait ∷ Cancelled ∷ Finished ∷ []) ≡
    part_of_events 8 ∷ part_of_events 8 ∷ part_of_events 7 ∷ part_of_events 7 ∷ part_of_events 7 ∷ part_of_events 7 ∷ part_of_events 7 ∷ part_of_events 7 ∷ []
parts_after_replies = refl

-- also of no words and of a part with nothing on it, and of one with very many events
pub parts_at_both_ends :
    (start_part (Copied []) (record { parts = 1; amount = 0; counts = record { creates = 0; passes = 0; starts = 0 } })
    ≡ record { parts = 1; amount = 1; counts = record { creates = 0; passes = 0; starts = 0 } })
    × (start_part (Refused Mismatch) (part_of_events 18446744073709551614) ≡ part_of_events 18446744073709551615)
parts_at_both_ends = (refl, refl)

-- Arrivals

abbrev pub each_arrival : List Arrival
each_arrival = Barrier ∷ ShareEnd ∷ RegionEnd ∷ []

-- of each kind, by a member that leaves the region
pub arrivals_of_each_kind : map (λ (kind : Arrival). arrival_with kind true 1) each_arrival ≡
    Arrive (tag_with Barrier 1) true ∷ Arrive (tag_with ShareEnd 1) true ∷ Arrive (tag_with RegionEnd 1) true ∷ []
arrivals_of_each_kind = refl

-- by one that has entered none, and as many as a member can enter
pub arrivals_at_both_ends :
    (arrival_with RegionEnd false 0 ≡ Arrive (tag_with RegionEnd 0) false)
    × (arrival_with RegionEnd true 281474976710656 ≡ Arrive (tag_with RegionEnd 281474976710656) true)
arrivals_at_both_ends = (refl, refl)

-- in a loop a member arrives nowhere, unless it leaves the region and is at its end
pub places_inside :
    (map (λ (kind : Arrival). least (arrival_place_tests kind false (seen_of 0 (events_of 2 took_one)))) each_arrival ≡ Some InsideShare ∷ Some InsideShare ∷ Some InsideShare ∷ [])
    × (map (λ (kind : Arrival). least (arrival_place_tests kind true (seen_of 0 (events_of 2 took_one)))) each_arrival ≡ Some InsideShare ∷ Some InsideShare ∷ None ∷ [])
places_inside = (refl, refl)

-- outside of every share, at each: before any event, and beside a member in a loop
pub places_outside :
    (map (λ (kind : Arrival). least (arrival_place_tests kind false (seen_of 0 []))) each_arrival ≡ None ∷ None ∷ None ∷ [])
    × (map (λ (kind : Arrival). least (arrival_place_tests kind true (seen_of 1 (events_of 2 took_one)))) each_arrival ≡ None ∷ None ∷ None ∷ [])
places_outside = (refl, refl)
