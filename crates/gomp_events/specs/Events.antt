-- What a list of events says. The newest event stands first.
use Rattle.std.specs.Prelude.{ℕ, ◌+◌, ◌-◌, ◌==◌, ◌&&◌, ◌||◌, nat_lt, Bool, true, false, if◌then◌else◌, List, [], ◌∷◌, Option, Some, None, is_some}
use Rattle.gomp_types.specs.declared.shape.Shape.{Shape}
use Rattle.gomp_types.specs.declared.shape.ShareKind.{ShareKind}
use Rattle.gomp_types.specs.declared.refusal.Clash.{Clash}
use Rattle.gomp_types.specs.declared.limits.TheConstants.{OPEN_SHARES}
use Rattle.gomp_events.specs.declared.event.Arrival.{Arrival}
use Rattle.gomp_events.specs.declared.event.Arrival.TheVariants.{RegionEnd}
use Rattle.gomp_events.specs.declared.event.Tag.{Tag}
use Rattle.gomp_events.specs.declared.event.Event.{Event}
use Rattle.gomp_events.specs.declared.event.Event.TheVariants.{Enter, Take, Drained, End, HandOn, Part, PartEnd, Put, Got, Arrive, Pass, Hold, Free, Create, Start, Done, Group, GroupEnd, Waited, Cancel, Discard, See, Break}
use Rattle.gomp_types.specs.Members.{every_member}
use Rattle.gomp_types.specs.Pieces.{has_iteration}

-- whose event it is
abbrev pub member_of : Event → ℕ
member_of (Enter share m shape) = m
member_of (Take share m low high) = m
member_of (Drained share m) = m
member_of (End share m) = m
member_of (HandOn share m piece) = m
member_of (Part share m iteration) = m
member_of (PartEnd share m) = m
member_of (Put share m payload) = m
member_of (Got share m payload) = m
member_of (Arrive barrier m tag) = m
member_of (Pass barrier m) = m
member_of (Hold key m task) = m
member_of (Free key m task) = m
member_of (Create task m parent desc) = m
member_of (Start task m) = m
member_of (Done task m) = m
member_of (Group group m) = m
member_of (GroupEnd group m) = m
member_of (Waited m deps) = m
member_of (Cancel m scope) = m
member_of (Discard task m) = m
member_of (See m kind) = m
member_of (Break m place) = m

-- Work-shares (OpenMP API 5.2, chapter 11)

-- how many shares the member has entered
abbrev pub shares_entered : ℕ → List Event → ℕ
shares_entered m [] = 0
shares_entered m (Enter share member shape ∷ earlier) = if member == m then shares_entered m earlier + 1 else shares_entered m earlier
shares_entered m (_ ∷ earlier) = shares_entered m earlier

-- the share that the member is in, by number and shape: it has entered it and not left it
abbrev pub open_share : ℕ → List Event → Option (ℕ × Shape)
open_share m [] = None
open_share m (Enter share member shape ∷ earlier) = if member == m then Some (share, shape) else open_share m earlier
open_share m (End share member ∷ earlier) = if member == m then None else open_share m earlier
open_share m (_ ∷ earlier) = open_share m earlier

-- whether the member is in a share
abbrev pub is_inside : ℕ → List Event → Bool
is_inside m h = is_some (open_share m h)

-- the number of a share; 0 if there is none
abbrev pub share_number : Option (ℕ × Shape) → ℕ
share_number None = 0
share_number (Some share) = share.0

-- the number of the share that the member is in; 0 if it is in none
abbrev pub open_number : ℕ → List Event → ℕ
open_number m h = share_number (open_share m h)

-- whether nothing is left for the member of the share that it entered last, and it was answered so
abbrev pub has_drained : ℕ → List Event → Bool
has_drained m [] = false
has_drained m (Enter share member shape ∷ earlier) = if member == m then false else has_drained m earlier
has_drained m (Drained share member ∷ earlier) = if member == m then true else has_drained m earlier
has_drained m (_ ∷ earlier) = has_drained m earlier

-- the piece that the member took last of the share that it entered last; none once it was answered that nothing is left
abbrev pub last_piece : ℕ → List Event → Option (ℕ × ℕ)
last_piece m [] = None
last_piece m (Enter share member shape ∷ earlier) = if member == m then None else last_piece m earlier
last_piece m (Take share member low high ∷ earlier) = if member == m then Some (low, high) else last_piece m earlier
last_piece m (Drained share member ∷ earlier) = if member == m then None else last_piece m earlier
last_piece m (_ ∷ earlier) = last_piece m earlier

-- whether a member's share is of such a kind
abbrev pub in_kind : (ShareKind → Bool) → Option (ℕ × Shape) → Bool
in_kind is None = false
in_kind is (Some share) = is share.1.kind

-- what the share is, by those that entered it
abbrev pub shape_at : ℕ → List Event → Option Shape
shape_at share [] = None
shape_at share (Enter i member shape ∷ earlier) = if i == share then Some shape else shape_at share earlier
shape_at share (_ ∷ earlier) = shape_at share earlier

-- whether the member has left the share
abbrev pub has_ended : ℕ → ℕ → List Event → Bool
has_ended share m [] = false
has_ended share m (End i member ∷ earlier) = (i == share && member == m) || has_ended share m earlier
has_ended share m (_ ∷ earlier) = has_ended share m earlier

-- whether every member has left the share
abbrev pub is_over : ℕ → ℕ → List Event → Bool
is_over members share h = every_member members (λ m. has_ended share m h)

-- whether the share can be opened: the one `OPEN_SHARES` before it, if there is one, is over (own)
abbrev pub has_room : ℕ → ℕ → List Event → Bool
has_room members share h = nat_lt share OPEN_SHARES || is_over members (share - OPEN_SHARES) h

-- how many of the share's takes have the iteration
abbrev pub times_taken : ℕ → ℕ → List Event → ℕ
times_taken share k [] = 0
times_taken share k (Take i member low high ∷ earlier) =
    if i == share && has_iteration k low high then times_taken share k earlier + 1 else times_taken share k earlier
times_taken share k (_ ∷ earlier) = times_taken share k earlier

-- Ordered parts (OpenMP API 5.2, section 15.10.2)

-- how many pieces of the share were handed on; so it is the number of the piece whose ordered parts are next
abbrev pub turn : ℕ → List Event → ℕ
turn share [] = 0
turn share (HandOn i member piece ∷ earlier) = if i == share then turn share earlier + 1 else turn share earlier
turn share (_ ∷ earlier) = turn share earlier

-- whether the member holds a piece: it took one of the share that it entered last, and has handed none on since
abbrev pub holds_piece : ℕ → List Event → Bool
holds_piece m [] = false
holds_piece m (Enter share member shape ∷ earlier) = if member == m then false else holds_piece m earlier
holds_piece m (Take share member low high ∷ earlier) = if member == m then true else holds_piece m earlier
holds_piece m (HandOn share member piece ∷ earlier) = if member == m then false else holds_piece m earlier
holds_piece m (_ ∷ earlier) = holds_piece m earlier

-- the iteration after that of the member's last ordered part, in the share that it entered last; 0 before its first
abbrev pub next_part : ℕ → List Event → ℕ
next_part m [] = 0
next_part m (Enter share member shape ∷ earlier) = if member == m then 0 else next_part m earlier
next_part m (Part share member iteration ∷ earlier) = if member == m then iteration + 1 else next_part m earlier
next_part m (_ ∷ earlier) = next_part m earlier

-- whether the member is in an ordered part
abbrev pub in_part : ℕ → List Event → Bool
in_part m [] = false
in_part m (Enter share member shape ∷ earlier) = if member == m then false else in_part m earlier
in_part m (Part share member iteration ∷ earlier) = if member == m then true else in_part m earlier
in_part m (PartEnd share member ∷ earlier) = if member == m then false else in_part m earlier
in_part m (_ ∷ earlier) = in_part m earlier

-- the member whose ordered part of the share is open, if one is
abbrev pub open_part : ℕ → List Event → Option ℕ
open_part share [] = None
open_part share (Part i member iteration ∷ earlier) = if i == share then Some member else open_part share earlier
open_part share (PartEnd i member ∷ earlier) = if i == share then None else open_part share earlier
open_part share (_ ∷ earlier) = open_part share earlier

-- Payloads (OpenMP API 5.2, section 5.7.2)

-- the words that the executor of the share put, once it has
abbrev pub payload_at : ℕ → List Event → Option (List ℕ)
payload_at share [] = None
payload_at share (Put i member payload ∷ earlier) = if i == share then Some payload else payload_at share earlier
payload_at share (_ ∷ earlier) = payload_at share earlier

-- whether the member has taken a piece of the share
abbrev pub has_piece : ℕ → ℕ → List Event → Bool
has_piece share m [] = false
has_piece share m (Take i member low high ∷ earlier) = (i == share && member == m) || has_piece share m earlier
has_piece share m (_ ∷ earlier) = has_piece share m earlier

-- whether the member has put the words of the share, or was given them
abbrev pub has_words : ℕ → ℕ → List Event → Bool
has_words share m [] = false
has_words share m (Put i member payload ∷ earlier) = (i == share && member == m) || has_words share m earlier
has_words share m (Got i member payload ∷ earlier) = (i == share && member == m) || has_words share m earlier
has_words share m (_ ∷ earlier) = has_words share m earlier

-- Barriers (OpenMP API 5.2, section 15.3)

-- how many barriers the member has passed; so it is the number of the next one
abbrev pub barriers_passed : ℕ → List Event → ℕ
barriers_passed m [] = 0
barriers_passed m (Pass barrier member ∷ earlier) = if member == m then barriers_passed m earlier + 1 else barriers_passed m earlier
barriers_passed m (_ ∷ earlier) = barriers_passed m earlier

-- with which tag the member arrived at the barrier
abbrev pub arrival : ℕ → ℕ → List Event → Option Tag
arrival barrier m [] = None
arrival barrier m (Arrive g member tag ∷ earlier) = if g == barrier && member == m then Some tag else arrival barrier m earlier
arrival barrier m (_ ∷ earlier) = arrival barrier m earlier

-- with which tag anyone arrived at the barrier
abbrev pub tag_at : ℕ → List Event → Option Tag
tag_at barrier [] = None
tag_at barrier (Arrive g member tag ∷ earlier) = if g == barrier then Some tag else tag_at barrier earlier
tag_at barrier (_ ∷ earlier) = tag_at barrier earlier

-- whether every member has arrived at the barrier
abbrev pub all_arrived : ℕ → ℕ → List Event → Bool
all_arrived members barrier h = every_member members (λ m. is_some (arrival barrier m h))

-- whether the member waits at a barrier: it has arrived there and not passed it
abbrev pub at_barrier : ℕ → List Event → Bool
at_barrier m [] = false
at_barrier m (Arrive barrier member tag ∷ earlier) = if member == m then true else at_barrier m earlier
at_barrier m (Pass barrier member ∷ earlier) = if member == m then false else at_barrier m earlier
at_barrier m (_ ∷ earlier) = at_barrier m earlier

-- whether an arrival was at the region's end
abbrev pub is_region_end : Arrival → Bool
is_region_end RegionEnd = true
is_region_end _ = false

-- whether the tag is one of the region's end; without a tag it is not
abbrev pub was_region_end : Option Tag → Bool
was_region_end None = false
was_region_end (Some tag) = is_region_end tag.kind

-- whether the member has arrived at the region's end
abbrev pub at_region_end : ℕ → List Event → Bool
at_region_end m [] = false
at_region_end m (Arrive barrier member tag ∷ earlier) = (member == m && is_region_end tag.kind) || at_region_end m earlier
at_region_end m (_ ∷ earlier) = at_region_end m earlier

-- whether the member has passed the region's end: once it has arrived there it passes nothing else
abbrev pub has_left_region : ℕ → List Event → Bool
has_left_region m [] = false
has_left_region m (Pass barrier member ∷ earlier) = (member == m && at_region_end m earlier) || has_left_region m earlier
has_left_region m (_ ∷ earlier) = has_left_region m earlier

-- of two causes the earlier one
abbrev pub first_clash : Clash → Option Clash → Clash
first_clash clash None = clash
first_clash clash (Some first) = first

-- the first cause by which the team broke
abbrev pub clash_of : List Event → Option Clash
clash_of [] = None
clash_of (Break member place ∷ earlier) = Some (first_clash (record { member = member; place = place }) (clash_of earlier))
clash_of (_ ∷ earlier) = clash_of earlier
