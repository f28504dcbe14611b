-- What the history of a region has of its members, if it is handed out. (own; OpenMP API 5.2, section 10.1)
use Rattle.std.specs.Prelude.{ℕ, ◌≡◌, ◌+◌, ◌==◌, ◌&&◌, nat_le, Bool, true, false, List, [], ◌∷◌, Option, Some, None, codes, length, reverse}
use Rattle.gomp_types.specs.declared.cancel.Scope.TheVariants.{Region}
use Rattle.gomp_types.specs.declared.refusal.Clash.{Clash}
use Rattle.gomp_types.specs.declared.refusal.Refusal.TheVariants as refusals
use Rattle.gomp_types.specs.RefusalTexts.{text_of}
use Rattle.gomp_events.specs.declared.event.Event.{Event}
use Rattle.gomp_events.specs.declared.event.Event.TheVariants.{Arrive, Cancel}
use Rattle.gomp_events.specs.Cancels.{is_cancelled, same_scope}
use Rattle.gomp_events.specs.Events.{clash_of, has_left_region, is_region_end}
use Rattle.gomp_ring.specs.declared.ring.Ring.{Ring}
use Rattle.gomp_ring.specs.Rings.{ring_members}
use Rattle.gomp_ring.specs.RingSeats.{SeatView, Gathers}
use Rattle.gomp_team.specs.Members.{MemberView}
use Rattle.gomp_team_region.specs.Regions.{counts_on, events_parts, seats_of, with_parts}
use Rattle.gomp_team_board.specs.declared.part.PartCounts.{PartCounts}
use Rattle.gomp_team_board.specs.Counts.{counted_events}
use Rattle.gomp_team_board.specs.Locked.{KeptLaws}
use Rattle.gomp_team_board.specs.Parts.{PartView, counts_in}
use Rattle.gomp_team_region.specs.declared.settle.SettleError.{SettleError}
use Rattle.gomp_team_region.specs.declared.settle.SettleError.TheVariants.{Broken, Unsettled}

-- the member arrives at the region's end by the event
abbrev pub comes_to_end : ℕ → Event → Bool
comes_to_end m (Arrive barrier member tag) = member == m && is_region_end tag.kind
comes_to_end m event = false

-- In histories with the oldest event first

-- the member has passed the region's end, and created tasks, passed barriers and started tasks as often as it was answered
pub record HasReturned (m : ℕ) (counts : PartCounts) (history : List Event) : Type 0 where
  pub left : has_left_region m (reverse history) ≡ true
  pub counts_are : counts_in m history ≡ counts

-- the event cancels the region
abbrev pub cancels_region : Event → Bool
cancels_region (Cancel member scope) = same_scope scope Region
cancels_region event = false

-- an arrival comes after at most so many started work-shares
abbrev pub arrives_within : ℕ → Event → Bool
arrives_within shares (Arrive barrier member tag) = nat_le tag.shares shares
arrives_within shares event = true

-- so does each of these
abbrev pub all_arrive_within : ℕ → List Event → Bool
all_arrive_within shares [] = true
all_arrive_within shares (event ∷ events) = arrives_within shares event && all_arrive_within shares events

-- of so many shares that all members have left: unless the region was cancelled, they are all that an arrival counts
abbrev pub LeftShares : ℕ → List Event → Type 0
LeftShares shares history = is_cancelled (reverse history) ≡ false → all_arrive_within shares history ≡ true

-- so have the members from this number on, with these counts
abbrev pub HaveReturned : ℕ → List PartCounts → List Event → Type 0
HaveReturned m [] history = Unit {0}
HaveReturned m (counts ∷ others) history = HasReturned m counts history × HaveReturned (m + 1) others history

-- the history of a team of so many members that have returned with these counts: nobody broke the team
pub record IsSettled (members : ℕ) (counts : List PartCounts) (history : List Event) : Type 0 where
  pub unbroken : clash_of (reverse history) ≡ None
  pub size : members ≡ length counts
  pub returned : HaveReturned 0 counts history

-- a settled history, which keeps the laws of tasks, groups, barriers, cancellation and words
pub record IsHistory (counts : List PartCounts) (history : List Event) : Type 0 where
  pub settled : IsSettled (length counts) counts history
  pub laws : KeptLaws (length counts) (reverse history)

-- on the part are as many events as are stored in the history, discards aside
abbrev pub IsCounted : PartView → List Event → Type 0
IsCounted part history = part.amount ≡ counted_events history

-- a ledger comes back, if one does, with all of its parts
abbrev pub ComesBack : ℕ → Option ℕ → Type 0
ComesBack parts None = Unit {0}
ComesBack parts (Some ledger) = ledger ≡ parts

-- why a history is not handed out, by the first cause by which the team broke, if it did
abbrev pub settle_error : Option Clash → SettleError
settle_error (Some clash) = Broken clash
settle_error None = Unsettled

-- why the members of a team, with these seats on a ring of so many, these counts, and on their parts of the ledger what is on this one, have done nothing that is handed out: some history of a team, which keeps its laws, and has as many events as there, discards aside, is not settled with these counts, or an arrival in it counts a share that not all have left; and the error is told by it
pub record HasNotSettled (members : ℕ) (seats : List SeatView) (counts : List PartCounts) (whole : PartView) (error : SettleError) : Type 0 where
  pub size : ℕ
  pub history : List Event
  pub laws : KeptLaws size (reverse history)
  pub counted : IsCounted whole history
  pub shares : ℕ
  pub taken : List ℕ
  pub gathered : Gathers members seats shares taken
  pub cause : IsSettled size counts history → LeftShares shares history → ⊥
  pub error_is : error ≡ settle_error (clash_of (reverse history))

-- so these members, in a team of this ring that had this left of its ledger
abbrev pub MembersNotSettled : {T : Type 0} → Ring → PartView → List (MemberView T) → SettleError → Type 0
MembersNotSettled ring rest members error = HasNotSettled (ring_members ring) (seats_of members) (counts_on (events_parts members)) (with_parts rest (events_parts members)) error

-- how it prints: as the refusal of a broken team, or by its own number and name
abbrev pub error_text : SettleError → List ℕ
error_text (Broken clash) = text_of (refusals.Broken clash)
error_text Unsettled = codes "E42 Unsettled"
