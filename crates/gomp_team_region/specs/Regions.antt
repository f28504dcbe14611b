-- The team of a region as it is forked: its members, and the parts of the ledgers that they have. (own; OpenMP API 5.2, section 10.1)
use Rattle.std.specs.Prelude.{ℕ, ◌≡◌, ◌+◌, List, [], ◌∷◌, map, sum_by}
use Rattle.gomp_icv.specs.Variables.{Variables}
use Rattle.gomp_member.specs.Own.{new_member}
use Rattle.gomp_ring.specs.declared.ring.Ring.{Ring}
use Rattle.gomp_ring.specs.Rings.{ring_table, ring_members}
use Rattle.gomp_ring.specs.RingSeats.{SeatView, fresh_view}
use Rattle.gomp_team.specs.Members.{TeamView, MemberView}
use Rattle.gomp_team_board.specs.declared.part.PartCounts.{PartCounts}
use Rattle.gomp_team_board.specs.Parts.{PartView, new_part}
use Rattle.gomp_team_book.specs.Parts.{BookPartView, new_book_part}

-- the team of a region: what no call changes of it, which ring has its work-shares, how many members it has, and what is left of the ledger of its events
pub record RegionView : Type 0 where
  pub team : TeamView
  pub ring : Ring
  pub size : ℕ
  pub rest : PartView

-- the seat of a member of a new team, on the ring of its work-shares: it has done nothing
abbrev pub IsNewSeat : Ring → ℕ → SeatView → Type 0
IsNewSeat ring m seat = seat ≡ fresh_view (ring_table ring) (ring_members ring) m (ring_members ring)

-- the seats of the members of a new team, from this number on
abbrev pub AreSeatsFrom : Ring → ℕ → List SeatView → Type 0
AreSeatsFrom ring m [] = Unit {0}
AreSeatsFrom ring m (seat ∷ seats) = IsNewSeat ring m seat × AreSeatsFrom ring (m + 1) seats

-- a member of a new team: nothing was asked of it, it has one part of each ledger, and its seat is new
pub record IsNewMember {T : Type 0} (team : TeamView) (m : ℕ) (member : MemberView T) : Type 0 where
  pub own : member.own ≡ new_member team.number m
  pub icv : member.icv ≡ team.icv
  pub seat : IsNewSeat member.ring m member.seat
  pub events : member.events ≡ new_part 1 0
  pub held : member.held ≡ new_book_part 1
  pub freed : member.freed ≡ new_book_part 1

-- the members of a new team, from this number on
abbrev pub AreNewMembers : {T : Type 0} → TeamView → ℕ → List (MemberView T) → Type 0
AreNewMembers team m [] = Unit {0}
AreNewMembers team m (member ∷ members) = IsNewMember team m member × AreNewMembers team (m + 1) members

-- a member has one part of each ledger, as a new one has
pub record HasOneOfEach {T : Type 0} (member : MemberView T) : Type 0 where
  pub events : member.events.parts ≡ 1
  pub held : member.held.parts ≡ 1
  pub freed : member.freed.parts ≡ 1

-- a new team of this number, with these control variables and this size, and what is left of the parts of its ledger once each member has one
pub record IsNewRegion (number : ℕ) (icv : Variables) (size parts : ℕ) (region : RegionView) : Type 0 where
  pub number_is : region.team.number ≡ number
  pub icv_is : region.team.icv ≡ icv
  pub size_is : region.size ≡ size
  pub left : region.rest.parts + size ≡ parts
  pub none : region.rest.amount ≡ 0

-- a part of which so many parts were given away, and nothing that was counted
pub record GivesParts (given : ℕ) (before after : BookPartView) : Type 0 where
  pub parts : after.parts + given ≡ before.parts
  pub amount : after.amount ≡ before.amount

-- What members have, in the order of their numbers

-- their tools
abbrev pub tools_of : {T : Type 0} → List (MemberView T) → List T
tools_of members = map (λ member. member.tool) members

-- their seats on the ring of the work-shares
abbrev pub seats_of : {T : Type 0} → List (MemberView T) → List SeatView
seats_of members = map (λ member. member.seat) members

-- their parts of the ledgers: of the team's events, of holds, and of releases
abbrev pub events_parts : {T : Type 0} → List (MemberView T) → List PartView
events_parts members = map (λ member. member.events) members

abbrev pub held_parts : {T : Type 0} → List (MemberView T) → List BookPartView
held_parts members = map (λ member. member.held) members

abbrev pub freed_parts : {T : Type 0} → List (MemberView T) → List BookPartView
freed_parts members = map (λ member. member.freed) members

-- the counts on these parts
abbrev pub counts_on : List PartView → List PartCounts
counts_on parts = map (λ part. part.counts) parts

-- a part that has taken in these: their parts and what was counted on them
abbrev pub with_parts : PartView → List PartView → PartView
with_parts part parts = record {
  parts = part.parts + sum_by (λ other. other.parts) parts;
  amount = part.amount + sum_by (λ other. other.amount) parts;
  counts = part.counts;
}

-- the same of the book's ledgers
abbrev pub with_book_parts : BookPartView → List BookPartView → BookPartView
with_book_parts part parts = record {
  parts = part.parts + sum_by (λ other. other.parts) parts;
  amount = part.amount + sum_by (λ other. other.amount) parts;
}
