-- What a call of a seat asks is met by its parts, of any team, member, share, view and slots: none asks for more.
use Rattle.std.proofs.Common.{◌≡◌, ℕ, ◌<◌, true, false, List, [], slice_get, Some}
use Rattle.gomp_types.specs.declared.shape.Shape.{Shape}
use Rattle.gomp_types.specs.Shapes.{is_static}
use Rattle.gomp_types.specs.Pieces.{Piece, pieces_of}
use Rattle.gomp_events.specs.Events.{shares_entered, open_share, has_drained, last_piece, in_part}
use Rattle.gomp_events.specs.Tasks.{contains}
use Rattle.gomp_shares.specs.Only.{own_of}
use Rattle.gomp_slots.specs.declared.slots.Slots.{Slots}
use Rattle.gomp_slots.specs.declared.view.View.{View}
use Rattle.gomp_slots.specs.Rule.{stands_for}
use Rattle.gomp_slots.specs.Premises.{IsAbout, slots_members, IsInShare, IsBeforeShare, MayClaim, MayAssign, HasPieceNumber}
use Rattle.gomp_slots.specs.Seats.{second_alone, without_second, IsSecondOnce, IsApart}

-- a step is about a member and a share of the slots' team
pub step_is_about : (members m i : ℕ) (slots : Slots) (member share : ℕ) → share ≡ i → slots_members slots ≡ members → member ≡ m → IsAbout members m i slots member share
step_is_about members m i slots member share at size who = (at, size, who)

-- a member is in a share
pub member_is_in_share : (members m i : ℕ) (v : View) (shape : Shape) → m < members → stands_for v m ≡ true → open_share m v.did ≡ Some (i, shape) → IsInShare members m i v
member_is_in_share members m i v shape member stands inside = record { member = member; stands = stands; shape = shape; inside = inside }

-- or before its next one
pub member_is_before_share : (members m i : ℕ) (v : View) → m < members → stands_for v m ≡ true → shares_entered m v.did ≡ i → IsBeforeShare members m i v
member_is_before_share members m i v member stands next = record { member = member; stands = stands; next = next }

-- it may claim a piece of a share that is not static
pub member_may_claim : (members m i : ℕ) (v : View) (at : IsInShare members m i v) → is_static at.shape.kind ≡ false → has_drained m v.did ≡ false → in_part m v.did ≡ false → MayClaim members m i v
member_may_claim members m i v at queue more apart = record { at = at; queue = queue; more = more; apart = apart }

-- and take its next one of a static share
pub member_may_assign : (members m i : ℕ) (v : View) (at : IsInShare members m i v) → is_static at.shape.kind ≡ true → in_part m v.did ≡ false → MayAssign members m i v
member_may_assign members m i v at static apart = record { at = at; static = static; apart = apart }

-- the piece that it took last has a number
pub piece_has_a_number : (members m i number : ℕ) (v : View) (at : IsInShare members m i v) (piece : Piece) → last_piece m v.did ≡ Some piece → slice_get (pieces_of members at.shape) number ≡ Some piece → HasPieceNumber members m i number v
piece_has_a_number members m i number v at piece last is = record { at = at; piece = piece; last = last; number_is = is }

-- a seat may be split whose second member stands once
pub second_stands_once : (mine : List ℕ) → ((m : ℕ) → contains m (second_alone mine) ≡ true → contains m (without_second mine) ≡ false) → IsSecondOnce mine
second_stands_once mine once = once

-- and two may be joined that know nothing of each other's members
pub seats_are_apart : (v w : View) → ((m : ℕ) → stands_for w m ≡ true → own_of m v.did ≡ []) → ((m : ℕ) → stands_for v m ≡ true → own_of m w.did ≡ []) → IsApart v w
seats_are_apart v w left right = record { left = left; right = right }
