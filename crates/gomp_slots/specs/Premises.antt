-- What a call of a seat asks. (own)
use Rattle.std.specs.Prelude.{◌≡◌, ℕ, ◌<◌, true, false, slice_get, Some}
use Rattle.atomic_table.specs.declared.shared.Seat.{Seat}
use Rattle.atomic_table.specs.Seated.{TableId}
use Rattle.gomp_types.specs.declared.shape.Shape.{Shape}
use Rattle.gomp_types.specs.Shapes.{is_static}
use Rattle.gomp_types.specs.Pieces.{Piece, pieces_of}
use Rattle.gomp_events.specs.Events.{shares_entered, open_share, has_drained, last_piece, in_part}
use Rattle.gomp_slots.specs.declared.slots.Slots.{Slots}
use Rattle.gomp_slots.specs.declared.view.View.{View}
use Rattle.gomp_slots.specs.Rule.{stands_for}

-- The slots and their seats

-- which slots they are
abbrev pub slots_table : Slots → TableId
slots_table slots = slots.table.shared.table_id

-- how many members they are for
abbrev pub slots_members : Slots → ℕ
slots_members slots = slots.table.shared.key.members

-- the seat is one of the slots
abbrev pub IsSeatOf : Slots → Seat Shape View → Type 0
IsSeatOf slots seat = seat.table_id ≡ slots_table slots

-- after a step it is one of the same slots, and holds what it held
abbrev pub IsSameSeat : Seat Shape View → Seat Shape View → Type 0
IsSameSeat before now = (now.table_id ≡ before.table_id) × (now.me.1 ≡ before.me.1)

-- a step that is about the member m and the share i of a team of so many members is that of these slots, this share and member
abbrev pub IsAbout : ℕ → ℕ → ℕ → Slots → ℕ → ℕ → Type 0
IsAbout members m i slots member share = (share ≡ i) × (slots_members slots ≡ members) × (member ≡ m)

-- The member

-- the seat acts for the member, which is in the share i
pub record IsInShare (members m i : ℕ) (v : View) : Type 0 where
  pub member : m < members
  pub stands : stands_for v m ≡ true
  pub shape : Shape
  pub inside : open_share m v.did ≡ Some (i, shape)

-- the seat acts for the member, whose next share is i
pub record IsBeforeShare (members m i : ℕ) (v : View) : Type 0 where
  pub member : m < members
  pub stands : stands_for v m ≡ true
  pub next : shares_entered m v.did ≡ i

-- it may claim a piece of the share that it is in, which is not static: it was not answered that none is left, and is in no ordered part
pub record MayClaim (members m i : ℕ) (v : View) : Type 0 where
  pub at : IsInShare members m i v
  pub queue : is_static at.shape.kind ≡ false
  pub more : has_drained m v.did ≡ false
  pub apart : in_part m v.did ≡ false

-- it may take its next piece of a static share
pub record MayAssign (members m i : ℕ) (v : View) : Type 0 where
  pub at : IsInShare members m i v
  pub static : is_static at.shape.kind ≡ true
  pub apart : in_part m v.did ≡ false

-- the piece that it took last of its share has this number
pub record HasPieceNumber (members m i number : ℕ) (v : View) : Type 0 where
  pub at : IsInShare members m i v
  pub piece : Piece
  pub last : last_piece m v.did ≡ Some piece
  pub number_is : slice_get (pieces_of members at.shape) number ≡ Some piece

-- Opening

-- the seat opens the share i, of this shape, and so many of its words stand
abbrev pub IsStoring : ℕ → Shape → ℕ → View → Type 0
IsStoring i shape count v = (v.opening ≡ Some shape) × (v.share ≡ i) × (v.stored ≡ count)
