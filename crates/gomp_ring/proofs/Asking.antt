-- When the member of a seat may claim by ticket, as its calls change that.
use Rattle.std.proofs.Common.{◌≡◌, ℕ, ◌+◌, ◌-◌, ◌≤◌, Bool, true, false, Option, Some, None, refl, ap, sym, ◌∙◌, arith}
use Rattle.std.specs.Prelude.{is_some, not, ◌&&◌}
use Rattle.gomp_types.specs.declared.shape.Shape.{Shape}
use Rattle.gomp_types.specs.Shapes.{is_static}
use Rattle.gomp_events.specs.Events.{in_kind}
use Rattle.gomp_events.specs.declared.seen.Seen.{Seen}
use Rattle.gomp_chunks.specs.Plans.{PlanView}
use Rattle.gomp_slots.specs.declared.view.View.{View}
use Rattle.gomp_ring.specs.RingSeats.{IsSeat, asks_by_ticket, IsChunkOf}

-- in an ordered part it may not
pub no_ticket_in_a_part : (current : Option (ℕ × Shape)) (drained : Bool) → false ≡ asks_by_ticket current drained true
no_ticket_in_a_part None drained = refl
no_ticket_in_a_part (Some share) true = refl
no_ticket_in_a_part (Some share) false = refl

-- nor of a static share
pub no_ticket_of_a_static_share : (current : Option (ℕ × Shape)) (drained in_part : Bool) → in_kind is_static current ≡ true → asks_by_ticket current drained in_part ≡ false
no_ticket_of_a_static_share None drained in_part static = refl
no_ticket_of_a_static_share (Some share) true in_part static = refl
no_ticket_of_a_static_share (Some share) false true static = refl
no_ticket_of_a_static_share (Some share) false false static = rw static refl

-- at the end of its part it may, but of a static share, unless it was answered that nothing is left
pub ticket_out_of_parts : (share : ℕ × Shape) (drained : Bool) → (not drained && not (is_static share.1.kind)) ≡ asks_by_ticket (Some share) drained false
ticket_out_of_parts share true = refl
ticket_out_of_parts share false = refl

-- and it may go on until it is answered so
pub ticket_until_drained : (current : Option (ℕ × Shape)) (drained in_part now : Bool) → asks_by_ticket current drained in_part ≡ true → not now ≡ asks_by_ticket current now in_part
ticket_until_drained None drained in_part now asks = absurd (cc)
ticket_until_drained (Some share) true in_part now asks = absurd (cc)
ticket_until_drained (Some share) false true now asks = absurd (cc)
ticket_until_drained (Some share) false false true asks = refl
ticket_until_drained (Some share) false false false asks = sym asks

-- who may is in the share that it entered last, which is not static and has this chunk, was not answered so, and is in no part
pub record HasTicket (entered chunk : ℕ) (current : Option (ℕ × Shape)) (drained in_part : Bool) : Type 0 where
  pub shape : Shape
  pub is : current ≡ Some (entered - 1, shape)
  pub some : 1 ≤ entered
  pub more : drained ≡ false
  pub apart : in_part ≡ false
  pub queue : is_static shape.kind ≡ false
  pub chunk_is : chunk ≡ shape.chunk

ticket_tells : (entered chunk : ℕ) (current : Option (ℕ × Shape)) (drained in_part : Bool) → ((share : ℕ × Shape) → current ≡ Some share → share.0 + 1 ≡ entered) → IsChunkOf current chunk → asks_by_ticket current drained in_part ≡ true → HasTicket entered chunk current drained in_part
ticket_tells entered chunk None drained in_part last of asks = absurd (cc)
ticket_tells entered chunk (Some share) true in_part last of asks = absurd (cc)
ticket_tells entered chunk (Some share) false true last of asks = absurd (cc)
ticket_tells entered chunk (Some share) false false last of asks = record {
  shape = share.1;
  is = ap (λ (i : ℕ). Some (i, share.1)) (let number = last share refl in omega arith);
  some = let number = last share refl in omega arith;
  more = refl;
  apart = refl;
  queue = off (is_static share.1.kind) asks;
  chunk_is = of share refl;
}
  where
    off : (b : Bool) → not b ≡ true → b ≡ false
    off true e = absurd (cc)
    off false e = refl

-- so it is of the member of a seat
pub seat_has_ticket : (members m chunk : ℕ) (asking : Bool) (seen : Seen) (plan : PlanView) (v : View) → IsSeat members m seen plan v → IsChunkOf seen.current chunk → asking ≡ asks_by_ticket seen.current seen.drained seen.in_part → asking ≡ true → HasTicket seen.entered chunk seen.current seen.drained seen.in_part
seat_has_ticket members m chunk asking seen plan v seat of kept asks = ticket_tells seen.entered chunk seen.current seen.drained seen.in_part seat.last of (sym kept ∙ asks)

-- who may claim, but not by ticket, is in a static share
pub static_without_ticket : (current : Option (ℕ × Shape)) (drained in_part : Bool) → is_some current ≡ true → drained ≡ false → in_part ≡ false → asks_by_ticket current drained in_part ≡ false → in_kind is_static current ≡ true
static_without_ticket None drained in_part inside more apart asks = absurd (cc)
static_without_ticket (Some share) true in_part inside more apart asks = absurd (cc)
static_without_ticket (Some share) false true inside more apart asks = absurd (cc)
static_without_ticket (Some share) false false inside more apart asks = on (is_static share.1.kind) asks
  where
    on : (b : Bool) → not b ≡ false → b ≡ true
    on true e = refl
    on false e = absurd (cc)
