-- When a member may claim its next chunk with no other test, and what its answer of two numbers says.
use Rattle.std.proofs.Common.{◌≡◌, ℕ, ℤ, ◌<◌, true, false, Some, refl}
use Rattle.std.specs.Prelude.{◌&&◌, nat_lt, not}
use Rattle.std.proofs.lemmas.Bool.{lt-ltb}
use Rattle.gomp_types.specs.declared.reply.Reply.TheVariants.{Chunk, NoChunk}
use Rattle.gomp_types.specs.declared.shape.Shape.{Shape}
use Rattle.gomp_types.specs.Shapes.{is_loop}
use Rattle.gomp_types.proofs.Booleans.{and_left, and_right, false_of_not, not_both}
use Rattle.gomp_events.specs.declared.seen.Seen.{Seen}
use Rattle.gomp_events.specs.Events.{in_kind}
use Rattle.gomp_events.specs.Ordered.{is_ordered}
use Rattle.gomp_ring.specs.RingSeats.{may_claim}
use Rattle.gomp_seat_calls.specs.Chunks.{claims_alone, reply_of_chunk}
use Rattle.gomp_member.specs.Own.{is_free}
use Rattle.gomp_team.specs.Members.{MemberView, may_claim_alone}

-- A seat

-- in a loop that is not ordered, of which something may be left, and in no part, it may
pub plain_loop_is_claimed_alone : (seen : Seen) (number : ℕ) (shape : Shape) → seen.current ≡ Some (number, shape) → is_loop shape.kind ≡ true → shape.ordered ≡ false → seen.drained ≡ false → seen.in_part ≡ false → claims_alone seen ≡ true
plain_loop_is_claimed_alone seen number shape inside loop plain more apart = rw (inside, loop, plain, more, apart) refl

in_a_plain_loop : (seen : Seen) → claims_alone seen ≡ true → (in_kind is_loop seen.current && not (is_ordered seen.current)) ≡ true
in_a_plain_loop seen alone = and_left (in_kind is_loop seen.current && not (is_ordered seen.current)) (may_claim seen) alone

-- in none but a loop
pub no_other_share_is_claimed_alone : (seen : Seen) → in_kind is_loop seen.current ≡ false → claims_alone seen ≡ true → ⊥
no_other_share_is_claimed_alone seen other alone = not_both (in_kind is_loop seen.current) (and_left (in_kind is_loop seen.current) (not (is_ordered seen.current)) (in_a_plain_loop seen alone)) other

-- in no ordered one
pub no_ordered_loop_is_claimed_alone : (seen : Seen) → is_ordered seen.current ≡ true → claims_alone seen ≡ true → ⊥
no_ordered_loop_is_claimed_alone seen ordered alone = not_both (is_ordered seen.current) ordered (false_of_not (is_ordered seen.current) (and_right (in_kind is_loop seen.current) (not (is_ordered seen.current)) (in_a_plain_loop seen alone)))

-- and where no claim may be made it may not either
pub no_claim_is_made_alone : (seen : Seen) → may_claim seen ≡ false → claims_alone seen ≡ true → ⊥
no_claim_is_made_alone seen never alone = not_both (may_claim seen) (and_right (in_kind is_loop seen.current && not (is_ordered seen.current)) (may_claim seen) alone) never

-- A member

-- it may just if nothing that it keeps refuses it, and its seat may
pub free_member_claims_alone : {T : Type 0} (member : MemberView T) → is_free member.own ≡ true → claims_alone member.seat.seen ≡ true → may_claim_alone member ≡ true
free_member_claims_alone member free alone = rw (free, alone) refl

pub no_other_member_claims_alone : {T : Type 0} (member : MemberView T) → is_free member.own ≡ false → may_claim_alone member ≡ true → ⊥
no_other_member_claims_alone member held alone = not_both (is_free member.own) (and_left (is_free member.own) (claims_alone member.seat.seen) alone) held

pub no_member_claims_what_its_seat_may_not : {T : Type 0} (member : MemberView T) → claims_alone member.seat.seen ≡ false → may_claim_alone member ≡ true → ⊥
no_member_claims_what_its_seat_may_not member never alone = not_both (claims_alone member.seat.seen) (and_right (is_free member.own) (claims_alone member.seat.seen) alone) never

-- Two numbers

pub some_iterations_are_a_chunk : (first : ℤ) (count : ℕ) → 0 < count → reply_of_chunk first count ≡ Chunk first count
some_iterations_are_a_chunk first count some = let is : nat_lt 0 count ≡ true = lt-ltb 0 count some in rw is refl

pub no_iteration_is_no_chunk : (first : ℤ) → reply_of_chunk first 0 ≡ NoChunk
no_iteration_is_no_chunk first = refl
