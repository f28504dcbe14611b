-- How the answer to a call that may have to wait is built, and taken apart.
use Rattle.std.proofs.Common.{◌≡◌, ℕ, Bool, true, false, List, Some, refl, inl, inr}
use Rattle.std.specs.Prelude.{◌⊎◌, not}
use Rattle.gomp_types.specs.declared.reply.Reply.{Reply}
use Rattle.gomp_types.specs.declared.reply.Reply.TheVariants.{Finished, Wait}
use Rattle.gomp_types.specs.declared.shape.Shape.{Shape}
use Rattle.gomp_events.specs.declared.event.Event.{Event}
use Rattle.gomp_events.specs.Events.{shares_entered, has_room}
use Rattle.gomp_events.specs.Ordered.{has_turn, must_wait}
use Rattle.gomp_types.proofs.Booleans.{false_of_not}
use Rattle.gomp_shares.specs.Loops.{DealsOut, DealsNext}
use Rattle.gomp_shares.specs.OrderedParts.{BeginsPart}
use Rattle.gomp_shares.specs.OrWaits.{AnsweredOrWaits}
use Rattle.gomp_shares.specs.Starts.{Deals, Starts}

-- one that may go on is answered so
pub may_be_answered : (may : Bool) (Given : Reply → Type 0) (reply : Reply) → may ≡ true → Given reply → AnsweredOrWaits may Given reply
may_be_answered true Given reply e given = given
may_be_answered false Given reply e given = absurd (cc)

-- one that may not waits
pub may_not_waits : (may : Bool) (Given : Reply → Type 0) → may ≡ false → AnsweredOrWaits may Given Wait
may_not_waits true Given e = absurd (cc)
may_not_waits false Given e = refl

-- so either it may not, and waits, or it may, and is answered so
pub waits_or_answered : (may : Bool) (Given : Reply → Type 0) (reply : Reply) → AnsweredOrWaits may Given reply → ((reply ≡ Wait) × (may ≡ false)) ⊎ ((may ≡ true) × Given reply)
waits_or_answered true Given reply given = inr (refl, given)
waits_or_answered false Given reply waits = inl (waits, refl)

-- the answer to one that may go on
pub answered_if_may : (may : Bool) (Given : Reply → Type 0) (reply : Reply) → may ≡ true → AnsweredOrWaits may Given reply → Given reply
answered_if_may true Given reply e given = given
answered_if_may false Given reply e waits = absurd (cc)

-- and to one that may not
pub waits_if_not : (may : Bool) (Given : Reply → Type 0) (reply : Reply) → may ≡ false → AnsweredOrWaits may Given reply → reply ≡ Wait
waits_if_not true Given reply e given = absurd (cc)
waits_if_not false Given reply e waits = waits

-- one whose answer is no wait may go on
pub answered_unless_wait : (may : Bool) (Given : Reply → Type 0) (reply : Reply) → (reply ≡ Wait → ⊥) → AnsweredOrWaits may Given reply → (may ≡ true) × Given reply
answered_unless_wait true Given reply never given = (refl, given)
answered_unless_wait false Given reply never waits = absurd (never waits)

-- what holds of a wait, and of each reply that may be given, holds of each answer
pub each_answer_so : (P : Reply → Type 0) (may : Bool) (Given : Reply → Type 0) (reply : Reply) → P Wait → (Given reply → P reply) → AnsweredOrWaits may Given reply → P reply
each_answer_so P true Given reply wait so given = so given
each_answer_so P false Given reply wait so waits = rw waits wait

-- if one reply may be given, there is one answer
pub one_answer_or_wait : (may : Bool) (Given : Reply → Type 0) (a b : Reply) → (Given a → Given b → a ≡ b) → AnsweredOrWaits may Given a → AnsweredOrWaits may Given b → a ≡ b
one_answer_or_wait true Given a b one x y = one x y
one_answer_or_wait false Given a b one x y = rw (x, y) refl

-- Starts

-- where there is room a start is answered as its share deals
pub room_starts : (deals : Deals) (members m : ℕ) (shape : Shape) (reply : Reply) (h : List Event) → has_room members (shares_entered m h) h ≡ true → deals members m (Some (shares_entered m h, shape)) reply h → Starts deals members m shape reply h
room_starts deals members m shape reply h room dealt = may_be_answered (has_room members (shares_entered m h) h) (λ given. deals members m (Some (shares_entered m h, shape)) given h) reply room dealt

-- where there is none it waits
pub full_waits : (deals : Deals) (members m : ℕ) (shape : Shape) (h : List Event) → has_room members (shares_entered m h) h ≡ false → Starts deals members m shape Wait h
full_waits deals members m shape h full = may_not_waits (has_room members (shares_entered m h) h) (λ given. deals members m (Some (shares_entered m h, shape)) given h) full

-- so one that waits found no room, or its share has it wait, and every other one found some
pub waits_or_not : (deals : Deals) (members m : ℕ) (shape : Shape) (reply : Reply) (h : List Event) → Starts deals members m shape reply h →
    ((reply ≡ Wait) × (has_room members (shares_entered m h) h ≡ false)) ⊎ ((has_room members (shares_entered m h) h ≡ true) × deals members m (Some (shares_entered m h, shape)) reply h)
waits_or_not deals members m shape reply h starts = waits_or_answered (has_room members (shares_entered m h) h) (λ given. deals members m (Some (shares_entered m h, shape)) given h) reply starts

-- one that does not wait is answered as its share deals
pub start_is_dealt : (deals : Deals) (members m : ℕ) (shape : Shape) (reply : Reply) (h : List Event) → (reply ≡ Wait → ⊥) → Starts deals members m shape reply h → deals members m (Some (shares_entered m h, shape)) reply h
start_is_dealt deals members m shape reply h never starts = (answered_unless_wait (has_room members (shares_entered m h) h) (λ given. deals members m (Some (shares_entered m h, shape)) given h) reply never starts).1

-- Next pieces, and ordered parts

-- a next that does not wait need not, and is answered as its share deals
pub next_is_dealt : (members m : ℕ) (share : ℕ × Shape) (reply : Reply) (h : List Event) → (reply ≡ Wait → ⊥) → DealsNext members m (Some share) reply h → (must_wait members share m h ≡ false) × DealsOut members m (Some share) reply h
next_is_dealt members m share reply h never next =
    let dealt = answered_unless_wait (not (must_wait members share m h)) (λ given. DealsOut members m (Some share) given h) reply never next in
    (false_of_not (must_wait members share m h) dealt.0, dealt.1)

-- a part whose start does not wait has its turn, and is begun
pub part_is_begun : (members m : ℕ) (share : ℕ × Shape) (reply : Reply) (h : List Event) → (reply ≡ Wait → ⊥) → BeginsPart members m (Some share) reply h → (has_turn members share m h ≡ true) × (reply ≡ Finished)
part_is_begun members m share reply h never begins = answered_unless_wait (has_turn members share m h) (λ given. given ≡ Finished) reply never begins
