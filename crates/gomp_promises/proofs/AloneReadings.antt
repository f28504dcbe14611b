-- When a member may take a section or a chunk by turn, begin or end an ordered part, or end its share with no other test, which starts its own tests admit, which replies give it something, and which cut its team short.
use Rattle.std.proofs.Common.{◌≡◌, ◌≢◌, ℕ, ℤ, Bool, true, false, None, Some, refl}
use Rattle.std.specs.Prelude.{◌&&◌, nat_lt, not}
use Rattle.gomp_types.specs.declared.loop_desc.EndKind.TheVariants.{Nowait}
use Rattle.gomp_types.specs.declared.refusal.Refusal.{Refusal}
use Rattle.gomp_types.specs.declared.refusal.Refusal.TheVariants.{Mismatch}
use Rattle.gomp_types.specs.declared.reply.Reply.{Reply}
use Rattle.gomp_types.specs.declared.reply.Reply.TheVariants.{Cancelling, Chunk, Executor, NoChunk, Refused, Section, Stopped, Wait}
use Rattle.gomp_types.specs.declared.shape.Shape.{Shape}
use Rattle.gomp_types.specs.Compare.{end_differs}
use Rattle.gomp_types.specs.declared.limits.Limits.{Limits}
use Rattle.gomp_types.specs.Shapes.{is_loop, is_sections}
use Rattle.gomp_types.specs.Tests.{first_holding}
use Rattle.gomp_types.proofs.Booleans.{and_left, and_right, false_of_not, not_both}
use Rattle.gomp_events.specs.declared.seen.Seen.{Seen}
use Rattle.gomp_events.specs.Events.{in_kind}
use Rattle.gomp_events.specs.Ordered.{is_ordered}
use Rattle.gomp_shares.specs.declared.admission.Construct.{Construct}
use Rattle.gomp_shares.specs.Admission.{kinds_of, seen_in}
use Rattle.gomp_ring.specs.RingSeats.{may_claim}
use Rattle.gomp_shares.specs.OrderedParts.{part_tests}
use Rattle.gomp_shares.specs.Starts.{start_tests}
use Rattle.gomp_team_shares.specs.Constructs.{construct_tests}
use Rattle.gomp_team_shares.specs.declared.start.ShareStart.{ShareStart}
use Rattle.gomp_seat_calls.specs.Alone.{admits_part, ends_alone, admits_by_turn, sections_alone, admits_start}
use Rattle.gomp_member.specs.Own.{is_free}
use Rattle.gomp_team.specs.Seats.{is_given}
use Rattle.gomp_team.specs.Members.{MemberView, cuts, may_begin_by_turn, may_claim_section_alone, may_end_alone, may_end_part_alone, may_start_alone, may_take_by_turn}

-- Sections

-- in sections of which something may be left a member may take the next one so,
pub section_is_claimed_alone : (seen : Seen) (number : ℕ) (shape : Shape) → seen.current ≡ Some (number, shape) → is_sections shape.kind ≡ true → seen.drained ≡ false → seen.in_part ≡ false → sections_alone seen ≡ true
section_is_claimed_alone seen number shape inside sections more apart = rw (inside, sections, more, apart) refl

-- in nothing else,
pub no_section_is_claimed_elsewhere : (seen : Seen) → in_kind is_sections seen.current ≡ false → sections_alone seen ≡ true → ⊥
no_section_is_claimed_elsewhere seen other alone = not_both (in_kind is_sections seen.current) (and_left (in_kind is_sections seen.current) (may_claim seen) alone) other

-- and not where no claim may be made
pub no_section_is_claimed_of_none : (seen : Seen) → may_claim seen ≡ false → sections_alone seen ≡ true → ⊥
no_section_is_claimed_of_none seen never alone = not_both (may_claim seen) (and_right (in_kind is_sections seen.current) (may_claim seen) alone) never

-- Chunks by turn

-- in an ordered loop of which something may be left a member takes its next chunk once the turn is its,
pub ordered_chunk_is_taken_by_turn : (seen : Seen) (number : ℕ) (shape : Shape) → seen.current ≡ Some (number, shape) → is_loop shape.kind ≡ true → shape.ordered ≡ true → seen.drained ≡ false → seen.in_part ≡ false → admits_by_turn seen ≡ true
ordered_chunk_is_taken_by_turn seen number shape inside loop ordered more apart = rw (inside, loop, ordered, more, apart) refl

-- in no other construct,
pub no_chunk_of_another_construct_is_taken_by_turn : (seen : Seen) → in_kind is_loop seen.current ≡ false → admits_by_turn seen ≡ true → ⊥
no_chunk_of_another_construct_is_taken_by_turn seen other alone = not_both (in_kind is_loop seen.current) (and_left (in_kind is_loop seen.current) (is_ordered seen.current && may_claim seen) alone) other

-- in no other loop,
pub no_chunk_of_a_plain_loop_is_taken_by_turn : (seen : Seen) → is_ordered seen.current ≡ false → admits_by_turn seen ≡ true → ⊥
no_chunk_of_a_plain_loop_is_taken_by_turn seen plain alone =
    not_both (is_ordered seen.current) (and_left (is_ordered seen.current) (may_claim seen) (and_right (in_kind is_loop seen.current) (is_ordered seen.current && may_claim seen) alone)) plain

-- and not where no claim may be made
pub no_chunk_is_taken_by_turn_of_none : (seen : Seen) → may_claim seen ≡ false → admits_by_turn seen ≡ true → ⊥
no_chunk_is_taken_by_turn_of_none seen never alone =
    not_both (may_claim seen) (and_right (is_ordered seen.current) (may_claim seen) (and_right (in_kind is_loop seen.current) (is_ordered seen.current && may_claim seen) alone)) never

-- Starts and parts

-- a start is admitted just if none of its tests refuses it,
pub refused_start_is_not_admitted : (start : ShareStart) (limits : Limits) (seen : Seen) (refusal : Refusal) → first_holding (start_tests (construct_tests start) limits seen) ≡ Some refusal → admits_start start limits seen ≡ true → ⊥
refused_start_is_not_admitted start limits seen refusal refused alone = let no : false ≡ true = rw refused at alone in cc

pub start_is_admitted_that_no_test_refuses : (start : ShareStart) (limits : Limits) (seen : Seen) → first_holding (start_tests (construct_tests start) limits seen) ≡ None → admits_start start limits seen ≡ true
start_is_admitted_that_no_test_refuses start limits seen none = rw none refl

-- and so is the ordered part of an iteration
pub refused_part_is_not_admitted : (value : ℤ) (seen : Seen) (refusal : Refusal) → first_holding (part_tests value seen) ≡ Some refusal → admits_part value seen ≡ true → ⊥
refused_part_is_not_admitted value seen refusal refused alone = let no : false ≡ true = rw refused at alone in cc

pub part_is_admitted_that_no_test_refuses : (value : ℤ) (seen : Seen) → first_holding (part_tests value seen) ≡ None → admits_part value seen ≡ true
part_is_admitted_that_no_test_refuses value seen none = rw none refl

-- Ends

-- a construct without a barrier at its end, of which nothing is left for the member, may be ended so,
pub drained_construct_is_ended_alone : (construct : Construct) (seen : Seen) → seen_in (kinds_of construct) seen ≡ true → end_differs Nowait seen.current ≡ false → seen.drained ≡ true → seen.in_part ≡ false → ends_alone construct seen ≡ true
drained_construct_is_ended_alone construct seen inside nowait drained apart = rw (inside, nowait, drained, apart) refl

-- no other one,
pub no_other_construct_is_ended_alone : (construct : Construct) (seen : Seen) → seen_in (kinds_of construct) seen ≡ false → ends_alone construct seen ≡ true → ⊥
no_other_construct_is_ended_alone construct seen other alone =
    not_both (seen_in (kinds_of construct) seen) (and_left (seen_in (kinds_of construct) seen) (not (end_differs Nowait seen.current) && (seen.drained && not seen.in_part)) alone) other

behind_its_kind : (construct : Construct) (seen : Seen) → ends_alone construct seen ≡ true → (not (end_differs Nowait seen.current) && (seen.drained && not seen.in_part)) ≡ true
behind_its_kind construct seen alone = and_right (seen_in (kinds_of construct) seen) (not (end_differs Nowait seen.current) && (seen.drained && not seen.in_part)) alone

-- none with a barrier,
pub no_barrier_is_passed_over : (construct : Construct) (seen : Seen) → end_differs Nowait seen.current ≡ true → ends_alone construct seen ≡ true → ⊥
no_barrier_is_passed_over construct seen barrier alone =
    not_both (end_differs Nowait seen.current) barrier (false_of_not (end_differs Nowait seen.current) (and_left (not (end_differs Nowait seen.current)) (seen.drained && not seen.in_part) (behind_its_kind construct seen alone)))

drained_and_apart : (construct : Construct) (seen : Seen) → ends_alone construct seen ≡ true → (seen.drained && not seen.in_part) ≡ true
drained_and_apart construct seen alone = and_right (not (end_differs Nowait seen.current)) (seen.drained && not seen.in_part) (behind_its_kind construct seen alone)

-- none of which something may be left,
pub nothing_left_undone_is_ended_alone : (construct : Construct) (seen : Seen) → seen.drained ≡ false → ends_alone construct seen ≡ true → ⊥
nothing_left_undone_is_ended_alone construct seen more alone = not_both seen.drained (and_left seen.drained (not seen.in_part) (drained_and_apart construct seen alone)) more

-- and none in an ordered part
pub no_part_is_ended_by_its_loop : (construct : Construct) (seen : Seen) → seen.in_part ≡ true → ends_alone construct seen ≡ true → ⊥
no_part_is_ended_by_its_loop construct seen within alone = not_both seen.in_part within (false_of_not seen.in_part (and_right seen.drained (not seen.in_part) (drained_and_apart construct seen alone)))

-- A member

-- it may just if nothing that it keeps refuses it, and its seat may
pub free_member_claims_its_section : {T : Type 0} (member : MemberView T) → is_free member.own ≡ true → sections_alone member.seat.seen ≡ true → may_claim_section_alone member ≡ true
free_member_claims_its_section member free alone = rw (free, alone) refl

pub no_other_member_claims_a_section : {T : Type 0} (member : MemberView T) → is_free member.own ≡ false → may_claim_section_alone member ≡ true → ⊥
no_other_member_claims_a_section member held alone = not_both (is_free member.own) (and_left (is_free member.own) (sections_alone member.seat.seen) alone) held

pub no_member_claims_a_section_that_its_seat_may_not : {T : Type 0} (member : MemberView T) → sections_alone member.seat.seen ≡ false → may_claim_section_alone member ≡ true → ⊥
no_member_claims_a_section_that_its_seat_may_not member never alone = not_both (sections_alone member.seat.seen) (and_right (is_free member.own) (sections_alone member.seat.seen) alone) never

pub free_member_ends_its_construct : {T : Type 0} (construct : Construct) (member : MemberView T) → is_free member.own ≡ true → ends_alone construct member.seat.seen ≡ true → may_end_alone construct member ≡ true
free_member_ends_its_construct construct member free alone = rw (free, alone) refl

pub no_other_member_ends_its_construct : {T : Type 0} (construct : Construct) (member : MemberView T) → is_free member.own ≡ false → may_end_alone construct member ≡ true → ⊥
no_other_member_ends_its_construct construct member held alone = not_both (is_free member.own) (and_left (is_free member.own) (ends_alone construct member.seat.seen) alone) held

pub no_member_ends_what_its_seat_may_not : {T : Type 0} (construct : Construct) (member : MemberView T) → ends_alone construct member.seat.seen ≡ false → may_end_alone construct member ≡ true → ⊥
no_member_ends_what_its_seat_may_not construct member never alone = not_both (ends_alone construct member.seat.seen) (and_right (is_free member.own) (ends_alone construct member.seat.seen) alone) never

-- it starts a construct so only in no critical name
pub free_member_starts : {T : Type 0} (member : MemberView T) → is_free member.own ≡ true → nat_lt 0 member.own.names ≡ false → may_start_alone member ≡ true
free_member_starts member free outside = rw (free, outside) refl

pub no_other_member_starts : {T : Type 0} (member : MemberView T) → is_free member.own ≡ false → may_start_alone member ≡ true → ⊥
no_other_member_starts member held alone = not_both (is_free member.own) (and_left (is_free member.own) (not (nat_lt 0 member.own.names)) alone) held

pub no_member_starts_in_a_critical_name : {T : Type 0} (member : MemberView T) → nat_lt 0 member.own.names ≡ true → may_start_alone member ≡ true → ⊥
no_member_starts_in_a_critical_name member inside alone =
    not_both (nat_lt 0 member.own.names) inside (false_of_not (nat_lt 0 member.own.names) (and_right (is_free member.own) (not (nat_lt 0 member.own.names)) alone))

-- likewise of the parts of its ordered loop, and of the next chunk by turn
pub free_member_begins_its_part : {T : Type 0} (value : ℤ) (member : MemberView T) → is_free member.own ≡ true → admits_part value member.seat.seen ≡ true → may_begin_by_turn value member ≡ true
free_member_begins_its_part value member free alone = rw (free, alone) refl

pub no_other_member_begins_a_part : {T : Type 0} (value : ℤ) (member : MemberView T) → is_free member.own ≡ false → may_begin_by_turn value member ≡ true → ⊥
no_other_member_begins_a_part value member held alone = not_both (is_free member.own) (and_left (is_free member.own) (admits_part value member.seat.seen) alone) held

pub no_member_begins_a_part_that_its_seat_may_not : {T : Type 0} (value : ℤ) (member : MemberView T) → admits_part value member.seat.seen ≡ false → may_begin_by_turn value member ≡ true → ⊥
no_member_begins_a_part_that_its_seat_may_not value member never alone = not_both (admits_part value member.seat.seen) (and_right (is_free member.own) (admits_part value member.seat.seen) alone) never

pub free_member_ends_its_part : {T : Type 0} (member : MemberView T) → is_free member.own ≡ true → member.seat.seen.in_part ≡ true → may_end_part_alone member ≡ true
free_member_ends_its_part member free inside = rw (free, inside) refl

pub no_other_member_ends_a_part : {T : Type 0} (member : MemberView T) → is_free member.own ≡ false → may_end_part_alone member ≡ true → ⊥
no_other_member_ends_a_part member held alone = not_both (is_free member.own) (and_left (is_free member.own) member.seat.seen.in_part alone) held

pub no_member_ends_a_part_outside : {T : Type 0} (member : MemberView T) → member.seat.seen.in_part ≡ false → may_end_part_alone member ≡ true → ⊥
no_member_ends_a_part_outside member outside alone = not_both member.seat.seen.in_part (and_right (is_free member.own) member.seat.seen.in_part alone) outside

pub free_member_takes_by_turn : {T : Type 0} (member : MemberView T) → is_free member.own ≡ true → admits_by_turn member.seat.seen ≡ true → may_take_by_turn member ≡ true
free_member_takes_by_turn member free alone = rw (free, alone) refl

pub no_other_member_takes_by_turn : {T : Type 0} (member : MemberView T) → is_free member.own ≡ false → may_take_by_turn member ≡ true → ⊥
no_other_member_takes_by_turn member held alone = not_both (is_free member.own) (and_left (is_free member.own) (admits_by_turn member.seat.seen) alone) held

pub no_member_takes_by_turn_what_its_seat_may_not : {T : Type 0} (member : MemberView T) → admits_by_turn member.seat.seen ≡ false → may_take_by_turn member ≡ true → ⊥
no_member_takes_by_turn_what_its_seat_may_not member never alone = not_both (admits_by_turn member.seat.seen) (and_right (is_free member.own) (admits_by_turn member.seat.seen) alone) never

-- Replies

-- a team is cut short by a mismatch, by a stop, and by a cancellation,
pub mismatch_cuts : cuts (Refused Mismatch) ≡ true
mismatch_cuts = refl

pub stop_cuts : cuts Stopped ≡ true
stop_cuts = refl

pub cancellation_cuts : cuts (Cancelling true) ≡ true
cancellation_cuts = refl

-- by nothing else
pub no_other_refusal_cuts : (refusal : Refusal) → refusal ≢ Mismatch → cuts (Refused refusal) ≡ true → ⊥
no_other_refusal_cuts Mismatch other cut = other refl
no_other_refusal_cuts refusal other cut = absurd (cc)

pub no_other_reply_cuts : (reply : Reply) → ((refusal : Refusal) → reply ≢ Refused refusal) → reply ≢ Stopped → reply ≢ Cancelling true → cuts reply ≡ true → ⊥
no_other_reply_cuts (Refused refusal) unrefused going uncancelled cut = unrefused refusal refl
no_other_reply_cuts Stopped unrefused going uncancelled cut = going refl
no_other_reply_cuts (Cancelling true) unrefused going uncancelled cut = uncancelled refl
no_other_reply_cuts reply unrefused going uncancelled cut = absurd (cc)

-- a member is given a chunk, or that there is none, a section, or whether it executes a single,
pub pieces_are_given : (first : ℤ) (count number : ℕ) (executes : Bool) → (is_given (Chunk first count) ≡ true) × (is_given NoChunk ≡ true) × (is_given (Section number) ≡ true) × (is_given (Executor executes) ≡ true)
pieces_are_given first count number executes = (refl, refl, refl, refl)

-- by no wait, and by no refusal
pub no_wait_gives : is_given Wait ≡ true → ⊥
no_wait_gives given = absurd (cc)

pub no_refusal_gives : (refusal : Refusal) → is_given (Refused refusal) ≡ true → ⊥
no_refusal_gives refusal given = absurd (cc)
