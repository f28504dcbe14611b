-- A chunk that a member claims with no other test, and its tool.
use Rattle.std.proofs.Common.{◌≡◌, ℕ, ℤ, Bool, true, false, refl, ap, sym, ◌∙◌}
use Rattle.std.specs.Prelude.{nat_lt, if◌then◌else◌}
use Rattle.gomp_types.specs.declared.call.Call.TheVariants.{LoopNext}
use Rattle.gomp_types.specs.declared.reply.Reply.{Reply}
use Rattle.gomp_types.specs.declared.reply.Reply.TheVariants.{Cancelled, Chunk, NoChunk, Wait}
use Rattle.gomp_types.proofs.Booleans.{and_left, and_right}
use Rattle.gomp_shares.specs.declared.admission.Construct.TheVariants.{Loop}
use Rattle.gomp_ompt.specs.declared.record.Record.{Record}
use Rattle.gomp_ompt.specs.Table.{records_of}
use Rattle.gomp_ompt.specs.Tools.{AfterEach}
use Rattle.gomp_member.specs.Own.{is_free, is_next_reply}
use Rattle.gomp_member.proofs.Free.{next_moves_nothing}
use Rattle.gomp_team_shares.specs.declared.inside.InsideCall.TheVariants.{Next}
use Rattle.gomp_seat_calls.specs.Chunks.{claims_alone, reply_of_chunk}
use Rattle.gomp_seat_calls.specs.Next.{AnswersNext}
use Rattle.gomp_seat_calls.specs.Stays.{StaysSeat}
use Rattle.gomp_team.specs.Members.{MemberView, Called, HasSameParts, may_claim_alone}
use Rattle.gomp_team.proofs.ItsShare.{called_unnoted}

chunk_or_none : (first : ℤ) (count : ℕ) (some : Bool) → is_next_reply (if some then Chunk first count else NoChunk) ≡ true
chunk_or_none first count true = refl
chunk_or_none first count false = refl

-- two numbers are a chunk, or that none is left
pub chunk_is_next : (first : ℤ) (count : ℕ) → is_next_reply (reply_of_chunk first count) ≡ true
chunk_is_next first count = chunk_or_none first count (nat_lt 0 count)

-- so no wait
pub chunk_never_waits : (first : ℤ) (count : ℕ) → reply_of_chunk first count ≡ Wait → ⊥
chunk_never_waits first count is = let next : true ≡ false = sym (chunk_is_next first count) ∙ ap is_next_reply is in cc

-- nor that the region is cancelled
pub chunk_never_cut : (first : ℤ) (count : ℕ) → reply_of_chunk first count ≡ Cancelled → ⊥
chunk_never_cut first count is = let next : true ≡ false = sym (chunk_is_next first count) ∙ ap is_next_reply is in cc

-- its seat may claim so
pub seat_claims_alone : {T : Type 0} (member : MemberView T) → may_claim_alone member ≡ true → claims_alone member.seat.seen ≡ true
seat_claims_alone member alone = and_right (is_free member.own) (claims_alone member.seat.seen) alone

pub free_claims_alone : {T : Type 0} (member : MemberView T) → may_claim_alone member ≡ true → is_free member.own ≡ true
free_claims_alone member alone = and_left (is_free member.own) (claims_alone member.seat.seen) alone

-- a member that claimed so has called: its seat answered, its tool has the records, and nothing else moved
pub called_alone : {T : Type 0} (gives : T → Record → T → Type 0) (reply : Reply) (before between after : MemberView T)
    → may_claim_alone before ≡ true → is_next_reply reply ≡ true
    → between ≡ record before { seat = between.seat }
    → AnswersNext Loop before.seat reply between.seat → StaysSeat before.seat between.seat
    → after.own ≡ between.own
    → AfterEach gives between.tool (records_of LoopNext true reply) after.tool
    → HasSameParts between after
    → Called gives LoopNext reply before after
called_alone gives reply before between after alone next is answers stays own told same =
    called_unnoted gives LoopNext (Next Loop) reply before between after refl refl refl refl refl (free_claims_alone before alone) is answers stays (next_moves_nothing reply LoopNext before.own next (free_claims_alone before alone)) own told same
