-- What stands behind the start of a construct by a member on threads, and behind a region's fault: read of the definitions alone, of any member, start and reply.
use Rattle.std.proofs.Common.{ℕ, ◌≡◌, ◌<◌, inl, inr, true, false, Option, Some, None, ap, reverse}
use Rattle.gomp_types.specs.declared.loop_desc.EndKind.{EndKind}
use Rattle.gomp_types.specs.declared.loop_desc.EndKind.TheVariants as ends
use Rattle.gomp_types.specs.declared.loop_desc.LoopDesc.{LoopDesc}
use Rattle.gomp_types.specs.declared.refusal.Clash.{Clash}
use Rattle.gomp_types.specs.declared.refusal.Refusal.{Refusal}
use Rattle.gomp_types.specs.declared.refusal.Refusal.TheVariants.{Mismatch}
use Rattle.gomp_types.specs.declared.reply.Reply.{Reply}
use Rattle.gomp_types.specs.declared.reply.Reply.TheVariants.{Refused}
use Rattle.gomp_types.specs.Least.{lesser}
use Rattle.gomp_events.specs.Events.{share_number}
use Rattle.gomp_board.specs.declared.op.Op.{Op}
use Rattle.gomp_board.specs.KeptPayload.{HasPayload}
use Rattle.gomp_model.specs.Starts.{end_room}
use Rattle.gomp_ring.specs.RingSeats.{SeatView}
use Rattle.gomp_team_board.specs.Locked.{locked_refusal, team_size}
use Rattle.gomp_team_shares.specs.declared.start.ShareStart.{ShareStart}
use Rattle.gomp_team_shares.specs.declared.start.ShareStart.TheVariants.{Loop}
use Rattle.gomp_seat_calls.specs.Starts.{awaits_payload}
use Rattle.gomp_seat_team.specs.Moved.{TeamMoved}
use Rattle.gomp_seat_team.specs.Starts.{AnswersNote, DiffersFromTeams}
use Rattle.gomp_team.specs.Answers.{AloneOrOnBoard, StartsOnBoard}
use Rattle.gomp_team_region.specs.declared.settle.SettleError.TheVariants as errors
use Rattle.gomp_fork.specs.declared.report.RegionRefusal.{RegionRefusal}
use Rattle.gomp_fork.specs.declared.report.RegionRefusal.TheVariants as regions
use Rattle.gomp_fork.specs.Reports.{Blames}

-- A start that is refused

-- the member's share is another construct than the team's: if no board refuses the start, it is a mismatch
pub differing_share_is_a_mismatch : (start : ShareStart) (op : Op) (move : TeamMoved) (refusal : Refusal) (differs : DiffersFromTeams start op move (Refused refusal)) → move.before.member < team_size differs.kept
    → locked_refusal move.before.member differs.kept op (reverse differs.kept.board.history) ≡ None → refusal ≡ Mismatch
differing_share_is_a_mismatch start op move refusal differs inside none =
    let answer : Refused refusal ≡ Refused Mismatch = differs.answers inside (reverse differs.kept.board.history) differs.known Mismatch (ap (λ (by_board : Option Refusal). lesser (Some Mismatch) by_board) none) in cc

-- the board refuses to note words: it has these for the share in which the member waits for them
pub noted_words_are_there : (seat : SeatView) (reply : Reply) (note : AnswersNote seat reply) → (awaits_payload seat.seen ≡ true) × HasPayload note.board.board (share_number seat.seen.current) (Some note.words)
noted_words_are_there seat reply note = (note.waits, note.has_words)

-- A start with no board

barrier_has_room : (end : EndKind) → end ≡ ends.Wait → end_room end ≡ 0 → ⊥
barrier_has_room ends.Wait is none = cc
barrier_has_room end is none = absurd (cc)

-- is of no loop with a barrier at its end, whose arrival wants room
pub barrier_asks_the_board : (desc : LoopDesc) (found : Option Refusal) (seat : SeatView) (reply : Reply) → desc.end_kind ≡ ends.Wait → AloneOrOnBoard false (Loop desc) found seat reply → StartsOnBoard (Loop desc) false found seat reply
barrier_asks_the_board desc found seat reply barrier (inl alone) = absurd (barrier_has_room desc.end_kind barrier alone.roomless)
barrier_asks_the_board desc found seat reply barrier (inr on) = on

-- nor is it repeated, or made though something was found
pub repeated_start_asks_the_board : (start : ShareStart) (found : Option Refusal) (seat : SeatView) (reply : Reply) → AloneOrOnBoard true start found seat reply → StartsOnBoard start true found seat reply
repeated_start_asks_the_board start found seat reply (inl alone) = absurd (let made : true ≡ false = alone.made in cc)
repeated_start_asks_the_board start found seat reply (inr on) = on

pub found_refusal_asks_the_board : (start : ShareStart) (refusal : Refusal) (seat : SeatView) (reply : Reply) → AloneOrOnBoard false start (Some refusal) seat reply → StartsOnBoard start false (Some refusal) seat reply
found_refusal_asks_the_board start refusal seat reply (inl alone) = absurd (let unfound : Some refusal ≡ None = alone.unfound in cc)
found_refusal_asks_the_board start refusal seat reply (inr on) = on

-- A region's fault

-- names the member that broke the team, or nobody
pub breaker_is_blamed : (clash : Clash) (member : ℕ) (refusal : RegionRefusal) → Blames (errors.Broken clash) member refusal → member ≡ clash.member
breaker_is_blamed clash member refusal blames = blames.0

pub nobody_is_blamed : (member : ℕ) (refusal : RegionRefusal) → Blames errors.Unsettled member refusal → (member ≡ 0) × (refusal ≡ regions.Unsettled)
nobody_is_blamed member refusal blames = blames
