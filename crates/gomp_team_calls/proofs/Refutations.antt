-- What the definitions do not allow, of any member, share, start and reply.
use Rattle.std.proofs.Common.{◌≡◌, ◌≢◌, ◌<◌, ◌+◌, ℕ, Bool, true, false, List, Option, Some, None, refl, sym, ◌∙◌, arith}
use Rattle.std.specs.Prelude.{◌&&◌}
use Rattle.gomp_types.specs.declared.refusal.Refusal.{Refusal}
use Rattle.gomp_types.specs.declared.refusal.Refusal.TheVariants.{InsideShare, Mismatch}
use Rattle.gomp_types.specs.declared.reply.Reply.{Reply}
use Rattle.gomp_types.specs.declared.reply.Reply.TheVariants.{Copied, Wait, Refused}
use Rattle.gomp_types.specs.declared.shape.Shape.{Shape}
use Rattle.gomp_types.specs.Least.{lesser, least}
use Rattle.gomp_types.specs.RefusalTexts.{number_of}
use Rattle.gomp_events.specs.declared.event.Arrival.{Arrival}
use Rattle.gomp_events.specs.declared.event.Event.{Event}
use Rattle.gomp_events.specs.Events.{open_share, is_region_end}
use Rattle.gomp_events.specs.Seen.{seen_of}
use Rattle.gomp_events.specs.Tags.{tag_with}
use Rattle.gomp_board.specs.declared.op.Op.{Op}
use Rattle.gomp_board.specs.declared.op.Op.TheVariants.{Arrive, Reserve, Got}
use Rattle.gomp_board.specs.Boards.{BoardView, Stands}
use Rattle.gomp_waits.specs.Waits.{WaitBoardView, resumes_wait}
use Rattle.gomp_team_board.specs.Locked.{locked_refusal}
use Rattle.gomp_team_board.specs.Parts.{PartView}
use Rattle.gomp_team_shares.specs.declared.start.ShareStart.{ShareStart}
use Rattle.gomp_team_calls.specs.Arrivals.{arrival_with, arrival_place_tests, IsAccepted}
use Rattle.gomp_team_calls.specs.Starts.{start_room, back_room, reserve_op, IsDoneAtOnce, IsLate, start_part, LesserAnswers, IsRefusedBy}

-- a refusal is never accepted
pub refusal_never_accepted : (refusal : Refusal) → IsAccepted (Refused refusal) → ⊥
refusal_never_accepted refusal accepted = accepted refusal refl

-- one with a lesser number never comes after a mismatch
pub lesser_never_late : (refusal : Refusal) → number_of refusal < number_of Mismatch → IsLate (Some refusal) → ⊥
lesser_never_late refusal low late = omega (arith, low, late)

-- a start that goes on never asks for room, and a first start never for other room than its own
pub repeated_start_never_asks : (start : ShareStart) (more : ℕ) → reserve_op start true ≡ Reserve more → more ≢ 0 → ⊥
repeated_start_never_asks start more is some = some (let same : 0 ≡ more = cc in sym same)

pub first_start_never_asks_otherwise : (start : ShareStart) (more : ℕ) → reserve_op start false ≡ Reserve more → more ≢ start_room start → ⊥
first_start_never_asks_otherwise start more is other = other (let same : start_room start ≡ more = cc in sym same)

-- a start that goes on never gives back other room than it asked for, and a first start never any
pub repeated_start_never_gives_back_otherwise : (start : ShareStart) → back_room start true ≢ start_room start → ⊥
repeated_start_never_gives_back_otherwise start other = other refl

pub first_start_never_gives_back : (start : ShareStart) → back_room start false ≢ 0 → ⊥
first_start_never_gives_back start some = some refl

-- a mismatch never moves a part by another number than one
pub mismatch_never_moves_otherwise : (part : PartView) → (start_part (Refused Mismatch) part).amount ≢ part.amount + 1 → ⊥
mismatch_never_moves_otherwise part other = other refl

-- Arrivals

-- one inside a share that the member keeps is never refused by another than `InsideShare`,
pub arrival_inside_never_refused_otherwise : (kind : Arrival) (leaving : Bool) (m : ℕ) (share : ℕ × Shape) (h : List Event)
    → leaving && is_region_end kind ≡ false → open_share m h ≡ Some share → least (arrival_place_tests kind leaving (seen_of m h)) ≢ Some InsideShare → ⊥
arrival_inside_never_refused_otherwise kind leaving m share h keeps inside other = other (rw (keeps, inside) refl)

-- outside of every share it is never refused by its place,
pub arrival_outside_never_refused : (kind : Arrival) (leaving : Bool) (m : ℕ) (h : List Event)
    → leaving && is_region_end kind ≡ false → open_share m h ≡ None → least (arrival_place_tests kind leaving (seen_of m h)) ≢ None → ⊥
arrival_outside_never_refused kind leaving m h keeps outside some = some (rw (keeps, outside) refl)

-- nor at the region's end by a share that the member gives up
pub given_up_share_never_refuses : (kind : Arrival) (leaving : Bool) (m : ℕ) (h : List Event)
    → leaving && is_region_end kind ≡ true → least (arrival_place_tests kind leaving (seen_of m h)) ≢ None → ⊥
given_up_share_never_refuses kind leaving m h gives_up some = some (rw gives_up refl)

-- and none tells another number of shares than the member's
pub arrival_never_tells_another_number : (kind : Arrival) (leaving : Bool) (entered : ℕ) → arrival_with kind leaving entered ≢ Arrive (tag_with kind entered) leaving → ⊥
arrival_never_tells_another_number kind leaving entered other = other refl

-- What was found

-- a refusal that was found, and what the board refuses, are never answered by another than their lesser
pub lesser_never_answered_otherwise : (found : Refusal) (by_board : List Event → Option Refusal) (board : BoardView) (reply : Reply) (k : List Event) (refusal : Refusal)
    → Stands board k → lesser (Some found) (by_board k) ≡ Some refusal → reply ≢ Refused refusal → LesserAnswers found by_board board reply → ⊥
lesser_never_answered_otherwise found by_board board reply k refusal st is other answers = other (answers k st refusal is)

-- the board is never said to refuse what it lets through
pub board_never_refuses_in_vain : (refusal : Refusal) (m : ℕ) (op : Op) (view : WaitBoardView) (k : List Event)
    → Stands view.board k → locked_refusal m view op k ≡ None → IsRefusedBy refusal m op view → ⊥
board_never_refuses_in_vain refusal m op view k st none refused = let both = sym none ∙ refused k st in cc

-- What the board does at once

-- no operation that goes on with a wait, and no other than those two
pub wait_never_done_at_once : (op : Op) → resumes_wait op ≡ true → IsDoneAtOnce op → ⊥
wait_never_done_at_once (Reserve more) waits at_once = cc
wait_never_done_at_once (Got share words) waits at_once = cc
wait_never_done_at_once _ waits at_once = at_once

pub nothing_else_done_at_once : (op : Op) → ((more : ℕ) → op ≢ Reserve more) → ((share : ℕ) (words : List ℕ) → op ≢ Got share words) → IsDoneAtOnce op → ⊥
nothing_else_done_at_once (Reserve more) room words at_once = room more refl
nothing_else_done_at_once (Got share given) room words at_once = words share given refl
nothing_else_done_at_once _ room words at_once = at_once

-- The part after a start

-- the note of words moves it by one, and a reply that is neither of these by nothing
pub note_never_moves_otherwise : (words : List ℕ) (part : PartView) → (start_part (Copied words) part).amount ≢ part.amount + 1 → ⊥
note_never_moves_otherwise words part other = other refl

pub wait_never_moves_a_part : (part : PartView) → start_part Wait part ≢ part → ⊥
wait_never_moves_a_part part other = other refl
