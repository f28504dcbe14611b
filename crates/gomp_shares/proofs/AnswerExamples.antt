-- The answers to each construct's calls, and the events after them: an answer for each, and what it gives. AnswerRefutations and
-- CallRefutations say what no call is answered.
use Rattle.std.proofs.Common.{◌≡◌, List, Some, [], ◌∷◌, true, false, refl}
use Rattle.std.specs.Prelude.{pos}
use Rattle.gomp_types.specs.declared.refusal.Refusal.TheVariants.{ZeroStep, NotDrained, NotInside}
use Rattle.gomp_types.specs.declared.reply.Reply.TheVariants.{Chunk, Section, Executor, Copied, Finished, Wait, Refused}
use Rattle.gomp_types.specs.declared.loop_desc.EndKind.TheVariants.{Wait as WaitEnd}
use Rattle.gomp_events.specs.declared.event.Event.TheVariants.{Enter, Take, Drained, End, Part, PartEnd, Put, Got}
use Rattle.gomp_events.specs.declared.event.Event.{Event}
use Rattle.gomp_shares.specs.Calls.{events_claimed, events_left, part_begun}
use Rattle.gomp_types.specs.Limits.{standard}
use Rattle.gomp_types.specs.Pieces.{shape_of}
use Rattle.gomp_types.specs.Sections.{sections_shape}
use Rattle.gomp_types.specs.Singles.{single_shape}
use Rattle.gomp_shares.specs.Starts.{left_at_once}
use Rattle.gomp_shares.specs.Loops.{AnswersLoopStart, loop_started, AnswersLoopNext, AnswersLoopEnd}
use Rattle.gomp_shares.specs.Sections.{AnswersSectionsStart, sections_started, AnswersSectionsNext, section_next_taken, AnswersSectionsEnd}
use Rattle.gomp_shares.specs.Singles.{AnswersSingle, single_started, AnswersCopy, copy_started, words_put}
use Rattle.gomp_shares.specs.OrderedParts.{AnswersPart, part_started, AnswersPartEnd, part_ended_at_once}
use Rattle.gomp_shares.specs.Examples.{ten, no_step, events_of, took_one, told_none, both_hold, in_the_part}

-- Loops

-- a loop is started with its first piece
pub answers_first_piece : AnswersLoopStart ten standard 2 0 (Chunk (pos 0) 3) []
answers_first_piece = (refl, (refl, refl))

-- a loop without a step is refused
pub answers_no_step : AnswersLoopStart no_step standard 2 0 (Refused ZeroStep) []
answers_no_step = refl

-- its start gives the entry and the piece
pub loop_start_adds : loop_started ten 0 (Chunk (pos 0) 3) [] ≡ Take 0 0 0 3 ∷ Enter 0 0 (shape_of ten) ∷ []
loop_start_adds = refl

-- a start that waits gives nothing
pub loop_wait_adds : loop_started ten 1 Wait (events_of 2 took_one) ≡ events_of 2 took_one
loop_wait_adds = refl

-- the next piece
pub answers_next_piece : AnswersLoopNext 2 0 (Chunk (pos 3) 3) (events_of 2 took_one)
answers_next_piece = (refl, (refl, refl))

-- the end
pub answers_loop_end : AnswersLoopEnd WaitEnd 0 Finished (events_of 2 told_none)
answers_loop_end = (refl, refl)

-- an end with no barrier leaves the share
pub finished_leaves : left_at_once 0 Finished (events_of 2 told_none) ≡ End 0 0 ∷ events_of 2 told_none
finished_leaves = refl

-- one that is refused does not
pub refused_stays : left_at_once 0 (Refused NotDrained) (events_of 2 took_one) ≡ events_of 2 took_one
refused_stays = refl

-- Sections

-- sections are started with the first
pub answers_first_section : AnswersSectionsStart 3 WaitEnd standard 2 0 (Section 1) []
answers_first_section = (refl, refl)

-- too many are not
pub answers_too_many : AnswersSectionsStart 65537 WaitEnd standard 2 0 (Section 1) [] → ⊥
answers_too_many answer = absurd (let none = answer.0 in cc)

-- their start gives the entry and the section
pub sections_start_adds : sections_started 3 WaitEnd 0 (Section 1) [] ≡ Take 0 0 0 1 ∷ Enter 0 0 (sections_shape 3 WaitEnd) ∷ []
sections_start_adds = refl

-- the next one
pub answers_next_section : AnswersSectionsNext 2 0 (Section 2) (Take 0 0 0 1 ∷ Enter 0 0 (sections_shape 3 WaitEnd) ∷ [])
answers_next_section = (refl, refl)

-- it gives the section of the share that the member is in
pub next_section_adds : section_next_taken 0 (Section 2) (Enter 0 0 (sections_shape 3 WaitEnd) ∷ []) ≡ Take 0 0 1 2 ∷ Enter 0 0 (sections_shape 3 WaitEnd) ∷ []
next_section_adds = refl

-- the end
pub answers_sections_end : AnswersSectionsEnd WaitEnd 0 Finished (Drained 0 0 ∷ Enter 0 0 (sections_shape 0 WaitEnd) ∷ [])
answers_sections_end = (refl, refl)

-- Singles

-- the first member executes a single
pub answers_executor : AnswersSingle standard 2 0 (Executor true) []
answers_executor = (refl, refl)

-- its executor leaves it at once
pub single_start_adds : single_started 0 (Executor true) [] ≡ End 0 0 ∷ Take 0 0 0 1 ∷ Enter 0 0 (single_shape false) ∷ []
single_start_adds = refl

-- and so does the other
pub other_single_adds : single_started 1 (Executor false) [] ≡ End 0 1 ∷ Drained 0 1 ∷ Enter 0 1 (single_shape false) ∷ []
other_single_adds = refl

-- the first member executes one with words
pub answers_copy_executor : AnswersCopy standard 2 0 (Executor true) []
answers_copy_executor = (refl, refl)

-- and the other waits for them
pub answers_copy_wait : AnswersCopy standard 2 1 Wait (Take 0 0 0 1 ∷ Enter 0 0 (single_shape true) ∷ [])
answers_copy_wait = (refl, (refl, refl))

-- the executor stays to put its words
pub copy_start_adds : copy_started 0 (Executor true) [] ≡ Take 0 0 0 1 ∷ Enter 0 0 (single_shape true) ∷ []
copy_start_adds = refl

-- a member that is given the words has copied them, and leaves
pub copied_words_add : copy_started 1 (Copied (7 ∷ [])) [] ≡ End 0 1 ∷ Got 0 1 (7 ∷ []) ∷ Drained 0 1 ∷ Enter 0 1 (single_shape true) ∷ []
copied_words_add = refl

-- one that waits for them has entered nothing
pub copy_wait_adds : copy_started 1 Wait [] ≡ []
copy_wait_adds = refl

-- Ordered parts

-- the part of the first iteration is begun
pub answers_first_part : AnswersPart 2 (pos 0) 0 Finished (events_of 2 both_hold)
answers_first_part = (refl, refl)

-- it gives the part
pub part_start_adds : part_started (pos 0) 0 Finished (events_of 2 both_hold) ≡ Part 0 0 0 ∷ events_of 2 both_hold
part_start_adds = refl

-- a wait gives none
pub part_wait_adds : part_started (pos 1) 1 Wait (events_of 2 both_hold) ≡ events_of 2 both_hold
part_wait_adds = refl

-- the end of a part
pub answers_part_end : AnswersPartEnd 0 Finished (events_of 2 in_the_part)
answers_part_end = (refl, refl)

-- it ends the part
pub finished_part_adds : part_ended_at_once 0 Finished (events_of 2 in_the_part) ≡ PartEnd 0 0 ∷ events_of 2 in_the_part
finished_part_adds = refl

-- and gives nothing if it is refused
pub refused_part_adds : part_ended_at_once 0 (Refused NotInside) (events_of 2 both_hold) ≡ events_of 2 both_hold
refused_part_adds = refl

-- The second member in the second share, while the first is in the first

abbrev in_two_shares : List Event
in_two_shares = Enter 1 1 (shape_of ten) ∷ End 0 1 ∷ Enter 0 1 (shape_of ten) ∷ Enter 0 0 (shape_of ten) ∷ []

-- its piece is one of the second share
pub second_piece_adds : events_claimed 1 (Some (0, 3)) in_two_shares ≡ Take 1 1 0 3 ∷ in_two_shares
second_piece_adds = refl

-- it leaves the second share
pub second_leave_adds : events_left 1 in_two_shares ≡ End 1 1 ∷ in_two_shares
second_leave_adds = refl

-- also by an end with no barrier
pub second_end_adds : left_at_once 1 Finished (Drained 1 1 ∷ in_two_shares) ≡ End 1 1 ∷ Drained 1 1 ∷ in_two_shares
second_end_adds = refl

-- its part is one of the second share
pub second_part_adds : part_begun 1 0 true in_two_shares ≡ Part 1 1 0 ∷ in_two_shares
second_part_adds = refl

-- and so is the end of a part
pub second_part_end_adds : part_ended_at_once 1 Finished in_two_shares ≡ PartEnd 1 1 ∷ in_two_shares
second_part_end_adds = refl

-- it puts words in the second share
pub second_words_add : words_put (7 ∷ []) 1 in_two_shares ≡ End 1 1 ∷ Put 1 1 (7 ∷ []) ∷ []
second_words_add = refl

-- and enters the second share after it has left the first
pub second_start_adds : loop_started ten 1 (Chunk (pos 0) 3) (End 0 1 ∷ Enter 0 1 (shape_of ten) ∷ []) ≡ Take 1 1 0 3 ∷ Enter 1 1 (shape_of ten) ∷ End 0 1 ∷ Enter 0 1 (shape_of ten) ∷ []
second_start_adds = refl
