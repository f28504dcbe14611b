-- What no call of a member on its own seat answers or does: what each clause of what it tells forbids, of any seats, tests, shares, shapes, replies and events.
use Rattle.std.proofs.Common.{◌≡◌, ◌≢◌, ℕ, ℤ, suc, Bool, true, false, List, ◌∷◌, Option, Some, None, refl, ap, sym, ◌∙◌, arith, length}
use Rattle.std.specs.Prelude.{◌-◌, ◌&&◌, ◌||◌, if◌then◌else◌, nat_lt, not}
use Rattle.gomp_types.specs.declared.loop_desc.EndKind.{EndKind}
use Rattle.gomp_types.specs.declared.loop_desc.EndKind.TheVariants.{Nowait}
use Rattle.gomp_types.specs.declared.loop_desc.LoopDesc.{LoopDesc}
use Rattle.gomp_types.specs.declared.refusal.Refusal.{Refusal}
use Rattle.gomp_types.specs.declared.refusal.Refusal.TheVariants.{Mismatch, NotDrained}
use Rattle.gomp_types.specs.declared.reply.Reply.{Reply}
use Rattle.gomp_types.specs.declared.reply.Reply.TheVariants.{Cancelling, Chunk, Executor, Finished, NoChunk, Refused, Section, Wait}
use Rattle.gomp_types.specs.declared.shape.Shape.{Shape}
use Rattle.gomp_types.specs.declared.limits.TheConstants.{OPEN_SHARES}
use Rattle.gomp_types.specs.Deals.{schedule}
use Rattle.gomp_types.specs.Least.{least}
use Rattle.gomp_types.specs.Pieces.{Piece}
use Rattle.gomp_types.specs.Shapes.{is_copy}
use Rattle.gomp_types.specs.Singles.{single_shape}
use Rattle.gomp_types.specs.Tests.{Test}
use Rattle.gomp_types.specs.Values.{value_at}
use Rattle.gomp_types.proofs.Booleans.{not_both, and_left, and_right}
use Rattle.gomp_events.specs.declared.event.Event.{Event}
use Rattle.gomp_events.specs.declared.event.Event.TheVariants.{Cancel as CancelEvent, End, Enter, Part, PartEnd}
use Rattle.gomp_events.specs.declared.seen.Seen.{Seen}
use Rattle.gomp_events.specs.Cancels.{own_cancelled}
use Rattle.gomp_events.specs.Events.{in_kind, share_number}
use Rattle.gomp_events.specs.Laws.{Always}
use Rattle.gomp_events.specs.Ordered.{is_ordered}
use Rattle.gomp_types.specs.declared.cancel.Scope.TheVariants.{OneShare}
use Rattle.gomp_shares.specs.declared.admission.Construct.{Construct}
use Rattle.gomp_shares.specs.declared.admission.Construct.TheVariants.{Loop, Sections}
use Rattle.gomp_shares.specs.Admission.{end_tests_of, next_tests_of}
use Rattle.gomp_shares.specs.Calls.{own_turn}
use Rattle.gomp_shares.specs.Cancels.{cancel_place_tests}
use Rattle.gomp_shares.specs.Only.{own_of}
use Rattle.gomp_shares.specs.OrderedParts.{part_tests, part_end_tests}
use Rattle.gomp_shares.specs.Rules.{ShareRule}
use Rattle.gomp_ordered.specs.Iterations.{seen_iteration}
use Rattle.gomp_slots.specs.declared.opening.Delay.{Delay}
use Rattle.gomp_slots.specs.declared.opening.Delay.TheVariants.{NoRoom, BeingOpened}
use Rattle.gomp_slots.specs.declared.opening.Entry.{Entry}
use Rattle.gomp_slots.specs.declared.opening.Entry.TheVariants.{Entered, NotYet, Differs}
use Rattle.gomp_slots.specs.declared.singles.Passage.TheVariants as passage
use Rattle.gomp_team_shares.specs.declared.inside.InsideCall.TheVariants as calls
use Rattle.gomp_team_shares.specs.declared.start.ShareStart.{ShareStart}
use Rattle.gomp_team_shares.specs.declared.start.ShareStart.TheVariants as starts
use Rattle.gomp_team_shares.specs.Constructs.{construct_shape}
use Rattle.gomp_team_shares.specs.Inside.{construct_kind}
use Rattle.gomp_ring.specs.RingSeats.{SeatView, SeatClaims, SeatOpens, SeatPasses, piece_handed_on}
use Rattle.gomp_slots.proofs.SlotShares.{none_not_some}
use Rattle.gomp_seat_calls.specs.Stays.{StaysSeat, AnswersBySeat, FindsRefusal, LeavesShare}
use Rattle.gomp_seat_calls.specs.Next.{reply_in, TakesPiece, HandsOnAndTakes, TakesNext, AnswersNext}
use Rattle.gomp_seat_calls.specs.Ends.{has_seen_end, LooksForEnd, FindsEnd, LeavesUnless, EndsAtOnce}
use Rattle.gomp_seat_calls.specs.Parts.{BeginsOwnPart, AnswersPart, EndsOwnPart, AnswersPartEnd}
use Rattle.gomp_seat_calls.specs.Cancels.{TellsCancelled, CancelsAndSees, AnswersCancel}
use Rattle.gomp_seat_calls.specs.Starts.{EntersAnd, EntersBy, PassesOwnSingle, reply_of_passage, awaits_payload, ExecutesOrWaits, executes_or_waits, StartsBySeat, IsStarted}
use Rattle.gomp_seat_calls.specs.Inside.{AnswersInsideBySeat}
use Rattle.gomp_seat_calls.specs.Alone.{IsNotStarted, StaysOutside}

-- The seat

-- no call leaves the seat of another ring, team or member, or one from which fewer are still to be split
pub no_call_moves_a_seat_to_another_ring : (b n : SeatView) → StaysSeat b n → n.table ≢ b.table → ⊥
no_call_moves_a_seat_to_another_ring b n stays other = other stays.table

pub no_call_moves_a_seat_to_another_team : (b n : SeatView) → StaysSeat b n → n.members ≢ b.members → ⊥
no_call_moves_a_seat_to_another_team b n stays other = other stays.members

pub no_call_gives_a_seat_to_another_member : (b n : SeatView) → StaysSeat b n → n.member ≢ b.member → ⊥
no_call_gives_a_seat_to_another_member b n stays other = other stays.member

pub no_call_splits_a_seat : (b n : SeatView) → StaysSeat b n → n.seated ≢ b.seated → ⊥
no_call_splits_a_seat b n stays other = other stays.seated

-- Refusals

-- a call that a test refuses is answered nothing else than the least refusal, and changes nothing;
pub no_other_answer_to_a_refused_call : (tests : List Test) (Does : Reply → SeatView → Type 0) (b n : SeatView) (reply : Reply) (due : Refusal) → AnswersBySeat tests Does b reply n → least tests ≡ Some due → reply ≢ Refused due → ⊥
no_other_answer_to_a_refused_call tests Does b n reply due answers is other = other (answers.refused due is).0

pub no_refusal_but_the_least_by_seat : (tests : List Test) (Does : Reply → SeatView → Type 0) (b n : SeatView) (due other : Refusal) → AnswersBySeat tests Does b (Refused other) n → least tests ≡ Some due → other ≢ due → ⊥
no_refusal_but_the_least_by_seat tests Does b n due other answers is differs = differs (let same : Refused other ≡ Refused due = (answers.refused due is).0 in cc)

pub no_change_by_a_refused_call : (tests : List Test) (Does : Reply → SeatView → Type 0) (b n : SeatView) (reply : Reply) (due : Refusal) → AnswersBySeat tests Does b reply n → least tests ≡ Some due → n ≢ b → ⊥
no_change_by_a_refused_call tests Does b n reply due answers is changed = changed (answers.refused due is).1

-- and one that no test refuses does what it is for
pub nothing_else_done_by_an_admitted_call : (tests : List Test) (Does : Reply → SeatView → Type 0) (b n : SeatView) (reply : Reply) → AnswersBySeat tests Does b reply n → least tests ≡ None → (Does reply n → ⊥) → ⊥
nothing_else_done_by_an_admitted_call tests Does b n reply answers none never = never (answers.admitted none)

-- so there is no answer that is neither a refusal nor what the call does
no_answer_beside : (tests : List Test) (Does : Reply → SeatView → Type 0) (b n : SeatView) (reply : Reply) → AnswersBySeat tests Does b reply n → ((refusal : Refusal) → reply ≡ Refused refusal → ⊥) → (Does reply n → ⊥) → ⊥
no_answer_beside tests Does b n reply answers other never = by (least tests) refl
  where
    by : (found : Option Refusal) → least tests ≡ found → ⊥
    by None e = never (answers.admitted e)
    by (Some refusal) e = other refusal (answers.refused refusal e).0

-- A refusal that a member finds is the least that holds at some moment of its own; it finds one if there is one, after no broken rule, and changes nothing
pub no_refusal_found_without_a_test : (tests : ℕ → List Event → List Test) (b n : SeatView) (refusal : Refusal) (finds : FindsRefusal tests b (Some refusal) n) → least (tests b.member finds.events) ≡ None → ⊥
no_refusal_found_without_a_test tests b n refusal finds none = none_not_some (least (tests b.member finds.events)) refusal none (sym finds.least_is)

pub no_test_overlooked_by_seat : (tests : ℕ → List Event → List Test) (b n : SeatView) (due : Refusal) (finds : FindsRefusal tests b None n) → least (tests b.member finds.events) ≡ Some due → ⊥
no_test_overlooked_by_seat tests b n due finds is = none_not_some (least (tests b.member finds.events)) due (sym finds.least_is) is

pub no_other_refusal_found_by_seat : (tests : ℕ → List Event → List Test) (b n : SeatView) (found due : Refusal) (finds : FindsRefusal tests b (Some found) n) → least (tests b.member finds.events) ≡ Some due → found ≢ due → ⊥
no_other_refusal_found_by_seat tests b n found due finds is differs = differs (let same : ◌≡◌ {A = Option Refusal} (Some found) (Some due) = finds.least_is ∙ is in cc)

pub no_refusal_found_after_unknown_events : (tests : ℕ → List Event → List Test) (b n : SeatView) (found : Option Refusal) (finds : FindsRefusal tests b found n) → (b.did ≡ own_of b.member finds.events → ⊥) → ⊥
no_refusal_found_after_unknown_events tests b n found finds unknown = unknown finds.knows

pub no_refusal_found_after_a_broken_rule : (tests : ℕ → List Event → List Test) (b n : SeatView) (found : Option Refusal) (finds : FindsRefusal tests b found n) → (Always (ShareRule (schedule b.members) b.members) finds.events → ⊥) → ⊥
no_refusal_found_after_a_broken_rule tests b n found finds broken = broken finds.rule

pub no_change_by_finding_a_refusal : (tests : ℕ → List Event → List Test) (b n : SeatView) (found : Option Refusal) → FindsRefusal tests b found n → n ≢ b → ⊥
no_change_by_finding_a_refusal tests b n found finds changed = changed finds.same

-- The next piece

-- a chunk is neither told of no piece nor as none, and its first value and length are those of the piece;
pub no_chunk_told_of_no_piece : (shape : Shape) (first : ℤ) (count : ℕ) → reply_in Loop shape None ≡ Chunk first count → ⊥
no_chunk_told_of_no_piece shape first count told = cc

pub no_chunk_told_as_none : (shape : Shape) (piece : Piece) → reply_in Loop shape (Some piece) ≡ NoChunk → ⊥
no_chunk_told_as_none shape piece told = cc

pub no_chunk_told_from_another_value : (shape : Shape) (piece : Piece) (first : ℤ) (count : ℕ) → reply_in Loop shape (Some piece) ≡ Chunk first count → value_at shape piece.0 ≢ first → ⊥
no_chunk_told_from_another_value shape piece first count told differs = differs (cc)

pub no_chunk_told_longer_or_shorter : (shape : Shape) (piece : Piece) (first : ℤ) (count : ℕ) → reply_in Loop shape (Some piece) ≡ Chunk first count → piece.1 - piece.0 ≢ count → ⊥
no_chunk_told_longer_or_shorter shape piece first count told differs = differs (cc)

-- and a section is numbered from 1, 0 if there is none
pub no_section_told_by_another_number : (shape : Shape) (piece : Piece) (number : ℕ) → reply_in Sections shape (Some piece) ≡ Section number → suc piece.0 ≢ number → ⊥
no_section_told_by_another_number shape piece number told differs = differs (cc)

pub no_section_told_of_no_piece : (shape : Shape) (number : ℕ) → reply_in Sections shape None ≡ Section number → 0 ≢ number → ⊥
no_section_told_of_no_piece shape number told differs = differs (cc)

-- no member that takes is told that nothing is left though it claimed a piece, or of a piece that it did not claim
pub no_end_told_though_claimed : (b n : SeatView) (piece : Piece) (takes : TakesPiece Loop b NoChunk n) → takes.piece ≡ Some piece → ⊥
no_end_told_though_claimed b n piece takes is = let told : NoChunk ≡ reply_in Loop takes.claims.share.1 (Some piece) = takes.reply_is ∙ ap (reply_in Loop takes.claims.share.1) is in cc

pub no_chunk_told_though_none_claimed : (b n : SeatView) (first : ℤ) (count : ℕ) (takes : TakesPiece Loop b (Chunk first count) n) → takes.piece ≡ None → ⊥
no_chunk_told_though_none_claimed b n first count takes is = let told : Chunk first count ≡ reply_in Loop takes.claims.share.1 None = takes.reply_is ∙ ap (reply_in Loop takes.claims.share.1) is in cc

pub no_reply_but_of_the_piece_claimed : (construct : Construct) (b n : SeatView) (reply : Reply) (takes : TakesPiece construct b reply n) → reply ≢ reply_in construct takes.claims.share.1 takes.piece → ⊥
no_reply_but_of_the_piece_claimed construct b n reply takes other = other takes.reply_is

-- none takes outside of a share, takes without an event, or waits
pub no_piece_taken_outside_by_seat : (construct : Construct) (b n : SeatView) (reply : Reply) → TakesPiece construct b reply n → b.seen.current ≡ None → ⊥
no_piece_taken_outside_by_seat construct b n reply takes outside = none_not_some b.seen.current takes.claims.share outside takes.claims.inside

pub no_piece_taken_without_an_event : (construct : Construct) (b n : SeatView) (reply : Reply) → TakesPiece construct b reply n → n.did ≡ b.did → ⊥
no_piece_taken_without_an_event construct b n reply takes same =
    let more = ap length takes.claims.acts.did in
    let as_before = ap length same in
    omega arith

pub no_wait_for_a_piece : (construct : Construct) (b n : SeatView) → TakesPiece construct b Wait n → ⊥
no_wait_for_a_piece Loop b n takes = no_wait_told takes.claims.share.1 takes.piece takes.reply_is
  where
    no_wait_told : (shape : Shape) (piece : Option Piece) → Wait ≡ reply_in Loop shape piece → ⊥
    no_wait_told shape None told = cc
    no_wait_told shape (Some piece) told = cc
no_wait_for_a_piece Sections b n takes = let told = takes.reply_is in cc

-- so only a member of an ordered loop waits
pub no_wait_in_a_plain_loop : (b n : SeatView) → is_ordered b.seen.current ≡ false → AnswersNext Loop b Wait n → ⊥
no_wait_in_a_plain_loop b n plain answers =
    no_answer_beside (next_tests_of Loop b.seen) (TakesNext Loop b) b n Wait answers (λ refusal e. cc) (λ takes. no_wait_for_a_piece Loop b n (rw plain at takes))

pub no_wait_for_a_section : (b n : SeatView) → AnswersNext Sections b Wait n → ⊥
no_wait_for_a_section b n answers = no_answer_beside (next_tests_of Sections b.seen) (TakesNext Sections b) b n Wait answers (λ refusal e. cc) (λ takes. no_wait_for_a_piece Sections b n takes)

-- and it takes nothing before it handed its piece on, nor out of turn, nor waits in turn
pub no_chunk_taken_at_once_in_an_ordered_loop : (b n : SeatView) (reply : Reply) → is_ordered b.seen.current ≡ true → TakesNext Loop b reply n → (HandsOnAndTakes b reply n → ⊥) → ⊥
no_chunk_taken_at_once_in_an_ordered_loop b n reply ordered takes never = never (rw ordered at takes)

pub no_piece_handed_on_in_a_plain_loop : (b n : SeatView) (reply : Reply) → is_ordered b.seen.current ≡ false → TakesNext Loop b reply n → (TakesPiece Loop b reply n → ⊥) → ⊥
no_piece_handed_on_in_a_plain_loop b n reply plain takes never = never (rw plain at takes)

pub no_chunk_before_its_turn : (b n : SeatView) (reply : Reply) (takes : HandsOnAndTakes b reply n) → own_turn b.members b.member takes.turn.events ≡ false → reply ≢ Wait → ⊥
no_chunk_before_its_turn b n reply takes out taken = taken (takes.waits (takes.turn.answer_is ∙ out)).0

pub no_change_before_its_turn : (b n : SeatView) (reply : Reply) (takes : HandsOnAndTakes b reply n) → own_turn b.members b.member takes.turn.events ≡ false → n ≢ b → ⊥
no_change_before_its_turn b n reply takes out changed = changed (takes.waits (takes.turn.answer_is ∙ out)).1

pub no_wait_for_a_chunk_in_turn : (b n : SeatView) (takes : HandsOnAndTakes b Wait n) → own_turn b.members b.member takes.turn.events ≡ true → ⊥
no_wait_for_a_chunk_in_turn b n takes turn = no_wait_for_a_piece Loop takes.between n (takes.takes (takes.turn.answer_is ∙ turn))

pub nothing_taken_otherwise_in_turn : (b n : SeatView) (reply : Reply) (takes : HandsOnAndTakes b reply n) → own_turn b.members b.member takes.turn.events ≡ true → (TakesPiece Loop takes.between reply n → ⊥) → ⊥
nothing_taken_otherwise_in_turn b n reply takes turn never = never (takes.takes (takes.turn.answer_is ∙ turn))

pub no_other_piece_handed_on_by_seat : (b n : SeatView) (reply : Reply) (takes : HandsOnAndTakes b reply n) → takes.handed ≡ true → (takes.between.did ≡ piece_handed_on b ∷ b.did → ⊥) → ⊥
no_other_piece_handed_on_by_seat b n reply takes handed other = other (takes.turn.acts handed).did

-- no chunk or section is told where the member's place refuses the call
pub no_piece_against_its_place : (construct : Construct) (b n : SeatView) (reply : Reply) (due : Refusal) → least (next_tests_of construct b.seen) ≡ Some due → ((refusal : Refusal) → reply ≡ Refused refusal → ⊥) → AnswersNext construct b reply n → ⊥
no_piece_against_its_place construct b n reply due is other answers = other due (answers.refused due is).0

-- Ends

-- a member has seen no end unless it was answered that nothing is left, or saw its share cancelled; and then it has
pub no_end_seen_of_an_open_share : (seen : Seen) → seen.drained ≡ false → seen.leaving ≡ false → has_seen_end seen ≡ true → ⊥
no_end_seen_of_an_open_share seen more stays ended = let none : has_seen_end seen ≡ false = rw (more, stays) refl in not_both (has_seen_end seen) ended none

pub no_end_unseen_though_nothing_is_left : (seen : Seen) → seen.drained ≡ true → has_seen_end seen ≡ false → ⊥
no_end_unseen_though_nothing_is_left seen none unseen = let ended : has_seen_end seen ≡ true = rw none refl in not_both (has_seen_end seen) ended unseen

pub no_end_unseen_though_it_leaves : (seen : Seen) → seen.leaving ≡ true → has_seen_end seen ≡ false → ⊥
no_end_unseen_though_it_leaves seen leaves unseen = by seen.drained (rw leaves at unseen)
  where
    by : (drained : Bool) → (drained || true) ≡ false → ⊥
    by true e = cc
    by false e = cc

-- a member that looks for an end is let go only from a share that is cancelled, of which it has seen that; else it is refused as NotDrained
found_as_cancelled : (b n : SeatView) (found : Option Refusal) (cancelled : Bool) (looks : LooksForEnd b found n) → own_cancelled b.member looks.sees.events ≡ cancelled → found ≡ (if cancelled then None else Some NotDrained)
found_as_cancelled b n found cancelled looks is = looks.found_is ∙ ap (λ (c : Bool). if c then None else Some NotDrained) (looks.sees.answer_is ∙ is)

pub no_end_let_through_uncancelled : (b n : SeatView) (looks : LooksForEnd b None n) → own_cancelled b.member looks.sees.events ≡ false → ⊥
no_end_let_through_uncancelled b n looks is = let found = found_as_cancelled b n None false looks is in cc

pub no_end_refused_of_a_cancelled_share : (b n : SeatView) (refusal : Refusal) (looks : LooksForEnd b (Some refusal) n) → own_cancelled b.member looks.sees.events ≡ true → ⊥
no_end_refused_of_a_cancelled_share b n refusal looks is = let found = found_as_cancelled b n (Some refusal) true looks is in cc

pub no_end_refused_as_another : (b n : SeatView) (refusal : Refusal) → LooksForEnd b (Some refusal) n → refusal ≢ NotDrained → ⊥
no_end_refused_as_another b n refusal looks differs = by looks.cancelled looks.found_is
  where
    by : (cancelled : Bool) → Some refusal ≡ (if cancelled then None else Some NotDrained) → ⊥
    by true e = cc
    by false e = differs (cc)

pub no_end_let_through_unseen : (b n : SeatView) (looks : LooksForEnd b None n) → n.seen.leaving ≡ false → ⊥
no_end_let_through_unseen b n looks stays = by looks.cancelled refl looks.found_is
  where
    by : (cancelled : Bool) → looks.cancelled ≡ cancelled → None ≡ (if cancelled then None else Some NotDrained) → ⊥
    by true is e = not_both n.seen.leaving (looks.sees.leaves is) stays
    by false is e = cc

-- a member whose place refuses the end finds that refusal, and one that has seen an end finds none; neither changes anything
pub no_other_end_refusal_than_by_its_place : (construct : Construct) (kind : EndKind) (b n : SeatView) (found : Option Refusal) (due : Refusal) → FindsEnd construct kind b found n → least (end_tests_of construct kind b.seen) ≡ Some due → found ≢ Some due → ⊥
no_other_end_refusal_than_by_its_place construct kind b n found due finds is differs = differs (finds.refused due is).0

pub no_change_by_an_end_against_its_place : (construct : Construct) (kind : EndKind) (b n : SeatView) (found : Option Refusal) (due : Refusal) → FindsEnd construct kind b found n → least (end_tests_of construct kind b.seen) ≡ Some due → n ≢ b → ⊥
no_change_by_an_end_against_its_place construct kind b n found due finds is changed = changed (finds.refused due is).1

pub no_end_refused_that_was_seen : (construct : Construct) (kind : EndKind) (b n : SeatView) (refusal : Refusal) → has_seen_end b.seen ≡ true → least (end_tests_of construct kind b.seen) ≡ None → FindsEnd construct kind b (Some refusal) n → ⊥
no_end_refused_that_was_seen construct kind b n refusal ended none finds = let is : ◌≡◌ {A = Option Refusal} (Some refusal) None = (rw ended at (finds.admitted none)).0 in cc

pub no_change_by_an_end_that_was_seen : (construct : Construct) (kind : EndKind) (b n : SeatView) (found : Option Refusal) → has_seen_end b.seen ≡ true → least (end_tests_of construct kind b.seen) ≡ None → FindsEnd construct kind b found n → n ≢ b → ⊥
no_change_by_an_end_that_was_seen construct kind b n found ended none finds changed = changed (rw ended at (finds.admitted none)).1

pub no_end_let_through_unlooked : (construct : Construct) (kind : EndKind) (b n : SeatView) (found : Option Refusal) → has_seen_end b.seen ≡ false → least (end_tests_of construct kind b.seen) ≡ None → FindsEnd construct kind b found n → (LooksForEnd b found n → ⊥) → ⊥
no_end_let_through_unlooked construct kind b n found unseen none finds never = never (rw unseen at (finds.admitted none))

-- no end with no barrier is finished by a member that has not left its share, or of which a refusal was found; none is refused and left, and none waits
pub no_end_finished_and_not_left : (construct : Construct) (b n : SeatView) (ends : EndsAtOnce construct b Finished n) → (LeavesShare ends.between n → ⊥) → ⊥
no_end_finished_and_not_left construct b n ends stays = by ends.found ends.leaves
  where
    by : (found : Option Refusal) → LeavesUnless found ends.between Finished n → ⊥
    by None leaves = stays leaves.1
    by (Some refusal) leaves = let told = leaves.0 in cc

pub no_end_finished_though_refused : (construct : Construct) (b n : SeatView) (refusal : Refusal) (ends : EndsAtOnce construct b Finished n) → ends.found ≡ Some refusal → ⊥
no_end_finished_though_refused construct b n refusal ends is = let told = (rw is at ends.leaves).0 in cc

pub no_end_refused_otherwise_than_found : (construct : Construct) (b n : SeatView) (reply : Reply) (found : Refusal) (ends : EndsAtOnce construct b reply n) → ends.found ≡ Some found → reply ≢ Refused found → ⊥
no_end_refused_otherwise_than_found construct b n reply found ends is other = other (rw is at ends.leaves).0

pub no_end_let_through_unfinished : (construct : Construct) (b n : SeatView) (reply : Reply) (ends : EndsAtOnce construct b reply n) → ends.found ≡ None → reply ≢ Finished → ⊥
no_end_let_through_unfinished construct b n reply ends is other = other (rw is at ends.leaves).0

pub no_end_of_another_kind_at_once : (construct : Construct) (b n : SeatView) (reply : Reply) (ends : EndsAtOnce construct b reply n) → (FindsEnd construct Nowait b ends.found ends.between → ⊥) → ⊥
no_end_of_another_kind_at_once construct b n reply ends other = other ends.finds

pub no_end_refused_and_left : (construct : Construct) (b n : SeatView) (refusal : Refusal) (ends : EndsAtOnce construct b (Refused refusal) n) → n ≢ ends.between → ⊥
no_end_refused_and_left construct b n refusal ends left = by ends.found ends.leaves
  where
    by : (found : Option Refusal) → LeavesUnless found ends.between (Refused refusal) n → ⊥
    by None leaves = let told = leaves.0 in cc
    by (Some other) leaves = left leaves.1

pub no_wait_at_an_end : (construct : Construct) (b n : SeatView) → EndsAtOnce construct b Wait n → ⊥
no_wait_at_an_end construct b n ends = by ends.found ends.leaves
  where
    by : (found : Option Refusal) → LeavesUnless found ends.between Wait n → ⊥
    by None leaves = let told = leaves.0 in cc
    by (Some refusal) leaves = let told = leaves.0 in cc

-- no share is left by another event than its end
pub no_share_left_without_its_end : (b n : SeatView) → LeavesShare b n → (n.did ≡ End (share_number b.seen.current) b.member ∷ b.did → ⊥) → ⊥
no_share_left_without_its_end b n leaves other = other leaves.did

-- Ordered parts

-- no part is begun out of turn, and none waits in turn, or changes anything out of it
begun_as_turn : (value : ℤ) (b n : SeatView) (reply : Reply) (turn : Bool) (begins : BeginsOwnPart value b reply n) → own_turn b.members b.member begins.turn.events ≡ turn → reply ≡ (if turn then Finished else Wait)
begun_as_turn value b n reply turn begins is = begins.reply_is ∙ ap (λ (begun : Bool). if begun then Finished else Wait) (begins.turn.answer_is ∙ is)

pub no_part_begun_out_of_turn : (value : ℤ) (b n : SeatView) (begins : BeginsOwnPart value b Finished n) → own_turn b.members b.member begins.turn.events ≡ false → ⊥
no_part_begun_out_of_turn value b n begins out = let told = begun_as_turn value b n Finished false begins out in cc

pub no_part_waits_in_turn : (value : ℤ) (b n : SeatView) (begins : BeginsOwnPart value b Wait n) → own_turn b.members b.member begins.turn.events ≡ true → ⊥
no_part_waits_in_turn value b n begins turn = let told = begun_as_turn value b n Wait true begins turn in cc

pub no_change_by_a_part_that_waits : (value : ℤ) (b n : SeatView) → BeginsOwnPart value b Wait n → n ≢ b → ⊥
no_change_by_a_part_that_waits value b n begins changed = by begins.begun refl begins.reply_is
  where
    by : (begun : Bool) → begins.begun ≡ begun → Wait ≡ (if begun then Finished else Wait) → ⊥
    by true is e = cc
    by false is e = changed (begins.turn.same is)

-- none is begun of no iteration, or as the part of another
pub no_part_begun_of_no_iteration : (value : ℤ) (b n : SeatView) (reply : Reply) → BeginsOwnPart value b reply n → seen_iteration b.seen.current value ≡ None → ⊥
no_part_begun_of_no_iteration value b n reply begins none = none_not_some (seen_iteration b.seen.current value) begins.iteration none begins.iteration_is

pub no_part_begun_of_another_iteration : (value : ℤ) (b n : SeatView) (reply : Reply) (iteration : ℕ) (begins : BeginsOwnPart value b reply n) → seen_iteration b.seen.current value ≡ Some iteration → begins.begun ≡ true →
    (n.did ≡ Part (share_number b.seen.current) b.member iteration ∷ b.did → ⊥) → ⊥
no_part_begun_of_another_iteration value b n reply iteration begins is begun other =
    let same : ◌≡◌ {A = Option ℕ} (Some begins.iteration) (Some iteration) = sym begins.iteration_is ∙ is in
    let number : begins.iteration ≡ iteration = cc in
    other ((begins.turn.acts begun).did ∙ ap (λ (k : ℕ). Part (share_number b.seen.current) b.member k ∷ b.did) number)

-- none is begun or ended against the member's place
pub no_part_begun_against_its_place : (value : ℤ) (b n : SeatView) (due : Refusal) → least (part_tests value b.seen) ≡ Some due → AnswersPart value b Finished n → ⊥
no_part_begun_against_its_place value b n due is answers = let told = (answers.refused due is).0 in cc

pub no_part_ended_against_its_place : (b n : SeatView) (due : Refusal) → least (part_end_tests b.seen) ≡ Some due → AnswersPartEnd b Finished n → ⊥
no_part_ended_against_its_place b n due is answers = let told = (answers.refused due is).0 in cc

-- and none is ended and left open, or waits for its end
pub no_part_ended_and_left_open : (b n : SeatView) (reply : Reply) → EndsOwnPart b reply n → (n.did ≡ PartEnd (share_number b.seen.current) b.member ∷ b.did → ⊥) → ⊥
no_part_ended_and_left_open b n reply ends other = other ends.acts.did

pub no_part_ended_but_finished : (b n : SeatView) (reply : Reply) → EndsOwnPart b reply n → reply ≢ Finished → ⊥
no_part_ended_but_finished b n reply ends other = other ends.reply_is

pub no_wait_at_the_end_of_a_part : (b n : SeatView) → AnswersPartEnd b Wait n → ⊥
no_wait_at_the_end_of_a_part b n answers = no_answer_beside (part_end_tests b.seen) (EndsOwnPart b) b n Wait answers (λ refusal e. cc) (λ ends. let told = ends.reply_is in cc)

-- Cancellation

-- nothing is cancelled, told as cancelled or changed where cancel-var does not allow it
pub no_yes_where_cancellation_is_not_allowed : (construct : Construct) (clause : Bool) (b n : SeatView) → AnswersCancel construct false clause b (Cancelling true) n → ⊥
no_yes_where_cancellation_is_not_allowed construct clause b n answers = no_answer_beside _ _ b n (Cancelling true) answers (λ refusal e. cc) (λ does. let told = does.0 in cc)

pub no_change_where_cancellation_is_not_allowed : (construct : Construct) (clause : Bool) (b n : SeatView) (reply : Reply) → AnswersCancel construct false clause b reply n → n ≢ b → ⊥
no_change_where_cancellation_is_not_allowed construct clause b n reply answers changed = by (least (cancel_place_tests (construct_kind construct) b.seen)) refl
  where
    by : (found : Option Refusal) → least (cancel_place_tests (construct_kind construct) b.seen) ≡ found → ⊥
    by None e = changed (answers.admitted e).1
    by (Some refusal) e = changed (answers.refused refusal e).1

pub no_other_answer_where_cancellation_is_not_allowed : (construct : Construct) (clause : Bool) (b n : SeatView) (reply : Reply) → least (cancel_place_tests (construct_kind construct) b.seen) ≡ None → AnswersCancel construct false clause b reply n → reply ≢ Cancelling false → ⊥
no_other_answer_where_cancellation_is_not_allowed construct clause b n reply none answers other = other (answers.admitted none).0

-- a true clause never answers no where it is allowed, cancels nothing but the member's share, and leaves no member that has not seen that
pub no_no_to_a_true_clause : (construct : Construct) (b n : SeatView) → AnswersCancel construct true true b (Cancelling false) n → ⊥
no_no_to_a_true_clause construct b n answers = no_answer_beside _ _ b n (Cancelling false) answers (λ refusal e. cc) (λ does. let told = does.reply_is in cc)

pub no_share_cancelled_without_an_event : (b n : SeatView) (reply : Reply) (cancels : CancelsAndSees b reply n) → (cancels.between.did ≡ CancelEvent b.member (OneShare (share_number b.seen.current)) ∷ b.did → ⊥) → ⊥
no_share_cancelled_without_an_event b n reply cancels other = other cancels.cancels.did

pub no_share_cancelled_unseen : (b n : SeatView) (reply : Reply) → CancelsAndSees b reply n → n.seen.leaving ≡ false → ⊥
no_share_cancelled_unseen b n reply cancels stays = not_both n.seen.leaving (cancels.sees.leaves refl) stays

pub no_other_answer_than_yes_to_a_true_clause : (b n : SeatView) (reply : Reply) → CancelsAndSees b reply n → reply ≢ Cancelling true → ⊥
no_other_answer_than_yes_to_a_true_clause b n reply cancels other = other cancels.reply_is

-- a false clause, or a cancellation point, tells of the share what holds of it, and no member that is told yes has not seen that
told_cancelled : (b n : SeatView) (told cancelled : Bool) (tells : TellsCancelled b (Cancelling told) n) → own_cancelled b.member tells.sees.events ≡ cancelled → told ≡ cancelled
told_cancelled b n told cancelled tells is = let e = tells.reply_is in let same : told ≡ tells.cancelled = cc in same ∙ tells.sees.answer_is ∙ is

pub no_other_answer_than_whether_it_is_cancelled : (b n : SeatView) (told : Bool) (tells : TellsCancelled b (Cancelling told) n) → told ≢ own_cancelled b.member tells.sees.events → ⊥
no_other_answer_than_whether_it_is_cancelled b n told tells differs = differs (told_cancelled b n told (own_cancelled b.member tells.sees.events) tells refl)

pub no_yes_to_a_member_that_has_not_seen : (b n : SeatView) → TellsCancelled b (Cancelling true) n → n.seen.leaving ≡ false → ⊥
no_yes_to_a_member_that_has_not_seen b n tells stays = let e = tells.reply_is in let yes : tells.cancelled ≡ true = cc in not_both n.seen.leaving (tells.sees.leaves yes) stays

pub no_change_by_a_no : (b n : SeatView) → TellsCancelled b (Cancelling false) n → n ≢ b → ⊥
no_change_by_a_no b n tells changed = let e = tells.reply_is in let not_so : tells.cancelled ≡ false = cc in changed (tells.sees.same not_so)

pub no_share_cancelled_by_a_false_clause : (construct : Construct) (b n : SeatView) (reply : Reply) → least (cancel_place_tests (construct_kind construct) b.seen) ≡ None → AnswersCancel construct true false b reply n → (TellsCancelled b reply n → ⊥) → ⊥
no_share_cancelled_by_a_false_clause construct b n reply none answers never = never (answers.admitted none)

-- Starts

-- a member that may not enter yet only waits, one whose share differs is only refused as Mismatch, and neither changes anything
pub no_start_goes_on_that_waits : (Then : SeatView → Reply → SeatView → Type 0) (shape : Shape) (b n : SeatView) (reply : Reply) (delay : Delay) (enters : EntersAnd Then shape b reply n) → enters.entry ≡ NotYet delay → reply ≢ Wait → ⊥
no_start_goes_on_that_waits Then shape b n reply delay enters is other = other (rw is at enters.enters).0

pub no_change_by_a_start_that_waits : (Then : SeatView → Reply → SeatView → Type 0) (shape : Shape) (b n : SeatView) (reply : Reply) (delay : Delay) (enters : EntersAnd Then shape b reply n) → enters.entry ≡ NotYet delay → n ≢ b → ⊥
no_change_by_a_start_that_waits Then shape b n reply delay enters is changed = changed (rw is at enters.enters).1

pub no_start_in_another_shape_than_others : (Then : SeatView → Reply → SeatView → Type 0) (shape : Shape) (b n : SeatView) (reply : Reply) (enters : EntersAnd Then shape b reply n) → enters.entry ≡ Differs → reply ≢ Refused Mismatch → ⊥
no_start_in_another_shape_than_others Then shape b n reply enters is other = other (rw is at enters.enters).0

pub no_change_by_a_start_in_another_shape : (Then : SeatView → Reply → SeatView → Type 0) (shape : Shape) (b n : SeatView) (reply : Reply) (enters : EntersAnd Then shape b reply n) → enters.entry ≡ Differs → n ≢ b → ⊥
no_change_by_a_start_in_another_shape Then shape b n reply enters is changed = changed (rw is at enters.enters).1

-- one that entered did so in this shape, and takes its piece
pub no_share_entered_in_another_shape : (Then : SeatView → Reply → SeatView → Type 0) (shape : Shape) (b n : SeatView) (reply : Reply) (enters : EntersAnd Then shape b reply n) → enters.entry ≡ Entered → (enters.between.did ≡ Enter b.seen.entered b.member shape ∷ b.did → ⊥) → ⊥
no_share_entered_in_another_shape Then shape b n reply enters is other = let opened : SeatOpens b shape Entered enters.between = rw is at enters.opens in other opened.did

pub nothing_else_done_once_entered : (Then : SeatView → Reply → SeatView → Type 0) (shape : Shape) (b n : SeatView) (reply : Reply) (enters : EntersAnd Then shape b reply n) → enters.entry ≡ Entered → (Then enters.between reply n → ⊥) → ⊥
nothing_else_done_once_entered Then shape b n reply enters is never = never (rw is at enters.enters)

pub no_start_without_a_step : (Then : SeatView → Reply → SeatView → Type 0) (shape : Shape) (b n : SeatView) (reply : Reply) (enters : EntersAnd Then shape b reply n) → (SeatOpens b shape enters.entry enters.between → ⊥) → ⊥
no_start_without_a_step Then shape b n reply enters never = never enters.opens

-- no member executes a single that waited for it, or another single than the share tells
pub no_executor_of_a_start_that_waits : (shape : Shape) (b n : SeatView) (executes : Bool) (delay : Delay) (enters : EntersAnd ExecutesOrWaits shape b (Executor executes) n) → enters.entry ≡ NotYet delay → ⊥
no_executor_of_a_start_that_waits shape b n executes delay enters is = let told = (rw is at enters.enters).0 in cc

pub no_other_answer_of_a_passed_single : (b n : SeatView) (executes : Bool) (reply : Reply) (passes : PassesOwnSingle b reply n) → passes.answer ≡ passage.Passed executes → reply ≢ Executor executes → ⊥
no_other_answer_of_a_passed_single b n executes reply passes is other = other (passes.reply_is ∙ ap reply_of_passage is)

pub no_other_answer_of_a_single_not_passed : (b n : SeatView) (delay : Delay) (reply : Reply) (passes : PassesOwnSingle b reply n) → passes.answer ≡ passage.NotYet delay → reply ≢ Wait → ⊥
no_other_answer_of_a_single_not_passed b n delay reply passes is other = other (passes.reply_is ∙ ap reply_of_passage is)

pub no_other_answer_of_another_share_than_a_single : (b n : SeatView) (reply : Reply) (passes : PassesOwnSingle b reply n) → passes.answer ≡ passage.Differs → reply ≢ Refused Mismatch → ⊥
no_other_answer_of_another_share_than_a_single b n reply passes is other = other (passes.reply_is ∙ ap reply_of_passage is)

pub no_single_passed_without_a_step : (b n : SeatView) (reply : Reply) (passes : PassesOwnSingle b reply n) → (SeatPasses b passes.answer n → ⊥) → ⊥
no_single_passed_without_a_step b n reply passes never = never passes.passes

-- a member awaits words in a single with words that another executes, and nowhere else
pub no_words_awaited_elsewhere : (seen : Seen) → in_kind is_copy seen.current ≡ false → awaits_payload seen ≡ true → ⊥
no_words_awaited_elsewhere seen elsewhere waits = not_both (in_kind is_copy seen.current) (and_left (in_kind is_copy seen.current) seen.drained (and_left (in_kind is_copy seen.current && seen.drained) (not seen.in_part) waits)) elsewhere

pub no_words_awaited_by_their_executor : (seen : Seen) → seen.drained ≡ false → awaits_payload seen ≡ true → ⊥
no_words_awaited_by_their_executor seen executes waits = not_both seen.drained (and_right (in_kind is_copy seen.current) seen.drained (and_left (in_kind is_copy seen.current && seen.drained) (not seen.in_part) waits)) executes

pub no_words_unawaited : (seen : Seen) → in_kind is_copy seen.current ≡ true → seen.drained ≡ true → seen.in_part ≡ false → awaits_payload seen ≡ false → ⊥
no_words_unawaited seen inside drained apart goes = let waits : awaits_payload seen ≡ true = rw (inside, drained, apart) refl in not_both (awaits_payload seen) waits goes

-- the one that got the piece executes such a single, and any other waits
pub no_wait_with_the_piece_of_a_single : (b n : SeatView) (piece : Piece) (does : ExecutesOrWaits b Wait n) → does.piece ≡ Some piece → ⊥
no_wait_with_the_piece_of_a_single b n piece does is = let told = does.reply_is ∙ ap executes_or_waits is in cc

pub no_executor_without_the_piece_of_a_single : (b n : SeatView) (executes : Bool) (does : ExecutesOrWaits b (Executor executes) n) → does.piece ≡ None → ⊥
no_executor_without_the_piece_of_a_single b n executes does is = let told = does.reply_is ∙ ap executes_or_waits is in cc

pub no_executor_told_that_another_executes : (b n : SeatView) (piece : Piece) (reply : Reply) (does : ExecutesOrWaits b reply n) → does.piece ≡ Some piece → reply ≢ Executor true → ⊥
no_executor_told_that_another_executes b n piece reply does is other = other (does.reply_is ∙ ap executes_or_waits is)

pub no_single_executed_without_a_claim : (b n : SeatView) (reply : Reply) (does : ExecutesOrWaits b reply n) → (SeatClaims b does.piece n → ⊥) → ⊥
no_single_executed_without_a_claim b n reply does never = never does.claims

-- no construct is started as another one
pub no_loop_started_otherwise_by_seat : (loop : LoopDesc) (b n : SeatView) (reply : Reply) → StartsBySeat (starts.Loop loop) b reply n → (EntersAnd (TakesPiece Loop) (construct_shape (starts.Loop loop)) b reply n → ⊥) → ⊥
no_loop_started_otherwise_by_seat loop b n reply does never = never does

pub no_sections_started_otherwise_by_seat : (count : ℕ) (kind : EndKind) (b n : SeatView) (reply : Reply) → StartsBySeat (starts.Sections count kind) b reply n → (EntersAnd (TakesPiece Sections) (construct_shape (starts.Sections count kind)) b reply n → ⊥) → ⊥
no_sections_started_otherwise_by_seat count kind b n reply does never = never does

pub no_single_started_otherwise_by_seat : (b n : SeatView) (reply : Reply) → StartsBySeat starts.Single b reply n → (PassesOwnSingle b reply n → ⊥) → ⊥
no_single_started_otherwise_by_seat b n reply does never = never does

pub no_copy_started_otherwise_by_seat : (b n : SeatView) (reply : Reply) → StartsBySeat starts.SingleCopy b reply n → (EntersAnd ExecutesOrWaits (single_shape true) b reply n → ⊥) → ⊥
no_copy_started_otherwise_by_seat b n reply does never = never does

-- and no start is answered as a call of another kind
pub no_start_is_finished : IsStarted Finished → ⊥
no_start_is_finished started = started

pub no_start_tells_of_cancellation : (cancelling : Bool) → IsStarted (Cancelling cancelling) → ⊥
no_start_tells_of_cancellation cancelling started = started

pub no_start_refused_but_for_another_shape : (refusal : Refusal) → refusal ≢ Mismatch → IsStarted (Refused refusal) → ⊥
no_start_refused_but_for_another_shape Mismatch differs started = differs refl
no_start_refused_but_for_another_shape _ differs started = started

-- Calls by value: none is answered as another one

pub no_next_piece_otherwise_by_seat : (construct : Construct) (b n : SeatView) (reply : Reply) → AnswersInsideBySeat (calls.Next construct) b reply n → (AnswersNext construct b reply n → ⊥) → ⊥
no_next_piece_otherwise_by_seat construct b n reply answers never = never answers

pub no_end_nowait_otherwise_by_seat : (construct : Construct) (b n : SeatView) (reply : Reply) → AnswersInsideBySeat (calls.EndNowait construct) b reply n → (EndsAtOnce construct b reply n → ⊥) → ⊥
no_end_nowait_otherwise_by_seat construct b n reply answers never = never answers

pub no_part_begun_otherwise_by_seat : (value : ℤ) (b n : SeatView) (reply : Reply) → AnswersInsideBySeat (calls.BeginPart value) b reply n → (AnswersPart value b reply n → ⊥) → ⊥
no_part_begun_otherwise_by_seat value b n reply answers never = never answers

pub no_part_ended_otherwise_by_seat : (b n : SeatView) (reply : Reply) → AnswersInsideBySeat calls.EndPart b reply n → (AnswersPartEnd b reply n → ⊥) → ⊥
no_part_ended_otherwise_by_seat b n reply answers never = never answers

pub no_share_cancelled_otherwise_by_seat : (construct : Construct) (clause allowed : Bool) (b n : SeatView) (reply : Reply) → AnswersInsideBySeat (calls.Cancel construct clause allowed) b reply n → (AnswersCancel construct allowed clause b reply n → ⊥) → ⊥
no_share_cancelled_otherwise_by_seat construct clause allowed b n reply answers never = never answers

-- Starts that are not made

-- a share that is not entered leaves the seat as it was, and so does a start that is not made
pub no_change_by_a_share_not_entered : (construct : Construct) (shape : Shape) (b n : SeatView) → StaysOutside construct shape b n → n ≢ b → ⊥
no_change_by_a_share_not_entered construct shape b n stays changed = changed stays.1

pub no_change_by_a_start_not_made : (start : ShareStart) (b n : SeatView) → IsNotStarted start b n → n ≢ b → ⊥
no_change_by_a_start_not_made start b n stays changed = changed stays.1

-- one of the first eight shares of a team that has one seat waits for nobody
pub no_first_share_waits_in_a_team_of_one : (construct : Construct) (shape : Shape) (b n : SeatView) → b.seated ≡ 1 → nat_lt b.seen.entered OPEN_SHARES ≡ true → EntersAnd (TakesPiece construct) shape b Wait n → ⊥
no_first_share_waits_in_a_team_of_one construct shape b n one few waits = by waits.entry waits.between waits.opens waits.enters
  where
    by : (entry : Entry) (between : SeatView) → SeatOpens b shape entry between → EntersBy entry (TakesPiece construct) b between Wait n → ⊥
    by Entered between opens enters = no_wait_for_a_piece construct between n enters
    by (NotYet NoRoom) between opens enters = let room : true ≡ false = rw few at opens.room_is in cc
    by (NotYet BeingOpened) between opens enters = opens.1 one
    by Differs between opens enters = let told = enters.0 in cc
