-- What the board answers to the operations of a start: they are done or refused, and count nothing; which refusal comes first.
use Rattle.std.proofs.Common.{◌≡◌, ◌≢◌, ◌<◌, ◌≤◌, ℕ, Bool, true, false, List, [], ◌∷◌, ◌++◌, Option, Some, None, refl, ap, sym, ◌∙◌, arith, inl, inr}
use Rattle.std.specs.Prelude.{nat_le, not, ◌&&◌, ◌+◌}
use Rattle.std.proofs.lemmas.Bool.{cases_Bool, cases_lt, cases_eq}
use Rattle.std.proofs.lemmas.Bool.Decides.{nat_tests}
use Rattle.gomp_types.specs.declared.refusal.Clash.{Clash}
use Rattle.gomp_types.specs.declared.refusal.Place.TheVariants.{Share}
use Rattle.gomp_types.specs.declared.refusal.Refusal.{Refusal}
use Rattle.gomp_types.specs.declared.refusal.Refusal.TheVariants.{BadMember, Ended, Broken, Waiting, NotInside, InsideTask, Mismatch, TraceFull, NoMemory}
use Rattle.gomp_types.specs.declared.reply.Reply.{Reply}
use Rattle.gomp_types.specs.declared.reply.Reply.TheVariants.{Finished, Refused}
use Rattle.gomp_types.specs.RefusalTexts.{number_of}
use Rattle.gomp_types.specs.Tests.{Test}
use Rattle.gomp_types.specs.Least.{lesser, least}
use Rattle.gomp_events.specs.declared.event.Event.{Event}
use Rattle.gomp_events.specs.Breaks.{broken_tests}
use Rattle.gomp_events.specs.Events.{clash_of, has_left_region}
use Rattle.gomp_board.specs.declared.op.Op.{Op}
use Rattle.gomp_board.specs.declared.op.Op.TheVariants.{Reserve, Got, Break}
use Rattle.gomp_board.specs.Boards.{Stands, members_of, kept_by}
use Rattle.gomp_board.specs.Ops.{busy_tests, awaits_barrier, goes_to_the_end, words_ask}
use Rattle.gomp_events.specs.TaskCalls.{outside_tasks_tests, room_tests, lacks_room}
use Rattle.gomp_events.specs.Tasks.{in_task}
use Rattle.gomp_waits.specs.Waits.{WaitBoardView, RoomTerms, comes_amid_wait, resumes_wait, is_waiting, asked_refusal, room_terms, AskedAnswer}
use Rattle.gomp_waits.specs.Words.{words_tests, payload_refusal}
use Rattle.gomp_team_board.specs.Locked.{team_size, locked_refusal, AnswersNumber, AnswersUnless, MovesCounts}
use Rattle.gomp_team_board.specs.Parts.{PartView, part_after, counts_after, counts_in}
use Rattle.gomp_team_board.specs.declared.part.PartCounts.{PartCounts}
use Rattle.gomp_team_board.proofs.Moved.{refusal_moves_nothing, refusal_counts_nothing}
use Rattle.gomp_team_board.proofs.FoundRefusals.{least_is_answered, found_is_refused}
use Rattle.gomp_team_board.proofs.Laws.{found_or_none}
use Rattle.gomp_team_calls.specs.Starts.{start_room, reserve_op, IsDoneAtOnce, IsLate, start_part}
use Rattle.gomp_team_calls.proofs.Found.{never_mismatch, lesser_of_others}
use Rattle.gomp_types.specs.declared.limits.Limits.{Limits}
use Rattle.gomp_team_shares.specs.declared.start.ShareStart.{ShareStart}

pub inside_unless : (members m : ℕ) → (members ≤ m → ⊥) → m < members
inside_unless members m never = elim (cases_lt m members) [
  | inl inside ↦ inside
  | inr outside ↦ absurd (never outside)
]

-- Counts and parts

-- a reply that moves no counts leaves those of every member
pub unmoved_counts_stay : (op : Op) (m : ℕ) (view after : WaitBoardView) (reply : Reply) → ((counts : PartCounts) → counts_after op reply counts ≡ counts)
    → MovesCounts op m view after reply → (k : ℕ) → counts_in k after.board.history ≡ counts_in k view.board.history
unmoved_counts_stay op m view after reply fixed moves k = elim (cases_eq k m) [
  | inl same ↦ rw same (moves.own ∙ fixed (counts_in m view.board.history))
  | inr other ↦ moves.others k other
]

counts_are : (c d e : ℕ) (counts : PartCounts) → c ≡ counts.creates → d ≡ counts.passes → e ≡ counts.starts → record { creates = c; passes = d; starts = e } ≡ counts
counts_are c d e counts one two three = rw (one, two, three) refl

moved_part_is : (parts amount : ℕ) (counts : PartCounts) (part : PartView) → parts ≡ part.parts → amount ≡ part.amount → counts ≡ part.counts → record { parts = parts; amount = amount; counts = counts } ≡ part
moved_part_is parts amount counts part one two three = rw (one, two, three) refl

pub done_counts_nothing : (op : Op) → IsDoneAtOnce op → (counts : PartCounts) → counts_after op Finished counts ≡ counts
done_counts_nothing (Reserve more) at_once counts = counts_are _ _ _ counts (omega arith) (omega arith) (omega arith)
done_counts_nothing (Got share words) at_once counts = counts_are _ _ _ counts (omega arith) (omega arith) (omega arith)
done_counts_nothing _ at_once counts = absurd at_once

pub reserve_moves_nothing : (more : ℕ) (part : PartView) → part_after (Reserve more) Finished part ≡ part
reserve_moves_nothing more part = moved_part_is _ _ _ part refl (omega arith) (done_counts_nothing (Reserve more) tt part.counts)

-- a refusal moves a part as a start's has it, whatever was asked of the board
pub refused_start_part : (op : Op) (refusal : Refusal) (part : PartView) → part_after op (Refused refusal) part ≡ start_part (Refused refusal) part
refused_start_part op Mismatch part = moved_part_is _ _ _ (record part { amount = part.amount + 1 }) refl refl (refusal_counts_nothing op Mismatch part.counts)
refused_start_part op NoMemory part = refusal_moves_nothing op NoMemory part (λ same. (cc))
refused_start_part op refusal part = refusal_moves_nothing op _ part (λ same. (cc))

-- The room that a start asks for

pub reserves_some : (start : ShareStart) (repeated : Bool) → (more : ℕ) × (reserve_op start repeated ≡ Reserve more)
reserves_some start true = (0, refl)
reserves_some start false = (start_room start, refl)

-- No operation that is done at once is compared with other members'

abbrev tests_of_room : Bool → Bool → Bool → Bool → Bool → Bool → Option Clash → List Test
tests_of_room w n l b t r clash = (w, Waiting) ∷ (n, NotInside) ∷ (((l, Ended) ∷ broken_tests clash) ++ (((b, Waiting) ∷ []) ++ (((t, InsideTask) ∷ []) ++ ((r, TraceFull) ∷ []))))

asked_without_mismatch : (w n l b t r : Bool) (clash : Option Clash) → least (tests_of_room w n l b t r clash) ≢ Some Mismatch
asked_without_mismatch w n l b t r None = never_mismatch (tests_of_room w n l b t r None) refl
asked_without_mismatch w n l b t r (Some clash) = never_mismatch (tests_of_room w n l b t r (Some clash)) refl

abbrev tests_of_note : Bool → Bool → Bool → Bool → Bool → Option Clash → List Test
tests_of_note w n l b r clash = (w, Waiting) ∷ (n, NotInside) ∷ (((l, Ended) ∷ broken_tests clash) ++ (((b, Waiting) ∷ []) ++ ((r, TraceFull) ∷ [])))

noted_without_mismatch : (w n l b r : Bool) (clash : Option Clash) → least (tests_of_note w n l b r clash) ≢ Some Mismatch
noted_without_mismatch w n l b r None = never_mismatch (tests_of_note w n l b r None) refl
noted_without_mismatch w n l b r (Some clash) = never_mismatch (tests_of_note w n l b r (Some clash)) refl

asked_never_mismatches : (terms : RoomTerms) (m : ℕ) (waiting : Bool) (op : Op) (h : List Event) → IsDoneAtOnce op → asked_refusal terms m waiting op h ≢ Some Mismatch
asked_never_mismatches terms m waiting (Reserve more) h at_once =
    asked_without_mismatch (waiting && not (comes_amid_wait (Reserve more))) (not waiting && resumes_wait (Reserve more)) (has_left_region m h) (awaits_barrier m h && not (goes_to_the_end m h)) (in_task m h)
    (lacks_room terms.limits.events terms.room more) (clash_of h)
asked_never_mismatches terms m waiting (Got share words) h at_once =
    noted_without_mismatch (waiting && not (comes_amid_wait (Got share words))) (not waiting && resumes_wait (Got share words)) (has_left_region m h) (awaits_barrier m h && not (goes_to_the_end m h))
    (lacks_room terms.limits.events terms.room (words_ask terms.kept)) (clash_of h)
asked_never_mismatches terms m waiting _ h at_once = absurd at_once

words_never_mismatch : (op : Op) (h : List Event) → IsDoneAtOnce op → payload_refusal op h ≢ Some Mismatch
words_never_mismatch (Reserve more) h at_once = never_mismatch [] refl
words_never_mismatch (Got share words) h at_once = never_mismatch (words_tests (Got share words) h) refl
words_never_mismatch _ h at_once = absurd at_once

locked_never_mismatches : (op : Op) (m : ℕ) (view : WaitBoardView) (k : List Event) → IsDoneAtOnce op → locked_refusal m view op k ≢ Some Mismatch
locked_never_mismatches op m view k at_once =
    lesser_of_others (payload_refusal op k) (asked_refusal (room_terms m view.board) m (is_waiting m view) op k) (words_never_mismatch op k at_once) (asked_never_mismatches (room_terms m view.board) m (is_waiting m view) op k at_once)

-- so one of which its caller found no mismatch is not refused as one
pub found_never_mismatches : (refusal : Refusal) (op : Op) (m : ℕ) (view after : WaitBoardView) (k : List Event)
    → IsDoneAtOnce op → refusal ≢ Mismatch → Stands view.board k → AnswersUnless (Some refusal) op m view after (Refused Mismatch) → ⊥
found_never_mismatches refusal op m view after k at_once other st answers = elim (cases_lt m (team_size view)) [
  | inl inside ↦
      let (first, is, least) = found_is_refused refusal op m view after (Refused Mismatch) k inside st answers in
      let same : first ≡ Mismatch = cc in
      lesser_of_others (Some refusal) (locked_refusal m view op k) (λ found. other (cc)) (locked_never_mismatches op m view k at_once) (least ∙ ap (λ (one : Refusal). Some one) same)
  | inr outside ↦ (let bad = answers.bad_member outside in cc)
]

-- and is always refused
pub found_refuses : (refusal : Refusal) (op : Op) (m : ℕ) (view after : WaitBoardView) (reply : Reply) (k : List Event)
    → Stands view.board k → AnswersUnless (Some refusal) op m view after reply → (first : Refusal) × (reply ≡ Refused first)
found_refuses refusal op m view after reply k st answers = elim (cases_lt m (team_size view)) [
  | inl inside ↦ let (first, is, least) = found_is_refused refusal op m view after reply k inside st answers in (first, is)
  | inr outside ↦ (BadMember, answers.bad_member outside)
]

asked_is_refused : (limits : Limits) (room kept members m : ℕ) (waiting : Bool) (op : Op) (h : List Event)
    → AskedAnswer limits room kept members m waiting op h (Refused Mismatch) → asked_refusal (record { limits = limits; room = room; kept = kept }) m waiting op h ≡ Some Mismatch
asked_is_refused limits room kept members m waiting op h answer = answer

pub at_once_never_mismatches : (op : Op) (m : ℕ) (view after : WaitBoardView) (k : List Event) → IsDoneAtOnce op → Stands view.board k → AnswersNumber op m view after (Refused Mismatch) → ⊥
at_once_never_mismatches op m view after k at_once st answers = elim (cases_lt m (team_size view)) [
  | inl inside ↦ elim (found_or_none (payload_refusal op k)) [
    | inl none ↦
        asked_never_mismatches (room_terms m view.board) m (is_waiting m view) op k at_once
        (asked_is_refused view.board.limits view.board.room (kept_by m view.board) (members_of view.board) m (is_waiting m view) op k (((answers.member inside).performs k st none).answer k st))
    | inr at ↦
        let some : payload_refusal op k ≢ None = λ none. (let both = sym none ∙ at.1 in cc) in
        let refuses = (answers.member inside).refused k st some in
        let same : refuses.found ≡ Mismatch = (let both = refuses.answer in cc) in
        locked_never_mismatches op m view k at_once
        (refuses.least ∙ ap (λ (one : Refusal). Some one) same)
  ]
  | inr outside ↦ (let bad = answers.bad_member outside in cc)
]

-- A break

early_stays : (one : Refusal) (other : Option Refusal) → number_of one < number_of Mismatch → IsLate (lesser (Some one) other) → ⊥
early_stays one None low late = omega (arith, low, late)
early_stays one (Some other) low late = elim (cases_Bool (nat_le (number_of one) (number_of other))) [
  | inl below ↦ let late_one : number_of Mismatch ≤ number_of one = rw below at late in omega (arith, low, late_one)
  | inr above ↦ let late_other : number_of Mismatch ≤ number_of other = rw above at late in grind (arith, nat_tests)
]

late_breaks : (waiting left : Bool) (clash : Option Clash) (later : List Test)
    → IsLate (least ((waiting && true, Waiting) ∷ (not waiting && false, NotInside) ∷ (((left, Ended) ∷ broken_tests clash) ++ later)))
    → least ((waiting && true, Waiting) ∷ (not waiting && false, NotInside) ∷ (((left, Ended) ∷ broken_tests clash) ++ ((true, Mismatch) ∷ []))) ≡ Some Mismatch
late_breaks true left clash later late = absurd (early_stays Waiting (least ((false, NotInside) ∷ (((left, Ended) ∷ broken_tests clash) ++ later))) (omega arith) late)
late_breaks false true clash later late = absurd (early_stays Ended (least (broken_tests clash ++ later)) (omega arith) late)
late_breaks false false (Some clash) later late = absurd (early_stays (Broken clash) (least later) (omega arith) late)
late_breaks false false None later late = refl

-- if nothing refuses the start before the comparison does, the break is a mismatch
pub break_mismatches : (more share back m : ℕ) (view after : WaitBoardView) (reply : Reply) (k : List Event)
    → m < team_size view → Stands view.board k → IsLate (locked_refusal m view (Reserve more) k) → AnswersNumber (Break (Share share) back) m view after reply → reply ≡ Refused Mismatch
break_mismatches more share back m view after reply k inside st late answers =
    least_is_answered (Break (Share share) back) m view after reply k Mismatch st
    (late_breaks (is_waiting m view) (has_left_region m k) (clash_of k) (busy_tests m k ++ (outside_tasks_tests m k ++ room_tests view.board.limits view.board.room more)) late)
    (answers.member inside)

-- What comes first

pub mismatch_before_late : (one : Option Refusal) → IsLate one → lesser (Some Mismatch) one ≡ Some Mismatch
mismatch_before_late None late = refl
mismatch_before_late (Some one) late = elim (cases_Bool (nat_le (number_of Mismatch) (number_of one))) [
  | inl below ↦ rw below refl
  | inr above ↦ absurd (let more = above in grind (arith, nat_tests))
]

pub early_before_mismatch : (one refusal : Refusal) → number_of one < number_of Mismatch → lesser (Some Mismatch) (Some one) ≡ Some refusal → one ≡ refusal
early_before_mismatch one refusal low is = elim (cases_Bool (nat_le (number_of Mismatch) (number_of one))) [
  | inl below ↦ absurd (let more = below in grind (arith, nat_tests))
  | inr above ↦ let some : Some one ≡ Some refusal = rw above at is in cc
]

pub early_is_no_mismatch : (one : Refusal) → number_of one < number_of Mismatch → one ≢ Mismatch
early_is_no_mismatch one low same = let at = ap number_of same in omega (arith, low, at)

-- a refusal that was found and an operation that was answered: the least answers
pub answered_by_least : (op : Op) (m : ℕ) (view after : WaitBoardView) (reply : Reply) (k : List Event) (found : Option Refusal) (refusal : Refusal)
    → found ≡ None → m < team_size view → Stands view.board k → AnswersNumber op m view after reply → lesser found (locked_refusal m view op k) ≡ Some refusal → reply ≡ Refused refusal
answered_by_least op m view after reply k found refusal none inside st answers is =
    let least = ap (λ (one : Option Refusal). lesser one (locked_refusal m view op k)) (sym none) ∙ is in
    least_is_answered op m view after reply k refusal st least (answers.member inside)
