-- An operation that its caller refuses by a test of its own: it is refused by the least of that test and all others, and moves no part.
use Rattle.std.proofs.Common.{◌≡◌, ◌≢◌, ◌<◌, ℕ, Bool, true, false, List, Option, Some, None, refl, ap, sym, ◌∙◌, subst, inl, inr}
use Rattle.std.proofs.lemmas.Bool.{cases_Bool}
use Rattle.gomp_types.specs.declared.refusal.Refusal.{Refusal}
use Rattle.gomp_types.specs.declared.refusal.Refusal.TheVariants.{NoMemory}
use Rattle.gomp_types.specs.Least.{lesser}
use Rattle.gomp_types.specs.declared.limits.Limits.{Limits}
use Rattle.gomp_types.specs.declared.reply.Reply.{Reply}
use Rattle.gomp_types.specs.declared.reply.Reply.TheVariants.{Refused}
use Rattle.gomp_events.specs.declared.event.Event.{Event}
use Rattle.gomp_board.specs.declared.op.Op.{Op}
use Rattle.gomp_board.specs.Boards.{Stands, members_of, kept_by}
use Rattle.gomp_waits.specs.Waits.{WaitBoardView, is_waiting, asked_refusal, room_terms, AskedAnswer}
use Rattle.gomp_waits.specs.Words.{payload_refusal}
use Rattle.gomp_team_board.specs.Parts.{counts_in}
use Rattle.gomp_team_board.specs.Locked.{team_size, locked_refusal, comes_first, RefusesWords, AnswersMember, AnswersNumber, AnswersUnless, MovesCounts}
use Rattle.gomp_team_board.proofs.Moved.{refusal_counts_nothing}
use Rattle.gomp_team_board.proofs.Laws.{found_or_none}

-- Two refusals

-- the one that comes first is the lesser
pub first_is_lesser : (found other : Option Refusal) → comes_first found other ≡ true → lesser found other ≡ found
first_is_lesser None other first = absurd (cc)
first_is_lesser (Some found) None first = refl
first_is_lesser (Some found) (Some other) first = rw first refl

pub other_is_lesser : (found other : Option Refusal) → comes_first found other ≡ false → lesser found other ≡ other
other_is_lesser None other later = refl
other_is_lesser (Some found) None later = absurd (cc)
other_is_lesser (Some found) (Some other) later = rw later refl

-- Nothing found

-- an operation of which its caller found no refusal is answered as its member has it
pub nothing_found : (op : Op) (m : ℕ) (view after : WaitBoardView) (reply : Reply) (h : List Event) → Stands view.board h → AnswersUnless None op m view after reply → AnswersNumber op m view after reply
nothing_found op m view after reply h st answers = record {
  member = λ inside. (answers.member inside).other h st refl;
  bad_member = answers.bad_member;
  same = answers.same;
}

-- A refusal found

-- a refusal that changes nothing moves nothing that the history has of anyone
pub refusal_moves_no_counts : (op : Op) (m : ℕ) (view : WaitBoardView) (refusal : Refusal) → MovesCounts op m view view (Refused refusal)
refusal_moves_no_counts op m view refusal = record {
  own = sym (refusal_counts_nothing op refusal (counts_in m view.board.history));
  others = λ k other. refl;
}

-- so it is with words that are refused
pub refused_words_move_no_counts : (op : Op) (m : ℕ) (view : WaitBoardView) (h : List Event) (reply : Reply) → RefusesWords op m view view h reply → MovesCounts op m view view reply
refused_words_move_no_counts op m view h reply refuses = subst (λ (r : Reply). MovesCounts op m view view r) (sym refuses.answer) (refusal_moves_no_counts op m view refuses.found)

-- What such an operation is answered

asked_is_answered : (limits : Limits) (room kept members m : ℕ) (waiting : Bool) (op : Op) (h : List Event) (refusal : Refusal) (reply : Reply)
    → asked_refusal (record { limits = limits; room = room; kept = kept }) m waiting op h ≡ Some refusal → AskedAnswer limits room kept members m waiting op h reply → reply ≡ Refused refusal
asked_is_answered limits room kept members m waiting op h refusal (Refused NoMemory) is answer = let both : Some refusal ≡ None = sym is ∙ answer.0 in absurd (cc)
asked_is_answered limits room kept members m waiting op h refusal (Refused other) is answer = let both : Some refusal ≡ Some other = sym is ∙ answer in cc
asked_is_answered limits room kept members m waiting op h refusal _ is answer = let both : Some refusal ≡ None = sym is ∙ answer.0 in absurd (cc)

-- an operation of a member that some test refuses is refused by the least of them
pub least_is_answered : (op : Op) (m : ℕ) (view after : WaitBoardView) (reply : Reply) (h : List Event) (refusal : Refusal)
    → Stands view.board h → locked_refusal m view op h ≡ Some refusal → AnswersMember op m view after reply → reply ≡ Refused refusal
least_is_answered op m view after reply h refusal st is answers = elim (found_or_none (payload_refusal op h)) [
  | inl none ↦
      let asked = ap (λ (one : Option Refusal). lesser one (asked_refusal (room_terms m view.board) m (is_waiting m view) op h)) (sym none) ∙ is in
      asked_is_answered view.board.limits view.board.room (kept_by m view.board) (members_of view.board) m (is_waiting m view) op h refusal reply asked ((answers.performs h st none).answer h st)
  | inr at ↦
      let some : payload_refusal op h ≢ None = λ none. (let both = sym none ∙ at.1 in cc) in
      let refuses = answers.refused h st some in
      let both = sym refuses.least ∙ is in
      refuses.answer ∙ ap (λ (one : Refusal). Refused one) (let same : refuses.found ≡ refusal = cc in same)
]

-- so one of which the caller found a refusal is always refused, by the lesser of that and the least of the tests
pub found_is_refused : (found : Refusal) (op : Op) (m : ℕ) (view after : WaitBoardView) (reply : Reply) (h : List Event)
    → m < team_size view → Stands view.board h → AnswersUnless (Some found) op m view after reply
    → (refusal : Refusal) × (reply ≡ Refused refusal) × (lesser (Some found) (locked_refusal m view op h) ≡ Some refusal)
found_is_refused found op m view after reply h inside st answers = elim (cases_Bool (comes_first (Some found) (locked_refusal m view op h))) [
  | inl first ↦
      let refuses = (answers.member inside).first h st first in
      (refuses.refusal, refuses.answer, first_is_lesser (Some found) (locked_refusal m view op h) first ∙ refuses.is_found)
  | inr later ↦
      elim (found_or_none (locked_refusal m view op h)) [
        | inl none ↦ absurd (let first = rw none at later in cc)
        | inr at ↦
            let least = other_is_lesser (Some found) (locked_refusal m view op h) later ∙ at.1 in
            (at.0, least_is_answered op m view after reply h at.0 st at.1 ((answers.member inside).other h st later), least)
      ]
]
