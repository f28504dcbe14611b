-- A call of the book, and a call of the parts, is answered by both together as by one of them.
use Rattle.std.proofs.Common.{◌≡◌, ℕ, false, List, refl, sym, inl, inr}
use Rattle.std.specs.Prelude.{◌≢◌}
use Rattle.gomp_types.specs.Servers.{served_by}
use Rattle.gomp_types.specs.declared.call.Server.TheVariants.{Book}
use Rattle.std.proofs.lemmas.Bool.{cases_Bool}
use Rattle.gomp_types.specs.declared.call.Call.{Call}
use Rattle.gomp_types.specs.declared.refusal.Refusal.TheVariants.{NoMemory}
use Rattle.gomp_types.specs.declared.reply.Reply.{Reply}
use Rattle.gomp_types.specs.declared.reply.Reply.TheVariants.{Refused}
use Rattle.gomp_types.specs.declared.task.Task.{Task}
use Rattle.gomp_events.specs.declared.event.Event.{Event}
use Rattle.gomp_events.specs.Tasks.{executed_task}
use Rattle.gomp_locks.specs.Book.{BookView}
use Rattle.gomp_model.specs.Calls.{row_of}
use Rattle.gomp_board.specs.Boards.{BoardView, Stands as BoardStands, IsSame}
use Rattle.gomp_dispatch.specs.Answers.{AnswersCall}
use Rattle.gomp_book_calls.specs.Stands.{BookReply}
use Rattle.gomp_core.specs.Replies.{SomeTeamAdmits, AnswersAll}
use Rattle.gomp_core.proofs.BookKept.{KeepsHolds, parts_leave_book, knows_nothing, book_leaves_parts, book_starts_nothing}
use Rattle.gomp_dispatch.specs.declared.leaving.Manner.{Manner}
use Rattle.gomp_core.proofs.Stepping.{keeps_none}

pub same_board : (board : BoardView) → IsSame board board
same_board board = record { history = refl; room = refl; kept = refl; stands = λ h st. st; stood = λ h st. st }

-- the book answers, and the parts stay
pub book_answers : {S : Type 0} (stands : S → List Event → Type 0) (shares : S) (board : BoardView) (book after : BookView) (call : Call) (manner : Manner) (m : ℕ) (task : Task) (reply : Reply) →
    served_by call ≡ Book → KeepsHolds (stands shares) → ((h : List Event) → BoardStands board h → task ≡ executed_task m h) → BookReply (record { row = row_of call; repeated = manner.repeated }) book after m task reply →
    SomeTeamAdmits (record { stands = stands; row = row_of call; manner = manner; m = m }) shares board book → AnswersAll (record { stands = stands; call = call; manner = manner; m = m; reply = reply }) (record { shares = shares; board = board; book = book }) (record { shares = shares; board = board; book = after })
book_answers stands shares board book after call manner m task reply asks keeps executed held (q, all, admitted) = record {
  leaves = record { members = refl; limits = refl; others = λ k other. refl };
  waits = λ again wait. (refl, refl, held.kept wait);
  lacks = λ lacks. ((refl, same_board board), held.lacks lacks);
  once = first;
  refuses = held.refusal;
  answer = λ p stand ready. (held.serves p stand.1 (sym (executed p.events stand.0.board_is)) ready.2 ready.3).0;
  stands_for = λ p stand ready. (book_leaves_parts stands shares board keeps call manner.repeated m p reply asks stand.0, (held.serves p stand.1 (sym (executed p.events stand.0.board_is)) ready.2 ready.3).1);
  names = held.names;
  known = held.waits;
  keeps = λ wait. keeps_none (row_of call) m board (book_starts_nothing call asks);
}
  where
    first : reply ≡ Refused NoMemory → manner.repeated ≡ false
    first lacks = elim (cases_Bool manner.repeated) [ inl again ↦ absurd (held.once again lacks) | inr once ↦ once ]

-- the parts answer, and the book stays
pub parts_answer : {S : Type 0} (stands : S → List Event → Type 0) (shares shares_after : S) (board board_after : BoardView) (book : BookView) (call : Call) (manner : Manner) (m : ℕ) (reply : Reply) →
    served_by call ≢ Book → AnswersCall (record { stands = stands; row = row_of call; manner = manner; m = m }) shares shares_after board board_after reply →
    SomeTeamAdmits (record { stands = stands; row = row_of call; manner = manner; m = m }) shares board book → AnswersAll (record { stands = stands; call = call; manner = manner; m = m; reply = reply }) (record { shares = shares; board = board; book = book }) (record { shares = shares_after; board = board_after; book = book })
parts_answer stands shares shares_after board board_after book call manner m reply aside answers (q, all, admitted) = record {
  leaves = answers.leaves;
  waits = λ again wait. let kept = answers.waits again wait in (kept.0, kept.1, refl);
  lacks = λ lacks. ((answers.lacks lacks).0, refl);
  once = λ lacks. (answers.lacks lacks).1;
  refuses = answers.refuses;
  answer = λ p stand ready. answers.answer p stand.0 ready.0 ready.1;
  stands_for = λ p stand ready. (answers.stands_for p stand.0 ready.0 ready.1, parts_leave_book book call manner.repeated m p reply aside (answers.answer p stand.0 ready.0 ready.1) stand.1);
  names = λ name known. known;
  known = λ wait. knows_nothing book call aside;
  keeps = answers.keeps;
}
