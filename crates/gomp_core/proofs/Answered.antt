-- After an answer the team stands for the record with the step and its reply.
use Rattle.std.proofs.Common.{◌≡◌, ℕ, ◌<◌, true, false, List, [], ◌∷◌, Option, Some, None, length, slice_get, slice_set, refl, ap, ◌∙◌, sym, subst, suc, zero, inl, inr}
use Rattle.std.specs.Prelude.{◌==◌, ◌≢◌, if◌then◌else◌}
use Rattle.std.proofs.lemmas.Bool.{cases_Bool}
use Rattle.std.proofs.lemmas.List.{length-set}
use Rattle.gomp_types.specs.declared.call.Call.{Call}
use Rattle.gomp_types.specs.declared.call.Call.TheVariants.{Resume}
use Rattle.gomp_types.specs.declared.call.Step.{Step}
use Rattle.gomp_types.specs.declared.limits.TheConstants.{MAX_TASK_DEPTH}
use Rattle.gomp_types.specs.declared.refusal.Refusal.{Refusal}
use Rattle.gomp_types.specs.declared.refusal.Refusal.TheVariants.{Mismatch, NoMemory}
use Rattle.gomp_types.specs.declared.reply.Reply.{Reply}
use Rattle.gomp_types.specs.declared.reply.Reply.TheVariants.{Wait, Run, Refused}
use Rattle.gomp_events.specs.declared.event.Event.{Event}
use Rattle.gomp_types.specs.Limits.{IsTeamSize}
use Rattle.gomp_types.proofs.Lists.{slice_get-set}
use Rattle.gomp_types.proofs.LeastTests.{AllFail}
use Rattle.gomp_types.proofs.Booleans.{is_equal}
use Rattle.gomp_locks.specs.Book.{BookView}
use Rattle.gomp_locks.specs.Holders.{holder}
use Rattle.gomp_model.specs.Past.{Waits, Past}
use Rattle.gomp_model.specs.Row.{row_tests, MayGive, past_given}
use Rattle.gomp_model.specs.Calls.{row_of}
use Rattle.gomp_model.specs.CriticalNames.{was_name_held}
use Rattle.gomp_types.specs.Resumes.{call_meant, is_resume}
use Rattle.gomp_model.specs.Team.{Record, refusal_of, MayAnswer, waits_after}
use Rattle.gomp_board.specs.Boards.{BoardView, IsSame, kept_by}
use Rattle.gomp_laws.proofs.Known.{unrefused_step_passes, known_of}
use Rattle.gomp_laws.proofs.Waiting.{AreBeneath}
use Rattle.gomp_dispatch.specs.declared.leaving.Leaving.{Leaving}
use Rattle.gomp_dispatch.specs.declared.leaving.Manner.{Manner}
use Rattle.gomp_dispatch.specs.Answers.{KeepsStart}
use Rattle.gomp_dispatch.specs.Leaves.{LeavesAs, leaving_after}
use Rattle.gomp_book_calls.specs.Stands.{IsKnown}
use Rattle.gomp_core.specs.Replies.{TeamAdmits, NamesStay, AnswersAll}
use Rattle.gomp_core.specs.Stands.{TeamView, Stands, Keeps, past, terms_of, members_of}
use Rattle.gomp_core.proofs.Admitted.{step_admitted, few_beneath, own_chosen}
use Rattle.gomp_core.proofs.BookKept.{book_moved, events_so, locks_so, room_so, terms_so}
use Rattle.gomp_core.proofs.LeavesKept.{member_leaves, others_leave}
use Rattle.gomp_core.proofs.Stepping.{at_other, unequal_kept, parts_moved, stands_by, kept_alike, keeps_alike, may_answer, still_known, own_known, own_kept}

-- the team with what an answer to this step leaves
abbrev pub team_after : {S : Type 0} → TeamView S → S → BoardView → BookView → Step → Waits → Leaving → Reply → TeamView S
team_after team shares board book step waits leaving reply = record {
  icv = team.icv;
  board = board;
  waits = slice_set team.waits step.member (waits_after reply step.call waits);
  leaving = slice_set team.leaving step.member (leaving_after reply (call_meant step.call waits.open_call) leaving);
  book = book;
  shares = shares;
}

-- the call of a step
abbrev pub meant_at : {S : Type 0} → TeamView S → Record → Step → Call
meant_at team before step = call_meant step.call ((past team before).waits step.member).open_call

-- how its member makes it, which leaves this
abbrev pub manner_at : {S : Type 0} → TeamView S → Step → Leaving → Manner
manner_at team step leaving = record { repeated = is_resume step.call; leaving = leaving; allowed = team.icv.cancellation }

-- what the parts and the book promise of the reply to a step
abbrev pub AnswersStep : {S : Type 0} → (S → List Event → Type 0) → TeamView S → S → BoardView → BookView → Record → Step → Leaving → Reply → Type 0
AnswersStep stands team shares board book before step leaving reply =
    AnswersAll (record { stands = stands; call = meant_at team before step; manner = manner_at team step leaving; m = step.member; reply = reply }) (record { shares = team.shares; board = team.board; book = team.book }) (record { shares = shares; board = board; book = book })

-- no test of the parts holds of the step, nor one of the book
pub team_admits : {S : Type 0} (stands : S → List Event → Type 0) (members : S → ℕ) (team : TeamView S) (before : Record) (step : Step) (leaving : Leaving) → Stands stands members team before → slice_get team.leaving step.member ≡ Some leaving → refusal_of (past team before) step ≡ None →
    TeamAdmits (row_of (meant_at team before step)) (manner_at team step leaving) step.member team.board (past team before)
team_admits stands members team before step leaving st there none =
    step_admitted (terms_of team) before step (manner_at team step leaving) team.board st.caused none (st.waiting_kept step.member) refl (st.leave step.member leaving there) refl

-- the reply is one that the call's row may give, so it has its cause
answered_so : {S : Type 0} (stands : S → List Event → Type 0) (members : S → ℕ) (team : TeamView S) (shares : S) (board : BoardView) (book : BookView) (before : Record) (step : Step) (leaving : Leaving) (reply : Reply) →
    Stands stands members team before → slice_get team.leaving step.member ≡ Some leaving → refusal_of (past team before) step ≡ None → AnswersStep stands team shares board book before step leaving reply → MayGive (row_of (meant_at team before step)) (is_resume step.call) step.member (past team before) reply
answered_so stands members team shares board book before step leaving reply st there none answers = answers.answer (past team before) (st.parts_are, st.book_are) (team_admits stands members team before step leaving st there none)

pub answered_cause : {S : Type 0} (stands : S → List Event → Type 0) (members : S → ℕ) (team : TeamView S) (shares : S) (board : BoardView) (book : BookView) (before : Record) (step : Step) (leaving : Leaving) (reply : Reply) →
    Stands stands members team before → slice_get team.leaving step.member ≡ Some leaving → refusal_of (past team before) step ≡ None → AnswersStep stands team shares board book before step leaving reply → MayAnswer (past team before) step reply
answered_cause stands members team shares board book before step leaving reply st there none answers =
    may_answer (past team before) step reply none (answered_so stands members team shares board book before step leaving reply st there none answers) answers.once

-- before a task is started there is room for the call at which it is
pub answered_room : {S : Type 0} (stands : S → List Event → Type 0) (members : S → ℕ) (team : TeamView S) (before : Record) (step : Step) (waits : Waits) (reply : Reply) →
    Stands stands members team before → slice_get team.waits step.member ≡ Some waits → MayAnswer (past team before) step reply → (task code arg : ℕ) → reply ≡ Run task code arg false → length waits.beneath < MAX_TASK_DEPTH
answered_room stands members team before step waits reply st at cause task code arg same =
    let runs = subst (MayAnswer (past team before) step) same cause in
    subst (λ (w : Waits). length w.beneath < MAX_TASK_DEPTH) (st.wait step.member waits at) (few_beneath (terms_of team) before step task code arg (runs, st.caused))

-- What is known of the calls that wait then

names_after : (book after : BookView) (p : Past) (step : Step) (reply : Reply) (k : ℕ) → AreBeneath step.member (p.waits step.member).beneath → NamesStay book after → ((m : ℕ) → IsKnown book (p.waits m).open_call) →
    (reply ≡ Wait → IsKnown after (Some (call_meant step.call (p.waits step.member).open_call))) → IsKnown after (if step.member == k then waits_after reply step.call (p.waits k) else p.waits k).open_call
names_after book after p step reply k beneath stay known here =
    elim (cases_Bool (step.member == k)) [
      | inl e ↦ rw e (subst (λ (x : ℕ). IsKnown after (waits_after reply step.call (p.waits x)).open_call) (is_equal step.member k e) (own_known step.member book after step.call (p.waits step.member) reply beneath stay (known step.member) here))
      | inr e ↦ rw e (still_known book after (p.waits k).open_call stay (known k))
    ]

kept_after_reply : (board after : BoardView) (p : Past) (step : Step) (reply : Reply) (k : ℕ) → AreBeneath step.member (p.waits step.member).beneath → ((refusal : Refusal) → reply ≡ Refused refusal → kept_by step.member board ≡ kept_by step.member after) →
    ((other : ℕ) → other ≢ step.member → kept_by other after ≡ kept_by other board) → ((m : ℕ) (call : Call) → (p.waits m).open_call ≡ Some call → KeepsStart (row_of call) m board) →
    (reply ≡ Wait → KeepsStart (row_of (call_meant step.call (p.waits step.member).open_call)) step.member after) →
    (call : Call) → (if step.member == k then waits_after reply step.call (p.waits k) else p.waits k).open_call ≡ Some call → KeepsStart (row_of call) k after
kept_after_reply board after p step reply k beneath same others kept here call is =
    elim (cases_Bool (step.member == k)) [
      | inl e ↦
          let own : step.member ≡ k = is_equal step.member k e in
          let waiting : (waits_after reply step.call (p.waits k)).open_call ≡ Some call = rw e at is in
          subst (λ (x : ℕ). (waits_after reply step.call (p.waits x)).open_call ≡ Some call → KeepsStart (row_of call) x after) own
          (own_kept step.member board after step.call (p.waits step.member) reply beneath same (kept step.member) here call) waiting
      | inr e ↦
          let waiting : (p.waits k).open_call ≡ Some call = rw e at is in
          keeps_alike (row_of call) k board after (sym (others k (unequal_kept step.member k e))) (kept k call waiting)
    ]

-- a refusal leaves what its member keeps
kept_at_refusal : (m : ℕ) (board after : BoardView) (reply : Reply) → ((refusal : Refusal) → reply ≡ Refused refusal → refusal ≡ NoMemory) → (reply ≡ Refused NoMemory → IsSame board after) → (refusal : Refusal) → reply ≡ Refused refusal → kept_by m board ≡ kept_by m after
kept_at_refusal m board after reply refuses lacks refusal same = kept_alike m board after (lacks (same ∙ ap Refused (refuses refusal same))).kept

pub stands_answered : {S : Type 0} (stands : S → List Event → Type 0) (members : S → ℕ) (team : TeamView S) (shares : S) (board : BoardView) (book : BookView) (before : Record) (step : Step) (waits : Waits) (leaving : Leaving) (reply : Reply) →
    Stands stands members team before → slice_get team.waits step.member ≡ Some waits → slice_get team.leaving step.member ≡ Some leaving → refusal_of (past team before) step ≡ None → AnswersStep stands team shares board book before step leaving reply → members shares ≡ members team.shares →
    Stands stands members (team_after team shares board book step waits leaving reply) ((step, reply) ∷ before)
stands_answered stands members team shares board book before step waits leaving reply st at there none answers shares_same =
    let p = past team before in
    let m = step.member in
    let row = row_of (meant_at team before step) in
    let repeated = is_resume step.call in
    let q = past team ((step, reply) ∷ before) in
    let given : Past = past_given row repeated m p reply in
    let may = answered_so stands members team shares board book before step leaving reply st there none answers in
    let cause = answered_cause stands members team shares board book before step leaving reply st there none answers in
    let all = answers.stands_for p (st.parts_are, st.book_are) (team_admits stands members team before step leaving st there none) in
    let events : q.events ≡ given.events = events_so (meant_at team before step) repeated m p reply may in
    let after = team_after team shares board book step waits leaving reply in
    let size : members_of after ≡ members_of team = length-set team.waits m (waits_after reply step.call waits) in
    let limits = answers.leaves.limits in
    let call_so : call_meant step.call waits.open_call ≡ meant_at team before step = ap (λ (w : Waits). call_meant step.call w.open_call) (sym (st.wait m waits at)) in
    let beneath = ((known_of (terms_of team) before st.caused).each m).beneath in
    let terms : terms_of team ≡ terms_of after = rw (size, limits) refl in
    stands_by stands members (terms_of team) after ((step, reply) ∷ before) terms
    (record {
      caused = (cause, st.caused);
      parts_are = parts_moved stands shares board given q events (terms_so row repeated m p reply) (room_so row repeated m p reply) all.0;
      book_are = book_moved book given q (λ key. ap (holder key) events) (λ name. ap (was_name_held name) events) (locks_so row repeated m p reply) all.1;
      names_known = λ k. names_after team.book book p step reply k beneath answers.names st.names_known answers.known;
      wait = λ k other found. elim (slice_get-set team.waits m k (waits_after reply step.call waits) other found) [
        | inl e ↦ own_wait p (st.wait m waits at) k other e.0 e.1
        | inr e ↦ at_other m k (waits_after reply step.call (p.waits k)) (p.waits k) e.0 ∙ st.wait k other e.1
      ];
      leave = λ k other found. elim (slice_get-set team.leaving m k (leaving_after reply (call_meant step.call waits.open_call) leaving) other found) [
        | inl e ↦ subst (λ (h : List Event). LeavesAs other k h) (sym events) (rw (e.0, e.1, call_so) (member_leaves (meant_at team before step) repeated m p reply leaving may (st.leave m leaving there)))
        | inr e ↦ subst (λ (h : List Event). LeavesAs other k h) (sym events) (others_leave (meant_at team before step) repeated m k p reply other (λ same. e.0 (sym same)) (st.leave k other e.1))
      ];
      waiting_kept = λ k call is.
          kept_after_reply team.board board p step reply k beneath (kept_at_refusal m team.board board reply answers.refuses (λ lacks. (answers.lacks lacks).0.1)) answers.leaves.others st.waiting_kept answers.keeps call is;
    })
    (subst IsTeamSize (sym size) st.size) (rw limits st.limits_are) (shares_same ∙ st.shares_size ∙ sym size) (length-set team.leaving m (leaving_after reply (call_meant step.call waits.open_call) leaving) ∙ st.leaving_size ∙ sym size)
  where
    own_wait : (p : Past) → p.waits step.member ≡ waits → (k : ℕ) (other : Waits) → k ≡ step.member → other ≡ waits_after reply step.call waits → (if step.member == k then waits_after reply step.call (p.waits k) else p.waits k) ≡ other
    own_wait p is k other same e = rw (same, e) (own_chosen step.member (waits_after reply step.call (p.waits step.member)) (p.waits step.member) ∙ ap (waits_after reply step.call) is)

-- What stays as it was

-- an item that is put where it lies changes nothing
set_there : {A : Type 0} (items : List A) (i : ℕ) (item : A) → slice_get items i ≡ Some item → slice_set items i item ≡ items
set_there [] i item at = absurd (cc)
set_there (first ∷ items) zero item at = let same : first ≡ item = cc in ap (λ x. x ∷ items) (sym same)
set_there (first ∷ items) (suc i) item at = ap (λ xs. first ∷ xs) (set_there items i item at)

-- a resume that is answered keeps the call open
open_again : (m : ℕ) (p : Past) (call : Call) (waiting : Option Call) (beneath : List Call) → AllFail (row_tests (is_resume call) (row_of (call_meant call waiting)) m p) → call ≡ Resume →
    waits_after Wait call (record { open_call = waiting; beneath = beneath }) ≡ record { open_call = waiting; beneath = beneath }
open_again m p Resume None beneath fail again = absurd (let shut = fail.0 in cc)
open_again m p Resume (Some call) beneath fail again = refl
open_again m p _ waiting beneath fail again = absurd (cc)

-- if a call that waits is asked about again and waits on, nothing changes
pub waits_on : {S : Type 0} (stands : S → List Event → Type 0) (members : S → ℕ) (team : TeamView S) (shares : S) (board : BoardView) (book : BookView) (before : Record) (step : Step) (waits : Waits) (leaving : Leaving) (reply : Reply) →
    Stands stands members team before → slice_get team.waits step.member ≡ Some waits → slice_get team.leaving step.member ≡ Some leaving → refusal_of (past team before) step ≡ None → AnswersStep stands team shares board book before step leaving reply → reply ≡ Wait → step.call ≡ Resume →
    team_after team shares board book step waits leaving reply ≡ team
waits_on stands members team shares board book before step waits leaving reply st at there none answers same resume =
    let p = past team before in
    let m = step.member in
    let own = p.waits m in
    let kept = answers.waits (ap is_resume resume) same in
    let stays : waits_after Wait step.call own ≡ own = open_again m p step.call own.open_call own.beneath (unrefused_step_passes p step none).row resume in
    let here : waits_after Wait step.call waits ≡ waits = subst (λ (w : Waits). waits_after Wait step.call w ≡ w) (st.wait m waits at) stays in
    rw (same, kept.0, kept.1, kept.2, here, set_there team.waits m waits at, set_there team.leaving m leaving there) refl

-- nor if it finds no memory, but for what the board has of that
pub lacks_memory : {S : Type 0} (stands : S → List Event → Type 0) (team : TeamView S) (shares : S) (board : BoardView) (book : BookView) (before : Record) (step : Step) (waits : Waits) (leaving : Leaving) (reply : Reply) →
    slice_get team.waits step.member ≡ Some waits → slice_get team.leaving step.member ≡ Some leaving → AnswersStep stands team shares board book before step leaving reply → reply ≡ Refused NoMemory → team_after team shares board book step waits leaving reply ≡ record team { board = board }
lacks_memory stands team shares board book before step waits leaving reply at there answers same =
    let kept = answers.lacks same in
    rw (same, kept.0.0, kept.1, set_there team.waits step.member waits at, set_there team.leaving step.member leaving there) refl

-- what is put twice is what was put last
pub set_twice : {A : Type 0} (items : List A) (i : ℕ) (one other : A) → slice_set (slice_set items i one) i other ≡ slice_set items i other
set_twice [] i one other = refl
set_twice (first ∷ items) zero one other = refl
set_twice (first ∷ items) (suc i) one other = ap (λ xs. first ∷ xs) (set_twice items i one other)

-- so what an answer leaves of the team as it was
pub answer_keeps : {S : Type 0} (stands : S → List Event → Type 0) (members : S → ℕ) (team : TeamView S) (shares : S) (board : BoardView) (book : BookView) (before : Record) (step : Step) (waits : Waits) (leaving : Leaving) (reply : Reply) →
    Stands stands members team before → slice_get team.waits step.member ≡ Some waits → slice_get team.leaving step.member ≡ Some leaving → refusal_of (past team before) step ≡ None → AnswersStep stands team shares board book before step leaving reply →
    Keeps team (team_after team shares board book step waits leaving reply) step.call reply
answer_keeps stands members team shares board book before step waits leaving reply st at there none answers = record {
  members = length-set team.waits step.member (waits_after reply step.call waits);
  icv = refl;
  limits = answers.leaves.limits;
  refused = λ refusal same differ lacks. absurd (lacks (answers.refuses refusal same));
  lacks = λ same. (lacks_memory stands team shares board book before step waits leaving reply at there answers same, (answers.lacks same).0.1);
  broken = λ same. absurd (let never = answers.refuses Mismatch same in cc);
  waits = λ same resume. waits_on stands members team shares board book before step waits leaving reply st at there none answers same resume;
}

-- A call that is repeated waits, so the book knows its name

pub waiting_known : {S : Type 0} (stands : S → List Event → Type 0) (members : S → ℕ) (team : TeamView S) (before : Record) (step : Step) → Stands stands members team before → refusal_of (past team before) step ≡ None → is_resume step.call ≡ true →
    IsKnown team.book (Some (meant_at team before step))
waiting_known stands members team before step st none repeated =
    let p = past team before in
    meant_known step.member p step.call (p.waits step.member).open_call (unrefused_step_passes p step none).row (st.names_known step.member) repeated
  where
    meant_known : (m : ℕ) (p : Past) (call : Call) (waiting : Option Call) → AllFail (row_tests (is_resume call) (row_of (call_meant call waiting)) m p) → IsKnown team.book waiting → is_resume call ≡ true → IsKnown team.book (Some (call_meant call waiting))
    meant_known m p Resume None fail known repeated = absurd (let shut = fail.0 in cc)
    meant_known m p Resume (Some call) fail known repeated = known
    meant_known m p _ waiting fail known repeated = absurd (cc)

-- the call of a step, by what the team keeps of its member
pub call_kept : {S : Type 0} (stands : S → List Event → Type 0) (members : S → ℕ) (team : TeamView S) (before : Record) (step : Step) (waits : Waits) → Stands stands members team before → slice_get team.waits step.member ≡ Some waits →
    call_meant step.call waits.open_call ≡ meant_at team before step
call_kept stands members team before step waits st at = ap (λ (w : Waits). call_meant step.call w.open_call) (sym (st.wait step.member waits at))
