-- Some reply to each step has its cause.
use Rattle.std.proofs.Common.{◌≡◌, ℕ, Bool, true, false, List, [], ◌∷◌, ◌++◌, Option, Some, None, refl, subst, inl, inr}
use Rattle.std.specs.Prelude.{not}
use Rattle.gomp_types.specs.declared.call.Call.{Call}
use Rattle.gomp_types.specs.declared.call.Call.TheVariants.{Resume, Stop}
use Rattle.gomp_types.specs.declared.call.Step.{Step}
use Rattle.gomp_types.specs.declared.refusal.Clash.{Clash}
use Rattle.gomp_types.specs.declared.refusal.Refusal.{Refusal}
use Rattle.gomp_types.specs.declared.refusal.Refusal.TheVariants.{NoMemory}
use Rattle.gomp_types.specs.declared.reply.Reply.{Reply}
use Rattle.gomp_types.specs.declared.reply.Reply.TheVariants.{Refused}
use Rattle.gomp_events.specs.Events.{clash_of}
use Rattle.gomp_events.specs.TaskCalls.{unless_given_up}
use Rattle.gomp_events.specs.declared.event.Event.{Event}
use Rattle.gomp_types.specs.Tests.{Test}
use Rattle.gomp_types.proofs.Booleans.{and_left, and_right}
use Rattle.gomp_types.specs.Least.{least}
use Rattle.gomp_events.specs.Seen.{seen_of}
use Rattle.gomp_events.specs.Breaks.{broken_tests}
use Rattle.gomp_model.specs.Past.{Terms, Past}
use Rattle.gomp_model.specs.Row.{Row, begun_past, asks_memory, drain_tests, place_tests, asked_tests, board_tests, book_tests, row_tests}
use Rattle.gomp_model.specs.Calls.{row_of}
use Rattle.gomp_types.specs.Resumes.{call_meant, is_resume}
use Rattle.gomp_types.proofs.LeastRefutations.{lesser_is_either}
use Rattle.gomp_model.specs.Team.{Record, row_at, member_tests, wait_tests, tests_of, refusal_of, MayRefuse, MayAnswer, past_of, Caused, SomeReply}
use Rattle.gomp_laws.proofs.Sound.{is_memory, memoryless, clean_append, IsSound}
use Rattle.gomp_laws.proofs.Calls.{row_is_sound}
use Rattle.gomp_laws.proofs.Known.{Known, unrefused_step_is_admitted, known_of}

-- No test is for want of memory

-- the lesser of two refusals is one of them
memory_aside : (refusal : Refusal) → not (is_memory refusal) ≡ true → is_memory refusal ≡ false
memory_aside NoMemory e = absurd (cc)
memory_aside _ e = refl

-- nor is the least of such tests
not_memory : (tests : List Test) (refusal : Refusal) → memoryless tests ≡ true → least tests ≡ Some refusal → is_memory refusal ≡ false
not_memory [] refusal clean e = absurd (cc)
not_memory ((false, found) ∷ tests) refusal clean e = not_memory tests refusal (and_right (not (is_memory found)) (memoryless tests) clean) e
not_memory ((true, found) ∷ tests) refusal clean e =
    elim (lesser_is_either found refusal (least tests) e) [
      | inl same ↦ rw (← same) (memory_aside found (and_left (not (is_memory found)) (memoryless tests) clean))
      | inr later ↦ not_memory tests refusal (and_right (not (is_memory found)) (memoryless tests) clean) later
    ]

broken_clean : (clash : Option Clash) → memoryless (broken_tests clash) ≡ true
broken_clean None = refl
broken_clean (Some clash) = refl

wait_clean : (call : Call) (waiting : Option Call) → memoryless (wait_tests call waiting) ≡ true
wait_clean Resume waiting = refl
wait_clean Stop waiting = refl
wait_clean _ waiting = refl

given_clean : (gives_up : Bool) (tests : List Test) → memoryless tests ≡ true → memoryless (unless_given_up gives_up tests) ≡ true
given_clean true tests clean = refl
given_clean false tests clean = clean

drain_clean : (drains : Bool) (m : ℕ) (h : List Event) → memoryless (drain_tests drains m h) ≡ true
drain_clean true m h = refl
drain_clean false m h = refl

asked_clean : (drops : Bool) (row : Row) (p : Past) → memoryless (asked_tests drops row p) ≡ true
asked_clean true row p = refl
asked_clean false row p = refl

row_clean : (row : Row) → IsSound row → (repeated : Bool) (m : ℕ) (p : Past) → memoryless (row_tests repeated row m p) ≡ true
row_clean row sound true m p =
    let clean = sound.no_memory m p in clean_append (row.compared true m p) (row.missing m p) (clean.4 true) clean.3
row_clean row sound false m p =
    let clean = sound.no_memory m p in
    let by_place = row.by_place p.terms.limits (seen_of m p.events) in
    let given = unless_given_up (row.gives_up m p.events) by_place in
    let drained = drain_tests row.drains m p.events in
    let asked = asked_tests (row.drops m p) row p in
    let place = clean_append given (drained ++ row.compared false m p) (given_clean (row.gives_up m p.events) by_place clean.0) (clean_append drained (row.compared false m p) (drain_clean row.drains m p.events) (clean.4 false)) in
    let board = clean_append (row.by_task m p) asked clean.1 (asked_clean (row.drops m p) row p) in
    let book = clean_append (row.by_team m p) (row.missing m p) clean.2 clean.3 in
    clean_append (place_tests false row m p) (board_tests false row m p ++ book_tests false row m p) place (clean_append (board_tests false row m p) (book_tests false row m p) board book)

step_clean : (p : Past) (step : Step) → memoryless (tests_of p step) ≡ true
step_clean p step =
    let row = row_tests (is_resume step.call) (row_at p step) step.member p in
    clean_append (member_tests p.terms.members step.member p.events) (wait_tests step.call (p.waits step.member).open_call ++ row) (broken_clean (clash_of p.events))
    (clean_append (wait_tests step.call (p.waits step.member).open_call) row (wait_clean step.call (p.waits step.member).open_call) (row_clean (row_at p step) (row_is_sound (call_meant step.call (p.waits step.member).open_call)) (is_resume step.call) step.member p))

-- So some reply other than that has its cause
may_refuse : (first : Option Refusal) (refusal : Refusal) (asks : Bool) → first ≡ Some refusal → is_memory refusal ≡ false → MayRefuse first refusal asks
may_refuse first NoMemory asks e other = absurd (cc)
may_refuse first _ asks e other = e

pub unrefused_step_may_answer : (p : Past) (step : Step) (reply : Reply) → refusal_of p step ≡ None → (row_at p step).may_reply step.member (begun_past (is_resume step.call) (row_at p step) step.member p) reply → MayAnswer p step reply
unrefused_step_may_answer p step (Refused refusal) none may = absurd ((row_is_sound (call_meant step.call (p.waits step.member).open_call)).accepts step.member (begun_past (is_resume step.call) (row_at p step) step.member p) refusal may)
unrefused_step_may_answer p step _ none may = (none, may)

by_first : (p : Past) (step : Step) (first : Option Refusal) → refusal_of p step ≡ first → Known p → SomeReply p step
by_first p step (Some refusal) e known =
    let other = not_memory (tests_of p step) refusal (step_clean p step) e in
    (Refused refusal, (λ same. let is : refusal ≡ NoMemory = cc in absurd (let bad : is_memory NoMemory ≡ false = rw is at other in cc)), may_refuse (refusal_of p step) refusal (asks_memory (row_of step.call) step.member p) e other)
by_first p step None e known =
    let s = row_is_sound (call_meant step.call (p.waits step.member).open_call) in
    let found = s.answered (is_resume step.call) step.member p (unrefused_step_is_admitted p step e known) known.rule in (
      found.0,
      (λ same. s.accepts step.member (begun_past (is_resume step.call) (row_at p step) step.member p) NoMemory
          (subst (λ reply. (row_at p step).may_reply step.member (begun_past (is_resume step.call) (row_at p step) step.member p) reply) same found.1)),
      unrefused_step_may_answer p step found.0 e found.1,
    )

pub some_reply_of : (terms : Terms) (run : Record) (step : Step) → Caused terms run → SomeReply (past_of terms run) step
some_reply_of terms run step caused = by_first (past_of terms run) step (refusal_of (past_of terms run) step) refl (known_of terms run caused)

-- The first test that holds is an answer
pub refused_so : (p : Past) (step : Step) (refusal : Refusal) → refusal_of p step ≡ Some refusal → MayAnswer p step (Refused refusal)
refused_so p step refusal e = may_refuse (refusal_of p step) refusal (asks_memory (row_of step.call) step.member p) e (not_memory (tests_of p step) refusal (step_clean p step) e)
