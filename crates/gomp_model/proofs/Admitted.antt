-- A call that is made is admitted exactly if none of its tests holds. One that is repeated is, if none of its few tests holds and what was shown of it when it was made lasts.
use Rattle.std.proofs.Common.{◌≡◌, ℕ, Bool, true, false, List, ◌++◌, Some, None, refl, sym, ◌∙◌, subst}
use Rattle.gomp_types.specs.declared.key.Key.{Key}
use Rattle.gomp_types.specs.declared.refusal.Refusal.{Refusal}
use Rattle.gomp_types.specs.declared.reply.Reply.{Reply}
use Rattle.gomp_types.specs.Tests.{Test}
use Rattle.gomp_types.specs.Least.{least}
use Rattle.gomp_types.proofs.LeastTests.{AllFail, all_fail, fail_first, fail_later, none_holds, both_lists_fail}
use Rattle.gomp_events.specs.Seen.{seen_of}
use Rattle.gomp_events.specs.TaskCalls.{unless_given_up}
use Rattle.gomp_locks.specs.Book.{held_by}
use Rattle.gomp_locks.specs.Holders.{asker, holder}
use Rattle.gomp_model.specs.Past.{Past}
use Rattle.gomp_model.specs.Row.{Row, leaving_tests, drain_tests, place_tests, asked_tests, board_tests, book_tests, row_tests, goes_on, MayGoOn}
use Rattle.gomp_model.specs.Admits.{in_place, ServersAdmit, BookAdmits, IsAdmitted}

-- What each test of an admitted call says

pub by_place_fails : {row : Row} {repeated : Bool} {m : ℕ} {p : Past} → ServersAdmit row repeated m p → in_place row.stays repeated ≡ true → row.gives_up m p.events ≡ false → AllFail (row.by_place p.terms.limits (seen_of m p.events))
by_place_fails {row} {repeated} {m} {p} admits shown stays = all_fail (row.by_place p.terms.limits (seen_of m p.events)) (admits.place shown stays)

pub compared_fails : {row : Row} {repeated : Bool} {m : ℕ} {p : Past} → ServersAdmit row repeated m p → AllFail (row.compared repeated m p)
compared_fails {row} {repeated} {m} {p} admits = all_fail (row.compared repeated m p) admits.compared

pub by_task_fails : {row : Row} {repeated : Bool} {m : ℕ} {p : Past} → ServersAdmit row repeated m p → repeated ≡ false → AllFail (row.by_task m p)
by_task_fails {row} {repeated = true} {m} {p} admits once = absurd (cc)
by_task_fails {row} {repeated = false} {m} {p} admits once = fail_first (row.by_task m p) (asked_tests (row.drops m p) row p) (all_fail (board_tests false row m p) admits.tasks)

pub missing_fails : {row : Row} {repeated : Bool} {m : ℕ} {p : Past} → BookAdmits row repeated m p → AllFail (row.missing m p)
missing_fails {row} {repeated = true} {m} {p} admits = all_fail (row.missing m p) admits.holds
missing_fails {row} {repeated = false} {m} {p} admits = fail_later (row.by_team m p) (row.missing m p) (all_fail (book_tests false row m p) admits.holds)

pub by_team_fails : {row : Row} {repeated : Bool} {m : ℕ} {p : Past} → BookAdmits row repeated m p → repeated ≡ false → AllFail (row.by_team m p)
by_team_fails {row} {repeated = true} {m} {p} admits once = absurd (cc)
by_team_fails {row} {repeated = false} {m} {p} admits once = fail_first (row.by_team m p) (row.missing m p) (all_fail (book_tests false row m p) admits.holds)

pub leaving_fails : {row : Row} {repeated : Bool} {m : ℕ} {p : Past} → IsAdmitted row repeated m p → AllFail (leaving_tests repeated row m p)
leaving_fails {row} {repeated} {m} {p} admitted = all_fail (leaving_tests repeated row m p) admitted.leaving

pub drained_fails : {row : Row} {repeated : Bool} {m : ℕ} {p : Past} → IsAdmitted row repeated m p → repeated ≡ false → AllFail (drain_tests row.drains m p.events)
drained_fails {row} {repeated} {m} {p} admitted once = all_fail (drain_tests row.drains m p.events) (admitted.drained once)

-- A call is admitted if no test holds

unless_given : (gives_up : Bool) (tests : List Test) → AllFail (unless_given_up gives_up tests) → gives_up ≡ false → AllFail tests
unless_given true tests fail stays = absurd (cc)
unless_given false tests fail stays = fail

-- one that is made
pub unrefused_is_admitted : (row : Row) (m : ℕ) (p : Past) → AllFail (row_tests false row m p) → IsAdmitted row false m p
unrefused_is_admitted row m p fail =
    let by_place = row.by_place p.terms.limits (seen_of m p.events) in
    let place = unless_given_up (row.gives_up m p.events) by_place in
    let drained = drain_tests row.drains m p.events in
    let later = fail_later (leaving_tests false row m p) (place_tests false row m p ++ (board_tests false row m p ++ book_tests false row m p)) fail in
    let there = fail_first (place_tests false row m p) (board_tests false row m p ++ book_tests false row m p) later in
    let rest = fail_later (place_tests false row m p) (board_tests false row m p ++ book_tests false row m p) later in
    let behind = fail_later place (drained ++ row.compared false m p) there in record {
      leaving = none_holds (leaving_tests false row m p) (fail_first (leaving_tests false row m p) (place_tests false row m p ++ (board_tests false row m p ++ book_tests false row m p)) fail);
      drained = λ once. none_holds drained (fail_first drained (row.compared false m p) behind);
      parts = record {
        place = λ shown stays. none_holds by_place (unless_given (row.gives_up m p.events) by_place (fail_first place (drained ++ row.compared false m p) there) stays);
        compared = none_holds (row.compared false m p) (fail_later drained (row.compared false m p) behind);
        tasks = none_holds (board_tests false row m p) (fail_first (board_tests false row m p) (book_tests false row m p) rest);
        waits = λ again. absurd (cc);
      };
      book = record {
        holds = none_holds (book_tests false row m p) (fail_later (board_tests false row m p) (book_tests false row m p) rest);
        lasting = λ again. absurd (cc);
        waits = λ again. absurd (cc);
      };
    }

stays_shown : (stays : Bool) → in_place stays true ≡ true → stays ≡ true
stays_shown true e = refl
stays_shown false e = absurd (cc)

-- one that is repeated, if it may go on, its place is tested still where it stays, and its task does not hold what it waits for
pub unrefused_repeat_is_admitted : (row : Row) (m : ℕ) (p : Past) → AllFail (row_tests true row m p) → MayGoOn row m → (row.stays ≡ true → AllFail (row.by_place p.terms.limits (seen_of m p.events))) →
    ((key : Key) → row.holds ≡ Some key → held_by (asker m p.events) (holder key p.events) ≡ false) → IsAdmitted row true m p
unrefused_repeat_is_admitted row m p fail goes place apart = record {
  leaving = refl;
  drained = λ once. absurd (cc);
  parts = record {
    place = λ shown stays. none_holds (row.by_place p.terms.limits (seen_of m p.events)) (place (stays_shown row.stays shown));
    compared = none_holds (row.compared true m p) (fail_first (row.compared true m p) (row.missing m p) fail);
    tasks = refl;
    waits = λ again. goes;
  };
  book = record {
    holds = none_holds (row.missing m p) (fail_later (row.compared true m p) (row.missing m p) fail);
    lasting = λ again. apart;
    waits = λ again. goes;
  };
}

-- And none holds of an admitted one

given_up_or_fails : (gives_up : Bool) (tests : List Test) → (gives_up ≡ false → AllFail tests) → AllFail (unless_given_up gives_up tests)
given_up_or_fails true tests fail = tt
given_up_or_fails false tests fail = fail refl

place_shown_once : (stays : Bool) → in_place stays false ≡ true
place_shown_once true = refl
place_shown_once false = refl

admitted_place_fails : (row : Row) (repeated : Bool) (m : ℕ) (p : Past) → IsAdmitted row repeated m p → AllFail (place_tests repeated row m p)
admitted_place_fails row true m p admitted = compared_fails admitted.parts
admitted_place_fails row false m p admitted =
    both_lists_fail (unless_given_up (row.gives_up m p.events) (row.by_place p.terms.limits (seen_of m p.events))) (drain_tests row.drains m p.events ++ row.compared false m p)
    (given_up_or_fails (row.gives_up m p.events) (row.by_place p.terms.limits (seen_of m p.events)) (λ stays. by_place_fails admitted.parts (place_shown_once row.stays) stays))
    (both_lists_fail (drain_tests row.drains m p.events) (row.compared false m p) (drained_fails admitted refl) (compared_fails admitted.parts))

pub admitted_is_unrefused : (row : Row) (repeated : Bool) (m : ℕ) (p : Past) → IsAdmitted row repeated m p → least (row_tests repeated row m p) ≡ None
admitted_is_unrefused row repeated m p admitted =
    let place = place_tests repeated row m p in
    let board = board_tests repeated row m p in
    let book = book_tests repeated row m p in
    none_holds (row_tests repeated row m p)
    (both_lists_fail (leaving_tests repeated row m p) (place ++ (board ++ book)) (leaving_fails admitted)
    (both_lists_fail place (board ++ book) (admitted_place_fails row repeated m p admitted) (both_lists_fail board book (all_fail board admitted.parts.tasks) (all_fail book admitted.book.holds))))

-- What is known beside of one that is repeated

-- its place is tested still where its member stays
pub never_repeated_out_of_place : (row : Row) (m : ℕ) (p : Past) → ServersAdmit row true m p → row.stays ≡ true → row.gives_up m p.events ≡ false → (refusal : Refusal) → least (row.by_place p.terms.limits (seen_of m p.events)) ≡ Some refusal → ⊥
never_repeated_out_of_place row m p admits stays given refusal refused =
    let none = admits.place (subst (λ (b : Bool). in_place b true ≡ true) (sym stays) refl) given in
    let both : None ≡ Some refusal = sym none ∙ refused in cc

-- its task does not hold what it waits for
pub never_repeated_by_its_holder : (row : Row) (m : ℕ) (p : Past) (key : Key) → BookAdmits row true m p → row.holds ≡ Some key → held_by (asker m p.events) (holder key p.events) ≡ true → ⊥
never_repeated_by_its_holder row m p key admits holds held = let both : false ≡ true = sym (admits.lasting refl key holds) ∙ held in cc

-- and it is a call that may go on
pub never_repeated_once_answered : (row : Row) (m : ℕ) → ((q : Past) (reply : Reply) → row.may_reply m q reply → goes_on reply ≡ false) → (p : Past) → (ServersAdmit row true m p → ⊥) × (BookAdmits row true m p → ⊥)
never_repeated_once_answered row m ends p = (λ parts. over (parts.waits refl), λ book. over (book.waits refl))
  where
    over : MayGoOn row m → ⊥
    over (q, reply, goes, may) = let both : false ≡ true = sym (ends q reply may) ∙ goes in cc
