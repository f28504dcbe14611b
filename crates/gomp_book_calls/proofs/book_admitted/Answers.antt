use Rattle.std.proofs.Common.{◌≡◌, true, Some, refl, arith}
use Rattle.gomp_types.specs.declared.lock.LockKind.TheVariants.{Simple, Nest}
use Rattle.gomp_book_calls.specs.Stands.{IsKnown}
use Rattle.gomp_book_calls.proofs.BookLemmas.{as_many_locks}
use Rattle.gomp_book_calls.proofs.Served.{served_by_start, served_by_end, made_room, served_by_init, served_by_destroy, served_by_set, served_by_test, served_by_unset, served_by_set_nest, served_by_test_nest, served_by_unset_nest, set_nest_room, test_nest_room}
use Rattle.gomp_book_calls.proofs.book_admitted.Goals as goal

pub lock_init_admitted-requires : goal.lock_init_admitted-requires
lock_init_admitted-requires c =
    let (p, st, asks, rule, is) = c.requires.admitted in
    let room = made_room Simple c.args.repeated c.args.member p (rw c.in-LockInit.is at is) in
    let same = as_many_locks c.args.book.now p st in
    record { room = omega (arith, room, same) }

pub lock_init_admitted-requires-in-NestInit : goal.lock_init_admitted-requires-in-NestInit
lock_init_admitted-requires-in-NestInit c =
    let (p, st, asks, rule, is) = c.requires.admitted in
    let room = made_room Nest c.args.repeated c.args.member p (rw c.in-NestInit.is at is) in
    let same = as_many_locks c.args.book.now p st in
    record { room = omega (arith, room, same) }

pub returns-in-CriticalStart : goal.returns-in-CriticalStart
returns-in-CriticalStart c =
    let known : c.args.repeated ≡ true → IsKnown c.args.book.now (Some c.args.call.now) = c.requires.known in
    let book = rw c.owner_of-owner.ensures at c.critical_start_admitted.ensures.book in
    let before = rw c.in-CriticalStart.is at known in
    rw (c.in-CriticalStart.is, book) (served_by_start _ c.args.repeated c.args.member c.args.task c.args.book.now c.critical_start_admitted.result (λ again. before again _ refl) c.critical_start_admitted.ensures.answer c.critical_start_admitted.ensures.memory)

pub returns-in-CriticalEnd : goal.returns-in-CriticalEnd
returns-in-CriticalEnd c = rw (c.in-CriticalEnd.is, c.critical_end_admitted.ensures.book) (served_by_end _ c.args.repeated c.args.member c.args.task c.args.book.now c.critical_end_admitted.result c.critical_end_admitted.ensures.answer)

pub returns-in-LockInit : goal.returns-in-LockInit
returns-in-LockInit c =
    let (p, st, asks, rule, is) = c.requires.admitted in
    rw (c.in-LockInit.is, c.lock_init_admitted.ensures.book) (served_by_init Simple c.args.repeated c.args.member c.args.task c.args.book.now c.lock_init_admitted.result p (rw c.in-LockInit.is at is) c.lock_init_admitted.ensures.answer)

pub returns-in-NestInit : goal.returns-in-NestInit
returns-in-NestInit c =
    let (p, st, asks, rule, is) = c.requires.admitted in
    rw (c.in-NestInit.is, c.lock_init_admitted-in-NestInit.ensures.book) (served_by_init Nest c.args.repeated c.args.member c.args.task c.args.book.now c.lock_init_admitted-in-NestInit.result p (rw c.in-NestInit.is at is) c.lock_init_admitted-in-NestInit.ensures.answer)

pub returns-in-LockDestroy : goal.returns-in-LockDestroy
returns-in-LockDestroy c = rw (c.in-LockDestroy.is, c.lock_destroy_admitted.ensures.book) (served_by_destroy _ c.args.repeated c.args.member c.args.task c.args.book.now c.lock_destroy_admitted.result c.lock_destroy_admitted.ensures.answer)

pub returns-in-Set : goal.returns-in-Set
returns-in-Set c =
    let book = rw c.owner_of-owner.ensures at c.set_admitted.ensures.book in
    rw (c.in-Set.is, book) (served_by_set _ c.args.repeated c.args.member c.args.task c.args.book.now c.set_admitted.result c.set_admitted.ensures.answer)

pub returns-in-Test : goal.returns-in-Test
returns-in-Test c =
    let book = rw c.owner_of-owner.ensures at c.test_admitted.ensures.book in
    rw (c.in-Test.is, book) (served_by_test _ c.args.repeated c.args.member c.args.task c.args.book.now c.test_admitted.result c.test_admitted.ensures.answer)

pub returns-in-Unset : goal.returns-in-Unset
returns-in-Unset c = rw (c.in-Unset.is, c.unset_admitted.ensures.book) (served_by_unset _ c.args.repeated c.args.member c.args.task c.args.book.now c.unset_admitted.result c.unset_admitted.ensures.answer)

pub returns-in-SetNest : goal.returns-in-SetNest
returns-in-SetNest c =
    let book = rw c.owner_of-owner.ensures at c.set_nest_admitted.ensures.book in
    let answer = rw c.owner_of-owner.ensures at c.set_nest_admitted.ensures.answer in
    rw (c.in-SetNest.is, book) (served_by_set_nest _ c.args.repeated c.args.member c.args.task c.args.book.now c.set_nest_admitted.result answer)

pub returns-in-TestNest : goal.returns-in-TestNest
returns-in-TestNest c =
    let book = rw c.owner_of-owner.ensures at c.test_nest_admitted.ensures.book in
    let answer = rw c.owner_of-owner.ensures at c.test_nest_admitted.ensures.answer in
    rw (c.in-TestNest.is, book) (served_by_test_nest _ c.args.repeated c.args.member c.args.task c.args.book.now c.test_nest_admitted.result answer)

pub returns-in-UnsetNest : goal.returns-in-UnsetNest
returns-in-UnsetNest c =
    let book = rw c.owner_of-owner.ensures at c.unset_nest_admitted.ensures.book in
    let answer = rw c.owner_of-owner.ensures at c.unset_nest_admitted.ensures.answer in
    rw (c.in-UnsetNest.is, book) (served_by_unset_nest _ c.args.repeated c.args.member c.args.task c.args.book.now c.unset_nest_admitted.result answer)

pub set_nest_admitted-requires-clause-room : goal.set_nest_admitted-requires-clause-room
set_nest_admitted-requires-clause-room c =
    let (p, st, asks, rule, is) = c.requires.admitted in
    rw c.owner_of-owner.ensures (set_nest_room _ c.args.repeated c.args.member c.args.task c.args.book.now p st asks (rw c.in-SetNest.is at is))

pub test_nest_admitted-requires-clause-room : goal.test_nest_admitted-requires-clause-room
test_nest_admitted-requires-clause-room c =
    let (p, st, asks, rule, is) = c.requires.admitted in
    rw c.owner_of-owner.ensures (test_nest_room _ c.args.repeated c.args.member c.args.task c.args.book.now p st asks (rw c.in-TestNest.is at is))
