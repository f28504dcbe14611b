-- The rows of the lock routines. OpenMP API 5.2, section 18.9.
use Rattle.std.specs.Prelude.{ℕ, true, List, [], ◌∷◌, ◌++◌, Option, Some, None, length, slice_set}
use Rattle.gomp_types.specs.declared.key.Key.TheVariants.{Lock, NestLock}
use Rattle.gomp_types.specs.declared.lock.LockKind.{LockKind}
use Rattle.gomp_types.specs.declared.lock.LockKind.TheVariants.{Simple, Nest}
use Rattle.gomp_types.specs.declared.reply.Reply.{Reply}
use Rattle.gomp_types.specs.declared.reply.Reply.TheVariants.{Finished, Lock as LockMade}
use Rattle.gomp_locks.specs.Locks.{init_tests, MakesLock, gone_tests, set_by_any_tests, set_by_own_tests, SetsLock, TestsLock, set_by_other_tests, count_tests, SetsNest, TestsNest, UnsetsNest}
use Rattle.gomp_locks.specs.Holders.{asker, found_lock, found_any_lock}
use Rattle.gomp_model.specs.Row.{Row, plain_row}
use Rattle.gomp_model.specs.CriticalNames.{is_held, reply_frees, held_once, freed_once}

-- Making and destroying

-- a lock of this kind is there behind the others, if one was made
abbrev pub with_made : LockKind → Reply → List (Option LockKind) → List (Option LockKind)
with_made kind (LockMade number) locks = locks ++ Some kind ∷ []
with_made kind _ locks = locks

-- a lock of this kind is made, which takes memory
abbrev pub init_row : LockKind → Row
init_row kind = record plain_row {
  by_team = λ m p. init_tests (length p.locks);
  makes = λ m p. true;
  may_reply = λ m p reply. MakesLock (length p.locks) reply;
  locks = λ reply locks. with_made kind reply locks;
}

-- the lock of this number is no more, if it was destroyed
abbrev pub without_lock : ℕ → Reply → List (Option LockKind) → List (Option LockKind)
without_lock number Finished locks = slice_set locks number None
without_lock number _ locks = locks

-- a lock of either kind is destroyed
abbrev pub destroy_row : ℕ → Row
destroy_row number = record plain_row {
  by_team = λ m p. set_by_any_tests (found_any_lock number p.locks p.events);
  missing = λ m p. gone_tests (found_any_lock number p.locks p.events);
  locks = λ reply locks. without_lock number reply locks;
}

-- Simple locks

abbrev pub set_row : ℕ → Row
set_row number = record plain_row {
  by_team = λ m p. set_by_own_tests (asker m p.events) (found_lock Simple number p.locks p.events);
  missing = λ m p. gone_tests (found_lock Simple number p.locks p.events);
  holds = Some (Lock number);
  may_reply = λ m p reply. SetsLock (found_lock Simple number p.locks p.events) reply;
  gives = λ m p reply. held_once (is_held reply) (Lock number) m p.events;
}

abbrev pub test_row : ℕ → Row
test_row number = record plain_row {
  missing = λ m p. gone_tests (found_lock Simple number p.locks p.events);
  holds = Some (Lock number);
  may_reply = λ m p reply. TestsLock (found_lock Simple number p.locks p.events) reply;
  gives = λ m p reply. held_once (is_held reply) (Lock number) m p.events;
}

abbrev pub unset_row : ℕ → Row
unset_row number = record plain_row {
  by_team = λ m p. set_by_other_tests (asker m p.events) (found_lock Simple number p.locks p.events);
  missing = λ m p. gone_tests (found_lock Simple number p.locks p.events);
  lets_leave = λ m h. true;
  holds = Some (Lock number);
  gives = λ m p reply. freed_once (reply_frees reply) (Lock number) m p.events;
}

-- Nestable locks

abbrev pub set_nest_row : ℕ → Row
set_nest_row number = record plain_row {
  by_team = λ m p. count_tests (asker m p.events) (found_lock Nest number p.locks p.events);
  missing = λ m p. gone_tests (found_lock Nest number p.locks p.events);
  holds = Some (NestLock number);
  may_reply = λ m p reply. SetsNest (asker m p.events) (found_lock Nest number p.locks p.events) reply;
  gives = λ m p reply. held_once (is_held reply) (NestLock number) m p.events;
}

abbrev pub test_nest_row : ℕ → Row
test_nest_row number = record plain_row {
  by_team = λ m p. count_tests (asker m p.events) (found_lock Nest number p.locks p.events);
  missing = λ m p. gone_tests (found_lock Nest number p.locks p.events);
  holds = Some (NestLock number);
  may_reply = λ m p reply. TestsNest (asker m p.events) (found_lock Nest number p.locks p.events) reply;
  gives = λ m p reply. held_once (is_held reply) (NestLock number) m p.events;
}

abbrev pub unset_nest_row : ℕ → Row
unset_nest_row number = record plain_row {
  by_team = λ m p. set_by_other_tests (asker m p.events) (found_lock Nest number p.locks p.events);
  missing = λ m p. gone_tests (found_lock Nest number p.locks p.events);
  lets_leave = λ m h. true;
  holds = Some (NestLock number);
  may_reply = λ m p reply. UnsetsNest (asker m p.events) (found_lock Nest number p.locks p.events) reply;
  gives = λ m p reply. freed_once (reply_frees reply) (NestLock number) m p.events;
}
